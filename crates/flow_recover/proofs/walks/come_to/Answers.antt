use Rattle.std.proofs.Common.{◌≡◌, ◌∙◌, ℕ, List, Some, sym, ap, refl}
use Rattle.std.specs.Prelude.{slice_get}
use Rattle.std.proofs.lemmas.Option.{slice_get_within}
use Rattle.flow_recover.specs.Walks.CameTo.{no_start, put_there}
use Rattle.flow_recover.proofs.walks.come_to.Goals as goal

pub put-requires-clause-there : goal.put-requires-clause-there
put-requires-clause-there c =
    let at : slice_get c.args.walk.now.places.items c.in-Some-place_index.i ≡ Some (c.in-Some.m.section, c.in-Some.m.offset) = ap (λ (l : List (ℕ × ℕ)). slice_get l c.in-Some-place_index.i) (sym c.deref.ensures.value) ∙ (c.place_index.ensures c.in-Some-place_index.i).0 c.in-Some-place_index.is in
    slice_get_within c.args.walk.now.places.items c.in-Some-place_index.i (c.in-Some.m.section, c.in-Some.m.offset) at

pub returns-in-Some-place_index : goal.returns-in-Some-place_index
returns-in-Some-place_index c =
    let at : slice_get c.args.walk.now.places.items c.in-Some-place_index.i ≡ Some (c.in-Some.m.section, c.in-Some.m.offset) = ap (λ (l : List (ℕ × ℕ)). slice_get l c.in-Some-place_index.i) (sym c.deref.ensures.value) ∙ (c.place_index.ensures c.in-Some-place_index.i).0 c.in-Some-place_index.is in
    put_there c.in-Some.m c.in-Some-place_index.i c.in-Some.is at c.put.ensures

pub returns-in_default-place_index : goal.returns-in_default-place_index
returns-in_default-place_index c =
    no_start c.in-Some.m c.in-Some.is (λ i e. c.in_default-place_index.not-Some i ((c.place_index.ensures i).1 (ap (λ (l : List (ℕ × ℕ)). slice_get l i) c.deref.ensures.value ∙ e))) refl
