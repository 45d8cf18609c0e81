use Rattle.std.proofs.Common.{◌≡◌, ap, ◌∙◌, Bool, cond, true, false, refl}
use Rattle.std.specs.Prelude.{◌||◌}
use Rattle.std.specs.BTreeSet.{contains}
use Rattle.code_ranges.specs.Spans.{place_cmp}
use Rattle.code_ranges.proofs.PlaceOrder.{same_place}
use Rattle.flat_link.proofs.starts.note_place.Goals as goal

cond_or : (a b : Bool) → cond a true b ≡ (a || b)
cond_or true b = refl
cond_or false b = refl

pub returns : goal.returns
returns c = λ j x.
    c.in_ok-insert.ensures.updates.0 (j, x)
    ∙ ap (λ (b : Bool). cond b true (contains place_cmp c.args.places.now (j, x))) (same_place c.args.section c.args.offset j x)
    ∙ cond_or _ (contains place_cmp c.args.places.now (j, x))
