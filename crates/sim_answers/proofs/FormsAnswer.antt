-- Lists of objects and of their forms answer each other.
use Rattle.std.specs.Prelude.{◌≡◌, ℕ, suc, Bool, true, List, [], ◌∷◌, length, Some, slice_get, refl}
use Rattle.std.specs.List.{list_all}
use Rattle.std.proofs.Common.{arith, sym, subst}
use Rattle.std.proofs.lemmas.Bool.{and_from}
use Rattle.std.proofs.lemmas.Option.{slice_get_within}
use Rattle.elf_model.specs.Objects.{ObjectParts, is_object}
use Rattle.elf_model.proofs.Elements.{element_at}
use Rattle.sim_images.specs.Counterparts.{SymbolsAnswer, PlacesInside, DataAnswers, RelocsAnswer}
use Rattle.sim_answers.specs.Forms.{FormsAnswer}
use Rattle.sim_answers.proofs.Accepted.{flows_are_accepted}
use Rattle.sim_answers.proofs.SectionsStay.{sections_stay}
use Rattle.sim_answers.proofs.SymbolsStay.{symbols_stay}
use Rattle.sim_answers.proofs.PointPlaces.{points_have_places}
use Rattle.sim_answers.proofs.DataAnswered.{data_answered}
use Rattle.sim_answers.proofs.RightRelocs.{relocs_are_right}

each_passes : {X : Type 0} (t : X → Bool) (xs : List X) → ((i : ℕ) (x : X) → slice_get xs i ≡ Some x → t x ≡ true) → list_all t xs ≡ true
each_passes t [] all = refl
each_passes t (x ∷ xs) all = and_from (t x) (list_all t xs) (all 0 x refl) (each_passes t xs (λ i y e. all (suc i) y e))

pub forms_answer : FormsAnswer
forms_answer ins outs moved count forms = record {
  plain = each_passes is_object ins (λ i o there. let h = other ins outs i o (sym count) there in (forms i o h.0 there h.1).form.plain);
  hard = each_passes is_object outs (λ i h here. let o = other outs ins i h count here in (forms i o.0 h o.1 here).form.hard);
  answers = record {
    count = count;
    sections = λ i o h there here. let a = forms i o h there here in sections_stay o h a.flow a.places a.carriers a.form;
    symbols = λ i o h there here. let a = forms i o h there here in subst (SymbolsAnswer o h) a.moves (symbols_stay o h a.flow a.places a.carriers a.form);
    places = λ i o h there here. let a = forms i o h there here in subst (PlacesInside o h) a.moves (points_have_places o h a.flow a.places a.carriers a.form);
  };
  accepted = λ i o there. let h = other ins outs i o (sym count) there in let a = forms i o h.0 there h.1 in flows_are_accepted o a.flow a.form.flow;
  data_words = λ i o h there here. let a = forms i o h there here in subst (DataAnswers o h) a.moves (data_answered o h a.flow a.places a.carriers a.form);
  relocs = λ i o h there here. let a = forms i o h there here in subst (RelocsAnswer o h) a.moves (relocs_are_right o h a.flow a.places a.carriers a.form);
}
  where
    other : (xs ys : List ObjectParts) (i : ℕ) (x : ObjectParts) → length xs ≡ length ys → slice_get xs i ≡ Some x → (y : ObjectParts) × (slice_get ys i ≡ Some y)
    other xs ys i x e at = let l = slice_get_within xs i x at in element_at ys i (omega (arith, l, e))
