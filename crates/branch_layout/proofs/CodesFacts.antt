-- The codes of the first copies of a unit.
use Rattle.std.proofs.Common.{◌≡◌, ◌<◌, ℕ, ◌+◌, List, [], ◌∷◌, ◌++◌, length, get_or, refl, sym, ap, ◌∙◌, subst, arith, inl, inr, Some}
use Rattle.std.specs.Prelude.{slice_get}
use Rattle.std.proofs.lemmas.List.{length-append}
use Rattle.std.proofs.lemmas.Option.{none-some, same_Some, slice_get_read, slice_get-get_or}
use Rattle.thumb_encode.specs.declared.codes.Width.{Width}
use Rattle.thumb_encode.specs.declared.codes.Width.TheVariants.{Half}
use Rattle.thumb_encode.specs.declared.codes.Code.{Code}
use Rattle.seq_core.specs.declared.steps.Step.{Step}
use Rattle.seq_core.specs.declared.units.Unit.{Unit as SeqUnit}
use Rattle.hardened_form.specs.Places.{Places}
use Rattle.branch_layout.specs.Copies.{copies_of, bytes_of, bytes_before}
use Rattle.branch_layout.specs.Placings.{Stretch}
use Rattle.branch_layout.specs.Goals.{placed_instr}
use Rattle.branch_layout.specs.Layouts.{IsFirstCode, AreCodes}
use Rattle.branch_layout.specs.Coding.{offset_of, IsCopy}
use Rattle.branch_layout.proofs.Lists.{get_push_cases}
use Rattle.branch_layout.proofs.ReachFacts.{bytes_next}

pub record CodesUpTo (p : Places) (u : SeqUnit) (s : Stretch) (k at : ℕ) (codes : List Code) : Type 0 where
  pub at_is : at ≡ offset_of s k
  pub count : length codes ≡ k
  pub each : (i : ℕ) (t : Step) (w : Width) (c : Code) → IsCopy u s i t w → slice_get codes i ≡ Some c → IsFirstCode (placed_instr p u s.place (offset_of s i) t) w c

pub codes_none : (p : Places) (u : SeqUnit) (s : Stretch) → CodesUpTo p u s 0 s.place.start []
codes_none p u s = record { at_is = let none : bytes_before s.widths 0 ≡ 0 = refl in omega arith; count = refl; each = λ i t w c copy e. absurd (none-some c e) }

module _ (p : Places) (u : SeqUnit) (s : Stretch) (k at : ℕ) (codes : List Code) (upto : CodesUpTo p u s k at codes) (t : Step) (w : Width) (c : Code) (copy : IsCopy u s k t w) where
  newest : IsFirstCode (placed_instr p u s.place at t) w c → (i : ℕ) (v : Step) (x : Width) (d : Code) → IsCopy u s i v x → i ≡ length codes → c ≡ d → IsFirstCode (placed_instr p u s.place (offset_of s i) v) x d
  newest first i v x d other last same =
      let here : i ≡ k = last ∙ upto.count in
      let step : t ≡ v = same_Some t v (sym copy.step ∙ ap (slice_get (copies_of u.seq.steps)) (sym here) ∙ other.step) in
      let width : w ≡ x = same_Some w x (sym copy.width ∙ ap (slice_get s.widths) (sym here) ∙ other.width) in
      let place : at ≡ offset_of s i = upto.at_is ∙ ap (offset_of s) (sym here) in
      subst (λ (y : ℕ). IsFirstCode (placed_instr p u s.place y v) x d) place
      (subst (λ (y : Step). IsFirstCode (placed_instr p u s.place at y) x d) step (subst (λ (y : Width). IsFirstCode (placed_instr p u s.place at t) y d) width (subst (IsFirstCode (placed_instr p u s.place at t) w) same first)))

  pub codes_more : IsFirstCode (placed_instr p u s.place at t) w c → CodesUpTo p u s (k + 1) (at + bytes_of w) (codes ++ c ∷ [])
  codes_more first = record {
    at_is = let e = upto.at_is in let f = bytes_next s.widths k w copy.width in omega arith;
    count = length-append codes (c ∷ []) ∙ ap (λ (n : ℕ). n + 1) upto.count;
    each = λ i v x d other e. elim (get_push_cases codes c d i e) [ inl old ↦ upto.each i v x d other old | inr new ↦ newest first i v x d other new.0 new.1 ];
  }

pub all_codes : (p : Places) (u : SeqUnit) (s : Stretch) (k at : ℕ) (codes : List Code) → CodesUpTo p u s k at codes → k ≡ length (copies_of u.seq.steps) → AreCodes p u s codes
all_codes p u s k at codes upto end = record { count = upto.count ∙ end; each = λ i t w c step width code. upto.each i t w c (record { step = step; width = width }) code }

-- A copy by its index, in lists that are those of a unit and of its stretch.
pub copy_here : (u : SeqUnit) (s : Stretch) (copies : List Step) (widths : List Width) (k : ℕ) (t : Step) → copies ≡ copies_of u.seq.steps → widths ≡ s.widths → length s.widths ≡ length (copies_of u.seq.steps)
    → k < length copies → t ≡ get_or copies k t → IsCopy u s k t (get_or widths k Half)
copy_here u s copies widths k t all same count lt is =
    let many : length copies ≡ length (copies_of u.seq.steps) = ap length all in
    let wide : length widths ≡ length s.widths = ap length same in
    record {
      step = subst (λ (l : List Step). slice_get l k ≡ Some t) all (slice_get_read copies (length copies) k t refl lt is);
      width = subst (λ (l : List Width). slice_get l k ≡ Some (get_or widths k Half)) same (slice_get-get_or widths k Half (omega arith));
    }
