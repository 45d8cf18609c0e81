-- The drawn instructions change r0, r1, r2 and flags alone, and use numbers as numbers.
use Rattle.std.proofs.Common.{◌≡◌, ℕ, zero, suc, ◌*◌, ◌<◌, true, false, List, [], ◌∷◌, Ok, refl, arith}
use Rattle.std.specs.Prelude.{All, ◌==◌, bit_xor, get_or}
use Rattle.std.proofs.lemmas.List.Elements.{All-nil, All-cons}
use Rattle.mark_word.specs.declared.numbers.Shift.TheVariants.{Lsl}
use Rattle.mark_word.specs.Words.{Word, Cell}
use Rattle.mark_word.specs.Formulas.{add_flags, shift_c}
use Rattle.thumb_instr.specs.declared.instructions.Instr.{Instr}
use Rattle.thumb_table.specs.States.{Core, at, Site, read}
use Rattle.thumb_table.specs.Values.{wrapped, inverted, is_negative}
use Rattle.thumb_table.specs.Effects.{change}
use Rattle.thumb_table.specs.Ordinary.{IsPlain, IsLow, IsOrdinaryUse}
use Rattle.thumb_table.specs.Steps.{settled}
use Rattle.gen_flow.specs.GeneratedCode.{pushes, worked}
use Rattle.gen_image.specs.GeneratedImages.{linked, width_of}
use Rattle.gen_runs.proofs.Standing.{Numbers, core}

pub record Works (i : Instr) (w : Numbers) : Type 0 where
  pub after : Numbers
  pub narrow : width_of i ≡ 2
  pub changes : (site : Site) (next sp : ℕ) (lr : Word) (cells : List Cell) → settled next (core w sp lr cells) (change i site (core w sp lr cells)) ≡ Ok (at next (core after sp lr cells))
  pub ordinary : (site : Site) (sp : ℕ) (lr : Word) (cells : List Cell) → IsOrdinaryUse i site (core w sp lr cells)

abbrev AllPlain : Core → List ℕ → Type 0
AllPlain x rs = All (λ r. IsPlain (read x r).mark) rs

none_used : (x : Core) → AllPlain x []
none_used x = All-nil (λ r. IsPlain (read x r).mark)

one_used : (x : Core) (r : ℕ) → IsPlain (read x r).mark → AllPlain x (r ∷ [])
one_used x r e = All-cons (λ r. IsPlain (read x r).mark) r [] e (none_used x)

two_used : (x : Core) (r k : ℕ) → IsPlain (read x r).mark → IsPlain (read x k).mark → AllPlain x (r ∷ k ∷ [])
two_used x r k e f = All-cons (λ r. IsPlain (read x r).mark) r (k ∷ []) e (one_used x k f)

not_low : (x : Core) (r : ℕ) → IsPlain (read x r).mark → All (λ r. IsLow (read x r).mark → ⊥) (r ∷ [])
not_low x r e = All-cons (λ r. IsLow (read x r).mark → ⊥) r [] (λ low. let other = low.1 in absurd cc) (All-nil (λ r. IsLow (read x r).mark → ⊥))

none_low : (x : Core) → All (λ r. IsLow (read x r).mark → ⊥) []
none_low x = All-nil (λ r. IsLow (read x r).mark → ⊥)

pub drawn_works : (k : ℕ) (w : Numbers) → k < 8 → Works (linked (get_or worked k pushes)) w
unfolding change
-- adds r0, #1
drawn_works zero w lt = record {
  after = let s = add_flags w.r0 1 false in record w { r0 = s.value; n = is_negative s.value; z = s.value == 0; c = s.carry; v = s.overflow };
  narrow = refl;
  changes = λ site next sp lr cells. refl;
  ordinary = λ site sp lr cells. record { numbers = one_used (core w sp lr cells) 0 refl; proper = tt };
}
-- movs r1, #7
drawn_works (suc zero) w lt = record {
  after = record w { r1 = 7; n = false; z = false };
  narrow = refl;
  changes = λ site next sp lr cells. refl;
  ordinary = λ site sp lr cells. record { numbers = none_used (core w sp lr cells); proper = λ s. none_low (core w sp lr cells) };
}
-- muls r0, r1, r0
drawn_works (suc (suc zero)) w lt = record {
  after = let p = wrapped (w.r1 * w.r0) in record w { r0 = p; n = is_negative p; z = p == 0 };
  narrow = refl;
  changes = λ site next sp lr cells. refl;
  ordinary = λ site sp lr cells. record { numbers = two_used (core w sp lr cells) 1 0 refl refl; proper = tt };
}
-- eors r0, r1
drawn_works (suc (suc (suc zero))) w lt = record {
  after = let p = bit_xor w.r0 w.r1 in record w { r0 = p; n = is_negative p; z = p == 0 };
  narrow = refl;
  changes = λ site next sp lr cells. refl;
  ordinary = λ site sp lr cells. record { numbers = two_used (core w sp lr cells) 0 1 refl refl; proper = tt };
}
-- lsls r2, r0, #3
drawn_works (suc (suc (suc (suc zero)))) w lt = record {
  after = let s = shift_c w.r0 Lsl 3 w.c in record w { r2 = s.value; n = is_negative s.value; z = s.value == 0; c = s.carry };
  narrow = refl;
  changes = λ site next sp lr cells. refl;
  ordinary = λ site sp lr cells. record { numbers = one_used (core w sp lr cells) 0 refl; proper = λ s. not_low (core w sp lr cells) 0 refl };
}
-- adds r0, r0, r2
drawn_works (suc (suc (suc (suc (suc zero))))) w lt = record {
  after = let s = add_flags w.r0 w.r2 false in record w { r0 = s.value; n = is_negative s.value; z = s.value == 0; c = s.carry; v = s.overflow };
  narrow = refl;
  changes = λ site next sp lr cells. refl;
  ordinary = λ site sp lr cells. record { numbers = two_used (core w sp lr cells) 0 2 refl refl; proper = tt };
}
-- rsbs r0, r0, #0
drawn_works (suc (suc (suc (suc (suc (suc zero)))))) w lt = record {
  after = let s = add_flags (inverted w.r0) 0 true in record w { r0 = s.value; n = is_negative s.value; z = s.value == 0; c = s.carry; v = s.overflow };
  narrow = refl;
  changes = λ site next sp lr cells. refl;
  ordinary = λ site sp lr cells. record { numbers = one_used (core w sp lr cells) 0 refl; proper = tt };
}
-- mvns r2, r1
drawn_works (suc (suc (suc (suc (suc (suc (suc zero))))))) w lt = record {
  after = let p = inverted w.r1 in record w { r2 = p; n = is_negative p; z = p == 0 };
  narrow = refl;
  changes = λ site next sp lr cells. refl;
  ordinary = λ site sp lr cells. record { numbers = one_used (core w sp lr cells) 1 refl; proper = λ s. not_low (core w sp lr cells) 1 refl };
}
drawn_works (suc (suc (suc (suc (suc (suc (suc (suc k)))))))) w lt = absurd (omega arith)
