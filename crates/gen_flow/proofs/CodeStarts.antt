-- Where instructions start in the generated code: exactly where one of its functions stands there.
use Rattle.std.proofs.Common.{◌≡◌, ℕ, zero, suc, ◌+◌, ◌*◌, ◌<◌, ◌≤◌, true, false, length, refl, sym, ap, ◌∙◌, subst, inl, inr, ◌⊎◌, arith, cond}
use Rattle.std.proofs.lemmas.Bool.{cases_order, true≢false}
use Rattle.elf_model.specs.Ranges.{IsStart, length_at}
use Rattle.elf_model.specs.Ranges.IsStart.{first as begins, next as follows}
use Rattle.thumb_instr.specs.declared.instructions.Instr.{Instr}
use Rattle.skip_machine.specs.Draws.{draws}
use Rattle.reloc_places.specs.Relocations.{is_bl}
use Rattle.reloc_places.proofs.StartFacts.{starts_in_range}
use Rattle.flow_recover.specs.Reach.{falls}
use Rattle.gen_object.specs.Generated.{code_bytes}
use Rattle.gen_flow.specs.GeneratedCode.{pushes, returns, calls, drawn_instr, StandsAt}
use Rattle.gen_flow.specs.GeneratedCode.StandsAt.{first, work, next, back, last}
use Rattle.gen_flow.proofs.CodeInstrs.{drawn_no_call, size_of}
use Rattle.gen_flow.proofs.CodeLengths.{code_length}

module _ (seed count : ℕ) (some : 1 ≤ count) where
  -- a function calls the next one, or is the last
  pub calls_or_last : (k : ℕ) → k < count → (k + 1 < count) ⊎ (k + 1 ≡ count)
  calls_or_last k few =
      elim (cases_order (k + 1) count) [
        | inl e ↦ inr e
        | inr w ↦ elim w [
          | inl l ↦ inl l
          | inr l ↦ absurd (omega arith)
        ]
      ]

  tail_stands : (k : ℕ) → k < count → (i : Instr) × StandsAt seed count (14 * k + 8) i
  tail_stands k few =
      elim (calls_or_last k few) [
        | inl more ↦ (calls, next k more refl refl)
        | inr is ↦ (returns, last k is refl refl)
      ]

  two : (x : ℕ) (i j : Instr) → StandsAt seed count x i → i ≡ j → is_bl j ≡ false → length_at (code_bytes seed count) x ≡ 2
  two x i j h same none = size_of seed count x i h ∙ ap (λ (k : Instr). cond (is_bl k) 4 2) same ∙ ap (λ b. cond b 4 2) none

  four : (x : ℕ) (i : Instr) → StandsAt seed count x i → i ≡ calls → length_at (code_bytes seed count) x ≡ 4
  four x i h same = size_of seed count x i h ∙ ap (λ (k : Instr). cond (is_bl k) 4 2) same

  -- behind each instruction stands another one, or the code ends
  pub stands_whole : (x : ℕ) (i : Instr) → StandsAt seed count x i → x + length_at (code_bytes seed count) x ≤ length (code_bytes seed count)
  stands_whole x i (first k few place same) = omega (arith, two x i pushes (first k few place same) same refl, code_length seed count some)
  stands_whole x i (work k j few low place same) =
      let d = draws (draws seed (3 * k)) (j + 1) in
      omega (arith, two x i (drawn_instr d) (work k j few low place same) same (drawn_no_call d), code_length seed count some)
  stands_whole x i (next k more place same) = omega (arith, four x i (next k more place same) same, code_length seed count some)
  stands_whole x i (back k more place same) = omega (arith, two x i returns (back k more place same) same refl, code_length seed count some)
  stands_whole x i (last k is place same) = omega (arith, two x i returns (last k is place same) same refl, code_length seed count some)

  stands_moved : (x y : ℕ) → x ≡ y → (i : Instr) × StandsAt seed count x i → (i : Instr) × StandsAt seed count y i
  stands_moved x y e h = subst (λ (a : ℕ). (i : Instr) × StandsAt seed count a i) e h

  pub behind_stands : (x : ℕ) (i : Instr) → StandsAt seed count x i → x + length_at (code_bytes seed count) x < length (code_bytes seed count)
      → (j : Instr) × StandsAt seed count (x + length_at (code_bytes seed count) x) j
  behind_stands x i (first k few place same) more =
      let size = two x i pushes (first k few place same) same refl in
      (drawn_instr (draws (draws seed (3 * k)) 1), work k 0 few (omega arith) (omega arith) refl)
  behind_stands x i (work k j few low place same) more =
      let d = draws (draws seed (3 * k)) (j + 1) in
      let size = two x i (drawn_instr d) (work k j few low place same) same (drawn_no_call d) in
      elim (cases_order j 2) [
        | inl e ↦ stands_moved (14 * k + 8) (x + length_at (code_bytes seed count) x) (omega arith) (tail_stands k few)
        | inr w ↦ elim w [
          | inl l ↦ (drawn_instr (draws (draws seed (3 * k)) ((j + 1) + 1)), work k (j + 1) few (omega arith) (omega arith) refl)
          | inr l ↦ absurd (omega arith)
        ]
      ]
  behind_stands x i (next k called place same) more =
      let size = four x i (next k called place same) same in
      (returns, back k called (omega arith) refl)
  behind_stands x i (back k called place same) more =
      let size = two x i returns (back k called place same) same refl in
      (pushes, first (k + 1) called (omega arith) refl)
  behind_stands x i (last k is place same) more =
      let size = two x i returns (last k is place same) same refl in
      let long = code_length seed count some in
      absurd (omega arith)

  pub start_stands : (x : ℕ) → IsStart (code_bytes seed count) 0 (length (code_bytes seed count)) x → (i : Instr) × StandsAt seed count x i
  start_stands _ (begins h) = (pushes, first 0 (omega arith) refl refl)
  start_stands _ (follows y s h) = let found = start_stands y s in behind_stands y found.0 found.1 h

  abbrev Starts : ℕ → Type 0
  Starts x = IsStart (code_bytes seed count) 0 (length (code_bytes seed count)) x

  step : (y x w : ℕ) → Starts y → length_at (code_bytes seed count) y ≡ w → x ≡ y + w → x < length (code_bytes seed count) → Starts x
  step y x w s size place low =
      let same : y + length_at (code_bytes seed count) y ≡ x = omega arith in
      subst (λ (a : ℕ). Starts a) same (follows y s (omega arith))

  work_starts : (k j : ℕ) → k < count → j < 3 → Starts (14 * k) → Starts (14 * k + 2 * j + 2)
  work_starts k zero few low s =
      let long = code_length seed count some in
      step (14 * k) (14 * k + 2 * 0 + 2) 2 s (two (14 * k) pushes pushes (first k few refl refl) refl refl) (omega arith) (omega arith)
  work_starts k (suc j) few low s =
      let long = code_length seed count some in
      let d = draws (draws seed (3 * k)) (j + 1) in
      step (14 * k + 2 * j + 2) (14 * k + 2 * suc j + 2) 2 (work_starts k j few (omega arith) s)
      (two (14 * k + 2 * j + 2) (drawn_instr d) (drawn_instr d) (work k j few (omega arith) refl refl) refl (drawn_no_call d)) (omega arith) (omega arith)

  tail_starts : (k : ℕ) → k < count → Starts (14 * k) → Starts (14 * k + 8)
  tail_starts k few s =
      let long = code_length seed count some in
      let d = draws (draws seed (3 * k)) 3 in
      step (14 * k + 2 * 2 + 2) (14 * k + 8) 2 (work_starts k 2 few (omega arith) s)
      (two (14 * k + 2 * 2 + 2) (drawn_instr d) (drawn_instr d) (work k 2 few (omega arith) refl refl) refl (drawn_no_call d)) (omega arith) (omega arith)

  back_starts : (k : ℕ) → k + 1 < count → Starts (14 * k) → Starts (14 * k + 12)
  back_starts k more s =
      let long = code_length seed count some in
      step (14 * k + 8) (14 * k + 12) 4 (tail_starts k (omega arith) s) (four (14 * k + 8) calls (next k more refl refl) refl) (omega arith) (omega arith)

  pub function_starts : (k : ℕ) → k < count → Starts (14 * k)
  function_starts zero few = let long = code_length seed count some in begins (omega arith)
  function_starts (suc k) few =
      let long = code_length seed count some in
      step (14 * k + 12) (14 * suc k) 2 (back_starts k (omega arith) (function_starts k (omega arith)))
      (two (14 * k + 12) returns returns (back k (omega arith) refl refl) refl refl) (omega arith) (omega arith)

  pub stands_start : (x : ℕ) (i : Instr) → StandsAt seed count x i → IsStart (code_bytes seed count) 0 (length (code_bytes seed count)) x
  stands_start x i (first k few place same) = subst (λ (a : ℕ). Starts a) (sym place) (function_starts k few)
  stands_start x i (work k j few low place same) = subst (λ (a : ℕ). Starts a) (sym place) (work_starts k j few low (function_starts k few))
  stands_start x i (next k more place same) = subst (λ (a : ℕ). Starts a) (sym place) (tail_starts k (omega arith) (function_starts k (omega arith)))
  stands_start x i (back k more place same) = subst (λ (a : ℕ). Starts a) (sym place) (back_starts k more (function_starts k (omega arith)))
  stands_start x i (last k is place same) = subst (λ (a : ℕ). Starts a) (sym place) (tail_starts k (omega arith) (function_starts k (omega arith)))

  -- where control may fall on, there is code
  pub falls_within : (x : ℕ) (i : Instr) → StandsAt seed count x i → falls i ≡ true → x + length_at (code_bytes seed count) x < length (code_bytes seed count)
  falls_within x i (first k few place same) on =
      let size = two x i pushes (first k few place same) same refl in
      let long = code_length seed count some in
      omega arith
  falls_within x i (work k j few low place same) on =
      let d = draws (draws seed (3 * k)) (j + 1) in
      let size = two x i (drawn_instr d) (work k j few low place same) same (drawn_no_call d) in
      let long = code_length seed count some in
      omega arith
  falls_within x i (next k more place same) on = absurd (true≢false (sym on ∙ ap falls same))
  falls_within x i (back k more place same) on = absurd (true≢false (sym on ∙ ap falls same))
  falls_within x i (last k is place same) on = absurd (true≢false (sym on ∙ ap falls same))

  -- Instructions stand apart.
  pub stands_apart : (x y : ℕ) (i j : Instr) → StandsAt seed count x i → StandsAt seed count y j → x < y → x + length_at (code_bytes seed count) x ≤ y
  stands_apart x y i j a b low = starts_in_range (code_bytes seed count) 0 (length (code_bytes seed count)) x y (stands_start x i a) (stands_start y j b) low
