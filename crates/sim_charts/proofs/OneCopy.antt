-- One copy of an instruction.
use Rattle.std.proofs.Common.{◌≡◌, ℕ, zero, suc, ◌+◌, ◌<◌, ◌≤◌, Bool, false, [], ◌∷◌, Ok, refl, sym, ap, ◌∙◌, subst, arith}
use Rattle.std.specs.Prelude.{◌==◌, not}
use Rattle.std.proofs.lemmas.Bool.{ne_eqb}
use Rattle.mark_word.specs.Words.{plain}
use Rattle.thumb_instr.specs.Blocks.{it_after}
use Rattle.thumb_table.specs.Effects.{change, writing}
use Rattle.thumb_table.specs.States.{Core, State, at, read, applied}
use Rattle.thumb_table.specs.Steps.{move, goes_on}
use Rattle.thumb_table.specs.Schedules.{run}
use Rattle.seq_core.specs.Meanings.{meant, nowhere}
use Rattle.seq_core.specs.Does.{Legal, SameBut, Passes, never}
use Rattle.sim_charts.specs.Example.{plain_code, moving, nothing_lost, core_of, end_word, OneCopyIsRefused, OneCopyDoesOnce}
use Rattle.sim_charts.proofs.Standing.{half, m_4674}
use Rattle.seq_core.proofs.Copies.{makes, first_step}
use Rattle.sim_charts.proofs.ExampleRun.{ok_is}
use Rattle.sim_charts.proofs.ExampleUnits.{change_is, move_change, same_self}

-- the schedule that skips the first step
abbrev first_skipped : ℕ → Bool
first_skipped i = i == 0

is_legal : Legal 2 first_skipped
is_legal zero = (1, omega arith, refl)
is_legal (suc i) = (0, omega arith, ne_eqb (suc i + 0) 0 (omega arith))

abbrev begun : Core
begun = core_of 0 (plain 0) end_word

skipped : (n : ℕ) → n ≤ 1 → (z : Core) → run plain_code first_skipped n 0 (at 0x8000 begun) ≡ Ok (at 0x8002 z) → z ≡ begun
skipped zero le z e =
    let s : at 0x8000 begun ≡ at 0x8002 z = cc in
    let p : ◌≡◌ {A = ℕ} 0x8000 0x8002 = ap (λ (q : State). q.pc) s in
    absurd (omega arith)
skipped (suc zero) le z e = ap (λ (s : State). s.core) (ok_is (at 0x8002 z) (at 0x8002 begun) (run plain_code first_skipped 1 0 (at 0x8000 begun)) e refl)
skipped (suc (suc n)) le z e = absurd (omega arith)

pub one_copy_is_refused : OneCopyIsRefused
unfolding meant change
one_copy_is_refused ends works =
    let r = (works first_skipped is_legal 0).acts begun (writing ((4, end_word) ∷ [])) (record { count = refl; clear = refl }) refl refl in
    let same : r.0 ≡ begun = skipped r.1.steps r.1.within r.0 r.1.runs in
    let bits : 0x7FFFFFFF ≡ (read r.0 4).bits = (r.2.members 4 refl).word (omega arith) in
    let zero_bits : ◌≡◌ {A = ℕ} 0x7FFFFFFF 0 = bits ∙ ap (λ (z : Core). (read z 4).bits) same in
    omega arith

pub one_copy_does_once : OneCopyDoesOnce
unfolding meant
one_copy_does_once ends = record {
  acts = λ y h b t made.
      let k_is : writing ((4, read y 14) ∷ []) ≡ h = change_is _ _ _ (move_change 4 14 nowhere y refl) made in
      let z : Core = applied (writing ((4, read y 14) ∷ [])) y in
      let iz : z.it ≡ 0 = ap it_after b.clear in
      let moved : move plain_code false (at 0x8000 y) ≡ Ok (at 0x8002 z) = makes plain_code (half 0x4674) (moving 4 14) 0x8000 y (writing ((4, read y 14) ∷ [])) b.clear m_4674 (move_change 4 14 _ y refl) in
      subst (λ q. (z : Core) × Passes plain_code (λ a. not (a == 0x8000)) 1 (at 0x8000 y) (at (goes_on 0x8002 q.exit) z) × SameBut nothing_lost (applied q y) z) k_is (
        z,
        record { steps = 1; within = omega arith; runs = first_step plain_code never 0 0 (at 0x8000 y) (at 0x8002 z) false refl moved; inside = λ j u lt e. inside y j u lt e },
        same_self z iz,
      );
  rests = λ y b t. absurd cc;
  halts = λ y b t made. let w = sym (move_change 4 14 nowhere y refl) ∙ made in absurd cc;
}
  where
    inside : (y : Core) (j : ℕ) (u : State) → j < 1 → run plain_code never j 0 (at 0x8000 y) ≡ Ok u → not (u.pc == 0x8000) ≡ false
    inside y zero u lt e = let same : at 0x8000 y ≡ u = cc in ap (λ (s : State). not (s.pc == 0x8000)) (sym same)
    inside y (suc j) u lt e = absurd (omega arith)
