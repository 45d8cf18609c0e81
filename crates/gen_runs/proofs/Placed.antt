-- What stands where in the image of a generated object, and the steps from there.
use Rattle.std.proofs.Common.{◌≡◌, ◌≢◌, ℕ, suc, ◌+◌, ◌-◌, ◌*◌, ◌/◌, ◌%◌, ◌^◌, ◌<◌, inl, inr, List, Some, Ok, refl, sym, subst, arith}
use Rattle.std.specs.Prelude.{Contains, IsTrue}
use Rattle.mark_word.specs.Words.{Word, Cell}
use Rattle.thumb_instr.specs.declared.instructions.Instr.{Instr}
use Rattle.thumb_instr.specs.declared.refusals.ItPlace.TheVariants.{Outside}
use Rattle.thumb_instr.specs.Rows.{decode}
use Rattle.thumb_instr.specs.HalfRows.{half_rows}
use Rattle.thumb_table.specs.Parts.{CodeBytes, Image}
use Rattle.thumb_table.specs.States.{at}
use Rattle.thumb_table.specs.Effects.{lies, half_of}
use Rattle.thumb_table.specs.Ordinary.{IsNop, IsClear}
use Rattle.thumb_table.specs.Steps.{Fetched, fetch}
use Rattle.thumb_table.specs.Schedules.{exit}
use Rattle.thumb_table.proofs.StopLemmas.{clear_here}
use Rattle.skip_machine.specs.Draws.{draws}
use Rattle.gen_flow.specs.GeneratedCode.{IsCount, StandsAt, pushes, returns, calls, drawn_instr}
use Rattle.gen_flow.specs.GeneratedCode.StandsAt.{first, work, next, back, last}
use Rattle.gen_image.specs.GeneratedImages.{IsGeneratedImage, IsFetched, linked, width_of}
use Rattle.gen_runs.proofs.Walking.{Step}
use Rattle.gen_runs.proofs.Standing.{Numbers, core, site, step_made}
use Rattle.gen_runs.proofs.Working.{drawn_works}
use Rattle.gen_runs.proofs.Framing.{Room, IsLink, Framed, pushed, push_changes, push_ordinary, pop_changes, pop_ordinary}
use Rattle.gen_runs.proofs.Calling.{calls_on, link_of, call_changes, call_ordinary}

-- a draw chooses one of eight
pub drawn_small : (s n : ℕ) → draws s (suc n) / 2 ^ 29 < 8
drawn_small s n = omega arith

-- neither of the halfwords that do nothing is a return
no_nop : decode Outside 0xBF00 0 ≡ Ok returns → ⊥
unfolding half_rows
no_nop e = absurd cc

no_move : decode Outside 0x46C0 0 ≡ Ok returns → ⊥
unfolding half_rows
no_move e = absurd cc

nop_fetched : (code : CodeBytes) (a : ℕ) → IsTrue (lies code a 2) → half_of code a ≡ 0xBF00 → fetch code a ≡ Some (record { first = 0xBF00; second = 0; width = 2 })
nop_fetched code a there h = rw (there, h) refl

move_fetched : (code : CodeBytes) (a : ℕ) → IsTrue (lies code a 2) → half_of code a ≡ 0x46C0 → fetch code a ≡ Some (record { first = 0x46C0; second = 0; width = 2 })
move_fetched code a there h = rw (there, h) refl

decoded_again : (code : CodeBytes) (a : ℕ) (f : Fetched) → IsFetched code a returns → fetch code a ≡ Some f → decode Outside f.first f.second ≡ Ok returns
decoded_again code a f g e =
    let is = g.is in
    let same : g.fetched ≡ f = cc in
    subst (λ (h : Fetched). decode Outside h.first h.second ≡ Ok returns) same g.answer

returns_go_on : (code : CodeBytes) (a : ℕ) → IsFetched code a returns → IsNop code a → ⊥
returns_go_on code a g (there, inl h) = no_nop (decoded_again code a (record { first = 0xBF00; second = 0; width = 2 }) g (nop_fetched code a there h))
returns_go_on code a g (there, inr h) = no_move (decoded_again code a (record { first = 0x46C0; second = 0; width = 2 }) g (move_fetched code a there h))

module _ (seed count : ℕ) (image : Image) (few : IsCount count) (known : IsGeneratedImage seed count image) where
  abbrev code : CodeBytes
  code = image.code

  stands : (a x : ℕ) (i : Instr) → a ≡ 0x8000 + x → StandsAt seed count x i → IsFetched code a (linked i)
  stands a x i e there = subst (λ n. IsFetched code n (linked i)) (sym e) (known.code x i there)

  pub push_step : (k a : ℕ) (w : Numbers) (b sp : ℕ) (lr : Word) (cells : List Cell) → k < count → a ≡ 0x8000 + 14 * k → Room b sp cells
      → Step code (at a (core w sp lr cells)) (at (a + 2) (core w b lr (pushed lr b cells)))
  push_step k a w b sp lr cells lt e room =
      let high = few.high in
      let away : a ≢ exit = λ same. absurd (omega arith) in
      step_made code pushes a w sp lr cells (at (a + 2) (core w b lr (pushed lr b cells))) (stands a (14 * k) pushes e (first k lt refl refl)) away
      (push_changes (site code pushes a) (a + 2) w b sp lr cells room) (push_ordinary (site code pushes a) w sp lr cells)

  pub work_step : (k j a to : ℕ) (w : Numbers) (sp : ℕ) (lr : Word) (cells : List Cell) → k < count → j < 3 → a ≡ 0x8000 + (14 * k + 2 * j + 2) → a + 2 ≡ to
      → draws (draws seed (3 * k)) (j + 1) / 2 ^ 29 < 8
      → (v : Numbers) × Step code (at a (core w sp lr cells)) (at to (core v sp lr cells))
  work_step k j a to w sp lr cells lt few_j e et small =
      let high = few.high in
      let away : a ≢ exit = λ same. absurd (omega arith) in
      let x : ℕ = draws (draws seed (3 * k)) (j + 1) in
      let i : Instr = linked (drawn_instr x) in
      let d = drawn_works (x / 2 ^ 29) w small in
      let f : IsFetched code a i = stands a (14 * k + 2 * j + 2) (drawn_instr x) e (work k j lt few_j refl refl) in
      let behind : ℕ = a + width_of i in
      let narrow = d.narrow in
      let there : behind ≡ to = omega arith in
      let made = step_made code i a w sp lr cells (at behind (core d.after sp lr cells)) f away (d.changes (site code i a) behind sp lr cells) (d.ordinary (site code i a) sp lr cells) in
      (d.after, subst (λ n. Step code (at a (core w sp lr cells)) (at n (core d.after sp lr cells))) there made)

  pub call_step : (k a to bits : ℕ) (w : Numbers) (sp : ℕ) (lr : Word) (cells : List Cell) → k + 1 < count → a ≡ 0x8000 + (14 * k + 8) → a + 6 ≡ to → bits ≡ a + 5
      → Step code (at a (core w sp lr cells)) (at to (core w sp (link_of bits) cells))
  call_step k a to bits w sp lr cells lt e et eb =
      let high = few.high in
      let away : a ≢ exit = λ same. absurd (omega arith) in
      step_made code calls_on a w sp lr cells (at to (core w sp (link_of bits) cells)) (stands a (14 * k + 8) calls e (next k lt refl refl)) away
      (call_changes code a (a + 4) to bits w sp lr cells et (omega arith) (omega arith) eb) (call_ordinary (site code calls_on a) w sp lr cells)

  pub back_stands : (k a : ℕ) → k + 1 < count → a ≡ 0x8000 + (14 * k + 12) → IsFetched code a returns
  back_stands k a lt e = stands a (14 * k + 12) returns e (back k lt refl refl)

  pub last_stands : (k a : ℕ) → k + 1 ≡ count → a ≡ 0x8000 + (14 * k + 8) → IsFetched code a returns
  last_stands k a le e = stands a (14 * k + 8) returns e (last k le refl refl)

  pub pop_step : (a : ℕ) (w : Numbers) (b sp : ℕ) (lr link : Word) (cells : List Cell) → a ≢ exit → IsFetched code a returns → Room b sp cells → IsLink code lr → Framed b lr cells
      → Step code (at a (core w b link cells)) (at (lr.bits - 1) (core w sp link cells))
  pop_step a w b sp lr link cells away f room ok framed =
      step_made code returns a w b link cells (at (lr.bits - 1) (core w sp link cells)) f away
      (pop_changes code (site code returns a) (a + 2) w b sp lr link cells room ok framed) (pop_ordinary (site code returns a) w b sp lr link cells room ok framed)

  -- no stop is behind a call
  no_stop : (k a : ℕ) → a ≡ 0x8000 + (14 * k + 12) → Contains code.stops a → ⊥
  no_stop k a e there = elim (known.stops a there) [ inl f ↦ (let same = f.2 in absurd (omega arith)) | inr same ↦ absurd (omega arith) ]

  pub behind_call : (k a : ℕ) → k + 1 < count → a ≡ 0x8000 + (14 * k + 12) → IsLink code (link_of (a + 1))
  behind_call k a lt e =
      let high = few.high in
      let down : a ≡ a + 1 - (a + 1) % 2 = omega arith in
      record {
        odd = omega arith;
        small = omega arith;
        ordinary = ((a + 1, refl), inr (subst (λ n. IsClear code n) down (clear_here code a (no_stop k a e) (returns_go_on code a (back_stands k a lt e)))));
      }
