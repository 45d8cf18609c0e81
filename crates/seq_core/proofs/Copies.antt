-- Copies of an instruction in a row: where one of them is executed, they do what one execution does.
use Rattle.std.proofs.Common.{◌≡◌, ℕ, zero, suc, ◌+◌, ◌<◌, Bool, true, false, Some, Ok, refl, sym, ap, ◌∙◌, arith}
use Rattle.std.specs.Prelude.{if◌then◌else◌}
use Rattle.thumb_table.specs.Parts.{CodeBytes}
use Rattle.thumb_instr.specs.declared.instructions.Instr.{Instr}
use Rattle.thumb_instr.specs.declared.refusals.ItPlace.TheVariants.{Outside}
use Rattle.thumb_instr.specs.Blocks.{it_after, place_in_block, block_condition}
use Rattle.thumb_instr.specs.Rows.{decode}
use Rattle.thumb_table.specs.States.{Core, State, at, Change, applied, unchanged}
use Rattle.thumb_table.specs.Conditions.{holds}
use Rattle.thumb_table.specs.Effects.{change}
use Rattle.thumb_table.specs.Steps.{Fetched, fetch, step_of, executed, settled, goes_on, takes_effect, move}
use Rattle.thumb_table.specs.Schedules.{go_on, run}
use Rattle.seq_core.specs.Does.{Comes}

-- one executed step out of IT blocks
pub makes : (code : CodeBytes) (f : Fetched) (i : Instr) (a : ℕ) (x : Core) (h : Change) → x.it ≡ 0 → decode Outside f.first f.second ≡ Ok i → change i (record { code = code; address = a; width = f.width }) x ≡ Ok h →
    step_of code (Some f) (at a x) ≡ Ok (at (goes_on (a + f.width) h.exit) (applied h x))
makes code f i a x h it d e =
    let t : takes_effect x ≡ true = ap (λ k. holds (block_condition k) x) it in
    ap (λ k. executed code f (at a x) (decode (place_in_block k) f.first f.second)) it
    ∙ ap (executed code f (at a x)) d
    ∙ ap (λ b. settled (a + f.width) x (if b then change i (record { code = code; address = a; width = f.width }) x else Ok unchanged)) t
    ∙ ap (settled (a + f.width) x) e

-- what is fetched at an address falls to the next, and makes y of x
abbrev pub Makes : CodeBytes → Fetched → ℕ → Core → Core → Type 0
Makes code f a x y = step_of code (Some f) (at a x) ≡ Ok (at (a + f.width) y)

-- what is fetched at an address jumps to t from x, and makes y of it
abbrev pub Leaps : CodeBytes → Fetched → ℕ → Core → ℕ → Core → Type 0
Leaps code f a x t y = step_of code (Some f) (at a x) ≡ Ok (at t y)

-- k instructions in a row, from p to q, each of which makes y of x and leaves y
abbrev pub Group : CodeBytes → ℕ → ℕ → ℕ → Core → Core → Type 0
Group code zero p q x y = p ≡ q
Group code (suc k) p q x y = (f : Fetched) × (fetch code p ≡ Some f) × Makes code f p x y × Makes code f p y y × Group code k (p + f.width) q x y

-- k instructions in a row, each of which jumps to t from x
abbrev pub JumpGroup : CodeBytes → ℕ → ℕ → Core → ℕ → Core → Type 0
JumpGroup code zero p x t y = Unit {0}
JumpGroup code (suc k) p x t y = (f : Fetched) × (fetch code p ≡ Some f) × Leaps code f p x t y × JumpGroup code k (p + f.width) x t y

-- outside of a block the IT state stays
pub it_stays : (x : Core) → x.it ≡ 0 → record x { it = it_after x.it } ≡ x
it_stays x e = ap (λ k. record x { it = k }) (ap it_after e ∙ sym e)

-- one executed step
pub steps_to : (code : CodeBytes) (f : Fetched) (p : ℕ) (x : Core) (t : State) → fetch code p ≡ Some f → step_of code (Some f) (at p x) ≡ Ok t → move code false (at p x) ≡ Ok t
steps_to code f p x t c e = ap (λ o. step_of code o (at p x)) c ∙ e

-- one skipped step
pub passes : (code : CodeBytes) (f : Fetched) (p : ℕ) (x : Core) → fetch code p ≡ Some f → x.it ≡ 0 → move code true (at p x) ≡ Ok (at (p + f.width) x)
passes code f p x c e = rw c (ap (λ y. Ok (at (p + f.width) y)) (it_stays x e))

-- either, where an executed one changes nothing
pub stays : (code : CodeBytes) (f : Fetched) (p : ℕ) (y : Core) (b : Bool) → fetch code p ≡ Some f → Makes code f p y y → y.it ≡ 0 → move code b (at p y) ≡ Ok (at (p + f.width) y)
stays code f p y true c e it = passes code f p y c it
stays code f p y false c e it = steps_to code f p y (at (p + f.width) y) c e

module _ (code : CodeBytes) (skips : ℕ → Bool) where
  -- a first step, by what the schedule says of it
  pub first_step : (k i : ℕ) (s m : State) (b : Bool) → skips i ≡ b → move code b s ≡ Ok m → run code skips (suc k) i s ≡ run code skips k (suc i) m
  first_step k i s m b e h =
      ap (λ d. go_on (move code d s) (run code skips k (suc i))) e ∙ ap (λ r. go_on r (run code skips k (suc i))) h

  -- the rest of a group, once a copy was executed
  after : (k i p q : ℕ) (x y : Core) → y.it ≡ 0 → Group code k p q x y → run code skips k i (at p y) ≡ Ok (at q y)
  after zero i p q x y it g = ap (λ r. Ok (at r y)) g
  after (suc k) i p q x y it g =
      first_step k i (at p y) (at (p + g.0.width) y) (skips i) refl (stays code g.0 p y (skips i) g.1 g.3 it)
      ∙ after k (suc i) (p + g.0.width) q x y it g.4

  -- THE LAW OF GROUPS: where one of the k copies is executed, they do what one execution does, in k steps.
  pub group : (k i p q : ℕ) (x y : Core) → x.it ≡ 0 → y.it ≡ 0 → Group code k p q x y → (j : ℕ) → j < k → skips (i + j) ≡ false → run code skips k i (at p x) ≡ Ok (at q y)
  group zero i p q x y ix iy g j lt s = absurd (omega arith)
  group (suc k) i p q x y ix iy g zero lt s =
      let e : i + 0 ≡ i = omega arith in
      first_step k i (at p x) (at (p + g.0.width) y) false (rw e at s) (steps_to code g.0 p x (at (p + g.0.width) y) g.1 g.2)
      ∙ after k (suc i) (p + g.0.width) q x y iy g.4
  group (suc k) i p q x y ix iy g (suc j) lt s =
      let e : i + suc j ≡ suc i + j = omega arith in
      let s' = rw e at s in
      let lt' : j < k = omega arith in
      elim (skips i) as (λ b. skips i ≡ b → run code skips (suc k) i (at p x) ≡ Ok (at q y)) [
        | true ↦ λ now. first_step k i (at p x) (at (p + g.0.width) x) true now (passes code g.0 p x g.1 ix) ∙ group k (suc i) (p + g.0.width) q x y ix iy g.4 j lt' s'
        | false ↦ λ now. first_step k i (at p x) (at (p + g.0.width) y) false now (steps_to code g.0 p x (at (p + g.0.width) y) g.1 g.2) ∙ after k (suc i) (p + g.0.width) q x y iy g.4
      ] refl

  one_more : (k i : ℕ) (s m t : State) (b : Bool) → skips i ≡ b → move code b s ≡ Ok m → Comes code skips k (suc i) m t → Comes code skips (suc k) i s t
  one_more k i s m t b e h c = record {
    steps = suc c.steps;
    within = omega (arith, c.within);
    runs = first_step c.steps i s m b e h ∙ c.runs;
  }

  arrived : (k i : ℕ) (s t : State) → skips i ≡ false → move code false s ≡ Ok t → Comes code skips (suc k) i s t
  arrived k i s t e h = record { steps = 1; within = omega arith; runs = first_step 0 i s t false e h }

  -- THE LAW OF JUMPS: where one of the k copies is executed, the run comes to its target.
  pub jump_group : (k i p t : ℕ) (x y : Core) → x.it ≡ 0 → JumpGroup code k p x t y → (j : ℕ) → j < k → skips (i + j) ≡ false → Comes code skips k i (at p x) (at t y)
  jump_group zero i p t x y ix g j lt s = absurd (omega arith)
  jump_group (suc k) i p t x y ix g zero lt s =
      let e : i + 0 ≡ i = omega arith in
      arrived k i (at p x) (at t y) (rw e at s) (steps_to code g.0 p x (at t y) g.1 g.2)
  jump_group (suc k) i p t x y ix g (suc j) lt s =
      let e : i + suc j ≡ suc i + j = omega arith in
      let s' = rw e at s in
      let lt' : j < k = omega arith in
      elim (skips i) as (λ b. skips i ≡ b → Comes code skips (suc k) i (at p x) (at t y)) [
        | true ↦ λ now. one_more k i (at p x) (at (p + g.0.width) x) (at t y) true now (passes code g.0 p x g.1 ix) (jump_group k (suc i) (p + g.0.width) t x y ix g.3 j lt' s')
        | false ↦ λ now. arrived k i (at p x) (at t y) now (steps_to code g.0 p x (at t y) g.1 g.2)
      ] refl
