-- What halfwords stand for in an IT block.
use Rattle.std.proofs.Common.{◌≡◌, ◌*◌, ◌+◌, ◌/◌, ◌%◌, ◌^◌, ℕ, Bool, true, false, Ok, refl, ap, ◌∙◌, arith}
use Rattle.std.specs.Prelude.{◌==◌, ◌&&◌, not, if◌then◌else◌, slice_get}
use Rattle.std.proofs.lemmas.Bool.{eqb-true, eq-eqb}
use Rattle.thumb_instr.specs.declared.conditions.Cond.TheVariants.{Al}
use Rattle.thumb_instr.specs.declared.refusals.ItPlace.{ItPlace}
use Rattle.thumb_instr.specs.declared.refusals.ItPlace.TheVariants.{Outside, Inside, Last}
use Rattle.thumb_instr.specs.declared.instructions.Instr.{Instr}
use Rattle.thumb_instr.specs.declared.instructions.Instr.TheVariants as instr
use Rattle.thumb_instr.specs.Blocks.{it_after, place_in_block, block_condition, or_always}
use Rattle.thumb_instr.specs.Meanings.{is_outside, is_inside, conditions}
use Rattle.thumb_instr.specs.Patterns.{decoded}
use Rattle.thumb_instr.specs.HalfRows.{half_rows}
use Rattle.thumb_instr.specs.FullRows.{full_rows}
use Rattle.thumb_instr.specs.Rows.{is_wide, decode}
use Rattle.seq_core.specs.Reading.{may_jump, starts_block}
use Rattle.sim_charts.specs.Charts.{may_fail, it_behind}
use Rattle.sim_steps.specs.Placed.{JumpsStandLast, BlocksStandApart}
use Rattle.sim_steps.proofs.RowsPlaced.{IsTold, tells, told, decoded_tells}
use Rattle.sim_steps.proofs.HalvesPlaced.{half_placed}
use Rattle.sim_steps.proofs.FullsPlaced.{full_placed}

answers : (wide : Bool) (place : ItPlace) (first second : ℕ) → tells place (if wide then decoded 32 (full_rows place) (first * 2 ^ 16 + second) else decoded 16 (half_rows place) first) ≡ true
answers true place first second = decoded_tells place 32 (full_rows place) (first * 2 ^ 16 + second) (full_placed place)
answers false place first second = decoded_tells place 16 (half_rows place) first (half_placed place)

told_of : (place : ItPlace) (first second : ℕ) (i : Instr) → decode place first second ≡ Ok i → IsTold place i
told_of place first second i e = told place i (decode place first second) e (answers (is_wide first) place first second)

second_of : (a b : Bool) → a ≡ true → (a && b) ≡ false → b ≡ false
second_of true b e f = f
second_of false b e f = cc

-- the end of a block, or no block
ends_block : (it : ℕ) → is_inside (place_in_block it) ≡ false → it_after it ≡ 0
ends_block it e = go (it % 16 == 0) (it % 16 == 8) refl refl e
  where
    last : it % 8 ≡ 0 → it_after it ≡ 0
    last z = ap (λ b. if b then 0 else it / 32 * 32 + it * 2 % 32) (eq-eqb (it % 8) 0 z)

    go : (a b : Bool) → (it % 16 == 0) ≡ a → (it % 16 == 8) ≡ b → is_inside (if a then Outside else if b then Last else Inside) ≡ false → it_after it ≡ 0
    go true b ea eb f = let z = eqb-true (it % 16) 0 ea in last (omega (arith, z))
    go false true ea eb f = let z = eqb-true (it % 16) 8 eb in last (omega (arith, z))
    go false false ea eb f = cc

behind : (i : Instr) (it : ℕ) → starts_block i ≡ false → it_behind i it ≡ it_after it
behind (instr.It i) it e = absurd cc
behind i it e = refl

starts_none : (i : Instr) → may_jump i ≡ true → starts_block i ≡ false
starts_none (instr.It i) e = absurd cc
starts_none i e = refl

pub jumps_stand_last : JumpsStandLast
jumps_stand_last it first second i e jumps =
    let t = told_of (place_in_block it) first second i e in
    behind i it (starts_none i jumps) ∙ ends_block it (second_of (may_jump i) (is_inside (place_in_block it)) jumps t.0)

-- under a condition one is in a block
in_block : (it : ℕ) → may_fail (block_condition it) ≡ true → is_outside (place_in_block it) ≡ false
in_block it e = go (it % 16 == 0) (it % 16 == 8) e
  where
    go : (a b : Bool) → may_fail (if a then Al else or_always (slice_get conditions (it / 16))) ≡ true → is_outside (if a then Outside else if b then Last else Inside) ≡ false
    go true b f = absurd cc
    go false true f = refl
    go false false f = refl

first_of_none : (a b : Bool) → b ≡ false → (a && not b) ≡ false → a ≡ false
first_of_none true true e f = absurd cc
first_of_none true false e f = absurd cc
first_of_none false b e f = refl

pub blocks_stand_apart : BlocksStandApart
blocks_stand_apart it first second i e may =
    let t = told_of (place_in_block it) first second i e in
    behind i it (first_of_none (starts_block i) (is_outside (place_in_block it)) (in_block it may) t.1)
