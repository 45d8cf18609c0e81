-- What a builder of sequences is given, and what its sequence does.
use Rattle.std.specs.Prelude.{◌≡◌, ◌≢◌, ◌≤◌, ℕ, ◌+◌, ◌*◌, ◌&&◌, ◌||◌, Bool, true, false, if◌then◌else◌, List, [], ◌∷◌, ◌++◌, length, map, Ok, Err, ⊤}
use Rattle.mark_word.specs.Words.{plain}
use Rattle.thumb_instr.specs.declared.instructions.Instr.{Instr}
use Rattle.thumb_instr.specs.declared.refusals.ItPlace.TheVariants.{Outside}
use Rattle.thumb_instr.specs.Formed.{NamesRegisters, TakesFields}
use Rattle.thumb_instr.specs.Sets.{is_flag}
use Rattle.thumb_instr.specs.Rows.{decode}
use Rattle.thumb_encode.specs.HasFull.{has_full}
use Rattle.thumb_table.specs.Conditions.{holds}
use Rattle.thumb_table.specs.Parts.{CodeBytes}
use Rattle.thumb_table.specs.States.{Core, Change, Exit, Falls, Jumps, Outcome}
use Rattle.thumb_table.specs.Schedules.{is_in}
use Rattle.seq_core.specs.declared.classes.Class.{Class}
use Rattle.seq_core.specs.declared.classes.Class.TheVariants.{LongSum, PopReturn}
use Rattle.seq_core.specs.declared.steps.Step.{Step}
use Rattle.seq_core.specs.Classes.{IsOf, has_pc, adds_long_product}
use Rattle.seq_core.specs.Needs.{registers_of}
use Rattle.seq_core.specs.Does.{Effect, Task, Tolerates}
use Rattle.seq_core.specs.Meanings.{Ends, meant}
use Rattle.seq_core.specs.Sequences.{Carries, Settles}
use Rattle.seq_core.specs.Groups.{IsFree, always, done, names_no_place}
use Rattle.seq_core.specs.Built.{as_steps}
use Rattle.seq_core.specs.Twice.{own_condition}
use Rattle.seq_core.specs.Denoted.{Spots, groups_of, StepsStand}

-- Out of IT blocks, some halfwords stand for it.
pub record HasRow (i : Instr) : Type 0 where
  pub first : ℕ
  pub second : ℕ
  pub stands : decode Outside first second ≡ Ok i

-- registers that the instruction neither reads nor writes, all different
abbrev pub AreFree : Instr → List ℕ → Type 0
AreFree i [] = ⊤
AreFree i (q ∷ qs) = IsFree i q × (is_in qs q ≡ false) × AreFree i qs

-- A builder of a class is given an instruction of it, as many scratch registers as that needs, and how often each step
-- is to stand.
pub record CanBuild (c : Class) (i : Instr) (scratch : List ℕ) (copies : ℕ) : Type 0 where
  pub row : HasRow i
  pub of : IsOf c i
  pub enough : length scratch ≡ registers_of c i
  pub free : AreFree i scratch
  pub least : 2 ≤ copies
  pub most : copies ≤ 4

abbrev pub ends_of : Spots → Ends
ends_of p = record { target = p.target; back = p.back; word = p.word }

-- A return by a list leaves in lr the address that it jumps to, with bit 0 set.
abbrev pub leaves_link : Exit → Change → Change
leaves_link Falls h = h
leaves_link (Jumps t) h = record h { regs = h.regs ++ (14, plain (t + 1)) ∷ [] }

abbrev pub returned : Outcome → Outcome
returned (Err fault) = Err fault
returned (Ok h) = Ok (leaves_link h.exit h)

-- What a sequence makes of a core for an instruction, with its goals at their spots: what the instruction does, and of
-- a return by a list the word that is popped for pc is in lr, too.
abbrev pub meaning : Spots → Instr → Effect
meaning p i y = if has_pc i then returned (meant i (ends_of p) y) else meant i (ends_of p) y

-- What the sequence may change beside: the scratch registers, and for a long sum the flags.
abbrev pub loses : Instr → List ℕ → ℕ → Bool
loses i scratch k = is_in scratch k || (adds_long_product i && is_flag k)

-- Only a PopReturn loads pc, and only a LongSum adds a long product.
abbrev pub ClassesTellMeanings : Type 0
ClassesTellMeanings = (c : Class) (i : Instr) → IsOf c i → (c ≢ PopReturn → has_pc i ≡ false) × (c ≢ LongSum → adds_long_product i ≡ false)

-- where a branch's own condition holds; any core, for what has none
abbrev pub own_test : Instr → Core → Bool
own_test i y = holds (own_condition i) y

-- The work of steps at a place: the instruction, where a test holds.
abbrev pub work : (Core → Bool) → Spots → ℕ → ℕ → Instr → (ℕ → Bool) → Task
work test p place steps i lost = record { place = place; end = p.end; length = steps; taken = test; effect = meaning p i; loses = lost }

-- THE LAW OF SEQUENCES: steps do an instruction where a test holds, and nothing where it fails. With their goals at
-- whatever spots, their groups carry the effect out, and each may be done again. So wherever they stand, c times each,
-- they do it under every schedule that is legal for c copies.
pub record Do (test : Core → Bool) (i : Instr) (lost : ℕ → Bool) (copies : ℕ) (steps : List Step) : Type 0 where
  pub carries : (p : Spots) → Carries Settles p.end test (meaning p i) lost (groups_of p steps)
  pub tolerates : (code : CodeBytes) (p : Spots) (place : ℕ) → StepsStand code copies p steps place p.end → Tolerates code copies (work test p place (copies * length steps) i lost)

-- The first part gives the second.
abbrev pub StepsDo : Type 0
StepsDo = (test : Core → Bool) (i : Instr) (lost : ℕ → Bool) (copies : ℕ) (steps : List Step) →
    ((p : Spots) → Carries Settles p.end test (meaning p i) lost (groups_of p steps)) → Do test i lost copies steps

-- What groups carry out they carry out where more may be lost.
abbrev pub MoreMayBeLost : Type 0
MoreMayBeLost = (end : ℕ) (test : Core → Bool) (effect : Effect) (lost more : ℕ → Bool) (groups : List Effect) → ((k : ℕ) → more k ≡ false → lost k ≡ false) →
    Carries Settles end test effect lost groups → Carries Settles end test effect more groups

abbrev pub NameNoPlace : List Instr → Type 0
NameNoPlace [] = ⊤
NameNoPlace (j ∷ js) = (names_no_place j ≡ true) × NameNoPlace js

-- Where no instruction names a place, and none is a return, steps do one that they carry out; they may lose more.
abbrev pub PlainStepsDo : Type 0
PlainStepsDo = (i : Instr) (copies : ℕ) (instrs : List Instr) (lost more : ℕ → Bool) → names_no_place i ≡ true → has_pc i ≡ false → NameNoPlace instrs →
    ((k : ℕ) → more k ≡ false → lost k ≡ false) → ((end : ℕ) → Carries Settles end always (done i) lost (map done instrs)) → Do (own_test i) i more copies (as_steps copies instrs)

-- Formed instructions with a code of two halfwords have it as a row.
abbrev pub FullCodesAreRows : Type 0
FullCodesAreRows = (i : Instr) → NamesRegisters i → TakesFields i → has_full i ≡ true → HasRow i

-- Each step has a code.
abbrev pub AreCoded : List Step → Type 0
AreCoded [] = ⊤
AreCoded (s ∷ ss) = HasRow s.instr × AreCoded ss
