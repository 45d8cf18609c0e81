-- The steps of a unit with the number that linking puts there.
use Rattle.std.proofs.Common.{◌≡◌, ℕ, ◌+◌, List, [], ◌∷◌, ◌++◌, map, take, length, Bool, true, false, refl, ap, ◌∙◌, suc, arith, Option, Some, None}
use Rattle.std.specs.Prelude.{if◌then◌else◌, slice_get}
use Rattle.elf_model.specs.declared.objects.Reloc.{Reloc}
use Rattle.elf_model.specs.Objects.{ObjectParts}
use Rattle.thumb_instr.specs.Fields.{HalfFields}
use Rattle.thumb_instr.specs.declared.conditions.Cond.{Cond}
use Rattle.thumb_instr.specs.declared.instructions.Instr.{Instr}
use Rattle.thumb_instr.specs.declared.instructions.Instr.TheVariants as instr
use Rattle.hardened_form.specs.Turns.{is_turned}
use Rattle.hardened_form.specs.Code.{reloc_of}
use Rattle.seq_core.specs.declared.steps.Step.{Step}
use Rattle.seq_core.specs.declared.steps.Goal.TheVariants.{End}
use Rattle.seq_core.specs.Groups.{branching}
use Rattle.seq_core.specs.Replaced.{leading}
use Rattle.point_units.specs.Units.{trapping, landed, under, left_by}
use Rattle.sim_relation.specs.Doing.{with_number}
use Rattle.emit_object.specs.UnitCopies.{is_half}
use Rattle.unit_work.proofs.Made.{suits, AreMade}

abbrev pub linked_step : Option ℕ → ℕ → Step → Step
linked_step r n s = record s { instr = with_number r n s.instr }

-- ONLY MOVW AND MOVT CHANGE

pub same_number : (r : Option ℕ) (n : ℕ) (i : Instr) → is_half i ≡ false → with_number r n i ≡ i
same_number None n i h = refl
same_number (Some k) n (instr.Half i) h = absurd (cc)
same_number (Some k) n i h = refl

-- what is left in the object doesn't matter where linking puts a number, and else nothing is left but the number
pub left_linked : (o : ObjectParts) (r : Option ℕ) (n : ℕ) (i : Instr) → with_number r n (left_by o (reloc_of o r) i) ≡ with_number r n i
left_linked o None n i = refl
left_linked o (Some k) n i = go i (slice_get o.relocs k)
  where
    half : (b : Bool) (j : HalfFields) → with_number (Some k) n (if b then instr.Half (record j { imm = 0 }) else instr.Half j) ≡ with_number (Some k) n (instr.Half j)
    half true j = refl
    half false j = refl

    go : (j : Instr) (r : Option Reloc) → with_number (Some k) n (left_by o r j) ≡ with_number (Some k) n j
    go j None = refl
    go (instr.Half j) (Some r) = half (is_turned o r) j
    go j (Some r) = refl

pub left_same : (o : ObjectParts) (r : Option Reloc) (i : Instr) → is_half i ≡ false → left_by o r i ≡ i
left_same o None i h = refl
left_same o (Some r) (instr.Half i) h = absurd (cc)
left_same o (Some r) i h = refl

-- what suits another instruction is no half
not_half : (i j : Instr) → suits i j ≡ true → is_half i ≡ false → is_half j ≡ false
not_half i (instr.Half j) s h = absurd (cc)
not_half i j s h = refl

step_same : (r : Option ℕ) (n : ℕ) (s : Step) → is_half s.instr ≡ false → linked_step r n s ≡ s
step_same r n s h = ap (λ (j : Instr). record s { instr = j }) (same_number r n s.instr h)

pub steps_same : (r : Option ℕ) (n copies : ℕ) (i : Instr) (steps : List Step) → AreMade copies i steps → is_half i ≡ false → map (linked_step r n) steps ≡ steps
steps_same r n copies i [] made h = refl
steps_same r n copies i (s ∷ ss) made h =
    ap (λ (t : Step). t ∷ map (linked_step r n) ss) (step_same r n s (not_half i s.instr made.0.suits h))
    ∙ ap (λ (l : List Step). s ∷ l) (steps_same r n copies i ss made.1 h)

pub steps_unlinked : (n : ℕ) (steps : List Step) → map (linked_step None n) steps ≡ steps
steps_unlinked n [] = refl
steps_unlinked n (s ∷ ss) = ap (λ (l : List Step). s ∷ l) (steps_unlinked n ss)

-- BEFORE THE LANDING

abbrev pub guarding : Option Cond → ℕ → List Step → List Step
guarding None copies steps = steps
guarding (Some c) copies steps = leading copies End (branching c) ∷ steps

take_front : (steps more : List Step) → take (length steps) (steps ++ more) ≡ steps
take_front [] more = refl
take_front (s ∷ ss) more = ap (λ (l : List Step). s ∷ l) (take_front ss more)

take_whole : (steps : List Step) → take (length steps) steps ≡ steps
take_whole [] = refl
take_whole (s ∷ ss) = ap (λ (l : List Step). s ∷ l) (take_whole ss)

landed_front : (never : Bool) (copies : ℕ) (steps : List Step) → take (length steps) (landed never copies steps).steps ≡ steps
landed_front true copies steps = take_front steps (trapping copies ∷ [])
landed_front false copies steps = take_whole steps

pub before_landing : (g : Option Cond) (never : Bool) (copies : ℕ) (steps : List Step) → take (under g copies (landed never copies steps)).landing (under g copies (landed never copies steps)).steps ≡ guarding g copies steps
before_landing None never copies steps = landed_front never copies steps
before_landing (Some c) never copies steps = go (landed never copies steps).steps (length steps) (landed_front never copies steps)
  where
    go : (all : List Step) (n : ℕ) → take n all ≡ steps → take (n + 1) (leading copies End (branching c) ∷ all) ≡ leading copies End (branching c) ∷ steps
    go all n e = let one : n + 1 ≡ suc n = omega arith in ap (λ (m : ℕ). take m (leading copies End (branching c) ∷ all)) one ∙ ap (λ (l : List Step). leading copies End (branching c) ∷ l) e

pub guarding_linked : (r : Option ℕ) (n copies : ℕ) (g : Option Cond) (steps : List Step) → map (linked_step r n) (guarding g copies steps) ≡ guarding g copies (map (linked_step r n) steps)
guarding_linked r n copies None steps = refl
guarding_linked None n copies (Some c) steps = refl
guarding_linked (Some k) n copies (Some c) steps = refl
