-- The steps of a unit, linked, do the instruction with the number that linking puts there.
use Rattle.std.proofs.Common.{◌≡◌, ◌≤◌, ℕ, zero, suc, List, [], map, take, Bool, true, false, refl, sym, ap, ◌∙◌, subst, arith, Option, Some, None, Ok}
use Rattle.std.specs.Prelude.{◌&&◌, if◌then◌else◌, slice_get}
use Rattle.elf_model.specs.declared.objects.Reloc.{Reloc}
use Rattle.elf_model.specs.Objects.{ObjectParts}
use Rattle.thumb_instr.specs.Fields.{HalfFields}
use Rattle.thumb_instr.specs.declared.conditions.Cond.{Cond}
use Rattle.thumb_instr.specs.declared.instructions.Instr.{Instr}
use Rattle.thumb_instr.specs.declared.instructions.Instr.TheVariants as instr
use Rattle.thumb_instr.specs.declared.refusals.ItPlace.TheVariants.{Outside}
use Rattle.thumb_instr.specs.Rows.{decode}
use Rattle.thumb_table.specs.Parts.{CodeBytes}
use Rattle.thumb_table.specs.States.{Core}
use Rattle.thumb_table.specs.Conditions.{holds}
use Rattle.hardened_form.specs.Turns.{is_turned}
use Rattle.hardened_form.specs.Code.{reloc_of}
use Rattle.seq_core.specs.declared.classes.Class.{Class}
use Rattle.seq_core.specs.declared.classes.Class.TheVariants as class
use Rattle.seq_core.specs.declared.steps.Step.{Step}
use Rattle.seq_core.specs.Series.{Series}
use Rattle.seq_core.specs.Classes.{IsOf}
use Rattle.seq_core.specs.Needs.{registers_of}
use Rattle.seq_core.specs.Denoted.{Spots, StepsStand}
use Rattle.seq_core.specs.Straight.{twice_steps}
use Rattle.seq_core.specs.Replaced.{replaced}
use Rattle.seq_core.specs.Guards.{ConditionCarries}
use Rattle.seq_core.specs.Sequences.{Settles}
use Rattle.seq_core.specs.Builders.{Do, HasRow, loses, own_test}
use Rattle.seq_idempotent.proofs.InPlace.{Laws}
use Rattle.it_expand.specs.Expanded.{guard_of}
use Rattle.point_units.specs.Scratch.{scratch_of}
use Rattle.point_units.specs.Units.{landed, under, left_by}
use Rattle.sim_relation.specs.Doing.{with_number}
use Rattle.emit_object.specs.UnitCopies.{is_half}
use Rattle.unit_work.proofs.Made.{AreMade, all_made}
use Rattle.unit_work.proofs.Linked.{linked_step, same_number, left_same, steps_same, steps_unlinked, guarding, before_landing, guarding_linked}
use Rattle.unit_work.proofs.Halves.{half_class, half_does}

-- the steps before the landing
abbrev pub front : Series → List Step
front s = take s.landing s.steps

-- MOVW and MOVT that are left have some number
left_half : (o : ObjectParts) (r : Option Reloc) (h : HalfFields) → (m : ℕ) × (left_by o r (instr.Half h) ≡ instr.Half (record h { imm = m }))
left_half o None h = (h.imm, refl)
left_half o (Some r) h = go (is_turned o r)
  where
    go : (b : Bool) → (m : ℕ) × ((if b then instr.Half (record h { imm = 0 }) else instr.Half h) ≡ instr.Half (record h { imm = m }))
    go true = (0, refl)
    go false = (h.imm, refl)

-- the steps by which what is left is replaced
pub left_made : (o : ObjectParts) (r : Option ℕ) (c : Class) (i : Instr) (qs : List ℕ) (copies : ℕ) → IsOf c i → AreMade copies i (replaced c copies (left_by o (reloc_of o r) i) qs)
left_made o r c i qs copies of = go (is_half i) refl
  where
    go : (b : Bool) → is_half i ≡ b → AreMade copies i (replaced c copies (left_by o (reloc_of o r) i) qs)
    go false e = subst (λ (j : Instr). AreMade copies i (replaced c copies j qs)) (sym (left_same o (reloc_of o r) i e)) (all_made c i qs copies of)
    go true e = by_half i e of
      where
        by_half : (j : Instr) → is_half j ≡ true → IsOf c j → AreMade copies j (replaced c copies (left_by o (reloc_of o r) j) qs)
        by_half (instr.Half h) e of =
            let left = left_half o (reloc_of o r) h in
            subst (λ (d : Class). AreMade copies (instr.Half h) (replaced d copies (left_by o (reloc_of o r) (instr.Half h)) qs)) (sym (half_class c h of))
            (subst (λ (j : Instr). AreMade copies (instr.Half h) (twice_steps copies j)) (sym left.1) (record { many = refl; suits = refl; end = λ e. absurd (cc) }, tt))
        by_half j e of = absurd (cc)

-- what stands for it has a row
alone_row : (code : CodeBytes) (p : Spots) (c : ℕ) (h : HalfFields) (a b : ℕ) → 2 ≤ c → StepsStand code c p (twice_steps c (instr.Half h)) a b → HasRow (instr.Half h)
alone_row code p zero h a b least stand = absurd (omega arith)
alone_row code p (suc c) h a b least stand =
    let one = stand.2 in
    record { first = one.0.first; second = one.0.second; stands = subst (λ (i : Instr). decode Outside one.0.first one.0.second ≡ Ok i) one.4.0 one.3 }

half_row : (code : CodeBytes) (p : Spots) (c : ℕ) (g : Option Cond) (h : HalfFields) (a b : ℕ) → 2 ≤ c → StepsStand code c p (guarding g c (twice_steps c (instr.Half h))) a b → HasRow (instr.Half h)
half_row code p c None h a b least stand = alone_row code p c h a b least stand
half_row code p c (Some d) h a b least stand = alone_row code p c h stand.1 b least stand.3

module _ (laws : Laws) (conditions : ConditionCarries Settles) (o : ObjectParts) (n copies : ℕ) (least : 2 ≤ copies) (most : copies ≤ 4) (live : ℕ → Bool) (cond : Cond) (never : Bool) (c : Class) (scratch : List ℕ) (s : Series)
    (code : CodeBytes) (p : Spots) (a b : ℕ) where
  abbrev taken : Instr → Core → Bool
  taken i y = holds cond y && own_test i y

  abbrev pub IsMadeOf : Option ℕ → Instr → Type 0
  IsMadeOf r i = s ≡ under (guard_of cond) copies (landed never copies (replaced c copies (left_by o (reloc_of o r) i) scratch))

  abbrev pub Linked : Option ℕ → Instr → Type 0
  Linked r i = Do (taken i) (with_number r n i) (loses i scratch) copies (map (linked_step r n) (front s))

  front_is : (r : Option ℕ) (i : Instr) → IsMadeOf r i → front s ≡ guarding (guard_of cond) copies (replaced c copies (left_by o (reloc_of o r) i) scratch)
  front_is r i made = ap front made ∙ before_landing (guard_of cond) never copies (replaced c copies (left_by o (reloc_of o r) i) scratch)

  plainly : (r : Option ℕ) (i : Instr) → is_half i ≡ false → IsOf c i → IsMadeOf r i → Do (taken i) (left_by o (reloc_of o r) i) (loses i scratch) copies (front s) → Linked r i
  plainly r i h of made works =
      let left : left_by o (reloc_of o r) i ≡ i = left_same o (reloc_of o r) i h in
      let is : front s ≡ guarding (guard_of cond) copies (replaced c copies i scratch) = front_is r i made ∙ ap (λ (j : Instr). guarding (guard_of cond) copies (replaced c copies j scratch)) left in
      let same : map (linked_step r n) (replaced c copies i scratch) ≡ replaced c copies i scratch = steps_same r n copies i (replaced c copies i scratch) (all_made c i scratch copies of) h in
      let linked : map (linked_step r n) (front s) ≡ front s =
      ap (map (linked_step r n)) is ∙ (guarding_linked r n copies (guard_of cond) (replaced c copies i scratch) ∙ (ap (guarding (guard_of cond) copies) same ∙ sym is)) in
      subst (λ (ss : List Step). Do (taken i) (with_number r n i) (loses i scratch) copies ss) (sym linked)
      (subst (λ (j : Instr). Do (taken i) j (loses i scratch) copies (front s)) (left ∙ sym (same_number r n i h)) works)

  by_half : (k : ℕ) (h : HalfFields) → IsOf c (instr.Half h) → scratch ≡ take (registers_of c (instr.Half h)) (scratch_of live (instr.Half h)) → IsMadeOf (Some k) (instr.Half h)
      → StepsStand code copies p (map (linked_step (Some k) n) (front s)) a b → Linked (Some k) (instr.Half h)
  by_half k h of first made stand =
      let twice : c ≡ class.Twice = half_class c h of in
      let none : scratch ≡ [] = first ∙ ap (λ (d : Class). take (registers_of d (instr.Half h)) (scratch_of live (instr.Half h))) twice in
      let left = left_half o (slice_get o.relocs k) h in
      let new : HalfFields = record h { imm = n } in
      let is : front s ≡ guarding (guard_of cond) copies (twice_steps copies (instr.Half (record h { imm = left.0 }))) =
      front_is (Some k) (instr.Half h) made ∙ (ap (λ (d : Class). guarding (guard_of cond) copies (replaced d copies (left_by o (slice_get o.relocs k) (instr.Half h)) scratch)) twice
      ∙ ap (λ (j : Instr). guarding (guard_of cond) copies (twice_steps copies j)) left.1) in
      let linked : map (linked_step (Some k) n) (front s) ≡ guarding (guard_of cond) copies (twice_steps copies (instr.Half new)) =
      ap (map (linked_step (Some k) n)) is ∙ guarding_linked (Some k) n copies (guard_of cond) (twice_steps copies (instr.Half (record h { imm = left.0 }))) in
      let row = half_row code p copies (guard_of cond) new a b least (subst (λ (ss : List Step). StepsStand code copies p ss a b) linked stand) in
      subst (λ (ss : List Step). Do (taken (instr.Half h)) (instr.Half new) (loses (instr.Half h) scratch) copies ss) (sym linked)
      (subst (λ (qs : List ℕ). Do (taken (instr.Half h)) (instr.Half new) (loses (instr.Half h) qs) copies (guarding (guard_of cond) copies (twice_steps copies (instr.Half new)))) (sym none)
      (half_does laws conditions cond new copies row least most))

  some : (k : ℕ) (i : Instr) (h : Bool) → is_half i ≡ h → IsOf c i → scratch ≡ take (registers_of c i) (scratch_of live i) → IsMadeOf (Some k) i → Do (taken i) (left_by o (reloc_of o (Some k)) i) (loses i scratch) copies (front s)
      → StepsStand code copies p (map (linked_step (Some k) n) (front s)) a b → Linked (Some k) i
  some k i false e of first made works stand = plainly (Some k) i e of made works
  some k (instr.Half h) true e of first made works stand = by_half k h of first made stand
  some k i true e of first made works stand = absurd (cc)

  pub linked_do : (r : Option ℕ) (i : Instr) → IsOf c i → scratch ≡ take (registers_of c i) (scratch_of live i) → IsMadeOf r i → Do (taken i) (left_by o (reloc_of o r) i) (loses i scratch) copies (front s)
      → StepsStand code copies p (map (linked_step r n) (front s)) a b → Linked r i
  linked_do None i of first made works stand = subst (λ (ss : List Step). Do (taken i) i (loses i scratch) copies ss) (sym (steps_unlinked n (front s))) works
  linked_do (Some k) i of first made works stand = some k i (is_half i) refl of first made works stand
