-- The instruction that is replaced differs from that of the point in the number of a MOVW or MOVT alone.
use Rattle.std.proofs.Common.{◌≡◌, ◌⊎◌, Bool, true, false, refl, inl, inr, Option, Some, None}
use Rattle.std.specs.Prelude.{if◌then◌else◌}
use Rattle.elf_model.specs.declared.objects.Reloc.{Reloc}
use Rattle.elf_model.specs.Objects.{ObjectParts}
use Rattle.thumb_instr.specs.declared.instructions.Instr.{Instr}
use Rattle.thumb_instr.specs.declared.instructions.Instr.TheVariants as instr
use Rattle.thumb_instr.specs.Fields.{CallFields, HalfFields, LiteralFields}
use Rattle.thumb_instr.specs.Sets.{reads_of, writes_of}
use Rattle.seq_core.specs.declared.classes.Class.{Class}
use Rattle.seq_core.specs.declared.classes.Class.TheVariants as class
use Rattle.seq_core.specs.Classes.{IsOf, names}
use Rattle.seq_core.specs.Needs.{registers_of}
use Rattle.flow_recover.specs.Aims.{is_branch}
use Rattle.hardened_form.specs.Turns.{is_turned}
use Rattle.branch_layout.specs.Leading.{goes_to_target, loads_word}
use Rattle.point_units.specs.Units.{left_by}

abbrev zeroed : HalfFields → HalfFields
zeroed h = record h { imm = 0 }

names_none : (c : Class) (h : HalfFields) → names c (instr.Half h) ≡ false
names_none class.Twice h = refl
names_none c h = refl

of_zeroed : (c : Class) (h : HalfFields) → IsOf c (instr.Half h) → IsOf c (instr.Half (zeroed h))
unfolding reads_of writes_of
of_zeroed class.Twice h of = of
of_zeroed class.Through h of = (of.0, of.1, λ c. names_none c (zeroed h))
of_zeroed c h of = of

needs_zeroed : (c : Class) (h : HalfFields) → registers_of c (instr.Half (zeroed h)) ≡ registers_of c (instr.Half h)
needs_zeroed class.LongSum h = refl
needs_zeroed c h = refl

pub left_of : (o : ObjectParts) (c : Class) (r : Option Reloc) (i : Instr) → IsOf c i → IsOf c (left_by o r i)
left_of o c (Some r) (instr.Half h) of = go (is_turned o r)
  where
    go : (b : Bool) → IsOf c (if b then instr.Half (zeroed h) else instr.Half h)
    go true = of_zeroed c h of
    go false = of
left_of o c (Some r) i of = of
left_of o c None i of = of

pub left_needs : (o : ObjectParts) (c : Class) (r : Option Reloc) (i : Instr) → registers_of c (left_by o r i) ≡ registers_of c i
left_needs o c (Some r) (instr.Half h) = go (is_turned o r)
  where
    go : (b : Bool) → registers_of c (if b then instr.Half (zeroed h) else instr.Half h) ≡ registers_of c (instr.Half h)
    go true = needs_zeroed c h
    go false = refl
left_needs o c (Some r) i = refl
left_needs o c None i = refl

goes_left : (b : Bool) (h : HalfFields) → goes_to_target (if b then instr.Half (zeroed h) else instr.Half h) ≡ false
goes_left true h = refl
goes_left false h = refl

loads_left : (b : Bool) (h : HalfFields) → loads_word (if b then instr.Half (zeroed h) else instr.Half h) ≡ false
loads_left true h = refl
loads_left false h = refl

pub left_goes : (o : ObjectParts) (r : Option Reloc) (i : Instr) → goes_to_target (left_by o r i) ≡ goes_to_target i
left_goes o (Some r) (instr.Half h) = goes_left (is_turned o r) h
left_goes o (Some r) i = refl
left_goes o None i = refl

pub left_loads : (o : ObjectParts) (r : Option Reloc) (i : Instr) → loads_word (left_by o r i) ≡ loads_word i
left_loads o (Some r) (instr.Half h) = loads_left (is_turned o r) h
left_loads o (Some r) i = refl
left_loads o None i = refl

-- what goes to a target is a branch or a call, and what loads a word a literal load
pub goes_cases : (i : Instr) → goes_to_target i ≡ true → (is_branch i ≡ true) ⊎ ((c : CallFields) × (i ≡ instr.Call c))
goes_cases (instr.Branch i) e = inl refl
goes_cases (instr.ZeroBranch i) e = inl refl
goes_cases (instr.Call i) e = inr (i, refl)
goes_cases i e = absurd (cc)

pub loads_literal : (i : Instr) → loads_word i ≡ true → (l : LiteralFields) × (i ≡ instr.Literal l)
loads_literal (instr.Literal i) e = (i, refl)
loads_literal i e = absurd (cc)
