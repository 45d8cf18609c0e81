-- How many bytes a unit has at most: eight steps, c times each, of four bytes.
use Rattle.std.proofs.Common.{◌≡◌, ◌≤◌, ℕ, ◌+◌, ◌*◌, Bool, true, false, List, [], ◌∷◌, ◌++◌, length, Option, Some, None, refl, sym, subst, arith, length-append}
use Rattle.std.specs.Prelude.{⊤, replicate}
use Rattle.std.proofs.Math.Nat.{mul-le-mul_left}
use Rattle.std.proofs.lemmas.List.{length-replicate}
use Rattle.std.proofs.lemmas.List.Sums.{sum_by-cons}
use Rattle.elf_model.specs.Objects.{ObjectParts}
use Rattle.thumb_instr.specs.declared.conditions.Cond.{Cond}
use Rattle.thumb_instr.specs.declared.instructions.Instr.{Instr}
use Rattle.thumb_instr.specs.declared.instructions.Instr.TheVariants as instr
use Rattle.thumb_encode.specs.declared.codes.Width.{Width}
use Rattle.thumb_encode.specs.declared.codes.Width.TheVariants.{Half, Full}
use Rattle.flow_recover.specs.declared.flows.Point.{Point}
use Rattle.it_expand.specs.Expanded.{guard_of}
use Rattle.seq_core.specs.declared.classes.Class.{Class}
use Rattle.seq_core.specs.declared.classes.Class.TheVariants.{Twice, Through, ThroughFlags, WriteBack, BaseCopy, LongSum, Push, Pop, PopReturn, SpStep, MultiBack, DirectCall, RegisterCall, RegisterJump, ZeroBranch}
use Rattle.seq_core.specs.declared.steps.Step.{Step}
use Rattle.seq_core.specs.declared.units.Unit.{Unit as SeqUnit}
use Rattle.seq_core.specs.Built.{as_steps}
use Rattle.seq_core.specs.Replaced.{replaced, register_called, stack_stepped, zero_branched}
use Rattle.seq_core.specs.Series.{Series}
use Rattle.branch_layout.specs.Copies.{copies_of, bytes_of, length_of}
use Rattle.branch_layout.specs.Placings.{Stretch, IsStretch}
use Rattle.point_units.specs.Units.{IsSequenceOf, landed, left_instr, never_returns, trapping, under}
use Rattle.point_units.specs.Units.IsSequenceOf.{of_it, of_instr}

-- Each step stands c times.
abbrev pub AllMany : ℕ → List Step → Type 0
AllMany c [] = ⊤
AllMany c (s ∷ ss) = (s.copies ≡ c) × AllMany c ss

as_steps_many : (c : ℕ) (is : List Instr) → AllMany c (as_steps c is)
as_steps_many c [] = tt
as_steps_many c (i ∷ is) = (refl, as_steps_many c is)

register_called_many : (c : ℕ) (i : Instr) (qs : List ℕ) → AllMany c (register_called c i qs)
register_called_many c (instr.CallReg i) [] = (refl, (refl, tt))
register_called_many c (instr.CallReg i) (q ∷ qs) = (refl, (refl, (refl, tt)))
register_called_many c i qs = tt

zero_branched_many : (c : ℕ) (i : Instr) → AllMany c (zero_branched c i)
zero_branched_many c (instr.ZeroBranch i) = (refl, (refl, tt))
zero_branched_many c i = tt

replaced_many : (class : Class) (c : ℕ) (i : Instr) (qs : List ℕ) → AllMany c (replaced class c i qs)
replaced_many Twice c i qs = (refl, tt)
replaced_many Through c i (q ∷ []) = as_steps_many c _
replaced_many Through c i (a ∷ b ∷ []) = as_steps_many c _
replaced_many ThroughFlags c i (q ∷ []) = as_steps_many c _
replaced_many WriteBack c i (q ∷ []) = as_steps_many c _
replaced_many BaseCopy c i (q ∷ []) = as_steps_many c _
replaced_many LongSum c i (x ∷ y ∷ z ∷ []) = as_steps_many c _
replaced_many Push c i (q ∷ []) = as_steps_many c _
replaced_many Pop c i (q ∷ []) = as_steps_many c _
replaced_many PopReturn c i (q ∷ []) = as_steps_many c _
replaced_many SpStep c i (q ∷ []) = as_steps_many c (stack_stepped i q)
replaced_many MultiBack c i (q ∷ []) = as_steps_many c _
replaced_many DirectCall c i qs = (refl, (refl, tt))
replaced_many RegisterCall c i qs = register_called_many c i qs
replaced_many RegisterJump c i qs = (refl, tt)
replaced_many ZeroBranch c i qs = zero_branched_many c i
replaced_many class c i qs = tt

more_many : (c : ℕ) (ss : List Step) (s : Step) → s.copies ≡ c → AllMany c ss → AllMany c (ss ++ s ∷ [])
more_many c [] s e many = (e, tt)
more_many c (t ∷ ss) s e many = (many.0, more_many c ss s e many.1)

landed_many : (never : Bool) (c : ℕ) (ss : List Step) → AllMany c ss → AllMany c (landed never c ss).steps
landed_many true c ss many = more_many c ss (trapping c) refl many
landed_many false c ss many = many

under_many : (guard : Option Cond) (c : ℕ) (s : Series) → AllMany c s.steps → AllMany c (under guard c s).steps
under_many None c s many = many
under_many (Some g) c s many = (refl, many)

pub sequence_many : (o : ObjectParts) (live : ℕ → Bool) (c : ℕ) (x : Point) (scratch : List ℕ) (s : Series) → IsSequenceOf o live c x scratch s → AllMany c s.steps
sequence_many o live c x scratch s (of_it body none made) = subst (λ (t : Series). AllMany c t.steps) (sym made) tt
sequence_many o live c x scratch s (of_instr body is works coded) =
    subst (λ (t : Series). AllMany c t.steps) (sym is.sequence)
    (under_many (guard_of x.cond) c (landed (never_returns x) c (replaced is.class c (left_instr o x) scratch))
    (landed_many (never_returns x) c (replaced is.class c (left_instr o x) scratch) (replaced_many is.class c (left_instr o x) scratch)))

-- So many copies they have.
copies_many : (c : ℕ) (ss : List Step) → AllMany c ss → length (copies_of ss) ≡ c * length ss
copies_many c [] many = omega arith
copies_many c (s ∷ ss) many =
    let rest = copies_many c ss many.1 in
    let all = length-append (replicate s.copies s) (copies_of ss) in
    let one = length-replicate s.copies s in
    let e = many.0 in
    omega arith

width_most : (w : Width) → bytes_of w ≤ 4
width_most Half = omega arith
width_most Full = omega arith

widths_most : (ws : List Width) → length_of ws ≤ 4 * length ws
widths_most [] = omega arith
widths_most (w ∷ ws) = let sum = sum_by-cons bytes_of w ws in let one = width_most w in let rest = widths_most ws in omega arith

pub stretch_most : (u : SeqUnit) (s : Stretch) (c : ℕ) → IsStretch u s → AllMany c u.seq.steps → length u.seq.steps ≤ 8 → s.place.end ≤ s.place.start + 32 * c
stretch_most u s c is many short =
    let end = is.end in
    let bytes = widths_most s.widths in
    let count = is.count in
    let copies = copies_many c u.seq.steps many in
    let most : c * length u.seq.steps ≤ c * 8 = mul-le-mul_left c short in
    omega arith
