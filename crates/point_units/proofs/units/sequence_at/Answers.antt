use Rattle.std.proofs.Common.{◌≡◌, ℕ, ◌&&◌, [], take, Some, None, sym, ap, ◌∙◌, subst, refl}
use Rattle.std.proofs.lemmas.Option.{none-some}
use Rattle.thumb_instr.specs.Operands.{has}
use Rattle.thumb_instr.specs.declared.conditions.Cond.{Cond}
use Rattle.thumb_instr.specs.declared.instructions.Instr.{Instr}
use Rattle.thumb_table.specs.Conditions.{holds}
use Rattle.it_expand.specs.declared.expansion.CondInstr.{CondInstr}
use Rattle.it_expand.specs.Expanded.{body_of, expanded, guard_of}
use Rattle.seq_core.specs.Builders.{CanBuild, Do, loses, own_test}
use Rattle.seq_core.specs.Classes.{IsOf, has_no_class}
use Rattle.seq_core.specs.Needs.{registers_of}
use Rattle.seq_core.specs.Replaced.{replaced}
use Rattle.seq_core.specs.declared.needs.Need.{Need}
use Rattle.point_units.specs.Scratch.{scratch_of}
use Rattle.point_units.specs.Spots.{lack}
use Rattle.point_units.specs.Units.{landed, under}
use Rattle.point_units.specs.Units.IsSequenceOf.{of_it}
use Rattle.point_units.proofs.LeftFacts.{left_row}
use Rattle.point_units.proofs.UnitFacts.{suffices, body_is, as_many, build_left, sequence_is}
use Rattle.point_units.proofs.units.sequence_at.Goals as goal

-- the body of a point is its instruction, or nothing
pub returns-in_default : goal.returns-in_default
unfolding expanded
returns-in_default c =
    let none : body_of c.args.x.now.instr ≡ None = sym (ap (λ (b : CondInstr). b.body) c.requires.body) ∙ c.in_default.is in
    ([], of_it none refl c.new.ensures)

pub returns-in_default-class_of : goal.returns-in_default-class_of
unfolding expanded
returns-in_default-class_of c =
    let some : body_of c.args.x.now.instr ≡ Some c.in-Some.i = sym (ap (λ (b : CondInstr). b.body) c.requires.body) ∙ c.in-Some.is in
    let same = body_is c.args.x.now.instr c.in-Some.i some in
    let none = c.requires.can.classed (ap has_no_class same ∙ (c.class_of.ensures.none.0 c.in_default-class_of.is)) in
    absurd (none-some c.in-Some.i (sym none ∙ some))

-- the registers are the first of those that are free
pub slice_bounds-scratch-end : goal.slice_bounds-scratch-end
unfolding expanded
slice_bounds-scratch-end c =
    let class = c.in-Some-class_of.class in
    let i = c.in-Some.i in
    let live = has c.args.live.0 in
    let some : body_of c.args.x.now.instr ≡ Some i = sym (ap (λ (b : CondInstr). b.body) c.requires.body) ∙ c.in-Some.is in
    let same = body_is c.args.x.now.instr i some in
    let of = (c.class_of.ensures.class class).0 c.in-Some-class_of.is in
    let none = subst (λ (j : Instr). lack class live j ≡ None) same (c.requires.enough class (subst (IsOf class) (sym same) of)) in
    let many : c.need_of-need.result.registers ≡ registers_of class i = ap (λ (n : Need). n.registers) c.need_of-need.ensures in
    let first = ap (take c.need_of-need.result.registers) (c.deref.ensures.value ∙ c.in_ok-free.ensures) ∙ ap (λ (n : ℕ). take n (scratch_of live i)) many in
    many ∙ sym (as_many live class i of (suffices class live i none) (take c.need_of-need.result.registers c.deref.result.now) first)

pub sequence_of-requires : goal.sequence_of-requires
unfolding expanded
sequence_of-requires c =
    let class = c.in-Some-class_of.class in
    let i = c.in-Some.i in
    let live = has c.args.live.0 in
    let some : body_of c.args.x.now.instr ≡ Some i = sym (ap (λ (b : CondInstr). b.body) c.requires.body) ∙ c.in-Some.is in
    let same = body_is c.args.x.now.instr i some in
    let of = (c.class_of.ensures.class class).0 c.in-Some-class_of.is in
    let none = subst (λ (j : Instr). lack class live j ≡ None) same (c.requires.enough class (subst (IsOf class) (sym same) of)) in
    let many : c.need_of-need.result.registers ≡ registers_of class i = ap (λ (n : Need). n.registers) c.need_of-need.ensures in
    let first = ap (take c.need_of-need.result.registers) (c.deref.ensures.value ∙ c.in_ok-free.ensures) ∙ ap (λ (n : ℕ). take n (scratch_of live i)) many in
    let row = left_row c.full_codes_are_rows.ensures c.args.o.now c.args.x.now (c.requires.can.row (some ∙ ap (λ (j : Instr). Some j) (sym same))) in
    let built = build_left live class i of (suffices class live i none) (take c.need_of-need.result.registers c.deref.result.now) first c.args.o.now c.args.x.now c.args.copies same row c.requires.least c.requires.most in
    subst (λ (j : Instr). CanBuild class j (take c.need_of-need.result.registers c.deref.result.now) c.args.copies) (sym c.left_instr-left.ensures) built

pub returns : goal.returns
unfolding expanded
returns c =
    let class = c.in-Some-class_of.class in
    let i = c.in-Some.i in
    let live = has c.args.live.0 in
    let o = c.args.o.now in
    let x = c.args.x.now in
    let some : body_of x.instr ≡ Some i = sym (ap (λ (b : CondInstr). b.body) c.requires.body) ∙ c.in-Some.is in
    let same = body_is x.instr i some in
    let of = (c.class_of.ensures.class class).0 c.in-Some-class_of.is in
    let none = subst (λ (j : Instr). lack class live j ≡ None) same (c.requires.enough class (subst (IsOf class) (sym same) of)) in
    let many : c.need_of-need.result.registers ≡ registers_of class i = ap (λ (n : Need). n.registers) c.need_of-need.ensures in
    let scratch = take c.need_of-need.result.registers c.deref.result.now in
    let first = ap (take c.need_of-need.result.registers) (c.deref.ensures.value ∙ c.in_ok-free.ensures) ∙ ap (λ (n : ℕ). take n (scratch_of live i)) many in
    let s = c.sequence_of.ensures in
    let left = c.left_instr-left.ensures in
    let guard = c.args.c.now.guard in
    let never = c.never_returns.result in
    let copies = c.args.copies in
    let steps = s.steps ∙ ap (λ (j : Instr). under guard copies (landed never copies (replaced class copies j scratch))) left in
    let works = λ (cond : Cond) (is : guard ≡ guard_of cond).
    subst (λ (j : Instr). Do (λ y. holds cond y && own_test j y) j (loses j scratch) copies (take c.sequence_of.result.landing c.sequence_of.result.steps)) left (s.works cond is) in
    (scratch, sequence_is live class i of (suffices class live i none) scratch first o x copies same some guard (ap (λ (b : CondInstr). b.guard) c.requires.body) never c.never_returns.ensures c.sequence_of.result steps works s.coded)
