use Rattle.std.proofs.Common.{◌≡◌, ◌≤◌, ◌<◌, ◌+◌, ℕ, List, length, get_or, arith, ap, ◌∙◌, sym, subst, rules}
use Rattle.thumb_instr.specs.declared.instructions.Instr.{Instr}
use Rattle.thumb_encode.specs.declared.codes.Width.{Width}
use Rattle.thumb_encode.specs.declared.codes.Width.TheVariants.{Half}
use Rattle.thumb_encode.specs.declared.codes.Code.{Code}
use Rattle.thumb_encode.specs.Encoding.{IsCodeOf}
use Rattle.seq_core.specs.declared.steps.Step.{Step}
use Rattle.branch_layout.specs.Copies.{copies_of, bytes_of}
use Rattle.branch_layout.specs.Placings.{places_of}
use Rattle.branch_layout.specs.Goals.{placed_instr, StepReaches}
use Rattle.branch_layout.specs.Layouts.{IsFirstCode}
use Rattle.branch_layout.proofs.CodesFacts.{CodesUpTo, codes_more, all_codes, copy_here}
use Rattle.branch_layout.proofs.coding.codes_of.Goals as goal

pub placed_instr-instr-requires-clause-reaches : goal.placed_instr-instr-requires-clause-reaches
placed_instr-instr-requires-clause-reaches c =
    let all : c.in_ok-copies.copies.items ≡ copies_of c.args.unit.now.seq.steps = c.in_ok-copies.ensures ∙ ap copies_of c.steps.ensures.steps in
    let lt : c.loop-k.k < length c.in_ok-copies.copies.items = search rules in
    let can = c.requires.coded (subst (λ (l : List Step). length l ≤ 8) c.steps.ensures.steps c.steps.ensures.few) in
    let copy = copy_here c.args.unit.now c.args.stretch.now c.in_ok-copies.copies.items c.widths-widths.result.now c.loop-k.k c.index.result.now all c.widths-widths.ensures c.requires.stretch.count lt c.index.ensures in
    subst (λ (n : ℕ). StepReaches (places_of c.args.placing.now) c.args.unit.now c.args.stretch.now.place n c.index.result.now) (sym c.loop-k.invariant.at_is)
    (can.reaches c.loop-k.k c.index.result.now (get_or c.widths-widths.result.now c.loop-k.k Half) copy)

pub code_of-requires : goal.code_of-requires
code_of-requires c =
    let all : c.in_ok-copies.copies.items ≡ copies_of c.args.unit.now.seq.steps = c.in_ok-copies.ensures ∙ ap copies_of c.steps.ensures.steps in
    let lt : c.loop-k.k < length c.in_ok-copies.copies.items = search rules in
    let can = c.requires.coded (subst (λ (l : List Step). length l ≤ 8) c.steps.ensures.steps c.steps.ensures.few) in
    let copy = copy_here c.args.unit.now c.args.stretch.now c.in_ok-copies.copies.items c.widths-widths.result.now c.loop-k.k c.index.result.now all c.widths-widths.ensures c.requires.stretch.count lt c.index.ensures in
    let w : Width = get_or c.widths-widths.result.now c.loop-k.k Half in
    let same = c.placed_instr-instr.ensures ∙ ap (λ (n : ℕ). placed_instr (places_of c.args.placing.now) c.args.unit.now c.args.stretch.now.place n c.index.result.now) c.loop-k.invariant.at_is in
    subst (λ (i : Instr). (x : Code) × IsCodeOf i w x) (sym same) (can.coded c.loop-k.k c.index.result.now w copy)

pub loop-k-preserved : goal.loop-k-preserved
loop-k-preserved c =
    let all : c.in_ok-copies.copies.items ≡ copies_of c.args.unit.now.seq.steps = c.in_ok-copies.ensures ∙ ap copies_of c.steps.ensures.steps in
    let lt : c.loop-k.k < length c.in_ok-copies.copies.items = search rules in
    let copy = copy_here c.args.unit.now c.args.stretch.now c.in_ok-copies.copies.items c.widths-widths.result.now c.loop-k.k c.index.result.now all c.widths-widths.ensures c.requires.stretch.count lt c.index.ensures in
    let w : Width = get_or c.widths-widths.result.now c.loop-k.k Half in
    let first : IsFirstCode (placed_instr (places_of c.args.placing.now) c.args.unit.now c.args.stretch.now.place c.loop-k.at c.index.result.now) w c.code_of.result = subst (λ (i : Instr). IsFirstCode i w c.code_of.result) c.placed_instr-instr.ensures c.code_of.ensures in
    let more = codes_more (places_of c.args.placing.now) c.args.unit.now c.args.stretch.now c.loop-k.k c.loop-k.at c.loop-k.codes.items c.loop-k.invariant c.index.result.now w c.code_of.result copy first in
    subst (λ (n : ℕ). CodesUpTo (places_of c.args.placing.now) c.args.unit.now c.args.stretch.now (c.loop-k.k + 1) n c.push.new.self.items) (ap (λ (b : ℕ). c.loop-k.at + b) (sym c.bytes_of-at.ensures.value))
    (subst (CodesUpTo (places_of c.args.placing.now) c.args.unit.now c.args.stretch.now (c.loop-k.k + 1) (c.loop-k.at + bytes_of w)) (sym c.in_ok-push.ensures.items) more)

pub returns : goal.returns
returns c =
    let all : c.in_ok-copies.copies.items ≡ copies_of c.args.unit.now.seq.steps = c.in_ok-copies.ensures ∙ ap copies_of c.steps.ensures.steps in
    let many : length c.in_ok-copies.copies.items ≡ length (copies_of c.args.unit.now.seq.steps) = ap length all in
    let end : length c.in_ok-copies.copies.items ≤ c.loop-k.k = search rules in
    let top : c.loop-k.k ≤ length c.in_ok-copies.copies.items = search rules in
    all_codes (places_of c.args.placing.now) c.args.unit.now c.args.stretch.now c.loop-k.k c.loop-k.at c.loop-k.codes.items c.loop-k.invariant (omega arith)
