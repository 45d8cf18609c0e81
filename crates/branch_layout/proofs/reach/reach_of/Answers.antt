use Rattle.std.proofs.Common.{◌≡◌, ◌≤◌, ◌<◌, ◌+◌, ℕ, List, length, get_or, arith, ap, ◌∙◌, sym, subst, refl, rules, Some}
use Rattle.std.specs.Prelude.{slice_get}
use Rattle.std.proofs.lemmas.Option.{slice_get_read, slice_get-get_or, slice_get_within}
use Rattle.thumb_encode.specs.declared.codes.Width.{Width}
use Rattle.thumb_encode.specs.declared.codes.Width.TheVariants.{Half}
use Rattle.seq_core.specs.declared.steps.Step.{Step}
use Rattle.branch_layout.specs.Copies.{copies_of, bytes_of}
use Rattle.branch_layout.proofs.ReachFacts.{ReachUpTo, reach_more}
use Rattle.branch_layout.proofs.reach.reach_of.Goals as goal

pub loop-k-preserved : goal.loop-k-preserved
loop-k-preserved c =
    let all : c.in_ok-copies.copies.items ≡ copies_of c.args.unit.now.seq.steps = c.in_ok-copies.ensures ∙ ap copies_of c.steps.ensures.steps in
    let many : length c.in_ok-copies.copies.items ≡ length (copies_of c.args.unit.now.seq.steps) = ap length all in
    let lt : c.loop-k.k < length c.in_ok-copies.copies.items = search rules in
    let wide : length c.widths-widths.result.now ≡ length c.args.stretch.now.widths = ap length c.widths-widths.ensures in
    let count = c.requires.stretch.count in
    let within : c.loop-k.k < length c.widths-widths.result.now = omega arith in
    let step = subst (λ (l : List Step). slice_get l c.loop-k.k ≡ Some c.index.result.now) all (slice_get_read c.in_ok-copies.copies.items (length c.in_ok-copies.copies.items) c.loop-k.k c.index.result.now refl lt c.index.ensures) in
    let w : Width = get_or c.widths-widths.result.now c.loop-k.k Half in
    let width = subst (λ (l : List Width). slice_get l c.loop-k.k ≡ Some w) c.widths-widths.ensures (slice_get-get_or c.widths-widths.result.now c.loop-k.k Half within) in
    subst (λ (n : ℕ). ReachUpTo c.args.placing.now c.args.unit.now c.args.stretch.now (c.loop-k.k + 1) n c.greater-most.result) (ap (λ (b : ℕ). c.loop-k.at + b) (sym c.bytes_of-at.ensures.value))
    (subst (λ (m : ℕ). ReachUpTo c.args.placing.now c.args.unit.now c.args.stretch.now (c.loop-k.k + 1) (c.loop-k.at + bytes_of w) m) (sym c.greater-most.ensures)
    (reach_more c.args.placing.now c.args.unit.now c.args.stretch.now c.loop-k.k c.loop-k.at c.loop-k.most c.index.result.now w step width c.loop-k.invariant c.load_distance.result c.load_distance.ensures))

pub returns-clause-greatest : goal.returns-clause-greatest
returns-clause-greatest c = λ e x.
    let all : c.in_ok-copies.copies.items ≡ copies_of c.args.unit.now.seq.steps = c.in_ok-copies.ensures ∙ ap copies_of c.steps.ensures.steps in
    let many : length c.in_ok-copies.copies.items ≡ length (copies_of c.args.unit.now.seq.steps) = ap length all in
    let lt : x.index < length (copies_of c.args.unit.now.seq.steps) = slice_get_within (copies_of c.args.unit.now.seq.steps) x.index x.step x.copy in
    let end : length c.in_ok-copies.copies.items ≤ c.loop-k.k = search rules in
    c.loop-k.invariant.greatest e x (omega arith)
