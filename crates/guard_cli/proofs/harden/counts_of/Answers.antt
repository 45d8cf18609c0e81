use Rattle.std.proofs.Common.{◌≡◌, ◌++◌, ◌∙◌, ◌+◌, List, drop, sym, ap, subst, arith}
use Rattle.elf_model.specs.Objects.{is_code}
use Rattle.guard_cli.specs.declared.texts.Counts.{Counts}
use Rattle.guard_cli.specs.HardenSteps.{all_counts}
use Rattle.guard_cli.specs.LinkWork.{bytes_of}
use Rattle.guard_cli.proofs.HardenLoops.{counts_are, counts_next, drop_next}
use Rattle.guard_cli.proofs.harden.counts_of.Goals as goal

pub loop-k-preserved : goal.loop-k-preserved
loop-k-preserved c =
    let objects = c.args.inputs.now.objects.items in
    let dropped = c.args.inputs.now.dropped.items in
    let hardened = c.args.hardened.now in
    let k = c.loop-k.k in
    let o = c.index.result.now in
    let d = c.index-in-loop-k.result.now in
    let h = c.index-hardened-k.result in
    let all = all_counts objects dropped hardened in
    let below = c.loop-k-test.true in
    let os = drop_next objects k o (omega (arith, below, c.requires.objects)) c.index.ensures in
    let ds = drop_next dropped k d (omega (arith, below, c.requires.dropped)) c.index-in-loop-k.ensures in
    let hs = drop_next hardened k h below c.index-hardened-k.is in
    let old = c.code_bytes_of.ensures.sum ∙ ap (bytes_of is_code) c.sections.ensures in
    let new = c.code_bytes_of-in-loop-k.ensures.sum ∙ ap (bytes_of is_code) c.sections-in-loop-k.ensures in
    subst (λ (l : List Counts). l ++ all_counts (drop (k + 1) objects) (drop (k + 1) dropped) (drop (k + 1) hardened) ≡ all) (sym c.in_ok-push.ensures.items)
    (counts_next c.loop-k.counts.items _ (drop k objects) (drop k dropped) (drop k hardened) o d h (drop (k + 1) objects) (drop (k + 1) dropped) (drop (k + 1) hardened) all os ds hs
    (counts_are o d h c.code_bytes_of.result c.code_bytes_of-in-loop-k.result old new) c.loop-k.invariant)
