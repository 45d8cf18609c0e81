use Rattle.std.proofs.Common.{ap, ◌+◌}
use Rattle.reloc_places.proofs.StartFacts.{length_most}
use Rattle.flow_recover.proofs.BlockFacts.{noted_more}
use Rattle.flow_recover.proofs.blocks.note_members.Goals as goal

pub loop-k-preserved : goal.loop-k-preserved
loop-k-preserved c = noted_more c.args.bytes.now c.args.section c.args.b c.args.places.now c.loop-k.places c.note_below.new.places c.loop-k.k c.loop-k.at _ c.loop-k-test.true c.loop-k.invariant
    c.in_ok-note_below.ensures (ap (λ n. c.loop-k.at + n) c.length_from-at.ensures) (length_most c.args.bytes.now c.loop-k.at)
