use Rattle.std.proofs.Common.{[], ◌∷◌}
use Rattle.seq_core.specs.declared.classes.Class.TheVariants as class
use Rattle.seq_separable.proofs.Lost.{built_by, three_are, two_differ}
use Rattle.seq_separable.proofs.Known.{Laws}
use Rattle.seq_separable.proofs.Summed.{summed_works}
use Rattle.seq_separable.proofs.long_sum.LongSumBuilder.build.Goals as goal

pub returns : goal.returns
returns c =
    let q = c.index-scratch-0.result in
    let r = c.index-scratch-1.result in
    let t = c.index-scratch-2.result in
    let laws : Laws = record { formed = c.decodes_are_formed.ensures; apart = c.decodes_are_apart.ensures.apart; plain = c.plain_steps_do.ensures; rows = c.full_codes_are_rows.ensures } in
    let b = built_by class.LongSum c.args.i.now c.args.scratch.now (q ∷ r ∷ t ∷ []) c.args.copies c.long_summed.result (three_are c.args.scratch.now q r t c.requires.enough c.index-scratch-0.is c.index-scratch-1.is c.index-scratch-2.is) c.requires c.long_summed.ensures (summed_works laws (record { sums = c.long_sums_work.ensures; moves = c.made_steps_are_coded.ensures.moves }) c.args.i.now q r t c.args.copies) in
    record { steps = b.steps; works = b.works; coded = b.coded }

pub long_summed-requires : goal.long_summed-requires
long_summed-requires c =
    let q = c.index-scratch-0.result in
    let r = c.index-scratch-1.result in
    let t = c.index-scratch-2.result in
    two_differ class.LongSum c.args.i.now c.args.scratch.now (t ∷ []) q r c.args.copies (three_are c.args.scratch.now q r t c.requires.enough c.index-scratch-0.is c.index-scratch-1.is c.index-scratch-2.is) c.requires
