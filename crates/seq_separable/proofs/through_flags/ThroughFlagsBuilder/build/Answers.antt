use Rattle.std.proofs.Common.{[], ◌∷◌}
use Rattle.seq_core.specs.declared.classes.Class.TheVariants as class
use Rattle.seq_separable.proofs.Lost.{built_by, one_is}
use Rattle.seq_separable.proofs.Known.{Laws}
use Rattle.seq_separable.proofs.Flagged.{flagged_works}
use Rattle.seq_separable.proofs.through_flags.ThroughFlagsBuilder.build.Goals as goal

pub returns : goal.returns
returns c =
    let q = c.index-scratch-0.result in
    let laws : Laws = record { formed = c.decodes_are_formed.ensures; apart = c.decodes_are_apart.ensures.apart; plain = c.plain_steps_do.ensures; rows = c.full_codes_are_rows.ensures } in
    let b = built_by class.ThroughFlags c.args.i.now c.args.scratch.now (q ∷ []) c.args.copies c.flagged.result (one_is c.args.scratch.now q c.requires.enough c.index-scratch-0.is) c.requires c.flagged.ensures (flagged_works laws c.flagged_products_work.ensures c.args.i.now q c.args.copies) in
    record { steps = b.steps; works = b.works; coded = b.coded }
