use Rattle.std.proofs.Common.{[], ◌∷◌}
use Rattle.seq_core.specs.declared.classes.Class.TheVariants as class
use Rattle.seq_separable.proofs.Lost.{built_by, one_is}
use Rattle.seq_separable.proofs.Known.{Laws}
use Rattle.seq_separable.proofs.WrittenBack.{written_works}
use Rattle.seq_separable.proofs.write_back.WriteBackBuilder.build.Goals as goal

pub returns : goal.returns
returns c =
    let q = c.index-scratch-0.result in
    let laws : Laws = record { formed = c.decodes_are_formed.ensures; apart = c.decodes_are_apart.ensures.apart; plain = c.plain_steps_do.ensures; rows = c.full_codes_are_rows.ensures } in
    let b = built_by class.WriteBack c.args.i.now c.args.scratch.now (q ∷ []) c.args.copies c.written_back.result (one_is c.args.scratch.now q c.requires.enough c.index-scratch-0.is) c.requires c.written_back.ensures (written_works laws (record { pre_accesses = c.pre_accesses_work.ensures; post_accesses = c.post_accesses_work.ensures; pre_pairs = c.pre_pairs_work.ensures; post_pairs = c.post_pairs_work.ensures; constants = c.moves_are_constants.ensures; bytes = c.decodes_are_apart.ensures.bytes; several = c.decodes_load_several.ensures; moves = c.made_steps_are_coded.ensures.moves; sums = c.made_steps_are_coded.ensures.sums; accesses = c.made_steps_are_coded.ensures.accesses }) c.args.i.now q c.args.copies) in
    record { steps = b.steps; works = b.works; coded = b.coded }
