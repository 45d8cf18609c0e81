use Rattle.std.proofs.Common.{◌≡◌, [], ◌∷◌, length, arith}
use Rattle.seq_core.specs.declared.classes.Class.TheVariants as class
use Rattle.seq_separable.proofs.Lost.{built_by, one_is, two_are}
use Rattle.seq_separable.proofs.Known.{Laws}
use Rattle.seq_separable.proofs.ThroughCoded.{CodeLaws}
use Rattle.seq_separable.proofs.Throughs.{ThroughLaws, through_one_works, through_two_works}
use Rattle.seq_separable.proofs.through.ThroughBuilder.build.Goals as goal

pub returns-then-scratch-eq1-clause-works : goal.returns-then-scratch-eq1-clause-works
returns-then-scratch-eq1-clause-works c =
    let q = c.index-scratch-0.result in
    let laws : Laws = record { formed = c.decodes_are_formed.ensures; apart = c.decodes_are_apart.ensures.apart; plain = c.plain_steps_do.ensures; rows = c.full_codes_are_rows.ensures } in
    let codes : CodeLaws = record { flags = c.decodes_keep_flags.ensures; stack = c.decodes_are_apart.ensures.through; reach = c.decodes_reach.ensures; moves = c.made_steps_are_coded.ensures.moves } in
    let through : ThroughLaws = record { one = c.scratch_registers_suffice.ensures.one; two = c.scratch_registers_suffice.ensures.two; codes = codes } in
    (built_by class.Through c.args.i.now c.args.scratch.now (q ∷ []) c.args.copies c.through_one.result (one_is c.args.scratch.now q c.if-scratch-eq1.true c.index-scratch-0.is) c.requires c.through_one.ensures (through_one_works laws through c.args.i.now q c.args.copies)).works

pub returns-then-scratch-eq1-clause-coded : goal.returns-then-scratch-eq1-clause-coded
returns-then-scratch-eq1-clause-coded c =
    let q = c.index-scratch-0.result in
    let laws : Laws = record { formed = c.decodes_are_formed.ensures; apart = c.decodes_are_apart.ensures.apart; plain = c.plain_steps_do.ensures; rows = c.full_codes_are_rows.ensures } in
    let codes : CodeLaws = record { flags = c.decodes_keep_flags.ensures; stack = c.decodes_are_apart.ensures.through; reach = c.decodes_reach.ensures; moves = c.made_steps_are_coded.ensures.moves } in
    let through : ThroughLaws = record { one = c.scratch_registers_suffice.ensures.one; two = c.scratch_registers_suffice.ensures.two; codes = codes } in
    (built_by class.Through c.args.i.now c.args.scratch.now (q ∷ []) c.args.copies c.through_one.result (one_is c.args.scratch.now q c.if-scratch-eq1.true c.index-scratch-0.is) c.requires c.through_one.ensures (through_one_works laws through c.args.i.now q c.args.copies)).coded

pub returns-else-scratch-eq1-clause-works : goal.returns-else-scratch-eq1-clause-works
returns-else-scratch-eq1-clause-works c =
    let q = c.index-scratch-0-else-scratch-eq1.result in
    let r = c.index-scratch-1.result in
    let need = c.needs_are_small.ensures.through c.args.i.now c.requires.of in
    let one = need.0 in
    let two = need.1 in
    let count : length c.args.scratch.now ≡ 2 = omega arith in
    let laws : Laws = record { formed = c.decodes_are_formed.ensures; apart = c.decodes_are_apart.ensures.apart; plain = c.plain_steps_do.ensures; rows = c.full_codes_are_rows.ensures } in
    let codes : CodeLaws = record { flags = c.decodes_keep_flags.ensures; stack = c.decodes_are_apart.ensures.through; reach = c.decodes_reach.ensures; moves = c.made_steps_are_coded.ensures.moves } in
    let through : ThroughLaws = record { one = c.scratch_registers_suffice.ensures.one; two = c.scratch_registers_suffice.ensures.two; codes = codes } in
    (built_by class.Through c.args.i.now c.args.scratch.now (q ∷ r ∷ []) c.args.copies c.through_two.result (two_are c.args.scratch.now q r count c.index-scratch-0-else-scratch-eq1.is c.index-scratch-1.is) c.requires c.through_two.ensures (through_two_works laws through c.args.i.now q r c.args.copies)).works

pub returns-else-scratch-eq1-clause-coded : goal.returns-else-scratch-eq1-clause-coded
returns-else-scratch-eq1-clause-coded c =
    let q = c.index-scratch-0-else-scratch-eq1.result in
    let r = c.index-scratch-1.result in
    let need = c.needs_are_small.ensures.through c.args.i.now c.requires.of in
    let one = need.0 in
    let two = need.1 in
    let count : length c.args.scratch.now ≡ 2 = omega arith in
    let laws : Laws = record { formed = c.decodes_are_formed.ensures; apart = c.decodes_are_apart.ensures.apart; plain = c.plain_steps_do.ensures; rows = c.full_codes_are_rows.ensures } in
    let codes : CodeLaws = record { flags = c.decodes_keep_flags.ensures; stack = c.decodes_are_apart.ensures.through; reach = c.decodes_reach.ensures; moves = c.made_steps_are_coded.ensures.moves } in
    let through : ThroughLaws = record { one = c.scratch_registers_suffice.ensures.one; two = c.scratch_registers_suffice.ensures.two; codes = codes } in
    (built_by class.Through c.args.i.now c.args.scratch.now (q ∷ r ∷ []) c.args.copies c.through_two.result (two_are c.args.scratch.now q r count c.index-scratch-0-else-scratch-eq1.is c.index-scratch-1.is) c.requires c.through_two.ensures (through_two_works laws through c.args.i.now q r c.args.copies)).coded
