use Rattle.std.proofs.Common.{◌≡◌, Ok}
use Rattle.thumb_instr.specs.Rows.{decode}
use Rattle.thumb_instr.specs.Blocks.{place_in_block}
use Rattle.skip_machine.proofs.moves.execute.Goals as goal

pub returns-in-Ok-clause-ordinary : goal.returns-in-Ok-clause-ordinary
returns-in-Ok-clause-ordinary c =
    let stands : decode (place_in_block c.args.s.now.it) c.args.f.now.first c.args.f.now.second ≡ Ok c.in-Ok.i = cc c.in-Ok.ensures in
    rw stands c.apply.ensures.ordinary
