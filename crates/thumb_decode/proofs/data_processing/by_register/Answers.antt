use Rattle.std.proofs.Common.{◌≡◌, arith}
use Rattle.std.proofs.lemmas.Bool.Decides.{nat_tests}
use Rattle.thumb_instr.specs.DataRows.{shifted}
use Rattle.thumb_decode.proofs.DataRows.{shifted_pc}
use Rattle.thumb_decode.proofs.data_processing.by_register.Goals as goal

pub returns-in-None : goal.returns-in-None
returns-in-None c =
    let is : c.args.m ≡ 15 = grind (arith, nat_tests) in
    c.with_pc.ensures c.args.s c.args.n c.args.d (shifted c.args.m c.args.k c.args.i) (shifted_pc c.args.m c.args.k c.args.i is)
