use Rattle.std.proofs.Common.{◌<◌, ◌^◌, arith}
use Rattle.thumb_table.proofs.NumberLemmas.{fields_fit}
use Rattle.thumb_table.proofs.bit_values.with_field.Goals as goal

pub overflow_cast-result : goal.overflow_cast-result
overflow_cast-result c =
    let lt : c.args.n < 2 ^ 32 = omega arith in
    rw (c.power-top.ensures.value, c.power-low.ensures.value, c.from.ensures, c.from-2.ensures, c.from-3.ensures)
    (omega (arith, fields_fit c.args.lsb c.args.width c.args.bits c.args.n c.requires.within c.requires.fits lt))
