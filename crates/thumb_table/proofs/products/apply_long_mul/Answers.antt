use Rattle.std.proofs.Common.{◌≡◌, ◌+◌, ◌*◌, ◌^◌, refl}
use Rattle.thumb_instr.specs.declared.instructions.Instr.TheVariants as instr
use Rattle.thumb_table.specs.Parts.{Memory}
use Rattle.thumb_table.specs.States.{Site, Outcome, upright}
use Rattle.thumb_table.specs.Values.{long_product, wrapped}
use Rattle.thumb_table.specs.Effects.{change, value, two_words}
use Rattle.thumb_table.specs.CoreStates.{core_of}
use Rattle.thumb_table.proofs.ResultLemmas.{makes_of, stops_of}
use Rattle.thumb_table.proofs.products.apply_long_mul.Goals as goal

pub returns : goal.returns
unfolding change
returns c =
    let given = c.args.i.now in
    let i = c.i.inside in
    let s = c.args.s.now in
    let outcome : Outcome = upright (two_words i.lo i.hi c.long_product-product.result) in
    let same : (site : Site) (m : Memory) → change (instr.LongMul given) site (core_of s m) ≡ outcome = λ site m.
    let made : long_product i.op (value (core_of s m) i.n) (value (core_of s m) i.m) (value (core_of s m) i.hi * 2 ^ 32 + wrapped (value (core_of s m) i.lo)) ≡ c.long_product-product.result = cc in
    rw (← c.i.view_is, made) refl in
    record {
      done = makes_of (instr.LongMul given) outcome c.args.next s c.write_two.new.s c.write_two.result same c.write_two.ensures.done;
      fault = stops_of (instr.LongMul given) outcome c.args.next s c.write_two.new.s c.write_two.result same c.write_two.ensures.fault;
    }
