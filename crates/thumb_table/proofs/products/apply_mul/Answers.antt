use Rattle.std.proofs.Common.{◌≡◌, ◌*◌, [], ◌∷◌, refl}
use Rattle.thumb_instr.specs.declared.instructions.Instr.TheVariants as instr
use Rattle.mark_word.specs.Words.{plain}
use Rattle.thumb_table.specs.Parts.{Memory}
use Rattle.thumb_table.specs.States.{Site, Outcome, upright}
use Rattle.thumb_table.specs.Values.{wrapped}
use Rattle.thumb_table.specs.Effects.{change, value, writing, with_sign}
use Rattle.thumb_table.specs.CoreStates.{core_of}
use Rattle.thumb_table.proofs.ResultLemmas.{makes_of, stops_of}
use Rattle.thumb_table.proofs.products.apply_mul.Goals as goal

pub returns : goal.returns
unfolding change
returns c =
    let given = c.args.i.now in
    let i = c.i.inside in
    let s = c.args.s.now in
    let outcome : Outcome = upright (with_sign i.s (wrapped (c.bits-n.result * c.bits-m.result)) (writing ((i.d, plain (wrapped (c.bits-n.result * c.bits-m.result))) ∷ []))) in
    let same : (site : Site) (m : Memory) → change (instr.Mul given) site (core_of s m) ≡ outcome = λ site m.
    let made : wrapped (value (core_of s m) i.n * value (core_of s m) i.m) ≡ wrapped (c.bits-n.result * c.bits-m.result) = cc in
    rw (← c.i.view_is, made) refl in
    record {
      done = makes_of (instr.Mul given) outcome c.args.next s c.write_signed.new.s c.write_signed.result same c.write_signed.ensures.done;
      fault = stops_of (instr.Mul given) outcome c.args.next s c.write_signed.new.s c.write_signed.result same c.write_signed.ensures.fault;
    }
