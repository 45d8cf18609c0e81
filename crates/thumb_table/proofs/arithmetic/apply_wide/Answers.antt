use Rattle.std.proofs.Common.{◌≡◌, [], ◌∷◌, refl}
use Rattle.thumb_instr.specs.declared.instructions.Instr.TheVariants as instr
use Rattle.thumb_table.specs.Parts.{Memory}
use Rattle.thumb_table.specs.States.{Site, Outcome, upright}
use Rattle.thumb_table.specs.Effects.{change, wide_value, value, writing}
use Rattle.thumb_table.specs.CoreStates.{core_of}
use Rattle.thumb_table.proofs.ResultLemmas.{makes_of, stops_of}
use Rattle.thumb_table.proofs.arithmetic.apply_wide.Goals as goal

pub returns : goal.returns
unfolding change
returns c =
    let given = c.args.i.now in
    let i = c.i.inside in
    let s = c.args.s.now in
    let outcome : Outcome = upright (writing ((i.d, c.plain.result) ∷ [])) in
    let same : (site : Site) (m : Memory) → change (instr.Wide given) site (core_of s m) ≡ outcome = λ site m.
    let made : wide_value i.op (value (core_of s m) i.n) i.imm ≡ c.wide_value-sum.result = cc in
    rw (← c.i.view_is, made, c.plain.ensures) refl in
    record {
      done = makes_of (instr.Wide given) outcome c.args.next s c.write_word.new.s c.write_word.result same c.write_word.ensures.done;
      fault = stops_of (instr.Wide given) outcome c.args.next s c.write_word.new.s c.write_word.result same c.write_word.ensures.fault;
    }
