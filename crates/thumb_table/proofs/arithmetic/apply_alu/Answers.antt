use Rattle.std.proofs.Common.{◌≡◌, [], ◌∷◌, refl}
use Rattle.thumb_instr.specs.declared.instructions.Instr.TheVariants as instr
use Rattle.thumb_table.specs.Parts.{Memory}
use Rattle.thumb_table.specs.States.{Site, Outcome, upright}
use Rattle.thumb_table.specs.Values.{computed}
use Rattle.thumb_table.specs.Effects.{change, operand, value, writing, with_flags}
use Rattle.thumb_table.specs.CoreStates.{core_of}
use Rattle.thumb_table.proofs.ResultLemmas.{operand_alone, makes_of, stops_of}
use Rattle.thumb_table.proofs.arithmetic.apply_alu.Goals as goal

pub returns : goal.returns
unfolding change
returns c =
    let given = c.args.i.now in
    let i = c.i.inside in
    let s = c.args.s.now in
    let outcome : Outcome = upright (with_flags i.s c.alu_result-r.result (writing ((i.d, c.plain.result) ∷ []))) in
    let same : (site : Site) (m : Memory) → change (instr.Alu given) site (core_of s m) ≡ outcome = λ site m.
    let made : computed i.op (value (core_of s m) i.n) (operand i.x (core_of s m)) s.c ≡ c.alu_result-r.result = cc (operand_alone i.x s m) in
    rw (← c.i.view_is, made, c.plain.ensures, c.value.ensures) refl in
    record {
      done = makes_of (instr.Alu given) outcome c.args.next s c.write_flagged.new.s c.write_flagged.result same c.write_flagged.ensures.done;
      fault = stops_of (instr.Alu given) outcome c.args.next s c.write_flagged.new.s c.write_flagged.result same c.write_flagged.ensures.fault;
    }
