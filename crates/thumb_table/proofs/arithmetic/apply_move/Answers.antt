use Rattle.std.proofs.Common.{◌≡◌, [], ◌∷◌, refl}
use Rattle.thumb_instr.specs.declared.instructions.Instr.TheVariants as instr
use Rattle.thumb_table.specs.Parts.{Memory}
use Rattle.thumb_table.specs.States.{Site, Outcome, upright}
use Rattle.thumb_table.specs.Effects.{change, operand, moved_word, writing, with_flags}
use Rattle.thumb_table.specs.CoreStates.{core_of}
use Rattle.thumb_table.proofs.ResultLemmas.{operand_alone, moved_alone, makes_of, stops_of}
use Rattle.thumb_table.proofs.arithmetic.apply_move.Goals as goal

pub returns : goal.returns
unfolding change
returns c =
    let given = c.args.i.now in
    let i = c.i.inside in
    let s = c.args.s.now in
    let outcome : Outcome = upright (with_flags i.s c.logical-r.result (writing ((i.d, c.moved_word-word.result) ∷ []))) in
    let same : (site : Site) (m : Memory) → change (instr.Move given) site (core_of s m) ≡ outcome = λ site m.
    let word : moved_word i.op i.x (core_of s m) ≡ c.moved_word-word.result = cc (moved_alone i.op i.x s m) in
    let carry : (operand i.x (core_of s m)).carry ≡ c.operand_value-x.result.carry = cc (operand_alone i.x s m) in
    rw (← c.i.view_is, word, carry, c.logical-r.ensures, c.bits.ensures, c.carry.ensures) refl in
    record {
      done = makes_of (instr.Move given) outcome c.args.next s c.write_flagged.new.s c.write_flagged.result same c.write_flagged.ensures.done;
      fault = stops_of (instr.Move given) outcome c.args.next s c.write_flagged.new.s c.write_flagged.result same c.write_flagged.ensures.fault;
    }
