use Rattle.std.proofs.Common.{◌≡◌, [], ◌∷◌, refl}
use Rattle.thumb_instr.specs.declared.instructions.Instr.TheVariants as instr
use Rattle.thumb_table.specs.Parts.{Memory}
use Rattle.thumb_table.specs.States.{Site, Outcome, upright}
use Rattle.thumb_table.specs.Effects.{change, field_value, writing}
use Rattle.thumb_table.specs.CoreStates.{core_of}
use Rattle.thumb_table.proofs.ResultLemmas.{field_alone, makes_of, stops_of}
use Rattle.thumb_table.proofs.bit_fields.apply_field.Goals as goal

pub returns : goal.returns
unfolding change
returns c =
    let i = c.args.i.now in
    let s = c.args.s.now in
    let outcome : Outcome = upright (writing ((c.i.inside.d, c.plain.result) ∷ [])) in
    let same : (site : Site) (m : Memory) → change (instr.Field i) site (core_of s m) ≡ outcome = λ site m.
    let made : field_value i.op i.d i.n i.lsb i.width (core_of s m) ≡ c.field_value-value.result = cc (field_alone i.op i.d i.n i.lsb i.width s m) in
    rw (made, ← c.i.view_is, c.plain.ensures) refl in
    record {
      done = makes_of (instr.Field i) outcome c.args.next s c.write_word.new.s c.write_word.result same c.write_word.ensures.done;
      fault = stops_of (instr.Field i) outcome c.args.next s c.write_word.new.s c.write_word.result same c.write_word.ensures.fault;
    }
