use Rattle.std.proofs.Common.{◌≡◌, ◌%◌, false, [], ◌∷◌, None, refl, ap, ◌∙◌}
use Rattle.thumb_instr.specs.declared.instructions.Instr.TheVariants as instr
use Rattle.thumb_table.specs.Parts.{Memory}
use Rattle.thumb_table.specs.States.{Site, Outcome, upright}
use Rattle.thumb_table.specs.Values.{Given}
use Rattle.thumb_table.specs.Effects.{change, value, shift_given, plain_write, writing, with_flags}
use Rattle.thumb_table.specs.CoreStates.{core_of}
use Rattle.thumb_table.proofs.ResultLemmas.{makes_of, stops_of}
use Rattle.thumb_table.proofs.arithmetic.apply_shift_by.Goals as goal

pub returns : goal.returns
unfolding change
returns c =
    let given = c.args.i.now in
    let i = c.i.inside in
    let s = c.args.s.now in
    let outcome : Outcome = upright (with_flags i.s c.logical-r.result (writing ((i.d, c.plain.result) ∷ []))) in
    let same : (site : Site) (m : Memory) → change (instr.ShiftBy given) site (core_of s m) ≡ outcome = λ site m.
    let made : shift_given (value (core_of s m) i.n) i.kind (value (core_of s m) i.m % 256) false ≡ c.shift_given-shifted.result = cc in
    rw (← c.i.view_is)
    (ap (λ (g : Given). upright (with_flags i.s (record { value = g.value; carry = g.carry; overflow = None }) (plain_write i.d g.value))) made
    ∙ rw (c.plain.ensures, c.value-2.ensures, c.logical-r.ensures, c.value.ensures, c.carry.ensures) refl) in
    record {
      done = makes_of (instr.ShiftBy given) outcome c.args.next s c.write_flagged.new.s c.write_flagged.result same c.write_flagged.ensures.done;
      fault = stops_of (instr.ShiftBy given) outcome c.args.next s c.write_flagged.new.s c.write_flagged.result same c.write_flagged.ensures.fault;
    }
