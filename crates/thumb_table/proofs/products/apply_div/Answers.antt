use Rattle.std.proofs.Common.{◌≡◌, if◌then◌else◌, [], ◌∷◌, refl}
use Rattle.thumb_instr.specs.declared.instructions.Instr.TheVariants as instr
use Rattle.thumb_table.specs.Parts.{Memory}
use Rattle.thumb_table.specs.States.{Site, Outcome, upright}
use Rattle.thumb_table.specs.Values.{signed_quotient, quotient}
use Rattle.thumb_table.specs.Effects.{change, value, writing}
use Rattle.thumb_table.specs.CoreStates.{core_of}
use Rattle.thumb_table.proofs.ResultLemmas.{makes_of, stops_of}
use Rattle.thumb_table.proofs.products.apply_div.Goals as goal

pub returns : goal.returns
unfolding change
returns c =
    let given = c.args.i.now in
    let i = c.i.inside in
    let s = c.args.s.now in
    let outcome : Outcome = upright (writing ((i.d, c.plain.result) ∷ [])) in
    let same : (site : Site) (m : Memory) → change (instr.Div given) site (core_of s m) ≡ outcome = λ site m.
    let made : (if i.signed then signed_quotient (value (core_of s m) i.n) (value (core_of s m) i.m) else quotient (value (core_of s m) i.n) (value (core_of s m) i.m)) ≡ c.divided-value.result = cc in
    rw (← c.i.view_is, made, c.plain.ensures) refl in
    record {
      done = makes_of (instr.Div given) outcome c.args.next s c.write_word.new.s c.write_word.result same c.write_word.ensures.done;
      fault = stops_of (instr.Div given) outcome c.args.next s c.write_word.new.s c.write_word.result same c.write_word.ensures.fault;
    }
