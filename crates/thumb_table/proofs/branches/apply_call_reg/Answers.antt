use Rattle.std.proofs.Common.{◌≡◌, ◌%◌, eq-eqb, refl}
use Rattle.thumb_table.specs.Effects.{change, value}
use Rattle.thumb_table.specs.CoreStates.{core_of}
use Rattle.thumb_table.proofs.MarkLemmas.{differs}
use Rattle.thumb_table.proofs.branches.apply_call_reg.Goals as goal

pub returns-then-bits-ne1-clause-fault : goal.returns-then-bits-ne1-clause-fault
unfolding change
returns-then-bits-ne1-clause-fault c = (
  λ code m width e.
      let bits : value (core_of c.args.s.now m) c.args.i.now.m ≡ c.bits-bits.result = cc in
      rw (bits, differs (c.bits-bits.result % 2) 1 c.if-bits-ne1.true) refl,
  refl,
)

pub returns-clause-done : goal.returns-clause-done
unfolding change
returns-clause-done c = λ code m width e.
    let bits : value (core_of c.args.s.now m) c.args.i.now.m ≡ c.bits-bits.result = cc in
    rw (bits, eq-eqb (c.bits-bits.result % 2) 1 c.if-bits-ne1.false, e, c.fall.ensures, c.return_word.ensures) refl
