use Rattle.std.proofs.Common.{◌≡◌, Some, sym}
use Rattle.thumb_table.specs.Steps.{fetch}
use Rattle.skip_machine.specs.Fetches.{as_fetched}
use Rattle.thumb_table.specs.CoreStates.{state_of}
use Rattle.skip_machine.proofs.Moving.{executed_ordinary}
use Rattle.skip_machine.proofs.moves.make_move.Goals as goal

pub returns-then-skipped-clause-done : goal.returns-then-skipped-clause-done
returns-then-skipped-clause-done c =
    let lies : fetch c.args.code.now c.args.s.now.pc ≡ Some (as_fetched c.in-Some.f) = sym c.in-Some.ensures in
    rw (c.if-skipped.true, lies) (c.skip.ensures c.args.m.now)

pub returns-else-skipped-clause-ordinary : goal.returns-else-skipped-clause-ordinary
returns-else-skipped-clause-ordinary c =
    let there : fetch c.args.code.now c.args.s.now.pc ≡ Some (as_fetched c.in-Some.f) = sym c.in-Some.ensures in
    executed_ordinary c.args.code.now c.args.skipped (as_fetched c.in-Some.f) (state_of c.args.s.now c.args.m.now) c.execute.result there c.if-skipped.false c.execute.ensures.ordinary
