use Rattle.std.proofs.Common.{◌≡◌, take}
use Rattle.seq_core.specs.Built.{as_steps}
use Rattle.seq_core.proofs.making.sequence.Given as goal

abbrev pub invariant-each : goal.invariant-each
invariant-each l = record {
  steps : l.s.steps ≡ as_steps l.copies (take l.i-index l.instrs);
  landing : l.s.landing ≡ l.i-index;
}
