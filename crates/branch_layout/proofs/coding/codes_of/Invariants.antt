use Rattle.branch_layout.specs.Placings.{places_of}
use Rattle.branch_layout.proofs.CodesFacts.{CodesUpTo}
use Rattle.branch_layout.proofs.coding.codes_of.Given as goal

abbrev pub invariant-loop-k : goal.invariant-loop-k
invariant-loop-k l = CodesUpTo (places_of l.placing) l.unit l.stretch l.k l.at l.codes.items
