use Rattle.std.proofs.Common.{◌<◌, arith, subst, ℕ, List}
use Rattle.std.specs.Prelude.{All}
use Rattle.std.proofs.lemmas.List.{take_all}
use Rattle.std.proofs.lemmas.List.Elements.{All-more}
use Rattle.object_rows.proofs.lives.all_below.Goals as goal

pub loop-e-preserved : goal.loop-e-preserved
loop-e-preserved c = All-more (λ e. e < c.args.n) c.args.entries.now c.loop-e.e-index 0 (omega arith) c.loop-e.invariant c.if-n-e.false

pub returns : goal.returns
returns c = λ _. subst (λ (l : List ℕ). All (λ e. e < c.args.n) l) (take_all c.loop-e.e-index c.args.entries.now (omega arith)) c.loop-e.invariant
