use Rattle.std.proofs.Common.{◌<◌, arith, subst, ℕ, List}
use Rattle.std.specs.Prelude.{All}
use Rattle.std.proofs.lemmas.List.{take_all}
use Rattle.std.proofs.lemmas.List.Elements.{All-more}
use Rattle.flow_recover.specs.declared.flows.Point.{Point}
use Rattle.liveness.specs.Paths.{Leads}
use Rattle.object_rows.proofs.lives.all_lead_below.Goals as goal

pub loop-x-preserved : goal.loop-x-preserved
loop-x-preserved c =
    All-more (λ x. (q : ℕ) → Leads x q → q < c.args.n) c.args.points.now c.loop-x.x-index c.x-item.result (omega arith) c.loop-x.invariant
    (subst (λ (x : Point). (q : ℕ) → Leads x q → q < c.args.n) c.x-item.is (c.leads_below.ensures c.if-not-leads_below.false))

pub returns : goal.returns
returns c = λ _. subst (λ (l : List Point). All (λ x. (q : ℕ) → Leads x q → q < c.args.n) l) (take_all c.loop-x.x-index c.args.points.now (omega arith)) c.loop-x.invariant
