use Rattle.std.proofs.Common.{◌≡◌, ◌≤◌, ◌+◌, List, subst, sym, length}
use Rattle.std.specs.Prelude.{Contains, count_by}
use Rattle.index_links.specs.Links.{Edge}
use Rattle.liveness.specs.Edges.{edges_of}
use Rattle.liveness.proofs.LackFacts.{enters}
use Rattle.liveness.proofs.TurnFacts.{IsTurn}
use Rattle.liveness.proofs.WorkFacts.{works_on, works_less, works_more, works_less_more, few_turns}
use Rattle.liveness.proofs.worklist.work.Goals as goal

pub settle-requires-clause-more : goal.settle-requires-clause-more
settle-requires-clause-more c = few_turns c.args.f.now c.args.b.now c.loop-p.sets c.loop-p.pending c.requires.flow c.loop-p.invariant

pub loop-p-preserved-then-settle : goal.loop-p-preserved-then-settle
loop-p-preserved-then-settle c =
    let turn : IsTurn c.args.f.now c.args.b.now c.loop-p.sets c.settle.new.self c.in-Some.p c.settle.result = record { turns = c.settle.ensures.turns; sized = c.settle.ensures.sized; others = c.settle.ensures.others; set = c.settle.ensures.set; grew_is = c.settle.ensures.grew; members = c.settle.ensures.members } in
    let sources : (x : Edge) → Contains (edges_of c.args.f.now) x → x.target ≡ c.in-Some.p → Contains c.put_sources.new.pending.waiting x.source = λ x there target. c.put_sources.ensures.put x (subst (λ (l : List Edge). Contains l x) (sym c.requires.edges) there) target in
    let few : length c.put_sources.new.pending.waiting ≤ length c.take.new.self.waiting + count_by (enters c.in-Some.p) (edges_of c.args.f.now) = subst (λ (l : List Edge). length c.put_sources.new.pending.waiting ≤ length c.take.new.self.waiting + count_by (enters c.in-Some.p) l) c.requires.edges c.put_sources.ensures.few in
    works_more c.args.f.now c.args.b.now c.loop-p.sets c.settle.new.self c.loop-p.pending c.take.new.self c.in-Some.p c.settle.result c.loop-p.invariant c.in-Some.ensures.oldest c.in-Some.ensures.size c.in-Some.ensures.small turn c.put_sources.new.pending c.put_sources.ensures.kept sources few c.put_sources.ensures.size c.if-settle.true

pub loop-p-smaller-then-settle : goal.loop-p-smaller-then-settle
loop-p-smaller-then-settle c =
    let turn : IsTurn c.args.f.now c.args.b.now c.loop-p.sets c.settle.new.self c.in-Some.p c.settle.result = record { turns = c.settle.ensures.turns; sized = c.settle.ensures.sized; others = c.settle.ensures.others; set = c.settle.ensures.set; grew_is = c.settle.ensures.grew; members = c.settle.ensures.members } in
    let sources : (x : Edge) → Contains (edges_of c.args.f.now) x → x.target ≡ c.in-Some.p → Contains c.put_sources.new.pending.waiting x.source = λ x there target. c.put_sources.ensures.put x (subst (λ (l : List Edge). Contains l x) (sym c.requires.edges) there) target in
    let few : length c.put_sources.new.pending.waiting ≤ length c.take.new.self.waiting + count_by (enters c.in-Some.p) (edges_of c.args.f.now) = subst (λ (l : List Edge). length c.put_sources.new.pending.waiting ≤ length c.take.new.self.waiting + count_by (enters c.in-Some.p) l) c.requires.edges c.put_sources.ensures.few in
    works_less_more c.args.f.now c.args.b.now c.loop-p.sets c.settle.new.self c.loop-p.pending c.take.new.self c.in-Some.p c.settle.result c.loop-p.invariant c.in-Some.ensures.oldest c.in-Some.ensures.size c.in-Some.ensures.small turn c.put_sources.new.pending c.put_sources.ensures.kept sources few c.put_sources.ensures.size c.if-settle.true

pub loop-p-preserved : goal.loop-p-preserved
loop-p-preserved c =
    let turn : IsTurn c.args.f.now c.args.b.now c.loop-p.sets c.settle.new.self c.in-Some.p c.settle.result = record { turns = c.settle.ensures.turns; sized = c.settle.ensures.sized; others = c.settle.ensures.others; set = c.settle.ensures.set; grew_is = c.settle.ensures.grew; members = c.settle.ensures.members } in
    works_on c.args.f.now c.args.b.now c.loop-p.sets c.settle.new.self c.loop-p.pending c.take.new.self c.in-Some.p c.settle.result c.loop-p.invariant c.in-Some.ensures.oldest c.in-Some.ensures.size c.in-Some.ensures.small turn c.if-settle.false

pub loop-p-smaller : goal.loop-p-smaller
loop-p-smaller c =
    let turn : IsTurn c.args.f.now c.args.b.now c.loop-p.sets c.settle.new.self c.in-Some.p c.settle.result = record { turns = c.settle.ensures.turns; sized = c.settle.ensures.sized; others = c.settle.ensures.others; set = c.settle.ensures.set; grew_is = c.settle.ensures.grew; members = c.settle.ensures.members } in
    works_less c.args.f.now c.args.b.now c.loop-p.sets c.settle.new.self c.loop-p.pending c.take.new.self c.in-Some.p c.settle.result c.loop-p.invariant c.in-Some.ensures.oldest c.in-Some.ensures.size c.in-Some.ensures.small turn c.if-settle.false
