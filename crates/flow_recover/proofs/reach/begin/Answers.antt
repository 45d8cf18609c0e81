use Rattle.std.proofs.Common.{◌≡◌, List, false, take, take_all, subst, arith}
use Rattle.flow_recover.specs.declared.named.Claim.{Claim}
use Rattle.flow_recover.proofs.WalkFacts.{HasBegun, begun_more, begun_all}
use Rattle.flow_recover.proofs.reach.begin.Goals as goal

abbrev no_claim : Claim
no_claim = record { section = 0; offset = 0; from_section = 0; from_offset = 0; entry = false }

pub loop-c-preserved : goal.loop-c-preserved
loop-c-preserved c = begun_more c.args.o.now c.args.named.now c.loop-c.c-index no_claim c.loop-c.walk c.come_to.new.walk c.requires.named c.loop-c-test.true c.come_to.ensures c.loop-c.invariant

pub returns-clause-begun : goal.returns-clause-begun
returns-clause-begun c =
    let all : take c.loop-c.c-index c.args.named.now ≡ c.args.named.now = take_all c.loop-c.c-index c.args.named.now (omega arith) in
    begun_all c.args.o.now c.args.named.now c.loop-c.walk c.requires.named (subst (λ (l : List Claim). HasBegun c.args.o.now l c.loop-c.walk) all c.loop-c.invariant)
