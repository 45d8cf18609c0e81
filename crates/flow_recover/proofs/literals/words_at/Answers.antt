use Rattle.std.proofs.Common.{ℕ, ap, arith, get_or, Option}
use Rattle.std.proofs.lemmas.Grind.{common_steps}
use Rattle.flow_recover.specs.declared.flows.PoolWord.{PoolWord}
use Rattle.flow_recover.specs.Settled.{word_at}
use Rattle.flow_recover.proofs.LiteralFacts.{map_more}
use Rattle.flow_recover.proofs.literals.words_at.Goals as goal

pub loop-place-preserved : goal.loop-place-preserved
loop-place-preserved c = λ o h.
    let p : ℕ × ℕ = get_or c.args.places.now c.loop-place.place-index (0, 0) in
    let with : Option ℕ → PoolWord = λ r. record { section = p.0; offset = p.1; reloc = r } in
    map_more (word_at o) c.args.places.now c.loop-place.place-index (0, 0) c.loop-place.words.items c.push.new.self.items (with c.reloc_of.result) (c.loop-place.invariant o h) c.loop-place-test.true
    (ap with (c.reloc_of.ensures o h)) c.in_ok-push.ensures.items

pub returns : goal.returns
returns c = λ o h. grind (arith, common_steps, c.loop-place.invariant o h)
