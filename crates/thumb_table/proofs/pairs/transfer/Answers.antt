use Rattle.std.proofs.Common.{◌≡◌, ◌+◌, ◌++◌, refl, ap}
use Rattle.std.proofs.lemmas.Result.{on_ok_weaker}
use Rattle.thumb_instr.specs.Fields.{PairFields}
use Rattle.mark_word.specs.Marks.{pieces}
use Rattle.thumb_table.specs.States.{read}
use Rattle.thumb_table.specs.Effects.{from, word_at}
use Rattle.thumb_table.specs.CoreStates.{alone}
use Rattle.thumb_table.proofs.PairLemmas.{pair_load, pair_store}
use Rattle.thumb_table.proofs.pairs.transfer.Goals as goal

pub returns-in-Ok-clause-done : goal.returns-in-Ok-clause-done
returns-in-Ok-clause-done c =
    let i = c.args.i.now in
    let s = c.args.s.now in
    let m = c.args.m.now in
    let a = c.args.address in
    let t = c.word-t.result in
    let u = c.word-u.result in
    let first : t ≡ read (alone s) i.t = rw (← c.i.view_is) c.word-t.ensures in
    let second : u ≡ read (alone s) i.u = rw (← c.i.view_is) c.word-u.ensures in
    rw (pair_store i a s m c.i.inside.n c.base_of-base.result t u (ap (λ (x : PairFields). x.n) c.i.view_is) c.base_of-base.ensures (rw (← c.i.view_is) c.if-i.false) first second, c.store_word-in-Ok.ensures, c.store_word.ensures)
    (c.in-Ok.ensures.done (from a (pieces t) ++ from (a + 4) (pieces u)) m)

pub returns-then-i-clause-done : goal.returns-then-i-clause-done
returns-then-i-clause-done c =
    let i = c.args.i.now in
    let m = c.args.m.now in
    let a = c.args.address in
    let first : c.word_at.result.word ≡ (word_at m a).word = rw (c.word_at.ensures, c.from-at.ensures) refl in
    let second : c.word_at-then-i.result.word ≡ (word_at m (a + 4)).word = rw (c.word_at-then-i.ensures, c.from-at.ensures) refl in
    let outcome = pair_load i a c.args.s.now m c.i.inside.n c.i.inside.t c.i.inside.u c.base_of-base.result c.word_at.result.word c.word_at-then-i.result.word
    (ap (λ (x : PairFields). x.n) c.i.view_is) c.base_of-base.ensures (rw (← c.i.view_is) c.if-i.true)
    (ap (λ (x : PairFields). x.t) c.i.view_is) (ap (λ (x : PairFields). x.u) c.i.view_is) first second in
    on_ok_weaker c.put_pair.result (λ leads. rw outcome (leads m)) c.put_pair.ensures.done
