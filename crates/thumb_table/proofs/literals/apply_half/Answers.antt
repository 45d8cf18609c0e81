use Rattle.std.proofs.Common.{refl}
use Rattle.std.proofs.lemmas.Result.{IfErr-weaker, on_ok_weaker}
use Rattle.thumb_table.specs.Effects.{change}
use Rattle.thumb_table.specs.CoreStates.{site_of}
use Rattle.thumb_table.proofs.LiteralLemmas.{half_alone}
use Rattle.thumb_table.proofs.literals.apply_half.Goals as goal

pub returns-clause-done : goal.returns-clause-done
unfolding change
returns-clause-done c = on_ok_weaker c.write_word.result (λ leads m width e. rw (half_alone c.args.i.now.top c.args.i.now.d c.args.i.now.imm (site_of c.args.code.now c.args.s.now width) c.args.s.now m, ← c.half_word.ensures width, ← c.i.view_is) (leads m)) c.write_word.ensures.done

pub returns-clause-fault : goal.returns-clause-fault
unfolding change
returns-clause-fault c = IfErr-weaker c.write_word.result _ _ (λ kind fails. (λ m width e. rw (half_alone c.args.i.now.top c.args.i.now.d c.args.i.now.imm (site_of c.args.code.now c.args.s.now width) c.args.s.now m, ← c.half_word.ensures width, ← c.i.view_is, fails.0) refl, fails.1)) c.write_word.ensures.fault
