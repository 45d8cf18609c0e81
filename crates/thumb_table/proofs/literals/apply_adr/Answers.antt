use Rattle.std.proofs.Common.{refl, ap}
use Rattle.std.proofs.lemmas.Result.{IfErr-weaker, on_ok_weaker}
use Rattle.thumb_instr.specs.Fields.{AdrFields}
use Rattle.thumb_table.specs.CoreStates.{site_of, core_of}
use Rattle.thumb_table.proofs.LiteralLemmas.{adr_change}
use Rattle.thumb_table.proofs.literals.apply_adr.Goals as goal

pub returns-clause-done : goal.returns-clause-done
returns-clause-done c = on_ok_weaker c.write_word.result (λ leads code m width e.
    rw (adr_change c.args.i.now (site_of code c.args.s.now width) (core_of c.args.s.now m) c.i.inside.d c.near.result (ap (λ (x : AdrFields). x.d) c.i.view_is) c.near.ensures) (leads m)) c.write_word.ensures.done

pub returns-clause-fault : goal.returns-clause-fault
returns-clause-fault c = IfErr-weaker c.write_word.result _ _ (λ kind fails. (
  λ code m width e.
      rw (adr_change c.args.i.now (site_of code c.args.s.now width) (core_of c.args.s.now m) c.i.inside.d c.near.result (ap (λ (x : AdrFields). x.d) c.i.view_is) c.near.ensures, fails.0) refl,
  fails.1,
)) c.write_word.ensures.fault
