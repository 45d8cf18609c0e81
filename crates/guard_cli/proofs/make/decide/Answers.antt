use Rattle.std.proofs.Common.{refl, sym, ap, subst, None, List, ℕ}
use Rattle.make_run.specs.Making.{IsMade}
use Rattle.guard_cli.specs.MakeWork.{make_work}
use Rattle.guard_cli.proofs.Carried.{made_saying}
use Rattle.guard_cli.proofs.make.decide.Goals as goal

pub returns : goal.returns
returns c = λ loaded.
    let said = c.into_bytes.result.items in
    let made = subst (λ (t : List ℕ). IsMade c.args.seed c.args.count t) (sym (ap (λ v. v.items) c.into_bytes.ensures.value)) c.in_ok-text.ensures in
    made_saying (make_work (record { seed = c.args.seed; count = c.args.count })) loaded said None c.saying.result c.saying.ensures (refl, made)
