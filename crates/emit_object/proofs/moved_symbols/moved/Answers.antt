use Rattle.std.proofs.Common.{◌∙◌, ap}
use Rattle.hardened_form.specs.Symbols.{moved_size}
use Rattle.emit_object.proofs.MovedFacts.{moved_is}
use Rattle.emit_object.proofs.moved_symbols.moved.Goals as goal

pub returns-in_ok-t-in-Some : goal.returns-in_ok-t-in-Some
returns-in_ok-t-in-Some c = λ h items sized are.
    c.in_ok-t-in-Some.ensures
    ∙ moved_is c.args.o.now h c.args.l.now.sizes sized items c.args.s.now c.in-Some.j c.in-Some.at c.moved_size-size.result
    (c.moved_size-size.ensures items are ∙ ap (moved_size items c.in-Some.j c.args.s.now c.in-Some.at) c.size_at.ensures) (c.in-Some.ensures.is items are)
