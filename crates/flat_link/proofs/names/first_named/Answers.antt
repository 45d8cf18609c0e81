use Rattle.std.proofs.Common.{sym, ap, ◌∙◌, arith}
use Rattle.std.specs.Prelude.{option_map}
use Rattle.flat_link.specs.Known.{defined_of, named}
use Rattle.flat_link.proofs.NameFacts.{first_more, first_less}
use Rattle.flat_link.proofs.names.first_named.Goals as goal
use Rattle.flat_link.proofs.names.first_named.Goals.{then-is_bound+in_ok-note, else-is_bound}

pub loop-known-preserved : goal.loop-known-preserved
loop-known-preserved c =
    elim c.if-is_bound.branch [
      | then-is_bound+in_ok-note w ↦ λ n.
          ap (λ (m : _). option_map defined_of (named n m)) w.names-is
          ∙ first_more c.args.binding n c.args.all.now c.loop-known.known-index c.known-item.result _ _ (omega arith) c.known-item.is (sym c.is_bound.ensures ∙ w.if-is_bound.true) (w.in_ok-note.ensures n) (c.loop-known.invariant n)
      | else-is_bound w ↦ λ n.
          ap (λ (m : _). option_map defined_of (named n m)) w.names-is
          ∙ first_less c.args.binding n c.args.all.now c.loop-known.known-index c.known-item.result _ (omega arith) c.known-item.is (sym c.is_bound.ensures ∙ w.if-is_bound.false) (c.loop-known.invariant n)
    ]
