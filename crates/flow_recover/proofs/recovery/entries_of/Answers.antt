use Rattle.std.proofs.Common.{◌≡◌, ℕ, ◌+◌, List, Vec, Global, get_or, sym, ap, subst, ◌∙◌, Some}
use Rattle.std.specs.Prelude.{slice_get}
use Rattle.std.specs.BTreeSet.{contains}
use Rattle.std.proofs.lemmas.Bool.{true≢false}
use Rattle.std.proofs.lemmas.Option.{slice_get-get_or}
use Rattle.flow_recover.specs.declared.nodes.Node.{Node}
use Rattle.code_ranges.specs.Spans.{place_cmp}
use Rattle.flow_recover.proofs.EntryIndexes.{AreUpTo, none_up_to, same_up_to, more_up_to, done_up_to}
use Rattle.flow_recover.proofs.recovery.entries_of.Goals.{then-is_entered+in_ok-push, else-is_entered}
use Rattle.flow_recover.proofs.recovery.entries_of.Goals as goal

abbrev nowhere : Node
nowhere = record { section = 0; offset = 0; it = 0 }

pub loop-q-init : goal.loop-q-init
loop-q-init c = none_up_to (λ j x. contains place_cmp c.args.places.now (j, x)) c.args.nodes.now c.new-entries.result.items c.new-entries.ensures.items

pub loop-q-preserved : goal.loop-q-preserved
loop-q-preserved c =
    let n : Node = get_or c.args.nodes.now c.loop-q.q nowhere in
    let at : slice_get c.args.nodes.now c.loop-q.q ≡ Some n = slice_get-get_or c.args.nodes.now c.loop-q.q nowhere c.loop-q-test.true in
    elim c.if-is_entered.branch [
      | then-is_entered+in_ok-push w ↦
          more_up_to (λ j x. contains place_cmp c.args.places.now (j, x)) c.args.nodes.now c.loop-q.q n at c.loop-q.entries.items c.loop-q.invariant c.if-is_entered.entries.items
          (c.is_entered.ensures.0 w.if-is_entered.true) (ap (λ (v : Vec ℕ Global). v.items) w.entries-is ∙ w.in_ok-push.ensures.items)
      | else-is_entered w ↦
          subst (λ (l : List ℕ). AreUpTo (λ j x. contains place_cmp c.args.places.now (j, x)) c.args.nodes.now (c.loop-q.q + 1) l) (sym (ap (λ (v : Vec ℕ Global). v.items) w.entries-is))
          (same_up_to (λ j x. contains place_cmp c.args.places.now (j, x)) c.args.nodes.now c.loop-q.q n at c.loop-q.entries.items c.loop-q.invariant (λ a. true≢false (sym (c.is_entered.ensures.1 a) ∙ w.if-is_entered.false)))
    ]

pub returns : goal.returns
returns c = done_up_to (λ j x. contains place_cmp c.args.places.now (j, x)) c.args.nodes.now c.loop-q.q c.loop-q.entries.items c.loop-q-test.false c.loop-q.invariant
