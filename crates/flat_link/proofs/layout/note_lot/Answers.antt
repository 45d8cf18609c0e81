use Rattle.std.proofs.Common.{◌≡◌, ℕ, Bool, cond, Option, Some, None, sym, ap, ◌∙◌}
use Rattle.std.specs.BTreeMap.{get}
use Rattle.code_ranges.specs.Spans.{place_cmp}
use Rattle.code_ranges.proofs.PlaceOrder.{same_place}
use Rattle.flat_link.specs.declared.lots.Lot.{Lot}
use Rattle.flat_link.proofs.NameFacts.{is_none_copied}
use Rattle.flat_link.proofs.LayoutFacts.{lot_new}
use Rattle.flat_link.proofs.layout.note_lot.Goals as goal

pub returns-in_ok-insert : goal.returns-in_ok-insert
returns-in_ok-insert c = λ i j.
    let old : ℕ → ℕ → Option Lot = λ a b. get place_cmp c.args.table.now (a, b) in
    let a = c.args.l.object in
    let b = c.args.l.index in
    let none : old a b ≡ None = sym c.get.ensures.value ∙ is_none_copied c.get.result c.is_none.result c.is_none.ensures c.if-is_none.true in
    lot_new a b i j old c.args.l (get place_cmp c.insert.new.self (i, j))
    (c.in_ok-insert.ensures.updates.0 (i, j) ∙ ap (λ (t : Bool). cond t (Some c.args.l) (old i j)) (same_place a b i j)) none
