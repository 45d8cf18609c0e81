use Rattle.std.proofs.Common.{◌≡◌, ◌≤◌, ◌+◌, ◌++◌, List, drop}
use Rattle.hardened_form.specs.Items.{Item}
use Rattle.hardened_form.specs.Symbols.{stays}
use Rattle.emit_object.specs.FirstItems.{AreItemsOf}
use Rattle.emit_object.specs.MovedSymbols.{numbers_from}
use Rattle.emit_object.proofs.numbers.numbers.Given as goal

-- with those of the symbols to come they are all; the numbers so far are few
abbrev pub invariant-loop-s : goal.invariant-loop-s
invariant-loop-s l = record {
  all : (items : List Item) → AreItemsOf l.f l.l items → l.list.items ++ numbers_from (stays l.o items) l.kept l.shared (drop l.s-index l.o.symbols) ≡ numbers_from (stays l.o items) 0 l.fn.first_shared l.o.symbols;
  few : l.kept ≤ l.s-index;
  below : l.shared ≤ l.fn.first_shared + l.s-index;
}
