use Rattle.std.proofs.Common.{◌≡◌, ◌++◌, List, drop, map, filter}
use Rattle.elf_model.specs.Objects.{ObjectParts}
use Rattle.hardened_form.specs.Items.{Item}
use Rattle.hardened_form.specs.Symbols.{moved, is_shared}
use Rattle.emit_object.specs.FirstItems.{AreItemsOf}
use Rattle.emit_object.specs.Laid.{HasSizes}
use Rattle.emit_object.proofs.new_symbols.push_shared.Given as goal

-- with those of the symbols to come they are all
abbrev pub invariant-loop-s : goal.invariant-loop-s
invariant-loop-s l =
    (h : ObjectParts) (items : List Item) → HasSizes l.o h l.l.sizes → AreItemsOf l.f l.l items
    → l.list.items ++ map (moved l.o h items) (filter is_shared (drop l.s-index l.o.symbols)) ≡ l.initial.list.items ++ map (moved l.o h items) (filter is_shared l.o.symbols)
