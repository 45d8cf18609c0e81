use Rattle.std.proofs.Common.{◌≡◌, ◌++◌, List, drop}
use Rattle.hardened_form.specs.Items.{Item}
use Rattle.emit_object.specs.FirstItems.{AreItemsOf}
use Rattle.emit_object.specs.TargetSymbols.{functions_of}
use Rattle.emit_object.proofs.new_symbols.push_functions.Given as goal

-- with those of the targets to come they are all
abbrev pub invariant-loop-t : goal.invariant-loop-t
invariant-loop-t l =
    (items : List Item) → AreItemsOf l.f l.l items → l.list.items ++ functions_of items l.ordinals (drop l.t-index l.targets) ≡ l.initial.list.items ++ functions_of items l.ordinals l.targets
