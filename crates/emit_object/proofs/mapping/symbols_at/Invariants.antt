use Rattle.std.proofs.Common.{◌≡◌, ◌++◌, drop, map}
use Rattle.hardened_form.specs.MappingSymbols.{mapping_symbol}
use Rattle.emit_object.specs.Marks.{mapping_at}
use Rattle.emit_object.proofs.mapping.symbols_at.Given as goal

-- with those of the places to come they are all
abbrev pub invariant-loop-p : goal.invariant-loop-p
invariant-loop-p l = l.list.items ++ map mapping_symbol (map (mapping_at l.words) (drop l.p-index l.places)) ≡ map mapping_symbol (map (mapping_at l.words) l.places)
