use Rattle.std.proofs.Common.{◌≡◌, ◌++◌, drop}
use Rattle.emit_object.specs.RelocSites.{data_sites}
use Rattle.emit_object.proofs.reloc_sites.push_data.Given as goal

-- with those of the relocations to come they are all
abbrev pub invariant-loop-r : goal.invariant-loop-r
invariant-loop-r l = record {
  all : l.sites.items ++ data_sites l.o l.number (drop l.r-index l.o.relocs) ≡ l.initial.sites.items ++ data_sites l.o 0 l.o.relocs;
  count : l.number ≡ l.r-index;
}
