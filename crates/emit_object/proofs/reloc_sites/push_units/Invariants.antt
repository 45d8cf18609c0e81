use Rattle.std.proofs.Common.{◌≡◌, ◌++◌, drop}
use Rattle.emit_object.specs.RelocSites.{step_sites}
use Rattle.emit_object.proofs.reloc_sites.push_units.Given as goal

-- with those of the units to come they are all
abbrev pub invariant-loop-u : goal.invariant-loop-u
invariant-loop-u l = l.sites.items ++ step_sites l.o (drop l.u-index l.units) ≡ l.initial.sites.items ++ step_sites l.o l.units
