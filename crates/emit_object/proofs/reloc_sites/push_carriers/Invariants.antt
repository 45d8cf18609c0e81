use Rattle.std.proofs.Common.{◌≡◌, ◌≤◌, ◌++◌, ◌+◌, ◌*◌, drop}
use Rattle.emit_object.specs.UnitCopies.{copies_from}
use Rattle.emit_object.specs.RelocSites.{copy_sites}
use Rattle.emit_object.proofs.reloc_sites.push_carriers.Given as goal

-- with those of the copies to come they are all
abbrev pub invariant-loop-k : goal.invariant-loop-k
invariant-loop-k l = record {
  all : l.sites.items ++ copy_sites l.number l.r (copies_from l.at (drop l.k l.copies) (drop l.k l.codes)) ≡ l.initial.sites.items ++ copy_sites l.number l.r (copies_from l.start l.copies l.codes);
  low : l.at ≤ l.start + 4 * l.k;
}
