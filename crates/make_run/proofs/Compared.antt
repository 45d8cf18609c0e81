-- What ends alike is the same by the map that is read of the hardened object.
use Rattle.std.proofs.Common.{◌≡◌, ◌∷◌, [], ◌↔◌, ℕ, List, subst}
use Rattle.elf_model.specs.declared.objects.MapRow.{MapRow}
use Rattle.elf_model.specs.Maps.{HasMap}
use Rattle.elf_read.proofs.MapFaults.{one_map}
use Rattle.skip_machine.specs.Machines.{Machine, state}
use Rattle.sim_relation.specs.AddressMaps.{TakesEntry, TakesReturn, SameState}
use Rattle.sim_relation.specs.Same.{IsSame, SameByRows}
use Rattle.sim_relation.specs.Taken.{MapParts, TakenTo}
use Rattle.make_run.specs.declared.making.Made.{Made}
use Rattle.make_run.specs.MakeSteps.{EndAlike}

pub compared : SameByRows → (m : Made) (p q : Machine) → EndAlike m p q → (rows : List MapRow) → HasMap m.hardened.object rows → (by : MapParts)
    → ((a b : ℕ) → TakenTo by.entries a b ↔ TakesEntry m.plain m.hard (rows ∷ []) a b) → ((a b : ℕ) → TakenTo by.returns a b ↔ TakesReturn m.plain m.hard (rows ∷ []) a b) → IsSame by (state p) (state q)
compared law m p q alike rows has by entries returns =
    let one : alike.rows ≡ rows = one_map m.hardened.object alike.rows rows alike.has_map has in
    let same = subst (λ (r : List MapRow). SameState m.plain m.hard (r ∷ []) 4 (state p) (state q)) one alike.same in
    (law m.plain m.hard (rows ∷ []) by entries returns (state p) (state q)).1 same
