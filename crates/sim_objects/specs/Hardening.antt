-- Calls of two lists of pairs end alike, up to the maps of the hardened objects.
use Rattle.std.specs.Prelude.{◌≡◌, ℕ, ◌*◌, true, false, List, Some, slice_get}
use Rattle.elf_model.specs.declared.objects.MapRow.{MapRow}
use Rattle.thumb_table.specs.declared.placements.Placement.{Placement}
use Rattle.thumb_table.specs.Parts.{Image}
use Rattle.thumb_table.specs.States.{State}
use Rattle.thumb_table.specs.Schedules.{IsLegal, Returns, OrdinaryRun}
use Rattle.thumb_table.specs.Images.{entry_of}
use Rattle.thumb_table.specs.Calls.{start}
use Rattle.flow_recover.specs.declared.flows.Point.{Point as FlowPoint}
use Rattle.sim_relation.specs.AddressMaps.{TakesEntry}
use Rattle.sim_relation.specs.Hardened.{EndsAlike}
use Rattle.sim_objects.specs.Lists.{Pairing, HaveImages}
use Rattle.sim_objects.specs.Mapping.{maps_of}

-- steps may be skipped in all units
abbrev pub AllSkip : {F c K : ℕ} → List (Pairing F c K) → Type 0
AllSkip {F} {c} {K} pairs = (i : ℕ) (q : Pairing F c K) (x : FlowPoint) → slice_get pairs i ≡ Some q → q.may_skip x ≡ true

-- A call of a name that returns by n ordinary steps has its call in the hardened image, at the name's address under the
-- maps: it returns alike within F times the steps, whatever is skipped, so long as no two steps in a row are.
abbrev pub CallEndsAlike : (F : ℕ) (plain hard : Image) (maps : List (List MapRow)) (at : Placement) (name args : List ℕ) (entry n : ℕ) (ended : State) → Type 0
CallEndsAlike F plain hard maps at name args entry n ended =
    (hard_entry : ℕ) × (entry_of hard.entries name ≡ Some hard_entry) × TakesEntry plain hard maps entry hard_entry
    × EndsAlike plain hard maps (IsLegal 2) 4 (F * n) ended (start hard at.stack hard_entry args)

abbrev pub ListsEndAlike : Type 0
ListsEndAlike =
    (F : ℕ) (pairs : List (Pairing F 2 4)) (at : Placement) (plain hard : Image) → HaveImages F 2 4 pairs at plain hard → AllSkip pairs
    → (name args : List ℕ) (entry : ℕ) → entry_of plain.entries name ≡ Some entry
    → (n : ℕ) (ended : State) → Returns plain.code (λ i. false) n 0 (start plain at.stack entry args) ended → OrdinaryRun plain.code (λ i. false) n 0 (start plain at.stack entry args)
    → CallEndsAlike F plain hard (maps_of pairs) at name args entry n ended
