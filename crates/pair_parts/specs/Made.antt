-- The laws that what is made of an object by way of units and their layout is paired with it, and is within the limits of
-- every object.
use Rattle.std.specs.Prelude.{◌≡◌, ◌⊎◌, ◌≤◌, ℕ, length, Contains, IsTrue}
use Rattle.elf_model.specs.declared.refusals.TheConstants.Limit.{INPUT, ANY}
use Rattle.elf_model.specs.Objects.{ObjectParts, is_object, is_within}
use Rattle.flow_recover.specs.Flows.{FlowParts}
use Rattle.seq_core.specs.Places.{PlacedParts, LayoutParts}
use Rattle.branch_layout.specs.Laid.{laid_places}
use Rattle.hardened_form.specs.HardenedForms.{IsHardenedForm}
use Rattle.emit_object.specs.UnitCopies.{all_carriers, HaveCodes}
use Rattle.emit_object.specs.Emitting.{units_of, CanEmit}
use Rattle.point_units.specs.Units.{AreUnits}
use Rattle.sim_relation.specs.Accepted.{Accepted, boundaries}
use Rattle.sim_relation.specs.Pairs.{Paired, everywhere}

-- h is made of o by units for c copies and K results, at the places of a layout.
pub record IsMade (o h : ObjectParts) (f : FlowParts) (c K : ℕ) (l : LayoutParts) : Type 0 where
  pub units : AreUnits o f (boundaries K) c f.points (units_of l)
  pub can : CanEmit o f l
  pub form : IsHardenedForm o h f (laid_places l) (all_carriers l)
  pub codes : HaveCodes h l

-- the instructions of a unit
abbrev pub count_of : PlacedParts → ℕ
count_of u = length u.codes

abbrev pub AreAtMost : ℕ → LayoutParts → Type 0
AreAtMost F l = (u : PlacedParts) → Contains l.units u → count_of u ≤ F

-- as many instructions as the longest unit has, and one at least
pub record IsFactor (l : LayoutParts) (F : ℕ) : Type 0 where
  pub low : 1 ≤ F
  pub enough : AreAtMost F l
  pub one : (F ≡ 1) ⊎ ((u : PlacedParts) × Contains l.units u × (count_of u ≡ F))

pub record AreObjects (o h : ObjectParts) : Type 0 where
  pub plain : IsTrue (is_object o)
  pub within : IsTrue (is_within o INPUT)
  pub hard : IsTrue (is_object h)

abbrev pub MadeArePaired : Type 0
MadeArePaired = (o h : ObjectParts) (f : FlowParts) (c K F : ℕ) (l : LayoutParts) → AreObjects o h → Accepted o f K → 2 ≤ c → c ≤ 4 → K ≤ 4 →
    IsMade o h f c K l → IsFactor l F → Paired o h F c K everywhere

abbrev pub MadeAreWithin : Type 0
MadeAreWithin = (o h : ObjectParts) (f : FlowParts) (c K : ℕ) (l : LayoutParts) → AreObjects o h → Accepted o f K → 2 ≤ c → c ≤ 4 →
    IsMade o h f c K l → IsTrue (is_within h ANY)
