-- PAIRED OBJECTS: an object and its hardened form, said of bytes.
use Rattle.std.specs.Prelude.{◌≡◌, ◌≤◌, ℕ, ◌*◌, Bool, true, List, Some, length, slice_get, Contains}
use Rattle.elf_model.specs.declared.objects.Section.{Section}
use Rattle.elf_model.specs.Objects.{ObjectParts, is_code}
use Rattle.flow_recover.specs.declared.flows.Point.{Point}
use Rattle.flow_recover.specs.Flows.{FlowParts}
use Rattle.hardened_form.specs.Places.{UnitPlace, Places}
use Rattle.hardened_form.specs.Carriers.{Carrier}
use Rattle.hardened_form.specs.HardenedForms.{IsHardenedForm}
use Rattle.sim_relation.specs.Accepted.{Accepted, boundaries}
use Rattle.sim_relation.specs.Sequences.{Sequence, AreAmong}
use Rattle.sim_relation.specs.Doing.{IsDone}

-- Where units and words stand, which instructions of units carry relocations, and the sequences, in the order of points.
pub record Certificate : Type 0 where
  pub places : Places
  pub carriers : List (List Carrier)
  pub sequences : List Sequence

-- no section of code is longer than 16 times the old one for each copy
abbrev pub HaveGrown : ObjectParts → ObjectParts → ℕ → Type 0
HaveGrown o h c = (j : ℕ) (s t : Section) → slice_get o.sections j ≡ Some s → is_code s ≡ true → slice_get h.sections j ≡ Some t → t.size ≤ 16 * c * s.size

abbrev pub AreCarried : Certificate → Type 0
AreCarried e = (k : ℕ) (all : List Carrier) (s : Sequence) → slice_get e.carriers k ≡ Some all → slice_get e.sequences k ≡ Some s → AreAmong all s.steps

-- A point's relocation stays: one instruction of its unit carries it at least, also where nothing reads what that makes. So
-- what the plain image links there is linked in the hardened one too.
abbrev pub AreKept : FlowParts → Certificate → Type 0
AreKept f e = (n k : ℕ) (x : Point) (all : List Carrier) → slice_get f.points n ≡ Some x → slice_get e.carriers n ≡ Some all → x.reloc ≡ Some k → (c : Carrier) × Contains all c

abbrev pub AreDone : ObjectParts → ObjectParts → FlowParts → Certificate → ℕ → ℕ → ℕ → (Point → Bool) → Type 0
AreDone o h f e F c K may_skip =
    (k : ℕ) (x : Point) (u : UnitPlace) (s : Sequence) → slice_get f.points k ≡ Some x → slice_get e.places.units k ≡ Some u → slice_get e.sequences k ≡ Some s
    → IsDone o h f e.places (boundaries K) F c (may_skip x) x u s

-- h is o, hardened for c copies and K results by sequences of at most F instructions; steps may be skipped in the units of
-- these points.
pub record Paired (o h : ObjectParts) (F c K : ℕ) (may_skip : Point → Bool) : Type 0 where
  pub low : 1 ≤ F
  pub high : F ≤ 8 * c
  pub few : K ≤ 4
  pub flow : FlowParts
  pub accepted : Accepted o flow K
  pub certificate : Certificate
  pub form : IsHardenedForm o h flow certificate.places certificate.carriers
  pub grown : HaveGrown o h c
  pub count : length certificate.sequences ≡ length flow.points
  pub carried : AreCarried certificate
  pub kept : AreKept flow certificate
  pub done : AreDone o h flow certificate F c K may_skip

-- in all units
abbrev pub everywhere : Point → Bool
everywhere x = true
