-- What linking puts at the relocated places of a unit in the hardened image.
use Rattle.std.specs.Prelude.{◌≡◌, ℕ, ◌+◌, true, false, List, Option, Some, None, slice_get}
use Rattle.thumb_table.specs.declared.placements.Placement.{Placement}
use Rattle.thumb_table.specs.Layouts.{all_placed}
use Rattle.thumb_table.specs.Links.{Link, IsLink, leads_to_code, full, target_of, value_for, value_of}
use Rattle.reloc_places.specs.Relocations.{is_jump}
use Rattle.flow_recover.specs.declared.flows.Point.{Point as FlowPoint}
use Rattle.flow_recover.specs.declared.flows.PoolWord.{PoolWord}
use Rattle.hardened_form.specs.Standing.{new_place}
use Rattle.sim_images.specs.Counterparts.{Places}
use Rattle.sim_images.specs.PairLaws.{Moves}
use Rattle.sim_relation.specs.Standing.{Linking}
use Rattle.sim_relation.specs.Doing.{MayLink}
use Rattle.sim_objects.specs.Lists.{Pairing, plains, hards}
use Rattle.sim_objects.specs.Charts.{start_at}

-- where the points of each object went: to the starts of their units
abbrev pub moved_by : {F c K : ℕ} → Option (Pairing F c K) → Places
moved_by {F} {c} {K} None = λ j x. None
moved_by {F} {c} {K} (Some q) = new_place q.pair.form.lists.items

abbrev pub moved_in : {F c K : ℕ} → List (Pairing F c K) → ℕ → Places
moved_in {F} {c} {K} pairs i = moved_by (slice_get pairs i)

-- an address of a point in the plain image, and the place of its unit in the hardened one
abbrev pub GoesTo : (F c K : ℕ) (pairs : List (Pairing F c K)) (at : Placement) → ℕ → ℕ → Type 0
GoesTo F c K pairs at a b = Moves (plains pairs) (hards pairs) at (moved_in pairs) a b

-- What is put for a relocation l of the plain list: the unit's place for the point that a branch leads to; the plain
-- number where that is no address of code; and where it is one, what the kind of relocation makes of the unit's place.
pub data IsPutFor (F c K : ℕ) (pairs : List (Pairing F c K)) (at : Placement) (l : Link) (link : Linking) : Type 0 where
  branch : is_jump l.reloc.kind ≡ true → GoesTo F c K pairs at (target_of (all_placed (plains pairs) at) l) link.target → IsPutFor F c K pairs at l link
  number : is_jump l.reloc.kind ≡ false → leads_to_code (all_placed (plains pairs) at) l ≡ false → link.number ≡ value_of (all_placed (plains pairs) at) l → IsPutFor F c K pairs at l link
  address : (a b : ℕ) → is_jump l.reloc.kind ≡ false → leads_to_code (all_placed (plains pairs) at) l ≡ true → full (all_placed (plains pairs) at) l ≡ a + 1 → GoesTo F c K pairs at a b
      → link.number ≡ value_for l.reloc.kind 0 (b + 1) → IsPutFor F c K pairs at l link

-- So it is for the relocation of the point x of object i, and for that of the word that it loads. Where there is none, the
-- number is the object's own, and the target the unit of the object's.
pub record IsUnitLink (F c K : ℕ) (pairs : List (Pairing F c K)) (at : Placement) (i : ℕ) (q : Pairing F c K) (x : FlowPoint) (link : Linking) : Type 0 where
  pub reloc : (l : Link) → IsLink (plains pairs) at l → l.file ≡ i → x.reloc ≡ Some l.number → IsPutFor F c K pairs at l link
  pub word : (n : ℕ) (w : PoolWord) (l : Link) → x.word ≡ Some n → slice_get q.pair.flow.words n ≡ Some w → IsLink (plains pairs) at l → l.file ≡ i → w.reloc ≡ Some l.number
      → IsPutFor F c K pairs at l link
  pub may : MayLink q.plain q.pair.flow q.pair.certificate.places (start_at (hards pairs) at i x.section) x link
