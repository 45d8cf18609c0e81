-- A device of proof: what stands so far, of the first units and words.
use Rattle.std.specs.Prelude.{[], ◌∷◌, ◌++◌, ◌≡◌, ◌≤◌, ◌<◌, ◌⊎◌, ℕ, ◌+◌, ◌*◌, ◌^◌, List, Some, length, map, take, slice_get, Contains}
use Rattle.std.specs.List.{AllZip}
use Rattle.std.specs.declared.cmp.Ordering.TheVariants.{Less}
use Rattle.elf_model.specs.declared.refusals.Refusal.TheVariants.{OutOfReach, CodeTooBig}
use Rattle.elf_model.specs.declared.refusals.Spot.{Spot}
use Rattle.branch_layout.specs.Faults.{LoadsFrom, IsFar, IsBig}
use Rattle.code_ranges.specs.Spans.{place_cmp}
use Rattle.seq_core.specs.declared.units.Unit.{Unit as SeqUnit}
use Rattle.flow_recover.specs.declared.flows.PoolWord.{PoolWord}
use Rattle.hardened_form.specs.Items.{Item, AreItems, items_in, StandFrom}
use Rattle.branch_layout.specs.Widths.{AllLong}
use Rattle.branch_layout.specs.Placings.{Stretch, Placing, places_of, IsStretch, IsPlacing, unit_point, word_point}

-- all sections but the last, and what has its end
pub record StandingParts : Type 0 where
  pub placing : Placing
  pub end : ℕ

pub record Stands (units : List SeqUnit) (words : List PoolWord) (s : StandingParts) : Type 0 where
  pub items : List Item
  pub of : AreItems (map unit_point units) (map word_point words) (places_of s.placing) items
  pub stretches : AllZip IsStretch units s.placing.units
  pub long : AllLong units s.placing.units
  pub within : (it : Item) → Contains items it → it.section ≤ length s.placing.sizes
  pub stand : (j size : ℕ) → slice_get s.placing.sizes j ≡ Some size → StandFrom 0 (items_in items j) size
  pub last : StandFrom 0 (items_in items (length s.placing.sizes)) s.end
  pub short : s.end ≤ 128 * (length units + length words)
  pub few : length s.placing.sizes < 2 ^ 32
  pub small : (j size : ℕ) → slice_get s.placing.sizes j ≡ Some size → size ≤ 128 * (length units + length words)

-- Something stands in the last section, unless nothing stands at all.
pub record IsUsed (count : ℕ) (items : List Item) (last : ℕ) : Type 0 where
  pub used : ((count ≡ 0) × (last ≡ 0)) ⊎ ((it : Item) × Contains items it × (it.section ≡ last))

pub record StandsUsed (units : List SeqUnit) (words : List PoolWord) (s : StandingParts) : Type 0 where
  pub stands : Stands units words s
  pub used : IsUsed (length units + length words) stands.items (length s.placing.sizes)

-- all of them are before a place
abbrev pub AllBefore : List (ℕ × ℕ) → ℕ × ℕ → Type 0
AllBefore qs r = (q : ℕ × ℕ) → Contains qs q → place_cmp q r ≡ Less

-- The next place of a list, before the next one of another list.
pub record IsNext (places others : List (ℕ × ℕ)) (i k : ℕ) : Type 0 where
  pub place : ℕ × ℕ
  pub there : slice_get places i ≡ Some place
  pub before : (q : ℕ × ℕ) → slice_get others k ≡ Some q → place_cmp place q ≡ Less

-- The next place of each list is behind the first ones of the other.
pub record AreAhead (places others : List (ℕ × ℕ)) (i k : ℕ) : Type 0 where
  pub one : (q : ℕ × ℕ) → slice_get places i ≡ Some q → AllBefore (take k others) q
  pub other : (q : ℕ × ℕ) → slice_get others k ≡ Some q → AllBefore (take i places) q

-- the first units and words stand
pub record StandsAt (units : List SeqUnit) (words : List PoolWord) (i k : ℕ) (s : StandingParts) : Type 0 where
  pub units_left : i ≤ length units
  pub words_left : k ≤ length words
  pub stands : StandsUsed (take i units) (take k words) s
  pub ahead : AreAhead (map unit_point units) (map word_point words) i k

abbrev pub StandsOn : StandingParts → StandingParts → Type 0
StandsOn old new = (units : List SeqUnit) (words : List PoolWord) → Stands units words old → Stands units words new

abbrev pub TakesUnit : SeqUnit → StandingParts → StandingParts → Type 0
TakesUnit u old new = (units : List SeqUnit) (words : List PoolWord) → Stands units words old → AllBefore (map unit_point units) (unit_point u) → AllBefore (map word_point words) (unit_point u) → StandsUsed (units ++ u ∷ []) words new

abbrev pub TakesWord : PoolWord → StandingParts → StandingParts → Type 0
TakesWord w old new = (units : List SeqUnit) (words : List PoolWord) → Stands units words old → AllBefore (map unit_point units) (word_point w) → AllBefore (map word_point words) (word_point w) → StandsUsed units (words ++ w ∷ []) new

pub record IsPlaced (units : List SeqUnit) (words : List PoolWord) (p : Placing) : Type 0 where
  pub placing : IsPlacing units words p
  pub long : AllLong units p.units
  pub few : length p.sizes ≤ 2 ^ 32
  pub small : (j size : ℕ) → slice_get p.sizes j ≡ Some size → size ≤ 128 * (length units + length words)

abbrev pub Finishes : StandingParts → Placing → Type 0
Finishes s p = (units : List SeqUnit) (words : List PoolWord) → StandsUsed units words s → 0 < length units + length words → IsPlaced units words p

-- The first unit whose word is out of reach, and the first section that is too big.
abbrev pub NoneFar : List SeqUnit → Placing → Type 0
NoneFar units p = (k : ℕ) (u : SeqUnit) (s : Stretch) (d : ℕ) → slice_get units k ≡ Some u → slice_get p.units k ≡ Some s → LoadsFrom p u s d → d ≤ 4095

pub record IsFirstFar (units : List SeqUnit) (p : Placing) (k d : ℕ) : Type 0 where
  pub far : IsFar units p k d
  pub none : (i e : ℕ) → i < k → ¬ IsFar units p i e

abbrev pub NoneBig : List ℕ → Type 0
NoneBig sizes = (j : ℕ) → ¬ IsBig sizes j

pub record IsFirstBig (sizes : List ℕ) (j : ℕ) : Type 0 where
  pub big : IsBig sizes j
  pub none : (i : ℕ) → i < j → ¬ IsBig sizes i

abbrev pub out_of_reach : SeqUnit → ℕ → Spot
out_of_reach u d = record { refusal = OutOfReach d; file = 0; section = u.section; offset = u.old }

abbrev pub too_big : ℕ → Spot
too_big j = record { refusal = CodeTooBig; file = 0; section = j; offset = 0 }

-- of a unit and a section that have faults, which of them comes first
abbrev pub IsUnitFirst : SeqUnit → ℕ → Type 0
IsUnitFirst u j = (u.section < j) ⊎ ((u.section ≡ j) × (u.old ≡ 0))

abbrev pub IsEarlier : SeqUnit → ℕ → ℕ → Spot → Type 0
IsEarlier u d j spot = (IsUnitFirst u j × (spot ≡ out_of_reach u d)) ⊎ ((IsUnitFirst u j → ⊥) × (spot ≡ too_big j))
