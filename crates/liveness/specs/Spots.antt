-- The places of faults, by the sets before points.
use Rattle.std.specs.Prelude.{ℕ, Bool, true, false, List, [], ◌∷◌, ◌++◌, Option, Some, None, if◌then◌else◌, slice_get}
use Rattle.std.specs.Option.{option_to_list}
use Rattle.elf_model.specs.declared.refusals.Refusal.TheVariants.{LiveAtEntry, LiveAtReturn}
use Rattle.elf_model.specs.declared.refusals.Spot.{Spot}
use Rattle.thumb_instr.specs.declared.register_sets.RegSet.{RegSet}
use Rattle.thumb_instr.specs.Operands.{has}
use Rattle.flow_recover.specs.declared.flows.Point.{Point}
use Rattle.flow_recover.specs.declared.flows.Exit.{Exit}
use Rattle.flow_recover.specs.declared.flows.Exit.TheVariants.{Falls, Branch, Transfer, Call, Return, Stops}
use Rattle.flow_recover.specs.Flows.{FlowParts}
use Rattle.code_ranges.specs.Spots.{spot_of}

-- r12 and the flags; and with lr
abbrev pub unset : List ℕ
unset = 12 ∷ 16 ∷ 17 ∷ 18 ∷ 19 ∷ []

abbrev pub lost : List ℕ
lost = 12 ∷ 14 ∷ 16 ∷ 17 ∷ 18 ∷ 19 ∷ []

-- the first of some numbers that is a member
abbrev pub first_member : List ℕ → RegSet → Option ℕ
first_member [] s = None
first_member (k ∷ rest) s = if has s.0 k then Some k else first_member rest s

abbrev pub first_in : List ℕ → Option RegSet → Option ℕ
first_in among None = None
first_in among (Some s) = first_member among s

abbrev pub spot_at_entry : Option Point → Option ℕ → Option Spot
spot_at_entry None k = None
spot_at_entry (Some x) None = None
spot_at_entry (Some x) (Some k) = Some (spot_of (LiveAtEntry k) x.section x.offset)

abbrev pub entry_spot : List Point → List RegSet → ℕ → Option Spot
entry_spot points sets p = spot_at_entry (slice_get points p) (first_in unset (slice_get sets p))

abbrev pub is_call : Exit → Bool
is_call Falls = false
is_call (Branch _) = false
is_call Transfer = false
is_call Call = true
is_call Return = false
is_call Stops = false

abbrev pub first_after : List RegSet → Option ℕ → Option ℕ
first_after sets None = None
first_after sets (Some q) = first_in lost (slice_get sets q)

abbrev pub spot_at_call : Point → Option ℕ → Option Spot
spot_at_call x None = None
spot_at_call x (Some k) = Some (spot_of (LiveAtReturn k) x.section x.offset)

abbrev pub call_spot : List RegSet → Point → Option Spot
call_spot sets x = if is_call x.exit then spot_at_call x (first_after sets x.next) else None

-- what some elements give, in order
abbrev pub picked : {X Y : Type 0} → (X → Option Y) → List X → List Y
picked f [] = []
picked f (x ∷ rest) = option_to_list (f x) ++ picked f rest

abbrev pub all_spots : FlowParts → List RegSet → List Spot
all_spots f sets = picked (entry_spot f.points sets) f.entries ++ picked (call_spot sets) f.points
