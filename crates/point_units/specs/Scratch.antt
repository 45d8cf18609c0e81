-- THE SCRATCH RULE: which registers the sequence of a point may spoil, and where there are too few.
use Rattle.std.specs.Prelude.{◌≡◌, ◌<◌, ◌⊎◌, ◌↔◌, ℕ, ◌&&◌, ◌||◌, not, Bool, true, false, List, [], ◌∷◌, length, Contains, ⊤}
use Rattle.std.specs.List.{filter}
use Rattle.elf_model.specs.declared.refusals.Refusal.{Refusal}
use Rattle.elf_model.specs.declared.refusals.Refusal.TheVariants.{NoScratch}
use Rattle.elf_model.specs.declared.refusals.Spot.{Spot}
use Rattle.elf_model.specs.declared.refusals.Deny.{Deny}
use Rattle.elf_model.specs.declared.refusals.Deny.TheVariants.{NoMemory, Refused}
use Rattle.thumb_instr.specs.declared.instructions.Instr.{Instr}
use Rattle.thumb_instr.specs.Sets.{reads_of, writes_of}
use Rattle.code_ranges.specs.CodeRanges.{comes_before}
use Rattle.flow_recover.specs.declared.flows.Point.{Point}
use Rattle.flow_recover.specs.Flows.{FlowParts}
use Rattle.liveness.specs.declared.boundary.Boundary.{Boundary}
use Rattle.liveness.specs.Paths.{IsLiveAfter}
use Rattle.seq_core.specs.declared.classes.Class.{Class}
use Rattle.seq_core.specs.Classes.{IsOf}
use Rattle.seq_core.specs.Needs.{registers_of, changes_flags}

-- r12 first, then r0 upwards
abbrev pub order : List ℕ
order = 12 ∷ 0 ∷ 1 ∷ 2 ∷ 3 ∷ 4 ∷ 5 ∷ 6 ∷ 7 ∷ 8 ∷ 9 ∷ 10 ∷ 11 ∷ []

-- dead behind the instruction, and neither read nor written by it
abbrev pub is_scratch : (ℕ → Bool) → Instr → ℕ → Bool
is_scratch live i q = not (live q || (reads_of i q || writes_of i q))

abbrev pub scratch_of : (ℕ → Bool) → Instr → List ℕ
scratch_of live i = filter (is_scratch live i) order

-- one of the four flags is live
abbrev pub has_live_flag : (ℕ → Bool) → Bool
has_live_flag live = live 16 || (live 17 || (live 18 || live 19))

-- exactly the members that are live behind a point
abbrev pub IsLive : FlowParts → Boundary → Point → (ℕ → Bool) → Type 0
IsLive f b x live = (k : ℕ) → (live k ≡ true) ↔ IsLiveAfter f b k x

-- A point's instruction has fewer scratch registers than its sequence needs, or needs flags of which one is live.
pub record Lacks (f : FlowParts) (b : Boundary) (x : Point) (need have : ℕ) (flags : Bool) : Type 0 where
  pub live : ℕ → Bool
  pub is_live : IsLive f b x live
  pub class : Class
  pub of : IsOf class x.instr
  pub needs : need ≡ registers_of class x.instr
  pub has : have ≡ length (scratch_of live x.instr)
  pub flagged : flags ≡ (changes_flags class && has_live_flag live)
  pub lacks : (have < need) ⊎ (flags ≡ true)

-- no point does
abbrev pub SufficeAll : FlowParts → Boundary → Type 0
SufficeAll f b = (x : Point) (need have : ℕ) (flags : Bool) → Contains f.points x → Lacks f b x need have flags → ⊥

-- the refusal, its section and its offset
pub data ScratchFault (f : FlowParts) (b : Boundary) : Refusal → ℕ → ℕ → Type 0 where
  at_point : (x : Point) (need have : ℕ) (flags : Bool) → Contains f.points x → Lacks f b x need have flags → ScratchFault f b (NoScratch need have flags) x.section x.offset

-- the first fault, of file 0
pub record IsScratchRefusal (f : FlowParts) (b : Boundary) (spot : Spot) : Type 0 where
  pub fault : ScratchFault f b spot.refusal spot.section spot.offset
  pub file : spot.file ≡ 0
  pub first : (r : Refusal) (section offset : ℕ) → ScratchFault f b r section offset → comes_before r section offset spot ≡ false

abbrev pub IsScratchDenial : FlowParts → Boundary → Deny → Type 0
IsScratchDenial f b NoMemory = ⊤
IsScratchDenial f b (Refused spot) = IsScratchRefusal f b spot
