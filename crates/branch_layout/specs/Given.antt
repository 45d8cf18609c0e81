-- What is laid out.
use Rattle.std.specs.Prelude.{◌≡◌, ◌≤◌, ◌<◌, ℕ, ◌+◌, ◌^◌, List, [], ◌∷◌, Some, None, length, map, slice_get, Contains, All}
use Rattle.std.specs.List.Sorted.{IsStrictlySortedBy}
use Rattle.thumb_instr.specs.declared.instructions.Instr.{Instr}
use Rattle.thumb_instr.specs.declared.instructions.Instr.TheVariants as instr
use Rattle.thumb_instr.specs.Fields.{ZeroBranchFields}
use Rattle.seq_core.specs.declared.steps.Step.{Step}
use Rattle.seq_core.specs.declared.steps.Goal.{Goal}
use Rattle.seq_core.specs.declared.steps.Goal.TheVariants.{Nowhere, End, Landing, Target, Word}
use Rattle.seq_core.specs.declared.units.Unit.{Unit as SeqUnit}
use Rattle.seq_core.specs.Builders.{HasRow}
use Rattle.flow_recover.specs.declared.flows.PoolWord.{PoolWord}
use Rattle.code_ranges.specs.Spans.{place_cmp}
use Rattle.branch_layout.specs.Placings.{unit_point, word_point}

-- what the number of an instruction may lead to
abbrev pub goals_of : Instr → List Goal
goals_of (instr.Branch i) = End ∷ Target ∷ []
goals_of (instr.ZeroBranch i) = End ∷ []
goals_of (instr.Call i) = Target ∷ []
goals_of (instr.Adr i) = Landing ∷ []
goals_of (instr.Literal i) = Word ∷ []
goals_of i = Nowhere ∷ []

-- a unit of the same section, and a word of it
pub record IsTarget (units : List SeqUnit) (u : SeqUnit) : Type 0 where
  pub index : ℕ
  pub unit : SeqUnit
  pub target : u.target ≡ Some index
  pub there : slice_get units index ≡ Some unit
  pub section : unit.section ≡ u.section

pub record IsLoaded (words : List PoolWord) (u : SeqUnit) : Type 0 where
  pub index : ℕ
  pub word : PoolWord
  pub loads : u.word ≡ Some index
  pub there : slice_get words index ≡ Some word
  pub section : word.section ≡ u.section

-- The step with an index. An address of the landing is made before it; behind CBZ and CBNZ there is another step.
pub record CanAim (units : List SeqUnit) (words : List PoolWord) (u : SeqUnit) (k : ℕ) (s : Step) : Type 0 where
  pub row : HasRow s.instr
  pub goal : Contains (goals_of s.instr) s.goal
  pub behind : (i : ZeroBranchFields) → s.instr ≡ instr.ZeroBranch i → k + 1 < length u.seq.steps
  pub before : s.goal ≡ Landing → k < u.seq.landing
  pub target : s.goal ≡ Target → u.reloc ≡ None → IsTarget units u
  pub word : s.goal ≡ Word → IsLoaded words u

-- All steps of a unit stand equally often.
pub record CanStand (units : List SeqUnit) (words : List PoolWord) (u : SeqUnit) : Type 0 where
  pub copies : ℕ
  pub least : 1 ≤ copies
  pub most : copies ≤ 4
  pub same : All (λ (s : Step). s.copies ≡ copies) u.seq.steps
  pub steps : (k : ℕ) (s : Step) → slice_get u.seq.steps k ≡ Some s → CanAim units words u k s

-- Units and words are in the order of their old places, all of which differ.
pub record CanLay (units : List SeqUnit) (words : List PoolWord) : Type 0 where
  pub unit_order : IsStrictlySortedBy place_cmp (map unit_point units)
  pub word_order : IsStrictlySortedBy place_cmp (map word_point words)
  pub apart : (q : ℕ × ℕ) → Contains (map unit_point units) q → ¬ Contains (map word_point words) q
  pub few : length units + length words < 2 ^ 24
  pub each : All (λ (u : SeqUnit). CanStand units words u) units
