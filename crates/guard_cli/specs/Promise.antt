-- What is promised of the pairs of a command that ended well.
use Rattle.std.specs.Prelude.{◌≡◌, ◌≢◌, ◌<◌, ℕ, List, [], ◌∷◌, map, Option, Some, slice_get}
use Rattle.std.specs.List.{AllPairs}
use Rattle.elf_model.specs.Objects.{ObjectParts}
use Rattle.elf_model.specs.Files.{StandsFor}
use Rattle.guard_words.specs.Words.{Pair}
use Rattle.sim_relation.specs.Hardened.{Hardened}

-- the objects that the files of these names stand for, in order
abbrev pub AreObjects : (List ℕ → Option (List ℕ)) → List (List ℕ) → List ObjectParts → Type 0
AreObjects content [] [] = Unit {0}
AreObjects content (name ∷ names) (o ∷ objects) = ((file : List ℕ) × (content name ≡ Some file) × StandsFor file o) × AreObjects content names objects
AreObjects content [] (o ∷ objects) = ⊥
AreObjects content (name ∷ names) [] = ⊥

-- No later pair has the output of this one, so that what it saved stays.
abbrev pub Stays : List Pair → ℕ → Pair → Type 0
Stays pairs k p = (j : ℕ) (q : Pair) → k < j → slice_get pairs j ≡ Some q → q.output ≢ p.output

-- some of the pairs whose outputs stay, in any order and each at most once
abbrev pub ArePlaced : List Pair → List ℕ → List Pair → Type 0
ArePlaced pairs [] [] = Unit {0}
ArePlaced pairs (k ∷ places) (p ∷ picked) = (slice_get pairs k ≡ Some p) × Stays pairs k p × ArePlaced pairs places picked
ArePlaced pairs [] (p ∷ picked) = ⊥
ArePlaced pairs (k ∷ places) [] = ⊥

pub record IsPick (pairs picked : List Pair) : Type 0 where
  pub places : List ℕ
  pub differ : AllPairs (λ j k. j ≢ k) places
  pub are : ArePlaced pairs places picked

abbrev pub OutputsDiffer : List Pair → Type 0
OutputsDiffer pairs = AllPairs (λ (p q : Pair). p.output ≢ q.output) pairs

-- The objects that the inputs stood for, and those that the outputs stand for, are the same, hardened.
pub record AreHardened (picked : List Pair) (before after : List ℕ → Option (List ℕ)) (F : ℕ) : Type 0 where
  pub ins : List ObjectParts
  pub outs : List ObjectParts
  pub inputs : AreObjects before (map (λ (p : Pair). p.input) picked) ins
  pub outputs : AreObjects after (map (λ (p : Pair). p.output) picked) outs
  pub hardened : Hardened ins outs F
