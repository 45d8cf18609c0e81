-- The work of a command: what it loads, and what comes of that.
use Rattle.std.specs.Prelude.{ℕ, zero, suc, ◌+◌, List, [], ◌∷◌, map, Option, ⊤}
use Rattle.guard_io.specs.Outside.{IsLoaded}
use Rattle.elf_model.specs.declared.refusals.Spot.{Spot}
use Rattle.skip_machine.specs.declared.machines.Outcome.{Outcome}

-- a file that is read, and how many bytes it may have
pub record Input : Type 0 where
  pub name : List ℕ
  pub limit : ℕ

-- a file that is written, and its bytes
pub record Save : Type 0 where
  pub name : List ℕ
  pub bytes : List ℕ

abbrev pub Contents : Type 0
Contents = List ℕ → Option (List ℕ)

pub record Work : Type 1 where
  -- the inputs, in the order in which they are loaded
  pub inputs : List Input
  -- what is loaded that leads to an end without refusal
  pub Accepts : List (List ℕ) → Type 0
  -- what is refused of what was loaded, and where
  pub Refuses : List (List ℕ) → Spot → Type 0
  -- what is made of it: the outputs in the order in which they are saved, and the report
  pub Makes : List (List ℕ) → List Save → List ℕ → Type 0
  -- what stops it, and the line that says so
  pub Stops : List (List ℕ) → Outcome → List ℕ → Type 0
  -- what is promised besides, of the files before and after
  pub Promises : List (List ℕ) → List Save → List ℕ → Contents → Contents → Type 0

-- the first bytes of each input, at most one more than it may have
abbrev pub AreLoaded : Contents → List Input → List (List ℕ) → Type 0
AreLoaded content [] [] = ⊤
AreLoaded content (i ∷ inputs) (bytes ∷ loaded) = IsLoaded (content i.name) (i.limit + 1) bytes × AreLoaded content inputs loaded
AreLoaded content [] (bytes ∷ loaded) = ⊥
AreLoaded content (i ∷ inputs) [] = ⊥

-- the inputs of these names, which may have so many bytes
abbrev pub inputs_of : ℕ → List (List ℕ) → List Input
inputs_of limit names = map (λ name. record { name = name; limit = limit }) names

-- the input of this number, or else the last
abbrev pub input_named : List Input → ℕ → List ℕ
input_named [] k = []
input_named (i ∷ []) k = i.name
input_named (i ∷ j ∷ inputs) zero = i.name
input_named (i ∷ j ∷ inputs) (suc k) = input_named (j ∷ inputs) k

-- what holds of one input's bytes
abbrev pub OfOne : (List ℕ → Type 0) → List (List ℕ) → Type 0
OfOne P [] = ⊥
OfOne P (bytes ∷ []) = P bytes
OfOne P (bytes ∷ more ∷ loaded) = ⊥
