-- What is known of files and of a stream of bytes that lie outside the program.
use Rattle.std.specs.Prelude.{◌≡◌, ◌≢◌, ◌≤◌, ◌+◌, ◌-◌, ◌^◌, ◌⊎◌, ℕ, Bool, List, ◌++◌, take, min, Option, Some, None}

-- A count of faults rose in a call: it is greater after it, or stands at its last value.
abbrev pub Rose : ℕ → ℕ → Type 0
Rose before now = min (before + 1) (2 ^ 64 - 1) ≤ now

-- what a load gives of a file: its first bytes
abbrev pub IsLoaded : Option (List ℕ) → ℕ → List ℕ → Type 0
IsLoaded None most bytes = ⊥
IsLoaded (Some content) most bytes = bytes ≡ take most content

-- Each file is as it was, and so is whether the files are told.
pub record SameFiles {S : Type 0} (tells : S → Bool) (file : S → List ℕ → Option (List ℕ)) (old new : S) : Type 0 where
  pub told : tells new ≡ tells old
  pub each : (name : List ℕ) → file new name ≡ file old name

-- Each file but one is as it was.
pub record SameOthers {S : Type 0} (tells : S → Bool) (file : S → List ℕ → Option (List ℕ)) (name : List ℕ) (old new : S) : Type 0 where
  pub told : tells new ≡ tells old
  pub each : (other : List ℕ) → other ≢ name → file new other ≡ file old other

-- A save that failed left the file as it was, or a first part of the bytes in it.
abbrev pub IsPartlySaved : Option (List ℕ) → List ℕ → Option (List ℕ) → Type 0
IsPartlySaved old bytes new = (new ≡ old) ⊎ ((n : ℕ) × (new ≡ Some (take n bytes)))

-- A first part of the bytes was appended.
abbrev pub IsPartlyPut : List ℕ → List ℕ → List ℕ → Type 0
IsPartlyPut old bytes new = (n : ℕ) × (new ≡ old ++ take n bytes)
