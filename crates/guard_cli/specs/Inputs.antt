-- What is read of inputs under a limit, and what they are refused for before anything is made of their objects.
use Rattle.std.specs.Prelude.{◌≡◌, ◌<◌, ◌≤◌, ◌⊎◌, ℕ, List, [], ◌∷◌, ◌++◌, length, All, ⊤}
use Rattle.elf_model.specs.declared.refusals.Refusal.{Refusal}
use Rattle.elf_model.specs.declared.refusals.Refusal.TheVariants.{TooLong}
use Rattle.elf_model.specs.declared.refusals.Spot.{Spot}
use Rattle.elf_model.specs.declared.refusals.Limit.{Limit}
use Rattle.elf_model.specs.declared.refusals.Deny.{Deny}
use Rattle.elf_model.specs.declared.refusals.Deny.TheVariants as deny
use Rattle.elf_model.specs.Objects.{ObjectParts}
use Rattle.elf_model.specs.Files.{StandsFor}
use Rattle.elf_read.specs.Faults.{IsFirstFault, IsFaultless}

-- a refusal of a whole file, the first
abbrev pub at_start : Refusal → Spot
at_start r = record { refusal = r; file = 0; section = 0; offset = 0 }

-- a file without fault, and its object
pub record IsReadAs (l : Limit) (file : List ℕ) (o : ObjectParts) : Type 0 where
  pub short : length file ≤ l.file
  pub faultless : IsFaultless file l
  pub stands : StandsFor file o

-- files without fault, and their objects
abbrev pub AreReadAs : Limit → List (List ℕ) → List ObjectParts → Type 0
AreReadAs l [] [] = ⊤
AreReadAs l (file ∷ files) (o ∷ objects) = IsReadAs l file o × AreReadAs l files objects
AreReadAs l [] (o ∷ objects) = ⊥
AreReadAs l (file ∷ files) [] = ⊥

-- a place in the input of this number
abbrev pub in_file : ℕ → Spot → Spot
in_file k spot = record spot { file = k }

-- The first of the files is named that is longer than the limit.
pub record IsTooLong (l : Limit) (files : List (List ℕ)) (spot : Spot) : Type 0 where
  pub earlier : List (List ℕ)
  pub file : List ℕ
  pub later : List (List ℕ)
  pub files_are : files ≡ earlier ++ file ∷ later
  pub short : All (λ f. length f ≤ l.file) earlier
  pub long : l.file < length file
  pub spot_is : spot ≡ in_file (length earlier) (at_start TooLong)

-- No file is longer than the limit. The first is named that has a fault, with its first fault.
pub record IsFaulty (l : Limit) (files : List (List ℕ)) (spot : Spot) : Type 0 where
  pub short : All (λ f. length f ≤ l.file) files
  pub earlier : List (List ℕ)
  pub file : List ℕ
  pub later : List (List ℕ)
  pub files_are : files ≡ earlier ++ file ∷ later
  pub faultless : All (λ f. IsFaultless f l) earlier
  pub fault : Spot
  pub first : IsFirstFault file l fault
  pub spot_is : spot ≡ in_file (length earlier) fault

-- When inputs are refused as they are read: one of them is longer than the limit, or else one has a fault.
abbrev pub IsReadRefusal : Limit → List (List ℕ) → Spot → Type 0
IsReadRefusal l files spot = IsTooLong l files spot ⊎ IsFaulty l files spot

-- why something is not made: want of memory, or a refusal of a kind
abbrev pub IsTurnedDown : (Spot → Type 0) → Deny → Type 0
IsTurnedDown Cause deny.NoMemory = ⊤
IsTurnedDown Cause (deny.Refused spot) = Cause spot

-- why something is not made of the input of this number
abbrev pub deny_in : ℕ → Deny → Deny
deny_in k deny.NoMemory = deny.NoMemory
deny_in k (deny.Refused spot) = deny.Refused (in_file k spot)
