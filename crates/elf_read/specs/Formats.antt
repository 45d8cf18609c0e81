-- The first bytes of a file of the format.
use Rattle.std.specs.Prelude.{◌≡◌, ◌≤◌, ℕ, List, [], ◌∷◌, length, take}

-- as long as a file header, and with the first bytes of the format (ELF header)
pub record IsElf (file : List ℕ) : Type 0 where
  pub long : 52 ≤ length file
  pub magic : take 4 file ≡ 0x7F ∷ 0x45 ∷ 0x4C ∷ 0x46 ∷ []
