-- What a reader and a writer outside the program give and take, where that is known.
use Rattle.std.specs.Prelude.{◌≡◌, ℕ, List, Option, IfSome, take}
use Rattle.std.specs.Io.KnownBytes.{Appends}
use Rattle.guard_io.specs.Memory.{raised}

-- how often the calls on a shelf outside the program have failed
pub record FaultCounts : Type 0 where
  pub loads : ℕ
  pub saves : ℕ

abbrev pub with_failed_load : FaultCounts → FaultCounts
with_failed_load c = record c { loads = raised c.loads }

abbrev pub with_failed_save : FaultCounts → FaultCounts
with_failed_save c = record c { saves = raised c.saves }

-- the first bytes that a reader has left
abbrev pub AreFirstLeft : Option (List ℕ) → ℕ → List ℕ → Type 0
AreFirstLeft left most bytes = IfSome left (λ all. bytes ≡ take most all)

-- a first part of the bytes was written
abbrev pub AppendsPart : Option (List ℕ) → Option (List ℕ) → List ℕ → Type 0
AppendsPart old new bytes = (n : ℕ) × Appends old new (take n bytes)
