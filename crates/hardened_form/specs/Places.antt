-- Where the code of a hardened object stands.
use Rattle.std.specs.Prelude.{ℕ, List, Option}

-- A unit: where it begins and ends, where a call in it comes back to, and the word that stands behind its instructions,
-- if it has one of its own.
pub record UnitPlace : Type 0 where
  pub start : ℕ
  pub end : ℕ
  pub back : ℕ
  pub island : Option ℕ

-- The units of an object's points, and its pool words, in the order of the flow.
pub record Places : Type 0 where
  pub units : List UnitPlace
  pub words : List ℕ
