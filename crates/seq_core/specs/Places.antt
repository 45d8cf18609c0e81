-- Placed units and layouts, as contracts see them.
use Rattle.std.specs.Prelude.{ℕ, List, Option}
use Rattle.thumb_encode.specs.declared.codes.Code.{Code}
use Rattle.seq_core.specs.declared.units.Unit.{Unit}

pub record PlacedParts : Type 0 where
  pub unit : Unit
  pub start : ℕ
  pub length : ℕ
  pub codes : List Code
  pub landing : Option ℕ
  pub island : Option ℕ

pub record LayoutParts : Type 0 where
  pub units : List PlacedParts
  pub words : List ℕ
  pub sizes : List ℕ
