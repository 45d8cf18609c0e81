-- What else holds of the addresses of a chart, so that what stands for an address is determined.
use Rattle.std.specs.Prelude.{◌≡◌, ◌<◌, ◌⊎◌, ℕ, ◌+◌, ◌%◌, Some}
use Rattle.sim_charts.specs.Charts.{Chart, Point, Call}

-- Places are even and below the end of memory, and no two calls end at one address.
pub record IsProperChart (chart : Chart) : Type 0 where
  pub even : (a : ℕ) (p : Point) → chart a ≡ Some p → (a % 2 ≡ 0) × (p.place % 2 ≡ 0) × (p.back % 2 ≡ 0)
  pub low : (a : ℕ) (p : Point) → chart a ≡ Some p → (a + p.width < 0x7FFFFFF0) × (p.place < 0x7FFFFFF0) × (p.back < 0x7FFFFFF0)
  pub narrow : (a : ℕ) (p : Point) → chart a ≡ Some p → (p.width ≡ 2) ⊎ (p.width ≡ 4)
  pub one_call : (a b : ℕ) (p q : Point) → chart a ≡ Some p → chart b ≡ Some q → p.way ≡ Call → q.way ≡ Call → a + p.width ≡ b + q.width → a ≡ b
