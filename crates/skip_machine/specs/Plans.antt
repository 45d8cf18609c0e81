-- Plans as texts.
use Rattle.std.specs.Prelude.{◌≡◌, ℕ, ◌+◌, ◌<◌, ◌^◌, ◌==◌, true, List, map, All, Option, Some, None}
use Rattle.std.specs.Fmt.{decimal}
use Rattle.std.specs.List.{join_with_byte, slice_split}
use Rattle.thumb_table.specs.Schedules.{IsLegal, is_in}

-- A text is the numbers of a schedule that is legal for so many copies: decimals below 2^63 with a comma between.
pub record IsPlanText (copies : ℕ) (text : List ℕ) (schedule : List ℕ) : Type 0 where
  pub reads : text ≡ join_with_byte 44 (map decimal schedule)
  pub small : All (λ n. n < 2 ^ 63) schedule
  pub legal : IsLegal copies schedule

-- the parts of a text round its commas
abbrev pub parts_of : List ℕ → List (List ℕ)
parts_of text = slice_split (λ b. b == 44) text

-- the number below 2^63 that a text is, if it is one
abbrev pub IsNumber : List ℕ → Option ℕ → Type 0
IsNumber text None = (n : ℕ) → n < 2 ^ 63 → text ≡ decimal n → ⊥
IsNumber text (Some n) = (text ≡ decimal n) × (n < 2 ^ 63)

-- the parts of a text are such numbers
pub record AreNumbers (text numbers : List ℕ) : Type 0 where
  pub parts : parts_of text ≡ map decimal numbers
  pub small : All (λ n. n < 2 ^ 63) numbers

-- no c consecutive numbers stand in a list
abbrev pub Spares : ℕ → List ℕ → Type 0
Spares c numbers = (i : ℕ) → ((j : ℕ) → j < c → is_in numbers (i + j) ≡ true) → ⊥
