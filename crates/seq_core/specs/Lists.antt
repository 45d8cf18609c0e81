-- Lists of registers.
use Rattle.std.specs.Prelude.{ℕ, List, [], ◌∷◌, Option, Some, None}

-- the only one
abbrev pub sole : List ℕ → Option ℕ
sole [] = None
sole (r ∷ []) = Some r
sole (r ∷ q ∷ rs) = None
