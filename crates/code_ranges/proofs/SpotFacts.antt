-- The first of several spots.
use Rattle.std.proofs.Common.{◌≡◌, ℕ, ◌+◌, ◌<◌, Bool, true, false, cond, List, [], ◌∷◌, ◌++◌, length, refl, sym, subst, arith, Option, Some, None, take, get_or}
use Rattle.std.specs.Prelude.{◌==◌, nat_lt, ◌&&◌, ◌||◌}
use Rattle.std.proofs.lemmas.Bool.Decides.{nat_tests}
use Rattle.std.proofs.lemmas.List.{take_more}
use Rattle.std.proofs.lemmas.List.Elements.{All-push, All-weaker, All-nil, Contains-push, Contains-append_left}
use Rattle.elf_model.specs.declared.refusals.Spot.{Spot}
use Rattle.elf_model.specs.Refusals.{number_of}
use Rattle.code_ranges.specs.CodeRanges.{comes_before}
use Rattle.code_ranges.specs.Spots.{earlier, IsFirst}

-- of two places by three numbers the first is before the second
abbrev pub before : ℕ → ℕ → ℕ → ℕ → ℕ → ℕ → Bool
before a b c d e f = nat_lt a d || ((a == d) && (nat_lt b e || ((b == e) && nat_lt c f)))

pub before_trans : (a b c d e f g h i : ℕ) → before a b c d e f ≡ false → before d e f g h i ≡ false → before a b c g h i ≡ false
before_trans a b c d e f g h i p q = grind (arith, nat_tests)

pub before_flip : (a b c d e f : ℕ) → before a b c d e f ≡ true → before d e f a b c ≡ false
before_flip a b c d e f p = grind (arith, nat_tests)

pub before_itself : (a b c : ℕ) → before a b c a b c ≡ false
before_itself a b c = grind (arith, nat_tests)

-- two places neither of which is before the other are one
pub tied_section : (a b c d e f : ℕ) → before a b c d e f ≡ false → before d e f a b c ≡ false → a ≡ d
tied_section a b c d e f p q = grind (arith, nat_tests)

pub tied_offset : (a b c d e f : ℕ) → before a b c d e f ≡ false → before d e f a b c ≡ false → b ≡ e
tied_offset a b c d e f p q = grind (arith, nat_tests)

pub tied_number : (a b c d e f : ℕ) → before a b c d e f ≡ false → before d e f a b c ≡ false → c ≡ f
tied_number a b c d e f p q = grind (arith, nat_tests)

-- one more spot
pub first_push : (xs : List Spot) (first : Option Spot) (s : Spot) → IsFirst xs first → IsFirst (xs ++ s ∷ []) (Some (earlier first s))
first_push xs None s h =
    subst (λ (l : List Spot). IsFirst (l ++ s ∷ []) (Some s)) (sym h) (
      Contains-push [] s,
      All-push (λ t. comes_before t.refusal t.section t.offset s ≡ false) [] s (All-nil (λ t. comes_before t.refusal t.section t.offset s ≡ false))
          (before_itself s.section s.offset (number_of s.refusal)),
    )
first_push xs (Some old) s h = go (comes_before s.refusal s.section s.offset old) refl
  where
    go : (b : Bool) → comes_before s.refusal s.section s.offset old ≡ b → IsFirst (xs ++ s ∷ []) (Some (cond b s old))
    go true e = (
      Contains-push xs s,
      All-push (λ t. comes_before t.refusal t.section t.offset s ≡ false) xs s
          (All-weaker (λ t. comes_before t.refusal t.section t.offset old ≡ false) (λ t. comes_before t.refusal t.section t.offset s ≡ false)
          (λ t n. before_trans t.section t.offset (number_of t.refusal) old.section old.offset (number_of old.refusal) s.section s.offset (number_of s.refusal) n
          (before_flip s.section s.offset (number_of s.refusal) old.section old.offset (number_of old.refusal) e)) xs h.1)
          (before_itself s.section s.offset (number_of s.refusal)),
    )
    go false e =
        (Contains-append_left xs (s ∷ []) old h.0, All-push (λ t. comes_before t.refusal t.section t.offset old ≡ false) xs s h.1 e)

-- the same in a loop
pub first_more : (xs : List Spot) (i : ℕ) (d : Spot) (first : Option Spot) (r : Spot) → i < length xs → r ≡ earlier first (get_or xs i d) → IsFirst (take i xs) first → IsFirst (take (i + 1) xs) (Some r)
first_more xs i d first r l e h =
    subst (λ (t : List Spot). IsFirst t (Some r)) (sym (take_more xs i d l))
    (subst (λ (t : Spot). IsFirst (take i xs ++ get_or xs i d ∷ []) (Some t)) (sym e) (first_push (take i xs) first (get_or xs i d) h))
