-- The examples meet what is asked.
use Rattle.std.proofs.Common.{◌≡◌, ℕ, ◌+◌, ◌%◌, ◌<◌, ◌⊎◌, inl, inr, true, false, Option, Some, None, refl, sym, ◌∙◌, subst, arith}
use Rattle.std.specs.Prelude.{◌==◌, if◌then◌else◌}
use Rattle.std.proofs.lemmas.Bool.{eqb-true}
use Rattle.mark_word.specs.Words.{plain}
use Rattle.seq_core.specs.Meanings.{Ends}
use Rattle.sim_charts.specs.Charts.{Point, Call}
use Rattle.sim_charts.specs.Addresses.{IsProperChart}
use Rattle.sim_charts.specs.Codes.{plain_code, example, p0, p1, p2, p3, p4, p5, p6, p7}
use Rattle.sim_charts.proofs.ExampleTwins.{by_points}
use Rattle.sim_steps.specs.Facts.{to_point}
use Rattle.sim_steps.specs.Example.{IsMet, ExampleIsMet, low_point, top_point, entry_point, halves, marked_code, HalvesAreMet}

abbrev ends_of : ℕ → ℕ → Ends
ends_of t b = record { target = t; back = b; word = plain 0 }

-- ---- the example of charts

-- its only call is at 0x8002
abbrev CallsAt : ℕ → ℕ → Point → Type 0
CallsAt c a p = p.way ≡ Call → a ≡ c

only_call : (a : ℕ) (p : Point) → example a ≡ Some p → p.way ≡ Call → a ≡ 0x8002
only_call = by_points (CallsAt 0x8002) (λ e. absurd cc) (λ e. refl) (λ e. absurd cc) (λ e. absurd cc) (λ e. absurd cc) (λ e. absurd cc) (λ e. absurd cc) (λ e. absurd cc)

proper : IsProperChart example
proper = record {
  even = by_points (λ a p. (a % 2 ≡ 0) × (p.place % 2 ≡ 0) × (p.back % 2 ≡ 0)) (refl, refl, refl) (refl, refl, refl) (refl, refl, refl) (refl, refl, refl) (refl, refl, refl) (refl, refl, refl) (refl, refl, refl) (refl, refl, refl);
  low = by_points (λ a p. (a + p.width < 0x7FFFFFF0) × (p.place < 0x7FFFFFF0) × (p.back < 0x7FFFFFF0)) (omega arith, omega arith, omega arith) (omega arith, omega arith, omega arith) (omega arith, omega arith, omega arith) (omega arith, omega arith, omega arith) (omega arith, omega arith, omega arith) (omega arith, omega arith, omega arith) (omega arith, omega arith, omega arith) (omega arith, omega arith, omega arith);
  narrow = by_points (λ a p. (p.width ≡ 2) ⊎ (p.width ≡ 4)) (inl refl) (inr refl) (inl refl) (inl refl) (inl refl) (inl refl) (inl refl) (inl refl);
  one_call = λ a b p q ea eb wa wb e. only_call a p ea wa ∙ sym (only_call b q eb wb);
}

abbrev Met : ℕ → Point → Type 0
Met a p = IsMet example plain_code a p

m0 : Met 0x8000 p0
m0 = record { number = 0; ends = ends_of 0 0; formed = record { registers = (omega arith, omega arith); fields = refl; pc = tt }; meets = refl }

m1 : Met 0x8002 p1
m1 = record { number = 0; ends = ends_of 0x8028 0x8010; formed = record { registers = tt; fields = refl; pc = tt }; meets = (p7, refl, refl, refl, refl, refl) }

m2 : Met 0x8006 p2
m2 = record { number = 0; ends = ends_of 0x8020 0; formed = record { registers = omega arith; fields = refl; pc = tt }; meets = (p5, refl, refl, refl) }

m3 : Met 0x8008 p3
m3 = record { number = 0; ends = ends_of 0 0; formed = record { registers = (omega arith, omega arith); fields = refl; pc = tt }; meets = refl }

m4 : Met 0x800A p4
m4 = record { number = 0; ends = ends_of 0x8010 0; formed = record { registers = tt; fields = refl; pc = tt }; meets = to_point p2 refl refl refl }

m5 : Met 0x800C p5
m5 = record { number = 0; ends = ends_of 0 0; formed = record { registers = (omega arith, omega arith); fields = refl; pc = tt }; meets = refl }

m6 : Met 0x800E p6
m6 = record { number = 0; ends = ends_of 0 0; formed = record { registers = omega arith; fields = tt; pc = tt }; meets = refl }

m7 : Met 0x8010 p7
m7 = record { number = 0; ends = ends_of 0 0; formed = record { registers = omega arith; fields = tt; pc = tt }; meets = refl }

pub example_is_met : ExampleIsMet
example_is_met = record { proper = proper; points = by_points Met m0 m1 m2 m3 m4 m5 m6 m7 }

-- ---- MOVW and MOVT

pick : (P : ℕ → Point → Type 0) (a n : ℕ) (q : Point) (rest : Option Point) (p : Point) → P n q → (rest ≡ Some p → P a p) → (if a == n then Some q else rest) ≡ Some p → P a p
pick P a n q rest p h f =
    elim (a == n) as (λ b. (a == n) ≡ b → (if b then Some q else rest) ≡ Some p → P a p) [
      | true ↦ λ t e.
          let eq : q ≡ p = cc in
          let ea : n ≡ a = sym (eqb-true a n t) in
          subst (λ k. P k p) ea (subst (λ v. P n v) eq h)
      | false ↦ λ t e. f e
    ] refl

by_halves : (P : ℕ → Point → Type 0) → P 0x8000 low_point → P 0x8004 top_point → P 0x8008 entry_point → (a : ℕ) (p : Point) → halves a ≡ Some p → P a p
by_halves P h0 h1 h2 a p = pick P a 0x8000 low_point _ p h0 (pick P a 0x8004 top_point _ p h1 (pick P a 0x8008 entry_point None p h2 (λ e. absurd cc)))

abbrev NoCall : ℕ → Point → Type 0
NoCall a p = p.way ≡ Call → ⊥

none_calls : (a : ℕ) (p : Point) → halves a ≡ Some p → p.way ≡ Call → ⊥
none_calls = by_halves NoCall (λ e. absurd cc) (λ e. absurd cc) (λ e. absurd cc)

halves_proper : IsProperChart halves
halves_proper = record {
  even = by_halves (λ a p. (a % 2 ≡ 0) × (p.place % 2 ≡ 0) × (p.back % 2 ≡ 0)) (refl, refl, refl) (refl, refl, refl) (refl, refl, refl);
  low = by_halves (λ a p. (a + p.width < 0x7FFFFFF0) × (p.place < 0x7FFFFFF0) × (p.back < 0x7FFFFFF0)) (omega arith, omega arith, omega arith) (omega arith, omega arith, omega arith) (omega arith, omega arith, omega arith);
  narrow = by_halves (λ a p. (p.width ≡ 2) ⊎ (p.width ≡ 4)) (inr refl) (inr refl) (inl refl);
  one_call = λ a b p q ea eb wa wb e. absurd (none_calls a p ea wa);
}

pub halves_are_met : HalvesAreMet
halves_are_met = record {
  proper = halves_proper;
  points = by_halves (λ a p. IsMet halves marked_code a p)
      (record { number = 0x9011; ends = ends_of 0 0; formed = record { registers = omega arith; fields = tt; pc = tt }; meets = (refl, (0x19011, (0x8008, entry_point, refl, refl, refl, refl), refl, refl)) })
      (record { number = 1; ends = ends_of 0 0; formed = record { registers = omega arith; fields = tt; pc = tt }; meets = (refl, (0x19011, (0x8008, entry_point, refl, refl, refl, refl), refl)) })
      (record { number = 0; ends = ends_of 0 0; formed = record { registers = omega arith; fields = tt; pc = tt }; meets = refl });
}
