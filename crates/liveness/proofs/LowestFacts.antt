-- The first member of a rising list is the lowest.
use Rattle.std.proofs.Common.{◌≡◌, ◌<◌, ℕ, Bool, true, false, cond, List, [], ◌∷◌, refl, sym, ap, ◌∙◌, inl, inr, ◌⊎◌, arith, Option, Some, None}
use Rattle.std.specs.Prelude.{◌==◌, ◌||◌}
use Rattle.std.proofs.lemmas.Bool.{true≢false, eqb-true, eq-eqb}
use Rattle.std.proofs.lemmas.Bool.Decides.{nat_tests}
use Rattle.std.proofs.lemmas.Option.{none-some, same_Some}
use Rattle.thumb_instr.specs.declared.register_sets.RegSet.{RegSet}
use Rattle.thumb_instr.specs.Operands.{has}
use Rattle.liveness.specs.Faults.{is_unset_at_entry, is_lost_in_call}
use Rattle.liveness.specs.Spots.{unset, lost, first_member}
use Rattle.liveness.proofs.PathFacts.{or_cases, or_left, or_right}

pub is_among : List ℕ → ℕ → Bool
is_among [] k = false
is_among (m ∷ rest) k = (k == m) || is_among rest k

abbrev pub Rises : List ℕ → Type 0
Rises [] = Unit {0}
Rises (m ∷ rest) = ((j : ℕ) → is_among rest j ≡ true → m < j) × Rises rest

pub record IsFirstMember (among : List ℕ) (s : RegSet) (k : ℕ) : Type 0 where
  pub member : is_among among k ≡ true
  pub there : has s.0 k ≡ true
  pub lowest : (j : ℕ) → j < k → is_among among j ≡ true → has s.0 j ≡ false

pub first_some : (among : List ℕ) (s : RegSet) (k : ℕ) → Rises among → first_member among s ≡ Some k → IsFirstMember among s k
unfolding is_among
first_some [] s k rises e = absurd (none-some k e)
first_some (m ∷ rest) s k rises e = go (has s.0 m) refl e (first_some rest s k rises.1)
  where
    here : m ≡ k → has s.0 m ≡ true → IsFirstMember (m ∷ rest) s k
    here same h = record {
      member = or_left (k == m) (is_among rest k) (eq-eqb k m (sym same));
      there = ap (λ (j : ℕ). has s.0 j) (sym same) ∙ h;
      lowest = λ j low a. elim (or_cases (j == m) (is_among rest j) a) [
        | inl e ↦ let f : j ≡ m = eqb-true j m e in absurd (omega arith)
        | inr r ↦ let f : m < j = rises.0 j r in absurd (omega arith)
      ];
    }

    go : (b : Bool) → has s.0 m ≡ b → cond b (Some m) (first_member rest s) ≡ Some k → (first_member rest s ≡ Some k → IsFirstMember rest s k) → IsFirstMember (m ∷ rest) s k
    go true h e more = here (same_Some m k e) h
    go false h e more =
        let r = more e in
        record {
          member = or_right (k == m) (is_among rest k) r.member;
          there = r.there;
          lowest = λ j low a. elim (or_cases (j == m) (is_among rest j) a) [
            | inl e ↦ ap (λ (i : ℕ). has s.0 i) (eqb-true j m e) ∙ h
            | inr a ↦ r.lowest j low a
          ];
        }

pub first_none : (among : List ℕ) (s : RegSet) (j : ℕ) → first_member among s ≡ None → is_among among j ≡ true → has s.0 j ≡ false
unfolding is_among
first_none [] s j e a = absurd (true≢false (sym a))
first_none (m ∷ rest) s j e a = go (has s.0 m) refl e (first_none rest s j)
  where
    go : (b : Bool) → has s.0 m ≡ b → cond b (Some m) (first_member rest s) ≡ None → (first_member rest s ≡ None → is_among rest j ≡ true → has s.0 j ≡ false) → has s.0 j ≡ false
    go true h e more = absurd (none-some m (sym e))
    go false h e more = elim (or_cases (j == m) (is_among rest j) a) [
      | inl f ↦ ap (λ (i : ℕ). has s.0 i) (eqb-true j m f) ∙ h
      | inr r ↦ more e r
    ]

three_ways : (j k : ℕ) → (j ≡ k) ⊎ ((j < k) ⊎ (k < j))
three_ways j k = grind arith

pub first_of_member : (among : List ℕ) (s : RegSet) (k : ℕ) → Rises among → IsFirstMember among s k → first_member among s ≡ Some k
first_of_member among s k rises m = go (first_member among s) refl
  where
    go : (o : Option ℕ) → first_member among s ≡ o → first_member among s ≡ Some k
    go None e = absurd (true≢false (sym m.there ∙ first_none among s k e m.member))
    go (Some j) e =
        let f = first_some among s j rises e in
        elim (three_ways j k) [
          | inl same ↦ e ∙ ap (λ (i : ℕ). Some i) same
          | inr (inl low) ↦ absurd (true≢false (sym f.there ∙ m.lowest j low f.member))
          | inr (inr low) ↦ absurd (true≢false (sym m.there ∙ f.lowest k low m.member))
        ]

above_16 : (j : ℕ) → is_among (16 ∷ 17 ∷ 18 ∷ 19 ∷ []) j ≡ true → 15 < j
unfolding is_among
above_16 j h = grind (arith, nat_tests)

above_17 : (j : ℕ) → is_among (17 ∷ 18 ∷ 19 ∷ []) j ≡ true → 16 < j
unfolding is_among
above_17 j h = grind (arith, nat_tests)

above_18 : (j : ℕ) → is_among (18 ∷ 19 ∷ []) j ≡ true → 17 < j
unfolding is_among
above_18 j h = grind (arith, nat_tests)

above_19 : (j : ℕ) → is_among (19 ∷ []) j ≡ true → 18 < j
unfolding is_among
above_19 j h = grind (arith, nat_tests)

above_14 : (j : ℕ) → is_among (14 ∷ 16 ∷ 17 ∷ 18 ∷ 19 ∷ []) j ≡ true → 12 < j
unfolding is_among
above_14 j h = grind (arith, nat_tests)

none_more : (j : ℕ) → is_among [] j ≡ true → 19 < j
unfolding is_among
none_more j h = absurd (true≢false (sym h))

less_15 : (m j : ℕ) → m < 16 → 15 < j → m < j
less_15 m j a b = omega arith

flags_rise : Rises (16 ∷ 17 ∷ 18 ∷ 19 ∷ [])
flags_rise = (above_17, (above_18, (above_19, (none_more, tt))))

pub unset_rises : Rises unset
unset_rises = (λ j h. less_15 12 j (omega arith) (above_16 j h), flags_rise)

pub lost_rises : Rises lost
lost_rises = (above_14, (λ j h. less_15 14 j (omega arith) (above_16 j h), flags_rise))

pub unset_is : (k : ℕ) → is_among unset k ≡ is_unset_at_entry k
unfolding is_among
unset_is k = grind (arith, nat_tests)

pub lost_is : (k : ℕ) → is_among lost k ≡ is_lost_in_call k
unfolding is_among
lost_is k = grind (arith, nat_tests)
