-- What sets lack falls as they grow.
use Rattle.std.proofs.Common.{◌≡◌, ◌≢◌, ◌<◌, ◌≤◌, ◌+◌, ◌*◌, ℕ, zero, suc, Bool, true, false, cond, List, [], ◌∷◌, refl, sym, ap, ◌∙◌, inl, inr, ◌⊎◌, arith, length, Option, Some, None}
use Rattle.std.specs.Prelude.{slice_get, count_by, ◌==◌, ◌&&◌, not}
use Rattle.std.proofs.lemmas.Bool.{true≢false, cases_eq, eqb-true, eq-eqb}
use Rattle.std.proofs.lemmas.List.Sums.{sum_by-append}
use Rattle.thumb_instr.specs.declared.register_sets.RegSet.{RegSet}
use Rattle.thumb_instr.specs.Operands.{has}
use Rattle.thumb_instr.specs.Sets.{is_member}
use Rattle.index_links.specs.Links.{Edge}
use Rattle.liveness.specs.Work.{lacking_below, lacking, lacking_over}

abbrev pub one_if : Bool → ℕ
one_if b = cond b 1 0

fewer : (m s t : Bool) → (s ≡ true → t ≡ true) → one_if (m && not t) ≤ one_if (m && not s)
fewer false s t sub = omega arith
fewer true true true sub = omega arith
fewer true true false sub = absurd (true≢false (sym (sub refl)))
fewer true false true sub = omega arith
fewer true false false sub = omega arith

fewer_by_one : (m s t : Bool) → m ≡ true → s ≡ false → t ≡ true → one_if (m && not t) + 1 ≡ one_if (m && not s)
fewer_by_one true false true is out there = refl
fewer_by_one true false false is out there = absurd (true≢false (sym there))
fewer_by_one true true t is out there = absurd (true≢false out)
fewer_by_one false s t is out there = absurd (true≢false (sym is))

pub lack_falls : (n : ℕ) (s t : RegSet) → ((k : ℕ) → has s.0 k ≡ true → has t.0 k ≡ true) → lacking_below n t ≤ lacking_below n s
unfolding lacking_below
lack_falls zero s t sub = omega arith
lack_falls (suc n) s t sub =
    let a = fewer (is_member n) (has s.0 n) (has t.0 n) (sub n) in
    let r = lack_falls n s t sub in
    omega arith

at_or_below : (k n : ℕ) → k < suc n → (k ≡ n) ⊎ (k < n)
at_or_below k n low = grind arith

pub lack_falls_at : (n : ℕ) (s t : RegSet) (k : ℕ) → ((j : ℕ) → has s.0 j ≡ true → has t.0 j ≡ true) → k < n → is_member k ≡ true → has s.0 k ≡ false → has t.0 k ≡ true → lacking_below n t + 1 ≤ lacking_below n s
unfolding lacking_below
lack_falls_at zero s t k sub low is out in_t = absurd (omega arith)
lack_falls_at (suc n) s t k sub low is out in_t = elim (at_or_below k n low) [
  | inl e ↦
      let a = fewer_by_one (is_member n) (has s.0 n) (has t.0 n) (ap is_member (sym e) ∙ is) (ap (λ (j : ℕ). has s.0 j) (sym e) ∙ out) (ap (λ (j : ℕ). has t.0 j) (sym e) ∙ in_t) in
      let r : lacking_below n t ≤ lacking_below n s = lack_falls n s t sub in
      omega arith
  | inr l ↦
      let a = fewer (is_member n) (has s.0 n) (has t.0 n) (sub n) in
      let r : lacking_below n t + 1 ≤ lacking_below n s = lack_falls_at n s t k sub l is out in_t in
      omega arith
]

-- of the numbers below 20 all but 15 are members
abbrev members_below : ℕ → ℕ
members_below zero = 0
members_below (suc n) = one_if (is_member n) + members_below n

at_most : (m s : Bool) → one_if (m && not s) ≤ one_if m
at_most false s = omega arith
at_most true true = omega arith
at_most true false = omega arith

lack_bound : (n : ℕ) (s : RegSet) → lacking_below n s ≤ members_below n
unfolding lacking_below
lack_bound zero s = omega arith
lack_bound (suc n) s = let a = at_most (is_member n) (has s.0 n) in let r = lack_bound n s in omega arith

members_are_19 : members_below 20 ≡ 19
members_are_19 = refl

pub lacking_bound : (o : Option RegSet) → lacking o ≤ 19
lacking_bound None = omega arith
lacking_bound (Some s) = let a = lack_bound 20 s in let e = members_are_19 in omega arith

-- over edges
over_step : (e : Edge) (edges : List Edge) (sets : List RegSet) → lacking_over (e ∷ edges) sets ≡ lacking (slice_get sets e.target) + lacking_over edges sets
over_step e edges sets = let s : lacking_over (e ∷ edges) sets ≡ 0 + lacking (slice_get sets e.target) + lacking_over edges sets = sum_by-append (λ (x : Edge). lacking (slice_get sets x.target)) (e ∷ []) edges in omega arith

abbrev pub enters : ℕ → Edge → Bool
enters p x = x.target == p

pub count_step : (p : ℕ) (e : Edge) (edges : List Edge) → count_by (enters p) (e ∷ edges) ≡ one_if (e.target == p) + count_by (enters p) edges
count_step p e edges = let s : count_by (enters p) (e ∷ edges) ≡ 0 + one_if (e.target == p) + count_by (enters p) edges = sum_by-append (λ (x : Edge). one_if (enters p x)) (e ∷ []) edges in omega arith

pub over_bound : (edges : List Edge) (sets : List RegSet) → lacking_over edges sets ≤ 19 * length edges
over_bound [] sets = omega arith
over_bound (e ∷ edges) sets = let a = over_step e edges sets in let b = lacking_bound (slice_get sets e.target) in let r = over_bound edges sets in omega arith

-- sets that are as they were, but that of p
module _ (old new : List RegSet) (p : ℕ) (s t : RegSet) (was : slice_get old p ≡ Some s) (now : slice_get new p ≡ Some t) (others : (q : ℕ) → q ≢ p → slice_get new q ≡ slice_get old q) where
  at_target : (q : ℕ) → q ≡ p → (lacking (slice_get old q) ≡ lacking_below 20 s) × (lacking (slice_get new q) ≡ lacking_below 20 t)
  at_target q e = (ap (λ (n : ℕ). lacking (slice_get old n)) e ∙ ap lacking was, ap (λ (n : ℕ). lacking (slice_get new n)) e ∙ ap lacking now)

  pub over_falls : lacking_below 20 t ≤ lacking_below 20 s → (edges : List Edge) → lacking_over edges new ≤ lacking_over edges old
  over_falls less [] = omega arith
  over_falls less (e ∷ edges) =
      let a = over_step e edges old in
      let b = over_step e edges new in
      let r = over_falls less edges in
      elim (cases_eq e.target p) [
        | inl same ↦ let at = at_target e.target same in omega arith
        | inr ne ↦ let at = ap lacking (others e.target ne) in omega arith
      ]

  pub over_falls_at : lacking_below 20 t + 1 ≤ lacking_below 20 s → (edges : List Edge) → lacking_over edges new + count_by (enters p) edges ≤ lacking_over edges old
  over_falls_at less [] = omega arith
  over_falls_at less (e ∷ edges) =
      let a = over_step e edges old in
      let b = over_step e edges new in
      let d = count_step p e edges in
      let r = over_falls_at less edges in
      elim (cases_eq e.target p) [
        | inl same ↦ let at = at_target e.target same in let one : one_if (e.target == p) ≡ 1 = ap one_if (eq-eqb e.target p same) in omega arith
        | inr ne ↦ let at = ap lacking (others e.target ne) in let none = not_entering e.target ne in omega arith
      ]
    where
      not_entering : (q : ℕ) → (q ≡ p → ⊥) → one_if (q == p) ≡ 0
      not_entering q ne = go (q == p) refl
        where
          go : (v : Bool) → (q == p) ≡ v → one_if (q == p) ≡ 0
          go true e = absurd (ne (eqb-true q p e))
          go false e = ap one_if e
