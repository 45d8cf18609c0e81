-- What one range adds to the tables: the starts of a code range, and the words of a data range.
use Rattle.std.proofs.Common.{◌≡◌, ◌<◌, ◌≤◌, ℕ, ◌+◌, ◌*◌, ◌/◌, ◌%◌, Bool, true, false, cond, List, refl, sym, ap, ◌∙◌, subst, inl, inr, ◌⊎◌, arith, Option, Some}
use Rattle.std.specs.Prelude.{◌==◌, ◌&&◌, ◌||◌, if◌then◌else◌}
use Rattle.std.proofs.lemmas.Bool.{cases_lt, cases_order, and_parts, and_from, eqb-true, eq-eqb, or_left}
use Rattle.elf_model.specs.Ranges.{IsStart, length_at}
use Rattle.elf_model.specs.Ranges.IsStart.{first, next}
use Rattle.reloc_places.proofs.StartFacts.{length_least, start_before, start_behind, starts_in_range}

-- the starts of a range below an offset are noted, and nothing else
pub record IsNoted (bytes : List ℕ) (section start end at : ℕ) (old new : ℕ → ℕ → Option ℕ) : Type 0 where
  pub here : IsStart bytes start end at ⊎ (end ≤ at)
  pub noted : (x : ℕ) → IsStart bytes start end x → x < at → new section x ≡ Some end
  pub others : (j x : ℕ) → (new j x ≡ old j x) ⊎ ((j ≡ section) × IsStart bytes start end x)

pub none_noted : (bytes : List ℕ) (section start end : ℕ) (old : ℕ → ℕ → Option ℕ) → IsNoted bytes section start end start old old
none_noted bytes section start end old = record {
  here = elim (cases_lt start end) [ inl l ↦ inl (first l) | inr g ↦ inr g ];
  noted = λ x s l. let low = start_behind bytes start end x s in absurd (omega arith);
  others = λ j x. inl refl;
}

at_other : (a b j x : ℕ) (u v : Option ℕ) → (b < x) ⊎ (x < b) → (if (a == j) && (b == x) then u else v) ≡ v
at_other a b j x u v apart = go ((a == j) && (b == x)) refl
  where
    go : (t : Bool) → ((a == j) && (b == x)) ≡ t → cond t u v ≡ v
    go true e =
        let same = eqb-true b x (and_parts (a == j) (b == x) e).1 in
        absurd (elim apart [ inl l ↦ omega arith | inr l ↦ omega arith ])
    go false e = refl

at_place : (a b : ℕ) (u v : Option ℕ) → (if (a == a) && (b == b) then u else v) ≡ u
at_place a b u v = ap (λ (t : Bool). cond t u v) (and_from (a == a) (b == b) (eq-eqb a a refl) (eq-eqb b b refl))

-- one more of them
pub one_noted : (bytes : List ℕ) (section start end at behind : ℕ) (old now new : ℕ → ℕ → Option ℕ) → IsNoted bytes section start end at old now → at < end
    → (at + 2 ≤ end → behind ≡ at + length_at bytes at) → (end < at + 2 → behind ≡ end) → ((j x : ℕ) → new j x ≡ (if (section == j) && (at == x) then Some end else now j x))
    → IsNoted bytes section start end behind old new
one_noted bytes section start end at behind old now new before l whole single step = record {
  here = here;
  noted = noted;
  others = others;
}
  where
    this : IsStart bytes start end at
    this = elim before.here [ inl s ↦ s | inr g ↦ absurd (omega arith) ]

    here : IsStart bytes start end behind ⊎ (end ≤ behind)
    here =
        elim (cases_lt end (at + 2)) [
          | inl less ↦ let e = single less in inr (omega arith)
          | inr enough ↦
              let e = whole enough in
              elim (cases_lt behind end) [
                | inl inside ↦ inl (subst (λ (k : ℕ). IsStart bytes start end k) (sym e) (next at this (omega arith)))
                | inr outside ↦ inr outside
              ]
        ]

    past : (x : ℕ) → IsStart bytes start end x → at < x → behind ≤ x
    past x s a =
        let apart = starts_in_range bytes start end at x this s a in
        let least = length_least bytes at in
        let low = start_before bytes start end x s in
        elim (cases_lt end (at + 2)) [
          | inl less ↦ absurd (omega arith)
          | inr enough ↦ let e = whole enough in omega arith
        ]

    noted : (x : ℕ) → IsStart bytes start end x → x < behind → new section x ≡ Some end
    noted x s under =
        elim (cases_order x at) [
          | inl e ↦ subst (λ (k : ℕ). new section k ≡ Some end) (sym e) (step section at ∙ at_place section at (Some end) (now section at))
          | inr d ↦ elim d [
            | inl low ↦ step section x ∙ at_other section at section x (Some end) (now section x) (inr low) ∙ before.noted x s low
            | inr high ↦ let h = past x s high in absurd (omega arith)
          ]
        ]

    others : (j x : ℕ) → (new j x ≡ old j x) ⊎ ((j ≡ section) × IsStart bytes start end x)
    others j x = go ((section == j) && (at == x)) refl
      where
        go : (t : Bool) → ((section == j) && (at == x)) ≡ t → (new j x ≡ old j x) ⊎ ((j ≡ section) × IsStart bytes start end x)
        go true e =
            let p = and_parts (section == j) (at == x) e in
            inr (sym (eqb-true section j p.0), subst (λ (k : ℕ). IsStart bytes start end k) (eqb-true at x p.1) this)
        go false e =
            let same : new j x ≡ now j x = step j x ∙ ap (λ (t : Bool). if t then Some end else now j x) e in
            elim (before.others j x) [
              | inl h ↦ inl (same ∙ h)
              | inr h ↦ inr h
            ]

-- the words of a range below a multiple of 4 are noted, and nothing else
pub record AreNoted (section start end at : ℕ) (old new : ℕ → ℕ → Bool) : Type 0 where
  pub noted : (w : ℕ) → w % 4 ≡ 0 → start ≤ w → w + 4 ≤ end → w < 4 * at → new section w ≡ true
  pub others : (j w : ℕ) → (new j w ≡ old j w) ⊎ ((j ≡ section) × (w % 4 ≡ 0) × (start ≤ w) × (w + 4 ≤ end))

pub no_words : (section start end : ℕ) (old : ℕ → ℕ → Bool) → AreNoted section start end ((start + 3) / 4) old old
no_words section start end old = record { noted = λ w a b c d. absurd (omega arith); others = λ j w. inl refl }

pub one_word : (section start end at : ℕ) (old now new : ℕ → ℕ → Bool) → AreNoted section start end at old now → (start + 3) / 4 ≤ at → at < end / 4
    → ((j x : ℕ) → new j x ≡ (((section == j) && (4 * at == x)) || now j x)) → AreNoted section start end (at + 1) old new
one_word section start end at old now new before low high step = record { noted = noted; others = others }
  where
    noted : (w : ℕ) → w % 4 ≡ 0 → start ≤ w → w + 4 ≤ end → w < 4 * (at + 1) → new section w ≡ true
    noted w a b c d =
        elim (cases_lt w (4 * at)) [
          | inl l ↦ step section w ∙ ap (λ (t : Bool). ((section == section) && (4 * at == w)) || t) (before.noted w a b c l) ∙ go ((section == section) && (4 * at == w))
          | inr g ↦
              let same : 4 * at ≡ w = omega arith in
              step section w ∙ or_left ((section == section) && (4 * at == w)) (now section w) (and_from (section == section) (4 * at == w) (eq-eqb section section refl) (eq-eqb (4 * at) w same))
        ]
      where
        go : (t : Bool) → (t || true) ≡ true
        go true = refl
        go false = refl

    others : (j w : ℕ) → (new j w ≡ old j w) ⊎ ((j ≡ section) × (w % 4 ≡ 0) × (start ≤ w) × (w + 4 ≤ end))
    others j w = go ((section == j) && (4 * at == w)) refl
      where
        go : (t : Bool) → ((section == j) && (4 * at == w)) ≡ t → (new j w ≡ old j w) ⊎ ((j ≡ section) × (w % 4 ≡ 0) × (start ≤ w) × (w + 4 ≤ end))
        go true e =
            let p = and_parts (section == j) (4 * at == w) e in
            let same : 4 * at ≡ w = eqb-true (4 * at) w p.1 in
            inr (sym (eqb-true section j p.0), omega arith, omega arith, omega arith)
        go false e =
            let same : new j w ≡ now j w = step j w ∙ ap (λ (t : Bool). t || now j w) e in
            elim (before.others j w) [
              | inl h ↦ inl (same ∙ h)
              | inr h ↦ inr h
            ]
