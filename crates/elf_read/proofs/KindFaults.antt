-- Sections of kinds that aren't handled.
use Rattle.std.proofs.Common.{◌≡◌, ◌≤◌, ◌⊎◌, ◌↔◌, ℕ, ◌+◌, Bool, true, false, not, ◌||◌, List, Option, Some, None, inl, inr, arith, refl, sym, subst}
use Rattle.std.proofs.lemmas.Bool.{and_parts, and_from, or_cases, or_left, or_right, eqb-true, eq-eqb, not-true, not_from_false}
use Rattle.elf_model.specs.declared.refusals.Limit.{Limit}
use Rattle.elf_model.specs.declared.refusals.TheConstants.Limit.{INPUT}
use Rattle.elf_model.specs.declared.refusals.Refusal.TheVariants.{SectionKind}
use Rattle.elf_model.specs.Files.{header, header_count, header_place, is_table, is_dropped}
use Rattle.elf_read.specs.declared.places.Place.{Place}
use Rattle.elf_read.specs.Faults.{Fault, IsHeader, is_map}
use Rattle.elf_read.specs.Faults.Fault.{refused_kind, memory_kind, writable_code, empty_code, own_map}
use Rattle.elf_read.specs.Keeping.{kind_tests}
use Rattle.elf_read.specs.Places.{IsLowest, first_of}
use Rattle.elf_read.proofs.FirstTests.{HoldsIn, IsFirstOf, first_of_first}
use Rattle.elf_read.proofs.Lowest.{NoneUnder, under_more, lowest_at, lowest_none}

pub record KindFault (b : List ℕ) (input : Bool) (s o : ℕ) : Type 0 where
  pub listed : IsHeader b s
  pub d : ℕ
  pub place : o ≡ header_place b s + d
  pub test : HoldsIn (kind_tests b input s) d

either : (t u : Bool) → (t ≡ true) ⊎ (u ≡ false) → (t || not u) ≡ true
either t u (inl h) = or_left t (not u) h
either t u (inr h) = or_right t (not u) (not_from_false u h)

either_back : (t u : Bool) → (t || not u) ≡ true → (t ≡ true) ⊎ (u ≡ false)
either_back t u h = elim (or_cases t (not u) h) [ inl a ↦ inl a | inr a ↦ inr (not-true u a) ]

-- whether the limit is that of `harden`
abbrev pub Decides : Bool → Limit → Type 0
Decides input l = (input ≡ true) ↔ (l ≡ INPUT)

found : (b : List ℕ) (l : Limit) (input : Bool) → Decides input l → (s o : ℕ) → Fault b l SectionKind s o → KindFault b input s o
found b l input is s o (own_map h i e n) = record { listed = i; d = 0; place = omega arith; test = inl (refl, and_from _ _ (is.1 e) n) }
found b l input is s o (refused_kind h i e) = record { listed = i; d = 4; place = refl; test = inr (inl (refl, or_left _ _ e)) }
found b l input is s o (memory_kind h i a m w) = record { listed = i; d = 4; place = refl; test = inr (inl (refl, or_right _ _ (and_from _ _ a (and_from _ _ (not_from_false _ m) (either (is_table (header b h).kind) (is_dropped b h) w))))) }
found b l input is s o (writable_code h i x w) = record { listed = i; d = 8; place = refl; test = inr (inr (inl (refl, and_from _ _ x (or_left _ _ w)))) }
found b l input is s o (empty_code h i x k) = record { listed = i; d = 8; place = refl; test = inr (inr (inl (refl, and_from _ _ x (or_right _ _ (eq-eqb _ _ k))))) }

FaultAt : List ℕ → Limit → ℕ → ℕ → Type 0
FaultAt b l h d = Fault b l SectionKind h (header_place b h + d)

there : (b : List ℕ) (l : Limit) (input : Bool) → Decides input l → (h d : ℕ) → IsHeader b h → HoldsIn (kind_tests b input h) d → Fault b l SectionKind h (header_place b h + d)
there b l input is h d i (inl t) =
    let parts : (input ≡ true) × (is_map b h ≡ true) = and_parts _ _ t.1 in
    let same : header_place b h ≡ header_place b h + d = omega (arith, t.0) in
    subst (λ (o : ℕ). Fault b l SectionKind h o) same (own_map h i (is.0 parts.0) parts.1)
there b l input is h d i (inr (inl t)) = subst (λ (e : ℕ). Fault b l SectionKind h (header_place b h + e)) (sym t.0) (elim (or_cases _ _ t.1) [
  | inl r ↦ refused_kind h i r
  | inr m ↦
      let a = and_parts _ _ m in
      let k = and_parts _ _ a.1 in
      memory_kind h i a.0 (not-true _ k.0) (either_back (is_table (header b h).kind) (is_dropped b h) k.1)
])
there b l input is h d i (inr (inr (inl t))) =
    let a = and_parts _ _ t.1 in
    subst (λ (e : ℕ). Fault b l SectionKind h (header_place b h + e)) (sym t.0) (elim (or_cases _ _ a.1) [
      | inl w ↦ writable_code h i a.0 w
      | inr k ↦ empty_code h i a.0 (eqb-true _ _ k)
    ])
there b l input is h d i (inr (inr (inr x))) = elim x [ ]

first_is : (b : List ℕ) (input : Bool) (h : ℕ) (r : Option ℕ) → r ≡ first_of (kind_tests b input h) → IsFirstOf (kind_tests b input h) r
first_is b input h r e = subst (λ (q : Option ℕ). IsFirstOf (kind_tests b input h) q) (sym e) (first_of_first 0 (kind_tests b input h) refl)

at_most : (b : List ℕ) (input : Bool) (h d : ℕ) → HoldsIn (kind_tests b input h) d → d ≤ 8
at_most b input h d (inl t) = omega (arith, t.0)
at_most b input h d (inr (inl t)) = omega (arith, t.0)
at_most b input h d (inr (inr (inl t))) = omega (arith, t.0)
at_most b input h d (inr (inr (inr x))) = elim x [ ]

pub small_field : (b : List ℕ) (input : Bool) (h d : ℕ) → Some d ≡ first_of (kind_tests b input h) → d ≤ 8
small_field b input h d e = at_most b input h d (first_is b input h (Some d) e).0

module _ (b : List ℕ) (l : Limit) (input : Bool) (is : Decides input l) where
  pub none_first : NoneUnder (Fault b l SectionKind) 1
  none_first s o u f = let k = found b l input is s o f in omega (arith, u, k.listed.behind_null)

  pub none_more : (h : ℕ) → NoneUnder (Fault b l SectionKind) h → None ≡ first_of (kind_tests b input h) → NoneUnder (Fault b l SectionKind) (h + 1)
  none_more h none e =
      let first = first_is b input h None e in
      under_more (Fault b l SectionKind) h none (λ o f. let k = found b l input is h o f in first k.d k.test)

  pub lowest_here : (h d : ℕ) → IsHeader b h → NoneUnder (Fault b l SectionKind) h → Some d ≡ first_of (kind_tests b input h)
      → (p : Place) → p.section ≡ h → p.offset ≡ header_place b h + d → IsLowest (Fault b l SectionKind) (Some p)
  lowest_here h d i none e p at_h at_d =
      let first = first_is b input h (Some d) e in
      lowest_at (Fault b l SectionKind) h (header_place b h + d) none (there b l input is h d i first.0)
      (λ o f u. let k = found b l input is h o f in first.1 k.d k.test (omega (arith, k.place, u))) p at_h at_d

  pub lowest_nowhere : NoneUnder (Fault b l SectionKind) (header_count b) → IsLowest (Fault b l SectionKind) None
  lowest_nowhere none = lowest_none (Fault b l SectionKind) (header_count b) none (λ s o f. (found b l input is s o f).listed.there)
