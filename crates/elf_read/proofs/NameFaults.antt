-- Names that don't end, and the one at the lowest place.
use Rattle.std.proofs.Common.{◌≡◌, ◌≢◌, ◌<◌, ◌≤◌, ◌⊎◌, ℕ, ◌+◌, ◌*◌, ◌/◌, Bool, true, false, ◌||◌, ◌&&◌, List, Option, Some, None, inl, inr, arith, refl, sym, ◌∙◌, ap, subst, cond, eqb, ltb}
use Rattle.std.specs.Prelude.{IsTrue, ◌↔◌}
use Rattle.std.proofs.lemmas.Bool.{false≢true, cases_eq, cases_lt, and_parts, or_cases, or_parts, ltb-true, ltb-false, eqb-true, eqb-false, and_cases}
use Rattle.elf_model.specs.declared.refusals.Limit.{Limit}
use Rattle.elf_model.specs.declared.refusals.Refusal.TheVariants.{BadName}
use Rattle.elf_model.specs.Constants.{symtab, rel}
use Rattle.elf_model.specs.Fields.{half_at, word_at}
use Rattle.elf_model.specs.Files.{header_place, header, IsKind, EndsAt}
use Rattle.elf_read.specs.declared.places.Place.{Place}
use Rattle.elf_read.specs.Faults.{Fault, IsHeader}
use Rattle.elf_read.specs.Faults.Fault.{section_unnamed, symbol_unnamed}
use Rattle.elf_read.specs.HeaderFaults.{IsTabled}
use Rattle.elf_read.specs.Places.{IsBelow, IsLowest, lower_of}
use Rattle.elf_read.specs.Texts.{IsUnnamed, IsUnnamedSymbol}

-- of two relations, the lower one of the lowest places
pub below_trans : (s o : ℕ) (p q : Place) → IsBelow s o p → IsBelow p.section p.offset q → IsBelow s o q
below_trans s o p q a b =
    elim a [
      | inl x ↦ elim b [ inl y ↦ inl (omega arith) | inr y ↦ inl (omega (arith, y.0)) ]
      | inr x ↦ elim b [ inl y ↦ inl (omega (arith, x.0)) | inr y ↦ inr (x.0 ∙ y.0, omega (arith, x.1, y.1)) ]
    ]

pub lowest_of_two : (P Q : ℕ → ℕ → Type 0) (a b : Option Place) → IsLowest P a → IsLowest Q b → IsLowest (λ s o. P s o ⊎ Q s o) (lower_of a b)
lowest_of_two P Q None None x y = λ s o e. elim e [ inl p ↦ x s o p | inr q ↦ y s o q ]
lowest_of_two P Q None (Some q) x y = (inr y.0, λ s o e. elim e [ inl p ↦ (λ _. x s o p) | inr r ↦ y.1 s o r ])
lowest_of_two P Q (Some p) None x y = (inl x.0, λ s o e. elim e [ inl r ↦ x.1 s o r | inr r ↦ (λ _. y s o r) ])
lowest_of_two P Q (Some p) (Some q) x y = go (ltb q.section p.section || (eqb q.section p.section && ltb q.offset p.offset)) refl
  where
    under : (ltb q.section p.section || (eqb q.section p.section && ltb q.offset p.offset)) ≡ true → IsBelow q.section q.offset p
    under e =
        elim (or_cases (ltb q.section p.section) (eqb q.section p.section && ltb q.offset p.offset) e) [
          | inl lt ↦ inl (ltb-true _ _ lt)
          | inr same ↦ inr (eqb-true _ _ (and_parts (eqb q.section p.section) (ltb q.offset p.offset) same).0, ltb-true _ _ (and_parts (eqb q.section p.section) (ltb q.offset p.offset) same).1)
        ]

    over : (ltb q.section p.section || (eqb q.section p.section && ltb q.offset p.offset)) ≡ false → (s o : ℕ) → IsBelow s o p → IsBelow s o q
    over e s o below =
        let parts = or_parts (ltb q.section p.section) (eqb q.section p.section && ltb q.offset p.offset) e in
        let le = ltb-false _ _ parts.0 in
        elim below [
          | inl lt ↦ inl (omega (arith, le))
          | inr same ↦
              elim (and_cases (eqb q.section p.section) (ltb q.offset p.offset) parts.1) [
                | inl apart ↦ inl (omega (arith, le, eqb-false _ _ apart))
                | inr higher ↦
                    elim (cases_eq q.section p.section) [
                      | inl here ↦ inr (same.0 ∙ sym here, omega (arith, ltb-false _ _ higher, same.1))
                      | inr apart ↦ inl (omega (arith, le, same.0))
                    ]
              ]
        ]

    go : (t : Bool) → (ltb q.section p.section || (eqb q.section p.section && ltb q.offset p.offset)) ≡ t → IsLowest (λ s o. P s o ⊎ Q s o) (cond t (Some q) (Some p))
    go true e = (inr y.0, λ s o f below. elim f [ inl r ↦ x.1 s o r (below_trans s o q p below (under e)) | inr r ↦ y.1 s o r below ])
    go false e = (inl x.0, λ s o f below. elim f [ inl r ↦ x.1 s o r below | inr r ↦ y.1 s o r (over e s o below) ])

-- the same places
pub lowest_same : (P Q : ℕ → ℕ → Type 0) (a : Option Place) → ((s o : ℕ) → P s o → Q s o) → ((s o : ℕ) → Q s o → P s o) → IsLowest P a → IsLowest Q a
lowest_same P Q None f g x = λ s o q. x s o (g s o q)
lowest_same P Q (Some p) f g x = (f _ _ x.0, λ s o q. x.1 s o (g s o q))

unnamed_fault : (b : List ℕ) (l : Limit) (s o : ℕ) → IsUnnamed b s o ⊎ IsUnnamedSymbol b s o → Fault b l BadName s o
unnamed_fault b l s o (inl u) = subst (λ (x : ℕ). Fault b l BadName s x) (sym u.place) (section_unnamed s u.listed u.named u.endless)
unnamed_fault b l s o (inr u) = symbol_unnamed s u.k o u.stands u.endless

fault_unnamed : (b : List ℕ) (l : Limit) (s o : ℕ) → Fault b l BadName s o → IsUnnamed b s o ⊎ IsUnnamedSymbol b s o
fault_unnamed b l s o (section_unnamed h there kind none) = inl (record { listed = there; named = kind; endless = none; place = refl })
fault_unnamed b l s o (symbol_unnamed t k e stands none) = inr (record { k = k; stands = stands; endless = none })

pub lowest_name : (b : List ℕ) (l : Limit) (p q : Option Place) → IsLowest (IsUnnamed b) p → IsLowest (IsUnnamedSymbol b) q → IsLowest (Fault b l BadName) (lower_of p q)
lowest_name b l p q x y =
    lowest_same (λ s o. IsUnnamed b s o ⊎ IsUnnamedSymbol b s o) (Fault b l BadName) (lower_of p q) (unnamed_fault b l) (fault_unnamed b l)
    (lowest_of_two (IsUnnamed b) (IsUnnamedSymbol b) p q x y)

-- the names of the sections before this one end
abbrev pub NamedBelow : List ℕ → ℕ → Type 0
NamedBelow b h = (s o : ℕ) → s < h → IsUnnamed b s o → ⊥

pub named_more : (b : List ℕ) (h : ℕ) → NamedBelow b h → ((header b h).kind ≢ rel → EndsAt b (half_at b 50) (header b h).name) → NamedBelow b (h + 1)
named_more b h below ends s o lt u =
    elim (cases_eq s h) [
      | inl same ↦ u.endless (subst (λ (k : ℕ). EndsAt b (half_at b 50) (header b k).name) (sym same) (ends (subst (λ (k : ℕ). (header b k).kind ≢ rel) same u.named)))
      | inr other ↦ below s o (omega arith) u
    ]

pub first_section : (b : List ℕ) (h place : ℕ) → place ≡ header_place b h → IsHeader b h → NamedBelow b h → (header b h).kind ≢ rel → (EndsAt b (half_at b 50) (header b h).name → ⊥)
    → IsUnnamed b h place × ((s o : ℕ) → IsUnnamed b s o → (s < h) ⊎ ((s ≡ h) × (o < place)) → ⊥)
first_section b h place at there below kind endless = (
  record { listed = there; named = kind; endless = endless; place = at },
  λ s o u lower.
      elim lower [
        | inl lt ↦ below s o lt u
        | inr same ↦
            (let here : o ≡ header_place b h = u.place ∙ ap (header_place b) same.0 in
            omega (arith, same.1, at, here))
      ],
)

-- the names of the symbols before this one end
abbrev pub SymbolsNamed : List ℕ → ℕ → ℕ → Type 0
SymbolsNamed b t k = (j : ℕ) → 0 < j → j < k → EndsAt b (header b t).link (word_at b ((header b t).offset + 16 * j))

pub symbols_more : (b : List ℕ) (t k : ℕ) → SymbolsNamed b t k → EndsAt b (header b t).link (word_at b ((header b t).offset + 16 * k)) → SymbolsNamed b t (k + 1)
symbols_more b t k below ends j low high =
    elim (cases_eq j k) [
      | inl same ↦ subst (λ (i : ℕ). EndsAt b (header b t).link (word_at b ((header b t).offset + 16 * i))) (sym same) ends
      | inr other ↦ below j low (omega arith)
    ]

-- a symbol without a name is one of the table, behind those that have one
unnamed_behind : (b : List ℕ) (t k s o : ℕ) → IsTabled b → IsKind b t symtab → SymbolsNamed b t k → IsUnnamedSymbol b s o → (s ≡ t) × ((header b t).offset + 16 * k ≤ o) × (k < (header b t).size / 16)
unnamed_behind b t k s o tabled kind named u =
    let same : s ≡ t = tabled.one_symbol_table s t u.stands.table kind in
    let place : o ≡ (header b t).offset + 16 * u.k = subst (λ (x : ℕ). o ≡ (header b x).offset + 16 * u.k) same u.stands.place in
    let there : u.k < (header b t).size / 16 = subst (λ (x : ℕ). u.k < (header b x).size / 16) same u.stands.there in
    let behind : k ≤ u.k =
    elim (cases_lt u.k k) [
      | inl lt ↦
          absurd (u.endless (subst (λ (x : ℕ). EndsAt b (header b x).link (word_at b o)) (sym same)
          (subst (λ (x : ℕ). EndsAt b (header b t).link (word_at b x)) (sym place) (named u.k u.stands.behind_null lt))))
      | inr le ↦ le
    ] in
    (same, omega arith, omega arith)

pub first_symbol : (b : List ℕ) (t k e : ℕ) → IsTabled b → IsKind b t symtab → 0 < k → k < (header b t).size / 16 → e ≡ (header b t).offset + 16 * k → SymbolsNamed b t k → (EndsAt b (header b t).link (word_at b e) → ⊥)
    → IsUnnamedSymbol b t e × ((s o : ℕ) → IsUnnamedSymbol b s o → (s < t) ⊎ ((s ≡ t) × (o < e)) → ⊥)
first_symbol b t k e tabled kind some lt at named endless = (
  record { k = k; stands = record { table = kind; behind_null = some; there = lt; place = at }; endless = endless },
  λ s o u lower.
      let behind = unnamed_behind b t k s o tabled kind named u in
      elim lower [ inl low ↦ omega (arith, low, behind.0) | inr same ↦ omega (arith, same.1, at, behind.1) ],
)

pub all_symbols : (b : List ℕ) (t : ℕ) → IsTabled b → IsKind b t symtab → (k : ℕ) → (header b t).size / 16 ≤ k → SymbolsNamed b t k → (s o : ℕ) → IsUnnamedSymbol b s o → ⊥
all_symbols b t tabled kind k past named s o u = let behind = unnamed_behind b t k s o tabled kind named u in omega (arith, past, behind.2)

-- what the test of a name says, at numbers that are the same
pub ends_by : (b : List ℕ) (t u p q : ℕ) (r : Bool) → (IsTrue r ↔ EndsAt b t p) → t ≡ u → p ≡ q → r ≡ true → EndsAt b u q
ends_by b t u p q r test same place holds = subst (λ (x : ℕ). EndsAt b u x) place (subst (λ (x : ℕ). EndsAt b x p) same (test.0 holds))

pub endless_by : (b : List ℕ) (t u p q : ℕ) (r : Bool) → (IsTrue r ↔ EndsAt b t p) → t ≡ u → p ≡ q → r ≡ false → EndsAt b u q → ⊥
endless_by b t u p q r test same place fails e =
    false≢true (sym fails ∙ test.1 (subst (λ (x : ℕ). EndsAt b x p) (sym same) (subst (λ (x : ℕ). EndsAt b u x) (sym place) e)))
