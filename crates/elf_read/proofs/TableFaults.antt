-- The faults of the table of section headers, and the tests that find them.
use Rattle.std.proofs.Common.{◌≡◌, ◌<◌, ◌≤◌, ◌⊎◌, ℕ, zero, suc, ◌+◌, ◌*◌, ◌%◌, List, length, Option, Some, None, inl, inr, arith, refl, sym, ◌∙◌, ap, subst, Bool, true, false, not, ◌&&◌, ◌||◌, eqb}
use Rattle.std.proofs.lemmas.Bool.{false≢true, and_parts, and_from, or_cases, or_left, or_right, eqb-true, eq-eqb, ltb-true, lt-ltb, not-true, not_from_false, false_from_ne_true, cases_lt, cases_eq}
use Rattle.elf_model.specs.declared.refusals.Limit.{Limit}
use Rattle.elf_model.specs.declared.refusals.Refusal.TheVariants.{BadTable}
use Rattle.elf_model.specs.Constants.{symtab, strtab, rel}
use Rattle.elf_model.specs.Fields.{word_at}
use Rattle.elf_model.specs.Files.{Header, header_count, header_place, header, IsKind}
use Rattle.elf_read.specs.Faults.{Fault, IsHeader, IsTarget}
use Rattle.elf_read.specs.Faults.Fault.{headers_outside, other_header_size, no_name_table, second_symtab, outside, uneven_symtab, uneven_rel, symtab_link, rel_link, rel_target, bad_alignment, symtab_entry, rel_entry}
use Rattle.elf_read.specs.HeaderFaults.{has_kind, is_target, is_outside, is_uneven, is_mislinked, is_astray, is_misaligned, is_missized, table_tests, header_tests}
use Rattle.elf_read.specs.Headers.{HasHeaders}
use Rattle.elf_read.specs.Places.{first_of}
use Rattle.elf_read.proofs.FirstTests.{HoldsIn, IsFirstOf, rise_from, first_of_first}

pub kind_there : (b : List ℕ) (h kind : ℕ) → has_kind b h kind ≡ true → IsKind b h kind
kind_there b h kind e =
    let two = and_parts _ _ e in
    let one = and_parts _ _ two.0 in
    (ltb-true 0 h one.0, ltb-true h (header_count b) one.1, eqb-true (header b h).kind kind two.1)

pub there_kind : (b : List ℕ) (h kind : ℕ) → IsKind b h kind → has_kind b h kind ≡ true
there_kind b h kind k = and_from _ _ (and_from _ _ (lt-ltb 0 h k.0) (lt-ltb h (header_count b) k.1)) (eq-eqb (header b h).kind kind k.2)

pub target_there : (b : List ℕ) (h : ℕ) → is_target b h ≡ true → IsTarget b h
target_there b h e =
    let two = and_parts _ _ e in
    let one = and_parts _ _ two.0 in
    record { listed = record { behind_null = ltb-true 0 h one.0; there = ltb-true h (header_count b) one.1 }; no_table = not-true _ two.1 }

pub there_target : (b : List ℕ) (h : ℕ) → IsTarget b h → is_target b h ≡ true
there_target b h t = and_from _ _ (and_from _ _ (lt-ltb 0 h t.listed.behind_null) (lt-ltb h (header_count b) t.listed.there)) (not_from_false _ t.no_table)

-- a test that fails, of what a fact computes
no_test : {P : Type 0} (b : Bool) → (b ≡ true → P) → (P → ⊥) → not b ≡ true
no_test b f n = not_from_false b (false_from_ne_true b (λ e. n (f e)))

test_no : {P : Type 0} (b : Bool) → (P → b ≡ true) → not b ≡ true → P → ⊥
test_no b f n p = false≢true (sym (not-true b n) ∙ f p)

-- a number that isn't another
pub other : (m n : ℕ) → (m ≡ n → ⊥) → not (eqb m n) ≡ true
other m n h = no_test (eqb m n) (eqb-true m n) h

pub others : (m n : ℕ) → not (eqb m n) ≡ true → m ≡ n → ⊥
others m n h = test_no (eqb m n) (eq-eqb m n) h

-- a symbol table stands behind the null header and before this one
abbrev pub symtab_below : List ℕ → ℕ → Bool
symtab_below b zero = false
symtab_below b (suc h) = symtab_below b h || has_kind b h symtab

pub below_there : (b : List ℕ) (h : ℕ) → symtab_below b h ≡ true → (k : ℕ) × (k < h) × IsKind b k symtab
below_there b zero e = absurd (false≢true e)
below_there b (suc h) e =
    elim (or_cases _ _ e) [
      | inl before ↦ (let k = below_there b h before in (k.0, omega (arith, k.1), k.2))
      | inr here ↦ (h, omega arith, kind_there b h symtab here)
    ]

pub there_below : (b : List ℕ) (h k : ℕ) → k < h → IsKind b k symtab → symtab_below b h ≡ true
there_below b zero k lt kind = absurd (omega arith)
there_below b (suc h) k lt kind =
    elim (cases_eq k h) [
      | inl same ↦ or_right (symtab_below b h) _ (there_kind b h symtab (subst (λ (j : ℕ). IsKind b j symtab) same kind))
      | inr other ↦ or_left _ (has_kind b h symtab) (there_below b h k (omega arith) kind)
    ]

-- what is wrong at an offset of the file
pub data TableFault (b : List ℕ) (s o : ℕ) : Type 0 where
  in_file : s ≡ 0 → 0 < header_count b → HoldsIn (table_tests b) o → TableFault b s o
  in_header : IsHeader b s → (d : ℕ) → o ≡ header_place b s + d → HoldsIn (header_tests (symtab_below b s) b (header b s)) d → TableFault b s o

listed : (b : List ℕ) (h kind : ℕ) → IsKind b h kind → IsHeader b h
listed b h kind k = record { behind_null = k.0; there = k.1 }

abbrev At : List ℕ → ℕ → ℕ → Type 0
At b h d = HoldsIn (header_tests (symtab_below b h) b (header b h)) d

pub found : (b : List ℕ) (l : Limit) (s o : ℕ) → Fault b l BadTable s o → TableFault b s o
found b l s o (headers_outside some n) = in_file refl some (inl (refl, lt-ltb _ _ n))
found b l s o (other_header_size some n) = in_file refl some (inr (inl (refl, other _ _ n)))
found b l s o (no_name_table some n) = in_file refl some (inr (inr (inl (refl, no_test _ (kind_there b _ strtab) n))))
found b l s o (second_symtab k h lt first again) =
    in_header (listed b h symtab again) 4 refl (inl (refl, and_from _ _ (there_below b h k lt first) (eq-eqb _ _ again.2)))
found b l s o (outside h there kind n) = in_header there 16 refl (inr (inl (refl, and_from _ _ (other _ _ kind) (lt-ltb _ _ n))))
found b l s o (uneven_symtab h kind n) =
    in_header (listed b h symtab kind) 20 refl (inr (inr (inl (refl, or_left _ _ (and_from _ _ (eq-eqb _ _ kind.2) (other _ _ n))))))
found b l s o (uneven_rel h kind n) =
    in_header (listed b h rel kind) 20 refl (inr (inr (inl (refl, or_right _ _ (and_from _ _ (eq-eqb _ _ kind.2) (other _ _ n))))))
found b l s o (symtab_link h kind n) =
    in_header (listed b h symtab kind) 24 refl (inr (inr (inr (inl (refl, or_left _ _ (and_from _ _ (eq-eqb _ _ kind.2) (no_test _ (kind_there b _ strtab) n)))))))
found b l s o (rel_link h kind n) =
    in_header (listed b h rel kind) 24 refl (inr (inr (inr (inl (refl, or_right _ _ (and_from _ _ (eq-eqb _ _ kind.2) (no_test _ (kind_there b _ symtab) n)))))))
found b l s o (rel_target h kind n) =
    in_header (listed b h rel kind) 28 refl (inr (inr (inr (inr (inl (refl, and_from _ _ (eq-eqb _ _ kind.2) (no_test _ (target_there b _) n)))))))
found b l s o (bad_alignment h there some n) =
    in_header there 32 refl (inr (inr (inr (inr (inr (inl (refl, and_from _ _ (other _ _ some) (not_from_false _ n))))))))
found b l s o (symtab_entry h kind n) =
    in_header (listed b h symtab kind) 36 refl (inr (inr (inr (inr (inr (inr (inl (refl, or_left _ _ (and_from _ _ (eq-eqb _ _ kind.2) (other _ _ n))))))))))
found b l s o (rel_entry h kind n) =
    in_header (listed b h rel kind) 36 refl (inr (inr (inr (inr (inr (inr (inl (refl, or_right _ _ (and_from _ _ (eq-eqb _ _ kind.2) (other _ _ n))))))))))

at_file : (b : List ℕ) (l : Limit) (o : ℕ) → 0 < header_count b → HoldsIn (table_tests b) o → Fault b l BadTable 0 o
at_file b l o some (inl h) = subst (λ (x : ℕ). Fault b l BadTable 0 x) (sym h.0) (headers_outside some (ltb-true _ _ h.1))
at_file b l o some (inr (inl h)) = subst (λ (x : ℕ). Fault b l BadTable 0 x) (sym h.0) (other_header_size some (others _ _ h.1))
at_file b l o some (inr (inr (inl h))) = subst (λ (x : ℕ). Fault b l BadTable 0 x) (sym h.0) (no_name_table some (test_no _ (there_kind b _ strtab) h.1))
at_file b l o some (inr (inr (inr h))) = absurd h

both_or : (p q r s : Bool) → ((p && q) || (r && s)) ≡ true → ((p ≡ true) × (q ≡ true)) ⊎ ((r ≡ true) × (s ≡ true))
both_or p q r s e = elim (or_cases (p && q) (r && s) e) [ inl a ↦ inl (and_parts p q a) | inr a ↦ inr (and_parts r s a) ]

kind_here : (b : List ℕ) (h kind : ℕ) → IsHeader b h → eqb (header b h).kind kind ≡ true → IsKind b h kind
kind_here b h kind i e = (i.behind_null, i.there, eqb-true _ _ e)

-- a fault at an offset from a header's start
abbrev FaultIn : List ℕ → Limit → ℕ → ℕ → Type 0
FaultIn b l h d = Fault b l BadTable h (header_place b h + d)

second_at : (b : List ℕ) (l : Limit) (h : ℕ) → IsHeader b h → (symtab_below b h && eqb (header b h).kind symtab) ≡ true → FaultIn b l h 4
second_at b l h i e =
    let parts = and_parts _ _ e in
    let k = below_there b h parts.0 in
    second_symtab k.0 h k.1 k.2 (kind_here b h symtab i parts.1)

outside_at : (b : List ℕ) (l : Limit) (h : ℕ) → IsHeader b h → is_outside b (header b h) ≡ true → FaultIn b l h 16
outside_at b l h i e = let parts = and_parts _ _ e in outside h i (others _ _ parts.0) (ltb-true _ _ parts.1)

uneven_at : (b : List ℕ) (l : Limit) (h : ℕ) → IsHeader b h → is_uneven (header b h) ≡ true → FaultIn b l h 20
uneven_at b l h i e =
    elim (both_or (eqb (header b h).kind symtab) (not (eqb ((header b h).size % 16) 0)) (eqb (header b h).kind rel) (not (eqb ((header b h).size % 8) 0)) e) [
      | inl a ↦ uneven_symtab h (kind_here b h symtab i a.0) (others _ _ a.1)
      | inr a ↦ uneven_rel h (kind_here b h rel i a.0) (others _ _ a.1)
    ]

mislinked_at : (b : List ℕ) (l : Limit) (h : ℕ) → IsHeader b h → is_mislinked b (header b h) ≡ true → FaultIn b l h 24
mislinked_at b l h i e =
    elim (both_or (eqb (header b h).kind symtab) (not (has_kind b (header b h).link strtab)) (eqb (header b h).kind rel) (not (has_kind b (header b h).link symtab)) e) [
      | inl a ↦ symtab_link h (kind_here b h symtab i a.0) (test_no _ (there_kind b _ strtab) a.1)
      | inr a ↦ rel_link h (kind_here b h rel i a.0) (test_no _ (there_kind b _ symtab) a.1)
    ]

astray_at : (b : List ℕ) (l : Limit) (h : ℕ) → IsHeader b h → is_astray b (header b h) ≡ true → FaultIn b l h 28
astray_at b l h i e = let parts = and_parts _ _ e in rel_target h (kind_here b h rel i parts.0) (test_no _ (there_target b _) parts.1)

misaligned_at : (b : List ℕ) (l : Limit) (h : ℕ) → IsHeader b h → is_misaligned (header b h) ≡ true → FaultIn b l h 32
misaligned_at b l h i e = let parts = and_parts _ _ e in bad_alignment h i (others _ _ parts.0) (not-true _ parts.1)

missized_at : (b : List ℕ) (l : Limit) (h : ℕ) → IsHeader b h → is_missized (header b h) ≡ true → FaultIn b l h 36
missized_at b l h i e =
    elim (both_or (eqb (header b h).kind symtab) (not (eqb (header b h).entry 16)) (eqb (header b h).kind rel) (not (eqb (header b h).entry 8)) e) [
      | inl a ↦ symtab_entry h (kind_here b h symtab i a.0) (others _ _ a.1)
      | inr a ↦ rel_entry h (kind_here b h rel i a.0) (others _ _ a.1)
    ]

moved : (b : List ℕ) (l : Limit) (h d e : ℕ) → d ≡ e → FaultIn b l h e → FaultIn b l h d
moved b l h d e same f = subst (λ (x : ℕ). FaultIn b l h x) (sym same) f

at_header : (b : List ℕ) (l : Limit) (h : ℕ) → IsHeader b h → (d : ℕ) → At b h d → FaultIn b l h d
at_header b l h i d (inl a) = moved b l h d 4 a.0 (second_at b l h i a.1)
at_header b l h i d (inr (inl a)) = moved b l h d 16 a.0 (outside_at b l h i a.1)
at_header b l h i d (inr (inr (inl a))) = moved b l h d 20 a.0 (uneven_at b l h i a.1)
at_header b l h i d (inr (inr (inr (inl a)))) = moved b l h d 24 a.0 (mislinked_at b l h i a.1)
at_header b l h i d (inr (inr (inr (inr (inl a))))) = moved b l h d 28 a.0 (astray_at b l h i a.1)
at_header b l h i d (inr (inr (inr (inr (inr (inl a)))))) = moved b l h d 32 a.0 (misaligned_at b l h i a.1)
at_header b l h i d (inr (inr (inr (inr (inr (inr (inl a))))))) = moved b l h d 36 a.0 (missized_at b l h i a.1)
at_header b l h i d (inr (inr (inr (inr (inr (inr (inr a))))))) = absurd a

pub is_fault : (b : List ℕ) (l : Limit) (s o : ℕ) → TableFault b s o → Fault b l BadTable s o
is_fault b l s o (in_file start some h) = subst (λ (x : ℕ). Fault b l BadTable x o) (sym start) (at_file b l o some h)
is_fault b l s o (in_header i d place h) = subst (λ (x : ℕ). Fault b l BadTable s x) (sym place) (at_header b l s i d h)

-- no header before this one has a fault
abbrev pub NoneBelow : List ℕ → ℕ → Type 0
NoneBelow b h = (s o : ℕ) → s < h → TableFault b s o → ⊥

-- the tests of a header, with what stands before it
abbrev pub tests_of : List ℕ → ℕ → List (ℕ × Bool)
tests_of b h = header_tests (symtab_below b h) b (header b h)

pub same_tests : (b : List ℕ) (h : ℕ) (seen : Bool) (f : Header) (r : Option ℕ) → r ≡ first_of (header_tests seen b f) → seen ≡ symtab_below b h → f ≡ header b h → r ≡ first_of (tests_of b h)
same_tests b h seen f r e p q =
    e ∙ ap (λ (s : Bool). first_of (header_tests s b f)) p ∙ ap (λ (g : Header). first_of (header_tests (symtab_below b h) b g)) q

none_of : (low : ℕ) (tests : List (ℕ × Bool)) → rise_from low tests ≡ true → None ≡ first_of tests → (d : ℕ) → HoldsIn tests d → ⊥
none_of low tests r e = subst (IsFirstOf tests) (sym e) (first_of_first low tests r)

some_of : (low : ℕ) (tests : List (ℕ × Bool)) (e : ℕ) → rise_from low tests ≡ true → Some e ≡ first_of tests → HoldsIn tests e × ((d : ℕ) → HoldsIn tests d → d < e → ⊥)
some_of low tests d r e = subst (IsFirstOf tests) (sym e) (first_of_first low tests r)

pub none_first : (b : List ℕ) → None ≡ first_of (table_tests b) → NoneBelow b 1
none_first b e s o lt (in_file start some h) = none_of 0 (table_tests b) refl e o h
none_first b e s o lt (in_header i d place h) = omega (arith, i.behind_null)

no_fault_here : (b : List ℕ) (h : ℕ) → 1 ≤ h → None ≡ first_of (tests_of b h) → NoneBelow b h → (s o : ℕ) → s ≡ h → TableFault b s o → ⊥
no_fault_here b h far e none s o same (in_file start some x) = none 0 o (omega arith) (in_file refl some x)
no_fault_here b h far e none s o same (in_header i d place x) = none_of 0 (tests_of b h) refl e d (subst (λ (k : ℕ). HoldsIn (tests_of b k) d) same x)

none_in_all : (b : List ℕ) → NoneBelow b (header_count b) → (s o : ℕ) → TableFault b s o → ⊥
none_in_all b none s o (in_file start some h) = none s o (omega arith) (in_file start some h)
none_in_all b none s o (in_header i d place h) = none s o i.there (in_header i d place h)

before_in_file : (b : List ℕ) (e : ℕ) → ((d : ℕ) → HoldsIn (table_tests b) d → d < e → ⊥) → (s o : ℕ) → s ≡ 0 → o < e → TableFault b s o → ⊥
before_in_file b e first s o start lt (in_file at some h) = first o h lt
before_in_file b e first s o start lt (in_header i d place h) = omega (arith, i.behind_null)

before_in_header : (b : List ℕ) (h e : ℕ) → IsHeader b h → ((d : ℕ) → HoldsIn (tests_of b h) d → d < e → ⊥) → (s o : ℕ) → s ≡ h → o < header_place b h + e → TableFault b s o → ⊥
before_in_header b h e i first s o same lt (in_file start some x) = omega (arith, i.behind_null)
before_in_header b h e i first s o same lt (in_header j d place x) =
    let here : o ≡ header_place b h + d = subst (λ (k : ℕ). o ≡ header_place b k + d) same place in
    first d (subst (λ (k : ℕ). HoldsIn (tests_of b k) d) same x) (omega arith)

at_most : (b : List ℕ) (h d : ℕ) → HoldsIn (tests_of b h) d → d ≤ 36
at_most b h d (inl a) = omega (arith, a.0)
at_most b h d (inr (inl a)) = omega (arith, a.0)
at_most b h d (inr (inr (inl a))) = omega (arith, a.0)
at_most b h d (inr (inr (inr (inl a)))) = omega (arith, a.0)
at_most b h d (inr (inr (inr (inr (inl a))))) = omega (arith, a.0)
at_most b h d (inr (inr (inr (inr (inr (inl a)))))) = omega (arith, a.0)
at_most b h d (inr (inr (inr (inr (inr (inr (inl a))))))) = omega (arith, a.0)
at_most b h d (inr (inr (inr (inr (inr (inr (inr a))))))) = absurd a

pub none_more : (b : List ℕ) (h : ℕ) → 1 ≤ h → None ≡ first_of (tests_of b h) → NoneBelow b h → NoneBelow b (h + 1)
none_more b h far e none s o lt f =
    elim (cases_eq s h) [
      | inl same ↦ no_fault_here b h far e none s o same f
      | inr other ↦ none s o (omega arith) f
    ]

pub listed_here : (b : List ℕ) → 52 ≤ length b → None ≡ first_of (table_tests b) → HasHeaders b
listed_here b long e =
    elim (cases_lt (length b) (word_at b 32 + 40 * header_count b)) [
      | inl short ↦ absurd (none_of 0 (table_tests b) refl e 32 (inl (refl, lt-ltb _ _ short)))
      | inr inside ↦ record { long = long; inside = inside }
    ]

pub none_at_all : (b : List ℕ) (l : Limit) → NoneBelow b (header_count b) → (s o : ℕ) → Fault b l BadTable s o → ⊥
none_at_all b l none s o f = none_in_all b none s o (found b l s o f)

pub first_in_file : (b : List ℕ) (l : Limit) (d : ℕ) → 0 < header_count b → Some d ≡ first_of (table_tests b) → Fault b l BadTable 0 d × ((s o : ℕ) → Fault b l BadTable s o → (s < 0) ⊎ ((s ≡ 0) × (o < d)) → ⊥)
first_in_file b l d some e =
    let first = some_of 0 (table_tests b) d refl e in
    (at_file b l d some first.0, λ s o f below. elim below [ inl lt ↦ omega arith | inr at ↦ before_in_file b d first.1 s o at.0 at.1 (found b l s o f) ])

pub first_in_header : (b : List ℕ) (l : Limit) (h d : ℕ) → IsHeader b h → NoneBelow b h → Some d ≡ first_of (tests_of b h)
    → Fault b l BadTable h (header_place b h + d) × ((s o : ℕ) → Fault b l BadTable s o → (s < h) ⊎ ((s ≡ h) × (o < header_place b h + d)) → ⊥)
first_in_header b l h d i none e =
    let first = some_of 0 (tests_of b h) d refl e in (
      at_header b l h i d first.0,
      λ s o f below. elim below [ inl lt ↦ none s o lt (found b l s o f) | inr at ↦ before_in_header b h d i first.1 s o at.0 at.1 (found b l s o f) ],
    )

-- the last offset of a header
pub small_field : (b : List ℕ) (h d : ℕ) → Some d ≡ first_of (tests_of b h) → d ≤ 36
small_field b h d e = at_most b h d (some_of 0 (tests_of b h) d refl e).0

pub seen_more : (b : List ℕ) (h : ℕ) → symtab_below b (h + 1) ≡ (symtab_below b h || has_kind b h symtab)
seen_more b h = let e : h + 1 ≡ suc h = omega arith in ap (symtab_below b) e

kind_at : (b : List ℕ) (h : ℕ) → IsHeader b h → has_kind b h symtab ≡ eqb (header b h).kind symtab
kind_at b h i = ap (λ (x : Bool). x && eqb (header b h).kind symtab) (and_from _ _ (lt-ltb 0 h i.behind_null) (lt-ltb h (header_count b) i.there))

pub seen_step : (b : List ℕ) (h kind : ℕ) (seen : Bool) → IsHeader b h → kind ≡ (header b h).kind → seen ≡ symtab_below b h → (seen || eqb kind symtab) ≡ symtab_below b (h + 1)
seen_step b h kind seen i k s =
    ap (λ (x : Bool). x || eqb kind symtab) s ∙ ap (λ (x : ℕ). symtab_below b h || eqb x symtab) k
    ∙ ap (λ (x : Bool). symtab_below b h || x) (sym (kind_at b h i)) ∙ sym (seen_more b h)
