-- The numbers that the limit is about.
use Rattle.std.proofs.Common.{◌≡◌, ◌<◌, ◌≤◌, ◌≢◌, ℕ, ◌+◌, ◌-◌, ◌/◌, Bool, true, false, cond, ◌||◌, List, [], ◌∷◌, Some, None, inl, inr, arith, refl, sym, ap, ◌∙◌, filter, zero-add}
use Rattle.std.specs.Prelude.{nat_lt, sum_by, ◌==◌}
use Rattle.std.proofs.lemmas.Bool.{and_parts, and_from, or_cases, or_parts, eqb-true, eq-eqb, ltb-true, ltb-false}
use Rattle.std.proofs.lemmas.List.Elements.{filter-append}
use Rattle.std.proofs.lemmas.List.Sums.{sum_by-append, sum_by_push}
use Rattle.elf_model.specs.declared.refusals.Limit.{Limit}
use Rattle.elf_model.specs.declared.refusals.Refusal.TheVariants.{TooMany}
use Rattle.elf_model.specs.Constants.{symtab}
use Rattle.elf_model.specs.Files.{from, header, header_count, header_place}
use Rattle.elf_read.specs.declared.places.Place.{Place}
use Rattle.elf_read.specs.Faults.{Fault, IsHeader, relocs_up_to, code_up_to, is_code_header}
use Rattle.elf_read.specs.Faults.Fault.{many_headers, many_symbols, many_relocs, much_code}
use Rattle.elf_read.specs.Keeping.{is_kept_relocs, relocs_at, code_at, symbols_at, passes}
use Rattle.elf_read.specs.Places.{IsLowest}
use Rattle.elf_read.proofs.Flags.{from_more}
use Rattle.elf_read.proofs.Lowest.{NoneUnder, under_more, lowest_at, lowest_none}

sum_one : (f : ℕ → ℕ) (t : Bool) (h : ℕ) → sum_by f (cond t (h ∷ []) []) ≡ cond t (f h) 0
sum_one f true h = sum_by_push f [] h ∙ zero-add (f h)
sum_one f false h = refl

sum_more : (f : ℕ → ℕ) (p : ℕ → Bool) (h : ℕ) → 1 ≤ h → sum_by f (filter p (from 1 h)) ≡ sum_by f (filter p (from 1 (h - 1))) + cond (p h) (f h) 0
sum_more f p h l =
    let a : h ≡ (h - 1) + 1 = omega arith in
    let b : 1 + (h - 1) ≡ h = omega arith in
    ap (λ (n : ℕ). sum_by f (filter p (from 1 n))) a ∙ ap (λ (xs : List ℕ). sum_by f (filter p xs)) (from_more 1 (h - 1))
    ∙ ap (sum_by f) (filter-append p (from 1 (h - 1)) ((1 + (h - 1)) ∷ []))
    ∙ sum_by-append f (filter p (from 1 (h - 1))) (filter p ((1 + (h - 1)) ∷ []))
    ∙ ap (λ (k : ℕ). sum_by f (filter p (from 1 (h - 1))) + sum_by f (cond (p k) (k ∷ []) [])) b
    ∙ ap (λ (n : ℕ). sum_by f (filter p (from 1 (h - 1))) + n) (sum_one f (p h) h)

pub relocs_more : (b : List ℕ) (h : ℕ) → 1 ≤ h → relocs_up_to b h ≡ relocs_up_to b (h - 1) + relocs_at b h
relocs_more b h l = sum_more (λ k. (header b k).size / 8) (is_kept_relocs b) h l

pub code_more : (b : List ℕ) (h : ℕ) → 1 ≤ h → code_up_to b h ≡ code_up_to b (h - 1) + code_at b h
code_more b h l = sum_more (λ k. (header b k).size) (is_code_header b) h l

-- what is chosen only where a test holds
held : (t : Bool) (n : ℕ) → cond t n 0 ≢ 0 → t ≡ true
held true n h = refl
held false n h = absurd (h refl)

chosen : (t : Bool) (n : ℕ) → t ≡ true → cond t n 0 ≡ n
chosen t n e = ap (λ (u : Bool). cond u n 0) e

-- a header passes the limit
pub data Passes (b : List ℕ) (l : Limit) (h : ℕ) : Type 0 where
  by_symbols : l.symbols < symbols_at b h → Passes b l h
  by_relocs : is_kept_relocs b h ≡ true → l.relocs < relocs_up_to b h → Passes b l h
  by_code : is_code_header b h ≡ true → l.code < code_up_to b h → Passes b l h

pub data LimitFault (b : List ℕ) (l : Limit) (s o : ℕ) : Type 0 where
  of_file : s ≡ 0 → o ≡ 48 → l.sections < header_count b → LimitFault b l s o
  of_header : IsHeader b s → o ≡ header_place b s + 20 → Passes b l s → LimitFault b l s o

found : (b : List ℕ) (l : Limit) (s o : ℕ) → Fault b l TooMany s o → LimitFault b l s o
found b l s o (many_headers n) = of_file refl refl n
found b l s o (many_symbols t k n) =
    let all = chosen ((header b t).kind == symtab) ((header b t).size / 16 - 1) (eq-eqb _ _ k.2) in
    of_header (record { behind_null = k.0; there = k.1 }) refl (by_symbols (omega (arith, all, n)))
found b l s o (many_relocs h k kept n) = of_header (record { behind_null = k.0; there = k.1 }) refl (by_relocs (and_from _ _ (eq-eqb _ _ k.2) kept) n)
found b l s o (much_code h i k n) = of_header i refl (by_code k n)

there : (b : List ℕ) (l : Limit) (h : ℕ) → IsHeader b h → Passes b l h → Fault b l TooMany h (header_place b h + 20)
there b l h i (by_symbols n) =
    let is = held ((header b h).kind == symtab) ((header b h).size / 16 - 1) (λ e. omega (arith, e, n)) in
    let all = chosen ((header b h).kind == symtab) ((header b h).size / 16 - 1) is in
    many_symbols h (i.behind_null, i.there, eqb-true _ _ is) (omega (arith, all, n))
there b l h i (by_relocs k n) = let parts = and_parts _ _ k in many_relocs h (i.behind_null, i.there, eqb-true _ _ parts.0) parts.1 n
there b l h i (by_code k n) = much_code h i k n

-- the sums so far, which are within the limit
pub record AreSums (b : List ℕ) (l : Limit) (h relocs code : ℕ) : Type 0 where
  pub relocs_are : relocs ≡ relocs_up_to b (h - 1)
  pub code_is : code ≡ code_up_to b (h - 1)
  pub few : relocs ≤ l.relocs
  pub little : code ≤ l.code

module _ (b : List ℕ) (l : Limit) where
  pub many_headers_first : l.sections < header_count b → (p : Place) → p.section ≡ 0 → p.offset ≡ 48 → IsLowest (Fault b l TooMany) (Some p)
  many_headers_first n p e f =
      lowest_at (Fault b l TooMany) 0 48 (λ s o u. absurd (omega arith)) (many_headers n) (λ o g u. go o (found b l 0 o g) u) p e f
    where
      go : (o : ℕ) → LimitFault b l 0 o → o < 48 → ⊥
      go o (of_file a c m) u = omega arith
      go o (of_header i place q) u = omega (arith, i.behind_null)

  module _ (few : header_count b ≤ l.sections) where
    behind : (s o : ℕ) → Fault b l TooMany s o → (0 < s) × (s < header_count b)
    behind s o f = go (found b l s o f)
      where
        go : LimitFault b l s o → (0 < s) × (s < header_count b)
        go (of_file a c m) = absurd (omega (arith, few, m))
        go (of_header i place q) = (i.behind_null, i.there)

    pub none_first : NoneUnder (Fault b l TooMany) 1
    none_first s o u f = let k = behind s o f in omega (arith, u, k.0)

    pub lowest_nowhere : NoneUnder (Fault b l TooMany) (header_count b) → IsLowest (Fault b l TooMany) None
    lowest_nowhere none = lowest_none (Fault b l TooMany) (header_count b) none (λ s o f. (behind s o f).1)

  module _ (h relocs code symbols r c : ℕ) (one : 1 ≤ h) (sums : AreSums b l h relocs code) (of : symbols ≡ symbols_at b h) (e : r ≡ relocs + relocs_at b h) (f : c ≡ code + code_at b h) where
    passes_here : passes l symbols r c ≡ true → Passes b l h
    passes_here t =
        elim (or_cases (nat_lt l.symbols symbols) (nat_lt l.relocs r || nat_lt l.code c) t) [
          | inl n ↦ by_symbols (let m = ltb-true l.symbols symbols n in omega (arith, m, of))
          | inr u ↦
              elim (or_cases (nat_lt l.relocs r) (nat_lt l.code c) u) [
                | inl n ↦
                    let m = ltb-true l.relocs r n in
                    by_relocs (held (is_kept_relocs b h) ((header b h).size / 8) (λ z. omega (arith, z, m, e, sums.few))) (omega (arith, m, e, sums.relocs_are, relocs_more b h one))
                | inr n ↦
                    let m = ltb-true l.code c n in
                    by_code (held (is_code_header b h) (header b h).size (λ z. omega (arith, z, m, f, sums.little))) (omega (arith, m, f, sums.code_is, code_more b h one))
              ]
        ]

    parts : passes l symbols r c ≡ false → (nat_lt l.symbols symbols ≡ false) × (nat_lt l.relocs r ≡ false) × (nat_lt l.code c ≡ false)
    parts t =
        let a = or_parts (nat_lt l.symbols symbols) (nat_lt l.relocs r || nat_lt l.code c) t in
        let d = or_parts (nat_lt l.relocs r) (nat_lt l.code c) a.1 in
        (a.0, d.0, d.1)

    passes_not : passes l symbols r c ≡ false → Passes b l h → ⊥
    passes_not t (by_symbols n) = let m = ltb-false l.symbols symbols (parts t).0 in omega (arith, m, n, of)
    passes_not t (by_relocs k n) = let m = ltb-false l.relocs r (parts t).1 in omega (arith, m, n, e, sums.relocs_are, relocs_more b h one)
    passes_not t (by_code k n) = let m = ltb-false l.code c (parts t).2 in omega (arith, m, n, f, sums.code_is, code_more b h one)

    pub sums_more : passes l symbols r c ≡ false → AreSums b l (h + 1) r c
    sums_more t =
        let same : (h + 1) - 1 ≡ h = omega arith in
        record {
          relocs_are = e ∙ ap (λ (n : ℕ). n + relocs_at b h) sums.relocs_are ∙ sym (relocs_more b h one) ∙ ap (relocs_up_to b) (sym same);
          code_is = f ∙ ap (λ (n : ℕ). n + code_at b h) sums.code_is ∙ sym (code_more b h one) ∙ ap (code_up_to b) (sym same);
          few = ltb-false l.relocs r (parts t).1;
          little = ltb-false l.code c (parts t).2;
        }

    pub none_more : NoneUnder (Fault b l TooMany) h → passes l symbols r c ≡ false → NoneUnder (Fault b l TooMany) (h + 1)
    none_more none t = under_more (Fault b l TooMany) h none (λ o g. go o (found b l h o g))
      where
        go : (o : ℕ) → LimitFault b l h o → ⊥
        go o (of_file a c m) = omega arith
        go o (of_header i place q) = passes_not t q

    pub lowest_here : IsHeader b h → NoneUnder (Fault b l TooMany) h → passes l symbols r c ≡ true → (p : Place) → p.section ≡ h → p.offset ≡ header_place b h + 20 → IsLowest (Fault b l TooMany) (Some p)
    lowest_here i none t p at_h at_d =
        lowest_at (Fault b l TooMany) h (header_place b h + 20) none (there b l h i (passes_here t)) (λ o g u. go o (found b l h o g) u) p at_h at_d
      where
        go : (o : ℕ) → LimitFault b l h o → o < header_place b h + 20 → ⊥
        go o (of_file a c m) u = omega arith
        go o (of_header j place q) u = omega (arith, place, u)
