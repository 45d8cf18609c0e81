-- The symbol table of a file.
use Rattle.std.proofs.Common.{◌≡◌, ◌≢◌, ◌<◌, ◌≤◌, ℕ, zero, suc, ◌+◌, ◌-◌, ◌*◌, ◌/◌, Bool, true, List, length, Option, Some, None, inl, inr, arith, refl, sym, ◌∙◌, ap, subst, cond}
use Rattle.std.specs.Prelude.{find, ◌==◌}
use Rattle.std.proofs.lemmas.Bool.{false≢true, cases_eq, cases_Bool, eqb-true, eq-eqb}
use Rattle.elf_model.specs.Constants.{symtab, nobits}
use Rattle.elf_model.specs.Files.{from, Header, header_count, header, IsKind, symbol_table}
use Rattle.elf_read.specs.Faults.{IsSymbolAt}
use Rattle.elf_read.specs.HeaderFaults.{IsTabled}
use Rattle.elf_read.specs.Headers.{HasHeaders}

found_from : (p : ℕ → Bool) (first n t : ℕ) → find p (from first n) ≡ Some t → (first ≤ t) × (t < first + n) × (p t ≡ true)
found_from p first zero t e = absurd (cc)
found_from p first (suc n) t e =
    elim (cases_Bool (p first)) [
      | inl here ↦
          (let one : Some first ≡ Some t = sym (ap (λ (x : Bool). cond x (Some first) (find p (from (first + 1) n))) here) ∙ e in
          let same : first ≡ t = cc in
          (omega arith, omega arith, subst (λ (k : ℕ). p k ≡ true) same here))
      | inr later ↦
          (let rest : find p (from (first + 1) n) ≡ Some t = sym (ap (λ (x : Bool). cond x (Some first) (find p (from (first + 1) n))) later) ∙ e in
          let found = found_from p (first + 1) n t rest in
          (omega (arith, found.0), omega (arith, found.1), found.2))
    ]

none_from : (p : ℕ → Bool) (first n : ℕ) → find p (from first n) ≡ None → (h : ℕ) → first ≤ h → h < first + n → p h ≡ true → ⊥
none_from p first zero e h low high holds = omega arith
none_from p first (suc n) e h low high holds =
    elim (cases_Bool (p first)) [
      | inl here ↦
          (let one : Some first ≡ None = sym (ap (λ (x : Bool). cond x (Some first) (find p (from (first + 1) n))) here) ∙ e in
          cc)
      | inr later ↦
          (let rest : find p (from (first + 1) n) ≡ None = sym (ap (λ (x : Bool). cond x (Some first) (find p (from (first + 1) n))) later) ∙ e in
          elim (cases_eq first h) [
            | inl same ↦ false≢true (sym later ∙ subst (λ (k : ℕ). p k ≡ true) (sym same) holds)
            | inr other ↦ none_from p (first + 1) n rest h (omega arith) (omega arith) holds
          ])
    ]

pub table_kind : (b : List ℕ) (t : ℕ) → Some t ≡ symbol_table b → IsKind b t symtab
table_kind b t e =
    let found = found_from (λ h. (header b h).kind == symtab) 1 (header_count b - 1) t (sym e) in
    (omega (arith, found.0), omega (arith, found.0, found.1), eqb-true _ _ found.2)

pub table_none : (b : List ℕ) → None ≡ symbol_table b → (h : ℕ) → IsKind b h symtab → ⊥
table_none b e h k = none_from (λ j. (header b j).kind == symtab) 1 (header_count b - 1) (sym e) h (omega (arith, k.0)) (omega (arith, k.0, k.1)) (eq-eqb _ _ k.2)

pub table_is : (b : List ℕ) (h : ℕ) → IsTabled b → IsKind b h symtab → Some h ≡ symbol_table b
table_is b h tabled k = go (symbol_table b) refl
  where
    go : (r : Option ℕ) → r ≡ symbol_table b → Some h ≡ r
    go None e = absurd (table_none b e h k)
    go (Some t) e = ap (λ (x : ℕ). Some x) (tabled.one_symbol_table h t k (table_kind b t e))

-- no header before this one is that of a symbol table
abbrev pub NoTable : List ℕ → ℕ → Type 0
NoTable b h = (k : ℕ) → 0 < k → k < h → (header b k).kind ≢ symtab

pub no_table : (b : List ℕ) → NoTable b (header_count b) → None ≡ symbol_table b
no_table b none = go (symbol_table b) refl
  where
    go : (r : Option ℕ) → r ≡ symbol_table b → None ≡ r
    go None e = refl
    go (Some t) e = let k = table_kind b t e in absurd (none t k.0 k.1 k.2)

-- a symbol is one of the one symbol table
pub symbol_table_of : (b : List ℕ) (s t k e : ℕ) → IsTabled b → IsKind b t symtab → IsSymbolAt b s k e → s ≡ t
symbol_table_of b s t k e tabled kind at = tabled.one_symbol_table s t at.table kind

-- a symbol's bytes lie in the file
pub symbol_inside : (b : List ℕ) (t k : ℕ) → IsTabled b → IsKind b t symtab → k < (header b t).size / 16 → (header b t).offset + 16 * k + 16 ≤ length b
symbol_inside b t k tabled kind lt =
    let filled : (header b t).kind ≢ nobits = λ e. omega (arith, kind.2, e) in
    let inside = tabled.inside t (record { behind_null = kind.0; there = kind.1 }) filled in
    omega (arith, inside)

-- symbol k of the symbol table, whose header was read: it is there, and lies in the file
pub record IsHere (b : List ℕ) (t k : ℕ) (f : Header) : Type 0 where
  pub kind : IsKind b t symtab
  pub there : k < (header b t).size / 16
  pub place : f.offset + 16 * k ≡ (header b t).offset + 16 * k
  pub inside : f.offset + 16 * k + 16 ≤ length b
  pub link : f.link ≡ (header b t).link

pub symbol_here : (b : List ℕ) (t k : ℕ) (f : Header) → IsTabled b → Some t ≡ symbol_table b → f ≡ header b t → k < f.size / 16 → IsHere b t k f
symbol_here b t k f tabled found same lt =
    let kind = table_kind b t found in
    let there : k < (header b t).size / 16 = subst (λ (x : Header). k < x.size / 16) same lt in
    let place : f.offset + 16 * k ≡ (header b t).offset + 16 * k = ap (λ (x : Header). x.offset + 16 * k) same in
    record {
      kind = kind;
      there = there;
      place = place;
      inside = omega (arith, symbol_inside b t k tabled kind there, place);
      link = ap (λ (x : Header). x.link) same;
    }

pub no_table_more : (b : List ℕ) (h : ℕ) → NoTable b h → (header b h).kind ≢ symtab → NoTable b (h + 1)
no_table_more b h none here k low high =
    elim (cases_eq k h) [
      | inl same ↦ subst (λ (j : ℕ). (header b j).kind ≢ symtab) (sym same) here
      | inr other ↦ none k low (omega arith)
    ]

pub some_headers : (b : List ℕ) (h kind : ℕ) → IsTabled b → IsKind b h kind → HasHeaders b
some_headers b h kind tabled k = tabled.listed (omega (arith, k.0, k.1))
