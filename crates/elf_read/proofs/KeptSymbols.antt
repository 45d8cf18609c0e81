-- The flags of symbols say which ones stay.
use Rattle.std.proofs.Common.{◌≡◌, ◌≢◌, ◌≤◌, ◌<◌, ◌⊎◌, ℕ, zero, suc, ◌+◌, ◌-◌, ◌*◌, ◌/◌, ◌^◌, Bool, true, false, cond, ◌||◌, List, [], ◌∷◌, length, Option, Some, None, inl, inr, arith, refl, sym, ap, ◌∙◌, subst, map}
use Rattle.std.specs.Prelude.{find, ◌==◌}
use Rattle.std.proofs.lemmas.Bool.{cases_eq, or_cases, or_left, or_right, eq-eqb, ne_eqb, eqb-true, false≢true}
use Rattle.std.proofs.lemmas.Option.{none-some, same_Some}
use Rattle.elf_model.specs.Constants.{symtab, undefined_index, absolute_index}
use Rattle.elf_model.specs.Fields.{half_at}
use Rattle.elf_model.specs.Files.{from, header, header_count, is_kept, is_kept_symbol, symbol_table, symbol_places, IsKind}
use Rattle.elf_model.proofs.Lists.{map-map}
use Rattle.elf_read.specs.Faults.{IsHeader, IsSymbolAt, IsKeptSymbol, names_no_section}
use Rattle.elf_read.specs.HeaderFaults.{IsTabled}
use Rattle.elf_read.specs.Keeping.{kept_flags, symbol_flags, flag_at, HasHomes}
use Rattle.elf_read.proofs.Flags.{find_one, flag_is, flag_made, kept_symbol_is}

-- what is found is among the numbers, and passes
found_in : (p : ℕ → Bool) (first n h : ℕ) → find p (from first n) ≡ Some h → (first ≤ h) × (h < first + n) × (p h ≡ true)
found_in p first zero h e = absurd (none-some h e)
found_in p first (suc n) h e = go (λ f. found_in p (first + 1) n h f) (p first) refl e
  where
    go : (find p (from (first + 1) n) ≡ Some h → (first + 1 ≤ h) × (h < (first + 1) + n) × (p h ≡ true)) → (t : Bool) → p first ≡ t → cond t (Some first) (find p (from (first + 1) n)) ≡ Some h → (first ≤ h) × (h < first + suc n) × (p h ≡ true)
    go rest true y f = let same : first ≡ h = same_Some first h f in (omega (arith, same), omega (arith, same), subst (λ (k : ℕ). p k ≡ true) same y)
    go rest false y f = let r = rest f in (omega (arith, r.0), omega (arith, r.1), r.2)

pub symbol_table_found : (b : List ℕ) (t : ℕ) → symbol_table b ≡ Some t → IsKind b t symtab
symbol_table_found b t e = let f = found_in (λ h. (header b h).kind == symtab) 1 (header_count b - 1) t e in (omega (arith, f.0), omega (arith, f.0, f.1), eqb-true _ _ f.2)

pub symbol_table_is : (b : List ℕ) (t : ℕ) → IsTabled b → IsKind b t symtab → symbol_table b ≡ Some t
symbol_table_is b t tabled k =
    find_one (λ h. (header b h).kind == symtab) (header_count b - 1) t (omega (arith, k.0)) (omega (arith, k.0, k.1)) (eq-eqb _ _ k.2)
    (λ j l u. ne_eqb (header b j).kind symtab (λ e. let same = tabled.one_symbol_table j t (omega (arith, l), omega (arith, u, k.1), e) k in omega (arith, same, u)))

pub past : (flags : List Bool) (k : ℕ) → flag_at flags k ≡ true → k < length flags
past [] k h = absurd (false≢true h)
past (x ∷ xs) zero h = omega arith
past (x ∷ xs) (suc k) h = let r = past xs k h in omega (arith, r)

pub length_made : {X : Type 0} (f : ℕ → X) (first n : ℕ) → length (map f (from first n)) ≡ n
length_made f first zero = refl
length_made f first (suc n) = ap suc (length_made f (first + 1) n)

-- the flags where there is a symbol table
pub flags_are : (b : List ℕ) (t : ℕ) → symbol_table b ≡ Some t → symbol_flags b ≡ false ∷ map (λ k. is_kept_symbol b ((header b t).offset + 16 * k)) (from 1 ((header b t).size / 16 - 1))
flags_are b t e =
    ap (λ (o : Option ℕ). false ∷ map (is_kept_symbol b) (symbol_places b o)) e
    ∙ ap (λ (xs : List Bool). false ∷ xs) (map-map (is_kept_symbol b) (λ k. (header b t).offset + 16 * k) (from 1 ((header b t).size / 16 - 1)))

pub symbol_flag_is : (b : List ℕ) (t k e : ℕ) → IsTabled b → IsSymbolAt b t k e → flag_at (symbol_flags b) k ≡ is_kept_symbol b e
symbol_flag_is b t k e tabled s =
    ap (λ (f : List Bool). flag_at f k) (flags_are b t (symbol_table_is b t tabled s.table))
    ∙ flag_made (λ k. is_kept_symbol b ((header b t).offset + 16 * k)) ((header b t).size / 16) k s.behind_null s.there
    ∙ ap (is_kept_symbol b) (sym s.place)

-- a symbol whose flag is set stands in the table
symbol_there : (b : List ℕ) (k : ℕ) (o : Option ℕ) → symbol_table b ≡ o → flag_at (symbol_flags b) k ≡ true → (t : ℕ) × IsSymbolAt b t k ((header b t).offset + 16 * k)
symbol_there b k None e h =
    let one : flag_at (false ∷ []) k ≡ true = subst (λ (x : Option ℕ). flag_at (false ∷ map (is_kept_symbol b) (symbol_places b x)) k ≡ true) e h in
    absurd (go k one)
  where
    go : (k : ℕ) → flag_at (false ∷ []) k ≡ true → ⊥
    go zero h = false≢true h
    go (suc k) h = false≢true h
symbol_there b k (Some t) e h =
    let f : ℕ → Bool = λ i. is_kept_symbol b ((header b t).offset + 16 * i) in
    let n : ℕ = (header b t).size / 16 - 1 in
    let set : flag_at (false ∷ map f (from 1 n)) k ≡ true = subst (λ (x : List Bool). flag_at x k ≡ true) (flags_are b t e) h in
    let l : k < length (false ∷ map f (from 1 n)) = past (false ∷ map f (from 1 n)) k set in
    let long : length (map f (from 1 n)) ≡ n = length_made f 1 n in
    let some : k ≢ 0 = λ z. false≢true (subst (λ (j : ℕ). flag_at (false ∷ map f (from 1 n)) j ≡ true) z set) in
    (t, record { table = symbol_table_found b t e; behind_null = omega (arith, some); there = omega (arith, l, long, some); place = refl })

module _ (b : List ℕ) (tabled : IsTabled b) (homes : HasHomes b) where
  at_home : (e : ℕ) → (names_no_section (half_at b (e + 14)) ≡ true) ⊎ (half_at b (e + 14) < header_count b) → (names_no_section (half_at b (e + 14)) ≡ true) ⊎ (is_kept b (half_at b (e + 14)) ≡ true) → is_kept_symbol b e ≡ true
  at_home e near home = kept_symbol_is b e ∙ go near home
    where
      i : ℕ
      i = half_at b (e + 14)

      no_section : names_no_section (half_at b (e + 14)) ≡ true → ((half_at b (e + 14) == undefined_index) || ((half_at b (e + 14) == absolute_index) || flag_at (kept_flags b) (half_at b (e + 14)))) ≡ true
      no_section h = elim (or_cases (half_at b (e + 14) == undefined_index) (half_at b (e + 14) == absolute_index) h) [
        | inl u ↦ or_left _ _ u
        | inr a ↦ or_right (half_at b (e + 14) == undefined_index) _ (or_left _ _ a)
      ]

      go : (names_no_section (half_at b (e + 14)) ≡ true) ⊎ (half_at b (e + 14) < header_count b) → (names_no_section (half_at b (e + 14)) ≡ true) ⊎ (is_kept b (half_at b (e + 14)) ≡ true) → ((half_at b (e + 14) == undefined_index) || ((half_at b (e + 14) == absolute_index) || flag_at (kept_flags b) (half_at b (e + 14)))) ≡ true
      go near (inl h) = no_section h
      go (inl h) (inr k) = no_section h
      go (inr l) (inr k) = elim (cases_eq (half_at b (e + 14)) 0) [
        | inl z ↦ or_left _ _ (eq-eqb (half_at b (e + 14)) undefined_index z)
        | inr n ↦ or_right (half_at b (e + 14) == undefined_index) _ (or_right (half_at b (e + 14) == absolute_index) _ (flag_is b (half_at b (e + 14)) (record { behind_null = omega (arith, n); there = l }) ∙ k))
      ]

  home_of : (e : ℕ) → is_kept_symbol b e ≡ true → (names_no_section (half_at b (e + 14)) ≡ true) ⊎ (is_kept b (half_at b (e + 14)) ≡ true)
  home_of e h = elim (or_cases (half_at b (e + 14) == undefined_index) _ (sym (kept_symbol_is b e) ∙ h)) [
    | inl u ↦ inl (or_left _ _ u)
    | inr x ↦ elim (or_cases (half_at b (e + 14) == absolute_index) _ x) [
      | inl a ↦ inl (or_right (half_at b (e + 14) == undefined_index) _ a)
      | inr f ↦ inr (sym (flag_is b (half_at b (e + 14)) (listed (half_at b (e + 14)) f)) ∙ f)
    ]
  ]
    where
      listed : (i : ℕ) → flag_at (kept_flags b) i ≡ true → IsHeader b i
      listed i f =
          let l = past (kept_flags b) i f in
          let long = length_made (is_kept b) 1 (header_count b - 1) in
          let some : i ≢ 0 = λ z. false≢true (subst (λ (j : ℕ). flag_at (kept_flags b) j ≡ true) z f) in
          record { behind_null = omega (arith, some); there = omega (arith, l, long, some) }

  pub flag_from_kept : (k : ℕ) → IsKeptSymbol b k → flag_at (symbol_flags b) k ≡ true
  flag_from_kept k s = symbol_flag_is b s.table k s.e tabled s.stands ∙ at_home s.e (homes s.table k s.e s.stands) s.home

  pub kept_from_flag : (k : ℕ) → flag_at (symbol_flags b) k ≡ true → IsKeptSymbol b k
  kept_from_flag k h =
      let at = symbol_there b k (symbol_table b) refl h in
      let e : ℕ = (header b at.0).offset + 16 * k in
      record { table = at.0; e = e; stands = at.1; home = home_of e (sym (symbol_flag_is b at.0 k e tabled at.1) ∙ h) }

  -- the flags that were computed say which symbols are kept
  pub flags_tell : (flags : List Bool) → flags ≡ symbol_flags b → ((k : ℕ) → IsKeptSymbol b k → flag_at flags k ≡ true) × ((k : ℕ) → flag_at flags k ≡ true → IsKeptSymbol b k)
  flags_tell flags same = (
    λ k s. ap (λ (f : List Bool). flag_at f k) same ∙ flag_from_kept k s,
    λ k t. kept_from_flag k (ap (λ (f : List Bool). flag_at f k) (sym same) ∙ t),
  )

-- the section that a symbol is kept with
pub kept_home : (b : List ℕ) (e : ℕ) → is_kept_symbol b e ≡ true → half_at b (e + 14) ≢ undefined_index → half_at b (e + 14) ≢ absolute_index → IsHeader b (half_at b (e + 14)) × (is_kept b (half_at b (e + 14)) ≡ true)
kept_home b e h other far =
    let i : ℕ = half_at b (e + 14) in
    let all = kept_symbol_is b e in
    let flag : flag_at (kept_flags b) i ≡ true = ap (λ (t : Bool). (t || flag_at (kept_flags b) i)) (sym (ne_eqb i absolute_index far)) ∙ ap (λ (t : Bool). t || ((i == absolute_index) || flag_at (kept_flags b) i)) (sym (ne_eqb i undefined_index other)) ∙ sym all ∙ h in
    let l : i < length (kept_flags b) = past (kept_flags b) i flag in
    let long : length (map (is_kept b) (from 1 (header_count b - 1))) ≡ header_count b - 1 = length_made (is_kept b) 1 (header_count b - 1) in
    let there : IsHeader b i = record { behind_null = omega (arith, other); there = omega (arith, l, long, other) } in
    (there, sym (flag_is b i there) ∙ flag)

-- there are fewer flags of symbols than bytes of the file
pub few_symbol_flags : (b : List ℕ) → IsTabled b → length b < 2 ^ 32 → length (symbol_flags b) < 2 ^ 32
few_symbol_flags b tabled small = go (symbol_table b) refl
  where
    go : (o : Option ℕ) → symbol_table b ≡ o → length (symbol_flags b) < 2 ^ 32
    go None e = subst (λ (o : Option ℕ). length (false ∷ map (is_kept_symbol b) (symbol_places b o)) < 2 ^ 32) (sym e) (omega arith)
    go (Some t) e =
        let long = length_made (λ k. is_kept_symbol b ((header b t).offset + 16 * k)) 1 ((header b t).size / 16 - 1) in
        let table = symbol_table_found b t e in
        let kind : (header b t).kind ≡ symtab = table.2 in
        let inside = tabled.inside t (record { behind_null = table.0; there = table.1 }) (λ n. absurd (omega (arith, kind, n))) in
        subst (λ (f : List Bool). length f < 2 ^ 32) (sym (flags_are b t e)) (omega (arith, long, inside))
