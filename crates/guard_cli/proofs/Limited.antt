-- An object that was read without fault under a limit has no more of anything than the limit says.
use Rattle.std.proofs.Common.{◌≡◌, ◌≤◌, ◌<◌, ℕ, zero, suc, ◌+◌, ◌-◌, ◌*◌, ◌/◌, ◌%◌, ◌&&◌, ◌||◌, Bool, true, false, cond, leb, List, [], ◌∷◌, length, map, filter, Option, Some, None, inl, inr, refl, sym, ap, subst, ◌∙◌, arith, zero-add}
use Rattle.std.specs.Prelude.{sum_by, IsTrue, ◌==◌, not}
use Rattle.std.specs.List.{list_any, flat_map}
use Rattle.std.proofs.lemmas.Bool.{and_from, and_parts, cases_Bool, eqb-true, true≢false}
use Rattle.std.proofs.lemmas.Bool.Decides.{nat_tests}
use Rattle.std.proofs.lemmas.List.{length-map, length-append}
use Rattle.std.proofs.lemmas.List.Concat.{flat_map-cons}
use Rattle.std.proofs.lemmas.List.Sorted.{length_permutation}
use Rattle.std.proofs.lemmas.List.Sums.{sum_by-cons}
use Rattle.elf_model.specs.declared.objects.Section.{Section}
use Rattle.elf_model.specs.declared.refusals.Limit.{Limit}
use Rattle.elf_model.specs.declared.refusals.Refusal.TheVariants.{TooMany}
use Rattle.elf_model.specs.Fields.{word_at}
use Rattle.elf_model.specs.Objects.{ObjectParts, is_within, code_size, is_code}
use Rattle.elf_model.specs.Files.{StandsFor, from, header, header_count, header_place, headers, kept_headers, kept_symbols, is_kept, is_kept_symbol, is_reloc_table, entries_of, reloc_entries, reloc_of, section_of, symbol_of, symbol_places, symbol_table}
use Rattle.elf_read.specs.Faults.{IsFaultless, relocs_up_to, code_up_to, is_code_header}
use Rattle.elf_read.specs.Faults.Fault.{many_headers, many_symbols, many_relocs, much_code}
use Rattle.elf_read.specs.Keeping.{code_at, is_kept_relocs, relocs_at}
use Rattle.elf_read.proofs.LimitFaults.{code_more, relocs_more}
use Rattle.elf_read.proofs.KeptSymbols.{length_made}
use Rattle.elf_read.proofs.SymbolTable.{table_kind}

fewer : {X : Type 0} (p : X → Bool) (xs : List X) → length (filter p xs) ≤ length xs
fewer p [] = omega arith
fewer p (x ∷ xs) = go (p x) (fewer p xs)
  where
    go : (b : Bool) → length (filter p xs) ≤ length xs → length (cond b (x ∷ filter p xs) (filter p xs)) ≤ suc (length xs)
    go true h = omega arith
    go false h = omega arith

length-from : (first n : ℕ) → length (from first n) ≡ n
length-from first n = sym (length-map (from first n) (λ (k : ℕ). k)) ∙ length_made (λ (k : ℕ). k) first n

not_above : (a b : ℕ) → (a < b → ⊥) → b ≤ a
not_above a b h = elim (cases_Bool (leb b a)) [ inl t ↦ grind (arith, nat_tests) | inr f ↦ absurd (h (grind (arith, nat_tests))) ]

leb_from : (a b : ℕ) → a ≤ b → leb a b ≡ true
leb_from a b h = grind (arith, nat_tests)

module _ (b : List ℕ) (l : Limit) (none : IsFaultless b l) where
  few_headers : header_count b ≤ l.sections
  few_headers = not_above l.sections (header_count b) (λ h. none TooMany 0 48 (many_headers h))

  few_sections : length (map (section_of b) (kept_headers b)) ≤ l.sections
  few_sections =
      let a = length-map (kept_headers b) (section_of b) in
      let c = fewer (is_kept b) (headers b) in
      let d = length-from 1 (header_count b - 1) in
      let e = few_headers in
      omega arith

  few_places : (t : Option ℕ) → t ≡ symbol_table b → length (symbol_places b t) ≤ l.symbols
  few_places None e = omega arith
  few_places (Some t) e =
      let k = table_kind b t e in
      let n = length_made (λ k. (header b t).offset + 16 * k) 1 ((header b t).size / 16 - 1) in
      let h = not_above l.symbols ((header b t).size / 16 - 1) (λ u. none TooMany t (header_place b t + 20) (many_symbols t k u)) in
      omega arith

  few_symbols : length (map (symbol_of b) (kept_symbols b)) ≤ l.symbols
  few_symbols =
      let a = length-map (kept_symbols b) (symbol_of b) in
      let c = fewer (is_kept_symbol b) (symbol_places b (symbol_table b)) in
      let d = few_places (symbol_table b) refl in
      omega arith

  -- the code of the headers up to one of them
  little_code : (h : ℕ) → h < header_count b → code_up_to b h ≤ l.code
  little_code zero u = omega arith
  little_code (suc h) u = go (little_code h (omega arith)) (is_code_header b (suc h)) refl
    where
      go : code_up_to b h ≤ l.code → (t : Bool) → is_code_header b (suc h) ≡ t → code_up_to b (suc h) ≤ l.code
      go less true e = not_above l.code (code_up_to b (suc h)) (λ v. none TooMany (suc h) (header_place b (suc h) + 20) (much_code (suc h) (record { behind_null = omega arith; there = u }) e v))
      go less false e =
          let more = code_more b (suc h) (omega arith) in
          let here : code_at b (suc h) ≡ 0 = ap (λ (t : Bool). cond t (header b (suc h)).size 0) e in
          let before : code_up_to b (suc h - 1) ≡ code_up_to b h = ap (code_up_to b) (omega arith) in
          omega arith

  -- the relocations of the headers up to one of them
  few_relocs : (h : ℕ) → h < header_count b → relocs_up_to b h ≤ l.relocs
  few_relocs zero u = omega arith
  few_relocs (suc h) u = go (few_relocs h (omega arith)) (is_kept_relocs b (suc h)) refl
    where
      go : relocs_up_to b h ≤ l.relocs → (t : Bool) → is_kept_relocs b (suc h) ≡ t → relocs_up_to b (suc h) ≤ l.relocs
      go less true e =
          let parts = and_parts _ _ e in
          not_above l.relocs (relocs_up_to b (suc h)) (λ v. none TooMany (suc h) (header_place b (suc h) + 20) (many_relocs (suc h) (omega arith, u, eqb-true _ _ parts.0) parts.1 v))
      go less false e =
          let more = relocs_more b (suc h) (omega arith) in
          let here : relocs_at b (suc h) ≡ 0 = ap (λ (t : Bool). cond t ((header b (suc h)).size / 8) 0) e in
          let before : relocs_up_to b (suc h - 1) ≡ relocs_up_to b h = ap (relocs_up_to b) (omega arith) in
          omega arith

-- the code of sections is that of their headers
code_is : (b : List ℕ) (hs : List ℕ) → code_size (map (section_of b) (filter (is_kept b) hs)) ≡ sum_by (λ k. (header b k).size) (filter (is_code_header b) hs)
code_is b [] = refl
code_is b (h ∷ hs) = go (code_is b hs) (is_kept b h) (is_code (section_of b h)) refl
  where
    first : (t : Bool) → t ≡ is_code (section_of b h)
        → code_size (section_of b h ∷ map (section_of b) (filter (is_kept b) hs)) ≡ cond t (header b h).size 0 + code_size (map (section_of b) (filter (is_kept b) hs))
    first t e =
        sum_by-cons (λ (s : Section). cond (is_code s) s.size 0) (section_of b h) (map (section_of b) (filter (is_kept b) hs))
        ∙ ap (λ (u : Bool). cond u (header b h).size 0 + code_size (map (section_of b) (filter (is_kept b) hs))) (sym e)

    go : code_size (map (section_of b) (filter (is_kept b) hs)) ≡ sum_by (λ k. (header b k).size) (filter (is_code_header b) hs) → (k c : Bool) → c ≡ is_code (section_of b h)
        → code_size (map (section_of b) (cond k (h ∷ filter (is_kept b) hs) (filter (is_kept b) hs)))
        ≡ sum_by (λ k. (header b k).size) (cond (c && k) (h ∷ filter (is_code_header b) hs) (filter (is_code_header b) hs))
    go less false true e = less
    go less false false e = less
    go less true true e = first true e ∙ ap (λ (n : ℕ). (header b h).size + n) less ∙ sym (sum_by-cons (λ k. (header b k).size) h (filter (is_code_header b) hs))
    go less true false e = first false e ∙ zero-add _ ∙ less

-- A number that is among those that pass a test passes it.
any_kept : (p : ℕ → Bool) (xs : List ℕ) (i : ℕ) → list_any (λ k. i == k) (filter p xs) ≡ true → p i ≡ true
any_kept p [] i e = absurd (true≢false (sym e))
any_kept p (x ∷ xs) i e = go (p x) refl (any_kept p xs i) e
  where
    here : (t : Bool) → (i == x) ≡ t → p x ≡ true → (list_any (λ k. i == k) (filter p xs) ≡ true → p i ≡ true) → (t || list_any (λ k. i == k) (filter p xs)) ≡ true → p i ≡ true
    here true same u rest e = ap p (eqb-true i x same) ∙ u
    here false same u rest e = rest e

    go : (t : Bool) → p x ≡ t → (list_any (λ k. i == k) (filter p xs) ≡ true → p i ≡ true) → list_any (λ k. i == k) (cond t (x ∷ filter p xs) (filter p xs)) ≡ true → p i ≡ true
    go true u rest e = here (i == x) refl u rest e
    go false u rest e = rest e

-- The relocations of the tables from one header on are no more than those that the limit is about.
abbrev entries_in : List ℕ → ℕ → ℕ
entries_in b h = (header b h).size / 8

few_entries : (b : List ℕ) (first n : ℕ) → length (flat_map (entries_of b) (filter (is_reloc_table b) (from first n))) ≤ sum_by (entries_in b) (filter (is_kept_relocs b) (from first n))
few_entries b first zero = omega arith
few_entries b first (suc n) = go (is_reloc_table b first) refl (is_kept_relocs b first) refl (few_entries b (first + 1) n)
  where
    tables : List ℕ
    tables = filter (is_reloc_table b) (from (first + 1) n)

    kept : List ℕ
    kept = filter (is_kept_relocs b) (from (first + 1) n)

    one : length (entries_of b first) ≡ entries_in b first
    one = length_made (λ j. (first, (header b first).offset + 8 * j)) 0 (entries_in b first)

    is_kept_too : is_reloc_table b first ≡ true → is_kept_relocs b first ≡ true
    is_kept_too e = let parts = and_parts _ _ e in and_from _ _ parts.0 (any_kept (is_kept b) (headers b) (header b first).info parts.1)

    go : (t : Bool) → is_reloc_table b first ≡ t → (k : Bool) → is_kept_relocs b first ≡ k → length (flat_map (entries_of b) tables) ≤ sum_by (entries_in b) kept
        → length (flat_map (entries_of b) (cond t (first ∷ tables) tables)) ≤ sum_by (entries_in b) (cond k (first ∷ kept) kept)
    go true e true f less =
        let a = ap length (flat_map-cons (entries_of b) first tables) ∙ length-append (entries_of b first) (flat_map (entries_of b) tables) in
        let c = sum_by-cons (entries_in b) first kept in
        let d = one in
        omega arith
    go true e false f less = absurd (true≢false (sym (is_kept_too e) ∙ f))
    go false e true f less = let c = sum_by-cons (entries_in b) first kept in omega arith
    go false e false f less = less

-- It is within the limit.
pub read_within : (b : List ℕ) (l : Limit) (o : ObjectParts) → IsFaultless b l → StandsFor b o → IsTrue (is_within o l)
read_within b l o none stands =
    let sections : length o.sections ≤ l.sections = subst (λ ss. length ss ≤ l.sections) (sym stands.sections) (few_sections b l none) in
    let symbols : length o.symbols ≤ l.symbols = subst (λ ss. length ss ≤ l.symbols) (sym stands.symbols) (few_symbols b l none) in
    let code : code_size o.sections ≤ l.code =
    subst (λ n. n ≤ l.code) (sym (ap code_size stands.sections ∙ code_is b (headers b))) (all_code (header_count b) refl) in
    and_from _ _ (and_from _ _ (and_from _ _ (leb_from _ _ sections) (leb_from _ _ symbols)) (leb_from _ _ relocs)) (leb_from _ _ code)
  where
    all_code : (n : ℕ) → header_count b ≡ n → code_up_to b (header_count b - 1) ≤ l.code
    all_code zero e = let same : header_count b - 1 ≡ 0 = omega arith in subst (λ n. code_up_to b n ≤ l.code) (sym same) (omega arith)
    all_code (suc n) e = little_code b l none (header_count b - 1) (omega arith)

    all_relocs : (n : ℕ) → header_count b ≡ n → relocs_up_to b (header_count b - 1) ≤ l.relocs
    all_relocs zero e = let same : header_count b - 1 ≡ 0 = omega arith in subst (λ n. relocs_up_to b n ≤ l.relocs) (sym same) (omega arith)
    all_relocs (suc n) e = few_relocs b l none (header_count b - 1) (omega arith)

    relocs : length o.relocs ≤ l.relocs
    relocs =
        let count = length_permutation (map (reloc_of b) (reloc_entries b)) o.relocs stands.relocs in
        let made = length-map (reloc_entries b) (reloc_of b) in
        let some = fewer (λ (e : ℕ × ℕ). not (word_at b (e.1 + 4) % 256 == 0)) (flat_map (entries_of b) (filter (is_reloc_table b) (headers b))) in
        let entries = few_entries b 1 (header_count b - 1) in
        let all = all_relocs (header_count b) refl in
        omega arith
