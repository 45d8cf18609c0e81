-- The symbols and relocations that are kept of a file without faults are those of an object.
use Rattle.std.proofs.Common.{◌≡◌, ◌≢◌, ◌≤◌, ◌<◌, ◌⊎◌, ℕ, zero, suc, ◌+◌, ◌-◌, ◌*◌, ◌/◌, ◌%◌, Bool, true, false, cond, not, ◌||◌, List, ◌∷◌, length, Option, Some, None, inl, inr, arith, refl, sym, ap, ◌∙◌, map, filter}
use Rattle.std.specs.Prelude.{nat_lt, nat_le, count_by, slice_get, ◌==◌, if◌then◌else◌}
use Rattle.std.specs.List.{list_all, list_any}
use Rattle.std.proofs.lemmas.Bool.{cases_lt, cases_eq, and_from, or_left, or_right, eq-eqb, ne_eqb, le-leb, lt-ltb, not-true, not_from_false, both_ways}
use Rattle.std.proofs.lemmas.Bool.Decides.{nat_tests}
use Rattle.std.proofs.lemmas.Option.{slice_get_within}
use Rattle.elf_model.specs.declared.refusals.Limit.{Limit}
use Rattle.elf_model.specs.declared.refusals.Refusal.TheVariants.{BadReloc}
use Rattle.elf_model.specs.declared.objects.Section.{Section}
use Rattle.elf_model.specs.declared.objects.Symbol.{Symbol}
use Rattle.elf_model.specs.declared.objects.Home.TheVariants as home
use Rattle.elf_model.specs.Constants.{symtab, rel, nobits, local, undefined_index, absolute_index}
use Rattle.elf_model.specs.Fields.{half_at, word_at}
use Rattle.elf_model.specs.Objects.{is_name, is_symbol, is_at_home, has_home, locals_first, place_width, is_kind, is_placed, is_reloc, code_width}
use Rattle.elf_model.specs.Files.{from, header, is_kept, kept_headers, section_of, section_number, is_kept_symbol, kept_symbols, symbol_table, symbol_places, symbol_name, symbol_of, symbol_number, home_of, reloc_kind, reloc_of, IsKind}
use Rattle.elf_model.proofs.Lists.{get_map}
use Rattle.elf_read.specs.Faults.{Fault, IsHeader, IsSymbolAt, IsRelocAt, IsKeptSymbol, names_no_section}
use Rattle.elf_read.specs.Faults.Fault.{bad_place, second_place, nobits_target}
use Rattle.elf_read.specs.HeaderFaults.{IsTabled}
use Rattle.elf_read.specs.Keeping.{HasHomes, HasSymbols, is_some_reloc}
use Rattle.elf_read.specs.SymbolFaults.{AreSymbols}
use Rattle.elf_read.specs.Texts.{IsNamed}
use Rattle.elf_read.proofs.KeptSymbols.{symbol_table_is, symbol_table_found, kept_home, symbol_flag_is, flag_from_kept}
use Rattle.elf_read.proofs.SoundSections.{text_is_name, get_numbered, all_good, section_there, number_tells}

-- no local symbol behind another one

none_of : {X Y : Type 0} (g : ℕ → X) (p : X → Bool) (f : X → Y) (q : Y → Bool) (first n : ℕ) → ((k : ℕ) → first ≤ k → k < first + n → p (g k) ≡ true → q (f (g k)) ≡ false) → list_any q (map f (filter p (map g (from first n)))) ≡ false
none_of g p f q first zero a = refl
none_of g p f q first (suc n) a = go (none_of g p f q (first + 1) n (λ k l u. a k (omega arith) (omega arith))) (a first (omega arith) (omega arith)) (p (g first)) refl
  where
    go : list_any q (map f (filter p (map g (from (first + 1) n)))) ≡ false → (p (g first) ≡ true → q (f (g first)) ≡ false) → (t : Bool) → p (g first) ≡ t → list_any q (map f (cond t (g first ∷ filter p (map g (from (first + 1) n))) (filter p (map g (from (first + 1) n))))) ≡ false
    go rest here true e = ap (λ (t : Bool). t || list_any q (map f (filter p (map g (from (first + 1) n))))) (here e) ∙ rest
    go rest here false e = rest

is_local : Symbol → Bool
is_local t = t.bind == local

locals_good : (g : ℕ → ℕ) (p : ℕ → Bool) (f : ℕ → Symbol) (first n : ℕ) → ((j k : ℕ) → first ≤ j → j < k → k < first + n → (f (g k)).bind ≡ local → (f (g j)).bind ≡ local) → locals_first (map f (filter p (map g (from first n)))) ≡ true
locals_good g p f first zero a = refl
locals_good g p f first (suc n) a = go (locals_good g p f (first + 1) n (λ j k l m u. a j k (omega arith) m (omega arith))) head (p (g first))
  where
    head : (((f (g first)).bind == local) || not (list_any (λ (t : Symbol). t.bind == local) (map f (filter p (map g (from (first + 1) n)))))) ≡ true
    head = elim (cases_eq (f (g first)).bind local) [
      | inl e ↦ or_left _ _ (eq-eqb (f (g first)).bind local e)
      | inr d ↦ or_right ((f (g first)).bind == local) _ (not_from_false _ (none_of g p f (λ (t : Symbol). t.bind == local) (first + 1) n (λ k l u y. ne_eqb (f (g k)).bind local (λ e. d (a first k (omega arith) (omega arith) (omega arith) e)))))
    ]

    go : locals_first (map f (filter p (map g (from (first + 1) n)))) ≡ true
        → (((f (g first)).bind == local) || not (list_any (λ (t : Symbol). t.bind == local) (map f (filter p (map g (from (first + 1) n)))))) ≡ true
        → (t : Bool) → locals_first (map f (cond t (g first ∷ filter p (map g (from (first + 1) n))) (filter p (map g (from (first + 1) n))))) ≡ true
    go rest here true = and_from _ _ here rest
    go rest here false = rest

module _ (b : List ℕ) (tabled : IsTabled b) (named : IsNamed b) (symbols : AreSymbols b) where
  sections : List Section
  sections = map (section_of b) (kept_headers b)

  inside_home : (t k e : ℕ) → IsSymbolAt b t k e → is_kept_symbol b e ≡ true → has_home (map (section_of b) (kept_headers b)) (symbol_of b e) (home_of b (half_at b (e + 14))) ≡ true
  inside_home t k e at stays = go (cases_eq (half_at b (e + 14)) undefined_index) (cases_eq (half_at b (e + 14)) absolute_index)
    where
      other : half_at b (e + 14) ≢ undefined_index → half_at b (e + 14) ≢ absolute_index → home_of b (half_at b (e + 14)) ≡ home.Section (section_number b (half_at b (e + 14)))
      other u v =
          ap (λ (t : Bool). if t then home.Undefined else if half_at b (e + 14) == absolute_index then home.Absolute else home.Section (section_number b (half_at b (e + 14)))) (ne_eqb _ undefined_index u)
          ∙ ap (λ (t : Bool). if t then home.Absolute else home.Section (section_number b (half_at b (e + 14)))) (ne_eqb _ absolute_index v)

      go : (half_at b (e + 14) ≡ undefined_index) ⊎ (half_at b (e + 14) ≡ undefined_index → ⊥) → (half_at b (e + 14) ≡ absolute_index) ⊎ (half_at b (e + 14) ≡ absolute_index → ⊥) → has_home (map (section_of b) (kept_headers b)) (symbol_of b e) (home_of b (half_at b (e + 14))) ≡ true
      go (inl u) a =
          ap (λ (t : Bool). has_home (map (section_of b) (kept_headers b)) (symbol_of b e) (if t then home.Undefined else if half_at b (e + 14) == absolute_index then home.Absolute else home.Section (section_number b (half_at b (e + 14))))) (eq-eqb _ undefined_index u)
      go (inr u) (inl a) =
          ap (λ (t : Bool). has_home (map (section_of b) (kept_headers b)) (symbol_of b e) (if t then home.Undefined else if half_at b (e + 14) == absolute_index then home.Absolute else home.Section (section_number b (half_at b (e + 14))))) (ne_eqb _ undefined_index u)
          ∙ ap (λ (t : Bool). has_home (map (section_of b) (kept_headers b)) (symbol_of b e) (if t then home.Absolute else home.Section (section_number b (half_at b (e + 14))))) (eq-eqb _ absolute_index a)
      go (inr u) (inr a) =
          let there = kept_home b e stays u a in
          let none : names_no_section (half_at b (e + 14)) ≡ false = ap (λ (t : Bool). t || (half_at b (e + 14) == absolute_index)) (ne_eqb _ undefined_index u) ∙ ne_eqb _ absolute_index a in
          ap (has_home (map (section_of b) (kept_headers b)) (symbol_of b e)) (other u a)
          ∙ ap (is_at_home (map (section_of b) (kept_headers b)) (symbol_of b e)) (section_there b (half_at b (e + 14)) there.0 there.1)
          ∙ le-leb _ _ (symbols.value t k e at none)

  symbol_good : (t k e : ℕ) → IsSymbolAt b t k e → is_kept_symbol b e ≡ true → is_symbol (map (section_of b) (kept_headers b)) (symbol_of b e) ≡ true
  symbol_good t k e at stays =
      let name : is_name (symbol_name b (symbol_table b) e) ≡ true = ap (λ (o : Option ℕ). is_name (symbol_name b o e)) (symbol_table_is b t tabled at.table) ∙ text_is_name b (header b t).link (word_at b e) (named.symbols t k e at) in
      and_from _ _ (and_from _ _ (and_from _ _ name (le-leb _ 2 (symbols.bind t k e at))) (le-leb _ 4 (symbols.kind t k e at))) (inside_home t k e at stays)

  symbol_at_place : (t k : ℕ) → IsKind b t symtab → 1 ≤ k → k < 1 + ((header b t).size / 16 - 1) → IsSymbolAt b t k ((header b t).offset + 16 * k)
  symbol_at_place t k kind p q = record { table = kind; behind_null = omega arith; there = omega arith; place = refl }

  pub symbols_good : list_all (is_symbol (map (section_of b) (kept_headers b))) (map (symbol_of b) (kept_symbols b)) ≡ true
  symbols_good = go (symbol_table b) (λ t e. symbol_table_found b t e)
    where
      go : (o : Option ℕ) → ((t : ℕ) → o ≡ Some t → IsKind b t symtab) → list_all (is_symbol (map (section_of b) (kept_headers b))) (map (symbol_of b) (filter (is_kept_symbol b) (symbol_places b o))) ≡ true
      go None k = refl
      go (Some t) k =
          all_good (λ i. (header b t).offset + 16 * i) (is_kept_symbol b) (symbol_of b) (is_symbol (map (section_of b) (kept_headers b))) 1 ((header b t).size / 16 - 1)
          (λ i p q y. symbol_good t i ((header b t).offset + 16 * i) (symbol_at_place t i (k t refl) p q) y)

  pub locals_are_first : locals_first (map (symbol_of b) (kept_symbols b)) ≡ true
  locals_are_first = go (symbol_table b) (λ t e. symbol_table_found b t e)
    where
      go : (o : Option ℕ) → ((t : ℕ) → o ≡ Some t → IsKind b t symtab) → locals_first (map (symbol_of b) (filter (is_kept_symbol b) (symbol_places b o))) ≡ true
      go None k = refl
      go (Some t) k =
          locals_good (λ i. (header b t).offset + 16 * i) (is_kept_symbol b) (symbol_of b) 1 ((header b t).size / 16 - 1)
          (λ i j p l q e. symbols.locals_first t i ((header b t).offset + 16 * i) j ((header b t).offset + 16 * j) l (symbol_at_place t i (k t refl) p (omega arith)) (symbol_at_place t j (k t refl) (omega arith) q) e)

  -- a kept symbol's number is that of a symbol of the object
  pub symbol_numbered : HasHomes b → (k : ℕ) → IsKeptSymbol b k → symbol_number b (symbol_table b) k < length (map (symbol_of b) (kept_symbols b))
  symbol_numbered homes k s =
      let t : ℕ = s.table in
      let table = symbol_table_is b t tabled s.stands.table in
      let stays : is_kept_symbol b ((header b t).offset + 16 * k) ≡ true = ap (is_kept_symbol b) (sym s.stands.place) ∙ sym (symbol_flag_is b t k s.e tabled s.stands) ∙ flag_from_kept b tabled homes k s in
      let above = s.stands.behind_null in
      let below = s.stands.there in
      let at = get_numbered (λ i. (header b t).offset + 16 * i) (is_kept_symbol b) 1 ((header b t).size / 16 - 1) k (λ i j l. omega (arith, l)) (omega (arith, above)) (omega (arith, above, below)) stays in
      let same : slice_get (kept_symbols b) (symbol_number b (symbol_table b) k) ≡ Some ((header b t).offset + 16 * k) =
      ap (λ (o : Option ℕ). slice_get (filter (is_kept_symbol b) (symbol_places b o)) (symbol_number b o k)) table
      ∙ ap (λ (o : Option ℕ). slice_get (filter (is_kept_symbol b) (symbol_places b (Some t))) (count_by (λ e. nat_lt e ((header b t).offset + 16 * k)) (filter (is_kept_symbol b) (symbol_places b o)))) table ∙ at in
      slice_get_within (map (symbol_of b) (kept_symbols b)) _ _ (get_map (symbol_of b) (kept_symbols b) _ _ same)

-- kinds of relocations

pub kind_good : (code : ℕ) → code ≢ 0 → is_kind (reloc_kind code) ≡ true
kind_good code n = grind (arith, nat_tests)

pub width_same : (code : ℕ) → place_width (reloc_kind code) ≡ code_width code
width_same code = grind (arith, nat_tests)

module _ (b : List ℕ) (l : Limit) (tabled : IsTabled b) (named : IsNamed b) (symbols : AreSymbols b) (homes : HasHomes b) (has : HasSymbols b) (relocs : (s o : ℕ) → Fault b l BadReloc s o → ⊥) where
  pub reloc_good : (h j r : ℕ) → IsRelocAt b h j r → is_some_reloc b (h, r) ≡ true → is_reloc (map (section_of b) (kept_headers b)) (map (symbol_of b) (kept_symbols b)) (reloc_of b (h, r)) ≡ true
  reloc_good h j r at some =
      let code : ℕ = word_at b (r + 4) % 256 in
      let nonzero : code ≢ 0 = λ z. both_ways _ (not-true _ some) (eq-eqb code 0 z) in
      let target = tabled.targets h at.table in
      let section = section_there b (header b h).info target.listed at.of_kept in
      let filled : not ((header b (header b h).info).kind == nobits) ≡ true = not_from_false _ (ne_eqb _ nobits (λ e. relocs h _ (nobits_target h at.table at.of_kept e))) in
      let inside : nat_le (word_at b r + place_width (reloc_kind code)) (header b (header b h).info).size ≡ true =
      le-leb _ _ (elim (cases_lt (header b (header b h).info).size (word_at b r + code_width code)) [
        | inl out ↦ absurd (relocs h r (bad_place h j r at out))
        | inr fits ↦ (let same = width_same code in omega (arith, same, fits))
      ]) in
      let placed : is_placed (reloc_of b (h, r)) (slice_get (map (section_of b) (kept_headers b)) (section_number b (header b h).info)) ≡ true =
      ap (is_placed (reloc_of b (h, r))) section ∙ and_from _ _ filled inside in
      and_from _ _ (and_from _ _ placed (kind_good code nonzero)) (lt-ltb _ _ (symbol_numbered b tabled named symbols homes (word_at b (r + 4) / 256) (has h j r at nonzero)))

  -- relocations at one place of the object are one relocation
  pub one_place : (h j r g i q : ℕ) → IsRelocAt b h j r → IsRelocAt b g i q → (g < h) ⊎ ((g ≡ h) × (i < j)) → section_number b (header b g).info ≡ section_number b (header b h).info → word_at b q ≡ word_at b r → ⊥
  one_place h j r g i q at before order same word =
      let first = section_target g before.table before.of_kept in
      let second = section_target h at.table at.of_kept in
      let info : (header b g).info ≡ (header b h).info = same_number (header b g).info (header b h).info first.0 first.1 second.0 second.1 same in
      relocs h r (second_place g i q h j r order before at info word)
    where
      section_target : (x : ℕ) → IsKind b x rel → is_kept b (header b x).info ≡ true → IsHeader b (header b x).info × (is_kept b (header b x).info ≡ true)
      section_target x k y = ((tabled.targets x k).listed, y)

      same_number : (x y : ℕ) → IsHeader b x → is_kept b x ≡ true → IsHeader b y → is_kept b y ≡ true → section_number b x ≡ section_number b y → x ≡ y
      same_number x y i k j m e = number_tells b x y i k j m e
