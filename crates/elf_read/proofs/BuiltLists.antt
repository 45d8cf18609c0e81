-- The lists of the object's parts, one header or one entry after another.
use Rattle.std.proofs.Common.{◌≡◌, ◌≢◌, ◌≤◌, ◌<◌, ℕ, zero, suc, ◌+◌, ◌-◌, ◌*◌, ◌/◌, Bool, true, false, cond, ◌&&◌, List, [], ◌∷◌, ◌++◌, length, take, append_assoc, length-append, Option, Some, None, inl, inr, arith, refl, sym, ap, ◌∙◌, subst, map, filter}
use Rattle.std.specs.Prelude.{nat_lt, count_by, slice_index, ◌==◌, if◌then◌else◌}
use Rattle.std.specs.List.{list_any, flat_map}
use Rattle.std.proofs.lemmas.Bool.{cases_eq, ne_eqb, lt-ltb, le-ltb}
use Rattle.std.proofs.lemmas.List.{map-append, map-id, append-nil}
use Rattle.std.proofs.lemmas.List.Concat.{flat_map-append}
use Rattle.std.proofs.lemmas.List.Elements.{filter-append}
use Rattle.elf_model.specs.Constants.{rel, undefined_index, absolute_index}
use Rattle.elf_model.specs.Files.{from, header, header_count, headers, is_kept, kept_headers, is_kept_symbol, kept_symbols, symbol_table, symbol_places, section_number, symbol_number, is_reloc_table, entries_of, reloc_of, home_of}
use Rattle.elf_model.specs.declared.objects.Reloc.{Reloc}
use Rattle.elf_model.specs.declared.objects.Home.TheVariants as home
use Rattle.elf_model.proofs.Lists.{count_cons}
use Rattle.elf_read.specs.Faults.{IsHeader, IsKeptSymbol}
use Rattle.elf_read.specs.HeaderFaults.{IsTabled}
use Rattle.elf_read.specs.Keeping.{kept_flags, symbol_flags, AreCounts, is_kept_relocs, is_some_reloc}
use Rattle.elf_read.proofs.Flags.{from_more, any_flag, flag_is}
use Rattle.elf_read.proofs.KeptSymbols.{flags_are, symbol_table_is, length_made}

-- one more number is made and kept, or dropped
kept_one : {X Y : Type 0} (p : X → Bool) (g : X → Y) (x : X) → map g (filter p (x ∷ [])) ≡ cond (p x) (g x ∷ []) []
kept_one p g x = go (p x)
  where
    go : (t : Bool) → map g (cond t (x ∷ []) []) ≡ cond t (g x ∷ []) []
    go true = refl
    go false = refl

pub push_kept : {X Y : Type 0} (f : ℕ → X) (p : X → Bool) (g : X → Y) (first n : ℕ) (pre old new : List Y) → new ≡ old ++ cond (p (f (first + n))) (g (f (first + n)) ∷ []) [] → old ≡ pre ++ map g (filter p (map f (from first n))) → new ≡ pre ++ map g (filter p (map f (from first (n + 1))))
push_kept f p g first n pre old new made so_far =
    let more : map g (filter p (map f (from first (n + 1)))) ≡ map g (filter p (map f (from first n))) ++ cond (p (f (first + n))) (g (f (first + n)) ∷ []) [] =
    ap (λ (xs : List ℕ). map g (filter p (map f xs))) (from_more first n) ∙ ap (λ (xs : List _). map g (filter p xs)) (map-append f (from first n) ((first + n) ∷ []))
    ∙ ap (map g) (filter-append p (map f (from first n)) (f (first + n) ∷ [])) ∙ map-append g (filter p (map f (from first n))) (filter p (f (first + n) ∷ []))
    ∙ ap (λ (xs : List _). map g (filter p (map f (from first n))) ++ xs) (kept_one p g (f (first + n))) in
    made ∙ ap (λ (xs : List _). xs ++ cond (p (f (first + n))) (g (f (first + n)) ∷ []) []) so_far
    ∙ append_assoc pre (map g (filter p (map f (from first n)))) (cond (p (f (first + n))) (g (f (first + n)) ∷ []) [])
    ∙ ap (λ (xs : List _). pre ++ xs) (sym more)

-- the same over numbers h from one on
pub push_kept_from_one : {X Y : Type 0} (f : ℕ → X) (p : X → Bool) (g : X → Y) (h : ℕ) (pre old new : List Y) → 1 ≤ h → new ≡ old ++ cond (p (f h)) (g (f h) ∷ []) [] → old ≡ pre ++ map g (filter p (map f (from 1 (h - 1)))) → new ≡ pre ++ map g (filter p (map f (from 1 ((h + 1) - 1))))
push_kept_from_one f p g h pre old new l made so_far =
    let here : 1 + (h - 1) ≡ h = omega arith in
    let next : (h - 1) + 1 ≡ (h + 1) - 1 = omega arith in
    push_kept f p g 1 (h - 1) pre old new (subst (λ (k : ℕ). new ≡ old ++ cond (p (f k)) (g (f k) ∷ []) []) (sym here) made) so_far
    ∙ ap (λ (k : ℕ). pre ++ map g (filter p (map f (from 1 k)))) next

-- headers that are kept, from one on
pub push_header : {Y : Type 0} (p : ℕ → Bool) (g : ℕ → Y) (h : ℕ) (old new : List Y) → 1 ≤ h → new ≡ old ++ cond (p h) (g h ∷ []) [] → old ≡ map g (filter p (from 1 (h - 1))) → new ≡ map g (filter p (from 1 ((h + 1) - 1)))
push_header p g h old new l made so_far =
    let plain : (n : ℕ) → map g (filter p (map (λ (k : ℕ). k) (from 1 n))) ≡ map g (filter p (from 1 n)) = λ n. ap (λ (xs : List ℕ). map g (filter p xs)) (map-id (from 1 n)) in
    push_kept_from_one (λ k. k) p g h [] old new l made (so_far ∙ sym (plain (h - 1))) ∙ plain ((h + 1) - 1)

pub symbols_made : {Y : Type 0} (g : ℕ → Y) (b : List ℕ) (t at n : ℕ) (new old : List Y) → new ≡ old ++ map g (filter (is_kept_symbol b) (map (λ k. at + 16 * k) (from 1 (n - 1)))) → old ≡ [] → at ≡ (header b t).offset → n ≡ (header b t).size / 16 → symbol_table b ≡ Some t → new ≡ map g (kept_symbols b)
symbols_made g b t at n new old made none place many found =
    made ∙ ap (λ (xs : List _). xs ++ map g (filter (is_kept_symbol b) (map (λ k. at + 16 * k) (from 1 (n - 1))))) none
    ∙ ap (λ (p : ℕ). map g (filter (is_kept_symbol b) (map (λ k. p + 16 * k) (from 1 (n - 1))))) place
    ∙ ap (λ (m : ℕ). map g (filter (is_kept_symbol b) (map (λ k. (header b t).offset + 16 * k) (from 1 (m - 1))))) many
    ∙ ap (λ (o : Option ℕ). map g (filter (is_kept_symbol b) (symbol_places b o))) (sym found)

pub no_symbols_made : {Y : Type 0} (g : ℕ → Y) (b : List ℕ) (new : List Y) → new ≡ [] → symbol_table b ≡ None → new ≡ map g (kept_symbols b)
no_symbols_made g b new none found = none ∙ ap (λ (o : Option ℕ). map g (filter (is_kept_symbol b) (symbol_places b o))) (sym found)

-- counts

pub none_less : (f : ℕ → ℕ) (p : ℕ → Bool) (first n x : ℕ) → ((k : ℕ) → first ≤ k → x ≤ f k) → count_by (λ e. nat_lt e x) (filter p (map f (from first n))) ≡ 0
none_less f p first zero x a = refl
none_less f p first (suc n) x a = go (none_less f p (first + 1) n x (λ k l. a k (omega arith))) (p (f first))
  where
    go : count_by (λ e. nat_lt e x) (filter p (map f (from (first + 1) n))) ≡ 0 → (t : Bool) → count_by (λ e. nat_lt e x) (cond t (f first ∷ filter p (map f (from (first + 1) n))) (filter p (map f (from (first + 1) n)))) ≡ 0
    go rest true =
        count_cons (λ e. nat_lt e x) (f first) (filter p (map f (from (first + 1) n)))
        ∙ ap (λ (t : Bool). cond t (1 + count_by (λ e. nat_lt e x) (filter p (map f (from (first + 1) n)))) (count_by (λ e. nat_lt e x) (filter p (map f (from (first + 1) n))))) (le-ltb (f first) x (a first (omega arith))) ∙ rest
    go rest false = rest

-- as many are below the number of k as flags are set before k
count_below : (f : ℕ → ℕ) (p : ℕ → Bool) (first n j : ℕ) → ((i k : ℕ) → i < k → f i < f k) → j ≤ n → count_by (λ e. nat_lt e (f (first + j))) (filter p (map f (from first n))) ≡ count_by (λ (t : Bool). t) (take j (map (λ k. p (f k)) (from first n)))
count_below f p first n zero up l =
    none_less f p first n (f (first + 0)) (λ k a. elim (cases_eq k first) [
      | inl e ↦ (let s : f (first + 0) ≡ f k = (let z : first + 0 ≡ k = omega (arith, e) in ap f z) in omega (arith, s))
      | inr d ↦ (let m = up (first + 0) k (omega (arith, a, d)) in omega (arith, m))
    ])
count_below f p first zero (suc j) up l = absurd (omega arith)
count_below f p first (suc n) (suc j) up l =
    let same : (first + 1) + j ≡ first + suc j = omega arith in
    let rest = count_below f p (first + 1) n j up (omega arith) in
    go (sym (ap (λ (k : ℕ). count_by (λ e. nat_lt e (f k)) (filter p (map f (from (first + 1) n)))) same) ∙ rest) (lt-ltb (f first) (f (first + suc j)) (up first (first + suc j) (omega arith))) (p (f first))
  where
    go : count_by (λ e. nat_lt e (f (first + suc j))) (filter p (map f (from (first + 1) n))) ≡ count_by (λ (t : Bool). t) (take j (map (λ k. p (f k)) (from (first + 1) n)))
        → nat_lt (f first) (f (first + suc j)) ≡ true → (t : Bool)
        → count_by (λ e. nat_lt e (f (first + suc j))) (cond t (f first ∷ filter p (map f (from (first + 1) n))) (filter p (map f (from (first + 1) n)))) ≡ count_by (λ (t : Bool). t) (t ∷ take j (map (λ k. p (f k)) (from (first + 1) n)))
    go rest less true =
        count_cons (λ e. nat_lt e (f (first + suc j))) (f first) (filter p (map f (from (first + 1) n)))
        ∙ ap (λ (t : Bool). cond t (1 + count_by (λ e. nat_lt e (f (first + suc j))) (filter p (map f (from (first + 1) n)))) (count_by (λ e. nat_lt e (f (first + suc j))) (filter p (map f (from (first + 1) n))))) less
        ∙ ap (λ (m : ℕ). 1 + m) rest ∙ sym (count_cons (λ (t : Bool). t) true (take j (map (λ k. p (f k)) (from (first + 1) n))))
    go rest less false = rest ∙ sym (count_cons (λ (t : Bool). t) false (take j (map (λ k. p (f k)) (from (first + 1) n))))

-- behind the null entry
count_before : (f : ℕ → ℕ) (p : ℕ → Bool) (n k : ℕ) → ((i k : ℕ) → i < k → f i < f k) → k ≤ n → count_by (λ e. nat_lt e (f k)) (filter p (map f (from 1 n))) ≡ count_by (λ (t : Bool). t) (take k (false ∷ map (λ k. p (f k)) (from 1 n)))
count_before f p n zero up l = none_less f p 1 n (f 0) (λ k a. let m = up 0 k (omega arith) in omega (arith, m))
count_before f p n (suc k) up l =
    let same : 1 + k ≡ suc k = omega arith in
    ap (λ (i : ℕ). count_by (λ e. nat_lt e (f i)) (filter p (map f (from 1 n)))) (sym same) ∙ count_below f p 1 n k up (omega arith)
    ∙ sym (count_cons (λ (t : Bool). t) false (take k (map (λ k. p (f k)) (from 1 n))))

pub section_number_is : (b : List ℕ) (counts : List ℕ) (h : ℕ) → AreCounts (kept_flags b) counts → IsHeader b h → slice_index counts h ≡ section_number b h
section_number_is b counts h c i =
    let long = length_made (is_kept b) 1 (header_count b - 1) in
    let there = i.there in
    c.each h (omega (arith, long, there))
    ∙ sym (ap (λ (xs : List ℕ). count_by (λ k. nat_lt k h) (filter (is_kept b) xs)) (sym (map-id (headers b))) ∙ count_before (λ k. k) (is_kept b) (header_count b - 1) h (λ i k l. l) (omega (arith, there)))

pub symbol_number_is : (b : List ℕ) (counts : List ℕ) (k : ℕ) → IsTabled b → AreCounts (symbol_flags b) counts → IsKeptSymbol b k → slice_index counts k ≡ symbol_number b (symbol_table b) k
symbol_number_is b counts k tabled c s =
    let t : ℕ = s.table in
    let f : ℕ → ℕ = λ i. (header b t).offset + 16 * i in
    let n : ℕ = (header b t).size / 16 - 1 in
    let table : symbol_table b ≡ Some t = symbol_table_is b t tabled s.stands.table in
    let flags = flags_are b t table in
    let long = length_made (λ i. is_kept_symbol b (f i)) 1 n in
    let there = s.stands.there in
    let short : k < length (symbol_flags b) = subst (λ (x : List Bool). k < length x) (sym flags) (omega (arith, long, there)) in
    c.each k short ∙ ap (λ (x : List Bool). count_by (λ (y : Bool). y) (take k x)) flags
    ∙ sym (count_before f (is_kept_symbol b) n k (λ i k l. omega (arith, l)) (omega (arith, there)))
    ∙ ap (λ (x : Option ℕ). count_by (λ e. nat_lt e ((header b t).offset + 16 * k)) (filter (is_kept_symbol b) (symbol_places b x))) (sym table)
    ∙ ap (λ (x : Option ℕ). symbol_number b x k) (sym table)

-- relocations

pub reloc_table_is : (b : List ℕ) (h : ℕ) → IsTabled b → IsHeader b h → is_reloc_table b h ≡ is_kept_relocs b h
reloc_table_is b h tabled i = elim (cases_eq (header b h).kind rel) [
  | inl e ↦ ap (λ (t : Bool). ((header b h).kind == rel) && t) (any_flag (is_kept b) (header_count b - 1) (header b h).info ∙ flag_is b (header b h).info (tabled.targets h (i.behind_null, i.there, e)).listed)
  | inr n ↦ ap (λ (t : Bool). t && list_any (λ k. (header b h).info == k) (kept_headers b)) (ne_eqb (header b h).kind rel n) ∙ sym (ap (λ (t : Bool). t && is_kept b (header b h).info) (ne_eqb (header b h).kind rel n))
]

-- the entries of the headers below h
abbrev pub entries_up_to : List ℕ → ℕ → List (ℕ × ℕ)
entries_up_to b h = filter (is_some_reloc b) (flat_map (entries_of b) (filter (is_reloc_table b) (from 1 (h - 1))))

flat_one : (b : List ℕ) (h : ℕ) → flat_map (entries_of b) (filter (is_reloc_table b) (h ∷ [])) ≡ cond (is_reloc_table b h) (entries_of b h) []
flat_one b h = go (is_reloc_table b h)
  where
    go : (t : Bool) → flat_map (entries_of b) (cond t (h ∷ []) []) ≡ cond t (entries_of b h) []
    go true = append-nil (entries_of b h)
    go false = refl

entries_more : (b : List ℕ) (h : ℕ) → 1 ≤ h → entries_up_to b (h + 1) ≡ entries_up_to b h ++ filter (is_some_reloc b) (cond (is_reloc_table b h) (entries_of b h) [])
entries_more b h l =
    let here : 1 + (h - 1) ≡ h = omega arith in
    let next : (h + 1) - 1 ≡ (h - 1) + 1 = omega arith in
    let p = is_reloc_table b in
    ap (λ (k : ℕ). filter (is_some_reloc b) (flat_map (entries_of b) (filter p (from 1 k)))) next
    ∙ ap (λ (xs : List ℕ). filter (is_some_reloc b) (flat_map (entries_of b) (filter p xs))) (from_more 1 (h - 1))
    ∙ ap (λ (xs : List ℕ). filter (is_some_reloc b) (flat_map (entries_of b) xs)) (filter-append p (from 1 (h - 1)) ((1 + (h - 1)) ∷ []))
    ∙ ap (filter (is_some_reloc b)) (flat_map-append (entries_of b) (filter p (from 1 (h - 1))) (filter p ((1 + (h - 1)) ∷ [])))
    ∙ filter-append (is_some_reloc b) (flat_map (entries_of b) (filter p (from 1 (h - 1)))) (flat_map (entries_of b) (filter p ((1 + (h - 1)) ∷ [])))
    ∙ ap (λ (k : ℕ). entries_up_to b h ++ filter (is_some_reloc b) (flat_map (entries_of b) (filter p (k ∷ [])))) here
    ∙ ap (λ (xs : List (ℕ × ℕ)). entries_up_to b h ++ filter (is_some_reloc b) xs) (flat_one b h)

pub push_header_relocs : (b : List ℕ) (h : ℕ) (old new : List Reloc) → IsTabled b → IsHeader b h → new ≡ old ++ map (reloc_of b) (filter (is_some_reloc b) (cond (is_kept_relocs b h) (entries_of b h) [])) → old ≡ map (reloc_of b) (entries_up_to b h) → new ≡ map (reloc_of b) (entries_up_to b (h + 1))
push_header_relocs b h old new tabled i made so_far =
    made ∙ ap (λ (xs : List Reloc). xs ++ map (reloc_of b) (filter (is_some_reloc b) (cond (is_kept_relocs b h) (entries_of b h) []))) so_far
    ∙ sym (ap (map (reloc_of b)) (entries_more b h i.behind_null ∙ ap (λ (t : Bool). entries_up_to b h ++ filter (is_some_reloc b) (cond t (entries_of b h) [])) (reloc_table_is b h tabled i))
    ∙ map-append (reloc_of b) (entries_up_to b h) (filter (is_some_reloc b) (cond (is_kept_relocs b h) (entries_of b h) [])))

pub home_section : (b : List ℕ) (i n : ℕ) → i ≢ undefined_index → i ≢ absolute_index → n ≡ section_number b i → home.Section n ≡ home_of b i
home_section b i n other far e =
    ap (λ (k : ℕ). home.Section k) e ∙ sym (ap (λ (t : Bool). if t then home.Undefined else if i == absolute_index then home.Absolute else home.Section (section_number b i)) (ne_eqb i undefined_index other)
    ∙ ap (λ (t : Bool). if t then home.Absolute else home.Section (section_number b i)) (ne_eqb i absolute_index far))

-- one header more is counted
pub counted_more : (p : ℕ → Bool) (h : ℕ) → 1 ≤ h → length (filter p (from 1 ((h + 1) - 1))) ≡ length (filter p (from 1 (h - 1))) + cond (p h) 1 0
counted_more p h l =
    let here : 1 + (h - 1) ≡ h = omega arith in
    let next : (h + 1) - 1 ≡ (h - 1) + 1 = omega arith in
    ap (λ (k : ℕ). length (filter p (from 1 k))) next ∙ ap (λ (xs : List ℕ). length (filter p xs)) (from_more 1 (h - 1))
    ∙ ap length (filter-append p (from 1 (h - 1)) ((1 + (h - 1)) ∷ [])) ∙ length-append (filter p (from 1 (h - 1))) (filter p ((1 + (h - 1)) ∷ []))
    ∙ ap (λ (k : ℕ). length (filter p (from 1 (h - 1))) + length (filter p (k ∷ []))) here ∙ ap (λ (n : ℕ). length (filter p (from 1 (h - 1))) + n) (one (p h))
  where
    one : (t : Bool) → length (cond t (h ∷ []) []) ≡ cond t 1 0
    one true = refl
    one false = refl
