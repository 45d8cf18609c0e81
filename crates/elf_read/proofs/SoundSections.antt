-- The sections that are kept of a file without faults are those of an object.
use Rattle.std.proofs.Common.{◌≡◌, ◌≢◌, ◌≤◌, ◌<◌, ℕ, zero, suc, ◌+◌, ◌-◌, Bool, true, false, cond, not, ◌||◌, ◌&&◌, List, [], ◌∷◌, length, get_or, take, drop, Some, inl, inr, arith, refl, sym, ap, ◌∙◌, subst, map, filter, max}
use Rattle.std.specs.Prelude.{nat_lt, nat_le, count_by, slice_get, ◌==◌, if◌then◌else◌}
use Rattle.std.specs.List.{list_all, list_any, position_or_len}
use Rattle.std.proofs.Math.Nat.{max-eq_right}
use Rattle.std.proofs.lemmas.Bool.{cases_lt, cases_eq, and_parts, and_from, or_cases, or_parts, eqb-true, eq-eqb, ne_eqb, le-leb, lt-ltb, le-ltb, not-true, not-false, not_from_false, both_ways, false_from_ne_true, true_from_ne_false, false≢true}
use Rattle.std.proofs.lemmas.List.{map-id}
use Rattle.std.proofs.lemmas.List.Sums.{fails_before_first}
use Rattle.std.proofs.lemmas.List.Recursion.{and_from_places}
use Rattle.std.proofs.lemmas.Option.{same_Some}
use Rattle.elf_model.specs.declared.refusals.Limit.{Limit}
use Rattle.elf_model.specs.declared.refusals.Refusal.TheVariants.{BadTable, SectionKind}
use Rattle.elf_model.specs.Constants.{progbits, note, arm_attributes, nobits, rel, arm_exidx}
use Rattle.elf_model.specs.Fields.{half_at}
use Rattle.elf_model.specs.Objects.{is_name, is_dropped_name, is_alignment, is_kept_kind, is_alloc, is_writable, is_exec, is_section, has_bytes, is_memory_kind}
use Rattle.elf_model.specs.Files.{from, header, header_count, headers, contents, text_at, EndsAt, section_name, section_of, is_table, is_refused_kind, is_dropped, is_kept, kept_headers, section_number}
use Rattle.elf_model.proofs.Lists.{count_cons, get_map}
use Rattle.elf_read.specs.Faults.{Fault, IsHeader}
use Rattle.elf_read.specs.Faults.Fault.{bad_alignment, refused_kind, memory_kind, writable_code, empty_code}
use Rattle.elf_read.specs.HeaderFaults.{IsTabled}
use Rattle.elf_read.specs.Texts.{IsNamed}
use Rattle.elf_read.proofs.Texts.{whole}
use Rattle.elf_read.proofs.BuiltLists.{none_less}

-- texts

short : (xs : List ℕ) (n k : ℕ) → n ≤ k → length (take n xs) ≤ k
short [] zero k l = omega arith
short [] (suc n) k l = omega arith
short (x ∷ xs) zero k l = omega arith
short (x ∷ xs) (suc n) zero l = absurd (omega arith)
short (x ∷ xs) (suc n) (suc k) l = let r = short xs n k (omega arith) in omega (arith, r)

first_at_most : (xs : List ℕ) (k : ℕ) → (get_or xs k 0 ≡ 0) → position_or_len (λ c. c == 0) xs ≤ k
first_at_most xs k z = elim (cases_lt k (position_or_len (λ c. c == 0) xs)) [
  | inl l ↦ absurd (both_ways _ (fails_before_first (λ c. c == 0) xs k 0 l) (eq-eqb (get_or xs k 0) 0 z))
  | inr l ↦ l
]

get_take : (xs : List ℕ) (n k : ℕ) → k < length (take n xs) → (k < n) × (get_or (take n xs) k 0 ≡ get_or xs k 0)
get_take [] zero k l = absurd (omega arith)
get_take [] (suc n) k l = absurd (omega arith)
get_take (x ∷ xs) zero k l = absurd (omega arith)
get_take (x ∷ xs) (suc n) zero l = (omega arith, refl)
get_take (x ∷ xs) (suc n) (suc k) l = let r = get_take xs n k (omega arith) in (omega (arith, r.0), r.1)

get_drop : (xs : List ℕ) (p n : ℕ) → get_or (drop p xs) n 0 ≡ get_or xs (p + n) 0
get_drop xs zero n = let e : n ≡ 0 + n = omega arith in ap (λ (k : ℕ). get_or xs k 0) e
get_drop [] (suc p) n = refl
get_drop (x ∷ xs) (suc p) n = let e : suc (p + n) ≡ suc p + n = omega arith in get_drop xs p n ∙ ap (λ (k : ℕ). get_or (x ∷ xs) k 0) e

pub text_is_name : (b : List ℕ) (t p : ℕ) → EndsAt b t p → is_name (text_at b t p) ≡ true
text_is_name b t p e =
    let xs : List ℕ = drop p (contents b t) in
    let n : ℕ = position_or_len (λ c. c == 0) xs in
    let below : n ≤ 4095 = (let f = first_at_most xs e.0 (get_drop (contents b t) p e.0 ∙ e.3) in let m = e.1 in omega (arith, f, m)) in
    and_from (nat_le (length (take n xs)) 4095) (list_all (λ c. not (c == 0)) (take n xs)) (le-leb _ 4095 (short xs n 4095 below))
    (and_from_places (list_all (λ c. not (c == 0))) (λ c. not (c == 0)) refl (λ x ys. refl) (take n xs) 0 (λ i l.
    let at = get_take xs n i l in
    not_from_false _ (ap (λ (c : ℕ). c == 0) at.1 ∙ fails_before_first (λ c. c == 0) xs i 0 at.0)))

-- an element that passes has the number of those below it
pub get_numbered : (g : ℕ → ℕ) (p : ℕ → Bool) (first n h : ℕ) → ((i k : ℕ) → i < k → g i < g k) → first ≤ h → h < first + n → p (g h) ≡ true
    → slice_get (filter p (map g (from first n))) (count_by (λ e. nat_lt e (g h)) (filter p (map g (from first n)))) ≡ Some (g h)
get_numbered g p first zero h up l u y = absurd (omega arith)
get_numbered g p first (suc n) h up l u y = elim (cases_eq first h) [
  | inl e ↦ (
      let none = none_less g p (first + 1) n (g h) (λ k a. let m = up h k (omega (arith, a, e)) in omega (arith, m)) in
      let here : p (g first) ≡ true = subst (λ (k : ℕ). p (g k) ≡ true) (sym e) y in
      at_front (filter p (map g (from (first + 1) n))) (p (g first)) here (ap g e) none)
  | inr d ↦ behind (filter p (map g (from (first + 1) n))) (p (g first)) (lt-ltb (g first) (g h) (up first h (omega (arith, d, l)))) (get_numbered g p (first + 1) n h up (omega (arith, d, l)) (omega (arith, u)) y)
]
  where
    at_front : (rest : List ℕ) (t : Bool) → t ≡ true → g first ≡ g h → count_by (λ e. nat_lt e (g h)) rest ≡ 0 → slice_get (cond t (g first ∷ rest) rest) (count_by (λ e. nat_lt e (g h)) (cond t (g first ∷ rest) rest)) ≡ Some (g h)
    at_front rest false f e none = absurd (false≢true f)
    at_front rest true f e none =
        let least : nat_lt (g first) (g h) ≡ false = le-ltb (g first) (g h) (omega (arith, e)) in
        let zeros : count_by (λ e. nat_lt e (g h)) (g first ∷ rest) ≡ 0 = count_cons (λ e. nat_lt e (g h)) (g first) rest ∙ ap (λ (t : Bool). cond t (1 + count_by (λ e. nat_lt e (g h)) rest) (count_by (λ e. nat_lt e (g h)) rest)) least ∙ none in
        ap (slice_get (g first ∷ rest)) zeros ∙ ap (λ (x : ℕ). Some x) e

    behind : (rest : List ℕ) (t : Bool) → nat_lt (g first) (g h) ≡ true → slice_get rest (count_by (λ e. nat_lt e (g h)) rest) ≡ Some (g h) → slice_get (cond t (g first ∷ rest) rest) (count_by (λ e. nat_lt e (g h)) (cond t (g first ∷ rest) rest)) ≡ Some (g h)
    behind rest false less at = at
    behind rest true less at =
        let more : count_by (λ e. nat_lt e (g h)) (g first ∷ rest) ≡ suc (count_by (λ e. nat_lt e (g h)) rest) = count_cons (λ e. nat_lt e (g h)) (g first) rest ∙ ap (λ (t : Bool). cond t (1 + count_by (λ e. nat_lt e (g h)) rest) (count_by (λ e. nat_lt e (g h)) rest)) less ∙ omega arith in
        ap (slice_get (g first ∷ rest)) more ∙ at

-- all that is made of what passes is good
pub all_good : {X Y : Type 0} (g : ℕ → X) (p : X → Bool) (f : X → Y) (q : Y → Bool) (first n : ℕ) → ((k : ℕ) → first ≤ k → k < first + n → p (g k) ≡ true → q (f (g k)) ≡ true) → list_all q (map f (filter p (map g (from first n)))) ≡ true
all_good g p f q first zero a = refl
all_good g p f q first (suc n) a = go (all_good g p f q (first + 1) n (λ k l u. a k (omega arith) (omega arith))) (a first (omega arith) (omega arith)) (p (g first)) refl
  where
    go : list_all q (map f (filter p (map g (from (first + 1) n)))) ≡ true → (p (g first) ≡ true → q (f (g first)) ≡ true) → (t : Bool) → p (g first) ≡ t → list_all q (map f (cond t (g first ∷ filter p (map g (from (first + 1) n))) (filter p (map g (from (first + 1) n))))) ≡ true
    go rest here true e = and_from (q (f (g first))) _ (here e) rest
    go rest here false e = rest

aligned : (a : ℕ) → (a ≢ 0 → is_alignment a ≡ true) → is_alignment (max 1 a) ≡ true
aligned a h = elim (cases_eq a 0) [
  | inl z ↦ ap (λ (k : ℕ). is_alignment (max 1 k)) z
  | inr n ↦ (let le : 1 ≤ a = omega (arith, n) in ap is_alignment (max-eq_right le) ∙ h n)
]

module _ (b : List ℕ) (l : Limit) (tabled : IsTabled b) (named : IsNamed b) (tables : (s o : ℕ) → Fault b l BadTable s o → ⊥) (kinds : (s o : ℕ) → Fault b l SectionKind s o → ⊥) where
  pub record KeptFacts (h : ℕ) : Type 0 where
    pub table : is_table (header b h).kind ≡ false
    pub stays : is_dropped b h ≡ false
    pub name : is_dropped_name (section_name b h) ≡ false
    pub kind : is_kept_kind (header b h).kind (header b h).flags ≡ true

  kept_facts : (h : ℕ) → IsHeader b h → is_kept b h ≡ true → KeptFacts h
  kept_facts h i k =
      let parts = and_parts (not (is_table (header b h).kind)) (not (is_dropped b h)) k in
      let stays : is_dropped b h ≡ false = not-true _ parts.1 in
      let plain : is_refused_kind (header b h).kind ≡ false = false_from_ne_true _ (λ r. kinds h _ (refused_kind h i r)) in
      let rest : (is_dropped_name (section_name b h) || ((header b h).kind == arm_exidx) || not (is_alloc (header b h).flags || is_kept_kind (header b h).kind (header b h).flags)) ≡ false =
      ap (λ (t : Bool). not t && (is_dropped_name (section_name b h) || ((header b h).kind == arm_exidx) || not (is_alloc (header b h).flags || is_kept_kind (header b h).kind (header b h).flags))) (sym plain) ∙ stays in
      let a = or_parts (is_dropped_name (section_name b h) || ((header b h).kind == arm_exidx)) (not (is_alloc (header b h).flags || is_kept_kind (header b h).kind (header b h).flags)) rest in
      let d = or_parts (is_dropped_name (section_name b h)) ((header b h).kind == arm_exidx) a.0 in
      record {
        table = not-true _ parts.0;
        stays = stays;
        name = d.0;
        kind = elim (or_cases (is_alloc (header b h).flags) (is_kept_kind (header b h).kind (header b h).flags) (not-false _ a.1)) [
          | inl m ↦
              let memory : is_memory_kind (header b h).kind ≡ true = true_from_ne_false _ (λ n. kinds h _ (memory_kind h i m n (inr stays))) in
              ap (λ (t : Bool). if t then is_memory_kind (header b h).kind else list_any (λ k. (header b h).kind == k) (progbits ∷ note ∷ arm_attributes ∷ [])) m ∙ memory
          | inr y ↦ y
        ];
      }

  section_bytes : (h : ℕ) → IsHeader b h → has_bytes (section_of b h) ≡ true
  section_bytes h i = elim (cases_eq (header b h).kind nobits) [
    | inl e ↦ ap (λ (t : Bool). length (if t then [] else contents b h) == (if t then 0 else (header b h).size)) (eq-eqb (header b h).kind nobits e)
    | inr n ↦ ap (λ (t : Bool). length (if t then [] else contents b h) == (if t then 0 else (header b h).size)) (ne_eqb (header b h).kind nobits n) ∙ eq-eqb (length (contents b h)) (header b h).size (whole b h tabled i n)
  ]

  pub section_good : (h : ℕ) → IsHeader b h → is_kept b h ≡ true → is_section (section_of b h) ≡ true
  section_good h i k =
      let facts = kept_facts h i k in
      let no_rel : (header b h).kind ≢ rel = λ e. both_ways _ facts.table (ap is_table e) in
      let name = text_is_name b (half_at b 50) (header b h).name (named.sections h i no_rel) in
      let align = aligned (header b h).align (λ n. true_from_ne_false _ (λ f. tables h _ (bad_alignment h i n f))) in
      let writable = not_from_false _ (false_from_ne_true _ (λ w. let p = and_parts (is_writable (header b h).flags) (is_exec (header b h).flags) w in kinds h _ (writable_code h i p.1 p.0))) in
      let filled = not_from_false _ (false_from_ne_true _ (λ w. let p = and_parts (is_exec (header b h).flags) ((header b h).kind == nobits) w in kinds h _ (empty_code h i p.0 (eqb-true _ _ p.1)))) in
      and_from _ _ (and_from _ _ (and_from _ _ (and_from _ _ (and_from _ _ (and_from _ _ name (not_from_false _ facts.name)) align) facts.kind) writable) filled) (section_bytes h i)

  pub sections_good : list_all is_section (map (section_of b) (kept_headers b)) ≡ true
  sections_good =
      ap (λ (xs : List ℕ). list_all is_section (map (section_of b) (filter (is_kept b) xs))) (sym (map-id (headers b)))
      ∙ all_good (λ k. k) (is_kept b) (section_of b) is_section 1 (header_count b - 1) (λ h p q k. section_good h (record { behind_null = omega arith; there = omega arith }) k)

header_numbered : (b : List ℕ) (h : ℕ) → IsHeader b h → is_kept b h ≡ true → slice_get (kept_headers b) (section_number b h) ≡ Some h
header_numbered b h i k =
    let plain : filter (is_kept b) (map (λ (j : ℕ). j) (headers b)) ≡ kept_headers b = ap (filter (is_kept b)) (map-id (headers b)) in
    let above = i.behind_null in
    let below = i.there in
    subst (λ (xs : List ℕ). slice_get xs (count_by (λ k. nat_lt k h) xs) ≡ Some h) plain (get_numbered (λ j. j) (is_kept b) 1 (header_count b - 1) h (λ i k l. l) (omega (arith, above)) (omega (arith, above, below)) k)

pub section_there : (b : List ℕ) (h : ℕ) → IsHeader b h → is_kept b h ≡ true → slice_get (map (section_of b) (kept_headers b)) (count_by (λ k. nat_lt k h) (kept_headers b)) ≡ Some (section_of b h)
section_there b h i k =
    get_map (section_of b) (kept_headers b) _ h (header_numbered b h i k)

-- sections that are kept have different numbers
pub number_tells : (b : List ℕ) (x y : ℕ) → IsHeader b x → is_kept b x ≡ true → IsHeader b y → is_kept b y ≡ true → section_number b x ≡ section_number b y → x ≡ y
number_tells b x y i k j m e = same_Some x y (sym (header_numbered b x i k) ∙ ap (slice_get (kept_headers b)) e ∙ header_numbered b y j m)
