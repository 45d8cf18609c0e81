-- Lists of flags over the numbers from one on.
use Rattle.std.proofs.Common.{◌≡◌, ◌≤◌, ◌<◌, ℕ, zero, suc, ◌+◌, ◌-◌, ◌*◌, ◌/◌, Bool, true, false, cond, ◌||◌, List, [], ◌∷◌, ◌++◌, get_or, append_assoc, refl, sym, ap, ◌∙◌, subst, inl, inr, arith, map, filter}
use Rattle.std.specs.Prelude.{find, ◌==◌, None, Some}
use Rattle.std.specs.List.{list_any}
use Rattle.std.proofs.lemmas.Bool.{cases_eq, eq-eqb, ne_eqb}
use Rattle.std.proofs.lemmas.List.{map-append}
use Rattle.elf_model.specs.Constants.{undefined_index, absolute_index}
use Rattle.elf_model.specs.Fields.{half_at}
use Rattle.elf_model.specs.Files.{from, header, header_count, is_kept, is_kept_symbol, symbol_table, symbol_places}
use Rattle.elf_model.proofs.Lists.{from-append, find_from, map-map}
use Rattle.elf_read.specs.Faults.{IsHeader}
use Rattle.elf_read.specs.Keeping.{kept_flags, symbol_flags, flag_at}

pub from_more : (first n : ℕ) → from first (n + 1) ≡ from first n ++ (first + n) ∷ []
from_more first n = from-append first n 1

-- one more number from one on
pub made_more : {X : Type 0} (f : ℕ → X) (h : ℕ) → 1 ≤ h → map f (from 1 ((h + 1) - 1)) ≡ map f (from 1 (h - 1)) ++ f h ∷ []
made_more f h l =
    let a : (h + 1) - 1 ≡ (h - 1) + 1 = omega arith in
    let b : 1 + (h - 1) ≡ h = omega arith in
    ap (λ (n : ℕ). map f (from 1 n)) a ∙ ap (map f) (from_more 1 (h - 1)) ∙ map-append f (from 1 (h - 1)) ((1 + (h - 1)) ∷ [])
    ∙ ap (λ (k : ℕ). map f (from 1 (h - 1)) ++ f k ∷ []) b

none_below : (p : ℕ → Bool) (first n i : ℕ) → i < first → list_any (λ h. i == h) (filter p (from first n)) ≡ false
none_below p first zero i l = refl
none_below p first (suc n) i l = go (none_below p (first + 1) n i (omega arith)) (p first)
  where
    go : list_any (λ h. i == h) (filter p (from (first + 1) n)) ≡ false → (t : Bool) → list_any (λ h. i == h) (cond t (first ∷ filter p (from (first + 1) n)) (filter p (from (first + 1) n))) ≡ false
    go rest true = ap (λ (t : Bool). t || list_any (λ h. i == h) (filter p (from (first + 1) n))) (ne_eqb i first (λ e. omega (arith, e, l))) ∙ rest
    go rest false = rest

any_kept : (p : ℕ → Bool) (first n i j : ℕ) → i ≡ first + j → list_any (λ h. i == h) (filter p (from first n)) ≡ get_or (map p (from first n)) j false
any_kept p first zero i j e = refl
any_kept p first (suc n) i zero e =
    let same : i ≡ first = omega arith in
    go same (p first)
  where
    go : i ≡ first → (t : Bool) → list_any (λ h. i == h) (cond t (first ∷ filter p (from (first + 1) n)) (filter p (from (first + 1) n))) ≡ t
    go same true = ap (λ (t : Bool). t || list_any (λ h. i == h) (filter p (from (first + 1) n))) (eq-eqb i first same)
    go same false = none_below p (first + 1) n i (omega (arith, same))
any_kept p first (suc n) i (suc j) e = go (any_kept p (first + 1) n i j (omega arith)) (p first)
  where
    go : list_any (λ h. i == h) (filter p (from (first + 1) n)) ≡ get_or (map p (from (first + 1) n)) j false → (t : Bool) → list_any (λ h. i == h) (cond t (first ∷ filter p (from (first + 1) n)) (filter p (from (first + 1) n))) ≡ get_or (map p (from (first + 1) n)) j false
    go rest true = ap (λ (t : Bool). t || list_any (λ h. i == h) (filter p (from (first + 1) n))) (ne_eqb i first (λ s. omega (arith, s, e))) ∙ rest
    go rest false = rest

-- whether a number is among those that pass
pub any_flag : (p : ℕ → Bool) (n i : ℕ) → list_any (λ h. i == h) (filter p (from 1 n)) ≡ get_or (false ∷ map p (from 1 n)) i false
any_flag p n zero = none_below p 1 n 0 (omega arith)
any_flag p n (suc i) = any_kept p 1 n (suc i) i (omega arith)

pub kept_symbol_is : (b : List ℕ) (e : ℕ) → is_kept_symbol b e ≡ ((half_at b (e + 14) == undefined_index) || ((half_at b (e + 14) == absolute_index) || flag_at (kept_flags b) (half_at b (e + 14))))
kept_symbol_is b e = ap (λ (t : Bool). (half_at b (e + 14) == undefined_index) || ((half_at b (e + 14) == absolute_index) || t)) (any_flag (is_kept b) _ (half_at b (e + 14)))

-- the first number from one on that passes
pub find_one : (p : ℕ → Bool) (n h : ℕ) → 1 ≤ h → h - 1 < n → p h ≡ true → ((k : ℕ) → 1 ≤ k → k < h → p k ≡ false) → find p (from 1 n) ≡ Some h
find_one p n h l u y a =
    let same : 1 + (h - 1) ≡ h = omega arith in
    find_from p 1 n (h - 1) u (subst (λ (k : ℕ). p k ≡ true) (sym same) y) (λ k b d. a k b (omega arith)) ∙ ap (λ (k : ℕ). Some k) same

pub find_none : (p : ℕ → Bool) (first n : ℕ) → ((k : ℕ) → first ≤ k → k < first + n → p k ≡ false) → find p (from first n) ≡ None
find_none p first zero a = refl
find_none p first (suc n) a =
    let one : p first ≡ false = a first (omega arith) (omega arith) in
    ap (λ (t : Bool). cond t (Some first) (find p (from (first + 1) n))) one ∙ find_none p (first + 1) n (λ k b u. a k (omega arith) (omega arith))

-- one number more of which nothing holds
pub none_more : (P : ℕ → Type 0) (h : ℕ) → ((k : ℕ) → 1 ≤ k → k < h → P k) → P h → (k : ℕ) → 1 ≤ k → k < h + 1 → P k
none_more P h a here k l u = elim (cases_eq k h) [ inl e ↦ subst P (sym e) here | inr n ↦ a k l (omega (arith, n)) ]

-- one more element is made
pub push_made : {X : Type 0} (f : ℕ → X) (h : ℕ) (pre old new : List X) (x : X) → 1 ≤ h → new ≡ old ++ x ∷ [] → old ≡ pre ++ map f (from 1 (h - 1)) → x ≡ f h → new ≡ pre ++ map f (from 1 ((h + 1) - 1))
push_made f h pre old new x l n o e =
    n ∙ ap (λ (xs : List _). xs ++ x ∷ []) o ∙ ap (λ (y : _). (pre ++ map f (from 1 (h - 1))) ++ y ∷ []) e ∙ append_assoc pre (map f (from 1 (h - 1))) (f h ∷ [])
    ∙ ap (λ (xs : List _). pre ++ xs) (sym (made_more f h l))

pub no_symbol_flags : (b : List ℕ) → symbol_table b ≡ None → false ∷ [] ≡ symbol_flags b
no_symbol_flags b e = ap (λ (t : _). false ∷ map (is_kept_symbol b) (symbol_places b t)) (sym e)

pub some_symbol_flags : (b : List ℕ) (t : ℕ) → symbol_table b ≡ Some t → (false ∷ []) ++ map (λ k. is_kept_symbol b ((header b t).offset + 16 * k)) (from 1 ((header b t).size / 16 - 1)) ≡ symbol_flags b
some_symbol_flags b t e =
    ap (λ (xs : List Bool). false ∷ xs) (sym (map-map (is_kept_symbol b) (λ k. (header b t).offset + 16 * k) (from 1 ((header b t).size / 16 - 1))))
    ∙ ap (λ (t : _). false ∷ map (is_kept_symbol b) (symbol_places b t)) (sym e)

pub symbol_flags_made : (b : List ℕ) (t at n : ℕ) (new old first : List Bool) → new ≡ old ++ map (λ k. is_kept_symbol b (at + 16 * k)) (from 1 (n - 1)) → old ≡ first ++ false ∷ [] → first ≡ []
    → at ≡ (header b t).offset → n ≡ (header b t).size / 16 → symbol_table b ≡ Some t → new ≡ symbol_flags b
symbol_flags_made b t at n new old first made o f place many found =
    made ∙ ap (λ (xs : List Bool). xs ++ map (λ k. is_kept_symbol b (at + 16 * k)) (from 1 (n - 1))) (o ∙ ap (λ (xs : List Bool). xs ++ false ∷ []) f)
    ∙ ap (λ (p : ℕ). (false ∷ []) ++ map (λ k. is_kept_symbol b (p + 16 * k)) (from 1 (n - 1))) place
    ∙ ap (λ (m : ℕ). (false ∷ []) ++ map (λ k. is_kept_symbol b ((header b t).offset + 16 * k)) (from 1 (m - 1))) many ∙ some_symbol_flags b t found

get_made : {X : Type 0} (f : ℕ → X) (first n j : ℕ) (d : X) → j < n → get_or (map f (from first n)) j d ≡ f (first + j)
get_made f first zero j d l = absurd (omega arith)
get_made f first (suc n) zero d l = let s : first ≡ first + 0 = omega arith in ap f s
get_made f first (suc n) (suc j) d l = let s : (first + 1) + j ≡ first + suc j = omega arith in get_made f (first + 1) n j d (omega arith) ∙ ap f s

pub flag_made : (p : ℕ → Bool) (n i : ℕ) → 0 < i → i < n → get_or (false ∷ map p (from 1 (n - 1))) i false ≡ p i
flag_made p n zero l u = absurd (omega arith)
flag_made p n (suc i) l u = let s : 1 + i ≡ suc i = omega arith in get_made p 1 (n - 1) i false (omega arith) ∙ ap p s

-- the flag of a header
pub flag_is : (b : List ℕ) (h : ℕ) → IsHeader b h → flag_at (kept_flags b) h ≡ is_kept b h
flag_is b h i = flag_made (is_kept b) (header_count b) h i.behind_null i.there
