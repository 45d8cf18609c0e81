-- What names stand for, and which are defined twice.
use Rattle.std.proofs.Common.{◌≡◌, ◌≤◌, ◌<◌, ℕ, ◌+◌, Bool, true, false, cond, List, [], ◌∷◌, length, take, get_or, map, refl, sym, ap, ◌∙◌, subst, inl, inr, arith, Option, Some, None}
use Rattle.std.specs.Prelude.{◌⊎◌, Contains, find, filter, nat_eq, nat_lt, ◌==◌, ◌&&◌, not, option_map, is_some}
use Rattle.std.specs.Option.{option_or, option_copied}
use Rattle.std.specs.Borrow.{Bor}
use Rattle.std.proofs.lemmas.Bool.{and_parts, and_from, cases_Bool, cases_eq, cases_lt, eqb-true, eq-eqb, ne_eqb, ltb-true, lt-ltb, both_ways}
use Rattle.std.proofs.lemmas.Option.{none-some}
use Rattle.std.proofs.lemmas.List.{map-append}
use Rattle.std.proofs.lemmas.List.Folds.{find-append}
use Rattle.std.proofs.lemmas.List.Elements.{filter-append}
use Rattle.elf_model.specs.Fields.{same_name}
use Rattle.elf_model.specs.Objects.{ObjectParts}
use Rattle.elf_model.proofs.Elements.{contains_filter, filter_contains, found, finds}
use Rattle.thumb_table.specs.Names.{Defined, all_symbols, globals}
use Rattle.thumb_table.specs.LinkFaults.{StandsBefore, IsSecond, home_section}
use Rattle.flat_link.specs.declared.known.Known.{Known}
use Rattle.flat_link.specs.declared.names.Binding.{Binding}
use Rattle.flat_link.specs.declared.names.Binding.TheVariants.{Global}
use Rattle.flat_link.specs.Known.{defined_of, is_bound, is_lower, lower, IsNotBehind, IsLowest, IsFirstSecond}
use Rattle.flat_link.proofs.ListFacts.{taken, found_first, order_filter}
use Rattle.flat_link.proofs.SymbolFacts.{symbols_rise}

pub or_none : {X : Type 0} (a : Option X) → option_or a None ≡ a
or_none None = refl
or_none (Some x) = refl

pub eqb_flip : (m n : ℕ) → nat_eq m n ≡ nat_eq n m
eqb_flip m n =
    elim (cases_eq m n) [
      | inl y ↦ eq-eqb m n y ∙ sym (eq-eqb n m (sym y))
      | inr d ↦ ne_eqb m n d ∙ sym (ne_eqb n m (λ e. d (sym e)))
    ]

pub same_name_flip : (a b : List ℕ) → same_name a b ≡ same_name b a
same_name_flip [] [] = refl
same_name_flip [] (y ∷ ys) = refl
same_name_flip (x ∷ xs) [] = refl
same_name_flip (x ∷ xs) (y ∷ ys) = ap (λ (t : Bool). t && same_name xs ys) (eqb_flip x y) ∙ ap (λ (t : Bool). nat_eq y x && t) (same_name_flip xs ys)

pub same_name_is : (a b : List ℕ) → same_name a b ≡ true → a ≡ b
same_name_is [] [] h = refl
same_name_is [] (y ∷ ys) h = absurd (cc)
same_name_is (x ∷ xs) [] h = absurd (cc)
same_name_is (x ∷ xs) (y ∷ ys) h =
    let p = and_parts (nat_eq x y) (same_name xs ys) h in
    ap (λ (t : ℕ). t ∷ xs) (eqb-true x y p.0) ∙ ap (λ (t : List ℕ). y ∷ t) (same_name_is xs ys p.1)

pub same_name_self : (a : List ℕ) → same_name a a ≡ true
same_name_self [] = refl
same_name_self (x ∷ xs) = and_from (nat_eq x x) (same_name xs xs) (eq-eqb x x refl) (same_name_self xs)

-- Which of two is one of the symbols.
abbrev is_same : Defined → Defined → Bool
is_same d e = (d.object == e.object) && (d.index == e.index)

pub not_itself : (d e : Defined) → StandsBefore d e → ((d.object == e.object) && (d.index == e.index)) ≡ false
not_itself d e h =
    elim (cases_Bool (is_same d e)) [
      | inl y ↦
          let p = and_parts (d.object == e.object) (d.index == e.index) y in
          let a : d.object ≡ e.object = eqb-true d.object e.object p.0 in
          let b : d.index ≡ e.index = eqb-true d.index e.index p.1 in
          absurd (elim h [ inl l ↦ omega arith | inr q ↦ let l = q.1 in omega arith ])
      | inr n ↦ n
    ]

module _ (objects : List ObjectParts) where
  -- the first global definition of a name, and another one
  pub second_from : (d f : Defined) → Contains (all_symbols 0 objects) d → is_bound Global d.symbol ≡ true → find (λ (e : Defined). same_name e.symbol.name d.symbol.name) (globals objects) ≡ Some f
      → ((f.object == d.object) && (f.index == d.index)) ≡ false → IsSecond objects d
  second_from d f c b e other =
      let there = filter_contains (λ (q : Defined). is_bound Global q.symbol) (all_symbols 0 objects) d c b in
      let g = found (λ (q : Defined). same_name q.symbol.name d.symbol.name) (globals objects) f e in
      elim (found_first StandsBefore (λ (q : Defined). same_name q.symbol.name d.symbol.name) (globals objects) f d
      (order_filter StandsBefore (λ (q : Defined). is_bound Global q.symbol) (all_symbols 0 objects) (symbols_rise 0 objects)) e there (same_name_self d.symbol.name)) [
        | inl same ↦
            let i : f.object ≡ d.object = ap (λ (q : Defined). q.object) same in
            let k : f.index ≡ d.index = ap (λ (q : Defined). q.index) same in
            absurd (both_ways ((f.object == d.object) && (f.index == d.index)) other (and_from (f.object == d.object) (f.index == d.index) (eq-eqb f.object d.object i) (eq-eqb f.index d.index k)))
        | inr before ↦ record { earlier = f; is = there; was = g.0; named = same_name_is f.symbol.name d.symbol.name g.1; before = before }
      ]

  pub second_found : (d : Defined) → IsSecond objects d → (f : Defined) × (find (λ (e : Defined). same_name e.symbol.name d.symbol.name) (globals objects) ≡ Some f)
      × (((f.object == d.object) && (f.index == d.index)) ≡ false) × (is_bound Global d.symbol ≡ true)
  second_found d h =
      let p : Defined → Bool = λ q. same_name q.symbol.name d.symbol.name in
      let same : p h.earlier ≡ true = subst (λ (n : List ℕ). same_name h.earlier.symbol.name n ≡ true) h.named (same_name_self h.earlier.symbol.name) in
      let f = finds p (globals objects) h.earlier h.was same in
      let order = order_filter StandsBefore (λ (q : Defined). is_bound Global q.symbol) (all_symbols 0 objects) (symbols_rise 0 objects) in
      let b : is_bound Global d.symbol ≡ true = (contains_filter (λ (q : Defined). is_bound Global q.symbol) (all_symbols 0 objects) d h.is).1 in
      let before : StandsBefore f.0 d = elim (found_first StandsBefore p (globals objects) f.0 h.earlier order f.1 h.was same) [
        | inl e ↦ subst (λ (q : Defined). StandsBefore q d) (sym e) h.before
        | inr r ↦ along f.0 h.earlier d r h.before
      ] in
      (f.0, f.1, not_itself f.0 d before, b)
    where
      along : (a b c : Defined) → StandsBefore a b → StandsBefore b c → StandsBefore a c
      along a b c (inl x) (inl y) = inl (omega arith)
      along a b c (inl x) (inr y) = let e = y.0 in inl (omega arith)
      along a b c (inr x) (inl y) = let e = x.0 in inl (omega arith)
      along a b c (inr x) (inr y) = let e = x.0 in let f = y.0 in let g = x.1 in let h = y.1 in inr (e ∙ f, omega arith)

  pub first_only : (d : Defined) → find (λ (e : Defined). same_name e.symbol.name d.symbol.name) (globals objects) ≡ None → IsSecond objects d → ⊥
  first_only d e h = let s = second_found d h in none-some s.0 (sym e ∙ s.1)

-- One more symbol, which stands behind those before.
module _ (objects : List ObjectParts) (among : List Defined) (k : Known) (later : (d : Defined) → Contains among d → StandsBefore d (defined_of k)) where
  pub second_no : (first : Option Known) (more : List Defined) → (IsSecond objects (defined_of k) → ⊥) → ((e : Defined) → Contains more e → Contains among e ⊎ (defined_of k ≡ e))
      → ((e : Defined) → Contains among e → Contains more e) → IsFirstSecond objects among first → IsFirstSecond objects more first
  second_no None more never split join h = λ e c s. elim (split e c) [ inl a ↦ h e a s | inr q ↦ never (subst (λ (z : Defined). IsSecond objects z) (sym q) s) ]
  second_no (Some f) more never split join h = record {
    there = join (defined_of f) h.there;
    second = h.second;
    lowest = λ e c s. elim (split e c) [ inl a ↦ h.lowest e a s | inr q ↦ absurd (never (subst (λ (z : Defined). IsSecond objects z) (sym q) s)) ];
  }

  not_behind : (f e : Defined) → StandsBefore f (defined_of k) → (f.object ≡ k.object → home_section f.symbol.home ≤ home_section k.symbol.now.home) → IsNotBehind f (defined_of k)
  not_behind f e (inl l) low = inl l
  not_behind f e (inr q) low =
      let l = low q.0 in
      let i = q.1 in
      elim (cases_lt (home_section f.symbol.home) (home_section k.symbol.now.home)) [ inl a ↦ inr (q.0, inl a) | inr b ↦ inr (q.0, inr (omega arith, omega arith)) ]

  lower_one : (f e : Defined) → IsNotBehind f e → StandsBefore e (defined_of k) → k.object ≡ f.object → home_section k.symbol.now.home < home_section f.symbol.home → IsNotBehind (defined_of k) e
  lower_one f e (inl a) (inl b) o l = absurd (omega arith)
  lower_one f e (inl a) (inr b) o l = let p = b.0 in absurd (omega arith)
  lower_one f e (inr a) (inl b) o l = let p = a.0 in absurd (omega arith)
  lower_one f e (inr a) (inr b) o l = let p = a.0 in elim (a.1) [ inl x ↦ inr (o ∙ p, inl (omega arith)) | inr x ↦ let y = x.0 in inr (o ∙ p, inl (omega arith)) ]

  itself : IsNotBehind (defined_of k) (defined_of k)
  itself = inr (refl, inr (refl, omega arith))

  pub second_yes : (first : Option Known) (more : List Defined) → IsSecond objects (defined_of k) → Contains more (defined_of k) → ((e : Defined) → Contains more e → Contains among e ⊎ (defined_of k ≡ e))
      → ((e : Defined) → Contains among e → Contains more e) → IsFirstSecond objects among first → IsFirstSecond objects more (Some (lower first k))
  second_yes None more is there split join h = record {
    there = there;
    second = is;
    lowest = λ e c s. elim (split e c) [ inl a ↦ absurd (h e a s) | inr q ↦ subst (λ (z : Defined). IsNotBehind (defined_of k) z) q itself ];
  }
  second_yes (Some f) more is there split join h =
      elim (cases_Bool (is_lower k f)) [
        | inl y ↦
            let p = and_parts (k.object == f.object) (nat_lt (home_section k.symbol.now.home) (home_section f.symbol.now.home)) y in
            let o : k.object ≡ f.object = eqb-true k.object f.object p.0 in
            let l : home_section k.symbol.now.home < home_section f.symbol.now.home = ltb-true _ _ p.1 in
            subst (λ (b : Bool). IsLowest objects more (defined_of (cond b k f))) (sym y) (record {
              there = there;
              second = is;
              lowest = λ e c s. elim (split e c) [
                | inl a ↦ lower_one (defined_of f) e (h.lowest e a s) (later e a) o l
                | inr q ↦ subst (λ (z : Defined). IsNotBehind (defined_of k) z) q itself
              ];
            })
        | inr n ↦
            subst (λ (b : Bool). IsLowest objects more (defined_of (cond b k f))) (sym n) (record {
              there = join (defined_of f) h.there;
              second = h.second;
              lowest = λ e c s. elim (split e c) [
                | inl a ↦ h.lowest e a s
                | inr q ↦ subst (λ (z : Defined). IsNotBehind (defined_of f) z) q (not_behind (defined_of f) e (later (defined_of f) h.there) (low n))
              ];
            })
      ]
    where
      low : is_lower k f ≡ false → f.object ≡ k.object → home_section f.symbol.now.home ≤ home_section k.symbol.now.home
      low n o =
          elim (cases_lt (home_section k.symbol.now.home) (home_section f.symbol.now.home)) [
            | inl l ↦ absurd (both_ways (is_lower k f) n (and_from (k.object == f.object) _ (eq-eqb k.object f.object (sym o)) (lt-ltb _ _ l)))
            | inr g ↦ g
          ]

-- a name that had no definition gets this one
pub note_new : (m n : List ℕ) (old : List ℕ → Option Known) (k : Known) (new : Option Known) → new ≡ cond (same_name m n) (Some k) (old n) → old m ≡ None → new ≡ option_or (old n) (cond (same_name m n) (Some k) None)
note_new m n old k new e none =
    elim (cases_Bool (same_name m n)) [
      | inl y ↦
          let same : m ≡ n = same_name_is m n y in
          let empty : old n ≡ None = subst (λ (x : List ℕ). old x ≡ None) same none in
          e ∙ ap (λ (b : Bool). cond b (Some k) (old n)) y ∙ sym (ap (λ (o : Option Known). option_or o (cond (same_name m n) (Some k) None)) empty ∙ ap (λ (b : Bool). cond b (Some k) None) y)
      | inr d ↦ e ∙ ap (λ (b : Bool). cond b (Some k) (old n)) d ∙ sym (ap (λ (b : Bool). option_or (old n) (cond b (Some k) None)) d ∙ or_none (old n))
    ]

-- a name that had one keeps it
pub note_old : (m n : List ℕ) (old : List ℕ → Option Known) (k f : Known) → old m ≡ Some f → old n ≡ option_or (old n) (cond (same_name m n) (Some k) None)
note_old m n old k f some =
    elim (cases_Bool (same_name m n)) [
      | inl y ↦
          let full : old n ≡ Some f = subst (λ (x : List ℕ). old x ≡ Some f) (same_name_is m n y) some in
          full ∙ sym (ap (λ (o : Option Known). option_or o (cond (same_name m n) (Some k) None)) full)
      | inr d ↦ sym (ap (λ (b : Bool). option_or (old n) (cond b (Some k) None)) d ∙ or_none (old n))
    ]

pub map_or : {X Y : Type 0} (f : X → Y) (a b : Option X) → option_map f (option_or a b) ≡ option_or (option_map f a) (option_map f b)
map_or f None b = refl
map_or f (Some x) b = refl

-- one more element that may be found
pub find_more : {X Y : Type 0} (p q : Y → Bool) (f : X → Y) (xs : List X) (i : ℕ) (x : X) → i < length xs → x ≡ get_or xs i x
    → find p (filter q (map f (take (i + 1) xs))) ≡ option_or (find p (filter q (map f (take i xs)))) (cond (q (f x)) (cond (p (f x)) (Some (f x)) None) None)
find_more {X} {Y} p q f xs i x l e =
    ap (λ (t : List X). find p (filter q (map f t))) (taken xs i x l e)
    ∙ ap (λ (t : List Y). find p (filter q t)) (map-append f (take i xs) (x ∷ []))
    ∙ ap (λ (t : List Y). find p t) (filter-append q (map f (take i xs)) (f x ∷ []))
    ∙ find-append p (filter q (map f (take i xs))) (filter q (f x ∷ []))
    ∙ ap (λ (o : Option Y). option_or (find p (filter q (map f (take i xs)))) o) (one (q (f x)))
  where
    one : (b : Bool) → find p (cond b (f x ∷ []) []) ≡ cond b (cond (p (f x)) (Some (f x)) None) None
    one true = refl
    one false = refl

pub is_none_copied : {X : Type 0} (o : Option (Bor X)) (b : Bool) → is_some o ≡ not b → b ≡ true → option_copied o ≡ None
is_none_copied None b e h = refl
is_none_copied (Some x) b e h = let f : true ≡ false = e ∙ ap not h in absurd (cc)

-- the first definition of a name among one symbol more
pub first_more : (b : Binding) (n : List ℕ) (all : List Known) (i : ℕ) (k : Known) (old new : Option Known) → i < length all → k ≡ get_or all i k → is_bound b k.symbol.now ≡ true
    → new ≡ option_or old (cond (same_name k.symbol.now.name n) (Some k) None) → option_map defined_of old ≡ find (λ (d : Defined). same_name d.symbol.name n) (filter (λ (d : Defined). is_bound b d.symbol) (map defined_of (take i all)))
    → option_map defined_of new ≡ find (λ (d : Defined). same_name d.symbol.name n) (filter (λ (d : Defined). is_bound b d.symbol) (map defined_of (take (i + 1) all)))
first_more b n all i k old new l e y h was =
    let p : Defined → Bool = λ d. same_name d.symbol.name n in
    let q : Defined → Bool = λ d. is_bound b d.symbol in
    let rest : Option Defined = find p (filter q (map defined_of (take i all))) in
    ap (option_map defined_of) h ∙ map_or defined_of old (cond (same_name k.symbol.now.name n) (Some k) None)
    ∙ ap (λ (o : Option Defined). option_or o (option_map defined_of (cond (same_name k.symbol.now.name n) (Some k) None))) was
    ∙ ap (λ (o : Option Defined). option_or rest o) (inner (same_name k.symbol.now.name n))
    ∙ ap (λ (c : Bool). option_or rest (cond c (cond (p (defined_of k)) (Some (defined_of k)) None) None)) (sym y)
    ∙ sym (find_more p q defined_of all i k l e)
  where
    inner : (c : Bool) → option_map defined_of (cond c (Some k) None) ≡ cond c (Some (defined_of k)) None
    inner true = refl
    inner false = refl

pub first_less : (b : Binding) (n : List ℕ) (all : List Known) (i : ℕ) (k : Known) (old : Option Known) → i < length all → k ≡ get_or all i k → is_bound b k.symbol.now ≡ false
    → option_map defined_of old ≡ find (λ (d : Defined). same_name d.symbol.name n) (filter (λ (d : Defined). is_bound b d.symbol) (map defined_of (take i all)))
    → option_map defined_of old ≡ find (λ (d : Defined). same_name d.symbol.name n) (filter (λ (d : Defined). is_bound b d.symbol) (map defined_of (take (i + 1) all)))
first_less b n all i k old l e f was =
    let p : Defined → Bool = λ d. same_name d.symbol.name n in
    let q : Defined → Bool = λ d. is_bound b d.symbol in
    let rest : Option Defined = find p (filter q (map defined_of (take i all))) in
    was ∙ sym (or_none rest) ∙ ap (λ (c : Bool). option_or rest (cond c (cond (p (defined_of k)) (Some (defined_of k)) None) None)) (sym f) ∙ sym (find_more p q defined_of all i k l e)
