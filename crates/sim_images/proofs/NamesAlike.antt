-- A name means counterparts in the plain and in the hardened list.
use Rattle.std.specs.Prelude.{◌≡◌, ◌<◌, ◌⊎◌, ℕ, zero, suc, ◌+◌, ◌-◌, ◌==◌, ◌&&◌, ◌||◌, not, Bool, true, false, cond, List, [], ◌∷◌, ◌++◌, length, drop, filter, find, Some, slice_get, refl}
use Rattle.std.specs.List.{list_any, list_all, count_by}
use Rattle.std.proofs.Common.{arith, inl, inr, ap, sym, ◌∙◌, subst}
use Rattle.std.proofs.lemmas.Bool.{cases_Bool, both_ways, and_parts, eqb-true, not-true}
use Rattle.std.proofs.lemmas.List.Elements.{filter-append}
use Rattle.std.proofs.lemmas.Option.{none-some, same_Some}
use Rattle.elf_model.proofs.Lists.{count_cons}
use Rattle.elf_model.specs.declared.objects.Symbol.{Symbol}
use Rattle.elf_model.specs.declared.objects.Home.{Home}
use Rattle.elf_model.specs.Constants.{local, global, weak}
use Rattle.elf_model.specs.Fields.{same_name}
use Rattle.elf_model.specs.Objects.{ObjectParts, is_object, locals_first}
use Rattle.thumb_table.specs.Names.{Defined, numbered, all_symbols, is_defined, globals, weaks, resolved}
use Rattle.sim_images.specs.ImageLaws.{AreObjects}
use Rattle.sim_images.specs.Counterparts.{Places, locals, SymbolsAnswer, AreAnswers}
use Rattle.sim_images.specs.PairLaws.{MeantAlike, NamesMeet}

abbrev is_local : Symbol → Bool
is_local s = s.bind == local

-- the first symbols are local, as many as there are local ones
none_counted : (xs : List Symbol) → list_any is_local xs ≡ false → count_by is_local xs ≡ 0
none_counted [] h = refl
none_counted (x ∷ xs) h =
    let c = count_cons is_local x xs in
    elim (cases_Bool (is_local x)) [
      | inl y ↦ absurd (both_ways (is_local x || list_any is_local xs) h (ap (λ (b : Bool). b || list_any is_local xs) y))
      | inr n ↦ c ∙ (ap (λ (b : Bool). cond b (1 + count_by is_local xs) (count_by is_local xs)) n ∙ none_counted xs (sym (ap (λ (b : Bool). b || list_any is_local xs) n) ∙ h))
    ]

first_local : (xs : List Symbol) → locals_first xs ≡ true → (k : ℕ) (s : Symbol) → k < count_by is_local xs → slice_get xs k ≡ Some s → is_local s ≡ true
first_local [] h k s lt e = absurd (none-some s e)
first_local (x ∷ xs) h k s lt e =
    let parts = and_parts (is_local x || not (list_any is_local xs)) (locals_first xs) h in
    let c = count_cons is_local x xs in
    elim (cases_Bool (is_local x)) [
      | inl y ↦
          let n : count_by is_local (x ∷ xs) ≡ 1 + count_by is_local xs = c ∙ ap (λ (b : Bool). cond b (1 + count_by is_local xs) (count_by is_local xs)) y in
          go k lt e y n (first_local xs parts.1)
      | inr n ↦
          let rest : list_any is_local xs ≡ false = not-true (list_any is_local xs) (sym (ap (λ (b : Bool). b || not (list_any is_local xs)) n) ∙ parts.0) in
          let m : count_by is_local (x ∷ xs) ≡ count_by is_local xs = c ∙ ap (λ (b : Bool). cond b (1 + count_by is_local xs) (count_by is_local xs)) n in
          let z = none_counted xs rest in
          absurd (omega arith)
    ]
  where
    go : (k : ℕ) → k < count_by is_local (x ∷ xs) → slice_get (x ∷ xs) k ≡ Some s → is_local x ≡ true → count_by is_local (x ∷ xs) ≡ 1 + count_by is_local xs
        → ((k : ℕ) (s : Symbol) → k < count_by is_local xs → slice_get xs k ≡ Some s → is_local s ≡ true) → is_local s ≡ true
    go zero lt e y n rest = subst (λ (z : Symbol). is_local z ≡ true) (same_Some x s e) y
    go (suc k) lt e y n rest = rest k s (omega arith) e

get_drop : {X : Type 0} (m : ℕ) (xs : List X) (n : ℕ) → slice_get (drop m xs) n ≡ slice_get xs (m + n)
get_drop zero xs n = ap (λ (k : ℕ). slice_get xs k) (let e : n ≡ 0 + n = omega arith in e)
get_drop (suc m) [] n = refl
get_drop (suc m) (x ∷ xs) n =
    let e : suc m + n ≡ suc (m + n) = omega arith in
    get_drop m xs n ∙ sym (ap (λ (k : ℕ). slice_get (x ∷ xs) k) e)

length_drop : {X : Type 0} (m : ℕ) (xs : List X) → length (drop m xs) ≡ length xs - m
length_drop zero xs = let e : length xs ≡ length xs - 0 = omega arith in e
length_drop (suc m) [] = let e : 0 ≡ 0 - suc m = omega arith in e
length_drop (suc m) (x ∷ xs) = let e : length xs - m ≡ suc (length xs) - suc m = omega arith in length_drop m xs ∙ e

firsts : (q : ObjectParts) → is_object q ≡ true → locals_first q.symbols ≡ true
firsts q h =
    let a = and_parts _ _ h in
    let b = and_parts _ _ a.0 in
    let c = and_parts _ _ b.0 in
    (and_parts _ _ c.0).1

in_list : {X : Type 0} (xs : List X) (n : ℕ) (x : X) → slice_get xs n ≡ Some x → n < length xs
in_list [] n x e = absurd (none-some x e)
in_list (y ∷ ys) zero x e = omega arith
in_list (y ∷ ys) (suc n) x e = let r = in_list ys n x e in omega arith

abbrev defined_at : ℕ → ℕ → Symbol → Defined
defined_at i k s = record { object = i; index = k; symbol = s }

-- what no sort takes at the head of a list goes
skip : (f : Defined → Bool) (i k m : ℕ) (xs : List Symbol) → ((n : ℕ) (s : Symbol) → n < m → slice_get xs n ≡ Some s → f (defined_at i (k + n) s) ≡ false)
    → filter f (numbered i k xs) ≡ filter f (numbered i (k + m) (drop m xs))
skip f i k zero xs h = ap (λ (n : ℕ). filter f (numbered i n xs)) (let e : k ≡ k + 0 = omega arith in e)
skip f i k (suc m) [] h = refl
skip f i k (suc m) (x ∷ xs) h =
    let zero_k : k + 0 ≡ k = omega arith in
    let here : f (defined_at i k x) ≡ false = ap (λ (n : ℕ). f (defined_at i n x)) (sym zero_k) ∙ h 0 x (omega arith) refl in
    let next : k + suc m ≡ (k + 1) + m = omega arith in
    ap (λ (b : Bool). cond b (defined_at i k x ∷ filter f (numbered i (k + 1) xs)) (filter f (numbered i (k + 1) xs))) here
    ∙ (skip f i (k + 1) m xs (λ n s l e. let r : (k + 1) + n ≡ k + suc n = omega arith in ap (λ (z : ℕ). f (defined_at i z s)) r ∙ h (suc n) s (omega arith) e)
    ∙ ap (λ (n : ℕ). filter f (numbered i n (drop m xs))) (sym next))

module _ (ins outs : List ObjectParts) (moved : ℕ → Places) where
  pub record Twin (d e : Defined) : Type 0 where
    pub name : e.symbol.name ≡ d.symbol.name
    pub bind : e.symbol.bind ≡ d.symbol.bind
    pub home : e.symbol.home ≡ d.symbol.home
    pub alike : MeantAlike ins outs moved d e

  pub data Twins : List Defined → List Defined → Type 0 where
    none : Twins [] []
    some : (d e : Defined) (ds es : List Defined) → Twin d e → Twins ds es → Twins (d ∷ ds) (e ∷ es)

  both : (a b c d : List Defined) → Twins a b → Twins c d → Twins (a ++ c) (b ++ d)
  both _ _ c d none h = h
  both _ _ c d (some p q ps qs e more) h = some p q (ps ++ c) (qs ++ d) e (both ps qs c d more h)

  filtered : (f : Defined → Bool) → ((d e : Defined) → Twin d e → f e ≡ f d) → (ds es : List Defined) → Twins ds es → Twins (filter f ds) (filter f es)
  filtered f same _ _ none = none
  filtered f same _ _ (some d e ds es t more) =
      elim (cases_Bool (f d)) [
        | inl y ↦
            subst (λ (l : List Defined). Twins l (filter f (e ∷ es))) (sym (ap (λ (c : Bool). cond c (d ∷ filter f ds) (filter f ds)) y))
            (subst (λ (l : List Defined). Twins (d ∷ filter f ds) l) (sym (ap (λ (c : Bool). cond c (e ∷ filter f es) (filter f es)) (same d e t ∙ y)))
            (some d e (filter f ds) (filter f es) t (filtered f same ds es more)))
        | inr n ↦
            subst (λ (l : List Defined). Twins l (filter f (e ∷ es))) (sym (ap (λ (c : Bool). cond c (d ∷ filter f ds) (filter f ds)) n))
            (subst (λ (l : List Defined). Twins (filter f ds) l) (sym (ap (λ (c : Bool). cond c (e ∷ filter f es) (filter f es)) (same d e t ∙ n)))
            (filtered f same ds es more))
      ]

  find_twin : (f : Defined → Bool) → ((d e : Defined) → Twin d e → f e ≡ f d) → (ds es : List Defined) → Twins ds es → (d : Defined) → find f ds ≡ Some d → (e : Defined) × (find f es ≡ Some e) × Twin d e
  find_twin f same _ _ none d h = absurd (none-some d h)
  find_twin f same _ _ (some x y ds es t more) d h =
      elim (cases_Bool (f x)) [
        | inl a ↦
            let one : x ≡ d = same_Some x d (sym (ap (λ (c : Bool). cond c (Some x) (find f ds)) a) ∙ h) in
            (y, ap (λ (c : Bool). cond c (Some y) (find f es)) (same x y t ∙ a), subst (λ (z : Defined). Twin z y) one t)
        | inr n ↦
            let r = find_twin f same ds es more d (sym (ap (λ (c : Bool). cond c (Some x) (find f ds)) n) ∙ h) in
            (r.0, ap (λ (c : Bool). cond c (Some y) (find f es)) (same x y t ∙ n) ∙ r.1, r.2)
      ]

  find_back : (f : Defined → Bool) → ((d e : Defined) → Twin d e → f e ≡ f d) → (ds es : List Defined) → Twins ds es → (e : Defined) → find f es ≡ Some e → (d : Defined) × (find f ds ≡ Some d) × Twin d e
  find_back f same _ _ none e h = absurd (none-some e h)
  find_back f same _ _ (some x y ds es t more) e h =
      elim (cases_Bool (f y)) [
        | inl a ↦
            let one : y ≡ e = same_Some y e (sym (ap (λ (c : Bool). cond c (Some y) (find f es)) a) ∙ h) in
            (x, ap (λ (c : Bool). cond c (Some x) (find f ds)) (sym (same x y t) ∙ a), subst (λ (z : Defined). Twin x z) one t)
        | inr n ↦
            let r = find_back f same ds es more e (sym (ap (λ (c : Bool). cond c (Some y) (find f es)) n) ∙ h) in
            (r.0, ap (λ (c : Bool). cond c (Some x) (find f ds)) (sym (same x y t) ∙ n) ∙ r.1, r.2)
      ]

  zipped : (i a b : ℕ) (xs ys : List Symbol) → length ys ≡ length xs → ((n : ℕ) (s t : Symbol) → slice_get xs n ≡ Some s → slice_get ys n ≡ Some t → Twin (defined_at i (a + n) s) (defined_at i (b + n) t))
      → Twins (numbered i a xs) (numbered i b ys)
  zipped i a b [] [] size h = none
  zipped i a b [] (y ∷ ys) size h = absurd (omega arith)
  zipped i a b (x ∷ xs) [] size h = absurd (omega arith)
  zipped i a b (x ∷ xs) (y ∷ ys) size h =
      let za : a + 0 ≡ a = omega arith in
      let zb : b + 0 ≡ b = omega arith in
      some (defined_at i a x) (defined_at i b y) (numbered i (a + 1) xs) (numbered i (b + 1) ys)
      (subst (λ (n : ℕ). Twin (defined_at i a x) (defined_at i n y)) zb (subst (λ (n : ℕ). Twin (defined_at i n x) (defined_at i (b + 0) y)) za (h 0 x y refl refl)))
      (zipped i (a + 1) (b + 1) xs ys (omega arith) (λ n s t e f.
      let ra : a + suc n ≡ (a + 1) + n = omega arith in
      let rb : b + suc n ≡ (b + 1) + n = omega arith in
      subst (λ (m : ℕ). Twin (defined_at i ((a + 1) + n) s) (defined_at i m t)) rb (subst (λ (m : ℕ). Twin (defined_at i m s) (defined_at i (b + suc n) t)) ra (h (suc n) s t e f))))

  -- definitions of a sort that no local symbol has
  pub record IsSort (f : Defined → Bool) : Type 0 where
    pub same : (d e : Defined) → Twin d e → f e ≡ f d
    pub outer : (d : Defined) → is_local d.symbol ≡ true → f d ≡ false

  in_object : (f : Defined → Bool) → IsSort f → (i : ℕ) (o h : ObjectParts) → is_object o ≡ true → is_object h ≡ true → slice_get ins i ≡ Some o → slice_get outs i ≡ Some h → SymbolsAnswer o h (moved i)
      → Twins (filter f (numbered i 0 o.symbols)) (filter f (numbered i 0 h.symbols))
  in_object f is i o h so sh there here answers =
      let zo : 0 + locals o ≡ locals o = omega arith in
      let zh : 0 + locals h ≡ locals h = omega arith in
      let a : filter f (numbered i 0 o.symbols) ≡ filter f (numbered i (locals o) (drop (locals o) o.symbols)) =
      skip f i 0 (locals o) o.symbols (λ n s lt e. is.outer (defined_at i (0 + n) s) (first_local o.symbols (firsts o so) n s lt e)) ∙ ap (λ (k : ℕ). filter f (numbered i k (drop (locals o) o.symbols))) zo in
      let b : filter f (numbered i 0 h.symbols) ≡ filter f (numbered i (locals h) (drop (locals h) h.symbols)) =
      skip f i 0 (locals h) h.symbols (λ n s lt e. is.outer (defined_at i (0 + n) s) (first_local h.symbols (firsts h sh) n s lt e)) ∙ ap (λ (k : ℕ). filter f (numbered i k (drop (locals h) h.symbols))) zh in
      let da = length_drop (locals o) o.symbols in
      let db = length_drop (locals h) h.symbols in
      let number : length o.symbols + locals h ≡ length h.symbols + locals o = answers.number in
      let size : length (drop (locals h) h.symbols) ≡ length (drop (locals o) o.symbols) = omega arith in
      subst (λ (l : List Defined). Twins l (filter f (numbered i 0 h.symbols))) (sym a)
      (subst (λ (l : List Defined). Twins (filter f (numbered i (locals o) (drop (locals o) o.symbols))) l) (sym b)
      (filtered f is.same (numbered i (locals o) (drop (locals o) o.symbols)) (numbered i (locals h) (drop (locals h) h.symbols))
      (zipped i (locals o) (locals h) (drop (locals o) o.symbols) (drop (locals h) h.symbols) size (λ n s t e g.
      let len = in_list (drop (locals o) o.symbols) n s e in
      let lt : n < length o.symbols - locals o = omega arith in
      let c = answers.outer n lt in
      let one : s ≡ c.symbol = same_Some s c.symbol (sym e ∙ (get_drop (locals o) o.symbols n ∙ c.was)) in
      let two : t ≡ c.twin = same_Some t c.twin (sym g ∙ (get_drop (locals h) h.symbols n ∙ c.becomes)) in
      record {
        name = ap (λ (z : Symbol). z.name) two ∙ (c.same.name ∙ sym (ap (λ (z : Symbol). z.name) one));
        bind = ap (λ (z : Symbol). z.bind) two ∙ (c.same.bind ∙ sym (ap (λ (z : Symbol). z.bind) one));
        home = ap (λ (z : Symbol). z.home) two ∙ (c.same.home ∙ sym (ap (λ (z : Symbol). z.home) one));
        alike = record { object = o; twin = h; there = there; here = here; file = refl; same = c };
      }))))

  -- all objects, from number i on
  pub in_objects : (f : Defined → Bool) → IsSort f → (i : ℕ) (os hs : List ObjectParts) → list_all is_object os ≡ true → list_all is_object hs ≡ true → length hs ≡ length os
      → ((n : ℕ) (o h : ObjectParts) → slice_get os n ≡ Some o → slice_get hs n ≡ Some h → (slice_get ins (i + n) ≡ Some o) × (slice_get outs (i + n) ≡ Some h) × SymbolsAnswer o h (moved (i + n)))
      → Twins (filter f (all_symbols i os)) (filter f (all_symbols i hs))
  in_objects f is i [] [] so sh size h = none
  in_objects f is i [] (x ∷ xs) so sh size h = absurd (omega arith)
  in_objects f is i (x ∷ xs) [] so sh size h = absurd (omega arith)
  in_objects f is i (o ∷ os) (q ∷ qs) so sh size h =
      let po = and_parts (is_object o) (list_all is_object os) so in
      let pq = and_parts (is_object q) (list_all is_object qs) sh in
      let first = h 0 o q refl refl in
      let z : i + 0 ≡ i = omega arith in
      let one : Twins (filter f (numbered i 0 o.symbols)) (filter f (numbered i 0 q.symbols)) =
      in_object f is i o q po.0 pq.0 (subst (λ (n : ℕ). slice_get ins n ≡ Some o) z first.0) (subst (λ (n : ℕ). slice_get outs n ≡ Some q) z first.1) (subst (λ (n : ℕ). SymbolsAnswer o q (moved n)) z first.2) in
      let rest : Twins (filter f (all_symbols (i + 1) os)) (filter f (all_symbols (i + 1) qs)) =
      in_objects f is (i + 1) os qs po.1 pq.1 (omega arith) (λ n a b e g.
      let r : i + suc n ≡ (i + 1) + n = omega arith in
      let t = h (suc n) a b e g in
      (subst (λ (m : ℕ). slice_get ins m ≡ Some a) r t.0, subst (λ (m : ℕ). slice_get outs m ≡ Some b) r t.1, subst (λ (m : ℕ). SymbolsAnswer a b (moved m)) r t.2)) in
      subst (λ (l : List Defined). Twins l (filter f (all_symbols i (q ∷ qs)))) (sym (filter-append f (numbered i 0 o.symbols) (all_symbols (i + 1) os)))
      (subst (λ (l : List Defined). Twins (filter f (numbered i 0 o.symbols) ++ filter f (all_symbols (i + 1) os)) l) (sym (filter-append f (numbered i 0 q.symbols) (all_symbols (i + 1) qs)))
      (both (filter f (numbered i 0 o.symbols)) (filter f (numbered i 0 q.symbols)) (filter f (all_symbols (i + 1) os)) (filter f (all_symbols (i + 1) qs)) one rest))

  pub bound : (b : ℕ) → (b ≡ local → ⊥) → IsSort (λ d. (d.symbol.bind == b) && is_defined d.symbol.home)
  bound b apart = record {
    same = λ d e t. ap (λ (n : ℕ). (n == b) && is_defined e.symbol.home) t.bind ∙ ap (λ (z : Home). (d.symbol.bind == b) && is_defined z) t.home;
    outer = λ d y. no d (eqb-true d.symbol.bind local y) (cases_Bool (d.symbol.bind == b));
  }
    where
      no : (d : Defined) → d.symbol.bind ≡ local → ((d.symbol.bind == b) ≡ true) ⊎ ((d.symbol.bind == b) ≡ false) → ((d.symbol.bind == b) && is_defined d.symbol.home) ≡ false
      no d e (inl t) = absurd (apart (sym (eqb-true d.symbol.bind b t) ∙ e))
      no d e (inr f) = ap (λ (c : Bool). c && is_defined d.symbol.home) f

  -- definitions of a binding that is not local, one by one
  pub outer_twins : AreObjects ins → AreObjects outs → AreAnswers ins outs moved → (b : ℕ) → (b ≡ local → ⊥)
      → Twins (filter (λ z. (z.symbol.bind == b) && is_defined z.symbol.home) (all_symbols 0 ins)) (filter (λ z. (z.symbol.bind == b) && is_defined z.symbol.home) (all_symbols 0 outs))
  outer_twins so sh answers b apart =
      in_objects (λ z. (z.symbol.bind == b) && is_defined z.symbol.home) (bound b apart) 0 ins outs so sh answers.count (λ n o q e g.
      (subst (λ (m : ℕ). slice_get ins m ≡ Some o) (zero_plus n) e, subst (λ (m : ℕ). slice_get outs m ≡ Some q) (zero_plus n) g, subst (λ (m : ℕ). SymbolsAnswer o q (moved m)) (zero_plus n) (answers.symbols n o q e g)))
    where
      zero_plus : (n : ℕ) → n ≡ 0 + n
      zero_plus n = omega arith

  pub resolved_alike : AreObjects ins → AreObjects outs → AreAnswers ins outs moved → (name : List ℕ) (d : Defined) → resolved ins name ≡ Some d → (e : Defined) × (resolved outs name ≡ Some e) × Twin d e
  resolved_alike so sh answers name d h =
      find_twin (λ z. same_name z.symbol.name name) (λ x y t. ap (λ (n : List ℕ). same_name n name) t.name) (globals ins ++ weaks ins) (globals outs ++ weaks outs)
      (both (globals ins) (globals outs) (weaks ins) (weaks outs) (outer_twins so sh answers global (λ e. omega (arith, e))) (outer_twins so sh answers weak (λ e. omega (arith, e)))) d h

  pub resolved_back : AreObjects ins → AreObjects outs → AreAnswers ins outs moved → (name : List ℕ) (e : Defined) → resolved outs name ≡ Some e → (d : Defined) × (resolved ins name ≡ Some d) × Twin d e
  resolved_back so sh answers name e h =
      find_back (λ z. same_name z.symbol.name name) (λ x y t. ap (λ (n : List ℕ). same_name n name) t.name) (globals ins ++ weaks ins) (globals outs ++ weaks outs)
      (both (globals ins) (globals outs) (weaks ins) (weaks outs) (outer_twins so sh answers global (λ z. omega (arith, z))) (outer_twins so sh answers weak (λ z. omega (arith, z)))) e h

pub names_meet : NamesMeet
names_meet ins outs moved so sh answers i k m o h s t d there here c was becomes means =
    let one : s ≡ c.symbol = same_Some s c.symbol (sym was ∙ c.was) in
    let two : t ≡ c.twin = same_Some t c.twin (sym becomes ∙ c.becomes) in
    let bind : t.bind ≡ s.bind = ap (λ (z : Symbol). z.bind) two ∙ (c.same.bind ∙ sym (ap (λ (z : Symbol). z.bind) one)) in
    let name : t.name ≡ s.name = ap (λ (z : Symbol). z.name) two ∙ (c.same.name ∙ sym (ap (λ (z : Symbol). z.name) one)) in
    let home : t.home ≡ s.home = ap (λ (z : Symbol). z.home) two ∙ (c.same.home ∙ sym (ap (λ (z : Symbol). z.home) one)) in
    let own : ((t.bind == local) && is_defined t.home) ≡ ((s.bind == local) && is_defined s.home) =
    ap (λ (n : ℕ). (n == local) && is_defined t.home) bind ∙ ap (λ (z : Home). (s.bind == local) && is_defined z) home in
    elim (cases_Bool ((s.bind == local) && is_defined s.home)) [
      | inl y ↦
          let same : defined_at i k s ≡ d = same_Some (defined_at i k s) d (sym (ap (λ (b : Bool). cond b (Some (defined_at i k s)) (resolved ins s.name)) y) ∙ means) in (
            defined_at i m t,
            ap (λ (b : Bool). cond b (Some (defined_at i m t)) (resolved outs t.name)) (own ∙ y),
            subst (λ (z : Defined). MeantAlike ins outs moved z (defined_at i m t)) same (record { object = o; twin = h; there = there; here = here; file = refl; same = c }),
          )
      | inr n ↦
          let r = resolved_alike ins outs moved so sh answers s.name d (sym (ap (λ (b : Bool). cond b (Some (defined_at i k s)) (resolved ins s.name)) n) ∙ means) in
          (r.0, ap (λ (b : Bool). cond b (Some (defined_at i m t)) (resolved outs t.name)) (own ∙ n) ∙ (ap (λ (l : List ℕ). resolved outs l) name ∙ r.1), r.2.alike)
    ]
