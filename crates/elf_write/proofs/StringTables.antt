-- A string table to which one name is added.
use Rattle.std.proofs.Common.{◌≡◌, ℕ, ◌+◌, Bool, true, false, cond, not, ◌||◌, List, [], ◌∷◌, ◌++◌, length, Option, Some, None, refl, sym, ap, ◌∙◌, inl, inr, arith, map, filter}
use Rattle.std.specs.Prelude.{if◌then◌else◌, nat_eq, ◌==◌, slice_get}
use Rattle.std.specs.Cmp.Lexicographic.{pointwise}
use Rattle.std.specs.List.{list_any}
use Rattle.std.proofs.lemmas.List.{nil_from_length, append_assoc, append-nil, length-append}
use Rattle.std.proofs.lemmas.List.Elements.{filter-append}
use Rattle.std.proofs.lemmas.Grind.{flat_map-append}
use Rattle.std.proofs.lemmas.Option.{none-some, same_Some}
use Rattle.std.proofs.lemmas.Bool.{eqb-true, cases_Bool, both_ways, not_from_false, false≢true}
use Rattle.std.proofs.lemmas.Map.Views.{any-filter_same}
use Rattle.std.specs.Map.{lookup}
use lib.Pointwise.{bytes_decides}
use Rattle.elf_model.specs.Fields.{same_name}
use Rattle.elf_model.specs.Canonical.{different, string_table, offset_among, name_offset}
use Rattle.elf_model.proofs.Strings.{with_nuls, kept_name, any_at}
use Rattle.elf_model.proofs.Lists.{get_left}
use Rattle.elf_write.specs.declared.names.Names.{Names}
use Rattle.elf_write.specs.Writing.{placed, offsets_of, IsTable}

-- whether a name is among these
abbrev pub among : List (List ℕ) → List ℕ → Bool
among ds n = list_any (λ m. same_name m n) ds

abbrev pub with_name : List (List ℕ) → List ℕ → List (List ℕ)
with_name ds n = if among ds n then ds else ds ++ n ∷ []

pub same_itself : (n : List ℕ) → same_name n n ≡ true
same_itself n = (bytes_decides n n).1 refl

same_sym : (a b : List ℕ) → same_name a b ≡ same_name b a
same_sym a b = elim (cases_Bool (same_name a b)) [
  | inl y ↦ y ∙ sym ((bytes_decides b a).1 (sym ((bytes_decides a b).0 y)))
  | inr n ↦ elim (cases_Bool (same_name b a)) [
    | inl y ↦ absurd (both_ways (same_name a b) n ((bytes_decides a b).1 (sym ((bytes_decides b a).0 y))))
    | inr k ↦ n ∙ sym k
  ]
]

-- the names without this one
abbrev others : List ℕ → List (List ℕ) → List (List ℕ)
others d ds = filter (λ m. not (same_name m d)) ds

others_same : (d n : List ℕ) → same_name d n ≡ true → (ds : List (List ℕ)) → others d (ds ++ n ∷ []) ≡ others d ds
others_same d n e ds =
    filter-append (λ m. not (same_name m d)) ds (n ∷ [])
    ∙ ap (λ (t : Bool). others d ds ++ cond (not t) (n ∷ []) []) (sym (same_sym d n) ∙ e) ∙ append-nil (others d ds)

others_new : (d n : List ℕ) → same_name d n ≡ false → (ds : List (List ℕ)) → others d (ds ++ n ∷ []) ≡ others d ds ++ n ∷ []
others_new d n e ds =
    filter-append (λ m. not (same_name m d)) ds (n ∷ [])
    ∙ ap (λ (t : Bool). others d ds ++ cond (not t) (n ∷ []) []) (sym (same_sym d n) ∙ e)

others_among : (d n : List ℕ) → same_name d n ≡ false → (ds : List (List ℕ)) → among (others d ds) n ≡ among ds n
others_among d n e ds = any-filter_same (λ m. same_name m n) (λ m. not (same_name m d)) true other ds
  where
    other : (k : List ℕ) → same_name k n ≡ true → not (same_name k d) ≡ true
    other k w = elim (cases_Bool (same_name k d)) [
      | inl y ↦ absurd (both_ways (same_name d n) e ((bytes_decides d n).1 (sym ((bytes_decides k d).0 y) ∙ (bytes_decides k n).0 w)))
      | inr y ↦ not_from_false (same_name k d) y
    ]

step : (d n : List ℕ) (ds : List (List ℕ)) → d ∷ others d (with_name ds n) ≡ with_name (d ∷ others d ds) n
step d n ds = elim (cases_Bool (same_name d n)) [
  | inl y ↦ elim (cases_Bool (among ds n)) [
    | inl a ↦ ap (λ (t : Bool). d ∷ others d (if t then ds else ds ++ n ∷ [])) a ∙ sym (ap (λ (t : Bool). if t || among (others d ds) n then d ∷ others d ds else d ∷ others d ds ++ n ∷ []) y)
    | inr a ↦ ap (λ (t : Bool). d ∷ others d (if t then ds else ds ++ n ∷ [])) a ∙ ap (λ (l : List (List ℕ)). d ∷ l) (others_same d n y ds) ∙ sym (ap (λ (t : Bool). if t || among (others d ds) n then d ∷ others d ds else d ∷ others d ds ++ n ∷ []) y)
  ]
  | inr w ↦ elim (cases_Bool (among ds n)) [
    | inl a ↦ ap (λ (t : Bool). d ∷ others d (if t then ds else ds ++ n ∷ [])) a
        ∙ sym (ap (λ (t : Bool). if t || among (others d ds) n then d ∷ others d ds else d ∷ others d ds ++ n ∷ []) w
        ∙ ap (λ (t : Bool). if t then d ∷ others d ds else d ∷ others d ds ++ n ∷ []) (others_among d n w ds ∙ a))
    | inr a ↦ ap (λ (t : Bool). d ∷ others d (if t then ds else ds ++ n ∷ [])) a ∙ ap (λ (l : List (List ℕ)). d ∷ l) (others_new d n w ds)
        ∙ sym (ap (λ (t : Bool). if t || among (others d ds) n then d ∷ others d ds else d ∷ others d ds ++ n ∷ []) w
        ∙ ap (λ (t : Bool). if t then d ∷ others d ds else d ∷ others d ds ++ n ∷ []) (others_among d n w ds ∙ a))
  ]
]

pub different_push : (names : List (List ℕ)) (c : ℕ) (cs : List ℕ) → different (names ++ (c ∷ cs) ∷ []) ≡ with_name (different names) (c ∷ cs)
different_push [] c cs = refl
different_push ([] ∷ names) c cs = different_push names c cs
different_push ((d ∷ ds) ∷ names) c cs = ap (λ (l : List (List ℕ)). (d ∷ ds) ∷ others (d ∷ ds) l) (different_push names c cs) ∙ step (d ∷ ds) (c ∷ cs) (different names)

pub different_push_empty : (names : List (List ℕ)) → different (names ++ [] ∷ []) ≡ different names
different_push_empty [] = refl
different_push_empty ([] ∷ names) = different_push_empty names
different_push_empty ((d ∷ ds) ∷ names) = ap (λ (l : List (List ℕ)). (d ∷ ds) ∷ others (d ∷ ds) l) (different_push_empty names)

-- a new name stands at the end of the table, an old one where it stood
pub offset_new : (at : ℕ) (ds : List (List ℕ)) (n : List ℕ) → among ds n ≡ false → offset_among at (ds ++ n ∷ []) n ≡ at + length (with_nuls ds)
offset_new at [] n e = ap (λ (t : Bool). if t then at else offset_among (at + length n + 1) [] n) (same_itself n) ∙ omega arith
offset_new at (d ∷ ds) n e =
    let parts = neither (same_name d n) (among ds n) e in
    let rest = offset_new (at + length d + 1) ds n parts.1 in
    ap (λ (t : Bool). if t then at else offset_among (at + length d + 1) (ds ++ n ∷ []) n) parts.0 ∙ rest
    ∙ omega (arith, length-append (d ++ 0 ∷ []) (with_nuls ds), length-append d (0 ∷ []))
  where
    neither : (a b : Bool) → (a || b) ≡ false → (a ≡ false) × (b ≡ false)
    neither true b h = absurd (false≢true (sym h))
    neither false b h = (refl, h)

pub offset_old : (at : ℕ) (ds more : List (List ℕ)) (n : List ℕ) → among ds n ≡ true → offset_among at (ds ++ more) n ≡ offset_among at ds n
offset_old at [] more n e = absurd (false≢true e)
offset_old at (d ∷ ds) more n e = go (λ later. offset_old (at + length d + 1) ds more n later) (same_name d n) e
  where
    go : (among ds n ≡ true → offset_among (at + length d + 1) (ds ++ more) n ≡ offset_among (at + length d + 1) ds n) → (t : Bool) → (t || among ds n) ≡ true
        → (if t then at else offset_among (at + length d + 1) (ds ++ more) n) ≡ (if t then at else offset_among (at + length d + 1) ds n)
    go rest true h = refl
    go rest false h = rest h

pub placed_push : (at : ℕ) (ds : List (List ℕ)) (n : List ℕ) → placed at (ds ++ n ∷ []) ≡ placed at ds ++ (n, at + length (with_nuls ds)) ∷ []
placed_push at [] n = let e : at ≡ at + 0 = omega arith in ap (λ (k : ℕ). (n, k) ∷ []) e
placed_push at (d ∷ ds) n =
    let e : (at + length d + 1) + length (with_nuls ds) ≡ at + length (with_nuls (d ∷ ds)) = omega (arith, length-append (d ++ 0 ∷ []) (with_nuls ds), length-append d (0 ∷ [])) in
    ap (λ (l : List (List ℕ × ℕ)). (d, at) ∷ l) (placed_push (at + length d + 1) ds n ∙ ap (λ (k : ℕ). placed (at + length d + 1) ds ++ (n, k) ∷ []) e)

-- where a name is found among names with their offsets
abbrev pub found : List (List ℕ × ℕ) → List ℕ → Option ℕ
found [] n = None
found (e ∷ es) n = if same_name n e.0 then Some e.1 else found es n

pub found_some : (at : ℕ) (ds : List (List ℕ)) (n : List ℕ) (p : ℕ) → found (placed at ds) n ≡ Some p → (among ds n ≡ true) × (p ≡ offset_among at ds n)
found_some at [] n p e = absurd (none-some p e)
found_some at (d ∷ ds) n p e = go (λ later. found_some (at + length d + 1) ds n p later) (same_name n d) (same_sym d n) e
  where
    go : (found (placed (at + length d + 1) ds) n ≡ Some p → (among ds n ≡ true) × (p ≡ offset_among (at + length d + 1) ds n)) → (t : Bool) → same_name d n ≡ t
        → (if t then Some at else found (placed (at + length d + 1) ds) n) ≡ Some p → (among (d ∷ ds) n ≡ true) × (p ≡ offset_among at (d ∷ ds) n)
    go rest true s h = (ap (λ (t : Bool). t || among ds n) s, sym (same_Some at p h) ∙ sym (ap (λ (t : Bool). if t then at else offset_among (at + length d + 1) ds n) s))
    go rest false s h =
        let r = rest h in
        (ap (λ (t : Bool). t || among ds n) s ∙ r.0, r.1 ∙ sym (ap (λ (t : Bool). if t then at else offset_among (at + length d + 1) ds n) s))

pub found_none : (at : ℕ) (ds : List (List ℕ)) (n : List ℕ) → found (placed at ds) n ≡ None → among ds n ≡ false
found_none at [] n e = refl
found_none at (d ∷ ds) n e = go (λ later. found_none (at + length d + 1) ds n later) (same_name n d) (same_sym d n) e
  where
    go : (found (placed (at + length d + 1) ds) n ≡ None → among ds n ≡ false) → (t : Bool) → same_name d n ≡ t
        → (if t then Some at else found (placed (at + length d + 1) ds) n) ≡ None → among (d ∷ ds) n ≡ false
    go rest true s h = absurd (none-some at (sym h))
    go rest false s h = ap (λ (t : Bool). t || among ds n) s ∙ rest h

-- what the map of the names answers
pub looked_up : {K : Type 0} (items : K → List ℕ) (es : List (K × ℕ)) (n : List ℕ) → lookup (λ k. pointwise nat_eq n (items k)) es ≡ found (map (λ e. (items e.0, e.1)) es) n
looked_up items [] n = refl
looked_up items (e ∷ es) n = ap (λ (r : Option ℕ). if same_name n (items e.0) then Some e.1 else r) (looked_up items es n)

-- an empty name changes nothing
pub empty_added : (t : Names) (names : List (List ℕ)) (n : List ℕ) → (length n == 0) ≡ true → IsTable t names → IsTable t (names ++ n ∷ [])
empty_added t names n e h =
    let nil : n ≡ [] = nil_from_length n (eqb-true (length n) 0 e) in
    let same : different (names ++ n ∷ []) ≡ different names = ap (λ (m : List ℕ). different (names ++ m ∷ [])) nil ∙ different_push_empty names in
    record { bytes = h.bytes ∙ sym (ap (λ (l : List (List ℕ)). 0 ∷ with_nuls l) same); offsets = h.offsets ∙ sym (ap (placed 1) same) }

-- a name that isn't empty has a first byte
pushed : (names : List (List ℕ)) (n : List ℕ) → (length n == 0) ≡ false → different (names ++ n ∷ []) ≡ with_name (different names) n
pushed names [] e = absurd (false≢true (sym e))
pushed names (c ∷ cs) e = different_push names c cs

placed_name : (names : List (List ℕ)) (n : List ℕ) → (length n == 0) ≡ false → name_offset names n ≡ offset_among 1 (different names) n
placed_name names [] e = absurd (false≢true (sym e))
placed_name names (c ∷ cs) e = refl

pub old_added : (t : Names) (names : List (List ℕ)) (n : List ℕ) (p : ℕ) → (length n == 0) ≡ false → lookup (λ k. pointwise nat_eq n k.items) t.places.entries ≡ Some p → IsTable t names
    → IsTable t (names ++ n ∷ []) × (p ≡ name_offset (names ++ n ∷ []) n)
old_added t names n p e at h =
    let there = found_some 1 (different names) n p (sym (looked_up (λ k. k.items) t.places.entries n ∙ ap (λ (l : List (List ℕ × ℕ)). found l n) h.offsets) ∙ at) in
    let same : different (names ++ n ∷ []) ≡ different names = pushed names n e ∙ ap (λ (b : Bool). if b then different names else different names ++ n ∷ []) there.0 in (
      record { bytes = h.bytes ∙ sym (ap (λ (l : List (List ℕ)). 0 ∷ with_nuls l) same); offsets = h.offsets ∙ sym (ap (placed 1) same) },
      there.1 ∙ sym (placed_name (names ++ n ∷ []) n e ∙ ap (λ (l : List (List ℕ)). offset_among 1 l n) same),
    )

pub new_added : (t u : Names) (names : List (List ℕ)) (n : List ℕ) → (length n == 0) ≡ false → lookup (λ k. pointwise nat_eq n k.items) t.places.entries ≡ None
    → u.text.items ≡ (t.text.items ++ n) ++ 0 ∷ [] → offsets_of u ≡ offsets_of t ++ (n, length t.text.items) ∷ [] → IsTable t names
    → IsTable u (names ++ n ∷ []) × (length t.text.items ≡ name_offset (names ++ n ∷ []) n)
new_added t u names n e at text places h =
    let ds : List (List ℕ) = different names in
    let new = found_none 1 ds n (sym (looked_up (λ k. k.items) t.places.entries n ∙ ap (λ (l : List (List ℕ × ℕ)). found l n) h.offsets) ∙ at) in
    let more : different (names ++ n ∷ []) ≡ ds ++ n ∷ [] = pushed names n e ∙ ap (λ (b : Bool). if b then ds else ds ++ n ∷ []) new in
    let long : length t.text.items ≡ 1 + length (with_nuls ds) = let l = ap length h.bytes in omega (arith, l) in (
      record {
        bytes = text ∙ ap (λ (l : List ℕ). (l ++ n) ++ 0 ∷ []) h.bytes ∙ append_assoc (string_table names) n (0 ∷ [])
            ∙ sym (ap (λ (l : List (List ℕ)). 0 ∷ with_nuls l) more ∙ ap (λ (l : List ℕ). 0 ∷ l) (flat_map-append (λ m. m ++ 0 ∷ []) ds (n ∷ []) ∙ ap (λ (l : List ℕ). with_nuls ds ++ l) (append-nil (n ++ 0 ∷ []))));
        offsets = places ∙ ap (λ (l : List (List ℕ × ℕ)). l ++ (n, length t.text.items) ∷ []) h.offsets ∙ ap (λ (k : ℕ). placed 1 ds ++ (n, k) ∷ []) long
            ∙ sym (placed_push 1 ds n) ∙ sym (ap (placed 1) more);
      },
      long ∙ sym (offset_new 1 ds n new) ∙ sym (placed_name (names ++ n ∷ []) n e ∙ ap (λ (l : List (List ℕ)). offset_among 1 l n) more),
    )

-- one more name behind leaves the offset of a name of the list
offset_one_more : (names : List (List ℕ)) (m : List ℕ) (i : ℕ) (n : List ℕ) → slice_get names i ≡ Some n → name_offset (names ++ m ∷ []) n ≡ name_offset names n
offset_one_more names m i [] e = refl
offset_one_more names [] i (c ∷ cs) e = ap (λ (l : List (List ℕ)). offset_among 1 l (c ∷ cs)) (different_push_empty names)
offset_one_more names (d ∷ ds) i (c ∷ cs) e =
    let held = kept_name names c cs (any_at names i (c ∷ cs) e) in
    ap (λ (l : List (List ℕ)). offset_among 1 l (c ∷ cs)) (different_push names d ds) ∙ go (among (different names) (d ∷ ds)) held
  where
    go : (t : Bool) → among (different names) (c ∷ cs) ≡ true → offset_among 1 (if t then different names else different names ++ (d ∷ ds) ∷ []) (c ∷ cs) ≡ offset_among 1 (different names) (c ∷ cs)
    go true held = refl
    go false held = offset_old 1 (different names) ((d ∷ ds) ∷ []) (c ∷ cs) held

-- more names behind leave the offset of a name of the list
pub offset_more : (names more : List (List ℕ)) (i : ℕ) (n : List ℕ) → slice_get names i ≡ Some n → name_offset (names ++ more) n ≡ name_offset names n
offset_more names [] i n e = ap (λ (l : List (List ℕ)). name_offset l n) (append-nil names)
offset_more names (m ∷ more) i n e =
    ap (λ (l : List (List ℕ)). name_offset l n) (sym (append_assoc names (m ∷ []) more))
    ∙ offset_more (names ++ m ∷ []) more i n (get_left names (m ∷ []) i n e) ∙ offset_one_more names m i n e
