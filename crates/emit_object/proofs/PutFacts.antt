-- Pieces that are put into sections one after the other.
use Rattle.std.proofs.Common.{◌≡◌, ◌≤◌, ◌<◌, ℕ, zero, suc, ◌+◌, List, [], ◌∷◌, ◌++◌, length, take, drop, get_or, refl, sym, ap, ◌∙◌, subst, inl, inr, ◌⊎◌, arith, Some}
use Rattle.std.specs.Prelude.{Contains, slice_get, Vec}
use Rattle.std.specs.declared.alloc.Global.{Global}
use Rattle.std.proofs.Math.ListN.{set, drop_of_length-le}
use Rattle.std.proofs.lemmas.Bool.{cases_eq, cases_lt}
use Rattle.std.proofs.lemmas.Option.{slice_get_read}
use Rattle.std.proofs.lemmas.List.{length-set, length-map, map-set, get_or-map, get_or-set_same, get_or-set_other, take_more, append-nil, take_all}
use Rattle.std.proofs.lemmas.List.Elements.{Contains-append_cases, Contains-append_left, Contains-append_right}
use Rattle.elf_model.specs.Fields.{byte_at}
use Rattle.elf_model.proofs.Elements.{contains_cases, contains_none, contains_here, contains_at}
use Rattle.emit_object.specs.declared.code_pieces.Piece.{Piece}
use Rattle.emit_object.specs.CodePieces.{IsOver, AreApart}
use Rattle.emit_object.specs.CodeBytes.{contents_of, bytes_in, Fits, CanPut, IsPutAt, ArePut}

-- no byte is in two pieces that are apart
pub apart_over : (p q : Piece) (j x : ℕ) → AreApart p q → IsOver p j x → IsOver q j x → ⊥
apart_over p q j x (inl other) a b = other (a.section ∙ sym b.section)
apart_over p q j x (inr (inl before)) a b = let h = a.high in let l = b.low in omega arith
apart_over p q j x (inr (inr behind)) a b = let l = a.low in let h = b.high in omega arith

module _ (xs : List (List ℕ)) (p : Piece) (new : List ℕ) (low : p.section < length xs) (put : IsPutAt p.at p.bytes (bytes_in xs p.section) new) where
  here : bytes_in (set xs p.section new) p.section ≡ new
  here = get_or-set_same xs p.section new [] low

  beside : (j : ℕ) → (j ≡ p.section → ⊥) → bytes_in (set xs p.section new) j ≡ bytes_in xs j
  beside j ne = get_or-set_other xs p.section j new [] ne

  one_size : (j : ℕ) → length (bytes_in (set xs p.section new) j) ≡ length (bytes_in xs j)
  one_size j = elim (cases_eq j p.section) [
    | inl e ↦ subst (λ (k : ℕ). length (bytes_in (set xs p.section new) k) ≡ length (bytes_in xs k)) (sym e) (ap length here ∙ put.size)
    | inr ne ↦ ap length (beside j ne)
  ]

  -- a byte of the section outside of the piece
  outside : (x : ℕ) → (IsOver p p.section x → ⊥) → (x < p.at) ⊎ (p.at + length p.bytes ≤ x)
  outside x free = elim (cases_lt x p.at) [
    | inl before ↦ inl before
    | inr le ↦ elim (cases_lt x (p.at + length p.bytes)) [
      | inl lt ↦ absurd (free (record { section = refl; low = le; high = lt }))
      | inr behind ↦ inr behind
    ]
  ]

  one_others : (j x : ℕ) → (IsOver p j x → ⊥) → byte_at (bytes_in (set xs p.section new) j) x ≡ byte_at (bytes_in xs j) x
  one_others j x free = elim (cases_eq j p.section) [
    | inl e ↦
        subst (λ (k : ℕ). (IsOver p k x → ⊥) → byte_at (bytes_in (set xs p.section new) k) x ≡ byte_at (bytes_in xs k) x) (sym e)
        (λ f. ap (λ (b : List ℕ). byte_at b x) here ∙ put.others x (outside x f)) free
    | inr ne ↦ ap (λ (b : List ℕ). byte_at b x) (beside j ne)
  ]

  pub put_one : ArePut (p ∷ []) xs (set xs p.section new)
  put_one = record {
    count = length-set xs p.section new;
    sizes = one_size;
    stand = λ q i c lt. elim (contains_cases p [] q c) [
      | inl e ↦
          subst (λ (z : Piece). i < length z.bytes → byte_at (bytes_in (set xs p.section new) z.section) (z.at + i) ≡ byte_at z.bytes i) e
          (λ l. ap (λ (b : List ℕ). byte_at b (p.at + i)) here ∙ put.stands i l) lt
      | inr n ↦ absurd (contains_none q n)
    ];
    others = λ j x free. one_others j x (free p (contains_here p []));
  }

-- more pieces, apart from all those before
pub put_more : (done more : List Piece) (old mid new : List (List ℕ)) → ArePut done old mid → ArePut more mid new → ((p q : Piece) → Contains done p → Contains more q → AreApart p q) → ArePut (done ++ more) old new
put_more done more old mid new one two apart = record {
  count = two.count ∙ one.count;
  sizes = λ j. two.sizes j ∙ one.sizes j;
  stand = λ p i c lt. elim (Contains-append_cases done more p c) [
    | inl a ↦
        two.others p.section (p.at + i) (λ q d over. apart_over p q p.section (p.at + i) (apart p q a d) (record { section = refl; low = omega arith; high = omega arith }) over)
        ∙ one.stand p i a lt
    | inr b ↦ two.stand p i b lt
  ];
  others = λ j x free. two.others j x (λ q d. free q (Contains-append_right done more q d)) ∙ one.others j x (λ q d. free q (Contains-append_left done more q d));
}

-- an element of the first ones of a list, by its number
pub taken_at : {A : Type 0} (xs : List A) (k : ℕ) (x : A) → Contains (take k xs) x → (i : ℕ) × (i < k) × (slice_get xs i ≡ Some x)
taken_at [] zero x c = absurd (contains_none x c)
taken_at [] (suc k) x c = absurd (contains_none x c)
taken_at (y ∷ xs) zero x c = absurd (contains_none x c)
taken_at (y ∷ xs) (suc k) x c = elim (contains_cases y (take k xs) x c) [
  | inl e ↦ (zero, omega arith, ap Some e)
  | inr r ↦ let q = taken_at xs k x r in let lt = q.1 in (suc q.0, omega arith, q.2)
]

module _ (pieces : List Piece) (old mid : List (List ℕ)) (can : CanPut old pieces) (k : ℕ) (p : Piece) (low : k < length pieces) (is : p ≡ get_or pieces k p) (before : ArePut (take k pieces) old mid) where
  at : slice_get pieces k ≡ Some p
  at = slice_get_read pieces (length pieces) k p refl low is

  pub fits_next : Fits mid p
  fits_next =
      let f = can.fit p (contains_at pieces k p at) in
      let there = f.there in
      let room = f.room in
      let count = before.count in
      let size = before.sizes p.section in
      record { there = omega arith; room = omega arith }

  apart : (r q : Piece) → Contains (take k pieces) r → Contains (p ∷ []) q → AreApart r q
  apart r q c d = elim (contains_cases p [] q d) [
    | inl e ↦ let t = taken_at pieces k r c in subst (AreApart r) e (can.apart t.0 k r p t.1 t.2 at)
    | inr n ↦ absurd (contains_none q n)
  ]

  pub put_next : (new : List (List ℕ)) → ArePut (p ∷ []) mid new → ArePut (take (k + 1) pieces) old new
  put_next new one =
      subst (λ (l : List Piece). ArePut l old new) (sym (take_more pieces k p low ∙ ap (λ (z : Piece). take k pieces ++ z ∷ []) (sym is)))
      (put_more (take k pieces) (p ∷ []) old mid new before one apart)

-- what fits goes on fitting
pub can_stay : (done pieces : List Piece) (old mid : List (List ℕ)) → ArePut done old mid → CanPut old pieces → CanPut mid pieces
can_stay done pieces old mid put can = record {
  fit = λ p c.
      let f = can.fit p c in
      let there = f.there in
      let room = f.room in
      let count = put.count in
      let size = put.sizes p.section in
      record { there = omega arith; room = omega arith };
  apart = can.apart;
}

-- the section of a piece with the piece in it
module _ (all : List (Vec ℕ Global)) (p : Piece) (room : Fits (contents_of all) p) (v w : Vec ℕ Global) (is : v ≡ get_or all p.section v) (new : List ℕ) (put : IsPutAt p.at p.bytes v.items new) where
  there : p.section < length all
  there = let low = room.there in let long = length-map all (λ (x : Vec ℕ Global). x.items) in omega arith

  old_bytes : bytes_in (contents_of all) p.section ≡ v.items
  old_bytes = get_or-map (λ (x : Vec ℕ Global). x.items) all p.section v [] there ∙ ap (λ (x : Vec ℕ Global). x.items) (sym is)

  pub put_there : w.items ≡ new → ArePut (p ∷ []) (contents_of all) (contents_of (set all p.section w))
  put_there e =
      subst (ArePut (p ∷ []) (contents_of all)) (sym (map-set (λ (x : Vec ℕ Global). x.items) all p.section w ∙ ap (set (contents_of all) p.section) e))
      (put_one (contents_of all) p new room.there (subst (λ (b : List ℕ). IsPutAt p.at p.bytes b new) (sym old_bytes) put))

-- bytes written back, as many as there were
pub refilled : (new old : List ℕ) (n : ℕ) → length new ≡ length old → n ≡ length old → take n (new ++ drop (length new) old) ≡ new
refilled new old n e all =
    ap (λ (l : List ℕ). take n (new ++ l)) (drop_of_length-le old (omega arith)) ∙ ap (take n) (append-nil new) ∙ take_all n new (omega arith)
