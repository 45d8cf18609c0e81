-- Runs that are put over a list, and links that are so laid one after the other.
use Rattle.std.proofs.Common.{◌≡◌, ◌≤◌, ◌<◌, ℕ, ◌+◌, ◌-◌, Bool, true, false, List, [], ◌∷◌, ◌++◌, length, take, drop, get_or, refl, sym, ap, ◌∙◌, subst, inl, inr, ◌⊎◌, arith}
use Rattle.std.specs.Prelude.{Contains, nat_le, nat_lt}
use Rattle.std.proofs.lemmas.Bool.{cases_lt, and_from, le-leb, lt-ltb, both_ways}
use Rattle.std.proofs.lemmas.List.{append-nil, length-append, length-drop, length-take-le, drop-append-le, drop-take, take-take, take-append-le, get_or-append-add, get_or-drop, get_or-take, take_all}
use Rattle.std.proofs.lemmas.List.Elements.{Contains-append_cases, Contains-append_left, Contains-append_right}
use Rattle.std.proofs.Math.ListN.{get_or-append, drop_of_length-le}
use Rattle.std.proofs.Math.Seq.{drop-append_seam, take-append_seam}
use Rattle.elf_model.specs.Objects.{place_width}
use Rattle.elf_model.proofs.Elements.{contains_cases, contains_none, contains_here}
use Rattle.thumb_table.specs.Links.{Link, covers, place_of}
use Rattle.flat_link.specs.Patches.{IsPut, AreLaid}

module _ {X : Type 0} (old : List X) (x n : ℕ) (new : List X) (put : IsPut old x n new) where
  front : length (take x old) ≡ x
  front = length-take-le x old (let i = put.inside in omega arith)

  abbrev rest : List X
  rest = drop (x + length put.run) old

  rest_length : length rest ≡ length old - (x + n)
  rest_length = let s = put.size in length-drop (x + length put.run) old ∙ ap (λ (k : ℕ). length old - (x + k)) s

  pub put_length : length new ≡ length old
  put_length =
      let a = length-append (take x old) (put.run ++ rest) in
      let b = length-append put.run rest in
      let f = front in
      let r = rest_length in
      let s = put.size in
      let i = put.inside in
      let e : length new ≡ length (take x old ++ (put.run ++ rest)) = ap length put.is in
      omega (arith, a, b, f, r, s, i, e)

  -- the run stands there
  pub put_here : take n (drop x new) ≡ put.run
  put_here =
      ap (λ (l : List X). take n (drop x l)) put.is
      ∙ ap (λ (k : ℕ). take n (drop k (take x old ++ (put.run ++ rest)))) (sym front)
      ∙ ap (take n) (drop-append_seam (take x old) (put.run ++ rest))
      ∙ ap (λ (k : ℕ). take k (put.run ++ rest)) (sym put.size)
      ∙ take-append_seam put.run rest

  -- what stands before it stays
  pub put_before : (y m : ℕ) → y + m ≤ x → take m (drop y new) ≡ take m (drop y old)
  put_before y m low =
      let f = front in
      let a : y ≤ length (take x old) = omega (arith, f) in
      let whole : y + (x - y) ≡ x = omega arith in
      let cut : drop y (take x old) ≡ take (x - y) (drop y old) = ap (λ (k : ℕ). drop y (take k old)) (sym whole) ∙ drop-take y (x - y) old in
      let d = length-drop y (take x old) in
      let long : m ≤ length (drop y (take x old)) = omega (arith, d, f) in
      let short : m ≤ x - y = omega arith in
      ap (λ (l : List X). take m (drop y l)) put.is
      ∙ ap (take m) (drop-append-le y (take x old) (put.run ++ rest) a)
      ∙ take-append-le m (drop y (take x old)) (put.run ++ rest) long
      ∙ ap (take m) cut
      ∙ take-take m (x - y) (drop y old) short

  pub put_others : (k : ℕ) (d : X) → (k < x) ⊎ (x + n ≤ k) → get_or new k d ≡ get_or old k d
  put_others k d (inl low) =
      let f = front in
      let less : k < length (take x old) = omega (arith, f) in
      ap (λ (l : List X). get_or l k d) put.is ∙ get_or-append (take x old) (put.run ++ rest) d k less ∙ get_or-take x old k d low
  put_others k d (inr high) =
      let f = front in
      let s = put.size in
      let a : k ≡ length (take x old) + (length put.run + (k - (x + n))) = omega (arith, f, s) in
      let b : x + length put.run + (k - (x + n)) ≡ k = omega (arith, s) in
      ap (λ (l : List X). get_or l k d) put.is
      ∙ ap (λ (m : ℕ). get_or (take x old ++ (put.run ++ rest)) m d) a
      ∙ get_or-append-add (take x old) (put.run ++ rest) (length put.run + (k - (x + n))) d
      ∙ get_or-append-add put.run rest (k - (x + n)) d
      ∙ get_or-drop (x + length put.run) old (k - (x + n)) d
      ∙ ap (λ (m : ℕ). get_or old m d) b

not_covered : (a : ℕ) (l : Link) → covers a l ≡ false → (a < place_of l) ⊎ (place_of l + place_width l.reloc.kind ≤ a)
not_covered a l e =
    elim (cases_lt a (place_of l)) [
      | inl low ↦ inl low
      | inr high ↦ elim (cases_lt a (place_of l + place_width l.reloc.kind)) [
        | inl inside ↦ absurd (both_ways (covers a l) e (and_from (nat_le (place_of l) a) (nat_lt a (place_of l + place_width l.reloc.kind)) (le-leb (place_of l) a high) (lt-ltb a (place_of l + place_width l.reloc.kind) inside)))
        | inr over ↦ inr over
      ]
    ]

module _ {X : Type 0} (sort : Link → Bool) (Written : List X → Link → Type 0) (base : ℕ) (empty : X) (raw : List X) where
  pub laid_none : AreLaid sort Written base [] empty raw raw
  laid_none = record { size = refl; others = λ x free. refl; linked = λ l c s. absurd (contains_none l c) }

  module _ (done : List Link) (k : Link) where
    split : (l : Link) → Contains (done ++ k ∷ []) l → Contains done l ⊎ (k ≡ l)
    split l c =
        elim (Contains-append_cases done (k ∷ []) l c) [
          | inl a ↦ inl a
          | inr b ↦ elim (contains_cases k [] l b) [ inl e ↦ inr e | inr n ↦ absurd (contains_none l n) ]
        ]

    before : (l : Link) → Contains done l → Contains (done ++ k ∷ []) l
    before l c = Contains-append_left done (k ∷ []) l c

    last : Contains (done ++ k ∷ []) k
    last = Contains-append_right done (k ∷ []) k (contains_here k [])

    -- one of another sort
    pub laid_less : (now : List X) → sort k ≡ false → AreLaid sort Written base done empty raw now → AreLaid sort Written base (done ++ k ∷ []) empty raw now
    laid_less now other laid = record {
      size = laid.size;
      others = λ x free. laid.others x (λ l c s. free l (before l c) s);
      linked = λ l c s. elim (split l c) [
        | inl a ↦ laid.linked l a s
        | inr e ↦ absurd (both_ways (sort k) other (ap sort e ∙ s))
      ];
    }

    -- one more, behind all others, which stay as they are
    pub laid_more : (now new : List X) → base ≤ place_of k → IsPut now (place_of k - base) (place_width k.reloc.kind) new → Written new k
        → ((l : Link) → Contains done l → sort l ≡ true → (base ≤ place_of l) × (place_of l + place_width l.reloc.kind ≤ place_of k))
        → ((l : Link) → Contains done l → sort l ≡ true → take (place_width l.reloc.kind) (drop (place_of l - base) new) ≡ take (place_width l.reloc.kind) (drop (place_of l - base) now) → Written now l → Written new l)
        → sort k ≡ true → AreLaid sort Written base done empty raw now → AreLaid sort Written base (done ++ k ∷ []) empty raw new
    laid_more now new low put written behind stays same laid = record {
      size = put_length now (place_of k - base) (place_width k.reloc.kind) new put ∙ laid.size;
      others = others;
      linked = linked;
    }
      where
        others : (x : ℕ) → ((l : Link) → Contains (done ++ k ∷ []) l → sort l ≡ true → covers (base + x) l ≡ false) → get_or new x empty ≡ get_or raw x empty
        others x free =
            let side : (x < place_of k - base) ⊎ ((place_of k - base) + place_width k.reloc.kind ≤ x) =
            elim (not_covered (base + x) k (free k last same)) [ inl a ↦ inl (omega arith) | inr b ↦ inr (omega arith) ] in
            put_others now (place_of k - base) (place_width k.reloc.kind) new put x empty side ∙ laid.others x (λ l c s. free l (before l c) s)

        linked : (l : Link) → Contains (done ++ k ∷ []) l → sort l ≡ true → Written new l
        linked l c s =
            elim (split l c) [
              | inl a ↦
                  let b = behind l a s in
                  let p = b.0 in
                  let q = b.1 in
                  let room : (place_of l - base) + place_width l.reloc.kind ≤ place_of k - base = omega arith in
                  stays l a s (put_before now (place_of k - base) (place_width k.reloc.kind) new put (place_of l - base) (place_width l.reloc.kind) room) (laid.linked l a s)
              | inr e ↦ subst (Written new) e written
            ]

-- a list with another of its length over it is that one
pub same_items : {X : Type 0} (new old : List X) (n : ℕ) → length new ≡ length old → n ≡ length new → take n (new ++ drop (length new) old) ≡ new
same_items new old n e all =
    ap (λ (l : List _). take n (new ++ l)) (drop_of_length-le old (omega arith)) ∙ ap (take n) (append-nil new) ∙ take_all n new (omega arith)
