-- Relocations that are wrong.
use Rattle.std.proofs.Common.{◌≡◌, ◌≢◌, ◌≤◌, ◌<◌, ◌⊎◌, ℕ, ◌+◌, ◌*◌, ◌/◌, ◌%◌, Bool, true, false, cond, not, ◌||◌, ◌&&◌, List, length, Option, Some, None, inl, inr, arith, refl, sym, ap, ◌∙◌, subst}
use Rattle.std.specs.Prelude.{nat_lt, ◌==◌, is_some, IfNone}
use Rattle.std.specs.declared.cmp.Ordering.{Ordering}
use Rattle.std.specs.Ordering.{nat_cmp, ordering_then, is_eq}
use Rattle.std.specs.declared.cmp.Ordering.TheVariants.{Less, Equal, Greater}
use Rattle.std.specs.BTreeSet.{BTreeSet, contains}
use Rattle.std.proofs.lemmas.Bool.{cases_lt, cases_eq, cases_order, cases_Bool, and_parts, and_from, or_cases, or_parts, or_left, or_right, eqb-true, eqb-false, eq-eqb, ne_eqb, lt-ltb, le-ltb, ltb-true, leb-false, lt-leb, not-true, not-false, not_from_false, both_ways, false≢true, true≢false}
use Rattle.elf_model.specs.declared.refusals.Limit.{Limit}
use Rattle.elf_model.specs.declared.refusals.Refusal.TheVariants.{BadReloc}
use Rattle.elf_model.specs.Constants.{rel, nobits}
use Rattle.elf_model.specs.Fields.{word_at}
use Rattle.elf_model.specs.Objects.{code_width}
use Rattle.elf_model.specs.Files.{Header, header, header_count, header_place, is_kept, IsKind}
use Rattle.elf_read.specs.declared.places.Place.{Place}
use Rattle.elf_read.specs.Faults.{Fault, IsHeader, IsRelocAt, IsKeptSymbol}
use Rattle.elf_read.specs.Faults.Fault.{bad_symbol, bad_place, second_place, nobits_target}
use Rattle.elf_read.specs.HeaderFaults.{IsTabled}
use Rattle.elf_read.specs.Keeping.{flag_at, is_kept_relocs}
use Rattle.elf_read.specs.Places.{IsLowest, lower_of, first_of}
use Rattle.elf_read.specs.RelocFaults.{IsEarlier, pair_cmp, AreTaken, BadEntry, EntryFault, TargetFault, RelocFault, IsLowestIn, entry_tests}
use Rattle.elf_read.specs.RelocFaults.RelocFault.{by_entry, by_target}
use Rattle.elf_read.proofs.FirstTests.{HoldsIn, IsFirstOf, first_of_first}
use Rattle.elf_read.proofs.Lowest.{NoneUnder, under_more, lowest_at}

-- equal pairs

cmp_eq : (m n : ℕ) → is_eq (nat_cmp m n) ≡ true → m ≡ n
cmp_eq m n h =
    elim (cases_order m n) [
      | inl e ↦ e
      | inr d ↦ elim d [
        | inl l ↦ absurd (false≢true (sym (ap (λ (t : Bool). is_eq (cond t Less (cond (m == n) Equal Greater))) (lt-ltb m n l)) ∙ h))
        | inr g ↦ absurd (false≢true (sym (ap (λ (t : Bool). is_eq (cond t Less (cond (m == n) Equal Greater))) (le-ltb m n (omega (arith, g))) ∙ ap (λ (t : Bool). is_eq (cond t Equal Greater)) (ne_eqb m n (λ e. omega (arith, e, g)))) ∙ h))
      ]
    ]

cmp_same : (m : ℕ) → is_eq (nat_cmp m m) ≡ true
cmp_same m = ap (λ (t : Bool). is_eq (cond t Less (cond (m == m) Equal Greater))) (le-ltb m m (omega arith)) ∙ ap (λ (t : Bool). is_eq (cond t Equal Greater)) (eq-eqb m m refl)

then_parts : (o p : Ordering) → is_eq (ordering_then o p) ≡ true → (is_eq o ≡ true) × (is_eq p ≡ true)
then_parts Less p h = absurd (false≢true h)
then_parts Equal p h = (refl, h)
then_parts Greater p h = absurd (false≢true h)

then_from : (o p : Ordering) → is_eq o ≡ true → is_eq p ≡ true → is_eq (ordering_then o p) ≡ true
then_from Less p h k = h
then_from Equal p h k = k
then_from Greater p h k = h

pair_parts : (x y : ℕ × ℕ) → is_eq (pair_cmp x y) ≡ true → (x.0 ≡ y.0) × (x.1 ≡ y.1)
pair_parts x y h = let p = then_parts (nat_cmp x.0 y.0) (nat_cmp x.1 y.1) h in (cmp_eq x.0 y.0 p.0, cmp_eq x.1 y.1 p.1)

pair_from : (x y : ℕ × ℕ) → x.0 ≡ y.0 → x.1 ≡ y.1 → is_eq (pair_cmp x y) ≡ true
pair_from x y e f =
    then_from (nat_cmp x.0 y.0) (nat_cmp x.1 y.1)
    (ap (λ (n : ℕ). is_eq (nat_cmp x.0 n)) (sym e) ∙ cmp_same x.0) (ap (λ (n : ℕ). is_eq (nat_cmp x.1 n)) (sym f) ∙ cmp_same x.1)

-- the places that are taken

cond_true : (t u : Bool) → cond t true u ≡ true → (t ≡ true) ⊎ (u ≡ true)
cond_true true u h = inl refl
cond_true false u h = inr h

true_cond : (t u : Bool) → (t ≡ true) ⊎ (u ≡ true) → cond t true u ≡ true
true_cond true u h = refl
true_cond false u (inl h) = absurd (false≢true h)
true_cond false u (inr h) = h

module _ (b : List ℕ) where
  pub taken_more : (h j r : ℕ) (old new : BTreeSet (ℕ × ℕ)) (k : ℕ × ℕ) → IsRelocAt b h j r → k.0 ≡ (header b h).info → k.1 ≡ word_at b r
      → ((q : ℕ × ℕ) → contains pair_cmp new q ≡ cond (is_eq (pair_cmp k q)) true (contains pair_cmp old q)) → AreTaken b h j old → AreTaken b h (j + 1) new
  taken_more h j r old new k at of word law taken = record {
    sound = λ p e. elim (cond_true (is_eq (pair_cmp k p)) (contains pair_cmp old p) (sym (law p) ∙ e)) [
      | inl t ↦
          let same = pair_parts k p t in
          record { g = h; i = j; q = r; before = inr (refl, omega arith); stands = at; of = sym of ∙ same.0; at = sym word ∙ same.1 }
      | inr t ↦
          let x = taken.sound p t in
          record { g = x.g; i = x.i; q = x.q; before = elim x.before [ inl l ↦ inl l | inr l ↦ inr (l.0, omega (arith, l.1)) ]; stands = x.stands; of = x.of; at = x.at }
    ];
    whole = λ p x. law p ∙ true_cond (is_eq (pair_cmp k p)) (contains pair_cmp old p) (elim x.before [
      | inl l ↦ inr (taken.whole p (record { g = x.g; i = x.i; q = x.q; before = inl l; stands = x.stands; of = x.of; at = x.at }))
      | inr l ↦ elim (cases_eq x.i j) [
        | inl e ↦
            let place : x.q ≡ r = x.stands.place ∙ ap (λ (g : ℕ). (header b g).offset + 8 * x.i) l.0 ∙ ap (λ (i : ℕ). (header b h).offset + 8 * i) e ∙ sym at.place in
            inl (pair_from k p (of ∙ ap (λ (g : ℕ). (header b g).info) (sym l.0) ∙ x.of) (word ∙ ap (word_at b) (sym place) ∙ x.at))
        | inr n ↦ inr (taken.whole p (record { g = x.g; i = x.i; q = x.q; before = inr (l.0, omega (arith, n, l.1)); stands = x.stands; of = x.of; at = x.at }))
      ]
    ]);
  }

  pub taken_next : (h n : ℕ) (taken : BTreeSet (ℕ × ℕ)) → ((j r : ℕ) → IsRelocAt b h j r → j < n) → AreTaken b h n taken → AreTaken b (h + 1) 0 taken
  taken_next h n taken all t = record {
    sound = λ p e. let x = t.sound p e in record { g = x.g; i = x.i; q = x.q; before = elim x.before [ inl l ↦ inl (omega (arith, l)) | inr l ↦ inl (omega (arith, l.0)) ]; stands = x.stands; of = x.of; at = x.at };
    whole = λ p x. t.whole p (record {
      g = x.g;
      i = x.i;
      q = x.q;
      before = elim x.before [
        | inl l ↦ elim (cases_eq x.g h) [
          | inl e ↦ inr (e, all x.i x.q (subst (λ (g : ℕ). IsRelocAt b g x.i x.q) e x.stands))
          | inr d ↦ inl (omega (arith, d, l))
        ]
        | inr l ↦ absurd (omega (arith, l.1))
      ];
      stands = x.stands;
      of = x.of;
      at = x.at;
    });
  }

  pub taken_none : (taken : BTreeSet (ℕ × ℕ)) → ((p : ℕ × ℕ) → contains pair_cmp taken p ≡ false) → AreTaken b 1 0 taken
  taken_none taken empty = record {
    sound = λ p e. absurd (both_ways _ (empty p) e);
    whole = λ p x. absurd (elim x.before [ inl l ↦ omega (arith, l, x.stands.table.0) | inr l ↦ omega (arith, l.1) ]);
  }

  moved : (h j t o u v : ℕ) → t ≡ u → o ≡ v → IsEarlier b h j t o → IsEarlier b h j u v
  moved h j t o u v e f x = record { g = x.g; i = x.i; q = x.q; before = x.before; stands = x.stands; of = x.of ∙ e; at = x.at ∙ f }

  -- one entry

  module _ (h j r room : ℕ) (flags : List Bool) (added : Bool) (old : BTreeSet (ℕ × ℕ)) (k : ℕ × ℕ) (stands : IsRelocAt b h j r) (taken : AreTaken b h j old) (wide : room ≡ (header b (header b h).info).size)
      (of : k.0 ≡ (header b h).info) (at : k.1 ≡ word_at b r) (new : added ≡ not (contains pair_cmp old k))
      (set : (k : ℕ) → IsKeptSymbol b k → flag_at flags k ≡ true) (unset : (k : ℕ) → flag_at flags k ≡ true → IsKeptSymbol b k) where
    wrong_here : (d : ℕ) → HoldsIn (entry_tests b room flags added r) d → BadEntry b h j (r + d)
    wrong_here d (inl t) = record {
      r = r;
      stands = stands;
      wrong = inl (
        omega (arith, t.0),
        elim (or_cases _ _ t.1) [
          | inl a ↦ inr (moved h j k.0 k.1 (header b h).info (word_at b r) of at (taken.sound k (not-false _ (sym new ∙ not-true added a))))
          | inr p ↦ inl (let l = leb-false (word_at b r + code_width (word_at b (r + 4) % 256)) room (not-true _ p) in omega (arith, l, wide))
        ],
      );
    }
    wrong_here d (inr (inl t)) =
        let parts = or_parts (word_at b (r + 4) % 256 == 0) (flag_at flags (word_at b (r + 4) / 256)) (not-true _ t.1) in
        record { r = r; stands = stands; wrong = inr (omega (arith, t.0), eqb-false (word_at b (r + 4) % 256) 0 parts.0, λ k. both_ways _ parts.1 (set (word_at b (r + 4) / 256) k)) }
    wrong_here d (inr (inr x)) = elim x [ ]

    right_there : (o : ℕ) → BadEntry b h j o → (d : ℕ) × (o ≡ r + d) × HoldsIn (entry_tests b room flags added r) d
    right_there o bad =
        let same : bad.r ≡ r = bad.stands.place ∙ sym stands.place in
        elim bad.wrong [
          | inl w ↦ (
            0,
            omega (arith, w.0, same),
            inl (
              refl,
              elim w.1 [
                | inl l ↦ or_right (not added) _ (not_from_false _ (lt-leb _ room (let m = subst (λ (x : ℕ). (header b (header b h).info).size < word_at b x + code_width (word_at b (x + 4) % 256)) same l in omega (arith, m, wide))))
                | inr e ↦ or_left (not added) _ (not_from_false added (new ∙ ap not (taken.whole k (moved h j (header b h).info (word_at b r) k.0 k.1 (sym of) (sym at) (subst (λ (x : ℕ). IsEarlier b h j (header b h).info (word_at b x)) same e)))))
              ],
            ),
          )
          | inr w ↦ (
            4,
            omega (arith, w.0, same),
            inr (inl (
              refl,
              not_from_false _ (none (word_at b (r + 4) % 256) (word_at b (r + 4) / 256)
                  (subst (λ (x : ℕ). word_at b (x + 4) % 256 ≢ 0) same w.1) (subst (λ (x : ℕ). IsKeptSymbol b (word_at b (x + 4) / 256) → ⊥) same w.2)),
            )),
          )
        ]
      where
        none : (kind k : ℕ) → kind ≢ 0 → (IsKeptSymbol b k → ⊥) → ((kind == 0) || flag_at flags k) ≡ false
        none kind k n m = ap (λ (t : Bool). t || flag_at flags k) (ne_eqb kind 0 n) ∙ elim (cases_Bool (flag_at flags k)) [ inl t ↦ absurd (m (unset k t)) | inr f ↦ f ]

    first_is : (e : Option ℕ) → e ≡ first_of (entry_tests b room flags added r) → IsFirstOf (entry_tests b room flags added r) e
    first_is e same = subst (λ (q : Option ℕ). IsFirstOf (entry_tests b room flags added r) q) (sym same) (first_of_first 0 (entry_tests b room flags added r) refl)

    pub not_here : None ≡ first_of (entry_tests b room flags added r) → (o : ℕ) → BadEntry b h j o → ⊥
    not_here e o bad = let t = right_there o bad in first_is None e t.0 t.2

    small : (d : ℕ) → HoldsIn (entry_tests b room flags added r) d → d ≤ 4
    small d (inl t) = omega (arith, t.0)
    small d (inr (inl t)) = omega (arith, t.0)
    small d (inr (inr x)) = elim x [ ]

    pub small_field : (d : ℕ) → Some d ≡ first_of (entry_tests b room flags added r) → d ≤ 4
    small_field d e = small d (first_is (Some d) e).0

    pub lowest_entry : (d : ℕ) → Some d ≡ first_of (entry_tests b room flags added r) → ((i o : ℕ) → i < j → BadEntry b h i o → ⊥)
        → (p : Place) → p.section ≡ h → p.offset ≡ r + d → IsLowestIn (EntryFault b h) h (Some p)
    lowest_entry d e none p at_h at_d =
        let first = first_is (Some d) e in
        (at_h, subst (λ (o : ℕ). EntryFault b h o) (sym at_d) (j, wrong_here d first.0), λ o f l. go o f.0 f.1 (small d first.0) first.1 (omega (arith, at_d, l)))
      where
        above : (i o : ℕ) → BadEntry b h i o → (header b h).offset + 8 * i ≤ o
        above i o bad = elim bad.wrong [ inl w ↦ omega (arith, w.0, bad.stands.place) | inr w ↦ omega (arith, w.0, bad.stands.place) ]

        go : (o i : ℕ) → BadEntry b h i o → d ≤ 4 → ((x : ℕ) → HoldsIn (entry_tests b room flags added r) x → x < d → ⊥) → o < r + d → ⊥
        go o i bad s first l = elim (cases_order i j) [
          | inl e ↦
              let t = right_there o (subst (λ (x : ℕ). BadEntry b h x o) e bad) in
              first t.0 t.2 (omega (arith, t.1, l))
          | inr x ↦ elim x [
            | inl u ↦ none i o u bad
            | inr u ↦ let a = above i o bad in omega (arith, a, u, l, s, stands.place)
          ]
        ]

  pub none_more : (h j : ℕ) → ((i o : ℕ) → i < j → BadEntry b h i o → ⊥) → ((o : ℕ) → BadEntry b h j o → ⊥) → (i o : ℕ) → i < j + 1 → BadEntry b h i o → ⊥
  none_more h j none here i o l bad = elim (cases_eq i j) [ inl e ↦ here o (subst (λ (x : ℕ). BadEntry b h x o) e bad) | inr n ↦ none i o (omega (arith, n, l)) bad ]

  pub no_entries : (h n : ℕ) → n ≡ (header b h).size / 8 → ((i o : ℕ) → i < n → BadEntry b h i o → ⊥) → IsLowestIn (EntryFault b h) h None
  no_entries h n e none o f = none f.0 o (let t = f.1.stands.there in omega (arith, t, e)) f.1

-- where the entries of a header stand
-- entry j of a header of relocations, which was read: it stands there, and lies in the file
pub record EntryHere (b : List ℕ) (h j : ℕ) (f : Header) : Type 0 where
  pub stands : IsRelocAt b h j (f.offset + 8 * j)
  pub inside : f.offset + 8 * j + 8 ≤ length b
  pub info : f.info ≡ (header b h).info

module _ (b : List ℕ) (h : ℕ) (tabled : IsTabled b) (i : IsHeader b h) (k : is_kept_relocs b h ≡ true) where
  is_rel : IsKind b h rel
  is_rel = (i.behind_null, i.there, eqb-true _ _ (and_parts ((header b h).kind == rel) (is_kept b (header b h).info) k).0)

  pub target_there : IsHeader b (header b h).info
  target_there = (tabled.targets h is_rel).listed

  pub entry_inside : (j : ℕ) → j < (header b h).size / 8 → ((header b h).offset + 8 * j) + 8 ≤ length b
  entry_inside j l =
      let kind : (header b h).kind ≡ rel = is_rel.2 in
      let inside = tabled.inside h i (λ e. absurd (omega (arith, kind, e))) in
      omega (arith, inside, l)

  pub entry_at : (j : ℕ) → j < (header b h).size / 8 → IsRelocAt b h j ((header b h).offset + 8 * j)
  entry_at j l = record { table = is_rel; of_kept = (and_parts ((header b h).kind == rel) (is_kept b (header b h).info) k).1; there = l; place = refl }

  pub entry_here : (j : ℕ) (f : Header) → f ≡ header b h → j < f.size / 8 → EntryHere b h j f
  entry_here j f same lt =
      let many : j < (header b h).size / 8 = subst (λ (x : Header). j < x.size / 8) same lt in
      let place : f.offset ≡ (header b h).offset = ap (λ (x : Header). x.offset) same in
      record {
        stands = subst (λ (o : ℕ). IsRelocAt b h j (o + 8 * j)) (sym place) (entry_at j many);
        inside = omega (arith, entry_inside j many, place);
        info = ap (λ (x : Header). x.info) same;
      }

  pub lowest_target : (p : Place) → p.section ≡ h → p.offset ≡ header_place b h + 28 → (header b (header b h).info).kind ≡ nobits → IsLowestIn (TargetFault b h) h (Some p)
  lowest_target p e f n = (e, (is_rel, (and_parts ((header b h).kind == rel) (is_kept b (header b h).info) k).1, n, f), λ o t l. omega (arith, t.3, f, l))

-- the lower one of two places of a header
pub lower_in : (P Q R : ℕ → Type 0) (h : ℕ) (x y : Option Place) → ((o : ℕ) → R o → P o ⊎ Q o) → ((o : ℕ) → P o → R o) → ((o : ℕ) → Q o → R o) → IsLowestIn P h x → IsLowestIn Q h y → IsLowestIn R h (lower_of x y)
lower_in P Q R h None None split left right a c = λ o r. elim (split o r) [ inl p ↦ a o p | inr q ↦ c o q ]
lower_in P Q R h None (Some q) split left right a c = (c.0, right q.offset c.1, λ o r l. elim (split o r) [ inl p ↦ a o p | inr d ↦ c.2 o d l ])
lower_in P Q R h (Some p) None split left right a c = (a.0, left p.offset a.1, λ o r l. elim (split o r) [ inl d ↦ a.2 o d l | inr q ↦ c o q ])
lower_in P Q R h (Some p) (Some q) split left right a c = go (nat_lt q.section p.section || ((q.section == p.section) && nat_lt q.offset p.offset)) refl
  where
    go : (t : Bool) → (nat_lt q.section p.section || ((q.section == p.section) && nat_lt q.offset p.offset)) ≡ t → IsLowestIn R h (cond t (Some q) (Some p))
    go true e =
        let lower : q.offset < p.offset = elim (or_cases (nat_lt q.section p.section) ((q.section == p.section) && nat_lt q.offset p.offset) e) [
          | inl l ↦ absurd (let m = ltb-true q.section p.section l in omega (arith, m, a.0, c.0))
          | inr l ↦ ltb-true q.offset p.offset (and_parts (q.section == p.section) (nat_lt q.offset p.offset) l).1
        ] in
        (c.0, right q.offset c.1, λ o r l. elim (split o r) [ inl d ↦ a.2 o d (omega (arith, l, lower)) | inr d ↦ c.2 o d l ])
    go false e =
        let parts = or_parts (nat_lt q.section p.section) ((q.section == p.section) && nat_lt q.offset p.offset) e in
        let same : q.section ≡ p.section = c.0 ∙ sym a.0 in
        let not_lower : p.offset ≤ q.offset = elim (cases_lt q.offset p.offset) [
          | inl l ↦ absurd (both_ways _ parts.1 (and_from (q.section == p.section) (nat_lt q.offset p.offset) (eq-eqb q.section p.section same) (lt-ltb q.offset p.offset l)))
          | inr l ↦ l
        ] in
        (a.0, left p.offset a.1, λ o r l. elim (split o r) [ inl d ↦ a.2 o d l | inr d ↦ c.2 o d (omega (arith, l, not_lower)) ])

module _ (b : List ℕ) where
  split_fault : (h o : ℕ) → RelocFault b h o → TargetFault b h o ⊎ EntryFault b h o
  split_fault h o (by_entry j bad) = inr (j, bad)
  split_fault h o (by_target k kept n e) = inl (k, kept, n, e)

  pub lowest_of_both : (h : ℕ) (x y : Option Place) → IsLowestIn (TargetFault b h) h x → IsLowestIn (EntryFault b h) h y → IsLowestIn (RelocFault b h) h (lower_of x y)
  lowest_of_both h x y = lower_in (TargetFault b h) (EntryFault b h) (RelocFault b h) h x y (split_fault h) (λ o t. by_target t.0 t.1 t.2 t.3) (λ o e. by_entry e.0 e.1)

  -- only headers of relocations have such faults
  of_relocs : (h o : ℕ) → RelocFault b h o → IsKind b h rel × (is_kept b (header b h).info ≡ true)
  of_relocs h o (by_entry j bad) = (bad.stands.table, bad.stands.of_kept)
  of_relocs h o (by_target k kept n e) = (k, kept)

  pub no_relocs : (h : ℕ) → is_kept_relocs b h ≡ false → IsLowestIn (RelocFault b h) h None
  no_relocs h e o f = let k = of_relocs h o f in both_ways _ e (and_from _ _ (eq-eqb _ _ k.0.2) k.1)

  pub no_entry_at : (h : ℕ) → is_kept_relocs b h ≡ false → (j r : ℕ) → IsRelocAt b h j r → j < 0
  no_entry_at h e j r at = absurd (both_ways _ e (and_from _ _ (eq-eqb _ _ at.table.2) at.of_kept))

  found : (l : Limit) (s o : ℕ) → Fault b l BadReloc s o → RelocFault b s o
  found l s o (bad_symbol h j r at n k) = by_entry j (record { r = r; stands = at; wrong = inr (refl, n, k) })
  found l s o (bad_place h j r at n) = by_entry j (record { r = r; stands = at; wrong = inl (refl, inl n) })
  found l s o (second_place g i q h j r before first at of same) = by_entry j (record { r = r; stands = at; wrong = inl (refl, inr (record { g = g; i = i; q = q; before = before; stands = first; of = of; at = same })) })
  found l s o (nobits_target h k kept n) = by_target k kept n refl

  there_entry : (l : Limit) (h j o : ℕ) → BadEntry b h j o → Fault b l BadReloc h o
  there_entry l h j o bad = elim bad.wrong [
    | inl w ↦ subst (λ (x : ℕ). Fault b l BadReloc h x) (sym w.0) (elim w.1 [
      | inl p ↦ bad_place h j bad.r bad.stands p
      | inr e ↦ second_place e.g e.i e.q h j bad.r e.before e.stands bad.stands e.of e.at
    ])
    | inr w ↦ subst (λ (x : ℕ). Fault b l BadReloc h x) (sym w.0) (bad_symbol h j bad.r bad.stands w.1 w.2)
  ]

  there : (l : Limit) (h o : ℕ) → RelocFault b h o → Fault b l BadReloc h o
  there l h o (by_entry j bad) = there_entry l h j o bad
  there l h o (by_target k kept n e) = subst (λ (x : ℕ). Fault b l BadReloc h x) (sym e) (nobits_target h k kept n)

  pub none_start : NoneUnder (RelocFault b) 1
  none_start s o u f = let k = of_relocs s o f in omega (arith, u, k.0.0)

  pub none_next : (h : ℕ) → NoneUnder (RelocFault b) h → IsLowestIn (RelocFault b h) h None → NoneUnder (RelocFault b) (h + 1)
  none_next h none here = under_more (RelocFault b) h none here

  pub lowest_found : (l : Limit) (h : ℕ) (p : Place) → NoneUnder (RelocFault b) h → IsLowestIn (RelocFault b h) h (Some p) → IsLowest (Fault b l BadReloc) (Some p)
  lowest_found l h p none at =
      lowest_at (Fault b l BadReloc) h p.offset (λ s o u f. none s o u (found l s o f)) (there l h p.offset at.1) (λ o f u. at.2 o (found l h o f) u) p at.0 refl

  pub lowest_some : (l : Limit) (h : ℕ) (o : Option Place) → is_some o ≡ true → NoneUnder (RelocFault b) h → IsLowestIn (RelocFault b h) h o → IsLowest (Fault b l BadReloc) o
  lowest_some l h None e none at = absurd (false≢true e)
  lowest_some l h (Some p) e none at = lowest_found l h p none at

  pub next_none : (h : ℕ) (o : Option Place) → is_some o ≡ false → NoneUnder (RelocFault b) h → IsLowestIn (RelocFault b h) h o → NoneUnder (RelocFault b) (h + 1)
  next_none h None e none at = none_next h none at
  next_none h (Some p) e none at = absurd (true≢false e)

  pub lowest_nowhere : (l : Limit) → NoneUnder (RelocFault b) (header_count b) → IsLowest (Fault b l BadReloc) None
  lowest_nowhere l none = λ s o f. none s o (let k = of_relocs s o (found l s o f) in k.0.1) (found l s o f)

pub if_none : (P : Type 0) (o : Option Place) → is_some o ≡ false → IfNone o P → P
if_none P None e p = p
if_none P (Some x) e p = absurd (true≢false e)
