-- Which of a unit and a word is next.
use Rattle.std.proofs.Common.{◌≡◌, ℕ, ◌+◌, ◌<◌, ◌≤◌, ◌⊎◌, inl, inr, List, length, map, refl, sym, ap, ◌∙◌, subst, arith, Some, Bool, true, false}
use Rattle.std.specs.Prelude.{nat_lt}
use Rattle.std.proofs.lemmas.Bool.{ltb-true, ltb-false}
use Rattle.std.specs.Prelude.{slice_get, Contains}
use Rattle.std.specs.Option.{option_map}
use Rattle.std.specs.declared.cmp.Ordering.{Ordering}
use Rattle.std.specs.declared.cmp.Ordering.TheVariants.{Less, Equal, Greater}
use Rattle.std.specs.Ordering.{nat_cmp, ordering_then}
use Rattle.std.proofs.lemmas.Cmp.{ranked}
use Rattle.std.proofs.lemmas.Option.{slice_get-map, slice_get_within, same_Some}
use Rattle.std.proofs.lemmas.List.{length-map}
use Rattle.elf_model.proofs.Elements.{contains_at}
use Rattle.code_ranges.specs.Spans.{place_cmp}
use Rattle.seq_core.specs.declared.units.Unit.{Unit as SeqUnit}
use Rattle.flow_recover.specs.declared.flows.PoolWord.{PoolWord}
use Rattle.branch_layout.specs.Placings.{unit_point, word_point}
use Rattle.branch_layout.specs.Given.{CanLay}
use Rattle.branch_layout.specs.Standing.{IsNext}

abbrev pub IsBelow : ℕ × ℕ → ℕ × ℕ → Type 0
IsBelow p q = (p.0 < q.0) ⊎ ((p.0 ≡ q.0) × (p.1 < q.1))

pub less_is : (p q : ℕ × ℕ) → IsBelow p q → place_cmp p q ≡ Less
less_is p q h = go (nat_cmp p.0 q.0) refl (nat_cmp p.1 q.1) refl
  where
    go : (a : Ordering) → nat_cmp p.0 q.0 ≡ a → (b : Ordering) → nat_cmp p.1 q.1 ≡ b → ordering_then a b ≡ Less
    go Less e b f = refl
    go Greater e b f = let g : q.0 < p.0 = ranked p.0 q.0 Greater (sym e) in absurd (elim h [ inl l ↦ omega arith | inr s ↦ let t : p.0 ≡ q.0 = s.0 in omega arith ])
    go Equal e Less f = refl
    go Equal e Equal f =
        let g : p.0 ≡ q.0 = ranked p.0 q.0 Equal (sym e) in
        let k : p.1 ≡ q.1 = ranked p.1 q.1 Equal (sym f) in
        absurd (elim h [ inl l ↦ omega arith | inr s ↦ let t : p.1 < q.1 = s.1 in omega arith ])
    go Equal e Greater f =
        let g : p.0 ≡ q.0 = ranked p.0 q.0 Equal (sym e) in
        let k : q.1 < p.1 = ranked p.1 q.1 Greater (sym f) in
        absurd (elim h [ inl l ↦ omega arith | inr s ↦ let t : p.1 < q.1 = s.1 in omega arith ])

module _ {A B : Type 0} (a_point : A → ℕ × ℕ) (b_point : B → ℕ × ℕ) (ones : List A) (others : List B) (i k : ℕ) (a : A) (at : slice_get ones i ≡ Some a) where
  -- nothing of the other list is left
  pub next_alone : length others ≤ k → IsNext (map a_point ones) (map b_point others) i k
  next_alone past = record {
    place = a_point a;
    there = slice_get-map a_point ones i ∙ ap (option_map a_point) at;
    before = λ q e.
        let within : k < length (map b_point others) = slice_get_within (map b_point others) k q e in
        let long : length (map b_point others) ≡ length others = length-map others b_point in
        absurd (omega arith);
  }

  pub next_before : (b : B) → slice_get others k ≡ Some b → IsBelow (a_point a) (b_point b) → IsNext (map a_point ones) (map b_point others) i k
  next_before b there below = record {
    place = a_point a;
    there = slice_get-map a_point ones i ∙ ap (option_map a_point) at;
    before = λ q e.
        let same : b_point b ≡ q = same_Some (b_point b) q (sym (slice_get-map b_point others k ∙ ap (option_map b_point) there) ∙ e) in
        subst (λ (r : ℕ × ℕ). place_cmp (a_point a) r ≡ Less) same (less_is (a_point a) (b_point b) below);
  }

-- A word that is not behind a unit is before it, since no two stand at one place.
pub word_below : (units : List SeqUnit) (words : List PoolWord) (i k : ℕ) (u : SeqUnit) (w : PoolWord) → CanLay units words → slice_get units i ≡ Some u → slice_get words k ≡ Some w
    → w.section ≤ u.section → (w.section ≡ u.section → w.offset ≤ u.old) → IsBelow (word_point w) (unit_point u)
word_below units words i k u w given at there low level = go (nat_cmp w.section u.section) refl (nat_cmp w.offset u.old) refl
  where
    go : (a : Ordering) → nat_cmp w.section u.section ≡ a → (b : Ordering) → nat_cmp w.offset u.old ≡ b → IsBelow (word_point w) (unit_point u)
    go Less e b f = inl (ranked w.section u.section Less (sym e))
    go Greater e b f = let g : u.section < w.section = ranked w.section u.section Greater (sym e) in absurd (omega arith)
    go Equal e Less f = inr (ranked w.section u.section Equal (sym e), ranked w.offset u.old Less (sym f))
    go Equal e Greater f =
        let g : w.section ≡ u.section = ranked w.section u.section Equal (sym e) in
        let h : u.old < w.offset = ranked w.offset u.old Greater (sym f) in
        let l : w.offset ≤ u.old = level g in
        absurd (omega arith)
    go Equal e Equal f =
        let g : w.section ≡ u.section = ranked w.section u.section Equal (sym e) in
        let h : w.offset ≡ u.old = ranked w.offset u.old Equal (sym f) in
        let same : word_point w ≡ unit_point u = ap (λ (s : ℕ). (s, w.offset)) g ∙ ap (λ (o : ℕ). (u.section, o)) h in
        let one = contains_at (map unit_point units) i (unit_point u) (slice_get-map unit_point units i ∙ ap (option_map unit_point) at) in
        let two = contains_at (map word_point words) k (word_point w) (slice_get-map word_point words k ∙ ap (option_map word_point) there) in
        absurd (given.apart (unit_point u) one (subst (Contains (map word_point words)) same two))

-- one of two lists has more
pub either_left : (i a k b : ℕ) → i + k < a + b → (i < a) ⊎ (k < b)
either_left i a k b lt = go (nat_lt i a) refl
  where
    go : (t : Bool) → nat_lt i a ≡ t → (i < a) ⊎ (k < b)
    go true e = inl (ltb-true i a e)
    go false e = let g : a ≤ i = ltb-false i a e in inr (omega arith)

pub next_within : {A : Type 0} (f : A → ℕ × ℕ) (xs : List A) (i : ℕ) (q : ℕ × ℕ) → slice_get (map f xs) i ≡ Some q → i < length xs
next_within f xs i q e =
    let lt : i < length (map f xs) = slice_get_within (map f xs) i q e in
    let long : length (map f xs) ≡ length xs = length-map xs f in
    omega arith
