-- A section has one part, and an address of data lies in a part of both lists or in a gap of both.
use Rattle.std.specs.Prelude.{◌≡◌, ◌<◌, ◌≤◌, ◌⊎◌, ℕ, zero, suc, ◌+◌, ◌-◌, not, Bool, true, false, cond, List, [], ◌∷◌, ◌++◌, length, replicate, get_or, Some, slice_get, Contains, refl}
use Rattle.std.proofs.Common.{arith, inl, inr, ap, sym, ◌∙◌, subst}
use Rattle.std.proofs.lemmas.Bool.{cases_Bool, cases_lt, and_parts, or_right, not-true}
use Rattle.std.proofs.lemmas.List.{length-replicate, length-append, get_or_append_left}
use Rattle.std.proofs.lemmas.Option.{same_Some}
use Rattle.elf_model.specs.declared.objects.Section.{Section}
use Rattle.elf_model.specs.Canonical.{round_up}
use Rattle.elf_model.specs.Objects.{ObjectParts, is_code, is_data, is_alloc}
use Rattle.thumb_table.specs.declared.placements.Placement.{Placement}
use Rattle.thumb_table.specs.Layouts.{Placed, chosen, all_chosen, placed, part_bytes, bytes_from, data_parts}
use Rattle.sim_images.specs.ImageLaws.{Here}
use Rattle.elf_model.proofs.Elements.{contains_cases, contains_none, contains_here, contains_later}
use Rattle.std.proofs.lemmas.List.Elements.{Contains-append_cases}
use Rattle.sim_images.proofs.RawBytes.{AllGood, begun, begins, rest_good, next, tail, gap, in_tail}
use Rattle.sim_images.proofs.PartFacts.{chosen_is, all_chosen_is, unplaced, comes_from, part_is}
use Rattle.sim_images.proofs.RightPlaces.{no_data}
use Rattle.sim_images.proofs.EachLinked.{has_part}
use Rattle.sim_images.proofs.DataStay.{Alike, AllAlike, none, some}

data Once : List Placed → Type 0 where
  empty : Once []
  first : (p : Placed) (ps : List Placed) → ((q : Placed) → Contains ps q → q.object ≡ p.object → q.index ≡ p.index → ⊥) → Once ps → Once (p ∷ ps)

the_one : (ps : List Placed) → Once ps → (p q : Placed) → Contains ps p → Contains ps q → q.object ≡ p.object → q.index ≡ p.index → p ≡ q
the_one _ empty p q c d e f = absurd (contains_none p c)
the_one _ (first x xs far more) p q c d e f =
    elim (contains_cases x xs p c) [
      | inl a ↦ elim (contains_cases x xs q d) [
        | inl b ↦ sym a ∙ b
        | inr s ↦ absurd (far q s (e ∙ sym (ap (λ (z : Placed). z.object) a)) (f ∙ sym (ap (λ (z : Placed). z.index) a)))
      ]
      | inr r ↦ elim (contains_cases x xs q d) [
        | inl b ↦ absurd (far p r (sym e ∙ sym (ap (λ (z : Placed). z.object) b)) (sym f ∙ sym (ap (λ (z : Placed). z.index) b)))
        | inr s ↦ the_one xs more p q r s e f
      ]
    ]

chosen_once : (sort : Section → Bool) (i j k : ℕ) (sections : List Section) → Once (chosen sort i j k sections)
chosen_once sort i j k [] = empty
chosen_once sort i j k (s ∷ rest) =
    let head : Placed = record { object = i; index = j; ordinal = k; start = 0; section = s } in
    elim (cases_Bool (sort s)) [
      | inl y ↦
          subst (λ (l : List Placed). Once l) (sym (ap (λ (b : Bool). cond b (head ∷ chosen sort i (j + 1) (k + 1) rest) (chosen sort i (j + 1) k rest)) y))
          (first head (chosen sort i (j + 1) (k + 1) rest) (λ q c e f. let h = chosen_is sort i (j + 1) (k + 1) rest q c in let n = h.index in omega arith) (chosen_once sort i (j + 1) (k + 1) rest))
      | inr n ↦
          subst (λ (l : List Placed). Once l) (sym (ap (λ (b : Bool). cond b (head ∷ chosen sort i (j + 1) (k + 1) rest) (chosen sort i (j + 1) k rest)) n)) (chosen_once sort i (j + 1) k rest)
    ]

append_once : (xs ys : List Placed) → Once xs → Once ys → ((p q : Placed) → Contains xs p → Contains ys q → q.object ≡ p.object → ⊥) → Once (xs ++ ys)
append_once _ ys empty b far = b
append_once _ ys (first x xs apart more) b far =
    first x (xs ++ ys) (λ q c e f. elim (Contains-append_cases xs ys q c) [ inl l ↦ apart q l e f | inr r ↦ far x q (contains_here x xs) r e ]) (append_once xs ys more b (λ p q c d. far p q (contains_later x xs p c) d))

all_once : (sort : Section → Bool) (i : ℕ) (objects : List ObjectParts) → Once (all_chosen sort i objects)
all_once sort i [] = empty
all_once sort i (o ∷ rest) =
    append_once (chosen sort i 0 0 o.sections) (all_chosen sort (i + 1) rest) (chosen_once sort i 0 0 o.sections) (all_once sort (i + 1) rest)
    (λ p q c d e. let a = (chosen_is sort i 0 0 o.sections p c).object in let h = all_chosen_is sort (i + 1) rest q d in let b = h.file in omega arith)

placed_once : (alignment : Section → ℕ) (from : ℕ) (ps : List Placed) → Once ps → Once (placed alignment from ps)
placed_once alignment from _ empty = empty
placed_once alignment from _ (first x xs far more) =
    first (begun alignment from x) (placed alignment ((begun alignment from x).start + x.section.size) xs)
    (λ q c e f. let u = unplaced alignment ((begun alignment from x).start + x.section.size) xs q c in far u.0 u.1 (u.3 ∙ e) (u.4 ∙ f))
    (placed_once alignment ((begun alignment from x).start + x.section.size) xs more)

-- a part of data is its section's part
pub here_of : (objects : List ObjectParts) (at : Placement) (p : Placed) → Contains (data_parts objects at) p → (o : ObjectParts) × Here objects at p.object o p.index p × (is_data p.section ≡ true)
here_of objects at p c =
    let h = comes_from is_data (λ s. s.align) (at.base + at.room) objects p c in
    let number : h.number ≡ p.object = let e = h.file in omega arith in
    let there : slice_get objects p.object ≡ Some h.object = ap (λ (n : ℕ). slice_get objects n) (sym number) ∙ h.there in
    let g = has_part objects at p.object p.index h.object p.section there h.section (or_right (is_code p.section) (is_data p.section) h.is_sort) in
    let f = part_is objects at p.object p.index g.0 g.1.part in
    let same : g.0.section ≡ p.section = same_Some g.0.section p.section (sym g.1.section ∙ h.section) in
    elim (f.sort) [
      | inl code ↦ absurd (no_data p.section (ap (λ (z : Section). is_code z) (sym same) ∙ code.1) h.is_sort)
      | inr datum ↦
          let one : p ≡ g.0 = the_one (data_parts objects at) (placed_once (λ s. s.align) (at.base + at.room) (all_chosen is_data 0 objects) (all_once is_data 0 objects)) p g.0 c datum.0 f.file f.index in
          (h.object, subst (λ (z : Placed). Here objects at p.object h.object p.index z) (sym one) g.1, h.is_sort)
    ]

-- where an address of data lies in two lists of parts
pub data Lies (ps qs : List Placed) (a x y : ℕ) : Type 0 where
  inside : (p q : Placed) → Contains ps p → Contains qs q → Alike p q → q.start ≡ p.start → p.start ≤ a → a < p.start + p.section.size → Lies ps qs a x y
  between : ((p : Placed) → Contains ps p → (a < p.start) ⊎ (p.start + p.section.size ≤ a)) → ((q : Placed) → Contains qs q → (a < q.start) ⊎ (q.start + q.section.size ≤ a)) → x ≡ 0 → y ≡ 0 → Lies ps qs a x y

pub zeros : (n k : ℕ) → ◌≡◌ {A = ℕ} (get_or {A = ℕ} (replicate {A = ℕ} n 0) k 0) 0
zeros zero k = refl
zeros (suc n) zero = refl
zeros (suc n) (suc k) = zeros n k

abbrev raw : ℕ → List Placed → ℕ → ℕ
raw f ps a = get_or (bytes_from f (placed (λ s. s.align) f ps)) (a - f) 0

in_gap : (f : ℕ) (p : Placed) (ps : List Placed) (a : ℕ) → a < round_up f p.section.align → f ≤ a → raw f (p ∷ ps) a ≡ 0
in_gap f p ps a lt le =
    let size : length (gap (λ s. s.align) f p) ≡ round_up f p.section.align - f = length-replicate (round_up f p.section.align - f) 0 in
    let front : length (gap (λ s. s.align) f p ++ part_bytes p.section) ≡ length (gap (λ s. s.align) f p) + length (part_bytes p.section) = length-append (gap (λ s. s.align) f p) (part_bytes p.section) in
    let short : a - f < length (gap (λ s. s.align) f p) = omega arith in
    let short2 : a - f < length (gap (λ s. s.align) f p ++ part_bytes p.section) = omega arith in
    get_or_append_left (gap (λ s. s.align) f p ++ part_bytes p.section) (tail (λ s. s.align) f p ps) 0 (a - f) short2
    ∙ (get_or_append_left (gap (λ s. s.align) f p) (part_bytes p.section) 0 (a - f) short ∙ zeros (round_up f p.section.align - f) (a - f))

after_first : (f : ℕ) (p : Placed) (ps : List Placed) → AllGood (λ s. s.align) (p ∷ ps) → (a : ℕ) → a < round_up f p.section.align → (z : Placed) → Contains (placed (λ s. s.align) f (p ∷ ps)) z → (a < z.start) ⊎ (z.start + z.section.size ≤ a)
after_first f p ps good a lt z c =
    elim (contains_cases (begun (λ s. s.align) f p) (placed (λ s. s.align) (next (λ s. s.align) f p) ps) z c) [
      | inl e ↦ inl (subst (λ (v : Placed). a < v.start) e lt)
      | inr r ↦ let low = begins (λ s. s.align) (next (λ s. s.align) f p) ps (rest_good (λ s. s.align) p ps good) z r in inl (omega arith)
    ]

past_first : (f : ℕ) (p : Placed) (ps : List Placed) (a : ℕ) → next (λ s. s.align) f p ≤ a → ((z : Placed) → Contains (placed (λ s. s.align) (next (λ s. s.align) f p) ps) z → (a < z.start) ⊎ (z.start + z.section.size ≤ a))
    → (z : Placed) → Contains (placed (λ s. s.align) f (p ∷ ps)) z → (a < z.start) ⊎ (z.start + z.section.size ≤ a)
past_first f p ps a le more z c =
    elim (contains_cases (begun (λ s. s.align) f p) (placed (λ s. s.align) (next (λ s. s.align) f p) ps) z c) [
      | inl e ↦ inr (subst (λ (v : Placed). v.start + v.section.size ≤ a) e le)
      | inr r ↦ more z r
    ]

pub lies : (f g : ℕ) → g ≡ f → (ps qs : List Placed) → AllAlike ps qs → ((p : Placed) → Contains ps p → is_data p.section ≡ true) → AllGood (λ s. s.align) ps → AllGood (λ s. s.align) qs → (a : ℕ) → f ≤ a
    → Lies (placed (λ s. s.align) f ps) (placed (λ s. s.align) g qs) a (raw f ps a) (raw g qs a)
lies f g same _ _ none d gp gq a le = between (λ p c. absurd (contains_none p c)) (λ p c. absurd (contains_none p c)) refl refl
lies f g same _ _ (some p q ps qs e more) d gp gq a le =
    let out : is_code p.section ≡ false = not-true (is_code p.section) (and_parts (is_alloc p.section.flags) (not (is_code p.section)) (d p (contains_here p ps))).1 in
    let start : round_up g q.section.align ≡ round_up f p.section.align = ap (λ (n : ℕ). round_up n q.section.align) same ∙ ap (λ (n : ℕ). round_up f n) (e.align out) in
    let size : q.section.size ≡ p.section.size = e.size out in
    let further : next (λ s. s.align) g q ≡ next (λ s. s.align) f p = omega arith in
    let low : g ≤ a = omega arith in
    elim (cases_lt a (round_up f p.section.align)) [
      | inl under ↦
          let too : a < round_up g q.section.align = omega arith in
          between (after_first f p ps gp a under) (after_first g q qs gq a too) (in_gap f p ps a under le) (in_gap g q qs a too low)
      | inr over ↦ elim (cases_lt a (next (λ s. s.align) f p)) [
        | inl under ↦
            inside (begun (λ s. s.align) f p) (begun (λ s. s.align) g q) (contains_here (begun (λ s. s.align) f p) (placed (λ s. s.align) (next (λ s. s.align) f p) ps)) (contains_here (begun (λ s. s.align) g q) (placed (λ s. s.align) (next (λ s. s.align) g q) qs))
            (record { object = e.object; index = e.index; start = λ c. start; size = e.size; align = e.align }) start over under
        | inr far ↦
            let far2 : next (λ s. s.align) g q ≤ a = omega arith in
            go far far2
            (lies (next (λ s. s.align) f p) (next (λ s. s.align) g q) further ps qs more (λ z h. d z (contains_later p ps z h)) (rest_good (λ s. s.align) p ps gp) (rest_good (λ s. s.align) q qs gq) a far)
      ]
    ]
  where
    go : next (λ s. s.align) f p ≤ a → next (λ s. s.align) g q ≤ a
        → Lies (placed (λ s. s.align) (next (λ s. s.align) f p) ps) (placed (λ s. s.align) (next (λ s. s.align) g q) qs) a (raw (next (λ s. s.align) f p) ps a) (raw (next (λ s. s.align) g q) qs a)
        → Lies (placed (λ s. s.align) f (p ∷ ps)) (placed (λ s. s.align) g (q ∷ qs)) a (raw f (p ∷ ps) a) (raw g (q ∷ qs) a)
    go far far2 (inside x y c h al st l1 l2) =
        inside x y (contains_later (begun (λ s. s.align) f p) (placed (λ s. s.align) (next (λ s. s.align) f p) ps) x c) (contains_later (begun (λ s. s.align) g q) (placed (λ s. s.align) (next (λ s. s.align) g q) qs) y h) al st l1 l2
    go far far2 (between m n x y) =
        between (past_first f p ps a far m) (past_first g q qs a far2 n) (in_tail (λ s. s.align) f p ps gp a far ∙ x) (in_tail (λ s. s.align) g q qs gq a far2 ∙ y)
