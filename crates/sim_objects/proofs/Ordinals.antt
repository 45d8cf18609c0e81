-- A part of code has the number of its section among the code sections of its object, in both lists.
use Rattle.std.specs.Prelude.{◌≡◌, ◌≤◌, ℕ, zero, suc, ◌+◌, max, Bool, true, false, cond, List, [], ◌∷◌, length, take, count_by, Some, slice_get, Contains, refl}
use Rattle.std.proofs.Common.{arith, inl, inr, ap, sym, ◌∙◌, subst}
use Rattle.std.proofs.lemmas.Bool.{cases_Bool}
use Rattle.std.proofs.lemmas.List.Elements.{Contains-append_cases}
use Rattle.std.proofs.lemmas.Option.{same_Some}
use Rattle.elf_model.specs.declared.objects.Section.{Section}
use Rattle.elf_model.specs.Objects.{ObjectParts, is_code}
use Rattle.elf_model.proofs.Elements.{contains_cases, contains_none, contains_here, contains_later}
use Rattle.elf_model.proofs.Lists.{count_cons}
use Rattle.thumb_table.specs.declared.placements.Placement.{Placement}
use Rattle.thumb_table.specs.Layouts.{Placed, chosen, all_chosen, placed}
use Rattle.sim_images.specs.ImageLaws.{Here}
use Rattle.sim_images.proofs.ImageFacts.{is_code_part}
use Rattle.sim_images.proofs.PartFacts.{chosen_is, all_chosen_is, part_is}
use Rattle.sim_images.proofs.RawBytes.{begun}

-- a chosen part, in sections from the j-th on, of which the first one chosen has the number k
record IsNumbered (sort : Section → Bool) (j k : ℕ) (sections : List Section) (q : Placed) : Type 0 where
  pub number : ℕ
  pub index : q.index ≡ j + number
  pub ordinal : q.ordinal ≡ k + count_by sort (take number sections)

count_met : (sort : Section → Bool) (s : Section) (rest : List Section) → sort s ≡ true → count_by sort (s ∷ rest) ≡ 1 + count_by sort rest
count_met sort s rest y = count_cons sort s rest ∙ ap (λ (b : Bool). cond b (1 + count_by sort rest) (count_by sort rest)) y

count_other : (sort : Section → Bool) (s : Section) (rest : List Section) → sort s ≡ false → count_by sort (s ∷ rest) ≡ count_by sort rest
count_other sort s rest n = count_cons sort s rest ∙ ap (λ (b : Bool). cond b (1 + count_by sort rest) (count_by sort rest)) n

chosen_numbered : (sort : Section → Bool) (i j k : ℕ) (sections : List Section) (q : Placed) → Contains (chosen sort i j k sections) q → IsNumbered sort j k sections q
chosen_numbered sort i j k [] q c = absurd (contains_none q c)
chosen_numbered sort i j k (s ∷ rest) q c =
    let first : Placed = record { object = i; index = j; ordinal = k; start = 0; section = s } in
    let more : List Placed = chosen sort i (j + 1) (k + 1) rest in
    elim (cases_Bool (sort s)) [
      | inl y ↦
          elim (contains_cases first more q (subst (λ (l : List Placed). Contains l q) (ap (λ (b : Bool). cond b (first ∷ more) (chosen sort i (j + 1) k rest)) y) c)) [
            | inl e ↦
                let index : j ≡ j + 0 = omega arith in
                let ordinal : k ≡ k + count_by sort (take 0 (s ∷ rest)) = omega arith in
                subst (λ (z : Placed). IsNumbered sort j k (s ∷ rest) z) e (record { number = 0; index = index; ordinal = ordinal })
            | inr r ↦
                let h = chosen_numbered sort i (j + 1) (k + 1) rest q r in
                let index = h.index in
                let ordinal = h.ordinal in
                let all = count_met sort s (take h.number rest) y in
                record { number = suc h.number; index = omega (arith, index); ordinal = omega (arith, ordinal, all) }
          ]
      | inr n ↦
          let h = chosen_numbered sort i (j + 1) k rest q (subst (λ (l : List Placed). Contains l q) (ap (λ (b : Bool). cond b (first ∷ more) (chosen sort i (j + 1) k rest)) n) c) in
          let index = h.index in
          let ordinal = h.ordinal in
          let all = count_other sort s (take h.number rest) n in
          record { number = suc h.number; index = omega (arith, index); ordinal = omega (arith, ordinal, all) }
    ]

all_numbered : (sort : Section → Bool) (i : ℕ) (objects : List ObjectParts) (q : Placed) → Contains (all_chosen sort i objects) q
    → (n : ℕ) (o : ObjectParts) → q.object ≡ i + n → slice_get objects n ≡ Some o → q.ordinal ≡ count_by sort (take q.index o.sections)
all_numbered sort i [] q c n o file there = absurd (contains_none q c)
all_numbered sort i (p ∷ rest) q c zero o file there =
    elim (Contains-append_cases (chosen sort i 0 0 p.sections) (all_chosen sort (i + 1) rest) q c) [
      | inl a ↦
          let h = chosen_numbered sort i 0 0 p.sections q a in
          let index : h.number ≡ q.index = let e = h.index in omega (arith, e) in
          let ordinal : q.ordinal ≡ count_by sort (take h.number p.sections) = let e = h.ordinal in omega (arith, e) in
          ordinal ∙ ap (λ (m : ℕ). count_by sort (take m p.sections)) index ∙ ap (λ (z : ObjectParts). count_by sort (take q.index z.sections)) (same_Some p o there)
      | inr b ↦ let h = all_chosen_is sort (i + 1) rest q b in let e = h.file in absurd (omega (arith, e, file))
    ]
all_numbered sort i (p ∷ rest) q c (suc n) o file there =
    elim (Contains-append_cases (chosen sort i 0 0 p.sections) (all_chosen sort (i + 1) rest) q c) [
      | inl a ↦ let e = (chosen_is sort i 0 0 p.sections q a).object in absurd (omega (arith, e, file))
      | inr b ↦ let further : q.object ≡ i + 1 + n = omega (arith, file) in all_numbered sort (i + 1) rest q b n o further there
    ]

-- placing changes no number
placed_numbered : (alignment : Section → ℕ) (from : ℕ) (ps : List Placed) (p : Placed) → Contains (placed alignment from ps) p
    → (q : Placed) × Contains ps q × (q.object ≡ p.object) × (q.index ≡ p.index) × (q.ordinal ≡ p.ordinal)
placed_numbered alignment from [] p c = absurd (contains_none p c)
placed_numbered alignment from (q ∷ ps) p c =
    elim (contains_cases (begun alignment from q) (placed alignment ((begun alignment from q).start + q.section.size) ps) p c) [
      | inl e ↦ (q, contains_here q ps, ap (λ (z : Placed). z.object) e, ap (λ (z : Placed). z.index) e, ap (λ (z : Placed). z.ordinal) e)
      | inr r ↦ let h = placed_numbered alignment ((begun alignment from q).start + q.section.size) ps p r in (h.0, contains_later q ps h.0 h.1, h.2, h.3, h.4)
    ]

pub ordinal_is : (objects : List ObjectParts) (at : Placement) (i j : ℕ) (o : ObjectParts) (p : Placed) → Here objects at i o j p → is_code p.section ≡ true → p.ordinal ≡ count_by is_code (take j o.sections)
ordinal_is objects at i j o p here code =
    let h = part_is objects at i j p here.part in
    let u = placed_numbered (λ s. max 4 s.align) at.base (all_chosen is_code 0 objects) p (is_code_part objects at i j p h code) in
    let file : u.0.object ≡ 0 + i = let a = u.2 in let b = h.file in omega (arith, a, b) in
    sym u.4 ∙ all_numbered is_code 0 objects u.0 u.1 i o file here.object ∙ ap (λ (m : ℕ). count_by is_code (take m o.sections)) (u.3 ∙ h.index)

-- as many code sections stand before a section where sorts are the same
pub same_count : (xs ys : List Section) (j : ℕ) → j ≤ length xs → j ≤ length ys → ((k : ℕ) (s t : Section) → slice_get xs k ≡ Some s → slice_get ys k ≡ Some t → is_code t ≡ is_code s)
    → count_by is_code (take j ys) ≡ count_by is_code (take j xs)
same_count [] [] zero lx ly same = refl
same_count [] (y ∷ ys) zero lx ly same = refl
same_count (x ∷ xs) [] zero lx ly same = refl
same_count (x ∷ xs) (y ∷ ys) zero lx ly same = refl
same_count [] ys (suc j) lx ly same = absurd (omega arith)
same_count (x ∷ xs) [] (suc j) lx ly same = absurd (omega arith)
same_count (x ∷ xs) (y ∷ ys) (suc j) lx ly same =
    let rest = same_count xs ys j (omega (arith, lx)) (omega (arith, ly)) (λ k s t e f. same (suc k) s t e f) in
    count_cons is_code y (take j ys)
    ∙ (ap (λ (b : Bool). cond b (1 + count_by is_code (take j ys)) (count_by is_code (take j ys))) (same 0 x y refl refl)
    ∙ (ap (λ (n : ℕ). cond (is_code x) (1 + n) n) rest ∙ sym (count_cons is_code x (take j xs))))
