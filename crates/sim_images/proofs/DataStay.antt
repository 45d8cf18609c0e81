-- Data of the plain and of the hardened objects stands at the same addresses.
use Rattle.std.specs.Prelude.{◌≡◌, ◌≤◌, ℕ, suc, ◌+◌, ◌-◌, ◌==◌, ◌&&◌, not, max, Bool, true, false, cond, List, [], ◌∷◌, ◌++◌, length, replicate, Some, slice_get, Contains, refl}
use Rattle.std.proofs.Common.{arith, inl, inr, ap, sym, ◌∙◌, subst}
use Rattle.std.proofs.lemmas.Bool.{cases_Bool, both_ways, and_parts, and_left, not-true}
use Rattle.std.proofs.lemmas.List.{length-replicate, length-append}
use Rattle.std.proofs.lemmas.Option.{none-some, same_Some}
use Rattle.elf_model.specs.declared.objects.Section.{Section}
use Rattle.elf_model.specs.Constants.{progbits}
use Rattle.elf_model.specs.Objects.{ObjectParts, is_code, is_data, is_alloc, is_exec}
use Rattle.elf_model.specs.Canonical.{round_up}
use Rattle.thumb_table.specs.Layouts.{Placed, chosen, all_chosen, placed, code_parts, data_parts, all_placed, part_of, part_bytes, bytes_from, data_bytes_of}
use Rattle.elf_model.proofs.Elements.{contains_here, contains_later}
use Rattle.sim_images.proofs.RawBytes.{AllGood, begun}
use Rattle.sim_images.proofs.PartFacts.{all_chosen_is, data_good}
use Rattle.thumb_table.specs.declared.placements.Placement.{Placement}
use Rattle.sim_images.specs.ImageLaws.{AreObjects}
use Rattle.sim_images.specs.Counterparts.{Places, IsSectionOf, SectionsAnswer, AreAnswers}
use Rattle.sim_images.specs.PairLaws.{DataStays}

-- two lists of parts, one by one: of one object and section; a part of data has one start, size and alignment
pub record Alike (p q : Placed) : Type 0 where
  pub object : q.object ≡ p.object
  pub index : q.index ≡ p.index
  pub start : is_code p.section ≡ false → q.start ≡ p.start
  pub size : is_code p.section ≡ false → q.section.size ≡ p.section.size
  pub align : is_code p.section ≡ false → q.section.align ≡ p.section.align

pub data AllAlike : List Placed → List Placed → Type 0 where
  none : AllAlike [] []
  some : (p q : Placed) (ps qs : List Placed) → Alike p q → AllAlike ps qs → AllAlike (p ∷ ps) (q ∷ qs)

both : (a b c d : List Placed) → AllAlike a b → AllAlike c d → AllAlike (a ++ c) (b ++ d)
both _ _ c d none h = h
both _ _ c d (some p q ps qs e more) h = some p q (ps ++ c) (qs ++ d) e (both ps qs c d more h)

-- the part of an object's section in each list
find_alike : (i j : ℕ) (ps qs : List Placed) → AllAlike ps qs → (p q : Placed) → part_of ps i j ≡ Some p → part_of qs i j ≡ Some q → Alike p q
find_alike i j _ _ none p q a b = absurd (none-some p a)
find_alike i j _ _ (some x y xs ys e more) p q a b =
    let test : ((y.object == i) && (y.index == j)) ≡ ((x.object == i) && (x.index == j)) =
    ap (λ (n : ℕ). (n == i) && (y.index == j)) e.object ∙ ap (λ (n : ℕ). (x.object == i) && (n == j)) e.index in
    elim (cases_Bool ((x.object == i) && (x.index == j))) [
      | inl t ↦
          let one : x ≡ p = same_Some x p (sym (ap (λ (c : Bool). cond c (Some x) (part_of xs i j)) t) ∙ a) in
          let two : y ≡ q = same_Some y q (sym (ap (λ (c : Bool). cond c (Some y) (part_of ys i j)) (test ∙ t)) ∙ b) in
          subst (λ (z : Placed). Alike p z) two (subst (λ (z : Placed). Alike z y) one e)
      | inr f ↦
          find_alike i j xs ys more p q (sym (ap (λ (c : Bool). cond c (Some x) (part_of xs i j)) f) ∙ a) (sym (ap (λ (c : Bool). cond c (Some y) (part_of ys i j)) (test ∙ f)) ∙ b)
    ]

pub same_sort : (s t : Section) → IsSectionOf s t → is_code t ≡ is_code s
same_sort s t h = ap (λ (n : ℕ). (n == progbits) && is_alloc t.flags && is_exec t.flags) h.kind ∙ ap (λ (n : ℕ). (s.kind == progbits) && is_alloc n && is_exec n) h.flags

pub same_data : (s t : Section) → IsSectionOf s t → is_data t ≡ is_data s
same_data s t h = ap (λ (b : Bool). is_alloc t.flags && not b) (same_sort s t h) ∙ ap (λ (n : ℕ). is_alloc n && not (is_code s)) h.flags

-- sections that answer one by one, and further ones that are not in memory
record ListsAnswer (ss ts : List Section) : Type 0 where
  pub kept : (j : ℕ) (s : Section) → slice_get ss j ≡ Some s → (t : Section) × (slice_get ts j ≡ Some t) × IsSectionOf s t
  pub more : (j : ℕ) (t : Section) → length ss ≤ j → slice_get ts j ≡ Some t → is_alloc t.flags ≡ false

rest_answers : (s t : Section) (ss ts : List Section) → ListsAnswer (s ∷ ss) (t ∷ ts) → ListsAnswer ss ts
rest_answers s t ss ts h = record { kept = λ j z e. h.kept (suc j) z e; more = λ j z l e. h.more (suc j) z (omega arith) e }

-- a sort that kind and flags decide, and that holds of sections in memory alone
pub record IsSort (sort : Section → Bool) : Type 0 where
  pub same : (s t : Section) → IsSectionOf s t → sort t ≡ sort s
  pub memory : (t : Section) → is_alloc t.flags ≡ false → sort t ≡ false

none_chosen : (sort : Section → Bool) → IsSort sort → (i j k : ℕ) (ts : List Section) → ((n : ℕ) (t : Section) → slice_get ts n ≡ Some t → is_alloc t.flags ≡ false) → AllAlike [] (chosen sort i j k ts)
none_chosen sort is i j k [] h = none
none_chosen sort is i j k (t ∷ ts) h =
    let first : Placed = record { object = i; index = j; ordinal = k; start = 0; section = t } in
    subst (λ (l : List Placed). AllAlike [] l) (sym (ap (λ (b : Bool). cond b (first ∷ chosen sort i (j + 1) (k + 1) ts) (chosen sort i (j + 1) k ts)) (is.memory t (h 0 t refl))))
    (none_chosen sort is i (j + 1) k ts (λ n z e. h (suc n) z e))

chosen_alike : (sort : Section → Bool) → IsSort sort → (i j k : ℕ) (ss ts : List Section) → ListsAnswer ss ts → AllAlike (chosen sort i j k ss) (chosen sort i j k ts)
chosen_alike sort is i j k [] ts h = none_chosen sort is i j k ts (λ n t e. h.more n t (omega arith) e)
chosen_alike sort is i j k (s ∷ ss) [] h = let t = h.kept 0 s refl in absurd (none-some t.0 t.1)
chosen_alike sort is i j k (s ∷ ss) (t ∷ ts) h =
    let a : Placed = record { object = i; index = j; ordinal = k; start = 0; section = s } in
    let b : Placed = record { object = i; index = j; ordinal = k; start = 0; section = t } in
    let g = h.kept 0 s refl in
    let of : IsSectionOf s t = subst (λ (z : Section). IsSectionOf s z) (sym (same_Some t g.0 g.1)) g.2 in
    let rest = rest_answers s t ss ts h in
    let same : sort t ≡ sort s = is.same s t of in
    elim (cases_Bool (sort s)) [
      | inl y ↦
          subst (λ (l : List Placed). AllAlike l (chosen sort i j k (t ∷ ts))) (sym (ap (λ (c : Bool). cond c (a ∷ chosen sort i (j + 1) (k + 1) ss) (chosen sort i (j + 1) k ss)) y))
          (subst (λ (l : List Placed). AllAlike (a ∷ chosen sort i (j + 1) (k + 1) ss) l) (sym (ap (λ (c : Bool). cond c (b ∷ chosen sort i (j + 1) (k + 1) ts) (chosen sort i (j + 1) k ts)) (same ∙ y)))
          (some a b (chosen sort i (j + 1) (k + 1) ss) (chosen sort i (j + 1) (k + 1) ts)
          (record { object = refl; index = refl; start = λ c. refl; size = of.size; align = λ c. of.align ∙ ap (λ (z : Bool). cond z (max 4 s.align) s.align) c })
          (chosen_alike sort is i (j + 1) (k + 1) ss ts rest)))
      | inr n ↦
          subst (λ (l : List Placed). AllAlike l (chosen sort i j k (t ∷ ts))) (sym (ap (λ (c : Bool). cond c (a ∷ chosen sort i (j + 1) (k + 1) ss) (chosen sort i (j + 1) k ss)) n))
          (subst (λ (l : List Placed). AllAlike (chosen sort i (j + 1) k ss) l) (sym (ap (λ (c : Bool). cond c (b ∷ chosen sort i (j + 1) (k + 1) ts) (chosen sort i (j + 1) k ts)) (same ∙ n)))
          (chosen_alike sort is i (j + 1) k ss ts rest))
    ]

pub all_alike : (sort : Section → Bool) → IsSort sort → (i : ℕ) (ins outs : List ObjectParts) → length outs ≡ length ins
    → ((n : ℕ) (o h : ObjectParts) → slice_get ins n ≡ Some o → slice_get outs n ≡ Some h → SectionsAnswer o h) → AllAlike (all_chosen sort i ins) (all_chosen sort i outs)
all_alike sort is i [] [] size h = none
all_alike sort is i [] (x ∷ xs) size h = absurd (omega arith)
all_alike sort is i (x ∷ xs) [] size h = absurd (omega arith)
all_alike sort is i (o ∷ os) (q ∷ qs) size h =
    let one = h 0 o q refl refl in
    both (chosen sort i 0 0 o.sections) (chosen sort i 0 0 q.sections) (all_chosen sort (i + 1) os) (all_chosen sort (i + 1) qs)
    (chosen_alike sort is i 0 0 o.sections q.sections (record { kept = one.kept; more = one.more }))
    (all_alike sort is (i + 1) os qs (omega arith) (λ n a b e f. h (suc n) a b e f))

-- code may start elsewhere
code_alike : (alignment : Section → ℕ) (a b : ℕ) (ps qs : List Placed) → AllAlike ps qs → ((p : Placed) → Contains ps p → is_code p.section ≡ true) → AllAlike (placed alignment a ps) (placed alignment b qs)
code_alike alignment a b _ _ none c = none
code_alike alignment a b _ _ (some p q ps qs e more) c =
    let first : Placed = begun alignment a p in
    let second : Placed = begun alignment b q in
    some first second (placed alignment (first.start + p.section.size) ps) (placed alignment (second.start + q.section.size) qs)
    (record { object = e.object; index = e.index; start = λ f. absurd (both_ways (is_code p.section) f (c p (contains_here p ps))); size = e.size; align = e.align })
    (code_alike alignment (first.start + p.section.size) (second.start + q.section.size) ps qs more (λ z h. c z (contains_later p ps z h)))

-- data starts where it did
pub data_alike : (a b : ℕ) → b ≡ a → (ps qs : List Placed) → AllAlike ps qs → ((p : Placed) → Contains ps p → is_data p.section ≡ true) → AllAlike (placed (λ s. s.align) a ps) (placed (λ s. s.align) b qs)
data_alike a b same _ _ none d = none
data_alike a b same _ _ (some p q ps qs e more) d =
    let first : Placed = begun (λ s. s.align) a p in
    let second : Placed = begun (λ s. s.align) b q in
    let no_code : is_code p.section ≡ false = not-true (is_code p.section) (and_parts (is_alloc p.section.flags) (not (is_code p.section)) (d p (contains_here p ps))).1 in
    let start : second.start ≡ first.start = ap (λ (n : ℕ). round_up n q.section.align) same ∙ ap (λ (n : ℕ). round_up a n) (e.align no_code) in
    let size : q.section.size ≡ p.section.size = e.size no_code in
    let next : second.start + q.section.size ≡ first.start + p.section.size = omega arith in
    some first second (placed (λ s. s.align) (first.start + p.section.size) ps) (placed (λ s. s.align) (second.start + q.section.size) qs)
    (record { object = e.object; index = e.index; start = λ f. start; size = e.size; align = e.align })
    (data_alike (first.start + p.section.size) (second.start + q.section.size) next ps qs more (λ z h. d z (contains_later p ps z h)))

-- as many bytes
data_length : (a b : ℕ) → b ≡ a → (ps qs : List Placed) → AllAlike ps qs → ((p : Placed) → Contains ps p → is_data p.section ≡ true) → AllGood (λ s. s.align) ps → AllGood (λ s. s.align) qs
    → length (bytes_from b (placed (λ s. s.align) b qs)) ≡ length (bytes_from a (placed (λ s. s.align) a ps))
data_length a b same _ _ none d gp gq = refl
data_length a b same _ _ (some p q ps qs e more) d gp gq =
    let first : Placed = begun (λ s. s.align) a p in
    let second : Placed = begun (λ s. s.align) b q in
    let out : is_code p.section ≡ false = not-true (is_code p.section) (and_parts (is_alloc p.section.flags) (not (is_code p.section)) (d p (contains_here p ps))).1 in
    let start : second.start ≡ first.start = ap (λ (n : ℕ). round_up n q.section.align) same ∙ ap (λ (n : ℕ). round_up a n) (e.align out) in
    let size : q.section.size ≡ p.section.size = e.size out in
    let next : second.start + q.section.size ≡ first.start + p.section.size = omega arith in
    let rest = data_length (first.start + p.section.size) (second.start + q.section.size) next ps qs more (λ z h. d z (contains_later p ps z h)) (λ z h. gp z (contains_later p ps z h)) (λ z h. gq z (contains_later q qs z h)) in
    let one = length_of a first (placed (λ s. s.align) (first.start + p.section.size) ps) (gp p (contains_here p ps)).sized in
    let two = length_of b second (placed (λ s. s.align) (second.start + q.section.size) qs) (gq q (contains_here q qs)).sized in
    two ∙ (sum b second.start q.section.size (length (bytes_from (second.start + q.section.size) (placed (λ s. s.align) (second.start + q.section.size) qs))) a first.start p.section.size (length (bytes_from (first.start + p.section.size) (placed (λ s. s.align) (first.start + p.section.size) ps))) same start size rest ∙ sym one)
  where
    sum : (b t n l a s m k : ℕ) → b ≡ a → t ≡ s → n ≡ m → l ≡ k → t - b + n + l ≡ s - a + m + k
    sum b t n l a s m k e f g h = omega arith

    length_of : (from : ℕ) (p : Placed) (rest : List Placed) → length (part_bytes p.section) ≡ p.section.size → length (bytes_from from (p ∷ rest)) ≡ p.start - from + p.section.size + length (bytes_from (p.start + p.section.size) rest)
    length_of from p rest sized =
        let gap : List ℕ = replicate (p.start - from) 0 in
        let z : length gap ≡ p.start - from = length-replicate (p.start - from) 0 in
        let x : length (bytes_from from (p ∷ rest)) ≡ length (gap ++ part_bytes p.section) + length (bytes_from (p.start + p.section.size) rest) = length-append (gap ++ part_bytes p.section) (bytes_from (p.start + p.section.size) rest) in
        let y : length (gap ++ part_bytes p.section) ≡ length gap + length (part_bytes p.section) = length-append gap (part_bytes p.section) in
        omega arith

pub no_code : (t : Section) → is_alloc t.flags ≡ false → is_code t ≡ false
no_code t h = ap (λ (b : Bool). (t.kind == progbits) && b && is_exec t.flags) h ∙ go (t.kind == progbits)
  where
    go : (b : Bool) → (b && false && is_exec t.flags) ≡ false
    go true = refl
    go false = refl

pub code_sort : IsSort is_code
code_sort = record { same = same_sort; memory = no_code }

pub data_sort : IsSort is_data
data_sort = record { same = same_data; memory = λ t h. and_left (is_alloc t.flags) (not (is_code t)) h }

pub data_stays : DataStays
data_stays ins outs at moved answers i j o h p q here there no_code =
    let code = all_alike is_code code_sort 0 ins outs answers.count answers.sections in
    let datum = all_alike is_data data_sort 0 ins outs answers.count answers.sections in
    let one = code_alike (λ s. max 4 s.align) at.base at.base (all_chosen is_code 0 ins) (all_chosen is_code 0 outs) code (λ z c. (all_chosen_is is_code 0 ins z c).is_sort) in
    let two = data_alike (at.base + at.room) (at.base + at.room) refl (all_chosen is_data 0 ins) (all_chosen is_data 0 outs) datum (λ z c. (all_chosen_is is_data 0 ins z c).is_sort) in
    (find_alike i j (all_placed ins at) (all_placed outs at) (both (code_parts ins at) (code_parts outs at) (data_parts ins at) (data_parts outs at) one two) p q here.part there.part).start no_code

pub data_lengths : (ins outs : List ObjectParts) (at : Placement) (moved : ℕ → Places) → AreObjects ins → AreObjects outs → AreAnswers ins outs moved → length (data_bytes_of outs at) ≡ length (data_bytes_of ins at)
data_lengths ins outs at moved so sh answers =
    data_length (at.base + at.room) (at.base + at.room) refl (all_chosen is_data 0 ins) (all_chosen is_data 0 outs) (all_alike is_data data_sort 0 ins outs answers.count answers.sections)
    (λ z c. (all_chosen_is is_data 0 ins z c).is_sort) (data_good ins so) (data_good outs sh)
