-- Items that stand one behind the other do not meet, and nothing stands between them.
use Rattle.std.proofs.Common.{◌≡◌, ◌≤◌, ◌<◌, ◌⊎◌, ℕ, ◌+◌, ◌%◌, List, [], ◌∷◌, Bool, true, false, sym, ap, ◌∙◌, subst, inl, inr, arith}
use Rattle.std.specs.Prelude.{Contains, ◌==◌, if◌then◌else◌}
use Rattle.std.proofs.lemmas.Bool.{cases_eq}
use Rattle.elf_model.specs.Fields.{byte_at, half_at}
use Rattle.elf_model.proofs.Elements.{contains_cases, contains_here, contains_later, contains_none}
use Rattle.hardened_form.specs.Items.{Item, new_start, StandFrom}
use Rattle.hardened_form.specs.Code.{filler, IsFill, AreFilled}
use Rattle.branch_layout.proofs.WithinFacts.{IsEven, IsBetween, starts, stands_between}
use Rattle.emit_object.specs.CodeBytes.{filler_byte}
use Rattle.emit_object.proofs.CodeReads.{half_by}

abbrev pub AreEven : List Item → Type 0
AreEven items = (it : Item) → Contains items it → IsEven it

-- the first item of some, at its place
record IsFirst (x : ℕ) (it : Item) : Type 0 where
  start : x ≤ it.new
  up : it.new ≤ it.end
  even : it.end % 2 ≡ 0

first_is : (x : ℕ) (it : Item) → IsEven it → it.new ≡ new_start it.word x → x % 2 ≡ 0 → IsFirst x it
first_is x it even new e =
    let start = starts it.word x e in
    let low = start.0 in
    let two = start.1 in
    let end = even.end in
    let bytes = even.even in
    record { start = omega arith; up = omega arith; even = omega arith }

pub stand_apart : (x : ℕ) (items : List Item) (size : ℕ) → AreEven items → StandFrom x items size → x % 2 ≡ 0 → (a b : Item) → Contains items a → Contains items b → (a ≡ b → ⊥) → (a.end ≤ b.new) ⊎ (b.end ≤ a.new)
stand_apart x [] size even s e a b h k ne = absurd (contains_none a h)
stand_apart x (i ∷ items) size even s e a b h k ne =
    let later : AreEven items = λ it g. even it (contains_later i items it g) in
    let first = first_is x i (even i (contains_here i items)) s.0 e in
    let between : (it : Item) → Contains items it → IsBetween i.end size it = stands_between i.end items size later s.1 first.even in
    elim (contains_cases i items a h) [
      | inl one ↦ elim (contains_cases i items b k) [
        | inl two ↦ absurd (ne (sym one ∙ two))
        | inr two ↦ inl (subst (λ (z : Item). z.end ≤ b.new) one (between b two).low)
      ]
      | inr one ↦ elim (contains_cases i items b k) [
        | inl two ↦ inr (subst (λ (z : Item). z.end ≤ a.new) two (between a one).low)
        | inr two ↦ stand_apart i.end items size later s.1 first.even a b one two ne
      ]
    ]

-- BYTES BETWEEN ITEMS

-- an item has a byte at an offset
pub record IsIn (it : Item) (y : ℕ) : Type 0 where
  pub low : it.new ≤ y
  pub high : y < it.end

module _ (bytes : List ℕ) (all : List Item) (size : ℕ) (free : (y : ℕ) → y < size → ((it : Item) → Contains all it → IsIn it y → ⊥) → byte_at bytes y ≡ filler_byte y) where
  -- each item ends before an offset, or is one of those to come
  abbrev AreLeft : ℕ → List Item → Type 0
  AreLeft x rest = (it : Item) → Contains all it → (it.end ≤ x) ⊎ Contains rest it

  module _ (x : ℕ) (it : Item) (rest : List Item) (even : AreEven (it ∷ rest)) (s : StandFrom x (it ∷ rest) size) (e : x % 2 ≡ 0) (left : AreLeft x (it ∷ rest)) where
    here : IsBetween x size it
    here = stands_between x (it ∷ rest) size even s e it (contains_here it rest)

    later : (i : Item) → Contains rest i → IsBetween it.end size i
    later = stands_between it.end rest size (λ i g. even i (contains_later it rest i g)) s.1 here.even_end

    none_before : (y : ℕ) → x ≤ y → y < it.new → (i : Item) → Contains all i → IsIn i y → ⊥
    none_before y low high i c is =
        let a = is.low in
        let b = is.high in
        let up = here.up in
        elim (left i c) [
          | inl before ↦ omega arith
          | inr r ↦ elim (contains_cases it rest i r) [
            | inl same ↦ let n : it.new ≡ i.new = ap (λ (z : Item). z.new) same in omega arith
            | inr behind ↦ let l = (later i behind).low in omega arith
          ]
        ]

    half_free : it.new ≡ x + 2 → half_at bytes x ≡ filler
    half_free new =
        let high = here.high in
        let up = here.up in
        let one : byte_at bytes x ≡ filler_byte x = free x (omega arith) (none_before x (omega arith) (omega arith)) in
        let two : byte_at bytes (x + 1) ≡ filler_byte (x + 1) = free (x + 1) (omega arith) (none_before (x + 1) (omega arith) (omega arith)) in
        let odd : (x + 1) % 2 ≡ 1 = omega arith in
        let zero_there : filler_byte x ≡ 0 = ap (λ (n : ℕ). if n == 0 then 0 else 0xDE) e in
        let top : filler_byte (x + 1) ≡ 0xDE = ap (λ (n : ℕ). if n == 0 then 0 else 0xDE) odd in
        let sum = half_by bytes x in
        let first = one ∙ zero_there in
        let second = two ∙ top in
        omega (arith, first, second, sum)

    fill_by : (word : Bool) → it.new ≡ new_start word x → IsFill bytes x it.new
    fill_by false new = inl new
    fill_by true new = elim (cases_eq (x % 4) 0) [
      | inl full ↦ inl (omega arith)
      | inr part ↦ let next : it.new ≡ x + 2 = omega arith in inr (next, half_free next)
    ]

    left_behind : AreLeft it.end rest
    left_behind i c =
        let up = here.up in
        let low = here.low in
        elim (left i c) [
          | inl before ↦ inl (omega arith)
          | inr r ↦ elim (contains_cases it rest i r) [
            | inl same ↦ let n : it.end ≡ i.end = ap (λ (z : Item). z.end) same in inl (omega arith)
            | inr behind ↦ inr behind
          ]
        ]

  pub filled_from : (x : ℕ) (rest : List Item) → AreEven rest → StandFrom x rest size → x % 2 ≡ 0 → AreLeft x rest → AreFilled bytes x rest
  filled_from x [] even s e left = tt
  filled_from x (it ∷ rest) even s e left = (
    fill_by x it rest even s e left it.word s.0,
    filled_from it.end rest (λ i g. even i (contains_later it rest i g)) s.1 (here x it rest even s e left).even_end (left_behind x it rest even s e left),
  )
