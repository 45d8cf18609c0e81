-- No unit with bytes begins at a word.
use Rattle.std.proofs.Common.{◌≡◌, ◌≤◌, ◌<◌, ℕ, ◌+◌, ◌%◌, List, [], ◌∷◌, Bool, true, false, refl, sym, ap, ◌∙◌, arith, inl, inr, Some, eq-eqb}
use Rattle.std.specs.Prelude.{slice_get, Contains, ◌==◌}
use Rattle.elf_model.proofs.Elements.{contains_cases, contains_later, contains_at, contains_none, contains_filter, filter_contains, element_at}
use Rattle.hardened_form.specs.Items.{Item, item_of_unit, item_of_word, items_in, new_start, StandFrom}
use Rattle.branch_layout.specs.Placings.{unit_point, word_point}
use Rattle.branch_layout.specs.Laid.{NoUnitAtWord}
use Rattle.branch_layout.proofs.WithinFacts.{IsEven, starts, stands_between, item_is_even}
use Rattle.branch_layout.proofs.OnePlacing.{unit_among, word_among}

one_at : (x : ℕ) (items : List Item) (size : ℕ) → ((it : Item) → Contains items it → IsEven it) → StandFrom x items size → x % 2 ≡ 0 → (a b : Item) → Contains items a → Contains items b → a.new < a.end → b.new < b.end → a.new ≡ b.new → a ≡ b
one_at x [] size even s e a b h k la lb same = absurd (contains_none a h)
one_at x (i ∷ items) size even s e a b h k la lb same =
    let here = even i (contains_at (i ∷ items) 0 i refl) in
    let later : ((it : Item) → Contains items it → IsEven it) = λ it g. even it (contains_later i items it g) in
    let new : i.new ≡ new_start i.word x = s.0 in
    let start = starts i.word x e in
    let behind = here.end in
    let bytes = here.even in
    let two = start.1 in
    let even_end : i.end % 2 ≡ 0 = omega arith in
    elim (contains_cases i items a h) [
      | inl first ↦ elim (contains_cases i items b k) [
        | inl second ↦ sym first ∙ second
        | inr second ↦
            let low = (stands_between i.end items size later s.1 even_end b second).low in
            let n : i.new ≡ a.new = ap (λ (it : Item). it.new) first in
            let m : i.end ≡ a.end = ap (λ (it : Item). it.end) first in
            absurd (omega arith)
      ]
      | inr first ↦ elim (contains_cases i items b k) [
        | inl second ↦
            let low = (stands_between i.end items size later s.1 even_end a first).low in
            let n : i.new ≡ b.new = ap (λ (it : Item). it.new) second in
            let m : i.end ≡ b.end = ap (λ (it : Item). it.end) second in
            absurd (omega arith)
        | inr second ↦ one_at i.end items size later s.1 even_end a b first second la lb same
      ]
    ]

pub none_at_word : NoUnitAtWord
none_at_word units words p placing k u s n w at e f g h section some same =
    let a : Item = item_of_unit (unit_point u, s.place) in
    let b : Item = item_of_word (word_point w, at) in
    let one = unit_among units words p placing k u s e f in
    let two = word_among units words p placing n w at g h in
    let size = element_at p.sizes u.section (placing.sections.within a one) in
    let even_in : ((i : Item) → Contains (items_in placing.items u.section) i → IsEven i) = λ i c. item_is_even units words p placing i (contains_filter (λ (j : Item). j.section == u.section) placing.items i c).0 in
    let in_one = filter_contains (λ (i : Item). i.section == u.section) placing.items a one (eq-eqb u.section u.section refl) in
    let in_two = filter_contains (λ (i : Item). i.section == u.section) placing.items b two (eq-eqb w.section u.section (sym section)) in
    let word : at < at + 4 = omega arith in
    let alike : a ≡ b = one_at 0 (items_in placing.items u.section) size.0 even_in (placing.stand u.section size.0 size.1) refl a b in_one in_two some word same in
    absurd (let flag : false ≡ true = ap (λ (i : Item). i.word) alike in cc)
