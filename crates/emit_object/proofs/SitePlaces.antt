-- Units and words of a layout stand apart, and each copy of a unit within it.
use Rattle.std.proofs.Common.{◌≡◌, ◌≤◌, ◌<◌, ℕ, suc, ◌+◌, ◌%◌, List, [], ◌∷◌, length, take, refl, sym, ap, ◌∙◌, arith, inl, inr, Some, eq-eqb}
use Rattle.std.specs.Prelude.{slice_get, Contains, ◌==◌}
use Rattle.std.proofs.lemmas.List.Sums.{sum_by-cons}
use Rattle.elf_model.proofs.Elements.{contains_cases, contains_later, contains_at, contains_none, contains_filter, filter_contains, element_at}
use Rattle.thumb_encode.specs.declared.codes.Code.{Code}
use Rattle.thumb_encode.specs.declared.codes.Width.{Width}
use Rattle.thumb_encode.specs.Encoding.{width_of}
use Rattle.seq_core.specs.declared.steps.Step.{Step}
use Rattle.seq_core.specs.declared.units.Unit.{Unit as SeqUnit}
use Rattle.flow_recover.specs.declared.flows.PoolWord.{PoolWord}
use Rattle.hardened_form.specs.Items.{Item, items_in, new_start, StandFrom}
use Rattle.branch_layout.specs.Copies.{bytes_of as bytes_of_width, length_of, bytes_before}
use Rattle.branch_layout.specs.Placings.{Placing, IsPlacing}
use Rattle.branch_layout.proofs.WithinFacts.{IsEven, starts, stands_between, item_is_even}
use Rattle.emit_object.specs.UnitCopies.{Copy, copies_from}

-- TWO ITEMS AT ONE OFFSET

one_at : (x : ℕ) (items : List Item) (size : ℕ) → ((it : Item) → Contains items it → IsEven it) → StandFrom x items size → x % 2 ≡ 0
    → (a b : Item) → Contains items a → Contains items b → (y : ℕ) → a.new ≤ y → y < a.end → b.new ≤ y → y < b.end → a ≡ b
one_at x [] size even s e a b h k y la ha lb hb = absurd (contains_none a h)
one_at x (i ∷ items) size even s e a b h k y la ha lb hb =
    let here = even i (contains_at (i ∷ items) 0 i refl) in
    let later : ((it : Item) → Contains items it → IsEven it) = λ it g. even it (contains_later i items it g) in
    let new : i.new ≡ new_start i.word x = s.0 in
    let start = starts i.word x e in
    let behind = here.end in
    let bytes = here.even in
    let two = start.1 in
    let even_end : i.end % 2 ≡ 0 = omega arith in
    elim (contains_cases i items a h) [
      | inl first ↦ elim (contains_cases i items b k) [
        | inl second ↦ sym first ∙ second
        | inr second ↦
            let low = (stands_between i.end items size later s.1 even_end b second).low in
            let m : i.end ≡ a.end = ap (λ (it : Item). it.end) first in
            absurd (omega arith)
      ]
      | inr first ↦ elim (contains_cases i items b k) [
        | inl second ↦
            let low = (stands_between i.end items size later s.1 even_end a first).low in
            let m : i.end ≡ b.end = ap (λ (it : Item). it.end) second in
            absurd (omega arith)
        | inr second ↦ one_at i.end items size later s.1 even_end a b first second y la ha lb hb
      ]
    ]

pub one_item : (units : List SeqUnit) (words : List PoolWord) (p : Placing) (placing : IsPlacing units words p) → (a b : Item) → Contains placing.items a → Contains placing.items b → a.section ≡ b.section
    → (y : ℕ) → a.new ≤ y → y < a.end → b.new ≤ y → y < b.end → a ≡ b
one_item units words p placing a b one two section y la ha lb hb =
    let size = element_at p.sizes a.section (placing.sections.within a one) in
    let even_in : ((i : Item) → Contains (items_in placing.items a.section) i → IsEven i) = λ i c. item_is_even units words p placing i (contains_filter (λ (j : Item). j.section == a.section) placing.items i c).0 in
    let in_one = filter_contains (λ (i : Item). i.section == a.section) placing.items a one (eq-eqb a.section a.section refl) in
    let in_two = filter_contains (λ (i : Item). i.section == a.section) placing.items b two (eq-eqb b.section a.section (sym section)) in
    one_at 0 (items_in placing.items a.section) size.0 even_in (placing.stand a.section size.0 size.1) refl a b in_one in_two y la ha lb hb

-- COPIES

-- the copy with an index
pub record IsCopyAt (at : ℕ) (ts : List Step) (cs : List Code) (widths : List Width) (c : Copy) : Type 0 where
  pub index : ℕ
  pub step : slice_get ts index ≡ Some c.step
  pub code : slice_get cs index ≡ Some c.code
  pub width : slice_get widths index ≡ Some (width_of c.code)
  pub offset : c.at ≡ at + bytes_before widths index

pub copy_at : (at : ℕ) (ts : List Step) (cs : List Code) (widths : List Width) → length cs ≡ length widths → ((k : ℕ) (w : Width) (c : Code) → slice_get widths k ≡ Some w → slice_get cs k ≡ Some c → width_of c ≡ w)
    → (c : Copy) → Contains (copies_from at ts cs) c → IsCopyAt at ts cs widths c
copy_at at [] cs widths long same c h = absurd (contains_none c h)
copy_at at (t ∷ ts) [] widths long same c h = absurd (contains_none c h)
copy_at at (t ∷ ts) (x ∷ cs) [] long same c h = absurd (omega arith)
copy_at at (t ∷ ts) (x ∷ cs) (w ∷ widths) long same c h =
    let first : Copy = record { at = at; step = t; code = x } in
    let wide : width_of x ≡ w = same 0 w x refl refl in
    elim (contains_cases first (copies_from (at + bytes_of_width (width_of x)) ts cs) c h) [
      | inl is ↦ record {
        index = 0;
        step = ap (λ (z : Copy). Some z.step) is;
        code = ap (λ (z : Copy). Some z.code) is;
        width = ap (λ (v : Width). Some v) (sym wide) ∙ ap (λ (z : Copy). Some (width_of z.code)) is;
        offset = let e : at ≡ c.at = ap (λ (z : Copy). z.at) is in omega arith;
      }
      | inr later ↦
          let r = copy_at (at + bytes_of_width (width_of x)) ts cs widths (omega arith) (λ k v y e f. same (suc k) v y e f) c later in
          let bytes : length_of (w ∷ take r.index widths) ≡ bytes_of_width w + length_of (take r.index widths) = sum_by-cons bytes_of_width w (take r.index widths) in
          let one : bytes_of_width (width_of x) ≡ bytes_of_width w = ap bytes_of_width wide in
          let offset = r.offset in
          record { index = suc r.index; step = r.step; code = r.code; width = r.width; offset = omega (arith, bytes, one, offset) }
    ]
