-- Where sections end that stand one behind the other.
use Rattle.std.proofs.Common.{◌≡◌, ◌≤◌, ◌<◌, ℕ, zero, suc, ◌+◌, ◌-◌, true, false, List, [], ◌∷◌, ◌++◌, length, drop, get_or, map, replicate, sym, ap, ◌∙◌, subst, inl, inr, arith}
use Rattle.std.specs.Prelude.{nat_le, ◌&&◌, max}
use Rattle.std.specs.List.{list_all}
use Rattle.std.proofs.lemmas.Bool.{and_parts, and_cases, leb-true, leb-false}
use Rattle.std.proofs.lemmas.List.{length-append, length-replicate}
use Rattle.elf_model.specs.declared.objects.Section.{Section}
use Rattle.elf_model.specs.Objects.{ObjectParts, is_code, is_data}
use Rattle.elf_model.specs.Canonical.{round_up}
use Rattle.elf_model.proofs.Elements.{contains_cases, contains_here, contains_none}
use Rattle.thumb_table.specs.declared.placements.Placement.{Placement}
use Rattle.thumb_table.specs.Layouts.{Placed, placed, bytes_from, part_bytes, all_chosen, code_bytes_of, data_bytes_of}
use Rattle.flat_link.specs.declared.lots.Lot.{Lot}
use Rattle.flat_link.specs.declared.sorts.Sort.{Sort}
use Rattle.flat_link.specs.declared.sorts.Sort.TheVariants.{Code, Data}
use Rattle.flat_link.specs.Lots.{placed_of, is_sound}
use Rattle.flat_link.specs.Placing.{alignment_of, end_of, can_fit}
use Rattle.flat_link.specs.Layout.{AreObjects, Fits, IsTooLong}
use Rattle.flat_link.proofs.ListFacts.{next}
use Rattle.flat_link.proofs.SectionFacts.{aligned_as, sized, rounded}
use Rattle.flat_link.proofs.RawBytes.{Good, AllGood, rest_good}
use Rattle.flat_link.proofs.PartFacts.{code_good, data_good}

pub end_grows : (alignment : Section → ℕ) (from : ℕ) (ps : List Placed) → AllGood alignment ps → from ≤ end_of alignment from ps
end_grows alignment from [] good = omega arith
end_grows alignment from (p ∷ ps) good =
    let low = (rounded from (alignment p.section) (good p (contains_here p ps)).positive).0 in
    let more = end_grows alignment (round_up from (alignment p.section) + p.section.size) ps (rest_good alignment p ps good) in
    omega arith

-- all bytes together reach to the end
pub bytes_end : (alignment : Section → ℕ) (from : ℕ) (ps : List Placed) → AllGood alignment ps → from + length (bytes_from from (placed alignment from ps)) ≡ end_of alignment from ps
bytes_end alignment from [] good = omega arith
bytes_end alignment from (p ∷ ps) good =
    let g = good p (contains_here p ps) in
    let start = round_up from (alignment p.section) in
    let low = (rounded from (alignment p.section) g.positive).0 in
    let tail : List ℕ = bytes_from (start + p.section.size) (placed alignment (start + p.section.size) ps) in
    let more = bytes_end alignment (start + p.section.size) ps (rest_good alignment p ps good) in
    omega (arith, length-append (replicate (start - from) 0 ++ part_bytes p.section) tail, length-append (replicate {A = ℕ} (start - from) 0) (part_bytes p.section), length-replicate {A = ℕ} (start - from) 0, g.sized, low, more)

pub good_lots : (sort : Sort) (lots : List Lot) → list_all is_sound lots ≡ true → AllGood (alignment_of sort) (map placed_of lots)
good_lots sort [] h p c = absurd (contains_none p c)
good_lots sort (l ∷ lots) h p c =
    let q = and_parts (is_sound l) (list_all is_sound lots) h in
    elim (contains_cases (placed_of l) (map placed_of lots) p c) [
      | inl e ↦
          subst (λ (z : Placed). Good (alignment_of sort) z.section) e
          (record { positive = (aligned_as sort l.section.now q.0).0; sized = sized l.section.now q.0 })
      | inr r ↦ good_lots sort lots q.1 p r
    ]

pub sound_rest : (lots : List Lot) (i : ℕ) → list_all is_sound lots ≡ true → list_all is_sound (drop i lots) ≡ true
sound_rest lots zero h = h
sound_rest [] (suc i) h = h
sound_rest (l ∷ lots) (suc i) h = sound_rest lots i (and_parts (is_sound l) (list_all is_sound lots) h).1

-- the walk goes on behind the section at i
pub end_next : (alignment : Section → ℕ) (from : ℕ) (lots : List Lot) (i : ℕ) (l : Lot) → i < length lots → l ≡ get_or lots i l
    → end_of alignment from (map placed_of (drop i lots)) ≡ end_of alignment (round_up from (alignment l.section.now) + l.section.now.size) (map placed_of (drop (i + 1) lots))
end_next alignment from lots i l less is = ap (λ (t : List Lot). end_of alignment from (map placed_of t)) (next lots i l less is)

pub end_step : (alignment : Section → ℕ) (from further z : ℕ) (lots : List Lot) (i : ℕ) (l : Lot) → i < length lots → l ≡ get_or lots i l
    → further ≡ round_up from (alignment l.section.now) + l.section.now.size → end_of alignment from (map placed_of (drop i lots)) ≡ z
    → end_of alignment further (map placed_of (drop (i + 1) lots)) ≡ z
end_step alignment from further z lots i l less is e h =
    ap (λ (n : ℕ). end_of alignment n (map placed_of (drop (i + 1) lots))) e ∙ sym (end_next alignment from lots i l less is) ∙ h

-- a section that is placed ends within the whole
pub ends_within : (sort : Sort) (from z : ℕ) (lots : List Lot) (i : ℕ) (l : Lot) → list_all is_sound lots ≡ true → i < length lots → l ≡ get_or lots i l
    → end_of (alignment_of sort) from (map placed_of (drop i lots)) ≡ z → (from ≤ z) × (round_up from (alignment_of sort l.section.now) + l.section.now.size ≤ z)
ends_within sort from z lots i l sound less is h =
    let a = end_next (alignment_of sort) from lots i l less is in
    let b = end_grows (alignment_of sort) (round_up from (alignment_of sort l.section.now) + l.section.now.size) (map placed_of (drop (i + 1) lots)) (good_lots sort (drop (i + 1) lots) (sound_rest lots (i + 1) sound)) in
    let c = end_grows (alignment_of sort) from (map placed_of (drop i lots)) (good_lots sort (drop i lots) (sound_rest lots i sound)) in
    (omega arith, omega arith)

module _ (objects : List ObjectParts) (at : Placement) (sound : AreObjects objects) where
  pub code_ends : at.base + length (code_bytes_of objects at) ≡ end_of (alignment_of Code) at.base (all_chosen is_code 0 objects)
  code_ends = bytes_end (λ s. max 4 s.align) at.base (all_chosen is_code 0 objects) (code_good objects sound)

  pub data_ends : at.base + at.room + length (data_bytes_of objects at) ≡ end_of (alignment_of Data) (at.base + at.room) (all_chosen is_data 0 objects)
  data_ends = bytes_end (λ s. s.align) (at.base + at.room) (all_chosen is_data 0 objects) (data_good objects sound)

  long : length (data_bytes_of objects at) ≡ end_of (alignment_of Data) (at.base + at.room) (all_chosen is_data 0 objects) - (at.base + at.room)
  long = let d = data_ends in omega arith

  pub fits : can_fit (all_chosen is_code 0 objects) (all_chosen is_data 0 objects) at ≡ true → Fits objects at
  fits h =
      let code = nat_le (end_of (alignment_of Code) at.base (all_chosen is_code 0 objects)) (at.base + at.room) in
      let end = end_of (alignment_of Data) (at.base + at.room) (all_chosen is_data 0 objects) in
      let memory = nat_le (round_up (end - (at.base + at.room)) 8 + at.stack) 16777216 in
      let p = and_parts (code && memory) (nat_le end 0x7FFFF000) h in
      let q = and_parts code memory p.0 in
      let c = code_ends in
      let d = data_ends in
      let x = leb-true (end_of (alignment_of Code) at.base (all_chosen is_code 0 objects)) (at.base + at.room) q.0 in
      let y = leb-true (round_up (end - (at.base + at.room)) 8 + at.stack) 16777216 q.1 in
      let z = leb-true end 0x7FFFF000 p.1 in
      record { code = omega arith; memory = subst (λ (n : ℕ). round_up n 8 + at.stack ≤ 16777216) (sym long) y; last = omega arith }

  pub too_long : can_fit (all_chosen is_code 0 objects) (all_chosen is_data 0 objects) at ≡ false → IsTooLong objects at
  too_long h =
      let code = nat_le (end_of (alignment_of Code) at.base (all_chosen is_code 0 objects)) (at.base + at.room) in
      let end = end_of (alignment_of Data) (at.base + at.room) (all_chosen is_data 0 objects) in
      let memory = nat_le (round_up (end - (at.base + at.room)) 8 + at.stack) 16777216 in
      let c = code_ends in
      let d = data_ends in
      elim (and_cases (code && memory) (nat_le end 0x7FFFF000) h) [
        | inl a ↦
            elim (and_cases code memory a) [
              | inl x ↦ let y = leb-false (end_of (alignment_of Code) at.base (all_chosen is_code 0 objects)) (at.base + at.room) x in inl (omega arith)
              | inr x ↦ let y = leb-false (round_up (end - (at.base + at.room)) 8 + at.stack) 16777216 x in inr (inl (subst (λ (n : ℕ). 16777216 < round_up n 8 + at.stack) (sym long) y))
            ]
        | inr x ↦ let y = leb-false end 0x7FFFF000 x in inr (inr (omega arith))
      ]
