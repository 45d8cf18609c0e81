-- At an instruction start without relocation the image has the section's instruction, and no mark.
use Rattle.std.specs.Prelude.{◌≡◌, ◌<◌, ◌≤◌, ◌⊎◌, ℕ, zero, suc, ◌+◌, ◌-◌, ◌==◌, nat_le, nat_lt, ◌&&◌, ◌||◌, not, Bool, true, false, cond, List, [], ◌∷◌, length, get_or, drop, Some, None, Ok, Err, slice_get, Contains, refl}
use Rattle.std.specs.List.{position, position_or_len}
use Rattle.std.proofs.Common.{arith, inl, inr, ap, sym, ◌∙◌, subst}
use Rattle.std.proofs.lemmas.Bool.{cases_Bool, and_parts, and_from, leb-true, ltb-true, le-leb, lt-ltb, eq-eqb, eqb-true, false_from_ne_true}
use Rattle.std.proofs.lemmas.List.{get_or-drop}
use Rattle.std.proofs.lemmas.Option.{none-some, same_Some}
use Rattle.elf_model.specs.declared.objects.Section.{Section}
use Rattle.elf_model.specs.declared.objects.Reloc.{Reloc}
use Rattle.elf_model.specs.declared.objects.RelocKind.{RelocKind}
use Rattle.elf_model.specs.Fields.{half_at}
use Rattle.elf_model.specs.Objects.{ObjectParts, is_code, reloc_code, place_width}
use Rattle.elf_model.specs.Ranges.{is_long, length_at}
use Rattle.mark_word.specs.declared.marks.Mark.{Mark}
use Rattle.mark_word.specs.declared.marks.Mark.TheVariants.{Plain}
use Rattle.thumb_instr.specs.declared.instructions.Instr.{Instr}
use Rattle.thumb_instr.specs.declared.refusals.BadInstr.TheVariants.{Unknown}
use Rattle.thumb_instr.specs.Blocks.{place_in_block}
use Rattle.thumb_instr.specs.Rows.{is_wide, decode, decode_given}
use Rattle.thumb_table.specs.declared.parts.PlaceMark.{PlaceMark}
use Rattle.thumb_table.specs.Parts.{CodeBytes}
use Rattle.reloc_places.specs.Starts.{bytes_in, bytes_of, IsCodeStart, decoded_at}
use Rattle.reloc_places.specs.Relocations.{IsRight}
use Rattle.thumb_table.specs.Layouts.{Placed, all_placed, part_of}
use Rattle.thumb_table.specs.Links.{Link, IsLink, place_of, covers}
use Rattle.thumb_table.specs.Effects.{lies, half_of, mark_at}
use Rattle.thumb_table.specs.Steps.{fetch}
use Rattle.sim_images.specs.CodeLaws.{Fetches, StandsAsIs}
use Rattle.elf_model.proofs.Elements.{contains_here, contains_later}
use Rattle.reloc_places.proofs.StartFacts.{length_least}
use Rattle.sim_images.proofs.PartFacts.{part_is, apart, in_part}
use Rattle.sim_images.proofs.ImageFacts.{code_inside, code_as_is}
use Rattle.sim_images.proofs.RightPlaces.{decoded_whole, beside}

-- where no element passes, none does
first_at : {X : Type 0} (p : X → Bool) (xs : List X) (k : ℕ) (x : X) → slice_get xs k ≡ Some x → p x ≡ true → (position_or_len p xs ≤ k) × (k < length xs)
first_at p [] k x h y = absurd (none-some x h)
first_at p (z ∷ zs) zero x h y =
    let t : p z ≡ true = subst (λ (w : _). p w ≡ true) (sym (same_Some z x h)) y in
    let e : position_or_len p (z ∷ zs) ≡ 0 = ap (λ (b : Bool). cond (not b) (1 + position_or_len p zs) 0) t in
    (omega arith, omega arith)
first_at p (z ∷ zs) (suc k) x h y =
    let r = first_at p zs k x h y in
    elim (cases_Bool (p z)) [
      | inl t ↦
          let e : position_or_len p (z ∷ zs) ≡ 0 = ap (λ (b : Bool). cond (not b) (1 + position_or_len p zs) 0) t in
          (omega arith, omega arith)
      | inr f ↦
          let e : position_or_len p (z ∷ zs) ≡ 1 + position_or_len p zs = ap (λ (b : Bool). cond (not b) (1 + position_or_len p zs) 0) f in
          (omega arith, omega arith)
    ]

pub none_passes : {X : Type 0} (p : X → Bool) (xs : List X) (k : ℕ) (x : X) → position p xs ≡ None → slice_get xs k ≡ Some x → p x ≡ true → ⊥
none_passes p xs k x none h y =
    let r = first_at p xs k x h y in
    let lt : position_or_len p xs < length xs = omega arith in
    none-some (position_or_len p xs) (sym none ∙ ap (λ (b : Bool). cond b (Some (position_or_len p xs)) None) (lt-ltb (position_or_len p xs) (length xs) lt))

half_same : (new old : List ℕ) (a x : ℕ) → ((k : ℕ) → k < 2 → get_or new (a + k) 0 ≡ get_or old (x + k) 0) → half_at new a ≡ half_at old x
half_same new old a x same =
    let zero_same : get_or (drop a new) 0 0 ≡ get_or (drop x old) 0 0 = get_or-drop a new 0 0 ∙ (same 0 (omega arith) ∙ sym (get_or-drop x old 0 0)) in
    let one_same : get_or (drop a new) 1 0 ≡ get_or (drop x old) 1 0 = get_or-drop a new 1 0 ∙ (same 1 (omega arith) ∙ sym (get_or-drop x old 1 0)) in
    omega (arith, zero_same, one_same)

-- what is fetched
fetch_short : (code : CodeBytes) (a : ℕ) → lies code a 2 ≡ true → is_wide (half_of code a) ≡ false → fetch code a ≡ Some (record { first = half_of code a; second = 0; width = 2 })
fetch_short code a there short =
    ap (λ (b : Bool). cond (not b) None (cond (not (is_wide (half_of code a))) (Some (record { first = half_of code a; second = 0; width = 2 })) (cond (lies code a 4) (Some (record { first = half_of code a; second = half_of code (a + 2); width = 4 })) None))) there
    ∙ ap (λ (b : Bool). cond (not b) (Some (record { first = half_of code a; second = 0; width = 2 })) (cond (lies code a 4) (Some (record { first = half_of code a; second = half_of code (a + 2); width = 4 })) None)) short

fetch_long : (code : CodeBytes) (a : ℕ) → lies code a 2 ≡ true → is_wide (half_of code a) ≡ true → lies code a 4 ≡ true → fetch code a ≡ Some (record { first = half_of code a; second = half_of code (a + 2); width = 4 })
fetch_long code a there long whole =
    ap (λ (b : Bool). cond (not b) None (cond (not (is_wide (half_of code a))) (Some (record { first = half_of code a; second = 0; width = 2 })) (cond (lies code a 4) (Some (record { first = half_of code a; second = half_of code (a + 2); width = 4 })) None))) there
    ∙ (ap (λ (b : Bool). cond (not b) (Some (record { first = half_of code a; second = 0; width = 2 })) (cond (lies code a 4) (Some (record { first = half_of code a; second = half_of code (a + 2); width = 4 })) None)) long
    ∙ ap (λ (b : Bool). cond b (Some (record { first = half_of code a; second = half_of code (a + 2); width = 4 })) None) whole)

lies_there : (code : CodeBytes) (a n : ℕ) → code.base ≤ a → a + n ≤ code.base + length code.bytes → lies code a n ≡ true
lies_there code a n low high = and_from (nat_le code.base a) (nat_le (a + n) (code.base + length code.bytes)) (le-leb code.base a low) (le-leb (a + n) (code.base + length code.bytes) high)

-- An instruction whose bytes are there is fetched and decoded.
pub stands : (code : CodeBytes) (a it x : ℕ) (old : List ℕ) (i : Instr) (mark : Mark) → code.base ≤ a → a + length_at old x ≤ code.base + length code.bytes
    → ((k : ℕ) → k < length_at old x → get_or code.bytes ((a - code.base) + k) 0 ≡ get_or old (x + k) 0) → decoded_at old x it ≡ Ok i → mark_at code.marks a ≡ mark
    → Fetches code a it i (length_at old x) mark
stands code a it x old i mark low high same means marked = go (is_long (half_at old x)) refl
  where
    at : ℕ
    at = a - code.base

    go : (b : Bool) → is_long (half_at old x) ≡ b → Fetches code a it i (length_at old x) mark
    go false e =
        let width : length_at old x ≡ 2 = ap (λ (c : Bool). cond c 4 2) e in
        let first : half_of code a ≡ half_at old x = half_same code.bytes old (a - code.base) x (λ k l. same k (omega arith)) in
        let there = lies_there code a 2 low (omega arith) in
        let short : is_wide (half_of code a) ≡ false = ap is_wide first ∙ e in
        record {
          fetched = record { first = half_of code a; second = 0; width = 2 };
          there = fetch_short code a there short;
          wide = sym width;
          means = ap (λ (h : ℕ). decode (place_in_block it) h 0) first
              ∙ (sym (ap (λ (c : Bool). cond c (Err Unknown) (decode (place_in_block it) (half_at old x) 0)) e)
              ∙ (sym (ap (λ (c : Bool). decode_given (place_in_block it) (half_at old x) (cond c (Some (half_at old (x + 2))) None)) e) ∙ means));
          marked = marked;
        }
    go true e =
        let width : length_at old x ≡ 4 = ap (λ (c : Bool). cond c 4 2) e in
        let first : half_of code a ≡ half_at old x = half_same code.bytes old (a - code.base) x (λ k l. same k (omega arith)) in
        let behind : a + 2 - code.base ≡ (a - code.base) + 2 = omega arith in
        let second : half_of code (a + 2) ≡ half_at old (x + 2) =
        ap (λ (n : ℕ). half_at code.bytes n) behind ∙ half_same code.bytes old ((a - code.base) + 2) (x + 2) (λ k l.
        let lk : 2 + k < length_at old x = omega arith in
        let m : (a - code.base) + 2 + k ≡ (a - code.base) + (2 + k) = omega arith in
        let n : x + 2 + k ≡ x + (2 + k) = omega arith in
        ap (λ (z : ℕ). get_or code.bytes z 0) m ∙ (same (2 + k) lk ∙ ap (λ (z : ℕ). get_or old z 0) (sym n))) in
        let there = lies_there code a 2 low (omega arith) in
        let whole = lies_there code a 4 low (omega arith) in
        let long : is_wide (half_of code a) ≡ true = ap is_wide first ∙ e in
        record {
          fetched = record { first = half_of code a; second = half_of code (a + 2); width = 4 };
          there = fetch_long code a there long whole;
          wide = sym width;
          means = ap (λ (h : ℕ). decode (place_in_block it) h (half_of code (a + 2))) first
              ∙ (ap (λ (h : ℕ). decode (place_in_block it) (half_at old x) h) second
              ∙ (sym (ap (λ (c : Bool). decode_given (place_in_block it) (half_at old x) (cond c (Some (half_at old (x + 2))) None)) e) ∙ means));
          marked = marked;
        }

-- a place without a mark in the list is plain
pub no_mark : (marks : List PlaceMark) (a : ℕ) → ((m : PlaceMark) → Contains marks m → m.at ≡ a → ⊥) → mark_at marks a ≡ Plain
no_mark [] a h = refl
no_mark (m ∷ ms) a h =
    elim (cases_Bool (m.at == a)) [
      | inl y ↦ absurd (h m (contains_here m ms) (eqb-true m.at a y))
      | inr n ↦ ap (λ (b : Bool). cond b m.mark (mark_at ms a)) n ∙ no_mark ms a (λ k c. h k (contains_later m ms k c))
    ]

pub place_least : (k : RelocKind) → 2 ≤ place_width k
place_least k = go ((reloc_code k == 102) || (reloc_code k == 103))
  where
    go : (b : Bool) → 2 ≤ cond b 2 4
    go true = omega arith
    go false = omega arith

pub stands_as_is : StandsAsIs
stands_as_is objects at image sound is i j o p here x end it instr start given none =
    stands image.code (p.start + x) it x (bytes_of o j) instr Plain low high same whole.1 (no_mark image.code.marks (p.start + x) unmarked)
  where
    whole : (x + length_at (bytes_of o j) x ≤ end) × (decoded_at (bytes_of o j) x it ≡ Ok instr)
    whole = decoded_whole (bytes_of o j) end x it instr given

    range_section : start.range.section ≡ p.section
    range_section = same_Some start.range.section p.section (sym start.range.is_there ∙ here.section)

    code : is_code p.section ≡ true
    code = subst (λ (s : Section). is_code s ≡ true) range_section start.range.in_code

    its_bytes : bytes_of o j ≡ p.section.bytes
    its_bytes = ap bytes_in here.section

    fits : x + length_at (bytes_of o j) x ≤ p.section.size
    fits =
        let a : end ≤ start.range.section.size = start.range.inside in
        let b : start.range.section.size ≡ p.section.size = ap (λ (s : Section). s.size) range_section in
        let c = whole.0 in
        omega arith

    inside : (at.base ≤ p.start) × (p.start + p.section.size ≤ at.base + length image.code.bytes)
    inside = code_inside objects at image sound is i j o p here code

    low : image.code.base ≤ p.start + x
    low = let b : image.code.base ≡ at.base = is.code_base in let l = inside.0 in omega arith

    high : p.start + x + length_at (bytes_of o j) x ≤ image.code.base + length image.code.bytes
    high = let b : image.code.base ≡ at.base = is.code_base in let l = inside.1 in let f = fits in omega arith

    -- its own relocations
    not_here : (l : Link) → IsLink objects at l → l.file ≡ i → l.reloc.section ≡ j → l.reloc.offset ≡ x → ⊥
    not_here l link file section offset =
        let one : l.object ≡ o = same_Some l.object o (sym link.object ∙ (ap (λ (n : ℕ). slice_get objects n) file ∙ here.object)) in
        none_passes (λ (r : Reloc). (r.section == j) && (r.offset == x)) o.relocs l.number l.reloc none (subst (λ (z : ObjectParts). slice_get z.relocs l.number ≡ Some l.reloc) one link.reloc)
        (and_from (l.reloc.section == j) (l.reloc.offset == x) (eq-eqb l.reloc.section j section) (eq-eqb l.reloc.offset x offset))

    same_part : (l : Link) → IsLink objects at l → l.file ≡ i → l.reloc.section ≡ j → l.part ≡ p
    same_part l link file section =
        same_Some l.part p (sym link.part ∙ (ap (λ (n : ℕ). part_of (all_placed objects at) n l.reloc.section) file ∙ (ap (λ (n : ℕ). part_of (all_placed objects at) i n) section ∙ here.part)))

    elsewhere : (l : Link) → IsLink objects at l → l.file ≡ i → l.reloc.section ≡ j → (l.reloc.offset + place_width l.reloc.kind ≤ x) ⊎ (x + length_at (bytes_of o j) x ≤ l.reloc.offset)
    elsewhere l link file section =
        let one : l.object ≡ o = same_Some l.object o (sym link.object ∙ (ap (λ (n : ℕ). slice_get objects n) file ∙ here.object)) in
        let right : IsRight o l.number l.reloc = subst (λ (z : ObjectParts). IsRight z l.number l.reloc) one (is.can.right l.file l.number l.object l.reloc (record { object = link.object; reloc = link.reloc })) in
        subst (λ (n : ℕ). IsCodeStart o n (bytes_of o n) x end → x + length_at (bytes_of o n) x ≤ end → (l.reloc.offset + place_width l.reloc.kind ≤ x) ⊎ (x + length_at (bytes_of o n) x ≤ l.reloc.offset)) section
        (λ s w. beside o x end l.number l.reloc s w right (not_here l link file section)) start whole.0

    uncovered : (k : ℕ) → k < length_at (bytes_of o j) x → (l : Link) → IsLink objects at l → l.file ≡ i → l.reloc.section ≡ j → covers (p.start + (x + k)) l ≡ false
    uncovered k lk l link file section =
        let begin : l.part.start ≡ p.start = ap (λ (z : Placed). z.start) (same_part l link file section) in
        false_from_ne_true (covers (p.start + (x + k)) l) (λ y.
        let parts = and_parts (nat_le (place_of l) (p.start + (x + k))) (nat_lt (p.start + (x + k)) (place_of l + place_width l.reloc.kind)) y in
        let a : place_of l ≤ p.start + (x + k) = leb-true (place_of l) (p.start + (x + k)) parts.0 in
        let b : p.start + (x + k) < place_of l + place_width l.reloc.kind = ltb-true (p.start + (x + k)) (place_of l + place_width l.reloc.kind) parts.1 in
        elim (elsewhere l link file section) [ inl e ↦ omega arith | inr e ↦ omega arith ])

    same : (k : ℕ) → k < length_at (bytes_of o j) x → get_or image.code.bytes ((p.start + x - image.code.base) + k) 0 ≡ get_or (bytes_of o j) (x + k) 0
    same k lk =
        let f = fits in
        let b : image.code.base ≡ at.base = is.code_base in
        let l = inside.0 in
        let index : (p.start + x - image.code.base) + k ≡ p.start + (x + k) - at.base = omega arith in
        ap (λ (n : ℕ). get_or image.code.bytes n 0) index
        ∙ (code_as_is objects at image sound is i j o p here code (x + k) (omega arith) (uncovered k lk)
        ∙ ap (λ (z : List ℕ). get_or z (x + k) 0) (sym its_bytes))

    unmarked : (m : PlaceMark) → Contains image.code.marks m → m.at ≡ p.start + x → ⊥
    unmarked m c e =
        let h = (is.marks.exact m).0 c in
        let l = h.link in
        let its = part_is objects at l.file l.reloc.section l.part h.is_link.part in
        let mine = part_is objects at i j p here.part in
        let wide = in_part objects at l sound h.is_link in
        let least = length_least (bytes_of o j) x in
        let f = fits in
        let place : m.at ≡ l.part.start + l.reloc.offset = h.place in
        let same_address : p.start + x ≡ l.part.start + l.reloc.offset = omega arith in
        let lx : x < p.section.size = omega arith in
        let some = place_least l.reloc.kind in
        let ly : l.reloc.offset < l.part.section.size = omega arith in
        let one : p ≡ l.part = apart objects at sound is.can i j l.file l.reloc.section p l.part mine its x l.reloc.offset lx ly same_address in
        let begin : p.start ≡ l.part.start = ap (λ (z : Placed). z.start) one in
        not_here l h.is_link (sym its.file ∙ (sym (ap (λ (z : Placed). z.object) one) ∙ mine.file)) (sym its.index ∙ (sym (ap (λ (z : Placed). z.index) one) ∙ mine.index)) (omega arith)
