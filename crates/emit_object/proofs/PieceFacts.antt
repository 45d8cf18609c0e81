-- The pieces of code of a layout: each has an item, they fit in their sections, and do not meet.
use Rattle.std.proofs.Common.{◌≡◌, ◌≤◌, ◌<◌, ◌⊎◌, ℕ, ◌+◌, List, length, map, refl, sym, ap, ◌∙◌, inl, inr, arith, Some, eq-eqb}
use Rattle.std.specs.Prelude.{slice_get, slice_index, Contains, flat_map, ◌≢◌, ◌==◌}
use Rattle.std.specs.List.{zip}
use Rattle.std.specs.Option.{option_map}
use Rattle.std.proofs.lemmas.Bool.{cases_eq}
use Rattle.std.proofs.lemmas.Option.{slice_get-map, slice_get_within, get_or_from_slice_get}
use Rattle.std.proofs.lemmas.Slice.Zip.{AllZip-long}
use Rattle.elf_model.specs.Objects.{ObjectParts}
use Rattle.elf_model.proofs.Elements.{element_at, contains_filter, filter_contains}
use Rattle.code_ranges.specs.Spans.{place_cmp}
use Rattle.code_ranges.proofs.InOrder.{never_itself}
use Rattle.code_ranges.proofs.PlaceOrder.{place_total}
use Rattle.thumb_instr.specs.declared.instructions.Instr.{Instr}
use Rattle.thumb_encode.specs.declared.codes.Code.{Code}
use Rattle.thumb_encode.specs.declared.codes.Code.TheVariants as code
use Rattle.thumb_encode.specs.declared.codes.Width.{Width}
use Rattle.thumb_encode.specs.Encoding.{width_of, StandsFor}
use Rattle.flow_recover.specs.declared.flows.PoolWord.{PoolWord}
use Rattle.flow_recover.specs.Flows.{FlowParts}
use Rattle.seq_core.specs.Places.{PlacedParts, LayoutParts}
use Rattle.hardened_form.specs.Items.{Item, old_place, item_of_unit, item_of_word, items_in}
use Rattle.branch_layout.specs.Copies.{copies_of, length_of}
use Rattle.branch_layout.specs.Placings.{Stretch, Placing, IsStretch, IsPlacing, places_of, unit_point, word_point}
use Rattle.branch_layout.specs.Layouts.{IsPlacedUnit}
use Rattle.branch_layout.proofs.Ahead.{later_above}
use Rattle.branch_layout.proofs.OnePlacing.{unit_among, word_among}
use Rattle.branch_layout.proofs.WithinFacts.{all_zip_at, zip_at, item_is_even, stands_between}
use Rattle.emit_object.specs.declared.code_pieces.Piece.{Piece}
use Rattle.emit_object.specs.CodePieces.{code_bytes, unit_piece, IsWordPiece, AreApart}
use Rattle.emit_object.specs.CodeBytes.{AreBlank, Fits}
use Rattle.emit_object.specs.Emitting.{unit_of, units_of, CanEmit}
use Rattle.emit_object.specs.Laid.{HasCode}
use Rattle.emit_object.proofs.CodeReads.{IsSmall, codes_length}
use Rattle.emit_object.proofs.StandApart.{AreEven, stand_apart}

small_code : (c : Code) (i : Instr) → StandsFor c i → IsSmall c
small_code (code.Half h) i s = s.0
small_code (code.Full first second) i s = (s.0, s.1)

module _ (o : ObjectParts) (f : FlowParts) (l : LayoutParts) (can : CanEmit o f l) where
  abbrev p : Placing
  p = can.layout.placing

  abbrev pub placed : IsPlacing (units_of l) f.words p
  placed = can.layout.places.placed

  -- UNITS

  pub record UnitParts (k : ℕ) (u : PlacedParts) : Type 0 where
    pub stretch : Stretch
    pub unit : slice_get (units_of l) k ≡ Some u.unit
    pub there : slice_get p.units k ≡ Some stretch
    pub laid : IsPlacedUnit (places_of p) (u.unit, stretch) u
    pub is : IsStretch u.unit stretch

  pub unit_parts : (k : ℕ) (u : PlacedParts) → slice_get l.units k ≡ Some u → UnitParts k u
  unit_parts k u e =
      let unit : slice_get (units_of l) k ≡ Some u.unit = slice_get-map unit_of l.units k ∙ ap (option_map unit_of) e in
      let many : length p.units ≡ length (units_of l) = AllZip-long IsStretch (units_of l) p.units placed.stretches in
      let low = slice_get_within (units_of l) k u.unit unit in
      let s = element_at p.units k (omega arith) in
      record {
        stretch = s.0;
        unit = unit;
        there = s.1;
        laid = all_zip_at (IsPlacedUnit (places_of p)) (zip (units_of l) p.units) l.units k (u.unit, s.0) u can.layout.codes (zip_at (units_of l) p.units k u.unit s.0 unit s.1) e;
        is = all_zip_at IsStretch (units_of l) p.units k u.unit s.0 placed.stretches unit s.1;
      }

  module _ (k : ℕ) (u : PlacedParts) (e : slice_get l.units k ≡ Some u) where
    abbrev parts : UnitParts k u
    parts = unit_parts k u e

    many_codes : length u.codes ≡ length parts.stretch.widths
    many_codes = parts.laid.codes.count ∙ sym parts.is.count

    -- a code has the width of its copy, and halfwords
    code_at : (i : ℕ) (c : Code) (w : Width) → slice_get u.codes i ≡ Some c → slice_get parts.stretch.widths i ≡ Some w → (width_of c ≡ w) × IsSmall c
    code_at i c w g h =
        let low = slice_get_within u.codes i c g in
        let count = parts.laid.codes.count in
        let t = element_at (copies_of u.unit.seq.steps) i (omega arith) in
        let of = (parts.laid.codes.each i t.0 w c t.1 h g).of in
        (of.0, small_code c _ of.1)

    pub codes_small : (i : ℕ) (c : Code) → slice_get u.codes i ≡ Some c → IsSmall c
    codes_small i c g =
        let low = slice_get_within u.codes i c g in
        let many = many_codes in
        let w = element_at parts.stretch.widths i (omega arith) in
        (code_at i c w.0 g w.1).1

    unit_length : length (flat_map code_bytes u.codes) ≡ length_of parts.stretch.widths
    unit_length = codes_length u.codes parts.stretch.widths many_codes (λ i c w g h. (code_at i c w g h).0)

  -- ITEMS

  pub record IsPieceOf (q : Piece) (it : Item) : Type 0 where
    pub section : q.section ≡ it.section
    pub start : q.at ≡ it.new
    pub end : q.at + length q.bytes ≡ it.end
    pub among : Contains placed.items it

  abbrev pub unit_item : (k : ℕ) (u : PlacedParts) → slice_get l.units k ≡ Some u → Item
  unit_item k u e = item_of_unit (unit_point u.unit, (unit_parts k u e).stretch.place)

  pub of_unit : (k : ℕ) (u : PlacedParts) (e : slice_get l.units k ≡ Some u) → IsPieceOf (unit_piece u) (unit_item k u e)
  of_unit k u e =
      let parts = unit_parts k u e in
      let long = unit_length k u e in
      let start = parts.laid.start in
      let end = parts.is.end in
      record {
        section = refl;
        start = start;
        end = omega arith;
        among = unit_among (units_of l) f.words p placed k u.unit parts.stretch parts.unit parts.there;
      }

  abbrev pub word_item : PoolWord → ℕ → Item
  word_item w y = item_of_word (word_point w, y)

  pub of_word : (k : ℕ) (w : PoolWord) (y : ℕ) (q : Piece) → slice_get f.words k ≡ Some w → slice_get l.words k ≡ Some y → IsWordPiece o (w, y) q → IsPieceOf q (word_item w y)
  of_word k w y q e g is =
      let size = is.size in
      let at = is.at in
      record {
        section = is.section;
        start = is.at;
        end = omega arith;
        among = word_among (units_of l) f.words p placed k w y e (ap (λ (ws : List ℕ). slice_get ws k) (sym can.layout.new_words) ∙ g);
      }

  pub even_in : (j : ℕ) → AreEven (items_in placed.items j)
  even_in j it h = item_is_even (units_of l) f.words p placed it (contains_filter (λ (i : Item). i.section == j) placed.items it h).0

  pub in_section : (it : Item) (j : ℕ) → Contains placed.items it → it.section ≡ j → Contains (items_in placed.items j) it
  in_section it j h e = filter_contains (λ (i : Item). i.section == j) placed.items it h (eq-eqb it.section j e)

  items_apart : (a b : Item) → Contains placed.items a → Contains placed.items b → (a ≡ b → ⊥) → (a.section ≢ b.section) ⊎ ((a.end ≤ b.new) ⊎ (b.end ≤ a.new))
  items_apart a b h k ne = elim (cases_eq a.section b.section) [
    | inl e ↦
        let size = element_at p.sizes b.section (placed.sections.within b k) in
        inr (stand_apart 0 (items_in placed.items b.section) size.0 (even_in b.section) (placed.stand b.section size.0 size.1) refl a b (in_section a b.section h e) (in_section b b.section k refl) ne)
    | inr other ↦ inl other
  ]

  pub pieces_apart : (q r : Piece) (a b : Item) → IsPieceOf q a → IsPieceOf r b → (a ≡ b → ⊥) → AreApart q r
  pieces_apart q r a b h k ne =
      let start = h.start in
      let end = h.end in
      let start2 = k.start in
      let end2 = k.end in
      elim (items_apart a b h.among k.among ne) [
        | inl other ↦ inl (λ e. other (sym h.section ∙ e ∙ k.section))
        | inr (inl before) ↦ inr (inl (omega arith))
        | inr (inr behind) ↦ inr (inr (omega arith))
      ]

  pub units_apart : (i k : ℕ) (u v : PlacedParts) → i < k → slice_get l.units i ≡ Some u → slice_get l.units k ≡ Some v → AreApart (unit_piece u) (unit_piece v)
  units_apart i k u v lt e g = pieces_apart (unit_piece u) (unit_piece v) (unit_item i u e) (unit_item k v g) (of_unit i u e) (of_unit k v g)
      (λ same. never_itself place_cmp place_total (unit_point u.unit) (unit_point v.unit) (ap old_place same)
      (later_above (map unit_point (units_of l)) i k (unit_point u.unit) (unit_point v.unit) can.can.unit_order lt (point i u e) (point k v g)))
    where
      point : (n : ℕ) (x : PlacedParts) → slice_get l.units n ≡ Some x → slice_get (map unit_point (units_of l)) n ≡ Some (unit_point x.unit)
      point n x h = slice_get-map unit_point (units_of l) n ∙ ap (option_map unit_point) (unit_parts n x h).unit

  pub words_apart : (i k : ℕ) (w v : PoolWord) (x y : ℕ) (q r : Piece) → i < k → slice_get f.words i ≡ Some w → slice_get f.words k ≡ Some v → IsPieceOf q (word_item w x) → IsPieceOf r (word_item v y) → AreApart q r
  words_apart i k w v x y q r lt e g one two = pieces_apart q r (word_item w x) (word_item v y) one two
      (λ same. never_itself place_cmp place_total (word_point w) (word_point v) (ap old_place same)
      (later_above (map word_point f.words) i k (word_point w) (word_point v) can.can.word_order lt (point i w e) (point k v g)))
    where
      point : (n : ℕ) (z : PoolWord) → slice_get f.words n ≡ Some z → slice_get (map word_point f.words) n ≡ Some (word_point z)
      point n z h = slice_get-map word_point f.words n ∙ ap (option_map word_point) h

  -- what an item takes is in its section
  item_low : (it : Item) → Contains placed.items it → it.end ≤ slice_index l.sizes it.section
  item_low it h =
      let size = element_at p.sizes it.section (placed.sections.within it h) in
      let high = (stands_between 0 (items_in placed.items it.section) size.0 (even_in it.section) (placed.stand it.section size.0 size.1) refl it (in_section it it.section h refl)).high in
      let same : slice_index l.sizes it.section ≡ size.0 = ap (λ (ss : List ℕ). slice_index ss it.section) can.layout.sizes ∙ get_or_from_slice_get p.sizes it.section size.0 0 size.1 in
      omega arith

  pub fits : (all : List (List ℕ)) → AreBlank l.sizes (length o.sections) all → (q : Piece) (it : Item) → IsPieceOf q it → HasCode o.sections q.section → Fits all q
  fits all blank q it of code =
      let low = slice_get_within o.sections q.section code.section code.there in
      let high = item_low it of.among in
      let count = blank.count in
      let size = (blank.each q.section low).size in
      let end = of.end in
      let same : slice_index l.sizes q.section ≡ slice_index l.sizes it.section = ap (slice_index l.sizes) of.section in
      record { there = omega arith; room = omega arith }
