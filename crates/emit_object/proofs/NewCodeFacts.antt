-- The bytes that pieces make of sections are those of a hardened object.
use Rattle.std.proofs.Common.{◌≡◌, ◌<◌, ℕ, true, List, [], ◌++◌, length, map, refl, sym, ap, ◌∙◌, subst, inl, inr, arith, Some, eqb-true}
use Rattle.std.specs.Prelude.{slice_get, slice_index, Contains, ◌==◌}
use Rattle.std.specs.List.{AllZip, zip}
use Rattle.std.proofs.lemmas.Bool.{cases_lt}
use Rattle.std.proofs.lemmas.Option.{slice_get_within, get_or_from_slice_get}
use Rattle.std.proofs.lemmas.List.{length-map, get_or_past}
use Rattle.std.proofs.lemmas.List.Elements.{Contains-append_cases, Contains-append_left, Contains-append_right}
use Rattle.std.proofs.lemmas.Slice.Zip.{AllZip-long}
use Rattle.elf_model.specs.declared.objects.Section.{Section}
use Rattle.elf_model.specs.Fields.{byte_at, word_at}
use Rattle.elf_model.specs.Objects.{ObjectParts, is_code}
use Rattle.elf_model.proofs.Elements.{element_at, place_of, contains_at, contains_map, map_contains, contains_filter}
use Rattle.code_ranges.proofs.InOrder.{same_at_each}
use Rattle.reloc_places.specs.Starts.{bytes_of, bytes_in as bytes_in_section}
use Rattle.flow_recover.specs.declared.flows.PoolWord.{PoolWord}
use Rattle.flow_recover.specs.Flows.{FlowParts}
use Rattle.flow_recover.specs.Points.{place_of_point}
use Rattle.flow_recover.specs.WholeFlows.{IsFlow}
use Rattle.seq_core.specs.Places.{PlacedParts, LayoutParts}
use Rattle.hardened_form.specs.Places.{UnitPlace, Places}
use Rattle.hardened_form.specs.Items.{Item, AreItems, items_in, StandFrom}
use Rattle.hardened_form.specs.Code.{IsTiled, AreTiled, AreWords}
use Rattle.hardened_form.specs.Standing.{units, old_points, old_words}
use Rattle.hardened_form.specs.Relocs.{IsWordOf as word_of}
use Rattle.hardened_form.proofs.OneList.{items_once}
use Rattle.branch_layout.specs.Copies.{copies_of}
use Rattle.branch_layout.specs.Placings.{IsPlacing, places_of, unit_point}
use Rattle.branch_layout.specs.Laid.{laid_place, laid_places}
use Rattle.branch_layout.proofs.Lists.{empty_list}
use Rattle.branch_layout.proofs.LaidFacts.{layouts_laid}
use Rattle.branch_layout.proofs.WithinFacts.{all_zip_at, map_at, zip_parts}
use Rattle.emit_object.specs.declared.code_pieces.Piece.{Piece}
use Rattle.emit_object.specs.CodePieces.{unit_piece, IsWordPiece, IsOver, AreApart}
use Rattle.emit_object.specs.CodeBytes.{bytes_in, filler_byte, AreBlank, Fits, CanPut, ArePut}
use Rattle.emit_object.specs.Emitting.{unit_of, units_of, CanEmit}
use Rattle.emit_object.specs.FirstItems.{AreItemsOf}
use Rattle.emit_object.specs.Laid.{HasCode}
use Rattle.emit_object.specs.NewCode.{HasNewCode}
use Rattle.emit_object.specs.UnitCopies.{CodeAt, HaveCodes}
use Rattle.emit_object.proofs.CodeReads.{StandsAt, word_stands, codes_stand}
use Rattle.emit_object.proofs.FlowSections.{point_in_code, word_in_code}
use Rattle.emit_object.proofs.PieceFacts.{unit_parts, codes_small, IsPieceOf, unit_item, word_item, of_unit, of_word, even_in, in_section, pieces_apart, units_apart, words_apart, fits}
use Rattle.emit_object.proofs.PutFacts.{put_more}
use Rattle.emit_object.proofs.StandApart.{IsIn, filled_from}

module _ (o : ObjectParts) (f : FlowParts) (l : LayoutParts) (flow : IsFlow o f) (can : CanEmit o f l) where
  -- a unit lies in a section of code
  unit_in_code : (k : ℕ) (u : PlacedParts) → slice_get l.units k ≡ Some u → HasCode o.sections u.unit.section
  unit_in_code k u e =
      let low = slice_get_within l.units k u e in
      let count = can.count in
      let x = element_at f.points k (omega arith) in
      subst (HasCode o.sections) (sym (can.each k x.0 u x.1 e).section) (point_in_code o f flow k x.0 x.1)

  -- the items of the layout
  abbrev standing : IsPlacing (units_of l) f.words can.layout.placing
  standing = can.layout.places.placed

  points_same : map unit_point (units_of l) ≡ old_points f
  points_same =
      let count = can.count in
      let a : length (map unit_point (units_of l)) ≡ length (units_of l) = length-map (units_of l) unit_point in
      let b : length (units_of l) ≡ length l.units = length-map l.units unit_of in
      let c : length (old_points f) ≡ length f.points = length-map f.points place_of_point in
      same_at_each (map unit_point (units_of l)) (old_points f) (omega arith) each
    where
      each : (k : ℕ) (a b : ℕ × ℕ) → slice_get (map unit_point (units_of l)) k ≡ Some a → slice_get (old_points f) k ≡ Some b → a ≡ b
      each k a b e g =
          let v = map_at unit_point (units_of l) k a e in
          let u = map_at unit_of l.units k v.0 v.1 in
          let x = map_at place_of_point f.points k b g in
          let is = can.each k x.0 u.0 x.1 u.1 in
          let same : unit_point u.0.unit ≡ place_of_point x.0 = λ i. (is.section i, is.old i) in
          sym v.2 ∙ ap unit_point (sym u.2) ∙ same ∙ x.2

  items_are : (items : List Item) → AreItemsOf f l items → items ≡ standing.items
  items_are items are =
      let of = subst (λ (ps : List (ℕ × ℕ)). AreItems ps (old_words f) (places_of can.layout.placing) standing.items) points_same standing.of in
      items_once (old_points f) (old_words f) (laid_places l) items standing.items are
      (subst (λ (q : Places). AreItems (old_points f) (old_words f) q standing.items) (sym (layouts_laid (units_of l) f.words l can.layout).places) of)

  -- THE PIECES OF UNITS

  abbrev us : List Piece
  us = map unit_piece l.units

  record UnitOf (q : Piece) : Type 0 where
    index : ℕ
    unit : PlacedParts
    there : slice_get l.units index ≡ Some unit
    is : unit_piece unit ≡ q

  unit_of_piece : (q : Piece) → Contains us q → UnitOf q
  unit_of_piece q c =
      let from = contains_map unit_piece l.units q c in
      let at = place_of l.units from.0 from.1 in
      record { index = at.0; unit = from.0; there = at.1; is = from.2 }

  pub units_can : (all : List (List ℕ)) → AreBlank l.sizes (length o.sections) all → CanPut all us
  units_can all blank = record {
    fit = λ q c.
        let u = unit_of_piece q c in
        subst (Fits all) u.is (fits o f l can all blank (unit_piece u.unit) (unit_item o f l can u.index u.unit u.there) (of_unit o f l can u.index u.unit u.there) (unit_in_code u.index u.unit u.there));
    apart = λ i k q r lt e g.
        let u = map_at unit_piece l.units i q e in
        let v = map_at unit_piece l.units k r g in
        subst (λ (z : Piece). AreApart z r) u.2 (subst (AreApart (unit_piece u.0)) v.2 (units_apart o f l can i k u.0 v.0 lt u.1 v.1));
  }

  -- THE PIECES OF WORDS

  module _ (ws : List Piece) (are : AllZip (IsWordPiece o) (zip f.words l.words) ws) where
    record WordOf (k : ℕ) (q : Piece) : Type 0 where
      word : PoolWord
      place : ℕ
      there : slice_get f.words k ≡ Some word
      there_now : slice_get l.words k ≡ Some place
      is : IsWordPiece o (word, place) q

    word_at_piece : (k : ℕ) (q : Piece) → slice_get ws k ≡ Some q → WordOf k q
    word_at_piece k q e =
        let long : length ws ≡ length (zip f.words l.words) = AllZip-long (IsWordPiece o) (zip f.words l.words) ws are in
        let low = slice_get_within ws k q e in
        let z = element_at (zip f.words l.words) k (omega arith) in
        let parts = zip_parts f.words l.words k z.0 z.1 in
        record { word = z.0.0; place = z.0.1; there = parts.0; there_now = parts.1; is = all_zip_at (IsWordPiece o) (zip f.words l.words) ws k z.0 q are z.1 e }

    word_piece_is : (k : ℕ) (q : Piece) (e : slice_get ws k ≡ Some q) → IsPieceOf o f l can q (word_item o f l can (word_at_piece k q e).word (word_at_piece k q e).place)
    word_piece_is k q e = let w = word_at_piece k q e in of_word o f l can k w.word w.place q w.there w.there_now w.is

    pub words_can : (all : List (List ℕ)) → AreBlank l.sizes (length o.sections) all → CanPut all ws
    words_can all blank = record {
      fit = λ q c.
          let at = place_of ws q c in
          let w = word_at_piece at.0 q at.1 in
          fits o f l can all blank q (word_item o f l can w.word w.place) (word_piece_is at.0 q at.1)
          (subst (HasCode o.sections) (sym w.is.section) (word_in_code o f flow w.word (contains_at f.words at.0 w.word w.there)));
      apart = λ i k q r lt e g.
          let w = word_at_piece i q e in
          let v = word_at_piece k r g in
          words_apart o f l can i k w.word v.word w.place v.place q r lt w.there v.there (word_piece_is i q e) (word_piece_is k r g);
    }

    both_apart : (q r : Piece) → Contains us q → Contains ws r → AreApart q r
    both_apart q r c d =
        let u = unit_of_piece q c in
        let at = place_of ws r d in
        subst (λ (z : Piece). AreApart z r) u.is
        (pieces_apart o f l can (unit_piece u.unit) r (unit_item o f l can u.index u.unit u.there) (word_item o f l can (word_at_piece at.0 r at.1).word (word_at_piece at.0 r at.1).place)
        (of_unit o f l can u.index u.unit u.there) (word_piece_is at.0 r at.1) (λ same. let flag = ap (λ (i : Item). i.word) same in cc))

    module _ (blank mid all : List (List ℕ)) (filled : AreBlank l.sizes (length o.sections) blank) (first : ArePut us blank mid) (second : ArePut ws mid all) where
      whole : ArePut (us ++ ws) blank all
      whole = put_more us ws blank mid all first second both_apart

      pub new_count : length all ≡ length o.sections
      new_count = whole.count ∙ filled.count

      pub new_sizes : (j : ℕ) → j < length o.sections → length (bytes_in all j) ≡ slice_index l.sizes j
      new_sizes j low = whole.sizes j ∙ (filled.each j low).size

      -- a byte of a piece is one of its item
      over_item : (q : Piece) (j x : ℕ) → Contains (us ++ ws) q → IsOver q j x → (it : Item) × (Contains (items_in standing.items j) it × IsIn it x)
      over_item q j x c over = elim (Contains-append_cases us ws q c) [
        | inl a ↦ let u = unit_of_piece q a in by (unit_item o f l can u.index u.unit u.there) (subst (λ (z : Piece). IsPieceOf o f l can z (unit_item o f l can u.index u.unit u.there)) u.is (of_unit o f l can u.index u.unit u.there))
        | inr b ↦ let at = place_of ws q b in by (word_item o f l can (word_at_piece at.0 q at.1).word (word_at_piece at.0 q at.1).place) (word_piece_is at.0 q at.1)
      ]
        where
          by : (it : Item) → IsPieceOf o f l can q it → (it : Item) × (Contains (items_in standing.items j) it × IsIn it x)
          by it is =
              let start = is.start in
              let end = is.end in
              let low = over.low in
              let high = over.high in
              (it, (in_section o f l can it j is.among (sym is.section ∙ over.section), record { low = omega arith; high = omega arith }))

      module _ (h : ObjectParts) (new : HasNewCode o h l all) where
        bytes_are : (j : ℕ) → HasCode o.sections j → bytes_of h j ≡ bytes_in all j
        bytes_are j code =
            let t = new.sizes.news j code.section code.there code.code in
            ap bytes_in_section t.there ∙ new.bytes j t.section t.there t.code

        -- UNITS AND WORDS STAND ONE BEHIND THE OTHER

        module _ (j : ℕ) (t : Section) (there : slice_get h.sections j ≡ Some t) (code : is_code t ≡ true) where
          size : t.size ≡ slice_index l.sizes j
          size = new.sizes.same j t there code

          low : j < length o.sections
          low = let s = new.sizes.olds j t there code in slice_get_within o.sections j s.section s.there

          stands : StandFrom 0 (items_in standing.items j) t.size
          stands = elim (cases_lt j (length can.layout.placing.sizes)) [
            | inl lt ↦
                let n = element_at can.layout.placing.sizes j lt in
                let same : t.size ≡ n.0 = size ∙ ap (λ (ss : List ℕ). slice_index ss j) can.layout.sizes ∙ get_or_from_slice_get can.layout.placing.sizes j n.0 0 n.1 in
                subst (StandFrom 0 (items_in standing.items j)) (sym same) (standing.stand j n.0 n.1)
            | inr past ↦
                let none : items_in standing.items j ≡ [] =
                empty_list (items_in standing.items j) (λ it c.
                let here = contains_filter (λ (i : Item). i.section == j) standing.items it c in
                let within = standing.sections.within it here.0 in
                let same : it.section ≡ j = eqb-true it.section j here.1 in
                omega arith) in
                let zero : 0 ≡ t.size = sym (size ∙ ap (λ (ss : List ℕ). slice_index ss j) can.layout.sizes ∙ get_or_past can.layout.placing.sizes j 0 past) in
                subst (λ (items : List Item). StandFrom 0 items t.size) (sym none) zero
          ]

          free : (y : ℕ) → y < t.size → ((it : Item) → Contains (items_in standing.items j) it → IsIn it y → ⊥) → byte_at t.bytes y ≡ filler_byte y
          free y lt none =
              let s = size in
              ap (λ (b : List ℕ). byte_at b y) (new.bytes j t there code)
              ∙ whole.others j y (λ q c over. let i = over_item q j y c over in none i.0 i.1.0 i.1.1)
              ∙ (filled.each j low).filled y (omega arith)

          tiled : IsTiled standing.items j t
          tiled = record { stand = stands; filled = filled_from t.bytes (items_in standing.items j) t.size free 0 (items_in standing.items j) (even_in o f l can j) stands refl (λ it c. inr c) }

        pub new_tiled : (items : List Item) → AreItemsOf f l items → AreTiled h items
        new_tiled items are j t there code = subst (λ (its : List Item). IsTiled its j t) (sym (items_are items are)) (tiled j t there code)

        pub new_words : AreWords o h f (laid_places l)
        new_words w _ (word_of.in_pool y c) =
            let at = place_of (zip f.words l.words) (w, y) c in
            let low = slice_get_within (zip f.words l.words) at.0 (w, y) at.1 in
            let long : length ws ≡ length (zip f.words l.words) = AllZip-long (IsWordPiece o) (zip f.words l.words) ws are in
            let q = element_at ws at.0 (omega arith) in
            let is = all_zip_at (IsWordPiece o) (zip f.words l.words) ws at.0 (w, y) q.0 are at.1 q.1 in
            let code = word_in_code o f flow w (contains_at f.words at.0 w (zip_parts f.words l.words at.0 (w, y) at.1).0) in
            let stand : StandsAt (bytes_in all q.0.section) q.0.at q.0.bytes = λ i lt. whole.stand q.0 i (Contains-append_right us ws q.0 (contains_at ws at.0 q.0 q.1)) lt in
            let reads = word_stands (bytes_in all q.0.section) q.0.at q.0.bytes is.size stand in
            ap (λ (b : List ℕ). word_at b y) (bytes_are w.section code) ∙ ap (λ (j : ℕ). word_at (bytes_in all j) y) (sym is.section) ∙ ap (word_at (bytes_in all q.0.section)) (sym is.at) ∙ reads ∙ is.number
        new_words w _ (word_of.in_island x u n y c e g island) =
            let at = place_of (units f (laid_places l)) (x, u) c in
            let v = map_at laid_place l.units at.0 u (zip_parts f.points (map laid_place l.units) at.0 (x, u) at.1).1 in
            let none = (unit_parts o f l can at.0 v.0 v.1).laid.island in
            let same : v.0.island ≡ u.island = ap (λ (z : UnitPlace). z.island) v.2 in
            absurd (cc)

        pub new_codes : HaveCodes h l
        new_codes k u c e d =
            subst (λ (b : List ℕ). CodeAt b c.at c.code) (sym (bytes_are u.unit.section (unit_in_code k u e)))
            (codes_stand (bytes_in all u.unit.section) u.start (copies_of u.unit.seq.steps) u.codes (codes_small o f l can k u e)
            (λ i lt. whole.stand (unit_piece u) i (Contains-append_left us ws (unit_piece u) (map_contains unit_piece l.units u (contains_at l.units k u e))) lt) c d)

-- what all these bytes make
pub record Makes (o : ObjectParts) (f : FlowParts) (l : LayoutParts) (all : List (List ℕ)) : Type 0 where
  pub count : length all ≡ length o.sections
  pub sizes : (j : ℕ) → j < length o.sections → length (bytes_in all j) ≡ slice_index l.sizes j
  pub tiled : (h : ObjectParts) (items : List Item) → HasNewCode o h l all → AreItemsOf f l items → AreTiled h items
  pub words : (h : ObjectParts) → HasNewCode o h l all → AreWords o h f (laid_places l)
  pub codes : (h : ObjectParts) → HasNewCode o h l all → HaveCodes h l

module _ (o : ObjectParts) (f : FlowParts) (l : LayoutParts) (flow : IsFlow o f) (can : CanEmit o f l) where
  -- by the lists that the code has in hand
  pub blank_as : (sizes : List ℕ) (sections : List Section) (all : List (List ℕ)) → sizes ≡ l.sizes → sections ≡ o.sections → AreBlank sizes (length sections) all → AreBlank l.sizes (length o.sections) all
  blank_as sizes sections all e g b = subst (λ (ss : List ℕ). AreBlank ss (length o.sections) all) e (subst (λ (xs : List Section). AreBlank sizes (length xs) all) g b)

  pub words_as : (words : List PoolWord) (places : List ℕ) (ws : List Piece) → words ≡ f.words → places ≡ l.words → AllZip (IsWordPiece o) (zip words places) ws → AllZip (IsWordPiece o) (zip f.words l.words) ws
  words_as words places ws e g are = subst (λ (ys : List ℕ). AllZip (IsWordPiece o) (zip f.words ys) ws) g (subst (λ (xs : List PoolWord). AllZip (IsWordPiece o) (zip xs places) ws) e are)

  pub makes : (blank mid all : List (List ℕ)) (units words ws : List Piece) → AreBlank l.sizes (length o.sections) blank → units ≡ map unit_piece l.units → ArePut units blank mid
      → AllZip (IsWordPiece o) (zip f.words l.words) ws → words ≡ ws → ArePut words mid all → Makes o f l all
  makes blank mid all units words ws filled e first are g second =
      let one : ArePut (map unit_piece l.units) blank mid = subst (λ (ps : List Piece). ArePut ps blank mid) e first in
      let two : ArePut ws mid all = subst (λ (ps : List Piece). ArePut ps mid all) g second in
      record {
        count = new_count o f l flow can ws are blank mid all filled one two;
        sizes = new_sizes o f l flow can ws are blank mid all filled one two;
        tiled = λ h items new are_items. new_tiled o f l flow can ws are blank mid all filled one two h new items are_items;
        words = λ h new. new_words o f l flow can ws are blank mid all filled one two h new;
        codes = λ h new. new_codes o f l flow can ws are blank mid all filled one two h new;
      }
