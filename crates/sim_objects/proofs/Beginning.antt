-- Calls of names start alike in both images.
use Rattle.std.specs.Prelude.{◌≡◌, ◌<◌, ◌≤◌, ◌⊎◌, ℕ, ◌+◌, ◌-◌, ◌%◌, ◌==◌, ◌&&◌, ◌||◌, nat_lt, Bool, true, List, [], ◌∷◌, ◌++◌, length, map, filter, replicate, get_or, Option, Some, None, slice_get, Contains, refl}
use Rattle.std.proofs.Common.{arith, inl, inr, ap, sym, ◌∙◌, subst}
use Rattle.std.proofs.lemmas.Bool.{cases_Bool, cases_lt, and_parts, and_from, or_left, lt-ltb, eq-eqb, cond-true, cond-false}
use Rattle.std.proofs.lemmas.List.{get_or_append_left, get_or-append_right, get_or_past, get_or-replicate, length-append, length-replicate}
use Rattle.std.proofs.lemmas.Option.{none-some, same_Some}
use Rattle.elf_model.specs.declared.objects.Section.{Section}
use Rattle.elf_model.specs.Constants.{func}
use Rattle.elf_model.specs.Fields.{same_name}
use Rattle.elf_model.specs.Canonical.{round_up}
use Rattle.elf_model.specs.Objects.{ObjectParts, is_code, is_data, even}
use Rattle.elf_model.proofs.Elements.{contains_here, contains_later}
use Rattle.elf_model.proofs.Lists.{get_map}
use Rattle.mark_word.specs.declared.marks.Mark.{Mark}
use Rattle.mark_word.specs.declared.marks.Mark.TheVariants.{Plain, Entry, Return, Low}
use Rattle.mark_word.specs.declared.cells.Piece.{Piece}
use Rattle.mark_word.specs.Words.{Cell, bare, byte_of, is_cell}
use Rattle.mark_word.specs.Marks.{piece_of}
use Rattle.reloc_places.specs.Relocations.{is_in_code as has_code}
use Rattle.thumb_table.specs.declared.placements.Placement.{Placement}
use Rattle.thumb_table.specs.declared.parts.NamedEntry.{NamedEntry}
use Rattle.thumb_table.specs.Parts.{Image}
use Rattle.thumb_table.specs.Layouts.{Placed, all_placed}
use Rattle.thumb_table.specs.Names.{Defined, all_symbols, resolved, is_in_code, is_function, is_standing, address_of}
use Rattle.thumb_table.specs.Links.{leads_to_code, full, mark_of}
use Rattle.thumb_table.specs.Images.{entry_of}
use Rattle.thumb_table.specs.Calls.{run_cells, run_memory, start}
use Rattle.flow_recover.specs.Aims.{by_symbol}
use Rattle.flow_recover.specs.WholeFlows.{IsEntry, named}
use Rattle.sim_charts.specs.Charts.{Chart, Point}
use Rattle.sim_charts.specs.Words.{SameByte, SameCell}
use Rattle.sim_charts.specs.Words as words
use Rattle.sim_charts.specs.Alike.{EntryTo, by_chart, SameMemory}
use Rattle.sim_charts.specs.Simulates.{At}
use Rattle.sim_charts.proofs.Starts.{calls_start_alike}
use Rattle.sim_images.specs.PairLaws.{SamePiece}
use Rattle.sim_images.proofs.EachLinked.{has_part}
use Rattle.sim_images.proofs.Meant.{symbol_stands, in_filter, same_code}
use Rattle.sim_images.proofs.ValuesAlike.{inside_room, its_home}
use Rattle.sim_images.proofs.LinksMeet.{room_of}
use Rattle.sim_images.proofs.LinkNumbers.{starts}
use Rattle.sim_images.proofs.DataMeet.{data_meets}
use Rattle.sim_images.proofs.EntriesAlike.{entries_meet}
use Rattle.sim_answers.specs.Forms.{DoAnswer}
use Rattle.sim_answers.proofs.Placed.{word_no_jump}
use Rattle.sim_objects.specs.Lists.{Pairing, plains, hards, HaveImages}
use Rattle.sim_objects.specs.Charts.{start_at, IsChartOf}
use Rattle.sim_objects.specs.UnitLinks.{moved_in, GoesTo}
use Rattle.sim_objects.specs.Moving.{Enters}
use Rattle.sim_objects.specs.Beginning.{NamesEnter, MemoriesMeet, CallsBegin}
use Rattle.sim_objects.proofs.Parts.{start_is}
use Rattle.sim_objects.proofs.Living.{points_live}
use Rattle.sim_objects.proofs.Moving.{one_point, pair_of, goes_there, entry_there}
use Rattle.sim_objects.proofs.Entering.{links_enter}
use Rattle.sim_objects.proofs.Numbering.{mark_outside, mark_inside, word_mark}
use Rattle.sim_objects.proofs.DataCells.{linked_cell, CellIs, byte_alone, of_word, cell_is}
use Rattle.sim_objects.proofs.Kept.{pairs_answer}
use Rattle.sim_objects.proofs.Even.{places_are_even}

-- names
abbrev as_entry : List Placed → Defined → NamedEntry
as_entry parts d = record { name = d.symbol.name; address = even (address_of parts d) + 1 }

entry_found : (parts : List Placed) (ds : List Defined) (name : List ℕ) (n : ℕ) → entry_of (map (λ d. as_entry parts d) ds) name ≡ Some n → (d : Defined) × Contains ds d × (even (address_of parts d) + 1 ≡ n)
entry_found parts [] name n h = absurd (none-some n h)
entry_found parts (d ∷ ds) name n h =
    elim (cases_Bool (same_name d.symbol.name name)) [
      | inl y ↦
          (d, contains_here d ds, same_Some (even (address_of parts d) + 1) n (sym (cond-true (same_name d.symbol.name name) (Some (even (address_of parts d) + 1)) (entry_of (map (λ z. as_entry parts z) ds) name) y) ∙ h))
      | inr f ↦
          let r = entry_found parts ds name n (sym (cond-false (same_name d.symbol.name name) (Some (even (address_of parts d) + 1)) (entry_of (map (λ z. as_entry parts z) ds) name) f) ∙ h) in
          (r.0, contains_later d ds r.0 r.1, r.2)
    ]

-- cells of memories with a stack
all_bare : (n i : ℕ) → get_or (replicate n (bare 0)) i (bare 0) ≡ bare 0
all_bare n i = elim (cases_lt i n) [ inl lt ↦ get_or-replicate n i (bare 0) (bare 0) lt | inr past ↦ get_or_past (replicate n (bare 0)) i (bare 0) (let e = length-replicate n (bare 0) in omega (arith, past, e)) ]

all_long : (cs : List Cell) (r s : ℕ) → length (cs ++ replicate r (bare 0) ++ replicate s (bare 0)) ≡ length cs + r + s
all_long cs r s =
    let one = length-append (cs ++ replicate r (bare 0)) (replicate s (bare 0)) in
    let two = length-append cs (replicate r (bare 0)) in
    let three = length-replicate r (bare 0) in
    let four = length-replicate s (bare 0) in
    omega (arith, one, two, three, four)

front : (cs : List Cell) (r s k : ℕ) → k < length cs → get_or (cs ++ replicate r (bare 0) ++ replicate s (bare 0)) k (bare 0) ≡ get_or cs k (bare 0)
front cs r s k lt =
    let long = length-append cs (replicate r (bare 0)) in
    get_or_append_left (cs ++ replicate r (bare 0)) (replicate s (bare 0)) (bare 0) k (omega (arith, lt, long)) ∙ get_or_append_left cs (replicate r (bare 0)) (bare 0) k lt

behind : (cs : List Cell) (r s k : ℕ) → length cs ≤ k → get_or (cs ++ replicate r (bare 0) ++ replicate s (bare 0)) k (bare 0) ≡ bare 0
behind cs r s k le =
    elim (cases_lt k (length (cs ++ replicate r (bare 0)))) [
      | inl lt ↦
          get_or_append_left (cs ++ replicate r (bare 0)) (replicate s (bare 0)) (bare 0) k lt
          ∙ (get_or-append_right cs (replicate r (bare 0)) (length cs) k (bare 0) refl le ∙ all_bare r (k - length cs))
      | inr past ↦
          get_or-append_right (cs ++ replicate r (bare 0)) (replicate s (bare 0)) (length (cs ++ replicate r (bare 0))) k (bare 0) refl past ∙ all_bare s (k - length (cs ++ replicate r (bare 0)))
    ]

-- pieces
piece_mark : (m : Mark) (i : ℕ) (p : Piece) → piece_of m i ≡ Some p → (m ≡ p.mark) × (m ≡ Plain → ⊥)
piece_mark Plain i p e = absurd (none-some p e)
piece_mark (Entry a) i p e = (ap (λ (q : Piece). q.mark) (same_Some (record { mark = Entry a; index = i }) p e), λ f. cc)
piece_mark (Return a) i p e = (ap (λ (q : Piece). q.mark) (same_Some (record { mark = Return a; index = i }) p e), λ f. cc)
piece_mark (Low a) i p e = (ap (λ (q : Piece). q.mark) (same_Some (record { mark = Low a; index = i }) p e), λ f. cc)

-- a cell of a linked word has the mark of its bits
linked_sound : (m : Mark) (n i : ℕ) → i < 4 → (m ≡ Plain) ⊎ (m ≡ Entry n) → is_cell (linked_cell i m n) ≡ true
linked_sound m n i lt (inl e) = ap (λ (z : Mark). is_cell (linked_cell i z n)) e
linked_sound m n i lt (inr e) =
    ap (λ (z : Mark). is_cell (linked_cell i z n)) e
    ∙ and_from (true && nat_lt i 4) (byte_of i n == byte_of i n) (and_from true (nat_lt i 4) refl (lt-ltb i 4 lt)) (eq-eqb (byte_of i n) (byte_of i n) refl)

same_entry : (a b : ℕ) → Entry a ≡ Entry b → a ≡ b
same_entry a b e = cc

module _ (F c K : ℕ) (pairs : List (Pairing F c K)) (at : Placement) (plain hard : Image) (images : HaveImages F c K pairs at plain hard) (chart : Chart) (is : IsChartOf F c K pairs at chart) where
  -- a function of the code is an entry
  function_enters : (d : Defined) → Contains (all_symbols 0 (plains pairs)) d → is_function (all_placed (plains pairs) at) d ≡ true
      → (n : ℕ) × (even (address_of (all_placed (plains pairs) at) d) ≡ n) × (n % 2 ≡ 0) × Enters chart n
  function_enters d listed function =
      let st = symbol_stands (plains pairs) d listed in
      let q = pair_of F c K pairs at d.object st.object st.there in
      let there : slice_get (plains pairs) d.object ≡ Some q.0.plain = get_map (λ (z : Pairing F c K). z.plain) pairs d.object q.0 q.1 in
      let tests = and_parts (d.symbol.kind == func) (is_in_code (all_placed (plains pairs) at) d.object d.symbol.home) function in
      let code : has_code q.0.plain d.symbol.home ≡ true = sym (same_code (plains pairs) at d.object q.0.plain there d.symbol.home) ∙ tests.1 in
      let home = its_home q.0.plain d.symbol.home code in
      let part = has_part (plains pairs) at d.object home.0 q.0.plain home.1 there home.3 (ap (λ (b : Bool). b || is_data home.1) home.4) in
      let same : part.0.section ≡ home.1 = same_Some part.0.section home.1 (sym part.1.section ∙ home.3) in
      let in_code : is_code part.0.section ≡ true = ap (λ (s : Section). is_code s) same ∙ home.4 in
      let low = inside_room (plains pairs) at images.objects images.image.placement (room_of (plains pairs) at images.image.can) d.object home.0 q.0.plain part.0 part.1 in_code in
      let symbol : slice_get q.0.plain.symbols d.index ≡ Some d.symbol = subst (λ (o : ObjectParts). slice_get o.symbols d.index ≡ Some d.symbol) (sym q.2) st.symbol in
      let entry : IsEntry q.0.plain home.0 (even d.symbol.value) =
      named home.0 (even d.symbol.value) (by_symbol d.index d.symbol symbol home.2 code (or_left (d.symbol.kind == func) _ tests.0) refl refl refl) in
      let e = entry_there F c K pairs at chart is d.object home.0 (even d.symbol.value) q.0 q.1 entry in
      let start : start_at (plains pairs) at d.object home.0 ≡ part.0.start = start_is (plains pairs) at d.object home.0 q.0.plain part.0 part.1 in
      let address : address_of (all_placed (plains pairs) at) d ≡ part.0.start + d.symbol.value = ap (λ (n : ℕ). n + d.symbol.value) (starts (all_placed (plains pairs) at) d.object home.0 d.symbol.home part.0 home.2 part.1.part) in
      let fours = low.0 in
      (part.0.start + even d.symbol.value, ap even address ∙ split part.0.start d.symbol.value fours, level part.0.start d.symbol.value fours, (e.0, ap chart (ap (λ (k : ℕ). k + even d.symbol.value) (sym start)) ∙ e.1, e.2))
    where
      split : (s v : ℕ) → s % 4 ≡ 0 → even (s + v) ≡ s + even v
      split s v four = omega (arith, four)

      level : (s v : ℕ) → s % 4 ≡ 0 → (s + even v) % 2 ≡ 0
      level s v four = omega (arith, four)

  name_enters : (name : List ℕ) (entry : ℕ) → entry_of plain.entries name ≡ Some entry → (n : ℕ) × (entry ≡ n + 1) × (n % 2 ≡ 0) × Enters chart n
  name_enters name entry e =
      let test : Defined → Bool = λ d. is_function (all_placed (plains pairs) at) d && is_standing (plains pairs) d (resolved (plains pairs) d.symbol.name) in
      let f = entry_found (all_placed (plains pairs) at) (filter test (all_symbols 0 (plains pairs))) name entry (ap (λ (es : List NamedEntry). entry_of es name) (sym images.image.entries) ∙ e) in
      let picked = in_filter test (all_symbols 0 (plains pairs)) f.0 f.1 in
      let h = function_enters f.0 picked.0 (and_parts (is_function (all_placed (plains pairs) at) f.0) (is_standing (plains pairs) f.0 (resolved (plains pairs) f.0.symbol.name)) picked.1).0 in
      (h.0, sym f.2 ∙ ap (λ (n : ℕ). n + 1) h.1, h.2, h.3)

  -- cells of data
  cell_same : (k : ℕ) → k < length plain.memory.cells → SameCell (by_chart chart) (get_or plain.memory.cells k (bare 0)) (get_or hard.memory.cells k (bare 0))
  cell_same k lt =
      by_piece (get_or plain.memory.cells k (bare 0)).piece refl
      ((data_meets (plains pairs) (hards pairs) at (moved_in pairs) plain hard answer.plain answer.hard answer.answers answer.accepted answer.data_words images.image images.hard_image).1 k lt)
    where
      answer : DoAnswer (plains pairs) (hards pairs) (moved_in pairs)
      answer = pairs_answer F c K pairs at plain hard images

      by_cell : (p : Piece) (a b : ℕ) → (get_or plain.memory.cells k (bare 0)).piece ≡ Some p → p.mark ≡ Entry (a + 1) → GoesTo F c K pairs at a b → CellIs (plains pairs) at plain images.objects images.image k → EntryTo chart (a + 1) (b + 1)
      by_cell p a b e mark goes (byte_alone n alone) = absurd (none-some p (sym (ap (λ (z : Cell). z.piece) alone) ∙ e))
      by_cell p a b e mark goes (of_word l il word i small cell) =
          let parts = all_placed (plains pairs) at in
          let m = piece_mark (mark_of parts l) i p (sym (ap (λ (z : Cell). z.piece) cell) ∙ e) in
          elim (cases_Bool (leads_to_code parts l)) [
            | inr n ↦ absurd (m.1 (mark_outside parts l n))
            | inl y ↦
                let no_jump = word_no_jump l.reloc.kind word in
                let whole : full parts l ≡ a + 1 = same_entry (full parts l) (a + 1) (sym (word_mark l.reloc.kind (full parts l) word) ∙ (sym (mark_inside parts l y no_jump) ∙ (m.0 ∙ mark))) in
                links_enter F c K pairs at plain hard chart images is l il no_jump y a b whole goes
          ]

      by_piece : (r : Option Piece) → (get_or plain.memory.cells k (bare 0)).piece ≡ r
          → SamePiece (plains pairs) (hards pairs) at (moved_in pairs) r (get_or plain.memory.cells k (bare 0)).byte (get_or hard.memory.cells k (bare 0)).byte
          → SameByte (by_chart chart) r (get_or plain.memory.cells k (bare 0)).byte (get_or hard.memory.cells k (bare 0)).byte
      by_piece None e h = sym h
      by_piece (Some p) e (a, b, mark, goes, byte) =
          (a + 1, b + 1, subst (λ (m : Mark). words.SameBits (by_chart chart) m (a + 1) (b + 1)) (sym mark) (by_cell p a b e mark goes (cell_is (plains pairs) at plain images.objects images.image k)), byte)

  counts : length hard.memory.cells ≡ length plain.memory.cells
  counts =
      let answer = pairs_answer F c K pairs at plain hard images in
      (data_meets (plains pairs) (hards pairs) at (moved_in pairs) plain hard answer.plain answer.hard answer.answers answer.accepted answer.data_words images.image images.hard_image).0

  -- memories
  abbrev rest : ℕ → ℕ
  rest n = round_up n 8 - n

  pub memory_same : (stack : ℕ) → SameMemory chart (run_memory plain stack) (run_memory hard stack)
  memory_same stack = record {
    base = images.hard_image.memory.base ∙ sym images.image.memory.base;
    size = all_long hard.memory.cells (rest (length hard.memory.cells)) stack ∙ (ap (λ (n : ℕ). n + rest n + stack) counts ∙ sym (all_long plain.memory.cells (rest (length plain.memory.cells)) stack));
    cells = λ k lt. each k;
  }
    where
      each : (k : ℕ) → SameCell (by_chart chart) (get_or (run_cells plain stack) k (bare 0)) (get_or (run_cells hard stack) k (bare 0))
      each k =
          elim (cases_lt k (length plain.memory.cells)) [
            | inl lt ↦
                let one = front plain.memory.cells (rest (length plain.memory.cells)) stack k lt in
                let two = front hard.memory.cells (rest (length hard.memory.cells)) stack k (subst (λ (n : ℕ). k < n) (sym counts) lt) in
                subst (λ (x : Cell). SameCell (by_chart chart) x (get_or (run_cells hard stack) k (bare 0))) (sym one)
                (subst (λ (y : Cell). SameCell (by_chart chart) (get_or plain.memory.cells k (bare 0)) y) (sym two) (cell_same k lt))
            | inr le ↦
                let one = behind plain.memory.cells (rest (length plain.memory.cells)) stack k le in
                let two = behind hard.memory.cells (rest (length hard.memory.cells)) stack k (subst (λ (n : ℕ). n ≤ k) (sym counts) le) in
                subst (λ (x : Cell). SameCell (by_chart chart) x (get_or (run_cells hard stack) k (bare 0))) (sym one) (subst (λ (y : Cell). SameCell (by_chart chart) (bare 0) y) (sym two) refl)
          ]

  -- the plain one's pieces have the marks of their words
  cells_sound : (stack k : ℕ) → is_cell (get_or (run_cells plain stack) k (bare 0)) ≡ true
  cells_sound stack k =
      elim (cases_lt k (length plain.memory.cells)) [
        | inl lt ↦ ap (λ (x : Cell). is_cell x) (front plain.memory.cells (rest (length plain.memory.cells)) stack k lt) ∙ by_cell (cell_is (plains pairs) at plain images.objects images.image k)
        | inr le ↦ ap (λ (x : Cell). is_cell x) (behind plain.memory.cells (rest (length plain.memory.cells)) stack k le)
      ]
    where
      by_cell : CellIs (plains pairs) at plain images.objects images.image k → is_cell (get_or plain.memory.cells k (bare 0)) ≡ true
      by_cell (byte_alone b alone) = ap (λ (x : Cell). is_cell x) alone
      by_cell (of_word l il word i small cell) =
          let parts = all_placed (plains pairs) at in
          ap (λ (x : Cell). is_cell x) cell
          ∙ linked_sound (mark_of parts l) (full parts l) i small (elim (cases_Bool (leads_to_code parts l)) [
            | inr n ↦ inl (mark_outside parts l n)
            | inl y ↦ inr (mark_inside parts l y (word_no_jump l.reloc.kind word) ∙ word_mark l.reloc.kind (full parts l) word)
          ])

  -- control comes to an entry with a clear IT state
  entry_clear : (a : ℕ) (p : Point) → chart a ≡ Some p → p.entry ≡ true → p.it ≡ 0
  entry_clear a p there entry =
      let A = is.only a p there in
      let flow = A.pairing.pair.accepted.flow in
      let known = (flow.entries A.number).0 (A.is.entry.0 entry) in
      sym (same_Some 0 p.it (sym (get_map (λ n. n.it) flow.nodes A.number _ known.2.1) ∙ A.is.state))

  begins : (name args : List ℕ) (entry stack : ℕ) → entry_of plain.entries name ≡ Some entry
      → (hard_entry : ℕ) × (entry_of hard.entries name ≡ Some hard_entry) × EntryTo chart entry hard_entry × At chart (start plain stack entry args) (start hard stack hard_entry args)
  begins name args entry stack e =
      let n = name_enters name entry e in
      let answer = pairs_answer F c K pairs at plain hard images in
      let h = entries_meet (plains pairs) (hards pairs) at (moved_in pairs) plain hard answer.plain answer.hard answer.answers images.image images.hard_image name n.0 (e ∙ ap (λ (k : ℕ). Some k) n.1) in
      let z = goes_there F c K pairs at chart is n.0 h.0 h.2 in
      let one : n.3.0 ≡ z.0 = one_point chart n.0 n.3.0 z.0 n.3.1 z.1 in
      let enters : z.0.entry ≡ true = ap (λ (p : Point). p.entry) (sym one) ∙ n.3.2 in
      let place = (places_are_even F c K pairs at plain hard chart images is n.0 z.0 z.1).1 in
      let old : even entry ≡ n.0 = back entry n.0 n.1 n.2 in
      let new : even (h.0 + 1) ≡ z.0.place = back (h.0 + 1) z.0.place (ap (λ (k : ℕ). k + 1) z.2) place in
      let lives = points_live F c K pairs at chart is n.0 z.0 z.1 in (
        h.0 + 1,
        h.1,
        (n.0, z.0, z.1, enters, n.1, ap (λ (k : ℕ). k + 1) z.2),
        calls_start_alike chart z.0 (run_memory plain stack) (run_memory hard stack) entry (h.0 + 1) args (ap chart old ∙ z.1) (entry_clear n.0 z.0 z.1 enters) new (λ k l. lives.entered k enters l) (memory_same stack) (cells_sound stack),
      )
    where
      back : (m k : ℕ) → m ≡ k + 1 → k % 2 ≡ 0 → even m ≡ k
      back m k e level = omega (arith, e, level)

pub names_enter : NamesEnter
names_enter F c K pairs at plain hard chart images is name entry e =
    let n = name_enters F c K pairs at plain hard images chart is name entry e in
    (n.3.0, ap chart (back entry n.0 n.1 n.2) ∙ n.3.1, n.3.2)
  where
    back : (m k : ℕ) → m ≡ k + 1 → k % 2 ≡ 0 → even m ≡ k
    back m k e level = omega (arith, e, level)

pub memories_meet : MemoriesMeet
memories_meet F c K pairs at plain hard chart images is stack = memory_same F c K pairs at plain hard images chart is stack

pub calls_begin : CallsBegin
calls_begin F c K pairs at plain hard chart images is name args entry stack e = begins F c K pairs at plain hard images chart is name args entry stack e
