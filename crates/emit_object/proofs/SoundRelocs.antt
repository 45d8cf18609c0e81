-- The relocations of a hardened object are relocations of an object.
use Rattle.std.proofs.Common.{◌≡◌, ◌≤◌, ◌<◌, inl, inr, ℕ, zero, suc, ◌+◌, Bool, true, false, cond, List, [], ◌∷◌, ◌++◌, length, map, filter, take, get_or, refl, sym, ap, ◌∙◌, subst, arith, Option, Some, None}
use Rattle.std.specs.Prelude.{slice_get, Contains, IsTrue, IsPermutation, count_by, is_some, not, nat_le, nat_lt, nat_eq, codes, ◌==◌, ◌&&◌, ◌||◌}
use Rattle.std.specs.List.{list_all, starts_with, zip}
use Rattle.std.proofs.lemmas.Bool.{true≢false, and_from, and_parts, eqb-true, leb-true, lt-ltb}
use Rattle.std.proofs.lemmas.Bool.Decides.{nat_tests}
use Rattle.std.proofs.lemmas.Option.{none-some, same_Some, slice_get_within, slice_get-get_or}
use Rattle.std.proofs.lemmas.List.{length-map, length-append}
use Rattle.std.proofs.lemmas.List.Sums.{length-filter}
use Rattle.std.proofs.lemmas.List.Elements.{All-contains, Contains-append_cases}
use Rattle.std.proofs.lemmas.List.Sorted.{Contains-permutation, IsPermutation-sym}
use Rattle.elf_model.specs.declared.objects.Section.{Section}
use Rattle.elf_model.specs.declared.objects.Symbol.{Symbol}
use Rattle.elf_model.specs.declared.objects.Reloc.{Reloc}
use Rattle.elf_model.specs.declared.objects.RelocKind.{RelocKind}
use Rattle.elf_model.specs.declared.objects.RelocKind.TheVariants.{ThmJump24, ThmJump19}
use Rattle.elf_model.specs.declared.objects.Home.{Home}
use Rattle.elf_model.specs.declared.objects.Home.TheVariants as homes
use Rattle.elf_model.specs.declared.objects.MapRow.{MapRow}
use Rattle.elf_model.specs.Constants.{progbits, nobits, local, notype, func}
use Rattle.elf_model.specs.Fields.{same_name}
use Rattle.elf_model.specs.Objects.{ObjectParts, is_object, is_code, is_alloc, is_exec, even, is_within, reloc_code, place_width, is_kind, is_placed, is_reloc}
use Rattle.elf_model.specs.Ranges.{is_mapping, is_mapping_of}
use Rattle.elf_model.proofs.Elements.{element_at, contains_at}
use Rattle.elf_model.proofs.Lists.{count_cons}
use Rattle.elf_model.proofs.Written.{object_facts}
use Rattle.thumb_instr.specs.declared.instructions.Instr.{Instr}
use Rattle.thumb_instr.specs.declared.instructions.Instr.TheVariants as instr
use Rattle.thumb_encode.specs.declared.codes.Width.{Width}
use Rattle.reloc_places.specs.Starts.{bytes_of}
use Rattle.reloc_places.specs.Relocations.{may_fail, is_in_code, addend}
use Rattle.reloc_places.proofs.StartFacts.{any_limit}
use Rattle.flow_recover.specs.Flows.{FlowParts}
use Rattle.flow_recover.specs.Points.{PointsRise}
use Rattle.flow_recover.specs.WholeFlows.{IsFlow}
use Rattle.flow_recover.proofs.FlowPoints.{points_rise}
use Rattle.seq_core.specs.Places.{LayoutParts}
use Rattle.hardened_form.specs.Carriers.{kind_on}
use Rattle.hardened_form.specs.Items.{Item}
use Rattle.hardened_form.specs.Standing.{new_place}
use Rattle.hardened_form.specs.Sections.{AreSections}
use Rattle.hardened_form.specs.Turns.{is_turned, is_direct, turns_by, zero_addend}
use Rattle.hardened_form.specs.MappingSymbols.{mapping_symbol}
use Rattle.hardened_form.specs.Symbols.{Lists, section_kind, moved, stays, stays_in, is_shared, target_symbol, new_symbols}
use Rattle.hardened_form.specs.Relocs.{IsNewSymbol, same, own, first_shared}
use Rattle.branch_layout.specs.Copies.{bytes_of as bytes_of_width}
use Rattle.emit_object.specs.declared.reloc_sites.Site.{Site}
use Rattle.emit_object.specs.FirstItems.{AreItemsOf}
use Rattle.emit_object.specs.Laid.{HasSizes}
use Rattle.emit_object.specs.Lasting.{has_data}
use Rattle.emit_object.specs.Emitting.{CanEmit}
use Rattle.emit_object.specs.Numbering.{AreNewSymbols}
use Rattle.emit_object.specs.RelocSites.{site_of, data_sites, step_sites, word_sites, code_sites, all_sites}
use Rattle.emit_object.specs.SitesInOrder.{AreInOrder}
use Rattle.emit_object.specs.MadeRelocs.{AreMade}
use Rattle.emit_object.proofs.WholeSymbols.{entry_placed, each_of}
use Rattle.emit_object.proofs.SiteLists.{data_is, unit_is, step_is, IsWordSite, word_is}
use Rattle.emit_object.proofs.SitesApart.{data_parts, unit_owned, word_owned}
use Rattle.emit_object.proofs.LaidUnits.{placing_of, point_of, copy_in, inside, item_end, word_inside}
use Rattle.emit_object.proofs.CarriedFacts.{four_bytes}
use Rattle.emit_object.proofs.MadeFacts.{made_place}

-- NUMBERS OF SYMBOLS

count_before : {X : Type 0} (p : X → Bool) (xs : List X) (k : ℕ) (x : X) → slice_get xs k ≡ Some x → p x ≡ true → count_by p (take k xs) < count_by p xs
count_before p [] k x e h = absurd (none-some x e)
count_before p (z ∷ xs) zero x e h =
    let all = count_cons p z xs ∙ ap (λ (b : Bool). cond b (1 + count_by p xs) (count_by p xs)) (ap p (same_Some z x e) ∙ h) in
    omega (arith, all)
count_before p (z ∷ xs) (suc k) x e h = go (p z) (count_cons p z (take k xs)) (count_cons p z xs) (count_before p xs k x e h)
  where
    go : (b : Bool) → count_by p (z ∷ take k xs) ≡ cond b (1 + count_by p (take k xs)) (count_by p (take k xs)) → count_by p (z ∷ xs) ≡ cond b (1 + count_by p xs) (count_by p xs)
        → count_by p (take k xs) < count_by p xs → count_by p (z ∷ take k xs) < count_by p (z ∷ xs)
    go true a b m = omega arith
    go false a b m = omega arith

new_length : (o h : ObjectParts) (l : Lists) → length (new_symbols o h l) ≡ count_by (stays o l.items) o.symbols + length l.mappings + length l.targets + count_by is_shared o.symbols
new_length o h l =
    let kept = map (moved o h l.items) (filter (stays o l.items) o.symbols) in
    let marks = map mapping_symbol l.mappings in
    let functions = map (target_symbol o l.items) l.targets in
    let shared = map (moved o h l.items) (filter is_shared o.symbols) in
    let a = length-append (kept ++ marks ++ functions) shared in
    let b = length-append (kept ++ marks) functions in
    let c = length-append kept marks in
    let d = length-map (filter (stays o l.items) o.symbols) (moved o h l.items) in
    let e = length-map (filter is_shared o.symbols) (moved o h l.items) in
    let g = length-map l.mappings mapping_symbol in
    let i = length-map l.targets (target_symbol o l.items) in
    let m = length-filter (stays o l.items) o.symbols in
    let n = length-filter is_shared o.symbols in
    omega (arith, a, b, c, d, e, g, i, m, n)

-- a function is no mapping symbol
none_and : (b c x : Bool) → c ≡ false → (b && c && x) ≡ false
none_and true c x h = ap (λ (d : Bool). d && x) h
none_and false c x h = refl

no_mapping_of : (name : List ℕ) (s : Symbol) → (s.kind == notype) ≡ false → is_mapping_of name s ≡ false
no_mapping_of name s n = none_and (s.bind == local) (s.kind == notype) (same_name s.name name || starts_with nat_eq s.name (name ++ codes ".")) n

no_mapping : (s : Symbol) → (s.kind == func) ≡ true → is_mapping s ≡ false
no_mapping s f =
    let n : (s.kind == notype) ≡ false = ap (λ (k : ℕ). k == notype) (eqb-true s.kind func f) in
    ap (λ (b : Bool). b || is_mapping_of (codes "$a") s || is_mapping_of (codes "$d") s) (no_mapping_of (codes "$t") s n) ∙ ap (λ (b : Bool). b || is_mapping_of (codes "$d") s) (no_mapping_of (codes "$a") s n) ∙ no_mapping_of (codes "$d") s n

direct : (c d : Bool) → c ≡ true → (c && not d) ≡ false → d ≡ true
direct c true code n = refl
direct c false code n = absurd (true≢false (sym (ap (λ (b : Bool). b && true) code) ∙ n))

either : (b c : Bool) → c ≡ true → (b || not c) ≡ true → b ≡ true
either true c h o = refl
either false c h o = absurd (true≢false (sym o ∙ ap not h))

module _ (o : ObjectParts) (f : FlowParts) (l : LayoutParts) (can : CanEmit o f l) (flow : IsFlow o f) (rise : PointsRise f) (items : List Item) (are : AreItemsOf f l items) where
  -- a local symbol that a relocation leads to directly stays
  named_stays : (r : Reloc) (s : Symbol) → slice_get o.symbols r.symbol ≡ Some s → is_turned o r ≡ false → (s.bind == local) ≡ true → stays o items s ≡ true
  named_stays r s e plain is_local = and_from (s.bind == local) (stays_in o items s s.home) is_local (go s.home refl)
    where
      go : (home : Home) → s.home ≡ home → stays_in o items s home ≡ true
      go homes.Undefined h = refl
      go homes.Absolute h = refl
      go (homes.Section j) h = by_code (is_in_code o s.home) refl
        where
          others : Bool
          others = (s.kind == section_kind) && (s.value == 0)

          by_code : (b : Bool) → is_in_code o s.home ≡ b → stays_in o items s (homes.Section j) ≡ true
          by_code false n = ap (λ (b : Bool). not b || (not (is_mapping s) && (is_some (new_place items j (even s.value)) || ((s.kind == section_kind) && (s.value == 0))))) n
          by_code true c =
              let is = direct (is_in_code o s.home) (is_direct o r s) c (ap (turns_by o r) (sym e) ∙ plain) in
              let function = either (s.kind == func) (s.bind == local) is_local (and_parts ((s.kind == func) || not (s.bind == local)) (addend (bytes_of o r.section) r == zero_addend r) is).0 in
              let placed = entry_placed o f flow rise l can.count items are s (contains_at o.symbols r.symbol s e) (ap (λ (b : Bool). b || not (s.bind == local)) function) j h c in
              ap (λ (b : Bool). not b || (not (is_mapping s) && (is_some (new_place items j (even s.value)) || ((s.kind == section_kind) && (s.value == 0))))) c
              ∙ and_from (not (is_mapping s)) (is_some (new_place items j (even s.value)) || ((s.kind == section_kind) && (s.value == 0))) (ap not (no_mapping s function))
              (ap (λ (b : Bool). b || ((s.kind == section_kind) && (s.value == 0))) placed)

  -- the number that a relocation names is one of a symbol
  number_low : (h : ObjectParts) (lists : Lists) → lists.items ≡ items → (r : Reloc) (m : ℕ) → IsNewSymbol o lists r m → m < length (new_symbols o h lists)
  number_low h lists same_items r m (same s plain e is) = go (s.bind == local) refl
    where
      all : length (new_symbols o h lists) ≡ count_by (stays o lists.items) o.symbols + length lists.mappings + length lists.targets + count_by is_shared o.symbols
      all = new_length o h lists

      go : (b : Bool) → (s.bind == local) ≡ b → m < length (new_symbols o h lists)
      go true b =
          let keeps : stays o lists.items s ≡ true = ap (λ (its : List Item). stays o its s) same_items ∙ named_stays r s e plain b in
          let low = count_before (stays o lists.items) o.symbols r.symbol s e keeps in
          let number : m ≡ count_by (stays o lists.items) (take r.symbol o.symbols) = is ∙ ap (λ (t : Bool). cond t (count_by (stays o lists.items) (take r.symbol o.symbols)) (first_shared o lists + count_by is_shared (take r.symbol o.symbols))) b in
          let long = all in
          omega (arith, low, number, long)
      go false b =
          let low = count_before is_shared o.symbols r.symbol s e (ap not b) in
          let number : m ≡ first_shared o lists + count_by is_shared (take r.symbol o.symbols) = is ∙ ap (λ (t : Bool). cond t (count_by (stays o lists.items) (take r.symbol o.symbols)) (first_shared o lists + count_by is_shared (take r.symbol o.symbols))) b in
          let long = all in
          omega (arith, low, number, long)
  number_low h lists same_items r m (own n t turns target at is) =
      let low = slice_get_within lists.targets n t at in
      let long = new_length o h lists in
      omega (arith, low, is, long)

-- PLACES IN SECTIONS

-- there is room for its kind
record HasRoom (h : ObjectParts) (s : Site) : Type 0 where
  section : Section
  there : slice_get h.sections s.section ≡ Some section
  bytes : (section.kind == nobits) ≡ false
  room : s.at + place_width s.kind ≤ section.size
  kind : is_kind s.kind ≡ true

width_most : (k : RelocKind) → place_width k ≤ 4
width_most k = go ((reloc_code k == 102) || (reloc_code k == 103))
  where
    go : (b : Bool) → cond b 2 4 ≤ 4
    go true = omega arith
    go false = omega arith

kind_kept : (i : Instr) (k : RelocKind) → is_kind k ≡ true → is_kind (kind_on i k) ≡ true
kind_kept (instr.Call i) k h = refl
kind_kept (instr.Branch i) k h = go (may_fail i.cond)
  where
    go : (b : Bool) → is_kind (cond b ThmJump19 ThmJump24) ≡ true
    go true = refl
    go false = refl
kind_kept _ k h = h

has_bytes : (s : Section) → is_code s ≡ true → (s.kind == nobits) ≡ false
has_bytes s c =
    let code = and_parts ((s.kind == progbits) && is_alloc s.flags) (is_exec s.flags) c in
    let kind = and_parts (s.kind == progbits) (is_alloc s.flags) code.0 in
    ap (λ (k : ℕ). k == nobits) (eqb-true s.kind progbits kind.0)

module _ (o h : ObjectParts) (f : FlowParts) (l : LayoutParts) (can : CanEmit o f l) (sound : is_object o ≡ true) (flow : IsFlow o f) (rows : List MapRow) (sections : AreSections o h rows) (sized : HasSizes o h l.sizes) where
  old_reloc : (n : ℕ) (r : Reloc) → slice_get o.relocs n ≡ Some r → is_reloc o.sections o.symbols r ≡ true
  old_reloc n r e = All-contains (λ (q : Reloc). is_reloc o.sections o.symbols q ≡ true) o.relocs r (object_facts o sound).relocs (contains_at o.relocs n r e)

  old_kind : (n : ℕ) (r : Reloc) → slice_get o.relocs n ≡ Some r → is_kind r.kind ≡ true
  old_kind n r e =
      let a = and_parts (is_placed r (slice_get o.sections r.section) && is_kind r.kind) (nat_lt r.symbol (length o.symbols)) (old_reloc n r e) in
      (and_parts (is_placed r (slice_get o.sections r.section)) (is_kind r.kind) a.0).1

  -- of data
  data_room : (n : ℕ) (r : Reloc) → slice_get o.relocs n ≡ Some r → has_data (slice_get o.sections r.section) ≡ true → HasRoom h (site_of n r r.offset r.kind)
  data_room n r e holds =
      let a = and_parts (is_placed r (slice_get o.sections r.section) && is_kind r.kind) (nat_lt r.symbol (length o.symbols)) (old_reloc n r e) in
      go (slice_get o.sections r.section) refl holds (and_parts (is_placed r (slice_get o.sections r.section)) (is_kind r.kind) a.0).0
    where
      go : (x : Option Section) → slice_get o.sections r.section ≡ x → has_data x ≡ true → is_placed r x ≡ true → HasRoom h (site_of n r r.offset r.kind)
      go None at d p = absurd (true≢false (sym p))
      go (Some u) at d p =
          let low = slice_get_within o.sections r.section u at in
          let count = sections.count in
          let t = element_at h.sections r.section (omega (arith, low, count)) in
          let is = sections.each r.section u t.0 at t.1 in
          let kept = is.kept (flipped (is_code u) d) in
          let parts = and_parts (not (u.kind == nobits)) (nat_le (r.offset + place_width r.kind) u.size) p in
          let room = leb-true (r.offset + place_width r.kind) u.size parts.1 in
          let size = kept.size in
          record {
            section = t.0;
            there = t.1;
            bytes = ap (λ (k : ℕ). k == nobits) is.kind ∙ flipped (u.kind == nobits) parts.0;
            room = omega (arith, room, size);
            kind = old_kind n r e;
          }
        where
          flipped : (b : Bool) → not b ≡ true → b ≡ false
          flipped true n = absurd (true≢false (sym n))
          flipped false n = refl

  -- a section of code with its size
  record HasNewCode (j size : ℕ) : Type 0 where
    section : Section
    there : slice_get h.sections j ≡ Some section
    bytes : (section.kind == nobits) ≡ false
    size_is : section.size ≡ size

  new_code : (j size : ℕ) (s : Section) → slice_get o.sections j ≡ Some s → is_code s ≡ true → slice_get (placing_of o f l can).sizes j ≡ Some size → HasNewCode j size
  new_code j size s at c e =
      let new = sized.news j s at c in
      let sizes : slice_get l.sizes j ≡ Some size = ap (λ (ns : List ℕ). slice_get ns j) can.layout.sizes ∙ e in
      let index : get_or l.sizes j 0 ≡ size = same_Some (get_or l.sizes j 0) size (sym (slice_get-get_or l.sizes j 0 (slice_get_within l.sizes j size sizes)) ∙ sizes) in
      record { section = new.section; there = new.there; bytes = has_bytes new.section new.code; size_is = sized.same j new.section new.there new.code ∙ index }

  code_room : (s : Site) (j size : ℕ) → HasNewCode j size → j ≡ s.section → s.at + 4 ≤ size → is_kind s.kind ≡ true → HasRoom h s
  code_room s j size new section room kind =
      let most = width_most s.kind in
      let same = new.size_is in
      record { section = new.section; there = ap (λ (i : ℕ). slice_get h.sections i) (sym section) ∙ new.there; bytes = new.bytes; room = omega (arith, most, same, room); kind = kind }

  step_room : (s : Site) → Contains (step_sites o l.units) s → HasRoom h s
  step_room s c =
      let i = step_is o l.units s c in
      let u = unit_is o i.unit s i.among in
      let x = point_of o f l can i.index i.unit i.there in
      let node = element_at flow.nodes i.index (let low = slice_get_within f.points i.index x.point x.there in let count = flow.count in omega (arith, low, count)) in
      let p = flow.points i.index node.0 x.point node.1 x.there in
      let range = p.instr.start.range in
      let section : i.unit.unit.section ≡ node.0.section = x.is.section ∙ p.section in
      let in_it = inside o f l can i.index i.unit i.there in
      let new = new_code i.unit.unit.section in_it.size range.section (ap (λ (j : ℕ). slice_get o.sections j) section ∙ range.is_there) range.in_code in_it.there in
      let wide = four_bytes o h f l can i.index u.number i.unit u.reloc i.there u.copy u.among u.carrying u.numbers.named u.numbers.there in
      let high = (copy_in o f l can i.index i.unit i.there u.copy u.among).high in
      let four : u.copy.at + 4 ≤ i.unit.start + i.unit.length = subst (λ (w : Width). u.copy.at + bytes_of_width w ≤ i.unit.start + i.unit.length) wide high in
      let end = item_end o f l can i.index i.unit i.there in
      let most = in_it.high in
      subst (HasRoom h) u.is
      (code_room (site_of u.number u.reloc u.copy.at (kind_on u.copy.step.instr u.reloc.kind)) i.unit.unit.section in_it.size new
      ((unit_owned o f l can sound flow i.index i.unit i.there s i.among).section ∙ ap (λ (t : Site). t.section) (sym u.is)) (omega (arith, four, end, most)) (kind_kept u.copy.step.instr u.reloc.kind (old_kind u.number u.reloc u.numbers.there)))

  word_room : (k : ℕ) (s : Site) → IsWordSite o f.words l.words k s → HasRoom h s
  word_room k s w =
      let is = (flow.words w.word).0 (contains_at f.words k w.word w.there) in
      let range = is.loads.found.start.range in
      let in_it = word_inside o f l can k w.word w.place w.there w.stands in
      let new = new_code w.word.section in_it.size range.section (ap (λ (j : ℕ). slice_get o.sections j) is.section ∙ range.is_there) range.in_code in_it.there in
      subst (HasRoom h) w.is
      (code_room (site_of w.number w.reloc w.place w.reloc.kind) w.word.section in_it.size new ((word_owned o f l can sound flow k s w).section ∙ ap (λ (t : Site). t.section) (sym w.is)) in_it.high (old_kind w.number w.reloc w.numbers.there))

  all_room : (s : Site) → Contains (all_sites o f l) s → HasRoom h s
  all_room s c = elim (Contains-append_cases (data_sites o 0 o.relocs) (code_sites o f l) s c) [
    | inl left ↦
        let g = data_is o s left in
        let z : 0 + g.index ≡ g.index = omega arith in
        let parts = data_parts o (0 + g.index) g.source s g.gives in
        subst (HasRoom h) parts.1 (data_room (0 + g.index) g.source (ap (λ (n : ℕ). slice_get o.relocs n) z ∙ g.there) parts.0)
    | inr right ↦ elim (Contains-append_cases (step_sites o l.units) (word_sites o (zip f.words l.words)) s right) [
      | inl step ↦ step_room s step
      | inr word ↦ let w = word_is o f.words l.words s word in word_room w.0 s w.1
    ]
  ]

  pub sound_relocs : IsTrue (is_within o any_limit) → (items : List Item) (places : List (ℕ × ℕ)) (begin : ℕ) (numbers : List ℕ) (made : AreNewSymbols o h f l items h.symbols places begin numbers)
      → (sites : List Site) (list : List Reloc) → IsPermutation (all_sites o f l) sites → AreInOrder o sites → AreMade o made.lists sites list → list_all (is_reloc h.sections h.symbols) list ≡ true
  sound_relocs within items places begin numbers made sites list moved order are = each_of (is_reloc h.sections h.symbols) list (λ q c.
      let m = (are.exact q).0 c in
      let room = all_room m.site (Contains-permutation sites (all_sites o f l) m.site (IsPermutation-sym (all_sites o f l) sites moved) m.there) in
      let place = made_place o made.lists m.site q (λ r. order.own m.site r m.there) m.is in
      let stands = m.is.stands in
      let low : q.symbol < length h.symbols = subst (λ (n : ℕ). q.symbol < n) (sym (ap length made.all)) (number_low o f l can flow (points_rise o f flow within) made.lists.items made.are.items h made.lists refl m.is.reloc q.symbol stands.symbol) in
      let kind : is_kind q.kind ≡ true = ap is_kind stands.kind ∙ room.kind in
      let fits : q.offset + place_width q.kind ≤ room.section.size = let r = room.room in let w : place_width q.kind ≡ place_width m.site.kind = ap place_width stands.kind in let at = place.1 in omega (arith, r, w, at) in
      let there : is_placed q (slice_get h.sections q.section) ≡ true =
      ap (λ (j : ℕ). is_placed q (slice_get h.sections j)) place.0 ∙ ap (is_placed q) room.there
      ∙ and_from (not (room.section.kind == nobits)) (nat_le (q.offset + place_width q.kind) room.section.size) (ap not room.bytes) (at_most (q.offset + place_width q.kind) room.section.size fits) in
      and_from (is_placed q (slice_get h.sections q.section) && is_kind q.kind) (nat_lt q.symbol (length h.symbols))
      (and_from (is_placed q (slice_get h.sections q.section)) (is_kind q.kind) there kind) (lt-ltb q.symbol (length h.symbols) low))
    where
      at_most : (a b : ℕ) → a ≤ b → nat_le a b ≡ true
      at_most a b h = grind (arith, nat_tests)
