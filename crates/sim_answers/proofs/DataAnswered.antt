-- Data of a hardened form: the same words are linked, and all else is as it was.
use Rattle.std.specs.Prelude.{◌≡◌, ◌<◌, ◌≤◌, ◌⊎◌, ℕ, ◌+◌, ◌^◌, ◌-◌, ◌==◌, ◌&&◌, ◌||◌, nat_le, nat_lt, Bool, true, false, cond, List, [], ◌∷◌, length, get_or, drop, Some, slice_get, Contains, refl}
use Rattle.std.specs.List.{list_any}
use Rattle.std.proofs.Common.{arith, inl, inr, ap, sym, ◌∙◌, subst, get_or-drop}
use Rattle.std.proofs.lemmas.Bool.{cases_Bool, cases_lt, cases_order, both_ways, and_parts, and_from, or_left, or_right, eqb-true, eq-eqb, leb-true, ltb-true, lt-ltb, le-leb, false_from_ne_true}
use Rattle.std.proofs.lemmas.List.{get_or_past}
use Rattle.std.proofs.lemmas.Option.{same_Some}
use Rattle.elf_model.specs.declared.objects.Section.{Section}
use Rattle.elf_model.specs.declared.objects.Reloc.{Reloc}
use Rattle.elf_model.specs.declared.objects.Home.TheVariants as homes
use Rattle.elf_model.specs.Fields.{byte_at, word_at}
use Rattle.elf_model.specs.Objects.{ObjectParts, is_code, place_width}
use Rattle.elf_model.proofs.Elements.{place_of, contains_at, contains_cases, contains_here, contains_later, contains_none}
use Rattle.code_ranges.specs.CodeRanges.{holds_code}
use Rattle.code_ranges.proofs.ObjectFacts.{reloc_sound}
use Rattle.reloc_places.specs.Starts.{bytes_in, bytes_of}
use Rattle.reloc_places.specs.Relocations.{is_word, is_jump, addend}
use Rattle.reloc_places.proofs.RelocPlaces.{reloc_inside}
use Rattle.flow_recover.specs.declared.flows.Point.{Point}
use Rattle.flow_recover.specs.declared.flows.PoolWord.{PoolWord}
use Rattle.flow_recover.specs.Flows.{FlowParts}
use Rattle.hardened_form.specs.Places.{Places as UnitPlaces}
use Rattle.hardened_form.specs.Sections.{is_cleared}
use Rattle.hardened_form.specs.Turns.{zero_addend, is_turned, Target, old_target, IsTarget, Stays, of_data as stays_data, new_addend}
use Rattle.hardened_form.specs.Carriers.{Carrier}
use Rattle.hardened_form.specs.Relocs.{new_number, first_target, IsNewSymbol, StandsFor, IsWordOf, in_pool, in_island, IsNewReloc, of_data, of_step, of_word}
use Rattle.hardened_form.specs.Relocs.IsNewSymbol.{same, own}
use Rattle.sim_images.specs.Counterparts.{Answers}
use Rattle.sim_images.proofs.RightPlaces.{word_width}
use Rattle.sim_images.proofs.HomesAlike.{code_kept}
use Rattle.sim_answers.specs.Forms.{IsFormOf, new_places, DataIsAnswered}
use Rattle.sim_answers.proofs.Accepted.{code_home, not_wrong}
use Rattle.sim_answers.proofs.Pairs.{zip_left}
use Rattle.sim_answers.proofs.PointPlaces.{at_point}
use Rattle.sim_answers.proofs.SectionsStay.{sections_stay}
use Rattle.sim_answers.proofs.Placed.{reloc_at_is, symbol_of, true_at_last, word_no_jump, data_kind, word_addend}
use Rattle.sim_answers.proofs.Answered.{turned_parts, answered}

pub any_there : {X : Type 0} (t : X → Bool) (xs : List X) → list_any t xs ≡ true → (x : X) × Contains xs x × (t x ≡ true)
any_there t [] h = absurd (both_ways false refl h)
any_there t (y ∷ ys) h =
    elim (cases_Bool (t y)) [
      | inl e ↦ (y, contains_here y ys, e)
      | inr e ↦ let r = any_there t ys (sym (ap (λ (b : Bool). b || list_any t ys) e) ∙ h) in (r.0, contains_later y ys r.0 r.1, r.2)
    ]

pub there_any : {X : Type 0} (t : X → Bool) (xs : List X) (x : X) → Contains xs x → t x ≡ true → list_any t xs ≡ true
there_any t [] x c h = absurd (contains_none x c)
there_any t (y ∷ ys) x c h =
    elim (contains_cases y ys x c) [
      | inl e ↦ or_left (t y) (list_any t ys) (ap t e ∙ h)
      | inr r ↦ or_right (t y) (list_any t ys) (there_any t ys x r h)
    ]

-- words by their bytes
four_same : (new old : List ℕ) (a : ℕ) → ((k : ℕ) → k < 4 → get_or new (a + k) 0 ≡ get_or old (a + k) 0) → word_at new a ≡ word_at old a
four_same new old a bytes =
    let b : (k : ℕ) → k < 4 → get_or (drop a new) k 0 ≡ get_or (drop a old) k 0 = λ k l. get_or-drop a new k 0 ∙ (bytes k l ∙ sym (get_or-drop a old k 0)) in
    let b0 = b 0 (omega arith) in
    let b1 = b 1 (omega arith) in
    let b2 = b 2 (omega arith) in
    let b3 = b 3 (omega arith) in
    omega (arith, b0, b1, b2, b3)

four_zero : (new : List ℕ) (a : ℕ) → ((k : ℕ) → k < 4 → get_or new (a + k) 0 ≡ 0) → word_at new a ≡ 0
four_zero new a zeros =
    let b : (k : ℕ) → k < 4 → get_or (drop a new) k 0 ≡ 0 = λ k l. get_or-drop a new k 0 ∙ zeros k l in
    let b0 = b 0 (omega arith) in
    let b1 = b 1 (omega arith) in
    let b2 = b 2 (omega arith) in
    let b3 = b 3 (omega arith) in
    omega (arith, b0, b1, b2, b3)

-- the test by which a byte is cleared
abbrev clears : ObjectParts → ℕ → ℕ → Reloc → Bool
clears o j x r = (r.section == j) && (nat_le r.offset x && (nat_lt x (r.offset + 4) && is_turned o r))

record Clears (o : ObjectParts) (j x : ℕ) (r : Reloc) : Type 0 where
  section : r.section ≡ j
  low : r.offset ≤ x
  high : x < r.offset + 4
  turned : is_turned o r ≡ true

clears_parts : (o : ObjectParts) (j x : ℕ) (r : Reloc) → clears o j x r ≡ true → Clears o j x r
clears_parts o j x r h =
    let a = and_parts (r.section == j) (nat_le r.offset x && (nat_lt x (r.offset + 4) && is_turned o r)) h in
    let b = and_parts (nat_le r.offset x) (nat_lt x (r.offset + 4) && is_turned o r) a.1 in
    let c = and_parts (nat_lt x (r.offset + 4)) (is_turned o r) b.1 in
    record { section = eqb-true r.section j a.0; low = leb-true r.offset x b.0; high = ltb-true x (r.offset + 4) c.0; turned = c.1 }

clears_from : (o : ObjectParts) (j x : ℕ) (r : Reloc) → Clears o j x r → clears o j x r ≡ true
clears_from o j x r c =
    and_from (r.section == j) (nat_le r.offset x && (nat_lt x (r.offset + 4) && is_turned o r)) (eq-eqb r.section j c.section)
    (and_from (nat_le r.offset x) (nat_lt x (r.offset + 4) && is_turned o r) (le-leb r.offset x c.low) (and_from (nat_lt x (r.offset + 4)) (is_turned o r) (lt-ltb x (r.offset + 4) c.high) c.turned))

module _ (o h : ObjectParts) (f : FlowParts) (p : UnitPlaces) (carriers : List (List Carrier)) (is : IsFormOf o h f p carriers) where
  -- relocations of data are of words
  pub word_in_data : (k : ℕ) (r : Reloc) (s : Section) → slice_get o.relocs k ≡ Some r → slice_get o.sections r.section ≡ Some s → is_code s ≡ false → is_word r.kind ≡ true
  word_in_data k r s there at other = true_at_last (is_word r.kind) (λ wrong. not_wrong o f is.flow k r there (λ right. wrong (data_kind o r s at other right.place).1))

  -- of two in one section of data one stands behind the other
  pub apart : (k n : ℕ) (r q : Reloc) (s : Section) → slice_get o.relocs k ≡ Some r → slice_get o.relocs n ≡ Some q → slice_get o.sections q.section ≡ Some s → is_code s ≡ false → q.section ≡ r.section → n < k
      → (r.offset < q.offset + 4 → ⊥)
  apart k n r q s there here at other section l over =
      not_wrong o f is.flow k r there (λ right.
      let w = right.alone n q l here section in
      let width = word_width q.kind (word_in_data n q s here at other) in
      omega (arith, w, width, over))

  not_cleared : (k : ℕ) (r : Reloc) (s : Section) → slice_get o.relocs k ≡ Some r → slice_get o.sections r.section ≡ Some s → is_code s ≡ false → is_turned o r ≡ false
      → (x : ℕ) → r.offset ≤ x → x < r.offset + 4 → is_cleared o r.section x ≡ false
  not_cleared k r s there at other n x low high =
      false_from_ne_true (is_cleared o r.section x) (λ yes.
      let c = any_there (clears o r.section x) o.relocs yes in
      let m = place_of o.relocs c.0 c.1 in
      let parts = clears_parts o r.section x c.0 c.2 in
      let sec : slice_get o.sections c.0.section ≡ Some s = ap (slice_get o.sections) parts.section ∙ at in
      elim (cases_order m.0 k) [
        | inl e ↦ let one = same_Some c.0 r (sym m.1 ∙ (ap (slice_get o.relocs) e ∙ there)) in both_ways (is_turned o r) n (sym (ap (is_turned o) one) ∙ parts.turned)
        | inr w ↦ elim w [
          | inl l ↦ apart k m.0 r c.0 s there m.1 sec other parts.section l (let a = parts.high in omega (arith, a, low))
          | inr l ↦ apart m.0 k c.0 r s m.1 there at other (sym parts.section) l (let a = parts.low in omega (arith, a, high))
        ]
      ])

  -- the number in a word of data
  data_number : (k : ℕ) (r : Reloc) (s : Section) → slice_get o.relocs k ≡ Some r → slice_get o.sections r.section ≡ Some s → is_code s ≡ false → word_at (bytes_of h r.section) r.offset ≡ new_addend o r
  data_number k r s there at other =
      let t = (sections_stay o h f p carriers is).kept r.section s at in
      let kept = (is.form.tables.sections.each r.section s t.0 at t.1).kept other in
      let word = word_in_data k r s there at other in
      let fits = reloc_inside o r is.plain (reloc_sound o k r is.plain there) in
      let width = word_width r.kind word in
      let long : r.offset + 4 ≤ length s.bytes = subst (λ (n : ℕ). r.offset + n ≤ length s.bytes) width (subst (λ (b : List ℕ). r.offset + place_width r.kind ≤ length b) (ap bytes_in at) fits) in
      let new : word_at (bytes_of h r.section) r.offset ≡ word_at t.0.bytes r.offset = ap (λ (z : _). word_at (bytes_in z) r.offset) t.1 in
      let zero : zero_addend r ≡ 0 = ap (λ (b : Bool). cond b (2 ^ 32 - 4) 0) (word_no_jump r.kind word) in
      elim (cases_Bool (is_turned o r)) [
        | inl y ↦
            let cleared : (i : ℕ) → i < 4 → is_cleared o r.section (r.offset + i) ≡ true =
            λ i l. there_any (clears o r.section (r.offset + i)) o.relocs r (contains_at o.relocs k r there)
            (clears_from o r.section (r.offset + i) r (record { section = refl; low = omega arith; high = omega (arith, l); turned = y })) in
            new ∙ (four_zero t.0.bytes r.offset (λ i l. kept.bytes (r.offset + i) (omega (arith, l, long)) ∙ ap (λ (b : Bool). cond b 0 (byte_at s.bytes (r.offset + i))) (cleared i l))
            ∙ (sym zero ∙ sym (ap (λ (b : Bool). cond b (zero_addend r) (addend (bytes_of o r.section) r)) y)))
        | inr n ↦
            let old : addend (bytes_of o r.section) r ≡ word_at s.bytes r.offset = word_addend (bytes_of o r.section) r word ∙ ap (λ (z : _). word_at (bytes_in z) r.offset) at in
            new ∙ (four_same t.0.bytes s.bytes r.offset (λ i l. kept.bytes (r.offset + i) (omega (arith, l, long))
            ∙ ap (λ (b : Bool). cond b 0 (byte_at s.bytes (r.offset + i))) (not_cleared k r s there at other n (r.offset + i) (omega arith) (omega (arith, l))))
            ∙ (sym old ∙ sym (ap (λ (b : Bool). cond b (zero_addend r) (addend (bytes_of o r.section) r)) n)))
      ]

  -- what stands for a relocation of data answers it
  pub data_word : (k : ℕ) (r : Reloc) (s : Section) (q : Reloc) → slice_get o.sections r.section ≡ Some s → is_code s ≡ false → StandsFor o is.form.lists k r r.kind r.offset q → Answers o h (new_places is) r q
  data_word k r s q at other stands =
      let word = word_in_data k r s stands.there at other in
      let none = word_no_jump r.kind word in
      answered o h f p carriers is k r r.kind r.offset q stands (inl none) (ap is_jump stands.kind)
      (word_addend (bytes_of h q.section) q (ap is_word stands.kind ∙ word)
      ∙ (ap (λ (j : ℕ). word_at (bytes_of h j) q.offset) stands.section ∙ (ap (word_at (bytes_of h r.section)) stands.offset
      ∙ (data_number k r s stands.there at other ∙ sym (ap (λ (b : Bool). cond b (zero_addend r) (new_addend o r)) none)))))

  -- the symbol that one which stays names now
  pub new_symbol : (k : ℕ) (r : Reloc) → slice_get o.relocs k ≡ Some r → Stays o f k r → (m : ℕ) × IsNewSymbol o is.form.lists r m
  new_symbol k r there stays =
      let name = symbol_of o k r is.plain there in
      elim (cases_Bool (is_turned o r)) [
        | inl y ↦
            let parts = turned_parts o r name.0 y name.1 in
            let home = code_home o name.0.home parts.0 in
            let t : Target = record { section = home.0; old = old_target o r name.0 } in
            let target : IsTarget o r t = record { symbol = name.0; names = name.1; home = home.1; old = refl } in
            let n = place_of is.form.lists.targets t ((is.form.tables.lists.targets.exact t).1 (record { number = k; reloc = r; there = there; stays = stays; turned = y; target = target })) in
            (first_target o is.form.lists + n.0, own n.0 t y target n.1 refl)
        | inr n ↦ (new_number o is.form.lists r.symbol name.0, same name.0 n name.1 refl)
      ]

  -- where code is
  pub code_of_point : (x : Point) → Contains f.points x → holds_code (slice_get o.sections x.section) ≡ true
  code_of_point x c = let at = at_point o f is.flow x c in ap holds_code at.start.range.is_there ∙ at.start.range.in_code

  pub word_listed : (w : PoolWord) (y : ℕ) → IsWordOf f p w y → Contains f.words w
  word_listed w y (in_pool _ c) = zip_left f.words p.words (w, y) c
  word_listed w y (in_island x u n _ c names at is) = contains_at f.words n w at

  pub code_of_word : (w : PoolWord) → Contains f.words w → holds_code (slice_get o.sections w.section) ≡ true
  code_of_word w c =
      let loads = (is.flow.words w).0 c in
      let range = loads.loads.found.start.range in
      ap (λ (j : ℕ). holds_code (slice_get o.sections j)) loads.section ∙ (ap holds_code range.is_there ∙ range.in_code)

  pub no_data_there : (j n : ℕ) (t : Section) → holds_code (slice_get o.sections j) ≡ true → n ≡ j → slice_get h.sections n ≡ Some t → is_code t ≡ false → ⊥
  no_data_there j n t code e there other =
      let kept = code_kept o h (sections_stay o h f p carriers is) (homes.Section j) in
      both_ways (is_code t) other (sym (ap holds_code (sym (ap (slice_get h.sections) e) ∙ there)) ∙ (kept ∙ code))

pub data_answered : DataIsAnswered
data_answered o h f p carriers is = record {
  linked = λ k r s there at other.
      let m = new_symbol o h f p carriers is k r there (stays_data s at other) in
      let q : Reloc = record { section = r.section; offset = r.offset; kind = r.kind; symbol = m.0 } in
      let stands : StandsFor o is.form.lists k r r.kind r.offset q = record { there = there; section = refl; offset = refl; kind = refl; symbol = m.1 } in
      let n = place_of h.relocs q ((is.form.tables.relocs.exact q).1 (of_data k r s at other stands)) in
      (n.0, q, n.1, refl, refl, refl, data_word o h f p carriers is k r s q at other stands);
  only = λ n q t there at other. only q t at other ((is.form.tables.relocs.exact q).0 (contains_at h.relocs n q there));
  bytes = bytes;
}
  where
    only : (q : Reloc) (t : Section) → slice_get h.sections q.section ≡ Some t → is_code t ≡ false → IsNewReloc o f p carriers is.form.lists q
        → (k : ℕ) × (r : Reloc) × (slice_get o.relocs k ≡ Some r) × (r.section ≡ q.section) × (r.offset ≡ q.offset)
    only q t at other (of_data k r s sec data_section stands) = (k, r, stands.there, sym stands.section, sym stands.offset)
    only q t at other (of_step k r x c carrier point stands) =
        let listed = zip_left f.points carriers (x, carrier.all) carrier.unit in
        let place = reloc_at_is o x.section x.offset k r (sym (at_point o f is.flow x listed).reloc ∙ point) stands.there in
        absurd (no_data_there o h f p carriers is x.section q.section t (code_of_point o h f p carriers is x listed) (stands.section ∙ place.0) at other)
    only q t at other (of_word k r w y word point stands) =
        let listed = word_listed o h f p carriers is w y word in
        let place = reloc_at_is o w.section w.offset k r (sym ((is.flow.words w).0 listed).reloc ∙ point) stands.there in
        absurd (no_data_there o h f p carriers is w.section q.section t (code_of_word o h f p carriers is w listed) (stands.section ∙ place.0) at other)

    bytes : (j x : ℕ) (s t : Section) → slice_get o.sections j ≡ Some s → slice_get h.sections j ≡ Some t → is_code s ≡ false
        → ((k : ℕ) (r : Reloc) → slice_get o.relocs k ≡ Some r → r.section ≡ j → (x < r.offset) ⊎ (r.offset + 4 ≤ x)) → get_or t.bytes x 0 ≡ get_or s.bytes x 0
    bytes j x s t at here other apart =
        let kept = (is.form.tables.sections.each j s t at here).kept other in
        elim (cases_lt x (length s.bytes)) [
          | inl l ↦ kept.bytes x l ∙ ap (λ (b : Bool). cond b 0 (byte_at s.bytes x)) (false_from_ne_true (is_cleared o j x) (λ yes.
              let c = any_there (clears o j x) o.relocs yes in
              let m = place_of o.relocs c.0 c.1 in
              let parts = clears_parts o j x c.0 c.2 in
              let low = parts.low in
              let high = parts.high in
              elim (apart m.0 c.0 m.1 parts.section) [ inl a ↦ omega (arith, a, low) | inr a ↦ omega (arith, a, high) ]))
          | inr past ↦ get_or_past t.bytes x 0 (omega (arith, past, kept.count)) ∙ sym (get_or_past s.bytes x 0 past)
        ]
