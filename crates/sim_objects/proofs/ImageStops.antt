-- Where code of a section stops, its image has a stop, and NOPs of a section stand in its image.
use Rattle.std.specs.Prelude.{◌≡◌, ◌<◌, ◌≤◌, ◌⊎◌, ℕ, zero, suc, ◌+◌, ◌-◌, ◌*◌, ◌%◌, ◌==◌, ◌&&◌, nat_le, nat_lt, Bool, true, false, cond, List, [], ◌∷◌, length, get_or, drop, Option, Some, None, Ok, slice_get, Contains, refl}
use Rattle.std.specs.List.{list_any}
use Rattle.std.proofs.Common.{arith, inl, inr, ap, sym, ◌∙◌, subst}
use Rattle.std.proofs.lemmas.Bool.{both_ways, and_parts, and_from, or_cases, eqb-true, leb-true, ltb-true, le-leb, false_from_ne_true}
use Rattle.std.proofs.lemmas.List.{get_or-drop}
use Rattle.std.proofs.lemmas.List.Elements.{Contains-append_left, Contains-append_right}
use Rattle.std.proofs.lemmas.Option.{none-some, same_Some}
use Rattle.elf_model.specs.declared.objects.Section.{Section}
use Rattle.elf_model.specs.declared.objects.Symbol.{Symbol}
use Rattle.elf_model.specs.declared.objects.Reloc.{Reloc}
use Rattle.elf_model.specs.declared.objects.Home.{Home}
use Rattle.elf_model.specs.declared.objects.Home.TheVariants as homes
use Rattle.elf_model.specs.Constants.{func}
use Rattle.elf_model.specs.Fields.{half_at}
use Rattle.elf_model.specs.Objects.{ObjectParts, is_code, even, place_width}
use Rattle.elf_model.specs.Ranges.{is_long, length_at, stands_at}
use Rattle.elf_model.proofs.Elements.{contains_here, contains_later}
use Rattle.thumb_instr.specs.declared.instructions.Instr.{Instr}
use Rattle.thumb_instr.specs.declared.instructions.Instr.TheVariants as instr
use Rattle.thumb_instr.specs.declared.operations.MoveOp.TheVariants.{Mov}
use Rattle.thumb_instr.specs.declared.operations.NothingOp.TheVariants.{Nop}
use Rattle.thumb_instr.specs.declared.operands.Operand.TheVariants.{Reg}
use Rattle.mark_word.specs.declared.numbers.Shift.TheVariants.{Lsl}
use Rattle.thumb_instr.specs.declared.refusals.ItPlace.TheVariants.{Outside}
use Rattle.thumb_instr.specs.Numbers.{has_number}
use Rattle.thumb_instr.specs.HalfRows.{half_rows}
use Rattle.thumb_instr.specs.Rows.{Answer, decode, decode_given}
use Rattle.thumb_table.specs.declared.placements.Placement.{Placement}
use Rattle.thumb_table.specs.Parts.{Image}
use Rattle.thumb_table.specs.Layouts.{Placed, all_placed, code_parts, data_parts, part_of}
use Rattle.thumb_table.specs.Names.{Defined, numbered, all_symbols, is_function}
use Rattle.thumb_table.specs.Links.{Link, IsLink, place_of, covers}
use Rattle.thumb_table.specs.Images.{IsImage, IsDataStart, IsStop, at_function, at_data, at_end}
use Rattle.thumb_table.specs.Effects.{half_of}
use Rattle.thumb_table.specs.Ordinary.{IsNop, IsClear}
use Rattle.reloc_places.specs.Starts.{bytes_in, bytes_of, IsCodeStart, decoded_at, is_nop}
use Rattle.reloc_places.specs.Relocations.{IsPlace, in_data, in_code, on_instr, IsRight}
use Rattle.reloc_places.proofs.StartFacts.{start_before, start_behind}
use Rattle.flow_recover.specs.DeadEnds.{IsNopAt}
use Rattle.flow_recover.specs.Points.{IsStopAt, StopsBehindNops, here as stop_here, over}
use Rattle.flow_recover.specs.Points.{IsStopAt as stop}
use Rattle.sim_images.specs.ImageLaws.{AreObjects, Here}
use Rattle.sim_images.proofs.Alignments.{code_aligned}
use Rattle.sim_images.proofs.ImageFacts.{code_inside, code_as_is}
use Rattle.sim_images.proofs.LinkNumbers.{in_code as part_in_code, starts}
use Rattle.sim_images.proofs.PartFacts.{part_is}
use Rattle.sim_images.proofs.RightPlaces.{decoded_whole, no_both, no_data, beside}
use Rattle.sim_objects.proofs.EvenStarts.{fitting}

-- ---- symbols of a list

any_there : {X : Type 0} (p : X → Bool) (xs : List X) → list_any p xs ≡ true → (k : ℕ) × (x : X) × (slice_get xs k ≡ Some x) × (p x ≡ true)
any_there p [] h = absurd (both_ways false refl h)
any_there p (x ∷ xs) h =
    elim (or_cases (p x) (list_any p xs) h) [
      | inl t ↦ (0, x, refl, t)
      | inr r ↦ let z = any_there p xs r in (suc z.0, z.1, z.2, z.3)
    ]

numbered_has : (i k n : ℕ) (symbols : List Symbol) (s : Symbol) → slice_get symbols n ≡ Some s → Contains (numbered i k symbols) (record { object = i; index = k + n; symbol = s })
numbered_has i k n [] s e = absurd (none-some s e)
numbered_has i k zero (t ∷ rest) s e =
    let same : t ≡ s = same_Some t s e in
    let first : Defined = record { object = i; index = k; symbol = t } in
    let z : k ≡ k + 0 = omega arith in
    subst (λ (m : ℕ). Contains (numbered i k (t ∷ rest)) (record { object = i; index = m; symbol = s })) z
    (subst (λ (q : Symbol). Contains (numbered i k (t ∷ rest)) (record { object = i; index = k; symbol = q })) same (contains_here first (numbered i (k + 1) rest)))
numbered_has i k (suc n) (t ∷ rest) s e =
    let first : Defined = record { object = i; index = k; symbol = t } in
    let z : k + 1 + n ≡ k + suc n = omega arith in
    contains_later first (numbered i (k + 1) rest) (record { object = i; index = k + suc n; symbol = s })
    (subst (λ (m : ℕ). Contains (numbered i (k + 1) rest) (record { object = i; index = m; symbol = s })) z (numbered_has i (k + 1) n rest s e))

numbered_there : (i k : ℕ) (symbols : List Symbol) (s : Symbol) → slice_get symbols k ≡ Some s → Contains (numbered i 0 symbols) (record { object = i; index = k; symbol = s })
numbered_there i k symbols s e =
    let z : 0 + k ≡ k = omega arith in
    subst (λ (m : ℕ). Contains (numbered i 0 symbols) (record { object = i; index = m; symbol = s })) z (numbered_has i 0 k symbols s e)

all_have : (i n k : ℕ) (objects : List ObjectParts) (o : ObjectParts) (s : Symbol) → slice_get objects n ≡ Some o → slice_get o.symbols k ≡ Some s
    → Contains (all_symbols i objects) (record { object = i + n; index = k; symbol = s })
all_have i n k [] o s e f = absurd (none-some o e)
all_have i zero k (q ∷ rest) o s e f =
    let z : i ≡ i + 0 = omega arith in
    let there : slice_get q.symbols k ≡ Some s = ap (λ (x : ObjectParts). slice_get x.symbols k) (same_Some q o e) ∙ f in
    Contains-append_left (numbered i 0 q.symbols) (all_symbols (i + 1) rest) (record { object = i + 0; index = k; symbol = s })
    (subst (λ (m : ℕ). Contains (numbered i 0 q.symbols) (record { object = m; index = k; symbol = s })) z (numbered_there i k q.symbols s there))
all_have i (suc n) k (q ∷ rest) o s e f =
    let z : i + 1 + n ≡ i + suc n = omega arith in
    Contains-append_right (numbered i 0 q.symbols) (all_symbols (i + 1) rest) (record { object = i + suc n; index = k; symbol = s })
    (subst (λ (m : ℕ). Contains (all_symbols (i + 1) rest) (record { object = m; index = k; symbol = s })) z (all_have (i + 1) n k rest o s e f))

all_there : (n k : ℕ) (objects : List ObjectParts) (o : ObjectParts) (s : Symbol) → slice_get objects n ≡ Some o → slice_get o.symbols k ≡ Some s
    → Contains (all_symbols 0 objects) (record { object = n; index = k; symbol = s })
all_there n k objects o s e f =
    let z : 0 + n ≡ n = omega arith in
    subst (λ (m : ℕ). Contains (all_symbols 0 objects) (record { object = m; index = k; symbol = s })) z (all_have 0 n k objects o s e f)

stands_is : (j x v : ℕ) (h : Home) → stands_at j x h v ≡ true → (h ≡ homes.Section j) × (v ≡ x)
stands_is j x v homes.Undefined e = absurd (both_ways false refl e)
stands_is j x v homes.Absolute e = absurd (both_ways false refl e)
stands_is j x v (homes.Section k) e = let b = and_parts (k == j) (v == x) e in (ap (λ (n : ℕ). homes.Section n) (eqb-true k j b.0), eqb-true v x b.1)

-- ---- NOPs have no number

nop_means : decode Outside 0xBF00 0 ≡ Ok (instr.Nothing (record { op = Nop; option = 0 }))
unfolding half_rows
nop_means = refl

move_means : decode Outside 0x46C0 0 ≡ Ok (instr.Move (record { op = Mov; s = false; d = 8; x = Reg 8 Lsl 0 }))
unfolding half_rows
move_means = refl

one_answer : (i j : Instr) (a : Answer) → a ≡ Ok i → a ≡ Ok j → i ≡ j
one_answer i j a e f = let z : Ok i ≡ Ok j = sym e ∙ f in cc

nop_short : (h : ℕ) → is_nop h ≡ true → is_long h ≡ false
nop_short h n = elim (or_cases (h == 0xBF00) (h == 0x46C0) n) [ inl e ↦ ap is_long (eqb-true h 0xBF00 e) | inr e ↦ ap is_long (eqb-true h 0x46C0 e) ]

nop_unnumbered : (bytes : List ℕ) (x : ℕ) (i : Instr) → is_nop (half_at bytes x) ≡ true → decoded_at bytes x 0 ≡ Ok i → has_number i ≡ false
nop_unnumbered bytes x i n e =
    let short : decoded_at bytes x 0 ≡ decode_given Outside (half_at bytes x) None = ap (λ (b : Bool). decode_given Outside (half_at bytes x) (cond b (Some (half_at bytes (x + 2))) None)) (nop_short (half_at bytes x) n) in
    let is : decode_given Outside (half_at bytes x) None ≡ Ok i = sym short ∙ e in
    elim (or_cases (half_at bytes x == 0xBF00) (half_at bytes x == 0x46C0) n) [
      | inl a ↦ ap has_number (sym (one_answer _ i (decode Outside 0xBF00 0) nop_means (sym (ap (λ (h : ℕ). decode_given Outside h None) (eqb-true (half_at bytes x) 0xBF00 a)) ∙ is)))
      | inr b ↦ ap has_number (sym (one_answer _ i (decode Outside 0x46C0 0) move_means (sym (ap (λ (h : ℕ). decode_given Outside h None) (eqb-true (half_at bytes x) 0x46C0 b)) ∙ is)))
    ]

half_same : (new old : List ℕ) (a x : ℕ) → ((k : ℕ) → k < 2 → get_or new (a + k) 0 ≡ get_or old (x + k) 0) → half_at new a ≡ half_at old x
half_same new old a x same =
    let zero_same : get_or (drop a new) 0 0 ≡ get_or (drop x old) 0 0 = get_or-drop a new 0 0 ∙ (same 0 (omega arith) ∙ sym (get_or-drop x old 0 0)) in
    let one_same : get_or (drop a new) 1 0 ≡ get_or (drop x old) 1 0 = get_or-drop a new 1 0 ∙ (same 1 (omega arith) ∙ sym (get_or-drop x old 1 0)) in
    omega (arith, zero_same, one_same)

is_one_nop : (h : ℕ) → is_nop h ≡ true → (h ≡ 0xBF00) ⊎ (h ≡ 0x46C0)
is_one_nop h n = elim (or_cases (h == 0xBF00) (h == 0x46C0) n) [ inl e ↦ inl (eqb-true h 0xBF00 e) | inr e ↦ inr (eqb-true h 0x46C0 e) ]

module _ (objects : List ObjectParts) (at : Placement) (image : Image) (sound : AreObjects objects) (is : IsImage objects at image) (i j : ℕ) (o : ObjectParts) (p : Placed)
    (here : Here objects at i o j p) (code : is_code p.section ≡ true) where
  listed : Contains (all_placed objects at) p
  listed = elim (part_is objects at i j p here.part).sort [
    | inl c ↦ Contains-append_left (code_parts objects at) (data_parts objects at) p c.0
    | inr c ↦ Contains-append_right (code_parts objects at) (data_parts objects at) p c.0
  ]

  file : p.object ≡ i
  file = (part_is objects at i j p here.part).file

  index : p.index ≡ j
  index = (part_is objects at i j p here.part).index

  fours : p.start % 4 ≡ 0
  fours = code_aligned objects at sound is.placement i j o p here code

  function_stop : (x k : ℕ) (s : Symbol) → slice_get o.symbols k ≡ Some s → ((s.kind == func) && stands_at j x s.home (even s.value)) ≡ true → IsStop objects (all_placed objects at) (p.start + x)
  function_stop x k s there test =
      let b = and_parts (s.kind == func) (stands_at j x s.home (even s.value)) test in
      let h = stands_is j x (even s.value) s.home b.1 in
      let d : Defined = record { object = i; index = k; symbol = s } in
      let function : is_function (all_placed objects at) d ≡ true = and_from (s.kind == func) _ b.0 (part_in_code (all_placed objects at) i j s.home p h.0 here.part code) in
      let start = starts (all_placed objects at) i j s.home p h.0 here.part in
      subst (IsStop objects (all_placed objects at)) (ap (λ (n : ℕ). even (n + s.value)) start ∙ place p.start s.value x fours h.1) (at_function d (all_there i k objects o s here.object there) function)
    where
      place : (start v x : ℕ) → start % 4 ≡ 0 → even v ≡ x → even (start + v) ≡ start + x
      place start v x f e = omega (arith, f, e)

  is_stop : (x : ℕ) → IsStopAt o j x → IsStop objects (all_placed objects at) (p.start + x)
  is_stop x (stop.at_function h) = let s = any_there (λ (s : Symbol). (s.kind == func) && stands_at j x s.home (even s.value)) o.symbols h in function_stop x s.0 s.1 s.2 s.3
  is_stop x (stop.at_data b) =
      at_data p o x listed code (ap (slice_get objects) file ∙ here.object) (subst (λ (n : ℕ). IsDataStart o n x) (sym index) b)
  is_stop x (stop.at_end s there e) =
      let same : s ≡ p.section = same_Some s p.section (sym there ∙ here.section) in
      subst (λ (n : ℕ). IsStop objects (all_placed objects at) (p.start + n)) (sym (e ∙ ap (λ (z : Section). z.size) same)) (at_end p listed code)

  -- no relocation is on a NOP
  nop_free : (x end k : ℕ) (r : Reloc) → IsCodeStart o r.section (bytes_of o r.section) x end → is_nop (half_at (bytes_of o r.section) x) ≡ true → IsRight o k r → r.offset ≡ x → ⊥
  nop_free x end k r start nop right e = go right.place
    where
      go : IsPlace o r → ⊥
      go (in_data t section datum word) =
          let same : start.range.section ≡ t = same_Some start.range.section t (sym start.range.is_there ∙ section) in
          no_data t (subst (λ (z : Section). is_code z ≡ true) same start.range.in_code) datum
      go (in_code word entry) =
          let low = start_behind (bytes_of o r.section) start.start end x start.is_start in
          let high = start_before (bytes_of o r.section) start.start end x start.is_start in
          let from = entry.behind_start in
          let past = entry.before_end in
          no_both o r.section start.start end entry.start entry.end x start.range entry.range low high (omega (arith, from, e)) (omega (arith, past, e))
      go (on_instr end a from answer fits) =
          let fit = fitting r.kind (is_long (half_at (bytes_of o r.section) r.offset)) a fits in
          let one = (decoded_whole (bytes_of o r.section) end r.offset 0 a answer).1 in
          both_ways (has_number a) (nop_unnumbered (bytes_of o r.section) x a nop (sym (ap (λ (z : ℕ). decoded_at (bytes_of o r.section) z 0) e) ∙ one)) fit.0

  module _ (x : ℕ) (nop : IsNopAt o j x) where
    short : length_at (bytes_of o j) x ≡ 2
    short = ap (λ (b : Bool). cond b 4 2) (nop_short (half_at (bytes_of o j) x) nop.nop)

    fits : x + 2 ≤ p.section.size
    fits =
        let same : nop.start.range.section ≡ p.section = same_Some nop.start.range.section p.section (sym nop.start.range.is_there ∙ here.section) in
        let size : nop.start.range.section.size ≡ p.section.size = ap (λ (z : Section). z.size) same in
        let inside = nop.start.range.inside in
        let whole = nop.whole in
        omega (arith, size, inside, whole)

    inside : (at.base ≤ p.start) × (p.start + p.section.size ≤ at.base + length image.code.bytes)
    inside = code_inside objects at image sound is i j o p here code

    elsewhere : (l : Link) → IsLink objects at l → l.file ≡ i → l.reloc.section ≡ j → (l.reloc.offset + place_width l.reloc.kind ≤ x) ⊎ (x + 2 ≤ l.reloc.offset)
    elsewhere l link from section =
        let one : l.object ≡ o = same_Some l.object o (sym link.object ∙ (ap (slice_get objects) from ∙ here.object)) in
        let right : IsRight o l.number l.reloc = subst (λ (z : ObjectParts). IsRight z l.number l.reloc) one (is.can.right l.file l.number l.object l.reloc (record { object = link.object; reloc = link.reloc })) in
        let start : IsCodeStart o l.reloc.section (bytes_of o l.reloc.section) x nop.end = subst (λ (n : ℕ). IsCodeStart o n (bytes_of o n) x nop.end) (sym section) nop.start in
        let two : length_at (bytes_of o l.reloc.section) x ≡ 2 = ap (λ (n : ℕ). length_at (bytes_of o n) x) section ∙ short in
        let whole = nop.whole in
        let other : l.reloc.offset ≡ x → ⊥ = λ e. nop_free x nop.end l.number l.reloc start (ap (λ (n : ℕ). is_nop (half_at (bytes_of o n) x)) section ∙ nop.nop) right e in
        elim (beside o x nop.end l.number l.reloc start (omega (arith, two, whole)) right other) [ inl a ↦ inl a | inr b ↦ inr (omega (arith, b, two)) ]

    uncovered : (k : ℕ) → k < 2 → (l : Link) → IsLink objects at l → l.file ≡ i → l.reloc.section ≡ j → covers (p.start + (x + k)) l ≡ false
    uncovered k less l link from section =
        let begin : l.part.start ≡ p.start =
        ap (λ (z : Placed). z.start) (same_Some l.part p (sym link.part ∙ (ap (λ (n : ℕ). part_of (all_placed objects at) n l.reloc.section) from ∙ (ap (λ (n : ℕ). part_of (all_placed objects at) i n) section ∙ here.part)))) in
        false_from_ne_true (covers (p.start + (x + k)) l) (λ y.
        let parts = and_parts (nat_le (place_of l) (p.start + (x + k))) (nat_lt (p.start + (x + k)) (place_of l + place_width l.reloc.kind)) y in
        let a : place_of l ≤ p.start + (x + k) = leb-true (place_of l) (p.start + (x + k)) parts.0 in
        let b : p.start + (x + k) < place_of l + place_width l.reloc.kind = ltb-true (p.start + (x + k)) (place_of l + place_width l.reloc.kind) parts.1 in
        elim (elsewhere l link from section) [ inl e ↦ omega (arith, begin, a, b, e, less) | inr e ↦ omega (arith, begin, a, b, e, less) ])

    same_byte : (k : ℕ) → k < 2 → get_or image.code.bytes ((p.start + x - image.code.base) + k) 0 ≡ get_or (bytes_of o j) (x + k) 0
    same_byte k less =
        let f = fits in
        let base : image.code.base ≡ at.base = is.code_base in
        let low = inside.0 in
        let moved : (p.start + x - image.code.base) + k ≡ p.start + (x + k) - at.base = omega (arith, base, low) in
        ap (λ (n : ℕ). get_or image.code.bytes n 0) moved
        ∙ (code_as_is objects at image sound is i j o p here code (x + k) (omega (arith, f, less)) (uncovered k less)
        ∙ ap (λ (z : Option Section). get_or (bytes_in z) (x + k) 0) (sym here.section))

    pub nop_stands : IsNop image.code (p.start + x)
    nop_stands =
        let f = fits in
        let base : image.code.base ≡ at.base = is.code_base in
        let low = inside.0 in
        let high = inside.1 in
        let same : half_of image.code (p.start + x) ≡ half_at (bytes_of o j) x = half_same image.code.bytes (bytes_of o j) (p.start + x - image.code.base) x same_byte in (
          and_from (nat_le image.code.base (p.start + x)) (nat_le (p.start + x + 2) (image.code.base + length image.code.bytes)) (le-leb image.code.base (p.start + x) (omega (arith, base, low)))
              (le-leb (p.start + x + 2) (image.code.base + length image.code.bytes) (omega (arith, base, high, f))),
          elim (is_one_nop (half_at (bytes_of o j) x) nop.nop) [ inl e ↦ inl (same ∙ e) | inr e ↦ inr (same ∙ e) ],
        )

  -- over NOPs there is a stop
  stop_behind : (y : ℕ) → StopsBehindNops o j y → (k : ℕ) × ((m : ℕ) → m < k → IsNop image.code (p.start + y + 2 * m)) × Contains image.code.stops (p.start + y + 2 * k)
  stop_behind _ (stop_here x s) =
      let same : p.start + x ≡ p.start + x + 2 * 0 = omega arith in
      (0, λ m l. absurd (omega (arith, l)), subst (Contains image.code.stops) same ((is.stops (p.start + x)).1 (is_stop x s)))
  stop_behind _ (over x nop rest) =
      let r = stop_behind (x + 2) rest in
      let at_last : p.start + (x + 2) + 2 * r.0 ≡ p.start + x + 2 * suc r.0 = omega arith in
      (suc r.0, nops r, subst (Contains image.code.stops) at_last r.2)
    where
      nops : (r : (k : ℕ) × ((m : ℕ) → m < k → IsNop image.code (p.start + (x + 2) + 2 * m)) × Contains image.code.stops (p.start + (x + 2) + 2 * k)) (m : ℕ) → m < suc r.0 → IsNop image.code (p.start + x + 2 * m)
      nops r zero l = let same : p.start + x ≡ p.start + x + 2 * 0 = omega arith in subst (IsNop image.code) same (nop_stands x nop)
      nops r (suc m) l = let same : p.start + (x + 2) + 2 * m ≡ p.start + x + 2 * suc m = omega arith in subst (IsNop image.code) same (r.1 m (omega (arith, l)))

  -- so a call does not return there in an ordinary way
  pub stops_there : (y : ℕ) → StopsBehindNops o j y → IsClear image.code (p.start + y) → ⊥
  stops_there y s clear = let r = stop_behind y s in clear r.0 r.1 r.2
