-- Control reaches only even offsets of objects that have an image.
use Rattle.std.specs.Prelude.{◌≡◌, ◌<◌, ◌⊎◌, ℕ, ◌+◌, ◌-◌, ◌%◌, ◌^◌, ◌==◌, ◌&&◌, ◌||◌, nat_le, not, Bool, true, false, cond, List, Option, Some, None, Ok, Err, slice_get, refl}
use Rattle.std.proofs.Common.{arith, inl, inr, ap, sym, ◌∙◌, subst}
use Rattle.std.proofs.lemmas.Bool.{cases_Bool, both_ways, and_parts, and_from, or_right, eqb-true, eqb-false, eq-eqb, leb-true, cond-true, cond-false}
use Rattle.std.proofs.lemmas.Option.{none-some, same_Some, slice_get_within}
use Rattle.elf_model.specs.declared.objects.Section.{Section}
use Rattle.elf_model.specs.declared.objects.Symbol.{Symbol}
use Rattle.elf_model.specs.declared.objects.Reloc.{Reloc}
use Rattle.elf_model.specs.declared.objects.Home.{Home}
use Rattle.elf_model.specs.declared.objects.Home.TheVariants as homes
use Rattle.elf_model.specs.declared.refusals.Refusal.TheVariants as refusal
use Rattle.elf_model.specs.Constants.{local, func}
use Rattle.elf_model.specs.Fields.{half_at}
use Rattle.elf_model.specs.Objects.{ObjectParts, is_object, is_name, is_code, is_data, even, has_home, is_at_home}
use Rattle.elf_model.specs.Ranges.{is_long, is_whole, length_at}
use Rattle.thumb_instr.specs.declared.instructions.Instr.{Instr}
use Rattle.thumb_instr.specs.declared.refusals.BadInstr.TheVariants as bad
use Rattle.thumb_instr.specs.Formed.{IsFormed}
use Rattle.thumb_instr.specs.Blocks.{place_in_block}
use Rattle.thumb_instr.specs.Rows.{is_wide, decode, decode_given}
use Rattle.thumb_instr.proofs.Decoded.{decode_formed}
use Rattle.reloc_places.specs.Starts.{bytes_of, IsCodeStart, HasStart, decoded_at, second_half}
use Rattle.reloc_places.specs.Relocations.{is_jump, is_in_code, place_of, value_of, target_of, addend, reloc_at, IsPlace, in_data, in_code, on_instr, IsRight}
use Rattle.reloc_places.proofs.StartFacts.{start_before, length_least, starts_apart, start_behind}
use Rattle.code_ranges.specs.CodeRanges.{holds_code}
use Rattle.code_ranges.proofs.ObjectFacts.{symbol_sound}
use Rattle.elf_model.proofs.Elements.{all_at, element_at, contains_at}
use Rattle.thumb_table.specs.declared.placements.Placement.{Placement}
use Rattle.thumb_table.specs.Parts.{Image}
use Rattle.thumb_table.specs.Layouts.{Placed, all_placed, part_of}
use Rattle.thumb_table.specs.Names.{is_in_code as lies_in_code, is_defined}
use Rattle.thumb_table.specs.Links.{Link, leads_to_code, addend_of, is_other}
use Rattle.thumb_table.specs.Images.{IsImage}
use Rattle.flow_recover.specs.Walks.{offset_in}
use Rattle.flow_recover.specs.declared.flows.Point.{Point}
use Rattle.flow_recover.specs.Flows.{FlowParts}
use Rattle.flow_recover.specs.Aims.{has_offset, own_target, aim_at, IsAim, by_offset, by_symbol, not_right, is_entry, IsNamed, by_address, by_branch}
use Rattle.flow_recover.specs.Aims.IsNamed.{by_symbol as named_symbol}
use Rattle.flow_recover.specs.Reach.{IsFound, node_at, on, away, IsReached, named, led_on, led_away}
use Rattle.flow_recover.specs.FlowFaults.{by_object}
use Rattle.flow_recover.specs.FlowFaults.FlowFault.{no_instr, no_start}
use Rattle.flow_recover.specs.WholeFlows.{IsFlow}
use Rattle.sim_images.specs.ImageLaws.{AreObjects, Here, Linked}
use Rattle.sim_images.proofs.EachLinked.{has_part, each_linked}
use Rattle.sim_images.proofs.LinkNumbers.{own_place, InCode, stand_is}
use Rattle.sim_images.proofs.LinksMeet.{room_of}
use Rattle.sim_images.proofs.Meant.{same_code}
use Rattle.sim_images.proofs.RightPlaces.{decoded_whole, no_both, no_data}
use Rattle.sim_images.proofs.ValuesAlike.{inside_room, addend_is, itself, local_means, branch_is, straight}
use Rattle.sim_answers.proofs.Placed.{reloc_at_is, same_in_block}
use Rattle.sim_answers.proofs.PointPlaces.{further}
use Rattle.sim_objects.proofs.EvenStarts.{own_even, fitting}

-- ---- numbers

rounded : (v : ℕ) → even v % 2 ≡ 0
rounded v = omega arith

-- where a link's target is even, so is that in its section
own_level : (start place add : ℕ) → start % 4 ≡ 0 → ((start + place + add) % 2 ^ 32 + 4) % 2 ^ 32 % 2 ≡ 0 → (place + add + 4) % 2 ^ 32 % 2 ≡ 0
own_level start place add fours level = omega (arith, fours, level)

straight_level : (place add : ℕ) → add ≡ 2 ^ 32 - 4 → place % 2 ≡ 0 → (place + add + 4) % 2 ^ 32 % 2 ≡ 0
straight_level place add a e = omega (arith, a, e)

straight_same : (place add x : ℕ) → add ≡ 2 ^ 32 - 4 → place < 2 ^ 32 → x ≡ (place + add + 4) % 2 ^ 32 → x ≡ place
straight_same place add x a low e = omega (arith, a, low, e)

-- what is an instruction at a start is formed
formed_at : (bytes : List ℕ) (x it : ℕ) (i : Instr) → decoded_at bytes x it ≡ Ok i → IsFormed i
formed_at bytes x it i e = go (second_half bytes x) e
  where
    go : (s : Option ℕ) → decode_given (place_in_block it) (half_at bytes x) s ≡ Ok i → IsFormed i
    go (Some k) e = decode_formed (place_in_block it) (half_at bytes x) k i e
    go None e = cut (is_wide (half_at bytes x)) e
      where
        cut : (b : Bool) → cond b (Err bad.Unknown) (decode (place_in_block it) (half_at bytes x) 0) ≡ Ok i → IsFormed i
        cut true e = absurd cc
        cut false e = decode_formed (place_in_block it) (half_at bytes x) 0 i e

-- where a symbol sends a branch to its own section
one_of : {A : Type 0} (g : A → Option ℕ) (n s f : A) (x target : ℕ) → g n ≡ Some target → g s ≡ Some target → g f ≡ None → (b c : Bool) → g (cond b (cond c n s) f) ≡ Some x → (b ≡ true) × (x ≡ target)
one_of g n s f x target one two far true true e = (refl, same_Some x target (sym e ∙ one))
one_of g n s f x target one two far true false e = (refl, same_Some x target (sym e ∙ two))
one_of g n s f x target one two far false c e = absurd (none-some x (sym far ∙ e))

aimed : (j target x : ℕ) (s : Symbol) (h : Home) → offset_in (aim_at j s h target) ≡ Some x → (h ≡ homes.Section j) × (x ≡ target)
aimed j target x s homes.Undefined e = absurd (none-some x e)
aimed j target x s homes.Absolute e = absurd (none-some x e)
aimed j target x s (homes.Section h) e =
    let is = one_of offset_in _ _ _ x target refl refl refl (h == j) (s.bind == local) e in
    (ap (λ (n : ℕ). homes.Section n) (eqb-true h j is.0), is.1)

module _ (objects : List ObjectParts) (at : Placement) (image : Image) (sound : AreObjects objects) (is : IsImage objects at image) (i : ℕ) (o : ObjectParts) (f : FlowParts)
    (there : slice_get objects i ≡ Some o) (flow : IsFlow o f) where
  -- starts lie low
  start_low : (j y : ℕ) → HasStart o j y → y < 0x7FFFF000
  start_low j y start =
      let range = start.start.range in
      let before = start_before (bytes_of o j) start.start.start start.end y start.start.is_start in
      let part = has_part objects at i j o range.section there range.is_there (ap (λ (b : Bool). b || is_data range.section) range.in_code) in
      let same : range.section ≡ part.0.section = same_Some range.section part.0.section (sym range.is_there ∙ part.1.section) in
      let size : range.section.size ≡ part.0.section.size = ap (λ (s : Section). s.size) same in
      let room = (inside_room objects at sound is.placement (room_of objects at is.can) i j o part.0 part.1 (subst (λ (s : Section). is_code s ≡ true) same range.in_code)).1 in
      let inside = range.inside in
      omega (arith, before, inside, size, room)

  code_there : (j y : ℕ) → HasStart o j y → is_in_code o (homes.Section j) ≡ true
  code_there j y start = ap holds_code start.start.range.is_there ∙ start.start.range.in_code

  -- No instruction starts at the odd place of a symbol that others see: the place before it is reached, and no instruction.
  none_at_odd : (k j : ℕ) (s : Symbol) → slice_get o.symbols k ≡ Some s → s.home ≡ homes.Section j → is_entry s ≡ true → s.value % 2 ≡ 1 → HasStart o j s.value → ⊥
  none_at_odd k j s at home enters odd start =
      flow.no_fault refusal.IntoMiddle j (even s.value)
      (no_start j (even s.value) (by_object own) (λ low. whole low (is_whole (bytes_of o j) low.end (even s.value)) refl) refl)
    where
      own : IsNamed o j (even s.value) j (even s.value)
      own = named_symbol k s at home (ap (is_in_code o) home ∙ code_there j s.value start) enters refl refl refl

      whole : (low : HasStart o j (even s.value)) (b : Bool) → is_whole (bytes_of o j) low.end (even s.value) ≡ b → ⊥
      whole low true e =
          let fits = leb-true (even s.value + length_at (bytes_of o j) (even s.value)) low.end e in
          let least = length_least (bytes_of o j) (even s.value) in
          let past = starts_apart o j (even s.value) s.value low.end start.end low.start fits start.start (omega (arith, odd)) in
          absurd (omega (arith, odd, past, least))
      whole low false e =
          flow.no_fault refusal.Unknown j (even s.value)
          (no_instr (node_at j (even s.value)) bad.Unknown (named j (even s.value) j (even s.value) own low)
          (record { end = low.end; start = low.start; is = ap (λ (b : Bool). cond b (decoded_at (bytes_of o j) (even s.value) 0) (Err bad.Unknown)) e }) refl refl refl)

  module _ (k j : ℕ) (r : Reloc) (s : Symbol) (right : IsRight o k r) (jump : is_jump r.kind ≡ true) (names : slice_get o.symbols r.symbol ≡ Some s) (home : s.home ≡ homes.Section j)
      (start : HasStart o j (target_of o r s)) where
    linked : Linked objects at i k o r
    linked = each_linked objects at image sound is i k o r (record { object = there; reloc = right.is_there })

    abbrev l : Link
    l = linked.link

    same_object : l.object ≡ o
    same_object = same_Some l.object o (sym linked.is_link.object ∙ (ap (slice_get objects) linked.file ∙ there))

    same_reloc : l.reloc ≡ r
    same_reloc = same_Some l.reloc r (sym linked.is_link.reloc ∙ (ap (slice_get l.object.relocs) linked.number ∙ (ap (λ (z : ObjectParts). slice_get z.relocs k) same_object ∙ right.is_there)))

    same_symbol : l.symbol ≡ s
    same_symbol = same_Some l.symbol s (sym linked.is_link.symbol ∙ (ap (λ (z : ObjectParts). slice_get z.symbols l.reloc.symbol) same_object ∙ (ap (λ (z : Reloc). slice_get o.symbols z.symbol) same_reloc ∙ names)))

    same_addend : addend_of l ≡ addend (bytes_of o r.section) r
    same_addend = addend_is objects at l linked.is_link ∙ (ap (λ (z : ObjectParts). addend (bytes_of z l.reloc.section) l.reloc) same_object ∙ ap (λ (z : Reloc). addend (bytes_of o z.section) z) same_reloc)

    its_jump : is_jump l.reloc.kind ≡ true
    its_jump = ap (λ (z : Reloc). is_jump z.kind) same_reloc ∙ jump

    in_section : is_in_code o s.home ≡ true
    in_section = ap (is_in_code o) home ∙ code_there j (target_of o r s) start

    -- where the symbol stands in its section
    place_is : place_of o s ≡ cond (s.kind == func) (even s.value) s.value
    place_is = go (s.kind == func) (is_in_code o s.home) in_section
      where
        go : (b c : Bool) → c ≡ true → cond (b && c) (even s.value) s.value ≡ cond b (even s.value) s.value
        go true true e = refl
        go true false e = absurd cc
        go false c e = refl

    -- the part of its section
    its_part : (p : Placed) × Here objects at i o j p
    its_part = let range = start.start.range in has_part objects at i j o range.section there range.is_there (ap (λ (b : Bool). b || is_data range.section) range.in_code)

    part_code : is_code its_part.0.section ≡ true
    part_code = subst (λ (z : Section). is_code z ≡ true) (same_Some start.start.range.section its_part.0.section (sym start.start.range.is_there ∙ its_part.1.section)) start.start.range.in_code

    -- a symbol that stands for itself
    by_itself : is_other l ≡ false → target_of o r s % 2 ≡ 0
    by_itself own =
        let self = itself objects at l linked.is_link own in
        let low = inside_room objects at sound is.placement (room_of objects at is.can) i j o its_part.0 its_part.1 part_code in
        let meant_home : l.meant.symbol.home ≡ homes.Section j = ap (λ (z : Symbol). z.home) (self.symbol ∙ same_symbol) ∙ home in
        let inside : InCode (all_placed objects at) l.meant j its_part.0 = record {
          home = meant_home;
          part = ap (λ (n : ℕ). part_of (all_placed objects at) n j) (self.file ∙ linked.file) ∙ its_part.1.part;
          code = part_code;
          fours = low.0;
          low = low.1;
        } in
        let stand = stand_is (all_placed objects at) l.meant j its_part.0 inside in
        let place : own_place l.meant ≡ place_of o s = ap (λ (z : Symbol). cond (z.kind == func) (even z.value) z.value) (self.symbol ∙ same_symbol) ∙ sym place_is in
        let level = (branch_is (all_placed objects at) l linked.range its_jump).level in
        own_level its_part.0.start (place_of o s) (addend (bytes_of o r.section) r) low.0
        (ap (λ (n : ℕ). ((its_part.0.start + n + addend (bytes_of o r.section) r) % 2 ^ 32 + 4) % 2 ^ 32 % 2) (sym place)
        ∙ (ap (λ (n : ℕ). ((its_part.0.start + own_place l.meant + n) % 2 ^ 32 + 4) % 2 ^ 32 % 2) (sym same_addend)
        ∙ (ap (λ (n : ℕ). ((n + addend_of l) % 2 ^ 32 + 4) % 2 ^ 32 % 2) (sym stand) ∙ level)))

    -- it stands within its section
    value_low : (s.kind == func) ≡ false → s.value < 2 ^ 32
    value_low e =
        let room = (inside_room objects at sound is.placement (room_of objects at is.can) i j o its_part.0 its_part.1 part_code).1 in
        let all = symbol_sound o r.symbol s (all_at is_object objects i o sound there) names in
        let last = (and_parts (is_name s.name && nat_le s.bind 2 && nat_le s.kind 4) (has_home o.sections s s.home) all).1 in
        let fits : nat_le (cond (s.kind == func) (even s.value) s.value) its_part.0.section.size ≡ true = sym (ap (has_home o.sections s) home ∙ ap (is_at_home o.sections s) its_part.1.section) ∙ last in
        let low = leb-true s.value its_part.0.section.size (ap (λ (b : Bool). nat_le (cond b (even s.value) s.value) its_part.0.section.size) (sym e) ∙ fits) in
        omega (arith, room, low)

    -- one that stands for another leads to its own place
    by_other : is_other l ≡ true → target_of o r s % 2 ≡ 0
    by_other other = go (s.kind == func) refl
      where
        in_code_too : (leads_to_code (all_placed objects at) l || lies_in_code (all_placed objects at) l.file l.symbol.home) ≡ true
        in_code_too = or_right (leads_to_code (all_placed objects at) l) (lies_in_code (all_placed objects at) l.file l.symbol.home)
            (ap (λ (n : ℕ). lies_in_code (all_placed objects at) n l.symbol.home) linked.file ∙ (ap (λ (z : Symbol). lies_in_code (all_placed objects at) i z.home) same_symbol ∙ (same_code objects at i o there s.home ∙ in_section)))

        zero : addend (bytes_of o r.section) r ≡ 2 ^ 32 - 4
        zero = sym same_addend ∙ (straight (all_placed objects at) l linked.range other in_code_too ∙ cond-true (is_jump l.reloc.kind) (2 ^ 32 - 4) 0 its_jump)

        outer : s.bind ≡ local → ⊥
        outer e =
            let self = local_means objects at l linked.is_link (ap (λ (z : Symbol). z.bind) same_symbol ∙ e) (ap (λ (z : Symbol). is_defined z.home) same_symbol ∙ ap is_defined home) in
            both_ways (is_other l)
            (ap not (and_from (l.meant.object == l.file) (l.meant.index == l.reloc.symbol) (eq-eqb l.meant.object l.file self.file) (eq-eqb l.meant.index l.reloc.symbol self.number))) other

        enters : is_entry s ≡ true
        enters = or_right (s.kind == func) (not (s.bind == local)) (elim (cases_Bool (s.bind == local)) [ inl t ↦ absurd (outer (eqb-true s.bind local t)) | inr n ↦ ap not n ])

        target : (v : ℕ) → place_of o s ≡ v → v % 2 ≡ 0 → target_of o r s % 2 ≡ 0
        target v e level = straight_level (place_of o s) (addend (bytes_of o r.section) r) zero (ap (λ (n : ℕ). n % 2) e ∙ level)

        parity : (n : ℕ) → (n % 2 ≡ 0) ⊎ (n % 2 ≡ 1)
        parity n = elim (cases_Bool (n % 2 == 0)) [ inl t ↦ inl (eqb-true (n % 2) 0 t) | inr f ↦ inr (let e = eqb-false (n % 2) 0 f in omega (arith, e)) ]

        go : (b : Bool) → (s.kind == func) ≡ b → target_of o r s % 2 ≡ 0
        go true e = target (even s.value) (place_is ∙ cond-true (s.kind == func) (even s.value) s.value e) (rounded s.value)
        go false e =
            let place : place_of o s ≡ s.value = place_is ∙ cond-false (s.kind == func) (even s.value) s.value e in
            elim (parity s.value) [
              | inl level ↦ target s.value place level
              | inr odd ↦
                  let low = value_low e in
                  let same = straight_same (place_of o s) (addend (bytes_of o r.section) r) (target_of o r s) zero (omega (arith, place, low)) refl in
                  absurd (none_at_odd r.symbol j s names home enters odd (subst (λ (y : ℕ). HasStart o j y) (same ∙ place) start))
            ]

    pub jump_even : target_of o r s % 2 ≡ 0
    jump_even = elim (cases_Bool (is_other l)) [ inl t ↦ by_other t | inr n ↦ by_itself n ]

  -- a relocation on a branch or call is of one
  jumps_there : (n : _) (b : Instr) (k : ℕ) (r : Reloc) → IsFound o n (Ok b) → has_offset b ≡ true → reloc_at o n.section n.offset ≡ Some k → IsRight o k r → is_jump r.kind ≡ true
  jumps_there n b k r found has here right = go right.place
    where
      stands : (r.section ≡ n.section) × (r.offset ≡ n.offset)
      stands = reloc_at_is o n.section n.offset k r here right.is_there

      start : IsCodeStart o r.section (bytes_of o r.section) r.offset found.end
      start = subst (λ (j : ℕ). IsCodeStart o j (bytes_of o j) r.offset found.end) (sym stands.0) (subst (λ (x : ℕ). IsCodeStart o n.section (bytes_of o n.section) x found.end) (sym stands.1) found.start)

      go : IsPlace o r → is_jump r.kind ≡ true
      go (in_data t section datum word) =
          let same : start.range.section ≡ t = same_Some start.range.section t (sym start.range.is_there ∙ section) in
          absurd (no_data t (subst (λ (z : Section). is_code z ≡ true) same start.range.in_code) datum)
      go (in_code word entry) =
          let low = start_behind (bytes_of o r.section) start.start found.end r.offset start.is_start in
          let high = start_before (bytes_of o r.section) start.start found.end r.offset start.is_start in
          let past = entry.before_end in
          absurd (no_both o r.section start.start found.end entry.start entry.end r.offset start.range entry.range low high entry.behind_start (omega (arith, past)))
      go (on_instr end a from answer fits) =
          let fit = fitting r.kind (is_long (half_at (bytes_of o r.section) r.offset)) a fits in
          let one = (decoded_whole (bytes_of o r.section) end r.offset 0 a answer).1 in
          let two : decoded_at (bytes_of o r.section) r.offset n.it ≡ Ok b =
          ap (λ (j : ℕ). decoded_at (bytes_of o j) r.offset n.it) stands.0 ∙ (ap (λ (x : ℕ). decoded_at (bytes_of o n.section) x n.it) stands.1 ∙ (decoded_whole (bytes_of o n.section) found.end n.offset n.it b found.is).1) in
          fit.1 (ap has_offset (same_in_block (bytes_of o r.section) r.offset n.it a b one fit.0 two) ∙ has)

  aim_even : (n : _) (b : Instr) (x : ℕ) → IsFound o n (Ok b) → has_offset b ≡ true → n.offset % 2 ≡ 0 → HasStart o n.section x → {aim : _} → offset_in aim ≡ Some x
      → IsAim o n.section n.offset b aim → x % 2 ≡ 0
  aim_even n b x found has even start leads (by_offset none e) =
      let d = decoded_whole (bytes_of o n.section) found.end n.offset n.it b found.is in
      let same : x ≡ own_target n.offset b = same_Some x (own_target n.offset b) (sym leads ∙ ap offset_in e) in
      ap (λ (k : ℕ). k % 2) same ∙ own_even n.offset b (formed_at (bytes_of o n.section) n.offset n.it b d.1) has even
  aim_even n b x found has even start leads (by_symbol k r s here right names e) =
      let jump = jumps_there n b k r found has here right in
      let h = aimed n.section (target_of o r s) x s s.home (sym (ap offset_in e) ∙ leads) in
      ap (λ (k : ℕ). k % 2) h.1 ∙ jump_even k n.section r s right jump names h.0 (subst (λ (y : ℕ). HasStart o n.section y) h.1 start)
  aim_even n b x found has even start leads (not_right k here none e) = absurd (none-some x (sym (ap offset_in e) ∙ leads))

  named_even : (j x section offset : ℕ) → IsNamed o j x section offset → HasStart o j x → x % 2 ≡ 0
  named_even j x section offset (named_symbol k s at home code enters e from here) start = ap (λ (n : ℕ). n % 2) e ∙ rounded s.value
  named_even j x section offset (by_address r s reference e from here) start = ap (λ (n : ℕ). n % 2) e ∙ rounded (value_of o r s)
  named_even j x section offset (by_branch k r s right jump names home apart e from here) start =
      ap (λ (n : ℕ). n % 2) e ∙ jump_even k j r s right jump names home (subst (λ (y : ℕ). HasStart o j y) e start)

  pub reached_even : (n : _) → IsReached o n → n.offset % 2 ≡ 0
  reached_even _ (named j x section offset by start) = named_even j x section offset by start
  reached_even m (led_on n _ reached (on b found goes e start)) = ap (λ (z : _). z.offset % 2) e ∙ further (bytes_of o n.section) n.offset (reached_even n reached)
  reached_even m (led_away n _ reached (away b x found aims e start)) =
      ap (λ (z : _). z.offset % 2) e ∙ elim aims.aim [
        | inl a ↦ aim_even n b x found aims.has (reached_even n reached) start refl a
        | inr a ↦ aim_even n b x found aims.has (reached_even n reached) start refl a
      ]

  -- so points stand at even offsets
  pub point_even : (n : ℕ) (x : Point) → slice_get f.points n ≡ Some x → x.offset % 2 ≡ 0
  point_even n x point =
      let z = element_at flow.nodes n (subst (λ (k : ℕ). n < k) flow.count (slice_get_within f.points n x point)) in
      let is = flow.points n z.0 x z.1 point in
      ap (λ (k : ℕ). k % 2) is.offset ∙ reached_even z.0 ((flow.reached z.0).0 (contains_at flow.nodes n z.0 z.1))
