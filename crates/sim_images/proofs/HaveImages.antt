-- Where the plain objects have an image, so have the hardened ones, or their code is longer than the room.
use Rattle.std.specs.Prelude.{◌≡◌, ◌<◌, ◌≤◌, ◌⊎◌, ℕ, zero, suc, ◌+◌, ◌-◌, ◌*◌, ◌%◌, ◌^◌, ◌==◌, nat_lt, nat_le, ◌&&◌, ◌||◌, not, max, Bool, true, false, cond, List, [], ◌∷◌, length, Option, Some, slice_get, Contains, refl}
use Rattle.std.proofs.Common.{arith, inl, inr, ap, sym, ◌∙◌, subst}
use Rattle.std.proofs.lemmas.Bool.{cases_Bool, cases_lt, both_ways, and_parts, and_from, and_right, or_left, or_right, not_from_false, eq-eqb, ne_eqb, lt-ltb, le-leb, cond-true, cond-false}
use Rattle.std.proofs.lemmas.Option.{none-some, same_Some}
use Rattle.elf_model.specs.declared.objects.Section.{Section}
use Rattle.elf_model.specs.declared.objects.Symbol.{Symbol}
use Rattle.elf_model.specs.declared.objects.Reloc.{Reloc}
use Rattle.elf_model.specs.declared.objects.Home.{Home}
use Rattle.elf_model.specs.declared.objects.RelocKind.{RelocKind}
use Rattle.elf_model.specs.declared.objects.RelocKind.TheVariants.{Abs32, Target1, ThmCall, ThmJump24, MovwAbs, MovtAbs, ThmJump19, ThmJump11, ThmJump8, Other}
use Rattle.elf_model.specs.declared.refusals.Spot.{Spot}
use Rattle.elf_model.specs.Constants.{local, global}
use Rattle.elf_model.specs.Canonical.{round_up}
use Rattle.elf_model.specs.Objects.{ObjectParts, is_code, place_width}
use Rattle.thumb_table.specs.declared.placements.Placement.{Placement}
use Rattle.reloc_places.specs.Relocations.{is_word, is_jump, is_in_code as has_code, IsPlace, in_data, in_code as in_data_word, on_instr, IsRight}
use Rattle.thumb_table.specs.Layouts.{Placed, IsPlacement, all_placed, all_chosen, home_part, code_bytes_of}
use Rattle.thumb_table.specs.Names.{Defined, is_defined, globals, resolved, meant, is_in_code, stands}
use Rattle.thumb_table.specs.Links.{Link, IsLink, leads_to_code, addend_of, sum_of, full, target_of, offset_of, place_of as address_at, is_other, is_straight, is_in_range, can_branch, is_thumb_address, has_address, is_reached, reach}
use Rattle.thumb_table.specs.LinkFaults.{IsReloc, NamesNothing, IsSecond, StandsBefore, LinkFault, misplaced, undefined, defined_twice, long_code, long_data, high_end, out_of_range}
use Rattle.thumb_table.specs.Images.{CanLink}
use Rattle.sim_images.specs.ImageLaws.{AreObjects, Here}
use Rattle.sim_images.specs.Counterparts.{Places, IsCounterpart, locals, AreAnswers, Answers, by_symbol, by_target, SameSense, zero_addend, IsAccepted, RelocsAnswer}
use Rattle.sim_images.specs.PairLaws.{MeantAlike, HaveImage}
use Rattle.elf_model.proofs.Elements.{contains_cases, contains_none, contains_here, contains_later, element_at}
use Rattle.sim_images.proofs.RawBytes.{begins, ends_inside}
use Rattle.sim_images.proofs.PartFacts.{part_is, in_part, code_good}
use Rattle.sim_images.proofs.ImageFacts.{is_code_part}
use Rattle.sim_images.proofs.EachLinked.{linked_at}
use Rattle.sim_images.proofs.DataStay.{data_lengths}
use Rattle.sim_images.proofs.NamesAlike.{Twin, Twins, none, some, outer_twins, names_meet}
use Rattle.sim_images.proofs.Meant.{outer_is, meant_cases, same_code}
use Rattle.sim_images.proofs.HomesAlike.{code_kept}
use Rattle.sim_images.proofs.ValuesAlike.{Room, inside_room, addend_is, Itself, itself, local_means, ranged, straight}
use Rattle.sim_images.proofs.LinksMeet.{Meets, Meeting, outside, words, branches, linked_pair, code_of, code_to, links_meet, room_of}

-- code lies in the room
pub in_room : (objects : List ObjectParts) (at : Placement) → AreObjects objects → Room objects at → (i j : ℕ) (o : ObjectParts) (p : Placed) → Here objects at i o j p → is_code p.section ≡ true
    → (at.base ≤ p.start) × (p.start + p.section.size ≤ at.base + at.room)
in_room objects at sound room i j o p here code =
    let c = is_code_part objects at i j p (part_is objects at i j p here.part) code in
    let low : at.base ≤ p.start = begins (λ s. max 4 s.align) at.base (all_chosen is_code 0 objects) (code_good objects sound) p c in
    let high : p.start + p.section.size ≤ at.base + length (code_bytes_of objects at) = ends_inside (λ s. max 4 s.align) at.base (all_chosen is_code 0 objects) (code_good objects sound) p c in
    let fits : length (code_bytes_of objects at) ≤ at.room = room.fits in
    (low, omega arith)

-- a branch stands in code
word_no_jump : (k : RelocKind) → is_word k ≡ true → is_jump k ≡ true → ⊥
word_no_jump Abs32 w j = both_ways false refl j
word_no_jump Target1 w j = both_ways false refl j
word_no_jump ThmCall w j = both_ways false refl w
word_no_jump ThmJump24 w j = both_ways false refl w
word_no_jump MovwAbs w j = both_ways false refl w
word_no_jump MovtAbs w j = both_ways false refl w
word_no_jump ThmJump19 w j = both_ways false refl w
word_no_jump ThmJump11 w j = both_ways false refl w
word_no_jump ThmJump8 w j = both_ways false refl w
word_no_jump (Other n) w j = both_ways false refl w

pub jump_place : (o : ObjectParts) (r : Reloc) → IsPlace o r → is_jump r.kind ≡ true → (s : Section) × (slice_get o.sections r.section ≡ Some s) × (is_code s ≡ true)
jump_place o r (in_data s there datum word) jump = absurd (word_no_jump r.kind word jump)
jump_place o r (in_data_word word w) jump = absurd (word_no_jump r.kind word jump)
jump_place o r (on_instr end i start given fits) jump = (start.range.section, start.range.is_there, start.range.in_code)

far_reach : (k : RelocKind) → reach k ≤ 2 ^ 24
far_reach Abs32 = omega arith
far_reach Target1 = omega arith
far_reach ThmCall = omega arith
far_reach ThmJump24 = omega arith
far_reach MovwAbs = omega arith
far_reach MovtAbs = omega arith
far_reach ThmJump19 = omega arith
far_reach ThmJump11 = omega arith
far_reach ThmJump8 = omega arith
far_reach (Other n) = omega arith

-- an offset between two even addresses of the room
offset_fits : (sum place target base room far : ℕ) → sum < 2 ^ 32 → (sum + 4) % 2 ^ 32 ≡ target → base + room ≤ 0x7FFFF000 → room ≤ 524288 → base ≤ place → place ≤ base + room → base ≤ target → target ≤ base + room
    → 2 ^ 20 ≤ far → far ≤ 2 ^ 24 → ((sum + 2 ^ 32 - place) % 2 ^ 32 + far) % 2 ^ 32 < 2 * far
offset_fits sum place target base room far small e h1 h2 h3 h4 h5 h6 h7 h8 = omega arith

offset_even : (sum place target : ℕ) → sum < 2 ^ 32 → (sum + 4) % 2 ^ 32 ≡ target → place < 2 ^ 32 → place % 2 ≡ 0 → target % 2 ≡ 0 → (sum + 2 ^ 32 - place) % 2 ^ 32 % 2 ≡ 0
offset_even sum place target small e low p t = omega arith

below_all : (n : ℕ) → n % 2 ^ 32 < 2 ^ 32
below_all n = omega arith

module _ (ins outs : List ObjectParts) (at : Placement) (moved : ℕ → Places) (so : AreObjects ins) (sh : AreObjects outs) (answers : AreAnswers ins outs moved)
    (accepted : (i : ℕ) (o : ObjectParts) → slice_get ins i ≡ Some o → IsAccepted o)
    (relocs : (i : ℕ) (o h : ObjectParts) → slice_get ins i ≡ Some o → slice_get outs i ≡ Some h → RelocsAnswer o h (moved i))
    (placement : IsPlacement at) (can : CanLink ins at) (space : Room outs at) where
  in_ins : (i : ℕ) (h : ObjectParts) → slice_get outs i ≡ Some h → (o : ObjectParts) × (slice_get ins i ≡ Some o)
  in_ins i h e = element_at ins i (subst (λ (n : ℕ). i < n) answers.count (in_list outs i h e))
    where
      in_list : {X : Type 0} (xs : List X) (n : ℕ) (x : X) → slice_get xs n ≡ Some x → n < length xs
      in_list [] n x e = absurd (none-some x e)
      in_list (y ∷ ys) zero x e = omega arith
      in_list (y ∷ ys) (suc n) x e = let r = in_list ys n x e in omega arith

  all_right : (i k : ℕ) (h : ObjectParts) (q : Reloc) → IsReloc outs i k h q → IsRight h k q
  all_right i k h q there = let o = in_ins i h there.object in (relocs i o.0 h o.1 there.object).right k q there.reloc

  -- a symbol that stands for itself does so in both lists
  own_both : (l m : Link) → IsLink ins at l → IsLink outs at m → m.file ≡ l.file → IsCounterpart l.object m.object (moved l.file) l.reloc.symbol m.reloc.symbol → Itself l → MeantAlike ins outs moved l.meant m.meant
      → is_other m ≡ false
  own_both l m il im file c own alike =
      let one : c.symbol ≡ l.symbol = same_Some c.symbol l.symbol (sym c.was ∙ il.symbol) in
      let two : c.twin ≡ m.symbol = same_Some c.twin m.symbol (sym c.becomes ∙ im.symbol) in
      let object : m.meant.object ≡ m.file = alike.file ∙ (own.file ∙ sym file) in
      elim (meant_cases ins l.file l.reloc.symbol l.symbol l.meant il.meant) [
        | inl self ↦
            let bind : m.symbol.bind ≡ local = ap (λ (s : Symbol). s.bind) (sym two) ∙ (c.same.bind ∙ (ap (λ (s : Symbol). s.bind) one ∙ self.0)) in
            let home : m.symbol.home ≡ l.symbol.home = ap (λ (s : Symbol). s.home) (sym two) ∙ (c.same.home ∙ ap (λ (s : Symbol). s.home) one) in
            let itself_too = local_means outs at m im bind (ap (λ (h : Home). is_defined h) home ∙ self.1) in
            made object itself_too.number
        | inr outer ↦
            let o_same : alike.object ≡ l.object = same_Some alike.object l.object (sym alike.there ∙ (ap (λ (n : ℕ). slice_get ins n) own.file ∙ il.object)) in
            let h_same : alike.twin ≡ m.object = same_Some alike.twin m.object (sym alike.here ∙ (ap (λ (n : ℕ). slice_get outs n) object ∙ im.object)) in
            let was : slice_get l.object.symbols l.meant.index ≡ Some alike.same.symbol = subst (λ (o : ObjectParts). slice_get o.symbols l.meant.index ≡ Some alike.same.symbol) o_same alike.same.was in
            let sym_is : alike.same.symbol ≡ l.symbol = same_Some alike.same.symbol l.symbol (sym was ∙ (ap (λ (n : ℕ). slice_get l.object.symbols n) own.number ∙ il.symbol)) in
            let not_local : l.symbol.bind ≡ local → ⊥ = λ e. outer.outer (ap (λ (s : Symbol). s.bind) own.symbol ∙ e) in
            let far : (l.symbol.bind == local) ≡ false = ne_eqb l.symbol.bind local not_local in
            let order : m.reloc.symbol + locals l.object ≡ l.reloc.symbol + locals m.object = c.order (ap (λ (s : Symbol). s.bind == local) one ∙ far) in
            let order_too : m.meant.index + locals alike.object ≡ l.meant.index + locals alike.twin = alike.same.order (ap (λ (s : Symbol). s.bind == local) sym_is ∙ far) in
            let a : locals alike.object ≡ locals l.object = ap (λ (o : ObjectParts). locals o) o_same in
            let b : locals alike.twin ≡ locals m.object = ap (λ (o : ObjectParts). locals o) h_same in
            made object (count m.reloc.symbol (locals l.object) l.reloc.symbol (locals m.object) m.meant.index (locals alike.object) l.meant.index (locals alike.twin) order order_too a b own.number)
      ]
    where
      count : (r a s b x c y d : ℕ) → r + a ≡ s + b → x + c ≡ y + d → c ≡ a → d ≡ b → y ≡ s → x ≡ r
      count r a s b x c y d e f g h i = omega arith

      made : m.meant.object ≡ m.file → m.meant.index ≡ m.reloc.symbol → is_other m ≡ false
      made a b = ap (λ (c : Bool). not c) (and_from (m.meant.object == m.file) (m.meant.index == m.reloc.symbol) (eq-eqb m.meant.object m.file a) (eq-eqb m.meant.index m.reloc.symbol b))

  abbrev bent : Link → Bool
  bent m = is_other m && (leads_to_code (all_placed outs at) m || is_in_code (all_placed outs at) m.file m.symbol.home)

  straight_from : (m : Link) → bent m ≡ false ⊎ (addend_of m ≡ zero_addend m.reloc) → is_straight (all_placed outs at) m ≡ true
  straight_from m (inl n) = or_left (not (bent m)) (addend_of m == zero_addend m.reloc) (not_from_false (bent m) n)
  straight_from m (inr e) = or_right (not (bent m)) (addend_of m == zero_addend m.reloc) (eq-eqb (addend_of m) (zero_addend m.reloc) e)

  straight_too : (l m : Link) → IsLink ins at l → IsLink outs at m → m.file ≡ l.file → SameSense l.reloc m.reloc → Answers l.object m.object (moved l.file) l.reloc m.reloc → is_straight (all_placed outs at) m ≡ true
  straight_too l m il im file sense (by_target j y leads fn adds) = straight_from m (inr (addend_is outs at m im ∙ adds))
  straight_too l m il im file sense (by_symbol c adds to_itself) =
      elim (cases_Bool (bent m)) [
        | inr n ↦ straight_from m (inl n)
        | inl y ↦
            let parts = and_parts (is_other m) (leads_to_code (all_placed outs at) m || is_in_code (all_placed outs at) m.file m.symbol.home) y in
            let lp = linked_pair ins outs at moved so sh answers placement (room_of ins at can) space l m il im file c in
            let leads : leads_to_code (all_placed outs at) m ≡ leads_to_code (all_placed ins at) l =
            code_to ins outs at moved so sh answers placement (room_of ins at can) space l.meant m.meant lp.1 ∙ sym (code_of ins outs at moved so sh answers placement (room_of ins at can) space l.meant m.meant lp.1) in
            let one : c.symbol ≡ l.symbol = same_Some c.symbol l.symbol (sym c.was ∙ il.symbol) in
            let two : c.twin ≡ m.symbol = same_Some c.twin m.symbol (sym c.becomes ∙ im.symbol) in
            let home : m.symbol.home ≡ l.symbol.home = ap (λ (s : Symbol). s.home) (sym two) ∙ (c.same.home ∙ ap (λ (s : Symbol). s.home) one) in
            let into : slice_get outs l.file ≡ Some m.object = ap (λ (n : ℕ). slice_get outs n) (sym file) ∙ im.object in
            let owns : is_in_code (all_placed outs at) m.file m.symbol.home ≡ is_in_code (all_placed ins at) l.file l.symbol.home =
            same_code outs at m.file m.object im.object m.symbol.home
            ∙ (ap (λ (h : Home). has_code m.object h) home ∙ (code_kept l.object m.object (answers.sections l.file l.object m.object il.object into) l.symbol.home ∙ sym (same_code ins at l.file l.object il.object l.symbol.home))) in
            let code : (leads_to_code (all_placed ins at) l || is_in_code (all_placed ins at) l.file l.symbol.home) ≡ true =
            sym (ap (λ (b : Bool). b || is_in_code (all_placed outs at) m.file m.symbol.home) leads ∙ ap (λ (b : Bool). leads_to_code (all_placed ins at) l || b) owns) ∙ parts.1 in
            elim (cases_Bool (is_other l)) [
              | inl o ↦
                  let zero_l = straight (all_placed ins at) l (ranged ins at can l il) o code in
                  straight_from m (inr (addend_is outs at m im ∙ (adds ∙ (sym (addend_is ins at l il) ∙ (zero_l ∙ ap (λ (b : Bool). cond b (2 ^ 32 - 4) 0) (sym sense.jump))))))
              | inr n ↦ absurd (both_ways (is_other m) (own_both l m il im file c (itself ins at l il n) lp.0) parts.0)
            ]
      ]

  branch_fits : (l m : Link) → IsLink outs at m → IsRight m.object m.number m.reloc → is_jump m.reloc.kind ≡ true → 2 ^ 20 ≤ reach m.reloc.kind → m.reloc.offset % 2 ≡ 0
      → (x y : ℕ) (h : Meets ins outs at moved so sh answers placement (room_of ins at can) space l.meant m.meant x y) → target_of (all_placed outs at) m ≡ h.place.start + y → can_branch (all_placed outs at) m ≡ true
  branch_fits l m im right jump far level x y h to =
      let s = jump_place m.object m.reloc right.place jump in
      let f = part_is outs at m.file m.reloc.section m.part im.part in
      let same : f.object ≡ m.object = same_Some f.object m.object (sym f.there ∙ im.object) in
      let there : slice_get m.object.sections m.reloc.section ≡ Some m.part.section = subst (λ (z : ObjectParts). slice_get z.sections m.reloc.section ≡ Some m.part.section) same f.section in
      let here : Here outs at m.file m.object m.reloc.section m.part = record { object = im.object; section = there; part = im.part } in
      let code : is_code m.part.section ≡ true = subst (λ (z : Section). is_code z ≡ true) (same_Some s.0 m.part.section (sym s.1 ∙ there)) s.2 in
      let mine = in_room outs at sh space m.file m.reloc.section m.object m.part here code in
      let four = inside_room outs at sh placement space m.file m.reloc.section m.object m.part here code in
      let its = in_room outs at sh space l.meant.object h.section h.twin h.place h.becomes h.new.code in
      let low : m.part.start % 4 ≡ 0 = four.0 in
      let fours : h.place.start % 4 ≡ 0 = h.new.fours in
      let bound : at.base + at.room ≤ 0x7FFFF000 = space.low in
      let high : at.room ≤ 524288 = placement.room_high in
      let wide : m.reloc.offset + place_width m.reloc.kind ≤ m.part.section.size = in_part outs at m sh im in
      let within : y < h.place.section.size = h.within in
      let even_y : y % 2 ≡ 0 = h.level in
      let b1 : at.base ≤ m.part.start = mine.0 in
      let b2 : m.part.start + m.part.section.size ≤ at.base + at.room = mine.1 in
      let b3 : at.base ≤ h.place.start = its.0 in
      let b4 : h.place.start + h.place.section.size ≤ at.base + at.room = its.1 in
      let small = below_all (stands (all_placed outs at) m.meant + addend_of m) in
      let t_even : target_of (all_placed outs at) m % 2 ≡ 0 = evens (target_of (all_placed outs at) m) h.place.start y to fours even_y in
      let p_even : address_at m % 2 ≡ 0 = sums m.part.start m.reloc.offset low level in
      let p1 : at.base ≤ address_at m = omega arith in
      let p2 : address_at m ≤ at.base + at.room = omega arith in
      let p3 : address_at m < 2 ^ 32 = omega arith in
      let t1 : at.base ≤ target_of (all_placed outs at) m = over at.base h.place.start y (target_of (all_placed outs at) m) to b3 in
      let t2 : target_of (all_placed outs at) m ≤ at.base + at.room = under (at.base + at.room) h.place.start y (target_of (all_placed outs at) m) h.place.section.size to within b4 in
      let fit = offset_fits (sum_of (all_placed outs at) m) (address_at m) (target_of (all_placed outs at) m) at.base at.room (reach m.reloc.kind) small refl bound high p1 p2 t1 t2 far (far_reach m.reloc.kind) in
      let flat = offset_even (sum_of (all_placed outs at) m) (address_at m) (target_of (all_placed outs at) m) small refl p3 p_even t_even in
      let home : home_part (all_placed outs at) m.meant.object m.meant.symbol.home ≡ Some h.place = ap (λ (z : Home). home_part (all_placed outs at) m.meant.object z) h.new.home ∙ h.new.part in
      let inside : has_address (target_of (all_placed outs at) m) (Some h.place) ≡ true =
      and_from (is_code h.place.section && nat_le h.place.start (target_of (all_placed outs at) m)) (nat_lt (target_of (all_placed outs at) m) (h.place.start + h.place.section.size))
      (and_from (is_code h.place.section) (nat_le h.place.start (target_of (all_placed outs at) m)) h.new.code (le-leb h.place.start (target_of (all_placed outs at) m) (over h.place.start h.place.start y (target_of (all_placed outs at) m) to (self h.place.start))))
      (lt-ltb (target_of (all_placed outs at) m) (h.place.start + h.place.section.size) (less h.place.start y (target_of (all_placed outs at) m) h.place.section.size to within)) in
      and_from (is_reached (reach m.reloc.kind) (offset_of (all_placed outs at) m) && has_address (target_of (all_placed outs at) m) (home_part (all_placed outs at) m.meant.object m.meant.symbol.home)) (target_of (all_placed outs at) m % 2 == 0)
      (and_from (is_reached (reach m.reloc.kind) (offset_of (all_placed outs at) m)) (has_address (target_of (all_placed outs at) m) (home_part (all_placed outs at) m.meant.object m.meant.symbol.home))
      (and_from (offset_of (all_placed outs at) m % 2 == 0) (nat_lt ((offset_of (all_placed outs at) m + reach m.reloc.kind) % 2 ^ 32) (2 * reach m.reloc.kind)) (eq-eqb (offset_of (all_placed outs at) m % 2) 0 flat)
      (lt-ltb ((offset_of (all_placed outs at) m + reach m.reloc.kind) % 2 ^ 32) (2 * reach m.reloc.kind) fit))
      (ap (λ (z : Option Placed). has_address (target_of (all_placed outs at) m) z) home ∙ inside))
      (eq-eqb (target_of (all_placed outs at) m % 2) 0 t_even)
    where
      evens : (t s y : ℕ) → t ≡ s + y → s % 4 ≡ 0 → y % 2 ≡ 0 → t % 2 ≡ 0
      evens t s y e f g = omega arith

      sums : (s y : ℕ) → s % 4 ≡ 0 → y % 2 ≡ 0 → (s + y) % 2 ≡ 0
      sums s y f g = omega arith

      over : (b s y t : ℕ) → t ≡ s + y → b ≤ s → b ≤ t
      over b s y t e f = omega arith

      under : (b s y t n : ℕ) → t ≡ s + y → y < n → s + n ≤ b → t ≤ b
      under b s y t n e f g = omega arith

      less : (s y t n : ℕ) → t ≡ s + y → y < n → t < s + n
      less s y t n e f = omega arith

      self : (n : ℕ) → n ≤ n
      self n = omega arith

  -- a relocation of the hardened list, and the plain link that it answers
  record Answered (i : ℕ) (h : ObjectParts) (q : Reloc) : Type 0 where
    pub link : Link
    pub is_link : IsLink ins at link
    pub file : link.file ≡ i
    pub sense : SameSense link.reloc q
    pub answer : Answers link.object h (moved link.file) link.reloc q

  answered : (i n : ℕ) (h : ObjectParts) (q : Reloc) → IsReloc outs i n h q → Answered i h q
  answered i n h q there =
      let o = in_ins i h there.object in
      let a = (relocs i o.0 h o.1 there.object).each n q there.reloc in
      go o.0 o.1 a.0 a.1 a.2 a.3 a.4
    where
      go : (o : ObjectParts) → slice_get ins i ≡ Some o → (k : ℕ) (r : Reloc) → slice_get o.relocs k ≡ Some r → SameSense r q → Answers o h (moved i) r q → Answered i h q
      go o known k r e sense answer =
          let lk = linked_at ins at so can i k o r (record { object = known; reloc = e }) in
          let o_is : o ≡ lk.link.object = same_Some o lk.link.object (sym known ∙ (ap (λ (n : ℕ). slice_get ins n) (sym lk.file) ∙ lk.is_link.object)) in
          let r_is : r ≡ lk.link.reloc = same_Some r lk.link.reloc (sym e ∙ (ap (λ (z : ObjectParts). slice_get z.relocs k) o_is ∙ (ap (λ (n : ℕ). slice_get lk.link.object.relocs n) (sym lk.number) ∙ lk.is_link.reloc))) in
          record {
            link = lk.link;
            is_link = lk.is_link;
            file = lk.file;
            sense = subst (λ (z : Reloc). SameSense z q) r_is sense;
            answer = subst (λ (f : ℕ). Answers lk.link.object h (moved f) lk.link.reloc q) (sym lk.file) (subst (λ (z : Reloc). Answers lk.link.object h (moved i) z q) r_is (subst (λ (z : ObjectParts). Answers z h (moved i) r q) o_is answer));
          }

  range_by : (l m : Link) → IsLink outs at m → SameSense l.reloc m.reloc → IsRight m.object m.number m.reloc → (is_jump m.reloc.kind ≡ true → (2 ^ 20 ≤ reach m.reloc.kind) × (m.reloc.offset % 2 ≡ 0))
      → Meeting ins outs at moved so sh answers placement (room_of ins at can) space l m → cond (is_jump m.reloc.kind) (can_branch (all_placed outs at) m) (is_thumb_address (all_placed outs at) m) ≡ true
  range_by l m im sense right long (outside jump a b same) =
      cond-false (is_jump m.reloc.kind) (can_branch (all_placed outs at) m) (is_thumb_address (all_placed outs at) m) (sense.jump ∙ jump)
      ∙ or_left (not (is_other m && leads_to_code (all_placed outs at) m)) (full (all_placed outs at) m % 2 == 1) (not_from_false (is_other m && leads_to_code (all_placed outs at) m) (and_right (is_other m) (leads_to_code (all_placed outs at) m) b))
  range_by l m im sense right long (words x y h jump a b) =
      cond-false (is_jump m.reloc.kind) (can_branch (all_placed outs at) m) (is_thumb_address (all_placed outs at) m) (sense.jump ∙ jump)
      ∙ or_right (not (is_other m && leads_to_code (all_placed outs at) m)) (full (all_placed outs at) m % 2 == 1) (eq-eqb (full (all_placed outs at) m % 2) 1 (odd (full (all_placed outs at) m) h.place.start y b h.new.fours h.level))
    where
      odd : (n s z : ℕ) → n ≡ (s + z) + 1 → s % 4 ≡ 0 → z % 2 ≡ 0 → n % 2 ≡ 1
      odd n s z e f g = omega arith
  range_by l m im sense right long (branches x y h jump a b) =
      let j : is_jump m.reloc.kind ≡ true = sense.jump ∙ jump in
      let fact = long j in
      cond-true (is_jump m.reloc.kind) (can_branch (all_placed outs at) m) (is_thumb_address (all_placed outs at) m) j ∙ branch_fits l m im right j fact.0 fact.1 x y h b

  range_too : (m : Link) → IsLink outs at m → is_in_range (all_placed outs at) m ≡ true
  range_too m im =
      let there : IsReloc outs m.file m.number m.object m.reloc = record { object = im.object; reloc = im.reloc } in
      let a = answered m.file m.number m.object m.reloc there in
      let right = all_right m.file m.number m.object m.reloc there in
      let o = in_ins m.file m.object im.object in
      let long = (relocs m.file o.0 m.object o.1 im.object).long m.number m.reloc im.reloc in
      and_from (is_straight (all_placed outs at) m) (cond (is_jump m.reloc.kind) (can_branch (all_placed outs at) m) (is_thumb_address (all_placed outs at) m))
      (straight_too a.link m a.is_link im (sym a.file) a.sense a.answer)
      (range_by a.link m im a.sense right long (links_meet ins outs at moved so sh answers placement (room_of ins at can) space accepted can a.link m a.is_link im (sym a.file) a.sense a.answer))

  -- no relocation names nothing
  names_something : (i n : ℕ) (q : Reloc) → NamesNothing outs i n q → ⊥
  names_something i n q nn = go (answered i n nn.object q nn.there)
    where
      go : Answered i nn.object q → ⊥
      go a = by a.answer
        where
          by : Answers a.link.object nn.object (moved a.link.file) a.link.reloc q → ⊥
          by (by_symbol c adds to_itself) =
              let into : slice_get outs a.link.file ≡ Some nn.object = ap (λ (n : ℕ). slice_get outs n) a.file ∙ nn.there.object in
              let nm = names_meet ins outs moved so sh answers a.link.file a.link.reloc.symbol q.symbol a.link.object nn.object a.link.symbol nn.symbol a.link.meant a.is_link.object into c a.is_link.symbol nn.names a.is_link.meant in
              none-some nm.0 (sym nn.nothing ∙ (ap (λ (n : ℕ). meant outs n q.symbol nn.symbol) (sym a.file) ∙ nm.1))
          by (by_target j y leads fn adds) =
              let same : fn.symbol ≡ nn.symbol = same_Some fn.symbol nn.symbol (sym fn.names ∙ nn.names) in
              let own : Defined = record { object = i; index = q.symbol; symbol = nn.symbol } in
              let test : ((nn.symbol.bind == local) && is_defined nn.symbol.home) ≡ true =
              and_from (nn.symbol.bind == local) (is_defined nn.symbol.home) (eq-eqb nn.symbol.bind local (ap (λ (s : Symbol). s.bind) (sym same) ∙ fn.own))
              (ap (λ (s : Symbol). is_defined s.home) (sym same) ∙ ap (λ (h : Home). is_defined h) fn.home) in
              none-some own (sym nn.nothing ∙ cond-true ((nn.symbol.bind == local) && is_defined nn.symbol.home) (Some own) (resolved outs nn.symbol.name) test)

  -- two global definitions of a name in the hardened list are two in the plain one
  twin_back : (ds es : List Defined) → Twins ins outs moved ds es → (e : Defined) → Contains es e → (d : Defined) × Contains ds d × Twin ins outs moved d e
  twin_back _ _ none e c = absurd (contains_none e c)
  twin_back _ _ (some x y ds es t more) e c =
      elim (contains_cases y es e c) [
        | inl same ↦ (x, contains_here x ds, subst (λ (z : Defined). Twin ins outs moved x z) same t)
        | inr r ↦ let b = twin_back ds es more e r in (b.0, contains_later x ds b.0 b.1, b.2)
      ]

  global_twin : (e : Defined) → Contains (globals outs) e → (d : Defined) × Contains (globals ins) d × Twin ins outs moved d e
  global_twin e c = twin_back (globals ins) (globals outs) (outer_twins ins outs moved so sh answers global (λ z. omega (arith, z))) e c

  far_bind : (d e : Defined) (t : Twin ins outs moved d e) → Contains (globals ins) d → (t.alike.same.symbol.bind == local) ≡ false
  far_bind d e t c =
      let g = outer_is ins global (λ z. omega (arith, z)) d c in
      let one : g.0.object ≡ t.alike.object = same_Some g.0.object t.alike.object (sym g.0.there ∙ t.alike.there) in
      let s : t.alike.same.symbol ≡ d.symbol = same_Some t.alike.same.symbol d.symbol (sym t.alike.same.was ∙ subst (λ (o : ObjectParts). slice_get o.symbols d.index ≡ Some d.symbol) one g.0.symbol) in
      ap (λ (n : ℕ). n == local) (ap (λ (z : Symbol). z.bind) s ∙ g.1)

  before_too : (b c d e : Defined) → Contains (globals ins) b → Contains (globals ins) c → Twin ins outs moved b d → Twin ins outs moved c e → StandsBefore d e → StandsBefore b c
  before_too b c d e inb inc tb tc (inl lt) =
      let f : d.object ≡ b.object = tb.alike.file in
      let g : e.object ≡ c.object = tc.alike.file in
      inl (omega arith)
  before_too b c d e inb inc tb tc (inr (same, lt)) =
      let object : b.object ≡ c.object = sym tb.alike.file ∙ (same ∙ tc.alike.file) in
      let o_same : tb.alike.object ≡ tc.alike.object = same_Some tb.alike.object tc.alike.object (sym tb.alike.there ∙ (ap (λ (n : ℕ). slice_get ins n) object ∙ tc.alike.there)) in
      let h_same : tb.alike.twin ≡ tc.alike.twin = same_Some tb.alike.twin tc.alike.twin (sym tb.alike.here ∙ (ap (λ (n : ℕ). slice_get outs n) same ∙ tc.alike.here)) in
      let x : d.index + locals tb.alike.object ≡ b.index + locals tb.alike.twin = tb.alike.same.order (far_bind b d tb inb) in
      let y : e.index + locals tc.alike.object ≡ c.index + locals tc.alike.twin = tc.alike.same.order (far_bind c e tc inc) in
      inr (object, less d.index (locals tb.alike.object) b.index (locals tb.alike.twin) e.index (locals tc.alike.object) c.index (locals tc.alike.twin) x y (ap (λ (o : ObjectParts). locals o) o_same) (ap (λ (o : ObjectParts). locals o) h_same) lt)
    where
      less : (d p b q e r c s : ℕ) → d + p ≡ b + q → e + r ≡ c + s → p ≡ r → q ≡ s → d < e → b < c
      less d p b q e r c s h i j k l = omega arith

  second_back : (e : Defined) → IsSecond outs e → (c : Defined) × IsSecond ins c
  second_back e h =
      let c = global_twin e h.is in
      let b = global_twin h.earlier h.was in
      (c.0, record { earlier = b.0; is = c.1; was = b.1; named = sym b.2.name ∙ (h.named ∙ c.2.name); before = before_too b.0 c.0 h.earlier e b.1 c.1 b.2 c.2 h.before })

  second_none : (n : ℕ) (d : Defined) → d.index < n → IsSecond ins d → ⊥
  second_none zero d lt h = omega arith
  second_none (suc n) d lt h =
      can.sound _ (defined_twice d h (λ e other same home.
      elim (cases_lt e.index d.index) [
        | inl under ↦ let less : e.index < n = omega arith in absurd (second_none n e less other)
        | inr over ↦ over
      ]))

  no_fault : (spot : Spot) → LinkFault outs at spot → ⊥
  no_fault _ (misplaced i k o r there wrong) = wrong (all_right i k o r there)
  no_fault _ (undefined i k r nothing first) = names_something i k r nothing
  no_fault _ (defined_twice d second first) = let c = second_back d second in second_none (suc c.0.index) c.0 (omega arith) c.1
  no_fault _ (long_code lt) = let fits : length (code_bytes_of outs at) ≤ at.room = space.fits in omega arith
  no_fault _ (long_data lt) = can.sound _ (long_data (subst (λ (n : ℕ). 16777216 < round_up n 8 + at.stack) (data_lengths ins outs at moved so sh answers) lt))
  no_fault _ (high_end lt) = can.sound _ (high_end (subst (λ (n : ℕ). 0x7FFFF000 < at.base + at.room + n) (data_lengths ins outs at moved so sh answers) lt))
  no_fault _ (out_of_range l link wrong) = both_ways (is_in_range (all_placed outs at) l) wrong (range_too l link)

  pub can_link : CanLink outs at
  can_link = record { right = all_right; sound = no_fault }

pub have_image : HaveImage
have_image ins outs at moved so sh answers accepted relocs placement can fits = can_link ins outs at moved so sh answers accepted relocs placement can (record { low = (room_of ins at can).low; fits = fits })
