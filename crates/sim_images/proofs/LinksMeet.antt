-- Two links of the plain and of the hardened list meet.
use Rattle.std.specs.Prelude.{◌≡◌, ◌<◌, ◌≤◌, ℕ, ◌+◌, ◌-◌, ◌%◌, ◌^◌, ◌==◌, ◌&&◌, ◌||◌, Bool, true, false, cond, List, length, Option, Some, None, slice_get, refl}
use Rattle.std.proofs.Common.{arith, inl, inr, ap, sym, ◌∙◌, subst}
use Rattle.std.proofs.lemmas.Bool.{cases_Bool, both_ways, and_right, or_right, eq-eqb, cond-true, cond-false}
use Rattle.std.proofs.lemmas.Option.{same_Some}
use Rattle.elf_model.specs.declared.objects.Section.{Section}
use Rattle.elf_model.specs.declared.objects.Symbol.{Symbol}
use Rattle.elf_model.specs.declared.objects.Home.{Home}
use Rattle.elf_model.specs.declared.objects.Home.TheVariants as homes
use Rattle.elf_model.specs.Constants.{func}
use Rattle.elf_model.specs.Objects.{ObjectParts, is_code, is_data, even}
use Rattle.thumb_table.specs.declared.placements.Placement.{Placement}
use Rattle.reloc_places.specs.Starts.{bytes_of}
use Rattle.reloc_places.specs.Relocations.{is_jump, addend, is_in_code as has_code, is_thumb, value_of, target_of, IsRight}
use Rattle.code_ranges.specs.CodeRanges.{holds_code}
use Rattle.thumb_table.specs.Layouts.{Placed, IsPlacement, all_placed, part_of, home_start, data_bytes_of}
use Rattle.thumb_table.specs.Names.{Defined, is_defined, meant, is_in_code, is_function, address_of, stands}
use Rattle.thumb_table.specs.Links.{Link, IsLink, leads_to_code, addend_of, sum_of, full, target_of as linked_target, is_other, is_in_range}
use Rattle.thumb_table.specs.Images.{CanLink}
use Rattle.sim_images.specs.ImageLaws.{AreObjects, Here}
use Rattle.sim_images.specs.Counterparts.{Places, IsMoved, IsCounterpart, AreAnswers, LeadsTo, IsFunctionAt, LeadsIntoCode, Answers, by_symbol, by_target, SameSense, zero_addend, IsAccepted}
use Rattle.sim_images.specs.PairLaws.{Moves, MeantAlike, ValuesMeet, number, address, branch}
use Rattle.thumb_table.proofs.PlainImages.{has_room}
use Rattle.sim_images.proofs.EachLinked.{has_part}
use Rattle.sim_images.proofs.NamesAlike.{names_meet}
use Rattle.sim_images.proofs.DataStay.{same_sort}
use Rattle.sim_images.proofs.Meant.{Stands, meant_stands, same_code}
use Rattle.sim_images.proofs.LinkNumbers.{InCode, own_value, own_target, full_is, target_is, stand_is, function_is, in_code}
use Rattle.sim_images.proofs.HomesAlike.{code_kept, goes_on, start_kept}
use Rattle.sim_images.proofs.ValuesAlike.{Room, inside_room, ranged, addend_is, Itself, itself, local_means, branch_code, branch_is, straight, thumb_is, own_word, own_branch, its_home}

-- what an addend makes of a symbol's value
abbrev made : ℕ → Bool → ℕ → ℕ
made a c n = cond c (even ((cond c (even n) n + a) % 2 ^ 32) + 1) ((cond c (even n) n + a) % 2 ^ 32)

module _ (ins outs : List ObjectParts) (at : Placement) (moved : ℕ → Places) (so : AreObjects ins) (sh : AreObjects outs) (answers : AreAnswers ins outs moved)
    (placement : IsPlacement at) (room : Room ins at) (space : Room outs at) where
  -- two symbols in code stand in one section, and a point of it went from x to y
  pub record Meets (d e : Defined) (x y : ℕ) : Type 0 where
    pub section : ℕ
    pub object : ObjectParts
    pub twin : ObjectParts
    pub part : Placed
    pub place : Placed
    pub was : Here ins at d.object object section part
    pub becomes : Here outs at d.object twin section place
    pub old : InCode (all_placed ins at) d section part
    pub new : InCode (all_placed outs at) e section place
    pub row : moved d.object section x ≡ Some y
    pub inside : x < part.section.size
    pub within : y < place.section.size
    pub level : y % 2 ≡ 0

  pub meets : (d e : Defined) → e.object ≡ d.object → (object twin : ObjectParts) → slice_get ins d.object ≡ Some object → slice_get outs d.object ≡ Some twin → (j : ℕ) (s : Section) → slice_get object.sections j ≡ Some s
      → is_code s ≡ true → d.symbol.home ≡ homes.Section j → e.symbol.home ≡ homes.Section j → (x y : ℕ) → moved d.object j x ≡ Some y → Meets d e x y
  meets d e file object twin there here j s section code hd he x y row =
      let a = has_part ins at d.object j object s there section (ap (λ (b : Bool). b || is_data s) code) in
      let same : a.0.section ≡ s = same_Some a.0.section s (sym a.1.section ∙ section) in
      let pc : is_code a.0.section ≡ true = ap (λ (z : Section). is_code z) same ∙ code in
      let b = goes_on ins outs at moved answers d.object object twin there here j a.0 a.1.part in
      let qc : is_code b.0.section ≡ true = same_sort a.0.section b.0.section b.2 ∙ pc in
      let one = inside_room ins at so placement room d.object j object a.0 a.1 pc in
      let two = inside_room outs at sh placement space d.object j twin b.0 b.1 qc in
      let sizes = answers.places d.object object twin there here j x y a.0.section b.0.section row a.1.section b.1.section in
      record {
        section = j;
        object = object;
        twin = twin;
        part = a.0;
        place = b.0;
        was = a.1;
        becomes = b.1;
        old = record { home = hd; part = a.1.part; code = pc; fours = one.0; low = one.1 };
        new = record { home = he; part = ap (λ (n : ℕ). part_of (all_placed outs at) n j) file ∙ b.1.part; code = qc; fours = two.0; low = two.1 };
        row = row;
        inside = sizes.0;
        within = sizes.1;
        level = sizes.2;
      }

  pub data Meeting (l m : Link) : Type 0 where
    outside : is_jump l.reloc.kind ≡ false → leads_to_code (all_placed ins at) l ≡ false → leads_to_code (all_placed outs at) m ≡ false → full (all_placed outs at) m ≡ full (all_placed ins at) l → Meeting l m
    words : (x y : ℕ) (h : Meets l.meant m.meant x y) → is_jump l.reloc.kind ≡ false → full (all_placed ins at) l ≡ (h.part.start + x) + 1 → full (all_placed outs at) m ≡ (h.place.start + y) + 1 → Meeting l m
    branches : (x y : ℕ) (h : Meets l.meant m.meant x y) → is_jump l.reloc.kind ≡ true → linked_target (all_placed ins at) l ≡ h.part.start + x → linked_target (all_placed outs at) m ≡ h.place.start + y → Meeting l m

  by_words : (l m : Link) (x y : ℕ) → Meets l.meant m.meant x y → is_jump l.reloc.kind ≡ false → x % 2 ≡ 0 → own_value l.meant (addend_of l) ≡ x + 1 → own_value m.meant (addend_of m) ≡ y + 1 → Meeting l m
  by_words l m x y h jump level a b =
      let inside : x < h.part.section.size = h.inside in
      let within : y < h.place.section.size = h.within in
      let even_y : y % 2 ≡ 0 = h.level in
      let lx : even (own_value l.meant (addend_of l)) < h.part.section.size = below (own_value l.meant (addend_of l)) x h.part.section.size a level inside in
      let ly : even (own_value m.meant (addend_of m)) < h.place.section.size = below (own_value m.meant (addend_of m)) y h.place.section.size b even_y within in
      words x y h jump (full_is (all_placed ins at) l h.section h.part h.old lx ∙ next h.part.start (own_value l.meant (addend_of l)) x a) (full_is (all_placed outs at) m h.section h.place h.new ly ∙ next h.place.start (own_value m.meant (addend_of m)) y b)
    where
      below : (n z size : ℕ) → n ≡ z + 1 → z % 2 ≡ 0 → z < size → even n < size
      below n z size e lev lt = omega arith

      next : (s n z : ℕ) → n ≡ z + 1 → s + n ≡ (s + z) + 1
      next s n z e = omega arith

  by_branches : (l m : Link) (x y : ℕ) → Meets l.meant m.meant x y → is_jump l.reloc.kind ≡ true → own_target l.meant (addend_of l) ≡ x → own_target m.meant (addend_of m) ≡ y → Meeting l m
  by_branches l m x y h jump a b =
      branches x y h jump
      (target_is (all_placed ins at) l h.section h.part h.old (subst (λ (n : ℕ). n < h.part.section.size) (sym a) h.inside) ∙ ap (λ (n : ℕ). h.part.start + n) a)
      (target_is (all_placed outs at) m h.section h.place h.new (subst (λ (n : ℕ). n < h.place.section.size) (sym b) h.within) ∙ ap (λ (n : ℕ). h.place.start + n) b)

  -- what two symbols mean
  pub record Pair (d e : Defined) : Type 0 where
    pub object : ObjectParts
    pub twin : ObjectParts
    pub there : slice_get ins d.object ≡ Some object
    pub here : slice_get outs d.object ≡ Some twin
    pub file : e.object ≡ d.object
    pub same : IsMoved object (moved d.object) d.symbol e.symbol

  pub pair_of : (d e : Defined) → MeantAlike ins outs moved d e → Stands ins d → Stands outs e → Pair d e
  pair_of d e alike st su =
      let one : st.object ≡ alike.object = same_Some st.object alike.object (sym st.there ∙ alike.there) in
      let two : su.object ≡ alike.twin = same_Some su.object alike.twin (sym su.there ∙ alike.here) in
      let s : alike.same.symbol ≡ d.symbol = same_Some alike.same.symbol d.symbol (sym alike.same.was ∙ subst (λ (o : ObjectParts). slice_get o.symbols d.index ≡ Some d.symbol) one st.symbol) in
      let t : alike.same.twin ≡ e.symbol = same_Some alike.same.twin e.symbol (sym alike.same.becomes ∙ subst (λ (o : ObjectParts). slice_get o.symbols e.index ≡ Some e.symbol) two su.symbol) in
      record {
        object = alike.object;
        twin = alike.twin;
        there = alike.there;
        here = ap (λ (n : ℕ). slice_get outs n) (sym alike.file) ∙ alike.here;
        file = alike.file;
        same = subst (λ (z : Symbol). IsMoved alike.object (moved d.object) d.symbol z) t (subst (λ (z : Symbol). IsMoved alike.object (moved d.object) z alike.same.twin) s alike.same.same);
      }

  pub linked_pair : (l m : Link) → IsLink ins at l → IsLink outs at m → m.file ≡ l.file → IsCounterpart l.object m.object (moved l.file) l.reloc.symbol m.reloc.symbol → MeantAlike ins outs moved l.meant m.meant × Pair l.meant m.meant
  linked_pair l m il im file c =
      let into : slice_get outs l.file ≡ Some m.object = ap (λ (n : ℕ). slice_get outs n) (sym file) ∙ im.object in
      let nm = names_meet ins outs moved so sh answers l.file l.reloc.symbol m.reloc.symbol l.object m.object l.symbol m.symbol l.meant il.object into c il.symbol im.symbol il.meant in
      let e : nm.0 ≡ m.meant = same_Some nm.0 m.meant (sym nm.1 ∙ (ap (λ (n : ℕ). meant outs n m.reloc.symbol m.symbol) (sym file) ∙ im.meant)) in
      let alike : MeantAlike ins outs moved l.meant m.meant = subst (λ (z : Defined). MeantAlike ins outs moved l.meant z) e nm.2 in
      (alike, pair_of l.meant m.meant alike (meant_stands ins l.file l.reloc.symbol l.object l.symbol l.meant il.object il.symbol il.meant) (meant_stands outs m.file m.reloc.symbol m.object m.symbol m.meant im.object im.symbol im.meant))

  -- both are in code or neither
  pub code_of : (d e : Defined) (p : Pair d e) → is_in_code (all_placed ins at) d.object d.symbol.home ≡ has_code p.object d.symbol.home
  code_of d e p = same_code ins at d.object p.object p.there d.symbol.home

  pub code_to : (d e : Defined) (p : Pair d e) → is_in_code (all_placed outs at) e.object e.symbol.home ≡ has_code p.object d.symbol.home
  code_to d e p =
      ap (λ (h : Home). is_in_code (all_placed outs at) e.object h) p.same.home
      ∙ (same_code outs at e.object p.twin (ap (λ (n : ℕ). slice_get outs n) p.file ∙ p.here) d.symbol.home ∙ code_kept p.object p.twin (answers.sections d.object p.object p.twin p.there p.here) d.symbol.home)

  -- outside of code a symbol stands where it did
  stands_still : (d e : Defined) (p : Pair d e) → has_code p.object d.symbol.home ≡ false
      → (is_function (all_placed ins at) d ≡ false) × (is_function (all_placed outs at) e ≡ false) × (stands (all_placed outs at) e ≡ stands (all_placed ins at) d)
  stands_still d e p out =
      let fd : is_function (all_placed ins at) d ≡ false = and_right (d.symbol.kind == func) (is_in_code (all_placed ins at) d.object d.symbol.home) (code_of d e p ∙ out) in
      let fe : is_function (all_placed outs at) e ≡ false = and_right (e.symbol.kind == func) (is_in_code (all_placed outs at) e.object e.symbol.home) (code_to d e p ∙ out) in
      let start : home_start (all_placed outs at) e.object e.symbol.home ≡ home_start (all_placed ins at) d.object d.symbol.home =
      ap (λ (n : ℕ). home_start (all_placed outs at) n e.symbol.home) p.file
      ∙ (ap (λ (h : Home). home_start (all_placed outs at) d.object h) p.same.home ∙ start_kept ins outs at moved answers d.object p.object p.twin p.there p.here d.symbol.home out) in
      let value : e.symbol.value ≡ d.symbol.value = p.same.stays out in
      let address : address_of (all_placed outs at) e ≡ address_of (all_placed ins at) d = omega arith in (
        fd,
        fe,
        cond-false (is_function (all_placed outs at) e) (even (address_of (all_placed outs at) e)) (address_of (all_placed outs at) e) fe
            ∙ (address ∙ sym (cond-false (is_function (all_placed ins at) d) (even (address_of (all_placed ins at) d)) (address_of (all_placed ins at) d) fd)),
      )

  symbol_outside : (l m : Link) (p : Pair l.meant m.meant) → has_code p.object l.meant.symbol.home ≡ false → is_in_range (all_placed ins at) l ≡ true → addend_of m ≡ addend_of l → Meeting l m
  symbol_outside l m p out range same =
      let fixed = stands_still l.meant m.meant p out in
      let no_code : leads_to_code (all_placed ins at) l ≡ false = code_of l.meant m.meant p ∙ out in
      let sum : sum_of (all_placed outs at) m ≡ sum_of (all_placed ins at) l =
      ap (λ (n : ℕ). (n + addend_of m) % 2 ^ 32) fixed.2 ∙ ap (λ (n : ℕ). (stands (all_placed ins at) l.meant + n) % 2 ^ 32) same in
      elim (cases_Bool (is_jump l.reloc.kind)) [
        | inl y ↦ absurd (both_ways (leads_to_code (all_placed ins at) l) no_code (branch_code (all_placed ins at) l (branch_is (all_placed ins at) l range y).inside))
        | inr n ↦
            outside n no_code (code_to l.meant m.meant p ∙ out)
            (cond-false (is_function (all_placed outs at) m.meant) (even (sum_of (all_placed outs at) m) + 1) (sum_of (all_placed outs at) m) fixed.1
            ∙ (sum ∙ sym (cond-false (is_function (all_placed ins at) l.meant) (even (sum_of (all_placed ins at) l) + 1) (sum_of (all_placed ins at) l) fixed.0)))
      ]

  -- a symbol's own bit 0, from the link's range or from what is accepted
  odd_value : (l : Link) (j : ℕ) (p : Placed) → InCode (all_placed ins at) l.meant j p → (l.meant.symbol.kind == func) ≡ false → addend_of l ≡ 0 → full (all_placed ins at) l % 2 ≡ 1 → l.meant.symbol.value % 2 ≡ 1
  odd_value l j p h plain zero odd =
      let s : stands (all_placed ins at) l.meant ≡ p.start + l.meant.symbol.value =
      stand_is (all_placed ins at) l.meant j p h ∙ ap (λ (n : ℕ). p.start + n) (cond-false (l.meant.symbol.kind == func) (even l.meant.symbol.value) l.meant.symbol.value plain) in
      let f : full (all_placed ins at) l ≡ sum_of (all_placed ins at) l =
      cond-false (is_function (all_placed ins at) l.meant) (even (sum_of (all_placed ins at) l) + 1) (sum_of (all_placed ins at) l) (function_is (all_placed ins at) l.meant j p h ∙ plain) in
      go (stands (all_placed ins at) l.meant) (addend_of l) p.start l.meant.symbol.value s zero h.fours (ap (λ (n : ℕ). n % 2) (sym f) ∙ odd)
    where
      go : (n a s v : ℕ) → n ≡ s + v → a ≡ 0 → s % 4 ≡ 0 → ((n + a) % 2 ^ 32) % 2 ≡ 1 → v % 2 ≡ 1
      go n a s v e z four o = omega arith

  level_value : (l : Link) (j : ℕ) (p : Placed) → InCode (all_placed ins at) l.meant j p → (l.meant.symbol.kind == func) ≡ false → addend_of l ≡ 2 ^ 32 - 4 → linked_target (all_placed ins at) l % 2 ≡ 0 → l.meant.symbol.value % 2 ≡ 0
  level_value l j p h plain zero level =
      let s : stands (all_placed ins at) l.meant ≡ p.start + l.meant.symbol.value =
      stand_is (all_placed ins at) l.meant j p h ∙ ap (λ (n : ℕ). p.start + n) (cond-false (l.meant.symbol.kind == func) (even l.meant.symbol.value) l.meant.symbol.value plain) in
      go (stands (all_placed ins at) l.meant) (addend_of l) p.start l.meant.symbol.value s zero h.fours level
    where
      go : (n a s v : ℕ) → n ≡ s + v → a ≡ 2 ^ 32 - 4 → s % 4 ≡ 0 → (((n + a) % 2 ^ 32) + 4) % 2 ^ 32 % 2 ≡ 0 → v % 2 ≡ 0
      go n a s v e z four o = omega arith

  odd_own : (l : Link) (j : ℕ) (p : Placed) → InCode (all_placed ins at) l.meant j p → IsLink ins at l → IsRight l.object l.number l.reloc → IsAccepted l.object → is_in_range (all_placed ins at) l ≡ true
      → is_jump l.reloc.kind ≡ false → leads_to_code (all_placed ins at) l ≡ true → addend_of l ≡ 0 → (l.meant.symbol.kind == func) ≡ false → l.meant.symbol.value % 2 ≡ 1
  odd_own l j p h il right accepted range jump code zero plain =
      elim (cases_Bool (is_other l)) [
        | inl y ↦ odd_value l j p h plain zero (thumb_is (all_placed ins at) l range jump y code)
        | inr n ↦
            let own = itself ins at l il n in
            let in_code : has_code l.object l.symbol.home ≡ true =
            sym (same_code ins at l.file l.object il.object l.symbol.home) ∙ (ap (λ (i : ℕ). is_in_code (all_placed ins at) i l.symbol.home) (sym own.file) ∙ (ap (λ (s : Symbol). is_in_code (all_placed ins at) l.meant.object s.home) (sym own.symbol) ∙ code)) in
            let odd = accepted l.number l.reloc l.symbol right il.symbol in_code jump in
            let plain_too : (l.symbol.kind == func) ≡ false = ap (λ (s : Symbol). s.kind == func) (sym own.symbol) ∙ plain in
            let z : addend (bytes_of l.object l.reloc.section) l.reloc ≡ 0 = sym (addend_is ins at l il) ∙ zero in
            ap (λ (s : Symbol). s.value % 2) own.symbol ∙ go (is_thumb l.object l.symbol) (ap (λ (b : Bool). b && has_code l.object l.symbol.home) plain_too) (addend (bytes_of l.object l.reloc.section) l.reloc) z l.symbol.value odd
      ]
    where
      go : (b : Bool) → b ≡ false → (a : ℕ) → a ≡ 0 → (v : ℕ) → cond b (even ((cond b (even v) v + a) % 2 ^ 32) + 1) ((cond b (even v) v + a) % 2 ^ 32) % 2 ≡ 1 → v % 2 ≡ 1
      go true e a z v o = absurd (both_ways true e refl)
      go false e a z v o = omega arith

  by_zero : (l m : Link) (p : Pair l.meant m.meant) → IsLink ins at l → IsLink outs at m → SameSense l.reloc m.reloc → IsRight l.object l.number l.reloc → IsAccepted l.object → is_in_range (all_placed ins at) l ≡ true
      → has_code p.object l.meant.symbol.home ≡ true → addend_of m ≡ addend_of l → addend_of l ≡ zero_addend l.reloc → Meeting l m
  by_zero l m p il im sense right accepted range code same zero =
      let home = its_home p.object l.meant.symbol.home code in
      let d : Defined = l.meant in
      let e : Defined = m.meant in
      let row : moved d.object home.0 (even d.symbol.value) ≡ Some (even e.symbol.value) = p.same.goes home.0 home.2 code in
      let h = meets d e p.file p.object p.twin p.there p.here home.0 home.1 home.3 home.4 home.2 (p.same.home ∙ home.2) (even d.symbol.value) (even e.symbol.value) row in
      let in_code : leads_to_code (all_placed ins at) l ≡ true = code_of d e p ∙ code in
      let bit : e.symbol.value % 2 ≡ d.symbol.value % 2 = p.same.bit in
      let kinds : (e.symbol.kind == func) ≡ (d.symbol.kind == func) = ap (λ (n : ℕ). n == func) p.same.kind in
      let low : h.part.start + h.part.section.size ≤ 0x7FFFF000 = h.old.low in
      let high : h.place.start + h.place.section.size ≤ 0x7FFFF000 = h.new.low in
      let inside : even d.symbol.value < h.part.section.size = h.inside in
      let within : even e.symbol.value < h.place.section.size = h.within in
      let lx : even d.symbol.value < 0x7FFFF000 = omega arith in
      let ly : even e.symbol.value < 0x7FFFF000 = omega arith in
      elim (cases_Bool (is_jump l.reloc.kind)) [
        | inl y ↦
            let a : addend_of l ≡ 2 ^ 32 - 4 = zero ∙ cond-true (is_jump l.reloc.kind) (2 ^ 32 - 4) 0 y in
            let level : (d.symbol.kind == func) ≡ false → d.symbol.value % 2 ≡ 0 = λ f. level_value l h.section h.part h.old f a (branch_is (all_placed ins at) l range y).level in
            by_branches l m (even d.symbol.value) (even e.symbol.value) h y (own_branch d (even d.symbol.value) (addend_of l) a refl lx level)
            (own_branch e (even e.symbol.value) (addend_of m) (same ∙ a) refl ly (λ f. bit ∙ level (sym kinds ∙ f)))
        | inr n ↦
            let a : addend_of l ≡ 0 = zero ∙ cond-false (is_jump l.reloc.kind) (2 ^ 32 - 4) 0 n in
            let odd : (d.symbol.kind == func) ≡ false → d.symbol.value % 2 ≡ 1 = λ f. odd_own l h.section h.part h.old il right accepted range n in_code a f in
            by_words l m (even d.symbol.value) (even e.symbol.value) h n (evens d.symbol.value) (own_word d (even d.symbol.value) (addend_of l) a refl lx odd)
            (own_word e (even e.symbol.value) (addend_of m) (same ∙ a) refl ly (λ f. bit ∙ odd (sym kinds ∙ f)))
      ]
    where
      evens : (n : ℕ) → even n % 2 ≡ 0
      evens n = omega arith

  -- by the same symbol
  symbol_meets : (l m : Link) → IsLink ins at l → IsLink outs at m → m.file ≡ l.file → SameSense l.reloc m.reloc → IsRight l.object l.number l.reloc → IsAccepted l.object → is_in_range (all_placed ins at) l ≡ true
      → IsCounterpart l.object m.object (moved l.file) l.reloc.symbol m.reloc.symbol → addend (bytes_of m.object m.reloc.section) m.reloc ≡ addend (bytes_of l.object l.reloc.section) l.reloc
      → (LeadsIntoCode l.object l.reloc → addend (bytes_of l.object l.reloc.section) l.reloc ≡ zero_addend l.reloc) → Meeting l m
  symbol_meets l m il im file sense right accepted range c adds zero =
      let p = (linked_pair l m il im file c).1 in
      let same : addend_of m ≡ addend_of l = addend_is outs at m im ∙ (adds ∙ sym (addend_is ins at l il)) in
      elim (cases_Bool (has_code p.object l.meant.symbol.home)) [
        | inr n ↦ symbol_outside l m p n range same
        | inl y ↦
            let code : leads_to_code (all_placed ins at) l ≡ true = code_of l.meant m.meant p ∙ y in
            elim (cases_Bool (is_other l)) [
              | inl o ↦ by_zero l m p il im sense right accepted range y same (straight (all_placed ins at) l range o (ap (λ (b : Bool). b || is_in_code (all_placed ins at) l.file l.symbol.home) code))
              | inr n ↦
                  let own = itself ins at l il n in
                  let in_code : has_code l.object l.symbol.home ≡ true =
                  sym (same_code ins at l.file l.object il.object l.symbol.home) ∙ (ap (λ (i : ℕ). is_in_code (all_placed ins at) i l.symbol.home) (sym own.file) ∙ (ap (λ (s : Symbol). is_in_code (all_placed ins at) l.meant.object s.home) (sym own.symbol) ∙ code)) in
                  by_zero l m p il im sense right accepted range y same (addend_is ins at l il ∙ zero (l.symbol, il.symbol, in_code))
            ]
      ]

  its_section : (o : ObjectParts) (j : ℕ) → has_code o (homes.Section j) ≡ true → (s : Section) × (slice_get o.sections j ≡ Some s) × (is_code s ≡ true)
  its_section o j y = go (slice_get o.sections j) refl y
    where
      go : (s : Option Section) → slice_get o.sections j ≡ s → holds_code s ≡ true → (s : Section) × (slice_get o.sections j ≡ Some s) × (is_code s ≡ true)
      go None e z = absurd (both_ways false refl z)
      go (Some s) e z = (s, e, z)

  -- the new relocation leads to a function of its own, where the old one led
  target_meets : (l m : Link) → IsLink ins at l → IsLink outs at m → m.file ≡ l.file → SameSense l.reloc m.reloc → IsRight l.object l.number l.reloc → IsAccepted l.object → is_in_range (all_placed ins at) l ≡ true
      → (j y : ℕ) → LeadsTo l.object (moved l.file) l.reloc j y → IsFunctionAt m.object m.reloc.symbol j y → addend (bytes_of m.object m.reloc.section) m.reloc ≡ zero_addend m.reloc → Meeting l m
  target_meets l m il im file sense right accepted range j y leads fn adds =
      let d : Defined = l.meant in
      let e : Defined = m.meant in
      let ls : leads.symbol ≡ l.symbol = same_Some leads.symbol l.symbol (sym leads.names ∙ il.symbol) in
      let fs : fn.symbol ≡ m.symbol = same_Some fn.symbol m.symbol (sym fn.names ∙ im.symbol) in
      let home : l.symbol.home ≡ homes.Section j = ap (λ (s : Symbol). s.home) (sym ls) ∙ leads.home in
      let home_m : m.symbol.home ≡ homes.Section j = ap (λ (s : Symbol). s.home) (sym fs) ∙ fn.home in
      let code : has_code l.object l.symbol.home ≡ true = ap (λ (s : Symbol). has_code l.object s.home) (sym ls) ∙ leads.code in
      let in_code : is_in_code (all_placed ins at) l.file l.symbol.home ≡ true = same_code ins at l.file l.object il.object l.symbol.home ∙ code in
      let own : Itself l = elim (leads.turned) [
        | inl bind ↦ local_means ins at l il (ap (λ (s : Symbol). s.bind) (sym ls) ∙ bind) (ap (λ (h : Home). is_defined h) home)
        | inr other ↦ elim (cases_Bool (is_other l)) [
          | inl o ↦ absurd (other (sym (addend_is ins at l il) ∙ straight (all_placed ins at) l range o (or_right (leads_to_code (all_placed ins at) l) (is_in_code (all_placed ins at) l.file l.symbol.home) in_code)))
          | inr n ↦ itself ins at l il n
        ]
      ] in
      let twin : Itself m = local_means outs at m im (ap (λ (s : Symbol). s.bind) (sym fs) ∙ fn.own) (ap (λ (h : Home). is_defined h) home_m) in
      let sec = its_section l.object j (ap (λ (h : Home). has_code l.object h) (sym home) ∙ code) in
      let there : slice_get ins d.object ≡ Some l.object = ap (λ (n : ℕ). slice_get ins n) own.file ∙ il.object in
      let here : slice_get outs d.object ≡ Some m.object = ap (λ (n : ℕ). slice_get outs n) (own.file ∙ sym file) ∙ im.object in
      let same_file : e.object ≡ d.object = twin.file ∙ (file ∙ sym own.file) in
      let hd : d.symbol.home ≡ homes.Section j = ap (λ (s : Symbol). s.home) own.symbol ∙ home in
      let he : e.symbol.home ≡ homes.Section j = ap (λ (s : Symbol). s.home) twin.symbol ∙ home_m in
      let goes : moved d.object j (cond (is_jump l.reloc.kind) (target_of l.object l.reloc l.symbol) (even (value_of l.object l.reloc l.symbol))) ≡ Some y =
      ap (λ (n : ℕ). moved n j (cond (is_jump l.reloc.kind) (target_of l.object l.reloc l.symbol) (even (value_of l.object l.reloc l.symbol)))) own.file
      ∙ (ap (λ (s : Symbol). moved l.file j (cond (is_jump l.reloc.kind) (target_of l.object l.reloc s) (even (value_of l.object l.reloc s)))) (sym ls) ∙ leads.goes) in
      let thumb : is_thumb l.object l.symbol ≡ (d.symbol.kind == func) =
      ap (λ (b : Bool). (l.symbol.kind == func) && b) code ∙ (and_yes (l.symbol.kind == func) ∙ ap (λ (s : Symbol). s.kind == func) (sym own.symbol)) in
      let value : d.symbol.value ≡ l.symbol.value = ap (λ (s : Symbol). s.value) own.symbol in
      let added : addend_of l ≡ addend (bytes_of l.object l.reloc.section) l.reloc = addend_is ins at l il in
      let kind_m : (e.symbol.kind == func) ≡ true = eq-eqb e.symbol.kind func (ap (λ (s : Symbol). s.kind) (twin.symbol ∙ sym fs) ∙ fn.function) in
      let value_m : e.symbol.value ≡ y + 1 = ap (λ (s : Symbol). s.value) (twin.symbol ∙ sym fs) ∙ fn.value in
      elim (cases_Bool (is_jump l.reloc.kind)) [
        | inl jump ↦
            let x : ℕ = target_of l.object l.reloc l.symbol in
            let row : moved d.object j x ≡ Some y = ap (λ (n : ℕ). moved d.object j n) (sym (cond-true (is_jump l.reloc.kind) (target_of l.object l.reloc l.symbol) (even (value_of l.object l.reloc l.symbol)) jump)) ∙ goes in
            let h = meets d e same_file l.object m.object there here j sec.0 sec.1 sec.2 hd he x y row in
            let high : h.place.start + h.place.section.size ≤ 0x7FFFF000 = h.new.low in
            let within : y < h.place.section.size = h.within in
            let ly : y < 0x7FFFF000 = omega arith in
            let level : y % 2 ≡ 0 = h.level in
            let b : addend_of m ≡ 2 ^ 32 - 4 = addend_is outs at m im ∙ (adds ∙ cond-true (is_jump m.reloc.kind) (2 ^ 32 - 4) 0 (sense.jump ∙ jump)) in
            by_branches l m x y h jump
            (ap (λ (a : ℕ). own_target d a) added ∙ (ap (λ (v : ℕ). (cond (d.symbol.kind == func) (even v) v + addend (bytes_of l.object l.reloc.section) l.reloc + 4) % 2 ^ 32) value
            ∙ ap (λ (c : Bool). (cond c (even l.symbol.value) l.symbol.value + addend (bytes_of l.object l.reloc.section) l.reloc + 4) % 2 ^ 32) (sym thumb)))
            (own_branch e y (addend_of m) b (whole e.symbol.value y value_m level) ly (λ f. absurd (both_ways (e.symbol.kind == func) f kind_m)))
        | inr word ↦
            let v : ℕ = value_of l.object l.reloc l.symbol in
            let row : moved d.object j (even v) ≡ Some y = ap (λ (n : ℕ). moved d.object j n) (sym (cond-false (is_jump l.reloc.kind) (target_of l.object l.reloc l.symbol) (even (value_of l.object l.reloc l.symbol)) word)) ∙ goes in
            let h = meets d e same_file l.object m.object there here j sec.0 sec.1 sec.2 hd he (even v) y row in
            let high : h.place.start + h.place.section.size ≤ 0x7FFFF000 = h.new.low in
            let within : y < h.place.section.size = h.within in
            let ly : y < 0x7FFFF000 = omega arith in
            let level : y % 2 ≡ 0 = h.level in
            let b : addend_of m ≡ 0 = addend_is outs at m im ∙ (adds ∙ cond-false (is_jump m.reloc.kind) (2 ^ 32 - 4) 0 (sense.jump ∙ word)) in
            let odd : v % 2 ≡ 1 = accepted l.number l.reloc l.symbol right il.symbol code word in
            by_words l m (even v) y h word (evened v)
            (ap (λ (a : ℕ). own_value d a) added ∙ (ap (λ (n : ℕ). made (addend (bytes_of l.object l.reloc.section) l.reloc) (d.symbol.kind == func) n) value ∙ (ap (λ (c : Bool). made (addend (bytes_of l.object l.reloc.section) l.reloc) c l.symbol.value) (sym thumb) ∙ next v odd)))
            (own_word e y (addend_of m) b (whole e.symbol.value y value_m level) ly (λ f. odd_one e.symbol.value y value_m level))
      ]
    where
      and_yes : (b : Bool) → (b && true) ≡ b
      and_yes true = refl
      and_yes false = refl

      evened : (n : ℕ) → even n % 2 ≡ 0
      evened n = omega arith

      next : (n : ℕ) → n % 2 ≡ 1 → n ≡ even n + 1
      next n o = omega arith

      whole : (n z : ℕ) → n ≡ z + 1 → z % 2 ≡ 0 → z ≡ even n
      whole n z a b = omega arith

      odd_one : (n z : ℕ) → n ≡ z + 1 → z % 2 ≡ 0 → n % 2 ≡ 1
      odd_one n z a b = omega arith

  pub links_meet : ((i : ℕ) (o : ObjectParts) → slice_get ins i ≡ Some o → IsAccepted o) → CanLink ins at → (l m : Link) → IsLink ins at l → IsLink outs at m → m.file ≡ l.file → SameSense l.reloc m.reloc
      → Answers l.object m.object (moved l.file) l.reloc m.reloc → Meeting l m
  links_meet accepted can l m il im file sense answer =
      let right : IsRight l.object l.number l.reloc = can.right l.file l.number l.object l.reloc (record { object = il.object; reloc = il.reloc }) in
      let ok = accepted l.file l.object il.object in
      let range = ranged ins at can l il in
      elim answer [
        | by_symbol c adds zero ↦ symbol_meets l m il im file sense right ok range c adds zero
        | by_target j y leads fn adds ↦ target_meets l m il im file sense right ok range j y leads fn adds
      ]

  pub moves : (d e : Defined) (x y : ℕ) (h : Meets d e x y) (a b : ℕ) → a ≡ h.part.start + x → b ≡ h.place.start + y → Moves ins outs at moved a b
  moves d e x y h a b f g = record {
    file = d.object;
    section = h.section;
    old = x;
    new = y;
    object = h.object;
    twin = h.twin;
    part = h.part;
    place = h.place;
    was = h.was;
    becomes = h.becomes;
    row = h.row;
    from = f;
    to = g;
  }

-- what the plain list leaves of room
pub room_of : (objects : List ObjectParts) (at : Placement) → CanLink objects at → Room objects at
room_of objects at can =
    let room = has_room objects at can in
    let last : at.base + at.room + length (data_bytes_of objects at) ≤ 0x7FFFF000 = room.last in
    record { low = omega arith; fits = room.code }

pub values_meet : ValuesMeet
values_meet ins outs at moved image hard so sh answers accepted is other l m il im file sense answer =
    let room = room_of ins at is.can in
    let space = room_of outs at other.can in
    elim (links_meet ins outs at moved so sh answers is.placement room space accepted is.can l m il im file sense answer) [
      | outside jump a b same ↦ number jump a b same
      | words x y h jump a b ↦
          address (h.part.start + x) (h.place.start + y) jump (in_code (all_placed ins at) l.meant.object h.section l.meant.symbol.home h.part h.old.home h.old.part h.old.code)
          (in_code (all_placed outs at) m.meant.object h.section m.meant.symbol.home h.place h.new.home h.new.part h.new.code) a b
          (moves ins outs at moved so sh answers is.placement room space l.meant m.meant x y h (h.part.start + x) (h.place.start + y) refl refl)
      | branches x y h jump a b ↦
          branch jump (moves ins outs at moved so sh answers is.placement room space l.meant m.meant x y h (linked_target (all_placed ins at) l) (linked_target (all_placed outs at) m) a b)
    ]
