-- Links of the plain list lead to entries: an address of code that one makes is that of an entry, and a branch that leaves its
-- section, or goes by a symbol that other objects see, leads to one.
use Rattle.std.specs.Prelude.{◌≡◌, ◌<◌, ◌≤◌, ℕ, ◌+◌, ◌-◌, ◌%◌, ◌^◌, ◌==◌, ◌&&◌, ◌||◌, not, Bool, true, false, cond, List, Some, slice_get, refl}
use Rattle.std.proofs.Common.{arith, inl, inr, ap, sym, ◌∙◌, subst}
use Rattle.std.proofs.lemmas.Bool.{cases_Bool, both_ways, and_from, or_right, eq-eqb, cond-true, cond-false, false_from_ne_true, eqb-true}
use Rattle.std.proofs.lemmas.Option.{same_Some, slice_get_within}
use Rattle.elf_model.specs.declared.objects.Section.{Section}
use Rattle.elf_model.specs.declared.objects.Symbol.{Symbol}
use Rattle.elf_model.specs.declared.objects.Home.TheVariants as homes
use Rattle.elf_model.specs.Constants.{local, func}
use Rattle.elf_model.specs.Objects.{ObjectParts, is_code, is_data, even}
use Rattle.elf_model.proofs.Elements.{element_at, place_of}
use Rattle.elf_model.proofs.Lists.{get_map}
use Rattle.reloc_places.specs.Starts.{bytes_of}
use Rattle.reloc_places.specs.Relocations.{is_jump, addend, is_in_code as has_code, is_thumb, value_of, target_of, IsRight}
use Rattle.reloc_places.proofs.StartFacts.{start_before}
use Rattle.thumb_table.specs.declared.placements.Placement.{Placement}
use Rattle.thumb_table.specs.Parts.{Image}
use Rattle.thumb_table.specs.Layouts.{Placed, all_placed}
use Rattle.thumb_table.specs.Names.{is_in_code}
use Rattle.thumb_table.specs.Links.{Link, IsLink, leads_to_code, addend_of, sum_of, full, target_of as linked_target, is_other, is_in_range}
use Rattle.flow_recover.specs.Flows.{FlowParts}
use Rattle.flow_recover.specs.Aims.{is_entry, by_symbol, by_address, by_branch}
use Rattle.flow_recover.specs.Reach.{node_at}
use Rattle.flow_recover.specs.WholeFlows.{IsEntry, named, IsFlow}
use Rattle.sim_charts.specs.Charts.{Chart, Point}
use Rattle.sim_images.specs.ImageLaws.{Here}
use Rattle.sim_images.proofs.EachLinked.{has_part}
use Rattle.sim_images.proofs.Meant.{meant_stands, meant_cases, same_code}
use Rattle.sim_images.proofs.LinkNumbers.{InCode, own_place, own_value, own_target, full_is, target_is, stand_is, function_is}
use Rattle.sim_images.proofs.ValuesAlike.{inside_room, addend_is, ranged, Itself, itself, branch_code, branch_is, straight, thumb_is, its_home}
use Rattle.sim_images.proofs.LinksMeet.{room_of}
use Rattle.sim_answers.proofs.Accepted.{makes_address, flows_are_accepted}
use Rattle.sim_objects.specs.Lists.{Pairing, plains, HaveImages}
use Rattle.sim_objects.specs.Charts.{start_at, IsChartOf}
use Rattle.sim_objects.specs.Moving.{Enters, LinksEnter}
use Rattle.sim_objects.proofs.Parts.{start_is}
use Rattle.sim_objects.proofs.Moving.{one_point, pair_of, goes_there, entry_there}

-- an entry lies in its section
entry_inside : (o : ObjectParts) (f : FlowParts) → IsFlow o f → (j x : ℕ) (s : Section) → IsEntry o j x → slice_get o.sections j ≡ Some s → x < s.size
entry_inside o f flow j x s entry there =
    let k = place_of flow.nodes (node_at j x) (flow.entered j x entry) in
    let y = element_at f.points k.0 (subst (λ (m : ℕ). k.0 < m) (sym flow.count) (slice_get_within flow.nodes k.0 (node_at j x) k.1)) in
    let found = (flow.points k.0 (node_at j x) y.0 k.1 y.1).instr in
    let same : found.start.range.section ≡ s = same_Some found.start.range.section s (sym found.start.range.is_there ∙ there) in
    let below : x < found.end = start_before (bytes_of o j) found.start.start found.end x found.start.is_start in
    let inside : found.end ≤ found.start.range.section.size = found.start.range.inside in
    let size : found.start.range.section.size ≡ s.size = ap (λ (z : Section). z.size) same in
    omega (arith, below, inside, size)

-- numbers of a symbol at v in a section that starts at s, which leads to itself
odd_word : (b : Bool) (s v size n : ℕ) → s % 4 ≡ 0 → s + size ≤ 0x7FFFF000 → even v < size
    → n ≡ cond b (even ((s + cond b (even v) v + 0) % 2 ^ 32) + 1) ((s + cond b (even v) v + 0) % 2 ^ 32) → n % 2 ≡ 1 → n ≡ (s + even v) + 1
odd_word true s v size n four low less e odd = omega (arith, four, low, less, e, odd)
odd_word false s v size n four low less e odd = omega (arith, four, low, less, e, odd)

even_target : (b : Bool) (s v size n : ℕ) → s % 4 ≡ 0 → s + size ≤ 0x7FFFF000 → even v < size
    → n ≡ ((s + cond b (even v) v + (2 ^ 32 - 4)) % 2 ^ 32 + 4) % 2 ^ 32 → n % 2 ≡ 0 → n ≡ s + even v
even_target true s v size n four low less e level = omega (arith, four, low, less, e, level)
even_target false s v size n four low less e level = omega (arith, four, low, less, e, level)

-- what an addend makes of a symbol's value
abbrev made : ℕ → Bool → ℕ → ℕ
made a c n = cond c (even ((cond c (even n) n + a) % 2 ^ 32) + 1) ((cond c (even n) n + a) % 2 ^ 32)

module _ (F c K : ℕ) (pairs : List (Pairing F c K)) (at : Placement) (plain hard : Image) (images : HaveImages F c K pairs at plain hard) (chart : Chart) (is : IsChartOf F c K pairs at chart)
    (l : Link) (il : IsLink (plains pairs) at l) where
  -- where the symbol is that it stands for
  pub record IsMeant : Type 0 where
    pub pairing : Pairing F c K
    pub is_pair : slice_get pairs l.meant.object ≡ Some pairing
    pub symbol : slice_get pairing.plain.symbols l.meant.index ≡ Some l.meant.symbol
    pub section : ℕ
    pub home : l.meant.symbol.home ≡ homes.Section section
    pub code : has_code pairing.plain l.meant.symbol.home ≡ true
    pub part : Placed
    pub here : Here (plains pairs) at l.meant.object pairing.plain section part
    pub in_code : InCode (all_placed (plains pairs) at) l.meant section part

  pub range : is_in_range (all_placed (plains pairs) at) l ≡ true
  range = ranged (plains pairs) at images.image.can l il

  pub right : IsRight l.object l.number l.reloc
  right = images.image.can.right l.file l.number l.object l.reloc (record { object = il.object; reloc = il.reloc })

  pub meant_there : leads_to_code (all_placed (plains pairs) at) l ≡ true → IsMeant
  meant_there leads =
      let st = meant_stands (plains pairs) l.file l.reloc.symbol l.object l.symbol l.meant il.object il.symbol il.meant in
      let q = pair_of F c K pairs at l.meant.object st.object st.there in
      let there : slice_get (plains pairs) l.meant.object ≡ Some q.0.plain = get_map (λ (z : Pairing F c K). z.plain) pairs l.meant.object q.0 q.1 in
      let code : has_code q.0.plain l.meant.symbol.home ≡ true = sym (same_code (plains pairs) at l.meant.object q.0.plain there l.meant.symbol.home) ∙ leads in
      let home = its_home q.0.plain l.meant.symbol.home code in
      let part = has_part (plains pairs) at l.meant.object home.0 q.0.plain home.1 there home.3 (ap (λ (b : Bool). b || is_data home.1) home.4) in
      let same : part.0.section ≡ home.1 = same_Some part.0.section home.1 (sym part.1.section ∙ home.3) in
      let in_code : is_code part.0.section ≡ true = ap (λ (s : Section). is_code s) same ∙ home.4 in
      let low = inside_room (plains pairs) at images.objects images.image.placement (room_of (plains pairs) at images.image.can) l.meant.object home.0 q.0.plain part.0 part.1 in_code in
      record {
        pairing = q.0;
        is_pair = q.1;
        symbol = subst (λ (o : ObjectParts). slice_get o.symbols l.meant.index ≡ Some l.meant.symbol) (sym q.2) st.symbol;
        section = home.0;
        home = home.2;
        code = code;
        part = part.0;
        here = part.1;
        in_code = record { home = home.2; part = part.1.part; code = in_code; fours = low.0; low = low.1 };
      }

  module _ (m : IsMeant) where
    -- an entry of the object that the symbol is of
    enters : (x n : ℕ) → IsEntry m.pairing.plain m.section x → n ≡ m.part.start + x → Enters chart n
    enters x n entry e =
        let z = entry_there F c K pairs at chart is l.meant.object m.section x m.pairing m.is_pair entry in
        let start : start_at (plains pairs) at l.meant.object m.section ≡ m.part.start = start_is (plains pairs) at l.meant.object m.section m.pairing.plain m.part m.here in
        (z.0, ap chart (e ∙ ap (λ (k : ℕ). k + x) (sym start)) ∙ z.1, z.2)

    lies : (x : ℕ) → IsEntry m.pairing.plain m.section x → x < m.part.section.size
    lies x entry = entry_inside m.pairing.plain m.pairing.pair.flow m.pairing.pair.accepted.flow m.section x m.part.section entry m.here.section

    -- a symbol that stands for another one
    outer : is_other l ≡ true → l.meant.symbol.bind ≡ local → ⊥
    outer other bind =
        elim (meant_cases (plains pairs) l.file l.reloc.symbol l.symbol l.meant il.meant) [
          | inl own ↦
              let one = eq-eqb l.meant.object l.file own.2 in
              let two = eq-eqb l.meant.index l.reloc.symbol own.3 in
              both_ways (is_other l) (ap not (and_from (l.meant.object == l.file) (l.meant.index == l.reloc.symbol) one two)) other
          | inr is_outer ↦ is_outer.outer bind
        ]

    other_entry : is_other l ≡ true → IsEntry m.pairing.plain m.section (even l.meant.symbol.value)
    other_entry other =
        let bind : (l.meant.symbol.bind == local) ≡ false = false_from_ne_true (l.meant.symbol.bind == local) (λ y. outer other (eqb-true l.meant.symbol.bind local y)) in
        let entry : is_entry l.meant.symbol ≡ true = or_right (l.meant.symbol.kind == func) (not (l.meant.symbol.bind == local)) (ap not bind) in
        named m.section (even l.meant.symbol.value) (by_symbol l.meant.index l.meant.symbol m.symbol m.home m.code entry refl refl refl)

    sum_is : (a : ℕ) → addend_of l ≡ a → sum_of (all_placed (plains pairs) at) l ≡ (m.part.start + own_place l.meant + a) % 2 ^ 32
    sum_is a e =
        ap (λ (n : ℕ). (n + addend_of l) % 2 ^ 32) (stand_is (all_placed (plains pairs) at) l.meant m.section m.part m.in_code) ∙ ap (λ (n : ℕ). (m.part.start + own_place l.meant + n) % 2 ^ 32) e

    other_word : is_jump l.reloc.kind ≡ false → is_other l ≡ true → leads_to_code (all_placed (plains pairs) at) l ≡ true → full (all_placed (plains pairs) at) l ≡ (m.part.start + even l.meant.symbol.value) + 1
    other_word word other leads =
        let parts = all_placed (plains pairs) at in
        let f : Bool = l.meant.symbol.kind == func in
        let zero = straight parts l range other (ap (λ (b : Bool). b || is_in_code parts l.file l.symbol.home) leads) ∙ cond-false (is_jump l.reloc.kind) (2 ^ 32 - 4) 0 word in
        let e : full parts l ≡ cond f (even ((m.part.start + own_place l.meant + 0) % 2 ^ 32) + 1) ((m.part.start + own_place l.meant + 0) % 2 ^ 32) =
        ap (λ (b : Bool). cond b (even (sum_of parts l) + 1) (sum_of parts l)) (function_is parts l.meant m.section m.part m.in_code) ∙ ap (λ (n : ℕ). cond f (even n + 1) n) (sum_is 0 zero) in
        odd_word f m.part.start l.meant.symbol.value m.part.section.size (full parts l) m.in_code.fours m.in_code.low (lies (even l.meant.symbol.value) (other_entry other)) e (thumb_is parts l range word other leads)

    other_branch : is_jump l.reloc.kind ≡ true → is_other l ≡ true → leads_to_code (all_placed (plains pairs) at) l ≡ true → linked_target (all_placed (plains pairs) at) l ≡ m.part.start + even l.meant.symbol.value
    other_branch jump other leads =
        let parts = all_placed (plains pairs) at in
        let f : Bool = l.meant.symbol.kind == func in
        let last = straight parts l range other (ap (λ (b : Bool). b || is_in_code parts l.file l.symbol.home) leads) ∙ cond-true (is_jump l.reloc.kind) (2 ^ 32 - 4) 0 jump in
        let e : linked_target parts l ≡ ((m.part.start + own_place l.meant + (2 ^ 32 - 4)) % 2 ^ 32 + 4) % 2 ^ 32 = ap (λ (n : ℕ). (n + 4) % 2 ^ 32) (sum_is (2 ^ 32 - 4) last) in
        even_target f m.part.start l.meant.symbol.value m.part.section.size (linked_target parts l) m.in_code.fours m.in_code.low (lies (even l.meant.symbol.value) (other_entry other)) e (branch_is parts l range jump).level

    -- a symbol that stands for itself
    module _ (own : Itself l) where
      pub own_object : m.pairing.plain ≡ l.object
      own_object =
          same_Some m.pairing.plain l.object
          (sym (get_map (λ (z : Pairing F c K). z.plain) pairs l.meant.object m.pairing m.is_pair) ∙ (ap (λ (n : ℕ). slice_get (plains pairs) n) own.file ∙ il.object))

      pub own_home : l.symbol.home ≡ homes.Section m.section
      own_home = ap (λ (s : Symbol). s.home) (sym own.symbol) ∙ m.home

      pub own_code : has_code l.object l.symbol.home ≡ true
      own_code = ap (λ (o : ObjectParts). has_code o l.symbol.home) (sym own_object) ∙ (ap (λ (s : Symbol). has_code m.pairing.plain s.home) (sym own.symbol) ∙ m.code)

      thumb : is_thumb l.object l.symbol ≡ (l.meant.symbol.kind == func)
      thumb = ap (λ (b : Bool). (l.symbol.kind == func) && b) own_code ∙ (and_yes (l.symbol.kind == func) ∙ ap (λ (s : Symbol). s.kind == func) (sym own.symbol))
        where
          and_yes : (b : Bool) → (b && true) ≡ b
          and_yes true = refl
          and_yes false = refl

      added : addend_of l ≡ addend (bytes_of l.object l.reloc.section) l.reloc
      added = addend_is (plains pairs) at l il

      value : l.meant.symbol.value ≡ l.symbol.value
      value = ap (λ (s : Symbol). s.value) own.symbol

      own_value_is : own_value l.meant (addend_of l) ≡ value_of l.object l.reloc l.symbol
      own_value_is =
          ap (λ (a : ℕ). own_value l.meant a) added
          ∙ (ap (λ (n : ℕ). made (addend (bytes_of l.object l.reloc.section) l.reloc) (l.meant.symbol.kind == func) n) value
          ∙ ap (λ (c : Bool). made (addend (bytes_of l.object l.reloc.section) l.reloc) c l.symbol.value) (sym thumb))

      own_target_is : own_target l.meant (addend_of l) ≡ target_of l.object l.reloc l.symbol
      own_target_is =
          ap (λ (a : ℕ). own_target l.meant a) added
          ∙ (ap (λ (v : ℕ). (cond (l.meant.symbol.kind == func) (even v) v + addend (bytes_of l.object l.reloc.section) l.reloc + 4) % 2 ^ 32) value
          ∙ ap (λ (c : Bool). (cond c (even l.symbol.value) l.symbol.value + addend (bytes_of l.object l.reloc.section) l.reloc + 4) % 2 ^ 32) (sym thumb))

      -- where a branch leads
      pub own_branch : target_of l.object l.reloc l.symbol < m.part.section.size → linked_target (all_placed (plains pairs) at) l ≡ m.part.start + target_of l.object l.reloc l.symbol
      own_branch less =
          target_is (all_placed (plains pairs) at) l m.section m.part m.in_code (subst (λ (n : ℕ). n < m.part.section.size) (sym own_target_is) less)
          ∙ ap (λ (n : ℕ). m.part.start + n) own_target_is

      pub own_entry : (x : ℕ) → IsEntry l.object m.section x → IsEntry m.pairing.plain m.section x
      own_entry x entry = subst (λ (o : ObjectParts). IsEntry o m.section x) (sym own_object) entry

      pub branch_enters_own : IsEntry l.object m.section (target_of l.object l.reloc l.symbol) → Enters chart (linked_target (all_placed (plains pairs) at) l)
      branch_enters_own entry =
          let e = own_entry (target_of l.object l.reloc l.symbol) entry in
          enters (target_of l.object l.reloc l.symbol) (linked_target (all_placed (plains pairs) at) l) e (own_branch (lies (target_of l.object l.reloc l.symbol) e))

      word_enters_own : is_jump l.reloc.kind ≡ false → (e : ℕ) × (full (all_placed (plains pairs) at) l ≡ e + 1) × Enters chart e
      word_enters_own word =
          let v : ℕ = value_of l.object l.reloc l.symbol in
          let entry : IsEntry l.object m.section (even v) = named l.reloc.section l.reloc.offset
          (by_address l.reloc l.symbol (record { index = l.number; right = right; kind = makes_address l.object l.reloc right.place word; names = il.symbol; home = own_home; code = own_code }) refl refl refl) in
          let e = own_entry (even v) entry in
          let flow : IsFlow l.object m.pairing.pair.flow = subst (λ (o : ObjectParts). IsFlow o m.pairing.pair.flow) own_object m.pairing.pair.accepted.flow in
          let odd : v % 2 ≡ 1 = flows_are_accepted l.object m.pairing.pair.flow flow l.number l.reloc l.symbol right il.symbol own_code word in
          let less : even (own_value l.meant (addend_of l)) < m.part.section.size = subst (λ (n : ℕ). even n < m.part.section.size) (sym own_value_is) (lies (even v) e) in
          let n : full (all_placed (plains pairs) at) l ≡ m.part.start + v = full_is (all_placed (plains pairs) at) l m.section m.part m.in_code less ∙ ap (λ (k : ℕ). m.part.start + k) own_value_is in
          (m.part.start + even v, n ∙ next m.part.start v odd, enters (even v) (m.part.start + even v) e refl)
        where
          next : (s v : ℕ) → v % 2 ≡ 1 → s + v ≡ (s + even v) + 1
          next s v odd = omega (arith, odd)

  -- an address of code is that of an entry
  pub word_enters : is_jump l.reloc.kind ≡ false → leads_to_code (all_placed (plains pairs) at) l ≡ true → (e : ℕ) × (full (all_placed (plains pairs) at) l ≡ e + 1) × Enters chart e
  word_enters word leads =
      let m = meant_there leads in
      elim (cases_Bool (is_other l)) [
        | inl other ↦ (m.part.start + even l.meant.symbol.value, other_word m word other leads, enters m (even l.meant.symbol.value) (m.part.start + even l.meant.symbol.value) (other_entry m other) refl)
        | inr n ↦ word_enters_own m (itself (plains pairs) at l il n) word
      ]

  -- a branch leads to code
  pub branch_leads : is_jump l.reloc.kind ≡ true → leads_to_code (all_placed (plains pairs) at) l ≡ true
  branch_leads jump = branch_code (all_placed (plains pairs) at) l (branch_is (all_placed (plains pairs) at) l range jump).inside

  -- and to an entry, where it does if its symbol is one of its own section
  pub branch_enters : is_jump l.reloc.kind ≡ true → (Itself l → l.symbol.home ≡ homes.Section l.reloc.section → IsEntry l.object l.reloc.section (target_of l.object l.reloc l.symbol))
      → Enters chart (linked_target (all_placed (plains pairs) at) l)
  branch_enters jump near =
      let leads = branch_leads jump in
      let m = meant_there leads in
      elim (cases_Bool (is_other l)) [
        | inl other ↦ enters m (even l.meant.symbol.value) (linked_target (all_placed (plains pairs) at) l) (other_entry m other) (other_branch m jump other leads)
        | inr n ↦
            let own = itself (plains pairs) at l il n in
            branch_enters_own m own (elim (cases_Bool (m.section == l.reloc.section)) [
              | inl y ↦
                  let same : m.section ≡ l.reloc.section = eqb-true m.section l.reloc.section y in
                  subst (λ (j : ℕ). IsEntry l.object j (target_of l.object l.reloc l.symbol)) (sym same) (near own (own_home m own ∙ ap (λ (j : ℕ). homes.Section j) same))
              | inr apart ↦ named l.reloc.section l.reloc.offset (by_branch l.number l.reloc l.symbol right jump il.symbol (own_home m own) apart refl refl refl)
            ])
      ]

pub links_enter : LinksEnter
links_enter F c K pairs at plain hard chart images is l il word leads a b e goes =
    let h = word_enters F c K pairs at plain hard images chart is l il word leads in
    let same : h.0 ≡ a = one (full (all_placed (plains pairs) at) l) h.0 a h.1 e in
    let p = goes_there F c K pairs at chart is a b goes in
    let one = one_point chart a h.2.0 p.0 (ap chart (sym same) ∙ h.2.1) p.1 in
    (a, p.0, p.1, sym (ap (λ (z : Point). z.entry) one) ∙ h.2.2, refl, ap (λ (k : ℕ). k + 1) p.2)
  where
    one : (n x y : ℕ) → n ≡ x + 1 → n ≡ y + 1 → x ≡ y
    one n x y e f = omega (arith, e, f)
