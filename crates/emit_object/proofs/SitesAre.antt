-- The relocations that are made at the sites of an object and a layout are those of the hardened object.
use Rattle.std.proofs.Common.{◌≡◌, ◌↔◌, ℕ, ◌+◌, ◌-◌, Bool, true, false, cond, List, map, filter, inl, inr, refl, sym, ap, ◌∙◌, subst, arith, Option, Some, None}
use Rattle.std.specs.Prelude.{slice_get, Contains, not, nat_le, IsPermutation}
use Rattle.std.specs.Option.{option_map, option_map_or}
use Rattle.std.specs.List.{zip}
use Rattle.std.specs.List.Sorted.{IsSortedByKey}
use Rattle.std.proofs.lemmas.Bool.{true≢false, cases_Bool}
use Rattle.std.proofs.lemmas.List.Elements.{Contains-append_left, Contains-append_right, Contains-append_cases}
use Rattle.std.proofs.lemmas.List.Sorted.{Contains-permutation, IsPermutation-sym}
use Rattle.std.proofs.lemmas.Option.{none-some, same_Some, slice_get-map}
use Rattle.elf_model.specs.declared.objects.Section.{Section}
use Rattle.elf_model.specs.declared.objects.Reloc.{Reloc}
use Rattle.elf_model.specs.declared.objects.RelocKind.{RelocKind}
use Rattle.elf_model.specs.Objects.{ObjectParts, is_object, is_code, rise}
use Rattle.elf_model.proofs.Elements.{contains_at, place_of, contains_map, map_contains, contains_filter, filter_contains}
use Rattle.thumb_instr.specs.declared.instructions.Instr.{Instr}
use Rattle.thumb_instr.specs.declared.instructions.Instr.TheVariants as instr
use Rattle.seq_core.specs.declared.steps.Step.{Step}
use Rattle.seq_core.specs.declared.units.Unit.{Unit as SeqUnit}
use Rattle.seq_core.specs.Places.{PlacedParts, LayoutParts}
use Rattle.code_ranges.specs.Spans.{place_cmp}
use Rattle.flow_recover.specs.declared.flows.Point.{Point}
use Rattle.flow_recover.specs.Flows.{FlowParts}
use Rattle.flow_recover.specs.WholeFlows.{IsFlow}
use Rattle.hardened_form.specs.Places.{UnitPlace, Places}
use Rattle.hardened_form.specs.Carriers.{Carrier, kind_on}
use Rattle.hardened_form.specs.Symbols.{Lists}
use Rattle.hardened_form.specs.Relocs.{StandsFor, IsNewReloc, AreRelocs}
use Rattle.hardened_form.specs.Relocs.{IsWordOf as word_of}
use Rattle.hardened_form.specs.Relocs.{IsNewReloc as new}
use Rattle.branch_layout.specs.Goals.{aimed, base_of, goal_of, placed_instr}
use Rattle.branch_layout.specs.Laid.{laid_place, laid_places}
use Rattle.branch_layout.proofs.WithinFacts.{zip_at, zip_parts, map_at}
use Rattle.emit_object.specs.declared.reloc_sites.Site.{Site}
use Rattle.emit_object.specs.Lasting.{has_data}
use Rattle.emit_object.specs.UnitCopies.{Copy, unit_copies, copy_carries, carrier, carriers_of, all_carriers}
use Rattle.emit_object.specs.Emitting.{CanEmit}
use Rattle.emit_object.specs.RelocSites.{site_of, site_place, data_site, data_sites, copy_site, step_sites, word_sites, code_sites, all_sites}
use Rattle.emit_object.specs.SitesInOrder.{AreInOrder}
use Rattle.emit_object.specs.MadeRelocs.{IsMadeAt, IsMade, AreMade}
use Rattle.emit_object.proofs.SiteLists.{data_is, data_has, unit_is, unit_has, step_is, step_has, word_is, word_has}
use Rattle.emit_object.proofs.SiteOrder.{rise_sorted}
use Rattle.emit_object.proofs.SitesApart.{data_parts, all_apart}
use Rattle.emit_object.proofs.LaidUnits.{point_of, stretch_of}

-- THE KIND OF A RELOCATION ON A PLACED INSTRUCTION

kind_aimed : (at to : ℕ) (i : Instr) (k : RelocKind) → kind_on (aimed at to i) k ≡ kind_on i k
kind_aimed at to (instr.Literal i) k = go (nat_le (base_of at) to)
  where
    go : (b : Bool) → kind_on (cond b (instr.Literal (record i { up = true; imm = to - base_of at })) (instr.Literal (record i { up = false; imm = base_of at - to }))) k ≡ k
    go true = refl
    go false = refl
kind_aimed at to _ k = refl

pub kind_placed : (p : Places) (u : SeqUnit) (q : UnitPlace) (at : ℕ) (s : Step) (k : RelocKind) → kind_on (placed_instr p u q at s) k ≡ kind_on s.instr k
kind_placed p u q at s k = go (goal_of p u q at s.goal)
  where
    go : (e : Option ℕ) → kind_on (option_map_or (λ to. aimed at to s.instr) e s.instr) k ≡ kind_on s.instr k
    go None = refl
    go (Some to) = kind_aimed at to s.instr k

-- SITES HAVE THE SECTIONS OF THEIR RELOCATIONS

record HasReloc (o : ObjectParts) (s : Site) : Type 0 where
  reloc : Reloc
  there : slice_get o.relocs s.number ≡ Some reloc
  section : s.section ≡ reloc.section

has_reloc : (o : ObjectParts) (n : ℕ) (r : Reloc) (at : ℕ) (k : RelocKind) (s : Site) → slice_get o.relocs n ≡ Some r → site_of n r at k ≡ s → HasReloc o s
has_reloc o n r at k s e is = subst (HasReloc o) is (record { reloc = r; there = e; section = refl })

all_have : (o : ObjectParts) (f : FlowParts) (l : LayoutParts) (s : Site) → Contains (all_sites o f l) s → HasReloc o s
all_have o f l s h = elim (Contains-append_cases (data_sites o 0 o.relocs) (code_sites o f l) s h) [
  | inl left ↦
      let g = data_is o s left in
      let z : 0 + g.index ≡ g.index = omega arith in
      has_reloc o (0 + g.index) g.source g.source.offset g.source.kind s (ap (λ (n : ℕ). slice_get o.relocs n) z ∙ g.there) (data_parts o (0 + g.index) g.source s g.gives).1
  | inr right ↦ elim (Contains-append_cases (step_sites o l.units) (word_sites o (zip f.words l.words)) s right) [
    | inl step ↦
        let i = step_is o l.units s step in
        let u = unit_is o i.unit s i.among in
        has_reloc o u.number u.reloc u.copy.at (kind_on u.copy.step.instr u.reloc.kind) s u.numbers.there u.is
    | inr word ↦ let j = word_is o f.words l.words s word in has_reloc o j.1.number j.1.reloc j.1.place j.1.reloc.kind s j.1.numbers.there j.1.is
  ]
]

pub in_order : (o : ObjectParts) (f : FlowParts) (l : LayoutParts) → CanEmit o f l → is_object o ≡ true → IsFlow o f → (sites : List Site) → IsPermutation (all_sites o f l) sites → IsSortedByKey site_place place_cmp sites → AreInOrder o sites
in_order o f l can sound flow sites moved sorted = record {
  rise = rise_sorted (all_sites o f l) sites (all_apart o f l can sound flow) moved sorted;
  own = λ s r h e.
      let has = all_have o f l s (Contains-permutation sites (all_sites o f l) s (IsPermutation-sym (all_sites o f l) sites moved) h) in
      has.section ∙ ap (λ (q : Reloc). q.section) (same_Some has.reloc r (sym has.there ∙ e));
}

-- WHAT IS MADE

-- at a site by its parts
stands_as : (o : ObjectParts) (l : Lists) (n : ℕ) (r : Reloc) (at : ℕ) (k : RelocKind) (s : Site) (q : Reloc) → slice_get o.relocs n ≡ Some r → site_of n r at k ≡ s → IsMadeAt o l s q → StandsFor o l n r k at q
stands_as o l n r at k s q e is m =
    let m' = subst (λ (t : Site). IsMadeAt o l t q) (sym is) m in
    subst (λ (x : Reloc). StandsFor o l n x k at q) (same_Some m'.reloc r (sym m'.stands.there ∙ e)) m'.stands

made_as : (o : ObjectParts) (l : Lists) (n : ℕ) (r : Reloc) (at : ℕ) (k : RelocKind) (q : Reloc) (sites : List Site) → Contains sites (site_of n r at k) → StandsFor o l n r k at q → IsMade o l sites q
made_as o l n r at k q sites h s = record { site = site_of n r at k; there = h; is = record { reloc = r; stands = s } }

module _ (o : ObjectParts) (f : FlowParts) (l : LayoutParts) (can : CanEmit o f l) (lists : Lists) where
  abbrev IsNew : Reloc → Type 0
  IsNew q = IsNewReloc o f (laid_places l) (all_carriers l) lists q

  -- no word stands behind a unit
  no_island : (x : Point) (v : UnitPlace) (y : ℕ) → Contains (zip f.points (map laid_place l.units)) (x, v) → v.island ≡ Some y → ⊥
  no_island x v y h e =
      let at = place_of (zip f.points (map laid_place l.units)) (x, v) h in
      let parts = zip_parts f.points (map laid_place l.units) at.0 (x, v) at.1 in
      let u = map_at laid_place l.units at.0 v parts.1 in
      let s = stretch_of o f l can at.0 u.0 u.1 in
      absurd (none-some y (sym s.is.island ∙ ap (λ (p : UnitPlace). p.island) u.2 ∙ e))

  of_data : (s : Site) (q : Reloc) → Contains (data_sites o 0 o.relocs) s → IsMadeAt o lists s q → IsNew q
  of_data s q h m =
      let g = data_is o s h in
      let z : 0 + g.index ≡ g.index = omega arith in
      let parts = data_parts o (0 + g.index) g.source s g.gives in
      let at : slice_get o.relocs (0 + g.index) ≡ Some g.source = ap (λ (n : ℕ). slice_get o.relocs n) z ∙ g.there in
      go (0 + g.index) g.source (stands_as o lists (0 + g.index) g.source g.source.offset g.source.kind s q at parts.1 m) (slice_get o.sections g.source.section) refl parts.0
    where
      go : (n : ℕ) (r : Reloc) → StandsFor o lists n r r.kind r.offset q → (e : Option Section) → slice_get o.sections r.section ≡ e → has_data e ≡ true → IsNew q
      go n r st None e d = absurd (true≢false (sym d))
      go n r st (Some t) e d = elim (cases_Bool (is_code t)) [
        | inl c ↦ absurd (true≢false (sym d ∙ ap not c))
        | inr c ↦ new.of_data n r t e c st
      ]

  of_step : (s : Site) (q : Reloc) → Contains (step_sites o l.units) s → IsMadeAt o lists s q → IsNew q
  of_step s q h m =
      let i = step_is o l.units s h in
      let u = unit_is o i.unit s i.among in
      let x = point_of o f l can i.index i.unit i.there in
      let c : Carrier = carrier l i.unit u.copy in
      let kind = kind_placed (laid_places l) i.unit.unit (laid_place i.unit) u.copy.at u.copy.step u.reloc.kind in
      let st = stands_as o lists u.number u.reloc u.copy.at (kind_on u.copy.step.instr u.reloc.kind) s q u.numbers.there u.is m in
      let carriers : slice_get (all_carriers l) i.index ≡ Some (carriers_of l i.unit) = slice_get-map (carriers_of l) l.units i.index ∙ ap (option_map (carriers_of l)) i.there in
      new.of_step u.number u.reloc x.point c
      (record {
        all = carriers_of l i.unit;
        unit = contains_at (zip f.points (all_carriers l)) i.index (x.point, carriers_of l i.unit) (zip_at f.points (all_carriers l) i.index x.point (carriers_of l i.unit) x.there carriers);
        one = map_contains (carrier l i.unit) (filter copy_carries (unit_copies i.unit)) u.copy (filter_contains copy_carries (unit_copies i.unit) u.copy u.among u.carrying);
      })
      (sym x.is.reloc ∙ u.numbers.named) (subst (λ (k : RelocKind). StandsFor o lists u.number u.reloc k u.copy.at q) (sym kind) st)

  of_word : (s : Site) (q : Reloc) → Contains (word_sites o (zip f.words l.words)) s → IsMadeAt o lists s q → IsNew q
  of_word s q h m =
      let j = word_is o f.words l.words s h in
      let w = j.1 in
      new.of_word w.number w.reloc w.word w.place (word_of.in_pool w.place (contains_at (zip f.words l.words) j.0 (w.word, w.place) (zip_at f.words l.words j.0 w.word w.place w.there w.stands))) w.numbers.named
      (stands_as o lists w.number w.reloc w.place w.reloc.kind s q w.numbers.there w.is m)

  made_new : (q : Reloc) → IsMade o lists (all_sites o f l) q → IsNew q
  made_new q m = elim (Contains-append_cases (data_sites o 0 o.relocs) (code_sites o f l) m.site m.there) [
    | inl left ↦ of_data m.site q left m.is
    | inr right ↦ elim (Contains-append_cases (step_sites o l.units) (word_sites o (zip f.words l.words)) m.site right) [
      | inl step ↦ of_step m.site q step m.is
      | inr word ↦ of_word m.site q word m.is
    ]
  ]

  in_code : (s : Site) → Contains (code_sites o f l) s → Contains (all_sites o f l) s
  in_code s h = Contains-append_right (data_sites o 0 o.relocs) (code_sites o f l) s h

  new_made : (q : Reloc) → IsNew q → IsMade o lists (all_sites o f l) q
  new_made q (new.of_data k r t e c st) =
      let site : data_site o k r ≡ Some (site_of k r r.offset r.kind) = ap (λ (b : Bool). cond b (Some (site_of k r r.offset r.kind)) None) (ap has_data e ∙ ap not c) in
      made_as o lists k r r.offset r.kind q (all_sites o f l) (Contains-append_left (data_sites o 0 o.relocs) (code_sites o f l) _ (data_has o k r (site_of k r r.offset r.kind) st.there site)) st
  new_made q (new.of_step k r x c is named st) =
      let at = place_of (zip f.points (all_carriers l)) (x, is.all) is.unit in
      let parts = zip_parts f.points (all_carriers l) at.0 (x, is.all) at.1 in
      let u = map_at (carriers_of l) l.units at.0 is.all parts.1 in
      let v : PlacedParts = u.0 in
      let from = contains_map (carrier l v) (filter copy_carries (unit_copies v)) c (subst (λ (all : List Carrier). Contains all c) (sym u.2) is.one) in
      let copy : Copy = from.0 in
      let kept = contains_filter copy_carries (unit_copies v) copy from.1 in
      let reloc : v.unit.reloc ≡ Some k = (can.each at.0 x v parts.0 u.1).reloc ∙ named in
      let place : copy.at ≡ c.at = ap (λ (d : Carrier). d.at) from.2 in
      let kind : kind_on c.instr r.kind ≡ kind_on copy.step.instr r.kind = ap (λ (d : Carrier). kind_on d.instr r.kind) (sym from.2) ∙ kind_placed (laid_places l) v.unit (laid_place v) copy.at copy.step r.kind in
      made_as o lists k r copy.at (kind_on copy.step.instr r.kind) q (all_sites o f l)
      (in_code _ (Contains-append_left (step_sites o l.units) (word_sites o (zip f.words l.words)) _ (step_has o l.units at.0 v (copy_site k r copy) u.1 (unit_has o v k r copy reloc st.there kept.0 kept.1))))
      (subst (λ (n : ℕ). StandsFor o lists k r (kind_on copy.step.instr r.kind) n q) (sym place) (subst (λ (d : RelocKind). StandsFor o lists k r d c.at q) kind st))
  new_made q (new.of_word k r w _ (word_of.in_pool y here) named st) =
      made_as o lists k r y r.kind q (all_sites o f l) (in_code _ (Contains-append_right (step_sites o l.units) (word_sites o (zip f.words l.words)) _ (word_has o f.words l.words w y k r here named st.there))) st
  new_made q (new.of_word k r w _ (word_of.in_island x v n y here x_word there island) named st) = absurd (no_island x v y here island)

  pub made_are : (sites : List Site) → IsPermutation (all_sites o f l) sites → (q : Reloc) → IsMade o lists sites q ↔ IsNew q
  made_are sites moved q = (
    λ m. made_new q (record { site = m.site; there = Contains-permutation sites (all_sites o f l) m.site (IsPermutation-sym (all_sites o f l) sites moved) m.there; is = m.is }),
    λ n. let m = new_made q n in record { site = m.site; there = Contains-permutation (all_sites o f l) sites m.site moved m.there; is = m.is },
  )

  -- a list of them is the table
  pub are_relocs : (h : ObjectParts) (sites : List Site) (list : List Reloc) → IsPermutation (all_sites o f l) sites → AreMade o lists sites list → h.relocs ≡ list → AreRelocs o h f (laid_places l) (all_carriers l) lists
  are_relocs h sites list moved made same = record {
    exact = λ q. (
      λ c. ((made_are sites moved q).0 ((made.exact q).0 (subst (λ (rs : List Reloc). Contains rs q) same c))),
      λ n. subst (λ (rs : List Reloc). Contains rs q) (sym same) ((made.exact q).1 ((made_are sites moved q).1 n)),
    );
    rise = ap rise same ∙ made.rise;
  }
