-- Relocations stand on the copies that carry that of their point, and on no others.
use Rattle.std.proofs.Common.{◌≡◌, ◌≤◌, ◌<◌, ℕ, ◌+◌, Bool, true, false, List, length, map, filter, refl, sym, ap, ◌∙◌, subst, inl, inr, arith, Option, Some, None}
use Rattle.std.specs.Prelude.{slice_get, Contains, ◌&&◌, not, is_some}
use Rattle.std.specs.Option.{option_map}
use Rattle.std.specs.List.{zip}
use Rattle.std.proofs.lemmas.Bool.{and_parts, cases_Bool, both_ways, ltb-true}
use Rattle.std.proofs.lemmas.Option.{none-some, same_Some, slice_get-map}
use Rattle.elf_model.specs.declared.objects.Reloc.{Reloc}
use Rattle.elf_model.specs.declared.objects.Symbol.{Symbol}
use Rattle.elf_model.specs.declared.objects.Home.{Home}
use Rattle.elf_model.specs.declared.objects.Home.TheVariants as homes
use Rattle.elf_model.specs.Objects.{ObjectParts, is_object, is_code, is_placed, is_kind}
use Rattle.elf_model.proofs.Elements.{element_at, place_of, contains_at, contains_map, map_contains, contains_filter, filter_contains}
use Rattle.code_ranges.proofs.ObjectFacts.{reloc_sound}
use Rattle.reloc_places.specs.Relocations.{reloc_at, is_in_code}
use Rattle.seq_core.specs.Places.{PlacedParts, LayoutParts}
use Rattle.thumb_encode.specs.Encoding.{width_of}
use Rattle.flow_recover.specs.declared.flows.Point.{Point}
use Rattle.flow_recover.specs.Flows.{FlowParts}
use Rattle.flow_recover.specs.WholeFlows.{IsFlow}
use Rattle.flow_recover.proofs.RightRelocs.{reloc_there}
use Rattle.hardened_form.specs.Places.{UnitPlace}
use Rattle.hardened_form.specs.Standing.{units}
use Rattle.hardened_form.specs.Turns.{Target, turns_by, is_turned, is_direct, old_target, IsTarget, Stays, of_point}
use Rattle.hardened_form.specs.Carriers.{Carrier, IsCarrier, kind_on}
use Rattle.hardened_form.specs.Relocs.{first_target, new_number, IsNewSymbol, same, own, StandsFor, IsWordOf, in_pool, in_island, IsNewReloc, of_data, of_step, of_word}
use Rattle.hardened_form.specs.HardenedForms.{IsHardenedForm}
use Rattle.branch_layout.specs.Laid.{laid_place, laid_places}
use Rattle.branch_layout.proofs.StepCopies.{bytes_least}
use Rattle.branch_layout.proofs.WithinFacts.{map_at, zip_at, zip_parts}
use Rattle.emit_object.specs.UnitCopies.{Copy, unit_copies, carries, copy_carries, carrier, carriers_of, all_carriers}
use Rattle.emit_object.specs.Emitting.{CanEmit}
use Rattle.unit_work.specs.Work.{AreOnCarriers}
use Rattle.pair_parts.proofs.PointFacts.{at_point, in_code, reloc_at_is, reloc_found, word_reloc}
use Rattle.pair_parts.proofs.LaidUnits.{laid_unit, copy_inside, one_copy}
use Rattle.pair_parts.proofs.PlaceFacts.{point_at, one_unit, no_word_in}

code_home : (o : ObjectParts) (home : Home) → is_in_code o home ≡ true → (j : ℕ) × (home ≡ homes.Section j)
code_home o homes.Undefined c = absurd (both_ways false refl c)
code_home o homes.Absolute c = absurd (both_ways false refl c)
code_home o (homes.Section j) c = (j, refl)

-- the symbol of a relocation
symbol_of : (o : ObjectParts) (k : ℕ) (r : Reloc) → is_object o ≡ true → slice_get o.relocs k ≡ Some r → (s : Symbol) × (slice_get o.symbols r.symbol ≡ Some s)
symbol_of o k r sound there =
    let parts = and_parts (is_placed r (slice_get o.sections r.section) && is_kind r.kind) _ (reloc_sound o k r sound there) in
    element_at o.symbols r.symbol (ltb-true r.symbol (length o.symbols) parts.1)

module _ (o h : ObjectParts) (f : FlowParts) (l : LayoutParts) (plain : is_object o ≡ true) (hard : is_object h ≡ true) (flow : IsFlow o f) (can : CanEmit o f l)
    (form : IsHardenedForm o h f (laid_places l) (all_carriers l)) where
  -- the symbol that a relocation which stays names now
  new_symbol : (k : ℕ) (r : Reloc) → slice_get o.relocs k ≡ Some r → Stays o f k r → (m : ℕ) × IsNewSymbol o form.lists r m
  new_symbol k r there stays =
      let name = symbol_of o k r plain there in
      elim (cases_Bool (is_turned o r)) [
        | inl y ↦
            let parts = and_parts (is_in_code o name.0.home) (not (is_direct o r name.0)) (sym (ap (turns_by o r) name.1) ∙ y) in
            let home = code_home o name.0.home parts.0 in
            let t : Target = record { section = home.0; old = old_target o r name.0 } in
            let target : IsTarget o r t = record { symbol = name.0; names = name.1; home = home.1; old = refl } in
            let n = place_of form.lists.targets t ((form.tables.lists.targets.exact t).1 (record { number = k; reloc = r; there = there; stays = stays; turned = y; target = target })) in
            (first_target o form.lists + n.0, own n.0 t y target n.1 refl)
        | inr n ↦ (new_number o form.lists r.symbol name.0, same name.0 n name.1 refl)
      ]

  module _ (k : ℕ) (u : PlacedParts) (c : Copy) (e : slice_get l.units k ≡ Some u) (here : Contains (unit_copies u) c) (x : Point) (there : slice_get f.points k ≡ Some x) where
    point_reloc : x.reloc ≡ reloc_at o x.section x.offset
    point_reloc = (at_point o f flow k x there).reloc

    inside : (u.start ≤ c.at) × (c.at < u.start + u.length)
    inside = let b = copy_inside o f l can k u e c here in let low = b.low in let high = b.high in let least = bytes_least (width_of c.code) in (low, omega arith)

    -- a copy that carries has a relocation
    carried : (n : ℕ) → u.unit.reloc ≡ Some n → carries c.step ≡ true → reloc_at h u.unit.section c.at ≡ None → ⊥
    carried n has takes none =
        let is = can.each k x u there e in
        let reloc : x.reloc ≡ Some n = sym is.reloc ∙ has in
        let r = reloc_found o x.section x.offset n (sym point_reloc ∙ reloc) in
        let symbol = new_symbol n r.0 r.1 (of_point x (contains_at f.points k x there) reloc) in
        let d : Carrier = carrier l u c in
        let q : Reloc = record { section = r.0.section; offset = c.at; kind = kind_on d.instr r.0.kind; symbol = symbol.0 } in
        let stands : StandsFor o form.lists n r.0 (kind_on d.instr r.0.kind) d.at q = record { there = r.1; section = refl; offset = refl; kind = refl; symbol = symbol.1 } in
        let listed = zip_at f.points (all_carriers l) k x (carriers_of l u) there (slice_get-map (carriers_of l) l.units k ∙ ap (option_map (carriers_of l)) e) in
        let is_carrier : IsCarrier f (all_carriers l) x d = record {
          all = carriers_of l u;
          unit = contains_at (zip f.points (all_carriers l)) k (x, carriers_of l u) listed;
          one = map_contains (carrier l u) (filter copy_carries (unit_copies u)) c (filter_contains copy_carries (unit_copies u) c here takes);
        } in
        let m = place_of h.relocs q ((form.tables.relocs.exact q).1 (of_step n r.0 x d is_carrier reloc stands)) in
        let found = reloc_there h m.0 q hard m.1 in
        let section : r.0.section ≡ u.unit.section = r.2 ∙ sym is.section in
        none-some m.0 (sym none ∙ ap (λ (j : ℕ). reloc_at h j c.at) (sym section) ∙ found)

    -- a relocation on a copy is carried
    record OnCarrier : Type 0 where
      reloc : is_some u.unit.reloc ≡ true
      carries : carries c.step ≡ true

    of_same : (n : ℕ) (y : Point) (v : PlacedParts) (b : Copy) (m : ℕ) → slice_get f.points n ≡ Some y → slice_get l.units n ≡ Some v → Contains (unit_copies v) b → copy_carries b ≡ true → b.at ≡ c.at → y.section ≡ x.section → y.reloc ≡ Some m → OnCarrier
    of_same n y v b m point unit copy takes meets section reloc =
        let low = inside in
        let other = copy_inside o f l can n v unit b copy in
        let from = other.low in
        let to = other.high in
        let least = bytes_least (width_of b.code) in
        let index : k ≡ n = one_unit o h f l flow can form k n x y u v there e point unit section c.at low.0 low.1 (omega arith) (omega arith) in
        let one : u ≡ v = same_Some u v (sym e ∙ ap (slice_get l.units) index ∙ unit) in
        let is : c ≡ b = one_copy o f l can k u e c b here (subst (λ (w : PlacedParts). Contains (unit_copies w) b) (sym one) copy) (sym meets) in
        record {
          reloc = ap (λ (w : PlacedParts). is_some w.unit.reloc) one ∙ ap is_some ((can.each n y v point unit).reloc ∙ reloc);
          carries = ap copy_carries is ∙ takes;
        }

    on_copy : (q : Reloc) → q.section ≡ u.unit.section → q.offset ≡ c.at → IsNewReloc o f (laid_places l) (all_carriers l) form.lists q → OnCarrier
    on_copy q section offset (of_data m r s at other stands) =
        let code = in_code o f flow k x there in
        let j : r.section ≡ x.section = sym stands.section ∙ section ∙ (can.each k x u there e).section in
        let one : s ≡ code.0 = same_Some s code.0 (sym at ∙ ap (slice_get o.sections) j ∙ code.1) in
        absurd (both_ways (is_code s) other (ap is_code one ∙ code.2))
    on_copy q section offset (of_step m r y d is_carrier reloc stands) =
        let z = place_of (zip f.points (all_carriers l)) (y, is_carrier.all) is_carrier.unit in
        let parts = zip_parts f.points (all_carriers l) z.0 (y, is_carrier.all) z.1 in
        let v = map_at (carriers_of l) l.units z.0 is_carrier.all parts.1 in
        let among = contains_map (carrier l v.0) (filter copy_carries (unit_copies v.0)) d (subst (λ (ds : List Carrier). Contains ds d) (sym v.2) is_carrier.one) in
        let copy = contains_filter copy_carries (unit_copies v.0) among.0 among.1 in
        let place = reloc_at_is o y.section y.offset m r (sym (at_point o f flow z.0 y parts.0).reloc ∙ reloc) stands.there in
        let meets : among.0.at ≡ c.at = ap (λ (w : Carrier). w.at) among.2 ∙ sym stands.offset ∙ offset in
        of_same z.0 y v.0 among.0 m parts.0 v.1 copy.0 copy.1 meets (sym place.0 ∙ sym stands.section ∙ section ∙ (can.each k x u there e).section) reloc
    on_copy q section offset (of_word m r w y word reloc stands) = by_word word
      where
        by_word : IsWordOf f (laid_places l) w y → OnCarrier
        by_word (in_pool _ listed) =
            let z = place_of (zip f.words l.words) (w, y) listed in
            let parts = zip_parts f.words l.words z.0 (w, y) z.1 in
            let place = reloc_at_is o w.section w.offset m r (sym (word_reloc o f flow w (contains_at f.words z.0 w parts.0)) ∙ reloc) stands.there in
            let at : y ≡ c.at = sym stands.offset ∙ offset in
            let low = inside in
            absurd (no_word_in o h f l flow can form k z.0 x u w y there e parts.0 parts.1 (sym place.0 ∙ sym stands.section ∙ section ∙ (can.each k x u there e).section) (omega arith) (omega arith))
        by_word (in_island y' q' n _ listed loads at island) =
            let z = place_of (units f (laid_places l)) (y', q') listed in
            let parts = zip_parts f.points (map laid_place l.units) z.0 (y', q') z.1 in
            let v = map_at laid_place l.units z.0 q' parts.1 in
            absurd (none-some y (sym (laid_unit o f l can z.0 v.0 v.1).placed.island ∙ ap (λ (p : UnitPlace). p.island) v.2 ∙ island))

    is_on : is_some (reloc_at h u.unit.section c.at) ≡ (is_some u.unit.reloc && carries c.step)
    is_on = go (reloc_at h u.unit.section c.at) refl
      where
        alike : (r : Option ℕ) (b : Bool) → u.unit.reloc ≡ r → carries c.step ≡ b → reloc_at h u.unit.section c.at ≡ None → false ≡ (is_some r && b)
        alike None b has takes none = refl
        alike (Some n) true has takes none = absurd (carried n has takes none)
        alike (Some n) false has takes none = refl

        go : (r : Option ℕ) → reloc_at h u.unit.section c.at ≡ r → is_some r ≡ (is_some u.unit.reloc && carries c.step)
        go None at = alike u.unit.reloc (carries c.step) refl refl at
        go (Some n) at =
            let q = reloc_found h u.unit.section c.at n at in
            let on = on_copy q.0 q.2 q.3 ((form.tables.relocs.exact q.0).0 (contains_at h.relocs n q.0 q.1)) in
            sym (ap (λ (b : Bool). b && carries c.step) on.reloc ∙ on.carries)

  pub on_carriers : AreOnCarriers h l
  on_carriers k u c e here = let x = point_at o h f l flow can form k u e in is_on k u c e here x.0 x.1
