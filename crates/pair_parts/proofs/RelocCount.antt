-- How many relocations what is made of an object has: of data, of instructions that carry one, and of words of code.
use Rattle.std.proofs.Common.{◌≡◌, ◌≤◌, ℕ, ◌+◌, ◌*◌, Bool, true, List, [], ◌∷◌, ◌++◌, length, map, filter, sym, ap, ◌∙◌, subst, arith, length-append, Some}
use Rattle.std.specs.Prelude.{slice_get, Contains, ◌==◌, ◌&&◌, ◌||◌, nat_lt}
use Rattle.std.specs.Option.{option_map}
use Rattle.std.specs.List.{zip, list_all}
use Rattle.std.proofs.lemmas.Bool.{and_parts}
use Rattle.std.proofs.lemmas.Bool.Decides.{nat_tests}
use Rattle.std.proofs.lemmas.List.{length-map}
use Rattle.std.proofs.lemmas.List.Elements.{Contains-append_left, Contains-append_right}
use Rattle.std.proofs.lemmas.Option.{none-some, slice_get-map, slice_get_within}
use Rattle.elf_model.specs.declared.objects.Reloc.{Reloc}
use Rattle.elf_model.specs.Objects.{ObjectParts, is_below, rise}
use Rattle.elf_model.proofs.Elements.{all_at, contains_at, contains_map, element_at, map_contains, place_of}
use Rattle.code_ranges.proofs.InOrder.{Rises}
use Rattle.flow_recover.specs.declared.flows.PoolWord.{PoolWord}
use Rattle.flow_recover.specs.Flows.{FlowParts}
use Rattle.flow_recover.specs.WholeFlows.{IsFlow}
use Rattle.seq_core.specs.Places.{LayoutParts}
use Rattle.hardened_form.specs.Places.{UnitPlace}
use Rattle.hardened_form.specs.Standing.{units}
use Rattle.hardened_form.specs.Symbols.{Lists}
use Rattle.hardened_form.specs.Carriers.{Carrier}
use Rattle.hardened_form.specs.Relocs.{AreRelocs, IsWordOf, in_pool, in_island, IsNewReloc, of_data, of_step, of_word}
use Rattle.branch_layout.specs.Laid.{laid_place, laid_places}
use Rattle.branch_layout.proofs.WithinFacts.{map_at, zip_parts}
use Rattle.emit_object.specs.Emitting.{unit_of, units_of, CanEmit}
use Rattle.emit_object.specs.UnitCopies.{unit_copies, copy_carries, carrier, carriers_of, all_carriers}
use Rattle.emit_object.specs.WordPlaces.{pool_place}
use Rattle.emit_object.proofs.FewSymbols.{no_longer}
use Rattle.emit_object.proofs.WordFacts.{zip_length}
use Rattle.liveness.specs.declared.boundary.Boundary.{Boundary}
use Rattle.point_units.specs.Units.{AreUnits}
use Rattle.pair_parts.proofs.PointFacts.{at_point, reloc_at_is, word_reloc}
use Rattle.pair_parts.proofs.LaidUnits.{laid, laid_unit}
use Rattle.pair_parts.proofs.SequenceFacts.{sequence_stands}
use Rattle.pair_parts.proofs.CarrierCount.{all_carrier_places, carrier_listed, few_carriers, unit_pass}

-- RELOCATIONS RISE BY THEIR PLACES

abbrev place_of_reloc : Reloc → ℕ × ℕ
place_of_reloc r = (r.section, r.offset)

abbrev is_before : ℕ × ℕ → ℕ × ℕ → Bool
is_before p q = nat_lt p.0 q.0 || ((p.0 == q.0) && nat_lt p.1 q.1)

abbrev IsBefore : ℕ × ℕ → ℕ × ℕ → Type 0
IsBefore p q = is_before p q ≡ true

never_itself : (p : ℕ × ℕ) → IsBefore p p → ⊥
never_itself (j, x) h = grind (arith, nat_tests)

places_rise : (rs : List Reloc) → rise rs ≡ true → Rises IsBefore (map place_of_reloc rs)
places_rise [] h = tt
places_rise (r ∷ rs) h =
    let both = and_parts (list_all (is_below r) rs) (rise rs) h in (
      λ p there.
          let q = contains_map place_of_reloc rs p there in
          let at = place_of rs q.0 q.1 in
          subst (λ (z : ℕ × ℕ). IsBefore (place_of_reloc r) z) q.2 (all_at (is_below r) rs at.0 q.0 both.0 at.1),
      places_rise rs both.1,
    )

module _ (o : ObjectParts) (f : FlowParts) (l : LayoutParts) (lists : Lists) (flow : IsFlow o f) (can : CanEmit o f l) where
  -- WHERE THEY STAND

  abbrev old_places : List (ℕ × ℕ)
  old_places = map place_of_reloc o.relocs

  abbrev word_places : List (ℕ × ℕ)
  word_places = map pool_place (zip f.words l.words)

  abbrev all_places : List (ℕ × ℕ)
  all_places = old_places ++ (all_carrier_places l.units ++ word_places)

  in_code_places : (p : ℕ × ℕ) → Contains (all_carrier_places l.units ++ word_places) p → Contains all_places p
  in_code_places p there = Contains-append_right old_places (all_carrier_places l.units ++ word_places) p there

  word_stands : (q : Reloc) (w : PoolWord) (y : ℕ) → IsWordOf f (laid_places l) w y → ((k : ℕ) → slice_get f.words k ≡ Some w → q.section ≡ w.section) → q.offset ≡ y → Contains all_places (place_of_reloc q)
  word_stands q w y (in_pool _ listed) section offset =
      let z = place_of (zip f.words l.words) (w, y) listed in
      let parts = zip_parts f.words l.words z.0 (w, y) z.1 in
      let same : place_of_reloc q ≡ pool_place (w, y) = λ i. (section z.0 parts.0 i, offset i) in
      in_code_places (place_of_reloc q) (Contains-append_right (all_carrier_places l.units) word_places (place_of_reloc q)
      (subst (Contains word_places) (sym same) (map_contains pool_place (zip f.words l.words) (w, y) listed)))
  word_stands q w y (in_island x u n _ listed loads at island) section offset =
      let z = place_of (units f (laid_places l)) (x, u) listed in
      let parts = zip_parts f.points (map laid_place l.units) z.0 (x, u) z.1 in
      let v = map_at laid_place l.units z.0 u parts.1 in
      absurd (none-some y (sym (laid_unit o f l can z.0 v.0 v.1).placed.island ∙ ap (λ (p : UnitPlace). p.island) v.2 ∙ island))

  stands : (q : Reloc) → IsNewReloc o f (laid_places l) (all_carriers l) lists q → Contains all_places (place_of_reloc q)
  stands q (of_data k r s at other is) =
      let same : place_of_reloc q ≡ place_of_reloc r = λ i. (is.section i, is.offset i) in
      Contains-append_left old_places (all_carrier_places l.units ++ word_places) (place_of_reloc q)
      (subst (Contains old_places) (sym same) (map_contains place_of_reloc o.relocs r (contains_at o.relocs k r is.there)))
  stands q (of_step k r x d is_carrier reloc is) =
      let z = place_of (zip f.points (all_carriers l)) (x, is_carrier.all) is_carrier.unit in
      let parts = zip_parts f.points (all_carriers l) z.0 (x, is_carrier.all) z.1 in
      let u = map_at (carriers_of l) l.units z.0 is_carrier.all parts.1 in
      let among = contains_map (carrier l u.0) (filter copy_carries (unit_copies u.0)) d (subst (λ (ds : List Carrier). Contains ds d) (sym u.2) is_carrier.one) in
      let place = reloc_at_is o x.section x.offset k r (sym (at_point o f flow z.0 x parts.0).reloc ∙ reloc) is.there in
      let section : u.0.unit.section ≡ q.section = (can.each z.0 x u.0 parts.0 u.1).section ∙ sym place.0 ∙ sym is.section in
      let offset : among.0.at ≡ q.offset = ap (λ (w : Carrier). w.at) among.2 ∙ sym is.offset in
      let same : (u.0.unit.section, among.0.at) ≡ place_of_reloc q = λ i. (section i, offset i) in
      in_code_places (place_of_reloc q) (Contains-append_left (all_carrier_places l.units) word_places (place_of_reloc q)
      (subst (Contains (all_carrier_places l.units)) same (carrier_listed l.units u.0 among.0 (contains_at l.units z.0 u.0 u.1) among.1)))
  stands q (of_word k r w y word reloc is) =
      word_stands q w y word
      (λ n at. is.section ∙ (reloc_at_is o w.section w.offset k r (sym (word_reloc o f flow w (contains_at f.words n w at)) ∙ reloc) is.there).0) is.offset

  -- HOW MANY THERE ARE

  units_pass : (b : Boundary) (c : ℕ) → AreUnits o f b c f.points (units_of l) → length (all_carrier_places l.units) ≤ c * length l.units
  units_pass b c are = few_carriers c l.units (λ u among.
      let k = place_of l.units u among in
      let x = element_at f.points k.0 (omega (arith, slice_get_within l.units k.0 u k.1, can.count)) in
      let is = are.each k.0 x.0 u.unit x.1 (slice_get-map unit_of l.units k.0 ∙ ap (option_map unit_of) k.1) in
      unit_pass c u (sequence_stands o is.live c x.0 is.scratch u.unit.seq is.sequence) (can.one k.0 u k.1))

  pub few_relocs : (h : ObjectParts) (b : Boundary) (c : ℕ) → AreUnits o f b c f.points (units_of l) → AreRelocs o h f (laid_places l) (all_carriers l) lists → length h.relocs ≤ length o.relocs + (c * length f.points + length f.words)
  few_relocs h b c are new =
      let most = no_longer IsBefore never_itself (map place_of_reloc h.relocs) all_places (places_rise h.relocs new.rise)
      (λ p there. let q = contains_map place_of_reloc h.relocs p there in subst (Contains all_places) q.2 (stands q.0 ((new.exact q.0).0 q.1))) in
      let news = length-map h.relocs place_of_reloc in
      let olds = length-map o.relocs place_of_reloc in
      let words = length-map (zip f.words l.words) pool_place in
      let pool = zip_length f.words l.words (laid o f l can).pool in
      let carried = units_pass b c are in
      let count : c * length l.units ≡ c * length f.points = ap (λ (n : ℕ). c * n) can.count in
      let a = length-append old_places (all_carrier_places l.units ++ word_places) in
      let b = length-append (all_carrier_places l.units) word_places in
      omega arith
