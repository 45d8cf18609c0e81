-- What is made of an object by way of units and their layout is paired with it.
use Rattle.std.proofs.Common.{◌≡◌, ◌≤◌, ◌<◌, ℕ, zero, suc, ◌+◌, ◌*◌, true, List, [], ◌∷◌, length, filter, refl, sym, ap, ◌∙◌, subst, inl, inr, arith, Some}
use Rattle.std.specs.Prelude.{slice_get, slice_index, Contains}
use Rattle.std.specs.Option.{option_map}
use Rattle.std.proofs.lemmas.Option.{none-some, same_Some, slice_get-map}
use Rattle.elf_model.specs.declared.objects.Section.{Section}
use Rattle.elf_model.specs.Objects.{ObjectParts}
use Rattle.elf_model.proofs.Elements.{contains_at, contains_map, map_contains, contains_filter, place_of}
use Rattle.seq_core.specs.Places.{PlacedParts, LayoutParts}
use Rattle.flow_recover.specs.declared.flows.Point.{Point}
use Rattle.flow_recover.specs.Flows.{FlowParts}
use Rattle.flow_recover.specs.WholeFlows.{IsFlow}
use Rattle.hardened_form.specs.Places.{UnitPlace}
use Rattle.hardened_form.specs.Carriers.{Carrier}
use Rattle.hardened_form.specs.Symbols.{size_of}
use Rattle.branch_layout.specs.Laid.{laid_place, laid_places}
use Rattle.branch_layout.proofs.WithinFacts.{map_at}
use Rattle.emit_object.specs.UnitCopies.{unit_copies, copy_carries, carrier, carriers_of, all_carriers}
use Rattle.emit_object.specs.Emitting.{unit_of}
use Rattle.point_units.specs.Units.{IsUnitOf}
use Rattle.sim_relation.specs.Accepted.{Accepted, boundaries}
use Rattle.sim_relation.specs.Sequences.{Sequence, IsSequence}
use Rattle.sim_relation.specs.Doing.{IsDone}
use Rattle.sim_relation.specs.Pairs.{Certificate, HaveGrown, AreCarried, AreKept, AreDone, Paired, everywhere}
use Rattle.unit_work.specs.Work.{placed_step, sequence_of, UnitsWork}
use Rattle.pair_parts.specs.Made.{IsMade, IsFactor, AreObjects, MadeArePaired}
use Rattle.pair_parts.proofs.LaidUnits.{laid_unit, many_codes, is_sequence, short_sequence}
use Rattle.pair_parts.proofs.PlaceFacts.{point_at, sized, code_section, between, next_begins}
use Rattle.pair_parts.proofs.CarrierFacts.{on_carriers}
use Rattle.pair_parts.proofs.SequenceFacts.{sequence_stands, few_copies}
use Rattle.pair_parts.proofs.SpareFacts.{spare, flags_dead}
use Rattle.pair_parts.proofs.BackFacts.{is_back}
use Rattle.pair_parts.proofs.KeptRelocs.{one_carries}

module _ (o h : ObjectParts) (f : FlowParts) (c K : ℕ) (l : LayoutParts) where
  -- THE SEQUENCES

  abbrev AreOf : List Point → List PlacedParts → Type 0
  AreOf points units = (k : ℕ) (x : Point) (u : PlacedParts) → slice_get points k ≡ Some x → slice_get units k ≡ Some u → IsUnitOf o f (boundaries K) c x u.unit

  abbrev all_sequences : (points : List Point) (units : List PlacedParts) → AreOf points units → List Sequence
  all_sequences [] units each = []
  all_sequences (x ∷ points) [] each = []
  all_sequences (x ∷ points) (u ∷ units) each = sequence_of h l u (each 0 x u refl refl).scratch ∷ all_sequences points units (λ k y v e g. each (suc k) y v e g)

  many_sequences : (points : List Point) (units : List PlacedParts) (each : AreOf points units) → length units ≡ length points → length (all_sequences points units each) ≡ length points
  many_sequences [] units each same = refl
  many_sequences (x ∷ points) [] each same = absurd (omega arith)
  many_sequences (x ∷ points) (u ∷ units) each same = let rest = many_sequences points units (λ k y v e g. each (suc k) y v e g) (omega arith) in omega arith

  record IsTheSequence (x : Point) (u : PlacedParts) (s : Sequence) : Type 0 where
    of : IsUnitOf o f (boundaries K) c x u.unit
    is : sequence_of h l u of.scratch ≡ s

  the_sequence : (points : List Point) (units : List PlacedParts) (each : AreOf points units) (k : ℕ) (x : Point) (u : PlacedParts) (s : Sequence) → slice_get points k ≡ Some x → slice_get units k ≡ Some u
      → slice_get (all_sequences points units each) k ≡ Some s → IsTheSequence x u s
  the_sequence [] units each k x u s e g d = absurd (none-some x e)
  the_sequence (y ∷ points) [] each k x u s e g d = absurd (none-some u g)
  the_sequence (y ∷ points) (v ∷ units) each zero x u s e g d =
      subst (λ (z : Point). IsTheSequence z u s) (same_Some y x e)
      (subst (λ (w : PlacedParts). IsTheSequence y w s) (same_Some v u g) (record { of = each 0 y v refl refl; is = same_Some (sequence_of h l v (each 0 y v refl refl).scratch) s d }))
  the_sequence (y ∷ points) (v ∷ units) each (suc k) x u s e g d = the_sequence points units (λ n z w a b. each (suc n) z w a b) k x u s e g d

  module _ (F : ℕ) (objects : AreObjects o h) (accepted : Accepted o f K) (least : 2 ≤ c) (most : c ≤ 4) (made : IsMade o h f c K l) (factor : IsFactor l F) where
    each_unit : AreOf f.points l.units
    each_unit k x u e g = made.units.each k x u.unit e (slice_get-map unit_of l.units k ∙ ap (option_map unit_of) g)

    abbrev the_certificate : Certificate
    the_certificate = record { places = laid_places l; carriers = all_carriers l; sequences = all_sequences f.points l.units each_unit }

    -- THE POINTS AND THEIR UNITS

    module _ (work : UnitsWork) (k : ℕ) (x : Point) (u : PlacedParts) (e : slice_get f.points k ≡ Some x) (g : slice_get l.units k ≡ Some u) (is : IsUnitOf o f (boundaries K) c x u.unit) where
      no_island : (y : ℕ) → u.island ≡ Some y → ⊥
      no_island y i = none-some y (sym (laid_unit o f l made.can k u g).placed.island ∙ i)

      size_is : (t : Section) → slice_get h.sections x.section ≡ Some t → t.size ≡ size_of (slice_get h.sections x.section)
      size_is t there = sym (ap size_of there)

      stands : IsSequence h x.section (laid_place u) (sequence_of h l u is.scratch)
      stands = subst (λ (j : ℕ). IsSequence h j (laid_place u) (sequence_of h l u is.scratch)) is.section (is_sequence o f l made.can k u g h is.scratch made.codes)

      inside : u.start < size_of (slice_get h.sections x.section)
      inside =
          let t = code_section o h f l accepted.flow made.can made.form k x e in
          let size = size_is t.0 t.1 in
          let new = sized o h f l accepted.flow made.can made.form x.section t.0 t.1 t.2 in
          let section : slice_index l.sizes u.unit.section ≡ slice_index l.sizes x.section = ap (slice_index l.sizes) is.section in
          let low = made.can.inside k u g in
          omega arith

      within : u.start + u.length ≤ size_of (slice_get h.sections x.section)
      within =
          let t = code_section o h f l accepted.flow made.can made.form k x e in
          let size = size_is t.0 t.1 in
          let high = (between o h f l accepted.flow made.can made.form k x u t.0 e g t.1 t.2).high in
          omega arith

      short : length (sequence_of h l u is.scratch).steps ≤ F
      short = let same = short_sequence o f l made.can k u g h is.scratch in let few = factor.enough u (contains_at l.units k u g) in omega arith

      ends : (q : ℕ) (v : UnitPlace) → x.next ≡ Some q → slice_get (laid_places l).units q ≡ Some v → u.start + u.length ≡ v.start
      ends q v leads there =
          let w = map_at laid_place l.units q v there in
          next_begins o h f l accepted.flow made.can made.form k q x u w.0 e g leads w.1 ∙ ap (λ (p : UnitPlace). p.start) w.2

      done : IsDone o h f (laid_places l) (boundaries K) F c true x (laid_place u) (sequence_of h l u is.scratch)
      done = record {
        stands = stands;
        inside = inside;
        within = within;
        island = λ y i. absurd (no_island y i);
        load = λ y i. absurd (no_island y i);
        short = short;
        does = work o h f (boundaries K) c l (record { least = least; most = most; flow = accepted.flow; units = made.units; can = made.can })
            (on_carriers o h f l objects.plain objects.hard accepted.flow made.can made.form) (sized o h f l accepted.flow made.can made.form) k x u e g is;
        spare = spare o f (boundaries K) c x u.unit is;
        flags = flags_dead o f (boundaries K) c x u.unit is;
        end = ends;
        back = λ call. is_back o h f (boundaries K) c l accepted.flow made.can made.form k x u e g is;
      }

    all_done : UnitsWork → AreDone o h f the_certificate F c K everywhere
    all_done work k x p s e g d =
        let u = map_at laid_place l.units k p g in
        let t = the_sequence f.points l.units each_unit k x u.0 s e u.1 d in
        subst (λ (q : UnitPlace). IsDone o h f (laid_places l) (boundaries K) F c true x q s) u.2
        (subst (IsDone o h f (laid_places l) (boundaries K) F c true x (laid_place u.0)) t.is (done work k x u.0 e u.1 t.of))

    -- WHAT CARRIES RELOCATIONS

    all_carried : AreCarried the_certificate
    all_carried k all s g d b listed =
        let u = map_at (carriers_of l) l.units k all g in
        let x = point_at o h f l accepted.flow made.can made.form k u.0 u.1 in
        let t = the_sequence f.points l.units each_unit k x.0 u.0 s x.1 u.1 d in
        let from = contains_map (carrier l u.0) (filter copy_carries (unit_copies u.0)) b (subst (λ (cs : List Carrier). Contains cs b) (sym u.2) listed) in
        let copy = contains_filter copy_carries (unit_copies u.0) from.0 from.1 in (
          placed_step h l u.0 from.0,
          subst (λ (z : Sequence). Contains z.steps (placed_step h l u.0 from.0)) t.is (map_contains (placed_step h l u.0) (unit_copies u.0) from.0 copy.0),
          ap (λ (z : Carrier). z.at) from.2,
        )

    all_kept : AreKept f the_certificate
    all_kept n k x all e g has =
        let u = map_at (carriers_of l) l.units n all g in
        subst (λ (cs : List Carrier). (d : Carrier) × Contains cs d) u.2 (one_carries o f (boundaries K) c l (omega arith) accepted.flow made.units made.can n k x u.0 e u.1 has)

    -- HOW LONG THE SEQUENCES ARE

    not_high : F ≤ 8 * c
    not_high = elim (factor.one) [
      | inl one ↦ omega arith
      | inr (u, listed, same) ↦
          let k = place_of l.units u listed in
          let x = point_at o h f l accepted.flow made.can made.form k.0 u k.1 in
          let is = each_unit k.0 x.0 u x.1 k.1 in
          let many = many_codes o f l made.can k.0 u k.1 in
          let few = few_copies c 8 u.unit.seq.steps (sequence_stands o is.live c x.0 is.scratch u.unit.seq is.sequence) is.short in
          omega arith
    ]

    pub paired : UnitsWork → HaveGrown o h c → K ≤ 4 → Paired o h F c K everywhere
    paired work grown few = record {
      low = factor.low;
      high = not_high;
      few = few;
      flow = f;
      accepted = accepted;
      certificate = the_certificate;
      form = made.form;
      grown = grown;
      count = many_sequences f.points l.units each_unit made.can.count;
      carried = all_carried;
      kept = all_kept;
      done = all_done work;
    }

-- no section of code has grown too much
abbrev pub MadeGrow : Type 0
MadeGrow = (o h : ObjectParts) (f : FlowParts) (c K : ℕ) (l : LayoutParts) → AreObjects o h → IsFlow o f → 2 ≤ c → c ≤ 4 → IsMade o h f c K l → HaveGrown o h c

pub made_paired : UnitsWork → MadeGrow → MadeArePaired
made_paired work grow o h f c K F l objects accepted least most few made factor =
    paired o h f c K l F objects accepted least most made factor work (grow o h f c K l objects accepted.flow least most made) few
