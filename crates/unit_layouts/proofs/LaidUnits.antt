-- Units of a flow's points can be laid out.
use Rattle.std.proofs.Common.{◌≡◌, ◌≤◌, ℕ, suc, List, [], ◌∷◌, length, map, refl, sym, ap, ◌∙◌, subst, inl, inr, arith, Some, None, All}
use Rattle.std.specs.Prelude.{slice_get, Contains, IsTrue}
use Rattle.std.specs.List.Sorted.{IsStrictlySortedBy}
use Rattle.std.proofs.lemmas.Option.{slice_get_within}
use Rattle.std.proofs.lemmas.List.Elements.{All-nil, All-cons}
use Rattle.elf_model.specs.declared.refusals.TheConstants.Limit.{INPUT}
use Rattle.elf_model.specs.Objects.{ObjectParts, is_within}
use Rattle.elf_model.proofs.Elements.{element_at, contains_map, place_of}
use Rattle.code_ranges.specs.Spans.{place_cmp}
use Rattle.flow_recover.specs.declared.flows.Point.{Point}
use Rattle.flow_recover.specs.Flows.{FlowParts}
use Rattle.flow_recover.specs.Aims.{has_offset}
use Rattle.flow_recover.specs.Points.{IsPointAt, place_of_point}
use Rattle.flow_recover.specs.WholeFlows.{IsFlow}
use Rattle.flow_recover.proofs.FlowPoints.{points_rise}
use Rattle.hardened_form.specs.Code.{reloc_of}
use Rattle.liveness.specs.declared.boundary.Boundary.{Boundary}
use Rattle.seq_core.specs.declared.steps.Step.{Step}
use Rattle.seq_core.specs.declared.steps.Goal.TheVariants.{Target, Word}
use Rattle.seq_core.specs.declared.units.Unit.{Unit as SeqUnit}
use Rattle.branch_layout.specs.Given.{IsTarget, IsLoaded, CanStand, CanLay}
use Rattle.branch_layout.specs.Leading.{HasGoals}
use Rattle.branch_layout.specs.Placings.{unit_point, word_point}
use Rattle.branch_layout.proofs.LeadingFacts.{leading_stand}
use Rattle.point_units.specs.Units.{LeadsTo, IsUnitOf, AreUnits}
use Rattle.point_units.specs.Units.LeadsTo.{by_branch, by_call}
use Rattle.unit_layouts.proofs.FewWords.{input_any, few_in_all}
use Rattle.unit_layouts.proofs.LeftFacts.{left_goes, left_loads, goes_cases, loads_literal}
use Rattle.unit_layouts.proofs.PointFacts.{points_miss_words}
use Rattle.unit_layouts.proofs.SequenceFacts.{SequenceGives, sequence_gives}
use Rattle.unit_layouts.proofs.Targets.{branch_leads, call_leads, word_there}

-- LISTS BY INDEX

same_keys : {A B K : Type 0} (f : A → K) (g : B → K) (xs : List A) (ys : List B) → length xs ≡ length ys → ((k : ℕ) (x : A) (y : B) → slice_get xs k ≡ Some x → slice_get ys k ≡ Some y → f x ≡ g y) → map f xs ≡ map g ys
same_keys f g [] [] long same = refl
same_keys f g [] (y ∷ ys) long same = absurd (omega arith)
same_keys f g (x ∷ xs) [] long same = absurd (omega arith)
same_keys {K = K} f g (x ∷ xs) (y ∷ ys) long same =
    ap (λ (z : K). z ∷ map f xs) (same 0 x y refl refl) ∙ ap (λ (l : List K). g y ∷ l) (same_keys f g xs ys (omega arith) (λ k a b e h. same (suc k) a b e h))

all_from : {A : Type 0} (P : A → Type 0) (xs : List A) → ((k : ℕ) (x : A) → slice_get xs k ≡ Some x → P x) → All P xs
all_from P [] each = All-nil P
all_from P (x ∷ xs) each = All-cons P x xs (each 0 x refl) (all_from P xs (λ k y e. each (suc k) y e))

module _ (o : ObjectParts) (f : FlowParts) (b : Boundary) (c : ℕ) (units : List SeqUnit) (flow : IsFlow o f) (are : AreUnits o f b c f.points units) where
  -- the point of a unit
  pub record HasPoint (k : ℕ) (u : SeqUnit) : Type 0 where
    pub point : Point
    pub there : slice_get f.points k ≡ Some point
    pub is : IsUnitOf o f b c point u

  pub point_of_unit : (k : ℕ) (u : SeqUnit) → slice_get units k ≡ Some u → HasPoint k u
  point_of_unit k u at =
      let low = slice_get_within units k u at in
      let long = are.sized in
      let x = element_at f.points k (omega arith) in
      record { point = x.0; there = x.1; is = are.each k x.0 u x.1 at }

  pub gives_of : (k : ℕ) (u : SeqUnit) (h : HasPoint k u) → SequenceGives o c h.point u.seq
  gives_of k u h = sequence_gives o h.is.live c h.point h.is.scratch u.seq h.is.sequence

  -- a unit of the same section stands where a unit leads to
  target_at : (k : ℕ) (u : SeqUnit) (h : HasPoint k u) (q y : ℕ) → LeadsTo f h.point q → IsPointAt f h.point.section y q → IsTarget units u
  target_at k u h q y leads there =
      let low = slice_get_within f.points q there.point there.there in
      let long = are.sized in
      let v = element_at units q (omega arith) in
      let is = are.each q there.point v.0 there.there v.1 in
      record { index = q; unit = v.0; target = (h.is.target q).1 leads; there = v.1; section = is.section ∙ there.section ∙ sym h.is.section }

  has_target : (k : ℕ) (u : SeqUnit) (h : HasPoint k u) (s : Step) → Contains u.seq.steps s → s.goal ≡ Target → u.reloc ≡ None → IsTarget units u
  has_target k u h s among goal alone =
      let free : h.point.reloc ≡ None = sym h.is.reloc ∙ alone in
      let n = place_of u.seq.steps s among in
      let goes = sym (left_goes o (reloc_of o h.point.reloc) h.point.instr) ∙ ((gives_of k u h).aims n.0 s n.1).target goal in
      elim (goes_cases h.point.instr goes) [
        | inl branch ↦ let to = branch_leads o f flow k h.point h.there branch free in target_at k u h to.0 to.1 (by_branch to.2) to.3
        | inr call ↦
            let to = call_leads o f flow k h.point h.there call.0 call.1 free in
            target_at k u h to.1.0 _ (by_call to.0 free (ap has_offset call.1) to.1.1) to.1.1
      ]

  has_word : (k : ℕ) (u : SeqUnit) (h : HasPoint k u) (s : Step) → Contains u.seq.steps s → s.goal ≡ Word → IsLoaded f.words u
  has_word k u h s among goal =
      let n = place_of u.seq.steps s among in
      let loads = sym (left_loads o (reloc_of o h.point.reloc) h.point.instr) ∙ ((gives_of k u h).aims n.0 s n.1).word goal in
      let l = loads_literal h.point.instr loads in
      let w = word_there o f flow k h.point h.there l.0 l.1 in
      record { index = w.0; word = w.1; loads = h.is.word ∙ w.2; there = w.3; section = w.4 ∙ sym h.is.section }

  stands : (k : ℕ) (u : SeqUnit) → 2 ≤ c → c ≤ 4 → slice_get units k ≡ Some u → CanStand units f.words u
  stands k u least most at =
      let h = point_of_unit k u at in
      let goals : HasGoals units f.words u = record { target = has_target k u h; word = has_word k u h } in
      leading_stand units f.words u c (omega arith) most (gives_of k u h).lead goals

  unit_places : map unit_point units ≡ map place_of_point f.points
  unit_places = same_keys unit_point place_of_point units f.points are.sized (λ k u x at there. let is = are.each k x u there at in λ n. (is.section n, is.old n))

  apart : (q : ℕ × ℕ) → Contains (map unit_point units) q → Contains (map word_point f.words) q → ⊥
  apart q unit word =
      let u = contains_map unit_point units q unit in
      let k = place_of units u.0 u.1 in
      let h = point_of_unit k.0 u.0 k.1 in
      let w = contains_map word_point f.words q word in
      let same : unit_point u.0 ≡ word_point w.0 = u.2 ∙ sym w.2 in
      points_miss_words o f flow k.0 h.point w.0 h.there w.1 (sym h.is.section ∙ ap (λ (z : ℕ × ℕ). z.0) same) (sym h.is.old ∙ ap (λ (z : ℕ × ℕ). z.1) same)

  pub can_lay : IsTrue (is_within o INPUT) → 2 ≤ c → c ≤ 4 → CanLay units f.words
  can_lay within least most = record {
    unit_order = subst (IsStrictlySortedBy place_cmp) (sym unit_places) (points_rise o f flow (input_any o within)).order;
    word_order = flow.words_order;
    apart = apart;
    few = (let few = few_in_all o f within flow in let long = are.sized in omega arith);
    each = all_from (CanStand units f.words) units (λ k u. stands k u least most);
  }
