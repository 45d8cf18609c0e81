-- An object is refused by one phase at most, and not where it is hardened.
use Rattle.std.proofs.Common.{◌≡◌, ◌↔◌, ◌≤◌, inl, inr, ℕ, ◌&&◌, ◌||◌, Bool, true, false, cond, List, [], ◌∷◌, length, map, take, Option, Some, None, refl, sym, ap, ap₂, ◌∙◌, subst, arith}
use Rattle.std.specs.Prelude.{filter}
use Rattle.std.proofs.lemmas.Option.{none-some, slice_get_within}
use Rattle.elf_model.specs.declared.refusals.Refusal.{Refusal}
use Rattle.elf_model.specs.declared.refusals.Spot.{Spot}
use Rattle.elf_model.specs.declared.refusals.Deny.TheVariants.{Refused}
use Rattle.elf_model.specs.Objects.{ObjectParts}
use Rattle.elf_model.proofs.Lists.{there}
use Rattle.elf_model.proofs.Elements.{place_of}
use Rattle.code_ranges.proofs.InOrder.{same_at_each}
use Rattle.code_ranges.specs.CodeRanges.{RangeFault}
use Rattle.code_ranges.specs.CodeRanges.RangeFault.{no_mapping, arm_range, arm_function}
use Rattle.thumb_encode.specs.declared.codes.Width.{Width}
use Rattle.thumb_encode.specs.declared.codes.Width.TheVariants.{Half, Full}
use Rattle.thumb_instr.specs.declared.instructions.Instr.{Instr}
use Rattle.thumb_instr.specs.declared.instructions.Instr.TheVariants as instr
use Rattle.thumb_instr.specs.declared.refusals.BadInstr.{BadInstr}
use Rattle.thumb_instr.specs.declared.refusals.BadInstr.TheVariants as bad
use Rattle.flow_recover.specs.declared.flows.Point.{Point}
use Rattle.flow_recover.specs.declared.flows.PoolWord.{PoolWord}
use Rattle.flow_recover.specs.Flows.{FlowParts}
use Rattle.flow_recover.specs.FlowFaults.{FlowFault, IsFlowDenial, refusal_of}
use Rattle.flow_recover.specs.FlowFaults.FlowFault.{no_instr, adr, relocation, no_start, in_block, absolute, arm_address, no_word, no_code, cut_block}
use Rattle.flow_recover.specs.WholeFlows.{IsFlow}
use Rattle.flow_recover.proofs.OneFlow.{flow_once, flow_or_refusal}
use Rattle.liveness.specs.declared.boundary.Boundary.{Boundary}
use Rattle.liveness.specs.Faults.{LiveFault, IsLiveRefusal}
use Rattle.liveness.specs.Faults.LiveFault.{at_entry, at_return}
use Rattle.seq_core.specs.declared.classes.Class.{Class}
use Rattle.seq_core.specs.declared.steps.Step.{Step}
use Rattle.seq_core.specs.declared.units.Unit.{Unit as SeqUnit}
use Rattle.seq_core.specs.Classes.{has_no_class}
use Rattle.seq_core.specs.Needs.{registers_of, changes_flags}
use Rattle.seq_core.specs.Places.{LayoutParts}
use Rattle.seq_core.specs.Replaced.{replaced}
use Rattle.seq_core.specs.Series.{Series}
use Rattle.seq_core.proofs.ClassesApart.{one_class, no_class}
use Rattle.it_expand.specs.Expanded.{guard_of, body_of}
use Rattle.branch_layout.specs.Copies.{copies_of}
use Rattle.branch_layout.specs.Faults.{LayFault, IsLayRefusal}
use Rattle.branch_layout.specs.Faults.LayFault.{out_of_reach, too_big}
use Rattle.branch_layout.specs.Given.{CanLay}
use Rattle.branch_layout.specs.Layouts.{IsLayout}
use Rattle.branch_layout.specs.Once.{widths_of}
use Rattle.branch_layout.specs.Placings.{Stretch, Placing}
use Rattle.branch_layout.specs.Widths.{IsShortest, IsLong, AreLong, AllLong}
use Rattle.branch_layout.proofs.OnePlacing.{placings_are_one}
use Rattle.emit_object.specs.Emitting.{CanEmit, units_of}
use Rattle.point_units.specs.Scratch.{order, is_scratch, scratch_of, has_live_flag, IsLive, ScratchFault, IsScratchRefusal}
use Rattle.point_units.specs.Scratch.ScratchFault.{at_point}
use Rattle.point_units.specs.Units.{under, landed, never_returns, left_instr, IsReplaced, IsSequenceOf, LeadsTo, IsUnitOf, AreUnits}
use Rattle.point_units.specs.Units.IsSequenceOf.{of_it, of_instr}
use Rattle.sim_relation.specs.Accepted.{boundaries}
use Rattle.harden_core.specs.declared.hardening.Hardened.{Hardened}
use Rattle.harden_core.specs.Denials.{IsUnrefused}
use Rattle.harden_core.specs.Denials.IsHardenRefusal.{of_flow, of_liveness, of_scratch, of_layout}
use Rattle.guard_cli.specs.HardenWork.{IsRefusalOf, phase_of}
use Rattle.guard_cli.specs.HardenSteps.{IsMadeOf}

-- THE PHASES OF REFUSALS

range_phase : (o : ObjectParts) (r : Refusal) (section offset : ℕ) → RangeFault o r section offset → phase_of r ≡ 1
range_phase o r section offset (no_mapping j s e c m n) = refl
range_phase o r section offset (arm_range j start end is) = refl
range_phase o r section offset (arm_function k j f s e func home even there code) = refl

bad_phase : (b : BadInstr) → phase_of (refusal_of b) ≡ 1
bad_phase bad.Unknown = refl
bad_phase bad.Unpredictable = refl
bad_phase bad.SupervisorCall = refl
bad_phase bad.TableBranch = refl
bad_phase bad.ReadsAndSetsFlags = refl
bad_phase bad.SystemInstr = refl
bad_phase bad.PcOperand = refl

flow_phase : (o : ObjectParts) (r : Refusal) (section offset : ℕ) → FlowFault o r section offset → phase_of r ≡ 1
flow_phase o r section offset (no_instr n b reached found e s t) = ap phase_of e ∙ bad_phase b
flow_phase o r section offset (adr n i reached e s t) = ap phase_of e
flow_phase o r section offset (relocation k q there wrong e s t) = ap phase_of e
flow_phase o r section offset (no_start j x claim none e) = ap phase_of e
flow_phase o r section offset (in_block j x claim inside e) = ap phase_of e
flow_phase o r section offset (absolute n i reached has aim e s t) = ap phase_of e
flow_phase o r section offset (arm_address q y j refers even e s t) = ap phase_of e
flow_phase o r section offset (no_word n i reached none e s t) = ap phase_of e
flow_phase o r section offset (no_code n i reached falls none e s t) = ap phase_of e
flow_phase o r section offset (cut_block n i reached found cut e s t) = ap phase_of e

denial_phase : (o : ObjectParts) (s : Spot) → IsFlowDenial o (Refused s) → phase_of s.refusal ≡ 1
denial_phase o s (inl range) = range_phase o s.refusal s.section s.offset range.fault
denial_phase o s (inr later) = flow_phase o s.refusal s.section s.offset later.flow.fault

live_phase : (f : FlowParts) (b : Boundary) (r : Refusal) (section offset : ℕ) → LiveFault f b r section offset → phase_of r ≡ 2
live_phase f b r section offset (at_entry p k x e there is) = refl
live_phase f b r section offset (at_return p q k x there call next is) = refl

scratch_phase : (f : FlowParts) (b : Boundary) (r : Refusal) (section offset : ℕ) → ScratchFault f b r section offset → phase_of r ≡ 3
scratch_phase f b r section offset (at_point x need have flags there lacks) = refl

lay_phase : (units : List SeqUnit) (p : Placing) (r : Refusal) (section offset : ℕ) → LayFault units p r section offset → phase_of r ≡ 4
lay_phase units p r section offset (out_of_reach index d far s t e) = ap phase_of e
lay_phase units p r section offset (too_big big t e) = ap phase_of e

-- UNITS THAT ARE OF THE SAME POINTS

same_kept : (p q : ℕ → Bool) → ((k : ℕ) → p k ≡ q k) → (xs : List ℕ) → filter p xs ≡ filter q xs
same_kept p q same [] = refl
same_kept p q same (x ∷ xs) = ap₂ (λ (b : Bool) (l : List ℕ). cond b (x ∷ l) l) (same x) (same_kept p q same xs)

same_tests : (a b : Bool) → (a ≡ true → b ≡ true) → (b ≡ true → a ≡ true) → a ≡ b
same_tests true b to back = sym (to refl)
same_tests false true to back = back refl
same_tests false false to back = refl

module _ (f : FlowParts) (b : Boundary) (x : Point) (one two : ℕ → Bool) (is : IsLive f b x one) (too : IsLive f b x two) where
  same_live : (k : ℕ) → one k ≡ two k
  same_live k = same_tests (one k) (two k) (λ e. (too k).1 ((is k).0 e)) (λ e. (is k).1 ((too k).0 e))

  same_scratch : (i : Instr) → scratch_of one i ≡ scratch_of two i
  same_scratch i = same_kept (is_scratch one i) (is_scratch two i) (λ k. ap (λ (v : Bool). is_scratch (λ n. v) i k) (same_live k)) order

  same_flag : has_live_flag one ≡ has_live_flag two
  same_flag =
      ap₂ (λ (u v : Bool). u || v) (same_live 16) (ap₂ (λ (u v : Bool). u || v) (same_live 17) (ap₂ (λ (u v : Bool). u || v) (same_live 18) (same_live 19)))

none_is_classless : (i : Instr) → body_of i ≡ None → has_no_class i ≡ true
none_is_classless (instr.It it) e = refl
none_is_classless (instr.Adr a) e = refl
none_is_classless i e = absurd (none-some i (sym e))

-- the sequence of a class, by free registers
abbrev series_by : ObjectParts → ℕ → Point → Class → List ℕ → Series
series_by o c x class free = under (guard_of x.cond) c (landed (never_returns x) c (replaced class c (left_instr o x) (take (registers_of class x.instr) free)))

series_is : (o : ObjectParts) (live : ℕ → Bool) (c : ℕ) (x : Point) (scratch : List ℕ) (s : Series) (is : IsReplaced o live c x scratch s) → s ≡ series_by o c x is.class (scratch_of live x.instr)
series_is o live c x scratch s is = is.sequence ∙ ap (λ (l : List ℕ). under (guard_of x.cond) c (landed (never_returns x) c (replaced is.class c (left_instr o x) l))) is.first

module _ (o : ObjectParts) (f : FlowParts) (b : Boundary) (c : ℕ) (x : Point) where
  same_series : (one two : ℕ → Bool) → IsLive f b x one → IsLive f b x two → (free other : List ℕ) (s t : Series) → IsSequenceOf o one c x free s → IsSequenceOf o two c x other t → s ≡ t
  same_series one two is too free other s t (of_it e g u) (of_it d h v) = u ∙ sym v
  same_series one two is too free other s t (of_it e g u) (of_instr d h w a) = absurd (none-some x.instr (sym e ∙ d))
  same_series one two is too free other s t (of_instr e h w a) (of_it d g v) = absurd (none-some x.instr (sym d ∙ e))
  same_series one two is too free other s t (of_instr e h w a) (of_instr d k v y) =
      series_is o one c x free s h
      ∙ ap (λ (n : Class). series_by o c x n (scratch_of one x.instr)) (one_class h.class k.class x.instr h.of k.of)
      ∙ ap (λ (l : List ℕ). series_by o c x k.class l) (same_scratch f b x one two is too x.instr)
      ∙ sym (series_is o two c x other t k)

  same_target : (s t : Option ℕ) → ((q : ℕ) → (s ≡ Some q) ↔ LeadsTo f x q) → ((q : ℕ) → (t ≡ Some q) ↔ LeadsTo f x q) → s ≡ t
  same_target None None h k = refl
  same_target None (Some q) h k = (h q).1 ((k q).0 refl)
  same_target (Some q) t h k = sym ((k q).1 ((h q).0 refl))

  unit_with : ℕ → ℕ → Series → Option ℕ → Option ℕ → Option ℕ → SeqUnit
  unit_with section old s target word reloc = record { section = section; old = old; seq = s; target = target; word = word; reloc = reloc }

  same_unit : (u v : SeqUnit) → IsUnitOf o f b c x u → IsUnitOf o f b c x v → u ≡ v
  unfolding unit_with
  same_unit u v is too =
      ap (λ (n : ℕ). unit_with n u.old u.seq u.target u.word u.reloc) (is.section ∙ sym too.section)
      ∙ ap (λ (n : ℕ). unit_with v.section n u.seq u.target u.word u.reloc) (is.old ∙ sym too.old)
      ∙ ap (λ (s : Series). unit_with v.section v.old s u.target u.word u.reloc) (same_series is.live too.live is.is_live too.is_live is.scratch too.scratch u.seq v.seq is.sequence too.sequence)
      ∙ ap (λ (t : Option ℕ). unit_with v.section v.old v.seq t u.word u.reloc) (same_target u.target v.target is.target too.target)
      ∙ ap (λ (w : Option ℕ). unit_with v.section v.old v.seq v.target w u.reloc) (is.word ∙ sym too.word)
      ∙ ap (λ (r : Option ℕ). unit_with v.section v.old v.seq v.target v.word r) (is.reloc ∙ sym too.reloc)

same_units : (o : ObjectParts) (f : FlowParts) (b : Boundary) (c : ℕ) (units others : List SeqUnit) → AreUnits o f b c f.points units → AreUnits o f b c f.points others → units ≡ others
same_units o f b c units others are too =
    same_at_each units others (are.sized ∙ sym too.sized) (λ k u v e d.
    let within = slice_get_within units k u e in
    let x = there f.points k (omega (arith, are.sized, within)) in
    same_unit o f b c x.0 u v (are.each k x.0 u x.1 e) (too.each k x.0 v x.1 d))

-- ONE LONG LAYOUT

shortest_once : (i : Instr) (v w : Width) → IsShortest i v → IsShortest i w → v ≡ w
shortest_once i Half Half h k = refl
shortest_once i Half Full h k = absurd (k h.0 h.1)
shortest_once i Full Half h k = absurd (h k.0 k.1)
shortest_once i Full Full h k = refl

long_once : (i : Instr) (v w : Width) → IsLong i v → IsLong i w → v ≡ w
long_once (instr.Branch i) v w h k = h ∙ sym k
long_once (instr.Literal i) v w h k = h ∙ sym k
long_once i v w h k = shortest_once i v w h k

widths_once : (copies : List Step) (vs ws : List Width) → AreLong copies vs → AreLong copies ws → vs ≡ ws
widths_once [] [] [] h k = refl
widths_once [] [] (w ∷ ws) h k = absurd k
widths_once [] (v ∷ vs) ws h k = absurd h
widths_once (s ∷ copies) [] ws h k = absurd h
widths_once (s ∷ copies) (v ∷ vs) [] h k = absurd k
widths_once (s ∷ copies) (v ∷ vs) (w ∷ ws) (h, hs) (k, ks) = ap₂ (λ (a : Width) (l : List Width). a ∷ l) (long_once s.instr v w h k) (widths_once copies vs ws hs ks)

all_widths_once : (units : List SeqUnit) (ps qs : List Stretch) → AllLong units ps → AllLong units qs → map widths_of ps ≡ map widths_of qs
all_widths_once [] [] [] h k = refl
all_widths_once [] [] (q ∷ qs) h k = absurd k
all_widths_once [] (p ∷ ps) qs h k = absurd h
all_widths_once (u ∷ units) [] qs h k = absurd h
all_widths_once (u ∷ units) (p ∷ ps) [] h k = absurd k
all_widths_once (u ∷ units) (p ∷ ps) (q ∷ qs) (h, hs) (k, ks) =
    ap₂ (λ (a : List Width) (l : List (List Width)). a ∷ l) (widths_once (copies_of u.seq.steps) p.widths q.widths h k) (all_widths_once units ps qs hs ks)

-- Units that have a layout are not refused.
laid_or_refused : (units : List SeqUnit) (words : List PoolWord) (l : LayoutParts) (s : Spot) → CanLay units words → IsLayout units words l → IsLayRefusal units words s → ⊥
laid_or_refused units words l s can laid r =
    let p = laid.placing in
    let same : r.placing ≡ p =
    placings_are_one units words r.placing p can r.placed laid.places.placed (all_widths_once units r.placing.units p.units r.long laid.places.long) in
    laid.places.no_fault s.refusal s.section s.offset (subst (λ (q : Placing). LayFault units q s.refusal s.section s.offset) same r.first.fault)

-- WHICH PHASES EXCLUDE WHICH

module _ (o : ObjectParts) (b : Boundary) (c : ℕ) (s : Spot) where
  unrefused_live : (f g : FlowParts) → IsFlow o f → IsFlow o g → IsUnrefused f b → IsLiveRefusal g b s → ⊥
  unrefused_live f g x y none r =
      none s.refusal s.section s.offset (subst (λ (h : FlowParts). LiveFault h b s.refusal s.section s.offset) (flow_once o g f y x) r.fault)

  has_unit : (f : FlowParts) (units : List SeqUnit) → AreUnits o f b c f.points units → (r : Refusal) (section offset : ℕ) → ScratchFault f b r section offset → ⊥
  has_unit f units are r section offset (at_point x need have flags within lacks) =
      let p = place_of f.points x within in
      let u = there units p.0 (omega (arith, are.sized, slice_get_within f.points p.0 x p.1)) in
      let unit = are.each p.0 x u.0 p.1 u.1 in
      go unit.live unit.is_live unit.scratch u.0.seq unit.sequence
    where
      go : (live : ℕ → Bool) → IsLive f b x live → (scratch : List ℕ) (t : Series) → IsSequenceOf o live c x scratch t → ⊥
      go live is scratch t (of_it e d v) = no_class lacks.class x.instr (none_is_classless x.instr e) lacks.of
      go live is scratch t (of_instr e k w a) =
          let one : k.class ≡ lacks.class = one_class k.class lacks.class x.instr k.of lacks.of in
          let enough = subst (λ (n : Class). registers_of n x.instr ≤ length (scratch_of live x.instr)) one k.enough in
          let clear = subst (λ (n : Class). (changes_flags n && has_live_flag live) ≡ false) one k.flags in
          let same = ap length (same_scratch f b x live lacks.live is lacks.is_live x.instr) in
          let flag = ap (λ (v : Bool). changes_flags lacks.class && v) (same_flag f b x live lacks.live is lacks.is_live) in
          elim lacks.lacks [
            | inl less ↦ omega (arith, enough, same, less, lacks.needs, lacks.has)
            | inr set ↦ false_true (sym clear ∙ flag ∙ sym lacks.flagged ∙ set)
          ]
        where
          false_true : false ≡ true → ⊥
          false_true e = cc

  units_scratch : (f g : FlowParts) (units : List SeqUnit) → IsFlow o f → IsFlow o g → AreUnits o f b c f.points units → IsScratchRefusal g b s → ⊥
  units_scratch f g units x y are r =
      has_unit f units are s.refusal s.section s.offset (subst (λ (h : FlowParts). ScratchFault h b s.refusal s.section s.offset) (flow_once o g f y x) r.fault)

  units_layout : (f g : FlowParts) (l : LayoutParts) (units : List SeqUnit) → IsFlow o f → IsFlow o g → CanEmit o f l → AreUnits o f b c f.points (units_of l) → AreUnits o g b c g.points units
      → IsLayRefusal units g.words s → ⊥
  units_layout f g l units x y can are others r =
      let same = flow_once o g f y x in
      let ours = subst (λ (h : FlowParts). AreUnits o h b c h.points units) same others in
      let one : units ≡ units_of l = same_units o f b c units (units_of l) ours are in
      laid_or_refused (units_of l) f.words l s can.can can.layout
      (subst (λ (us : List SeqUnit). IsLayRefusal us f.words s) one (subst (λ (h : FlowParts). IsLayRefusal units h.words s) same r))

no_later_phase : (o : ObjectParts) (s t : Spot) → IsRefusalOf o s → IsRefusalOf o t → phase_of s.refusal ≤ phase_of t.refusal
no_later_phase o s t (of_flow a) (of_flow d) = omega (arith, denial_phase o s a, denial_phase o t d)
no_later_phase o s t (of_flow a) (of_liveness g y m) = omega (arith, denial_phase o s a, live_phase g (boundaries 4) t.refusal t.section t.offset m.fault)
no_later_phase o s t (of_flow a) (of_scratch g y v m) = omega (arith, denial_phase o s a, scratch_phase g (boundaries 4) t.refusal t.section t.offset m.fault)
no_later_phase o s t (of_flow a) (of_layout g units y v are m) = omega (arith, denial_phase o s a, lay_phase units m.placing t.refusal t.section t.offset m.first.fault)
no_later_phase o s t (of_liveness f x l) (of_flow d) = absurd (flow_or_refusal o f t x d)
no_later_phase o s t (of_liveness f x l) (of_liveness g y m) =
    omega (arith, live_phase f (boundaries 4) s.refusal s.section s.offset l.fault, live_phase g (boundaries 4) t.refusal t.section t.offset m.fault)
no_later_phase o s t (of_liveness f x l) (of_scratch g y v m) =
    omega (arith, live_phase f (boundaries 4) s.refusal s.section s.offset l.fault, scratch_phase g (boundaries 4) t.refusal t.section t.offset m.fault)
no_later_phase o s t (of_liveness f x l) (of_layout g units y v are m) =
    omega (arith, live_phase f (boundaries 4) s.refusal s.section s.offset l.fault, lay_phase units m.placing t.refusal t.section t.offset m.first.fault)
no_later_phase o s t (of_scratch f x u l) (of_flow d) = absurd (flow_or_refusal o f t x d)
no_later_phase o s t (of_scratch f x u l) (of_liveness g y m) = absurd (unrefused_live o (boundaries 4) 2 t f g x y u m)
no_later_phase o s t (of_scratch f x u l) (of_scratch g y v m) =
    omega (arith, scratch_phase f (boundaries 4) s.refusal s.section s.offset l.fault, scratch_phase g (boundaries 4) t.refusal t.section t.offset m.fault)
no_later_phase o s t (of_scratch f x u l) (of_layout g units y v are m) =
    omega (arith, scratch_phase f (boundaries 4) s.refusal s.section s.offset l.fault, lay_phase units m.placing t.refusal t.section t.offset m.first.fault)
no_later_phase o s t (of_layout f units x u are l) (of_flow d) = absurd (flow_or_refusal o f t x d)
no_later_phase o s t (of_layout f units x u are l) (of_liveness g y m) = absurd (unrefused_live o (boundaries 4) 2 t f g x y u m)
no_later_phase o s t (of_layout f units x u are l) (of_scratch g y v m) = absurd (units_scratch o (boundaries 4) 2 t f g units x y are m)
no_later_phase o s t (of_layout f units x u are l) (of_layout g others y v are' m) =
    omega (arith, lay_phase units l.placing s.refusal s.section s.offset l.first.fault, lay_phase others m.placing t.refusal t.section t.offset m.first.fault)

-- THE LAW: an object is refused by one phase at most, and not where it is hardened.
pub one_phase : (o : ObjectParts) (s t : Spot) → IsRefusalOf o s → IsRefusalOf o t → phase_of s.refusal ≡ phase_of t.refusal
one_phase o s t a d = omega (arith, no_later_phase o s t a d, no_later_phase o t s d a)

pub not_both : (o : ObjectParts) (h : Hardened) (s : Spot) → IsMadeOf o h → IsRefusalOf o s → ⊥
not_both o h s made (of_flow d) = flow_or_refusal o made.hardening.flow s made.hardening.accepted.flow d
not_both o h s made (of_liveness g y m) =
    unrefused_live o (boundaries 4) 2 s made.hardening.flow g made.hardening.accepted.flow y made.hardening.accepted.live m
not_both o h s made (of_scratch g y v m) =
    units_scratch o (boundaries 4) 2 s made.hardening.flow g (units_of made.hardening.layout) made.hardening.accepted.flow y made.hardening.made.units m
not_both o h s made (of_layout g units y v are m) =
    units_layout o (boundaries 4) 2 s made.hardening.flow g made.hardening.layout units made.hardening.accepted.flow y made.hardening.made.can made.hardening.made.units are m
