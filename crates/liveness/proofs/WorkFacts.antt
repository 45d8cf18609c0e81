-- A worklist, turn by turn.
use Rattle.std.proofs.Common.{◌≡◌, ◌≢◌, ◌<◌, ◌≤◌, ◌+◌, ◌-◌, ◌^◌, ℕ, Bool, true, false, List, [], ◌∷◌, sym, ap, ◌∙◌, subst, inl, inr, arith, Option, Some, length}
use Rattle.std.specs.Prelude.{slice_get, Contains, count_by}
use Rattle.std.proofs.lemmas.Bool.{true≢false, cases_eq}
use Rattle.std.proofs.lemmas.Option.{slice_get_cases, slice_get_within}
use Rattle.std.proofs.lemmas.Bool.Decides.{nat_tests}
use Rattle.elf_model.proofs.Elements.{contains_cases, contains_none}
use Rattle.thumb_instr.specs.declared.register_sets.RegSet.{RegSet}
use Rattle.thumb_instr.specs.Operands.{has}
use Rattle.thumb_instr.specs.Sets.{is_member}
use Rattle.flow_recover.specs.declared.flows.Point.{Point}
use Rattle.flow_recover.specs.Flows.{FlowParts}
use Rattle.index_links.specs.Links.{Edge}
use Rattle.index_links.specs.Queues.{PendingParts}
use Rattle.liveness.specs.declared.boundary.Boundary.{Boundary}
use Rattle.liveness.specs.Paths.{Leads, NamesPoints}
use Rattle.liveness.specs.Sets.{LiveParts, has_in, holds_at, gains}
use Rattle.liveness.specs.Edges.{edges_of}
use Rattle.liveness.specs.Work.{IsStableAt, lacking_over, IsWorking, AreSettled}
use Rattle.liveness.proofs.PathFacts.{or_right, gains_same}
use Rattle.liveness.proofs.TurnFacts.{IsTurn, other_same, turn_keeps, turn_sound, turn_same}
use Rattle.liveness.proofs.EdgeFacts.{edge_of, edges_few}
use Rattle.liveness.proofs.LackFacts.{enters, over_bound, over_falls, over_falls_at, lack_falls, lack_falls_at}

-- a member is a number below 20
small_member : (k : ℕ) → is_member k ≡ true → k < 20
small_member k is = grind (arith, nat_tests)

set_at : (sets : List RegSet) (p : ℕ) → p < length sets → (s : RegSet) × (slice_get sets p ≡ Some s)
set_at sets p low = elim ((slice_get_cases sets p).1) [
  | inl w ↦ (w.0, w.2)
  | inr w ↦ absurd (omega (arith, w.0))
]

-- what one turn leaves
module _ (f : FlowParts) (b : Boundary) (old new : LiveParts) (p : ℕ) (grew : Bool) (turn : IsTurn f b old new p grew) (sized : length old.sets ≡ length f.points) (low : p < length f.points) where
  was : (s : RegSet) × (slice_get old.sets p ≡ Some s)
  was = set_at old.sets p (omega (arith, sized))

  now : (t : RegSet) × (slice_get new.sets p ≡ Some t)
  now = set_at new.sets p (omega (arith, sized, turn.sized))

  old_has : (k : ℕ) → holds_at old.sets p k ≡ has was.0.0 k
  old_has k = ap (λ (o : Option RegSet). has_in o k) was.1

  new_has : (k : ℕ) → holds_at new.sets p k ≡ has now.0.0 k
  new_has k = ap (λ (o : Option RegSet). has_in o k) now.1

  grows : (k : ℕ) → has was.0.0 k ≡ true → has now.0.0 k ≡ true
  grows k h = sym (new_has k) ∙ turn_keeps f b old new p p k grew turn low (old_has k ∙ h)

  -- over all edges nothing more is lacking
  pub lacks_no_more : lacking_over (edges_of f) new.sets ≤ lacking_over (edges_of f) old.sets
  lacks_no_more = over_falls old.sets new.sets p was.0 now.0 was.1 now.1 turn.others (lack_falls 20 was.0 now.0 grows) (edges_of f)

  -- where the set grew, each edge that enters the point lacks less
  pub lacks_less : grew ≡ true → lacking_over (edges_of f) new.sets + count_by (enters p) (edges_of f) ≤ lacking_over (edges_of f) old.sets
  lacks_less more =
      let found = turn.grew_is.0 more in
      let is : is_member found.0 ≡ true = turn.members p found.0 found.2 in
      over_falls_at old.sets new.sets p was.0 now.0 was.1 now.1 turn.others
      (lack_falls_at 20 was.0 now.0 found.0 grows (small_member found.0 is) is (sym (old_has found.0) ∙ found.1) (sym (new_has found.0) ∙ found.2))
      (edges_of f)

  -- a point that was stable, or had its turn, is stable if the sets behind it are as they were
  pub stays_stable : (q : ℕ) → (q ≢ p → IsStableAt f b old.sets q) → ((x : Point) → slice_get f.points q ≡ Some x → (r k : ℕ) → Leads x r → holds_at new.sets r k ≡ holds_at old.sets r k) → IsStableAt f b new.sets q
  stays_stable q stable same = λ k x at gained.
      let before : gains b old.sets x k ≡ true = sym (gains_same b new.sets old.sets x k (λ r leads. same x at r k leads)) ∙ gained in
      elim (cases_eq q p) [
        | inl e ↦
            let at_p : slice_get f.points p ≡ Some x = subst (λ (j : ℕ). slice_get f.points j ≡ Some x) e at in
            subst (λ (j : ℕ). holds_at new.sets j k ≡ true) (sym e) (turn.set x at_p k ∙ or_right (holds_at old.sets p k) (gains b old.sets x k) before)
        | inr ne ↦ other_same f b old new p q k grew turn ne ∙ stable ne k x at before
      ]

-- the first point that waits has its turn
module _ (f : FlowParts) (b : Boundary) (old new : LiveParts) (before after : PendingParts) (p : ℕ) (grew : Bool) (work : IsWorking f b old before) (taken : before.waiting ≡ p ∷ after.waiting) (size : after.size ≡ before.size) (low : p < before.size) (turn : IsTurn f b old new p grew) where
  inside : p < length f.points
  inside = omega (arith, work.queue)

  one_less : length before.waiting ≡ length after.waiting + 1
  one_less = ap (λ (l : List ℕ). length l) taken ∙ more
    where
      more : length (p ∷ after.waiting) ≡ length after.waiting + 1
      more = omega arith

  -- who waited and is not p still waits
  waited : (q : ℕ) → q ≢ p → Contains before.waiting q → Contains after.waiting q
  waited q ne c = elim (contains_cases p after.waiting q (subst (λ (l : List ℕ). Contains l q) taken c)) [
    | inl same ↦ absurd (ne (sym same))
    | inr rest ↦ rest
  ]

  -- no set grew
  pub works_on : grew ≡ false → IsWorking f b new after
  works_on none = record {
    sized = turn.sized ∙ work.sized;
    queue = size ∙ work.queue;
    sound = turn_sound f b old new p grew turn inside work.sound;
    stable = λ q out. stays_stable f b old new p grew turn work.sized inside q (λ ne. work.stable q (λ c. out (waited q ne c))) (λ x at r k leads. turn_same f b old new p r k grew turn inside none);
    turns = let a = lacks_no_more f b old new p grew turn work.sized inside in let c = turn.turns in let d = one_less in let e = work.turns in omega arith;
  }

  pub works_less : grew ≡ false → length after.waiting + lacking_over (edges_of f) new.sets < length before.waiting + lacking_over (edges_of f) old.sets
  works_less none = let a = lacks_no_more f b old new p grew turn work.sized inside in let d = one_less in omega arith

  -- the set of p grew, and the sources of its edges wait
  module _ (put : PendingParts) (kept : (q : ℕ) → Contains after.waiting q → Contains put.waiting q) (sources : (x : Edge) → Contains (edges_of f) x → x.target ≡ p → Contains put.waiting x.source) (few : length put.waiting ≤ length after.waiting + count_by (enters p) (edges_of f)) (put_size : put.size ≡ after.size) (more : grew ≡ true) where
    not_leading : (q : ℕ) (x : Point) → (Contains put.waiting q → ⊥) → slice_get f.points q ≡ Some x → (r : ℕ) → Leads x r → r ≢ p
    not_leading q x out at r leads = λ e. out (sources (record { source = q; target = r }) (edge_of f q r x at leads) e)

    pub works_more : IsWorking f b new put
    works_more = record {
      sized = turn.sized ∙ work.sized;
      queue = put_size ∙ size ∙ work.queue;
      sound = turn_sound f b old new p grew turn inside work.sound;
      stable = λ q out. stays_stable f b old new p grew turn work.sized inside q (λ ne. work.stable q (λ c. out (kept q (waited q ne c)))) (λ x at r k leads. other_same f b old new p r k grew turn (not_leading q x out at r leads));
      turns = let a = lacks_less f b old new p grew turn work.sized inside more in let c = turn.turns in let d = one_less in let e = work.turns in omega arith;
    }

    pub works_less_more : length put.waiting + lacking_over (edges_of f) new.sets < length before.waiting + lacking_over (edges_of f) old.sets
    works_less_more = let a = lacks_less f b old new p grew turn work.sized inside more in let d = one_less in omega arith

-- all wait, and nothing is live yet
pub work_first : (f : FlowParts) (b : Boundary) (l : LiveParts) (w : PendingParts) → length l.sets ≡ length f.points → ((p k : ℕ) → holds_at l.sets p k ≡ false) → l.turns ≡ 0 → w.size ≡ length f.points → ((p : ℕ) → p < length f.points → Contains w.waiting p) → length w.waiting ≤ length f.points → IsWorking f b l w
work_first f b l w sized empty turns size all few = record {
  sized = sized;
  queue = size;
  sound = λ p k h. absurd (true≢false (sym h ∙ empty p k));
  stable = λ p out k x at gained. absurd (out (all p (slice_get_within f.points p x at)));
  turns = let a = over_bound (edges_of f) l.sets in omega arith;
}

-- there are few turns
pub few_turns : (f : FlowParts) (b : Boundary) (l : LiveParts) (w : PendingParts) → NamesPoints f → IsWorking f b l w → l.turns < 2 ^ 64 - 1
few_turns f b l w names work = let a = work.turns in let few = names.few in let e = edges_few 0 f.points in omega arith

pub work_done : (f : FlowParts) (b : Boundary) (l : LiveParts) (w : PendingParts) → w.waiting ≡ [] → IsWorking f b l w → AreSettled f b l
work_done f b l w none work = record {
  sized = work.sized;
  sound = work.sound;
  stable = λ p. work.stable p (λ c. contains_none p (subst (λ (l : List ℕ). Contains l p) none c));
  turns = let a = work.turns in omega arith;
}
