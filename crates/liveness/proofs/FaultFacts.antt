-- The spots are the places of faults.
use Rattle.std.proofs.Common.{◌≡◌, ◌↔◌, ◌<◌, ℕ, length, Bool, true, false, cond, List, [], refl, sym, ap, ◌∙◌, subst, inl, inr, Option, Some, None}
use Rattle.std.specs.Prelude.{Contains, slice_get}
use Rattle.std.proofs.lemmas.Bool.{true≢false}
use Rattle.std.proofs.lemmas.Option.{none-some, same_Some}
use Rattle.std.proofs.lemmas.List.Elements.{Contains-append_left, Contains-append_right, Contains-append_cases, All-contains}
use Rattle.elf_model.specs.declared.refusals.Refusal.{Refusal}
use Rattle.elf_model.specs.declared.refusals.Refusal.TheVariants.{LiveAtEntry, LiveAtReturn}
use Rattle.elf_model.specs.declared.refusals.Spot.{Spot}
use Rattle.thumb_instr.specs.declared.register_sets.RegSet.{RegSet}
use Rattle.thumb_instr.specs.Operands.{has}
use Rattle.flow_recover.specs.declared.flows.Point.{Point}
use Rattle.flow_recover.specs.declared.flows.Exit.{Exit}
use Rattle.flow_recover.specs.declared.flows.Exit.TheVariants.{Falls, Branch, Transfer, Call, Return, Stops}
use Rattle.flow_recover.specs.Flows.{FlowParts}
use Rattle.code_ranges.specs.CodeRanges.{comes_before}
use Rattle.code_ranges.specs.Spots.{spot_of, IsFirst}
use Rattle.liveness.specs.declared.boundary.Boundary.{Boundary}
use Rattle.liveness.specs.Paths.{IsLiveBefore, IsLiveAfter, NamesPoints, leaves, boundary_of}
use Rattle.liveness.specs.Paths.IsLiveAfter.{at_boundary, before_next}
use Rattle.liveness.specs.Sets.{LiveParts, has_in, holds_at, holds_after, successors_hold}
use Rattle.liveness.specs.Work.{AreSound, AreSettled}
use Rattle.liveness.specs.Faults.{is_unset_at_entry, is_lost_in_call, IsLowestLive, LiveFault, IsLiveRefusal, AreLive}
use Rattle.liveness.specs.Faults.LiveFault.{at_entry, at_return}
use Rattle.liveness.specs.Spots.{unset, lost, first_in, spot_at_entry, entry_spot, is_call, first_after, spot_at_call, call_spot, picked, all_spots}
use Rattle.elf_model.proofs.Elements.{element_at}
use Rattle.liveness.proofs.Elements.{contains_none, place_of, contains_at, picked_is, picked_has}
use Rattle.liveness.proofs.LowestFacts.{is_among, Rises, IsFirstMember, first_some, first_none, first_of_member, unset_rises, lost_rises, unset_is, lost_is}
use Rattle.liveness.proofs.PathFacts.{live_held, successor_leads, leads_successor}

abbrev pub IsFaultSpot : FlowParts → Boundary → Spot → Type 0
IsFaultSpot f b s = LiveFault f b s.refusal s.section s.offset × (s.file ≡ 0)

at_spot : (f : FlowParts) (b : Boundary) (r : Refusal) (j x : ℕ) (s : Spot) → Some (spot_of r j x) ≡ Some s → LiveFault f b r j x → IsFaultSpot f b s
at_spot f b r j x s e g = subst (λ (z : Spot). IsFaultSpot f b z) (same_Some (spot_of r j x) s e) (g, refl)

call_is : (e : Exit) → is_call e ≡ true → e ≡ Call
call_is Falls h = absurd (true≢false (sym h))
call_is (Branch _) h = absurd (true≢false (sym h))
call_is Transfer h = absurd (true≢false (sym h))
call_is Call h = refl
call_is Return h = absurd (true≢false (sym h))
call_is Stops h = absurd (true≢false (sym h))

-- sets that hold exactly what is live
abbrev pub AreExact : FlowParts → Boundary → List RegSet → Type 0
AreExact f b sets = AreSound f b sets × ((p k : ℕ) → IsLiveBefore f b k p → holds_at sets p k ≡ true)

pub settled_exact : (f : FlowParts) (b : Boundary) (l : LiveParts) → AreSettled f b l → AreExact f b l.sets
settled_exact f b l s = (s.sound, live_held f b l.sets s.stable)

module _ (f : FlowParts) (b : Boundary) (sets : List RegSet) (exact : AreExact f b sets) where
  not_held : (p k : ℕ) → holds_at sets p k ≡ false → IsLiveBefore f b k p → ⊥
  not_held p k out live = true≢false (sym (exact.1 p k live) ∙ out)

  not_live : (p k : ℕ) → (IsLiveBefore f b k p → ⊥) → holds_at sets p k ≡ false
  not_live p k none = go (holds_at sets p k) refl
    where
      go : (v : Bool) → holds_at sets p k ≡ v → holds_at sets p k ≡ false
      go true e = absurd (none (exact.0 p k e))
      go false e = e

  lowest_live : (among : List ℕ) (test : ℕ → Bool) (p k : ℕ) → Rises among → ((j : ℕ) → is_among among j ≡ test j) → first_in among (slice_get sets p) ≡ Some k → IsLowestLive f b test k p
  lowest_live among test p k rises agree e = go (slice_get sets p) refl e
    where
      go : (o : Option RegSet) → slice_get sets p ≡ o → first_in among o ≡ Some k → IsLowestLive f b test k p
      go None at e = absurd (none-some k e)
      go (Some s) at e =
          let m = first_some among s k rises e in
          let same : (j : ℕ) → holds_at sets p j ≡ has s.0 j = λ j. ap (λ (o : Option RegSet). has_in o j) at in
          record {
            member = sym (agree k) ∙ m.member;
            live = exact.0 p k (same k ∙ m.there);
            lowest = λ j low t. not_held p j (same j ∙ m.lowest j low (agree j ∙ t));
          }

  live_lowest : (among : List ℕ) (test : ℕ → Bool) (p k : ℕ) → Rises among → ((j : ℕ) → is_among among j ≡ test j) → IsLowestLive f b test k p → first_in among (slice_get sets p) ≡ Some k
  live_lowest among test p k rises agree l = go (slice_get sets p) refl
    where
      go : (o : Option RegSet) → slice_get sets p ≡ o → first_in among (slice_get sets p) ≡ Some k
      go None at = absurd (true≢false (sym (exact.1 p k l.live) ∙ ap (λ (o : Option RegSet). has_in o k) at))
      go (Some s) at =
          let same : (j : ℕ) → has s.0 j ≡ holds_at sets p j = λ j. sym (ap (λ (o : Option RegSet). has_in o j) at) in
          let m : IsFirstMember among s k = record {
            member = agree k ∙ l.member;
            there = same k ∙ exact.1 p k l.live;
            lowest = λ j low a. same j ∙ not_live p j (l.lowest j low (sym (agree j) ∙ a));
          } in
          ap (first_in among) at ∙ first_of_member among s k rises m

  entry_fault : (s : Spot) → Contains (picked (entry_spot f.points sets) f.entries) s → IsFaultSpot f b s
  entry_fault s h =
      let w = picked_is (entry_spot f.points sets) f.entries s h in
      go w.0 w.1 (slice_get f.points w.0) refl (first_in unset (slice_get sets w.0)) refl w.2
    where
      go : (p : ℕ) → Contains f.entries p → (o : Option Point) → slice_get f.points p ≡ o → (i : Option ℕ) → first_in unset (slice_get sets p) ≡ i → spot_at_entry o i ≡ Some s → IsFaultSpot f b s
      go p c None at i first e = absurd (none-some s e)
      go p c (Some x) at None first e = absurd (none-some s e)
      go p c (Some x) at (Some k) first e = at_spot f b (LiveAtEntry k) x.section x.offset s e (at_entry p k x c at (lowest_live unset is_unset_at_entry p k unset_rises unset_is first))

  call_fault : (s : Spot) → Contains (picked (call_spot sets) f.points) s → IsFaultSpot f b s
  call_fault s h =
      let w = picked_is (call_spot sets) f.points s h in
      let at = place_of f.points w.0 w.1 in
      test at.0 w.0 at.1 (is_call w.0.exit) refl w.2
    where
      go : (p : ℕ) (x : Point) → slice_get f.points p ≡ Some x → x.exit ≡ Call → (n : Option ℕ) → x.next ≡ n → (i : Option ℕ) → first_after sets n ≡ i → spot_at_call x i ≡ Some s → IsFaultSpot f b s
      go p x at call n next None first e = absurd (none-some s e)
      go p x at call None next (Some k) first e = absurd (none-some k first)
      go p x at call (Some q) next (Some k) first e = at_spot f b (LiveAtReturn k) x.section x.offset s e (at_return p q k x at call next (lowest_live lost is_lost_in_call q k lost_rises lost_is first))

      test : (p : ℕ) (x : Point) → slice_get f.points p ≡ Some x → (v : Bool) → is_call x.exit ≡ v → cond v (spot_at_call x (first_after sets x.next)) None ≡ Some s → IsFaultSpot f b s
      test p x at true call e = go p x at (call_is x.exit call) x.next refl (first_after sets x.next) refl e
      test p x at false call e = absurd (none-some s e)

  after_is_live : (x : Point) (k : ℕ) → holds_after b sets x k ≡ true → IsLiveAfter f b k x
  after_is_live x k h = go (leaves x.exit) refl h
    where
      go : (v : Bool) → leaves x.exit ≡ v → cond v (boundary_of b x.exit k) (successors_hold sets x k) ≡ true → IsLiveAfter f b k x
      go true e h = at_boundary e h
      go false e h = let w = successor_leads sets x k h in before_next w.0 e w.1 (exact.0 w.0 k w.2)

  live_after_held : (x : Point) (k : ℕ) → IsLiveAfter f b k x → holds_after b sets x k ≡ true
  live_after_held x k (at_boundary e h) = ap (λ (v : Bool). cond v (boundary_of b x.exit k) (successors_hold sets x k)) e ∙ h
  live_after_held x k (before_next q e leads live) =
      ap (λ (v : Bool). cond v (boundary_of b x.exit k) (successors_hold sets x k)) e ∙ leads_successor sets x k q leads (exact.1 q k live)

  pub after_is : (x : Point) (k : ℕ) → (holds_after b sets x k ≡ true) ↔ IsLiveAfter f b k x
  after_is x k = (after_is_live x k, live_after_held x k)

  pub spots_are_faults : (s : Spot) → Contains (all_spots f sets) s → IsFaultSpot f b s
  spots_are_faults s h = elim (Contains-append_cases (picked (entry_spot f.points sets) f.entries) (picked (call_spot sets) f.points) s h) [
    | inl e ↦ entry_fault s e
    | inr c ↦ call_fault s c
  ]

  pub faults_have_spots : (r : Refusal) (j x : ℕ) → LiveFault f b r j x → Contains (all_spots f sets) (spot_of r j x)
  faults_have_spots _ _ _ (at_entry p k x c at lowest) =
      let spot = spot_of (LiveAtEntry k) x.section x.offset in
      let gives : entry_spot f.points sets p ≡ Some spot =
      ap (λ (o : Option Point). spot_at_entry o (first_in unset (slice_get sets p))) at ∙ ap (spot_at_entry (Some x)) (live_lowest unset is_unset_at_entry p k unset_rises unset_is lowest) in
      Contains-append_left (picked (entry_spot f.points sets) f.entries) (picked (call_spot sets) f.points) spot (picked_has (entry_spot f.points sets) f.entries p spot c gives)
  faults_have_spots _ _ _ (at_return p q k x at call next lowest) =
      let spot = spot_of (LiveAtReturn k) x.section x.offset in
      let first : first_after sets x.next ≡ Some k = ap (first_after sets) next ∙ live_lowest lost is_lost_in_call q k lost_rises lost_is lowest in
      let gives : call_spot sets x ≡ Some spot =
      ap (λ (e : Exit). cond (is_call e) (spot_at_call x (first_after sets x.next)) None) call ∙ ap (spot_at_call x) first in
      Contains-append_right (picked (entry_spot f.points sets) f.entries) (picked (call_spot sets) f.points) spot (picked_has (call_spot sets) f.points x spot (contains_at f.points p x at) gives)

-- no fault, and so no such member is live
module _ (f : FlowParts) (b : Boundary) (l : LiveParts) (are : AreLive f b l) where
  lowest_of : (among : List ℕ) (test : ℕ → Bool) (p k : ℕ) → Rises among → ((j : ℕ) → is_among among j ≡ test j) → test k ≡ true → IsLiveBefore f b k p → (m : ℕ) × IsLowestLive f b test m p
  lowest_of among test p k rises agree member live = go (slice_get l.sets p) refl (first_in among (slice_get l.sets p)) refl
    where
      held : holds_at l.sets p k ≡ true
      held = are.whole p k live

      go : (o : Option RegSet) → slice_get l.sets p ≡ o → (i : Option ℕ) → first_in among (slice_get l.sets p) ≡ i → (m : ℕ) × IsLowestLive f b test m p
      go o at (Some m) first = (m, lowest_live f b l.sets (are.sound, are.whole) among test p m rises agree first)
      go None at None first = absurd (true≢false (sym held ∙ ap (λ (o : Option RegSet). has_in o k) at))
      go (Some s) at None first =
          let none : has s.0 k ≡ false = first_none among s k (ap (first_in among) (sym at) ∙ first) (agree k ∙ member) in
          absurd (true≢false (sym held ∙ ap (λ (o : Option RegSet). has_in o k) at ∙ none))

  pub entry_dead : NamesPoints f → (p k : ℕ) → Contains f.entries p → is_unset_at_entry k ≡ true → IsLiveBefore f b k p → ⊥
  entry_dead names p k c member live =
      let m = lowest_of unset is_unset_at_entry p k unset_rises unset_is member live in
      let x = element_at f.points p (All-contains (λ e. e < length f.points) f.entries p names.entries c) in
      are.no_fault (LiveAtEntry m.0) x.0.section x.0.offset (at_entry p m.0 x.0 c x.1 m.1)

  pub return_dead : (p q k : ℕ) (x : Point) → slice_get f.points p ≡ Some x → x.exit ≡ Call → x.next ≡ Some q → is_lost_in_call k ≡ true → IsLiveBefore f b k q → ⊥
  return_dead p q k x at call next member live =
      let m = lowest_of lost is_lost_in_call q k lost_rises lost_is member live in
      are.no_fault (LiveAtReturn m.0) x.section x.offset (at_return p q m.0 x at call next m.1)

pub refusal_is : (f : FlowParts) (b : Boundary) (l : LiveParts) → AreSettled f b l → (spots : List Spot) (spot : Spot) → spots ≡ all_spots f l.sets → IsFirst spots (Some spot) → IsLiveRefusal f b spot
refusal_is f b l settled spots spot made h =
    let exact = settled_exact f b l settled in
    let g = spots_are_faults f b l.sets exact spot (subst (λ (s : List Spot). Contains s spot) made h.0) in
    record {
      fault = g.0;
      file = g.1;
      first = λ r j x fault.
          All-contains (λ s. comes_before s.refusal s.section s.offset spot ≡ false) spots (spot_of r j x) h.1 (subst (λ (s : List Spot). Contains s (spot_of r j x)) (sym made) (faults_have_spots f b l.sets exact r j x fault));
    }

pub sets_are_live : (f : FlowParts) (b : Boundary) (l : LiveParts) → AreSettled f b l → (spots : List Spot) → spots ≡ all_spots f l.sets → spots ≡ [] → AreLive f b l
sets_are_live f b l settled spots made none =
    let exact = settled_exact f b l settled in
    record {
      sized = settled.sized;
      sound = exact.0;
      whole = exact.1;
      after = after_is f b l.sets exact;
      turns = settled.turns;
      no_fault = λ r j x fault. contains_none (spot_of r j x) (subst (λ (s : List Spot). Contains s (spot_of r j x)) (sym made ∙ none) (faults_have_spots f b l.sets exact r j x fault));
    }
