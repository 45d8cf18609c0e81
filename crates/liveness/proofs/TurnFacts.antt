-- One turn.
use Rattle.std.proofs.Common.{◌≡◌, ◌≢◌, ◌<◌, ◌+◌, ℕ, Bool, true, false, List, refl, sym, ap, ◌∙◌, subst, inl, inr, ◌↔◌, IsTrue, arith, Option, Some, None, length}
use Rattle.std.specs.Prelude.{slice_get, ◌||◌}
use Rattle.std.proofs.lemmas.Bool.{true≢false, cases_eq}
use Rattle.std.proofs.lemmas.Option.{slice_get_cases}
use Rattle.thumb_instr.specs.declared.register_sets.RegSet.{RegSet}
use Rattle.flow_recover.specs.declared.flows.Point.{Point}
use Rattle.flow_recover.specs.Flows.{FlowParts}
use Rattle.liveness.specs.declared.boundary.Boundary.{Boundary}
use Rattle.liveness.specs.Paths.{IsLiveBefore}
use Rattle.liveness.specs.Sets.{LiveParts, has_in, holds_at, gains}
use Rattle.liveness.specs.Members.{HoldMembers}
use Rattle.liveness.specs.Work.{AreSound}
use Rattle.liveness.proofs.PathFacts.{or_cases, or_left, gains_live}

-- one turn
pub record IsTurn (f : FlowParts) (b : Boundary) (old new : LiveParts) (p : ℕ) (grew : Bool) : Type 0 where
  pub turns : new.turns ≡ old.turns + 1
  pub sized : length new.sets ≡ length old.sets
  pub others : (q : ℕ) → q ≢ p → slice_get new.sets q ≡ slice_get old.sets q
  pub set : (x : Point) → slice_get f.points p ≡ Some x → (k : ℕ) → holds_at new.sets p k ≡ (holds_at old.sets p k || gains b old.sets x k)
  pub grew_is : IsTrue grew ↔ ((k : ℕ) × (holds_at old.sets p k ≡ false) × (holds_at new.sets p k ≡ true))
  pub members : HoldMembers new.sets

pub point_at : (points : List Point) (p : ℕ) → p < length points → (x : Point) × (slice_get points p ≡ Some x)
point_at points p low = elim ((slice_get_cases points p).1) [
  | inl w ↦ (w.0, w.2)
  | inr w ↦ absurd (omega (arith, w.0))
]

pub within : (points : List Point) (p : ℕ) (x : Point) → slice_get points p ≡ Some x → p < length points
within points p x there = elim ((slice_get_cases points p).1) [
  | inl v ↦ v.1
  | inr v ↦ absurd (none_some x (sym v.1 ∙ there))
]
  where
    none_some : (x : Point) → None ≡ Some x → ⊥
    none_some x e = absurd (cc)

pub other_same : (f : FlowParts) (b : Boundary) (old new : LiveParts) (p q k : ℕ) (grew : Bool) → IsTurn f b old new p grew → q ≢ p → holds_at new.sets q k ≡ holds_at old.sets q k
other_same f b old new p q k grew t ne = ap (λ (o : Option RegSet). has_in o k) (t.others q ne)

pub turn_keeps : (f : FlowParts) (b : Boundary) (old new : LiveParts) (p q k : ℕ) (grew : Bool) → IsTurn f b old new p grew → p < length f.points → holds_at old.sets q k ≡ true → holds_at new.sets q k ≡ true
turn_keeps f b old new p q k grew t low h = elim (cases_eq q p) [
  | inl e ↦
      let x = point_at f.points p low in
      let at : holds_at old.sets p k ≡ true = subst (λ (j : ℕ). holds_at old.sets j k ≡ true) e h in
      subst (λ (j : ℕ). holds_at new.sets j k ≡ true) (sym e) (t.set x.0 x.1 k ∙ or_left (holds_at old.sets p k) (gains b old.sets x.0 k) at)
  | inr ne ↦ other_same f b old new p q k grew t ne ∙ h
]

pub turn_sound : (f : FlowParts) (b : Boundary) (old new : LiveParts) (p : ℕ) (grew : Bool) → IsTurn f b old new p grew → p < length f.points → AreSound f b old.sets → AreSound f b new.sets
turn_sound f b old new p grew t low sound = λ q k h. elim (cases_eq q p) [
  | inl e ↦
      let x = point_at f.points p low in
      let at : holds_at new.sets p k ≡ true = subst (λ (j : ℕ). holds_at new.sets j k ≡ true) e h in
      subst (λ (j : ℕ). IsLiveBefore f b k j) (sym e) (elim (or_cases (holds_at old.sets p k) (gains b old.sets x.0 k) (sym (t.set x.0 x.1 k) ∙ at)) [
        | inl was ↦ sound p k was
        | inr more ↦ gains_live f b old.sets p k x.0 sound x.1 more
      ])
  | inr ne ↦ sound q k (sym (other_same f b old new p q k grew t ne) ∙ h)
]

-- a turn that does not grow changes no member
pub turn_same : (f : FlowParts) (b : Boundary) (old new : LiveParts) (p q k : ℕ) (grew : Bool) → IsTurn f b old new p grew → p < length f.points → grew ≡ false → holds_at new.sets q k ≡ holds_at old.sets q k
turn_same f b old new p q k grew t low no_more = elim (cases_eq q p) [
  | inl e ↦ subst (λ (j : ℕ). holds_at new.sets j k ≡ holds_at old.sets j k) (sym e) (go (holds_at old.sets p k) (holds_at new.sets p k) refl refl)
  | inr ne ↦ other_same f b old new p q k grew t ne
]
  where
    go : (o n : Bool) → holds_at old.sets p k ≡ o → holds_at new.sets p k ≡ n → holds_at new.sets p k ≡ holds_at old.sets p k
    go true n eo en = turn_keeps f b old new p p k grew t low eo ∙ sym eo
    go false false eo en = en ∙ sym eo
    go false true eo en = absurd (true≢false (sym (t.grew_is.1 (k, eo, en)) ∙ no_more))
