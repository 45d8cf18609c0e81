-- What sets hold and what paths say.
use Rattle.std.proofs.Common.{◌≡◌, ℕ, Bool, true, false, List, refl, sym, ap, ◌∙◌, inl, inr, ◌⊎◌, Option, Some, None, not}
use Rattle.std.specs.Prelude.{slice_get, ◌&&◌, ◌||◌}
use Rattle.std.proofs.lemmas.Bool.{and_parts, and_from, true≢false}
use Rattle.thumb_instr.specs.declared.register_sets.RegSet.{RegSet}
use Rattle.flow_recover.specs.declared.flows.Point.{Point}
use Rattle.flow_recover.specs.declared.flows.Exit.{Exit}
use Rattle.flow_recover.specs.declared.flows.Exit.TheVariants.{Falls, Branch, Transfer, Call, Return, Stops}
use Rattle.flow_recover.specs.Flows.{FlowParts}
use Rattle.liveness.specs.declared.boundary.Boundary.{Boundary}
use Rattle.liveness.specs.Paths.{Leads, passes, always_writes, uses_at, Keeps, IsLiveBefore}
use Rattle.liveness.specs.Paths.Keeps.{here, further}
use Rattle.liveness.specs.Sets.{holds_at, next_holds, target_holds, successors_hold, gains}
use Rattle.liveness.specs.Work.{AreSound, AreStable}

pub or_cases : (x y : Bool) → (x || y) ≡ true → (x ≡ true) ⊎ (y ≡ true)
or_cases true y h = inl refl
or_cases false y h = inr h

pub or_left : (x y : Bool) → x ≡ true → (x || y) ≡ true
or_left true y h = refl
or_left false y h = absurd (true≢false (sym h))

pub or_right : (x y : Bool) → y ≡ true → (x || y) ≡ true
or_right true y h = refl
or_right false y h = h

pub or_none : (x y : Bool) → (x || y) ≡ false → (x ≡ false) × (y ≡ false)
or_none true y h = absurd (true≢false h)
or_none false y h = (refl, h)

not_true : (x : Bool) → not x ≡ true → x ≡ false
not_true true h = absurd (true≢false (sym h))
not_true false h = refl

not_false : (x : Bool) → x ≡ false → not x ≡ true
not_false true h = absurd (true≢false h)
not_false false h = refl

next_leads : (sets : List RegSet) (k : ℕ) (o : Option ℕ) → next_holds sets o k ≡ true → (q : ℕ) × (o ≡ Some q) × (holds_at sets q k ≡ true)
next_leads sets k None h = absurd (true≢false (sym h))
next_leads sets k (Some q) h = (q, refl, h)

target_leads : (sets : List RegSet) (k : ℕ) (e : Exit) → target_holds sets e k ≡ true → (q : ℕ) × (e ≡ Branch q) × (holds_at sets q k ≡ true)
target_leads sets k Falls h = absurd (true≢false (sym h))
target_leads sets k (Branch q) h = (q, refl, h)
target_leads sets k Transfer h = absurd (true≢false (sym h))
target_leads sets k Call h = absurd (true≢false (sym h))
target_leads sets k Return h = absurd (true≢false (sym h))
target_leads sets k Stops h = absurd (true≢false (sym h))

-- what a successor's set holds is held at an edge's end
pub successor_leads : (sets : List RegSet) (x : Point) (k : ℕ) → successors_hold sets x k ≡ true → (q : ℕ) × Leads x q × (holds_at sets q k ≡ true)
successor_leads sets x k h = elim (or_cases (next_holds sets x.next k) (target_holds sets x.exit k) h) [
  | inl n ↦ let w = next_leads sets k x.next n in (w.0, inl w.1, w.2)
  | inr t ↦ let w = target_leads sets k x.exit t in (w.0, inr w.1, w.2)
]

pub leads_successor : (sets : List RegSet) (x : Point) (k q : ℕ) → Leads x q → holds_at sets q k ≡ true → successors_hold sets x k ≡ true
leads_successor sets x k q (inl n) h = or_left (next_holds sets x.next k) (target_holds sets x.exit k) (ap (λ (o : Option ℕ). next_holds sets o k) n ∙ h)
leads_successor sets x k q (inr t) h = or_right (next_holds sets x.next k) (target_holds sets x.exit k) (ap (λ (e : Exit). target_holds sets e k) t ∙ h)

-- what is gained from sound sets is live
pub gains_live : (f : FlowParts) (b : Boundary) (sets : List RegSet) (p k : ℕ) (x : Point) → AreSound f b sets → slice_get f.points p ≡ Some x → gains b sets x k ≡ true → IsLiveBefore f b k p
gains_live f b sets p k x sound there h = elim (or_cases (uses_at b x k) (passes x && (successors_hold sets x k && not (always_writes x k))) h) [
  | inl u ↦ record { last = p; point = x; path = here p; there = there; used = u }
  | inr r ↦
      let a = and_parts (passes x) (successors_hold sets x k && not (always_writes x k)) r in
      let c = and_parts (successors_hold sets x k) (not (always_writes x k)) a.1 in
      let w = successor_leads sets x k c.0 in
      let rest = sound w.0 k w.2 in
      record { last = rest.last; point = rest.point; path = further p w.0 rest.last x there a.0 (not_true (always_writes x k) c.1) w.1 rest.path; there = rest.there; used = rest.used }
]

-- stable sets hold what lies on a path
pub path_held : (f : FlowParts) (b : Boundary) (sets : List RegSet) (k p q : ℕ) (y : Point) → AreStable f b sets → Keeps f.points k p q → slice_get f.points q ≡ Some y → uses_at b y k ≡ true → holds_at sets p k ≡ true
path_held f b sets k _ _ y stable (here p) there used = stable p k y there (or_left (uses_at b y k) (passes y && (successors_hold sets y k && not (always_writes y k))) used)
path_held f b sets k _ _ y stable (further p m q x at pass keep leads rest) there used =
    let held = path_held f b sets k m q y stable rest there used in
    let more = and_from (successors_hold sets x k) (not (always_writes x k)) (leads_successor sets x k m leads held) (not_false (always_writes x k) keep) in
    stable p k x at (or_right (uses_at b x k) (passes x && (successors_hold sets x k && not (always_writes x k))) (and_from (passes x) (successors_hold sets x k && not (always_writes x k)) pass more))

pub live_held : (f : FlowParts) (b : Boundary) (sets : List RegSet) → AreStable f b sets → (p k : ℕ) → IsLiveBefore f b k p → holds_at sets p k ≡ true
live_held f b sets stable p k live = path_held f b sets k p live.last live.point stable live.path live.there live.used

-- equal members behind a point give equal gains
next_same : (s t : List RegSet) (k : ℕ) (o : Option ℕ) → ((q : ℕ) → o ≡ Some q → holds_at s q k ≡ holds_at t q k) → next_holds s o k ≡ next_holds t o k
next_same s t k None same = refl
next_same s t k (Some q) same = same q refl

target_same : (s t : List RegSet) (k : ℕ) (e : Exit) → ((q : ℕ) → e ≡ Branch q → holds_at s q k ≡ holds_at t q k) → target_holds s e k ≡ target_holds t e k
target_same s t k Falls same = refl
target_same s t k (Branch q) same = same q refl
target_same s t k Transfer same = refl
target_same s t k Call same = refl
target_same s t k Return same = refl
target_same s t k Stops same = refl

pub gains_same : (b : Boundary) (s t : List RegSet) (x : Point) (k : ℕ) → ((q : ℕ) → Leads x q → holds_at s q k ≡ holds_at t q k) → gains b s x k ≡ gains b t x k
gains_same b s t x k same =
    let n = next_same s t k x.next (λ q e. same q (inl e)) in
    let e = target_same s t k x.exit (λ q e. same q (inr e)) in
    ap (λ (v : Bool). uses_at b x k || (passes x && ((v || target_holds s x.exit k) && not (always_writes x k)))) n
    ∙ ap (λ (v : Bool). uses_at b x k || (passes x && ((next_holds t x.next k || v) && not (always_writes x k)))) e
