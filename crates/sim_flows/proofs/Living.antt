-- The liveness of a flow, at the addresses of its points.
use Rattle.std.proofs.Common.{◌≡◌, ℕ, ◌<◌, ◌≤◌, inl, inr, ⊎_elim, Bool, true, false, [], length, Option, Some, None, refl, sym, ap, ◌∙◌, subst, arith}
use Rattle.std.specs.Prelude.{◌||◌, ◌&&◌, ◌==◌, not, nat_le, slice_get}
use Rattle.std.proofs.lemmas.Bool.Decides.{nat_tests}
use Rattle.std.proofs.lemmas.Option.{slice_get_cases}
use Rattle.thumb_instr.specs.declared.instructions.Instr.{Instr}
use Rattle.thumb_instr.specs.declared.instructions.Instr.TheVariants as instr
use Rattle.thumb_instr.specs.Formed.{IsFormed}
use Rattle.thumb_instr.specs.Operands.{has}
use Rattle.thumb_instr.specs.Sets.{is_member, is_flag}
use Rattle.flow_recover.specs.declared.flows.Exit.{Exit}
use Rattle.flow_recover.specs.declared.flows.Exit.TheVariants.{Falls, Branch, Transfer, Call, Return, Stops}
use Rattle.flow_recover.specs.declared.flows.Point.{Point as FlowPoint}
use Rattle.flow_recover.specs.Flows.{FlowParts}
use Rattle.liveness.specs.declared.boundary.Boundary.{Boundary}
use Rattle.liveness.specs.Paths.{Keeps, IsLiveBefore, IsLiveAfter, NamesPoints, boundary_of}
use Rattle.liveness.specs.Paths.Keeps.{here, further}
use Rattle.liveness.specs.Paths.IsLiveAfter.{at_boundary, before_next}
use Rattle.liveness.specs.Paths as paths
use Rattle.liveness.specs.Members.{ReadsRegisters}
use Rattle.liveness.specs.Faults.{is_unset_at_entry, is_lost_in_call}
use Rattle.liveness.proofs.ReadFacts.{reads_member, gains_member}
use Rattle.liveness.proofs.FaultFacts.{entry_dead, return_dead}
use Rattle.sim_charts.specs.Charts.{Chart, Point, leaves, passes, Leads, always_writes, reads_at}
use Rattle.sim_charts.specs.Boundaries.{boundary, uses_at, at_call, at_return, at_transfer}
use Rattle.sim_charts.proofs.Sets.{or_left, or_right, or_cases, and_left, and_right, and_both, return_calls}
use Rattle.sim_flows.specs.Points.{exit_at, next_at, IsPointOf, HasPoints, KeepsResults}
use Rattle.sim_flows.specs.Lives.{FlowsGiveLives, DeadIsSpared}
use Rattle.sim_flows.proofs.Numbers.{reads_same, condition_same, writes_same}

-- ---- members

reads_registers : (i : Instr) → IsFormed i → ReadsRegisters i
reads_registers (instr.Alu i) f = (f.registers.1, f.registers.2)
reads_registers (instr.Move i) f = f.registers.1
reads_registers (instr.Test i) f = (f.registers.0, f.registers.1)
reads_registers (instr.ShiftBy i) f = (f.registers.1, f.registers.2)
reads_registers (instr.Wide i) f = f.registers.1
reads_registers (instr.Half i) f = f.registers
reads_registers (instr.Field i) f = (f.registers.0, f.registers.1)
reads_registers (instr.Unary i) f = f.registers.1
reads_registers (instr.Mul i) f = (f.registers.1, f.registers.2)
reads_registers (instr.MulAcc i) f = (f.registers.1, f.registers.2, f.registers.3)
reads_registers (instr.LongMul i) f = (f.registers.2, f.registers.3, f.registers.0, f.registers.1)
reads_registers (instr.Div i) f = (f.registers.1, f.registers.2)
reads_registers (instr.Access i) f = (f.registers.1, f.registers.0, f.registers.2)
reads_registers (instr.Pair i) f = (f.registers.2, f.registers.0, f.registers.1)
reads_registers (instr.Multi i) f = (f.registers, f.fields)
reads_registers (instr.ZeroBranch i) f = f.registers
reads_registers (instr.Jump i) f = f.registers
reads_registers (instr.CallReg i) f = f.registers
reads_registers (instr.Literal i) f = tt
reads_registers (instr.Adr i) f = tt
reads_registers (instr.Branch i) f = tt
reads_registers (instr.Call i) f = tt
reads_registers (instr.It i) f = tt
reads_registers (instr.Nothing i) f = tt
reads_registers (instr.Trap i) f = tt

used_member : (b : Boundary) (x : FlowPoint) (k : ℕ) → IsFormed x.instr → paths.uses_at b x k ≡ true → is_member k ≡ true
used_member b x k f u = gains_member b [] x (λ p k e. absurd cc) (reads_member x.instr (reads_registers x.instr f)) k (or_left (paths.uses_at b x k) _ u)

kept_at_entry : (k : ℕ) (fl : Bool) → (nat_le k 14 || fl) ≡ true → ((k == 12) || fl) ≡ false → at_transfer k ≡ true
kept_at_entry k true m e = grind (arith, nat_tests)
kept_at_entry k false m e = grind (arith, nat_tests)

kept_in_call : (k : ℕ) (fl : Bool) → (nat_le k 14 || fl) ≡ true → ((k == 12) || ((k == 14) || fl)) ≡ false → at_return 4 k ≡ true
kept_in_call k true m e = grind (arith, nat_tests)
kept_in_call k false m e = grind (arith, nat_tests)

transfer_member : (k : ℕ) → at_transfer k ≡ true → is_member k ≡ true
transfer_member k e = or_left (nat_le k 14) (is_flag k) (low k e)
  where
    low : (k : ℕ) → at_transfer k ≡ true → nat_le k 14 ≡ true
    low k e = grind (arith, nat_tests)

-- ---- exits

leaves_same : (address : ℕ → ℕ) (e : Exit) → leaves (exit_at address e) ≡ leaves e
leaves_same address Falls = refl
leaves_same address (Branch q) = refl
leaves_same address Transfer = refl
leaves_same address Call = refl
leaves_same address Return = refl
leaves_same address Stops = refl

pub next_leads : (address : ℕ → ℕ) (o : Option ℕ) (a : ℕ) → next_at address o ≡ Some a → (q : ℕ) × (o ≡ Some q) × (address q ≡ a)
next_leads address None a e = absurd cc
next_leads address (Some q) a e = (q, refl, cc)

pub branch_leads : (address : ℕ → ℕ) (e : Exit) (a : ℕ) → exit_at address e ≡ Branch a → (q : ℕ) × (e ≡ Branch q) × (address q ≡ a)
branch_leads address Falls a e = absurd cc
branch_leads address (Branch q) a e = (q, refl, cc)
branch_leads address Transfer a e = absurd cc
branch_leads address Call a e = absurd cc
branch_leads address Return a e = absurd cc
branch_leads address Stops a e = absurd cc

pub call_is : (address : ℕ → ℕ) (e : Exit) → exit_at address e ≡ Call → e ≡ Call
call_is address Falls e = absurd cc
call_is address (Branch q) e = absurd cc
call_is address Transfer e = absurd cc
call_is address Call e = refl
call_is address Return e = absurd cc
call_is address Stops e = absurd cc

boundary_held : (b : Boundary) (K : ℕ) (address : ℕ → ℕ) (e : Exit) (k : ℕ) → K ≤ 4 → KeepsResults b K → boundary K (exit_at address e) k ≡ true → boundary_of b e k ≡ true
boundary_held b K address Falls k le r h = absurd cc
boundary_held b K address (Branch q) k le r h = absurd cc
boundary_held b K address Transfer k le r h = and_both (is_member k) (has b.transfer.0 k) (transfer_member k h) (r.transfer k h)
boundary_held b K address Call k le r h = and_both (is_member k) (has b.call.0 k) (transfer_member k (or_left (at_call k) (k == 14) h)) (r.call k h)
boundary_held b K address Return k le r h = and_both (is_member k) (has b.ret.0 k) (transfer_member k (or_left (at_call k) (k == 14) (return_calls K k le h))) (r.ret k h)
boundary_held b K address Stops k le r h = absurd cc

pub some_is : (p q : Point) → Some p ≡ Some q → p ≡ q
some_is p q e = cc

module _ (chart : Chart) (f : FlowParts) (b : Boundary) (K : ℕ) (address : ℕ → ℕ) (le : K ≤ 4) (r : KeepsResults b K) (has_points : HasPoints chart f b address) where
  module _ (j : ℕ) (x : FlowPoint) (p : Point) (at : slice_get f.points j ≡ Some x) (is : IsPointOf f b address j x p) where
    -- a point that it leads to, by its number
    leads_there : (a : ℕ) → Leads p a → (q : ℕ) × paths.Leads x q × (address q ≡ a)
    leads_there a l = ⊎_elim
        (λ (e : p.next ≡ Some a). let n = next_leads address x.next a (sym is.next ∙ e) in (n.0, inl n.1, n.2))
        (λ (e : p.way ≡ Branch a). let n = branch_leads address x.exit a (sym is.way ∙ e) in (n.0, inr n.1, n.2))
        l

    boundary_there : (k : ℕ) → boundary K p.way k ≡ true → boundary_of b x.exit k ≡ true
    boundary_there k h = boundary_held b K address x.exit k le r (subst (λ w. boundary K w k ≡ true) is.way h)

    used_there : (k : ℕ) → uses_at K p k ≡ true → paths.uses_at b x k ≡ true
    used_there k u = ⊎_elim
        (λ (l : reads_at p k ≡ true). or_left (paths.reads_at x k) _ (sym (reads_same p x (is.instr 0) is.cond k) ∙ l))
        (λ (l : (boundary K p.way k && not (always_writes p k)) ≡ true).
        or_right (paths.reads_at x k) (boundary_of b x.exit k && not (paths.always_writes x k))
        (and_both (boundary_of b x.exit k) (not (paths.always_writes x k)) (boundary_there k (and_left (boundary K p.way k) _ l)) (ap not (sym (writes_same p x (is.instr 0) is.cond k)) ∙ and_right (boundary K p.way k) (not (always_writes p k)) l)))
        (or_cases (reads_at p k) (boundary K p.way k && not (always_writes p k)) u)

    passes_there : passes p ≡ true → paths.passes x ≡ true
    passes_there e = sym (ap (λ w. not (leaves w) || paths.has_condition x) is.way ∙ ap (λ w. not w || paths.has_condition x) (leaves_same address x.exit)) ∙ (ap (λ h. not (leaves p.way) || h) (sym (condition_same p x (is.instr 0) is.cond)) ∙ e)

    away_there : leaves p.way ≡ leaves x.exit
    away_there = ap leaves is.way ∙ leaves_same address x.exit

  -- what is live at a point of the chart is live before the flow's point there
  live_there : (q : ℕ) (y : FlowPoint) (p : Point) (k : ℕ) → slice_get f.points q ≡ Some y → chart (address q) ≡ Some p → p.live k ≡ true → IsLiveBefore f b k q
  live_there q y p k at there l =
      let h = has_points q y at in
      let same : p ≡ h.0 = some_is p h.0 (sym there ∙ h.1) in
      (h.2.live k).0 (subst (λ (v : Point). v.live k ≡ true) same l)

  live_member : (q k : ℕ) → IsLiveBefore f b k q → is_member k ≡ true
  live_member q k l = used_member b l.point k (has_points l.last l.point l.there).2.formed l.used

-- a point by its number
pub point_at : (f : FlowParts) (q : ℕ) → q < length f.points → (y : FlowPoint) × (slice_get f.points q ≡ Some y)
point_at f q lt = ⊎_elim (λ c. (c.0, c.2)) (λ c. absurd (omega (arith, c.0, lt))) (slice_get_cases f.points q).1

pub flows_give_lives : FlowsGiveLives
flows_give_lives chart f b l address names are r has_points j x p at is = record {
  used = λ k u. (is.live k).1 (record { last = j; point = x; path = here j; there = at; used = used_there chart f b 4 address (omega arith) r has_points j x p at is k u });
  passed = λ k a q pass leads there live w.
      let n = leads_there chart f b 4 address (omega arith) r has_points j x p at is a leads in
      let y = point_at f n.0 (names.edges j n.0 x at n.1) in
      let t : chart (address n.0) ≡ Some q = ap chart n.2 ∙ there in
      let before = live_there chart f b 4 address (omega arith) r has_points n.0 y.0 q k y.1 t live in
      (is.live k).1 (record {
        last = before.last;
        point = before.point;
        path = further j n.0 before.last x at (passes_there chart f b 4 address (omega arith) r has_points j x p at is pass) (sym (writes_same p x (is.instr 0) is.cond k) ∙ w) n.1 before.path;
        there = before.there;
        used = before.used;
      });
  entered = λ k e live.
      let before = (is.live k).0 live in
      let member = live_member chart f b 4 address (omega arith) r has_points j k before in
      elim (is_unset_at_entry k) as (λ v. is_unset_at_entry k ≡ v → at_transfer k ≡ true) [
        | true ↦ λ u. absurd (entry_dead f b l are names j k (is.entry e) u before)
        | false ↦ λ u. kept_at_entry k (is_flag k) member u
      ] refl;
  returned = λ k a q way next there live.
      let n = next_leads address x.next a (sym is.next ∙ next) in
      let y = point_at f n.0 (names.edges j n.0 x at (inl n.1)) in
      let before = live_there chart f b 4 address (omega arith) r has_points n.0 y.0 q k y.1 (ap chart n.2 ∙ there) live in
      let member = live_member chart f b 4 address (omega arith) r has_points n.0 k before in
      elim (is_lost_in_call k) as (λ v. is_lost_in_call k ≡ v → at_return 4 k ≡ true) [
        | true ↦ λ u. absurd (return_dead f b l are j n.0 k x at (call_is address x.exit (sym is.way ∙ way)) n.1 u before)
        | false ↦ λ u. kept_in_call k (is_flag k) member u
      ] refl;
}

not_lost : (b : Bool) → (b ≡ true → ⊥) → b ≡ false
not_lost true f = absurd (f refl)
not_lost false f = refl

pub dead_is_spared : DeadIsSpared
dead_is_spared chart f b K address names le r has_points j x p at is dead stack link = record {
  onward = λ k a q stay leads there live. not_lost (p.loses k) (λ e.
      let n = leads_there chart f b K address le r has_points j x p at is a leads in
      let y = point_at f n.0 (names.edges j n.0 x at n.1) in
      let before = live_there chart f b K address le r has_points n.0 y.0 q k y.1 (ap chart n.2 ∙ there) live in
      dead k e (before_next n.0 (sym (away_there chart f b K address le r has_points j x p at is) ∙ stay) n.1 before));
  away = λ k leave h. not_lost (p.loses k) (λ e. dead k e (at_boundary (sym (away_there chart f b K address le r has_points j x p at is) ∙ leave) (boundary_there chart f b K address le r has_points j x p at is k h)));
  stack = stack;
  link = link;
}
