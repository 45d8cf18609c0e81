-- Control goes on in a flow, at the addresses of its points.
use Rattle.std.proofs.Common.{◌≡◌, ℕ, ◌+◌, ◌<◌, ⊎_elim, Bool, true, false, List, length, Some, None, refl, sym, ap, ◌∙◌, subst, arith}
use Rattle.std.specs.Prelude.{◌||◌, ◌==◌, if◌then◌else◌, map, slice_get}
use Rattle.std.proofs.lemmas.Option.{slice_get_cases, slice_get_within}
use Rattle.elf_model.specs.Objects.{ObjectParts}
use Rattle.elf_model.proofs.Lists.{get_map}
use Rattle.thumb_instr.specs.Blocks.{block_condition}
use Rattle.thumb_instr.specs.declared.instructions.Instr.{Instr}
use Rattle.thumb_instr.specs.declared.instructions.Instr.TheVariants as instr
use Rattle.thumb_instr.specs.Sets.{writes_of, sets_flags_of}
use Rattle.thumb_table.specs.Parts.{CodeBytes}
use Rattle.thumb_table.specs.Ordinary.{IsClear}
use Rattle.flow_recover.specs.declared.flows.Exit.{Exit}
use Rattle.flow_recover.specs.declared.flows.Exit.TheVariants.{Falls, Branch, Transfer, Call, Return, Stops}
use Rattle.flow_recover.specs.declared.flows.Point.{Point as FlowPoint}
use Rattle.flow_recover.specs.Flows.{FlowParts}
use Rattle.flow_recover.specs.Aims.{is_branch}
use Rattle.flow_recover.specs.Points.{end_of}
use Rattle.flow_recover.specs.WholeFlows.{IsFlow, IsExit, IsNext, plain_exit}
use Rattle.flow_recover.specs.WholeFlows.IsExit.{plain, near, far}
use Rattle.flow_recover.specs.WholeFlows.IsNext.{on, none}
use Rattle.flow_recover.proofs.FlowPoints.{next_there, target_there, call_stops}
use Rattle.liveness.specs.declared.boundary.Boundary.{Boundary}
use Rattle.seq_core.specs.Reading.{may_jump}
use Rattle.sim_charts.specs.Charts.{Chart, Point, jumps, sets_of, cond_of, may_fail, falls, it_behind}
use Rattle.sim_charts.specs.Flows.{Stands}
use Rattle.sim_charts.proofs.Sets.{or_left}
use Rattle.sim_steps.proofs.Placed.{jumps_stand_last, blocks_stand_apart}
use Rattle.sim_flows.specs.Points.{exit_at, next_at, IsPointOf, HasPoints}
use Rattle.sim_flows.specs.Continuing.{ArePlaced, FlowsContinue}
use Rattle.sim_flows.proofs.Numbers.{same_behind, same_falls, same_jumps, same_writes}
use Rattle.sim_flows.proofs.Living.{next_leads, branch_leads, call_is, some_is}

-- an element by its number
pub pick : {X : Type 0} (xs : List X) (k : ℕ) → k < length xs → (x : X) × (slice_get xs k ≡ Some x)
pick xs k lt = ⊎_elim (λ c. (c.0, c.2)) (λ c. absurd (omega (arith, c.0, lt))) (slice_get_cases xs k).1

number_is : (a b : ℕ) → Some a ≡ Some b → a ≡ b
number_is a b e = cc

-- ---- exits of instructions

jumps_same : (address : ℕ → ℕ) (e : Exit) → jumps (exit_at address e) ≡ jumps e
jumps_same address Falls = refl
jumps_same address (Branch q) = refl
jumps_same address Transfer = refl
jumps_same address Call = refl
jumps_same address Return = refl
jumps_same address Stops = refl

list_jumps : (pc : Bool) → jumps (if pc then Return else Falls) ≡ true → pc ≡ true
list_jumps true e = refl
list_jumps false e = absurd cc

plain_jumps : (i : Instr) → jumps (plain_exit i) ≡ true → may_jump i ≡ true
plain_jumps (instr.Call i) e = refl
plain_jumps (instr.CallReg i) e = refl
plain_jumps (instr.Jump i) e = refl
plain_jumps (instr.Multi i) e = list_jumps i.pc e
plain_jumps (instr.Branch i) e = refl
plain_jumps (instr.ZeroBranch i) e = refl
plain_jumps (instr.Trap i) e = absurd cc
plain_jumps i e = absurd cc

branch_jumps : (i : Instr) → is_branch i ≡ true → may_jump i ≡ true
branch_jumps (instr.Branch i) e = refl
branch_jumps (instr.ZeroBranch i) e = refl
branch_jumps i e = absurd cc

return_or : (v : Bool) (m : ℕ) → (if v then Return else Transfer) ≡ Branch m → ⊥
return_or true m e = absurd cc
return_or false m e = absurd cc

return_or_falls : (v : Bool) (m : ℕ) → (if v then Return else Falls) ≡ Branch m → ⊥
return_or_falls true m e = absurd cc
return_or_falls false m e = absurd cc

plain_leads_none : (i : Instr) (m : ℕ) → plain_exit i ≡ Branch m → ⊥
plain_leads_none (instr.Jump i) m e = return_or (i.m == 14) m e
plain_leads_none (instr.Multi i) m e = return_or_falls i.pc m e
plain_leads_none (instr.Call i) m e = absurd cc
plain_leads_none (instr.CallReg i) m e = absurd cc
plain_leads_none (instr.Trap i) m e = absurd cc
plain_leads_none i m e = absurd cc

return_is : (v : Bool) → (if v then Return else Transfer) ≡ Call → ⊥
return_is true e = absurd cc
return_is false e = absurd cc

return_is_falls : (v : Bool) → (if v then Return else Falls) ≡ Call → ⊥
return_is_falls true e = absurd cc
return_is_falls false e = absurd cc

plain_links : (i : Instr) → plain_exit i ≡ Call → writes_of i 14 ≡ true
unfolding writes_of
plain_links (instr.Call i) e = refl
plain_links (instr.CallReg i) e = refl
plain_links (instr.Jump i) e = absurd (return_is (i.m == 14) e)
plain_links (instr.Multi i) e = absurd (return_is_falls i.pc e)
plain_links (instr.Trap i) e = absurd cc
plain_links i e = absurd cc

module _ (chart : Chart) (code : CodeBytes) (o : ObjectParts) (f : FlowParts) (b : Boundary) (start address : ℕ → ℕ) (flow : IsFlow o f) (has_points : HasPoints chart f b address) (placed : ArePlaced o f flow chart code start address) where
  module _ (j : ℕ) (x : FlowPoint) (p : Point) (at : slice_get f.points j ≡ Some x) (there : chart (address j) ≡ Some p) where
    is_point : IsPointOf f b address j x p
    is_point = let h = has_points j x at in subst (IsPointOf f b address j x) (some_is h.0 p (sym h.1 ∙ there)) h.2

    -- its IT state
    state_is : (k : ℕ) → slice_get (map (λ n. n.it) flow.nodes) j ≡ Some k → p.it ≡ k
    state_is k e = number_is p.it k (sym (placed.states j x p at there) ∙ e)

  module _ (j : ℕ) (x : FlowPoint) (p : Point) (at : slice_get f.points j ≡ Some x) (there : chart (address j) ≡ Some p) (stands : Stands code (address j) p) where
    is : IsPointOf f b address j x p
    is = is_point j x p at there

    within : j < length flow.nodes
    within = subst (λ k. j < k) flow.count (slice_get_within f.points j x at)

    behind_address : (q : ℕ) → x.next ≡ Some q → address q ≡ address j + p.width
    behind_address q e =
        let y = next_there o f flow j x at q e in
        let a = placed.addresses q y.point y.there in
        let c = placed.addresses j x at in
        let w = placed.widths j x p at there in
        let s : start y.point.section ≡ start x.section = ap start y.section in
        let k : y.point.offset ≡ x.offset + (if x.wide then 4 else 2) = y.offset in
        omega (arith, a, c, w, s, k)

    next_is : (a : ℕ) → p.next ≡ Some a → (q : ℕ) × (x.next ≡ Some q) × (address q ≡ a)
    next_is a e = next_leads address x.next a (sym is.next ∙ e)

    goes_next : (q : ℕ) → x.next ≡ Some q → p.next ≡ Some (address j + p.width)
    goes_next q e = is.next ∙ ap (next_at address) e ∙ ap Some (behind_address q e)

    -- the point behind
    next_point : (a : ℕ) → p.next ≡ Some a → (q : Point) × (chart a ≡ Some q) × (a ≡ address j + p.width) × (q.place ≡ p.end) × (q.it ≡ it_behind p.instr p.it)
    next_point a e =
        let n = next_is a e in
        let y = next_there o f flow j x at n.0 n.1 in
        let h = has_points n.0 y.point y.there in
        let m = pick flow.nodes j within in
        let pt = flow.points j m.0 x m.1 at in
        let mine : p.it ≡ m.0.it = state_is j x p at there m.0.it (get_map (λ n. n.it) flow.nodes j m.0 m.1) in
        let state : h.0.it ≡ it_behind x.instr m.0.it = by_next pt.next n.0 n.1 h.0 (λ k z. state_is n.0 y.point h.0 y.there h.1 k z) in
        (h.0, ap chart (sym n.2) ∙ h.1, sym n.2 ∙ behind_address n.0 n.1, placed.ends j n.0 x p h.0 at there n.1 h.1, state ∙ ap (it_behind x.instr) (sym mine) ∙ sym (same_behind p.instr x.instr (is.instr 0) p.it))
      where
        by_next : {n : _} → IsNext o flow.nodes n x.instr x.next → (q : ℕ) → x.next ≡ Some q → (r : Point) → ((k : ℕ) → slice_get (map (λ n. n.it) flow.nodes) q ≡ Some k → r.it ≡ k) → r.it ≡ it_behind x.instr n.it
        by_next {n} (on q' goes t e') q e'' r state =
            state (it_behind x.instr n.it) (subst (λ z. slice_get (map (λ n. n.it) flow.nodes) z ≡ Some (it_behind x.instr n.it)) (number_is q' q (sym e' ∙ e'')) (get_map (λ n. n.it) flow.nodes q' _ t))
        by_next (none ends e') q e'' r state = let z = sym e' ∙ e'' in absurd cc

    -- it has one where it may fall
    goes_onward : (may_fail (cond_of p) || falls p.instr) ≡ true → p.next ≡ Some (address j + p.width)
    goes_onward e =
        let m = pick flow.nodes j within in
        let pt = flow.points j m.0 x m.1 at in
        let may : (may_fail (block_condition m.0.it) || falls x.instr) ≡ true = sym (ap (λ c. may_fail c || falls p.instr) (is.cond ∙ pt.cond) ∙ ap (λ v. may_fail (block_condition m.0.it) || v) (same_falls p.instr x.instr (is.instr 0))) ∙ e in
        by_next pt.next may
      where
        by_next : {n : _} → IsNext o flow.nodes n x.instr x.next → (may_fail (block_condition n.it) || falls x.instr) ≡ true → p.next ≡ Some (address j + p.width)
        by_next (on q goes t e') may = goes_next q e'
        by_next (none ends e') may = let z = sym ends.leaves ∙ may in absurd cc

    leads_away : jumps p.way ≡ true → may_jump p.instr ≡ true
    leads_away e =
        let m = pick flow.nodes j within in
        let pt = flow.points j m.0 x m.1 at in
        same_jumps p.instr x.instr (is.instr 0) ∙ by_exit pt.exit (sym (ap jumps is.way ∙ jumps_same address x.exit) ∙ e)
      where
        by_exit : {n : _} → IsExit o flow.nodes n x.instr x.exit → jumps x.exit ≡ true → may_jump x.instr ≡ true
        by_exit (plain unlike eq) e = plain_jumps x.instr (sym (ap jumps eq) ∙ e)
        by_exit (near t q branch aim node eq) e = branch_jumps x.instr branch
        by_exit (far a branch aim away eq) e = branch_jumps x.instr branch

    branches_clear : (t : ℕ) (q : Point) → p.way ≡ Branch t → chart t ≡ Some q → q.it ≡ 0
    branches_clear t q e there' =
        let m = pick flow.nodes j within in
        let pt = flow.points j m.0 x m.1 at in
        let n = branch_leads address x.exit t (sym is.way ∙ e) in
        let y = (target_there o f flow j x at n.0 n.1).2 in
        by_exit pt.exit n.0 n.1 (λ k z. state_is n.0 y.point q y.there (ap chart n.2 ∙ there') k z)
      where
        by_exit : {n : _} → IsExit o flow.nodes n x.instr x.exit → (m : ℕ) → x.exit ≡ Branch m → ((k : ℕ) → slice_get (map (λ n. n.it) flow.nodes) m ≡ Some k → q.it ≡ k) → q.it ≡ 0
        by_exit (plain unlike eq) m e state = absurd (plain_leads_none x.instr m (sym eq ∙ e))
        by_exit (near t' q' branch aim node eq) m e state =
            let same : q' ≡ m = let z = sym eq ∙ e in cc in
            state 0 (subst (λ z. slice_get (map (λ n. n.it) flow.nodes) z ≡ Some 0) same (get_map (λ n. n.it) flow.nodes q' _ node))
        by_exit (far a branch aim away eq) m e state = let z = sym eq ∙ e in absurd cc

    enters_clear : p.entry ≡ true → p.it ≡ 0
    enters_clear e =
        let c = (flow.entries j).0 (is.entry e) in
        state_is j x p at there 0 (get_map (λ n. n.it) flow.nodes j _ c.2.1)

    calls_link : p.way ≡ Call → sets_of p.instr 14 ≡ true
    calls_link e =
        let m = pick flow.nodes j within in
        let pt = flow.points j m.0 x m.1 at in
        or_left (writes_of p.instr 14) (sets_flags_of p.instr 14) (same_writes p.instr x.instr (is.instr 0) 14 ∙ by_exit pt.exit (call_is address x.exit (sym is.way ∙ e)))
      where
        by_exit : {n : _} → IsExit o flow.nodes n x.instr x.exit → x.exit ≡ Call → writes_of x.instr 14 ≡ true
        by_exit (plain unlike eq) e = plain_links x.instr (sym eq ∙ e)
        by_exit (near t q branch aim node eq) e = let z = sym eq ∙ e in absurd cc
        by_exit (far a branch aim away eq) e = let z = sym eq ∙ e in absurd cc

    calls_return : p.way ≡ Call → IsClear code (address j + p.width) → p.next ≡ Some (address j + p.width)
    calls_return e clear = elim x.next as (λ v. x.next ≡ v → p.next ≡ Some (address j + p.width)) [
      | None ↦ λ q.
          let stop = call_stops o f flow j x at (call_is address x.exit (sym is.way ∙ e)) q in
          let c = placed.addresses j x at in
          let w = placed.widths j x p at there in
          let same : address j + p.width ≡ start x.section + end_of x = omega (arith, c, w) in
          absurd (placed.stops j x at (call_is address x.exit (sym is.way ∙ e)) q stop (subst (IsClear code) same clear))
      | Some n ↦ λ q. goes_next n q
    ] refl

pub flows_continue : FlowsContinue
flows_continue chart code o f b start address flow has_points placed j x p at there stands = record {
  next = next_point chart code o f b start address flow has_points placed j x p at there stands;
  onward = goes_onward chart code o f b start address flow has_points placed j x p at there stands;
  no_it = λ e. blocks_stand_apart p.it stands.fetched.first stands.fetched.second p.instr stands.means e;
  last = λ e. jumps_stand_last p.it stands.fetched.first stands.fetched.second p.instr stands.means (leads_away chart code o f b start address flow has_points placed j x p at there stands e);
  branch = branches_clear chart code o f b start address flow has_points placed j x p at there stands;
  entry = enters_clear chart code o f b start address flow has_points placed j x p at there stands;
  links = calls_link chart code o f b start address flow has_points placed j x p at there stands;
  returns = calls_return chart code o f b start address flow has_points placed j x p at there stands;
  back = λ a way e.
      let is = is_point chart code o f b start address flow has_points placed j x p at there in
      let n = next_leads address x.next a (sym is.next ∙ e) in
      placed.backs j n.0 x p at there (call_is address x.exit (sym is.way ∙ way)) n.1;
}
