-- The points of a flow meet what is asked of them, by what linking gives.
use Rattle.std.proofs.Common.{◌≡◌, ℕ, ◌+◌, ◌<◌, inl, inr, Bool, true, false, length, Some, Ok, refl, sym, ap, ◌∙◌, subst}
use Rattle.std.specs.Prelude.{◌==◌, if◌then◌else◌, slice_get}
use Rattle.std.proofs.lemmas.Option.{slice_get_within}
use Rattle.elf_model.specs.Objects.{ObjectParts}
use Rattle.elf_model.specs.declared.refusals.Refusal.TheVariants as refusal
use Rattle.elf_model.proofs.Elements.{contains_at}
use Rattle.thumb_instr.specs.declared.instructions.Instr.{Instr}
use Rattle.thumb_instr.specs.declared.instructions.Instr.TheVariants as instr
use Rattle.thumb_instr.specs.Fields.{AdrFields, BranchFields, ZeroBranchFields, CallFields}
use Rattle.thumb_instr.specs.Numbers.{renumbered}
use Rattle.thumb_table.specs.Parts.{CodeBytes}
use Rattle.thumb_table.specs.Values.{away}
use Rattle.flow_recover.specs.declared.flows.Exit.TheVariants.{Falls, Branch, Transfer, Call, Return}
use Rattle.flow_recover.specs.declared.flows.Point.{Point as FlowPoint}
use Rattle.flow_recover.specs.Flows.{FlowParts}
use Rattle.flow_recover.specs.Aims.{is_branch, has_offset}
use Rattle.flow_recover.specs.Reach.{IsFound}
use Rattle.flow_recover.specs.Aims.{offset_of}
use Rattle.flow_recover.specs.FlowFaults.FlowFault.{adr}
use Rattle.flow_recover.specs.WholeFlows.{IsFlow, IsExit, plain_exit}
use Rattle.flow_recover.specs.WholeFlows.IsExit.{plain, near, far}
use Rattle.flow_recover.proofs.FlowPoints.{target_there}
use Rattle.liveness.specs.declared.boundary.Boundary.{Boundary}
use Rattle.seq_core.specs.Meanings.{Ends}
use Rattle.sim_charts.specs.Charts.{Chart, Point, Onward, leaves}
use Rattle.sim_steps.specs.Facts.{Meets, LeadsTo, to_point, to_entry}
use Rattle.sim_flows.specs.Points.{exit_at, IsPointOf, HasPoints}
use Rattle.sim_flows.specs.Meeting.{target_at, IsLinkedAt, FlowsMeet}
use Rattle.sim_flows.proofs.Continuing.{pick}

number_branches : (i : Instr) (n : ℕ) → is_branch (renumbered n i) ≡ is_branch i
number_branches (instr.Half i) n = refl
number_branches (instr.Branch i) n = refl
number_branches (instr.Call i) n = refl
number_branches i n = refl

number_exits : (i : Instr) (n : ℕ) → plain_exit (renumbered n i) ≡ plain_exit i
number_exits (instr.Half i) n = refl
number_exits (instr.Branch i) n = refl
number_exits (instr.Call i) n = refl
number_exits i n = refl

-- what is ADR but for a number is ADR
is_adr : (i : Instr) (b : AdrFields) → renumbered 0 i ≡ instr.Adr b → i ≡ instr.Adr b
is_adr (instr.Half i) b e = absurd cc
is_adr (instr.Branch i) b e = absurd cc
is_adr (instr.Call i) b e = absurd cc
is_adr i b e = e

-- how a point goes on, by its instruction in the image
data Goes (x : FlowPoint) (i : Instr) : Type 0 where
  by_kind : is_branch i ≡ false → x.exit ≡ plain_exit i → Goes x i
  to_near : (m : ℕ) → is_branch i ≡ true → x.exit ≡ Branch m → Goes x i
  to_far : is_branch i ≡ true → x.exit ≡ Transfer → Goes x i

module _ (chart : Chart) (code : CodeBytes) (o : ObjectParts) (f : FlowParts) (b : Boundary) (address : ℕ → ℕ) (flow : IsFlow o f) (has_points : HasPoints chart f b address)
    (j n : ℕ) (x : FlowPoint) (p : Point) (ends : Ends) (at : slice_get f.points j ≡ Some x) (is : IsPointOf f b address j x p) (link : IsLinkedAt chart code address (address j) x p n ends) where
  within : j < length flow.nodes
  within = subst (λ k. j < k) flow.count (slice_get_within f.points j x at)

  goes : Goes x p.instr
  goes =
      let m = pick flow.nodes j within in
      let pt = flow.points j m.0 x m.1 at in
      by_exit pt.exit
    where
      same_branch : is_branch p.instr ≡ is_branch x.instr
      same_branch = sym (number_branches p.instr 0) ∙ ap is_branch (is.instr 0) ∙ number_branches x.instr 0

      same_exit : plain_exit x.instr ≡ plain_exit p.instr
      same_exit = sym (number_exits x.instr 0) ∙ ap plain_exit (sym (is.instr 0)) ∙ number_exits p.instr 0

      by_exit : {n : _} → IsExit o flow.nodes n x.instr x.exit → Goes x p.instr
      by_exit (plain unlike eq) = by_kind (same_branch ∙ unlike) (eq ∙ same_exit)
      by_exit (near t q branch aim node eq) = to_near q (same_branch ∙ branch) eq
      by_exit (far a branch aim away eq) = to_far (same_branch ∙ branch) eq

  -- ADR is refused
  no_adr : (b : AdrFields) → p.instr ≡ instr.Adr b → ⊥
  no_adr b e =
      let m = pick flow.nodes j within in
      let pt = flow.points j m.0 x m.1 at in
      let same : x.instr ≡ instr.Adr b = is_adr x.instr b (sym (is.instr 0) ∙ ap (renumbered 0) e) in
      let reached = (flow.reached m.0).0 (contains_at flow.nodes j m.0 m.1) in
      flow.no_fault refusal.PcOperand m.0.section m.0.offset (adr m.0 b (record { reached = reached; found = subst (λ i. IsFound o m.0 (Ok i)) same pt.instr }) refl refl refl)

  -- a point by its number
  point_there : (m : ℕ) → x.exit ≡ Branch m → (q : Point) × (chart (address m) ≡ Some q)
  point_there m e = let y = (target_there o f flow j x at m e).2 in let h = has_points m y.point y.there in (h.0, h.1)

  kind_exit : (i : Instr) → p.instr ≡ i → is_branch i ≡ false → x.exit ≡ plain_exit i
  kind_exit i e un = by_goes goes
    where
      by_goes : Goes x p.instr → x.exit ≡ plain_exit i
      by_goes (by_kind u q) = q ∙ ap plain_exit e
      by_goes (to_near m u q) = let z = sym u ∙ ap is_branch e ∙ un in absurd cc
      by_goes (to_far u q) = let z = sym u ∙ ap is_branch e ∙ un in absurd cc

  kind_way : (i : Instr) → p.instr ≡ i → is_branch i ≡ false → p.way ≡ exit_at address (plain_exit i)
  kind_way i e un = is.way ∙ ap (exit_at address) (kind_exit i e un)

  return_at : (v : Bool) → exit_at address (if v then Return else Transfer) ≡ (if v then Return else Transfer)
  return_at true = refl
  return_at false = refl

  list_at : (v : Bool) → exit_at address (if v then Return else Falls) ≡ (if v then Return else Onward)
  list_at true = refl
  list_at false = refl

  target_is : (i : Instr) → p.instr ≡ i → target_at (address j) p ≡ away (address j + 4) (offset_of i)
  target_is i e = ap (λ v. away (address j + 4) (offset_of v)) e

  branch_meets : (c : BranchFields) → p.instr ≡ instr.Branch c → LeadsTo chart p.way (away (address j + 4) c.offset) ends.target
  branch_meets c e = by_goes goes
    where
      by_goes : Goes x p.instr → LeadsTo chart p.way (away (address j + 4) c.offset) ends.target
      by_goes (by_kind u q) = let z = sym u ∙ ap is_branch e in absurd cc
      by_goes (to_near m u q) =
          let r = point_there m q in
          let l = link.near m r.0 q r.1 in
          let t : address m ≡ away (address j + 4) c.offset = sym l.0 ∙ target_is (instr.Branch c) e in
          to_point r.0 (is.way ∙ ap (exit_at address) q ∙ ap (λ v. Branch v) t) (ap chart (sym t) ∙ r.1) l.1
      by_goes (to_far u q) =
          let l = link.far (ap has_offset e) (inl q) in
          to_entry l.0 (is.way ∙ ap (exit_at address) q) (ap chart (sym (target_is (instr.Branch c) e)) ∙ l.1) l.2 l.3

  zero_meets : (c : ZeroBranchFields) → p.instr ≡ instr.ZeroBranch c → (q : Point) × (p.way ≡ Branch (away (address j + 4) c.offset)) × (chart (away (address j + 4) c.offset) ≡ Some q) × (ends.target ≡ q.place)
  zero_meets c e = by_goes goes
    where
      by_goes : Goes x p.instr → (q : Point) × (p.way ≡ Branch (away (address j + 4) c.offset)) × (chart (away (address j + 4) c.offset) ≡ Some q) × (ends.target ≡ q.place)
      by_goes (by_kind u q) = let z = sym u ∙ ap is_branch e in absurd cc
      by_goes (to_near m u q) =
          let r = point_there m q in
          let l = link.near m r.0 q r.1 in
          let t : address m ≡ away (address j + 4) c.offset = sym l.0 ∙ target_is (instr.ZeroBranch c) e in
          (r.0, is.way ∙ ap (exit_at address) q ∙ ap (λ v. Branch v) t, ap chart (sym t) ∙ r.1, l.1)
      by_goes (to_far u q) = let z = sym (link.zero c e) ∙ ap leaves q in absurd cc

  call_meets : (c : CallFields) → p.instr ≡ instr.Call c → (q : Point) × (p.way ≡ Call) × (ends.back ≡ p.back) × (chart (away (address j + 4) c.offset) ≡ Some q) × (q.entry ≡ true) × (ends.target ≡ q.place)
  call_meets c e =
      let l = link.far (ap has_offset e) (inr (kind_exit (instr.Call c) e refl)) in
      (l.0, kind_way (instr.Call c) e refl, link.back (kind_exit (instr.Call c) e refl), ap chart (sym (target_is (instr.Call c) e)) ∙ l.1, l.2, l.3)

  by_instr : (i : Instr) → p.instr ≡ i → Meets chart code (address j) p n ends i
  by_instr (instr.Alu c) e = ap leaves (kind_way (instr.Alu c) e refl)
  by_instr (instr.Move c) e = ap leaves (kind_way (instr.Move c) e refl)
  by_instr (instr.Test c) e = ap leaves (kind_way (instr.Test c) e refl)
  by_instr (instr.ShiftBy c) e = ap leaves (kind_way (instr.ShiftBy c) e refl)
  by_instr (instr.Wide c) e = ap leaves (kind_way (instr.Wide c) e refl)
  by_instr (instr.Half c) e = (ap leaves (kind_way (instr.Half c) e refl), link.half c e)
  by_instr (instr.Field c) e = ap leaves (kind_way (instr.Field c) e refl)
  by_instr (instr.Unary c) e = ap leaves (kind_way (instr.Unary c) e refl)
  by_instr (instr.Mul c) e = ap leaves (kind_way (instr.Mul c) e refl)
  by_instr (instr.MulAcc c) e = ap leaves (kind_way (instr.MulAcc c) e refl)
  by_instr (instr.LongMul c) e = ap leaves (kind_way (instr.LongMul c) e refl)
  by_instr (instr.Div c) e = ap leaves (kind_way (instr.Div c) e refl)
  by_instr (instr.Access c) e = ap leaves (kind_way (instr.Access c) e refl)
  by_instr (instr.Pair c) e = ap leaves (kind_way (instr.Pair c) e refl)
  by_instr (instr.Multi c) e = kind_way (instr.Multi c) e refl ∙ list_at c.pc
  by_instr (instr.Literal c) e = (ap leaves (kind_way (instr.Literal c) e refl), link.word c e)
  by_instr (instr.Adr c) e = no_adr c e
  by_instr (instr.Branch c) e = branch_meets c e
  by_instr (instr.ZeroBranch c) e = zero_meets c e
  by_instr (instr.Call c) e = call_meets c e
  by_instr (instr.CallReg c) e = (kind_way (instr.CallReg c) e refl, link.back (kind_exit (instr.CallReg c) e refl))
  by_instr (instr.Jump c) e = kind_way (instr.Jump c) e refl ∙ return_at (c.m == 14)
  by_instr (instr.It c) e = ap leaves (kind_way (instr.It c) e refl)
  by_instr (instr.Nothing c) e = ap leaves (kind_way (instr.Nothing c) e refl)
  by_instr (instr.Trap c) e = ap leaves (kind_way (instr.Trap c) e refl)

pub flows_meet : FlowsMeet
flows_meet chart code o f b address flow has_points j n x p ends at is link = by_instr chart code o f b address flow has_points j n x p ends at is link p.instr refl
