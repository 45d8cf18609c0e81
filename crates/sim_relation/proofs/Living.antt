-- The liveness of a flow gives that of its chart.
use Rattle.std.proofs.Common.{◌≡◌, ℕ, ◌<◌, ◌≤◌, Bool, true, false, [], Some, refl, sym, ap, ◌∙◌, arith, inl, inr, zero, suc}
use Rattle.std.specs.Prelude.{◌&&◌, ◌||◌, not, slice_get, Contains}
use Rattle.std.proofs.lemmas.Bool.Decides.{nat_tests}
use Rattle.std.proofs.lemmas.Bool.{both_ways, or_cases, and_parts}
use Rattle.elf_model.specs.Objects.{ObjectParts}
use Rattle.elf_model.specs.declared.refusals.Refusal.TheVariants.{LiveAtEntry, LiveAtReturn}
use Rattle.thumb_instr.specs.declared.conditions.Cond.{Cond}
use Rattle.thumb_instr.specs.declared.instructions.Instr.{Instr}
use Rattle.thumb_instr.specs.declared.instructions.Instr.TheVariants.{Alu, Move, Test, ShiftBy, Wide, Half, Field, Unary, Mul, MulAcc, LongMul, Div, Access, Pair, Multi, ZeroBranch, Jump, CallReg}
use Rattle.thumb_instr.specs.Formed.{IsFormed}
use Rattle.thumb_instr.specs.Sets.{is_member, reads_of, writes_of, sets_flags_of, cond_reads_of}
use Rattle.thumb_instr.proofs.Decoded.{decode_formed}
use Rattle.flow_recover.specs.declared.flows.Point.{Point}
use Rattle.flow_recover.specs.declared.flows.Exit.TheVariants as exits
use Rattle.flow_recover.specs.Flows.{FlowParts}
use Rattle.liveness.specs.Members.{ReadsRegisters}
use Rattle.liveness.specs.Paths.{may_fail, branch_cond, leaves, boundary_of, Leads, IsLiveBefore, further, here}
use Rattle.liveness.specs.Paths as paths
use Rattle.liveness.specs.Sets.{gains}
use Rattle.liveness.specs.Faults.{is_unset_at_entry, is_lost_in_call, IsLowestLive, at_entry, at_return}
use Rattle.liveness.proofs.ReadFacts.{reads_member, gains_member}
use Rattle.sim_charts.specs.Charts as charts
use Rattle.sim_charts.specs.Boundaries.{boundary, at_transfer}
use Rattle.sim_charts.specs.Boundaries as bounds
use Rattle.sim_relation.specs.Accepted.{Accepted, boundaries}
use Rattle.sim_relation.specs.Spared.{way_by}
use Rattle.sim_relation.specs.Living.{AcceptedLive}
use Rattle.sim_relation.proofs.FlowPoints.{decodes}
use Rattle.sim_relation.proofs.Bounded.{bounded, leaves_alike}

-- only members are live
reads_registers : (i : Instr) → IsFormed i → ReadsRegisters i
reads_registers (Alu i) f = (f.registers.1, f.registers.2)
reads_registers (Move i) f = f.registers.1
reads_registers (Test i) f = f.registers
reads_registers (ShiftBy i) f = (f.registers.1, f.registers.2)
reads_registers (Wide i) f = f.registers.1
reads_registers (Half i) f = f.registers
reads_registers (Field i) f = f.registers
reads_registers (Unary i) f = f.registers.1
reads_registers (Mul i) f = (f.registers.1, f.registers.2)
reads_registers (MulAcc i) f = (f.registers.1, f.registers.2, f.registers.3)
reads_registers (LongMul i) f = (f.registers.2, f.registers.3, f.registers.0, f.registers.1)
reads_registers (Div i) f = (f.registers.1, f.registers.2)
reads_registers (Access i) f = (f.registers.1, f.registers.0, f.registers.2)
reads_registers (Pair i) f = (f.registers.2, f.registers.0, f.registers.1)
reads_registers (Multi i) f = (f.registers, f.fields)
reads_registers (ZeroBranch i) f = f.registers
reads_registers (Jump i) f = f.registers
reads_registers (CallReg i) f = f.registers
reads_registers i f = tt

or_left : (a b : Bool) → a ≡ true → (a || b) ≡ true
or_left true b e = refl
or_left false b e = absurd cc

module _ (o : ObjectParts) (f : FlowParts) (K : ℕ) (accepted : Accepted o f K) (few : K ≤ 4) where
  live_member : (k n : ℕ) → IsLiveBefore f (boundaries K) k n → is_member k ≡ true
  live_member k n l =
      let d = decodes o f accepted.flow l.last l.point l.there in
      let formed = decode_formed d.place d.first d.second l.point.instr d.is in
      let g : gains (boundaries K) [] l.point k ≡ true = or_left (paths.uses_at (boundaries K) l.point k) _ l.used in
      gains_member (boundaries K) [] l.point (λ p j h. absurd (both_ways true (sym h) refl)) (λ j r. reads_member l.point.instr (reads_registers l.point.instr formed) j r) k g

  -- Nothing is live of some members, if no lowest one is.
  none_lives : (among : ℕ → Bool) (n : ℕ) → ((k : ℕ) → IsLowestLive f (boundaries K) among k n → ⊥) → (m k : ℕ) → k < m → among k ≡ true → IsLiveBefore f (boundaries K) k n → ⊥
  none_lives among n none zero k low is l = absurd (omega arith)
  none_lives among n none (suc m) k low is l = none k (record { member = is; live = l; lowest = λ j below a lj. none_lives among n none m j (omega (arith, below, low)) a lj })

  entry_clear : (n k : ℕ) (x : Point) → slice_get f.points n ≡ Some x → Contains f.entries n → is_unset_at_entry k ≡ true → IsLiveBefore f (boundaries K) k n → ⊥
  entry_clear n k x there entry = none_lives is_unset_at_entry n (λ j h. accepted.live (LiveAtEntry j) x.section x.offset (at_entry n j x entry there h)) (suc k) k (omega arith)

  call_clear : (n q k : ℕ) (x : Point) → slice_get f.points n ≡ Some x → x.exit ≡ exits.Call → x.next ≡ Some q → is_lost_in_call k ≡ true → IsLiveBefore f (boundaries K) k q → ⊥
  call_clear n q k x there call next = none_lives is_lost_in_call q (λ j h. accepted.live (LiveAtReturn j) x.section x.offset (at_return n q j x there call next h)) (suc k) k (omega arith)

kept_at_entry : (k : ℕ) → is_member k ≡ true → is_unset_at_entry k ≡ false → at_transfer k ≡ true
kept_at_entry k m u = grind (arith, nat_tests)

kept_in_call : (K k : ℕ) → is_member k ≡ true → is_lost_in_call k ≡ false → (K ≤ k → k < 4 → ⊥) → bounds.at_return K k ≡ true
kept_in_call K k m u r = grind (arith, nat_tests)

abbrev reads_with : Instr → Cond → ℕ → Bool
reads_with i c k = reads_of i k || (cond_reads_of c k || cond_reads_of (branch_cond i) k)

abbrev writes_with : Instr → Cond → ℕ → Bool
writes_with i c k = not (may_fail c || may_fail (branch_cond i)) && (writes_of i k || sets_flags_of i k)

abbrev condition_of : Instr → Cond → Bool
condition_of i c = may_fail c || may_fail (branch_cond i)

pub accepted_live : AcceptedLive
accepted_live o f K accepted few chart n x p there is =
    let reads : (k : ℕ) → charts.reads_at p k ≡ paths.reads_at x k = λ k. ap (λ i. reads_with i (charts.cond_of p) k) is.instr ∙ ap (λ c. reads_with x.instr c k) is.cond in
    let writes : (k : ℕ) → charts.always_writes p k ≡ paths.always_writes x k = λ k. ap (λ i. writes_with i (charts.cond_of p) k) is.instr ∙ ap (λ c. writes_with x.instr c k) is.cond in
    let condition : charts.has_condition p ≡ paths.has_condition x = ap (λ i. condition_of i (charts.cond_of p)) is.instr ∙ ap (λ c. condition_of x.instr c) is.cond in
    let t = is.follows.target in
    let leaving : leaves p.way ≡ leaves x.exit = ap leaves is.follows.way ∙ leaves_alike t x.exit in
    record {
      used = λ k u. (is.live k).1 (record { last = n; point = x; path = here n; there = there; used = used_by o f K few x p t is.follows.way k (reads k) (writes k) u });
      passed = λ k a q passes lead at live unwritten.
          let l = is.follows.live k a q lead at live in
          let path = l.2 in
          (is.live k).1 (record {
            last = path.last;
            point = path.point;
            path = further n l.0 path.last x there (ap (λ b. not b || paths.has_condition x) (sym leaving) ∙ (ap (λ b. not (leaves p.way) || b) (sym condition) ∙ passes)) (sym (writes k) ∙ unwritten) l.1 path.path;
            there = path.there;
            used = path.used;
          });
      entered = λ k entry live.
          let l = (is.live k).0 live in
          kept_at_entry k (live_member o f K accepted few k n l) (not_true (is_unset_at_entry k) (λ u. entry_clear o f K accepted few n k x there (is.entry entry) u l));
      returned = λ k a q call next at live.
          let l = is.follows.live k a q (inl next) at live in
          let exit : x.exit ≡ exits.Call = is_call t x.exit (sym is.follows.way ∙ call) in
          let to : x.next ≡ Some l.0 = only_next x l.0 exit l.1 in
          kept_in_call K k (live_member o f K accepted few k l.0 l.2) (not_true (is_lost_in_call k) (λ u. call_clear o f K accepted few n l.0 k x there exit to u l.2))
          (λ above below. accepted.results n l.0 k x there exit to above below l.2);
    }
  where
    not_true : (b : Bool) → (b ≡ true → ⊥) → b ≡ false
    not_true true h = absurd (h refl)
    not_true false h = refl

    is_call : (t : ℕ) (e : charts.Way) → way_by t e ≡ charts.Call → e ≡ exits.Call
    is_call t exits.Falls e = absurd cc
    is_call t (exits.Branch q) e = absurd cc
    is_call t exits.Transfer e = absurd cc
    is_call t exits.Call e = refl
    is_call t exits.Return e = absurd cc
    is_call t exits.Stops e = absurd cc

    only_next : (x : Point) (m : ℕ) → x.exit ≡ exits.Call → Leads x m → x.next ≡ Some m
    only_next x m call (inl e) = e
    only_next x m call (inr e) = absurd (apart (sym call ∙ e))
      where
        apart : (let w : charts.Way = exits.Call in w) ≡ exits.Branch m → ⊥
        apart e = cc

    used_by : (o : ObjectParts) (f : FlowParts) (K : ℕ) → K ≤ 4 → (x : Point) (p : charts.Point) (t : ℕ) → p.way ≡ way_by t x.exit → (k : ℕ) → charts.reads_at p k ≡ paths.reads_at x k → charts.always_writes p k ≡ paths.always_writes x k
        → bounds.uses_at K p k ≡ true → paths.uses_at (boundaries K) x k ≡ true
    used_by o f K few x p t way k reads writes u =
        elim (or_cases (charts.reads_at p k) (boundary K p.way k && not (charts.always_writes p k)) u) [
          | inl r ↦ ap (λ b. b || (boundary_of (boundaries K) x.exit k && not (paths.always_writes x k))) (sym reads ∙ r)
          | inr b ↦
              let both = and_parts (boundary K p.way k) (not (charts.always_writes p k)) b in
              let kept : boundary_of (boundaries K) x.exit k ≡ true = bounded K t k x.exit few (ap (λ w. boundary K w k) (sym way) ∙ both.0) in
              let unwritten : not (paths.always_writes x k) ≡ true = ap not (sym writes) ∙ both.1 in
              or_right (paths.reads_at x k) _ (ap (λ b. b && not (paths.always_writes x k)) kept ∙ unwritten)
        ]
      where
        or_right : (a b : Bool) → b ≡ true → (a || b) ≡ true
        or_right true b e = refl
        or_right false b e = e
