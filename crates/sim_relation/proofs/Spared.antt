-- What a unit of a pair may lose is dead behind its point.
use Rattle.std.proofs.Common.{◌≡◌, ℕ, suc, ◌<◌, ◌≤◌, Bool, true, false, List, [], ◌∷◌, Some, refl, sym, ap, ◌∙◌, subst, arith, inl, inr}
use Rattle.std.specs.Prelude.{◌==◌, ◌&&◌, ◌||◌, if◌then◌else◌, slice_get, Contains}
use Rattle.std.proofs.lemmas.Bool.Decides.{nat_tests}
use Rattle.std.proofs.lemmas.Bool.{both_ways, eqb-true, or_cases, and_parts, false_from_ne_true}
use Rattle.elf_model.specs.Objects.{ObjectParts}
use Rattle.thumb_instr.specs.declared.instructions.Instr.{Instr}
use Rattle.thumb_instr.specs.declared.instructions.Instr.TheVariants as instr
use Rattle.thumb_instr.specs.Sets.{is_flag, reads_of, writes_of, sets_flags_of}
use Rattle.thumb_table.specs.Schedules.{is_in}
use Rattle.flow_recover.specs.declared.flows.Point.{Point}
use Rattle.flow_recover.specs.declared.flows.Exit.{Exit}
use Rattle.flow_recover.specs.declared.flows.Exit.TheVariants as exits
use Rattle.flow_recover.specs.Aims.{is_branch}
use Rattle.flow_recover.specs.Flows.{FlowParts}
use Rattle.flow_recover.specs.WholeFlows.{IsExit, plain, near, far, plain_exit, IsFlow}
use Rattle.liveness.specs.Paths.{leaves, IsLiveAfter, at_boundary, before_next}
use Rattle.seq_core.specs.Classes.{has_pc, adds_long_product}
use Rattle.seq_core.specs.Accepted.{loads_pc_by_pop}
use Rattle.seq_core.proofs.DecodesApart.{decodes_use_stack}
use Rattle.sim_charts.specs.Charts.{sets_of}
use Rattle.sim_charts.specs.Boundaries.{boundary}
use Rattle.sim_relation.specs.Accepted.{boundaries}
use Rattle.sim_relation.specs.Sequences.{Sequence}
use Rattle.sim_relation.specs.Doing.{loses, IsSpare}
use Rattle.sim_relation.specs.Spared.{way_by, PairsSpare}
use Rattle.sim_relation.proofs.FlowPoints.{has_node, the_point, decodes}
use Rattle.sim_relation.proofs.Bounded.{bounded, no_link_at_return, leaves_alike}

-- why a member is lost
data IsLost (i : Instr) (scratch : List ℕ) (k : ℕ) : Type 0 where
  by_scratch : Contains scratch k → IsLost i scratch k
  by_flag : adds_long_product i ≡ true → is_flag k ≡ true → IsLost i scratch k
  by_pc : has_pc i ≡ true → k ≡ 14 → IsLost i scratch k

in_contains : (xs : List ℕ) (k : ℕ) → is_in xs k ≡ true → Contains xs k
in_contains [] k e = absurd cc
in_contains (x ∷ xs) k e =
    elim (or_cases (x == k) (is_in xs k) e) [
      | inl here ↦ (0, omega arith, eqb-true x k here)
      | inr later ↦ let c = in_contains xs k later in (suc c.0, omega (arith, c.1), c.2)
    ]

lost_by : (i : Instr) (scratch : List ℕ) (k : ℕ) → loses i scratch k ≡ true → IsLost i scratch k
lost_by i scratch k e =
    elim (or_cases (is_in scratch k || (adds_long_product i && is_flag k)) (has_pc i && (k == 14)) e) [
      | inl l ↦ elim (or_cases (is_in scratch k) (adds_long_product i && is_flag k) l) [
        | inl s ↦ by_scratch (in_contains scratch k s)
        | inr f ↦ let both = and_parts (adds_long_product i) (is_flag k) f in by_flag both.0 both.1
      ]
      | inr p ↦ let both = and_parts (has_pc i) (k == 14) p in by_pc both.0 (eqb-true k 14 both.1)
    ]

flag_high : (k : ℕ) → is_flag k ≡ true → 15 < k
flag_high k e = grind (arith, nat_tests)

-- what loads pc returns, and names no lr
pc_returns : (i : Instr) → has_pc i ≡ true → (is_branch i ≡ false) × (plain_exit i ≡ exits.Return)
pc_returns (instr.Multi i) e = (refl, ap (λ (b : Bool). if b then exits.Return else exits.Falls) e)
pc_returns i e = absurd cc

no_link : (i : Instr) → has_pc i ≡ true → loads_pc_by_pop i ≡ true → (reads_of i 14 || sets_of i 14) ≡ false
unfolding reads_of writes_of sets_flags_of
no_link (instr.Multi i) e p = grind (arith, nat_tests)
no_link i e p = absurd cc

-- what a point's flow gives
module _ (o : ObjectParts) (f : FlowParts) (flow : IsFlow o f) (k : ℕ) (x : Point) (there : slice_get f.points k ≡ Some x) where
  returns : has_pc x.instr ≡ true → x.exit ≡ exits.Return
  returns pc = by_exit (the_point o f flow k x there).exit
    where
      by_exit : IsExit o flow.nodes (has_node o f flow k x there).0 x.instr x.exit → x.exit ≡ exits.Return
      by_exit (plain b e) = e ∙ (pc_returns x.instr pc).1
      by_exit (near t q b a n e) = absurd (both_ways (is_branch x.instr) (pc_returns x.instr pc).0 b)
      by_exit (far a b m n e) = absurd (both_ways (is_branch x.instr) (pc_returns x.instr pc).0 b)

  pops : loads_pc_by_pop x.instr ≡ true
  pops = let d = decodes o f flow k x there in (decodes_use_stack d.place d.first d.second x.instr d.is).0

module _ (o : ObjectParts) (f : FlowParts) (flow : IsFlow o f) (K : ℕ) (few : K ≤ 4) (k : ℕ) (x : Point) (there : slice_get f.points k ≡ Some x) (s : Sequence)
    (spare : (r : ℕ) → Contains s.scratch r → IsSpare f (boundaries K) x r)
    (flags : (r : ℕ) → adds_long_product x.instr ≡ true → is_flag r ≡ true → IsLiveAfter f (boundaries K) r x → ⊥) where
  -- nothing is lost that lives behind the point, but lr at a return
  lost_dead : (r : ℕ) → IsLost x.instr s.scratch r → IsLiveAfter f (boundaries K) r x → (x.exit ≡ exits.Return) × (r ≡ 14)
  lost_dead r (by_scratch c) l = absurd ((spare r c).dead l)
  lost_dead r (by_flag a b) l = absurd (flags r a b l)
  lost_dead r (by_pc a b) l = (returns o f flow k x there a, b)

  no_stack : IsLost x.instr s.scratch 13 → ⊥
  no_stack (by_scratch c) = let low = (spare 13 c).low in omega (arith, low)
  no_stack (by_flag a b) = let high = flag_high 13 b in omega (arith, high)
  no_stack (by_pc a b) = omega (arith, b)

  link_named : (reads_of x.instr 14 || sets_of x.instr 14) ≡ true → IsLost x.instr s.scratch 14 → ⊥
  link_named n (by_scratch c) = let low = (spare 14 c).low in omega (arith, low)
  link_named n (by_flag a b) = let high = flag_high 14 b in omega (arith, high)
  link_named n (by_pc a b) = both_ways (reads_of x.instr 14 || sets_of x.instr 14) (no_link x.instr a (pops o f flow k x there)) n

  kept : (r : ℕ) → IsLiveAfter f (boundaries K) r x → (x.exit ≡ exits.Return → r ≡ 14 → ⊥) → loses x.instr s.scratch r ≡ false
  kept r l apart = false_from_ne_true (loses x.instr s.scratch r) (λ e. let d = lost_dead r (lost_by x.instr s.scratch r e) l in apart d.0 d.1)

returns_leave : (e : Exit) → leaves e ≡ false → e ≡ exits.Return → ⊥
returns_leave e l r = both_ways (leaves e) l (ap leaves r)

pub pairs_spare : PairsSpare
pairs_spare o h F c K skipped pair k x u s there unit sequence start known chart follows =
    let done = pair.done k x u s there unit sequence in
    let flow = pair.accepted.flow in
    let t = follows.target in
    record {
      onward = λ r b q l lead at live.
          let stays : leaves x.exit ≡ false = sym (leaves_alike t x.exit) ∙ (ap leaves (sym follows.way) ∙ l) in
          let there_live = follows.live r b q lead at live in
          kept o pair.flow flow K pair.few k x there s done.spare done.flags r (before_next there_live.0 stays there_live.1 there_live.2) (λ e. absurd (returns_leave x.exit stays e));
      away = λ r l b.
          let goes : leaves x.exit ≡ true = sym (leaves_alike t x.exit) ∙ (ap leaves (sym follows.way) ∙ l) in
          let b' : boundary K (way_by t x.exit) r ≡ true = ap (λ w. boundary K w r) (sym follows.way) ∙ b in
          kept o pair.flow flow K pair.few k x there s done.spare done.flags r (at_boundary goes (bounded K t r x.exit pair.few b'))
          (λ e n. let low = no_link_at_return K r pair.few (subst (λ w. boundary K (way_by t w) r ≡ true) e b') in omega (arith, low, n));
      stack = false_from_ne_true (loses x.instr s.scratch 13) (λ e. no_stack o pair.flow flow K pair.few k x there s done.spare done.flags (lost_by x.instr s.scratch 13 e));
      link = λ n. false_from_ne_true (loses x.instr s.scratch 14) (λ e. link_named o pair.flow flow K pair.few k x there s done.spare done.flags n (lost_by x.instr s.scratch 14 e));
    }
