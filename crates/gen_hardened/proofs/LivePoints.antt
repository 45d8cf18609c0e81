-- Neither r12 nor a flag is live anywhere in a generated object's flow, nor lr where a call returns.
use Rattle.std.proofs.Common.{◌≡◌, ◌⊎◌, ◌<◌, ℕ, ◌+◌, ◌*◌, Bool, true, false, cond, List, refl, sym, ap, ◌∙◌, subst, inl, inr, arith, Some}
use Rattle.std.specs.Prelude.{slice_get, ◌==◌, ◌&&◌, ◌||◌, not}
use Rattle.std.proofs.lemmas.Bool.{both_ways, eqb-true}
use Rattle.std.proofs.lemmas.Option.{same_Some}
use Rattle.thumb_instr.specs.declared.conditions.Cond.{Cond}
use Rattle.thumb_instr.specs.declared.conditions.Cond.TheVariants.{Al}
use Rattle.thumb_instr.specs.declared.instructions.Instr.{Instr}
use Rattle.thumb_instr.specs.Operands.{has}
use Rattle.thumb_instr.specs.Sets.{is_flag, reads_of, writes_of, sets_flags_of, cond_reads_of}
use Rattle.flow_recover.specs.declared.flows.Point.{Point}
use Rattle.flow_recover.specs.declared.flows.Exit.{Exit}
use Rattle.flow_recover.specs.declared.flows.Exit.TheVariants as exit
use Rattle.flow_recover.specs.Flows.{FlowParts}
use Rattle.flow_recover.specs.Points.{IsPointAt, end_of}
use Rattle.flow_recover.specs.WholeFlows.{IsFlow, plain_exit}
use Rattle.flow_recover.proofs.FlowPoints.{next_there}
use Rattle.liveness.specs.Paths.{may_fail, branch_cond, leaves, boundary_of, passes, uses_at, Keeps, IsLiveBefore}
use Rattle.liveness.specs.Paths.Keeps.{here, further}
use Rattle.liveness.specs.Faults.{is_unset_at_entry, is_lost_in_call}
use Rattle.liveness.specs.Faults.LiveFault.{at_entry, at_return}
use Rattle.liveness.proofs.PathFacts.{or_cases, or_left, or_right}
use Rattle.sim_relation.specs.Accepted.{boundaries}
use Rattle.gen_object.specs.Generated.{generated}
use Rattle.gen_flow.specs.GeneratedCode.{returns, IsCount, StandsAt}
use Rattle.gen_flow.specs.GeneratedCode.StandsAt.{first, work, next, back, last}
use Rattle.gen_flow.specs.GeneratedFlow.{GeneratedPointsAreKnown}
use Rattle.gen_hardened.specs.GeneratedHardening.{GeneratedFlowsAreLive}
use Rattle.gen_hardened.proofs.KnownInstrs.{worked_at, each_of_eight, of_drawn, of_known}

-- INSTRUCTIONS

-- what a point uses, by its instruction, its condition and its exit
abbrev uses_by : Instr → Cond → Exit → ℕ → Bool
uses_by i c e k =
    (reads_of i k || (cond_reads_of c k || cond_reads_of (branch_cond i) k))
    || (boundary_of (boundaries 4) e k && not (not (may_fail c || may_fail (branch_cond i)) && (writes_of i k || sets_flags_of i k)))

abbrev Unused : Instr → ℕ → Type 0
Unused i k = uses_by i Al (plain_exit i) k ≡ false

abbrev AllUnused : Instr → Type 0
AllUnused i = Unused i 12 × Unused i 16 × Unused i 17 × Unused i 18 × Unused i 19

worked_unused : (n : ℕ) → n < 8 → AllUnused (worked_at n)
unfolding reads_of writes_of sets_flags_of
worked_unused =
    each_of_eight (λ n. AllUnused (worked_at n)) (refl, refl, refl, refl, refl) (refl, refl, refl, refl, refl) (refl, refl, refl, refl, refl) (refl, refl, refl, refl, refl)
    (refl, refl, refl, refl, refl) (refl, refl, refl, refl, refl) (refl, refl, refl, refl, refl) (refl, refl, refl, refl, refl)

known_unused : (seed count x : ℕ) (i : Instr) → StandsAt seed count x i → AllUnused i
unfolding reads_of writes_of sets_flags_of has
known_unused = of_known AllUnused (refl, refl, refl, refl, refl) worked_unused (refl, refl, refl, refl, refl) (refl, refl, refl, refl, refl)

-- of r12 and the flags
each_unset : (P : ℕ → Type 0) → P 12 × P 16 × P 17 × P 18 × P 19 → (k : ℕ) → is_unset_at_entry k ≡ true → P k
each_unset P p k among =
    elim (or_cases (k == 12) (is_flag k) among) [
      | inl e ↦ is 12 p.0 e
      | inr f ↦ elim (or_cases (k == 16) ((k == 17) || ((k == 18) || (k == 19))) f) [
        | inl e ↦ is 16 p.1 e
        | inr f ↦ elim (or_cases (k == 17) ((k == 18) || (k == 19)) f) [
          | inl e ↦ is 17 p.2 e
          | inr f ↦ elim (or_cases (k == 18) (k == 19) f) [
            | inl e ↦ is 18 p.3 e
            | inr e ↦ is 19 p.4 e
          ]
        ]
      ]
    ]
  where
    is : (n : ℕ) → P n → (k == n) ≡ true → P k
    is n q e = subst P (sym (eqb-true k n e)) q

lost_cases : (k : ℕ) → is_lost_in_call k ≡ true → (k ≡ 14) ⊎ (is_unset_at_entry k ≡ true)
lost_cases k among =
    elim (or_cases (k == 12) ((k == 14) || is_flag k) among) [
      | inl e ↦ inr (or_left (k == 12) (is_flag k) e)
      | inr f ↦ elim (or_cases (k == 14) (is_flag k) f) [
        | inl e ↦ inl (eqb-true k 14 e)
        | inr e ↦ inr (or_right (k == 12) (is_flag k) e)
      ]
    ]

link_unused : Unused returns 14
unfolding reads_of writes_of sets_flags_of has
link_unused = refl

-- WHERE CALLS RETURN

worked_falls : (n : ℕ) → n < 8 → plain_exit (worked_at n) ≡ exit.Falls
worked_falls = each_of_eight (λ n. plain_exit (worked_at n) ≡ exit.Falls) refl refl refl refl refl refl refl refl

record IsCallOf (count x : ℕ) : Type 0 where
  function : ℕ
  low : function + 1 < count
  at : x ≡ 14 * function + 8

call_stands : (seed count x : ℕ) (i : Instr) → StandsAt seed count x i → plain_exit i ≡ exit.Call → IsCallOf count x
call_stands seed count x i (first k low at is) e = absurd (let f : exit.Falls ≡ exit.Call = sym (ap plain_exit is) ∙ e in cc)
call_stands seed count x i (work k j low few at is) e =
    absurd (let f : exit.Falls ≡ exit.Call = sym (of_drawn (λ z. plain_exit z ≡ exit.Falls) worked_falls seed k j) ∙ (sym (ap plain_exit is) ∙ e) in cc)
call_stands seed count x i (next k low at is) e = record { function = k; low = low; at = at }
call_stands seed count x i (back k low at is) e = absurd (let f : exit.Return ≡ exit.Call = sym (ap plain_exit is) ∙ e in cc)
call_stands seed count x i (last k low at is) e = absurd (let f : exit.Return ≡ exit.Call = sym (ap plain_exit is) ∙ e in cc)

-- whether the call has two halfwords or one
ends_cases : (y : ℕ) (wide : Bool) (x : ℕ) → y ≡ x + cond wide 4 2 → (y ≡ x + 4) ⊎ (y ≡ x + 2)
ends_cases y true x e = inl e
ends_cases y false x e = inr e

returns_behind : (seed count m y : ℕ) (i : Instr) → m + 1 < count → (y ≡ 14 * m + 8 + 4) ⊎ (y ≡ 14 * m + 8 + 2) → StandsAt seed count y i → i ≡ returns
returns_behind seed count m y i few (inl e) (first k low at is) = absurd (omega arith)
returns_behind seed count m y i few (inl e) (work k j low less at is) = absurd (omega arith)
returns_behind seed count m y i few (inl e) (next k low at is) = absurd (omega arith)
returns_behind seed count m y i few (inr e) (first k low at is) = absurd (omega arith)
returns_behind seed count m y i few (inr e) (work k j low less at is) = absurd (omega arith)
returns_behind seed count m y i few (inr e) (next k low at is) = absurd (omega arith)
returns_behind seed count m y i few end (back k low at is) = is
returns_behind seed count m y i few end (last k low at is) = is

-- what does not pass on has no path behind it
stays : (points : List Point) (k p q : ℕ) (x : Point) → slice_get points p ≡ Some x → passes x ≡ false → Keeps points k p q → p ≡ q
stays points k _ _ x at ends (here p) = refl
stays points k _ _ x at ends (further p m q z there pass keep leads rest) =
    absurd (both_ways (passes z) (ap passes (same_Some z x (sym there ∙ at)) ∙ ends) pass)

module _ (known : GeneratedPointsAreKnown) (seed count : ℕ) (f : FlowParts) (few : IsCount count) (flow : IsFlow (generated seed count) f) where
  module _ (p : ℕ) (x : Point) (at : slice_get f.points p ≡ Some x) where
    pub stands : StandsAt seed count x.offset x.instr
    stands = (known seed count f p x few flow at).stands

    uses_is : (i : Instr) → x.instr ≡ i → (k : ℕ) → uses_at (boundaries 4) x k ≡ uses_by i Al (plain_exit i) k
    uses_is i e k =
        let is = known seed count f p x few flow at in
        ap (λ (c : Cond). uses_by x.instr c x.exit k) is.cond ∙ (ap (λ (z : Exit). uses_by x.instr Al z k) is.exit ∙ ap (λ (z : Instr). uses_by z Al (plain_exit z) k) e)

    uses_none : (k : ℕ) → is_unset_at_entry k ≡ true → uses_at (boundaries 4) x k ≡ false
    uses_none k among = uses_is x.instr refl k ∙ each_unset (Unused x.instr) (known_unused seed count x.offset x.instr stands) k among

    -- no lr is used there, nor passed on
    link_dead : x.instr ≡ returns → ¬ IsLiveBefore f (boundaries 4) 14 p
    link_dead e live =
        let is = known seed count f p x few flow at in
        let leaving : passes x ≡ false =
        ap (λ (z : Exit). not (leaves z) || (may_fail x.cond || may_fail (branch_cond x.instr))) is.exit
        ∙ (ap (λ (c : Cond). not (leaves (plain_exit x.instr)) || (may_fail c || may_fail (branch_cond x.instr))) is.cond
        ∙ ap (λ (z : Instr). not (leaves (plain_exit z)) || (may_fail Al || may_fail (branch_cond z))) e) in
        let end : p ≡ live.last = stays f.points 14 p live.last x at leaving live.path in
        let same : live.point ≡ x = same_Some live.point x (sym (ap (slice_get f.points) end ∙ live.there) ∙ at) in
        both_ways (uses_at (boundaries 4) x 14) (uses_is returns e 14 ∙ link_unused) (ap (λ (z : Point). uses_at (boundaries 4) z 14) (sym same) ∙ live.used)

  pub none_live : (k p : ℕ) → is_unset_at_entry k ≡ true → ¬ IsLiveBefore f (boundaries 4) k p
  none_live k p among live = both_ways (uses_at (boundaries 4) live.point k) (uses_none live.last live.point live.there k among) live.used

  call_returns : (p q : ℕ) (x : Point) → slice_get f.points p ≡ Some x → x.exit ≡ exit.Call → x.next ≡ Some q → ¬ IsLiveBefore f (boundaries 4) 14 q
  call_returns p q x at call leads =
      let is = known seed count f p x few flow at in
      let c = call_stands seed count x.offset x.instr is.stands (sym is.exit ∙ call) in
      let y : IsPointAt f x.section (end_of x) q = next_there (generated seed count) f flow p x at q leads in
      let offset = c.at in
      let behind : (y.point.offset ≡ 14 * c.function + 8 + 4) ⊎ (y.point.offset ≡ 14 * c.function + 8 + 2) =
      ends_cases y.point.offset x.wide (14 * c.function + 8) (y.offset ∙ ap (λ (n : ℕ). n + cond x.wide 4 2) offset) in
      link_dead q y.point y.there (returns_behind seed count c.function y.point.offset y.point.instr c.low behind (stands q y.point y.there))

pub flows_are_live : GeneratedPointsAreKnown → GeneratedFlowsAreLive
flows_are_live known seed count f few flow _ _ _ (at_entry p k x entry at lowest) = none_live known seed count f few flow k p lowest.member lowest.live
flows_are_live known seed count f few flow _ _ _ (at_return p q k x at call leads lowest) =
    elim (lost_cases k lowest.member) [
      | inl e ↦ call_returns known seed count f few flow p q x at call leads (subst (λ (n : ℕ). IsLiveBefore f (boundaries 4) n q) e lowest.live)
      | inr among ↦ none_live known seed count f few flow k q among lowest.live
    ]
