-- A machine goes on by one step.
use Rattle.std.proofs.Common.{◌≡◌, ◌≢◌, ◌↔◌, ◌⊎◌, ℕ, ◌+◌, ◌<◌, Bool, true, Ok, inl, inr, arith, refl, sym, ap, subst, ◌∙◌, add-one}
use Rattle.std.proofs.Math.Nat.{eq-or-lt_of_le}
use Rattle.thumb_table.specs.Parts.{CodeBytes}
use Rattle.thumb_table.specs.States.{State}
use Rattle.thumb_table.specs.Steps.{move}
use Rattle.thumb_table.specs.Schedules.{run, exit, Goes, OrdinaryStep, OrdinaryRun}
use Rattle.skip_machine.specs.declared.machines.Moved.{Moved}
use Rattle.skip_machine.specs.Machines.{Machine, state}
use Rattle.skip_machine.specs.Runs.{Steps}
use Rattle.skip_machine.proofs.Walks.{run_more, ordinary_more, ordinary_less}

-- A machine made so many steps more, none of which faulted. It has not returned before the last of them.
pub record Went (skips : ℕ → Bool) (old new : Machine) (n : ℕ) : Type 0 where
  pub counted : new.steps ≡ old.steps + n
  pub same_code : new.code ≡ old.code
  pub goes : Goes old.code skips n old.steps (state old) (state new)
  pub ordinary : (new.ordinary ≡ true) ↔ ((old.ordinary ≡ true) × OrdinaryRun old.code skips n old.steps (state old))

-- no step made yet
pub at_first : (skips : ℕ → Bool) (m : Machine) → Went skips m m 0
at_first skips m = record {
  counted = omega arith;
  same_code = refl;
  goes = record { runs = refl; on = λ j s some few r. absurd (omega arith) };
  ordinary = (λ o. (o, tt), λ o. o.0);
}

-- one step more
pub further : (skips : ℕ → Bool) (old mid new : Machine) (n : ℕ) (moved : Moved) → Went skips old mid n → (0 < n → mid.core.pc ≢ exit)
    → Steps (skips mid.steps) mid new moved → Went skips old new (n + 1)
further skips old mid new n moved went not_yet steps =
    let here : move old.code (skips (old.steps + n)) (state mid) ≡ Ok (state new) =
    subst (λ (k : ℕ). move old.code (skips k) (state mid) ≡ Ok (state new)) went.counted
    (subst (λ (c : CodeBytes). move c (skips mid.steps) (state mid) ≡ Ok (state new)) went.same_code steps.moves) in
    let onward : OrdinaryStep mid.code (skips mid.steps) (state mid) → OrdinaryStep old.code (skips (old.steps + n)) (state mid) = λ o.
    subst (λ (k : ℕ). OrdinaryStep old.code (skips k) (state mid)) went.counted (subst (λ (c : CodeBytes). OrdinaryStep c (skips mid.steps) (state mid)) went.same_code o) in
    let back : OrdinaryStep old.code (skips (old.steps + n)) (state mid) → OrdinaryStep mid.code (skips mid.steps) (state mid) = λ o.
    subst (λ (c : CodeBytes). OrdinaryStep c (skips mid.steps) (state mid)) (sym went.same_code) (subst (λ (k : ℕ). OrdinaryStep old.code (skips k) (state mid)) (sym went.counted) o) in
    record {
      counted = omega (arith, steps.counted, went.counted);
      same_code = steps.same_code ∙ went.same_code;
      goes = record {
        runs = rw add-one (run_more old.code skips n old.steps (state old) (state mid) (Ok (state new)) went.goes.runs here);
        on = λ j s some few r. split j s some r (eq-or-lt_of_le (omega arith));
      };
      ordinary = (
        λ o. let last = steps.ordinary.0 o in
            let before = went.ordinary.0 last.0 in
            (before.0, rw add-one (ordinary_more old.code skips n old.steps (state old) (state mid) went.goes.runs before.1 (onward last.1))),
        λ o. let less = ordinary_less old.code skips n old.steps (state old) (state mid) went.goes.runs (rw add-one at o.1) in
            steps.ordinary.1 (went.ordinary.1 (o.0, less.0), back less.1),
      );
    }
  where
    split : (j : ℕ) (s : State) → 0 < j → run old.code skips j old.steps (state old) ≡ Ok s → (j ≡ n) ⊎ (j < n) → s.pc ≢ exit
    split j s some r (inr few) = went.goes.on j s some few r
    split j s some r (inl e) =
        let again : run old.code skips n old.steps (state old) ≡ Ok s = rw e at r in
        let same : state mid ≡ s = cc (went.goes.runs, again) in
        λ left. not_yet (omega arith) (ap (λ (u : State). u.pc) same ∙ left)
