-- The induction over plain steps.
use Rattle.std.proofs.Common.{◌≡◌, ◌≢◌, ℕ, zero, suc, ◌+◌, ◌*◌, ◌≤◌, inl, ⊎_elim, Bool, true, false, Option, Some, None, Ok, Err, refl, sym, ap, ◌∙◌, subst, arith}
use Rattle.thumb_instr.specs.Blocks.{block_condition, place_in_block}
use Rattle.thumb_instr.specs.Rows.{Answer, decode}
use Rattle.thumb_table.specs.declared.faults.FaultKind.TheVariants.{Trap}
use Rattle.thumb_table.specs.Parts.{CodeBytes}
use Rattle.thumb_table.specs.States.{Core, State, at, Change, Outcome, applied, unchanged}
use Rattle.thumb_table.specs.Conditions.{holds}
use Rattle.thumb_table.specs.Steps.{move, fetch, Fetched, step_of, goes_on}
use Rattle.thumb_table.specs.Schedules.{run, exit, OrdinaryRun, is_in}
use Rattle.sim_charts.specs.Charts.{Chart, Point, cond_of, branch_cond, is_taken, unit_of}
use Rattle.sim_charts.specs.Alike.{SameStore}
use Rattle.seq_core.specs.Does.{Comes, StopsAt, never}
use Rattle.sim_charts.specs.Flows.{site_of}
use Rattle.sim_charts.specs.Linked.{Linked}
use Rattle.sim_charts.specs.Simulates.{Fits, At, Over, IsNarrow, NarrowAnswer, NarrowRun, EndsAlike, EveryMoment, StopsAlike, PairsEndAlike}
use Rattle.seq_core.proofs.Runs.{go_on_ok, comes_on, legal_of}
use Rattle.sim_charts.proofs.Endings.{returns_within, breaks_at}
use Rattle.sim_charts.proofs.Sets.{and_both, first_fails, second_fails}
use Rattle.sim_charts.proofs.PlainSteps.{IsOrdinaryStep, TakesEffect, HasNone, step_at_point, trap_at_point}
use Rattle.sim_charts.proofs.Working.{unit_acts, unit_rests, unit_halts, run_after}
use Rattle.sim_charts.proofs.Exits.{Rel, unit, begins, reads_alike, taken_alike, rests_at, goes_to, branch_rests}

abbrev ok_of : Change → Outcome
ok_of h = Ok h

fewer : (code : CodeBytes) (skips : ℕ → Bool) (n F i : ℕ) (s t : State) → n ≤ F → Comes code skips n i s t → Comes code skips F i s t
fewer code skips n F i s t le e = record { steps = e.steps; within = omega (arith, e.within); runs = e.runs }

module _ (chart : Chart) (plain hard : CodeBytes) (c K F : ℕ) (may_skip : ℕ → Bool) (linked : Linked chart plain hard c K F may_skip) (skips : ℕ → Bool) (begun : State) (fits : Fits hard c may_skip skips begun) where
  -- what one plain step is followed by
  abbrev pub Next : ℕ → State → State → Type 0
  Next i t s' = (t' : State) × Comes hard skips F i t t' × Rel chart plain hard c K F may_skip linked s' t'

  module _ (i : ℕ) (s s' t : State) (r : At chart s t) (reached : run hard skips i 0 begun ≡ Ok t) where
    abbrev p : Point
    p = r.point

    at_place : t ≡ at p.place t.core
    at_place = ap (λ n. at n t.core) r.placed

    from_place : (n : ℕ) (u : State) → n ≤ F → Comes hard skips n i (at p.place t.core) u → Comes hard skips F i t u
    from_place n u le e = subst (λ v. Comes hard skips F i v u) (sym at_place) (fewer hard skips n F i (at p.place t.core) u le e)

    reached_place : run hard skips i 0 begun ≡ Ok (at p.place t.core)
    reached_place = reached ∙ ap Ok at_place

    follows_rest : is_taken p s.core ≡ false → at (s.pc + p.width) (applied unchanged s.core) ≡ s' → Next i t s'
    follows_rest e es =
        let u = unit chart plain hard c K F may_skip linked p s t r.there r.it r.placed r.agree in
        let b = begins chart plain hard c K F may_skip linked p s t r.there r.it r.placed r.agree in
        let same = taken_alike chart plain hard c K F may_skip linked p s t r.there r.it r.placed r.agree in
        let comes = unit_rests hard c may_skip skips begun fits (unit_of p u.effect) u.works i t.core b reached_place (sym same ∙ e) in
        let rest = rests_at chart plain hard c K F may_skip linked p s t r.there r.it r.placed r.agree e in
        (at p.end t.core, from_place p.length (at p.end t.core) u.short comes, subst (λ v. Rel chart plain hard c K F may_skip linked v (at p.end t.core)) es (inl rest))

    taken_by : (b : Bool) → holds (block_condition s.core.it) s.core ≡ b → holds (cond_of p) s.core ≡ b
    taken_by b e = subst (λ k. holds (block_condition k) s.core ≡ b) r.it e

    follows_act : TakesEffect plain K p.instr p.width s s' → holds (branch_cond p.instr) s.core ≡ true → Next i t s'
    follows_act e taken =
        let u = unit chart plain hard c K F may_skip linked p s t r.there r.it r.placed r.agree in
        let b = begins chart plain hard c K F may_skip linked p s t r.there r.it r.placed r.agree in
        let same = taken_alike chart plain hard c K F may_skip linked p s t r.there r.it r.placed r.agree in
        let ra = reads_alike chart plain hard c K F may_skip linked p s t r.there r.it r.placed r.agree in
        let is : is_taken p s.core ≡ true = and_both (holds (cond_of p) s.core) (holds (branch_cond p.instr) s.core) (taken_by true e.holds) taken in
        let g = u.twin.changes s.core t.core e.made ra r.it is e.ordinary e.makes in
        let z = unit_acts hard c may_skip skips begun fits (unit_of p u.effect) u.works i t.core b reached_place g.0 (sym same ∙ is) g.1 in
        let rel = goes_to chart plain hard c K F may_skip linked p s t r.there r.it r.placed r.agree e.made g.0 z.0 g.2 z.2 e.made.exit g.0.exit refl refl g.2.goes in
        (at (goes_on p.end g.0.exit) z.0, from_place p.length (at (goes_on p.end g.0.exit) z.0) u.short z.1, subst (λ v. Rel chart plain hard c K F may_skip linked v (at (goes_on p.end g.0.exit) z.0)) e.comes rel)

    follows_none : TakesEffect plain K p.instr p.width s s' → holds (branch_cond p.instr) s.core ≡ false → Next i t s'
    follows_none e fails =
        let none = branch_rests p.instr (site_of plain s.pc p) s.core fails in
        let same : e.made ≡ unchanged = ok_is (sym e.makes ∙ none) in
        let es = subst (λ h. at (goes_on (s.pc + p.width) h.exit) (applied h s.core) ≡ s') same e.comes in
        follows_rest (second_fails (holds (cond_of p) s.core) (holds (branch_cond p.instr) s.core) fails) es
      where
        ok_is : {h h' : Change} → ok_of h ≡ Ok h' → h ≡ h'
        ok_is q = cc

    -- ONE PLAIN STEP AT A POINT
    point_follows : IsOrdinaryStep K plain s → move plain false s ≡ Ok s' → Next i t s'
    point_follows o e =
        let st = (linked.units s.pc p r.there).stands in
        ⊎_elim
        (λ (a : TakesEffect plain K p.instr p.width s s').
        elim (holds (branch_cond p.instr) s.core) as (λ b. holds (branch_cond p.instr) s.core ≡ b → Next i t s') [ true ↦ λ h. follows_act a h | false ↦ λ h. follows_none a h ] refl)
        (λ (a : HasNone p.width s s'). follows_rest (first_fails (holds (cond_of p) s.core) (holds (branch_cond p.instr) s.core) (taken_by false a.fails)) a.comes)
        (step_at_point plain K s s' p st r.it o e)

  over_stops : (s s' t : State) → Over chart K s t → move plain false s ≡ Ok s' → ⊥
  over_stops s s' t v e =
      let none : fetch plain s.pc ≡ None = ap (fetch plain) v.plain ∙ linked.outside in
      let stops : step_of plain None s ≡ Ok s' = subst (λ o. step_of plain o s ≡ Ok s') none e in
      cc

  -- THE STEP
  step_follows : (i : ℕ) (s s' t : State) → Rel chart plain hard c K F may_skip linked s t → run hard skips i 0 begun ≡ Ok t → IsOrdinaryStep K plain s → move plain false s ≡ Ok s' → Next i t s'
  step_follows i s s' t rel reached o e = ⊎_elim
      (λ (r : At chart s t). point_follows i s s' t r reached o e)
      (λ (v : Over chart K s t). absurd (over_stops s s' t v e))
      rel

  -- THE INDUCTION
  pub run_follows : (n i k : ℕ) (s s' t : State) → Rel chart plain hard c K F may_skip linked s t → run hard skips i 0 begun ≡ Ok t → OrdinaryRun plain never n k s → NarrowRun K plain n s → run plain never n k s ≡ Ok s' → (t' : State) × Comes hard skips (F * n) i t t' × Rel chart plain hard c K F may_skip linked s' t'
  run_follows zero i k s s' t r reached o w e =
      let es : s ≡ s' = cc in
      (t, record { steps = 0; within = omega arith; runs = refl }, subst (λ u. Rel chart plain hard c K F may_skip linked u t) es r)
  run_follows (suc n) i k s s' t r reached o w e =
      let g = go_on_ok (move plain false s) (run plain never n (suc k)) s' e in
      let m = step_follows i s g.0 t r reached (o.0 refl, w.0) g.1 in
      let rest = run_follows n (i + m.1.steps) (suc k) g.0 s' m.0 m.2 (run_after hard skips i m.1.steps begun t m.0 reached m.1.runs) (o.1 g.0 g.1) (w.1 g.0 g.1) g.2 in
      let en : F + F * n ≡ F * suc n = omega arith in
      (rest.0, comes_on hard skips F (F * n) (F * suc n) i t m.0 rest.0 en m.1 rest.1, rest.2)

  store_of : (s t : State) → Rel chart plain hard c K F may_skip linked s t → SameStore chart s.core t.core
  store_of s t r = ⊎_elim (λ (a : At chart s t). a.agree.store) (λ (v : Over chart K s t). v.same.store) r

  at_exit : (s t : State) → s.pc ≡ exit → Rel chart plain hard c K F may_skip linked s t → Over chart K s t
  at_exit s t e r = ⊎_elim (λ (a : At chart s t). let none = sym a.there ∙ ap chart e ∙ linked.no_point in absurd cc) (λ (v : Over chart K s t). v) r

-- CALLS END ALIKE
pub ends_alike : EndsAlike
ends_alike chart plain hard c K F may_skip linked begun hard_begun ended start n r o w skips fits =
    let m = run_follows chart plain hard c K F may_skip linked skips hard_begun fits n 0 0 begun ended hard_begun (inl start) refl o w r.goes.runs in
    let v = at_exit chart plain hard c K F may_skip linked skips hard_begun fits ended m.0 r.over m.2 in
    let place = linked.low begun.pc start.point start.there in
    let away : hard_begun.pc ≢ exit = λ e. place.1 (sym start.placed ∙ e) in
    (m.0, returns_within hard skips (F * n) hard_begun m.0 linked.hard_outside away v.hard m.1, v.same)

-- every moment
pub every_moment : EveryMoment
every_moment chart plain hard c K F may_skip linked begun hard_begun s start m e o w skips fits =
    let r = run_follows chart plain hard c K F may_skip linked skips hard_begun fits m 0 0 begun s hard_begun (inl start) refl o w e in
    (r.0, r.1, store_of chart plain hard c K F may_skip linked skips hard_begun fits s r.0 r.2)

-- a run keeps to four results
four_narrow : (plain : CodeBytes) (n : ℕ) (s : State) → NarrowRun 4 plain n s
four_narrow plain zero s = tt
four_narrow plain (suc n) s = (narrow (fetch plain s.pc) s, λ next e. four_narrow plain n next)
  where
    by_answer : (answer : Answer) (x : Core) → NarrowAnswer 4 answer x
    by_answer (Err why) x = tt
    by_answer (Ok i) x = λ t lt. absurd (omega arith)

    narrow : (f : Option Fetched) (s : State) → IsNarrow 4 f s
    narrow None s = tt
    narrow (Some f) s = by_answer (decode (place_in_block s.core.it) f.first f.second) s.core

pub pairs_end_alike : PairsEndAlike
pairs_end_alike chart plain hard F linked begun hard_begun ended start n r o schedule legal =
    ends_alike chart plain hard 2 4 F (λ a. true) linked begun hard_begun ended start n r o (four_narrow plain n begun) (is_in schedule)
    (record { legal = legal_of 2 schedule legal; inside = λ i u e s. refl })

module _ (chart : Chart) (plain hard : CodeBytes) (c K F : ℕ) (may_skip : ℕ → Bool) (linked : Linked chart plain hard c K F may_skip) (skips : ℕ → Bool) (begun : State) (fits : Fits hard c may_skip skips begun) where
  -- A TRAP AT A POINT
  trap_stops : (i : ℕ) (s t : State) → At chart s t → run hard skips i 0 begun ≡ Ok t → move plain false s ≡ Err Trap → (n : ℕ) × StopsAt hard skips n i t × (n ≤ F)
  trap_stops i s t r reached e =
      let u = unit chart plain hard c K F may_skip linked r.point s t r.there r.it r.placed r.agree in
      let b = begins chart plain hard c K F may_skip linked r.point s t r.there r.it r.placed r.agree in
      let same = taken_alike chart plain hard c K F may_skip linked r.point s t r.there r.it r.placed r.agree in
      let ra = reads_alike chart plain hard c K F may_skip linked r.point s t r.there r.it r.placed r.agree in
      let trap = trap_at_point plain s r.point u.stands r.it e in
      let held : holds (cond_of r.point) s.core ≡ true = subst (λ k. holds (block_condition k) s.core ≡ true) r.it trap.0 in
      let own : holds (branch_cond r.point.instr) s.core ≡ true = elim (holds (branch_cond r.point.instr) s.core) as (λ v. holds (branch_cond r.point.instr) s.core ≡ v → v ≡ true) [
        | true ↦ λ h. refl
        | false ↦ λ h. let none = sym (branch_rests r.point.instr (site_of plain s.pc r.point) s.core h) ∙ trap.1 in absurd cc
      ] refl in
      let is : is_taken r.point s.core ≡ true = and_both (holds (cond_of r.point) s.core) (holds (branch_cond r.point.instr) s.core) held own in
      let made = u.twin.traps s.core t.core ra is trap.1 in
      let at_place : at r.point.place t.core ≡ t = ap (λ n. at n t.core) (sym r.placed) in
      let halt = unit_halts hard c may_skip skips begun fits (unit_of r.point u.effect) u.works i t.core b (reached ∙ ap Ok (sym at_place)) (sym same ∙ is) made in
      (r.point.length, subst (λ v. StopsAt hard skips r.point.length i v) at_place halt, u.short)

  trap_rel : (i : ℕ) (s t : State) → Rel chart plain hard c K F may_skip linked s t → run hard skips i 0 begun ≡ Ok t → move plain false s ≡ Err Trap → (n : ℕ) × StopsAt hard skips n i t × (n ≤ F)
  trap_rel i s t rel reached e = ⊎_elim
      (λ (r : At chart s t). trap_stops i s t r reached e)
      (λ (v : Over chart K s t).
      let none : fetch plain s.pc ≡ None = ap (fetch plain) v.plain ∙ linked.outside in
      let stops : step_of plain None s ≡ Err Trap = subst (λ o. step_of plain o s ≡ Err Trap) none e in
      absurd cc)
      rel

-- where the plain run breaks at a trap, so does the hardened one
pub stops_alike : StopsAlike
stops_alike chart plain hard c K F may_skip linked begun hard_begun s start m b o n skips fits =
    let r = run_follows chart plain hard c K F may_skip linked skips hard_begun fits m 0 0 begun s hard_begun (inl start) refl o n b.lasts.goes.runs in
    let h = trap_rel chart plain hard c K F may_skip linked skips hard_begun fits r.1.steps s r.0 r.2 r.1.runs b.faults in
    let w = h.1 in
    let store = store_of chart plain hard c K F may_skip linked skips hard_begun fits s r.0 r.2 in
    let en : F * m + F ≡ F * (m + 1) = omega arith in (
      r.1.steps + w.steps,
      w.last,
      omega (arith, r.1.within, w.before, h.2),
      breaks_at hard skips (r.1.steps + w.steps) hard_begun w.last linked.hard_outside (run_after hard skips r.1.steps w.steps hard_begun r.0 w.last r.1.runs w.runs) w.executed w.traps,
      subst (λ y. SameStore chart s.core y) (sym w.core) store,
    )
