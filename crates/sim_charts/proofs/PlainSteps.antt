-- One ordinary plain step at a point.
use Rattle.std.proofs.Common.{◌≡◌, ℕ, ◌+◌, ◌⊎◌, inl, inr, true, false, Option, Some, None, Ok, Err, refl, sym, ap, subst}
use Rattle.std.specs.Prelude.{if◌then◌else◌}
use Rattle.thumb_instr.specs.declared.instructions.Instr.{Instr}
use Rattle.thumb_instr.specs.Blocks.{place_in_block}
use Rattle.thumb_instr.specs.Rows.{Answer, decode}
use Rattle.thumb_table.specs.declared.faults.FaultKind.{FaultKind}
use Rattle.thumb_table.specs.declared.faults.FaultKind.TheVariants.{Trap}
use Rattle.thumb_table.specs.Parts.{CodeBytes}
use Rattle.thumb_table.specs.States.{Core, State, at, Change, Outcome, applied, unchanged}
use Rattle.thumb_table.specs.Effects.{change}
use Rattle.thumb_table.specs.Steps.{Fetched, fetch, move, step_of, executed, carried_out, settled, goes_on, takes_effect, IsOrdinary, OrdinaryAnswer, OrdinaryIf}
use Rattle.sim_charts.specs.Charts.{Point}
use Rattle.sim_charts.specs.Twins.{IsOrdinaryFor, IsNarrowUse}
use Rattle.sim_charts.specs.Flows.{Stands}
use Rattle.sim_charts.specs.Simulates.{IsNarrow, NarrowAnswer}

-- an ordinary step, for K results
abbrev pub IsOrdinaryStep : ℕ → CodeBytes → State → Type 0
IsOrdinaryStep K plain s = IsOrdinary plain (fetch plain s.pc) s × IsNarrow K (fetch plain s.pc) s

-- what a step comes to where the instruction takes effect, and where it does not
pub record TakesEffect (plain : CodeBytes) (K : ℕ) (i : Instr) (w : ℕ) (s s' : State) : Type 0 where
  pub holds : takes_effect s.core ≡ true
  pub made : Change
  pub makes : change i (record { code = plain; address = s.pc; width = w }) s.core ≡ Ok made
  pub ordinary : IsOrdinaryFor K i (record { code = plain; address = s.pc; width = w }) s.core
  pub comes : at (goes_on (s.pc + w) made.exit) (applied made s.core) ≡ s'

pub record HasNone (w : ℕ) (s s' : State) : Type 0 where
  pub fails : takes_effect s.core ≡ false
  pub comes : at (s.pc + w) (applied unchanged s.core) ≡ s'

abbrev pub Steps : CodeBytes → ℕ → Instr → ℕ → State → State → Type 0
Steps plain K i w s s' = TakesEffect plain K i w s s' ⊎ HasNone w s s'

by_outcome : (next : ℕ) (x : Core) (o : Outcome) (s' : State) → settled next x o ≡ Ok s' → (h : Change) × (o ≡ Ok h) × (at (goes_on next h.exit) (applied h x) ≡ s')
by_outcome next x (Ok h) s' e = (h, refl, cc)
by_outcome next x (Err k) s' e = absurd cc

by_instr : (plain : CodeBytes) (K : ℕ) (i : Instr) (w : ℕ) (s s' : State) → OrdinaryIf i (record { code = plain; address = s.pc; width = w }) s.core → (takes_effect s.core ≡ true → IsNarrowUse K i s.core) → carried_out plain i w s ≡ Ok s' → Steps plain K i w s s'
by_instr plain K i w s s' o n =
    elim (takes_effect s.core) as (λ b. takes_effect s.core ≡ b → settled (s.pc + w) s.core (if b then change i (record { code = plain; address = s.pc; width = w }) s.core else Ok unchanged) ≡ Ok s' → Steps plain K i w s s') [
      | true ↦ λ t e.
          let r = by_outcome (s.pc + w) s.core (change i (record { code = plain; address = s.pc; width = w }) s.core) s' e in
          inl (record { holds = t; made = r.0; makes = r.1; ordinary = record { used = o t; narrow = n t }; comes = r.2 })
      | false ↦ λ t e. inr (record { fails = t; comes = cc })
    ] refl

by_answer : (plain : CodeBytes) (K : ℕ) (f : Fetched) (s s' : State) (answer : Answer) (i : Instr) → answer ≡ Ok i → OrdinaryAnswer answer (record { code = plain; address = s.pc; width = f.width }) s.core → NarrowAnswer K answer s.core → executed plain f s answer ≡ Ok s' → Steps plain K i f.width s s'
by_answer plain K f s s' (Err why) i e o n h = absurd cc
by_answer plain K f s s' (Ok j) i e o n h =
    let ej : j ≡ i = cc in
    subst (λ v. Steps plain K v f.width s s') ej (by_instr plain K j f.width s s' o n h)

by_fetched : (plain : CodeBytes) (K : ℕ) (s s' : State) (fetched : Option Fetched) (f : Fetched) (i : Instr) → fetched ≡ Some f → decode (place_in_block s.core.it) f.first f.second ≡ Ok i → IsOrdinary plain fetched s → IsNarrow K fetched s → step_of plain fetched s ≡ Ok s' → Steps plain K i f.width s s'
by_fetched plain K s s' None f i e d o n h = absurd cc
by_fetched plain K s s' (Some g) f i e d o n h =
    let eg : f ≡ g = cc in
    let dg = subst (λ q. decode (place_in_block s.core.it) q.first q.second ≡ Ok i) eg d in
    subst (λ (q : Fetched). Steps plain K i q.width s s') (sym eg) (by_answer plain K g s s' (decode (place_in_block s.core.it) g.first g.second) i dg o n h)

pub step_at_point : (plain : CodeBytes) (K : ℕ) (s s' : State) (p : Point) → Stands plain s.pc p → s.core.it ≡ p.it → IsOrdinaryStep K plain s → move plain false s ≡ Ok s' → Steps plain K p.instr p.width s s'
step_at_point plain K s s' p st it o e =
    let d = subst (λ k. decode (place_in_block k) st.fetched.first st.fetched.second ≡ Ok p.instr) (sym it) st.means in
    subst (λ w. Steps plain K p.instr w s s') st.width (by_fetched plain K s s' (fetch plain s.pc) st.fetched p.instr st.there d o.0 o.1 e)

-- a trap
abbrev pub Traps : CodeBytes → Instr → ℕ → State → Type 0
Traps plain i w s = (takes_effect s.core ≡ true) × (change i (record { code = plain; address = s.pc; width = w }) s.core ≡ Err Trap)

trap_outcome : (next : ℕ) (x : Core) (o : Outcome) → settled next x o ≡ Err Trap → o ≡ Err Trap
trap_outcome next x (Ok h) e = absurd cc
trap_outcome next x (Err k) e = ap to_outcome (err_is k Trap e)
  where
    to_outcome : FaultKind → Outcome
    to_outcome k = Err k

    err_is : (k l : FaultKind) → settled next x (Err k) ≡ Err l → k ≡ l
    err_is k l e = cc

trap_instr : (plain : CodeBytes) (i : Instr) (w : ℕ) (s : State) → carried_out plain i w s ≡ Err Trap → Traps plain i w s
trap_instr plain i w s =
    elim (takes_effect s.core) as (λ b. takes_effect s.core ≡ b → settled (s.pc + w) s.core (if b then change i (record { code = plain; address = s.pc; width = w }) s.core else Ok unchanged) ≡ Err Trap → Traps plain i w s) [
      | true ↦ λ t e. (t, trap_outcome (s.pc + w) s.core (change i (record { code = plain; address = s.pc; width = w }) s.core) e)
      | false ↦ λ t e. absurd cc
    ] refl

trap_answer : (plain : CodeBytes) (f : Fetched) (s : State) (answer : Answer) (i : Instr) → answer ≡ Ok i → executed plain f s answer ≡ Err Trap → Traps plain i f.width s
trap_answer plain f s (Err why) i e h = absurd cc
trap_answer plain f s (Ok j) i e h =
    let ej : j ≡ i = cc in
    subst (λ v. Traps plain v f.width s) ej (trap_instr plain j f.width s h)

trap_fetched : (plain : CodeBytes) (s : State) (fetched : Option Fetched) (f : Fetched) (i : Instr) → fetched ≡ Some f → decode (place_in_block s.core.it) f.first f.second ≡ Ok i → step_of plain fetched s ≡ Err Trap → Traps plain i f.width s
trap_fetched plain s None f i e d h = absurd cc
trap_fetched plain s (Some g) f i e d h =
    let eg : f ≡ g = cc in
    let dg = subst (λ q. decode (place_in_block s.core.it) q.first q.second ≡ Ok i) eg d in
    subst (λ (q : Fetched). Traps plain i q.width s) (sym eg) (trap_answer plain g s (decode (place_in_block s.core.it) g.first g.second) i dg h)

pub trap_at_point : (plain : CodeBytes) (s : State) (p : Point) → Stands plain s.pc p → s.core.it ≡ p.it → move plain false s ≡ Err Trap → Traps plain p.instr p.width s
trap_at_point plain s p st it e =
    let d = subst (λ k. decode (place_in_block k) st.fetched.first st.fetched.second ≡ Ok p.instr) (sym it) st.means in
    subst (λ w. Traps plain p.instr w s) st.width (trap_fetched plain s (fetch plain s.pc) st.fetched p.instr st.there d e)
