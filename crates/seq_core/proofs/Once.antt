-- Sequences of single copies, where nothing is skipped.
use Rattle.std.proofs.Common.{◌≡◌, ℕ, zero, suc, ◌+◌, ◌<◌, ◌≤◌, ⊎_elim, Bool, true, false, List, [], ◌∷◌, Some, None, Result, Ok, Err, refl, sym, ap, ◌∙◌, subst, arith}
use Rattle.std.specs.Prelude.{not, if◌then◌else◌}
use Rattle.thumb_table.specs.declared.faults.FaultKind.{FaultKind}
use Rattle.thumb_table.specs.declared.faults.FaultKind.TheVariants.{Trap}
use Rattle.thumb_table.specs.Parts.{CodeBytes}
use Rattle.thumb_table.specs.States.{Core, State, at, Change, Exit, Falls, Jumps, applied}
use Rattle.thumb_instr.specs.Rows.{is_wide}
use Rattle.thumb_table.specs.Effects.{lies, half_of}
use Rattle.thumb_table.specs.Steps.{Fetched, fetch, goes_on, move}
use Rattle.thumb_table.specs.Schedules.{run, go_on}
use Rattle.seq_core.specs.Does.{Effect, Task, Begins, SameBut, never, Passes, TrapsOnce, DoesOnce}
use Rattle.seq_core.specs.Sequences.{Copies, Stands, steps_of, Moves, Leads, Chain, Trapped, Reaches, Stood}
use Rattle.seq_core.proofs.Copies.{first_step, steps_to}
use Rattle.seq_core.proofs.Law.{copy_falls, copy_leaps, traps_at}

-- what is fetched has a width
is_wide_enough : (a b c : Bool) (u v f : Fetched) → 0 < u.width → 0 < v.width → (if a then None else if b then Some u else if c then Some v else None) ≡ Some f → 0 < f.width
is_wide_enough true b c u v f k l e = absurd cc
is_wide_enough false true c u v f k l e = let s : u ≡ f = cc in subst (λ (g : Fetched). 0 < g.width) s k
is_wide_enough false false true u v f k l e = let s : v ≡ f = cc in subst (λ (g : Fetched). 0 < g.width) s l
is_wide_enough false false false u v f k l e = absurd cc

fetched_width : (code : CodeBytes) (a : ℕ) (f : Fetched) → fetch code a ≡ Some f → 0 < f.width
fetched_width code a f e = is_wide_enough (not (lies code a 2)) (not (is_wide (half_of code a))) (lies code a 4)
    (record { first = half_of code a; second = 0; width = 2 })
    (record { first = half_of code a; second = half_of code (a + 2); width = 4 })
    f (omega arith) (omega arith) e

copies_rise : (code : CodeBytes) (c : ℕ) (e : Effect) (p q : ℕ) → Copies code c e p q → p ≤ q
copies_rise code zero e p q s = omega (arith, s)
copies_rise code (suc c) e p q s = let k = copies_rise code c e (p + s.0.width) q s.2 in omega (arith, k)

stands_rise : (code : CodeBytes) (c : ℕ) (es : List Effect) (p q : ℕ) → Stands code c es p q → p ≤ q
stands_rise code c [] p q s = omega (arith, s)
stands_rise code c (e ∷ es) p q s = let k = copies_rise code c e p s.0 s.1 in let l = stands_rise code c es s.0 q s.2 in omega (arith, k, l)

onward : (r : Result State FaultKind) (f g : State → Result State FaultKind) → ((m : State) → f m ≡ g m) → go_on r f ≡ go_on r g
onward (Ok m) f g h = h m
onward (Err k) f g h = refl

-- the clock doesn't matter where nothing is skipped
any_clock : (code : CodeBytes) (n i j : ℕ) (s : State) → run code never n i s ≡ run code never n j s
any_clock code zero i j s = refl
any_clock code (suc n) i j s = onward (move code false s) (run code never n (suc i)) (run code never n (suc j)) (λ m. any_clock code n (suc i) (suc j) m)

module _ (code : CodeBytes) (may_skip : ℕ → Bool) where
  stepped : (n : ℕ) (s m : State) → move code false s ≡ Ok m → run code never (suc n) 0 s ≡ run code never n 0 m
  stepped n s m e = first_step code never n 0 s m false refl e ∙ any_clock code n 1 0 m

  nowhere_yet : (s : State) → Passes code may_skip 0 s s
  nowhere_yet s = record { steps = 0; within = omega arith; runs = refl; inside = λ j u lt e. absurd (omega arith) }

  on : (n k : ℕ) (s m t : State) → n < k → move code false s ≡ Ok m → may_skip s.pc ≡ false → Passes code may_skip n m t → Passes code may_skip k s t
  on n k s m t lt e f r = record { steps = suc r.steps; within = omega (arith, r.within, lt); runs = stepped r.steps s m e ∙ r.runs; inside = inside }
    where
      inside : (j : ℕ) (u : State) → j < suc r.steps → run code never j 0 s ≡ Ok u → may_skip u.pc ≡ false
      inside zero u lt k = let same : s ≡ u = cc in subst (λ (v : State). may_skip v.pc ≡ false) same f
      inside (suc j) u lt k = r.inside j u (omega (arith, lt)) (sym (stepped j s m e) ∙ k)

  longer : (n k : ℕ) (s t : State) → n ≤ k → Passes code may_skip n s t → Passes code may_skip k s t
  longer n k s t le r = record { steps = r.steps; within = omega (arith, r.within); runs = r.runs; inside = r.inside }

  -- no place from p to q may be skipped
  abbrev Held : ℕ → ℕ → Type 0
  Held p q = (a : ℕ) → p ≤ a → a < q → may_skip a ≡ false

  -- one copy of a group at p, and the groups behind it
  begins_held : (e : Effect) (es : List Effect) (p q : ℕ) → Stands code 1 (e ∷ es) p q → Held p q → may_skip p ≡ false
  begins_held e es p q s h =
      let w = fetched_width code p s.1.0 s.1.1.there in
      let l = stands_rise code 1 es s.0 q s.2 in
      let m : p + s.1.0.width ≡ s.0 = s.1.2 in
      h p (omega arith) (omega (arith, w, l, m))

  rest_held : (e : Effect) (es : List Effect) (p q : ℕ) → (s : Stands code 1 (e ∷ es) p q) → Held p q → Held s.0 q
  rest_held e es p q s h a le lt = let m : p + s.1.0.width ≡ s.0 = s.1.2 in h a (omega (arith, m, le)) lt

  moved_on : (e : Effect) (p m : ℕ) (x y : Core) → x.it ≡ 0 → Copies code 1 e p m → Moves e x y → move code false (at p x) ≡ Ok (at m y)
  moved_on e p m x y it s k =
      steps_to code s.0 p x (at (p + s.0.width) y) s.1.there (copy_falls code e s.0 p x y k.made it s.1 k.makes k.falls k.comes) ∙ ap (λ a. Ok (at a y)) s.2

  chain_passes : (es : List Effect) (p q : ℕ) (x : Core) (out : Exit) (y : Core) → x.it ≡ 0 → Stands code 1 es p q → Held p q → Chain Moves es x out y → Passes code may_skip (steps_of 1 es) (at p x) (at (goes_on q out) y)
  chain_passes [] p q x out y it s h k =
      let same : at p x ≡ at (goes_on q out) y = ap (λ a. at a x) s ∙ ap (λ z. at q z) k.1 ∙ ap (λ o. at (goes_on q o) y) (sym k.0) in
      subst (Passes code may_skip 0 (at p x)) same (nowhere_yet (at p x))
  chain_passes (e ∷ es) p q x out y it s h k = ⊎_elim
      (λ (f : (m : Core) × Moves e x m × Chain Moves es m out y).
      on (steps_of 1 es) (1 + steps_of 1 es) (at p x) (at s.0 f.0) (at (goes_on q out) y) (omega arith) (moved_on e p s.0 x f.0 it s.1 f.1) (begins_held e es p q s h)
      (chain_passes es s.0 q f.0 out y f.1.clear s.2 (rest_held e es p q s h) f.2))
      (λ (f : (t : ℕ) × Leads e x t y × (out ≡ Jumps t)).
      let to : at f.0 y ≡ at (goes_on q out) y = ap (λ o. at (goes_on q o) y) (sym f.2) in
      let first : move code false (at p x) ≡ Ok (at f.0 y) = steps_to code s.1.0 p x (at f.0 y) s.1.1.there (copy_leaps code e s.1.0 p x f.0 y it s.1.1 f.1) in
      longer 1 (1 + steps_of 1 es) (at p x) (at (goes_on q out) y) (omega arith)
      (on 0 1 (at p x) (at f.0 y) (at (goes_on q out) y) (omega arith) first (begins_held e es p q s h) (subst (Passes code may_skip 0 (at f.0 y)) to (nowhere_yet (at f.0 y)))))
      k

  traps_once : (es : List Effect) (p q : ℕ) (x : Core) → x.it ≡ 0 → Stands code 1 es p q → Held p q → Trapped Moves es x → TrapsOnce code may_skip (steps_of 1 es) (at p x)
  traps_once [] p q x it s h t = absurd t
  traps_once (e ∷ es) p q x it s h t = ⊎_elim
      (λ (f : e x ≡ Err Trap).
      record { last = at p x; steps = 0; before = omega arith; passes = nowhere_yet (at p x); core = refl; traps = traps_at code e s.1.0 p x it s.1.1 f; inside = begins_held e es p q s h })
      (λ (f : Moves e x x × Trapped Moves es x).
      let r = traps_once es s.0 q x it s.2 (rest_held e es p q s h) f.1 in
      record {
        last = r.last;
        steps = suc r.steps;
        before = omega (arith, r.before);
        passes = on r.steps (suc r.steps) (at p x) (at s.0 x) r.last (omega arith) (moved_on e p s.0 x x it s.1 f.0) (begins_held e es p q s h) r.passes;
        core = r.core;
        traps = r.traps;
        inside = r.inside;
      })
      t

  reached_once : (es : List Effect) (p q : ℕ) (x : Core) (exit : Exit) (y : Core) → x.it ≡ 0 → Stands code 1 es p q → Held p q → Reaches Moves q es x exit y → Passes code may_skip (steps_of 1 es) (at p x) (at (goes_on q exit) y)
  reached_once es p q x exit y it s h r = subst (λ a. Passes code may_skip (steps_of 1 es) (at p x) (at a y)) r.there (chain_passes es p q x r.out y it s h r.chain)

pub sequences_work_once : (code : CodeBytes) (may_skip : ℕ → Bool) (t : Task) (groups : List Effect) → ((a : ℕ) → t.place ≤ a → a < t.end → may_skip a ≡ false) → Stood Moves code 1 t groups → DoesOnce code may_skip t
sequences_work_once code may_skip t es h s = record { acts = acts; rests = rests; halts = halts }
  where
    least : steps_of 1 es ≤ t.length
    least = omega (arith, s.length)

    acts : (y : Core) (g : Change) → Begins y → t.taken y ≡ true → t.effect y ≡ Ok g → (z : Core) × Passes code may_skip t.length (at t.place y) (at (goes_on t.end g.exit) z) × SameBut t.loses (applied g y) z
    acts y g b k e =
        let a = s.carries.acts y g b k e in
        (a.0, longer code may_skip (steps_of 1 es) t.length (at t.place y) (at (goes_on t.end g.exit) a.0) least (reached_once code may_skip es t.place t.end y g.exit a.0 b.clear s.stands h a.1), a.2)

    rests : (y : Core) → Begins y → t.taken y ≡ false → Passes code may_skip t.length (at t.place y) (at t.end y)
    rests y b k = longer code may_skip (steps_of 1 es) t.length (at t.place y) (at t.end y) least (reached_once code may_skip es t.place t.end y Falls y b.clear s.stands h (s.carries.rests y b k))

    halts : (y : Core) → Begins y → t.taken y ≡ true → t.effect y ≡ Err Trap → TrapsOnce code may_skip t.length (at t.place y)
    halts y b k e =
        let r = traps_once code may_skip es t.place t.end y b.clear s.stands h (s.carries.halts y b k e) in
        record { last = r.last; steps = r.steps; before = omega (arith, r.before, least); passes = r.passes; core = r.core; traps = r.traps; inside = r.inside }
