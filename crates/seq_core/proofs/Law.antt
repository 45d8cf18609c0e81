-- THE LAW OF SEQUENCES: a chain of idempotent groups does what its effects do in a row, under every legal schedule.
use Rattle.std.proofs.Common.{◌≡◌, ℕ, zero, suc, ◌+◌, ◌<◌, ⊎_elim, Bool, true, false, List, [], ◌∷◌, Some, Ok, Err, refl, sym, ap, ◌∙◌, subst, arith}
use Rattle.std.specs.Prelude.{if◌then◌else◌}
use Rattle.thumb_instr.specs.Blocks.{place_in_block, block_condition}
use Rattle.thumb_instr.specs.Rows.{decode}
use Rattle.thumb_table.specs.declared.faults.FaultKind.TheVariants.{Trap}
use Rattle.thumb_table.specs.Parts.{CodeBytes}
use Rattle.thumb_table.specs.States.{Core, State, at, Change, Exit, Falls, Jumps, applied, unchanged}
use Rattle.thumb_table.specs.Conditions.{holds}
use Rattle.thumb_table.specs.Effects.{change}
use Rattle.thumb_table.specs.Steps.{Fetched, step_of, executed, settled, goes_on, takes_effect, move}
use Rattle.thumb_table.specs.Schedules.{run}
use Rattle.seq_core.specs.Does.{Effect, Task, Legal, Comes, Acts, Rests, Halts, StopsAt, Tolerates}
use Rattle.seq_core.specs.Sequences.{IsCopy, Copies, Stands, steps_of, Settles, Leads, Chain, Trapped, Reaches, Stood}
use Rattle.seq_core.proofs.Runs.{comes_on, run_through}
use Rattle.seq_core.proofs.Copies.{Makes, Leaps, Group, JumpGroup, makes, passes, first_step, group, jump_group}

module _ (code : CodeBytes) where
  -- what one copy does
  copy_makes : (e : Effect) (f : Fetched) (a : ℕ) (x : Core) (h : Change) → x.it ≡ 0 → IsCopy code e f a → e x ≡ Ok h → step_of code (Some f) (at a x) ≡ Ok (at (goes_on (a + f.width) h.exit) (applied h x))
  copy_makes e f a x h it s m = makes code f s.instr a x h it s.means (s.effect x ∙ m)

  pub copy_falls : (e : Effect) (f : Fetched) (a : ℕ) (x y : Core) (h : Change) → x.it ≡ 0 → IsCopy code e f a → e x ≡ Ok h → h.exit ≡ Falls → applied h x ≡ y → Makes code f a x y
  copy_falls e f a x y h it s m l k = copy_makes e f a x h it s m ∙ ap (λ t. Ok (at (goes_on (a + f.width) t) (applied h x))) l ∙ ap (λ z. Ok (at (a + f.width) z)) k

  pub copy_leaps : (e : Effect) (f : Fetched) (a : ℕ) (x : Core) (t : ℕ) (y : Core) → x.it ≡ 0 → IsCopy code e f a → Leads e x t y → Leaps code f a x t y
  copy_leaps e f a x t y it s l =
      copy_makes e f a x l.made it s l.makes ∙ ap (λ o. Ok (at (goes_on (a + f.width) o) (applied l.made x))) l.jumps ∙ ap (λ z. Ok (at t z)) l.comes

  grouped : (c : ℕ) (e : Effect) (p q : ℕ) (x y : Core) → x.it ≡ 0 → Settles e x y → Copies code c e p q → Group code c p q x y
  grouped zero e p q x y it s g = g
  grouped (suc c) e p q x y it s g = (
    g.0,
    g.1.there,
    copy_falls e g.0 p x y s.first it g.1 s.makes s.falls s.comes,
    copy_falls e g.0 p y y s.second s.clear g.1 s.again s.falls_again s.stays,
    grouped c e (p + g.0.width) q x y it s g.2,
  )

  leaping : (c : ℕ) (e : Effect) (p q : ℕ) (x : Core) (t : ℕ) (y : Core) → x.it ≡ 0 → Leads e x t y → Copies code c e p q → JumpGroup code c p x t y
  leaping zero e p q x t y it l g = tt
  leaping (suc c) e p q x t y it l g = (g.0, g.1.there, copy_leaps e g.0 p x t y it g.1 l, leaping c e (p + g.0.width) q x t y it l g.2)

  -- a copy traps
  pub traps_at : (e : Effect) (f : Fetched) (a : ℕ) (x : Core) → x.it ≡ 0 → IsCopy code e f a → e x ≡ Err Trap → move code false (at a x) ≡ Err Trap
  traps_at e f a x it s m =
      let t : takes_effect x ≡ true = ap (λ k. holds (block_condition k) x) it in
      ap (λ o. step_of code o (at a x)) s.there
      ∙ ap (λ k. executed code f (at a x) (decode (place_in_block k) f.first f.second)) it
      ∙ ap (executed code f (at a x)) s.means
      ∙ ap (λ b. settled (a + f.width) x (if b then change s.instr (record { code = code; address = a; width = f.width }) x else Ok unchanged)) t
      ∙ ap (settled (a + f.width) x) (s.effect x ∙ m)

  module _ (c : ℕ) (skips : ℕ → Bool) (legal : Legal c skips) where
    settled_comes : (e : Effect) (p q i : ℕ) (x y : Core) → x.it ≡ 0 → Settles e x y → Copies code c e p q → run code skips c i (at p x) ≡ Ok (at q y)
    settled_comes e p q i x y it s g = let l = legal i in group code skips c i p q x y it s.clear (grouped c e p q x y it s g) l.0 l.1 l.2

    pub chain_comes : (es : List Effect) (p q i : ℕ) (x : Core) (out : Exit) (y : Core) → x.it ≡ 0 → Stands code c es p q → Chain Settles es x out y → Comes code skips (steps_of c es) i (at p x) (at (goes_on q out) y)
    chain_comes [] p q i x out y it s k =
        let same : at p x ≡ at (goes_on q out) y = ap (λ a. at a x) s ∙ ap (λ z. at q z) k.1 ∙ ap (λ o. at (goes_on q o) y) (sym k.0) in
        record { steps = 0; within = omega arith; runs = ap (λ u. Ok u) same }
    chain_comes (e ∷ es) p q i x out y it s k = ⊎_elim
        (λ (f : (m : Core) × Settles e x m × Chain Settles es m out y).
        let first : Comes code skips c i (at p x) (at s.0 f.0) = record { steps = c; within = omega arith; runs = settled_comes e p s.0 i x f.0 it f.1 s.1 } in
        comes_on code skips c (steps_of c es) (c + steps_of c es) i (at p x) (at s.0 f.0) (at (goes_on q out) y) refl first (chain_comes es s.0 q (i + c) f.0 out y f.1.clear s.2 f.2))
        (λ (f : (t : ℕ) × Leads e x t y × (out ≡ Jumps t)).
        let l = legal i in
        let g : Comes code skips c i (at p x) (at f.0 y) = jump_group code skips c i p f.0 x y it (leaping c e p s.0 x f.0 y it f.1 s.1) l.0 l.1 l.2 in
        let to : at f.0 y ≡ at (goes_on q out) y = ap (λ o. at (goes_on q o) y) (sym f.2) in
        record { steps = g.steps; within = omega (arith, g.within); runs = g.runs ∙ ap (λ u. Ok u) to })
        k

    pub reached : (es : List Effect) (p q i : ℕ) (x : Core) (exit : Exit) (y : Core) → x.it ≡ 0 → Stands code c es p q → Reaches Settles q es x exit y → Comes code skips (steps_of c es) i (at p x) (at (goes_on q exit) y)
    reached es p q i x exit y it s r = subst (λ a. Comes code skips (steps_of c es) i (at p x) (at a y)) r.there (chain_comes es p q i x r.out y it s r.chain)

    -- a trap among copies
    stopped_here : (n i : ℕ) (s : State) → skips i ≡ false → move code false s ≡ Err Trap → StopsAt code skips (suc n) i s
    stopped_here n i s e t =
        let z : i + 0 ≡ i = omega arith in
        record { last = s; steps = 0; before = omega arith; runs = refl; core = refl; executed = ap skips z ∙ e; traps = t }

    stopped_later : (n a i : ℕ) (s u : State) (b : ℕ) → a + n ≡ b → run code skips a i s ≡ Ok u → u.core ≡ s.core → StopsAt code skips n (i + a) u → StopsAt code skips b i s
    stopped_later n a i s u b en r same t =
        let z : i + (a + t.steps) ≡ i + a + t.steps = omega arith in
        record {
          last = t.last;
          steps = a + t.steps;
          before = omega (arith, t.before);
          runs = run_through code skips a t.steps i s u t.last r t.runs;
          core = t.core ∙ same;
          executed = ap skips z ∙ t.executed;
          traps = t.traps;
        }

    traps_among : (k : ℕ) (e : Effect) (p q i : ℕ) (x : Core) → x.it ≡ 0 → e x ≡ Err Trap → Copies code k e p q → (j : ℕ) → j < k → skips (i + j) ≡ false → StopsAt code skips k i (at p x)
    traps_among zero e p q i x it t g j lt s = absurd (omega arith)
    traps_among (suc k) e p q i x it t g zero lt s =
        let z : i + 0 ≡ i = omega arith in
        stopped_here k i (at p x) (sym (ap skips z) ∙ s) (traps_at e g.0 p x it g.1 t)
    traps_among (suc k) e p q i x it t g (suc j) lt s =
        let z : i + suc j ≡ i + 1 + j = omega arith in
        elim (skips i) as (λ b. skips i ≡ b → StopsAt code skips (suc k) i (at p x)) [
          | true ↦ λ now. stopped_later k 1 i (at p x) (at (p + g.0.width) x) (suc k) (omega arith)
              (first_step code skips 0 i (at p x) (at (p + g.0.width) x) true now (passes code g.0 p x g.1.there it)) refl
              (traps_among k e (p + g.0.width) q (i + 1) x it t g.2 j (omega arith) (sym (ap skips z) ∙ s))
          | false ↦ λ now. stopped_here k i (at p x) now (traps_at e g.0 p x it g.1 t)
        ] refl

    pub trapped : (es : List Effect) (p q i : ℕ) (x : Core) → x.it ≡ 0 → Stands code c es p q → Trapped Settles es x → StopsAt code skips (steps_of c es) i (at p x)
    trapped [] p q i x it s t = absurd t
    trapped (e ∷ es) p q i x it s t = ⊎_elim
        (λ (f : e x ≡ Err Trap).
        let l = legal i in
        let r = traps_among c e p s.0 i x it f s.1 l.0 l.1 l.2 in
        record { last = r.last; steps = r.steps; before = omega (arith, r.before); runs = r.runs; core = r.core; executed = r.executed; traps = r.traps })
        (λ (f : Settles e x x × Trapped Settles es x). stopped_later (steps_of c es) c i (at p x) (at s.0 x) (c + steps_of c es) refl (settled_comes e p s.0 i x x it f.0 s.1) refl (trapped es s.0 q (i + c) x it s.2 f.1))
        t

module _ (code : CodeBytes) (c : ℕ) (w : Task) (es : List Effect) (s : Stood Settles code c w es) (skips : ℕ → Bool) (legal : Legal c skips) (clock : ℕ) where
  shorter : (t u : State) → Comes code skips (steps_of c es) clock t u → Comes code skips w.length clock t u
  shorter t u r = record { steps = r.steps; within = omega (arith, r.within, s.length); runs = r.runs }

  acting : Acts code w skips clock
  acting y h b t e =
      let a = s.carries.acts y h b t e in
      (a.0, shorter (at w.place y) (at (goes_on w.end h.exit) a.0) (reached code c skips legal es w.place w.end clock y h.exit a.0 b.clear s.stands a.1), a.2)

  resting : Rests code w skips clock
  resting y b t = shorter (at w.place y) (at w.end y) (reached code c skips legal es w.place w.end clock y Falls y b.clear s.stands (s.carries.rests y b t))

  halting : Halts code w skips clock
  halting y b t e =
      let r = trapped code c skips legal es w.place w.end clock y b.clear s.stands (s.carries.halts y b t e) in
      record { last = r.last; steps = r.steps; before = omega (arith, r.before, s.length); runs = r.runs; core = r.core; executed = r.executed; traps = r.traps }

pub sequences_work : (code : CodeBytes) (c : ℕ) (t : Task) (groups : List Effect) → Stood Settles code c t groups → Tolerates code c t
sequences_work code c t es s skips legal clock = record {
  acts = acting code c t es s skips legal clock;
  rests = resting code c t es s skips legal clock;
  halts = halting code c t es s skips legal clock;
}
