-- A task that serves as another one is its work, and a builder's sequence serves as a point's unit.
use Rattle.std.proofs.Common.{◌≡◌, ◌≢◌, ℕ, ◌+◌, inl, inr, ⊎_elim, Bool, true, false, List, [], ◌∷◌, ◌++◌, length, Ok, refl, sym, ap, ◌∙◌, subst, arith, get_or, set, length-set}
use Rattle.std.specs.Prelude.{if◌then◌else◌}
use Rattle.std.proofs.lemmas.List.{get_or-set_other}
use Rattle.mark_word.specs.Words.{Word, plain}
use Rattle.thumb_instr.specs.declared.instructions.Instr.TheVariants.{Half, Branch, Call}
use Rattle.thumb_instr.specs.Numbers.{renumbered}
use Rattle.thumb_table.specs.Parts.{CodeBytes}
use Rattle.thumb_table.specs.States.{Core, State, at, Change, Outcome, Exit, Falls, Jumps, applied, write_all}
use Rattle.thumb_table.specs.Steps.{goes_on}
use Rattle.seq_core.specs.Does.{Task, Comes, KeepsMember, SameBut, StopsAt, Does, Tolerates, Passes, TrapsOnce, DoesOnce}
use Rattle.seq_core.specs.Meanings.{meant}
use Rattle.seq_core.specs.Classes.{has_pc}
use Rattle.seq_core.specs.Builders.{ends_of, leaves_link, returned, work}
use Rattle.sim_charts.specs.Charts.{unit_of}
use Rattle.sim_steps.specs.Units.{Near, StandsFor, Serves, WorkServes, BuiltUnitsWork, NumbersMean, LastNumberMeans}

-- ---- tasks

keeps_on : (k : ℕ) (x y z : Core) → KeepsMember k x y → KeepsMember k y z → KeepsMember k x z
keeps_on k x y z a b = record {
  word = λ e. a.word e ∙ b.word e;
  n = λ e. a.n e ∙ b.n e;
  z = λ e. a.z e ∙ b.z e;
  c = λ e. a.c e ∙ b.c e;
  v = λ e. a.v e ∙ b.v e;
}

but_on : (lost loses : ℕ → Bool) (x y z : Core) → ((k : ℕ) → loses k ≡ false → lost k ≡ false) → Near loses x y → SameBut lost y z → SameBut loses x z
but_on lost loses x y z f a b = record {
  count = b.count ∙ a.count;
  members = λ k e. keeps_on k x y z (a.members k e) (b.members k (f k e));
  memory = a.memory ∙ b.memory;
  clear = b.clear;
}

module _ (code : CodeBytes) (t u : Task) (s : Serves t u) where
  from_place : (y : Core) → at t.place y ≡ at u.place y
  from_place y = ap (λ a. at a y) s.place

  to_exit : (e f : Exit) (z : Core) → e ≡ f → at (goes_on t.end e) z ≡ at (goes_on u.end f) z
  to_exit e f z q = ap (λ a. at (goes_on a e) z) s.end ∙ ap (λ x. at (goes_on u.end x) z) q

  comes_there : (skips : ℕ → Bool) (clock : ℕ) (v w v' w' : State) → v ≡ v' → w ≡ w' → Comes code skips t.length clock v w → Comes code skips u.length clock v' w'
  comes_there skips clock v w v' w' ev ew c = let le = s.short in
      subst (λ a. Comes code skips u.length clock a w') ev (subst (λ b. Comes code skips u.length clock v b) ew (record { steps = c.steps; within = omega (arith, c.within, le); runs = c.runs }))

  passes_there : (may_skip : ℕ → Bool) (v w v' w' : State) → v ≡ v' → w ≡ w' → Passes code may_skip t.length v w → Passes code may_skip u.length v' w'
  passes_there may_skip v w v' w' ev ew c = let le = s.short in
      subst (λ a. Passes code may_skip u.length a w') ev (subst (λ b. Passes code may_skip u.length v b) ew (record { steps = c.steps; within = omega (arith, c.within, le); runs = c.runs; inside = c.inside }))

  does_there : (skips : ℕ → Bool) (clock : ℕ) → Does code t skips clock → Does code u skips clock
  does_there skips clock d = record {
    acts = λ y h b k e.
        let g = (s.effect y).acts h e in
        let r = d.acts y g.0 b (s.taken y ∙ k) g.1 in
        (r.0, comes_there skips clock _ _ _ _ (from_place y) (to_exit g.0.exit h.exit r.0 g.2) r.1, but_on t.loses u.loses (applied h y) (applied g.0 y) r.0 s.loses g.3 r.2);
    rests = λ y b k. comes_there skips clock _ _ _ _ (from_place y) (ap (λ a. at a y) s.end) (d.rests y b (s.taken y ∙ k));
    halts = λ y b k e.
        let r = d.halts y b (s.taken y ∙ k) ((s.effect y).halts e) in
        let le = s.short in
        subst (StopsAt code skips u.length clock) (from_place y) (record { last = r.last; steps = r.steps; before = omega (arith, r.before, le); runs = r.runs; core = r.core; executed = r.executed; traps = r.traps });
  }

  does_once_there : (may_skip : ℕ → Bool) → DoesOnce code may_skip t → DoesOnce code may_skip u
  does_once_there may_skip d = record {
    acts = λ y h b k e.
        let g = (s.effect y).acts h e in
        let r = d.acts y g.0 b (s.taken y ∙ k) g.1 in
        (r.0, passes_there may_skip _ _ _ _ (from_place y) (to_exit g.0.exit h.exit r.0 g.2) r.1, but_on t.loses u.loses (applied h y) (applied g.0 y) r.0 s.loses g.3 r.2);
    rests = λ y b k. passes_there may_skip _ _ _ _ (from_place y) (ap (λ a. at a y) s.end) (d.rests y b (s.taken y ∙ k));
    halts = λ y b k e.
        let r = d.halts y b (s.taken y ∙ k) ((s.effect y).halts e) in
        let le = s.short in
        subst (TrapsOnce code may_skip u.length) (from_place y) (record { last = r.last; steps = r.steps; before = omega (arith, r.before, le); passes = r.passes; core = r.core; traps = r.traps; inside = r.inside });
  }

pub work_serves : WorkServes
work_serves code c may_skip t u s works = ⊎_elim
    (λ (w : Tolerates code c t). inl (λ skips legal clock. does_there code t u s skips clock (w skips legal clock)))
    (λ (w : DoesOnce code may_skip t). inr (does_once_there code t u s may_skip w))
    works

-- ---- builders' sequences

near_self : (loses : ℕ → Bool) (y : Core) → Near loses y y
near_self loses y = record { count = refl; members = λ k e. record { word = λ b. refl; n = λ q. refl; z = λ q. refl; c = λ q. refl; v = λ q. refl }; memory = refl }

-- the last of some writes
write_last : (ws : List (ℕ × Word)) (r : ℕ) (w : Word) (regs : List Word) → write_all (ws ++ (r, w) ∷ []) regs ≡ set (write_all ws regs) r w
write_last [] r w regs = refl
write_last (v ∷ ws) r w regs = write_last ws r w (set regs v.0 v.1)

-- what is in lr beside
near_link : (loses : ℕ → Bool) (y : Core) (h : Change) (e : Exit) → loses 14 ≡ true → Near loses (applied h y) (applied (leaves_link e h) y)
near_link loses y h Falls l = near_self loses (applied h y)
near_link loses y h (Jumps t) l = record {
  count = ap length (write_last h.regs 14 (plain (t + 1)) y.regs) ∙ length_set (write_all h.regs y.regs) 14 (plain (t + 1));
  members = λ k f. record {
    word = λ b.
        let ne : k ≢ 14 = λ e. let q = sym f ∙ ap loses e ∙ l in absurd cc in
        ap (λ (w : Word). w.bits) (sym (ap (λ rs. get_or rs k (plain 0)) (write_last h.regs 14 (plain (t + 1)) y.regs) ∙ get_or-set_other (write_all h.regs y.regs) 14 k (plain (t + 1)) (plain 0) ne));
    n = λ q. refl;
    z = λ q. refl;
    c = λ q. refl;
    v = λ q. refl;
  };
  memory = refl;
}
  where
    length_set : (l : List Word) (i : ℕ) (a : Word) → length (set l i a) ≡ length l
    length_set l i a = simp length-set

leaves_exit : (e : Exit) (h : Change) → (leaves_link e h).exit ≡ h.exit
leaves_exit Falls h = refl
leaves_exit (Jumps t) h = refl

returned_ok : (o : Outcome) (h : Change) → o ≡ Ok h → returned o ≡ Ok (leaves_link h.exit h)
returned_ok o h e = ap returned e

-- a builder's meaning stands for the instruction's
stands_for : (loses : ℕ → Bool) (y : Core) (pc : Bool) (o p : Outcome) → o ≡ p → (pc ≡ true → loses 14 ≡ true) → StandsFor loses y (if pc then returned o else o) p
stands_for loses y true o p e l = record {
  acts = λ h f. (leaves_link h.exit h, returned_ok o h (e ∙ f), leaves_exit h.exit h, near_link loses y h h.exit (l refl));
  halts = λ f. ap returned (e ∙ f);
}
stands_for loses y false o p e l = record {
  acts = λ h f. (h, e ∙ f, refl, near_self loses (applied h y));
  halts = λ f. e ∙ f;
}

pub built_units_work : BuiltUnitsWork
built_units_work code c n steps may_skip p i spots test lost end short taken loses link means works =
    work_serves code c may_skip (work test spots p.place steps i lost) (unit_of p (meant (renumbered n p.instr) (ends_of spots))) (record {
      place = refl;
      end = end;
      short = short;
      taken = taken;
      effect = λ y. stands_for p.loses y (has_pc i) (meant i (ends_of spots) y) (meant (renumbered n p.instr) (ends_of spots) y) (means y) link;
      loses = loses;
    }) works

-- ---- numbers

pub numbers_mean : NumbersMean
unfolding meant
numbers_mean (Half i) n e y h = absurd cc
numbers_mean (Branch i) n e y h = refl
numbers_mean (Call i) n e y h = refl
numbers_mean i n e y h = refl

pub last_number_means : LastNumberMeans
unfolding meant
last_number_means (Half i) n m e y = refl
last_number_means (Branch i) n m e y = refl
last_number_means (Call i) n m e y = refl
last_number_means i n m e y = refl
