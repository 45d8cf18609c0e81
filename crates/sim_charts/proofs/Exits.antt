-- One ordinary plain step at a point, and what the unit makes of it: one lemma for each way that control goes.
use Rattle.std.proofs.Common.{◌≡◌, ℕ, ◌+◌, ◌-◌, ◌⊎◌, inl, inr, ⊎_elim, Bool, true, false, Some, Ok, refl, sym, ap, ◌∙◌, subst}
use Rattle.std.specs.Prelude.{◌&&◌, ◌||◌, not}
use Rattle.thumb_instr.specs.declared.instructions.Instr.{Instr}
use Rattle.thumb_instr.specs.declared.instructions.Instr.TheVariants as instr
use Rattle.thumb_instr.specs.Blocks.{it_after}
use Rattle.thumb_instr.specs.Sets.{reads_of, cond_reads_of}
use Rattle.thumb_table.specs.Parts.{CodeBytes}
use Rattle.thumb_table.specs.States.{Core, State, at, Change, Exit, Site, applied, unchanged}
use Rattle.thumb_table.specs.Conditions.{holds}
use Rattle.thumb_table.specs.Effects.{change}
use Rattle.thumb_table.specs.Steps.{goes_on}
use Rattle.thumb_table.specs.Schedules.{exit}
use Rattle.sim_charts.specs.Charts.{Chart, Point, Way, Onward, Branch, Transfer, Call, Return, Stops, leaves, jumps, passes, reads_at, sets_of, always_writes, has_condition, may_fail, cond_of, branch_cond, is_taken, falls, it_behind, Leads}
use Rattle.sim_charts.specs.Boundaries.{boundary, results}
use Rattle.sim_charts.specs.Alike.{SameMember, SameStore, AreSound, Agree}
use Rattle.seq_core.specs.Does.{SameBut, Begins}
use Rattle.sim_charts.specs.Twins.{ChangesAlike, GoesAlike, falls_on, branches, enters, follows, ReadsAlike}
use Rattle.sim_charts.specs.Linked.{Linked, PairedUnit}
use Rattle.sim_charts.specs.Simulates.{At, Over}
use Rattle.sim_charts.proofs.Sets.{or_left, or_right, or_cases, and_right, and_both, and_fails, first_fails}
use Rattle.sim_charts.proofs.Members.{then_kept, store_kept, holds_alike, fails_may}
use Rattle.sim_charts.proofs.Alikeness.{written_length}
use Rattle.sim_charts.proofs.Landing.{IsCarried, LandsAt, Lands, result_carried, enters_lands, follows_lands}

-- a branch whose own condition fails does nothing
pub branch_rests : (i : Instr) (site : Site) (x : Core) → holds (branch_cond i) x ≡ false → change i site x ≡ Ok unchanged
unfolding change
branch_rests (instr.Branch b) site x e = rw e
branch_rests i site x e = absurd cc

pub branch_goes_on : (i : Instr) (x : Core) (it : ℕ) → holds (branch_cond i) x ≡ false → it_behind i it ≡ it_after it
branch_goes_on (instr.Branch b) x it e = refl
branch_goes_on i x it e = absurd cc

-- a change that is none
pub unchanged_member : (chart : Chart) (k : ℕ) (x y : Core) → SameMember chart k x y → SameMember chart k (applied unchanged x) y
unchanged_member chart k x y s = record { word = s.word; n = s.n; z = s.z; c = s.c; v = s.v }

module _ (chart : Chart) (plain hard : CodeBytes) (c K F : ℕ) (may_skip : ℕ → Bool) (linked : Linked chart plain hard c K F may_skip) where
  -- both runs are at a point and its place, or over
  abbrev pub Rel : State → State → Type 0
  Rel s t = At chart s t ⊎ Over chart K s t

  module _ (p : Point) (s t : State) (there : chart s.pc ≡ Some p) (it : s.core.it ≡ p.it) (placed : t.pc ≡ p.place) (agree : Agree chart p.live s.core t.core) where
    abbrev pub unit : PairedUnit chart plain hard c K F may_skip s.pc p
    unit = linked.units s.pc p there

    pub begins : Begins t.core
    begins = record { count = agree.sound.hard; clear = agree.sound.clear }

    pub reads_live : (k : ℕ) → reads_at p k ≡ true → p.live k ≡ true
    reads_live k r = unit.lives.used k (or_left (reads_at p k) (boundary K p.way k && not (always_writes p k)) r)

    pub reads_alike : ReadsAlike chart p s.core t.core
    reads_alike = record { sound = agree.sound; members = λ k r. agree.members k (reads_live k r); store = agree.store }

    pub taken_alike : is_taken p s.core ≡ is_taken p t.core
    taken_alike =
        let a = holds_alike chart s.core t.core (cond_of p) (λ k r. agree.members k (reads_live k (or_right (reads_of p.instr k) (cond_reads_of (cond_of p) k || cond_reads_of (branch_cond p.instr) k) (or_left (cond_reads_of (cond_of p) k) (cond_reads_of (branch_cond p.instr) k) r)))) in
        let b = holds_alike chart s.core t.core (branch_cond p.instr) (λ k r. agree.members k (reads_live k (or_right (reads_of p.instr k) (cond_reads_of (cond_of p) k || cond_reads_of (branch_cond p.instr) k) (or_right (cond_reads_of (cond_of p) k) (cond_reads_of (branch_cond p.instr) k) r)))) in
        ap (λ v. v && holds (branch_cond p.instr) s.core) a ∙ ap (λ v. holds (cond_of p) t.core && v) b

    -- what is live behind an edge was live, or is set
    pub before_edge : (k b : ℕ) (q : Point) → passes p ≡ true → Leads p b → chart b ≡ Some q → q.live k ≡ true → (sets_of p.instr k ≡ true) ⊎ (p.live k ≡ true)
    before_edge k b q pass l tq e = elim (always_writes p k) as (λ v. always_writes p k ≡ v → (sets_of p.instr k ≡ true) ⊎ (p.live k ≡ true)) [
      | true ↦ λ w. inl (and_right (not (has_condition p)) (sets_of p.instr k) w)
      | false ↦ λ w. inr (unit.lives.passed k b q pass l tq e w)
    ] refl

    pub before_boundary : (k : ℕ) → boundary K p.way k ≡ true → (sets_of p.instr k ≡ true) ⊎ (p.live k ≡ true)
    before_boundary k e = elim (always_writes p k) as (λ v. always_writes p k ≡ v → (sets_of p.instr k ≡ true) ⊎ (p.live k ≡ true)) [
      | true ↦ λ w. inl (and_right (not (has_condition p)) (sets_of p.instr k) w)
      | false ↦ λ w. inr (unit.lives.used k (or_right (reads_at p k) (boundary K p.way k && not (always_writes p k)) (and_both (boundary K p.way k) (not (always_writes p k)) e (ap not w))))
    ] refl

    -- WHERE THE CONDITION FAILS both sides go on to the next point, and change nothing.
    pub rests_at : is_taken p s.core ≡ false → At chart (at (s.pc + p.width) (applied unchanged s.core)) (at p.end t.core)
    rests_at e =
        let w = and_fails (holds (cond_of p) s.core) (holds (branch_cond p.instr) s.core) e in
        let may : has_condition p ≡ true = ⊎_elim
        (λ (l : holds (cond_of p) s.core ≡ false). or_left (may_fail (cond_of p)) (may_fail (branch_cond p.instr)) (fails_may (cond_of p) s.core l))
        (λ (r : holds (branch_cond p.instr) s.core ≡ false). or_right (may_fail (cond_of p)) (may_fail (branch_cond p.instr)) (fails_may (branch_cond p.instr) s.core r))
        w in
        let onward : (may_fail (cond_of p) || falls p.instr) ≡ true = ⊎_elim
        (λ (l : holds (cond_of p) s.core ≡ false). or_left (may_fail (cond_of p)) (falls p.instr) (fails_may (cond_of p) s.core l))
        (λ (r : holds (branch_cond p.instr) s.core ≡ false). or_right (may_fail (cond_of p)) (falls p.instr) (falls_may p.instr s.core r))
        w in
        let goes_on_it : it_behind p.instr p.it ≡ it_after p.it = ⊎_elim
        (λ (l : holds (cond_of p) s.core ≡ false). unit.goes.no_it (fails_may (cond_of p) s.core l))
        (λ (r : holds (branch_cond p.instr) s.core ≡ false). branch_goes_on p.instr s.core p.it r)
        w in
        let next = unit.goes.onward onward in
        let q = unit.goes.next (s.pc + p.width) next in
        let pass = or_right (not (leaves p.way)) (has_condition p) may in
        let none : (k : ℕ) → always_writes p k ≡ false = λ k. first_fails (not (has_condition p)) (sets_of p.instr k) (ap not may) in
        record {
          point = q.0;
          there = q.1;
          it = ap it_after it ∙ sym goes_on_it ∙ sym q.4;
          placed = sym q.3;
          agree = record {
            sound = record { plain = agree.sound.plain; marked = record { words = agree.sound.marked.words; cells = agree.sound.marked.cells }; hard = agree.sound.hard; clear = agree.sound.clear };
            members = λ k l. unchanged_member chart k s.core t.core (agree.members k (unit.lives.passed k (s.pc + p.width) q.0 pass (inl next) q.1 l (none k)));
            store = record { stack = unchanged_member chart 13 s.core t.core agree.store.stack; memory = agree.store.memory };
          };
        }
      where
        falls_may : (i : Instr) (x : Core) → holds (branch_cond i) x ≡ false → falls i ≡ true
        falls_may (instr.Branch b) x e = fails_may b.cond x e
        falls_may i x e = absurd cc

    -- WHERE THE INSTRUCTION TAKES EFFECT, by the changes on both sides and what the unit loses.
    module _ (h g : Change) (z : Core) (alike : ChangesAlike chart plain K p s.core t.core h g) (but : SameBut p.loses (applied g t.core) z) where
      pub same_after : (k : ℕ) → (sets_of p.instr k ≡ true) ⊎ (p.live k ≡ true) → p.loses k ≡ false → SameMember chart k (applied h s.core) z
      same_after k w e = then_kept chart k (applied h s.core) (applied g t.core) z (alike.members k (⊎_elim (λ l. inl l) (λ r. inr (agree.members k r)) w)) (but.members k e)

      pub sound_after : AreSound (applied h s.core) z
      sound_after = record {
        plain = written_length h.regs s.core.regs ∙ agree.sound.plain;
        marked = alike.marked;
        hard = but.count ∙ written_length g.regs t.core.regs ∙ agree.sound.hard;
        clear = but.clear;
      }

      pub store_after : SameStore chart (applied h s.core) z
      store_after = store_kept chart p.loses (applied h s.core) (applied g t.core) z unit.spares.stack (alike.members 13 (inr agree.store.stack)) alike.memory but

      it_after_all : (applied h s.core).it ≡ it_behind p.instr p.it
      it_after_all = alike.it ∙ ap (it_behind p.instr) it

      arrives : (a b : ℕ) (q : Point) → chart a ≡ Some q → b ≡ q.place → (applied h s.core).it ≡ q.it → ((k : ℕ) → q.live k ≡ true → ((sets_of p.instr k ≡ true) ⊎ (p.live k ≡ true)) × (p.loses k ≡ false)) → At chart (at a (applied h s.core)) (at b z)
      arrives a b q tq e eit f = record {
        point = q;
        there = tq;
        it = eit;
        placed = e;
        agree = record {
          sound = sound_after;
          members = λ k l. let r = f k l in same_after k r.0 r.1;
          store = store_after;
        };
      }

      -- It falls to the next point.
      pub falls_to : leaves p.way ≡ false → falls p.instr ≡ true → At chart (at (s.pc + p.width) (applied h s.core)) (at p.end z)
      falls_to stay f =
          let next = unit.goes.onward (or_right (may_fail (cond_of p)) (falls p.instr) f) in
          let q = unit.goes.next (s.pc + p.width) next in
          let pass = or_left (not (leaves p.way)) (has_condition p) (ap not stay) in
          arrives (s.pc + p.width) p.end q.0 q.1 (sym q.3) (it_after_all ∙ sym q.4)
          (λ k l. (before_edge k (s.pc + p.width) q.0 pass (inl next) q.1 l, unit.spares.onward k (s.pc + p.width) q.0 stay (inl next) q.1 l))

      -- It branches.
      pub branches_to : (a : ℕ) (q : Point) → p.way ≡ Branch a → chart a ≡ Some q → At chart (at a (applied h s.core)) (at q.place z)
      branches_to a q w tq =
          let stay : leaves p.way ≡ false = ap leaves w in
          let pass = or_left (not (leaves p.way)) (has_condition p) (ap not stay) in
          let last = unit.goes.last (ap jumps w) in
          arrives a q.place q tq refl (it_after_all ∙ last ∙ sym (unit.goes.branch a q w tq))
          (λ k l. (before_edge k a q pass (inr w) tq l, unit.spares.onward k a q stay (inr w) tq l))

      -- It leaves: by a call, a transfer or a return.
      carried_over : (k : ℕ) → leaves p.way ≡ true → IsCarried K p k → ((sets_of p.instr k ≡ true) ⊎ (p.live k ≡ true)) × (p.loses k ≡ false)
      carried_over k away w = ⊎_elim
          (λ (b : boundary K p.way k ≡ true). (before_boundary k b, unit.spares.away k away b))
          (λ (o : (k ≡ 14) × ((reads_of p.instr 14 || sets_of p.instr 14) ≡ true)).
          subst (λ j. ((sets_of p.instr j ≡ true) ⊎ (p.live j ≡ true)) × (p.loses j ≡ false)) (sym o.0) (
            ⊎_elim (λ (r : reads_of p.instr 14 ≡ true). inr (reads_live 14 (or_left (reads_of p.instr 14) _ r))) (λ (v : sets_of p.instr 14 ≡ true). inl v) (or_cases (reads_of p.instr 14) (sets_of p.instr 14) o.1),
            unit.spares.link o.1,
          ))
          w

      pub leaves_to : (a b : ℕ) → leaves p.way ≡ true → Lands chart K p a b → Rel (at a (applied h s.core)) (at b z)
      leaves_to a b away lands = ⊎_elim
          (λ (e : (a ≡ exit) × (b ≡ exit)). inr (record {
            plain = e.0;
            hard = e.1;
            same = record {
              regs = λ r res. let w = carried_over r away (inl (result_carried K r p.way linked.few away (or_left (results K r) _ res))) in same_after r w.0 w.1;
              store = store_after;
            };
          }))
          (λ (q : LandsAt chart K p a b). inl (arrives a b q.point q.there q.placed (it_after_all ∙ unit.goes.last (leaves_jumps p.way away) ∙ sym q.clear) (λ k l. carried_over k away (q.carried k l))))
          lands
        where
          leaves_jumps : (w : Way) → leaves w ≡ true → jumps w ≡ true
          leaves_jumps Onward l = absurd cc
          leaves_jumps (Branch t) l = refl
          leaves_jumps Transfer l = refl
          leaves_jumps Call l = refl
          leaves_jumps Return l = refl
          leaves_jumps Stops l = absurd cc

      -- all ways
      pub goes_to : (e e' : Exit) → h.exit ≡ e → g.exit ≡ e' → GoesAlike chart plain K p e e' → Rel (at (goes_on (s.pc + p.width) e) (applied h s.core)) (at (goes_on p.end e') z)
      goes_to e e' eh eg (falls_on stay f) = inl (falls_to stay f)
      goes_to e e' eh eg (branches a q w tq) = inl (branches_to a q w tq)
      goes_to e e' eh eg (enters a q w tq en) = leaves_to a q.place (⊎_elim (λ l. ap leaves l) (λ r. ap leaves r) w) (enters_lands chart plain hard c K F may_skip linked s.pc p unit a q w tq en)
      goes_to e e' eh eg (follows w v away odd marked same o r) = leaves_to (w.bits - 1) (v.bits - 1) away (follows_lands chart plain hard c K F may_skip linked s.pc p unit w v away odd marked same o r)
