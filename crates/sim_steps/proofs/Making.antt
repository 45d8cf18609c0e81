-- From changes that follow each other to what a step at a point is asked to be.
use Rattle.std.proofs.Common.{◌≡◌, ℕ, ◌-◌, ◌⊎◌, inl, inr, ⊎_elim, true, false, Some, Ok, refl, sym, ap, ◌∙◌, subst, arith}
use Rattle.std.specs.Prelude.{◌||◌}
use Rattle.std.proofs.lemmas.Bool.{cases_lt}
use Rattle.std.proofs.lemmas.List.{get_or_past}
use Rattle.mark_word.specs.Words.{Word}
use Rattle.mark_word.specs.declared.marks.Mark.TheVariants as mark
use Rattle.thumb_instr.specs.declared.instructions.Instr.{Instr}
use Rattle.thumb_instr.specs.declared.instructions.Instr.TheVariants as instr
use Rattle.thumb_instr.specs.Blocks.{it_after}
use Rattle.thumb_instr.specs.Formed.{IsFormed}
use Rattle.thumb_instr.specs.Sets.{reads_of, cond_reads_of}
use Rattle.thumb_table.specs.Parts.{CodeBytes}
use Rattle.thumb_table.specs.States.{Core, Site, Change, Outcome, Exit, Falls, Jumps, read, or_old}
use Rattle.thumb_table.specs.Effects.{change}
use Rattle.thumb_table.specs.Ordinary.{OrdinaryReturn, OrdinaryJump}
use Rattle.seq_core.specs.Reading.{tests_of, uses_of, starts_block, may_jump}
use Rattle.seq_core.proofs.Quiet.{quiet}
use Rattle.sim_charts.specs.Charts.{Chart, Point, Return, leaves, reads_at, branch_cond, cond_of, falls, it_behind}
use Rattle.sim_charts.specs.Changes.{SameKind}
use Rattle.sim_charts.specs.Alike.{by_chart, SameWord}
use Rattle.sim_charts.specs.Addresses.{IsProperChart}
use Rattle.sim_charts.specs.Twins.{ReadsAlike, ChangesAlike, GoesAlike, falls_on, follows}
use Rattle.sim_charts.proofs.Sets.{or_left, or_right, or_cases}
use Rattle.sim_charts.proofs.Addresses.{determined}
use Rattle.sim_charts.proofs.Alikeness.{members_alike, memory_alike, stays_marked}
use Rattle.sim_steps.proofs.Following.{Lawful, Akin, Follows, SameTarget}
use Rattle.sim_steps.proofs.Members.{fills_of}
use Rattle.sim_steps.proofs.Words.{odd_old}
use Rattle.sim_steps.proofs.Ordinary.{target_marked}

-- a branch tests its own condition
tests_in : (i : Instr) (k : ℕ) → tests_of i k ≡ true → cond_reads_of (branch_cond i) k ≡ true
tests_in (instr.Branch b) k e = e
tests_in i k e = absurd cc

pub reads_uses : (p : Point) (k : ℕ) → uses_of p.instr k ≡ true → reads_at p k ≡ true
reads_uses p k e = ⊎_elim
    (λ (l : reads_of p.instr k ≡ true). or_left (reads_of p.instr k) _ l)
    (λ (l : tests_of p.instr k ≡ true). or_right (reads_of p.instr k) (cond_reads_of (cond_of p) k || cond_reads_of (branch_cond p.instr) k) (or_right (cond_reads_of (cond_of p) k) (cond_reads_of (branch_cond p.instr) k) (tests_in p.instr k l)))
    (or_cases (reads_of p.instr k) (tests_of p.instr k) e)

-- outside of IT the state moves on
it_moves : (i : Instr) (it : ℕ) → starts_block i ≡ false → it_behind i it ≡ it_after it
it_moves (instr.It i) it e = absurd cc
it_moves i it e = refl

abbrev pub lawful : (chart : Chart) → IsProperChart chart → Lawful
lawful chart proper = record { taking = by_chart chart; laws = determined chart proper }

module _ (chart : Chart) (plain : CodeBytes) (K : ℕ) (p : Point) where
  pub akin_of : (x y : Core) → ReadsAlike chart p x y → Akin (by_chart chart) p.instr x y
  akin_of x y ra = record {
    regs = λ r e. elim (cases_lt r 15) [
      | inl lt ↦ (ra.members r (or_left (reads_of p.instr r) _ e)).word lt
      | inr ge ↦
          let a = ra.sound.plain in
          let b = ra.sound.hard in
          subst (λ w. SameWord chart w (read y r)) (sym (get_or_past x.regs r (plain_word 0) (omega (arith, a, ge))))
          (subst (λ w. SameWord chart (plain_word 0) w) (sym (get_or_past y.regs r (plain_word 0) (omega (arith, b, ge)))) refl)
    ];
    flags = record {
      n = λ e. (ra.members 16 (reads_uses p 16 e)).n refl;
      z = λ e. (ra.members 17 (reads_uses p 17 e)).z refl;
      c = λ e. (ra.members 18 (reads_uses p 18 e)).c refl;
      v = λ e. (ra.members 19 (reads_uses p 19 e)).v refl;
    };
    memory = ra.store.memory;
  }
    where
      plain_word : ℕ → Word
      plain_word b = record { bits = b; mark = mark.Plain }

  -- what is asked of a step, from the other side's change
  pub made_alike : (x y : Core) (h : Change) (o : Outcome) (s : Site) → IsFormed p.instr → starts_block p.instr ≡ false → ReadsAlike chart p x y → change p.instr s x ≡ Ok h →
      (f : Follows (by_chart chart) p.instr x y h o) → GoesAlike chart plain K p h.exit f.change.exit → (g : Change) × (o ≡ Ok g) × ChangesAlike chart plain K p x y h g
  made_alike x y h o s formed starts ra e f goes = (
    f.change,
    f.comes,
    record {
      members = members_alike chart p.instr x y h f.change ra.sound (fills_of p.instr s x h formed e) f.same;
      memory = memory_alike (by_chart chart) x y h f.change f.same.cells ra.store.memory;
      marked = stays_marked x h f.words f.cells ra.sound.marked;
      it = ap (λ v. or_old v (it_after x.it)) ((quiet p.instr s x h e).it starts) ∙ sym (it_moves p.instr x.it starts);
      goes = goes;
    },
  )

  -- both fall through
  fall_alike : (e f : Exit) → e ≡ Falls → SameKind e f → leaves p.way ≡ false → falls p.instr ≡ true → GoesAlike chart plain K p e f
  fall_alike Falls Falls q k w l = falls_on w l
  fall_alike Falls (Jumps b) q k w l = absurd k
  fall_alike (Jumps a) f q k w l = absurd cc

  pub falls_alike : (x y : Core) (h : Change) (o : Outcome) (s : Site) → may_jump p.instr ≡ false → leaves p.way ≡ false → falls p.instr ≡ true → change p.instr s x ≡ Ok h → (f : Follows (by_chart chart) p.instr x y h o) → GoesAlike chart plain K p h.exit f.change.exit
  falls_alike x y h o s jumps w l e f = fall_alike h.exit f.change.exit ((quiet p.instr s x h e).falls jumps) f.same.exit w l

  -- both jump to a word
  pub target_alike : (proper : IsProperChart chart) (w v : Word) (e f : Exit) → SameTarget (by_chart chart) (Some w) (Some v) e f → leaves p.way ≡ true → OrdinaryJump plain w → (p.way ≡ Return → OrdinaryReturn plain w ⊎ ((K ≡ 4) × (reads_of p.instr 14 ≡ true))) → GoesAlike chart plain K p e f
  target_alike proper w v (Jumps a) (Jumps b) s l o r =
      let odd = odd_old (lawful chart proper) w.mark w.bits v.bits (target_marked w.mark s.0) s.1 s.2 in
      subst (λ c. GoesAlike chart plain K p (Jumps c) (Jumps b)) (sym s.3) (subst (λ c. GoesAlike chart plain K p (Jumps (w.bits - 1)) (Jumps c)) (sym s.4) (follows w v l odd s.1 s.2 o r))
  target_alike proper w v Falls f s l o r = absurd s
  target_alike proper w v (Jumps a) Falls s l o r = absurd s
