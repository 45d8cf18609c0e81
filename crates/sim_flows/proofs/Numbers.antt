-- What an instruction reads and writes does not depend on its number.
use Rattle.std.proofs.Common.{◌≡◌, ℕ, refl, sym, ap, ◌∙◌}
use Rattle.std.specs.Prelude.{◌||◌, ◌&&◌, not}
use Rattle.thumb_instr.specs.declared.instructions.Instr.{Instr}
use Rattle.thumb_instr.specs.declared.instructions.Instr.TheVariants.{Half, Branch, Call}
use Rattle.thumb_instr.specs.Numbers.{renumbered}
use Rattle.thumb_instr.specs.Sets.{reads_of, writes_of, sets_flags_of, cond_reads_of}
use Rattle.flow_recover.specs.declared.flows.Point.{Point as FlowPoint}
use Rattle.liveness.specs.Paths as paths
use Rattle.sim_charts.specs.Charts.{Point, cond_of, branch_cond, may_fail, falls, it_behind, reads_at, has_condition, always_writes}
use Rattle.seq_core.specs.Reading.{may_jump}

number_reads : (i : Instr) (n k : ℕ) → reads_of (renumbered n i) k ≡ reads_of i k
unfolding reads_of
number_reads (Half i) n k = refl
number_reads (Branch i) n k = refl
number_reads (Call i) n k = refl
number_reads i n k = refl

number_writes : (i : Instr) (n k : ℕ) → writes_of (renumbered n i) k ≡ writes_of i k
unfolding writes_of
number_writes (Half i) n k = refl
number_writes (Branch i) n k = refl
number_writes (Call i) n k = refl
number_writes i n k = refl

number_flags : (i : Instr) (n k : ℕ) → sets_flags_of (renumbered n i) k ≡ sets_flags_of i k
unfolding sets_flags_of
number_flags (Half i) n k = refl
number_flags (Branch i) n k = refl
number_flags (Call i) n k = refl
number_flags i n k = refl

number_tests : (i : Instr) (n : ℕ) → branch_cond (renumbered n i) ≡ branch_cond i
number_tests (Half i) n = refl
number_tests (Branch i) n = refl
number_tests (Call i) n = refl
number_tests i n = refl

number_behind : (i : Instr) (n it : ℕ) → it_behind (renumbered n i) it ≡ it_behind i it
number_behind (Half i) n it = refl
number_behind (Branch i) n it = refl
number_behind (Call i) n it = refl
number_behind i n it = refl

number_falls : (i : Instr) (n : ℕ) → falls (renumbered n i) ≡ falls i
number_falls (Half i) n = refl
number_falls (Branch i) n = refl
number_falls (Call i) n = refl
number_falls i n = refl

number_jumps : (i : Instr) (n : ℕ) → may_jump (renumbered n i) ≡ may_jump i
number_jumps (Half i) n = refl
number_jumps (Branch i) n = refl
number_jumps (Call i) n = refl
number_jumps i n = refl

-- two instructions that are one but for their numbers
module _ (i j : Instr) (e : renumbered 0 i ≡ renumbered 0 j) where
  pub same_reads : (k : ℕ) → reads_of i k ≡ reads_of j k
  same_reads k = sym (number_reads i 0 k) ∙ ap (λ v. reads_of v k) e ∙ number_reads j 0 k

  pub same_writes : (k : ℕ) → writes_of i k ≡ writes_of j k
  same_writes k = sym (number_writes i 0 k) ∙ ap (λ v. writes_of v k) e ∙ number_writes j 0 k

  pub same_flags : (k : ℕ) → sets_flags_of i k ≡ sets_flags_of j k
  same_flags k = sym (number_flags i 0 k) ∙ ap (λ v. sets_flags_of v k) e ∙ number_flags j 0 k

  pub same_tests : branch_cond i ≡ branch_cond j
  same_tests = sym (number_tests i 0) ∙ ap branch_cond e ∙ number_tests j 0

  pub same_behind : (it : ℕ) → it_behind i it ≡ it_behind j it
  same_behind it = sym (number_behind i 0 it) ∙ ap (λ v. it_behind v it) e ∙ number_behind j 0 it

  pub same_falls : falls i ≡ falls j
  same_falls = sym (number_falls i 0) ∙ ap falls e ∙ number_falls j 0

  pub same_jumps : may_jump i ≡ may_jump j
  same_jumps = sym (number_jumps i 0) ∙ ap may_jump e ∙ number_jumps j 0

-- and so two points
module _ (p : Point) (x : FlowPoint) (e : renumbered 0 p.instr ≡ renumbered 0 x.instr) (c : cond_of p ≡ x.cond) where
  pub reads_same : (k : ℕ) → reads_at p k ≡ paths.reads_at x k
  reads_same k =
      ap (λ r. r || (cond_reads_of (cond_of p) k || cond_reads_of (branch_cond p.instr) k)) (same_reads p.instr x.instr e k)
      ∙ ap (λ v. reads_of x.instr k || (cond_reads_of v k || cond_reads_of (branch_cond p.instr) k)) c
      ∙ ap (λ v. reads_of x.instr k || (cond_reads_of x.cond k || cond_reads_of v k)) (same_tests p.instr x.instr e)

  pub condition_same : has_condition p ≡ paths.has_condition x
  condition_same = ap (λ v. may_fail v || may_fail (branch_cond p.instr)) c ∙ ap (λ v. may_fail x.cond || may_fail v) (same_tests p.instr x.instr e)

  pub writes_same : (k : ℕ) → always_writes p k ≡ paths.always_writes x k
  writes_same k =
      ap (λ h. not h && (writes_of p.instr k || sets_flags_of p.instr k)) condition_same
      ∙ ap (λ w. not (paths.has_condition x) && (w || sets_flags_of p.instr k)) (same_writes p.instr x.instr e k)
      ∙ ap (λ w. not (paths.has_condition x) && (writes_of x.instr k || w)) (same_flags p.instr x.instr e k)
