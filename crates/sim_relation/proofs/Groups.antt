-- Copies of an instruction in a unit are groups of its effect, where the unit stands in a code.
use Rattle.std.proofs.Common.{◌≡◌, ℕ, ◌+◌, true, Ok, ap, ◌∙◌, subst, arith}
use Rattle.thumb_instr.specs.declared.instructions.Instr.{Instr}
use Rattle.thumb_table.specs.Parts.{CodeBytes}
use Rattle.seq_core.specs.Sequences.{IsCopy, Copies}
use Rattle.seq_core.specs.Groups.{done, names_no_place}
use Rattle.seq_core.proofs.Placing.{placed_is_done}
use Rattle.sim_relation.specs.Standing.{Linking, StepStands}
use Rattle.sim_relation.specs.AddsRow.{step}

module _ (code : CodeBytes) (start : ℕ) (link : Linking) (i : Instr) (nowhere : names_no_place i ≡ true) where
  copy : (x w : ℕ) (s : StepStands code start link (step x w i)) → IsCopy code (done i) s.fetched (start + x)
  copy x w s = record {
    instr = i;
    there = s.there;
    means = s.means ∙ ap Ok s.linked;
    effect = λ y. (placed_is_done (record { code = code; address = start + x; width = s.fetched.width })).others i y nowhere;
  }

  pub two_copies : (x w v : ℕ) → StepStands code start link (step x w i) → StepStands code start link (step (x + w) v i) → Copies code 2 (done i) (start + x) (start + (x + w + v))
  two_copies x w v s t =
      let e : start + (x + w) ≡ start + x + s.fetched.width = omega (arith, s.width) in
      (s.fetched, copy x w s, (t.fetched, subst (IsCopy code (done i) t.fetched) e (copy (x + w) v t), omega (arith, s.width, t.width)))
