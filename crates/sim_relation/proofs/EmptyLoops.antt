-- No instructions do a branch to itself.
use Rattle.std.proofs.Common.{◌≡◌, ◌+◌, [], Ok, refl, sym, ap, ◌∙◌, subst, arith}
use Rattle.thumb_instr.specs.Blocks.{it_after}
use Rattle.thumb_table.specs.States.{Core, at, applied}
use Rattle.thumb_table.specs.Steps.{goes_on}
use Rattle.seq_core.specs.Meanings.{meant}
use Rattle.seq_core.specs.Does.{Comes, SameBut}
use Rattle.sim_charts.proofs.ExampleUnits.{change_is, going}
use Rattle.sim_relation.specs.Doing.{loses}
use Rattle.sim_relation.specs.EmptyLoop.{loop, EmptyLoopsWork}

pub empty_loop : EmptyLoopsWork
unfolding meant
empty_loop code c start x skips legal clock = record {
  acts = λ y k b t does.
      let k_is : going (start + x) ≡ k = change_is _ _ _ refl does in
      let z = applied (going (start + x)) y in
      let same : z ≡ y = ap (λ i. record y { it = i }) (ap it_after b.clear ∙ sym b.clear) in
      subst (λ q. (z : Core) × Comes code skips 0 clock (at (start + x) y) (at (goes_on (start + x) q.exit) z) × SameBut (loses loop []) (applied q y) z) k_is (
        z,
        record { steps = 0; within = omega arith; runs = ap (λ v. Ok (at (start + x) v)) (sym same) },
        record { count = refl; members = λ j l. record { word = λ w. refl; n = λ q. refl; z = λ q. refl; c = λ q. refl; v = λ q. refl }; memory = refl; clear = ap it_after b.clear },
      );
  rests = λ y b t. absurd cc;
  halts = λ y b t does. absurd cc;
}
