use Rattle.std.proofs.Common.{◌≡◌, ◌++◌, ◌∷◌, [], List, sym, subst, rules}
use Rattle.thumb_instr.specs.declared.instructions.Instr.TheVariants as instr
use Rattle.seq_core.specs.declared.steps.Step.{Step}
use Rattle.seq_core.specs.declared.steps.Goal.TheVariants.{Nowhere}
use Rattle.seq_core.specs.Builders.{AreCoded}
use Rattle.seq_calls.proofs.Coded.{trap_row, coded_behind}
use Rattle.seq_calls.proofs.landings.with_landing.Goals as goal

pub returns-clause-coded : goal.returns-clause-coded
returns-clause-coded c = λ coded.
    let landing : Step = record { instr = instr.Trap (record { imm = 0 }); goal = Nowhere; copies = c.args.copies } in
    let made : c.land.new.self.steps ≡ c.args.s.now.steps ++ landing ∷ [] = search rules in
    subst (λ (steps : List Step). AreCoded steps) (sym made) (coded_behind c.args.s.now.steps landing coded trap_row)
