-- What has no guard has no condition that may fail.
use Rattle.std.specs.Prelude.{◌≡◌, ◌&&◌, ℕ, Bool, List, None}
use Rattle.std.proofs.lemmas.Option.{none-some}
use Rattle.thumb_instr.specs.declared.conditions.Cond.{Cond}
use Rattle.thumb_instr.specs.declared.conditions.Cond.TheVariants.{Eq, Ne, Cs, Cc, Mi, Pl, Vs, Vc, Hi, Ls, Ge, Lt, Gt, Le, Al}
use Rattle.thumb_instr.specs.declared.instructions.Instr.{Instr}
use Rattle.thumb_table.specs.States.{Core}
use Rattle.thumb_table.specs.Conditions.{holds}
use Rattle.seq_core.specs.declared.steps.Step.{Step}
use Rattle.seq_core.specs.Builders.{Do}
use Rattle.it_expand.specs.Expanded.{guard_of}

pub without_guard : (cond : Cond) (test : Core → Bool) (i : Instr) (lost : ℕ → Bool) (copies : ℕ) (steps : List Step) → None ≡ guard_of cond → Do test i lost copies steps → Do (λ y. holds cond y && test y) i lost copies steps
without_guard Eq test i lost copies steps e d = absurd (none-some _ e)
without_guard Ne test i lost copies steps e d = absurd (none-some _ e)
without_guard Cs test i lost copies steps e d = absurd (none-some _ e)
without_guard Cc test i lost copies steps e d = absurd (none-some _ e)
without_guard Mi test i lost copies steps e d = absurd (none-some _ e)
without_guard Pl test i lost copies steps e d = absurd (none-some _ e)
without_guard Vs test i lost copies steps e d = absurd (none-some _ e)
without_guard Vc test i lost copies steps e d = absurd (none-some _ e)
without_guard Hi test i lost copies steps e d = absurd (none-some _ e)
without_guard Ls test i lost copies steps e d = absurd (none-some _ e)
without_guard Ge test i lost copies steps e d = absurd (none-some _ e)
without_guard Lt test i lost copies steps e d = absurd (none-some _ e)
without_guard Gt test i lost copies steps e d = absurd (none-some _ e)
without_guard Le test i lost copies steps e d = absurd (none-some _ e)
without_guard Al test i lost copies steps e d = d
