-- Branches, as they change registers.
use Rattle.std.proofs.Common.{◌≡◌, ℕ, Bool, true, false, Ok, refl}
use Rattle.thumb_instr.specs.Blocks.{it_after}
use Rattle.thumb_instr.specs.declared.conditions.Cond.{Cond}
use Rattle.thumb_instr.specs.declared.conditions.Cond.TheVariants.{Eq, Ne, Cs, Cc, Mi, Pl, Vs, Vc, Hi, Ls, Ge, Lt, Gt, Le, Al}
use Rattle.thumb_table.specs.declared.cores.Core.{Core as Registers}
use Rattle.thumb_table.specs.Parts.{Memory}
use Rattle.thumb_table.specs.Conditions.{holds}
use Rattle.thumb_table.specs.Effects.{branch_if}
use Rattle.thumb_table.specs.Steps.{settled, goes_on}
use Rattle.thumb_table.specs.CoreStates.{core_of, state_of, alone}

-- conditions don't read memory
pub holds_alone : (cond : Cond) (s : Registers) (m : Memory) → holds cond (core_of s m) ≡ holds cond (alone s)
holds_alone Eq s m = refl
holds_alone Ne s m = refl
holds_alone Cs s m = refl
holds_alone Cc s m = refl
holds_alone Mi s m = refl
holds_alone Pl s m = refl
holds_alone Vs s m = refl
holds_alone Vc s m = refl
holds_alone Hi s m = refl
holds_alone Ls s m = refl
holds_alone Ge s m = refl
holds_alone Lt s m = refl
holds_alone Gt s m = refl
holds_alone Le s m = refl
holds_alone Al s m = refl

pub branched : (taken : Bool) (target next : ℕ) (s : Registers) (m : Memory)
    → settled next (core_of s m) (Ok (branch_if taken target)) ≡ Ok (state_of (record s { pc = goes_on next (branch_if taken target).exit; it = it_after s.it }) m)
branched true target next s m = refl
branched false target next s m = refl
