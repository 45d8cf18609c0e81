-- What replaces an instruction of a class has a step at least.
use Rattle.std.proofs.Common.{◌≡◌, ◌≤◌, ℕ, List, [], ◌∷◌, length, arith}
use Rattle.thumb_instr.specs.declared.instructions.Instr.{Instr}
use Rattle.seq_core.specs.declared.classes.Class.{Class}
use Rattle.seq_core.specs.declared.classes.Class.TheVariants as class
use Rattle.seq_core.specs.Classes.{IsOf}
use Rattle.seq_core.specs.Needs.{registers_of}
use Rattle.seq_core.specs.Built.{through_one, through_two, as_steps}
use Rattle.seq_core.specs.Replaced.{replaced}
use Rattle.seq_core.proofs.NeedsFew.{through_needs}

one_some : (copies : ℕ) (i : Instr) (q : ℕ) → 1 ≤ length (as_steps copies (through_one i q))
one_some copies i q = grind arith

two_some : (copies : ℕ) (i : Instr) (a b : ℕ) → 2 ≡ registers_of class.Through i → 1 ≤ length (as_steps copies (through_two i a b))
two_some copies i a b many = grind arith

pub some_step : (c : Class) (copies : ℕ) (i : Instr) (qs : List ℕ) → IsOf c i → length qs ≡ registers_of c i → 1 ≤ length (replaced c copies i qs)
some_step class.Twice copies i qs of many = omega arith
some_step class.Through copies i [] of many = let need = through_needs i of in omega arith
some_step class.Through copies i (q ∷ []) of many = one_some copies i q
some_step class.Through copies i (a ∷ b ∷ []) of many = two_some copies i a b many
some_step class.Through copies i (a ∷ b ∷ d ∷ qs) of many = let need = through_needs i of in omega arith
some_step class.ThroughFlags copies i (q ∷ []) of many = grind arith
some_step class.WriteBack copies i (q ∷ []) of many = grind arith
some_step class.BaseCopy copies i (q ∷ []) of many = grind arith
some_step class.LongSum copies i (a ∷ b ∷ d ∷ []) of many = grind arith
some_step class.Push copies i (q ∷ []) of many = grind arith
some_step class.Pop copies i (q ∷ []) of many = grind arith
some_step class.PopReturn copies i (q ∷ []) of many = grind arith
some_step class.SpStep copies i (q ∷ []) of many = grind arith
some_step class.MultiBack copies i (q ∷ []) of many = grind arith
some_step class.DirectCall copies i qs of many = omega arith
some_step class.RegisterCall copies i qs of many = grind arith
some_step class.RegisterJump copies i qs of many = omega arith
some_step class.ZeroBranch copies i qs of many = grind arith
some_step c copies i qs of many = absurd (omega arith)
