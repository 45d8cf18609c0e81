-- The steps of classes Twice, ThroughFlags and WriteBack.
use Rattle.std.specs.Prelude.{ℕ, Bool, true, false, List, [], ◌∷◌}
use Rattle.thumb_instr.specs.declared.places.Place.{Place}
use Rattle.thumb_instr.specs.declared.places.Place.TheVariants.{Offset, Pre, Post, Index}
use Rattle.thumb_instr.specs.declared.places.PairIndex.{PairIndex}
use Rattle.thumb_instr.specs.declared.places.PairIndex.TheVariants as index
use Rattle.thumb_instr.specs.declared.instructions.Instr.{Instr}
use Rattle.thumb_instr.specs.declared.instructions.Instr.TheVariants.{Mul, Access, Pair, Branch, Literal}
use Rattle.thumb_instr.specs.Meanings.{constant_of}
use Rattle.seq_core.specs.declared.steps.Step.{Step}
use Rattle.seq_core.specs.declared.steps.Goal.{Goal}
use Rattle.seq_core.specs.declared.steps.Goal.TheVariants.{Nowhere, Target, Word}
use Rattle.seq_core.specs.Groups.{moving}
use Rattle.seq_core.specs.Bases.{summing, access_at, pair_at}

-- what the instruction's own number leads to
abbrev pub own_goal : Instr → Goal
own_goal (Branch i) = Target
own_goal (Literal i) = Word
own_goal i = Nowhere

abbrev pub twice_steps : ℕ → Instr → List Step
twice_steps copies i = record { instr = i; goal = own_goal i; copies = copies } ∷ []

-- a product, and a move that sets its flags
abbrev pub flagged : Instr → ℕ → List Instr
flagged (Mul i) q = Mul (record i { s = false; d = q }) ∷ moving true i.d q ∷ []
flagged i q = []

-- The base moves before the access, or behind it.
abbrev pub around : Place → ℕ → ℕ → Instr → List Instr
around (Offset up imm) q n at = []
around (Pre up imm) q n at = summing up q n (constant_of imm) ∷ moving false n q ∷ at ∷ []
around (Post up imm) q n at = at ∷ summing up q n (constant_of imm) ∷ moving false n q ∷ []
around (Index m shift) q n at = []

abbrev pub around_pair : PairIndex → Bool → ℕ → ℕ → ℕ → Instr → List Instr
around_pair index.Offset up imm q n at = []
around_pair index.Pre up imm q n at = summing up q n (constant_of imm) ∷ moving false n q ∷ at ∷ []
around_pair index.Post up imm q n at = at ∷ summing up q n (constant_of imm) ∷ moving false n q ∷ []

abbrev pub written_back : Instr → ℕ → List Instr
written_back (Access i) q = around i.place q i.n (access_at i.op i.t i.n)
written_back (Pair i) q = around_pair i.index i.up i.imm q i.n (pair_at i.load i.t i.u i.n)
written_back i q = []
