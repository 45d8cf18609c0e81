-- Copies at their places.
use Rattle.std.proofs.Common.{◌≡◌, ◌-◌, true, [], ◌∷◌, Ok, Err, refl, ap, ◌∙◌}
use Rattle.std.specs.Prelude.{not, ◌==◌, if◌then◌else◌}
use Rattle.thumb_instr.specs.declared.instructions.Instr.{Instr}
use Rattle.thumb_instr.specs.declared.instructions.Instr.TheVariants.{Alu, Move, Test, ShiftBy, Wide, Half, Field, Unary, Mul, MulAcc, LongMul, Div, Access, Pair, Multi, Literal, Adr, Branch, ZeroBranch, Call, Jump, CallReg, It, Nothing, Trap}
use Rattle.thumb_table.specs.Conditions.{holds}
use Rattle.thumb_table.specs.declared.faults.FaultKind.TheVariants.{BadAddress}
use Rattle.elf_model.specs.Fields.{word_at}
use Rattle.thumb_table.specs.States.{Core, Site, upright}
use Rattle.thumb_table.specs.Values.{moved}
use Rattle.thumb_table.specs.Effects.{literal_base, marked, mark_at, writing, change, value, branch_if, plain_write}
use Rattle.seq_core.specs.Meanings.{meant}
use Rattle.seq_core.specs.Groups.{done, names_no_place, LiteralPlaced, Placed}

same_anywhere : (site : Site) (i : Instr) (x : Core) → names_no_place i ≡ true → change i site x ≡ done i x
unfolding change meant
same_anywhere site (Alu i) x e = refl
same_anywhere site (Move i) x e = refl
same_anywhere site (Test i) x e = refl
same_anywhere site (ShiftBy i) x e = refl
same_anywhere site (Wide i) x e = refl
same_anywhere site (Field i) x e = refl
same_anywhere site (Unary i) x e = refl
same_anywhere site (Mul i) x e = refl
same_anywhere site (MulAcc i) x e = refl
same_anywhere site (LongMul i) x e = refl
same_anywhere site (Div i) x e = refl
same_anywhere site (Access i) x e = refl
same_anywhere site (Pair i) x e = refl
same_anywhere site (Multi i) x e = refl
same_anywhere site (Jump i) x e = refl
same_anywhere site (Nothing i) x e = refl
same_anywhere site (Trap i) x e = refl
same_anywhere site (Half i) x e = absurd cc
same_anywhere site (Literal i) x e = absurd cc
same_anywhere site (Adr i) x e = absurd cc
same_anywhere site (Branch i) x e = absurd cc
same_anywhere site (ZeroBranch i) x e = absurd cc
same_anywhere site (Call i) x e = absurd cc
same_anywhere site (CallReg i) x e = absurd cc
same_anywhere site (It i) x e = absurd cc

pub placed_is_done : Placed
unfolding change meant
placed_is_done site = record {
  branch = λ c o t x e. ap (λ t. Ok (branch_if (holds c x) t)) e;
  zero = λ nonzero n o t x e. ap (λ t. Ok (branch_if (if nonzero then not (value x n == 0) else value x n == 0) t)) e;
  link = λ imm back x e. ap (λ v. upright (plain_write 14 v)) e;
  others = λ i x e. same_anywhere site i x e;
}

pub literal_placed_is_done : LiteralPlaced
unfolding change meant
literal_placed_is_done site t imm up word x l e = ap (λ b. if b then upright (writing ((t, marked (word_at site.code.bytes (moved up (literal_base site) imm - site.code.base)) (mark_at site.code.marks (moved up (literal_base site) imm))) ∷ [])) else Err BadAddress) l ∙ ap (λ w. upright (writing ((t, w) ∷ []))) e
