-- What is done twice in place.
use Rattle.std.specs.Prelude.{◌&&◌, false, ◌≡◌, ◌≢◌, ◌<◌, ℕ, Bool, true, [], ◌∷◌, Some, None}
use Rattle.mark_word.specs.declared.marks.Mark.{Mark}
use Rattle.thumb_instr.specs.declared.conditions.Cond.{Cond}
use Rattle.thumb_instr.specs.declared.operations.FieldOp.TheVariants.{Bfi, Bfc}
use Rattle.thumb_instr.specs.declared.instructions.Instr.{Instr}
use Rattle.thumb_instr.specs.declared.instructions.Instr.TheVariants as instr
use Rattle.thumb_table.specs.Conditions.{holds}
use Rattle.seq_core.specs.Meanings.{Ends, meant}
use Rattle.seq_core.specs.Apart.{goes_on_always, IsApart}
use Rattle.seq_core.specs.Sequences.{Carries, Settles}
use Rattle.seq_core.specs.Groups.{always, done, nothing, branch_to, trap, half_by}
use Rattle.thumb_instr.specs.declared.conditions.Cond.TheVariants.{Al}
use Rattle.thumb_instr.specs.Formed.{IsFormed}
use Rattle.thumb_instr.specs.Idempotence.{IsIdempotent, fills_in}
use Rattle.thumb_instr.specs.Sets.{reads_of, writes_of, sets_flags_of}

-- CLASS TWICE
abbrev pub TwiceCarries : Type 0
TwiceCarries = (i : Instr) (e : Ends) (end : ℕ) → goes_on_always i ≡ true → IsApart i → Carries Settles end always (meant i e) nothing (meant i e ∷ [])

-- CLASS TWICE, of branches and traps
abbrev pub BranchCarries : Type 0
BranchCarries = (c : Cond) (t end : ℕ) → Carries Settles end (λ y. holds c y) (branch_to c t) nothing (branch_to c t ∷ [])

abbrev pub TrapCarries : Type 0
TrapCarries = (end : ℕ) → Carries Settles end always trap nothing (trap ∷ [])

-- CLASS TWICE, of MOVW and MOVT: all copies have the same mark, since each has the relocation. The word's bits are as without a mark.
abbrev pub HalfCarries : Type 0
HalfCarries = (top : Bool) (d imm end : ℕ) (mark : Mark) → d < 15 → d ≢ 13 → Carries Settles end always (done (instr.Half (record { top = top; d = d; imm = imm }))) nothing (half_by top d imm mark ∷ [])

-- CLASS TWICE, of BFC, and of BFI from another register
abbrev pub clearing : ℕ → ℕ → ℕ → Instr
clearing d lsb width = instr.Field (record { op = Bfc; d = d; n = None; lsb = lsb; width = width })

abbrev pub inserting : ℕ → ℕ → ℕ → ℕ → Instr
inserting d n lsb width = instr.Field (record { op = Bfi; d = d; n = Some n; lsb = lsb; width = width })

abbrev pub ClearCarries : Type 0
ClearCarries = (d lsb width end : ℕ) → d < 15 → d ≢ 13 → Carries Settles end always (done (clearing d lsb width)) nothing (done (clearing d lsb width) ∷ [])

abbrev pub InsertCarries : Type 0
InsertCarries = (d n lsb width end : ℕ) → d < 15 → d ≢ 13 → n ≢ d → Carries Settles end always (done (inserting d n lsb width)) nothing (done (inserting d n lsb width) ∷ [])

-- the condition of a branch itself
abbrev pub own_condition : Instr → Cond
own_condition (instr.Branch i) = i.cond
own_condition i = Al

-- An instruction that may be executed twice in a row for once: it is formed, sets no carry that it reads, and fills no
-- bits of sp.
pub record StaysInPlace (i : Instr) : Type 0 where
  pub formed : IsFormed i
  pub idempotent : IsIdempotent i
  pub carry : (reads_of i 18 && sets_flags_of i 18) ≡ false
  pub stack : fills_in i ≡ true → writes_of i 13 ≡ false

-- CLASS TWICE, all of it
abbrev pub IdempotentCarries : Type 0
IdempotentCarries = (i : Instr) (e : Ends) (end : ℕ) → StaysInPlace i → Carries Settles end (λ y. holds (own_condition i) y) (meant i e) nothing (meant i e ∷ [])
