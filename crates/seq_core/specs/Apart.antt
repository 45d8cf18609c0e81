-- What the classes of sequences ask of an instruction.
use Rattle.std.specs.Prelude.{◌≡◌, ℕ, not, Bool, true, false}
use Rattle.thumb_instr.specs.declared.instructions.Instr.{Instr}
use Rattle.thumb_instr.specs.declared.instructions.Instr.TheVariants.{Multi, Branch, ZeroBranch, Call, Jump, CallReg, It, Trap}
use Rattle.thumb_instr.specs.Sets.{reads_of, writes_of}
use Rattle.thumb_instr.specs.MaySet.{may_set_of}
use Rattle.seq_core.specs.Reading.{uses_of}

-- an instruction behind which control always goes on to the next
abbrev pub goes_on_always : Instr → Bool
goes_on_always (Branch i) = false
goes_on_always (ZeroBranch i) = false
goes_on_always (Call i) = false
goes_on_always (Jump i) = false
goes_on_always (CallReg i) = false
goes_on_always (It i) = false
goes_on_always (Trap i) = false
goes_on_always (Multi i) = not i.pc
goes_on_always i = true

-- What it reads it doesn't write.
pub record IsApart (i : Instr) : Type 0 where
  pub regs : (k : ℕ) → reads_of i k ≡ true → writes_of i k ≡ false
  pub flags : (k : ℕ) → uses_of i k ≡ true → may_set_of i k ≡ false
