-- Laws of what instructions do, with no encoding in sight.
use Rattle.std.specs.Prelude.{◌≡◌, ◌<◌, ℕ, false, Some, Ok}
use Rattle.thumb_instr.specs.declared.instructions.Instr.{Instr}
use Rattle.thumb_instr.specs.declared.instructions.Instr.TheVariants.{LongMul}
use Rattle.thumb_instr.specs.Fields.{LongMulFields}
use Rattle.thumb_instr.specs.Formed.{IsFormed}
use Rattle.thumb_instr.specs.Sets.{accumulates}
use Rattle.thumb_table.specs.States.{Core, Site, Change}
use Rattle.thumb_table.specs.Effects.{change}
use Rattle.seq_core.specs.Reading.{SameReads, IsWithin, IsQuiet, Covers}
use Rattle.seq_core.specs.Sent.{destination, sent, redirected, low_redirected}

-- An effect depends only on what the instruction reads, on memory, and on where it stands.
abbrev pub DependsOnReads : Type 0
DependsOnReads = (i : Instr) (s : Site) (x y : Core) → SameReads i x y → change i s x ≡ change i s y

-- Of registers and flags it changes only what the instruction writes and may set.
abbrev pub KeepsToWrites : Type 0
KeepsToWrites = (i : Instr) (s : Site) (x : Core) (h : Change) → change i s x ≡ Ok h → IsWithin i h

-- Beside them it changes memory only by a store, and the IT state only by IT.
abbrev pub StaysQuiet : Type 0
StaysQuiet = (i : Instr) (s : Site) (x : Core) (h : Change) → change i s x ≡ Ok h → IsQuiet i h

-- Where it takes effect it changes each register that the instruction writes, and each flag that it sets.
abbrev pub WritesAll : Type 0
WritesAll = (i : Instr) (s : Site) (x : Core) (h : Change) → IsFormed i → change i s x ≡ Ok h → Covers i h

-- Its result may go to any register below sp: the value, the flags and all else stay the same.
abbrev pub GoesTo : Type 0
GoesTo = (i : Instr) (s : Site) (x : Core) (h : Change) (d q : ℕ) → destination i ≡ Some d → q < 13 → change i s x ≡ Ok h → change (sent i q) s x ≡ Ok (redirected q h)

-- So may the low word of a long product.
abbrev pub LowGoesTo : Type 0
LowGoesTo = (i : LongMulFields) (s : Site) (x : Core) (h : Change) (q : ℕ) → accumulates i.op ≡ false → q < 13 → change (LongMul i) s x ≡ Ok h → change (LongMul (record i { lo = q })) s x ≡ Ok (low_redirected q h)
