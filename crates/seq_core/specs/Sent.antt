-- Instructions that write their result to another register.
use Rattle.std.specs.Prelude.{ℕ, Bool, true, false, List, [], ◌∷◌, Option, Some, None}
use Rattle.mark_word.specs.Words.{Word}
use Rattle.thumb_instr.specs.declared.instructions.Instr.{Instr}
use Rattle.thumb_instr.specs.declared.instructions.Instr.TheVariants.{Alu, Move, ShiftBy, Wide, Half, Field, Unary, Mul, MulAcc, LongMul, Div, Access, Literal, Adr}
use Rattle.thumb_instr.specs.Sets.{is_store, keeps_bits, accumulates}
use Rattle.thumb_table.specs.States.{Change}

abbrev pub unless : Bool → ℕ → Option ℕ
unless true d = None
unless false d = Some d

-- The register that gets the result, where it is no source: of two, the one that is written last.
abbrev pub destination : Instr → Option ℕ
destination (Alu i) = Some i.d
destination (Move i) = Some i.d
destination (ShiftBy i) = Some i.d
destination (Wide i) = Some i.d
destination (Half i) = unless i.top i.d
destination (Field i) = unless (keeps_bits i.op) i.d
destination (Unary i) = Some i.d
destination (Mul i) = Some i.d
destination (MulAcc i) = Some i.d
destination (LongMul i) = unless (accumulates i.op) i.hi
destination (Div i) = Some i.d
destination (Access i) = unless (is_store i.op) i.t
destination (Literal i) = Some i.t
destination (Adr i) = Some i.d
destination i = None

abbrev pub sent : Instr → ℕ → Instr
sent (Alu i) q = Alu (record i { d = q })
sent (Move i) q = Move (record i { d = q })
sent (ShiftBy i) q = ShiftBy (record i { d = q })
sent (Wide i) q = Wide (record i { d = q })
sent (Half i) q = Half (record i { d = q })
sent (Field i) q = Field (record i { d = q })
sent (Unary i) q = Unary (record i { d = q })
sent (Mul i) q = Mul (record i { d = q })
sent (MulAcc i) q = MulAcc (record i { d = q })
sent (LongMul i) q = LongMul (record i { hi = q })
sent (Div i) q = Div (record i { d = q })
sent (Access i) q = Access (record i { t = q })
sent (Literal i) q = Literal (record i { t = q })
sent (Adr i) q = Adr (record i { d = q })
sent i q = i

-- the last word that is written goes to another register
abbrev pub last_to : ℕ → List (ℕ × Word) → List (ℕ × Word)
last_to q [] = []
last_to q (w ∷ ws) = last_of q w ws
  where
    last_of : ℕ → ℕ × Word → List (ℕ × Word) → List (ℕ × Word)
    last_of q w [] = (q, w.1) ∷ []
    last_of q w (v ∷ vs) = w ∷ last_of q v vs

abbrev pub redirected : ℕ → Change → Change
redirected q h = record h { regs = last_to q h.regs }

-- the first word that is written goes to another register
abbrev pub first_to : ℕ → List (ℕ × Word) → List (ℕ × Word)
first_to q [] = []
first_to q (w ∷ ws) = (q, w.1) ∷ ws

abbrev pub low_redirected : ℕ → Change → Change
low_redirected q h = record h { regs = first_to q h.regs }
