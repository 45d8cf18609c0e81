-- The pair of MOVS r0, #5 and BX LR with each of them twice, and a copy that is none.
use Rattle.std.specs.Prelude.{ℕ, ◌+◌, [], ◌∷◌, None}
use Rattle.elf_model.specs.Objects.{ObjectParts}
use Rattle.elf_model.specs.Maps.{map_section}
use Rattle.thumb_instr.specs.declared.instructions.Instr.{Instr}
use Rattle.hardened_form.specs.FirstRow.{plain, hard, text_of, code_symbol, function_symbol, start_row, movs, bx_lr, places, carriers}
use Rattle.sim_relation.specs.Sequences.{PlacedStep, Sequence}
use Rattle.sim_relation.specs.Pairs.{Certificate, Paired, everywhere}

abbrev pub half_step : ℕ → Instr → PlacedStep
half_step x i = record { at = x; width = 2; instr = i; reloc = None }

abbrev pub done_twice : ℕ → Instr → Sequence
done_twice x i = record { steps = half_step x i ∷ half_step (x + 2) i ∷ []; behind = x + 4; scratch = [] }

abbrev pub certificate : Certificate
certificate = record { places = places; carriers = carriers; sequences = done_twice 0 movs ∷ done_twice 4 bx_lr ∷ [] }

-- They are paired for two copies and four results, by sequences of two instructions.
abbrev pub FirstRowIsPaired : Type 0
FirstRowIsPaired = Paired plain hard 2 2 4 everywhere

-- the same code, and a map of each point to itself
abbrev pub copy : ObjectParts
copy = record {
  sections = text_of 4 (0x05 ∷ 0x20 ∷ 0x70 ∷ 0x47 ∷ []) ∷ map_section (start_row 0 0 ∷ start_row 2 2 ∷ []) ∷ [];
  symbols = code_symbol ∷ function_symbol 4 ∷ [];
  relocs = [];
  flags = 0x05000000;
}

-- Whatever its sequences are said to be, and whichever registers they are said to spoil.
abbrev pub CopyIsRefused : Type 0
CopyIsRefused = (F : ℕ) → Paired plain copy F 2 4 everywhere → ⊥
