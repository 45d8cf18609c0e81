-- What is asked of a chart holds: of the example of sim_charts, and of MOVW and MOVT that make the address of an entry.
use Rattle.std.specs.Prelude.{◌≡◌, ℕ, ◌==◌, Bool, true, false, [], ◌∷◌, Some, None, if◌then◌else◌}
use Rattle.mark_word.specs.declared.marks.Mark.TheVariants.{Entry, Low}
use Rattle.thumb_instr.specs.declared.instructions.Instr.{Instr}
use Rattle.thumb_instr.specs.declared.instructions.Instr.TheVariants as instr
use Rattle.thumb_instr.specs.Formed.{IsFormed}
use Rattle.thumb_table.specs.Parts.{CodeBytes}
use Rattle.seq_core.specs.Meanings.{Ends}
use Rattle.sim_charts.specs.Charts.{Chart, Point, Onward, Return}
use Rattle.sim_charts.specs.Boundaries.{at_transfer}
use Rattle.sim_charts.specs.Addresses.{IsProperChart}
use Rattle.sim_charts.specs.Codes.{plain_code, example, point_of}
use Rattle.sim_steps.specs.Facts.{Meets}

-- what is asked of a point, with some number and some ends
pub record IsMet (chart : Chart) (code : CodeBytes) (a : ℕ) (p : Point) : Type 0 where
  pub number : ℕ
  pub ends : Ends
  pub formed : IsFormed p.instr
  pub meets : Meets chart code a p number ends p.instr

pub record AreMet (chart : Chart) (code : CodeBytes) : Type 0 where
  pub proper : IsProperChart chart
  pub points : (a : ℕ) (p : Point) → chart a ≡ Some p → IsMet chart code a p

abbrev pub ExampleIsMet : Type 0
ExampleIsMet = AreMet example plain_code

-- MOVW r0 and MOVT r0 of the entry 0x8008, which has its unit at 0x19010
abbrev pub half : Bool → ℕ → Instr
half top imm = instr.Half (record { top = top; d = 0; imm = imm })

abbrev pub low_point : Point
low_point = point_of (half false 0x8009) 4 Onward (Some 0x8004) false at_transfer 0x8000 0x8008 2

abbrev pub top_point : Point
top_point = point_of (half true 0) 4 Onward (Some 0x8008) false at_transfer 0x8008 0x19010 2

abbrev pub entry_point : Point
entry_point = point_of (instr.Jump (record { m = 14 })) 2 Return None true at_transfer 0x19010 0x19014 2

abbrev pub halves : Chart
halves a = if a == 0x8000 then Some low_point else if a == 0x8004 then Some top_point else if a == 0x8008 then Some entry_point else None

-- of the code the marks count alone
abbrev pub marked_code : CodeBytes
marked_code = record {
  base = 0x8000;
  bytes = [];
  marks = record { at = 0x8000; mark = Low 0x8009 } ∷ record { at = 0x8004; mark = Entry 0x8009 } ∷ [];
  stops = [];
}

abbrev pub HalvesAreMet : Type 0
HalvesAreMet = AreMet halves marked_code
