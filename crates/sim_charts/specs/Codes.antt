-- A small plain image and its hardened form, with a call and a loop: f saves lr in r4, calls g, which returns at once,
-- puts r1 into r0 until r0 is 0, and returns.
use Rattle.std.specs.Prelude.{ℕ, pos, negsuc, ◌==◌, Bool, true, false, [], ◌∷◌, Option, Some, None, if◌then◌else◌}
use Rattle.mark_word.specs.declared.numbers.Shift.TheVariants.{Lsl}
use Rattle.thumb_instr.specs.declared.conditions.Cond.TheVariants.{Al}
use Rattle.thumb_instr.specs.declared.operations.MoveOp.TheVariants.{Mov}
use Rattle.thumb_instr.specs.declared.operands.Operand.TheVariants.{Reg}
use Rattle.thumb_instr.specs.declared.instructions.Instr.{Instr}
use Rattle.thumb_instr.specs.declared.instructions.Instr.TheVariants as instr
use Rattle.thumb_table.specs.Parts.{CodeBytes}
use Rattle.sim_charts.specs.Charts.{Chart, Point, Way, Onward, Branch, Call, Return}
use Rattle.sim_charts.specs.Boundaries.{at_call, at_transfer}

abbrev pub plain_code : CodeBytes
plain_code = record {
  base = 0x8000;
  bytes = 0x74 ∷ 0x46 ∷ 0x00 ∷ 0xF0 ∷ 0x05 ∷ 0xF8 ∷ 0x08 ∷ 0xB1 ∷ 0x08 ∷ 0x46 ∷ 0xFC ∷ 0xE7 ∷ 0xA6 ∷ 0x46 ∷ 0x70 ∷ 0x47 ∷ 0x70 ∷ 0x47 ∷ [];
  marks = [];
  stops = 0x8000 ∷ 0x8010 ∷ 0x8012 ∷ [];
}

abbrev pub hard_code : CodeBytes
hard_code = record {
  base = 0x8000;
  bytes = 0x74 ∷ 0x46 ∷ 0x74 ∷ 0x46
      ∷ 0x0F ∷ 0xF2 ∷ 0x09 ∷ 0x0E ∷ 0x0F ∷ 0xF2 ∷ 0x05 ∷ 0x0E ∷ 0x0C ∷ 0xE0 ∷ 0x0B ∷ 0xE0
      ∷ 0x10 ∷ 0xB9 ∷ 0x08 ∷ 0xB9 ∷ 0x04 ∷ 0xE0 ∷ 0x03 ∷ 0xE0
      ∷ 0x08 ∷ 0x46 ∷ 0x08 ∷ 0x46
      ∷ 0xF8 ∷ 0xE7 ∷ 0xF7 ∷ 0xE7
      ∷ 0xA6 ∷ 0x46 ∷ 0xA6 ∷ 0x46
      ∷ 0x70 ∷ 0x47 ∷ 0x70 ∷ 0x47
      ∷ 0x70 ∷ 0x47 ∷ 0x70 ∷ 0x47 ∷ [];
  marks = [];
  stops = [];
}

abbrev pub moving : ℕ → ℕ → Instr
moving d m = instr.Move (record { op = Mov; s = false; d = d; x = Reg m Lsl 0 })

abbrev pub nothing_lost : ℕ → Bool
nothing_lost k = false

abbrev pub point_of : Instr → ℕ → Way → Option ℕ → Bool → (ℕ → Bool) → ℕ → ℕ → ℕ → Point
point_of i width way next entry live place end length = record {
  instr = i;
  width = width;
  it = 0;
  way = way;
  next = next;
  entry = entry;
  live = live;
  place = place;
  end = end;
  back = end;
  length = length;
  loses = nothing_lost;
}

-- f: mov r4, lr
abbrev pub p0 : Point
p0 = point_of (moving 4 14) 2 Onward (Some 0x8002) true at_transfer 0x8000 0x8004 2

-- bl g
abbrev pub p1 : Point
p1 = point_of (instr.Call (record { offset = pos 10 })) 4 Call (Some 0x8006) false at_transfer 0x8004 0x8010 4

-- cbz r0, 0x800C
abbrev pub p2 : Point
p2 = point_of (instr.ZeroBranch (record { nonzero = false; n = 0; offset = pos 2 })) 2 (Branch 0x800C) (Some 0x8008) false at_call 0x8010 0x8018 4

-- mov r0, r1
abbrev pub p3 : Point
p3 = point_of (moving 0 1) 2 Onward (Some 0x800A) false at_call 0x8018 0x801C 2

-- b 0x8006
abbrev pub p4 : Point
p4 = point_of (instr.Branch (record { cond = Al; offset = negsuc 7 })) 2 (Branch 0x8006) None false at_call 0x801C 0x8020 2

-- mov lr, r4
abbrev pub p5 : Point
p5 = point_of (moving 14 4) 2 Onward (Some 0x800E) false at_call 0x8020 0x8024 2

-- bx lr
abbrev pub p6 : Point
p6 = point_of (instr.Jump (record { m = 14 })) 2 Return None false at_transfer 0x8024 0x8028 2

-- g: bx lr
abbrev pub p7 : Point
p7 = point_of (instr.Jump (record { m = 14 })) 2 Return None true at_transfer 0x8028 0x802C 2

abbrev pub example : Chart
example a =
    if a == 0x8000 then Some p0
    else if a == 0x8002 then Some p1
    else if a == 0x8006 then Some p2
    else if a == 0x8008 then Some p3
    else if a == 0x800A then Some p4
    else if a == 0x800C then Some p5
    else if a == 0x800E then Some p6
    else if a == 0x8010 then Some p7
    else None
