-- The example's instructions stand in its codes.
use Rattle.std.proofs.Common.{◌≡◌, ℕ, Ok, true, refl}
use Rattle.std.specs.Prelude.{pos, negsuc}
use Rattle.thumb_instr.specs.declared.conditions.Cond.TheVariants.{Al}
use Rattle.thumb_instr.specs.Rows.{decode}
use Rattle.thumb_instr.specs.HalfRows.{half_rows}
use Rattle.thumb_instr.specs.FullRows.{full_rows, wide_row}
use Rattle.thumb_instr.specs.declared.instructions.Instr.{Instr}
use Rattle.thumb_instr.specs.declared.instructions.Instr.TheVariants as instr
use Rattle.thumb_instr.specs.declared.refusals.ItPlace.TheVariants.{Outside}
use Rattle.thumb_table.specs.Steps.{Fetched}
use Rattle.sim_charts.specs.Flows.{Stands}
use Rattle.sim_charts.specs.Example.{plain_code, moving, p0, p1, p2, p3, p4, p5, p6, p7}

abbrev pub half : ℕ → Fetched
half h = record { first = h; second = 0; width = 2 }

abbrev pub full : ℕ → ℕ → Fetched
full h k = record { first = h; second = k; width = 4 }

pub s0 : Stands plain_code 0x8000 p0
unfolding half_rows full_rows
s0 = record { fetched = half 0x4674; there = refl; width = refl; means = refl }

pub s1 : Stands plain_code 0x8002 p1
unfolding half_rows full_rows
s1 = record { fetched = full 0xF000 0xF805; there = refl; width = refl; means = refl }

pub s2 : Stands plain_code 0x8006 p2
unfolding half_rows full_rows
s2 = record { fetched = half 0xB108; there = refl; width = refl; means = refl }

pub s3 : Stands plain_code 0x8008 p3
unfolding half_rows full_rows
s3 = record { fetched = half 0x4608; there = refl; width = refl; means = refl }

pub s4 : Stands plain_code 0x800A p4
unfolding half_rows full_rows
s4 = record { fetched = half 0xE7FC; there = refl; width = refl; means = refl }

pub s5 : Stands plain_code 0x800C p5
unfolding half_rows full_rows
s5 = record { fetched = half 0x46A6; there = refl; width = refl; means = refl }

pub s6 : Stands plain_code 0x800E p6
unfolding half_rows full_rows
s6 = record { fetched = half 0x4770; there = refl; width = refl; means = refl }

pub s7 : Stands plain_code 0x8010 p7
unfolding half_rows full_rows
s7 = record { fetched = half 0x4770; there = refl; width = refl; means = refl }

-- the hardened instructions
abbrev pub Means : Fetched → Instr → Type 0
Means f i = decode Outside f.first f.second ≡ Ok i

pub m_4674 : Means (half 0x4674) (moving 4 14)
unfolding half_rows
m_4674 = refl

pub m_4608 : Means (half 0x4608) (moving 0 1)
unfolding half_rows
m_4608 = refl

pub m_46A6 : Means (half 0x46A6) (moving 14 4)
unfolding half_rows
m_46A6 = refl

pub m_4770 : Means (half 0x4770) (instr.Jump (record { m = 14 }))
unfolding half_rows
m_4770 = refl

pub m_E7F8 : Means (half 0xE7F8) (instr.Branch (record { cond = Al; offset = negsuc 15 }))
unfolding half_rows
m_E7F8 = refl

pub m_E7F7 : Means (half 0xE7F7) (instr.Branch (record { cond = Al; offset = negsuc 17 }))
unfolding half_rows
m_E7F7 = refl

pub m_adr1 : Means (full 0xF20F 0x0E09) (instr.Adr (record { d = 14; up = true; imm = 9 }))
unfolding full_rows wide_row
m_adr1 = refl

pub m_adr2 : Means (full 0xF20F 0x0E05) (instr.Adr (record { d = 14; up = true; imm = 5 }))
unfolding full_rows wide_row
m_adr2 = refl

pub m_E00C : Means (half 0xE00C) (instr.Branch (record { cond = Al; offset = pos 24 }))
unfolding half_rows
m_E00C = refl

pub m_E00B : Means (half 0xE00B) (instr.Branch (record { cond = Al; offset = pos 22 }))
unfolding half_rows
m_E00B = refl

pub m_B910 : Means (half 0xB910) (instr.ZeroBranch (record { nonzero = true; n = 0; offset = pos 4 }))
unfolding half_rows
m_B910 = refl

pub m_B908 : Means (half 0xB908) (instr.ZeroBranch (record { nonzero = true; n = 0; offset = pos 2 }))
unfolding half_rows
m_B908 = refl

pub m_E004 : Means (half 0xE004) (instr.Branch (record { cond = Al; offset = pos 8 }))
unfolding half_rows
m_E004 = refl

pub m_E003 : Means (half 0xE003) (instr.Branch (record { cond = Al; offset = pos 6 }))
unfolding half_rows
m_E003 = refl
