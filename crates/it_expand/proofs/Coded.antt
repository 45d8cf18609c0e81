-- Codes of guards.
use Rattle.std.proofs.Common.{refl}
use Rattle.thumb_instr.specs.declared.conditions.Cond.{Cond}
use Rattle.thumb_instr.specs.declared.conditions.Cond.TheVariants.{Eq, Ne, Cs, Cc, Mi, Pl, Vs, Vc, Hi, Ls, Ge, Lt, Gt, Le, Al}
use Rattle.thumb_instr.specs.HalfRows.{half_rows}
use Rattle.seq_core.specs.Groups.{branching}
use Rattle.seq_core.specs.Builders.{HasRow}

pub branch_row : (c : Cond) → HasRow (branching c)
unfolding half_rows
branch_row Eq = record { first = 0xD000; second = 0; stands = refl }
branch_row Ne = record { first = 0xD100; second = 0; stands = refl }
branch_row Cs = record { first = 0xD200; second = 0; stands = refl }
branch_row Cc = record { first = 0xD300; second = 0; stands = refl }
branch_row Mi = record { first = 0xD400; second = 0; stands = refl }
branch_row Pl = record { first = 0xD500; second = 0; stands = refl }
branch_row Vs = record { first = 0xD600; second = 0; stands = refl }
branch_row Vc = record { first = 0xD700; second = 0; stands = refl }
branch_row Hi = record { first = 0xD800; second = 0; stands = refl }
branch_row Ls = record { first = 0xD900; second = 0; stands = refl }
branch_row Ge = record { first = 0xDA00; second = 0; stands = refl }
branch_row Lt = record { first = 0xDB00; second = 0; stands = refl }
branch_row Gt = record { first = 0xDC00; second = 0; stands = refl }
branch_row Le = record { first = 0xDD00; second = 0; stands = refl }
branch_row Al = record { first = 0xE000; second = 0; stands = refl }
