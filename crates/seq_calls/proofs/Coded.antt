-- Codes of the steps of calls and branches.
use Rattle.std.proofs.Common.{◌≤◌, ◌<◌, ℕ, zero, suc, Bool, true, false, List, [], ◌∷◌, ◌++◌, refl, arith, pos}
use Rattle.thumb_instr.specs.declared.conditions.Cond.TheVariants.{Al}
use Rattle.thumb_instr.specs.declared.instructions.Instr.{Instr}
use Rattle.thumb_instr.specs.declared.instructions.Instr.TheVariants as instr
use Rattle.thumb_instr.specs.HalfRows.{half_rows}
use Rattle.thumb_instr.specs.FullRows.{full_rows, wide_row}
use Rattle.thumb_instr.specs.DataRows.{names, is_rrx, has_odd_sp, alu_row, or_test, data_processing}
use Rattle.seq_core.specs.Groups.{branching, moving}
use Rattle.seq_core.specs.Replaced.{jumping}
use Rattle.seq_core.specs.declared.steps.Step.{Step}
use Rattle.seq_core.specs.Builders.{AreCoded, HasRow}

pub link_row : HasRow (instr.Adr (record { d = 14; up = true; imm = 0 }))
unfolding full_rows data_processing alu_row or_test has_odd_sp names is_rrx wide_row
link_row = record { first = 0xF20F; second = 0x0E00; stands = refl }

pub branch_row : HasRow (branching Al)
unfolding half_rows
branch_row = record { first = 0xE000; second = 0; stands = refl }

pub trap_row : HasRow (instr.Trap (record { imm = 0 }))
unfolding half_rows
trap_row = record { first = 0xDE00; second = 0; stands = refl }

pub jump_row : (m : ℕ) → m ≤ 14 → HasRow (jumping m)
unfolding half_rows
jump_row zero h = record { first = 0x4700; second = 0; stands = refl }
jump_row (suc zero) h = record { first = 0x4708; second = 0; stands = refl }
jump_row (suc (suc zero)) h = record { first = 0x4710; second = 0; stands = refl }
jump_row (suc (suc (suc zero))) h = record { first = 0x4718; second = 0; stands = refl }
jump_row (suc (suc (suc (suc zero)))) h = record { first = 0x4720; second = 0; stands = refl }
jump_row (suc (suc (suc (suc (suc zero))))) h = record { first = 0x4728; second = 0; stands = refl }
jump_row (suc (suc (suc (suc (suc (suc zero)))))) h = record { first = 0x4730; second = 0; stands = refl }
jump_row (suc (suc (suc (suc (suc (suc (suc zero))))))) h = record { first = 0x4738; second = 0; stands = refl }
jump_row (suc (suc (suc (suc (suc (suc (suc (suc zero)))))))) h = record { first = 0x4740; second = 0; stands = refl }
jump_row (suc (suc (suc (suc (suc (suc (suc (suc (suc zero))))))))) h = record { first = 0x4748; second = 0; stands = refl }
jump_row (suc (suc (suc (suc (suc (suc (suc (suc (suc (suc zero)))))))))) h = record { first = 0x4750; second = 0; stands = refl }
jump_row (suc (suc (suc (suc (suc (suc (suc (suc (suc (suc (suc zero))))))))))) h = record { first = 0x4758; second = 0; stands = refl }
jump_row (suc (suc (suc (suc (suc (suc (suc (suc (suc (suc (suc (suc zero)))))))))))) h = record { first = 0x4760; second = 0; stands = refl }
jump_row (suc (suc (suc (suc (suc (suc (suc (suc (suc (suc (suc (suc (suc zero))))))))))))) h = record { first = 0x4768; second = 0; stands = refl }
jump_row (suc (suc (suc (suc (suc (suc (suc (suc (suc (suc (suc (suc (suc (suc zero)))))))))))))) h = record { first = 0x4770; second = 0; stands = refl }
jump_row (suc (suc (suc (suc (suc (suc (suc (suc (suc (suc (suc (suc (suc (suc (suc k))))))))))))))) h = absurd (omega arith)

pub copy_row : (q : ℕ) → q < 13 → HasRow (moving false q 14)
unfolding half_rows
copy_row zero h = record { first = 0x4670; second = 0; stands = refl }
copy_row (suc zero) h = record { first = 0x4671; second = 0; stands = refl }
copy_row (suc (suc zero)) h = record { first = 0x4672; second = 0; stands = refl }
copy_row (suc (suc (suc zero))) h = record { first = 0x4673; second = 0; stands = refl }
copy_row (suc (suc (suc (suc zero)))) h = record { first = 0x4674; second = 0; stands = refl }
copy_row (suc (suc (suc (suc (suc zero))))) h = record { first = 0x4675; second = 0; stands = refl }
copy_row (suc (suc (suc (suc (suc (suc zero)))))) h = record { first = 0x4676; second = 0; stands = refl }
copy_row (suc (suc (suc (suc (suc (suc (suc zero))))))) h = record { first = 0x4677; second = 0; stands = refl }
copy_row (suc (suc (suc (suc (suc (suc (suc (suc zero)))))))) h = record { first = 0x46F0; second = 0; stands = refl }
copy_row (suc (suc (suc (suc (suc (suc (suc (suc (suc zero))))))))) h = record { first = 0x46F1; second = 0; stands = refl }
copy_row (suc (suc (suc (suc (suc (suc (suc (suc (suc (suc zero)))))))))) h = record { first = 0x46F2; second = 0; stands = refl }
copy_row (suc (suc (suc (suc (suc (suc (suc (suc (suc (suc (suc zero))))))))))) h = record { first = 0x46F3; second = 0; stands = refl }
copy_row (suc (suc (suc (suc (suc (suc (suc (suc (suc (suc (suc (suc zero)))))))))))) h = record { first = 0x46F4; second = 0; stands = refl }
copy_row (suc (suc (suc (suc (suc (suc (suc (suc (suc (suc (suc (suc (suc k))))))))))))) h = absurd (omega arith)

abbrev passing : Bool → ℕ → Instr
passing nonzero n = instr.ZeroBranch (record { nonzero = nonzero; n = n; offset = pos 0 })

pub zero_row : (nonzero : Bool) (n : ℕ) → n < 8 → HasRow (passing nonzero n)
unfolding half_rows
zero_row false zero h = record { first = 0xB100; second = 0; stands = refl }
zero_row false (suc zero) h = record { first = 0xB101; second = 0; stands = refl }
zero_row false (suc (suc zero)) h = record { first = 0xB102; second = 0; stands = refl }
zero_row false (suc (suc (suc zero))) h = record { first = 0xB103; second = 0; stands = refl }
zero_row false (suc (suc (suc (suc zero)))) h = record { first = 0xB104; second = 0; stands = refl }
zero_row false (suc (suc (suc (suc (suc zero))))) h = record { first = 0xB105; second = 0; stands = refl }
zero_row false (suc (suc (suc (suc (suc (suc zero)))))) h = record { first = 0xB106; second = 0; stands = refl }
zero_row false (suc (suc (suc (suc (suc (suc (suc zero))))))) h = record { first = 0xB107; second = 0; stands = refl }
zero_row false (suc (suc (suc (suc (suc (suc (suc (suc k)))))))) h = absurd (omega arith)
zero_row true zero h = record { first = 0xB900; second = 0; stands = refl }
zero_row true (suc zero) h = record { first = 0xB901; second = 0; stands = refl }
zero_row true (suc (suc zero)) h = record { first = 0xB902; second = 0; stands = refl }
zero_row true (suc (suc (suc zero))) h = record { first = 0xB903; second = 0; stands = refl }
zero_row true (suc (suc (suc (suc zero)))) h = record { first = 0xB904; second = 0; stands = refl }
zero_row true (suc (suc (suc (suc (suc zero))))) h = record { first = 0xB905; second = 0; stands = refl }
zero_row true (suc (suc (suc (suc (suc (suc zero)))))) h = record { first = 0xB906; second = 0; stands = refl }
zero_row true (suc (suc (suc (suc (suc (suc (suc zero))))))) h = record { first = 0xB907; second = 0; stands = refl }
zero_row true (suc (suc (suc (suc (suc (suc (suc (suc k)))))))) h = absurd (omega arith)

-- a step behind others
pub coded_behind : (steps : List Step) (s : Step) → AreCoded steps → HasRow s.instr → AreCoded (steps ++ s ∷ [])
coded_behind [] s coded r = (r, tt)
coded_behind (t ∷ steps) s coded r = (coded.0, coded_behind steps s coded.1 r)
