-- Whatever halfwords stand for has its base apart, and sp where it may stand.
use Rattle.std.proofs.Common.{◌≡◌, ◌*◌, ◌+◌, ◌^◌, ℕ, Bool, true, false, Ok}
use Rattle.std.specs.Prelude.{if◌then◌else◌}
use Rattle.thumb_instr.specs.declared.refusals.ItPlace.{ItPlace}
use Rattle.thumb_instr.specs.declared.instructions.Instr.{Instr}
use Rattle.thumb_instr.specs.Patterns.{decoded}
use Rattle.thumb_instr.specs.HalfRows.{half_rows}
use Rattle.thumb_instr.specs.FullRows.{full_rows}
use Rattle.thumb_instr.specs.Rows.{is_wide, decode}
use Rattle.seq_core.specs.Accepted.{DecodesApart, DecodesLoadSeveral, DecodesMoveByBytes, DecodesReach, DecodesTestLow, DecodesUseStack}
use Rattle.seq_core.proofs.RowsApart.{IsTold, tells, told, decoded_tells}
use Rattle.seq_core.proofs.HalvesApart.{half_apart}
use Rattle.seq_core.proofs.FullsApart.{full_apart}

answers : (wide : Bool) (place : ItPlace) (first second : ℕ) → tells (if wide then decoded 32 (full_rows place) (first * 2 ^ 16 + second) else decoded 16 (half_rows place) first) ≡ true
answers true place first second = decoded_tells 32 (full_rows place) (first * 2 ^ 16 + second) (full_apart place)
answers false place first second = decoded_tells 16 (half_rows place) first (half_apart place)

told_of : (place : ItPlace) (first second : ℕ) (i : Instr) → decode place first second ≡ Ok i → IsTold i
told_of place first second i e = told i (decode place first second) e (answers (is_wide first) place first second)

pub decodes_apart : DecodesApart
decodes_apart place first second i e = let t = told_of place first second i e in (t.0, t.1)

pub decodes_by_bytes : DecodesMoveByBytes
decodes_by_bytes place first second i e = (told_of place first second i e).2

pub decodes_use_stack : DecodesUseStack
decodes_use_stack place first second i e = let t = told_of place first second i e in (t.3, t.4)

pub decodes_load_several : DecodesLoadSeveral
decodes_load_several place first second i e = (told_of place first second i e).5

pub decodes_reach : DecodesReach
decodes_reach place first second i e = (told_of place first second i e).6

pub decodes_test_low : DecodesTestLow
decodes_test_low place first second i e = (told_of place first second i e).7
