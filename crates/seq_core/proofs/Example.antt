-- `adds r0,#1` by way of r12, in bytes.
use Rattle.std.proofs.Common.{◌≡◌, false, [], ◌∷◌, Ok, refl, arith}
use Rattle.thumb_instr.specs.declared.refusals.ItPlace.TheVariants.{Outside}
use Rattle.thumb_instr.specs.Rows.{decode}
use Rattle.thumb_instr.specs.HalfRows.{half_rows}
use Rattle.thumb_instr.specs.FullRows.{full_rows}
use Rattle.thumb_instr.specs.DataRows.{names, is_rrx, has_odd_sp, alu_row, or_test, data_processing}
use Rattle.thumb_instr.specs.Sets.{reads_of, writes_of}
use Rattle.thumb_table.specs.Steps.{Fetched}
use Rattle.seq_core.specs.Sequences.{Stands}
use Rattle.seq_core.specs.Sent.{sent}
use Rattle.seq_core.specs.Groups.{done, moving, IsFree}
use Rattle.seq_core.specs.Example.{adds, code, task, AddsWorks}
use Rattle.seq_core.proofs.Law.{sequences_work}
use Rattle.seq_core.proofs.Decoded.{through_decodes}
use Rattle.seq_core.proofs.Placing.{placed_is_done}

abbrev wide : Fetched
wide = record { first = 0xF110; second = 0x0C01; width = 4 }

abbrev half : Fetched
half = record { first = 0x4660; second = 0; width = 2 }

means_adds : decode Outside 0xF110 0x0C01 ≡ Ok (sent adds 12)
unfolding full_rows data_processing alu_row or_test has_odd_sp names is_rrx
means_adds = refl

means_move : decode Outside 0x4660 0 ≡ Ok (moving false 0 12)
unfolding half_rows
means_move = refl

stands : Stands code 2 (done (sent adds 12) ∷ done (moving false 0 12) ∷ []) 0x8000 0x800C
stands = (
  0x8008,
  (
    wide,
    record { instr = sent adds 12; there = refl; means = means_adds; effect = λ x. (placed_is_done (record { code = code; address = 0x8000; width = 4 })).others (sent adds 12) x refl },
    (wide, record { instr = sent adds 12; there = refl; means = means_adds; effect = λ x. (placed_is_done (record { code = code; address = 0x8004; width = 4 })).others (sent adds 12) x refl }, refl),
  ),
  (
    0x800C,
    (
      half,
      record { instr = moving false 0 12; there = refl; means = means_move; effect = λ x. (placed_is_done (record { code = code; address = 0x8008; width = 2 })).others (moving false 0 12) x refl },
      (half, record { instr = moving false 0 12; there = refl; means = means_move; effect = λ x. (placed_is_done (record { code = code; address = 0x800A; width = 2 })).others (moving false 0 12) x refl }, refl),
    ),
    refl,
  ),
)

free : IsFree adds 12
unfolding reads_of writes_of
free = record { low = omega arith; unread = refl; unwritten = refl }

means_plain : decode Outside 0x1C40 0 ≡ Ok adds
unfolding half_rows
means_plain = refl

pub adds_works : AddsWorks
adds_works = sequences_work code 2 task (done (sent adds 12) ∷ done (moving false 0 12) ∷ []) (record { stands = stands; length = refl; carries = through_decodes Outside 0x1C40 0 adds 0 12 0x800C means_plain refl refl free })
