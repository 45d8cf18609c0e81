-- The two units of the first row do their instructions, wherever they stand.
use Rattle.std.proofs.Common.{◌≡◌, ◌+◌, [], ◌∷◌, Ok, refl, inl, true}
use Rattle.thumb_instr.specs.declared.refusals.ItPlace.TheVariants.{Outside}
use Rattle.thumb_instr.specs.HalfRows.{half_rows}
use Rattle.thumb_instr.specs.Rows.{decode}
use Rattle.thumb_instr.specs.Idempotence.{IsIdempotent}
use Rattle.thumb_instr.specs.Sets.{reads_of}
use Rattle.seq_core.specs.Meanings.{meant}
use Rattle.seq_core.specs.Groups.{done, no_ends}
use Rattle.seq_core.proofs.Law.{sequences_work}
use Rattle.seq_core.proofs.Decoded.{idempotent_decodes}
use Rattle.seq_core.proofs.Calls.{register_jump_is_done}
use Rattle.hardened_form.specs.FirstRow.{plain, hard, movs, bx_lr, first, last, flow, twice, places}
use Rattle.sim_relation.specs.Doing.{DoesIt, task_at, linked_effect}
use Rattle.sim_relation.specs.FirstRow.{done_twice}
use Rattle.sim_relation.proofs.Groups.{two_copies}

means_movs : decode Outside 0x2005 0 ≡ Ok movs
unfolding half_rows
means_movs = refl

movs_again : IsIdempotent movs
unfolding reads_of
movs_again = (inl (λ k. refl), refl)

pub movs_does : DoesIt plain hard flow places 2 true first (twice 0) (done_twice 0 movs)
unfolding meant
movs_does code start link aligned low may stands =
    sequences_work code 2 (task_at start first (twice 0) (done_twice 0 movs) (linked_effect start link first (twice 0))) (done movs ∷ []) (record {
      stands = (start + 4, two_copies code start link movs refl 0 2 2 (stands.steps 0 _ refl) (stands.steps 1 _ refl), refl);
      length = refl;
      carries = idempotent_decodes Outside 0x2005 0 movs no_ends (start + 4) means_movs movs_again;
    })

pub bx_does : DoesIt plain hard flow places 2 true last (twice 4) (done_twice 4 bx_lr)
unfolding meant
bx_does code start link aligned low may stands =
    sequences_work code 2 (task_at start last (twice 4) (done_twice 4 bx_lr) (linked_effect start link last (twice 4))) (done bx_lr ∷ []) (record {
      stands = (start + 8, two_copies code start link bx_lr refl 4 2 2 (stands.steps 0 _ refl) (stands.steps 1 _ refl), refl);
      length = refl;
      carries = register_jump_is_done 14 (start + 8);
    })
