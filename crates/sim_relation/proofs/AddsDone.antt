-- ADDS r0, #1 is done by way of r12.
use Rattle.std.proofs.Common.{◌≡◌, ℕ, ◌+◌, true, false, [], ◌∷◌, None, Ok, Bool, refl, sym, ap, ◌∙◌, subst, arith, ⊎_elim}
use Rattle.std.specs.Prelude.{slice_get, Contains}
use Rattle.std.proofs.lemmas.Bool.{both_ways}
use Rattle.std.proofs.lemmas.Option.{none-some, same_Some}
use Rattle.thumb_instr.specs.declared.refusals.ItPlace.TheVariants.{Outside}
use Rattle.thumb_instr.specs.HalfRows.{half_rows}
use Rattle.thumb_instr.specs.FullRows.{full_rows}
use Rattle.thumb_instr.specs.DataRows.{names, is_rrx, moves_sp, has_odd_sp, alu_row, is_copy, move_row, or_move, or_test, data_processing, shifted}
use Rattle.thumb_instr.specs.Operands.{has}
use Rattle.thumb_instr.specs.Rows.{decode}
use Rattle.thumb_instr.specs.Sets.{reads_of, writes_of, sets_flags_of}
use Rattle.flow_recover.specs.declared.flows.Exit.{Exit}
use Rattle.flow_recover.specs.declared.flows.Exit.TheVariants as exits
use Rattle.liveness.specs.Paths.{IsLiveBefore, IsLiveAfter, at_boundary, before_next, uses_at}
use Rattle.seq_core.specs.Meanings.{meant}
use Rattle.seq_core.specs.Groups.{always, done, moving, only, IsFree}
use Rattle.seq_core.proofs.Law.{sequences_work}
use Rattle.seq_core.proofs.Decoded.{through_decodes}
use Rattle.seq_core.proofs.Plain.{lose_more}
use Rattle.hardened_form.specs.Places.{UnitPlace}
use Rattle.hardened_form.specs.FirstRow.{last}
use Rattle.sim_relation.specs.Accepted.{boundaries}
use Rattle.sim_relation.specs.Doing.{DoesIt, IsSpare, loses, task_at, linked_effect}
use Rattle.sim_relation.specs.AddsRow.{plain, hard, adds, adding, flow, through, unit, places, AddsIsDone}
use Rattle.sim_relation.proofs.ShortLists.{at_two}
use Rattle.sim_relation.proofs.ShortLists.{only as only_one}
use Rattle.sim_relation.proofs.Groups.{two_copies}

means_adds : decode Outside 0x1C40 0 ≡ Ok (adds 0)
unfolding half_rows
means_adds = refl

free : IsFree (adds 0) 12
unfolding reads_of writes_of
free = record { low = omega arith; unread = refl; unwritten = refl }

lost : (k : ℕ) → loses (adds 0) (12 ∷ []) k ≡ false → only 12 k ≡ false
lost k e = grind arith

adds_does : DoesIt plain hard flow places 2 true adding unit through
unfolding meant
adds_does code start link aligned low may stands =
    let groups = done (adds 12) ∷ done (moving false 0 12) ∷ [] in
    sequences_work code 2 (task_at start adding unit through (linked_effect start link adding unit)) groups (record {
      stands = (
        start + 8,
        two_copies code start link (adds 12) refl 0 4 4 (stands.steps 0 _ refl) (stands.steps 1 _ refl),
        (start + 12, two_copies code start link (moving false 0 12) refl 8 2 2 (stands.steps 2 _ refl) (stands.steps 3 _ refl), refl),
      );
      length = refl;
      carries = lose_more (start + 12) always (done (adds 0)) (only 12) (loses (adds 0) (12 ∷ [])) groups lost
          (through_decodes Outside 0x1C40 0 (adds 0) 0 12 (start + 12) means_adds refl refl free);
    })

-- r12 is dead behind
unused : (uses_at (boundaries 4) adding 12 ≡ false) × (uses_at (boundaries 4) last 12 ≡ false)
unfolding reads_of has writes_of sets_flags_of
unused = (refl, refl)

not_live : (p : ℕ) → IsLiveBefore flow (boundaries 4) 12 p → ⊥
not_live p h = ⊎_elim
    (λ (a : (h.last ≡ 0) × (adding ≡ h.point)). both_ways true (sym (sym unused.0 ∙ (ap (λ x. uses_at (boundaries 4) x 12) a.1 ∙ h.used))) refl)
    (λ (a : (h.last ≡ 1) × (last ≡ h.point)). both_ways true (sym (sym unused.1 ∙ (ap (λ x. uses_at (boundaries 4) x 12) a.1 ∙ h.used))) refl)
    (at_two adding last h.point h.last h.there)

dead : IsLiveAfter flow (boundaries 4) 12 adding → ⊥
dead (at_boundary l b) = both_ways true (sym l) refl
dead (before_next q l e h) = not_live q h

spare : (k : ℕ) → Contains (12 ∷ []) k → IsSpare flow (boundaries 4) adding k
spare k c = subst (IsSpare flow (boundaries 4) adding) (only_one 12 k c) (record { low = omega arith; dead = dead })

abbrev is_call_exit : Exit → Bool
is_call_exit exits.Call = true
is_call_exit _ = false

pub adds_done : AddsIsDone
unfolding half_rows full_rows names is_rrx moves_sp has_odd_sp alu_row is_copy move_row or_move or_test data_processing shifted
adds_done = record {
  stands = record {
    steps = (record { at = refl; width = refl; instr = refl; reloc = refl }, (record { at = refl; width = refl; instr = refl; reloc = refl }, (record { at = refl; width = refl; instr = refl; reloc = refl }, (record { at = refl; width = refl; instr = refl; reloc = refl }, refl))));
    island = refl;
  };
  inside = omega arith;
  within = omega arith;
  island = λ y e. absurd (none-some y e);
  load = λ y e. absurd (none-some y e);
  short = omega arith;
  does = adds_does;
  spare = spare;
  flags = λ k s. absurd (both_ways true (sym s) refl);
  end = λ q v e f. let n : 1 ≡ q = same_Some 1 q e in ap (λ (u : UnitPlace). u.start) (same_Some (record { start = 12; end = 16; back = 16; island = None }) v (ap (slice_get places.units) n ∙ f));
  back = λ e. absurd (both_ways true (sym (ap is_call_exit e)) refl);
}
