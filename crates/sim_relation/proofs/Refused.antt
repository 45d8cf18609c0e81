-- Units that are refused.
use Rattle.std.proofs.Common.{◌≡◌, ℕ, zero, suc, ◌+◌, inl, Bool, false, [], ◌∷◌, None, Some, Ok, Result, refl, sym, ap, ◌∙◌, subst, arith}
use Rattle.std.specs.Prelude.{◌==◌, slice_get}
use Rattle.std.proofs.lemmas.Bool.{ne_eqb}
use Rattle.std.proofs.lemmas.Option.{none-some, same_Some}
use Rattle.mark_word.specs.Words.{plain as word_of}
use Rattle.mark_word.specs.declared.marks.Mark.TheVariants as marks
use Rattle.thumb_instr.specs.FullRows.{full_rows, wide_row}
use Rattle.thumb_instr.specs.Operands.{has}
use Rattle.thumb_instr.specs.Sets.{reads_of, writes_of, sets_flags_of}
use Rattle.thumb_table.specs.declared.faults.FaultKind.{FaultKind}
use Rattle.thumb_table.specs.Parts.{CodeBytes}
use Rattle.thumb_table.specs.States.{Core, State, at, read, Site}
use Rattle.thumb_table.specs.Effects.{change, writing}
use Rattle.thumb_table.specs.Schedules.{run}
use Rattle.seq_core.specs.Meanings.{meant, nowhere}
use Rattle.seq_core.specs.Does.{Legal}
use Rattle.liveness.specs.Paths.{IsLiveAfter, before_next, here}
use Rattle.sim_relation.specs.Accepted.{boundaries}
use Rattle.sim_relation.specs.Sequences.{PlacedStep}
use Rattle.sim_relation.specs.Standing.{Linking, StepStands}
use Rattle.sim_relation.specs.Refused.{reader, read_behind, movw, step, first_unlinked, ReadRegistersAreKept, EachCopyIsLinked}
use Rattle.sim_relation.specs.AddsRow.{adding}

-- r12 is live behind
live : IsLiveAfter read_behind (boundaries 4) 12 adding
unfolding reads_of has writes_of sets_flags_of
live = before_next 1 refl (inl refl) (record { last = 1; point = reader; path = here 1; there = refl; used = refl })

pub kept : ReadRegistersAreKept
kept o h p F u s c done = (done.spare 12 c).dead live

-- Linking puts 5; the first copy has 0.
abbrev code : CodeBytes
code = record { base = 0; bytes = 0x40 ∷ 0xF2 ∷ 0x00 ∷ 0x00 ∷ 0x40 ∷ 0xF2 ∷ 0x05 ∷ 0x00 ∷ []; marks = []; stops = [] }

abbrev link : Linking
link = record { target = 0; number = 5; mark = marks.Plain }

first_stands : StepStands code 0 link (step 0 None)
unfolding full_rows wide_row
first_stands = record { fetched = record { first = 0xF240; second = 0; width = 4 }; there = refl; width = refl; instr = movw 0; means = refl; linked = refl; marked = refl }

second_stands : StepStands code 0 link (step 4 (Some 0))
unfolding full_rows wide_row
second_stands = record { fetched = record { first = 0xF240; second = 5; width = 4 }; there = refl; width = refl; instr = movw 5; means = refl; linked = refl; marked = refl }

steps_stand : (k : ℕ) (t : PlacedStep) → slice_get first_unlinked.steps k ≡ Some t → StepStands code 0 link t
steps_stand zero t e = subst (StepStands code 0 link) (same_Some (step 0 None) t e) first_stands
steps_stand (suc zero) t e = subst (StepStands code 0 link) (same_Some (step 4 (Some 0)) t e) second_stands
steps_stand (suc (suc k)) t e = absurd (none-some t e)

abbrev begun : Core
begun = record {
  regs = word_of 0 ∷ word_of 0 ∷ word_of 0 ∷ word_of 0 ∷ word_of 0 ∷ word_of 0 ∷ word_of 0 ∷ word_of 0 ∷ word_of 0 ∷ word_of 0 ∷ word_of 0 ∷ word_of 0 ∷ word_of 0 ∷ word_of 0 ∷ word_of 0 ∷ [];
  n = false;
  z = false;
  c = false;
  v = false;
  it = 0;
  memory = record { base = 0x9000; cells = [] };
}

-- the schedule that skips the second step
abbrev second_skipped : ℕ → Bool
second_skipped i = i == 1

is_legal : Legal 2 second_skipped
is_legal zero = (0, omega arith, refl)
is_legal (suc zero) = (1, omega arith, refl)
is_legal (suc (suc i)) = (0, omega arith, ne_eqb (suc (suc i) + 0) 1 (omega arith))

ok_is : (s t : State) (r : Result State FaultKind) → r ≡ Ok s → r ≡ Ok t → s ≡ t
ok_is s t r e f = let q = sym e ∙ f in same s t q
  where
    same : (s t : State) → (let o : Result State FaultKind = Ok s in o) ≡ Ok t → s ≡ t
    same s t q = cc

abbrev zero_of : State → Type 0
zero_of t = (read t.core 0).bits ≡ 0

-- r0 stays 0
stays : (n : ℕ) (t : State) → run code second_skipped n 0 (at 0 begun) ≡ Ok t → zero_of t
unfolding change full_rows wide_row
stays zero t e = ap (λ (s : State). (read s.core 0).bits) (sym (ok_is (at 0 begun) t _ refl e))
stays (suc zero) t e = ap (λ (s : State). (read s.core 0).bits) (sym (ok_is (at 4 begun) t _ refl e))
stays (suc (suc zero)) t e = ap (λ (s : State). (read s.core 0).bits) (sym (ok_is (at 8 begun) t _ refl e))
stays (suc (suc (suc n))) t e = absurd cc

movw_change : (site : Site) (x : Core) → site.code.marks ≡ [] → change (movw 5) site x ≡ Ok (writing ((0, word_of 5) ∷ []))
unfolding change
movw_change site x e = rw e

pub not_done : EachCopyIsLinked
unfolding meant change
not_done o h f p low does =
    let works = does code 0 link refl (omega (arith, low)) (record { word = λ n w e. absurd (none-some n e); target = λ q v r. absurd cc }) (record { steps = steps_stand; word = λ n y w. absurd (none-some n w); island = λ y w. absurd (none-some y w) }) in
    let r = (works second_skipped is_legal 0).acts begun _ (record { count = refl; clear = refl }) refl (movw_change nowhere begun refl) in
    let z : zero_of (at 8 r.0) = stays r.1.steps (at 8 r.0) r.1.runs in
    let same : 5 ≡ (read r.0 0).bits = (r.2.members 0 refl).word (omega arith) in
    let five : ◌≡◌ {A = ℕ} 5 0 = same ∙ z in
    omega (arith, five)
