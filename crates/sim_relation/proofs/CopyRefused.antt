-- A copy is no pair: its one MOVS r0, #5 is skipped whole.
use Rattle.std.proofs.Common.{◌≡◌, ℕ, zero, suc, ◌+◌, ◌*◌, ◌<◌, ◌≤◌, ⊎_elim, inl, Bool, true, false, List, [], ◌∷◌, length, Option, Some, None, Ok, Result, refl, sym, ap, ◌∙◌, subst, arith}
use Rattle.std.specs.Prelude.{◌==◌, ◌||◌, ◌%◌, if◌then◌else◌, slice_get, slice_index, flat_map, Contains}
use Rattle.std.specs.List.{zip}
use Rattle.std.proofs.lemmas.Bool.{ne_eqb, both_ways}
use Rattle.std.proofs.lemmas.Option.{none-some, same_Some}
use Rattle.mark_word.specs.Words.{Word, plain as word_of}
use Rattle.mark_word.specs.declared.marks.Mark.TheVariants as marks
use Rattle.thumb_instr.specs.HalfRows.{half_rows}
use Rattle.thumb_instr.specs.Operands.{has}
use Rattle.thumb_instr.specs.Sets.{reads_of, writes_of, sets_flags_of}
use Rattle.thumb_table.specs.declared.faults.FaultKind.{FaultKind}
use Rattle.thumb_table.specs.Parts.{CodeBytes}
use Rattle.thumb_table.specs.States.{Core, State, at, read, Change, Falls, Site}
use Rattle.thumb_table.specs.Effects.{change}
use Rattle.thumb_table.specs.Schedules.{run, is_in}
use Rattle.thumb_table.specs.Steps.{fetch}
use Rattle.seq_core.specs.Meanings.{meant, nowhere}
use Rattle.seq_core.specs.Does.{Legal}
use Rattle.elf_model.specs.declared.objects.Section.{Section}
use Rattle.elf_model.specs.declared.objects.MapRow.{MapRow}
use Rattle.elf_model.specs.Fields.{half_at}
use Rattle.elf_model.specs.Objects.{ObjectParts}
use Rattle.elf_model.specs.Maps.{map_section, row_bytes}
use Rattle.elf_model.specs.Ranges.{is_long}
use Rattle.reloc_places.specs.Starts.{bytes_of}
use Rattle.flow_recover.proofs.OneFlow.{flow_once}
use Rattle.liveness.specs.Paths.{IsLiveAfter, before_next, here}
use Rattle.hardened_form.specs.FirstRow.{plain, first, last, flow, movs, start_row}
use Rattle.hardened_form.specs.Places.{UnitPlace, Places}
use Rattle.hardened_form.specs.Rows.{starts}
use Rattle.hardened_form.specs.HardenedForms.{IsHardenedForm}
use Rattle.sim_relation.specs.Accepted.{boundaries}
use Rattle.sim_relation.specs.Sequences.{PlacedStep, Sequence, AreSteps, IsStepAt, EndsWith}
use Rattle.sim_relation.specs.Standing.{Linking, Stands, StepStands, IsLinked, linked_mark}
use Rattle.sim_relation.specs.Doing.{DoesIt, IsDone, loses}
use Rattle.sim_relation.specs.Pairs.{Certificate, AreDone, everywhere}
use Rattle.sim_relation.specs.FirstRow.{copy, CopyIsRefused}
use Rattle.sim_relation.proofs.ShortLists.{either}
use Rattle.sim_relation.proofs.FirstAccepted.{is_flow}

-- the copy's code at 0
abbrev code : CodeBytes
code = record { base = 0; bytes = 0x05 ∷ 0x20 ∷ 0x70 ∷ 0x47 ∷ []; marks = []; stops = [] }

abbrev end_word : Word
end_word = record { bits = 0x7FFFFFFF; mark = marks.Return 0x7FFFFFFF }

-- all registers are 0 but lr
abbrev begun : Core
begun = record {
  regs = word_of 0 ∷ word_of 0 ∷ word_of 0 ∷ word_of 0 ∷ word_of 0 ∷ word_of 0 ∷ word_of 0 ∷ word_of 0 ∷ word_of 0 ∷ word_of 0 ∷ word_of 0 ∷ word_of 0 ∷ word_of 0 ∷ word_of 0 ∷ end_word ∷ [];
  n = false;
  z = false;
  c = false;
  v = false;
  it = 0;
  memory = record { base = 0x9000; cells = [] };
}

-- the schedule that skips the first step
abbrev first_skipped : ℕ → Bool
first_skipped i = i == 0

is_legal : Legal 2 first_skipped
is_legal zero = (1, omega arith, refl)
is_legal (suc i) = (0, omega arith, ne_eqb (suc i + 0) 0 (omega arith))

abbrev zero_of : State → Type 0
zero_of t = (read t.core 0).bits ≡ 0

ok_is : (s t : State) (r : Result State FaultKind) → r ≡ Ok s → r ≡ Ok t → s ≡ t
ok_is s t r e f = let q = sym e ∙ f in same s t q
  where
    same : (s t : State) → (let o : Result State FaultKind = Ok s in o) ≡ Ok t → s ≡ t
    same s t q = cc

-- r0 stays 0
stays : (n : ℕ) (t : State) → run code first_skipped n 0 (at 0 begun) ≡ Ok t → zero_of t
unfolding change half_rows
stays zero t e = ap (λ (s : State). (read s.core 0).bits) (sym (ok_is (at 0 begun) t _ refl e))
stays (suc zero) t e = ap (λ (s : State). (read s.core 0).bits) (sym (ok_is (at 2 begun) t _ refl e))
stays (suc (suc zero)) t e = ap (λ (s : State). (read s.core 0).bits) (sym (ok_is (at 0x7FFFFFFE begun) t _ refl e))
stays (suc (suc (suc n))) t e = absurd cc

-- where it would be 5
abbrev made : Core → Change
made x = record { regs = (0, word_of 5) ∷ []; n = Some false; z = Some false; c = None; v = None; cells = []; it = None; exit = Falls }

movs_change : (site : Site) (x : Core) → change movs site x ≡ Ok (made x)
unfolding change
movs_change site x = refl

-- a register that is live is no scratch register
spared : (k : ℕ) (xs : List ℕ) → (Contains xs k → ⊥) → is_in xs k ≡ false
spared k [] not_in = refl
spared k (x ∷ xs) not_in =
    let rest : is_in xs k ≡ false = spared k xs (λ c. not_in (suc c.0, omega (arith, c.1), c.2)) in
    let other : (x == k) ≡ false = ne_eqb x k (λ e. not_in (0, omega arith, e)) in
    rw (other, rest)

-- r0 is live behind MOVS
live : IsLiveAfter flow (boundaries 4) 0 first
unfolding reads_of has writes_of sets_flags_of
live = before_next 1 refl (inl refl) (record { last = 1; point = last; path = here 1; there = refl; used = refl })

abbrev no_link : Linking
no_link = record { target = 0; number = 0; mark = marks.Plain }

-- Whatever the unit is, it doesn't do it.
does_not : (p : Places) (u : UnitPlace) (s : Sequence) → u.start ≡ 0 → (Contains s.scratch 0 → ⊥) → Stands code 0 no_link p first u s → DoesIt plain copy flow p 2 true first u s → ⊥
unfolding meant change
does_not p u s place spare stands does =
    let works = does code 0 no_link refl (omega arith) (record { word = λ n w e. absurd (none-some n e); target = λ q v r o. absurd (both_ways true (sym o) refl) }) stands in
    let r = (works first_skipped is_legal 0).acts begun _ (record { count = refl; clear = refl }) refl (movs_change nowhere begun) in
    let begins : at (0 + u.start) begun ≡ at 0 begun = ap (λ x. at (0 + x) begun) place in
    let z : zero_of (at (0 + u.end) r.0) = stays r.1.steps (at (0 + u.end) r.0) (subst (λ t. run code first_skipped r.1.steps 0 t ≡ Ok (at (0 + u.end) r.0)) begins r.1.runs) in
    let kept : loses movs s.scratch 0 ≡ false = ap (λ b. (b || false) || false) (spared 0 s.scratch spare) in
    let same : 5 ≡ (read r.0 0).bits = (r.2.members 0 kept).word (omega arith) in
    let five : ◌≡◌ {A = ℕ} 5 0 = same ∙ z in
    omega (arith, five)

-- The steps are the copy's two instructions.
width_above : (h : ObjectParts) (j x : ℕ) (s : PlacedStep) → IsStepAt h j x s → 0 < s.width
width_above h j x s i = subst (λ w. 0 < w) (sym i.width) (above (is_long (half_at (bytes_of h j) x)))
  where
    above : (b : Bool) → 0 < (if b then 4 else 2)
    above true = omega arith
    above false = omega arith

steps_rise : (h : ObjectParts) (j : ℕ) (steps : List PlacedStep) (x z : ℕ) → AreSteps h j x steps z → x ≤ z
steps_rise h j [] x z e = omega (arith, e)
steps_rise h j (s ∷ rest) x z (i, r) = let l = steps_rise h j rest (x + s.width) z r in omega (arith, l)

module _ (link : Linking) where
  first_stands : (s : PlacedStep) → IsStepAt copy 0 0 s → StepStands code 0 link s
  unfolding half_rows
  first_stands s i = record {
    fetched = record { first = 0x2005; second = 0; width = 2 };
    there = ap (λ a. fetch code (0 + a)) i.at;
    width = sym i.width;
    instr = s.instr;
    means = i.instr;
    linked = subst (λ r. IsLinked link (0 + s.at) r s.instr s.instr) (sym i.reloc) refl;
    marked = ap (linked_mark link) (sym i.reloc);
  }

  second_stands : (s : PlacedStep) → IsStepAt copy 0 2 s → StepStands code 0 link s
  unfolding half_rows
  second_stands s i = record {
    fetched = record { first = 0x4770; second = 0; width = 2 };
    there = ap (λ a. fetch code (0 + a)) i.at;
    width = sym i.width;
    instr = s.instr;
    means = i.instr;
    linked = subst (λ r. IsLinked link (0 + s.at) r s.instr s.instr) (sym i.reloc) refl;
    marked = ap (linked_mark link) (sym i.reloc);
  }

  none_behind : (steps : List PlacedStep) (z : ℕ) → AreSteps copy 0 4 steps z → z ≤ 4 → (k : ℕ) (s : PlacedStep) → slice_get steps k ≡ Some s → StepStands code 0 link s
  none_behind [] z a low k s e = absurd (none-some s e)
  none_behind (v ∷ rest) z (i, r) low k s e =
      let above = width_above copy 0 4 v i in
      let l = steps_rise copy 0 rest (4 + v.width) z r in
      absurd (omega (arith, above, l, low))

  second_on : (steps : List PlacedStep) (z : ℕ) → AreSteps copy 0 2 steps z → z ≤ 4 → (k : ℕ) (s : PlacedStep) → slice_get steps k ≡ Some s → StepStands code 0 link s
  second_on [] z a low k s e = absurd (none-some s e)
  second_on (t ∷ rest) z (i, r) low zero s e = subst (StepStands code 0 link) (same_Some t s e) (second_stands t i)
  second_on (t ∷ rest) z (i, r) low (suc k) s e = none_behind rest z (subst (λ w. AreSteps copy 0 (2 + w) rest z) i.width r) low k s e

  all_stand : (steps : List PlacedStep) (z : ℕ) → AreSteps copy 0 0 steps z → z ≤ 4 → (k : ℕ) (s : PlacedStep) → slice_get steps k ≡ Some s → StepStands code 0 link s
  all_stand [] z a low k s e = absurd (none-some s e)
  all_stand (t ∷ rest) z (i, r) low zero s e = subst (StepStands code 0 link) (same_Some t s e) (first_stands t i)
  all_stand (t ∷ rest) z (i, r) low (suc k) s e = second_on rest z (subst (λ w. AreSteps copy 0 (0 + w) rest z) i.width r) low k s e

-- The first unit's place is 0: the map says so.
abbrev map_bytes : List ℕ
map_bytes = (map_section (start_row 0 0 ∷ start_row 2 2 ∷ [])).bytes

placed_at : (rows : List MapRow) → 32 ≡ 16 * length rows → map_bytes ≡ flat_map row_bytes rows → (y : ℕ) → y < 4 → Contains rows (start_row 0 y) → y ≡ 0
placed_at [] e b y low c = absurd (omega (arith, e))
placed_at (r ∷ []) e b y low c = absurd (omega (arith, e))
placed_at (r ∷ s ∷ []) e b y low c = ⊎_elim
    (λ (h : r ≡ start_row 0 y).
    let same : map_bytes ≡ flat_map row_bytes (start_row 0 y ∷ s ∷ []) = b ∙ ap (λ q. flat_map row_bytes (q ∷ s ∷ [])) h in
    let n : 0 ≡ y % 256 = ap (λ (l : List ℕ). slice_index l 8) same in
    omega (arith, n, low))
    (λ (h : s ≡ start_row 0 y).
    let same : map_bytes ≡ flat_map row_bytes (r ∷ start_row 0 y ∷ []) = b ∙ ap (λ q. flat_map row_bytes (r ∷ q ∷ [])) h in
    let n : ◌≡◌ {A = ℕ} 2 0 = ap (λ (l : List ℕ). slice_index l 20) same in
    absurd (omega (arith, n)))
    (either r s (start_row 0 y) c)
placed_at (r ∷ s ∷ t ∷ more) e b y low c = absurd (omega (arith, e))

begins_with : {X : Type 0} (xs : List X) → length xs ≡ 2 → (a : X) × (b : X) × (xs ≡ a ∷ b ∷ [])
begins_with [] e = absurd (omega (arith, e))
begins_with (a ∷ []) e = absurd (omega (arith, e))
begins_with (a ∷ b ∷ []) e = (a, b, refl)
begins_with (a ∷ b ∷ c ∷ more) e = absurd (omega (arith, e))

no_island : (u : UnitPlace) (s : Sequence) → ((y : ℕ) → u.island ≡ Some y → (n : ℕ) × (first.word ≡ Some n)) → EndsWith (bytes_of copy 0) s.behind u.island u.end → u.end ≡ s.behind
no_island u s none is = ends u.island none is
  where
    ends : (x : Option ℕ) → ((y : ℕ) → x ≡ Some y → (n : ℕ) × (first.word ≡ Some n)) → EndsWith (bytes_of copy 0) s.behind x u.end → u.end ≡ s.behind
    ends None none is = is
    ends (Some y) none is = let w = none y refl in absurd (none-some w.0 w.1)

refused_by : (F : ℕ) (e : Certificate) → IsHardenedForm plain copy flow e.places e.carriers → length e.sequences ≡ 2 → AreDone plain copy flow e F 2 4 everywhere → ⊥
refused_by F e form count all_done =
    let two = begins_with e.places.units form.tables.lists.items.units in
    let u : UnitPlace = two.0 in
    let got : slice_get e.places.units 0 ≡ Some u = ap (λ xs. slice_get xs 0) two.2 in
    let both = begins_with e.sequences count in
    let s : Sequence = both.0 in
    let done : IsDone plain copy flow e.places (boundaries 4) F 2 true first u s = all_done 0 first u s refl got (ap (λ xs. slice_get xs 0) both.2) in
    let there : Contains (zip flow.points e.places.units) (first, u) = subst (λ xs. Contains (zip flow.points xs) (first, u)) (sym two.2) (0, omega arith, refl) in
    let has : Contains form.rows (start_row 0 u.start) = (form.tables.map.exact (start_row 0 u.start)).1 (starts first u there) in
    let section = same_Some _ (map_section form.rows) form.tables.sections.map in
    let size : 32 ≡ 16 * length form.rows = ap (λ (t : Section). t.size) section in
    let bytes : map_bytes ≡ flat_map row_bytes form.rows = ap (λ (t : Section). t.bytes) section in
    let place : u.start ≡ 0 = placed_at form.rows size bytes u.start done.inside has in
    let end : u.end ≡ s.behind = no_island u s done.island done.stands.island in
    let steps : AreSteps copy 0 0 s.steps s.behind = subst (λ x. AreSteps copy 0 x s.steps s.behind) place done.stands.steps in
    let within : s.behind ≤ 4 = omega (arith, end, done.within) in
    does_not e.places u s place (λ c. (done.spare 0 c).dead live) (record {
      steps = all_stand no_link s.steps s.behind steps within;
      word = λ n y w. absurd (none-some n w);
      island = λ y w. let v = done.island y w in absurd (none-some v.0 v.1);
    }) done.does

pub refused : CopyIsRefused
refused F p =
    let e = p.certificate in
    let one = flow_once plain p.flow flow p.accepted.flow is_flow in
    refused_by F e (subst (λ f. IsHardenedForm plain copy f e.places e.carriers) one p.form) (subst (λ f. length e.sequences ≡ length f.points) one p.count)
    (subst (λ f. AreDone plain copy f e F 2 4 everywhere) one p.done)
