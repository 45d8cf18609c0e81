-- Units of generated functions take 128 bytes a function at most.
use Rattle.std.proofs.Common.{◌≡◌, ◌≤◌, ◌<◌, ℕ, ◌+◌, ◌*◌, Bool, true, false, cond, List, [], ◌∷◌, refl, sym, ap, ◌∙◌, subst, inl, inr, arith}
use Rattle.std.specs.Prelude.{Contains, ◌==◌}
use Rattle.std.specs.declared.cmp.Ordering.TheVariants.{Less}
use Rattle.elf_model.proofs.Elements.{contains_here, contains_later}
use Rattle.thumb_instr.specs.declared.instructions.Instr.{Instr}
use Rattle.code_ranges.specs.Spans.{place_cmp}
use Rattle.code_ranges.proofs.InOrder.{Rises}
use Rattle.code_ranges.proofs.MarkFacts.{less}
use Rattle.hardened_form.specs.Items.{Item, old_place, items_in, new_start, StandFrom}
use Rattle.gen_flow.specs.GeneratedCode.{StandsAt}
use Rattle.gen_flow.specs.GeneratedCode.StandsAt.{first, work as worked, next, back as returned, last as ended}
use Rattle.gen_hardened.proofs.KnownInstrs.{of_drawn}
use Rattle.gen_hardened.proofs.UnitCopies.{IsShort, push_short, worked_short, call_short, return_short}

-- How many bytes the unit of an instruction at an old offset may take, and how many all units before it.
pub data Slot (count x before bytes : ℕ) : Type 0 where
  push : (k : ℕ) → k < count → x ≡ 14 * k → before ≡ 128 * k → bytes ≡ 24 → Slot count x before bytes
  work : (k j : ℕ) → k < count → j < 3 → x ≡ 14 * k + 2 * j + 2 → before ≡ 128 * k + 16 * j + 24 → bytes ≡ 16 → Slot count x before bytes
  call : (k : ℕ) → k + 1 < count → x ≡ 14 * k + 8 → before ≡ 128 * k + 72 → bytes ≡ 24 → Slot count x before bytes
  back : (k : ℕ) → k + 1 < count → x ≡ 14 * k + 12 → before ≡ 128 * k + 96 → bytes ≡ 32 → Slot count x before bytes
  last : (k : ℕ) → k + 1 ≡ count → x ≡ 14 * k + 8 → before ≡ 128 * k + 72 → bytes ≡ 32 → Slot count x before bytes

next_slot : (count x y before bytes later more : ℕ) → Slot count x before bytes → Slot count y later more → x < y → before + bytes ≤ later
next_slot count x y before bytes later more (push k a e b n) (push p c f d m) lt = omega arith
next_slot count x y before bytes later more (push k a e b n) (work p i c h f d m) lt = omega arith
next_slot count x y before bytes later more (push k a e b n) (call p c f d m) lt = omega arith
next_slot count x y before bytes later more (push k a e b n) (back p c f d m) lt = omega arith
next_slot count x y before bytes later more (push k a e b n) (last p c f d m) lt = omega arith
next_slot count x y before bytes later more (work k j a l e b n) (push p c f d m) lt = omega arith
next_slot count x y before bytes later more (work k j a l e b n) (work p i c h f d m) lt = omega arith
next_slot count x y before bytes later more (work k j a l e b n) (call p c f d m) lt = omega arith
next_slot count x y before bytes later more (work k j a l e b n) (back p c f d m) lt = omega arith
next_slot count x y before bytes later more (work k j a l e b n) (last p c f d m) lt = omega arith
next_slot count x y before bytes later more (call k a e b n) (push p c f d m) lt = omega arith
next_slot count x y before bytes later more (call k a e b n) (work p i c h f d m) lt = omega arith
next_slot count x y before bytes later more (call k a e b n) (call p c f d m) lt = omega arith
next_slot count x y before bytes later more (call k a e b n) (back p c f d m) lt = omega arith
next_slot count x y before bytes later more (call k a e b n) (last p c f d m) lt = omega arith
next_slot count x y before bytes later more (back k a e b n) (push p c f d m) lt = omega arith
next_slot count x y before bytes later more (back k a e b n) (work p i c h f d m) lt = omega arith
next_slot count x y before bytes later more (back k a e b n) (call p c f d m) lt = omega arith
next_slot count x y before bytes later more (back k a e b n) (back p c f d m) lt = omega arith
next_slot count x y before bytes later more (back k a e b n) (last p c f d m) lt = omega arith
next_slot count x y before bytes later more (last k a e b n) (push p c f d m) lt = omega arith
next_slot count x y before bytes later more (last k a e b n) (work p i c h f d m) lt = omega arith
next_slot count x y before bytes later more (last k a e b n) (call p c f d m) lt = omega arith
next_slot count x y before bytes later more (last k a e b n) (back p c f d m) lt = omega arith
next_slot count x y before bytes later more (last k a e b n) (last p c f d m) lt = omega arith

slot_end : (count x before bytes : ℕ) → Slot count x before bytes → before + bytes ≤ 128 * count
slot_end count x before bytes (push k a e b n) = omega arith
slot_end count x before bytes (work k j a l e b n) = omega arith
slot_end count x before bytes (call k a e b n) = omega arith
slot_end count x before bytes (back k a e b n) = omega arith
slot_end count x before bytes (last k a e b n) = omega arith

-- the slot of an instruction, which is long enough for its copies
pub record HasSlot (count x : ℕ) (i : Instr) : Type 0 where
  pub before : ℕ
  pub copies : ℕ
  pub slot : Slot count x before (4 * copies)
  pub short : IsShort i copies

pub slot_of : (seed count x : ℕ) (i : Instr) → StandsAt seed count x i → HasSlot count x i
slot_of seed count x i (first k low at is) = record { before = 128 * k; copies = 6; slot = push k low at refl refl; short = subst (λ (z : Instr). IsShort z 6) (sym is) push_short }
slot_of seed count x i (worked k j low few at is) =
    record { before = 128 * k + 16 * j + 24; copies = 4; slot = work k j low few at refl refl; short = subst (λ (z : Instr). IsShort z 4) (sym is) (of_drawn (λ z. IsShort z 4) worked_short seed k j) }
slot_of seed count x i (next k low at is) = record { before = 128 * k + 72; copies = 6; slot = call k low at refl refl; short = subst (λ (z : Instr). IsShort z 6) (sym is) call_short }
slot_of seed count x i (returned k low at is) = record { before = 128 * k + 96; copies = 8; slot = back k low at refl refl; short = subst (λ (z : Instr). IsShort z 8) (sym is) return_short }
slot_of seed count x i (ended k low at is) = record { before = 128 * k + 72; copies = 8; slot = last k low at refl refl; short = subst (λ (z : Instr). IsShort z 8) (sym is) return_short }

-- ITEMS

pub record IsSlotted (count : ℕ) (it : Item) : Type 0 where
  pub section : it.section ≡ 0
  pub unit : it.word ≡ false
  pub before : ℕ
  pub bytes : ℕ
  pub slot : Slot count it.old before bytes
  pub few : it.end ≤ it.new + bytes

abbrev pub AllSlotted : ℕ → List Item → Type 0
AllSlotted count items = (it : Item) → Contains items it → IsSlotted count it

abbrev pub Before : Item → Item → Type 0
Before a b = place_cmp (old_place a) (old_place b) ≡ Less

-- an offset up to which no more stands than all units before any of the items may take
abbrev IsAhead : ℕ → ℕ → List Item → Type 0
IsAhead count x items = (it : Item) → Contains items it → (before bytes : ℕ) → Slot count it.old before bytes → x ≤ before

old_less : (count : ℕ) (a b : Item) → IsSlotted count a → IsSlotted count b → Before a b → a.old < b.old
old_less count a b one two before =
    let first = one.section in
    let second = two.section in
    elim (less (old_place a) (old_place b) before) [ inl low ↦ absurd (let l : a.section < b.section = low in omega arith) | inr same ↦ same.1 ]

module _ (count j size : ℕ) (it : Item) (items : List Item) (rise : Rises Before (it ∷ items)) (all : AllSlotted count (it ∷ items)) where
  here : IsSlotted count it
  here = all it (contains_here it items)

  ahead_behind : (x : ℕ) → x ≤ here.before → it.new ≡ x → IsAhead count it.end items
  ahead_behind x low new i among before bytes slot =
      let few = here.few in
      let lt = old_less count it i here (all i (contains_later it items i among)) (rise.0 i among) in
      let step = next_slot count it.old i.old here.before here.bytes before bytes here.slot slot lt in
      omega arith

  step_on : (x : ℕ) → IsAhead count x (it ∷ items) → x ≤ 128 * count → ((y : ℕ) → IsAhead count y items → y ≤ 128 * count → StandFrom y (items_in items j) size → size ≤ 128 * count) → (b : Bool)
      → StandFrom x (cond b (it ∷ items_in items j) (items_in items j)) size → size ≤ 128 * count
  step_on x ahead low rest true s =
      let new : it.new ≡ x = s.0 ∙ ap (λ (w : Bool). new_start w x) here.unit in
      let start = ahead it (contains_here it items) here.before here.bytes here.slot in
      let end = slot_end count it.old here.before here.bytes here.slot in
      let few = here.few in
      rest it.end (ahead_behind x start new) (omega arith) s.1
  step_on x ahead low rest false s = rest x (λ i among. ahead i (contains_later it items i among)) low s

stand_few : (count j size : ℕ) (items : List Item) → Rises Before items → AllSlotted count items → (x : ℕ) → IsAhead count x items → x ≤ 128 * count → StandFrom x (items_in items j) size → size ≤ 128 * count
stand_few count j size [] rise all x ahead low s = let same : x ≡ size = s in omega arith
stand_few count j size (it ∷ items) rise all x ahead low s =
    step_on count j size it items rise all x ahead low (stand_few count j size items rise.1 (λ i among. all i (contains_later it items i among))) (it.section == j) s

pub few_stand : (count j size : ℕ) (items : List Item) → Rises Before items → AllSlotted count items → StandFrom 0 (items_in items j) size → size ≤ 128 * count
few_stand count j size items rise all s = stand_few count j size items rise all 0 (λ it among before bytes slot. omega arith) (omega arith) s
