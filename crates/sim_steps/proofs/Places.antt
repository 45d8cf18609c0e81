-- Instructions whose numbers depend on their places: MOVW, MOVT and literals.
use Rattle.std.proofs.Common.{◌≡◌, ◌≢◌, ℕ, ◌+◌, ◌-◌, ◌*◌, ◌/◌, ◌%◌, ◌^◌, Bool, true, false, [], ◌∷◌, Ok, Err, refl, sym, ap, ◌∙◌, subst, arith, IsTrue}
use Rattle.std.specs.Prelude.{if◌then◌else◌}
use Rattle.std.proofs.lemmas.Bool.{eq-eqb, eqb-true}
use Rattle.elf_model.specs.Fields.{word_at as code_word}
use Rattle.mark_word.specs.declared.marks.Mark.{Mark}
use Rattle.mark_word.specs.declared.marks.Mark.TheVariants.{Plain, Entry, Return, Low}
use Rattle.mark_word.specs.Words.{Word, plain, is_word}
use Rattle.thumb_instr.specs.declared.instructions.Instr.TheVariants.{Half, Literal}
use Rattle.thumb_instr.specs.Fields.{HalfFields, LiteralFields}
use Rattle.thumb_table.specs.declared.faults.FaultKind.TheVariants as fault
use Rattle.thumb_table.specs.States.{Core, Site, read, Change, upright}
use Rattle.thumb_table.specs.Values.{moved}
use Rattle.thumb_table.specs.Effects.{change, writing, half_word, low_half, completed, completes, marked, mark_at, lies, literal_base}
use Rattle.sim_charts.specs.Words.{SameBits, SameWord}
use Rattle.sim_steps.proofs.Following.{Follows}
use Rattle.sim_steps.proofs.Following.{Lawful}
use Rattle.seq_core.proofs.Written.{passed}
use Rattle.sim_steps.proofs.Pairs.{Pairs, upright_follows, written_pairs}
use Rattle.sim_steps.proofs.Ordinary.{low_bits, completed_bits}

-- what is marked is a word
marked_word : (bits : ℕ) (mark : Mark) → IsTrue (is_word (marked bits mark))
marked_word bits mark = go (is_word (record { bits = bits; mark = mark })) refl
  where
    go : (b : Bool) → is_word (record { bits = bits; mark = mark }) ≡ b → IsTrue (is_word (if b then record { bits = bits; mark = mark } else plain bits))
    go true e = e
    go false e = eq-eqb bits bits refl

low_word : (imm : ℕ) (mark : Mark) → IsTrue (is_word (low_half imm mark))
low_word imm Plain = eq-eqb imm imm refl
low_word imm (Entry a) = eq-eqb imm imm refl
low_word imm (Return a) = eq-eqb imm imm refl
low_word imm (Low a) = marked_word imm (Low a)

completed_word : (imm : ℕ) (old : Word) (place : Mark) → IsTrue (is_word (completed imm old place))
completed_word imm old place = go (completes place old.mark)
  where
    go : (b : Bool) → IsTrue (is_word (if b then marked (imm * 2 ^ 16 + old.bits % 2 ^ 16) place else plain (imm * 2 ^ 16 + old.bits % 2 ^ 16)))
    go true = marked_word _ place
    go false = eq-eqb _ _ refl

-- MOVW WITH A MARK: the number on the other side is the low half of what stands for the entry
pub low_same : (t : Lawful) (a whole imm other : ℕ) (m : Mark) → t.taking.entry a whole → imm ≡ a % 2 ^ 16 → other ≡ whole % 2 ^ 16 → SameWord t.taking (low_half imm (Low a)) (low_half other m)
low_same t a whole imm other m e p q =
    let k : is_word (record { bits = imm; mark = Low a }) ≡ true = eq-eqb _ _ p in
    subst (λ b. SameWord t.taking (if b then record { bits = imm; mark = Low a } else plain imm) (low_half other m)) (sym k) (whole, e, low_bits other m ∙ q)

-- what a MOVT that completes an entry found in its register
data Found (a : ℕ) : Mark → Type 0 where
  half : Found a (Low a)
  all : Found a (Entry a)

found : (a : ℕ) (m : Mark) → completes (Entry a) m ≡ true → Found a m
found a Plain e = cc
found a (Return b) e = cc
found a (Low b) e = subst (λ b. Found a (Low b)) (eqb-true a b e) half
found a (Entry b) e = subst (λ b. Found a (Entry b)) (eqb-true a b e) all

low_part : (t : Lawful) (a whole : ℕ) (m : Mark) (b h : ℕ) → t.taking.entry a whole → Found a m → SameBits t.taking m b h → h % 2 ^ 16 ≡ whole % 2 ^ 16
low_part t a whole _ b h e half s =
    let k : s.0 ≡ whole = t.laws.entry_once a s.0 whole s.1 e in
    let q : h ≡ s.0 % 2 ^ 16 = s.2 in
    omega arith
low_part t a whole _ b h e all s = ap (λ n. n % 2 ^ 16) (t.laws.entry_once a h whole s e)

did_complete : (b : Bool) (bits a : ℕ) → (if b then marked bits (Entry a) else plain bits).mark ≡ Entry a → b ≡ true
did_complete true bits a e = refl
did_complete false bits a e = cc

-- MOVT THAT COMPLETES: the number on the other side is the high half of what stands for the entry
pub top_same : (t : Lawful) (a whole imm other : ℕ) (w v : Word) (m : Mark) → t.taking.entry a whole → (completed imm w (Entry a)).mark ≡ Entry a → other ≡ whole / 2 ^ 16 → SameWord t.taking w v → SameWord t.taking (completed imm w (Entry a)) (completed other v m)
top_same t a whole imm other w v m e c p s =
    let f = found a w.mark (did_complete (completes (Entry a) w.mark) _ a c) in
    let l : v.bits % 2 ^ 16 ≡ whole % 2 ^ 16 = low_part t a whole w.mark w.bits v.bits e f s in
    let b : (completed other v m).bits ≡ whole = completed_bits other v m ∙ omega arith in
    let k : t.taking.entry a (completed other v m).bits = subst (λ n. t.taking.entry a n) (sym b) e in
    subst (λ m'. SameBits t.taking m' (completed imm w (Entry a)).bits (completed other v m).bits) (sym c) k

-- A MOVT that is ordinary at a place with a mark completes an entry: no other mark is completed.
pub top_entry : (imm : ℕ) (old : Word) (place : Mark) → place ≢ Plain → (completed imm old place).mark ≡ place → (a : ℕ) × (place ≡ Entry a)
top_entry imm old Plain n e = absurd (n refl)
top_entry imm old (Entry a) n e = (a, refl)
top_entry imm old (Return a) n e = cc
top_entry imm old (Low a) n e = cc

-- MOVW and MOVT on both sides, with numbers of their own, once the two words are the same
pub half_step : (t : Lawful) (i j : HalfFields) (s u : Site) (x y : Core) (h : Change) → i.d ≡ j.d → SameWord t.taking (half_word i.top i.d i.imm s x) (half_word j.top j.d j.imm u y) → change (Half i) s x ≡ Ok h → (g : Change) × (change (Half j) u y ≡ Ok g) × Follows t.taking (Half i) x y h (change (Half j) u y)
unfolding change
half_step t i j s u x y h d w e =
    let p : Pairs t (writing ((i.d, half_word i.top i.d i.imm s x) ∷ [])) (writing ((j.d, half_word j.top j.d j.imm u y) ∷ [])) =
    subst (λ n. Pairs t (writing ((i.d, half_word i.top i.d i.imm s x) ∷ [])) (writing ((n, half_word j.top j.d j.imm u y) ∷ []))) d (written_pairs t i.d _ _ w (word i.top)) in
    let f : Follows t.taking (Half i) x y h (change (Half j) u y) = upright_follows t (Half i) x y _ _ h (λ e f. tt) p e in
    (f.change, f.comes, f)
  where
    word : (top : Bool) → IsTrue (is_word (half_word top i.d i.imm s x))
    word false = low_word i.imm (mark_at s.code.marks s.address)
    word true = completed_word i.imm (read x i.d) (mark_at s.code.marks s.address)

-- the word that a literal load finds
abbrev pub literal : LiteralFields → Site → Word
literal i s = let a = moved i.up (literal_base s) i.imm in marked (code_word s.code.bytes (a - s.code.base)) (mark_at s.code.marks a)

pub literal_word : (i : LiteralFields) (s : Site) → IsTrue (is_word (literal i s))
literal_word i s = marked_word (code_word s.code.bytes (moved i.up (literal_base s) i.imm - s.code.base)) (mark_at s.code.marks (moved i.up (literal_base s) i.imm))

-- Literals on both sides, once the two words are the same and the other one lies in the code.
pub literal_step : (t : Lawful) (i j : LiteralFields) (s u : Site) (x y : Core) (h : Change) → i.t ≡ j.t → lies u.code (moved j.up (literal_base u) j.imm) 4 ≡ true → SameWord t.taking (literal i s) (literal j u) → change (Literal i) s x ≡ Ok h → Follows t.taking (Literal i) x y h (change (Literal j) u y)
unfolding change
literal_step t i j s u x y h d l w e =
    let p : Pairs t (writing ((i.t, literal i s) ∷ [])) (writing ((j.t, literal j u) ∷ [])) =
    subst (λ n. Pairs t (writing ((i.t, literal i s) ∷ [])) (writing ((n, literal j u) ∷ []))) d (written_pairs t i.t _ _ w (literal_word i s)) in
    subst (λ b. Follows t.taking (Literal i) x y h (if b then upright (writing ((j.t, literal j u) ∷ [])) else Err fault.BadAddress)) (sym l)
    (upright_follows t (Literal i) x y _ _ h (λ e f. tt) p (passed _ _ _ h e))
