-- MOVW and MOVT, and sums with sp.
use Rattle.std.proofs.Common.{◌≡◌, ◌≢◌, ℕ, ◌+◌, ◌*◌, ◌%◌, ◌^◌, ◌<◌, Bool, true, false, [], ◌∷◌, length, inl, ⊎_elim, Ok, Err, refl, sym, ap, ◌∙◌, subst, arith, ne_eqb, get_or-set_other, length-set}
use Rattle.std.specs.Prelude.{◌==◌, ◌||◌, if◌then◌else◌}
use Rattle.std.specs.List.{list_any}
use Rattle.std.proofs.lemmas.Bool.{cases_eq, eqb-true}
use Rattle.mark_word.specs.Words.{Word, plain, is_word}
use Rattle.mark_word.specs.declared.marks.Mark.{Mark}
use Rattle.mark_word.specs.declared.marks.Mark.TheVariants.{Plain, Entry, Return, Low}
use Rattle.thumb_instr.specs.declared.operations.AluOp.TheVariants as alu
use Rattle.thumb_instr.specs.declared.instructions.Instr.TheVariants as instr
use Rattle.thumb_instr.specs.Sets.{reads_of, writes_of, sets_flags_of}
use Rattle.thumb_table.specs.declared.faults.FaultKind.TheVariants as fault
use Rattle.thumb_table.specs.States.{Core, Change, Falls, applied, read, is_askew, upright}
use Rattle.thumb_table.specs.Effects.{change, value, writing, marked, completes, completed, low_half}
use Rattle.seq_core.specs.Meanings.{meant, nowhere}
use Rattle.seq_core.specs.Does.{SameBut}
use Rattle.seq_core.specs.Apart.{IsApart}
use Rattle.seq_core.specs.Sequences.{Reaches, Settles}
use Rattle.seq_core.specs.Groups.{nothing, done, no_ends, moving, only, half_value, half_by, HalfPlaced}
use Rattle.seq_core.specs.Through.{register_sum, SpSumCarries}
use Rattle.seq_core.specs.Twice.{HalfCarries}
use Rattle.seq_core.proofs.Tests.{same_number}
use Rattle.seq_core.proofs.Written.{upright_is}
use Rattle.seq_core.proofs.Sent.{even_of}
use Rattle.seq_core.proofs.Meaning.{change_never_traps}
use Rattle.seq_core.proofs.Twice.{settles, twice_settles}
use Rattle.seq_core.proofs.Near.{near_lost, near_applied, near_same, read_set}
use Rattle.seq_core.proofs.Through.{moving_apart, move_done}
use Rattle.seq_core.proofs.Base.{even_done, low_even, Done}

marked_bits : (b : ℕ) (m : Mark) → (marked b m).bits ≡ b
marked_bits b m = elim (is_word (record { bits = b; mark = m })) as (λ v. (if v then record { bits = b; mark = m } else plain b).bits ≡ b) [ true ↦ refl | false ↦ refl ]

completed_bits : (imm : ℕ) (old : Word) (place : Mark) → (completed imm old place).bits ≡ imm * 2 ^ 16 + old.bits % 2 ^ 16
completed_bits imm old place =
    let b : ℕ = imm * 2 ^ 16 + old.bits % 2 ^ 16 in
    elim (completes place old.mark) as (λ v. (if v then marked b place else plain b).bits ≡ b) [ true ↦ marked_bits b place | false ↦ refl ]

low_bits : (imm : ℕ) (m : Mark) → (low_half imm m).bits ≡ imm
low_bits imm Plain = refl
low_bits imm (Entry a) = refl
low_bits imm (Return a) = refl
low_bits imm (Low a) = marked_bits imm (Low a)

-- a MOVT done again
kept_mark : (place : Mark) (b : ℕ) (t : Bool) → (t ≡ true → (a : ℕ) × (place ≡ Entry a)) → (let w : Word = if t then marked b place else plain b in (if completes place w.mark then marked b place else plain b) ≡ w)
kept_mark Plain b true h = let e = h refl in let f = e.1 in absurd cc
kept_mark Plain b false h = refl
kept_mark (Return a) b true h = let e = h refl in let f = e.1 in absurd cc
kept_mark (Return a) b false h = refl
kept_mark (Low a) b true h = let e = h refl in let f = e.1 in absurd cc
kept_mark (Low a) b false h = refl
kept_mark (Entry a) b false h = refl
kept_mark (Entry a) b true h = go (b == a)
  where
    go : (v : Bool) → let w : Word = if v then record { bits = b; mark = Entry a } else plain b in (if completes (Entry a) w.mark then w else plain b) ≡ w
    go true = ap (λ v. if v then record { bits = b; mark = Entry a } else plain b) (same_number a)
    go false = refl

only_entries : (place old : Mark) → completes place old ≡ true → (a : ℕ) × (place ≡ Entry a)
only_entries (Entry a) old e = (a, refl)
only_entries Plain old e = absurd cc
only_entries (Return a) old e = absurd cc
only_entries (Low a) old e = absurd cc

completed_again : (imm : ℕ) (old : Word) (place : Mark) → completed imm (completed imm old place) place ≡ completed imm old place
completed_again imm old place =
    let b : ℕ = imm * 2 ^ 16 + old.bits % 2 ^ 16 in
    let w : Word = completed imm old place in
    let same : imm * 2 ^ 16 + w.bits % 2 ^ 16 ≡ b = ap (λ v. imm * 2 ^ 16 + v % 2 ^ 16) (completed_bits imm old place) ∙ low_kept imm (old.bits % 2 ^ 16) (omega arith) in
    ap (λ v. if completes place w.mark then marked v place else plain v) same ∙ kept_mark place b (completes place old.mark) (only_entries place old.mark)
  where
    low_kept : (i r : ℕ) → r < 2 ^ 16 → i * 2 ^ 16 + (i * 2 ^ 16 + r) % 2 ^ 16 ≡ i * 2 ^ 16 + r
    low_kept i r lt = omega arith

half_bits : (top : Bool) (d imm : ℕ) (m p : Mark) (y : Core) → (half_value top d imm m y).bits ≡ (half_value top d imm p y).bits
half_bits false d imm m p y = low_bits imm m ∙ sym (low_bits imm p)
half_bits true d imm m p y = completed_bits imm (read y d) m ∙ sym (completed_bits imm (read y d) p)

half_again : (top : Bool) (d imm : ℕ) (m : Mark) (y : Core) → d < length y.regs → half_value top d imm m (applied (writing ((d, half_value top d imm m y) ∷ [])) y) ≡ half_value top d imm m y
half_again false d imm m y lt = refl
half_again true d imm m y lt = ap (λ w. completed imm w m) (read_set y d (completed imm (read y d) m) lt) ∙ completed_again imm (read y d) m

pub half_placed_is_done : HalfPlaced
unfolding change
half_placed_is_done site false d imm x = refl
half_placed_is_done site true d imm x = refl

half_done : (top : Bool) (d imm : ℕ) (y : Core) → done (instr.Half (record { top = top; d = d; imm = imm })) y ≡ half_by top d imm Plain y
unfolding meant
half_done top d imm y = half_placed_is_done nowhere top d imm y

pub other_even : (q : ℕ) (w : Word) → q ≢ 13 → list_any is_askew ((q, w) ∷ []) ≡ false
other_even q w ne = let b : (q == 13) ≡ false = ne_eqb q 13 ne in rw b refl

half_calm : (top : Bool) (d imm : ℕ) (y : Core) → done (instr.Half (record { top = top; d = d; imm = imm })) y ≡ Err fault.Trap → ⊥
unfolding meant
half_calm top d imm y e = change_never_traps (instr.Half (record { top = top; d = d; imm = imm })) nowhere y refl e

-- two words with the same bits
same_bits : (d : ℕ) (v w : Word) (y : Core) → v.bits ≡ w.bits → d < length y.regs → y.it ≡ 0 → (applied (writing ((d, w) ∷ [])) y).it ≡ 0 → SameBut nothing (applied (writing ((d, v) ∷ [])) y) (applied (writing ((d, w) ∷ [])) y)
same_bits d v w y e lt it clear = record {
  count = length-set y.regs d w ∙ sym (length-set y.regs d v);
  members = λ k l. record {
    word = λ b. ⊎_elim
        (λ (s : k ≡ d). subst (λ j. (read (applied (writing ((d, v) ∷ [])) y) j).bits ≡ (read (applied (writing ((d, w) ∷ [])) y) j).bits) (sym s) (ap (λ w. w.bits) (read_set y d v lt) ∙ e ∙ sym (ap (λ w. w.bits) (read_set y d w lt))))
        (λ (ne : k ≢ d). ap (λ w. w.bits) (get_or-set_other y.regs d k v (plain 0) ne ∙ sym (get_or-set_other y.regs d k w (plain 0) ne)))
        (cases_eq k d);
    n = λ q. refl;
    z = λ q. refl;
    c = λ q. refl;
    v = λ q. refl;
  };
  memory = refl;
  clear = clear;
}

pub half_is_done : HalfCarries
half_is_done top d imm end mark lt ne = record {
  acts = λ y h b t m.
      let w : Word = half_value top d imm mark y in
      let v : Word = half_value top d imm Plain y in
      let is : writing ((d, v) ∷ []) ≡ h = upright_is (writing ((d, v) ∷ [])) h (sym (half_done top d imm y) ∙ m) in
      let g : Change = writing ((d, w) ∷ []) in
      let there : d < length y.regs = let c = b.count in omega arith in
      let f : half_by top d imm mark y ≡ Ok g = even_done g (other_even d w ne) in
      let f' : half_by top d imm mark (applied g y) ≡ Ok g = ap (λ u. upright (writing ((d, u) ∷ []))) (half_again top d imm mark y there) ∙ even_done g (other_even d w ne) in
      let s = settles (half_by top d imm mark) y g b.clear refl refl f f' in
      subst (λ (h : Change). (z : Core) × Reaches Settles end (half_by top d imm mark ∷ []) y h.exit z × SameBut nothing (applied h y) z) is
      (applied g y, record { out = Falls; chain = inl (applied g y, s, (refl, refl)); there = refl }, same_bits d v w y (half_bits top d imm Plain mark y) there b.clear s.clear);
  rests = λ y b t. absurd cc;
  halts = λ y b t e. absurd (half_calm top d imm y e);
}

-- a sum with sp, the other way round
sp_sum_apart : (d q : ℕ) → q < 13 → d ≢ q → IsApart (register_sum alu.Add false q 13 d)
unfolding reads_of writes_of sets_flags_of
sp_sum_apart d q lt ne = record { regs = λ k e. none (k == 13) (k == d) (λ s. ne_eqb k q (λ h. let i : k ≡ 13 = eqb-true k 13 s in omega arith)) (λ s. ne_eqb k q (λ h. ne (sym (eqb-true k d s) ∙ h))) e; flags = λ k e. refl }
  where
    none : {A : Bool} (u v : Bool) → (u ≡ true → A ≡ false) → (v ≡ true → A ≡ false) → (u || ((v || false) || false)) ≡ true → A ≡ false
    none true v f g e = f refl
    none false true f g e = g refl
    none false false f g e = absurd cc

abbrev summed_to : ℕ → ℕ → ℕ → Change
summed_to d x y = writing ((d, plain ((x + y + 0) % 2 ^ 32)) ∷ [])

sum_made : (d n m : ℕ) (y : Core) → done (register_sum alu.Add false d n m) y ≡ upright (summed_to d (value y n) (value y m))
unfolding meant change
sum_made d n m y = refl

turned : (d x y : ℕ) → summed_to d x y ≡ summed_to d y x
turned d x y = let e : x + y + 0 ≡ y + x + 0 = omega arith in ap (λ v. writing ((d, plain (v % 2 ^ 32)) ∷ [])) e

sp_calm : (d : ℕ) (y : Core) → done (register_sum alu.Add false d d 13) y ≡ Err fault.Trap → ⊥
unfolding meant
sp_calm d y e = change_never_traps (register_sum alu.Add false d d 13) nowhere y refl e

pub sp_sum_is_done : SpSumCarries
sp_sum_is_done d q end lt ld ne = record {
  acts = λ y h b t m.
      let w : Word = plain ((value y 13 + value y d + 0) % 2 ^ 32) in
      let made : upright (summed_to d (value y 13) (value y d)) ≡ Ok h = ap upright (turned d (value y 13) (value y d)) ∙ sym (sum_made d d 13 y) ∙ m in
      let is : summed_to d (value y 13) (value y d) ≡ h = upright_is (summed_to d (value y 13) (value y d)) h made in
      let h1 : Change = writing ((q, w) ∷ []) in
      let t1 = twice_settles (register_sum alu.Add false q 13 d) no_ends y h1 refl (sp_sum_apart d q lt ne) b.clear (sum_made q 13 d y ∙ even_done h1 (low_even q w lt)) in
      let y1 : Core = applied h1 y in
      let there : q < length y.regs = let c = b.count in omega arith in
      let h2 : Change = writing ((d, w) ∷ []) in
      let f2 : done (moving false d q) y1 ≡ Ok h2 = move_done d q y1 ∙ ap (λ w. upright (writing ((d, w) ∷ []))) (read_set y q w there) ∙ even_done h2 (even_of h2 h made) in
      let t2 = twice_settles (moving false d q) no_ends y1 h2 refl (moving_apart false d q lt ne) t1.clear f2 in
      let near = near_applied (only q) h2 y y1 (near_lost (only q) y q w (same_number q)) in
      subst (λ (h : Change). Done end (done (register_sum alu.Add false q 13 d) ∷ done (moving false d q) ∷ []) q y h) is
      (applied h2 y1, record { out = Falls; chain = inl (y1, t1, inl (applied h2 y1, t2, (refl, refl))); there = refl }, near_same (only q) (applied h2 y) (applied h2 y1) near t2.clear);
  rests = λ y b t. absurd cc;
  halts = λ y b t e. absurd (sp_calm d y e);
}
