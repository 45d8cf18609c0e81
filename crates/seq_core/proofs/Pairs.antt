-- Pairs that move their base.
use Rattle.std.proofs.Common.{◌≡◌, ◌≢◌, ℕ, ◌%◌, ◌<◌, Bool, true, false, [], ◌∷◌, length, Ok, Err, refl, sym, ap, ◌∙◌, subst, arith, ne_eqb, get_or-set_other}
use Rattle.std.specs.Prelude.{◌==◌, ◌||◌, ◌&&◌, not, if◌then◌else◌}
use Rattle.std.specs.List.{list_any}
use Rattle.std.proofs.lemmas.Bool.{eqb-true}
use Rattle.mark_word.specs.Words.{plain}
use Rattle.thumb_instr.specs.declared.places.PairIndex.{PairIndex}
use Rattle.thumb_instr.specs.declared.places.PairIndex.TheVariants as index
use Rattle.thumb_instr.specs.declared.instructions.Instr.TheVariants as instr
use Rattle.thumb_instr.specs.Sets.{reads_of, writes_of, sets_flags_of}
use Rattle.thumb_table.specs.declared.faults.FaultKind.TheVariants as fault
use Rattle.thumb_table.specs.Parts.{Memory}
use Rattle.thumb_table.specs.States.{Core, Change, Outcome, applied, read, is_askew, upright}
use Rattle.thumb_table.specs.Values.{wrapped, moved}
use Rattle.thumb_table.specs.Effects.{change, value, writing, lies_in, on_words, transferred}
use Rattle.seq_core.specs.Meanings.{meant, nowhere}
use Rattle.seq_core.specs.Apart.{IsApart}
use Rattle.seq_core.specs.Groups.{done, moving}
use Rattle.seq_core.specs.Bases.{summing, pair_at, PrePairCarries, PostPairCarries}
use Rattle.seq_core.proofs.Tests.{here}
use Rattle.seq_core.proofs.Written.{upright_is}
use Rattle.seq_core.proofs.Sent.{even_of}
use Rattle.seq_core.proofs.Seen.{transferred_same}
use Rattle.seq_core.proofs.Meaning.{change_never_traps}
use Rattle.seq_core.proofs.Quiet.{transferred_quiet}
use Rattle.seq_core.proofs.Near.{read_set}
use Rattle.seq_core.proofs.Base.{even_done, base_first, base_behind, Done, with_base}
use Rattle.seq_core.proofs.Back.{alone, others_even, moved_small, stays_small, nothing_added}

-- what is known of a transfer that came through
pub record Moved (a b : Bool) (g h : Change) : Type 0 where
  pub lies : a ≡ true
  pub aligned : b ≡ true
  pub even : list_any is_askew g.regs ≡ false
  pub made : g ≡ h

pub moved_through : (a b : Bool) (g h : Change) → (if not a then Err fault.BadAddress else if not b then Err fault.Unaligned else upright g) ≡ Ok h → Moved a b g h
moved_through true true g h e = record { lies = refl; aligned = refl; even = even_of g h e; made = upright_is g h e }
moved_through true false g h e = absurd cc
moved_through false b g h e = absurd cc

pub goes_through : (m : Memory) (a n : ℕ) (o : Outcome) → lies_in m a n ≡ true → (a % 4 == 0) ≡ true → on_words m a n o ≡ o
goes_through m a n o l e = ap (λ b. if not b then Err fault.BadAddress else if not (a % 4 == 0) then Err fault.Unaligned else o) l ∙ ap (λ b. if not b then Err fault.Unaligned else o) e

pub pair_step : (load : Bool) (t u n a : ℕ) (x y : Core) → wrapped (value x n) ≡ a → x.memory ≡ y.memory → read x t ≡ read y t → read x u ≡ read y u → lies_in y.memory a 8 ≡ true → (a % 4 == 0) ≡ true → list_any is_askew (transferred load a (t ∷ u ∷ []) y).regs ≡ false →
    done (pair_at load t u n) x ≡ Ok (transferred load a (t ∷ u ∷ []) y)
unfolding meant change
pair_step load t u n a x y v m rt ru l al e =
    ap (λ a. on_words x.memory a 8 (upright (transferred load a (t ∷ u ∷ []) x))) (nothing_added (value x n) ∙ v)
    ∙ ap (λ m. on_words m a 8 (upright (transferred load a (t ∷ u ∷ []) x))) m
    ∙ goes_through y.memory a 8 (upright (transferred load a (t ∷ u ∷ []) x)) l al
    ∙ ap upright (transferred_same load a (t ∷ u ∷ []) x y m (λ e. (rt, (ru, tt)))) ∙ even_done (transferred load a (t ∷ u ∷ []) y) e

pub pair_apart : (load : Bool) (t u n : ℕ) → t ≢ n → u ≢ n → IsApart (pair_at load t u n)
unfolding reads_of writes_of sets_flags_of
pair_apart false t u n a b = record { regs = λ k e. refl; flags = λ k e. refl }
pair_apart true t u n a b = record {
  regs = λ k e.
      let is : k ≡ n = eqb-true k n (one (k == n) e) in
      let f : (k == t) ≡ false = ne_eqb k t (λ (s : k ≡ t). a (sym s ∙ is)) in
      let g : (k == u) ≡ false = ne_eqb k u (λ (s : k ≡ u). b (sym s ∙ is)) in
      none (k == t) (k == u) f g;
  flags = λ k e. refl;
}
  where
    one : (b : Bool) → (b || false) ≡ true → b ≡ true
    one true e = refl
    one false e = e

    none : (a b : Bool) → a ≡ false → b ≡ false → ((a || b) || false) ≡ false
    none a b e f = rw (e, f) refl

pub pair_unread : (load : Bool) (t u n q : ℕ) → n ≢ q → t ≢ q → u ≢ q → reads_of (pair_at load t u n) q ≡ false
unfolding reads_of
pair_unread load t u n q a b c = go load (q == n) (q == t) (q == u) (ne_eqb q n (λ s. a (sym s))) (ne_eqb q t (λ s. b (sym s))) (ne_eqb q u (λ s. c (sym s)))
  where
    go : (l a b c : Bool) → a ≡ false → b ≡ false → c ≡ false → (a || (not l && (b || c))) ≡ false
    go true a b c e f g = rw e refl
    go false a b c e f g = rw (e, f, g) refl

pub pair_reads : (load : Bool) (t u n : ℕ) → reads_of (pair_at load t u n) n ≡ true
unfolding reads_of
pair_reads load t u n = here n _

pre_pair_parts : (load : Bool) (t u n imm : ℕ) (up : Bool) (y : Core) (h : Change) → done (instr.Pair (record { load = load; t = t; u = u; n = n; up = up; imm = imm; index = index.Pre })) y ≡ Ok h →
    Moved (lies_in y.memory (moved up (value y n) imm) 8) (moved up (value y n) imm % 4 == 0) (with_base n (moved up (value y n) imm) (transferred load (moved up (value y n) imm) (t ∷ u ∷ []) y)) h
unfolding meant change
pre_pair_parts load t u n imm up y h e = moved_through (lies_in y.memory (moved up (value y n) imm) 8) (moved up (value y n) imm % 4 == 0) (with_base n (moved up (value y n) imm) (transferred load (moved up (value y n) imm) (t ∷ u ∷ []) y)) h e

post_pair_parts : (load : Bool) (t u n imm : ℕ) (up : Bool) (y : Core) (h : Change) → done (instr.Pair (record { load = load; t = t; u = u; n = n; up = up; imm = imm; index = index.Post })) y ≡ Ok h →
    Moved (lies_in y.memory (wrapped (value y n)) 8) (wrapped (value y n) % 4 == 0) (with_base n (moved up (value y n) imm) (transferred load (wrapped (value y n)) (t ∷ u ∷ []) y)) h
unfolding meant change
post_pair_parts load t u n imm up y h e = moved_through (lies_in y.memory (wrapped (value y n)) 8) (wrapped (value y n) % 4 == 0) (with_base n (moved up (value y n) imm) (transferred load (wrapped (value y n)) (t ∷ u ∷ []) y)) h e

pair_calm : (index : PairIndex) (load : Bool) (t u n imm : ℕ) (up : Bool) (y : Core) → done (instr.Pair (record { load = load; t = t; u = u; n = n; up = up; imm = imm; index = index })) y ≡ Err fault.Trap → ⊥
unfolding meant
pair_calm index load t u n imm up y e = change_never_traps (instr.Pair (record { load = load; t = t; u = u; n = n; up = up; imm = imm; index = index })) nowhere y refl e

pub pre_pair_is_done : PrePairCarries
pre_pair_is_done load t u n q k imm end up beside tn un tq uq c = record {
  acts = λ y h b tt' m.
      let v : ℕ = moved up (value y n) imm in
      let g : Change = transferred load v (t ∷ u ∷ []) y in
      let p = pre_pair_parts load t u n imm up y h m in
      let there : n < length y.regs = let l = beside.base in let l' = b.count in omega arith in
      let y1 : Core = applied (writing ((n, plain v) ∷ [])) y in
      let f = pair_step load t u n v y1 y (ap (λ w. wrapped w.bits) (read_set y n (plain v) there) ∙ stays_small v (moved_small up (value y n) imm)) refl (get_or-set_other y.regs n t (plain v) (plain 0) tn) (get_or-set_other y.regs n u (plain v) (plain 0) un) p.lies p.aligned (others_even (n, plain v) g.regs p.even) in
      subst (λ (h : Change). Done end (done (summing up q n k) ∷ done (moving false n q) ∷ done (pair_at load t u n) ∷ []) q y h) p.made
      (base_first up n q k imm (pair_at load t u n) y g beside c refl (pair_apart load t u n tn un) (pair_unread load t u n q beside.apart tq uq) (transferred_quiet load v (t ∷ u ∷ []) y []).falls b (alone (n, plain v) g.regs p.even) end f);
  rests = λ y b t. absurd cc;
  halts = λ y b r e. absurd (pair_calm index.Pre load t u n imm up y e);
}

pub post_pair_is_done : PostPairCarries
post_pair_is_done load t u n q k imm end up beside tn un tq uq c = record {
  acts = λ y h b tt' m.
      let a : ℕ = wrapped (value y n) in
      let g : Change = transferred load a (t ∷ u ∷ []) y in
      let p = post_pair_parts load t u n imm up y h m in
      let v : ℕ = moved up (value y n) imm in
      let f = pair_step load t u n a y y refl refl refl refl p.lies p.aligned (others_even (n, plain v) g.regs p.even) in
      subst (λ (h : Change). Done end (done (pair_at load t u n) ∷ done (summing up q n k) ∷ done (moving false n q) ∷ []) q y h) p.made
      (base_behind up n q k imm (pair_at load t u n) y g beside c refl (pair_apart load t u n tn un) (pair_unread load t u n q beside.apart tq uq) (transferred_quiet load a (t ∷ u ∷ []) y []).falls b (alone (n, plain v) g.regs p.even) end (pair_reads load t u n) f);
  rests = λ y b t. absurd cc;
  halts = λ y b r e. absurd (pair_calm index.Post load t u n imm up y e);
}
