-- Classes ThroughFlags and BaseCopy.
use Rattle.std.proofs.Common.{◌≡◌, ◌≢◌, ℕ, ◌+◌, ◌*◌, ◌%◌, ◌<◌, Bool, true, false, [], ◌∷◌, length, inl, Some, Ok, Err, refl, sym, ap, ◌∙◌, subst, arith, ne_eqb}
use Rattle.std.specs.Prelude.{◌==◌, ◌||◌}
use Rattle.std.specs.List.{list_any}
use Rattle.std.proofs.lemmas.Bool.{eqb-true}
use Rattle.mark_word.specs.Words.{plain}
use Rattle.thumb_instr.specs.declared.register_sets.RegSet.{RegSet}
use Rattle.thumb_instr.specs.declared.operations.AccessOp.TheVariants.{Ldr}
use Rattle.thumb_instr.specs.declared.instructions.Instr.{Instr}
use Rattle.thumb_instr.specs.Operands.{has}
use Rattle.thumb_instr.specs.Sets.{reads_of, writes_of, sets_flags_of}
use Rattle.thumb_table.specs.declared.faults.FaultKind.TheVariants as fault
use Rattle.thumb_table.specs.States.{Core, Change, Outcome, Falls, applied, read, is_askew, upright, unchanged}
use Rattle.thumb_table.specs.Values.{wrapped, is_negative}
use Rattle.thumb_table.specs.Effects.{change, value, writing, registers, on_words, transfer_size, lowest, transferred, and_next, lies_in, accessed}
use Rattle.thumb_table.specs.Steps.{goes_on}
use Rattle.seq_core.specs.Meanings.{meant, nowhere}
use Rattle.seq_core.specs.Does.{Begins}
use Rattle.seq_core.specs.Apart.{goes_on_always, IsApart}
use Rattle.seq_core.specs.Groups.{done, no_ends, moving, only}
use Rattle.seq_core.specs.Bases.{multiplying, loading, pair_loading, access_at, IsBeside, FlaggedProductCarries, BaseCopyListCarries, BaseCopyPairCarries, BaseCopyOneCarries}
use Rattle.seq_core.proofs.Tests.{same_number}
use Rattle.seq_core.proofs.Written.{upright_is}
use Rattle.seq_core.proofs.Sent.{even_of}
use Rattle.seq_core.proofs.Meaning.{meant_quiet, change_never_traps}
use Rattle.seq_core.proofs.Twice.{twice_settles}
use Rattle.seq_core.proofs.Near.{near_lost, near_applied, near_same, read_set}
use Rattle.seq_core.proofs.Through.{moving_apart, moving_away, move_low}
use Rattle.seq_core.proofs.Base.{even_done, low_even, Done}
use Rattle.seq_core.proofs.Back.{access_apart, access_step}
use Rattle.seq_core.proofs.Pairs.{Moved, moved_through}

-- a product
product_apart : (d n m : ℕ) → n ≢ d → m ≢ d → IsApart (multiplying false d n m)
unfolding reads_of writes_of sets_flags_of
product_apart d n m a b = record {
  regs = λ k e. ne_eqb k d (λ (s : k ≡ d).
      let x : (k == n) ≡ false = ne_eqb k n (λ h. a (sym h ∙ s)) in
      let y : (k == m) ≡ false = ne_eqb k m (λ h. b (sym h ∙ s)) in
      none (k == n) (k == m) x y e);
  flags = λ k e. refl;
}
  where
    none : (a b : Bool) → a ≡ false → b ≡ false → (a || b) ≡ true → ⊥
    none a b x y e = let f : (a || b) ≡ false = rw (x, y) refl in absurd cc

product_done : (d n m : ℕ) (y : Core) → d < 13 → done (multiplying false d n m) y ≡ Ok (writing ((d, plain (wrapped (value y n * value y m))) ∷ []))
unfolding meant change
product_done d n m y lt = even_done (writing ((d, plain (wrapped (value y n * value y m))) ∷ [])) (low_even d (plain (wrapped (value y n * value y m))) lt)

abbrev signed_change : ℕ → ℕ → Change
signed_change d v = record unchanged { regs = (d, plain v) ∷ []; n = Some (is_negative v); z = Some (v == 0) }

flagged_parts : (d n m : ℕ) (y : Core) (h : Change) → done (multiplying true d n m) y ≡ Ok h →
    let v : ℕ = wrapped (value y n * value y m) in (list_any is_askew ((d, plain v) ∷ []) ≡ false) × (signed_change d v ≡ h)
unfolding meant change
flagged_parts d n m y h e =
    let g : Change = signed_change d (wrapped (value y n * value y m)) in
    (even_of g h e, upright_is g h e)

moves_done : (d q v : ℕ) (x : Core) → read x q ≡ plain v → done (moving true d q) x ≡ upright (signed_change d v)
unfolding meant change
moves_done d q v x e = ap (λ w. upright (record unchanged { regs = (d, w) ∷ []; n = Some (is_negative w.bits); z = Some (w.bits == 0) })) e

product_calm : (d n m : ℕ) (y : Core) → done (multiplying true d n m) y ≡ Err fault.Trap → ⊥
unfolding meant
product_calm d n m y e = change_never_traps (multiplying true d n m) nowhere y refl e

pub flagged_product_is_done : FlaggedProductCarries
flagged_product_is_done d n m q end lt dq nq mq ln lm = record {
  acts = λ y h b t made.
      let v : ℕ = wrapped (value y n * value y m) in
      let p = flagged_parts d n m y h made in
      let h1 : Change = writing ((q, plain v) ∷ []) in
      let t1 = twice_settles (multiplying false q n m) no_ends y h1 refl (product_apart q n m nq mq) b.clear (product_done q n m y lt) in
      let y1 : Core = applied h1 y in
      let there : q < length y.regs = let c = b.count in omega arith in
      let h2 : Change = signed_change d v in
      let f2 : done (moving true d q) y1 ≡ Ok h2 = moves_done d q v y1 (read_set y q (plain v) there) ∙ even_done h2 p.0 in
      let t2 = twice_settles (moving true d q) no_ends y1 h2 refl (moving_apart true d q lt dq) t1.clear f2 in
      let near = near_applied (only q) h2 y y1 (near_lost (only q) y q (plain v) (same_number q)) in
      subst (λ (h : Change). Done end (done (multiplying false q n m) ∷ done (moving true d q) ∷ []) q y h) p.1
      (applied h2 y1, record { out = Falls; chain = inl (y1, t1, inl (applied h2 y1, t2, (refl, refl))); there = refl }, near_same (only q) (applied h2 y) (applied h2 y1) near t2.clear);
  rests = λ y b t. absurd cc;
  halts = λ y b t e. absurd (product_calm d n m y e);
}

-- A copy of the base, and what reads the copy in place of the base.
module _ (n q : ℕ) (i j : Instr) (beside : IsBeside n q) (on : goes_on_always j ≡ true) (apart : IsApart j) where
  copied : (end : ℕ) (y : Core) (h : Change) → Begins y → h.exit ≡ Falls → done j (applied (writing ((q, read y n) ∷ [])) y) ≡ Ok h → Done end (done (moving false q n) ∷ done j ∷ []) q y h
  copied end y h b falls m =
      let h1 : Change = writing ((q, read y n) ∷ []) in
      let t1 = twice_settles (moving false q n) no_ends y h1 refl (moving_away q n beside.low beside.apart beside.base) b.clear (move_low q n y beside.low) in
      let y1 : Core = applied h1 y in
      let t2 = twice_settles j no_ends y1 h on apart t1.clear m in
      let near = near_applied (only q) h y y1 (near_lost (only q) y q (read y n) (same_number q)) in
      (applied h y1, record { out = Falls; chain = inl (y1, t1, inl (applied h y1, t2, (refl, refl))); there = ap (goes_on end) (sym falls) }, near_same (only q) (applied h y) (applied h y1) near t2.clear)

loading_apart : (down : Bool) (n : ℕ) (list : RegSet) → has list.0 n ≡ false → IsApart (loading down n list)
unfolding reads_of writes_of sets_flags_of
loading_apart down n list h = record {
  regs = λ k e. let is : k ≡ n = eqb-true k n (one (k == n) e) in let f : has list.0 k ≡ false = ap (λ r. has list.0 r) is ∙ h in rw f refl;
  flags = λ k e. refl;
}
  where
    one : (b : Bool) → (b || false) ≡ true → b ≡ true
    one true e = refl
    one false e = e

-- by the value of its base alone
loading_by : (down : Bool) (n q : ℕ) (list : RegSet) (x y : Core) → value x q ≡ value y n → x.memory ≡ y.memory → done (loading down q list) x ≡ done (loading down n list) y
unfolding meant change
loading_by down n q list x y v m =
    let bytes : ℕ = transfer_size list.0 false in
    ap (λ a. on_words x.memory (lowest down a bytes) bytes (and_next (upright (transferred true (lowest down a bytes) (registers list.0) x)) (λ h. Ok h))) v
    ∙ ap (λ m. on_words m (lowest down (value y n) bytes) bytes (and_next (upright (transferred true (lowest down (value y n) bytes) (registers list.0) (record y { memory = m }))) (λ h. Ok h))) m

pair_loading_by : (t u n q : ℕ) (up : Bool) (imm : ℕ) (x y : Core) → value x q ≡ value y n → x.memory ≡ y.memory → done (pair_loading t u q up imm) x ≡ done (pair_loading t u n up imm) y
unfolding meant change
pair_loading_by t u n q up imm x y v m = let e = v in let f = m in cc

calm_list : (down : Bool) (n : ℕ) (list : RegSet) (y : Core) → done (loading down n list) y ≡ Err fault.Trap → ⊥
unfolding meant
calm_list down n list y e = change_never_traps (loading down n list) nowhere y refl e

calm_pair : (t u n : ℕ) (up : Bool) (imm : ℕ) (y : Core) → done (pair_loading t u n up imm) y ≡ Err fault.Trap → ⊥
unfolding meant
calm_pair t u n up imm y e = change_never_traps (pair_loading t u n up imm) nowhere y refl e

copy_held : (n q : ℕ) (y : Core) → IsBeside n q → Begins y → value (applied (writing ((q, read y n) ∷ [])) y) q ≡ value y n
copy_held n q y s b = let there : q < length y.regs = let c = b.count in let l = s.low in omega arith in ap (λ w. w.bits) (read_set y q (read y n) there)

pub base_copy_list_is_done : BaseCopyListCarries
base_copy_list_is_done down n q end list s o = record {
  acts = λ y h b t m.
      copied n q (loading down n list) (loading down q list) s refl (loading_apart down q list o) end y h b (meant_quiet (loading down n list) no_ends y h refl m).falls
      (loading_by down n q list (applied (writing ((q, read y n) ∷ [])) y) y (copy_held n q y s b) refl ∙ m);
  rests = λ y b t. absurd cc;
  halts = λ y b t e. absurd (calm_list down n list y e);
}

pair_loading_apart : (t u n : ℕ) (up : Bool) (imm : ℕ) → t ≢ n → u ≢ n → IsApart (pair_loading t u n up imm)
unfolding reads_of writes_of sets_flags_of
pair_loading_apart t u n up imm a b = record {
  regs = λ k e.
      let is : k ≡ n = eqb-true k n (one (k == n) e) in
      let f : (k == t) ≡ false = ne_eqb k t (λ (s : k ≡ t). a (sym s ∙ is)) in
      let g : (k == u) ≡ false = ne_eqb k u (λ (s : k ≡ u). b (sym s ∙ is)) in
      none (k == t) (k == u) f g;
  flags = λ k e. refl;
}
  where
    one : (b : Bool) → (b || false) ≡ true → b ≡ true
    one true e = refl
    one false e = e

    none : (a b : Bool) → a ≡ false → b ≡ false → ((a || b) || false) ≡ false
    none a b e f = rw (e, f) refl

pub base_copy_pair_is_done : BaseCopyPairCarries
base_copy_pair_is_done t u n q imm end up s tq uq = record {
  acts = λ y h b tt' m.
      copied n q (pair_loading t u n up imm) (pair_loading t u q up imm) s refl (pair_loading_apart t u q up imm tq uq) end y h b (meant_quiet (pair_loading t u n up imm) no_ends y h refl m).falls
      (pair_loading_by t u n q up imm (applied (writing ((q, read y n) ∷ [])) y) y (copy_held n q y s b) refl ∙ m);
  rests = λ y b k. absurd cc;
  halts = λ y b k e. absurd (calm_pair t u n up imm y e);
}

one_parts : (n : ℕ) (list : RegSet) (y : Core) (h : Change) → registers list.0 ≡ n ∷ [] → done (loading false n list) y ≡ Ok h → Moved (lies_in y.memory (wrapped (value y n)) 4) (wrapped (value y n) % 4 == 0) (accessed Ldr n (wrapped (value y n)) y) h
unfolding meant change
one_parts n list y h is e =
    let g : Change = accessed Ldr n (wrapped (value y n)) y in
    let k : on_words y.memory (wrapped (value y n)) 4 (and_next (upright g) (λ h. Ok h)) ≡ Ok h = subst (λ rs. on_words y.memory (wrapped (value y n)) (4 * (length rs + 0)) (and_next (upright (transferred true (wrapped (value y n)) rs y)) (λ h. Ok h)) ≡ Ok h) is e in
    moved_through (lies_in y.memory (wrapped (value y n)) 4) (wrapped (value y n) % 4 == 0) g h (ap (λ o. on_words y.memory (wrapped (value y n)) 4 o) (next_same (upright g)) ∙ k)
  where
    next_same : (o : Outcome) → o ≡ and_next o (λ h. Ok h)
    next_same (Ok g) = refl
    next_same (Err k) = refl

pub base_copy_one_is_done : BaseCopyOneCarries
base_copy_one_is_done n q end list s is = record {
  acts = λ y h b t m.
      let p = one_parts n list y h is m in
      copied n q (loading false n list) (access_at Ldr n q) s refl (access_apart Ldr n q s.apart) end y h b (meant_quiet (loading false n list) no_ends y h refl m).falls
      (access_step Ldr n q (wrapped (value y n)) (applied (writing ((q, read y n) ∷ [])) y) y (ap wrapped (copy_held n q y s b)) refl (λ e. absurd cc) p.lies p.even ∙ ap (λ (h : Change). Ok h) p.made);
  rests = λ y b t. absurd cc;
  halts = λ y b t e. absurd (calm_list false n list y e);
}
