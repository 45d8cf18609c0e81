-- Pushes, pops, and other lists that move their base.
use Rattle.std.proofs.Common.{◌≡◌, ◌≢◌, ℕ, ◌+◌, ◌*◌, ◌%◌, ◌<◌, Bool, true, false, List, [], ◌∷◌, ◌++◌, length, Ok, Err, refl, sym, ap, ◌∙◌, subst, arith, ne_eqb, get_or-set_other}
use Rattle.std.specs.Prelude.{◌==◌, ◌||◌, ◌&&◌, not}
use Rattle.std.specs.List.{list_any}
use Rattle.std.proofs.lemmas.Bool.{eqb-true}
use Rattle.mark_word.specs.Words.{Cell, plain}
use Rattle.mark_word.specs.Marks.{pieces}
use Rattle.thumb_instr.specs.declared.operations.AccessOp.TheVariants.{Ldr, Str}
use Rattle.thumb_instr.specs.declared.register_sets.RegSet.{RegSet}
use Rattle.thumb_instr.specs.declared.instructions.Instr.{Instr}
use Rattle.thumb_instr.specs.Operands.{has}
use Rattle.thumb_instr.specs.Sets.{reads_of, writes_of, sets_flags_of}
use Rattle.thumb_table.specs.declared.faults.FaultKind.TheVariants as fault
use Rattle.thumb_table.specs.States.{Core, Change, Outcome, applied, read, is_askew, upright, unchanged}
use Rattle.thumb_table.specs.Values.{wrapped, moved}
use Rattle.thumb_table.specs.Effects.{change, value, writing, lies_in, on_words, and_next, transferred, accessed, registers, transfer_size, from}
use Rattle.seq_core.specs.Meanings.{meant, nowhere}
use Rattle.seq_core.specs.Apart.{goes_on_always, IsApart}
use Rattle.seq_core.specs.Groups.{done, moving}
use Rattle.seq_core.specs.Bases.{summing}
use Rattle.seq_core.specs.Stacks.{multi_at, transfer_at, moving_list, IsOutside, DownCarries, UpCarries}
use Rattle.seq_core.proofs.Tests.{here}
use Rattle.seq_core.proofs.Lists.{Each, each_has, each_map}
use Rattle.seq_core.proofs.Seen.{transferred_same}
use Rattle.seq_core.proofs.Meaning.{change_never_traps}
use Rattle.seq_core.proofs.Quiet.{transferred_quiet}
use Rattle.seq_core.proofs.Near.{read_set}
use Rattle.seq_core.proofs.Base.{even_done, base_first, base_behind, Done, with_base}
use Rattle.seq_core.proofs.Back.{alone, others_even, moved_small, stays_small, access_step, access_apart, access_unread, access_reads}
use Rattle.seq_core.proofs.Pairs.{Moved, moved_through, goes_through}

-- registers of a list are not those outside of it
pub Apart : ℕ → List ℕ → Type 0
Apart n rs = Each (λ r. r ≢ n) rs

pub outside : (list : RegSet) (n : ℕ) → has list.0 n ≡ false → Each (λ r. r ≢ n) (registers list.0)
outside list n e = each_map _ _ (registers list.0) (λ r h s. let k = ap (λ q. has list.0 q) s in absurd cc) (each_has list.0)

multi_apart : (load : Bool) (n : ℕ) (list : RegSet) → has list.0 n ≡ false → IsApart (multi_at load n list)
unfolding reads_of writes_of sets_flags_of
multi_apart false n list h = record { regs = λ k e. refl; flags = λ k e. refl }
multi_apart true n list h = record {
  regs = λ k e. let is : k ≡ n = eqb-true k n (one (k == n) e) in let f : has list.0 k ≡ false = ap (λ r. has list.0 r) is ∙ h in rw f refl;
  flags = λ k e. refl;
}
  where
    one : (b : Bool) → (b || false) ≡ true → b ≡ true
    one true e = refl
    one false e = e

multi_unread : (load : Bool) (n q : ℕ) (list : RegSet) → n ≢ q → has list.0 q ≡ false → reads_of (multi_at load n list) q ≡ false
unfolding reads_of
multi_unread load n q list a h = go load (q == n) (has list.0 q) (ne_eqb q n (λ s. a (sym s))) h
  where
    go : (l a b : Bool) → a ≡ false → b ≡ false → (a || (not l && b)) ≡ false
    go true a b e f = rw e refl
    go false a b e f = rw (e, f) refl

multi_reads : (load : Bool) (n : ℕ) (list : RegSet) → reads_of (multi_at load n list) n ≡ true
unfolding reads_of
multi_reads load n list = here n _

-- what a transfer needs: the registers that are stored are the same
abbrev Sees : Core → Core → List ℕ → Type 0
Sees x y rs = Each (λ r. read x r ≡ read y r) rs

multi_step : (load : Bool) (n a : ℕ) (list : RegSet) (x y : Core) → wrapped (value x n) ≡ a → x.memory ≡ y.memory → Sees x y (registers list.0) → lies_in y.memory a (transfer_size list.0 false) ≡ true → (a % 4 == 0) ≡ true → list_any is_askew (transferred load a (registers list.0) y).regs ≡ false →
    done (multi_at load n list) x ≡ Ok (transferred load a (registers list.0) y)
unfolding meant change
multi_step load n a list x y v m r l al e =
    ap (λ a. on_words x.memory a (transfer_size list.0 false) (and_next (upright (transferred load a (registers list.0) x)) (λ h. Ok h))) v
    ∙ ap (λ m. on_words m a (transfer_size list.0 false) (and_next (upright (transferred load a (registers list.0) x)) (λ h. Ok h))) m
    ∙ goes_through y.memory a (transfer_size list.0 false) (and_next (upright (transferred load a (registers list.0) x)) (λ h. Ok h)) l al
    ∙ ap (λ o. and_next o (λ h. Ok h)) (ap upright (transferred_same load a (registers list.0) x y m (λ e. r)) ∙ even_done (transferred load a (registers list.0) y) e)

-- a list of one register
one_loaded : (t a : ℕ) (y : Core) → accessed Ldr t a y ≡ transferred true a (t ∷ []) y
one_loaded t a y = refl

append_none : (l : List (ℕ × Cell)) → l ≡ l ++ []
append_none [] = refl
append_none (c ∷ l) = ap (λ r. c ∷ r) (append_none l)

one_stored : (t a : ℕ) (y : Core) → accessed Str t a y ≡ transferred false a (t ∷ []) y
one_stored t a y = ap (λ l. record unchanged { cells = l }) (append_none (from a (pieces (read y t))))

-- The transfer, by one instruction or the other.
pub record IsTransfer (load : Bool) (n q : ℕ) (list : RegSet) (rs : List ℕ) : Type 0 where
  pub on : goes_on_always (transfer_at load n list rs) ≡ true
  pub apart : IsApart (transfer_at load n list rs)
  pub unread : reads_of (transfer_at load n list rs) q ≡ false
  pub reads : reads_of (transfer_at load n list rs) n ≡ true
  pub does : (a : ℕ) (x y : Core) → wrapped (value x n) ≡ a → x.memory ≡ y.memory → Sees x y rs → lies_in y.memory a (transfer_size list.0 false) ≡ true → (a % 4 == 0) ≡ true → list_any is_askew (transferred load a rs y).regs ≡ false →
      done (transfer_at load n list rs) x ≡ Ok (transferred load a rs y)

module _ (load : Bool) (n q : ℕ) (list : RegSet) (ne : n ≢ q) (o : IsOutside n q list) where
  by_multi : (rs : List ℕ) → registers list.0 ≡ rs → transfer_at load n list rs ≡ multi_at load n list → IsTransfer load n q list rs
  by_multi rs is e = record {
    on = ap goes_on_always e;
    apart = subst IsApart (sym e) (multi_apart load n list o.base);
    unread = ap (λ i. reads_of i q) e ∙ multi_unread load n q list ne o.scratch;
    reads = ap (λ i. reads_of i n) e ∙ multi_reads load n list;
    does = subst (λ rs. (a : ℕ) (x y : Core) → wrapped (value x n) ≡ a → x.memory ≡ y.memory → Sees x y rs → lies_in y.memory a (transfer_size list.0 false) ≡ true → (a % 4 == 0) ≡ true → list_any is_askew (transferred load a rs y).regs ≡ false → done (transfer_at load n list rs) x ≡ Ok (transferred load a rs y)) is
        (λ a x y v m r l al ev. ap (λ i. done i x) (ap (λ rs. transfer_at load n list rs) is ∙ e) ∙ multi_step load n a list x y v m r l al ev);
  }

by_access : (load : Bool) (n q t : ℕ) (list : RegSet) → n ≢ q → registers list.0 ≡ t ∷ [] → t ≢ n → t ≢ q → IsTransfer load n q list (t ∷ [])
by_access true n q t list ne is tn tq = record {
  on = refl;
  apart = access_apart Ldr t n tn;
  unread = access_unread Ldr t n q ne tq;
  reads = access_reads Ldr t n;
  does = λ a x y v m r l al ev. access_step Ldr t n a x y v m (λ e. absurd cc) (sym (ap (λ rs. lies_in y.memory a (4 * (length rs + 0))) is) ∙ l) ev;
}
by_access false n q t list ne is tn tq = record {
  on = refl;
  apart = access_apart Str t n tn;
  unread = access_unread Str t n q ne tq;
  reads = access_reads Str t n;
  does = λ a x y v m r l al ev. access_step Str t n a x y v m (λ e. r.0) (sym (ap (λ rs. lies_in y.memory a (4 * (length rs + 0))) is) ∙ l) refl ∙ ap (λ g. Ok g) (one_stored t a y);
}

pub is_transfer : (load : Bool) (n q : ℕ) (list : RegSet) → n ≢ q → IsOutside n q list → IsTransfer load n q list (registers list.0)
is_transfer load n q list ne o = go (registers list.0) refl (outside list n o.base) (outside list q o.scratch)
  where
    go : (rs : List ℕ) → registers list.0 ≡ rs → Each (λ r. r ≢ n) rs → Each (λ r. r ≢ q) rs → IsTransfer load n q list rs
    go [] is h g = by_multi load n q list ne o [] is (plain_one load)
      where
        plain_one : (load : Bool) → transfer_at load n list [] ≡ multi_at load n list
        plain_one true = refl
        plain_one false = refl
    go (t ∷ []) is h g = by_access load n q t list ne is h.0 g.0
    go (t ∷ u ∷ rs) is h g = by_multi load n q list ne o (t ∷ u ∷ rs) is (plain_two load)
      where
        plain_two : (load : Bool) → transfer_at load n list (t ∷ u ∷ rs) ≡ multi_at load n list
        plain_two true = refl
        plain_two false = refl

down_parts : (load : Bool) (n : ℕ) (list : RegSet) (y : Core) (h : Change) → done (moving_list load true n list) y ≡ Ok h →
    let v : ℕ = moved false (value y n) (transfer_size list.0 false) in Moved (lies_in y.memory v (transfer_size list.0 false)) (v % 4 == 0) (with_base n v (transferred load v (registers list.0) y)) h
unfolding meant change
down_parts load n list y h e =
    let v : ℕ = moved false (value y n) (transfer_size list.0 false) in
    let g : Change = with_base n v (transferred load v (registers list.0) y) in
    moved_through (lies_in y.memory v (transfer_size list.0 false)) (v % 4 == 0) g h (ap (λ o. on_words y.memory v (transfer_size list.0 false) o) (next_same (upright g)) ∙ e)
  where
    next_same : (o : Outcome) → o ≡ and_next o (λ h. Ok h)
    next_same (Ok g) = refl
    next_same (Err k) = refl

up_parts : (load : Bool) (n : ℕ) (list : RegSet) (y : Core) (h : Change) → done (moving_list load false n list) y ≡ Ok h →
    let v : ℕ = moved true (value y n) (transfer_size list.0 false) in Moved (lies_in y.memory (wrapped (value y n)) (transfer_size list.0 false)) (wrapped (value y n) % 4 == 0) (with_base n v (transferred load (wrapped (value y n)) (registers list.0) y)) h
unfolding meant change
up_parts load n list y h e =
    let v : ℕ = moved true (value y n) (transfer_size list.0 false) in
    let g : Change = with_base n v (transferred load (wrapped (value y n)) (registers list.0) y) in
    moved_through (lies_in y.memory (wrapped (value y n)) (transfer_size list.0 false)) (wrapped (value y n) % 4 == 0) g h (ap (λ o. on_words y.memory (wrapped (value y n)) (transfer_size list.0 false) o) (next_same (upright g)) ∙ e)
  where
    next_same : (o : Outcome) → o ≡ and_next o (λ h. Ok h)
    next_same (Ok g) = refl
    next_same (Err k) = refl

list_calm : (load down : Bool) (n : ℕ) (list : RegSet) (y : Core) → done (moving_list load down n list) y ≡ Err fault.Trap → ⊥
unfolding meant
list_calm load down n list y e = change_never_traps (moving_list load down n list) nowhere y refl e

pub down_is_done : DownCarries
down_is_done load n q k end list beside o c = record {
  acts = λ y h b t m.
      let rs : List ℕ = registers list.0 in
      let v : ℕ = moved false (value y n) (transfer_size list.0 false) in
      let g : Change = transferred load v rs y in
      let i : Instr = transfer_at load n list rs in
      let p = down_parts load n list y h m in
      let s = is_transfer load n q list beside.apart o in
      let there : n < length y.regs = let l = beside.base in let l' = b.count in omega arith in
      let y1 : Core = applied (writing ((n, plain v) ∷ [])) y in
      let same : Sees y1 y rs = each_map _ _ rs (λ r ne. get_or-set_other y.regs n r (plain v) (plain 0) ne) (outside list n o.base) in
      let f = s.does v y1 y (ap (λ w. wrapped w.bits) (read_set y n (plain v) there) ∙ stays_small v (moved_small false (value y n) (transfer_size list.0 false))) refl same p.lies p.aligned (others_even (n, plain v) g.regs p.even) in
      subst (λ (h : Change). Done end (done (summing false q n k) ∷ done (moving false n q) ∷ done i ∷ []) q y h) p.made
      (base_first false n q k (transfer_size list.0 false) i y g beside c s.on s.apart s.unread (transferred_quiet load v rs y []).falls b (alone (n, plain v) g.regs p.even) end f);
  rests = λ y b t. absurd cc;
  halts = λ y b r e. absurd (list_calm load true n list y e);
}

pub up_is_done : UpCarries
up_is_done load n q k end list beside o c = record {
  acts = λ y h b t m.
      let rs : List ℕ = registers list.0 in
      let a : ℕ = wrapped (value y n) in
      let v : ℕ = moved true (value y n) (transfer_size list.0 false) in
      let g : Change = transferred load a rs y in
      let i : Instr = transfer_at load n list rs in
      let p = up_parts load n list y h m in
      let s = is_transfer load n q list beside.apart o in
      let same : Sees y y rs = each_map _ _ rs (λ r ne. refl) (outside list n o.base) in
      let f = s.does a y y refl refl same p.lies p.aligned (others_even (n, plain v) g.regs p.even) in
      subst (λ (h : Change). Done end (done i ∷ done (summing true q n k) ∷ done (moving false n q) ∷ []) q y h) p.made
      (base_behind true n q k (transfer_size list.0 false) i y g beside c s.on s.apart s.unread (transferred_quiet load a rs y []).falls b (alone (n, plain v) g.regs p.even) end s.reads f);
  rests = λ y b t. absurd cc;
  halts = λ y b r e. absurd (list_calm load false n list y e);
}
