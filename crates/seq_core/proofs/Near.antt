-- Cores that are the same but for registers that are lost.
use Rattle.std.proofs.Common.{◌≡◌, ℕ, ◌<◌, ◌≤◌, ⊎_elim, Bool, true, false, List, [], ◌∷◌, length, refl, sym, ap, ◌∙◌, subst, arith, get_or, get_or-set_same, get_or-set_other, length-set}
use Rattle.std.proofs.lemmas.Bool.{cases_lt}
use Rattle.std.proofs.lemmas.List.{get_or_past}
use Rattle.mark_word.specs.Words.{Word, plain}
use Rattle.thumb_instr.specs.declared.instructions.Instr.{Instr}
use Rattle.thumb_instr.specs.Sets.{reads_of}
use Rattle.thumb_table.specs.States.{Core, Change, read, applied, write_all, or_old}
use Rattle.thumb_table.specs.Effects.{writing}
use Rattle.seq_core.specs.Does.{SameBut}
use Rattle.seq_core.specs.Reading.{SameReads}
use Rattle.seq_core.proofs.Again.{write_length, write_found, found}

pub record Near (loses : ℕ → Bool) (old new : Core) : Type 0 where
  pub count : length new.regs ≡ length old.regs
  pub regs : (k : ℕ) → loses k ≡ false → read new k ≡ read old k
  pub n : new.n ≡ old.n
  pub z : new.z ≡ old.z
  pub c : new.c ≡ old.c
  pub v : new.v ≡ old.v
  pub memory : new.memory ≡ old.memory

pub near_self : (loses : ℕ → Bool) (x : Core) → Near loses x x
near_self loses x = record { count = refl; regs = λ k e. refl; n = refl; z = refl; c = refl; v = refl; memory = refl }

pub near_of : (loses : ℕ → Bool) (x y : Core) → x ≡ y → Near loses x y
near_of loses x y e = subst (λ q. Near loses x q) e (near_self loses x)

pub near_through : (loses : ℕ → Bool) (x y z : Core) → Near loses x y → Near loses y z → Near loses x z
near_through loses x y z a b = record {
  count = b.count ∙ a.count;
  regs = λ k e. b.regs k e ∙ a.regs k e;
  n = b.n ∙ a.n;
  z = b.z ∙ a.z;
  c = b.c ∙ a.c;
  v = b.v ∙ a.v;
  memory = b.memory ∙ a.memory;
}

-- a write to a register that is lost
pub near_lost : (loses : ℕ → Bool) (x : Core) (q : ℕ) (w : Word) → loses q ≡ true → Near loses x (applied (writing ((q, w) ∷ [])) x)
near_lost loses x q w l = record {
  count = length-set x.regs q w;
  regs = λ k e. get_or-set_other x.regs q k w (plain 0) (λ same. let b = ap loses same in absurd cc);
  n = refl;
  z = refl;
  c = refl;
  v = refl;
  memory = refl;
}

pub regs_near : (ws : List (ℕ × Word)) (r s : List Word) (k : ℕ) → length s ≡ length r → get_or s k (plain 0) ≡ get_or r k (plain 0) → get_or (write_all ws s) k (plain 0) ≡ get_or (write_all ws r) k (plain 0)
regs_near ws r s k l e = ⊎_elim
    (λ (lt : k < length r). write_found ws s k (omega (arith, l)) ∙ ap (λ w. found (plain 0) (λ j. j) ws k w) e ∙ sym (write_found ws r k lt))
    (λ (le : length r ≤ k).
    let a = write_length ws r in
    let b = write_length ws s in
    get_or_past (write_all ws s) k (plain 0) (omega (arith, a, b, l)) ∙ sym (get_or_past (write_all ws r) k (plain 0) (omega (arith, a))))
    (cases_lt k (length r))

-- the same change on both
pub near_applied : (loses : ℕ → Bool) (h : Change) (x z : Core) → Near loses x z → Near loses (applied h x) (applied h z)
near_applied loses h x z a = record {
  count = write_length h.regs z.regs ∙ a.count ∙ sym (write_length h.regs x.regs);
  regs = λ k e. regs_near h.regs x.regs z.regs k a.count (a.regs k e);
  n = ap (λ b. or_old h.n b) a.n;
  z = ap (λ b. or_old h.z b) a.z;
  c = ap (λ b. or_old h.c b) a.c;
  v = ap (λ b. or_old h.v b) a.v;
  memory = let m = a.memory in cc;
}

-- an instruction that reads nothing that is lost sees no difference
pub near_reads : (loses : ℕ → Bool) (i : Instr) (x z : Core) → ((k : ℕ) → reads_of i k ≡ true → loses k ≡ false) → Near loses x z → SameReads i z x
near_reads loses i x z r a = record {
  regs = λ k e. a.regs k (r k e);
  flags = record { n = λ e. a.n; z = λ e. a.z; c = λ e. a.c; v = λ e. a.v };
  memory = a.memory;
}

pub near_same : (loses : ℕ → Bool) (x z : Core) → Near loses x z → z.it ≡ 0 → SameBut loses x z
near_same loses x z a it = record {
  count = a.count;
  members = λ k e. record {
    word = λ b. ap (λ w. w.bits) (sym (a.regs k e));
    n = λ b. sym a.n;
    z = λ b. sym a.z;
    c = λ b. sym a.c;
    v = λ b. sym a.v;
  };
  memory = sym a.memory;
  clear = it;
}

pub read_set : (x : Core) (q : ℕ) (w : Word) → q < length x.regs → read (applied (writing ((q, w) ∷ [])) x) q ≡ w
read_set x q w lt = get_or-set_same x.regs q w (plain 0) lt

-- more may be lost
pub near_more : (loses more : ℕ → Bool) (x z : Core) → ((k : ℕ) → more k ≡ false → loses k ≡ false) → Near loses x z → Near more x z
near_more loses more x z f a = record { count = a.count; regs = λ k e. a.regs k (f k e); n = a.n; z = a.z; c = a.c; v = a.v; memory = a.memory }
