-- Two changes that are the same up to the addresses of code, and what is made of them.
use Rattle.std.proofs.Common.{◌≡◌, ℕ, Bool, true, false, List, [], ◌∷◌, Option, Some, Ok, Err, refl, sym, ap, subst, IsTrue}
use Rattle.std.specs.Prelude.{◌==◌, not, ⊤, if◌then◌else◌}
use Rattle.std.specs.List.{list_any}
use Rattle.std.proofs.lemmas.Bool.{eq-eqb}
use Rattle.mark_word.specs.declared.marks.Mark.TheVariants.{Plain}
use Rattle.mark_word.specs.Words.{Word, Cell, is_word}
use Rattle.thumb_instr.specs.declared.places.Place.{Place}
use Rattle.thumb_instr.specs.declared.places.Place.TheVariants.{Offset, Pre, Post, Index}
use Rattle.thumb_instr.specs.declared.instructions.Instr.{Instr}
use Rattle.thumb_table.specs.declared.faults.FaultKind.{FaultKind}
use Rattle.thumb_table.specs.declared.faults.FaultKind.TheVariants.{BadStack}
use Rattle.thumb_table.specs.States.{Core, read, Change, Outcome, Exit, Falls, Jumps, upright, unchanged, is_askew}
use Rattle.thumb_table.specs.Values.{Computed, is_negative}
use Rattle.thumb_table.specs.Effects.{with_flags, with_carry, with_sign, writing, plain_write, two_words, after_base, base_write, base_moved, branch_if, transferred}
use Rattle.thumb_table.specs.Ordinary.{AreWhole}
use Rattle.sim_charts.specs.Words.{SameWord, SameMemory}
use Rattle.sim_steps.proofs.Following.{Lawful}
use Rattle.sim_charts.specs.Changes.{SameWrites, SameStores, AreWords, AreCells, SameKind, SameChange}
use Rattle.sim_charts.specs.Words.{IsMarked}
use Rattle.sim_steps.proofs.Following.{SameTarget, Follows, jumped}
use Rattle.seq_core.proofs.Lists.{Each}
use Rattle.sim_steps.proofs.Words.{all_upright}
use Rattle.sim_steps.proofs.Memories.{loaded_same, loaded_words, stored_same, stored_cells, append_writes, append_words}
use Rattle.seq_core.proofs.Written.{upright_is}

pub record Pairs (t : Lawful) (g k : Change) : Type 0 where
  pub same : SameChange t.taking g k
  pub words : AreWords g.regs
  pub cells : AreCells g.cells

pub kind_same : (e : Exit) → SameKind e e
kind_same Falls = tt
kind_same (Jumps a) = tt

-- ---- numbers alone

abbrev pub AllPlain : List (ℕ × Word) → Type 0
AllPlain [] = ⊤
AllPlain (p ∷ ps) = (p.1.mark ≡ Plain) × AllPlain ps

pub record IsFlat (h : Change) : Type 0 where
  pub regs : AllPlain h.regs
  pub cells : h.cells ≡ []

plain_same : (t : Lawful) (w : Word) → w.mark ≡ Plain → SameWord t.taking w w
plain_same t w e = rw e refl

pub plain_writes : (t : Lawful) (ps : List (ℕ × Word)) → AllPlain ps → SameWrites t.taking ps ps
plain_writes t [] a = tt
plain_writes t (p ∷ ps) a = (refl, plain_same t p.1 a.0, plain_writes t ps a.1)

plain_is : (w : Word) → w.mark ≡ Plain → IsTrue (is_word w)
plain_is w e = rw e (eq-eqb w.bits w.bits refl)

pub plain_words : (ps : List (ℕ × Word)) → AllPlain ps → AreWords ps
plain_words [] a = tt
plain_words (p ∷ ps) a = (plain_is p.1 a.0, plain_words ps a.1)

pub flat_same : (t : Lawful) (h : Change) → IsFlat h → SameChange t.taking h h
flat_same t h f = record { regs = plain_writes t h.regs f.regs; n = refl; z = refl; c = refl; v = refl; cells = subst (λ c. SameStores t.taking c c) (sym f.cells) tt; it = refl; exit = kind_same h.exit }

pub flat_number : (d n : ℕ) → IsFlat (plain_write d n)
flat_number d n = record { regs = (refl, tt); cells = refl }

pub flat_two : (lo hi n : ℕ) → IsFlat (two_words lo hi n)
flat_two lo hi n = record { regs = (refl, (refl, tt)); cells = refl }

pub flat_flags : (s : Bool) (r : Computed) (h : Change) → IsFlat h → IsFlat (with_flags s r h)
flat_flags true r h f = record { regs = f.regs; cells = f.cells }
flat_flags false r h f = f

pub flat_sign : (s : Bool) (n : ℕ) (h : Change) → IsFlat h → IsFlat (with_sign s n h)
flat_sign true n h f = record { regs = f.regs; cells = f.cells }
flat_sign false n h f = f

abbrev pub NoTarget : Lawful → Instr → Core → Core → Type 0
NoTarget t i x y = (e f : Exit) → SameTarget t.taking (jumped i x) (jumped i y) e f

pub flat_pairs : (t : Lawful) (h : Change) → IsFlat h → Pairs t h h
flat_pairs t h f = record { same = flat_same t h f; words = plain_words h.regs f.regs; cells = subst AreCells (sym f.cells) tt }

-- the same outcome, of numbers alone
pub number_follows : (t : Lawful) (i : Instr) (x y : Core) (g h : Change) (o : Outcome) → NoTarget t i x y → IsFlat g → g ≡ h → o ≡ Ok h → Follows t.taking i x y h o
number_follows t i x y g h o n f e p = record {
  change = h;
  comes = p;
  same = subst (λ c. SameChange t.taking c c) e (flat_same t g f);
  words = subst (λ c. AreWords c.regs) e (plain_words g.regs f.regs);
  cells = subst (λ c. AreCells c.cells) e (subst AreCells (sym f.cells) tt);
  target = n h.exit h.exit;
}

-- ---- sp stays upright

even_if : (b : Bool) (k : FaultKind) (g h : Change) → (if b then Err k else Ok g) ≡ Ok h → b ≡ false
even_if true k g h e = cc
even_if false k g h e = refl

pub upright_other : (t : Lawful) (g k h : Change) → Pairs t g k → upright g ≡ Ok h → upright k ≡ Ok k
upright_other t g k h p e =
    let a : list_any is_askew g.regs ≡ false = even_if (list_any is_askew g.regs) BadStack g h e in
    let b : list_any is_askew k.regs ≡ false = all_upright t g.regs k.regs p.words p.same.regs a in
    ap (λ b. if b then Err BadStack else Ok k) b

-- an outcome that is already known
abbrev pub known_follows : (t : Lawful) (i : Instr) (x y : Core) (g k h : Change) (o : Outcome) → NoTarget t i x y → Pairs t g k → g ≡ h → o ≡ Ok k → Follows t.taking i x y h o
known_follows t i x y g k h o n s e p = record {
  change = k;
  comes = p;
  same = subst (λ c. SameChange t.taking c k) e s.same;
  words = subst (λ c. AreWords c.regs) e s.words;
  cells = subst (λ c. AreCells c.cells) e s.cells;
  target = n h.exit k.exit;
}

pub upright_follows : (t : Lawful) (i : Instr) (x y : Core) (g k h : Change) → NoTarget t i x y → Pairs t g k → upright g ≡ Ok h → Follows t.taking i x y h (upright k)
upright_follows t i x y g k h n p e = known_follows t i x y g k h (upright k) n p (upright_is g h e) (upright_other t g k h p e)

-- ---- changes of words

pub one_pairs : (t : Lawful) (s : Bool) (d : ℕ) (w v : Word) (b c : Option Bool) → SameWord t.taking w v → IsTrue (is_word w) → b ≡ c → (s ≡ true → is_negative w.bits ≡ is_negative v.bits) → (s ≡ true → (w.bits == 0) ≡ (v.bits == 0)) → Pairs t (with_carry s w.bits b (writing ((d, w) ∷ []))) (with_carry s v.bits c (writing ((d, v) ∷ [])))
one_pairs t true d w v b c s k e n z = record { same = record { regs = (refl, s, tt); n = ap Some (n refl); z = ap Some (z refl); c = e; v = refl; cells = tt; it = refl; exit = tt }; words = (k, tt); cells = tt }
one_pairs t false d w v b c s k e n z = record { same = record { regs = (refl, s, tt); n = refl; z = refl; c = refl; v = refl; cells = tt; it = refl; exit = tt }; words = (k, tt); cells = tt }

pub written_pairs : (t : Lawful) (d : ℕ) (w v : Word) → SameWord t.taking w v → IsTrue (is_word w) → Pairs t (writing ((d, w) ∷ [])) (writing ((d, v) ∷ []))
written_pairs t d w v s k = record { same = record { regs = (refl, s, tt); n = refl; z = refl; c = refl; v = refl; cells = tt; it = refl; exit = tt }; words = (k, tt); cells = tt }

pub cells_pairs : (t : Lawful) (a b : List (ℕ × Cell)) → SameStores t.taking a b → AreCells a → Pairs t (record unchanged { cells = a }) (record unchanged { cells = b })
cells_pairs t a b s k = record { same = record { regs = tt; n = refl; z = refl; c = refl; v = refl; cells = s; it = refl; exit = tt }; words = tt; cells = k }

pub base_pairs : (t : Lawful) (b c : List (ℕ × Word)) (g k : Change) → AllPlain b → b ≡ c → Pairs t g k → Pairs t (after_base b g) (after_base c k)
base_pairs t b c g k a e p = record {
  same = record {
    regs = append_writes t b c g.regs k.regs (subst (λ l. SameWrites t.taking b l) e (plain_writes t b a)) p.same.regs;
    n = p.same.n;
    z = p.same.z;
    c = p.same.c;
    v = p.same.v;
    cells = p.same.cells;
    it = p.same.it;
    exit = p.same.exit;
  };
  words = append_words b g.regs (plain_words b a) p.words;
  cells = p.cells;
}

pub base_plain : (n : ℕ) (l : Place) (x : Core) → AllPlain (base_write n l x)
base_plain n (Offset up imm) x = tt
base_plain n (Pre up imm) x = (refl, tt)
base_plain n (Post up imm) x = (refl, tt)
base_plain n (Index m shift) x = tt

pub moved_plain : (back down : Bool) (n b bytes : ℕ) → AllPlain (base_moved back down n b bytes)
moved_plain true down n b bytes = (refl, tt)
moved_plain false down n b bytes = tt

pub branch_pairs : (t : Lawful) (b : Bool) (a c : ℕ) → Pairs t (branch_if b a) (branch_if b c)
branch_pairs t true a c = record { same = record { regs = tt; n = refl; z = refl; c = refl; v = refl; cells = tt; it = refl; exit = tt }; words = tt; cells = tt }
branch_pairs t false a c = record { same = record { regs = tt; n = refl; z = refl; c = refl; v = refl; cells = tt; it = refl; exit = tt }; words = tt; cells = tt }

pub transferred_pairs : (t : Lawful) (load : Bool) (a : ℕ) (rs : List ℕ) (x y : Core) → SameMemory t.taking x.memory y.memory → IsMarked x → (load ≡ true → AreWhole x.memory a rs) → (load ≡ false → Each (λ r. SameWord t.taking (read x r) (read y r)) rs) → Pairs t (transferred load a rs x) (transferred load a rs y)
transferred_pairs t true a rs x y s c w e = record {
  same = record { regs = loaded_same t x.memory y.memory s c.cells a rs (w refl); n = refl; z = refl; c = refl; v = refl; cells = tt; it = refl; exit = tt };
  words = loaded_words t x.memory y.memory s c.cells a rs (w refl);
  cells = tt;
}
transferred_pairs t false a rs x y s c w e = cells_pairs t _ _ (stored_same t x y a rs (e refl)) (stored_cells x c.words a rs)

-- under a test that is the same
pub if_follows : (t : Lawful) (i : Instr) (x y : Core) (h : Change) (b c : Bool) (kind : FaultKind) (o p : Outcome) → c ≡ b → (o ≡ Ok h → Follows t.taking i x y h p) → (if b then o else Err kind) ≡ Ok h → Follows t.taking i x y h (if c then p else Err kind)
if_follows t i x y h b c kind o p q f e = subst (λ d. Follows t.taking i x y h (if d then p else Err kind)) (sym q) (go b e)
  where
    go : (b : Bool) → (if b then o else Err kind) ≡ Ok h → Follows t.taking i x y h (if b then p else Err kind)
    go true e = f e
    go false e = cc

pub unless_follows : (t : Lawful) (i : Instr) (x y : Core) (h : Change) (b c : Bool) (kind : FaultKind) (o p : Outcome) → c ≡ b → (o ≡ Ok h → Follows t.taking i x y h p) → (if not b then Err kind else o) ≡ Ok h → Follows t.taking i x y h (if not c then Err kind else p)
unless_follows t i x y h b c kind o p q f e = subst (λ d. Follows t.taking i x y h (if not d then Err kind else p)) (sym q) (go b e)
  where
    go : (b : Bool) → (if not b then Err kind else o) ≡ Ok h → Follows t.taking i x y h (if not b then Err kind else p)
    go true e = f e
    go false e = cc
