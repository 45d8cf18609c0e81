-- Changes that are alike leave cores that are the same.
use Rattle.std.proofs.Common.{◌≡◌, ◌≢◌, ℕ, ◌-◌, ◌<◌, ◌⊎◌, inl, inr, ⊎_elim, Bool, true, false, List, [], ◌∷◌, length, Option, Some, None, refl, sym, ap, ◌∙◌, subst, arith, IsTrue, get_or, set, length-set}
use Rattle.std.specs.Prelude.{◌==◌, is_some}
use Rattle.std.proofs.lemmas.Bool.{cases_eq, cases_lt, ne_eqb, or_from}
use Rattle.std.proofs.lemmas.List.{get_or_past, get_or-set_same, get_or-set_other}
use Rattle.mark_word.specs.Words.{Word, Cell, plain, bare, is_word, is_cell}
use Rattle.thumb_instr.specs.declared.instructions.Instr.{Instr}
use Rattle.thumb_table.specs.Parts.{Memory}
use Rattle.thumb_table.specs.States.{Core, Change, applied, write_all, store_all, or_old}
use Rattle.seq_core.specs.Reading.{is_written}
use Rattle.sim_charts.specs.Charts.{Chart, sets_of}
use Rattle.sim_charts.specs.Words.{Taking, SameWord, SameCell, SameMemory, IsMarked}
use Rattle.sim_charts.specs.Alike.{SameMember, AreSound, by_chart}
use Rattle.sim_charts.specs.Changes.{SameWrites, SameStores, AreWords, AreCells, SameChange}

-- ---- lists

length_set : {X : Type 0} (l : List X) (i : ℕ) (a : X) → length (set l i a) ≡ length l
length_set l i a = simp length-set

-- a place of a list that is written
after_set : {X : Type 0} (P : X → Type 0) (l : List X) (i j : ℕ) (a d : X) → (j ≡ i → P a) → (j ≢ i → P (get_or l j d)) → P d → P (get_or (set l i a) j d)
after_set P l i j a d p q r = elim (cases_eq j i) [
  | inl e ↦ elim (cases_lt i (length l)) [
    | inl h ↦ subst P (sym (ap (λ j. get_or (set l i a) j d) e ∙ get_or-set_same l i a d h)) (p e)
    | inr h ↦ subst P (sym (get_or_past (set l i a) j d (let z = length_set l i a in omega arith))) r
  ]
  | inr n ↦ subst P (sym (get_or-set_other l i j a d n)) (q n)
]

-- the same of two lists of one length
after_both : {X : Type 0} (R : X → X → Type 0) (l m : List X) (i j : ℕ) (a b d : X) → length m ≡ length l → (j ≡ i → R a b) → (j ≢ i → R (get_or l j d) (get_or m j d)) → R d d → R (get_or (set l i a) j d) (get_or (set m i b) j d)
after_both R l m i j a b d z p q r = elim (cases_eq j i) [
  | inl e ↦ elim (cases_lt i (length l)) [
    | inl h ↦
        subst (λ v. R v (get_or (set m i b) j d)) (sym (ap (λ j. get_or (set l i a) j d) e ∙ get_or-set_same l i a d h))
        (subst (λ v. R a v) (sym (ap (λ j. get_or (set m i b) j d) e ∙ get_or-set_same m i b d (omega arith))) (p e))
    | inr h ↦
        subst (λ v. R v (get_or (set m i b) j d)) (sym (get_or_past (set l i a) j d (let z = length_set l i a in omega arith)))
        (subst (λ v. R d v) (sym (get_or_past (set m i b) j d (let k = length_set m i b in omega arith))) r)
  ]
  | inr n ↦
      subst (λ v. R v (get_or (set m i b) j d)) (sym (get_or-set_other l i j a d n))
      (subst (λ v. R (get_or l j d) v) (sym (get_or-set_other m i j b d n)) (q n))
]

-- ---- registers

pub written_length : (ws : List (ℕ × Word)) (rs : List Word) → length (write_all ws rs) ≡ length rs
written_length [] rs = refl
written_length (w ∷ ws) rs = written_length ws (set rs w.0 w.1) ∙ length_set rs w.0 w.1

-- what is written is the same, and what was
written_same : (t : Taking) (ws vs : List (ℕ × Word)) (rs qs : List Word) (r : ℕ) → SameWrites t ws vs → length qs ≡ length rs → (is_written r ws ≡ false → SameWord t (get_or rs r (plain 0)) (get_or qs r (plain 0))) → SameWord t (get_or (write_all ws rs) r (plain 0)) (get_or (write_all vs qs) r (plain 0))
written_same t [] [] rs qs r s z h = h refl
written_same t [] (v ∷ vs) rs qs r s z h = absurd s
written_same t (w ∷ ws) [] rs qs r s z h = absurd s
written_same t (w ∷ ws) (v ∷ vs) rs qs r s z h =
    written_same t ws vs (set rs w.0 w.1) (set qs v.0 v.1) r s.2 (length_set qs v.0 v.1 ∙ z ∙ sym (length_set rs w.0 w.1))
    (λ f. subst (λ n. SameWord t (get_or (set rs w.0 w.1) r (plain 0)) (get_or (set qs n v.1) r (plain 0))) s.0
    (after_both (λ a b. SameWord t a b) rs qs w.0 r w.1 v.1 (plain 0) z (λ e. s.1) (λ n. h (or_from (w.0 == r) _ (ne_eqb w.0 r (λ e. n (sym e))) f)) refl))

written_words : (ws : List (ℕ × Word)) (rs : List Word) → AreWords ws → ((r : ℕ) → IsTrue (is_word (get_or rs r (plain 0)))) → (r : ℕ) → IsTrue (is_word (get_or (write_all ws rs) r (plain 0)))
written_words [] rs k h r = h r
written_words (w ∷ ws) rs k h r = written_words ws (set rs w.0 w.1) k.1 (λ r. after_set (λ a. IsTrue (is_word a)) rs w.0 r w.1 (plain 0) (λ e. k.0) (λ n. h r) refl) r

-- ---- memory

stored_length : (b : ℕ) (ws : List (ℕ × Cell)) (cs : List Cell) → length (store_all b ws cs) ≡ length cs
stored_length b [] cs = refl
stored_length b (w ∷ ws) cs = stored_length b ws (set cs (w.0 - b) w.1) ∙ length_set cs (w.0 - b) w.1

stored_same : (t : Taking) (b : ℕ) (ws vs : List (ℕ × Cell)) (cs ds : List Cell) (k : ℕ) → SameStores t ws vs → length ds ≡ length cs → ((k : ℕ) → SameCell t (get_or cs k (bare 0)) (get_or ds k (bare 0))) → SameCell t (get_or (store_all b ws cs) k (bare 0)) (get_or (store_all b vs ds) k (bare 0))
stored_same t b [] [] cs ds k s z h = h k
stored_same t b [] (v ∷ vs) cs ds k s z h = absurd s
stored_same t b (w ∷ ws) [] cs ds k s z h = absurd s
stored_same t b (w ∷ ws) (v ∷ vs) cs ds k s z h =
    stored_same t b ws vs (set cs (w.0 - b) w.1) (set ds (v.0 - b) v.1) k s.2 (length_set ds (v.0 - b) v.1 ∙ z ∙ sym (length_set cs (w.0 - b) w.1))
    (λ k. subst (λ n. SameCell t (get_or (set cs (w.0 - b) w.1) k (bare 0)) (get_or (set ds (n - b) v.1) k (bare 0))) s.0
    (after_both (λ a c. SameCell t a c) cs ds (w.0 - b) k w.1 v.1 (bare 0) z (λ e. s.1) (λ n. h k) refl))

every_cell : (t : Taking) (m l : Memory) → SameMemory t m l → (k : ℕ) → SameCell t (get_or m.cells k (bare 0)) (get_or l.cells k (bare 0))
every_cell t m l s k = elim (cases_lt k (length m.cells)) [
  | inl h ↦ s.cells k h
  | inr h ↦
      let z = s.size in
      subst (λ c. SameCell t c (get_or l.cells k (bare 0))) (sym (get_or_past m.cells k (bare 0) h))
      (subst (λ c. SameCell t (bare 0) c) (sym (get_or_past l.cells k (bare 0) (omega arith))) refl)
]

memory_same : (t : Taking) (m l : Memory) (ws vs : List (ℕ × Cell)) → SameMemory t m l → SameStores t ws vs → SameMemory t (record { base = m.base; cells = store_all m.base ws m.cells }) (record { base = l.base; cells = store_all l.base vs l.cells })
memory_same t m l ws vs s w = record {
  base = s.base;
  size = stored_length l.base vs l.cells ∙ s.size ∙ sym (stored_length m.base ws m.cells);
  cells = λ k lt. subst (λ b. SameCell t (get_or (store_all m.base ws m.cells) k (bare 0)) (get_or (store_all b vs l.cells) k (bare 0))) (sym s.base) (stored_same t m.base ws vs m.cells l.cells k w s.size (every_cell t m l s));
}

stored_cells : (b : ℕ) (ws : List (ℕ × Cell)) (cs : List Cell) → AreCells ws → ((k : ℕ) → IsTrue (is_cell (get_or cs k (bare 0)))) → (k : ℕ) → IsTrue (is_cell (get_or (store_all b ws cs) k (bare 0)))
stored_cells b [] cs h g k = g k
stored_cells b (w ∷ ws) cs h g k = stored_cells b ws (set cs (w.0 - b) w.1) h.1 (λ k. after_set (λ a. IsTrue (is_cell a)) cs (w.0 - b) k w.1 (bare 0) (λ e. h.0) (λ n. g k) refl) k

-- ---- cores

-- What an instruction sets is in its change, by members.
pub record Fills (i : Instr) (h : Change) : Type 0 where
  pub regs : (k : ℕ) → k < 15 → sets_of i k ≡ true → is_written k h.regs ≡ true
  pub n : sets_of i 16 ≡ true → is_some h.n ≡ true
  pub z : sets_of i 17 ≡ true → is_some h.z ≡ true
  pub c : sets_of i 18 ≡ true → is_some h.c ≡ true
  pub v : sets_of i 19 ≡ true → is_some h.v ≡ true

flag_same : (h g : Option Bool) (a b : Bool) → h ≡ g → (is_some h ≡ true) ⊎ (a ≡ b) → or_old h a ≡ or_old g b
flag_same (Some p) (Some q) a b e d = cc
flag_same (Some p) None a b e d = cc
flag_same None (Some q) a b e d = cc
flag_same None None a b e d = ⊎_elim (λ (x : false ≡ true). absurd cc) (λ x. x) d

-- what is set is the same, and what was the same before
pub members_alike : (chart : Chart) (i : Instr) (x y : Core) (h g : Change) → AreSound x y → Fills i h → SameChange (by_chart chart) h g →
    (k : ℕ) → (sets_of i k ≡ true) ⊎ SameMember chart k x y → SameMember chart k (applied h x) (applied g y)
members_alike chart i x y h g sound f s k d = record {
  word = λ b. written_same (by_chart chart) h.regs g.regs x.regs y.regs k s.regs (sound.hard ∙ sym sound.plain)
      (λ w. ⊎_elim (λ (l : sets_of i k ≡ true). let q = sym w ∙ f.regs k b l in absurd cc) (λ (m : SameMember chart k x y). m.word b) d);
  n = λ e. flag_same h.n g.n x.n y.n s.n (⊎_elim (λ (l : sets_of i k ≡ true). inl (f.n (subst (λ j. sets_of i j ≡ true) e l))) (λ (m : SameMember chart k x y). inr (m.n e)) d);
  z = λ e. flag_same h.z g.z x.z y.z s.z (⊎_elim (λ (l : sets_of i k ≡ true). inl (f.z (subst (λ j. sets_of i j ≡ true) e l))) (λ (m : SameMember chart k x y). inr (m.z e)) d);
  c = λ e. flag_same h.c g.c x.c y.c s.c (⊎_elim (λ (l : sets_of i k ≡ true). inl (f.c (subst (λ j. sets_of i j ≡ true) e l))) (λ (m : SameMember chart k x y). inr (m.c e)) d);
  v = λ e. flag_same h.v g.v x.v y.v s.v (⊎_elim (λ (l : sets_of i k ≡ true). inl (f.v (subst (λ j. sets_of i j ≡ true) e l))) (λ (m : SameMember chart k x y). inr (m.v e)) d);
}

pub memory_alike : (t : Taking) (x y : Core) (h g : Change) → SameStores t h.cells g.cells → SameMemory t x.memory y.memory → SameMemory t (applied h x).memory (applied g y).memory
memory_alike t x y h g s m = memory_same t x.memory y.memory h.cells g.cells m s

pub stays_marked : (x : Core) (h : Change) → AreWords h.regs → AreCells h.cells → IsMarked x → IsMarked (applied h x)
stays_marked x h w c m = record { words = written_words h.regs x.regs w m.words; cells = stored_cells x.memory.base h.cells x.memory.cells c m.cells }
