-- A change that is carried out twice does what it does once; what it doesn't write stays.
use Rattle.std.proofs.Common.{◌≡◌, ◌≢◌, ℕ, ◌-◌, ◌<◌, ◌⊎◌, inl, inr, ⊎_elim, Bool, true, false, List, [], ◌∷◌, length, Option, Some, None, refl, sym, ap, ◌∙◌, arith, set, get_or, get_or-set_same, get_or-set_other, length-set, eq-eqb, ne_eqb}
use Rattle.std.specs.Prelude.{◌==◌, if◌then◌else◌, All}
use Rattle.std.proofs.lemmas.Bool.{cases_eq}
use Rattle.std.proofs.lemmas.List.{ext_get_or}
use Rattle.mark_word.specs.Words.{Word, Cell, plain, bare}
use Rattle.thumb_instr.specs.Blocks.{it_after}
use Rattle.thumb_table.specs.Parts.{Memory}
use Rattle.thumb_table.specs.States.{Core, Change, read, applied, write_all, store_all, or_old}
use Rattle.seq_core.proofs.Tests.{first, rest}

module _ {T : Type 0} (d : T) (place : ℕ → ℕ) where
  abbrev pub puts : List (ℕ × T) → List T → List T
  puts [] r = r
  puts (w ∷ ws) r = puts ws (set r (place w.0) w.1)

  -- what is at a place afterwards
  abbrev pub found : List (ℕ × T) → ℕ → T → T
  found [] k x = x
  found (w ∷ ws) k x = found ws k (if k == place w.0 then w.1 else x)

  pub puts_length : (ws : List (ℕ × T)) (r : List T) → length (puts ws r) ≡ length r
  puts_length [] r = refl
  puts_length (w ∷ ws) r = puts_length ws (set r (place w.0) w.1) ∙ length-set r (place w.0) w.1

  one_found : (r : List T) (i k : ℕ) (w : T) → k < length r → get_or (set r i w) k d ≡ (if k == i then w else get_or r k d)
  one_found r i k w lt = ⊎_elim
      (λ (e : k ≡ i).
      let b : (k == i) ≡ true = eq-eqb k i e in
      let lt' : i < length r = omega arith in
      ap (λ j. get_or (set r i w) j d) e ∙ get_or-set_same r i w d lt' ∙ sym (ap (λ b. if b then w else get_or r k d) b))
      (λ (ne : k ≢ i).
      let b : (k == i) ≡ false = ne_eqb k i ne in
      get_or-set_other r i k w d ne ∙ sym (ap (λ b. if b then w else get_or r k d) b))
      (cases_eq k i)

  pub get_puts : (ws : List (ℕ × T)) (r : List T) (k : ℕ) → k < length r → get_or (puts ws r) k d ≡ found ws k (get_or r k d)
  get_puts [] r k lt = refl
  get_puts (w ∷ ws) r k lt =
      let l = length-set r (place w.0) w.1 in
      get_puts ws (set r (place w.0) w.1) k (omega (arith, l)) ∙ ap (λ v. found ws k v) (one_found r (place w.0) k w.1 lt)

  abbrev Fixed : List (ℕ × T) → ℕ → Type 0
  Fixed ws k = ((x y : T) → found ws k x ≡ found ws k y) ⊎ ((x : T) → found ws k x ≡ x)

  fixed : (ws : List (ℕ × T)) (k : ℕ) → Fixed ws k
  fixed [] k = inr (λ x. refl)
  fixed (w ∷ ws) k = ⊎_elim
      (λ (c : (x y : T) → found ws k x ≡ found ws k y). inl (λ x y. c (if k == place w.0 then w.1 else x) (if k == place w.0 then w.1 else y)))
      (λ (s : (x : T) → found ws k x ≡ x).
      elim (k == place w.0) as (λ b. ((x y : T) → found ws k (if b then w.1 else x) ≡ found ws k (if b then w.1 else y)) ⊎ ((x : T) → found ws k (if b then w.1 else x) ≡ x)) [
        | true ↦ inl (λ x y. refl)
        | false ↦ inr s
      ])
      (fixed ws k)

  found_again : (ws : List (ℕ × T)) (k : ℕ) (x : T) → found ws k (found ws k x) ≡ found ws k x
  found_again ws k x = ⊎_elim
      (λ (c : (x y : T) → found ws k x ≡ found ws k y). c (found ws k x) x)
      (λ (s : (x : T) → found ws k x ≡ x). s (found ws k x))
      (fixed ws k)

  pub puts_again : (ws : List (ℕ × T)) (r : List T) → puts ws (puts ws r) ≡ puts ws r
  puts_again ws r =
      let l = puts_length ws r in
      let m = puts_length ws (puts ws r) in
      ext_get_or d (puts ws (puts ws r)) (puts ws r) m (λ k lt.
      get_puts ws (puts ws r) k (omega (arith, m)) ∙ ap (λ v. found ws k v) (get_puts ws r k (omega (arith, m, l)))
      ∙ found_again ws k (get_or r k d) ∙ sym (get_puts ws r k (omega (arith, m, l))))

  -- at a place that isn't written
  pub puts_other : (ws : List (ℕ × T)) (r : List T) (k : ℕ) → All (λ w. k ≢ place w.0) ws → get_or (puts ws r) k d ≡ get_or r k d
  puts_other [] r k h = refl
  puts_other (w ∷ ws) r k h =
      puts_other ws (set r (place w.0) w.1) k (rest (λ w. k ≢ place w.0) w ws h) ∙ get_or-set_other r (place w.0) k w.1 d (first (λ w. k ≢ place w.0) w ws h)

pub writes_are_puts : (ws : List (ℕ × Word)) (r : List Word) → write_all ws r ≡ puts (plain 0) (λ k. k) ws r
writes_are_puts [] r = refl
writes_are_puts (w ∷ ws) r = writes_are_puts ws (set r w.0 w.1)

pub stores_are_puts : (base : ℕ) (ws : List (ℕ × Cell)) (r : List Cell) → store_all base ws r ≡ puts (bare 0) (λ k. k - base) ws r
stores_are_puts base [] r = refl
stores_are_puts base (w ∷ ws) r = stores_are_puts base ws (set r (w.0 - base) w.1)

pub write_length : (ws : List (ℕ × Word)) (r : List Word) → length (write_all ws r) ≡ length r
write_length ws r = ap length (writes_are_puts ws r) ∙ puts_length (plain 0) (λ k. k) ws r

pub store_length : (base : ℕ) (ws : List (ℕ × Cell)) (r : List Cell) → length (store_all base ws r) ≡ length r
store_length base ws r = ap length (stores_are_puts base ws r) ∙ puts_length (bare 0) (λ k. k - base) ws r

pub write_found : (ws : List (ℕ × Word)) (r : List Word) (k : ℕ) → k < length r → get_or (write_all ws r) k (plain 0) ≡ found (plain 0) (λ k. k) ws k (get_or r k (plain 0))
write_found ws r k lt = ap (λ l. get_or l k (plain 0)) (writes_are_puts ws r) ∙ get_puts (plain 0) (λ k. k) ws r k lt

pub write_again : (ws : List (ℕ × Word)) (r : List Word) → write_all ws (write_all ws r) ≡ write_all ws r
write_again ws r =
    writes_are_puts ws (write_all ws r) ∙ ap (λ l. puts (plain 0) (λ k. k) ws l) (writes_are_puts ws r) ∙ puts_again (plain 0) (λ k. k) ws r ∙ sym (writes_are_puts ws r)

pub store_again : (base : ℕ) (ws : List (ℕ × Cell)) (r : List Cell) → store_all base ws (store_all base ws r) ≡ store_all base ws r
store_again base ws r =
    stores_are_puts base ws (store_all base ws r) ∙ ap (λ l. puts (bare 0) (λ k. k - base) ws l) (stores_are_puts base ws r) ∙ puts_again (bare 0) (λ k. k - base) ws r ∙ sym (stores_are_puts base ws r)

pub write_other : (ws : List (ℕ × Word)) (r : List Word) (k : ℕ) → All (λ w. k ≢ w.0) ws → get_or (write_all ws r) k (plain 0) ≡ get_or r k (plain 0)
write_other ws r k h = ap (λ l. get_or l k (plain 0)) (writes_are_puts ws r) ∙ puts_other (plain 0) (λ k. k) ws r k h

old_again : (o : Option Bool) (b : Bool) → or_old o (or_old o b) ≡ or_old o b
old_again None b = refl
old_again (Some c) b = refl

pub clear_after : (h : Change) (x : Core) → h.it ≡ None → x.it ≡ 0 → (applied h x).it ≡ 0
clear_after h x e it = ap (λ o. or_old o (it_after x.it)) e ∙ ap it_after it

abbrev core_of : List Word → Bool → Bool → Bool → Bool → ℕ → Memory → Core
core_of r n z c v i m = record { regs = r; n = n; z = z; c = c; v = v; it = i; memory = m }

pub same_core : (x y : Core) → x.regs ≡ y.regs → x.n ≡ y.n → x.z ≡ y.z → x.c ≡ y.c → x.v ≡ y.v → x.it ≡ y.it → x.memory ≡ y.memory → x ≡ y
same_core x y r n z c v i m =
    ap (λ q. core_of q x.n x.z x.c x.v x.it x.memory) r ∙ ap (λ q. core_of y.regs q x.z x.c x.v x.it x.memory) n ∙ ap (λ q. core_of y.regs y.n q x.c x.v x.it x.memory) z
    ∙ ap (λ q. core_of y.regs y.n y.z q x.v x.it x.memory) c ∙ ap (λ q. core_of y.regs y.n y.z y.c q x.it x.memory) v ∙ ap (λ q. core_of y.regs y.n y.z y.c y.v q x.memory) i
    ∙ ap (λ q. core_of y.regs y.n y.z y.c y.v y.it q) m

-- A CHANGE DONE TWICE: it leaves what it made.
pub again : (h : Change) (x : Core) → h.it ≡ None → x.it ≡ 0 → applied h (applied h x) ≡ applied h x
again h x e it =
    same_core (applied h (applied h x)) (applied h x) (write_again h.regs x.regs) (old_again h.n x.n) (old_again h.z x.z) (old_again h.c x.c) (old_again h.v x.v)
    (clear_after h (applied h x) e (clear_after h x e it) ∙ sym (clear_after h x e it))
    (ap (λ cs. record x.memory { cells = cs }) (store_again x.memory.base h.cells x.memory.cells))

-- a register that isn't written
pub read_other : (h : Change) (x : Core) (k : ℕ) → All (λ w. k ≢ w.0) h.regs → read (applied h x) k ≡ read x k
read_other h x k a = write_other h.regs x.regs k a
