-- Words that are the same up to the addresses of code.
use Rattle.std.proofs.Common.{◌≡◌, ◌≢◌, ℕ, ◌%◌, ◌^◌, ◌<◌, ◌⊎◌, inl, inr, Bool, true, false, List, [], ◌∷◌, Option, None, refl, sym, ap, ◌∙◌, subst, arith, IsTrue}
use Rattle.std.specs.Prelude.{◌==◌, ◌&&◌, not}
use Rattle.std.specs.List.{list_any}
use Rattle.std.proofs.lemmas.Bool.{eq-eqb, eqb-true, ne_eqb, or_parts}
use Rattle.mark_word.specs.declared.marks.Mark.{Mark}
use Rattle.mark_word.specs.declared.marks.Mark.TheVariants.{Plain, Entry, Return, Low}
use Rattle.mark_word.specs.declared.cells.Piece.{Piece}
use Rattle.mark_word.specs.Words.{Word, Cell, bits_of, is_word, is_cell, is_marked, byte_of}
use Rattle.mark_word.specs.Marks.{piece_of, pieces, join}
use Rattle.thumb_table.specs.States.{is_askew}
use Rattle.thumb_table.specs.Values.{is_negative}
use Rattle.thumb_table.specs.Effects.{from}
use Rattle.sim_charts.specs.Words.{IsCodeWord, SameBits, SameWord, SameByte, SameCell}
use Rattle.sim_steps.proofs.Following.{Lawful}
use Rattle.sim_charts.specs.Changes.{SameWrites, SameStores, AreWords, AreCells}
use Rattle.mark_word.proofs.Joining.{is_piece_at, the_piece, Four, NoPieces, whole_is, mark_from_four, marked_of_piece, sum_of, sum_is, joined_is_word}

-- the bits of a plain word are equal
pub plain_bits : (t : Lawful) (m : Mark) (b h : ℕ) → m ≡ Plain → SameBits t.taking m b h → b ≡ h
plain_bits t m b h e s = rw e at s

-- A marked word is odd on the plain side, and on the other.
pub odd_old : (t : Lawful) (m : Mark) (b h : ℕ) → m ≢ Plain → IsTrue (b == bits_of m b) → SameBits t.taking m b h → b % 2 ≡ 1
odd_old t Plain b h n w s = absurd (n refl)
odd_old t (Entry a) b h n w s = let e = eqb-true b a w in rw e (t.laws.entry_old a h s).odd
odd_old t (Return a) b h n w s = let e = eqb-true b a w in rw e (t.laws.back_old a h s).odd
odd_old t (Low a) b h n w s = let e = eqb-true b (a % 2 ^ 16) w in let o = (t.laws.entry_old a s.0 s.1).odd in omega arith

pub odd_new : (t : Lawful) (m : Mark) (b h : ℕ) → m ≢ Plain → SameBits t.taking m b h → h % 2 ≡ 1
odd_new t Plain b h n s = absurd (n refl)
odd_new t (Entry a) b h n s = (t.laws.entry_new a h s).odd
odd_new t (Return a) b h n s = (t.laws.back_new a h s).odd
odd_new t (Low a) b h n s = let o = (t.laws.entry_new a s.0 s.1).odd in let e = s.2 in omega arith

-- an address of code on both sides, or half of one
pub code_old : (t : Lawful) (m : Mark) (b h : ℕ) → m ≢ Plain → IsTrue (b == bits_of m b) → SameBits t.taking m b h → IsCodeWord b
code_old t Plain b h n w s = absurd (n refl)
code_old t (Entry a) b h n w s = let e = eqb-true b a w in rw e (t.laws.entry_old a h s)
code_old t (Return a) b h n w s = let e = eqb-true b a w in rw e (t.laws.back_old a h s)
code_old t (Low a) b h n w s = let e = eqb-true b (a % 2 ^ 16) w in let o = (t.laws.entry_old a s.0 s.1).odd in record { odd = omega arith; below = omega arith }

pub code_new : (t : Lawful) (m : Mark) (b h : ℕ) → m ≢ Plain → SameBits t.taking m b h → IsCodeWord h
code_new t Plain b h n s = absurd (n refl)
code_new t (Entry a) b h n s = t.laws.entry_new a h s
code_new t (Return a) b h n s = t.laws.back_new a h s
code_new t (Low a) b h n s = let e = s.2 in let o = (t.laws.entry_new a s.0 s.1).odd in record { odd = omega arith; below = omega arith }

-- marks are plain or not
pub is_it_plain : (m : Mark) → (m ≡ Plain) ⊎ (m ≢ Plain)
is_it_plain Plain = inl refl
is_it_plain (Entry a) = inr (λ e. cc)
is_it_plain (Return a) = inr (λ e. cc)
is_it_plain (Low a) = inr (λ e. cc)

code_sign : (n : ℕ) → IsCodeWord n → is_negative n ≡ false
code_sign n c = let b = c.below in ne_eqb _ _ (λ e. omega arith)

code_zero : (n : ℕ) → IsCodeWord n → (n == 0) ≡ false
code_zero n c = let o = c.odd in ne_eqb _ _ (λ e. omega arith)

-- N and Z of a word
pub sign_same : (t : Lawful) (w v : Word) → IsTrue (is_word w) → SameWord t.taking w v → is_negative w.bits ≡ is_negative v.bits
sign_same t w v k s = elim (is_it_plain w.mark) [
  | inl e ↦ ap is_negative (plain_bits t w.mark w.bits v.bits e s)
  | inr n ↦ code_sign w.bits (code_old t w.mark w.bits v.bits n k s) ∙ sym (code_sign v.bits (code_new t w.mark w.bits v.bits n s))
]

pub zero_same : (t : Lawful) (w v : Word) → IsTrue (is_word w) → SameWord t.taking w v → (w.bits == 0) ≡ (v.bits == 0)
zero_same t w v k s = elim (is_it_plain w.mark) [
  | inl e ↦ ap (λ b. b == 0) (plain_bits t w.mark w.bits v.bits e s)
  | inr n ↦ code_zero w.bits (code_old t w.mark w.bits v.bits n k s) ∙ sym (code_zero v.bits (code_new t w.mark w.bits v.bits n s))
]

-- sp takes no address of code on either side
askew_odd : (d b : ℕ) (h : ℕ) → b % 2 ≡ 1 → ((d == 13) && not (b % 4 == 0)) ≡ false → ((d == 13) && not (h % 4 == 0)) ≡ false
askew_odd d b h o e = go (d == 13) (b % 4 == 0) _ (ne_eqb _ _ (λ k. omega arith)) e
  where
    go : (p q r : Bool) → q ≡ false → (p && not q) ≡ false → (p && r) ≡ false
    go true q r f k = cc
    go false q r f k = refl

pub upright_same : (t : Lawful) (d : ℕ) (w v : Word) → IsTrue (is_word w) → SameWord t.taking w v → is_askew (d, w) ≡ false → is_askew (d, v) ≡ false
upright_same t d w v k s e = elim (is_it_plain w.mark) [
  | inl p ↦ subst (λ b. ((d == 13) && not (b % 4 == 0)) ≡ false) (plain_bits t w.mark w.bits v.bits p s) e
  | inr n ↦ askew_odd d w.bits v.bits (odd_old t w.mark w.bits v.bits n k s) e
]

pub all_upright : (t : Lawful) (ws vs : List (ℕ × Word)) → AreWords ws → SameWrites t.taking ws vs → list_any is_askew ws ≡ false → list_any is_askew vs ≡ false
all_upright t [] [] k s e = refl
all_upright t [] (v ∷ vs) k s e = absurd s
all_upright t (w ∷ ws) [] k s e = absurd s
all_upright t (w ∷ ws) (v ∷ vs) k s e =
    let p = or_parts (is_askew w) (list_any is_askew ws) e in
    let d : is_askew (w.0, w.1) ≡ false = p.0 in
    let a : is_askew (w.0, v.1) ≡ false = upright_same t w.0 w.1 v.1 k.0 s.1 d in
    let b : is_askew v ≡ false = subst (λ n. is_askew (n, v.1) ≡ false) s.0 a in
    let c : list_any is_askew vs ≡ false = all_upright t ws vs k.1 s.2 p.1 in
    cc

-- ---- bytes

pub piece_same : (t : Lawful) (m : Mark) (b h k : ℕ) → SameBits t.taking m b h → SameByte t.taking (piece_of m k) (byte_of k b) (byte_of k h)
piece_same t Plain b h k s = ap (byte_of k) s
piece_same t (Entry a) b h k s = (b, h, s, refl)
piece_same t (Return a) b h k s = (b, h, s, refl)
piece_same t (Low a) b h k s = (b, h, s, refl)

pub pieces_same : (t : Lawful) (w v : Word) (a : ℕ) → SameWord t.taking w v → SameStores t.taking (from a (pieces w)) (from a (pieces v))
pieces_same t w v a s =
    (refl, piece_same t w.mark w.bits v.bits 0 s, (refl, piece_same t w.mark w.bits v.bits 1 s, (refl, piece_same t w.mark w.bits v.bits 2 s, (refl, piece_same t w.mark w.bits v.bits 3 s, tt))))

pub pieces_cells : (w : Word) (a : ℕ) → IsTrue (is_word w) → AreCells (from a (pieces w))
pieces_cells w a k =
    let e : w.bits ≡ bits_of w.mark w.bits = eqb-true _ _ k in
    let piece = λ (k : ℕ) (h : k < 4). is_piece_at w.mark w.bits k e h in
    (piece 0 (omega arith), (piece 1 (omega arith), (piece 2 (omega arith), (piece 3 (omega arith), tt))))

-- what stands for an address is determined
pub stands_once : (t : Lawful) (m : Mark) (b c h k : ℕ) → m ≢ Plain → SameBits t.taking m b h → SameBits t.taking m c k → h ≡ k
stands_once t Plain b c h k n s r = absurd (n refl)
stands_once t (Entry a) b c h k n s r = t.laws.entry_once a h k s r
stands_once t (Return a) b c h k n s r = t.laws.back_once a h k s r
stands_once t (Low a) b c h k n s r = s.2 ∙ ap (λ w. w % 2 ^ 16) (t.laws.entry_once a s.0 r.0 s.1 r.1) ∙ sym r.2

stands_fits : (t : Lawful) (m : Mark) (b h : ℕ) → m ≢ Plain → SameBits t.taking m b h → h < 2 ^ 32
stands_fits t Plain b h n s = absurd (n refl)
stands_fits t (Entry a) b h n s = let l = (t.laws.entry_new a h s).below in omega arith
stands_fits t (Return a) b h n s = let l = (t.laws.back_new a h s).below in omega arith
stands_fits t (Low a) b h n s = let e = s.2 in omega arith

mark_fits : (t : Lawful) (m : Mark) (b h : ℕ) → m ≢ Plain → SameBits t.taking m b h → bits_of m 0 < 2 ^ 32
mark_fits t Plain b h n s = absurd (n refl)
mark_fits t (Entry a) b h n s = let l = (t.laws.entry_old a h s).below in omega arith
mark_fits t (Return a) b h n s = let l = (t.laws.back_old a h s).below in omega arith
mark_fits t (Low a) b h n s = omega arith

stands_any : (t : Lawful) (m : Mark) (b c h : ℕ) → m ≢ Plain → SameBits t.taking m b h → SameBits t.taking m c h
stands_any t Plain b c h n s = absurd (n refl)
stands_any t (Entry a) b c h n s = s
stands_any t (Return a) b c h n s = s
stands_any t (Low a) b c h n s = s

-- ---- words of memory

marked_is : (m : Mark) → is_marked m ≡ true → m ≢ Plain
marked_is m e p = let k : is_marked Plain ≡ true = subst (λ n. is_marked n ≡ true) p e in cc

four_same : (t : Lawful) (m : Mark) (a b c d e f g h : ℕ) (o p q r : Option Piece) → Four m o p q r → m ≢ Plain → SameByte t.taking o a e → SameByte t.taking p b f → SameByte t.taking q c g → SameByte t.taking r d h → (any : ℕ) → SameBits t.taking m any (sum_of e f g h)
four_same t m a b c d e f g h o p q r k n sa sb sc sd any =
    let s : SameByte t.taking (the_piece m 0) a e = subst (λ i. SameByte t.taking i a e) k.first sa in
    let u : SameByte t.taking (the_piece m 1) b f = subst (λ i. SameByte t.taking i b f) k.second sb in
    let v : SameByte t.taking (the_piece m 2) c g = subst (λ i. SameByte t.taking i c g) k.third sc in
    let w : SameByte t.taking (the_piece m 3) d h = subst (λ i. SameByte t.taking i d h) k.fourth sd in
    let f' : f ≡ byte_of 1 s.1 = u.3 ∙ ap (byte_of 1) (stands_once t m u.0 s.0 u.1 s.1 n u.2 s.2) in
    let g' : g ≡ byte_of 2 s.1 = v.3 ∙ ap (byte_of 2) (stands_once t m v.0 s.0 v.1 s.1 n v.2 s.2) in
    let h' : h ≡ byte_of 3 s.1 = w.3 ∙ ap (byte_of 3) (stands_once t m w.0 s.0 w.1 s.1 n w.2 s.2) in
    let e' : sum_of e f g h ≡ s.1 = sum_is e f g h s.1 s.3 f' g' h' (stands_fits t m s.0 s.1 n s.2) in
    subst (λ z. SameBits t.taking m any z) (sym e') (stands_any t m s.0 any s.1 n s.2)

-- four bytes that are the same on both sides, those of the plain one being cells
pub record Bytes (t : Lawful) (a b c d e f g h : Cell) : Type 0 where
  pub first : SameCell t.taking a e
  pub second : SameCell t.taking b f
  pub third : SameCell t.taking c g
  pub fourth : SameCell t.taking d h
  pub first_is : IsTrue (is_cell a)
  pub second_is : IsTrue (is_cell b)
  pub third_is : IsTrue (is_cell c)
  pub fourth_is : IsTrue (is_cell d)

-- A WHOLE WORD IS LOADED THE SAME
pub join_same : (t : Lawful) (a b c d e f g h : Cell) → Bytes t a b c d e f g h → (join a b c d).whole ≡ true → SameWord t.taking (join a b c d).word (join e f g h).word
join_same t a b c d e f g h s w = elim (whole_is a.piece b.piece c.piece d.piece w) [
  | inl k ↦
      let m : Mark = k.0 in
      let n : m ≢ Plain = marked_is m (marked_of_piece a.byte m 0 a.piece s.first_is k.1.first) in
      subst (λ o. SameBits t.taking o (sum_of a.byte b.byte c.byte d.byte) (sum_of e.byte f.byte g.byte h.byte)) (sym (mark_from_four m a.piece b.piece c.piece d.piece k.1))
      (four_same t m a.byte b.byte c.byte d.byte e.byte f.byte g.byte h.byte a.piece b.piece c.piece d.piece k.1 n s.first s.second s.third s.fourth _)
  | inr k ↦ none_same k
]
  where
    bare_same : (o : Option Piece) (x y : ℕ) → o ≡ None → SameByte t.taking o x y → x ≡ y
    bare_same o x y p q = rw p at q

    none_same : NoPieces a.piece b.piece c.piece d.piece → SameWord t.taking (join a b c d).word (join e f g h).word
    none_same k =
        let p = bare_same a.piece a.byte e.byte k.first s.first in
        let q = bare_same b.piece b.byte f.byte k.second s.second in
        let r = bare_same c.piece c.byte g.byte k.third s.third in
        let z = bare_same d.piece d.byte h.byte k.fourth s.fourth in
        let l : sum_of a.byte b.byte c.byte d.byte ≡ sum_of e.byte f.byte g.byte h.byte = cc in
        rw (k.first, k.second, k.third, k.fourth) l

pub join_word : (t : Lawful) (a b c d e f g h : Cell) → Bytes t a b c d e f g h → (join a b c d).whole ≡ true → IsTrue (is_word (join a b c d).word)
join_word t a b c d e f g h s w =
    eq-eqb _ _ (joined_is_word a b c d (join a b c d).word.mark s.first_is s.second_is s.third_is s.fourth_is refl (fits (whole_is a.piece b.piece c.piece d.piece w)))
  where
    fits : ((m : Mark) × Four m a.piece b.piece c.piece d.piece) ⊎ NoPieces a.piece b.piece c.piece d.piece → bits_of (join a b c d).word.mark 0 < 2 ^ 32
    fits (inl k) =
        let m : Mark = k.0 in
        let n : m ≢ Plain = marked_is m (marked_of_piece a.byte m 0 a.piece s.first_is k.1.first) in
        let u : SameByte t.taking (the_piece m 0) a.byte e.byte = subst (λ i. SameByte t.taking i a.byte e.byte) k.1.first s.first in
        let l : bits_of m 0 < 2 ^ 32 = mark_fits t m u.0 u.1 n u.2 in
        subst (λ o. bits_of o 0 < 2 ^ 32) (sym (mark_from_four m a.piece b.piece c.piece d.piece k.1)) l
    fits (inr k) = rw (k.first, k.second, k.third, k.fourth) (omega arith)
