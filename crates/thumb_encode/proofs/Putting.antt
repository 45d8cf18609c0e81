-- Fields put together fit their pattern, and the row answers for them what it makes of them.
use Rattle.std.proofs.Common.{◌≡◌, ℕ, ◌+◌, ◌-◌, ◌*◌, ◌/◌, ◌%◌, ◌^◌, ◌<◌, ◌≤◌, Bool, true, false, List, [], ◌∷◌, refl, ap, sym, ◌∙◌, subst, arith, zero, suc, nat_le, nat_lt, ◌==◌, ◌&&◌, if◌then◌else◌, Ok, Err}
use Rattle.std.proofs.lemmas.Nat.{shr-shr, shr_high, mod_low}
use Rattle.std.proofs.lemmas.Bool.{and_parts, and_from, eq-eqb, eqb-true, leb-true, ltb-true}
use Rattle.thumb_instr.specs.declared.instructions.Instr.{Instr}
use Rattle.thumb_instr.specs.declared.refusals.BadInstr.TheVariants.{Unknown}
use Rattle.thumb_instr.specs.Patterns.{Bits, Fixed, Field, Made, Row, Answer, cut, fits, filled_in, decoded}
use Rattle.thumb_instr.specs.declared.refusals.ItPlace.TheVariants.{Outside}
use Rattle.thumb_instr.specs.FullRows.{full_rows}
use Rattle.thumb_instr.specs.Formed.{NamesRegisters, TakesFields}
use Rattle.thumb_decode.specs.KnownBits.{HasBits, with_bits}
use Rattle.thumb_decode.proofs.KnownBits.{bit_of_cut, known_bits}
use Rattle.thumb_decode.proofs.Narrow.{cut_first}
use Rattle.thumb_encode.proofs.Covering.{if_true, if_false}

-- the fields of a pattern
abbrev pub Fields : List Bits → Type 0
Fields [] = Unit {0}
Fields (Fixed w v ∷ ps) = Fields ps
Fields (Field w ∷ ps) = (_ : ℕ) × Fields ps

-- each is below its bound
abbrev pub AreSmall : (ps : List Bits) → Fields ps → Type 0
AreSmall [] fs = Unit {0}
AreSmall (Fixed w v ∷ ps) fs = AreSmall ps fs
AreSmall (Field w ∷ ps) fs = (fs.0 < 2 ^ w) × AreSmall ps fs.1

-- and so are the fixed bits
abbrev pub is_sound : List Bits → Bool
is_sound [] = true
is_sound (Fixed w v ∷ ps) = nat_lt v (2 ^ w) && is_sound ps
is_sound (Field w ∷ ps) = is_sound ps

abbrev pub size : List Bits → ℕ
size [] = 0
size (Fixed w v ∷ ps) = w + size ps
size (Field w ∷ ps) = w + size ps

-- the bits behind those of high
abbrev pub put : (ps : List Bits) → Fields ps → ℕ → ℕ
put [] fs high = high
put (Fixed w v ∷ ps) fs high = put ps fs (high * 2 ^ w + v)
put (Field w ∷ ps) fs high = put ps fs.1 (high * 2 ^ w + fs.0)

abbrev pub applied : (ps : List Bits) → Made ps → Fields ps → Answer
applied [] answer fs = answer
applied (Fixed w v ∷ ps) f fs = applied ps f fs
applied (Field w ∷ ps) f fs = applied ps (f fs.0) fs.1

-- the cuts of a number are these
abbrev pub Cuts : (ps : List Bits) → Fields ps → ℕ → ℕ → Type 0
Cuts [] fs top h = Unit {0}
Cuts (Fixed w v ∷ ps) fs top h = (cut h top w ≡ v) × Cuts ps fs (top - w) h
Cuts (Field w ∷ ps) fs top h = (cut h top w ≡ fs.0) × Cuts ps fs.1 (top - w) h

one_more : (x w s high v : ℕ) → v < 2 ^ w → x / 2 ^ s ≡ high * 2 ^ w + v → x / 2 ^ (w + s) ≡ high
one_more x w s high v less is =
    let order : s + w ≡ w + s = omega arith in
    ap (λ (k : ℕ). x / 2 ^ k) (sym order) ∙ sym (shr-shr x s w) ∙ ap (λ (k : ℕ). k / 2 ^ w) is ∙ shr_high high w v less

put_high : (ps : List Bits) (fs : Fields ps) (high : ℕ) → is_sound ps ≡ true → AreSmall ps fs → put ps fs high / 2 ^ size ps ≡ high
put_high [] fs high sound small = omega arith
put_high (Fixed w v ∷ ps) fs high sound small =
    let both = and_parts (nat_lt v (2 ^ w)) (is_sound ps) sound in
    one_more (put ps fs (high * 2 ^ w + v)) w (size ps) high v (ltb-true v (2 ^ w) both.0) (put_high ps fs (high * 2 ^ w + v) both.1 small)
put_high (Field w ∷ ps) fs high sound small = one_more (put ps fs.1 (high * 2 ^ w + fs.0)) w (size ps) high fs.0 small.0 (put_high ps fs.1 (high * 2 ^ w + fs.0) sound small.1)

one_cut : (x top w s high v : ℕ) → top ≡ w + s → v < 2 ^ w → x / 2 ^ s ≡ high * 2 ^ w + v → cut x top w ≡ v
one_cut x top w s high v is less top_is =
    let rest : top - w ≡ s = omega arith in
    ap (λ (k : ℕ). x / 2 ^ k % 2 ^ w) rest ∙ ap (λ (k : ℕ). k % 2 ^ w) top_is ∙ mod_low high w v less

put_cuts : (ps : List Bits) (fs : Fields ps) (high top : ℕ) → top ≡ size ps → is_sound ps ≡ true → AreSmall ps fs → Cuts ps fs top (put ps fs high)
put_cuts [] fs high top is sound small = tt
put_cuts (Fixed w v ∷ ps) fs high top is sound small =
    let rest : top - w ≡ size ps = omega arith in
    let both = and_parts (nat_lt v (2 ^ w)) (is_sound ps) sound in (
      one_cut (put ps fs (high * 2 ^ w + v)) top w (size ps) high v is (ltb-true v (2 ^ w) both.0) (put_high ps fs (high * 2 ^ w + v) both.1 small),
      put_cuts ps fs (high * 2 ^ w + v) (top - w) rest both.1 small,
    )
put_cuts (Field w ∷ ps) fs high top is sound small =
    let rest : top - w ≡ size ps = omega arith in (
      one_cut (put ps fs.1 (high * 2 ^ w + fs.0)) top w (size ps) high fs.0 is small.0 (put_high ps fs.1 (high * 2 ^ w + fs.0) sound small.1),
      put_cuts ps fs.1 (high * 2 ^ w + fs.0) (top - w) rest sound small.1,
    )

cuts_fit : (ps : List Bits) (fs : Fields ps) (top h : ℕ) → Cuts ps fs top h → fits ps top h ≡ true
cuts_fit [] fs top h cuts = refl
cuts_fit (Fixed w v ∷ ps) fs top h cuts = and_from (cut h top w == v) (fits ps (top - w) h) (eq-eqb (cut h top w) v cuts.0) (cuts_fit ps fs (top - w) h cuts.1)
cuts_fit (Field w ∷ ps) fs top h cuts = cuts_fit ps fs.1 (top - w) h cuts.1

cuts_fill : (ps : List Bits) (f : Made ps) (fs : Fields ps) (top h : ℕ) → Cuts ps fs top h → filled_in ps f top h ≡ applied ps f fs
cuts_fill [] f fs top h cuts = refl
cuts_fill (Fixed w v ∷ ps) f fs top h cuts = cuts_fill ps f fs (top - w) h cuts.1
cuts_fill (Field w ∷ ps) f fs top h cuts =
    ap (λ (k : ℕ). filled_in ps (f k) (top - w) h) cuts.0 ∙ cuts_fill ps (f fs.0) fs.1 (top - w) h cuts.1

-- the lowest k of the bits of v, which stand from bit `low` on
abbrev pub bits_from : ℕ → ℕ → ℕ → List (ℕ × ℕ) → List (ℕ × ℕ)
bits_from low v zero rest = rest
bits_from low v (suc k) rest = (low + k, v / 2 ^ k % 2) ∷ bits_from low v k rest

-- the bits that a pattern fixes
abbrev pub fixed_bits : List Bits → ℕ → List (ℕ × ℕ)
fixed_bits [] top = []
fixed_bits (Fixed w v ∷ ps) top = bits_from (top - w) v w (fixed_bits ps (top - w))
fixed_bits (Field w ∷ ps) top = fixed_bits ps (top - w)

has_from : (h top w v k : ℕ) (rest : List (ℕ × ℕ)) → w ≤ top → top ≤ 32 → k ≤ w → cut h top w ≡ v → HasBits h rest → HasBits h (bits_from (top - w) v k rest)
has_from h top w v zero rest inside small most is has = has
has_from h top w v (suc k) rest inside small most is has =
    let at = top - w + k in
    let low : top - w ≤ at = omega arith in
    let high : at < top = omega arith in
    let back : at - (top - w) ≡ k = omega arith in
    let less : at < 32 = omega arith in
    let fewer : k ≤ w = omega arith in (
      less,
      sym (bit_of_cut h top w at inside low high) ∙ ap (λ (j : ℕ). cut h top w / 2 ^ j % 2) back ∙ ap (λ (x : ℕ). x / 2 ^ k % 2) is,
      has_from h top w v k rest inside small fewer is has,
    )

cuts_have : (ps : List Bits) (fs : Fields ps) (top h : ℕ) → top ≡ size ps → top ≤ 32 → Cuts ps fs top h → HasBits h (fixed_bits ps top)
cuts_have [] fs top h is small cuts = tt
cuts_have (Fixed w v ∷ ps) fs top h is small cuts =
    let inside : w ≤ top = omega arith in
    let rest : top - w ≡ size ps = omega arith in
    let below : top - w ≤ 32 = omega arith in
    let all : w ≤ w = omega arith in
    has_from h top w v w (fixed_bits ps (top - w)) inside small all cuts.0 (cuts_have ps fs (top - w) h rest below cuts.1)
cuts_have (Field w ∷ ps) fs top h is small cuts =
    let rest : top - w ≡ size ps = omega arith in
    let below : top - w ≤ 32 = omega arith in
    cuts_have ps fs.1 (top - w) h rest below cuts.1

-- It begins as two halfwords do.
abbrev pub begins_wide : List Bits → Bool
begins_wide [] = false
begins_wide (Fixed w v ∷ ps) = nat_le 5 w && nat_le w 32 && nat_le 29 (v / 2 ^ (w - 5))
begins_wide (Field w ∷ ps) = false

begin_is_wide : (ps : List Bits) (fs : Fields ps) (h : ℕ) → begins_wide ps ≡ true → Cuts ps fs 32 h → 29 ≤ h / 2 ^ 27
begin_is_wide [] fs h wide cuts = absurd (cc)
begin_is_wide (Fixed w v ∷ ps) fs h wide cuts =
    let both = and_parts (nat_le 5 w && nat_le w 32) (nat_le 29 (v / 2 ^ (w - 5))) wide in
    let inside = and_parts (nat_le 5 w) (nat_le w 32) both.0 in
    let first : cut h 32 5 ≡ v / 2 ^ (w - 5) = sym (cut_first h 32 5 w (leb-true 5 w inside.0) (leb-true w 32 inside.1)) ∙ ap (λ (k : ℕ). k / 2 ^ (w - 5)) cuts.0 in
    let least : 29 ≤ v / 2 ^ (w - 5) = leb-true 29 (v / 2 ^ (w - 5)) both.1 in
    omega arith
begin_is_wide (Field w ∷ ps) fs h wide cuts = absurd (cc)

-- The pattern is one of two halfwords.
abbrev pub is_pattern : List Bits → Bool
is_pattern ps = (size ps == 32) && is_sound ps && begins_wide ps

-- what holds of the number that is made of fields
pub record IsMade (ps : List Bits) (fs : Fields ps) : Type 0 where
  pub cuts : Cuts ps fs 32 (put ps fs 0)
  pub small : put ps fs 0 < 2 ^ 32
  pub wide : 29 ≤ put ps fs 0 / 2 ^ 27
  pub has : HasBits (put ps fs 0) (fixed_bits ps 32)

pub made : (ps : List Bits) (fs : Fields ps) → is_pattern ps ≡ true → AreSmall ps fs → IsMade ps fs
made ps fs is small =
    let both = and_parts ((size ps == 32) && is_sound ps) (begins_wide ps) is in
    let parts = and_parts (size ps == 32) (is_sound ps) both.0 in
    let whole : 32 ≡ size ps = sym (eqb-true (size ps) 32 parts.0) in
    let cuts = put_cuts ps fs 0 32 whole parts.1 small in
    let none : put ps fs 0 / 2 ^ 32 ≡ 0 = ap (λ (k : ℕ). put ps fs 0 / 2 ^ k) whole ∙ put_high ps fs 0 parts.1 small in
    let most : 32 ≤ 32 = omega arith in
    record {
      cuts = cuts;
      small = omega arith;
      wide = begin_is_wide ps fs (put ps fs 0) both.1 cuts;
      has = cuts_have ps fs 32 (put ps fs 0) whole most cuts;
    }

-- what is given of an instruction
pub record IsGiven (i : Instr) : Type 0 where
  pub registers : NamesRegisters i
  pub fields : TakesFields i

-- The instruction has a code of two halfwords, as one number.
pub record IsCoded (i : Instr) : Type 0 where
  pub number : ℕ
  pub small : number < 2 ^ 32
  pub wide : 29 ≤ number / 2 ^ 27
  pub stands : decoded 32 (full_rows Outside) number ≡ Ok i

-- row k of a table
abbrev pub row_at : List Row → ℕ → Row
row_at [] k = record { pattern = []; means = Err Unknown }
row_at (r ∷ rows) zero = r
row_at (r ∷ rows) (suc k) = row_at rows k

abbrev pub full_row : ℕ → Row
full_row = row_at (full_rows Outside)

-- The row is the first of these.
abbrev pub Leads : Row → List Row → Type 0
Leads r [] = ⊥
Leads r (x ∷ rows) = x ≡ r

pub row_answers : (r : Row) (fs : Fields r.pattern) (h : ℕ) (other : Answer) → Cuts r.pattern fs 32 h → (if fits r.pattern 32 h then filled_in r.pattern r.means 32 h else other) ≡ applied r.pattern r.means fs
row_answers r fs h other cuts = if_true (fits r.pattern 32 h) _ _ (cuts_fit r.pattern fs 32 h cuts) ∙ cuts_fill r.pattern r.means fs 32 h cuts

pub first_answers : (rows : List Row) (r : Row) (fs : Fields r.pattern) (h : ℕ) → Leads r rows → Cuts r.pattern fs 32 h → decoded 32 rows h ≡ applied r.pattern r.means fs
first_answers [] r fs h leads cuts = absurd leads
first_answers (x ∷ rows) r fs h leads cuts =
    subst (λ (y : Row). decoded 32 (y ∷ rows) h ≡ applied r.pattern r.means fs) (sym leads) (row_answers r fs h _ cuts)

-- Behind these rows the row is the next.
abbrev pub Follows : List Row → Row → List Row → Type 0
Follows [] r rows = Leads r rows
Follows (x ∷ xs) r [] = ⊥
Follows (x ∷ xs) r (y ∷ rows) = (y ≡ x) × Follows xs r rows

-- None of them fits.
abbrev pub AllMiss : List Row → ℕ → Type 0
AllMiss [] h = Unit {0}
AllMiss (x ∷ xs) h = (fits x.pattern 32 h ≡ false) × AllMiss xs h

pub later_answers : (before rows : List Row) (r : Row) (fs : Fields r.pattern) (h : ℕ) → Follows before r rows → AllMiss before h → Cuts r.pattern fs 32 h → decoded 32 rows h ≡ applied r.pattern r.means fs
later_answers [] rows r fs h follows miss cuts = first_answers rows r fs h follows cuts
later_answers (x ∷ xs) [] r fs h follows miss cuts = absurd follows
later_answers (x ∷ xs) (y ∷ rows) r fs h follows miss cuts =
    subst (λ (z : Row). decoded 32 (z ∷ rows) h ≡ applied r.pattern r.means fs) (sym follows.0)
    (if_false (fits x.pattern 32 h) (filled_in x.pattern x.means 32 h) (decoded 32 rows h) miss.0 ∙ later_answers xs rows r fs h follows.1 miss.1 cuts)

-- the rows that may fit what has the fixed bits of a pattern
abbrev pub rows_like : List Bits → List Row
rows_like ps = with_bits (fixed_bits ps 32) (full_rows Outside)

-- What the rows that may fit answer, the table answers.
pub coded_behind : (ps : List Bits) (fs : Fields ps) (i : Instr) → is_pattern ps ≡ true → AreSmall ps fs → ((h : ℕ) → Cuts ps fs 32 h → decoded 32 (rows_like ps) h ≡ Ok i) → IsCoded i
coded_behind ps fs i is small answer =
    let h = put ps fs 0 in
    let m = made ps fs is small in
    record { number = h; small = m.small; wide = m.wide; stands = known_bits h (fixed_bits ps 32) m.has (full_rows Outside) ∙ answer h m.cuts }

-- Row k answers for its fields, where those before it that may fit do not.
pub coded_after : (before : List Row) (k : ℕ) (fs : Fields (full_row k).pattern) (i : Instr) → is_pattern (full_row k).pattern ≡ true → Follows before (full_row k) (rows_like (full_row k).pattern) → AreSmall (full_row k).pattern fs
    → ((h : ℕ) → Cuts (full_row k).pattern fs 32 h → AllMiss before h) → applied (full_row k).pattern (full_row k).means fs ≡ Ok i → IsCoded i
coded_after before k fs i is follows small miss answer =
    let r = full_row k in
    coded_behind r.pattern fs i is small (λ h cuts. later_answers before (rows_like r.pattern) r fs h follows (miss h cuts) cuts ∙ answer)

-- Row k answers for its fields, where no row before it may fit.
pub coded : (k : ℕ) (fs : Fields (full_row k).pattern) (i : Instr) → is_pattern (full_row k).pattern ≡ true → Leads (full_row k) (rows_like (full_row k).pattern) → AreSmall (full_row k).pattern fs
    → applied (full_row k).pattern (full_row k).means fs ≡ Ok i → IsCoded i
coded k fs i is leads small answer =
    let r = full_row k in
    coded_behind r.pattern fs i is small (λ h cuts. first_answers (rows_like r.pattern) r fs h leads cuts ∙ answer)
