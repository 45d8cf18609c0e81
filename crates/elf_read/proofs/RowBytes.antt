-- Bytes are one list of rows at most.
use Rattle.std.proofs.Common.{◌≡◌, ◌≤◌, ◌<◌, ℕ, zero, suc, ◌+◌, ◌*◌, ◌/◌, ◌%◌, ◌^◌, List, [], ◌∷◌, ◌++◌, length, drop, append_assoc, length-drop, Some, None, arith, refl, sym, ap, ◌∙◌, subst}
use Rattle.std.specs.Prelude.{All, slice_index}
use Rattle.std.specs.List.{flat_map}
use Rattle.std.proofs.lemmas.List.{drop-drop, get_or-drop, drop_all, append-nil, flat_map_more}
use Rattle.std.proofs.lemmas.List.Elements.{All-nil, All-cons, All-head, All-tail}
use Rattle.byteorder.specs.Endian.{little_number}
use Rattle.byteorder.specs.Numbers.{little_number-reads_back}
use Rattle.elf_model.specs.declared.objects.MapRow.{MapRow}
use Rattle.elf_model.specs.declared.objects.RowKind.{RowKind}
use Rattle.elf_model.specs.declared.objects.RowKind.TheVariants.{Start, Return}
use Rattle.elf_model.specs.Fields.{word_at, word}
use Rattle.elf_model.specs.Maps.{row_bytes, row_kind, RowFits, AreRows}
use Rattle.elf_read.specs.MapRows.{HasNoRows, IsRow, IsRowAt, row_kind_of}

-- a word that was read is its four bytes
word_back : (xs : List ℕ) → 4 ≤ length xs → ((k : ℕ) → slice_index xs k < 256) → xs ≡ word (little_number 4 xs) ++ drop 4 xs
word_back [] l h = absurd (omega (arith, l))
word_back (a ∷ []) l h = absurd (omega (arith, l))
word_back (a ∷ b ∷ []) l h = absurd (omega (arith, l))
word_back (a ∷ b ∷ c ∷ []) l h = absurd (omega (arith, l))
word_back (a ∷ b ∷ c ∷ d ∷ rest) l h =
    let ha : a < 256 = h 0 in
    let hb : b < 256 = h 1 in
    let hc : c < 256 = h 2 in
    let hd : d < 256 = h 3 in
    let n : ℕ = little_number 4 (a ∷ b ∷ c ∷ d ∷ rest) in
    let e : n ≡ a + 256 * (b + 256 * (c + 256 * d)) = omega arith in
    let e0 : a ≡ n % 256 = omega (arith, e) in
    let e1 : b ≡ n / 256 % 256 = omega (arith, e) in
    let e2 : c ≡ n / 65536 % 256 = omega (arith, e) in
    let e3 : d ≡ n / 16777216 % 256 = omega (arith, e) in
    λ i. e0 i ∷ e1 i ∷ e2 i ∷ e3 i ∷ rest

field_back : (b : List ℕ) (p q : ℕ) → p + 4 ≤ length b → ((k : ℕ) → slice_index b k < 256) → p + 4 ≡ q → drop p b ≡ word (word_at b p) ++ drop q b
field_back b p q l h e =
    let long : 4 ≤ length (drop p b) = omega (arith, length-drop p b) in
    word_back (drop p b) long (λ k. subst (λ (n : ℕ). n < 256) (sym (get_or-drop p b k 0)) (h (p + k)))
    ∙ ap (λ (xs : List ℕ). word (word_at b p) ++ xs) (drop-drop 4 p b) ∙ ap (λ (n : ℕ). word (word_at b p) ++ drop n b) e

-- the bytes of the row that was read
pub row_there : (b : List ℕ) (at : ℕ) (k : RowKind) → at + 16 ≤ length b → ((i : ℕ) → slice_index b i < 256) → word_at b (at + 12) ≡ row_kind k
    → drop at b ≡ word (word_at b at) ++ word (word_at b (at + 4)) ++ word (word_at b (at + 8)) ++ word (row_kind k) ++ drop (at + 16) b
row_there b at k l h kind =
    field_back b at (at + 4) (omega arith) h (omega arith)
    ∙ ap (λ (xs : List ℕ). word (word_at b at) ++ xs) (field_back b (at + 4) (at + 8) (omega arith) h (omega arith))
    ∙ ap (λ (xs : List ℕ). word (word_at b at) ++ word (word_at b (at + 4)) ++ xs) (field_back b (at + 8) (at + 12) (omega arith) h (omega arith))
    ∙ ap (λ (xs : List ℕ). word (word_at b at) ++ word (word_at b (at + 4)) ++ word (word_at b (at + 8)) ++ xs) (field_back b (at + 12) (at + 16) (omega arith) h (omega arith))
    ∙ ap (λ (n : ℕ). word (word_at b at) ++ word (word_at b (at + 4)) ++ word (word_at b (at + 8)) ++ word n ++ drop (at + 16) b) kind

drop_further : (b : List ℕ) (p k : ℕ) (row : List ℕ) → drop p b ≡ row → drop (p + k) b ≡ drop k row
drop_further b p k row e = sym (drop-drop k p b) ∙ ap (drop k) e

word_read : (b : List ℕ) (p n : ℕ) (rest : List ℕ) → drop p b ≡ word n ++ rest → n < 2 ^ 32 → word_at b p ≡ n
word_read b p n rest e h = ap (little_number 4) e ∙ little_number-reads_back 4 n rest h

-- fields of a row's bytes
section_read : (b : List ℕ) (at : ℕ) (r : MapRow) (rest : List ℕ) → drop at b ≡ row_bytes r ++ rest → r.section < 2 ^ 32 → word_at b at ≡ r.section
section_read b at r rest e h = word_read b at r.section (drop 4 (row_bytes r ++ rest)) e h

old_read : (b : List ℕ) (at : ℕ) (r : MapRow) (rest : List ℕ) → drop at b ≡ row_bytes r ++ rest → r.old < 2 ^ 32 → word_at b (at + 4) ≡ r.old
old_read b at r rest e h = word_read b (at + 4) r.old (drop 8 (row_bytes r ++ rest)) (drop_further b at 4 (row_bytes r ++ rest) e) h

new_read : (b : List ℕ) (at : ℕ) (r : MapRow) (rest : List ℕ) → drop at b ≡ row_bytes r ++ rest → r.new < 2 ^ 32 → word_at b (at + 8) ≡ r.new
new_read b at r rest e h = word_read b (at + 8) r.new (drop 12 (row_bytes r ++ rest)) (drop_further b at 8 (row_bytes r ++ rest) e) h

kind_low : (k : RowKind) → row_kind k < 2 ^ 32
kind_low Start = omega arith
kind_low Return = omega arith

kind_read : (b : List ℕ) (at : ℕ) (r : MapRow) (rest : List ℕ) → drop at b ≡ row_bytes r ++ rest → word_at b (at + 12) ≡ row_kind r.kind
kind_read b at r rest e = word_read b (at + 12) (row_kind r.kind) rest (drop_further b at 12 (row_bytes r ++ rest) e) (kind_low r.kind)

some_kind : (k : RowKind) → row_kind_of (row_kind k) ≡ None → ⊥
some_kind Start h = absurd (grind (arith, h))
some_kind Return h = absurd (grind (arith, h))

same_kind : (a b : RowKind) → row_kind a ≡ row_kind b → a ≡ b
same_kind Start Start e = refl
same_kind Start Return e = absurd (omega (arith, e))
same_kind Return Start e = absurd (omega (arith, e))
same_kind Return Return e = refl

-- no row has another code
pub no_row : (b : List ℕ) (at : ℕ) → row_kind_of (word_at b (at + 12)) ≡ None → IsRowAt b at None
no_row b at none = λ r rest e. some_kind r.kind (ap row_kind_of (sym (kind_read b at r rest e)) ∙ none)

-- what is known of the rows read so far
pub record AreRead (b : List ℕ) (i : ℕ) (rows : List MapRow) : Type 0 where
  pub bytes : flat_map row_bytes rows ++ drop (16 * i) b ≡ b
  pub fit : All RowFits rows

pub none_read : (b : List ℕ) (rows : List MapRow) → rows ≡ [] → AreRead b 0 rows
none_read b rows e = record { bytes = ap (λ (xs : List MapRow). flat_map row_bytes xs ++ b) e; fit = subst (All RowFits) (sym e) (All-nil RowFits) }

all_more : (rows : List MapRow) (r : MapRow) → All RowFits rows → RowFits r → All RowFits (rows ++ r ∷ [])
all_more [] r h f = All-cons RowFits r [] f h
all_more (q ∷ rows) r h f = All-cons RowFits q (rows ++ r ∷ []) (All-head RowFits q rows h) (all_more rows r (All-tail RowFits q rows h) f)

pub one_more : (b : List ℕ) (i : ℕ) (rows new : List MapRow) (r : MapRow) → new ≡ rows ++ r ∷ [] → IsRow b (16 * i) r → AreRead b i rows → AreRead b (i + 1) new
one_more b i rows new r e row h =
    let next : 16 * (i + 1) ≡ 16 * i + 16 = omega arith in
    record {
      bytes =
          ap (λ (xs : List MapRow). flat_map row_bytes xs ++ drop (16 * (i + 1)) b) e
          ∙ ap (λ (n : ℕ). flat_map row_bytes (rows ++ r ∷ []) ++ drop n b) next
          ∙ ap (λ (xs : List ℕ). xs ++ drop (16 * i + 16) b) (sym (flat_map_more row_bytes [] rows r))
          ∙ append_assoc (flat_map row_bytes rows) (row_bytes r) (drop (16 * i + 16) b)
          ∙ ap (λ (xs : List ℕ). flat_map row_bytes rows ++ xs) (sym row.bytes) ∙ h.bytes;
      fit = subst (All RowFits) (sym e) (all_more rows r h.fit row.fit);
    }

pub all_read : (b : List ℕ) (i : ℕ) (rows : List MapRow) → length b ≤ 16 * i → AreRead b i rows → AreRows b rows
all_read b i rows l h = record {
  bytes = sym h.bytes ∙ ap (λ (xs : List ℕ). flat_map row_bytes rows ++ xs) (drop_all (16 * i) b l) ∙ append-nil (flat_map row_bytes rows);
  fit = h.fit;
}

further : (b rest : List ℕ) (i : ℕ) → drop 16 b ≡ rest → drop (16 * suc i) b ≡ drop (16 * i) rest
further b rest i e =
    let next : 16 * suc i ≡ 16 + 16 * i = omega arith in
    ap (λ (m : ℕ). drop m b) next ∙ sym (drop-drop (16 * i) 16 b) ∙ ap (drop (16 * i)) e

row_in : (rows : List MapRow) (i : ℕ) (b : List ℕ) → b ≡ flat_map row_bytes rows → 16 * i < length b → (r : MapRow) × (rest : List ℕ) × (drop (16 * i) b ≡ row_bytes r ++ rest)
row_in [] i b e l = absurd (let n : length b ≡ 0 = ap length e in omega (arith, n, l))
row_in (r ∷ rows) zero b e l = (r, flat_map row_bytes rows, e)
row_in (r ∷ rows) (suc i) b e l =
    let n : length b ≡ 16 + length (flat_map row_bytes rows) = ap length e ∙ omega arith in
    let f = row_in rows i (flat_map row_bytes rows) refl (omega (arith, n, l)) in
    (f.0, f.1, further b (flat_map row_bytes rows) i (ap (drop 16) e) ∙ f.2)

pub no_rows : (b : List ℕ) (i : ℕ) → 16 * i < length b → IsRowAt b (16 * i) None → HasNoRows b
no_rows b i l none = λ rows h. let f = row_in rows i b h.bytes l in none f.0 f.1 f.2

pub same_rows : (xs ys : List MapRow) → flat_map row_bytes xs ≡ flat_map row_bytes ys → All RowFits xs → All RowFits ys → xs ≡ ys
same_rows [] [] e f g = refl
same_rows [] (y ∷ ys) e f g = absurd (let n = ap length e in omega (arith, n))
same_rows (x ∷ xs) [] e f g = absurd (let n = ap length e in omega (arith, n))
same_rows (x ∷ xs) (y ∷ ys) e f g =
    let b = flat_map row_bytes (x ∷ xs) in
    let s : x.section ≡ y.section = sym (section_read b 0 x (flat_map row_bytes xs) refl (All-head RowFits x xs f).section) ∙ section_read b 0 y (flat_map row_bytes ys) e (All-head RowFits y ys g).section in
    let o : x.old ≡ y.old = sym (old_read b 0 x (flat_map row_bytes xs) refl (All-head RowFits x xs f).old) ∙ old_read b 0 y (flat_map row_bytes ys) e (All-head RowFits y ys g).old in
    let n : x.new ≡ y.new = sym (new_read b 0 x (flat_map row_bytes xs) refl (All-head RowFits x xs f).new) ∙ new_read b 0 y (flat_map row_bytes ys) e (All-head RowFits y ys g).new in
    let k : x.kind ≡ y.kind = same_kind x.kind y.kind (sym (kind_read b 0 x (flat_map row_bytes xs) refl) ∙ kind_read b 0 y (flat_map row_bytes ys) e) in
    let rest = same_rows xs ys (ap (drop 16) e) (All-tail RowFits x xs f) (All-tail RowFits y ys g) in
    λ i. (record { section = s i; old = o i; new = n i; kind = k i }) ∷ rest i

pub whole_rows : (rows : List MapRow) → length (flat_map row_bytes rows) ≡ 16 * length rows
whole_rows [] = refl
whole_rows (r ∷ rows) = omega (arith, whole_rows rows)

pub kind_back : (code : ℕ) (k : RowKind) → row_kind_of code ≡ Some k → code ≡ row_kind k
kind_back zero Start h = refl
kind_back zero Return h = absurd (grind (arith, h))
kind_back (suc zero) Start h = absurd (grind (arith, h))
kind_back (suc zero) Return h = refl
kind_back (suc (suc n)) k h = absurd (grind (arith, h))

pub row_read : (b : List ℕ) (at s o n : ℕ) (k : RowKind) → at + 16 ≤ length b → ((i : ℕ) → slice_index b i < 256) → word_at b (at + 12) ≡ row_kind k
    → s ≡ word_at b at → o ≡ word_at b (at + 4) → n ≡ word_at b (at + 8) → s < 2 ^ 32 → o < 2 ^ 32 → n < 2 ^ 32
    → IsRow b at (record { section = s; old = o; new = n; kind = k })
row_read b at s o n k l h kind es eo en fs fo fn =
    let there = row_there b at k l h kind in
    record {
      bytes = there ∙ (λ i. word (sym es i) ++ word (sym eo i) ++ word (sym en i) ++ word (row_kind k) ++ drop (at + 16) b);
      fit = record { section = fs; old = fo; new = fn };
    }
