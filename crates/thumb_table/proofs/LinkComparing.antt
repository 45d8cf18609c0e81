-- A comparison of all offsets, and what it shows of an image.
use Rattle.std.specs.Prelude.{◌≡◌, ◌<◌, ◌≤◌, ℕ, zero, suc, ◌+◌, ◌==◌, nat_lt, Bool, true, false, ◌&&◌, ◌||◌, List, [], ◌∷◌, length, get_or, Option, Some, None, is_none, Contains, refl, Ok, Err, is_ok}
use Rattle.std.specs.List.{list_any}
use Rattle.std.proofs.Common.{arith, inl, inr, ap, sym, ◌∙◌, subst}
use Rattle.std.proofs.lemmas.Bool.{cases_Bool, both_ways, and_parts, or_cases, eqb-true, ltb-true, ltb-false}
use Rattle.std.proofs.lemmas.List.{get_or_past}
use Rattle.elf_model.specs.Fields.{byte_at}
use Rattle.elf_model.specs.Objects.{ObjectParts}
use Rattle.elf_model.proofs.Elements.{contains_here, contains_later}
use Rattle.mark_word.specs.declared.cells.Piece.{Piece}
use Rattle.mark_word.specs.Words.{Cell, bare}
use Rattle.thumb_instr.specs.declared.instructions.Instr.{Instr}
use Rattle.thumb_instr.specs.Rows.{Answer}
use Rattle.thumb_table.specs.declared.placements.Placement.{Placement}
use Rattle.thumb_table.specs.Layouts.{code_bytes_of, data_bytes_of}
use Rattle.thumb_table.specs.Links.{Link, IsLink, covers, IsFree}

-- each offset below n passes a test, or a link covers it
abbrev pub agrees : List Link → ℕ → (ℕ → Bool) → ℕ → Bool
agrees ls base same zero = true
agrees ls base same (suc n) = agrees ls base same n && (list_any (covers (base + n)) ls || same n)

agrees_at : (ls : List Link) (base : ℕ) (same : ℕ → Bool) (n x : ℕ) → agrees ls base same n ≡ true → x < n → (list_any (covers (base + x)) ls || same x) ≡ true
agrees_at ls base same zero x h lt = absurd (omega arith)
agrees_at ls base same (suc n) x h lt =
    let parts = and_parts (agrees ls base same n) (list_any (covers (base + n)) ls || same n) h in
    elim (cases_Bool (nat_lt x n)) [
      | inl y ↦ agrees_at ls base same n x parts.0 (ltb-true x n y)
      | inr z ↦
          let le = ltb-false x n z in
          let e : n ≡ x = omega arith in
          subst (λ (m : ℕ). (list_any (covers (base + m)) ls || same m) ≡ true) e parts.1
    ]

none_covers : (a : ℕ) (ls : List Link) → ((l : Link) → Contains ls l → covers a l ≡ false) → list_any (covers a) ls ≡ true → ⊥
none_covers a [] free h = both_ways false refl h
none_covers a (l ∷ ls) free h =
    elim (or_cases (covers a l) (list_any (covers a) ls) h) [
      | inl y ↦ both_ways (covers a l) (free l (contains_here l ls)) y
      | inr z ↦ none_covers a ls (λ m c. free m (contains_later l ls m c)) z
    ]

-- on a free offset the test is passed
passed : (objects : List ObjectParts) (at : Placement) (ls : List Link) → ((l : Link) → Contains ls l → IsLink objects at l)
    → (base : ℕ) (same : ℕ → Bool) (n x : ℕ) → agrees ls base same n ≡ true → x < n → IsFree objects at (base + x) → same x ≡ true
passed objects at ls sound base same n x h lt free =
    elim (or_cases (list_any (covers (base + x)) ls) (same x) (agrees_at ls base same n x h lt)) [
      | inl y ↦ absurd (none_covers (base + x) ls (λ l c. free l (sound l c)) y)
      | inr z ↦ z
    ]

abbrev pub same_byte : List ℕ → List ℕ → ℕ → Bool
same_byte bytes raw x = byte_at bytes x == byte_at raw x

pub code_elsewhere : (objects : List ObjectParts) (at : Placement) (bytes : List ℕ) (ls : List Link) → ((l : Link) → Contains ls l → IsLink objects at l)
    → length bytes ≡ length (code_bytes_of objects at) → agrees ls at.base (same_byte bytes (code_bytes_of objects at)) (length bytes) ≡ true
    → (x : ℕ) → IsFree objects at (at.base + x) → byte_at bytes x ≡ byte_at (code_bytes_of objects at) x
code_elsewhere objects at bytes ls sound size h x free =
    let raw : List ℕ = code_bytes_of objects at in
    elim (cases_Bool (nat_lt x (length bytes))) [
      | inl y ↦ eqb-true (byte_at bytes x) (byte_at raw x) (passed objects at ls sound at.base (same_byte bytes raw) (length bytes) x h (ltb-true x (length bytes) y) free)
      | inr z ↦
          let past = ltb-false x (length bytes) z in
          let a : length bytes ≤ x = omega arith in
          let b : length raw ≤ x = omega arith in
          get_or_past bytes x 0 a ∙ sym (get_or_past raw x 0 b)
    ]

abbrev pub same_cell : List Cell → List ℕ → ℕ → Bool
same_cell cells raw x = ((get_or cells x (bare 0)).byte == byte_at raw x) && is_none (get_or cells x (bare 0)).piece

bare_cell : (c : Cell) (b : ℕ) → c.byte ≡ b → c.piece ≡ None → c ≡ bare b
bare_cell c b h e = ap (λ (p : Option Piece). record { byte = c.byte; piece = p }) e ∙ ap (λ (n : ℕ). bare n) h

no_piece : (p : Option Piece) → is_none p ≡ true → p ≡ None
no_piece None h = refl
no_piece (Some p) h = absurd (both_ways false refl h)

pub data_elsewhere : (objects : List ObjectParts) (at : Placement) (cells : List Cell) (ls : List Link) → ((l : Link) → Contains ls l → IsLink objects at l)
    → length cells ≡ length (data_bytes_of objects at) → agrees ls (at.base + at.room) (same_cell cells (data_bytes_of objects at)) (length cells) ≡ true
    → (x : ℕ) → IsFree objects at (at.base + at.room + x) → get_or cells x (bare 0) ≡ bare (byte_at (data_bytes_of objects at) x)
data_elsewhere objects at cells ls sound size h x free =
    let raw : List ℕ = data_bytes_of objects at in
    elim (cases_Bool (nat_lt x (length cells))) [
      | inl y ↦
          let test = passed objects at ls sound (at.base + at.room) (same_cell cells raw) (length cells) x h (ltb-true x (length cells) y) free in
          let parts = and_parts ((get_or cells x (bare 0)).byte == byte_at raw x) (is_none (get_or cells x (bare 0)).piece) test in
          bare_cell (get_or cells x (bare 0)) (byte_at raw x) (eqb-true (get_or cells x (bare 0)).byte (byte_at raw x) parts.0) (no_piece (get_or cells x (bare 0)).piece parts.1)
      | inr z ↦
          let past = ltb-false x (length cells) z in
          let a : length cells ≤ x = omega arith in
          let b : length raw ≤ x = omega arith in
          get_or_past cells x (bare 0) a ∙ sym (ap (λ (n : ℕ). bare n) (get_or_past raw x 0 b))
    ]

-- the instruction that an answer has
abbrev pub instr_of : (a : Answer) → is_ok a ≡ true → Instr
instr_of (Ok i) h = i
instr_of (Err e) h = absurd (both_ways false refl h)
