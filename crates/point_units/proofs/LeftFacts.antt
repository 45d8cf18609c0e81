-- The instruction that is replaced is of the class of the point's own, needs what that needs, and has a row where that
-- has one.
use Rattle.std.specs.Prelude.{◌≡◌, ◌*◌, ◌+◌, ◌^◌, ℕ, nat_lt, Bool, true, false, List, [], ◌∷◌, Option, Some, Ok, if◌then◌else◌, refl}
use Rattle.std.proofs.Common.{◌∙◌}
use Rattle.std.proofs.lemmas.Bool.{true≢false, and_parts, and_from}
use Rattle.elf_model.specs.declared.objects.Reloc.{Reloc}
use Rattle.elf_model.specs.Objects.{ObjectParts}
use Rattle.thumb_instr.specs.declared.refusals.ItPlace.TheVariants.{Outside}
use Rattle.thumb_instr.specs.declared.instructions.Instr.{Instr}
use Rattle.thumb_instr.specs.declared.instructions.Instr.TheVariants as instr
use Rattle.thumb_instr.specs.Fields.{HalfFields}
use Rattle.thumb_instr.specs.Patterns.{decoded}
use Rattle.thumb_instr.specs.HalfRows.{half_rows}
use Rattle.thumb_instr.specs.FullRows.{full_rows}
use Rattle.thumb_instr.specs.Rows.{is_wide}
use Rattle.thumb_instr.specs.Sets.{reads_of, writes_of}
use Rattle.thumb_instr.proofs.Decoded.{decode_formed, decode_wide}
use Rattle.thumb_encode.specs.HasFull.{has_full, lacks_sp}
use Rattle.thumb_encode.proofs.FullTold.{code_told}
use Rattle.flow_recover.specs.declared.flows.Point.{Point}
use Rattle.hardened_form.specs.Turns.{is_turned}
use Rattle.hardened_form.specs.Code.{reloc_of}
use Rattle.seq_core.specs.declared.classes.Class.{Class}
use Rattle.seq_core.specs.declared.classes.Class.TheVariants.{Twice, Through}
use Rattle.seq_core.specs.Builders.{AreFree, FullCodesAreRows, HasRow}
use Rattle.seq_core.specs.Classes.{IsOf, adds_long_product, names}
use Rattle.seq_core.specs.Needs.{registers_of}
use Rattle.seq_core.specs.Twice.{own_condition}
use Rattle.point_units.specs.Units.{left_by, left_instr}

-- MOVW or MOVT of 0
abbrev pub zeroed : HalfFields → Instr
zeroed h = instr.Half (record h { imm = 0 })

kept_by : (P : Instr → Type 0) → ((h : HalfFields) → P (instr.Half h) → P (zeroed h)) → (o : ObjectParts) (r : Option Reloc) (i : Instr) → P i → P (left_by o r i)
kept_by P turn o (Some r) (instr.Half h) p = go (is_turned o r)
  where
    go : (b : Bool) → P (if b then zeroed h else instr.Half h)
    go true = turn h p
    go false = p
kept_by P turn o r i p = p

-- What a MOVW or MOVT keeps with the number 0 is kept.
pub left_keeps : (P : Instr → Type 0) → ((h : HalfFields) → P (instr.Half h) → P (zeroed h)) → (o : ObjectParts) (x : Point) → P x.instr → P (left_instr o x)
left_keeps P turn o x p = kept_by P turn o (reloc_of o x.reloc) x.instr p

unnamed : (c : Class) (h : HalfFields) → names c (zeroed h) ≡ false
unnamed Twice h = refl
unnamed c h = refl

of_zeroed : (c : Class) (h : HalfFields) → IsOf c (instr.Half h) → IsOf c (zeroed h)
unfolding reads_of writes_of
of_zeroed Twice h e = e
of_zeroed Through h e = (e.0, e.1, λ c. unnamed c h)
of_zeroed c h e = e

pub left_of : (o : ObjectParts) (x : Point) (c : Class) → IsOf c x.instr → IsOf c (left_instr o x)
left_of o x c of = left_keeps (IsOf c) (of_zeroed c) o x of

registers_zeroed : (c : Class) (h : HalfFields) → registers_of c (instr.Half h) ≡ registers_of c (zeroed h)
registers_zeroed Twice h = refl
registers_zeroed c h = refl

pub left_needs : (o : ObjectParts) (x : Point) (c : Class) → registers_of c x.instr ≡ registers_of c (left_instr o x)
left_needs o x c = left_keeps (λ i. registers_of c x.instr ≡ registers_of c i) (λ h e. e ∙ registers_zeroed c h) o x refl

pub left_condition : (o : ObjectParts) (x : Point) → own_condition (left_instr o x) ≡ own_condition x.instr
left_condition o x = left_keeps (λ i. own_condition i ≡ own_condition x.instr) (λ h e. e) o x refl

pub left_adds : (o : ObjectParts) (x : Point) → adds_long_product (left_instr o x) ≡ adds_long_product x.instr
left_adds o x = left_keeps (λ i. adds_long_product i ≡ adds_long_product x.instr) (λ h e. e) o x refl

free_zeroed : (h : HalfFields) (qs : List ℕ) → AreFree (instr.Half h) qs → AreFree (zeroed h) qs
unfolding reads_of writes_of
free_zeroed h [] f = tt
free_zeroed h (q ∷ qs) f = (record { low = f.0.low; unread = f.0.unread; unwritten = f.0.unwritten }, f.1, free_zeroed h qs f.2)

pub left_free : (o : ObjectParts) (x : Point) (qs : List ℕ) → AreFree x.instr qs → AreFree (left_instr o x) qs
left_free o x qs f = left_keeps (λ i. AreFree i qs) (λ h g. free_zeroed h qs g) o x f

-- MOVW and MOVT have a code of two halfwords, whatever their number.
half_full : (h : HalfFields) → HasRow (instr.Half h) → has_full (instr.Half h) ≡ true
half_full h row = go (is_wide row.first) refl row.stands
  where
    go : (b : Bool) → is_wide row.first ≡ b → (if b then decoded 32 (full_rows Outside) (row.first * 2 ^ 16 + row.second) else decoded 16 (half_rows Outside) row.first) ≡ Ok (instr.Half h) → has_full (instr.Half h) ≡ true
    go true wide is = code_told (row.first * 2 ^ 16 + row.second) (instr.Half h) is
    go false short is = absurd (true≢false (decode_wide Outside row.first row.second (instr.Half h) row.stands short))

full_zeroed : (h : HalfFields) → has_full (instr.Half h) ≡ true → has_full (zeroed h) ≡ true
unfolding has_full
full_zeroed h e = and_from (lacks_sp (h.d ∷ [])) true (and_parts (lacks_sp (h.d ∷ [])) (nat_lt h.imm (2 ^ 16)) e).0 refl

row_zeroed : FullCodesAreRows → (h : HalfFields) → HasRow (instr.Half h) → HasRow (zeroed h)
row_zeroed rows h row =
    let formed = decode_formed Outside row.first row.second (instr.Half h) row.stands in
    rows (zeroed h) formed.registers tt (full_zeroed h (half_full h row))

pub left_row : FullCodesAreRows → (o : ObjectParts) (x : Point) → HasRow x.instr → HasRow (left_instr o x)
left_row rows o x row = left_keeps HasRow (row_zeroed rows) o x row
