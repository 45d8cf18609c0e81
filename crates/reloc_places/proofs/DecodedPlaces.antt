-- What the table of instructions says of the places of relocations.
use Rattle.std.proofs.Common.{◌≡◌, ◌∙◌, ℕ, ◌+◌, Bool, true, false, List, Some, None, refl, sym}
use Rattle.std.specs.Prelude.{not, ◌&&◌, if◌then◌else◌}
use Rattle.elf_model.specs.declared.objects.RelocKind.{RelocKind}
use Rattle.elf_model.specs.declared.objects.RelocKind.TheVariants.{Abs32, Target1, ThmCall, ThmJump24, MovwAbs, MovtAbs, ThmJump19, ThmJump11, ThmJump8, Other}
use Rattle.elf_model.specs.Fields.{half_at}
use Rattle.elf_model.specs.Ranges.{is_long}
use Rattle.thumb_instr.specs.declared.instructions.Instr.{Instr}
use Rattle.thumb_instr.specs.declared.instructions.Instr.TheVariants as instr
use Rattle.thumb_instr.specs.declared.refusals.ItPlace.{ItPlace}
use Rattle.thumb_instr.specs.declared.refusals.ItPlace.TheVariants.{Outside}
use Rattle.thumb_instr.specs.Blocks.{place_in_block}
use Rattle.thumb_instr.specs.Formed.{is_always_wide}
use Rattle.thumb_instr.specs.Numbers.{has_number}
use Rattle.thumb_instr.specs.Rows.{is_wide, decode, decode_given}
use Rattle.thumb_instr.proofs.Decoded.{decode_wide}
use Rattle.thumb_instr.proofs.Numbers.{renumbers}
use Rattle.reloc_places.specs.Starts.{decoded_at}
use Rattle.reloc_places.specs.Relocations.{is_bl, is_b, is_mov, fits_kind}
use Rattle.reloc_places.specs.DecodedPlaces.{LongAlone, NumberAlone}

-- the second halfword where there is one
abbrev second : List ℕ → ℕ → ℕ
second bytes x = if is_long (half_at bytes x) then half_at bytes (x + 2) else 0

given_is : (wide : Bool) (place : ItPlace) (h s : ℕ) → is_wide h ≡ wide → decode_given place h (if wide then Some s else None) ≡ decode place h (if wide then s else 0)
given_is true place h s e = refl
given_is false place h s e = rw e refl

decoded_is : (bytes : List ℕ) (x it : ℕ) → decoded_at bytes x it ≡ decode (place_in_block it) (half_at bytes x) (second bytes x)
decoded_is bytes x it = given_is (is_long (half_at bytes x)) (place_in_block it) (half_at bytes x) (half_at bytes (x + 2)) refl

none_wide : (i : Instr) → is_always_wide i ≡ false → (is_bl i ≡ false) × (is_mov false i ≡ false) × (is_mov true i ≡ false)
none_wide (instr.Call i) e = (cc)
none_wide (instr.Half i) e = (cc)
none_wide i e = (refl, refl, refl)

pub long_alone : LongAlone
long_alone bytes x i e short = none_wide i (decode_wide Outside (half_at bytes x) (second bytes x) i (sym (decoded_is bytes x 0) ∙ e) short)

bl_has : (i : Instr) → is_bl i ≡ true → has_number i ≡ true
bl_has (instr.Call i) e = refl
bl_has i e = (cc)

b_has : (conditional : Bool) (i : Instr) → is_b conditional i ≡ true → has_number i ≡ true
b_has conditional (instr.Branch i) e = refl
b_has conditional i e = (cc)

mov_has : (top : Bool) (i : Instr) → is_mov top i ≡ true → has_number i ≡ true
mov_has top (instr.Half i) e = refl
mov_has top i e = (cc)

long_has : (long conditional : Bool) (i : Instr) → (long && is_b conditional i) ≡ true → has_number i ≡ true
long_has true conditional i e = b_has conditional i e
long_has false conditional i e = (cc)

short_has : (long conditional : Bool) (i : Instr) → (not long && is_b conditional i) ≡ true → has_number i ≡ true
short_has true conditional i e = (cc)
short_has false conditional i e = b_has conditional i e

kind_has : (kind : RelocKind) (long : Bool) (i : Instr) → fits_kind kind long i ≡ true → has_number i ≡ true
kind_has Abs32 long i e = (cc)
kind_has Target1 long i e = (cc)
kind_has ThmCall long i e = bl_has i e
kind_has ThmJump24 long i e = long_has long false i e
kind_has MovwAbs long i e = mov_has false i e
kind_has MovtAbs long i e = mov_has true i e
kind_has ThmJump19 long i e = long_has long true i e
kind_has ThmJump11 long i e = short_has long false i e
kind_has ThmJump8 long i e = short_has long true i e
kind_has (Other k) long i e = (cc)

pub number_alone : NumberAlone
number_alone old new x y n it kind i j e fits here there =
    decoded_is new y it ∙ renumbers (place_in_block it) (half_at old x) (second old x) (half_at new y) (second new y) n i j (sym (decoded_is old x 0) ∙ e) (kind_has kind (is_long (half_at old x)) i fits) (sym (decoded_is old x it) ∙ here) (sym (decoded_is new y 0) ∙ there)
