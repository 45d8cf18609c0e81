-- The bytes of sections that are kept, with the words of relocations that turn cleared.
use Rattle.std.specs.Prelude.{◌≡◌, ◌≢◌, ◌<◌, ℕ, ◌+◌, ◌==◌, ◌&&◌, nat_le, nat_lt, Bool, List, [], length, Some, if◌then◌else◌, slice_get, Vec}
use Rattle.std.specs.Global.{Global}
use Rattle.std.specs.List.{list_any}
use Rattle.elf_model.specs.declared.objects.Section.{Section}
use Rattle.elf_model.specs.declared.objects.Reloc.{Reloc}
use Rattle.elf_model.specs.Fields.{byte_at}
use Rattle.elf_model.specs.Objects.{ObjectParts, is_code}
use Rattle.hardened_form.specs.Turns.{is_turned}

-- all as it was, but 0 at the offsets of a test
pub record AreCleared (test : ℕ → Bool) (old new : List ℕ) : Type 0 where
  pub count : length new ≡ length old
  pub bytes : (x : ℕ) → x < length old → byte_at new x ≡ (if test x then 0 else byte_at old x)

-- one of so many bytes from an offset on
abbrev pub is_among : ℕ → ℕ → ℕ → Bool
is_among at n x = nat_le at x && nat_lt x (at + n)

-- a word of section j
pub record IsClearedIn (j at : ℕ) (old new : List (Vec ℕ Global)) : Type 0 where
  pub count : length new ≡ length old
  pub here : (v w : Vec ℕ Global) → slice_get old j ≡ Some v → slice_get new j ≡ Some w → AreCleared (is_among at 4) v.items w.items
  pub others : (i : ℕ) → i ≢ j → slice_get new i ≡ slice_get old i

-- a byte of section j in the word of a relocation that turns
abbrev pub clears : ObjectParts → ℕ → ℕ → Reloc → Bool
clears o j x r = (r.section == j) && (nat_le r.offset x && (nat_lt x (r.offset + 4) && is_turned o r))

pub record AreClearedFor (o : ObjectParts) (r : Reloc) (old new : List (Vec ℕ Global)) : Type 0 where
  pub count : length new ≡ length old
  pub each : (j : ℕ) (v w : Vec ℕ Global) → slice_get old j ≡ Some v → slice_get new j ≡ Some w → AreCleared (λ x. clears o j x r) v.items w.items

-- those of code are not kept
abbrev pub kept_of : Section → List ℕ
kept_of s = if is_code s then [] else s.bytes

-- the bytes of each section that are kept, with the words of these relocations cleared
pub record AreKept (o : ObjectParts) (relocs : List Reloc) (all : List (Vec ℕ Global)) : Type 0 where
  pub count : length all ≡ length o.sections
  pub each : (j : ℕ) (s : Section) (v : Vec ℕ Global) → slice_get o.sections j ≡ Some s → slice_get all j ≡ Some v → AreCleared (λ x. list_any (clears o j x) relocs) (kept_of s) v.items
