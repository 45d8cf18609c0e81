-- Instructions that control reaches stand at even offsets, where the objects have an image.
use Rattle.std.specs.Prelude.{◌≡◌, ℕ, ℤ, pos, negsuc, ◌+◌, ◌%◌, ◌^◌, ◌==◌, not, nat_le, Bool, true, false, refl}
use Rattle.std.specs.Int.{w32, cast_unsigned}
use Rattle.std.proofs.Common.{arith}
use Rattle.std.proofs.lemmas.Bool.{both_ways, and_parts, eqb-true}
use Rattle.elf_model.specs.declared.objects.RelocKind.{RelocKind}
use Rattle.elf_model.specs.declared.objects.RelocKind.TheVariants.{Abs32, Target1, ThmCall, ThmJump24, MovwAbs, MovtAbs, ThmJump19, ThmJump11, ThmJump8, Other}
use Rattle.elf_model.specs.Objects.{even}
use Rattle.thumb_instr.specs.declared.instructions.Instr.{Instr}
use Rattle.thumb_instr.specs.declared.instructions.Instr.TheVariants as instr
use Rattle.thumb_instr.specs.Formed.{IsFormed}
use Rattle.thumb_instr.specs.Numbers.{has_number}
use Rattle.thumb_instr.specs.Operands.{is_even, is_short}
use Rattle.reloc_places.specs.Relocations.{is_jump, is_bl, is_b, is_mov, fits_kind}
use Rattle.flow_recover.specs.Aims.{has_offset, own_target, offset_of}

-- ---- offsets of branches

even_wrap : (z : ℤ) → is_even z ≡ true → cast_unsigned w32 z % 2 ≡ 0
even_wrap (pos n) e = let h = eqb-true (n % 2) 0 e in omega (arith, h)
even_wrap (negsuc n) e = let h = eqb-true (n % 2) 1 e in omega (arith, h)

short_even : (z : ℤ) → is_short z ≡ true → is_even z ≡ true
short_even (pos n) e = (and_parts (nat_le n 126) (n % 2 == 0) e).1
short_even (negsuc n) e = absurd (both_ways false refl e)

offset_even : (i : Instr) → IsFormed i → has_offset i ≡ true → cast_unsigned w32 (offset_of i) % 2 ≡ 0
offset_even (instr.Branch i) f h = even_wrap i.offset f.fields
offset_even (instr.ZeroBranch i) f h = even_wrap i.offset (short_even i.offset f.fields)
offset_even (instr.Call i) f h = even_wrap i.offset f.fields
offset_even i f h = absurd cc

pub own_even : (x : ℕ) (i : Instr) → IsFormed i → has_offset i ≡ true → x % 2 ≡ 0 → own_target x i % 2 ≡ 0
own_even x i f h even = go (cast_unsigned w32 (offset_of i)) (offset_even i f h)
  where
    go : (n : ℕ) → n % 2 ≡ 0 → (x + 4 + n) % 2 ^ 32 % 2 ≡ 0
    go n e = omega (arith, e, even)

-- ---- kinds of relocations on branches

bl_numbered : (i : Instr) → is_bl i ≡ true → has_number i ≡ true
bl_numbered (instr.Call i) e = refl
bl_numbered i e = absurd cc

b_numbered : (c : Bool) (i : Instr) → is_b c i ≡ true → has_number i ≡ true
b_numbered c (instr.Branch i) e = refl
b_numbered c i e = absurd cc

mov_numbered : (top : Bool) (i : Instr) → is_mov top i ≡ true → (has_number i ≡ true) × (has_offset i ≡ false)
mov_numbered top (instr.Half i) e = (refl, refl)
mov_numbered top i e = absurd cc

-- what a relocation may stand on has a number, and is a branch or call only where the relocation is of one
pub fitting : (kind : RelocKind) (long : Bool) (i : Instr) → fits_kind kind long i ≡ true → (has_number i ≡ true) × (has_offset i ≡ true → is_jump kind ≡ true)
fitting Abs32 long i e = absurd cc
fitting Target1 long i e = absurd cc
fitting (Other n) long i e = absurd cc
fitting ThmCall long i e = (bl_numbered i e, λ h. refl)
fitting ThmJump24 long i e = (b_numbered false i (and_parts long (is_b false i) e).1, λ h. refl)
fitting ThmJump19 long i e = (b_numbered true i (and_parts long (is_b true i) e).1, λ h. refl)
fitting ThmJump11 long i e = (b_numbered false i (and_parts (not long) (is_b false i) e).1, λ h. refl)
fitting ThmJump8 long i e = (b_numbered true i (and_parts (not long) (is_b true i) e).1, λ h. refl)
fitting MovwAbs long i e = let m = mov_numbered false i e in (m.0, λ h. absurd (both_ways (has_offset i) m.1 h))
fitting MovtAbs long i e = let m = mov_numbered true i e in (m.0, λ h. absurd (both_ways (has_offset i) m.1 h))
