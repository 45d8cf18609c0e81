-- The instruction in the place of a relocation in range has a code with the number that linking makes.
use Rattle.std.proofs.Common.{◌≡◌, ◌<◌, ℕ, ℤ, ◌+◌, ◌*◌, ◌^◌, Bool, true, false, cond, List, [], ◌∷◌, refl, sym, ap, ◌∙◌, subst, arith, Option, Some, None, Ok}
use Rattle.std.specs.Prelude.{◌&&◌, not, nat_lt, is_some, IfSome, IfNone, if◌then◌else◌}
use Rattle.std.proofs.lemmas.Bool.{and_parts, and_from, lt-ltb, true≢false}
use Rattle.std.proofs.lemmas.Option.{same_Some}
use Rattle.elf_model.specs.declared.objects.RelocKind.{RelocKind}
use Rattle.elf_model.specs.declared.objects.RelocKind.TheVariants.{Abs32, Target1, ThmCall, ThmJump24, MovwAbs, MovtAbs, ThmJump19, ThmJump11, ThmJump8, Other}
use Rattle.elf_model.specs.Fields.{half_at}
use Rattle.elf_model.specs.Objects.{ObjectParts, even}
use Rattle.elf_model.specs.Ranges.{is_long}
use Rattle.thumb_instr.specs.declared.conditions.Cond.{Cond}
use Rattle.thumb_instr.specs.declared.conditions.Cond.TheVariants.{Al}
use Rattle.thumb_instr.specs.declared.instructions.Instr.{Instr}
use Rattle.thumb_instr.specs.declared.instructions.Instr.TheVariants as instr
use Rattle.thumb_instr.specs.declared.refusals.ItPlace.TheVariants.{Outside}
use Rattle.thumb_instr.specs.Meanings.{signed}
use Rattle.thumb_instr.specs.Numbers.{renumbered}
use Rattle.thumb_instr.specs.Rows.{is_wide, decode_given}
use Rattle.thumb_instr.specs.Patterns.{Answer, decoded}
use Rattle.thumb_instr.specs.HalfRows.{half_rows}
use Rattle.thumb_instr.specs.FullRows.{full_rows}
use Rattle.thumb_encode.specs.declared.codes.Code.{Code}
use Rattle.thumb_encode.specs.declared.codes.Code.TheVariants as code
use Rattle.thumb_encode.specs.declared.codes.Width.{Width}
use Rattle.thumb_encode.specs.declared.codes.Width.TheVariants as width
use Rattle.thumb_encode.specs.Encoding.{IsCodeOf}
use Rattle.thumb_encode.specs.HasFull.{has_full, lacks_sp, is_signed, is_always}
use Rattle.thumb_encode.proofs.Covering.{if_true}
use Rattle.thumb_encode.proofs.FullTold.{code_told}
use Rattle.reloc_places.specs.Starts.{decoded_at}
use Rattle.reloc_places.specs.Relocations.{may_fail, is_word, is_jump, is_bl, is_b, is_mov, fits_kind}
use Rattle.reloc_places.proofs.DecodedPlaces.{long_alone}
use Rattle.thumb_table.specs.declared.placements.Placement.{Placement}
use Rattle.thumb_table.specs.Layouts.{Placed}
use Rattle.thumb_table.specs.Names.{is_function}
use Rattle.thumb_table.specs.Links.{Link, reach, sum_of, full, offset_of, value_of, value_for, is_straight, can_branch, is_in_range, is_reached, is_thumb_address}
use Rattle.flat_link.specs.Ties.{IsTied}
use Rattle.flat_link.specs.Patches.{IsNumberOf, width_if, HasPlaceCode}
use Rattle.flat_link.proofs.NumberCodes.{IsNear, is_near, near_bits, HasHalf, always_has, sometimes_has}
use Rattle.flat_link.proofs.WrittenFacts.{has_instr}

-- the number that linking makes fits its kind
abbrev pub FitsKind : RelocKind → ℕ → Type 0
FitsKind ThmCall n = IsNear (2 ^ 24) n
FitsKind ThmJump24 n = IsNear (2 ^ 24) n
FitsKind ThmJump19 n = IsNear (2 ^ 20) n
FitsKind ThmJump11 n = IsNear (2 ^ 11) n
FitsKind ThmJump8 n = IsNear (2 ^ 8) n
FitsKind MovwAbs n = n < 2 ^ 16
FitsKind MovtAbs n = n < 2 ^ 16
FitsKind k n = Unit {0}

pub record CanCode (i : Instr) (n : ℕ) (long : Bool) : Type 0 where
  pub number : IsNumberOf i n
  pub in_full : long ≡ true → has_full (renumbered n i) ≡ true
  pub in_half : long ≡ false → HasHalf (renumbered n i)

always_far : (c : Cond) (z : ℤ) → not (may_fail c) ≡ true → is_signed 25 z ≡ true → is_signed (if is_always c then 25 else 21) z ≡ true
always_far Al z e h = h
always_far c z e h = absurd (true≢false (sym e))

sometimes_far : (c : Cond) (z : ℤ) → may_fail c ≡ true → is_signed 21 z ≡ true → is_signed (if is_always c then 25 else 21) z ≡ true
sometimes_far Al z e h = absurd (true≢false (sym e))
sometimes_far c z e h = h

always_half : (c : Cond) (n : ℕ) → not (may_fail c) ≡ true → n < 2 ^ 32 → IsNear (2 ^ 11) n → HasHalf (instr.Branch (record { cond = c; offset = signed 32 n }))
always_half Al n e small near = always_has n small near
always_half c n e small near = absurd (true≢false (sym e))

-- by kind
call_codes : (long : Bool) (i : Instr) (n : ℕ) → is_bl i ≡ true → (long ≡ false → is_bl i ≡ false) → IsNear (2 ^ 24) n → CanCode i n long
unfolding has_full
call_codes long (instr.Call a) n fits alone near = record {
  number = near.even;
  in_full = λ e. near_bits 25 (2 ^ 24) n refl (omega arith) near;
  in_half = λ e. absurd (true≢false (alone e));
}
call_codes long i n fits alone near = absurd (cc)

far_codes : (i : Instr) (n : ℕ) → is_b false i ≡ true → IsNear (2 ^ 24) n → CanCode i n true
unfolding has_full
far_codes (instr.Branch a) n fits near = record {
  number = near.even;
  in_full = λ e. always_far a.cond (signed 32 n) fits (near_bits 25 (2 ^ 24) n refl (omega arith) near);
  in_half = λ e. absurd (true≢false e);
}
far_codes i n fits near = absurd (cc)

middle_codes : (i : Instr) (n : ℕ) → is_b true i ≡ true → IsNear (2 ^ 20) n → CanCode i n true
unfolding has_full
middle_codes (instr.Branch a) n fits near = record {
  number = near.even;
  in_full = λ e. sometimes_far a.cond (signed 32 n) fits (near_bits 21 (2 ^ 20) n refl (omega arith) near);
  in_half = λ e. absurd (true≢false e);
}
middle_codes i n fits near = absurd (cc)

short_codes : (i : Instr) (n : ℕ) → n < 2 ^ 32 → is_b false i ≡ true → IsNear (2 ^ 11) n → CanCode i n false
short_codes (instr.Branch a) n small fits near = record {
  number = near.even;
  in_full = λ e. absurd (true≢false (sym e));
  in_half = λ e. always_half a.cond n fits small near;
}
short_codes i n small fits near = absurd (cc)

near_codes : (i : Instr) (n : ℕ) → n < 2 ^ 32 → is_b true i ≡ true → IsNear (2 ^ 8) n → CanCode i n false
near_codes (instr.Branch a) n small fits near = record {
  number = near.even;
  in_full = λ e. absurd (true≢false (sym e));
  in_half = λ e. sometimes_has a.cond n fits small near;
}
near_codes i n small fits near = absurd (cc)

half_codes : (top long : Bool) (i : Instr) (n : ℕ) → is_mov top i ≡ true → (long ≡ false → is_mov top i ≡ false) → (long ≡ true → has_full i ≡ true) → n < 2 ^ 16 → CanCode i n long
unfolding has_full
half_codes top long (instr.Half a) n fits alone told small = record {
  number = small;
  in_full = λ e. and_from (lacks_sp (a.d ∷ [])) (nat_lt n (2 ^ 16)) (and_parts (lacks_sp (a.d ∷ [])) (nat_lt a.imm (2 ^ 16)) (told e)).0 (lt-ltb n (2 ^ 16) small);
  in_half = λ e. absurd (true≢false (sym fits ∙ alone e));
}
half_codes top long i n fits alone told small = absurd (cc)

both_true : (a b : Bool) → (a && b) ≡ true → (a ≡ true) × (b ≡ true)
both_true a b e = and_parts a b e

module _ (bytes : List ℕ) (x : ℕ) (i : Instr) (is : decoded_at bytes x 0 ≡ Ok i) where
  full_told : is_long (half_at bytes x) ≡ true → has_full i ≡ true
  full_told long =
      let h = half_at bytes x in
      let s = half_at bytes (x + 2) in
      code_told (h * 2 ^ 16 + s) i
      (sym (if_true (is_wide h) (decoded 32 (full_rows Outside) (h * 2 ^ 16 + s)) (decoded 16 (half_rows Outside) h) long)
      ∙ sym (ap (λ (b : Bool). decode_given Outside h (if b then Some s else None)) long) ∙ is)

  pub kind_codes : (kind : RelocKind) (n : ℕ) → fits_kind kind (is_long (half_at bytes x)) i ≡ true → n < 2 ^ 32 → FitsKind kind n → CanCode i n (is_long (half_at bytes x))
  kind_codes kind n fits small near = go kind (is_long (half_at bytes x)) refl fits near
    where
      go : (k : RelocKind) (b : Bool) → is_long (half_at bytes x) ≡ b → fits_kind k b i ≡ true → FitsKind k n → CanCode i n b
      go Abs32 b e h f = absurd (true≢false (sym h))
      go Target1 b e h f = absurd (true≢false (sym h))
      go (Other m) b e h f = absurd (true≢false (sym h))
      go ThmCall b e h f = call_codes b i n h (λ q. (long_alone bytes x i is (e ∙ q)).0) f
      go ThmJump24 true e h f = far_codes i n h f
      go ThmJump24 false e h f = absurd (true≢false (sym h))
      go ThmJump19 true e h f = middle_codes i n h f
      go ThmJump19 false e h f = absurd (true≢false (sym h))
      go ThmJump11 true e h f = absurd (true≢false (sym h))
      go ThmJump11 false e h f = short_codes i n small h f
      go ThmJump8 true e h f = absurd (true≢false (sym h))
      go ThmJump8 false e h f = near_codes i n small h f
      go MovwAbs b e h f = half_codes false b i n h (λ q. (long_alone bytes x i is (e ∙ q)).1) (λ q. full_told (e ∙ q)) f
      go MovtAbs b e h f = half_codes true b i n h (λ q. (long_alone bytes x i is (e ∙ q)).2) (λ q. full_told (e ∙ q)) f

-- a link in range has such a number
module _ (parts : List Placed) (k : Link) where
  sum_small : sum_of parts k < 2 ^ 32
  sum_small = omega arith

  pub full_small : full parts k < 2 ^ 32
  full_small = go (is_function parts k.meant)
    where
      go : (b : Bool) → cond b (even (sum_of parts k) + 1) (sum_of parts k) < 2 ^ 32
      go true = let s = sum_small in omega arith
      go false = sum_small

  offset_small : offset_of parts k < 2 ^ 32
  offset_small = omega arith

  reached : is_jump k.reloc.kind ≡ true → is_in_range parts k ≡ true → is_reached (reach k.reloc.kind) (offset_of parts k) ≡ true
  reached jump range =
      let a = (and_parts (is_straight parts k) (if is_jump k.reloc.kind then can_branch parts k else is_thumb_address parts k) range).1 in
      let b : can_branch parts k ≡ true = sym (ap (λ (c : Bool). cond c (can_branch parts k) (is_thumb_address parts k)) jump) ∙ a in
      let c = and_parts _ _ b in
      (and_parts _ _ c.0).0

  pub value_fits : is_in_range parts k ≡ true → FitsKind k.reloc.kind (value_of parts k) × (value_of parts k < 2 ^ 32)
  value_fits range = fits_by k.reloc.kind (offset_of parts k) (full parts k) offset_small full_small (λ jump. reached jump range)
    where
      fits_by : (kind : RelocKind) (offset full : ℕ) → offset < 2 ^ 32 → full < 2 ^ 32 → (is_jump kind ≡ true → is_reached (reach kind) offset ≡ true) → FitsKind kind (value_for kind offset full) × (value_for kind offset full < 2 ^ 32)
      fits_by ThmCall offset full low high near = (is_near (2 ^ 24) offset (omega arith) low (near refl), low)
      fits_by ThmJump24 offset full low high near = (is_near (2 ^ 24) offset (omega arith) low (near refl), low)
      fits_by ThmJump19 offset full low high near = (is_near (2 ^ 20) offset (omega arith) low (near refl), low)
      fits_by ThmJump11 offset full low high near = (is_near (2 ^ 11) offset (omega arith) low (near refl), low)
      fits_by ThmJump8 offset full low high near = (is_near (2 ^ 8) offset (omega arith) low (near refl), low)
      fits_by MovwAbs offset full low high near = (omega arith, omega arith)
      fits_by MovtAbs offset full low high near = (omega arith, omega arith)
      fits_by Abs32 offset full low high near = (tt, high)
      fits_by Target1 offset full low high near = (tt, high)
      fits_by (Other n) offset full low high near = (tt, high)

-- So the instruction in its place has a code of its width.
module _ (objects : List ObjectParts) (at : Placement) (k : Link) (tie : IsTied objects at k) (none : is_word k.reloc.kind ≡ false) (parts : List Placed) (range : is_in_range parts k ≡ true) where
  pub number_may : (i : Instr) → decoded_at k.part.section.bytes k.reloc.offset 0 ≡ Ok i → CanCode i (value_of parts k) (is_long (half_at k.part.section.bytes k.reloc.offset))
  number_may i is =
      let h = has_instr objects at k tie none in
      let same : h.instr ≡ i = same_ok h.instr i (decoded_at k.part.section.bytes k.reloc.offset 0) h.is is in
      let fits : fits_kind k.reloc.kind (is_long (half_at k.part.section.bytes k.reloc.offset)) i ≡ true = subst (λ (j : Instr). fits_kind k.reloc.kind (is_long (half_at k.part.section.bytes k.reloc.offset)) j ≡ true) same h.fits in
      let v = value_fits parts k range in
      kind_codes k.part.section.bytes k.reloc.offset i is k.reloc.kind (value_of parts k) fits v.1 v.0
    where
      same_ok : (a b : Instr) (r : Answer) → r ≡ Ok a → r ≡ Ok b → a ≡ b
      same_ok a b r e f = cc

  pub no_code : (i : Instr) → decoded_at k.part.section.bytes k.reloc.offset 0 ≡ Ok i → (c : Option Code) → c ≡ None
      → ((d : Code) → IsCodeOf (renumbered (value_of parts k) i) (width_if (is_long (half_at k.part.section.bytes k.reloc.offset))) d → ⊥)
      → (width_if (is_long (half_at k.part.section.bytes k.reloc.offset)) ≡ width.Full → is_some c ≡ has_full (renumbered (value_of parts k) i)) → ⊥
  no_code i is c empty never told = go (is_long (half_at k.part.section.bytes k.reloc.offset)) (number_may i is) never told
    where
      go : (b : Bool) → CanCode i (value_of parts k) b → ((d : Code) → IsCodeOf (renumbered (value_of parts k) i) (width_if b) d → ⊥) → (width_if b ≡ width.Full → is_some c ≡ has_full (renumbered (value_of parts k) i)) → ⊥
      go true can never told = true≢false (sym (can.in_full refl) ∙ sym (told refl) ∙ ap is_some empty)
      go false can never told = let h = can.in_half refl in never (code.Half h.0) (refl, h.1)

  pub placed_code : (i : Instr) → decoded_at k.part.section.bytes k.reloc.offset 0 ≡ Ok i → (j : Instr) → Some j ≡ Some (renumbered (value_of parts k) i) → (w : Width) → w ≡ width_if (is_long (half_at k.part.section.bytes k.reloc.offset))
      → (c : Option Code) → IfSome c (λ d. IsCodeOf j w d) → IfNone c ((d : Code) → IsCodeOf j w d → ⊥) → (w ≡ width.Full → is_some c ≡ has_full j) → HasPlaceCode k (value_of parts k) c
  placed_code i is j made w wide c gives never told =
      let same : j ≡ renumbered (value_of parts k) i = same_Some j (renumbered (value_of parts k) i) made in
      go c
      (subst (λ (v : Width). IfSome c (λ d. IsCodeOf (renumbered (value_of parts k) i) v d)) wide (subst (λ (z : Instr). IfSome c (λ d. IsCodeOf z w d)) same gives))
      (subst (λ (v : Width). IfNone c ((d : Code) → IsCodeOf (renumbered (value_of parts k) i) v d → ⊥)) wide (subst (λ (z : Instr). IfNone c ((d : Code) → IsCodeOf z w d → ⊥)) same never))
      (subst (λ (v : Width). v ≡ width.Full → is_some c ≡ has_full (renumbered (value_of parts k) i)) wide (subst (λ (z : Instr). w ≡ width.Full → is_some c ≡ has_full z) same told))
    where
      go : (c : Option Code) → IfSome c (λ d. IsCodeOf (renumbered (value_of parts k) i) (width_if (is_long (half_at k.part.section.bytes k.reloc.offset))) d)
          → IfNone c ((d : Code) → IsCodeOf (renumbered (value_of parts k) i) (width_if (is_long (half_at k.part.section.bytes k.reloc.offset))) d → ⊥)
          → (width_if (is_long (half_at k.part.section.bytes k.reloc.offset)) ≡ width.Full → is_some c ≡ has_full (renumbered (value_of parts k) i)) → HasPlaceCode k (value_of parts k) c
      go None gives never told = no_code i is None refl never told
      go (Some d) gives never told = record { instr = i; was = is; stands = gives.1; width = gives.0 }
