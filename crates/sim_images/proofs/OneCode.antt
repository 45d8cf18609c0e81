-- Two lists of bytes that have one instruction at a place, in as many bytes, have the same bytes there.
use Rattle.std.specs.Prelude.{◌≡◌, ◌<◌, ℕ, ◌+◌, ◌-◌, ◌*◌, ◌^◌, nat_lt, Bool, true, false, cond, List, length, get_or, drop, Option, Some, None, Ok, Err, refl}
use Rattle.std.proofs.Common.{arith, inl, inr, ap, sym, ◌∙◌}
use Rattle.std.proofs.lemmas.Bool.{cases_lt, both_ways, ltb-true}
use Rattle.std.proofs.lemmas.List.{get_or-drop, get_or_past}
use Rattle.std.proofs.lemmas.List.Elements.{All-contains, Contains-get_or}
use Rattle.elf_model.specs.declared.objects.RelocKind.{RelocKind}
use Rattle.elf_model.specs.declared.objects.RelocKind.TheVariants.{Abs32, Target1, ThmCall, ThmJump24, MovwAbs, MovtAbs, ThmJump19, ThmJump11, ThmJump8, Other}
use Rattle.elf_model.specs.Fields.{byte_at, half_at}
use Rattle.elf_model.specs.Ranges.{is_long, length_at}
use Rattle.thumb_instr.specs.declared.instructions.Instr.{Instr}
use Rattle.thumb_instr.specs.declared.instructions.Instr.TheVariants as instr
use Rattle.thumb_instr.specs.declared.refusals.BadInstr.TheVariants.{Unknown}
use Rattle.thumb_instr.specs.declared.refusals.ItPlace.TheVariants.{Outside}
use Rattle.thumb_instr.specs.Numbers.{renumbered}
use Rattle.thumb_instr.specs.Rows.{decode, decode_given}
use Rattle.reloc_places.specs.Starts.{decoded_at}
use Rattle.reloc_places.specs.Relocations.{is_bl, is_b, is_mov, fits_kind}
use Rattle.thumb_encode.specs.HalfCodes.{half_code, later_code}
use Rattle.thumb_encode.specs.FullCodes.{full_code}
use Rattle.thumb_encode.proofs.Standing.{half-candidate, full-candidate}

abbrev pub AreBytes : List ℕ → Type 0
AreBytes bytes = (x : ℕ) → byte_at bytes x < 2 ^ 8

below : (bytes : List ℕ) → AreBytes bytes → (k : ℕ) → get_or bytes k 0 < 256
below bytes all k = all k

half_is : (bytes : List ℕ) (n : ℕ) → half_at bytes n ≡ get_or bytes n 0 + 256 * get_or bytes (n + 1) 0
half_is bytes n =
    let at : n + 0 ≡ n = omega arith in
    let low : get_or (drop n bytes) 0 0 ≡ get_or bytes n 0 = get_or-drop n bytes 0 0 ∙ ap (λ (k : ℕ). get_or bytes k 0) at in
    let high : get_or (drop n bytes) 1 0 ≡ get_or bytes (n + 1) 0 = get_or-drop n bytes 1 0 in
    omega (arith, low, high)

small_half : (bytes : List ℕ) → AreBytes bytes → (n : ℕ) → half_at bytes n < 2 ^ 16
small_half bytes all n = let a = below bytes all n in let b = below bytes all (n + 1) in let h = half_is bytes n in omega arith

pub record SameHalf (xs ys : List ℕ) (n : ℕ) : Type 0 where
  pub low : get_or xs n 0 ≡ get_or ys n 0
  pub high : get_or xs (n + 1) 0 ≡ get_or ys (n + 1) 0

same_half : (xs ys : List ℕ) → AreBytes xs → AreBytes ys → (n : ℕ) → half_at xs n ≡ half_at ys n → SameHalf xs ys n
same_half xs ys all too n e =
    let a = below xs all n in
    let b = below xs all (n + 1) in
    let c = below ys too n in
    let d = below ys too (n + 1) in
    let h = half_is xs n in
    let k = half_is ys n in
    record { low = omega arith; high = omega arith }

-- what is decoded, by the lengths
short_decoded : (bytes : List ℕ) (x : ℕ) (j : Instr) → is_long (half_at bytes x) ≡ false → decoded_at bytes x 0 ≡ Ok j → decode Outside (half_at bytes x) 0 ≡ Ok j
short_decoded bytes x j e means =
    sym (ap (λ (c : Bool). cond c (Err Unknown) (decode Outside (half_at bytes x) 0)) e)
    ∙ (sym (ap (λ (c : Bool). decode_given Outside (half_at bytes x) (cond c (Some (half_at bytes (x + 2))) None)) e) ∙ means)

long_decoded : (bytes : List ℕ) (x : ℕ) (j : Instr) → is_long (half_at bytes x) ≡ true → decoded_at bytes x 0 ≡ Ok j → decode Outside (half_at bytes x) (half_at bytes (x + 2)) ≡ Ok j
long_decoded bytes x j e means = sym (ap (λ (c : Bool). decode_given Outside (half_at bytes x) (cond c (Some (half_at bytes (x + 2))) None)) e) ∙ means

same_number : (a b : ℕ) (x : Option ℕ) → x ≡ Some a → x ≡ Some b → a ≡ b
same_number a b x e f = cc

-- one halfword of an instruction that has one code at most
one_short : (xs ys : List ℕ) → AreBytes xs → AreBytes ys → (n : ℕ) (j : Instr) → later_code j ≡ None → is_long (half_at xs n) ≡ false → is_long (half_at ys n) ≡ false
    → decoded_at xs n 0 ≡ Ok j → decoded_at ys n 0 ≡ Ok j → half_at xs n ≡ half_at ys n
one_short xs ys all too n j none short brief is was =
    elim (half-candidate j (half_at xs n) (small_half xs all n, short, short_decoded xs n j short is)) [
      | inl a ↦
          elim (half-candidate j (half_at ys n) (small_half ys too n, brief, short_decoded ys n j brief was)) [
            | inl b ↦ same_number (half_at xs n) (half_at ys n) (half_code j) a b
            | inr b ↦ absurd (no_other (half_at ys n) none b)
          ]
      | inr a ↦ absurd (no_other (half_at xs n) none a)
    ]
  where
    no_other : (c : ℕ) → later_code j ≡ None → later_code j ≡ Some c → ⊥
    no_other c e f = absurd (cc)

record SameHalves (xs ys : List ℕ) (n : ℕ) : Type 0 where
  pub first : half_at xs n ≡ half_at ys n
  pub second : half_at xs (n + 2) ≡ half_at ys (n + 2)

one_long : (xs ys : List ℕ) → AreBytes xs → AreBytes ys → (n : ℕ) (j : Instr) → is_long (half_at xs n) ≡ true → is_long (half_at ys n) ≡ true → decoded_at xs n 0 ≡ Ok j → decoded_at ys n 0 ≡ Ok j
    → SameHalves xs ys n
one_long xs ys all too n j long wide is was =
    let a = small_half xs all n in
    let b = small_half xs all (n + 2) in
    let c = small_half ys too n in
    let d = small_half ys too (n + 2) in
    let one = full-candidate j (half_at xs n) (half_at xs (n + 2)) (a, b, long, long_decoded xs n j long is) in
    let two = full-candidate j (half_at ys n) (half_at ys (n + 2)) (c, d, wide, long_decoded ys n j wide was) in
    let same : half_at xs n * 2 ^ 16 + half_at xs (n + 2) ≡ half_at ys n * 2 ^ 16 + half_at ys (n + 2) = same_number _ _ (full_code j) one two in
    record { first = omega arith; second = omega arith }

-- an instruction of one halfword at a place of a relocation has one code at most, with whatever number
one_branch : (c : Bool) (i : Instr) (n : ℕ) → is_b c i ≡ true → later_code (renumbered n i) ≡ None
unfolding later_code
one_branch c (instr.Branch i) n h = refl
one_branch c i n h = absurd (both_ways false refl h)

pub one_code : (kind : RelocKind) (i : Instr) (n : ℕ) → fits_kind kind false i ≡ true → (is_bl i ≡ false) × (is_mov false i ≡ false) × (is_mov true i ≡ false) → later_code (renumbered n i) ≡ None
one_code Abs32 i n h alone = absurd (both_ways false refl h)
one_code Target1 i n h alone = absurd (both_ways false refl h)
one_code (Other k) i n h alone = absurd (both_ways false refl h)
one_code ThmCall i n h alone = absurd (both_ways (is_bl i) alone.0 h)
one_code ThmJump24 i n h alone = absurd (both_ways false refl h)
one_code MovwAbs i n h alone = absurd (both_ways (is_mov false i) alone.1 h)
one_code MovtAbs i n h alone = absurd (both_ways (is_mov true i) alone.2 h)
one_code ThmJump19 i n h alone = absurd (both_ways false refl h)
one_code ThmJump11 i n h alone = one_branch false i n h
one_code ThmJump8 i n h alone = one_branch true i n h

-- one instruction in as many bytes
pub same_bytes : (xs ys : List ℕ) → AreBytes xs → AreBytes ys → (n : ℕ) (j : Instr) → (length_at xs n ≡ 2 → later_code j ≡ None) → decoded_at xs n 0 ≡ Ok j → decoded_at ys n 0 ≡ Ok j → length_at ys n ≡ length_at xs n
    → (k : ℕ) → k < length_at xs n → get_or xs (n + k) 0 ≡ get_or ys (n + k) 0
same_bytes xs ys all too n j one is was wide = go (is_long (half_at xs n)) (is_long (half_at ys n)) refl refl
  where
    in_half : (m a k : ℕ) → m ≡ a + k → k < 2 → SameHalf xs ys a → get_or xs m 0 ≡ get_or ys m 0
    in_half m a k e lt h =
        elim (cases_lt k 1) [
          | inl none ↦ let at : m ≡ a = omega arith in ap (λ (z : ℕ). get_or xs z 0) at ∙ (h.low ∙ ap (λ (z : ℕ). get_or ys z 0) (sym at))
          | inr some ↦ let at : m ≡ a + 1 = omega arith in ap (λ (z : ℕ). get_or xs z 0) at ∙ (h.high ∙ ap (λ (z : ℕ). get_or ys z 0) (sym at))
        ]

    in_halves : (k : ℕ) → k < 4 → SameHalf xs ys n → SameHalf xs ys (n + 2) → get_or xs (n + k) 0 ≡ get_or ys (n + k) 0
    in_halves k lt h g =
        elim (cases_lt k 2) [
          | inl low ↦ in_half (n + k) n k refl low h
          | inr high ↦ let at : n + k ≡ n + 2 + (k - 2) = omega arith in let less : k - 2 < 2 = omega arith in in_half (n + k) (n + 2) (k - 2) at less g
        ]

    go : (b c : Bool) → is_long (half_at xs n) ≡ b → is_long (half_at ys n) ≡ c → (k : ℕ) → k < length_at xs n → get_or xs (n + k) 0 ≡ get_or ys (n + k) 0
    go false false e f k lt =
        let width : length_at xs n ≡ 2 = ap (λ (d : Bool). cond d 4 2) e in
        let h = same_half xs ys all too n (one_short xs ys all too n j (one width) e f is was) in
        let less : k < 2 = omega arith in
        in_half (n + k) n k refl less h
    go true true e f k lt =
        let width : length_at xs n ≡ 4 = ap (λ (d : Bool). cond d 4 2) e in
        let h = one_long xs ys all too n j e f is was in
        let less : k < 4 = omega arith in
        in_halves k less (same_half xs ys all too n h.first) (same_half xs ys all too (n + 2) h.second)
    go false true e f k lt =
        let a : length_at xs n ≡ 2 = ap (λ (d : Bool). cond d 4 2) e in
        let b : length_at ys n ≡ 4 = ap (λ (d : Bool). cond d 4 2) f in
        absurd (omega arith)
    go true false e f k lt =
        let a : length_at xs n ≡ 4 = ap (λ (d : Bool). cond d 4 2) e in
        let b : length_at ys n ≡ 2 = ap (λ (d : Bool). cond d 4 2) f in
        absurd (omega arith)
