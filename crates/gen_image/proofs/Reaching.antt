-- Where the calls lead to: each to the function behind its own.
use Rattle.std.proofs.Common.{◌≡◌, ◌<◌, ℕ, ◌+◌, ◌-◌, ◌*◌, ◌%◌, ◌^◌, Bool, true, [], ◌∷◌, length, refl, ap, ap₂, ◌∙◌, arith, Ok}
use Rattle.std.specs.Prelude.{◌==◌, ◌&&◌, ◌||◌, not, nat_le, nat_lt}
use Rattle.std.proofs.lemmas.Bool.{and_from, eq-eqb, lt-ltb, le-leb}
use Rattle.reloc_places.specs.Starts.{decoded_at}
use Rattle.reloc_places.specs.Relocations.{addend, number_in}
use Rattle.thumb_table.specs.Layouts.{all_placed}
use Rattle.thumb_table.specs.Names.{is_in_code, stands}
use Rattle.thumb_table.specs.Links.{addend_of, sum_of, offset_of, target_of, leads_to_code, is_straight, is_reached, can_branch, is_in_range}
use Rattle.gen_object.specs.Generated.{code_bytes, call, generated}
use Rattle.gen_flow.proofs.CodeLengths.{code_length}
use Rattle.gen_flow.specs.GeneratedCode.{IsCount, calls, next}
use Rattle.gen_flow.proofs.CodeInstrs.{stands_there}
use Rattle.gen_image.specs.GeneratedImages.{placement}
use Rattle.gen_image.proofs.Linking.{link_of}

-- what each call has in place of its number
adds : (seed count k : ℕ) → decoded_at (code_bytes seed count) (14 * k + 8) 0 ≡ Ok calls → addend (code_bytes seed count) (call k) ≡ 2 ^ 32 - 4
adds seed count k h = ap number_in h

sum_with : (k : ℕ) → k < 4000 → (0x8000 + (14 * (k + 1) + 1) - (0x8000 + (14 * (k + 1) + 1)) % 2 + (2 ^ 32 - 4)) % 2 ^ 32 ≡ 0x8000 + 14 * k + 10
sum_with k few = omega arith

offset_with : (k : ℕ) → k < 4000 → (0x8000 + 14 * k + 10 + 2 ^ 32 - (0x8000 + (14 * k + 8))) % 2 ^ 32 ≡ 2
offset_with k few = omega arith

target_with : (k : ℕ) → k < 4000 → (0x8000 + 14 * k + 10 + 4) % 2 ^ 32 ≡ 0x8000 + 14 * (k + 1)
target_with k few = omega arith

module _ (seed count k : ℕ) (few : IsCount count) (low : k + 1 < count) where
  small : k < 4000
  small = let high = few.high in omega arith

  there : decoded_at (code_bytes seed count) (14 * k + 8) 0 ≡ Ok calls
  there = (stands_there seed count (14 * k + 8) calls (next k low refl refl)).decodes

  sum_is : sum_of (all_placed (generated seed count ∷ []) placement) (link_of seed count k) ≡ 0x8000 + 14 * k + 10
  sum_is =
      ap (λ (a : ℕ). (stands (all_placed (generated seed count ∷ []) placement) (link_of seed count k).meant + a) % 2 ^ 32) (adds seed count k there)
      ∙ sum_with k small

  pub offset_is : offset_of (all_placed (generated seed count ∷ []) placement) (link_of seed count k) ≡ 2
  offset_is = ap (λ (s : ℕ). (s + 2 ^ 32 - (0x8000 + (14 * k + 8))) % 2 ^ 32) sum_is ∙ offset_with k small

  target_is : target_of (all_placed (generated seed count ∷ []) placement) (link_of seed count k) ≡ 0x8000 + 14 * (k + 1)
  target_is = ap (λ (s : ℕ). (s + 4) % 2 ^ 32) sum_is ∙ target_with k small

  straight : is_straight (all_placed (generated seed count ∷ []) placement) (link_of seed count k) ≡ true
  straight =
      let other : (k + 1) + 1 ≡ k + 2 = omega arith in
      ap (λ (b : Bool). not (not b && (leads_to_code (all_placed (generated seed count ∷ []) placement) (link_of seed count k) || is_in_code (all_placed (generated seed count ∷ []) placement) 0 (link_of seed count k).symbol.home))
      || (addend_of (link_of seed count k) == 2 ^ 32 - 4)) (eq-eqb ((k + 1) + 1) (k + 2) other)

  inside : (nat_le 0x8000 (0x8000 + 14 * (k + 1)) && nat_lt (0x8000 + 14 * (k + 1)) (0x8000 + length (code_bytes seed count))) ≡ true
  inside =
      let long = code_length seed count few.low in
      and_from _ _ (le-leb 0x8000 (0x8000 + 14 * (k + 1)) (omega arith)) (lt-ltb (0x8000 + 14 * (k + 1)) (0x8000 + length (code_bytes seed count)) (omega arith))

  whole : (0x8000 + 14 * (k + 1)) % 2 ≡ 0
  whole = omega arith

  branch : can_branch (all_placed (generated seed count ∷ []) placement) (link_of seed count k) ≡ true
  branch =
      ap₂ (λ (n t : ℕ). (is_reached (2 ^ 24) n && (nat_le 0x8000 t && nat_lt t (0x8000 + length (code_bytes seed count)))) && (t % 2 == 0)) offset_is target_is
      ∙ and_from _ _ inside (eq-eqb ((0x8000 + 14 * (k + 1)) % 2) 0 whole)

  pub in_range : is_in_range (all_placed (generated seed count ∷ []) placement) (link_of seed count k) ≡ true
  in_range = and_from _ _ straight branch
