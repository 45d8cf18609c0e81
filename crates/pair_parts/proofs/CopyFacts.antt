-- The copies of a unit's steps: where they stand, and what their codes are read as.
use Rattle.std.proofs.Common.{◌≡◌, ◌≤◌, ℕ, zero, suc, ◌+◌, Bool, true, false, cond, List, [], ◌∷◌, length, map, take, refl, sym, ap, ◌∙◌, subst, inl, inr, arith, Some, None, Ok, Err}
use Rattle.std.specs.Prelude.{slice_get, Contains}
use Rattle.std.proofs.lemmas.Option.{none-some, same_Some}
use Rattle.std.proofs.lemmas.List.Sums.{sum_by-cons}
use Rattle.elf_model.specs.Fields.{half_at}
use Rattle.elf_model.specs.Ranges.{is_long, length_at}
use Rattle.elf_model.proofs.Elements.{contains_cases, contains_none, contains_later, contains_here}
use Rattle.thumb_instr.specs.declared.instructions.Instr.{Instr}
use Rattle.thumb_instr.specs.declared.refusals.BadInstr.TheVariants.{Unknown}
use Rattle.thumb_instr.specs.declared.refusals.ItPlace.TheVariants.{Outside}
use Rattle.thumb_instr.specs.Rows.{decode, decode_given}
use Rattle.thumb_encode.specs.declared.codes.Code.{Code}
use Rattle.thumb_encode.specs.declared.codes.Code.TheVariants as code
use Rattle.thumb_encode.specs.declared.codes.Width.{Width}
use Rattle.thumb_encode.specs.Encoding.{width_of, StandsFor}
use Rattle.reloc_places.specs.Starts.{decoded_at}
use Rattle.seq_core.specs.declared.steps.Step.{Step}
use Rattle.branch_layout.specs.Copies.{bytes_of, length_of, bytes_before}
use Rattle.branch_layout.proofs.StepCopies.{bytes_least}
use Rattle.emit_object.specs.UnitCopies.{Copy, copies_from, CodeAt}

-- WHERE THEY STAND

abbrev pub widths_of : List Code → List Width
widths_of codes = map width_of codes

-- the copy with a number
pub record IsCopyAt (start : ℕ) (steps : List Step) (codes : List Code) (k : ℕ) (c : Copy) : Type 0 where
  pub step : slice_get steps k ≡ Some c.step
  pub code : slice_get codes k ≡ Some c.code
  pub at : c.at ≡ start + bytes_before (widths_of codes) k

pub copy_at : (at : ℕ) (steps : List Step) (codes : List Code) (k : ℕ) (c : Copy) → slice_get (copies_from at steps codes) k ≡ Some c → IsCopyAt at steps codes k c
copy_at at [] codes k c e = absurd (none-some c e)
copy_at at (t ∷ ts) [] k c e = absurd (none-some c e)
copy_at at (t ∷ ts) (d ∷ ds) zero c e =
    let same : record { at = at; step = t; code = d } ≡ c = same_Some (record { at = at; step = t; code = d }) c e in
    let place : at ≡ c.at = ap (λ (z : Copy). z.at) same in
    let none : bytes_before (widths_of (d ∷ ds)) 0 ≡ 0 = refl in
    record { step = ap (λ (z : Copy). Some z.step) same; code = ap (λ (z : Copy). Some z.code) same; at = omega arith }
copy_at at (t ∷ ts) (d ∷ ds) (suc k) c e =
    let rest = copy_at (at + bytes_of (width_of d)) ts ds k c e in
    let place : c.at ≡ at + bytes_of (width_of d) + bytes_before (widths_of ds) k = rest.at in
    let sum : bytes_before (widths_of (d ∷ ds)) (suc k) ≡ bytes_of (width_of d) + bytes_before (widths_of ds) k = sum_by-cons bytes_of (width_of d) (take k (widths_of ds)) in
    record { step = rest.step; code = rest.code; at = omega arith }

pub many_copies : (at : ℕ) (steps : List Step) (codes : List Code) → length codes ≡ length steps → length (copies_from at steps codes) ≡ length codes
many_copies at [] [] same = refl
many_copies at [] (d ∷ ds) same = absurd (omega arith)
many_copies at (t ∷ ts) [] same = absurd (omega arith)
many_copies at (t ∷ ts) (d ∷ ds) same = let rest = many_copies (at + bytes_of (width_of d)) ts ds (omega arith) in omega arith

-- within their bytes
pub record IsInBytes (first last : ℕ) (c : Copy) : Type 0 where
  pub low : first ≤ c.at
  pub high : c.at + bytes_of (width_of c.code) ≤ last

pub copy_in_bytes : (at : ℕ) (steps : List Step) (codes : List Code) (c : Copy) → Contains (copies_from at steps codes) c → IsInBytes at (at + length_of (widths_of codes)) c
copy_in_bytes at [] codes c h = absurd (contains_none c h)
copy_in_bytes at (t ∷ ts) [] c h = absurd (contains_none c h)
copy_in_bytes at (t ∷ ts) (d ∷ ds) c h =
    let sum : length_of (widths_of (d ∷ ds)) ≡ bytes_of (width_of d) + length_of (widths_of ds) = sum_by-cons bytes_of (width_of d) (widths_of ds) in
    elim (contains_cases (record { at = at; step = t; code = d }) (copies_from (at + bytes_of (width_of d)) ts ds) c h) [
      | inl e ↦ subst (IsInBytes at (at + length_of (widths_of (d ∷ ds)))) e (record { low = omega arith; high = omega arith })
      | inr r ↦ let in_rest = copy_in_bytes (at + bytes_of (width_of d)) ts ds c r in let low = in_rest.low in let high = in_rest.high in record { low = omega arith; high = omega arith }
    ]

-- no two stand at one offset
pub copy_once : (at : ℕ) (steps : List Step) (codes : List Code) (b c : Copy) → Contains (copies_from at steps codes) b → Contains (copies_from at steps codes) c → b.at ≡ c.at → b ≡ c
copy_once at [] codes b c h k same = absurd (contains_none b h)
copy_once at (t ∷ ts) [] b c h k same = absurd (contains_none b h)
copy_once at (t ∷ ts) (d ∷ ds) b c h k same =
    let first : Copy = record { at = at; step = t; code = d } in
    let next = at + bytes_of (width_of d) in
    let least = bytes_least (width_of d) in
    elim (contains_cases first (copies_from next ts ds) b h) [
      | inl e ↦ elim (contains_cases first (copies_from next ts ds) c k) [
        | inl f ↦ sym e ∙ f
        | inr r ↦ let low = (copy_in_bytes next ts ds c r).low in let place : at ≡ b.at = ap (λ (z : Copy). z.at) e in absurd (omega arith)
      ]
      | inr q ↦ elim (contains_cases first (copies_from next ts ds) c k) [
        | inl f ↦ let low = (copy_in_bytes next ts ds b q).low in let place : at ≡ c.at = ap (λ (z : Copy). z.at) f in absurd (omega arith)
        | inr r ↦ copy_once next ts ds b c q r same
      ]
    ]

-- there is one of each step that has copies
pub copy_of : (at : ℕ) (steps : List Step) (codes : List Code) → length codes ≡ length steps → (t : Step) → Contains steps t → (c : Copy) × Contains (copies_from at steps codes) c × (c.step ≡ t)
copy_of at [] codes many t h = absurd (contains_none t h)
copy_of at (s ∷ ss) [] many t h = absurd (omega arith)
copy_of at (s ∷ ss) (d ∷ ds) many t h =
    let first : Copy = record { at = at; step = s; code = d } in
    let next = at + bytes_of (width_of d) in
    elim (contains_cases s ss t h) [
      | inl e ↦ (first, contains_here first (copies_from next ss ds), e)
      | inr r ↦ let c = copy_of next ss ds (omega arith) t r in (c.0, contains_later first (copies_from next ss ds) c.0 c.1, c.2)
    ]

-- WHAT THEIR CODES ARE READ AS

pub record ReadsAs (bytes : List ℕ) (at : ℕ) (c : Code) (i : Instr) : Type 0 where
  pub width : bytes_of (width_of c) ≡ length_at bytes at
  pub instr : decoded_at bytes at 0 ≡ Ok i

pub reads_as : (bytes : List ℕ) (at : ℕ) (c : Code) (i : Instr) → CodeAt bytes at c → StandsFor c i → ReadsAs bytes at c i
reads_as bytes at (code.Half h) i there stands =
    let long : is_long (half_at bytes at) ≡ false = ap is_long there ∙ stands.1 in
    let shape : decoded_at bytes at 0 ≡ decode_given Outside (half_at bytes at) None = ap (λ (b : Bool). decode_given Outside (half_at bytes at) (cond b (Some (half_at bytes (at + 2))) None)) long in
    let same : decode_given Outside (half_at bytes at) None ≡ decode_given Outside h None = ap (λ (n : ℕ). decode_given Outside n None) there in
    let whole : decode_given Outside h None ≡ decode Outside h 0 = ap (λ (b : Bool). cond b (Err Unknown) (decode Outside h 0)) stands.1 in
    record { width = sym (ap (λ (b : Bool). cond b 4 2) long); instr = shape ∙ same ∙ whole ∙ stands.2 }
reads_as bytes at (code.Full first second) i there stands =
    let long : is_long (half_at bytes at) ≡ true = ap is_long there.0 ∙ stands.2 in
    let shape : decoded_at bytes at 0 ≡ decode Outside (half_at bytes at) (half_at bytes (at + 2)) = ap (λ (b : Bool). decode_given Outside (half_at bytes at) (cond b (Some (half_at bytes (at + 2))) None)) long in
    let same : decode Outside (half_at bytes at) (half_at bytes (at + 2)) ≡ decode Outside first second = ap (λ (n : ℕ). decode Outside n (half_at bytes (at + 2))) there.0 ∙ ap (decode Outside first) there.1 in
    record { width = sym (ap (λ (b : Bool). cond b 4 2) long); instr = shape ∙ same ∙ stands.3 }
