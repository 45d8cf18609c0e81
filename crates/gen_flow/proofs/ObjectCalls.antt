-- The relocations of the generated object: each stands at a call, is right, and leads to the next function.
use Rattle.std.proofs.Common.{◌≡◌, ℕ, suc, ◌+◌, ◌*◌, ◌-◌, ◌%◌, ◌^◌, ◌<◌, ◌≤◌, ◌==◌, ◌&&◌, Bool, true, false, length, refl, sym, ap, ◌∙◌, subst, arith, Some, None, Ok, Err, ◌≢◌}
use Rattle.std.specs.Prelude.{slice_get}
use Rattle.std.proofs.lemmas.Bool.{le-leb, cond-true, true≢false}
use Rattle.std.proofs.lemmas.Bool.Decides.{nat_tests}
use Rattle.std.proofs.lemmas.Option.{none-some, same_Some}
use Rattle.elf_model.specs.declared.objects.Symbol.{Symbol}
use Rattle.elf_model.specs.declared.objects.Reloc.{Reloc}
use Rattle.elf_model.specs.declared.objects.Home.TheVariants as home
use Rattle.elf_model.specs.Objects.{place_width, even}
use Rattle.elf_model.specs.Ranges.{length_at}
use Rattle.thumb_instr.specs.declared.instructions.Instr.{Instr}
use Rattle.thumb_instr.specs.declared.refusals.BadInstr.TheVariants.{Unknown}
use Rattle.reloc_places.specs.Starts.{decoded_at, instr_at}
use Rattle.reloc_places.specs.Relocations.{IsRight, is_undefined, number_in, addend, reloc_at, target_of}
use Rattle.reloc_places.specs.Relocations.IsPlace.{on_instr}
use Rattle.flow_recover.specs.Aims.{IsAim, aim_at}
use Rattle.flow_recover.specs.Aims.IsAim.{by_offset, by_symbol, not_right}
use Rattle.gen_object.specs.Generated.{code_bytes, function_symbol, call, generated}
use Rattle.gen_flow.specs.GeneratedCode.{calls, IsCount, StandsAt}
use Rattle.gen_flow.specs.GeneratedCode.StandsAt.{next}
use Rattle.gen_flow.proofs.MadeLists.{made_at, made_there, made_position, made_no_position}
use Rattle.gen_flow.proofs.CodeInstrs.{stands_there}
use Rattle.gen_flow.proofs.CodeStarts.{stands_whole}
use Rattle.gen_flow.proofs.ObjectRanges.{stands_code_start}

pub reloc_is : (seed count k : ℕ) (r : Reloc) → slice_get (generated seed count).relocs k ≡ Some r → (k + 1 < count) × (r ≡ call k)
reloc_is seed count k r e =
    let found = made_at call (count - 1) k r e in
    (omega (arith, found.0), found.1)

pub reloc_there : (seed count k : ℕ) → k + 1 < count → slice_get (generated seed count).relocs k ≡ Some (call k)
reloc_there seed count k more = made_there call (count - 1) k (omega arith)

abbrev stands : ℕ → ℕ → Reloc → Bool
stands j x r = (r.section == j) && (r.offset == x)

-- the one at a call, and at no other place
pub call_reloc : (seed count k : ℕ) → k + 1 < count → reloc_at (generated seed count) 0 (14 * k + 8) ≡ Some k
call_reloc seed count k more = made_position call (stands 0 (14 * k + 8)) (count - 1) k (omega arith) (λ m low. apart m low) here
  where
    apart : (m : ℕ) → m < k → stands 0 (14 * k + 8) (call m) ≡ false
    apart m low = grind (arith, nat_tests)

    here : stands 0 (14 * k + 8) (call k) ≡ true
    here = grind (arith, nat_tests)

pub no_reloc : (seed count x : ℕ) → ((k : ℕ) → k + 1 < count → x ≢ 14 * k + 8) → reloc_at (generated seed count) 0 x ≡ None
no_reloc seed count x apart = made_no_position call (stands 0 x) (count - 1) (λ m low. other m (apart m (omega arith)))
  where
    other : (m : ℕ) → x ≢ 14 * m + 8 → stands 0 x (call m) ≡ false
    other m ne = grind (arith, nat_tests)

pub called_symbol : (seed count k : ℕ) → k + 1 < count → slice_get (generated seed count).symbols (k + 2) ≡ Some (function_symbol count (k + 1))
called_symbol seed count k more =
    let next_one : k + 2 ≡ suc (k + 1) = omega arith in
    ap (slice_get (generated seed count).symbols) next_one ∙ made_there (function_symbol count) count (k + 1) more

module _ (seed count : ℕ) (some : 1 ≤ count) where
  -- what is decoded at the place of an instruction
  pub decoded_there : (x : ℕ) (i : Instr) → StandsAt seed count x i → instr_at (code_bytes seed count) (length (code_bytes seed count)) x 0 ≡ Ok i
  decoded_there x i h =
      cond-true _ (decoded_at (code_bytes seed count) x 0) (Err Unknown) (le-leb (x + length_at (code_bytes seed count) x) (length (code_bytes seed count)) (stands_whole seed count some x i h))
      ∙ (stands_there seed count x i h).decodes

  pub call_right : (k : ℕ) → k + 1 < count → IsRight (generated seed count) k (call k)
  call_right k more =
      let here : StandsAt seed count (14 * k + 8) calls = next k more refl refl in
      record {
        is_there = reloc_there seed count k more;
        place = on_instr (length (code_bytes seed count)) calls (stands_code_start seed count some (14 * k + 8) calls here) (decoded_there (14 * k + 8) calls here) refl;
        alone = λ i q low there same. before i q low (reloc_is seed count i q there).1;
        straight = λ undefined. absurd (true≢false (sym undefined ∙ ap is_undefined (called_symbol seed count k more)));
      }
    where
      before : (i : ℕ) (q : Reloc) → i < k → q ≡ call i → q.offset + place_width q.kind ≤ 14 * k + 8
      before i q low same =
          let far : 14 * i + 8 + 4 ≤ 14 * k + 8 = omega arith in
          subst (λ (r : Reloc). r.offset + place_width r.kind ≤ 14 * k + 8) (sym same) far

  pub reloc_right : (k : ℕ) (r : Reloc) → slice_get (generated seed count).relocs k ≡ Some r → IsRight (generated seed count) k r
  reloc_right k r e =
      let is = reloc_is seed count k r e in
      subst (λ (q : Reloc). IsRight (generated seed count) k q) (sym is.1) (call_right k is.0)

-- where the call of a function leads
module _ (seed count : ℕ) (limits : IsCount count) where
  number_there : (k : ℕ) → k + 1 < count → addend (code_bytes seed count) (call k) ≡ 2 ^ 32 - 4
  number_there k more = ap number_in (stands_there seed count (14 * k + 8) calls (next k more refl refl)).decodes

  pub call_target : (k : ℕ) → k + 1 < count → target_of (generated seed count) (call k) (function_symbol count (k + 1)) ≡ 14 * (k + 1)
  call_target k more =
      let few = limits.high in
      ap (λ (n : ℕ). (even (14 * (k + 1) + 1) + n + 4) % 2 ^ 32) (number_there k more) ∙ sum (omega arith)
    where
      sum : 14 * (k + 1) < 2 ^ 32 → (even (14 * (k + 1) + 1) + (2 ^ 32 - 4) + 4) % 2 ^ 32 ≡ 14 * (k + 1)
      sum low = omega arith

  -- its aim is that of a symbol that other objects see
  pub call_aim : (k : ℕ) (i : Instr) (aim : _) → k + 1 < count → IsAim (generated seed count) 0 (14 * k + 8) i aim → aim ≡ aim_at 0 (function_symbol count (k + 1)) (home.Section 0) (14 * (k + 1))
  call_aim k i aim more (by_offset none is) = absurd (none-some k (sym none ∙ call_reloc seed count k more))
  call_aim k i aim more (by_symbol m r s at right named is) =
      let index : k ≡ m = same_Some k m (sym (call_reloc seed count k more) ∙ at) in
      let this : r ≡ call k = (reloc_is seed count m r right.is_there).1 ∙ ap call (sym index) in
      let symbol : function_symbol count (k + 1) ≡ s =
      same_Some (function_symbol count (k + 1)) s (sym (called_symbol seed count k more) ∙ ap (λ (q : Reloc). slice_get (generated seed count).symbols q.symbol) (sym this) ∙ named) in
      is ∙ ap (λ (q : Reloc). aim_at 0 s s.home (target_of (generated seed count) q s)) this
      ∙ ap (λ (t : Symbol). aim_at 0 t t.home (target_of (generated seed count) (call k) t)) (sym symbol)
      ∙ ap (λ (n : ℕ). aim_at 0 (function_symbol count (k + 1)) (home.Section 0) n) (call_target k more)
  call_aim k i aim more (not_right m at none is) =
      let index : k ≡ m = same_Some k m (sym (call_reloc seed count k more) ∙ at) in
      absurd (none (call k) (subst (λ (n : ℕ). IsRight (generated seed count) n (call k)) index (call_right seed count limits.low k more)))

  pub call_aims : (k : ℕ) (i : Instr) → k + 1 < count → IsAim (generated seed count) 0 (14 * k + 8) i (aim_at 0 (function_symbol count (k + 1)) (home.Section 0) (14 * (k + 1)))
  call_aims k i more =
      by_symbol k (call k) (function_symbol count (k + 1)) (call_reloc seed count k more) (call_right seed count limits.low k more) (called_symbol seed count k more)
      (ap (λ (n : ℕ). aim_at 0 (function_symbol count (k + 1)) (home.Section 0) n) (sym (call_target k more)))
