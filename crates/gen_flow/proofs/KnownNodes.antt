-- Control reaches nothing but the generated instructions, outside of IT blocks.
use Rattle.std.proofs.Common.{◌≡◌, ℕ, ◌+◌, ◌*◌, ◌<◌, ◌==◌, true, false, length, refl, sym, ap, ◌∙◌, subst, arith, Ok}
use Rattle.std.specs.Prelude.{slice_get, ◌||◌}
use Rattle.std.proofs.lemmas.Bool.{true≢false}
use Rattle.std.proofs.lemmas.Option.{same_Some}
use Rattle.elf_model.specs.declared.objects.Symbol.{Symbol}
use Rattle.elf_model.specs.declared.objects.Reloc.{Reloc}
use Rattle.elf_model.specs.declared.objects.Home.{Home}
use Rattle.elf_model.specs.declared.objects.Home.TheVariants as home
use Rattle.elf_model.specs.Objects.{even}
use Rattle.thumb_instr.specs.declared.instructions.Instr.{Instr}
use Rattle.thumb_instr.specs.Rows.{Answer}
use Rattle.reloc_places.specs.Starts.{bytes_of, IsCodeStart, HasStart, instr_at, it_behind}
use Rattle.reloc_places.specs.Relocations.{is_word, is_half}
use Rattle.flow_recover.specs.Aims.{has_offset, aim_at, is_entry, IsAim, IsReference, IsNamed}
use Rattle.flow_recover.specs.Aims.IsNamed.{by_symbol, by_address, by_branch}
use Rattle.flow_recover.specs.Reach.{IsFound, LeadsOn, LeadsAway, IsReached}
use Rattle.flow_recover.specs.Reach.LeadsOn.{on}
use Rattle.flow_recover.specs.Reach.LeadsAway.{away}
use Rattle.flow_recover.specs.Reach.IsReached.{named, led_on, led_away}
use Rattle.flow_recover.specs.FlowFaults.{IsReachedInstr}
use Rattle.gen_object.specs.Generated.{code_bytes, function_symbol, generated}
use Rattle.gen_flow.specs.GeneratedCode.{IsCount, StandsAt}
use Rattle.gen_flow.proofs.OtherInstrs.{stands_other, other_offset, other_behind, called}
use Rattle.gen_flow.proofs.ObjectRanges.{of_code, of_function, symbol_is, code_start, has_start}
use Rattle.gen_flow.proofs.ObjectCalls.{reloc_is, called_symbol, decoded_there, call_aim}

abbrev home_of : Home → ℕ
home_of (home.Section j) = j
home_of _ = 1

pub no_reference : (seed count : ℕ) (r : Reloc) (s : Symbol) (j : ℕ) → IsReference (generated seed count) r s j → ⊥
no_reference seed count r s j ref =
    let is = reloc_is seed count ref.index r ref.right.is_there in
    true≢false (sym ref.kind ∙ ap (λ (q : Reloc). is_word q.kind || is_half q.kind) is.1)

-- the object names its functions
pub named_is : (seed count j x section offset : ℕ) → IsNamed (generated seed count) j x section offset → (j ≡ 0) × ((k : ℕ) × (k < count) × (x ≡ 14 * k))
named_is seed count j x section offset (by_symbol k s at is code entry place _ _) =
    elim (symbol_is seed count k s at) [
      | of_code e same ↦ absurd (true≢false (sym entry ∙ ap is_entry same))
      | of_function m e few same ↦
          let value : x ≡ even (14 * m + 1) = place ∙ ap (λ (q : Symbol). even q.value) same in
          let inside : j ≡ 0 = sym (ap home_of is) ∙ ap (λ (q : Symbol). home_of q.home) same in
          (inside, (m, few, omega arith))
    ]
named_is seed count j x section offset (by_address r s ref _ _ _) = absurd (no_reference seed count r s j ref)
named_is seed count j x section offset (by_branch k r s right jump at is other _ _ _) =
    let r_is = reloc_is seed count k r right.is_there in
    let symbol : function_symbol count (k + 1) ≡ s =
    same_Some (function_symbol count (k + 1)) s (sym (called_symbol seed count k r_is.0) ∙ ap (λ (q : Reloc). slice_get (generated seed count).symbols q.symbol) (sym r_is.1) ∙ at) in
    let inside : 0 ≡ j = ap (λ (q : Symbol). home_of q.home) symbol ∙ ap home_of is in
    let same : (0 == 0) ≡ false = ap (λ (n : ℕ). n == 0) inside ∙ ap (λ (q : Reloc). j == q.section) (sym r_is.1) ∙ other in
    absurd (true≢false same)

-- a place that control comes to
pub record IsKnownPlace (seed count j x state : ℕ) : Type 0 where
  pub section : j ≡ 0
  pub it : state ≡ 0
  pub stands : (i : Instr) × StandsAt seed count x i

module _ (seed count : ℕ) (limits : IsCount count) where
  -- what is found at a start is what stands there
  pub answer_is : (j x it end : ℕ) (a : Answer) → it ≡ 0 → IsCodeStart (generated seed count) j (bytes_of (generated seed count) j) x end
      → instr_at (bytes_of (generated seed count) j) end x it ≡ a → (i : Instr) × StandsAt seed count x i × (a ≡ Ok i)
  answer_is j x it end a clear start is =
      let s = code_start seed count limits.low j (bytes_of (generated seed count) j) x end refl start in
      let here : instr_at (bytes_of (generated seed count) j) end x it ≡ instr_at (code_bytes seed count) (length (code_bytes seed count)) x 0 =
      ap (λ (n : ℕ). instr_at (bytes_of (generated seed count) n) end x it) s.0 ∙ ap (λ (n : ℕ). instr_at (code_bytes seed count) n x it) s.1
      ∙ ap (λ (n : ℕ). instr_at (code_bytes seed count) (length (code_bytes seed count)) x n) clear in
      (s.2.0, s.2.1, sym is ∙ here ∙ decoded_there seed count limits.low x s.2.0 s.2.1)

  pub found_is : (n : _) (a : Answer) → IsFound (generated seed count) n a → IsKnownPlace seed count n.section n.offset n.it → (i : Instr) × StandsAt seed count n.offset i × (a ≡ Ok i)
  found_is n a found known = answer_is n.section n.offset n.it found.end a known.it found.start found.is

  instr_found : (n : _) (i : Instr) → IsFound (generated seed count) n (Ok i) → IsKnownPlace seed count n.section n.offset n.it → StandsAt seed count n.offset i
  instr_found n i found known =
      let here = found_is n (Ok i) found known in
      let same : here.0 ≡ i = cc in
      subst (λ (k : Instr). StandsAt seed count n.offset k) same here.1

  led : (n m : _) → LeadsOn (generated seed count) n m → IsKnownPlace seed count n.section n.offset n.it → IsKnownPlace seed count m.section m.offset m.it
  led n m (on i found goes same start) known =
      let there = has_start seed count limits.low m.section m.offset start in
      let clear : it_behind i n.it ≡ 0 = ap (it_behind i) known.it ∙ other_behind i (stands_other seed count n.offset i (instr_found n i found known)) in
      record { section = there.0; it = ap (λ q. q.it) same ∙ clear; stands = there.1 }

  place_at : (j x : ℕ) → HasStart (generated seed count) j x → IsKnownPlace seed count j x 0
  place_at j x start =
      let there = has_start seed count limits.low j x start in
      record { section = there.0; it = refl; stands = there.1 }

  sent : (n m : _) → LeadsAway (generated seed count) n m → IsKnownPlace seed count m.section m.offset m.it
  sent n m (away i x found aims same start) = subst (λ q. IsKnownPlace seed count q.section q.offset q.it) (sym same) (place_at n.section x start)

  pub reached_is : (n : _) → IsReached (generated seed count) n → IsKnownPlace seed count n.section n.offset n.it
  reached_is _ (named j x section offset is start) = place_at j x start
  reached_is m (led_on n _ h l) = led n m l (reached_is n h)
  reached_is m (led_away n _ h l) = sent n m l

  -- an instruction that control reaches
  pub reached_stands : (n : _) (i : Instr) → IsReachedInstr (generated seed count) n i → StandsAt seed count n.offset i
  reached_stands n i r = instr_found n i r.found (reached_is n r.reached)

  -- where a call leads
  pub aim_is : (j x : ℕ) (i : Instr) (aim : _) → j ≡ 0 → StandsAt seed count x i → has_offset i ≡ true → IsAim (generated seed count) j x i aim
      → (k : ℕ) × (k + 1 < count) × (aim ≡ aim_at 0 (function_symbol count (k + 1)) (home.Section 0) (14 * (k + 1)))
  aim_is j x i aim section stands has is =
      let at = called seed count x i stands (sym (other_offset i (stands_other seed count x i stands)) ∙ has) in (
        at.0,
        at.1,
        call_aim seed count limits at.0 i aim at.1
            (subst (λ (y : ℕ). IsAim (generated seed count) 0 y i aim) at.2 (subst (λ (h : ℕ). IsAim (generated seed count) h x i aim) section is)),
      )
