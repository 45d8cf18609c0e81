-- A generated object and its hardened form are lists that are paired one by one.
use Rattle.std.proofs.Common.{◌≡◌, ◌≤◌, ℕ, zero, suc, ◌+◌, ◌*◌, ◌∷◌, [], Some, length, refl, subst, arith, sym}
use Rattle.std.specs.Prelude.{slice_get, false}
use Rattle.std.proofs.lemmas.Option.{none-some, same_Some}
use Rattle.elf_model.specs.declared.objects.Section.{Section}
use Rattle.elf_model.specs.Maps.{is_map_named}
use Rattle.elf_model.specs.Objects.{ObjectParts}
use Rattle.sim_relation.specs.Pairs.{Paired, everywhere}
use Rattle.sim_objects.specs.PairedLists.{IsInput, ArePairedOneByOne}
use Rattle.gen_object.specs.Generated.{code_bytes, text_section, generated}
use Rattle.gen_flow.specs.GeneratedCode.{IsCount}
use Rattle.gen_flow.proofs.CodeLengths.{code_length}
use Rattle.make_run.specs.MakeSteps.{IsGenerated}

is_input : (seed count : ℕ) → IsCount count → IsInput (generated seed count)
is_input seed count few =
    let high = few.high in
    let long : length (code_bytes seed count) + 4 ≡ 14 * count = code_length seed count few.low in
    record {
      few = omega arith;
      small = omega arith;
      unnamed = named;
    }
  where
    named : (j : ℕ) (s : Section) → slice_get (text_section (code_bytes seed count) ∷ []) j ≡ Some s → is_map_named s ≡ false
    named zero s e = subst (λ (t : Section). is_map_named t ≡ false) (same_Some (text_section (code_bytes seed count)) s e) refl
    named (suc j) s e = absurd (none-some s e)

paired_one : (o h : ObjectParts) (F : ℕ) → IsInput o → Paired o h F 2 4 everywhere → ArePairedOneByOne (o ∷ []) (h ∷ []) F
paired_one o h F input paired = record { count = refl; inputs = inputs; paired = each }
  where
    inputs : (i : ℕ) (q : ObjectParts) → slice_get (o ∷ []) i ≡ Some q → IsInput q
    inputs zero q e = subst IsInput (same_Some o q e) input
    inputs (suc i) q e = absurd (none-some q e)

    each : (i : ℕ) (q g : ObjectParts) → slice_get (o ∷ []) i ≡ Some q → slice_get (h ∷ []) i ≡ Some g → (G : ℕ) × (G ≤ F) × Paired q g G 2 4 everywhere
    each zero q g e d =
        (F, omega arith, subst (λ (x : ObjectParts). Paired x g F 2 4 everywhere) (same_Some o q e) (subst (λ (x : ObjectParts). Paired o x F 2 4 everywhere) (same_Some h g d) paired))
    each (suc i) q g e d = absurd (none-some q e)

pub generated_one : (o h : ObjectParts) (F : ℕ) → IsGenerated o → Paired o h F 2 4 everywhere → ArePairedOneByOne (o ∷ []) (h ∷ []) F
generated_one o h F is paired = paired_one o h F (subst IsInput (sym is.is) (is_input is.seed is.count is.few)) paired
