-- The spots of relocations that stand in the way of a flow.
use Rattle.std.proofs.Common.{◌≡◌, ◌↔◌, ◌⊎◌, ℕ, ◌%◌, Bool, true, not, List, refl, sym, ap, ◌∙◌, subst, inl, inr, Option, Some, None}
use Rattle.std.specs.Prelude.{Contains, slice_get}
use Rattle.std.proofs.lemmas.Bool.{true≢false}
use Rattle.std.proofs.lemmas.Option.{none-some, same_Some}
use Rattle.elf_model.specs.declared.objects.Reloc.{Reloc}
use Rattle.elf_model.specs.declared.refusals.Refusal.TheVariants.{RelocKind, IntoMiddle}
use Rattle.elf_model.specs.declared.refusals.Spot.{Spot}
use Rattle.elf_model.specs.Objects.{ObjectParts, is_object}
use Rattle.flow_recover.specs.declared.references.Address.{Address}
use Rattle.reloc_places.specs.Relocations.{IsRight, value_of}
use Rattle.flow_recover.specs.Gains.{Gains, IsFrom}
use Rattle.flow_recover.specs.NamedClaims.{IsAddress}
use Rattle.flow_recover.specs.RelocFaults.{MakesArmAddress, IsRelocSpot, IsRelocFault}
use Rattle.elf_model.proofs.Elements.{contains_at, place_of}
use Rattle.flow_recover.proofs.AnswerFacts.{not_true, never_true}
use Rattle.flow_recover.proofs.GainFacts.{gain_same, gain_both, gains_as}
use Rattle.flow_recover.proofs.NodeFaultFacts.{Pushed}
use Rattle.flow_recover.proofs.RightRelocs.{reloc_there}

-- the address that a relocation makes
module _ (o : ObjectParts) (r : Reloc) (answer : Option Address) (exact : (a : Address) → (answer ≡ Some a) ↔ IsAddress o r a) where
  pub no_address : answer ≡ None → MakesArmAddress o r → ⊥
  no_address e m =
      let a : Address = record { section = m.section; value = value_of o r m.symbol } in
      none-some a (sym e ∙ (exact a).1 (record { symbol = m.symbol; reference = m.reference; value = refl }))

  pub arm_made : (a : Address) → answer ≡ Some a → a.value % 2 ≡ 0 → MakesArmAddress o r
  arm_made a e h =
      let is = (exact a).0 e in
      record { symbol = is.symbol; section = a.section; reference = is.reference; arm = ap (λ (n : ℕ). n % 2) (sym is.value) ∙ h }

  pub made_arm : (a : Address) → answer ≡ Some a → MakesArmAddress o r → a.value % 2 ≡ 0
  made_arm a e m =
      let b : Address = record { section = m.section; value = value_of o r m.symbol } in
      let same : a ≡ b = same_Some a b (sym e ∙ (exact b).1 (record { symbol = m.symbol; reference = m.reference; value = refl })) in
      ap (λ (z : Address). z.value % 2) same ∙ m.arm

-- one relocation's spots
pub reloc_spots : (o : ObjectParts) (r : Reloc) (right arm : Bool) → (right ≡ true) ↔ ((k : ℕ) × IsRight o k r) → (arm ≡ true) ↔ MakesArmAddress o r → (s0 s1 s2 : List Spot)
    → Gains (Pushed (not right) RelocKind r.section r.offset) s0 s1 → Gains (Pushed arm IntoMiddle r.section r.offset) s1 s2 → Gains (IsRelocSpot o r) s0 s2
reloc_spots o r right arm is makes s0 s1 s2 g h s =
    gain_same (Contains s2 s) (Contains s0 s) (Pushed (not right) RelocKind r.section r.offset s ⊎ Pushed arm IntoMiddle r.section r.offset s) (IsRelocSpot o r s)
    (λ p. elim p [ inl a ↦ inl (λ k. true≢false (sym (is.1 k) ∙ not_true right a.0), a.1) | inr b ↦ inr (makes.0 b.0, b.1) ])
    (λ p. elim p [ inl a ↦ inl (never_true right (λ t. a.0 (is.0 t)), a.1) | inr b ↦ inr (makes.1 b.0, b.1) ])
    (gain_both _ _ _ _ _ (g s) (h s))

-- those of all
one_index : (o : ObjectParts) (i k : ℕ) (r : Reloc) → is_object o ≡ true → slice_get o.relocs i ≡ Some r → slice_get o.relocs k ≡ Some r → i ≡ k
one_index o i k r sound a b = same_Some i k (sym (reloc_there o i r sound a) ∙ reloc_there o k r sound b)

pub all_relocs : (o : ObjectParts) (xs new : List Spot) → is_object o ≡ true → Gains (IsFrom (IsRelocSpot o) o.relocs) xs new → Gains (IsRelocFault o) xs new
all_relocs o xs new sound gains = gains_as (IsFrom (IsRelocSpot o) o.relocs) (IsRelocFault o) xs new (λ y. (to y, from y)) gains
  where
    to : (y : Spot) → IsFrom (IsRelocSpot o) o.relocs y → IsRelocFault o y
    to y f =
        let at = place_of o.relocs f.source f.there in
        elim f.gives [
          | inl w ↦ inl (record { index = at.0; reloc = f.source; there = at.1; wrong = λ right. w.0 (at.0, right); same = w.1 })
          | inr a ↦ inr (record { reloc = f.source; makes = a.0; same = a.1 })
        ]

    from : (y : Spot) → IsRelocFault o y → IsFrom (IsRelocSpot o) o.relocs y
    from y (inl w) = record {
      source = w.reloc;
      there = contains_at o.relocs w.index w.reloc w.there;
      gives = inl (λ (k, right). w.wrong (subst (λ (n : ℕ). IsRight o n w.reloc) (one_index o k w.index w.reloc sound right.is_there w.there) right), w.same);
    }
    from y (inr a) = record { source = a.reloc; there = contains_at o.relocs a.makes.reference.index a.reloc a.makes.reference.right.is_there; gives = inr (a.makes, a.same) }
