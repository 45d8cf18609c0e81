-- Relocations by the table of their places, and what the right ones make of symbols.
use Rattle.std.proofs.Common.{◌≡◌, ◌↔◌, ◌<◌, ℕ, zero, suc, ◌+◌, Bool, true, false, cond, List, [], ◌∷◌, refl, sym, ap, ◌∙◌, subst, arith, Option, Some, None}
use Rattle.std.specs.Prelude.{slice_get, ◌==◌}
use Rattle.std.specs.List.{position_from}
use Rattle.std.specs.Option.{option_map}
use Rattle.std.proofs.lemmas.Bool.{cond-true, cond-false, and_from, eq-eqb, false_from_ne_true}
use Rattle.std.proofs.lemmas.Option.{none-some, same_Some}
use Rattle.std.proofs.lemmas.Iterator.Adapters.{position_from-zero}
use Rattle.elf_model.specs.declared.objects.Symbol.{Symbol}
use Rattle.elf_model.specs.declared.objects.Reloc.{Reloc}
use Rattle.elf_model.specs.declared.objects.Home.{Home}
use Rattle.elf_model.specs.declared.objects.Home.TheVariants as home
use Rattle.elf_model.specs.Objects.{ObjectParts, is_object}
use Rattle.reloc_places.specs.declared.relocations.Placed.{Placed}
use Rattle.flow_recover.specs.declared.references.Address.{Address}
use Rattle.reloc_places.specs.Relocations.{is_jump, IsRight, reloc_at, target_of}
use Rattle.flow_recover.specs.NamedClaims.{other_home, target_in, target_by, IsFarTarget}
use Rattle.reloc_places.specs.Tables.{index_of, AreRelocs}
use Rattle.code_ranges.proofs.ObjectFacts.{relocs_rise}
use Rattle.reloc_places.proofs.RelocOrder.{rise_at, below_apart}
use Rattle.reloc_places.proofs.RelocTable.{stands_there}

-- the first element that passes a test
position_is : {X : Type 0} (t : X → Bool) (i : ℕ) (xs : List X) (k : ℕ) (x : X) → slice_get xs k ≡ Some x → t x ≡ true → ((n : ℕ) (y : X) → n < k → slice_get xs n ≡ Some y → t y ≡ false)
    → position_from t i xs ≡ Some (i + k)
position_is t i [] k x at h before = absurd (none-some x at)
position_is t i (y ∷ xs) zero x at h before =
    let z : i ≡ i + 0 = omega arith in
    cond-true (t y) (Some i) (position_from t (i + 1) xs) (ap t (same_Some y x at) ∙ h) ∙ ap (λ (n : ℕ). Some n) z
position_is t i (y ∷ xs) (suc k) x at h before =
    let z : (i + 1) + k ≡ i + suc k = omega arith in
    cond-false (t y) (Some i) (position_from t (i + 1) xs) (before zero y (omega arith) refl)
    ∙ position_is t (i + 1) xs k x at h (λ n w l there. before (suc n) w (omega (arith, l)) there) ∙ ap (λ (n : ℕ). Some n) z

-- the relocation k is the one at its place
pub reloc_there : (o : ObjectParts) (k : ℕ) (r : Reloc) → is_object o ≡ true → slice_get o.relocs k ≡ Some r → reloc_at o r.section r.offset ≡ Some k
reloc_there o k r sound at =
    position_from-zero (stands_there r.section r.offset) o.relocs
    ∙ position_is (stands_there r.section r.offset) 0 o.relocs k r at (and_from (r.section == r.section) (r.offset == r.offset) (eq-eqb r.section r.section refl) (eq-eqb r.offset r.offset refl))
    (λ n q l there. false_from_ne_true (stands_there r.section r.offset q) (λ y. below_apart q r (rise_at o.relocs (relocs_rise o sound) n k q r l there at) y))
    ∙ (let z : 0 + k ≡ k = omega arith in ap (λ (n : ℕ). Some n) z)

module _ (o : ObjectParts) (sound : is_object o ≡ true) (placed_at : ℕ → ℕ → Option Placed) (relocs : AreRelocs o placed_at) (r : Reloc) where
  pub placed_there : (k : ℕ) → slice_get o.relocs k ≡ Some r → placed_at r.section r.offset ≡ None → ⊥
  placed_there k at none =
      none-some k (ap (λ (p : Option Placed). option_map index_of p) (sym none) ∙ relocs.index r.section r.offset ∙ reloc_there o k r sound at)

  placed_index : (k : ℕ) (p : Placed) → slice_get o.relocs k ≡ Some r → placed_at r.section r.offset ≡ Some p → p.index ≡ k
  placed_index k p at is =
      same_Some p.index k (ap (λ (q : Option Placed). option_map index_of q) (sym is) ∙ relocs.index r.section r.offset ∙ reloc_there o k r sound at)

  pub placed_right : (k : ℕ) × (slice_get o.relocs k ≡ Some r) → (p : Placed) → placed_at r.section r.offset ≡ Some p → (p.right ≡ true) ↔ ((i : ℕ) × IsRight o i r)
  placed_right (k, at) p is =
      let tells = relocs.right r.section r.offset p is in (
        λ y. let w = tells.0 y in
            let same : w.0 ≡ r = same_Some w.0 r (sym w.1.is_there ∙ ap (slice_get o.relocs) (placed_index k p at is) ∙ at) in
            (p.index, subst (λ (q : Reloc). IsRight o p.index q) same w.1),
        λ (i, right). tells.1 (r, subst (λ (n : ℕ). IsRight o n r) (sym (placed_index i p right.is_there is)) right),
      )

-- where a right relocation sends a branch to another section
home_injective : (j h : ℕ) → home.Section j ≡ home.Section h → j ≡ h
home_injective j h e = cc

module _ (o : ObjectParts) (r : Reloc) (right : (k : ℕ) × IsRight o k r) (jump : is_jump r.kind ≡ true) (a : Address) where
  pub far_target : target_by o r (slice_get o.symbols r.symbol) ≡ Some a → IsFarTarget o r a
  far_target h = go (slice_get o.symbols r.symbol) refl h
    where
      made : (s : Symbol) (j : ℕ) → slice_get o.symbols r.symbol ≡ Some s → s.home ≡ home.Section j → (j == r.section) ≡ false → IsFarTarget o r (record { section = j; value = target_of o r s })
      made s j names at apart = record { index = right.0; symbol = s; right = right.1; jump = jump; names = names; home = at; apart = apart; value = refl }

      in_section : (s : Symbol) (j : ℕ) (b : Bool) → slice_get o.symbols r.symbol ≡ Some s → s.home ≡ home.Section j → (j == r.section) ≡ b → target_in o r s (cond b None (Some j)) ≡ Some a → IsFarTarget o r a
      in_section s j true names at e h = absurd (none-some a h)
      in_section s j false names at e h = subst (IsFarTarget o r) (same_Some (record { section = j; value = target_of o r s }) a h) (made s j names at e)

      by_home : (s : Symbol) (where' : Home) → slice_get o.symbols r.symbol ≡ Some s → s.home ≡ where' → target_in o r s (other_home r.section where') ≡ Some a → IsFarTarget o r a
      by_home s home.Undefined names at h = absurd (none-some a h)
      by_home s home.Absolute names at h = absurd (none-some a h)
      by_home s (home.Section j) names at h = in_section s j (j == r.section) names at refl h

      go : (s : Option Symbol) → slice_get o.symbols r.symbol ≡ s → target_by o r s ≡ Some a → IsFarTarget o r a
      go None e h = absurd (none-some a h)
      go (Some s) e h = by_home s s.home e refl h

  pub target_far : IsFarTarget o r a → target_by o r (slice_get o.symbols r.symbol) ≡ Some a
  target_far t =
      ap (target_by o r) t.names ∙ ap (λ (h : Home). target_in o r t.symbol (other_home r.section h)) t.home
      ∙ ap (λ (h : Option ℕ). target_in o r t.symbol h) (cond-false (a.section == r.section) None (Some a.section) t.apart)
      ∙ ap (λ (v : ℕ). Some (record { section = a.section; value = v })) (sym t.value)
