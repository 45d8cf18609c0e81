-- An address is in the place of a relocation, or no relocation has it.
use Rattle.std.specs.Prelude.{◌≡◌, ◌⊎◌, ℕ, zero, suc, true, List, [], ◌∷◌, Some, slice_get}
use Rattle.std.proofs.Common.{inl, inr, ap, sym, ◌∙◌, subst, refl}
use Rattle.std.proofs.lemmas.Bool.{cases_Bool, both_ways}
use Rattle.std.proofs.lemmas.Option.{none-some, same_Some}
use Rattle.elf_model.specs.declared.objects.Reloc.{Reloc}
use Rattle.elf_model.specs.Objects.{ObjectParts}
use Rattle.thumb_table.specs.declared.placements.Placement.{Placement}
use Rattle.thumb_table.specs.Links.{Link, IsLink, IsFree, covers}
use Rattle.thumb_table.specs.Images.{CanLink}
use Rattle.sim_images.specs.ImageLaws.{AreObjects}
use Rattle.sim_images.proofs.EachLinked.{linked_at}
use Rattle.sim_images.proofs.StandingLinked.{same_link}

-- an element of which something holds by its number, or none
record Hit {X : Type 0} (P : ℕ → X → Type 0) (xs : List X) : Type 0 where
  pub index : ℕ
  pub element : X
  pub there : slice_get xs index ≡ Some element
  pub holds : P index element

abbrev Misses : {X : Type 0} → (ℕ → X → Type 0) → List X → Type 0
Misses {X} P xs = (k : ℕ) (x : X) → slice_get xs k ≡ Some x → P k x → ⊥

seek : {X : Type 0} (P : ℕ → X → Type 0) (xs : List X) → ((k : ℕ) (x : X) → slice_get xs k ≡ Some x → P k x ⊎ (P k x → ⊥)) → Hit P xs ⊎ Misses P xs
seek P [] decide = inr (λ k x e p. none-some x e)
seek {X} P (x ∷ xs) decide =
    elim (decide zero x refl) [
      | inl p ↦ inl (record { index = zero; element = x; there = refl; holds = p })
      | inr n ↦ elim (seek (λ k. P (suc k)) xs (λ k y e. decide (suc k) y e)) [
        | inl h ↦ inl (record { index = suc h.index; element = h.element; there = h.there; holds = h.holds })
        | inr m ↦ inr (neither n m)
      ]
    ]
  where
    neither : (P zero x → ⊥) → Misses (λ k. P (suc k)) xs → Misses P (x ∷ xs)
    neither n m zero y e p = n (subst (λ (z : X). P zero z) (sym (same_Some x y e)) p)
    neither n m (suc k) y e p = m k y e p

-- a link that has the byte at an address
pub record Covered (objects : List ObjectParts) (at : Placement) (a : ℕ) : Type 0 where
  pub link : Link
  pub is_link : IsLink objects at link
  pub has : covers a link ≡ true

record CoveredIn (objects : List ObjectParts) (at : Placement) (a i : ℕ) : Type 0 where
  pub link : Link
  pub is_link : IsLink objects at link
  pub file : link.file ≡ i
  pub has : covers a link ≡ true

record CoveredBy (objects : List ObjectParts) (at : Placement) (a i k : ℕ) : Type 0 where
  pub link : Link
  pub is_link : IsLink objects at link
  pub file : link.file ≡ i
  pub number : link.number ≡ k
  pub has : covers a link ≡ true

module _ (objects : List ObjectParts) (at : Placement) (sound : AreObjects objects) (can : CanLink objects at) (a : ℕ) where
  by_reloc : (i : ℕ) (o : ObjectParts) → slice_get objects i ≡ Some o → (k : ℕ) (r : Reloc) → slice_get o.relocs k ≡ Some r → CoveredBy objects at a i k ⊎ (CoveredBy objects at a i k → ⊥)
  by_reloc i o e k r f =
      let h = linked_at objects at sound can i k o r (record { object = e; reloc = f }) in
      elim (cases_Bool (covers a h.link)) [
        | inl y ↦ inl (record { link = h.link; is_link = h.is_link; file = h.file; number = h.number; has = y })
        | inr n ↦
            inr (λ c.
            let same = same_link objects at c.link h.link c.is_link h.is_link (c.file ∙ sym h.file) (c.number ∙ sym h.number) in
            both_ways (covers a h.link) n (subst (λ (l : Link). covers a l ≡ true) same c.has))
      ]

  in_object : (i : ℕ) (o : ObjectParts) → slice_get objects i ≡ Some o → CoveredIn objects at a i ⊎ (CoveredIn objects at a i → ⊥)
  in_object i o e =
      elim (seek (λ (k : ℕ) (r : Reloc). CoveredBy objects at a i k) o.relocs (by_reloc i o e)) [
        | inl h ↦ inl (record { link = h.holds.link; is_link = h.holds.is_link; file = h.holds.file; has = h.holds.has })
        | inr none ↦
            inr (λ c.
            let one : c.link.object ≡ o = same_Some c.link.object o (sym c.is_link.object ∙ (ap (λ (n : ℕ). slice_get objects n) c.file ∙ e)) in
            none c.link.number c.link.reloc (subst (λ (z : ObjectParts). slice_get z.relocs c.link.number ≡ Some c.link.reloc) one c.is_link.reloc)
            (record { link = c.link; is_link = c.is_link; file = c.file; number = refl; has = c.has }))
      ]

  pub covered_or_free : Covered objects at a ⊎ IsFree objects at a
  covered_or_free =
      elim (seek (λ (i : ℕ) (o : ObjectParts). CoveredIn objects at a i) objects in_object) [
        | inl h ↦ inl (record { link = h.holds.link; is_link = h.holds.is_link; has = h.holds.has })
        | inr none ↦
            inr (λ l il.
            elim (cases_Bool (covers a l)) [
              | inl y ↦ absurd (none l.file l.object il.object (record { link = l; is_link = il; file = refl; has = y }))
              | inr n ↦ n
            ])
      ]
