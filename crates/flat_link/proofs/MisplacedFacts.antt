-- Relocations by the table of their places, and the first of them that is not right.
use Rattle.std.proofs.Common.{◌≡◌, ◌↔◌, ◌<◌, ℕ, zero, suc, ◌+◌, Bool, true, false, List, [], ◌∷◌, length, get_or, refl, sym, ap, ◌∙◌, subst, inl, inr, ◌⊎◌, arith, Option, Some, None}
use Rattle.std.specs.Prelude.{slice_get, ◌==◌}
use Rattle.std.specs.List.{position_from}
use Rattle.std.specs.Option.{option_map}
use Rattle.std.proofs.lemmas.Bool.{cond-true, cond-false, and_from, eq-eqb, false_from_ne_true, cases_lt}
use Rattle.std.proofs.lemmas.Option.{none-some, same_Some, slice_get-get_or}
use Rattle.std.proofs.lemmas.Iterator.Adapters.{position_from-zero}
use Rattle.elf_model.specs.declared.objects.Reloc.{Reloc}
use Rattle.elf_model.specs.declared.refusals.Refusal.TheVariants.{RelocKind}
use Rattle.elf_model.specs.declared.refusals.Spot.{Spot}
use Rattle.elf_model.specs.Objects.{ObjectParts, is_object}
use Rattle.code_ranges.specs.Spots.{spot_in}
use Rattle.code_ranges.proofs.ObjectFacts.{relocs_rise}
use Rattle.reloc_places.specs.declared.relocations.Placed.{Placed}
use Rattle.reloc_places.specs.Relocations.{IsRight, reloc_at}
use Rattle.reloc_places.specs.Tables.{index_of, AreRelocs}
use Rattle.reloc_places.proofs.RelocOrder.{rise_at, below_apart}
use Rattle.reloc_places.proofs.RelocTable.{stands_there}
use Rattle.thumb_table.specs.LinkFaults.{IsReloc}
use Rattle.flat_link.specs.Misplaced.{IsWrong, IsFirstWrong, IsFirstMisplaced}

-- the first element that passes a test
position_is : {X : Type 0} (t : X → Bool) (i : ℕ) (xs : List X) (k : ℕ) (x : X) → slice_get xs k ≡ Some x → t x ≡ true → ((n : ℕ) (y : X) → n < k → slice_get xs n ≡ Some y → t y ≡ false)
    → position_from t i xs ≡ Some (i + k)
position_is t i [] k x at h before = absurd (none-some x at)
position_is t i (y ∷ xs) zero x at h before =
    let z : i ≡ i + 0 = omega arith in
    cond-true (t y) (Some i) (position_from t (i + 1) xs) (ap t (same_Some y x at) ∙ h) ∙ ap (λ (n : ℕ). Some n) z
position_is t i (y ∷ xs) (suc k) x at h before =
    let z : (i + 1) + k ≡ i + suc k = omega arith in
    cond-false (t y) (Some i) (position_from t (i + 1) xs) (before zero y (omega arith) refl)
    ∙ position_is t (i + 1) xs k x at h (λ n w l there. before (suc n) w (omega (arith, l)) there) ∙ ap (λ (n : ℕ). Some n) z

-- the relocation k is the one at its place
reloc_there : (o : ObjectParts) (k : ℕ) (r : Reloc) → is_object o ≡ true → slice_get o.relocs k ≡ Some r → reloc_at o r.section r.offset ≡ Some k
reloc_there o k r sound at =
    position_from-zero (stands_there r.section r.offset) o.relocs
    ∙ position_is (stands_there r.section r.offset) 0 o.relocs k r at (and_from (r.section == r.section) (r.offset == r.offset) (eq-eqb r.section r.section refl) (eq-eqb r.offset r.offset refl))
    (λ n q l there. false_from_ne_true (stands_there r.section r.offset q) (λ y. below_apart q r (rise_at o.relocs (relocs_rise o sound) n k q r l there at) y))
    ∙ (let z : 0 + k ≡ k = omega arith in ap (λ (n : ℕ). Some n) z)

module _ (o : ObjectParts) (sound : is_object o ≡ true) (placed_at : ℕ → ℕ → Option Placed) (relocs : AreRelocs o placed_at) (k : ℕ) (r : Reloc) (at : slice_get o.relocs k ≡ Some r) where
  pub has_place : placed_at r.section r.offset ≡ None → ⊥
  has_place none =
      none-some k (ap (λ (p : Option Placed). option_map index_of p) (sym none) ∙ relocs.index r.section r.offset ∙ reloc_there o k r sound at)

  placed_index : (p : Placed) → placed_at r.section r.offset ≡ Some p → p.index ≡ k
  placed_index p is =
      same_Some p.index k (ap (λ (q : Option Placed). option_map index_of q) (sym is) ∙ relocs.index r.section r.offset ∙ reloc_there o k r sound at)

  -- the table says whether it is right
  pub tells : (p : Placed) → placed_at r.section r.offset ≡ Some p → (p.right ≡ true) ↔ IsRight o k r
  tells p is =
      let says = relocs.right r.section r.offset p is in
      let index = placed_index p is in (
        λ y. let w = says.0 y in
            let same : w.0 ≡ r = same_Some w.0 r (sym w.1.is_there ∙ ap (slice_get o.relocs) index ∙ at) in
            subst (λ (n : ℕ). IsRight o n r) index (subst (λ (q : Reloc). IsRight o p.index q) same w.1),
        λ right. says.1 (r, subst (λ (n : ℕ). IsRight o n r) (sym index) right),
      )

-- one more is right
pub more_right : (o : ObjectParts) (k : ℕ) (rs : List Reloc) (d : Reloc) → rs ≡ o.relocs → k < length rs → IsRight o k (get_or rs k d) → ((h : ℕ) (q : Reloc) → h < k → slice_get o.relocs h ≡ Some q → IsRight o h q)
    → (h : ℕ) (q : Reloc) → h < k + 1 → slice_get o.relocs h ≡ Some q → IsRight o h q
more_right o k rs d same low right before h q less at =
    elim (cases_lt h k) [
      | inl early ↦ before h q early at
      | inr late ↦
          let here : h ≡ k = omega arith in
          let there : slice_get o.relocs k ≡ Some (get_or rs k d) = ap (λ (l : List Reloc). slice_get l k) (sym same) ∙ slice_get-get_or rs k d low in
          let one : get_or rs k d ≡ q = same_Some (get_or rs k d) q (sym there ∙ ap (slice_get o.relocs) (sym here) ∙ at) in
          subst (λ (n : ℕ). IsRight o n q) (sym here) (subst (IsRight o k) one right)
    ]

-- those of so many objects are right
abbrev pub AreRightUpTo : List ObjectParts → ℕ → Type 0
AreRightUpTo objects n = (i k : ℕ) (o : ObjectParts) (r : Reloc) → IsReloc objects i k o r → i < n → IsRight o k r

pub one_right : (objects : List ObjectParts) (n : ℕ) (o : ObjectParts) → slice_get objects n ≡ Some o → IsFirstWrong o None → AreRightUpTo objects n → AreRightUpTo objects (n + 1)
one_right objects n o at all before i k q r there less =
    elim (cases_lt i n) [
      | inl low ↦ before i k q r there low
      | inr high ↦
          let here : i ≡ n = omega arith in
          let same : o ≡ q = same_Some o q (sym at ∙ ap (slice_get objects) (sym here) ∙ there.object) in
          subst (λ (z : ObjectParts). IsRight z k r) same (all k r (ap (λ (z : ObjectParts). slice_get z.relocs k) same ∙ there.reloc))
    ]

pub one_wrong : (objects : List ObjectParts) (n k : ℕ) (o : ObjectParts) (spot : Option Spot) → slice_get objects n ≡ Some o → IsWrong o k → AreRightUpTo objects n
    → ((r : Reloc) → slice_get o.relocs k ≡ Some r → spot ≡ Some (spot_in RelocKind n r.section r.offset)) → IsFirstMisplaced objects spot
one_wrong objects n k o spot at wrong right is =
    subst (IsFirstMisplaced objects) (sym (is wrong.reloc wrong.there)) (record {
      file = n;
      number = k;
      object = o;
      reloc = wrong.reloc;
      there = record { object = at; reloc = wrong.there };
      wrong = wrong.wrong;
      is = refl;
      before = before;
    })
  where
    before : (i h : ℕ) (q : ObjectParts) (r : Reloc) → IsReloc objects i h q r → (i < n) ⊎ ((i ≡ n) × (h < k)) → IsRight q h r
    before i h q r there (inl low) = right i h q r there low
    before i h q r there (inr here) =
        let same : o ≡ q = same_Some o q (sym at ∙ ap (slice_get objects) (sym here.0) ∙ there.object) in
        subst (λ (z : ObjectParts). IsRight z h r) same (wrong.before h r here.1 (ap (λ (z : ObjectParts). slice_get z.relocs h) same ∙ there.reloc))

pub all_right : (objects : List ObjectParts) (n : ℕ) → length objects < n + 1 → AreRightUpTo objects n → IsFirstMisplaced objects None
all_right objects n past before i k o r there = before i k o r there (below objects i o there.object)
  where
    below_length : (os : List ObjectParts) (i : ℕ) (o : ObjectParts) → slice_get os i ≡ Some o → i < length os
    below_length [] i o e = absurd (none-some o e)
    below_length (x ∷ os) zero o e = omega arith
    below_length (x ∷ os) (suc i) o e = let h = below_length os i o e in omega arith

    below : (os : List ObjectParts) (i : ℕ) (o : ObjectParts) → slice_get objects i ≡ Some o → i < n
    below os i o e = let h = below_length objects i o e in omega arith
