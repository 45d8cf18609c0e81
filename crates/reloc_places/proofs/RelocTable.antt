-- The table of relocations by their places.
use Rattle.std.proofs.Common.{◌≡◌, ◌↔◌, ◌<◌, ◌≤◌, ℕ, ◌+◌, Bool, true, false, cond, List, length, get_or, take, refl, sym, ap, ◌∙◌, subst, arith, Option, Some, None}
use Rattle.std.specs.Prelude.{slice_get, ◌==◌, ◌&&◌, nat_le, IsTrue}
use Rattle.std.specs.List.{position_from}
use Rattle.std.specs.Option.{option_or, option_map}
use Rattle.std.proofs.lemmas.Bool.{and_parts, and_from, eqb-true, eq-eqb, leb-true, false_from_ne_true}
use Rattle.std.proofs.lemmas.Option.{none-some, same_Some, slice_get_within, slice_get-get_or}
use Rattle.std.proofs.lemmas.List.{length-take-le, take_all}
use Rattle.std.proofs.lemmas.Iterator.Adapters.{position_from-zero}
use Rattle.elf_model.specs.declared.objects.Reloc.{Reloc}
use Rattle.elf_model.specs.Objects.{ObjectParts, is_object, is_within, code_size}
use Rattle.reloc_places.specs.declared.relocations.Placed.{Placed}
use Rattle.reloc_places.specs.declared.relocations.Reach.{Reach}
use Rattle.reloc_places.specs.Relocations.{IsRight}
use Rattle.reloc_places.specs.Placement.{end_in, reach_with, MayStand}
use Rattle.reloc_places.specs.Tables.{index_of, AreRelocs}
use Rattle.code_ranges.proofs.ObjectFacts.{relocs_rise}
use Rattle.reloc_places.proofs.StartFacts.{any_limit}
use Rattle.reloc_places.proofs.RelocOrder.{rise_at, below_apart, take_at, at_take, take_with, reach_under, reach_from, IsReach, reach_there, reach_more, position_push, position_none}

-- the relocation k is right if it may stand where it does behind those before it
module _ (o : ObjectParts) (n : ℕ) (reach : Reach) (r : Reloc) (is : IsReach o.relocs n reach) (at : slice_get o.relocs n ≡ Some r) where
  right_from : MayStand o (end_in reach r.section) r → IsRight o n r
  right_from h = record {
    is_there = at;
    place = h.place;
    alone = λ i q l there same. reach_under r.section (take n o.relocs) r.offset (subst (λ (e : ℕ). e ≤ r.offset) (reach_there o.relocs n reach r is at) h.alone) i q (at_take o.relocs n i q l there) same;
    straight = h.straight;
  }

  stand_from : IsRight o n r → MayStand o (end_in reach r.section) r
  stand_from h = record {
    place = h.place;
    alone =
        subst (λ (e : ℕ). e ≤ r.offset) (sym (reach_there o.relocs n reach r is at))
        (reach_from r.section (take n o.relocs) r.offset (λ i q there same. let t = take_at o.relocs n i q there in h.alone i q t.0 t.1 same));
    straight = h.straight;
  }

  pub right_is : (b : Bool) → (b ≡ true) ↔ MayStand o (end_in reach r.section) r → (b ≡ true) ↔ ((q : Reloc) × IsRight o n q)
  right_is b h = (
    λ y. (r, right_from (h.0 y)),
    λ (q, right). h.1 (stand_from (subst (λ (t : Reloc). IsRight o n t) (sym (same_Some r q (sym at ∙ right.is_there))) right)),
  )

abbrev pub stands_there : ℕ → ℕ → Reloc → Bool
stands_there j x r = (r.section == j) && (r.offset == x)

-- the table of the first n relocations
pub record ArePlaced (o : ObjectParts) (n : ℕ) (placed_at : ℕ → ℕ → Option Placed) : Type 0 where
  pub index : (j x : ℕ) → option_map index_of (placed_at j x) ≡ position_from (stands_there j x) 0 (take n o.relocs)
  pub right : (j x : ℕ) (p : Placed) → placed_at j x ≡ Some p → (p.right ≡ true) ↔ ((r : Reloc) × IsRight o p.index r)

pub none_placed : (o : ObjectParts) (placed_at : ℕ → ℕ → Option Placed) → ((j x : ℕ) → placed_at j x ≡ None) → ArePlaced o 0 placed_at
none_placed o placed_at h = record {
  index = λ j x. ap (λ (p : Option Placed). option_map index_of p) (h j x);
  right = λ j x p at. absurd (none-some p (sym (h j x) ∙ at));
}

module _ (o : ObjectParts) (sound : is_object o ≡ true) where
  -- no relocation before has the place of a relocation
  none_before : (n : ℕ) (r : Reloc) (j x : ℕ) → slice_get o.relocs n ≡ Some r → stands_there j x r ≡ true → position_from (stands_there j x) 0 (take n o.relocs) ≡ None
  none_before n r j x at here =
      position_none (stands_there j x) 0 (take n o.relocs) (λ k q there.
      let t = take_at o.relocs n k q there in
      false_from_ne_true (stands_there j x q) (λ y. below_apart q r (rise_at o.relocs (relocs_rise o sound) k n q r t.0 t.1 at) (one_place q y)))
    where
      one_place : (q : Reloc) → stands_there j x q ≡ true → ((q.section == r.section) && (q.offset == r.offset)) ≡ true
      one_place q y =
          let a = and_parts (q.section == j) (q.offset == x) y in
          let b = and_parts (r.section == j) (r.offset == x) here in
          and_from (q.section == r.section) (q.offset == r.offset) (eq-eqb q.section r.section (eqb-true q.section j a.0 ∙ sym (eqb-true r.section j b.0)))
          (eq-eqb q.offset r.offset (eqb-true q.offset x a.1 ∙ sym (eqb-true r.offset x b.1)))

  length_before : (n : ℕ) (r : Reloc) → slice_get o.relocs n ≡ Some r → 0 + length (take n o.relocs) ≡ n
  length_before n r at = let l = slice_get_within o.relocs n r at in omega (arith, length-take-le n o.relocs (omega (arith, l)))

  index_more : (n : ℕ) (r : Reloc) (j x : ℕ) (b : Bool) (old new : Option Placed) → slice_get o.relocs n ≡ Some r → option_map index_of old ≡ position_from (stands_there j x) 0 (take n o.relocs)
      → new ≡ cond (stands_there j x r) (Some (record { index = n; right = b })) old → option_map index_of new ≡ position_from (stands_there j x) 0 (take (n + 1) o.relocs)
  index_more n r j x b old new at before is =
      ap (λ (p : Option Placed). option_map index_of p) is ∙ go (stands_there j x r) refl
      ∙ sym (ap (position_from (stands_there j x) 0) (take_with o.relocs n r at) ∙ position_push (stands_there j x) 0 (take n o.relocs) r
      ∙ ap (λ (m : ℕ). option_or (position_from (stands_there j x) 0 (take n o.relocs)) (cond (stands_there j x r) (Some m) None)) (length_before n r at))
    where
      none_or : (p : Option ℕ) → p ≡ option_or p None
      none_or None = refl
      none_or (Some i) = refl

      go : (t : Bool) → stands_there j x r ≡ t → option_map index_of (cond t (Some (record { index = n; right = b })) old) ≡ option_or (position_from (stands_there j x) 0 (take n o.relocs)) (cond t (Some n) None)
      go true e = sym (ap (λ (p : Option ℕ). option_or p (Some n)) (none_before n r j x at e))
      go false e = before ∙ none_or (position_from (stands_there j x) 0 (take n o.relocs))

  -- one more relocation
  pub placed_more : (n : ℕ) (reach : Reach) (r : Reloc) (b : Bool) (old new : ℕ → ℕ → Option Placed) → IsReach o.relocs n reach → slice_get o.relocs n ≡ Some r → (b ≡ true) ↔ MayStand o (end_in reach r.section) r
      → ArePlaced o n old → ((j x : ℕ) → new j x ≡ cond (stands_there j x r) (Some (record { index = n; right = b })) (old j x)) → ArePlaced o (n + 1) new
  placed_more n reach r b old new is at tells placed made = record {
    index = λ j x. index_more n r j x b (old j x) (new j x) at (placed.index j x) (made j x);
    right = λ j x p there. go j x p (stands_there j x r) refl (sym (made j x) ∙ there);
  }
    where
      go : (j x : ℕ) (p : Placed) (t : Bool) → stands_there j x r ≡ t → cond t (Some (record { index = n; right = b })) (old j x) ≡ Some p → (p.right ≡ true) ↔ ((q : Reloc) × IsRight o p.index q)
      go j x p true e h =
          subst (λ (z : Placed). (z.right ≡ true) ↔ ((q : Reloc) × IsRight o z.index q)) (same_Some (record { index = n; right = b }) p h) (right_is o n reach r is at b tells)
      go j x p false e h = placed.right j x p h

-- the relocation that a loop is at
pub loop_at : (o : ObjectParts) (items : List Reloc) (n : ℕ) (d : Reloc) → items ≡ o.relocs → n < length items → slice_get o.relocs n ≡ Some (get_or items n d)
loop_at o items n d same l = ap (λ (xs : List Reloc). slice_get xs n) (sym same) ∙ slice_get-get_or items n d l

pub relocs_few : (o : ObjectParts) → IsTrue (is_within o any_limit) → length o.relocs ≤ 524288
relocs_few o within =
    let all = and_parts (nat_le (length o.sections) 1024 && nat_le (length o.symbols) 262144 && nat_le (length o.relocs) 524288) (nat_le (code_size o.sections) 16777216) within in
    let few = and_parts (nat_le (length o.sections) 1024 && nat_le (length o.symbols) 262144) (nat_le (length o.relocs) 524288) all.0 in
    leb-true (length o.relocs) 524288 few.1

-- one step of a loop
module _ (o : ObjectParts) (items : List Reloc) (n : ℕ) (d : Reloc) (sound : is_object o ≡ true) (same : items ≡ o.relocs) (l : n < length items) (reach : Reach) (is : IsReach o.relocs n reach) where
  pub reach_step : (after : Reach) → after ≡ reach_with reach (get_or items n d) → IsReach o.relocs (n + 1) after
  reach_step after e =
      subst (IsReach o.relocs (n + 1)) (sym e) (reach_more o.relocs n reach (get_or items n d) (relocs_rise o sound) is (loop_at o items n d same l))

  pub placed_step : (end : ℕ) (b : Bool) (old new : ℕ → ℕ → Option Placed) → end ≡ end_in reach (get_or items n d).section → (b ≡ true) ↔ MayStand o end (get_or items n d) → ArePlaced o n old
      → ((j x : ℕ) → new j x ≡ cond (stands_there j x (get_or items n d)) (Some (record { index = n; right = b })) (old j x)) → ArePlaced o (n + 1) new
  placed_step end b old new e tells placed made =
      placed_more o sound n reach (get_or items n d) b old new is (loop_at o items n d same l) (subst (λ (z : ℕ). (b ≡ true) ↔ MayStand o z (get_or items n d)) e tells) placed made

-- the table of all
pub all_placed : (o : ObjectParts) (n : ℕ) (placed_at : ℕ → ℕ → Option Placed) → length o.relocs ≤ n → ArePlaced o n placed_at → AreRelocs o placed_at
all_placed o n placed_at all h = record {
  index = λ j x. h.index j x ∙ ap (position_from (stands_there j x) 0) (take_all n o.relocs all) ∙ sym (position_from-zero (stands_there j x) o.relocs);
  right = h.right;
}
