-- The marks rise, and are the places where something begins.
use Rattle.std.proofs.Common.{◌≡◌, ◌<◌, ℕ, List, [], ◌∷◌, refl, sym, ap, ◌∙◌, subst, inl, inr, ◌⊎◌, map, Some}
use Rattle.std.specs.Prelude.{All, Contains, ◌==◌}
use Rattle.std.specs.declared.cmp.Ordering.{Ordering}
use Rattle.std.specs.declared.cmp.Ordering.TheVariants.{Less, Equal, Greater}
use Rattle.std.specs.Ordering.{nat_cmp, ordering_then}
use Rattle.std.specs.List.{AllByRecursion}
use Rattle.std.specs.List.Sorted.{IsStrictlySortedBy}
use Rattle.std.specs.BTreeMap.{BTreeMap, get, is_at, IsOrdered}
use Rattle.std.specs.Map.{keys_of}
use Rattle.std.proofs.lemmas.Bool.{and_parts, eqb-true}
use Rattle.std.proofs.lemmas.Cmp.{ranked}
use Rattle.std.proofs.lemmas.List.Elements.{All-nil, All-cons, All-map}
use Rattle.std.proofs.lemmas.Map.Keys.{sorted_head, sorted_tail}
use Rattle.std.proofs.lemmas.Map.Entries.{place_from_lookup, btree_map_get_place}
use Rattle.elf_model.specs.declared.objects.Symbol.{Symbol}
use Rattle.elf_model.specs.declared.ranges.RangeKind.{RangeKind}
use Rattle.code_ranges.specs.declared.spans.Mark.{Mark}
use Rattle.code_ranges.specs.Spans.{place_cmp, kind_at, mark_of}
use Rattle.elf_model.proofs.Elements.{contains_map, map_contains, place_of, contains_at}
use Rattle.code_ranges.proofs.PlaceOrder.{same_place, place_total}

abbrev pub Before : Mark → Mark → Type 0
Before m q = (m.section < q.section) ⊎ ((m.section ≡ q.section) × (m.offset < q.offset))

abbrev pub Rising : List Mark → Type 0
Rising [] = Unit {0}
Rising (m ∷ rest) = All (Before m) rest × Rising rest

pub less : (p q : ℕ × ℕ) → place_cmp p q ≡ Less → (p.0 < q.0) ⊎ ((p.0 ≡ q.0) × (p.1 < q.1))
less p q h = go (nat_cmp p.0 q.0) refl h
  where
    go : (c : Ordering) → nat_cmp p.0 q.0 ≡ c → ordering_then c (nat_cmp p.1 q.1) ≡ Less → (p.0 < q.0) ⊎ ((p.0 ≡ q.0) × (p.1 < q.1))
    go Less e h = inl (ranked p.0 q.0 Less (sym e))
    go Equal e h = inr (ranked p.0 q.0 Equal (sym e), ranked p.1 q.1 Less (sym h))
    go Greater e h = absurd (cc)

above : (e : (ℕ × ℕ) × RangeKind) (es : List ((ℕ × ℕ) × RangeKind)) → AllByRecursion (λ y. place_cmp e.0 y ≡ Less) (keys_of es) → All (λ y. Before (mark_of e) (mark_of y)) es
above e [] h = All-nil (λ y. Before (mark_of e) (mark_of y))
above e (y ∷ es) h = All-cons (λ y. Before (mark_of e) (mark_of y)) y es (less e.0 y.0 h.0) (above e es h.1)

pub rising : (es : List ((ℕ × ℕ) × RangeKind)) → IsStrictlySortedBy place_cmp (keys_of es) → Rising (map mark_of es)
rising [] h = tt
rising (e ∷ es) h =
    (All-map (Before (mark_of e)) mark_of es (above e es (sorted_head place_cmp e.0 (keys_of es) h)), rising es (sorted_tail place_cmp e.0 (keys_of es) h))

module _ (symbols : List Symbol) (m : BTreeMap (ℕ × ℕ) RangeKind) (ordered : IsOrdered place_cmp m) (starts : (j x : ℕ) → get place_cmp m (j, x) ≡ kind_at symbols j x) where
  pub mark_begins : (q : Mark) → Contains (map mark_of m.entries) q → kind_at symbols q.section q.offset ≡ Some q.kind
  mark_begins q h =
      let e = contains_map mark_of m.entries q h in
      let i = place_of m.entries e.0 e.1 in
      subst (λ (z : Mark). kind_at symbols z.section z.offset ≡ Some z.kind) e.2
      (sym (starts e.0.0.0 e.0.0.1) ∙ btree_map_get_place place_total m i.0 e.0.0 e.0.1 ordered i.1)

  pub beginning_marked : (q : Mark) → kind_at symbols q.section q.offset ≡ Some q.kind → Contains (map mark_of m.entries) q
  beginning_marked q h =
      let r = place_from_lookup (is_at (place_cmp (q.section, q.offset))) m.entries q.kind (starts q.section q.offset ∙ h) in
      let e = and_parts (q.section == r.1.0) (q.offset == r.1.1) (sym (same_place q.section q.offset r.1.0 r.1.1) ∙ r.3) in
      let same : mark_of (r.1, q.kind) ≡ q =
      ap (λ (j : ℕ). record { section = j; offset = r.1.1; kind = q.kind }) (sym (eqb-true q.section r.1.0 e.0))
      ∙ ap (λ (x : ℕ). record { section = q.section; offset = x; kind = q.kind }) (sym (eqb-true q.offset r.1.1 e.1)) in
      subst (λ (z : Mark). Contains (map mark_of m.entries) z) same (map_contains mark_of m.entries (r.1, q.kind) (contains_at m.entries r.0 (r.1, q.kind) r.2))
