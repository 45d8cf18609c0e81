-- Where instruction starts lie, in an object within the limits.
use Rattle.std.proofs.Common.{◌≡◌, ◌<◌, ◌≤◌, ℕ, zero, suc, ◌+◌, ◌^◌, Bool, true, false, cond, List, [], ◌∷◌, length, refl, sym, ap, ◌∙◌, subst, inl, inr, ◌⊎◌, arith, Some}
use Rattle.std.specs.Prelude.{◌↔◌, Option, None, is_some, IsTrue, slice_get, nat_le, ◌&&◌, sum_by, if◌then◌else◌}
use Rattle.std.proofs.lemmas.Bool.{and_parts, leb-true, cases_order, cases_Bool, true≢false}
use Rattle.std.proofs.lemmas.Option.{none-some, same_Some}
use Rattle.std.proofs.lemmas.List.Sums.{sum_by-cons}
use Rattle.elf_model.specs.declared.objects.Section.{Section}
use Rattle.elf_model.specs.declared.ranges.RangeKind.{RangeKind}
use Rattle.elf_model.specs.declared.ranges.RangeKind.TheVariants.{Code}
use Rattle.elf_model.specs.declared.refusals.Limit.{Limit}
use Rattle.elf_model.specs.Fields.{half_at}
use Rattle.elf_model.specs.Objects.{ObjectParts, is_object, is_within, is_code, code_size}
use Rattle.elf_model.specs.Ranges.{IsRange, IsStart, is_long, length_at}
use Rattle.elf_model.specs.Ranges.IsStart.{first, next}
use Rattle.reloc_places.specs.Starts.{bytes_in, bytes_of, IsCodeStart, HasStart}
use Rattle.reloc_places.specs.Tables.{AreStarts}
use Rattle.code_ranges.proofs.RangeOrder.{range_ends, range_end_same, range_inside}
use Rattle.code_ranges.proofs.ObjectFacts.{code_length, section_sound}

abbrev pub any_limit : Limit
any_limit = record { file = 16777216; sections = 1024; symbols = 262144; relocs = 524288; code = 16777216 }

pub record IsInside (o : ObjectParts) (j x end : ℕ) : Type 0 where
  pub before_end : x < end
  pub in_bytes : end ≤ length (bytes_of o j)
  pub small : length (bytes_of o j) ≤ 2 ^ 24

pub length_least : (bytes : List ℕ) (x : ℕ) → 2 ≤ length_at bytes x
length_least bytes x = go (is_long (half_at bytes x))
  where
    go : (b : Bool) → 2 ≤ cond b 4 2
    go true = omega arith
    go false = omega arith

pub length_most : (bytes : List ℕ) (x : ℕ) → length_at bytes x ≤ 4
length_most bytes x = go (is_long (half_at bytes x))
  where
    go : (b : Bool) → cond b 4 2 ≤ 4
    go true = omega arith
    go false = omega arith

-- a start lies within its range
pub start_before : (bytes : List ℕ) (start end x : ℕ) → IsStart bytes start end x → x < end
start_before bytes start end _ (first h) = h
start_before bytes start end _ (next x s h) = h

pub start_behind : (bytes : List ℕ) (start end x : ℕ) → IsStart bytes start end x → start ≤ x
start_behind bytes start end _ (first h) = omega arith
start_behind bytes start end _ (next x s h) = let low = start_behind bytes start end x s in omega arith

-- one section's part of a sum
pub part_within : {X : Type 0} (f : X → ℕ) (xs : List X) (i : ℕ) (x : X) → slice_get xs i ≡ Some x → f x ≤ sum_by f xs
part_within f [] i x e = absurd (none-some x e)
part_within f (y ∷ ys) zero x e =
    let one : f y ≡ f x = ap f (same_Some y x e) in
    let sum = sum_by-cons f y ys in
    omega arith
part_within f (y ∷ ys) (suc i) x e =
    let rest = part_within f ys i x e in
    let sum = sum_by-cons f y ys in
    omega arith

-- a code section is no longer than all code
pub section_within : (o : ObjectParts) (j : ℕ) (s : Section) → slice_get o.sections j ≡ Some s → is_code s ≡ true → s.size ≤ code_size o.sections
section_within o j s at code =
    let part = part_within (λ (t : Section). if is_code t then t.size else 0) o.sections j s at in
    let same : cond (is_code s) s.size 0 ≡ s.size = ap (λ (b : Bool). cond b s.size 0) code in
    omega (arith, part, same)

pub code_within : (o : ObjectParts) → IsTrue (is_within o any_limit) → code_size o.sections ≤ 2 ^ 24
code_within o within =
    let all = and_parts (nat_le (length o.sections) 1024 && nat_le (length o.symbols) 262144 && nat_le (length o.relocs) 524288) (nat_le (code_size o.sections) 16777216) within in
    let small = leb-true (code_size o.sections) 16777216 all.1 in
    omega arith

-- a range's section, with its bytes
pub range_bytes : (o : ObjectParts) (kind : RangeKind) (j a b : ℕ) (r : IsRange o kind j a b) → bytes_of o j ≡ r.section.bytes
range_bytes o kind j a b r = ap bytes_in r.is_there

pub range_in_bytes : (o : ObjectParts) (kind : RangeKind) (j a b : ℕ) → is_object o ≡ true → IsRange o kind j a b → b ≤ length (bytes_of o j)
range_in_bytes o kind j a b sound r =
    let inside = range_inside o kind j a b r.section sound r.is_there r in
    let same = ap length (range_bytes o kind j a b r) in
    omega arith

pub range_small : (o : ObjectParts) (kind : RangeKind) (j a b : ℕ) → is_object o ≡ true → IsTrue (is_within o any_limit) → IsRange o kind j a b → length (bytes_of o j) ≤ 2 ^ 24
range_small o kind j a b sound within r =
    let same = ap length (range_bytes o kind j a b r) in
    let size = code_length r.section (section_sound o j r.section sound r.is_there) r.in_code in
    let part = section_within o j r.section r.is_there r.in_code in
    let all = code_within o within in
    omega arith

pub start_inside : (o : ObjectParts) (j x end : ℕ) → is_object o ≡ true → IsTrue (is_within o any_limit) → IsCodeStart o j (bytes_of o j) x end → IsInside o j x end
start_inside o j x end sound within s = record {
  before_end = start_before (bytes_of o j) s.start end x s.is_start;
  in_bytes = range_in_bytes o Code j s.start end sound s.range;
  small = range_small o Code j s.start end sound within s.range;
}

-- an instruction starts where the table of starts has one
pub start_found : (o : ObjectParts) (end_at : ℕ → ℕ → Option ℕ) → AreStarts o end_at → (j x : ℕ) → (is_some (end_at j x) ≡ true) ↔ HasStart o j x
start_found o end_at starts j x = (λ e. go (end_at j x) refl e, λ h. ap is_some ((starts j x h.end).1 h.start))
  where
    go : (r : Option ℕ) → end_at j x ≡ r → is_some r ≡ true → HasStart o j x
    go None is e = absurd (true≢false (sym e))
    go (Some end) is e = record { end = end; start = (starts j x end).0 is }

pub start_or_none : (o : ObjectParts) (end_at : ℕ → ℕ → Option ℕ) → AreStarts o end_at → (j x : ℕ) → HasStart o j x ⊎ (HasStart o j x → ⊥)
start_or_none o end_at starts j x =
    let found = start_found o end_at starts j x in
    elim (cases_Bool (is_some (end_at j x))) [
      | inl t ↦ inl (found.0 t)
      | inr f ↦ inr (λ h. true≢false (sym (found.1 h) ∙ f))
    ]

-- two ranges of code that share an offset are one
pub start_unique : (o : ObjectParts) (j x e1 e2 : ℕ) (bytes : List ℕ) → IsCodeStart o j bytes x e1 → IsCodeStart o j bytes x e2 → e1 ≡ e2
start_unique o j x e1 e2 bytes r s =
    let a = start_before bytes r.start e1 x r.is_start in
    let b = start_behind bytes r.start e1 x r.is_start in
    let c = start_before bytes s.start e2 x s.is_start in
    let d = start_behind bytes s.start e2 x s.is_start in
    elim (cases_order r.start s.start) [
      | inl e ↦ range_end_same o Code Code j s.start e1 e2 (subst (λ (k : ℕ). IsRange o Code j k e1) e r.range) s.range
      | inr w ↦ elim w [
        | inl l ↦ let h = range_ends o Code Code j r.start e1 s.start e2 r.range s.range l in absurd (omega arith)
        | inr l ↦ let h = range_ends o Code Code j s.start e2 r.start e1 s.range r.range l in absurd (omega arith)
      ]
    ]

-- a start is the first one, or one of those behind it
pub start_split : (bytes : List ℕ) (start end x : ℕ) → IsStart bytes start end x → (x ≡ start) ⊎ IsStart bytes (start + length_at bytes start) end x
start_split bytes start end _ (first h) = inl refl
start_split bytes start end _ (next x s h) =
    elim (start_split bytes start end x s) [
      | inl e ↦ inr (subst (λ (k : ℕ). IsStart bytes (start + length_at bytes start) end (k + length_at bytes k)) (sym e) (first (subst (λ (k : ℕ). k + length_at bytes k < end) e h)))
      | inr r ↦ inr (next x r h)
    ]

-- the starts from one on are those of the rest of the range
pub start_from : (bytes : List ℕ) (start end a b : ℕ) → IsStart bytes start end a → IsStart bytes start end b → a ≤ b → IsStart bytes a end b
start_from bytes start end _ b (first h) s l = s
start_from bytes start end _ b (next x r h) s l =
    let least = length_least bytes x in
    elim (start_split bytes x end b (start_from bytes start end x b r s (omega arith))) [
      | inl e ↦ absurd (omega arith)
      | inr t ↦ t
    ]

pub starts_in_range : (bytes : List ℕ) (start end a b : ℕ) → IsStart bytes start end a → IsStart bytes start end b → a < b → a + length_at bytes a ≤ b
starts_in_range bytes start end a b r s l =
    elim (start_split bytes a end b (start_from bytes start end a b r s (omega arith))) [
      | inl e ↦ absurd (omega arith)
      | inr t ↦ start_behind bytes (a + length_at bytes a) end b t
    ]

-- no start lies within a whole instruction
pub starts_apart : (o : ObjectParts) (j a b e1 e2 : ℕ) → IsCodeStart o j (bytes_of o j) a e1 → a + length_at (bytes_of o j) a ≤ e1 → IsCodeStart o j (bytes_of o j) b e2 → a < b → a + length_at (bytes_of o j) a ≤ b
starts_apart o j a b e1 e2 r whole s l =
    let bytes : List ℕ = bytes_of o j in
    let c = start_before bytes r.start e1 a r.is_start in
    let d = start_behind bytes r.start e1 a r.is_start in
    let e = start_before bytes s.start e2 b s.is_start in
    let f = start_behind bytes s.start e2 b s.is_start in
    elim (cases_order r.start s.start) [
      | inl same ↦
          let ends : e1 ≡ e2 = range_end_same o Code Code j s.start e1 e2 (subst (λ (k : ℕ). IsRange o Code j k e1) same r.range) s.range in
          let other : IsStart bytes r.start e1 b = subst (λ (k : ℕ). IsStart bytes k e1 b) (sym same) (subst (λ (k : ℕ). IsStart bytes s.start k b) (sym ends) s.is_start) in
          starts_in_range bytes r.start e1 a b r.is_start other l
      | inr w ↦ elim w [
        | inl low ↦ let h = range_ends o Code Code j r.start e1 s.start e2 r.range s.range low in omega arith
        | inr low ↦ let h = range_ends o Code Code j s.start e2 r.start e1 s.range r.range low in absurd (omega arith)
      ]
    ]
