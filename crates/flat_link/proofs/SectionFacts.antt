-- Facts of single sections and of rounding.
use Rattle.std.proofs.Common.{◌≡◌, ◌≤◌, ◌<◌, ℕ, ◌+◌, ◌-◌, ◌*◌, ◌/◌, ◌^◌, Bool, true, false, cond, List, [], ◌∷◌, length, replicate, refl, inl, inr, arith, mul_comm}
use Rattle.std.specs.Prelude.{◌==◌, nat_le, ◌&&◌, not, if◌then◌else◌}
use Rattle.std.specs.List.{list_all, list_any}
use Rattle.std.proofs.lemmas.List.{length-replicate}
use Rattle.std.proofs.Math.Nat.{div-mul-le_self}
use Rattle.std.proofs.lemmas.Bool.{and_parts, or_cases, eqb-true, leb-true}
use Rattle.elf_model.specs.declared.objects.Section.{Section}
use Rattle.elf_model.specs.Constants.{nobits}
use Rattle.elf_model.specs.Objects.{is_section, is_alignment, is_name, is_dropped_name, is_kept_kind, is_writable, is_exec, has_bytes}
use Rattle.elf_model.specs.Canonical.{round_up}
use Rattle.thumb_table.specs.Layouts.{part_bytes}
use Rattle.flat_link.specs.declared.sorts.Sort.{Sort}
use Rattle.flat_link.specs.declared.sorts.Sort.TheVariants.{Code, Data}
use Rattle.flat_link.specs.Placing.{alignment_of}

one_of : (a : ℕ) (ks : List ℕ) → list_all (λ k. nat_le 1 (2 ^ k) && nat_le (2 ^ k) 4096) ks ≡ true → list_any (λ k. a == 2 ^ k) ks ≡ true → (0 < a) × (a ≤ 4096)
one_of a [] l h = absurd (cc)
one_of a (k ∷ ks) l h =
    let p = and_parts (nat_le 1 (2 ^ k) && nat_le (2 ^ k) 4096) (list_all (λ k. nat_le 1 (2 ^ k) && nat_le (2 ^ k) 4096) ks) l in
    let q = and_parts (nat_le 1 (2 ^ k)) (nat_le (2 ^ k) 4096) p.0 in
    elim (or_cases (a == 2 ^ k) (list_any (λ k. a == 2 ^ k) ks) h) [
      | inl y ↦
          let e : a ≡ 2 ^ k = eqb-true a (2 ^ k) y in
          let low : 1 ≤ 2 ^ k = leb-true 1 (2 ^ k) q.0 in
          let high : 2 ^ k ≤ 4096 = leb-true (2 ^ k) 4096 q.1 in
          (omega arith, omega arith)
      | inr n ↦ one_of a ks p.1 n
    ]

pub aligned : (s : Section) → is_section s ≡ true → (0 < s.align) × (s.align ≤ 4096)
aligned s h =
    let a = and_parts _ (has_bytes s) h in
    let b = and_parts _ (not (is_exec s.flags && (s.kind == nobits))) a.0 in
    let c = and_parts _ (not (is_writable s.flags && is_exec s.flags)) b.0 in
    let d = and_parts _ (is_kept_kind s.kind s.flags) c.0 in
    let e = and_parts (is_name s.name && not (is_dropped_name s.name)) (is_alignment s.align) d.0 in
    one_of s.align (0 ∷ 1 ∷ 2 ∷ 3 ∷ 4 ∷ 5 ∷ 6 ∷ 7 ∷ 8 ∷ 9 ∷ 10 ∷ 11 ∷ 12 ∷ []) refl e.1

pub aligned_as : (sort : Sort) (s : Section) → is_section s ≡ true → (0 < alignment_of sort s) × (alignment_of sort s ≤ 4096)
aligned_as Code s h = let p = aligned s h in (omega arith, omega arith)
aligned_as Data s h = aligned s h

-- a section has as many bytes in memory as its size says
pub sized : (s : Section) → is_section s ≡ true → length (part_bytes s) ≡ s.size
sized s h =
    let a = and_parts _ (has_bytes s) h in
    let e : length s.bytes ≡ cond (s.kind == nobits) 0 s.size = eqb-true (length s.bytes) (if s.kind == nobits then 0 else s.size) a.1 in
    elim (s.kind == nobits) as (λ (b : Bool). length s.bytes ≡ cond b 0 s.size → length (cond b (replicate s.size 0) s.bytes) ≡ s.size) [
      | true ↦ λ y. length-replicate s.size 0
      | false ↦ λ y. y
    ] e

-- rounding up
pub rounded : (x a : ℕ) → 0 < a → (x ≤ round_up x a) × (round_up x a < x + a)
rounded x a h =
    let low = div-mul-le_self (x + a - 1) a in
    let near : x + a - 1 < (x + a - 1) / a * a + a = omega (arith, mul_comm ((x + a - 1) / a) a) in
    (omega arith, omega arith)
