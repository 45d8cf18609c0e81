-- How many instructions of units carry a relocation: one step of each unit at most, c times.
use Rattle.std.proofs.Common.{◌≡◌, ◌≤◌, ℕ, zero, suc, ◌+◌, ◌*◌, Bool, true, false, cond, List, [], ◌∷◌, ◌++◌, length, map, filter, replicate, refl, sym, ap, ◌∙◌, subst, inl, inr, arith, length-append}
use Rattle.std.specs.Prelude.{Contains, count_by}
use Rattle.std.proofs.Math.Nat.{mul-le-mul_left}
use Rattle.std.proofs.lemmas.List.{length-map, length-replicate}
use Rattle.std.proofs.lemmas.List.Elements.{filter-append, Contains-append_left, Contains-append_right}
use Rattle.std.proofs.lemmas.List.Sums.{length-filter, count_by-le-length}
use Rattle.elf_model.proofs.Elements.{contains_cases, contains_none, contains_here, contains_later, map_contains}
use Rattle.thumb_encode.specs.declared.codes.Code.{Code}
use Rattle.thumb_encode.specs.Encoding.{width_of}
use Rattle.seq_core.specs.declared.steps.Step.{Step}
use Rattle.seq_core.specs.Places.{PlacedParts}
use Rattle.branch_layout.specs.Copies.{copies_of, bytes_of}
use Rattle.emit_object.specs.UnitCopies.{Copy, copies_from, unit_copies, carries, copy_carries}
use Rattle.pair_parts.proofs.SequenceFacts.{AllStand}

-- how many elements pass a test
module _ {X : Type 0} (p : X → Bool) where
  abbrev passing : List X → ℕ
  passing xs = length (filter p xs)

  first_passes : (b : Bool) (x : X) (xs : List X) → p x ≡ b → passing (x ∷ xs) ≡ length (cond b (x ∷ filter p xs) (filter p xs))
  first_passes b x xs e = ap (λ (v : Bool). length (cond v (x ∷ filter p xs) (filter p xs))) e

  none_pass : (n : ℕ) (x : X) → p x ≡ false → passing (replicate n x) ≡ 0
  none_pass zero x e = refl
  none_pass (suc n) x e = first_passes false x (replicate n x) e ∙ none_pass n x e

  pub most_pass : (xs : List X) → passing xs ≤ length xs
  most_pass xs = let same = length-filter p xs in let most = count_by-le-length p xs in omega arith

  both_pass : (xs ys : List X) → passing (xs ++ ys) ≡ passing xs + passing ys
  both_pass xs ys = ap length (filter-append p xs ys) ∙ length-append (filter p xs) (filter p ys)

-- of steps that stand c times
pub copies_pass : (c : ℕ) (steps : List Step) → AllStand c steps → passing carries (copies_of steps) ≤ c * passing carries steps
copies_pass c [] all = omega arith
copies_pass c (s ∷ ss) all = go (copies_pass c ss all.1) (carries s) refl
  where
    both : passing carries (copies_of (s ∷ ss)) ≡ passing carries (replicate s.copies s) + passing carries (copies_of ss)
    both = both_pass carries (replicate s.copies s) (copies_of ss)

    go : passing carries (copies_of ss) ≤ c * passing carries ss → (b : Bool) → carries s ≡ b → passing carries (copies_of (s ∷ ss)) ≤ c * passing carries (s ∷ ss)
    go rest true e =
        let more : c * passing carries (s ∷ ss) ≡ c * suc (passing carries ss) = ap (λ (n : ℕ). c * n) (first_passes carries true s ss e) in
        let most = most_pass carries (replicate s.copies s) in
        let long = length-replicate s.copies s in
        let many = all.0 in
        let sum = both in
        omega arith
    go rest false e =
        let same : c * passing carries (s ∷ ss) ≡ c * passing carries ss = ap (λ (n : ℕ). c * n) (first_passes carries false s ss e) in
        let none = none_pass carries s.copies s e in
        let sum = both in
        omega arith

-- with codes
first_too : (x : Copy) (xs : List Copy) (t : Step) (ts : List Step) (b : Bool) → passing copy_carries xs ≤ passing carries ts
    → length (cond b (x ∷ filter copy_carries xs) (filter copy_carries xs)) ≤ length (cond b (t ∷ filter carries ts) (filter carries ts))
first_too x xs t ts true most = omega arith
first_too x xs t ts false most = most

pub coded_pass : (at : ℕ) (steps : List Step) (codes : List Code) → passing copy_carries (copies_from at steps codes) ≤ passing carries steps
coded_pass at [] codes = omega arith
coded_pass at (t ∷ ts) [] = omega arith
coded_pass at (t ∷ ts) (d ∷ ds) = first_too (record { at = at; step = t; code = d }) (copies_from (at + bytes_of (width_of d)) ts ds) t ts (carries t) (coded_pass (at + bytes_of (width_of d)) ts ds)

-- of a unit of which one step carries at most
pub unit_pass : (c : ℕ) (u : PlacedParts) → AllStand c u.unit.seq.steps → count_by carries u.unit.seq.steps ≤ 1 → passing copy_carries (unit_copies u) ≤ c
unit_pass c u all one =
    let coded = coded_pass u.start (copies_of u.unit.seq.steps) u.codes in
    let copies = copies_pass c u.unit.seq.steps all in
    let same = length-filter carries u.unit.seq.steps in
    let most : c * passing carries u.unit.seq.steps ≤ c * 1 = mul-le-mul_left c (omega arith) in
    omega arith

-- WHERE THEY STAND

abbrev pub carrier_places : PlacedParts → List (ℕ × ℕ)
carrier_places u = map (λ (d : Copy). (u.unit.section, d.at)) (filter copy_carries (unit_copies u))

abbrev pub all_carrier_places : List PlacedParts → List (ℕ × ℕ)
all_carrier_places [] = []
all_carrier_places (u ∷ us) = carrier_places u ++ all_carrier_places us

pub carrier_listed : (us : List PlacedParts) (u : PlacedParts) (d : Copy) → Contains us u → Contains (filter copy_carries (unit_copies u)) d → Contains (all_carrier_places us) (u.unit.section, d.at)
carrier_listed [] u d among there = absurd (contains_none u among)
carrier_listed (v ∷ us) u d among there =
    elim (contains_cases v us u among) [
      | inl e ↦
          Contains-append_left (carrier_places v) (all_carrier_places us) (u.unit.section, d.at)
          (subst (λ (w : PlacedParts). Contains (carrier_places w) (u.unit.section, d.at)) (sym e) (map_contains (λ (b : Copy). (u.unit.section, b.at)) (filter copy_carries (unit_copies u)) d there))
      | inr later ↦ Contains-append_right (carrier_places v) (all_carrier_places us) (u.unit.section, d.at) (carrier_listed us u d later there)
    ]

pub few_carriers : (c : ℕ) (us : List PlacedParts) → ((u : PlacedParts) → Contains us u → passing copy_carries (unit_copies u) ≤ c) → length (all_carrier_places us) ≤ c * length us
few_carriers c [] each = omega arith
few_carriers c (u ∷ us) each =
    let here = each u (contains_here u us) in
    let same : length (carrier_places u) ≡ passing copy_carries (unit_copies u) = length-map (filter copy_carries (unit_copies u)) (λ (d : Copy). (u.unit.section, d.at)) in
    let both = length-append (carrier_places u) (all_carrier_places us) in
    let rest = few_carriers c us (λ v among. each v (contains_later u us v among)) in
    omega arith
