-- What the theorem on lists asks of an input's object: that it is within the limit, and has no map.
use Rattle.std.proofs.Common.{◌≡◌, ◌≤◌, ◌<◌, ◌+◌, ◌-◌, ℕ, zero, suc, ◌&&◌, Bool, true, false, List, [], ◌∷◌, length, filter, cond, Some, refl, sym, ap, ◌∙◌, arith}
use Rattle.std.specs.Prelude.{slice_get, not, nat_le, ◌==◌, IsTrue}
use Rattle.std.proofs.lemmas.Bool.{and_from, and_parts}
use Rattle.std.proofs.lemmas.Bool.Decides.{nat_tests}
use Rattle.elf_model.specs.declared.objects.Section.{Section}
use Rattle.elf_model.specs.declared.refusals.Refusal.TheVariants.{SectionKind}
use Rattle.elf_model.specs.declared.refusals.TheConstants.Limit.{INPUT}
use Rattle.elf_model.specs.Constants.{rel}
use Rattle.elf_model.specs.Files.{StandsFor, from, header, header_count, header_place, headers, kept_headers, is_kept, is_table, section_of}
use Rattle.elf_model.specs.Maps.{is_map_named}
use Rattle.elf_model.specs.Objects.{ObjectParts, is_within, code_size}
use Rattle.elf_read.specs.Faults.{IsHeader, IsFaultless}
use Rattle.elf_read.specs.Faults.Fault.{own_map}
use Rattle.sim_objects.specs.PairedLists.{IsInput}
use Rattle.sim_objects.proofs.Moving.{got_map}
use Rattle.guard_cli.specs.Inputs.{IsReadAs}
use Rattle.guard_cli.proofs.Limited.{read_within}

-- What a filter keeps passes its test, and was there.
record IsKeptOf (p : ℕ → Bool) (xs : List ℕ) (h : ℕ) : Type 0 where
  pub passes : p h ≡ true
  pub place : ℕ
  pub there : slice_get xs place ≡ Some h

kept_of : (p : ℕ → Bool) (xs : List ℕ) (j h : ℕ) → slice_get (filter p xs) j ≡ Some h → IsKeptOf p xs h
kept_of p [] j h e = absurd (cc)
kept_of p (x ∷ xs) j h e = go (λ k d. kept_of p xs k h d) (p x) refl j e
  where
    behind : IsKeptOf p xs h → IsKeptOf p (x ∷ xs) h
    behind r = record { passes = r.passes; place = suc r.place; there = r.there }

    go : ((k : ℕ) → slice_get (filter p xs) k ≡ Some h → IsKeptOf p xs h) → (b : Bool) → p x ≡ b → (j : ℕ) → slice_get (cond b (x ∷ filter p xs) (filter p xs)) j ≡ Some h → IsKeptOf p (x ∷ xs) h
    go later true t zero e = let same : x ≡ h = cc in record { passes = ap p (sym same) ∙ t; place = 0; there = e }
    go later true t (suc j) e = behind (later j e)
    go later false t j e = behind (later j e)

number_from : (first n j h : ℕ) → slice_get (from first n) j ≡ Some h → (h ≡ first + j) × (j < n)
number_from first zero j h e = absurd (cc)
number_from first (suc n) zero h e = let same : first ≡ h = cc in (omega arith, omega arith)
number_from first (suc n) (suc j) h e = let r = number_from (first + 1) n j h e in (omega (arith, r.0), omega (arith, r.1))

no_table_is_no_rel : (kind : ℕ) → not (is_table kind) ≡ true → not (kind == rel) ≡ true
no_table_is_no_rel kind e = grind (arith, nat_tests)

-- A section of an input has not the name of a map.
not_a_map : (b : List ℕ) (h : ℕ) → IsFaultless b INPUT → IsHeader b h → is_kept b h ≡ true → is_map_named (section_of b h) ≡ false
not_a_map b h none is kept = go (is_map_named (section_of b h)) refl
  where
    go : (t : Bool) → is_map_named (section_of b h) ≡ t → t ≡ false
    go false e = refl
    go true e =
        let parts = and_parts _ _ kept in
        absurd (none SectionKind h (header_place b h) (own_map h is refl (and_from _ _ (no_table_is_no_rel (header b h).kind parts.0) e)))

unnamed : (b : List ℕ) (o : ObjectParts) → IsFaultless b INPUT → StandsFor b o → (j : ℕ) (s : Section) → slice_get o.sections j ≡ Some s → is_map_named s ≡ false
unnamed b o none stands j s e =
    let there = got_map (section_of b) (kept_headers b) j s (ap (λ (l : List Section). slice_get l j) (sym stands.sections) ∙ e) in
    let kept = kept_of (is_kept b) (headers b) j there.0 there.1 in
    let number = number_from 1 (header_count b - 1) kept.place there.0 kept.there in
    let is : IsHeader b there.0 = record { behind_null = omega (arith, number.0); there = omega (arith, number.0, number.1) } in
    ap is_map_named (sym there.2) ∙ not_a_map b there.0 none is kept.passes

pub is_input : (b : List ℕ) (o : ObjectParts) → IsReadAs INPUT b o → IsInput o
is_input b o read =
    let within : IsTrue (is_within o INPUT) = read_within b INPUT o read.faultless read.stands in
    let sections : Bool = nat_le (length o.sections) INPUT.sections in
    let symbols : Bool = nat_le (length o.symbols) INPUT.symbols in
    let relocs : Bool = nat_le (length o.relocs) INPUT.relocs in
    let code : Bool = nat_le (code_size o.sections) INPUT.code in
    let all = and_parts (sections && symbols && relocs) code within in
    let front = and_parts (sections && symbols) relocs all.0 in
    let first = and_parts sections symbols front.0 in
    let few : length o.sections ≤ INPUT.sections = below (length o.sections) INPUT.sections first.0 in
    let small : code_size o.sections ≤ INPUT.code = below (code_size o.sections) INPUT.code all.1 in
    record { few = omega arith; small = omega arith; unnamed = unnamed b o read.faultless read.stands }
  where
    below : (m n : ℕ) → nat_le m n ≡ true → m ≤ n
    below m n e = grind (arith, nat_tests)
