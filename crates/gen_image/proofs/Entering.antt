-- What calls from outside can name in the generated object: first of all f0.
use Rattle.std.proofs.Common.{◌≡◌, ℕ, zero, suc, ◌+◌, Bool, true, cond, List, [], ◌∷◌, map, filter, refl, ap, ◌∙◌, arith, Some, codes}
use Rattle.std.specs.Prelude.{◌&&◌}
use Rattle.std.specs.List.{range_with_len}
use Rattle.std.specs.Fmt.{digits}
use Rattle.elf_model.specs.Objects.{even}
use Rattle.thumb_table.specs.declared.parts.NamedEntry.{NamedEntry}
use Rattle.thumb_table.specs.Names.{Defined, is_function, is_standing, address_of, resolved, entries_of}
use Rattle.thumb_table.specs.Images.{entry_of}
use Rattle.gen_object.specs.Generated.{generated}
use Rattle.gen_flow.specs.GeneratedCode.{IsCount}
use Rattle.gen_image.proofs.Placing.{part}
use Rattle.gen_image.proofs.Symbols.{mapped, defined, symbols_are, resolved_is}

abbrev entry : ℕ → ℕ → Defined → NamedEntry
entry seed count d = record { name = d.symbol.name; address = even (address_of (part seed count ∷ []) d) + 1 }

abbrev is_entry : ℕ → ℕ → Defined → Bool
is_entry seed count d = is_function (part seed count ∷ []) d && is_standing (generated seed count ∷ []) d (resolved (generated seed count ∷ []) d.symbol.name)

entries_are : (seed count : ℕ) → entries_of (generated seed count ∷ []) (part seed count ∷ []) ≡ map (entry seed count) (filter (is_entry seed count) (mapped ∷ map (defined count) (range_with_len 0 count)))
entries_are seed count = ap (λ (l : List Defined). map (entry seed count) (filter (is_entry seed count) l)) (symbols_are seed count)

first_is : (seed count : ℕ) → IsCount count → is_entry seed count (defined count 0) ≡ true
first_is seed count few = ap (is_standing (generated seed count ∷ []) (defined count 0)) (resolved_is seed count 0 few.high few.low)

first_named : (seed count : ℕ) (rest : List NamedEntry) → entry_of (entry seed count (defined count 0) ∷ rest) (codes "f0") ≡ Some 0x8001
unfolding digits
first_named seed count rest = refl

more_entries : (seed count : ℕ) (rest : List Defined) → is_entry seed count (defined count 0) ≡ true
    → entry_of (map (entry seed count) (filter (is_entry seed count) (mapped ∷ defined count 0 ∷ rest))) (codes "f0") ≡ Some 0x8001
more_entries seed count rest is =
    let others : List Defined = filter (is_entry seed count) rest in
    ap (λ (b : Bool). entry_of (map (entry seed count) (cond b (defined count 0 ∷ others) others)) (codes "f0")) is
    ∙ first_named seed count (map (entry seed count) others)

pub f0_is : (seed count : ℕ) → IsCount count → entry_of (entries_of (generated seed count ∷ []) (part seed count ∷ [])) (codes "f0") ≡ Some 0x8001
f0_is seed zero few = let low = few.low in absurd (omega arith)
f0_is seed (suc n) few =
    ap (λ (l : List NamedEntry). entry_of l (codes "f0")) (entries_are seed (suc n))
    ∙ more_entries seed (suc n) (map (defined (suc n)) (range_with_len 1 n)) (first_is seed (suc n) few)
