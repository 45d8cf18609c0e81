-- What is computed of examples: the links of a list of objects, and the addresses that no relocation has.
use Rattle.std.specs.Prelude.{ℕ, zero, suc, ◌+◌, not, List, [], ◌∷◌, ◌++◌, filter, Option, Some, slice_get, option_and_then, Ok, Err}
use Rattle.std.specs.List.{list_any}
use Rattle.std.specs.Option.{option_to_list}
use Rattle.elf_model.specs.declared.objects.Reloc.{Reloc}
use Rattle.elf_model.specs.Objects.{ObjectParts}
use Rattle.thumb_instr.specs.Rows.{Answer}
use Rattle.thumb_table.specs.declared.placements.Placement.{Placement}
use Rattle.thumb_table.specs.Layouts.{all_placed, part_of}
use Rattle.thumb_table.specs.Names.{meant}
use Rattle.thumb_instr.specs.Numbers.{renumbered}
use Rattle.thumb_table.specs.Links.{Link, covers}

abbrev pub link_of : List ObjectParts → Placement → ℕ → ObjectParts → ℕ → Reloc → Option Link
link_of objects at i o k r =
    option_and_then (λ p. option_and_then (λ s. option_and_then (λ d.
    Some (record { file = i; object = o; number = k; reloc = r; part = p; symbol = s; meant = d }))
    (meant objects i r.symbol s)) (slice_get o.symbols r.symbol)) (part_of (all_placed objects at) i r.section)

abbrev pub links_in : List ObjectParts → Placement → ℕ → ObjectParts → ℕ → List Reloc → List Link
links_in objects at i o k [] = []
links_in objects at i o k (r ∷ rest) = option_to_list (link_of objects at i o k r) ++ links_in objects at i o (k + 1) rest

abbrev pub links_from : List ObjectParts → Placement → ℕ → List ObjectParts → List Link
links_from objects at i [] = []
links_from objects at i (o ∷ rest) = links_in objects at i o 0 o.relocs ++ links_from objects at (i + 1) rest

abbrev pub links : List ObjectParts → Placement → List Link
links objects at = links_from objects at 0 objects

abbrev pub offsets : ℕ → List ℕ
offsets zero = []
offsets (suc n) = offsets n ++ n ∷ []

-- the offsets from a base on, below n, that no link covers
abbrev pub free : List Link → ℕ → ℕ → List ℕ
free ls base n = filter (λ x. not (list_any (covers (base + x)) ls)) (offsets n)

abbrev pub renumbered_answer : ℕ → Answer → Answer
renumbered_answer n (Ok i) = Ok (renumbered n i)
renumbered_answer n (Err e) = Err e
