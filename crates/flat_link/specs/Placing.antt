-- Where the linker puts the sections of objects.
use Rattle.std.specs.Prelude.{ℕ, ◌+◌, ◌-◌, nat_le, ◌&&◌, max, Bool, List, [], ◌∷◌}
use Rattle.elf_model.specs.declared.objects.Section.{Section}
use Rattle.elf_model.specs.Objects.{is_code, is_data}
use Rattle.elf_model.specs.Canonical.{round_up}
use Rattle.thumb_table.specs.declared.placements.Placement.{Placement}
use Rattle.thumb_table.specs.Layouts.{Placed}
use Rattle.flat_link.specs.declared.sorts.Sort.{Sort}
use Rattle.flat_link.specs.declared.sorts.Sort.TheVariants.{Code, Data}

-- whether a section is of a sort
abbrev pub is_of : Sort → Section → Bool
is_of Code s = is_code s
is_of Data s = is_data s

-- code stands at multiples of 4 at least
abbrev pub alignment_of : Sort → Section → ℕ
alignment_of Code s = max 4 s.align
alignment_of Data s = s.align

-- where sections end that stand one behind the other from an address on
abbrev pub end_of : (Section → ℕ) → ℕ → List Placed → ℕ
end_of alignment from [] = from
end_of alignment from (p ∷ rest) = end_of alignment (round_up from (alignment p.section) + p.section.size) rest

-- code, data and stack fit their places
abbrev pub can_fit : List Placed → List Placed → Placement → Bool
can_fit code memory at =
    nat_le (end_of (alignment_of Code) at.base code) (at.base + at.room)
    && nat_le (round_up (end_of (alignment_of Data) (at.base + at.room) memory - (at.base + at.room)) 8 + at.stack) 16777216
    && nat_le (end_of (alignment_of Data) (at.base + at.room) memory) 0x7FFFF000
