-- Where relocations are to stand in the hardened object.
use Rattle.std.specs.Prelude.{ℕ, ◌+◌, List, [], ◌∷◌, ◌++◌, Option, Some, None, if◌then◌else◌, map, filter, slice_get}
use Rattle.std.specs.Option.{option_to_list}
use Rattle.std.specs.List.{zip}
use Rattle.elf_model.specs.declared.objects.Reloc.{Reloc}
use Rattle.elf_model.specs.declared.objects.RelocKind.{RelocKind}
use Rattle.elf_model.specs.Objects.{ObjectParts}
use Rattle.flow_recover.specs.declared.flows.PoolWord.{PoolWord}
use Rattle.flow_recover.specs.Flows.{FlowParts}
use Rattle.seq_core.specs.Places.{PlacedParts, LayoutParts}
use Rattle.hardened_form.specs.Carriers.{kind_on}
use Rattle.emit_object.specs.declared.reloc_sites.Site.{Site}
use Rattle.emit_object.specs.Lasting.{has_data}
use Rattle.emit_object.specs.UnitCopies.{Copy, unit_copies, copy_carries}

abbrev pub site_of : ℕ → Reloc → ℕ → RelocKind → Site
site_of n r at kind = record { section = r.section; at = at; number = n; kind = kind }

abbrev pub site_place : Site → ℕ × ℕ
site_place s = (s.section, s.at)

-- that of data stays where it is
abbrev pub data_site : ObjectParts → ℕ → Reloc → Option Site
data_site o n r = if has_data (slice_get o.sections r.section) then Some (site_of n r r.offset r.kind) else None

abbrev pub data_sites : ObjectParts → ℕ → List Reloc → List Site
data_sites o n [] = []
data_sites o n (r ∷ rest) = option_to_list (data_site o n r) ++ data_sites o (n + 1) rest

-- the relocation with a number
abbrev pub with_number : ℕ → Option Reloc → Option (ℕ × Reloc)
with_number n None = None
with_number n (Some r) = Some (n, r)

abbrev pub numbered : ObjectParts → Option ℕ → Option (ℕ × Reloc)
numbered o None = None
numbered o (Some n) = with_number n (slice_get o.relocs n)

-- each copy of a unit that carries the relocation of its point
abbrev pub copy_site : ℕ → Reloc → Copy → Site
copy_site n r c = site_of n r c.at (kind_on c.step.instr r.kind)

abbrev pub copy_sites : ℕ → Reloc → List Copy → List Site
copy_sites n r copies = map (copy_site n r) (filter copy_carries copies)

abbrev pub sites_on : List Copy → Option (ℕ × Reloc) → List Site
sites_on copies None = []
sites_on copies (Some e) = copy_sites e.0 e.1 copies

abbrev pub unit_sites : ObjectParts → PlacedParts → List Site
unit_sites o u = sites_on (unit_copies u) (numbered o u.unit.reloc)

abbrev pub step_sites : ObjectParts → List PlacedParts → List Site
step_sites o [] = []
step_sites o (u ∷ rest) = unit_sites o u ++ step_sites o rest

-- that of a word of code
abbrev pub site_at : ℕ → Option (ℕ × Reloc) → Option Site
site_at y None = None
site_at y (Some e) = Some (site_of e.0 e.1 y e.1.kind)

abbrev pub word_site : ObjectParts → PoolWord × ℕ → Option Site
word_site o e = site_at e.1 (numbered o e.0.reloc)

abbrev pub word_sites : ObjectParts → List (PoolWord × ℕ) → List Site
word_sites o [] = []
word_sites o (e ∷ rest) = option_to_list (word_site o e) ++ word_sites o rest

abbrev pub code_sites : ObjectParts → FlowParts → LayoutParts → List Site
code_sites o f l = step_sites o l.units ++ word_sites o (zip f.words l.words)

abbrev pub all_sites : ObjectParts → FlowParts → LayoutParts → List Site
all_sites o f l = data_sites o 0 o.relocs ++ code_sites o f l
