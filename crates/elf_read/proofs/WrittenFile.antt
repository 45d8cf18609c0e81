-- The file that is written for an object has no fault under a limit that the object meets.
use Rattle.std.proofs.Common.{◌≡◌, ℕ, List, sym, subst, arith}
use Rattle.std.specs.Prelude.{IsTrue}
use Rattle.elf_model.specs.declared.refusals.Refusal.{Refusal}
use Rattle.elf_model.specs.declared.refusals.Limit.{Limit}
use Rattle.elf_model.specs.Fields.{word_at}
use Rattle.elf_model.specs.Objects.{ObjectParts, is_object}
use Rattle.elf_model.specs.Files.{header, EndsAt, HasTables, IsArmObject}
use Rattle.elf_model.specs.Canonical.{canonical}
use Rattle.elf_model.specs.Fits.{Fits}
use Rattle.elf_model.proofs.Headers.{Reading, header_total}
use Rattle.elf_model.proofs.Tables.{has_format, has_tables}
use Rattle.elf_model.proofs.Stands.{reading}
use Rattle.elf_read.specs.Faults.{Fault, IsFaultless, IsSymbolAt, dropped_count}
use Rattle.elf_read.specs.Faults.Fault.{too_short, other_magic, other_class, other_order, other_type, other_machine, other_version, headers_outside, other_header_size, no_name_table, second_symtab, outside, uneven_symtab, uneven_rel, symtab_link, rel_link, rel_target, bad_alignment, symtab_entry, rel_entry, section_unnamed, symbol_unnamed, other_binding, other_symbol_type, late_local, bad_index, bad_value, bad_symbol, bad_place, second_place, nobits_target, many_headers, many_symbols, many_relocs, much_code, refused_kind, memory_kind, writable_code, empty_code, own_map}
use Rattle.elf_read.specs.Written.{Meets}
use Rattle.elf_read.proofs.WrittenSections.{alignments, kinds, memory_kinds, no_writable_code, no_empty_code, no_own_map, none_dropped}
use Rattle.elf_read.proofs.WrittenLimits.{few_symbols, few_relocs, little_code}
use Rattle.elf_read.proofs.WrittenSymbols.{bindings, symbol_types, locals_lead, indexes, values}
use Rattle.elf_read.proofs.WrittenRelocs.{targets, places, names, one_place}

module _ (o : ObjectParts) (b : List ℕ) (w : Reading o b) (l : Limit) (m : Meets o l) where
  format : IsArmObject b
  format = has_format o b w

  tables : HasTables b
  tables = has_tables o b w

  named : (t k e : ℕ) → IsSymbolAt b t k e → EndsAt b (header b t).link (word_at b e)
  named t k e i = subst (λ (p : ℕ). EndsAt b (header b t).link (word_at b p)) (sym i.place) (tables.symbol_names_end t k i.table i.behind_null i.there)

  none : (r : Refusal) (section offset : ℕ) → Fault b l r section offset → ⊥
  none r s p (too_short x) = let y = format.long in absurd (omega (arith, x, y))
  none r s p (other_magic x) = x format.magic
  none r s p (other_class x) = x format.class
  none r s p (other_order x) = x format.order
  none r s p (other_type x) = x format.relocatable
  none r s p (other_machine x) = x format.machine
  none r s p (other_version x) = x format.version
  none r s p (headers_outside x y) = let z = tables.table x in absurd (omega (arith, y, z))
  none r s p (other_header_size x y) = y (tables.header_size x)
  none r s p (no_name_table x y) = y (tables.section_names x)
  none r s p (second_symtab k h u x y) = let z = tables.one_symbol_table k h x y in absurd (omega (arith, u, z))
  none r s p (outside h i k x) = let z = tables.inside h i.behind_null i.there k in absurd (omega (arith, x, z))
  none r s p (uneven_symtab h k x) = x (tables.symbol_entries h k).1
  none r s p (uneven_rel h k x) = x (tables.reloc_entries h k).1
  none r s p (symtab_link h k x) = x (tables.symbol_entries h k).2
  none r s p (rel_link h k x) = x (tables.reloc_entries h k).2
  none r s p (rel_target h k x) = let e = tables.reloc_entries h k in x (record { listed = record { behind_null = e.3; there = e.4 }; no_table = e.5 })
  none r s p (bad_alignment h i x y) = alignments o b w l m h i y
  none r s p (symtab_entry h k x) = x (tables.symbol_entries h k).0
  none r s p (rel_entry h k x) = x (tables.reloc_entries h k).0
  none r s p (section_unnamed h i k x) = x (tables.names_end h i.behind_null i.there k)
  none r s p (symbol_unnamed t k e i x) = x (named t k e i)
  none r s p (other_binding t k e i x) = let z = bindings o b w t k e i in absurd (omega (arith, x, z))
  none r s p (other_symbol_type t k e i x) = let z = symbol_types o b w t k e i in absurd (omega (arith, x, z))
  none r s p (late_local t j d k e u x y z f) = z (locals_lead o b w t j d k e u x y f)
  none r s p (bad_index t k e i x y) = indexes o b w t k e i x y
  none r s p (bad_value t k e i x y z f) = values o b w t k e i x f
  none r s p (bad_symbol h j e i x y) = y (names o b w h j e i)
  none r s p (bad_place h j e i x) = let z = places o b w h j e i in absurd (omega (arith, x, z))
  none r s p (second_place g i q h j e u x y z f) = one_place o b w g i q h j e u x y z f
  none r s p (nobits_target h k x y) = targets o b w h k y
  none r s p (many_headers x) = let z = header_total o b w in let y = m.sections in absurd (omega (arith, x, y, z))
  none r s p (many_symbols t k x) = let z = few_symbols o b w t k in let y = m.symbols in absurd (omega (arith, x, y, z))
  none r s p (many_relocs h k x y) = let z = few_relocs o b w h k.1 in let u = m.relocs in absurd (omega (arith, y, z, u))
  none r s p (much_code h i x y) = let z = little_code o b w h i.there in let u = m.code in absurd (omega (arith, y, z, u))
  none r s p (refused_kind h i x) = kinds o b w l m h i x
  none r s p (memory_kind h i x y z) = memory_kinds o b w l m h i x y
  none r s p (writable_code h i x y) = no_writable_code o b w l m h i x y
  none r s p (empty_code h i x y) = no_empty_code o b w l m h i x y
  none r s p (own_map h i x y) = no_own_map o b w l m h i x y

pub faultless : (o : ObjectParts) (l : Limit) → IsTrue (is_object o) → Fits o → Meets o l → IsFaultless (canonical o) l × (dropped_count (canonical o) ≡ 0)
faultless o l h g m =
    let w = reading o h g in
    (none o (canonical o) w l m, none_dropped o (canonical o) w)
