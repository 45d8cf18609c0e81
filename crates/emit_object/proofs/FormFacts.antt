-- The parts of a hardened object make an object, which has the form.
use Rattle.std.proofs.Common.{◌≡◌, ℕ, Bool, true, cond, List, map, sym, ap, ◌∙◌, subst, Some, None}
use Rattle.std.specs.Prelude.{◌&&◌}
use Rattle.std.specs.List.{list_all}
use Rattle.std.proofs.lemmas.Bool.{and_parts, and_from}
use Rattle.std.proofs.lemmas.Option.{none-some, same_Some}
use Rattle.elf_model.specs.declared.objects.MapRow.{MapRow}
use Rattle.elf_model.specs.Objects.{ObjectParts, is_object, is_section, is_symbol, is_reloc, locals_first, rise, is_version_5, made_of}
use Rattle.flow_recover.specs.Flows.{FlowParts}
use Rattle.seq_core.specs.Places.{LayoutParts}
use Rattle.hardened_form.specs.Items.{Item}
use Rattle.hardened_form.specs.Rows.{AreRows}
use Rattle.hardened_form.specs.Sections.{AreSections}
use Rattle.hardened_form.specs.Symbols.{Lists}
use Rattle.hardened_form.specs.Carriers.{AreCarried}
use Rattle.hardened_form.specs.Relocs.{AreRelocs}
use Rattle.hardened_form.specs.Code.{AreTiled, AreWords}
use Rattle.hardened_form.specs.HardenedForms.{IsHardenedForm}
use Rattle.branch_layout.specs.Laid.{laid_places}
use Rattle.emit_object.specs.Numbering.{AreNumbers, AreNewSymbols}
use Rattle.emit_object.specs.UnitCopies.{all_carriers}

-- made of the parts of an object
pub sound_object : (o h : ObjectParts) → is_object o ≡ true → h.flags ≡ o.flags → list_all is_section h.sections ≡ true → (list_all (is_symbol h.sections) h.symbols && locals_first h.symbols) ≡ true
    → list_all (is_reloc h.sections h.symbols) h.relocs ≡ true → rise h.relocs ≡ true → is_object h ≡ true
sound_object o h sound flags sections symbols relocs in_order =
    let version = (and_parts (list_all is_section o.sections && list_all (is_symbol o.sections) o.symbols && locals_first o.symbols && list_all (is_reloc o.sections o.symbols) o.relocs && rise o.relocs) (is_version_5 o.flags) sound).1 in
    let both = and_parts (list_all (is_symbol h.sections) h.symbols) (locals_first h.symbols) symbols in
    and_from (list_all is_section h.sections && list_all (is_symbol h.sections) h.symbols && locals_first h.symbols && list_all (is_reloc h.sections h.symbols) h.relocs && rise h.relocs) (is_version_5 h.flags)
    (and_from (list_all is_section h.sections && list_all (is_symbol h.sections) h.symbols && locals_first h.symbols && list_all (is_reloc h.sections h.symbols) h.relocs) (rise h.relocs)
    (and_from (list_all is_section h.sections && list_all (is_symbol h.sections) h.symbols && locals_first h.symbols) (list_all (is_reloc h.sections h.symbols) h.relocs)
    (and_from (list_all is_section h.sections && list_all (is_symbol h.sections) h.symbols) (locals_first h.symbols) (and_from (list_all is_section h.sections) (list_all (is_symbol h.sections) h.symbols) sections both.0) both.1) relocs) in_order)
    (ap is_version_5 flags ∙ version)

module _ (h : ObjectParts) (sound : is_object h ≡ true) where
  made : made_of h.sections h.symbols h.relocs h.flags ≡ Some h
  made = ap (λ (b : Bool). cond b (Some h) None) sound

  pub made_some : (x : ObjectParts) → Some x ≡ made_of h.sections h.symbols h.relocs h.flags → x ≡ h
  made_some x e = same_Some x h (e ∙ made)

  pub not_none : None ≡ made_of h.sections h.symbols h.relocs h.flags → ⊥
  not_none e = none-some h (e ∙ made)

-- its tables, its code and its carriers
pub has_form : (o h : ObjectParts) (f : FlowParts) (l : LayoutParts) (items : List Item) (rows : List MapRow) (places : List (ℕ × ℕ)) (begin : ℕ) (numbers : List ℕ)
    → AreNewSymbols o h f l items h.symbols places begin numbers → AreRows o f (laid_places l) rows → AreSections o h rows
    → ((lists : Lists) → AreNumbers o lists places begin numbers → AreRelocs o h f (laid_places l) (all_carriers l) lists)
    → AreTiled h items → AreWords o h f (laid_places l) → AreCarried o h f (laid_places l) (all_carriers l) → IsHardenedForm o h f (laid_places l) (all_carriers l)
has_form o h f l items rows places begin numbers new map sections relocs tiled words carried = record {
  lists = new.lists;
  rows = rows;
  tables = record { lists = new.are; map = map; sections = sections; symbols = new.all; relocs = relocs new.lists new.numbered };
  tiled = subst (λ (is : List Item). AreTiled h is) (sym new.items) tiled;
  words = words;
  carried = carried;
}
