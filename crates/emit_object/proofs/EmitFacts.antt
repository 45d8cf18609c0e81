-- What is made of a layout is an object, and has the hardened form.
use Rattle.std.proofs.Common.{◌≡◌, ◌<◌, ℕ, true, List, length, refl, sym, subst, Vec, Global}
use Rattle.std.specs.Prelude.{IsTrue, ◌&&◌, slice_index}
use Rattle.std.specs.List.{list_all}
use Rattle.elf_model.specs.declared.objects.Section.{Section}
use Rattle.elf_model.specs.declared.objects.MapRow.{MapRow}
use Rattle.elf_model.specs.declared.objects.Symbol.{Symbol}
use Rattle.elf_model.specs.declared.objects.Reloc.{Reloc}
use Rattle.elf_model.specs.declared.refusals.TheConstants.Limit.{INPUT}
use Rattle.elf_model.specs.Objects.{ObjectParts, is_object, is_within, is_symbol, is_reloc, locals_first}
use Rattle.flow_recover.specs.Flows.{FlowParts}
use Rattle.flow_recover.specs.WholeFlows.{IsFlow}
use Rattle.seq_core.specs.Places.{LayoutParts}
use Rattle.hardened_form.specs.Items.{Item}
use Rattle.hardened_form.specs.Rows.{AreRows}
use Rattle.hardened_form.specs.Sections.{AreSections}
use Rattle.hardened_form.specs.Symbols.{Lists}
use Rattle.hardened_form.specs.Relocs.{AreRelocs}
use Rattle.hardened_form.specs.Code.{AreTiled, AreWords}
use Rattle.hardened_form.specs.HardenedForms.{IsHardenedForm}
use Rattle.branch_layout.specs.Laid.{laid_places}
use Rattle.emit_object.specs.CodeBytes.{contents_of, bytes_in}
use Rattle.emit_object.specs.Emitting.{CanEmit}
use Rattle.emit_object.specs.FirstItems.{AreItemsOf}
use Rattle.emit_object.specs.Laid.{HasSizes}
use Rattle.emit_object.specs.LieInside.{LieInside}
use Rattle.emit_object.specs.NewCode.{HasNewCode}
use Rattle.emit_object.specs.NewSections.{AreNewSections}
use Rattle.emit_object.specs.Numbering.{AreNumbers, AreNewSymbols}
use Rattle.emit_object.specs.UnitCopies.{all_carriers, HaveCodes}
use Rattle.emit_object.proofs.CarriedFacts.{are_carried}
use Rattle.emit_object.proofs.FormFacts.{sound_object, has_form}
use Rattle.emit_object.proofs.InsideFacts.{input_within, lie_inside}
use Rattle.emit_object.proofs.LayoutGives.{items_of, are_items}
use Rattle.emit_object.proofs.SectionFacts.{are_sections, has_sizes, code_bytes, sections_sound}

-- what is known of an object, its flow and a layout of it
pub record Given (o : ObjectParts) (f : FlowParts) (l : LayoutParts) : Type 0 where
  pub sound : is_object o ≡ true
  pub within : IsTrue (is_within o INPUT)
  pub flow : IsFlow o f
  pub can : CanEmit o f l

-- the parts that need no relocations
pub record AreParts (o : ObjectParts) (f : FlowParts) (l : LayoutParts) (code : List (Vec ℕ Global)) (sections : List Section) (symbols : List Symbol) (places : List (ℕ × ℕ)) (begin : ℕ) (numbers : List ℕ) : Type 0 where
  pub rows : List MapRow
  pub map : AreRows o f (laid_places l) rows
  pub count : length code ≡ length o.sections
  pub sized : (j : ℕ) → j < length o.sections → length (bytes_in (contents_of code) j) ≡ slice_index l.sizes j
  pub made : AreNewSections o l.sizes code rows sections
  pub named : (h : ObjectParts) (items : List Item) → HasSizes o h l.sizes → AreItemsOf f l items → AreNewSymbols o h f l items symbols places begin numbers
  pub at_home : (h : ObjectParts) (items : List Item) (rows : List MapRow) → HasSizes o h l.sizes → AreItemsOf f l items → AreSections o h rows → LieInside h f (laid_places l) items → IsTrue (list_all (is_symbol h.sections) symbols && locals_first symbols)

module _ (o : ObjectParts) (f : FlowParts) (l : LayoutParts) (given : Given o f l)
    (code : List (Vec ℕ Global)) (sections : List Section) (symbols : List Symbol) (places : List (ℕ × ℕ)) (begin : ℕ) (numbers : List ℕ)
    (parts : AreParts o f l code sections symbols places begin numbers) where
  abbrev pub whole : List Reloc → ObjectParts
  whole relocs = record { sections = sections; symbols = symbols; relocs = relocs; flags = o.flags }

  sized_as : (relocs : List Reloc) → HasSizes o (whole relocs) l.sizes
  sized_as relocs = has_sizes o (whole relocs) l.sizes code parts.rows parts.count parts.made

  same_sections : (relocs : List Reloc) → AreSections o (whole relocs) parts.rows
  same_sections relocs = are_sections o (whole relocs) l.sizes code parts.rows parts.count parts.made refl

  new_code : (relocs : List Reloc) → HasNewCode o (whole relocs) l (contents_of code)
  new_code relocs = record { sizes = sized_as relocs; bytes = code_bytes o (whole relocs) l.sizes code parts.rows parts.count parts.made }

  names : (relocs : List Reloc) → AreNewSymbols o (whole relocs) f l (items_of o f l given.can) symbols places begin numbers
  names relocs = parts.named (whole relocs) (items_of o f l given.can) (sized_as relocs) (are_items o f l given.can)

  -- the places and numbers are passed on as slices
  module _ (relocs : List Reloc) (slice : List (ℕ × ℕ)) (slice_is : slice ≡ places) (other : List ℕ) (other_is : other ≡ numbers)
      (exact_by : (h : ObjectParts) (lists : Lists) → AreNumbers o lists slice begin other → h.relocs ≡ relocs → AreRelocs o h f (laid_places l) (all_carriers l) lists)
      (placed_by : (h : ObjectParts) (items : List Item) (rows : List MapRow) → HasSizes o h l.sizes → AreSections o h rows → AreNewSymbols o h f l items h.symbols slice begin other
      → IsTrue (list_all (is_reloc h.sections h.symbols) relocs)) where
    exact : (lists : Lists) → AreNumbers o lists places begin numbers → AreRelocs o (whole relocs) f (laid_places l) (all_carriers l) lists
    exact lists numbered =
        exact_by (whole relocs) lists
        (subst (λ (ps : List (ℕ × ℕ)). AreNumbers o lists ps begin other) (sym slice_is) (subst (λ (ns : List ℕ). AreNumbers o lists places begin ns) (sym other_is) numbered)) refl

    placed : list_all (is_reloc sections symbols) relocs ≡ true
    placed =
        let items = items_of o f l given.can in
        placed_by (whole relocs) items parts.rows (sized_as relocs) (same_sections relocs)
        (subst (λ (ps : List (ℕ × ℕ)). AreNewSymbols o (whole relocs) f l items symbols ps begin other) (sym slice_is)
        (subst (λ (ns : List ℕ). AreNewSymbols o (whole relocs) f l items symbols places begin ns) (sym other_is) (names relocs)))

    pub is_whole : is_object (whole relocs) ≡ true
    is_whole =
        let n = names relocs in
        let are = are_items o f l given.can in
        let items = items_of o f l given.can in
        sound_object o (whole relocs) given.sound refl (sections_sound o (whole relocs) l.sizes code parts.rows parts.count parts.made given.sound parts.sized)
        (parts.at_home (whole relocs) items parts.rows (sized_as relocs) are (same_sections relocs)
        (lie_inside o f given.sound (input_within o given.within) given.flow l given.can (whole relocs) (sized_as relocs) items are))
        placed (exact n.lists n.numbered).rise

    module _ (tiled : (h : ObjectParts) (items : List Item) → HasNewCode o h l (contents_of code) → AreItemsOf f l items → AreTiled h items)
        (words : (h : ObjectParts) → HasNewCode o h l (contents_of code) → AreWords o h f (laid_places l))
        (codes : (h : ObjectParts) → HasNewCode o h l (contents_of code) → HaveCodes h l) where
      pub have_codes : HaveCodes (whole relocs) l
      have_codes = codes (whole relocs) (new_code relocs)

      pub is_form : IsHardenedForm o (whole relocs) f (laid_places l) (all_carriers l)
      is_form =
          has_form o (whole relocs) f l (items_of o f l given.can) parts.rows places begin numbers (names relocs) parts.map (same_sections relocs) exact
          (tiled (whole relocs) (items_of o f l given.can) (new_code relocs) (are_items o f l given.can)) (words (whole relocs) (new_code relocs))
          (are_carried o (whole relocs) f l given.can have_codes)
