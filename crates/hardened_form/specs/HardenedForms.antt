-- What a hardened object says of an object, for its flow, the places of its units and words, and the instructions that
-- carry relocations: everything but the instructions of units.
use Rattle.std.specs.Prelude.{◌≡◌, List}
use Rattle.elf_model.specs.declared.objects.MapRow.{MapRow}
use Rattle.elf_model.specs.Objects.{ObjectParts}
use Rattle.flow_recover.specs.Flows.{FlowParts}
use Rattle.hardened_form.specs.Places.{Places}
use Rattle.hardened_form.specs.Items.{AreItems}
use Rattle.hardened_form.specs.Standing.{old_points, old_words}
use Rattle.hardened_form.specs.Rows.{AreRows}
use Rattle.hardened_form.specs.Turns.{AreTargets}
use Rattle.hardened_form.specs.Sections.{AreSections}
use Rattle.hardened_form.specs.MappingSymbols.{AreMappings}
use Rattle.hardened_form.specs.Symbols.{Lists, new_symbols}
use Rattle.hardened_form.specs.Carriers.{Carrier, AreCarried}
use Rattle.hardened_form.specs.Relocs.{AreRelocs}
use Rattle.hardened_form.specs.Code.{AreTiled, AreWords}

-- the lists that the tables follow
pub record AreLists (o h : ObjectParts) (f : FlowParts) (p : Places) (l : Lists) : Type 0 where
  pub items : AreItems (old_points f) (old_words f) p l.items
  pub mappings : AreMappings h f p l.mappings
  pub targets : AreTargets o f l.targets

-- the tables
pub record AreTables (o h : ObjectParts) (f : FlowParts) (p : Places) (carriers : List (List Carrier)) (l : Lists) (rows : List MapRow) : Type 0 where
  pub lists : AreLists o h f p l
  pub map : AreRows o f p rows
  pub sections : AreSections o h rows
  pub symbols : h.symbols ≡ new_symbols o h l
  pub relocs : AreRelocs o h f p carriers l

-- h is a hardened form of o, with these units and words.
pub record IsHardenedForm (o h : ObjectParts) (f : FlowParts) (p : Places) (carriers : List (List Carrier)) : Type 0 where
  pub lists : Lists
  pub rows : List MapRow
  pub tables : AreTables o h f p carriers lists rows
  pub tiled : AreTiled h lists.items
  pub words : AreWords o h f p
  pub carried : AreCarried o h f p carriers
