-- Two lists of objects that are paired one by one are hardened.
use Rattle.std.specs.Prelude.{◌≡◌, ◌<◌, ◌≤◌, ◌^◌, ℕ, false, List, length, Some, slice_get}
use Rattle.elf_model.specs.declared.objects.Section.{Section}
use Rattle.elf_model.specs.Maps.{is_map_named}
use Rattle.elf_model.specs.Objects.{ObjectParts, code_size}
use Rattle.flat_link.specs.Existing.{HaveBytes}
use Rattle.sim_images.specs.ImageLaws.{AreObjects}
use Rattle.sim_relation.specs.Pairs.{Paired, everywhere}
use Rattle.sim_relation.specs.Hardened.{Hardened}

-- an object with few sections and little code, of which no section has the name of a map
pub record IsInput (o : ObjectParts) : Type 0 where
  pub few : length o.sections < 2 ^ 32
  pub small : code_size o.sections ≤ 2 ^ 24
  pub unnamed : (j : ℕ) (s : Section) → slice_get o.sections j ≡ Some s → is_map_named s ≡ false

-- for two copies and four results, with factors of at most F
pub record ArePairedOneByOne (ins outs : List ObjectParts) (F : ℕ) : Type 0 where
  pub count : length outs ≡ length ins
  pub inputs : (i : ℕ) (o : ObjectParts) → slice_get ins i ≡ Some o → IsInput o
  pub paired : (i : ℕ) (o h : ObjectParts) → slice_get ins i ≡ Some o → slice_get outs i ≡ Some h → (G : ℕ) × (G ≤ F) × Paired o h G 2 4 everywhere

-- With what the types of objects give.
pub record ArePairedLists (ins outs : List ObjectParts) (F : ℕ) : Type 0 where
  pub objects : AreObjects ins
  pub forms : AreObjects outs
  pub bytes : HaveBytes outs
  pub pairs : ArePairedOneByOne ins outs F

abbrev pub PairedListsHarden : Type 0
PairedListsHarden = (ins outs : List ObjectParts) (F : ℕ) → 1 ≤ F → F ≤ 16 → ArePairedLists ins outs F → Hardened ins outs F
