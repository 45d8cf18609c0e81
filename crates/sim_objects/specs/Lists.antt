-- Lists of objects and of their hardened forms, paired one by one, and their images at one placement.
use Rattle.std.specs.Prelude.{ℕ, Bool, List, map}
use Rattle.elf_model.specs.Objects.{ObjectParts}
use Rattle.thumb_table.specs.declared.placements.Placement.{Placement}
use Rattle.thumb_table.specs.Parts.{Image}
use Rattle.thumb_table.specs.Images.{IsImage}
use Rattle.flow_recover.specs.declared.flows.Point.{Point}
use Rattle.sim_images.specs.ImageLaws.{AreObjects}
use Rattle.sim_relation.specs.Pairs.{Paired}

-- an object and its hardened form, for c copies and K results by sequences of at most F instructions
pub record Pairing (F c K : ℕ) : Type 0 where
  pub plain : ObjectParts
  pub hard : ObjectParts
  pub may_skip : Point → Bool
  pub pair : Paired plain hard F c K may_skip

abbrev pub plains : {F c K : ℕ} → List (Pairing F c K) → List ObjectParts
plains {F} {c} {K} pairs = map (λ (q : Pairing F c K). q.plain) pairs

abbrev pub hards : {F c K : ℕ} → List (Pairing F c K) → List ObjectParts
hards {F} {c} {K} pairs = map (λ (q : Pairing F c K). q.hard) pairs

-- both lists have their images
pub record HaveImages (F c K : ℕ) (pairs : List (Pairing F c K)) (at : Placement) (plain hard : Image) : Type 0 where
  pub objects : AreObjects (plains pairs)
  pub forms : AreObjects (hards pairs)
  pub image : IsImage (plains pairs) at plain
  pub hard_image : IsImage (hards pairs) at hard
