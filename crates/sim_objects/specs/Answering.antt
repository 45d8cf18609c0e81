-- The two lists of pairs answer each other, as the laws on two images ask.
use Rattle.std.specs.Prelude.{ℕ, List}
use Rattle.thumb_table.specs.declared.placements.Placement.{Placement}
use Rattle.thumb_table.specs.Parts.{Image}
use Rattle.sim_answers.specs.Forms.{DoAnswer}
use Rattle.sim_objects.specs.Lists.{Pairing, plains, hards, HaveImages}
use Rattle.sim_objects.specs.UnitLinks.{moved_in}

abbrev pub PairsAnswer : Type 0
PairsAnswer =
    (F c K : ℕ) (pairs : List (Pairing F c K)) (at : Placement) (plain hard : Image) → HaveImages F c K pairs at plain hard → DoAnswer (plains pairs) (hards pairs) (moved_in pairs)
