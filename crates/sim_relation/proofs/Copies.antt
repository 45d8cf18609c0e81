-- A schedule that is legal for fewer copies is legal for more.
use Rattle.std.proofs.Common.{ℕ, ◌≤◌, Bool, true, false, arith}
use Rattle.thumb_table.specs.Parts.{CodeBytes}
use Rattle.seq_core.specs.Does.{Task}
use Rattle.sim_relation.specs.Doing.{Serves}
use Rattle.sim_relation.specs.Copies.{FewerCopiesDo}

serves : (code : CodeBytes) (fewer more : ℕ) (t : Task) (skipped : Bool) → fewer ≤ more → Serves skipped code more t → Serves skipped code fewer t
serves code fewer more t true few does = λ skips legal. does skips (λ i. let l = legal i in (l.0, omega (arith, l.1, few), l.2))
serves code fewer more t false few does = does

pub fewer_do : FewerCopiesDo
fewer_do o h f p fewer more skipped x u s few does = λ code start link aligned low may stands. serves code fewer more _ skipped few (does code start link aligned low may stands)
