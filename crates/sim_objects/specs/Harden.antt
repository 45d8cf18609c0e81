-- Two lists that are paired one by one: the hardened ones are hardened, as the theorem says it.
use Rattle.std.specs.Prelude.{ℕ, ◌≤◌, List}
use Rattle.flat_link.specs.Existing.{HaveBytes}
use Rattle.sim_images.specs.ImageLaws.{AreObjects}
use Rattle.sim_relation.specs.Hardened.{AreMaps, Hardened}
use Rattle.sim_objects.specs.Lists.{Pairing, plains, hards}
use Rattle.sim_objects.specs.Mapping.{maps_of}
use Rattle.sim_objects.specs.Hardening.{AllSkip}

-- The hardened objects have their maps, and their bytes are bytes.
abbrev pub ListsHarden : Type 0
ListsHarden =
    (F : ℕ) (pairs : List (Pairing F 2 4)) → 1 ≤ F → F ≤ 16 → AllSkip pairs → AreObjects (plains pairs) → AreObjects (hards pairs) → AreMaps (hards pairs) (maps_of pairs) → HaveBytes (hards pairs)
    → Hardened (plains pairs) (hards pairs) F
