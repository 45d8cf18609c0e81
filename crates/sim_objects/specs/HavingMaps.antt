-- The hardened object of a pair has its map.
use Rattle.std.specs.Prelude.{◌≡◌, ◌<◌, ◌≤◌, ◌^◌, ℕ, false, length, Some, slice_get}
use Rattle.elf_model.specs.declared.objects.Section.{Section}
use Rattle.elf_model.specs.Maps.{is_map_named, HasMap}
use Rattle.elf_model.specs.Objects.{code_size}
use Rattle.sim_objects.specs.Lists.{Pairing}

-- It does where the plain one is not too big, and none of its sections has a map's name.
abbrev pub PairsHaveMaps : Type 0
PairsHaveMaps =
    (F c K : ℕ) (q : Pairing F c K) → c < 16 → length q.plain.sections < 2 ^ 32 → code_size q.plain.sections ≤ 2 ^ 24
    → ((j : ℕ) (s : Section) → slice_get q.plain.sections j ≡ Some s → is_map_named s ≡ false) → HasMap q.hard q.pair.form.rows
