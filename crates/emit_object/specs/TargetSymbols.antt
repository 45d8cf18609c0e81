-- The function of a target, by the number of its section among those of code and by its new offset.
use Rattle.std.specs.Prelude.{ℕ, ◌+◌, List, ◌++◌, map, unwrap_or, slice_index, codes, decimal}
use Rattle.elf_model.specs.declared.objects.Symbol.{Symbol}
use Rattle.elf_model.specs.declared.objects.Home.TheVariants as homes
use Rattle.elf_model.specs.Constants.{local, func}
use Rattle.hardened_form.specs.Items.{Item}
use Rattle.hardened_form.specs.Standing.{new_place}
use Rattle.hardened_form.specs.Turns.{Target}
use Rattle.emit_object.specs.TargetPlaces.{target_at}

abbrev pub target_name : ℕ → ℕ → List ℕ
target_name ordinal old = codes "skip." ++ decimal ordinal ++ codes "." ++ decimal old

abbrev pub function_at : ℕ → Target → ℕ → Symbol
function_at ordinal t new = record { name = target_name ordinal t.old; value = new + 1; size = 0; bind = local; kind = func; other = 0; home = homes.Section t.section }

-- where its point's unit begins
abbrev pub function_by : List Item → ℕ → Target → Symbol
function_by items ordinal t = function_at ordinal t (unwrap_or (new_place items t.section t.old) 0)

-- those of places, by the numbers of sections among those of code
abbrev pub function_in : List Item → List ℕ → ℕ × ℕ → Symbol
function_in items ordinals p = function_by items (slice_index ordinals p.0) (target_at p)

abbrev pub functions_of : List Item → List ℕ → List (ℕ × ℕ) → List Symbol
functions_of items ordinals places = map (function_in items ordinals) places
