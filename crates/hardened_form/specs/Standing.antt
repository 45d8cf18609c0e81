-- Points with the places of their units, pool words with theirs, and what stands for an old offset now.
use Rattle.std.specs.Prelude.{ℕ, ◌==◌, ◌&&◌, nat_le, not, Bool, List, Option, Some, None, find, map}
use Rattle.std.specs.List.{zip}
use Rattle.flow_recover.specs.declared.flows.Point.{Point}
use Rattle.flow_recover.specs.declared.flows.PoolWord.{PoolWord}
use Rattle.flow_recover.specs.Flows.{FlowParts}
use Rattle.flow_recover.specs.Points.{place_of_point}
use Rattle.flow_recover.specs.WholeFlows.{place_of_word}
use Rattle.hardened_form.specs.Places.{UnitPlace, Places}
use Rattle.hardened_form.specs.Items.{Item}

abbrev pub units : FlowParts → Places → List (Point × UnitPlace)
units f p = zip f.points p.units

abbrev pub pool : FlowParts → Places → List (PoolWord × ℕ)
pool f p = zip f.words p.words

-- by section and old offset
abbrev pub old_points : FlowParts → List (ℕ × ℕ)
old_points f = map place_of_point f.points

abbrev pub old_words : FlowParts → List (ℕ × ℕ)
old_words f = map place_of_word f.words

-- where the unit of the point at an old offset begins
abbrev pub new_of : Option Item → Option ℕ
new_of None = None
new_of (Some it) = Some it.new

abbrev pub is_unit_of : ℕ → ℕ → Item → Bool
is_unit_of j x it = not it.word && ((it.section == j) && (it.old == x))

abbrev pub new_place : List Item → ℕ → ℕ → Option ℕ
new_place items j x = new_of (find (is_unit_of j x) items)

-- where the first unit or word begins whose old offset is at or behind one, or the section's end
abbrev pub new_or : Option Item → ℕ → ℕ
new_or None size = size
new_or (Some it) size = it.new

abbrev pub is_from : ℕ → ℕ → Item → Bool
is_from j x it = (it.section == j) && nat_le x it.old

abbrev pub first_from : List Item → ℕ → ℕ → ℕ → ℕ
first_from items j x size = new_or (find (is_from j x) items) size
