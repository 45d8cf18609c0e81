-- The points of a flow by their places, and where code stops behind those that control does not pass.
use Rattle.std.specs.Prelude.{◌≡◌, ◌<◌, ℕ, ◌+◌, ◌^◌, true, Some, if◌then◌else◌, length, map, slice_get}
use Rattle.std.specs.List.Sorted.{IsStrictlySortedBy}
use Rattle.elf_model.specs.declared.objects.Section.{Section}
use Rattle.elf_model.specs.declared.ranges.RangeKind.TheVariants.{Data}
use Rattle.elf_model.specs.Objects.{ObjectParts}
use Rattle.elf_model.specs.Ranges.{IsBeginning}
use Rattle.flow_recover.specs.declared.flows.Point.{Point}
use Rattle.flow_recover.specs.Flows.{FlowParts}
use Rattle.code_ranges.specs.Spans.{place_cmp}
use Rattle.reloc_places.specs.Starts.{is_function_at}
use Rattle.flow_recover.specs.DeadEnds.{IsNopAt}

-- the point q stands at this place
pub record IsPointAt (f : FlowParts) (j x q : ℕ) : Type 0 where
  pub point : Point
  pub there : slice_get f.points q ≡ Some point
  pub section : point.section ≡ j
  pub offset : point.offset ≡ x

-- where its instruction ends
abbrev pub end_of : Point → ℕ
end_of p = p.offset + (if p.wide then 4 else 2)

abbrev pub place_of_point : Point → ℕ × ℕ
place_of_point p = (p.section, p.offset)

-- few points, by section and offset
pub record PointsRise (f : FlowParts) : Type 0 where
  pub few : length f.points < 2 ^ 32
  pub order : IsStrictlySortedBy place_cmp (map place_of_point f.points)

-- Code stops: a function begins there, or data, or the section ends.
pub data IsStopAt (o : ObjectParts) (j x : ℕ) : Type 0 where
  at_function : is_function_at o.symbols j x ≡ true → IsStopAt o j x
  at_data : IsBeginning o Data j x → IsStopAt o j x
  at_end : (s : Section) → slice_get o.sections j ≡ Some s → x ≡ s.size → IsStopAt o j x

-- nothing but NOPs up to where code stops
pub data StopsBehindNops (o : ObjectParts) (j : ℕ) : ℕ → Type 0 where
  here : (x : ℕ) → IsStopAt o j x → StopsBehindNops o j x
  over : (x : ℕ) → IsNopAt o j x → StopsBehindNops o j (x + 2) → StopsBehindNops o j x
