-- How ranges are found: the last mapping symbol at each place, those places in order, and the span to the next.
use Rattle.std.specs.Prelude.{ℕ, ◌==◌, nat_lt, ◌&&◌, Bool, true, false, List, [], ◌∷◌, ◌++◌, Option, Some, None, if◌then◌else◌, slice_get}
use Rattle.std.specs.declared.cmp.Ordering.{Ordering}
use Rattle.std.specs.Ordering.{nat_cmp, ordering_then}
use Rattle.std.specs.Option.{option_or, option_to_list}
use Rattle.elf_model.specs.declared.objects.Section.{Section}
use Rattle.elf_model.specs.declared.objects.Symbol.{Symbol}
use Rattle.elf_model.specs.declared.ranges.RangeKind.{RangeKind}
use Rattle.elf_model.specs.declared.ranges.RangeKind.TheVariants.{Code, Arm, Data}
use Rattle.elf_model.specs.Objects.{is_code}
use Rattle.elf_model.specs.Ranges.{kind_of, stands_at}
use Rattle.code_ranges.specs.declared.spans.Mark.{Mark}
use Rattle.code_ranges.specs.declared.spans.Span.{Span}
use Rattle.code_ranges.specs.declared.ranges.Range.{Range}

-- the order of places: by section, then by offset
abbrev pub place_cmp : ℕ × ℕ → ℕ × ℕ → Ordering
place_cmp x y = ordering_then (nat_cmp x.0 y.0) (nat_cmp x.1 y.1)

-- what begins at a place by this symbol, and by the last mapping symbol there
abbrev pub kind_by : ℕ → ℕ → Symbol → Option RangeKind
kind_by j x s = if stands_at j x s.home s.value then kind_of s else None

abbrev pub kind_at : List Symbol → ℕ → ℕ → Option RangeKind
kind_at [] j x = None
kind_at (s ∷ rest) j x = option_or (kind_at rest j x) (kind_by j x s)

abbrev pub mark_of : (ℕ × ℕ) × RangeKind → Mark
mark_of e = record { section = e.0.0; offset = e.0.1; kind = e.1 }

-- where a mark's span ends, in a section of this size
abbrev pub end_of : Mark → Option Mark → ℕ → ℕ
end_of m None size = size
end_of m (Some n) size = if n.section == m.section then n.offset else size

-- the span from a mark to the next one, if it has bytes of code
abbrev pub span_in : Mark → Option Mark → Option Section → Option Span
span_in m next None = None
span_in m next (Some s) =
    if is_code s && nat_lt m.offset (end_of m next s.size)
    then Some (record { section = m.section; start = m.offset; end = end_of m next s.size; kind = m.kind }) else None

abbrev pub span_of : List Section → Mark → Option Mark → Option Span
span_of sections m next = span_in m next (slice_get sections m.section)

abbrev pub spans_from : List Section → List Mark → List Span
spans_from sections [] = []
spans_from sections (m ∷ rest) = option_to_list (span_of sections m (slice_get rest 0)) ++ spans_from sections rest

-- a span as it is answered
abbrev pub is_thumb : RangeKind → Bool
is_thumb Code = true
is_thumb Arm = false
is_thumb Data = false

abbrev pub range_of : Span → Range
range_of s = record { section = s.section; start = s.start; end = s.end; code = is_thumb s.kind }
