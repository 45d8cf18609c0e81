-- What a pair gives to the chart of two images: a point's unit does its instruction in the hardened code.
use Rattle.std.specs.Prelude.{◌≡◌, ◌<◌, ◌≤◌, ℕ, ◌+◌, ◌%◌, Bool, false, Option, Some, if◌then◌else◌, length, slice_get}
use Rattle.elf_model.specs.Objects.{ObjectParts}
use Rattle.thumb_instr.specs.Blocks.{block_condition}
use Rattle.thumb_table.specs.Parts.{CodeBytes}
use Rattle.flow_recover.specs.declared.flows.Point.{Point}
use Rattle.hardened_form.specs.Places.{UnitPlace}
use Rattle.hardened_form.specs.Symbols.{size_of}
use Rattle.seq_core.specs.Does.{Works}
use Rattle.sim_charts.specs.Charts as charts
use Rattle.sim_relation.specs.Sequences.{Sequence}
use Rattle.sim_relation.specs.Standing.{Linking, Stands}
use Rattle.sim_relation.specs.Doing.{loses, linked_effect, MayLink}
use Rattle.sim_relation.specs.Pairs.{Paired}

-- what a chart adds to a point and its unit, by addresses of the plain image
pub record Known : Type 0 where
  pub it : ℕ
  pub way : charts.Way
  pub next : Option ℕ
  pub entry : Bool
  pub live : ℕ → Bool

-- the chart's point, where the hardened section starts there
abbrev pub charted : ℕ → Point → UnitPlace → Sequence → Known → charts.Point
charted start x u s known = record {
  instr = x.instr;
  width = if x.wide then 4 else 2;
  it = known.it;
  way = known.way;
  next = known.next;
  entry = known.entry;
  live = known.live;
  place = start + u.start;
  end = start + u.end;
  back = start + u.back;
  length = length s.steps;
  loses = loses x.instr s.scratch;
}

-- Steps are skipped in the units of these points alone.
abbrev pub KeepsOut : Bool → (ℕ → Bool) → ℕ → ℕ → Type 0
KeepsOut skipped may_skip a b = skipped ≡ false → (y : ℕ) → a ≤ y → y < b → may_skip y ≡ false

-- Where the unit stands in a code, linked, the chart's point works there within F steps.
abbrev pub PairsWork : Type 0
PairsWork =
    (o h : ObjectParts) (F c K : ℕ) (skipped : Point → Bool) (pair : Paired o h F c K skipped) (k : ℕ) (x : Point) (u : UnitPlace) (s : Sequence)
    → slice_get pair.flow.points k ≡ Some x → slice_get pair.certificate.places.units k ≡ Some u → slice_get pair.certificate.sequences k ≡ Some s
    → (code : CodeBytes) (start : ℕ) (link : Linking) → start % 4 ≡ 0 → start + size_of (slice_get h.sections x.section) ≤ 0x7FFFF000
    → MayLink o pair.flow pair.certificate.places start x link → Stands code start link pair.certificate.places x u s
    → (known : Known) → block_condition known.it ≡ x.cond → (may_skip : ℕ → Bool) → KeepsOut (skipped x) may_skip (start + u.start) (start + u.end)
    → Works code c may_skip (charts.unit_of (charted start x u s known) (linked_effect start link x u)) × (length s.steps ≤ F)
