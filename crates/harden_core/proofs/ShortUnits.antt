-- No unit has more than eight steps, four times each.
use Rattle.std.proofs.Common.{◌≤◌, ℕ, ap, ◌∙◌, arith}
use Rattle.std.specs.Prelude.{Contains}
use Rattle.std.specs.Option.{option_map}
use Rattle.std.proofs.lemmas.Option.{slice_get-map}
use Rattle.elf_model.specs.Objects.{ObjectParts}
use Rattle.elf_model.proofs.Elements.{place_of}
use Rattle.seq_core.specs.Places.{PlacedParts, LayoutParts}
use Rattle.flow_recover.specs.Flows.{FlowParts}
use Rattle.flow_recover.specs.WholeFlows.{IsFlow}
use Rattle.emit_object.specs.Emitting.{unit_of}
use Rattle.pair_parts.specs.Made.{IsMade, count_of}
use Rattle.pair_parts.proofs.LaidUnits.{many_codes}
use Rattle.pair_parts.proofs.PlaceFacts.{point_at}
use Rattle.pair_parts.proofs.SequenceFacts.{sequence_stands, few_copies}

module _ (o h : ObjectParts) (f : FlowParts) (c K : ℕ) (l : LayoutParts) where
  pub short_unit : c ≤ 4 → IsFlow o f → IsMade o h f c K l → (u : PlacedParts) → Contains l.units u → count_of u ≤ 32
  short_unit most flow made u listed =
      let k = place_of l.units u listed in
      let x = point_at o h f l flow made.can made.form k.0 u k.1 in
      let is = made.units.each k.0 x.0 u.unit x.1 (slice_get-map unit_of l.units k.0 ∙ ap (option_map unit_of) k.1) in
      let many = many_codes o f l made.can k.0 u k.1 in
      let few = few_copies c 8 u.unit.seq.steps (sequence_stands o is.live c x.0 is.scratch u.unit.seq is.sequence) is.short in
      omega arith
