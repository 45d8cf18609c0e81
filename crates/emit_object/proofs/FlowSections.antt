-- The points and words of a flow lie in sections of code, and its words can be read.
use Rattle.std.proofs.Common.{◌≡◌, ◌<◌, ◌≤◌, ℕ, ◌+◌, true, length, refl, sym, ap, ◌∙◌, inl, inr, arith, Some}
use Rattle.std.specs.Prelude.{slice_get, Contains}
use Rattle.std.proofs.lemmas.Bool.{cases_lt}
use Rattle.std.proofs.lemmas.Option.{same_Some, slice_get_within}
use Rattle.elf_model.specs.declared.ranges.RangeKind.TheVariants.{Data}
use Rattle.elf_model.specs.declared.refusals.Refusal.TheVariants as refusal
use Rattle.elf_model.specs.Objects.{ObjectParts, is_object}
use Rattle.elf_model.proofs.Elements.{element_at, contains_at}
use Rattle.reloc_places.specs.Starts.{bytes_of, IsDataWord}
use Rattle.reloc_places.proofs.StartFacts.{range_in_bytes}
use Rattle.flow_recover.specs.declared.flows.Point.{Point}
use Rattle.flow_recover.specs.declared.flows.PoolWord.{PoolWord}
use Rattle.flow_recover.specs.Flows.{FlowParts}
use Rattle.flow_recover.specs.FlowFaults.{literal_place}
use Rattle.flow_recover.specs.FlowFaults.{FlowFault as fault}
use Rattle.flow_recover.specs.WholeFlows.{IsFlow}
use Rattle.emit_object.specs.Laid.{HasCode}

module _ (o : ObjectParts) (f : FlowParts) (flow : IsFlow o f) where
  pub point_in_code : (k : ℕ) (x : Point) → slice_get f.points k ≡ Some x → HasCode o.sections x.section
  point_in_code k x at =
      let low : k < length flow.nodes = omega (arith, slice_get_within f.points k x at, flow.count) in
      let n = element_at flow.nodes k low in
      let is = flow.points k n.0 x n.1 at in
      let range = is.instr.start.range in
      record { section = range.section; there = ap (slice_get o.sections) is.section ∙ range.is_there; code = range.in_code }

  pub word_in_code : (w : PoolWord) → Contains f.words w → HasCode o.sections w.section
  word_in_code w here =
      let is = (flow.words w).0 here in
      let range = is.loads.found.start.range in
      record { section = range.section; there = ap (slice_get o.sections) is.section ∙ range.is_there; code = range.in_code }

  -- a literal is a word of data, so its bytes are there
  pub word_readable : is_object o ≡ true → (k : ℕ) (w : PoolWord) → slice_get f.words k ≡ Some w → w.offset + 4 ≤ length (bytes_of o w.section)
  word_readable sound k w at = elim (cases_lt (length (bytes_of o w.section)) (w.offset + 4)) [
    | inl short ↦
        let is = (flow.words w).0 (contains_at f.words k w at) in
        let none : (v : ℕ) → literal_place is.node.offset is.literal ≡ Some v → IsDataWord o is.node.section v → ⊥ =
        λ v e d.
        let same : v ≡ w.offset = same_Some v w.offset (sym e ∙ is.offset) in
        let end = d.before_end in
        let bytes = range_in_bytes o Data is.node.section d.start d.end sound d.range in
        let long : length (bytes_of o w.section) ≡ length (bytes_of o is.node.section) = ap (λ (j : ℕ). length (bytes_of o j)) is.section in
        omega arith in
        absurd (flow.no_fault refusal.IntoMiddle is.node.section is.node.offset (fault.no_word is.node is.literal is.loads none refl refl refl))
    | inr le ↦ le
  ]
