-- The points of the flow are the generated instructions.
use Rattle.std.proofs.Common.{◌≡◌, ℕ, ◌<◌, length, sym, ap, ◌∙◌, subst, Some}
use Rattle.std.specs.Prelude.{slice_get}
use Rattle.std.proofs.lemmas.Bool.{true≢false}
use Rattle.std.proofs.lemmas.Option.{slice_get_within}
use Rattle.elf_model.proofs.Elements.{element_at, contains_at}
use Rattle.thumb_instr.specs.Blocks.{block_condition}
use Rattle.flow_recover.specs.declared.flows.Point.{Point}
use Rattle.flow_recover.specs.Flows.{FlowParts}
use Rattle.flow_recover.specs.WholeFlows.{IsFlow}
use Rattle.flow_recover.specs.WholeFlows.IsExit.{plain, near, far}
use Rattle.flow_recover.specs.WholeFlows.IsLoaded.{literal, none}
use Rattle.gen_object.specs.Generated.{generated}
use Rattle.gen_flow.specs.GeneratedCode.{IsCount, StandsAt}
use Rattle.gen_flow.specs.GeneratedFlow.{IsGeneratedPoint}
use Rattle.gen_flow.proofs.OtherInstrs.{is_other, stands_other, other_branch}
use Rattle.gen_flow.proofs.KnownNodes.{reached_is, reached_stands}

pub points_are_known : (seed count : ℕ) (f : FlowParts) (p : ℕ) (x : Point) → IsCount count → IsFlow (generated seed count) f → slice_get f.points p ≡ Some x → IsGeneratedPoint seed count x
points_are_known seed count f p x limits flow at =
    let low : p < length flow.nodes = subst (λ (k : ℕ). p < k) flow.count (slice_get_within f.points p x at) in
    let n = element_at flow.nodes p low in
    let is = flow.points p n.0 x n.1 at in
    let reached = (flow.reached n.0).0 (contains_at flow.nodes p n.0 n.1) in
    let known = reached_is seed count limits n.0 reached in
    let stands = reached_stands seed count limits n.0 x.instr (record { reached = reached; found = is.instr }) in
    let other = stands_other seed count n.0.offset x.instr stands in
    record {
      section = is.section ∙ known.section;
      stands = subst (λ (a : ℕ). StandsAt seed count a x.instr) (sym is.offset) stands;
      cond = is.cond ∙ ap block_condition known.it;
      exit = elim is.exit [
        | plain b e ↦ e
        | near y q b aim there e ↦ absurd (true≢false (sym b ∙ other_branch x.instr other))
        | far a b aim away e ↦ absurd (true≢false (sym b ∙ other_branch x.instr other))
      ];
      word = elim is.word [
        | literal l k w e there section place word ↦ absurd (true≢false (sym other ∙ ap is_other e))
        | none other_form empty ↦ empty
      ];
    }
