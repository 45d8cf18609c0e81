-- A recovered flow has few points, and its edges and entries name them.
use Rattle.std.proofs.Common.{◌≤◌, ◌^◌, length, get_or, inl, inr, arith, IsTrue}
use Rattle.std.proofs.lemmas.List.Elements.{Contains-get_or}
use Rattle.std.proofs.lemmas.Option.{slice_get_within}
use Rattle.elf_model.specs.Objects.{ObjectParts, is_within, code_size}
use Rattle.flow_recover.specs.Flows.{FlowParts}
use Rattle.flow_recover.specs.WholeFlows.{IsFlow}
use Rattle.reloc_places.proofs.StartFacts.{any_limit, code_within}
use Rattle.flow_recover.proofs.FlowPoints.{next_there, target_there, entry_is}
use Rattle.liveness.specs.Paths.{NamesPoints}

pub flow_names_points : (o : ObjectParts) (f : FlowParts) → IsTrue (is_within o any_limit) → IsFlow o f → NamesPoints f
flow_names_points o f within flow =
    let small : code_size o.sections ≤ 2 ^ 24 = code_within o within in
    let count : length f.points ≤ code_size o.sections = flow.few in
    record {
      few = omega arith;
      edges = λ p q x at leads. elim leads [
        | inl e ↦ slice_get_within f.points q _ (next_there o f flow p x at q e).there
        | inr e ↦ slice_get_within f.points q _ (target_there o f flow p x at q e).2.there
      ];
      entries = λ k d l. slice_get_within f.points (get_or f.entries k d) _ (entry_is o f flow (get_or f.entries k d) (Contains-get_or f.entries k d l)).2.1.there;
    }
