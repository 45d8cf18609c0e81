use Rattle.std.proofs.Common.{◌≡◌, ◌↔◌, true, sym, subst, Bool}
use Rattle.std.specs.BTreeMap.{get}
use Rattle.code_ranges.specs.Spans.{place_cmp}
use Rattle.reloc_places.specs.Starts.{HasStart}
use Rattle.reloc_places.proofs.StartFacts.{start_found}
use Rattle.flow_recover.proofs.flow_faults.has_start.Goals as goal

pub returns : goal.returns
returns c = subst (λ (b : Bool). (b ≡ true) ↔ HasStart c.args.o.now c.args.section c.args.offset) (sym c.contains_key.ensures)
    (start_found c.args.o.now (λ j x. get place_cmp c.args.chart.now.starts (j, x)) c.requires.starts c.args.section c.args.offset)
