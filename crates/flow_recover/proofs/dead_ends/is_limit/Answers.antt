use Rattle.std.proofs.Common.{sym, ◌∙◌}
use Rattle.std.specs.BTreeMap.{get}
use Rattle.std.specs.BTreeSet.{contains}
use Rattle.code_ranges.specs.Spans.{place_cmp}
use Rattle.flow_recover.proofs.DeadEndFacts.{no_start_limit, start_limit}
use Rattle.flow_recover.proofs.dead_ends.is_limit.Goals as goal

pub returns-in-None : goal.returns-in-None
returns-in-None c = no_start_limit c.args.o.now (λ j x. get place_cmp c.args.chart.now.starts (j, x)) c.args.section c.args.offset c.requires.starts (sym c.end_at.ensures ∙ c.in-None.is)

pub returns-in-Some : goal.returns-in-Some
returns-in-Some c =
    start_limit c.args.o.now (λ j x. get place_cmp c.args.chart.now.starts (j, x)) (λ j x. contains place_cmp c.args.chart.now.functions (j, x)) c.args.section c.args.offset _ c.is_function_at.result
    c.requires.starts c.requires.functions (sym c.end_at.ensures ∙ c.in-Some.is) c.is_function_at.ensures
