use Rattle.std.specs.BTreeSet.{contains}
use Rattle.code_ranges.specs.Spans.{place_cmp}
use Rattle.flow_recover.proofs.EntryIndexes.{among_is}
use Rattle.flow_recover.proofs.recovery.is_entered.Goals as goal

pub returns-then-n-eq0 : goal.returns-then-n-eq0
returns-then-n-eq0 c = among_is (λ j x. contains place_cmp c.args.places.now (j, x)) c.args.n c.contains.result c.if-n-eq0.true c.contains.ensures
