use Rattle.std.proofs.Common.{ap, ◌∙◌, Bool, cond, Some}
use Rattle.std.specs.BTreeMap.{get}
use Rattle.code_ranges.specs.Spans.{place_cmp}
use Rattle.code_ranges.proofs.PlaceOrder.{same_place}
use Rattle.flat_link.proofs.starts.note_start.Goals as goal

pub returns : goal.returns
returns c = λ j x.
    c.in_ok-insert.ensures.updates.0 (j, x)
    ∙ ap (λ (b : Bool). cond b (Some c.args.end) (get place_cmp c.args.starts.now (j, x))) (same_place c.args.section c.args.offset j x)
