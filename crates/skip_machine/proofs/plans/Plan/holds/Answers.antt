use Rattle.std.proofs.Common.{◌≡◌, ◌∙◌, ap}
use Rattle.std.specs.List.Sorted.{IsStrictlyIncreasing}
use Rattle.std.proofs.lemmas.List.Sorted.{searched}
use Rattle.thumb_table.specs.Schedules.{is_in}
use Rattle.thumb_table.proofs.StopLemmas.{rises}
use Rattle.skip_machine.proofs.Members.{searched_for}
use Rattle.skip_machine.proofs.plans.Plan.holds.Goals as goal

pub returns : goal.returns
returns c =
    let numbers = c.deref.result.now in
    let answer = c.binary_search.result in
    let rising : IsStrictlyIncreasing numbers = rw c.deref.ensures.value c.self.invariant in
    let same : numbers ≡ c.args.self.now = c.deref.ensures.value ∙ c.self.view_is in
    c.is_ok.ensures.value ∙ searched_for numbers c.args.step answer (searched numbers c.args.step answer c.binary_search.ensures.position (rises numbers rising)) ∙ ap (λ ns. is_in ns c.args.step) same
