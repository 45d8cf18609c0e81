use Rattle.std.proofs.Common.{◌∙◌, List, ℕ, map, string_bytes, sym, ap}
use Rattle.std.specs.Prelude.{fold, max}
use Rattle.std.proofs.lemmas.Result.{IfOk-weaker}
use Rattle.guard_words.specs.Tasks.{pairs_in}
use Rattle.guard_cli.specs.HardenSteps.{tallies_with}
use Rattle.guard_cli.proofs.HardenParts.{factors_are}
use Rattle.guard_cli.proofs.WordTexts.{report_parts}
use Rattle.guard_cli.proofs.texts.report_text.Goals as goal

pub returns : goal.returns
returns c =
    let pairs = pairs_in (map string_bytes c.args.names.now) in
    let factor = c.greatest_factor-factor.ensures ∙ ap (λ (l : List ℕ). fold max 1 l) (sym (factors_are pairs c.args.counts.now c.requires)) in
    IfOk-weaker c.format.result _ _
    (λ x h. h ∙ report_parts (tallies_with pairs c.args.counts.now) (string_bytes c.in_ok-lines.lines) c.greatest_factor-factor.result c.in_ok-lines.ensures factor) c.format.ensures.ok
