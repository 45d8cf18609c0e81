use Rattle.std.proofs.Common.{◌≡◌, ◌++◌, ℕ, List, ap, ◌∙◌, sym, subst}
use Rattle.std.specs.Prelude.{Contains}
use Rattle.thumb_table.specs.Layouts.{Placed, code_parts}
use Rattle.thumb_table.specs.Names.{all_symbols}
use Rattle.flat_link.specs.Layout.{parts_in}
use Rattle.flat_link.specs.Stops.{function_stops, all_data_stops, end_stops}
use Rattle.flat_link.proofs.StopFacts.{to_stop, from_stop}
use Rattle.flat_link.proofs.stops.stops_of.Goals as goal

pub returns-clause-same : goal.returns-clause-same
returns-clause-same c = λ a.
    let l = c.args.layout.now in
    let parts = parts_in l in
    let whole : c.push_ends.new.stops.items ≡ (function_stops parts (all_symbols 0 l.objects.now) ++ all_data_stops parts 0 l.objects.now) ++ end_stops (code_parts l.objects.now l.at) =
    c.in_ok-push_ends.ensures ∙ ap (λ (t : List Placed). c.push_all_data.new.stops.items ++ end_stops t) c.requires.layout.code
    ∙ ap (λ (t : List ℕ). t ++ end_stops (code_parts l.objects.now l.at))
    (c.in_ok-push_all_data.ensures ∙ ap (λ (t : List ℕ). t ++ all_data_stops parts 0 l.objects.now)
    (c.in_ok-push_functions.ensures ∙ ap (λ (t : List ℕ). t ++ function_stops parts (all_symbols 0 l.objects.now)) c.new-stops.ensures.items)) in
    let s = c.rising.ensures.same a in (
      λ h. to_stop l.objects.now l.at c.requires.layout.sound a (subst (λ (t : List ℕ). Contains t a) whole (s.0 h)),
      λ h. s.1 (subst (λ (t : List ℕ). Contains t a) (sym whole) (from_stop l.objects.now l.at c.requires.layout.sound a h)),
    )
