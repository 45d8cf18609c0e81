use Rattle.std.proofs.Common.{ℕ, Option, ap, rules}
use Rattle.std.specs.Prelude.{unwrap_or}
use Rattle.emit_object.proofs.MovedFacts.{begins_low}
use Rattle.emit_object.proofs.new_symbols.place_or_0.Goals as goal

pub returns-in-Some : goal.returns-in-Some
returns-in-Some c = record {
  place = λ items are. ap (λ (p : Option ℕ). unwrap_or p 0) (c.in-Some.ensures.place items are);
  low = begins_low c.args.l.now.units c.in-Some.at c.requires.low (c.in-Some.ensures.laid c.in-Some.at (search rules));
}
