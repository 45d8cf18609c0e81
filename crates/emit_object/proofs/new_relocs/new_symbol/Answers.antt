use Rattle.std.proofs.Common.{◌≡◌, sym, ◌∙◌, Some}
use Rattle.hardened_form.specs.Relocs.{IsNewSymbol}
use Rattle.emit_object.specs.NewSymbolNumbers.{HasFunction, HasNumber}
use Rattle.emit_object.proofs.NewRelocFacts.{of_function, of_symbol, both_by}
use Rattle.emit_object.proofs.new_relocs.new_symbol.Goals as goal

pub returns-then-is_turned : goal.returns-then-is_turned
returns-then-is_turned c = λ l are m.
    both_by (c.own_number.result ≡ Some m) (HasFunction c.args.o.now c.args.r.now c.args.targets.now c.args.first m) (IsNewSymbol c.args.o.now l c.args.r.now m) (c.own_number.ensures m)
    (of_function c.args.o.now c.args.r.now l c.args.targets.now c.args.first c.args.numbers.now are (sym c.is_turned.ensures ∙ c.if-is_turned.true) m)

pub returns-else-is_turned : goal.returns-else-is_turned
returns-else-is_turned c = λ l are m.
    both_by (c.same_number.result ≡ Some m) (HasNumber c.args.o.now c.args.r.now c.args.numbers.now m) (IsNewSymbol c.args.o.now l c.args.r.now m) (c.same_number.ensures m)
    (of_symbol c.args.o.now c.args.r.now l c.args.targets.now c.args.first c.args.numbers.now are (sym c.is_turned.ensures ∙ c.if-is_turned.false) m)
