use Rattle.std.proofs.Common.{ap, ◌∙◌, Option, ℕ}
use Rattle.emit_object.specs.FirstItems.{unit_items, first_of, nearer_or}
use Rattle.emit_object.proofs.ItemFacts.{first_is}
use Rattle.emit_object.proofs.first_items.first_from.Goals as goal

pub returns : goal.returns
returns c = λ items are.
    let j = c.args.section in
    let x = c.args.offset in
    c.nearer_or.ensures
    ∙ ap (λ (u : Option (ℕ × ℕ)). nearer_or u c.first_word-word.result c.args.size) c.first_unit-unit.ensures
    ∙ ap (λ (w : Option (ℕ × ℕ)). nearer_or (first_of (unit_items c.args.f.now c.args.l.now) j x) w c.args.size) c.first_word-word.ensures
    ∙ first_is c.args.f.now c.args.l.now c.requires.points c.requires.words c.requires.matches items are j x c.args.size
