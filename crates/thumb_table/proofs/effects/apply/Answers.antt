use Rattle.std.proofs.Common.{◌≡◌, ◌∙◌, true, sym}
use Rattle.thumb_instr.specs.Blocks.{block_condition}
use Rattle.thumb_table.specs.Steps.{takes_effect}
use Rattle.thumb_table.specs.CoreStates.{core_of, width_of}
use Rattle.thumb_table.proofs.BranchLemmas.{holds_alone}
use Rattle.thumb_table.proofs.effects.apply.Goals as goal

pub returns-in-Ok-clause-ordinary : goal.returns-in-Ok-clause-ordinary
returns-in-Ok-clause-ordinary c =
    let s = c.args.s.now in
    let width = width_of c.args.wide in
    let effect : takes_effect (core_of s c.args.m.now) ≡ true = holds_alone (block_condition s.it) s c.args.m.now ∙ sym c.takes_effect.ensures ∙ c.if-not-takes_effect.false in
    (λ t _. (c.is_ordinary-ordinary.ensures width).0 t, λ h. (c.is_ordinary-ordinary.ensures width).1 (h effect))
