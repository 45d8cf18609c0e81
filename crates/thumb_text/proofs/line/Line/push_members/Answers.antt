use Rattle.std.proofs.Common.{arith, ◌||◌, ◌∷◌, [], refl, sym, ap, ◌∙◌, append-nil}
use Rattle.thumb_instr.specs.Operands.{has}
use Rattle.thumb_text.proofs.NamesOf.{names_none, line_more, any_more}
use Rattle.thumb_text.proofs.line.Line.push_members.Goals as goal

pub loop-number-init : goal.loop-number-init
loop-number-init c = rw names_none (sym (append-nil _), refl, omega arith)

pub loop-number-preserved : goal.loop-number-preserved
loop-number-preserved c =
    let before = c.loop-number.invariant in (
      line_more (44 ∷ []) _ _ _ _ _ _ before.0 before.1 c.push_member-some.ensures.text,
      c.push_member-some.ensures.some ∙ ap (λ b. b || has c.args.list.now.0 c.loop-number.number) before.1 ∙ sym (any_more _ _),
      grind (arith, before.2),
    )
