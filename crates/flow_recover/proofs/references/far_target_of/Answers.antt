use Rattle.std.proofs.Common.{sym, ◌∙◌}
use Rattle.flow_recover.proofs.RightRelocs.{far_target, target_far}
use Rattle.flow_recover.proofs.references.far_target_of.Goals as goal

pub returns-then-is_jump : goal.returns-then-is_jump
returns-then-is_jump c = λ a.
    let right = c.is_right.ensures.0 c.if-not-is_right.false in
    let jump = sym c.is_jump.ensures ∙ c.if-is_jump.true in (
      λ h. far_target c.args.o.now c.args.r.now right jump a (sym c.target_by.ensures ∙ h),
      λ t. c.target_by.ensures ∙ target_far c.args.o.now c.args.r.now right jump a t,
    )
