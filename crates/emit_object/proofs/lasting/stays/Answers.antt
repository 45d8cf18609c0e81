use Rattle.std.proofs.Common.{refl}
use Rattle.emit_object.specs.Lasting.LastsAt.{of_point}
use Rattle.emit_object.proofs.lasting.stays.Goals as goal

pub returns-then-has_point : goal.returns-then-has_point
returns-then-has_point c = (λ h. let p = c.has_point.ensures.0 c.if-has_point.true in of_point p.0 p.1, λ l. refl)
