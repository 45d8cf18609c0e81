use Rattle.std.proofs.Common.{◌≡◌, ◌↔◌, Some, refl, sym, ◌∙◌, ap, subst}
use Rattle.std.proofs.lemmas.Bool.{true≢false}
use Rattle.seq_core.specs.declared.classes.Class.{Class}
use Rattle.seq_core.specs.declared.classes.Class.TheVariants.{Twice, Through}
use Rattle.seq_core.specs.Classes.{IsOf}
use Rattle.seq_core.proofs.ClassesApart.{named_is, one_class, others_move, no_class}
use Rattle.thumb_instr.specs.declared.instructions.Instr.{Instr}
use Rattle.seq_core.proofs.classes.class_of.Goals as goal

-- The class that an instruction is of.
the_class : (c d : Class) (i : Instr) → IsOf c i → (Some c ≡ Some d) ↔ IsOf d i
the_class c d i h = (λ e. let same : c ≡ d = cc in subst (λ (x : Class). IsOf x i) same h, λ k. ap (λ (x : Class). Some x) (one_class c d i h k))

pub returns-then-has_none-clause-class : goal.returns-then-has_none-clause-class
returns-then-has_none-clause-class c = λ d. (λ e. cc, λ k. absurd (no_class d c.args.i.now (cc) k))

pub returns-in-Some-clause-class : goal.returns-in-Some-clause-class
returns-in-Some-clause-class c = λ d. the_class c.in-Some.c d c.args.i.now (named_is c.in-Some.c c.args.i.now c.in-Some.ensures.named)

pub returns-then-is_idempotent-clause-class : goal.returns-then-is_idempotent-clause-class
returns-then-is_idempotent-clause-class c = λ d. the_class Twice d c.args.i.now (c.if-is_idempotent.ensures.0 refl)

pub returns-else-is_idempotent-clause-class : goal.returns-else-is_idempotent-clause-class
returns-else-is_idempotent-clause-class c = λ d. the_class Through d c.args.i.now (others_move c.args.i.now c.in-None.ensures.none (sym c.has_none.ensures ∙ c.if-has_none.false) (λ k. true≢false (sym (c.if-is_idempotent.ensures.1 k))))
