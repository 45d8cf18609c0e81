-- What the class of an instruction tells of its meaning.
use Rattle.std.proofs.Common.{◌≡◌, Bool, true, false, refl, sym, ◌∙◌}
use Rattle.thumb_instr.specs.declared.instructions.Instr.{Instr}
use Rattle.seq_core.specs.declared.classes.Class.{Class}
use Rattle.seq_core.specs.declared.classes.Class.TheVariants.{LongSum, PopReturn}
use Rattle.seq_core.specs.Classes.{IsOf, has_pc, adds_long_product, has_no_class}
use Rattle.seq_core.specs.Builders.{ClassesTellMeanings}
use Rattle.seq_core.proofs.ClassesApart.{no_class}
use Rattle.seq_core.proofs.ClassesCover.{classes_cover}

-- An instruction of two classes has one.
together : (i : Instr) (c d : Class) → IsOf c i → IsOf d i → c ≡ d
together i c d h k = go (has_no_class i) refl
  where
    go : (b : Bool) → has_no_class i ≡ b → c ≡ d
    go true e = absurd (no_class c i e h)
    go false e = let (x, (f, one)) = classes_cover i e in sym (one c h) ∙ one d k

unless_true : (b : Bool) → (b ≡ true → ⊥) → b ≡ false
unless_true true h = absurd (h refl)
unless_true false h = refl

pub classes_tell : ClassesTellMeanings
classes_tell c i h = (
  λ other. unless_true (has_pc i) (λ e. other (together i c PopReturn h e)),
  λ other. unless_true (adds_long_product i) (λ e. other (together i c LongSum h e)),
)
