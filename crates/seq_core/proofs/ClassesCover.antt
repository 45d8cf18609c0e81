-- Each instruction but ADR and IT has its one class.
use Rattle.std.proofs.Common.{◌≡◌, ◌⊎◌, inl, inr, Bool, true, false, refl}
use Rattle.thumb_instr.specs.declared.instructions.Instr.{Instr}
use Rattle.thumb_instr.specs.Idempotence.{fills_in}
use Rattle.seq_core.specs.declared.classes.Class.{Class}
use Rattle.seq_core.specs.declared.classes.Class.TheVariants.{Twice, Through, ThroughFlags, WriteBack, BaseCopy, LongSum, Push, Pop, PopReturn, SpStep, MultiBack, DirectCall, RegisterCall, RegisterJump, ZeroBranch}
use Rattle.seq_core.specs.Classes.{IsOf, ClassesCover, names, has_no_class}
use Rattle.seq_core.proofs.ClassesDecided.{Decided, decided}
use Rattle.seq_core.proofs.ClassesApart.{named_is, one_class, unnamed_together}

abbrev Unnamed : Instr → Type 0
Unnamed i = (c : Class) → names c i ≡ false

abbrev Found : Instr → Type 0
Found i = ((c : Class) × (names c i ≡ true)) ⊎ Unnamed i

step : (i : Instr) (c : Class) → (names c i ≡ false → Found i) → Found i
step i c rest = go (names c i) refl
  where
    go : (b : Bool) → names c i ≡ b → Found i
    go true e = inl (c, e)
    go false e = rest e

-- The class that names an instruction, if one does.
named : (i : Instr) → Found i
named i =
    step i ThroughFlags (λ a. step i WriteBack (λ b. step i BaseCopy (λ d. step i LongSum (λ e. step i Push (λ f. step i Pop (λ g. step i PopReturn (λ h.
    step i SpStep (λ j. step i MultiBack (λ k. step i DirectCall (λ l. step i RegisterCall (λ m. step i RegisterJump (λ n. step i ZeroBranch (λ o. inr (λ c. elim c as (λ x. names x i ≡ false) [
      | Twice ↦ refl
      | Through ↦ refl
      | ThroughFlags ↦ a
      | WriteBack ↦ b
      | BaseCopy ↦ d
      | LongSum ↦ e
      | Push ↦ f
      | Pop ↦ g
      | PopReturn ↦ h
      | SpStep ↦ j
      | MultiBack ↦ k
      | DirectCall ↦ l
      | RegisterCall ↦ m
      | RegisterJump ↦ n
      | ZeroBranch ↦ o
    ]))))))))))))))

abbrev HasOne : Instr → Type 0
HasOne i = (c : Class) × (IsOf c i × ((d : Class) → IsOf d i → c ≡ d))

has_one : (i : Instr) (c : Class) → IsOf c i → HasOne i
has_one i c h = (c, (h, λ d k. one_class c d i h k))

-- One of the two that no row names.
other : (i : Instr) → Unnamed i → has_no_class i ≡ false → Decided i → (b : Bool) → fills_in i ≡ b → HasOne i
other i none some (inl keeps) b e = has_one i Twice (inl keeps, unnamed_together i none some)
other i none some (inr mixed) true e = has_one i Twice (inr e, unnamed_together i none some)
other i none some (inr mixed) false e = has_one i Through (mixed, e, none)

covered : (i : Instr) → has_no_class i ≡ false → Found i → HasOne i
covered i some (inl (c, h)) = has_one i c (named_is c i h)
covered i some (inr none) = other i none some (decided i) (fills_in i) refl

pub classes_cover : ClassesCover
classes_cover i some = covered i some (named i)
