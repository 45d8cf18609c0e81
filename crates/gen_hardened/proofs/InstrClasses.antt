-- The classes of the instructions that may be drawn.
use Rattle.std.proofs.Common.{◌≡◌, ◌<◌, ℕ, Bool, true, false, [], ◌∷◌, refl, ap, ◌∙◌, inl}
use Rattle.std.specs.Prelude.{◌==◌, ◌&&◌, ◌||◌, get_or}
use Rattle.std.proofs.lemmas.Bool.{both_ways, eqb-true}
use Rattle.thumb_instr.specs.declared.instructions.Instr.TheVariants as instr
use Rattle.thumb_instr.specs.Fields.{AluFields}
use Rattle.thumb_instr.specs.Idempotence.{KeepsSources}
use Rattle.thumb_instr.specs.Sets.{reads_of, writes_of}
use Rattle.seq_core.specs.declared.classes.Class.{Class}
use Rattle.seq_core.specs.declared.classes.Class.TheVariants.{Twice, Through, ThroughFlags, Push, SpStep}
use Rattle.seq_core.specs.Classes.{IsOf, names, steps_stack}
use Rattle.gen_hardened.proofs.KnownInstrs.{worked_at, each_of_eight}

abbrev pub worked_class : ℕ → Class
worked_class n = get_or (Through ∷ Twice ∷ ThroughFlags ∷ Through ∷ Twice ∷ Through ∷ Through ∷ Twice ∷ []) n Push

unnamed : (i : AluFields) → steps_stack (instr.Alu i) ≡ false → (c : Class) → names c (instr.Alu i) ≡ false
unnamed i e SpStep = e
unnamed i e c = refl

-- r0 is read and written
goes_through : (i : AluFields) → (reads_of (instr.Alu i) 0 && writes_of (instr.Alu i) 0) ≡ true → steps_stack (instr.Alu i) ≡ false → IsOf Through (instr.Alu i)
goes_through i mixed e = ((λ keeps. both_ways (reads_of (instr.Alu i) 0 && writes_of (instr.Alu i) 0) (keeps 0) mixed), refl, unnamed i e)

never_both : (a b k : ℕ) → (a == b) ≡ false → (((k == a) || false) && (k == b)) ≡ false
never_both a b k apart = go (k == a) refl
  where
    go : (t : Bool) → (k == a) ≡ t → ((t || false) && (k == b)) ≡ false
    go true e = ap (λ (n : ℕ). n == b) (eqb-true k a e) ∙ apart
    go false e = refl

constant_keeps : KeepsSources (worked_at 1)
unfolding reads_of writes_of
constant_keeps k = refl

shift_keeps : KeepsSources (worked_at 4)
unfolding reads_of writes_of
shift_keeps k = never_both 0 2 k refl

inverse_keeps : KeepsSources (worked_at 7)
unfolding reads_of writes_of
inverse_keeps k = never_both 1 2 k refl

pub worked_of : (n : ℕ) → n < 8 → IsOf (worked_class n) (worked_at n)
unfolding reads_of writes_of
worked_of =
    each_of_eight (λ n. IsOf (worked_class n) (worked_at n)) (goes_through _ refl refl) (inl constant_keeps, refl) refl (goes_through _ refl refl) (inl shift_keeps, refl)
    (goes_through _ refl refl) (goes_through _ refl refl) (inl inverse_keeps, refl)
