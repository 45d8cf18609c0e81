-- MOVW and MOVT do their work by whatever number linking puts there.
use Rattle.std.proofs.Common.{◌≡◌, ◌≤◌, ◌⊎◌, inl, inr, ℕ, List, [], Bool, true, false, refl, subst}
use Rattle.std.specs.Prelude.{◌&&◌}
use Rattle.thumb_instr.specs.declared.conditions.Cond.{Cond}
use Rattle.thumb_instr.specs.declared.conditions.Cond.TheVariants.{Eq, Ne, Cs, Cc, Mi, Pl, Vs, Vc, Hi, Ls, Ge, Lt, Gt, Le, Al}
use Rattle.thumb_instr.specs.declared.instructions.Instr.{Instr}
use Rattle.thumb_instr.specs.declared.instructions.Instr.TheVariants as instr
use Rattle.thumb_instr.specs.Fields.{HalfFields}
use Rattle.thumb_instr.specs.Idempotence.{IsIdempotent}
use Rattle.thumb_instr.specs.Sets.{reads_of, writes_of}
use Rattle.thumb_table.specs.States.{Core}
use Rattle.thumb_table.specs.Conditions.{holds}
use Rattle.seq_core.specs.declared.classes.Class.{Class}
use Rattle.seq_core.specs.declared.classes.Class.TheVariants as class
use Rattle.seq_core.specs.declared.steps.Step.{Step}
use Rattle.seq_core.specs.Does.{Effect}
use Rattle.seq_core.specs.Classes.{IsOf}
use Rattle.seq_core.specs.Denoted.{Spots, groups_of}
use Rattle.seq_core.specs.Guards.{ConditionCarries, guarded}
use Rattle.seq_core.specs.Sequences.{Carries, Settles}
use Rattle.seq_core.specs.Straight.{twice_steps}
use Rattle.seq_core.specs.Builders.{Do, HasRow, StepsDo, loses, meaning, own_test}
use Rattle.seq_core.proofs.ClassesApart.{one_class}
use Rattle.seq_idempotent.proofs.InPlace.{Laws, twice_does}
use Rattle.it_expand.specs.Expanded.{guard_of}
use Rattle.unit_work.proofs.Linked.{guarding}

top_and : (top : Bool) (a : Bool) → top ≡ false → ((top && a) && a) ≡ false
top_and true a e = absurd (cc)
top_and false a e = refl

half_idempotent : (h : HalfFields) → IsIdempotent (instr.Half h)
unfolding reads_of writes_of
half_idempotent h = (go h.top refl, refl)
  where
    go : (top : Bool) → h.top ≡ top → ((k : ℕ) → (reads_of (instr.Half h) k && writes_of (instr.Half h) k) ≡ false) ⊎ (h.top ≡ true)
    go true e = inr e
    go false e = inl (λ k. top_and h.top (writes_of (instr.Half h) k) e)

pub half_class : (c : Class) (h : HalfFields) → IsOf c (instr.Half h) → c ≡ class.Twice
half_class c h of = one_class c class.Twice (instr.Half h) of (half_idempotent h)

-- under a guard
guard_groups : (p : Spots) (copies : ℕ) (cond : Cond) (steps : List Step) → guarded cond p.end (groups_of p steps) ≡ groups_of p (guarding (guard_of cond) copies steps)
guard_groups p copies Eq steps = refl
guard_groups p copies Ne steps = refl
guard_groups p copies Cs steps = refl
guard_groups p copies Cc steps = refl
guard_groups p copies Mi steps = refl
guard_groups p copies Pl steps = refl
guard_groups p copies Vs steps = refl
guard_groups p copies Vc steps = refl
guard_groups p copies Hi steps = refl
guard_groups p copies Ls steps = refl
guard_groups p copies Ge steps = refl
guard_groups p copies Lt steps = refl
guard_groups p copies Gt steps = refl
guard_groups p copies Le steps = refl
guard_groups p copies Al steps = refl

pub under_condition : ConditionCarries Settles → StepsDo → (cond : Cond) (test : Core → Bool) (i : Instr) (lost : ℕ → Bool) (copies : ℕ) (steps : List Step)
    → Do test i lost copies steps → Do (λ y. holds cond y && test y) i lost copies (guarding (guard_of cond) copies steps)
under_condition conditions does cond test i lost copies steps d =
    does (λ y. holds cond y && test y) i lost copies (guarding (guard_of cond) copies steps)
    (λ p. subst (λ (gs : List Effect). Carries Settles p.end (λ y. holds cond y && test y) (meaning p i) lost gs) (guard_groups p copies cond steps)
    (conditions p.end cond test (meaning p i) lost (groups_of p steps) (d.carries p)))

pub half_does : Laws → ConditionCarries Settles → (cond : Cond) (h : HalfFields) (copies : ℕ) → HasRow (instr.Half h) → 2 ≤ copies → copies ≤ 4
    → Do (λ y. holds cond y && own_test (instr.Half h) y) (instr.Half h) (loses (instr.Half h) []) copies (guarding (guard_of cond) copies (twice_steps copies (instr.Half h)))
half_does laws conditions cond h copies row least most =
    under_condition conditions laws.steps cond (own_test (instr.Half h)) (instr.Half h) (loses (instr.Half h) []) copies (twice_steps copies (instr.Half h))
    (twice_does laws (instr.Half h) [] copies (record { row = row; of = half_idempotent h; enough = refl; free = tt; least = least; most = most }))
