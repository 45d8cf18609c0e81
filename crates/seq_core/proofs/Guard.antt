-- Sequences under a condition: a branch on its inverse stands before them.
use Rattle.std.proofs.Common.{◌≡◌, ℕ, Bool, true, false, List, ◌∷◌, inl, inr, Ok, refl, sym, ap, ◌∙◌}
use Rattle.std.specs.Prelude.{not, ◌&&◌}
use Rattle.thumb_instr.specs.declared.conditions.Cond.{Cond}
use Rattle.thumb_instr.specs.declared.conditions.Cond.TheVariants.{Eq, Ne, Cs, Cc, Mi, Pl, Vs, Vc, Hi, Ls, Ge, Lt, Gt, Le, Al}
use Rattle.thumb_table.specs.Conditions.{holds, agree}
use Rattle.thumb_instr.specs.Blocks.{it_after}
use Rattle.thumb_table.specs.States.{Core, Change, Exit, Falls, Jumps, applied, unchanged}
use Rattle.thumb_table.specs.Effects.{branch_if}
use Rattle.reloc_places.specs.Relocations.{may_fail}
use Rattle.seq_core.specs.Meanings.{meant}
use Rattle.seq_core.specs.Does.{Effect}
use Rattle.seq_core.specs.Sequences.{Settles, Moves, Leads, Reaches, Carries}
use Rattle.seq_core.specs.Guards.{inverse, GuardCarries, ConditionCarries}
use Rattle.seq_core.specs.Groups.{branch_to}

not_not : (b : Bool) → not (not b) ≡ b
not_not true = refl
not_not false = refl

-- the inverse of a condition that may fail holds where it fails
pub inverse_holds : (c : Cond) (y : Core) → may_fail c ≡ true → holds (inverse c) y ≡ not (holds c y)
inverse_holds Eq y m = refl
inverse_holds Ne y m = sym (not_not y.z)
inverse_holds Cs y m = refl
inverse_holds Cc y m = sym (not_not y.c)
inverse_holds Mi y m = refl
inverse_holds Pl y m = sym (not_not y.n)
inverse_holds Vs y m = refl
inverse_holds Vc y m = sym (not_not y.v)
inverse_holds Hi y m = refl
inverse_holds Ls y m = sym (not_not (y.c && not y.z))
inverse_holds Ge y m = refl
inverse_holds Lt y m = sym (not_not (agree y.n y.v))
inverse_holds Gt y m = refl
inverse_holds Le y m = sym (not_not (not y.z && agree y.n y.v))
inverse_holds Al y m = absurd cc

pub branched : (c : Cond) (t : ℕ) (y : Core) → branch_to c t y ≡ Ok (branch_if (holds c y) t)
unfolding meant
branched c t y = refl

-- outside of blocks what changes nothing leaves the core
pub left_alone : (y : Core) → y.it ≡ 0 → applied unchanged y ≡ y
left_alone y e = ap (λ k. record y { it = k }) (ap it_after e ∙ sym e)

pub rests_settled : (e : Effect) (y : Core) → y.it ≡ 0 → e y ≡ Ok unchanged → Settles e y y
rests_settled e y it m = record { first = unchanged; makes = m; falls = refl; comes = left_alone y it; second = unchanged; again = m; falls_again = refl; stays = left_alone y it; clear = it }

abbrev pub going : ℕ → Change
going t = record unchanged { exit = Jumps t }

pub jumps_away : (e : Effect) (y : Core) (t : ℕ) → y.it ≡ 0 → e y ≡ Ok (going t) → Leads e y t y
jumps_away e y t it m = record { made = going t; makes = m; jumps = refl; comes = left_alone y it }

pub branch_passed : (c : Cond) (t : ℕ) (y : Core) → y.it ≡ 0 → holds c y ≡ false → Settles (branch_to c t) y y
branch_passed c t y it h = rests_settled (branch_to c t) y it (branched c t y ∙ ap (λ b. Ok (branch_if b t)) h)

pub branch_taken : (c : Cond) (t : ℕ) (y : Core) → y.it ≡ 0 → holds c y ≡ true → Leads (branch_to c t) y t y
branch_taken c t y it h = jumps_away (branch_to c t) y t it (branched c t y ∙ ap (λ b. Ok (branch_if b t)) h)

both_true : (a b : Bool) → (a && b) ≡ true → (a ≡ true) × (b ≡ true)
both_true true b e = (refl, e)
both_true false b e = cc

-- what settles moves
pub moves_of : (e : Effect) (x y : Core) → Settles e x y → Moves e x y
moves_of e x y s = record { made = s.first; makes = s.makes; falls = s.falls; comes = s.comes; clear = s.clear }

module _ (Goes : Effect → Core → Core → Type 0) (rests_so : (e : Effect) (y : Core) → Settles e y y → Goes e y y) where
  -- where the condition holds, the guard is passed
  passed : (end : ℕ) (c : Cond) (y : Core) → may_fail c ≡ true → y.it ≡ 0 → holds c y ≡ true → Goes (branch_to (inverse c) end) y y
  passed end c y may it t = rests_so (branch_to (inverse c) end) y (branch_passed (inverse c) end y it (inverse_holds c y may ∙ ap not t))

  behind : (end : ℕ) (c : Cond) (y z : Core) (exit : Exit) (groups : List Effect) → may_fail c ≡ true → y.it ≡ 0 → holds c y ≡ true → Reaches Goes end groups y exit z → Reaches Goes end (branch_to (inverse c) end ∷ groups) y exit z
  behind end c y z exit groups may it t r = record { out = r.out; chain = inl (y, passed end c y may it t, r.chain); there = r.there }

  -- where it fails, control goes to the end
  left : (end : ℕ) (c : Cond) (y : Core) (groups : List Effect) → may_fail c ≡ true → y.it ≡ 0 → holds c y ≡ false → Reaches Goes end (branch_to (inverse c) end ∷ groups) y Falls y
  left end c y groups may it t = record { out = Jumps end; chain = inr (end, branch_taken (inverse c) end y it (inverse_holds c y may ∙ ap not t), refl); there = refl }

  pub guard_is_done : GuardCarries Goes
  guard_is_done end c test effect loses groups may s = record {
    acts = λ y h b t m.
        let both = both_true (holds c y) (test y) t in
        let a = s.acts y h b both.1 m in
        (a.0, behind end c y a.0 h.exit groups may b.clear both.0 a.1, a.2);
    rests = λ y b t. elim (holds c y) as (λ v. holds c y ≡ v → (v && test y) ≡ false → Reaches Goes end (branch_to (inverse c) end ∷ groups) y Falls y) [
      | true ↦ λ k u. behind end c y y Falls groups may b.clear k (s.rests y b u)
      | false ↦ λ k u. left end c y groups may b.clear k
    ] refl t;
    halts = λ y b t m.
        let both = both_true (holds c y) (test y) t in
        inr (passed end c y may b.clear both.0, s.halts y b both.1 m);
  }

  pub at_condition : ConditionCarries Goes
  at_condition end Al test effect loses groups s = s
  at_condition end Eq test effect loses groups s = guard_is_done end Eq test effect loses groups refl s
  at_condition end Ne test effect loses groups s = guard_is_done end Ne test effect loses groups refl s
  at_condition end Cs test effect loses groups s = guard_is_done end Cs test effect loses groups refl s
  at_condition end Cc test effect loses groups s = guard_is_done end Cc test effect loses groups refl s
  at_condition end Mi test effect loses groups s = guard_is_done end Mi test effect loses groups refl s
  at_condition end Pl test effect loses groups s = guard_is_done end Pl test effect loses groups refl s
  at_condition end Vs test effect loses groups s = guard_is_done end Vs test effect loses groups refl s
  at_condition end Vc test effect loses groups s = guard_is_done end Vc test effect loses groups refl s
  at_condition end Hi test effect loses groups s = guard_is_done end Hi test effect loses groups refl s
  at_condition end Ls test effect loses groups s = guard_is_done end Ls test effect loses groups refl s
  at_condition end Ge test effect loses groups s = guard_is_done end Ge test effect loses groups refl s
  at_condition end Lt test effect loses groups s = guard_is_done end Lt test effect loses groups refl s
  at_condition end Gt test effect loses groups s = guard_is_done end Gt test effect loses groups refl s
  at_condition end Le test effect loses groups s = guard_is_done end Le test effect loses groups refl s

pub guard_settles : GuardCarries Settles
guard_settles = guard_is_done Settles (λ e y s. s)

pub guard_moves : GuardCarries Moves
guard_moves = guard_is_done Moves (λ e y s. moves_of e y y s)

pub condition_settles : ConditionCarries Settles
condition_settles = at_condition Settles (λ e y s. s)

pub condition_moves : ConditionCarries Moves
condition_moves = at_condition Moves (λ e y s. moves_of e y y s)
