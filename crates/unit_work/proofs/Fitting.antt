-- The steps of a unit: under a guard and with a landing.
use Rattle.std.proofs.Common.{◌≡◌, ℕ, zero, suc, ◌+◌, ◌*◌, List, [], ◌∷◌, ◌++◌, take, length, replicate, arith, Bool, true, false, refl, subst, Option, Some, None}
use Rattle.std.specs.Prelude.{slice_get, ⊤}
use Rattle.std.proofs.lemmas.Option.{none-some, same_Some}
use Rattle.std.proofs.lemmas.List.{length-append, length-replicate}
use Rattle.std.proofs.Math.Nat.{mul-suc}
use Rattle.thumb_instr.specs.declared.conditions.Cond.{Cond}
use Rattle.thumb_instr.specs.declared.instructions.Instr.{Instr}
use Rattle.seq_core.specs.declared.steps.Step.{Step}
use Rattle.seq_core.specs.declared.steps.Goal.TheVariants.{End}
use Rattle.seq_core.specs.Classes.{branches_on_zero}
use Rattle.branch_layout.specs.Copies.{copies_of}
use Rattle.point_units.specs.Units.{trapping, landed, under}
use Rattle.unit_work.proofs.Made.{suits, AreMade}

-- A step stands as often as all do, suits the instruction, and leads to the end only where something holds.
pub record IsFit (copies : ℕ) (i : Instr) (E : Type 0) (s : Step) : Type 0 where
  pub many : s.copies ≡ copies
  pub suits : suits i s.instr ≡ true
  pub end : s.goal ≡ End → E

abbrev pub AreFit : ℕ → Instr → Type 0 → List Step → Type 0
AreFit copies i E [] = ⊤
AreFit copies i E (s ∷ ss) = IsFit copies i E s × AreFit copies i E ss

pub fit_at : (copies : ℕ) (i : Instr) (E : Type 0) (ss : List Step) → AreFit copies i E ss → (j : ℕ) (s : Step) → slice_get ss j ≡ Some s → IsFit copies i E s
fit_at copies i E [] all j s e = absurd (none-some s e)
fit_at copies i E (t ∷ ss) all zero s e = subst (IsFit copies i E) (same_Some t s e) all.0
fit_at copies i E (t ∷ ss) all (suc j) s e = fit_at copies i E ss all.1 j s e

pub fit_front : (copies : ℕ) (i : Instr) (E : Type 0) (n : ℕ) (ss : List Step) → AreFit copies i E ss → AreFit copies i E (take n ss)
fit_front copies i E zero ss all = tt
fit_front copies i E (suc n) [] all = tt
fit_front copies i E (suc n) (s ∷ ss) all = (all.0, fit_front copies i E n ss all.1)

fit_both : (copies : ℕ) (i : Instr) (E : Type 0) (ss ts : List Step) → AreFit copies i E ss → AreFit copies i E ts → AreFit copies i E (ss ++ ts)
fit_both copies i E [] ts one two = two
fit_both copies i E (s ∷ ss) ts one two = (one.0, fit_both copies i E ss ts one.1 two)

made_fit : (copies : ℕ) (i : Instr) (E : Type 0) (ss : List Step) → (branches_on_zero i ≡ true → E) → AreMade copies i ss → AreFit copies i E ss
made_fit copies i E [] zeros made = tt
made_fit copies i E (s ∷ ss) zeros made = (record { many = made.0.many; suits = made.0.suits; end = λ e. zeros (made.0.end e) }, made_fit copies i E ss zeros made.1)

landed_fit : (copies : ℕ) (i : Instr) (E : Type 0) (never : Bool) (ss : List Step) → AreFit copies i E ss → AreFit copies i E (landed never copies ss).steps
landed_fit copies i E true ss all = fit_both copies i E ss (trapping copies ∷ []) all (record { many = refl; suits = refl; end = λ e. absurd (cc) }, tt)
landed_fit copies i E false ss all = all

pub sequence_fit : (copies : ℕ) (i : Instr) (E : Type 0) (g : Option Cond) (never : Bool) (ss : List Step) → AreMade copies i ss → (branches_on_zero i ≡ true → E) → ((c : Cond) → g ≡ Some c → E)
    → AreFit copies i E (under g copies (landed never copies ss)).steps
sequence_fit copies i E None never ss made zeros guards = landed_fit copies i E never ss (made_fit copies i E ss zeros made)
sequence_fit copies i E (Some c) never ss made zeros guards =
    (record { many = refl; suits = refl; end = λ e. guards c refl }, landed_fit copies i E never ss (made_fit copies i E ss zeros made))

-- THEIR NUMBER

pub fit_copies : (copies : ℕ) (i : Instr) (E : Type 0) (ss : List Step) → AreFit copies i E ss → length (copies_of ss) ≡ copies * length ss
fit_copies copies i E [] all = omega arith
fit_copies copies i E (s ∷ ss) all =
    let rest = fit_copies copies i E ss all.1 in
    let both : length (copies_of (s ∷ ss)) ≡ length (replicate s.copies s) + length (copies_of ss) = length-append (replicate s.copies s) (copies_of ss) in
    let here : length (replicate s.copies s) ≡ s.copies = length-replicate s.copies s in
    let many : s.copies ≡ copies = all.0.many in
    let one : copies * suc (length ss) ≡ copies * length ss + copies = mul-suc copies (length ss) in
    omega arith

-- without a landing the whole of it is before that
pub all_before : (g : Option Cond) (copies : ℕ) (ss : List Step) → (under g copies (landed false copies ss)).landing ≡ length (under g copies (landed false copies ss)).steps
all_before None copies ss = refl
all_before (Some c) copies ss = let e : length ss + 1 ≡ suc (length ss) = omega arith in e
