-- Sequences by way of given registers, and what they lose.
use Rattle.std.proofs.Common.{◌≡◌, ◌≢◌, ℕ, ◌==◌, ◌||◌, Bool, true, false, List, [], ◌∷◌, length, get_or, refl, sym, ap, subst, arith}
use Rattle.std.specs.Prelude.{◌&&◌}
use Rattle.std.proofs.lemmas.Bool.{eqb-true, eq-eqb}
use Rattle.thumb_instr.specs.declared.instructions.Instr.{Instr}
use Rattle.thumb_instr.specs.Sets.{is_flag}
use Rattle.seq_core.specs.declared.classes.Class.{Class}
use Rattle.seq_core.specs.declared.steps.Step.{Step}
use Rattle.seq_core.specs.Series.{Series}
use Rattle.thumb_table.specs.Schedules.{is_in}
use Rattle.seq_core.specs.Groups.{IsFree, only}
use Rattle.seq_core.specs.Classes.{adds_long_product}
use Rattle.seq_core.specs.Replaced.{replaced}
use Rattle.seq_core.specs.Builders.{AreCoded, CanBuild, Do, loses, own_test}

-- LISTS OF REGISTERS

pub one_is : (xs : List ℕ) (q : ℕ) → length xs ≡ 1 → q ≡ get_or xs 0 q → xs ≡ q ∷ []
one_is [] q l e = absurd (omega (arith, l))
one_is (x ∷ []) q l e = ap (λ y. y ∷ []) (sym e)
one_is (x ∷ y ∷ xs) q l e = absurd (omega (arith, l))

pub two_are : (xs : List ℕ) (a b : ℕ) → length xs ≡ 2 → a ≡ get_or xs 0 a → b ≡ get_or xs 1 b → xs ≡ a ∷ b ∷ []
two_are [] a b l e f = absurd (omega (arith, l))
two_are (x ∷ []) a b l e f = absurd (omega (arith, l))
two_are (x ∷ y ∷ []) a b l e f = cc
two_are (x ∷ y ∷ z ∷ xs) a b l e f = absurd (omega (arith, l))

pub three_are : (xs : List ℕ) (a b c : ℕ) → length xs ≡ 3 → a ≡ get_or xs 0 a → b ≡ get_or xs 1 b → c ≡ get_or xs 2 c → xs ≡ a ∷ b ∷ c ∷ []
three_are [] a b c l e f g = absurd (omega (arith, l))
three_are (x ∷ []) a b c l e f g = absurd (omega (arith, l))
three_are (x ∷ y ∷ []) a b c l e f g = absurd (omega (arith, l))
three_are (x ∷ y ∷ z ∷ []) a b c l e f g = cc
three_are (x ∷ y ∷ z ∷ r ∷ xs) a b c l e f g = absurd (omega (arith, l))

-- WHAT IS LOST

pub either : (a b : Bool) → (a || b) ≡ false → (a ≡ false) × (b ≡ false)
either true b e = absurd cc
either false b e = (refl, e)

pub turned : (a b : ℕ) → (a == b) ≡ false → (b == a) ≡ false
turned a b e = go (b == a) refl
  where
    go : (c : Bool) → (b == a) ≡ c → c ≡ false
    go true f = let s : (a == b) ≡ true = eq-eqb a b (sym (eqb-true b a f)) in absurd cc
    go false f = refl

pub one_lost : (i : Instr) (q k : ℕ) → loses i (q ∷ []) k ≡ false → only q k ≡ false
one_lost i q k e =
    let parts = either ((q == k) || false) (adds_long_product i && is_flag k) e in
    turned q k (either (q == k) false parts.0).0

pub two_lost : (i : Instr) (a b k : ℕ) → loses i (a ∷ b ∷ []) k ≡ false → ((k == a) || (k == b)) ≡ false
two_lost i a b k e =
    let parts = either ((a == k) || ((b == k) || false)) (adds_long_product i && is_flag k) e in
    let first = either (a == k) ((b == k) || false) parts.0 in
    let second = either (b == k) false first.1 in
    let ka : (k == a) ≡ false = turned a k first.0 in
    let kb : (k == b) ≡ false = turned b k second.0 in
    rw (ka, kb) refl

-- WHAT A BUILDER GIVES

pub record IsBuilt (c : Class) (i : Instr) (scratch : List ℕ) (copies : ℕ) (s : Series) : Type 0 where
  pub steps : s ≡ record { steps = replaced c copies i scratch; landing = length (replaced c copies i scratch) }
  pub works : Do (own_test i) i (loses i scratch) copies s.steps
  pub coded : AreCoded s.steps

-- its law for a list of registers
abbrev pub Works : Class → Instr → ℕ → List ℕ → Type 0
Works c i copies scratch = Do (own_test i) i (loses i scratch) copies (replaced c copies i scratch) × AreCoded (replaced c copies i scratch)

-- If the sequence is right for registers, it is for the list that has them.
pub built_by : (c : Class) (i : Instr) (scratch given : List ℕ) (copies : ℕ) (s : Series) → scratch ≡ given → CanBuild c i scratch copies →
    s ≡ record { steps = replaced c copies i given; landing = length (replaced c copies i given) } → (CanBuild c i given copies → Works c i copies given) → IsBuilt c i scratch copies s
built_by c i scratch given copies s e can made works =
    subst (λ (qs : List ℕ). IsBuilt c i qs copies s) (sym e)
    (let w = works (subst (λ (qs : List ℕ). CanBuild c i qs copies) e can) in
    let is : s.steps ≡ replaced c copies i given = ap (λ (t : Series). t.steps) made in
    record {
      steps = made;
      works = subst (λ (ss : List Step). Do (own_test i) i (loses i given) copies ss) (sym is) w.0;
      coded = subst AreCoded (sym is) w.1;
    })

-- WHAT THE REGISTERS GIVE

-- the first one is free, and different from the next
pub first_free : (c : Class) (i : Instr) (scratch given : List ℕ) (q copies : ℕ) → scratch ≡ q ∷ given → CanBuild c i scratch copies → IsFree i q
first_free c i scratch given q copies e can = let there : CanBuild c i (q ∷ given) copies = subst (λ (qs : List ℕ). CanBuild c i qs copies) e can in there.free.0

pub two_differ : (c : Class) (i : Instr) (scratch given : List ℕ) (q r copies : ℕ) → scratch ≡ q ∷ r ∷ given → CanBuild c i scratch copies → q ≢ r
two_differ c i scratch given q r copies e can s =
    let there : CanBuild c i (q ∷ r ∷ given) copies = subst (λ (qs : List ℕ). CanBuild c i qs copies) e can in
    let apart : (r == q) ≡ false = (either (r == q) (is_in given q) there.free.1).0 in
    let same : (r == q) ≡ true = eq-eqb r q (sym s) in
    absurd cc
