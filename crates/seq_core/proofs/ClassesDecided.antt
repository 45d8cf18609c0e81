-- Whether an instruction reads a register that it writes, by the registers that it may do so with.
use Rattle.std.proofs.Common.{ℕ, ◌≡◌, ◌⊎◌, inl, inr, Bool, true, false, refl, sym, ◌∙◌, ap, arith, ◌==◌, ◌&&◌, ◌||◌}
use Rattle.std.proofs.lemmas.Bool.Decides.{nat_tests}
use Rattle.std.proofs.lemmas.Bool.{true≢false, cases_eq}
use Rattle.thumb_instr.specs.declared.instructions.Instr.{Instr}
use Rattle.thumb_instr.specs.declared.instructions.Instr.TheVariants as instr
use Rattle.thumb_instr.specs.Sets.{reads_of, writes_of}
use Rattle.thumb_instr.specs.Idempotence.{KeepsSources}

abbrev pub mixes : Instr → ℕ → Bool
mixes i k = reads_of i k && writes_of i k

abbrev pub Decided : Instr → Type 0
Decided i = KeepsSources i ⊎ (¬ KeepsSources i)

pub no_true : (b : Bool) → (b ≡ true → ⊥) → b ≡ false
no_true true h = absurd (h refl)
no_true false h = refl

mixed : (i : Instr) (k : ℕ) → mixes i k ≡ true → ¬ KeepsSources i
mixed i k h keeps = true≢false (sym h ∙ keeps k)

-- It reads and writes no other than these three.
abbrev Among : Instr → ℕ → ℕ → ℕ → Type 0
Among i a b c = (k : ℕ) → mixes i k ≡ true → ((k == a) || ((k == b) || (k == c))) ≡ true

apart : (i : Instr) (a b c : ℕ) → Among i a b c → mixes i a ≡ false → mixes i b ≡ false → mixes i c ≡ false → KeepsSources i
apart i a b c among x y z k = no_true (mixes i k) (λ h. one (cases_eq k a) (cases_eq k b) (cases_eq k c) h (among k h))
  where
    none : (d : ℕ) → mixes i d ≡ false → k ≡ d → mixes i k ≡ true → ⊥
    none d never e h = true≢false (sym h ∙ ap (mixes i) e ∙ never)

    one : (k ≡ a) ⊎ ((k ≡ a) → ⊥) → (k ≡ b) ⊎ ((k ≡ b) → ⊥) → (k ≡ c) ⊎ ((k ≡ c) → ⊥) → mixes i k ≡ true → ((k == a) || ((k == b) || (k == c))) ≡ true → ⊥
    one (inl e) q r h t = none a x e h
    one (inr p) (inl e) r h t = none b y e h
    one (inr p) (inr q) (inl e) h t = none c z e h
    one (inr p) (inr q) (inr r) h t = grind (arith, nat_tests)

by_three : (i : Instr) (a b c : ℕ) → Among i a b c → Decided i
by_three i a b c among = go (mixes i a) (mixes i b) (mixes i c) refl refl refl
  where
    go : (x y z : Bool) → mixes i a ≡ x → mixes i b ≡ y → mixes i c ≡ z → Decided i
    go true y z e f g = inr (mixed i a e)
    go false true z e f g = inr (mixed i b f)
    go false false true e f g = inr (mixed i c g)
    go false false false e f g = inl (apart i a b c among e f g)

by_one : (i : Instr) (d : ℕ) → ((k : ℕ) → mixes i k ≡ true → (k == d) ≡ true) → Decided i
by_one i d among = by_three i d d d (λ k h. let e : (k == d) ≡ true = among k h in rw e refl)

pub nothing_written : (i : Instr) → ((k : ℕ) → writes_of i k ≡ false) → KeepsSources i
nothing_written i none k = let e : writes_of i k ≡ false = none k in grind arith

pub decided : (i : Instr) → Decided i
unfolding reads_of writes_of
decided (instr.Alu i) = by_one (instr.Alu i) i.d (λ k h. grind (arith, nat_tests))
decided (instr.Move i) = by_one (instr.Move i) i.d (λ k h. grind (arith, nat_tests))
decided (instr.ShiftBy i) = by_one (instr.ShiftBy i) i.d (λ k h. grind (arith, nat_tests))
decided (instr.Wide i) = by_one (instr.Wide i) i.d (λ k h. grind (arith, nat_tests))
decided (instr.Half i) = by_one (instr.Half i) i.d (λ k h. grind (arith, nat_tests))
decided (instr.Field i) = by_one (instr.Field i) i.d (λ k h. grind (arith, nat_tests))
decided (instr.Unary i) = by_one (instr.Unary i) i.d (λ k h. grind (arith, nat_tests))
decided (instr.Mul i) = by_one (instr.Mul i) i.d (λ k h. grind (arith, nat_tests))
decided (instr.MulAcc i) = by_one (instr.MulAcc i) i.d (λ k h. grind (arith, nat_tests))
decided (instr.LongMul i) = by_three (instr.LongMul i) i.lo i.hi i.hi (λ k h. grind (arith, nat_tests))
decided (instr.Div i) = by_one (instr.Div i) i.d (λ k h. grind (arith, nat_tests))
decided (instr.Access i) = by_three (instr.Access i) i.t i.n i.n (λ k h. grind (arith, nat_tests))
decided (instr.Pair i) = by_three (instr.Pair i) i.t i.u i.n (λ k h. grind (arith, nat_tests))
decided (instr.Multi i) = by_one (instr.Multi i) i.n (λ k h. grind (arith, nat_tests))
decided (instr.CallReg i) = by_one (instr.CallReg i) 14 (λ k h. grind (arith, nat_tests))
decided (instr.Literal i) = inl (λ k. refl)
decided (instr.Adr i) = inl (λ k. refl)
decided (instr.Call i) = inl (λ k. refl)
decided i = inl (nothing_written i (λ k. refl))
