-- How many scratch registers sequences need.
use Rattle.std.proofs.Common.{lit≤, ℕ, ◌≡◌, ◌⊎◌, inl, inr, ◌≤◌, ◌+◌, Bool, true, false, refl, sym, ◌∙◌, ap, arith, ◌==◌, ◌||◌}
use Rattle.std.proofs.lemmas.Bool.Decides.{nat_tests}
use Rattle.std.proofs.lemmas.Bool.{true≢false, cases_eq}
use Rattle.seq_core.proofs.ClassesDecided.{mixes, no_true, nothing_written}
use Rattle.thumb_instr.specs.Fields.{MultiFields}
use Rattle.thumb_instr.specs.declared.instructions.Instr.{Instr}
use Rattle.thumb_instr.specs.declared.instructions.Instr.TheVariants as instr
use Rattle.thumb_instr.specs.Sets.{moves_base, moves_pair_base, reads_of, writes_of}
use Rattle.thumb_instr.specs.Idempotence.{KeepsSources}
use Rattle.seq_core.specs.declared.classes.Class.{Class}
use Rattle.seq_core.specs.declared.classes.Class.TheVariants.{Through, WriteBack, BaseCopy, Push, Pop, PopReturn, MultiBack, RegisterCall}
use Rattle.seq_core.specs.Classes.{IsOf, names, loads_own_base, pushes, pops}
use Rattle.mark_word.specs.Formulas.{one_if}
use Rattle.seq_core.specs.Needs.{calls_link, read_destinations, ThroughNeeds, NeedsFit}

one_at_most : (b : Bool) → one_if b ≤ 1
one_at_most true = lit≤ tt
one_at_most false = lit≤ tt

less_than_two : (b : Bool) → one_if b ≤ 2
less_than_two true = lit≤ tt
less_than_two false = lit≤ tt

two_at_most : (a b : Bool) → one_if a + one_if b ≤ 2
two_at_most a b = let x : one_if a ≤ 1 = one_at_most a in let y : one_if b ≤ 1 = one_at_most b in omega (arith, x, y)

few_destinations : (i : Instr) → read_destinations i ≤ 2
few_destinations (instr.LongMul i) = two_at_most _ _
few_destinations i = first_of (omega arith, search less_than_two)

pub needs_fit : NeedsFit
needs_fit Through i = let x : read_destinations i ≤ 2 = few_destinations i in omega (arith, x)
needs_fit RegisterCall i = let x : one_if (calls_link i) ≤ 1 = one_at_most (calls_link i) in omega (arith, x)
needs_fit c i = lit≤ tt

-- What is read and written is the destination, so that is read.
reads_one : (i : Instr) (d : ℕ) → ((k : ℕ) → mixes i k ≡ true → (k == d) ≡ true) → ¬ KeepsSources i → 1 ≤ one_if (reads_of i d)
reads_one i d only mixed = go (reads_of i d) refl
  where
    other : reads_of i d ≡ false → (k : ℕ) → mixes i k ≡ true → ⊥
    other never k h = let e : (k == d) ≡ true = only k h in let same : k ≡ d = grind (arith, nat_tests) in let none : reads_of i k ≡ false = ap (reads_of i) same ∙ never in grind (arith)

    go : (b : Bool) → reads_of i d ≡ b → 1 ≤ one_if b
    go true e = lit≤ tt
    go false e = absurd (mixed (λ k. no_true (mixes i k) (other e k)))

-- the same of two destinations
reads_either : (i : Instr) (a b : ℕ) → ((k : ℕ) → mixes i k ≡ true → ((k == a) || (k == b)) ≡ true) → ¬ KeepsSources i → 1 ≤ one_if (reads_of i a) + one_if (reads_of i b)
reads_either i a b only mixed = go (reads_of i a) (reads_of i b) refl refl
  where
    other : reads_of i a ≡ false → reads_of i b ≡ false → (k : ℕ) → mixes i k ≡ true → ⊥
    other x y k h = one (cases_eq k a) (cases_eq k b)
      where
        reads : reads_of i k ≡ true
        reads = grind (arith)

        one : (k ≡ a) ⊎ ((k ≡ a) → ⊥) → (k ≡ b) ⊎ ((k ≡ b) → ⊥) → ⊥
        one (inl e) q = true≢false (sym reads ∙ ap (reads_of i) e ∙ x)
        one (inr p) (inl e) = true≢false (sym reads ∙ ap (reads_of i) e ∙ y)
        one (inr p) (inr q) = let e : ((k == a) || (k == b)) ≡ true = only k h in grind (arith, nat_tests)

    go : (x y : Bool) → reads_of i a ≡ x → reads_of i b ≡ y → 1 ≤ one_if x + one_if y
    go true true e f = lit≤ tt
    go true false e f = lit≤ tt
    go false true e f = lit≤ tt
    go false false e f = absurd (mixed (λ k. no_true (mixes i k) (other e f k)))

-- A list of registers that no row names leaves its base where it is.
pub stays : (i : MultiFields) → ((c : Class) → names c (instr.Multi i) ≡ false) → i.back ≡ false
stays i h =
    let no_pc : i.pc ≡ false = h PopReturn in
    let no_push : pushes (instr.Multi i) ≡ false = h Push in
    let no_pop : pops (instr.Multi i) ≡ false = h Pop in
    let no_other : names MultiBack (instr.Multi i) ≡ false = h MultiBack in
    grind (arith, nat_tests)

reads_some : (i : Instr) → IsOf Through i → 1 ≤ read_destinations i
unfolding reads_of writes_of
reads_some (instr.Alu i) h = reads_one (instr.Alu i) i.d (λ k m. grind (arith, nat_tests)) h.0
reads_some (instr.Move i) h = reads_one (instr.Move i) i.d (λ k m. grind (arith, nat_tests)) h.0
reads_some (instr.ShiftBy i) h = reads_one (instr.ShiftBy i) i.d (λ k m. grind (arith, nat_tests)) h.0
reads_some (instr.Wide i) h = reads_one (instr.Wide i) i.d (λ k m. grind (arith, nat_tests)) h.0
reads_some (instr.Field i) h = reads_one (instr.Field i) i.d (λ k m. grind (arith, nat_tests)) h.0
reads_some (instr.Unary i) h = reads_one (instr.Unary i) i.d (λ k m. grind (arith, nat_tests)) h.0
reads_some (instr.Mul i) h = reads_one (instr.Mul i) i.d (λ k m. grind (arith, nat_tests)) h.0
reads_some (instr.MulAcc i) h = reads_one (instr.MulAcc i) i.d (λ k m. grind (arith, nat_tests)) h.0
reads_some (instr.LongMul i) h = reads_either (instr.LongMul i) i.lo i.hi (λ k m. grind (arith, nat_tests)) h.0
reads_some (instr.Div i) h = reads_one (instr.Div i) i.d (λ k m. grind (arith, nat_tests)) h.0
reads_some (instr.Access i) h = let stays : moves_base i.place ≡ false = h.2 WriteBack in reads_one (instr.Access i) i.t (λ k m. grind (arith, nat_tests)) h.0
reads_some (instr.Half i) h = let low : i.top ≡ false = h.1 in absurd (h.0 (λ k. rw low refl))
reads_some (instr.Pair i) h = let stays : moves_pair_base i.index ≡ false = h.2 WriteBack in let far : loads_own_base (instr.Pair i) ≡ false = h.2 BaseCopy in absurd (h.0 (λ k. no_true (mixes (instr.Pair i) k) (λ m. grind (arith, nat_tests))))
reads_some (instr.Multi i) h =
    let still : i.back ≡ false = stays i h.2 in
    let no_pc : i.pc ≡ false = h.2 PopReturn in
    let far : loads_own_base (instr.Multi i) ≡ false = h.2 BaseCopy in
    absurd (h.0 (λ k. no_true (mixes (instr.Multi i) k) (λ m. grind (arith, nat_tests))))
reads_some (instr.CallReg i) h = absurd (true≢false (h.2 RegisterCall))
reads_some (instr.Literal i) h = absurd (h.0 (λ k. refl))
reads_some (instr.Adr i) h = absurd (h.0 (λ k. refl))
reads_some (instr.Call i) h = absurd (h.0 (λ k. refl))
reads_some i h = absurd (h.0 (nothing_written i (λ k. refl)))

pub through_needs : ThroughNeeds
through_needs i h = (reads_some i h, few_destinations i)
