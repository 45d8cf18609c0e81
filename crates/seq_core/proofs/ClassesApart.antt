-- Each instruction but ADR and IT is of one class and no other.
use Rattle.std.proofs.Common.{ℕ, ◌≡◌, ◌⊎◌, inl, inr, Bool, true, false, Option, Some, None, refl, sym, ◌∙◌, arith, ◌&&◌, not}
use Rattle.std.specs.Prelude.{if◌then◌else◌}
use Rattle.std.proofs.lemmas.Bool.Decides.{nat_tests}
use Rattle.std.proofs.lemmas.Bool.{true≢false}
use Rattle.thumb_instr.specs.declared.instructions.Instr.{Instr}
use Rattle.thumb_instr.specs.declared.instructions.Instr.TheVariants as instr
use Rattle.thumb_instr.specs.Sets.{accumulates, moves_base, moves_pair_base, reads_of, writes_of}
use Rattle.thumb_instr.specs.Idempotence.{IsIdempotent, fills_in, is_apart}
use Rattle.seq_core.specs.declared.classes.Class.{Class}
use Rattle.seq_core.specs.declared.classes.Class.TheVariants.{Twice, Through, ThroughFlags, WriteBack, BaseCopy, LongSum, Push, Pop, PopReturn, SpStep, MultiBack, DirectCall, RegisterCall, RegisterJump, ZeroBranch}
use Rattle.seq_core.specs.Classes.{IsOf, names, has_no_class, steps_stack, loads_own_base, pushes, pops}

-- the one class that names an instruction
own : Instr → Option Class
own (instr.Alu i) = if steps_stack (instr.Alu i) then Some SpStep else None
own (instr.Wide i) = if steps_stack (instr.Wide i) then Some SpStep else None
own (instr.Mul i) = if i.s then Some ThroughFlags else None
own (instr.LongMul i) = if accumulates i.op then Some LongSum else None
own (instr.Access i) = if moves_base i.place then Some WriteBack else None
own (instr.Pair i) = if moves_pair_base i.index then Some WriteBack else if loads_own_base (instr.Pair i) then Some BaseCopy else None
own (instr.Multi i) = if i.pc then Some PopReturn else if not i.back then Some BaseCopy else if pushes (instr.Multi i) then Some Push else if pops (instr.Multi i) then Some Pop else Some MultiBack
own (instr.Call i) = Some DirectCall
own (instr.CallReg i) = Some RegisterCall
own (instr.Jump i) = Some RegisterJump
own (instr.ZeroBranch i) = Some ZeroBranch
own i = None

names_own : (c : Class) (i : Instr) → names c i ≡ true → own i ≡ Some c
unfolding own
names_own Twice i h = cc
names_own Through i h = cc
names_own ThroughFlags (instr.Mul i) h = rw h refl
names_own ThroughFlags i h = cc
names_own WriteBack (instr.Access i) h = rw h refl
names_own WriteBack (instr.Pair i) h = rw h refl
names_own WriteBack i h = cc
names_own BaseCopy (instr.Pair i) h = grind (arith, nat_tests)
names_own BaseCopy (instr.Multi i) h = grind (arith, nat_tests)
names_own BaseCopy i h = cc
names_own LongSum (instr.LongMul i) h = rw h refl
names_own LongSum i h = cc
names_own Push (instr.Multi i) h = grind (arith, nat_tests)
names_own Push i h = cc
names_own Pop (instr.Multi i) h = grind (arith, nat_tests)
names_own Pop i h = cc
names_own PopReturn (instr.Multi i) h = rw h refl
names_own PopReturn i h = cc
names_own SpStep (instr.Alu i) h = rw h refl
names_own SpStep (instr.Wide i) h = rw h refl
names_own SpStep i h = cc
names_own MultiBack (instr.Multi i) h = grind (arith, nat_tests)
names_own MultiBack i h = cc
names_own DirectCall (instr.Call i) h = refl
names_own DirectCall i h = cc
names_own RegisterCall (instr.CallReg i) h = refl
names_own RegisterCall i h = cc
names_own RegisterJump (instr.Jump i) h = refl
names_own RegisterJump i h = cc
names_own ZeroBranch (instr.ZeroBranch i) h = refl
names_own ZeroBranch i h = cc

-- Two classes that name one instruction are one.
named_once : (c d : Class) (i : Instr) → names c i ≡ true → names d i ≡ true → c ≡ d
named_once c d i h k = let e : own i ≡ Some c = names_own c i h in let f : own i ≡ Some d = names_own d i k in cc

-- What it writes, it reads.
reads_back : (i : Instr) (k : ℕ) → (reads_of i k && writes_of i k) ≡ true → fills_in i ≡ false → ¬ IsIdempotent i
reads_back i k h none (inl keeps, apart) = true≢false (sym h ∙ keeps k)
reads_back i k h none (inr fills, apart) = true≢false (sym fills ∙ none)

stands_apart : (i : Instr) → is_apart i ≡ true → ¬ IsIdempotent i
stands_apart i h (some, apart) = true≢false (sym h ∙ apart)

-- What a class names may not be executed twice for once.
named_not_twice : (c : Class) (i : Instr) → names c i ≡ true → ¬ IsIdempotent i
unfolding reads_of writes_of
named_not_twice Twice i h = cc
named_not_twice Through i h = cc
named_not_twice ThroughFlags (instr.Mul i) h = stands_apart (instr.Mul i) h
named_not_twice ThroughFlags i h = cc
named_not_twice WriteBack (instr.Access i) h = reads_back (instr.Access i) i.n (grind (arith, nat_tests)) refl
named_not_twice WriteBack (instr.Pair i) h = reads_back (instr.Pair i) i.n (grind (arith, nat_tests)) refl
named_not_twice WriteBack i h = cc
named_not_twice BaseCopy (instr.Pair i) h = reads_back (instr.Pair i) i.n (grind (arith, nat_tests)) refl
named_not_twice BaseCopy (instr.Multi i) h = reads_back (instr.Multi i) i.n (grind (arith, nat_tests)) refl
named_not_twice BaseCopy i h = cc
named_not_twice LongSum (instr.LongMul i) h = reads_back (instr.LongMul i) i.lo (grind (arith, nat_tests)) refl
named_not_twice LongSum i h = cc
named_not_twice Push (instr.Multi i) h = reads_back (instr.Multi i) i.n (grind (arith, nat_tests)) refl
named_not_twice Push i h = cc
named_not_twice Pop (instr.Multi i) h = reads_back (instr.Multi i) i.n (grind (arith, nat_tests)) refl
named_not_twice Pop i h = cc
named_not_twice PopReturn (instr.Multi i) h = stands_apart (instr.Multi i) h
named_not_twice PopReturn i h = cc
named_not_twice SpStep (instr.Alu i) h = reads_back (instr.Alu i) 13 (grind (arith, nat_tests)) refl
named_not_twice SpStep (instr.Wide i) h = reads_back (instr.Wide i) 13 (grind (arith, nat_tests)) refl
named_not_twice SpStep i h = cc
named_not_twice MultiBack (instr.Multi i) h = reads_back (instr.Multi i) i.n (grind (arith, nat_tests)) refl
named_not_twice MultiBack i h = cc
named_not_twice DirectCall (instr.Call i) h = stands_apart (instr.Call i) refl
named_not_twice DirectCall i h = cc
named_not_twice RegisterCall (instr.CallReg i) h = stands_apart (instr.CallReg i) refl
named_not_twice RegisterCall i h = cc
named_not_twice RegisterJump (instr.Jump i) h = stands_apart (instr.Jump i) refl
named_not_twice RegisterJump i h = cc
named_not_twice ZeroBranch (instr.ZeroBranch i) h = stands_apart (instr.ZeroBranch i) refl
named_not_twice ZeroBranch i h = cc

-- Each class is one of three kinds.
abbrev Named : Class → Instr → Type 0
Named c i = names c i ≡ true

abbrev Copied : Class → Instr → Type 0
Copied c i = (c ≡ Twice) × IsIdempotent i

abbrev Moved : Class → Instr → Type 0
Moved c i = (c ≡ Through) × IsOf Through i

kind : (c : Class) (i : Instr) → IsOf c i → Named c i ⊎ (Copied c i ⊎ Moved c i)
kind Twice i h = inr (inl (refl, h))
kind Through i h = inr (inr (refl, h))
kind c i h = inl h

pub named_is : (c : Class) (i : Instr) → names c i ≡ true → IsOf c i
named_is Twice i h = cc
named_is Through i h = cc
named_is c i h = h

-- What goes through scratch registers may not be executed twice for once.
moved_not_twice : (i : Instr) → IsOf Through i → ¬ IsIdempotent i
moved_not_twice i (mixed, none, unnamed) (inl keeps, apart) = mixed keeps
moved_not_twice i (mixed, none, unnamed) (inr fills, apart) = true≢false (sym fills ∙ none)

same_kind : (c d : Class) (i : Instr) → Named c i ⊎ (Copied c i ⊎ Moved c i) → Named d i ⊎ (Copied d i ⊎ Moved d i) → c ≡ d
same_kind c d i (inl h) (inl k) = named_once c d i h k
same_kind c d i (inl h) (inr (inl (e, k))) = absurd (named_not_twice c i h k)
same_kind c d i (inl h) (inr (inr (e, k))) = absurd (true≢false (sym h ∙ k.2 c))
same_kind c d i (inr (inl (e, h))) (inl k) = absurd (named_not_twice d i k h)
same_kind c d i (inr (inl (e, h))) (inr (inl (f, k))) = e ∙ sym f
same_kind c d i (inr (inl (e, h))) (inr (inr (f, k))) = absurd (moved_not_twice i k h)
same_kind c d i (inr (inr (e, h))) (inl k) = absurd (true≢false (sym k ∙ h.2 d))
same_kind c d i (inr (inr (e, h))) (inr (inl (f, k))) = absurd (moved_not_twice i h k)
same_kind c d i (inr (inr (e, h))) (inr (inr (f, k))) = e ∙ sym f

-- An instruction is of one class at most.
pub one_class : (c d : Class) (i : Instr) → IsOf c i → IsOf d i → c ≡ d
one_class c d i h k = same_kind c d i (kind c i h) (kind d i k)

-- What no class names and has a class is not replaced in a way of its own.
pub unnamed_together : (i : Instr) → ((c : Class) → names c i ≡ false) → has_no_class i ≡ false → is_apart i ≡ false
unnamed_together (instr.Mul i) h k = h ThroughFlags
unnamed_together (instr.Multi i) h k = h PopReturn
unnamed_together (instr.Call i) h k = absurd (true≢false (h DirectCall))
unnamed_together (instr.CallReg i) h k = absurd (true≢false (h RegisterCall))
unnamed_together (instr.Jump i) h k = absurd (true≢false (h RegisterJump))
unnamed_together (instr.ZeroBranch i) h k = absurd (true≢false (h ZeroBranch))
unnamed_together (instr.Adr i) h k = absurd (true≢false k)
unnamed_together (instr.It i) h k = absurd (true≢false k)
unnamed_together i h k = refl

-- What no class names and may not be executed twice for once goes through scratch registers.
pub others_move : (i : Instr) → ((c : Class) → names c i ≡ false) → has_no_class i ≡ false → ¬ IsIdempotent i → IsOf Through i
others_move i h k not_twice = (λ keeps. not_twice (inl keeps, unnamed_together i h k), no_fills (fills_in i) refl, h)
  where
    no_fills : (b : Bool) → fills_in i ≡ b → fills_in i ≡ false
    no_fills true e = absurd (not_twice (inr e, unnamed_together i h k))
    no_fills false e = e

no_kind : (c : Class) (i : Instr) → has_no_class i ≡ true → Named c i ⊎ (Copied c i ⊎ Moved c i) → ⊥
unfolding own reads_of
no_kind c (instr.Adr i) h (inl k) = let e : own (instr.Adr i) ≡ Some c = names_own c (instr.Adr i) k in cc
no_kind c (instr.Adr i) h (inr (inl (e, k))) = stands_apart (instr.Adr i) refl k
no_kind c (instr.Adr i) h (inr (inr (e, k))) = k.0 (λ j. refl)
no_kind c (instr.It i) h (inl k) = let e : own (instr.It i) ≡ Some c = names_own c (instr.It i) k in cc
no_kind c (instr.It i) h (inr (inl (e, k))) = stands_apart (instr.It i) refl k
no_kind c (instr.It i) h (inr (inr (e, k))) = k.0 (λ j. refl)
no_kind c i h k = cc

-- ADR and IT are of no class.
pub no_class : (c : Class) (i : Instr) → has_no_class i ≡ true → ¬ IsOf c i
no_class c i h k = no_kind c i h (kind c i k)
