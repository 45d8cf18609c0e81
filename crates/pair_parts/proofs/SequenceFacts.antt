-- How often the steps of a unit's sequence stand, and where a call comes back to.
use Rattle.std.proofs.Common.{◌≡◌, ◌≤◌, ℕ, zero, suc, ◌+◌, ◌*◌, Bool, true, false, List, [], ◌∷◌, ◌++◌, length, replicate, refl, sym, ap, ◌∙◌, subst, inl, inr, arith, Option, Some, None}
use Rattle.std.specs.Prelude.{Contains, is_none, ◌&&◌, ⊤}
use Rattle.std.proofs.lemmas.Bool.{both_ways}
use Rattle.std.proofs.lemmas.List.{length-append, length-replicate}
use Rattle.std.proofs.lemmas.List.Elements.{Contains-append_left, Contains-append_right}
use Rattle.elf_model.specs.Objects.{ObjectParts}
use Rattle.elf_model.proofs.Elements.{contains_cases, contains_none, contains_here}
use Rattle.thumb_instr.specs.declared.conditions.Cond.{Cond}
use Rattle.thumb_instr.specs.declared.instructions.Instr.{Instr}
use Rattle.thumb_instr.specs.declared.instructions.Instr.TheVariants as instr
use Rattle.flow_recover.specs.declared.flows.Point.{Point}
use Rattle.seq_core.specs.declared.classes.Class.{Class}
use Rattle.seq_core.specs.declared.classes.Class.TheVariants as class
use Rattle.seq_core.specs.declared.steps.Step.{Step}
use Rattle.seq_core.specs.Series.{Series}
use Rattle.seq_core.specs.Straight.{flagged, written_back}
use Rattle.seq_core.specs.Built.{through_one, through_two, as_steps}
use Rattle.seq_core.specs.Replaced.{base_copied, long_summed, moved_list, popped, stack_stepped, register_called, zero_branched, replaced}
use Rattle.it_expand.specs.Expanded.{guard_of}
use Rattle.branch_layout.specs.Copies.{copies_of}
use Rattle.point_units.specs.Units.{is_call, never_returns, landed, under, left_instr, IsSequenceOf, of_it, of_instr}

-- EACH STEP STANDS AS OFTEN

abbrev pub AllStand : ℕ → List Step → Type 0
AllStand c [] = ⊤
AllStand c (s ∷ ss) = (s.copies ≡ c) × AllStand c ss

as_stand : (c : ℕ) (is : List Instr) → AllStand c (as_steps c is)
as_stand c [] = tt
as_stand c (i ∷ is) = (refl, as_stand c is)

register_stand : (c : ℕ) (i : Instr) (qs : List ℕ) → AllStand c (register_called c i qs)
register_stand c (instr.CallReg i) [] = (refl, (refl, tt))
register_stand c (instr.CallReg i) (q ∷ qs) = (refl, (refl, (refl, tt)))
register_stand c i qs = tt

zero_stand : (c : ℕ) (i : Instr) → AllStand c (zero_branched c i)
zero_stand c (instr.ZeroBranch i) = (refl, (refl, tt))
zero_stand c i = tt

pub replaced_stand : (k : Class) (c : ℕ) (i : Instr) (qs : List ℕ) → AllStand c (replaced k c i qs)
replaced_stand class.Twice c i qs = (refl, tt)
replaced_stand class.Through c i (q ∷ []) = as_stand c (through_one i q)
replaced_stand class.Through c i (a ∷ b ∷ []) = as_stand c (through_two i a b)
replaced_stand class.ThroughFlags c i (q ∷ []) = as_stand c (flagged i q)
replaced_stand class.WriteBack c i (q ∷ []) = as_stand c (written_back i q)
replaced_stand class.BaseCopy c i (q ∷ []) = as_stand c (base_copied i q)
replaced_stand class.LongSum c i (a ∷ b ∷ d ∷ []) = as_stand c (long_summed i a b d)
replaced_stand class.Push c i (q ∷ []) = as_stand c (moved_list i q)
replaced_stand class.Pop c i (q ∷ []) = as_stand c (moved_list i q)
replaced_stand class.PopReturn c i (q ∷ []) = as_stand c (popped i q)
replaced_stand class.SpStep c i (q ∷ []) = as_stand c (stack_stepped i q)
replaced_stand class.MultiBack c i (q ∷ []) = as_stand c (moved_list i q)
replaced_stand class.DirectCall c i qs = (refl, (refl, tt))
replaced_stand class.RegisterCall c i qs = register_stand c i qs
replaced_stand class.RegisterJump c i qs = (refl, tt)
replaced_stand class.ZeroBranch c i qs = zero_stand c i
replaced_stand k c i qs = tt

more_stand : (c : ℕ) (xs ys : List Step) → AllStand c xs → AllStand c ys → AllStand c (xs ++ ys)
more_stand c [] ys one two = two
more_stand c (x ∷ xs) ys one two = (one.0, more_stand c xs ys one.1 two)

landed_stand : (never : Bool) (c : ℕ) (steps : List Step) → AllStand c steps → AllStand c (landed never c steps).steps
landed_stand true c steps all = more_stand c steps _ all (refl, tt)
landed_stand false c steps all = all

under_stand : (g : Option Cond) (c : ℕ) (s : Series) → AllStand c s.steps → AllStand c (under g c s).steps
under_stand None c s all = all
under_stand (Some d) c s all = (refl, all)

pub sequence_stands : (o : ObjectParts) (live : ℕ → Bool) (c : ℕ) (x : Point) (scratch : List ℕ) (s : Series) → IsSequenceOf o live c x scratch s → AllStand c s.steps
sequence_stands o live c x scratch s (of_it none empty is) = subst (λ (z : Series). AllStand c z.steps) (sym is) tt
sequence_stands o live c x scratch s (of_instr body is works coded) =
    subst (λ (z : Series). AllStand c z.steps) (sym is.sequence)
    (under_stand (guard_of x.cond) c (landed (never_returns x) c (replaced is.class c (left_instr o x) scratch))
    (landed_stand (never_returns x) c (replaced is.class c (left_instr o x) scratch) (replaced_stand is.class c (left_instr o x) scratch)))

pub stands_so : (c : ℕ) (steps : List Step) (t : Step) → AllStand c steps → Contains steps t → t.copies ≡ c
stands_so c [] t all h = absurd (contains_none t h)
stands_so c (s ∷ ss) t all h = elim (contains_cases s ss t h) [ inl e ↦ sym (ap (λ (z : Step). z.copies) e) ∙ all.0 | inr r ↦ stands_so c ss t all.1 r ]

-- so many copies
pub few_copies : (c n : ℕ) (steps : List Step) → AllStand c steps → length steps ≤ n → length (copies_of steps) ≤ n * c
few_copies c n [] all few = omega arith
few_copies c zero (s ∷ ss) all few = absurd (omega arith)
few_copies c (suc n) (s ∷ ss) all few =
    let rest = few_copies c n ss all.1 (omega arith) in
    let both : length (copies_of (s ∷ ss)) ≡ length (replicate s.copies s) + length (copies_of ss) = length-append (replicate s.copies s) (copies_of ss) in
    let here : length (replicate s.copies s) ≡ s.copies = length-replicate s.copies s in
    let many = all.0 in
    omega arith

repeated : (n : ℕ) (s : Step) → 1 ≤ n → Contains (replicate n s) s
repeated zero s some = absurd (omega arith)
repeated (suc n) s some = contains_here s (replicate n s)

pub copied : (steps : List Step) (t : Step) → Contains steps t → 1 ≤ t.copies → Contains (copies_of steps) t
copied [] t h some = absurd (contains_none t h)
copied (s ∷ ss) t h some =
    elim (contains_cases s ss t h) [
      | inl e ↦ subst (λ (z : Step). Contains (copies_of (s ∷ ss)) z) e (Contains-append_left (replicate s.copies s) (copies_of ss) s (repeated s.copies s (subst (λ (z : Step). 1 ≤ z.copies) (sym e) some)))
      | inr r ↦ Contains-append_right (replicate s.copies s) (copies_of ss) t (copied ss t r some)
    ]

-- WHERE A CALL COMES BACK TO

no_landing : (g : Option Cond) (never : Bool) (c : ℕ) (steps : List Step) → never ≡ false → (under g c (landed never c steps)).landing ≡ length (under g c (landed never c steps)).steps
no_landing None true c steps e = absurd (both_ways true e refl)
no_landing None false c steps e = refl
no_landing (Some d) true c steps e = absurd (both_ways true e refl)
no_landing (Some d) false c steps e = omega arith

returns : (x : Point) (q : ℕ) → x.next ≡ Some q → never_returns x ≡ false
returns x q e = ap (λ (n : Option ℕ). is_call x.exit && is_none n) e ∙ go (is_call x.exit)
  where
    go : (b : Bool) → (b && false) ≡ false
    go true = refl
    go false = refl

-- a call that a point follows has no landing of its own
pub comes_back_behind : (o : ObjectParts) (live : ℕ → Bool) (c : ℕ) (x : Point) (scratch : List ℕ) (s : Series) → IsSequenceOf o live c x scratch s → (q : ℕ) → x.next ≡ Some q → s.landing ≡ length s.steps
comes_back_behind o live c x scratch s (of_it none empty is) q e = subst (λ (z : Series). z.landing ≡ length z.steps) (sym is) refl
comes_back_behind o live c x scratch s (of_instr body is works coded) q e =
    subst (λ (z : Series). z.landing ≡ length z.steps) (sym is.sequence) (no_landing (guard_of x.cond) (never_returns x) c (replaced is.class c (left_instr o x) scratch) (returns x q e))
