-- How many copies the units of generated functions have.
use Rattle.std.proofs.Common.{lit≤, ◌≡◌, ◌≤◌, ◌<◌, ℕ, Bool, true, false, List, [], ◌∷◌, length, refl, ap, ◌∙◌, arith, Option, Some, None}
use Rattle.std.specs.Prelude.{◌&&◌, is_none}
use Rattle.elf_model.specs.declared.objects.Reloc.{Reloc}
use Rattle.elf_model.specs.Objects.{ObjectParts}
use Rattle.thumb_instr.specs.declared.conditions.Cond.{Cond}
use Rattle.thumb_instr.specs.declared.conditions.Cond.TheVariants.{Al}
use Rattle.thumb_instr.specs.declared.instructions.Instr.{Instr}
use Rattle.thumb_instr.specs.Operands.{has}
use Rattle.flow_recover.specs.declared.flows.Point.{Point}
use Rattle.flow_recover.specs.declared.flows.Exit.{Exit}
use Rattle.flow_recover.specs.WholeFlows.{plain_exit}
use Rattle.hardened_form.specs.Code.{reloc_of}
use Rattle.seq_core.specs.declared.classes.Class.{Class}
use Rattle.seq_core.specs.declared.classes.Class.TheVariants.{Push, PopReturn, DirectCall}
use Rattle.seq_core.specs.Classes.{IsOf}
use Rattle.seq_core.specs.Replaced.{replaced}
use Rattle.seq_core.specs.Series.{Series}
use Rattle.seq_core.proofs.ClassesApart.{one_class}
use Rattle.it_expand.specs.Expanded.{guard_of}
use Rattle.branch_layout.specs.Copies.{copies_of}
use Rattle.point_units.specs.Units.{is_call, never_returns, landed, under, left_by, left_instr, IsSequenceOf, of_it, of_instr}
use Rattle.gen_flow.specs.GeneratedCode.{pushes, returns, calls}
use Rattle.gen_hardened.proofs.KnownInstrs.{worked_at, each_of_eight}
use Rattle.gen_hardened.proofs.InstrClasses.{worked_class, worked_of}

abbrev many : Series → ℕ
many s = length (copies_of s.steps)

-- the sequence of an instruction under no condition, with nothing behind it or something
abbrev sequence_by : Class → Instr → Bool → List ℕ → Series
sequence_by c i alone qs = landed (is_call (plain_exit i) && alone) 2 (replaced c 2 i qs)

-- so many copies at most, where each step stands twice, whatever the scratch registers are
abbrev Few : Class → Instr → ℕ → Type 0
Few c i n = (alone : Bool) (qs : List ℕ) → many (sequence_by c i alone qs) ≤ n

-- Its sequence has no more, and no relocation changes it.
pub record IsShort (i : Instr) (n : ℕ) : Type 0 where
  pub class : Class
  pub of : IsOf class i
  pub few : Few class i n
  pub kept : (o : ObjectParts) (r : Option Reloc) → left_by o r i ≡ i

by_scratch : (P : List ℕ → Type 0) → P [] → ((q : ℕ) → P (q ∷ [])) → ((a b : ℕ) → P (a ∷ b ∷ [])) → ((a b c : ℕ) (qs : List ℕ) → P (a ∷ b ∷ c ∷ qs)) → (qs : List ℕ) → P qs
by_scratch P none one two more [] = none
by_scratch P none one two more (q ∷ []) = one q
by_scratch P none one two more (a ∷ b ∷ []) = two a b
by_scratch P none one two more (a ∷ b ∷ c ∷ qs) = more a b c qs

by_reloc : (P : Option Reloc → Type 0) → P None → ((r : Reloc) → P (Some r)) → (r : Option Reloc) → P r
by_reloc P none some None = none
by_reloc P none some (Some r) = some r

worked_few : (n : ℕ) → n < 8 → Few (worked_class n) (worked_at n) 4
worked_few =
    each_of_eight (λ n. Few (worked_class n) (worked_at n) 4)
    (λ alone. by_scratch _ (lit≤ tt) (λ q. lit≤ tt) (λ a b. lit≤ tt) (λ a b c qs. lit≤ tt))
    (λ alone. by_scratch _ (lit≤ tt) (λ q. lit≤ tt) (λ a b. lit≤ tt) (λ a b c qs. lit≤ tt))
    (λ alone. by_scratch _ (lit≤ tt) (λ q. lit≤ tt) (λ a b. lit≤ tt) (λ a b c qs. lit≤ tt))
    (λ alone. by_scratch _ (lit≤ tt) (λ q. lit≤ tt) (λ a b. lit≤ tt) (λ a b c qs. lit≤ tt))
    (λ alone. by_scratch _ (lit≤ tt) (λ q. lit≤ tt) (λ a b. lit≤ tt) (λ a b c qs. lit≤ tt))
    (λ alone. by_scratch _ (lit≤ tt) (λ q. lit≤ tt) (λ a b. lit≤ tt) (λ a b c qs. lit≤ tt))
    (λ alone. by_scratch _ (lit≤ tt) (λ q. lit≤ tt) (λ a b. lit≤ tt) (λ a b c qs. lit≤ tt))
    (λ alone. by_scratch _ (lit≤ tt) (λ q. lit≤ tt) (λ a b. lit≤ tt) (λ a b c qs. lit≤ tt))

worked_kept : (o : ObjectParts) (n : ℕ) → n < 8 → (r : Option Reloc) → left_by o r (worked_at n) ≡ worked_at n
worked_kept o n low = by_reloc _ refl (λ r. each_of_eight (λ n. left_by o (Some r) (worked_at n) ≡ worked_at n) refl refl refl refl refl refl refl refl n low)

pub worked_short : (n : ℕ) → n < 8 → IsShort (worked_at n) 4
worked_short n low = record { class = worked_class n; of = worked_of n low; few = worked_few n low; kept = λ o. worked_kept o n low }

pub push_short : IsShort pushes 6
unfolding has
push_short = record {
  class = Push;
  of = refl;
  few = λ alone. by_scratch _ (lit≤ tt) (λ q. lit≤ tt) (λ a b. lit≤ tt) (λ a b c qs. lit≤ tt);
  kept = λ o. by_reloc _ refl (λ r. refl);
}

pub return_short : IsShort returns 8
unfolding has
return_short = record {
  class = PopReturn;
  of = refl;
  few = λ alone. by_scratch _ (lit≤ tt) (λ q. lit≤ tt) (λ a b. lit≤ tt) (λ a b c qs. lit≤ tt);
  kept = λ o. by_reloc _ refl (λ r. refl);
}

call_few : Few DirectCall calls 6
call_few true qs = lit≤ tt
call_few false qs = lit≤ tt

pub call_short : IsShort calls 6
call_short = record { class = DirectCall; of = refl; few = call_few; kept = λ o. by_reloc _ refl (λ r. refl) }

module _ (o : ObjectParts) (live : ℕ → Bool) (x : Point) (scratch : List ℕ) (n : ℕ) (cond : x.cond ≡ Al) (exit : x.exit ≡ plain_exit x.instr) (short : IsShort x.instr n) where
  pub few_of : (s : Series) → IsSequenceOf o live 2 x scratch s → many s ≤ n
  few_of s (of_it body none empty) = let zero_copies : many s ≡ 0 = ap many empty in omega arith
  few_of s (of_instr body is works coded) =
      let same : is.class ≡ short.class = one_class is.class short.class x.instr is.of short.of in
      let left : left_instr o x ≡ x.instr = short.kept o (reloc_of o x.reloc) in
      let made : s ≡ sequence_by short.class x.instr (is_none x.next) scratch =
      is.sequence
      ∙ ap (λ (c : Cond). under (guard_of c) 2 (landed (never_returns x) 2 (replaced is.class 2 (left_instr o x) scratch))) cond
      ∙ ap (λ (e : Exit). landed (is_call e && is_none x.next) 2 (replaced is.class 2 (left_instr o x) scratch)) exit
      ∙ ap (λ (i : Instr). landed (is_call (plain_exit x.instr) && is_none x.next) 2 (replaced is.class 2 i scratch)) left
      ∙ ap (λ (c : Class). landed (is_call (plain_exit x.instr) && is_none x.next) 2 (replaced c 2 x.instr scratch)) same in
      let few = short.few (is_none x.next) scratch in
      let count : many s ≡ many (sequence_by short.class x.instr (is_none x.next) scratch) = ap many made in
      omega arith
