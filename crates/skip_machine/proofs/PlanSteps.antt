-- Plans step by step.
use Rattle.std.proofs.Common.{◌≡◌, ◌≢◌, ◌<◌, ◌≤◌, ◌^◌, ◌==◌, ℕ, Bool, Option, Some, None, IsTrue, List, [], ◌∷◌, ◌++◌, length, map, get_or, refl, sym, ap, ◌∙◌, subst, arith}
use Rattle.std.specs.Prelude.{MatchOption, is_some}
use Rattle.std.specs.Fmt.{decimal}
use Rattle.std.specs.List.{join_with_byte}
use Rattle.std.proofs.lemmas.Bool.{false≢true}
use Rattle.std.proofs.lemmas.Fmt.{decimal_injective, decimal_nonempty}
use Rattle.std.proofs.lemmas.List.{length-append}
use Rattle.std.proofs.lemmas.List.Elements.{All-nil, All-head}
use Rattle.std.proofs.lemmas.List.Splits.{slice_split_at, slice_split_none}
use Rattle.skip_machine.specs.declared.plan_texts.Pace.{Pace}
use Rattle.skip_machine.specs.Plans.{IsPlanText, parts_of}
use Rattle.skip_machine.specs.Paces.{behind, IsNext}
use Rattle.skip_machine.proofs.Paces.{ArePaced, at_first, small_of, legal_of, paced_from_legal}
use Rattle.skip_machine.proofs.PlanTexts.{without_comma, joined, plan_is_numbers, only_numbers}

-- a text of steps that may come one behind the other
pub record ArePlanned (c : ℕ) (p : Pace) (text : List ℕ) : Type 0 where
  pub steps : List ℕ
  pub parts : parts_of text ≡ map decimal steps
  pub paced : ArePaced c p steps

abbrev Lacks : List ℕ → Type 0
Lacks bs = (i : ℕ) → i < length bs → get_or bs i 0 ≢ 44

cut_parts : (rest part later : List ℕ) → rest ≡ part ++ 44 ∷ later → Lacks part → parts_of rest ≡ part ∷ parts_of later
cut_parts rest part later cut lacks = ap parts_of cut ∙ slice_split_at (λ b. b == 44) part 44 later (without_comma part lacks) refl

one_part : (rest : List ℕ) → Lacks rest → parts_of rest ≡ rest ∷ []
one_part rest lacks = slice_split_none (λ b. b == 44) rest (without_comma rest lacks)

-- what a text begins with that has a comma
pub record Begun (c : ℕ) (p : Pace) (part later : List ℕ) : Type 0 where
  pub first : ℕ
  pub next : IsNext c p part first
  pub more : ArePlanned c (behind p first) later

begins : (c : ℕ) (p : Pace) (rest part later : List ℕ) → rest ≡ part ++ 44 ∷ later → Lacks part → ArePlanned c p rest → Begun c p part later
begins c p rest part later cut lacks planned = go planned.steps (sym (cut_parts rest part later cut lacks) ∙ planned.parts) planned.paced
  where
    go : (s : List ℕ) → part ∷ parts_of later ≡ map decimal s → ArePaced c p s → Begun c p part later
    go [] e paced = absurd (cc)
    go (n ∷ s) e paced = record {
      first = n;
      next = record { is = cc; small = paced.1; late = paced.0; few = paced.2 };
      more = record { steps = s; parts = cc; paced = paced.3 };
    }

-- a step, and a comma behind it
pub step_on : (c : ℕ) (p : Pace) (rest part later : List ℕ) (n : ℕ) → rest ≡ part ++ 44 ∷ later → Lacks part → IsNext c p part n → ArePlanned c p rest → ArePlanned c (behind p n) later
step_on c p rest part later n cut lacks step planned =
    let b = begins c p rest part later cut lacks planned in
    let small = b.next.small in
    let below = step.small in
    let same : b.first ≡ n = decimal_injective b.first n (omega arith) (omega arith) (sym b.next.is ∙ step.is) in
    subst (λ k. ArePlanned c (behind p k) later) same b.more

pub step_back : (c : ℕ) (p : Pace) (rest part later : List ℕ) (n : ℕ) → rest ≡ part ++ 44 ∷ later → Lacks part → IsNext c p part n → ArePlanned c (behind p n) later → ArePlanned c p rest
step_back c p rest part later n cut lacks step planned = record {
  steps = n ∷ planned.steps;
  parts = cut_parts rest part later cut lacks ∙ ap (λ b. b ∷ parts_of later) step.is ∙ ap (λ ps. decimal n ∷ ps) planned.parts;
  paced = (step.late, step.small, step.few, planned.paced);
}

-- a part that is no step
pub no_step : (c : ℕ) (p : Pace) (rest part later : List ℕ) → rest ≡ part ++ 44 ∷ later → Lacks part → ((n : ℕ) → IsNext c p part n → ⊥) → ArePlanned c p rest → ⊥
no_step c p rest part later cut lacks none planned = let b = begins c p rest part later cut lacks planned in none b.first b.next

-- the last part
last_step : (c : ℕ) (p : Pace) (rest : List ℕ) → Lacks rest → ArePlanned c p rest → (n : ℕ) × IsNext c p rest n
last_step c p rest lacks planned = go planned.steps (sym (one_part rest lacks) ∙ planned.parts) planned.paced
  where
    go : (s : List ℕ) → rest ∷ [] ≡ map decimal s → ArePaced c p s → (n : ℕ) × IsNext c p rest n
    go [] e paced = absurd (cc)
    go (n ∷ []) e paced = (n, record { is = cc; small = paced.1; late = paced.0; few = paced.2 })
    go (n ∷ m ∷ s) e paced = absurd (cc)

only_step : (c : ℕ) (p : Pace) (rest : List ℕ) (n : ℕ) → Lacks rest → IsNext c p rest n → ArePlanned c p rest
only_step c p rest n lacks step = record {
  steps = n ∷ [];
  parts = one_part rest lacks ∙ ap (λ b. b ∷ []) step.is;
  paced = (step.late, step.small, step.few, tt);
}

-- a test of the last part
pub last_test : (c : ℕ) (p : Pace) (rest : List ℕ) → Lacks rest → (r : Option ℕ) → MatchOption r ((n : ℕ) → IsNext c p rest n → ⊥) (IsNext c p rest) → (t : Bool) → t ≡ is_some r →
    (IsTrue t → ArePlanned c p rest) × (ArePlanned c p rest → IsTrue t)
last_test c p rest lacks None none t e =
    (λ h. absurd (false≢true (sym e ∙ h)), λ planned. let last = last_step c p rest lacks planned in absurd (none last.0 last.1))
last_test c p rest lacks (Some n) step t e = (λ h. only_step c p rest n lacks step, λ planned. e)

-- A text that is not empty is a plan just where it is such steps.
pub plan_of : (c : ℕ) → 2 ≤ c → (text : List ℕ) → ArePlanned c at_first text → (steps : List ℕ) × IsPlanText c text steps
plan_of c two text planned =
    let small = small_of c at_first planned.steps planned.paced in
    (planned.steps, record { reads = joined text planned.steps (record { parts = planned.parts; small = small }); small = small; legal = legal_of c two at_first planned.steps planned.paced })

pub planned_of : (c : ℕ) → 2 ≤ c → (text : List ℕ) → 0 < length text → (steps : List ℕ) → IsPlanText c text steps → ArePlanned c at_first text
planned_of c two text some steps plan =
    let numbers = plan_is_numbers c text steps some plan in
    record { steps = steps; parts = numbers.parts; paced = paced_from_legal c two steps plan.small plan.legal }

-- the empty text is the empty plan
pub empty_plan : (c : ℕ) → 2 ≤ c → IsPlanText c [] []
empty_plan c two = record { reads = refl; small = All-nil (λ n. n < 2 ^ 63); legal = legal_of c two at_first [] tt }

-- The empty text is no other plan.
pub only_empty : (c : ℕ) (steps : List ℕ) → IsPlanText c [] steps → steps ≡ []
only_empty c [] plan = refl
only_empty c (n ∷ []) plan =
    let small = All-head (λ n. n < 2 ^ 63) n [] plan.small in
    absurd (omega (arith, ap length plan.reads, decimal_nonempty n (omega arith)))
only_empty c (n ∷ m ∷ s) plan =
    let e = ap length plan.reads in
    let sum = length-append (decimal n) (44 ∷ join_with_byte 44 (map decimal (m ∷ s))) in
    absurd (omega arith)

-- A text is one plan at most.
pub same_plan : (c : ℕ) (text s t : List ℕ) → IsPlanText c text s → IsPlanText c text t → s ≡ t
same_plan c [] s t h k = only_empty c s h ∙ sym (only_empty c t k)
same_plan c (b ∷ text) s t h k =
    only_numbers (b ∷ text) s t (plan_is_numbers c (b ∷ text) s (omega arith) h) (plan_is_numbers c (b ∷ text) t (omega arith) k)
