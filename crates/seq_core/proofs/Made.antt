-- Sequences of plain steps, and the registers of a list from one on.
use Rattle.std.proofs.Common.{◌≡◌, ℕ, zero, suc, ◌+◌, ◌-◌, ◌<◌, ◌≤◌, true, false, List, [], ◌∷◌, ◌++◌, length, take, get_or, filter, Option, Some, None, is_some, arith, refl, sym, ap, ◌∙◌}
use Rattle.std.proofs.lemmas.List.{map-append, length-map, take_more, take_all}
use Rattle.thumb_instr.specs.declared.instructions.Instr.{Instr}
use Rattle.thumb_instr.specs.Operands.{has}
use Rattle.thumb_table.specs.Effects.{registers}
use Rattle.seq_core.specs.declared.steps.Step.{Step}
use Rattle.seq_core.specs.declared.steps.Goal.TheVariants.{Nowhere}
use Rattle.seq_core.specs.Built.{as_steps}
use Rattle.seq_core.specs.Series.{Series}
use Rattle.seq_core.specs.Lists.{sole}

pub steps_more : (copies : ℕ) (is : List Instr) (k : ℕ) (d : Instr) → k < length is → as_steps copies (take (k + 1) is) ≡ as_steps copies (take k is) ++ record { instr = get_or is k d; goal = Nowhere; copies = copies } ∷ []
steps_more copies is k d lt = ap (as_steps copies) (take_more is k d lt) ∙ map-append (λ i. record { instr = i; goal = Nowhere; copies = copies }) (take k is) (get_or is k d ∷ [])

pub length_steps : (copies : ℕ) (is : List Instr) → length (as_steps copies is) ≡ length is
length_steps copies is = length-map is (λ i. record { instr = i; goal = Nowhere; copies = copies })

pub steps_all : (copies : ℕ) (is : List Instr) (k : ℕ) → length is ≤ k → as_steps copies (take k is) ≡ as_steps copies is
steps_all copies is k le = ap (as_steps copies) (take_all k is le)

pub series_is : (s : Series) (steps : List Step) (landing : ℕ) → s.steps ≡ steps → s.landing ≡ landing → s ≡ record { steps = steps; landing = landing }
series_is s steps landing e f =
    let made : List Step → ℕ → Series = λ a n. record { steps = a; landing = n } in
    ap (λ a. made a s.landing) e ∙ ap (λ n. made steps n) f

up_from : ℕ → ℕ → List ℕ
up_from k zero = []
up_from k (suc n) = k ∷ up_from (k + 1) n

pub rest : ℕ → ℕ → List ℕ
rest list k = filter (λ r. has list r) (up_from k (15 - k))

pub rest_first : (list : ℕ) → rest list 0 ≡ registers list
unfolding rest up_from registers
rest_first list = refl

pub rest_last : (list k : ℕ) → 15 ≤ k → rest list k ≡ []
unfolding rest up_from
rest_last list k le = let e : 15 - k ≡ 0 = omega arith in rw e refl

pub rest_has : (list k : ℕ) → k < 15 → has list k ≡ true → rest list k ≡ k ∷ rest list (k + 1)
unfolding rest up_from
rest_has list k lt h = let e : 15 - k ≡ suc (15 - (k + 1)) = omega arith in rw (e, h) refl

pub rest_lacks : (list k : ℕ) → k < 15 → has list k ≡ false → rest list k ≡ rest list (k + 1)
unfolding rest up_from
rest_lacks list k lt h = let e : 15 - k ≡ suc (15 - (k + 1)) = omega arith in rw (e, h) refl

-- what was found of them
abbrev pub held : Option ℕ → List ℕ
held None = []
held (Some r) = r ∷ []

pub second_found : (o : Option ℕ) (k : ℕ) (l rs : List ℕ) → l ≡ held o ++ (k ∷ rs) → is_some o ≡ true → None ≡ sole l
second_found None k l rs e h = absurd cc
second_found (Some r) k l rs e h = sym (ap sole e)

pub first_found : (o : Option ℕ) (k : ℕ) (l rs : List ℕ) → l ≡ held o ++ (k ∷ rs) → is_some o ≡ false → l ≡ held (Some k) ++ rs
first_found None k l rs e h = e
first_found (Some r) k l rs e h = absurd cc

pub all_found : (o : Option ℕ) (l : List ℕ) → l ≡ held o ++ [] → o ≡ sole l
all_found None l e = sym (ap sole e)
all_found (Some r) l e = sym (ap sole e)
