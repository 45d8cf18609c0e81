-- Steps that come one behind the other are those of a legal schedule.
use Rattle.std.proofs.Common.{◌≡◌, ◌<◌, ◌≤◌, ◌+◌, ◌-◌, ◌^◌, ◌==◌, ◌⊎◌, inl, inr, ℕ, zero, suc, Bool, true, false, if◌then◌else◌, List, [], ◌∷◌, length, get_or, refl, subst, arith}
use Rattle.std.specs.Prelude.{All}
use Rattle.std.proofs.lemmas.Bool.{eqb-true, eq-eqb}
use Rattle.std.proofs.lemmas.List.Elements.{All-nil, All-cons, All-head, All-tail}
use Rattle.thumb_table.specs.Schedules.{IsLegal}
use Rattle.skip_machine.specs.declared.plan_texts.Pace.{Pace}
use Rattle.skip_machine.specs.Plans.{Spares}
use Rattle.skip_machine.specs.Paces.{run_with, behind}
use Rattle.skip_machine.proofs.Schedules.{apart, crowded, spare}

-- steps that may come one behind the other, for c copies
abbrev pub ArePaced : ℕ → Pace → List ℕ → Type 0
ArePaced c p [] = Unit {0}
ArePaced c p (n ∷ s) = (p.least ≤ n) × (n < 2 ^ 63) × (run_with p n < c) × ArePaced c (behind p n) s

-- before the first step
abbrev pub at_first : Pace
at_first = record { least = 0; run = 0 }

run_cases : (p : Pace) (n : ℕ) → ((n ≡ p.least) × (run_with p n ≡ p.run + 1)) ⊎ (run_with p n ≡ 1)
run_cases p n = go (n == p.least) refl
  where
    go : (b : Bool) → (n == p.least) ≡ b → ((n ≡ p.least) × ((if b then p.run + 1 else 1) ≡ p.run + 1)) ⊎ ((if b then p.run + 1 else 1) ≡ 1)
    go true e = inl (eqb-true n p.least e, refl)
    go false e = inr refl

run_some : (p : Pace) (n : ℕ) → 1 ≤ run_with p n
run_some p n = elim (run_cases p n) [ inl same ↦ omega (arith, same.1) | inr one ↦ omega (arith, one) ]

run_on : (p : Pace) (n : ℕ) → n ≡ p.least → run_with p n ≡ p.run + 1
run_on p n e = let test : (n == p.least) ≡ true = eq-eqb n p.least e in rw test refl

-- each step is as late as it can be at least
low_of : (c : ℕ) (p : Pace) (s : List ℕ) → ArePaced c p s → (m : ℕ) → m < length s → p.least + m ≤ get_or s m 0
low_of c p [] paced m below = absurd (omega arith)
low_of c p (n ∷ s) paced zero below = let late = paced.0 in omega arith
low_of c p (n ∷ s) paced (suc m) below = let late = paced.0 in let rest = low_of c (behind p n) s paced.3 m (omega arith) in omega arith

-- no run is too long: the one that goes on, and those that begin here
abbrev HaveRuns : ℕ → Pace → List ℕ → Type 0
HaveRuns c p s = (m : ℕ) → m < length s → get_or s m 0 ≡ p.least + m → p.run + m + 1 < c

abbrev HaveRows : ℕ → List ℕ → Type 0
HaveRows c s = (k m : ℕ) → k + m < length s → get_or s (k + m) 0 ≡ get_or s k 0 + m → m + 1 < c

abbrev HaveRises : List ℕ → Type 0
HaveRises s = (k : ℕ) → k + 1 < length s → get_or s k 0 < get_or s (k + 1) 0

runs_of : (c : ℕ) (p : Pace) (s : List ℕ) → ArePaced c p s → HaveRuns c p s
runs_of c p [] paced m below e = absurd (omega arith)
runs_of c p (n ∷ s) paced zero below e = let few = paced.2 in let run = run_on p n (omega arith) in omega arith
runs_of c p (n ∷ s) paced (suc m) below e =
    let late = paced.0 in
    let low = low_of c (behind p n) s paced.3 m (omega arith) in
    let run = run_on p n (omega arith) in
    let rest = runs_of c (behind p n) s paced.3 m (omega arith) (omega arith) in
    omega arith

rows_of : (c : ℕ) → 2 ≤ c → (p : Pace) (s : List ℕ) → ArePaced c p s → HaveRows c s
rows_of c two p [] paced k m below e = absurd (omega arith)
rows_of c two p (n ∷ s) paced zero zero below e = omega arith
rows_of c two p (n ∷ s) paced zero (suc m) below e =
    let same : zero + suc m ≡ suc m = omega arith in
    let far : get_or s m 0 ≡ n + suc m = rw same at e in
    let run = run_some p n in
    let rest = runs_of c (behind p n) s paced.3 m (omega arith) (omega arith) in
    omega arith
rows_of c two p (n ∷ s) paced (suc k) m below e =
    let same : suc k + m ≡ suc (k + m) = omega arith in
    rows_of c two (behind p n) s paced.3 k m (omega arith) (rw same at e)

rises_of : (c : ℕ) (p : Pace) (s : List ℕ) → ArePaced c p s → HaveRises s
rises_of c p [] paced k below = absurd (omega arith)
rises_of c p (n ∷ []) paced k below = absurd (omega arith)
rises_of c p (n ∷ m ∷ s) paced zero below = let late = paced.3.0 in omega arith
rises_of c p (n ∷ m ∷ s) paced (suc k) below =
    let e : suc k + 1 ≡ suc (k + 1) = omega arith in rw e (rises_of c (behind p n) (m ∷ s) paced.3 k (omega arith))

pub small_of : (c : ℕ) (p : Pace) (s : List ℕ) → ArePaced c p s → All (λ n. n < 2 ^ 63) s
small_of c p [] paced = All-nil (λ n. n < 2 ^ 63)
small_of c p (n ∷ s) paced = All-cons (λ n. n < 2 ^ 63) n s paced.1 (small_of c (behind p n) s paced.3)

pub legal_of : (c : ℕ) → 2 ≤ c → (p : Pace) (s : List ℕ) → ArePaced c p s → IsLegal c s
legal_of c two p s paced =
    let rises = rises_of c p s paced in
    let last : c - 1 + 1 ≡ c = omega arith in
    let free : Spares (c - 1 + 1) s = spare s rises (c - 1) (λ k below e. absurd (let row = rows_of c two p s paced k (c - 1) below e in omega arith)) in
    record { rises = rises; spares = subst (λ b. Spares b s) last free }

-- The steps of a legal schedule come so.
rows_from_legal : (c : ℕ) (s : List ℕ) → IsLegal c s → HaveRows c s
rows_from_legal c s legal k m below e =
    let never : c ≤ m + 1 → ⊥ = λ h. legal.spares (get_or s k 0) (λ j few. crowded s legal.rises k m below e j (omega arith)) in
    omega (arith, never)

rises_later : (n : ℕ) (s : List ℕ) → HaveRises (n ∷ s) → HaveRises s
rises_later n s rises k below = let e : suc k + 1 ≡ suc (k + 1) = omega arith in rw e at (rises (suc k) (omega arith))

rows_later : (c n : ℕ) (s : List ℕ) → HaveRows c (n ∷ s) → HaveRows c s
rows_later c n s rows k m below e = let same : suc k + m ≡ suc (k + m) = omega arith in rows (suc k) m (omega arith) (rw same e)

-- the first step of a list comes no earlier than this
abbrev Begins : ℕ → List ℕ → Type 0
Begins least [] = Unit {0}
Begins least (n ∷ s) = least ≤ n

begins_later : (n : ℕ) (s : List ℕ) → HaveRises (n ∷ s) → Begins (n + 1) s
begins_later n [] rises = tt
begins_later n (m ∷ s) rises = omega (arith, rises 0 (omega arith))

runs_later : (c : ℕ) (p : Pace) (n : ℕ) (s : List ℕ) → HaveRows c (n ∷ s) → HaveRuns c p (n ∷ s) → HaveRuns c (behind p n) s
runs_later c p n s rows runs m below e =
    let zero_more : zero + suc m ≡ suc m = omega arith in
    elim (run_cases p n) [
      | inl same ↦ let at_least = same.0 in let one_more = same.1 in let run = runs (suc m) (omega arith) (omega arith) in omega arith
      | inr one ↦ let row = rows zero (suc m) (omega arith) (rw zero_more (omega arith)) in omega arith
    ]

first_few : (c : ℕ) → 2 ≤ c → (p : Pace) (n : ℕ) (s : List ℕ) → HaveRuns c p (n ∷ s) → run_with p n < c
first_few c two p n s runs =
    elim (run_cases p n) [ inl same ↦ let at_least = same.0 in let one_more = same.1 in let run = runs 0 (omega arith) (omega arith) in omega arith | inr one ↦ omega arith ]

paced_of : (c : ℕ) → 2 ≤ c → (p : Pace) (s : List ℕ) → All (λ n. n < 2 ^ 63) s → Begins p.least s → HaveRises s → HaveRows c s → HaveRuns c p s → ArePaced c p s
paced_of c two p [] small begins rises rows runs = tt
paced_of c two p (n ∷ s) small begins rises rows runs = (
  begins,
  All-head (λ n. n < 2 ^ 63) n s small,
  first_few c two p n s runs,
  paced_of c two (behind p n) s (All-tail (λ n. n < 2 ^ 63) n s small) (begins_later n s rises) (rises_later n s rises) (rows_later c n s rows) (runs_later c p n s rows runs),
)

begins_at_0 : (s : List ℕ) → Begins 0 s
begins_at_0 [] = tt
begins_at_0 (n ∷ s) = omega arith

runs_at_first : (c : ℕ) (s : List ℕ) → IsLegal c s → HaveRuns c at_first s
runs_at_first c s legal m below e =
    let none : 0 + m ≡ m = omega arith in
    let near : get_or s 0 0 + m ≤ get_or s m 0 = rw none at (apart s legal.rises 0 m (omega arith)) in
    let row = rows_from_legal c s legal 0 m (omega arith) (rw none (omega arith)) in
    omega arith

pub paced_from_legal : (c : ℕ) → 2 ≤ c → (s : List ℕ) → All (λ n. n < 2 ^ 63) s → IsLegal c s → ArePaced c at_first s
paced_from_legal c two s small legal =
    paced_of c two at_first s small (begins_at_0 s) legal.rises (rows_from_legal c s legal) (runs_at_first c s legal)
