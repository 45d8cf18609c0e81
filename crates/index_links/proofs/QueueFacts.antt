-- A queue that an index enters, or that its oldest one leaves.
use Rattle.std.proofs.Common.{◌≡◌, ◌+◌, ◌<◌, ◌≤◌, ℕ, zero, suc, Bool, true, false, cond, List, [], ◌∷◌, ◌++◌, refl, sym, ap, ◌∙◌, inl, inr, Option, Some, None, length, replicate, arith}
use Rattle.std.specs.Prelude.{slice_get, Contains, count_by, ◌==◌}
use Rattle.std.proofs.Math.ListN.{set}
use Rattle.std.proofs.lemmas.Bool.{cases_eq, eqb-true, eq-eqb}
use Rattle.std.proofs.lemmas.List.{length_push, length-set}
use Rattle.std.proofs.lemmas.List.Sums.{sum_by-append}
use Rattle.std.proofs.lemmas.Option.{none-some, same_Some}
use Rattle.index_links.specs.Queues.{IsQueue, times, mark_of}
use Rattle.index_links.proofs.Places.{set_there, set_other}

abbrev pub one_if : Bool → ℕ
one_if b = cond b 1 0

pub one_at : (j i : ℕ) → j ≡ i → one_if (j == i) ≡ 1
one_at j i e = ap one_if (eq-eqb j i e)

pub none_at : (j i : ℕ) → (j ≡ i → ⊥) → one_if (j == i) ≡ 0
none_at j i ne = go (j == i) refl
  where
    go : (b : Bool) → (j == i) ≡ b → one_if (j == i) ≡ 0
    go true e = absurd (ne (eqb-true j i e))
    go false e = ap one_if e

pub times_step : (i j : ℕ) (xs : List ℕ) → times i (j ∷ xs) ≡ one_if (j == i) + times i xs
times_step i j xs = let e : times i (j ∷ xs) ≡ 0 + one_if (j == i) + times i xs = sum_by-append (λ (k : ℕ). one_if (k == i)) (j ∷ []) xs in omega arith

marks_step : (w : Bool) (waits : List Bool) → count_by (λ w. w) (w ∷ waits) ≡ one_if w + count_by (λ w. w) waits
marks_step w waits = let e : count_by (λ w. w) (w ∷ waits) ≡ 0 + one_if w + count_by (λ w. w) waits = sum_by-append one_if (w ∷ []) waits in omega arith

-- an index stands in a list where it stands there at least once
pub times_some : (xs : List ℕ) (i : ℕ) → Contains xs i → 1 ≤ times i xs
times_some [] i (k, low, at) = absurd (omega arith)
times_some (j ∷ xs) i (zero, low, at) = let one = one_at j i at in let step = times_step i j xs in omega arith
times_some (j ∷ xs) i (suc k, low, at) = let more = times_some xs i (k, omega arith, at) in let step = times_step i j xs in omega arith

pub stands : (xs : List ℕ) (i : ℕ) → 1 ≤ times i xs → Contains xs i
stands [] i some = absurd (omega arith)
stands (j ∷ xs) i some = elim (cases_eq j i) [
  | inl same ↦ (zero, omega arith, same)
  | inr ne ↦
      let none = none_at j i ne in
      let step = times_step i j xs in
      let more = stands xs i (omega arith) in (suc more.0, let low = more.1 in omega arith, more.2)
]

times_pushed : (k i : ℕ) (xs : List ℕ) → times k (xs ++ i ∷ []) ≡ times k xs + one_if (i == k)
times_pushed k i xs = let e = sum_by-append (λ (j : ℕ). one_if (j == k)) xs (i ∷ []) in let step = times_step k i [] in let none : times k [] ≡ 0 = refl in omega arith

-- marks that are set and cleared
marked_more : (waits : List Bool) (i : ℕ) → slice_get waits i ≡ Some false → count_by (λ w. w) (set waits i true) ≡ count_by (λ w. w) waits + 1
marked_more [] i at = absurd (none-some false at)
marked_more (w ∷ waits) zero at = let e : one_if w ≡ 0 = ap one_if (same_Some w false at) in let a = marks_step w waits in let b = marks_step true waits in omega arith
marked_more (w ∷ waits) (suc i) at = let e = marked_more waits i at in let a = marks_step w waits in let b = marks_step w (set waits i true) in omega arith

marked_less : (waits : List Bool) (i : ℕ) → slice_get waits i ≡ Some true → count_by (λ w. w) (set waits i false) + 1 ≡ count_by (λ w. w) waits
marked_less [] i at = absurd (none-some true at)
marked_less (w ∷ waits) zero at = let e : one_if w ≡ 1 = ap one_if (same_Some w true at) in let a = marks_step w waits in let b = marks_step false waits in omega arith
marked_less (w ∷ waits) (suc i) at = let e = marked_less waits i at in let a = marks_step w waits in let b = marks_step w (set waits i false) in omega arith

at_most_one : (b : Bool) → one_if b ≤ 1
at_most_one true = omega arith
at_most_one false = omega arith

marked_all : (waits : List Bool) → count_by (λ w. w) waits ≤ length waits
marked_all [] = omega arith
marked_all (w ∷ waits) = let e = marked_all waits in let one = at_most_one w in let a = marks_step w waits in omega arith

some_unmarked : (waits : List Bool) (i : ℕ) → slice_get waits i ≡ Some false → count_by (λ w. w) waits < length waits
some_unmarked [] i at = absurd (none-some false at)
some_unmarked (w ∷ waits) zero at = let e : one_if w ≡ 0 = ap one_if (same_Some w false at) in let all = marked_all waits in let a = marks_step w waits in omega arith
some_unmarked (w ∷ waits) (suc i) at = let e = some_unmarked waits i at in let one = at_most_one w in let a = marks_step w waits in omega arith

within : (waits : List Bool) (i : ℕ) (w : Bool) → slice_get waits i ≡ Some w → i < length waits
within [] i w at = absurd (none-some w at)
within (v ∷ waits) zero w at = omega arith
within (v ∷ waits) (suc i) w at = let e = within waits i w at in omega arith

module _ (waiting : List ℕ) (waits : List Bool) (capacity : ℕ) (queue : IsQueue waiting waits capacity) (i : ℕ) where
  pub waits_in : slice_get waits i ≡ Some true → Contains waiting i
  waits_in at = let e = queue.marked i ∙ ap mark_of at in stands waiting i (omega arith)

  pub waits_not : slice_get waits i ≡ Some false → Contains waiting i → ⊥
  waits_not at c = let e = queue.marked i ∙ ap mark_of at in let some = times_some waiting i c in absurd (omega arith)

  pub room_for : slice_get waits i ≡ Some false → length waiting < capacity
  room_for at = let a = queue.counted in let b = queue.room in let d = some_unmarked waits i at in omega arith

  pub entered : slice_get waits i ≡ Some false → IsQueue (waiting ++ i ∷ []) (set waits i true) capacity
  entered at = record {
    marked = λ k. elim (cases_eq k i) [
      | inl same ↦
          let was : times k waiting ≡ 0 = queue.marked k ∙ ap (λ (n : ℕ). mark_of (slice_get waits n)) same ∙ ap mark_of at in
          let now : mark_of (slice_get (set waits i true) k) ≡ 1 = ap (λ (n : ℕ). mark_of (slice_get (set waits i true) n)) same ∙ ap mark_of (set_there waits i true (within waits i false at)) in
          let one = one_at i k (sym same) in
          let e = times_pushed k i waiting in
          omega arith
      | inr ne ↦
          let none = none_at i k (λ e. ne (sym e)) in
          let e = times_pushed k i waiting in
          let was = queue.marked k in
          let now : mark_of (slice_get (set waits i true) k) ≡ mark_of (slice_get waits k) = ap mark_of (set_other waits i k true ne) in
          omega arith
    ];
    counted = let a = queue.counted in let b = length_push waiting i in let d = marked_more waits i at in omega arith;
    room = let a = queue.room in let b = length-set waits i true in omega arith;
  }

-- the oldest index leaves
module _ (i : ℕ) (rest : List ℕ) (waits : List Bool) (capacity : ℕ) (queue : IsQueue (i ∷ rest) waits capacity) where
  here_once : (o : Option Bool) → slice_get waits i ≡ o → slice_get waits i ≡ Some true
  here_once None at = let e = queue.marked i ∙ ap mark_of at in let one = one_at i i refl in let step = times_step i i rest in absurd (omega arith)
  here_once (Some false) at = let e = queue.marked i ∙ ap mark_of at in let one = one_at i i refl in let step = times_step i i rest in absurd (omega arith)
  here_once (Some true) at = at

  oldest_marked : slice_get waits i ≡ Some true
  oldest_marked = here_once (slice_get waits i) refl

  pub oldest_small : i < length waits
  oldest_small = within waits i true oldest_marked

  oldest_gone : times i rest ≡ 0
  oldest_gone = let e = queue.marked i ∙ ap mark_of oldest_marked in let one = one_at i i refl in let step = times_step i i rest in omega arith

  pub oldest_once : Contains rest i → ⊥
  oldest_once c = let some = times_some rest i c in let none = oldest_gone in absurd (omega arith)

  pub left : IsQueue rest (set waits i false) capacity
  left = record {
    marked = λ k. elim (cases_eq k i) [
      | inl same ↦
          let none : times k rest ≡ 0 = ap (λ (n : ℕ). times n rest) same ∙ oldest_gone in
          let now : mark_of (slice_get (set waits i false) k) ≡ 0 = ap (λ (n : ℕ). mark_of (slice_get (set waits i false) n)) same ∙ ap mark_of (set_there waits i false oldest_small) in
          omega arith
      | inr ne ↦
          let none = none_at i k (λ e. ne (sym e)) in
          let was = queue.marked k in
          let step = times_step k i rest in
          let now : mark_of (slice_get (set waits i false) k) ≡ mark_of (slice_get waits k) = ap mark_of (set_other waits i k false ne) in
          omega arith
    ];
    counted = let a = queue.counted in let d = marked_less waits i oldest_marked in omega arith;
    room = let a = queue.room in let b = length-set waits i false in omega arith;
  }

-- no index waits yet
unmarked_at : (n i : ℕ) → mark_of (slice_get (replicate n false) i) ≡ 0
unmarked_at zero i = refl
unmarked_at (suc n) zero = refl
unmarked_at (suc n) (suc i) = unmarked_at n i

none_marked : (n : ℕ) → count_by (λ w. w) (replicate n false) ≡ 0
none_marked zero = refl
none_marked (suc n) = let e = none_marked n in let a = marks_step false (replicate n false) in omega arith

length_unmarked : (n : ℕ) → length (replicate n false) ≡ n
length_unmarked zero = refl
length_unmarked (suc n) = ap (λ (m : ℕ). suc m) (length_unmarked n)

pub empty_queue : (n capacity : ℕ) → n ≤ capacity → IsQueue [] (replicate n false) capacity
empty_queue n capacity fits = record {
  marked = λ i. sym (unmarked_at n i);
  counted = sym (none_marked n);
  room = let e = length_unmarked n in omega arith;
}
