-- Where outputs differ, all pairs in their order are a selection of them.
use Rattle.std.proofs.Common.{◌≡◌, ◌≢◌, ◌<◌, ◌+◌, ℕ, zero, suc, List, [], ◌∷◌, length, get_or, Some, refl, sym, ap, ◌∙◌, arith}
use Rattle.std.specs.Prelude.{slice_get}
use Rattle.std.specs.List.{AllPairs}
use Rattle.std.proofs.lemmas.Option.{slice_get_within, get_or_from_slice_get}
use Rattle.elf_model.specs.Files.{from}
use Rattle.guard_words.specs.Words.{Pair}
use Rattle.guard_cli.specs.Promise.{Stays, ArePlaced, IsPick, OutputsDiffer}

from_at : (first n i d : ℕ) → i < n → get_or (from first n) i d ≡ first + i
from_at first zero i d below = absurd (omega arith)
from_at first (suc n) zero d below = omega arith
from_at first (suc n) (suc i) d below = omega (arith, from_at (first + 1) n i d (omega arith))

length-from : (first n : ℕ) → length (from first n) ≡ n
length-from first zero = refl
length-from first (suc n) = omega (arith, length-from (first + 1) n)

numbers_differ : (first n : ℕ) → AllPairs (λ j k. j ≢ k) (from first n)
numbers_differ first n i j d less below same =
    let count = length-from first n in
    let one = from_at first n i d (omega arith) in
    let two = from_at first n j d (omega arith) in
    omega (arith, same, one, two)

stays : (pairs : List Pair) → OutputsDiffer pairs → (k : ℕ) (p : Pair) → slice_get pairs k ≡ Some p → Stays pairs k p
stays pairs differ k p here j q less there same =
    differ k j p less (slice_get_within pairs j q there)
    (ap (λ (r : Pair). r.output) (get_or_from_slice_get pairs k p p here) ∙ sym same ∙ sym (ap (λ (r : Pair). r.output) (get_or_from_slice_get pairs j q p there)))

all_placed : (pairs : List Pair) → OutputsDiffer pairs → (k : ℕ) (rest : List Pair) → ((i : ℕ) (p : Pair) → slice_get rest i ≡ Some p → slice_get pairs (k + i) ≡ Some p) → ArePlaced pairs (from k (length rest)) rest
all_placed pairs differ k [] at = tt
all_placed pairs differ k (p ∷ rest) at =
    let same : k + 0 ≡ k = omega arith in
    let here : slice_get pairs k ≡ Some p = ap (λ (n : ℕ). slice_get pairs n) (sym same) ∙ at 0 p refl in (
      here,
      stays pairs differ k p here,
      all_placed pairs differ (k + 1) rest (λ i q e.
          let next : k + 1 + i ≡ k + suc i = omega arith in
          ap (λ (n : ℕ). slice_get pairs n) next ∙ at (suc i) q e),
    )

pub whole_pick : (pairs : List Pair) → OutputsDiffer pairs → IsPick pairs pairs
whole_pick pairs differ = record {
  places = from 0 (length pairs);
  differ = numbers_differ 0 (length pairs);
  are = all_placed pairs differ 0 pairs (λ i p e. let same : 0 + i ≡ i = omega arith in ap (λ (n : ℕ). slice_get pairs n) same ∙ e);
}
