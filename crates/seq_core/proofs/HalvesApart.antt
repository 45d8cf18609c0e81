-- What the rows of one halfword give of bases and of sp.
use Rattle.std.proofs.Common.{◌≡◌, ◌<◌, ◌/◌, ◌^◌, ℕ, false, refl, arith}
use Rattle.std.proofs.lemmas.Bool.Decides.{nat_tests}
use Rattle.thumb_instr.specs.declared.refusals.ItPlace.{ItPlace}
use Rattle.thumb_instr.specs.Operands.{has}
use Rattle.thumb_instr.specs.DataRows.{is_copy}
use Rattle.thumb_instr.specs.HalfRows.{half_rows}
use Rattle.seq_core.proofs.RowsApart.{AllApart, ◌&◌}

-- a list of eight registers has no lr
lacks_link : (list : ℕ) → list < 2 ^ 8 → has list 14 ≡ false
unfolding has
lacks_link list low = let none : list / 2 ^ 14 ≡ 0 = omega arith in rw none refl

pub half_apart : (place : ItPlace) → AllApart (half_rows place)
unfolding half_rows is_copy
half_apart place =
    (λ i i-fits m m-fits d d-fits. grind (arith, nat_tests))
    & (λ i i-fits m m-fits d d-fits. grind (arith, nat_tests))
    & (λ i i-fits m m-fits d d-fits. grind (arith, nat_tests))
    & (λ m m-fits n n-fits d d-fits. grind (arith, nat_tests))
    & (λ m m-fits n n-fits d d-fits. grind (arith, nat_tests))
    & (λ i i-fits n n-fits d d-fits. grind (arith, nat_tests))
    & (λ i i-fits n n-fits d d-fits. grind (arith, nat_tests))
    & (λ d d-fits i i-fits. grind (arith, nat_tests))
    & (λ n n-fits i i-fits. grind (arith, nat_tests))
    & (λ d d-fits i i-fits. grind (arith, nat_tests))
    & (λ d d-fits i i-fits. grind (arith, nat_tests))
    & (λ m m-fits d d-fits. grind (arith, nat_tests))
    & (λ m m-fits d d-fits. grind (arith, nat_tests))
    & (λ m m-fits d d-fits. grind (arith, nat_tests))
    & (λ m m-fits d d-fits. grind (arith, nat_tests))
    & (λ m m-fits d d-fits. grind (arith, nat_tests))
    & (λ m m-fits d d-fits. grind (arith, nat_tests))
    & (λ m m-fits d d-fits. grind (arith, nat_tests))
    & (λ m m-fits d d-fits. grind (arith, nat_tests))
    & (λ m m-fits d d-fits. grind (arith, nat_tests))
    & (λ m m-fits d d-fits. grind (arith, nat_tests))
    & (λ m m-fits d d-fits. grind (arith, nat_tests))
    & (λ m m-fits d d-fits. grind (arith, nat_tests))
    & (λ m m-fits d d-fits. grind (arith, nat_tests))
    & (λ m m-fits d d-fits. grind (arith, nat_tests))
    & (λ m m-fits d d-fits. grind (arith, nat_tests))
    & (λ m m-fits d d-fits. grind (arith, nat_tests))
    & (λ high high-fits m m-fits low low-fits. grind (arith, nat_tests))
    & (λ high high-fits m m-fits low low-fits. grind (arith, nat_tests))
    & (λ high high-fits m m-fits low low-fits. grind (arith, nat_tests))
    & (λ m m-fits. grind (arith, nat_tests))
    & (λ m m-fits. grind (arith, nat_tests))
    & (λ t t-fits i i-fits. grind (arith, nat_tests))
    & (λ m m-fits n n-fits t t-fits. grind (arith, nat_tests))
    & (λ m m-fits n n-fits t t-fits. grind (arith, nat_tests))
    & (λ m m-fits n n-fits t t-fits. grind (arith, nat_tests))
    & (λ m m-fits n n-fits t t-fits. grind (arith, nat_tests))
    & (λ m m-fits n n-fits t t-fits. grind (arith, nat_tests))
    & (λ m m-fits n n-fits t t-fits. grind (arith, nat_tests))
    & (λ m m-fits n n-fits t t-fits. grind (arith, nat_tests))
    & (λ m m-fits n n-fits t t-fits. grind (arith, nat_tests))
    & (λ i i-fits n n-fits t t-fits. grind (arith, nat_tests))
    & (λ i i-fits n n-fits t t-fits. grind (arith, nat_tests))
    & (λ i i-fits n n-fits t t-fits. grind (arith, nat_tests))
    & (λ i i-fits n n-fits t t-fits. grind (arith, nat_tests))
    & (λ i i-fits n n-fits t t-fits. grind (arith, nat_tests))
    & (λ i i-fits n n-fits t t-fits. grind (arith, nat_tests))
    & (λ t t-fits i i-fits. grind (arith, nat_tests))
    & (λ t t-fits i i-fits. grind (arith, nat_tests))
    & (λ d d-fits i i-fits. grind (arith, nat_tests))
    & (λ d d-fits i i-fits. grind (arith, nat_tests))
    & (λ i i-fits. grind (arith, nat_tests))
    & (λ i i-fits. grind (arith, nat_tests))
    & (λ o o-fits i6 i6-fits i i-fits n n-fits. grind (arith, nat_tests))
    & (λ m m-fits d d-fits. grind (arith, nat_tests))
    & (λ m m-fits d d-fits. grind (arith, nat_tests))
    & (λ m m-fits d d-fits. grind (arith, nat_tests))
    & (λ m m-fits d d-fits. grind (arith, nat_tests))
    & (λ lr lr-fits list list-fits. grind (arith, nat_tests))
    & (λ pc pc-fits list list-fits. let low = lacks_link list list-fits in grind (arith, nat_tests))
    & (λ m m-fits d d-fits. grind (arith, nat_tests))
    & (λ m m-fits d d-fits. grind (arith, nat_tests))
    & (λ m m-fits d d-fits. grind (arith, nat_tests))
    & (λ c c-fits mask mask-fits. grind (arith, nat_tests))
    & (λ i i-fits. grind (arith, nat_tests))
    & (λ i i-fits. grind (arith, nat_tests))
    & (λ n n-fits list list-fits. grind (arith, nat_tests))
    & (λ n n-fits list list-fits. grind (arith, nat_tests))
    & (λ c c-fits i i-fits. grind (arith, nat_tests))
    & (λ i i-fits. grind (arith, nat_tests))
    & tt
