-- What is told of the instructions of one halfword.
use Rattle.std.proofs.Common.{◌≡◌, ◌<◌, ◌^◌, ℕ, Bool, true, false, refl}
use Rattle.thumb_instr.proofs.Formed.{Good, AllGood, ◌&◌, goods}
use Rattle.thumb_instr.specs.declared.refusals.ItPlace.{ItPlace}
use Rattle.thumb_instr.specs.DataRows.{is_rrx}
use Rattle.thumb_instr.specs.HalfRows.{high_add, high_move, high_compare, half_rows}

high_add_good : (d m : ℕ) → d < 2 ^ 4 → m < 2 ^ 4 → Good false (high_add d m)
unfolding is_rrx
high_add_good d m ld lm = search goods

high_move_good : (d m : ℕ) → d < 2 ^ 4 → m < 2 ^ 4 → Good false (high_move d m)
unfolding is_rrx
high_move_good d m ld lm = search goods

high_compare_good : (n m : ℕ) → n < 2 ^ 4 → m < 2 ^ 4 → Good false (high_compare n m)
unfolding is_rrx
high_compare_good n m ln lm = search goods

load_good : (pc : Bool) → pc ≡ true → true ≡ true
load_good pc e = refl

never_good : (load : Bool) → false ≡ true → load ≡ true
never_good load e = (cc)

ruleset half_goods = (high_add_good, high_move_good, high_compare_good, load_good, never_good)

pub half_good : (place : ItPlace) → AllGood false (half_rows place)
unfolding half_rows is_rrx
half_good place =
    (λ i i-fits m m-fits d d-fits. search (half_goods, goods))
    & (λ i i-fits m m-fits d d-fits. search (half_goods, goods))
    & (λ i i-fits m m-fits d d-fits. search (half_goods, goods))
    & (λ m m-fits n n-fits d d-fits. search (half_goods, goods))
    & (λ m m-fits n n-fits d d-fits. search (half_goods, goods))
    & (λ i i-fits n n-fits d d-fits. search (half_goods, goods))
    & (λ i i-fits n n-fits d d-fits. search (half_goods, goods))
    & (λ d d-fits i i-fits. search (half_goods, goods))
    & (λ n n-fits i i-fits. search (half_goods, goods))
    & (λ d d-fits i i-fits. search (half_goods, goods))
    & (λ d d-fits i i-fits. search (half_goods, goods))
    & (λ m m-fits d d-fits. search (half_goods, goods))
    & (λ m m-fits d d-fits. search (half_goods, goods))
    & (λ m m-fits d d-fits. search (half_goods, goods))
    & (λ m m-fits d d-fits. search (half_goods, goods))
    & (λ m m-fits d d-fits. search (half_goods, goods))
    & (λ m m-fits d d-fits. search (half_goods, goods))
    & (λ m m-fits d d-fits. search (half_goods, goods))
    & (λ m m-fits d d-fits. search (half_goods, goods))
    & (λ m m-fits d d-fits. search (half_goods, goods))
    & (λ m m-fits d d-fits. search (half_goods, goods))
    & (λ m m-fits d d-fits. search (half_goods, goods))
    & (λ m m-fits d d-fits. search (half_goods, goods))
    & (λ m m-fits d d-fits. search (half_goods, goods))
    & (λ m m-fits d d-fits. search (half_goods, goods))
    & (λ m m-fits d d-fits. search (half_goods, goods))
    & (λ m m-fits d d-fits. search (half_goods, goods))
    & (λ high high-fits m m-fits low low-fits. search (half_goods, goods))
    & (λ high high-fits m m-fits low low-fits. search (half_goods, goods))
    & (λ high high-fits m m-fits low low-fits. search (half_goods, goods))
    & (λ m m-fits. search (half_goods, goods))
    & (λ m m-fits. search (half_goods, goods))
    & (λ t t-fits i i-fits. search (half_goods, goods))
    & (λ m m-fits n n-fits t t-fits. search (half_goods, goods))
    & (λ m m-fits n n-fits t t-fits. search (half_goods, goods))
    & (λ m m-fits n n-fits t t-fits. search (half_goods, goods))
    & (λ m m-fits n n-fits t t-fits. search (half_goods, goods))
    & (λ m m-fits n n-fits t t-fits. search (half_goods, goods))
    & (λ m m-fits n n-fits t t-fits. search (half_goods, goods))
    & (λ m m-fits n n-fits t t-fits. search (half_goods, goods))
    & (λ m m-fits n n-fits t t-fits. search (half_goods, goods))
    & (λ i i-fits n n-fits t t-fits. search (half_goods, goods))
    & (λ i i-fits n n-fits t t-fits. search (half_goods, goods))
    & (λ i i-fits n n-fits t t-fits. search (half_goods, goods))
    & (λ i i-fits n n-fits t t-fits. search (half_goods, goods))
    & (λ i i-fits n n-fits t t-fits. search (half_goods, goods))
    & (λ i i-fits n n-fits t t-fits. search (half_goods, goods))
    & (λ t t-fits i i-fits. search (half_goods, goods))
    & (λ t t-fits i i-fits. search (half_goods, goods))
    & (λ d d-fits i i-fits. search (half_goods, goods))
    & (λ d d-fits i i-fits. search (half_goods, goods))
    & (λ i i-fits. search (half_goods, goods))
    & (λ i i-fits. search (half_goods, goods))
    & (λ o o-fits i6 i6-fits i i-fits n n-fits. search (half_goods, goods))
    & (λ m m-fits d d-fits. search (half_goods, goods))
    & (λ m m-fits d d-fits. search (half_goods, goods))
    & (λ m m-fits d d-fits. search (half_goods, goods))
    & (λ m m-fits d d-fits. search (half_goods, goods))
    & (λ lr lr-fits list list-fits. search (half_goods, goods))
    & (λ pc pc-fits list list-fits. search (half_goods, goods))
    & (λ m m-fits d d-fits. search (half_goods, goods))
    & (λ m m-fits d d-fits. search (half_goods, goods))
    & (λ m m-fits d d-fits. search (half_goods, goods))
    & (λ c c-fits mask mask-fits. search (half_goods, goods))
    & (λ i i-fits. search (half_goods, goods))
    & (λ i i-fits. search (half_goods, goods))
    & (λ n n-fits list list-fits. search (half_goods, goods))
    & (λ n n-fits list list-fits. search (half_goods, goods))
    & (λ c c-fits i i-fits. search (half_goods, goods))
    & (λ i i-fits. search (half_goods, goods))
    & tt
