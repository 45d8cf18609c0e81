-- Powers of 2 that numbers of 32 bits hold.
use Rattle.std.proofs.Common.{◌≡◌, ℕ, zero, suc, ◌-◌, ◌*◌, ◌^◌, ◌<◌, ◌≤◌, arith}
use Rattle.std.proofs.Math.Nat.{pow-le-pow_right}

pub power_fits : (w : ℕ) → w < 31 → 2 ^ w ≤ 2 ^ 30
power_fits w h =
    let base : zero < 2 = omega arith in
    let order : w ≤ 30 = omega arith in
    pow-le-pow_right base order

pub power_halves : (w : ℕ) → 1 ≤ w → 2 ^ w ≡ 2 * 2 ^ (w - 1)
power_halves zero h = omega arith
power_halves (suc k) h = grind arith
