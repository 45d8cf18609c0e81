-- What callers and callees keep, where a function has up to four results in r0 and above, and what a point so uses.
use Rattle.std.specs.Prelude.{ℕ, ◌==◌, ◌&&◌, ◌||◌, not, nat_lt, nat_le, Bool, false}
use Rattle.sim_charts.specs.Charts.{Point, Way, Onward, Branch, Transfer, Call, Return, Stops, reads_at, always_writes}

-- the results, and r4 to r11
abbrev pub results : ℕ → ℕ → Bool
results K k = nat_lt k K || (nat_le 4 k && nat_lt k 12)

abbrev pub at_return : ℕ → ℕ → Bool
at_return K k = results K k || (k == 13)

abbrev pub at_call : ℕ → Bool
at_call k = nat_lt k 12 || (k == 13)

abbrev pub at_transfer : ℕ → Bool
at_transfer k = at_call k || (k == 14)

abbrev pub boundary : ℕ → Way → ℕ → Bool
boundary K Onward k = false
boundary K (Branch _) k = false
boundary K Transfer k = at_transfer k
boundary K Call k = at_call k
boundary K Return k = at_return K k
boundary K Stops k = false

abbrev pub uses_at : ℕ → Point → ℕ → Bool
uses_at K p k = reads_at p k || (boundary K p.way k && not (always_writes p k))
