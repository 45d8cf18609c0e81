-- The longest of the first units.
use Rattle.std.proofs.Common.{◌≡◌, ◌≤◌, ◌<◌, ℕ, ◌+◌, inl, inr, List, length, take, get_or, subst, sym, arith, Some, refl}
use Rattle.std.proofs.lemmas.List.{take_all}
use Rattle.std.proofs.lemmas.Option.{slice_get_read}
use Rattle.std.proofs.lemmas.List.Elements.{Contains-push_cases}
use Rattle.std.specs.Prelude.{slice_get, Contains}
use Rattle.seq_core.specs.Places.{PlacedParts}
use Rattle.branch_layout.proofs.Lists.{take_push}
use Rattle.pair_parts.specs.Made.{count_of, AreAtMost}
use Rattle.seq_core.specs.Places.{LayoutParts}

-- the first k units have so many instructions at most
abbrev pub FirstAtMost : ℕ → ℕ → List PlacedParts → Type 0
FirstAtMost most k units = (v : PlacedParts) → Contains (take k units) v → count_of v ≤ most

one_more : (units : List PlacedParts) (k : ℕ) (u : PlacedParts) (most next : ℕ) → slice_get units k ≡ Some u → FirstAtMost most k units → most ≤ next → count_of u ≤ next → FirstAtMost next (k + 1) units
one_more units k u most next there all le cu v c = elim (Contains-push_cases (take k units) u v (subst (λ (l : List PlacedParts). Contains l v) (take_push units k u there) c)) [
  | inl old ↦ let a : count_of v ≤ most = all v old in omega arith
  | inr new ↦ subst (λ (w : PlacedParts). count_of w ≤ next) new cu
]

pub next_at_most : (units : List PlacedParts) (k : ℕ) (u : PlacedParts) (most next : ℕ) → k < length units → u ≡ get_or units k u → FirstAtMost most k units → most ≤ next → count_of u ≤ next → FirstAtMost next (k + 1) units
next_at_most units k u most next lt is all le cu = one_more units k u most next (slice_get_read units (length units) k u refl lt is) all le cu

pub all_at_most : (l : LayoutParts) (k most : ℕ) → length l.units ≤ k → FirstAtMost most k l.units → AreAtMost most l
all_at_most l k most le all v c = all v (subst (λ (us : List PlacedParts). Contains us v) (sym (take_all k l.units le)) c)
