use Rattle.std.proofs.Common.{ℕ, List, subst, sym}
use Rattle.std.specs.Prelude.{nat_eq, Contains}
use Rattle.std.specs.List.Sorted.{IsStrictlyIncreasing}
use Rattle.std.proofs.lemmas.List.Filters.{dedup_is}
use Rattle.std.proofs.lemmas.List.Kept.{Contains-dedup_nat, Contains-from_dedup}
use Rattle.std.proofs.lemmas.List.Sorted.{Contains-permutation, IsPermutation-sym}
use Rattle.std.proofs.lemmas.Map.Keys.{IsStrictlyIncreasing-dedup}
use Rattle.flat_link.proofs.stops.rising.Goals as goal

pub returns-clause-rise : goal.returns-clause-rise
returns-clause-rise c =
    let e = dedup_is nat_eq c.sort_unstable.new.self.items c.dedup.new.self.items c.dedup.ensures.filtered in
    subst (λ (t : List ℕ). IsStrictlyIncreasing t) (sym e) (IsStrictlyIncreasing-dedup c.sort_unstable.new.self.items c.sort_unstable.ensures.sorted)

pub returns-clause-same : goal.returns-clause-same
returns-clause-same c = λ a.
    let xs : List ℕ = c.sort_unstable.new.self.items in
    let e = dedup_is nat_eq xs c.dedup.new.self.items c.dedup.ensures.filtered in (
      λ h. Contains-permutation xs c.args.stops.items a (IsPermutation-sym c.args.stops.items xs c.sort_unstable.ensures.permutation)
          (Contains-from_dedup nat_eq xs a (subst (λ (t : List ℕ). Contains t a) e h)),
      λ h. subst (λ (t : List ℕ). Contains t a) (sym e) (Contains-dedup_nat xs a (Contains-permutation c.args.stops.items xs a c.sort_unstable.ensures.permutation h)),
    )
