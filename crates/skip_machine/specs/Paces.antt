-- How the steps of a plan go on.
use Rattle.std.specs.Prelude.{◌≡◌, ◌≤◌, ◌<◌, ◌^◌, ◌+◌, ◌==◌, ℕ, List, if◌then◌else◌}
use Rattle.std.specs.Fmt.{decimal}
use Rattle.skip_machine.specs.declared.plan_texts.Pace.{Pace}

-- how many consecutive steps end with this one
abbrev pub run_with : Pace → ℕ → ℕ
run_with p n = if n == p.least then p.run + 1 else 1

abbrev pub behind : Pace → ℕ → Pace
behind p n = record { least = n + 1; run = run_with p n }

-- a text is a step that may come next in a plan for so many copies
pub record IsNext (copies : ℕ) (p : Pace) (text : List ℕ) (n : ℕ) : Type 0 where
  pub is : text ≡ decimal n
  pub small : n < 2 ^ 63
  pub late : p.least ≤ n
  pub few : run_with p n < copies
