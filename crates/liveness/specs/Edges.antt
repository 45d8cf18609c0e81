-- The edges of a flow.
use Rattle.std.specs.Prelude.{◌+◌, ℕ, ◌==◌, Bool, false, List, [], ◌∷◌, ◌++◌, Option, Some, None, if◌then◌else◌, map}
use Rattle.std.specs.Option.{option_to_list}
use Rattle.flow_recover.specs.declared.flows.Point.{Point}
use Rattle.flow_recover.specs.declared.flows.Exit.{Exit}
use Rattle.flow_recover.specs.declared.flows.Exit.TheVariants.{Falls, Branch, Transfer, Call, Return, Stops}
use Rattle.flow_recover.specs.Flows.{FlowParts}
use Rattle.index_links.specs.Links.{Edge}

abbrev pub falls_to : Option ℕ → ℕ → Bool
falls_to None q = false
falls_to (Some n) q = n == q

-- where a branch leads, unless the point falls there
abbrev pub branch_target : Option ℕ → Exit → Option ℕ
branch_target next Falls = None
branch_target next (Branch q) = if falls_to next q then None else Some q
branch_target next Transfer = None
branch_target next Call = None
branch_target next Return = None
branch_target next Stops = None

-- where a point leads, each place once
abbrev pub targets_of : Point → List ℕ
targets_of x = option_to_list x.next ++ option_to_list (branch_target x.next x.exit)

abbrev pub edges_at : ℕ → Point → List Edge
edges_at p x = map (λ q. record { source = p; target = q }) (targets_of x)

-- the edges of some points, the first of which has the number p
abbrev pub edges_from : ℕ → List Point → List Edge
edges_from p [] = []
edges_from p (x ∷ rest) = edges_at p x ++ edges_from (p + 1) rest

abbrev pub edges_of : FlowParts → List Edge
edges_of f = edges_from 0 f.points
