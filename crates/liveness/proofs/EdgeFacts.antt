-- The list of a flow's edges.
use Rattle.std.proofs.Common.{◌≡◌, ◌≤◌, ◌+◌, ◌*◌, ℕ, zero, suc, Bool, true, false, cond, List, [], ◌∷◌, ◌++◌, map, refl, sym, ap, subst, inl, inr, arith, length, length-append, Option, Some, None, zero-add}
use Rattle.std.specs.Prelude.{slice_get, Contains}
use Rattle.std.specs.Option.{option_to_list}
use Rattle.std.proofs.lemmas.Bool.{true≢false, eqb-true}
use Rattle.std.proofs.lemmas.List.{length-map}
use Rattle.std.proofs.lemmas.List.Elements.{Contains-append_left, Contains-append_right}
use Rattle.std.proofs.lemmas.Option.{none-some, same_Some}
use Rattle.flow_recover.specs.declared.flows.Point.{Point}
use Rattle.flow_recover.specs.declared.flows.Exit.{Exit}
use Rattle.flow_recover.specs.declared.flows.Exit.TheVariants.{Falls, Branch, Transfer, Call, Return, Stops}
use Rattle.flow_recover.specs.Flows.{FlowParts}
use Rattle.index_links.specs.Links.{Edge}
use Rattle.liveness.specs.Paths.{Leads}
use Rattle.liveness.specs.Edges.{falls_to, branch_target, targets_of, edges_at, edges_from, edges_of}
use Rattle.elf_model.proofs.Elements.{contains_here, contains_later}

falls_there : (next : Option ℕ) (q : ℕ) → falls_to next q ≡ true → next ≡ Some q
falls_there None q h = absurd (true≢false (sym h))
falls_there (Some n) q h = ap (λ (m : ℕ). Some m) (eqb-true n q h)

next_listed : (next other : Option ℕ) (q : ℕ) → next ≡ Some q → Contains (option_to_list next ++ option_to_list other) q
next_listed None other q e = absurd (none-some q e)
next_listed (Some n) other q e = subst (λ (m : ℕ). Contains (n ∷ option_to_list other) m) (same_Some n q e) (contains_here n (option_to_list other))

branch_listed : (next : Option ℕ) (q : ℕ) → Contains (option_to_list next ++ option_to_list (branch_target next (Branch q))) q
branch_listed next q = go (falls_to next q) refl
  where
    go : (v : Bool) → falls_to next q ≡ v → Contains (option_to_list next ++ option_to_list (cond (falls_to next q) None (Some q))) q
    go true e = next_listed next (cond (falls_to next q) None (Some q)) q (falls_there next q e)
    go false e = subst (λ (v : Bool). Contains (option_to_list next ++ option_to_list (cond v None (Some q))) q) (sym e) (Contains-append_right (option_to_list next) (q ∷ []) q (contains_here q []))

-- where a point leads is one of its targets
target_listed : (x : Point) (q : ℕ) → Leads x q → Contains (targets_of x) q
target_listed x q (inl next) = next_listed x.next (branch_target x.next x.exit) q next
target_listed x q (inr branch) = subst (λ (e : Exit). Contains (option_to_list x.next ++ option_to_list (branch_target x.next e)) q) (sym branch) (branch_listed x.next q)

abbrev edge : ℕ → ℕ → Edge
edge p q = record { source = p; target = q }

edge_made : (p q : ℕ) (qs : List ℕ) → Contains qs q → Contains (map (edge p) qs) (edge p q)
edge_made p q [] (k, low, at) = absurd (omega arith)
edge_made p q (r ∷ qs) (zero, low, at) = subst (λ (n : ℕ). Contains (edge p r ∷ map (edge p) qs) (edge p n)) at (contains_here (edge p r) (map (edge p) qs))
edge_made p q (r ∷ qs) (suc k, low, at) = contains_later (edge p r) (map (edge p) qs) (edge p q) (edge_made p q qs (k, omega arith, at))

-- where a branch leads
pub branch_of : (next : Option ℕ) (e : Exit) (q : ℕ) → branch_target next e ≡ Some q → e ≡ Branch q
branch_of next Falls q h = absurd (none-some q h)
branch_of next (Branch r) q h = go (falls_to next r) h
  where
    go : (v : Bool) → cond v None (Some r) ≡ Some q → Branch r ≡ Branch q
    go true h = absurd (none-some q h)
    go false h = ap (λ (n : ℕ). Branch n) (same_Some r q h)
branch_of next Transfer q h = absurd (none-some q h)
branch_of next Call q h = absurd (none-some q h)
branch_of next Return q h = absurd (none-some q h)
branch_of next Stops q h = absurd (none-some q h)

-- each edge is in the list
edge_listed : (start : ℕ) (points : List Point) (p q : ℕ) (x : Point) → slice_get points p ≡ Some x → Leads x q → Contains (edges_from start points) (edge (start + p) q)
edge_listed start [] p q x at leads = absurd (none-some x at)
edge_listed start (y ∷ points) zero q x at leads =
    let here : Leads y q = subst (λ (z : Point). Leads z q) (sym (same_Some y x at)) leads in
    let none : start ≡ start + 0 = omega arith in
    let made : Contains (edges_at start y) (edge (start + 0) q) = subst (λ (n : ℕ). Contains (edges_at start y) (edge n q)) none (edge_made start q (targets_of y) (target_listed y q here)) in
    Contains-append_left (edges_at start y) (edges_from (start + 1) points) (edge (start + 0) q) made
edge_listed start (y ∷ points) (suc p) q x at leads =
    let more = edge_listed (start + 1) points p q x at leads in
    let same : start + 1 + p ≡ start + suc p = omega arith in
    Contains-append_right (edges_at start y) (edges_from (start + 1) points) (edge (start + suc p) q) (subst (λ (n : ℕ). Contains (edges_from (start + 1) points) (edge n q)) same more)

pub edge_of : (f : FlowParts) (p q : ℕ) (x : Point) → slice_get f.points p ≡ Some x → Leads x q → Contains (edges_of f) (edge p q)
edge_of f p q x at leads = subst (λ (n : ℕ). Contains (edges_of f) (edge n q)) (zero-add p) (edge_listed 0 f.points p q x at leads)

length_option : (o : Option ℕ) → length (option_to_list o) ≤ 1
length_option None = omega arith
length_option (Some n) = omega arith

-- a point has at most two edges
pub edges_few : (start : ℕ) (points : List Point) → length (edges_from start points) ≤ 2 * length points
edges_few start [] = omega arith
edges_few start (y ∷ points) =
    let a = length_option y.next in
    let b = length_option (branch_target y.next y.exit) in
    let targets : length (targets_of y) ≡ length (option_to_list y.next) + length (option_to_list (branch_target y.next y.exit)) = length-append (option_to_list y.next) (option_to_list (branch_target y.next y.exit)) in
    let made : length (edges_at start y) ≡ length (targets_of y) = length-map (targets_of y) (edge start) in
    let all : length (edges_from start (y ∷ points)) ≡ length (edges_at start y) + length (edges_from (start + 1) points) = length-append (edges_at start y) (edges_from (start + 1) points) in
    let r = edges_few (start + 1) points in
    omega arith
