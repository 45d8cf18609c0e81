-- What the exit of a point says of its instruction.
use Rattle.std.proofs.Common.{◌≡◌, ◌<◌, ℕ, Bool, true, false, refl, sym, ap, ◌∙◌, subst, arith, length, List, Some, None}
use Rattle.std.specs.Prelude.{slice_get, ◌==◌, if◌then◌else◌}
use Rattle.std.proofs.lemmas.Option.{none-some, same_Some, slice_get_within}
use Rattle.elf_model.specs.Objects.{ObjectParts}
use Rattle.elf_model.proofs.Elements.{element_at}
use Rattle.thumb_instr.specs.declared.instructions.Instr.{Instr}
use Rattle.thumb_instr.specs.declared.instructions.Instr.TheVariants as instr
use Rattle.reloc_places.specs.Relocations.{reloc_at}
use Rattle.flow_recover.specs.declared.flows.Point.{Point}
use Rattle.flow_recover.specs.declared.flows.Exit.{Exit}
use Rattle.flow_recover.specs.declared.flows.Exit.TheVariants as exit
use Rattle.flow_recover.specs.Flows.{FlowParts}
use Rattle.flow_recover.specs.Aims.{is_branch, has_offset, own_target, IsAim}
use Rattle.flow_recover.specs.Aims.IsAim.{by_offset, by_symbol, not_right}
use Rattle.flow_recover.specs.Points.{IsPointAt}
use Rattle.flow_recover.specs.Reach.{node_at}
use Rattle.flow_recover.specs.Walks.{offset_in}
use Rattle.flow_recover.specs.WholeFlows.{IsFlow, IsExit, plain_exit}
use Rattle.flow_recover.specs.WholeFlows.IsExit.{plain, near, far}

-- BL and BLX
abbrev pub calls_out : Instr → Bool
calls_out (instr.Call i) = true
calls_out (instr.CallReg i) = true
calls_out i = false

if_not : (b : Bool) (e f g : Exit) → (g ≡ e → ⊥) → (g ≡ f → ⊥) → g ≡ (if b then e else f) → ⊥
if_not true e f g m n h = m h
if_not false e f g m n h = n h

exit_calls : (i : Instr) → exit.Call ≡ plain_exit i → calls_out i ≡ true
exit_calls (instr.Call i) e = refl
exit_calls (instr.CallReg i) e = refl
exit_calls (instr.Jump i) e = absurd (if_not (i.m == 14) exit.Return exit.Transfer exit.Call (λ h. absurd (cc)) (λ h. absurd (cc)) e)
exit_calls (instr.Multi i) e = absurd (if_not i.pc exit.Return exit.Falls exit.Call (λ h. absurd (cc)) (λ h. absurd (cc)) e)
exit_calls i e = absurd (cc)

no_branch : (q : ℕ) (i : Instr) → exit.Branch q ≡ plain_exit i → ⊥
no_branch q (instr.Jump i) e = if_not (i.m == 14) exit.Return exit.Transfer (exit.Branch q) (λ h. absurd (cc)) (λ h. absurd (cc)) e
no_branch q (instr.Multi i) e = if_not i.pc exit.Return exit.Falls (exit.Branch q) (λ h. absurd (cc)) (λ h. absurd (cc)) e
no_branch q i e = absurd (cc)

branch_has_offset : (i : Instr) → is_branch i ≡ true → has_offset i ≡ true
branch_has_offset (instr.Branch i) e = refl
branch_has_offset (instr.ZeroBranch i) e = refl
branch_has_offset i e = absurd (cc)

calling : (o : ObjectParts) (nodes : List _) (n : _) (i : Instr) (e : Exit) → IsExit o nodes n i e → e ≡ exit.Call → calls_out i ≡ true
calling o nodes n i e (plain b g) h = exit_calls i (sym h ∙ g)
calling o nodes n i e (near y q b a m g) h = absurd (let z = sym h ∙ g in cc)
calling o nodes n i e (far a b m c g) h = absurd (let z = sym h ∙ g in cc)

branching : (o : ObjectParts) (nodes : List _) (n : _) (i : Instr) (e : Exit) → IsExit o nodes n i e → (q : ℕ) → e ≡ exit.Branch q → has_offset i ≡ true
branching o nodes n i e (plain b g) q h = absurd (no_branch q i (sym h ∙ g))
branching o nodes n i e (near y r b a m g) q h = branch_has_offset i b
branching o nodes n i e (far a b m c g) q h = absurd (let z = sym h ∙ g in cc)

-- an aim by the instruction's own number
own_offset : (o : ObjectParts) (j y : ℕ) (i : Instr) {a : _} → IsAim o j y i a → reloc_at o j y ≡ None → offset_in a ≡ Some (own_target y i)
own_offset o j y i (by_offset n e) none = ap offset_in e
own_offset o j y i (by_symbol k r s at right names e) none = absurd (none-some k (sym none ∙ at))
own_offset o j y i (not_right k at wrong e) none = absurd (none-some k (sym none ∙ at))

-- the point of a node that a branch leads to
module _ (o : ObjectParts) (f : FlowParts) (flow : IsFlow o f) where
  found : (q : ℕ) (n : _) → slice_get flow.nodes q ≡ Some n → IsPointAt f n.section n.offset q
  found q n there =
      let lt : q < length flow.nodes = slice_get_within flow.nodes q n there in
      let count = flow.count in
      let x = element_at f.points q (omega arith) in
      let is = flow.points q n x.0 there x.1 in
      record { point = x.0; there = x.1; section = is.section; offset = is.offset }

  aimed_at : (n : _) (i : Instr) (e : Exit) → IsExit o flow.nodes n i e → (q : ℕ) → e ≡ exit.Branch q → reloc_at o n.section n.offset ≡ None → IsPointAt f n.section (own_target n.offset i) q
  aimed_at n i e (plain b g) q h none = absurd (no_branch q i (sym h ∙ g))
  aimed_at n i e (near y r b a m g) q h none =
      let same : r ≡ q = let z = sym g ∙ h in cc in
      let own : y ≡ own_target n.offset i = same_Some y (own_target n.offset i) (own_offset o n.section n.offset i a none) in
      subst (λ (k : ℕ). IsPointAt f n.section (own_target n.offset i) k) same (subst (λ (t : ℕ). IsPointAt f n.section t r) own (found r (node_at n.section y) m))
  aimed_at n i e (far a b m c g) q h none = absurd (let z = sym h ∙ g in cc)

  module _ (k : ℕ) (x : Point) (there : slice_get f.points k ≡ Some x) where
    in_nodes : k < length flow.nodes
    in_nodes = let lt : k < length f.points = slice_get_within f.points k x there in let n = flow.count in omega arith

    pub call_calls : x.exit ≡ exit.Call → calls_out x.instr ≡ true
    call_calls e = let n = element_at flow.nodes k in_nodes in calling o flow.nodes n.0 x.instr x.exit (flow.points k n.0 x n.1 there).exit e

    pub branch_branches : (q : ℕ) → x.exit ≡ exit.Branch q → has_offset x.instr ≡ true
    branch_branches q e = let n = element_at flow.nodes k in_nodes in branching o flow.nodes n.0 x.instr x.exit (flow.points k n.0 x n.1 there).exit q e

    -- a branch without a relocation leads by its own number
    pub own_aim : (q : ℕ) → x.exit ≡ exit.Branch q → x.reloc ≡ None → IsPointAt f x.section (own_target x.offset x.instr) q
    own_aim q e r =
        let n = element_at flow.nodes k in_nodes in
        let is = flow.points k n.0 x n.1 there in
        subst (λ (j : ℕ). IsPointAt f j (own_target x.offset x.instr) q) (sym is.section)
        (subst (λ (y : ℕ). IsPointAt f n.0.section (own_target y x.instr) q) (sym is.offset) (aimed_at n.0 x.instr x.exit is.exit q e (sym is.reloc ∙ r)))
