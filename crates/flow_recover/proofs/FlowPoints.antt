-- Where the points of a flow stand, and what they lead to.
use Rattle.std.proofs.Common.{◌≡◌, ◌↔◌, ◌<◌, ◌≤◌, ℕ, suc, ◌+◌, Bool, true, false, cond, List, [], ◌∷◌, length, map, refl, sym, ap, ◌∙◌, subst, inl, inr, arith, Some, None, Result}
use Rattle.std.specs.Prelude.{slice_get, Contains, IsTrue, ◌==◌, ◌||◌}
use Rattle.std.specs.Result.{result_ok}
use Rattle.std.specs.List.Sorted.{IsStrictlySortedBy, IsSearchInRange, IsBinarySearchResult}
use Rattle.std.proofs.lemmas.Bool.{cases_order}
use Rattle.std.proofs.lemmas.Option.{none-some, same_Some, slice_get_within}
use Rattle.elf_model.specs.Fields.{half_at}
use Rattle.elf_model.specs.Objects.{ObjectParts, is_within}
use Rattle.elf_model.specs.Ranges.{is_long}
use Rattle.thumb_instr.specs.declared.instructions.Instr.{Instr}
use Rattle.thumb_instr.specs.declared.instructions.Instr.TheVariants as instr
use Rattle.thumb_instr.specs.Blocks.{block_condition}
use Rattle.flow_recover.specs.declared.aims.Aim.TheVariants.{Near}
use Rattle.flow_recover.specs.declared.nodes.Node.{Node}
use Rattle.flow_recover.specs.declared.flows.Point.{Point}
use Rattle.flow_recover.specs.declared.flows.Exit.{Exit}
use Rattle.flow_recover.specs.declared.flows.Exit.TheVariants as exit
use Rattle.flow_recover.specs.Flows.{FlowParts}
use Rattle.code_ranges.specs.Spans.{place_cmp}
use Rattle.reloc_places.specs.Starts.{bytes_of, IsCodeStart, behind}
use Rattle.reloc_places.specs.Relocations.{may_fail}
use Rattle.flow_recover.specs.Aims.{IsAim}
use Rattle.flow_recover.specs.Reach.{falls, is_call, IsDeadEnd, EndsAt, node_behind, node_at}
use Rattle.flow_recover.specs.WholeFlows.{plain_exit, IsExit, IsNext, IsPoint, IsEntry, place_of_node, IsFlow}
use Rattle.flow_recover.specs.WholeFlows.IsExit.{plain, near, far}
use Rattle.flow_recover.specs.WholeFlows.IsNext.{on, none}
use Rattle.flow_recover.specs.Points.{IsPointAt, end_of, place_of_point, PointsRise, StopsBehindNops}
use Rattle.flow_recover.proofs.AimFacts.{element_at}
use Rattle.elf_model.proofs.Elements.{place_of}
use Rattle.code_ranges.proofs.PlaceOrder.{place_total, place_exact}
use Rattle.flow_recover.proofs.Searches.{searched_by_key}
use Rattle.reloc_places.proofs.StartFacts.{any_limit, code_within, starts_apart}
use Rattle.flow_recover.proofs.PointFacts.{found_whole}
use Rattle.flow_recover.proofs.CodeStops.{IsEndOfWhole, dead_ends_stop}
use Rattle.flow_recover.proofs.OneFlow.{point_once_at}

-- a point with its node
record HasNode (o : ObjectParts) (f : FlowParts) (flow : IsFlow o f) (p : ℕ) (x : Point) : Type 0 where
  pub node : Node
  pub there : slice_get flow.nodes p ≡ Some node
  pub is : IsPoint o flow.nodes f.words node x

places_same : (xs : List Point) (ns : List Node) → length xs ≡ length ns → ((k : ℕ) (n : Node) (x : Point) → slice_get ns k ≡ Some n → slice_get xs k ≡ Some x → place_of_point x ≡ place_of_node n) → map place_of_point xs ≡ map place_of_node ns
places_same [] [] l same = refl
places_same [] (n ∷ ns) l same = absurd (omega arith)
places_same (x ∷ xs) [] l same = absurd (omega arith)
places_same (x ∷ xs) (n ∷ ns) l same =
    ap (λ (p : ℕ × ℕ). p ∷ map place_of_point xs) (same 0 n x refl refl) ∙ ap (λ (l : List (ℕ × ℕ)). place_of_node n ∷ l) (places_same xs ns (omega arith) (λ k m y at here. same (suc k) m y at here))

-- what exits say of instructions
either_calls : (b : Bool) (d e : Exit) → (d ≡ exit.Call → ⊥) → (e ≡ exit.Call → ⊥) → cond b d e ≡ exit.Call → ⊥
either_calls true d e no_d no_e h = no_d h
either_calls false d e no_d no_e h = no_e h

plain_call : (i : Instr) → plain_exit i ≡ exit.Call → is_call i ≡ true
plain_call (instr.Call i) h = refl
plain_call (instr.CallReg i) h = refl
plain_call (instr.Jump i) h = absurd (either_calls (i.m == 14) exit.Return exit.Transfer (λ e. cc) (λ e. cc) h)
plain_call (instr.Multi i) h = absurd (either_calls i.pc exit.Return exit.Falls (λ e. cc) (λ e. cc) h)
plain_call _ h = absurd (cc)

either_leads : (b : Bool) (d e : Exit) (q : ℕ) → (d ≡ exit.Branch q → ⊥) → (e ≡ exit.Branch q → ⊥) → cond b d e ≡ exit.Branch q → ⊥
either_leads true d e q no_d no_e h = no_d h
either_leads false d e q no_d no_e h = no_e h

plain_leads : (i : Instr) (q : ℕ) → plain_exit i ≡ exit.Branch q → ⊥
plain_leads (instr.Jump i) q h = either_leads (i.m == 14) exit.Return exit.Transfer q (λ e. cc) (λ e. cc) h
plain_leads (instr.Multi i) q h = either_leads i.pc exit.Return exit.Falls q (λ e. cc) (λ e. cc) h
plain_leads _ q h = cc

either_false : (a b : Bool) → (a || b) ≡ false → a ≡ false
either_false true b h = h
either_false false b h = refl

module _ (o : ObjectParts) (f : FlowParts) (flow : IsFlow o f) where
  node_of : (p : ℕ) (x : Point) → slice_get f.points p ≡ Some x → HasNode o f flow p x
  node_of p x at =
      let n = element_at flow.nodes p (subst (λ (k : ℕ). p < k) flow.count (slice_get_within f.points p x at)) in
      record { node = n.0; there = n.1; is = flow.points p n.0 x n.1 at }

  point_of : (q : ℕ) (n : Node) → slice_get flow.nodes q ≡ Some n → IsPointAt f n.section n.offset q
  point_of q n at =
      let x = element_at f.points q (subst (λ (k : ℕ). q < k) (sym flow.count) (slice_get_within flow.nodes q n at)) in
      let is = flow.points q n x.0 at x.1 in
      record { point = x.0; there = x.1; section = is.section; offset = is.offset }

  pub points_rise : IsTrue (is_within o any_limit) → PointsRise f
  points_rise within =
      let few = flow.few in
      let small = code_within o within in
      record {
        few = omega arith;
        order = subst (λ (l : List (ℕ × ℕ)). IsStrictlySortedBy place_cmp l) (sym (places_same f.points flow.nodes flow.count (λ k n x at here. let is = flow.points k n x at here in λ i. (is.section i, is.offset i)))) flow.order;
      }

  module _ (p : ℕ) (x : Point) (at : slice_get f.points p ≡ Some x) where
    has : HasNode o f flow p x
    has = node_of p x at

    ends_behind : end_of x ≡ behind o x.section x.offset
    ends_behind =
        let is = (node_of p x at).is in
        ap (λ (b : Bool). x.offset + cond b 4 2) (is.wide ∙ ap (λ (j : ℕ). is_long (half_at (bytes_of o j) (node_of p x at).node.offset)) (sym is.section) ∙ ap (λ (k : ℕ). is_long (half_at (bytes_of o x.section) k)) (sym is.offset))

    -- the end of its instruction is that of its node
    ends_as_node : (n : Node) → x.section ≡ n.section → x.offset ≡ n.offset → behind o n.section n.offset ≡ end_of x
    ends_as_node n s e = sym (ends_behind ∙ ap (λ (j : ℕ). behind o j x.offset) s ∙ ap (λ (k : ℕ). behind o n.section k) e)

    pub next_there : (q : ℕ) → x.next ≡ Some q → IsPointAt f x.section (end_of x) q
    next_there q leads = go (node_of p x at)
      where
        go : HasNode o f flow p x → IsPointAt f x.section (end_of x) q
        go h = by_next h.is.next
          where
            by_next : IsNext o flow.nodes h.node x.instr x.next → IsPointAt f x.section (end_of x) q
            by_next (on r goes there is) =
                let same : r ≡ q = same_Some r q (sym is ∙ leads) in
                let y = point_of r (node_behind o h.node x.instr) there in
                record { point = y.point; there = ap (slice_get f.points) (sym same) ∙ y.there; section = y.section ∙ sym h.is.section; offset = y.offset ∙ ends_as_node h.node h.is.section h.is.offset }
            by_next (none ends is) = absurd (none-some q (sym is ∙ leads))

    pub target_there : (q : ℕ) → x.exit ≡ exit.Branch q → (t : ℕ) × IsAim o x.section x.offset x.instr (Near t) × IsPointAt f x.section t q
    target_there q leads = go (node_of p x at)
      where
        go : HasNode o f flow p x → (t : ℕ) × IsAim o x.section x.offset x.instr (Near t) × IsPointAt f x.section t q
        go h = by_exit h.is.exit
          where
            by_exit : IsExit o flow.nodes h.node x.instr x.exit → (t : ℕ) × IsAim o x.section x.offset x.instr (Near t) × IsPointAt f x.section t q
            by_exit (plain b is) = absurd (plain_leads x.instr q (sym is ∙ leads))
            by_exit (near t r b aim there is) =
                let same : r ≡ q = cc in
                let y = point_of r (node_at h.node.section t) there in (
                  t,
                  subst (λ (j : ℕ). IsAim o j x.offset x.instr (Near t)) (sym h.is.section) (subst (λ (k : ℕ). IsAim o h.node.section k x.instr (Near t)) (sym h.is.offset) aim),
                  record { point = y.point; there = ap (slice_get f.points) (sym same) ∙ y.there; section = y.section ∙ sym h.is.section; offset = y.offset },
                )
            by_exit (far a b aim away is) = cc

    -- a call to which nothing returns
    module _ (call : x.exit ≡ exit.Call) (last : x.next ≡ None) where
      ends : (h : HasNode o f flow p x) → EndsAt o h.node x.instr
      ends h = by_next h.is.next
        where
          by_next : IsNext o flow.nodes h.node x.instr x.next → EndsAt o h.node x.instr
          by_next (on r goes there is) = absurd (none-some r (sym last ∙ is))
          by_next (none e is) = e

      calls : (h : HasNode o f flow p x) → is_call x.instr ≡ true
      calls h = by_exit h.is.exit
        where
          by_exit : IsExit o flow.nodes h.node x.instr x.exit → is_call x.instr ≡ true
          by_exit (plain b is) = plain_call x.instr (sym is ∙ call)
          by_exit (near t r b aim there is) = absurd (cc)
          by_exit (far a b aim away is) = absurd (cc)

      pub call_is_made : may_fail x.cond ≡ false
      call_is_made = let h = node_of p x at in ap may_fail h.is.cond ∙ either_false (may_fail (block_condition h.node.it)) (falls x.instr) (ends h).leaves

      pub call_is_last : IsDeadEnd o x.section (end_of x)
      call_is_last =
          let h = node_of p x at in
          subst (λ (j : ℕ). IsDeadEnd o j (end_of x)) (sym h.is.section) (subst (IsDeadEnd o h.node.section) (ends_as_node h.node h.is.section h.is.offset) ((ends h).dead (calls h)))

      pub call_stops : StopsBehindNops o x.section (end_of x)
      call_stops =
          let h = node_of p x at in
          let same = ends_as_node h.node h.is.section h.is.offset in
          let whole : IsEndOfWhole o h.node.section (end_of x) = record { at = h.node.offset; end = h.is.instr.end; start = h.is.instr.start; whole = let w = found_whole o h.node x.instr h.is.instr in omega arith; is = same } in
          let dead : IsDeadEnd o h.node.section (end_of x) = subst (IsDeadEnd o h.node.section) same ((ends h).dead (calls h)) in
          subst (λ (j : ℕ). StopsBehindNops o j (end_of x)) (sym h.is.section) (dead_ends_stop o flow.ranges.sound h.node.section (end_of x) whole dead)

  -- of two points of a section the first ends where the second begins, or before
  before : (p q : ℕ) (x y : Point) → slice_get f.points p ≡ Some x → slice_get f.points q ≡ Some y → x.section ≡ y.section → x.offset < y.offset → end_of x ≤ y.offset
  before p q x y at at2 same less =
      let h = node_of p x at in
      let k = node_of q y at2 in
      let section : k.node.section ≡ h.node.section = sym k.is.section ∙ sym same ∙ h.is.section in
      let start = subst (λ (j : ℕ). IsCodeStart o j (bytes_of o j) k.node.offset k.is.instr.end) section k.is.instr.start in
      let a = h.is.offset in
      let b = k.is.offset in
      let whole = found_whole o h.node x.instr h.is.instr in
      let apart = starts_apart o h.node.section h.node.offset k.node.offset h.is.instr.end k.is.instr.end h.is.instr.start whole start (omega arith) in
      let end = ends_as_node p x at h.node h.is.section h.is.offset in
      omega arith

  pub ends_apart : (p q : ℕ) (x y : Point) → slice_get f.points p ≡ Some x → slice_get f.points q ≡ Some y → x.section ≡ y.section → end_of x ≡ end_of y → p ≡ q
  ends_apart p q x y at at2 same end =
      elim (cases_order x.offset y.offset) [
        | inl e ↦ point_once_at o f flow p q x y at at2 same e
        | inr (inl l) ↦ let b = before p q x y at at2 same l in let w = wide_more y in absurd (omega arith)
        | inr (inr l) ↦ let b = before q p y x at2 at (sym same) l in let w = wide_more x in absurd (omega arith)
      ]
    where
      wide_more : (z : Point) → z.offset < end_of z
      wide_more z = go z.wide
        where
          go : (b : Bool) → z.offset < z.offset + cond b 4 2
          go true = omega arith
          go false = omega arith

  pub entry_there : (j x : ℕ) → IsEntry o j x → (q : ℕ) × Contains f.entries q × IsPointAt f j x q
  entry_there j x e =
      let at = place_of flow.nodes (node_at j x) (flow.entered j x e) in
      (at.0, (flow.entries at.0).1 (j, x, (e, at.1)), point_of at.0 (node_at j x) at.1)

  pub entry_is : (q : ℕ) → Contains f.entries q → (j x : ℕ) × (IsEntry o j x × IsPointAt f j x q)
  entry_is q h = let e = (flow.entries q).0 h in (e.0, e.1, (e.2.0, point_of q (node_at e.0 e.1) e.2.1))

-- what a search by places finds
pub searched_point : (f : FlowParts) (points : List Point) (j x : ℕ) → PointsRise f → points ≡ f.points → (r : Result ℕ ℕ) → IsSearchInRange r (length points) → IsBinarySearchResult (λ p. place_cmp (place_of_point p) (j, x)) points r
    → (q : ℕ) → (result_ok r ≡ Some q) ↔ IsPointAt f j x q
searched_point f points j x rise e r range found q =
    let place : ℕ × ℕ = (j, x) in
    let is = searched_by_key place_total place_exact place_of_point place points (subst (λ (l : List Point). IsStrictlySortedBy place_cmp (map place_of_point l)) (sym e) rise.order) r range found q in (
      (λ h. let p = is.0 h in record { point = p.0; there = ap (λ (l : List Point). slice_get l q) (sym e) ∙ p.1; section = ap (λ (k : ℕ × ℕ). k.0) p.2; offset = ap (λ (k : ℕ × ℕ). k.1) p.2 }),
      (λ h. is.1 (h.point, ap (λ (l : List Point). slice_get l q) e ∙ h.there, λ i. (h.section i, h.offset i))),
    )
