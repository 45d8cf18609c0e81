-- Where the points of a flow lead to: branches and calls without relocation to points, literal loads to words, IT to the
-- next point.
use Rattle.std.proofs.Common.{◌≡◌, ◌<◌, ℕ, Bool, true, false, length, refl, sym, ap, ◌∙◌, subst, Some, None}
use Rattle.std.specs.Prelude.{slice_get, ◌||◌}
use Rattle.std.proofs.lemmas.Bool.{both_ways}
use Rattle.std.proofs.lemmas.Option.{none-some, slice_get_within}
use Rattle.elf_model.specs.Objects.{ObjectParts}
use Rattle.elf_model.proofs.Elements.{element_at, contains_at}
use Rattle.thumb_instr.specs.declared.instructions.Instr.{Instr}
use Rattle.thumb_instr.specs.declared.instructions.Instr.TheVariants as instr
use Rattle.thumb_instr.specs.Fields.{CallFields, ItFields, LiteralFields}
use Rattle.thumb_instr.specs.Blocks.{block_condition}
use Rattle.reloc_places.specs.Relocations.{may_fail}
use Rattle.flow_recover.specs.declared.flows.Point.{Point}
use Rattle.flow_recover.specs.declared.flows.PoolWord.{PoolWord}
use Rattle.flow_recover.specs.declared.flows.Exit.TheVariants as exit
use Rattle.flow_recover.specs.Flows.{FlowParts}
use Rattle.flow_recover.specs.Aims.{is_branch, has_offset, own_target}
use Rattle.flow_recover.specs.Aims.IsAim.{by_offset, by_symbol, not_right}
use Rattle.flow_recover.specs.Reach.{node_at, falls}
use Rattle.flow_recover.specs.Points.{IsPointAt, end_of}
use Rattle.flow_recover.specs.WholeFlows.{is_near, plain_exit, IsEntry, IsFlow}
use Rattle.flow_recover.specs.WholeFlows.IsExit.{plain, near, far}
use Rattle.flow_recover.specs.WholeFlows.IsNext.{on, none}
use Rattle.flow_recover.specs.WholeFlows.IsLoaded.{literal, none as unloaded}
use Rattle.flow_recover.specs.WholeFlows.{IsEntry as entry}
use Rattle.flow_recover.specs.WholeFlows.{Enters as enters}
use Rattle.flow_recover.proofs.FlowPoints.{next_there, entry_there}

or_true : (b : Bool) → (b || true) ≡ false → ⊥
or_true true e = both_ways true e refl
or_true false e = both_ways true e refl

module _ (o : ObjectParts) (f : FlowParts) (flow : IsFlow o f) (p : ℕ) (x : Point) (at : slice_get f.points p ≡ Some x) where
  low : p < length flow.nodes
  low = subst (λ (k : ℕ). p < k) flow.count (slice_get_within f.points p x at)

  -- the point of a node, by its number
  point_at : (j y q : ℕ) → slice_get flow.nodes q ≡ Some (node_at j y) → IsPointAt f j y q
  point_at j y q there =
      let z = element_at f.points q (subst (λ (k : ℕ). q < k) (sym flow.count) (slice_get_within flow.nodes q (node_at j y) there)) in
      let is = flow.points q (node_at j y) z.0 there z.1 in
      record { point = z.0; there = z.1; section = is.section; offset = is.offset }

  pub branch_leads : is_branch x.instr ≡ true → x.reloc ≡ None → (q : ℕ) × (y : ℕ) × (x.exit ≡ exit.Branch q) × IsPointAt f x.section y q
  branch_leads branch free =
      let n = element_at flow.nodes p low in
      let is = flow.points p n.0 x n.1 at in
      elim is.exit [
        | plain other e ↦ absurd (both_ways (is_branch x.instr) other branch)
        | near y q b aim there e ↦ (q, y, e, subst (λ (j : ℕ). IsPointAt f j y q) (sym is.section) (point_at n.0.section y q there))
        | far a b aim away e ↦ elim aim [
          | by_offset alone to ↦ absurd (both_ways (is_near a) away (ap is_near to))
          | by_symbol k r s there right names to ↦ absurd (none-some k (sym free ∙ is.reloc ∙ there))
          | not_right k there wrong to ↦ absurd (none-some k (sym free ∙ is.reloc ∙ there))
        ]
      ]

  pub call_leads : (i : CallFields) → x.instr ≡ instr.Call i → x.reloc ≡ None → (x.exit ≡ exit.Call) × ((q : ℕ) × IsPointAt f x.section (own_target x.offset x.instr) q)
  call_leads i form free =
      let n = element_at flow.nodes p low in
      let is = flow.points p n.0 x n.1 at in
      let reached = (flow.reached n.0).0 (contains_at flow.nodes p n.0 n.1) in
      let no_branch : is_branch x.instr ≡ false = ap is_branch form in
      let entered : IsEntry o n.0.section (own_target n.0.offset x.instr) = entry.entered n.0 x.instr (record { reached = reached; found = is.instr }) (enters.by_call (ap has_offset form) no_branch (by_offset (sym is.reloc ∙ free) refl)) refl in
      let there = entry_there o f flow n.0.section (own_target n.0.offset x.instr) entered in (
        elim is.exit [
          | plain other e ↦ e ∙ ap plain_exit form
          | near y q b aim there e ↦ absurd (both_ways (is_branch x.instr) no_branch b)
          | far a b aim away e ↦ absurd (both_ways (is_branch x.instr) no_branch b)
        ],
        (there.0, subst (λ (j : ℕ). IsPointAt f j (own_target x.offset x.instr) there.0) (sym is.section) (subst (λ (y : ℕ). IsPointAt f n.0.section (own_target y x.instr) there.0) (sym is.offset) there.2)),
      )

  -- a literal load loads a word of its section
  pub word_there : (l : LiteralFields) → x.instr ≡ instr.Literal l → (k : ℕ) × (w : PoolWord) × (x.word ≡ Some k) × (slice_get f.words k ≡ Some w) × (w.section ≡ x.section)
  word_there l form =
      let n = element_at flow.nodes p low in
      let is = flow.points p n.0 x n.1 at in
      elim is.word [
        | literal m k w same there section place loads ↦ (k, w, loads, there, section ∙ sym is.section)
        | unloaded free loads ↦ absurd (free l form)
      ]

  -- behind an IT another point stands
  pub it_next : (i : ItFields) → x.instr ≡ instr.It i → (q : ℕ) × IsPointAt f x.section (end_of x) q
  it_next i form =
      let n = element_at flow.nodes p low in
      let is = flow.points p n.0 x n.1 at in
      elim is.next [
        | on q goes there next ↦ (q, next_there o f flow p x at q next)
        | none ends next ↦ absurd (or_true (may_fail (block_condition n.0.it)) (sym (ap (λ (j : Instr). may_fail (block_condition n.0.it) || falls j) form) ∙ ends.leaves))
      ]
