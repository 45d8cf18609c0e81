-- Points with the nodes that they stand for, and what stands at their places.
use Rattle.std.proofs.Common.{◌≡◌, ◌<◌, ◌≤◌, ℕ, Bool, true, false, cond, List, refl, sym, ap, ◌∙◌, subst, inl, inr, arith, Some, Ok, Err}
use Rattle.std.specs.Prelude.{slice_get, Contains, ◌==◌, ◌&&◌}
use Rattle.std.proofs.lemmas.Bool.{and_parts, eqb-true, cases_order}
use Rattle.std.proofs.lemmas.List.Quantifiers.{position-Some}
use Rattle.std.proofs.lemmas.Option.{same_Some, slice_get_within, get_or_from_slice_get}
use Rattle.elf_model.specs.declared.objects.Reloc.{Reloc}
use Rattle.elf_model.specs.declared.ranges.RangeKind.TheVariants.{Code, Data}
use Rattle.elf_model.specs.declared.refusals.Refusal.TheVariants as refusal
use Rattle.elf_model.specs.Objects.{ObjectParts}
use Rattle.elf_model.specs.Ranges.{IsRange, is_whole}
use Rattle.elf_model.proofs.Elements.{element_at}
use Rattle.thumb_instr.specs.declared.instructions.Instr.{Instr}
use Rattle.thumb_instr.specs.declared.refusals.BadInstr.TheVariants.{Unknown}
use Rattle.code_ranges.specs.Spans.{kind_at}
use Rattle.code_ranges.proofs.KindFacts.{kind_here}
use Rattle.code_ranges.proofs.RangeOrder.{range_ends}
use Rattle.reloc_places.specs.Starts.{bytes_of, HasStart, IsDataWord, decoded_at, instr_at}
use Rattle.reloc_places.specs.Relocations.{reloc_at}
use Rattle.reloc_places.proofs.StartFacts.{start_before, start_behind}
use Rattle.flow_recover.specs.declared.flows.Point.{Point}
use Rattle.flow_recover.specs.declared.flows.PoolWord.{PoolWord}
use Rattle.flow_recover.specs.Flows.{FlowParts}
use Rattle.flow_recover.specs.FlowFaults.{FlowFault as fault}
use Rattle.flow_recover.specs.WholeFlows.{IsFlow}

-- what is decoded before the end of a range
pub decoded_whole : (bytes : List ℕ) (end x it : ℕ) (i : Instr) → instr_at bytes end x it ≡ Ok i → decoded_at bytes x it ≡ Ok i
decoded_whole bytes end x it i h = go (is_whole bytes end x) h
  where
    go : (b : Bool) → cond b (decoded_at bytes x it) (Err Unknown) ≡ Ok i → decoded_at bytes x it ≡ Ok i
    go true h = h
    go false h = absurd (cc)

-- what stands at a point
pub record IsAtPoint (o : ObjectParts) (x : Point) : Type 0 where
  pub start : HasStart o x.section x.offset
  pub it : ℕ
  pub instr : decoded_at (bytes_of o x.section) x.offset it ≡ Ok x.instr
  pub reloc : x.reloc ≡ reloc_at o x.section x.offset

pub at_point : (o : ObjectParts) (f : FlowParts) → IsFlow o f → (p : ℕ) (x : Point) → slice_get f.points p ≡ Some x → IsAtPoint o x
at_point o f flow p x at =
    let n = element_at flow.nodes p (subst (λ (k : ℕ). p < k) flow.count (slice_get_within f.points p x at)) in
    let is = flow.points p n.0 x n.1 at in
    let start : HasStart o n.0.section n.0.offset = record { end = is.instr.end; start = is.instr.start } in
    record {
      start = subst (λ (j : ℕ). HasStart o j x.offset) (sym is.section) (subst (HasStart o n.0.section) (sym is.offset) start);
      it = n.0.it;
      instr = ap (λ (j : ℕ). decoded_at (bytes_of o j) x.offset n.0.it) is.section ∙ (ap (λ (a : ℕ). decoded_at (bytes_of o n.0.section) a n.0.it) is.offset
          ∙ decoded_whole (bytes_of o n.0.section) is.instr.end n.0.offset n.0.it x.instr is.instr.is);
      reloc = is.reloc ∙ (ap (λ (j : ℕ). reloc_at o j n.0.offset) (sym is.section) ∙ ap (λ (a : ℕ). reloc_at o x.section a) (sym is.offset));
    }

-- ranges of code and of data share no offset
no_both : (o : ObjectParts) (j a b c d x : ℕ) → IsRange o Code j a b → IsRange o Data j c d → a ≤ x → x < b → c ≤ x → x < d → ⊥
no_both o j a b c d x r s l1 l2 l3 l4 =
    elim (cases_order a c) [
      | inl e ↦
          let one = kind_here o Code j a r.begins in
          let two = kind_here o Data j c s.begins in
          let same : Some Code ≡ Some Data = sym one ∙ (ap (λ (n : ℕ). kind_at o.symbols j n) e ∙ two) in
          absurd (cc)
      | inr w ↦ elim w [
        | inl low ↦ let h = range_ends o Code Data j a b c d r s low in omega arith
        | inr low ↦ let h = range_ends o Data Code j c d a b s r low in omega arith
      ]
    ]

-- no instruction starts at a word of data
pub start_is_no_word : (o : ObjectParts) (j x : ℕ) → HasStart o j x → IsDataWord o j x → ⊥
start_is_no_word o j x h w =
    let a = start_before (bytes_of o j) h.start.start h.end x h.start.is_start in
    let b = start_behind (bytes_of o j) h.start.start h.end x h.start.is_start in
    let high = w.before_end in
    no_both o j h.start.start h.end w.start w.end x h.start.range w.range b a w.behind_start (omega arith)

-- so none of a flow's points stands at a word that is loaded
pub points_miss_words : (o : ObjectParts) (f : FlowParts) → IsFlow o f → (p : ℕ) (x : Point) (w : PoolWord) → slice_get f.points p ≡ Some x → Contains f.words w → x.section ≡ w.section → x.offset ≡ w.offset → ⊥
points_miss_words o f flow p x w at listed section offset =
    let is = (flow.words w).0 listed in
    let start = subst (λ (j : ℕ). HasStart o j w.offset) section (subst (HasStart o x.section) offset (at_point o f flow p x at).start) in
    flow.no_fault refusal.IntoMiddle is.node.section is.node.offset
    (fault.no_word is.node is.literal is.loads (λ v e word.
    let same : v ≡ w.offset = same_Some v w.offset (sym e ∙ is.offset) in
    start_is_no_word o w.section w.offset start (subst (λ (j : ℕ). IsDataWord o j w.offset) (sym is.section) (subst (IsDataWord o is.node.section) same word))) refl refl refl)

-- the relocation at a place stands there
pub reloc_at_is : (o : ObjectParts) (j x k : ℕ) (r : Reloc) → reloc_at o j x ≡ Some k → slice_get o.relocs k ≡ Some r → (r.section ≡ j) × (r.offset ≡ x)
reloc_at_is o j x k r at there =
    let h = position-Some (λ (q : Reloc). (q.section == j) && (q.offset == x)) o.relocs k r at in
    let same = get_or_from_slice_get o.relocs k r r there in
    let parts = and_parts (r.section == j) (r.offset == x) (sym (ap (λ (q : Reloc). (q.section == j) && (q.offset == x)) same) ∙ h.1) in
    (eqb-true r.section j parts.0, eqb-true r.offset x parts.1)
