-- The points of a chart of lists meet what is asked of an ordinary step, with what linking puts at their units.
use Rattle.std.specs.Prelude.{◌≡◌, ℕ, ◌+◌, List, refl}
use Rattle.std.proofs.Common.{ap, sym, ◌∙◌, subst}
use Rattle.thumb_instr.specs.declared.instructions.Instr.{Instr}
use Rattle.thumb_instr.specs.declared.instructions.Instr.TheVariants as instr
use Rattle.thumb_instr.specs.Fields.{LiteralFields, ZeroBranchFields}
use Rattle.thumb_instr.specs.Numbers.{renumbered}
use Rattle.thumb_table.specs.declared.placements.Placement.{Placement}
use Rattle.thumb_table.specs.Parts.{Image}
use Rattle.flow_recover.specs.declared.flows.Exit.{Exit}
use Rattle.flow_recover.specs.Aims.{has_offset}
use Rattle.seq_core.specs.Meanings.{Ends}
use Rattle.sim_charts.specs.Charts.{Chart, Point}
use Rattle.sim_steps.specs.Facts.{Meets}
use Rattle.sim_flows.specs.Points.{IsPointOf}
use Rattle.sim_flows.specs.Meeting.{IsLinkedAt}
use Rattle.sim_flows.proofs.Meeting.{flows_meet}
use Rattle.sim_relation.specs.Accepted.{boundaries}
use Rattle.sim_relation.specs.Standing.{Linking}
use Rattle.sim_relation.specs.Doing.{ends_at}
use Rattle.sim_objects.specs.Lists.{Pairing, plains, hards, HaveImages}
use Rattle.sim_objects.specs.Charts.{start_at, address_in, back_of, IsPointAt, IsChartOf}
use Rattle.sim_objects.specs.Working.{number_of}
use Rattle.sim_objects.specs.Linking.{hard_start}
use Rattle.sim_objects.specs.UnitLinks.{IsUnitLink}
use Rattle.sim_objects.specs.Meeting.{UnitsMeet}
use Rattle.sim_objects.proofs.Points.{flow_point, charts_have_points}
use Rattle.sim_objects.proofs.Leading.{near_meets, far_meets, zero_meets}
use Rattle.sim_objects.proofs.Numbering.{half_meets, word_meets}

-- what an instruction was before it had another number
same_offset : (i : Instr) (n : ℕ) → has_offset (renumbered n i) ≡ has_offset i
same_offset (instr.Half i) n = refl
same_offset (instr.Branch i) n = refl
same_offset (instr.Call i) n = refl
same_offset i n = refl

was_zero : (i : Instr) (b : ZeroBranchFields) → renumbered 0 i ≡ instr.ZeroBranch b → i ≡ instr.ZeroBranch b
was_zero (instr.Half i) b e = absurd (cc)
was_zero (instr.Branch i) b e = absurd (cc)
was_zero (instr.Call i) b e = absurd (cc)
was_zero i b e = e

was_literal : (i : Instr) (b : LiteralFields) → renumbered 0 i ≡ instr.Literal b → i ≡ instr.Literal b
was_literal (instr.Half i) b e = absurd (cc)
was_literal (instr.Branch i) b e = absurd (cc)
was_literal (instr.Call i) b e = absurd (cc)
was_literal i b e = e

module _ (F c K : ℕ) (pairs : List (Pairing F c K)) (at : Placement) (plain hard : Image) (images : HaveImages F c K pairs at plain hard) (chart : Chart) (is : IsChartOf F c K pairs at chart)
    (a : ℕ) (p : Point) (A : IsPointAt F c K pairs at a p) (link : Linking) (given : IsUnitLink F c K pairs at A.file A.pairing A.point link) where
  known : IsPointOf A.pairing.pair.flow (boundaries K) (address_in (plains pairs) at A.file A.pairing.pair.flow) A.number A.point p
  known = flow_point F c K pairs at A.file A.number A.pairing A.point p A.is_point A.is

  linked_there : IsLinkedAt chart plain.code (address_in (plains pairs) at A.file A.pairing.pair.flow) a A.point p (number_of A.point.reloc link.number A.point.instr) (ends_at (hard_start A) link A.is.unit)
  linked_there = record {
    near = λ m r e there. near_meets F c K pairs at plain hard images chart is a p A link given m r e there;
    far = λ offset leaves_it.
        far_meets F c K pairs at plain hard images chart is a p A link given (sym (sym (same_offset p.instr 0) ∙ (ap has_offset (known.instr 0) ∙ same_offset A.point.instr 0)) ∙ offset) leaves_it;
    zero = λ b e. zero_meets F c K pairs at plain hard images chart is a p A link given b (was_zero A.point.instr b (sym (known.instr 0) ∙ ap (λ (i : Instr). renumbered 0 i) e));
    back = λ call. sym (A.is.back ∙ ap (λ (e : Exit). start_at (hards pairs) at A.file A.point.section + back_of e A.is.unit) call);
    half = λ b e. half_meets F c K pairs at plain hard images chart is a p A link given b e;
    word = λ b e. word_meets F c K pairs at plain hard images chart is a p A link given b (was_literal A.point.instr b (sym (known.instr 0) ∙ ap (λ (i : Instr). renumbered 0 i) e));
  }

  unit_meets : Meets chart plain.code a p (number_of A.point.reloc link.number A.point.instr) (ends_at (hard_start A) link A.is.unit) p.instr
  unit_meets =
      let address = address_in (plains pairs) at A.file A.pairing.pair.flow in
      let n : ℕ = number_of A.point.reloc link.number A.point.instr in
      let ends : Ends = ends_at (hard_start A) link A.is.unit in
      subst (λ (k : ℕ). Meets chart plain.code k p n ends p.instr) (sym A.address)
      (flows_meet chart plain.code A.pairing.plain A.pairing.pair.flow (boundaries K) address A.pairing.pair.accepted.flow (charts_have_points F c K pairs at chart is A.file A.pairing A.is_pair)
      A.number n A.point p ends A.is_point known (subst (λ (k : ℕ). IsLinkedAt chart plain.code address k A.point p n ends) A.address linked_there))

pub units_meet : UnitsMeet
units_meet F c K pairs at plain hard chart images is a p there A link given = unit_meets F c K pairs at plain hard images chart is a p A link given
