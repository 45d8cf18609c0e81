-- The point that a call by its own number leads to.
use Rattle.std.specs.Prelude.{◌≡◌, ◌↔◌, ℕ, true, Option, Some, None}
use Rattle.std.proofs.Common.{sym, ◌∙◌}
use Rattle.flow_recover.specs.declared.flows.Point.{Point}
use Rattle.flow_recover.specs.declared.flows.Exit.TheVariants.{Branch, Call}
use Rattle.flow_recover.specs.Flows.{FlowParts}
use Rattle.flow_recover.specs.Aims.{has_offset, own_target}
use Rattle.flow_recover.specs.Points.{IsPointAt}
use Rattle.point_units.specs.Units.{LeadsTo}
use Rattle.point_units.specs.Units.LeadsTo.{by_branch, by_call}

module _ (f : FlowParts) (x : Point) (q : ℕ) where
  call_only : x.exit ≡ Call → LeadsTo f x q → (x.reloc ≡ None) × (has_offset x.instr ≡ true) × IsPointAt f x.section (own_target x.offset x.instr) q
  call_only is (by_branch e) = let wrong : Branch q ≡ Call = sym e ∙ is in absurd (cc)
  call_only is (by_call e none has at) = (none, has, at)

  pub call_leads : (r : Option ℕ) → x.exit ≡ Call → x.reloc ≡ None → has_offset x.instr ≡ true → (r ≡ Some q) ↔ IsPointAt f x.section (own_target x.offset x.instr) q → (r ≡ Some q) ↔ LeadsTo f x q
  call_leads r is none has same = (λ e. by_call is none has (same.0 e), λ l. same.1 (call_only is l).2)
