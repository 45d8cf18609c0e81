-- Nothing stands in the way of the flow.
use Rattle.std.proofs.Common.{◌≡◌, ℕ, ◌+◌, ◌*◌, ◌<◌, true, refl, sym, ap, ◌∙◌, subst, inl, inr, Err, Ok}
use Rattle.std.specs.Prelude.{◌||◌}
use Rattle.std.proofs.lemmas.Bool.{true≢false}
use Rattle.elf_model.specs.declared.refusals.Refusal.{Refusal}
use Rattle.elf_model.specs.declared.refusals.Spot.{Spot}
use Rattle.elf_model.specs.declared.refusals.Deny.TheVariants.{Refused}
use Rattle.elf_model.specs.Ranges.{length_at}
use Rattle.thumb_instr.specs.declared.instructions.Instr.{Instr}
use Rattle.thumb_instr.specs.declared.instructions.Instr.TheVariants as instr
use Rattle.thumb_instr.specs.Fields.{ItFields}
use Rattle.thumb_instr.specs.Blocks.{block_condition}
use Rattle.reloc_places.specs.Starts.{bytes_of, HasStart, behind}
use Rattle.reloc_places.specs.Relocations.{may_fail}
use Rattle.flow_recover.specs.Reach.{IsFound, falls, may_fall, Aims, IsReached}
use Rattle.flow_recover.specs.FlowFaults.{IsReachedInstr, IsClaim, FlowFault, IsFlowDenial}
use Rattle.flow_recover.specs.FlowFaults.IsClaim.{by_object, by_instr}
use Rattle.flow_recover.specs.FlowFaults.FlowFault.{no_instr, adr, relocation, no_start, in_block, absolute, arm_address, no_word, no_code, cut_block}
use Rattle.gen_object.specs.Generated.{code_bytes, generated}
use Rattle.gen_flow.specs.GeneratedCode.{pushes, IsCount, StandsAt}
use Rattle.gen_flow.specs.GeneratedCode.StandsAt.{first}
use Rattle.gen_flow.proofs.CodeStarts.{behind_stands, falls_within}
use Rattle.gen_flow.proofs.OtherInstrs.{stands_other}
use Rattle.gen_flow.proofs.ObjectRanges.{stands_has_start, no_range_fault}
use Rattle.gen_flow.proofs.ObjectCalls.{reloc_right}
use Rattle.gen_flow.proofs.KnownNodes.{no_reference, named_is, found_is, reached_is, reached_stands, aim_is}

module _ (seed count : ℕ) (limits : IsCount count) where
  function_has_start : (j x k : ℕ) → j ≡ 0 → k < count → x ≡ 14 * k → HasStart (generated seed count) j x
  function_has_start j x k section few place = stands_has_start seed count limits.low j x pushes section (first k few place refl)

  -- where control is sent, an instruction starts
  aims_start : (n : _) (i : Instr) (x : ℕ) → IsReachedInstr (generated seed count) n i → Aims (generated seed count) n i x → HasStart (generated seed count) n.section x
  aims_start n i x r aims =
      let known = reached_is seed count limits n r.reached in
      let stands = reached_stands seed count limits n i r in
      elim aims.aim [
        | inl near ↦ let to = aim_is seed count limits n.section n.offset i _ known.section stands aims.has near in absurd (cc (to.2))
        | inr shared ↦
            let to = aim_is seed count limits n.section n.offset i _ known.section stands aims.has shared in
            let place : x ≡ 14 * (to.0 + 1) = cc (to.2) in
            function_has_start n.section x (to.0 + 1) known.section to.1 place
      ]

  claim_starts : (j x section offset : ℕ) → IsClaim (generated seed count) j x section offset → HasStart (generated seed count) j x
  claim_starts j x section offset (by_object named) =
      let to = named_is seed count j x section offset named in
      function_has_start j x to.1.0 to.0 to.1.1 to.1.2
  claim_starts j x section offset (by_instr n i r aims same _ _) = subst (λ (h : ℕ). HasStart (generated seed count) h x) (sym same) (aims_start n i x r aims)

  falls_on : (n : _) (i : Instr) → IsReachedInstr (generated seed count) n i → may_fall n i ≡ true → HasStart (generated seed count) n.section (behind (generated seed count) n.section n.offset)
  falls_on n i r on =
      let known = reached_is seed count limits n r.reached in
      let stands = reached_stands seed count limits n i r in
      let does : falls i ≡ true = ap (λ (it : ℕ). may_fail (block_condition it) || falls i) (sym known.it) ∙ on in
      let next = behind_stands seed count limits.low n.offset i stands (falls_within seed count limits.low n.offset i stands does) in
      let place : n.offset + length_at (code_bytes seed count) n.offset ≡ behind (generated seed count) n.section n.offset =
      ap (λ (j : ℕ). n.offset + length_at (bytes_of (generated seed count) j) n.offset) (sym known.section) in
      stands_has_start seed count limits.low n.section (behind (generated seed count) n.section n.offset) next.0 known.section
      (subst (λ (y : ℕ). StandsAt seed count y next.0) place next.1)

  no_it : (n : _) (it : ItFields) → IsReached (generated seed count) n → IsFound (generated seed count) n (Ok (instr.It it)) → ⊥
  no_it n it reached found = true≢false (sym (stands_other seed count n.offset (instr.It it) (reached_stands seed count limits n (instr.It it) (record { reached = reached; found = found }))))

  pub no_flow_fault : (r : Refusal) (section offset : ℕ) → FlowFault (generated seed count) r section offset → ⊥
  no_flow_fault r section offset (no_instr n b reached found _ _ _) =
      let here = found_is seed count limits n (Err b) found (reached_is seed count limits n reached) in
      absurd (cc (here.2))
  no_flow_fault r section offset (adr n i reached _ _ _) = true≢false (sym (stands_other seed count n.offset (instr.Adr i) (reached_stands seed count limits n (instr.Adr i) reached)))
  no_flow_fault r section offset (relocation k q at wrong _ _ _) = wrong (reloc_right seed count limits.low k q at)
  no_flow_fault r section offset (no_start j x claim none _) = none (claim_starts j x section offset claim)
  no_flow_fault r section offset (in_block j x claim block _) = no_it block.node block.it block.reached block.found
  no_flow_fault r section offset (absolute n i reached has aim _ _ _) =
      let known = reached_is seed count limits n reached.reached in
      let to = aim_is seed count limits n.section n.offset i _ known.section (reached_stands seed count limits n i reached) has aim in
      absurd (cc (to.2))
  no_flow_fault r section offset (arm_address q s j ref _ _ _ _) = no_reference seed count q s j ref
  no_flow_fault r section offset (no_word n i reached _ _ _ _) = true≢false (sym (stands_other seed count n.offset (instr.Literal i) (reached_stands seed count limits n (instr.Literal i) reached)))
  no_flow_fault r section offset (no_code n i reached on none _ _ _) = none (falls_on n i reached on)
  no_flow_fault r section offset (cut_block n i reached found _ _ _ _) = no_it n i reached found

pub flows_are_recovered : (seed count : ℕ) (spot : Spot) → IsCount count → IsFlowDenial (generated seed count) (Refused spot) → ⊥
flows_are_recovered seed count spot limits (inl range) = no_range_fault seed count limits.low spot.refusal spot.section spot.offset range.fault
flows_are_recovered seed count spot limits (inr later) = no_flow_fault seed count limits spot.refusal spot.section spot.offset later.flow.fault
