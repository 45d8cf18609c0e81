-- Nothing refuses to harden a generated object, or to link its hardened form.
use Rattle.std.proofs.Common.{inl, inr, ℕ, ◌∷◌, [], IsTrue, subst, arith}
use Rattle.elf_model.specs.declared.refusals.Spot.{Spot}
use Rattle.elf_model.specs.Objects.{ObjectParts, is_object}
use Rattle.thumb_table.specs.Parts.{Image}
use Rattle.thumb_table.specs.LinkFaults.{IsLinkRefusal}
use Rattle.thumb_table.specs.Images.{IsImage}
use Rattle.sim_relation.specs.Accepted.{boundaries}
use Rattle.sim_relation.specs.Hardened.{Hardened as AreHardened}
use Rattle.harden_core.specs.declared.hardening.Hardened.{Hardened}
use Rattle.harden_core.specs.Denials.{IsHardenRefusal, of_flow, of_liveness, of_scratch, of_layout}
use Rattle.harden_core.specs.Hardening.{IsHardening}
use Rattle.gen_object.specs.Generated.{generated}
use Rattle.gen_flow.specs.GeneratedCode.{IsCount}
use Rattle.gen_flow.specs.GeneratedFlow.{GeneratedFlowsAreRecovered}
use Rattle.gen_hardened.specs.GeneratedHardening.{GeneratedFlowsAreLive, GeneratedPointsHaveScratch, GeneratedUnitsAreLaid}
use Rattle.gen_image.specs.GeneratedImages.{placement}
use Rattle.make_run.specs.MakeSteps.{IsGenerated}
use Rattle.make_run.proofs.HardCode.{hard_fits}

-- the laws of the four phases
pub record HasLaws : Type 0 where
  pub recovered : GeneratedFlowsAreRecovered
  pub live : GeneratedFlowsAreLive
  pub scratch : GeneratedPointsHaveScratch
  pub laid : GeneratedUnitsAreLaid

pub never_refused : HasLaws → (seed count : ℕ) (spot : Spot) → IsCount count → IsHardenRefusal (generated seed count) (boundaries 4) 2 spot → ⊥
never_refused laws seed count spot few (of_flow denied) = laws.recovered seed count spot few denied
never_refused laws seed count spot few (of_liveness f flow refused) = laws.live seed count f few flow spot.refusal spot.section spot.offset refused.fault
never_refused laws seed count spot few (of_scratch f flow live refused) = laws.scratch seed count f spot few flow refused
never_refused laws seed count spot few (of_layout f units flow live are refused) = laws.laid seed count f units spot few flow are refused

-- Its hardened form has room, so it has an image as the plain one has.
pub always_linked : (seed count : ℕ) (out : Hardened) (plain : Image) → IsTrue (is_object out.object) → IsHardening (generated seed count) 2 4 out
    → AreHardened (generated seed count ∷ []) (out.object ∷ []) out.factor → IsImage (generated seed count ∷ []) placement plain
    → (spot : Spot) → ¬ IsLinkRefusal (out.object ∷ []) placement spot
always_linked seed count out plain sound hardening promised is spot refusal =
    elim (promised.linked placement plain is) [
      | inl hard ↦ hard.1.can.sound spot refusal.fault
      | inr long ↦ let fits = hard_fits seed count out sound hardening in absurd (omega arith)
    ]

pub form_always_linked : (o : ObjectParts) (out : Hardened) (plain : Image) → IsGenerated o → IsTrue (is_object out.object) → IsHardening o 2 4 out
    → AreHardened (o ∷ []) (out.object ∷ []) out.factor → IsImage (o ∷ []) placement plain → (spot : Spot) → ¬ IsLinkRefusal (out.object ∷ []) placement spot
form_always_linked o out plain is sound hardening promised image =
    always_linked is.seed is.count out plain sound (subst (λ (q : ObjectParts). IsHardening q 2 4 out) is.is hardening)
    (subst (λ (q : ObjectParts). AreHardened (q ∷ []) (out.object ∷ []) out.factor) is.is promised)
    (subst (λ (q : ObjectParts). IsImage (q ∷ []) placement plain) is.is image)

pub form_never_refused : HasLaws → (o : ObjectParts) (spot : Spot) → IsGenerated o → IsHardenRefusal o (boundaries 4) 2 spot → ⊥
form_never_refused laws o spot is refusal = never_refused laws is.seed is.count spot is.few (subst (λ (q : ObjectParts). IsHardenRefusal q (boundaries 4) 2 spot) is.is refusal)
