use Rattle.std.proofs.Common.{◌%◌, sym}
use Rattle.std.proofs.lemmas.Bool.{true≢false, eqb-true, eq-eqb}
use Rattle.flow_recover.proofs.RelocSpots.{no_address, arm_made, made_arm}
use Rattle.flow_recover.proofs.reloc_faults.makes_arm_address.Goals as goal

pub returns-in-None : goal.returns-in-None
returns-in-None c = (λ h. absurd (true≢false (sym h)), λ m. absurd (no_address c.args.o.now c.args.r.now c.reference_of.result c.reference_of.ensures c.in-None.is m))

pub returns-in-Some : goal.returns-in-Some
returns-in-Some c = (
  λ h. arm_made c.args.o.now c.args.r.now c.reference_of.result c.reference_of.ensures c.in-Some.a c.in-Some.is (eqb-true (c.in-Some.a.value % 2) 0 h),
  λ m. eq-eqb (c.in-Some.a.value % 2) 0 (made_arm c.args.o.now c.args.r.now c.reference_of.result c.reference_of.ensures c.in-Some.a c.in-Some.is m),
)
