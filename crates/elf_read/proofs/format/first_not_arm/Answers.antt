use Rattle.std.proofs.Common.{◌+◌, arith, ◌∙◌}
use Rattle.elf_model.specs.declared.refusals.Refusal.TheVariants.{NotArmRel}
use Rattle.elf_read.specs.Faults.{Fault}
use Rattle.elf_read.specs.Faults.Fault.{other_class, other_order, other_type, other_machine, other_version}
use Rattle.elf_read.proofs.Formats.{IsArmBefore, arm_lowest, arm_fault}
use Rattle.elf_read.proofs.format.first_not_arm.Goals as goal

pub returns-else-word-ne5 : goal.returns-else-word-ne5
returns-else-word-ne5 c = λ l s o f.
    let before : IsArmBefore c.args.bytes.now (o + 1) = record { class = λ _. c.if-bytes-ne1.false; order = λ _. c.if-bytes-ne1-2.false; relocatable = λ _. omega arith; machine = λ _. omega arith; version = λ _. omega arith } in
    (arm_lowest c.args.bytes.now l (o + 1) before s o f).1 (omega arith)

pub returns-then-bytes-ne1 : goal.returns-then-bytes-ne1
returns-then-bytes-ne1 c = λ l.
    let before : IsArmBefore c.args.bytes.now 4 = record { class = λ h. absurd (omega arith); order = λ h. absurd (omega arith); relocatable = λ h. absurd (omega arith); machine = λ h. absurd (omega arith); version = λ h. absurd (omega arith) } in
    let fault : Fault c.args.bytes.now l NotArmRel 0 4 = other_class c.if-bytes-ne1.true in
    (fault, arm_fault c.args.bytes.now l 4 before fault)

pub returns-then-bytes-ne1-2 : goal.returns-then-bytes-ne1-2
returns-then-bytes-ne1-2 c = λ l.
    let before : IsArmBefore c.args.bytes.now 5 = record { class = λ _. c.if-bytes-ne1.false; order = λ h. absurd (omega arith); relocatable = λ h. absurd (omega arith); machine = λ h. absurd (omega arith); version = λ h. absurd (omega arith) } in
    let fault : Fault c.args.bytes.now l NotArmRel 0 5 = other_order c.if-bytes-ne1-2.true in
    (fault, arm_fault c.args.bytes.now l 5 before fault)

pub returns-then-half-ne1 : goal.returns-then-half-ne1
returns-then-half-ne1 c = λ l.
    let before : IsArmBefore c.args.bytes.now 16 = record { class = λ _. c.if-bytes-ne1.false; order = λ _. c.if-bytes-ne1-2.false; relocatable = λ h. absurd (omega arith); machine = λ h. absurd (omega arith); version = λ h. absurd (omega arith) } in
    let fault : Fault c.args.bytes.now l NotArmRel 0 16 = other_type (λ e. c.if-half-ne1.true (c.half.ensures ∙ e)) in
    (fault, arm_fault c.args.bytes.now l 16 before fault)

pub returns-then-half-ne40 : goal.returns-then-half-ne40
returns-then-half-ne40 c = λ l.
    let before : IsArmBefore c.args.bytes.now 18 = record { class = λ _. c.if-bytes-ne1.false; order = λ _. c.if-bytes-ne1-2.false; relocatable = λ _. omega arith; machine = λ h. absurd (omega arith); version = λ h. absurd (omega arith) } in
    let fault : Fault c.args.bytes.now l NotArmRel 0 18 = other_machine (λ e. c.if-half-ne40.true (c.half-else-half-ne1.ensures ∙ e)) in
    (fault, arm_fault c.args.bytes.now l 18 before fault)

pub returns-then-word-ne5 : goal.returns-then-word-ne5
returns-then-word-ne5 c = λ l.
    let before : IsArmBefore c.args.bytes.now 36 = record { class = λ _. c.if-bytes-ne1.false; order = λ _. c.if-bytes-ne1-2.false; relocatable = λ _. omega arith; machine = λ _. omega arith; version = λ h. absurd (omega arith) } in
    let fault : Fault c.args.bytes.now l NotArmRel 0 36 = other_version (λ e. c.if-word-ne5.true (omega arith)) in
    (fault, arm_fault c.args.bytes.now l 36 before fault)
