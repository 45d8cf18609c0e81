use Rattle.std.proofs.Common.{◌≡◌, ◌≢◌, ap, sym, ◌∙◌, arith}
use Rattle.elf_model.specs.Constants.{rel}
use Rattle.elf_model.specs.Fields.{half_at}
use Rattle.elf_model.specs.Files.{header}
use Rattle.elf_read.specs.Faults.{IsHeader}
use Rattle.elf_read.proofs.NameFaults.{named_more, first_section, ends_by, endless_by}
use Rattle.elf_read.proofs.names.first_unnamed.Goals as goal
use Rattle.elf_read.proofs.names.first_unnamed.Goals.{else-f-ne-REL-via-then-f-ne-REL+else-not-has_text, else-f-ne-REL-via-else-f-ne-REL}

pub returns-then-not-has_text : goal.returns-then-not-has_text
returns-then-not-has_text c =
    let b = c.args.bytes.now in
    let h = c.loop-h.h in
    let here : IsHeader b h = record { behind_null = omega arith; there = omega arith } in
    let kind : (header b h).kind ≢ rel = λ e. c.if-f-ne-REL.true (ap (λ x. x.kind) c.header_at-f.ensures ∙ e) in
    let name : c.header_at-f.result.name ≡ (header b h).name = ap (λ x. x.name) c.header_at-f.ensures in
    first_section b h c.place-offset.result c.place-offset.ensures here c.loop-h.invariant kind
    (endless_by b _ (half_at b 50) _ (header b h).name c.has_text.result c.has_text.ensures c.half-names.ensures name c.if-not-has_text.true)

pub loop-h-preserved : goal.loop-h-preserved
loop-h-preserved c =
    let b = c.args.bytes.now in
    let h = c.loop-h.h in
    let name : c.header_at-f.result.name ≡ (header b h).name = ap (λ x. x.name) c.header_at-f.ensures in
    named_more b h c.loop-h.invariant (λ kind.
    elim c.else-f-ne-REL.branch [
      | else-f-ne-REL-via-then-f-ne-REL+else-not-has_text w ↦ ends_by b _ (half_at b 50) _ (header b h).name w.has_text.result w.has_text.ensures c.half-names.ensures name w.if-not-has_text.false
      | else-f-ne-REL-via-else-f-ne-REL w ↦ absurd (kind (sym (ap (λ x. x.kind) c.header_at-f.ensures) ∙ w.if-f-ne-REL.false))
    ])

pub returns : goal.returns
returns c = λ s o u. c.loop-h.invariant s o (omega (arith, u.listed.there)) u
