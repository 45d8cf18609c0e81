use Rattle.std.proofs.Common.{◌≡◌, Bool, sym, ap, subst, ◌∙◌, ◌&&◌}
use Rattle.std.proofs.lemmas.Bool.{eq-eqb}
use Rattle.elf_model.specs.Constants.{rel}
use Rattle.elf_model.specs.Files.{Header, header, is_kept}
use Rattle.elf_read.specs.Faults.{IsHeader}
use Rattle.elf_read.proofs.limits.is_kept_relocs.Goals as goal

pub kept_at-requires-clause-listed : goal.kept_at-requires-clause-listed
kept_at-requires-clause-listed c =
    let b = c.args.bytes.now in
    let h = c.args.h in
    let kind : (header b h).kind ≡ rel = sym (ap (λ (f : Header). f.kind) c.header_at-header.ensures) ∙ c.if-header-eq-REL.true in
    let target = c.requires.tabled.targets h (c.requires.listed.behind_null, c.requires.listed.there, kind) in
    subst (λ k. IsHeader b k) (sym (ap (λ (f : Header). f.info) c.header_at-header.ensures)) target.listed

pub returns-then-header-eq-REL : goal.returns-then-header-eq-REL
returns-then-header-eq-REL c =
    let b = c.args.bytes.now in
    let h = c.args.h in
    let kind : (header b h).kind ≡ rel = sym (ap (λ (f : Header). f.kind) c.header_at-header.ensures) ∙ c.if-header-eq-REL.true in
    c.kept_at.ensures ∙ ap (λ (f : Header). is_kept b f.info) c.header_at-header.ensures ∙ sym (ap (λ (t : Bool). t && is_kept b (header b h).info) (eq-eqb _ _ kind))
