use Rattle.std.proofs.Common.{◌≡◌, ◌<◌, ◌+◌, ℕ, refl, sym, ap, ◌∙◌, subst}
use Rattle.elf_model.specs.Constants.{nobits}
use Rattle.elf_model.specs.Files.{Header, header, header_count}
use Rattle.elf_read.specs.declared.places.Place.{Place}
use Rattle.elf_read.proofs.BadRelocs.{target_there, lowest_target}
use Rattle.elf_read.proofs.reloc_faults.bad_target.Goals as goal

pub header_at-requires-clause-listed : goal.header_at-requires-clause-listed
header_at-requires-clause-listed c =
    let b = c.args.bytes.now in
    let info = ap (λ (f : Header). f.info) c.header_at-target.ensures in
    let there : (header b c.args.h).info < header_count b = (target_there b c.args.h c.requires.tabled c.requires.listed c.requires.kind).there in
    subst (λ (k : ℕ). k < header_count b) (sym info) there

pub returns : goal.returns
returns c =
    let b = c.args.bytes.now in
    let info = ap (λ (f : Header). f.info) c.header_at-target.ensures in
    let kind : (header b (header b c.args.h).info).kind ≡ nobits = ap (λ (k : ℕ). (header b k).kind) (sym info) ∙ sym (ap (λ (f : Header). f.kind) c.header_at.ensures) ∙ c.if-header_at-ne-NOBITS.false in
    let p : Place = record { section = c.args.h; offset = c.place.result + 28 } in
    lowest_target b c.args.h c.requires.tabled c.requires.listed c.requires.kind p refl (ap (λ (n : ℕ). n + 28) c.place.ensures) kind
