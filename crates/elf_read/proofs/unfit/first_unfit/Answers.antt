use Rattle.std.proofs.Common.{Some, None, sym, subst, arith}
use Rattle.elf_model.specs.declared.refusals.Refusal.TheVariants.{BadReloc, TooMany, SectionKind}
use Rattle.elf_model.specs.declared.refusals.Spot.{Spot}
use Rattle.elf_read.specs.Faults.{Fault}
use Rattle.elf_read.specs.FirstFaults.{IsFirstBelow, IsFaultlessBelow}
use Rattle.elf_read.specs.Places.{IsLowest}
use Rattle.elf_read.proofs.FirstFaults.{none_more, first_fault}
use Rattle.elf_read.proofs.AllFaults.{only_reloc, only_many, only_kind}
use Rattle.elf_read.proofs.unfit.first_unfit.Goals as goal

pub returns-in-Some : goal.returns-in-Some
returns-in-Some c =
    let b = c.args.bytes.now in
    let l = c.args.limit.now in
    let lowest : IsLowest (Fault b l BadReloc) (Some c.in-Some.p) = subst (IsLowest (Fault b l BadReloc)) c.in-Some.is (c.in_ok-p.ensures l) in
    subst (λ (x : Spot). IsFirstBelow b l 9 (Some x)) (sym c.spot_at.ensures) (first_fault b l BadReloc 9 c.in-Some.p only_reloc (omega arith) c.requires.formed lowest)

pub returns-in-Some-first_too_many : goal.returns-in-Some-first_too_many
returns-in-Some-first_too_many c =
    let b = c.args.bytes.now in
    let l = c.args.limit.now in
    let no_reloc : IsLowest (Fault b l BadReloc) None = subst (IsLowest (Fault b l BadReloc)) c.in_default.is (c.in_ok-p.ensures l) in
    let below : IsFaultlessBelow b l 7 = none_more b l BadReloc only_reloc c.requires.formed no_reloc in
    let lowest : IsLowest (Fault b l TooMany) (Some c.in-Some-first_too_many.p) = subst (IsLowest (Fault b l TooMany)) c.in-Some-first_too_many.is c.first_too_many.ensures in
    subst (λ (x : Spot). IsFirstBelow b l 9 (Some x)) (sym c.spot_at-in-Some-first_too_many.ensures) (first_fault b l TooMany 9 c.in-Some-first_too_many.p only_many (omega arith) below lowest)

pub returns-in-Some-first_bad_kind : goal.returns-in-Some-first_bad_kind
returns-in-Some-first_bad_kind c =
    let b = c.args.bytes.now in
    let l = c.args.limit.now in
    let no_reloc : IsLowest (Fault b l BadReloc) None = subst (IsLowest (Fault b l BadReloc)) c.in_default.is (c.in_ok-p.ensures l) in
    let below : IsFaultlessBelow b l 7 = none_more b l BadReloc only_reloc c.requires.formed no_reloc in
    let not_many : IsLowest (Fault b l TooMany) None = subst (IsLowest (Fault b l TooMany)) c.in_default-first_too_many.is c.first_too_many.ensures in
    let fewer : IsFaultlessBelow b l 8 = none_more b l TooMany only_many below not_many in
    let lowest : IsLowest (Fault b l SectionKind) (Some c.in-Some-first_bad_kind.p) = subst (IsLowest (Fault b l SectionKind)) c.in-Some-first_bad_kind.is c.first_bad_kind.ensures in
    subst (λ (x : Spot). IsFirstBelow b l 9 (Some x)) (sym c.spot_at-in-Some-first_bad_kind.ensures) (first_fault b l SectionKind 9 c.in-Some-first_bad_kind.p only_kind (omega arith) fewer lowest)

pub returns : goal.returns
returns c =
    let b = c.args.bytes.now in
    let l = c.args.limit.now in
    let no_reloc : IsLowest (Fault b l BadReloc) None = subst (IsLowest (Fault b l BadReloc)) c.in_default.is (c.in_ok-p.ensures l) in
    let below : IsFaultlessBelow b l 7 = none_more b l BadReloc only_reloc c.requires.formed no_reloc in
    let not_many : IsLowest (Fault b l TooMany) None = subst (IsLowest (Fault b l TooMany)) c.in_default-first_too_many.is c.first_too_many.ensures in
    let fewer : IsFaultlessBelow b l 8 = none_more b l TooMany only_many below not_many in
    let handled : IsLowest (Fault b l SectionKind) None = subst (IsLowest (Fault b l SectionKind)) c.in_default-first_bad_kind.is c.first_bad_kind.ensures in
    none_more b l SectionKind only_kind fewer handled
