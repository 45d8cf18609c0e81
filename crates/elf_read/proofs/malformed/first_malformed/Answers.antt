use Rattle.std.proofs.Common.{Some, None, sym, subst, arith}
use Rattle.elf_model.specs.declared.refusals.Refusal.TheVariants.{NotElf, NotArmRel, BadTable, BadName, BadSymbol}
use Rattle.elf_model.specs.declared.refusals.Limit.{Limit}
use Rattle.elf_model.specs.declared.refusals.Spot.{Spot}
use Rattle.elf_read.specs.Faults.{Fault}
use Rattle.elf_read.specs.FirstFaults.{IsFirstBelow, IsFaultlessBelow}
use Rattle.elf_read.specs.Places.{IsLowest}
use Rattle.elf_read.proofs.FirstFaults.{only_elf, only_arm, only_table, only_name, only_symbol, none_below, none_more, first_fault, long_enough, tabled_by}
use Rattle.elf_read.proofs.malformed.first_malformed.Goals as goal

pub returns-in-Some : goal.returns-in-Some
returns-in-Some c = λ l.
    let b = c.args.bytes.now in
    let lowest : IsLowest (Fault b l NotElf) (Some c.in-Some.p) = subst (IsLowest (Fault b l NotElf)) c.in-Some.is (c.first_not_elf.ensures l) in
    let below : IsFaultlessBelow b l 1 = none_below b l in
    subst (λ (x : Spot). IsFirstBelow b l 6 (Some x)) (sym c.spot_at.ensures) (first_fault b l NotElf 6 c.in-Some.p only_elf (omega arith) below lowest)

pub returns-in-Some-first_not_arm : goal.returns-in-Some-first_not_arm
returns-in-Some-first_not_arm c = λ l.
    let b = c.args.bytes.now in
    let no_elf : (l : Limit) → IsLowest (Fault b l NotElf) None = λ l. subst (IsLowest (Fault b l NotElf)) c.in_default.is (c.first_not_elf.ensures l) in
    let lowest : IsLowest (Fault b l NotArmRel) (Some c.in-Some-first_not_arm.p) = subst (IsLowest (Fault b l NotArmRel)) c.in-Some-first_not_arm.is (c.first_not_arm.ensures l) in
    let below : IsFaultlessBelow b l 2 = none_more b l NotElf only_elf (none_below b l) (no_elf l) in
    subst (λ (x : Spot). IsFirstBelow b l 6 (Some x)) (sym c.spot_at-in-Some-first_not_arm.ensures) (first_fault b l NotArmRel 6 c.in-Some-first_not_arm.p only_arm (omega arith) below lowest)

pub returns-in-Some-first_bad_table : goal.returns-in-Some-first_bad_table
returns-in-Some-first_bad_table c = λ l.
    let b = c.args.bytes.now in
    let no_elf : (l : Limit) → IsLowest (Fault b l NotElf) None = λ l. subst (IsLowest (Fault b l NotElf)) c.in_default.is (c.first_not_elf.ensures l) in
    let no_arm : (l : Limit) → IsLowest (Fault b l NotArmRel) None = λ l. subst (IsLowest (Fault b l NotArmRel)) c.in_default-first_not_arm.is (c.first_not_arm.ensures l) in
    let lowest : IsLowest (Fault b l BadTable) (Some c.in-Some-first_bad_table.p) = subst (IsLowest (Fault b l BadTable)) c.in-Some-first_bad_table.is (c.first_bad_table.ensures l) in
    let below : IsFaultlessBelow b l 3 = none_more b l NotArmRel only_arm (none_more b l NotElf only_elf (none_below b l) (no_elf l)) (no_arm l) in
    subst (λ (x : Spot). IsFirstBelow b l 6 (Some x)) (sym c.spot_at-in-Some-first_bad_table.ensures) (first_fault b l BadTable 6 c.in-Some-first_bad_table.p only_table (omega arith) below lowest)

pub returns-in-Some-first_bad_name : goal.returns-in-Some-first_bad_name
returns-in-Some-first_bad_name c = λ l.
    let b = c.args.bytes.now in
    let no_elf : (l : Limit) → IsLowest (Fault b l NotElf) None = λ l. subst (IsLowest (Fault b l NotElf)) c.in_default.is (c.first_not_elf.ensures l) in
    let no_arm : (l : Limit) → IsLowest (Fault b l NotArmRel) None = λ l. subst (IsLowest (Fault b l NotArmRel)) c.in_default-first_not_arm.is (c.first_not_arm.ensures l) in
    let no_table : (l : Limit) → IsLowest (Fault b l BadTable) None = λ l. subst (IsLowest (Fault b l BadTable)) c.in_default-first_bad_table.is (c.first_bad_table.ensures l) in
    let lowest : IsLowest (Fault b l BadName) (Some c.in-Some-first_bad_name.p) = subst (IsLowest (Fault b l BadName)) c.in-Some-first_bad_name.is (c.first_bad_name.ensures l) in
    let below : IsFaultlessBelow b l 4 = none_more b l BadTable only_table (none_more b l NotArmRel only_arm (none_more b l NotElf only_elf (none_below b l) (no_elf l)) (no_arm l)) (no_table l) in
    subst (λ (x : Spot). IsFirstBelow b l 6 (Some x)) (sym c.spot_at-in-Some-first_bad_name.ensures) (first_fault b l BadName 6 c.in-Some-first_bad_name.p only_name (omega arith) below lowest)

pub returns-in-Some-first_bad_symbol : goal.returns-in-Some-first_bad_symbol
returns-in-Some-first_bad_symbol c = λ l.
    let b = c.args.bytes.now in
    let no_elf : (l : Limit) → IsLowest (Fault b l NotElf) None = λ l. subst (IsLowest (Fault b l NotElf)) c.in_default.is (c.first_not_elf.ensures l) in
    let no_arm : (l : Limit) → IsLowest (Fault b l NotArmRel) None = λ l. subst (IsLowest (Fault b l NotArmRel)) c.in_default-first_not_arm.is (c.first_not_arm.ensures l) in
    let no_table : (l : Limit) → IsLowest (Fault b l BadTable) None = λ l. subst (IsLowest (Fault b l BadTable)) c.in_default-first_bad_table.is (c.first_bad_table.ensures l) in
    let no_name : (l : Limit) → IsLowest (Fault b l BadName) None = λ l. subst (IsLowest (Fault b l BadName)) c.in_default-first_bad_name.is (c.first_bad_name.ensures l) in
    let lowest : IsLowest (Fault b l BadSymbol) (Some c.in-Some-first_bad_symbol.p) = subst (IsLowest (Fault b l BadSymbol)) c.in-Some-first_bad_symbol.is (c.first_bad_symbol.ensures l) in
    let below : IsFaultlessBelow b l 5 = none_more b l BadName only_name (none_more b l BadTable only_table (none_more b l NotArmRel only_arm (none_more b l NotElf only_elf (none_below b l) (no_elf l)) (no_arm l)) (no_table l)) (no_name l) in
    subst (λ (x : Spot). IsFirstBelow b l 6 (Some x)) (sym c.spot_at-in-Some-first_bad_symbol.ensures) (first_fault b l BadSymbol 6 c.in-Some-first_bad_symbol.p only_symbol (omega arith) below lowest)

pub first_not_arm-requires : goal.first_not_arm-requires
first_not_arm-requires c =
    let b = c.args.bytes.now in
    let no_elf : (l : Limit) → IsLowest (Fault b l NotElf) None = λ l. subst (IsLowest (Fault b l NotElf)) c.in_default.is (c.first_not_elf.ensures l) in
    long_enough b no_elf

pub first_bad_table-requires-clause-long : goal.first_bad_table-requires-clause-long
first_bad_table-requires-clause-long c =
    let b = c.args.bytes.now in
    let no_elf : (l : Limit) → IsLowest (Fault b l NotElf) None = λ l. subst (IsLowest (Fault b l NotElf)) c.in_default.is (c.first_not_elf.ensures l) in
    long_enough b no_elf

pub first_bad_name-requires-clause-tabled : goal.first_bad_name-requires-clause-tabled
first_bad_name-requires-clause-tabled c =
    let b = c.args.bytes.now in
    let no_elf : (l : Limit) → IsLowest (Fault b l NotElf) None = λ l. subst (IsLowest (Fault b l NotElf)) c.in_default.is (c.first_not_elf.ensures l) in
    let no_table : (l : Limit) → IsLowest (Fault b l BadTable) None = λ l. subst (IsLowest (Fault b l BadTable)) c.in_default-first_bad_table.is (c.first_bad_table.ensures l) in
    tabled_by b (long_enough b no_elf) no_table

pub first_bad_symbol-requires-clause-tabled : goal.first_bad_symbol-requires-clause-tabled
first_bad_symbol-requires-clause-tabled c =
    let b = c.args.bytes.now in
    let no_elf : (l : Limit) → IsLowest (Fault b l NotElf) None = λ l. subst (IsLowest (Fault b l NotElf)) c.in_default.is (c.first_not_elf.ensures l) in
    let no_table : (l : Limit) → IsLowest (Fault b l BadTable) None = λ l. subst (IsLowest (Fault b l BadTable)) c.in_default-first_bad_table.is (c.first_bad_table.ensures l) in
    tabled_by b (long_enough b no_elf) no_table

pub returns : goal.returns
returns c = λ l.
    let b = c.args.bytes.now in
    let no_elf : (l : Limit) → IsLowest (Fault b l NotElf) None = λ l. subst (IsLowest (Fault b l NotElf)) c.in_default.is (c.first_not_elf.ensures l) in
    let no_arm : (l : Limit) → IsLowest (Fault b l NotArmRel) None = λ l. subst (IsLowest (Fault b l NotArmRel)) c.in_default-first_not_arm.is (c.first_not_arm.ensures l) in
    let no_table : (l : Limit) → IsLowest (Fault b l BadTable) None = λ l. subst (IsLowest (Fault b l BadTable)) c.in_default-first_bad_table.is (c.first_bad_table.ensures l) in
    let no_name : (l : Limit) → IsLowest (Fault b l BadName) None = λ l. subst (IsLowest (Fault b l BadName)) c.in_default-first_bad_name.is (c.first_bad_name.ensures l) in
    let no_symbol : (l : Limit) → IsLowest (Fault b l BadSymbol) None = λ l. subst (IsLowest (Fault b l BadSymbol)) c.in_default-first_bad_symbol.is (c.first_bad_symbol.ensures l) in
    none_more b l BadSymbol only_symbol (none_more b l BadName only_name (none_more b l BadTable only_table (none_more b l NotArmRel only_arm (none_more b l NotElf only_elf (none_below b l) (no_elf l)) (no_arm l)) (no_table l)) (no_name l)) (no_symbol l)
