use Rattle.std.proofs.Common.{subst}
use Rattle.elf_read.specs.FirstFaults.{IsFirstBelow}
use Rattle.elf_read.proofs.Formed.{formed}
use Rattle.elf_read.proofs.AllFaults.{all_faultless}
use Rattle.elf_read.proofs.read_object.Goals as goal

pub returns-in-Some-clause-refused : goal.returns-in-Some-clause-refused
returns-in-Some-clause-refused c = (subst (IsFirstBelow c.args.bytes.now c.args.limit.now 6) c.in-Some.is (c.first_malformed.ensures c.args.limit.now)).1

pub kept_flags-requires : goal.kept_flags-requires
kept_flags-requires c = (formed c.args.bytes.now c.args.limit.now (subst (IsFirstBelow c.args.bytes.now c.args.limit.now 6) c.in_default.is (c.first_malformed.ensures c.args.limit.now))).tabled

pub symbol_flags-requires-clause-tabled : goal.symbol_flags-requires-clause-tabled
symbol_flags-requires-clause-tabled c = (formed c.args.bytes.now c.args.limit.now (subst (IsFirstBelow c.args.bytes.now c.args.limit.now 6) c.in_default.is (c.first_malformed.ensures c.args.limit.now))).tabled

pub first_unfit-requires-clause-tabled : goal.first_unfit-requires-clause-tabled
first_unfit-requires-clause-tabled c = (formed c.args.bytes.now c.args.limit.now (subst (IsFirstBelow c.args.bytes.now c.args.limit.now 6) c.in_default.is (c.first_malformed.ensures c.args.limit.now))).tabled

pub first_unfit-requires-clause-homes : goal.first_unfit-requires-clause-homes
first_unfit-requires-clause-homes c = (formed c.args.bytes.now c.args.limit.now (subst (IsFirstBelow c.args.bytes.now c.args.limit.now 6) c.in_default.is (c.first_malformed.ensures c.args.limit.now))).homes

pub read_whole-requires-clause-faultless : goal.read_whole-requires-clause-faultless
read_whole-requires-clause-faultless c = all_faultless c.args.bytes.now c.args.limit.now (subst (IsFirstBelow c.args.bytes.now c.args.limit.now 9) c.in_default-2.is c.in_ok-spot.ensures)

pub read_whole-requires-clause-tabled : goal.read_whole-requires-clause-tabled
read_whole-requires-clause-tabled c = (formed c.args.bytes.now c.args.limit.now (subst (IsFirstBelow c.args.bytes.now c.args.limit.now 6) c.in_default.is (c.first_malformed.ensures c.args.limit.now))).tabled

pub read_whole-requires-clause-homes : goal.read_whole-requires-clause-homes
read_whole-requires-clause-homes c = (formed c.args.bytes.now c.args.limit.now (subst (IsFirstBelow c.args.bytes.now c.args.limit.now 6) c.in_default.is (c.first_malformed.ensures c.args.limit.now))).homes

pub returns-clause-faultless : goal.returns-clause-faultless
returns-clause-faultless c = all_faultless c.args.bytes.now c.args.limit.now (subst (IsFirstBelow c.args.bytes.now c.args.limit.now 9) c.in_default-2.is c.in_ok-spot.ensures)
