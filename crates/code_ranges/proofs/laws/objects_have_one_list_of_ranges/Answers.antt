use Rattle.code_ranges.proofs.OneRanges.{ranges_once, range_refusal_once}
use Rattle.code_ranges.proofs.laws.objects_have_one_list_of_ranges.Goals as goal

pub returns-clause-one : goal.returns-clause-one
returns-clause-one c = ranges_once

pub returns-clause-refused : goal.returns-clause-refused
returns-clause-refused c = range_refusal_once

pub returns-clause-apart : goal.returns-clause-apart
returns-clause-apart c = λ o r s are refusal. are.sound s.refusal s.section s.offset refusal.fault
