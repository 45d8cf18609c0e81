use Rattle.std.proofs.Common.{◌≡◌, ◌+◌, ◌-◌, length, subst, refl, arith, None}
use Rattle.std.specs.Prelude.{slice_index_or}
use Rattle.std.proofs.lemmas.Option.{slice_get_read, slice_get-get_or}
use Rattle.flow_recover.specs.declared.flows.PoolWord.{PoolWord}
use Rattle.branch_layout.specs.Placings.{unit_point, word_point}
use Rattle.branch_layout.specs.Standing.{StandsAt}
use Rattle.branch_layout.proofs.NextFacts.{next_within}
use Rattle.branch_layout.proofs.PutFacts.{few_each, room_left, unit_section, unit_put, word_section, word_put}
use Rattle.branch_layout.proofs.standing.Standing.put_next.Goals as goal

abbrev no_word : PoolWord
no_word = record { section = 0; offset = 0; reloc = None }

pub put_unit-requires-clause-copies : goal.put_unit-requires-clause-copies
put_unit-requires-clause-copies c =
    let next = c.is_unit_next.ensures.unit c.if-is_unit_next.true in
    let lt = next_within unit_point c.args.units.now c.args.i next.place next.there in
    let there = slice_get_read c.args.units.now (length c.args.units.now) c.args.i c.index-units-i.result refl lt c.index-units-i.is in
    few_each c.args.units.now c.args.words.now c.args.i c.index-units-i.result c.requires.given there

pub put_unit-requires-clause-room : goal.put_unit-requires-clause-room
put_unit-requires-clause-room c = room_left c.args.units.now c.args.words.now c.requires.given c.args.i c.args.k c.args.self.now c.requires.stands

pub put_word-requires-clause-room : goal.put_word-requires-clause-room
put_word-requires-clause-room c = room_left c.args.units.now c.args.words.now c.requires.given c.args.i c.args.k c.args.self.now c.requires.stands

pub put_unit-requires-clause-section : goal.put_unit-requires-clause-section
put_unit-requires-clause-section c =
    let next = c.is_unit_next.ensures.unit c.if-is_unit_next.true in
    let lt = next_within unit_point c.args.units.now c.args.i next.place next.there in
    let there = slice_get_read c.args.units.now (length c.args.units.now) c.args.i c.index-units-i.result refl lt c.index-units-i.is in
    unit_section c.args.units.now c.args.words.now c.requires.given c.args.i c.args.k c.args.self.now c.requires.stands c.index-units-i.result there

pub bounds-words-k : goal.bounds-words-k
bounds-words-k c =
    let next = c.is_unit_next.ensures.word c.if-is_unit_next.false in
    next_within word_point c.args.words.now c.args.k next.place next.there

pub put_word-requires-clause-section : goal.put_word-requires-clause-section
put_word-requires-clause-section c =
    let next = c.is_unit_next.ensures.word c.if-is_unit_next.false in
    let lt = next_within word_point c.args.words.now c.args.k next.place next.there in
    word_section c.args.units.now c.args.words.now c.requires.given c.args.i c.args.k c.args.self.now c.requires.stands (slice_index_or c.args.words.now c.args.k no_word) (slice_get-get_or c.args.words.now c.args.k no_word lt)

pub returns-in_ok-put_unit-clause-stands : goal.returns-in_ok-put_unit-clause-stands
returns-in_ok-put_unit-clause-stands c =
    let next = c.is_unit_next.ensures.unit c.if-is_unit_next.true in
    let lt = next_within unit_point c.args.units.now c.args.i next.place next.there in
    let there = slice_get_read c.args.units.now (length c.args.units.now) c.args.i c.index-units-i.result refl lt c.index-units-i.is in
    let left : c.args.k ≡ c.args.i + c.args.k + 1 - (c.args.i + 1) = omega arith in
    subst (λ n. StandsAt c.args.units.now c.args.words.now (c.args.i + 1) n c.put_unit.new.self) left
    (unit_put c.args.units.now c.args.words.now c.requires.given c.args.i c.args.k c.args.self.now c.requires.stands c.index-units-i.result there c.put_unit.new.self c.in_ok-put_unit.ensures next)

pub returns-in_ok-put_word-clause-stands : goal.returns-in_ok-put_word-clause-stands
returns-in_ok-put_word-clause-stands c =
    let next = c.is_unit_next.ensures.word c.if-is_unit_next.false in
    let lt = next_within word_point c.args.words.now c.args.k next.place next.there in
    let left : c.args.k + 1 ≡ c.args.i + c.args.k + 1 - c.args.i = omega arith in
    subst (λ n. StandsAt c.args.units.now c.args.words.now c.args.i n c.put_word.new.self) left
    (word_put c.args.units.now c.args.words.now c.requires.given c.args.i c.args.k c.args.self.now c.requires.stands (slice_index_or c.args.words.now c.args.k no_word) (slice_get-get_or c.args.words.now c.args.k no_word lt) c.put_word.new.self c.in_ok-put_word.ensures next)
