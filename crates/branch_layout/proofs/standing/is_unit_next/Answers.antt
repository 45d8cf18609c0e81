use Rattle.std.proofs.Common.{◌≤◌, ◌<◌, length, inl, inr, sym, arith, refl, None}
use Rattle.std.specs.Prelude.{slice_index_or}
use Rattle.std.proofs.lemmas.Option.{slice_get_read, slice_get-get_or}
use Rattle.std.proofs.lemmas.Bool.{ltb-true, ltb-false, eqb-false}
use Rattle.elf_model.proofs.Elements.{element_at}
use Rattle.flow_recover.specs.declared.flows.PoolWord.{PoolWord}
use Rattle.branch_layout.specs.Placings.{unit_point, word_point}
use Rattle.branch_layout.proofs.NextFacts.{next_alone, next_before, word_below}
use Rattle.branch_layout.proofs.standing.is_unit_next.Goals as goal

abbrev no_word : PoolWord
no_word = record { section = 0; offset = 0; reloc = None }

pub returns-then-i-units-clause-word : goal.returns-then-i-units-clause-word
returns-then-i-units-clause-word c = λ t.
    let past : length c.args.units.now ≤ c.args.i = c.if-i-units.true in
    let within : c.args.k < length c.args.words.now = elim c.requires.some [ inl l ↦ absurd (omega arith) | inr l ↦ l ] in
    let w = element_at c.args.words.now c.args.k within in
    next_alone word_point unit_point c.args.words.now c.args.units.now c.args.k c.args.i w.0 w.1 past

pub returns-then-k-words-clause-unit : goal.returns-then-k-words-clause-unit
returns-then-k-words-clause-unit c = λ t.
    let u = element_at c.args.units.now c.args.i c.if-i-units.false in
    next_alone unit_point word_point c.args.units.now c.args.words.now c.args.i c.args.k u.0 u.1 c.if-k-words.true

pub returns-then-unit-word-clause-unit : goal.returns-then-unit-word-clause-unit
returns-then-unit-word-clause-unit c = λ t.
    next_before unit_point word_point c.args.units.now c.args.words.now c.args.i c.args.k c.index-units-i.result (slice_get_read c.args.units.now (length c.args.units.now) c.args.i c.index-units-i.result refl c.if-i-units.false c.index-units-i.is)
    (slice_index_or c.args.words.now c.args.k no_word) (slice_get-get_or c.args.words.now c.args.k no_word c.if-k-words.false) (inl c.if-unit-word.true)

pub returns-then-unit-word-2-clause-unit : goal.returns-then-unit-word-2-clause-unit
returns-then-unit-word-2-clause-unit c = λ t.
    next_before unit_point word_point c.args.units.now c.args.words.now c.args.i c.args.k c.index-units-i.result (slice_get_read c.args.units.now (length c.args.units.now) c.args.i c.index-units-i.result refl c.if-i-units.false c.index-units-i.is)
    (slice_index_or c.args.words.now c.args.k no_word) (slice_get-get_or c.args.words.now c.args.k no_word c.if-k-words.false) (inr (c.if-unit-word-2.true, ltb-true _ _ t))

pub returns-then-unit-word-2-clause-word : goal.returns-then-unit-word-2-clause-word
returns-then-unit-word-2-clause-word c = λ f.
    let u = slice_get_read c.args.units.now (length c.args.units.now) c.args.i c.index-units-i.result refl c.if-i-units.false c.index-units-i.is in
    let w = slice_get-get_or c.args.words.now c.args.k no_word c.if-k-words.false in
    next_before word_point unit_point c.args.words.now c.args.units.now c.args.k c.args.i (slice_index_or c.args.words.now c.args.k no_word) w c.index-units-i.result u
    (word_below c.args.units.now c.args.words.now c.args.i c.args.k c.index-units-i.result (slice_index_or c.args.words.now c.args.k no_word) c.requires.given u w c.if-unit-word.false (λ e. ltb-false _ _ f))

pub returns-else-unit-word-2-clause-word : goal.returns-else-unit-word-2-clause-word
returns-else-unit-word-2-clause-word c = λ f.
    let u = slice_get_read c.args.units.now (length c.args.units.now) c.args.i c.index-units-i.result refl c.if-i-units.false c.index-units-i.is in
    let w = slice_get-get_or c.args.words.now c.args.k no_word c.if-k-words.false in
    next_before word_point unit_point c.args.words.now c.args.units.now c.args.k c.args.i (slice_index_or c.args.words.now c.args.k no_word) w c.index-units-i.result u
    (word_below c.args.units.now c.args.words.now c.args.i c.args.k c.index-units-i.result (slice_index_or c.args.words.now c.args.k no_word) c.requires.given u w c.if-unit-word.false (λ e. absurd (eqb-false _ _ f (sym e))))
