use Rattle.std.proofs.Common.{[], ◌∷◌, ◌++◌, map, string_bytes}
use Rattle.std.proofs.lemmas.Bool.{false≢true}
use Rattle.std.proofs.lemmas.List.Elements.{All-map}
use Rattle.guard_words.specs.Words.{IsFileName, Setting}
use Rattle.guard_words.specs.Arranged.{value_in}
use Rattle.guard_words.proofs.Pairs.{all_unmap}
use Rattle.guard_words.proofs.Arrangements.{one_read, twice, no_files, all_read, value_there, value_absent}
use Rattle.guard_words.proofs.options.arrange.Goals as goal

pub returns-then-is_given : goal.returns-then-is_given
returns-then-is_given c = λ settings files are.
    let read = c.fronts.invariant in
    let found = c.in-Some.ensures in
    let front : Setting = record { name = c.in-Some.front.name; value = c.in-Some.front.value.now; joined = found.0 } in
    let there = value_there (value_in c.fronts.options c.in-Some.front.name) c.is_given.result c.is_given.ensures c.if-is_given.true in
    twice _ (map string_bytes c.fronts.rest.now) (map string_bytes c.in-Some.front.rest.now) c.fronts.options read.0 front there.0 read.1 found.1 there.1 settings files are

pub fronts-preserved : goal.fronts-preserved
fronts-preserved c =
    let read = c.fronts.invariant in
    let found = c.in-Some.ensures in
    let front : Setting = record { name = c.in-Some.front.name; value = c.in-Some.front.value.now; joined = found.0 } in
    let none = value_absent (value_in c.fronts.options c.in-Some.front.name) c.is_given.result c.is_given.ensures c.if-is_given.false in (
      read.0 ++ front ∷ [],
      one_read _ (map string_bytes c.fronts.rest.now) (map string_bytes c.in-Some.front.rest.now) c.fronts.options c.with_option-options.result read.0 front read.1 found.1 none c.with_option-options.ensures,
    )

pub returns-then-are_file_names : goal.returns-then-are_file_names
returns-then-are_file_names c =
    let read = c.fronts.invariant in
    let names = All-map IsFileName string_bytes c.fronts.rest.now (c.are_file_names.ensures.0 c.if-are_file_names.true) in
    (read.0, all_read _ (map string_bytes c.fronts.rest.now) c.fronts.options read.0 read.1 names, read.1.options)

pub returns-else-are_file_names : goal.returns-else-are_file_names
returns-else-are_file_names c =
    let read = c.fronts.invariant in
    no_files _ (map string_bytes c.fronts.rest.now) c.fronts.options read.0 read.1 c.in_default.ensures
    (λ names. false≢true (c.if-are_file_names.ensures.1 (all_unmap IsFileName string_bytes c.fronts.rest.now names)))
