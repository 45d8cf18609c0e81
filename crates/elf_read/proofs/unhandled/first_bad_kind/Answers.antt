use Rattle.std.proofs.Common.{◌≡◌, ◌<◌, ◌≤◌, ◌+◌, ◌*◌, ℕ, Some, refl, sym, ap, ◌∙◌, length, arith}
use Rattle.elf_model.specs.Fields.{word_at}
use Rattle.elf_model.specs.Files.{header_count}
use Rattle.elf_read.specs.declared.places.Place.{Place}
use Rattle.elf_read.specs.Faults.{IsHeader}
use Rattle.elf_read.specs.Keeping.{kind_tests}
use Rattle.elf_read.specs.Places.{first_of}
use Rattle.elf_read.proofs.KindFaults.{none_first, none_more, lowest_here, small_field, lowest_nowhere}
use Rattle.elf_read.proofs.unhandled.first_bad_kind.Goals as goal

pub overflow_add-offset : goal.overflow_add-offset
overflow_add-offset c =
    let b = c.args.bytes.now in
    let first : Some c.in-Some.field ≡ first_of (kind_tests b c.is_input_limit-input.result c.loop-h.h) = sym c.in-Some.is ∙ c.kind_fault.ensures in
    let field = small_field b c.is_input_limit-input.result c.loop-h.h c.in-Some.field first in
    let some : 0 < header_count b = omega arith in
    let inside : word_at b 32 + 40 * header_count b ≤ length b = (c.requires.tabled.listed some).inside in
    let place : c.place.result ≡ word_at b 32 + 40 * c.loop-h.h = c.place.ensures in
    omega arith

pub loop-h-init : goal.loop-h-init
loop-h-init c = none_first c.args.bytes.now c.args.limit.now c.is_input_limit-input.result c.is_input_limit-input.ensures

pub returns-in-Some : goal.returns-in-Some
returns-in-Some c =
    let b = c.args.bytes.now in
    let here : IsHeader b c.loop-h.h = record { behind_null = omega arith; there = omega (arith, c.count-h-end.ensures.number) } in
    let first : Some c.in-Some.field ≡ first_of (kind_tests b c.is_input_limit-input.result c.loop-h.h) = sym c.in-Some.is ∙ c.kind_fault.ensures in
    let p : Place = record { section = c.loop-h.h; offset = c.place.result + c.in-Some.field } in
    lowest_here b c.args.limit.now c.is_input_limit-input.result c.is_input_limit-input.ensures c.loop-h.h c.in-Some.field here c.loop-h.invariant first p refl (ap (λ (n : ℕ). n + c.in-Some.field) c.place.ensures)

pub loop-h-preserved : goal.loop-h-preserved
loop-h-preserved c =
    let first = sym c.in_default.is ∙ c.kind_fault.ensures in
    none_more c.args.bytes.now c.args.limit.now c.is_input_limit-input.result c.is_input_limit-input.ensures c.loop-h.h c.loop-h.invariant first

pub returns : goal.returns
returns c = lowest_nowhere c.args.bytes.now c.args.limit.now c.is_input_limit-input.result c.is_input_limit-input.ensures (λ s o u f. c.loop-h.invariant s o (omega (arith, c.count-h-end.ensures.number)) f)
