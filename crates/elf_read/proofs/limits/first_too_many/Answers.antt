use Rattle.std.proofs.Common.{◌≤◌, ◌+◌, ℕ, refl, sym, ap, ◌∙◌, arith}
use Rattle.elf_model.specs.Files.{header_count}
use Rattle.elf_read.specs.declared.places.Place.{Place}
use Rattle.elf_read.specs.Faults.{IsHeader}
use Rattle.elf_read.proofs.LimitFaults.{many_headers_first, none_first, none_more, sums_more, lowest_here, lowest_nowhere}
use Rattle.elf_read.proofs.limits.first_too_many.Goals as goal

pub returns-then-n-limit : goal.returns-then-n-limit
returns-then-n-limit c =
    let p : Place = record { section = 0; offset = 48 } in
    many_headers_first c.args.bytes.now c.args.limit.now (omega (arith, c.count-n.ensures.number)) p refl refl

pub loop-h-init : goal.loop-h-init
loop-h-init c =
    let few : header_count c.args.bytes.now ≤ c.args.limit.now.sections = omega (arith, c.count-n.ensures.number) in
    record {
      sums = record { relocs_are = refl; code_is = refl; few = omega arith; little = omega arith };
      none = none_first c.args.bytes.now c.args.limit.now few;
    }

pub overflow_add-relocs : goal.overflow_add-relocs
overflow_add-relocs c = omega (arith, c.loop-h.invariant.sums.few)

pub overflow_add-code : goal.overflow_add-code
overflow_add-code c = omega (arith, c.loop-h.invariant.sums.little)

pub returns-then-passes : goal.returns-then-passes
returns-then-passes c =
    let here : IsHeader c.args.bytes.now c.loop-h.h = record { behind_null = omega arith; there = omega (arith, c.count-n.ensures.number) } in
    let p : Place = record { section = c.loop-h.h; offset = c.place.result + 20 } in
    lowest_here c.args.bytes.now c.args.limit.now c.loop-h.h c.loop-h.relocs c.loop-h.code c.symbols_at.result _ _ c.loop-h.auto.h c.loop-h.invariant.sums c.symbols_at.ensures
    (ap (λ (n : ℕ). c.loop-h.relocs + n) c.relocs_at.ensures) (ap (λ (n : ℕ). c.loop-h.code + n) c.code_at.ensures) here c.loop-h.invariant.none (sym c.passes.ensures ∙ c.if-passes.true) p refl (ap (λ (n : ℕ). n + 20) c.place.ensures)

pub loop-h-preserved : goal.loop-h-preserved
loop-h-preserved c =
    let fails = sym c.passes.ensures ∙ c.if-passes.false in
    record {
      sums = sums_more c.args.bytes.now c.args.limit.now c.loop-h.h c.loop-h.relocs c.loop-h.code c.symbols_at.result _ _ c.loop-h.auto.h c.loop-h.invariant.sums c.symbols_at.ensures
          (ap (λ (n : ℕ). c.loop-h.relocs + n) c.relocs_at.ensures) (ap (λ (n : ℕ). c.loop-h.code + n) c.code_at.ensures) fails;
      none = none_more c.args.bytes.now c.args.limit.now c.loop-h.h c.loop-h.relocs c.loop-h.code c.symbols_at.result _ _ c.loop-h.auto.h c.loop-h.invariant.sums c.symbols_at.ensures
          (ap (λ (n : ℕ). c.loop-h.relocs + n) c.relocs_at.ensures) (ap (λ (n : ℕ). c.loop-h.code + n) c.code_at.ensures) c.loop-h.invariant.none fails;
    }

pub returns : goal.returns
returns c =
    let few : header_count c.args.bytes.now ≤ c.args.limit.now.sections = omega (arith, c.count-n.ensures.number) in
    lowest_nowhere c.args.bytes.now c.args.limit.now few (λ s o u f. c.loop-h.invariant.none s o (omega (arith, c.count-n.ensures.number)) f)
