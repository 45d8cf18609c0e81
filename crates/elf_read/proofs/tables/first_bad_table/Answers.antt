use Rattle.std.proofs.Common.{◌≡◌, ◌+◌, ◌≤◌, ◌*◌, ◌||◌, Bool, Some, None, eqb, length, refl, sym, ◌∙◌, ap, arith}
use Rattle.elf_model.specs.Constants.{symtab}
use Rattle.elf_model.specs.Fields.{word_at}
use Rattle.elf_model.specs.Files.{header, header_count}
use Rattle.elf_read.specs.Faults.{IsHeader}
use Rattle.elf_read.specs.Headers.{fields_of}
use Rattle.elf_read.specs.HeaderFaults.{table_tests}
use Rattle.elf_read.specs.Places.{first_of}
use Rattle.elf_read.proofs.TableFaults.{tests_of, none_at_all, none_first, none_more, listed_here, same_tests, small_field, first_in_file, first_in_header, seen_step}
use Rattle.elf_read.proofs.tables.first_bad_table.Goals as goal
use Rattle.elf_read.proofs.tables.first_bad_table.Goals.{then-seen, else-seen}

pub returns-then-n-eq0 : goal.returns-then-n-eq0
returns-then-n-eq0 c = λ l. none_at_all c.args.bytes.now l (λ s o lt f. omega arith)

pub returns-in-Some : goal.returns-in-Some
returns-in-Some c = λ l. first_in_file c.args.bytes.now l c.in-Some.offset (omega arith) (sym c.in-Some.is ∙ c.table_fault.ensures)

pub loop-h-init : goal.loop-h-init
loop-h-init c =
    let sound : None ≡ first_of (table_tests c.args.bytes.now) = sym c.in_default.is ∙ c.table_fault.ensures in
    record { listed = listed_here c.args.bytes.now c.requires.long sound; seen = refl; none = none_first c.args.bytes.now sound }

pub header_fault-requires : goal.header_fault-requires
header_fault-requires c = c.loop-h.invariant.listed

pub overflow_add-offset : goal.overflow_add-offset
overflow_add-offset c =
    let b = c.args.bytes.now in
    let h = c.loop-h.h in
    let at : Some c.in-Some-header_fault.field ≡ first_of (tests_of b h) =
    same_tests b h c.loop-h.seen (fields_of c.header_at-f.result) _ (sym c.in-Some-header_fault.is ∙ c.header_fault.ensures) c.loop-h.invariant.seen c.header_at-f.ensures in
    let field = small_field b h c.in-Some-header_fault.field at in
    let inside : word_at b 32 + 40 * header_count b ≤ length b = c.loop-h.invariant.listed.inside in
    let place : c.place.result ≡ word_at b 32 + 40 * h = c.place.ensures in
    omega arith

pub returns-in-Some-header_fault : goal.returns-in-Some-header_fault
returns-in-Some-header_fault c = λ l.
    let b = c.args.bytes.now in
    let h = c.loop-h.h in
    let d = c.in-Some-header_fault.field in
    let at : Some d ≡ first_of (tests_of b h) =
    same_tests b h c.loop-h.seen (fields_of c.header_at-f.result) _ (sym c.in-Some-header_fault.is ∙ c.header_fault.ensures) c.loop-h.invariant.seen c.header_at-f.ensures in
    let here : IsHeader b h = record { behind_null = omega arith; there = omega arith } in
    rw c.place.ensures (first_in_header b l h d here c.loop-h.invariant.none at)

pub loop-h-preserved : goal.loop-h-preserved
loop-h-preserved c =
    let b = c.args.bytes.now in
    let h = c.loop-h.h in
    let kind = c.header_at-f.result.kind in
    let at : None ≡ first_of (tests_of b h) =
    same_tests b h c.loop-h.seen (fields_of c.header_at-f.result) _ (sym c.in_default-header_fault.is ∙ c.header_fault.ensures) c.loop-h.invariant.seen c.header_at-f.ensures in
    let here : IsHeader b h = record { behind_null = omega arith; there = omega arith } in
    let same : kind ≡ (header b h).kind = ap (λ x. x.kind) c.header_at-f.ensures in
    let step = seen_step b h kind c.loop-h.seen here same c.loop-h.invariant.seen in
    record {
      listed = c.loop-h.invariant.listed;
      seen =
          elim c.if-seen.branch [
            | then-seen w ↦ w.seen-is ∙ w.if-seen.true ∙ ap (λ (x : Bool). x || eqb kind symtab) (sym w.if-seen.true) ∙ step
            | else-seen w ↦ w.seen-is ∙ ap (λ (x : Bool). x || eqb kind symtab) (sym w.if-seen.false) ∙ step
          ];
      none = none_more b h (omega arith) at c.loop-h.invariant.none;
    }

pub returns : goal.returns
returns c = λ l. none_at_all c.args.bytes.now l (λ s o lt f. c.loop-h.invariant.none s o (omega arith) f)
