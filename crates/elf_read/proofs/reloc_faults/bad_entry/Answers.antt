use Rattle.std.proofs.Common.{◌<◌, ◌+◌, ◌*◌, ℕ, refl, sym, ap, ◌∙◌, subst, arith}
use Rattle.elf_model.specs.Files.{Header, header, header_count}
use Rattle.elf_read.specs.declared.places.Place.{Place}
use Rattle.elf_read.proofs.KeptSymbols.{flags_tell}
use Rattle.elf_read.proofs.BadRelocs.{target_there, entry_here, taken_more, taken_next, none_more, not_here, small_field, lowest_entry, no_entries}
use Rattle.elf_read.proofs.reloc_faults.bad_entry.Goals as goal

pub header_at-room-requires-clause-listed : goal.header_at-room-requires-clause-listed
header_at-room-requires-clause-listed c =
    let b = c.args.bytes.now in
    let info = ap (λ (f : Header). f.info) c.header_at-header.ensures in
    let there : (header b c.args.h).info < header_count b = (target_there b c.args.h c.requires.tabled c.requires.listed c.requires.kind).there in
    subst (λ (k : ℕ). k < header_count b) (sym info) there

pub word-requires : goal.word-requires
word-requires c =
    let here = entry_here c.args.bytes.now c.args.h c.requires.tabled c.requires.listed c.requires.kind c.loop-j.j _ c.header_at-header.ensures c.loop-j-test.true in
    omega (arith, here.inside)

pub entry_fault-requires : goal.entry_fault-requires
entry_fault-requires c =
    let here = entry_here c.args.bytes.now c.args.h c.requires.tabled c.requires.listed c.requires.kind c.loop-j.j _ c.header_at-header.ensures c.loop-j-test.true in
    omega (arith, here.inside)

pub overflow_cast-result-in-Some : goal.overflow_cast-result-in-Some
overflow_cast-result-in-Some c =
    let here = entry_here c.args.bytes.now c.args.h c.requires.tabled c.requires.listed c.requires.kind c.loop-j.j _ c.header_at-header.ensures c.loop-j-test.true in
    omega (arith, here.inside)

pub overflow_add-result : goal.overflow_add-result
overflow_add-result c =
    let b = c.args.bytes.now in
    let here = entry_here c.args.bytes.now c.args.h c.requires.tabled c.requires.listed c.requires.kind c.loop-j.j _ c.header_at-header.ensures c.loop-j-test.true in
    let r : ℕ = c.header_at-header.result.offset + 8 * c.loop-j.j in
    let room = ap (λ (f : Header). f.size) c.header_at-room.ensures ∙ ap (λ (k : ℕ). (header b k).size) here.info in
    let tell = flags_tell b c.requires.tabled c.requires.homes c.args.symbols.now c.requires.symbols in
    let field = small_field b c.args.h c.loop-j.j r _ _ _ _ _ here.stands c.loop-j.invariant.taken room here.info c.word.ensures c.in_ok-added.ensures.added tell.0 tell.1 c.in-Some.field (sym c.in-Some.is ∙ c.entry_fault.ensures) in
    omega (arith, here.inside, field)

pub returns-in-Some-clause-found : goal.returns-in-Some-clause-found
returns-in-Some-clause-found c =
    let b = c.args.bytes.now in
    let here = entry_here c.args.bytes.now c.args.h c.requires.tabled c.requires.listed c.requires.kind c.loop-j.j _ c.header_at-header.ensures c.loop-j-test.true in
    let r : ℕ = c.header_at-header.result.offset + 8 * c.loop-j.j in
    let room = ap (λ (f : Header). f.size) c.header_at-room.ensures ∙ ap (λ (k : ℕ). (header b k).size) here.info in
    let tell = flags_tell b c.requires.tabled c.requires.homes c.args.symbols.now c.requires.symbols in
    let p : Place = record { section = c.args.h; offset = r + c.in-Some.field } in
    lowest_entry b c.args.h c.loop-j.j r _ _ _ _ _ here.stands c.loop-j.invariant.taken room here.info c.word.ensures c.in_ok-added.ensures.added tell.0 tell.1 c.in-Some.field (sym c.in-Some.is ∙ c.entry_fault.ensures) c.loop-j.invariant.none p refl refl

pub loop-j-preserved : goal.loop-j-preserved
loop-j-preserved c =
    let b = c.args.bytes.now in
    let here = entry_here c.args.bytes.now c.args.h c.requires.tabled c.requires.listed c.requires.kind c.loop-j.j _ c.header_at-header.ensures c.loop-j-test.true in
    let r : ℕ = c.header_at-header.result.offset + 8 * c.loop-j.j in
    let room = ap (λ (f : Header). f.size) c.header_at-room.ensures ∙ ap (λ (k : ℕ). (header b k).size) here.info in
    let tell = flags_tell b c.requires.tabled c.requires.homes c.args.symbols.now c.requires.symbols in
    record {
      taken = taken_more b c.args.h c.loop-j.j r _ _ _ here.stands here.info c.word.ensures c.in_ok-added.ensures.updates.0 c.loop-j.invariant.taken;
      none = none_more b c.args.h c.loop-j.j c.loop-j.invariant.none
          (not_here b c.args.h c.loop-j.j r _ _ _ _ _ here.stands c.loop-j.invariant.taken room here.info c.word.ensures c.in_ok-added.ensures.added tell.0 tell.1 (sym c.in_default.is ∙ c.entry_fault.ensures));
    }

pub returns-clause-found : goal.returns-clause-found
returns-clause-found c =
    let size = ap (λ (f : Header). f.size) c.header_at-header.ensures in
    no_entries c.args.bytes.now c.args.h c.loop-j.j (omega (arith, size)) c.loop-j.invariant.none

pub returns-clause-taken : goal.returns-clause-taken
returns-clause-taken c =
    let size = ap (λ (f : Header). f.size) c.header_at-header.ensures in
    taken_next c.args.bytes.now c.args.h c.loop-j.j _ (λ j r at. let l = at.there in omega (arith, size, l)) c.loop-j.invariant.taken
