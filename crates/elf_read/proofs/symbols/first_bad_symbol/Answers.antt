use Rattle.std.proofs.Common.{◌≡◌, ◌≤◌, ◌+◌, ◌*◌, ◌/◌, ◌||◌, ℕ, Bool, not, eqb, Some, None, ap, sym, ◌∙◌, arith, subst}
use Rattle.elf_model.specs.Constants.{local}
use Rattle.elf_model.specs.Fields.{byte_at}
use Rattle.elf_model.specs.Files.{Header, header}
use Rattle.elf_read.specs.Places.{first_of}
use Rattle.elf_read.proofs.SymbolTable.{table_kind, table_none, symbol_here, some_headers}
use Rattle.elf_read.proofs.BadSymbols.{tests_of, bind_at, others_more, small_field, sound_more, all_sound, first_symbol, no_symbols, same_tests}
use Rattle.elf_read.proofs.symbols.first_bad_symbol.Goals as goal
use Rattle.elf_read.proofs.symbols.first_bad_symbol.Goals.{then-seen, else-seen}

pub returns-in_default : goal.returns-in_default
returns-in_default c = λ l. no_symbols c.args.bytes.now l (table_none c.args.bytes.now (sym c.in_default.is ∙ c.symtab_of.ensures))

pub header_at-f-requires-clause-listed : goal.header_at-f-requires-clause-listed
header_at-f-requires-clause-listed c = (table_kind c.args.bytes.now c.in-Some.t (sym c.in-Some.is ∙ c.symtab_of.ensures)).1

pub header_at-f-requires-clause-headers : goal.header_at-f-requires-clause-headers
header_at-f-requires-clause-headers c =
    some_headers c.args.bytes.now c.in-Some.t _ c.requires.tabled (table_kind c.args.bytes.now c.in-Some.t (sym c.in-Some.is ∙ c.symtab_of.ensures))

pub symbol_fault-requires-clause-inside : goal.symbol_fault-requires-clause-inside
symbol_fault-requires-clause-inside c =
    let here = symbol_here c.args.bytes.now c.in-Some.t c.loop-k.k _ c.requires.tabled (sym c.in-Some.is ∙ c.symtab_of.ensures) c.header_at-f.ensures c.loop-k-test.true in
    omega (arith, here.inside)

pub overflow_cast-offset : goal.overflow_cast-offset
overflow_cast-offset c =
    let here = symbol_here c.args.bytes.now c.in-Some.t c.loop-k.k _ c.requires.tabled (sym c.in-Some.is ∙ c.symtab_of.ensures) c.header_at-f.ensures c.loop-k-test.true in
    omega (arith, here.inside)

pub overflow_add-offset : goal.overflow_add-offset
overflow_add-offset c =
    let b = c.args.bytes.now in
    let t = c.in-Some.t in
    let k = c.loop-k.k in
    let here = symbol_here c.args.bytes.now c.in-Some.t c.loop-k.k _ c.requires.tabled (sym c.in-Some.is ∙ c.symtab_of.ensures) c.header_at-f.ensures c.loop-k-test.true in
    let at : Some c.in-Some-symbol_fault.field ≡ first_of (tests_of b t k) =
    same_tests b t k (c.header_at-f.result.offset + 16 * k) c.loop-k.seen _ (sym c.in-Some-symbol_fault.is ∙ c.symbol_fault.ensures) c.loop-k.invariant.seen here.place in
    omega (arith, here.inside, small_field b t k c.in-Some-symbol_fault.field at)

pub bounds-bytes-at : goal.bounds-bytes-at
bounds-bytes-at c =
    let here = symbol_here c.args.bytes.now c.in-Some.t c.loop-k.k _ c.requires.tabled (sym c.in-Some.is ∙ c.symtab_of.ensures) c.header_at-f.ensures c.loop-k-test.true in
    omega (arith, here.inside)

pub returns-in-Some-symbol_fault : goal.returns-in-Some-symbol_fault
returns-in-Some-symbol_fault c = λ l.
    let b = c.args.bytes.now in
    let t = c.in-Some.t in
    let k = c.loop-k.k in
    let here = symbol_here c.args.bytes.now c.in-Some.t c.loop-k.k _ c.requires.tabled (sym c.in-Some.is ∙ c.symtab_of.ensures) c.header_at-f.ensures c.loop-k-test.true in
    let at : Some c.in-Some-symbol_fault.field ≡ first_of (tests_of b t k) =
    same_tests b t k (c.header_at-f.result.offset + 16 * k) c.loop-k.seen _ (sym c.in-Some-symbol_fault.is ∙ c.symbol_fault.ensures) c.loop-k.invariant.seen here.place in
    first_symbol b l t k c.in-Some-symbol_fault.field (c.header_at-f.result.offset + 16 * k) c.requires.tabled here.kind (omega arith) here.there here.place c.loop-k.invariant.sound at

pub loop-k-preserved : goal.loop-k-preserved
loop-k-preserved c =
    let b = c.args.bytes.now in
    let t = c.in-Some.t in
    let k = c.loop-k.k in
    let here = symbol_here c.args.bytes.now c.in-Some.t c.loop-k.k _ c.requires.tabled (sym c.in-Some.is ∙ c.symtab_of.ensures) c.header_at-f.ensures c.loop-k-test.true in
    let at : None ≡ first_of (tests_of b t k) =
    same_tests b t k (c.header_at-f.result.offset + 16 * k) c.loop-k.seen _ (sym c.in_default-symbol_fault.is ∙ c.symbol_fault.ensures) c.loop-k.invariant.seen here.place in
    let info = byte_at b (c.header_at-f.result.offset + 16 * k + 12) in
    let bind : info / 16 ≡ bind_at b t k = ap (λ (x : ℕ). byte_at b (x + 12) / 16) here.place in
    let step = others_more b t k info c.loop-k.seen (omega arith) bind c.loop-k.invariant.seen in
    record {
      seen =
          elim c.if-seen.branch [
            | then-seen w ↦ w.seen-is ∙ w.if-seen.true ∙ ap (λ (x : Bool). x || not (eqb (info / 16) local)) (sym w.if-seen.true) ∙ step
            | else-seen w ↦ w.seen-is ∙ ap (λ (x : Bool). x || not (eqb (info / 16) local)) (sym w.if-seen.false) ∙ step
          ];
      sound = sound_more b t k c.loop-k.invariant.sound at;
    }

pub returns : goal.returns
returns c = λ l.
    let b = c.args.bytes.now in
    let t = c.in-Some.t in
    let past : (header b t).size / 16 ≤ c.loop-k.k = subst (λ (x : Header). x.size / 16 ≤ c.loop-k.k) c.header_at-f.ensures c.loop-k-test.false in
    all_sound b l t c.loop-k.k c.requires.tabled (table_kind b t (sym c.in-Some.is ∙ c.symtab_of.ensures)) past c.loop-k.invariant.sound
