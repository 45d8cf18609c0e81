use Rattle.std.proofs.Common.{◌≡◌, OnOk, ◌++◌, ◌∷◌, [], ◌+◌, length, Ok, Err}
use Rattle.elf_model.specs.Canonical.{FileSection, start_of, added, row_with}
use Rattle.elf_write.specs.Writing.{IsWritten, file_section, names_of}
use Rattle.elf_write.proofs.Laying.{one_written}
use Rattle.elf_write.proofs.layout.put_named.Goals as goal

pub returns : goal.returns
returns c = λ ss h.
    let s : FileSection = file_section c.args.name.now c.args.head.now c.args.bytes.now in
    elim c.put.result as (λ r. OnOk r (c.put.new.layout.contents.items ≡ c.args.layout.now.contents.items ++ added (52 + length c.args.layout.now.contents.items) s)
    → OnOk r (c.put.new.layout.rows.items ≡ c.args.layout.now.rows.items ++ row_with c.in_ok-offset.offset (start_of (52 + length c.args.layout.now.contents.items) s) s) → OnOk r (IsWritten c.put.new.layout c.add.new.self (ss ++ s ∷ []))) [
      | Ok v ↦ λ contents rows. one_written c.args.layout.now c.put.new.layout c.args.names.now c.add.new.self ss s c.in_ok-offset.offset c.requires.aligned h (c.in_ok-offset.ensures.offset (names_of ss) h.names) (c.in_ok-offset.ensures.table (names_of ss) h.names) contents rows
      | Err e ↦ λ contents rows. tt
    ] c.put.ensures.contents c.put.ensures.rows
