use Rattle.std.proofs.Common.{◌≡◌, ℕ, List, Bor, Option, Some, None, cond, sym, ap, ◌∙◌}
use Rattle.std.specs.Option.{option_or}
use Rattle.elf_model.specs.Fields.{same_name}
use Rattle.flat_link.specs.declared.known.Known.{Known}
use Rattle.flat_link.specs.Known.{named}
use Rattle.flat_link.proofs.NameFacts.{note_new, is_none_copied}
use Rattle.flat_link.proofs.names.note.Goals as goal

pub returns-in_ok-insert : goal.returns-in_ok-insert
returns-in_ok-insert c = λ n.
    let q : Bor (List ℕ) = record { ref_ptr = (0, 0); now = n } in
    let old : List ℕ → Option Known = λ m. named m c.args.names.now in
    let name : List ℕ = c.bytes-name.result.now in
    let none : old name ≡ None = sym c.get.ensures.value ∙ is_none_copied c.get.result c.is_none.result c.is_none.ensures c.if-is_none.true in
    note_new name n old c.args.known (named n c.insert.new.self) (c.in_ok-insert.ensures.updates.0 q) none
    ∙ ap (λ (m : List ℕ). option_or (old n) (cond (same_name m n) (Some c.args.known) None)) c.bytes-name.ensures
