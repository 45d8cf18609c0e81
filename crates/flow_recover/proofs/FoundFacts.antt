-- What stands at a node is one answer.
use Rattle.std.proofs.Common.{◌≡◌, ℕ, sym, ap, ◌∙◌}
use Rattle.elf_model.specs.Objects.{ObjectParts}
use Rattle.thumb_instr.specs.Rows.{Answer}
use Rattle.flow_recover.specs.declared.nodes.Node.{Node}
use Rattle.reloc_places.specs.Starts.{bytes_of, instr_at}
use Rattle.flow_recover.specs.Reach.{IsFound}
use Rattle.reloc_places.proofs.StartFacts.{start_unique}

pub found_once : (o : ObjectParts) (n : Node) (a b : Answer) → IsFound o n a → IsFound o n b → a ≡ b
found_once o n a b f g =
    sym f.is ∙ ap (λ (end : ℕ). instr_at (bytes_of o n.section) end n.offset n.it) (start_unique o n.section n.offset f.end g.end (bytes_of o n.section) f.start g.start) ∙ g.is
