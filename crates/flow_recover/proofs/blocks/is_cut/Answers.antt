use Rattle.std.proofs.Common.{◌∙◌, ap, List, ℕ}
use Rattle.std.specs.List.{list_all}
use Rattle.elf_model.specs.Ranges.{is_whole}
use Rattle.reloc_places.specs.Starts.{following}
use Rattle.flow_recover.proofs.BlockFacts.{none_cut, block_cut}
use Rattle.flow_recover.proofs.blocks.is_cut.Goals as goal

pub returns-in-None : goal.returns-in-None
returns-in-None c = none_cut c.args.o.now c.args.v.now.node c.in-None.ensures.exact

pub returns-in-Some : goal.returns-in-Some
returns-in-Some c = block_cut c.args.o.now c.args.v.now.node c.in-Some.b c.are_whole.result c.in-Some.ensures.exact
    (c.are_whole.ensures ∙ ap (λ (bytes : List ℕ). list_all (is_whole bytes c.in-Some.b.end) (following bytes c.in-Some.b.count c.in-Some.b.start)) c.bytes_of.ensures)
