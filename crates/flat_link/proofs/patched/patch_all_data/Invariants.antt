use Rattle.std.proofs.Common.{◌+◌, map, take}
use Rattle.elf_model.specs.Objects.{is_data}
use Rattle.mark_word.specs.Words.{bare}
use Rattle.thumb_table.specs.Links.{AreWritten}
use Rattle.flat_link.specs.Layout.{parts_in}
use Rattle.flat_link.specs.Patches.{AreLaid}
use Rattle.flat_link.specs.Sites.{link_of}
use Rattle.flat_link.proofs.patched.patch_all_data.Given as goal

abbrev pub invariant-loop-t : goal.invariant-loop-t
invariant-loop-t l =
    AreLaid (λ k. is_data k.part.section) (λ all k. AreWritten (parts_in l.layout) all (l.layout.at.base + l.layout.at.room) k) (l.layout.at.base + l.layout.at.room) (map link_of (take l.t-index l.ties)) (bare 0) l.fn.cells l.cells
