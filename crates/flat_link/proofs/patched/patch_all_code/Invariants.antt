use Rattle.std.proofs.Common.{map, take}
use Rattle.elf_model.specs.Objects.{is_code}
use Rattle.thumb_table.specs.Links.{IsWritten}
use Rattle.flat_link.specs.Layout.{parts_in}
use Rattle.flat_link.specs.Patches.{AreLaid}
use Rattle.flat_link.specs.Sites.{link_of}
use Rattle.flat_link.proofs.patched.patch_all_code.Given as goal

abbrev pub invariant-loop-t : goal.invariant-loop-t
invariant-loop-t l =
    AreLaid (λ k. is_code k.part.section) (λ all k. IsWritten (parts_in l.layout) all l.layout.at.base k) l.layout.at.base (map link_of (take l.t-index l.ties)) 0 l.fn.bytes l.bytes
