use Rattle.std.proofs.Common.{◌∙◌, ◌+◌, List, ℕ, map, take, sym, subst, arith}
use Rattle.elf_model.specs.Objects.{is_code}
use Rattle.elf_model.proofs.Elements.{map_contains}
use Rattle.thumb_table.specs.Links.{IsWritten}
use Rattle.flat_link.specs.Layout.{parts_in}
use Rattle.flat_link.specs.Patches.{AreLaid}
use Rattle.flat_link.specs.Sites.{link_of}
use Rattle.flat_link.proofs.ListFacts.{has_at}
use Rattle.flat_link.proofs.TieFacts.{tie_at}
use Rattle.flat_link.proofs.LaidFacts.{code_step, code_skip}
use Rattle.flat_link.proofs.patched.patch_all_code.Goals as goal
use Rattle.flat_link.proofs.patched.patch_all_code.Goals.{then-is_code, else-is_code}

pub patch_code-requires-clause-tie : goal.patch_code-requires-clause-tie
patch_code-requires-clause-tie c = tie_at c.args.layout.now c.args.ties.now c.requires.ties c.loop-t.t-index c.t-item.result (omega arith) c.t-item.is

pub patch_code-requires-clause-range : goal.patch_code-requires-clause-range
patch_code-requires-clause-range c = c.requires.range (link_of c.t-item.result) (map_contains link_of c.args.ties.now c.t-item.result (has_at c.args.ties.now c.loop-t.t-index c.t-item.result (omega arith) c.t-item.is))

pub loop-t-preserved : goal.loop-t-preserved
loop-t-preserved c =
    let l = c.args.layout.now in
    let up = λ (b : List ℕ). AreLaid (λ k. is_code k.part.section) (λ all k. IsWritten (parts_in l) all l.at.base k) l.at.base (map link_of (take (c.loop-t.t-index + 1) c.args.ties.now)) 0 c.args.bytes.now b in
    elim c.if-is_code.branch [
      | then-is_code w ↦
          subst up (sym w.bytes-is)
          (code_step l c.args.ties.now c.requires.ties c.loop-t.t-index c.t-item.result (omega arith) c.t-item.is c.requires.layout c.args.bytes.now c.loop-t.bytes w.patch_code.new.bytes
          (sym c.is_code.ensures ∙ w.if-is_code.true) w.patch_code.ensures.put w.patch_code.ensures.written c.loop-t.invariant)
      | else-is_code w ↦
          subst up (sym w.bytes-is)
          (code_skip l c.args.ties.now c.requires.ties c.loop-t.t-index c.t-item.result (omega arith) c.t-item.is c.requires.layout c.args.bytes.now c.loop-t.bytes c.loop-t.bytes (sym c.is_code.ensures ∙ w.if-is_code.false) c.loop-t.invariant)
    ]
