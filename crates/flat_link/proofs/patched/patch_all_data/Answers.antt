use Rattle.std.proofs.Common.{◌∙◌, ◌+◌, List, map, take, ap, sym, subst, arith}
use Rattle.std.proofs.lemmas.List.{take_all}
use Rattle.elf_model.specs.Objects.{is_data}
use Rattle.mark_word.specs.Words.{Cell, bare}
use Rattle.thumb_table.specs.Links.{Link, AreWritten}
use Rattle.flat_link.specs.Layout.{parts_in}
use Rattle.flat_link.specs.Patches.{AreLaid}
use Rattle.flat_link.specs.Sites.{link_of}
use Rattle.flat_link.proofs.TieFacts.{tie_at}
use Rattle.flat_link.proofs.LaidFacts.{data_step, data_skip}
use Rattle.flat_link.proofs.patched.patch_all_data.Goals as goal
use Rattle.flat_link.proofs.patched.patch_all_data.Goals.{then-is_data, else-is_data}

pub patch_data-requires-clause-tie : goal.patch_data-requires-clause-tie
patch_data-requires-clause-tie c = tie_at c.args.layout.now c.args.ties.now c.requires.ties c.loop-t.t-index c.t-item.result (omega arith) c.t-item.is

pub loop-t-preserved : goal.loop-t-preserved
loop-t-preserved c =
    let l = c.args.layout.now in
    let up = λ (b : List Cell).
    AreLaid (λ k. is_data k.part.section) (λ all k. AreWritten (parts_in l) all (l.at.base + l.at.room) k) (l.at.base + l.at.room) (map link_of (take (c.loop-t.t-index + 1) c.args.ties.now)) (bare 0) c.args.cells.now b in
    elim c.if-is_data.branch [
      | then-is_data w ↦
          subst up (sym w.cells-is)
          (data_step l c.args.ties.now c.requires.ties c.loop-t.t-index c.t-item.result (omega arith) c.t-item.is c.requires.layout c.args.cells.now c.loop-t.cells w.patch_data.new.cells
          (sym c.is_data.ensures ∙ w.if-is_data.true) w.patch_data.ensures.put w.patch_data.ensures.written c.loop-t.invariant)
      | else-is_data w ↦
          subst up (sym w.cells-is)
          (data_skip l c.args.ties.now c.requires.ties c.loop-t.t-index c.t-item.result (omega arith) c.t-item.is c.requires.layout c.args.cells.now c.loop-t.cells c.loop-t.cells (sym c.is_data.ensures ∙ w.if-is_data.false) c.loop-t.invariant)
    ]

pub returns : goal.returns
returns c =
    let l = c.args.layout.now in
    subst (λ (ls : List Link). AreLaid (λ k. is_data k.part.section) (λ all k. AreWritten (parts_in l) all (l.at.base + l.at.room) k) (l.at.base + l.at.room) ls (bare 0) c.args.cells.now c.loop-t.cells)
    (ap (map link_of) (take_all c.loop-t.t-index c.args.ties.now (omega arith))) c.loop-t.invariant
