use Rattle.std.proofs.Common.{ℕ, ◌-◌, ◌+◌, List, length, arith, ap, ◌∙◌}
use Rattle.mark_word.specs.Words.{Cell}
use Rattle.flat_link.specs.Patches.{put_over}
use Rattle.flat_link.specs.Sites.{link_of}
use Rattle.flat_link.proofs.TieFacts.{standing, data_place}
use Rattle.flat_link.proofs.LaidFacts.{data_put, data_room}
use Rattle.flat_link.proofs.patched.patch_data.Goals as goal

pub overflow_sub-x : goal.overflow_sub-x
overflow_sub-x c =
    let p = data_place c.args.layout.now.objects.now c.args.layout.now.at (standing c.args.layout.now c.requires.layout) (link_of c.args.t.now) c.requires.tie.link c.requires.datum in
    omega (arith, p.0, c.place_of.ensures)

pub put_cells-requires : goal.put_cells-requires
put_cells-requires c =
    let from = c.args.layout.now.at.base + c.args.layout.now.at.room in
    data_room c.args.layout.now.objects.now c.args.layout.now.at (standing c.args.layout.now c.requires.layout) (link_of c.args.t.now) c.requires.tie c.requires.datum c.args.cells.now c.args.cells.now c.requires.size (c.place_of.result - from) (length c.pieces.result)
    (ap (λ (n : ℕ). n - from) c.place_of.ensures) (ap length c.pieces.ensures)

pub returns-clause-put : goal.returns-clause-put
returns-clause-put c =
    let from = c.args.layout.now.at.base + c.args.layout.now.at.room in
    (data_put c.args.layout.now.objects.now c.args.layout.now.at (standing c.args.layout.now c.requires.layout) (link_of c.args.t.now) c.requires.tie c.requires.datum c.args.cells.now c.put_cells.new.cells c.requires.size (c.place_of.result - from) c.word_of.result
    (ap (λ (n : ℕ). n - from) c.place_of.ensures) c.word_of.ensures (c.put_cells.ensures ∙ ap (λ (run : List Cell). put_over c.args.cells.now (c.place_of.result - from) run) c.pieces.ensures)).0

pub returns-clause-written : goal.returns-clause-written
returns-clause-written c =
    let from = c.args.layout.now.at.base + c.args.layout.now.at.room in
    (data_put c.args.layout.now.objects.now c.args.layout.now.at (standing c.args.layout.now c.requires.layout) (link_of c.args.t.now) c.requires.tie c.requires.datum c.args.cells.now c.put_cells.new.cells c.requires.size (c.place_of.result - from) c.word_of.result
    (ap (λ (n : ℕ). n - from) c.place_of.ensures) c.word_of.ensures (c.put_cells.ensures ∙ ap (λ (run : List Cell). put_over c.args.cells.now (c.place_of.result - from) run) c.pieces.ensures)).1
