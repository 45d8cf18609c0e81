use Rattle.std.proofs.Common.{arith}
use Rattle.flat_link.specs.Lots.{is_sound}
use Rattle.flat_link.proofs.ListFacts.{each}
use Rattle.flat_link.proofs.EndFacts.{ends_within}
use Rattle.flat_link.proofs.lots.placed.Goals as goal

pub start_of-start-requires-clause-section : goal.start_of-start-requires-clause-section
start_of-start-requires-clause-section c = each is_sound c.args.lots.now c.loop-l.l-index c.l-item.result c.requires.sound (omega arith) c.l-item.is

pub start_of-start-requires-clause-low : goal.start_of-start-requires-clause-low
start_of-start-requires-clause-low c =
    let w = ends_within c.args.sort c.loop-l.end _ c.args.lots.now c.loop-l.l-index c.l-item.result c.requires.sound (omega arith) c.l-item.is c.loop-l.invariant.left in
    omega (arith, w.0, c.requires.low)

pub overflow_cast-start : goal.overflow_cast-start
overflow_cast-start c =
    let w = ends_within c.args.sort c.loop-l.end _ c.args.lots.now c.loop-l.l-index c.l-item.result c.requires.sound (omega arith) c.l-item.is c.loop-l.invariant.left in
    omega (arith, w.1, c.requires.low, c.start_of-start.ensures.placed)

pub overflow_add-end : goal.overflow_add-end
overflow_add-end c =
    let w = ends_within c.args.sort c.loop-l.end _ c.args.lots.now c.loop-l.l-index c.l-item.result c.requires.sound (omega arith) c.l-item.is c.loop-l.invariant.left in
    omega (arith, w.1, c.requires.low, c.start_of-start.ensures.placed)
