use Rattle.std.proofs.Common.{sym}
use Rattle.std.specs.BTreeMap.{get}
use Rattle.code_ranges.specs.Spans.{place_cmp}
use Rattle.flat_link.proofs.MisplacedFacts.{has_place, tells}
use Rattle.flat_link.proofs.misplaced.is_right.Goals as goal

pub returns-in-None : goal.returns-in-None
returns-in-None c =
    absurd (has_place c.args.o.now c.sound.ensures (λ j x. get place_cmp c.args.relocs.now (j, x)) c.requires.relocs c.args.k c.args.r.now c.requires.there (sym c.in-None.ensures.value))

pub returns-in-Some : goal.returns-in-Some
returns-in-Some c =
    tells c.args.o.now c.sound.ensures (λ j x. get place_cmp c.args.relocs.now (j, x)) c.requires.relocs c.args.k c.args.r.now c.requires.there c.in-Some.placed.now (sym c.in-Some.ensures.value)
