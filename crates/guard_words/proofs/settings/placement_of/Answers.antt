use Rattle.std.proofs.Common.{subst}
use Rattle.std.proofs.lemmas.Bool.{false≢true}
use Rattle.thumb_table.specs.Layouts.{IsPlacement}
use Rattle.guard_words.proofs.NumberTexts.{number_given}
use Rattle.guard_words.proofs.OneMeaning.{placement_is}
use Rattle.guard_words.proofs.settings.placement_of.Goals as goal

pub returns-else-is_place : goal.returns-else-is_place
returns-else-is_place c = λ at placed.
    let base = number_given c.args.options.now.base c.in_ok-options.field-0 at.base c.in_ok-base.base c.in_ok-options.was placed.base c.in_ok-base.ensures in
    let room = number_given c.args.options.now.room c.in_ok-options-2.field-0 at.room c.in_ok-room.room c.in_ok-options-2.was placed.room c.in_ok-room.ensures in
    false≢true (c.if-is_place.ensures.1 (subst IsPlacement (placement_is at c.in_ok-base.base c.in_ok-room.room base room placed.stack) placed.sound))
