use Rattle.std.proofs.Common.{map, string_bytes, refl}
use Rattle.std.specs.Prelude.{IsSome}
use Rattle.guard_cli.specs.Moments.{files_seen, screen_seen}
use Rattle.guard_cli.specs.Endings.{EndsAs}
use Rattle.guard_words.specs.Meanings.{Meaning}
use Rattle.guard_cli.specs.Meant.{work_of}
use Rattle.guard_words.specs.Tasks.{meaning_by}
use Rattle.guard_cli.proofs.Answered.{ends_done}
use Rattle.guard_cli.proofs.Carried.{untouched_here}
use Rattle.guard_cli.proofs.WantingWords.{wanting_ends, wanting_means}
use Rattle.guard_cli.proofs.Lawful.{work_is_lawful}
use Rattle.guard_words.proofs.Meanings.{meant}
use Rattle.guard_cli.proofs.CarriedTasks.{sound_by, few_by, inputs_there, not_misused}
use Rattle.guard_cli.proofs.guard_main.Goals as goal

pub returns-in-Unknown-clause-usage : goal.returns-in-Unknown-clause-usage
returns-in-Unknown-clause-usage g c = (λ e m h. c.in-Unknown.ensures (m, h), λ none. refl)

pub returns-in-Unknown-clause-misused : goal.returns-in-Unknown-clause-misused
returns-in-Unknown-clause-misused g c = λ e. record {
  untouched = record { told = refl; each = λ name. refl; saves = refl };
  loads = refl;
  said = rw (c.as_bytes.ensures.value, c.usage_text.ensures) at c.tell.ensures.told;
}

pub returns-in-Unknown-clause-ends : goal.returns-in-Unknown-clause-ends
returns-in-Unknown-clause-ends g c = λ m h. absurd (c.in-Unknown.ensures (m, h))

pub returns-in-Unknown-clause-completes : goal.returns-in-Unknown-clause-completes
returns-in-Unknown-clause-completes g c = λ m loaded h told has accepts calm. absurd (c.in-Unknown.ensures (m, h))

pub carry_out-requires-clause-sound : goal.carry_out-requires-clause-sound
carry_out-requires-clause-sound g c = sound_by (map string_bytes c.args.words.now) c.in-Task.task c.in-Task.ensures

pub carry_out-requires-clause-inputs : goal.carry_out-requires-clause-inputs
carry_out-requires-clause-inputs g c = few_by (map string_bytes c.args.words.now) c.in-Task.task c.in-Task.ensures

pub returns-in-Task-clause-usage : goal.returns-in-Task-clause-usage
returns-in-Task-clause-usage g c =
    let files = files_seen g.S.Shelf.tells g.S.Shelf.file g.S.Shelf.steady g.S.Shelf.load_faults g.S.Shelf.save_faults in
    let screen = screen_seen g.K.Sink.tells g.K.Sink.written g.K.Sink.steady g.K.Sink.faults g.K.Sink.wants in (
      λ e. absurd (not_misused c.in-Task.task (files c.args.shelf.now) (files c.carry_out.new.shelf) (screen c.args.out.now) (screen c.carry_out.new.out) c.carry_out.result c.carry_out.ensures.ends e),
      λ none. absurd (none (meaning_by c.in-Task.task) c.in-Task.ensures),
    )

pub returns-in-Task-clause-misused : goal.returns-in-Task-clause-misused
returns-in-Task-clause-misused g c =
    let files = files_seen g.S.Shelf.tells g.S.Shelf.file g.S.Shelf.steady g.S.Shelf.load_faults g.S.Shelf.save_faults in
    let screen = screen_seen g.K.Sink.tells g.K.Sink.written g.K.Sink.steady g.K.Sink.faults g.K.Sink.wants in
    λ e. absurd (not_misused c.in-Task.task (files c.args.shelf.now) (files c.carry_out.new.shelf) (screen c.args.out.now) (screen c.carry_out.new.out) c.carry_out.result c.carry_out.ensures.ends e)

pub returns-in-Task-clause-ends : goal.returns-in-Task-clause-ends
returns-in-Task-clause-ends g c = λ m means.
    let files = files_seen g.S.Shelf.tells g.S.Shelf.file g.S.Shelf.steady g.S.Shelf.load_faults g.S.Shelf.save_faults in
    let screen = screen_seen g.K.Sink.tells g.K.Sink.written g.K.Sink.steady g.K.Sink.faults g.K.Sink.wants in
    meant (map string_bytes c.args.words.now) (meaning_by c.in-Task.task) m
    (λ (m : Meaning). EndsAs (work_of m) (files c.args.shelf.now) (files c.carry_out.new.shelf) (screen c.args.out.now) (screen c.carry_out.new.out) c.carry_out.result)
    c.in-Task.ensures means c.carry_out.ensures.ends

pub returns-in-Task-clause-completes : goal.returns-in-Task-clause-completes
returns-in-Task-clause-completes g c = λ m loaded means told has accepts calm.
    let files = files_seen g.S.Shelf.tells g.S.Shelf.file g.S.Shelf.steady g.S.Shelf.load_faults g.S.Shelf.save_faults in
    let screen = screen_seen g.K.Sink.tells g.K.Sink.written g.K.Sink.steady g.K.Sink.faults g.K.Sink.wants in
    ends_done (work_of m) (work_is_lawful m) (files c.args.shelf.now) (files c.carry_out.new.shelf) (screen c.args.out.now) (screen c.carry_out.new.out) loaded told has accepts calm c.carry_out.result
    (meant (map string_bytes c.args.words.now) (meaning_by c.in-Task.task) m
    (λ (m : Meaning). EndsAs (work_of m) (files c.args.shelf.now) (files c.carry_out.new.shelf) (screen c.args.out.now) (screen c.carry_out.new.out) c.carry_out.result)
    c.in-Task.ensures means c.carry_out.ensures.ends)

pub returns-in-Task-clause-calm : goal.returns-in-Task-clause-calm
returns-in-Task-clause-calm g c = λ steady steady_out present.
    c.carry_out.ensures.calm steady steady_out (inputs_there c.in-Task.task (λ name. IsSome (g.S.Shelf.file c.args.shelf.now name)) (present (meaning_by c.in-Task.task) c.in-Task.ensures))

pub returns-in-NoMemory-clause-usage : goal.returns-in-NoMemory-clause-usage
returns-in-NoMemory-clause-usage g c = (λ e m h. absurd (cc), λ none. let e = wanting_means (map string_bytes c.args.words.now) c.in-NoMemory.ensures in absurd (none e.0 e.1))

pub returns-in-NoMemory-clause-ends : goal.returns-in-NoMemory-clause-ends
returns-in-NoMemory-clause-ends g c = λ m means.
    let files = files_seen g.S.Shelf.tells g.S.Shelf.file g.S.Shelf.steady g.S.Shelf.load_faults g.S.Shelf.save_faults in
    let screen = screen_seen g.K.Sink.tells g.K.Sink.written g.K.Sink.steady g.K.Sink.faults g.K.Sink.wants in
    let here = files c.args.shelf.now in
    rw c.give_up.ensures.ending
    (wanting_ends here here (screen c.args.out.now) (screen c.give_up.new.out) (map string_bytes c.args.words.now) m c.in-NoMemory.ensures
    (untouched_here here, c.give_up.ensures.told) means)
