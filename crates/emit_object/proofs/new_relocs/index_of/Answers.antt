use Rattle.std.proofs.Common.{rules, ℕ, Ok, Err}
use Rattle.std.proofs.lemmas.List.Sorted.{answers_always}
use Rattle.emit_object.proofs.NewRelocFacts.{searched_place}
use Rattle.emit_object.proofs.new_relocs.index_of.Goals as goal

pub returns-in-Ok : goal.returns-in-Ok
returns-in-Ok c =
    searched_place c.args.targets.now c.args.place c.requires.rise (Ok c.in-Ok.n) c.in-Ok.ensures.bound (c.in-Ok.ensures.position (λ (q : ℕ × ℕ). q) (answers_always _ _ _ (λ f a r g called. search rules)))

pub returns-in-Err : goal.returns-in-Err
returns-in-Err c =
    searched_place c.args.targets.now c.args.place c.requires.rise (Err c.in-Err.field-0) c.in-Err.ensures.bound (c.in-Err.ensures.position (λ (q : ℕ × ℕ). q) (answers_always _ _ _ (λ f a r g called. search rules)))
