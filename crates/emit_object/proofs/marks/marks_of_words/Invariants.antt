use Rattle.std.proofs.Common.{◌≡◌, ◌++◌, drop}
use Rattle.emit_object.specs.Marks.{word_marks}
use Rattle.emit_object.proofs.marks.marks_of_words.Given as goal

-- with those of the words to come they are all
abbrev pub invariant-loop-w : goal.invariant-loop-w
invariant-loop-w l = l.list.items ++ word_marks l.words l.begins (drop l.w-index l.all) ≡ word_marks l.words l.begins l.all
