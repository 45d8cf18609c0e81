use Rattle.std.proofs.Common.{◌≡◌, ◌++◌, drop}
use Rattle.emit_object.specs.Marks.{first_marks}
use Rattle.emit_object.proofs.marks.add_first_marks.Given as goal

-- with those of the sections to come they are all
abbrev pub invariant-loop-s : goal.invariant-loop-s
invariant-loop-s l = record {
  all : l.list.items ++ first_marks l.words l.sizes l.j (drop l.s-index l.sections) ≡ l.initial.list.items ++ first_marks l.words l.sizes 0 l.sections;
  number : l.j ≡ l.s-index;
}
