use Rattle.std.proofs.Common.{◌≡◌, ◌≤◌, ℕ, length}
use Rattle.std.specs.Prelude.{slice_get}
use Rattle.emit_object.specs.NewSections.{AreMade}
use Rattle.emit_object.proofs.new_sections.old_sections.Given as goal

-- the bytes of the sections to come are there
abbrev pub invariant-loop-j : goal.invariant-loop-j
invariant-loop-j l = record {
  made : AreMade l.sections l.sizes l.initial.code.items l.initial.kept.items l.j l.list.items;
  code_count : length l.code.items ≡ length l.initial.code.items;
  kept_count : length l.kept.items ≡ length l.initial.kept.items;
  code : (i : ℕ) → l.j ≤ i → slice_get l.code.items i ≡ slice_get l.initial.code.items i;
  kept : (i : ℕ) → l.j ≤ i → slice_get l.kept.items i ≡ slice_get l.initial.kept.items i;
}
