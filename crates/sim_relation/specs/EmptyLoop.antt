-- Why a unit has to begin inside of its section: no bytes at all do a branch to itself.
use Rattle.std.specs.Prelude.{ℕ, ◌+◌, false, [], None, negsuc}
use Rattle.mark_word.specs.declared.marks.Mark.TheVariants.{Plain}
use Rattle.thumb_instr.specs.declared.conditions.Cond.TheVariants.{Al}
use Rattle.thumb_instr.specs.declared.instructions.Instr.{Instr}
use Rattle.thumb_instr.specs.declared.instructions.Instr.TheVariants as instr
use Rattle.thumb_table.specs.Parts.{CodeBytes}
use Rattle.flow_recover.specs.declared.flows.Point.{Point}
use Rattle.flow_recover.specs.declared.flows.Exit.TheVariants as exits
use Rattle.seq_core.specs.Does.{Tolerates}
use Rattle.hardened_form.specs.Places.{UnitPlace}
use Rattle.sim_relation.specs.Sequences.{Sequence}
use Rattle.sim_relation.specs.Standing.{Linking}
use Rattle.sim_relation.specs.Doing.{task_at, linked_effect}

abbrev pub loop : Instr
loop = instr.Branch (record { cond = Al; offset = negsuc 3 })

abbrev pub looping : Point
looping = record { section = 0; offset = 0; wide = false; instr = loop; cond = Al; exit = exits.Branch 0; next = None; reloc = None; word = None }

abbrev pub empty_at : ℕ → UnitPlace
empty_at y = record { start = y; end = y; back = y; island = None }

abbrev pub nothing : ℕ → Sequence
nothing y = record { steps = []; behind = y; scratch = [] }

abbrev pub to_itself : ℕ → Linking
to_itself a = record { target = a; number = 0; mark = Plain }

-- The unit without bytes is at its target from the start.
abbrev pub EmptyLoopsWork : Type 0
EmptyLoopsWork =
    (code : CodeBytes) (c start y : ℕ)
    → Tolerates code c (task_at start looping (empty_at y) (nothing y) (linked_effect start (to_itself (start + y)) looping (empty_at y)))
