-- An IT needs no instruction in the hardened code.
use Rattle.std.specs.Prelude.{◌≡◌, ℕ}
use Rattle.thumb_instr.specs.declared.instructions.Instr.TheVariants as instr
use Rattle.thumb_instr.specs.Fields.{ItFields}
use Rattle.thumb_table.specs.Parts.{CodeBytes}
use Rattle.seq_core.specs.Does.{Tolerates}
use Rattle.seq_core.specs.Meanings.{Ends, meant}
use Rattle.sim_charts.specs.Charts.{Point, unit_of}

-- An empty unit does what an IT means.
abbrev pub EmptyUnitsWork : Type 0
EmptyUnitsWork = (hard : CodeBytes) (c : ℕ) (p : Point) (i : ItFields) (e : Ends) → p.instr ≡ instr.It i → p.place ≡ p.end → Tolerates hard c (unit_of p (meant p.instr e))
