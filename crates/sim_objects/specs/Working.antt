-- The units of a chart of lists work where they stand in the hardened image, linked.
use Rattle.std.specs.Prelude.{◌≡◌, ◌≤◌, ℕ, Bool, List, Option, Some, None, slice_get}
use Rattle.thumb_instr.specs.declared.instructions.Instr.{Instr}
use Rattle.thumb_instr.specs.declared.instructions.Instr.TheVariants.{Half}
use Rattle.thumb_instr.specs.Numbers.{renumbered}
use Rattle.thumb_table.specs.declared.placements.Placement.{Placement}
use Rattle.thumb_table.specs.Parts.{Image}
use Rattle.flow_recover.specs.declared.flows.Point.{Point as FlowPoint}
use Rattle.seq_core.specs.Does.{Works}
use Rattle.seq_core.specs.Meanings.{meant}
use Rattle.sim_charts.specs.Charts.{Point, unit_of}
use Rattle.sim_relation.specs.Standing.{Linking, Stands}
use Rattle.sim_relation.specs.Doing.{MayLink, ends_at}
use Rattle.sim_relation.specs.Charted.{KeepsOut}
use Rattle.sim_objects.specs.Lists.{Pairing, hards, HaveImages}
use Rattle.sim_objects.specs.Charts.{start_at, IsCharted}

-- the number of an instruction in the hardened image: what linking puts there, or its own
abbrev pub number_of : Option ℕ → ℕ → Instr → ℕ
number_of (Some k) n i = n
number_of None n (Half i) = i.imm
number_of None n i = n

abbrev pub UnitsWork : Type 0
UnitsWork =
    (F c K : ℕ) (pairs : List (Pairing F c K)) (at : Placement) (plain hard : Image) → HaveImages F c K pairs at plain hard
    → (i n : ℕ) (q : Pairing F c K) (x : FlowPoint) (p : Point) → slice_get pairs i ≡ Some q → slice_get q.pair.flow.points n ≡ Some x → (is : IsCharted F c K pairs at i q n x p)
    → (link : Linking) → MayLink q.plain q.pair.flow q.pair.certificate.places (start_at (hards pairs) at i x.section) x link
    → Stands hard.code (start_at (hards pairs) at i x.section) link q.pair.certificate.places x is.unit is.sequence → (may_skip : ℕ → Bool) → KeepsOut (q.may_skip x) may_skip p.place p.end
    → Works hard.code c may_skip (unit_of p (meant (renumbered (number_of x.reloc link.number x.instr) p.instr) (ends_at (start_at (hards pairs) at i x.section) link is.unit))) × (p.length ≤ F)
