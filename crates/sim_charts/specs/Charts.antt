-- A chart: the points of a plain image, by address, and the unit that each has in the hardened image.
use Rattle.std.specs.Prelude.{ℕ, ◌==◌, ◌&&◌, ◌||◌, Bool, true, false, Option, None}
use Rattle.thumb_instr.specs.declared.instructions.Instr.{Instr}
use Rattle.thumb_instr.specs.declared.conditions.Cond.{Cond}
use Rattle.thumb_instr.specs.Blocks.{block_condition}
use Rattle.thumb_instr.specs.Sets.{writes_of, sets_flags_of}
use Rattle.thumb_table.specs.States.{Core}
use Rattle.thumb_table.specs.Conditions.{holds}
pub use Rattle.reloc_places.specs.Relocations.{may_fail}
pub use Rattle.reloc_places.specs.Starts.{it_behind}
pub use Rattle.flow_recover.specs.declared.flows.Exit.{Exit as Way}
pub use Rattle.flow_recover.specs.declared.flows.Exit.TheVariants.{Falls as Onward, Branch, Transfer, Call, Return, Stops}
pub use Rattle.flow_recover.specs.Reach.{falls}
use Rattle.flow_recover.specs.declared.flows.Point.{Point as FlowPoint}
pub use Rattle.liveness.specs.Paths.{branch_cond, leaves}
use Rattle.liveness.specs.Paths as paths
use Rattle.seq_core.specs.Does.{Effect, Task}

-- A reachable instruction as it stands in the plain image: its way and its next point are by addresses. And its unit in
-- the hardened image; `back` is where a hardened call returns to: the landing, or the unit's end. A member is a
-- register, 0 to 14, or a flag, 16 to 19.
pub record Point : Type 0 where
  pub instr : Instr
  pub width : ℕ
  pub it : ℕ
  pub way : Way
  pub next : Option ℕ
  pub entry : Bool
  pub live : ℕ → Bool
  pub place : ℕ
  pub end : ℕ
  pub back : ℕ
  pub length : ℕ
  pub loses : ℕ → Bool

-- the points, by their addresses in the plain image
abbrev pub Chart : Type 0
Chart = ℕ → Option Point

abbrev pub cond_of : Point → Cond
cond_of p = block_condition p.it

-- the point as one of a flow, in which points are named by their addresses
abbrev pub in_flow : Point → FlowPoint
in_flow p = record {
  section = 0;
  offset = 0;
  wide = p.width == 4;
  instr = p.instr;
  cond = cond_of p;
  exit = p.way;
  next = p.next;
  reloc = None;
  word = None;
}

abbrev pub has_condition : Point → Bool
has_condition p = paths.has_condition (in_flow p)

abbrev pub reads_at : Point → ℕ → Bool
reads_at p = paths.reads_at (in_flow p)

abbrev pub always_writes : Point → ℕ → Bool
always_writes p = paths.always_writes (in_flow p)

abbrev pub passes : Point → Bool
passes p = paths.passes (in_flow p)

abbrev pub Leads : Point → ℕ → Type 0
Leads p = paths.Leads (in_flow p)

-- what the instruction gives a value each time that it takes effect
abbrev pub sets_of : Instr → ℕ → Bool
sets_of i k = writes_of i k || sets_flags_of i k

-- control jumps away, where the instruction takes effect
abbrev pub jumps : Way → Bool
jumps Onward = false
jumps (Branch _) = true
jumps Transfer = true
jumps Call = true
jumps Return = true
jumps Stops = false

-- the IT condition holds, and that of a branch instruction
abbrev pub is_taken : Point → Core → Bool
is_taken p x = holds (cond_of p) x && holds (branch_cond p.instr) x

-- What the unit is to do, where `effect` is what the instruction makes of a hardened core.
abbrev pub unit_of : Point → Effect → Task
unit_of p effect = record {
  place = p.place;
  end = p.end;
  length = p.length;
  taken = is_taken p;
  effect = effect;
  loses = p.loses;
}
