-- What hardening makes of an object.
use Rattle.std.specs.Prelude.{◌≡◌, ℕ, ◌&&◌, ◌==◌, Bool, length, count_by}
use Rattle.std.specs.List.{sum_by}
use Rattle.elf_model.specs.declared.objects.Symbol.{Symbol}
use Rattle.elf_model.specs.Constants.{func}
use Rattle.elf_model.specs.Objects.{ObjectParts}
use Rattle.reloc_places.specs.Relocations.{is_in_code}
use Rattle.flow_recover.specs.Flows.{FlowParts}
use Rattle.seq_core.specs.Places.{LayoutParts}
use Rattle.sim_relation.specs.Accepted.{Accepted}
use Rattle.pair_parts.specs.Made.{IsMade, IsFactor, count_of}
use Rattle.harden_core.specs.declared.hardening.Hardened.{Hardened}

-- functions in code
abbrev pub is_function_of : ObjectParts → Symbol → Bool
is_function_of o s = (s.kind == func) && is_in_code o s.home

-- The object is accepted; out is its hardened form for so many copies and results, with the instructions of the longest
-- unit, and how many instructions and functions there were and are.
pub record IsHardening (o : ObjectParts) (copies results : ℕ) (out : Hardened) : Type 0 where
  pub flow : FlowParts
  pub accepted : Accepted o flow results
  pub layout : LayoutParts
  pub made : IsMade o out.object flow copies results layout
  pub factor : IsFactor layout out.factor
  pub before : out.before ≡ length flow.points
  pub after : out.after ≡ sum_by count_of layout.units
  pub functions : out.functions ≡ count_by (is_function_of o) o.symbols
