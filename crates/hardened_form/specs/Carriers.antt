-- The instructions of units that carry the relocation of their point: each copy of its branch, MOVW or MOVT.
use Rattle.std.specs.Prelude.{◌≡◌, ◌≤◌, ℕ, ◌+◌, true, List, Some, Ok, if◌then◌else◌, length, slice_get, Contains}
use Rattle.std.specs.List.{zip}
use Rattle.elf_model.specs.declared.objects.Reloc.{Reloc}
use Rattle.elf_model.specs.declared.objects.RelocKind.{RelocKind}
use Rattle.elf_model.specs.declared.objects.RelocKind.TheVariants.{ThmCall, ThmJump24, ThmJump19}
use Rattle.elf_model.specs.Fields.{half_at}
use Rattle.elf_model.specs.Objects.{ObjectParts}
use Rattle.elf_model.specs.Ranges.{is_long}
use Rattle.thumb_instr.specs.declared.instructions.Instr.{Instr}
use Rattle.thumb_instr.specs.declared.instructions.Instr.TheVariants as instr
use Rattle.reloc_places.specs.Starts.{bytes_of, decoded_at}
use Rattle.reloc_places.specs.Relocations.{may_fail, is_jump, fits_kind, number_in}
use Rattle.flow_recover.specs.declared.flows.Point.{Point}
use Rattle.flow_recover.specs.Flows.{FlowParts}
use Rattle.hardened_form.specs.Places.{UnitPlace, Places}
use Rattle.hardened_form.specs.Standing.{units}
use Rattle.hardened_form.specs.Turns.{zero_addend, new_addend}

-- an instruction of the hardened code, of four bytes, at its offset
pub record Carrier : Type 0 where
  pub at : ℕ
  pub instr : Instr

-- one of those of a point's unit, which are listed by points
pub record IsCarrier (f : FlowParts) (carriers : List (List Carrier)) (x : Point) (c : Carrier) : Type 0 where
  pub all : List Carrier
  pub unit : Contains (zip f.points carriers) (x, all)
  pub one : Contains all c

-- the kind of a relocation on it: of a call, of a branch with or without a condition in four bytes, or as it was
abbrev pub kind_on : Instr → RelocKind → RelocKind
kind_on (instr.Call i) k = ThmCall
kind_on (instr.Branch i) k = if may_fail i.cond then ThmJump19 else ThmJump24
kind_on i k = k

-- It stands there, in its unit, in four bytes, is of its relocation's kind, a branch or call just where that was of one, and
-- has the number that is left: no branch has an addend.
pub record IsCarried (o h : ObjectParts) (r : Reloc) (j : ℕ) (u : UnitPlace) (c : Carrier) : Type 0 where
  pub behind_start : u.start ≤ c.at
  pub before_end : c.at + 4 ≤ u.end
  pub there : decoded_at (bytes_of h j) c.at 0 ≡ Ok c.instr
  pub long : is_long (half_at (bytes_of h j) c.at) ≡ true
  pub sense : is_jump (kind_on c.instr r.kind) ≡ is_jump r.kind
  pub fits : fits_kind (kind_on c.instr r.kind) true c.instr ≡ true
  pub number : number_in (Ok c.instr) ≡ (if is_jump r.kind then zero_addend r else new_addend o r)

pub record AreCarried (o h : ObjectParts) (f : FlowParts) (p : Places) (carriers : List (List Carrier)) : Type 0 where
  pub count : length carriers ≡ length f.points
  pub each : (x : Point) (u : UnitPlace) (all : List Carrier) (c : Carrier) (k : ℕ) (r : Reloc) → Contains (zip (units f p) carriers) ((x, u), all) → Contains all c
      → x.reloc ≡ Some k → slice_get o.relocs k ≡ Some r → IsCarried o h r x.section u c
