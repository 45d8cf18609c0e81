-- The units of the form of a call.
use Rattle.std.specs.Prelude.{◌<◌, List, [], ◌∷◌, Contains}
use Rattle.std.specs.List.{zip}
use Rattle.std.proofs.Common.{arith, subst}
use Rattle.std.proofs.lemmas.Option.{none-some, same_Some}
use Rattle.elf_model.specs.declared.objects.Section.{Section}
use Rattle.elf_model.specs.Ranges.{IsStart, first, next}
use Rattle.flow_recover.specs.declared.flows.Point.{Point}
use Rattle.reloc_places.specs.Starts.{bytes_of}
use Rattle.hardened_form.specs.Places.{UnitPlace}
use Rattle.hardened_form.specs.Standing.{units}
use Rattle.hardened_form.specs.Carriers.{Carrier}
use Rattle.hardened_form.specs.FirstRow.{text_of}
use Rattle.hardened_form.specs.CallRow.{bytes, hard, call, flow, unit, places, jump, carriers}
use Rattle.hardened_form.proofs.ShortLists.{each_of}
use Rattle.sim_answers.specs.Units.{ended, longer, code_end, IsUnit}
use Rattle.sim_answers.specs.CallUnits.{CallRowHasUnits}

one_unit : IsUnit hard 0 unit
one_unit = record {
  inside = λ t e. subst (λ (s : Section). 0 < s.size) (same_Some (text_of 20 bytes) t e) (omega arith);
  divided = longer 0 (longer 4 (longer 8 (longer 12 (longer 16 (longer 18 ended)))));
  island = λ y e. absurd (none-some y e);
}

start_8 : IsStart bytes 0 20 8
start_8 = next 4 (next 0 (first (omega arith)) (omega arith)) (omega arith)

start_12 : IsStart bytes 0 20 12
start_12 = next 8 start_8 (omega arith)

-- what is asked of a point's carriers
AreStepsOf : (Point × UnitPlace) × List Carrier → Type 0
AreStepsOf e = (c : Carrier) → Contains e.1 c → IsStart (bytes_of hard e.0.0.section) e.0.1.start (code_end e.0.1) c.at

steps : AreStepsOf ((call, unit), record { at = 8; instr = jump } ∷ record { at = 12; instr = jump } ∷ [])
unfolding AreStepsOf
steps = each_of (λ (d : Carrier). IsStart bytes 0 20 d.at) (record { at = 8; instr = jump } ∷ record { at = 12; instr = jump } ∷ []) (start_8, (start_12, tt))

pub call_row_has_units : CallRowHasUnits
unfolding AreStepsOf
call_row_has_units = record {
  each = λ x u c. each_of (λ (e : Point × UnitPlace). IsUnit hard e.0.section e.1) (units flow places) (one_unit, tt) (x, u) c;
  steps = λ x u all c k r there one names at. each_of AreStepsOf (zip (units flow places) carriers) (steps, tt) ((x, u), all) there c one;
}
