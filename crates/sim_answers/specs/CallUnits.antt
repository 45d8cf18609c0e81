-- The form of a call that does not come back has units as they are asked for: two return addresses, two branches, two traps.
use Rattle.sim_answers.specs.Units.{AreUnits}
use Rattle.hardened_form.specs.CallRow.{plain, hard, flow, places, carriers}

abbrev pub CallRowHasUnits : Type 0
CallRowHasUnits = AreUnits plain hard flow places carriers
