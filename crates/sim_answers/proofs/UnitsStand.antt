-- Units are sequences of instructions of their section.
use Rattle.std.specs.Prelude.{◌≡◌, ◌<◌, ◌≤◌, ℕ, ◌+◌, Bool, cond, List, Option, Some, Ok, Err, Contains, refl}
use Rattle.std.proofs.Common.{arith, ap, sym, ◌∙◌}
use Rattle.std.proofs.lemmas.Bool.{le-leb}
use Rattle.elf_model.specs.Objects.{ObjectParts}
use Rattle.elf_model.specs.Ranges.{length_at, IsStart, first, next}
use Rattle.thumb_instr.specs.declared.instructions.Instr.{Instr}
use Rattle.thumb_instr.specs.declared.refusals.BadInstr.TheVariants.{Unknown}
use Rattle.reloc_places.specs.Starts.{bytes_of, IsCodeStart, decoded_at, instr_at, behind}
use Rattle.reloc_places.proofs.StartFacts.{length_least}
use Rattle.flow_recover.specs.declared.flows.Point.{Point}
use Rattle.flow_recover.specs.Flows.{FlowParts}
use Rattle.hardened_form.specs.Places.{UnitPlace, Places as UnitPlaces}
use Rattle.hardened_form.specs.Standing.{units}
use Rattle.hardened_form.specs.Carriers.{Carrier}
use Rattle.sim_images.specs.CodeLaws.{IsSequence, ended, longer}
use Rattle.sim_answers.specs.Units.{code_end, AreSteps, done, step}
use Rattle.sim_answers.specs.Forms.{IsFormOf, new_places, UnitsStand}
use Rattle.sim_answers.proofs.Pairs.{zip_left}
use Rattle.sim_answers.proofs.PointPlaces.{point_placed, placed_unit}
use Rattle.sim_answers.proofs.DataAnswered.{code_of_point, word_listed, code_of_word}
use Rattle.sim_answers.proofs.RelocsStand.{code_section}
use Rattle.sim_answers.proofs.RightRelocs.{word_there}
use Rattle.sim_answers.proofs.CodeWords.{unit_once}
use Rattle.sim_answers.proofs.CodeRuns.{unit_start, data_word_there}

steps_up : (h : ObjectParts) (j z x : ℕ) (steps : List (Instr × Option ℕ)) → AreSteps h j z x steps → x ≤ z
steps_up h j z x _ done = omega arith
steps_up h j z x _ (step _ i rest at more) = let up = steps_up h j z (behind h j x) rest more in let l = length_least (bytes_of h j) x in omega (arith, up, l)

module _ (o h : ObjectParts) (f : FlowParts) (p : UnitPlaces) (carriers : List (List Carrier)) (is : IsFormOf o h f p carriers) where
  start_there : (x : Point) (u : UnitPlace) (a : ℕ) → Contains (units f p) (x, u) → IsStart (bytes_of h x.section) u.start (code_end u) a
      → (end : ℕ) × IsCodeStart h x.section (bytes_of h x.section) a end × (a + length_at (bytes_of h x.section) a ≤ end)
  start_there x u a c at =
      let code = code_of_point o h f p carriers is x (zip_left f.points p.units (x, u) c) in
      let t = code_section o h f p carriers is x.section code in
      unit_start o h f p carriers is x.section code t.0 t.1 t.2 x u a c refl at

  point_there : (x : Point) (u : UnitPlace) → Contains (units f p) (x, u) → new_places is x.section x.offset ≡ Some u.start
  point_there x u c =
      let y = point_placed f p is.form.lists.items is.form.tables.lists.items x (zip_left f.points p.units (x, u) c) in
      let v = placed_unit f p is.form.lists.items is.form.tables.lists.items x.section x.offset y.0 y.1 in
      let one = unit_once o h f p carriers is v.point x v.unit u v.is c v.section v.offset in
      y.1 ∙ ap (λ (n : ℕ). Some n) (sym v.start ∙ ap (λ (w : UnitPlace). w.start) one)

  sequence_from : (x : Point) (u : UnitPlace) (z : ℕ) → Contains (units f p) (x, u) → z ≤ code_end u → (a : ℕ) (steps : List (Instr × Option ℕ)) → AreSteps h x.section z a steps
      → (a < code_end u → IsStart (bytes_of h x.section) u.start (code_end u) a) → IsSequence h x.section a steps z
  sequence_from x u z c l a _ done start = ended a
  sequence_from x u z c l a _ (step _ i rest at more) start =
      let up = steps_up h x.section z (behind h x.section a) rest more in
      let least = length_least (bytes_of h x.section) a in
      let here = start (omega (arith, up, least, l)) in
      let e = start_there x u a c here in
      let means : instr_at (bytes_of h x.section) e.0 a 0 ≡ Ok i =
      ap (λ (b : Bool). cond b (decoded_at (bytes_of h x.section) a 0) (Err Unknown)) (le-leb (a + length_at (bytes_of h x.section) a) e.0 e.2) ∙ at in
      longer a e.0 z i rest e.1 means (sequence_from x u z c l (behind h x.section a) rest more (λ below. next a here below))

pub units_stand : UnitsStand
units_stand o h f p carriers is = record {
  starts = start_there o h f p carriers is;
  words = λ w y word.
      let code = code_of_word o h f p carriers is w (word_listed o h f p carriers is w y word) in
      let t = code_section o h f p carriers is w.section code in
      data_word_there o h f p carriers is w.section code t.0 t.1 t.2 y (word_there o h f p carriers is w y word);
  points = point_there o h f p carriers is;
  sequences = λ x u z steps c are l. sequence_from o h f p carriers is x u z c l u.start steps are (λ below. first below);
}
