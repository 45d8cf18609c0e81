-- The units of a pair are as the laws on two images ask.
use Rattle.std.specs.Prelude.{◌≡◌, ℕ, zero, suc, true, List, [], ◌∷◌, length, Some, slice_get, Contains, refl}
use Rattle.std.specs.List.{zip}
use Rattle.std.proofs.Common.{arith, ap, sym, ◌∙◌, subst}
use Rattle.std.proofs.lemmas.Option.{none-some, same_Some, slice_get_within}
use Rattle.elf_model.specs.declared.objects.Reloc.{Reloc}
use Rattle.elf_model.specs.Objects.{ObjectParts, is_object}
use Rattle.elf_model.specs.Ranges.{IsStart, first}
use Rattle.elf_model.proofs.Elements.{place_of, element_at, all_at}
use Rattle.reloc_places.specs.Starts.{bytes_of}
use Rattle.flow_recover.specs.declared.flows.Point.{Point}
use Rattle.hardened_form.specs.Places.{UnitPlace}
use Rattle.hardened_form.specs.Standing.{units}
use Rattle.hardened_form.specs.Symbols.{size_of}
use Rattle.hardened_form.specs.Carriers.{Carrier}
use Rattle.sim_answers.specs.Units.{code_end, IsUnit, AreUnits}
use Rattle.sim_images.specs.ImageLaws.{AreObjects}
use Rattle.sim_answers.specs.Forms.{IsFormOf, IsFormAt, DoAnswer}
use Rattle.sim_answers.proofs.FormsAnswer.{forms_answer}
use Rattle.sim_relation.specs.Accepted.{boundaries}
use Rattle.sim_relation.specs.Sequences.{Sequence}
use Rattle.sim_relation.specs.Doing.{IsDone}
use Rattle.sim_objects.specs.Lists.{Pairing, plains, hards}
use Rattle.sim_objects.specs.UnitLinks.{moved_by, moved_in}
use Rattle.sim_objects.specs.Answering.{PairsAnswer}
use Rattle.sim_objects.proofs.Walked.{step_in, unit_ends}

-- what two lists pair at a number
pub zip_get : {A B : Type 0} (xs : List A) (ys : List B) (i : ℕ) (e : A × B) → slice_get (zip xs ys) i ≡ Some e → (slice_get xs i ≡ Some e.0) × (slice_get ys i ≡ Some e.1)
zip_get [] ys i e h = absurd (none-some e h)
zip_get (x ∷ xs) [] i e h = absurd (none-some e h)
zip_get (x ∷ xs) (y ∷ ys) zero e h = let same = same_Some (x, y) e h in (ap (λ (q : _). Some (q.0)) same, ap (λ (q : _). Some (q.1)) same)
zip_get (x ∷ xs) (y ∷ ys) (suc i) e h = zip_get xs ys i e h

pub get_zip : {A B : Type 0} (xs : List A) (ys : List B) (i : ℕ) (x : A) (y : B) → slice_get xs i ≡ Some x → slice_get ys i ≡ Some y → slice_get (zip xs ys) i ≡ Some (x, y)
get_zip [] ys i x y a b = absurd (none-some x a)
get_zip (v ∷ xs) [] i x y a b = absurd (none-some y b)
get_zip (v ∷ xs) (w ∷ ys) zero x y a b = ap (λ (z : _). Some (z, w)) (same_Some v x a) ∙ ap (λ (z : _). Some (x, z)) (same_Some w y b)
get_zip (v ∷ xs) (w ∷ ys) (suc i) x y a b = get_zip xs ys i x y a b

module _ (F c K : ℕ) (q : Pairing F c K) where
  -- a unit, with its point and its sequence
  pub record UnitAt (x : Point) (u : UnitPlace) : Type 0 where
    pub number : ℕ
    pub sequence : Sequence
    pub point : slice_get q.pair.flow.points number ≡ Some x
    pub unit : slice_get q.pair.certificate.places.units number ≡ Some u
    pub steps : slice_get q.pair.certificate.sequences number ≡ Some sequence
    pub done : IsDone q.plain q.hard q.pair.flow q.pair.certificate.places (boundaries K) F c (q.may_skip x) x u sequence

  pub unit_number : (n : ℕ) (x : Point) (u : UnitPlace) → slice_get q.pair.flow.points n ≡ Some x → slice_get q.pair.certificate.places.units n ≡ Some u → UnitAt x u
  unit_number n x u point unit =
      let short = slice_get_within q.pair.flow.points n x point in
      let count = q.pair.count in
      let s = element_at q.pair.certificate.sequences n (omega (arith, short, count)) in
      record { number = n; sequence = s.0; point = point; unit = unit; steps = s.1; done = q.pair.done n x u s.0 point unit s.1 }

  pub unit_at : (x : Point) (u : UnitPlace) → Contains (units q.pair.flow q.pair.certificate.places) (x, u) → UnitAt x u
  unit_at x u e =
      let n = place_of (units q.pair.flow q.pair.certificate.places) (x, u) e in
      let both = zip_get q.pair.flow.points q.pair.certificate.places.units n.0 (x, u) n.1 in
      unit_number n.0 x u both.0 both.1

  is_unit : (x : Point) (u : UnitPlace) → Contains (units q.pair.flow q.pair.certificate.places) (x, u) → IsUnit q.hard x.section u
  is_unit x u e =
      let at = unit_at x u e in
      let ends = unit_ends q.hard x.section u at.sequence at.done.stands in
      record {
        inside = λ t there. let size = ap size_of there in let l = at.done.inside in omega (arith, size, l);
        divided = ends.divided;
        island = λ y i. let w = ends.word y i in let low = w.0 in let from = at.done.load y i in (omega (arith, low, from), w.1, w.2);
      }

  is_step : (x : Point) (u : UnitPlace) (all : List Carrier) (d : Carrier) (k : ℕ) (r : Reloc) → Contains (zip (units q.pair.flow q.pair.certificate.places) q.pair.certificate.carriers) ((x, u), all)
      → Contains all d → x.reloc ≡ Some k → slice_get q.plain.relocs k ≡ Some r → IsStart (bytes_of q.hard x.section) u.start (code_end u) d.at
  unfolding unit_number
  is_step x u all d k r e one reloc there =
      let n = place_of (zip (units q.pair.flow q.pair.certificate.places) q.pair.certificate.carriers) ((x, u), all) e in
      let both = zip_get (units q.pair.flow q.pair.certificate.places) q.pair.certificate.carriers n.0 ((x, u), all) n.1 in
      let two = zip_get q.pair.flow.points q.pair.certificate.places.units n.0 (x, u) both.0 in
      let at = unit_number n.0 x u two.0 two.1 in
      let found = q.pair.carried n.0 all at.sequence both.1 at.steps d one in
      let ends = unit_ends q.hard x.section u at.sequence at.done.stands in
      let found_in = step_in q.hard x.section u.start at.sequence.steps at.sequence.behind at.done.stands.steps u.start (code_end u) ends.behind (λ below. first below) found.0 found.1 in
      subst (λ (a : ℕ). IsStart (bytes_of q.hard x.section) u.start (code_end u) a) {x = found.0.at} found.2 found_in.start

  pub are_units : AreUnits q.plain q.hard q.pair.flow q.pair.certificate.places q.pair.certificate.carriers
  are_units = record { each = is_unit; steps = is_step }

  abbrev pub form_of : is_object q.plain ≡ true → is_object q.hard ≡ true → IsFormOf q.plain q.hard q.pair.flow q.pair.certificate.places q.pair.certificate.carriers
  form_of plain hard = record { plain = plain; hard = hard; flow = q.pair.accepted.flow; form = q.pair.form; units = are_units }

-- a pair of both lists
pub pair_at : (F c K : ℕ) (pairs : List (Pairing F c K)) (i : ℕ) (o : ObjectParts) → slice_get (plains pairs) i ≡ Some o → (q : Pairing F c K) × (slice_get pairs i ≡ Some q) × (q.plain ≡ o)
pair_at F c K [] i o e = absurd (none-some o e)
pair_at F c K (q ∷ rest) zero o e = (q, refl, same_Some q.plain o e)
pair_at F c K (q ∷ rest) (suc i) o e = pair_at F c K rest i o e

pub hard_at : (F c K : ℕ) (pairs : List (Pairing F c K)) (i : ℕ) (q : Pairing F c K) → slice_get pairs i ≡ Some q → slice_get (hards pairs) i ≡ Some q.hard
hard_at F c K [] i q e = absurd (none-some q e)
hard_at F c K (z ∷ rest) zero q e = ap (λ (w : Pairing F c K). Some w.hard) (same_Some z q e)
hard_at F c K (z ∷ rest) (suc i) q e = hard_at F c K rest i q e

pub same_length : (F c K : ℕ) (pairs : List (Pairing F c K)) → length (hards pairs) ≡ length (plains pairs)
same_length F c K [] = refl
same_length F c K (q ∷ rest) = ap (λ (n : ℕ). suc n) (same_length F c K rest)

-- lists of objects alone need no images for that
pub lists_answer : (F c K : ℕ) (pairs : List (Pairing F c K)) → AreObjects (plains pairs) → AreObjects (hards pairs) → DoAnswer (plains pairs) (hards pairs) (moved_in pairs)
unfolding pair_at
lists_answer F c K pairs objects forms =
    forms_answer (plains pairs) (hards pairs) (moved_in pairs) (same_length F c K pairs) each
  where
    each : (i : ℕ) (o h : ObjectParts) → slice_get (plains pairs) i ≡ Some o → slice_get (hards pairs) i ≡ Some h → IsFormAt o h (moved_in pairs i)
    each i o h there here =
        let q = pair_at F c K pairs i o there in
        let same : q.0.hard ≡ h = same_Some q.0.hard h (sym (hard_at F c K pairs i q.0 q.1) ∙ here) in
        let form = form_of F c K q.0 (ap is_object q.2 ∙ all_at is_object (plains pairs) i o objects there) (ap is_object same ∙ all_at is_object (hards pairs) i h forms here) in
        subst (λ (z : ObjectParts). IsFormAt z h (moved_in pairs i)) q.2 (subst (λ (z : ObjectParts). IsFormAt q.0.plain z (moved_in pairs i)) same
        (record { flow = q.0.pair.flow; places = q.0.pair.certificate.places; carriers = q.0.pair.certificate.carriers; form = form; moves = ap moved_by (sym q.1) }))

pub pairs_answer : PairsAnswer
pairs_answer F c K pairs at plain hard images = lists_answer F c K pairs images.objects images.forms
