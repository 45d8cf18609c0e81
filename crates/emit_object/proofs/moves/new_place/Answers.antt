use Rattle.std.proofs.Common.{◌∙◌, ◌<◌, ℕ, List, length, sym, ap, refl, Some, arith}
use Rattle.std.specs.Prelude.{slice_get}
use Rattle.std.proofs.lemmas.Bool.{ltb-true, ltb-false}
use Rattle.std.proofs.lemmas.Option.{none-some, same_Some, slice_get-get_or, slice_get_within}
use Rattle.elf_model.proofs.Elements.{contains_at}
use Rattle.seq_core.specs.Places.{PlacedParts}
use Rattle.emit_object.proofs.MoveFacts.{is_place, no_place}
use Rattle.emit_object.proofs.moves.new_place.Goals as goal

pub returns-in-None : goal.returns-in-None
returns-in-None c = record {
  place = λ items are. no_place c.args.f.now c.args.l.now c.args.section c.args.offset items are (λ q p. none-some q ((c.in-None.ensures q).1 p));
  laid = λ at h. absurd (none-some at h);
}

pub returns-in-Some-get : goal.returns-in-Some-get
returns-in-Some-get c =
    let low : c.in-Some.q < length c.units.result.now = ltb-true c.in-Some.q (length c.units.result.now) (sym c.in-Some-get.ensures.lookup.0) in
    let there = ap (λ (l : List PlacedParts). slice_get l c.in-Some.q) (sym c.units.ensures) ∙ slice_get-get_or c.units.result.now c.in-Some.q c.in-Some-get.u.now low ∙ ap (λ (u : PlacedParts). Some u) (sym c.in-Some-get.ensures.lookup.1) in
    record {
      place = λ items are.
          ap (λ (n : ℕ). Some n) c.start.ensures
          ∙ is_place c.args.f.now c.args.l.now c.args.section c.args.offset items are c.requires.points c.in-Some.q c.in-Some-get.u.now ((c.in-Some.ensures c.in-Some.q).0 refl) there;
      laid = λ at h. record {
        unit = c.in-Some-get.u.now;
        there = contains_at c.args.l.now.units c.in-Some.q c.in-Some-get.u.now there;
        begins = sym c.start.ensures ∙ same_Some c.start.result at h;
      };
    }

pub returns-in-None-get : goal.returns-in-None-get
returns-in-None-get c =
    let p = (c.in-Some.ensures c.in-Some.q).0 refl in
    let inside = slice_get_within c.args.f.now.points c.in-Some.q p.point p.there in
    let high = ltb-false c.in-Some.q (length c.units.result.now) (sym c.in-None-get.ensures.lookup.0) in
    absurd (omega (arith, inside, high, ap length c.units.ensures, c.requires.matches.units))
