use Rattle.std.proofs.Common.{◌≡◌, ◌<◌, ◌^◌, ℕ, ◌+◌, true, ap, subst, rules}
use Rattle.std.proofs.lemmas.Option.{same_Some}
use Rattle.reloc_places.specs.Relocations.{is_in_code}
use Rattle.emit_object.proofs.MovedFacts.{begins_low, is_placed}
use Rattle.emit_object.proofs.moved_symbols.place_of.Goals as goal

pub returns-in-Some : goal.returns-in-Some
returns-in-Some c =
    let code : is_in_code c.args.o.now c.args.s.now.home ≡ true = search rules in
    record {
      is = λ items are. is_placed c.args.o.now items c.args.s.now c.in-Section.j c.in-Some.at code c.in-Section.is (search (rules, c.in-Some.ensures.place items are));
      low = λ j at e.
          let same = same_Some (c.in-Section.j, c.in-Some.at) (j, at) e in
          subst (λ (n : ℕ). n + 1 < 2 ^ 32) (ap (λ (p : ℕ × ℕ). p.1) same) (begins_low c.args.l.now.units c.in-Some.at c.requires.low (c.in-Some.ensures.laid c.in-Some.at (search rules)));
    }
