use Rattle.std.proofs.Common.{rules, ◌≤◌, List, sym, subst}
use Rattle.std.specs.Prelude.{slice_index_or, All}
use Rattle.seq_core.specs.Places.{PlacedParts}
use Rattle.pair_parts.specs.Made.{count_of}
use Rattle.std.proofs.lemmas.List.Elements.{Contains-get_or}
use Rattle.harden_core.proofs.ShortUnits.{short_unit}
use Rattle.harden_core.proofs.hardening.finished.Goals as goal

pub factor_of-requires : goal.factor_of-requires
factor_of-requires c = λ k d lt. short_unit c.args.o.now c.args.object c.args.f.now c.args.s.now.copies c.args.s.now.results c.args.l.now (search rules) c.requires.accepted.flow c.requires.made (slice_index_or c.args.l.now.units k d) (Contains-get_or c.args.l.now.units k d lt)

pub emitted-requires-clause-short : goal.emitted-requires-clause-short
emitted-requires-clause-short c = subst (λ (us : List PlacedParts). All (λ u. count_of u ≤ 32) us) (sym c.units.ensures) (λ k d lt. short_unit c.args.o.now c.args.object c.args.f.now c.args.s.now.copies c.args.s.now.results c.args.l.now (search rules) c.requires.accepted.flow c.requires.made (slice_index_or c.args.l.now.units k d) (Contains-get_or c.args.l.now.units k d lt))

pub returns-clause-paired : goal.returns-clause-paired
returns-clause-paired c =
    c.made_are_paired.ensures c.args.o.now c.args.object c.args.f.now c.args.s.now.copies c.args.s.now.results c.factor_of.result c.args.l.now
    (record { plain = c.requires.sound; within = c.requires.within; hard = c.requires.hard }) c.requires.accepted (search rules) (search rules) (search rules) c.requires.made c.factor_of.ensures

pub returns-clause-within : goal.returns-clause-within
returns-clause-within c =
    c.made_are_within.ensures c.args.o.now c.args.object c.args.f.now c.args.s.now.copies c.args.s.now.results c.args.l.now
    (record { plain = c.requires.sound; within = c.requires.within; hard = c.requires.hard }) c.requires.accepted (search rules) (search rules) c.requires.made
