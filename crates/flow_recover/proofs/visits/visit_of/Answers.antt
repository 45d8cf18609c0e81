use Rattle.std.proofs.Common.{refl, arith}
use Rattle.reloc_places.proofs.StartFacts.{start_inside}
use Rattle.flow_recover.proofs.visits.visit_of.Goals as goal

pub behind-requires : goal.behind-requires
behind-requires c =
    let inside = start_inside c.args.o.now c.args.n.section c.args.n.offset c.requires.found.end c.sound.ensures c.requires.within c.requires.found.start in
    omega (arith, inside.before_end, inside.in_bytes, inside.small)

pub goes_on-requires-clause-low : goal.goes_on-requires-clause-low
goes_on-requires-clause-low c =
    let inside = start_inside c.args.o.now c.args.n.section c.args.n.offset c.requires.found.end c.sound.ensures c.requires.within c.requires.found.start in
    omega (arith, inside.before_end, inside.in_bytes, inside.small)

pub returns : goal.returns
returns c = record {
  node = refl;
  is = record {
    found = c.requires.found;
    behind = c.behind.ensures;
    low = let inside = start_inside c.args.o.now c.args.n.section c.args.n.offset c.requires.found.end c.sound.ensures c.requires.within c.requires.found.start in omega (arith, inside.before_end, inside.in_bytes, inside.small);
    aim = (c.aim_of.ensures c.aim_of.result).0 refl;
    goes = c.goes_on.ensures.goes;
    ends = c.goes_on.ensures.ends;
  };
}
