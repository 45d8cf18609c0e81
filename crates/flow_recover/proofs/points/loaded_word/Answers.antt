use Rattle.std.proofs.Common.{sym, subst, Ok}
use Rattle.thumb_instr.specs.declared.instructions.Instr.{Instr}
use Rattle.flow_recover.specs.Reach.{IsFound}
use Rattle.flow_recover.proofs.PointFacts.{loaded_there, names_word}
use Rattle.flow_recover.proofs.points.loaded_word.Goals as goal

pub returns-in-Some : goal.returns-in-Some
returns-in-Some c =
    loaded_there c.args.o.now c.requires.faultless c.args.v.now.node c.args.v.now.instr c.requires.reached c.requires.visit.found c.args.places.now c.requires.places c.in-Literal.l c.in-Some.w c.place_index.result c.in-Literal.is (sym c.in-Some.ensures) c.place_index.ensures

pub returns-in-None : goal.returns-in-None
returns-in-None c =
    absurd (names_word c.args.o.now c.requires.faultless c.args.v.now.node c.in-Literal.l c.requires.reached (subst (λ (i : Instr). IsFound c.args.o.now c.args.v.now.node (Ok i)) c.in-Literal.is c.requires.visit.found) (sym c.in-None.ensures))
