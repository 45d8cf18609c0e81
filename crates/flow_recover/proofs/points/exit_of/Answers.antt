use Rattle.std.proofs.Common.{refl, sym, subst}
use Rattle.std.specs.BTreeMap.{get}
use Rattle.flow_recover.specs.Aims.{IsAim}
use Rattle.flow_recover.specs.declared.aims.Aim.{Aim}
use Rattle.flow_recover.specs.declared.aims.Aim.TheVariants.{Shared, Fixed, Far}
use Rattle.code_ranges.specs.Spans.{place_cmp}
use Rattle.flow_recover.proofs.PointFacts.{exit_near, exit_nowhere, exit_far}
use Rattle.flow_recover.proofs.points.exit_of.Goals as goal

pub unreachable-requires : goal.unreachable-requires
unreachable-requires c =
    exit_nowhere c.args.o.now c.requires.faultless (λ j x. get place_cmp c.args.chart.now.starts (j, x)) c.requires.chart.starts c.args.nodes.now c.requires.nodes c.args.v.now.node c.args.v.now.instr c.requires.reached c.requires.visit.found
    c.in-Near.x (sym c.if-not-is_branch.ensures) (subst (λ (a : Aim). IsAim c.args.o.now c.args.v.now.node.section c.args.v.now.node.offset c.args.v.now.instr a) c.in-Near.is c.requires.visit.aim) c.in-None.ensures

pub returns-in-Some : goal.returns-in-Some
returns-in-Some c =
    exit_near c.args.o.now c.requires.faultless (λ j x. get place_cmp c.args.chart.now.starts (j, x)) c.requires.chart.starts c.args.nodes.now c.requires.nodes c.args.v.now.node c.args.v.now.instr c.requires.reached c.requires.visit.found
    c.in-Near.x c.in-Some.q (sym c.if-not-is_branch.ensures) (subst (λ (a : Aim). IsAim c.args.o.now c.args.v.now.node.section c.args.v.now.node.offset c.args.v.now.instr a) c.in-Near.is c.requires.visit.aim) ((c.in-Some.ensures c.in-Some.q).0 refl)

pub returns-in-Shared : goal.returns-in-Shared
returns-in-Shared c =
    exit_far c.args.o.now c.requires.faultless (λ j x. get place_cmp c.args.chart.now.starts (j, x)) c.requires.chart.starts c.args.nodes.now c.requires.nodes c.args.v.now.node c.args.v.now.instr c.requires.reached c.requires.visit.found
    (Shared c.in-Shared.field-0) (sym c.if-not-is_branch.ensures) refl (subst (λ (a : Aim). IsAim c.args.o.now c.args.v.now.node.section c.args.v.now.node.offset c.args.v.now.instr a) c.in-Shared.is c.requires.visit.aim)

pub returns-in-Fixed : goal.returns-in-Fixed
returns-in-Fixed c =
    exit_far c.args.o.now c.requires.faultless (λ j x. get place_cmp c.args.chart.now.starts (j, x)) c.requires.chart.starts c.args.nodes.now c.requires.nodes c.args.v.now.node c.args.v.now.instr c.requires.reached c.requires.visit.found
    Fixed (sym c.if-not-is_branch.ensures) refl (subst (λ (a : Aim). IsAim c.args.o.now c.args.v.now.node.section c.args.v.now.node.offset c.args.v.now.instr a) c.in-Fixed.is c.requires.visit.aim)

pub returns-in-Far : goal.returns-in-Far
returns-in-Far c =
    exit_far c.args.o.now c.requires.faultless (λ j x. get place_cmp c.args.chart.now.starts (j, x)) c.requires.chart.starts c.args.nodes.now c.requires.nodes c.args.v.now.node c.args.v.now.instr c.requires.reached c.requires.visit.found
    Far (sym c.if-not-is_branch.ensures) refl (subst (λ (a : Aim). IsAim c.args.o.now c.args.v.now.node.section c.args.v.now.node.offset c.args.v.now.instr a) c.in-Far.is c.requires.visit.aim)
