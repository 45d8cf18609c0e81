use Rattle.std.proofs.Common.{◌≤◌, ℕ, List, length, sym, ap, ◌∙◌, subst, arith}
use Rattle.std.proofs.lemmas.Option.{none-some}
use Rattle.reloc_places.specs.Starts.{instr_at}
use Rattle.reloc_places.proofs.StartFacts.{IsInside, start_inside}
use Rattle.flow_recover.proofs.instructions.found.Goals as goal

pub instr_at-requires-clause-before : goal.instr_at-requires-clause-before
instr_at-requires-clause-before c =
    let inside : IsInside c.args.o.now c.args.n.section c.args.n.offset c.in-Some.end =
    start_inside c.args.o.now _ _ _ c.sound.ensures c.requires.within ((c.requires.chart.starts _ _ _).0 (sym c.in-Some.ensures)) in
    omega (arith, inside.before_end)

pub instr_at-requires-clause-inside : goal.instr_at-requires-clause-inside
instr_at-requires-clause-inside c =
    let inside : IsInside c.args.o.now c.args.n.section c.args.n.offset c.in-Some.end =
    start_inside c.args.o.now _ _ _ c.sound.ensures c.requires.within ((c.requires.chart.starts _ _ _).0 (sym c.in-Some.ensures)) in
    subst (λ (l : List ℕ). c.in-Some.end ≤ length l) (sym c.bytes_of-bytes.ensures) inside.in_bytes

pub unreachable-requires : goal.unreachable-requires
unreachable-requires c = none-some c.requires.start.end (c.in-None.ensures ∙ (c.requires.chart.starts c.args.n.section c.args.n.offset c.requires.start.end).1 c.requires.start.start)

pub returns : goal.returns
returns c = record {
  end = c.in-Some.end;
  start = (c.requires.chart.starts c.args.n.section c.args.n.offset c.in-Some.end).0 (sym c.in-Some.ensures);
  is = sym (c.instr_at.ensures ∙ ap (λ (l : List ℕ). instr_at l c.in-Some.end c.args.n.offset c.args.n.it) c.bytes_of-bytes.ensures);
}
