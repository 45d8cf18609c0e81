use Rattle.std.proofs.Common.{sym, ap, ◌∙◌, ◌++◌, Option, Vec, Global, append-nil}
use Rattle.std.specs.Prelude.{slice_index}
use Rattle.std.specs.Option.{option_to_list}
use Rattle.elf_model.specs.declared.objects.MapRow.{MapRow}
use Rattle.branch_layout.specs.Laid.{laid_place as unit_place}
use Rattle.emit_object.proofs.RowTurns.{turned, ended}
use Rattle.emit_object.proofs.rows.rows_in.Goals as goal
use Rattle.emit_object.proofs.rows.rows_in.Goals.{in-Some+in_ok-push, in_default}

pub loop-k-preserved : goal.loop-k-preserved
loop-k-preserved c =
    turned unit_place (λ j. slice_index c.args.ordinals.now j) c.args.points.now c.args.units.now c.requires.count c.loop-k.k c.index-points-k.result c.index-units-k.result c.start_row.result c.loop-k.rows.items c.push_rows.new.rows.items
    c.loop-k.waiting c.return_row-waiting.result c.loop-k-test.true c.index-points-k.is c.index-units-k.is c.start_row.ensures c.return_row-waiting.ensures c.loop-k.invariant c.in_ok-push_rows.ensures

pub returns : goal.returns
returns c =
    let all = ended unit_place (λ j. slice_index c.args.ordinals.now j) c.args.points.now c.args.units.now c.requires.count c.loop-k.k c.loop-k.rows.items c.loop-k.waiting c.loop-k-test.false c.loop-k.invariant in
    elim c.match-waiting.branch [
      | in-Some+in_ok-push w ↦
          ap (λ (v : Vec MapRow Global). v.items) w.rows-is ∙ w.in_ok-push.ensures.items ∙ ap (λ (o : Option MapRow). c.loop-k.rows.items ++ option_to_list o) (sym w.in-Some.is) ∙ all
      | in_default w ↦
          ap (λ (v : Vec MapRow Global). v.items) w.rows-is ∙ sym (append-nil c.loop-k.rows.items) ∙ ap (λ (o : Option MapRow). c.loop-k.rows.items ++ option_to_list o) (sym w.in_default.is) ∙ all
    ]
