use Rattle.std.proofs.Common.{◌≡◌, ◌∙◌, ◌%◌, true, false, sym, refl, ap}
use Rattle.std.specs.List.{list_any}
use Rattle.thumb_instr.specs.Fields.{MultiFields}
use Rattle.thumb_instr.specs.Operands.{is_list}
use Rattle.mark_word.specs.Words.{Word}
use Rattle.thumb_table.specs.States.{is_askew}
use Rattle.thumb_table.specs.Effects.{registers, value, base_moved}
use Rattle.thumb_table.specs.CoreStates.{core_of, alone}
use Rattle.thumb_table.specs.Views.{list_change, popped}
use Rattle.thumb_table.proofs.MultiLemmas.{lacks_sp, registers_lack, moves_upright, moved_list, no_jump}
use Rattle.thumb_table.proofs.multiple.transfer.Goals as goal
use Rattle.thumb_table.proofs.multiple.transfer.Goals.{else-i-via-then-i+else-bits-ne1, else-i-via-else-i}

pub returns-then-bits-ne1-clause-fault : goal.returns-then-bits-ne1-clause-fault
returns-then-bits-ne1-clause-fault c =
    let i = c.args.i.now in
    let s = c.args.s.now in
    let m = c.args.m.now in
    let base = base_moved i.back i.down i.n (value (alone s) i.n) c.args.bytes in
    let bits : (popped i c.args.address m).bits ≡ c.bits-bits.result = ap (λ (w : Word). w.bits) (sym c.popped.ensures) ∙ sym c.bits-bits.ensures in
    let upright : list_any is_askew base ≡ false = rw (← c.base_of.ensures, ← c.i.view_is, ← c.is_base_askew.ensures) c.if-is_base_askew.false in
    let listed : is_list i.list.0 i.pc ≡ true = rw (← c.i.view_is) c.i.invariant in
    let moves : list_any is_askew (list_change i c.args.address c.args.bytes (core_of s m)).regs ≡ false =
    moves_upright base i.load c.args.address (registers i.list.0) (core_of s m) (registers_lack i.list.0 (lacks_sp i.list.0 i.pc listed)) ∙ upright in
    (no_jump (list_change i c.args.address c.args.bytes (core_of s m)) i.pc (popped i c.args.address m).bits moves (rw (← c.i.view_is) c.if-i.true) (λ odd. c.if-bits-ne1.true (rw (← bits) odd)), refl, refl)

pub returns-clause-done : goal.returns-clause-done
returns-clause-done c =
    let i = c.args.i.now in
    let s = c.args.s.now in
    let m = c.args.m.now in
    let base = base_moved i.back i.down i.n (value (alone s) i.n) c.args.bytes in
    let bits : (popped i c.args.address m).bits ≡ c.bits-bits.result = ap (λ (w : Word). w.bits) (sym c.popped.ensures) ∙ sym c.bits-bits.ensures in
    let upright : list_any is_askew base ≡ false = rw (← c.base_of.ensures, ← c.i.view_is, ← c.is_base_askew.ensures) c.if-is_base_askew.false in
    let listed : is_list i.list.0 i.pc ≡ true = rw (← c.i.view_is) c.i.invariant in
    let moves : list_any is_askew (list_change i c.args.address c.args.bytes (core_of s m)).regs ≡ false =
    moves_upright base i.load c.args.address (registers i.list.0) (core_of s m) (registers_lack i.list.0 (lacks_sp i.list.0 i.pc listed)) ∙ upright in
    let odd : i.pc ≡ true → c.bits-bits.result % 2 ≡ 1 = elim c.else-i.branch [
      | else-i-via-then-i+else-bits-ne1 w ↦ λ _. w.if-bits-ne1.false
      | else-i-via-else-i w ↦ λ there. let lacks : i.pc ≡ false = rw (← c.i.view_is) w.if-i.false in cc
    ] in
    let pc_is : c.i.inside.pc ≡ i.pc = ap (λ (x : MultiFields). x.pc) c.i.view_is in
    rw (bits, c.fall.ensures, c.onwards.ensures, pc_is, c.move_list.ensures.registers, c.move_list.ensures.memory)
    (moved_list base i.load c.args.address (registers i.list.0) i.pc c.bits-bits.result c.args.next s m moves odd)
