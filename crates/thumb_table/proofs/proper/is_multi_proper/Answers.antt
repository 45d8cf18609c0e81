use Rattle.std.proofs.Common.{◌≡◌, true, sym}
use Rattle.thumb_table.specs.Effects.{registers, value, transfer_size, lowest}
use Rattle.thumb_table.specs.Ordinary.{AreWhole}
use Rattle.thumb_table.specs.CoreStates.{alone}
use Rattle.thumb_table.proofs.ListLemmas.{with_pc}
use Rattle.thumb_table.proofs.proper.is_multi_proper.Goals as goal

pub returns-else-not-i-2 : goal.returns-else-not-i-2
returns-else-not-i-2 c = λ width.
    let i = c.args.i.now in
    let m = c.args.m.now in
    let a = c.lowest-address.result in
    let rs = registers i.list.0 in
    let address : lowest i.down (value (alone c.args.s.now) i.n) (transfer_size i.list.0 i.pc) ≡ a = rw (← c.transfer_size.ensures.value) (sym c.lowest-address.ensures) in
    let load : i.load ≡ true = rw (← c.i.view_is) c.if-not-i.false in
    let pc : i.pc ≡ true = rw (← c.i.view_is) c.if-not-i-2.false in
    let whole : AreWhole m a rs = rw (← c.i.view_is) (c.are_whole.ensures.0 c.if-not-are_whole.false) in
    rw address (with_pc c.args.code.now i.load i.pc a rs m c.is_pc_proper.result load pc whole c.is_pc_proper.ensures)
