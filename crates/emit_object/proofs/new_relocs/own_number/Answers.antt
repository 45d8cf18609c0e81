use Rattle.std.proofs.Common.{◌<◌, length, arith}
use Rattle.emit_object.proofs.NewRelocFacts.{index_low}
use Rattle.emit_object.proofs.new_relocs.own_number.Goals as goal

pub overflow_add-result : goal.overflow_add-result
overflow_add-result c =
    let low : c.in_ok-n.n < length c.args.targets.now = index_low c.args.targets.now c.in_ok-n.n c.in_ok-place.place ((c.index_of.ensures c.in_ok-n.n).0 c.in_ok-n.was) in
    omega (arith, low, c.requires.few)
