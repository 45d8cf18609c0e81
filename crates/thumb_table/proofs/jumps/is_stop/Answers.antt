use Rattle.std.proofs.lemmas.List.Sorted.{searched}
use Rattle.thumb_table.proofs.StopLemmas.{rises, found}
use Rattle.thumb_table.proofs.jumps.is_stop.Goals as goal

pub returns : goal.returns
returns c =
    let stops = c.args.stops.now in
    let address = c.args.address in
    let answer = c.binary_search.result in
    rw c.is_ok.ensures.value (found stops address answer (searched stops address answer c.binary_search.ensures.position (rises stops c.requires)))
