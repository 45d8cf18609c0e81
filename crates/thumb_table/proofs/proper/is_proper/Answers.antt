use Rattle.thumb_table.proofs.proper.is_proper.Goals as goal

pub returns-in-Half : goal.returns-in-Half
returns-in-Half c = rw c.in-Half.is (λ width. c.is_half_proper.ensures width c.args.m.now)

pub returns-in-Pair : goal.returns-in-Pair
returns-in-Pair c = rw c.in-Pair.is c.is_pair_proper.ensures

pub returns-in-Multi : goal.returns-in-Multi
returns-in-Multi c = rw c.in-Multi.is c.is_multi_proper.ensures
