use Rattle.std.proofs.Common.{◌≡◌, ◌≤◌, ◌<◌, length, inl, inr, get_or, arith, ap, ◌∙◌, sym}
use Rattle.std.proofs.lemmas.Option.{get_or_from_slice_get, slice_get_within}
use Rattle.branch_layout.proofs.ReachFacts.{below_next}
use Rattle.branch_layout.proofs.reach.first_big.Goals as goal

pub loop-j-preserved : goal.loop-j-preserved
loop-j-preserved c = λ i lt b.
    elim (below_next i c.loop-j.j lt) [
      | inl before ↦ c.loop-j.invariant i before b
      | inr same ↦
          let is : get_or c.args.sizes.now c.loop-j.j 0 ≡ b.size = ap (λ n. get_or c.args.sizes.now n 0) (sym same) ∙ get_or_from_slice_get c.args.sizes.now i b.size 0 b.there in
          let low : get_or c.args.sizes.now c.loop-j.j 0 ≤ 524288 = c.if-sizes-j-gt-MOST_CODE.false in
          let big = b.big in
          absurd (omega arith)
    ]

pub returns : goal.returns
returns c = λ j b.
    let lt : j < length c.args.sizes.now = slice_get_within c.args.sizes.now j b.size b.there in
    let end : length c.args.sizes.now ≤ c.loop-j.j = c.loop-j-test.false in
    c.loop-j.invariant j (omega arith) b
