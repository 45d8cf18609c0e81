use Rattle.std.proofs.Common.{◌≡◌, ◌+◌, ◌++◌, ◌∙◌, sym, ap, true, false}
use Rattle.thumb_instr.specs.Operands.{has}
use Rattle.thumb_table.specs.Effects.{registers}
use Rattle.seq_core.proofs.Made.{held, rest, rest_first, rest_last, rest_has, rest_lacks, second_found, first_found, all_found}
use Rattle.seq_core.proofs.making.sole_register.Goals as goal
use Rattle.seq_core.proofs.making.sole_register.Goals.{then-has+else-is_some, else-has}

pub each-init : goal.each-init
each-init c = sym (rest_first c.args.list.0)

pub returns-then-is_some : goal.returns-then-is_some
returns-then-is_some c =
    let list = c.args.list.0 in
    let k = c.each.k in
    let there : has list k ≡ true = rw (← c.numbered-r.ensures, ← c.has.ensures) c.if-has.true in
    second_found c.each.found k (registers list) (rest list (k + 1)) (c.each.invariant ∙ ap (λ l. held c.each.found ++ l) (rest_has list k c.each-test.true there)) (sym c.is_some.ensures ∙ c.if-is_some.true)

pub each-preserved : goal.each-preserved
each-preserved c =
    let list = c.args.list.0 in
    let k = c.each.k in
    elim c.if-has.branch [
      | then-has+else-is_some w ↦
          let there : has list k ≡ true = rw (← c.numbered-r.ensures, ← c.has.ensures) w.if-has.true in
          let first = first_found c.each.found k (registers list) (rest list (k + 1)) (c.each.invariant ∙ ap (λ l. held c.each.found ++ l) (rest_has list k c.each-test.true there)) (sym w.is_some.ensures ∙ w.if-is_some.false) in
          rw (w.found-is, c.numbered-r.ensures) first
      | else-has w ↦
          let absent : has list k ≡ false = rw (← c.numbered-r.ensures, ← c.has.ensures) w.if-has.false in
          rw w.found-is (c.each.invariant ∙ ap (λ l. held c.each.found ++ l) (rest_lacks list k c.each-test.true absent))
    ]

pub returns : goal.returns
returns c = all_found c.each.found (registers c.args.list.0) (c.each.invariant ∙ ap (λ l. held c.each.found ++ l) (rest_last c.args.list.0 c.each.k c.each-test.false))
