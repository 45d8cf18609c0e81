use Rattle.std.proofs.Common.{◌≤◌, List, ℕ, length, take, sym, ap, subst, arith}
use Rattle.std.specs.Prelude.{All}
use Rattle.std.proofs.lemmas.List.{take_all}
use Rattle.std.proofs.lemmas.List.Elements.{All-push}
use Rattle.guard_cli.specs.Steps.{contents_of}
use Rattle.guard_cli.proofs.Loaded.{too_long, contents_next}
use Rattle.guard_cli.proofs.loading.first_too_long.Goals as goal

pub returns-then-len-limit : goal.returns-then-len-limit
returns-then-len-limit c = too_long c.args.files.now c.loop-k.k c.index-files-k.result (omega arith) c.index-files-k.is c.args.limit.now c.loop-k.invariant (omega (arith, c.len.ensures))

pub loop-k-preserved : goal.loop-k-preserved
loop-k-preserved c =
    let next = contents_next c.args.files.now c.loop-k.k c.index-files-k.result (omega arith) c.index-files-k.is in
    subst (All (λ (f : List ℕ). length f ≤ c.args.limit.now.file)) (sym next)
    (All-push (λ (f : List ℕ). length f ≤ c.args.limit.now.file) (contents_of (take c.loop-k.k c.args.files.now)) c.index-files-k.result.items c.loop-k.invariant (omega (arith, c.len.ensures)))

pub returns : goal.returns
returns c =
    let all = take_all c.loop-k.k c.args.files.now (omega arith) in
    subst (All (λ (f : List ℕ). length f ≤ c.args.limit.now.file)) (ap contents_of all) c.loop-k.invariant
