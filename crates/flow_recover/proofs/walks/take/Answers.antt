use Rattle.std.proofs.Common.{◌≡◌, ◌<◌, ◌∙◌, sym, ap, refl, arith, ℕ, Some, length}
use Rattle.std.specs.Prelude.{slice_get}
use Rattle.std.proofs.lemmas.Option.{slice_get-get_or}
use Rattle.index_links.specs.Queues.{PendingParts}
use Rattle.flow_recover.specs.Walks.IsTaken.{none_waits, oldest}
use Rattle.flow_recover.proofs.WalkFacts.{same_pending}
use Rattle.flow_recover.proofs.walks.take.Goals as goal

pub returns-in-None : goal.returns-in-None
returns-in-None c =
    let same : c.take.new.self ≡ c.args.walk.now.pending = same_pending c.take.new.self c.args.walk.now.pending (sym c.in-None.ensures.oldest) c.in-None.ensures.size in
    none_waits refl (ap (λ (p : PendingParts). record c.args.walk.now { pending = p }) same) (c.in-None.ensures.empty.0 refl)

pub returns-in-Some : goal.returns-in-Some
returns-in-Some c =
    let within : c.in-Some.i < length c.args.walk.now.places.items = let low = c.in-Some.ensures.small in let same = c.requires.queue in omega arith in
    let there : slice_get c.args.walk.now.places.items c.in-Some.i ≡ Some (c.index.result.now.0, c.index.result.now.1) = slice_get-get_or c.args.walk.now.places.items c.in-Some.i c.index.result.now within ∙ ap (λ (p : ℕ × ℕ). Some p) (sym c.index.ensures) in
    oldest c.in-Some.i c.index.result.now.0 c.index.result.now.1 refl there c.in-Some.ensures.oldest refl refl refl c.in-Some.ensures.size
