use Rattle.std.proofs.Common.{ℕ, List, subst, arith}
use Rattle.emit_object.specs.CodeBytes.{IsPutAt}
use Rattle.emit_object.proofs.PutFacts.{put_there, refilled}
use Rattle.emit_object.proofs.code_bytes.put_piece.Goals as goal

pub returns : goal.returns
returns c =
    let p = c.args.p.now in
    let v = c.index_mut.result.now in
    let new : List ℕ = c.put_bytes.new.bytes in
    let run = subst (λ (r : List ℕ). IsPutAt p.at r c.deref_mut.result.now new) c.as_slice.ensures c.put_bytes.ensures in
    let put = subst (λ (old : List ℕ). IsPutAt p.at p.bytes old new) c.deref_mut.ensures.value run in
    let same = put.size in
    let long = v.ok.0 in
    put_there c.args.all.now.items p c.requires v _ c.index_mut.ensures.value new put (refilled new v.items v.len same (omega arith))
