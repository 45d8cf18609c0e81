use Rattle.std.proofs.Common.{◌≡◌, ◌+◌, ◌<◌, ℕ, List, refl, ap, ◌∙◌, Option, None, length, arith}
use Rattle.std.proofs.lemmas.List.{length_push}
use Rattle.std.proofs.lemmas.Option.{slice_get_read}
use Rattle.index_links.specs.Chains.{ChainParts}
use Rattle.index_links.proofs.ChainFacts.{added_as, last_there}
use Rattle.index_links.proofs.chains.Chains.add.Goals as goal

pub go_on-requires : goal.go_on-requires
go_on-requires c = λ e is.
    let i = c.self.inside in
    let chains = c.self.invariant.0 in
    let ended = chains.ended in
    let linked = chains.linked in
    let size = ap (λ (l : ChainParts). l.size) c.self.view_is in
    let low : c.args.head < length i.lasts.items = let there = c.requires.there in omega arith in
    let last = slice_get_read i.lasts.items (length i.lasts.items) c.args.head c.index-last.result.now refl low c.index-last.ensures in
    let below = last_there i.heads.items i.nexts.items i.firsts.items i.lasts.items chains c.args.head c.index-last.result.now last e is in
    let n : length c.deref_mut-2.result.now ≡ length i.nexts.items + 1 = ap (λ (l : List (Option ℕ)). length l) (c.deref_mut-2.ensures.value ∙ c.push_reserved-2.ensures.items) ∙ length_push i.nexts.items None in
    omega arith

pub invariant_of-self : goal.invariant_of-self
invariant_of-self c =
    let i = c.self.inside in
    let chains = c.self.invariant.0 in
    let ended = chains.ended in
    let size = ap (λ (l : ChainParts). l.size) c.self.view_is in
    let spare = ap (λ (l : ChainParts). l.spare) c.self.view_is in
    let there = c.requires.there in
    let low : c.args.head < length i.firsts.items = omega arith in
    let within : c.args.head < length i.lasts.items = omega arith in
    let last = slice_get_read i.lasts.items (length i.lasts.items) c.args.head c.index-last.result.now refl within c.index-last.ensures in
    let nexts_long : c.push_reserved-2.new.self.len ≡ length c.deref_mut-2.result.now = let e = c.deref_mut-2.ensures.len in omega arith in
    let firsts_long : i.firsts.len ≡ length i.firsts.items = i.firsts.ok.0 in
    let link : c.len-link.result ≡ length i.heads.items = c.len-link.ensures ∙ i.heads.ok.0 in
    let heads_long : length c.push_reserved.new.self.items ≡ length i.heads.items + 1 = ap (λ (l : List ℕ). length l) c.push_reserved.ensures.items ∙ length_push i.heads.items c.args.head in
    let a = c.self.invariant.1 in
    let b = c.self.invariant.2 in
    let small = a.small in
    let room_a = a.room in
    let room_b = b.room in
    let cap_a = c.push_reserved.ensures.capacity in
    let cap_b = c.push_reserved-2.ensures.capacity in
    let more = c.requires.room in (
      added_as i.heads.items i.nexts.items i.firsts.items i.lasts.items chains c.args.head c.push_reserved.new.self.items c.deref_mut-2.result.now c.go_on.new.nexts _ c.deref_mut.result.now c.begin.new.firsts _ c.len-link.result c.push_reserved-2.new.self.len i.firsts.len c.index-last.result.now low last
          c.push_reserved.ensures.items (c.deref_mut-2.ensures.value ∙ c.push_reserved-2.ensures.items) c.go_on.ensures c.deref_mut.ensures.value c.begin.ensures link nexts_long firsts_long,
      record { small = omega arith; room = omega arith },
      record { small = omega arith; room = omega arith },
    )
