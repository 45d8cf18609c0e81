use Rattle.std.proofs.Common.{rules, ℕ, Bool}
use Rattle.std.proofs.lemmas.List.Sorted.{IsPartitionPoint-from_clause}
use Rattle.flow_recover.specs.declared.flows.PoolWord.{PoolWord}
use Rattle.flow_recover.specs.WholeFlows.{place_of_word}
use Rattle.emit_object.specs.FirstItems.{is_earlier}
use Rattle.emit_object.proofs.FirstFacts.{parted, first_index}
use Rattle.emit_object.proofs.first_items.word_from.Goals as goal

pub returns : goal.returns
returns c =
    let place : ℕ × ℕ = (c.args.section, c.args.offset) in
    let test : PoolWord → Bool = λ y. is_earlier (place_of_word y) place in
    first_index PoolWord place_of_word c.args.words.now place c.partition_point.result
    (IsPartitionPoint-from_clause test c.args.words.now c.partition_point.result c.partition_point.ensures.partitioned (parted PoolWord place_of_word c.args.words.now place c.requires) (λ a r g called. search rules))
