-- Calls of two lists of pairs end alike: by a chart of them, whose addresses the maps follow.
use Rattle.std.specs.Prelude.{ℕ, true, List, Option, Some, None}
use Rattle.std.proofs.Common.{arith}
use Rattle.elf_model.specs.declared.objects.MapRow.{MapRow}
use Rattle.mark_word.specs.declared.cells.Piece.{Piece}
use Rattle.mark_word.specs.declared.marks.Mark.{Mark}
use Rattle.mark_word.specs.declared.marks.Mark.TheVariants as mark
use Rattle.thumb_table.specs.Parts.{Image}
use Rattle.thumb_table.specs.States.{State}
use Rattle.thumb_table.specs.Calls.{start}
use Rattle.sim_charts.specs.Words as words
use Rattle.sim_charts.specs.Maps.{MappedState}
use Rattle.sim_charts.proofs.Mapped.{ends_mapped}
use Rattle.sim_relation.specs.AddressMaps.{SameBits, SameByte, SameState}
use Rattle.sim_objects.specs.Mapping.{maps_of, by_maps}
use Rattle.sim_objects.specs.Hardening.{ListsEndAlike}
use Rattle.sim_objects.proofs.Going.{pairs_are_linked}
use Rattle.sim_objects.proofs.Existing.{lists_have_charts}
use Rattle.sim_objects.proofs.Skipping.{all_may_skip}
use Rattle.sim_objects.proofs.Mapping.{charts_follow_maps}
use Rattle.sim_objects.proofs.Beginning.{calls_begin}

-- what is the same by the relation of the maps is the same by the maps
module _ (plain hard : Image) (maps : List (List MapRow)) where
  bits_same : (m : Mark) (b h : ℕ) → words.SameBits (by_maps plain hard maps) m b h → SameBits plain hard maps m b h
  bits_same mark.Plain b h s = s
  bits_same (mark.Entry a) b h s = s
  bits_same (mark.Return a) b h s = s
  bits_same (mark.Low a) b h s = s

  byte_same : (p : Option Piece) (b h : ℕ) → words.SameByte (by_maps plain hard maps) p b h → SameByte plain hard maps p b h
  byte_same None b h s = s
  byte_same (Some p) b h s = (s.0, s.1, bits_same p.mark s.0 s.1 s.2, s.3)

  state_same : (K : ℕ) (s t : State) → MappedState (by_maps plain hard maps) K s t → SameState plain hard maps K s t
  state_same K s t m = record {
    memory = record { stack = bits_same _ _ _ m.stack; base = m.memory.base; size = m.memory.size; cells = λ k lt. byte_same _ _ _ (m.memory.cells k lt) };
    registers = record { given = λ r lt. bits_same _ _ _ (m.given r lt); kept = λ r low lt. bits_same _ _ _ (m.kept r low lt) };
  }

pub lists_end_alike : ListsEndAlike
lists_end_alike F pairs at plain hard images all name args entry named n ended returns ordinary =
    let c = lists_have_charts F 2 4 pairs at plain hard images in
    let linked = pairs_are_linked F 2 4 pairs at plain hard c.0 (λ a. true) (omega arith) images c.1 (all_may_skip F 2 4 pairs at all (λ a. true)) in
    let follows = charts_follow_maps F 2 4 pairs at plain hard c.0 images c.1 in
    let begun = calls_begin F 2 4 pairs at plain hard c.0 images c.1 name args entry at.stack named in (
      begun.0,
      begun.1,
      follows.entries entry begun.0 begun.2,
      λ schedule legal.
          let e =
          ends_mapped c.0 (by_maps plain hard (maps_of pairs)) follows plain.code hard.code F linked (start plain at.stack entry args) (start hard at.stack begun.0 args) ended begun.3 n returns
          ordinary schedule legal in
          (e.0, e.1, state_same plain hard (maps_of pairs) 4 ended e.0 e.2),
    )
