-- The instruction of a flow's point is one that halfwords stand for.
use Rattle.std.proofs.Common.{◌≡◌, ℕ, Bool, true, false, Option, Some, None, Ok, Err, arith, inl, inr}
use Rattle.std.specs.Prelude.{if◌then◌else◌, slice_get}
use Rattle.std.proofs.lemmas.Option.{slice_get_within, slice_get_cases}
use Rattle.elf_model.specs.Fields.{half_at}
use Rattle.elf_model.specs.Objects.{ObjectParts}
use Rattle.elf_model.specs.Ranges.{is_whole}
use Rattle.thumb_instr.specs.declared.instructions.Instr.{Instr}
use Rattle.thumb_instr.specs.declared.refusals.BadInstr.TheVariants.{Unknown}
use Rattle.thumb_instr.specs.declared.refusals.ItPlace.{ItPlace}
use Rattle.thumb_instr.specs.Blocks.{place_in_block}
use Rattle.thumb_instr.specs.Rows.{Answer, decode, decode_given, is_wide}
use Rattle.reloc_places.specs.Starts.{bytes_of, second_half, decoded_at}
use Rattle.flow_recover.specs.declared.flows.Point.{Point}
use Rattle.flow_recover.specs.Flows.{FlowParts}
use Rattle.flow_recover.specs.WholeFlows.{IsPoint, IsFlow}

given_is : (place : ItPlace) (first : ℕ) (second : Option ℕ) (i : Instr) → decode_given place first second ≡ Ok i → (k : ℕ) × (decode place first k ≡ Ok i)
given_is place first (Some k) i e = (k, e)
given_is place first None i e = (0, cut (is_wide first) e)
  where
    cut : (b : Bool) → (if b then Err Unknown else decode place first 0) ≡ Ok i → decode place first 0 ≡ Ok i
    cut true e = absurd cc
    cut false e = e

pub record IsDecoded (i : Instr) : Type 0 where
  pub place : ItPlace
  pub first : ℕ
  pub second : ℕ
  pub is : decode place first second ≡ Ok i

module _ (o : ObjectParts) (f : FlowParts) (flow : IsFlow o f) (k : ℕ) (x : Point) (there : slice_get f.points k ≡ Some x) where
  pub has_node : (n : _) × (slice_get flow.nodes k ≡ Some n)
  has_node =
      let low = slice_get_within f.points k x there in
      elim (slice_get_cases flow.nodes k).1 [
        | inl (n, l, e, r) ↦ (n, e)
        | inr (past, e) ↦ absurd (omega (arith, low, past, flow.count))
      ]

  pub the_point : IsPoint o flow.nodes f.words has_node.0 x
  the_point = flow.points k has_node.0 x has_node.1 there

  pub decodes : IsDecoded x.instr
  decodes =
      let found = the_point.instr in
      let n = has_node.0 in
      let at = whole (is_whole (bytes_of o n.section) found.end n.offset) (decoded_at (bytes_of o n.section) n.offset n.it) x.instr found.is in
      let d = given_is (place_in_block n.it) (half_at (bytes_of o n.section) n.offset) (second_half (bytes_of o n.section) n.offset) x.instr at in
      record { place = place_in_block n.it; first = half_at (bytes_of o n.section) n.offset; second = d.0; is = d.1 }
    where
      whole : (b : Bool) (a : Answer) (i : Instr) → (if b then a else Err Unknown) ≡ Ok i → a ≡ Ok i
      whole true a i e = e
      whole false a i e = absurd cc
