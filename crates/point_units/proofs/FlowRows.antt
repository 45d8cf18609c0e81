-- The instructions of a flow's points have rows, but IT, and there is no ADR.
use Rattle.std.specs.Prelude.{◌≡◌, ◌<◌, ◌&&◌, nat_le, ℕ, Bool, true, false, List, Option, Some, None, Ok, Err, IsTrue, if◌then◌else◌, length, slice_get, refl}
use Rattle.std.proofs.Common.{arith, sym, subst, inl, inr}
use Rattle.std.proofs.lemmas.Bool.{true≢false, and_parts, and_from, leb-true, le-leb}
use Rattle.std.proofs.lemmas.Option.{slice_get_within}
use Rattle.elf_model.specs.declared.refusals.Refusal.TheVariants as refusal
use Rattle.elf_model.specs.Fields.{half_at}
use Rattle.elf_model.specs.declared.refusals.TheConstants.Limit.{INPUT}
use Rattle.elf_model.specs.Objects.{ObjectParts, code_size, is_within}
use Rattle.elf_model.specs.Ranges.{is_whole}
use Rattle.elf_model.proofs.Elements.{element_at, contains_at}
use Rattle.thumb_instr.specs.declared.refusals.ItPlace.{ItPlace}
use Rattle.thumb_instr.specs.declared.refusals.BadInstr.TheVariants.{Unknown}
use Rattle.thumb_instr.specs.declared.instructions.Instr.{Instr}
use Rattle.thumb_instr.specs.declared.instructions.Instr.TheVariants as instr
use Rattle.thumb_instr.specs.Blocks.{place_in_block}
use Rattle.thumb_instr.specs.Fields.{AdrFields}
use Rattle.thumb_instr.specs.Rows.{is_wide, decode, decode_given}
use Rattle.thumb_instr.proofs.Decoded.{decode_formed}
use Rattle.reloc_places.proofs.StartFacts.{any_limit}
use Rattle.reloc_places.specs.Starts.{bytes_of, decoded_at, instr_at, second_half}
use Rattle.flow_recover.specs.declared.flows.Point.{Point}
use Rattle.flow_recover.specs.Flows.{FlowParts}
use Rattle.flow_recover.specs.Reach.{IsFound}
use Rattle.flow_recover.specs.FlowFaults.{FlowFault as fault}
use Rattle.flow_recover.specs.WholeFlows.{IsFlow}
use Rattle.seq_core.specs.Builders.{FullCodesAreRows, HasRow}
use Rattle.seq_core.specs.Classes.{has_no_class}
use Rattle.it_expand.specs.Expanded.{body_of}
use Rattle.point_units.specs.Units.{CanReplace}
use Rattle.point_units.proofs.OutsideRows.{outside_or_full}

-- halfwords stand for it at a place in or out of IT blocks
record Decodes (place : ItPlace) (i : Instr) : Type 0 where
  first : ℕ
  second : ℕ
  stands : decode place first second ≡ Ok i

decodes_row : FullCodesAreRows → (place : ItPlace) (i : Instr) → Decodes place i → HasRow i
decodes_row rows place i d =
    let formed = decode_formed place d.first d.second i d.stands in
    elim (outside_or_full place d.first d.second i d.stands) [
      | inl same ↦ record { first = d.first; second = d.second; stands = same }
      | inr full ↦ rows i formed.registers formed.fields full
    ]

given_decodes : (place : ItPlace) (h : ℕ) (s : Option ℕ) (i : Instr) → decode_given place h s ≡ Ok i → Decodes place i
given_decodes place h None i e = go (is_wide h) e
  where
    go : (b : Bool) → (if b then Err Unknown else decode place h 0) ≡ Ok i → Decodes place i
    go true e = absurd (cc)
    go false e = record { first = h; second = 0; stands = e }
given_decodes place h (Some s) i e = record { first = h; second = s; stands = e }

found_row : FullCodesAreRows → (bytes : List ℕ) (end x it : ℕ) (i : Instr) → instr_at bytes end x it ≡ Ok i → HasRow i
found_row rows bytes end x it i e = go (is_whole bytes end x) e
  where
    go : (b : Bool) → (if b then decoded_at bytes x it else Err Unknown) ≡ Ok i → HasRow i
    go true e = decodes_row rows (place_in_block it) i (given_decodes (place_in_block it) (half_at bytes x) (second_half bytes x) i e)
    go false e = absurd (cc)

no_body : (i : Instr) → ((a : AdrFields) → i ≡ instr.Adr a → ⊥) → has_no_class i ≡ true → body_of i ≡ None
no_body (instr.Adr a) none e = absurd (none a refl)
no_body (instr.It a) none e = refl
no_body i none e = absurd (true≢false (sym e))

module _ (rows : FullCodesAreRows) (o : ObjectParts) (f : FlowParts) (flow : IsFlow o f) where
  pub can_replace : (k : ℕ) (x : Point) → slice_get f.points k ≡ Some x → CanReplace x
  can_replace k x at =
      let low : k < length flow.nodes = omega (arith, slice_get_within f.points k x at, flow.count) in
      let n = element_at flow.nodes k low in
      let is = flow.points k n.0 x n.1 at in
      let reached = (flow.reached n.0).0 (contains_at flow.nodes k n.0 n.1) in
      record {
        row = λ body. found_row rows (bytes_of o n.0.section) is.instr.end n.0.offset n.0.it x.instr is.instr.is;
        classed = no_body x.instr (λ a e. flow.no_fault refusal.PcOperand n.0.section n.0.offset (fault.adr n.0 a (record { reached = reached; found = subst (λ (i : Instr). IsFound o n.0 (Ok i)) e is.instr }) refl refl refl));
      }

-- What an input may have every object may have.
pub input_within : (o : ObjectParts) → IsTrue (is_within o INPUT) → IsTrue (is_within o any_limit)
input_within o e =
    let a = and_parts (nat_le (length o.sections) 256 && nat_le (length o.symbols) 16384 && nat_le (length o.relocs) 65536) (nat_le (code_size o.sections) 65536) e in
    let b = and_parts (nat_le (length o.sections) 256 && nat_le (length o.symbols) 16384) (nat_le (length o.relocs) 65536) a.0 in
    let d = and_parts (nat_le (length o.sections) 256) (nat_le (length o.symbols) 16384) b.0 in
    let sections = leb-true (length o.sections) 256 d.0 in
    let symbols = leb-true (length o.symbols) 16384 d.1 in
    let relocs = leb-true (length o.relocs) 65536 b.1 in
    let code = leb-true (code_size o.sections) 65536 a.1 in
    and_from _ _ (and_from _ _ (and_from _ _ (le-leb (length o.sections) 1024 (omega arith)) (le-leb (length o.symbols) 262144 (omega arith))) (le-leb (length o.relocs) 524288 (omega arith))) (le-leb (code_size o.sections) 16777216 (omega arith))
