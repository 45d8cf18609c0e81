-- What stands at a point of a flow, and where its code ends.
use Rattle.std.proofs.Common.{◌≡◌, ◌<◌, ◌≤◌, ℕ, ◌+◌, List, Bool, true, false, cond, refl, sym, ap, ◌∙◌, subst, inl, inr, arith, Some, Ok, Err}
use Rattle.std.specs.Prelude.{slice_get, Contains, ◌==◌, ◌&&◌}
use Rattle.std.proofs.lemmas.Bool.{leb-true, and_parts, eqb-true, cases_order}
use Rattle.std.proofs.lemmas.List.Quantifiers.{position-Some}
use Rattle.std.proofs.lemmas.Option.{same_Some, slice_get_within, get_or_from_slice_get}
use Rattle.elf_model.specs.declared.objects.Reloc.{Reloc}
use Rattle.elf_model.specs.declared.objects.RelocKind.TheVariants.{Abs32}
use Rattle.elf_model.specs.declared.objects.Section.{Section}
use Rattle.elf_model.specs.declared.ranges.RangeKind.TheVariants.{Code, Data}
use Rattle.elf_model.specs.declared.refusals.Refusal.TheVariants as refusal
use Rattle.elf_model.specs.Constants.{progbits}
use Rattle.elf_model.specs.Fields.{half_at}
use Rattle.elf_model.specs.Objects.{ObjectParts, is_code, is_alloc, is_exec}
use Rattle.elf_model.specs.Ranges.{IsRange, is_long, is_whole, length_at}
use Rattle.elf_model.proofs.Elements.{element_at}
use Rattle.code_ranges.specs.Spans.{kind_at}
use Rattle.code_ranges.proofs.KindFacts.{kind_here}
use Rattle.code_ranges.proofs.RangeOrder.{range_ends}
use Rattle.thumb_instr.specs.declared.instructions.Instr.{Instr}
use Rattle.thumb_instr.specs.declared.refusals.BadInstr.TheVariants.{Unknown}
use Rattle.reloc_places.specs.Starts.{bytes_of, IsCodeStart, IsDataWord, decoded_at, instr_at}
use Rattle.reloc_places.specs.Relocations.{IsRight, reloc_at}
use Rattle.reloc_places.proofs.StartFacts.{start_behind, starts_apart, length_least}
use Rattle.flow_recover.specs.declared.flows.Point.{Point}
use Rattle.flow_recover.specs.declared.flows.PoolWord.{PoolWord}
use Rattle.flow_recover.specs.Flows.{FlowParts}
use Rattle.flow_recover.specs.FlowFaults.{no_word, relocation}
use Rattle.flow_recover.specs.Points.{end_of}
use Rattle.flow_recover.specs.WholeFlows.{IsFlow}
use Rattle.hardened_form.specs.Sections.{IsNewSection}

pub decoded_whole : (bytes : List ℕ) (end x it : ℕ) (i : Instr) → instr_at bytes end x it ≡ Ok i → (x + length_at bytes x ≤ end) × (decoded_at bytes x it ≡ Ok i)
decoded_whole bytes end x it i h = go (is_whole bytes end x) refl h
  where
    go : (b : Bool) → is_whole bytes end x ≡ b → cond b (decoded_at bytes x it) (Err Unknown) ≡ Ok i → (x + length_at bytes x ≤ end) × (decoded_at bytes x it ≡ Ok i)
    go true e h = (leb-true (x + length_at bytes x) end e, h)
    go false e h = absurd (cc)

-- ranges of code and of data share no offset
ranges_apart : (o : ObjectParts) (j a b c d x : ℕ) → IsRange o Code j a b → IsRange o Data j c d → a ≤ x → x < b → c ≤ x → x < d → ⊥
ranges_apart o j a b c d x r s low high from to =
    elim (cases_order a c) [
      | inl e ↦
          let one = kind_here o Code j a r.begins in
          let two = kind_here o Data j c s.begins in
          let same : Some Code ≡ Some Data = sym one ∙ (ap (λ (n : ℕ). kind_at o.symbols j n) e ∙ two) in
          absurd (cc)
      | inr w ↦ elim w [
        | inl under ↦ let h = range_ends o Code Data j a b c d r s under in omega arith
        | inr over ↦ let h = range_ends o Data Code j c d a b s r over in omega arith
      ]
    ]

-- A relocation that is found at a place stands there.
pub reloc_at_is : (o : ObjectParts) (j x k : ℕ) (r : Reloc) → reloc_at o j x ≡ Some k → slice_get o.relocs k ≡ Some r → (r.section ≡ j) × (r.offset ≡ x)
reloc_at_is o j x k r at there =
    let h = position-Some (λ (q : Reloc). (q.section == j) && (q.offset == x)) o.relocs k r at in
    let same = get_or_from_slice_get o.relocs k r r there in
    let parts = and_parts (r.section == j) (r.offset == x) (sym (ap (λ (q : Reloc). (q.section == j) && (q.offset == x)) same) ∙ h.1) in
    (eqb-true r.section j parts.0, eqb-true r.offset x parts.1)

pub reloc_found : (o : ObjectParts) (j x k : ℕ) → reloc_at o j x ≡ Some k → (r : Reloc) × (slice_get o.relocs k ≡ Some r) × (r.section ≡ j) × (r.offset ≡ x)
reloc_found o j x k at =
    let none : Reloc = record { section = 0; offset = 0; kind = Abs32; symbol = 0 } in
    let h = position-Some (λ (q : Reloc). (q.section == j) && (q.offset == x)) o.relocs k none at in
    let r = element_at o.relocs k h.0 in
    let is = reloc_at_is o j x k r.0 at r.1 in
    (r.0, r.1, is.0, is.1)

-- the instruction of a point, where it starts and where the next may
pub record IsAtPoint (o : ObjectParts) (x : Point) : Type 0 where
  pub range_end : ℕ
  pub start : IsCodeStart o x.section (bytes_of o x.section) x.offset range_end
  pub whole : x.offset + length_at (bytes_of o x.section) x.offset ≤ range_end
  pub end : end_of x ≡ x.offset + length_at (bytes_of o x.section) x.offset
  pub it : ℕ
  pub instr : decoded_at (bytes_of o x.section) x.offset it ≡ Ok x.instr
  pub reloc : x.reloc ≡ reloc_at o x.section x.offset

module _ (o : ObjectParts) (f : FlowParts) (flow : IsFlow o f) where
  pub at_point : (k : ℕ) (x : Point) → slice_get f.points k ≡ Some x → IsAtPoint o x
  at_point k x e =
      let n = element_at flow.nodes k (subst (λ (m : ℕ). k < m) flow.count (slice_get_within f.points k x e)) in
      let is = flow.points k n.0 x n.1 e in
      let whole = decoded_whole (bytes_of o n.0.section) is.instr.end n.0.offset n.0.it x.instr is.instr.is in
      record {
        range_end = is.instr.end;
        start = subst (λ (j : ℕ). IsCodeStart o j (bytes_of o j) x.offset is.instr.end) (sym is.section) (subst (λ (a : ℕ). IsCodeStart o n.0.section (bytes_of o n.0.section) a is.instr.end) (sym is.offset) is.instr.start);
        whole = subst (λ (j : ℕ). x.offset + length_at (bytes_of o j) x.offset ≤ is.instr.end) (sym is.section) (subst (λ (a : ℕ). a + length_at (bytes_of o n.0.section) a ≤ is.instr.end) (sym is.offset) whole.0);
        end = ap (λ (b : Bool). x.offset + cond b 4 2)
            (is.wide ∙ ap (λ (j : ℕ). is_long (half_at (bytes_of o j) n.0.offset)) (sym is.section) ∙ ap (λ (a : ℕ). is_long (half_at (bytes_of o x.section) a)) (sym is.offset));
        it = n.0.it;
        instr = ap (λ (j : ℕ). decoded_at (bytes_of o j) x.offset n.0.it) is.section ∙ (ap (λ (a : ℕ). decoded_at (bytes_of o n.0.section) a n.0.it) is.offset ∙ whole.1);
        reloc = is.reloc ∙ (ap (λ (j : ℕ). reloc_at o j n.0.offset) (sym is.section) ∙ ap (λ (a : ℕ). reloc_at o x.section a) (sym is.offset));
      }

  -- A point's section is one of code.
  pub in_code : (k : ℕ) (x : Point) → slice_get f.points k ≡ Some x → (s : Section) × (slice_get o.sections x.section ≡ Some s) × (is_code s ≡ true)
  in_code k x e = let range = (at_point k x e).start.range in (range.section, range.is_there, range.in_code)

  -- of two points of a section the first ends where the second begins, or before
  pub ends_before : (k n : ℕ) (x y : Point) → slice_get f.points k ≡ Some x → slice_get f.points n ≡ Some y → x.section ≡ y.section → x.offset < y.offset → end_of x ≤ y.offset
  ends_before k n x y e g same less =
      let a = at_point k x e in
      let b = at_point n y g in
      let start = subst (λ (j : ℕ). IsCodeStart o j (bytes_of o j) y.offset b.range_end) (sym same) b.start in
      let apart = starts_apart o x.section x.offset y.offset a.range_end b.range_end a.start a.whole start less in
      let end = a.end in
      omega arith

  pub some_bytes : (k : ℕ) (x : Point) → slice_get f.points k ≡ Some x → x.offset < end_of x
  some_bytes k x e = let a = at_point k x e in let least = length_least (bytes_of o x.section) x.offset in let end = a.end in omega arith

  -- a word that is loaded is one of data
  word_is_data : (w : PoolWord) → Contains f.words w → (IsDataWord o w.section w.offset → ⊥) → ⊥
  word_is_data w here wrong =
      let is = (flow.words w).0 here in
      flow.no_fault refusal.IntoMiddle is.node.section is.node.offset
      (no_word is.node is.literal is.loads
      (λ y place there. wrong (subst (λ (j : ℕ). IsDataWord o j w.offset) (sym is.section) (subst (IsDataWord o is.node.section) (same_Some y w.offset (sym place ∙ is.offset)) there))) refl refl refl)

  -- a point's instruction has no byte of a word of data
  pub code_apart : (k : ℕ) (x : Point) (w : ℕ) → slice_get f.points k ≡ Some x → IsDataWord o x.section w → x.offset ≤ w → w < end_of x → ⊥
  code_apart k x w e d low high =
      let a = at_point k x e in
      let from = start_behind (bytes_of o x.section) a.start.start a.range_end x.offset a.start.is_start in
      let whole = a.whole in
      let end = a.end in
      let begins = d.behind_start in
      let ends = d.before_end in
      ranges_apart o x.section a.start.start a.range_end d.start d.end w a.start.range d.range (omega arith) (omega arith) begins (omega arith)

  pub no_word_within : (k : ℕ) (x : Point) (w : PoolWord) → slice_get f.points k ≡ Some x → Contains f.words w → w.section ≡ x.section → x.offset ≤ w.offset → w.offset < end_of x → ⊥
  no_word_within k x w e here same low high = word_is_data w here (λ there. code_apart k x w.offset e (subst (λ (j : ℕ). IsDataWord o j w.offset) same there) low high)

  -- a pool word's relocation is the one at its place
  pub word_reloc : (w : PoolWord) → Contains f.words w → w.reloc ≡ reloc_at o w.section w.offset
  word_reloc w here = ((flow.words w).0 here).reloc

  -- no relocation is wrong
  pub not_wrong : (k : ℕ) (r : Reloc) → slice_get o.relocs k ≡ Some r → (IsRight o k r → ⊥) → ⊥
  not_wrong k r at wrong = flow.no_fault refusal.RelocKind r.section r.offset (relocation k r at wrong refl refl refl)

-- a new section is one of code as the old one
pub same_sort : (o : ObjectParts) (j : ℕ) (s t : Section) → IsNewSection o j s t → is_code t ≡ is_code s
same_sort o j s t h = ap (λ (n : ℕ). (n == progbits) && is_alloc t.flags && is_exec t.flags) h.kind ∙ ap (λ (n : ℕ). (s.kind == progbits) && is_alloc n && is_exec n) h.flags
