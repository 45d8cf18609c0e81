-- A point that loads a word is a literal load, and has no relocation of its own.
use Rattle.std.specs.Prelude.{◌≡◌, ◌<◌, ℕ, Bool, true, false, not, Some, Ok, slice_get, Contains, refl}
use Rattle.std.proofs.Common.{arith, ap, sym, ◌∙◌, subst}
use Rattle.std.proofs.lemmas.Bool.{both_ways, and_parts}
use Rattle.std.proofs.lemmas.Option.{none-some, same_Some, slice_get_within}
use Rattle.elf_model.specs.declared.objects.Section.{Section}
use Rattle.elf_model.specs.declared.objects.Reloc.{Reloc}
use Rattle.elf_model.specs.declared.objects.RelocKind.{RelocKind}
use Rattle.elf_model.specs.declared.objects.RelocKind.TheVariants.{Abs32, Target1, ThmCall, ThmJump24, MovwAbs, MovtAbs, ThmJump19, ThmJump11, ThmJump8, Other}
use Rattle.elf_model.specs.Fields.{half_at}
use Rattle.elf_model.specs.Objects.{ObjectParts, is_code}
use Rattle.elf_model.specs.Ranges.{is_long}
use Rattle.elf_model.proofs.Elements.{place_of, element_at}
use Rattle.thumb_instr.specs.declared.instructions.Instr.{Instr}
use Rattle.thumb_instr.specs.declared.instructions.Instr.TheVariants as instr
use Rattle.thumb_instr.specs.Fields.{LiteralFields}
use Rattle.thumb_instr.specs.Numbers.{has_number}
use Rattle.reloc_places.specs.Starts.{bytes_of, IsDataWord, decoded_at}
use Rattle.reloc_places.specs.Relocations.{is_bl, is_b, is_mov, fits_kind, IsPlace, in_data, in_code, on_instr}
use Rattle.reloc_places.proofs.StartFacts.{start_before, start_behind}
use Rattle.flow_recover.specs.declared.flows.Point.{Point}
use Rattle.flow_recover.specs.declared.flows.PoolWord.{PoolWord}
use Rattle.flow_recover.specs.Flows.{FlowParts}
use Rattle.flow_recover.specs.WholeFlows.{IsFlow, literal}
use Rattle.flow_recover.specs.WholeFlows.IsLoaded.{none as unloaded}
use Rattle.sim_images.proofs.RightPlaces.{decoded_whole, no_both, no_data}
use Rattle.sim_answers.proofs.Accepted.{not_wrong}
use Rattle.sim_answers.proofs.PointPlaces.{at_point}
use Rattle.sim_answers.proofs.Placed.{reloc_at_is, same_in_block}
use Rattle.sim_objects.proofs.Twins.{reloc_there}

-- what carries a relocation has a number
fits_number : (k : RelocKind) (long : Bool) (i : Instr) → fits_kind k long i ≡ true → has_number i ≡ true
fits_number k long i fits = go k long i fits
  where
    bl : (i : Instr) → is_bl i ≡ true → has_number i ≡ true
    bl (instr.Call i) e = refl
    bl i e = absurd (cc)

    b : (conditional : Bool) (i : Instr) → is_b conditional i ≡ true → has_number i ≡ true
    b conditional (instr.Branch i) e = refl
    b conditional i e = absurd (cc)

    mov : (top : Bool) (i : Instr) → is_mov top i ≡ true → has_number i ≡ true
    mov top (instr.Half i) e = refl
    mov top i e = absurd (cc)

    go : (k : RelocKind) (long : Bool) (i : Instr) → fits_kind k long i ≡ true → has_number i ≡ true
    go Abs32 long i f = absurd (cc)
    go Target1 long i f = absurd (cc)
    go (Other n) long i f = absurd (cc)
    go MovwAbs long i f = mov false i f
    go MovtAbs long i f = mov true i f
    go ThmCall long i f = bl i f
    go ThmJump24 long i f = b false i (and_parts long (is_b false i) f).1
    go ThmJump19 long i f = b true i (and_parts long (is_b true i) f).1
    go ThmJump11 long i f = b false i (and_parts (not long) (is_b false i) f).1
    go ThmJump8 long i f = b true i (and_parts (not long) (is_b true i) f).1

-- what a point loads
pub record Loads (f : FlowParts) (x : Point) (n : ℕ) : Type 0 where
  pub fields : LiteralFields
  pub instr : x.instr ≡ instr.Literal fields
  pub word : PoolWord
  pub there : slice_get f.words n ≡ Some word

pub loads_of : (o : ObjectParts) (f : FlowParts) → IsFlow o f → (x : Point) → Contains f.points x → (n : ℕ) → x.word ≡ Some n → Loads f x n
loads_of o f flow x c n loads =
    let q = place_of f.points x c in
    let m = element_at flow.nodes q.0 (subst (λ (k : ℕ). q.0 < k) flow.count (slice_get_within f.points q.0 x q.1)) in
    let is = flow.points q.0 m.0 x m.1 q.1 in
    elim (is.word) [
      | literal l k v form there section place named ↦
          let same : k ≡ n = same_Some k n (sym named ∙ loads) in
          record { fields = l; instr = form; word = v; there = ap (slice_get f.words) (sym same) ∙ there }
      | unloaded free named ↦ absurd (none-some n (sym named ∙ loads))
    ]

pub no_relocation : (o : ObjectParts) (f : FlowParts) → IsFlow o f → (x : Point) → Contains f.points x → (k n : ℕ) → x.reloc ≡ Some k → x.word ≡ Some n → ⊥
no_relocation o f flow x c k n reloc loads =
    let l = loads_of o f flow x c n loads in
    let at = at_point o f flow x c in
    let r = reloc_there o x.section x.offset k (sym at.reloc ∙ reloc) in
    let place = reloc_at_is o x.section x.offset k r.0 (sym at.reloc ∙ reloc) r.1 in
    not_wrong o f flow k r.0 r.1 (λ right. go l.fields l.instr r.0 place right.place)
  where
    go : (l : LiteralFields) → x.instr ≡ instr.Literal l → (r : Reloc) → (r.section ≡ x.section) × (r.offset ≡ x.offset) → IsPlace o r → ⊥
    go l form r place (in_data s there datum word) =
        let at = at_point o f flow x c in
        let same : at.start.range.section ≡ s = same_Some at.start.range.section s (sym at.start.range.is_there ∙ (ap (slice_get o.sections) (sym place.0) ∙ there)) in
        no_data s (subst (λ (t : Section). is_code t ≡ true) same at.start.range.in_code) datum
    go l form r place (in_code word dw) =
        let at = at_point o f flow x c in
        let here : IsDataWord o x.section x.offset = subst (λ (j : ℕ). IsDataWord o j x.offset) place.0 (subst (λ (a : ℕ). IsDataWord o r.section a) place.1 dw) in
        let low = here.behind_start in
        let high = here.before_end in
        no_both o x.section at.start.start at.end here.start here.end x.offset at.start.range here.range (start_behind (bytes_of o x.section) at.start.start at.end x.offset at.start.is_start)
        (start_before (bytes_of o x.section) at.start.start at.end x.offset at.start.is_start) low (omega (arith, high))
    go l form r place (on_instr end i start is fits) =
        let at = at_point o f flow x c in
        let d = decoded_whole (bytes_of o r.section) end r.offset 0 i is in
        let out : decoded_at (bytes_of o x.section) x.offset 0 ≡ Ok i =
        sym (ap (λ (j : ℕ). decoded_at (bytes_of o j) r.offset 0) place.0 ∙ ap (λ (a : ℕ). decoded_at (bytes_of o x.section) a 0) place.1) ∙ d.1 in
        let number = fits_number r.kind (is_long (half_at (bytes_of o r.section) r.offset)) i fits in
        let same = same_in_block (bytes_of o x.section) x.offset at.it i x.instr out number at.instr in
        both_ways (has_number i) (ap has_number (same ∙ form)) number
