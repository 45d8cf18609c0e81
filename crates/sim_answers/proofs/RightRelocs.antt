-- The relocations of a hardened form are right.
use Rattle.std.specs.Prelude.{◌≡◌, ◌<◌, ◌≤◌, ℕ, zero, suc, ◌+◌, ◌-◌, ◌^◌, not, Bool, true, false, cond, List, length, Some, Ok, Err, slice_get, refl}
use Rattle.std.proofs.Common.{arith, inl, inr, ap, sym, ◌∙◌, subst}
use Rattle.std.proofs.lemmas.Bool.{cases_order, cases_lt, both_ways, and_parts, not-true, le-leb}
use Rattle.std.proofs.lemmas.Bool.Decides.{nat_tests}
use Rattle.std.proofs.lemmas.Option.{same_Some}
use Rattle.elf_model.specs.declared.objects.Section.{Section}
use Rattle.elf_model.specs.declared.objects.Reloc.{Reloc}
use Rattle.elf_model.specs.Fields.{half_at}
use Rattle.elf_model.specs.Objects.{ObjectParts, is_code, is_data, is_alloc, is_below, place_width}
use Rattle.elf_model.specs.Ranges.{is_long, length_at}
use Rattle.elf_model.proofs.Elements.{element_at, contains_at}
use Rattle.code_ranges.proofs.ObjectFacts.{relocs_rise}
use Rattle.thumb_instr.specs.declared.refusals.BadInstr.TheVariants.{Unknown}
use Rattle.reloc_places.proofs.StartFacts.{start_behind}
use Rattle.reloc_places.proofs.RelocOrder.{rise_at}
use Rattle.reloc_places.specs.Starts.{bytes_of, IsCodeStart, IsDataWord, decoded_at, instr_at}
use Rattle.reloc_places.specs.Relocations.{is_word, is_jump, fits_kind, IsPlace, in_data, in_code, on_instr, IsRight, is_undefined, addend}
use Rattle.flow_recover.specs.declared.flows.PoolWord.{PoolWord}
use Rattle.flow_recover.specs.Flows.{FlowParts}
use Rattle.hardened_form.specs.Places.{Places as UnitPlaces}
use Rattle.hardened_form.specs.Turns.{zero_addend, new_addend}
use Rattle.hardened_form.specs.Carriers.{Carrier}
use Rattle.hardened_form.specs.Relocs.{IsWordOf, in_pool, in_island, IsNewReloc, of_data, of_step, of_word}
use Rattle.sim_images.proofs.DataStay.{same_sort, same_data}
use Rattle.sim_images.proofs.RightPlaces.{decoded_whole, no_both, no_data, place_is, word_width, beside}
use Rattle.sim_answers.specs.Forms.{IsFormOf, RelocsAreRight}
use Rattle.sim_answers.proofs.Accepted.{not_wrong}
use Rattle.sim_answers.proofs.Pairs.{zip_left}
use Rattle.sim_answers.proofs.PointPlaces.{point_word}
use Rattle.sim_answers.proofs.SectionsStay.{sections_stay}
use Rattle.sim_answers.proofs.Placed.{reloc_at_is, true_at_last, word_no_jump, data_kind}
use Rattle.sim_answers.proofs.DataAnswered.{word_in_data, apart, code_of_point, word_listed, code_of_word, no_data_there}
use Rattle.sim_answers.proofs.RelocsStand.{of_step_is, step_number, of_word_kind, code_section, each_answers, each_long}
use Rattle.sim_answers.proofs.CodeWords.{HasWord, pooled, island}
use Rattle.sim_answers.proofs.CodeRuns.{unit_start, data_word_there}

-- of two in one section the first stands before the other
before_offset : (a b : Reloc) → is_below a b ≡ true → a.section ≡ b.section → a.offset < b.offset
before_offset a b below same = grind (arith, nat_tests)

-- a right relocation before a word of data ends before it
before_word : (o : ObjectParts) (w k : ℕ) (r : Reloc) → IsDataWord o r.section w → IsRight o k r → r.offset < w → r.offset + place_width r.kind ≤ w
before_word o w k r word right low = go right.place
  where
    go : IsPlace o r → r.offset + place_width r.kind ≤ w
    go (in_data s there datum is) =
        let same : word.range.section ≡ s = same_Some word.range.section s (sym word.range.is_there ∙ there) in
        absurd (no_data s (subst (λ (t : Section). is_code t ≡ true) same word.range.in_code) datum)
    go (in_code is at) =
        let four = word_width r.kind is in
        let a = at.aligned in
        let b = word.aligned in
        omega (arith, a, b, low, four)
    go (on_instr end i at is fits) =
        let d = decoded_whole (bytes_of o r.section) end r.offset 0 i is in
        let width = place_is r.kind (bytes_of o r.section) r.offset i d.1 fits in
        let whole = d.0 in
        let b = start_behind (bytes_of o r.section) at.start end r.offset at.is_start in
        let c = word.behind_start in
        let e = word.before_end in
        elim (cases_lt w (r.offset + place_width r.kind)) [
          | inl within ↦ absurd (no_both o r.section at.start end word.start word.end w at.range word.range (omega (arith, b, low)) (omega (arith, within, whole, width)) c (omega (arith, e)))
          | inr past ↦ past
        ]

module _ (o h : ObjectParts) (f : FlowParts) (p : UnitPlaces) (carriers : List (List Carrier)) (is : IsFormOf o h f p carriers) where
  pub word_there : (w : PoolWord) (y : ℕ) → IsWordOf f p w y → HasWord f p w.section y
  word_there w y (in_pool _ c) = pooled w y c refl
  word_there w y (in_island x u n _ c loads at i) = island x u y c (sym (point_word o f is.flow x (zip_left f.points p.units (x, u) c) n w loads at)) i

  place : (q : Reloc) → IsNewReloc o f p carriers is.form.lists q → IsPlace h q
  place q (of_data k r s at other stands) =
      let t = (sections_stay o h f p carriers is).kept r.section s at in
      let datum = true_at_last (is_data s) (λ wrong. not_wrong o f is.flow k r stands.there (λ right. wrong (data_kind o r s at other right.place).0)) in
      in_data t.0 (ap (slice_get h.sections) stands.section ∙ t.1) (same_data s t.0 t.2 ∙ datum) (ap is_word stands.kind ∙ word_in_data o h f p carriers is k r s stands.there at other)
  place q (of_step k r x c carrier point stands) =
      let s = of_step_is o h f p carriers is k r x c q carrier point stands in
      let code = code_of_point o h f p carriers is x s.listed in
      let t = code_section o h f p carriers is x.section code in
      let e = unit_start o h f p carriers is x.section code t.0 t.1 t.2 x s.unit c.at s.placed refl s.step in
      let section : q.section ≡ x.section = stands.section ∙ s.section in
      let start : IsCodeStart h q.section (bytes_of h q.section) q.offset e.0 =
      subst (λ (j : ℕ). IsCodeStart h j (bytes_of h j) q.offset e.0) (sym section) (subst (λ (a : ℕ). IsCodeStart h x.section (bytes_of h x.section) a e.0) (sym stands.offset) e.1) in
      let means : instr_at (bytes_of h x.section) e.0 c.at 0 ≡ Ok c.instr =
      ap (λ (b : Bool). cond b (decoded_at (bytes_of h x.section) c.at 0) (Err Unknown)) (le-leb (c.at + length_at (bytes_of h x.section) c.at) e.0 e.2) ∙ s.carried.there in
      let fits : fits_kind q.kind (is_long (half_at (bytes_of h x.section) c.at)) c.instr ≡ true =
      ap (λ (b : Bool). fits_kind q.kind b c.instr) s.carried.long ∙ (ap (λ (k : _). fits_kind k true c.instr) stands.kind ∙ s.carried.fits) in
      on_instr e.0 c.instr start (ap (λ (j : ℕ). instr_at (bytes_of h j) e.0 q.offset 0) section ∙ (ap (λ (a : ℕ). instr_at (bytes_of h x.section) e.0 a 0) stands.offset ∙ means))
      (ap (λ (j : ℕ). fits_kind q.kind (is_long (half_at (bytes_of h j) q.offset)) c.instr) section ∙ (ap (λ (a : ℕ). fits_kind q.kind (is_long (half_at (bytes_of h x.section) a)) c.instr) stands.offset ∙ fits))
  place q (of_word k r w y word point stands) =
      let listed = word_listed o h f p carriers is w y word in
      let code = code_of_word o h f p carriers is w listed in
      let t = code_section o h f p carriers is w.section code in
      let at = reloc_at_is o w.section w.offset k r (sym ((is.flow.words w).0 listed).reloc ∙ point) stands.there in
      let here = data_word_there o h f p carriers is w.section code t.0 t.1 t.2 y (word_there w y word) in
      in_code (ap is_word stands.kind ∙ of_word_kind o h f p carriers is k r w listed point stands.there)
      (subst (λ (j : ℕ). IsDataWord h j q.offset) (sym (stands.section ∙ at.0)) (subst (λ (a : ℕ). IsDataWord h w.section a) (sym stands.offset) here))

  new_is : (n : ℕ) (q : Reloc) → slice_get h.relocs n ≡ Some q → IsNewReloc o f p carriers is.form.lists q
  new_is n q there = (is.form.tables.relocs.exact q).0 (contains_at h.relocs n q there)

  straight : (q : Reloc) → IsNewReloc o f p carriers is.form.lists q → is_jump q.kind ≡ true → addend (bytes_of h q.section) q ≡ 2 ^ 32 - 4
  straight q (of_data k r s at other stands) jump =
      absurd (both_ways (is_jump q.kind) (ap is_jump stands.kind ∙ word_no_jump r.kind (word_in_data o h f p carriers is k r s stands.there at other)) jump)
  straight q (of_word k r w y word point stands) jump =
      absurd (both_ways (is_jump q.kind) (ap is_jump stands.kind ∙ word_no_jump r.kind (of_word_kind o h f p carriers is k r w (word_listed o h f p carriers is w y word) point stands.there)) jump)
  straight q (of_step k r x c carrier point stands) jump =
      let s = of_step_is o h f p carriers is k r x c q carrier point stands in
      let jumps : is_jump r.kind ≡ true = sym s.carried.sense ∙ (sym (ap is_jump stands.kind) ∙ jump) in
      step_number o h f p carriers is k r x c q carrier point stands ∙ (ap (λ (b : Bool). cond b (zero_addend r) (new_addend o r)) jumps ∙ ap (λ (b : Bool). cond b (2 ^ 32 - 4) 0) jumps)

  -- what stands in data stands for what is in data
  record IsOfData (q : Reloc) : Type 0 where
    number : ℕ
    reloc : Reloc
    there : slice_get o.relocs number ≡ Some reloc
    section : q.section ≡ reloc.section
    offset : q.offset ≡ reloc.offset
    word : is_word q.kind ≡ true

  data_is : (q : Reloc) (s : Section) (j : ℕ) → slice_get o.sections j ≡ Some s → is_code s ≡ false → q.section ≡ j → IsNewReloc o f p carriers is.form.lists q → IsOfData q
  data_is q s j at other e new =
      let t = (sections_stay o h f p carriers is).kept j s at in
      let there : slice_get h.sections q.section ≡ Some t.0 = ap (slice_get h.sections) e ∙ t.1 in
      let none : is_code t.0 ≡ false = same_sort s t.0 t.2 ∙ other in
      go new t.0 there none
    where
      go : IsNewReloc o f p carriers is.form.lists q → (t : Section) → slice_get h.sections q.section ≡ Some t → is_code t ≡ false → IsOfData q
      go (of_data k r s sec plain stands) t there none = record {
        number = k;
        reloc = r;
        there = stands.there;
        section = stands.section;
        offset = stands.offset;
        word = ap is_word stands.kind ∙ word_in_data o h f p carriers is k r s stands.there sec plain;
      }
      go (of_step k r x c carrier point stands) t there none =
          let s = of_step_is o h f p carriers is k r x c q carrier point stands in
          absurd (no_data_there o h f p carriers is x.section q.section t (code_of_point o h f p carriers is x s.listed) (stands.section ∙ s.section) there none)
      go (of_word k r w y word point stands) t there none =
          let listed = word_listed o h f p carriers is w y word in
          let at = reloc_at_is o w.section w.offset k r (sym ((is.flow.words w).0 listed).reloc ∙ point) stands.there in
          absurd (no_data_there o h f p carriers is w.section q.section t (code_of_word o h f p carriers is w listed) (stands.section ∙ at.0) there none)

  data_apart : (q other : Reloc) (s : Section) → IsOfData q → IsOfData other → slice_get o.sections q.section ≡ Some s → is_code s ≡ false → other.section ≡ q.section → other.offset < q.offset → other.offset + place_width other.kind ≤ q.offset
  data_apart q other s a b at plain same low =
      let width = word_width other.kind b.word in
      let x = a.offset in
      let y = b.offset in
      let sec_a : slice_get o.sections a.reloc.section ≡ Some s = ap (slice_get o.sections) (sym a.section) ∙ at in
      let both : b.reloc.section ≡ a.reloc.section = sym b.section ∙ (same ∙ a.section) in
      let sec_b : slice_get o.sections b.reloc.section ≡ Some s = ap (slice_get o.sections) both ∙ sec_a in
      elim (cases_lt q.offset (other.offset + 4)) [
        | inr m ↦ omega (arith, m, width)
        | inl l ↦ absurd (elim (cases_order b.number a.number) [
          | inl e ↦ (let one = ap (λ (z : Reloc). z.offset) (same_Some b.reloc a.reloc (sym b.there ∙ (ap (slice_get o.relocs) e ∙ a.there))) in omega (arith, one, x, y, low))
          | inr w ↦ elim w [
            | inl under ↦ apart o h f p carriers is a.number b.number a.reloc b.reloc s a.there b.there sec_b plain both under (omega (arith, l, x, y))
            | inr over ↦ apart o h f p carriers is b.number a.number b.reloc a.reloc s b.there a.there sec_a plain (sym both) over (omega (arith, low, x, y))
          ]
        ])
      ]

  alone : (n i : ℕ) (q other : Reloc) → slice_get h.relocs n ≡ Some q → slice_get h.relocs i ≡ Some other → IsRight h i other → other.section ≡ q.section → other.offset < q.offset → IsPlace h q → other.offset + place_width other.kind ≤ q.offset
  alone n i q other at there right same low (in_code word here) =
      before_word h q.offset i other (subst (λ (j : ℕ). IsDataWord h j q.offset) (sym same) here) right low
  alone n i q other at there right same low (on_instr end k start means fits) =
      let start_here : IsCodeStart h other.section (bytes_of h other.section) q.offset end = subst (λ (j : ℕ). IsCodeStart h j (bytes_of h j) q.offset end) (sym same) start in
      let whole = (decoded_whole (bytes_of h q.section) end q.offset 0 k means).0 in
      let whole_here : q.offset + length_at (bytes_of h other.section) q.offset ≤ end = subst (λ (j : ℕ). q.offset + length_at (bytes_of h j) q.offset ≤ end) (sym same) whole in
      elim (beside h q.offset end i other start_here whole_here right (λ e. omega (arith, e, low))) [ inl a ↦ a | inr a ↦ absurd (omega (arith, a, low)) ]
  alone n i q other at there right same low (in_data t sec datum word) =
      let code : is_code t ≡ false = not-true (is_code t) (and_parts (is_alloc t.flags) (not (is_code t)) datum).1 in
      elim (cases_lt q.section (length o.sections)) [
        | inl l ↦
            let s = element_at o.sections q.section l in
            let u = (sections_stay o h f p carriers is).kept q.section s.0 s.1 in
            let plain : is_code s.0 ≡ false = sym (same_sort s.0 u.0 u.2) ∙ (ap is_code (same_Some u.0 t (sym u.1 ∙ sec)) ∙ code) in
            data_apart q other s.0 (data_is q s.0 q.section s.1 plain refl (new_is n q at)) (data_is other s.0 q.section s.1 plain same (new_is i other there)) s.1 plain same low
        | inr past ↦
            let none = (sections_stay o h f p carriers is).more q.section t past sec in
            absurd (both_ways (is_alloc t.flags) none (and_parts (is_alloc t.flags) (not (is_code t)) datum).0)
      ]

  right_at : (n : ℕ) (q : Reloc) → ((i : ℕ) (other : Reloc) → i < n → slice_get h.relocs i ≡ Some other → IsRight h i other) → slice_get h.relocs n ≡ Some q → IsRight h n q
  right_at n q before at = record {
    is_there = at;
    place = place q (new_is n q at);
    alone = λ i other l there same.
        alone n i q other at there (before i other l there) same (before_offset other q (rise_at h.relocs (relocs_rise h is.hard) i n other q l there at) same) (place q (new_is n q at));
    straight = λ far. straight q (new_is n q at) (and_parts (is_jump q.kind) (is_undefined (slice_get h.symbols q.symbol)) far).0;
  }

  all_right : (n i : ℕ) (q : Reloc) → i < n → slice_get h.relocs i ≡ Some q → IsRight h i q
  all_right zero i q l at = absurd (omega (arith, l))
  all_right (suc n) i q l at =
      elim (cases_lt i n) [
        | inl low ↦ all_right n i q low at
        | inr m ↦ right_at i q (λ k other under there. all_right n k other (omega (arith, under, l)) there) at
      ]

pub relocs_are_right : RelocsAreRight
relocs_are_right o h f p carriers is = record {
  right = λ n q there. all_right o h f p carriers is (n + 1) n q (omega arith) there;
  each = λ n q there. each_answers o h f p carriers is q (new_is o h f p carriers is n q there);
  long = λ n q there. each_long o h f p carriers is q (new_is o h f p carriers is n q there);
}
