-- What a flow of an object gives: relocations that can be read, points and words in order, and relocations by their places.
use Rattle.std.proofs.Common.{◌≡◌, ◌<◌, ◌≤◌, ℕ, true, length, get_or, refl, sym, ap, ◌∙◌, subst, inl, inr, arith, Option, Some, None}
use Rattle.std.specs.Prelude.{slice_get, Contains, IsTrue, ◌==◌, not}
use Rattle.std.proofs.lemmas.Bool.{and_parts, eqb-true, cases_Bool, cases_lt, true≢false}
use Rattle.std.proofs.lemmas.List.Quantifiers.{position-Some}
use Rattle.std.proofs.lemmas.Option.{same_Some, slice_get_within, slice_get-get_or}
use Rattle.elf_model.specs.declared.objects.Section.{Section}
use Rattle.elf_model.specs.declared.objects.Reloc.{Reloc}
use Rattle.elf_model.specs.declared.refusals.Refusal.TheVariants as refusal
use Rattle.elf_model.specs.Objects.{ObjectParts, is_object, is_code, is_within}
use Rattle.elf_model.proofs.Elements.{element_at, contains_at, place_of}
use Rattle.reloc_places.proofs.StartFacts.{any_limit}
use Rattle.reloc_places.specs.Starts.{bytes_of}
use Rattle.reloc_places.specs.Relocations.{IsRight, reloc_at}
use Rattle.reloc_places.proofs.RelocPlaces.{HasNumber, right_number}
use Rattle.reloc_places.proofs.RelocTable.{stands_there}
use Rattle.flow_recover.specs.declared.flows.Point.{Point}
use Rattle.flow_recover.specs.declared.flows.PoolWord.{PoolWord}
use Rattle.flow_recover.specs.Flows.{FlowParts}
use Rattle.flow_recover.specs.FlowFaults.{FlowFault as fault}
use Rattle.flow_recover.specs.WholeFlows.{IsFlow}
use Rattle.flow_recover.proofs.RightRelocs.{reloc_there}
use Rattle.hardened_form.specs.Turns.{Stays}
use Rattle.hardened_form.specs.Turns.{Stays as stays}
use Rattle.emit_object.specs.Readable.{AreReadable}
use Rattle.emit_object.specs.Lasting.{has_data, Lasts}
use Rattle.emit_object.specs.Lasting.{LastsAt as lasts}

le_stable : (m n : ℕ) → (n < m → ⊥) → m ≤ n
le_stable m n f = elim (cases_lt n m) [ inl lt ↦ absurd (f lt) | inr le ↦ le ]

module _ (o : ObjectParts) (f : FlowParts) (sound : is_object o ≡ true) (flow : IsFlow o f) where
  -- no relocation is wrong, so what follows from a right one can't fail
  not_wrong : (k : ℕ) (r : Reloc) → slice_get o.relocs k ≡ Some r → (IsRight o k r → ⊥) → ⊥
  not_wrong k r at wrong = flow.no_fault refusal.RelocKind r.section r.offset (fault.relocation k r at wrong refl refl refl)

  pub readable : IsTrue (is_within o any_limit) → AreReadable o
  readable within k r at =
      let number : IsRight o k r → HasNumber (bytes_of o r.section) r = λ right. right_number o r (bytes_of o r.section) sound within (k, right) refl in
      record {
        half = le_stable _ _ (λ lt. not_wrong k r at (λ right. let n = number right in let h = n.half in absurd (omega arith)));
        full = λ long. le_stable _ _ (λ lt. not_wrong k r at (λ right. let n = number right in let h = n.full long in absurd (omega arith)));
        word = λ is. le_stable _ _ (λ lt. not_wrong k r at (λ right. let n = number right in let h = n.word is in absurd (omega arith)));
      }

  -- the relocation of a number at a place stands there
  pub stands : (j x k : ℕ) (r : Reloc) → reloc_at o j x ≡ Some k → slice_get o.relocs k ≡ Some r → (r.section ≡ j) × (r.offset ≡ x)
  stands j x k r e at =
      let found = position-Some (stands_there j x) o.relocs k r e in
      let same : get_or o.relocs k r ≡ r = same_Some (get_or o.relocs k r) r (sym (slice_get-get_or o.relocs k r found.0) ∙ at) in
      let both = and_parts (r.section == j) (r.offset == x) (subst (λ (q : Reloc). stands_there j x q ≡ true) same found.1) in
      (eqb-true r.section j both.0, eqb-true r.offset x both.1)

  -- a point's relocation is the one at its place
  pub of_point : (q : ℕ) (x : Point) → slice_get f.points q ≡ Some x → x.reloc ≡ reloc_at o x.section x.offset
  of_point q x at =
      let low : q < length flow.nodes = omega (arith, slice_get_within f.points q x at, flow.count) in
      let n = element_at flow.nodes q low in
      let is = flow.points q n.0 x n.1 at in
      is.reloc ∙ ap (λ (j : ℕ). reloc_at o j n.0.offset) (sym is.section) ∙ ap (λ (y : ℕ). reloc_at o x.section y) (sym is.offset)

  pub of_word : (w : PoolWord) → Contains f.words w → w.reloc ≡ reloc_at o w.section w.offset
  of_word w here = let is = (flow.words w).0 here in is.reloc

  module _ (k : ℕ) (r : Reloc) (at : slice_get o.relocs k ≡ Some r) where
    pub lasting_stays : Lasts o f r → Stays o f k r
    lasting_stays (lasts.of_data d) = go (slice_get o.sections r.section) refl d
      where
        go : (s : Option Section) → slice_get o.sections r.section ≡ s → has_data s ≡ true → Stays o f k r
        go None e d = absurd (true≢false (sym d))
        go (Some s) e d = elim (cases_Bool (is_code s)) [
          | inl c ↦ absurd (true≢false (sym d ∙ ap not c))
          | inr n ↦ stays.of_data s e n
        ]
    lasting_stays (lasts.of_point q p) =
        let reloc = of_point q p.point p.there ∙ ap (λ (j : ℕ). reloc_at o j p.point.offset) p.section ∙ ap (λ (y : ℕ). reloc_at o r.section y) p.offset ∙ reloc_there o k r sound at in
        stays.of_point p.point (contains_at f.points q p.point p.there) reloc
    lasting_stays (lasts.of_word w) =
        let reloc = of_word w.word w.there ∙ ap (λ (j : ℕ). reloc_at o j w.word.offset) w.section ∙ ap (λ (y : ℕ). reloc_at o r.section y) w.offset ∙ reloc_there o k r sound at in
        stays.of_word w.word w.there reloc

    pub stays_lasting : Stays o f k r → Lasts o f r
    stays_lasting (stays.of_data s e n) = lasts.of_data (ap has_data e ∙ ap not n)
    stays_lasting (stays.of_point x here e) =
        let q = place_of f.points x here in
        let place = stands x.section x.offset k r (sym (of_point q.0 x q.1) ∙ e) at in
        lasts.of_point q.0 (record { point = x; there = q.1; section = sym place.0; offset = sym place.1 })
    stays_lasting (stays.of_word w here e) =
        let place = stands w.section w.offset k r (sym (of_word w here) ∙ e) at in
        lasts.of_word (record { word = w; there = here; section = sym place.0; offset = sym place.1 })
