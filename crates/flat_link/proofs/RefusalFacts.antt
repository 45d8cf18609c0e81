-- The first of the causes for which objects are not linked.
use Rattle.std.proofs.Common.{◌≡◌, ◌≤◌, ◌<◌, ℕ, true, false, refl, sym, ap, ◌∙◌, subst, inl, inr, ◌⊎◌, arith, List, length, Option, Some, None}
use Rattle.std.specs.Prelude.{Contains, slice_get, find, is_none, not, nat_lt, ◌==◌, ◌&&◌, ◌||◌}
use Rattle.std.proofs.lemmas.Bool.{or_cases, and_parts, ltb-true, eqb-true, cases_lt, cases_order, true≢false, not-true}
use Rattle.std.proofs.lemmas.Bool.Decides.{nat_tests}
use Rattle.std.proofs.lemmas.Option.{none-some, same_Some}
use Rattle.elf_model.specs.declared.objects.Symbol.{Symbol}
use Rattle.elf_model.specs.declared.objects.Reloc.{Reloc}
use Rattle.elf_model.specs.declared.refusals.Refusal.{Refusal}
use Rattle.elf_model.specs.declared.refusals.Refusal.TheVariants.{RelocKind, Undefined, Duplicate, DoesNotFit, RelocRange}
use Rattle.elf_model.specs.declared.refusals.Spot.{Spot}
use Rattle.elf_model.specs.declared.refusals.Deny.{Deny}
use Rattle.elf_model.specs.declared.refusals.Deny.TheVariants.{NoMemory, Refused}
use Rattle.elf_model.specs.Refusals.{number_of}
use Rattle.elf_model.specs.Objects.{ObjectParts, is_object, is_placed, is_kind}
use Rattle.elf_model.proofs.Elements.{contains_filter, all_at, found, finds, element_at}
use Rattle.code_ranges.specs.Spots.{spot_in}
use Rattle.code_ranges.proofs.ObjectFacts.{relocs_rise, reloc_sound}
use Rattle.reloc_places.proofs.RelocOrder.{rise_at}
use Rattle.thumb_table.specs.declared.placements.Placement.{Placement}
use Rattle.thumb_table.specs.Layouts.{all_placed}
use Rattle.thumb_table.specs.Names.{Defined, all_symbols}
use Rattle.thumb_table.specs.Links.{Link, IsLink, is_in_range}
use Rattle.thumb_table.specs.LinkFaults.{IsReloc, NamesNothing, IsSecond, home_section, LinkFault, refused_before, IsLinkRefusal, IsLinkDenial}
use Rattle.thumb_table.specs.LinkFaults.LinkFault.{misplaced, undefined, defined_twice, long_code, long_data, high_end, out_of_range}
use Rattle.flat_link.specs.declared.names.Binding.TheVariants.{Global}
use Rattle.flat_link.specs.Known.{is_bound, IsLowest, IsNotBehind}
use Rattle.flat_link.specs.Layout.{AreObjects, IsTooLong, IsFitDenial}
use Rattle.flat_link.specs.Misplaced.{IsMisplaced, IsFirstMisplaced}
use Rattle.flat_link.specs.Sites.{Sited, all_sited, meaning, meaning_by, all_links}
use Rattle.flat_link.proofs.ListFacts.{found_first}
use Rattle.flat_link.proofs.SiteFacts.{sited_at, sited_is, sited_there, sited_order, SitedBefore, link_is, link_there, links_order, LinkBefore}

-- What is numbered higher comes later, and of one number what stands in a later file, there in a section that is higher, and
-- there at an offset that is no lower.
later : (n m f g j i x y : ℕ) → m ≤ n → (n ≡ m → (g < f) ⊎ ((g ≡ f) × ((i < j) ⊎ ((i ≡ j) × (y ≤ x))))) → (nat_lt n m || ((n == m) && (nat_lt f g || ((f == g) && (nat_lt j i || ((j == i) && nat_lt x y)))))) ≡ false
later n m f g j i x y high low = grind (arith, nat_tests)

abbrev NotLater : ℕ → ℕ → ℕ → Spot → Type 0
NotLater file section offset s = (file < s.file) ⊎ ((file ≡ s.file) × ((section < s.section) ⊎ ((section ≡ s.section) × (offset ≤ s.offset))))

not_before : (r : Refusal) (file section offset : ℕ) (s : Spot) → number_of r ≤ number_of s.refusal → (number_of s.refusal ≡ number_of r → NotLater file section offset s) → refused_before s (spot_in r file section offset) ≡ false
not_before r file section offset s high low = later (number_of s.refusal) (number_of r) s.file file s.section section s.offset offset high low

-- where sections are not lower
no_lower : (file section : ℕ) (s : Spot) → (file < s.file) ⊎ ((file ≡ s.file) × (section ≤ s.section)) → NotLater file section 0 s
no_lower file section s (inl l) = inl l
no_lower file section s (inr h) = let l = h.1 in elim (lower section s.section l) [ inl a ↦ inr (h.0, inl a) | inr b ↦ inr (h.0, inr (b, omega arith)) ]
  where
    lower : (a b : ℕ) → a ≤ b → (a < b) ⊎ (a ≡ b)
    lower a b l = elim (cases_lt a b) [ inl x ↦ inl x | inr y ↦ inr (omega arith) ]

-- of two relocations of an object, the later one stands above
record StandsAbove (q r : Reloc) : Type 0 where
  pub place : (q.section < r.section) ⊎ ((q.section ≡ r.section) × (q.offset < r.offset))

above : (o : ObjectParts) (i k : ℕ) (q r : Reloc) → is_object o ≡ true → i < k → slice_get o.relocs i ≡ Some q → slice_get o.relocs k ≡ Some r → StandsAbove q r
above o i k q r sound less a b =
    let below = rise_at o.relocs (relocs_rise o sound) i k q r less a b in
    record {
      place = elim (or_cases (nat_lt q.section r.section) ((q.section == r.section) && nat_lt q.offset r.offset) below) [
        | inl x ↦ inl (ltb-true q.section r.section x)
        | inr x ↦
            let p = and_parts (q.section == r.section) (nat_lt q.offset r.offset) x in
            inr (eqb-true q.section r.section p.0, ltb-true q.offset r.offset p.1)
      ];
    }

-- a second definition is one of the symbols
pub second_known : (objects : List ObjectParts) (d : Defined) → IsSecond objects d → Contains (all_symbols 0 objects) d
second_known objects d h = (contains_filter (λ (q : Defined). is_bound Global q.symbol) (all_symbols 0 objects) d h.is).0

-- the section of an earlier relocation is not higher
sections_rise : (objects : List ObjectParts) → AreObjects objects → (i k j h : ℕ) (o q : ObjectParts) (r s : Reloc) → IsReloc objects i k o r → IsReloc objects j h q s → i ≡ j → k < h → StandsAbove r s
sections_rise objects sound i k j h o q r s a b same less =
    let one : o ≡ q = same_Some o q (sym a.object ∙ ap (slice_get objects) same ∙ b.object) in
    above q k h r s (all_at is_object objects j q sound b.object) less (ap (λ (z : ObjectParts). slice_get z.relocs k) (sym one) ∙ a.reloc) b.reloc

-- the symbol of a relocation
its_symbol : (objects : List ObjectParts) → AreObjects objects → (i k : ℕ) (o : ObjectParts) (r : Reloc) → IsReloc objects i k o r → (y : Symbol) × (slice_get o.symbols r.symbol ≡ Some y)
its_symbol objects sound i k o r is =
    let good = reloc_sound o k r (all_at is_object objects i o sound is.object) is.reloc in
    element_at o.symbols r.symbol (ltb-true r.symbol (length o.symbols) (and_parts (is_placed r (slice_get o.sections r.section) && is_kind r.kind) (nat_lt r.symbol (length o.symbols)) good).1)

module _ (objects : List ObjectParts) (at : Placement) (sound : AreObjects objects) where
  -- nothing comes before the first relocation that is not right
  misplaced_first : (spot : Spot) (m : IsMisplaced objects spot) → (s : Spot) → LinkFault objects at s → refused_before s (spot_in RelocKind m.file m.reloc.section m.reloc.offset) ≡ false
  misplaced_first spot m _ (misplaced i k o r is wrong) =
      not_before RelocKind m.file m.reloc.section m.reloc.offset (spot_in RelocKind i r.section r.offset) (omega arith) (λ _. go)
    where
      go : (m.file < i) ⊎ ((m.file ≡ i) × ((m.reloc.section < r.section) ⊎ ((m.reloc.section ≡ r.section) × (m.reloc.offset ≤ r.offset))))
      go = elim (cases_order m.file i) [
        | inl e ↦ elim (cases_order m.number k) [
          | inl f ↦
              let one : m.object ≡ o = same_Some m.object o (sym m.there.object ∙ ap (slice_get objects) e ∙ is.object) in
              let two : m.reloc ≡ r = same_Some m.reloc r (sym m.there.reloc ∙ ap (λ (z : ObjectParts). slice_get z.relocs m.number) one ∙ ap (slice_get o.relocs) f ∙ is.reloc) in
              let x : m.reloc.offset ≡ r.offset = ap (λ (z : Reloc). z.offset) two in
              inr (e, inr (ap (λ (z : Reloc). z.section) two, omega arith))
          | inr w ↦ elim w [
            | inl l ↦
                let p = (sections_rise objects sound m.file m.number i k m.object o m.reloc r m.there is e l).place in
                inr (e, elim p [ inl x ↦ inl x | inr x ↦ let y = x.1 in inr (x.0, omega arith) ])
            | inr l ↦ absurd (wrong (m.before i k o r is (inr (sym e, l))))
          ]
        ]
        | inr w ↦ elim w [
          | inl l ↦ inl l
          | inr l ↦ absurd (wrong (m.before i k o r is (inl l)))
        ]
      ]
  misplaced_first spot m _ (undefined i k r names first) = not_before RelocKind m.file m.reloc.section m.reloc.offset (spot_in (Undefined r.symbol) i r.section 0) (omega arith) (λ e. absurd (omega arith))
  misplaced_first spot m _ (defined_twice d second first) = not_before RelocKind m.file m.reloc.section m.reloc.offset (spot_in (Duplicate d.index) d.object (home_section d.symbol.home) 0) (omega arith) (λ e. absurd (omega arith))
  misplaced_first spot m _ (long_code x) = not_before RelocKind m.file m.reloc.section m.reloc.offset (spot_in DoesNotFit 0 0 0) (omega arith) (λ e. absurd (omega arith))
  misplaced_first spot m _ (long_data x) = not_before RelocKind m.file m.reloc.section m.reloc.offset (spot_in DoesNotFit 0 0 0) (omega arith) (λ e. absurd (omega arith))
  misplaced_first spot m _ (high_end x) = not_before RelocKind m.file m.reloc.section m.reloc.offset (spot_in DoesNotFit 0 0 0) (omega arith) (λ e. absurd (omega arith))
  misplaced_first spot m _ (out_of_range l is far) = not_before RelocKind m.file m.reloc.section m.reloc.offset (spot_in RelocRange l.file l.reloc.section l.reloc.offset) (omega arith) (λ e. absurd (omega arith))

  pub misplaced_is : (spot : Spot) → IsMisplaced objects spot → IsLinkRefusal objects at spot
  misplaced_is spot m =
      subst (IsLinkRefusal objects at) (sym m.is)
      (record { fault = misplaced m.file m.number m.object m.reloc m.there m.wrong; first = misplaced_first spot m })

  module _ (right : IsFirstMisplaced objects None) where
    -- a relocation whose symbol means nothing
    nothing_at : (i k : ℕ) (r : Reloc) (n : NamesNothing objects i k r) → meaning objects (sited_at i n.object k r) ≡ None
    nothing_at i k r n = ap (meaning_by objects i r.symbol) n.names ∙ n.nothing

    tells_none : (s : Sited) → is_none (meaning objects s) ≡ true → meaning objects s ≡ None
    tells_none s e = go (meaning objects s) e
      where
        go : (o : Option Defined) → is_none o ≡ true → o ≡ None
        go None e = refl
        go (Some d) e = absurd (true≢false (sym e))

    module _ (f : Sited) (is : find (λ (s : Sited). is_none (meaning objects s)) (all_sited 0 objects) ≡ Some f) where
      its_reloc : IsReloc objects f.file f.number f.object f.reloc
      its_reloc = sited_is objects f (found (λ (s : Sited). is_none (meaning objects s)) (all_sited 0 objects) f is).0

      earlier : (i k : ℕ) (r : Reloc) (n : NamesNothing objects i k r) → (f ≡ sited_at i n.object k r) ⊎ SitedBefore f (sited_at i n.object k r)
      earlier i k r n =
          found_first SitedBefore (λ (s : Sited). is_none (meaning objects s)) (all_sited 0 objects) f (sited_at i n.object k r) (sited_order objects) is
          (sited_there objects i k n.object r n.there) (ap is_none (nothing_at i k r n))

      names_nothing : (y : Symbol) → slice_get f.object.symbols f.reloc.symbol ≡ Some y → NamesNothing objects f.file f.number f.reloc
      names_nothing y at =
          let e = tells_none f (found (λ (s : Sited). is_none (meaning objects s)) (all_sited 0 objects) f is).1 in
          record { object = f.object; symbol = y; there = its_reloc; names = at; nothing = sym (ap (meaning_by objects f.file f.reloc.symbol) at) ∙ e }

      undefined_first : (s : Spot) → LinkFault objects at s → refused_before s (spot_in (Undefined f.reloc.symbol) f.file f.reloc.section 0) ≡ false
      undefined_first _ (misplaced i k o r there wrong) = absurd (wrong (right i k o r there))
      undefined_first _ (undefined i k r n first) =
          not_before (Undefined f.reloc.symbol) f.file f.reloc.section 0 (spot_in (Undefined r.symbol) i r.section 0) (omega arith) (λ _. no_lower f.file f.reloc.section (spot_in (Undefined r.symbol) i r.section 0) (go (earlier i k r n)))
        where
          go : (f ≡ sited_at i n.object k r) ⊎ SitedBefore f (sited_at i n.object k r) → (f.file < i) ⊎ ((f.file ≡ i) × (f.reloc.section ≤ r.section))
          go (inl e) = let x : f.reloc.section ≡ r.section = ap (λ (s : Sited). s.reloc.section) e in inr (ap (λ (s : Sited). s.file) e, omega arith)
          go (inr w) = elim w [
            | inl l ↦ inl l
            | inr h ↦
                let p = (sections_rise objects sound f.file f.number i k f.object n.object f.reloc r its_reloc n.there h.0 h.1).place in
                inr (h.0, elim p [ inl x ↦ omega arith | inr x ↦ let y = x.0 in omega arith ])
          ]
      undefined_first _ (defined_twice d second first) = not_before (Undefined f.reloc.symbol) f.file f.reloc.section 0 (spot_in (Duplicate d.index) d.object (home_section d.symbol.home) 0) (omega arith) (λ e. absurd (omega arith))
      undefined_first _ (long_code x) = not_before (Undefined f.reloc.symbol) f.file f.reloc.section 0 (spot_in DoesNotFit 0 0 0) (omega arith) (λ e. absurd (omega arith))
      undefined_first _ (long_data x) = not_before (Undefined f.reloc.symbol) f.file f.reloc.section 0 (spot_in DoesNotFit 0 0 0) (omega arith) (λ e. absurd (omega arith))
      undefined_first _ (high_end x) = not_before (Undefined f.reloc.symbol) f.file f.reloc.section 0 (spot_in DoesNotFit 0 0 0) (omega arith) (λ e. absurd (omega arith))
      undefined_first _ (out_of_range l there far) = not_before (Undefined f.reloc.symbol) f.file f.reloc.section 0 (spot_in RelocRange l.file l.reloc.section l.reloc.offset) (omega arith) (λ e. absurd (omega arith))

      pub undefined_is : IsLinkRefusal objects at (spot_in (Undefined f.reloc.symbol) f.file f.reloc.section 0)
      undefined_is =
          let y = its_symbol objects sound f.file f.number f.object f.reloc its_reloc in
          record {
            fault = undefined f.file f.number f.reloc (names_nothing y.0 y.1) (λ h q n same. go h q n (earlier f.file h q n));
            first = undefined_first;
          }
        where
          go : (h : ℕ) (q : Reloc) (n : NamesNothing objects f.file h q) → (f ≡ sited_at f.file n.object h q) ⊎ SitedBefore f (sited_at f.file n.object h q) → f.number ≤ h
          go h q n (inl e) = let x : f.number ≡ h = ap (λ (s : Sited). s.number) e in omega arith
          go h q n (inr w) = elim w [ inl l ↦ absurd (omega arith) | inr l ↦ let x = l.1 in omega arith ]

    -- where none is found, each symbol means something
    pub all_named : find (λ (s : Sited). is_none (meaning objects s)) (all_sited 0 objects) ≡ None → (i k : ℕ) (r : Reloc) → NamesNothing objects i k r → ⊥
    all_named none i k r n =
        let f = finds (λ (s : Sited). is_none (meaning objects s)) (all_sited 0 objects) (sited_at i n.object k r) (sited_there objects i k n.object r n.there) (ap is_none (nothing_at i k r n)) in
        none-some f.0 (sym none ∙ f.1)

    module _ (named : (i k : ℕ) (r : Reloc) → NamesNothing objects i k r → ⊥) where
      -- nothing comes before the lowest second definition
      second_first : (d : Defined) → IsLowest objects (all_symbols 0 objects) d → (s : Spot) → LinkFault objects at s → refused_before s (spot_in (Duplicate d.index) d.object (home_section d.symbol.home) 0) ≡ false
      second_first d low _ (misplaced i k q r is wrong) = absurd (wrong (right i k q r is))
      second_first d low _ (undefined i k r names first) = absurd (named i k r names)
      second_first d low _ (defined_twice e second first) =
          not_before (Duplicate d.index) d.object (home_section d.symbol.home) 0 (spot_in (Duplicate e.index) e.object (home_section e.symbol.home) 0) (omega arith) (λ _. no_lower d.object (home_section d.symbol.home) (spot_in (Duplicate e.index) e.object (home_section e.symbol.home) 0) (go (low.lowest e (second_known objects e second) second)))
        where
          go : IsNotBehind d e → (d.object < e.object) ⊎ ((d.object ≡ e.object) × (home_section d.symbol.home ≤ home_section e.symbol.home))
          go (inl l) = inl l
          go (inr q) = elim (q.1) [ inl a ↦ inr (q.0, omega arith) | inr b ↦ let c = b.0 in inr (q.0, omega arith) ]
      second_first d low _ (long_code x) = not_before (Duplicate d.index) d.object (home_section d.symbol.home) 0 (spot_in DoesNotFit 0 0 0) (omega arith) (λ e. absurd (omega arith))
      second_first d low _ (long_data x) = not_before (Duplicate d.index) d.object (home_section d.symbol.home) 0 (spot_in DoesNotFit 0 0 0) (omega arith) (λ e. absurd (omega arith))
      second_first d low _ (high_end x) = not_before (Duplicate d.index) d.object (home_section d.symbol.home) 0 (spot_in DoesNotFit 0 0 0) (omega arith) (λ e. absurd (omega arith))
      second_first d low _ (out_of_range l is far) = not_before (Duplicate d.index) d.object (home_section d.symbol.home) 0 (spot_in RelocRange l.file l.reloc.section l.reloc.offset) (omega arith) (λ e. absurd (omega arith))

      pub second_is : (d : Defined) → IsLowest objects (all_symbols 0 objects) d → IsLinkRefusal objects at (spot_in (Duplicate d.index) d.object (home_section d.symbol.home) 0)
      second_is d low = record {
        fault = defined_twice d low.second (λ e second object home. go e object home (low.lowest e (second_known objects e second) second));
        first = second_first d low;
      }
        where
          go : (e : Defined) → e.object ≡ d.object → home_section e.symbol.home ≡ home_section d.symbol.home → IsNotBehind d e → d.index ≤ e.index
          go e object home (inl l) = absurd (omega arith)
          go e object home (inr q) = elim (q.1) [ inl a ↦ absurd (omega arith) | inr b ↦ b.1 ]

      -- where names are defined once, nothing comes before what does not fit
      fit_first : ((d : Defined) → IsSecond objects d → ⊥) → (s : Spot) → LinkFault objects at s → refused_before s (spot_in DoesNotFit 0 0 0) ≡ false
      fit_first once _ (misplaced i k q r is wrong) = absurd (wrong (right i k q r is))
      fit_first once _ (undefined i k r names first) = absurd (named i k r names)
      fit_first once _ (defined_twice d second first) = absurd (once d second)
      fit_first once _ (long_code x) = refl
      fit_first once _ (long_data x) = refl
      fit_first once _ (high_end x) = refl
      fit_first once _ (out_of_range l is far) = refl

      long : IsTooLong objects at → LinkFault objects at (spot_in DoesNotFit 0 0 0)
      long (inl a) = long_code a
      long (inr y) = elim y [ inl b ↦ long_data b | inr c ↦ high_end c ]

      pub fit_is : ((d : Defined) → IsSecond objects d → ⊥) → (why : Deny) → IsFitDenial objects at why → IsLinkDenial objects at why
      fit_is once NoMemory h = h
      fit_is once (Refused spot) h = subst (λ (s : Spot). IsLinkRefusal objects at s) (sym h.0) (record { fault = long h.1; first = fit_first once })

      -- nothing comes before the first number that does not fit its place
      module _ (once : (d : Defined) → IsSecond objects d → ⊥) (fits : IsTooLong objects at → ⊥) (f : Link) (is : find (λ (l : Link). not (is_in_range (all_placed objects at) l)) (all_links objects at) ≡ Some f) where
        its_link : IsLink objects at f
        its_link = link_is objects at f (found (λ (l : Link). not (is_in_range (all_placed objects at) l)) (all_links objects at) f is).0

        range_first : (s : Spot) → LinkFault objects at s → refused_before s (spot_in RelocRange f.file f.reloc.section f.reloc.offset) ≡ false
        range_first _ (misplaced i k q r there wrong) = absurd (wrong (right i k q r there))
        range_first _ (undefined i k r names first) = absurd (named i k r names)
        range_first _ (defined_twice d second first) = absurd (once d second)
        range_first _ (long_code x) = absurd (fits (inl x))
        range_first _ (long_data x) = absurd (fits (inr (inl x)))
        range_first _ (high_end x) = absurd (fits (inr (inr x)))
        range_first _ (out_of_range l there far) =
            not_before RelocRange f.file f.reloc.section f.reloc.offset (spot_in RelocRange l.file l.reloc.section l.reloc.offset) (omega arith)
            (λ _. go (found_first LinkBefore (λ (m : Link). not (is_in_range (all_placed objects at) m)) (all_links objects at) f l (links_order objects at) is (link_there objects at l there) (ap not far)))
          where
            go : (f ≡ l) ⊎ LinkBefore f l → (f.file < l.file) ⊎ ((f.file ≡ l.file) × ((f.reloc.section < l.reloc.section) ⊎ ((f.reloc.section ≡ l.reloc.section) × (f.reloc.offset ≤ l.reloc.offset))))
            go (inl e) = let x : f.reloc.offset ≡ l.reloc.offset = ap (λ (m : Link). m.reloc.offset) e in inr (ap (λ (m : Link). m.file) e, inr (ap (λ (m : Link). m.reloc.section) e, omega arith))
            go (inr w) = elim w [
              | inl x ↦ inl x
              | inr h ↦
                  let p = (sections_rise objects sound f.file f.number l.file l.number f.object l.object f.reloc l.reloc (record { object = its_link.object; reloc = its_link.reloc }) (record { object = there.object; reloc = there.reloc }) h.0 h.1).place in
                  inr (h.0, elim p [ inl x ↦ inl x | inr x ↦ let y = x.1 in inr (x.0, omega arith) ])
            ]

        pub range_is : IsLinkRefusal objects at (spot_in RelocRange f.file f.reloc.section f.reloc.offset)
        range_is = record {
          fault = out_of_range f its_link (not-true (is_in_range (all_placed objects at) f) (found (λ (l : Link). not (is_in_range (all_placed objects at) l)) (all_links objects at) f is).1);
          first = range_first;
        }
