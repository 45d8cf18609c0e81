-- The symbols of a hardened object are symbols of an object.
use Rattle.std.proofs.Common.{◌≡◌, ◌≤◌, ◌⊎◌, inl, inr, ℕ, ◌+◌, ◌%◌, Bool, true, false, cond, List, refl, sym, ap, ◌∙◌, subst, arith, Option, Some, None}
use Rattle.std.specs.Prelude.{slice_get, is_some, not, nat_le, ◌==◌, ◌&&◌, ◌||◌}
use Rattle.std.proofs.lemmas.Bool.{and_from, and_parts, true≢false, eqb-true}
use Rattle.std.proofs.lemmas.Bool.Decides.{nat_tests}
use Rattle.std.proofs.lemmas.Option.{slice_get_within}
use Rattle.elf_model.specs.declared.objects.Section.{Section}
use Rattle.elf_model.specs.declared.objects.Symbol.{Symbol}
use Rattle.elf_model.specs.declared.objects.Home.{Home}
use Rattle.elf_model.specs.declared.objects.Home.TheVariants as homes
use Rattle.elf_model.specs.declared.objects.MapRow.{MapRow}
use Rattle.elf_model.specs.Constants.{local, func}
use Rattle.elf_model.specs.Objects.{ObjectParts, even, is_name, is_symbol, has_home, is_at_home}
use Rattle.elf_model.specs.Ranges.{is_mapping}
use Rattle.elf_model.proofs.Elements.{element_at}
use Rattle.code_ranges.specs.CodeRanges.{holds_code}
use Rattle.reloc_places.specs.Relocations.{is_in_code}
use Rattle.flow_recover.specs.Flows.{FlowParts}
use Rattle.hardened_form.specs.Places.{Places}
use Rattle.hardened_form.specs.Items.{Item}
use Rattle.hardened_form.specs.Standing.{new_place}
use Rattle.hardened_form.specs.Sections.{AreSections, IsNewSection}
use Rattle.hardened_form.specs.Symbols.{section_kind, size_of, moved_to, moved_in, moved, stays_in, stays}
use Rattle.emit_object.specs.LieInside.{LiesIn, LieInside}

-- a symbol by its parts
pub is_whole : (sections : List Section) (s : Symbol) → is_name s.name ≡ true → nat_le s.bind 2 ≡ true → nat_le s.kind 4 ≡ true → has_home sections s s.home ≡ true → is_symbol sections s ≡ true
is_whole sections s a b c d = and_from (is_name s.name && nat_le s.bind 2 && nat_le s.kind 4) (has_home sections s s.home) (and_from (is_name s.name && nat_le s.bind 2) (nat_le s.kind 4) (and_from (is_name s.name) (nat_le s.bind 2) a b) c) d

at_most : (a b : ℕ) → a ≤ b → nat_le a b ≡ true
at_most a b h = grind (arith, nat_tests)

low_either : (b : Bool) (v x : ℕ) → v ≤ x → cond b (even v) v ≤ x
low_either true v x low = omega arith
low_either false v x low = low

-- it is at home in a section where it lies, a function without bit 0
pub place_home : (h : ObjectParts) (j x : ℕ) → LiesIn h j x → (s : Symbol) → cond (s.kind == func) (even s.value) s.value ≤ x → is_at_home h.sections s (slice_get h.sections j) ≡ true
place_home h j x lies s low = ap (is_at_home h.sections s) lies.there ∙ at_most (cond (s.kind == func) (even s.value) s.value) lies.section.size (let most = lies.low in omega (arith, low, most))

pub at_home : (h : ObjectParts) (j x : ℕ) → LiesIn h j x → (s : Symbol) → s.value ≤ x → is_at_home h.sections s (slice_get h.sections j) ≡ true
at_home h j x lies s low = place_home h j x lies s (low_either (s.kind == func) s.value x low)

-- a symbol of code is at a point, or at the beginning
abbrev pub HasPlace : ObjectParts → List Item → Symbol → Type 0
HasPlace o items s = (j : ℕ) → s.home ≡ homes.Section j → is_in_code o s.home ≡ true → (is_some (new_place items j (even s.value)) ≡ true) ⊎ (s.value ≡ 0)

module _ (o h : ObjectParts) (rows : List MapRow) (sections : AreSections o h rows) (f : FlowParts) (p : Places) (items : List Item) (inside : LieInside h f p items) where
  record NewAt (j : ℕ) (u : Section) : Type 0 where
    pub section : Section
    pub there : slice_get h.sections j ≡ Some section
    pub is : IsNewSection o j u section

  new_at : (j : ℕ) (u : Section) → slice_get o.sections j ≡ Some u → NewAt j u
  new_at j u e =
      let low = slice_get_within o.sections j u e in
      let count = sections.count in
      let t = element_at h.sections j (omega (arith, low, count)) in
      record { section = t.0; there = t.1; is = sections.each j u t.0 e t.1 }

  -- a code section begins
  pub section_begins : (j : ℕ) → holds_code (slice_get o.sections j) ≡ true → LiesIn h j 0
  section_begins j c = go (slice_get o.sections j) refl c
    where
      go : (e : Option Section) → slice_get o.sections j ≡ e → holds_code e ≡ true → LiesIn h j 0
      go None e c = absurd (true≢false (sym c))
      go (Some u) e c = let t = new_at j u e in record { section = t.section; there = t.there; low = omega arith }

  -- outside of code nothing moves
  stays_home : (s : Symbol) (j : ℕ) → holds_code (slice_get o.sections j) ≡ false → is_at_home o.sections s (slice_get o.sections j) ≡ true → is_at_home h.sections s (slice_get h.sections j) ≡ true
  stays_home s j n old = go (slice_get o.sections j) refl n old
    where
      go : (e : Option Section) → slice_get o.sections j ≡ e → holds_code e ≡ false → is_at_home o.sections s e ≡ true → is_at_home h.sections s (slice_get h.sections j) ≡ true
      go None e n old = absurd (true≢false (sym old))
      go (Some u) e n old =
          let t = new_at j u e in
          let kept = t.is.kept n in
          ap (is_at_home h.sections s) t.there ∙ ap (λ (size : ℕ). nat_le (cond (s.kind == func) (even s.value) s.value) size) kept.size ∙ old

  -- what moves stays a symbol
  pub moved_sound : (s : Symbol) → is_symbol o.sections s ≡ true → HasPlace o items s → is_symbol h.sections (moved o h items s) ≡ true
  moved_sound s old placed = go s.home refl
    where
      parts : (is_name s.name && nat_le s.bind 2 && nat_le s.kind 4 ≡ true) × (has_home o.sections s s.home ≡ true)
      parts = and_parts (is_name s.name && nat_le s.bind 2 && nat_le s.kind 4) (has_home o.sections s s.home) old

      whole : (t : Symbol) → t.name ≡ s.name → t.bind ≡ s.bind → t.kind ≡ s.kind → has_home h.sections t t.home ≡ true → is_symbol h.sections t ≡ true
      whole t a b c d =
          and_from (is_name t.name && nat_le t.bind 2 && nat_le t.kind 4) (has_home h.sections t t.home)
          (ap (λ (n : List ℕ). is_name n && nat_le t.bind 2 && nat_le t.kind 4) a ∙ ap (λ (n : ℕ). is_name s.name && nat_le n 2 && nat_le t.kind 4) b ∙ ap (λ (n : ℕ). is_name s.name && nat_le s.bind 2 && nat_le n 4) c ∙ parts.0) d

      go : (home : Home) → s.home ≡ home → is_symbol h.sections (moved_in o h items s home) ≡ true
      go homes.Undefined e = whole s refl refl refl (ap (has_home h.sections s) e)
      go homes.Absolute e = whole s refl refl refl (ap (has_home h.sections s) e)
      go (homes.Section j) e = by_code (is_in_code o s.home) refl
        where
          size : ℕ
          size = size_of (slice_get h.sections j)

          by_place : is_in_code o s.home ≡ true → (y : Option ℕ) → new_place items j (even s.value) ≡ y → is_symbol h.sections (moved_to items j s y size) ≡ true
          by_place c (Some y) at =
              let t : Symbol = moved_to items j s (Some y) size in
              let bit : s.value % 2 ≤ 1 = omega arith in
              whole t refl refl refl (ap (has_home h.sections t) e ∙ at_home h j (y + 1) (inside.points j (even s.value) y at) t (omega arith))
          by_place c None at = elim (placed j e c) [
            | inl some ↦ absurd (true≢false (sym some ∙ ap is_some at))
            | inr zero ↦ whole s refl refl refl (ap (has_home h.sections s) e ∙ at_home h j 0 (section_begins j (ap (is_in_code o) (sym e) ∙ c)) s (omega (arith, zero)))
          ]

          by_code : (b : Bool) → is_in_code o s.home ≡ b → is_symbol h.sections (cond (is_in_code o s.home) (moved_to items j s (new_place items j (even s.value)) size) s) ≡ true
          by_code true c = subst (λ (b : Bool). is_symbol h.sections (cond b (moved_to items j s (new_place items j (even s.value)) size) s) ≡ true) (sym c) (by_place c (new_place items j (even s.value)) refl)
          by_code false n =
              subst (λ (b : Bool). is_symbol h.sections (cond b (moved_to items j s (new_place items j (even s.value)) size) s) ≡ true) (sym n)
              (whole s refl refl refl (ap (has_home h.sections s) e ∙ stays_home s j (ap (is_in_code o) (sym e) ∙ n) (ap (has_home o.sections s) (sym e) ∙ parts.1)))

  -- a local one that stays has a place
  pub kept_placed : (s : Symbol) → stays o items s ≡ true → HasPlace o items s
  kept_placed s kept j e c =
      let in_code : stays_in o items s (homes.Section j) ≡ true = ap (stays_in o items s) (sym e) ∙ (and_parts (s.bind == local) (stays_in o items s s.home) kept).1 in
      let rest : (not (is_mapping s) && (is_some (new_place items j (even s.value)) || ((s.kind == section_kind) && (s.value == 0)))) ≡ true =
      ap (λ (b : Bool). not b || (not (is_mapping s) && (is_some (new_place items j (even s.value)) || ((s.kind == section_kind) && (s.value == 0))))) (sym c) ∙ in_code in
      or (is_some (new_place items j (even s.value))) (and_parts (not (is_mapping s)) (is_some (new_place items j (even s.value)) || ((s.kind == section_kind) && (s.value == 0))) rest).1
    where
      or : (b : Bool) → (b || ((s.kind == section_kind) && (s.value == 0))) ≡ true → (b ≡ true) ⊎ (s.value ≡ 0)
      or true h = inl refl
      or false h = inr (eqb-true s.value 0 (and_parts (s.kind == section_kind) (s.value == 0) h).1)
