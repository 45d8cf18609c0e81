-- Homes of symbols in the plain and in the hardened list: code in both or in neither, and outside of code at one address.
use Rattle.std.specs.Prelude.{◌≡◌, ◌≤◌, ℕ, zero, suc, ◌||◌, not, Bool, true, false, List, [], ◌∷◌, length, Option, Some, None, slice_get, refl}
use Rattle.std.proofs.Common.{arith, inl, inr, ap, sym, ◌∙◌, subst}
use Rattle.std.proofs.lemmas.Bool.{cases_lt, both_ways, and_left}
use Rattle.std.proofs.lemmas.Option.{none-some, same_Some}
use Rattle.elf_model.specs.declared.objects.Section.{Section}
use Rattle.elf_model.specs.declared.objects.Home.{Home}
use Rattle.elf_model.specs.declared.objects.Home.TheVariants as homes
use Rattle.elf_model.specs.Objects.{ObjectParts, is_code, is_data, is_alloc}
use Rattle.thumb_table.specs.declared.placements.Placement.{Placement}
use Rattle.reloc_places.specs.Relocations.{is_in_code as has_code}
use Rattle.code_ranges.specs.CodeRanges.{holds_code}
use Rattle.thumb_table.specs.Layouts.{Placed, all_placed, part_of, start_of, home_start}
use Rattle.sim_images.specs.ImageLaws.{Here}
use Rattle.sim_images.specs.Counterparts.{Places, IsSectionOf, SectionsAnswer, AreAnswers}
use Rattle.sim_images.proofs.PartFacts.{part_is}
use Rattle.sim_images.proofs.EachLinked.{has_part}
use Rattle.elf_model.proofs.Elements.{element_at}
use Rattle.sim_images.proofs.DataStay.{same_sort, same_data, no_code, data_stays}

past : {X : Type 0} (xs : List X) (j : ℕ) → length xs ≤ j → slice_get xs j ≡ None
past [] j h = refl
past (x ∷ xs) zero h = absurd (omega arith)
past (x ∷ xs) (suc j) h = past xs j (omega arith)

pub code_kept : (o h : ObjectParts) → SectionsAnswer o h → (home : Home) → has_code h home ≡ has_code o home
code_kept o h answers homes.Undefined = refl
code_kept o h answers homes.Absolute = refl
code_kept o h answers (homes.Section j) =
    elim (cases_lt j (length o.sections)) [
      | inl lt ↦
          let s = element_at o.sections j lt in
          let t = answers.kept j s.0 s.1 in
          ap (λ (z : Option Section). holds_code z) t.1 ∙ (same_sort s.0 t.0 t.2 ∙ sym (ap (λ (z : Option Section). holds_code z) s.1))
      | inr le ↦ go (slice_get h.sections j) refl le ∙ sym (ap (λ (z : Option Section). holds_code z) (past o.sections j le))
    ]
  where
    go : (t : Option Section) → slice_get h.sections j ≡ t → length o.sections ≤ j → holds_code (slice_get h.sections j) ≡ false
    go None e le = ap (λ (z : Option Section). holds_code z) e
    go (Some t) e le = ap (λ (z : Option Section). holds_code z) e ∙ no_code t (answers.more j t le e)

module _ (ins outs : List ObjectParts) (at : Placement) (moved : ℕ → Places) (answers : AreAnswers ins outs moved) (i : ℕ) (o h : ObjectParts) (there : slice_get ins i ≡ Some o) (here : slice_get outs i ≡ Some h) where
  memory_kept : (s t : Section) → IsSectionOf s t → (is_code t || is_data t) ≡ (is_code s || is_data s)
  memory_kept s t of = ap (λ (b : Bool). b || is_data t) (same_sort s t of) ∙ ap (λ (b : Bool). is_code s || b) (same_data s t of)

  in_memory : (objects : List ObjectParts) (q : ObjectParts) (j : ℕ) (p : Placed) → slice_get objects i ≡ Some q → part_of (all_placed objects at) i j ≡ Some p
      → Here objects at i q j p × ((is_code p.section || is_data p.section) ≡ true)
  in_memory objects q j p known e =
      let f = part_is objects at i j p e in
      let same : f.object ≡ q = same_Some f.object q (sym f.there ∙ known) in (
        record { object = known; section = subst (λ (z : ObjectParts). slice_get z.sections j ≡ Some p.section) same f.section; part = e },
        elim (f.sort) [
          | inl c ↦ ap (λ (b : Bool). b || is_data p.section) c.1
          | inr d ↦ either (is_code p.section) (is_data p.section) d.1
        ],
      )
    where
      either : (a b : Bool) → b ≡ true → (a || b) ≡ true
      either true b y = refl
      either false b y = y

  -- a section that has a part in one list has one in the other
  pub goes_on : (j : ℕ) (p : Placed) → part_of (all_placed ins at) i j ≡ Some p → (q : Placed) × Here outs at i h j q × IsSectionOf p.section q.section
  goes_on j p e =
      let a = in_memory ins o j p there e in
      let t = (answers.sections i o h there here).kept j p.section a.0.section in
      let b = has_part outs at i j h t.0 here t.1 (memory_kept p.section t.0 t.2 ∙ a.1) in
      let same : t.0 ≡ b.0.section = same_Some t.0 b.0.section (sym t.1 ∙ b.1.section) in
      (b.0, b.1, subst (λ (z : Section). IsSectionOf p.section z) same t.2)

  pub came_from : (j : ℕ) (q : Placed) → part_of (all_placed outs at) i j ≡ Some q → (p : Placed) × Here ins at i o j p
  came_from j q e =
      let a = in_memory outs h j q here e in
      let sections = answers.sections i o h there here in
      elim (cases_lt j (length o.sections)) [
        | inl lt ↦
            let s = element_at o.sections j lt in
            let t = sections.kept j s.0 s.1 in
            let same : t.0 ≡ q.section = same_Some t.0 q.section (sym t.1 ∙ a.0.section) in
            has_part ins at i j o s.0 there s.1 (sym (memory_kept s.0 t.0 t.2) ∙ subst (λ (z : Section). (is_code z || is_data z) ≡ true) (sym same) a.1)
        | inr le ↦
            let out = sections.more j q.section le a.0.section in
            absurd (both_ways (is_code q.section || is_data q.section)
            (ap (λ (b : Bool). b || is_data q.section) (no_code q.section out) ∙ and_left (is_alloc q.section.flags) (not (is_code q.section)) out) a.1)
      ]

  pub start_kept : (home : Home) → has_code o home ≡ false → home_start (all_placed outs at) i home ≡ home_start (all_placed ins at) i home
  start_kept homes.Undefined c = refl
  start_kept homes.Absolute c = refl
  start_kept (homes.Section j) c = go (part_of (all_placed ins at) i j) refl (part_of (all_placed outs at) i j) refl
    where
      go : (p : Option Placed) → part_of (all_placed ins at) i j ≡ p → (q : Option Placed) → part_of (all_placed outs at) i j ≡ q → start_of (part_of (all_placed outs at) i j) ≡ start_of (part_of (all_placed ins at) i j)
      go None e None f = ap (λ (z : Option Placed). start_of z) (f ∙ sym e)
      go None e (Some q) f = let g = came_from j q f in absurd (none-some g.0 (sym e ∙ g.1.part))
      go (Some p) e None f = let g = goes_on j p e in absurd (none-some g.0 (sym f ∙ g.1.part))
      go (Some p) e (Some q) f =
          let a = in_memory ins o j p there e in
          let b = in_memory outs h j q here f in
          let no : is_code p.section ≡ false = sym (ap (λ (z : Option Section). holds_code z) a.0.section) ∙ c in
          ap (λ (z : Option Placed). start_of z) f ∙ (data_stays ins outs at moved answers i j o h p q a.0 b.0 no ∙ sym (ap (λ (z : Option Placed). start_of z) e))
