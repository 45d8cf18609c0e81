-- Lists of sites that grow, and what is in them.
use Rattle.std.proofs.Common.{◌≡◌, ◌<◌, ◌≤◌, ℕ, zero, suc, ◌+◌, Bool, true, false, cond, List, [], ◌∷◌, ◌++◌, length, map, filter, drop, get_or, inl, inr, refl, sym, ap, ◌∙◌, subst, arith, append_assoc, append-nil, add-one, Option, Some, None}
use Rattle.std.specs.Prelude.{slice_get, Contains}
use Rattle.std.specs.Option.{option_to_list}
use Rattle.std.specs.List.{zip}
use Rattle.std.proofs.Math.Seq.{drop-cons}
use Rattle.std.proofs.lemmas.List.{drop_all}
use Rattle.std.proofs.lemmas.List.Elements.{Contains-append_left, Contains-append_right, Contains-append_cases}
use Rattle.std.proofs.lemmas.Option.{none-some, same_Some}
use Rattle.elf_model.specs.declared.objects.Reloc.{Reloc}
use Rattle.elf_model.specs.Objects.{ObjectParts}
use Rattle.elf_model.proofs.Elements.{contains_none, contains_map, map_contains, contains_filter, filter_contains, given_by, given_is, given_has, IsGiven, place_of}
use Rattle.thumb_encode.specs.declared.codes.Code.{Code}
use Rattle.thumb_encode.specs.declared.codes.Width.{Width}
use Rattle.thumb_encode.specs.declared.codes.Width.TheVariants.{Half, Full}
use Rattle.thumb_encode.specs.Encoding.{width_of}
use Rattle.flow_recover.specs.declared.flows.PoolWord.{PoolWord}
use Rattle.seq_core.specs.declared.steps.Step.{Step}
use Rattle.seq_core.specs.Places.{PlacedParts}
use Rattle.branch_layout.specs.Copies.{bytes_of as bytes_of_width}
use Rattle.branch_layout.proofs.WithinFacts.{zip_parts}
use Rattle.emit_object.specs.declared.reloc_sites.Site.{Site}
use Rattle.emit_object.specs.UnitCopies.{Copy, copies_from, carries, unit_copies, copy_carries}
use Rattle.emit_object.specs.RelocSites.{data_site, data_sites, with_number, numbered, copy_site, copy_sites, sites_on, unit_sites, step_sites, site_at, site_of, word_site, word_sites}
use Rattle.emit_object.proofs.WordFacts.{zip_length}

-- LISTS THAT GROW

get_zip : {X Y : Type 0} (xs : List X) (ys : List Y) (k : ℕ) (d : X) (u : Y) → length ys ≡ length xs → k < length xs → get_or (zip xs ys) k (d, u) ≡ (get_or xs k d, get_or ys k u)
get_zip [] ys k d u l low = absurd (omega arith)
get_zip (x ∷ xs) [] k d u l low = absurd (omega arith)
get_zip (x ∷ xs) (y ∷ ys) zero d u l low = refl
get_zip (x ∷ xs) (y ∷ ys) (suc k) d u l low = get_zip xs ys k d u (omega arith) (omega arith)

pub get_same : {X : Type 0} (xs : List X) (k : ℕ) (d e : X) → k < length xs → get_or xs k d ≡ get_or xs k e
get_same [] k d e low = absurd (omega arith)
get_same (x ∷ xs) zero d e low = refl
get_same (x ∷ xs) (suc k) d e low = get_same xs k d e (omega arith)

cut : {X : Type 0} (xs : List X) (k : ℕ) (d : X) → k < length xs → drop k xs ≡ get_or xs k d ∷ drop (k + 1) xs
cut xs k d low = drop-cons xs k d low ∙ ap (λ (n : ℕ). get_or xs k d ∷ drop n xs) (sym (add-one k))

module _ (o : ObjectParts) (words : List PoolWord) (places : List ℕ) (same : length places ≡ length words) where
  abbrev all : List (PoolWord × ℕ)
  all = zip words places

  pub word_more : (k : ℕ) (d : PoolWord) (old now new : List Site) (s : Option Site) → k < length words → now ++ word_sites o (drop k all) ≡ old ++ word_sites o all → s ≡ word_site o (get_or words k d, get_or places k 0)
      → new ≡ now ++ option_to_list s → new ++ word_sites o (drop (k + 1) all) ≡ old ++ word_sites o all
  word_more k d old now new s low before site is =
      let e : PoolWord × ℕ = (get_or words k d, get_or places k 0) in
      let here : drop k all ≡ e ∷ drop (k + 1) all = cut all k (d, 0) (omega (arith, zip_length words places same)) ∙ ap (λ (z : PoolWord × ℕ). z ∷ drop (k + 1) all) (get_zip words places k d 0 same low) in
      ap (λ (l : List Site). l ++ word_sites o (drop (k + 1) all)) (is ∙ ap (λ (t : Option Site). now ++ option_to_list t) site) ∙ append_assoc now (option_to_list (word_site o e)) (word_sites o (drop (k + 1) all))
      ∙ ap (λ (l : List (PoolWord × ℕ)). now ++ word_sites o l) (sym here) ∙ before

  pub words_done : (k : ℕ) (old now : List Site) → length words ≤ k → now ++ word_sites o (drop k all) ≡ old ++ word_sites o all → now ≡ old ++ word_sites o all
  words_done k old now high before = sym (append-nil now) ∙ ap (λ (l : List (PoolWord × ℕ)). now ++ word_sites o l) (sym (drop_all k all (omega (arith, zip_length words places same, high)))) ∙ before

module _ (n : ℕ) (r : Reloc) (copies : List Step) (codes : List Code) (count : length codes ≡ length copies) where
  abbrev sites_from : ℕ → ℕ → List Site
  sites_from at k = copy_sites n r (copies_from at (drop k copies) (drop k codes))

  abbrev here_at : ℕ → Step → Code → Copy
  here_at at t c = record { at = at; step = t; code = c }

  first_copy : (at k : ℕ) (t : Step) (c : Code) → k < length copies
      → sites_from at k ≡ map (copy_site n r) (filter copy_carries (here_at at (get_or copies k t) (get_or codes k c) ∷ copies_from (at + bytes_of_width (width_of (get_or codes k c))) (drop (k + 1) copies) (drop (k + 1) codes)))
  first_copy at k t c low =
      let b : drop k codes ≡ get_or codes k c ∷ drop (k + 1) codes = cut codes k c (omega arith) in
      ap (λ (ts : List Step). copy_sites n r (copies_from at ts (drop k codes))) (cut copies k t low) ∙ ap (λ (cs : List Code). copy_sites n r (copies_from at (get_or copies k t ∷ drop (k + 1) copies) cs)) b

  carried : (x : Copy) (rest : List Copy) (b : Bool) → carries x.step ≡ b → map (copy_site n r) (filter copy_carries (x ∷ rest)) ≡ cond b (copy_site n r x ∷ copy_sites n r rest) (copy_sites n r rest)
  carried x rest true e = ap (λ (b : Bool). map (copy_site n r) (cond b (x ∷ filter copy_carries rest) (filter copy_carries rest))) e
  carried x rest false e = ap (λ (b : Bool). map (copy_site n r) (cond b (x ∷ filter copy_carries rest) (filter copy_carries rest))) e

  module _ (at k : ℕ) (t : Step) (c : Code) (low : k < length copies) (old now whole : List Site) (before : now ++ sites_from at k ≡ old ++ whole) where
    abbrev next : ℕ
    next = at + bytes_of_width (width_of (get_or codes k c))

    pub copy_kept : (new : List Site) → carries (get_or copies k t) ≡ true → new ≡ now ++ copy_site n r (here_at at (get_or copies k t) (get_or codes k c)) ∷ [] → new ++ sites_from next (k + 1) ≡ old ++ whole
    copy_kept new is more =
        let x : Copy = here_at at (get_or copies k t) (get_or codes k c) in
        ap (λ (l : List Site). l ++ sites_from next (k + 1)) more ∙ append_assoc now (copy_site n r x ∷ []) (sites_from next (k + 1))
        ∙ ap (λ (l : List Site). now ++ l) (sym (first_copy at k t c low ∙ carried x (copies_from next (drop (k + 1) copies) (drop (k + 1) codes)) true is)) ∙ before

    pub copy_left : carries (get_or copies k t) ≡ false → now ++ sites_from next (k + 1) ≡ old ++ whole
    copy_left is =
        let x : Copy = here_at at (get_or copies k t) (get_or codes k c) in
        ap (λ (l : List Site). now ++ l) (sym (first_copy at k t c low ∙ carried x (copies_from next (drop (k + 1) copies) (drop (k + 1) codes)) false is)) ∙ before

  pub copies_done : (at k : ℕ) (old now whole : List Site) → length copies ≤ k → now ++ sites_from at k ≡ old ++ whole → now ≡ old ++ whole
  copies_done at k old now whole high before =
      sym (append-nil now) ∙ ap (λ (ts : List Step). now ++ copy_sites n r (copies_from at ts (drop k codes))) (sym (drop_all k copies high)) ∙ before

pub few_in : (w : Width) → bytes_of_width w ≤ 4
few_in Half = omega arith
few_in Full = omega arith

-- WHAT IS IN THEM

pub data_are : (o : ObjectParts) (n : ℕ) (rs : List Reloc) → data_sites o n rs ≡ given_by (data_site o) n rs
data_are o n [] = refl
data_are o n (r ∷ rest) = ap (λ (l : List Site). option_to_list (data_site o n r) ++ l) (data_are o (n + 1) rest)

pub words_are : (o : ObjectParts) (n : ℕ) (es : List (PoolWord × ℕ)) → word_sites o es ≡ given_by (λ k e. word_site o e) n es
words_are o n [] = refl
words_are o n (e ∷ rest) = ap (λ (l : List Site). option_to_list (word_site o e) ++ l) (words_are o (n + 1) rest)

pub data_is : (o : ObjectParts) (s : Site) → Contains (data_sites o 0 o.relocs) s → IsGiven (data_site o) 0 o.relocs s
data_is o s h = given_is (data_site o) 0 o.relocs s (subst (λ (l : List Site). Contains l s) (data_are o 0 o.relocs) h)

pub data_has : (o : ObjectParts) (k : ℕ) (r : Reloc) (s : Site) → slice_get o.relocs k ≡ Some r → data_site o k r ≡ Some s → Contains (data_sites o 0 o.relocs) s
data_has o k r s e h =
    let same : 0 + k ≡ k = omega arith in
    subst (λ (l : List Site). Contains l s) (sym (data_are o 0 o.relocs)) (given_has (data_site o) 0 o.relocs k r s e (ap (λ (n : ℕ). data_site o n r) same ∙ h))

-- a relocation by its number
pub record IsNumbered (o : ObjectParts) (e : Option ℕ) (z : ℕ × Reloc) : Type 0 where
  pub named : e ≡ Some z.0
  pub there : slice_get o.relocs z.0 ≡ Some z.1

pub numbered_is : (o : ObjectParts) (e : Option ℕ) (z : ℕ × Reloc) → numbered o e ≡ Some z → IsNumbered o e z
numbered_is o None z h = absurd (none-some z h)
numbered_is o (Some n) z h = go (slice_get o.relocs n) refl h
  where
    go : (x : Option Reloc) → slice_get o.relocs n ≡ x → with_number n x ≡ Some z → IsNumbered o (Some n) z
    go None e h = absurd (none-some z h)
    go (Some r) e h =
        let same : (n, r) ≡ z = same_Some (n, r) z h in
        record {
          named = ap (λ (p : ℕ × Reloc). Some p.0) same;
          there = ap (λ (p : ℕ × Reloc). slice_get o.relocs p.0) (sym same) ∙ e ∙ ap (λ (p : ℕ × Reloc). Some p.1) same;
        }

pub numbered_has : (o : ObjectParts) (e : Option ℕ) (n : ℕ) (r : Reloc) → e ≡ Some n → slice_get o.relocs n ≡ Some r → numbered o e ≡ Some (n, r)
numbered_has o e n r named there = ap (numbered o) named ∙ ap (with_number n) there

-- a unit's copy carries the relocation
pub record IsUnitSite (o : ObjectParts) (u : PlacedParts) (s : Site) : Type 0 where
  pub number : ℕ
  pub reloc : Reloc
  pub numbers : IsNumbered o u.unit.reloc (number, reloc)
  pub copy : Copy
  pub among : Contains (unit_copies u) copy
  pub carrying : copy_carries copy ≡ true
  pub is : copy_site number reloc copy ≡ s

pub unit_is : (o : ObjectParts) (u : PlacedParts) (s : Site) → Contains (unit_sites o u) s → IsUnitSite o u s
unit_is o u s h = go (numbered o u.unit.reloc) refl h
  where
    go : (e : Option (ℕ × Reloc)) → numbered o u.unit.reloc ≡ e → Contains (sites_on (unit_copies u) e) s → IsUnitSite o u s
    go None e h = absurd (contains_none s h)
    go (Some z) e h =
        let from = contains_map (copy_site z.0 z.1) (filter copy_carries (unit_copies u)) s h in
        let kept = contains_filter copy_carries (unit_copies u) from.0 from.1 in
        record { number = z.0; reloc = z.1; numbers = numbered_is o u.unit.reloc z e; copy = from.0; among = kept.0; carrying = kept.1; is = from.2 }

pub unit_has : (o : ObjectParts) (u : PlacedParts) (n : ℕ) (r : Reloc) (c : Copy) → u.unit.reloc ≡ Some n → slice_get o.relocs n ≡ Some r → Contains (unit_copies u) c → copy_carries c ≡ true → Contains (unit_sites o u) (copy_site n r c)
unit_has o u n r c named there among carrying =
    subst (λ (e : Option (ℕ × Reloc)). Contains (sites_on (unit_copies u) e) (copy_site n r c)) (sym (numbered_has o u.unit.reloc n r named there))
    (map_contains (copy_site n r) (filter copy_carries (unit_copies u)) c (filter_contains copy_carries (unit_copies u) c among carrying))

-- of one of the units
pub record IsStepSite (o : ObjectParts) (units : List PlacedParts) (s : Site) : Type 0 where
  pub index : ℕ
  pub unit : PlacedParts
  pub there : slice_get units index ≡ Some unit
  pub among : Contains (unit_sites o unit) s

pub step_is : (o : ObjectParts) (units : List PlacedParts) (s : Site) → Contains (step_sites o units) s → IsStepSite o units s
step_is o [] s h = absurd (contains_none s h)
step_is o (u ∷ rest) s h = elim (Contains-append_cases (unit_sites o u) (step_sites o rest) s h) [
  | inl here ↦ record { index = zero; unit = u; there = refl; among = here }
  | inr later ↦ let i = step_is o rest s later in record { index = suc i.index; unit = i.unit; there = i.there; among = i.among }
]

pub step_has : (o : ObjectParts) (units : List PlacedParts) (k : ℕ) (u : PlacedParts) (s : Site) → slice_get units k ≡ Some u → Contains (unit_sites o u) s → Contains (step_sites o units) s
step_has o [] k u s e h = absurd (none-some u e)
step_has o (v ∷ rest) zero u s e h = Contains-append_left (unit_sites o v) (step_sites o rest) s (subst (λ (w : PlacedParts). Contains (unit_sites o w) s) (sym (same_Some v u e)) h)
step_has o (v ∷ rest) (suc k) u s e h = Contains-append_right (unit_sites o v) (step_sites o rest) s (step_has o rest k u s e h)

-- the word with an index has the relocation
pub record IsWordSite (o : ObjectParts) (words : List PoolWord) (places : List ℕ) (k : ℕ) (s : Site) : Type 0 where
  pub word : PoolWord
  pub place : ℕ
  pub there : slice_get words k ≡ Some word
  pub stands : slice_get places k ≡ Some place
  pub number : ℕ
  pub reloc : Reloc
  pub numbers : IsNumbered o word.reloc (number, reloc)
  pub is : site_of number reloc place reloc.kind ≡ s

pub word_at : (o : ObjectParts) (words : List PoolWord) (places : List ℕ) (k : ℕ) (e : PoolWord × ℕ) (s : Site) → slice_get (zip words places) k ≡ Some e → word_site o e ≡ Some s → IsWordSite o words places k s
word_at o words places k e s at gives = let parts = zip_parts words places k e at in go parts.0 parts.1 (numbered o e.0.reloc) refl gives
  where
    go : slice_get words k ≡ Some e.0 → slice_get places k ≡ Some e.1 → (z : Option (ℕ × Reloc)) → numbered o e.0.reloc ≡ z → site_at e.1 z ≡ Some s → IsWordSite o words places k s
    go w y None n g = absurd (none-some s g)
    go w y (Some z) n g = record { word = e.0; place = e.1; there = w; stands = y; number = z.0; reloc = z.1; numbers = numbered_is o e.0.reloc z n; is = same_Some (site_of z.0 z.1 e.1 z.1.kind) s g }

pub word_is : (o : ObjectParts) (words : List PoolWord) (places : List ℕ) (s : Site) → Contains (word_sites o (zip words places)) s → (k : ℕ) × IsWordSite o words places k s
word_is o words places s h =
    let g = given_is (λ k e. word_site o e) 0 (zip words places) s (subst (λ (l : List Site). Contains l s) (words_are o 0 (zip words places)) h) in
    (g.index, word_at o words places g.index g.source s g.there g.gives)

pub word_has : (o : ObjectParts) (words : List PoolWord) (places : List ℕ) (w : PoolWord) (y n : ℕ) (r : Reloc) → Contains (zip words places) (w, y) → w.reloc ≡ Some n → slice_get o.relocs n ≡ Some r
    → Contains (word_sites o (zip words places)) (site_of n r y r.kind)
word_has o words places w y n r here named there =
    let at = place_of (zip words places) (w, y) here in
    subst (λ (l : List Site). Contains l (site_of n r y r.kind)) (sym (words_are o 0 (zip words places)))
    (given_has (λ k e. word_site o e) 0 (zip words places) at.0 (w, y) (site_of n r y r.kind) at.1 (ap (site_at y) (numbered_has o w.reloc n r named there)))
