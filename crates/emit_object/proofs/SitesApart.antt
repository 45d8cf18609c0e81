-- The sites of relocations are at different places.
use Rattle.std.proofs.Common.{◌≡◌, ◌≤◌, ◌<◌, ℕ, suc, ◌+◌, Bool, true, false, cond, List, [], ◌∷◌, filter, inl, inr, refl, sym, ap, ◌∙◌, subst, arith, Option, Some, None}
use Rattle.std.specs.Prelude.{slice_get, Contains, not}
use Rattle.std.specs.Option.{option_to_list}
use Rattle.std.specs.List.{zip}
use Rattle.std.proofs.lemmas.Bool.{true≢false}
use Rattle.std.proofs.lemmas.List.Elements.{All-nil, Contains-append_cases}
use Rattle.std.proofs.lemmas.Option.{none-some, same_Some, slice_get_within}
use Rattle.elf_model.specs.declared.objects.Section.{Section}
use Rattle.elf_model.specs.declared.objects.Reloc.{Reloc}
use Rattle.elf_model.specs.Objects.{ObjectParts, is_object, is_code}
use Rattle.elf_model.proofs.Elements.{element_at, contains_none, contains_cases, contains_at, given_by, given_is}
use Rattle.thumb_encode.specs.declared.codes.Code.{Code}
use Rattle.thumb_encode.specs.Encoding.{width_of}
use Rattle.seq_core.specs.declared.steps.Step.{Step}
use Rattle.seq_core.specs.Places.{PlacedParts, LayoutParts}
use Rattle.reloc_places.specs.Relocations.{reloc_at}
use Rattle.flow_recover.specs.declared.flows.PoolWord.{PoolWord}
use Rattle.flow_recover.specs.Flows.{FlowParts}
use Rattle.flow_recover.specs.WholeFlows.{IsFlow}
use Rattle.flow_recover.proofs.RightRelocs.{reloc_there}
use Rattle.flow_recover.proofs.OneFlow.{index_once}
use Rattle.hardened_form.specs.Items.{Item, item_of_word}
use Rattle.branch_layout.specs.Copies.{bytes_of as bytes_of_width}
use Rattle.branch_layout.specs.Placings.{unit_point, word_point}
use Rattle.branch_layout.proofs.StepCopies.{bytes_least}
use Rattle.emit_object.specs.declared.reloc_sites.Site.{Site}
use Rattle.emit_object.specs.Lasting.{has_data}
use Rattle.emit_object.specs.UnitCopies.{Copy, copies_from, copy_carries, unit_copies}
use Rattle.emit_object.specs.Emitting.{CanEmit, units_of}
use Rattle.emit_object.specs.RelocSites.{data_site, data_sites, numbered, copy_site, sites_on, unit_sites, step_sites, site_of, word_site, word_sites, code_sites, all_sites}
use Rattle.emit_object.proofs.FlowGives.{stands, of_point, of_word}
use Rattle.emit_object.proofs.SiteLists.{data_are, words_are, data_is, unit_is, step_is, IsWordSite, word_at, word_is}
use Rattle.emit_object.proofs.SiteOrder.{Apart, Differ, contains-All, apart_append, apart_filter, apart_map}
use Rattle.emit_object.proofs.SitePlaces.{one_item}
use Rattle.emit_object.proofs.LaidUnits.{placing_of, placed_is, point_of, stretch_of, item, item_there, item_start, item_end, copy_in, word_item_there}

-- LISTS

single : {X : Type 0} (R : X → X → Type 0) (e : Option X) → Apart R (option_to_list e)
single R None = tt
single R (Some x) = (All-nil (R x), tt)

only : {X : Type 0} (e : Option X) (y : X) → Contains (option_to_list e) y → e ≡ Some y
only None y h = absurd (contains_none y h)
only {X = X} (Some x) y h = elim (contains_cases x [] y h) [ inl same ↦ ap (λ (z : X). Some z) same | inr none ↦ absurd (contains_none y none) ]

apart_given : {X Y : Type 0} (R : Y → Y → Type 0) (f : ℕ → X → Option Y) (n : ℕ) (xs : List X)
    → ((i k : ℕ) (x y : X) (s t : Y) → i < k → slice_get xs i ≡ Some x → slice_get xs k ≡ Some y → f (n + i) x ≡ Some s → f (n + k) y ≡ Some t → R s t) → Apart R (given_by f n xs)
apart_given R f n [] h = tt
apart_given {X = X} R f n (x ∷ rest) h =
    apart_append R (option_to_list (f n x)) (given_by f (n + 1) rest) (single R (f n x))
    (apart_given R f (n + 1) rest (λ i k y z s t l e g a b.
    let p : n + suc i ≡ (n + 1) + i = omega arith in
    let q : n + suc k ≡ (n + 1) + k = omega arith in
    h (suc i) (suc k) y z s t (omega arith) e g (ap (λ (m : ℕ). f m y) p ∙ a) (ap (λ (m : ℕ). f m z) q ∙ b)))
    (λ s t a b.
    let g = given_is f (n + 1) rest t b in
    let p : n + 0 ≡ n = omega arith in
    let q : n + suc g.index ≡ (n + 1) + g.index = omega arith in
    h 0 (suc g.index) x g.source s t (omega arith) refl g.there (ap (λ (m : ℕ). f m x) p ∙ only (f n x) s a) (ap (λ (m : ℕ). f m g.source) q ∙ g.gives))

-- COPIES

copies_behind : (at : ℕ) (ts : List Step) (cs : List Code) (c : Copy) → Contains (copies_from at ts cs) c → at ≤ c.at
copies_behind at [] cs c h = absurd (contains_none c h)
copies_behind at (t ∷ ts) [] c h = absurd (contains_none c h)
copies_behind at (t ∷ ts) (x ∷ cs) c h =
    let first : Copy = record { at = at; step = t; code = x } in
    elim (contains_cases first (copies_from (at + bytes_of_width (width_of x)) ts cs) c h) [
      | inl is ↦ let e : at ≡ c.at = ap (λ (z : Copy). z.at) is in omega arith
      | inr later ↦ let low = copies_behind (at + bytes_of_width (width_of x)) ts cs c later in omega arith
    ]

copies_apart : (P : Type 0) (at : ℕ) (ts : List Step) (cs : List Code) → Apart (λ (c d : Copy). P → c.at ≡ d.at → ⊥) (copies_from at ts cs)
copies_apart P at [] cs = tt
copies_apart P at (t ∷ ts) [] = tt
copies_apart P at (t ∷ ts) (x ∷ cs) = (
  contains-All (λ (d : Copy). P → at ≡ d.at → ⊥) (copies_from (at + bytes_of_width (width_of x)) ts cs) (λ d h p e.
      let low = copies_behind (at + bytes_of_width (width_of x)) ts cs d h in
      let least = bytes_least (width_of x) in
      omega arith),
  copies_apart P (at + bytes_of_width (width_of x)) ts cs,
)

unit_apart : (o : ObjectParts) (u : PlacedParts) → Apart Differ (unit_sites o u)
unit_apart o u = go (numbered o u.unit.reloc)
  where
    go : (e : Option (ℕ × Reloc)) → Apart Differ (sites_on (unit_copies u) e)
    go None = tt
    go (Some z) =
        apart_map Differ (copy_site z.0 z.1) (filter copy_carries (unit_copies u))
        (apart_filter (λ (c d : Copy). Differ (copy_site z.0 z.1 c) (copy_site z.0 z.1 d)) copy_carries (unit_copies u) (copies_apart (z.1.section ≡ z.1.section) u.start _ u.codes))

-- DATA

pub data_parts : (o : ObjectParts) (n : ℕ) (r : Reloc) (s : Site) → data_site o n r ≡ Some s → (has_data (slice_get o.sections r.section) ≡ true) × (site_of n r r.offset r.kind ≡ s)
data_parts o n r s h = go (has_data (slice_get o.sections r.section)) refl h
  where
    go : (b : Bool) → has_data (slice_get o.sections r.section) ≡ b → cond b (Some (site_of n r r.offset r.kind)) None ≡ Some s → (has_data (slice_get o.sections r.section) ≡ true) × (site_of n r r.offset r.kind ≡ s)
    go true e g = (e, same_Some (site_of n r r.offset r.kind) s g)
    go false e g = absurd (none-some s g)

data_place : (o : ObjectParts) (n : ℕ) (r : Reloc) (s : Site) → data_site o n r ≡ Some s → (r.section ≡ s.section) × (r.offset ≡ s.at)
data_place o n r s h = let p = data_parts o n r s h in (ap (λ (t : Site). t.section) p.1, ap (λ (t : Site). t.at) p.1)

data_holds : (o : ObjectParts) (n : ℕ) (r : Reloc) (s : Site) → data_site o n r ≡ Some s → has_data (slice_get o.sections s.section) ≡ true
data_holds o n r s h = let p = data_parts o n r s h in ap (λ (t : Site). has_data (slice_get o.sections t.section)) (sym p.1) ∙ p.0

-- PLACES

-- a place in code that a unit or a word has
pub record IsOwned (o : ObjectParts) (items : List Item) (s : Site) (it : Item) : Type 0 where
  pub there : Contains items it
  pub section : it.section ≡ s.section
  pub low : it.new ≤ s.at
  pub high : s.at < it.end
  pub code : has_data (slice_get o.sections s.section) ≡ false

module _ (o : ObjectParts) (f : FlowParts) (l : LayoutParts) (can : CanEmit o f l) (sound : is_object o ≡ true) (flow : IsFlow o f) where
  no_data : (j : ℕ) (s : Section) → slice_get o.sections j ≡ Some s → is_code s ≡ true → has_data (slice_get o.sections j) ≡ false
  no_data j s e c = ap has_data e ∙ ap not c

  -- of a unit
  pub unit_owned : (k : ℕ) (u : PlacedParts) (e : slice_get l.units k ≡ Some u) (s : Site) → Contains (unit_sites o u) s → IsOwned o (placed_is o f l can).items s (item o f l can k u e)
  unit_owned k u e s h =
      let i = unit_is o u s h in
      let x = point_of o f l can k u e in
      let c = copy_in o f l can k u e i.copy i.among in
      let start = item_start o f l can k u e in
      let end = item_end o f l can k u e in
      let at = stands o f sound flow x.point.section x.point.offset i.number i.reloc (sym (of_point o f sound flow k x.point x.there) ∙ sym x.is.reloc ∙ i.numbers.named) i.numbers.there in
      let node = element_at flow.nodes k (let low = slice_get_within f.points k x.point x.there in let count = flow.count in omega arith) in
      let p = flow.points k node.0 x.point node.1 x.there in
      let range = p.instr.start.range in
      let place : s.at ≡ i.copy.at = ap (λ (t : Site). t.at) (sym i.is) in
      let section : u.unit.section ≡ s.section = x.is.section ∙ sym at.0 ∙ ap (λ (t : Site). t.section) i.is in
      let least = bytes_least (width_of i.copy.code) in
      let low = c.low in
      let high = c.high in
      record {
        there = item_there o f l can k u e;
        section = section;
        low = omega arith;
        high = omega arith;
        code = ap (λ (j : ℕ). has_data (slice_get o.sections j)) (sym section ∙ x.is.section ∙ p.section) ∙ no_data node.0.section range.section range.is_there range.in_code;
      }

  -- of a word
  pub word_owned : (k : ℕ) (s : Site) (i : IsWordSite o f.words l.words k s) → IsOwned o (placed_is o f l can).items s (item_of_word (word_point i.word, i.place))
  word_owned k s i =
      let here = contains_at f.words k i.word i.there in
      let w = (flow.words i.word).0 here in
      let at = stands o f sound flow i.word.section i.word.offset i.number i.reloc (sym (of_word o f sound flow i.word here) ∙ i.numbers.named) i.numbers.there in
      let range = w.loads.found.start.range in
      let place : s.at ≡ i.place = ap (λ (t : Site). t.at) (sym i.is) in
      let section : i.word.section ≡ s.section = sym at.0 ∙ ap (λ (t : Site). t.section) i.is in
      record {
        there = word_item_there o f l can k i.word i.place i.there i.stands;
        section = section;
        low = omega arith;
        high = omega arith;
        code = ap (λ (j : ℕ). has_data (slice_get o.sections j)) (sym section ∙ w.section) ∙ no_data w.node.section range.section range.is_there range.in_code;
      }

  same_owner : (s t : Site) (a b : Item) → IsOwned o (placed_is o f l can).items s a → IsOwned o (placed_is o f l can).items t b → s.section ≡ t.section → s.at ≡ t.at → a ≡ b
  same_owner s t a b p q section at =
      let la = p.low in
      let ha = p.high in
      let lb = q.low in
      let hb = q.high in
      one_item (units_of l) f.words (placing_of o f l can) (placed_is o f l can) a b p.there q.there (p.section ∙ section ∙ sym q.section) s.at la ha (omega arith) (omega arith)

  -- two units
  units_differ : (i k : ℕ) (u v : PlacedParts) → i < k → slice_get l.units i ≡ Some u → slice_get l.units k ≡ Some v → (s t : Site) → Contains (unit_sites o u) s → Contains (unit_sites o v) t → Differ s t
  units_differ i k u v lt e g s t a b section at =
      let same = same_owner s t (item o f l can i u e) (item o f l can k v g) (unit_owned i u e s a) (unit_owned k v g t b) section at in
      let one = stretch_of o f l can i u e in
      let two = stretch_of o f l can k v g in
      let index = index_once unit_point (units_of l) i k u.unit v.unit can.can.unit_order one.unit two.unit (ap (λ (it : Item). (it.section, it.old)) same) in
      omega arith

  steps_apart : (n : ℕ) (us : List PlacedParts) → ((k : ℕ) (u : PlacedParts) → slice_get us k ≡ Some u → slice_get l.units (n + k) ≡ Some u) → Apart Differ (step_sites o us)
  steps_apart n [] at = tt
  steps_apart n (u ∷ rest) at =
      apart_append Differ (unit_sites o u) (step_sites o rest) (unit_apart o u)
      (steps_apart (n + 1) rest (λ k v e. let p : n + suc k ≡ (n + 1) + k = omega arith in ap (λ (m : ℕ). slice_get l.units m) (sym p) ∙ at (suc k) v e))
      (λ s t a b.
      let i = step_is o rest t b in
      units_differ (n + 0) (n + suc i.index) u i.unit (omega arith) (at 0 u refl) (at (suc i.index) i.unit i.there) s t a i.among)

  -- two words
  words_apart : Apart Differ (word_sites o (zip f.words l.words))
  words_apart = subst (λ (ss : List Site). Apart Differ ss) (sym (words_are o 0 (zip f.words l.words))) (apart_given Differ (λ k e. word_site o e) 0 (zip f.words l.words) differ)
    where
      differ : (i k : ℕ) (x y : PoolWord × ℕ) (s t : Site) → i < k → slice_get (zip f.words l.words) i ≡ Some x → slice_get (zip f.words l.words) k ≡ Some y → word_site o x ≡ Some s → word_site o y ≡ Some t → Differ s t
      differ i k x y s t lt e g a b section at =
          let one = word_at o f.words l.words i x s e a in
          let two = word_at o f.words l.words k y t g b in
          let same = same_owner s t (item_of_word (word_point one.word, one.place)) (item_of_word (word_point two.word, two.place)) (word_owned i s one) (word_owned k t two) section at in
          let index = index_once word_point f.words i k one.word two.word can.can.word_order one.there two.there (ap (λ (it : Item). (it.section, it.old)) same) in
          omega arith

  -- a unit and a word
  code_apart : Apart Differ (code_sites o f l)
  code_apart =
      apart_append Differ (step_sites o l.units) (word_sites o (zip f.words l.words)) (steps_apart 0 l.units (λ k u e. let z : k ≡ 0 + k = omega arith in ap (λ (m : ℕ). slice_get l.units m) (sym z) ∙ e)) words_apart
      (λ s t a b section at.
      let i = step_is o l.units s a in
      let j = word_is o f.words l.words t b in
      let same = same_owner s t (item o f l can i.index i.unit i.there) (item_of_word (word_point j.1.word, j.1.place)) (unit_owned i.index i.unit i.there s i.among) (word_owned j.0 t j.1) section at in
      let flag : false ≡ true = ap (λ (it : Item). it.word) same in
      absurd (true≢false (sym flag)))

  -- two relocations of data
  data_apart : Apart Differ (data_sites o 0 o.relocs)
  data_apart = subst (λ (ss : List Site). Apart Differ ss) (sym (data_are o 0 o.relocs)) (apart_given Differ (data_site o) 0 o.relocs differ)
    where
      differ : (i k : ℕ) (x y : Reloc) (s t : Site) → i < k → slice_get o.relocs i ≡ Some x → slice_get o.relocs k ≡ Some y → data_site o (0 + i) x ≡ Some s → data_site o (0 + k) y ≡ Some t → Differ s t
      differ i k x y s t lt e g a b section at =
          let one = data_place o (0 + i) x s a in
          let two = data_place o (0 + k) y t b in
          let same : i ≡ k = same_Some i k (sym (reloc_there o i x sound e) ∙ ap (λ (j : ℕ). reloc_at o j x.offset) (one.0 ∙ section ∙ sym two.0) ∙ ap (λ (p : ℕ). reloc_at o y.section p) (one.1 ∙ at ∙ sym two.1) ∙ reloc_there o k y sound g) in
          omega arith

  -- one of data and one of code
  pub all_apart : Apart Differ (all_sites o f l)
  all_apart =
      apart_append Differ (data_sites o 0 o.relocs) (code_sites o f l) data_apart code_apart
      (λ s t a b section at.
      let g = data_is o s a in
      let here = data_holds o (0 + g.index) g.source s g.gives in
      let there = code_of t b in
      absurd (true≢false (sym here ∙ ap (λ (j : ℕ). has_data (slice_get o.sections j)) section ∙ there)))
    where
      code_of : (t : Site) → Contains (code_sites o f l) t → has_data (slice_get o.sections t.section) ≡ false
      code_of t h = elim (Contains-append_cases (step_sites o l.units) (word_sites o (zip f.words l.words)) t h) [
        | inl left ↦ let i = step_is o l.units t left in (unit_owned i.index i.unit i.there t i.among).code
        | inr right ↦ let j = word_is o f.words l.words t right in (word_owned j.0 t j.1).code
      ]
