-- What a symbol means stands in its object, and its home is the object's own.
use Rattle.std.specs.Prelude.{◌≡◌, ◌⊎◌, ℕ, suc, ◌+◌, ◌==◌, ◌&&◌, ◌||◌, Bool, true, cond, List, [], ◌∷◌, ◌++◌, filter, Option, Some, None, slice_get, Contains, refl}
use Rattle.std.proofs.Common.{arith, inl, inr, ap, sym, ◌∙◌, subst}
use Rattle.std.proofs.lemmas.Bool.{cases_Bool, and_parts, eqb-true}
use Rattle.std.proofs.lemmas.Option.{none-some, same_Some}
use Rattle.elf_model.specs.declared.objects.Section.{Section}
use Rattle.elf_model.specs.declared.objects.Symbol.{Symbol}
use Rattle.elf_model.specs.declared.objects.Home.{Home}
use Rattle.elf_model.specs.declared.objects.Home.TheVariants as home
use Rattle.elf_model.specs.Constants.{local, global, weak}
use Rattle.elf_model.specs.Fields.{same_name}
use Rattle.elf_model.specs.Objects.{ObjectParts, is_code, is_data}
use Rattle.thumb_table.specs.declared.placements.Placement.{Placement}
use Rattle.reloc_places.specs.Relocations.{is_in_code as has_code}
use Rattle.thumb_table.specs.Layouts.{Placed, all_placed, part_of}
use Rattle.thumb_table.specs.Names.{Defined, numbered, all_symbols, is_defined, globals, weaks, resolved, meant, is_in_code}
use Rattle.elf_model.proofs.Elements.{contains_cases, contains_none, contains_here, contains_later, found}
use Rattle.std.proofs.lemmas.List.Elements.{Contains-append_cases}
use Rattle.sim_images.proofs.PartFacts.{part_is}
use Rattle.sim_images.proofs.EachLinked.{has_part}

-- a definition is a symbol of its object
pub record Stands (objects : List ObjectParts) (d : Defined) : Type 0 where
  pub object : ObjectParts
  pub there : slice_get objects d.object ≡ Some object
  pub symbol : slice_get object.symbols d.index ≡ Some d.symbol

record Numbered (i k : ℕ) (symbols : List Symbol) (d : Defined) : Type 0 where
  pub number : ℕ
  pub object : d.object ≡ i
  pub index : d.index ≡ k + number
  pub there : slice_get symbols number ≡ Some d.symbol

numbered_is : (i k : ℕ) (symbols : List Symbol) (d : Defined) → Contains (numbered i k symbols) d → Numbered i k symbols d
numbered_is i k [] d c = absurd (contains_none d c)
numbered_is i k (s ∷ rest) d c =
    let first : Defined = record { object = i; index = k; symbol = s } in
    elim (contains_cases first (numbered i (k + 1) rest) d c) [
      | inl e ↦
          let index : k ≡ k + 0 = omega arith in
          subst (λ (z : Defined). Numbered i k (s ∷ rest) z) e (record { number = 0; object = refl; index = index; there = refl })
      | inr r ↦
          let h = numbered_is i (k + 1) rest d r in
          let index : d.index ≡ k + suc h.number = let n = h.index in omega arith in
          record { number = suc h.number; object = h.object; index = index; there = h.there }
    ]

record Listed (i : ℕ) (objects : List ObjectParts) (d : Defined) : Type 0 where
  pub number : ℕ
  pub object : ObjectParts
  pub file : d.object ≡ i + number
  pub there : slice_get objects number ≡ Some object
  pub symbol : slice_get object.symbols d.index ≡ Some d.symbol

listed : (i : ℕ) (objects : List ObjectParts) (d : Defined) → Contains (all_symbols i objects) d → Listed i objects d
listed i [] d c = absurd (contains_none d c)
listed i (o ∷ rest) d c =
    elim (Contains-append_cases (numbered i 0 o.symbols) (all_symbols (i + 1) rest) d c) [
      | inl a ↦
          let h = numbered_is i 0 o.symbols d a in
          let file : d.object ≡ i + 0 = let e = h.object in omega arith in
          let index : h.number ≡ d.index = let e = h.index in omega arith in
          record { number = 0; object = o; file = file; there = refl; symbol = ap (λ (n : ℕ). slice_get o.symbols n) (sym index) ∙ h.there }
      | inr b ↦
          let h = listed (i + 1) rest d b in
          let file : d.object ≡ i + suc h.number = let e = h.file in omega arith in
          record { number = suc h.number; object = h.object; file = file; there = h.there; symbol = h.symbol }
    ]

pub symbol_stands : (objects : List ObjectParts) (d : Defined) → Contains (all_symbols 0 objects) d → Stands objects d
symbol_stands objects d c =
    let h = listed 0 objects d c in
    let file : h.number ≡ d.object = let e = h.file in omega arith in
    record { object = h.object; there = ap (λ (n : ℕ). slice_get objects n) (sym file) ∙ h.there; symbol = h.symbol }

-- an element of a filtered list
pub in_filter : {X : Type 0} (f : X → Bool) (xs : List X) (x : X) → Contains (filter f xs) x → Contains xs x × (f x ≡ true)
in_filter f [] x c = absurd (contains_none x c)
in_filter f (y ∷ ys) x c =
    elim (cases_Bool (f y)) [
      | inl t ↦
          elim (contains_cases y (filter f ys) x (subst (λ (l : List _). Contains l x) (ap (λ (b : Bool). cond b (y ∷ filter f ys) (filter f ys)) t) c)) [
            | inl e ↦ (subst (λ (z : _). Contains (y ∷ ys) z) e (contains_here y ys), subst (λ (z : _). f z ≡ true) e t)
            | inr r ↦ let h = in_filter f ys x r in (contains_later y ys x h.0, h.1)
          ]
      | inr n ↦ let h = in_filter f ys x (subst (λ (l : List _). Contains l x) (ap (λ (b : Bool). cond b (y ∷ filter f ys) (filter f ys)) n) c) in (contains_later y ys x h.0, h.1)
    ]

-- what a name stands for is global or weak, defined, and a symbol of that name
pub record IsOuter (objects : List ObjectParts) (name : List ℕ) (d : Defined) : Type 0 where
  pub stands : Stands objects d
  pub outer : (d.symbol.bind ≡ local) → ⊥
  pub defined : is_defined d.symbol.home ≡ true
  pub named : same_name d.symbol.name name ≡ true

pub outer_is : (objects : List ObjectParts) (b : ℕ) → (b ≡ local → ⊥) → (d : Defined) → Contains (filter (λ z. (z.symbol.bind == b) && is_defined z.symbol.home) (all_symbols 0 objects)) d
    → Stands objects d × (d.symbol.bind ≡ b) × (is_defined d.symbol.home ≡ true)
outer_is objects b apart d c =
    let h = in_filter (λ (z : Defined). (z.symbol.bind == b) && is_defined z.symbol.home) (all_symbols 0 objects) d c in
    let p = and_parts (d.symbol.bind == b) (is_defined d.symbol.home) h.1 in
    (symbol_stands objects d h.0, eqb-true d.symbol.bind b p.0, p.1)

pub resolved_is : (objects : List ObjectParts) (name : List ℕ) (d : Defined) → resolved objects name ≡ Some d → IsOuter objects name d
resolved_is objects name d e =
    let f = found (λ (z : Defined). same_name z.symbol.name name) (globals objects ++ weaks objects) d e in
    let p : (d.symbol.bind ≡ global) ⊎ (d.symbol.bind ≡ weak) → (d.symbol.bind ≡ local → ⊥) = λ h. elim h [ inl a ↦ λ l. omega arith | inr a ↦ λ l. omega arith ] in
    elim (Contains-append_cases (globals objects) (weaks objects) d f.0) [
      | inl c ↦ let h = outer_is objects global (λ z. omega (arith, z)) d c in record { stands = h.0; outer = p (inl h.1); defined = h.2; named = f.1 }
      | inr c ↦ let h = outer_is objects weak (λ z. omega (arith, z)) d c in record { stands = h.0; outer = p (inr h.1); defined = h.2; named = f.1 }
    ]

-- what a symbol means: itself, where it is local and defined, else what its name stands for
pub meant_cases : (objects : List ObjectParts) (i k : ℕ) (s : Symbol) (d : Defined) → meant objects i k s ≡ Some d
    → ((s.bind ≡ local) × (is_defined s.home ≡ true) × (d.object ≡ i) × (d.index ≡ k) × (d.symbol ≡ s)) ⊎ IsOuter objects s.name d
meant_cases objects i k s d e =
    let own : Defined = record { object = i; index = k; symbol = s } in
    elim (cases_Bool ((s.bind == local) && is_defined s.home)) [
      | inl y ↦
          let p = and_parts (s.bind == local) (is_defined s.home) y in
          let same : d ≡ own = sym (same_Some own d (sym (ap (λ (b : Bool). cond b (Some own) (resolved objects s.name)) y) ∙ e)) in
          inl (eqb-true s.bind local p.0, p.1, ap (λ (z : Defined). z.object) same, ap (λ (z : Defined). z.index) same, ap (λ (z : Defined). z.symbol) same)
      | inr n ↦ inr (resolved_is objects s.name d (sym (ap (λ (b : Bool). cond b (Some own) (resolved objects s.name)) n) ∙ e))
    ]

pub meant_stands : (objects : List ObjectParts) (i k : ℕ) (o : ObjectParts) (s : Symbol) (d : Defined) → slice_get objects i ≡ Some o → slice_get o.symbols k ≡ Some s → meant objects i k s ≡ Some d → Stands objects d
meant_stands objects i k o s d there symbol e =
    elim (meant_cases objects i k s d e) [
      | inl own ↦ record {
        object = o;
        there = ap (λ (n : ℕ). slice_get objects n) own.2 ∙ there;
        symbol = ap (λ (n : ℕ). slice_get o.symbols n) own.3 ∙ (symbol ∙ ap (λ (z : Symbol). Some z) (sym own.4));
      }
      | inr outer ↦ outer.stands
    ]

-- whether a home is in code is the object's own matter
pub same_code : (objects : List ObjectParts) (at : Placement) (i : ℕ) (o : ObjectParts) → slice_get objects i ≡ Some o → (h : Home) → is_in_code (all_placed objects at) i h ≡ has_code o h
same_code objects at i o there home.Undefined = refl
same_code objects at i o there home.Absolute = refl
same_code objects at i o there (home.Section j) = go (slice_get o.sections j) refl (part_of (all_placed objects at) i j) refl
  where
    go : (s : Option Section) → slice_get o.sections j ≡ s → (p : Option Placed) → part_of (all_placed objects at) i j ≡ p → is_in_code (all_placed objects at) i (home.Section j) ≡ has_code o (home.Section j)
    go None e None f = rw f (rw e refl)
    go None e (Some p) f =
        let h = part_is objects at i j p f in
        let same : h.object ≡ o = same_Some h.object o (sym h.there ∙ there) in
        absurd (none-some p.section (sym e ∙ subst (λ (z : ObjectParts). slice_get z.sections j ≡ Some p.section) same h.section))
    go (Some s) e None f =
        elim (cases_Bool (is_code s)) [
          | inl y ↦
              let h = has_part objects at i j o s there e (ap (λ (b : Bool). b || is_data s) y) in
              absurd (none-some h.0 (sym f ∙ h.1.part))
          | inr n ↦ rw f (rw e (sym n))
        ]
    go (Some s) e (Some p) f =
        let h = part_is objects at i j p f in
        let same : h.object ≡ o = same_Some h.object o (sym h.there ∙ there) in
        let section : p.section ≡ s = same_Some p.section s (sym (subst (λ (z : ObjectParts). slice_get z.sections j ≡ Some p.section) same h.section) ∙ e) in
        rw f (rw e (ap (λ (z : Section). is_code z) section))
