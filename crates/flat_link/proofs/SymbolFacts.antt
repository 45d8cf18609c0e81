-- The symbols of all objects, by their objects and numbers, and in their order.
use Rattle.std.proofs.Common.{◌≡◌, ◌≤◌, ◌<◌, ℕ, zero, suc, ◌+◌, ◌-◌, ◌^◌, Bool, true, false, cond, List, [], ◌∷◌, ◌++◌, length, get_or, map, refl, sym, ap, ◌∙◌, subst, inl, inr, arith, Option, Some, None}
use Rattle.std.specs.Prelude.{Contains, slice_get, ◌==◌, max}
use Rattle.std.proofs.lemmas.Bool.{and_parts, leb-true}
use Rattle.std.proofs.lemmas.Option.{none-some, same_Some}
use Rattle.std.proofs.lemmas.List.Elements.{Contains-append_cases, Contains-append_left, Contains-append_right}
use Rattle.elf_model.specs.declared.objects.Section.{Section}
use Rattle.elf_model.specs.declared.objects.Symbol.{Symbol}
use Rattle.elf_model.specs.declared.objects.Home.{Home}
use Rattle.elf_model.specs.declared.objects.Home.TheVariants as home
use Rattle.elf_model.specs.Constants.{func}
use Rattle.elf_model.specs.Objects.{ObjectParts, is_object, is_symbol, is_inside, is_at_home, has_home, even}
use Rattle.elf_model.proofs.Elements.{contains_cases, contains_here, contains_later, contains_none, all_at, map_contains}
use Rattle.thumb_table.specs.declared.placements.Placement.{Placement}
use Rattle.thumb_table.specs.Layouts.{Placed, all_placed, code_parts, part_of, home_start, start_of}
use Rattle.thumb_table.specs.Names.{Defined, numbered, all_symbols}
use Rattle.thumb_table.specs.LinkFaults.{StandsBefore}
use Rattle.flat_link.specs.declared.lots.Lot.{Lot}
use Rattle.flat_link.specs.Lots.{placed_of}
use Rattle.flat_link.specs.Layout.{AreObjects, Fits}
use Rattle.flat_link.proofs.ListFacts.{InOrder, none, before, has_at}
use Rattle.flat_link.proofs.RawBytes.{ends_inside}
use Rattle.flat_link.proofs.PartFacts.{part_is, code_good, data_good}

abbrev pub defined_at : ℕ → ℕ → Symbol → Defined
defined_at i k s = record { object = i; index = k; symbol = s }

pub record IsNumbered (i k : ℕ) (xs : List Symbol) (d : Defined) : Type 0 where
  pub object : d.object ≡ i
  pub above : k ≤ d.index
  pub there : slice_get xs (d.index - k) ≡ Some d.symbol

later_number : (i k : ℕ) (s : Symbol) (rest : List Symbol) (d : Defined) → IsNumbered i (k + 1) rest d → IsNumbered i k (s ∷ rest) d
later_number i k s rest d h =
    let a = h.above in
    let n : d.index - k ≡ suc (d.index - (k + 1)) = omega arith in
    record { object = h.object; above = omega arith; there = ap (slice_get (s ∷ rest)) n ∙ h.there }

pub numbered_is : (i k : ℕ) (xs : List Symbol) (d : Defined) → Contains (numbered i k xs) d → IsNumbered i k xs d
numbered_is i k [] d h = absurd (contains_none d h)
numbered_is i k (s ∷ rest) d h =
    elim (contains_cases (defined_at i k s) (numbered i (k + 1) rest) d h) [
      | inl e ↦
          let z : k - k ≡ 0 = omega arith in
          subst (λ (q : Defined). IsNumbered i k (s ∷ rest) q) e (record { object = refl; above = omega arith; there = ap (slice_get (s ∷ rest)) z })
      | inr r ↦ later_number i k s rest d (numbered_is i (k + 1) rest d r)
    ]

pub numbered_has : (i k : ℕ) (xs : List Symbol) (j : ℕ) (s : Symbol) → slice_get xs j ≡ Some s → Contains (numbered i k xs) (defined_at i (k + j) s)
numbered_has i k [] j s e = absurd (none-some s e)
numbered_has i k (t ∷ rest) zero s e =
    let a : k ≡ k + 0 = omega arith in
    let b : t ≡ s = same_Some t s e in
    subst (λ (n : ℕ). Contains (numbered i k (t ∷ rest)) (defined_at i n s)) a
    (subst (λ (x : Symbol). Contains (numbered i k (t ∷ rest)) (defined_at i k x)) b (contains_here (defined_at i k t) (numbered i (k + 1) rest)))
numbered_has i k (t ∷ rest) (suc j) s e =
    let a : (k + 1) + j ≡ k + suc j = omega arith in
    contains_later (defined_at i k t) (numbered i (k + 1) rest) (defined_at i (k + suc j) s)
    (subst (λ (n : ℕ). Contains (numbered i (k + 1) rest) (defined_at i n s)) a (numbered_has i (k + 1) rest j s e))

-- the object and number of one of all symbols
pub record IsKnown (i : ℕ) (objects : List ObjectParts) (d : Defined) : Type 0 where
  pub object : ObjectParts
  pub above : i ≤ d.object
  pub there : slice_get objects (d.object - i) ≡ Some object
  pub symbol : slice_get object.symbols d.index ≡ Some d.symbol

later_known : (i : ℕ) (o : ObjectParts) (rest : List ObjectParts) (d : Defined) → IsKnown (i + 1) rest d → IsKnown i (o ∷ rest) d
later_known i o rest d h =
    let a = h.above in
    let n : d.object - i ≡ suc (d.object - (i + 1)) = omega arith in
    record { object = h.object; above = omega arith; there = ap (slice_get (o ∷ rest)) n ∙ h.there; symbol = h.symbol }

pub known_is : (i : ℕ) (objects : List ObjectParts) (d : Defined) → Contains (all_symbols i objects) d → IsKnown i objects d
known_is i [] d c = absurd (contains_none d c)
known_is i (o ∷ rest) d c =
    elim (Contains-append_cases (numbered i 0 o.symbols) (all_symbols (i + 1) rest) d c) [
      | inl a ↦
          let h = numbered_is i 0 o.symbols d a in
          let e = h.object in
          let z : d.object - i ≡ 0 = omega arith in
          let k : d.index ≡ d.index - 0 = omega arith in
          record { object = o; above = omega arith; there = ap (slice_get (o ∷ rest)) z; symbol = ap (slice_get o.symbols) k ∙ h.there }
      | inr b ↦ later_known i o rest d (known_is (i + 1) rest d b)
    ]

known_from : (i : ℕ) (objects : List ObjectParts) (n : ℕ) (o : ObjectParts) (k : ℕ) (s : Symbol) → slice_get objects n ≡ Some o → slice_get o.symbols k ≡ Some s → Contains (all_symbols i objects) (defined_at (i + n) k s)
known_from i [] n o k s e f = absurd (none-some o e)
known_from i (q ∷ rest) zero o k s e f =
    let a : i ≡ i + 0 = omega arith in
    let b : 0 + k ≡ k = omega arith in
    let f2 : slice_get q.symbols k ≡ Some s = subst (λ (z : ObjectParts). slice_get z.symbols k ≡ Some s) (sym (same_Some q o e)) f in
    Contains-append_left (numbered i 0 q.symbols) (all_symbols (i + 1) rest) (defined_at (i + 0) k s)
    (subst (λ (n : ℕ). Contains (numbered i 0 q.symbols) (defined_at n k s)) a (subst (λ (n : ℕ). Contains (numbered i 0 q.symbols) (defined_at i n s)) b (numbered_has i 0 q.symbols k s f2)))
known_from i (q ∷ rest) (suc n) o k s e f =
    let a : (i + 1) + n ≡ i + suc n = omega arith in
    Contains-append_right (numbered i 0 q.symbols) (all_symbols (i + 1) rest) (defined_at (i + suc n) k s)
    (subst (λ (m : ℕ). Contains (all_symbols (i + 1) rest) (defined_at m k s)) a (known_from (i + 1) rest n o k s e f))

pub known_there : (objects : List ObjectParts) (i : ℕ) (o : ObjectParts) (k : ℕ) (s : Symbol) → slice_get objects i ≡ Some o → slice_get o.symbols k ≡ Some s → Contains (all_symbols 0 objects) (defined_at i k s)
known_there objects i o k s e f =
    let a : 0 + i ≡ i = omega arith in
    subst (λ (n : ℕ). Contains (all_symbols 0 objects) (defined_at n k s)) a (known_from 0 objects i o k s e f)

-- They stand in order.
numbered_rise : (i k : ℕ) (xs : List Symbol) → InOrder StandsBefore (numbered i k xs)
numbered_rise i k [] = none
numbered_rise i k (s ∷ rest) =
    before (defined_at i k s) (numbered i (k + 1) rest) (λ d c. let h = numbered_is i (k + 1) rest d c in let a = h.above in inr (sym h.object, omega arith)) (numbered_rise i (k + 1) rest)

append_rise : (xs ys : List Defined) → InOrder StandsBefore xs → InOrder StandsBefore ys → ((d e : Defined) → Contains xs d → Contains ys e → d.object < e.object) → InOrder StandsBefore (xs ++ ys)
append_rise _ ys none h far = h
append_rise _ ys (before x xs b more) h far =
    before x (xs ++ ys) (λ y c. elim (Contains-append_cases xs ys y c) [ inl l ↦ b y l | inr r ↦ inl (far x y (contains_here x xs) r) ]) (append_rise xs ys more h (λ d e c f. far d e (contains_later x xs d c) f))

pub symbols_rise : (i : ℕ) (objects : List ObjectParts) → InOrder StandsBefore (all_symbols i objects)
symbols_rise i [] = none
symbols_rise i (o ∷ rest) =
    append_rise (numbered i 0 o.symbols) (all_symbols (i + 1) rest) (numbered_rise i 0 o.symbols) (symbols_rise (i + 1) rest)
    (λ d e c f. let a = (numbered_is i 0 o.symbols d c).object in let b = (known_is (i + 1) rest e f).above in omega arith)

-- a symbol's address is one of 32 bits
inside : (s : Symbol) (h : Section) → is_inside s h ≡ true → s.value ≤ h.size + 1
inside s h e = go (s.kind == func) (leb-true _ _ e)
  where
    go : (b : Bool) → cond b (even s.value) s.value ≤ h.size → s.value ≤ h.size + 1
    go true l = omega arith
    go false l = omega arith

pub symbol_sound : (o : ObjectParts) (k : ℕ) (s : Symbol) → is_object o ≡ true → slice_get o.symbols k ≡ Some s → is_symbol o.sections s ≡ true
symbol_sound o k s sound at =
    let a = and_parts _ _ sound in
    let b = and_parts _ _ a.0 in
    let c = and_parts _ _ b.0 in
    let d = and_parts _ _ c.0 in
    all_at (is_symbol o.sections) o.symbols k s (and_parts _ _ d.0).1 at

module _ (objects : List ObjectParts) (at : Placement) (sound : AreObjects objects) (fits : Fits objects at) where
  pub part_low : (i j : ℕ) (p : Placed) → part_of (all_placed objects at) i j ≡ Some p → p.start + p.section.size ≤ 0x7FFFF000
  part_low i j p e =
      let h = part_is objects at i j p e in
      let a = fits.code in
      let b = fits.last in
      elim (h.sort) [
        | inl c ↦ let l = ends_inside (λ s. max 4 s.align) at.base _ (code_good objects sound) p c.0 in omega arith
        | inr c ↦ let l = ends_inside (λ s. s.align) (at.base + at.room) _ (data_good objects sound) p c.0 in omega arith
      ]

  -- below 2^32; and, in a section in memory, low
  pub low_home : (d : Defined) → Contains (all_symbols 0 objects) d → (j : ℕ) (p : Placed) → d.symbol.home ≡ home.Section j → part_of (all_placed objects at) d.object j ≡ Some p → p.start + d.symbol.value ≤ 0x7FFFF001
  low_home d c j p e f =
      let k = known_is 0 objects d c in
      let z : d.object ≡ d.object - 0 = omega arith in
      let there : slice_get objects d.object ≡ Some k.object = ap (slice_get objects) z ∙ k.there in
      let s = symbol_sound k.object d.index d.symbol (all_at is_object objects d.object k.object sound there) k.symbol in
      let h : has_home k.object.sections d.symbol (home.Section j) ≡ true = subst (λ (x : Home). has_home k.object.sections d.symbol x ≡ true) e (and_parts _ (has_home k.object.sections d.symbol d.symbol.home) s).1 in
      let q = part_is objects at d.object j p f in
      let same : q.object ≡ k.object = same_Some q.object k.object (sym q.there ∙ there) in
      let section : slice_get k.object.sections j ≡ Some p.section = subst (λ (o : ObjectParts). slice_get o.sections j ≡ Some p.section) same q.section in
      let i = inside d.symbol p.section (subst (λ (o : Option Section). is_at_home k.object.sections d.symbol o ≡ true) section h) in
      let l = part_low d.object j p f in
      omega arith

  pub low_address : (d : Defined) → Contains (all_symbols 0 objects) d → d.symbol.value < 2 ^ 32 → home_start (all_placed objects at) d.object d.symbol.home + d.symbol.value < 2 ^ 32
  low_address d c small = go d.symbol.home refl
    where
      section : (j : ℕ) → d.symbol.home ≡ home.Section j → (p : Option Placed) → part_of (all_placed objects at) d.object j ≡ p → start_of p + d.symbol.value < 2 ^ 32
      section j e None f = omega arith
      section j e (Some p) f = let l = low_home d c j p e f in omega arith

      go : (h : Home) → d.symbol.home ≡ h → home_start (all_placed objects at) d.object h + d.symbol.value < 2 ^ 32
      go home.Undefined e = omega arith
      go home.Absolute e = omega arith
      go (home.Section j) e = section j e (part_of (all_placed objects at) d.object j) refl

  pub lot_low : (lots items : List Lot) → map placed_of lots ≡ code_parts objects at → items ≡ lots → (i : ℕ) (x : Lot) → i < length items → x ≡ get_or items i x → x.start + x.section.now.size ≤ 0x7FFFF000
  lot_low lots items same e i x l is =
      let there : Contains (map placed_of items) (placed_of x) = map_contains placed_of items x (has_at items i x l is) in
      let c : Contains (code_parts objects at) (placed_of x) = subst (λ (ps : List Placed). Contains ps (placed_of x)) (ap (map placed_of) e ∙ same) there in
      let h = ends_inside (λ s. max 4 s.align) at.base _ (code_good objects sound) (placed_of x) c in
      let a = fits.code in
      let b = fits.last in
      omega arith
