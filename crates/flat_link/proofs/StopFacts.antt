-- The stops that are collected are those that an image has.
use Rattle.std.proofs.Common.{◌≡◌, ℕ, zero, suc, ◌+◌, Bool, true, false, cond, List, [], ◌∷◌, ◌++◌, filter, refl, sym, ap, ◌∙◌, subst, inl, inr, arith, Option, Some, None}
use Rattle.std.specs.Prelude.{Contains, slice_get, ◌==◌, ◌&&◌, max, not}
use Rattle.std.specs.Option.{option_to_list}
use Rattle.std.proofs.lemmas.Bool.{and_parts, and_from, cases_Bool, eqb-true, both_ways, not-true}
use Rattle.std.proofs.lemmas.Option.{none-some, same_Some}
use Rattle.std.proofs.lemmas.List.Elements.{Contains-append_left, Contains-append_right, Contains-append_cases}
use Rattle.elf_model.specs.declared.objects.Symbol.{Symbol}
use Rattle.elf_model.specs.declared.objects.Home.{Home}
use Rattle.elf_model.specs.declared.objects.Home.TheVariants as home
use Rattle.elf_model.specs.declared.ranges.RangeKind.{RangeKind}
use Rattle.elf_model.specs.declared.ranges.RangeKind.TheVariants as kind
use Rattle.elf_model.specs.Objects.{ObjectParts, is_code, is_data, is_alloc, even}
use Rattle.elf_model.specs.Ranges.{stands_at}
use Rattle.elf_model.proofs.Elements.{contains_none, contains_map, map_contains, contains_filter, filter_contains, found, given_by, given_is, given_has}
use Rattle.code_ranges.specs.Spans.{kind_at}
use Rattle.code_ranges.proofs.KindFacts.{beginning, kind_here}
use Rattle.thumb_table.specs.declared.placements.Placement.{Placement}
use Rattle.thumb_table.specs.Layouts.{Placed, all_placed, code_parts, data_parts, part_of, home_start, start_of}
use Rattle.thumb_table.specs.Names.{Defined, all_symbols, is_function, is_in_code, address_of}
use Rattle.thumb_table.specs.Images.{IsDataStart, IsStop}
use Rattle.thumb_table.specs.Images.IsStop.{at_function, at_data, at_end}
use Rattle.flat_link.specs.Layout.{AreObjects}
use Rattle.flat_link.specs.Stops.{function_stops, says_data, begins_data, data_place, data_stops, all_data_stops, end_stops}
use Rattle.flat_link.proofs.PartFacts.{part_is, comes_from}
use Rattle.flat_link.proofs.PartOrder.{the_part}

-- what says that data begins
data_kind : (k : Option RangeKind) → says_data k ≡ true → k ≡ Some kind.Data
data_kind None h = absurd (cc)
data_kind (Some kind.Code) h = absurd (cc)
data_kind (Some kind.Arm) h = absurd (cc)
data_kind (Some kind.Data) h = refl

data_are : (parts : List Placed) (i : ℕ) (symbols : List Symbol) (k : ℕ) (rest : List Symbol) → data_stops parts i symbols rest ≡ given_by (λ k s. data_place parts i symbols s) k rest
data_are parts i symbols k [] = refl
data_are parts i symbols k (s ∷ rest) = ap (λ (l : List ℕ). option_to_list (data_place parts i symbols s) ++ l) (data_are parts i symbols (k + 1) rest)

-- a stop of one of the objects
record IsDataStop (parts : List Placed) (i : ℕ) (objects : List ObjectParts) (a : ℕ) : Type 0 where
  pub number : ℕ
  pub object : ObjectParts
  pub there : slice_get objects number ≡ Some object
  pub stop : Contains (data_stops parts (i + number) object.symbols object.symbols) a

all_data_is : (parts : List Placed) (i : ℕ) (objects : List ObjectParts) (a : ℕ) → Contains (all_data_stops parts i objects) a → IsDataStop parts i objects a
all_data_is parts i [] a c = absurd (contains_none a c)
all_data_is parts i (o ∷ rest) a c =
    elim (Contains-append_cases (data_stops parts i o.symbols o.symbols) (all_data_stops parts (i + 1) rest) a c) [
      | inl x ↦
          let z : i ≡ i + 0 = omega arith in
          record { number = 0; object = o; there = refl; stop = subst (λ (n : ℕ). Contains (data_stops parts n o.symbols o.symbols) a) z x }
      | inr y ↦
          let h = all_data_is parts (i + 1) rest a y in
          let z : (i + 1) + h.number ≡ i + suc h.number = omega arith in
          record { number = suc h.number; object = h.object; there = h.there; stop = subst (λ (n : ℕ). Contains (data_stops parts n h.object.symbols h.object.symbols) a) z h.stop }
    ]

all_data_has : (parts : List Placed) (i : ℕ) (objects : List ObjectParts) (n : ℕ) (o : ObjectParts) (a : ℕ) → slice_get objects n ≡ Some o → Contains (data_stops parts (i + n) o.symbols o.symbols) a → Contains (all_data_stops parts i objects) a
all_data_has parts i [] n o a e c = absurd (none-some o e)
all_data_has parts i (q ∷ rest) zero o a e c =
    let z : i + 0 ≡ i = omega arith in
    Contains-append_left (data_stops parts i q.symbols q.symbols) (all_data_stops parts (i + 1) rest) a
    (subst (λ (m : ℕ). Contains (data_stops parts m q.symbols q.symbols) a) z (subst (λ (x : ObjectParts). Contains (data_stops parts (i + 0) x.symbols x.symbols) a) (sym (same_Some q o e)) c))
all_data_has parts i (q ∷ rest) (suc n) o a e c =
    let z : i + suc n ≡ (i + 1) + n = omega arith in
    Contains-append_right (data_stops parts i q.symbols q.symbols) (all_data_stops parts (i + 1) rest) a
    (all_data_has parts (i + 1) rest n o a e (subst (λ (m : ℕ). Contains (data_stops parts m o.symbols o.symbols) a) z c))

module _ (objects : List ObjectParts) (at : Placement) (sound : AreObjects objects) where
  -- a symbol that is defined in code
  pub record InCode (i : ℕ) (h : Home) : Type 0 where
    pub section : ℕ
    pub part : Placed
    pub home : h ≡ home.Section section
    pub there : part_of (all_placed objects at) i section ≡ Some part
    pub code : is_code part.section ≡ true

  pub in_code : (i : ℕ) (h : Home) → is_in_code (all_placed objects at) i h ≡ true → InCode i h
  in_code i home.Undefined y = absurd (cc)
  in_code i home.Absolute y = absurd (cc)
  in_code i (home.Section j) y = go (part_of (all_placed objects at) i j) refl y
    where
      code_of : Option Placed → Bool
      code_of None = false
      code_of (Some p) = is_code p.section

      go : (p : Option Placed) → part_of (all_placed objects at) i j ≡ p → code_of p ≡ true → InCode i (home.Section j)
      go None e y = absurd (cc)
      go (Some p) e y = record { section = j; part = p; home = refl; there = e; code = y }

  data_to : (i : ℕ) (o : ObjectParts) (s : Symbol) (a : ℕ) → slice_get objects i ≡ Some o → data_place (all_placed objects at) i o.symbols s ≡ Some a → IsStop objects (all_placed objects at) a
  data_to i o s a e h =
      elim (cases_Bool (begins_data o.symbols s.home s.value && is_in_code (all_placed objects at) i s.home)) [
        | inr n ↦ absurd (none-some a (sym (ap (λ (b : Bool). cond b (Some (home_start (all_placed objects at) i s.home + s.value)) None) n) ∙ h))
        | inl y ↦
            let p = and_parts (begins_data o.symbols s.home s.value) (is_in_code (all_placed objects at) i s.home) y in
            let c = in_code i s.home p.1 in
            let is : home_start (all_placed objects at) i s.home + s.value ≡ a = same_Some _ _ (sym (ap (λ (b : Bool). cond b (Some (home_start (all_placed objects at) i s.home + s.value)) None) y) ∙ h) in
            let f = part_is objects at i c.section c.part c.there in
            let g = found (λ (q : Placed). (q.object == i) && (q.index == c.section)) (all_placed objects at) c.part c.there in
            let begins : begins_data o.symbols (home.Section c.section) s.value ≡ true = ap (λ (x : Home). begins_data o.symbols x s.value) (sym c.home) ∙ p.0 in
            let start = beginning o kind.Data c.section s.value (data_kind (kind_at o.symbols c.section s.value) begins) in
            let stands : home_start (all_placed objects at) i s.home ≡ c.part.start = ap (λ (x : Home). home_start (all_placed objects at) i x) c.home ∙ ap start_of c.there in
            subst (λ (n : ℕ). IsStop objects (all_placed objects at) n) (ap (λ (n : ℕ). n + s.value) (sym stands) ∙ is)
            (at_data c.part o s.value g.0 c.code (ap (slice_get objects) f.file ∙ e) (subst (λ (n : ℕ). IsDataStart o n s.value) (sym f.index) start))
      ]

  pub to_stop : (a : ℕ) → Contains ((function_stops (all_placed objects at) (all_symbols 0 objects) ++ all_data_stops (all_placed objects at) 0 objects) ++ end_stops (code_parts objects at)) a → IsStop objects (all_placed objects at) a
  to_stop a h =
      elim (Contains-append_cases (function_stops (all_placed objects at) (all_symbols 0 objects) ++ all_data_stops (all_placed objects at) 0 objects) (end_stops (code_parts objects at)) a h) [
        | inl x ↦
            elim (Contains-append_cases (function_stops (all_placed objects at) (all_symbols 0 objects)) (all_data_stops (all_placed objects at) 0 objects) a x) [
              | inl f ↦
                  let r = contains_map (λ (d : Defined). even (address_of (all_placed objects at) d)) (filter (λ (d : Defined). is_function (all_placed objects at) d) (all_symbols 0 objects)) a f in
                  let q = contains_filter (λ (d : Defined). is_function (all_placed objects at) d) (all_symbols 0 objects) r.0 r.1 in
                  subst (λ (n : ℕ). IsStop objects (all_placed objects at) n) r.2 (at_function r.0 q.0 q.1)
              | inr d ↦
                  let r = all_data_is (all_placed objects at) 0 objects a d in
                  let z : 0 + r.number ≡ r.number = omega arith in
                  let g = given_is (λ k s. data_place (all_placed objects at) r.number r.object.symbols s) 0 r.object.symbols a
                  (subst (λ (l : List ℕ). Contains l a) (data_are (all_placed objects at) r.number r.object.symbols 0 r.object.symbols)
                  (subst (λ (n : ℕ). Contains (data_stops (all_placed objects at) n r.object.symbols r.object.symbols) a) z r.stop)) in
                  data_to r.number r.object g.source a r.there g.gives
            ]
        | inr e ↦
            let r = contains_map (λ (p : Placed). p.start + p.section.size) (code_parts objects at) a e in
            let c = comes_from is_code (λ s. max 4 s.align) at.base objects r.0 r.1 in
            subst (λ (n : ℕ). IsStop objects (all_placed objects at) n) r.2
            (at_end r.0 (Contains-append_left (code_parts objects at) (data_parts objects at) r.0 r.1) c.is_sort)
      ]

  -- a part of code is among those of code
  pub code_part : (p : Placed) → Contains (all_placed objects at) p → is_code p.section ≡ true → Contains (code_parts objects at) p
  code_part p h y =
      elim (Contains-append_cases (code_parts objects at) (data_parts objects at) p h) [
        | inl a ↦ a
        | inr b ↦
            let q = comes_from is_data (λ s. s.align) (at.base + at.room) objects p b in
            let d = and_parts (is_alloc p.section.flags) (not (is_code p.section)) q.is_sort in
            absurd (both_ways (is_code p.section) (not-true (is_code p.section) d.1) y)
      ]

  data_from : (p : Placed) (o : ObjectParts) (x : ℕ) → Contains (all_placed objects at) p → is_code p.section ≡ true → slice_get objects p.object ≡ Some o → IsDataStart o p.index x
      → Contains (data_stops (all_placed objects at) p.object o.symbols o.symbols) (p.start + x)
  data_from p o x c y e d =
      subst (λ (l : List ℕ). Contains l (p.start + x)) (sym (data_are (all_placed objects at) p.object o.symbols 0 o.symbols))
      (given_has (λ k s. data_place (all_placed objects at) p.object o.symbols s) 0 o.symbols d.index d.symbol (p.start + x) d.is_there (place d.symbol.home refl d.stands (kind_here o kind.Data p.index x d)))
    where
      place : (h : Home) → d.symbol.home ≡ h → stands_at p.index x h d.symbol.value ≡ true → kind_at o.symbols p.index x ≡ Some kind.Data
          → data_place (all_placed objects at) p.object o.symbols d.symbol ≡ Some (p.start + x)
      place home.Undefined f stands l = absurd (cc)
      place home.Absolute f stands l = absurd (cc)
      place (home.Section j) f stands l =
          let q = and_parts (j == p.index) (d.symbol.value == x) stands in
          let same_j : j ≡ p.index = eqb-true j p.index q.0 in
          let same_x : d.symbol.value ≡ x = eqb-true d.symbol.value x q.1 in
          let its : part_of (all_placed objects at) p.object j ≡ Some p = ap (λ (n : ℕ). part_of (all_placed objects at) p.object n) same_j ∙ the_part objects at sound p c in
          let begins : begins_data o.symbols d.symbol.home d.symbol.value ≡ true =
          ap (λ (h : Home). begins_data o.symbols h d.symbol.value) f ∙ ap (λ (n : ℕ). says_data (kind_at o.symbols n d.symbol.value)) same_j
          ∙ ap (λ (n : ℕ). says_data (kind_at o.symbols p.index n)) same_x ∙ ap says_data l in
          let code : is_in_code (all_placed objects at) p.object d.symbol.home ≡ true = ap (is_in_code (all_placed objects at) p.object) f ∙ code_by j its in
          let start : home_start (all_placed objects at) p.object d.symbol.home ≡ p.start = ap (home_start (all_placed objects at) p.object) f ∙ ap start_of its in
          ap (λ (b : Bool). cond b (Some (home_start (all_placed objects at) p.object d.symbol.home + d.symbol.value)) None) (and_from (begins_data o.symbols d.symbol.home d.symbol.value) (is_in_code (all_placed objects at) p.object d.symbol.home) begins code)
          ∙ ap (λ (n : ℕ). Some (n + d.symbol.value)) start ∙ ap (λ (n : ℕ). Some (p.start + n)) same_x
        where
          code_of : Option Placed → Bool
          code_of None = false
          code_of (Some q) = is_code q.section

          code_by : (j : ℕ) → part_of (all_placed objects at) p.object j ≡ Some p → is_in_code (all_placed objects at) p.object (home.Section j) ≡ true
          code_by j e = ap (λ (q : Option Placed). code_of q) e ∙ y

  pub from_stop : (a : ℕ) → IsStop objects (all_placed objects at) a → Contains ((function_stops (all_placed objects at) (all_symbols 0 objects) ++ all_data_stops (all_placed objects at) 0 objects) ++ end_stops (code_parts objects at)) a
  from_stop a (at_function d c y) =
      let functions = function_stops (all_placed objects at) (all_symbols 0 objects) in
      Contains-append_left (functions ++ all_data_stops (all_placed objects at) 0 objects) (end_stops (code_parts objects at)) (even (address_of (all_placed objects at) d))
      (Contains-append_left functions (all_data_stops (all_placed objects at) 0 objects) (even (address_of (all_placed objects at) d))
      (map_contains (λ (d : Defined). even (address_of (all_placed objects at) d)) (filter (λ (d : Defined). is_function (all_placed objects at) d) (all_symbols 0 objects)) d
      (filter_contains (λ (d : Defined). is_function (all_placed objects at) d) (all_symbols 0 objects) d c y)))
  from_stop a (at_data p o x c y e d) =
      let functions = function_stops (all_placed objects at) (all_symbols 0 objects) in
      let z : p.object ≡ 0 + p.object = omega arith in
      Contains-append_left (functions ++ all_data_stops (all_placed objects at) 0 objects) (end_stops (code_parts objects at)) (p.start + x)
      (Contains-append_right functions (all_data_stops (all_placed objects at) 0 objects) (p.start + x)
      (all_data_has (all_placed objects at) 0 objects p.object o (p.start + x) e
      (subst (λ (n : ℕ). Contains (data_stops (all_placed objects at) n o.symbols o.symbols) (p.start + x)) z (data_from p o x c y e d))))
  from_stop a (at_end p c y) =
      let functions = function_stops (all_placed objects at) (all_symbols 0 objects) in
      Contains-append_right (functions ++ all_data_stops (all_placed objects at) 0 objects) (end_stops (code_parts objects at)) (p.start + p.section.size)
      (map_contains (λ (p : Placed). p.start + p.section.size) (code_parts objects at) p (code_part p c y))
