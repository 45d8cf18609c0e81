-- The list of addresses that maps take is the relation that their rows make of two images.
use Rattle.std.proofs.Common.{◌≡◌, ℕ, ◌+◌, ◌-◌, ◌<◌, ◌≤◌, ◌⊎◌, ◌%◌, ◌^◌, Bool, true, false, List, [], ◌∷◌, ◌++◌, Option, Some, None, refl, sym, ap, ◌∙◌, subst, arith, inl, inr}
use Rattle.std.specs.Prelude.{◌↔◌, ◌==◌, ◌&&◌, if◌then◌else◌, nat_lt, nat_le, slice_get, Contains}
use Rattle.std.proofs.lemmas.Bool.{both_ways, eqb-true, and_parts}
use Rattle.std.proofs.lemmas.Bool.Decides.{nat_tests}
use Rattle.std.proofs.lemmas.List.Elements.{Contains-append_left, Contains-append_right, Contains-append_cases}
use Rattle.elf_model.specs.declared.objects.MapRow.{MapRow}
use Rattle.elf_model.specs.declared.objects.RowKind.{RowKind}
use Rattle.elf_model.specs.declared.objects.RowKind.TheVariants.{Start, Return}
use Rattle.elf_model.proofs.Elements.{contains_cases, contains_none, contains_here, contains_later}
use Rattle.thumb_table.specs.declared.parts.Part.{Part}
use Rattle.thumb_table.specs.Images.{even}
use Rattle.thumb_table.specs.Parts.{Image}
use Rattle.sim_relation.specs.declared.address_maps.Taken.{Taken}
use Rattle.sim_relation.specs.AddressMaps.{RowTakes, TakesEntry, TakesReturn}
use Rattle.sim_relation.specs.Taken.{TakenTo, is_kind, lies_at, is_row_of, is_twin, taken, gathered, by_twins, by_part, by_parts, rows_in}
use Rattle.sim_relation.proofs.ShortLists.{only}

-- an element that passes gives it
module _ {X : Type 0} (test : X → Bool) (gives : X → List Taken) (t : Taken) where
  abbrev pub Giver : List X → Type 0
  Giver xs = (x : X) × Contains xs x × (test x ≡ true) × Contains (gives x) t

  pub from_gathered : (xs : List X) → Contains (gathered test gives xs) t → Giver xs
  from_gathered [] c = absurd (contains_none t c)
  from_gathered (y ∷ ys) c = by (test y) refl c (from_gathered ys)
    where
      later : Giver ys → Giver (y ∷ ys)
      later q = (q.0, contains_later y ys q.0 q.1, q.2, q.3)

      by : (b : Bool) → test y ≡ b → Contains (if b then gives y ++ gathered test gives ys else gathered test gives ys) t → (Contains (gathered test gives ys) t → Giver ys) → Giver (y ∷ ys)
      by true e c rest = elim (Contains-append_cases (gives y) (gathered test gives ys) t c) [ inl h ↦ (y, contains_here y ys, e, h) | inr r ↦ later (rest r) ]
      by false e c rest = later (rest c)

  pub to_gathered : (xs : List X) (x : X) → Contains xs x → test x ≡ true → Contains (gives x) t → Contains (gathered test gives xs) t
  to_gathered [] x c p g = absurd (contains_none x c)
  to_gathered (y ∷ ys) x c p g = by (test y) refl (contains_cases y ys x c) (λ r. to_gathered ys x r p g)
    where
      by : (b : Bool) → test y ≡ b → (y ≡ x) ⊎ Contains ys x → (Contains ys x → Contains (gathered test gives ys) t) → Contains (if b then gives y ++ gathered test gives ys else gathered test gives ys) t
      by true e (inl h) rest = Contains-append_left (gives y) (gathered test gives ys) t (subst (λ z. Contains (gives z) t) (sym h) g)
      by true e (inr r) rest = Contains-append_right (gives y) (gathered test gives ys) t (rest r)
      by false e (inl h) rest = absurd (both_ways (test x) (subst (λ z. test z ≡ false) h e) p)
      by false e (inr r) rest = rest r

rows_there : (o : Option (List MapRow)) (row : MapRow) → Contains (rows_in o) row → (rows : List MapRow) × (o ≡ Some rows) × Contains rows row
rows_there None row c = absurd (contains_none row c)
rows_there (Some rows) row c = (rows, refl, c)

kind_is : (k j : RowKind) → is_kind k j ≡ true → j ≡ k
kind_is Start Start e = refl
kind_is Start Return e = absurd cc
kind_is Return Start e = absurd cc
kind_is Return Return e = refl

kind_same : (k j : RowKind) → j ≡ k → is_kind k j ≡ true
kind_same Start j e = ap (is_kind Start) e
kind_same Return j e = ap (is_kind Return) e

all_three : (a b c : Bool) → a ≡ true → b ≡ true → c ≡ true → (a && (b && c)) ≡ true
all_three a b c d e f = grind arith

equal : (a b : ℕ) → a ≡ b → (a == b) ≡ true
equal a b e = grind (arith, nat_tests)

module _ (plain hard : Image) (maps : List (List MapRow)) (kind : RowKind) where
  -- a row in its section, and the hardened section
  record Given (a b : ℕ) : Type 0 where
    part : Part
    is_part : Contains plain.parts part
    code : part.code ≡ true
    rows : List MapRow
    map : slice_get maps part.object ≡ Some rows
    row : MapRow
    listed : Contains rows row
    of_section : row.section ≡ part.ordinal
    of_kind : row.kind ≡ kind
    lies : lies_at kind row.old part.size ≡ true
    of_place : part.start + row.old ≡ even a
    twin : Part
    is_twin : Contains hard.parts twin
    twin_code : twin.code ≡ true
    of_object : twin.object ≡ part.object
    of_ordinal : twin.ordinal ≡ part.ordinal
    gives : b ≡ even ((twin.start + row.new) % 2 ^ 32) + a % 2

  given_by : (a b : ℕ) (t : Taken) → Contains (by_parts kind hard.parts maps plain.parts) t → t.from ≡ even a → b ≡ even t.to + a % 2 → Given a b
  given_by a b t c from to =
      let p = from_gathered (λ (part : Part). part.code) (by_part kind hard.parts maps) t plain.parts c in
      let part = p.0 in
      let r = from_gathered (is_row_of kind part) (λ row. by_twins part row hard.parts) t (rows_in (slice_get maps part.object)) p.3 in
      let row = r.0 in
      let w = from_gathered (is_twin part) (λ other. taken part row other ∷ []) t hard.parts r.3 in
      let other = w.0 in
      let rows = rows_there (slice_get maps part.object) row r.1 in
      let tests = and_parts (row.section == part.ordinal) (is_kind kind row.kind && lies_at kind row.old part.size) r.2 in
      let more = and_parts (is_kind kind row.kind) (lies_at kind row.old part.size) tests.1 in
      let twins = and_parts other.code ((other.object == part.object) && (other.ordinal == part.ordinal)) w.2 in
      let same = and_parts (other.object == part.object) (other.ordinal == part.ordinal) twins.1 in
      let is : taken part row other ≡ t = only (taken part row other) t w.3 in
      record {
        part = part;
        is_part = p.1;
        code = p.2;
        rows = rows.0;
        map = rows.1;
        row = row;
        listed = rows.2;
        of_section = eqb-true row.section part.ordinal tests.0;
        of_kind = kind_is kind row.kind more.0;
        lies = more.1;
        of_place = ap (λ (s : Taken). s.from) is ∙ from;
        twin = other;
        is_twin = w.1;
        twin_code = twins.0;
        of_object = eqb-true other.object part.object same.0;
        of_ordinal = eqb-true other.ordinal part.ordinal same.1;
        gives = to ∙ ap (λ (s : Taken). even s.to + a % 2) (sym is);
      }

  row_takes : (byte a b : ℕ) (g : Given a b) → g.part.start ≤ byte → byte < g.part.start + g.part.size → RowTakes plain hard maps kind byte a b
  row_takes byte a b g low high = record {
    old_part = g.part;
    holds = record { there = g.is_part; code = g.code; from = low; below = high };
    rows = g.rows;
    map = g.map;
    row = g.row;
    listed = g.listed;
    of_section = g.of_section;
    of_kind = g.of_kind;
    of_place = g.of_place;
    new_part = g.twin;
    there = g.is_twin;
    code = g.twin_code;
    of_object = g.of_object;
    of_ordinal = g.of_ordinal;
    gives = g.gives;
  }

  taken_by : (byte a b : ℕ) (r : RowTakes plain hard maps kind byte a b) → lies_at kind r.row.old r.old_part.size ≡ true
      → (t : Taken) × Contains (by_parts kind hard.parts maps plain.parts) t × (t.from ≡ even a) × (b ≡ even t.to + a % 2)
  taken_by byte a b r lies =
      let part = r.old_part in
      let row = r.row in
      let other = r.new_part in
      let t : Taken = taken part row other in
      let at_twin = to_gathered (is_twin part) (λ other. taken part row other ∷ []) t hard.parts other r.there
      (all_three other.code (other.object == part.object) (other.ordinal == part.ordinal) r.code (equal other.object part.object r.of_object) (equal other.ordinal part.ordinal r.of_ordinal))
      (contains_here t []) in
      let listed : Contains (rows_in (slice_get maps part.object)) row = subst (λ o. Contains (rows_in o) row) (sym r.map) r.listed in
      let at_row = to_gathered (is_row_of kind part) (λ row. by_twins part row hard.parts) t (rows_in (slice_get maps part.object)) row listed
      (all_three (row.section == part.ordinal) (is_kind kind row.kind) (lies_at kind row.old part.size) (equal row.section part.ordinal r.of_section) (kind_same kind row.kind r.of_kind) lies) at_twin in
      (t, to_gathered (λ (part : Part). part.code) (by_part kind hard.parts maps) t plain.parts part r.holds.there r.holds.code at_row, r.of_place, r.gives)

starts_low : (old size : ℕ) → lies_at Start old size ≡ true → old < size
starts_low old size e = grind (arith, nat_tests)

low_starts : (old size : ℕ) → old < size → lies_at Start old size ≡ true
low_starts old size l = grind (arith, nat_tests)

returns_low : (old size : ℕ) → lies_at Return old size ≡ true → (0 < old) × (old ≤ size)
returns_low old size e = let both = and_parts (nat_lt 0 old) (nat_le old size) e in (grind (arith, nat_tests), grind (arith, nat_tests))

low_returns : (old size : ℕ) → 0 < old → old ≤ size → lies_at Return old size ≡ true
low_returns old size a b = grind (arith, nat_tests)

module _ (plain hard : Image) (maps : List (List MapRow)) (a b : ℕ) where
  pub entries_are : TakenTo (by_parts Start hard.parts maps plain.parts) a b ↔ TakesEntry plain hard maps a b
  entries_are = (to, from)
    where
      to : TakenTo (by_parts Start hard.parts maps plain.parts) a b → TakesEntry plain hard maps a b
      to (inl e) = inl e
      to (inr (t, c, f, g)) =
          let r = given_by plain hard maps Start a b t c f g in
          let low = starts_low r.row.old r.part.size r.lies in
          inr (row_takes plain hard maps Start (even a) a b r (omega (arith, r.of_place)) (omega (arith, r.of_place, low)))

      from : TakesEntry plain hard maps a b → TakenTo (by_parts Start hard.parts maps plain.parts) a b
      from (inl e) = inl e
      from (inr r) = inr (taken_by plain hard maps Start (even a) a b r (low_starts r.row.old r.old_part.size (omega (arith, r.of_place, r.holds.below))))

  pub returns_are : TakenTo (by_parts Return hard.parts maps plain.parts) a b ↔ TakesReturn plain hard maps a b
  returns_are = (to, from)
    where
      to : TakenTo (by_parts Return hard.parts maps plain.parts) a b → TakesReturn plain hard maps a b
      to (inl e) = inl e
      to (inr (t, c, f, g)) =
          let r = given_by plain hard maps Return a b t c f g in
          let low = returns_low r.row.old r.part.size r.lies in
          let byte : ℕ = r.part.start + r.row.old - 1 in
          let next : byte + 1 ≡ even a = omega (arith, r.of_place, low.0) in
          inr (byte, next, row_takes plain hard maps Return byte a b r (omega (arith, low.0)) (omega (arith, low.0, low.1)))

      from : TakesReturn plain hard maps a b → TakenTo (by_parts Return hard.parts maps plain.parts) a b
      from (inl e) = inl e
      from (inr (byte, next, r)) =
          inr (taken_by plain hard maps Return byte a b r (low_returns r.row.old r.old_part.size (omega (arith, r.of_place, next, r.holds.from)) (omega (arith, r.of_place, next, r.holds.below))))
