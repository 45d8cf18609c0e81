-- Units and words of a hardened object lie in its sections of code, and there are few rows.
use Rattle.std.proofs.Common.{◌≡◌, ◌<◌, ◌≤◌, ℕ, ◌+◌, ◌*◌, Bool, true, false, cond, List, [], ◌∷◌, length, refl, sym, ap, subst, arith, length-append, Option, Some, None}
use Rattle.std.specs.Prelude.{slice_get, slice_index, IsTrue, find, nat_le, ◌&&◌}
use Rattle.std.specs.List.{zip}
use Rattle.std.specs.Option.{option_to_list}
use Rattle.std.proofs.lemmas.Bool.{and_parts, and_from, leb-true}
use Rattle.std.proofs.lemmas.Bool.Decides.{nat_tests}
use Rattle.std.proofs.lemmas.Option.{none-some, same_Some, get_or_from_slice_get}
use Rattle.elf_model.specs.declared.objects.MapRow.{MapRow}
use Rattle.elf_model.specs.declared.refusals.TheConstants.Limit.{INPUT}
use Rattle.elf_model.specs.Objects.{ObjectParts, is_object, is_within, code_size}
use Rattle.elf_model.proofs.Elements.{contains_at, found}
use Rattle.reloc_places.proofs.StartFacts.{any_limit}
use Rattle.flow_recover.specs.declared.flows.Point.{Point}
use Rattle.flow_recover.specs.declared.flows.PoolWord.{PoolWord}
use Rattle.flow_recover.specs.Flows.{FlowParts}
use Rattle.flow_recover.specs.WholeFlows.{IsFlow}
use Rattle.seq_core.specs.Places.{LayoutParts}
use Rattle.hardened_form.specs.Places.{UnitPlace}
use Rattle.hardened_form.specs.Items.{Item}
use Rattle.hardened_form.specs.Standing.{is_unit_of, new_of}
use Rattle.branch_layout.specs.Laid.{laid_places}
use Rattle.branch_layout.proofs.WithinFacts.{IsWithin}
use Rattle.emit_object.specs.Emitting.{CanEmit}
use Rattle.emit_object.specs.FirstItems.{AreItemsOf}
use Rattle.emit_object.specs.Laid.{HasCode, HasSizes}
use Rattle.emit_object.specs.LieInside.{LiesIn, LieInside}
use Rattle.emit_object.specs.RowLists.{start_row, return_row, merged, is_earlier, rows_from}
use Rattle.emit_object.proofs.LayoutGives.{unit_stands, word_stands, word_at, begins_there}
use Rattle.emit_object.proofs.MoveFacts.{unit_at}
use Rattle.emit_object.proofs.RowPoints.{point_at}

-- what harden takes at most is less than what others take
pub input_within : (o : ObjectParts) → IsTrue (is_within o INPUT) → IsTrue (is_within o any_limit)
input_within o h =
    let a = and_parts (nat_le (length o.sections) INPUT.sections && nat_le (length o.symbols) INPUT.symbols && nat_le (length o.relocs) INPUT.relocs) (nat_le (code_size o.sections) INPUT.code) h in
    let b = and_parts (nat_le (length o.sections) INPUT.sections && nat_le (length o.symbols) INPUT.symbols) (nat_le (length o.relocs) INPUT.relocs) a.0 in
    let c = and_parts (nat_le (length o.sections) INPUT.sections) (nat_le (length o.symbols) INPUT.symbols) b.0 in
    let sections = leb-true (length o.sections) INPUT.sections c.0 in
    let symbols = leb-true (length o.symbols) INPUT.symbols c.1 in
    let relocs = leb-true (length o.relocs) INPUT.relocs b.1 in
    let code = leb-true (code_size o.sections) INPUT.code a.1 in
    and_from (nat_le (length o.sections) any_limit.sections && nat_le (length o.symbols) any_limit.symbols && nat_le (length o.relocs) any_limit.relocs) (nat_le (code_size o.sections) any_limit.code)
    (and_from (nat_le (length o.sections) any_limit.sections && nat_le (length o.symbols) any_limit.symbols) (nat_le (length o.relocs) any_limit.relocs)
    (and_from (nat_le (length o.sections) any_limit.sections) (nat_le (length o.symbols) any_limit.symbols) (low (length o.sections) any_limit.sections (omega arith)) (low (length o.symbols) any_limit.symbols (omega arith)))
    (low (length o.relocs) any_limit.relocs (omega arith))) (low (code_size o.sections) any_limit.code (omega arith))
  where
    low : (m n : ℕ) → m ≤ n → nat_le m n ≡ true
    low m n le = grind (arith, nat_tests)

-- two rows for each point at most
module _ (number : ℕ → ℕ) where
  rows_at_most : (waiting : Option MapRow) (es : List (Point × UnitPlace)) → length (rows_from number waiting es) ≤ length (option_to_list waiting) + 2 * length es
  rows_at_most waiting [] = omega arith
  rows_at_most waiting (e ∷ es) =
      let rest = rows_at_most (return_row (number e.0.section) e) es in
      let first = merged_length waiting (start_row (number e.0.section) e) in
      let one = return_length (return_row (number e.0.section) e) in
      let both = length-append (merged waiting (start_row (number e.0.section) e)) (rows_from number (return_row (number e.0.section) e) es) in
      omega (arith, rest, first, one, both)
    where
      merged_length : (w : Option MapRow) (s : MapRow) → length (merged w s) ≡ length (option_to_list w) + 1
      merged_length None s = refl
      merged_length (Some r) s = go (is_earlier r s)
        where
          go : (b : Bool) → length (cond b (r ∷ s ∷ []) (s ∷ r ∷ [])) ≡ 2
          go true = refl
          go false = refl

      return_length : (w : Option MapRow) → length (option_to_list w) ≤ 1
      return_length None = omega arith
      return_length (Some r) = omega arith

  pub rows_few : (points : List Point) (places : List UnitPlace) → length (rows_from number None (zip points places)) ≤ 2 * length points
  rows_few points places = let most = rows_at_most None (zip points places) in let short = zip_short points places in omega (arith, most, short)
    where
      zip_short : (xs : List Point) (ys : List UnitPlace) → length (zip xs ys) ≤ length xs
      zip_short [] ys = omega arith
      zip_short (x ∷ xs) [] = omega arith
      zip_short (x ∷ xs) (y ∷ ys) = let rest = zip_short xs ys in omega (arith, rest)

-- the numbers of a map are small
pub map_small : (o : ObjectParts) (f : FlowParts) → IsTrue (is_within o INPUT) → IsFlow o f → (rows : List MapRow) → length rows ≤ 2 * length f.points → 16 * length rows < 4294967296
map_small o f within flow rows few =
    let a = and_parts (nat_le (length o.sections) INPUT.sections && nat_le (length o.symbols) INPUT.symbols && nat_le (length o.relocs) INPUT.relocs) (nat_le (code_size o.sections) INPUT.code) within in
    let code = leb-true (code_size o.sections) INPUT.code a.1 in
    let points = flow.few in
    omega arith

module _ (o : ObjectParts) (f : FlowParts) (sound : is_object o ≡ true) (within : IsTrue (is_within o any_limit)) (flow : IsFlow o f) (l : LayoutParts) (can : CanEmit o f l) where
  -- points and words are of sections of code
  point_in_code : (k : ℕ) (x : Point) → slice_get f.points k ≡ Some x → HasCode o.sections x.section
  point_in_code k x at =
      let p = point_at o f sound within flow k x at in
      record { section = p.start.range.section; there = p.start.range.is_there; code = p.start.range.in_code }

  word_in_code : (n : ℕ) (w : PoolWord) → slice_get f.words n ≡ Some w → HasCode o.sections w.section
  word_in_code n w at =
      let is = (flow.words w).0 (contains_at f.words n w at) in
      let range = is.loads.found.start.range in
      subst (λ (j : ℕ). HasCode o.sections j) (sym is.section) (record { section = range.section; there = range.is_there; code = range.in_code })

  module _ (h : ObjectParts) (sized : HasSizes o h l.sizes) where
    lies : (j x : ℕ) → HasCode o.sections j → x ≤ slice_index l.sizes j → LiesIn h j x
    lies j x code low =
        let new = sized.news j code.section code.there code.code in
        let size = sized.same j new.section new.there new.code in
        record { section = new.section; there = new.there; low = omega arith }

    below_size : (j a b : ℕ) → IsWithin l.sizes j a b → b ≤ slice_index l.sizes j
    below_size j a b in_it = let size = get_or_from_slice_get l.sizes j in_it.size 0 in_it.there in let high = in_it.high in omega arith

    pub lie_inside : (items : List Item) → AreItemsOf f l items → LieInside h f (laid_places l) items
    lie_inside items are = record {
      points = λ j x y e. at_point j x y (find (is_unit_of j x) items) refl e;
      words = λ j x has.
          let w = word_at o f l can j x has in
          let high = below_size w.word.section x (x + 4) (word_stands o f l can w.index w.word x w.there w.laid_at) in
          subst (λ (i : ℕ). LiesIn h i x) w.section (lies w.word.section x (word_in_code w.index w.word w.there) (omega arith));
      units = λ j x has.
          let u = begins_there o f l can j x has in
          let is = can.each u.index u.point u.unit u.there u.laid_at in
          let high = below_size u.unit.unit.section u.unit.start (u.unit.start + u.unit.length) (unit_stands o f l can u.index u.unit u.laid_at) in
          let same : slice_index l.sizes u.unit.unit.section ≡ slice_index l.sizes u.point.section = ap (slice_index l.sizes) is.section in
          let start = u.start in
          subst (λ (i : ℕ). LiesIn h i x) u.section (lies u.point.section x (point_in_code u.index u.point u.there) (omega arith));
    }
      where
        at_point : (j x y : ℕ) (it : Option Item) → find (is_unit_of j x) items ≡ it → new_of it ≡ Some y → LiesIn h j (y + 1)
        at_point j x y None e n = absurd (none-some y n)
        at_point j x y (Some it) e n =
            let good = found (is_unit_of j x) items it e in
            let u = unit_at f l j x items are it good.0 good.1 in
            let is = can.each u.index u.point u.unit u.there u.laid in
            let before = can.inside u.index u.unit u.laid in
            let same : slice_index l.sizes u.unit.unit.section ≡ slice_index l.sizes u.point.section = ap (slice_index l.sizes) is.section in
            let begins : it.new ≡ y = same_Some it.new y n in
            let new = u.new in
            subst (λ (i : ℕ). LiesIn h i (y + 1)) u.section (lies u.point.section (y + 1) (point_in_code u.index u.point u.there) (omega arith))
