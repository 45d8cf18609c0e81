-- The table of sections in their places, and when they fit.
use Rattle.std.proofs.Common.{◌≡◌, ◌≤◌, ◌<◌, ℕ, suc, ◌+◌, ◌-◌, ◌*◌, Bool, true, cond, List, [], ◌∷◌, ◌++◌, length, take, get_or, map, refl, sym, ap, ◌∙◌, subst, inl, inr, arith, Option, Some, None}
use Rattle.std.specs.Prelude.{Contains, slice_get, nat_le, ◌==◌, ◌&&◌, option_map, All, IsTrue}
use Rattle.std.specs.List.{list_all}
use Rattle.std.specs.Option.{option_or}
use Rattle.std.proofs.lemmas.Bool.{and_parts, and_from, cases_Bool, eqb-true, leb-true}
use Rattle.std.proofs.lemmas.List.{map-append, length-append}
use Rattle.std.proofs.lemmas.List.Folds.{find-append}
use Rattle.elf_model.specs.declared.objects.Section.{Section}
use Rattle.elf_model.specs.declared.refusals.TheConstants.Limit.{ANY}
use Rattle.elf_model.specs.Objects.{ObjectParts, is_section, is_object, is_within, code_size}
use Rattle.elf_model.proofs.Lists.{All_at}
use Rattle.elf_model.specs.Canonical.{round_up}
use Rattle.elf_model.proofs.Elements.{contains_here, contains_later, all_at}
use Rattle.thumb_table.specs.declared.placements.Placement.{Placement}
use Rattle.thumb_table.specs.Layouts.{Placed, chosen, all_chosen, part_of}
use Rattle.flat_link.specs.declared.lots.Lot.{Lot}
use Rattle.flat_link.specs.declared.sorts.Sort.TheVariants.{Code, Data}
use Rattle.flat_link.specs.Lots.{placed_of, is_sound}
use Rattle.flat_link.specs.Placing.{alignment_of, end_of, can_fit}
use Rattle.flat_link.specs.Layout.{AreObjects}
use Rattle.flat_link.proofs.ListFacts.{taken}
use Rattle.flat_link.proofs.NameFacts.{or_none}
use Rattle.flat_link.proofs.PartFacts.{all_chosen_is, section_sound}

at_place : (a b i j : ℕ) → ((a == i) && (b == j)) ≡ true → (a ≡ i) × (b ≡ j)
at_place a b i j y = let p = and_parts (a == i) (b == j) y in (eqb-true a i p.0, eqb-true b j p.1)

-- a place that had no section has this one
pub lot_new : (a b i j : ℕ) (old : ℕ → ℕ → Option Lot) (l : Lot) (new : Option Lot) → new ≡ cond ((a == i) && (b == j)) (Some l) (old i j) → old a b ≡ None
    → option_map placed_of new ≡ option_or (option_map placed_of (old i j)) (cond ((a == i) && (b == j)) (Some (placed_of l)) None)
lot_new a b i j old l new e none =
    elim (cases_Bool ((a == i) && (b == j))) [
      | inl y ↦
          let p = at_place a b i j y in
          let empty : old i j ≡ None = ap (λ (n : ℕ). old n j) (sym p.0) ∙ ap (λ (n : ℕ). old a n) (sym p.1) ∙ none in
          ap (option_map placed_of) (e ∙ ap (λ (t : Bool). cond t (Some l) (old i j)) y)
          ∙ sym (ap (λ (o : Option Lot). option_or (option_map placed_of o) (cond ((a == i) && (b == j)) (Some (placed_of l)) None)) empty ∙ ap (λ (t : Bool). cond t (Some (placed_of l)) None) y)
      | inr d ↦
          ap (option_map placed_of) (e ∙ ap (λ (t : Bool). cond t (Some l) (old i j)) d)
          ∙ sym (ap (λ (t : Bool). option_or (option_map placed_of (old i j)) (cond t (Some (placed_of l)) None)) d ∙ or_none (option_map placed_of (old i j)))
    ]

pub lot_old : (a b i j : ℕ) (old : ℕ → ℕ → Option Lot) (l f : Lot) → old a b ≡ Some f
    → option_map placed_of (old i j) ≡ option_or (option_map placed_of (old i j)) (cond ((a == i) && (b == j)) (Some (placed_of l)) None)
lot_old a b i j old l f some =
    elim (cases_Bool ((a == i) && (b == j))) [
      | inl y ↦
          let p = at_place a b i j y in
          let full : old i j ≡ Some f = ap (λ (n : ℕ). old n j) (sym p.0) ∙ ap (λ (n : ℕ). old a n) (sym p.1) ∙ some in
          ap (option_map placed_of) full ∙ sym (ap (λ (o : Option Lot). option_or (option_map placed_of o) (cond ((a == i) && (b == j)) (Some (placed_of l)) None)) full)
      | inr d ↦ sym (ap (λ (t : Bool). option_or (option_map placed_of (old i j)) (cond t (Some (placed_of l)) None)) d ∙ or_none (option_map placed_of (old i j)))
    ]

or_assoc : {X : Type 0} (a b c : Option X) → option_or (option_or a b) c ≡ option_or a (option_or b c)
or_assoc None b c = refl
or_assoc (Some x) b c = refl

-- one section more
pub part_more : (lots : List Lot) (k : ℕ) (l : Lot) (i j : ℕ) (o new : Option Placed) → k < length lots → l ≡ get_or lots k l
    → new ≡ option_or (option_or o (part_of (map placed_of (take k lots)) i j)) (part_of (placed_of l ∷ []) i j) → new ≡ option_or o (part_of (map placed_of (take (k + 1) lots)) i j)
part_more lots k l i j o new less is e =
    e ∙ or_assoc o (part_of (map placed_of (take k lots)) i j) (part_of (placed_of l ∷ []) i j)
    ∙ ap (option_or o) (sym (ap (λ (t : List Lot). part_of (map placed_of t) i j) (taken lots k l less is)
    ∙ ap (λ (t : List Placed). part_of t i j) (map-append placed_of (take k lots) (l ∷ []))
    ∙ find-append (λ (p : Placed). (p.object == i) && (p.index == j)) (map placed_of (take k lots)) (placed_of l ∷ [])))

-- what fits ends low
pub fit_ends : (code memory : List Placed) (at : Placement) → can_fit code memory at ≡ true
    → (end_of (alignment_of Code) at.base code ≤ at.base + at.room) × (end_of (alignment_of Data) (at.base + at.room) memory ≤ 0x7FFFF000)
fit_ends code memory at h =
    let a = nat_le (end_of (alignment_of Code) at.base code) (at.base + at.room) in
    let b = nat_le (round_up (end_of (alignment_of Data) (at.base + at.room) memory - (at.base + at.room)) 8 + at.stack) 16777216 in
    let c = nat_le (end_of (alignment_of Data) (at.base + at.room) memory) 0x7FFFF000 in
    let p = and_parts (a && b) c h in
    let q = and_parts a b p.0 in
    (leb-true _ _ q.0, leb-true _ _ p.1)

all_sound : (lots : List Lot) → ((p : Placed) → Contains (map placed_of lots) p → is_section p.section ≡ true) → list_all is_sound lots ≡ true
all_sound [] h = refl
all_sound (l ∷ lots) h = and_from (is_sound l) (list_all is_sound lots) (h (placed_of l) (contains_here (placed_of l) (map placed_of lots))) (all_sound lots (λ p c. h p (contains_later (placed_of l) (map placed_of lots) p c)))

pub sound_lots : (sort : Section → Bool) (objects : List ObjectParts) (lots : List Lot) → AreObjects objects → map placed_of lots ≡ all_chosen sort 0 objects → list_all is_sound lots ≡ true
sound_lots sort objects lots sound e =
    all_sound lots (λ p c.
    let h = all_chosen_is sort 0 objects p (subst (λ (l : List Placed). Contains l p) e c) in
    section_sound h.object p.index p.section (all_at is_object objects h.number h.object sound h.there) h.section)

-- there are few of them
few_chosen : (sort : Section → Bool) (i j k : ℕ) (sections : List Section) → length (chosen sort i j k sections) ≤ length sections
few_chosen sort i j k [] = omega arith
few_chosen sort i j k (s ∷ rest) =
    let first : Placed = record { object = i; index = j; ordinal = k; start = 0; section = s } in
    elim (cases_Bool (sort s)) [
      | inl y ↦
          let e : length (chosen sort i j k (s ∷ rest)) ≡ suc (length (chosen sort i (j + 1) (k + 1) rest)) = ap (λ (b : Bool). length (cond b (first ∷ chosen sort i (j + 1) (k + 1) rest) (chosen sort i (j + 1) k rest))) y in
          let h = few_chosen sort i (j + 1) (k + 1) rest in
          omega arith
      | inr n ↦
          let e : length (chosen sort i j k (s ∷ rest)) ≡ length (chosen sort i (j + 1) k rest) = ap (λ (b : Bool). length (cond b (first ∷ chosen sort i (j + 1) (k + 1) rest) (chosen sort i (j + 1) k rest))) n in
          let h = few_chosen sort i (j + 1) k rest in
          omega arith
    ]

few_all : (sort : Section → Bool) (i : ℕ) (objects : List ObjectParts) → ((n : ℕ) (o : ObjectParts) → slice_get objects n ≡ Some o → length o.sections ≤ 1024) → length (all_chosen sort i objects) ≤ 1024 * length objects
few_all sort i [] h = omega arith
few_all sort i (o ∷ rest) h =
    let a = few_chosen sort i 0 0 o.sections in
    let b = h 0 o refl in
    let c = few_all sort (i + 1) rest (λ n q e. h (suc n) q e) in
    omega (arith, length-append (chosen sort i 0 0 o.sections) (all_chosen sort (i + 1) rest))

length_map : {X Y : Type 0} (f : X → Y) (xs : List X) → length (map f xs) ≡ length xs
length_map f [] = refl
length_map f (x ∷ xs) = ap (λ (n : ℕ). suc n) (length_map f xs)

pub few_lots : (sort : Section → Bool) (objects : List ObjectParts) (lots : List Lot) → map placed_of lots ≡ all_chosen sort 0 objects → length objects ≤ 16
    → ((n : ℕ) (o : ObjectParts) → slice_get objects n ≡ Some o → length o.sections ≤ 1024) → length lots ≤ 16384
few_lots sort objects lots e few h =
    let a : length lots ≡ length (all_chosen sort 0 objects) = sym (length_map placed_of lots) ∙ ap length e in
    let b = few_all sort 0 objects h in
    omega arith

-- first the parts of code, then those of data
pub part_both : (i j : ℕ) (both one : Option Placed) (xs ys code memory : List Placed) → both ≡ option_or one (part_of ys i j) → one ≡ part_of xs i j → xs ≡ code → ys ≡ memory → both ≡ part_of (code ++ memory) i j
part_both i j both one xs ys code memory e f g h =
    e ∙ ap (λ (o : Option Placed). option_or o (part_of ys i j)) f ∙ ap (λ (l : List Placed). option_or (part_of l i j) (part_of ys i j)) g
    ∙ ap (λ (l : List Placed). option_or (part_of code i j) (part_of l i j)) h ∙ sym (find-append (λ (p : Placed). (p.object == i) && (p.index == j)) code memory)

pub few_sections : (objects : List ObjectParts) → All (λ o. IsTrue (is_within o ANY)) objects → (n : ℕ) (o : ObjectParts) → slice_get objects n ≡ Some o → length o.sections ≤ 1024
few_sections objects within n o e =
    let h : is_within o ANY ≡ true = All_at (λ (q : ObjectParts). IsTrue (is_within q ANY)) objects n o within e in
    let a = and_parts (nat_le (length o.sections) 1024 && nat_le (length o.symbols) 262144 && nat_le (length o.relocs) ANY.relocs) (nat_le (code_size o.sections) ANY.code) h in
    let b = and_parts (nat_le (length o.sections) 1024 && nat_le (length o.symbols) 262144) (nat_le (length o.relocs) ANY.relocs) a.0 in
    leb-true (length o.sections) 1024 (and_parts (nat_le (length o.sections) 1024) (nat_le (length o.symbols) 262144) b.0).0

pub few_symbols : (objects : List ObjectParts) → All (λ o. IsTrue (is_within o ANY)) objects → (n : ℕ) (o : ObjectParts) → slice_get objects n ≡ Some o → length o.symbols ≤ 262144
few_symbols objects within n o e =
    let h : is_within o ANY ≡ true = All_at (λ (q : ObjectParts). IsTrue (is_within q ANY)) objects n o within e in
    let a = and_parts (nat_le (length o.sections) 1024 && nat_le (length o.symbols) 262144 && nat_le (length o.relocs) ANY.relocs) (nat_le (code_size o.sections) ANY.code) h in
    let b = and_parts (nat_le (length o.sections) 1024 && nat_le (length o.symbols) 262144) (nat_le (length o.relocs) ANY.relocs) a.0 in
    leb-true (length o.symbols) 262144 (and_parts (nat_le (length o.sections) 1024) (nat_le (length o.symbols) 262144) b.0).1
