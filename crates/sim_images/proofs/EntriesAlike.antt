-- A name that can be called is called at its point's place.
use Rattle.std.specs.Prelude.{◌≡◌, ℕ, ◌+◌, ◌==◌, ◌&&◌, Bool, true, false, cond, List, [], ◌∷◌, ◌++◌, map, filter, Option, Some, None, slice_get, Contains, refl}
use Rattle.std.proofs.Common.{arith, inl, inr, ap, sym, ◌∙◌, subst}
use Rattle.std.proofs.lemmas.Bool.{cases_Bool, both_ways, and_parts, and_from, eqb-true, eq-eqb, cond-true, cond-false}
use Rattle.std.proofs.lemmas.Option.{none-some, same_Some}
use lib.Pointwise.{bytes_decides}
use Rattle.elf_model.specs.declared.objects.Symbol.{Symbol}
use Rattle.elf_model.specs.Constants.{func, global, weak}
use Rattle.elf_model.specs.Fields.{same_name}
use Rattle.elf_model.specs.Objects.{ObjectParts, even}
use Rattle.thumb_table.specs.declared.parts.NamedEntry.{NamedEntry}
use Rattle.thumb_table.specs.declared.placements.Placement.{Placement}
use Rattle.thumb_table.specs.Layouts.{Placed, IsPlacement, all_placed}
use Rattle.thumb_table.specs.Names.{Defined, all_symbols, is_defined, globals, weaks, resolved, is_function, is_in_code, is_standing, address_of, entries_of}
use Rattle.thumb_table.specs.Images.{entry_of}
use Rattle.sim_images.specs.ImageLaws.{AreObjects}
use Rattle.sim_images.specs.Counterparts.{Places, AreAnswers}
use Rattle.sim_images.specs.PairLaws.{EntriesMeet, EntriesBack, Moves}
use Rattle.elf_model.proofs.Elements.{contains_cases, contains_none, contains_here, contains_later, found}
use Rattle.std.proofs.lemmas.List.Elements.{Contains-append_cases}
use Rattle.sim_images.proofs.NamesAlike.{resolved_alike, resolved_back}
use Rattle.sim_images.proofs.Meant.{Stands, symbol_stands, in_filter}
use Rattle.sim_images.proofs.LinkNumbers.{InCode, stand_is, function_is}
use Rattle.sim_images.proofs.ValuesAlike.{Room, its_home}
use Rattle.sim_images.proofs.LinksMeet.{Meets, meets, Pair, pair_of, code_of, moves, room_of, code_to}

pub same : (a b : List ℕ) → same_name a b ≡ true → a ≡ b
same a b h = (bytes_decides a b).0 h

pub same_self : (a : List ℕ) → same_name a a ≡ true
same_self [] = refl
same_self (x ∷ xs) = and_from (x == x) (same_name xs xs) (eq-eqb x x refl) (same_self xs)

filter_has : {X : Type 0} (f : X → Bool) (xs : List X) (x : X) → Contains xs x → f x ≡ true → Contains (filter f xs) x
filter_has f [] x c y = c
filter_has f (z ∷ zs) x c y =
    elim (contains_cases z zs x c) [
      | inl e ↦
          let t : f z ≡ true = ap f e ∙ y in
          subst (λ (l : List _). Contains l x) (sym (ap (λ (b : Bool). cond b (z ∷ filter f zs) (filter f zs)) t)) (subst (λ (v : _). Contains (z ∷ filter f zs) v) e (contains_here z (filter f zs)))
      | inr r ↦ elim (cases_Bool (f z)) [
        | inl t ↦ subst (λ (l : List _). Contains l x) (sym (ap (λ (b : Bool). cond b (z ∷ filter f zs) (filter f zs)) t)) (contains_later z (filter f zs) x (filter_has f zs x r y))
        | inr n ↦ subst (λ (l : List _). Contains l x) (sym (ap (λ (b : Bool). cond b (z ∷ filter f zs) (filter f zs)) n)) (filter_has f zs x r y)
      ]
    ]

abbrev as_entry : List Placed → Defined → NamedEntry
as_entry parts d = record { name = d.symbol.name; address = even (address_of parts d) + 1 }

-- the definition that an entry is of
entry_found : (parts : List Placed) (ds : List Defined) (name : List ℕ) (n : ℕ) → entry_of (map (λ d. as_entry parts d) ds) name ≡ Some n
    → (d : Defined) × Contains ds d × (same_name d.symbol.name name ≡ true) × (even (address_of parts d) + 1 ≡ n)
entry_found parts [] name n h = absurd (none-some n h)
entry_found parts (d ∷ ds) name n h =
    elim (cases_Bool (same_name d.symbol.name name)) [
      | inl y ↦
          (d, contains_here d ds, y, same_Some (even (address_of parts d) + 1) n (sym (cond-true (same_name d.symbol.name name) (Some (even (address_of parts d) + 1)) (entry_of (map (λ z. as_entry parts z) ds) name) y) ∙ h))
      | inr f ↦
          let r = entry_found parts ds name n (sym (cond-false (same_name d.symbol.name name) (Some (even (address_of parts d) + 1)) (entry_of (map (λ z. as_entry parts z) ds) name) f) ∙ h) in
          (r.0, contains_later d ds r.0 r.1, r.2, r.3)
    ]

entry_there : (parts : List Placed) (ds : List Defined) (name : List ℕ) (d : Defined) → Contains ds d → same_name d.symbol.name name ≡ true
    → (z : Defined) × Contains ds z × (same_name z.symbol.name name ≡ true) × (entry_of (map (λ v. as_entry parts v) ds) name ≡ Some (even (address_of parts z) + 1))
entry_there parts [] name d c h = absurd (contains_none d c)
entry_there parts (x ∷ xs) name d c h =
    elim (cases_Bool (same_name x.symbol.name name)) [
      | inl y ↦ (x, contains_here x xs, y, cond-true (same_name x.symbol.name name) (Some (even (address_of parts x) + 1)) (entry_of (map (λ z. as_entry parts z) xs) name) y)
      | inr f ↦ elim (contains_cases x xs d c) [
        | inl e ↦ absurd (both_ways (same_name x.symbol.name name) f (ap (λ (z : Defined). same_name z.symbol.name name) e ∙ h))
        | inr r ↦
            let g = entry_there parts xs name d r h in
            (g.0, contains_later x xs g.0 g.1, g.2, cond-false (same_name x.symbol.name name) (Some (even (address_of parts x) + 1)) (entry_of (map (λ z. as_entry parts z) xs) name) f ∙ g.3)
      ]
    ]

resolved_listed : (objects : List ObjectParts) (name : List ℕ) (d : Defined) → resolved objects name ≡ Some d → Contains (all_symbols 0 objects) d × (same_name d.symbol.name name ≡ true)
resolved_listed objects name d e =
    let f = found (λ (z : Defined). same_name z.symbol.name name) (globals objects ++ weaks objects) d e in (
      elim (Contains-append_cases (globals objects) (weaks objects) d f.0) [
        | inl c ↦ (in_filter (λ (z : Defined). (z.symbol.bind == global) && is_defined z.symbol.home) (all_symbols 0 objects) d c).0
        | inr c ↦ (in_filter (λ (z : Defined). (z.symbol.bind == weak) && is_defined z.symbol.home) (all_symbols 0 objects) d c).0
      ],
      f.1,
    )

-- one object and number is one definition
pub one_definition : (objects : List ObjectParts) (d e : Defined) → Stands objects d → Stands objects e → d.object ≡ e.object → d.index ≡ e.index → d ≡ e
one_definition objects d e a b file number =
    let same_object : a.object ≡ b.object = same_Some a.object b.object (sym a.there ∙ (ap (λ (n : ℕ). slice_get objects n) file ∙ b.there)) in
    let there : slice_get b.object.symbols d.index ≡ Some d.symbol = subst (λ (o : ObjectParts). slice_get o.symbols d.index ≡ Some d.symbol) same_object a.symbol in
    let symbol : d.symbol ≡ e.symbol = same_Some d.symbol e.symbol (sym there ∙ (ap (λ (n : ℕ). slice_get b.object.symbols n) number ∙ b.symbol)) in
    ap (λ (n : ℕ). record { object = n; index = d.index; symbol = d.symbol }) file
    ∙ (ap (λ (n : ℕ). record { object = e.object; index = n; symbol = d.symbol }) number ∙ ap (λ (s : Symbol). record { object = e.object; index = e.index; symbol = s }) symbol)

-- a standing definition is what its name stands for
standing_is : (objects : List ObjectParts) (d : Defined) → Contains (all_symbols 0 objects) d → is_standing objects d (resolved objects d.symbol.name) ≡ true → resolved objects d.symbol.name ≡ Some d
standing_is objects d c h = go (resolved objects d.symbol.name) refl h
  where
    go : (r : Option Defined) → resolved objects d.symbol.name ≡ r → is_standing objects d r ≡ true → r ≡ Some d
    go None e y = absurd (both_ways false refl y)
    go (Some x) e y =
        let p = and_parts (d.object == x.object) (d.index == x.index) y in
        let l = resolved_listed objects d.symbol.name x e in
        ap (λ (z : Defined). Some z) (sym (one_definition objects d x (symbol_stands objects d c) (symbol_stands objects x l.0) (eqb-true d.object x.object p.0) (eqb-true d.index x.index p.1)))

abbrev is_called : List ObjectParts → Placement → Defined → Bool
is_called objects at d = is_function (all_placed objects at) d && is_standing objects d (resolved objects d.symbol.name)

record Called (objects : List ObjectParts) (at : Placement) (name : List ℕ) (d : Defined) : Type 0 where
  pub listed : Contains (all_symbols 0 objects) d
  pub function : is_function (all_placed objects at) d ≡ true
  pub stood : resolved objects name ≡ Some d

called : (objects : List ObjectParts) (at : Placement) (name : List ℕ) (d : Defined) → Contains (filter (is_called objects at) (all_symbols 0 objects)) d → same_name d.symbol.name name ≡ true → Called objects at name d
called objects at name d c y =
    let picked = in_filter (is_called objects at) (all_symbols 0 objects) d c in
    let tests = and_parts (is_function (all_placed objects at) d) (is_standing objects d (resolved objects d.symbol.name)) picked.1 in
    record { listed = picked.0; function = tests.0; stood = subst (λ (n : List ℕ). resolved objects n ≡ Some d) (same d.symbol.name name y) (standing_is objects d picked.0 tests.1) }

called_from : (objects : List ObjectParts) (at : Placement) (name : List ℕ) (n : ℕ) → entry_of (entries_of objects (all_placed objects at)) name ≡ Some n
    → (d : Defined) × Called objects at name d × (even (address_of (all_placed objects at) d) + 1 ≡ n)
called_from objects at name n h =
    let f = entry_found (all_placed objects at) (filter (is_called objects at) (all_symbols 0 objects)) name n h in
    (f.0, called objects at name f.0 f.1 f.2, f.3)

called_there : (objects : List ObjectParts) (at : Placement) (name : List ℕ) (e : Defined) → resolved objects name ≡ Some e → is_function (all_placed objects at) e ≡ true
    → entry_of (entries_of objects (all_placed objects at)) name ≡ Some (even (address_of (all_placed objects at) e) + 1)
called_there objects at name e stood function =
    let l = resolved_listed objects name e stood in
    let e_name : e.symbol.name ≡ name = same e.symbol.name name l.1 in
    let standing : is_standing objects e (resolved objects e.symbol.name) ≡ true =
    ap (λ (r : Option Defined). is_standing objects e r) (ap (λ (n : List ℕ). resolved objects n) e_name ∙ stood) ∙ and_from (e.object == e.object) (e.index == e.index) (eq-eqb e.object e.object refl) (eq-eqb e.index e.index refl) in
    go (entry_there (all_placed objects at) (filter (is_called objects at) (all_symbols 0 objects)) name e
    (filter_has (is_called objects at) (all_symbols 0 objects) e l.0 (and_from (is_function (all_placed objects at) e) (is_standing objects e (resolved objects e.symbol.name)) function standing)) l.1)
  where
    go : (z : Defined) × Contains (filter (is_called objects at) (all_symbols 0 objects)) z × (same_name z.symbol.name name ≡ true) × (entry_of (entries_of objects (all_placed objects at)) name ≡ Some (even (address_of (all_placed objects at) z) + 1))
        → entry_of (entries_of objects (all_placed objects at)) name ≡ Some (even (address_of (all_placed objects at) e) + 1)
    go (z, c, y, h) =
        let z_is : z ≡ e = same_Some z e (sym (called objects at name z c y).stood ∙ stood) in
        h ∙ ap (λ (v : Defined). Some (even (address_of (all_placed objects at) v) + 1)) z_is

-- where a function stands
function_place : (parts : List Placed) (d : Defined) (j : ℕ) (p : Placed) → InCode parts d j p → (d.symbol.kind == func) ≡ true → (is_function parts d ≡ true) × (even (address_of parts d) ≡ p.start + even d.symbol.value)
function_place parts d j p h kind =
    let f : is_function parts d ≡ true = function_is parts d j p h ∙ kind in (
      f,
      sym (cond-true (is_function parts d) (even (address_of parts d)) (address_of parts d) f)
          ∙ (stand_is parts d j p h ∙ ap (λ (n : ℕ). p.start + n) (cond-true (d.symbol.kind == func) (even d.symbol.value) d.symbol.value kind)),
    )

module _ (ins outs : List ObjectParts) (at : Placement) (moved : ℕ → Places) (so : AreObjects ins) (sh : AreObjects outs) (answers : AreAnswers ins outs moved)
    (placement : IsPlacement at) (room : Room ins at) (space : Room outs at) where
  pair_meets : (d e : Defined) → Pair ins outs at moved so sh answers placement room space d e → is_function (all_placed ins at) d ≡ true
      → ((d.symbol.kind == func) ≡ true) × Meets ins outs at moved so sh answers placement room space d e (even d.symbol.value) (even e.symbol.value)
  pair_meets d e p f =
      let kinds = and_parts (d.symbol.kind == func) (is_in_code (all_placed ins at) d.object d.symbol.home) f in
      let code = sym (code_of ins outs at moved so sh answers placement room space d e p) ∙ kinds.1 in
      let home = its_home p.object d.symbol.home code in
      (kinds.0, meets ins outs at moved so sh answers placement room space d e p.file p.object p.twin p.there p.here home.0 home.1 home.3 home.4 home.2 (p.same.home ∙ home.2) (even d.symbol.value) (even e.symbol.value) (p.same.goes home.0 home.2 code))

  functions_meet : (d e : Defined) → Pair ins outs at moved so sh answers placement room space d e → is_function (all_placed ins at) d ≡ true
      → (is_function (all_placed outs at) e ≡ true) × Moves ins outs at moved (even (address_of (all_placed ins at) d)) (even (address_of (all_placed outs at) e))
  functions_meet d e p f =
      let m = pair_meets d e p f in
      let kind_e : (e.symbol.kind == func) ≡ true = ap (λ (n : ℕ). n == func) p.same.kind ∙ m.0 in
      let old = function_place (all_placed ins at) d m.1.section m.1.part m.1.old m.0 in
      let new = function_place (all_placed outs at) e m.1.section m.1.place m.1.new kind_e in
      (new.0, moves ins outs at moved so sh answers placement room space d e (even d.symbol.value) (even e.symbol.value) m.1 (even (address_of (all_placed ins at) d)) (even (address_of (all_placed outs at) e)) old.1 new.1)

  names_called : (name : List ℕ) (a : ℕ) → entry_of (entries_of ins (all_placed ins at)) name ≡ Some (a + 1) → (b : ℕ) × (entry_of (entries_of outs (all_placed outs at)) name ≡ Some (b + 1)) × Moves ins outs at moved a b
  names_called name a entry = go (called_from ins at name (a + 1) entry)
    where
      less : (m n : ℕ) → m + 1 ≡ n + 1 → m ≡ n
      less m n e = omega arith

      go : (d : Defined) × Called ins at name d × (even (address_of (all_placed ins at) d) + 1 ≡ a + 1) → (b : ℕ) × (entry_of (entries_of outs (all_placed outs at)) name ≡ Some (b + 1)) × Moves ins outs at moved a b
      go (d, c, e) =
          let t = resolved_alike ins outs moved so sh answers name d c.stood in
          let p = pair_of ins outs at moved so sh answers placement room space d t.0 t.2.alike (symbol_stands ins d c.listed) (symbol_stands outs t.0 (resolved_listed outs name t.0 t.1).0) in
          let f = functions_meet d t.0 p c.function in (
            even (address_of (all_placed outs at) t.0),
            called_there outs at name t.0 t.1 f.0,
            subst (λ (n : ℕ). Moves ins outs at moved n (even (address_of (all_placed outs at) t.0))) (less (even (address_of (all_placed ins at) d)) a e) f.1,
          )

  names_back : (name : List ℕ) (b : ℕ) → entry_of (entries_of outs (all_placed outs at)) name ≡ Some (b + 1) → (a : ℕ) × (entry_of (entries_of ins (all_placed ins at)) name ≡ Some (a + 1)) × Moves ins outs at moved a b
  names_back name b entry = go (called_from outs at name (b + 1) entry)
    where
      less : (m n : ℕ) → m + 1 ≡ n + 1 → m ≡ n
      less m n e = omega arith

      go : (e : Defined) × Called outs at name e × (even (address_of (all_placed outs at) e) + 1 ≡ b + 1) → (a : ℕ) × (entry_of (entries_of ins (all_placed ins at)) name ≡ Some (a + 1)) × Moves ins outs at moved a b
      go (e, c, h) =
          let t = resolved_back ins outs moved so sh answers name e c.stood in
          let p = pair_of ins outs at moved so sh answers placement room space t.0 e t.2.alike (symbol_stands ins t.0 (resolved_listed ins name t.0 t.1).0) (symbol_stands outs e c.listed) in
          let kinds = and_parts (e.symbol.kind == func) (is_in_code (all_placed outs at) e.object e.symbol.home) c.function in
          let code : is_in_code (all_placed ins at) t.0.object t.0.symbol.home ≡ true =
          code_of ins outs at moved so sh answers placement room space t.0 e p ∙ (sym (code_to ins outs at moved so sh answers placement room space t.0 e p) ∙ kinds.1) in
          let function : is_function (all_placed ins at) t.0 ≡ true =
          and_from (t.0.symbol.kind == func) (is_in_code (all_placed ins at) t.0.object t.0.symbol.home) (sym (ap (λ (n : ℕ). n == func) p.same.kind) ∙ kinds.0) code in
          let f = functions_meet t.0 e p function in (
            even (address_of (all_placed ins at) t.0),
            called_there ins at name t.0 t.1 function,
            subst (λ (n : ℕ). Moves ins outs at moved (even (address_of (all_placed ins at) t.0)) n) (less (even (address_of (all_placed outs at) e)) b h) f.1,
          )

pub entries_meet : EntriesMeet
entries_meet ins outs at moved image hard so sh answers is other name a entry =
    let r = names_called ins outs at moved so sh answers is.placement (room_of ins at is.can) (room_of outs at other.can) name a (ap (λ (es : List NamedEntry). entry_of es name) (sym is.entries) ∙ entry) in
    (r.0, ap (λ (es : List NamedEntry). entry_of es name) other.entries ∙ r.1, r.2)

pub entries_back : EntriesBack
entries_back ins outs at moved image hard so sh answers is other name b entry =
    let r = names_back ins outs at moved so sh answers is.placement (room_of ins at is.can) (room_of outs at other.can) name b (ap (λ (es : List NamedEntry). entry_of es name) (sym other.entries) ∙ entry) in
    (r.0, ap (λ (es : List NamedEntry). entry_of es name) is.entries ∙ r.1, r.2)
