-- The faults of symbols, and the tests that find them.
use Rattle.std.proofs.Common.{◌≡◌, ◌≢◌, ◌<◌, ◌≤◌, ◌⊎◌, ℕ, zero, suc, ◌+◌, ◌*◌, ◌/◌, ◌%◌, Bool, true, false, not, ◌&&◌, ◌||◌, eqb, ltb, leb, List, Option, Some, None, inl, inr, arith, refl, sym, ◌∙◌, ap, subst}
use Rattle.std.proofs.lemmas.Bool.{false≢true, and_parts, and_from, or_cases, or_left, or_right, eqb-true, eq-eqb, ltb-true, lt-ltb, leb-true, le-leb, not-true, not_from_false, cases_eq, cases_order}
use Rattle.elf_model.specs.declared.refusals.Limit.{Limit}
use Rattle.elf_model.specs.declared.refusals.Refusal.TheVariants.{BadSymbol}
use Rattle.elf_model.specs.Constants.{symtab, local}
use Rattle.elf_model.specs.Fields.{byte_at, half_at, word_at}
use Rattle.elf_model.specs.Files.{header_count, header, IsKind}
use Rattle.elf_read.specs.Faults.{Fault, IsSymbolAt, names_no_section}
use Rattle.elf_read.specs.Faults.Fault.{other_binding, other_symbol_type, late_local, bad_index, bad_value}
use Rattle.elf_read.specs.HeaderFaults.{IsTabled}
use Rattle.elf_read.specs.Places.{first_of}
use Rattle.elf_read.specs.SymbolFaults.{is_beyond, is_unknown, is_homeless, symbol_tests}
use Rattle.elf_read.proofs.FirstTests.{HoldsIn, IsFirstOf, first_of_first}
use Rattle.elf_read.proofs.TableFaults.{other, others}

-- the binding of symbol k of a table
abbrev pub bind_at : List ℕ → ℕ → ℕ → ℕ
bind_at b t k = byte_at b ((header b t).offset + 16 * k + 12) / 16

-- a symbol that isn't local stands behind the null symbol and before this one
abbrev pub others_below : List ℕ → ℕ → ℕ → Bool
others_below b t zero = false
others_below b t (suc k) = others_below b t k || (ltb 0 k && not (eqb (bind_at b t k) local))

pub other_there : (b : List ℕ) (t k : ℕ) → others_below b t k ≡ true → (j : ℕ) × (0 < j) × (j < k) × (bind_at b t j ≢ local)
other_there b t zero e = absurd (false≢true e)
other_there b t (suc k) e =
    elim (or_cases (others_below b t k) (ltb 0 k && not (eqb (bind_at b t k) local)) e) [
      | inl before ↦ (let j = other_there b t k before in (j.0, j.1, omega (arith, j.2), j.3))
      | inr here ↦
          (let parts = and_parts (ltb 0 k) (not (eqb (bind_at b t k) local)) here in
          (k, ltb-true 0 k parts.0, omega arith, others _ _ parts.1))
    ]

pub there_other : (b : List ℕ) (t k j : ℕ) → 0 < j → j < k → bind_at b t j ≢ local → others_below b t k ≡ true
there_other b t zero j some lt bind = absurd (omega arith)
there_other b t (suc k) j some lt bind =
    elim (cases_eq j k) [
      | inl same ↦
          or_right (others_below b t k) _ (and_from _ _ (lt-ltb 0 k (omega arith)) (other _ _ (subst (λ (i : ℕ). bind_at b t i ≢ local) same bind)))
      | inr apart ↦ or_left _ (ltb 0 k && not (eqb (bind_at b t k) local)) (there_other b t k j some (omega arith) bind)
    ]

pub others_more : (b : List ℕ) (t k info : ℕ) (seen : Bool) → 0 < k → info / 16 ≡ bind_at b t k → seen ≡ others_below b t k → (seen || not (eqb (info / 16) local)) ≡ others_below b t (k + 1)
others_more b t k info seen some i s =
    let next : k + 1 ≡ suc k = omega arith in
    ap (λ (x : Bool). x || not (eqb (info / 16) local)) s ∙ ap (λ (x : ℕ). others_below b t k || not (eqb x local)) i
    ∙ ap (λ (x : Bool). others_below b t k || (x && not (eqb (bind_at b t k) local))) (sym (lt-ltb 0 k some)) ∙ ap (others_below b t) (sym next)

-- what is wrong at an offset of the file
pub record SymbolFault (b : List ℕ) (s o : ℕ) : Type 0 where
  pub k : ℕ
  pub e : ℕ
  pub stands : IsSymbolAt b s k e
  pub d : ℕ
  pub place : o ≡ e + d
  pub test : HoldsIn (symbol_tests (others_below b s k) b e) d

unknown_here : (b : List ℕ) (s k e : ℕ) → IsSymbolAt b s k e → is_unknown (others_below b s k) (byte_at b (e + 12)) ≡ true → SymbolFault b s (e + 12)
unknown_here b s k e at h = record { k = k; e = e; stands = at; d = 12; place = refl; test = inr (inl (refl, h)) }

bind_of : (b : List ℕ) (s k e : ℕ) → IsSymbolAt b s k e → byte_at b (e + 12) / 16 ≡ bind_at b s k
bind_of b s k e at = ap (λ (x : ℕ). byte_at b (x + 12) / 16) at.place

pub found : (b : List ℕ) (l : Limit) (s o : ℕ) → Fault b l BadSymbol s o → SymbolFault b s o
found b l s o (other_binding t k e at n) = unknown_here b t k e at (or_left _ _ (or_left _ _ (lt-ltb _ _ n)))
found b l s o (other_symbol_type t k e at n) = unknown_here b t k e at (or_left _ _ (or_right _ _ (lt-ltb _ _ n)))
found b l s o (late_local t j d k e lt early late first second) =
    unknown_here b t k e late
    (or_right _ _ (and_from _ _ (there_other b t k j early.behind_null lt (λ same. first (bind_of b t j d early ∙ same))) (eq-eqb _ _ second)))
found b l s o (bad_index t k e at home n) = record {
  k = k;
  e = e;
  stands = at;
  d = 14;
  place = refl;
  test = inr (inr (inl (refl, and_from _ _ (not_from_false _ home) (elim n [ inl le ↦ or_left _ _ (le-leb _ _ le) | inr le ↦ or_right _ _ (le-leb _ _ le) ]))));
}
found b l s o (bad_value t k e at home there low n) = record {
  k = k;
  e = e;
  stands = at;
  d = 4;
  place = refl;
  test = inl (refl, and_from _ _ (and_from _ _ (and_from _ _ (not_from_false _ home) (lt-ltb _ _ there)) (lt-ltb _ _ low)) (lt-ltb _ _ n));
}

value_at : (b : List ℕ) (l : Limit) (s k e : ℕ) → IsSymbolAt b s k e → is_beyond b (half_at b (e + 14)) (byte_at b (e + 12) % 16) (word_at b (e + 4)) ≡ true → Fault b l BadSymbol s (e + 4)
value_at b l s k e at h =
    let three = and_parts _ _ h in
    let two = and_parts _ _ three.0 in
    let one = and_parts _ _ two.0 in
    bad_value s k e at (not-true _ one.0) (ltb-true _ _ one.1) (ltb-true _ _ two.1) (ltb-true _ _ three.1)

late_at : (b : List ℕ) (l : Limit) (s k e : ℕ) → IsSymbolAt b s k e → others_below b s k ≡ true → byte_at b (e + 12) / 16 ≡ local → Fault b l BadSymbol s (e + 12)
late_at b l s k e at seen bind =
    let j = other_there b s k seen in
    let early : IsSymbolAt b s j.0 ((header b s).offset + 16 * j.0) = record { table = at.table; behind_null = j.1; there = omega (arith, at.there, j.2); place = refl } in
    late_local s j.0 ((header b s).offset + 16 * j.0) k e j.2 early at j.3 bind

unknown_at : (b : List ℕ) (l : Limit) (s k e : ℕ) → IsSymbolAt b s k e → is_unknown (others_below b s k) (byte_at b (e + 12)) ≡ true → Fault b l BadSymbol s (e + 12)
unknown_at b l s k e at h =
    let info = byte_at b (e + 12) in
    elim (or_cases (ltb 2 (info / 16) || ltb 4 (info % 16)) (others_below b s k && eqb (info / 16) local) h) [
      | inl one ↦
          elim (or_cases (ltb 2 (info / 16)) (ltb 4 (info % 16)) one) [
            | inl bind ↦ other_binding s k e at (ltb-true _ _ bind)
            | inr kind ↦ other_symbol_type s k e at (ltb-true _ _ kind)
          ]
      | inr late ↦
          (let parts = and_parts (others_below b s k) (eqb (info / 16) local) late in
          late_at b l s k e at parts.0 (eqb-true _ _ parts.1))
    ]

index_at : (b : List ℕ) (l : Limit) (s k e : ℕ) → IsSymbolAt b s k e → is_homeless b (half_at b (e + 14)) ≡ true → Fault b l BadSymbol s (e + 14)
index_at b l s k e at h =
    let index = half_at b (e + 14) in
    let parts = and_parts (not (names_no_section index)) (leb (header_count b) index || leb 0xFF00 index) h in
    bad_index s k e at (not-true _ parts.0)
    (elim (or_cases (leb (header_count b) index) (leb 0xFF00 index) parts.1) [ inl le ↦ inl (leb-true _ _ le) | inr le ↦ inr (leb-true _ _ le) ])

abbrev FaultIn : List ℕ → Limit → ℕ → ℕ → ℕ → Type 0
FaultIn b l s e d = Fault b l BadSymbol s (e + d)

at_symbol : (b : List ℕ) (l : Limit) (s k e d : ℕ) → IsSymbolAt b s k e → HoldsIn (symbol_tests (others_below b s k) b e) d → FaultIn b l s e d
at_symbol b l s k e d at (inl h) = subst (λ (x : ℕ). FaultIn b l s e x) (sym h.0) (value_at b l s k e at h.1)
at_symbol b l s k e d at (inr (inl h)) = subst (λ (x : ℕ). FaultIn b l s e x) (sym h.0) (unknown_at b l s k e at h.1)
at_symbol b l s k e d at (inr (inr (inl h))) = subst (λ (x : ℕ). FaultIn b l s e x) (sym h.0) (index_at b l s k e at h.1)
at_symbol b l s k e d at (inr (inr (inr h))) = absurd h

at_most : (seen : Bool) (b : List ℕ) (e d : ℕ) → HoldsIn (symbol_tests seen b e) d → d ≤ 14
at_most seen b e d (inl h) = omega (arith, h.0)
at_most seen b e d (inr (inl h)) = omega (arith, h.0)
at_most seen b e d (inr (inr (inl h))) = omega (arith, h.0)
at_most seen b e d (inr (inr (inr h))) = absurd h

-- the place and the tests of symbol k
abbrev pub place_in : List ℕ → ℕ → ℕ → ℕ
place_in b t k = (header b t).offset + 16 * k

abbrev pub tests_of : List ℕ → ℕ → ℕ → List (ℕ × Bool)
tests_of b t k = symbol_tests (others_below b t k) b (place_in b t k)

none_of : (b : List ℕ) (t k : ℕ) → None ≡ first_of (tests_of b t k) → (d : ℕ) → HoldsIn (tests_of b t k) d → ⊥
none_of b t k e = subst (IsFirstOf (tests_of b t k)) (sym e) (first_of_first 0 (tests_of b t k) refl)

some_of : (b : List ℕ) (t k d : ℕ) → Some d ≡ first_of (tests_of b t k) → HoldsIn (tests_of b t k) d × ((x : ℕ) → HoldsIn (tests_of b t k) x → x < d → ⊥)
some_of b t k d e = subst (IsFirstOf (tests_of b t k)) (sym e) (first_of_first 0 (tests_of b t k) refl)

pub small_field : (b : List ℕ) (t k d : ℕ) → Some d ≡ first_of (tests_of b t k) → d ≤ 14
small_field b t k d e = at_most (others_below b t k) b (place_in b t k) d (some_of b t k d e).0

-- a fault, with the table as it is known
record FaultOf (b : List ℕ) (t s o : ℕ) : Type 0 where
  pub same : s ≡ t
  pub k : ℕ
  pub there : k < (header b t).size / 16
  pub behind_null : 0 < k
  pub d : ℕ
  pub place : o ≡ place_in b t k + d
  pub test : HoldsIn (tests_of b t k) d
  pub short : d ≤ 14

fault_of : (b : List ℕ) (t s o : ℕ) → IsTabled b → IsKind b t symtab → SymbolFault b s o → FaultOf b t s o
fault_of b t s o tabled kind f =
    let same : s ≡ t = tabled.one_symbol_table s t f.stands.table kind in
    let at : f.e ≡ place_in b t f.k = subst (λ (x : ℕ). f.e ≡ place_in b x f.k) same f.stands.place in
    let test : HoldsIn (symbol_tests (others_below b t f.k) b f.e) f.d = subst (λ (x : ℕ). HoldsIn (symbol_tests (others_below b x f.k) b f.e) f.d) same f.test in
    record {
      same = same;
      k = f.k;
      there = subst (λ (x : ℕ). f.k < (header b x).size / 16) same f.stands.there;
      behind_null = f.stands.behind_null;
      d = f.d;
      place = f.place ∙ ap (λ (x : ℕ). x + f.d) at;
      test = subst (λ (x : ℕ). HoldsIn (symbol_tests (others_below b t f.k) b x) f.d) at test;
      short = at_most (others_below b t f.k) b f.e f.d test;
    }

-- the symbols before this one are sound
abbrev pub SoundBelow : List ℕ → ℕ → ℕ → Type 0
SoundBelow b t k = (j d : ℕ) → 0 < j → j < k → HoldsIn (tests_of b t j) d → ⊥

pub sound_more : (b : List ℕ) (t k : ℕ) → SoundBelow b t k → None ≡ first_of (tests_of b t k) → SoundBelow b t (k + 1)
sound_more b t k below e j d some lt h =
    elim (cases_eq j k) [
      | inl same ↦ none_of b t k e d (subst (λ (x : ℕ). HoldsIn (tests_of b t x) d) same h)
      | inr apart ↦ below j d some (omega arith) h
    ]

pub all_sound : (b : List ℕ) (l : Limit) (t k : ℕ) → IsTabled b → IsKind b t symtab → (header b t).size / 16 ≤ k → SoundBelow b t k → (s o : ℕ) → Fault b l BadSymbol s o → ⊥
all_sound b l t k tabled kind past below s o fault =
    let f = fault_of b t s o tabled kind (found b l s o fault) in
    below f.k f.d f.behind_null (omega (arith, past, f.there)) f.test

no_lower : (b : List ℕ) (t k d s o : ℕ) → SoundBelow b t k → ((x : ℕ) → HoldsIn (tests_of b t k) x → x < d → ⊥) → d ≤ 14 → FaultOf b t s o → o < place_in b t k + d → ⊥
no_lower b t k d s o below first short f lt =
    elim (cases_order f.k k) [
      | inl same ↦
          (let place : o ≡ place_in b t k + f.d = subst (λ (x : ℕ). o ≡ place_in b t x + f.d) same f.place in
          first f.d (subst (λ (x : ℕ). HoldsIn (tests_of b t x) f.d) same f.test) (omega (arith, place, lt)))
      | inr apart ↦
          elim apart [
            | inl before ↦ below f.k f.d f.behind_null before f.test
            | inr behind ↦ omega (arith, behind, f.place, lt, short)
          ]
    ]

pub first_symbol : (b : List ℕ) (l : Limit) (t k d place : ℕ) → IsTabled b → IsKind b t symtab → 0 < k → k < (header b t).size / 16 → place ≡ place_in b t k → SoundBelow b t k → Some d ≡ first_of (tests_of b t k)
    → Fault b l BadSymbol t (place + d) × ((s o : ℕ) → Fault b l BadSymbol s o → (s < t) ⊎ ((s ≡ t) × (o < place + d)) → ⊥)
first_symbol b l t k d place tabled kind some there at below e =
    let first = some_of b t k d e in
    let stands : IsSymbolAt b t k (place_in b t k) = record { table = kind; behind_null = some; there = there; place = refl } in (
      subst (λ (x : ℕ). Fault b l BadSymbol t (x + d)) (sym at) (at_symbol b l t k (place_in b t k) d stands first.0),
      λ s o fault lower.
          let f = fault_of b t s o tabled kind (found b l s o fault) in
          elim lower [
            | inl low ↦ omega (arith, low, f.same)
            | inr same ↦ no_lower b t k d s o below first.1 (small_field b t k d e) f (omega (arith, same.1, at))
          ],
    )

pub no_symbols : (b : List ℕ) (l : Limit) → ((h : ℕ) → IsKind b h symtab → ⊥) → (s o : ℕ) → Fault b l BadSymbol s o → ⊥
no_symbols b l none s o fault = none s (found b l s o fault).stands.table

pub same_tests : (b : List ℕ) (t k place : ℕ) (seen : Bool) (r : Option ℕ) → r ≡ first_of (symbol_tests seen b place) → seen ≡ others_below b t k → place ≡ place_in b t k → r ≡ first_of (tests_of b t k)
same_tests b t k place seen r e p q =
    e ∙ ap (λ (s : Bool). first_of (symbol_tests s b place)) p ∙ ap (λ (x : ℕ). first_of (symbol_tests (others_below b t k) b x)) q
