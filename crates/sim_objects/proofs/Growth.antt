-- The code sections of a hardened object are those of its plain one, in order, and have not grown too much.
use Rattle.std.specs.Prelude.{◌≡◌, ◌≤◌, ℕ, zero, suc, ◌*◌, Bool, true, cond, List, [], ◌∷◌, length, filter, Some, slice_get, refl}
use Rattle.std.proofs.Common.{arith, inl, inr, ap, sym, ◌∙◌}
use Rattle.std.proofs.lemmas.Bool.{cases_Bool, cases_lt, both_ways}
use Rattle.std.proofs.lemmas.Option.{none-some, same_Some, slice_get_within}
use Rattle.elf_model.specs.declared.objects.Section.{Section}
use Rattle.elf_model.specs.Objects.{ObjectParts, is_code}
use Rattle.elf_model.specs.Maps.{map_section}
use Rattle.elf_model.proofs.Elements.{element_at}
use Rattle.sim_relation.specs.Hardened.{code_sections}
use Rattle.sim_objects.specs.Lists.{Pairing}
use Rattle.sim_objects.specs.Growth.{PairsAreShort}
use Rattle.sim_objects.proofs.Kept.{pair_at, hard_at}
use Rattle.sim_objects.proofs.Parts.{same_sort}

-- Section number k of code among ys, and the one among xs that stands where it does.
pub record Twin (xs ys : List Section) (k : ℕ) (t : Section) : Type 0 where
  pub number : ℕ
  pub section : Section
  pub there : slice_get xs number ≡ Some section
  pub here : slice_get ys number ≡ Some t
  pub code : is_code section ≡ true
  pub listed : slice_get (filter is_code xs) k ≡ Some section

-- where what stands at one number is code in both or in none, and behind xs is no code
abbrev AreAlike : List Section → List Section → Type 0
AreAlike xs ys = (n : ℕ) (t : Section) → slice_get ys n ≡ Some t → is_code t ≡ true → (s : Section) × (slice_get xs n ≡ Some s)

abbrev SameSort : List Section → List Section → Type 0
SameSort xs ys = (n : ℕ) (s t : Section) → slice_get xs n ≡ Some s → slice_get ys n ≡ Some t → is_code t ≡ is_code s

later : (x y : Section) (xs ys : List Section) (k m : ℕ) (t : Section) → slice_get (filter is_code (x ∷ xs)) m ≡ slice_get (filter is_code xs) k → Twin xs ys k t → Twin (x ∷ xs) (y ∷ ys) m t
later x y xs ys k m t same w = record { number = suc w.number; section = w.section; there = w.there; here = w.here; code = w.code; listed = same ∙ w.listed }

pub twin : (xs ys : List Section) → AreAlike xs ys → SameSort xs ys → (k : ℕ) (t : Section) → slice_get (filter is_code ys) k ≡ Some t → Twin xs ys k t
twin xs [] alike same k t e = absurd (none-some t e)
twin [] (y ∷ ys) alike same k t e =
    elim (cases_Bool (is_code y)) [
      | inl c ↦ let s = alike 0 y refl c in absurd (none-some s.0 s.1)
      | inr n ↦
          let w = twin [] ys (λ m z a c. let s = alike (suc m) z a c in absurd (none-some s.0 s.1)) (λ m s z a b. absurd (none-some s a)) k t (sym (ap (λ (b : Bool). slice_get (cond b (y ∷ filter is_code ys) (filter is_code ys)) k) n) ∙ e) in
          absurd (none-some w.section w.there)
    ]
twin (x ∷ xs) (y ∷ ys) alike same k t e =
    let rest_alike : AreAlike xs ys = λ m z a c. alike (suc m) z a c in
    let rest_same : SameSort xs ys = λ m s z a b. same (suc m) s z a b in
    let sort : is_code y ≡ is_code x = same 0 x y refl refl in
    elim (cases_Bool (is_code y)) [
      | inl c ↦ go k (sym sort ∙ c) (λ m f. twin xs ys rest_alike rest_same m t f) (sym (ap (λ (b : Bool). slice_get (cond b (y ∷ filter is_code ys) (filter is_code ys)) k) c) ∙ e)
      | inr n ↦
          later x y xs ys k k t (ap (λ (b : Bool). slice_get (cond b (x ∷ filter is_code xs) (filter is_code xs)) k) (sym sort ∙ n))
          (twin xs ys rest_alike rest_same k t (sym (ap (λ (b : Bool). slice_get (cond b (y ∷ filter is_code ys) (filter is_code ys)) k) n) ∙ e))
    ]
  where
    go : (m : ℕ) → is_code x ≡ true → ((n : ℕ) → slice_get (filter is_code ys) n ≡ Some t → Twin xs ys n t) → slice_get (y ∷ filter is_code ys) m ≡ Some t → Twin (x ∷ xs) (y ∷ ys) m t
    go zero c rest f = record {
      number = 0;
      section = x;
      there = refl;
      here = f;
      code = c;
      listed = ap (λ (b : Bool). slice_get (cond b (x ∷ filter is_code xs) (filter is_code xs)) 0) c;
    }
    go (suc m) c rest f = later x y xs ys m (suc m) t (ap (λ (b : Bool). slice_get (cond b (x ∷ filter is_code xs) (filter is_code xs)) (suc m)) c) (rest m f)

module _ (F K : ℕ) (q : Pairing F 2 K) where
  -- behind the old sections stands the map
  alike : AreAlike q.plain.sections q.hard.sections
  alike n t e code =
      let is = q.pair.form.tables.sections in
      let count = is.count in
      let low = slice_get_within q.hard.sections n t e in
      elim (cases_lt n (length q.plain.sections)) [
        | inl l ↦ element_at q.plain.sections n l
        | inr high ↦
            let same : n ≡ length q.plain.sections = omega (arith, count, low, high) in
            let one : map_section q.pair.form.rows ≡ t = same_Some (map_section q.pair.form.rows) t (sym is.map ∙ (ap (slice_get q.hard.sections) (sym same) ∙ e)) in
            absurd (both_ways (is_code (map_section q.pair.form.rows)) refl (ap is_code one ∙ code))
      ]

  pub short : (k : ℕ) (t : Section) → slice_get (code_sections q.hard) k ≡ Some t → (s : Section) × (slice_get (code_sections q.plain) k ≡ Some s) × (t.size ≤ 32 * s.size)
  short k t e =
      let same : SameSort q.plain.sections q.hard.sections = λ n s z a b. same_sort q.plain n s z (q.pair.form.tables.sections.each n s z a b) in
      let w = twin q.plain.sections q.hard.sections alike same k t e in
      let grown = q.pair.grown w.number w.section t w.there w.code w.here in
      (w.section, w.listed, omega (arith, grown))

pub pairs_are_short : PairsAreShort
pairs_are_short F K pairs i k o h t there here e =
    let q = pair_at F 2 K pairs i o there in
    let one : q.0.hard ≡ h = same_Some q.0.hard h (sym (hard_at F 2 K pairs i q.0 q.1) ∙ here) in
    let s = short F K q.0 k t (ap (λ (z : ObjectParts). slice_get (code_sections z) k) one ∙ e) in
    (s.0, ap (λ (z : ObjectParts). slice_get (code_sections z) k) (sym q.2) ∙ s.1, s.2)
