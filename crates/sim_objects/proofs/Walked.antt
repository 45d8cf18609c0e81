-- The instructions of a unit, one behind the other.
use Rattle.std.specs.Prelude.{◌≡◌, ◌<◌, ◌≤◌, ℕ, ◌+◌, ◌%◌, cond, List, [], ◌∷◌, Option, Some, None, unwrap_or, Contains, refl}
use Rattle.std.proofs.Common.{arith, inl, inr, ap, sym, ◌∙◌, subst}
use Rattle.std.proofs.lemmas.Option.{none-some, same_Some}
use Rattle.elf_model.specs.Objects.{ObjectParts}
use Rattle.elf_model.specs.Ranges.{is_long, length_at, IsStart, next}
use Rattle.elf_model.proofs.Elements.{contains_cases, contains_none}
use Rattle.reloc_places.specs.Starts.{bytes_of}
use Rattle.reloc_places.proofs.StartFacts.{length_least}
use Rattle.hardened_form.specs.Places.{UnitPlace}
use Rattle.hardened_form.specs.Code.{IsFill}
use Rattle.sim_answers.specs.Units.{Divides, ended, longer, code_end}
use Rattle.sim_relation.specs.Sequences.{PlacedStep, Sequence, IsStepAt, AreSteps, EndsWith, IsSequence}

pub steps_up : (h : ObjectParts) (j x : ℕ) (steps : List PlacedStep) (z : ℕ) → AreSteps h j x steps z → x ≤ z
steps_up h j x [] z a = omega (arith, a)
steps_up h j x (v ∷ rest) z a = let up = steps_up h j (x + v.width) rest z a.1 in omega (arith, up)

-- an instruction among those from x to z, and a start of what is divided from s to the end
pub record StepIn (h : ObjectParts) (j x z s end : ℕ) (t : PlacedStep) : Type 0 where
  pub low : x ≤ t.at
  pub high : t.at + t.width ≤ z
  pub is : IsStepAt h j t.at t
  pub start : IsStart (bytes_of h j) s end t.at

pub step_in : (h : ObjectParts) (j x : ℕ) (steps : List PlacedStep) (z : ℕ) → AreSteps h j x steps z → (s end : ℕ) → z ≤ end → (x < end → IsStart (bytes_of h j) s end x)
    → (t : PlacedStep) → Contains steps t → StepIn h j x z s end t
step_in h j x [] z a s end l start t c = absurd (contains_none t c)
step_in h j x (v ∷ rest) z a s end l start t c =
    let is = a.0 in
    let from : v.at ≡ x = is.at in
    let wide : v.width ≡ length_at (bytes_of h j) x = is.width in
    let least = length_least (bytes_of h j) x in
    let up = steps_up h j (x + v.width) rest z a.1 in
    let here : IsStart (bytes_of h j) s end x = start (omega (arith, wide, least, up, l)) in
    elim (contains_cases v rest t c) [
      | inl e ↦
          subst (λ (w : PlacedStep). StepIn h j x z s end w) e
          (record { low = omega (arith, from); high = omega (arith, from, up); is = subst (λ (n : ℕ). IsStepAt h j n v) (sym from) is; start = subst (λ (n : ℕ). IsStart (bytes_of h j) s end n) (sym from) here })
      | inr r ↦
          let more = step_in h j (x + v.width) rest z a.1 s end l
          (λ below. subst (λ (n : ℕ). IsStart (bytes_of h j) s end (x + n)) (sym wide) (next x here (omega (arith, below, wide)))) t r in
          let low = more.low in
          record { low = omega (arith, low); high = more.high; is = more.is; start = more.start }
    ]

steps_divide : (h : ObjectParts) (j x : ℕ) (steps : List PlacedStep) (z end : ℕ) → AreSteps h j x steps z → Divides (bytes_of h j) end z → Divides (bytes_of h j) end x
steps_divide h j x [] z end a d = subst (λ (n : ℕ). Divides (bytes_of h j) end n) (sym a) d
steps_divide h j x (v ∷ rest) z end a d = longer x (subst (λ (n : ℕ). Divides (bytes_of h j) end (x + n)) (a.0).width (steps_divide h j (x + v.width) rest z end a.1 d))

fill_divides : (bytes : List ℕ) (x y : ℕ) → IsFill bytes x y → Divides bytes y x
fill_divides bytes x y (inl e) = subst (λ (n : ℕ). Divides bytes y n) e ended
fill_divides bytes x y (inr e) =
    let short : length_at bytes x ≡ 2 = ap (λ (n : ℕ). cond (is_long n) 4 2) e.1 in
    longer x (subst (λ (n : ℕ). Divides bytes y n) (e.0 ∙ ap (λ (n : ℕ). x + n) (sym short)) ended)

-- how a unit ends
pub record UnitEnds (h : ObjectParts) (j : ℕ) (u : UnitPlace) (s : Sequence) : Type 0 where
  pub divided : Divides (bytes_of h j) (code_end u) u.start
  pub behind : s.behind ≤ code_end u
  pub within : code_end u ≤ u.end
  pub word : (y : ℕ) → u.island ≡ Some y → (s.behind ≤ y) × (y % 4 ≡ 0) × (u.end ≡ y + 4)

pub unit_ends : (h : ObjectParts) (j : ℕ) (u : UnitPlace) (s : Sequence) → IsSequence h j u s → UnitEnds h j u s
unit_ends h j u s is = go u.island refl is.island
  where
    go : (i : Option ℕ) → u.island ≡ i → EndsWith (bytes_of h j) s.behind i u.end → UnitEnds h j u s
    go None e w =
        let at : code_end u ≡ s.behind = ap (λ (z : Option ℕ). unwrap_or z u.end) e ∙ w in
        record {
          divided = subst (λ (n : ℕ). Divides (bytes_of h j) n u.start) (sym at) (steps_divide h j u.start s.steps s.behind s.behind is.steps ended);
          behind = omega (arith, at);
          within = omega (arith, at, w);
          word = λ y f. absurd (none-some y (sym e ∙ f));
        }
    go (Some v) e w =
        let at : code_end u ≡ v = ap (λ (z : Option ℕ). unwrap_or z u.end) e in
        let place = w.place in
        let ends = w.ends in
        record {
          divided = subst (λ (n : ℕ). Divides (bytes_of h j) n u.start) (sym at) (steps_divide h j u.start s.steps s.behind v is.steps (fill_divides (bytes_of h j) s.behind v w.filled));
          behind = omega (arith, at, place);
          within = omega (arith, at, ends);
          word = λ y f. let same : v ≡ y = same_Some v y (sym e ∙ f) in (omega (arith, place, same), omega (arith, place, same), omega (arith, ends, same));
        }
