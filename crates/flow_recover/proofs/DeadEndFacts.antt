-- When a step over a NOP keeps what stands behind a call.
use Rattle.std.proofs.Common.{◌≡◌, ◌≤◌, ℕ, ◌+◌, ◌^◌, Bool, true, false, List, refl, sym, ap, ◌∙◌, inl, inr, ◌⊎◌, arith, Option, Some, None}
use Rattle.std.specs.Prelude.{IsTrue, ◌↔◌}
use Rattle.std.proofs.lemmas.Bool.{true≢false}
use Rattle.std.proofs.lemmas.Option.{none-some, same_Some}
use Rattle.elf_model.specs.Fields.{half_at}
use Rattle.elf_model.specs.Objects.{ObjectParts, is_object, is_within}
use Rattle.reloc_places.specs.Tables.{AreStarts, AreFunctions}
use Rattle.reloc_places.specs.Starts.{bytes_of, is_nop}
use Rattle.flow_recover.specs.Reach.{IsDeadEnd}
use Rattle.flow_recover.specs.Reach.IsDeadEnd.{no_code, function, nop}
use Rattle.flow_recover.specs.DeadEnds.{IsLimit, IsNopAt}
use Rattle.reloc_places.proofs.StartFacts.{any_limit, start_inside}

pub no_start_limit : (o : ObjectParts) (end_at : ℕ → ℕ → Option ℕ) (j x : ℕ) → AreStarts o end_at → end_at j x ≡ None → IsTrue true ↔ IsLimit o j x
no_start_limit o end_at j x starts none = (λ t. inr (λ h. none-some h.end (sym none ∙ (starts j x h.end).1 h.start)), λ l. refl)

pub start_limit : (o : ObjectParts) (end_at : ℕ → ℕ → Option ℕ) (is_in : ℕ → ℕ → Bool) (j x end : ℕ) (b : Bool) → AreStarts o end_at → AreFunctions o is_in → end_at j x ≡ Some end → b ≡ is_in j x → IsTrue b ↔ IsLimit o j x
start_limit o end_at is_in j x end b starts functions some e = (λ t. inl (sym (e ∙ functions j x) ∙ t), back)
  where
    back : IsLimit o j x → b ≡ true
    back (inl f) = e ∙ functions j x ∙ f
    back (inr n) = absurd (n (record { end = end; start = (starts j x end).0 some }))

pub no_start_nop : (o : ObjectParts) (end_at : ℕ → ℕ → Option ℕ) (j x : ℕ) → AreStarts o end_at → end_at j x ≡ None → IsTrue false ↔ IsNopAt o j x
no_start_nop o end_at j x starts none = (λ t. absurd (true≢false (sym t)), λ h. absurd (none-some h.end (sym none ∙ (starts j x h.end).1 h.start)))

pub cut_nop : (o : ObjectParts) (end_at : ℕ → ℕ → Option ℕ) (j x end : ℕ) (b : Bool) → AreStarts o end_at → end_at j x ≡ Some end → b ≡ false → (x + 2 ≤ end → ⊥) → IsTrue b ↔ IsNopAt o j x
cut_nop o end_at j x end b starts some e short = (λ t. absurd (true≢false (sym t ∙ e)), back)
  where
    back : IsNopAt o j x → b ≡ true
    back h =
        let same : end ≡ h.end = same_Some end h.end (sym some ∙ (starts j x h.end).1 h.start) in
        let whole = h.whole in
        absurd (short (omega arith))

pub whole_nop : (o : ObjectParts) (end_at : ℕ → ℕ → Option ℕ) (j x end h : ℕ) (bytes : List ℕ) (b : Bool) → AreStarts o end_at → end_at j x ≡ Some end → x + 2 ≤ end → bytes ≡ bytes_of o j → h ≡ half_at bytes x → b ≡ is_nop h → IsTrue b ↔ IsNopAt o j x
whole_nop o end_at j x end h bytes b starts some whole of half e = (to, back)
  where
    same : h ≡ half_at (bytes_of o j) x
    same = half ∙ ap (λ (l : List ℕ). half_at l x) of

    to : b ≡ true → IsNopAt o j x
    to t = record { end = end; start = (starts j x end).0 some; whole = whole; nop = ap is_nop (sym same) ∙ sym e ∙ t }

    back : IsNopAt o j x → b ≡ true
    back n = e ∙ ap is_nop same ∙ n.nop

pub limit_ends : (o : ObjectParts) (j x : ℕ) → IsLimit o j x → IsDeadEnd o j x
limit_ends o j x (inl f) = function x f
limit_ends o j x (inr n) = no_code x n

-- behind no limit there is a NOP and a dead end
pub ends_behind : (o : ObjectParts) (j x : ℕ) → (IsLimit o j x → ⊥) → IsDeadEnd o j x → IsNopAt o j x × IsDeadEnd o j (x + 2)
ends_behind o j _ none (no_code x n) = absurd (none (inr n))
ends_behind o j _ none (function x f) = absurd (none (inl f))
ends_behind o j _ none (nop x end s w h d) = (record { end = end; start = s; whole = w; nop = h }, d)

pub over_nop : (o : ObjectParts) (j x y : ℕ) → (IsLimit o j x → ⊥) → IsNopAt o j x → IsDeadEnd o j x ↔ IsDeadEnd o j y → IsDeadEnd o j (x + 2) ↔ IsDeadEnd o j y
over_nop o j x y none n same = (λ d. same.0 (nop x n.end n.start n.whole n.nop d), λ d. (ends_behind o j x none (same.1 d)).1)

pub nop_inside : (o : ObjectParts) (j x : ℕ) → is_object o ≡ true → IsTrue (is_within o any_limit) → IsNopAt o j x → x + 2 ≤ 2 ^ 24
nop_inside o j x sound within n =
    let inside = start_inside o j x n.end sound within n.start in
    let whole = n.whole in
    omega arith

pub stopped : (o : ObjectParts) (j x y : ℕ) (b : Bool) → IsTrue b ↔ IsLimit o j x → (IsLimit o j x) ⊎ (IsNopAt o j x → ⊥) → IsDeadEnd o j x ↔ IsDeadEnd o j y → IsTrue b ↔ IsDeadEnd o j y
stopped o j x y b is ends same = (λ t. same.0 (limit_ends o j x (is.0 t)), back)
  where
    decide : (c : Bool) → b ≡ c → IsDeadEnd o j y → b ≡ true
    decide true e d = e
    decide false e d =
        let none : IsLimit o j x → ⊥ = λ l. true≢false (sym (is.1 l) ∙ e) in
        let n = ends_behind o j x none (same.1 d) in
        elim ends [
          | inl l ↦ is.1 l
          | inr lack ↦ absurd (lack n.0)
        ]

    back : IsDeadEnd o j y → b ≡ true
    back d = decide b refl d
