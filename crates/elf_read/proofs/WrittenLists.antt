-- What follows of the order of symbols, of relocations and of the sections that have relocations.
use Rattle.std.proofs.Common.{◌≡◌, ◌≢◌, ◌≤◌, ◌<◌, ℕ, zero, suc, ◌+◌, Bool, true, false, not, ◌||◌, List, [], ◌∷◌, length, Some, inl, inr, refl, sym, ap, ◌∙◌, subst, arith}
use Rattle.std.specs.Prelude.{slice_get, ◌==◌, if◌then◌else◌}
use Rattle.std.specs.List.{list_all, list_any}
use Rattle.std.proofs.lemmas.Option.{none-some, same_Some}
use Rattle.std.proofs.lemmas.Bool.{and_parts, or_cases, or_left, or_right, eq-eqb, eqb-true, both_ways, not-true}
use Rattle.std.proofs.lemmas.Bool.Decides.{nat_tests}
use Rattle.elf_model.specs.declared.objects.Section.{Section}
use Rattle.elf_model.specs.declared.objects.Symbol.{Symbol}
use Rattle.elf_model.specs.declared.objects.Reloc.{Reloc}
use Rattle.elf_model.specs.Constants.{local}
use Rattle.elf_model.specs.Objects.{ObjectParts, locals_first, is_below, rise}
use Rattle.elf_model.specs.Canonical.{relocated, relocs_in}
use Rattle.elf_model.proofs.Lists.{All_at, All_from_test}
use Rattle.elf_read.proofs.SoundOrder.{Apart, apart_filter}

any_there : {X : Type 0} (p : X → Bool) (xs : List X) (i : ℕ) (x : X) → slice_get xs i ≡ Some x → p x ≡ true → list_any p xs ≡ true
any_there p [] i x e t = absurd (none-some x e)
any_there p (y ∷ ys) zero x e t = or_left (p y) (list_any p ys) (ap p (same_Some y x e) ∙ t)
any_there p (y ∷ ys) (suc i) x e t = or_right (p y) (list_any p ys) (any_there p ys i x e t)

pub local_before : (xs : List Symbol) (i j : ℕ) (s t : Symbol) → locals_first xs ≡ true → slice_get xs i ≡ Some s → slice_get xs j ≡ Some t → i < j → t.bind ≡ local → s.bind ≡ local
local_before [] i j s t h e f l k = absurd (none-some s e)
local_before (x ∷ xs) i zero s t h e f l k = absurd (omega arith)
local_before (x ∷ xs) zero (suc j) s t h e f l k =
    let parts = and_parts ((x.bind == local) || not (list_any (λ (y : Symbol). y.bind == local) xs)) (locals_first xs) h in
    let some = any_there (λ (y : Symbol). y.bind == local) xs j t f (eq-eqb t.bind local k) in
    elim (or_cases (x.bind == local) (not (list_any (λ (y : Symbol). y.bind == local) xs)) parts.0) [
      | inl y ↦ sym (ap (λ (z : Symbol). z.bind) (same_Some x s e)) ∙ eqb-true x.bind local y
      | inr n ↦ absurd (both_ways (list_any (λ (y : Symbol). y.bind == local) xs) (not-true _ n) some)
    ]
local_before (x ∷ xs) (suc i) (suc j) s t h e f l k =
    let parts = and_parts ((x.bind == local) || not (list_any (λ (y : Symbol). y.bind == local) xs)) (locals_first xs) h in
    local_before xs i j s t parts.1 e f (omega arith) k

rise_apart : (rs : List Reloc) → rise rs ≡ true → Apart (λ x y. is_below x y ≡ true) rs
rise_apart [] h = tt
rise_apart (r ∷ rest) h =
    let parts = and_parts (list_all (is_below r) rest) (rise rest) h in
    (All_from_test (is_below r) rest parts.0, rise_apart rest parts.1)

apart_at : {X : Type 0} (R : X → X → Type 0) (xs : List X) → Apart R xs → (i j : ℕ) (x y : X) → slice_get xs i ≡ Some x → slice_get xs j ≡ Some y → i < j → R x y
apart_at R [] a i j x y e f l = absurd (none-some x e)
apart_at R (z ∷ zs) a i zero x y e f l = absurd (omega arith)
apart_at R (z ∷ zs) a zero (suc j) x y e f l = subst (λ (w : _). R w y) (same_Some z x e) (All_at (R z) zs j y a.0 f)
apart_at R (z ∷ zs) a (suc i) (suc j) x y e f l = apart_at R zs a.1 i j x y e f (omega arith)

below_offset : (x y : Reloc) → is_below x y ≡ true → x.section ≡ y.section → x.offset < y.offset
below_offset x y h e = grind (arith, nat_tests)

-- the relocations of a section rise
pub offsets_rise : (o : ObjectParts) (n i j : ℕ) (x y : Reloc) → rise o.relocs ≡ true → slice_get (relocs_in o n) i ≡ Some x → slice_get (relocs_in o n) j ≡ Some y → i < j → x.section ≡ n → y.section ≡ n → x.offset < y.offset
offsets_rise o n i j x y h e f l s t =
    let R : Reloc → Reloc → Type 0 = λ x y. is_below x y ≡ true in
    below_offset x y (apart_at R (relocs_in o n) (apart_filter R (λ r. r.section == n) o.relocs (rise_apart o.relocs h)) i j x y e f l) (s ∙ sym t)

-- a section that has relocations
pub record IsRelocated (o : ObjectParts) (i : ℕ) (p : ℕ × Section) : Type 0 where
  pub above : i ≤ p.0
  pub some : length (relocs_in o p.0) ≢ 0

pub relocated_at : (o : ObjectParts) (i : ℕ) (ss : List Section) (k : ℕ) (p : ℕ × Section) → slice_get (relocated o i ss) k ≡ Some p → IsRelocated o i p
relocated_at o i [] k p e = absurd (none-some p e)
relocated_at o i (s ∷ ss) k p e = go (λ j f. further (relocated_at o (i + 1) ss j p f)) (length (relocs_in o i) == 0) refl k e
  where
    further : IsRelocated o (i + 1) p → IsRelocated o i p
    further r = let a = r.above in record { above = omega (arith, a); some = r.some }

    go : ((j : ℕ) → slice_get (relocated o (i + 1) ss) j ≡ Some p → IsRelocated o i p) → (t : Bool) → (length (relocs_in o i) == 0) ≡ t → (k : ℕ) → slice_get (if t then relocated o (i + 1) ss else (i, s) ∷ relocated o (i + 1) ss) k ≡ Some p → IsRelocated o i p
    go later true n k e = later k e
    go later false n zero e = subst (λ (q : ℕ × Section). IsRelocated o i q) (same_Some (i, s) p e) (record { above = omega arith; some = λ z. both_ways _ n (eq-eqb (length (relocs_in o i)) 0 z) })
    go later false n (suc k) e = later k e

pub relocated_rise : (o : ObjectParts) (i : ℕ) (ss : List Section) (j k : ℕ) (p q : ℕ × Section) → slice_get (relocated o i ss) j ≡ Some p → slice_get (relocated o i ss) k ≡ Some q → j < k → p.0 < q.0
relocated_rise o i [] j k p q e f l = absurd (none-some p e)
relocated_rise o i (s ∷ ss) j k p q e f l = go (λ a c x y m. relocated_rise o (i + 1) ss a c p q x y m) (length (relocs_in o i) == 0) j k e f l
  where
    go : ((j k : ℕ) → slice_get (relocated o (i + 1) ss) j ≡ Some p → slice_get (relocated o (i + 1) ss) k ≡ Some q → j < k → p.0 < q.0) → (t : Bool) (j k : ℕ) → slice_get (if t then relocated o (i + 1) ss else (i, s) ∷ relocated o (i + 1) ss) j ≡ Some p → slice_get (if t then relocated o (i + 1) ss else (i, s) ∷ relocated o (i + 1) ss) k ≡ Some q → j < k → p.0 < q.0
    go later true j k e f l = later j k e f l
    go later false j zero e f l = absurd (omega arith)
    go later false zero (suc k) e f l =
        let first = ap (λ (r : ℕ × Section). r.0) (same_Some (i, s) p e) in
        let a = (relocated_at o (i + 1) ss k q f).above in
        omega (arith, first, a)
    go later false (suc j) (suc k) e f l = later j k e f (omega arith)
