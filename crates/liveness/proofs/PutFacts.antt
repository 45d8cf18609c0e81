-- The sources of the edges that enter a point are put, edge by edge.
use Rattle.std.proofs.Common.{◌≡◌, ◌<◌, ◌≤◌, ◌+◌, ℕ, zero, suc, Bool, true, false, cond, List, [], ◌∷◌, ◌++◌, drop, refl, sym, ap, ◌∙◌, subst, inl, inr, ◌↔◌, arith, length, Option, Some, None}
use Rattle.std.specs.Prelude.{slice_get, Contains, count_by, ◌==◌}
use Rattle.std.proofs.lemmas.Bool.{cases_order, eq-eqb}
use Rattle.std.proofs.lemmas.List.{length_push}
use Rattle.std.proofs.lemmas.List.Elements.{Contains-push, Contains-append_left}
use Rattle.std.proofs.lemmas.Option.{none-some, same_Some, slice_get_within, slice_get-get_or}
use Rattle.index_links.specs.Links.{Edge, Enters, IsFirstFrom}
use Rattle.index_links.specs.Queues.{PendingParts}
use Rattle.liveness.proofs.LackFacts.{one_if, enters, count_step}

-- where the walk over the edges that enter a point stands
abbrev pub reached : List Edge → Option ℕ → ℕ
reached edges None = length edges
reached edges (Some e) = e

pub record IsPutting (edges : List Edge) (p : ℕ) (start now : PendingParts) (edge : Option ℕ) : Type 0 where
  pub size : now.size ≡ start.size
  pub here : (e : ℕ) → edge ≡ Some e → Enters edges p e
  pub kept : (q : ℕ) → Contains start.waiting q → Contains now.waiting q
  pub put : (k : ℕ) (x : Edge) → k < reached edges edge → slice_get edges k ≡ Some x → x.target ≡ p → Contains now.waiting x.source
  pub few : length now.waiting + count_by (enters p) (drop (reached edges edge) edges) ≤ length start.waiting + count_by (enters p) edges

-- fewer edges are left further on
count_falls : (p m n : ℕ) (edges : List Edge) → m ≤ n → count_by (enters p) (drop n edges) ≤ count_by (enters p) (drop m edges)
count_falls p zero zero edges le = omega arith
count_falls p zero (suc n) [] le = omega arith
count_falls p zero (suc n) (e ∷ edges) le =
    let a = count_falls p zero n edges (omega arith) in
    let s = count_step p e edges in
    omega arith
count_falls p (suc m) zero edges le = absurd (omega arith)
count_falls p (suc m) (suc n) [] le = omega arith
count_falls p (suc m) (suc n) (e ∷ edges) le = count_falls p m n edges (omega arith)

one_less : (p e : ℕ) (edges : List Edge) → Enters edges p e → count_by (enters p) (drop e edges) ≡ 1 + count_by (enters p) (drop (e + 1) edges)
one_less p e [] (s, at) = absurd (none-some (record { source = s; target = p }) at)
one_less p zero (x ∷ edges) (s, at) =
    let target : x.target ≡ p = ap (λ (y : Edge). y.target) (same_Some x (record { source = s; target = p }) at) in
    let one : one_if (x.target == p) ≡ 1 = ap one_if (eq-eqb x.target p target) in
    let all : count_by (enters p) (drop 0 (x ∷ edges)) ≡ one_if (x.target == p) + count_by (enters p) edges = count_step p x edges in
    let rest : count_by (enters p) (drop (0 + 1) (x ∷ edges)) ≡ count_by (enters p) edges = refl in
    omega arith
one_less p (suc e) (x ∷ edges) here =
    let same : suc (e + 1) ≡ suc e + 1 = omega arith in
    subst (λ (n : ℕ). count_by (enters p) (drop (suc e) (x ∷ edges)) ≡ 1 + count_by (enters p) (drop n (x ∷ edges))) same (one_less p e edges here)

after_none : (edges : List Edge) (p low : ℕ) (next : Option ℕ) → IsFirstFrom (Enters edges p) low next → low ≤ length edges → (low ≤ reached edges next) × ((k : ℕ) (x : Edge) → low ≤ k → k < reached edges next → slice_get edges k ≡ Some x → x.target ≡ p → ⊥)
after_none edges p low None first within = (within, λ k x high below at target. first k high (x.source, at ∙ ap (λ (n : ℕ). Some (record { source = x.source; target = n })) target))
after_none edges p low (Some e) first within = (first.0, λ k x high below at target. first.2 k high below (x.source, at ∙ ap (λ (n : ℕ). Some (record { source = x.source; target = n })) target))

next_here : (edges : List Edge) (p low : ℕ) (next : Option ℕ) → IsFirstFrom (Enters edges p) low next → (e : ℕ) → next ≡ Some e → Enters edges p e
next_here edges p low None first e is = absurd (none-some e is)
next_here edges p low (Some n) first e is = subst (λ (k : ℕ). Enters edges p k) (same_Some n e is) first.1

pub putting_first : (edges : List Edge) (p : ℕ) (start : PendingParts) (edge : Option ℕ) → IsFirstFrom (Enters edges p) 0 edge → IsPutting edges p start start edge
putting_first edges p start edge first =
    let none = after_none edges p 0 edge first (omega arith) in
    record {
      size = refl;
      here = next_here edges p 0 edge first;
      kept = λ q c. c;
      put = λ k x below at target. absurd (none.1 k x (omega arith) below at target);
      few = let a = count_falls p 0 (reached edges edge) edges (omega arith) in omega arith;
    }

-- an index that is put waits, with all that waited, and at most one more does
pub record IsPut (old new : PendingParts) (i : ℕ) (put : Bool) : Type 0 where
  pub waits : (put ≡ false) ↔ Contains old.waiting i
  pub waiting : new.waiting ≡ cond put (old.waiting ++ i ∷ []) old.waiting
  pub size : new.size ≡ old.size

module _ (old new : PendingParts) (i : ℕ) where
  pub put_waits : (put : Bool) → IsPut old new i put → Contains new.waiting i
  put_waits true is = subst (λ (l : List ℕ). Contains l i) (sym is.waiting) (Contains-push old.waiting i)
  put_waits false is = subst (λ (l : List ℕ). Contains l i) (sym is.waiting) (is.waits.0 refl)

  pub put_keeps : (put : Bool) → IsPut old new i put → (q : ℕ) → Contains old.waiting q → Contains new.waiting q
  put_keeps true is q c = subst (λ (l : List ℕ). Contains l q) (sym is.waiting) (Contains-append_left old.waiting (i ∷ []) q c)
  put_keeps false is q c = subst (λ (l : List ℕ). Contains l q) (sym is.waiting) c

  pub put_few : (put : Bool) → IsPut old new i put → length new.waiting ≤ length old.waiting + 1
  put_few true is = let a : length new.waiting ≡ length (old.waiting ++ i ∷ []) = ap (λ (l : List ℕ). length l) is.waiting in let b = length_push old.waiting i in omega arith
  put_few false is = let a : length new.waiting ≡ length old.waiting = ap (λ (l : List ℕ). length l) is.waiting in omega arith

pub putting_more : (edges : List Edge) (p : ℕ) (start old new : PendingParts) (e i : ℕ) (next : Option ℕ) (put : Bool) → IsPutting edges p start old (Some e) → ((x : Edge) → slice_get edges e ≡ Some x → i ≡ x.source) → IsPut old new i put → ((x : Edge) → slice_get edges e ≡ Some x → IsFirstFrom (Enters edges x.target) (e + 1) next) → IsPutting edges p start new next
putting_more edges p start old new e i next put is source one first =
    let here = is.here e refl in
    let low : e < length edges = slice_get_within edges e (record { source = here.0; target = p }) here.1 in
    let from : IsFirstFrom (Enters edges p) (e + 1) next = first (record { source = here.0; target = p }) here.1 in
    let none = after_none edges p (e + 1) next from (omega arith) in
    record {
      size = one.size ∙ is.size;
      here = next_here edges p (e + 1) next from;
      kept = λ q c. put_keeps old new i put one q (is.kept q c);
      put = λ k x below at target. elim (cases_order k e) [
        | inl same ↦ subst (λ (n : ℕ). Contains new.waiting n) (source x (subst (λ (n : ℕ). slice_get edges n ≡ Some x) same at)) (put_waits old new i put one)
        | inr (inl before) ↦ put_keeps old new i put one x.source (is.put k x before at target)
        | inr (inr after) ↦ absurd (none.1 k x (omega arith) below at target)
      ];
      few =
          let a = put_few old new i put one in
          let d = one_less p e edges here in
          let g = count_falls p (e + 1) (reached edges next) edges none.0 in
          let h : length old.waiting + count_by (enters p) (drop e edges) ≤ length start.waiting + count_by (enters p) edges = is.few in
          omega arith;
    }

-- the walk goes on
pub putting_on : (edges : List Edge) (p e : ℕ) (next : Option ℕ) → e < length edges → ((x : Edge) → slice_get edges e ≡ Some x → IsFirstFrom (Enters edges x.target) (e + 1) next) → Enters edges p e → e < reached edges next
putting_on edges p e next low first here = let from = after_none edges p (e + 1) next (first (record { source = here.0; target = p }) here.1) (omega arith) in let a = from.0 in omega arith

pub all_put : (edges : List Edge) (p : ℕ) (start now : PendingParts) → IsPutting edges p start now None → (x : Edge) → Contains edges x → x.target ≡ p → Contains now.waiting x.source
all_put edges p start now is x c target = let at = contains_at_place edges x c in is.put at.0 x (slice_get_within edges at.0 x at.1) at.1 target
  where
    contains_at_place : (xs : List Edge) (x : Edge) → Contains xs x → (k : ℕ) × (slice_get xs k ≡ Some x)
    contains_at_place xs x (k, low, at) = (k, slice_get-get_or xs k x low ∙ ap (λ (y : Edge). Some y) at)

pub few_put : (edges : List Edge) (p : ℕ) (start now : PendingParts) → IsPutting edges p start now None → length now.waiting ≤ length start.waiting + count_by (enters p) edges
few_put edges p start now is = let a : length now.waiting + count_by (enters p) (drop (length edges) edges) ≤ length start.waiting + count_by (enters p) edges = is.few in omega arith
