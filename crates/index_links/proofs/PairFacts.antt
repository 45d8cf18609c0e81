-- Edges by the heads of two lists of chains.
use Rattle.std.proofs.Common.{◌≡◌, ℕ, zero, suc, List, [], ◌∷◌, ◌++◌, refl, ap, Option, Some, None, length, arith}
use Rattle.std.specs.Prelude.{slice_get}
use Rattle.std.proofs.lemmas.Option.{none-some, same_Some}
use Rattle.index_links.specs.Links.{Edge, Leaves, Enters, IsFirstFrom}
use Rattle.index_links.specs.Chains.{Belongs, pairs}

pub length_pairs : (sources targets : List ℕ) → length sources ≡ length targets → length (pairs sources targets) ≡ length sources
length_pairs [] targets e = refl
length_pairs (p ∷ sources) [] e = absurd (omega arith)
length_pairs (p ∷ sources) (q ∷ targets) e = let more = length_pairs sources targets (omega arith) in omega arith

pub pairs_push : (sources targets : List ℕ) (p q : ℕ) → length sources ≡ length targets → pairs (sources ++ p ∷ []) (targets ++ q ∷ []) ≡ pairs sources targets ++ record { source = p; target = q } ∷ []
pairs_push [] [] p q e = refl
pairs_push [] (t ∷ targets) p q e = absurd (omega arith)
pairs_push (s ∷ sources) [] p q e = absurd (omega arith)
pairs_push (s ∷ sources) (t ∷ targets) p q e = ap (λ (l : List Edge). record { source = s; target = t } ∷ l) (pairs_push sources targets p q (omega arith))

-- the ends of an edge
pub source_at : (sources targets : List ℕ) (e : ℕ) (x : Edge) → slice_get (pairs sources targets) e ≡ Some x → Belongs sources x.source e
source_at [] targets e x at = absurd (none-some x at)
source_at (s ∷ sources) [] e x at = absurd (none-some x at)
source_at (s ∷ sources) (t ∷ targets) zero x at = ap (λ (y : Edge). Some y.source) (same_Some (record { source = s; target = t }) x at)
source_at (s ∷ sources) (t ∷ targets) (suc e) x at = source_at sources targets e x at

pub target_at : (sources targets : List ℕ) (e : ℕ) (x : Edge) → slice_get (pairs sources targets) e ≡ Some x → Belongs targets x.target e
target_at [] targets e x at = absurd (none-some x at)
target_at (s ∷ sources) [] e x at = absurd (none-some x at)
target_at (s ∷ sources) (t ∷ targets) zero x at = ap (λ (y : Edge). Some y.target) (same_Some (record { source = s; target = t }) x at)
target_at (s ∷ sources) (t ∷ targets) (suc e) x at = target_at sources targets e x at

-- an edge where its source, or its target, stands
pub leaves_at : (sources targets : List ℕ) → length sources ≡ length targets → (p e : ℕ) → Belongs sources p e → Leaves (pairs sources targets) p e
leaves_at [] targets same p e at = absurd (none-some p at)
leaves_at (s ∷ sources) [] same p e at = absurd (omega arith)
leaves_at (s ∷ sources) (t ∷ targets) same p zero at = (t, ap (λ (n : ℕ). Some (record { source = n; target = t })) (same_Some s p at))
leaves_at (s ∷ sources) (t ∷ targets) same p (suc e) at = leaves_at sources targets (omega arith) p e at

pub enters_at : (sources targets : List ℕ) → length sources ≡ length targets → (q e : ℕ) → Belongs targets q e → Enters (pairs sources targets) q e
enters_at [] [] same q e at = absurd (none-some q at)
enters_at [] (t ∷ targets) same q e at = absurd (omega arith)
enters_at (s ∷ sources) [] same q e at = absurd (none-some q at)
enters_at (s ∷ sources) (t ∷ targets) same q zero at = (s, ap (λ (n : ℕ). Some (record { source = s; target = n })) (same_Some t q at))
enters_at (s ∷ sources) (t ∷ targets) same q (suc e) at = enters_at sources targets (omega arith) q e at

-- what holds of one property's first index holds of an equal one's
first_alike : (P Q : ℕ → Type 0) (low : ℕ) (o : Option ℕ) → ((k : ℕ) → P k → Q k) → ((k : ℕ) → Q k → P k) → IsFirstFrom P low o → IsFirstFrom Q low o
first_alike P Q low None to from w = λ k high q. w k high (from k q)
first_alike P Q low (Some e) to from w = (w.0, to e w.1, λ k high below q. w.2 k high below (from k q))

module _ (sources targets : List ℕ) (same : length sources ≡ length targets) where
  pub first_leaves : (p low : ℕ) (o : Option ℕ) → IsFirstFrom (Belongs sources p) low o → IsFirstFrom (Leaves (pairs sources targets) p) low o
  first_leaves p low o w = first_alike (Belongs sources p) (Leaves (pairs sources targets) p) low o (leaves_at sources targets same p) (λ k l. source_at sources targets k (record { source = p; target = l.0 }) l.1) w

  pub first_enters : (q low : ℕ) (o : Option ℕ) → IsFirstFrom (Belongs targets q) low o → IsFirstFrom (Enters (pairs sources targets) q) low o
  first_enters q low o w = first_alike (Belongs targets q) (Enters (pairs sources targets) q) low o (enters_at sources targets same q) (λ k l. target_at sources targets k (record { source = l.0; target = q }) l.1) w
