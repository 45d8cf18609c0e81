-- Points and sets by their numbers.
use Rattle.std.proofs.Common.{◌≡◌, ◌<◌, ℕ, List, refl, sym, ap, ◌∙◌, subst, Some, length, ◌^◌, ◌↔◌, ◌||◌, true, false, IsTrue, Bool, Option}
use Rattle.std.specs.Prelude.{slice_get, All}
use Rattle.std.proofs.Math.ListN.{get_or, set}
use Rattle.std.proofs.lemmas.Option.{slice_get_read, same_Some, get_or_from_slice_get, slice_get_within}
use Rattle.thumb_instr.specs.declared.register_sets.RegSet.{RegSet}
use Rattle.thumb_instr.specs.Operands.{has}
use Rattle.flow_recover.specs.declared.flows.Point.{Point}
use Rattle.flow_recover.specs.Flows.{FlowParts}
use Rattle.liveness.specs.declared.boundary.Boundary.{Boundary}
use Rattle.liveness.specs.Paths.{Leads, NamesPoints}
use Rattle.liveness.specs.Sets.{has_in, holds_at, gains, holds_after}

pub read_there : {X : Type 0} (items xs : List X) (p : ℕ) (x : X) → xs ≡ items → p < length items → x ≡ get_or xs p x → slice_get items p ≡ Some x
read_there {X} items xs p x e low is = subst (λ (l : List X). slice_get l p ≡ Some x) e (slice_get_read xs (length xs) p x refl (subst (λ (l : List X). p < length l) (sym e) low) is)

-- an edge of a point that was read leads to one of the sets
pub edge_within : (f : FlowParts) (points : List Point) (sets items l : List RegSet) (p q : ℕ) (x : Point) → NamesPoints f → points ≡ f.points → p < length f.points → x ≡ get_or points p x → length sets ≡ length f.points → items ≡ sets → l ≡ items → Leads x q → q < length l
edge_within f points sets items l p q x names e low is sized same read leads =
    let inside : q < length f.points = names.edges p q x (read_there f.points points p x e low is) leads in
    subst (λ (s : List RegSet). q < length s) (sym (read ∙ same)) (subst (λ (n : ℕ). q < n) (sym sized) inside)

-- the set that is written holds what the old one held, and what is gained
pub set_gains : (f : FlowParts) (b : Boundary) (sets items l : List RegSet) (p k : ℕ) (x y : Point) (old new added : RegSet) → items ≡ sets → l ≡ items → slice_get f.points p ≡ Some x → slice_get f.points p ≡ Some y → slice_get sets p ≡ Some old → slice_get (set items p new) p ≡ Some new → ((j : ℕ) → has new.0 j ≡ (has old.0 j || has added.0 j)) → ((j : ℕ) → has added.0 j ≡ gains b l x j) → holds_at (set items p new) p k ≡ (holds_at sets p k || gains b sets y k)
set_gains f b sets items l p k x y old new added same read here there was now union gained =
    let point : x ≡ y = same_Some x y (sym here ∙ there) in
    let at_old : has old.0 k ≡ holds_at sets p k = sym (ap (λ (o : Option RegSet). has_in o k) was) in
    let at_new : holds_at (set items p new) p k ≡ has new.0 k = ap (λ (o : Option RegSet). has_in o k) now in
    let more : has added.0 k ≡ gains b sets y k = gained k ∙ ap (λ (s : List RegSet). gains b s x k) (read ∙ same) ∙ ap (λ (z : Point). gains b sets z k) point in
    at_new ∙ union k ∙ ap (λ (t : Bool). t || has added.0 k) at_old ∙ ap (λ (t : Bool). holds_at sets p k || t) more

abbrev pub IsMore : (ℕ → Bool) → (ℕ → Bool) → Type 0
IsMore old new = (k : ℕ) × (old k ≡ false) × (new k ≡ true)

pub set_grew : (result : Bool) (old new : ℕ → Bool) (was now : ℕ → Bool) → ((k : ℕ) → old k ≡ was k) → ((k : ℕ) → new k ≡ now k) → IsTrue result ↔ IsMore was now → IsTrue result ↔ IsMore old new
set_grew result old new was now o n iff =
    (λ t. let m = iff.0 t in (m.0, o m.0 ∙ m.1, n m.0 ∙ m.2), λ m. iff.1 (m.0, sym (o m.0) ∙ m.1, sym (n m.0) ∙ m.2))

-- what is held after a point that was read
pub after_there : (f : FlowParts) (b : Boundary) (sets l : List RegSet) (p k : ℕ) (x y : Point) (result : RegSet) → l ≡ sets → slice_get f.points p ≡ Some x → slice_get f.points p ≡ Some y → ((j : ℕ) → has result.0 j ≡ holds_after b l x j) → has result.0 k ≡ holds_after b sets y k
after_there f b sets l p k x y result same here there is =
    let point : x ≡ y = same_Some x y (sym here ∙ there) in
    is k ∙ ap (λ (s : List RegSet). holds_after b s x k) same ∙ ap (λ (z : Point). holds_after b sets z k) point

-- a flow whose edges and entries were looked at
pub flow_names : (f : FlowParts) (points edges : List Point) (entries : List ℕ) (n : ℕ) → points ≡ f.points → edges ≡ f.points → entries ≡ f.entries → n ≡ length points → n < 2 ^ 28 → All (λ x. (q : ℕ) → Leads x q → q < n) edges → All (λ e. e < n) entries → NamesPoints f
flow_names f points edges entries n ep ee en count low led within =
    let same : n ≡ length f.points = count ∙ ap (λ (l : List Point). length l) ep in
    let all : All (λ x. (q : ℕ) → Leads x q → q < n) f.points = subst (λ (l : List Point). All (λ x. (q : ℕ) → Leads x q → q < n) l) ee led in
    record {
      few = subst (λ (m : ℕ). m < 2 ^ 28) same low;
      edges = λ p q x there leads. subst (λ (m : ℕ). q < m) same (all_at f.points p x there all q leads);
      entries = subst (λ (m : ℕ). All (λ e. e < m) f.entries) same (subst (λ (l : List ℕ). All (λ e. e < n) l) en within);
    }
  where
    all_at : (xs : List Point) (p : ℕ) (x : Point) → slice_get xs p ≡ Some x → All (λ x. (q : ℕ) → Leads x q → q < n) xs → (q : ℕ) → Leads x q → q < n
    all_at xs p x there all = subst (λ (y : Point). (q : ℕ) → Leads y q → q < n) (get_or_from_slice_get xs p x x there) (all p x (slice_get_within xs p x there))
