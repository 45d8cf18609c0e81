-- What is built for a point is its sequence.
use Rattle.std.specs.Prelude.{◌≡◌, ◌≤◌, ◌⊎◌, ℕ, zero, suc, ◌+◌, ◌++◌, slice_get, ◌&&◌, ◌||◌, nat_lt, Bool, true, false, cond, List, [], ◌∷◌, Option, Some, None, length, take, refl}
use Rattle.std.proofs.Common.{arith, sym, ap, ◌∙◌, subst, inl, inr}
use Rattle.std.proofs.lemmas.Bool.{ltb-false}
use Rattle.std.proofs.lemmas.Option.{none-some, same_Some}
use Rattle.elf_model.specs.declared.refusals.Refusal.{Refusal}
use Rattle.elf_model.specs.declared.refusals.Refusal.TheVariants.{NoScratch}
use Rattle.thumb_instr.specs.declared.instructions.Instr.{Instr}
use Rattle.flow_recover.specs.Flows.{FlowParts}
use Rattle.liveness.specs.declared.boundary.Boundary.{Boundary}
use Rattle.seq_core.specs.declared.classes.Class.{Class}
use Rattle.seq_core.specs.declared.units.Unit.{Unit as SeqUnit}
use Rattle.flow_recover.specs.declared.flows.Point.{Point}
use Rattle.it_expand.specs.Expanded.{body_of}
use Rattle.seq_core.specs.Needs.{registers_of, changes_flags}
use Rattle.std.proofs.lemmas.List.{length-take, length-append}
use Rattle.thumb_instr.specs.declared.conditions.Cond.{Cond}
use Rattle.thumb_instr.specs.Sets.{is_flag}
use Rattle.thumb_table.specs.Conditions.{holds}
use Rattle.thumb_table.specs.Schedules.{is_in}
use Rattle.elf_model.specs.Objects.{ObjectParts}
use Rattle.it_expand.specs.Expanded.{guard_of}
use Rattle.seq_core.specs.Builders.{AreCoded, AreFree, CanBuild, Do, HasRow, loses, own_test}
use Rattle.seq_core.specs.Classes.{IsOf}
use Rattle.seq_core.specs.Replaced.{replaced}
use Rattle.seq_core.specs.Series.{Series}
use Rattle.point_units.specs.Scratch.{scratch_of, has_live_flag}
use Rattle.point_units.specs.Units.{IsReplaced, IsSequenceOf, IsUnitOf, HaveUnits, Works, landed, left_instr, never_returns, under}
use Rattle.point_units.specs.Units.IsSequenceOf.{of_instr}
use Rattle.point_units.proofs.FreeFacts.{scratch_is_free}
use Rattle.point_units.proofs.LeftFacts.{left_adds, left_condition, left_free, left_needs, left_of}
use Rattle.point_units.specs.Spots.{lack}

-- Where nothing is lacking there are registers enough, and no flag is live that is lost.
pub record Suffices (c : Class) (live : ℕ → Bool) (i : Instr) : Type 0 where
  pub enough : registers_of c i ≤ length (scratch_of live i)
  pub flags : (changes_flags c && has_live_flag live) ≡ false

pub suffices : (c : Class) (live : ℕ → Bool) (i : Instr) → lack c live i ≡ None → Suffices c live i
suffices c live i e = go (nat_lt (length (scratch_of live i)) (registers_of c i)) refl (changes_flags c && has_live_flag live) refl e
  where
    no_some : (r : Refusal) → Some r ≡ None → ⊥
    no_some r e = none-some r (sym e)

    go : (a : Bool) → nat_lt (length (scratch_of live i)) (registers_of c i) ≡ a → (f : Bool) → (changes_flags c && has_live_flag live) ≡ f
        → cond (a || f) (Some (NoScratch (registers_of c i) (length (scratch_of live i)) (changes_flags c && has_live_flag live))) None ≡ None → Suffices c live i
    go true p f q e = absurd (no_some _ e)
    go false p true q e = absurd (no_some _ e)
    go false p false q e = record { enough = ltb-false (length (scratch_of live i)) (registers_of c i) p; flags = q }

-- A point's body is its instruction, where it has one.
pub body_is : (i j : Instr) → body_of i ≡ Some j → i ≡ j
body_is i j e = grind arith

-- What does what is left to the relocation does so where the point's own condition holds.
works_left : (o : ObjectParts) (x : Point) (copies : ℕ) (scratch : List ℕ) (s : Series) → Do (λ y. holds x.cond y && own_test (left_instr o x) y) (left_instr o x) (loses (left_instr o x) scratch) copies (take s.landing s.steps) → Works o copies x scratch s
works_left o x copies scratch s d =
    subst (λ (c : Cond). Do (λ y. holds x.cond y && holds c y) (left_instr o x) (loses x.instr scratch) copies (take s.landing s.steps)) (left_condition o x)
    (subst (λ (a : Bool). Do (λ y. holds x.cond y && own_test (left_instr o x) y) (left_instr o x) (λ k. is_in scratch k || (a && is_flag k)) copies (take s.landing s.steps)) (left_adds o x) d)

module _ (live : ℕ → Bool) (class : Class) (i : Instr) (of : IsOf class i) (enough : Suffices class live i) (scratch : List ℕ) (first : scratch ≡ take (registers_of class i) (scratch_of live i)) where
  pub as_many : length scratch ≡ registers_of class i
  as_many = let n = ap length first in let m = length-take (registers_of class i) (scratch_of live i) in let some = enough.enough in omega arith

  -- What is built of what is left to the relocation, by these registers, is the point's sequence.
  pub build_left : (o : ObjectParts) (x : Point) (copies : ℕ) → x.instr ≡ i → HasRow (left_instr o x) → 2 ≤ copies → copies ≤ 4 → CanBuild class (left_instr o x) scratch copies
  build_left o x copies same row least most =
      let e : i ≡ x.instr = sym same in record {
        row = row;
        of = left_of o x class (subst (IsOf class) e of);
        enough = as_many ∙ ap (registers_of class) e ∙ left_needs o x class;
        free = left_free o x scratch (subst (λ (j : Instr). AreFree j scratch) e (subst (AreFree i) (sym first) (scratch_is_free live i (registers_of class i))));
        least = least;
        most = most;
      }

  pub sequence_is : (o : ObjectParts) (x : Point) (copies : ℕ) → x.instr ≡ i → body_of x.instr ≡ Some i → (guard : Option Cond) → guard ≡ guard_of x.cond → (never : Bool) → never ≡ never_returns x → (s : Series)
      → s ≡ under guard copies (landed never copies (replaced class copies (left_instr o x) scratch))
      → ((cond : Cond) → guard ≡ guard_of cond → Do (λ y. holds cond y && own_test (left_instr o x) y) (left_instr o x) (loses (left_instr o x) scratch) copies (take s.landing s.steps)) → AreCoded s.steps
      → IsSequenceOf o live copies x scratch s
  sequence_is o x copies same body guard guard_is never never_is s made works coded =
      let e : i ≡ x.instr = sym same in
      let is : IsReplaced o live copies x scratch s = record {
        class = class;
        of = subst (IsOf class) e of;
        enough = subst (λ (j : Instr). registers_of class j ≤ length (scratch_of live j)) e enough.enough;
        flags = enough.flags;
        first = first ∙ ap (λ (j : Instr). take (registers_of class j) (scratch_of live j)) e;
        sequence = made ∙ ap (λ (g : Option Cond). under g copies (landed never copies (replaced class copies (left_instr o x) scratch))) guard_is
            ∙ ap (λ (n : Bool). under (guard_of x.cond) copies (landed n copies (replaced class copies (left_instr o x) scratch))) never_is;
      } in
      of_instr (body ∙ ap (λ (j : Instr). Some j) e) is (works_left o x copies scratch s (works x.cond guard_is)) coded

-- one more unit
pushed : (us : List SeqUnit) (v : SeqUnit) (k : ℕ) (w : SeqUnit) → slice_get (us ++ v ∷ []) k ≡ Some w → (slice_get us k ≡ Some w) ⊎ ((k ≡ length us) × (v ≡ w))
pushed [] v zero w h = inr (refl, same_Some v w h)
pushed [] v (suc k) w h = absurd (none-some w h)
pushed (u ∷ us) v zero w h = inl h
pushed (u ∷ us) v (suc k) w h = elim (pushed us v k w h) [ inl e ↦ inl e | inr e ↦ inr (ap (λ (n : ℕ). suc n) e.0, e.1) ]

pub unit_more : (o : ObjectParts) (f : FlowParts) (b : Boundary) (copies : ℕ) (points : List Point) (i : ℕ) (old new : List SeqUnit) (x : Point) (u : SeqUnit) → slice_get points i ≡ Some x → IsUnitOf o f b copies x u → new ≡ old ++ u ∷ []
    → HaveUnits o f b copies points i old → HaveUnits o f b copies points (i + 1) new
unit_more o f b copies points i old new x u at is e before = record {
  sized = ap length e ∙ length-append old (u ∷ []) ∙ ap (λ (k : ℕ). k + 1) before.sized;
  each = λ k y v there here. go k y v there (ap (λ (l : List SeqUnit). slice_get l k) (sym e) ∙ here);
}
  where
    go : (k : ℕ) (y : Point) (v : SeqUnit) → slice_get points k ≡ Some y → slice_get (old ++ u ∷ []) k ≡ Some v → IsUnitOf o f b copies y v
    go k y v there here =
        elim (pushed old u k v here) [
          | inl h ↦ before.each k y v there h
          | inr h ↦
              let same_index : k ≡ i = h.0 ∙ before.sized in
              let same : x ≡ y = same_Some x y (sym at ∙ sym (ap (λ (z : ℕ). slice_get points z) same_index) ∙ there) in
              subst (λ (w : SeqUnit). IsUnitOf o f b copies y w) h.1 (subst (λ (z : Point). IsUnitOf o f b copies z u) same is)
        ]
