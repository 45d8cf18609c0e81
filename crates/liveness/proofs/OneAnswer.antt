-- What is live leaves nothing open: a flow has one list of sets, and a recovered one is refused for one reason.
use Rattle.std.proofs.Common.{◌≡◌, ◌<◌, ◌/◌, ◌%◌, ◌^◌, ℕ, Bool, true, false, refl, sym, ap, ◌∙◌, subst, inl, inr, arith, Option, Some}
use Rattle.std.specs.Prelude.{slice_get, ◌==◌}
use Rattle.std.specs.Int.{bit_at}
use Rattle.std.proofs.lemmas.Bool.{cases_order}
use Rattle.std.proofs.lemmas.Bool.Decides.{nat_tests}
use Rattle.std.proofs.lemmas.Nat.Bits.{same_from_bits}
use Rattle.std.proofs.lemmas.Option.{same_Some}
use Rattle.elf_model.specs.declared.refusals.Refusal.{Refusal}
use Rattle.elf_model.specs.declared.refusals.Refusal.TheVariants.{LiveAtEntry, LiveAtReturn}
use Rattle.elf_model.specs.declared.refusals.Spot.{Spot}
use Rattle.elf_model.specs.Objects.{ObjectParts}
use Rattle.elf_model.specs.Refusals.{number_of}
use Rattle.thumb_instr.specs.declared.register_sets.RegSet.{RegSet}
use Rattle.thumb_instr.specs.Operands.{has}
use Rattle.flow_recover.specs.declared.flows.Point.{Point}
use Rattle.flow_recover.specs.Flows.{FlowParts}
use Rattle.flow_recover.specs.WholeFlows.{IsFlow}
use Rattle.code_ranges.proofs.InOrder.{same_at_each}
use Rattle.flow_recover.proofs.OneFlow.{point_once_at}
use Rattle.code_ranges.proofs.OneRanges.{same_fields}
use Rattle.code_ranges.proofs.SpotFacts.{tied_section, tied_offset, tied_number}
use Rattle.liveness.specs.declared.boundary.Boundary.{Boundary}
use Rattle.liveness.specs.Sets.{LiveParts, has_in, holds_at}
use Rattle.liveness.specs.Faults.{is_unset_at_entry, is_lost_in_call, IsLowestLive, LiveFault, IsLiveRefusal, AreLive}
use Rattle.liveness.specs.Faults.LiveFault.{at_entry, at_return}

-- sets with the same members are one
same_bit : (a b k : ℕ) → has a k ≡ has b k → bit_at a k ≡ bit_at b k
unfolding has
same_bit a b k e = tested (a / 2 ^ k % 2) (b / 2 ^ k % 2) (omega arith) (omega arith) e
  where
    tested : (m n : ℕ) → m < 2 → n < 2 → (m == 1) ≡ (n == 1) → m ≡ n
    tested m n l h e = grind (arith, nat_tests)

same_set : (s t : RegSet) → ((k : ℕ) → has s.0 k ≡ has t.0 k) → s ≡ t
same_set s t h = λ i. record { 0 = same_from_bits s.0 t.0 (λ k. same_bit s.0 t.0 k (h k)) i }

same_test : (a b : Bool) → (a ≡ true → b ≡ true) → (b ≡ true → a ≡ true) → a ≡ b
same_test true b f g = sym (f refl)
same_test false true f g = g refl
same_test false false f g = refl

pub sets_once : (f : FlowParts) (b : Boundary) (l m : LiveParts) → AreLive f b l → AreLive f b m → l.sets ≡ m.sets
sets_once f b l m x y = same_at_each l.sets m.sets (x.sized ∙ sym y.sized) each
  where
    each : (p : ℕ) (s t : RegSet) → slice_get l.sets p ≡ Some s → slice_get m.sets p ≡ Some t → s ≡ t
    each p s t at at2 = same_set s t (λ k.
        let here : holds_at l.sets p k ≡ has s.0 k = ap (λ (o : Option RegSet). has_in o k) at in
        let there : holds_at m.sets p k ≡ has t.0 k = ap (λ (o : Option RegSet). has_in o k) at2 in
        same_test (has s.0 k) (has t.0 k) (λ h. sym there ∙ y.whole p k (x.sound p k (here ∙ h))) (λ h. sym here ∙ x.whole p k (y.sound p k (there ∙ h))))

-- of some members one is the lowest
lowest_once : (f : FlowParts) (b : Boundary) (among : ℕ → Bool) (k j p : ℕ) → IsLowestLive f b among k p → IsLowestLive f b among j p → k ≡ j
lowest_once f b among k j p x y =
    elim (cases_order k j) [
      | inl e ↦ e
      | inr w ↦ elim w [
        | inl low ↦ absurd (y.lowest k low x.member x.live)
        | inr low ↦ absurd (x.lowest j low y.member y.live)
      ]
    ]

module _ (o : ObjectParts) (f : FlowParts) (b : Boundary) (flow : IsFlow o f) where
  -- faults at one place with one number are one
  fault_once : (r q : Refusal) (j x k y : ℕ) → LiveFault f b r j x → LiveFault f b q k y → j ≡ k → x ≡ y → number_of r ≡ number_of q → r ≡ q
  fault_once _ _ _ _ _ _ (at_entry p m z entered at low) (at_entry p2 m2 z2 entered2 at2 low2) e g h =
      let same : p2 ≡ p = point_once_at o f flow p2 p z2 z at2 at (sym e) (sym g) in
      ap (λ (k : ℕ). LiveAtEntry k) (lowest_once f b is_unset_at_entry m m2 p low (subst (λ (k : ℕ). IsLowestLive f b is_unset_at_entry m2 k) same low2))
  fault_once _ _ _ _ _ _ (at_entry p m z entered at low) (at_return p2 t2 m2 z2 at2 call2 next2 low2) e g h = absurd (omega arith)
  fault_once _ _ _ _ _ _ (at_return p t m z at call next low) (at_entry p2 m2 z2 entered2 at2 low2) e g h = absurd (omega arith)
  fault_once _ _ _ _ _ _ (at_return p t m z at call next low) (at_return p2 t2 m2 z2 at2 call2 next2 low2) e g h =
      let same : p2 ≡ p = point_once_at o f flow p2 p z2 z at2 at (sym e) (sym g) in
      let point : z2 ≡ z = same_Some z2 z (sym at2 ∙ ap (λ (k : ℕ). slice_get f.points k) same ∙ at) in
      let behind : t2 ≡ t = same_Some t2 t (sym next2 ∙ ap (λ (w : Point). w.next) point ∙ next) in
      ap (λ (k : ℕ). LiveAtReturn k) (lowest_once f b is_lost_in_call m m2 t low (subst (λ (k : ℕ). IsLowestLive f b is_lost_in_call m2 k) behind low2))

  pub live_refusal_once : (s t : Spot) → IsLiveRefusal f b s → IsLiveRefusal f b t → s ≡ t
  live_refusal_once s t x y =
      let p = y.first s.refusal s.section s.offset x.fault in
      let q = x.first t.refusal t.section t.offset y.fault in
      let section = tied_section s.section s.offset (number_of s.refusal) t.section t.offset (number_of t.refusal) p q in
      let offset = tied_offset s.section s.offset (number_of s.refusal) t.section t.offset (number_of t.refusal) p q in
      let number = tied_number s.section s.offset (number_of s.refusal) t.section t.offset (number_of t.refusal) p q in
      same_fields s t (fault_once s.refusal t.refusal s.section s.offset t.section t.offset x.fault y.fault section offset number) (x.file ∙ sym y.file) section offset
