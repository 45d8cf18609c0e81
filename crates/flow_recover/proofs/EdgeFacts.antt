-- Where control goes on from a node, by the table of starts.
use Rattle.std.proofs.Common.{◌≡◌, ◌↔◌, ℕ, true, false, cond, sym, ap, ◌∙◌, subst, inl, inr, ◌⊎◌, Option, Some, None, Ok, Err}
use Rattle.std.specs.Prelude.{is_some}
use Rattle.std.proofs.lemmas.Bool.{true≢false, cases_Bool, cond-true, cond-false}
use Rattle.std.proofs.lemmas.Option.{none-some, same_Some}
use Rattle.elf_model.specs.Objects.{ObjectParts}
use Rattle.thumb_instr.specs.declared.instructions.Instr.{Instr}
use Rattle.thumb_instr.specs.declared.refusals.BadInstr.{BadInstr}
use Rattle.flow_recover.specs.declared.nodes.Node.{Node}
use Rattle.flow_recover.specs.declared.aims.Aim.{Aim}
use Rattle.flow_recover.specs.declared.aims.Aim.TheVariants.{Near, Shared}
use Rattle.reloc_places.specs.Starts.{HasStart}
use Rattle.flow_recover.specs.Aims.{has_offset, IsAim}
use Rattle.flow_recover.specs.Reach.{IsFound, GoesOn, EndsAt, node_behind, node_at, LeadsOn, LeadsAway}
use Rattle.flow_recover.specs.Reach.GoesOn.{by_falling, by_return}
use Rattle.flow_recover.specs.Reach.LeadsOn.{on}
use Rattle.flow_recover.specs.Reach.LeadsAway.{away}
use Rattle.reloc_places.specs.Tables.{AreStarts}
use Rattle.flow_recover.specs.Walks.{offset_in, IsStartAimed, Leads}
use Rattle.reloc_places.proofs.StartFacts.{start_found}
use Rattle.flow_recover.proofs.VisitFacts.{same_instr, not_both}
use Rattle.flow_recover.proofs.AimFacts.{leads_to, led_to}

module _ (o : ObjectParts) (end_at : ℕ → ℕ → Option ℕ) (starts : AreStarts o end_at) where
  -- a node, if an instruction starts there
  pub started_is : (n : Node) (r : Option Node) → r ≡ cond (is_some (end_at n.section n.offset)) (Some n) None → (m : Node) → (r ≡ Some m) ↔ ((m ≡ n) × HasStart o n.section n.offset)
  started_is n r e m =
      let found = start_found o end_at starts n.section n.offset in
      elim (cases_Bool (is_some (end_at n.section n.offset))) [
        | inl t ↦
            let some : r ≡ Some n = e ∙ cond-true (is_some (end_at n.section n.offset)) (Some n) None t in
            (λ h. (sym (same_Some n m (sym some ∙ h)), found.0 t), λ p. some ∙ ap (λ (z : Node). Some z) (sym p.0))
        | inr f ↦
            let none : r ≡ None = e ∙ cond-false (is_some (end_at n.section n.offset)) (Some n) None f in
            (λ h. absurd (none-some m (sym none ∙ h)), λ p. absurd (true≢false (sym (found.1 p.1) ∙ f)))
      ]

  module _ (n : Node) (i : Instr) (a : Aim) (here : IsAim o n.section n.offset i a) where
    pub aimed_some : (x : ℕ) (r : Option Node) → Some x ≡ offset_in a → r ≡ cond (is_some (end_at n.section x)) (Some (node_at n.section x)) None → (m : Node) → (r ≡ Some m) ↔ IsStartAimed o n i m
    aimed_some x r e g m =
        let is = started_is (node_at n.section x) r g m in (
          λ h. let p = is.0 h in record { offset = x; aim = leads_to o n.section n.offset x i a here (sym e); is = p.0; start = p.1 },
          λ s.
              let same : s.offset ≡ x = same_Some s.offset x (sym (led_to o n.section n.offset s.offset i a here s.aim) ∙ sym e) in
              is.1 (s.is ∙ ap (node_at n.section) same, subst (λ (k : ℕ). HasStart o n.section k) same s.start),
        )

    pub aimed_none : (r : Option Node) → None ≡ offset_in a → r ≡ None → (m : Node) → (r ≡ Some m) ↔ IsStartAimed o n i m
    aimed_none r e f m = (λ h. absurd (none-some m (sym f ∙ h)), λ s. absurd (none-some s.offset (e ∙ led_to o n.section n.offset s.offset i a here s.aim)))

-- control goes on, or ends, and not both
pub ends_never : (o : ObjectParts) (n : Node) (i : Instr) → EndsAt o n i → GoesOn o n i → ⊥
ends_never o n i e (by_falling h) = true≢false (sym h ∙ e.leaves)
ends_never o n i e (by_return call alive) = alive (e.dead call)

-- a node that has an instruction
module _ (o : ObjectParts) (n : Node) (i : Instr) (here : IsFound o n (Ok i)) where
  only : (k : Instr) → IsFound o n (Ok k) → i ≡ k
  only k h = same_instr o n i k here h

  pub next_there : (b : Node) (r : Option Node) → GoesOn o n i → b ≡ node_behind o n i → ((m : Node) → (r ≡ Some m) ↔ ((m ≡ b) × HasStart o b.section b.offset)) → (m : Node) → (r ≡ Some m) ↔ LeadsOn o n m
  next_there b r goes same is m = (
    λ h. let s = (is m).0 h in on i here goes (s.0 ∙ same) (subst (λ (z : Node). HasStart o z.section z.offset) (sym s.0) s.1),
    back,
  )
    where
      back : LeadsOn o n m → r ≡ Some m
      back (on k found g e start) =
          let at : m ≡ b = e ∙ ap (node_behind o n) (sym (only k found)) ∙ sym same in
          (is m).1 (at, subst (λ (z : Node). HasStart o z.section z.offset) at start)

  pub next_stops : EndsAt o n i → (m : Node) → (None ≡ Some m) ↔ LeadsOn o n m
  next_stops stops m = (λ h. absurd (none-some m h), back)
    where
      back : LeadsOn o n m → None ≡ Some m
      back (on k found g e start) = absurd (ends_never o n i stops (subst (λ (z : Instr). GoesOn o n z) (sym (only k found)) g))

  pub aimed_there : (r : Option Node) → has_offset i ≡ true → ((m : Node) → (r ≡ Some m) ↔ IsStartAimed o n i m) → (m : Node) → (r ≡ Some m) ↔ LeadsAway o n m
  aimed_there r has is m = (λ h. let s = (is m).0 h in away i s.offset here (record { has = has; aim = s.aim }) s.is s.start, back)
    where
      back : LeadsAway o n m → r ≡ Some m
      back (away k x found aims e start) =
          let same = sym (only k found) in
          (is m).1 (record {
            offset = x;
            aim = subst (λ (z : Instr). IsAim o n.section n.offset z (Near x) ⊎ IsAim o n.section n.offset z (Shared x)) same aims.aim;
            is = e;
            start = start;
          })

  pub aimed_nowhere : has_offset i ≡ false → (m : Node) → (None ≡ Some m) ↔ LeadsAway o n m
  aimed_nowhere has m = (λ h. absurd (none-some m h), back)
    where
      back : LeadsAway o n m → None ≡ Some m
      back (away k x found aims e start) = absurd (true≢false (sym aims.has ∙ ap has_offset (sym (only k found)) ∙ has))

-- halfwords that are no instruction lead nowhere
pub bad_leads : (o : ObjectParts) (n m : Node) (b : BadInstr) → IsFound o n (Err b) → Leads o n m → ⊥
bad_leads o n m b bad (inl (on i found g e s)) = not_both o n i b found bad
bad_leads o n m b bad (inr (away i x found a e s)) = not_both o n i b found bad
