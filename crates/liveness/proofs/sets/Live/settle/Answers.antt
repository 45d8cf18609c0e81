use Rattle.std.proofs.Common.{◌≡◌, ◌<◌, ◌∙◌, ap, sym, subst, refl, inl, inr, ℕ, List, Some, Option, length}
use Rattle.std.specs.Prelude.{slice_get}
use Rattle.std.proofs.Math.ListN.{set}
use Rattle.thumb_instr.specs.declared.register_sets.RegSet.{RegSet}
use Rattle.thumb_instr.specs.Operands.{has}
use Rattle.liveness.specs.Sets.{LiveParts, has_in, holds_at}
use Rattle.index_links.proofs.Places.{set_there, set_other}
use Rattle.liveness.specs.Members.{HoldMembers}
use Rattle.liveness.proofs.PathFacts.{or_cases}
use Rattle.liveness.proofs.PointFacts.{read_there, edge_within, set_gains, set_grew}
use Rattle.liveness.proofs.ReadFacts.{gains_member, set_members}
use Rattle.liveness.proofs.sets.Live.settle.Goals as goal

pub gains-requires : goal.gains-requires
gains-requires c = λ q leads.
    let same : c.self.inside.sets.items ≡ c.args.self.now.sets = ap (λ (l : LiveParts). l.sets) c.self.view_is in
    edge_within c.args.f.now c.points.result.now c.args.self.now.sets c.self.inside.sets.items c.deref.result.now c.args.p q c.index-points-p.result c.requires.flow c.points.ensures c.requires.there c.index-points-p.is
    c.requires.sized same c.deref.ensures.value leads

pub returns-clause-others : goal.returns-clause-others
returns-clause-others c = λ q ne.
    let same : c.self.inside.sets.items ≡ c.args.self.now.sets = ap (λ (l : LiveParts). l.sets) c.self.view_is in
    set_other c.self.inside.sets.items c.args.p q c.with-set.result ne ∙ ap (λ (l : List RegSet). slice_get l q) same

pub returns-clause-set : goal.returns-clause-set
returns-clause-set c = λ y there k.
    let same : c.self.inside.sets.items ≡ c.args.self.now.sets = ap (λ (l : LiveParts). l.sets) c.self.view_is in
    let low : c.args.p < length c.args.self.now.sets = subst (λ (n : ℕ). c.args.p < n) (sym c.requires.sized) c.requires.there in
    let within : c.args.p < length c.self.inside.sets.items = subst (λ (l : List RegSet). c.args.p < length l) (sym same) low in
    let was : slice_get c.args.self.now.sets c.args.p ≡ Some c.index-old.result.now = read_there c.args.self.now.sets c.self.inside.sets.items c.args.p c.index-old.result.now same low c.index-old.ensures in
    let now : slice_get (set c.self.inside.sets.items c.args.p c.with-set.result) c.args.p ≡ Some c.with-set.result = set_there c.self.inside.sets.items c.args.p c.with-set.result within in
    set_gains c.args.f.now c.args.b.now c.args.self.now.sets c.self.inside.sets.items c.deref.result.now c.args.p k c.index-points-p.result y c.index-old.result.now c.with-set.result c.gains.result same c.deref.ensures.value
    (read_there c.args.f.now.points c.points.result.now c.args.p c.index-points-p.result c.points.ensures c.requires.there c.index-points-p.is) there was now c.with-set.ensures c.gains.ensures

pub returns-clause-grew : goal.returns-clause-grew
returns-clause-grew c =
    let same : c.self.inside.sets.items ≡ c.args.self.now.sets = ap (λ (l : LiveParts). l.sets) c.self.view_is in
    let low : c.args.p < length c.args.self.now.sets = subst (λ (n : ℕ). c.args.p < n) (sym c.requires.sized) c.requires.there in
    let within : c.args.p < length c.self.inside.sets.items = subst (λ (l : List RegSet). c.args.p < length l) (sym same) low in
    let was : slice_get c.args.self.now.sets c.args.p ≡ Some c.index-old.result.now = read_there c.args.self.now.sets c.self.inside.sets.items c.args.p c.index-old.result.now same low c.index-old.ensures in
    let now : slice_get (set c.self.inside.sets.items c.args.p c.with-set.result) c.args.p ≡ Some c.with-set.result = set_there c.self.inside.sets.items c.args.p c.with-set.result within in
    set_grew c.differ.result (λ k. holds_at c.args.self.now.sets c.args.p k) (λ k. holds_at (set c.self.inside.sets.items c.args.p c.with-set.result) c.args.p k) (λ k. has c.index-old.result.now.0 k) (λ k. has c.with-set.result.0 k)
    (λ k. ap (λ (o : Option RegSet). has_in o k) was) (λ k. ap (λ (o : Option RegSet). has_in o k) now) c.differ.ensures

pub returns-clause-words : goal.returns-clause-words
returns-clause-words c = λ k high.
    let same : c.self.inside.sets.items ≡ c.args.self.now.sets = ap (λ (l : LiveParts). l.sets) c.self.view_is in
    let low : c.args.p < length c.args.self.now.sets = subst (λ (n : ℕ). c.args.p < n) (sym c.requires.sized) c.requires.there in
    let within : c.args.p < length c.self.inside.sets.items = subst (λ (l : List RegSet). c.args.p < length l) (sym same) low in
    let was : slice_get c.args.self.now.sets c.args.p ≡ Some c.index-old.result.now = read_there c.args.self.now.sets c.self.inside.sets.items c.args.p c.index-old.result.now same low c.index-old.ensures in
    let now : slice_get (set c.self.inside.sets.items c.args.p c.with-set.result) c.args.p ≡ Some c.with-set.result = set_there c.self.inside.sets.items c.args.p c.with-set.result within in
    ap (λ (o : Option RegSet). has_in o k) now ∙ c.is_word.ensures k high

-- what the new set holds was held, or is gained
pub invariant_of-self : goal.invariant_of-self
invariant_of-self c =
    let same : c.self.inside.sets.items ≡ c.args.self.now.sets = ap (λ (l : LiveParts). l.sets) c.self.view_is in
    let low : c.args.p < length c.args.self.now.sets = subst (λ (n : ℕ). c.args.p < n) (sym c.requires.sized) c.requires.there in
    let was : slice_get c.self.inside.sets.items c.args.p ≡ Some c.index-old.result.now = read_there c.self.inside.sets.items c.self.inside.sets.items c.args.p c.index-old.result.now refl (subst (λ (l : List RegSet). c.args.p < length l) (sym same) low) c.index-old.ensures in
    let hold : HoldMembers c.deref.result.now = subst HoldMembers (sym c.deref.ensures.value) c.self.invariant in
    set_members c.self.inside.sets.items c.args.p c.with-set.result c.self.invariant (λ k h. elim (or_cases (has c.index-old.result.now.0 k) (has c.gains.result.0 k) (sym (c.with-set.ensures k) ∙ h)) [
      | inl old ↦ c.self.invariant c.args.p k (ap (λ (o : Option RegSet). has_in o k) was ∙ old)
      | inr new ↦ gains_member c.args.b.now c.deref.result.now c.index-points-p.result hold c.reads_members.ensures k (sym (c.gains.ensures k) ∙ new)
    ])

pub returns-clause-members : goal.returns-clause-members
returns-clause-members c =
    let same : c.self.inside.sets.items ≡ c.args.self.now.sets = ap (λ (l : LiveParts). l.sets) c.self.view_is in
    let low : c.args.p < length c.args.self.now.sets = subst (λ (n : ℕ). c.args.p < n) (sym c.requires.sized) c.requires.there in
    let was : slice_get c.self.inside.sets.items c.args.p ≡ Some c.index-old.result.now = read_there c.self.inside.sets.items c.self.inside.sets.items c.args.p c.index-old.result.now refl (subst (λ (l : List RegSet). c.args.p < length l) (sym same) low) c.index-old.ensures in
    let hold : HoldMembers c.deref.result.now = subst HoldMembers (sym c.deref.ensures.value) c.self.invariant in
    set_members c.self.inside.sets.items c.args.p c.with-set.result c.self.invariant (λ k h. elim (or_cases (has c.index-old.result.now.0 k) (has c.gains.result.0 k) (sym (c.with-set.ensures k) ∙ h)) [
      | inl old ↦ c.self.invariant c.args.p k (ap (λ (o : Option RegSet). has_in o k) was ∙ old)
      | inr new ↦ gains_member c.args.b.now c.deref.result.now c.index-points-p.result hold c.reads_members.ensures k (sym (c.gains.ensures k) ∙ new)
    ])
