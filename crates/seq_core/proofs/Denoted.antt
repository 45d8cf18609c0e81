-- Steps, what they denote, and that they work.
use Rattle.std.proofs.Common.{◌≡◌, ℕ, zero, suc, ◌+◌, Bool, true, List, [], ◌∷◌, refl, ap, ◌∙◌}
use Rattle.thumb_instr.specs.declared.instructions.Instr.{Instr}
use Rattle.thumb_instr.specs.declared.instructions.Instr.TheVariants as instr
use Rattle.thumb_table.specs.Parts.{CodeBytes}
use Rattle.thumb_table.specs.States.{Core, Site, upright}
use Rattle.thumb_table.specs.Effects.{change, plain_write, literal_base}
use Rattle.thumb_table.specs.Values.{moved}
use Rattle.seq_core.specs.declared.steps.Step.{Step}
use Rattle.seq_core.specs.Meanings.{Ends, meant}
use Rattle.seq_core.specs.Sequences.{Copies, Stands}
use Rattle.seq_core.specs.Groups.{done, half_by, names_no_place}
use Rattle.seq_core.specs.Denoted.{Spots, spot_of, denoted, groups_of, StepCopies, StepsStand, StepsDenote, StepsWork, StepsWorkOnce}
use Rattle.seq_core.proofs.Placing.{placed_is_done, literal_placed_is_done}
use Rattle.seq_core.proofs.Halves.{half_placed_is_done}
use Rattle.seq_core.proofs.Law.{sequences_work}
use Rattle.seq_core.proofs.Once.{sequences_work_once}

address_is : (s : Site) (d imm place : ℕ) (x : Core) → moved true (literal_base s) imm ≡ place + 1 → change (instr.Adr (record { d = d; up = true; imm = imm })) s x ≡ upright (plain_write d (place + 1))
unfolding change
address_is s d imm place x e = ap (λ v. upright (plain_write d v)) e

literal_is : (t imm imm' : ℕ) (up up' : Bool) (e : Ends) (x : Core) → meant (instr.Literal (record { t = t; up = up; imm = imm })) e x ≡ meant (instr.Literal (record { t = t; up = up'; imm = imm' })) e x
unfolding meant
literal_is t imm imm' up up' e x = refl

same_instr : (s : Site) (i j : Instr) (x : Core) → names_no_place i ≡ true → j ≡ i → change j s x ≡ done i x
same_instr s i j x n e = ap (λ k. change k s x) e ∙ (placed_is_done s).others i x n

pub steps_denote : StepsDenote
steps_denote s p g (instr.Branch i) j r x = ap (λ k. change k s x) r.1 ∙ (placed_is_done s).branch i.cond r.0 (spot_of p g) x r.2
steps_denote s p g (instr.ZeroBranch i) j r x = ap (λ k. change k s x) r.1 ∙ (placed_is_done s).zero i.nonzero i.n r.0 (spot_of p g) x r.2
steps_denote s p g (instr.Adr i) j r x = ap (λ k. change k s x) r.1 ∙ address_is s i.d r.0 (spot_of p g) x r.2
steps_denote s p g (instr.Half i) j r x = ap (λ k. change k s x) r.0 ∙ half_placed_is_done s i.top i.d i.imm x ∙ ap (λ m. half_by i.top i.d i.imm m x) r.1
steps_denote s p g (instr.Literal i) j r x = ap (λ k. change k s x) r.2 ∙ literal_placed_is_done s i.t r.1 r.0 p.word x r.3.0 r.3.1 ∙ literal_is i.t r.1 i.imm r.0 i.up _ x
steps_denote s p g (instr.Call i) j r x = absurd r
steps_denote s p g (instr.CallReg i) j r x = absurd r
steps_denote s p g (instr.It i) j r x = absurd r
steps_denote s p g (instr.Alu i) j r x = same_instr s (instr.Alu i) j x refl r
steps_denote s p g (instr.Move i) j r x = same_instr s (instr.Move i) j x refl r
steps_denote s p g (instr.Test i) j r x = same_instr s (instr.Test i) j x refl r
steps_denote s p g (instr.ShiftBy i) j r x = same_instr s (instr.ShiftBy i) j x refl r
steps_denote s p g (instr.Wide i) j r x = same_instr s (instr.Wide i) j x refl r
steps_denote s p g (instr.Field i) j r x = same_instr s (instr.Field i) j x refl r
steps_denote s p g (instr.Unary i) j r x = same_instr s (instr.Unary i) j x refl r
steps_denote s p g (instr.Mul i) j r x = same_instr s (instr.Mul i) j x refl r
steps_denote s p g (instr.MulAcc i) j r x = same_instr s (instr.MulAcc i) j x refl r
steps_denote s p g (instr.LongMul i) j r x = same_instr s (instr.LongMul i) j x refl r
steps_denote s p g (instr.Div i) j r x = same_instr s (instr.Div i) j x refl r
steps_denote s p g (instr.Access i) j r x = same_instr s (instr.Access i) j x refl r
steps_denote s p g (instr.Pair i) j r x = same_instr s (instr.Pair i) j x refl r
steps_denote s p g (instr.Multi i) j r x = same_instr s (instr.Multi i) j x refl r
steps_denote s p g (instr.Jump i) j r x = same_instr s (instr.Jump i) j x refl r
steps_denote s p g (instr.Nothing i) j r x = same_instr s (instr.Nothing i) j x refl r
steps_denote s p g (instr.Trap i) j r x = same_instr s (instr.Trap i) j x refl r

copies_of : (code : CodeBytes) (c : ℕ) (p : Spots) (s : Step) (a b : ℕ) → StepCopies code c p s a b → Copies code c (denoted p s.goal s.instr) a b
copies_of code zero p s a b k = k
copies_of code (suc c) p s a b k = (
  k.0,
  record { instr = k.1; there = k.2; means = k.3; effect = steps_denote (record { code = code; address = a; width = k.0.width }) p s.goal s.instr k.1 k.4 },
  copies_of code c p s (a + k.0.width) b k.5,
)

groups_stand : (code : CodeBytes) (c : ℕ) (p : Spots) (ss : List Step) (a b : ℕ) → StepsStand code c p ss a b → Stands code c (groups_of p ss) a b
groups_stand code c p [] a b k = k
groups_stand code c p (s ∷ ss) a b k = (k.1, copies_of code c p s a k.1 k.2, groups_stand code c p ss k.1 b k.3)

pub steps_work : StepsWork
steps_work code c t p ss stand l carries = sequences_work code c t (groups_of p ss) (record { stands = groups_stand code c p ss t.place t.end stand; length = l; carries = carries })

pub steps_work_once : StepsWorkOnce
steps_work_once code may_skip t p ss held stand l carries = sequences_work_once code may_skip t (groups_of p ss) held (record { stands = groups_stand code 1 p ss t.place t.end stand; length = l; carries = carries })
