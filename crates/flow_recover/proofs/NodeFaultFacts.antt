-- What stands in the way of a flow at a node, and at a claim.
use Rattle.std.proofs.Common.{◌≡◌, ◌↔◌, ◌⊎◌, ℕ, Bool, true, not, List, refl, sym, ap, ◌∙◌, subst, inl, inr, Some}
use Rattle.std.specs.Prelude.{Contains}
use Rattle.std.proofs.lemmas.Bool.{true≢false}
use Rattle.std.proofs.lemmas.Option.{none-some, same_Some}
use Rattle.elf_model.specs.declared.refusals.Refusal.{Refusal}
use Rattle.elf_model.specs.declared.refusals.Refusal.TheVariants as refusal
use Rattle.elf_model.specs.declared.refusals.Spot.{Spot}
use Rattle.elf_model.specs.Objects.{ObjectParts}
use Rattle.thumb_instr.specs.declared.instructions.Instr.{Instr}
use Rattle.thumb_instr.specs.declared.instructions.Instr.TheVariants as instr
use Rattle.thumb_instr.specs.Fields.{LiteralFields}
use Rattle.flow_recover.specs.declared.aims.Aim.{Aim}
use Rattle.flow_recover.specs.declared.aims.Aim.TheVariants.{Near, Shared, Fixed, Far}
use Rattle.flow_recover.specs.declared.named.Claim.{Claim}
use Rattle.flow_recover.specs.declared.nodes.Node.{Node}
use Rattle.code_ranges.specs.Spots.{spot_of}
use Rattle.reloc_places.specs.Starts.{HasStart, IsDataWord, behind}
use Rattle.flow_recover.specs.Reach.{may_fall}
use Rattle.flow_recover.specs.Aims.{has_offset, IsAim}
use Rattle.flow_recover.specs.FlowFaults.{literal_place, IsInBlock}
use Rattle.flow_recover.specs.Gains.{Gains}
use Rattle.flow_recover.specs.NodeFaults.{IsCut, is_adr, is_fixed, literal_of, IsAbsolute, LacksWord, RunsOut, IsInstrSpot, IsWrongClaim, IsClaimSpot}
use Rattle.flow_recover.specs.NodeFaults.IsInstrSpot.{adr as of_adr, absolute as of_absolute, no_word as of_word, no_code as of_code, cut_block as of_block}
use Rattle.flow_recover.proofs.AnswerFacts.{not_true, never_true}
use Rattle.flow_recover.proofs.GainFacts.{gain_same, gain_both}

module _ (o : ObjectParts) (n : Node) (i : Instr) where
  pub absolute_is : (a : Aim) (r : Bool) → has_offset i ≡ true → ((b : Aim) → (a ≡ b) ↔ IsAim o n.section n.offset i b) → r ≡ is_fixed a → (r ≡ true) ↔ IsAbsolute o n i
  absolute_is a r has exact e = (
    λ t. record { has = has; aim = (exact Fixed).0 (fixed a (sym e ∙ t)) },
    λ p. e ∙ ap is_fixed ((exact Fixed).1 p.aim),
  )
    where
      fixed : (a : Aim) → is_fixed a ≡ true → a ≡ Fixed
      fixed (Near x) t = absurd (true≢false (sym t))
      fixed (Shared x) t = absurd (true≢false (sym t))
      fixed Fixed t = refl
      fixed Far t = absurd (true≢false (sym t))

  pub lacks_is : (l : LiteralFields) (w : ℕ) (r : Bool) → literal_of i ≡ Some l → literal_place n.offset l ≡ Some w → (r ≡ true) ↔ IsDataWord o n.section w → (not r ≡ true) ↔ LacksWord o n i
  lacks_is l w r is place word = (
    λ t. record {
      literal = l;
      is = literal i is;
      lacks = λ v e d. true≢false (sym (word.1 (subst (λ (z : ℕ). IsDataWord o n.section z) (same_Some v w (sym e ∙ place)) d)) ∙ not_true r t);
    },
    λ p.
        let same : p.literal ≡ l = same_Some p.literal l (sym (ap literal_of p.is) ∙ is) in
        never_true r (λ t. p.lacks w (ap (literal_place n.offset) same ∙ place) (word.0 t)),
  )
    where
      literal : (i : Instr) → literal_of i ≡ Some l → i ≡ instr.Literal l
      literal (instr.Literal m) e = ap (λ (k : LiteralFields). instr.Literal k) (same_Some m l e)
      literal _ e = absurd (none-some l e)

pub runs_is : (o : ObjectParts) (n : Node) (i : Instr) (x : ℕ) (r : Bool) → may_fall n i ≡ true → x ≡ behind o n.section n.offset → (r ≡ true) ↔ HasStart o n.section x → (not r ≡ true) ↔ RunsOut o n i
runs_is o n i x r falls at start = (
  λ t. record { falls = falls; no_code = λ h. true≢false (sym (start.1 (subst (λ (y : ℕ). HasStart o n.section y) (sym at) h)) ∙ not_true r t) },
  λ p. never_true r (λ t. p.no_code (subst (λ (y : ℕ). HasStart o n.section y) at (start.0 t))),
)

pub wrong_is : (o : ObjectParts) (c : Claim) (start r : Bool) → (start ≡ true) ↔ HasStart o c.section c.offset → start ≡ true → (r ≡ true) ↔ IsInBlock o c.section c.offset → (r ≡ true) ↔ IsWrongClaim o c
wrong_is o c start r has t block = (
  λ e. inr (block.0 e),
  λ p. elim p [ inl never ↦ absurd (never (has.0 t)) | inr b ↦ block.1 b ],
)

-- one spot, if a test holds
abbrev pub Pushed : Bool → Refusal → ℕ → ℕ → Spot → Type 0
Pushed t why j x s = (t ≡ true) × (s ≡ spot_of why j x)

-- the five tests of an instruction
module _ (o : ObjectParts) (n : Node) (i : Instr) (adr absolute word code cut : Bool)
    (is_adr_of : adr ≡ is_adr i) (absolute_of : (absolute ≡ true) ↔ IsAbsolute o n i) (word_of : (word ≡ true) ↔ LacksWord o n i) (code_of : (code ≡ true) ↔ RunsOut o n i) (cut_of : (cut ≡ true) ↔ IsCut o n) where
  abbrev pub AnyPushed : Spot → Type 0
  AnyPushed s = (((Pushed adr refusal.PcOperand n.section n.offset s ⊎ Pushed absolute refusal.IntoMiddle n.section n.offset s) ⊎ Pushed word refusal.IntoMiddle n.section n.offset s)
      ⊎ Pushed code refusal.FallsOff n.section n.offset s) ⊎ Pushed cut refusal.FallsOff n.section n.offset s

  pushed_spot : (s : Spot) → AnyPushed s → IsInstrSpot o n i s
  pushed_spot s p = elim p [
    | inl p ↦ elim p [
      | inl p ↦ elim p [
        | inl p ↦ elim p [
          | inl p ↦ of_adr (sym is_adr_of ∙ p.0) p.1
          | inr p ↦ of_absolute (absolute_of.0 p.0) p.1
        ]
        | inr p ↦ of_word (word_of.0 p.0) p.1
      ]
      | inr p ↦ of_code (code_of.0 p.0) p.1
    ]
    | inr p ↦ of_block (cut_of.0 p.0) p.1
  ]

  spot_pushed : (s : Spot) → IsInstrSpot o n i s → AnyPushed s
  spot_pushed s (of_adr h e) = inl (inl (inl (inl (is_adr_of ∙ h, e))))
  spot_pushed s (of_absolute h e) = inl (inl (inl (inr (absolute_of.1 h, e))))
  spot_pushed s (of_word h e) = inl (inl (inr (word_of.1 h, e)))
  spot_pushed s (of_code h e) = inl (inr (code_of.1 h, e))
  spot_pushed s (of_block h e) = inr (cut_of.1 h, e)

  pub instr_spots : (s0 s1 s2 s3 s4 s5 : List Spot) → Gains (Pushed adr refusal.PcOperand n.section n.offset) s0 s1 → Gains (Pushed absolute refusal.IntoMiddle n.section n.offset) s1 s2
      → Gains (Pushed word refusal.IntoMiddle n.section n.offset) s2 s3 → Gains (Pushed code refusal.FallsOff n.section n.offset) s3 s4 → Gains (Pushed cut refusal.FallsOff n.section n.offset) s4 s5
      → Gains (IsInstrSpot o n i) s0 s5
  instr_spots s0 s1 s2 s3 s4 s5 g1 g2 g3 g4 g5 s =
      gain_same (Contains s5 s) (Contains s0 s) (AnyPushed s) (IsInstrSpot o n i s) (pushed_spot s) (spot_pushed s)
      (gain_both _ _ _ _ _ (gain_both _ _ _ _ _ (gain_both _ _ _ _ _ (gain_both _ _ _ _ _ (g1 s) (g2 s)) (g3 s)) (g4 s)) (g5 s))

-- a claim's spot
pub claim_spot : (o : ObjectParts) (c : Claim) (wrong : Bool) (old new : List Spot) → (wrong ≡ true) ↔ IsWrongClaim o c → Gains (Pushed wrong refusal.IntoMiddle c.from_section c.from_offset) old new → Gains (IsClaimSpot o c) old new
claim_spot o c wrong old new is g s = gain_same (Contains new s) (Contains old s) (Pushed wrong refusal.IntoMiddle c.from_section c.from_offset s) (IsClaimSpot o c s)
    (λ p. record { wrong = is.0 p.0; at = p.1 })
    (λ p. (is.1 p.wrong, p.at))
    (g s)
