-- The spots of a flow are the places of its faults.
use Rattle.std.proofs.Common.{◌≡◌, ◌⊎◌, ℕ, true, false, List, [], refl, sym, ap, ◌∙◌, subst, inl, inr, Ok}
use Rattle.std.specs.Prelude.{Contains}
use Rattle.std.specs.List.{list_all}
use Rattle.std.proofs.lemmas.Bool.{true≢false}
use Rattle.elf_model.specs.Ranges.{is_whole}
use Rattle.elf_model.specs.declared.refusals.Refusal.{Refusal}
use Rattle.elf_model.specs.declared.refusals.Refusal.TheVariants as refusal
use Rattle.elf_model.specs.declared.refusals.Spot.{Spot}
use Rattle.elf_model.specs.Objects.{ObjectParts}
use Rattle.thumb_instr.specs.declared.instructions.Instr.{Instr}
use Rattle.thumb_instr.specs.declared.instructions.Instr.TheVariants as instr
use Rattle.thumb_instr.specs.Fields.{AdrFields}
use Rattle.flow_recover.specs.declared.blocks.Block.{Block}
use Rattle.flow_recover.specs.declared.named.Claim.{Claim}
use Rattle.flow_recover.specs.declared.nodes.Node.{Node}
use Rattle.flow_recover.specs.declared.visits.Visit.{Visit}
use Rattle.code_ranges.specs.Spots.{spot_of}
use Rattle.reloc_places.specs.Starts.{bytes_of, HasStart, behind, following}
use Rattle.flow_recover.specs.Reach.{IsFound, IsReached}
use Rattle.flow_recover.specs.FlowFaults.{IsReachedInstr, IsClaim, block_length, refusal_of, IsInBlock, FlowFault}
use Rattle.flow_recover.specs.FlowFaults.FlowFault.{no_instr, adr, relocation, no_start, in_block, absolute, arm_address, no_word, no_code, cut_block}
use Rattle.flow_recover.specs.Gains.{Gains, IsFrom}
use Rattle.flow_recover.specs.Charts.{AreFaults}
use Rattle.flow_recover.specs.NodeFaults.{IsBlock, is_adr, IsInstrSpot, IsReachedBad, IsVisitSpot, IsClaimSpot}
use Rattle.flow_recover.specs.NodeFaults.IsInstrSpot.{adr as of_adr, absolute as of_absolute, no_word as of_word, no_code as of_code, cut_block as of_block}
use Rattle.flow_recover.specs.Visits.{AreVisits}
use Rattle.flow_recover.specs.Claims.{claim_of, AreClaims}
use Rattle.flow_recover.specs.RelocFaults.{IsWrongReloc, IsArmAddress, IsRelocFault}
use Rattle.elf_model.proofs.Elements.{contains_none}
use Rattle.flow_recover.proofs.GainFacts.{Gain, gain_both}
use Rattle.flow_recover.proofs.VisitFacts.{visited}

-- a spot is where a fault is
abbrev pub IsSound : ObjectParts → Spot → Type 0
IsSound o s = FlowFault o s.refusal s.section s.offset × (s.file ≡ 0)

sound_at : (o : ObjectParts) (why : Refusal) (j x : ℕ) (s : Spot) → FlowFault o why j x → s ≡ spot_of why j x → IsSound o s
sound_at o why j x s f e = subst (IsSound o) (sym e) (f, refl)

same_spot : (r q : Refusal) (j k x y : ℕ) → r ≡ q → j ≡ k → x ≡ y → spot_of r j x ≡ spot_of q k y
same_spot r q j k x y a b c = ap (λ (n : Refusal). spot_of n j x) a ∙ ap (λ (n : ℕ). spot_of q n x) b ∙ ap (λ (n : ℕ). spot_of q k n) c

adr_is : (i : Instr) → is_adr i ≡ true → (a : AdrFields) × (i ≡ instr.Adr a)
adr_is (instr.Adr a) e = (a, refl)
adr_is _ e = absurd (true≢false (sym e))

module _ (o : ObjectParts) (visits : List Visit) (claims : List Claim) (seen : AreVisits o visits) (claimed : AreClaims o claims) where
  instr_sound : (n : Node) (i : Instr) (s : Spot) → IsReached o n → IsFound o n (Ok i) → IsInstrSpot o n i s → IsSound o s
  instr_sound n i s r f (of_adr h e) =
      let a = adr_is i h in
      sound_at o refusal.PcOperand n.section n.offset s (adr n a.0 (record { reached = r; found = subst (λ (k : Instr). IsFound o n (Ok k)) a.1 f }) refl refl refl) e
  instr_sound n i s r f (of_absolute h e) = sound_at o refusal.IntoMiddle n.section n.offset s (absolute n i (record { reached = r; found = f }) h.has h.aim refl refl refl) e
  instr_sound n i s r f (of_word h e) =
      sound_at o refusal.IntoMiddle n.section n.offset s (no_word n h.literal (record { reached = r; found = subst (λ (k : Instr). IsFound o n (Ok k)) h.is f }) h.lacks refl refl refl) e
  instr_sound n i s r f (of_code h e) = sound_at o refusal.FallsOff n.section n.offset s (no_code n i (record { reached = r; found = f }) h.falls h.no_code refl refl refl) e
  instr_sound n i s r f (of_block h e) =
      let b = h.is_block in
      let at_block : ℕ → ℕ → ℕ → Type 0 = λ start end count. list_all (is_whole (bytes_of o n.section) end) (following (bytes_of o n.section) count start) ≡ false in
      let cut : at_block (behind o n.section n.offset) b.found.end (block_length b.it.mask) =
      subst (λ (a : ℕ). at_block a b.found.end (block_length b.it.mask)) b.start (subst (λ (z : ℕ). at_block h.block.start z (block_length b.it.mask)) b.end (subst (λ (c : ℕ). at_block h.block.start h.block.end c) b.count h.cut)) in
      sound_at o refusal.FallsOff n.section n.offset s (cut_block n b.it r b.found cut refl refl refl) e

  bad_sound : (s : Spot) → IsReachedBad o s → IsSound o s
  bad_sound s p = let b = p.bad in sound_at o (refusal_of b.bad) p.node.section p.node.offset s (no_instr p.node b.bad p.reached b.found refl refl refl) b.at

  visit_sound : (s : Spot) → IsFrom (IsVisitSpot o) visits s → IsSound o s
  visit_sound s e = let v : Visit = e.source in instr_sound v.node v.instr s (seen.reached v e.there) (seen.sound v e.there).found e.gives

  claim_sound : (s : Spot) → IsFrom (IsClaimSpot o) claims s → IsSound o s
  claim_sound s e =
      let c : Claim = e.source in
      let is : IsClaim o c.section c.offset c.from_section c.from_offset = claimed.sound c e.there in
      let p : IsClaimSpot o c s = e.gives in
      elim p.wrong [
        | inl never ↦ sound_at o refusal.IntoMiddle c.from_section c.from_offset s (no_start c.section c.offset is never refl) p.at
        | inr b ↦ sound_at o refusal.IntoMiddle c.from_section c.from_offset s (in_block c.section c.offset is b refl) p.at
      ]

  wrong_sound : (s : Spot) → IsWrongReloc o s → IsSound o s
  wrong_sound s p = sound_at o refusal.RelocKind p.reloc.section p.reloc.offset s (relocation p.index p.reloc p.there p.wrong refl refl refl) p.same

  arm_sound : (s : Spot) → IsArmAddress o s → IsSound o s
  arm_sound s p = sound_at o refusal.IntoMiddle p.reloc.section p.reloc.offset s (arm_address p.reloc p.makes.symbol p.makes.section p.makes.reference p.makes.arm refl refl refl) p.same

  abbrev pub AnySpot : Spot → Type 0
  AnySpot s = ((IsReachedBad o s ⊎ IsFrom (IsVisitSpot o) visits s) ⊎ IsFrom (IsClaimSpot o) claims s) ⊎ IsRelocFault o s

  any_sound : (s : Spot) → AnySpot s → IsSound o s
  any_sound s p = elim p [
    | inl p ↦ elim p [
      | inl p ↦ elim p [ inl p ↦ bad_sound s p | inr p ↦ visit_sound s p ]
      | inr p ↦ claim_sound s p
    ]
    | inr p ↦ elim p [ inl p ↦ wrong_sound s p | inr p ↦ arm_sound s p ]
  ]

  good_whole : (n : Node) (i : Instr) (s : Spot) → IsReachedInstr o n i → IsInstrSpot o n i s → AnySpot s
  good_whole n i s r p = let w = visited o visits (λ m k. IsInstrSpot o m k s) n i seen r p in inl (inl (inr (record { source = w.0; there = w.1; gives = w.3 })))

  claim_whole : (j x section offset : ℕ) (s : Spot) → IsClaim o j x section offset → (¬ HasStart o j x) ⊎ IsInBlock o j x → s ≡ spot_of refusal.IntoMiddle section offset → AnySpot s
  claim_whole j x section offset s c w e =
      let k = claimed.whole j x section offset c in
      inl (inr (record { source = claim_of j x section offset k.0; there = k.1; gives = record { wrong = w; at = e } }))

  any_whole : (r : Refusal) (j x : ℕ) → FlowFault o r j x → AnySpot (spot_of r j x)
  any_whole r j x (no_instr n b reach found why a c) =
      inl (inl (inl (record { node = n; reached = reach; bad = record { bad = b; found = found; at = same_spot r (refusal_of b) j n.section x n.offset why a c } })))
  any_whole r j x (adr n i reach why a c) = good_whole n (instr.Adr i) (spot_of r j x) reach (of_adr refl (same_spot r refusal.PcOperand j n.section x n.offset why a c))
  any_whole r j x (relocation k q there wrong why a c) = inr (inl (record { index = k; reloc = q; there = there; wrong = wrong; same = same_spot r refusal.RelocKind j q.section x q.offset why a c }))
  any_whole r j x (no_start h y claim never why) = claim_whole h y j x (spot_of r j x) claim (inl never) (same_spot r refusal.IntoMiddle j j x x why refl refl)
  any_whole r j x (in_block h y claim b why) = claim_whole h y j x (spot_of r j x) claim (inr b) (same_spot r refusal.IntoMiddle j j x x why refl refl)
  any_whole r j x (absolute n i reach has aim why a c) = good_whole n i (spot_of r j x) reach (of_absolute (record { has = has; aim = aim }) (same_spot r refusal.IntoMiddle j n.section x n.offset why a c))
  any_whole r j x (arm_address q s h reference clear why a c) = inr (inr (record { reloc = q; makes = record { symbol = s; section = h; reference = reference; arm = clear }; same = same_spot r refusal.IntoMiddle j q.section x q.offset why a c }))
  any_whole r j x (no_word n i reach lacks why a c) =
      good_whole n (instr.Literal i) (spot_of r j x) reach (of_word (record { literal = i; is = refl; lacks = lacks }) (same_spot r refusal.IntoMiddle j n.section x n.offset why a c))
  any_whole r j x (no_code n i reach falls never why a c) = good_whole n i (spot_of r j x) reach (of_code (record { falls = falls; no_code = never }) (same_spot r refusal.FallsOff j n.section x n.offset why a c))
  any_whole r j x (cut_block n i reach found cut why a c) =
      let block : Block = record { start = behind o n.section n.offset; end = found.end; count = block_length i.mask } in
      let is_block : IsBlock o n block = record { it = i; found = found; start = refl; end = refl; count = refl } in
      good_whole n (instr.It i) (spot_of r j x) (record { reached = reach; found = found })
      (of_block (record { block = block; is_block = is_block; cut = cut }) (same_spot r refusal.FallsOff j n.section x n.offset why a c))

  pub all_faults : (s1 s2 s3 s4 : List Spot) → Gains (IsReachedBad o) [] s1 → Gains (IsFrom (IsVisitSpot o) visits) s1 s2 → Gains (IsFrom (IsClaimSpot o) claims) s2 s3 → Gains (IsRelocFault o) s3 s4 → AreFaults o s4
  all_faults s1 s2 s3 s4 g1 g2 g3 g4 = record {
    sound = λ s h. elim ((grown s).0 h) [
      | inl old ↦ absurd (contains_none s old)
      | inr p ↦ any_sound s p
    ];
    whole = λ r j x f. (grown (spot_of r j x)).1 (inr (any_whole r j x f));
  }
    where
      grown : (s : Spot) → Gain (Contains s4 s) (Contains [] s) (AnySpot s)
      grown s = gain_both _ _ _ _ _ (gain_both _ _ _ _ _ (gain_both _ _ _ _ _ (g1 s) (g2 s)) (g3 s)) (g4 s)
