-- What a unit may spoil is dead behind its point.
use Rattle.std.proofs.Common.{◌≡◌, ◌<◌, ℕ, Bool, true, false, List, take, refl, sym, ap, ◌∙◌, subst, Some, None}
use Rattle.std.specs.Prelude.{Contains, slice_get, ◌&&◌, ◌||◌, ◌==◌, nat_lt, not}
use Rattle.std.proofs.lemmas.Bool.{both_ways, ltb-true, eqb-true}
use Rattle.std.proofs.lemmas.Option.{none-some}
use Rattle.elf_model.specs.Objects.{ObjectParts}
use Rattle.elf_model.proofs.Elements.{contains_none, contains_at, contains_filter, place_of, all_at}
use Rattle.reloc_places.proofs.RelocOrder.{take_at}
use Rattle.thumb_instr.specs.declared.instructions.Instr.{Instr}
use Rattle.thumb_instr.specs.declared.instructions.Instr.TheVariants as instr
use Rattle.thumb_instr.specs.Sets.{reads_of, writes_of, is_flag}
use Rattle.flow_recover.specs.declared.flows.Point.{Point}
use Rattle.flow_recover.specs.Flows.{FlowParts}
use Rattle.liveness.specs.declared.boundary.Boundary.{Boundary}
use Rattle.liveness.specs.Paths.{IsLiveAfter}
use Rattle.seq_core.specs.declared.classes.Class.{Class}
use Rattle.seq_core.specs.declared.classes.Class.TheVariants as class
use Rattle.seq_core.specs.declared.units.Unit.{Unit as SeqUnit}
use Rattle.seq_core.specs.Classes.{IsOf, adds_long_product}
use Rattle.seq_core.specs.Needs.{registers_of, changes_flags}
use Rattle.seq_core.proofs.ClassesTell.{classes_tell}
use Rattle.it_expand.specs.Expanded.{body_of}
use Rattle.point_units.specs.Scratch.{order, is_scratch, scratch_of, has_live_flag}
use Rattle.point_units.specs.Units.{IsSequenceOf, of_it, of_instr, IsUnitOf}
use Rattle.sim_relation.specs.Doing.{IsSpare}

low_order : (k : ℕ) → Contains order k → k < 13
low_order k h = let at = place_of order k h in ltb-true k 13 (all_at (λ q. nat_lt q 13) order at.0 k refl at.1)

not_first : (a b : Bool) → not (a || b) ≡ true → a ≡ false
not_first true b e = absurd (both_ways false refl e)
not_first false b e = refl

it_adds_nothing : (i : Instr) → body_of i ≡ None → adds_long_product i ≡ true → ⊥
it_adds_nothing (instr.It i) e a = both_ways false refl a
it_adds_nothing i e a = none-some i (sym e)

-- only a long sum adds a long product
changes : (c : Class) (i : Instr) → IsOf c i → adds_long_product i ≡ true → changes_flags c ≡ true
changes class.LongSum i of adds = refl
changes c i of adds = absurd (both_ways (adds_long_product i) ((classes_tell c i of).1 (λ e. absurd (cc))) adds)

-- the four flags
flag_among : (live : ℕ → Bool) (k : ℕ) → is_flag k ≡ true → has_live_flag live ≡ false → live k ≡ false
flag_among live k flag none = go (k == 16) refl (k == 17) refl (k == 18) refl (k == 19) refl flag (live 16) refl (live 17) refl (live 18) refl (live 19) refl none
  where
    at : (n : ℕ) → (k == n) ≡ true → live n ≡ false → live k ≡ false
    at n e l = ap live (eqb-true k n e) ∙ l

    dead : (a b c d : Bool) → (a || (b || (c || d))) ≡ false → (a ≡ false) × (b ≡ false) × (c ≡ false) × (d ≡ false)
    dead true b c d e = absurd (both_ways true e refl)
    dead false true c d e = absurd (both_ways true e refl)
    dead false false true d e = absurd (both_ways true e refl)
    dead false false false true e = absurd (both_ways true e refl)
    dead false false false false e = (refl, refl, refl, refl)

    go : (p : Bool) → (k == 16) ≡ p → (q : Bool) → (k == 17) ≡ q → (r : Bool) → (k == 18) ≡ r → (s : Bool) → (k == 19) ≡ s → (p || (q || (r || s))) ≡ true
        → (a : Bool) → live 16 ≡ a → (b : Bool) → live 17 ≡ b → (c : Bool) → live 18 ≡ c → (d : Bool) → live 19 ≡ d → (a || (b || (c || d))) ≡ false → live k ≡ false
    go p ep q eq r er s es any a ea b eb c ec d ed none = pick p ep q eq r er s es any (dead a b c d none)
      where
        pick : (p : Bool) → (k == 16) ≡ p → (q : Bool) → (k == 17) ≡ q → (r : Bool) → (k == 18) ≡ r → (s : Bool) → (k == 19) ≡ s → (p || (q || (r || s))) ≡ true → (a ≡ false) × (b ≡ false) × (c ≡ false) × (d ≡ false) → live k ≡ false
        pick true ep q eq r er s es any z = at 16 ep (ea ∙ z.0)
        pick false ep true eq r er s es any z = at 17 eq (eb ∙ z.1)
        pick false ep false eq true er s es any z = at 18 er (ec ∙ z.2)
        pick false ep false eq false er true es any z = at 19 es (ed ∙ z.3)
        pick false ep false eq false er false es any z = absurd (both_ways false refl any)

first_false : (a b : Bool) → (a && b) ≡ false → a ≡ true → b ≡ false
first_false true b e t = e
first_false false b e t = absurd (both_ways false refl t)

module _ (o : ObjectParts) (f : FlowParts) (b : Boundary) (c : ℕ) (x : Point) (u : SeqUnit) (is : IsUnitOf o f b c x u) where
  not_live : (k : ℕ) → is.live k ≡ false → IsLiveAfter f b k x → ⊥
  not_live k dead live = both_ways (is.live k) dead ((is.is_live k).1 live)

  pub spare : (k : ℕ) → Contains is.scratch k → IsSpare f b x k
  spare k h = go is.sequence
    where
      go : IsSequenceOf o is.live c x is.scratch u.seq → IsSpare f b x k
      go (of_it none empty s) = absurd (contains_none k (subst (λ (qs : List ℕ). Contains qs k) empty h))
      go (of_instr body r works coded) =
          let at = place_of is.scratch k h in
          let n : ℕ = registers_of r.class x.instr in
          let taken : slice_get (take n (scratch_of is.live x.instr)) at.0 ≡ Some k = ap (λ (qs : List ℕ). slice_get qs at.0) (sym r.first) ∙ at.1 in
          let among = contains_at (scratch_of is.live x.instr) at.0 k (take_at (scratch_of is.live x.instr) n at.0 k taken).1 in
          let parts = contains_filter (is_scratch is.live x.instr) order k among in
          record { low = low_order k parts.0; dead = not_live k (not_first (is.live k) (reads_of x.instr k || writes_of x.instr k) parts.1) }

  pub flags_dead : (k : ℕ) → adds_long_product x.instr ≡ true → is_flag k ≡ true → IsLiveAfter f b k x → ⊥
  flags_dead k adds flag = go is.sequence
    where
      go : IsSequenceOf o is.live c x is.scratch u.seq → IsLiveAfter f b k x → ⊥
      go (of_it none empty s) live = it_adds_nothing x.instr none adds
      go (of_instr body r works coded) live =
          not_live k (flag_among is.live k flag (first_false (changes_flags r.class) (has_live_flag is.live) r.flags (changes r.class x.instr r.of adds))) live
