-- The points of an object without faults.
use Rattle.std.proofs.Common.{◌≡◌, ◌↔◌, ◌≤◌, ℕ, zero, suc, ◌+◌, ◌-◌, Bool, true, false, cond, List, [], ◌∷◌, ◌++◌, length, refl, sym, ap, ◌∙◌, subst, inl, inr, ◌⊎◌, arith, map, Option, Some, None, Ok, Err}
use Rattle.std.specs.Prelude.{slice_get, ◌==◌}
use Rattle.std.specs.Option.{option_map}
use Rattle.std.proofs.lemmas.Bool.{leb-true, true≢false}
use Rattle.std.proofs.lemmas.List.{length-append}
use Rattle.std.proofs.lemmas.Option.{none-some, same_Some, slice_get-map}
use Rattle.elf_model.specs.declared.refusals.Refusal.TheVariants as refusal
use Rattle.elf_model.specs.Fields.{half_at}
use Rattle.elf_model.specs.Objects.{ObjectParts}
use Rattle.elf_model.specs.Ranges.{is_long, is_whole, length_at}
use Rattle.thumb_instr.specs.declared.instructions.Instr.{Instr}
use Rattle.thumb_instr.specs.declared.instructions.Instr.TheVariants as instr
use Rattle.thumb_instr.specs.declared.refusals.BadInstr.{BadInstr}
use Rattle.thumb_instr.specs.declared.refusals.BadInstr.TheVariants.{Unknown}
use Rattle.thumb_instr.specs.Fields.{LiteralFields}
use Rattle.flow_recover.specs.declared.nodes.Node.{Node}
use Rattle.flow_recover.specs.declared.aims.Aim.{Aim}
use Rattle.flow_recover.specs.declared.aims.Aim.TheVariants.{Near}
use Rattle.flow_recover.specs.declared.flows.Exit.TheVariants as exit
use Rattle.flow_recover.specs.declared.flows.Point.{Point}
use Rattle.flow_recover.specs.declared.flows.PoolWord.{PoolWord}
use Rattle.reloc_places.specs.Starts.{bytes_of, HasStart, decoded_at, behind}
use Rattle.flow_recover.specs.Aims.{is_branch, has_offset, IsAim}
use Rattle.flow_recover.specs.Reach.{IsFound, GoesOn, node_behind, node_at, Aims, LeadsOn, IsReached}
use Rattle.flow_recover.specs.Reach.IsDeadEnd.{no_code}
use Rattle.flow_recover.specs.Reach.GoesOn.{by_falling, by_return}
use Rattle.flow_recover.specs.Reach.LeadsOn.{on}
use Rattle.flow_recover.specs.Reach.LeadsAway.{away}
use Rattle.flow_recover.specs.Reach.IsReached.{named, led_on, led_away}
use Rattle.flow_recover.specs.FlowFaults.{IsReachedInstr, refusal_of, literal_place}
use Rattle.flow_recover.specs.FlowFaults.IsClaim.{by_object, by_instr}
use Rattle.flow_recover.specs.FlowFaults.{FlowFault as fault}
use Rattle.flow_recover.specs.WholeFlows.{is_near, IsExit, IsNext, IsLoaded, IsPoint, Enters, IsEntry}
use Rattle.flow_recover.specs.WholeFlows.Enters.{by_call, by_symbol}
use Rattle.flow_recover.specs.WholeFlows.{IsEntry as entry}
use Rattle.flow_recover.specs.WholeFlows.{IsExit as exits}
use Rattle.flow_recover.specs.WholeFlows.{IsNext as nexts}
use Rattle.flow_recover.specs.WholeFlows.{IsLoaded as loads}
use Rattle.flow_recover.specs.Charts.{AreNodes}
use Rattle.reloc_places.specs.Tables.{AreStarts}
use Rattle.flow_recover.specs.Settled.{IsFaultless, IsLoad, ArePlaces, ArePointsOf, word_at}
use Rattle.elf_model.proofs.Elements.{place_of}
use Rattle.reloc_places.proofs.StartFacts.{start_or_none}

-- an instruction starts at a reached node
pub reached_starts : (o : ObjectParts) (n : Node) → IsReached o n → HasStart o n.section n.offset
reached_starts o _ (named j x section offset h s) = s
reached_starts o _ (led_on n m r (on i f g e s)) = s
reached_starts o _ (led_away n m r (away i x f a e s)) = subst (λ (k : Node). HasStart o k.section k.offset) (sym e) s

branch_offset : (i : Instr) → is_branch i ≡ true → has_offset i ≡ true
branch_offset (instr.Branch i) h = refl
branch_offset (instr.ZeroBranch i) h = refl
branch_offset _ h = absurd (true≢false (sym h))

-- a found instruction is whole
pub found_whole : (o : ObjectParts) (n : Node) (i : Instr) (f : IsFound o n (Ok i)) → n.offset + length_at (bytes_of o n.section) n.offset ≤ f.end
found_whole o n i f = go (is_whole (bytes_of o n.section) f.end n.offset) refl
  where
    go : (b : Bool) → is_whole (bytes_of o n.section) f.end n.offset ≡ b → n.offset + length_at (bytes_of o n.section) n.offset ≤ f.end
    go true e = leb-true (n.offset + length_at (bytes_of o n.section) n.offset) f.end e
    go false e =
        let bad : Err Unknown ≡ Ok i = sym (ap (λ (b : Bool). cond b (decoded_at (bytes_of o n.section) n.offset n.it) (Err Unknown)) e) ∙ f.is in
        absurd (cc)

pub is_point_wide : (o : ObjectParts) (n : Node) (next : ℕ) → next ≡ behind o n.section n.offset → (next - n.offset == 4) ≡ is_long (half_at (bytes_of o n.section) n.offset)
is_point_wide o n next e = ap (λ (k : ℕ). k == 4) (length (length_at (bytes_of o n.section) n.offset) next e) ∙ go (is_long (half_at (bytes_of o n.section) n.offset))
  where
    length : (l next : ℕ) → next ≡ n.offset + l → next - n.offset ≡ l
    length l next e = omega arith

    go : (b : Bool) → (cond b 4 2 == 4) ≡ b
    go true = refl
    go false = refl

module _ (o : ObjectParts) (faultless : IsFaultless o) where
  -- halfwords that are reached are an instruction
  pub none_bad : (n : Node) (b : BadInstr) → IsReached o n → IsFound o n (Err b) → ⊥
  none_bad n b r f = faultless (refusal_of b) n.section n.offset (fault.no_instr n b r f refl refl refl)

  -- a literal load names a word
  pub names_word : (n : Node) (l : LiteralFields) → IsReached o n → IsFound o n (Ok (instr.Literal l)) → literal_place n.offset l ≡ None → ⊥
  names_word n l r f none =
      faultless refusal.IntoMiddle n.section n.offset (fault.no_word n l (record { reached = r; found = f }) (λ w e. absurd (none-some w (sym none ∙ e))) refl refl refl)

  module _ (n : Node) (i : Instr) (reached : IsReached o n) (found : IsFound o n (Ok i)) (places : List (ℕ × ℕ)) (words : ArePlaces o places) where
    pub loaded_there : (l : LiteralFields) (w : ℕ) (r : Option ℕ) → i ≡ instr.Literal l → literal_place n.offset l ≡ Some w → ((q : ℕ) → (r ≡ Some q) ↔ (slice_get places q ≡ Some (n.section, w)))
        → IsLoaded (map (word_at o) places) n i r
    loaded_there l w r is at index =
        let load : IsLoad o n (n.section, w) = record { instr = i; found = found; names = record { literal = l; is = is; section = refl; offset = at } } in
        let k = place_of places (n.section, w) ((words.exact (n.section, w)).1 (record { node = n; reached = reached; load = load })) in
        loads.literal l k.0 (word_at o (n.section, w)) is (slice_get-map (word_at o) places k.0 ∙ ap (λ z. option_map (word_at o) z) k.1) refl at ((index k.0).1 k.1)

module _ (o : ObjectParts) (faultless : IsFaultless o) (end_at : ℕ → ℕ → Option ℕ) (starts : AreStarts o end_at) where
  -- a branch or call within its section leads to a node
  aimed_reached : (n : Node) (i : Instr) (x : ℕ) → IsReachedInstr o n i → Aims o n i x → IsReached o (node_at n.section x)
  aimed_reached n i x r aims =
      elim (start_or_none o end_at starts n.section x) [
        | inl s ↦ led_away n (node_at n.section x) r.reached (away i x r.found aims refl s)
        | inr none ↦ absurd (faultless refusal.IntoMiddle n.section n.offset (fault.no_start n.section x (by_instr n i r aims refl refl refl) none refl))
      ]

  pub near_reached : (n : Node) (i : Instr) (x : ℕ) → IsReached o n → IsFound o n (Ok i) → is_branch i ≡ true → IsAim o n.section n.offset i (Near x) → IsReached o (node_at n.section x)
  near_reached n i x r f branch aim = aimed_reached n i x (record { reached = r; found = f }) (record { has = branch_offset i branch; aim = inl aim })

  -- an entry is a node
  pub entry_reached : (j x : ℕ) → IsEntry o j x → IsReached o (node_at j x)
  entry_reached j x (entry.named section offset p) =
      elim (start_or_none o end_at starts j x) [
        | inl s ↦ named j x section offset p s
        | inr none ↦ absurd (faultless refusal.IntoMiddle section offset (fault.no_start j x (by_object p) none refl))
      ]
  entry_reached j x (entry.entered n i r enters same) = subst (λ (k : ℕ). IsReached o (node_at k x)) (sym same) (aimed_reached n i x r (aims enters))
    where
      aims : Enters o n i x → Aims o n i x
      aims (by_call has branch aim) = record { has = has; aim = inl aim }
      aims (by_symbol has aim) = record { has = has; aim = inr aim }

  -- where control goes on, it leads on
  pub leads_on : (n : Node) (i : Instr) → IsReached o n → IsFound o n (Ok i) → GoesOn o n i → LeadsOn o n (node_behind o n i)
  leads_on n i r f g =
      elim (start_or_none o end_at starts n.section (behind o n.section n.offset)) [
        | inl s ↦ on i f g refl s
        | inr none ↦ absurd (stops g none)
      ]
    where
      stops : GoesOn o n i → (HasStart o n.section (behind o n.section n.offset) → ⊥) → ⊥
      stops (by_falling h) none = faultless refusal.FallsOff n.section n.offset (fault.no_code n i (record { reached = r; found = f }) h none refl refl refl)
      stops (by_return c alive) none = alive (no_code (behind o n.section n.offset) none)

  module _ (nodes : List Node) (are : AreNodes o nodes) (n : Node) (i : Instr) (reached : IsReached o n) (found : IsFound o n (Ok i)) where
    pub exit_near : (x q : ℕ) → is_branch i ≡ true → IsAim o n.section n.offset i (Near x) → slice_get nodes q ≡ Some (node_at n.section x) → IsExit o nodes n i (exit.Branch q)
    exit_near x q h a at = exits.near x q h a at refl

    pub exit_nowhere : (x : ℕ) → is_branch i ≡ true → IsAim o n.section n.offset i (Near x) → ((q : ℕ) → (None ≡ Some q) ↔ (slice_get nodes q ≡ Some (node_at n.section x))) → ⊥
    exit_nowhere x h a index =
        let at = place_of nodes (node_at n.section x) ((are.exact (node_at n.section x)).1 (near_reached n i x reached found h a)) in
        none-some at.0 ((index at.0).1 at.1)

    pub exit_far : (a : Aim) → is_branch i ≡ true → is_near a ≡ false → IsAim o n.section n.offset i a → IsExit o nodes n i exit.Transfer
    exit_far a h f aim = exits.far a h aim f refl

    pub next_there : (m : Node) (r : Option ℕ) → GoesOn o n i → m ≡ node_behind o n i → ((q : ℕ) → (r ≡ Some q) ↔ (slice_get nodes q ≡ Some m)) → IsNext o nodes n i r
    next_there m r goes same index =
        let leads : LeadsOn o n m = subst (λ (z : Node). LeadsOn o n z) (sym same) (leads_on n i reached found goes) in
        let at = place_of nodes m ((are.exact m).1 (led_on n m reached leads)) in
        nexts.on at.0 goes (at.1 ∙ ap (λ (z : Node). Some z) same) ((index at.0).1 at.1)

-- a point for each of the first nodes
pub record ArePointsUpTo (o : ObjectParts) (nodes : List Node) (words : List PoolWord) (i : ℕ) (points : List Point) : Type 0 where
  pub count : length points ≡ i
  pub each : (k : ℕ) (n : Node) (p : Point) → slice_get nodes k ≡ Some n → slice_get points k ≡ Some p → IsPoint o nodes words n p

pub no_points : (o : ObjectParts) (nodes : List Node) (words : List PoolWord) (points : List Point) → points ≡ [] → ArePointsUpTo o nodes words 0 points
no_points o nodes words points e = record { count = ap length e; each = λ k n p at is. absurd (none-some p (sym (ap (λ (l : List Point). slice_get l k) e) ∙ is)) }

pub point_more : (o : ObjectParts) (nodes : List Node) (words : List PoolWord) (i : ℕ) (old new : List Point) (n : Node) (p : Point) → slice_get nodes i ≡ Some n → IsPoint o nodes words n p → new ≡ old ++ p ∷ []
    → ArePointsUpTo o nodes words i old → ArePointsUpTo o nodes words (i + 1) new
point_more o nodes words i old new n p at is e before = record {
  count = ap length e ∙ length-append old (p ∷ []) ∙ ap (λ (k : ℕ). k + 1) before.count;
  each = λ k m q there here. go k m q there (sym (ap (λ (l : List Point). slice_get l k) e) ∙ here);
}
  where
    go : (k : ℕ) (m : Node) (q : Point) → slice_get nodes k ≡ Some m → slice_get (old ++ p ∷ []) k ≡ Some q → IsPoint o nodes words m q
    go k m q there here =
        elim (pushed old p k q here) [
          | inl h ↦ before.each k m q there h
          | inr h ↦
              let same_index : k ≡ i = h.0 ∙ before.count in
              let same : n ≡ m = same_Some n m (sym at ∙ sym (ap (λ (z : ℕ). slice_get nodes z) same_index) ∙ there) in
              subst (λ (z : Point). IsPoint o nodes words m z) h.1 (subst (λ (z : Node). IsPoint o nodes words z p) same is)
        ]
      where
        pushed : (xs : List Point) (y : Point) (k : ℕ) (z : Point) → slice_get (xs ++ y ∷ []) k ≡ Some z → (slice_get xs k ≡ Some z) ⊎ ((k ≡ length xs) × (y ≡ z))
        pushed [] y zero z h = inr (refl, same_Some y z h)
        pushed [] y (suc k) z h = absurd (none-some z h)
        pushed (x ∷ xs) y zero z h = inl h
        pushed (x ∷ xs) y (suc k) z h =
            elim (pushed xs y k z h) [
              | inl e ↦ inl e
              | inr e ↦ inr (ap (λ (n : ℕ). suc n) e.0, e.1)
            ]

pub points_done : (o : ObjectParts) (nodes : List Node) (words : List PoolWord) (i : ℕ) (points : List Point) → i ≡ length nodes → ArePointsUpTo o nodes words i points → ArePointsOf o nodes words points
points_done o nodes words i points e up = record { count = up.count ∙ e; each = up.each }
