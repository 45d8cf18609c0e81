-- The first row is accepted.
use Rattle.std.proofs.Common.{◌≡◌, ℕ, zero, suc, ◌%◌, ◌⊎◌, ⊎_elim, inl, inr, Bool, true, false, [], ◌∷◌, Some, Ok, Err, refl, sym, ap, ◌∙◌, subst, arith}
use Rattle.std.specs.Prelude.{◌==◌, ◌||◌, slice_get, Contains}
use Rattle.std.specs.List.Sorted.{IsStrictlySortedBy}
use Rattle.std.proofs.lemmas.Bool.{both_ways, eqb-true, or_cases}
use Rattle.std.proofs.lemmas.Option.{none-some, same_Some}
use Rattle.elf_model.specs.declared.objects.Symbol.{Symbol}
use Rattle.elf_model.specs.declared.ranges.RangeKind.TheVariants.{Arm}
use Rattle.elf_model.specs.declared.refusals.Refusal.{Refusal}
use Rattle.elf_model.specs.Ranges.{IsRange, is_mapping_of, mapping_name}
use Rattle.thumb_instr.specs.declared.instructions.Instr.{Instr}
use Rattle.thumb_instr.specs.declared.instructions.Instr.TheVariants as instr
use Rattle.thumb_instr.specs.Operands.{has}
use Rattle.thumb_instr.specs.Sets.{is_flag, reads_of, writes_of, sets_flags_of}
use Rattle.thumb_instr.specs.Rows.{Answer}
use Rattle.code_ranges.specs.declared.ranges.Range.{Range}
use Rattle.flow_recover.specs.declared.flows.Point.{Point}
use Rattle.flow_recover.specs.declared.flows.PoolWord.{PoolWord}
use Rattle.flow_recover.specs.declared.flows.Exit.{Exit}
use Rattle.flow_recover.specs.declared.flows.Exit.TheVariants as exits
use Rattle.code_ranges.specs.CodeRanges.{RangeFault, no_mapping, arm_range, arm_function, AreRanges, range_kind}
use Rattle.reloc_places.specs.Starts.{HasStart, behind}
use Rattle.flow_recover.specs.Reach.{IsFound, node_at, may_fall}
use Rattle.flow_recover.specs.FlowFaults.{IsReachedInstr, IsClaim, by_object, by_instr, FlowFault, no_instr, adr, relocation, no_start, in_block, absolute, arm_address, no_word, no_code, cut_block}
use Rattle.flow_recover.specs.WholeFlows.{IsPoint, plain as by_itself, on, none, IsPoolWord, IsEntry, named, entered, by_call, by_symbol, Enters, IsFlow}
use Rattle.liveness.specs.Paths.{IsLiveBefore, uses_at}
use Rattle.liveness.specs.Faults.{LiveFault, at_entry, at_return, is_unset_at_entry}
use Rattle.sim_relation.specs.Accepted.{Accepted, boundaries}
use Rattle.hardened_form.specs.FirstRow.{plain, first, last, flow, code_symbol, function_symbol}
use Rattle.elf_model.proofs.Elements.{contains_none}
use Rattle.sim_relation.proofs.ShortLists.{either, only, at_two}
use Rattle.sim_relation.proofs.FirstFlow.{range, end_is, known_kind, start0, start2, found0, found2, only0, only2, Which, is_first, is_last, which, named_at, names0, goes_first, no_offset, all_reached, is_reached}

-- what kind of instruction is reached
abbrev is_other : Instr → Bool
is_other (instr.Move i) = false
is_other (instr.Jump i) = false
is_other _ = true

no_other : (n : _) (i : Instr) → IsReachedInstr plain n i → is_other i ≡ true → ⊥
no_other n i h e = no (which n i (all_reached n h.reached) h.found)
  where
    no : Which n i → ⊥
    no (is_first a b) = both_ways true (sym (ap is_other b ∙ e)) refl
    no (is_last a b) = both_ways true (sym (ap is_other b ∙ e)) refl

-- points
point0 : IsPoint plain (node_at 0 0 ∷ node_at 0 2 ∷ []) [] (node_at 0 0) first
point0 = record {
  section = refl;
  offset = refl;
  wide = refl;
  instr = found0;
  cond = refl;
  exit = by_itself refl refl;
  next = on 1 goes_first refl refl;
  reloc = refl;
  word = none (λ l e. both_ways true (sym (ap is_other e)) refl) refl;
}

point2 : IsPoint plain (node_at 0 0 ∷ node_at 0 2 ∷ []) [] (node_at 0 2) last
point2 = record {
  section = refl;
  offset = refl;
  wide = refl;
  instr = found2;
  cond = refl;
  exit = by_itself refl refl;
  next = none (record { leaves = refl; dead = λ c. absurd (both_ways true (sym c) refl) }) refl;
  reloc = refl;
  word = none (λ l e. both_ways true (sym (ap is_other e)) refl) refl;
}

points : (k : ℕ) (n : _) (p : Point) → slice_get (node_at 0 0 ∷ node_at 0 2 ∷ []) k ≡ Some n → slice_get flow.points k ≡ Some p → IsPoint plain (node_at 0 0 ∷ node_at 0 2 ∷ []) [] n p
points zero n p e f = subst (λ m. IsPoint plain (node_at 0 0 ∷ node_at 0 2 ∷ []) [] m p) (same_Some (node_at 0 0) n e) (subst (IsPoint plain (node_at 0 0 ∷ node_at 0 2 ∷ []) [] (node_at 0 0)) (same_Some first p f) point0)
points (suc zero) n p e f = subst (λ m. IsPoint plain (node_at 0 0 ∷ node_at 0 2 ∷ []) [] m p) (same_Some (node_at 0 2) n e) (subst (IsPoint plain (node_at 0 0 ∷ node_at 0 2 ∷ []) [] (node_at 0 2)) (same_Some last p f) point2)
points (suc (suc k)) n p e f = absurd (none-some n e)

no_words : (w : PoolWord) → IsPoolWord plain w → ⊥
no_words w h = no_other h.node (instr.Literal h.literal) h.loads refl

-- entries
entry_at : (j x : ℕ) → IsEntry plain j x → (j ≡ 0) × (x ≡ 0)
entry_at j x (named section offset h) = named_at j x section offset h
entry_at j x (entered n i h g e) = absurd (no (which n i (all_reached n h.reached) h.found) g)
  where
    no : Which n i → Enters plain n i x → ⊥
    no w (by_call o b a) = no_offset n i w o
    no w (by_symbol o a) = no_offset n i w o

is_entry : (q : ℕ) → Contains (0 ∷ []) q → (j x : ℕ) × (IsEntry plain j x × (slice_get (node_at 0 0 ∷ node_at 0 2 ∷ []) q ≡ Some (node_at j x)))
is_entry q c = (0, 0, (named 0 0 names0, ap (slice_get (node_at 0 0 ∷ node_at 0 2 ∷ [])) (sym (only 0 q c))))

has_entry : (q : ℕ) → ((j x : ℕ) × (IsEntry plain j x × (slice_get (node_at 0 0 ∷ node_at 0 2 ∷ []) q ≡ Some (node_at j x)))) → Contains (0 ∷ []) q
has_entry zero h = (0, omega arith, refl)
has_entry (suc zero) h =
    let e = entry_at h.0 h.1 h.2.0 in
    let n : ◌≡◌ {A = ℕ} 2 0 = ap (λ (m : _). m.offset) (same_Some (node_at 0 2) (node_at h.0 h.1) h.2.1) ∙ e.1 in
    absurd (omega (arith, n))
has_entry (suc (suc q)) h = absurd (none-some (node_at h.0 h.1) h.2.1)

entered_there : (j x : ℕ) → IsEntry plain j x → Contains (node_at 0 0 ∷ node_at 0 2 ∷ []) (node_at j x)
entered_there j x h = let e = entry_at j x h in (0, omega arith, sym (ap (λ k. node_at k x) e.0 ∙ ap (node_at 0) e.1))

-- ranges
abbrev the_range : Range
the_range = record { section = 0; start = 0; end = 4; code = true }

is_range : (r : Range) → Contains (the_range ∷ []) r → IsRange plain (range_kind r.code) r.section r.start r.end
is_range r c = subst (λ (q : Range). IsRange plain (range_kind q.code) q.section q.start q.end) (only the_range r c) range

code_range : (b : Bool) → is_mapping_of (mapping_name (range_kind b)) code_symbol ≡ true → b ≡ true
code_range true e = refl
code_range false e = absurd (both_ways true (sym e) refl)

has_range : (r : Range) → IsRange plain (range_kind r.code) r.section r.start r.end → Contains (the_range ∷ []) r
has_range r h =
    let e = end_is (range_kind r.code) r.section r.start r.end h in
    let c : r.code ≡ true = code_range r.code (known_kind (range_kind r.code) r.section r.start h.begins) in
    let same : the_range ≡ r =
    ap (λ j. record the_range { section = j }) (sym e.0)
    ∙ (ap (λ x. record the_range { section = r.section; start = x }) (sym e.1)
    ∙ (ap (λ x. record the_range { section = r.section; start = r.start; end = x }) (sym e.2)
    ∙ ap (λ b. record the_range { section = r.section; start = r.start; end = r.end; code = b }) (sym c))) in
    (0, omega arith, same)

no_range_fault : (r : Refusal) (section offset : ℕ) → RangeFault plain r section offset → ⊥
no_range_fault _ _ _ (no_mapping zero s e c low m) = both_ways true m refl
no_range_fault _ _ _ (no_mapping (suc j) s e c low m) = none-some s e
no_range_fault _ _ _ (arm_range j start end h) = both_ways true (sym (known_kind Arm j start h.begins)) refl
no_range_fault _ _ _ (arm_function k j f s fe kind home bit se c) = ⊎_elim
    (λ (h : (k ≡ 0) × (code_symbol ≡ f)). let n : ◌≡◌ {A = ℕ} 0 2 = ap (λ (t : Symbol). t.kind) h.1 ∙ kind in omega (arith, n))
    (λ (h : (k ≡ 1) × (function_symbol 4 ≡ f)). let n : ◌≡◌ {A = ℕ} 1 0 = ap (λ (t : Symbol). t.value % 2) h.1 ∙ bit in omega (arith, n))
    (at_two code_symbol (function_symbol 4) f k fe)

pub are_ranges : AreRanges plain flow.ranges
are_ranges = record { exact = λ r. (is_range r, has_range r); order = refl; sound = no_range_fault }

-- faults
abbrev is_good : Answer → Bool
is_good (Ok i) = true
is_good (Err b) = false

claimed : (j x section offset : ℕ) → IsClaim plain j x section offset → HasStart plain j x
claimed j x section offset (by_object h) = let e = named_at j x section offset h in subst (λ k. HasStart plain k x) (sym e.0) (subst (HasStart plain 0) (sym e.1) (record { end = 4; start = start0 }))
claimed j x section offset (by_instr m i h aims je s o) = absurd (no_offset m i (which m i (all_reached m h.reached) h.found) aims.has)

no_flow_fault : (r : Refusal) (section offset : ℕ) → FlowFault plain r section offset → ⊥
no_flow_fault _ _ _ (no_instr n b h f why s o) = ⊎_elim
    (λ (e : (node_at 0 0) ≡ n). both_ways true (ap is_good (only0 (Err b) (subst (λ m. IsFound plain m (Err b)) (sym e) f))) refl)
    (λ (e : (node_at 0 2) ≡ n). both_ways true (ap is_good (only2 (Err b) (subst (λ m. IsFound plain m (Err b)) (sym e) f))) refl)
    (either (node_at 0 0) (node_at 0 2) n (all_reached n h))
no_flow_fault _ _ _ (adr n i h why s o) = no_other n (instr.Adr i) h refl
no_flow_fault _ _ _ (relocation k r e n why s o) = none-some r e
no_flow_fault _ section offset (no_start j x claim n why) = n (claimed j x section offset claim)
no_flow_fault _ _ _ (in_block j x claim block why) = no_other block.node (instr.It block.it) (record { reached = block.reached; found = block.found }) refl
no_flow_fault _ _ _ (absolute n i h far aim why s o) = no_offset n i (which n i (all_reached n h.reached) h.found) far
no_flow_fault _ _ _ (arm_address r s j ref bit why so o) = none-some r ref.right.is_there
no_flow_fault _ _ _ (no_word n i h nowhere why s o) = no_other n (instr.Literal i) h refl
no_flow_fault _ _ _ (no_code n i h falls nowhere why s o) = falling (which n i (all_reached n h.reached) h.found)
  where
    falling : Which n i → ⊥
    falling (is_first a b) = nowhere (subst (λ (m : _). HasStart plain m.section (behind plain m.section m.offset)) a (record { end = 4; start = start2 }))
    falling (is_last a b) = both_ways true (sym (ap (may_fall (node_at 0 2)) b ∙ (ap (λ m. may_fall m i) a ∙ falls))) refl
no_flow_fault _ _ _ (cut_block n i reached found cut why s o) = no_other n (instr.It i) (record { reached = reached; found = found }) refl

pub is_flow : IsFlow plain flow
unfolding IsStrictlySortedBy
is_flow = record {
  nodes = node_at 0 0 ∷ node_at 0 2 ∷ [];
  reached = λ n. (is_reached n, all_reached n);
  order = ((refl, tt), (tt, tt));
  count = refl;
  few = omega arith;
  points = points;
  words = λ w. ((λ c. absurd (contains_none w c)), (λ h. absurd (no_words w h)));
  words_order = tt;
  entries = λ q. (is_entry q, has_entry q);
  entries_order = λ k l. absurd (omega arith);
  entered = entered_there;
  ranges = are_ranges;
  no_fault = no_flow_fault;
}

-- no member that has no value at an entry is used
Unused : ℕ → Type 0
Unused k = (uses_at (boundaries 4) first k ≡ false) × (uses_at (boundaries 4) last k ≡ false)

unused_12 : Unused 12
unfolding Unused reads_of has writes_of sets_flags_of
unused_12 = (refl, refl)

unused_16 : Unused 16
unfolding Unused reads_of has writes_of sets_flags_of
unused_16 = (refl, refl)

unused_17 : Unused 17
unfolding Unused reads_of has writes_of sets_flags_of
unused_17 = (refl, refl)

unused_18 : Unused 18
unfolding Unused reads_of has writes_of sets_flags_of
unused_18 = (refl, refl)

unused_19 : Unused 19
unfolding Unused reads_of has writes_of sets_flags_of
unused_19 = (refl, refl)

flag_is : (k : ℕ) → is_flag k ≡ true → (k ≡ 16) ⊎ ((k ≡ 17) ⊎ ((k ≡ 18) ⊎ (k ≡ 19)))
flag_is k e = ⊎_elim
    (λ (h : (k == 16) ≡ true). inl (eqb-true k 16 h))
    (λ h. inr (⊎_elim
    (λ (h : (k == 17) ≡ true). inl (eqb-true k 17 h))
    (λ h. inr (⊎_elim (λ (h : (k == 18) ≡ true). inl (eqb-true k 18 h)) (λ (h : (k == 19) ≡ true). inr (eqb-true k 19 h)) (or_cases (k == 18) (k == 19) h)))
    (or_cases (k == 17) ((k == 18) || (k == 19)) h)))
    (or_cases (k == 16) ((k == 17) || ((k == 18) || (k == 19))) e)

unused : (k : ℕ) → is_unset_at_entry k ≡ true → Unused k
unused k e = ⊎_elim
    (λ (h : (k == 12) ≡ true). subst Unused (sym (eqb-true k 12 h)) unused_12)
    (λ (h : is_flag k ≡ true). ⊎_elim
    (λ (a : k ≡ 16). subst Unused (sym a) unused_16)
    (λ h. ⊎_elim
    (λ (a : k ≡ 17). subst Unused (sym a) unused_17)
    (λ h. ⊎_elim (λ (a : k ≡ 18). subst Unused (sym a) unused_18) (λ (a : k ≡ 19). subst Unused (sym a) unused_19) h)
    h)
    (flag_is k h))
    (or_cases (k == 12) (is_flag k) e)

not_live : (k p : ℕ) → is_unset_at_entry k ≡ true → IsLiveBefore flow (boundaries 4) k p → ⊥
unfolding Unused
not_live k p e h = ⊎_elim
    (λ (a : (h.last ≡ 0) × (first ≡ h.point)). both_ways true (sym (sym (unused k e).0 ∙ (ap (λ x. uses_at (boundaries 4) x k) a.1 ∙ h.used))) refl)
    (λ (a : (h.last ≡ 1) × (last ≡ h.point)). both_ways true (sym (sym (unused k e).1 ∙ (ap (λ x. uses_at (boundaries 4) x k) a.1 ∙ h.used))) refl)
    (at_two first last h.point h.last h.there)

abbrev pub is_call_exit : Exit → Bool
is_call_exit exits.Call = true
is_call_exit _ = false

no_live_fault : (r : Refusal) (section offset : ℕ) → LiveFault flow (boundaries 4) r section offset → ⊥
no_live_fault _ _ _ (at_entry p k x c e h) = not_live k p h.member h.live
no_live_fault _ _ _ (at_return p q k x e call next h) = ⊎_elim
    (λ (a : (p ≡ 0) × (first ≡ x)). both_ways true (sym (ap (λ (y : Point). is_call_exit y.exit) a.1 ∙ ap is_call_exit call)) refl)
    (λ (a : (p ≡ 1) × (last ≡ x)). both_ways true (sym (ap (λ (y : Point). is_call_exit y.exit) a.1 ∙ ap is_call_exit call)) refl)
    (at_two first last x p e)

pub accepted : Accepted plain flow 4
accepted = record { flow = is_flow; live = no_live_fault; results = λ p q k x e call next above below. absurd (omega (arith, above, below)) }
