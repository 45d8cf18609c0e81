-- A point's relocation stays: a copy of its unit carries it.
use Rattle.std.proofs.Common.{◌≡◌, ◌≤◌, ℕ, ◌+◌, Bool, true, false, cond, List, [], ◌∷◌, filter, refl, sym, ap, ◌∙◌, subst, arith, Option, Some, None, Ok, Err}
use Rattle.std.specs.Prelude.{slice_get, Contains, ◌==◌, ◌&&◌, ◌||◌, not}
use Rattle.std.specs.Option.{option_map}
use Rattle.std.proofs.lemmas.Bool.{both_ways}
use Rattle.std.proofs.lemmas.Option.{same_Some, none-some, slice_get-map}
use Rattle.std.proofs.lemmas.List.Elements.{Contains-append_left}
use Rattle.elf_model.specs.declared.objects.Section.{Section}
use Rattle.elf_model.specs.declared.objects.Reloc.{Reloc}
use Rattle.elf_model.specs.declared.objects.RelocKind.{RelocKind}
use Rattle.elf_model.specs.declared.objects.RelocKind.TheVariants.{Abs32, Target1, ThmCall, ThmJump24, MovwAbs, MovtAbs, ThmJump19, ThmJump11, ThmJump8, Other}
use Rattle.elf_model.specs.Fields.{half_at}
use Rattle.elf_model.specs.Objects.{ObjectParts, is_code, is_data, is_alloc}
use Rattle.elf_model.specs.Ranges.{is_long}
use Rattle.elf_model.proofs.Elements.{contains_here, contains_later, map_contains, filter_contains}
use Rattle.thumb_instr.specs.declared.conditions.Cond.{Cond}
use Rattle.thumb_instr.specs.declared.instructions.Instr.{Instr}
use Rattle.thumb_instr.specs.declared.instructions.Instr.TheVariants as instr
use Rattle.thumb_instr.specs.declared.refusals.BadInstr.TheVariants.{Unpredictable}
use Rattle.thumb_instr.specs.declared.refusals.ItPlace.{ItPlace}
use Rattle.thumb_instr.specs.declared.refusals.ItPlace.TheVariants.{Outside}
use Rattle.thumb_instr.specs.Fields.{HalfFields, BranchFields, CallFields}
use Rattle.thumb_instr.specs.Blocks.{place_in_block}
use Rattle.thumb_instr.specs.Numbers.{has_number, is_taken}
use Rattle.thumb_instr.specs.Rows.{is_wide, decode, decode_given}
use Rattle.thumb_instr.specs.Sets.{reads_of, writes_of}
use Rattle.thumb_instr.proofs.Numbers.{answers_taken}
use Rattle.reloc_places.specs.Starts.{bytes_of, decoded_at, IsDataWord}
use Rattle.reloc_places.specs.Relocations.{is_bl, is_b, is_mov, fits_kind, IsPlace, in_data, in_code, on_instr}
use Rattle.seq_core.specs.declared.classes.Class.{Class}
use Rattle.seq_core.specs.declared.classes.Class.TheVariants as class
use Rattle.seq_core.specs.declared.steps.Step.{Step}
use Rattle.seq_core.specs.declared.steps.Goal.TheVariants.{End, Target}
use Rattle.seq_core.specs.Groups.{branching}
use Rattle.seq_core.specs.Classes.{IsOf}
use Rattle.seq_core.specs.Series.{Series}
use Rattle.seq_core.specs.Straight.{own_goal}
use Rattle.seq_core.specs.Replaced.{leading, links, branches, replaced}
use Rattle.seq_core.specs.Places.{PlacedParts, LayoutParts}
use Rattle.flow_recover.specs.declared.flows.Point.{Point}
use Rattle.flow_recover.specs.Flows.{FlowParts}
use Rattle.flow_recover.specs.WholeFlows.{IsFlow}
use Rattle.liveness.specs.declared.boundary.Boundary.{Boundary}
use Rattle.it_expand.specs.Expanded.{body_of, guard_of}
use Rattle.hardened_form.specs.Carriers.{Carrier}
use Rattle.hardened_form.specs.Code.{reloc_of}
use Rattle.hardened_form.specs.Turns.{is_turned}
use Rattle.branch_layout.specs.Copies.{copies_of}
use Rattle.emit_object.specs.UnitCopies.{is_half, is_target, unit_copies, carries, copy_carries, carrier, carriers_of}
use Rattle.emit_object.specs.Emitting.{unit_of, units_of, CanEmit}
use Rattle.point_units.specs.Units.{never_returns, trapping, landed, under, left_by, left_instr, IsSequenceOf, of_it, of_instr, AreUnits}
use Rattle.pair_parts.proofs.CopyFacts.{copy_of}
use Rattle.pair_parts.proofs.PointFacts.{at_point, reloc_found, decoded_whole, some_bytes, code_apart, not_wrong}
use Rattle.pair_parts.proofs.LaidUnits.{many_codes}
use Rattle.pair_parts.proofs.SequenceFacts.{sequence_stands, stands_so, copied}

-- WHICH INSTRUCTIONS HAVE A RELOCATION

bl_has : (i : Instr) → is_bl i ≡ true → has_number i ≡ true
bl_has (instr.Call i) e = refl
bl_has i e = absurd (cc)

b_has : (conditional : Bool) (i : Instr) → is_b conditional i ≡ true → has_number i ≡ true
b_has conditional (instr.Branch i) e = refl
b_has conditional i e = absurd (cc)

mov_has : (top : Bool) (i : Instr) → is_mov top i ≡ true → has_number i ≡ true
mov_has top (instr.Half i) e = refl
mov_has top i e = absurd (cc)

long_has : (long conditional : Bool) (i : Instr) → (long && is_b conditional i) ≡ true → has_number i ≡ true
long_has true conditional i e = b_has conditional i e
long_has false conditional i e = absurd (cc)

kind_has : (kind : RelocKind) (long : Bool) (i : Instr) → fits_kind kind long i ≡ true → has_number i ≡ true
kind_has Abs32 long i e = absurd (cc)
kind_has Target1 long i e = absurd (cc)
kind_has ThmCall long i e = bl_has i e
kind_has ThmJump24 long i e = long_has long false i e
kind_has MovwAbs long i e = mov_has false i e
kind_has MovtAbs long i e = mov_has true i e
kind_has ThmJump19 long i e = long_has long true i e
kind_has ThmJump11 long i e = long_has (not long) false i e
kind_has ThmJump8 long i e = long_has (not long) true i e
kind_has (Other k) long i e = absurd (cc)

given_is : (wide : Bool) (place : ItPlace) (h s : ℕ) → is_wide h ≡ wide → decode_given place h (cond wide (Some s) None) ≡ decode place h (cond wide s 0)
given_is true place h s e = refl
given_is false place h s e = rw e refl

taken_same : (b : Bool) (i j : Instr) → cond b (Ok i) (Err Unpredictable) ≡ Ok j → i ≡ j
taken_same true i j e = (cc)
taken_same false i j e = absurd (cc)

-- an instruction with a number is the same in each IT state that takes it
same_in_block : (bytes : List ℕ) (x it : ℕ) (i j : Instr) → decoded_at bytes x 0 ≡ Ok i → has_number i ≡ true → decoded_at bytes x it ≡ Ok j → i ≡ j
same_in_block bytes x it i j out number inside =
    let place = place_in_block it in
    let h = half_at bytes x in
    let s = cond (is_long h) (half_at bytes (x + 2)) 0 in
    let one : decode Outside h s ≡ Ok i = sym (given_is (is_long h) Outside h (half_at bytes (x + 2)) refl) ∙ out in
    let two : decode place h s ≡ Ok j = sym (given_is (is_long h) place h (half_at bytes (x + 2)) refl) ∙ inside in
    taken_same (is_taken place i) i j (sym ((answers_taken place (is_wide h) h s).taken i one number) ∙ two)

true_at_last : (b : Bool) → ((b ≡ true → ⊥) → ⊥) → b ≡ true
true_at_last true h = refl
true_at_last false h = absurd (h (λ e. both_ways false refl e))

-- data is no code
data_no_code : (s : Section) → is_data s ≡ true → is_code s ≡ true → ⊥
data_no_code s datum code = go (is_alloc s.flags) (is_code s) datum code
  where
    go : (a b : Bool) → (a && not b) ≡ true → b ≡ true → ⊥
    go true true e f = both_ways false refl e
    go false true e f = both_ways false refl e
    go a false e f = both_ways false refl f

module _ (o : ObjectParts) (f : FlowParts) (flow : IsFlow o f) where
  pub has_reloc : (n k : ℕ) (x : Point) → slice_get f.points n ≡ Some x → x.reloc ≡ Some k → has_number x.instr ≡ true
  has_reloc n k x e has =
      let at = at_point o f flow n x e in
      let r = reloc_found o x.section x.offset k (sym at.reloc ∙ has) in
      true_at_last (has_number x.instr) (λ other. not_wrong o f flow k r.0 r.1 (λ right. other (placed r.0 r.2 r.3 right.place)))
    where
      placed : (r : Reloc) → r.section ≡ x.section → r.offset ≡ x.offset → IsPlace o r → has_number x.instr ≡ true
      placed r section offset (in_data s there datum word) =
          let range = (at_point o f flow n x e).start.range in
          let same : s ≡ range.section = same_Some s range.section (sym there ∙ ap (slice_get o.sections) section ∙ range.is_there) in
          absurd (data_no_code s datum (ap is_code same ∙ range.in_code))
      placed r section offset (in_code word data_word) =
          absurd (code_apart o f flow n x r.offset e (subst (λ (j : ℕ). IsDataWord o j r.offset) section data_word) (omega (arith, offset)) (let some = some_bytes o f flow n x e in omega (arith, offset)))
      placed r section offset (on_instr end i start is fits) =
          let at = at_point o f flow n x e in
          let d = decoded_whole (bytes_of o r.section) end r.offset 0 i is in
          let out : decoded_at (bytes_of o x.section) x.offset 0 ≡ Ok i =
          sym (ap (λ (j : ℕ). decoded_at (bytes_of o j) r.offset 0) section ∙ ap (λ (a : ℕ). decoded_at (bytes_of o x.section) a 0) offset) ∙ d.1 in
          let number = kind_has r.kind (is_long (half_at (bytes_of o r.section) r.offset)) i fits in
          subst (λ (z : Instr). has_number z ≡ true) (same_in_block (bytes_of o x.section) x.offset at.it i x.instr out number at.instr) number

-- THE STEP THAT CARRIES IT

half_through : (i : HalfFields) → IsOf class.Through (instr.Half i) → ⊥
unfolding reads_of writes_of
half_through i of = of.0 (λ k. ap (λ (b : Bool). (b && (k == i.d)) && (k == i.d)) of.1)

branch_through : (i : BranchFields) → IsOf class.Through (instr.Branch i) → ⊥
unfolding reads_of writes_of
branch_through i of = of.0 (λ k. refl)

-- one that carries it, among these
pub record HasCarrying (steps : List Step) : Type 0 where
  pub step : Step
  pub there : Contains steps step
  pub carried : carries step ≡ true

half_carries : (c : Class) (i : HalfFields) (j : Instr) (copies : ℕ) (qs : List ℕ) → IsOf c (instr.Half i) → is_half j ≡ true → HasCarrying (replaced c copies j qs)
half_carries class.Twice i j copies qs of half = record { step = leading copies (own_goal j) j; there = contains_here (leading copies (own_goal j) j) []; carried = ap (λ (b : Bool). b || is_target (own_goal j)) half }
half_carries class.Through i j copies qs of half = absurd (half_through i of)
half_carries c i j copies qs of half = absurd (both_ways false refl of)

branch_carries : (c : Class) (i : BranchFields) (copies : ℕ) (qs : List ℕ) → IsOf c (instr.Branch i) → HasCarrying (replaced c copies (instr.Branch i) qs)
branch_carries class.Twice i copies qs of = record { step = leading copies Target (instr.Branch i); there = contains_here (leading copies Target (instr.Branch i)) []; carried = refl }
branch_carries class.Through i copies qs of = absurd (branch_through i of)
branch_carries c i copies qs of = absurd (both_ways false refl of)

call_carries : (c : Class) (i : CallFields) (copies : ℕ) (qs : List ℕ) → IsOf c (instr.Call i) → HasCarrying (replaced c copies (instr.Call i) qs)
call_carries class.Twice i copies qs of = absurd (both_ways true of.1 refl)
call_carries class.Through i copies qs of = absurd (both_ways true (of.2 class.DirectCall) refl)
call_carries class.DirectCall i copies qs of = record { step = branches copies; there = contains_later (links copies) (branches copies ∷ []) (branches copies) (contains_here (branches copies) []); carried = refl }
call_carries c i copies qs of = absurd (both_ways false refl of)

left_half : (o : ObjectParts) (r : Option Reloc) (i : HalfFields) → is_half (left_by o r (instr.Half i)) ≡ true
left_half o None i = refl
left_half o (Some r) i = go (is_turned o r)
  where
    go : (b : Bool) → is_half (cond b (instr.Half (record i { imm = 0 })) (instr.Half i)) ≡ true
    go true = refl
    go false = refl

left_branch : (o : ObjectParts) (r : Option Reloc) (i : BranchFields) → instr.Branch i ≡ left_by o r (instr.Branch i)
left_branch o None i = refl
left_branch o (Some r) i = refl

left_call : (o : ObjectParts) (r : Option Reloc) (i : CallFields) → instr.Call i ≡ left_by o r (instr.Call i)
left_call o None i = refl
left_call o (Some r) i = refl

replaced_carries : (o : ObjectParts) (r : Option Reloc) (c : Class) (i : Instr) (copies : ℕ) (qs : List ℕ) → has_number i ≡ true → IsOf c i → HasCarrying (replaced c copies (left_by o r i) qs)
replaced_carries o r c (instr.Half i) copies qs has of = half_carries c i (left_by o r (instr.Half i)) copies qs of (left_half o r i)
replaced_carries o r c (instr.Branch i) copies qs has of = subst (λ (j : Instr). HasCarrying (replaced c copies j qs)) (left_branch o r i) (branch_carries c i copies qs of)
replaced_carries o r c (instr.Call i) copies qs has of = subst (λ (j : Instr). HasCarrying (replaced c copies j qs)) (left_call o r i) (call_carries c i copies qs of)
replaced_carries o r c i copies qs has of = absurd (both_ways false refl has)

landed_carries : (never : Bool) (c : ℕ) (steps : List Step) → HasCarrying steps → HasCarrying (landed never c steps).steps
landed_carries true c steps h = record { step = h.step; there = Contains-append_left steps (trapping c ∷ []) h.step h.there; carried = h.carried }
landed_carries false c steps h = h

under_carries : (g : Option Cond) (c : ℕ) (s : Series) → HasCarrying s.steps → HasCarrying (under g c s).steps
under_carries None c s h = h
under_carries (Some d) c s h = record { step = h.step; there = contains_later (leading c End (branching d)) s.steps h.step h.there; carried = h.carried }

it_has_none : (i : Instr) → body_of i ≡ None → has_number i ≡ true → ⊥
it_has_none (instr.It i) e has = both_ways false refl has
it_has_none i e has = none-some i (sym e)

pub sequence_carries : (o : ObjectParts) (live : ℕ → Bool) (c : ℕ) (x : Point) (scratch : List ℕ) (s : Series) → IsSequenceOf o live c x scratch s → has_number x.instr ≡ true → HasCarrying s.steps
sequence_carries o live c x scratch s (of_it none empty is) has = absurd (it_has_none x.instr none has)
sequence_carries o live c x scratch s (of_instr body is works coded) has =
    subst (λ (z : Series). HasCarrying z.steps) (sym is.sequence)
    (under_carries (guard_of x.cond) c (landed (never_returns x) c (replaced is.class c (left_instr o x) scratch))
    (landed_carries (never_returns x) c (replaced is.class c (left_instr o x) scratch) (replaced_carries o (reloc_of o x.reloc) is.class x.instr c scratch has is.of)))

module _ (o : ObjectParts) (f : FlowParts) (b : Boundary) (c : ℕ) (l : LayoutParts) (some : 1 ≤ c) (flow : IsFlow o f) (units : AreUnits o f b c f.points (units_of l)) (can : CanEmit o f l) where
  pub one_carries : (n k : ℕ) (x : Point) (u : PlacedParts) → slice_get f.points n ≡ Some x → slice_get l.units n ≡ Some u → x.reloc ≡ Some k → (d : Carrier) × Contains (carriers_of l u) d
  one_carries n k x u e g has =
      let is = units.each n x u.unit e (slice_get-map unit_of l.units n ∙ ap (option_map unit_of) g) in
      let t = sequence_carries o is.live c x is.scratch u.unit.seq is.sequence (has_reloc o f flow n k x e has) in
      let many = stands_so c u.unit.seq.steps t.step (sequence_stands o is.live c x is.scratch u.unit.seq is.sequence) t.there in
      let here = copied u.unit.seq.steps t.step t.there (omega arith) in
      let d = copy_of u.start (copies_of u.unit.seq.steps) u.codes (many_codes o f l can n u g) t.step here in
      (carrier l u d.0, map_contains (carrier l u) (filter copy_carries (unit_copies u)) d.0 (filter_contains copy_carries (unit_copies u) d.0 d.1 (ap carries d.2 ∙ t.carried)))
