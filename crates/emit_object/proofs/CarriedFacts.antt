-- Each copy that carries a relocation has a code of four bytes, with the number that is left.
use Rattle.std.proofs.Common.{ℤ, negsuc, ◌≡◌, ◌≤◌, ℕ, ◌+◌, ◌-◌, ◌^◌, Bool, true, false, cond, List, map, filter, refl, sym, ap, ◌∙◌, subst, arith, inl, inr, Option, Some, None, Ok}
use Rattle.std.specs.Prelude.{slice_get, Contains, is_some, ◌||◌}
use Rattle.std.specs.Int.{w32, cast_unsigned}
use Rattle.std.specs.Option.{option_map, option_map_or, option_and_then}
use Rattle.std.specs.List.{zip}
use Rattle.std.proofs.lemmas.Bool.{true≢false}
use Rattle.std.proofs.lemmas.Int.{ints}
use Rattle.std.proofs.lemmas.List.{length-map}
use Rattle.std.proofs.lemmas.Option.{same_Some, slice_get-map}
use Rattle.elf_model.specs.declared.objects.Reloc.{Reloc}
use Rattle.elf_model.specs.declared.objects.RelocKind.{RelocKind}
use Rattle.elf_model.specs.declared.objects.RelocKind.TheVariants.{Abs32, Target1, ThmCall, ThmJump24, MovwAbs, MovtAbs, ThmJump19, ThmJump11, ThmJump8, Other}
use Rattle.elf_model.specs.Fields.{half_at}
use Rattle.elf_model.specs.Objects.{ObjectParts}
use Rattle.elf_model.specs.Ranges.{is_long}
use Rattle.elf_model.proofs.Elements.{place_of, contains_at, contains_map, contains_filter}
use Rattle.thumb_instr.specs.declared.instructions.Instr.{Instr}
use Rattle.thumb_instr.specs.declared.instructions.Instr.TheVariants as instr
use Rattle.thumb_instr.specs.declared.refusals.ItPlace.TheVariants.{Outside}
use Rattle.thumb_instr.specs.Fields.{BranchFields, CallFields, HalfFields}
use Rattle.thumb_instr.specs.Rows.{decode, decode_given}
use Rattle.thumb_encode.specs.declared.codes.Width.{Width}
use Rattle.thumb_encode.specs.declared.codes.Width.TheVariants.{Half, Full}
use Rattle.thumb_encode.specs.declared.codes.Code.{Code}
use Rattle.thumb_encode.specs.declared.codes.Code.TheVariants as code
use Rattle.thumb_encode.specs.Encoding.{width_of, IsCodeOf, StandsFor}
use Rattle.thumb_encode.specs.HalfCodes.{half_code, later_code}
use Rattle.thumb_encode.proofs.Standing.{half-candidate}
use Rattle.seq_core.specs.declared.steps.Step.{Step}
use Rattle.seq_core.specs.declared.steps.Goal.{Goal}
use Rattle.seq_core.specs.declared.steps.Goal.TheVariants as goal
use Rattle.seq_core.specs.declared.units.Unit.{Unit as SeqUnit}
use Rattle.seq_core.specs.Places.{PlacedParts, LayoutParts}
use Rattle.reloc_places.specs.Starts.{bytes_of, decoded_at}
use Rattle.reloc_places.specs.Relocations.{may_fail, is_jump, is_bl, is_b, is_mov, fits_kind, number_in}
use Rattle.flow_recover.specs.Flows.{FlowParts}
use Rattle.hardened_form.specs.Places.{UnitPlace, Places}
use Rattle.hardened_form.specs.Turns.{zero_addend, new_addend}
use Rattle.hardened_form.specs.Carriers.{Carrier, kind_on, IsCarried, AreCarried}
use Rattle.branch_layout.specs.Copies.{bytes_of as bytes_of_width}
use Rattle.branch_layout.specs.Widths.{IsShortest, IsLong}
use Rattle.branch_layout.specs.Goals.{aimed, offset_to, goal_of, placed_instr}
use Rattle.branch_layout.specs.Laid.{laid_place, laid_places}
use Rattle.branch_layout.proofs.WithinFacts.{zip_parts, map_at}
use Rattle.branch_layout.proofs.StepCopies.{of_step}
use Rattle.emit_object.specs.UnitCopies.{Copy, unit_copies, is_half, is_target, carries, copy_carries, carrier, carriers_of, all_carriers, CodeAt, HaveCodes}
use Rattle.emit_object.specs.Emitting.{TakesReloc, CanEmit}
use Rattle.emit_object.proofs.SitesAre.{kind_placed}
use Rattle.emit_object.proofs.LaidUnits.{copy_in}

-- CODES OF FOUR BYTES

call_is_full : (i : CallFields) (c : Code) → ¬ IsCodeOf (instr.Call i) Half c
unfolding half_code later_code
call_is_full i (code.Half h) is = elim (half-candidate (instr.Call i) h is.1) [ inl e ↦ absurd (cc) | inr e ↦ absurd (cc) ]
call_is_full i (code.Full a b) is = absurd (cc is.0)

half_is_full : (i : HalfFields) (c : Code) → ¬ IsCodeOf (instr.Half i) Half c
unfolding half_code later_code
half_is_full i (code.Half h) is = elim (half-candidate (instr.Half i) h is.1) [ inl e ↦ absurd (cc) | inr e ↦ absurd (cc) ]
half_is_full i (code.Full a b) is = absurd (cc is.0)

-- WHAT CARRIES A RELOCATION

pub data IsCarrying (s : Step) : Type 0 where
  branch : (i : BranchFields) → s.instr ≡ instr.Branch i → s.goal ≡ goal.Target → IsCarrying s
  call : (i : CallFields) → s.instr ≡ instr.Call i → s.goal ≡ goal.Target → IsCarrying s
  half : (i : HalfFields) → s.instr ≡ instr.Half i → IsCarrying s

no_fit : (k : RelocKind) (i : Instr) → is_bl i ≡ false → is_b false i ≡ false → is_b true i ≡ false → is_mov false i ≡ false → is_mov true i ≡ false → fits_kind k true i ≡ false
no_fit Abs32 i a b c d e = refl
no_fit Target1 i a b c d e = refl
no_fit ThmCall i a b c d e = a
no_fit ThmJump24 i a b c d e = b
no_fit MovwAbs i a b c d e = d
no_fit MovtAbs i a b c d e = e
no_fit ThmJump19 i a b c d e = c
no_fit ThmJump11 i a b c d e = refl
no_fit ThmJump8 i a b c d e = refl
no_fit (Other n) i a b c d e = refl

to_target : (g : Goal) → is_target g ≡ true → g ≡ goal.Target
to_target goal.Target h = refl
to_target goal.Nowhere h = absurd (true≢false (sym h))
to_target goal.End h = absurd (true≢false (sym h))
to_target goal.Landing h = absurd (true≢false (sym h))
to_target goal.Word h = absurd (true≢false (sym h))

pub carrying : (s : Step) (k : RelocKind) → carries s ≡ true → fits_kind (kind_on s.instr k) true s.instr ≡ true → IsCarrying s
carrying s k carried fits = go s.instr refl carried fits
  where
    go : (i : Instr) → s.instr ≡ i → (is_half i || is_target s.goal) ≡ true → fits_kind (kind_on i k) true i ≡ true → IsCarrying s
    go (instr.Branch i) e c f = branch i e (to_target s.goal c)
    go (instr.Call i) e c f = call i e (to_target s.goal c)
    go (instr.Half i) e c f = half i e
    go i e c f = absurd (true≢false (sym f ∙ no_fit k i refl refl refl refl refl))

half_kind : (i : HalfFields) (k : RelocKind) → fits_kind k true (instr.Half i) ≡ true → is_jump k ≡ false
half_kind i Abs32 h = refl
half_kind i Target1 h = refl
half_kind i ThmCall h = absurd (true≢false (sym h))
half_kind i ThmJump24 h = absurd (true≢false (sym h))
half_kind i MovwAbs h = refl
half_kind i MovtAbs h = refl
half_kind i ThmJump19 h = absurd (true≢false (sym h))
half_kind i ThmJump11 h = absurd (true≢false (sym h))
half_kind i ThmJump8 h = absurd (true≢false (sym h))
half_kind i (Other n) h = refl

-- the number of a branch or call tells nothing of its kind
same_branch : (k : RelocKind) (i : BranchFields) (z : ℤ) → fits_kind k true (instr.Branch (record i { offset = z })) ≡ fits_kind k true (instr.Branch i)
same_branch Abs32 i z = refl
same_branch Target1 i z = refl
same_branch ThmCall i z = refl
same_branch ThmJump24 i z = refl
same_branch MovwAbs i z = refl
same_branch MovtAbs i z = refl
same_branch ThmJump19 i z = refl
same_branch ThmJump11 i z = refl
same_branch ThmJump8 i z = refl
same_branch (Other n) i z = refl

same_call : (k : RelocKind) (i : CallFields) (z : ℤ) → fits_kind k true (instr.Call (record i { offset = z })) ≡ fits_kind k true (instr.Call i)
same_call Abs32 i z = refl
same_call Target1 i z = refl
same_call ThmCall i z = refl
same_call ThmJump24 i z = refl
same_call MovwAbs i z = refl
same_call MovtAbs i z = refl
same_call ThmJump19 i z = refl
same_call ThmJump11 i z = refl
same_call ThmJump8 i z = refl
same_call (Other n) i z = refl

branch_jumps : (b : Bool) → is_jump (cond b ThmJump19 ThmJump24) ≡ true
branch_jumps true = refl
branch_jumps false = refl

-- it has no code of two bytes
pub is_full : (s : Step) → IsCarrying s → (w : Width) → IsLong s.instr w → w ≡ Full
is_full s (branch i e g) w long = subst (λ (x : Instr). IsLong x w) e long
is_full s (call i e g) Full long = refl
is_full s (call i e g) Half long = let l : IsShortest (instr.Call i) Half = subst (λ (x : Instr). IsLong x Half) e long in absurd (call_is_full i l.0 l.1)
is_full s (half i e) Full long = refl
is_full s (half i e) Half long = let l : IsShortest (instr.Half i) Half = subst (λ (x : Instr). IsLong x Half) e long in absurd (half_is_full i l.0 l.1)

-- THE NUMBER THAT IS LEFT

to_itself : (at : ℕ) → cast_unsigned w32 (offset_to at at) ≡ 2 ^ 32 - 4
to_itself at = let e : offset_to at at ≡ negsuc 3 = omega (arith, ints) in ap (cast_unsigned w32) e

-- what it is where it stands
pub record IsPlacedAs (o : ObjectParts) (r : Reloc) (k : RelocKind) (i : Instr) : Type 0 where
  pub fits : fits_kind k true i ≡ true
  pub number : number_in (Ok i) ≡ cond (is_jump r.kind) (zero_addend r) (new_addend o r)

module _ (o : ObjectParts) (r : Reloc) (p : Places) (u : SeqUnit) (n : ℕ) (named : u.reloc ≡ Some n) (q : UnitPlace) (at : ℕ) (s : Step) (takes : TakesReloc o r s) where
  aims : s.goal ≡ goal.Target → goal_of p u q at s.goal ≡ Some at
  aims g = ap (goal_of p u q at) g ∙ ap (λ (x : Option ℕ). cond (is_some x) (Some at) (option_and_then (λ k. option_map (λ (z : UnitPlace). z.start) (slice_get p.units k)) u.target)) named

  aimed_there : s.goal ≡ goal.Target → placed_instr p u q at s ≡ aimed at at s.instr
  aimed_there g = ap (λ (e : Option ℕ). option_map_or (λ to. aimed at to s.instr) e s.instr) (aims g)

  kept : (i : HalfFields) → s.instr ≡ instr.Half i → placed_instr p u q at s ≡ s.instr
  kept i e = go (goal_of p u q at s.goal)
    where
      go : (x : Option ℕ) → option_map_or (λ to. aimed at to s.instr) x s.instr ≡ s.instr
      go None = refl
      go (Some to) = ap (aimed at to) e ∙ sym e

  jumps : is_jump (kind_on s.instr r.kind) ≡ true → 2 ^ 32 - 4 ≡ cond (is_jump r.kind) (zero_addend r) (new_addend o r)
  jumps h =
      let jump : is_jump r.kind ≡ true = sym takes.sense ∙ h in
      sym (ap (λ (b : Bool). cond b (cond b (2 ^ 32 - 4) 0) (new_addend o r)) jump)

  pub placed_as : IsCarrying s → IsPlacedAs o r (kind_on s.instr r.kind) (placed_instr p u q at s)
  placed_as (branch i e g) =
      let is : placed_instr p u q at s ≡ instr.Branch (record i { offset = offset_to at at }) = aimed_there g ∙ ap (aimed at at) e in
      record {
        fits = ap (λ (x : Instr). fits_kind (kind_on s.instr r.kind) true x) is ∙ same_branch (kind_on s.instr r.kind) i (offset_to at at) ∙ sym (ap (λ (x : Instr). fits_kind (kind_on s.instr r.kind) true x) e) ∙ takes.fits;
        number =
            ap (λ (x : Instr). number_in (Ok x)) is ∙ to_itself at ∙ jumps (ap (λ (x : Instr). is_jump (kind_on x r.kind)) e ∙ branch_jumps (may_fail i.cond));
      }
  placed_as (call i e g) =
      let is : placed_instr p u q at s ≡ instr.Call (record i { offset = offset_to at at }) = aimed_there g ∙ ap (aimed at at) e in
      record {
        fits = ap (λ (x : Instr). fits_kind (kind_on s.instr r.kind) true x) is ∙ same_call (kind_on s.instr r.kind) i (offset_to at at) ∙ sym (ap (λ (x : Instr). fits_kind (kind_on s.instr r.kind) true x) e) ∙ takes.fits;
        number = ap (λ (x : Instr). number_in (Ok x)) is ∙ to_itself at ∙ jumps (ap (λ (x : Instr). is_jump (kind_on x r.kind)) e);
      }
  placed_as (half i e) =
      let is = kept i e in
      let plain : is_jump r.kind ≡ false = half_kind i r.kind (sym (ap (λ (x : Instr). fits_kind (kind_on x r.kind) true x) e) ∙ takes.fits) in
      record {
        fits = ap (λ (x : Instr). fits_kind (kind_on s.instr r.kind) true x) is ∙ takes.fits;
        number = ap (λ (x : Instr). number_in (Ok x)) is ∙ takes.number plain ∙ sym (ap (λ (b : Bool). cond b (zero_addend r) (new_addend o r)) plain);
      }

-- CODES IN BYTES

-- a code of four bytes that stands there is decoded
record IsRead (bytes : List ℕ) (at : ℕ) (i : Instr) : Type 0 where
  there : decoded_at bytes at 0 ≡ Ok i
  long : is_long (half_at bytes at) ≡ true

read_code : (bytes : List ℕ) (at : ℕ) (i : Instr) (c : Code) → width_of c ≡ Full → StandsFor c i → CodeAt bytes at c → IsRead bytes at i
read_code bytes at i (code.Half h) w is there = absurd (let e : Half ≡ Full = w in cc)
read_code bytes at i (code.Full a b) w is there =
    let long : is_long (half_at bytes at) ≡ true = ap is_long there.0 ∙ is.2 in
    record {
      long = long;
      there =
          ap (λ (t : Bool). decode_given Outside (half_at bytes at) (cond t (Some (half_at bytes (at + 2))) None)) long
          ∙ ap (λ (x : ℕ). decode Outside x (half_at bytes (at + 2))) there.0 ∙ ap (λ (y : ℕ). decode Outside a y) there.1 ∙ is.3;
    }

-- ALL OF THEM

module _ (o h : ObjectParts) (f : FlowParts) (l : LayoutParts) (can : CanEmit o f l) where
  takes_at : (k n : ℕ) (u : PlacedParts) (r : Reloc) (e : slice_get l.units k ≡ Some u) (c : Copy) → Contains (unit_copies u) c → copy_carries c ≡ true → u.unit.reloc ≡ Some n → slice_get o.relocs n ≡ Some r → TakesReloc o r c.step
  takes_at k n u r e c among carried named there =
      let i = copy_in o f l can k u e c among in
      let s = of_step u.unit.seq.steps i.index c.step i.step in
      can.relocs k n u r c.step e named there (contains_at u.unit.seq.steps s.index c.step s.there) carried

  -- a copy that carries one takes four bytes
  pub four_bytes : (k n : ℕ) (u : PlacedParts) (r : Reloc) (e : slice_get l.units k ≡ Some u) (c : Copy) → Contains (unit_copies u) c → copy_carries c ≡ true → u.unit.reloc ≡ Some n → slice_get o.relocs n ≡ Some r → width_of c.code ≡ Full
  four_bytes k n u r e c among carried named there =
      let takes = takes_at k n u r e c among carried named there in
      is_full c.step (carrying c.step r.kind carried takes.fits) (width_of c.code) (copy_in o f l can k u e c among).long

  one_carried : HaveCodes h l → (k n : ℕ) (u : PlacedParts) (r : Reloc) (e : slice_get l.units k ≡ Some u) (c : Copy) → Contains (unit_copies u) c → copy_carries c ≡ true → u.unit.reloc ≡ Some n → slice_get o.relocs n ≡ Some r
      → IsCarried o h r u.unit.section (laid_place u) (carrier l u c)
  one_carried codes k n u r e c among carried named there =
      let takes = takes_at k n u r e c among carried named there in
      let i = copy_in o f l can k u e c among in
      let wide = four_bytes k n u r e c among carried named there in
      let placed = placed_as o r (laid_places l) u.unit n named (laid_place u) c.at c.step takes (carrying c.step r.kind carried takes.fits) in
      let kind = kind_placed (laid_places l) u.unit (laid_place u) c.at c.step r.kind in
      let it : Instr = placed_instr (laid_places l) u.unit (laid_place u) c.at c.step in
      let read = read_code (bytes_of h u.unit.section) c.at it c.code wide i.first.of.1 (codes k u c e among) in
      let high = i.high in
      record {
        behind_start = i.low;
        before_end = subst (λ (w : Width). c.at + bytes_of_width w ≤ u.start + u.length) wide high;
        there = read.there;
        long = read.long;
        sense = ap is_jump kind ∙ takes.sense;
        fits = ap (λ (z : RelocKind). fits_kind z true it) kind ∙ placed.fits;
        number = placed.number;
      }

  pub are_carried : HaveCodes h l → AreCarried o h f (laid_places l) (all_carriers l)
  are_carried codes = record {
    count = length-map l.units (carriers_of l) ∙ can.count;
    each = λ x v all c n r here one named there.
        let at = place_of (zip (zip f.points (map laid_place l.units)) (all_carriers l)) ((x, v), all) here in
        let parts = zip_parts (zip f.points (map laid_place l.units)) (all_carriers l) at.0 ((x, v), all) at.1 in
        let pair = zip_parts f.points (map laid_place l.units) at.0 (x, v) parts.0 in
        let u = map_at laid_place l.units at.0 v pair.1 in
        let same : carriers_of l u.0 ≡ all = same_Some (carriers_of l u.0) all (sym (slice_get-map (carriers_of l) l.units at.0 ∙ ap (option_map (carriers_of l)) u.1) ∙ parts.1) in
        let from = contains_map (carrier l u.0) (filter copy_carries (unit_copies u.0)) c (subst (λ (cs : List Carrier). Contains cs c) (sym same) one) in
        let kept = contains_filter copy_carries (unit_copies u.0) from.0 from.1 in
        let is = can.each at.0 x u.0 pair.0 u.1 in
        subst (λ (d : Carrier). IsCarried o h r x.section v d) from.2
        (subst (λ (w : UnitPlace). IsCarried o h r x.section w (carrier l u.0 from.0)) u.2
        (subst (λ (j : ℕ). IsCarried o h r j (laid_place u.0) (carrier l u.0 from.0)) is.section
        (one_carried codes at.0 n u.0 r u.1 from.0 kept.0 kept.1 (is.reloc ∙ named) there)));
  }
