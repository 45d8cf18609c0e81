-- The steps that carry a point's relocation take it.
use Rattle.std.proofs.Common.{◌≡◌, ℕ, Bool, true, false, cond, [], ◌∷◌, refl, sym, ap, ◌∙◌, subst, inl, inr, arith, Option, Some, Ok}
use Rattle.std.specs.Prelude.{slice_get, Contains, ◌||◌, not, if◌then◌else◌, ◌^◌, ◌-◌}
use Rattle.std.proofs.lemmas.Bool.{cases_Bool, both_ways}
use Rattle.elf_model.specs.declared.objects.Reloc.{Reloc}
use Rattle.elf_model.specs.declared.objects.RelocKind.{RelocKind}
use Rattle.elf_model.specs.declared.objects.RelocKind.TheVariants.{ThmJump24, MovwAbs, MovtAbs, ThmJump19, ThmJump11, ThmJump8}
use Rattle.elf_model.specs.Fields.{half_at}
use Rattle.elf_model.specs.Objects.{ObjectParts}
use Rattle.elf_model.specs.Ranges.{is_long}
use Rattle.elf_model.proofs.Elements.{contains_cases, contains_none, place_of}
use Rattle.thumb_instr.specs.declared.instructions.Instr.{Instr}
use Rattle.thumb_instr.specs.declared.instructions.Instr.TheVariants as instr
use Rattle.thumb_instr.specs.Fields.{HalfFields, BranchFields}
use Rattle.reloc_places.specs.Starts.{bytes_of}
use Rattle.reloc_places.specs.Relocations.{may_fail, is_jump, fits_kind, number_in, addend}
use Rattle.flow_recover.specs.declared.flows.Point.{Point}
use Rattle.hardened_form.specs.Carriers.{kind_on}
use Rattle.hardened_form.specs.Code.{reloc_of}
use Rattle.hardened_form.specs.Turns.{is_turned, zero_addend, new_addend}
use Rattle.seq_core.specs.declared.steps.Step.{Step}
use Rattle.seq_core.specs.declared.steps.Goal.{Goal}
use Rattle.seq_core.specs.declared.steps.Goal.TheVariants as goal
use Rattle.seq_core.specs.Series.{Series}
use Rattle.branch_layout.specs.Given.{goals_of}
use Rattle.branch_layout.specs.Leading.{goes_to_target}
use Rattle.emit_object.specs.Emitting.{TakesReloc}
use Rattle.emit_object.specs.UnitCopies.{is_half, is_target, carries}
use Rattle.point_units.specs.Units.{left_by, left_instr}
use Rattle.unit_layouts.proofs.LeftFacts.{left_goes}
use Rattle.unit_layouts.proofs.RightInstrs.{FitsPlace}
use Rattle.unit_layouts.proofs.SequenceFacts.{SequenceGives}

-- of a branch or call only a kind of these is
jump_kind : (k : RelocKind) (long : Bool) (i : Instr) → fits_kind k long i ≡ true → goes_to_target i ≡ true → is_jump k ≡ true
jump_kind k long i fits goes = grind arith

-- a kind of MOVW or MOVT is of the same one with any number
half_kind : (k : RelocKind) (long : Bool) (h i : HalfFields) → h.top ≡ i.top → fits_kind k long (instr.Half h) ≡ true → fits_kind k true (instr.Half i) ≡ true
half_kind MovwAbs long h i same fits = ap (λ (b : Bool). not b) (sym same) ∙ fits
half_kind MovtAbs long h i same fits = sym same ∙ fits
half_kind ThmJump24 true h i same fits = absurd (cc)
half_kind ThmJump24 false h i same fits = absurd (cc)
half_kind ThmJump19 true h i same fits = absurd (cc)
half_kind ThmJump19 false h i same fits = absurd (cc)
half_kind ThmJump11 true h i same fits = absurd (cc)
half_kind ThmJump11 false h i same fits = absurd (cc)
half_kind ThmJump8 true h i same fits = absurd (cc)
half_kind ThmJump8 false h i same fits = absurd (cc)
half_kind k long h i same fits = absurd (cc)

takes_branch : (b : Bool) (k : RelocKind) (i : BranchFields) → may_fail i.cond ≡ b → (is_jump (if b then ThmJump19 else ThmJump24) ≡ true) × (fits_kind (if b then ThmJump19 else ThmJump24) true (instr.Branch i) ≡ true)
takes_branch true k i e = (refl, e)
takes_branch false k i e = (refl, ap not e)

-- what has the target for its goal is a branch or a call, and takes each kind of these
takes_jump : (o : ObjectParts) (r : Reloc) (s : Step) → Contains (goals_of s.instr) goal.Target → is_jump r.kind ≡ true → TakesReloc o r s
takes_jump o r s goals jump = record { sense = (made s.instr goals).0 ∙ sym jump; fits = (made s.instr goals).1; number = λ no. absurd (both_ways (is_jump r.kind) no jump) }
  where
    nowhere : (g : Goal) → (g ≡ goal.Target → ⊥) → Contains (g ∷ []) goal.Target → ⊥
    nowhere g other among = elim (contains_cases g [] goal.Target among) [ inl e ↦ other e | inr none ↦ contains_none goal.Target none ]

    made : (i : Instr) → Contains (goals_of i) goal.Target → (is_jump (kind_on i r.kind) ≡ true) × (fits_kind (kind_on i r.kind) true i ≡ true)
    made (instr.Branch i) among = takes_branch (may_fail i.cond) r.kind i refl
    made (instr.Call i) among = (refl, refl)
    made (instr.ZeroBranch i) among = absurd (nowhere goal.End (λ e. cc) among)
    made (instr.Adr i) among = absurd (nowhere goal.Landing (λ e. cc) among)
    made (instr.Literal i) among = absurd (nowhere goal.Word (λ e. cc) among)
    made i among = absurd (nowhere goal.Nowhere (λ e. cc) among)

-- MOVW and MOVT have the number that is left
module _ (o : ObjectParts) (x : Point) (r : Reloc) (place : FitsPlace o x r) where
  takes_half : (s : Step) (h i : HalfFields) → x.instr ≡ instr.Half h → h.top ≡ i.top → s.instr ≡ instr.Half i → (is_jump r.kind ≡ false → number_in (Ok (instr.Half i)) ≡ new_addend o r) → TakesReloc o r s
  takes_half s h i form top is number =
      let fits = half_kind r.kind (is_long (half_at (bytes_of o r.section) r.offset)) h i top (subst (λ (z : Instr). fits_kind r.kind (is_long (half_at (bytes_of o r.section) r.offset)) z ≡ true) form place.fits) in
      record {
        sense = ap (λ (z : Instr). is_jump (kind_on z r.kind)) is;
        fits = ap (λ (z : Instr). fits_kind (kind_on z r.kind) true z) is ∙ fits;
        number = λ no. ap (λ (z : Instr). number_in (Ok z)) is ∙ number no;
      }

  takes_left : (s : Step) (h : HalfFields) → x.instr ≡ instr.Half h → (b : Bool) → is_turned o r ≡ b → s.instr ≡ (if b then instr.Half (record h { imm = 0 }) else instr.Half h) → TakesReloc o r s
  takes_left s h form true turned is =
      takes_half s h (record h { imm = 0 }) form refl is
      (λ no. sym (ap (λ (b : Bool). cond b (zero_addend r) (addend (bytes_of o r.section) r)) turned ∙ ap (λ (b : Bool). cond b (2 ^ 32 - 4) 0) no))
  takes_left s h form false turned is =
      takes_half s h h form refl is
      (λ no. sym (ap (λ (b : Bool). cond b (zero_addend r) (addend (bytes_of o r.section) r)) turned ∙ place.number ∙ ap (λ (z : Instr). number_in (Ok z)) form))

  takes_own : (s : Step) (i : Instr) → x.instr ≡ i → is_half s.instr ≡ true → s.instr ≡ left_by o (Some r) i → TakesReloc o r s
  takes_own s (instr.Half h) form half is = takes_left s h form (is_turned o r) refl is
  takes_own s i form half is = absurd (let no : is_half i ≡ true = sym (ap is_half is) ∙ half in cc)

  pub step_takes : (copies : ℕ) (q : Series) (n : ℕ) → SequenceGives o copies x q → x.reloc ≡ Some n → slice_get o.relocs n ≡ Some r → (s : Step) → Contains q.steps s → carries s ≡ true → TakesReloc o r s
  step_takes copies q n gives reloc there s among carry = elim (cases_Bool (is_half s.instr)) [
    | inl half ↦
        let left : left_instr o x ≡ left_by o (Some r) x.instr = ap (λ (v : Option ℕ). left_by o (reloc_of o v) x.instr) reloc ∙ ap (λ (v : Option Reloc). left_by o v x.instr) there in
        takes_own s x.instr refl half (gives.half s among half ∙ left)
    | inr other ↦
        let k = place_of q.steps s among in
        let aims : is_target s.goal ≡ true = sym (ap (λ (b : Bool). b || is_target s.goal) other) ∙ carry in
        let goal = target_goal s.goal aims in
        let goes = sym (left_goes o (reloc_of o x.reloc) x.instr) ∙ (gives.aims k.0 s k.1).target goal in
        takes_jump o r s (subst (Contains (goals_of s.instr)) goal (gives.lead k.0 s k.1).goal) (jump_kind r.kind (is_long (half_at (bytes_of o r.section) r.offset)) x.instr place.fits goes)
  ]
    where
      target_goal : (g : Goal) → is_target g ≡ true → g ≡ goal.Target
      target_goal goal.Target e = refl
      target_goal g e = absurd (cc)
