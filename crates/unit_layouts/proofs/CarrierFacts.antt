-- Which steps of a sequence carry a relocation.
use Rattle.std.proofs.Common.{◌≡◌, ◌≤◌, ℕ, Bool, true, false, List, [], ◌∷◌, refl, sym, ap, ◌∙◌, inl, inr, arith}
use Rattle.std.specs.Prelude.{Contains, count_by, ◌&&◌, ◌==◌, not}
use Rattle.std.proofs.lemmas.Bool.{and_parts, both_ways, not-true}
use Rattle.elf_model.proofs.Elements.{contains_cases, contains_none}
use Rattle.thumb_instr.specs.declared.instructions.Instr.{Instr}
use Rattle.thumb_instr.specs.declared.instructions.Instr.TheVariants as instr
use Rattle.seq_core.specs.declared.classes.Class.{Class}
use Rattle.seq_core.specs.declared.classes.Class.TheVariants as class
use Rattle.seq_core.specs.declared.steps.Step.{Step}
use Rattle.seq_core.specs.declared.steps.Goal.TheVariants.{Nowhere}
use Rattle.thumb_instr.specs.Fields.{HalfFields}
use Rattle.thumb_instr.specs.Idempotence.{KeepsSources}
use Rattle.thumb_instr.specs.Sets.{reads_of, writes_of}
use Rattle.seq_core.specs.Classes.{IsOf}
use Rattle.seq_core.specs.Built.{through_one, through_two, as_steps}
use Rattle.seq_core.specs.Straight.{flagged, written_back}
use Rattle.seq_core.specs.Replaced.{leading, base_copied, long_summed, moved_list, popped, stack_stepped, register_called, zero_branched, replaced}
use Rattle.emit_object.specs.UnitCopies.{is_half, carries}

pub one_carrier : (c : Class) (copies : ℕ) (i : Instr) (qs : List ℕ) → count_by carries (replaced c copies i qs) ≤ 1
one_carrier c copies i qs = grind arith

-- no instruction is MOVW or MOVT
abbrev none_half : List Step → Bool
none_half [] = true
none_half (s ∷ steps) = not (is_half s.instr) && none_half steps

through_none : (copies : ℕ) (i : Instr) (q : ℕ) → is_half i ≡ false → none_half (as_steps copies (through_one i q)) ≡ true
through_none copies i q e = grind arith

two_none : (copies : ℕ) (i : Instr) (a b : ℕ) → none_half (as_steps copies (through_two i a b)) ≡ true
two_none copies i a b = grind arith

flagged_none : (copies : ℕ) (i : Instr) (q : ℕ) → none_half (as_steps copies (flagged i q)) ≡ true
flagged_none copies i q = grind arith

written_none : (copies : ℕ) (i : Instr) (q : ℕ) → none_half (as_steps copies (written_back i q)) ≡ true
written_none copies i q = grind arith

base_none : (copies : ℕ) (i : Instr) (q : ℕ) → none_half (as_steps copies (base_copied i q)) ≡ true
base_none copies i q = grind arith

long_none : (copies : ℕ) (i : Instr) (a b c : ℕ) → none_half (as_steps copies (long_summed i a b c)) ≡ true
long_none copies i a b c = grind arith

moved_none : (copies : ℕ) (i : Instr) (q : ℕ) → none_half (as_steps copies (moved_list i q)) ≡ true
moved_none copies i q = grind arith

popped_none : (copies : ℕ) (i : Instr) (q : ℕ) → none_half (as_steps copies (popped i q)) ≡ true
popped_none copies i q = grind arith

stack_none : (copies : ℕ) (i : Instr) (q : ℕ) → is_half i ≡ false → none_half (as_steps copies (stack_stepped i q)) ≡ true
stack_none copies i q e = grind arith

register_none : (copies : ℕ) (i : Instr) (qs : List ℕ) → none_half (register_called copies i qs) ≡ true
register_none copies i qs = grind arith

zero_none : (copies : ℕ) (i : Instr) → none_half (zero_branched copies i) ≡ true
zero_none copies i = grind arith

others_have_none : (c : Class) (copies : ℕ) (i : Instr) (qs : List ℕ) → is_half i ≡ false → none_half (replaced c copies i qs) ≡ true
others_have_none class.Twice copies i qs e = ap (λ (b : Bool). not b && true) e
others_have_none class.Through copies i (q ∷ []) e = through_none copies i q e
others_have_none class.Through copies i (a ∷ b ∷ []) e = two_none copies i a b
others_have_none class.ThroughFlags copies i (q ∷ []) e = flagged_none copies i q
others_have_none class.WriteBack copies i (q ∷ []) e = written_none copies i q
others_have_none class.BaseCopy copies i (q ∷ []) e = base_none copies i q
others_have_none class.LongSum copies i (a ∷ b ∷ d ∷ []) e = long_none copies i a b d
others_have_none class.Push copies i (q ∷ []) e = moved_none copies i q
others_have_none class.Pop copies i (q ∷ []) e = moved_none copies i q
others_have_none class.PopReturn copies i (q ∷ []) e = popped_none copies i q
others_have_none class.SpStep copies i (q ∷ []) e = stack_none copies i q e
others_have_none class.MultiBack copies i (q ∷ []) e = moved_none copies i q
others_have_none class.DirectCall copies i qs e = refl
others_have_none class.RegisterCall copies i qs e = register_none copies i qs
others_have_none class.RegisterJump copies i qs e = ap (λ (b : Bool). not b && true) e
others_have_none class.ZeroBranch copies i qs e = zero_none copies i
others_have_none c copies i qs e = refl

none_among : (steps : List Step) (s : Step) → none_half steps ≡ true → Contains steps s → is_half s.instr ≡ true → ⊥
none_among [] s none h half = contains_none s h
none_among (t ∷ steps) s none h half =
    let both = and_parts (not (is_half t.instr)) (none_half steps) none in
    elim (contains_cases t steps s h) [
      | inl e ↦ both_ways (is_half s.instr) (ap (λ (z : Step). is_half z.instr) (sym e) ∙ not-true (is_half t.instr) both.0) half
      | inr later ↦ none_among steps s both.1 later half
    ]

-- MOVW keeps its sources
keeps_low : (h : HalfFields) → h.top ≡ false → KeepsSources (instr.Half h)
unfolding reads_of writes_of
keeps_low h low k = ap (λ (b : Bool). (b && (k == h.d)) && (k == h.d)) low

half_own : (c : Class) (copies : ℕ) (h : HalfFields) (qs : List ℕ) (s : Step) → IsOf c (instr.Half h) → Contains (replaced c copies (instr.Half h) qs) s → s.instr ≡ instr.Half h
half_own class.Twice copies h qs s of among = elim (contains_cases (leading copies Nowhere (instr.Half h)) [] s among) [
  | inl e ↦ ap (λ (z : Step). z.instr) (sym e)
  | inr none ↦ absurd (contains_none s none)
]
half_own class.Through copies h qs s of among = absurd (of.0 (keeps_low h of.1))
half_own c copies h qs s of among = absurd (cc)

-- a MOVW or MOVT of a sequence is the instruction itself
pub halves_own : (c : Class) (copies : ℕ) (i : Instr) (qs : List ℕ) (s : Step) → IsOf c i → Contains (replaced c copies i qs) s → is_half s.instr ≡ true → s.instr ≡ i
halves_own c copies (instr.Half h) qs s of among half = half_own c copies h qs s of among
halves_own c copies i qs s of among half = absurd (none_among (replaced c copies i qs) s (others_have_none c copies i qs refl) among half)
