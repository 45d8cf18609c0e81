-- An object has one list of ranges at most, and is refused it for one reason.
use Rattle.std.proofs.Common.{◌≡◌, ℕ, ◌-◌, true, false, List, [], ◌∷◌, get_or, refl, sym, ap, ◌∙◌, subst, arith}
use Rattle.std.specs.List.{list_all}
use Rattle.std.proofs.lemmas.Bool.{and_parts}
use Rattle.std.proofs.lemmas.Bool.Decides.{nat_tests}
use Rattle.elf_model.specs.declared.refusals.Refusal.{Refusal}
use Rattle.elf_model.specs.declared.refusals.Refusal.TheVariants as refusal
use Rattle.elf_model.specs.declared.refusals.Spot.{Spot}
use Rattle.elf_model.specs.Objects.{ObjectParts}
use Rattle.elf_model.specs.Refusals.{number_of}
use Rattle.elf_model.proofs.Elements.{all_at, place_of}
use Rattle.code_ranges.specs.declared.ranges.Range.{Range}
use Rattle.code_ranges.specs.CodeRanges.{RangeFault, IsRangeRefusal, comes_before, is_below, rise, AreRanges}
use Rattle.code_ranges.specs.CodeRanges.RangeFault.{no_mapping, arm_range, arm_function}
use Rattle.code_ranges.proofs.InOrder.{Rises, through, one_list}
use Rattle.code_ranges.proofs.SpotFacts.{tied_section, tied_offset, tied_number}

never_below : (a b : Range) → is_below a b ≡ true → is_below b a ≡ true → ⊥
never_below a b h k = grind (arith, nat_tests)

rises_ranges : (rs : List Range) → rise rs ≡ true → Rises (λ (a b : Range). is_below a b ≡ true) rs
rises_ranges [] h = tt
rises_ranges (r ∷ rs) h =
    let both = and_parts (list_all (is_below r) rs) (rise rs) h in
    (λ z there. let at = place_of rs z there in all_at (is_below r) rs at.0 z both.0 at.1, rises_ranges rs both.1)

pub ranges_once : (o : ObjectParts) (r s : List Range) → AreRanges o r → AreRanges o s → r ≡ s
ranges_once o r s a b = one_list (λ (x y : Range). is_below x y ≡ true) never_below r s (rises_ranges r a.order) (rises_ranges s b.order) (λ z. through (a.exact z) (b.exact z))

-- the refusals of ranges and flows, by their numbers
abbrev pub named : ℕ → Refusal
named k = get_or
    (refusal.NoMapping ∷ refusal.ArmCode ∷ refusal.Unknown ∷ refusal.Unpredictable ∷ refusal.SupervisorCall ∷ refusal.TableBranch ∷ refusal.ReadsAndSetsFlags ∷ refusal.SystemInstr ∷ refusal.PcOperand ∷ refusal.RelocKind ∷ refusal.IntoMiddle ∷ refusal.FallsOff ∷ [])
    (k - 9) refusal.NoEntry

abbrev pub IsNamed : Refusal → Type 0
IsNamed r = named (number_of r) ≡ r

pub named_as : (r q : Refusal) → r ≡ q → IsNamed q → IsNamed r
named_as r q e h = subst (λ (z : Refusal). IsNamed z) (sym e) h

pub named_range : (o : ObjectParts) (r : Refusal) (j x : ℕ) → RangeFault o r j x → IsNamed r
named_range o _ _ _ (no_mapping j s at code bytes none) = refl
named_range o _ _ _ (arm_range j start end range) = refl
named_range o _ _ _ (arm_function k j f s at kind home clear there code) = refl

pub same_fields : (s t : Spot) → s.refusal ≡ t.refusal → s.file ≡ t.file → s.section ≡ t.section → s.offset ≡ t.offset → s ≡ t
same_fields s t a b c d = λ i. record { refusal = a i; file = b i; section = c i; offset = d i }

pub same_spot : (s t : Spot) → IsNamed s.refusal → IsNamed t.refusal → s.file ≡ 0 → t.file ≡ 0 → comes_before s.refusal s.section s.offset t ≡ false → comes_before t.refusal t.section t.offset s ≡ false → s ≡ t
same_spot s t h k f g p q =
    let number : number_of s.refusal ≡ number_of t.refusal = tied_number s.section s.offset (number_of s.refusal) t.section t.offset (number_of t.refusal) p q in
    same_fields s t (sym h ∙ ap named number ∙ k) (f ∙ sym g) (tied_section s.section s.offset (number_of s.refusal) t.section t.offset (number_of t.refusal) p q)
    (tied_offset s.section s.offset (number_of s.refusal) t.section t.offset (number_of t.refusal) p q)

pub range_refusal_once : (o : ObjectParts) (s t : Spot) → IsRangeRefusal o s → IsRangeRefusal o t → s ≡ t
range_refusal_once o s t a b =
    same_spot s t (named_range o s.refusal s.section s.offset a.fault) (named_range o t.refusal t.section t.offset b.fault) a.file b.file (b.first s.refusal s.section s.offset a.fault) (a.first t.refusal t.section t.offset b.fault)
