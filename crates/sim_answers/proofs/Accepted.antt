-- An object with a flow has no fault: its relocations aren't wrong, and what they make of code is odd.
use Rattle.std.specs.Prelude.{◌≡◌, ℕ, ◌%◌, ◌||◌, Bool, true, false, Some, slice_get, refl}
use Rattle.std.proofs.Common.{arith, inl, inr}
use Rattle.std.proofs.lemmas.Bool.{both_ways, or_left, cases_order}
use Rattle.elf_model.specs.declared.objects.Reloc.{Reloc}
use Rattle.elf_model.specs.declared.objects.RelocKind.{RelocKind}
use Rattle.elf_model.specs.declared.objects.RelocKind.TheVariants.{Abs32, Target1, ThmCall, ThmJump24, MovwAbs, MovtAbs, ThmJump19, ThmJump11, ThmJump8, Other}
use Rattle.elf_model.specs.declared.objects.Home.{Home}
use Rattle.elf_model.specs.declared.objects.Home.TheVariants as homes
use Rattle.elf_model.specs.declared.refusals.Refusal.TheVariants as refusal
use Rattle.elf_model.specs.Fields.{half_at}
use Rattle.elf_model.specs.Objects.{ObjectParts}
use Rattle.elf_model.specs.Ranges.{is_long}
use Rattle.thumb_instr.specs.declared.instructions.Instr.{Instr}
use Rattle.reloc_places.specs.Starts.{bytes_of}
use Rattle.reloc_places.specs.Relocations.{is_word, is_half, is_jump, fits_kind, IsPlace, in_data, in_code, on_instr, IsRight, is_in_code, value_of}
use Rattle.flow_recover.specs.Flows.{FlowParts}
use Rattle.flow_recover.specs.FlowFaults.{relocation, arm_address}
use Rattle.flow_recover.specs.WholeFlows.{IsFlow}
use Rattle.sim_answers.specs.Forms.{FlowsAreAccepted}

-- the section of a home in code
pub code_home : (o : ObjectParts) (home : Home) → is_in_code o home ≡ true → (j : ℕ) × (home ≡ homes.Section j)
code_home o homes.Undefined c = absurd (both_ways false refl c)
code_home o homes.Absolute c = absurd (both_ways false refl c)
code_home o (homes.Section j) c = (j, refl)

word_or_half : (k : RelocKind) (long : Bool) (i : Instr) → fits_kind k long i ≡ true → is_jump k ≡ false → (is_word k || is_half k) ≡ true
word_or_half Abs32 long i h n = refl
word_or_half Target1 long i h n = refl
word_or_half MovwAbs long i h n = refl
word_or_half MovtAbs long i h n = refl
word_or_half ThmCall long i h n = absurd (both_ways true n refl)
word_or_half ThmJump24 long i h n = absurd (both_ways true n refl)
word_or_half ThmJump19 long i h n = absurd (both_ways true n refl)
word_or_half ThmJump11 long i h n = absurd (both_ways true n refl)
word_or_half ThmJump8 long i h n = absurd (both_ways true n refl)
word_or_half (Other m) long i h n = absurd (both_ways false refl h)

-- a relocation in its place makes an address or is of a branch
pub makes_address : (o : ObjectParts) (r : Reloc) → IsPlace o r → is_jump r.kind ≡ false → (is_word r.kind || is_half r.kind) ≡ true
makes_address o r (in_data s there datum word) n = or_left (is_word r.kind) (is_half r.kind) word
makes_address o r (in_code word at) n = or_left (is_word r.kind) (is_half r.kind) word
makes_address o r (on_instr end i at is fits) n = word_or_half r.kind (is_long (half_at (bytes_of o r.section) r.offset)) i fits n

-- no relocation is wrong
pub not_wrong : (o : ObjectParts) (f : FlowParts) → IsFlow o f → (k : ℕ) (r : Reloc) → slice_get o.relocs k ≡ Some r → (IsRight o k r → ⊥) → ⊥
not_wrong o f flow k r there wrong = flow.no_fault refusal.RelocKind r.section r.offset (relocation k r there wrong refl refl refl)

odd_value : (n : ℕ) → (n % 2 ≡ 0 → ⊥) → n % 2 ≡ 1
odd_value n other = elim (cases_order (n % 2) 0) [ inl z ↦ absurd (other z) | inr w ↦ elim w [ inl low ↦ absurd (omega arith) | inr high ↦ omega arith ] ]

pub flows_are_accepted : FlowsAreAccepted
flows_are_accepted o f flow k r s right names code straight =
    let home = code_home o s.home code in
    odd_value (value_of o r s) (λ even. flow.no_fault refusal.IntoMiddle r.section r.offset
    (arm_address r s home.0 (record { index = k; right = right; kind = makes_address o r right.place straight; names = names; home = home.1; code = code }) even refl refl refl))
