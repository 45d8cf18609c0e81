-- The generated instructions are no branches, begin no IT blocks, and take no address from pc.
use Rattle.std.proofs.Common.{◌≡◌, ℕ, ◌+◌, ◌*◌, ◌<◌, Bool, true, false, refl, sym, ap, ◌∙◌}
use Rattle.std.proofs.lemmas.Bool.{true≢false}
use Rattle.thumb_instr.specs.declared.instructions.Instr.{Instr}
use Rattle.thumb_instr.specs.declared.instructions.Instr.TheVariants as instr
use Rattle.skip_machine.specs.Draws.{draws}
use Rattle.reloc_places.specs.Starts.{it_behind}
use Rattle.reloc_places.specs.Relocations.{is_bl}
use Rattle.flow_recover.specs.Aims.{is_branch, has_offset}
use Rattle.gen_flow.specs.GeneratedCode.{StandsAt}
use Rattle.gen_flow.specs.GeneratedCode.StandsAt.{first, work, next, back, last}
use Rattle.gen_flow.proofs.CodeInstrs.{drawn_each, drawn_no_call}

abbrev pub is_other : Instr → Bool
is_other (instr.Branch i) = false
is_other (instr.ZeroBranch i) = false
is_other (instr.It i) = false
is_other (instr.Adr i) = false
is_other (instr.Literal i) = false
is_other _ = true

pub stands_other : (seed count x : ℕ) (i : Instr) → StandsAt seed count x i → is_other i ≡ true
stands_other seed count x i (first k few place same) = ap is_other same
stands_other seed count x i (work k j few low place same) = ap is_other same ∙ drawn_each is_other true refl refl refl refl refl refl refl refl refl (draws (draws seed (3 * k)) (j + 1))
stands_other seed count x i (next k more place same) = ap is_other same
stands_other seed count x i (back k more place same) = ap is_other same
stands_other seed count x i (last k is place same) = ap is_other same

pub other_branch : (i : Instr) → is_other i ≡ true → is_branch i ≡ false
other_branch (instr.Branch i) h = absurd (true≢false (sym h))
other_branch (instr.ZeroBranch i) h = absurd (true≢false (sym h))
other_branch _ h = refl

pub other_offset : (i : Instr) → is_other i ≡ true → has_offset i ≡ is_bl i
other_offset (instr.Branch i) h = absurd (true≢false (sym h))
other_offset (instr.ZeroBranch i) h = absurd (true≢false (sym h))
other_offset _ h = refl

pub other_behind : (i : Instr) → is_other i ≡ true → it_behind i 0 ≡ 0
other_behind (instr.It i) h = absurd (true≢false (sym h))
other_behind _ h = refl

-- a call is that of a function that is not the last
pub called : (seed count x : ℕ) (i : Instr) → StandsAt seed count x i → is_bl i ≡ true → (k : ℕ) × (k + 1 < count) × (x ≡ 14 * k + 8)
called seed count x i (first k few place same) h = absurd (true≢false (sym h ∙ ap is_bl same))
called seed count x i (work k j few low place same) h = absurd (true≢false (sym h ∙ ap is_bl same ∙ drawn_no_call (draws (draws seed (3 * k)) (j + 1))))
called seed count x i (next k more place same) h = (k, more, place)
called seed count x i (back k more place same) h = absurd (true≢false (sym h ∙ ap is_bl same))
called seed count x i (last k is place same) h = absurd (true≢false (sym h ∙ ap is_bl same))
