use Rattle.std.proofs.Common.{◌≡◌, ℕ, ◌/◌, ◌%◌, ◌^◌, ◌⊎◌, inl, inr, arith, refl, sym, ◌∙◌, Err}
use Rattle.thumb_instr.specs.declared.refusals.BadInstr.TheVariants.{Unknown}
use Rattle.thumb_instr.specs.declared.refusals.ItPlace.{ItPlace}
use Rattle.thumb_instr.specs.Patterns.{decoded}
use Rattle.thumb_instr.specs.HalfRows.{half_rows}
use Rattle.thumb_decode.specs.Groups.{half_group}
use Rattle.thumb_decode.proofs.Narrow.{half_rows_at}
use Rattle.thumb_decode.proofs.half_others.no_other.Goals as goal

none_183 : (h : ℕ) (place : ItPlace) → decoded 16 (half_group 8 183 place) h ≡ Err Unknown
unfolding half_group half_rows
none_183 h place = refl

none_184 : (h : ℕ) (place : ItPlace) → decoded 16 (half_group 8 184 place) h ≡ Err Unknown
unfolding half_group half_rows
none_184 h place = refl

no_row : (h : ℕ) (place : ItPlace) → h / 2 ^ 8 % 2 ^ 8 ≡ 183 ⊎ h / 2 ^ 8 % 2 ^ 8 ≡ 184 → decoded 16 (half_rows place) h ≡ Err Unknown
no_row h place (inl is) = half_rows_at 8 183 h place (omega arith) is ∙ none_183 h place
no_row h place (inr is) = half_rows_at 8 184 h place (omega arith) is ∙ none_184 h place

pub returns : goal.returns
returns c = sym (no_row c.args.h c.args.place c.requires)
