-- What moves the halves of numbers.
use Rattle.std.proofs.Common.{◌≡◌, ℕ, Bool, true, false, [], ◌∷◌, refl}
use Rattle.thumb_table.specs.declared.cores.Core.{Core as Registers}
use Rattle.thumb_table.specs.Parts.{Memory}
use Rattle.mark_word.specs.Words.{Word, plain}
use Rattle.thumb_instr.specs.Fields.{AdrFields}
use Rattle.thumb_instr.specs.declared.instructions.Instr.TheVariants.{Adr}
use Rattle.thumb_table.specs.Values.{moved}
use Rattle.thumb_table.specs.States.{Core, Site, upright}
use Rattle.thumb_table.specs.Effects.{change, writing, literal_base, half_word}
use Rattle.thumb_table.specs.CoreStates.{core_of, alone}

pub half_alone : (top : Bool) (d imm : ℕ) (site : Site) (s : Registers) (m : Memory) → half_word top d imm site (core_of s m) ≡ half_word top d imm site (alone s)
half_alone true d imm site s m = refl
half_alone false d imm site s m = refl

pub adr_change : (i : AdrFields) (site : Site) (x : Core) (d : ℕ) (w : Word) → d ≡ i.d → w ≡ plain (moved i.up (literal_base site) i.imm) → change (Adr i) site x ≡ upright (writing ((d, w) ∷ []))
unfolding change
adr_change i site x d w ed e = rw (ed, e) refl
