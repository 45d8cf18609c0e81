-- A call of the next function, and the address that it gives to return to.
use Rattle.std.proofs.Common.{◌≡◌, ℕ, ◌+◌, ◌*◌, ◌/◌, ◌%◌, ◌^◌, ◌<◌, pos, List, Ok, refl, arith}
use Rattle.std.proofs.lemmas.List.Elements.{All-nil}
use Rattle.mark_word.specs.declared.marks.Mark.TheVariants.{Return}
use Rattle.mark_word.specs.Words.{Word, Cell}
use Rattle.thumb_instr.specs.declared.instructions.Instr.{Instr}
use Rattle.thumb_instr.specs.declared.instructions.Instr.TheVariants.{Call}
use Rattle.thumb_table.specs.Parts.{CodeBytes}
use Rattle.thumb_table.specs.States.{at, Site, read}
use Rattle.thumb_table.specs.Effects.{change}
use Rattle.thumb_table.specs.Ordinary.{IsPlain, IsOrdinaryUse}
use Rattle.thumb_table.specs.Steps.{settled}
use Rattle.gen_runs.proofs.Standing.{Numbers, core, site as site_at}

abbrev pub calls_on : Instr
calls_on = Call (record { offset = pos 2 })

abbrev pub link_of : ℕ → Word
link_of bits = record { bits = bits; mark = Return bits }

pub call_changes : (code : CodeBytes) (a next to bits : ℕ) (w : Numbers) (sp : ℕ) (lr : Word) (cells : List Cell) → a + 6 ≡ to → to < 2 ^ 32 → a % 2 ≡ 0 → bits ≡ a + 5
    → settled next (core w sp lr cells) (change calls_on (site_at code calls_on a) (core w sp lr cells)) ≡ Ok (at to (core w sp (link_of bits) cells))
unfolding change
call_changes code a next to bits w sp lr cells e small even eb =
    let there : (a + 4 + 2) % 2 ^ 32 ≡ to = omega arith in
    let back : (a + 4) / 2 * 2 + 1 ≡ bits = omega arith in
    rw (there, back) refl

pub call_ordinary : (site : Site) (w : Numbers) (sp : ℕ) (lr : Word) (cells : List Cell) → IsOrdinaryUse calls_on site (core w sp lr cells)
call_ordinary site w sp lr cells = record { numbers = All-nil (λ r. IsPlain (read (core w sp lr cells) r).mark); proper = tt }
