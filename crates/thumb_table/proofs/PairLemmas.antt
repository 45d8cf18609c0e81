-- What transfers of two words change.
use Rattle.std.proofs.Common.{◌≡◌, ℕ, ◌+◌, ◌++◌, true, false, [], ◌∷◌, Option, refl, append-nil}
use Rattle.mark_word.specs.Words.{Word}
use Rattle.mark_word.specs.Marks.{pieces}
use Rattle.thumb_instr.specs.declared.instructions.Instr.TheVariants.{Pair}
use Rattle.thumb_instr.specs.Fields.{PairFields}
use Rattle.thumb_table.specs.declared.cores.Core.{Core as Registers}
use Rattle.thumb_table.specs.Parts.{Memory}
use Rattle.thumb_table.specs.States.{Site, read, unchanged, upright}
use Rattle.thumb_table.specs.Effects.{access_address, base_write, pair_place, on_words, from, word_at, writing, change}
use Rattle.thumb_table.specs.CoreStates.{core_of, alone}
use Rattle.thumb_table.specs.Views.{base_list, pair_outcome}
use Rattle.thumb_table.proofs.AccessLemmas.{address_alone, base_alone}

pub pair_change : (i : PairFields) (site : Site) (s : Registers) (m : Memory) (a : ℕ) → a ≡ access_address i.n (pair_place i.index i.up i.imm) (alone s)
    → change (Pair i) site (core_of s m) ≡ on_words m a 8 (pair_outcome i a (core_of s m))
unfolding change
pair_change i site s m a e = rw (address_alone i.n (pair_place i.index i.up i.imm) s m, ← e) refl

pub pair_store : (i : PairFields) (a : ℕ) (s : Registers) (m : Memory) (n : ℕ) (base : Option ℕ) (t u : Word) → n ≡ i.n → base_list i.n base ≡ base_write i.n (pair_place i.index i.up i.imm) (alone s)
    → i.load ≡ false → t ≡ read (alone s) i.t → u ≡ read (alone s) i.u
    → pair_outcome i a (core_of s m) ≡ upright (record unchanged { regs = base_list n base; cells = from a (pieces t) ++ from (a + 4) (pieces u) })
pair_store i a s m n base t u en eb load et eu = rw (en, base_alone i.n (pair_place i.index i.up i.imm) s m, ← eb, load, ← et, ← eu, append-nil (base_list i.n base)) refl

pub pair_load : (i : PairFields) (a : ℕ) (s : Registers) (m : Memory) (n rt ru : ℕ) (base : Option ℕ) (t u : Word) → n ≡ i.n → base_list i.n base ≡ base_write i.n (pair_place i.index i.up i.imm) (alone s)
    → i.load ≡ true → rt ≡ i.t → ru ≡ i.u → t ≡ (word_at m a).word → u ≡ (word_at m (a + 4)).word
    → pair_outcome i a (core_of s m) ≡ upright (writing (base_list n base ++ ((rt, t) ∷ (ru, u) ∷ [])))
pair_load i a s m n rt ru base t u en eb load er es et eu = rw (en, base_alone i.n (pair_place i.index i.up i.imm) s m, ← eb, load, er, es, ← et, ← eu) refl
