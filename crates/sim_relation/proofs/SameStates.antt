-- The same by two relations of addresses, of which each has what the other has.
use Rattle.std.specs.Prelude.{ℕ, List, get_or, Option, Some, None}
use Rattle.elf_model.specs.declared.objects.MapRow.{MapRow}
use Rattle.mark_word.specs.Words.{bare}
use Rattle.mark_word.specs.declared.cells.Piece.{Piece}
use Rattle.mark_word.specs.declared.marks.Mark.{Mark}
use Rattle.mark_word.specs.declared.marks.Mark.TheVariants as mark
use Rattle.thumb_table.specs.Parts.{Image}
use Rattle.thumb_table.specs.States.{State, read}
use Rattle.sim_charts.specs.Words.{Taking}
use Rattle.sim_charts.specs.Words as words
use Rattle.sim_charts.specs.Maps.{MappedState}
use Rattle.sim_relation.specs.AddressMaps.{TakesEntry, TakesReturn, SameBits, SameByte, SameState}
use Rattle.sim_relation.specs.Same.{by_map, SameByRows}

module _ (plain hard : Image) (maps : List (List MapRow)) (t : Taking) where
  module _ (entries : (a b : ℕ) → t.entry a b → TakesEntry plain hard maps a b) (returns : (a b : ℕ) → t.back a b → TakesReturn plain hard maps a b) where
    bits_to : (m : Mark) (b h : ℕ) → words.SameBits t m b h → SameBits plain hard maps m b h
    bits_to mark.Plain b h s = s
    bits_to (mark.Entry a) b h s = entries a h s
    bits_to (mark.Return a) b h s = returns a h s
    bits_to (mark.Low a) b h s = (s.0, entries a s.0 s.1, s.2)

    byte_to : (p : Option Piece) (b h : ℕ) → words.SameByte t p b h → SameByte plain hard maps p b h
    byte_to None b h s = s
    byte_to (Some p) b h s = (s.0, s.1, bits_to p.mark s.0 s.1 s.2, s.3)

    pub state_to : (results : ℕ) (s u : State) → MappedState t results s u → SameState plain hard maps results s u
    state_to results s u e = record {
      memory = record {
        stack = bits_to (read s.core 13).mark (read s.core 13).bits (read u.core 13).bits e.stack;
        base = e.memory.base;
        size = e.memory.size;
        cells = λ k low. byte_to (get_or s.core.memory.cells k (bare 0)).piece (get_or s.core.memory.cells k (bare 0)).byte (get_or u.core.memory.cells k (bare 0)).byte (e.memory.cells k low);
      };
      registers = record {
        given = λ r low. bits_to (read s.core r).mark (read s.core r).bits (read u.core r).bits (e.given r low);
        kept = λ r low high. bits_to (read s.core r).mark (read s.core r).bits (read u.core r).bits (e.kept r low high);
      };
    }

  module _ (entries : (a b : ℕ) → TakesEntry plain hard maps a b → t.entry a b) (returns : (a b : ℕ) → TakesReturn plain hard maps a b → t.back a b) where
    bits_from : (m : Mark) (b h : ℕ) → SameBits plain hard maps m b h → words.SameBits t m b h
    bits_from mark.Plain b h s = s
    bits_from (mark.Entry a) b h s = entries a h s
    bits_from (mark.Return a) b h s = returns a h s
    bits_from (mark.Low a) b h s = (s.0, entries a s.0 s.1, s.2)

    byte_from : (p : Option Piece) (b h : ℕ) → SameByte plain hard maps p b h → words.SameByte t p b h
    byte_from None b h s = s
    byte_from (Some p) b h s = (s.0, s.1, bits_from p.mark s.0 s.1 s.2, s.3)

    pub state_from : (results : ℕ) (s u : State) → SameState plain hard maps results s u → MappedState t results s u
    state_from results s u e = record {
      given = λ r low. bits_from (read s.core r).mark (read s.core r).bits (read u.core r).bits (e.registers.given r low);
      kept = λ r low high. bits_from (read s.core r).mark (read s.core r).bits (read u.core r).bits (e.registers.kept r low high);
      stack = bits_from (read s.core 13).mark (read s.core 13).bits (read u.core 13).bits e.memory.stack;
      memory = record {
        base = e.memory.base;
        size = e.memory.size;
        cells = λ k low. byte_from (get_or s.core.memory.cells k (bare 0)).piece (get_or s.core.memory.cells k (bare 0)).byte (get_or u.core.memory.cells k (bare 0)).byte (e.memory.cells k low);
      };
    }

pub same_by_rows : SameByRows
same_by_rows plain hard maps m entries returns s u = (
  state_to plain hard maps (by_map m) (λ a b. (entries a b).0) (λ a b. (returns a b).0) 4 s u,
  state_from plain hard maps (by_map m) (λ a b. (entries a b).1) (λ a b. (returns a b).1) 4 s u,
)
