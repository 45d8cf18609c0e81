use Rattle.std.proofs.Common.{◌≡◌, ◌<◌, ℕ, true, length, get_or, subst}
use Rattle.std.specs.Prelude.{◌↔◌}
use Rattle.mark_word.specs.Words.{bare}
use Rattle.thumb_table.specs.States.{read}
use Rattle.thumb_table.specs.CoreStates.{alone}
use Rattle.thumb_table.specs.Parts.{Memory}
use Rattle.thumb_table.specs.declared.cores.Core.{Core}
use Rattle.skip_machine.specs.Machines.{state}
use Rattle.sim_charts.specs.Words.{SameCell}
use Rattle.sim_relation.specs.Same.{by_map, is_same_word}
use Rattle.sim_relation.proofs.SameTests.{all_tested}
use Rattle.sim_relation.proofs.sameness.same.Goals as goal

pub returns : goal.returns
returns c =
    let m = c.args.map.now in
    all_tested m (state c.args.plain.now) (state c.args.hard.now) c.are_all.result c.are_same_registers.result c.is_same_stack.result c.is_same_memory.result c.are_all.ensures
    (subst (λ (x : Core). (c.are_same_registers.result ≡ true) ↔ ((r : ℕ) → r < 12 → is_same_word m (read (alone x) r) (read (alone c.args.hard.now.core) r) ≡ true)) c.registers.ensures
    (subst (λ (y : Core). (c.are_same_registers.result ≡ true) ↔ ((r : ℕ) → r < 12 → is_same_word m (read (alone c.registers.result.now) r) (read (alone y) r) ≡ true)) c.registers-2.ensures c.are_same_registers.ensures))
    (subst (λ (x : Core). c.is_same_stack.result ≡ is_same_word m (read (alone x) 13) (read (alone c.args.hard.now.core) 13)) c.registers-3.ensures
    (subst (λ (y : Core). c.is_same_stack.result ≡ is_same_word m (read (alone c.registers-3.result.now) 13) (read (alone y) 13)) c.registers-4.ensures c.is_same_stack.ensures))
    (subst (λ (x : Memory). (c.is_same_memory.result ≡ true) ↔ ((c.args.hard.now.memory.base ≡ x.base) × (length c.args.hard.now.memory.cells ≡ length x.cells)
    × ((k : ℕ) → k < length x.cells → SameCell (by_map m) (get_or x.cells k (bare 0)) (get_or c.args.hard.now.memory.cells k (bare 0))))) c.memory.ensures
    (subst (λ (y : Memory). (c.is_same_memory.result ≡ true) ↔ ((y.base ≡ c.memory.result.now.base) × (length y.cells ≡ length c.memory.result.now.cells)
    × ((k : ℕ) → k < length c.memory.result.now.cells → SameCell (by_map m) (get_or c.memory.result.now.cells k (bare 0)) (get_or y.cells k (bare 0))))) c.memory-2.ensures c.is_same_memory.ensures))
