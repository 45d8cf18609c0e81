-- Calls of an entry start alike.
use Rattle.std.proofs.Common.{◌≡◌, ◌≢◌, ℕ, zero, suc, ◌+◌, ◌<◌, ◌≤◌, inl, ⊎_elim, List, [], ◌∷◌, length, refl, sym, subst, arith, IsTrue, get_or}
use Rattle.std.specs.Prelude.{◌==◌}
use Rattle.std.proofs.lemmas.Bool.{cases_eq, cases_lt, eq-eqb}
use Rattle.std.proofs.lemmas.List.{get_or_past}
use Rattle.mark_word.specs.Words.{Word, plain, bits_of, is_word}
use Rattle.mark_word.specs.declared.marks.Mark.TheVariants as mark
use Rattle.thumb_table.specs.Calls.{argument, start_regs, started}
use Rattle.sim_charts.specs.Charts.{Chart}
use Rattle.sim_charts.specs.Words.{SameBits}
use Rattle.sim_charts.specs.Alike.{by_chart, SameWord, SameMember}
use Rattle.sim_charts.specs.Starts.{CallsStartAlike}

argument_plain : (args : List ℕ) (k : ℕ) → (argument args k).mark ≡ mark.Plain
argument_plain [] k = refl
argument_plain (a ∷ rest) zero = refl
argument_plain (a ∷ rest) (suc k) = argument_plain rest k

abbrev reg : List ℕ → ℕ → ℕ → Word
reg args sp k = get_or (start_regs args sp) k (plain 0)

-- all but lr are numbers
plain_reg : (args : List ℕ) (sp k : ℕ) → k < 14 → (reg args sp k).mark ≡ mark.Plain
plain_reg args sp zero lt = argument_plain args 0
plain_reg args sp (suc zero) lt = argument_plain args 1
plain_reg args sp (suc (suc zero)) lt = argument_plain args 2
plain_reg args sp (suc (suc (suc zero))) lt = argument_plain args 3
plain_reg args sp (suc (suc (suc (suc zero)))) lt = refl
plain_reg args sp (suc (suc (suc (suc (suc zero))))) lt = refl
plain_reg args sp (suc (suc (suc (suc (suc (suc zero)))))) lt = refl
plain_reg args sp (suc (suc (suc (suc (suc (suc (suc zero))))))) lt = refl
plain_reg args sp (suc (suc (suc (suc (suc (suc (suc (suc zero)))))))) lt = refl
plain_reg args sp (suc (suc (suc (suc (suc (suc (suc (suc (suc zero))))))))) lt = refl
plain_reg args sp (suc (suc (suc (suc (suc (suc (suc (suc (suc (suc zero)))))))))) lt = refl
plain_reg args sp (suc (suc (suc (suc (suc (suc (suc (suc (suc (suc (suc zero))))))))))) lt = refl
plain_reg args sp (suc (suc (suc (suc (suc (suc (suc (suc (suc (suc (suc (suc zero)))))))))))) lt = refl
plain_reg args sp (suc (suc (suc (suc (suc (suc (suc (suc (suc (suc (suc (suc (suc zero))))))))))))) lt = refl
plain_reg args sp (suc (suc (suc (suc (suc (suc (suc (suc (suc (suc (suc (suc (suc (suc k)))))))))))))) lt = absurd (omega arith)

link_reg : (args : List ℕ) (sp : ℕ) → reg args sp 14 ≡ record { bits = 0x7FFFFFFF; mark = mark.Return 0x7FFFFFFF }
link_reg args sp = refl

count : (args : List ℕ) (sp : ℕ) → length (start_regs args sp) ≡ 15
count args sp = refl

same_reg : (chart : Chart) (args : List ℕ) (sp k : ℕ) → k < 15 → SameWord chart (reg args sp k) (reg args sp k)
same_reg chart args sp k lt = ⊎_elim
    (λ (e : k ≡ 14). subst (λ j. SameWord chart (reg args sp j) (reg args sp j)) (sym e) (inl (refl, refl)))
    (λ (ne : k ≢ 14). subst (λ m. SameBits (by_chart chart) m (reg args sp k).bits (reg args sp k).bits) (sym (plain_reg args sp k (omega arith))) refl)
    (cases_eq k 14)

marked_reg : (args : List ℕ) (sp k : ℕ) → IsTrue (is_word (reg args sp k))
marked_reg args sp k = ⊎_elim
    (λ (lt : k < 14). subst (λ m. IsTrue ((reg args sp k).bits == bits_of m (reg args sp k).bits)) (sym (plain_reg args sp k lt)) (eq-eqb _ _ refl))
    (λ (ge : 14 ≤ k). ⊎_elim
    (λ (e : k ≡ 14). subst (λ j. IsTrue (is_word (reg args sp j))) (sym e) refl)
    (λ (ne : k ≢ 14). subst (λ (w : Word). IsTrue (is_word w)) (sym (get_or_past (start_regs args sp) k (plain 0) (let z = count args sp in omega arith))) refl)
    (cases_eq k 14))
    (cases_lt k 14)

pub calls_start_alike : CallsStartAlike
calls_start_alike chart p memory other entry hard_entry args there clear placed live same cells = record {
  point = p;
  there = there;
  it = sym clear;
  placed = placed;
  agree = record {
    sound = record { plain = refl; marked = record { words = λ r. marked_reg args (memory.base + length memory.cells) r; cells = cells }; hard = refl; clear = refl };
    members = λ k l. member k;
    store = record { stack = member 13; memory = same };
  };
}
  where
    ends : memory.base + length memory.cells ≡ other.base + length other.cells
    ends = let a = same.base in let b = same.size in omega (arith, a, b)

    member : (k : ℕ) → SameMember chart k (started memory entry args).core (started other hard_entry args).core
    member k = record {
      word = λ lt. subst (λ sp. SameWord chart (reg args (memory.base + length memory.cells) k) (reg args sp k)) ends (same_reg chart args (memory.base + length memory.cells) k lt);
      n = λ e. refl;
      z = λ e. refl;
      c = λ e. refl;
      v = λ e. refl;
    }
