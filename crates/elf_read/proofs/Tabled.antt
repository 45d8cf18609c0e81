-- A file without faults of its headers has sound tables.
use Rattle.std.proofs.Common.{◌≡◌, ◌≢◌, ◌<◌, ◌≤◌, ℕ, List, length, inl, inr, sym, ◌∙◌}
use Rattle.std.proofs.lemmas.Bool.{false≢true, cases_lt, cases_eq, cases_Bool, cases_order}
use Rattle.elf_model.specs.declared.refusals.Limit.{Limit}
use Rattle.elf_model.specs.declared.refusals.Refusal.TheVariants.{BadTable}
use Rattle.elf_model.specs.Constants.{symtab, strtab}
use Rattle.elf_model.specs.Files.{IsKind}
use Rattle.elf_read.specs.Faults.{Fault, IsTarget}
use Rattle.elf_read.specs.Faults.Fault.{headers_outside, no_name_table, second_symtab, outside, uneven_symtab, uneven_rel, symtab_link, rel_link, rel_target, symtab_entry, rel_entry}
use Rattle.elf_read.specs.HeaderFaults.{has_kind, is_target, IsTabled}
use Rattle.elf_read.proofs.TableFaults.{kind_there, there_kind, target_there, there_target}

kind_stable : (b : List ℕ) (h kind : ℕ) → ((IsKind b h kind → ⊥) → ⊥) → IsKind b h kind
kind_stable b h kind f =
    elim (cases_Bool (has_kind b h kind)) [
      | inl there ↦ kind_there b h kind there
      | inr none ↦ absurd (f (λ k. false≢true (sym none ∙ there_kind b h kind k)))
    ]

target_stable : (b : List ℕ) (h : ℕ) → ((IsTarget b h → ⊥) → ⊥) → IsTarget b h
target_stable b h f =
    elim (cases_Bool (is_target b h)) [
      | inl there ↦ target_there b h there
      | inr none ↦ absurd (f (λ k. false≢true (sym none ∙ there_target b h k)))
    ]

pub le_stable : (m n : ℕ) → (n < m → ⊥) → m ≤ n
le_stable m n f = elim (cases_lt n m) [ inl lt ↦ absurd (f lt) | inr le ↦ le ]

pub eq_stable : (m n : ℕ) → (m ≢ n → ⊥) → m ≡ n
eq_stable m n f = elim (cases_eq m n) [ inl e ↦ e | inr ne ↦ absurd (f ne) ]

one_table : (b : List ℕ) (l : Limit) → ((s o : ℕ) → Fault b l BadTable s o → ⊥) → (h k : ℕ) → IsKind b h symtab → IsKind b k symtab → h ≡ k
one_table b l none h k p q =
    elim (cases_order h k) [
      | inl e ↦ e
      | inr apart ↦
          elim apart [
            | inl lt ↦ absurd (none _ _ (second_symtab h k lt p q))
            | inr gt ↦ absurd (none _ _ (second_symtab k h gt q p))
          ]
    ]

pub tabled : (b : List ℕ) (l : Limit) → 52 ≤ length b → ((s o : ℕ) → Fault b l BadTable s o → ⊥) → IsTabled b
tabled b l long none = record {
  long = long;
  listed = λ some. record { long = long; inside = le_stable _ _ (λ lt. none _ _ (headers_outside some lt)) };
  section_names = λ some. kind_stable b _ strtab (λ f. none _ _ (no_name_table some f));
  inside = λ h there kind. le_stable _ _ (λ lt. none _ _ (outside h there kind lt));
  one_symbol_table = one_table b l none;
  symbol_entries = λ h kind. (
    eq_stable _ _ (λ f. none _ _ (symtab_entry h kind f)),
    eq_stable _ _ (λ f. none _ _ (uneven_symtab h kind f)),
    kind_stable b _ strtab (λ f. none _ _ (symtab_link h kind f)),
  );
  reloc_entries = λ h kind. (
    eq_stable _ _ (λ f. none _ _ (rel_entry h kind f)),
    eq_stable _ _ (λ f. none _ _ (uneven_rel h kind f)),
    kind_stable b _ symtab (λ f. none _ _ (rel_link h kind f)),
  );
  targets = λ h kind. target_stable b _ (λ f. none _ _ (rel_target h kind f));
}
