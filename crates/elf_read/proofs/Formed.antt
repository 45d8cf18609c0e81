-- A file without faults is whole.
use Rattle.std.proofs.Common.{◌≡◌, ◌≢◌, ◌≤◌, ℕ, ◌+◌, ◌/◌, List, [], ◌∷◌, length, inl, inr, arith, refl, ap, ◌∙◌}
use Rattle.std.proofs.lemmas.Bool.{cases_Bool, both_ways}
use Rattle.elf_model.specs.declared.refusals.Limit.{Limit}
use Rattle.elf_model.specs.declared.refusals.Refusal.TheVariants.{NotElf, NotArmRel, BadTable, BadName, BadSymbol, BadReloc}
use Rattle.elf_model.specs.Fields.{half_at, word_at}
use Rattle.elf_model.specs.Files.{IsArmObject, HasTables}
use Rattle.elf_read.specs.FirstFaults.{IsFaultlessBelow}
use Rattle.elf_read.specs.Faults.{Fault, names_no_section}
use Rattle.elf_read.specs.Faults.Fault.{too_short, other_magic, other_class, other_order, other_type, other_machine, other_version, other_header_size, bad_symbol}
use Rattle.elf_read.specs.Keeping.{HasHomes, HasSymbols, flag_at, symbol_flags}
use Rattle.elf_read.specs.HeaderFaults.{IsTabled}
use Rattle.elf_read.specs.SymbolFaults.{AreSymbols}
use Rattle.elf_read.specs.Texts.{IsNamed}
use Rattle.elf_read.proofs.Tabled.{le_stable, eq_stable, tabled}
use Rattle.elf_read.proofs.Named.{named}
use Rattle.elf_read.proofs.SoundSymbols.{sound_symbols}
use Rattle.elf_read.proofs.KeptSymbols.{flag_from_kept, kept_from_flag}

list_stable : (xs ys : List ℕ) → (xs ≢ ys → ⊥) → xs ≡ ys
list_stable [] [] h = refl
list_stable [] (y ∷ ys) h = absurd (h (λ e. (cc)))
list_stable (x ∷ xs) [] h = absurd (h (λ e. (cc)))
list_stable (x ∷ xs) (y ∷ ys) h =
    let head : x ≡ y = eq_stable x y (λ n. h (λ e. n (cc))) in
    let tail : xs ≡ ys = list_stable xs ys (λ n. h (λ e. n (cc))) in
    ap (λ (z : ℕ). z ∷ xs) head ∙ ap (λ (zs : List ℕ). y ∷ zs) tail

-- the parts of a file without faults of the first five refusals
pub record IsFormed (b : List ℕ) : Type 0 where
  pub format : IsArmObject b
  pub tabled : IsTabled b
  pub named : IsNamed b
  pub symbols : AreSymbols b
  pub tables : HasTables b
  pub homes : HasHomes b

module _ (b : List ℕ) (l : Limit) (none : IsFaultlessBelow b l 6) where
  long : 52 ≤ length b
  long = le_stable 52 (length b) (λ s. none NotElf 0 0 (omega arith) (too_short s))

  formatted : IsArmObject b
  formatted = record {
    long = long;
    magic = list_stable _ _ (λ n. none NotElf 0 0 (omega arith) (other_magic n));
    class = eq_stable _ _ (λ n. none NotArmRel 0 4 (omega arith) (other_class n));
    order = eq_stable _ _ (λ n. none NotArmRel 0 5 (omega arith) (other_order n));
    relocatable = eq_stable _ _ (λ n. none NotArmRel 0 16 (omega arith) (other_type n));
    machine = eq_stable _ _ (λ n. none NotArmRel 0 18 (omega arith) (other_machine n));
    version = eq_stable _ _ (λ n. none NotArmRel 0 36 (omega arith) (other_version n));
  }

  tables_are : IsTabled b
  tables_are = tabled b l long (λ s o f. none BadTable s o (omega arith) f)

  names_are : IsNamed b
  names_are = named b l (λ s o f. none BadName s o (omega arith) f)

  symbols_are : AreSymbols b
  symbols_are = sound_symbols b l (λ s o f. none BadSymbol s o (omega arith) f)

  homes_are : HasHomes b
  homes_are t k e at = elim (cases_Bool (names_no_section (half_at b (e + 14)))) [ inl y ↦ inl y | inr n ↦ inr (symbols_are.home t k e at n).0 ]

  has_tables : HasTables b
  has_tables = record {
    table = λ some. (tables_are.listed some).inside;
    header_size = λ some. eq_stable _ _ (λ n. none BadTable 0 46 (omega arith) (other_header_size some n));
    section_names = tables_are.section_names;
    inside = λ h p q kind. tables_are.inside h (record { behind_null = p; there = q }) kind;
    one_symbol_table = tables_are.one_symbol_table;
    symbol_entries = tables_are.symbol_entries;
    reloc_entries = λ h k.
        let e = tables_are.reloc_entries h k in
        let t = tables_are.targets h k in
        (e.0, e.1, e.2, t.listed.behind_null, t.listed.there, t.no_table);
    names_end = λ h p q kind. names_are.sections h (record { behind_null = p; there = q }) kind;
    symbol_names_end = λ t k kind p q. names_are.symbols t k _ (record { table = kind; behind_null = p; there = q; place = refl });
  }

  pub formed : IsFormed b
  formed = record { format = formatted; tabled = tables_are; named = names_are; symbols = symbols_are; tables = has_tables; homes = homes_are }

-- without bad relocations each names a symbol that stays
pub has_symbols : (b : List ℕ) (l : Limit) → IsTabled b → HasHomes b → ((s o : ℕ) → Fault b l BadReloc s o → ⊥) → HasSymbols b
has_symbols b l t homes none h j r at some =
    elim (cases_Bool (flag_at (symbol_flags b) (word_at b (r + 4) / 256))) [
      | inl y ↦ kept_from_flag b t homes (word_at b (r + 4) / 256) y
      | inr n ↦ absurd (none h (r + 4) (bad_symbol h j r at some (λ k. both_ways _ n (flag_from_kept b t homes (word_at b (r + 4) / 256) k))))
    ]
