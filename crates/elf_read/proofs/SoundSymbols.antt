-- In a file without faults of its symbols every symbol is sound.
use Rattle.std.proofs.Common.{◌≡◌, ◌<◌, ℕ, ◌+◌, false, List, inl, inr}
use Rattle.std.proofs.lemmas.Bool.{cases_lt}
use Rattle.elf_model.specs.declared.refusals.Limit.{Limit}
use Rattle.elf_model.specs.declared.refusals.Refusal.TheVariants.{BadSymbol}
use Rattle.elf_model.specs.Fields.{half_at}
use Rattle.elf_model.specs.Files.{header_count}
use Rattle.elf_read.specs.Faults.{Fault, IsSymbolAt, names_no_section}
use Rattle.elf_read.specs.Faults.Fault.{other_binding, other_symbol_type, late_local, bad_index, bad_value}
use Rattle.elf_read.specs.SymbolFaults.{AreSymbols}
use Rattle.elf_read.proofs.Tabled.{le_stable, eq_stable}

home_of : (b : List ℕ) (l : Limit) → ((s o : ℕ) → Fault b l BadSymbol s o → ⊥) → (t k e : ℕ) → IsSymbolAt b t k e → names_no_section (half_at b (e + 14)) ≡ false → (half_at b (e + 14) < header_count b) × (half_at b (e + 14) < 0xFF00)
home_of b l none t k e at home =
    let index = half_at b (e + 14) in (
      elim (cases_lt index (header_count b)) [ inl lt ↦ lt | inr le ↦ absurd (none _ _ (bad_index t k e at home (inl le))) ],
      elim (cases_lt index 0xFF00) [ inl lt ↦ lt | inr le ↦ absurd (none _ _ (bad_index t k e at home (inr le))) ],
    )

pub sound_symbols : (b : List ℕ) (l : Limit) → ((s o : ℕ) → Fault b l BadSymbol s o → ⊥) → AreSymbols b
sound_symbols b l none = record {
  bind = λ t k e at. le_stable _ _ (λ lt. none _ _ (other_binding t k e at lt));
  kind = λ t k e at. le_stable _ _ (λ lt. none _ _ (other_symbol_type t k e at lt));
  locals_first = λ t j d k e lt early late second. eq_stable _ _ (λ first. none _ _ (late_local t j d k e lt early late first second));
  home = home_of b l none;
  value = λ t k e at home.
      let there = home_of b l none t k e at home in
      le_stable _ _ (λ lt. none _ _ (bad_value t k e at home there.0 there.1 lt));
}
