-- In a file without faults of its names every name ends.
use Rattle.std.proofs.Common.{◌≡◌, ◌<◌, ◌⊎◌, ℕ, zero, suc, ◌+◌, List, inl, inr, arith, subst}
use Rattle.std.proofs.lemmas.Bool.{cases_lt, cases_eq}
use Rattle.elf_model.specs.declared.refusals.Limit.{Limit}
use Rattle.elf_model.specs.declared.refusals.Refusal.TheVariants.{BadName}
use Rattle.elf_model.specs.Fields.{byte_at}
use Rattle.elf_model.specs.Files.{header, contents, EndsAt}
use Rattle.elf_read.specs.Faults.{Fault}
use Rattle.elf_read.specs.Faults.Fault.{section_unnamed, symbol_unnamed}
use Rattle.elf_read.specs.Texts.{IsNamed}

-- a NUL within the size, n bytes from a place
record NulAt (bytes : List ℕ) (size p n : ℕ) : Type 0 where
  pub inside : p + n < size
  pub ends : byte_at bytes (p + n) ≡ 0

nul_or_none : (bytes : List ℕ) (size p n : ℕ) → NulAt bytes size p n ⊎ (NulAt bytes size p n → ⊥)
nul_or_none bytes size p n =
    elim (cases_lt (p + n) size) [
      | inl lt ↦
          elim (cases_eq (byte_at bytes (p + n)) 0) [
            | inl e ↦ inl (record { inside = lt; ends = e })
            | inr other ↦ inr (λ x. other x.ends)
          ]
      | inr le ↦ inr (λ x. omega (arith, x.inside, le))
    ]

nul_below : (bytes : List ℕ) (size p m : ℕ) → ((n : ℕ) × (n < m) × NulAt bytes size p n) ⊎ ((n : ℕ) → n < m → NulAt bytes size p n → ⊥)
nul_below bytes size p zero = inr (λ n lt x. omega arith)
nul_below bytes size p (suc m) =
    elim (nul_below bytes size p m) [
      | inl before ↦ inl (before.0, omega (arith, before.1), before.2)
      | inr none ↦
          elim (nul_or_none bytes size p m) [
            | inl here ↦ inl (m, omega arith, here)
            | inr other ↦ inr (none_more bytes size p m none other)
          ]
    ]
  where
    none_more : (bytes : List ℕ) (size p m : ℕ) → ((n : ℕ) → n < m → NulAt bytes size p n → ⊥) → (NulAt bytes size p m → ⊥) → (n : ℕ) → n < suc m → NulAt bytes size p n → ⊥
    none_more bytes size p m none other n lt x =
        elim (cases_eq n m) [
          | inl same ↦ other (subst (λ (k : ℕ). NulAt bytes size p k) same x)
          | inr apart ↦ none n (omega arith) x
        ]

-- a text either ends or doesn't
pub ends_stable : (b : List ℕ) (t p : ℕ) → ((EndsAt b t p → ⊥) → ⊥) → EndsAt b t p
ends_stable b t p f =
    elim (nul_below (contents b t) (header b t).size p 4096) [
      | inl found ↦ (found.0, omega (arith, found.1), found.2.inside, found.2.ends)
      | inr none ↦ absurd (f (λ e. none e.0 (omega (arith, e.1)) (record { inside = e.2; ends = e.3 })))
    ]

pub named : (b : List ℕ) (l : Limit) → ((s o : ℕ) → Fault b l BadName s o → ⊥) → IsNamed b
named b l none = record {
  sections = λ h there kind. ends_stable b _ _ (λ f. none _ _ (section_unnamed h there kind f));
  symbols = λ t k e at. ends_stable b _ _ (λ f. none _ _ (symbol_unnamed t k e at f));
}
