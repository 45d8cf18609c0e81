-- The lowest place of a relation, found header by header.
use Rattle.std.proofs.Common.{◌≡◌, ◌<◌, ℕ, ◌+◌, inl, inr, Some, None, sym, subst, arith}
use Rattle.std.proofs.lemmas.Bool.{cases_eq}
use Rattle.elf_read.specs.declared.places.Place.{Place}
use Rattle.elf_read.specs.Places.{IsLowest}

-- it holds at no header below h
abbrev pub NoneUnder : (ℕ → ℕ → Type 0) → ℕ → Type 0
NoneUnder P h = (s o : ℕ) → s < h → P s o → ⊥

pub under_more : (P : ℕ → ℕ → Type 0) (h : ℕ) → NoneUnder P h → ((o : ℕ) → P h o → ⊥) → NoneUnder P (h + 1)
under_more P h none here s o l p = elim (cases_eq s h) [ inl e ↦ here o (subst (λ (k : ℕ). P k o) e p) | inr n ↦ none s o (omega (arith, n)) p ]

pub lowest_at : (P : ℕ → ℕ → Type 0) (h d : ℕ) → NoneUnder P h → P h d → ((o : ℕ) → P h o → o < d → ⊥) → (p : Place) → p.section ≡ h → p.offset ≡ d → IsLowest P (Some p)
lowest_at P h d none at least p e f = (
  subst (λ (s : ℕ). P s p.offset) (sym e) (subst (λ (o : ℕ). P h o) (sym f) at),
  λ s o q below. elim below [
    | inl l ↦ none s o (omega (arith, e)) q
    | inr b ↦ least o (subst (λ (k : ℕ). P k o) (omega (arith, e, b.0)) q) (omega (arith, f, b.1))
  ],
)

pub lowest_none : (P : ℕ → ℕ → Type 0) (n : ℕ) → NoneUnder P n → ((s o : ℕ) → P s o → s < n) → IsLowest P None
lowest_none P n none all s o p = none s o (all s o p) p
