-- From the lowest fault of each number to the first fault of all.
use Rattle.std.proofs.Common.{◌≡◌, ◌<◌, ◌≤◌, ℕ, ◌+◌, List, length, Some, None, inl, inr, arith, refl, subst}
use Rattle.std.proofs.lemmas.Bool.{cases_eq}
use Rattle.elf_model.specs.declared.refusals.Refusal.{Refusal}
use Rattle.elf_model.specs.declared.refusals.Refusal.TheVariants.{NotElf, NotArmRel, BadTable, BadName, BadSymbol}
use Rattle.elf_model.specs.declared.refusals.Limit.{Limit}
use Rattle.elf_model.specs.Refusals.{number_of}
use Rattle.elf_read.specs.declared.places.Place.{Place}
use Rattle.elf_read.specs.Faults.{Fault}
use Rattle.elf_read.specs.FirstFaults.{IsFirstBelow, spot_at, IsFaultlessBelow}
use Rattle.elf_read.specs.HeaderFaults.{IsTabled}
use Rattle.elf_read.specs.Places.{IsLowest}
use Rattle.elf_read.proofs.Tabled.{tabled, le_stable}
use Rattle.elf_read.specs.Faults.Fault.{too_short}

-- no other refusal has this one's number
abbrev pub IsOnly : Refusal → Type 0
IsOnly r = (q : Refusal) → number_of q ≡ number_of r → q ≡ r

pub only_elf : IsOnly NotElf
only_elf NotElf e = refl
only_elf _ e = absurd (omega (arith, e))

pub only_arm : IsOnly NotArmRel
only_arm NotArmRel e = refl
only_arm _ e = absurd (omega (arith, e))

pub only_table : IsOnly BadTable
only_table BadTable e = refl
only_table _ e = absurd (omega (arith, e))

pub only_name : IsOnly BadName
only_name BadName e = refl
only_name _ e = absurd (omega (arith, e))

pub only_symbol : IsOnly BadSymbol
only_symbol BadSymbol e = refl
only_symbol _ e = absurd (omega (arith, e))

some_number : (q : Refusal) → 1 ≤ number_of q
some_number NotElf = omega arith
some_number _ = omega arith

pub none_below : (b : List ℕ) (l : Limit) → IsFaultlessBelow b l 1
none_below b l q s o lt f = omega (arith, some_number q)

-- the lowest fault of the lowest number is the first
pub first_fault : (b : List ℕ) (l : Limit) (r : Refusal) (n : ℕ) (p : Place) → IsOnly r → number_of r < n → IsFaultlessBelow b l (number_of r) → IsLowest (Fault b l r) (Some p) → IsFirstBelow b l n (Some (spot_at r p))
first_fault b l r n p only low below lowest = (
  low,
  record {
    file = refl;
    fault = lowest.0;
    first = λ q s o f before.
        elim before [
          | inl lt ↦ below q s o lt f
          | inr same ↦ lowest.1 s o (subst (λ (x : Refusal). Fault b l x s o) (only q same.0) f) same.1
        ];
  },
)

pub none_more : (b : List ℕ) (l : Limit) (r : Refusal) → IsOnly r → IsFaultlessBelow b l (number_of r) → IsLowest (Fault b l r) None → IsFaultlessBelow b l (number_of r + 1)
none_more b l r only below none q s o lt f =
    elim (cases_eq (number_of q) (number_of r)) [
      | inl same ↦ none s o (subst (λ (x : Refusal). Fault b l x s o) (only q same) f)
      | inr other ↦ below q s o (omega arith) f
    ]

-- some limit, where a fault is the same under each
abbrev pub no_limit : Limit
no_limit = record { file = 0; sections = 0; symbols = 0; relocs = 0; code = 0 }

pub long_enough : (b : List ℕ) → ((l : Limit) → IsLowest (Fault b l NotElf) None) → 52 ≤ length b
long_enough b none = le_stable 52 (length b) (λ lt. none no_limit 0 0 (too_short lt))

pub tabled_by : (b : List ℕ) → 52 ≤ length b → ((l : Limit) → IsLowest (Fault b l BadTable) None) → IsTabled b
tabled_by b long none = tabled b no_limit long (none no_limit)
