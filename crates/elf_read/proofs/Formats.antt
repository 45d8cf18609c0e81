-- Files of another format, and of another kind.
use Rattle.std.proofs.Common.{◌≡◌, ◌<◌, ◌⊎◌, ℕ, ◌/◌, ◌^◌, List, length, inl, inr, arith, refl}
use Rattle.elf_model.specs.declared.refusals.Limit.{Limit}
use Rattle.elf_model.specs.declared.refusals.Refusal.TheVariants.{NotElf, NotArmRel}
use Rattle.elf_model.specs.Fields.{byte_at, half_at, word_at}
use Rattle.std.proofs.lemmas.Bool.{cases_lt}
use Rattle.elf_read.specs.Faults.{Fault}
use Rattle.elf_read.specs.Faults.Fault.{too_short, other_magic, other_class, other_order, other_type, other_machine, other_version}
use Rattle.elf_read.specs.Formats.{IsElf}

pub elf_faultless : (b : List ℕ) (l : Limit) → IsElf b → (s o : ℕ) → Fault b l NotElf s o → ⊥
elf_faultless b l e s o (too_short h) = omega (arith, e.long)
elf_faultless b l e s o (other_magic h) = h e.magic

pub no_elf : (b : List ℕ) (l : Limit) → (IsElf b → ⊥) → Fault b l NotElf 0 0
no_elf b l none =
    elim (cases_lt (length b) 52) [
      | inl short ↦ too_short short
      | inr long ↦ other_magic (λ magic. none (record { long = long; magic = magic }))
    ]

pub elf_lowest : (b : List ℕ) (l : Limit) (s o : ℕ) → Fault b l NotElf s o → (s ≡ 0) × (o ≡ 0)
elf_lowest b l s o (too_short h) = (refl, refl)
elf_lowest b l s o (other_magic h) = (refl, refl)

-- what is right in a file header before an offset
pub record IsArmBefore (b : List ℕ) (d : ℕ) : Type 0 where
  pub class : 4 < d → byte_at b 4 ≡ 1
  pub order : 5 < d → byte_at b 5 ≡ 1
  pub relocatable : 16 < d → half_at b 16 ≡ 1
  pub machine : 18 < d → half_at b 18 ≡ 40
  pub version : 36 < d → word_at b 36 / 2 ^ 24 ≡ 5

pub arm_lowest : (b : List ℕ) (l : Limit) (d : ℕ) → IsArmBefore b d → (s o : ℕ) → Fault b l NotArmRel s o → (s ≡ 0) × (o < d → ⊥)
arm_lowest b l d h s o (other_class n) = (refl, λ lt. n (h.class lt))
arm_lowest b l d h s o (other_order n) = (refl, λ lt. n (h.order lt))
arm_lowest b l d h s o (other_type n) = (refl, λ lt. n (h.relocatable lt))
arm_lowest b l d h s o (other_machine n) = (refl, λ lt. n (h.machine lt))
arm_lowest b l d h s o (other_version n) = (refl, λ lt. n (h.version lt))

-- the first offset at which a file header isn't right
pub arm_fault : (b : List ℕ) (l : Limit) (d : ℕ) → IsArmBefore b d → Fault b l NotArmRel 0 d → (s o : ℕ) → Fault b l NotArmRel s o → (s < 0) ⊎ ((s ≡ 0) × (o < d)) → ⊥
arm_fault b l d h f s o g below =
    elim below [
      | inl lt ↦ omega arith
      | inr same ↦ (arm_lowest b l d h s o g).1 same.1
    ]
