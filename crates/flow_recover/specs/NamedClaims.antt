-- What one relocation or one symbol names as a place of control.
use Rattle.std.specs.Prelude.{◌≡◌, ◌⊎◌, ℕ, ◌==◌, true, false, Option, Some, None, if◌then◌else◌, slice_get}
use Rattle.elf_model.specs.declared.objects.Symbol.{Symbol}
use Rattle.elf_model.specs.declared.objects.Reloc.{Reloc}
use Rattle.elf_model.specs.declared.objects.Home.{Home}
use Rattle.elf_model.specs.declared.objects.Home.TheVariants as home
use Rattle.elf_model.specs.Objects.{ObjectParts, even}
use Rattle.flow_recover.specs.declared.named.Claim.{Claim}
use Rattle.flow_recover.specs.declared.references.Address.{Address}
use Rattle.reloc_places.specs.Relocations.{is_jump, IsRight, value_of, target_of}
use Rattle.code_ranges.specs.CodeRanges.{holds_code}
use Rattle.flow_recover.specs.Aims.{is_entry, IsReference}

-- the section of code that a symbol is defined in; one that is not the given one
abbrev pub code_home : ObjectParts → Home → Option ℕ
code_home o home.Undefined = None
code_home o home.Absolute = None
code_home o (home.Section j) = if holds_code (slice_get o.sections j) then Some j else None

abbrev pub other_home : ℕ → Home → Option ℕ
other_home j home.Undefined = None
other_home j home.Absolute = None
other_home j (home.Section h) = if h == j then None else Some h

-- the address that a relocation of a word or of a half makes of its symbol, if the symbol is in code
abbrev pub address_in : ObjectParts → Reloc → Symbol → Option ℕ → Option Address
address_in o r s None = None
address_in o r s (Some j) = Some (record { section = j; value = value_of o r s })

abbrev pub address_by : ObjectParts → Reloc → Option Symbol → Option Address
address_by o r None = None
address_by o r (Some s) = address_in o r s (code_home o s.home)

pub record IsAddress (o : ObjectParts) (r : Reloc) (a : Address) : Type 0 where
  pub symbol : Symbol
  pub reference : IsReference o r symbol a.section
  pub value : a.value ≡ value_of o r symbol

-- where a branch leads that is sent to another section
abbrev pub target_in : ObjectParts → Reloc → Symbol → Option ℕ → Option Address
target_in o r s None = None
target_in o r s (Some j) = Some (record { section = j; value = target_of o r s })

abbrev pub target_by : ObjectParts → Reloc → Option Symbol → Option Address
target_by o r None = None
target_by o r (Some s) = target_in o r s (other_home r.section s.home)

pub record IsFarTarget (o : ObjectParts) (r : Reloc) (a : Address) : Type 0 where
  pub index : ℕ
  pub symbol : Symbol
  pub right : IsRight o index r
  pub jump : is_jump r.kind ≡ true
  pub names : slice_get o.symbols r.symbol ≡ Some symbol
  pub home : symbol.home ≡ home.Section a.section
  pub apart : (a.section == r.section) ≡ false
  pub value : a.value ≡ target_of o r symbol

-- the claims that they make
abbrev pub claim_by : ℕ → ℕ → Reloc → Claim
claim_by j x r = record { section = j; offset = x; from_section = r.section; from_offset = r.offset; entry = true }

abbrev pub own_claim : ℕ → ℕ → Claim
own_claim j x = record { section = j; offset = x; from_section = j; from_offset = x; entry = true }

pub record IsAddressClaim (o : ObjectParts) (r : Reloc) (c : Claim) : Type 0 where
  pub address : Address
  pub is : IsAddress o r address
  pub same : c ≡ claim_by address.section (even address.value) r

pub record IsBranchClaim (o : ObjectParts) (r : Reloc) (c : Claim) : Type 0 where
  pub target : Address
  pub is : IsFarTarget o r target
  pub same : c ≡ claim_by target.section target.value r

abbrev pub IsRelocClaim : ObjectParts → Reloc → Claim → Type 0
IsRelocClaim o r c = IsAddressClaim o r c ⊎ IsBranchClaim o r c

abbrev pub claim_in : Symbol → Option ℕ → Option Claim
claim_in s None = None
claim_in s (Some j) = Some (own_claim j (even s.value))

abbrev pub entry_claim : ObjectParts → Symbol → Option Claim
entry_claim o s = if is_entry s then claim_in s (code_home o s.home) else None

abbrev pub IsEntryClaim : ObjectParts → Symbol → Claim → Type 0
IsEntryClaim o s c = entry_claim o s ≡ Some c
