-- The work of `list`.
use Rattle.std.specs.Prelude.{◌≡◌, ◌<◌, ◌≤◌, ◌⊎◌, ℕ, List, [], ◌∷◌, length, ⊤}
use Rattle.elf_model.specs.declared.refusals.Refusal.TheVariants.{TooLong}
use Rattle.elf_model.specs.declared.refusals.Spot.{Spot}
use Rattle.elf_model.specs.declared.refusals.TheConstants.Limit.{ANY}
use Rattle.elf_model.specs.Objects.{ObjectParts}
use Rattle.elf_read.specs.Faults.{IsFirstFault}
use Rattle.guard_cli.specs.Inputs.{IsReadAs, at_start}
use Rattle.listing.specs.Listings.{IsListing}
use Rattle.guard_cli.specs.Works.{Save, Work, OfOne}

-- When an input is refused: it is longer than the limit, or else it has a fault, of which the first counts. No form is
-- left out.
abbrev pub IsListRefusal : List ℕ → Spot → Type 0
IsListRefusal file spot = ((spot ≡ at_start TooLong) × (ANY.file < length file)) ⊎ ((length file ≤ ANY.file) × IsFirstFault file ANY spot)

-- a file that is read
abbrev pub IsReadable : List ℕ → Type 0
IsReadable file = (o : ObjectParts) × IsReadAs ANY file o

-- the listing of an input's object; no file is written
pub record IsListMade (file : List ℕ) (saves : List Save) (text : List ℕ) : Type 0 where
  pub object : ObjectParts
  pub read : IsReadAs ANY file object
  pub listing : IsListing object text
  pub saves_are : saves ≡ []

abbrev pub list_work : List ℕ → Work
list_work input = record {
  inputs = record { name = input; limit = ANY.file } ∷ [];
  Accepts = OfOne IsReadable;
  Refuses = λ loaded spot. OfOne (λ file. IsListRefusal file spot) loaded;
  Makes = λ loaded saves text. OfOne (λ file. IsListMade file saves text) loaded;
  Stops = λ loaded outcome line. ⊥;
  Promises = λ loaded saves report before after. ⊤;
}
