-- What the steps of `harden` say.
use Rattle.std.specs.Prelude.{ℕ, List, [], ◌∷◌, Option, Some, None, ⊤, IsTrue, if◌then◌else◌, nat_lt}
use Rattle.elf_model.specs.declared.refusals.Spot.{Spot}
use Rattle.elf_model.specs.declared.refusals.TheConstants.Limit.{ANY}
use Rattle.elf_model.specs.Objects.{ObjectParts, code_size, is_within}
use Rattle.elf_model.specs.Files.{StandsFor}
use Rattle.elf_model.specs.Canonical.{canonical}
use Rattle.flat_link.specs.Existing.{HaveBytes}
use Rattle.sim_relation.specs.Pairs.{Paired, everywhere}
use Rattle.harden_core.specs.declared.hardening.Hardened.{Hardened}
use Rattle.harden_core.specs.Hardening.{IsHardening}
use Rattle.guard_words.specs.Words.{Pair}
use Rattle.guard_cli.specs.declared.texts.Counts.{Counts}
use Rattle.guard_cli.specs.Texts.{Tally}
use Rattle.guard_cli.specs.HardenWork.{phase_of}
use Rattle.guard_cli.specs.Works.{Save}

-- what is made of an object
pub record IsMadeOf (o : ObjectParts) (h : Hardened) : Type 0 where
  pub hardening : IsHardening o 2 4 h
  pub paired : Paired o h.object h.factor 2 4 everywhere

abbrev pub AreHardened : List ObjectParts → List Hardened → Type 0
AreHardened [] [] = ⊤
AreHardened (o ∷ objects) (h ∷ hardened) = IsMadeOf o h × AreHardened objects hardened
AreHardened [] (h ∷ hardened) = ⊥
AreHardened (o ∷ objects) [] = ⊥

-- the refusal that is said, of the first so far and that of a later file
abbrev pub earlier : Option Spot → Spot → Spot
earlier None spot = spot
earlier (Some old) spot = if nat_lt (phase_of spot.refusal) (phase_of old.refusal) then spot else old

-- an object whose file can be written, and stands for it
pub record CanBeSaved (o : ObjectParts) : Type 0 where
  pub room : IsTrue (is_within o ANY)
  pub bytes : HaveBytes (o ∷ [])
  pub stands : StandsFor (canonical o) o

-- the files of hardened objects under the outputs of pairs
abbrev pub saves_by : List Pair → List Hardened → List Save
saves_by (p ∷ pairs) (h ∷ hardened) = record { name = p.output; bytes = canonical h.object } ∷ saves_by pairs hardened
saves_by _ _ = []

-- what is counted of an object and of what is made of it, with so many sections left out
abbrev pub counts_of : ObjectParts → ℕ → Hardened → Counts
counts_of o dropped h = record {
  functions = h.functions;
  before = h.before;
  after = h.after;
  old_bytes = code_size o.sections;
  new_bytes = code_size h.object.sections;
  dropped = dropped;
  factor = h.factor;
}

abbrev pub all_counts : List ObjectParts → List ℕ → List Hardened → List Counts
all_counts (o ∷ objects) (d ∷ dropped) (h ∷ hardened) = counts_of o d h ∷ all_counts objects dropped hardened
all_counts _ _ _ = []

-- the counts of an output of this name
abbrev pub tally_with : List ℕ → Counts → Tally
tally_with output n = record {
  output = output;
  functions = n.functions;
  before = n.before;
  after = n.after;
  old_bytes = n.old_bytes;
  new_bytes = n.new_bytes;
  dropped = n.dropped;
  factor = n.factor;
}

abbrev pub tallies_with : List Pair → List Counts → List Tally
tallies_with (p ∷ pairs) (n ∷ counts) = tally_with p.output n ∷ tallies_with pairs counts
tallies_with _ _ = []
