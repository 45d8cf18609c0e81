-- What the steps of `harden` make, as the parts of its pairs.
use Rattle.std.proofs.Common.{◌≡◌, ℕ, List, [], ◌∷◌, length, map, Option, None, refl, sym, ap, ◌∙◌, subst, arith}
use Rattle.std.specs.Prelude.{All}
use Rattle.std.proofs.lemmas.List.Elements.{All-nil, All-cons, All-head, All-tail}
use Rattle.skip_machine.specs.declared.machines.Outcome.{Outcome}
use Rattle.elf_model.specs.declared.refusals.TheConstants.Limit.{INPUT}
use Rattle.elf_model.specs.Objects.{ObjectParts}
use Rattle.elf_read.specs.Faults.{dropped_count}
use Rattle.harden_core.specs.declared.hardening.Hardened.{Hardened}
use Rattle.guard_words.specs.Words.{Pair}
use Rattle.guard_cli.specs.declared.tasks.Made.{Made}
use Rattle.guard_cli.specs.declared.texts.Counts.{Counts}
use Rattle.guard_cli.specs.Inputs.{AreReadAs}
use Rattle.guard_cli.specs.HardenWork.{Part, IsPart, save_of_part, tally_of, harden_work}
use Rattle.guard_cli.specs.HardenSteps.{AreHardened, CanBeSaved, saves_by, all_counts, tallies_with}
use Rattle.guard_cli.specs.Steps.{saves_of, IsMadeAs, IsMadeBy}
use Rattle.guard_cli.specs.Texts.{Tally, report}
use Rattle.guard_cli.specs.Works.{Save}

abbrev HasFile : Hardened → Type 0
HasFile h = CanBeSaved h.object

-- The parts of pairs, by their files, their objects and what is made of these.
pub record ArePartsOf (pairs : List Pair) (files : List (List ℕ)) (objects : List ObjectParts) (hardened : List Hardened) (parts : List Part) : Type 0 where
  pub pairs_are : map (λ (p : Part). p.pair) parts ≡ pairs
  pub files_are : map (λ (p : Part). p.file) parts ≡ files
  pub each : All IsPart parts
  pub saves_are : saves_by pairs hardened ≡ map save_of_part parts
  pub tallies_are : tallies_with pairs (all_counts objects (map dropped_count files) hardened) ≡ map tally_of parts

pub parts_made : (pairs : List Pair) (files : List (List ℕ)) (objects : List ObjectParts) (hardened : List Hardened) → length files ≡ length pairs → AreReadAs INPUT files objects
    → AreHardened objects hardened → All HasFile hardened → (parts : List Part) × ArePartsOf pairs files objects hardened parts
parts_made [] [] [] [] count read made can = ([], record { pairs_are = refl; files_are = refl; each = All-nil IsPart; saves_are = refl; tallies_are = refl })
parts_made [] [] [] (h ∷ hs) count read made can = absurd made
parts_made [] [] (o ∷ os) hs count read made can = absurd read
parts_made [] (f ∷ fs) os hs count read made can = absurd (omega (arith, count))
parts_made (p ∷ ps) [] os hs count read made can = absurd (omega (arith, count))
parts_made (p ∷ ps) (f ∷ fs) [] hs count read made can = absurd read
parts_made (p ∷ ps) (f ∷ fs) (o ∷ os) [] count read made can = absurd made
parts_made (p ∷ ps) (f ∷ fs) (o ∷ os) (h ∷ hs) count (r, rs) (m, ms) can =
    let rest = parts_made ps fs os hs (omega (arith, count)) rs ms (All-tail HasFile h hs can) in
    let here = All-head HasFile h hs can in
    let part : Part = record { pair = p; file = f; object = o; hardened = h } in
    let is : IsPart part = record { read = r; hardening = m.hardening; paired = m.paired; bytes = here.bytes; stands = here.stands } in (
      part ∷ rest.0,
      record {
        pairs_are = ap (λ (l : List Pair). p ∷ l) rest.1.pairs_are;
        files_are = ap (λ (l : List (List ℕ)). f ∷ l) rest.1.files_are;
        each = All-cons IsPart part rest.0 is rest.1.each;
        saves_are = ap (λ (l : List Save). save_of_part part ∷ l) rest.1.saves_are;
        tallies_are = ap (λ (l : List Tally). tally_of part ∷ l) rest.1.tallies_are;
      },
    )

-- So they are what is made of the pairs.
pub harden_made : (pairs : List Pair) (files : List (List ℕ)) (objects : List ObjectParts) (hardened : List Hardened) (made : Made) → length files ≡ length pairs → AreReadAs INPUT files objects
    → AreHardened objects hardened → All HasFile hardened → saves_of made.outputs.items ≡ saves_by pairs hardened
    → made.report.items ≡ report (tallies_with pairs (all_counts objects (map dropped_count files) hardened)) → made.stopped ≡ None → IsMadeBy (harden_work pairs) files made
harden_made pairs files objects hardened made count read are can saves said ran =
    let p = parts_made pairs files objects hardened count read are can in
    subst (λ (o : Option Outcome). IsMadeAs (harden_work pairs) files (saves_of made.outputs.items) made.report.items o) (sym ran)
    (record {
      parts = p.0;
      pairs_are = p.1.pairs_are;
      files_are = p.1.files_are;
      each = p.1.each;
      saves_are = saves ∙ p.1.saves_are;
      said_is = said ∙ ap report p.1.tallies_are;
    })

-- as many as there are objects
pub as_many_hardened : (objects : List ObjectParts) (hardened : List Hardened) → AreHardened objects hardened → length hardened ≡ length objects
as_many_hardened [] [] are = refl
as_many_hardened [] (h ∷ hs) are = absurd are
as_many_hardened (o ∷ os) [] are = absurd are
as_many_hardened (o ∷ os) (h ∷ hs) (m, ms) = omega (arith, as_many_hardened os hs ms)

pub as_many_counts : (objects : List ObjectParts) (dropped : List ℕ) (hardened : List Hardened) → length objects ≡ length hardened → length dropped ≡ length hardened
    → length (all_counts objects dropped hardened) ≡ length hardened
as_many_counts [] ds [] e d = refl
as_many_counts (o ∷ os) ds [] e d = absurd (omega (arith, e))
as_many_counts [] ds (h ∷ hs) e d = absurd (omega (arith, e))
as_many_counts (o ∷ os) [] (h ∷ hs) e d = absurd (omega (arith, d))
as_many_counts (o ∷ os) (x ∷ ds) (h ∷ hs) e d = omega (arith, as_many_counts os ds hs (omega (arith, e)) (omega (arith, d)))

-- the factors of tallies are those of their counts
pub factors_are : (pairs : List Pair) (counts : List Counts) → length counts ≡ length pairs → map (λ (t : Tally). t.factor) (tallies_with pairs counts) ≡ map (λ (n : Counts). n.factor) counts
factors_are [] [] e = refl
factors_are [] (n ∷ ns) e = absurd (omega (arith, e))
factors_are (p ∷ ps) [] e = absurd (omega (arith, e))
factors_are (p ∷ ps) (n ∷ ns) e = ap (λ (l : List ℕ). n.factor ∷ l) (factors_are ps ns (omega (arith, e)))
