-- From what is made of a seed and its two runs to what is said of it.
use Rattle.std.proofs.Common.{◌≡◌, ◌<◌, ◌^◌, ℕ, ◌*◌, ◌∷◌, [], false, List, length, Some, refl, sym, ap, ◌∙◌, subst, arith}
use Rattle.std.specs.Prelude.{codes, slice_get}
use Rattle.std.proofs.lemmas.List.Elements.{All-nil, All-cons}
use Rattle.std.proofs.lemmas.Option.{same_Some}
use Rattle.elf_model.specs.declared.objects.MapRow.{MapRow}
use Rattle.elf_model.specs.Maps.{HasMap}
use Rattle.elf_model.specs.Objects.{ObjectParts, code_size}
use Rattle.thumb_table.specs.States.{State, read}
use Rattle.thumb_table.specs.Schedules.{is_in, IsLegal, Returns, OrdinaryRun}
use Rattle.thumb_table.specs.Images.{IsImage, entry_of}
use Rattle.thumb_table.specs.Calls.{start}
use Rattle.skip_machine.specs.Draws.{IsDrawn}
use Rattle.skip_machine.specs.Machines.{Machine, state}
use Rattle.sim_relation.specs.AddressMaps.{SameState}
use Rattle.sim_relation.specs.Hardened.{AreArguments, EndsAlike, Hardened as AreHardened}
use Rattle.harden_core.specs.Hardening.{IsHardening}
use Rattle.gen_image.specs.GeneratedImages.{placement}
use Rattle.gen_runs.specs.GeneratedRuns.{steps_of}
use Rattle.make_run.specs.declared.making.Made.{Made}
use Rattle.make_run.specs.MakeTexts.{MakeTally, make_report}
use Rattle.make_run.specs.Making.{IsMade, skipped_of}
use Rattle.make_run.specs.MakeSteps.{IsAllMade, EndAlike, CanReturn, HasReturned, HasReturnedPlainly}
use Rattle.make_run.proofs.CallEnds.{one_end}

only_one : (maps : List (List MapRow)) → length maps ≡ 1 → (rows : List MapRow) × (maps ≡ rows ∷ [])
only_one [] e = absurd (omega (arith, e))
only_one (rows ∷ []) e = (rows, refl)
only_one (rows ∷ other ∷ rest) e = absurd (omega (arith, e))

are_arguments : AreArguments (3 ∷ [])
are_arguments = record { few = omega arith; each = All-cons (λ (a : ℕ). a < 2 ^ 32) 3 [] (omega arith) (All-nil (λ (a : ℕ). a < 2 ^ 32)) }

module _ (m : Made) (is : IsAllMade m) (promised : AreHardened (m.object ∷ []) (m.hardened.object ∷ []) m.hardened.factor) (p : Machine) (run : HasReturnedPlainly m.plain m.count p) where
  abbrev most : ℕ
  most = m.hardened.factor * steps_of m.count

  -- the hardened call starts at an entry, and ends alike under each legal schedule
  record IsAlike (entry : ℕ) : Type 0 where
    entry_is : entry_of m.hard.entries (codes "f0") ≡ Some entry
    ends : EndsAlike m.plain m.hard promised.maps (IsLegal 2) 4 most (state p) (start m.hard 65536 entry (3 ∷ []))

  alike : (entry : ℕ) × IsAlike entry
  alike =
      let returns = subst (λ (s : State). Returns m.plain.code (λ i. false) (steps_of m.count) 0 s (state p)) run.is.start_is run.returns in
      let ordinary = subst (λ (s : State). OrdinaryRun m.plain.code (λ i. false) (steps_of m.count) 0 s) run.is.start_is run.ordinary in
      let both = promised.alike placement m.plain m.hard is.plain is.hard (codes "f0") (3 ∷ []) are_arguments run.is.entry run.is.entry_is (steps_of m.count) (state p) returns ordinary in
      (both.0, record { entry_is = both.1; ends = both.3 })

  pub hard_can_return : (schedule : List ℕ) (steps : ℕ) → steps ≡ steps_of m.count → IsLegal 2 schedule → CanReturn m.hard schedule (m.hardened.factor * steps)
  hard_can_return schedule steps count legal =
      let ends = alike.1.ends schedule legal in
      subst (λ (n : ℕ). CanReturn m.hard schedule (m.hardened.factor * n)) (sym count)
      (record { begun = start m.hard 65536 alike.0 (3 ∷ []); is = record { entry = alike.0; entry_is = alike.1.entry_is; start_is = refl }; ended = ends.0; returns = ends.1 })

  module _ (q : Machine) (schedule : List ℕ) (legal : IsLegal 2 schedule) (ran : HasReturned m.hard schedule most q) where
    maps_are : (rows : List MapRow) × (promised.maps ≡ rows ∷ [])
    maps_are = only_one promised.maps promised.are_maps.count

    has_map : HasMap m.hardened.object maps_are.0
    has_map = promised.are_maps.has 0 m.hardened.object maps_are.0 refl (ap (λ (maps : List (List MapRow)). slice_get maps 0) maps_are.1)

    ended_same : SameState m.plain m.hard (maps_are.0 ∷ []) 4 (state p) (state q)
    ended_same =
        let ends = alike.1.ends schedule legal in
        let place : ran.is.entry ≡ alike.0 = same_Some ran.is.entry alike.0 (sym ran.is.entry_is ∙ alike.1.entry_is) in
        let begun : ran.begun ≡ start m.hard 65536 alike.0 (3 ∷ []) = ran.is.start_is ∙ ap (λ (a : ℕ). start m.hard 65536 a (3 ∷ [])) place in
        let returns = subst (λ (s : State). Returns m.hard.code (is_in schedule) q.steps 0 s (state q)) begun ran.returns in
        let one : ends.0 ≡ state q = one_end m.hard.code (is_in schedule) ends.1.steps q.steps (start m.hard 65536 alike.0 (3 ∷ [])) ends.0 (state q) ends.1.returns returns in
        subst (λ (maps : List (List MapRow)). SameState m.plain m.hard maps 4 (state p) (state q)) maps_are.1
        (subst (λ (s : State). SameState m.plain m.hard promised.maps 4 (state p) s) one ends.2)

    pub end_alike : EndAlike m p q
    end_alike = record { rows = maps_are.0; has_map = has_map; same = ended_same }

    -- what is counted of both
    abbrev numbers : ObjectParts → MakeTally
    numbers o = record {
      functions = m.count;
      old_bytes = code_size o.sections;
      new_bytes = code_size m.hardened.object.sections;
      factor = m.hardened.factor;
      steps = steps_of m.count;
      r0 = (read (state p).core 0).bits;
      hard_steps = q.steps;
      skips = skipped_of schedule q.steps;
      hard_r0 = (read (state q).core 0).bits;
    }

    pub is_made : IsDrawn m.seed most 2 schedule → (said : List ℕ) → said ≡ make_report (numbers m.object) → IsMade m.seed m.count said
    is_made drawn said said_is = record {
      hardened = m.hardened;
      hardening = subst (λ (o : ObjectParts). IsHardening o 2 4 m.hardened) is.object is.hardened.hardening;
      plain = m.plain;
      begun = run.begun;
      ended = state p;
      call = record {
        image_is = subst (λ (o : ObjectParts). IsImage (o ∷ []) placement m.plain) is.object is.plain;
        entry = run.is.entry;
        entry_is = run.is.entry_is;
        start_is = run.is.start_is;
      };
      returns = run.returns;
      ordinary = run.ordinary;
      hard = m.hard;
      hard_begun = ran.begun;
      hard_ended = state q;
      hard_call = record { image_is = is.hard; entry = ran.is.entry; entry_is = ran.is.entry_is; start_is = ran.is.start_is };
      schedule = schedule;
      drawn = drawn;
      hard_steps = q.steps;
      within = ran.within;
      hard_returns = ran.returns;
      rows = maps_are.0;
      has_map = has_map;
      same = ended_same;
      said_is = said_is ∙ ap (λ (o : ObjectParts). make_report (numbers o)) is.object;
    }

-- the report by its numbers
pub same_numbers : (f : ℕ → ℕ → ℕ → ℕ → ℕ → ℕ → ℕ → List ℕ) (a b c d e g h : ℕ) (a' b' c' d' e' g' h' : ℕ)
    → a ≡ a' → b ≡ b' → c ≡ c' → d ≡ d' → e ≡ e' → g ≡ g' → h ≡ h' → f a b c d e g h ≡ f a' b' c' d' e' g' h'
same_numbers f a b c d e g h a' b' c' d' e' g' h' p q r s t u v = cc
