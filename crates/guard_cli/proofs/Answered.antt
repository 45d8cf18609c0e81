-- Where nothing outside is in the way, what is accepted is done, unless memory runs out.
use Rattle.std.proofs.Common.{◌≡◌, ◌≢◌, ◌+◌, inl, inr, ℕ, List, [], ◌∷◌, ◌++◌, Option, Some, None, IsTrue, refl, sym, ◌∙◌, subst}
use Rattle.guard_io.specs.Outside.{IsLoaded}
use Rattle.elf_model.specs.declared.refusals.Spot.{Spot}
use Rattle.skip_machine.specs.declared.machines.Outcome.{Outcome}
use Rattle.skip_machine.specs.declared.machines.Outcome.TheVariants.{Returned}
use Rattle.guard_cli.specs.declared.endings.Ending.{Ending}
use Rattle.guard_cli.specs.declared.endings.Ending.TheVariants.{Done, Refused, Usage, ReadFault, WriteFault, PrintFault, NoMemory, Stopped}
use Rattle.guard_cli.specs.Moments.{Files, Screen, IsUndisturbed}
use Rattle.guard_cli.specs.Works.{Input, Contents, Work, AreLoaded}
use Rattle.guard_cli.specs.Endings.{EndsAs, IsDoneOrNoMemory}
use Rattle.guard_cli.proofs.Carried.{KeepsItsPromise}

-- what each work keeps to
pub record IsLawful (w : Work) : Type 0 where
  pub promises : KeepsItsPromise w
  pub not_refused : (loaded : List (List ℕ)) (spot : Spot) → w.Accepts loaded → w.Refuses loaded spot → ⊥
  pub not_stopped : (loaded : List (List ℕ)) (outcome : Outcome) (line : List ℕ) → w.Accepts loaded → outcome ≢ Returned → w.Stops loaded outcome line → ⊥

same_first : (content : Option (List ℕ)) (most : ℕ) (a b : List ℕ) → IsLoaded content most a → IsLoaded content most b → a ≡ b
same_first None most a b h k = absurd h
same_first (Some file) most a b h k = h ∙ sym k

-- One thing is loaded of the inputs.
pub same_loaded : (content : Contents) (inputs : List Input) (a b : List (List ℕ)) → AreLoaded content inputs a → AreLoaded content inputs b → a ≡ b
same_loaded content [] [] [] h k = refl
same_loaded content [] [] (y ∷ b) h k = absurd k
same_loaded content [] (x ∷ a) b h k = absurd h
same_loaded content (i ∷ inputs) [] b h k = absurd h
same_loaded content (i ∷ inputs) (x ∷ a) [] h k = absurd k
same_loaded content (i ∷ inputs) (x ∷ a) (y ∷ b) (h, hs) (k, ks) =
    let first : x ≡ y = same_first (content i.name) (i.limit + 1) x y h k in
    let rest : a ≡ b = same_loaded content inputs a b hs ks in
    cc

-- An input of which something is loaded is there.
is_there : (content : Contents) (earlier : List Input) (i : Input) (later : List Input) (loaded : List (List ℕ)) → AreLoaded content (earlier ++ i ∷ later) loaded → content i.name ≡ None → ⊥
is_there content [] i later [] h none = h
is_there content [] i later (x ∷ loaded) h none = subst (λ (o : Option (List ℕ)). IsLoaded o (i.limit + 1) x) none h.0
is_there content (j ∷ earlier) i later [] h none = h
is_there content (j ∷ earlier) i later (x ∷ loaded) h none = is_there content earlier i later loaded h.1 none

module _ (w : Work) (lawful : IsLawful w) (old new : Files) (screen after : Screen) (loaded : List (List ℕ))
    (told : IsTrue old.told) (has : AreLoaded old.content w.inputs loaded) (accepts : w.Accepts loaded) (calm : IsUndisturbed old new screen after) where
  no_fault : (earlier : List Input) (i : Input) (later : List Input) → w.inputs ≡ earlier ++ i ∷ later → (IsTrue old.steady → old.content i.name ≡ None) → IsTrue old.steady → ⊥
  no_fault earlier i later are absent steady =
      is_there old.content earlier i later loaded (subst (λ (inputs : List Input). AreLoaded old.content inputs loaded) are has) (absent steady)

  own : (other : List (List ℕ)) → (IsTrue old.told → AreLoaded old.content w.inputs other) → other ≡ loaded
  own other it = same_loaded old.content w.inputs other loaded (it told) has

  pub ends_done : (ending : Ending) → EndsAs w old new screen after ending → IsDoneOrNoMemory ending
  ends_done Done h = inl refl
  ends_done NoMemory h = inr refl
  ends_done Usage h = absurd h
  ends_done (Refused spot) h = absurd (lawful.not_refused loaded spot accepts (subst (λ (l : List (List ℕ)). w.Refuses l spot) (own h.loaded h.inputs) h.cause))
  ends_done (Stopped outcome) h =
      absurd (lawful.not_stopped loaded outcome h.line accepts h.other (subst (λ (l : List (List ℕ)). w.Stops l outcome h.line) (own h.loaded h.inputs) h.cause))
  ends_done ReadFault h =
      absurd (elim calm [
        | inl none ↦ none.loads h.cause
        | inr steady ↦ no_fault h.earlier h.input h.later h.inputs_are h.absent steady.0
      ])
  ends_done WriteFault h =
      absurd (elim calm [
        | inl none ↦ none.saves h.finished.cause
        | inr steady ↦ h.finished.unsteady steady.0
      ])
  ends_done PrintFault h =
      absurd (elim calm [
        | inl none ↦ none.puts h.finished.1.cause
        | inr steady ↦ h.finished.1.unsteady steady.1
      ])
