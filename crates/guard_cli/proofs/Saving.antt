-- How outputs are saved, one behind another, and what is known of the counts meanwhile.
use Rattle.std.proofs.Common.{◌≡◌, ◌≤◌, ◌+◌, ◌-◌, ◌^◌, inl, inr, ℕ, List, [], ◌∷◌, ◌++◌, length, get_or, take, drop, Result, Ok, Err, IsTrue, refl, sym, ap, ◌∙◌, subst, arith, min}
use Rattle.std.specs.Prelude.{IfErr}
use Rattle.std.proofs.lemmas.List.{take_all}
use Rattle.guard_io.specs.Outside.{Rose, IsPartlyPut}
use Rattle.guard_cli.specs.declared.endings.Ending.{Ending}
use Rattle.guard_cli.specs.declared.endings.Ending.TheVariants.{Done, Refused, Usage, ReadFault, WriteFault, PrintFault, NoMemory, Stopped}
use Rattle.guard_cli.specs.declared.outputs.Output.{Output}
use Rattle.guard_cli.specs.Moments.{Files, Screen, IsSaved, IsHalfSaved, IsHandedOn, IsLeftOut, IsToldOf}
use Rattle.guard_cli.specs.Texts.{write_fault_line}
use Rattle.guard_cli.specs.Works.{Save}
use Rattle.guard_cli.specs.Endings.{AreSaved, IsUnsaved, FinishesAs}
use Rattle.guard_cli.proofs.Carried.{untouched_here}
use Rattle.guard_cli.specs.Steps.{save_of, saves_of, ReportEndsAs, SaveFailsAs}

pub rose_before : (a b c : ℕ) → a ≤ b → Rose b c → Rose a c
rose_before a b c low rose =
    let l : min (a + 1) (2 ^ 64 - 1) ≤ min (b + 1) (2 ^ 64 - 1) = omega arith in
    omega arith

-- A line is told as well where the output had no memory for another before it.
pub told_behind : (text : List ℕ) (old mid new : Screen) → IsLeftOut old mid → mid.told ≡ old.told → mid.faults ≡ old.faults → old.wants ≤ mid.wants → (IsTrue old.steady → IsTrue mid.steady)
    → IsToldOf text mid new → IsToldOf text old new
told_behind text old mid new out told faults up steady (inl put) = inl (λ t. put (told ∙ t) ∙ ap (λ (w : List ℕ). w ++ text) (out.nothing t))
told_behind text old mid new out told faults up steady (inr (inl cut)) = inr (inl (record {
  cause = subst (λ (n : ℕ). Rose n new.faults) faults cut.cause;
  unsteady = λ s. cut.unsteady (steady s);
  part = λ t. subst (λ (w : List ℕ). IsPartlyPut w text new.written) (out.nothing t) (cut.part (told ∙ t));
}))
told_behind text old mid new out told faults up steady (inr (inr left)) = inr (inr (record {
  cause = rose_before old.wants mid.wants new.wants up left.cause;
  nothing = λ t. left.nothing (told ∙ t) ∙ out.nothing t;
}))

-- the first of the outputs was saved, and the rest failed
pub fails_behind : (s : Save) (saves : List Save) (old between new : Files) (screen after : Screen) (ending : Ending) → IsSaved s.name s.bytes old between → IsHandedOn old between screen screen
    → SaveFailsAs saves between new screen after ending → SaveFailsAs (s ∷ saves) old new screen after ending
fails_behind s saves old between new screen after WriteFault saved on u = record {
  earlier = s ∷ u.earlier;
  save = u.save;
  later = u.later;
  saves_are = ap (λ l. s ∷ l) u.saves_are;
  between = u.between;
  whole = (between, saved, u.whole);
  half = u.half;
  cause = rose_before old.save_faults between.save_faults new.save_faults on.saves u.cause;
  unsteady = λ steady. u.unsteady (on.steady_files steady);
  said = u.said;
}
fails_behind s saves old between new screen after NoMemory saved on p =
    record { earlier = s ∷ p.earlier; later = p.later; saves_are = ap (λ l. s ∷ l) p.saves_are; whole = (between, saved, p.whole); said = p.said }
fails_behind s saves old between new screen after Done saved on h = absurd h
fails_behind s saves old between new screen after (Refused spot) saved on h = absurd h
fails_behind s saves old between new screen after Usage saved on h = absurd h
fails_behind s saves old between new screen after ReadFault saved on h = absurd h
fails_behind s saves old between new screen after PrintFault saved on h = absurd h
fails_behind s saves old between new screen after (Stopped outcome) saved on h = absurd h

-- the outputs from the first on
pub first_of : (outputs : List Output) (o : Output) → 1 ≤ length outputs → o ≡ get_or outputs 0 o → saves_of outputs ≡ save_of o ∷ saves_of (take (length outputs - 1) (drop 1 outputs))
first_of [] o some is = absurd (omega arith)
first_of (x ∷ outputs) o some is =
    let all : length outputs ≤ length (x ∷ outputs) - 1 = omega arith in
    ap (λ (y : Output). save_of y ∷ saves_of outputs) (sym is) ∙ ap (λ (l : List Output). save_of o ∷ saves_of l) (sym (take_all (length (x ∷ outputs) - 1) outputs all))

-- The first of the outputs could not be written.
pub unsaved_first : (saves : List Save) (o : Output) (rest : List Save) (name bytes : List ℕ) (old new : Files) (screen after : Screen) → saves ≡ save_of o ∷ rest → name ≡ (save_of o).name → bytes ≡ (save_of o).bytes
    → IsHalfSaved name bytes old new → Rose old.save_faults new.save_faults → (IsTrue old.steady → ⊥) → IsToldOf (write_fault_line name) screen after → IsUnsaved saves old new screen after
unsaved_first saves o rest name bytes old new screen after are named holds half cause unsteady said = record {
  earlier = [];
  save = record { name = name; bytes = bytes };
  later = rest;
  saves_are = are ∙ ap (λ (n : List ℕ). record { name = n; bytes = (save_of o).bytes } ∷ rest) (sym named) ∙ ap (λ (b : List ℕ). record { name = name; bytes = b } ∷ rest) (sym holds);
  between = old;
  whole = untouched_here old;
  half = half;
  cause = cause;
  unsteady = unsteady;
  said = said;
}

-- The first was saved, and a later one failed.
pub fails_later : {X : Type 0} (r : Result X Ending) (saves : List Save) (o : Output) (rest : List Save) (name bytes : List ℕ) (old between new : Files) (screen after : Screen) → saves ≡ save_of o ∷ rest
    → name ≡ (save_of o).name → bytes ≡ (save_of o).bytes → IsSaved name bytes old between → IsHandedOn old between screen screen → IfErr r (SaveFailsAs rest between new screen after)
    → IfErr r (SaveFailsAs saves old new screen after)
fails_later (Ok x) saves o rest name bytes old between new screen after are named holds saved on h = h
fails_later (Err ending) saves o rest name bytes old between new screen after are named holds saved on h =
    let one = subst (λ (b : List ℕ). IsSaved (save_of o).name b old between) holds (subst (λ (n : List ℕ). IsSaved n bytes old between) named saved) in
    subst (λ (l : List Save). SaveFailsAs l old new screen after ending) (sym are) (fails_behind (save_of o) rest old between new screen after ending one on h)

-- how a command ends that could not save all
pub fails_finish : (saves : List Save) (report : List ℕ) (old new : Files) (screen after : Screen) (ending : Ending) → SaveFailsAs saves old new screen after ending → FinishesAs saves report old new screen after ending
fails_finish saves report old new screen after WriteFault h = h
fails_finish saves report old new screen after NoMemory h = h
fails_finish saves report old new screen after Done h = absurd h
fails_finish saves report old new screen after (Refused spot) h = absurd h
fails_finish saves report old new screen after Usage h = absurd h
fails_finish saves report old new screen after ReadFault h = absurd h
fails_finish saves report old new screen after PrintFault h = absurd h
fails_finish saves report old new screen after (Stopped outcome) h = absurd h

append_nothing : (saves : List Save) → saves ≡ saves ++ []
append_nothing [] = refl
append_nothing (s ∷ saves) = ap (λ l. s ∷ l) (append_nothing saves)

-- how a command ends that has saved all
pub report_finishes : (saves : List Save) (report : List ℕ) (old new : Files) (screen after : Screen) (ending : Ending) → AreSaved saves old new → ReportEndsAs report screen after ending
    → FinishesAs saves report old new screen after ending
report_finishes saves report old new screen after Done saved said = (saved, said)
report_finishes saves report old new screen after PrintFault saved said = (saved, said)
report_finishes saves report old new screen after NoMemory saved said = record { earlier = saves; later = []; saves_are = append_nothing saves; whole = saved; said = said }
report_finishes saves report old new screen after (Refused spot) saved said = absurd said
report_finishes saves report old new screen after Usage saved said = absurd said
report_finishes saves report old new screen after ReadFault saved said = absurd said
report_finishes saves report old new screen after WriteFault saved said = absurd said
report_finishes saves report old new screen after (Stopped outcome) saved said = absurd said
