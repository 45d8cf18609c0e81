-- What is known of the files and of the output at a moment, and what changes between two moments.
use Rattle.std.specs.Prelude.{◌≡◌, ◌≢◌, ◌≤◌, ◌⊎◌, ℕ, Bool, List, ◌++◌, Option, Some, IsTrue}
use Rattle.guard_io.specs.Outside.{Rose, IsPartlySaved, IsPartlyPut}

pub record Files : Type 0 where
  pub told : Bool
  pub content : List ℕ → Option (List ℕ)
  pub steady : Bool
  pub load_faults : ℕ
  pub save_faults : ℕ

pub record Screen : Type 0 where
  pub told : Bool
  pub written : List ℕ
  pub steady : Bool
  pub faults : ℕ
  pub wants : ℕ

-- from a shelf's and a sink's own words
abbrev pub files_seen : {S : Type 0} → (S → Bool) → (S → List ℕ → Option (List ℕ)) → (S → Bool) → (S → ℕ) → (S → ℕ) → S → Files
files_seen tells file steady load_faults save_faults s =
    record { told = tells s; content = file s; steady = steady s; load_faults = load_faults s; save_faults = save_faults s }

abbrev pub screen_seen : {K : Type 0} → (K → Bool) → (K → List ℕ) → (K → Bool) → (K → ℕ) → (K → ℕ) → K → Screen
screen_seen tells written steady faults wants k = record { told = tells k; written = written k; steady = steady k; faults = faults k; wants = wants k }

-- Each file but this one is as it was.
pub record SameBut (name : List ℕ) (old new : Files) : Type 0 where
  pub told : new.told ≡ old.told
  pub each : (other : List ℕ) → other ≢ name → new.content other ≡ old.content other

-- No file was changed, nor a save tried in vain.
pub record Untouched (old new : Files) : Type 0 where
  pub told : new.told ≡ old.told
  pub each : (name : List ℕ) → new.content name ≡ old.content name
  pub saves : new.save_faults ≡ old.save_faults

-- The file was saved whole.
pub record IsSaved (name bytes : List ℕ) (old new : Files) : Type 0 where
  pub others : SameBut name old new
  pub whole : IsTrue old.told → new.content name ≡ Some bytes

-- The save failed: the file may hold a part.
pub record IsHalfSaved (name bytes : List ℕ) (old new : Files) : Type 0 where
  pub others : SameBut name old new
  pub part : IsTrue old.told → IsPartlySaved (old.content name) bytes (new.content name)

-- The text was put.
abbrev pub IsPut : List ℕ → Screen → Screen → Type 0
IsPut text old new = IsTrue old.told → new.written ≡ old.written ++ text

-- A part of the text was put, since the output failed. A steady one does not.
pub record IsCutOff (text : List ℕ) (old new : Screen) : Type 0 where
  pub cause : Rose old.faults new.faults
  pub unsteady : IsTrue old.steady → ⊥
  pub part : IsTrue old.told → IsPartlyPut old.written text new.written

-- Nothing was put, since the output had no memory.
pub record IsLeftOut (old new : Screen) : Type 0 where
  pub cause : Rose old.wants new.wants
  pub nothing : IsTrue old.told → new.written ≡ old.written

-- An ending's line: it was put, unless a count of the output says why only a part of it was, or nothing.
abbrev pub IsToldOf : List ℕ → Screen → Screen → Type 0
IsToldOf text old new = IsPut text old new ⊎ IsCutOff text old new ⊎ IsLeftOut old new

-- Counts never fall, and what is steady stays so.
pub record IsHandedOn (old new : Files) (screen after : Screen) : Type 0 where
  pub loads : old.load_faults ≤ new.load_faults
  pub saves : old.save_faults ≤ new.save_faults
  pub puts : screen.faults ≤ after.faults
  pub wants : screen.wants ≤ after.wants
  pub steady_files : IsTrue old.steady → IsTrue new.steady
  pub steady_screen : IsTrue screen.steady → IsTrue after.steady

pub record CountsStay (old new : Files) (screen after : Screen) : Type 0 where
  pub loads : new.load_faults ≡ old.load_faults
  pub saves : new.save_faults ≡ old.save_faults
  pub puts : after.faults ≡ screen.faults

-- No count of faults rose.
pub record IsCalm (old new : Files) (screen after : Screen) : Type 0 where
  pub loads : Rose old.load_faults new.load_faults → ⊥
  pub saves : Rose old.save_faults new.save_faults → ⊥
  pub puts : Rose screen.faults after.faults → ⊥

-- Nothing outside is in the way: no count of faults rose, or else all is steady from the start.
abbrev pub IsUndisturbed : Files → Files → Screen → Screen → Type 0
IsUndisturbed old new screen after = IsCalm old new screen after ⊎ (IsTrue old.steady × IsTrue screen.steady)
