-- A shelf and a sink that lie in memory, with the numbers of the calls that are made to fail.
use Rattle.std.specs.Prelude.{ℕ, ◌+◌, ◌-◌, ◌^◌, ◌==◌, ◌&&◌, ◌≡◌, ◌⊎◌, IsTrue, min, nat_lt, not, Bool, true, List, [], ◌∷◌, ◌++◌, Option, Some, None, if◌then◌else◌}
use Rattle.std.specs.List.{list_all, list_any, position}
use Rattle.std.specs.Str.{bytes_eq}
use Rattle.guard_io.specs.declared.mem_shelf.NamedFile.{NamedFile}

-- a count that goes up by one, and stands still at its last value
abbrev pub raised : ℕ → ℕ
raised count = min (count + 1) (2 ^ 64 - 1)

-- whether the call of this number is listed
abbrev pub is_listed : List ℕ → ℕ → Bool
is_listed fail call = list_any (λ number. number == call) fail

-- whether each listed call lies behind
abbrev pub are_past : List ℕ → ℕ → Bool
are_past fail calls = list_all (λ number. nat_lt number calls) fail

-- what the file of a name holds
abbrev pub content : List NamedFile → List ℕ → Option (List ℕ)
content [] name = None
content (f ∷ files) name = if bytes_eq f.name name then Some f.bytes else content files name

-- the files after a name was given this content
abbrev pub written : List NamedFile → List ℕ → List ℕ → List NamedFile
written [] name bytes = record { name = name; bytes = bytes } ∷ []
written (f ∷ files) name bytes =
    if bytes_eq f.name name then record { name = name; bytes = bytes } ∷ files
    else f ∷ written files name bytes

-- the first place of a name
abbrev pub place : List NamedFile → List ℕ → Option ℕ
place files name = position (λ (f : NamedFile). bytes_eq f.name name) files

-- whether a file has this name
abbrev pub is_named : List NamedFile → List ℕ → Bool
is_named files name = list_any (λ (f : NamedFile). bytes_eq f.name name) files

-- whether no two files have one name
abbrev pub names_differ : List NamedFile → Bool
names_differ [] = true
names_differ (f ∷ files) = not (is_named files f.name) && names_differ files

pub record MemoryShelf : Type 0 where
  pub files : List NamedFile
  pub fail : List ℕ
  pub calls : ℕ
  pub load_faults : ℕ
  pub save_faults : ℕ

-- what the file of a name holds, in a shelf
abbrev pub content_of : MemoryShelf → List ℕ → Option (List ℕ)
content_of s name = content s.files name

-- whether no call is made to fail any more
abbrev pub is_steady_shelf : MemoryShelf → Bool
is_steady_shelf s = are_past s.fail s.calls

-- A load fails where its call is listed, and where the name isn't there.
abbrev pub FailsToLoad : MemoryShelf → List ℕ → Type 0
FailsToLoad s name = IsTrue (is_listed s.fail s.calls) ⊎ (content s.files name ≡ None)

-- a shelf before its first call
abbrev pub new_shelf : List NamedFile → List ℕ → MemoryShelf
new_shelf files fail = record { files = files; fail = fail; calls = 0; load_faults = 0; save_faults = 0 }

-- a shelf after a call that changed no file and was no fault
abbrev pub with_call : MemoryShelf → MemoryShelf
with_call s = record s { calls = raised s.calls }

-- a shelf after a load that failed
abbrev pub with_load_fault : MemoryShelf → MemoryShelf
with_load_fault s = record s { calls = raised s.calls; load_faults = raised s.load_faults }

-- a shelf after a save that failed
abbrev pub with_save_fault : MemoryShelf → MemoryShelf
with_save_fault s = record s { calls = raised s.calls; save_faults = raised s.save_faults }

-- a shelf after a save
abbrev pub with_file : MemoryShelf → List ℕ → List ℕ → MemoryShelf
with_file s name bytes = record s { files = written s.files name bytes; calls = raised s.calls }

pub record MemorySink : Type 0 where
  pub bytes : List ℕ
  pub fail : List ℕ
  pub calls : ℕ
  pub faults : ℕ
  pub wants : ℕ

-- a sink before its first call
abbrev pub new_sink : List ℕ → MemorySink
new_sink fail = record { bytes = []; fail = fail; calls = 0; faults = 0; wants = 0 }

-- whether no call is made to fail any more
abbrev pub is_steady_sink : MemorySink → Bool
is_steady_sink s = are_past s.fail s.calls

-- a sink after a put that was no fault and appended these bytes
abbrev pub with_bytes : MemorySink → List ℕ → MemorySink
with_bytes s bytes = record s { bytes = s.bytes ++ bytes; calls = raised s.calls }

-- a sink after a put for which there was no memory
abbrev pub with_put : MemorySink → MemorySink
with_put s = record s { calls = raised s.calls; wants = raised s.wants }

-- a sink after a put that failed
abbrev pub with_put_fault : MemorySink → MemorySink
with_put_fault s = record s { calls = raised s.calls; faults = raised s.faults }
