-- How inputs are loaded, one behind another, and what is known of their files.
use Rattle.std.proofs.Common.{◌≡◌, ◌≤◌, ◌<◌, ◌+◌, ◌-◌, ℕ, zero, suc, Bool, List, [], ◌∷◌, ◌++◌, length, get_or, take, drop, map, String, Vec, Global, string_bytes, Option, Result, Ok, Err, IsTrue, refl, sym, ap, ◌∙◌, subst, arith, append_assoc}
use Rattle.std.specs.Prelude.{All, IsSome, IfErr, OnOk}
use Rattle.std.proofs.Math.Seq.{drop-cons}
use Rattle.std.proofs.lemmas.List.{length-map, length-take, map-append, take-append-drop, take_all, take_more}
use Rattle.std.proofs.lemmas.List.Elements.{All-nil, All-cons, All-head, All-tail}
use Rattle.guard_io.specs.Outside.{IsLoaded}
use Rattle.elf_model.specs.declared.refusals.Refusal.TheVariants.{TooLong}
use Rattle.elf_model.specs.declared.refusals.Spot.{Spot}
use Rattle.elf_model.specs.declared.refusals.Deny.{Deny}
use Rattle.elf_model.specs.declared.refusals.Deny.TheVariants as deny
use Rattle.elf_model.specs.declared.refusals.Limit.{Limit}
use Rattle.elf_model.specs.Objects.{ObjectParts, is_within}
use Rattle.elf_read.specs.Faults.{IsFirstFault, IsFaultless, IsDeniedFor}
use Rattle.guard_cli.specs.declared.endings.Ending.{Ending}
use Rattle.guard_cli.specs.declared.endings.Ending.TheVariants.{Done, Refused, Usage, ReadFault, WriteFault, PrintFault, NoMemory, Stopped}
use Rattle.guard_cli.specs.Inputs.{IsReadAs, AreReadAs, at_start, in_file, IsTooLong, IsFaulty, IsTurnedDown, deny_in}
use Rattle.guard_cli.specs.Moments.{Files, Screen, Untouched, CountsStay}
use Rattle.guard_cli.specs.Works.{Input, Contents, AreLoaded, inputs_of, input_named}
use Rattle.guard_cli.specs.Steps.{contents_of, AddsLoaded, LoadFailsAs, LoadsFailAs}
use Rattle.guard_cli.proofs.Accepted.{at_middle}
use Rattle.guard_cli.proofs.Carried.{untouched_before}
use Rattle.guard_cli.proofs.Limited.{read_within}
use Rattle.guard_cli.proofs.Saving.{rose_before}

-- the first of some inputs could not be loaded
pub fails_first : (i : Input) (later : List Input) (old new : Files) (screen after : Screen) (ending : Ending) → Untouched old new → LoadFailsAs i.name old new screen after ending
    → LoadsFailAs (i ∷ later) old new screen after ending
fails_first i later old new screen after ReadFault same h =
    record { earlier = []; input = i; later = later; inputs_are = refl; cause = h.cause; absent = h.absent; untouched = same; said = h.said }
fails_first i later old new screen after NoMemory same h = h
fails_first i later old new screen after Done same h = absurd h
fails_first i later old new screen after (Refused spot) same h = absurd h
fails_first i later old new screen after Usage same h = absurd h
fails_first i later old new screen after WriteFault same h = absurd h
fails_first i later old new screen after PrintFault same h = absurd h
fails_first i later old new screen after (Stopped outcome) same h = absurd h

-- what is known of a moment behind a load
pub record IsLoadedTo (old mid : Files) : Type 0 where
  pub same : Untouched old mid
  pub loads : old.load_faults ≤ mid.load_faults
  pub steady : IsTrue old.steady → IsTrue mid.steady

-- a later one could not be loaded
pub fails_later : (i : Input) (later : List Input) (old mid new : Files) (screen after : Screen) (ending : Ending) → IsLoadedTo old mid → LoadsFailAs later mid new screen after ending
    → LoadsFailAs (i ∷ later) old new screen after ending
fails_later i later old mid new screen after ReadFault to u = record {
  earlier = i ∷ u.earlier;
  input = u.input;
  later = u.later;
  inputs_are = ap (λ l. i ∷ l) u.inputs_are;
  cause = rose_before old.load_faults mid.load_faults new.load_faults to.loads u.cause;
  absent = λ steady. sym (to.same.each u.input.name) ∙ u.absent (to.steady steady);
  untouched = untouched_before old mid new to.same u.untouched;
  said = u.said;
}
fails_later i later old mid new screen after NoMemory to h = h
fails_later i later old mid new screen after Done to h = absurd h
fails_later i later old mid new screen after (Refused spot) to h = absurd h
fails_later i later old mid new screen after Usage to h = absurd h
fails_later i later old mid new screen after WriteFault to h = absurd h
fails_later i later old mid new screen after PrintFault to h = absurd h
fails_later i later old mid new screen after (Stopped outcome) to h = absurd h

loaded_under : (old mid : Contents) → ((name : List ℕ) → mid name ≡ old name) → (inputs : List Input) (loaded : List (List ℕ)) → AreLoaded mid inputs loaded → AreLoaded old inputs loaded
loaded_under old mid same [] [] h = h
loaded_under old mid same [] (x ∷ loaded) h = h
loaded_under old mid same (i ∷ inputs) [] h = h
loaded_under old mid same (i ∷ inputs) (x ∷ loaded) (h, hs) =
    (subst (λ o. IsLoaded o (i.limit + 1) x) (same i.name) h, loaded_under old mid same inputs loaded hs)

pub adds_none : (told : Bool) (content : Contents) (before : List (List ℕ)) → AddsLoaded told content [] before before
adds_none told content before = record { more = []; adds = append_none before; count = refl; loaded = λ t. tt }
  where
    append_none : (xs : List (List ℕ)) → xs ≡ xs ++ []
    append_none [] = refl
    append_none (x ∷ xs) = ap (λ (l : List (List ℕ)). x ∷ l) (append_none xs)

-- one input, and the others behind it
pub adds_more : (told told' : Bool) (content content' : Contents) (i : Input) (later : List Input) (before between after : List (List ℕ)) (bytes : List ℕ) → between ≡ before ++ bytes ∷ []
    → told' ≡ told → ((name : List ℕ) → content' name ≡ content name) → (IsTrue told → IsLoaded (content i.name) (i.limit + 1) bytes) → AddsLoaded told' content' later between after
    → AddsLoaded told content (i ∷ later) before after
adds_more told told' content content' i later before between after bytes e told_is same first a = record {
  more = bytes ∷ a.more;
  adds = a.adds ∙ ap (λ (l : List (List ℕ)). l ++ a.more) e ∙ append_assoc before (bytes ∷ []) a.more;
  count = ap suc a.count;
  loaded = λ t. (first t, loaded_under content content' same later a.more (a.loaded (told_is ∙ t)));
}

pub contents_more : (files : List (Vec ℕ Global)) (v : Vec ℕ Global) → contents_of (files ++ v ∷ []) ≡ contents_of files ++ v.items ∷ []
contents_more files v = map-append (λ (w : Vec ℕ Global). w.items) files (v ∷ [])

-- the names from the first on
pub names_from : (names : List (String Global)) (n : String Global) → 1 ≤ length names → n ≡ get_or names 0 n → map string_bytes names ≡ string_bytes n ∷ map string_bytes (take (length names - 1) (drop 1 names))
names_from [] n some is = absurd (omega arith)
names_from (x ∷ names) n some is =
    let all : length names ≤ length (x ∷ names) - 1 = omega arith in
    ap (λ (y : String Global). string_bytes y ∷ map string_bytes names) (sym is) ∙ ap (λ (l : List (String Global)). string_bytes n ∷ map string_bytes l) (sym (take_all (length (x ∷ names) - 1) names all))

-- files up to one of them, and behind it
module _ (files : List (Vec ℕ Global)) (k : ℕ) (v : Vec ℕ Global) (below : k < length files) (is : v ≡ get_or files k v) where
  pub contents_split : contents_of files ≡ contents_of (take k files) ++ v.items ∷ contents_of (drop (suc k) files)
  contents_split =
      let rest : drop k files ≡ v ∷ drop (suc k) files = drop-cons files k v below ∙ ap (λ (w : Vec ℕ Global). w ∷ drop (suc k) files) (sym is) in
      ap contents_of (sym (take-append-drop k files)) ∙ map-append (λ (w : Vec ℕ Global). w.items) (take k files) (drop k files)
      ∙ ap (λ (l : List (Vec ℕ Global)). contents_of (take k files) ++ contents_of l) rest

  pub contents_next : contents_of (take (k + 1) files) ≡ contents_of (take k files) ++ v.items ∷ []
  contents_next =
      let one : take (k + 1) files ≡ take k files ++ v ∷ [] = take_more files k v below ∙ ap (λ (w : Vec ℕ Global). take k files ++ w ∷ []) (sym is) in
      ap contents_of one ∙ contents_more (take k files) v

  pub holds_here : (P : List ℕ → Type 0) → All P (contents_of files) → P v.items
  holds_here P all = at_middle P (contents_of (take k files)) v.items (contents_of (drop (suc k) files)) (subst (All P) contents_split all)

  pub before_count : length (contents_of (take k files)) ≡ k
  before_count =
      let a = length-map (take k files) (λ (w : Vec ℕ Global). w.items) in
      let b = length-take k files in
      omega arith

  pub too_long : (l : Limit) → All (λ f. length f ≤ l.file) (contents_of (take k files)) → l.file < length v.items → IsTooLong l (contents_of files) (in_file k (at_start TooLong))
  too_long l short long = record {
    earlier = contents_of (take k files);
    file = v.items;
    later = contents_of (drop (suc k) files);
    files_are = contents_split;
    short = short;
    long = long;
    spot_is = ap (λ (n : ℕ). in_file n (at_start TooLong)) (sym before_count);
  }

  pub faulty : (l : Limit) (spot : Spot) → All (λ f. length f ≤ l.file) (contents_of files) → All (λ f. IsFaultless f l) (contents_of (take k files)) → IsFirstFault v.items l spot
      → IsFaulty l (contents_of files) (in_file k spot)
  faulty l spot short none first = record {
    short = short;
    earlier = contents_of (take k files);
    file = v.items;
    later = contents_of (drop (suc k) files);
    files_are = contents_split;
    faultless = none;
    fault = spot;
    first = first;
    spot_is = ap (λ (n : ℕ). in_file n spot) (sym before_count);
  }

  pub denied : (l : Limit) (why : Deny) → All (λ f. length f ≤ l.file) (contents_of files) → All (λ f. IsFaultless f l) (contents_of (take k files)) → IsDeniedFor v.items l why
      → IsTurnedDown (IsFaulty l (contents_of files)) (deny_in k why)
  denied l deny.NoMemory short none h = tt
  denied l (deny.Refused spot) short none h = faulty l spot short none h

pub read_more : (l : Limit) (files : List (List ℕ)) (objects : List ObjectParts) (file : List ℕ) (o : ObjectParts) → AreReadAs l files objects → IsReadAs l file o
    → AreReadAs l (files ++ file ∷ []) (objects ++ o ∷ [])
read_more l [] [] file o h one = (one, tt)
read_more l [] (p ∷ objects) file o h one = absurd h
read_more l (f ∷ files) [] file o h one = absurd h
read_more l (f ∷ files) (p ∷ objects) file o (h, hs) one = (h, read_more l files objects file o hs one)

pub as_many : (l : Limit) (files : List (List ℕ)) (objects : List ObjectParts) → AreReadAs l files objects → length objects ≡ length files
as_many l [] [] h = refl
as_many l [] (p ∷ objects) h = absurd h
as_many l (f ∷ files) [] h = absurd h
as_many l (f ∷ files) (p ∷ objects) (h, hs) = ap suc (as_many l files objects hs)

-- what was loaded of one input
pub one_file : (files : List (Vec ℕ Global)) (v : Vec ℕ Global) → length files ≡ 1 → v ≡ get_or files 0 v → contents_of files ≡ v.items ∷ []
one_file [] v e is = absurd (omega arith)
one_file (x ∷ []) v e is = ap (λ (w : Vec ℕ Global). w.items ∷ []) (sym is)
one_file (x ∷ y ∷ files) v e is = absurd (omega arith)

-- Objects of files that are read are within the limits, and objects.
pub all_within : (l : Limit) (files : List (List ℕ)) (objects : List ObjectParts) → AreReadAs l files objects → All (λ o. IsTrue (is_within o l)) objects
all_within l [] [] h = All-nil (λ o. IsTrue (is_within o l))
all_within l [] (o ∷ objects) h = absurd h
all_within l (f ∷ files) [] h = absurd h
all_within l (f ∷ files) (o ∷ objects) (h, hs) =
    All-cons (λ (p : ObjectParts). IsTrue (is_within p l)) o objects (read_within f l o h.faultless h.stands) (all_within l files objects hs)

-- the names of inputs by number
pub named_at : (limit : ℕ) (names : List (List ℕ)) (k : ℕ) (d : List ℕ) → k < length names → input_named (inputs_of limit names) k ≡ get_or names k d
named_at limit [] k d below = absurd (omega arith)
named_at limit (n ∷ []) zero d below = refl
named_at limit (n ∷ []) (suc k) d below = absurd (omega arith)
named_at limit (n ∷ m ∷ names) zero d below = refl
named_at limit (n ∷ m ∷ names) (suc k) d below = named_at limit (m ∷ names) k d (omega arith)

pub named_last : (limit : ℕ) (names : List (List ℕ)) (k : ℕ) (d : List ℕ) → length names ≤ k → 1 ≤ length names → input_named (inputs_of limit names) k ≡ get_or names (length names - 1) d
named_last limit [] k d above some = absurd (omega arith)
named_last limit (n ∷ []) k d above some = refl
named_last limit (n ∷ m ∷ names) zero d above some = absurd (omega arith)
named_last limit (n ∷ m ∷ names) (suc k) d above some =
    let last : suc (length (m ∷ names) - 1) ≡ length (n ∷ m ∷ names) - 1 = omega arith in
    named_last limit (m ∷ names) k d (omega arith) (omega arith) ∙ ap (λ (i : ℕ). get_or (n ∷ m ∷ names) i d) last

pub name_is : (names : List (String Global)) (k : ℕ) (n : String Global) → k < length names → n ≡ get_or names k n → get_or (map string_bytes names) k (string_bytes n) ≡ string_bytes n
name_is [] k n below is = absurd (omega arith)
name_is (x ∷ names) zero n below is = ap string_bytes (sym is)
name_is (x ∷ names) (suc k) n below is = name_is names k n (omega arith) is

-- The steps of loading the inputs of some names, of which the first is n.
pub adds_nothing : (told : Bool) (content : Contents) (limit : ℕ) (names : List (String Global)) (before : List (List ℕ)) → length names < 1
    → AddsLoaded told content (inputs_of limit (map string_bytes names)) before before
adds_nothing told content limit [] before none = adds_none told content before
adds_nothing told content limit (x ∷ names) before none = absurd (omega arith)

module _ (limit : ℕ) (names : List (List ℕ)) (n : List ℕ) (rest : List (List ℕ)) (are : names ≡ n ∷ rest) where
  pub first_unread : (old new : Files) (screen after : Screen) (ending : Ending) → Untouched old new → LoadFailsAs n old new screen after ending → LoadsFailAs (inputs_of limit names) old new screen after ending
  first_unread old new screen after ending same h =
      subst (λ (l : List (List ℕ)). LoadsFailAs (inputs_of limit l) old new screen after ending) (sym are)
      (fails_first (record { name = n; limit = limit }) (inputs_of limit rest) old new screen after ending same h)

  pub later_unread : {X : Type 0} (r : Result X Ending) (old mid new : Files) (screen after : Screen) → IsLoadedTo old mid → IfErr r (LoadsFailAs (inputs_of limit rest) mid new screen after)
      → IfErr r (LoadsFailAs (inputs_of limit names) old new screen after)
  later_unread (Ok x) old mid new screen after to h = h
  later_unread (Err ending) old mid new screen after to h =
      subst (λ (l : List (List ℕ)). LoadsFailAs (inputs_of limit l) old new screen after ending) (sym are)
      (fails_later (record { name = n; limit = limit }) (inputs_of limit rest) old mid new screen after ending to h)

  pub later_added : {X E : Type 0} (r : Result X E) (told told' : Bool) (content content' : Contents) (before between after : List (List ℕ)) (bytes : List ℕ) → between ≡ before ++ bytes ∷ []
      → told' ≡ told → ((name : List ℕ) → content' name ≡ content name) → (IsTrue told → IsLoaded (content n) (limit + 1) bytes) → OnOk r (AddsLoaded told' content' (inputs_of limit rest) between after)
      → OnOk r (AddsLoaded told content (inputs_of limit names) before after)
  later_added (Err e) told told' content content' before between after bytes pushed told_is same first h = h
  later_added (Ok x) told told' content content' before between after bytes pushed told_is same first h =
      subst (λ (l : List (List ℕ)). AddsLoaded told content (inputs_of limit l) before after) (sym are)
      (adds_more told told' content content' (record { name = n; limit = limit }) (inputs_of limit rest) before between after bytes pushed told_is same first h)

  pub first_there : (P : List ℕ → Type 0) → All P names → P n
  first_there P all = All-head P n rest (subst (All P) are all)

  pub later_there : (old mid : Contents) → ((name : List ℕ) → mid name ≡ old name) → All (λ (name : List ℕ). IsSome (old name)) names → All (λ (name : List ℕ). IsSome (mid name)) rest
  later_there old mid same all =
      let tail = All-tail (λ (name : List ℕ). IsSome (old name)) n rest (subst (All (λ (name : List ℕ). IsSome (old name))) are all) in
      λ k d below. subst (λ (o : Option (List ℕ)). IsSome o) (sym (same (get_or rest k d))) (tail k d below)

pub stay_on : (old mid new : Files) (screen between after : Screen) → CountsStay old mid screen between → CountsStay mid new between after → CountsStay old new screen after
stay_on old mid new screen between after first second =
    record { loads = second.loads ∙ first.loads; saves = second.saves ∙ first.saves; puts = second.puts ∙ first.puts }

pub contents_count : (files : List (Vec ℕ Global)) → length (contents_of files) ≡ length files
contents_count files = length-map files (λ (v : Vec ℕ Global). v.items)
