-- How words are options and files, in one way at most.
use Rattle.std.proofs.Common.{◌≡◌, ◌≢◌, ◌<◌, ℕ, zero, suc, Bool, true, false, List, [], ◌∷◌, ◌++◌, length, get_or, Option, Some, None, refl, sym, ap, ◌∙◌, subst, arith, append_assoc, append-nil}
use Rattle.std.specs.Prelude.{All, AllPairs, is_some, if◌then◌else◌}
use Rattle.std.specs.List.{flat_map}
use Rattle.std.proofs.Math.ListN.{get_or-append}
use Rattle.std.proofs.Math.Seq.{get_or-append_seam}
use Rattle.std.proofs.lemmas.Bool.{false≢true}
use Rattle.std.proofs.lemmas.List.{length-append}
use Rattle.std.proofs.lemmas.List.Concat.{flat_map-append}
use Rattle.std.proofs.lemmas.List.Elements.{All-nil, All-push, All-head, All-tail}
use Rattle.std.proofs.lemmas.List.Quantifiers.{all_pairs_push}
use Rattle.guard_words.specs.declared.options.OptionName.{OptionName}
use Rattle.guard_words.specs.declared.options.Options.{Options}
use Rattle.guard_words.specs.Words.{IsFileName, Setting, spelled, same_option, AreArranged, value_of}
use Rattle.guard_words.specs.Arranged.{value_in, BeginsWith, AreOptions}
use Rattle.guard_words.proofs.Fronts.{same_itself, same_is, same_front, front_is_no_file}

abbrev pub HasValue : Setting → Type 0
HasValue s = IsFileName s.value

abbrev pub AreTwo : Setting → Setting → Type 0
AreTwo s t = s.name ≢ t.name

-- an option that is not there
pub absent : (ss : List Setting) (name : OptionName) → value_of ss name ≡ None → (k : ℕ) (d : Setting) → k < length ss → (get_or ss k d).name ≢ name
absent [] name e k d below = absurd (omega arith)
absent (s ∷ ss) name e k d below = go (absent ss name) (same_option s.name name) refl k below e
  where
    go : (value_of ss name ≡ None → (k : ℕ) (d : Setting) → k < length ss → (get_or ss k d).name ≢ name) → (t : Bool) → same_option s.name name ≡ t →
        (k : ℕ) → k < length (s ∷ ss) → (if t then Some s.value else value_of ss name) ≡ None → (get_or (s ∷ ss) k d).name ≢ name
    go later true same k below h = absurd (cc)
    go later false same zero below h = λ is. absurd (false≢true (sym same ∙ ap (λ n. same_option n name) is ∙ same_itself name))
    go later false same (suc k) below h = later h k d (omega arith)

abbrev IsThere : List Setting → OptionName → Type 0
IsThere ss name = (k : ℕ) × (k < length ss) × ((d : Setting) → (get_or ss k d).name ≡ name)

-- an option that is there
pub present : (ss : List Setting) (name : OptionName) (v : List ℕ) → value_of ss name ≡ Some v → (k : ℕ) × (k < length ss) × ((d : Setting) → (get_or ss k d).name ≡ name)
present [] name v e = absurd (cc)
present (s ∷ ss) name v e = go (present ss name v) (same_option s.name name) refl e
  where
    go : (value_of ss name ≡ Some v → IsThere ss name) → (t : Bool) → same_option s.name name ≡ t → (if t then Some s.value else value_of ss name) ≡ Some v → IsThere (s ∷ ss) name
    go later true same h = (0, omega arith, λ d. same_is s.name name same)
    go later false same h = let there = later h in (suc there.0, omega (arith, there.1), there.2)

-- one option more
pub value_pushed : (ss : List Setting) (m : Setting) (name : OptionName) → value_of ss m.name ≡ None → value_of (ss ++ m ∷ []) name ≡ (if same_option m.name name then Some m.value else value_of ss name)
value_pushed [] m name e = refl
value_pushed (s ∷ ss) m name e = go (value_pushed ss m name) (same_option s.name m.name) (same_option s.name name) refl refl e
  where
    other : (t : Bool) → same_option s.name m.name ≡ false → same_option s.name name ≡ true → same_option m.name name ≡ t →
        Some s.value ≡ (if t then Some m.value else Some s.value)
    other false apart same is = refl
    other true apart same is = absurd (false≢true (sym apart ∙ ap (λ n. same_option s.name n) (same_is m.name name is) ∙ same))

    go : (value_of ss m.name ≡ None → value_of (ss ++ m ∷ []) name ≡ (if same_option m.name name then Some m.value else value_of ss name)) →
        (t u : Bool) → same_option s.name m.name ≡ t → same_option s.name name ≡ u → (if t then Some s.value else value_of ss m.name) ≡ None →
        (if u then Some s.value else value_of (ss ++ m ∷ []) name) ≡ (if same_option m.name name then Some m.value else (if u then Some s.value else value_of ss name))
    go later true u apart same h = absurd (cc)
    go later false true apart same h = other (same_option m.name name) apart same refl
    go later false false apart same h = later h

-- Words that are options and files go on behind the options that were read of them.
pub continues : (read settings : List Setting) (files rest : List (List ℕ)) → flat_map spelled settings ++ files ≡ flat_map spelled read ++ rest →
    All HasValue settings → All HasValue read → All IsFileName files → (more : List Setting) × (settings ≡ read ++ more) × (rest ≡ flat_map spelled more ++ files) × All HasValue more
continues [] settings files rest e values read_values names = (settings, refl, sym e, values)
continues (r ∷ read) [] files rest e values read_values names =
    absurd (front_is_no_file files (flat_map spelled read ++ rest) r names (record { words_are = e ∙ append_assoc (spelled r) (flat_map spelled read) rest; fits = All-head HasValue r read read_values }))
continues (r ∷ read) (s ∷ settings) files rest e values read_values names =
    let words = flat_map spelled (s ∷ settings) ++ files in
    let front : BeginsWith words s (flat_map spelled settings ++ files) =
    record { words_are = append_assoc (spelled s) (flat_map spelled settings) files; fits = All-head HasValue s settings values } in
    let front' : BeginsWith words r (flat_map spelled read ++ rest) =
    record { words_are = e ∙ append_assoc (spelled r) (flat_map spelled read) rest; fits = All-head HasValue r read read_values } in
    let same = same_front words (flat_map spelled settings ++ files) (flat_map spelled read ++ rest) s r front front' in
    let later = continues read settings files rest same.1 (All-tail HasValue s settings values) (All-tail HasValue r read read_values) names in
    (later.0, ap (λ t. t ∷ settings) same.0 ∙ ap (λ ss. r ∷ ss) later.1, later.2, later.3)

-- THE LAW OF ARRANGEMENTS: words are options and files in one way at most.
pub same_arrangement : (words : List (List ℕ)) (ss ts : List Setting) (fs gs : List (List ℕ)) → AreArranged words ss fs → AreArranged words ts gs → (ss ≡ ts) × (fs ≡ gs)
same_arrangement words ss ts fs gs a b =
    let later = continues ss ts gs fs (sym b.words_are ∙ a.words_are) b.values a.values b.names in
    go later.0 later.1 later.2 later.3
  where
    go : (more : List Setting) → ts ≡ ss ++ more → fs ≡ flat_map spelled more ++ gs → All HasValue more → (ss ≡ ts) × (fs ≡ gs)
    go [] e f values = (sym (e ∙ append-nil ss), f)
    go (m ∷ more) e f values =
        absurd (front_is_no_file fs (flat_map spelled more ++ gs) m a.names (record { words_are = f ∙ append_assoc (spelled m) (flat_map spelled more) gs; fits = All-head HasValue m more values }))

-- options that were read of words, and the words behind them
pub record HasRead (words rest : List (List ℕ)) (o : Options) (settings : List Setting) : Type 0 where
  pub words_are : words ≡ flat_map spelled settings ++ rest
  pub once : AllPairs (λ (s : Setting) (t : Setting). s.name ≢ t.name) settings
  pub values : All (λ (s : Setting). IsFileName s.value) settings
  pub options : AreOptions o settings

pub none_read : (words : List (List ℕ)) (o : Options) → ((name : OptionName) → value_in o name ≡ None) → HasRead words words o []
none_read words o none = record {
  words_are = refl;
  once = λ i j d before below. absurd (omega arith);
  values = All-nil HasValue;
  options = none;
}

pub one_read : (words rest rest' : List (List ℕ)) (o o' : Options) (read : List Setting) (m : Setting) → HasRead words rest o read → BeginsWith rest m rest' → value_in o m.name ≡ None →
    ((name : OptionName) → value_in o' name ≡ (if same_option m.name name then Some m.value else value_in o name)) → HasRead words rest' o' (read ++ m ∷ [])
one_read words rest rest' o o' read m has front none more =
    let free : value_of read m.name ≡ None = sym (has.options m.name) ∙ none in
    let spell : flat_map spelled (read ++ m ∷ []) ≡ flat_map spelled read ++ spelled m = flat_map-append spelled read (m ∷ []) ∙ ap (λ l. flat_map spelled read ++ l) (append-nil (spelled m)) in
    record {
      words_are = has.words_are ∙ ap (λ l. flat_map spelled read ++ l) front.words_are ∙ sym (append_assoc (flat_map spelled read) (spelled m) rest') ∙ ap (λ l. l ++ rest') (sym spell);
      once = all_pairs_push AreTwo read m has.once (absent read m.name free);
      values = All-push HasValue read m has.values front.fits;
      options = λ name. more name ∙ ap (λ v. if same_option m.name name then Some m.value else v) (has.options name) ∙ sym (value_pushed read m name free);
    }

name_again : (read more : List Setting) (s : Setting) (k : ℕ) → k < length read → (get_or read k s).name ≡ s.name → AllPairs AreTwo (read ++ s ∷ more) → ⊥
name_again read more s k below same pairs =
    let first : get_or (read ++ s ∷ more) k s ≡ get_or read k s = get_or-append read (s ∷ more) s k below in
    let second : get_or (read ++ s ∷ more) (length read) s ≡ s = get_or-append_seam read s more s in
    pairs k (length read) s below (omega (arith, length-append read (s ∷ more))) (ap (λ (t : Setting). t.name) first ∙ same ∙ sym (ap (λ (t : Setting). t.name) second))

-- An option that stands twice is in no arrangement.
pub twice : (words rest rest' : List (List ℕ)) (o : Options) (read : List Setting) (m : Setting) (v : List ℕ) → HasRead words rest o read → BeginsWith rest m rest' → value_in o m.name ≡ Some v →
    (settings : List Setting) (files : List (List ℕ)) → AreArranged words settings files → ⊥
twice words rest rest' o read m v has front there settings files are =
    let later = continues read settings files rest (sym are.words_are ∙ has.words_are) are.values has.values are.names in
    go later.0 later.1 later.2 later.3
  where
    go : (more : List Setting) → settings ≡ read ++ more → rest ≡ flat_map spelled more ++ files → All HasValue more → ⊥
    go [] e f values = front_is_no_file files rest' m are.names (record { words_are = sym f ∙ front.words_are; fits = front.fits })
    go (s ∷ more) e f values =
        let front' : BeginsWith rest s (flat_map spelled more ++ files) = record { words_are = f ∙ append_assoc (spelled s) (flat_map spelled more) files; fits = All-head HasValue s more values } in
        let same = same_front rest (flat_map spelled more ++ files) rest' s m front' front in
        let at = present read m.name v (sym (has.options m.name) ∙ there) in
        name_again read more s at.0 at.1 (at.2 s ∙ sym (ap (λ (t : Setting). t.name) same.0)) (subst (AllPairs AreTwo) e are.once)

-- Words behind options that are neither an option nor files are in no arrangement.
pub no_files : (words rest : List (List ℕ)) (o : Options) (read : List Setting) → HasRead words rest o read → ((s : Setting) (rest' : List (List ℕ)) → BeginsWith rest s rest' → ⊥) → (All IsFileName rest → ⊥) →
    (settings : List Setting) (files : List (List ℕ)) → AreArranged words settings files → ⊥
no_files words rest o read has no_front none settings files are =
    let later = continues read settings files rest (sym are.words_are ∙ has.words_are) are.values has.values are.names in
    go later.0 later.1 later.2 later.3
  where
    go : (more : List Setting) → settings ≡ read ++ more → rest ≡ flat_map spelled more ++ files → All HasValue more → ⊥
    go [] e f values = none (subst (All IsFileName) (sym f) are.names)
    go (s ∷ more) e f values = no_front s (flat_map spelled more ++ files) (record { words_are = f ∙ append_assoc (spelled s) (flat_map spelled more) files; fits = All-head HasValue s more values })

pub all_read : (words files : List (List ℕ)) (o : Options) (read : List Setting) → HasRead words files o read → All IsFileName files → AreArranged words read files
all_read words files o read has names = record { words_are = has.words_are; once = has.once; values = has.values; names = names }

pub value_there : {X : Type 0} (o : Option X) (t : Bool) → t ≡ is_some o → t ≡ true → (x : X) × (o ≡ Some x)
value_there None t e h = absurd (false≢true (sym e ∙ h))
value_there (Some x) t e h = (x, refl)

pub value_absent : {X : Type 0} (o : Option X) (t : Bool) → t ≡ is_some o → t ≡ false → o ≡ None
value_absent None t e h = refl
value_absent (Some x) t e h = absurd (false≢true (sym h ∙ e))
