-- What the files of a shelf in memory hold, by the place of a name and after a write.
use Rattle.std.proofs.Common.{◌≡◌, ◌≢◌, ◌<◌, ◌+◌, ◌∙◌, ℕ, zero, suc, Bool, true, false, cond, List, [], ◌∷◌, ◌++◌, length, Some, None, get_or, refl, sym, ap, arith, set, not, ◌||◌, ◌&&◌}
use Rattle.std.specs.List.{position_from}
use Rattle.std.specs.Str.{bytes_eq}
use Rattle.std.proofs.lemmas.List.Quantifiers.{position-Some}
use Rattle.std.proofs.lemmas.Iterator.Adapters.{position_from-zero}
use Rattle.std.proofs.lemmas.Slice.Eq.{bytes_eq-Decides}
use Rattle.guard_io.specs.declared.mem_shelf.NamedFile.{NamedFile}
use Rattle.guard_io.specs.Memory.{content, written, place, is_named, names_differ}
use Rattle.guard_io.proofs.Calls.{both}
use Rattle.std.specs.Cmp.Derive.{both_true}

true_is_not_false : true ≡ false → ⊥
true_is_not_false e = cc

abbrev named_file : List ℕ → List ℕ → NamedFile
named_file name bytes = record { name = name; bytes = bytes }

abbrev has_name : List ℕ → NamedFile → Bool
has_name name f = bytes_eq f.name name

content_before : (files : List NamedFile) (name : List ℕ) (i : ℕ) (d : NamedFile) → i < length files → has_name name (get_or files i d) ≡ true → ((k : ℕ) → k < i → has_name name (get_or files k d) ≡ false) → content files name ≡ Some (get_or files i d).bytes
content_before [] name i d within here before = absurd (omega arith)
content_before (f ∷ files) name zero d within here before = rw here
content_before (f ∷ files) name (suc i) d within here before =
    let other : has_name name f ≡ false = before 0 (omega arith) in
    rw other (content_before files name i d (omega arith) here (λ k below. before (suc k) (omega arith)))

written_before : (files : List NamedFile) (name bytes : List ℕ) (i : ℕ) (d : NamedFile) → i < length files → has_name name (get_or files i d) ≡ true → ((k : ℕ) → k < i → has_name name (get_or files k d) ≡ false) → written files name bytes ≡ set files i (named_file name bytes)
written_before [] name bytes i d within here before = absurd (omega arith)
written_before (f ∷ files) name bytes zero d within here before = rw here
written_before (f ∷ files) name bytes (suc i) d within here before =
    let other : has_name name f ≡ false = before 0 (omega arith) in
    rw other (ap (λ rest. f ∷ rest) (written_before files name bytes i d (omega arith) here (λ k below. before (suc k) (omega arith))))

content_after : (files : List NamedFile) (name : List ℕ) (i : ℕ) → position_from (has_name name) i files ≡ None → content files name ≡ None
content_after [] name i none = refl
content_after (f ∷ files) name i none =
    elim (has_name name f) as (λ b. cond b (Some i) (position_from (has_name name) (i + 1) files) ≡ None → cond b (Some f.bytes) (content files name) ≡ None) [
      | true ↦ (λ e. absurd (cc e))
      | false ↦ content_after files name (i + 1)
    ] none

written_after : (files : List NamedFile) (name bytes : List ℕ) (i : ℕ) → position_from (has_name name) i files ≡ None → written files name bytes ≡ files ++ named_file name bytes ∷ []
written_after [] name bytes i none = refl
written_after (f ∷ files) name bytes i none =
    elim (has_name name f) as (λ b. cond b (Some i) (position_from (has_name name) (i + 1) files) ≡ None → cond b (named_file name bytes ∷ files) (f ∷ written files name bytes) ≡ f ∷ (files ++ named_file name bytes ∷ [])) [
      | true ↦ (λ e. absurd (cc e))
      | false ↦ (λ e. ap (λ rest. f ∷ rest) (written_after files name bytes (i + 1) e))
    ] none

-- the file at the first place of a name is what the name stands for, and what a write replaces
pub content-place : (files : List NamedFile) (name : List ℕ) (i : ℕ) (d : NamedFile) → place files name ≡ Some i → content files name ≡ Some (get_or files i d).bytes
content-place files name i d at =
    let h = position-Some (has_name name) files i d at in
    content_before files name i d h.0 h.1 h.2

pub written-place : (files : List NamedFile) (name bytes : List ℕ) (i : ℕ) → place files name ≡ Some i → written files name bytes ≡ set files i (named_file name bytes)
written-place files name bytes i at =
    let d : NamedFile = named_file [] [] in
    let h = position-Some (has_name name) files i d at in
    written_before files name bytes i d h.0 h.1 h.2

-- a name without a place has no file, and a write adds one at the end
pub content-no_place : (files : List NamedFile) (name : List ℕ) → place files name ≡ None → content files name ≡ None
content-no_place files name none = content_after files name 0 (sym (position_from-zero (has_name name) files) ∙ none)

pub written-no_place : (files : List NamedFile) (name bytes : List ℕ) → place files name ≡ None → written files name bytes ≡ files ++ named_file name bytes ∷ []
written-no_place files name bytes none = written_after files name bytes 0 (sym (position_from-zero (has_name name) files) ∙ none)

different_name : (a b : List ℕ) → a ≢ b → bytes_eq a b ≡ false
different_name a b different =
    (elim (bytes_eq a b) as (λ v. bytes_eq a b ≡ v → v ≡ false) [
      | true ↦ (λ e. absurd (different ((bytes_eq-Decides a b).0 e)))
      | false ↦ (λ e. refl)
    ]) refl

same_name : (name : List ℕ) → bytes_eq name name ≡ true
same_name name = (bytes_eq-Decides name name).1 refl

-- after a write the name holds the bytes, and every other name what it held
pub content-written_same : (files : List NamedFile) (name bytes : List ℕ) → content (written files name bytes) name ≡ Some bytes
content-written_same [] name bytes = rw (same_name name)
content-written_same (f ∷ files) name bytes =
    (elim (has_name name f) as (λ b. has_name name f ≡ b → content (cond b (named_file name bytes ∷ files) (f ∷ written files name bytes)) name ≡ Some bytes) [
      | true ↦ (λ e. rw (same_name name))
      | false ↦ (λ e. rw e (content-written_same files name bytes))
    ]) refl

pub content-written_other : (files : List NamedFile) (name bytes other : List ℕ) → other ≢ name → content (written files name bytes) other ≡ content files other
content-written_other [] name bytes other different =
    let no : bytes_eq name other ≡ false = different_name name other (λ (e : name ≡ other). different (sym e)) in rw no
content-written_other (f ∷ files) name bytes other different =
    let no : bytes_eq name other ≡ false = different_name name other (λ (e : name ≡ other). different (sym e)) in
    (elim (has_name name f) as (λ b. has_name name f ≡ b → content (cond b (named_file name bytes ∷ files) (f ∷ written files name bytes)) other ≡ content (f ∷ files) other) [
      | true ↦ (λ e. let here : f.name ≡ name = (bytes_eq-Decides f.name name).0 e in
          let also : bytes_eq f.name other ≡ false = ap (λ n. bytes_eq n other) here ∙ no in
          rw (no, also))
      | false ↦ (λ e. ap (λ rest. cond (has_name other f) (Some f.bytes) rest) (content-written_other files name bytes other different))
    ]) refl

is_named-written : (files : List NamedFile) (name bytes other : List ℕ) → other ≢ name → is_named (written files name bytes) other ≡ is_named files other
is_named-written [] name bytes other different =
    let no : bytes_eq name other ≡ false = different_name name other (λ (e : name ≡ other). different (sym e)) in
    rw no
is_named-written (f ∷ files) name bytes other different =
    let no : bytes_eq name other ≡ false = different_name name other (λ (e : name ≡ other). different (sym e)) in
    (elim (has_name name f) as (λ b. has_name name f ≡ b → is_named (cond b (named_file name bytes ∷ files) (f ∷ written files name bytes)) other ≡ is_named (f ∷ files) other) [
      | true ↦ (λ e. let here : f.name ≡ name = (bytes_eq-Decides f.name name).0 e in
          let also : bytes_eq f.name other ≡ false = ap (λ n. bytes_eq n other) here ∙ no in
          rw (no, also))
      | false ↦ (λ e. ap (λ rest. has_name other f || rest) (is_named-written files name bytes other different))
    ]) refl

-- a write keeps the names different
pub names_differ-written : (files : List NamedFile) (name bytes : List ℕ) → names_differ files ≡ true → names_differ (written files name bytes) ≡ true
names_differ-written [] name bytes differ = refl
names_differ-written (f ∷ files) name bytes differ =
    let h = both (not (is_named files f.name)) (names_differ files) differ in
    (elim (has_name name f) as (λ b. has_name name f ≡ b → names_differ (cond b (named_file name bytes ∷ files) (f ∷ written files name bytes)) ≡ true) [
      | true ↦ (λ e. let here : f.name ≡ name = (bytes_eq-Decides f.name name).0 e in
          ap (λ n. not (is_named files n) && names_differ files) (sym here) ∙ differ)
      | false ↦ (λ e. let apart : f.name ≢ name = λ (same : f.name ≡ name). absurd (true_is_not_false (sym ((bytes_eq-Decides f.name name).1 same) ∙ e)) in
          both_true (ap not (is_named-written files name bytes f.name apart) ∙ h.0) (names_differ-written files name bytes h.1))
    ]) refl

pub names_differ-more : (files : List NamedFile) (name bytes : List ℕ) → place files name ≡ None → names_differ files ≡ true → names_differ (files ++ named_file name bytes ∷ []) ≡ true
names_differ-more files name bytes none differ =
    ap names_differ (sym (written-no_place files name bytes none)) ∙ names_differ-written files name bytes differ

pub ruleset place_laws = (content-place, content-no_place, written-place, written-no_place)

pub ruleset write_laws = (content-written_same, content-written_other)

pub ruleset name_laws = (names_differ-written, names_differ-more)
