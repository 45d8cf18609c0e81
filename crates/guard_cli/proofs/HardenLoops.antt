-- The steps of the loops of `harden`: what is made so far, with what is made of the rest, is all.
use Rattle.std.proofs.Common.{◌≡◌, ◌≤◌, ◌<◌, ◌+◌, ◌-◌, ℕ, zero, suc, ◌^◌, List, [], ◌∷◌, ◌++◌, length, get_or, take, drop, map, String, Global, string_bytes, Some, refl, sym, ap, ◌∙◌, arith, append_assoc}
use Rattle.std.specs.List.{flat_map}
use Rattle.std.specs.Prelude.{slice_get}
use Rattle.std.proofs.lemmas.Option.{none-some, same_Some}
use Rattle.std.proofs.Math.Seq.{drop-cons}
use Rattle.std.proofs.lemmas.List.{append-nil, map-append, take_all}
use Rattle.elf_model.specs.declared.objects.Section.{Section}
use Rattle.elf_model.specs.Fields.{byte_at}
use Rattle.elf_model.specs.Objects.{ObjectParts, code_size}
use Rattle.flat_link.specs.Existing.{HaveBytes}
use Rattle.harden_core.specs.declared.hardening.Hardened.{Hardened}
use Rattle.guard_words.specs.Words.{Pair}
use Rattle.guard_words.specs.Tasks.{pairs_in}
use Rattle.guard_cli.specs.declared.outputs.Output.{Output}
use Rattle.guard_cli.specs.declared.texts.Counts.{Counts}
use Rattle.guard_cli.specs.HardenSteps.{saves_by, counts_of, all_counts, tally_with, tallies_with}
use Rattle.guard_cli.specs.Steps.{save_of, saves_of}
use Rattle.guard_cli.specs.Texts.{tally_line}
use Rattle.guard_cli.specs.Works.{Save}

-- The first pair of names, and those behind it.
abbrev pub behind : List (String Global) → List (String Global)
behind names = take (length names - 2) (drop 2 names)

pub pairs_next : (names : List (String Global)) (input output : String Global) → 2 ≤ length names → input ≡ get_or names 0 input → output ≡ get_or names 1 output
    → pairs_in (map string_bytes names) ≡ record { input = string_bytes input; output = string_bytes output } ∷ pairs_in (map string_bytes (behind names))
pairs_next [] input output some is it = absurd (omega arith)
pairs_next (x ∷ []) input output some is it = absurd (omega arith)
pairs_next (x ∷ y ∷ names) input output some is it =
    let all : length names ≤ length (x ∷ y ∷ names) - 2 = omega arith in
    ap (λ (n : String Global). record { input = string_bytes n; output = string_bytes y } ∷ pairs_in (map string_bytes names)) (sym is)
    ∙ ap (λ (n : String Global). record { input = string_bytes input; output = string_bytes n } ∷ pairs_in (map string_bytes names)) (sym it)
    ∙ ap (λ (l : List (String Global)). record { input = string_bytes input; output = string_bytes output } ∷ pairs_in (map string_bytes l)) (sym (take_all (length (x ∷ y ∷ names) - 2) names all))

-- the same where the input is not looked at
pub pairs_next_output : (names : List (String Global)) (output : String Global) → 2 ≤ length names → output ≡ get_or names 1 output
    → pairs_in (map string_bytes names) ≡ record { input = string_bytes (get_or names 0 output); output = string_bytes output } ∷ pairs_in (map string_bytes (behind names))
pairs_next_output [] output some it = absurd (omega arith)
pairs_next_output (x ∷ names) output some it = pairs_next (x ∷ names) x output some refl it

-- Fewer than two names are no pair.
pub pairs_none : (names : List (String Global)) → length names < 2 → pairs_in (map string_bytes names) ≡ []
pairs_none [] few = refl
pairs_none (x ∷ []) few = refl
pairs_none (x ∷ y ∷ names) few = absurd (omega arith)

-- Where something is left, there are names of a pair.
pub pair_is_left : (names : List (String Global)) (n : ℕ) → length names < 2 → length (pairs_in (map string_bytes names)) ≡ n → 0 < n → ⊥
pair_is_left names n few count some = let none = ap (λ (l : List Pair). length l) (pairs_none names few) in omega (arith, none, count, some)

-- the next element, and those behind it
pub drop_next : {X : Type 0} (xs : List X) (i : ℕ) (x : X) → i < length xs → x ≡ get_or xs i x → drop i xs ≡ x ∷ drop (i + 1) xs
drop_next xs i x below is =
    let next : suc i ≡ i + 1 = omega arith in
    drop-cons xs i x below ∙ ap (λ y. y ∷ drop (suc i) xs) (sym is) ∙ ap (λ n. x ∷ drop n xs) next

-- the inputs of pairs
pub inputs_next : (copied : List (List ℕ)) (pairs rest : List Pair) (input output : List ℕ) (all : List (List ℕ)) → pairs ≡ record { input = input; output = output } ∷ rest
    → copied ++ map (λ (p : Pair). p.input) pairs ≡ all → (copied ++ input ∷ []) ++ map (λ (p : Pair). p.input) rest ≡ all
inputs_next copied pairs rest input output all are so =
    append_assoc copied (input ∷ []) (map (λ (p : Pair). p.input) rest) ∙ ap (λ (l : List Pair). copied ++ map (λ (p : Pair). p.input) l) (sym are) ∙ so

-- the files of hardened objects
pub saves_next : (done : List Output) (o : Output) (pairs rest : List Pair) (input name : List ℕ) (made : List Hardened) (h : Hardened) (later : List Hardened) (all : List Save)
    → pairs ≡ record { input = input; output = name } ∷ rest → made ≡ h ∷ later → save_of o ∷ [] ≡ saves_by (record { input = input; output = name } ∷ []) (h ∷ [])
    → saves_of done ++ saves_by pairs made ≡ all → saves_of (done ++ o ∷ []) ++ saves_by rest later ≡ all
saves_next done o pairs rest input name made h later all pairs_are made_are one so =
    ap (λ (l : List Save). l ++ saves_by rest later) (map-append save_of done (o ∷ []) ∙ ap (λ (l : List Save). saves_of done ++ l) one)
    ∙ append_assoc (saves_of done) (saves_by (record { input = input; output = name } ∷ []) (h ∷ [])) (saves_by rest later)
    ∙ ap (λ (l : List Pair). saves_of done ++ saves_by l (h ∷ later)) (sym pairs_are) ∙ ap (λ (l : List Hardened). saves_of done ++ saves_by pairs l) (sym made_are) ∙ so

saves_none : (pairs : List Pair) → saves_by pairs [] ≡ []
saves_none [] = refl
saves_none (p ∷ pairs) = refl

pub saves_all : (done : List Output) (pairs : List Pair) (made : List Hardened) (all : List Save) → made ≡ [] → saves_of done ++ saves_by pairs made ≡ all → saves_of done ≡ all
saves_all done pairs made all none so =
    sym (append-nil (saves_of done)) ∙ ap (λ (l : List Save). saves_of done ++ l) (sym (ap (saves_by pairs) none ∙ saves_none pairs)) ∙ so

-- what is counted of them
pub counts_next : (done : List Counts) (n : Counts) (objects : List ObjectParts) (dropped : List ℕ) (made : List Hardened) (o : ObjectParts) (d : ℕ) (h : Hardened) (os : List ObjectParts) (ds : List ℕ) (hs : List Hardened)
    (all : List Counts) → objects ≡ o ∷ os → dropped ≡ d ∷ ds → made ≡ h ∷ hs → n ≡ counts_of o d h → done ++ all_counts objects dropped made ≡ all → (done ++ n ∷ []) ++ all_counts os ds hs ≡ all
counts_next done n objects dropped made o d h os ds hs all os_are ds_are hs_are one so =
    append_assoc done (n ∷ []) (all_counts os ds hs) ∙ ap (λ (m : Counts). done ++ m ∷ all_counts os ds hs) one
    ∙ ap (λ (l : List ObjectParts). done ++ all_counts l (d ∷ ds) (h ∷ hs)) (sym os_are) ∙ ap (λ (l : List ℕ). done ++ all_counts objects l (h ∷ hs)) (sym ds_are)
    ∙ ap (λ (l : List Hardened). done ++ all_counts objects dropped l) (sym hs_are) ∙ so

-- counts by their fields
abbrev counted : ObjectParts → ℕ → Hardened → ℕ → ℕ → Counts
counted o d h old new = record {
  functions = h.functions;
  before = h.before;
  after = h.after;
  old_bytes = old;
  new_bytes = new;
  dropped = d;
  factor = h.factor;
}

pub counts_are : (o : ObjectParts) (d : ℕ) (h : Hardened) (old new : ℕ) → old ≡ code_size o.sections → new ≡ code_size h.object.sections → counted o d h old new ≡ counts_of o d h
counts_are o d h old new old_is new_is = ap (λ (n : ℕ). counted o d h n new) old_is ∙ ap (λ (n : ℕ). counted o d h (code_size o.sections) n) new_is

counts_none : (objects : List ObjectParts) (dropped : List ℕ) → all_counts objects dropped [] ≡ []
counts_none [] ds = refl
counts_none (o ∷ os) [] = refl
counts_none (o ∷ os) (d ∷ ds) = refl

pub counts_all : (done : List Counts) (objects : List ObjectParts) (dropped : List ℕ) (made : List Hardened) (all : List Counts) → made ≡ [] → done ++ all_counts objects dropped made ≡ all → done ≡ all
counts_all done objects dropped made all none so =
    sym (append-nil done) ∙ ap (λ (l : List Counts). done ++ l) (sym (ap (all_counts objects dropped) none ∙ counts_none objects dropped)) ∙ so

-- their lines
abbrev pub lines_of : List Pair → List Counts → List ℕ
lines_of pairs counts = flat_map tally_line (tallies_with pairs counts)

pub lines_next : (done line : List ℕ) (pairs rest : List Pair) (input output : List ℕ) (counts : List Counts) (n : Counts) (later : List Counts) (all : List ℕ)
    → pairs ≡ record { input = input; output = output } ∷ rest → counts ≡ n ∷ later → line ≡ tally_line (tally_with output n) → done ++ lines_of pairs counts ≡ all → (done ++ line) ++ lines_of rest later ≡ all
lines_next done line pairs rest input output counts n later all pairs_are counts_are one so =
    append_assoc done line (lines_of rest later) ∙ ap (λ (l : List ℕ). done ++ (l ++ lines_of rest later)) one
    ∙ ap (λ (l : List Pair). done ++ lines_of l (n ∷ later)) (sym pairs_are) ∙ ap (λ (l : List Counts). done ++ lines_of pairs l) (sym counts_are) ∙ so

lines_none : (pairs : List Pair) → lines_of pairs [] ≡ []
lines_none [] = refl
lines_none (p ∷ pairs) = refl

pub lines_all : (done : List ℕ) (pairs : List Pair) (counts : List Counts) (all : List ℕ) → counts ≡ [] → done ++ lines_of pairs counts ≡ all → done ≡ all
lines_all done pairs counts all none so = sym (append-nil done) ∙ ap (λ (l : List ℕ). done ++ l) (sym (ap (lines_of pairs) none ∙ lines_none pairs)) ∙ so

-- bytes of one object
pub bytes_of_one : (o : ObjectParts) → ((j : ℕ) (s : Section) → slice_get o.sections j ≡ Some s → (x : ℕ) → byte_at s.bytes x < 2 ^ 8) → HaveBytes (o ∷ [])
bytes_of_one o each zero j p s e d x = each j s (ap (λ (q : ObjectParts). slice_get q.sections j) (same_Some o p e) ∙ d) x
bytes_of_one o each (suc i) j p s e d x = absurd (none-some p e)
