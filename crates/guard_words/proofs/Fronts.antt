-- What words with options begin with.
use Rattle.std.proofs.Common.{◌≡◌, ◌+◌, ◌*◌, ℕ, zero, suc, ◌==◌, ◌||◌, Bool, true, false, List, [], ◌∷◌, ◌++◌, get_or, Option, Some, None, refl, sym, ap, ◌∙◌, subst, append-nil, arith}
use Rattle.std.specs.Prelude.{All, MatchOption}
use Rattle.std.specs.List.{list_any}
use Rattle.std.proofs.lemmas.Bool.{false≢true}
use Rattle.std.proofs.lemmas.List.Elements.{All-head}
use Rattle.guard_words.specs.declared.options.OptionName.{OptionName}
use Rattle.guard_words.specs.declared.options.OptionName.TheVariants.{Base, Room, Entry, Argument, Steps, Skip, Seed}
use Rattle.guard_words.specs.Words.{IsFileName, Setting, word_of, spelled, same_option}
use Rattle.guard_words.specs.Arranged.{BeginsWith}
use Rattle.guard_words.proofs.Cuts.{Lacks, same_cut, cut_holds}

-- a text without a sign of equality
abbrev pub NoEquals : List ℕ → Type 0
NoEquals bs = Lacks 61 bs

none_from_test : (bs : List ℕ) → list_any (λ b. b == 61) bs ≡ false → NoEquals bs
none_from_test [] e i below = absurd (omega arith)
none_from_test (b ∷ bs) e zero below = λ h. absurd (false≢true (sym e ∙ ap (λ c. list_any (λ b. b == 61) (c ∷ bs)) h))
none_from_test (b ∷ bs) e (suc i) below = none_from_test bs (tail (b == 61) e) i (omega arith)
  where
    tail : (t : Bool) → (t || list_any (λ b. b == 61) bs) ≡ false → list_any (λ b. b == 61) bs ≡ false
    tail true h = absurd (false≢true (sym h))
    tail false h = h

pub word_is_plain : (name : OptionName) → NoEquals (word_of name)
word_is_plain Base = none_from_test (word_of Base) refl
word_is_plain Room = none_from_test (word_of Room) refl
word_is_plain Entry = none_from_test (word_of Entry) refl
word_is_plain Argument = none_from_test (word_of Argument) refl
word_is_plain Steps = none_from_test (word_of Steps) refl
word_is_plain Skip = none_from_test (word_of Skip) refl
word_is_plain Seed = none_from_test (word_of Seed) refl

-- a number by which the words differ
abbrev sign_of : List ℕ → ℕ
sign_of word = get_or word 2 0 + 2 * get_or word 3 0

same_sign : (a b : OptionName) → sign_of (word_of a) ≡ sign_of (word_of b) → a ≡ b
same_sign Base Base e = refl
same_sign Room Room e = refl
same_sign Entry Entry e = refl
same_sign Argument Argument e = refl
same_sign Steps Steps e = refl
same_sign Skip Skip e = refl
same_sign Seed Seed e = refl
same_sign a b e = absurd (omega arith)

pub same_name : (a b : OptionName) → word_of a ≡ word_of b → a ≡ b
same_name a b e = same_sign a b (ap sign_of e)

pub same_itself : (a : OptionName) → same_option a a ≡ true
same_itself Base = refl
same_itself Room = refl
same_itself Entry = refl
same_itself Argument = refl
same_itself Steps = refl
same_itself Skip = refl
same_itself Seed = refl

pub same_is : (a b : OptionName) → same_option a b ≡ true → a ≡ b
same_is Base Base e = refl
same_is Room Room e = refl
same_is Entry Entry e = refl
same_is Argument Argument e = refl
same_is Steps Steps e = refl
same_is Skip Skip e = refl
same_is Seed Seed e = refl
same_is a b e = absurd (false≢true e)

same_setting : (s t : Setting) → s.name ≡ t.name → s.value ≡ t.value → s.joined ≡ t.joined → s ≡ t
same_setting s t n v j =
    let f : OptionName → Setting = λ x. record { name = x; value = s.value; joined = s.joined } in
    let g : List ℕ → Setting = λ x. record { name = t.name; value = x; joined = s.joined } in
    let h : Bool → Setting = λ x. record { name = t.name; value = t.value; joined = x } in
    ap f n ∙ ap g v ∙ ap h j

-- words begin with one option at most
go_front : (n m : OptionName) (v w : List ℕ) (j k : Bool) (rest rest' : List (List ℕ)) →
    spelled (record { name = n; value = v; joined = j }) ++ rest ≡ spelled (record { name = m; value = w; joined = k }) ++ rest' →
    (n ≡ m) × (v ≡ w) × (j ≡ k) × (rest ≡ rest')
go_front n m v w true true rest rest' e =
    let word : word_of n ++ 61 ∷ v ≡ word_of m ++ 61 ∷ w = cc in
    let behind : rest ≡ rest' = cc in
    let cut = same_cut 61 (word_of n) v (word_of m) w word (word_is_plain n) (word_is_plain m) in
    (same_name n m cut.0, cut.1, refl, behind)
go_front n m v w false false rest rest' e =
    let word : word_of n ≡ word_of m = cc in
    let value : v ≡ w = cc in
    let behind : rest ≡ rest' = cc in
    (same_name n m word, value, refl, behind)
go_front n m v w true false rest rest' e =
    let word : word_of m ≡ word_of n ++ 61 ∷ v = cc in
    absurd (cut_holds 61 (word_of n) v (subst NoEquals word (word_is_plain m)))
go_front n m v w false true rest rest' e =
    let word : word_of n ≡ word_of m ++ 61 ∷ w = cc in
    absurd (cut_holds 61 (word_of m) w (subst NoEquals word (word_is_plain n)))

pub same_front : (words rest rest' : List (List ℕ)) (s t : Setting) → BeginsWith words s rest → BeginsWith words t rest' → (s ≡ t) × (rest ≡ rest')
same_front words rest rest' s t a b =
    let f = go_front s.name t.name s.value t.value s.joined t.joined rest rest' (sym a.words_are ∙ b.words_are) in
    (same_setting s t f.0 f.1 f.2, f.3)

-- an option is no file's name
word_is_no_file : (n : OptionName) (bs : List ℕ) → IsFileName (word_of n ++ bs) → ⊥
word_is_no_file Base bs h = h refl
word_is_no_file Room bs h = h refl
word_is_no_file Entry bs h = h refl
word_is_no_file Argument bs h = h refl
word_is_no_file Steps bs h = h refl
word_is_no_file Skip bs h = h refl
word_is_no_file Seed bs h = h refl

go_file : (n : OptionName) (v : List ℕ) (j : Bool) (rest : List (List ℕ)) → All IsFileName (spelled (record { name = n; value = v; joined = j }) ++ rest) → ⊥
go_file n v true rest h = word_is_no_file n (61 ∷ v) (All-head IsFileName (word_of n ++ 61 ∷ v) rest h)
go_file n v false rest h = word_is_no_file n [] (subst IsFileName (sym (append-nil (word_of n))) (All-head IsFileName (word_of n) (v ∷ rest) h))

pub front_is_no_file : (files rest : List (List ℕ)) (s : Setting) → All IsFileName files → BeginsWith files s rest → ⊥
front_is_no_file files rest s names front = go_file s.name s.value s.joined rest (subst (All IsFileName) front.words_are names)

abbrev NamesNone : List ℕ → List ℕ → Type 0
NamesNone name value = (n : OptionName) → name ≡ word_of n → IsFileName value → ⊥

not_joined : (name value : List ℕ) (more : List (List ℕ)) → NoEquals name → NamesNone name value →
    (n : OptionName) (v : List ℕ) (j : Bool) (rest : List (List ℕ)) → IsFileName v → (name ++ 61 ∷ value) ∷ more ≡ spelled (record { name = n; value = v; joined = j }) ++ rest → ⊥
not_joined name value more plain none n v true rest fits e =
    let word : name ++ 61 ∷ value ≡ word_of n ++ 61 ∷ v = cc in
    let cut = same_cut 61 name value (word_of n) v word plain (word_is_plain n) in
    none n cut.0 (subst IsFileName (sym cut.1) fits)
not_joined name value more plain none n v false rest fits e =
    let word : word_of n ≡ name ++ 61 ∷ value = cc in
    cut_holds 61 name value (subst NoEquals word (word_is_plain n))

-- what is read of a word with a sign of equality
pub joined_is_read : (words more : List (List ℕ)) (word name value : List ℕ) → words ≡ word ∷ more → word ≡ name ++ 61 ∷ value → NoEquals name → {U : Type 0} (rest_of : U → List (List ℕ)) (r : Option U) (name_of : U → OptionName) (value_of : U → List ℕ) →
    MatchOption r ((n : OptionName) → name ≡ word_of n → IsFileName value → ⊥) (λ f. (name ≡ word_of (name_of f)) × (value_of f ≡ value) × IsFileName (value_of f) × (rest_of f ≡ more)) →
    MatchOption r ((s : Setting) (rest : List (List ℕ)) → BeginsWith words s rest → ⊥)
    (λ f. (joined : Bool) × BeginsWith words (record { name = name_of f; value = value_of f; joined = joined }) (rest_of f))
joined_is_read words more word name value e cut plain rest_of None name_of value_of none =
    λ s rest front. not_joined name value more plain none s.name s.value s.joined rest front.fits (ap (λ w. w ∷ more) (sym cut) ∙ sym e ∙ front.words_are)
joined_is_read words more word name value e cut plain rest_of (Some f) name_of value_of (named, same, fits, behind) = (
  true,
  record {
    words_are = e ∙ ap (λ w. w ∷ more) (cut ∙ ap (λ w. w ++ 61 ∷ value) named ∙ ap (λ v. word_of (name_of f) ++ 61 ∷ v) (sym same)) ∙ ap (λ l. (word_of (name_of f) ++ 61 ∷ value_of f) ∷ l) (sym behind);
    fits = fits;
  },
)
