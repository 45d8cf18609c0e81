-- What clap makes of the words of `list`.
use Rattle.std.proofs.Common.{◌≡◌, ◌≢◌, ℕ, false, true, List, [], ◌∷◌, Some, refl, codes, ap, ◌∙◌, arith, map, drop, take, length, ◌-◌}
use Rattle.std.specs.Prelude.{◌==◌, All}
use Rattle.std.proofs.lemmas.Bool.{false_from_ne_true, eqb-true}
use Rattle.std.proofs.lemmas.List.Elements.{All-head}
use Rattle.clap.specs.Words.{App, Rule, first_of, is_simple, matches_of, new_app, new_rule, takes, with_rule}
use Rattle.clap.specs.declared.builder.ArgAction.TheVariants.{Set}
use Rattle.clap.proofs.OnLiterals.{clap_on_literals}
use Rattle.guard_words.specs.Words.{IsFileName, IsList}
use Rattle.guard_words.specs.Commands.{IsHeadedBy}

abbrev pub file_rule : Rule
file_rule = record (new_rule (codes "file")) { action = Some Set; required = true }

abbrev pub list_app : App
list_app = with_rule (new_app (codes "list")) file_rule

simple : is_simple list_app ≡ true
unfolding clap_on_literals
simple = refl

taken : (c : ℕ) (cs : List ℕ) → (c == 45) ≡ false → takes list_app (codes "list" ∷ (c ∷ cs) ∷ []) ≡ true
unfolding clap_on_literals
taken c cs e = simp e

found : (c : ℕ) (cs : List ℕ) → (c == 45) ≡ false → first_of (codes "file") (matches_of list_app (codes "list" ∷ (c ∷ cs) ∷ [])) ≡ Some (c ∷ cs)
unfolding clap_on_literals
found c cs e = simp e

no_dash : (c : ℕ) → c ≢ 45 → (c == 45) ≡ false
no_dash c n = false_from_ne_true (c == 45) (λ h. n (eqb-true c 45 h))

-- clap takes the words
pub list_is_taken : (words : List (List ℕ)) (input : List ℕ) → IsList words input → takes list_app words ≡ true
list_is_taken words input h = ap (takes list_app) h.words_are ∙ go input h.name
  where
    go : (name : List ℕ) → IsFileName name → takes list_app (codes "list" ∷ name ∷ []) ≡ true
    go [] n = absurd n
    go (c ∷ cs) n = taken c cs (no_dash c n)

-- and finds the file
pub list_is_found : (words : List (List ℕ)) (input : List ℕ) → IsList words input → first_of (codes "file") (matches_of list_app words) ≡ Some input
list_is_found words input h = ap (λ ws. first_of (codes "file") (matches_of list_app ws)) h.words_are ∙ go input h.name
  where
    go : (name : List ℕ) → IsFileName name → first_of (codes "file") (matches_of list_app (codes "list" ∷ name ∷ [])) ≡ Some name
    go [] n = absurd n
    go (c ∷ cs) n = found c cs (no_dash c n)

pub list_is_simple : is_simple list_app ≡ true
list_is_simple = simple

-- Two words of which the first is the command's and the second is a file's name are the command.
pub two_words : {X : Type 0} (f : X → List ℕ) (words : List X) → IsHeadedBy (codes "list") (map f words) → length words ≡ 2 → All (λ x. IsFileName (f x)) (take (length words - 1) (drop 1 words)) → (name : List ℕ) × IsList (map f words) name
two_words f [] h n names = absurd h
two_words f (a ∷ []) h n names = absurd (omega (arith, n))
two_words {X} f (a ∷ b ∷ []) h n names =
    (f b, record { words_are = ap (λ (w : List ℕ). w ∷ f b ∷ []) h; name = All-head (λ (x : X). IsFileName (f x)) b [] names })
two_words f (a ∷ b ∷ x ∷ rest) h n names = absurd (omega (arith, n))
