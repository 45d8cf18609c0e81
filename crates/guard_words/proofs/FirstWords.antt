-- The first word of a command tells which one it is.
use Rattle.std.proofs.Common.{◌≡◌, ℕ, ◌+◌, ◌*◌, List, [], ◌∷◌, get_or, codes, ap, sym, ◌∙◌}
use Rattle.guard_words.specs.Meanings.{Meaning, harden, link, run, list, make, Means}

abbrev pub word_for : Meaning → List ℕ
word_for (harden pairs) = codes "harden"
word_for (link l) = codes "link"
word_for (run r) = codes "run"
word_for (list input) = codes "list"
word_for (make m) = codes "make"

-- a number that is different for each of them, by the first and the third letter
abbrev pub sign : List ℕ → ℕ
sign word = 2 * get_or word 0 0 + get_or word 2 0

pub headed : (words : List (List ℕ)) (m : Meaning) → Means words m → get_or words 0 [] ≡ word_for m
headed words (harden pairs) h = ap (λ ws. get_or ws 0 []) h.words_are
headed words (link l) h = ap (λ ws. get_or ws 0 []) h.words_are
headed words (run r) h = ap (λ ws. get_or ws 0 []) h.words_are
headed words (list input) h = ap (λ ws. get_or ws 0 []) h.words_are
headed words (make m) h = ap (λ ws. get_or ws 0 []) h.words_are

-- two meanings of the same words have the same sign, and so has the first word
pub same_sign : (words : List (List ℕ)) (a b : Meaning) → Means words a → Means words b → sign (word_for a) ≡ sign (word_for b)
same_sign words a b h k = ap sign (sym (headed words a h) ∙ headed words b k)

pub first_sign : (first : List ℕ) (rest : List (List ℕ)) (m : Meaning) → Means (first ∷ rest) m → sign first ≡ sign (word_for m)
first_sign first rest m h = ap sign (headed (first ∷ rest) m h)
