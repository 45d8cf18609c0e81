-- THE LAW OF MEANINGS: words mean one command at most.
use Rattle.std.proofs.Common.{◌≡◌, ℕ, List, ap, subst, arith}
use Rattle.guard_words.specs.Meanings.{Meaning, harden, link, run, list, make, Means}
use Rattle.guard_words.proofs.Pairs.{same_harden}
use Rattle.guard_words.proofs.FirstWords.{same_sign}
use Rattle.guard_words.proofs.OneMeaning.{same_link, same_run, same_list, same_make}

pub one_meaning : (words : List (List ℕ)) (a b : Meaning) → Means words a → Means words b → a ≡ b
one_meaning words (harden ps) (harden qs) h k = ap harden (same_harden words ps qs h k)
one_meaning words (link l) (link m) h k = ap link (same_link words l m h k)
one_meaning words (run r) (run s) h k = ap run (same_run words r s h k)
one_meaning words (list x) (list y) h k = ap list (same_list words x y h k)
one_meaning words (make m) (make n) h k = ap make (same_make words m n h k)
one_meaning words (harden ps) (link l) h k = let e = same_sign words (harden ps) (link l) h k in absurd (omega (arith, e))
one_meaning words (harden ps) (run r) h k = let e = same_sign words (harden ps) (run r) h k in absurd (omega (arith, e))
one_meaning words (harden ps) (list x) h k = let e = same_sign words (harden ps) (list x) h k in absurd (omega (arith, e))
one_meaning words (harden ps) (make m) h k = let e = same_sign words (harden ps) (make m) h k in absurd (omega (arith, e))
one_meaning words (link l) (harden ps) h k = let e = same_sign words (link l) (harden ps) h k in absurd (omega (arith, e))
one_meaning words (link l) (run r) h k = let e = same_sign words (link l) (run r) h k in absurd (omega (arith, e))
one_meaning words (link l) (list x) h k = let e = same_sign words (link l) (list x) h k in absurd (omega (arith, e))
one_meaning words (link l) (make m) h k = let e = same_sign words (link l) (make m) h k in absurd (omega (arith, e))
one_meaning words (run r) (harden ps) h k = let e = same_sign words (run r) (harden ps) h k in absurd (omega (arith, e))
one_meaning words (run r) (link l) h k = let e = same_sign words (run r) (link l) h k in absurd (omega (arith, e))
one_meaning words (run r) (list x) h k = let e = same_sign words (run r) (list x) h k in absurd (omega (arith, e))
one_meaning words (run r) (make m) h k = let e = same_sign words (run r) (make m) h k in absurd (omega (arith, e))
one_meaning words (list x) (harden ps) h k = let e = same_sign words (list x) (harden ps) h k in absurd (omega (arith, e))
one_meaning words (list x) (link l) h k = let e = same_sign words (list x) (link l) h k in absurd (omega (arith, e))
one_meaning words (list x) (run r) h k = let e = same_sign words (list x) (run r) h k in absurd (omega (arith, e))
one_meaning words (list x) (make m) h k = let e = same_sign words (list x) (make m) h k in absurd (omega (arith, e))
one_meaning words (make m) (harden ps) h k = let e = same_sign words (make m) (harden ps) h k in absurd (omega (arith, e))
one_meaning words (make m) (link l) h k = let e = same_sign words (make m) (link l) h k in absurd (omega (arith, e))
one_meaning words (make m) (run r) h k = let e = same_sign words (make m) (run r) h k in absurd (omega (arith, e))
one_meaning words (make m) (list x) h k = let e = same_sign words (make m) (list x) h k in absurd (omega (arith, e))

-- what holds of the one meaning holds of each
pub meant : (words : List (List ℕ)) (own m : Meaning) (P : Meaning → Type 0) → Means words own → Means words m → P own → P m
meant words own m P a b h = subst P (one_meaning words own m a b) h
