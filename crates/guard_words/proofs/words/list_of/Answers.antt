use Rattle.std.proofs.Common.{◌≡◌, List, ℕ, Some, map, string_bytes, refl, inr, subst, arith}
use Rattle.guard_words.specs.Words.{IsList}
use Rattle.guard_words.proofs.FileWords.{two_words}
use Rattle.guard_words.proofs.words.list_of.Goals as goal

same_file : (a b : List ℕ) → Some a ≡ Some b → b ≡ a
same_file a b e = cc

pub returns-in-Ok-Some : goal.returns-in-Ok-Some
returns-in-Ok-Some c =
    let words = c.args.words.now in
    let named = two_words string_bytes words c.requires (omega arith) (c.if-not-are_file_names.ensures.0 refl) in
    let e = rw c.in-Ok-Some.field-0-is at (c.in-Ok-Some.ensures.file named.0 named.1) in
    subst (λ (i : List ℕ). IsList (map string_bytes words) i) (same_file c.in-Ok-Some.input.now named.0 e) named.1

pub returns-in-OutOfMemory : goal.returns-in-OutOfMemory
returns-in-OutOfMemory c = inr (two_words string_bytes c.args.words.now c.requires (omega arith) (c.if-not-are_file_names.ensures.0 refl))
