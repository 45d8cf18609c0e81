-- The names of the registers of a set, one number further.
use Rattle.std.proofs.Common.{◌≡◌, ℕ, ◌+◌, Bool, true, false, ◌||◌, List, [], ◌∷◌, ◌++◌, map, filter, if◌then◌else◌, refl, sym, ap, ◌∙◌, arith, append_assoc, append-nil}
use Rattle.std.proofs.lemmas.Grind.{flat_map-append}
use Rattle.std.proofs.lemmas.List.{map-id, map-append}
use Rattle.std.proofs.lemmas.List.Elements.{filter-append}
use Rattle.std.proofs.lemmas.List.FromFn.{map-range_with_len_more}
use Rattle.std.specs.List.{range_with_len}
use Rattle.thumb_instr.specs.Operands.{has}
use Rattle.thumb_text.specs.Names.{register}
use Rattle.thumb_text.specs.Pieces.{separated, followed, names_of, has_any}

numbers_more : (n : ℕ) → range_with_len 0 (n + 1) ≡ range_with_len 0 n ++ n ∷ []
numbers_more n =
    sym (map-id (range_with_len 0 (n + 1))) ∙ map-range_with_len_more (λ x. x) 0 n n (omega arith)
    ∙ ap (λ l. l ++ n ∷ []) (map-id (range_with_len 0 n))

-- the name of a number, if a set has it
abbrev name_at : ℕ → ℕ → List (List ℕ)
name_at list n = if has list n then register n ∷ [] else []

names_at : (b : Bool) (n : ℕ) → map register (if b then n ∷ [] else []) ≡ (if b then register n ∷ [] else [])
names_at true n = refl
names_at false n = refl

pub names_none : (list : ℕ) → names_of list 0 ≡ []
unfolding names_of
names_none list = refl

pub names_more : (list n : ℕ) → names_of list (n + 1) ≡ names_of list n ++ (if has list n then register n ∷ [] else [])
unfolding names_of
names_more list n =
    ap (λ l. map register (filter (has list) l)) (numbers_more n)
    ∙ ap (map register) (filter-append (has list) (range_with_len 0 n) (n ∷ []))
    ∙ map-append register (filter (has list) (range_with_len 0 n)) (filter (has list) (n ∷ []))
    ∙ ap (λ l. names_of list n ++ l) (names_at (has list n) n)

-- one more text
pub separated_more : (s : List ℕ) (xs : List (List ℕ)) (x : List ℕ) → separated s (xs ++ x ∷ []) ≡ separated s xs ++ ((if has_any xs then s else []) ++ x)
separated_more s [] x = append-nil x
separated_more s (y ∷ ys) x =
    ap (λ l. y ++ l) (flat_map-append (λ z. s ++ z) ys (x ∷ []) ∙ ap (λ l. followed s ys ++ l) (append-nil (s ++ x)))
    ∙ sym (append_assoc y (followed s ys) (s ++ x))

pub separated_if : (s : List ℕ) (xs : List (List ℕ)) (b : Bool) (x : List ℕ)
    → separated s (xs ++ (if b then x ∷ [] else [])) ≡ separated s xs ++ (if b then (if has_any xs then s else []) ++ x else [])
separated_if s xs true x = separated_more s xs x
separated_if s xs false x = ap (separated s) (append-nil xs) ∙ sym (append-nil (separated s xs))

pub some_if : (xs : List (List ℕ)) (b : Bool) (x : List ℕ) → has_any (xs ++ (if b then x ∷ [] else [])) ≡ (has_any xs || b)
some_if [] true x = refl
some_if [] false x = refl
some_if (y ∷ ys) b x = refl

-- A line that has the names below a number has those below the next one, once that number's is appended.
pub line_more : (s old now new : List ℕ) (list n : ℕ) (some : Bool)
    → now ≡ old ++ separated s (names_of list n) → some ≡ has_any (names_of list n)
    → new ≡ now ++ (if has list n then (if some then s else []) ++ register n else [])
    → new ≡ old ++ separated s (names_of list (n + 1))
line_more s old now new list n some texts any appended =
    let names : List (List ℕ) = names_of list n in
    let name : Bool → List ℕ = λ b. if has list n then (if b then s else []) ++ register n else [] in
    appended
    ∙ (λ i. texts i ++ name (any i))
    ∙ append_assoc old (separated s names) (name (has_any names))
    ∙ ap (λ l. old ++ l) (sym (ap (separated s) (names_more list n) ∙ separated_if s names (has list n) (register n)))

pub any_more : (list n : ℕ) → has_any (names_of list (n + 1)) ≡ (has_any (names_of list n) || has list n)
any_more list n = ap has_any (names_more list n) ∙ some_if (names_of list n) (has list n) (register n)
