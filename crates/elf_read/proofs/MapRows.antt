-- Rows of an address map rise if each stands above the last.
use Rattle.std.proofs.Common.{◌≡◌, ◌<◌, ℕ, ◌+◌, Bool, true, false, ◌&&◌, List, [], ◌∷◌, length, get_or, drop, Option, Some, None, arith, refl, sym, ap, ◌∙◌}
use Rattle.std.specs.Prelude.{All}
use Rattle.std.specs.List.{list_all}
use Rattle.std.proofs.lemmas.List.{at_drop_more}
use Rattle.std.proofs.lemmas.Bool.Decides.{nat_tests}
use Rattle.std.proofs.lemmas.List.Elements.{All-nil, All-cons, All-head, All-tail}
use Rattle.elf_model.specs.declared.objects.MapRow.{MapRow}
use Rattle.elf_model.specs.Maps.{IsBefore, Rise}
use Rattle.elf_read.specs.MapRows.{is_before, may_come, rising}

-- whether these rows stand above the last one before, if there was one
abbrev pub are_above : Option MapRow → List MapRow → Bool
are_above None rest = true
are_above (Some r) rest = list_all (is_before r) rest

before-trans : (a b c : MapRow) → is_before a b ≡ true → is_before b c ≡ true → is_before a c ≡ true
before-trans a b c h k = grind (arith, nat_tests)

both : (a b : Bool) → (a && b) ≡ true → (a ≡ true) × (b ≡ true)
both true true h = (refl, refl)
both true false h = absurd (grind (arith, h))
both false b h = absurd (grind (arith, h))

step_test : (x y z w : Bool) → x ≡ true → (z ≡ true → y ≡ true) → (z && w) ≡ ((x && y) && (z && w))
step_test false y z w h k = absurd (grind (arith, h))
step_test true true z w h k = refl
step_test true false true w h k = absurd (let e = k refl in grind (arith, e))
step_test true false false w h k = refl

all_above-trans : (a b : MapRow) (rest : List MapRow) → is_before a b ≡ true → list_all (is_before b) rest ≡ true → list_all (is_before a) rest ≡ true
all_above-trans a b [] h k = refl
all_above-trans a b (c ∷ rest) h k =
    let e = both (is_before b c) (list_all (is_before b) rest) k in
    ap (λ (t : Bool). t && list_all (is_before a) rest) (before-trans a b c h e.0) ∙ all_above-trans a b rest h e.1

step_above : (a b : MapRow) (rest : List MapRow) → is_before a b ≡ true
    → (are_above (Some b) rest && rising rest) ≡ (are_above (Some a) (b ∷ rest) && rising (b ∷ rest))
step_above a b rest h = step_test (is_before a b) (list_all (is_before a) rest) (list_all (is_before b) rest) (rising rest) h (all_above-trans a b rest h)

-- one step along a list
pub next_row : (last : Option MapRow) (xs : List MapRow) (i : ℕ) (d : MapRow) → i < length xs → may_come last (get_or xs i d) ≡ true
    → (are_above last (drop i xs) && rising (drop i xs)) ≡ rising xs
    → (are_above (Some (get_or xs i d)) (drop (i + 1) xs) && rising (drop (i + 1) xs)) ≡ rising xs
next_row None xs i d h follows inv = sym (at_drop_more rising xs i d h) ∙ inv
next_row (Some a) xs i d h follows inv =
    step_above a (get_or xs i d) (drop (i + 1) xs) follows ∙ sym (at_drop_more (λ ys. are_above (Some a) ys && rising ys) xs i d h) ∙ inv

-- the test of an order decides it
before_is : (a b : MapRow) → is_before a b ≡ true → IsBefore a b
before_is a b h = record { before = grind (arith, nat_tests) }

is_before_so : (a b : MapRow) → IsBefore a b → is_before a b ≡ true
is_before_so a b h = let e = h.before in grind (arith, nat_tests)

all_before : (a : MapRow) (rest : List MapRow) → list_all (is_before a) rest ≡ true → All (IsBefore a) rest
all_before a [] h = All-nil (IsBefore a)
all_before a (b ∷ rest) h = let e = both (is_before a b) (list_all (is_before a) rest) h in All-cons (IsBefore a) b rest (before_is a b e.0) (all_before a rest e.1)

pub rise_is : (rows : List MapRow) → rising rows ≡ true → Rise rows
rise_is [] h = tt
rise_is (r ∷ rest) h = let e = both (list_all (is_before r) rest) (rising rest) h in (all_before r rest e.0, rise_is rest e.1)

all_before_so : (a : MapRow) (rest : List MapRow) → All (IsBefore a) rest → list_all (is_before a) rest ≡ true
all_before_so a [] h = refl
all_before_so a (b ∷ rest) h = ap (λ (x : Bool). x && list_all (is_before a) rest) (is_before_so a b (All-head (IsBefore a) b rest h)) ∙ all_before_so a rest (All-tail (IsBefore a) b rest h)

pub rising_so : (rows : List MapRow) → Rise rows → rising rows ≡ true
rising_so [] h = refl
rising_so (r ∷ rest) h = ap (λ (x : Bool). x && rising rest) (all_before_so r rest h.0) ∙ rising_so rest h.1
