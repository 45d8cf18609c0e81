-- Words that are names by pairs.
use Rattle.std.proofs.Common.{◌≡◌, ◌/◌, ◌%◌, ℕ, zero, suc, ◌*◌, ◌≤◌, List, [], ◌∷◌, length, map, refl, sym, ap, ◌∙◌, subst, arith}
use Rattle.std.specs.Prelude.{All, codes}
use Rattle.std.specs.List.{flat_map}
use Rattle.std.proofs.lemmas.List.{length-map}
use Rattle.std.proofs.lemmas.List.Elements.{All-map}
use Rattle.guard_words.specs.Words.{Pair, IsFileName, IsHarden, names_of}
use Rattle.guard_words.specs.Tasks.{pairs_in}

-- words that are `harden` with pairs
abbrev pub IsSomeHarden : List (List ℕ) → Type 0
IsSomeHarden words = (pairs : List Pair) × IsHarden words pairs

-- `All`, element by element
all_cons : {X : Type 0} (P : X → Type 0) (x : X) (xs : List X) → P x → All P xs → All P (x ∷ xs)
all_cons P x xs h t zero d below = h
all_cons P x xs h t (suc k) d below = t k d (omega arith)

all_head : {X : Type 0} (P : X → Type 0) (x : X) (xs : List X) → All P (x ∷ xs) → P x
all_head P x xs h = h 0 x (omega arith)

all_tail : {X : Type 0} (P : X → Type 0) (x : X) (xs : List X) → All P (x ∷ xs) → All P xs
all_tail P x xs h k d below = h (suc k) d (omega arith)

all_none : {X : Type 0} (P : X → Type 0) → All P []
all_none P k d below = absurd (omega arith)

abbrev HasInput : Pair → Type 0
HasInput p = IsFileName p.input

abbrev HasOutput : Pair → Type 0
HasOutput p = IsFileName p.output

-- pairs that have these names
pub record IsPaired (names : List (List ℕ)) (n : ℕ) (pairs : List Pair) : Type 0 where
  pub names_are : names ≡ flat_map names_of pairs
  pub count : length pairs ≡ n
  pub inputs : All (λ (p : Pair). IsFileName p.input) pairs
  pub outputs : All (λ (p : Pair). IsFileName p.output) pairs

pub pairs_of : (n : ℕ) (names : List (List ℕ)) → length names ≡ 2 * n → All IsFileName names → (pairs : List Pair) × IsPaired names n pairs
pairs_of zero [] e a = ([], record { names_are = refl; count = refl; inputs = all_none HasInput; outputs = all_none HasOutput })
pairs_of zero (x ∷ xs) e a = absurd (omega arith)
pairs_of (suc n) [] e a = absurd (omega arith)
pairs_of (suc n) (x ∷ []) e a = absurd (omega arith)
pairs_of (suc n) (x ∷ y ∷ xs) e a =
    let tail = all_tail IsFileName x (y ∷ xs) a in
    let rest = pairs_of n xs (omega arith) (all_tail IsFileName y xs tail) in
    let p : Pair = record { input = x; output = y } in
    let h = rest.1 in (
      p ∷ rest.0,
      record {
        names_are = ap (λ l. x ∷ y ∷ l) h.names_are;
        count = (let c = h.count in omega arith);
        inputs = all_cons HasInput p rest.0 (all_head IsFileName x (y ∷ xs) a) h.inputs;
        outputs = all_cons HasOutput p rest.0 (all_head IsFileName y xs tail) h.outputs;
      },
    )

pub names_of_pairs : (pairs : List Pair) → All (λ (p : Pair). IsFileName p.input) pairs → All (λ (p : Pair). IsFileName p.output) pairs → (length (flat_map names_of pairs) ≡ 2 * length pairs) × All IsFileName (flat_map names_of pairs)
names_of_pairs [] i o = (refl, all_none IsFileName)
names_of_pairs (p ∷ ps) i o =
    let rest = names_of_pairs ps (all_tail HasInput p ps i) (all_tail HasOutput p ps o) in
    let e = rest.0 in
    let names = flat_map names_of ps in
    let tail = all_cons IsFileName p.output names (all_head HasOutput p ps o) rest.1 in
    (omega arith, all_cons IsFileName p.input (p.output ∷ names) (all_head HasInput p ps i) tail)

same_pair : (p q : Pair) → p.input ≡ q.input → p.output ≡ q.output → p ≡ q
same_pair p q i o =
    let f : List ℕ → Pair = λ x. record { input = x; output = p.output } in
    let g : List ℕ → Pair = λ x. record { input = q.input; output = x } in
    ap f i ∙ ap g o

-- The names of pairs determine them.
pub same_pairs : (ps qs : List Pair) → flat_map names_of ps ≡ flat_map names_of qs → ps ≡ qs
same_pairs [] [] e = refl
same_pairs [] (q ∷ qs) e = cc
same_pairs (p ∷ ps) [] e = cc
same_pairs (p ∷ ps) (q ∷ qs) e =
    let i : p.input ≡ q.input = cc in
    let o : p.output ≡ q.output = cc in
    let l : flat_map names_of ps ≡ flat_map names_of qs = cc in
    ap (λ t. t ∷ ps) (same_pair p q i o) ∙ ap (λ t. q ∷ t) (same_pairs ps qs l)

-- Words that are `harden` with pairs are so with no other pairs.
pub same_harden : (words : List (List ℕ)) (ps qs : List Pair) → IsHarden words ps → IsHarden words qs → ps ≡ qs
same_harden words ps qs a b =
    let e = a.words_are in
    let f = b.words_are in
    let l : flat_map names_of ps ≡ flat_map names_of qs = cc in
    same_pairs ps qs l

-- `harden` and names by pairs are a command.
pub harden_of : (n : ℕ) (names : List (List ℕ)) → length names ≡ 2 * n → 1 ≤ n → n ≤ 16 → All IsFileName names → IsSomeHarden (codes "harden" ∷ names)
harden_of n names e low high a =
    let found = pairs_of n names e a in
    let h = found.1 in
    let c = h.count in
    (found.0, record { words_are = ap (λ l. codes "harden" ∷ l) h.names_are; some = omega arith; few = omega arith; inputs = h.inputs; outputs = h.outputs })

-- what follows of the words of a command
pub record IsNamed (word : List ℕ) (names : List (List ℕ)) (n : ℕ) : Type 0 where
  pub word_is : word ≡ codes "harden"
  pub count : length names ≡ 2 * n
  pub some : 1 ≤ n
  pub few : n ≤ 16
  pub each : All IsFileName names

pub named_of : (word : List ℕ) (names : List (List ℕ)) → IsSomeHarden (word ∷ names) → (n : ℕ) × IsNamed word names n
named_of word names (pairs, h) =
    let e = h.words_are in
    let w : word ≡ codes "harden" = cc in
    let l : names ≡ flat_map names_of pairs = cc in
    let facts = names_of_pairs pairs h.inputs h.outputs in
    (length pairs, record { word_is = w; count = ap length l ∙ facts.0; some = h.some; few = h.few; each = subst (λ x. All IsFileName x) (sym l) facts.1 })

pub nothing_is_no_command : IsSomeHarden [] → ⊥
nothing_is_no_command (pairs, h) = let e = h.words_are in cc

-- What is read of the names of pairs is these pairs.
pairs_read : (pairs : List Pair) → pairs_in (flat_map names_of pairs) ≡ pairs
pairs_read [] = refl
pairs_read (p ∷ pairs) = ap (λ (l : List Pair). p ∷ l) (pairs_read pairs)

-- Names that are a command's are so with the pairs that are read of them.
pub harden_read : (names : List (List ℕ)) → IsSomeHarden (codes "harden" ∷ names) → IsHarden (codes "harden" ∷ names) (pairs_in names)
harden_read names (pairs, h) =
    let e = h.words_are in
    let l : names ≡ flat_map names_of pairs = cc in
    subst (IsHarden (codes "harden" ∷ names)) (sym (ap pairs_in l ∙ pairs_read pairs)) h

-- the names of texts
pub all_unmap : {X : Type 0} (P : List ℕ → Type 0) (f : X → List ℕ) (xs : List X) → All P (map f xs) → All (λ x. P (f x)) xs
all_unmap P f [] h = all_none (λ x. P (f x))
all_unmap P f (x ∷ xs) h = all_cons (λ y. P (f y)) x xs (all_head P (f x) (map f xs) h) (all_unmap P f xs (all_tail P (f x) (map f xs) h))

-- names of texts are those of a command where there are as many as that
pub texts_are : {X : Type 0} (f : X → List ℕ) (xs : List X) → length xs % 2 ≡ 0 → 1 ≤ length xs / 2 → length xs / 2 ≤ 16 → All (λ x. IsFileName (f x)) xs → IsSomeHarden (codes "harden" ∷ map f xs)
texts_are f xs even low high a = harden_of (length xs / 2) (map f xs) (omega (arith, length-map xs f)) low high (All-map IsFileName f xs a)

pub texts_of : {X : Type 0} (f : X → List ℕ) (xs : List X) → IsSomeHarden (codes "harden" ∷ map f xs) → (n : ℕ) × (length xs ≡ 2 * n) × (1 ≤ n) × (n ≤ 16) × All (λ x. IsFileName (f x)) xs
texts_of f xs h =
    let found = named_of (codes "harden") (map f xs) h in
    let named = found.1 in
    (found.0, sym (length-map xs f) ∙ named.count, named.some, named.few, all_unmap IsFileName f xs named.each)
