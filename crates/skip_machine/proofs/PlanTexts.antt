-- Plans as texts and as lists of numbers.
use Rattle.std.proofs.Common.{◌≡◌, ◌≢◌, ℕ, zero, suc, ◌+◌, ◌<◌, ◌^◌, ◌%◌, ◌==◌, false, List, [], ◌∷◌, ◌++◌, length, get_or, map, arith, refl, sym, ap, ◌∙◌, ne_eqb, None, append_assoc, append-nil}
use Rattle.std.specs.Prelude.{All}
use Rattle.std.specs.Fmt.{decimal}
use Rattle.std.specs.List.{join_with_byte}
use Rattle.std.proofs.lemmas.Bool.{false≢true}
use Rattle.std.proofs.lemmas.List.{map-append}
use Rattle.std.proofs.lemmas.List.Elements.{All-nil, All-cons, All-push, All-head, All-tail, All-from_get_or}
use Rattle.std.proofs.lemmas.List.Splits.{slice_split_none, slice_split_at, join_with_byte-slice_split}
use Rattle.std.proofs.lemmas.Fmt.{decimal_by_steps, decimal_is_IsNumeral}
use Rattle.std.specs.Str.Parse.{digits_value}
use Rattle.skip_machine.specs.Plans.{IsPlanText, parts_of, IsNumber, AreNumbers}

abbrev pub NoComma : List ℕ → Type 0
NoComma bs = All (λ b. (b == 44) ≡ false) bs

digit_is_none : (d : ℕ) → ((48 + d) == 44) ≡ false
digit_is_none d = ne_eqb (48 + d) 44 (λ e. absurd (omega arith))

pub no_comma : (n : ℕ) → n < 2 ^ 64 → NoComma (decimal n)
no_comma n lt =
    decimal_by_steps (λ m ds. NoComma ds)
    (λ m small. All-cons (λ b. (b == 44) ≡ false) (48 + m) [] (digit_is_none m) (All-nil (λ b. (b == 44) ≡ false)))
    (λ m ds ten h. All-push (λ b. (b == 44) ≡ false) ds (48 + m % 10) h (digit_is_none (m % 10)))
    n lt

pub without_comma : (bs : List ℕ) → ((i : ℕ) → i < length bs → get_or bs i 0 ≢ 44) → NoComma bs
without_comma bs h = All-from_get_or (λ b. (b == 44) ≡ false) bs 0 (λ i lt. ne_eqb (get_or bs i 0) 44 (h i lt))

-- the parts of a text of numbers are its numbers
pub parts_of_joined : (n : ℕ) (s : List ℕ) → All (λ n. n < 2 ^ 63) (n ∷ s) → parts_of (join_with_byte 44 (map decimal (n ∷ s))) ≡ map decimal (n ∷ s)
parts_of_joined n [] small = slice_split_none (λ b. b == 44) (decimal n) (no_comma n (omega (arith, All-head (λ n. n < 2 ^ 63) n [] small)))
parts_of_joined n (m ∷ s) small =
    slice_split_at (λ b. b == 44) (decimal n) 44 (join_with_byte 44 (map decimal (m ∷ s))) (no_comma n (omega (arith, All-head (λ n. n < 2 ^ 63) n (m ∷ s) small))) refl
    ∙ ap (λ (ps : List (List ℕ)). decimal n ∷ ps) (parts_of_joined m s (All-tail (λ n. n < 2 ^ 63) n (m ∷ s) small))

pub joined : (text numbers : List ℕ) → AreNumbers text numbers → text ≡ join_with_byte 44 (map decimal numbers)
joined text numbers are = sym (join_with_byte-slice_split 44 text) ∙ ap (λ (ps : List (List ℕ)). join_with_byte 44 ps) are.parts

-- a part of numbers is one
pub part_is_number : (xs ys : List (List ℕ)) (p : List ℕ) (s : List ℕ) → xs ++ p ∷ ys ≡ map decimal s → All (λ n. n < 2 ^ 63) s → (n : ℕ) × (n < 2 ^ 63) × (p ≡ decimal n)
part_is_number [] ys p [] e small = absurd (cc)
part_is_number [] ys p (n ∷ s) e small = (n, All-head (λ n. n < 2 ^ 63) n s small, cc)
part_is_number (x ∷ xs) ys p [] e small = absurd (cc)
part_is_number (x ∷ xs) ys p (n ∷ s) e small = part_is_number xs ys p s (cc) (All-tail (λ n. n < 2 ^ 63) n s small)

-- A text isn't numbers where one of its parts is none.
pub stuck : (text read p : List ℕ) (ys : List (List ℕ)) → parts_of text ≡ map decimal read ++ p ∷ ys → IsNumber p None → (s : List ℕ) → AreNumbers text s → ⊥
stuck text read p ys e none s are =
    let one = part_is_number (map decimal read) ys p s (sym e ∙ are.parts) are.small in none one.0 one.1 one.2

-- one number more is read
pub pushed : (text read p : List ℕ) (n : ℕ) (ys : List (List ℕ)) → parts_of text ≡ map decimal read ++ p ∷ ys → p ≡ decimal n → parts_of text ≡ map decimal (read ++ n ∷ []) ++ ys
pushed text read p n ys e is =
    e ∙ ap (λ (q : List ℕ). map decimal read ++ q ∷ ys) is
    ∙ sym (ap (λ (ps : List (List ℕ)). ps ++ ys) (map-append decimal read (n ∷ [])) ∙ append_assoc (map decimal read) (decimal n ∷ []) ys)

-- the parts where one comma more is found, or none
pub cut : (text read rest part later : List ℕ) → parts_of text ≡ map decimal read ++ parts_of rest → rest ≡ part ++ (44 ∷ later) → NoComma part
    → parts_of text ≡ map decimal read ++ part ∷ parts_of later
cut text read rest part later e is none =
    e ∙ ap (λ (ps : List (List ℕ)). map decimal read ++ ps) (ap parts_of is ∙ slice_split_at (λ b. b == 44) part 44 later none refl)

pub uncut : (text read rest : List ℕ) → parts_of text ≡ map decimal read ++ parts_of rest → NoComma rest → parts_of text ≡ map decimal read ++ rest ∷ []
uncut text read rest e none = e ∙ ap (λ (ps : List (List ℕ)). map decimal read ++ ps) (slice_split_none (λ b. b == 44) rest none)

-- the last number is read
pub finished : (text read p : List ℕ) (n : ℕ) → parts_of text ≡ map decimal read ++ p ∷ [] → p ≡ decimal n → n < 2 ^ 63 → All (λ n. n < 2 ^ 63) read → AreNumbers text (read ++ n ∷ [])
finished text read p n e is small smalls = record {
  parts = pushed text read p n [] e is ∙ append-nil (map decimal (read ++ n ∷ []));
  small = All-push (λ n. n < 2 ^ 63) read n smalls small;
}

-- A plan's text that isn't empty is its numbers.
pub plan_is_numbers : (copies : ℕ) (text s : List ℕ) → 0 < length text → IsPlanText copies text s → AreNumbers text s
plan_is_numbers copies text [] some plan = absurd (omega (arith, ap length plan.reads))
plan_is_numbers copies text (n ∷ s) some plan = record { parts = ap parts_of plan.reads ∙ parts_of_joined n s plan.small; small = plan.small }

-- a number from its decimal
value_of : (n : ℕ) → n < 2 ^ 63 → digits_value 10 (decimal n) ≡ n
value_of n lt = (decimal_is_IsNumeral n (omega arith)).1

same_numbers : (s t : List ℕ) → All (λ n. n < 2 ^ 63) s → All (λ n. n < 2 ^ 63) t → map decimal s ≡ map decimal t → s ≡ t
same_numbers [] [] hs ht e = refl
same_numbers [] (n ∷ t) hs ht e = absurd (cc)
same_numbers (m ∷ s) [] hs ht e = absurd (cc)
same_numbers (m ∷ s) (n ∷ t) hs ht e =
    let heads : decimal m ≡ decimal n = cc in
    let tails : map decimal s ≡ map decimal t = cc in
    let first : m ≡ n = sym (value_of m (All-head (λ n. n < 2 ^ 63) m s hs)) ∙ ap (λ (ds : List ℕ). digits_value 10 ds) heads ∙ value_of n (All-head (λ n. n < 2 ^ 63) n t ht) in
    let rest : s ≡ t = same_numbers s t (All-tail (λ n. n < 2 ^ 63) m s hs) (All-tail (λ n. n < 2 ^ 63) n t ht) tails in
    cc (first, rest)

-- A text has the same numbers always.
pub only_numbers : (text s t : List ℕ) → AreNumbers text s → AreNumbers text t → s ≡ t
only_numbers text s t hs ht = same_numbers s t hs.small ht.small (sym hs.parts ∙ ht.parts)

pub some_there : (n : ℕ) → (n == 0) ≡ false → 0 < n
some_there zero e = absurd (false≢true (sym e))
some_there (suc n) e = omega arith
