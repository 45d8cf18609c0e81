-- How many copies a unit has, and how many bytes.
use Rattle.std.proofs.Common.{◌≡◌, ◌≤◌, ℕ, zero, suc, ◌+◌, ◌*◌, List, [], ◌∷◌, ◌++◌, length, take, replicate, All, ap, ◌∙◌, arith, min}
use Rattle.std.proofs.lemmas.List.{length-append, length-replicate, length-take}
use Rattle.std.proofs.lemmas.List.Elements.{All-head, All-tail}
use Rattle.std.proofs.lemmas.List.Sums.{sum_by-cons}
use Rattle.std.proofs.lemmas.Slice.Zip.{AllZip-long}
use Rattle.thumb_encode.specs.declared.codes.Width.{Width}
use Rattle.thumb_encode.specs.declared.codes.Width.TheVariants.{Half, Full}
use Rattle.seq_core.specs.declared.steps.Step.{Step}
use Rattle.branch_layout.specs.Copies.{copies_of, bytes_of, length_of}
use Rattle.branch_layout.specs.Widths.{IsLong, AreLong}

pub few_copies : (steps : List Step) → All (λ (s : Step). s.copies ≤ 4) steps → length (copies_of steps) ≤ 4 * length steps
few_copies [] all = omega arith
few_copies (s ∷ ss) all =
    let first : s.copies ≤ 4 = All-head (λ (s : Step). s.copies ≤ 4) s ss all in
    let rest : length (copies_of ss) ≤ 4 * length ss = few_copies ss (All-tail (λ (s : Step). s.copies ≤ 4) s ss all) in
    let both : length (replicate s.copies s ++ copies_of ss) ≡ length (replicate s.copies s) + length (copies_of ss) = length-append (replicate s.copies s) (copies_of ss) in
    let here : length (replicate s.copies s) ≡ s.copies = length-replicate s.copies s in
    omega arith

pub copies_before : (steps : List Step) (k : ℕ) → length (copies_of (take k steps)) ≤ length (copies_of steps)
copies_before [] zero = omega arith
copies_before [] (suc k) = omega arith
copies_before (s ∷ ss) zero = omega arith
copies_before (s ∷ ss) (suc k) =
    let rest = copies_before ss k in
    let both : length (replicate s.copies s ++ copies_of ss) ≡ length (replicate s.copies s) + length (copies_of ss) = length-append (replicate s.copies s) (copies_of ss) in
    let some : length (replicate s.copies s ++ copies_of (take k ss)) ≡ length (replicate s.copies s) + length (copies_of (take k ss)) = length-append (replicate s.copies s) (copies_of (take k ss)) in
    omega arith

pub few_bytes : (ws : List Width) → length_of ws ≤ 4 * length ws
few_bytes [] = omega arith
few_bytes (Half ∷ ws) = let rest = few_bytes ws in let e : length_of (Half ∷ ws) ≡ 2 + length_of ws = sum_by-cons bytes_of Half ws in omega arith
few_bytes (Full ∷ ws) = let rest = few_bytes ws in let e : length_of (Full ∷ ws) ≡ 4 + length_of ws = sum_by-cons bytes_of Full ws in omega arith

pub as_many : (copies : List Step) (ws : List Width) → AreLong copies ws → length ws ≡ length copies
as_many copies ws long = AllZip-long (λ (s : Step) (w : Width). IsLong s.instr w) copies ws long

-- the widths of a unit's copies are few
pub few_widths : (all steps copies shown : List Step) (ws : List Width) → steps ≡ all → length steps ≤ 8 → All (λ (s : Step). s.copies ≤ 4) all → copies ≡ copies_of steps → shown ≡ copies → AreLong shown ws
    → (length ws ≡ length (copies_of all)) × (length ws ≤ 32)
few_widths all steps copies shown ws same few each is shows long =
    let count : length ws ≡ length (copies_of all) = as_many shown ws long ∙ ap length (shows ∙ is ∙ ap copies_of same) in
    let bound : length (copies_of all) ≤ 4 * length all = few_copies all each in
    let length_same : length steps ≡ length all = ap length same in
    (count, omega arith)

pub short_take : {A : Type 0} (k : ℕ) (xs : List A) → length (take k xs) ≤ length xs
short_take k xs = let e : length (take k xs) ≡ min k (length xs) = length-take k xs in omega arith
