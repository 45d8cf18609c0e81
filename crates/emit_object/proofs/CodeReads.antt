-- What halfwords and words read as where known bytes stand.
use Rattle.std.proofs.Common.{◌≡◌, ◌<◌, ℕ, suc, ◌+◌, ◌*◌, ◌^◌, List, [], ◌∷◌, ◌++◌, length, drop, refl, sym, ap, ◌∙◌, subst, inl, inr, arith, Some}
use Rattle.std.specs.Prelude.{slice_get, Contains, flat_map}
use Rattle.std.proofs.lemmas.List.{get_or-drop, length-append, get_or-append-add}
use Rattle.std.proofs.lemmas.List.Sums.{sum_by-cons}
use Rattle.elf_model.specs.Fields.{byte_at, half, half_at, word_at}
use Rattle.elf_model.proofs.Elements.{contains_cases, contains_none}
use Rattle.thumb_encode.specs.declared.codes.Code.{Code}
use Rattle.thumb_encode.specs.declared.codes.Code.TheVariants as code
use Rattle.thumb_encode.specs.declared.codes.Width.{Width}
use Rattle.thumb_encode.specs.Encoding.{width_of}
use Rattle.seq_core.specs.declared.steps.Step.{Step}
use Rattle.branch_layout.specs.Copies.{bytes_of, length_of}
use Rattle.emit_object.specs.CodePieces.{code_bytes}
use Rattle.emit_object.specs.UnitCopies.{Copy, copies_from, CodeAt}

-- by their bytes
pub half_by : (b : List ℕ) (x : ℕ) → half_at b x ≡ byte_at b x + 256 * byte_at b (x + 1)
half_by b x =
    let z : x + 0 ≡ x = omega arith in
    let p : byte_at (drop x b) 0 ≡ byte_at b x = get_or-drop x b 0 0 ∙ ap (byte_at b) z in
    let q : byte_at (drop x b) 1 ≡ byte_at b (x + 1) = get_or-drop x b 1 0 in
    omega (arith, p, q)

pub word_by : (b : List ℕ) (x : ℕ) → word_at b x ≡ byte_at b x + 256 * (byte_at b (x + 1) + 256 * (byte_at b (x + 2) + 256 * byte_at b (x + 3)))
word_by b x =
    let z : x + 0 ≡ x = omega arith in
    let p : byte_at (drop x b) 0 ≡ byte_at b x = get_or-drop x b 0 0 ∙ ap (byte_at b) z in
    let q : byte_at (drop x b) 1 ≡ byte_at b (x + 1) = get_or-drop x b 1 0 in
    let r : byte_at (drop x b) 2 ≡ byte_at b (x + 2) = get_or-drop x b 2 0 in
    let s : byte_at (drop x b) 3 ≡ byte_at b (x + 3) = get_or-drop x b 3 0 in
    omega (arith, p, q, r, s)

-- a run stands at an offset
abbrev pub StandsAt : List ℕ → ℕ → List ℕ → Type 0
StandsAt b x run = (i : ℕ) → i < length run → byte_at b (x + i) ≡ byte_at run i

pub word_stands : (b : List ℕ) (x : ℕ) (run : List ℕ) → length run ≡ 4 → StandsAt b x run → word_at b x ≡ word_at run 0
word_stands b x run size stands =
    let z : x + 0 ≡ x = omega arith in
    let p : byte_at b x ≡ byte_at run 0 = ap (byte_at b) (sym z) ∙ stands 0 (omega arith) in
    let q : byte_at b (x + 1) ≡ byte_at run 1 = stands 1 (omega arith) in
    let r : byte_at b (x + 2) ≡ byte_at run 2 = stands 2 (omega arith) in
    let s : byte_at b (x + 3) ≡ byte_at run 3 = stands 3 (omega arith) in
    let there = word_by b x in
    let here = word_by run 0 in
    omega (arith, p, q, r, s, there, here)

-- CODES

-- halfwords are numbers of 16 bits
abbrev pub IsSmall : Code → Type 0
IsSmall (code.Half h) = h < 2 ^ 16
IsSmall (code.Full first second) = (first < 2 ^ 16) × (second < 2 ^ 16)

pub code_length : (c : Code) → length (code_bytes c) ≡ bytes_of (width_of c)
code_length (code.Half h) = refl
code_length (code.Full first second) = refl

half_stands : (b : List ℕ) (x h : ℕ) (rest : List ℕ) → h < 2 ^ 16 → StandsAt b x (half h ++ rest) → half_at b x ≡ h
half_stands b x h rest small stands =
    let z : x + 0 ≡ x = omega arith in
    let p : byte_at b x ≡ byte_at (half h) 0 = ap (byte_at b) (sym z) ∙ stands 0 (omega arith) in
    let q : byte_at b (x + 1) ≡ byte_at (half h) 1 = stands 1 (omega arith) in
    let there = half_by b x in
    omega (arith, p, q, there)

-- behind the first of two runs stands the second
pub stands_behind : (b : List ℕ) (x n : ℕ) (run rest : List ℕ) → length run ≡ n → StandsAt b x (run ++ rest) → StandsAt b (x + n) rest
stands_behind b x n run rest size stands i lt =
    let all = length-append run rest in
    let z : x + n + i ≡ x + (length run + i) = omega arith in
    ap (byte_at b) z ∙ stands (length run + i) (omega arith) ∙ get_or-append-add run rest i 0

code_stands : (b : List ℕ) (x : ℕ) (c : Code) (rest : List ℕ) → IsSmall c → StandsAt b x (code_bytes c ++ rest) → CodeAt b x c
code_stands b x (code.Half h) rest small stands = half_stands b x h rest small stands
code_stands b x (code.Full first second) rest small stands =
    (half_stands b x first (half second ++ rest) small.0 stands, half_stands b (x + 2) second rest small.1 (stands_behind b x 2 (half first) (half second ++ rest) refl stands))

-- each copy has its code
pub codes_stand : (b : List ℕ) (x : ℕ) (ts : List Step) (cs : List Code) → ((k : ℕ) (c : Code) → slice_get cs k ≡ Some c → IsSmall c) → StandsAt b x (flat_map code_bytes cs)
    → (p : Copy) → Contains (copies_from x ts cs) p → CodeAt b p.at p.code
codes_stand b x [] cs small stands p h = absurd (contains_none p h)
codes_stand b x (t ∷ ts) [] small stands p h = absurd (contains_none p h)
codes_stand b x (t ∷ ts) (c ∷ cs) small stands p h =
    let next : ℕ = x + bytes_of (width_of c) in
    elim (contains_cases (record { at = x; step = t; code = c }) (copies_from next ts cs) p h) [
      | inl e ↦ subst (λ (q : Copy). CodeAt b q.at q.code) e (code_stands b x c (flat_map code_bytes cs) (small 0 c refl) stands)
      | inr r ↦ codes_stand b next ts cs (λ k. small (suc k)) (stands_behind b x (bytes_of (width_of c)) (code_bytes c) (flat_map code_bytes cs) (code_length c) stands) p r
    ]

-- codes take the bytes of their widths
pub codes_length : (cs : List Code) (ws : List Width) → length cs ≡ length ws → ((k : ℕ) (c : Code) (w : Width) → slice_get cs k ≡ Some c → slice_get ws k ≡ Some w → width_of c ≡ w) → length (flat_map code_bytes cs) ≡ length_of ws
codes_length [] [] e same = refl
codes_length [] (w ∷ ws) e same = absurd (omega arith)
codes_length (c ∷ cs) [] e same = absurd (omega arith)
codes_length (c ∷ cs) (w ∷ ws) e same =
    let rest : length (flat_map code_bytes cs) ≡ length_of ws = codes_length cs ws (omega arith) (λ k. same (suc k)) in
    let all : length (code_bytes c ++ flat_map code_bytes cs) ≡ length (code_bytes c) + length (flat_map code_bytes cs) = length-append (code_bytes c) (flat_map code_bytes cs) in
    let one : length (code_bytes c) ≡ bytes_of w = code_length c ∙ ap bytes_of (same 0 c w refl refl) in
    let sum : length_of (w ∷ ws) ≡ bytes_of w + length_of ws = sum_by-cons bytes_of w ws in
    omega (arith, rest, all, one, sum)
