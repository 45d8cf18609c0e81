-- The bytes of sections one behind the other: each part has its section's bytes, and parts lie apart.
use Rattle.std.specs.Prelude.{◌≡◌, ◌<◌, ◌≤◌, ℕ, ◌+◌, ◌-◌, ◌*◌, ◌/◌, List, [], ◌∷◌, ◌++◌, length, replicate, get_or, Contains}
use Rattle.std.proofs.Common.{arith, inl, inr, ap, sym, ◌∙◌, subst, mul_comm}
use Rattle.std.proofs.Math.Nat.{div-mul-le_self}
use Rattle.std.proofs.lemmas.List.{length-replicate, length-append, get_or-append-add, get_or_append_left}
use Rattle.elf_model.specs.declared.objects.Section.{Section}
use Rattle.elf_model.specs.Canonical.{round_up}
use Rattle.thumb_table.specs.Layouts.{Placed, placed, part_bytes, bytes_from}
use Rattle.elf_model.proofs.Elements.{contains_cases, contains_none, contains_here, contains_later}

pub rounded : (x a : ℕ) → 0 < a → x ≤ round_up x a
rounded x a h =
    let low = div-mul-le_self (x + a - 1) a in
    let near : x + a - 1 < (x + a - 1) / a * a + a = omega (arith, mul_comm ((x + a - 1) / a) a) in
    omega arith

pub record Good (alignment : Section → ℕ) (s : Section) : Type 0 where
  pub positive : 0 < alignment s
  pub sized : length (part_bytes s) ≡ s.size

abbrev pub AllGood : (Section → ℕ) → List Placed → Type 0
AllGood alignment ps = (p : Placed) → Contains ps p → Good alignment p.section

abbrev pub begun : (Section → ℕ) → ℕ → Placed → Placed
begun alignment from q = record q { start = round_up from (alignment q.section) }

abbrev pub next : (Section → ℕ) → ℕ → Placed → ℕ
next alignment from q = round_up from (alignment q.section) + q.section.size

pub rest_good : (alignment : Section → ℕ) (q : Placed) (ps : List Placed) → AllGood alignment (q ∷ ps) → AllGood alignment ps
rest_good alignment q ps good p c = good p (contains_later q ps p c)

pub begins : (alignment : Section → ℕ) (from : ℕ) (ps : List Placed) → AllGood alignment ps → (p : Placed) → Contains (placed alignment from ps) p → from ≤ p.start
begins alignment from [] good p c = absurd (contains_none p c)
begins alignment from (q ∷ ps) good p c =
    let low = rounded from (alignment q.section) (good q (contains_here q ps)).positive in
    elim (contains_cases (begun alignment from q) (placed alignment (next alignment from q) ps) p c) [
      | inl e ↦ subst (λ (z : Placed). from ≤ z.start) e low
      | inr r ↦ let more = begins alignment (next alignment from q) ps (rest_good alignment q ps good) p r in omega arith
    ]

-- the gap, the first section's bytes, and the rest
abbrev pub tail : (Section → ℕ) → ℕ → Placed → List Placed → List ℕ
tail alignment from q ps = bytes_from (next alignment from q) (placed alignment (next alignment from q) ps)

abbrev pub gap : (Section → ℕ) → ℕ → Placed → List ℕ
gap alignment from q = replicate (round_up from (alignment q.section) - from) 0

in_head : (alignment : Section → ℕ) (from : ℕ) (q : Placed) (ps : List Placed) → AllGood alignment (q ∷ ps) → (x : ℕ) → x < q.section.size
    → get_or (bytes_from from (placed alignment from (q ∷ ps))) (round_up from (alignment q.section) + x - from) 0 ≡ get_or (part_bytes q.section) x 0
in_head alignment from q ps good x lt =
    let g = good q (contains_here q ps) in
    let low = rounded from (alignment q.section) g.positive in
    let size : length (gap alignment from q) ≡ round_up from (alignment q.section) - from = length-replicate (round_up from (alignment q.section) - from) 0 in
    let whole : length (part_bytes q.section) ≡ q.section.size = g.sized in
    let front : length (gap alignment from q ++ part_bytes q.section) ≡ length (gap alignment from q) + length (part_bytes q.section) = length-append (gap alignment from q) (part_bytes q.section) in
    let index : round_up from (alignment q.section) + x - from ≡ length (gap alignment from q) + x = omega arith in
    let short : length (gap alignment from q) + x < length (gap alignment from q ++ part_bytes q.section) = omega arith in
    ap (λ (k : ℕ). get_or (bytes_from from (placed alignment from (q ∷ ps))) k 0) index
    ∙ (get_or_append_left (gap alignment from q ++ part_bytes q.section) (tail alignment from q ps) 0 (length (gap alignment from q) + x) short
    ∙ get_or-append-add (gap alignment from q) (part_bytes q.section) x 0)

pub in_tail : (alignment : Section → ℕ) (from : ℕ) (q : Placed) (ps : List Placed) → AllGood alignment (q ∷ ps) → (k : ℕ) → next alignment from q ≤ k
    → get_or (bytes_from from (placed alignment from (q ∷ ps))) (k - from) 0 ≡ get_or (tail alignment from q ps) (k - next alignment from q) 0
in_tail alignment from q ps good k le =
    let g = good q (contains_here q ps) in
    let low = rounded from (alignment q.section) g.positive in
    let size : length (gap alignment from q) ≡ round_up from (alignment q.section) - from = length-replicate (round_up from (alignment q.section) - from) 0 in
    let whole : length (part_bytes q.section) ≡ q.section.size = g.sized in
    let front : length (gap alignment from q ++ part_bytes q.section) ≡ length (gap alignment from q) + length (part_bytes q.section) = length-append (gap alignment from q) (part_bytes q.section) in
    let index : k - from ≡ length (gap alignment from q ++ part_bytes q.section) + (k - next alignment from q) = omega arith in
    ap (λ (m : ℕ). get_or (bytes_from from (placed alignment from (q ∷ ps))) m 0) index
    ∙ get_or-append-add (gap alignment from q ++ part_bytes q.section) (tail alignment from q ps) (k - next alignment from q) 0

-- in a part's place stand its section's bytes
pub raw_byte : (alignment : Section → ℕ) (from : ℕ) (ps : List Placed) → AllGood alignment ps → (p : Placed) → Contains (placed alignment from ps) p → (x : ℕ) → x < p.section.size
    → get_or (bytes_from from (placed alignment from ps)) (p.start + x - from) 0 ≡ get_or (part_bytes p.section) x 0
raw_byte alignment from [] good p c x lt = absurd (contains_none p c)
raw_byte alignment from (q ∷ ps) good p c x lt =
    elim (contains_cases (begun alignment from q) (placed alignment (next alignment from q) ps) p c) [
      | inl e ↦
          subst (λ (z : Placed). x < z.section.size → get_or (bytes_from from (placed alignment from (q ∷ ps))) (z.start + x - from) 0 ≡ get_or (part_bytes z.section) x 0) e
          (λ less. in_head alignment from q ps good x less) lt
      | inr r ↦
          let good2 = rest_good alignment q ps good in
          let low = begins alignment (next alignment from q) ps good2 p r in
          let far : next alignment from q ≤ p.start + x = omega arith in
          in_tail alignment from q ps good (p.start + x) far ∙ raw_byte alignment (next alignment from q) ps good2 p r x lt
    ]

-- parts lie within the bytes
pub ends_inside : (alignment : Section → ℕ) (from : ℕ) (ps : List Placed) → AllGood alignment ps → (p : Placed) → Contains (placed alignment from ps) p
    → p.start + p.section.size ≤ from + length (bytes_from from (placed alignment from ps))
ends_inside alignment from [] good p c = absurd (contains_none p c)
ends_inside alignment from (q ∷ ps) good p c =
    let g = good q (contains_here q ps) in
    let low = rounded from (alignment q.section) g.positive in
    let size : length (gap alignment from q) ≡ round_up from (alignment q.section) - from = length-replicate (round_up from (alignment q.section) - from) 0 in
    let whole : length (part_bytes q.section) ≡ q.section.size = g.sized in
    let one : length (bytes_from from (placed alignment from (q ∷ ps))) ≡ length (gap alignment from q ++ part_bytes q.section) + length (tail alignment from q ps) = length-append (gap alignment from q ++ part_bytes q.section) (tail alignment from q ps) in
    let two : length (gap alignment from q ++ part_bytes q.section) ≡ length (gap alignment from q) + length (part_bytes q.section) = length-append (gap alignment from q) (part_bytes q.section) in
    elim (contains_cases (begun alignment from q) (placed alignment (next alignment from q) ps) p c) [
      | inl e ↦ subst (λ (z : Placed). z.start + z.section.size ≤ from + length (bytes_from from (placed alignment from (q ∷ ps)))) e (omega arith)
      | inr r ↦ let more = ends_inside alignment (next alignment from q) ps (rest_good alignment q ps good) p r in omega arith
    ]

-- an address is in one part
pub one_part : (alignment : Section → ℕ) (from : ℕ) (ps : List Placed) → AllGood alignment ps → (p r : Placed) → Contains (placed alignment from ps) p → Contains (placed alignment from ps) r
    → (x y : ℕ) → x < p.section.size → y < r.section.size → p.start + x ≡ r.start + y → p ≡ r
one_part alignment from [] good p r c d x y lx ly e = absurd (contains_none p c)
one_part alignment from (q ∷ ps) good p r c d x y lx ly e =
    let good2 = rest_good alignment q ps good in
    let head = begun alignment from q in
    elim (contains_cases (begun alignment from q) (placed alignment (next alignment from q) ps) p c) [
      | inl a ↦ elim (contains_cases (begun alignment from q) (placed alignment (next alignment from q) ps) r d) [
        | inl b ↦ sym a ∙ b
        | inr s ↦
            let low = begins alignment (next alignment from q) ps good2 r s in
            let start : round_up from (alignment q.section) ≡ p.start = ap (λ (z : Placed). z.start) a in
            let size : q.section.size ≡ p.section.size = ap (λ (z : Placed). z.section.size) a in
            absurd (omega arith)
      ]
      | inr t ↦ elim (contains_cases (begun alignment from q) (placed alignment (next alignment from q) ps) r d) [
        | inl b ↦
            let low = begins alignment (next alignment from q) ps good2 p t in
            let start : round_up from (alignment q.section) ≡ r.start = ap (λ (z : Placed). z.start) b in
            let size : q.section.size ≡ r.section.size = ap (λ (z : Placed). z.section.size) b in
            absurd (omega arith)
        | inr s ↦ one_part alignment (next alignment from q) ps good2 p r t s x y lx ly e
      ]
    ]
