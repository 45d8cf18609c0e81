-- There are no more instruction starts than bytes of code.
use Rattle.std.proofs.Common.{◌≡◌, ◌<◌, ◌≤◌, ℕ, zero, suc, ◌+◌, Bool, true, cond, List, [], ◌∷◌, length, map, ap, inl, inr, arith, Some}
use Rattle.std.specs.Prelude.{Contains, IsTrue, slice_get, if◌then◌else◌}
use Rattle.std.specs.declared.cmp.Ordering.TheVariants.{Less}
use Rattle.std.specs.List.Sorted.{IsStrictlySortedBy}
use Rattle.std.proofs.lemmas.Option.{none-some, same_Some}
use Rattle.std.proofs.lemmas.List.Elements.{All-contains}
use Rattle.std.proofs.lemmas.List.Sums.{sum_by-cons}
use Rattle.std.proofs.lemmas.Map.Keys.{sorted_tail}
use Rattle.std.proofs.lemmas.Map.Views.{All-after_first}
use Rattle.elf_model.specs.declared.objects.Section.{Section}
use Rattle.elf_model.specs.Objects.{ObjectParts, is_object, is_within, is_code, code_size}
use Rattle.flow_recover.specs.declared.nodes.Node.{Node}
use Rattle.code_ranges.specs.Spans.{place_cmp}
use Rattle.reloc_places.specs.Starts.{bytes_of, HasStart}
use Rattle.flow_recover.specs.WholeFlows.{place_of_node}
use Rattle.elf_model.proofs.Elements.{contains_here, contains_later, map_contains}
use Rattle.code_ranges.proofs.MarkFacts.{less}
use Rattle.reloc_places.proofs.StartFacts.{any_limit, start_before}

abbrev code_of : Section → ℕ
code_of s = if is_code s then s.size else 0

-- the bytes of code before a section
abbrev code_before : List Section → ℕ → ℕ
code_before [] j = 0
code_before (s ∷ ss) zero = 0
code_before (s ∷ ss) (suc j) = code_of s + code_before ss j

before_all : (ss : List Section) (j : ℕ) (s : Section) → slice_get ss j ≡ Some s → code_before ss j + code_of s ≤ code_size ss
before_all [] j s e = absurd (none-some s e)
before_all (t ∷ ts) zero s e =
    let same : code_of t ≡ code_of s = ap code_of (same_Some t s e) in
    let sum = sum_by-cons code_of t ts in
    omega arith
before_all (t ∷ ts) (suc j) s e =
    let rest = before_all ts j s e in
    let sum = sum_by-cons code_of t ts in
    omega arith

before_next : (ss : List Section) (j k : ℕ) (s : Section) → slice_get ss j ≡ Some s → j < k → code_before ss j + code_of s ≤ code_before ss k
before_next [] j k s e l = absurd (none-some s e)
before_next (t ∷ ts) j zero s e l = absurd (omega arith)
before_next (t ∷ ts) zero (suc k) s e l = let same : code_of t ≡ code_of s = ap code_of (same_Some t s e) in omega arith
before_next (t ∷ ts) (suc j) (suc k) s e l = let rest = before_next ts j k s e (omega arith) in omega arith

-- the place of a start among all bytes of code
abbrev number : ObjectParts → Node → ℕ
number o n = code_before o.sections n.section + n.offset

-- the section of a start
record IsPlaced (o : ObjectParts) (j x : ℕ) : Type 0 where
  pub section : Section
  pub is_there : slice_get o.sections j ≡ Some section
  pub inside : x < code_of section

placed : (o : ObjectParts) (j x : ℕ) → HasStart o j x → IsPlaced o j x
placed o j x h =
    let r = h.start.range in
    let low = start_before (bytes_of o j) h.start.start h.end x h.start.is_start in
    let size : code_of r.section ≡ r.section.size = ap (λ (b : Bool). cond b r.section.size 0) r.in_code in
    let inside = r.inside in
    record { section = r.section; is_there = r.is_there; inside = omega arith }

number_low : (o : ObjectParts) (n : Node) → HasStart o n.section n.offset → number o n < code_size o.sections
number_low o n h =
    let p = placed o n.section n.offset h in
    let below = before_all o.sections n.section p.section p.is_there in
    let inside = p.inside in
    omega arith

number_rises : (o : ObjectParts) (n m : Node) → HasStart o n.section n.offset → place_cmp (place_of_node n) (place_of_node m) ≡ Less → number o n < number o m
number_rises o n m h e =
    elim (less (place_of_node n) (place_of_node m) e) [
      | inl l ↦
          let p = placed o n.section n.offset h in
          let next = before_next o.sections n.section m.section p.section p.is_there l in
          let inside = p.inside in
          omega arith
      | inr w ↦
          let same : code_before o.sections n.section ≡ code_before o.sections m.section = ap (code_before o.sections) w.0 in
          let later = w.1 in
          omega arith
    ]

few_above : (o : ObjectParts) (low : ℕ) (nodes : List Node) → low ≤ code_size o.sections → IsStrictlySortedBy place_cmp (map place_of_node nodes) → ((n : Node) → Contains nodes n → HasStart o n.section n.offset)
    → ((n : Node) → Contains nodes n → low ≤ number o n) → length nodes + low ≤ code_size o.sections
few_above o low [] room order starts above = omega arith
few_above o low (n ∷ rest) room order starts above =
    let start = starts n (contains_here n rest) in
    let first = above n (contains_here n rest) in
    let end = number_low o n start in
    let behind = few_above o (number o n + 1) rest (omega arith) (sorted_tail place_cmp (place_of_node n) (map place_of_node rest) order) (λ m h. starts m (contains_later n rest m h)) (later start) in
    omega arith
  where
    later : HasStart o n.section n.offset → (m : Node) → Contains rest m → number o n + 1 ≤ number o m
    later start m h =
        let after = All-contains (λ (q : ℕ × ℕ). place_cmp (place_of_node n) q ≡ Less) (map place_of_node rest) (place_of_node m) (All-after_first place_cmp (place_of_node n) (map place_of_node rest) order) (map_contains place_of_node rest m h) in
        let up = number_rises o n m start after in
        omega arith

pub few_nodes : (o : ObjectParts) (nodes : List Node) → is_object o ≡ true → IsTrue (is_within o any_limit) → IsStrictlySortedBy place_cmp (map place_of_node nodes) → ((n : Node) → Contains nodes n → HasStart o n.section n.offset)
    → length nodes ≤ code_size o.sections
few_nodes o nodes sound within order starts = let all = few_above o 0 nodes (omega arith) order starts (λ n h. omega arith) in omega arith
