-- There are no more words than points, of which each loads one at most.
use Rattle.std.proofs.Common.{◌≡◌, ◌<◌, ◌≤◌, ℕ, zero, suc, ◌+◌, ◌^◌, Bool, true, false, cond, List, [], ◌∷◌, length, map, filter, sym, ap, ◌∙◌, subst, inl, inr, arith, Option, Some, unwrap_or}
use Rattle.std.specs.Prelude.{slice_get, Contains, IsTrue, ◌==◌, ◌&&◌, not, nat_le}
use Rattle.std.proofs.lemmas.Bool.{and_parts, and_from, leb-true, le-leb, eq-eqb, ne_eqb}
use Rattle.std.proofs.lemmas.Option.{same_Some, slice_get_within}
use Rattle.std.proofs.lemmas.List.{length-map}
use Rattle.elf_model.specs.declared.refusals.TheConstants.Limit.{INPUT}
use Rattle.elf_model.specs.Objects.{ObjectParts, is_within, code_size}
use Rattle.elf_model.proofs.Elements.{contains_cases, contains_none, contains_at, map_contains, filter_contains, element_at, place_of}
use Rattle.thumb_instr.specs.declared.instructions.Instr.TheVariants as instr
use Rattle.std.specs.declared.cmp.Ordering.TheVariants.{Less}
use Rattle.code_ranges.specs.Spans.{place_cmp}
use Rattle.code_ranges.proofs.PlaceOrder.{place_total}
use Rattle.code_ranges.proofs.InOrder.{one_index, never_less, never_itself, rises_keys}
use Rattle.reloc_places.proofs.StartFacts.{any_limit}
use Rattle.flow_recover.specs.declared.flows.Point.{Point}
use Rattle.flow_recover.specs.declared.flows.PoolWord.{PoolWord}
use Rattle.flow_recover.specs.Flows.{FlowParts}
use Rattle.flow_recover.specs.FlowFaults.{literal_place}
use Rattle.flow_recover.specs.WholeFlows.{IsFlow, place_of_word}
use Rattle.flow_recover.specs.WholeFlows.IsLoaded.{literal, none as unloaded}
use Rattle.flow_recover.proofs.OneState.{one_instr}

-- A list that has each number below m has m elements.
abbrev but : ℕ → List ℕ → List ℕ
but m = filter (λ (q : ℕ). not (q == m))

but_first : (b : Bool) (q m : ℕ) (qs : List ℕ) → length (but m qs) ≤ length qs → length (cond (not b) (q ∷ but m qs) (but m qs)) ≤ suc (length qs)
but_first true q m qs low = omega arith
but_first false q m qs low = omega arith

but_fewer : (m : ℕ) (qs : List ℕ) → length (but m qs) ≤ length qs
but_fewer m [] = omega arith
but_fewer m (q ∷ qs) = but_first (q == m) q m qs (but_fewer m qs)

but_one : (m : ℕ) (qs : List ℕ) → Contains qs m → length (but m qs) < length qs
but_one m [] h = absurd (contains_none m h)
but_one m (q ∷ qs) h = elim (contains_cases q qs m h) [
  | inl e ↦ let few = but_fewer m qs in let same : length (but m (q ∷ qs)) ≡ length (but m qs) = ap (λ (b : Bool). length (cond (not b) (q ∷ but m qs) (but m qs))) (eq-eqb q m e) in omega arith
  | inr later ↦ go (q == m) (but_one m qs later)
]
  where
    go : (b : Bool) → length (but m qs) < length qs → length (cond (not b) (q ∷ but m qs) (but m qs)) < suc (length qs)
    go true low = omega arith
    go false low = omega arith

covered : (m : ℕ) (qs : List ℕ) → ((k : ℕ) → k < m → Contains qs k) → m ≤ length qs
covered zero qs all = omega arith
covered (suc m) qs all =
    let fewer = but_one m qs (all m (omega arith)) in
    let rest = covered m (but m qs) (λ k low. filter_contains (λ (q : ℕ). not (q == m)) qs k (all k (omega arith)) (ap not (ne_eqb k m (λ e. absurd (omega arith))))) in
    omega arith

-- the word that a point loads
abbrev word_of : Point → ℕ
word_of x = unwrap_or x.word 0

module _ (o : ObjectParts) (f : FlowParts) (flow : IsFlow o f) where
  word_once : (i k : ℕ) (v w : PoolWord) → slice_get f.words i ≡ Some v → slice_get f.words k ≡ Some w → v.section ≡ w.section → v.offset ≡ w.offset → i ≡ k
  word_once i k v w e g section offset =
      let same : place_of_word v ≡ place_of_word w = λ n. (section n, offset n) in
      one_index (λ (a b : PoolWord). place_cmp (place_of_word a) (place_of_word b) ≡ Less) (λ a b. never_less place_cmp place_total (place_of_word a) (place_of_word b)) f.words i k v w
      (rises_keys place_of_word place_cmp f.words flow.words_order) e g (never_itself place_cmp place_total (place_of_word v) (place_of_word w) same) (never_itself place_cmp place_total (place_of_word w) (place_of_word v) (sym same))

  word_loaded : (k : ℕ) → k < length f.words → Contains (map word_of f.points) k
  word_loaded k low =
      let w = element_at f.words k low in
      let is = (flow.words w.0).0 (contains_at f.words k w.0 w.1) in
      let at = place_of flow.nodes is.node ((flow.reached is.node).1 is.loads.reached) in
      let x = element_at f.points at.0 (subst (λ (m : ℕ). at.0 < m) (sym flow.count) (slice_get_within flow.nodes at.0 is.node at.1)) in
      let point = flow.points at.0 is.node x.0 at.1 x.1 in
      let form : x.0.instr ≡ instr.Literal is.literal = one_instr o is.node x.0.instr (instr.Literal is.literal) point.instr is.loads.found in
      elim point.word [
        | literal l n v same there section place named ↦
            let fields : is.literal ≡ l = (let e : instr.Literal is.literal ≡ instr.Literal l = sym form ∙ same in cc) in
            let offset : w.0.offset ≡ v.offset = same_Some w.0.offset v.offset (sym is.offset ∙ ap (literal_place is.node.offset) fields ∙ place) in
            let index : n ≡ k = word_once n k v w.0 there w.1 (section ∙ sym is.section) (sym offset) in
            let loads : word_of x.0 ≡ k = ap (λ (r : Option ℕ). unwrap_or r 0) named ∙ index in
            subst (Contains (map word_of f.points)) loads (map_contains word_of f.points x.0 (contains_at f.points at.0 x.0 x.1))
        | unloaded free named ↦ absurd (free is.literal form)
      ]

  pub few_words : length f.words ≤ length f.points
  few_words = let all = covered (length f.words) (map word_of f.points) word_loaded in let long : length (map word_of f.points) ≡ length f.points = length-map f.points word_of in omega arith

input_within : (o : ObjectParts) → IsTrue (is_within o INPUT) → code_size o.sections ≤ 65536
input_within o within =
    let all = and_parts (nat_le (length o.sections) 256 && nat_le (length o.symbols) 16384 && nat_le (length o.relocs) 65536) (nat_le (code_size o.sections) 65536) within in
    leb-true (code_size o.sections) 65536 all.1

pub input_any : (o : ObjectParts) → IsTrue (is_within o INPUT) → IsTrue (is_within o any_limit)
input_any o within =
    let all = and_parts (nat_le (length o.sections) 256 && nat_le (length o.symbols) 16384 && nat_le (length o.relocs) 65536) (nat_le (code_size o.sections) 65536) within in
    let three = and_parts (nat_le (length o.sections) 256 && nat_le (length o.symbols) 16384) (nat_le (length o.relocs) 65536) all.0 in
    let two = and_parts (nat_le (length o.sections) 256) (nat_le (length o.symbols) 16384) three.0 in
    let code = leb-true (code_size o.sections) 65536 all.1 in
    let relocs = leb-true (length o.relocs) 65536 three.1 in
    let symbols = leb-true (length o.symbols) 16384 two.1 in
    let sections = leb-true (length o.sections) 256 two.0 in
    and_from _ _ (and_from _ _ (and_from _ _ (le-leb (length o.sections) 1024 (omega arith)) (le-leb (length o.symbols) 262144 (omega arith))) (le-leb (length o.relocs) 524288 (omega arith))) (le-leb (code_size o.sections) 16777216 (omega arith))

pub few_in_all : (o : ObjectParts) (f : FlowParts) → IsTrue (is_within o INPUT) → IsFlow o f → length f.points + length f.words < 2 ^ 24
few_in_all o f within flow = let words = few_words o f flow in let points = flow.few in let code = input_within o within in omega arith
