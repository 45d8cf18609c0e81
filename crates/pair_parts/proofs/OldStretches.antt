-- The instructions of points and the words that they load do not overlap, and lie in their section.
use Rattle.std.proofs.Common.{◌≡◌, ◌≤◌, ◌<◌, ◌⊎◌, ℕ, ◌+◌, Bool, true, false, cond, List, Some, Ok, Err, length, refl, sym, ap, ◌∙◌, subst, inl, inr, arith}
use Rattle.std.specs.Prelude.{slice_get, Contains, if◌then◌else◌}
use Rattle.std.proofs.lemmas.Bool.{cases_lt, cases_order, leb-true}
use Rattle.std.proofs.lemmas.Option.{same_Some, slice_get_within}
use Rattle.elf_model.specs.declared.objects.Section.{Section}
use Rattle.elf_model.specs.declared.ranges.RangeKind.TheVariants.{Code, Data}
use Rattle.elf_model.specs.declared.refusals.Refusal.TheVariants as refusal
use Rattle.elf_model.specs.Objects.{ObjectParts}
use Rattle.elf_model.specs.Ranges.{IsRange, is_whole, length_at}
use Rattle.elf_model.proofs.Elements.{element_at}
use Rattle.thumb_instr.specs.declared.instructions.Instr.{Instr}
use Rattle.thumb_instr.specs.declared.refusals.BadInstr.TheVariants.{Unknown}
use Rattle.code_ranges.specs.Spans.{kind_at}
use Rattle.code_ranges.proofs.KindFacts.{kind_here}
use Rattle.code_ranges.proofs.RangeOrder.{range_ends}
use Rattle.reloc_places.specs.Starts.{bytes_of, decoded_at, instr_at, IsCodeStart, IsDataWord}
use Rattle.reloc_places.proofs.StartFacts.{length_least, start_before, start_behind, starts_apart}
use Rattle.flow_recover.specs.declared.flows.Point.{Point}
use Rattle.flow_recover.specs.declared.flows.PoolWord.{PoolWord}
use Rattle.flow_recover.specs.Flows.{FlowParts}
use Rattle.flow_recover.specs.FlowFaults.{FlowFault as fault}
use Rattle.flow_recover.specs.WholeFlows.{IsFlow}

-- What stands at an old offset: an instruction that is whole, or a word of data.
pub data Stands (o : ObjectParts) (j x : ℕ) : Bool → Type 0 where
  of_point : (end : ℕ) → IsCodeStart o j (bytes_of o j) x end → x + length_at (bytes_of o j) x ≤ end → Stands o j x false
  of_word : IsDataWord o j x → Stands o j x true

-- how many bytes it has at least
abbrev pub width_of : Bool → ℕ
width_of word = if word then 4 else 2

le_stable : (m n : ℕ) → (n < m → ⊥) → m ≤ n
le_stable m n f = elim (cases_lt n m) [ inl lt ↦ absurd (f lt) | inr le ↦ le ]

-- ranges of code and of data share no offset
code_or_data : (o : ObjectParts) (j a b c d : ℕ) → IsRange o Code j a b → IsRange o Data j c d → (b ≤ c) ⊎ (d ≤ a)
code_or_data o j a b c d r s =
    elim (cases_order a c) [
      | inl e ↦
          let one = kind_here o Code j a r.begins in
          let two = kind_here o Data j c s.begins in
          let same : Some Code ≡ Some Data = sym one ∙ (ap (λ (n : ℕ). kind_at o.symbols j n) e ∙ two) in
          absurd (cc)
      | inr w ↦ elim w [
        | inl low ↦ inl (range_ends o Code Data j a b c d r s low)
        | inr low ↦ inr (range_ends o Data Code j c d a b s r low)
      ]
    ]

-- of two the first ends before the other one
pub one_ends : (o : ObjectParts) (j x y : ℕ) (v w : Bool) → Stands o j x v → Stands o j y w → x < y → x + width_of v ≤ y
one_ends o j x y _ _ (of_point e1 s whole) (of_point e2 t other) less =
    let apart = starts_apart o j x y e1 e2 s whole t less in
    let least = length_least (bytes_of o j) x in
    omega arith
one_ends o j x y _ _ (of_point e1 s whole) (of_word d) less =
    let least = length_least (bytes_of o j) x in
    let behind = start_behind (bytes_of o j) s.start e1 x s.is_start in
    let room = d.before_end in
    let low = d.behind_start in
    elim (code_or_data o j s.start e1 d.start d.end s.range d.range) [ inl before ↦ omega arith | inr after ↦ absurd (omega arith) ]
one_ends o j x y _ _ (of_word d) (of_point e2 t other) less =
    let behind = start_behind (bytes_of o j) t.start e2 y t.is_start in
    let before = start_before (bytes_of o j) t.start e2 y t.is_start in
    let room = d.before_end in
    let low = d.behind_start in
    elim (code_or_data o j t.start e2 d.start d.end t.range d.range) [ inl before ↦ absurd (omega arith) | inr after ↦ omega arith ]
one_ends o j x y _ _ (of_word d) (of_word e) less =
    let one = d.aligned in
    let two = e.aligned in
    omega arith

-- and each lies in its section
pub one_inside : (o : ObjectParts) (j x : ℕ) (v : Bool) (s : Section) → slice_get o.sections j ≡ Some s → Stands o j x v → x + width_of v ≤ s.size
one_inside o j x _ s at (of_point end start whole) =
    let r = start.range in
    let size : r.section.size ≡ s.size = ap (λ (t : Section). t.size) (same_Some r.section s (sym r.is_there ∙ at)) in
    let least = length_least (bytes_of o j) x in
    let inside = r.inside in
    omega arith
one_inside o j x _ s at (of_word d) =
    let r = d.range in
    let size : r.section.size ≡ s.size = ap (λ (t : Section). t.size) (same_Some r.section s (sym r.is_there ∙ at)) in
    let inside = r.inside in
    let room = d.before_end in
    omega arith

-- It can't fail that it stands there.
abbrev pub SurelyStands : ObjectParts → ℕ → ℕ → Bool → Type 0
SurelyStands o j x v = (Stands o j x v → ⊥) → ⊥

pub surely_ends : (o : ObjectParts) (j x y : ℕ) (v w : Bool) → SurelyStands o j x v → SurelyStands o j y w → x < y → x + width_of v ≤ y
surely_ends o j x y v w a b less = le_stable (x + width_of v) y (λ lt. a (λ s. b (λ t. let h = one_ends o j x y v w s t less in absurd (omega arith))))

pub surely_inside : (o : ObjectParts) (j x : ℕ) (v : Bool) (s : Section) → slice_get o.sections j ≡ Some s → SurelyStands o j x v → x + width_of v ≤ s.size
surely_inside o j x v s at a = le_stable (x + width_of v) s.size (λ lt. a (λ t. let h = one_inside o j x v s at t in absurd (omega arith)))

found_whole : (bytes : List ℕ) (end x it : ℕ) (i : Instr) → instr_at bytes end x it ≡ Ok i → x + length_at bytes x ≤ end
found_whole bytes end x it i h = go (is_whole bytes end x) refl h
  where
    go : (b : Bool) → is_whole bytes end x ≡ b → cond b (decoded_at bytes x it) (Err Unknown) ≡ Ok i → x + length_at bytes x ≤ end
    go true e h = leb-true (x + length_at bytes x) end e
    go false e h = absurd (cc)

module _ (o : ObjectParts) (f : FlowParts) (flow : IsFlow o f) where
  pub point_stands : (k : ℕ) (x : Point) → slice_get f.points k ≡ Some x → SurelyStands o x.section x.offset false
  point_stands k x at none =
      let low : k < length flow.nodes = omega (arith, slice_get_within f.points k x at, flow.count) in
      let n = element_at flow.nodes k low in
      let is = flow.points k n.0 x n.1 at in
      let there : Stands o n.0.section n.0.offset false = of_point is.instr.end is.instr.start (found_whole (bytes_of o n.0.section) is.instr.end n.0.offset n.0.it x.instr is.instr.is) in
      none (subst (λ (j : ℕ). Stands o j x.offset false) (sym is.section) (subst (λ (y : ℕ). Stands o n.0.section y false) (sym is.offset) there))

  pub word_stands : (w : PoolWord) → Contains f.words w → SurelyStands o w.section w.offset true
  word_stands w c none =
      let loads = (flow.words w).0 c in
      flow.no_fault refusal.IntoMiddle loads.node.section loads.node.offset
      (fault.no_word loads.node loads.literal loads.loads (λ v e at.
      let same : v ≡ w.offset = same_Some v w.offset (sym e ∙ loads.offset) in
      none (of_word (subst (λ (j : ℕ). IsDataWord o j w.offset) (sym loads.section) (subst (λ (a : ℕ). IsDataWord o loads.node.section a) same at)))) refl refl refl)
