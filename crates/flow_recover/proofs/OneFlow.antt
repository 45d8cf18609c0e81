-- What a flow is leaves nothing open: an object has one flow at most, and is refused for one reason.
use Rattle.std.proofs.Common.{◌≡◌, ◌↔◌, ◌<◌, ℕ, false, List, length, map, refl, sym, ap, ◌∙◌, subst, inl, inr, arith, Option, Some}
use Rattle.std.specs.Prelude.{slice_get, Contains}
use Rattle.std.specs.List.Sorted.{IsStrictlySortedBy}
use Rattle.std.specs.declared.cmp.Ordering.TheVariants.{Less}
use Rattle.std.proofs.lemmas.Bool.{true≢false}
use Rattle.std.proofs.lemmas.Option.{same_Some, slice_get_within}
use Rattle.elf_model.specs.declared.refusals.Refusal.{Refusal}
use Rattle.elf_model.specs.declared.refusals.Refusal.TheVariants as refusal
use Rattle.elf_model.specs.declared.refusals.Spot.{Spot}
use Rattle.elf_model.specs.declared.refusals.Deny.TheVariants.{Refused}
use Rattle.elf_model.specs.Objects.{ObjectParts}
use Rattle.thumb_instr.specs.declared.instructions.Instr.{Instr}
use Rattle.thumb_instr.specs.declared.instructions.Instr.TheVariants as instr
use Rattle.thumb_instr.specs.declared.refusals.BadInstr.{BadInstr}
use Rattle.thumb_instr.specs.declared.refusals.BadInstr.TheVariants as bad
use Rattle.thumb_instr.specs.Fields.{LiteralFields}
use Rattle.flow_recover.specs.declared.aims.Aim.{Aim}
use Rattle.flow_recover.specs.declared.aims.Aim.TheVariants.{Near}
use Rattle.flow_recover.specs.declared.flows.Exit.{Exit}
use Rattle.flow_recover.specs.declared.flows.Exit.TheVariants as exit
use Rattle.flow_recover.specs.declared.flows.Point.{Point}
use Rattle.flow_recover.specs.declared.flows.PoolWord.{PoolWord}
use Rattle.flow_recover.specs.declared.nodes.Node.{Node}
use Rattle.flow_recover.specs.Flows.{FlowParts}
use Rattle.code_ranges.specs.Spans.{place_cmp}
use Rattle.flow_recover.specs.Reach.{node_behind, node_at}
use Rattle.flow_recover.specs.FlowFaults.{literal_place, refusal_of, FlowFault, IsFlowRefusal, IsFlowDenial}
use Rattle.flow_recover.specs.FlowFaults.{FlowFault as fault}
use Rattle.flow_recover.specs.WholeFlows.{is_near, IsExit, IsNext, IsLoaded, IsPoint, IsEntry, place_of_node, place_of_word, IsFlow}
use Rattle.flow_recover.specs.WholeFlows.{IsExit as exits}
use Rattle.flow_recover.specs.WholeFlows.{IsNext as nexts}
use Rattle.flow_recover.specs.WholeFlows.{IsLoaded as loads}
use Rattle.flow_recover.proofs.AimFacts.{aim_once}
use Rattle.flow_recover.proofs.EdgeFacts.{ends_never}
use Rattle.elf_model.proofs.Elements.{element_at}
use Rattle.code_ranges.proofs.InOrder.{through, one_list, one_index, same_at_each, never_less, never_itself, rises_keys, rises_numbers}
use Rattle.flow_recover.proofs.OneState.{one_instr}
use Rattle.code_ranges.proofs.PlaceOrder.{place_total}
use Rattle.code_ranges.proofs.OneRanges.{ranges_once, IsNamed, named_as, same_spot, range_refusal_once}

-- lists that rise by places
module _ {X : Type 0} (place : X → ℕ × ℕ) where
  in_places : (xs ys : List X) → IsStrictlySortedBy place_cmp (map place xs) → IsStrictlySortedBy place_cmp (map place ys) → ((x : X) → Contains xs x ↔ Contains ys x) → xs ≡ ys
  in_places xs ys s t same =
      one_list (λ (a b : X). place_cmp (place a) (place b) ≡ Less) (λ a b. never_less place_cmp place_total (place a) (place b)) xs ys (rises_keys place place_cmp xs s) (rises_keys place place_cmp ys t) same

  pub index_once : (xs : List X) (p q : ℕ) (x y : X) → IsStrictlySortedBy place_cmp (map place xs) → slice_get xs p ≡ Some x → slice_get xs q ≡ Some y → place x ≡ place y → p ≡ q
  index_once xs p q x y s e f same =
      one_index (λ (a b : X). place_cmp (place a) (place b) ≡ Less) (λ a b. never_less place_cmp place_total (place a) (place b)) xs p q x y (rises_keys place place_cmp xs s) e f
      (never_itself place_cmp place_total (place x) (place y) same) (never_itself place_cmp place_total (place y) (place x) (sym same))

same_near : (x y : ℕ) → Near x ≡ Near y → x ≡ y
same_near x y e = cc

same_literal : (l m : LiteralFields) → instr.Literal l ≡ instr.Literal m → l ≡ m
same_literal l m e = cc

near_is_not : (x : ℕ) (a : Aim) → Near x ≡ a → is_near a ≡ false → ⊥
near_is_not x a e h = true≢false (ap is_near e ∙ h)

module _ (o : ObjectParts) (nodes : List Node) (order : IsStrictlySortedBy place_cmp (map place_of_node nodes)) (n : Node) (i : Instr) where
  node_once : (p q : ℕ) (m k : Node) → slice_get nodes p ≡ Some m → slice_get nodes q ≡ Some k → m ≡ k → p ≡ q
  node_once p q m k e f same = index_once place_of_node nodes p q m k order e f (ap place_of_node same)

  exit_once : (e f : Exit) → IsExit o nodes n i e → IsExit o nodes n i f → e ≡ f
  exit_once e f (exits.plain b is) (exits.plain c are) = is ∙ sym are
  exit_once e f (exits.plain b is) (exits.near x q c aim at are) = absurd (true≢false (sym c ∙ b))
  exit_once e f (exits.plain b is) (exits.far a c aim not_near are) = absurd (true≢false (sym c ∙ b))
  exit_once e f (exits.near x q b aim at is) (exits.plain c are) = absurd (true≢false (sym b ∙ c))
  exit_once e f (exits.near x q b aim at is) (exits.near y p c aim2 at2 are) =
      let same : x ≡ y = same_near x y (aim_once o n.section n.offset i (Near x) (Near y) aim aim2) in
      is ∙ ap (λ (k : ℕ). exit.Branch k) (node_once q p (node_at n.section x) (node_at n.section y) at at2 (ap (λ (k : ℕ). node_at n.section k) same)) ∙ sym are
  exit_once e f (exits.near x q b aim at is) (exits.far a c aim2 not_near are) = absurd (near_is_not x a (aim_once o n.section n.offset i (Near x) a aim aim2) not_near)
  exit_once e f (exits.far a b aim not_near is) (exits.plain c are) = absurd (true≢false (sym b ∙ c))
  exit_once e f (exits.far a b aim not_near is) (exits.near x q c aim2 at are) = absurd (near_is_not x a (aim_once o n.section n.offset i (Near x) a aim2 aim) not_near)
  exit_once e f (exits.far a b aim not_near is) (exits.far d c aim2 not_near2 are) = is ∙ sym are

  next_once : (r s : Option ℕ) → IsNext o nodes n i r → IsNext o nodes n i s → r ≡ s
  next_once r s (nexts.on q g at is) (nexts.on p h at2 are) = is ∙ ap (λ (k : ℕ). Some k) (node_once q p (node_behind o n i) (node_behind o n i) at at2 refl) ∙ sym are
  next_once r s (nexts.on q g at is) (nexts.none h are) = absurd (ends_never o n i h g)
  next_once r s (nexts.none g is) (nexts.on q h at are) = absurd (ends_never o n i g h)
  next_once r s (nexts.none g is) (nexts.none h are) = is ∙ sym are

word_once : (words : List PoolWord) → IsStrictlySortedBy place_cmp (map place_of_word words) → (n : Node) (i : Instr) (r s : Option ℕ) → IsLoaded words n i r → IsLoaded words n i s → r ≡ s
word_once words order n i r s (loads.literal l k w load at section place is) (loads.literal m j v load2 at2 section2 place2 are) =
    let same : l ≡ m = same_literal l m (sym load ∙ load2) in
    let there : w.offset ≡ v.offset = same_Some w.offset v.offset (sym place ∙ ap (λ (z : LiteralFields). literal_place n.offset z) same ∙ place2) in
    let here : place_of_word w ≡ place_of_word v = ap (λ (z : ℕ). let p : ℕ × ℕ = (z, w.offset) in p) (section ∙ sym section2) ∙ ap (λ (z : ℕ). let p : ℕ × ℕ = (v.section, z) in p) there in
    is ∙ ap (λ (z : ℕ). Some z) (index_once place_of_word words k j w v order at at2 here) ∙ sym are
word_once words order n i r s (loads.literal l k w load at section place is) (loads.none never are) = absurd (never l load)
word_once words order n i r s (loads.none never is) (loads.literal l k w load at section place are) = absurd (never l load)
word_once words order n i r s (loads.none never is) (loads.none never2 are) = is ∙ sym are

same_point : (p q : Point) → p.section ≡ q.section → p.offset ≡ q.offset → p.wide ≡ q.wide → p.instr ≡ q.instr → p.cond ≡ q.cond → p.exit ≡ q.exit → p.next ≡ q.next → p.reloc ≡ q.reloc → p.word ≡ q.word → p ≡ q
same_point p q a b c d e f g h k = λ i. record { section = a i; offset = b i; wide = c i; instr = d i; cond = e i; exit = f i; next = g i; reloc = h i; word = k i }

point_once : (o : ObjectParts) (nodes : List Node) (words : List PoolWord) → IsStrictlySortedBy place_cmp (map place_of_node nodes) → IsStrictlySortedBy place_cmp (map place_of_word words) → (n : Node) (p q : Point)
    → IsPoint o nodes words n p → IsPoint o nodes words n q → p ≡ q
point_once o nodes words order words_order n p q x y =
    let same : p.instr ≡ q.instr = one_instr o n p.instr q.instr x.instr y.instr in
    let exit_too : IsExit o nodes n p.instr q.exit = subst (λ (z : Instr). IsExit o nodes n z q.exit) (sym same) y.exit in
    let next_too : IsNext o nodes n p.instr q.next = subst (λ (z : Instr). IsNext o nodes n z q.next) (sym same) y.next in
    let word_too : IsLoaded words n p.instr q.word = subst (λ (z : Instr). IsLoaded words n z q.word) (sym same) y.word in
    same_point p q (x.section ∙ sym y.section) (x.offset ∙ sym y.offset) (x.wide ∙ sym y.wide) same (x.cond ∙ sym y.cond)
    (exit_once o nodes order n p.instr p.exit q.exit x.exit exit_too) (next_once o nodes order n p.instr p.next q.next x.next next_too)
    (x.reloc ∙ sym y.reloc) (word_once words words_order n p.instr p.word q.word x.word word_too)

same_flow : (f g : FlowParts) → f.points ≡ g.points → f.words ≡ g.words → f.entries ≡ g.entries → f.ranges ≡ g.ranges → f ≡ g
same_flow f g a b c d = λ i. record { points = a i; words = b i; entries = c i; ranges = d i }

pub flow_once : (o : ObjectParts) (f g : FlowParts) → IsFlow o f → IsFlow o g → f ≡ g
flow_once o f g x y =
    let nodes : x.nodes ≡ y.nodes = in_places place_of_node x.nodes y.nodes x.order y.order (λ n. through (x.reached n) (y.reached n)) in
    let words : f.words ≡ g.words = in_places place_of_word f.words g.words x.words_order y.words_order (λ w. through (x.words w) (y.words w)) in
    let entries : f.entries ≡ g.entries =
    one_list (λ (a b : ℕ). a < b) (λ a b h k. absurd (omega arith)) f.entries g.entries (rises_numbers f.entries x.entries_order) (rises_numbers g.entries y.entries_order)
    (λ q. through (x.entries q) (subst (λ (l : List Node). Contains g.entries q ↔ ((j z : ℕ) × (IsEntry o j z × (slice_get l q ≡ Some (node_at j z))))) (sym nodes) (y.entries q))) in
    let points : f.points ≡ g.points = same_at_each f.points g.points (x.count ∙ ap length nodes ∙ sym y.count) (λ k p q at at2. each k p q at at2 nodes words) in
    same_flow f g points words entries (ranges_once o f.ranges g.ranges x.ranges y.ranges)
  where
    each : (k : ℕ) (p q : Point) → slice_get f.points k ≡ Some p → slice_get g.points k ≡ Some q → x.nodes ≡ y.nodes → f.words ≡ g.words → p ≡ q
    each k p q at at2 nodes words =
        let long : k < length x.nodes = omega (arith, slice_get_within f.points k p at, x.count) in
        let n = element_at x.nodes k long in
        let there : slice_get y.nodes k ≡ Some n.0 = subst (λ (l : List Node). slice_get l k ≡ Some n.0) nodes n.1 in
        let other : IsPoint o x.nodes f.words n.0 q =
        subst (λ (l : List Node). IsPoint o l f.words n.0 q) (sym nodes) (subst (λ (l : List PoolWord). IsPoint o y.nodes l n.0 q) (sym words) (y.points k n.0 q there at2)) in
        point_once o x.nodes f.words x.order x.words_order n.0 p q (x.points k n.0 p n.1 at) other

-- the points of a recovered flow stand at places of their own
node_here : (o : ObjectParts) (f : FlowParts) (flow : IsFlow o f) (p : ℕ) (x : Point) → slice_get f.points p ≡ Some x → (n : Node) × (slice_get flow.nodes p ≡ Some n) × (x.section ≡ n.section) × (x.offset ≡ n.offset)
node_here o f flow p x at =
    let long : p < length flow.nodes = omega (arith, slice_get_within f.points p x at, flow.count) in
    let n = element_at flow.nodes p long in
    let is = flow.points p n.0 x n.1 at in
    (n.0, n.1, is.section, is.offset)

pub point_once_at : (o : ObjectParts) (f : FlowParts) → IsFlow o f → (p q : ℕ) (x y : Point) → slice_get f.points p ≡ Some x → slice_get f.points q ≡ Some y → x.section ≡ y.section → x.offset ≡ y.offset → p ≡ q
point_once_at o f flow p q x y at at2 e g =
    let n = node_here o f flow p x at in
    let m = node_here o f flow q y at2 in
    let section : n.0.section ≡ m.0.section = sym n.2 ∙ e ∙ m.2 in
    let offset : n.0.offset ≡ m.0.offset = sym n.3 ∙ g ∙ m.3 in
    index_once place_of_node flow.nodes p q n.0 m.0 flow.order n.1 m.1 (λ i. (section i, offset i))

named_bad : (b : BadInstr) → IsNamed (refusal_of b)
named_bad bad.Unknown = refl
named_bad bad.Unpredictable = refl
named_bad bad.SupervisorCall = refl
named_bad bad.TableBranch = refl
named_bad bad.ReadsAndSetsFlags = refl
named_bad bad.SystemInstr = refl
named_bad bad.PcOperand = refl

named_flow : (o : ObjectParts) (r : Refusal) (j x : ℕ) → FlowFault o r j x → IsNamed r
named_flow o r j x (fault.no_instr n b reached found e section offset) = named_as r (refusal_of b) e (named_bad b)
named_flow o r j x (fault.adr n i reached e section offset) = named_as r refusal.PcOperand e refl
named_flow o r j x (fault.relocation k q at wrong e section offset) = named_as r refusal.RelocKind e refl
named_flow o r j x (fault.no_start k y claim none e) = named_as r refusal.IntoMiddle e refl
named_flow o r j x (fault.in_block k y claim within e) = named_as r refusal.IntoMiddle e refl
named_flow o r j x (fault.absolute n i reached has aim e section offset) = named_as r refusal.IntoMiddle e refl
named_flow o r j x (fault.arm_address q s k reference clear e section offset) = named_as r refusal.IntoMiddle e refl
named_flow o r j x (fault.no_word n i reached none e section offset) = named_as r refusal.IntoMiddle e refl
named_flow o r j x (fault.no_code n i reached falls none e section offset) = named_as r refusal.FallsOff e refl
named_flow o r j x (fault.cut_block n i reached found cut e section offset) = named_as r refusal.FallsOff e refl

flow_refusal_once : (o : ObjectParts) (s t : Spot) → IsFlowRefusal o s → IsFlowRefusal o t → s ≡ t
flow_refusal_once o s t a b =
    same_spot s t (named_flow o s.refusal s.section s.offset a.fault) (named_flow o t.refusal t.section t.offset b.fault) a.file b.file (b.first s.refusal s.section s.offset a.fault) (a.first t.refusal t.section t.offset b.fault)

pub refusal_once : (o : ObjectParts) (s t : Spot) → IsFlowDenial o (Refused s) → IsFlowDenial o (Refused t) → s ≡ t
refusal_once o s t (inl a) (inl b) = range_refusal_once o s t a b
refusal_once o s t (inl a) (inr b) = absurd (b.ranges s.refusal s.section s.offset a.fault)
refusal_once o s t (inr a) (inl b) = absurd (a.ranges t.refusal t.section t.offset b.fault)
refusal_once o s t (inr a) (inr b) = flow_refusal_once o s t a.flow b.flow

pub flow_or_refusal : (o : ObjectParts) (f : FlowParts) (s : Spot) → IsFlow o f → IsFlowDenial o (Refused s) → ⊥
flow_or_refusal o f s x (inl a) = x.ranges.sound s.refusal s.section s.offset a.fault
flow_or_refusal o f s x (inr a) = x.no_fault s.refusal s.section s.offset a.flow.fault
