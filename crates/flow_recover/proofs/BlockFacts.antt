-- IT blocks: the one at a node, and the places in it.
use Rattle.std.proofs.Common.{◌≡◌, ◌↔◌, ◌⊎◌, ◌<◌, ◌≤◌, ◌+◌, ◌*◌, ◌-◌, ℕ, suc, Bool, true, false, ◌&&◌, not, List, refl, sym, ap, ◌∙◌, subst, inl, inr, arith, Option, Some, None, Ok}
use Rattle.std.specs.Prelude.{Contains, nat_le}
use Rattle.std.specs.List.{list_all}
use Rattle.std.specs.BTreeSet.{BTreeSet}
use Rattle.std.proofs.Math.Bool.{and-true}
use Rattle.std.proofs.lemmas.Bool.{true≢false}
use Rattle.std.proofs.lemmas.Option.{none-some, same_Some}
use Rattle.elf_model.specs.Objects.{ObjectParts}
use Rattle.elf_model.specs.Ranges.{is_whole, length_at}
use Rattle.thumb_instr.specs.declared.instructions.Instr.{Instr}
use Rattle.thumb_instr.specs.declared.instructions.Instr.TheVariants as instr
use Rattle.thumb_instr.specs.Fields.{ItFields}
use Rattle.flow_recover.specs.declared.blocks.Block.{Block}
use Rattle.flow_recover.specs.declared.nodes.Node.{Node}
use Rattle.flow_recover.specs.declared.visits.Visit.{Visit}
use Rattle.reloc_places.specs.Starts.{bytes_of, IsCodeStart, behind, following}
use Rattle.flow_recover.specs.Reach.{IsFound}
use Rattle.flow_recover.specs.Visits.{AreVisits}
use Rattle.flow_recover.specs.FlowFaults.{block_length, IsInBlock}
use Rattle.flow_recover.specs.Gains.{has_place, PlacesGain, IsFrom}
use Rattle.flow_recover.specs.NodeFaults.{mask_of, IsBlock, IsBelow, IsMember, IsBlockPlace, IsCut}
use Rattle.elf_model.proofs.Elements.{contains_cases, contains_here, contains_later}
use Rattle.flow_recover.proofs.AnswerFacts.{not_true, none_is, some_is, none_of, this_of, one_of}
use Rattle.flow_recover.proofs.GainFacts.{gain_none, gain_same}
use Rattle.flow_recover.proofs.VisitFacts.{visited}

record HasMask (i : Instr) (mask : ℕ) : Type 0 where
  it : ItFields
  is_it : i ≡ instr.It it
  is_mask : it.mask ≡ mask

it_of : (i : Instr) (mask : ℕ) → mask_of i ≡ Some mask → HasMask i mask
it_of (instr.It it) mask e = record { it = it; is_it = refl; is_mask = same_Some it.mask mask e }
it_of _ mask e = absurd (none-some mask e)

same_block : (a b : Block) → a.start ≡ b.start → a.end ≡ b.end → a.count ≡ b.count → a ≡ b
same_block a b p q r =
    let with_start : ℕ → Block = λ n. record { start = n; end = a.end; count = a.count } in
    let with_end : ℕ → Block = λ n. record { start = b.start; end = n; count = a.count } in
    let with_count : ℕ → Block = λ n. record { start = b.start; end = b.end; count = n } in
    ap with_start p ∙ ap with_end q ∙ ap with_count r

module _ (o : ObjectParts) (n : Node) where
  abbrev pub Instrs : Option Instr → Type 0
  Instrs r = (i : Instr) → (r ≡ Some i) ↔ IsFound o n (Ok i)

  abbrev pub Ends : Option ℕ → Type 0
  Ends r = (end : ℕ) → (r ≡ Some end) ↔ IsCodeStart o n.section (bytes_of o n.section) n.offset end

  abbrev pub Blocks : Option Block → Type 0
  Blocks r = (b : Block) → (r ≡ Some b) ↔ IsBlock o n b

  pub no_mask_block : (i : Instr) → Instrs (Some i) → mask_of i ≡ None → Blocks None
  no_mask_block i h e = none_is (IsBlock o n) (λ b p. let same : i ≡ instr.It p.it = one_of (λ k. IsFound o n (Ok k)) i h (instr.It p.it) p.found in none-some p.it.mask (sym e ∙ ap mask_of same))

  pub no_end_block : Ends None → Blocks None
  no_end_block h = none_is (IsBlock o n) (λ b p. none_of (IsCodeStart o n.section (bytes_of o n.section) n.offset) h p.found.end p.found.start)

  module _ (i : Instr) (mask end : ℕ) (instrs : Instrs (Some i)) (masks : mask_of i ≡ Some mask) (ends : Ends (Some end)) where
    end_is : (k : Instr) → (f : IsFound o n (Ok k)) → end ≡ f.end
    end_is k f = one_of (IsCodeStart o n.section (bytes_of o n.section) n.offset) end ends f.end f.start

    pub this_block : (made : Block) → made.start ≡ behind o n.section n.offset → made.end ≡ end → made.count ≡ block_length mask → Blocks (Some made)
    this_block made start ends_at count =
        let m = it_of i mask masks in
        let f : IsFound o n (Ok (instr.It m.it)) = subst (λ (k : Instr). IsFound o n (Ok k)) m.is_it (this_of (λ k. IsFound o n (Ok k)) i instrs) in
        some_is (IsBlock o n) made (record { it = m.it; found = f; start = start; end = ends_at ∙ end_is (instr.It m.it) f; count = count ∙ ap block_length (sym m.is_mask) })
        (λ b p.
        let same : i ≡ instr.It p.it = one_of (λ k. IsFound o n (Ok k)) i instrs (instr.It p.it) p.found in
        let mask_is : mask ≡ p.it.mask = same_Some mask p.it.mask (sym masks ∙ ap mask_of same) in
        same_block made b (start ∙ sym p.start) (ends_at ∙ end_is (instr.It p.it) p.found ∙ sym p.end) (count ∙ ap block_length mask_is ∙ sym p.count))

  -- whether the block is cut
  pub none_cut : Blocks None → (false ≡ true) ↔ IsCut o n
  none_cut h = (λ e. absurd (true≢false (sym e)), λ c. absurd (none_of (IsBlock o n) h c.block c.is_block))

  pub block_cut : (b : Block) (whole : Bool) → Blocks (Some b) → whole ≡ list_all (is_whole (bytes_of o n.section) b.end) (following (bytes_of o n.section) b.count b.start) → (not whole ≡ true) ↔ IsCut o n
  block_cut b whole h e = (
    λ t. record { block = b; is_block = this_of (IsBlock o n) b h; cut = sym e ∙ not_true whole t },
    λ c. let same : b ≡ c.block = one_of (IsBlock o n) b h c.block c.is_block in
        let cut : list_all (is_whole (bytes_of o n.section) b.end) (following (bytes_of o n.section) b.count b.start) ≡ false =
        subst (λ (d : Block). list_all (is_whole (bytes_of o n.section) d.end) (following (bytes_of o n.section) d.count d.start) ≡ false) (sym same) c.cut in
        ap not (e ∙ cut),
  )

  -- the places of the block
  pub no_places : (places : BTreeSet (ℕ × ℕ)) → Blocks None → PlacesGain (λ j x. IsBlockPlace o n (j, x)) places places
  no_places places h j x = gain_none (has_place places j x ≡ true) (IsBlockPlace o n (j, x)) (λ p. none_of (IsBlock o n) h p.block p.is_block)

  pub block_grows : (bytes : List ℕ) (b : Block) (old new : BTreeSet (ℕ × ℕ)) → Blocks (Some b) → bytes ≡ bytes_of o n.section
      → PlacesGain (λ j x. (n.section ≡ j) × IsMember bytes b x) old new → PlacesGain (λ j x. IsBlockPlace o n (j, x)) old new
  block_grows bytes b old new h e g j x = gain_same (has_place new j x ≡ true) (has_place old j x ≡ true) ((n.section ≡ j) × IsMember bytes b x) (IsBlockPlace o n (j, x))
      (λ p. record { block = b; is_block = this_of (IsBlock o n) b h; section = p.0; member = subst (λ (l : List ℕ). IsMember l b x) (e ∙ ap (bytes_of o) p.0) p.1 })
      (λ p. (p.section, subst (λ (l : List ℕ). IsMember l b x) (sym (e ∙ ap (bytes_of o) p.section)) (subst (λ (d : Block). IsMember (bytes_of o j) d x) (sym (one_of (IsBlock o n) b h p.block p.is_block)) p.member)))
      (g j x)

-- the rest of a block, from its instruction at `at` on
pub record IsLeft (bytes : List ℕ) (section end count at j x : ℕ) : Type 0 where
  pub same_section : section ≡ j
  pub follows : Contains (following bytes count at) x
  pub in_range : x < end

abbrev pub HasOrLeft : List ℕ → ℕ → ℕ → BTreeSet (ℕ × ℕ) → ℕ → ℕ → ℕ → ℕ → Type 0
HasOrLeft bytes section end places count at j x = (has_place places j x ≡ true) ⊎ IsLeft bytes section end count at j x

pub record AreNoted (bytes : List ℕ) (section : ℕ) (b : Block) (old now : BTreeSet (ℕ × ℕ)) (k at : ℕ) : Type 0 where
  pub low : at ≤ b.start + 4 * k
  pub same : (j x : ℕ) → HasOrLeft bytes section b.end now (b.count - k) at j x ↔ HasOrLeft bytes section b.end old b.count b.start j x

same_left : (bytes : List ℕ) (section end at j x c d : ℕ) → c ≡ d → IsLeft bytes section end c at j x → IsLeft bytes section end d at j x
same_left bytes section end at j x c d e p = subst (λ (k : ℕ). IsLeft bytes section end k at j x) e p

left_first : (bytes : List ℕ) (section end count at j x : ℕ) → IsLeft bytes section end (suc count) at j x
    → IsBelow section at end j x ⊎ IsLeft bytes section end count (at + length_at bytes at) j x
left_first bytes section end count at j x p = elim (contains_cases at (following bytes count (at + length_at bytes at)) x p.follows) [
  | inl e ↦ inl (record { same_section = p.same_section; same_offset = e; in_range = p.in_range })
  | inr l ↦ inr (record { same_section = p.same_section; follows = l; in_range = p.in_range })
]

first_left : (bytes : List ℕ) (section end count at j x : ℕ) → IsBelow section at end j x ⊎ IsLeft bytes section end count (at + length_at bytes at) j x
    → IsLeft bytes section end (suc count) at j x
first_left bytes section end count at j x s = elim s [
  | inl p ↦ record { same_section = p.same_section; follows = subst (λ (y : ℕ). Contains (following bytes (suc count) at) y) p.same_offset (contains_here at (following bytes count (at + length_at bytes at))); in_range = p.in_range }
  | inr p ↦ record { same_section = p.same_section; follows = contains_later at (following bytes count (at + length_at bytes at)) x p.follows; in_range = p.in_range }
]

module _ (bytes : List ℕ) (section : ℕ) (b : Block) (old : BTreeSet (ℕ × ℕ)) where
  pub noted_more : (now new : BTreeSet (ℕ × ℕ)) (k at next : ℕ) → k < b.count → AreNoted bytes section b old now k at
      → PlacesGain (λ j x. IsBelow section at b.end j x) now new → next ≡ at + length_at bytes at → length_at bytes at ≤ 4 → AreNoted bytes section b old new (k + 1) next
  noted_more now new k at next less noted grows e short = record {
    low = let low = noted.low in omega (arith, low, e, short);
    same = λ j x.
        let here : HasOrLeft bytes section b.end now (b.count - k) at j x ↔ HasOrLeft bytes section b.end old b.count b.start j x = noted.same j x in
        let g = grows j x in
        let c : b.count - k ≡ suc (b.count - (k + 1)) = omega (arith, less) in
        let to : HasOrLeft bytes section b.end new (b.count - (k + 1)) next j x → HasOrLeft bytes section b.end now (b.count - k) at j x = λ h. elim h [
          | inl n ↦ elim (g.0 n) [
            | inl m ↦ inl m
            | inr p ↦ inr (same_left bytes section b.end at j x (suc (b.count - (k + 1))) (b.count - k) (sym c) (first_left bytes section b.end (b.count - (k + 1)) at j x (inl p)))
          ]
          | inr l ↦ inr (same_left bytes section b.end at j x (suc (b.count - (k + 1))) (b.count - k) (sym c) (first_left bytes section b.end (b.count - (k + 1)) at j x
              (inr (subst (λ (a : ℕ). IsLeft bytes section b.end (b.count - (k + 1)) a j x) e l))))
        ] in
        let from : HasOrLeft bytes section b.end now (b.count - k) at j x → HasOrLeft bytes section b.end new (b.count - (k + 1)) next j x = λ h. elim h [
          | inl n ↦ inl (g.1 (inl n))
          | inr l ↦ elim (left_first bytes section b.end (b.count - (k + 1)) at j x (same_left bytes section b.end at j x (b.count - k) (suc (b.count - (k + 1))) c l)) [
            | inl p ↦ inl (g.1 (inr p))
            | inr q ↦ inr (subst (λ (a : ℕ). IsLeft bytes section b.end (b.count - (k + 1)) a j x) (sym e) q)
          ]
        ] in
        (λ h. here.0 (to h), λ h. from (here.1 h));
  }

-- the first instructions of a block are whole, as `whole` says
pub record AreWhole (bytes : List ℕ) (b : Block) (whole : Bool) (k at : ℕ) : Type 0 where
  pub low : at ≤ b.start + 4 * k
  pub same : (whole && list_all (is_whole bytes b.end) (following bytes (b.count - k) at)) ≡ list_all (is_whole bytes b.end) (following bytes b.count b.start)

module _ (bytes : List ℕ) (b : Block) where
  pub whole_none : (at : ℕ) → at ≡ b.start → AreWhole bytes b true 0 at
  whole_none at start = record {
    low = omega arith;
    same = let e : b.count - 0 ≡ b.count = omega arith in
        subst (λ (c : ℕ). list_all (is_whole bytes b.end) (following bytes c at) ≡ list_all (is_whole bytes b.end) (following bytes b.count b.start)) (sym e)
        (ap (λ (a : ℕ). list_all (is_whole bytes b.end) (following bytes b.count a)) start);
  }

  pub whole_more : (whole now : Bool) (k at next : ℕ) → k < b.count → AreWhole bytes b whole k at → next ≡ at + length_at bytes at → length_at bytes at ≤ 4
      → now ≡ (whole && nat_le next b.end) → AreWhole bytes b now (k + 1) next
  whole_more whole now k at next less h e short now_is = record {
    low = let low = h.low in omega (arith, low, e, short);
    same =
        let c : b.count - k ≡ suc (b.count - (k + 1)) = omega (arith, less) in
        let rest : ℕ → Bool = λ a. list_all (is_whole bytes b.end) (following bytes (b.count - (k + 1)) a) in
        ap (λ (t : Bool). t && rest next) now_is
        ∙ assoc whole (nat_le next b.end) (rest next)
        ∙ ap (λ (a : ℕ). whole && (nat_le a b.end && rest a)) e
        ∙ ap (λ (d : ℕ). whole && list_all (is_whole bytes b.end) (following bytes d at)) (sym c)
        ∙ h.same;
  }
    where
      assoc : (x y z : Bool) → ((x && y) && z) ≡ (x && (y && z))
      assoc true y z = refl
      assoc false y z = refl

  pub whole_all : (whole : Bool) (k at : ℕ) → b.count ≤ k → AreWhole bytes b whole k at → whole ≡ list_all (is_whole bytes b.end) (following bytes b.count b.start)
  whole_all whole k at all h =
      let z : b.count - k ≡ 0 = omega (arith, all) in
      sym (and-true whole) ∙ ap (λ (d : ℕ). whole && list_all (is_whole bytes b.end) (following bytes d at)) (sym z) ∙ h.same

-- a place below the end of its range is added, and none else
pub below_more : (old new : BTreeSet (ℕ × ℕ)) (section at end : ℕ) → at < end → PlacesGain (λ j x. (section ≡ j) × (at ≡ x)) old new → PlacesGain (λ j x. IsBelow section at end j x) old new
below_more old new section at end low g j x = gain_same (has_place new j x ≡ true) (has_place old j x ≡ true) ((section ≡ j) × (at ≡ x)) (IsBelow section at end j x)
    (λ p. record { same_section = p.0; same_offset = p.1; in_range = subst (λ (y : ℕ). y < end) p.1 low })
    (λ p. (p.same_section, p.same_offset))
    (g j x)

-- the places of all blocks are those in blocks
module _ (o : ObjectParts) (visits : List Visit) (seen : AreVisits o visits) where
  in_block : (j x : ℕ) → IsFrom (λ (v : Visit). IsBlockPlace o v.node) visits (j, x) → IsInBlock o j x
  in_block j x e =
      let v : Visit = e.source in
      let p : IsBlockPlace o v.node (j, x) = e.gives in
      let b = p.is_block in
      record {
        node = v.node;
        it = b.it;
        reached = seen.reached v e.there;
        found = b.found;
        section = p.section;
        member = subst (λ (c : ℕ). Contains (following (bytes_of o j) c (behind o j v.node.offset)) x) b.count
            (subst (λ (a : ℕ). Contains (following (bytes_of o j) p.block.count a) x) (b.start ∙ ap (λ (s : ℕ). behind o s v.node.offset) p.section) p.member.follows);
        in_range = subst (λ (z : ℕ). x < z) b.end p.member.in_range;
      }

  block_in : (j x : ℕ) → IsInBlock o j x → IsFrom (λ (v : Visit). IsBlockPlace o v.node) visits (j, x)
  block_in j x i =
      let block : Block = record { start = behind o i.node.section i.node.offset; end = i.found.end; count = block_length i.it.mask } in
      let follows : Contains (following (bytes_of o j) block.count block.start) x =
      subst (λ (s : ℕ). Contains (following (bytes_of o j) block.count (behind o s i.node.offset)) x) (sym i.section) i.member in
      let gives : IsBlockPlace o i.node (j, x) = record {
        block = block;
        is_block = record { it = i.it; found = i.found; start = refl; end = refl; count = refl };
        section = i.section;
        member = record { follows = follows; in_range = i.in_range };
      } in
      let w = visited o visits (λ n k. IsBlockPlace o n (j, x)) i.node (instr.It i.it) seen (record { reached = i.reached; found = i.found }) gives in
      record { source = w.0; there = w.1; gives = w.3 }

  pub all_blocks : (none all : BTreeSet (ℕ × ℕ)) → ((j x : ℕ) → has_place none j x ≡ true → ⊥) → PlacesGain (λ j x. IsFrom (λ (v : Visit). IsBlockPlace o v.node) visits (j, x)) none all
      → (j x : ℕ) → (has_place all j x ≡ true) ↔ IsInBlock o j x
  all_blocks none all empty g j x = (
    λ h. elim ((g j x).0 h) [ inl h ↦ absurd (empty j x h) | inr e ↦ in_block j x e ],
    λ i. (g j x).1 (inr (block_in j x i)),
  )
