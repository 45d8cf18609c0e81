-- Without faults control has one IT state at each instruction start.
use Rattle.std.proofs.Common.{◌≡◌, ◌<◌, ◌≤◌, ℕ, zero, suc, ◌+◌, ◌*◌, ◌/◌, ◌%◌, Bool, true, false, cond, List, refl, sym, ap, ◌∙◌, subst, inl, inr, ◌⊎◌, arith, Ok, Err}
use Rattle.std.specs.Prelude.{Contains, ◌==◌, if◌then◌else◌}
use Rattle.std.specs.List.{list_all}
use Rattle.std.proofs.lemmas.Bool.{cases_lt, cases_order, cases_Bool, and_parts, eq-eqb, ne_eqb, leb-true}
use Rattle.elf_model.specs.declared.refusals.Refusal.{Refusal}
use Rattle.elf_model.specs.declared.refusals.Refusal.TheVariants as refusal
use Rattle.elf_model.specs.Objects.{ObjectParts}
use Rattle.elf_model.specs.Ranges.{is_whole, length_at}
use Rattle.thumb_instr.specs.declared.conditions.Cond.{Cond}
use Rattle.thumb_instr.specs.declared.instructions.Instr.{Instr}
use Rattle.thumb_instr.specs.declared.instructions.Instr.TheVariants as instr
use Rattle.thumb_instr.specs.declared.refusals.BadInstr.TheVariants.{Unknown}
use Rattle.thumb_instr.specs.Blocks.{it_state, it_after, condition_number}
use Rattle.thumb_instr.specs.Fields.{ItFields}
use Rattle.thumb_instr.specs.Rows.{Answer}
use Rattle.flow_recover.specs.declared.nodes.Node.{Node}
use Rattle.reloc_places.specs.Starts.{bytes_of, instr_at, behind, following, decoded_at}
use Rattle.flow_recover.specs.Reach.{IsFound, LeadsOn, IsReached}
use Rattle.reloc_places.specs.Starts.{it_behind}
use Rattle.flow_recover.specs.Reach.LeadsOn.{on}
use Rattle.flow_recover.specs.Reach.LeadsAway.{away}
use Rattle.flow_recover.specs.Reach.IsReached.{named, led_on, led_away}
use Rattle.flow_recover.specs.FlowFaults.{IsClaim, IsInBlock, block_length, FlowFault}
use Rattle.flow_recover.specs.FlowFaults.IsClaim.{by_object, by_instr}
use Rattle.flow_recover.specs.FlowFaults.FlowFault.{in_block, cut_block}
use Rattle.elf_model.proofs.Elements.{contains_here, contains_later}
use Rattle.reloc_places.proofs.StartFacts.{length_least, start_unique, starts_apart}

-- a block is as long as the lowest set bit of its mask says
four_long : (m : ℕ) → m % 2 ≡ 1 → block_length m ≡ 4
four_long m e = ap (λ (b : Bool). cond b 4 (cond (m % 4 == 2) 3 (cond (m % 8 == 4) 2 1))) (eq-eqb (m % 2) 1 e)

three_long : (m : ℕ) → m % 4 ≡ 2 → block_length m ≡ 3
three_long m e =
    ap (λ (b : Bool). cond b 4 (cond (m % 4 == 2) 3 (cond (m % 8 == 4) 2 1))) (ne_eqb (m % 2) 1 (λ z. absurd (omega arith)))
    ∙ ap (λ (b : Bool). cond b 3 (cond (m % 8 == 4) 2 1)) (eq-eqb (m % 4) 2 e)

two_long : (m : ℕ) → m % 8 ≡ 4 → block_length m ≡ 2
two_long m e =
    ap (λ (b : Bool). cond b 4 (cond (m % 4 == 2) 3 (cond (m % 8 == 4) 2 1))) (ne_eqb (m % 2) 1 (λ z. absurd (omega arith)))
    ∙ ap (λ (b : Bool). cond b 3 (cond (m % 8 == 4) 2 1)) (ne_eqb (m % 4) 2 (λ z. absurd (omega arith)))
    ∙ ap (λ (b : Bool). cond b 2 1) (eq-eqb (m % 8) 4 e)

one_long : (m : ℕ) → m % 8 ≡ 0 → block_length m ≡ 1
one_long m e =
    ap (λ (b : Bool). cond b 4 (cond (m % 4 == 2) 3 (cond (m % 8 == 4) 2 1))) (ne_eqb (m % 2) 1 (λ z. absurd (omega arith)))
    ∙ ap (λ (b : Bool). cond b 3 (cond (m % 8 == 4) 2 1)) (ne_eqb (m % 4) 2 (λ z. absurd (omega arith)))
    ∙ ap (λ (b : Bool). cond b 2 1) (ne_eqb (m % 8) 4 (λ z. absurd (omega arith)))

low_bits : (m : ℕ) → (m % 2 ≡ 1) ⊎ ((m % 4 ≡ 2) ⊎ ((m % 8 ≡ 4) ⊎ (m % 8 ≡ 0)))
low_bits m =
    elim (cases_lt (m % 2) 1) [
      | inl e2 ↦ elim (cases_lt (m % 4) 2) [
        | inl e4 ↦ elim (cases_lt (m % 8) 4) [
          | inl e8 ↦ inr (inr (inr (omega arith)))
          | inr e8 ↦ inr (inr (inl (omega arith)))
        ]
        | inr e4 ↦ inr (inl (omega arith))
      ]
      | inr e2 ↦ inl (omega arith)
    ]

pub state_length : (c : Cond) (mask : ℕ) → block_length (it_state c mask) ≡ block_length mask
state_length c mask = go (16 * condition_number c + mask) refl
  where
    go : (it : ℕ) → 16 * condition_number c + mask ≡ it → block_length it ≡ block_length mask
    go it e =
        elim (low_bits mask) [
          | inl r ↦ four_long it (omega arith) ∙ sym (four_long mask r)
          | inr w ↦ elim w [
            | inl r ↦ three_long it (omega arith) ∙ sym (three_long mask r)
            | inr v ↦ elim v [
              | inl r ↦ two_long it (omega arith) ∙ sym (two_long mask r)
              | inr r ↦ one_long it (omega arith) ∙ sym (one_long mask r)
            ]
          ]
        ]

abbrev moved : ℕ → ℕ
moved it = it / 32 * 32 + it * 2 % 32

after_moved : (it : ℕ) → (it % 8 ≡ 0 → ⊥) → it_after it ≡ moved it
after_moved it n = ap (λ (b : Bool). cond b 0 (moved it)) (ne_eqb (it % 8) 0 (λ z. absurd (n z)))

-- each instruction of a block makes it shorter by one; the last one ends it
pub length_after : (it : ℕ) → ((block_length it ≡ 1) × (it_after it ≡ 0)) ⊎ (block_length (it_after it) + 1 ≡ block_length it)
length_after it =
    elim (low_bits it) [
      | inl r ↦ let a = three_long (moved it) (omega arith) in let b = four_long it r in inr (shorter (λ z. omega arith) (omega arith))
      | inr w ↦ elim w [
        | inl r ↦ let a = two_long (moved it) (omega arith) in let b = three_long it r in inr (shorter (λ z. omega arith) (omega arith))
        | inr v ↦ elim v [
          | inl r ↦ let a = one_long (moved it) (omega arith) in let b = two_long it r in inr (shorter (λ z. omega arith) (omega arith))
          | inr r ↦ inl (one_long it r, ap (λ (b : Bool). cond b 0 (moved it)) (eq-eqb (it % 8) 0 r))
        ]
      ]
    ]
  where
    shorter : (it % 8 ≡ 0 → ⊥) → block_length (moved it) + 1 ≡ block_length it → block_length (it_after it) + 1 ≡ block_length it
    shorter n e = ap (λ (k : ℕ). block_length k + 1) (after_moved it n) ∙ e

-- the offset of an instruction so many behind one
abbrev nth_behind : List ℕ → ℕ → ℕ → ℕ
nth_behind bytes zero x = x
nth_behind bytes (suc k) x = nth_behind bytes k (x + length_at bytes x)

nth_next : (bytes : List ℕ) (k x : ℕ) → nth_behind bytes k x + length_at bytes (nth_behind bytes k x) ≡ nth_behind bytes (suc k) x
nth_next bytes zero x = refl
nth_next bytes (suc k) x = nth_next bytes k (x + length_at bytes x)

member_there : (bytes : List ℕ) (count k x : ℕ) → k < count → Contains (following bytes count x) (nth_behind bytes k x)
member_there bytes zero k x l = absurd (omega arith)
member_there bytes (suc count) zero x l = contains_here x (following bytes count (x + length_at bytes x))
member_there bytes (suc count) (suc k) x l = contains_later x (following bytes count (x + length_at bytes x)) _ (member_there bytes count k (x + length_at bytes x) (omega arith))

member_whole : (bytes : List ℕ) (end count k x : ℕ) → k < count → list_all (is_whole bytes end) (following bytes count x) ≡ true → is_whole bytes end (nth_behind bytes k x) ≡ true
member_whole bytes end zero k x l h = absurd (omega arith)
member_whole bytes end (suc count) zero x l h = (and_parts (is_whole bytes end x) _ h).0
member_whole bytes end (suc count) (suc k) x l h = member_whole bytes end count k (x + length_at bytes x) (omega arith) (and_parts (is_whole bytes end x) _ h).1

-- a node of the block of a reached IT, so many instructions behind it
record IsMember (o : ObjectParts) (n : Node) : Type 0 where
  pub head : Node
  pub it : ItFields
  pub reached : IsReached o head
  pub found : IsFound o head (Ok (instr.It it))
  pub section : head.section ≡ n.section
  pub count : ℕ
  pub offset : n.offset ≡ nth_behind (bytes_of o head.section) count (behind o head.section head.offset)
  pub left : block_length n.it + count ≡ block_length it.mask
  pub some : 1 ≤ block_length n.it

least_length : (m : ℕ) → 1 ≤ block_length m
least_length m =
    elim (low_bits m) [
      | inl r ↦ let e = four_long m r in omega arith
      | inr w ↦ elim w [
        | inl r ↦ let e = three_long m r in omega arith
        | inr v ↦ elim v [
          | inl r ↦ let e = two_long m r in omega arith
          | inr r ↦ let e = one_long m r in omega arith
        ]
      ]
    ]

-- an instruction is an IT, or moves the state on
it_cases : (i : Instr) → ((f : ItFields) × (i ≡ instr.It f)) ⊎ ((it : ℕ) → it_behind i it ≡ it_after it)
it_cases (instr.It f) = inl (f, refl)
it_cases _ = inr (λ it. refl)

-- behind an instruction
behind_member : (o : ObjectParts) (n m : Node) → IsReached o n → ((n.it ≡ 0) ⊎ IsMember o n) → LeadsOn o n m → (m.it ≡ 0) ⊎ IsMember o m
behind_member o n m r known (on i found goes m_is there) =
    elim (it_cases i) [
      | inl w ↦ inr (first_member w.0 w.1)
      | inr moves ↦
          let state : m.it ≡ it_after n.it = ap (λ (k : Node). k.it) m_is ∙ moves n.it in
          elim known [
            | inl clear ↦ inl (state ∙ ap it_after clear)
            | inr old ↦ elim (length_after n.it) [
              | inl w ↦ inl (state ∙ w.1)
              | inr less ↦ inr (next_member old state less)
            ]
          ]
    ]
  where
    section : m.section ≡ n.section
    section = ap (λ (k : Node). k.section) m_is

    offset : m.offset ≡ behind o n.section n.offset
    offset = ap (λ (k : Node). k.offset) m_is

    first_member : (f : ItFields) → i ≡ instr.It f → IsMember o m
    first_member f is = record {
      head = n;
      it = f;
      reached = r;
      found = subst (λ (k : Instr). IsFound o n (Ok k)) is found;
      section = sym section;
      count = 0;
      offset = offset;
      left = let e : block_length m.it ≡ block_length f.mask = ap block_length (ap (λ (k : Node). k.it) m_is ∙ ap (λ (k : Instr). it_behind k n.it) is) ∙ state_length f.first f.mask in omega arith;
      some = least_length m.it;
    }

    next_member : IsMember o n → m.it ≡ it_after n.it → block_length (it_after n.it) + 1 ≡ block_length n.it → IsMember o m
    next_member old state less = let more : suc old.count ≡ old.count + 1 = omega arith in record {
      head = old.head;
      it = old.it;
      reached = old.reached;
      found = old.found;
      section = old.section ∙ sym section;
      count = old.count + 1;
      offset = offset ∙ ap (λ (k : ℕ). behind o k n.offset) (sym old.section) ∙ ap (behind o old.head.section) old.offset ∙ nth_next (bytes_of o old.head.section) old.count (behind o old.head.section old.head.offset)
          ∙ ap (λ (k : ℕ). nth_behind (bytes_of o old.head.section) k (behind o old.head.section old.head.offset)) more;
      left = let e = ap block_length state in let l = old.left in omega arith;
      some = least_length m.it;
    }

in_blocks : (o : ObjectParts) (n : Node) → IsReached o n → (n.it ≡ 0) ⊎ IsMember o n
in_blocks o _ (named j x section offset is there) = inl refl
in_blocks o _ (led_on n m r leads) = behind_member o n m r (in_blocks o n r) leads
in_blocks o _ (led_away n m r (away i x found aims m_is there)) = inl (ap (λ (k : Node). k.it) m_is)

module _ (o : ObjectParts) (none : (r : Refusal) (section offset : ℕ) → FlowFault o r section offset → ⊥) where
  member_in_block : (n : Node) → IsMember o n → IsInBlock o n.section n.offset
  member_in_block n b =
      let bytes : List ℕ = bytes_of o b.head.section in
      let first : ℕ = behind o b.head.section b.head.offset in
      let left = b.left in
      let some = b.some in
      let few : b.count < block_length b.it.mask = omega arith in
      let member : Contains (following bytes (block_length b.it.mask) first) n.offset = subst (Contains (following bytes (block_length b.it.mask) first)) (sym b.offset) (member_there bytes (block_length b.it.mask) b.count first few) in
      record {
        node = b.head;
        it = b.it;
        reached = b.reached;
        found = b.found;
        section = b.section;
        member = subst (λ (j : ℕ). Contains (following (bytes_of o j) (block_length b.it.mask) (behind o j b.head.offset)) n.offset) b.section member;
        in_range =
            let whole = member_whole bytes b.found.end (block_length b.it.mask) b.count first few (uncut b) in
            let low = leb-true _ _ whole in
            let least = length_least bytes (nth_behind bytes b.count first) in
            let at = b.offset in
            omega arith;
      }
    where
      uncut : (b : IsMember o n) → list_all (is_whole (bytes_of o b.head.section) b.found.end) (following (bytes_of o b.head.section) (block_length b.it.mask) (behind o b.head.section b.head.offset)) ≡ true
      uncut b =
          elim (cases_Bool (list_all (is_whole (bytes_of o b.head.section) b.found.end) (following (bytes_of o b.head.section) (block_length b.it.mask) (behind o b.head.section b.head.offset)))) [
            | inl t ↦ t
            | inr f ↦ absurd (none refusal.FallsOff b.head.section b.head.offset (cut_block b.head b.it b.reached b.found f refl refl refl))
          ]

  -- where control is sent to the state is clear
  claimed_clear : (j x section offset : ℕ) (m : Node) → IsClaim o j x section offset → IsReached o m → m.section ≡ j → m.offset ≡ x → m.it ≡ 0
  claimed_clear j x section offset m claim r s e =
      elim (in_blocks o m r) [
        | inl clear ↦ clear
        | inr b ↦
            let inside : IsInBlock o j x = subst (λ (k : ℕ). IsInBlock o k x) s (subst (IsInBlock o m.section) e (member_in_block m b)) in
            absurd (none refusal.IntoMiddle section offset (in_block j x claim inside refl))
      ]

-- a found instruction is whole
found_whole : (bytes : List ℕ) (end x it : ℕ) (i : Instr) → instr_at bytes end x it ≡ Ok i → is_whole bytes end x ≡ true
found_whole bytes end x it i e = go (is_whole bytes end x) e
  where
    go : (b : Bool) → (if b then decoded_at bytes x it else Err Unknown) ≡ Ok i → b ≡ true
    go true h = refl
    go false h = absurd (cc)

-- behind two instructions lie two places
one_before : (o : ObjectParts) (j a b s t : ℕ) (i k : Instr) → IsFound o (record { section = j; offset = a; it = s }) (Ok i) → IsFound o (record { section = j; offset = b; it = t }) (Ok k) → behind o j a ≡ behind o j b → a ≡ b
one_before o j a b s t i k f g e =
    let first = leb-true (a + length_at (bytes_of o j) a) f.end (found_whole (bytes_of o j) f.end a s i f.is) in
    let second = leb-true (b + length_at (bytes_of o j) b) g.end (found_whole (bytes_of o j) g.end b t k g.is) in
    let one = length_least (bytes_of o j) a in
    let two = length_least (bytes_of o j) b in
    elim (cases_order a b) [
      | inl same ↦ same
      | inr w ↦ elim w [
        | inl l ↦ let h = starts_apart o j a b f.end g.end f.start first g.start l in absurd (omega arith)
        | inr l ↦ let h = starts_apart o j b a g.end f.end g.start second f.start l in absurd (omega arith)
      ]
    ]

same_ok : (i k : Instr) (a b : Answer) → a ≡ Ok i → b ≡ Ok k → a ≡ b → i ≡ k
same_ok i k a b e f g = cc

pub one_instr : (o : ObjectParts) (n : Node) (i k : Instr) → IsFound o n (Ok i) → IsFound o n (Ok k) → i ≡ k
one_instr o n i k f g =
    let ends : f.end ≡ g.end = start_unique o n.section n.offset f.end g.end (bytes_of o n.section) f.start g.start in
    let same : instr_at (bytes_of o n.section) f.end n.offset n.it ≡ instr_at (bytes_of o n.section) g.end n.offset n.it = ap (λ (end : ℕ). instr_at (bytes_of o n.section) end n.offset n.it) ends in
    same_ok i k _ _ f.is g.is same

module _ (o : ObjectParts) (none : (r : Refusal) (section offset : ℕ) → FlowFault o r section offset → ⊥) where
  -- two nodes at one place with one state have one state behind
  behind_alike : (n m p q : Node) → IsReached o n → ((k : Node) → IsReached o k → n.section ≡ k.section → n.offset ≡ k.offset → n.it ≡ k.it) → IsReached o m → LeadsOn o n p → LeadsOn o m q
      → p.section ≡ q.section → p.offset ≡ q.offset → p.it ≡ q.it
  behind_alike n m p q r alike s (on i f goes p_is there) (on k g goes_too q_is there_too) section offset =
      let same : n.section ≡ m.section = sym (ap (λ (z : Node). z.section) p_is) ∙ section ∙ ap (λ (z : Node). z.section) q_is in
      let g_here : IsFound o (record { section = n.section; offset = m.offset; it = m.it }) (Ok k) = subst (λ (j : ℕ). IsFound o (record { section = j; offset = m.offset; it = m.it }) (Ok k)) (sym same) g in
      let meets : behind o n.section n.offset ≡ behind o n.section m.offset =
      sym (ap (λ (z : Node). z.offset) p_is) ∙ offset ∙ ap (λ (z : Node). z.offset) q_is ∙ ap (λ (j : ℕ). behind o j m.offset) (sym same) in
      let place : n.offset ≡ m.offset = one_before o n.section n.offset m.offset n.it m.it i k f g_here meets in
      let state : n.it ≡ m.it = alike m s same place in
      let g_there : IsFound o n (Ok k) =
      subst (λ (x : ℕ). IsFound o (record { section = n.section; offset = x; it = n.it }) (Ok k)) (sym place)
      (subst (λ (t : ℕ). IsFound o (record { section = n.section; offset = m.offset; it = t }) (Ok k)) (sym state) g_here) in
      let one : i ≡ k = one_instr o n i k f g_there in
      ap (λ (z : Node). z.it) p_is ∙ ap (λ (z : Instr). it_behind z n.it) one ∙ ap (it_behind k) state ∙ sym (ap (λ (z : Node). z.it) q_is)

  led_alike : (n p : Node) → IsReached o n → ((k : Node) → IsReached o k → n.section ≡ k.section → n.offset ≡ k.offset → n.it ≡ k.it) → IsReached o p → LeadsOn o n p → (q : Node) → IsReached o q
      → p.section ≡ q.section → p.offset ≡ q.offset → p.it ≡ q.it
  led_alike n p r alike reached leads _ (named j x section offset is there) e f = claimed_clear o none j x section offset p (by_object is) reached e f
  led_alike n p r alike reached leads _ (led_on m q s leads_too) e f = behind_alike n m p q r alike s leads leads_too e f
  led_alike n p r alike reached leads _ (led_away m q s (away i x found aims q_is there)) e f =
      claimed_clear o none m.section x m.section m.offset p (by_instr m i (record { reached = s; found = found }) aims refl refl refl) reached (e ∙ ap (λ (z : Node). z.section) q_is) (f ∙ ap (λ (z : Node). z.offset) q_is)
      ∙ sym (ap (λ (z : Node). z.it) q_is)

  -- in an object without faults each start is reached under one IT state
  pub one_state : (p q : Node) → IsReached o p → IsReached o q → p.section ≡ q.section → p.offset ≡ q.offset → p.it ≡ q.it
  one_state _ q (named j x section offset is there) s e f = sym (claimed_clear o none j x section offset q (by_object is) s (sym e) (sym f))
  one_state _ q (led_on n p r leads) s e f = led_alike n p r (λ k t. one_state n k r t) (led_on n p r leads) leads q s e f
  one_state _ q (led_away n p r (away i x found aims p_is there)) s e f =
      ap (λ (z : Node). z.it) p_is
      ∙ sym (claimed_clear o none n.section x n.section n.offset q (by_instr n i (record { reached = r; found = found }) aims refl refl refl) s (sym e ∙ ap (λ (z : Node). z.section) p_is) (sym f ∙ ap (λ (z : Node). z.offset) p_is))
