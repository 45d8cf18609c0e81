-- What stands for a step of a unit, linked, reaches the step's goal.
use Rattle.std.proofs.Common.{◌≡◌, ◌≢◌, ◌≤◌, inl, inr, ℕ, ◌+◌, ◌-◌, ◌%◌, ◌^◌, [], ◌∷◌, Bool, true, false, refl, sym, ap, ◌∙◌, subst, Option, Some, None}
use Rattle.std.specs.Prelude.{nat_le, ◌&&◌, is_some, if◌then◌else◌, Contains}
use Rattle.std.specs.Option.{option_and_then, option_map_or}
use Rattle.std.proofs.lemmas.Option.{same_Some}
use Rattle.elf_model.specs.Fields.{word_at}
use Rattle.elf_model.proofs.Elements.{contains_cases, contains_none}
use Rattle.thumb_instr.specs.Fields.{HalfFields, BranchFields, ZeroBranchFields, AdrFields, LiteralFields}
use Rattle.thumb_instr.specs.declared.instructions.Instr.{Instr}
use Rattle.thumb_instr.specs.declared.instructions.Instr.TheVariants as instr
use Rattle.thumb_table.specs.Parts.{CodeBytes}
use Rattle.thumb_table.specs.States.{Site}
use Rattle.thumb_table.specs.Effects.{lies, marked, mark_at}
use Rattle.seq_core.specs.declared.steps.Step.{Step}
use Rattle.seq_core.specs.declared.steps.Goal.{Goal}
use Rattle.seq_core.specs.declared.steps.Goal.TheVariants as goals
use Rattle.seq_core.specs.declared.units.Unit.{Unit as SeqUnit}
use Rattle.seq_core.specs.Denoted.{Spots, spot_of, Reached}
use Rattle.hardened_form.specs.Places.{UnitPlace, Places}
use Rattle.branch_layout.specs.Given.{goals_of}
use Rattle.branch_layout.specs.Goals.{base_of, aimed, start_of, target_of, word_of, placed_instr, Reaches, ReachesGoal}
use Rattle.branch_layout.specs.Leads.{Leads, IsRoom, NumbersLead, leads_to_code, CopiesReach}
use Rattle.emit_object.specs.UnitCopies.{carries, is_half}
use Rattle.sim_relation.specs.Standing.{Linking, IsPut, IsLinked, linked_mark, WordStands}
use Rattle.sim_relation.specs.Doing.{with_number}
use Rattle.unit_work.proofs.Made.{suits}
use Rattle.unit_work.proofs.Linked.{linked_step, same_number}

-- Where the goals of a unit are. What a call comes back to is the end of what the law of sequences speaks of.
abbrev pub spots : ℕ → Linking → Option ℕ → UnitPlace → Spots
spots start link r q = record { target = link.target; end = start + q.back; back = start + q.back; word = marked link.number link.mark; mark = linked_mark link r }

abbrev pub site : CodeBytes → ℕ → ℕ → Site
site code a width = record { code = code; address = a; width = width }

-- a copy at an offset, of which an instruction stands at its address
pub record IsLinkedCopy (code : CodeBytes) (start : ℕ) (link : Linking) (p : Places) (u : SeqUnit) (q : UnitPlace) (at : ℕ) (s : Step) (j : Instr) : Type 0 where
  pub reloc : Option ℕ
  pub carried : is_some reloc ≡ (is_some u.reloc && carries s)
  pub linked : IsLinked link (start + at) reloc (placed_instr p u q at s) j
  pub marked : mark_at code.marks (start + at) ≡ linked_mark link reloc
  pub goal : Contains (goals_of s.instr) s.goal
  pub reaches : s.goal ≢ goals.Nowhere → ReachesGoal p u q at s
  pub low : at ≤ 524288
  pub back_low : q.back ≤ 524288
  pub word : (to : ℕ) → word_of p u ≡ Some to → (to ≤ 524288) × WordStands code link (start + to)
  pub target : (to : ℕ) → u.reloc ≡ None → option_and_then (start_of p) u.target ≡ Some to → link.target ≡ start + to
  pub end : s.goal ≡ goals.End → q.back ≡ q.end

-- GOALS

one_of : (a g : Goal) → Contains (a ∷ []) g → a ≡ g
one_of a g c = elim (contains_cases a [] g c) [ inl e ↦ e | inr d ↦ absurd (contains_none g d) ]

not_two : (a b g : Goal) → (a ≡ g → ⊥) → (b ≡ g → ⊥) → Contains (a ∷ b ∷ []) g → ⊥
not_two a b g m n c = elim (contains_cases a (b ∷ []) g c) [ inl e ↦ m e | inr d ↦ n (one_of b g d) ]

-- LINKS

-- where linking puts something
abbrev is_open : Instr → Bool
is_open (instr.Branch i) = true
is_open (instr.Call i) = true
is_open (instr.Half i) = true
is_open i = false

put_closed : (link : Linking) (a : ℕ) (i j : Instr) → is_open i ≡ false → IsPut link a i j → j ≡ i
put_closed link a (instr.Branch i) j o h = absurd (cc)
put_closed link a (instr.Call i) j o h = absurd (cc)
put_closed link a (instr.Half i) j o h = absurd (cc)
put_closed link a i j o h = h

linked_closed : (link : Linking) (a : ℕ) (r : Option ℕ) (i j : Instr) → is_open i ≡ false → IsLinked link a r i j → j ≡ i
linked_closed link a None i j o h = h
linked_closed link a (Some k) i j o h = put_closed link a i j o h

linked_none : (link : Linking) (a : ℕ) (r : Option ℕ) (i j : Instr) (b : Bool) → is_some r ≡ (b && false) → IsLinked link a r i j → j ≡ i
linked_none link a None i j b e h = h
linked_none link a (Some k) i j true e h = absurd (cc)
linked_none link a (Some k) i j false e h = absurd (cc)

linked_some : (link : Linking) (a : ℕ) (r : Option ℕ) (i j : Instr) → is_some r ≡ true → IsLinked link a r i j → IsPut link a i j
linked_some link a None i j e h = absurd (cc)
linked_some link a (Some k) i j e h = h

-- the laws of numbers
pub record NumberLaws : Type 0 where
  pub numbers : NumbersLead
  pub copies : CopiesReach

module _ (laws : NumberLaws) (code : CodeBytes) (start : ℕ) (link : Linking) (aligned : start % 4 ≡ 0) (end : start + 2 ^ 20 ≤ 2 ^ 32) (p : Places) (u : SeqUnit) (q : UnitPlace) (at width : ℕ) where
  abbrev Is : Instr → Goal → ℕ → Instr → Type 0
  Is i g n j = IsLinkedCopy code start link p u q at (record { instr = i; goal = g; copies = n }) j

  abbrev Goes : Goal → Instr → Instr → Type 0
  Goes g i j = Reached (site code (start + at) width) (spots start link u.reloc q) g i j

  room : (to : ℕ) → at ≤ 524288 → to ≤ 524288 → IsRoom start at to
  room to low high = record { aligned = aligned; end = end; low = low; low_goal = high }

  -- by a number that leads there
  by_number : (i : Instr) (g : Goal) (to : ℕ) (j : Instr) → leads_to_code i ≡ true → Reaches at to i → at ≤ 524288 → to ≤ 524288 → j ≡ aimed at to i → spot_of (spots start link u.reloc q) g ≡ start + to → Goes g i j
  by_number i g to j leads reach low high is there =
      subst (λ (z : Instr). Goes g i z) (sym is) (laws.copies i (site code (start + at) width) (spots start link u.reloc q) g start at to leads (room to low high) reach refl there)

  end_of_branch : (b : BranchFields) (n : ℕ) (j : Instr) → Is (instr.Branch b) goals.End n j → Goes goals.End (instr.Branch b) j
  end_of_branch b n j k =
      let x = k.reaches (λ e. cc) in
      let to : x.to ≡ q.end = sym (same_Some q.end x.to x.goal) in
      let reach : Reaches at q.end (instr.Branch b) = subst (λ (z : ℕ). Reaches at z (instr.Branch b)) to x.reaches in
      by_number (instr.Branch b) goals.End q.end j refl reach k.low reach.low_goal (linked_none link (start + at) k.reloc (aimed at q.end (instr.Branch b)) j (is_some u.reloc) k.carried k.linked)
      (ap (λ (z : ℕ). start + z) (k.end refl))

  zero_branch : (b : ZeroBranchFields) (n : ℕ) (j : Instr) → Is (instr.ZeroBranch b) goals.End n j → Goes goals.End (instr.ZeroBranch b) j
  zero_branch b n j k =
      let x = k.reaches (λ e. cc) in
      let to : x.to ≡ q.end = sym (same_Some q.end x.to x.goal) in
      let reach : Reaches at q.end (instr.ZeroBranch b) = subst (λ (z : ℕ). Reaches at z (instr.ZeroBranch b)) to x.reaches in
      by_number (instr.ZeroBranch b) goals.End q.end j refl reach k.low reach.0.low_goal (linked_closed link (start + at) k.reloc (aimed at q.end (instr.ZeroBranch b)) j refl k.linked)
      (ap (λ (z : ℕ). start + z) (k.end refl))

  address : (b : AdrFields) (n : ℕ) (j : Instr) → Is (instr.Adr b) goals.Landing n j → Goes goals.Landing (instr.Adr b) j
  address b n j k =
      let x = k.reaches (λ e. cc) in
      let to : x.to ≡ q.back = sym (same_Some q.back x.to x.goal) in
      let reach : Reaches at q.back (instr.Adr b) = subst (λ (z : ℕ). Reaches at z (instr.Adr b)) to x.reaches in
      by_number (instr.Adr b) goals.Landing q.back j refl reach k.low k.back_low (linked_closed link (start + at) k.reloc (aimed at q.back (instr.Adr b)) j refl k.linked) refl

  -- a branch to the target, by its own number or by the relocation
  target_of_branch : (b : BranchFields) (n : ℕ) (j : Instr) → Is (instr.Branch b) goals.Target n j → Goes goals.Target (instr.Branch b) j
  target_of_branch b n j k = go u.reloc refl
    where
      step : Step
      step = record { instr = instr.Branch b; goal = goals.Target; copies = n }

      placed : (to : ℕ) → target_of p u at ≡ Some to → placed_instr p u q at step ≡ aimed at to (instr.Branch b)
      placed to e = ap (λ (r : Option ℕ). option_map_or (λ z. aimed at z (instr.Branch b)) r (instr.Branch b)) e

      own : (r : Option ℕ) → u.reloc ≡ r → (if is_some r then Some at else option_and_then (start_of p) u.target) ≡ target_of p u at
      own r e = ap (λ (z : Option ℕ). if is_some z then Some at else option_and_then (start_of p) u.target) (sym e)

      go : (r : Option ℕ) → u.reloc ≡ r → Goes goals.Target (instr.Branch b) j
      go None e =
          let x = k.reaches (λ e. cc) in
          let found : option_and_then (start_of p) u.target ≡ Some x.to = own None e ∙ x.goal in
          let reach : Reaches at x.to (instr.Branch b) = x.reaches in
          let none : is_some k.reloc ≡ false = k.carried ∙ ap (λ (z : Option ℕ). is_some z && true) e in
          by_number (instr.Branch b) goals.Target x.to j refl reach k.low reach.low_goal
          (linked_none link (start + at) k.reloc (placed_instr p u q at step) j false none k.linked ∙ placed x.to x.goal)
          (k.target x.to e found)
      go (Some m) e =
          let some : is_some k.reloc ≡ true = k.carried ∙ ap (λ (z : Option ℕ). is_some z && true) e in
          let put : IsPut link (start + at) (aimed at at (instr.Branch b)) j = subst (λ (z : Instr). IsPut link (start + at) z j) (placed at (sym (own (Some m) e))) (linked_some link (start + at) k.reloc (placed_instr p u q at step) j some k.linked) in
          (put.0, put.2, put.1)

  abbrev Loads : ℕ → Type 0
  Loads a = (lies code a 4 ≡ true) × (marked (word_at code.bytes (a - code.base)) (mark_at code.marks a) ≡ marked link.number link.mark)

  literal : (b : LiteralFields) (n : ℕ) (j : Instr) → Is (instr.Literal b) goals.Word n j → Goes goals.Word (instr.Literal b) j
  literal b n j k =
      let x = k.reaches (λ e. cc) in
      let word = k.word x.to x.goal in
      let placed : placed_instr p u q at step ≡ aimed at x.to (instr.Literal b) = ap (λ (r : Option ℕ). option_map_or (λ z. aimed at z (instr.Literal b)) r (instr.Literal b)) x.goal in
      let closed : is_open (aimed at x.to (instr.Literal b)) ≡ false = shut (nat_le (base_of at) x.to) (up x.to) (down x.to) refl refl in
      let is : j ≡ aimed at x.to (instr.Literal b) = linked_closed link (start + at) k.reloc (aimed at x.to (instr.Literal b)) j closed (subst (λ (z : Instr). IsLinked link (start + at) k.reloc z j) placed k.linked) in
      go x.to word.1 (nat_le (base_of at) x.to) is (laws.numbers (instr.Literal b) start at x.to (room x.to k.low word.0) x.reaches)
    where
      step : Step
      step = record { instr = instr.Literal b; goal = goals.Word; copies = n }

      up : ℕ → Instr
      up to = instr.Literal (record b { up = true; imm = to - base_of at })

      down : ℕ → Instr
      down to = instr.Literal (record b { up = false; imm = base_of at - to })

      shut : (c : Bool) (x y : Instr) → is_open x ≡ false → is_open y ≡ false → is_open (if c then x else y) ≡ false
      shut true x y e f = e
      shut false x y e f = f

      loads : (to : ℕ) → WordStands code link (start + to) → Loads (start + to)
      loads to w = (w.lies, ap (λ (z : ℕ). marked z (mark_at code.marks (start + to))) w.word ∙ ap (marked link.number) w.marked)

      go : (to : ℕ) → WordStands code link (start + to) → (c : Bool) → j ≡ (if c then up to else down to) → Leads (start + at) (if c then up to else down to) (start + to) → Goes goals.Word (instr.Literal b) j
      go to w true e l = (true, to - base_of at, e, subst Loads (sym l) (loads to w))
      go to w false e l = (false, base_of at - to, e, subst Loads (sym l) (loads to w))

  -- MOVW and MOVT, with their number and mark
  half : (h : HalfFields) (n : ℕ) (j : Instr) → Is (instr.Half h) goals.Nowhere n j → Goes goals.Nowhere (with_number u.reloc link.number (instr.Half h)) j
  half h n j k = go u.reloc k.reloc k.carried k.linked k.marked
    where
      go : (r reloc : Option ℕ) → is_some reloc ≡ (is_some r && true) → IsLinked link (start + at) reloc (instr.Half h) j → mark_at code.marks (start + at) ≡ linked_mark link reloc
          → Reached (site code (start + at) width) (spots start link r q) goals.Nowhere (with_number r link.number (instr.Half h)) j
      go None None c l m = (l, m)
      go None (Some a) c l m = absurd (cc)
      go (Some a) None c l m = absurd (cc)
      go (Some a) (Some d) c l m = (l, m)

  -- ALL OF THEM

  others : (i : Instr) (g : Goal) (n : ℕ) (of : Instr) (j : Instr) → is_half i ≡ false → suits of i ≡ true → Is i g n j → Goes g i j
  others (instr.Half h) g n of j f s k = absurd (cc)
  others (instr.Call b) g n of j f s k = absurd (cc)
  others (instr.CallReg b) g n of j f s k = absurd (cc)
  others (instr.It b) g n of j f s k = absurd (cc)
  others (instr.Branch b) goals.End n of j f s k = end_of_branch b n j k
  others (instr.Branch b) goals.Target n of j f s k = target_of_branch b n j k
  others (instr.Branch b) g n of j f s k = absurd (not_two goals.End goals.Target g (λ e. cc) (λ e. cc) k.goal)
  others (instr.ZeroBranch b) goals.End n of j f s k = zero_branch b n j k
  others (instr.ZeroBranch b) g n of j f s k = absurd (let e = one_of goals.End g k.goal in cc)
  others (instr.Adr b) goals.Landing n of j f s k = address b n j k
  others (instr.Adr b) g n of j f s k = absurd (let e = one_of goals.Landing g k.goal in cc)
  others (instr.Literal b) goals.Word n of j f s k = literal b n j k
  others (instr.Literal b) g n of j f s k = absurd (let e = one_of goals.Word g k.goal in cc)
  others i goals.Nowhere n of j f s k = linked_closed link (start + at) k.reloc i j refl k.linked
  others i g n of j f s k = absurd (let e = one_of goals.Nowhere g k.goal in cc)

  each : (i : Instr) (g : Goal) (n : ℕ) (of : Instr) (j : Instr) (b : Bool) → is_half i ≡ b → suits of i ≡ true → Is i g n j → Goes g (with_number u.reloc link.number i) j
  each i g n of j false e s k = subst (λ (z : Instr). Goes g z j) (sym (same_number u.reloc link.number i e)) (others i g n of j e s k)
  each (instr.Half h) goals.Nowhere n of j true e s k = half h n j k
  each (instr.Half h) g n of j true e s k = absurd (let e = one_of goals.Nowhere g k.goal in cc)
  each i g n of j true e s k = absurd (cc)

  pub copy_reached : (s : Step) (of j : Instr) → suits of s.instr ≡ true → IsLinkedCopy code start link p u q at s j
      → Reached (site code (start + at) width) (spots start link u.reloc q) (linked_step u.reloc link.number s).goal (linked_step u.reloc link.number s).instr j
  copy_reached s of j suit k = each s.instr s.goal s.copies of j (is_half s.instr) refl suit k
