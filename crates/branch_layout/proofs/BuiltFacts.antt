-- The sequences that builders give lead to their goals.
use Rattle.std.proofs.Common.{◌≡◌, ◌<◌, ℕ, zero, suc, List, [], ◌∷◌, Bool, true, false, refl, subst, arith, inl, inr, Option, Some, None}
use Rattle.std.specs.Prelude.{slice_get, Contains, if◌then◌else◌, not, pos, ⊤, ◌&&◌}
use Rattle.std.proofs.lemmas.Option.{none-some, same_Some}
use Rattle.elf_model.proofs.Elements.{contains_here, contains_later, contains_none, contains_cases}
use Rattle.thumb_instr.specs.declared.operations.AluOp.TheVariants as alu
use Rattle.thumb_instr.specs.declared.places.Place.{Place}
use Rattle.thumb_instr.specs.declared.places.Place.TheVariants as place
use Rattle.thumb_instr.specs.declared.places.PairIndex.{PairIndex}
use Rattle.thumb_instr.specs.declared.places.PairIndex.TheVariants as index
use Rattle.thumb_instr.specs.declared.register_sets.RegSet.{RegSet}
use Rattle.thumb_instr.specs.declared.instructions.Instr.{Instr}
use Rattle.thumb_instr.specs.declared.instructions.Instr.TheVariants as instr
use Rattle.thumb_instr.specs.Fields.{ZeroBranchFields}
use Rattle.thumb_instr.specs.Idempotence.{IsIdempotent}
use Rattle.thumb_instr.specs.Meanings.{constant_of}
use Rattle.thumb_table.specs.Effects.{registers, transfer_size}
use Rattle.thumb_instr.specs.Sets.{reads_of, writes_of, keeps_bits}
use Rattle.seq_core.specs.declared.classes.Class.{Class}
use Rattle.seq_core.specs.declared.classes.Class.TheVariants as class
use Rattle.seq_core.specs.declared.steps.Step.{Step}
use Rattle.seq_core.specs.declared.steps.Goal.{Goal}
use Rattle.seq_core.specs.declared.steps.Goal.TheVariants.{Nowhere, End, Landing, Target, Word}
use Rattle.seq_core.specs.Series.{Series}
use Rattle.seq_core.specs.Accepted.{operand_names_stack}
use Rattle.seq_core.specs.Classes.{IsOf}
use Rattle.seq_core.specs.Groups.{moving, branching}
use Rattle.seq_core.specs.Twice.{inserting}
use Rattle.seq_core.specs.Through.{register_sum}
use Rattle.seq_core.specs.Bases.{summing, access_at, pair_at}
use Rattle.seq_core.specs.Sent.{destination, sent}
use Rattle.seq_core.specs.Stacks.{transfer_at}
use Rattle.seq_core.specs.Straight.{own_goal, flagged, around, around_pair, written_back}
use Rattle.seq_core.specs.Built.{placed, through_one, through_two, as_steps}
use Rattle.seq_core.specs.Builders.{HasRow, AreCoded}
use Rattle.seq_core.specs.Replaced.{copy_loading, base_copied, long_summed, moved_list, popped, with_link, jumping, stack_stepped, leading, links, branches, called, register_called, zero_branched, replaced}
use Rattle.branch_layout.specs.Given.{goals_of}
use Rattle.branch_layout.specs.Leading.{CanLead, AllLead, goes_to_target, LeadsAs, AllLeadAs, built, landed, BuiltLead, LeadAs}
use Rattle.branch_layout.proofs.Lists.{get_push_cases}

-- INSTRUCTIONS WITHOUT A GOAL

abbrev IsPlain : Instr → Type 0
IsPlain i = Contains (goals_of i) Nowhere

abbrev ArePlain : List Instr → Type 0
ArePlain [] = ⊤
ArePlain (i ∷ is) = IsPlain i × ArePlain is

here : Contains (Nowhere ∷ []) Nowhere
here = contains_here Nowhere []

not_plain : (g : Goal) → (g ≡ Nowhere → ⊥) → Contains (g ∷ []) Nowhere → ⊥
not_plain g n c = elim (contains_cases g [] Nowhere c) [ inl e ↦ n e | inr d ↦ contains_none Nowhere d ]

plain_zero : (i : Instr) (z : ZeroBranchFields) → IsPlain i → i ≡ instr.ZeroBranch z → ⊥
plain_zero i z plain e = not_plain End (λ f. absurd (cc)) (subst IsPlain e plain)

plain_lead : (q : Series) (copies k : ℕ) (i : Instr) → IsPlain i → HasRow i → CanLead q copies k (leading copies Nowhere i)
plain_lead q copies k i plain row = record { many = refl; row = row; goal = plain; behind = λ z e. absurd (plain_zero i z plain e); before = λ e. absurd (cc) }

plains_lead : (q : Series) (copies n : ℕ) (is : List Instr) → ArePlain is → AreCoded (as_steps copies is) → (k : ℕ) (s : Step) → slice_get (as_steps copies is) k ≡ Some s → CanLead q copies n s
plains_lead q copies n [] plain coded k s e = absurd (none-some s e)
plains_lead q copies n (i ∷ is) plain coded zero s e = subst (CanLead q copies n) (same_Some (leading copies Nowhere i) s e) (plain_lead q copies n i plain.0 coded.0)
plains_lead q copies n (i ∷ is) plain coded (suc k) s e = plains_lead q copies n is plain.1 coded.1 k s e

sent_plain : (i : Instr) (q : ℕ) → IsPlain i → IsPlain (sent i q)
sent_plain (instr.Alu i) q plain = plain
sent_plain (instr.Move i) q plain = plain
sent_plain (instr.ShiftBy i) q plain = plain
sent_plain (instr.Wide i) q plain = plain
sent_plain (instr.Half i) q plain = plain
sent_plain (instr.Field i) q plain = plain
sent_plain (instr.Unary i) q plain = plain
sent_plain (instr.Mul i) q plain = plain
sent_plain (instr.MulAcc i) q plain = plain
sent_plain (instr.LongMul i) q plain = plain
sent_plain (instr.Div i) q plain = plain
sent_plain (instr.Access i) q plain = plain
sent_plain (instr.Literal i) q plain = plain
sent_plain (instr.Adr i) q plain = plain
sent_plain i q plain = plain

placed_plain : (d : Option ℕ) (q : ℕ) → ArePlain (placed d q)
placed_plain None q = tt
placed_plain (Some d) q = (here, tt)

unread : (b : Bool) → (false && b) ≡ false
unread true = refl
unread false = refl

-- What goes through a scratch register has none.
through_plain : (i : Instr) → IsOf class.Through i → IsPlain i
unfolding reads_of writes_of
through_plain (instr.Branch i) of = absurd (of.0 (λ k. refl))
through_plain (instr.ZeroBranch i) of = absurd (let e = of.2 class.ZeroBranch in cc)
through_plain (instr.Call i) of = absurd (let e = of.2 class.DirectCall in cc)
through_plain (instr.Adr i) of = absurd (of.0 (λ k. unread (writes_of (instr.Adr i) k)))
through_plain (instr.Literal i) of = absurd (of.0 (λ k. unread (writes_of (instr.Literal i) k)))
through_plain i of = here

if_plain : (b : Bool) (xs ys : List Instr) → ArePlain xs → ArePlain ys → ArePlain (if b then xs else ys)
if_plain true xs ys one two = one
if_plain false xs ys one two = two

one_plain : (i : Instr) (q : ℕ) → IsPlain i → ArePlain (through_one i q)
one_plain (instr.Alu i) q plain =
    if_plain (operand_names_stack i.x) (register_sum alu.Add false q 13 i.d ∷ moving false i.d q ∷ []) (sent (instr.Alu i) q ∷ moving false i.d q ∷ []) (here, (here, tt)) (here, (here, tt))
one_plain (instr.Field i) q plain =
    if_plain (keeps_bits i.op) (moving false q i.d ∷ inserting i.d q i.lsb i.width ∷ []) (sent (instr.Field i) q ∷ moving false i.d q ∷ []) (here, (here, tt)) (here, (here, tt))
one_plain (instr.LongMul i) q plain =
    if_plain (reads_of (instr.LongMul i) i.lo) (instr.LongMul (record i { lo = q }) ∷ moving false i.lo q ∷ []) (instr.LongMul (record i { hi = q }) ∷ moving false i.hi q ∷ []) (here, (here, tt)) (here, (here, tt))
one_plain i q plain = (sent_plain i q plain, placed_plain (destination i) q)

two_plain : (i : Instr) (a b : ℕ) → ArePlain (through_two i a b)
two_plain (instr.LongMul i) a b = (here, (here, (here, tt)))
two_plain i a b = tt

-- THE OTHER CLASSES WITHOUT GOALS

flagged_plain : (i : Instr) (q : ℕ) → ArePlain (flagged i q)
flagged_plain (instr.Mul i) q = (here, (here, tt))
flagged_plain i q = tt

around_plain : (p : Place) (q n : ℕ) (at : Instr) → IsPlain at → ArePlain (around p q n at)
around_plain (place.Offset up imm) q n at plain = tt
around_plain (place.Pre up imm) q n at plain = (here, (here, (plain, tt)))
around_plain (place.Post up imm) q n at plain = (plain, (here, (here, tt)))
around_plain (place.Index m shift) q n at plain = tt

around_pair_plain : (p : PairIndex) (up : Bool) (imm q n : ℕ) (at : Instr) → IsPlain at → ArePlain (around_pair p up imm q n at)
around_pair_plain index.Offset up imm q n at plain = tt
around_pair_plain index.Pre up imm q n at plain = (here, (here, (plain, tt)))
around_pair_plain index.Post up imm q n at plain = (plain, (here, (here, tt)))

written_plain : (i : Instr) (q : ℕ) → ArePlain (written_back i q)
written_plain (instr.Access i) q = around_plain i.place q i.n (access_at i.op i.t i.n) here
written_plain (instr.Pair i) q = around_pair_plain i.index i.up i.imm q i.n (pair_at i.load i.t i.u i.n) here
written_plain i q = tt

copy_plain : (down : Bool) (q : ℕ) (list : RegSet) (rs : List ℕ) → IsPlain (copy_loading down q list rs)
copy_plain down q list [] = here
copy_plain down q list (t ∷ []) = here
copy_plain down q list (t ∷ u ∷ rs) = here

base_plain : (i : Instr) (q : ℕ) → ArePlain (base_copied i q)
base_plain (instr.Pair i) q = (here, (here, tt))
base_plain (instr.Multi i) q = (here, (copy_plain i.down q i.list (registers i.list.0), tt))
base_plain i q = tt

long_plain : (i : Instr) (a b c : ℕ) → ArePlain (long_summed i a b c)
long_plain (instr.LongMul i) a b c = (here, (here, (here, (here, (here, tt)))))
long_plain i a b c = tt

transfer_plain : (load : Bool) (n : ℕ) (list : RegSet) (rs : List ℕ) → IsPlain (transfer_at load n list rs)
transfer_plain true n list [] = here
transfer_plain true n list (t ∷ []) = here
transfer_plain true n list (t ∷ u ∷ rs) = here
transfer_plain false n list [] = here
transfer_plain false n list (t ∷ []) = here
transfer_plain false n list (t ∷ u ∷ rs) = here

moved_plain : (i : Instr) (q : ℕ) → ArePlain (moved_list i q)
moved_plain (instr.Multi i) q =
    let step : Instr = summing (not i.down) q i.n (constant_of (transfer_size i.list.0 false)) in
    let list : Instr = transfer_at i.load i.n i.list (registers i.list.0) in
    let plain : IsPlain list = transfer_plain i.load i.n i.list (registers i.list.0) in
    if_plain i.down (step ∷ moving false i.n q ∷ list ∷ []) (list ∷ step ∷ moving false i.n q ∷ []) (here, (here, (plain, tt))) (plain, (here, (here, tt)))
moved_plain i q = tt

popped_plain : (i : Instr) (q : ℕ) → ArePlain (popped i q)
popped_plain (instr.Multi i) q = (transfer_plain true 13 (with_link i.list) (registers (with_link i.list).0), (here, (here, (here, tt))))
popped_plain i q = tt

stack_plain : (i : Instr) (q : ℕ) → IsOf class.SpStep i → ArePlain (stack_stepped i q)
stack_plain (instr.Alu i) q of = (here, (here, tt))
stack_plain (instr.Wide i) q of = (here, (here, tt))
stack_plain i q of = absurd (cc)

-- THE CLASSES WITH GOALS

own_plain : (i : Instr) → IsIdempotent i → Contains (goals_of i) (own_goal i)
own_plain (instr.Branch i) of = contains_later End (Target ∷ []) Target (contains_here Target [])
own_plain (instr.Literal i) of = contains_here Word []
own_plain (instr.ZeroBranch i) of = absurd (let e = of.1 in cc)
own_plain (instr.Call i) of = absurd (let e = of.1 in cc)
own_plain (instr.Adr i) of = absurd (let e = of.1 in cc)
own_plain i of = here

own_not_landing : (i : Instr) → own_goal i ≡ Landing → ⊥
own_not_landing (instr.Branch i) e = absurd (cc)
own_not_landing (instr.Literal i) e = absurd (cc)
own_not_landing i e = absurd (cc)

twice_lead : (q : Series) (copies k : ℕ) (i : Instr) → IsIdempotent i → HasRow i → CanLead q copies k (leading copies (own_goal i) i)
twice_lead q copies k i of row = record {
  many = refl;
  row = row;
  goal = own_plain i of;
  behind = λ z e. absurd (let apart = subst IsIdempotent e of in let f = apart.1 in cc);
  before = λ e. absurd (own_not_landing i e);
}

links_lead : (q : Series) (copies k : ℕ) → k < q.landing → HasRow (links copies).instr → CanLead q copies k (links copies)
links_lead q copies k lt row = record { many = refl; row = row; goal = contains_here Landing []; behind = λ z e. absurd (cc); before = λ e. lt }

branches_lead : (q : Series) (copies k : ℕ) → HasRow (branches copies).instr → CanLead q copies k (branches copies)
branches_lead q copies k row = record { many = refl; row = row; goal = contains_later End (Target ∷ []) Target (contains_here Target []); behind = λ z e. absurd (cc); before = λ e. absurd (cc) }

-- a sequence of one step, of two, of three
one_lead : (q : Series) (copies : ℕ) (a : Step) → CanLead q copies 0 a → (k : ℕ) (s : Step) → slice_get (a ∷ []) k ≡ Some s → CanLead q copies k s
one_lead q copies a one zero s e = subst (CanLead q copies 0) (same_Some a s e) one
one_lead q copies a one (suc k) s e = absurd (none-some s e)

two_lead : (q : Series) (copies : ℕ) (a b : Step) → CanLead q copies 0 a → CanLead q copies 1 b → (k : ℕ) (s : Step) → slice_get (a ∷ b ∷ []) k ≡ Some s → CanLead q copies k s
two_lead q copies a b one two zero s e = subst (CanLead q copies 0) (same_Some a s e) one
two_lead q copies a b one two (suc zero) s e = subst (CanLead q copies 1) (same_Some b s e) two
two_lead q copies a b one two (suc (suc k)) s e = absurd (none-some s e)

three_lead : (q : Series) (copies : ℕ) (a b c : Step) → CanLead q copies 0 a → CanLead q copies 1 b → CanLead q copies 2 c → (k : ℕ) (s : Step) → slice_get (a ∷ b ∷ c ∷ []) k ≡ Some s → CanLead q copies k s
three_lead q copies a b c one two three zero s e = subst (CanLead q copies 0) (same_Some a s e) one
three_lead q copies a b c one two three (suc zero) s e = subst (CanLead q copies 1) (same_Some b s e) two
three_lead q copies a b c one two three (suc (suc zero)) s e = subst (CanLead q copies 2) (same_Some c s e) three
three_lead q copies a b c one two three (suc (suc (suc k))) s e = absurd (none-some s e)

called_lead : (i : Instr) (qs : List ℕ) (copies : ℕ) → AreCoded (called copies) → AllLead copies (built class.DirectCall copies i qs)
called_lead i qs copies coded =
    let q : Series = built class.DirectCall copies i qs in
    two_lead q copies (links copies) (branches copies) (links_lead q copies 0 (omega arith) coded.0) (branches_lead q copies 1 coded.1.0)

register_lead : (i : Instr) (qs : List ℕ) (copies : ℕ) → AreCoded (register_called copies i qs) → AllLead copies (built class.RegisterCall copies i qs)
register_lead (instr.CallReg i) [] copies coded =
    let q : Series = built class.RegisterCall copies (instr.CallReg i) [] in
    two_lead q copies (links copies) (leading copies Nowhere (jumping i.m)) (links_lead q copies 0 (omega arith) coded.0) (plain_lead q copies 1 (jumping i.m) here coded.1.0)
register_lead (instr.CallReg i) (r ∷ qs) copies coded =
    let q : Series = built class.RegisterCall copies (instr.CallReg i) (r ∷ qs) in
    three_lead q copies (leading copies Nowhere (moving false r 14)) (links copies) (leading copies Nowhere (jumping r)) (plain_lead q copies 0 (moving false r 14) here coded.0) (links_lead q copies 1 (omega arith) coded.1.0)
    (plain_lead q copies 2 (jumping r) here coded.1.1.0)
register_lead i qs copies coded = λ k s e. absurd (none-some s e)

zero_lead : (i : Instr) (qs : List ℕ) (copies : ℕ) → AreCoded (zero_branched copies i) → AllLead copies (built class.ZeroBranch copies i qs)
zero_lead (instr.ZeroBranch i) qs copies coded =
    let q : Series = built class.ZeroBranch copies (instr.ZeroBranch i) qs in
    let inverse : Instr = instr.ZeroBranch (record { nonzero = not i.nonzero; n = i.n; offset = pos 0 }) in
    two_lead q copies (leading copies End inverse) (branches copies) (record { many = refl; row = coded.0; goal = contains_here End []; behind = λ z e. omega arith; before = λ e. absurd (cc) }) (branches_lead q copies 1 coded.1.0)
zero_lead i qs copies coded = λ k s e. absurd (none-some s e)

jump_lead : (i : Instr) (qs : List ℕ) (copies : ℕ) → IsOf class.RegisterJump i → HasRow i → AllLead copies (built class.RegisterJump copies i qs)
jump_lead (instr.Jump i) qs copies of row = let q : Series = built class.RegisterJump copies (instr.Jump i) qs in one_lead q copies (leading copies Nowhere (instr.Jump i)) (plain_lead q copies 0 (instr.Jump i) here row)
jump_lead i qs copies of row = absurd (cc)

-- ALL CLASSES

pub lead : (c : Class) (i : Instr) (qs : List ℕ) (copies : ℕ) → IsOf c i → AreCoded (replaced c copies i qs) → AllLead copies (built c copies i qs)
lead class.Twice i qs copies of coded = let q : Series = built class.Twice copies i qs in one_lead q copies (leading copies (own_goal i) i) (twice_lead q copies 0 i of coded.0)
lead class.Through i (r ∷ []) copies of coded = λ k s e. plains_lead (built class.Through copies i (r ∷ [])) copies k (through_one i r) (one_plain i r (through_plain i of)) coded k s e
lead class.Through i (a ∷ b ∷ []) copies of coded = λ k s e. plains_lead (built class.Through copies i (a ∷ b ∷ [])) copies k (through_two i a b) (two_plain i a b) coded k s e
lead class.ThroughFlags i (r ∷ []) copies of coded = λ k s e. plains_lead (built class.ThroughFlags copies i (r ∷ [])) copies k (flagged i r) (flagged_plain i r) coded k s e
lead class.WriteBack i (r ∷ []) copies of coded = λ k s e. plains_lead (built class.WriteBack copies i (r ∷ [])) copies k (written_back i r) (written_plain i r) coded k s e
lead class.BaseCopy i (r ∷ []) copies of coded = λ k s e. plains_lead (built class.BaseCopy copies i (r ∷ [])) copies k (base_copied i r) (base_plain i r) coded k s e
lead class.LongSum i (a ∷ b ∷ d ∷ []) copies of coded = λ k s e. plains_lead (built class.LongSum copies i (a ∷ b ∷ d ∷ [])) copies k (long_summed i a b d) (long_plain i a b d) coded k s e
lead class.Push i (r ∷ []) copies of coded = λ k s e. plains_lead (built class.Push copies i (r ∷ [])) copies k (moved_list i r) (moved_plain i r) coded k s e
lead class.Pop i (r ∷ []) copies of coded = λ k s e. plains_lead (built class.Pop copies i (r ∷ [])) copies k (moved_list i r) (moved_plain i r) coded k s e
lead class.PopReturn i (r ∷ []) copies of coded = λ k s e. plains_lead (built class.PopReturn copies i (r ∷ [])) copies k (popped i r) (popped_plain i r) coded k s e
lead class.SpStep i (r ∷ []) copies of coded = λ k s e. plains_lead (built class.SpStep copies i (r ∷ [])) copies k (stack_stepped i r) (stack_plain i r of) coded k s e
lead class.MultiBack i (r ∷ []) copies of coded = λ k s e. plains_lead (built class.MultiBack copies i (r ∷ [])) copies k (moved_list i r) (moved_plain i r) coded k s e
lead class.DirectCall i qs copies of coded = called_lead i qs copies coded
lead class.RegisterCall i qs copies of coded = register_lead i qs copies coded
lead class.RegisterJump i qs copies of coded = jump_lead i qs copies of coded.0
lead class.ZeroBranch i qs copies of coded = zero_lead i qs copies coded
lead c i qs copies of coded = λ k s e. absurd (none-some s e)

pub built_lead : BuiltLead
built_lead c i scratch copies can coded = lead c i scratch copies can.of coded

-- WHERE THE INSTRUCTION LEADS

nowhere_as : (i : Instr) (s : Step) → s.goal ≡ Nowhere → LeadsAs i s
nowhere_as i s e = record { target = λ f. absurd (cc); word = λ f. absurd (cc) }

plains_as : (i : Instr) (copies : ℕ) (is : List Instr) → AllLeadAs i (as_steps copies is)
plains_as i copies [] k s e = absurd (none-some s e)
plains_as i copies (j ∷ is) zero s e = subst (LeadsAs i) (same_Some (leading copies Nowhere j) s e) (nowhere_as i (leading copies Nowhere j) refl)
plains_as i copies (j ∷ is) (suc k) s e = plains_as i copies is k s e

own_as : (i : Instr) (copies : ℕ) → LeadsAs i (leading copies (own_goal i) i)
own_as (instr.Branch i) copies = record { target = λ f. refl; word = λ f. absurd (cc) }
own_as (instr.Literal i) copies = record { target = λ f. absurd (cc); word = λ f. refl }
own_as i copies = record { target = λ f. absurd (cc); word = λ f. absurd (cc) }

branches_as : (i : Instr) (copies : ℕ) → goes_to_target i ≡ true → LeadsAs i (branches copies)
branches_as i copies goes = record { target = λ f. goes; word = λ f. absurd (cc) }

one_as : (i : Instr) (a : Step) → LeadsAs i a → AllLeadAs i (a ∷ [])
one_as i a one zero s e = subst (LeadsAs i) (same_Some a s e) one
one_as i a one (suc k) s e = absurd (none-some s e)

more_as : (i : Instr) (a : Step) (steps : List Step) → LeadsAs i a → AllLeadAs i steps → AllLeadAs i (a ∷ steps)
more_as i a steps one rest zero s e = subst (LeadsAs i) (same_Some a s e) one
more_as i a steps one rest (suc k) s e = rest k s e

links_as : (i : Instr) (copies : ℕ) → LeadsAs i (links copies)
links_as i copies = record { target = λ f. absurd (cc); word = λ f. absurd (cc) }

ends_as : (i j : Instr) (copies : ℕ) → LeadsAs i (leading copies End j)
ends_as i j copies = record { target = λ f. absurd (cc); word = λ f. absurd (cc) }

called_as : (i : Instr) (copies : ℕ) → IsOf class.DirectCall i → AllLeadAs i (called copies)
called_as (instr.Call i) copies of = more_as (instr.Call i) (links copies) (branches copies ∷ []) (links_as (instr.Call i) copies) (one_as (instr.Call i) (branches copies) (branches_as (instr.Call i) copies refl))
called_as i copies of = absurd (cc)

register_as : (i : Instr) (qs : List ℕ) (copies : ℕ) → AllLeadAs i (register_called copies i qs)
register_as (instr.CallReg i) [] copies =
    let j : Instr = instr.CallReg i in
    more_as j (links copies) (leading copies Nowhere (jumping i.m) ∷ []) (links_as j copies) (one_as j (leading copies Nowhere (jumping i.m)) (nowhere_as j (leading copies Nowhere (jumping i.m)) refl))
register_as (instr.CallReg i) (r ∷ qs) copies =
    let j : Instr = instr.CallReg i in
    more_as j (leading copies Nowhere (moving false r 14)) (links copies ∷ leading copies Nowhere (jumping r) ∷ []) (nowhere_as j (leading copies Nowhere (moving false r 14)) refl)
    (more_as j (links copies) (leading copies Nowhere (jumping r) ∷ []) (links_as j copies) (one_as j (leading copies Nowhere (jumping r)) (nowhere_as j (leading copies Nowhere (jumping r)) refl)))
register_as i qs copies = λ k s e. absurd (none-some s e)

zero_as : (i : Instr) (copies : ℕ) → AllLeadAs i (zero_branched copies i)
zero_as (instr.ZeroBranch i) copies =
    let j : Instr = instr.ZeroBranch i in
    let inverse : Instr = instr.ZeroBranch (record { nonzero = not i.nonzero; n = i.n; offset = pos 0 }) in
    more_as j (leading copies End inverse) (branches copies ∷ []) (ends_as j inverse copies) (one_as j (branches copies) (branches_as j copies refl))
zero_as i copies = λ k s e. absurd (none-some s e)

pub lead_as : (c : Class) (i : Instr) (qs : List ℕ) (copies : ℕ) → IsOf c i → AllLeadAs i (replaced c copies i qs)
lead_as class.Twice i qs copies of = one_as i (leading copies (own_goal i) i) (own_as i copies)
lead_as class.Through i (r ∷ []) copies of = plains_as i copies (through_one i r)
lead_as class.Through i (a ∷ b ∷ []) copies of = plains_as i copies (through_two i a b)
lead_as class.ThroughFlags i (r ∷ []) copies of = plains_as i copies (flagged i r)
lead_as class.WriteBack i (r ∷ []) copies of = plains_as i copies (written_back i r)
lead_as class.BaseCopy i (r ∷ []) copies of = plains_as i copies (base_copied i r)
lead_as class.LongSum i (a ∷ b ∷ d ∷ []) copies of = plains_as i copies (long_summed i a b d)
lead_as class.Push i (r ∷ []) copies of = plains_as i copies (moved_list i r)
lead_as class.Pop i (r ∷ []) copies of = plains_as i copies (moved_list i r)
lead_as class.PopReturn i (r ∷ []) copies of = plains_as i copies (popped i r)
lead_as class.SpStep i (r ∷ []) copies of = plains_as i copies (stack_stepped i r)
lead_as class.MultiBack i (r ∷ []) copies of = plains_as i copies (moved_list i r)
lead_as class.DirectCall i qs copies of = called_as i copies of
lead_as class.RegisterCall i qs copies of = register_as i qs copies
lead_as class.RegisterJump i qs copies of = one_as i (leading copies Nowhere i) (nowhere_as i (leading copies Nowhere i) refl)
lead_as class.ZeroBranch i qs copies of = zero_as i copies
lead_as c i qs copies of = λ k s e. absurd (none-some s e)

landed_as : (i : Instr) (copies : ℕ) (q : Series) → AllLeadAs i q.steps → AllLeadAs i (landed copies q).steps
landed_as i copies q all k s e = elim (get_push_cases q.steps trap s k e) [ inl old ↦ all k s old | inr new ↦ subst (LeadsAs i) new.1 (nowhere_as i trap refl) ]
  where
    trap : Step
    trap = leading copies Nowhere (instr.Trap (record { imm = 0 }))

pub all_lead_as : LeadAs
all_lead_as = record {
  built = λ c i scratch copies can. lead_as c i scratch copies can.of;
  guarded = λ c i copies q all. more_as i (leading copies End (branching c)) q.steps (ends_as i (branching c) copies) all;
  landed = landed_as;
}
