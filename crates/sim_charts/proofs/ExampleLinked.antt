-- The example is linked, unit by unit.
use Rattle.std.proofs.Common.{◌≡◌, ◌≢◌, ℕ, ◌+◌, ◌<◌, ◌≤◌, inl, ⊎_elim, Bool, true, false, Some, None, refl, sym, ap, ◌∙◌, subst, arith, IsTrue}
use Rattle.std.specs.Prelude.{◌==◌, ◌||◌, ◌&&◌, not, pos, negsuc}
use Rattle.std.proofs.lemmas.Bool.{eqb-true}
use Rattle.std.proofs.Common.{get_or}
use Rattle.std.proofs.lemmas.Bool.{cases_eq, cases_lt, eq-eqb}
use Rattle.std.proofs.lemmas.List.{get_or_past}
use Rattle.mark_word.specs.Words.{Word, plain, bare, bits_of, is_word, is_piece_of}
use Rattle.thumb_instr.specs.Sets.{reads_of, writes_of, sets_flags_of}
use Rattle.thumb_table.specs.States.{Core, at, read}
use Rattle.thumb_table.specs.Schedules.{exit}
use Rattle.sim_charts.specs.Words.{SameBits, SameByte, IsMarked}
use Rattle.sim_charts.specs.Alike.{by_chart, SameWord}
use Rattle.sim_charts.specs.Simulates.{At}
use Rattle.sim_charts.proofs.Induction.{pairs_end_alike}
use Rattle.sim_charts.specs.Charts.{Point, Onward, Branch, Call, Return, always_writes, sets_of}
use Rattle.sim_charts.specs.Boundaries.{at_call, at_return, at_transfer}
use Rattle.seq_core.specs.Meanings.{Ends, meant}
use Rattle.sim_charts.specs.Flows.{Continues, Lives, site_of}
use Rattle.sim_charts.specs.Linked.{PairedUnit}
use Rattle.sim_charts.specs.Example.{plain_code, hard_code, moving, example, p0, p1, p2, p3, p4, p5, p6, p7, ExampleIsLinked, IsCalled, ExampleEnds}
use Rattle.sim_charts.proofs.Sets.{or_left, or_cases, and_left, transfer_cases, call_returns, return_calls}
use Rattle.sim_charts.proofs.Standing.{s0, s1, s2, s3, s4, s5, s6, s7, m_4674, m_4608, m_46A6}
use Rattle.sim_charts.proofs.ExampleUnits.{bx_lr, move_works, branch_works, jump_works, call_works, zero_works}
use Rattle.sim_charts.proofs.ExampleTwins.{by_points, move_twin, branch_twin, zero_twin, jump_twin, call_twin}

no_it : (a : ℕ) (p : Point) → example a ≡ Some p → p.it ≡ 0
no_it = by_points (λ a p. p.it ≡ 0) refl refl refl refl refl refl refl refl

some_is : (n b : ℕ) → Some n ≡ Some b → n ≡ b
some_is n b e = cc

point_is : (p q : Point) → Some p ≡ Some q → p ≡ q
point_is p q e = cc

-- what stands at a next point
next_is : (n b : ℕ) (r q : Point) → Some n ≡ Some b → example n ≡ Some r → example b ≡ Some q → r ≡ q
next_is n b r q e en eb = point_is r q (sym en ∙ ap example (some_is n b e) ∙ eb)

branch_is : (n b : ℕ) (r q : Point) → Branch n ≡ Branch b → example n ≡ Some r → example b ≡ Some q → r ≡ q
branch_is n b r q e en eb = let same : n ≡ b = cc in point_is r q (sym en ∙ ap example same ∙ eb)

link_set : sets_of p1.instr 14 ≡ true
unfolding writes_of sets_flags_of
link_set = refl

g0 : Continues example plain_code 0x8000 p0
g0 = record {
  next = λ b e. let s = some_is 0x8002 b e in subst (λ n. (q : Point) × (example n ≡ Some q) × (n ≡ 0x8002) × (q.place ≡ 0x8004) × (q.it ≡ 0)) s (p1, refl, refl, refl, refl);
  onward = λ e. refl;
  no_it = λ e. refl;
  last = λ e. refl;
  branch = λ t q e tq. no_it t q tq;
  entry = λ e. refl;
  links = λ e. absurd cc;
  returns = λ e. absurd cc;
  back = λ b e n. refl;
}

g1 : Continues example plain_code 0x8002 p1
g1 = record {
  next = λ b e. let s = some_is 0x8006 b e in subst (λ n. (q : Point) × (example n ≡ Some q) × (n ≡ 0x8006) × (q.place ≡ 0x8010) × (q.it ≡ 0)) s (p2, refl, refl, refl, refl);
  onward = λ e. absurd cc;
  no_it = λ e. refl;
  last = λ e. refl;
  branch = λ t q e tq. no_it t q tq;
  entry = λ e. refl;
  links = λ e. link_set;
  returns = λ e clear. refl;
  back = λ b e n. refl;
}

g2 : Continues example plain_code 0x8006 p2
g2 = record {
  next = λ b e. let s = some_is 0x8008 b e in subst (λ n. (q : Point) × (example n ≡ Some q) × (n ≡ 0x8008) × (q.place ≡ 0x8018) × (q.it ≡ 0)) s (p3, refl, refl, refl, refl);
  onward = λ e. refl;
  no_it = λ e. refl;
  last = λ e. refl;
  branch = λ t q e tq. no_it t q tq;
  entry = λ e. refl;
  links = λ e. absurd cc;
  returns = λ e. absurd cc;
  back = λ b e n. refl;
}

g3 : Continues example plain_code 0x8008 p3
g3 = record {
  next = λ b e. let s = some_is 0x800A b e in subst (λ n. (q : Point) × (example n ≡ Some q) × (n ≡ 0x800A) × (q.place ≡ 0x801C) × (q.it ≡ 0)) s (p4, refl, refl, refl, refl);
  onward = λ e. refl;
  no_it = λ e. refl;
  last = λ e. refl;
  branch = λ t q e tq. no_it t q tq;
  entry = λ e. refl;
  links = λ e. absurd cc;
  returns = λ e. absurd cc;
  back = λ b e n. refl;
}

g4 : Continues example plain_code 0x800A p4
g4 = record {
  next = λ b e. absurd cc;
  onward = λ e. absurd cc;
  no_it = λ e. refl;
  last = λ e. refl;
  branch = λ t q e tq. no_it t q tq;
  entry = λ e. refl;
  links = λ e. absurd cc;
  returns = λ e. absurd cc;
  back = λ b e n. refl;
}

g5 : Continues example plain_code 0x800C p5
g5 = record {
  next = λ b e. let s = some_is 0x800E b e in subst (λ n. (q : Point) × (example n ≡ Some q) × (n ≡ 0x800E) × (q.place ≡ 0x8024) × (q.it ≡ 0)) s (p6, refl, refl, refl, refl);
  onward = λ e. refl;
  no_it = λ e. refl;
  last = λ e. refl;
  branch = λ t q e tq. no_it t q tq;
  entry = λ e. refl;
  links = λ e. absurd cc;
  returns = λ e. absurd cc;
  back = λ b e n. refl;
}

g6 : Continues example plain_code 0x800E p6
g6 = record {
  next = λ b e. absurd cc;
  onward = λ e. absurd cc;
  no_it = λ e. refl;
  last = λ e. refl;
  branch = λ t q e tq. no_it t q tq;
  entry = λ e. refl;
  links = λ e. absurd cc;
  returns = λ e. absurd cc;
  back = λ b e n. refl;
}

g7 : Continues example plain_code 0x8010 p7
g7 = record {
  next = λ b e. absurd cc;
  onward = λ e. absurd cc;
  no_it = λ e. refl;
  last = λ e. refl;
  branch = λ t q e tq. no_it t q tq;
  entry = λ e. refl;
  links = λ e. absurd cc;
  returns = λ e. absurd cc;
  back = λ b e n. refl;
}

-- liveness
used_by : (r b w l : Bool) → ((r || false) || (b && w)) ≡ true → (r ≡ true → l ≡ true) → (b ≡ true → l ≡ true) → l ≡ true
used_by r b w l e f g = ⊎_elim
    (λ (x : (r || false) ≡ true). f (⊎_elim (λ y. y) (λ (y : false ≡ true). absurd cc) (or_cases r false x)))
    (λ (x : (b && w) ≡ true). g (and_left b w x))
    (or_cases (r || false) (b && w) e)

move_reads_only : (d m k : ℕ) → reads_of (moving d m) k ≡ true → k ≡ m
unfolding reads_of
move_reads_only d m k e = ⊎_elim (λ (l : (k == m) ≡ true). eqb-true k m l) (λ (r : false ≡ true). absurd cc) (or_cases (k == m) false e)

call_reads_none : (k : ℕ) → reads_of p1.instr k ≡ true → ⊥
unfolding reads_of
call_reads_none k e = cc

branch_reads_none : (k : ℕ) → reads_of p4.instr k ≡ true → ⊥
unfolding reads_of
branch_reads_none k e = cc

zero_reads_only : (k : ℕ) → reads_of p2.instr k ≡ true → k ≡ 0
unfolding reads_of
zero_reads_only k e = eqb-true k 0 e

jump_reads_only : (k : ℕ) → reads_of bx_lr k ≡ true → k ≡ 14
unfolding reads_of
jump_reads_only k e = eqb-true k 14 e

keeps_lr : (k : ℕ) → sets_of (moving 14 4) k ≡ false → k ≢ 14
unfolding writes_of sets_flags_of
keeps_lr k e q = let f : sets_of (moving 14 4) 14 ≡ false = subst (λ j. sets_of (moving 14 4) j ≡ false) q e in cc

returns_transfer : (k : ℕ) → at_return 4 k ≡ true → at_transfer k ≡ true
returns_transfer k e = or_left (at_call k) (k == 14) (return_calls 4 k (omega arith) e)

is_at : (live : ℕ → Bool) (k m : ℕ) → k ≡ m → live m ≡ true → live k ≡ true
is_at live k m e l = subst (λ j. live j ≡ true) (sym e) l

l0 : Lives example 4 p0
l0 = record {
  used = λ k e. used_by (reads_of p0.instr k) false (not (always_writes p0 k)) (at_transfer k) e (λ r. is_at at_transfer k 14 (move_reads_only 4 14 k r) refl) (λ r. absurd cc);
  passed = λ k b q ps l tq ql w. ⊎_elim
      (λ (e : Some 0x8002 ≡ Some b). subst (λ v. v.live k ≡ true) (sym (next_is 0x8002 b p1 q e refl tq)) ql)
      (λ (e : Onward ≡ Branch b). absurd cc)
      l;
  entered = λ k e l. l;
  returned = λ k b q e. absurd cc;
}

l1 : Lives example 4 p1
l1 = record {
  used = λ k e. used_by (reads_of p1.instr k) (at_call k) (not (always_writes p1 k)) (at_transfer k) e (λ r. absurd (call_reads_none k r)) (λ r. or_left (at_call k) (k == 14) r);
  passed = λ k b q ps. absurd cc;
  entered = λ k e. absurd cc;
  returned = λ k b q w e tq ql. call_returns k (subst (λ v. v.live k ≡ true) (sym (next_is 0x8006 b p2 q e refl tq)) ql);
}

l2 : Lives example 4 p2
l2 = record {
  used = λ k e. used_by (reads_of p2.instr k) false (not (always_writes p2 k)) (at_call k) e (λ r. is_at at_call k 0 (zero_reads_only k r) refl) (λ r. absurd cc);
  passed = λ k b q ps l tq ql w. ⊎_elim
      (λ (e : Some 0x8008 ≡ Some b). subst (λ v. v.live k ≡ true) (sym (next_is 0x8008 b p3 q e refl tq)) ql)
      (λ (e : Branch 0x800C ≡ Branch b). subst (λ v. v.live k ≡ true) (sym (branch_is 0x800C b p5 q e refl tq)) ql)
      l;
  entered = λ k e. absurd cc;
  returned = λ k b q e. absurd cc;
}

l3 : Lives example 4 p3
l3 = record {
  used = λ k e. used_by (reads_of p3.instr k) false (not (always_writes p3 k)) (at_call k) e (λ r. is_at at_call k 1 (move_reads_only 0 1 k r) refl) (λ r. absurd cc);
  passed = λ k b q ps l tq ql w. ⊎_elim
      (λ (e : Some 0x800A ≡ Some b). subst (λ v. v.live k ≡ true) (sym (next_is 0x800A b p4 q e refl tq)) ql)
      (λ (e : Onward ≡ Branch b). absurd cc)
      l;
  entered = λ k e. absurd cc;
  returned = λ k b q e. absurd cc;
}

l4 : Lives example 4 p4
l4 = record {
  used = λ k e. used_by (reads_of p4.instr k) false (not (always_writes p4 k)) (at_call k) e (λ r. absurd (branch_reads_none k r)) (λ r. absurd cc);
  passed = λ k b q ps l tq ql w. ⊎_elim
      (λ (e : p4.next ≡ Some b). absurd cc)
      (λ (e : Branch 0x8006 ≡ Branch b). subst (λ v. v.live k ≡ true) (sym (branch_is 0x8006 b p2 q e refl tq)) ql)
      l;
  entered = λ k e. absurd cc;
  returned = λ k b q e. absurd cc;
}

l5 : Lives example 4 p5
l5 = record {
  used = λ k e. used_by (reads_of p5.instr k) false (not (always_writes p5 k)) (at_call k) e (λ r. is_at at_call k 4 (move_reads_only 14 4 k r) refl) (λ r. absurd cc);
  passed = λ k b q ps l tq ql w. ⊎_elim
      (λ (e : Some 0x800E ≡ Some b).
      let t : at_transfer k ≡ true = subst (λ v. v.live k ≡ true) (sym (next_is 0x800E b p6 q e refl tq)) ql in
      ⊎_elim (λ (x : at_call k ≡ true). x) (λ (x : k ≡ 14). absurd (keeps_lr k w x)) (transfer_cases k t))
      (λ (e : Onward ≡ Branch b). absurd cc)
      l;
  entered = λ k e. absurd cc;
  returned = λ k b q e. absurd cc;
}

l6 : Lives example 4 p6
l6 = record {
  used = λ k e. used_by (reads_of bx_lr k) (at_return 4 k) (not (always_writes p6 k)) (at_transfer k) e (λ r. is_at at_transfer k 14 (jump_reads_only k r) refl) (λ r. returns_transfer k r);
  passed = λ k b q ps. absurd cc;
  entered = λ k e. absurd cc;
  returned = λ k b q e. absurd cc;
}

l7 : Lives example 4 p7
l7 = record {
  used = λ k e. used_by (reads_of bx_lr k) (at_return 4 k) (not (always_writes p7 k)) (at_transfer k) e (λ r. is_at at_transfer k 14 (jump_reads_only k r) refl) (λ r. returns_transfer k r);
  passed = λ k b q ps. absurd cc;
  entered = λ k e l. l;
  returned = λ k b q e. absurd cc;
}

ends_of : ℕ → ℕ → Ends
ends_of t b = record { target = t; back = b; word = plain 0 }

abbrev U : ℕ → Point → Type 0
U a p = PairedUnit example plain_code hard_code 2 4 4 (λ a. true) a p

u0 : U 0x8000 p0
u0 = record {
  effect = meant p0.instr (ends_of 0 0);
  stands = s0;
  goes = g0;
  lives = l0;
  spares = record { onward = λ k b q e l tq ql. refl; away = λ k e b. refl; stack = refl; link = λ e. refl };
  twin = move_twin example plain_code 4 4 14 Onward (Some 0x8002) true at_transfer 0x8000 0x8004 (ends_of 0 0) (site_of plain_code 0x8000 p0) (omega arith) (omega arith) refl refl;
  works = inl (move_works 4 14 0x4674 Onward (Some 0x8002) true at_transfer 0x8000 0x8004 (ends_of 0 0) refl (omega arith) refl refl refl m_4674);
  short = omega arith;
}

u1 : U 0x8002 p1
u1 = let e : Ends = record { target = 0x8028; back = 0x8010; word = plain 0 } in record {
  effect = meant p1.instr e;
  stands = s1;
  goes = g1;
  lives = l1;
  spares = record { onward = λ k b q e l tq ql. refl; away = λ k e b. refl; stack = refl; link = λ e. refl };
  twin = call_twin e refl refl;
  works = inl (call_works (pos 10) e Call (Some 0x8006) false at_transfer refl refl);
  short = omega arith;
}

u2 : U 0x8006 p2
u2 = let e : Ends = record { target = 0x8020; back = 0; word = plain 0 } in record {
  effect = meant p2.instr e;
  stands = s2;
  goes = g2;
  lives = l2;
  spares = record { onward = λ k b q e l tq ql. refl; away = λ k e b. refl; stack = refl; link = λ e. refl };
  twin = zero_twin e refl;
  works = inl (zero_works (pos 2) e (Branch 0x800C) (Some 0x8008) false at_call refl);
  short = omega arith;
}

u3 : U 0x8008 p3
u3 = record {
  effect = meant p3.instr (ends_of 0 0);
  stands = s3;
  goes = g3;
  lives = l3;
  spares = record { onward = λ k b q e l tq ql. refl; away = λ k e b. refl; stack = refl; link = λ e. refl };
  twin = move_twin example plain_code 4 0 1 Onward (Some 0x800A) false at_call 0x8018 0x801C (ends_of 0 0) (site_of plain_code 0x8008 p3) (omega arith) (omega arith) refl refl;
  works = inl (move_works 0 1 0x4608 Onward (Some 0x800A) false at_call 0x8018 0x801C (ends_of 0 0) refl (omega arith) refl refl refl m_4608);
  short = omega arith;
}

u4 : U 0x800A p4
u4 = let e : Ends = record { target = 0x8010; back = 0; word = plain 0 } in record {
  effect = meant p4.instr e;
  stands = s4;
  goes = g4;
  lives = l4;
  spares = record { onward = λ k b q e l tq ql. refl; away = λ k e b. refl; stack = refl; link = λ e. refl };
  twin = branch_twin e refl;
  works = inl (branch_works (negsuc 7) e (Branch 0x8006) None false at_call refl);
  short = omega arith;
}

u5 : U 0x800C p5
u5 = record {
  effect = meant p5.instr (ends_of 0 0);
  stands = s5;
  goes = g5;
  lives = l5;
  spares = record { onward = λ k b q e l tq ql. refl; away = λ k e b. refl; stack = refl; link = λ e. refl };
  twin = move_twin example plain_code 4 14 4 Onward (Some 0x800E) false at_call 0x8020 0x8024 (ends_of 0 0) (site_of plain_code 0x800C p5) (omega arith) (omega arith) refl refl;
  works = inl (move_works 14 4 0x46A6 Onward (Some 0x800E) false at_call 0x8020 0x8024 (ends_of 0 0) refl (omega arith) refl refl refl m_46A6);
  short = omega arith;
}

u6 : U 0x800E p6
u6 = record {
  effect = meant p6.instr (ends_of 0 0);
  stands = s6;
  goes = g6;
  lives = l6;
  spares = record { onward = λ k b q e l tq ql. refl; away = λ k e b. refl; stack = refl; link = λ e. refl };
  twin = jump_twin (ends_of 0 0) false at_transfer 0x8024 0x8028 0x800E;
  works = inl (jump_works (ends_of 0 0) Return None false at_transfer 0x8024 0x8028 refl refl);
  short = omega arith;
}

u7 : U 0x8010 p7
u7 = record {
  effect = meant p7.instr (ends_of 0 0);
  stands = s7;
  goes = g7;
  lives = l7;
  spares = record { onward = λ k b q e l tq ql. refl; away = λ k e b. refl; stack = refl; link = λ e. refl };
  twin = jump_twin (ends_of 0 0) true at_transfer 0x8028 0x802C 0x8010;
  works = inl (jump_works (ends_of 0 0) Return None true at_transfer 0x8028 0x802C refl refl);
  short = omega arith;
}

pub example_is_linked : ExampleIsLinked
example_is_linked = record {
  few = omega arith;
  units = by_points U u0 u1 u2 u3 u4 u5 u6 u7;
  outside = refl;
  hard_outside = refl;
  no_point = refl;
  low = by_points (λ a p. (a + p.width ≢ exit) × (p.place ≢ exit)) (omega arith, omega arith) (omega arith, omega arith) (omega arith, omega arith) (omega arith, omega arith) (omega arith, omega arith) (omega arith, omega arith) (omega arith, omega arith) (omega arith, omega arith);
}

-- any call of f begins alike
begins_alike : (x : Core) → IsCalled x → At example (at 0x8000 x) (at 0x8000 x)
begins_alike x s = record {
  point = p0;
  there = refl;
  it = s.clear;
  placed = refl;
  agree = record {
    sound = record { plain = s.count; marked = marked; hard = s.count; clear = s.clear };
    members = λ k l. record { word = λ b. word k b; n = λ e. refl; z = λ e. refl; c = λ e. refl; v = λ e. refl };
    store = record {
      stack = record { word = λ b. number 13 (omega arith); n = λ e. refl; z = λ e. refl; c = λ e. refl; v = λ e. refl };
      memory = record { base = refl; size = refl; cells = λ k lt. subst (λ q. SameByte (by_chart example) q (get_or x.memory.cells k (bare 0)).byte (get_or x.memory.cells k (bare 0)).byte) (sym (s.bare_cells k)) refl };
    };
  };
}
  where
    number : (k : ℕ) → k < 14 → SameWord example (read x k) (read x k)
    number k lt = subst (λ m. SameBits (by_chart example) m (read x k).bits (read x k).bits) (sym (s.numbers k lt)) refl

    link : SameWord example (read x 14) (read x 14)
    link = subst (λ (w : Word). SameWord example w w) (sym s.link) (inl (refl, refl))

    word : (k : ℕ) → k < 15 → SameWord example (read x k) (read x k)
    word k lt = ⊎_elim
        (λ (e : k ≡ 14). subst (λ j. SameWord example (read x j) (read x j)) (sym e) link)
        (λ (ne : k ≢ 14). number k (omega arith))
        (cases_eq k 14)

    is_marked : (k : ℕ) → IsTrue (is_word (read x k))
    is_marked k = ⊎_elim
        (λ (lt : k < 14). subst (λ m. IsTrue ((read x k).bits == bits_of m (read x k).bits)) (sym (s.numbers k lt)) (eq-eqb _ _ refl))
        (λ (ge : 14 ≤ k). ⊎_elim
        (λ (e : k ≡ 14). subst (λ j. IsTrue (is_word (read x j))) (sym e) (subst (λ (w : Word). IsTrue (is_word w)) (sym s.link) refl))
        (λ (ne : k ≢ 14). subst (λ (w : Word). IsTrue (is_word w)) (sym (get_or_past x.regs k (plain 0) (let z = s.count in omega arith))) refl)
        (cases_eq k 14))
        (cases_lt k 14)

    marked : IsMarked x
    marked = record { words = is_marked; cells = λ k. subst (λ q. IsTrue (is_piece_of (get_or x.memory.cells k (bare 0)).byte q)) (sym (s.bare_cells k)) refl }

pub example_ends : ExampleEnds
example_ends x s n ended r o schedule legal = pairs_end_alike example plain_code hard_code 4 example_is_linked (at 0x8000 x) (at 0x8000 x) ended (begins_alike x s) n r o schedule legal
