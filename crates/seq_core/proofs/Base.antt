-- A base register that moves: by way of a scratch register.
use Rattle.std.proofs.Common.{◌≡◌, ◌≢◌, ℕ, ◌+◌, ◌-◌, ◌^◌, ◌<◌, Bool, true, false, List, [], ◌∷◌, ◌++◌, length, inl, ⊎_elim, Ok, Err, refl, sym, ap, ◌∙◌, subst, arith, ne_eqb, set}
use Rattle.std.specs.Prelude.{◌==◌, ◌||◌, if◌then◌else◌, All}
use Rattle.std.specs.List.{list_any}
use Rattle.std.proofs.lemmas.Bool.{eqb-true}
use Rattle.std.proofs.lemmas.List.{set_comm}
use Rattle.mark_word.specs.Words.{Word, plain}
use Rattle.mark_word.specs.Formulas.{expand_imm}
use Rattle.thumb_instr.specs.declared.instructions.Instr.{Instr}
use Rattle.thumb_instr.specs.Sets.{reads_of, writes_of, sets_flags_of}
use Rattle.thumb_table.specs.declared.faults.FaultKind.TheVariants as fault
use Rattle.thumb_table.specs.States.{Core, Change, Exit, Falls, Jumps, applied, is_askew, upright, write_all}
use Rattle.thumb_table.specs.Values.{moved, wrapped}
use Rattle.thumb_table.specs.Effects.{change, value, writing, of_imm}
use Rattle.thumb_table.specs.Steps.{goes_on}
use Rattle.seq_core.specs.Meanings.{meant}
use Rattle.seq_core.specs.Does.{SameBut, Begins, Effect}
use Rattle.seq_core.specs.Apart.{goes_on_always, IsApart}
use Rattle.seq_core.specs.Sequences.{Settles, Leads, Chain, Reaches}
use Rattle.seq_core.specs.Groups.{done, no_ends, moving, only}
use Rattle.seq_core.specs.Bases.{summing, IsConstant, IsBeside}
use Rattle.seq_core.proofs.Tests.{same_number, first, rest}
use Rattle.seq_core.proofs.Meaning.{meant_depends, meant_within}
use Rattle.seq_core.proofs.Twice.{twice_settles, unwritten}
use Rattle.seq_core.proofs.Again.{write_length, read_other}
use Rattle.seq_core.proofs.Near.{Near, near_self, near_lost, near_applied, near_through, near_reads, near_same, read_set}
use Rattle.seq_core.proofs.Through.{moving_apart, move_done}

pub low_even : (q : ℕ) (w : Word) → q < 13 → list_any is_askew ((q, w) ∷ []) ≡ false
low_even q w lt = let b : (q == 13) ≡ false = ne_eqb q 13 (λ e. omega arith) in rw b refl

pub even_done : (h : Change) → list_any is_askew h.regs ≡ false → upright h ≡ Ok h
even_done h e = ap (λ b. if b then Err fault.BadStack else Ok h) e

-- An instruction that reads nothing that is lost does the same on both cores.
pub record Stepped (loses : ℕ → Bool) (i : Instr) (h : Change) (x z : Core) : Type 0 where
  pub settled : Settles (done i) z (applied h z)
  pub near : Near loses (applied h x) (applied h z)

pub step_near : (loses : ℕ → Bool) (i : Instr) (x z : Core) (h : Change) → goes_on_always i ≡ true → IsApart i → ((k : ℕ) → reads_of i k ≡ true → loses k ≡ false) → Near loses x z → z.it ≡ 0 → done i x ≡ Ok h → Stepped loses i h x z
step_near loses i x z h g a r n it m = record {
  settled = twice_settles i no_ends z h g a it (meant_depends i no_ends z x g (near_reads loses i x z r n) ∙ m);
  near = near_applied loses h x z n;
}

-- sums with a constant
added : (a c imm : ℕ) → c ≡ imm → wrapped (a + c + 0) ≡ wrapped (a + imm)
added a c imm e = let s : a + c + 0 ≡ a + imm = omega arith in ap wrapped s

taken : (a c imm : ℕ) → c ≡ imm → imm < 2 ^ 32 → wrapped (a + (2 ^ 32 - 1 - c) + 1) ≡ wrapped (a + 2 ^ 32 - imm)
taken a c imm e lt = let s : a + (2 ^ 32 - 1 - c) + 1 ≡ a + 2 ^ 32 - imm = omega arith in ap wrapped s

pub sum_done : (up : Bool) (d n k imm : ℕ) (x : Core) → d < 13 → IsConstant k imm → done (summing up d n k) x ≡ Ok (writing ((d, plain (moved up (value x n) imm)) ∷ []))
unfolding meant change
sum_done true d n k imm x lt c = ap (λ v. upright (writing ((d, plain v) ∷ []))) (added (value x n) (of_imm (expand_imm k false)).value imm c.value) ∙ even_done (writing ((d, plain (moved true (value x n) imm)) ∷ [])) (low_even d (plain (moved true (value x n) imm)) lt)
sum_done false d n k imm x lt c = ap (λ v. upright (writing ((d, plain v) ∷ []))) (taken (value x n) (of_imm (expand_imm k false)).value imm c.value c.small) ∙ even_done (writing ((d, plain (moved false (value x n) imm)) ∷ [])) (low_even d (plain (moved false (value x n) imm)) lt)

one_read : (b : Bool) → (b || false) ≡ true → b ≡ true
one_read true e = refl
one_read false e = e

pub sum_apart : (up : Bool) (d n k : ℕ) → n ≢ d → IsApart (summing up d n k)
unfolding reads_of writes_of sets_flags_of
sum_apart true d n k ne = record { regs = λ r e. let is : r ≡ n = eqb-true r n (one_read (r == n) e) in ne_eqb r d (λ h. ne (sym is ∙ h)); flags = λ r e. refl }
sum_apart false d n k ne = record { regs = λ r e. let is : r ≡ n = eqb-true r n (one_read (r == n) e) in ne_eqb r d (λ h. ne (sym is ∙ h)); flags = λ r e. refl }

-- THE BASE MOVES, in two groups
pub record BaseMoved (up : Bool) (n q k v : ℕ) (x z : Core) : Type 0 where
  pub between : Core
  pub after : Core
  pub sums : Settles (done (summing up q n k)) z between
  pub moves : Settles (done (moving false n q)) between after
  pub near : Near (only q) (applied (writing ((n, plain v) ∷ [])) x) after

pub base_moves : (up : Bool) (n q k imm : ℕ) (x z : Core) → IsBeside n q → IsConstant k imm → length z.regs ≡ 15 → z.it ≡ 0 → Near (only q) x z → list_any is_askew ((n, plain (moved up (value x n) imm)) ∷ []) ≡ false → BaseMoved up n q k (moved up (value x n) imm) x z
base_moves up n q k imm x z beside c count it near even =
    let v : ℕ = moved up (value x n) imm in
    let same : value z n ≡ value x n = ap (λ w. w.bits) (near.regs n (ne_eqb n q beside.apart)) in
    let h1 : Change = writing ((q, plain v) ∷ []) in
    let f1 : done (summing up q n k) z ≡ Ok h1 = sum_done up q n k imm z beside.low c ∙ ap (λ a. Ok (writing ((q, plain (moved up a imm)) ∷ []))) same in
    let t1 = twice_settles (summing up q n k) no_ends z h1 refl (sum_apart up q n k beside.apart) it f1 in
    let z1 : Core = applied h1 z in
    let there : q < length z.regs = let l = beside.low in omega arith in
    let h2 : Change = writing ((n, plain v) ∷ []) in
    let f2 : done (moving false n q) z1 ≡ Ok h2 = move_done n q z1 ∙ ap (λ w. upright (writing ((n, w) ∷ []))) (read_set z q (plain v) there) ∙ even_done h2 even in
    let t2 = twice_settles (moving false n q) no_ends z1 h2 refl (moving_apart false n q beside.low beside.apart) t1.clear f2 in
    record { between = z1; after = applied h2 z1; sums = t1; moves = t2; near = near_applied (only q) h2 x z1 (near_through (only q) x z z1 near (near_lost (only q) z q (plain v) (same_number q))) }

-- a write before others, or behind them
pub late_write : (ws : List (ℕ × Word)) (r : List Word) (n : ℕ) (v : Word) → All (λ w. n ≢ w.0) ws → set (write_all ws r) n v ≡ write_all ws (set r n v)
late_write [] r n v h = refl
late_write (w ∷ ws) r n v h =
    late_write ws (set r w.0 w.1) n v (rest (λ w. n ≢ w.0) w ws h)
    ∙ ap (λ l. write_all ws l) (set_comm r w.0 n w.1 v (λ e. first (λ w. n ≢ w.0) w ws h (sym e)))

-- a change of the base, and what is transferred
abbrev pub with_base : ℕ → ℕ → Change → Change
with_base n v g = record g { regs = (n, plain v) ∷ g.regs }

-- a chain that falls through
pub record On (groups : List Effect) (q : ℕ) (y : Core) (h : Change) : Type 0 where
  pub core : Core
  pub chain : Chain Settles groups y Falls core
  pub near : Near (only q) (applied h y) core
  pub clear : core.it ≡ 0

pub chain_on : (gs hs : List Effect) (x m : Core) (out : Exit) (y : Core) → Chain Settles gs x Falls m → Chain Settles hs m out y → Chain Settles (gs ++ hs) x out y
chain_on [] hs x m out y a b = subst (λ q. Chain Settles hs q out y) (sym a.1) b
chain_on (g ∷ gs) hs x m out y a b = ⊎_elim
    (λ (f : (k : Core) × Settles g x k × Chain Settles gs k Falls m). inl (f.0, f.1, chain_on gs hs f.0 m out y f.2 b))
    (λ (f : (t : ℕ) × Leads g x t m × (Falls ≡ Jumps t)). let e = f.2 in absurd cc)
    a

abbrev pub Done : ℕ → List Effect → ℕ → Core → Change → Type 0
Done end groups q y h = (z : Core) × Reaches Settles end groups y h.exit z × SameBut (only q) (applied h y) z

module _ (up : Bool) (n q k imm : ℕ) (i : Instr) (y : Core) (g : Change) (beside : IsBeside n q) (c : IsConstant k imm) (on : goes_on_always i ≡ true) (apart : IsApart i) (unread : reads_of i q ≡ false) (falls : g.exit ≡ Falls) (begins : Begins y)
    (even : list_any is_askew ((n, plain (moved up (value y n) imm)) ∷ []) ≡ false) where
  free : (k : ℕ) → reads_of i k ≡ true → only q k ≡ false
  free k e = ne_eqb k q (λ (s : k ≡ q). let a = ap (λ r. reads_of i r) s in absurd cc)

  -- THE BASE MOVES FIRST
  pub base_first : (end : ℕ) → done i (applied (writing ((n, plain (moved up (value y n) imm)) ∷ [])) y) ≡ Ok g → Done end (done (summing up q n k) ∷ done (moving false n q) ∷ done i ∷ []) q y (with_base n (moved up (value y n) imm) g)
  base_first end m =
      let b = base_moves up n q k imm y y beside c begins.count begins.clear (near_self (only q) y) even in
      let x1 : Core = applied (writing ((n, plain (moved up (value y n) imm)) ∷ [])) y in
      let s = step_near (only q) i x1 b.after g on apart free b.near b.moves.clear m in
      let near : Near (only q) (applied (with_base n (moved up (value y n) imm) g) y) (applied g b.after) = record { count = s.near.count; regs = s.near.regs; n = s.near.n; z = s.near.z; c = s.near.c; v = s.near.v; memory = s.near.memory } in
      (applied g b.after, record { out = Falls; chain = inl (b.between, b.sums, inl (b.after, b.moves, inl (applied g b.after, s.settled, (refl, refl)))); there = ap (goes_on end) (sym falls) }, near_same (only q) _ _ near s.settled.clear)

  -- THE BASE MOVES LAST
  pub base_last_on : All (λ w. n ≢ w.0) g.regs → length (applied g y).regs ≡ 15 → value (applied g y) n ≡ value y n → done i y ≡ Ok g → On (done i ∷ done (summing up q n k) ∷ done (moving false n q) ∷ []) q y (with_base n (moved up (value y n) imm) g)
  base_last_on others count same m =
      let s = step_near (only q) i y y g on apart free (near_self (only q) y) begins.clear m in
      let y1 : Core = applied g y in
      let v : ℕ = moved up (value y n) imm in
      let is : moved up (value y1 n) imm ≡ v = ap (λ a. moved up a imm) same in
      let even' : list_any is_askew ((n, plain (moved up (value y1 n) imm)) ∷ []) ≡ false = ap (λ a. list_any is_askew ((n, plain a) ∷ [])) is ∙ even in
      let b = base_moves up n q k imm y1 y1 beside c count s.settled.clear (near_self (only q) y1) even' in
      let late = late_write g.regs y.regs n (plain v) others in
      let there : Near (only q) (applied (writing ((n, plain v) ∷ [])) y1) b.after = subst (λ a. Near (only q) (applied (writing ((n, plain a) ∷ [])) y1) b.after) is b.near in
      let goal : Near (only q) (record (applied (writing ((n, plain v) ∷ [])) y1) { regs = write_all g.regs (set y.regs n (plain v)) }) b.after = subst (λ l. Near (only q) (record (applied (writing ((n, plain v) ∷ [])) y1) { regs = l }) b.after) late there in
      let near : Near (only q) (applied (with_base n v g) y) b.after = record { count = goal.count; regs = goal.regs; n = goal.n; z = goal.z; c = goal.c; v = goal.v; memory = goal.memory } in
      record { core = b.after; chain = inl (y1, s.settled, inl (b.between, b.sums, inl (b.after, b.moves, (refl, refl)))); near = near; clear = b.moves.clear }

  pub base_behind_on : reads_of i n ≡ true → done i y ≡ Ok g → On (done i ∷ done (summing up q n k) ∷ done (moving false n q) ∷ []) q y (with_base n (moved up (value y n) imm) g)
  base_behind_on r m =
      let w = meant_within i no_ends y g on m in
      let others = unwritten i g apart w n r in
      base_last_on others (write_length g.regs y.regs ∙ begins.count) (ap (λ w. w.bits) (read_other g y n others)) m

  -- the same, by what the instruction reads
  pub base_behind : (end : ℕ) → reads_of i n ≡ true → done i y ≡ Ok g → Done end (done i ∷ done (summing up q n k) ∷ done (moving false n q) ∷ []) q y (with_base n (moved up (value y n) imm) g)
  base_behind end r m =
      let o = base_behind_on r m in
      (o.core, record { out = Falls; chain = o.chain; there = ap (goes_on end) (sym falls) }, near_same (only q) _ _ o.near o.clear)
