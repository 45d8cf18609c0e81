-- What points read and pass on are members.
use Rattle.std.proofs.Common.{◌≡◌, ◌≤◌, ◌<◌, ◌^◌, ℕ, Bool, true, false, List, refl, sym, ap, ◌∙◌, inl, inr, arith, Option, Some, None, nat_le}
use Rattle.std.specs.Prelude.{◌==◌, ◌&&◌, ◌||◌, not, nat_lt, slice_get}
use Rattle.std.proofs.lemmas.Bool.{and_parts, true≢false, eqb-true, cases_lt, le-leb}
use borrow.Author.Tests.{ltb-true}
use Rattle.std.proofs.Math.ListN.{set}
use Rattle.index_links.proofs.Places.{set_cases}
use Rattle.std.proofs.lemmas.Bool.Decides.{nat_tests}
use Rattle.std.proofs.lemmas.Nat.Bits.{bit_at_above}
use Rattle.std.specs.Int.{bit_at}
use Rattle.thumb_instr.specs.declared.register_sets.RegSet.{RegSet}
use Rattle.thumb_instr.specs.declared.operands.Operand.{Operand}
use Rattle.thumb_instr.specs.declared.operands.Operand.TheVariants.{Imm, Reg}
use Rattle.thumb_instr.specs.declared.places.Place.{Place}
use Rattle.thumb_instr.specs.declared.places.Place.TheVariants.{Offset, Pre, Post, Index}
use Rattle.thumb_instr.specs.declared.conditions.Cond.{Cond}
use Rattle.thumb_instr.specs.declared.conditions.Cond.TheVariants.{Eq, Ne, Cs, Cc, Mi, Pl, Vs, Vc, Hi, Ls, Ge, Lt, Gt, Le, Al}
use Rattle.thumb_instr.specs.declared.instructions.Instr.{Instr}
use Rattle.thumb_instr.specs.declared.instructions.Instr.TheVariants.{Alu, Move, Test, ShiftBy, Wide, Half, Field, Unary, Mul, MulAcc, LongMul, Div, Access, Pair, Multi, Literal, Adr, Branch, ZeroBranch, Call, Jump, CallReg, It, Nothing, Trap}
use Rattle.thumb_instr.specs.Operands.{has, is_list}
use Rattle.thumb_instr.specs.Formed.{IsRegister, IsSource, OperandNamesRegisters, PlaceNamesRegisters}
use Rattle.thumb_instr.specs.Sets.{is_member, is_flag, is_negative_flag, is_zero_flag, is_carry_flag, is_overflow_flag, takes_carry_in, operand_reads_of, sums_with_carry, is_source, keeps_bits, accumulates, is_store, place_reads_of, reads_of, cond_reads_of}
use Rattle.flow_recover.specs.declared.flows.Point.{Point}
use Rattle.flow_recover.specs.declared.flows.Exit.{Exit}
use Rattle.flow_recover.specs.declared.flows.Exit.TheVariants as exit
use Rattle.liveness.specs.declared.boundary.Boundary.{Boundary}
use Rattle.liveness.specs.Paths.{branch_cond, reads_at, always_writes, passes, boundary_of, uses_at}
use Rattle.liveness.specs.Sets.{has_in, successors_hold, gains}
use Rattle.liveness.specs.Members.{ReadsRegisters, HoldMembers}
use Rattle.liveness.proofs.PathFacts.{or_cases, or_left, or_right, successor_leads}

any : (x y : Bool) (k : ℕ) → (x ≡ true → is_member k ≡ true) → (y ≡ true → is_member k ≡ true) → (x || y) ≡ true → is_member k ≡ true
any x y k f g h = elim (or_cases x y h) [
  | inl l ↦ f l
  | inr r ↦ g r
]

where_so : (x y : Bool) (k : ℕ) → (y ≡ true → is_member k ≡ true) → (x && y) ≡ true → is_member k ≡ true
where_so x y k f h = f (and_parts x y h).1

none : (k : ℕ) → false ≡ true → is_member k ≡ true
none k h = absurd (true≢false (sym h))

register : (n k : ℕ) → IsRegister n → (k == n) ≡ true → is_member k ≡ true
register n k low h = let e : k ≡ n = eqb-true k n h in or_left (nat_le k 14) (is_flag k) (le-leb k 14 (omega arith))

flag : (k : ℕ) → is_flag k ≡ true → is_member k ≡ true
flag k h = or_right (nat_le k 14) (is_flag k) h

negative : (k : ℕ) → is_negative_flag k ≡ true → is_member k ≡ true
negative k h = flag k (or_left (is_negative_flag k) (is_zero_flag k || (is_carry_flag k || is_overflow_flag k)) h)

zero_flag : (k : ℕ) → is_zero_flag k ≡ true → is_member k ≡ true
zero_flag k h = flag k (or_right (is_negative_flag k) (is_zero_flag k || (is_carry_flag k || is_overflow_flag k)) (or_left (is_zero_flag k) (is_carry_flag k || is_overflow_flag k) h))

carry : (k : ℕ) → is_carry_flag k ≡ true → is_member k ≡ true
carry k h = flag k (or_right (is_negative_flag k) (is_zero_flag k || (is_carry_flag k || is_overflow_flag k)) (or_right (is_zero_flag k) (is_carry_flag k || is_overflow_flag k) (or_left (is_carry_flag k) (is_overflow_flag k) h)))

overflow : (k : ℕ) → is_overflow_flag k ≡ true → is_member k ≡ true
overflow k h = flag k (or_right (is_negative_flag k) (is_zero_flag k || (is_carry_flag k || is_overflow_flag k)) (or_right (is_zero_flag k) (is_carry_flag k || is_overflow_flag k) (or_right (is_carry_flag k) (is_overflow_flag k) h)))

operand : (x : Operand) (k : ℕ) → OperandNamesRegisters x → operand_reads_of x k ≡ true → is_member k ≡ true
operand (Imm imm12) k low h = none k h
operand (Reg m kind amount) k low h = any (k == m) (takes_carry_in kind && is_carry_flag k) k (register m k low) (where_so (takes_carry_in kind) (is_carry_flag k) k (carry k)) h

source : (n : Option ℕ) (k : ℕ) → IsSource n → is_source n k ≡ true → is_member k ≡ true
source None k low h = none k h
source (Some n) k low h = register n k low h

place : (p : Place) (k : ℕ) → PlaceNamesRegisters p → place_reads_of p k ≡ true → is_member k ≡ true
place (Offset up imm) k low h = none k h
place (Pre up imm) k low h = none k h
place (Post up imm) k low h = none k h
place (Index m shift) k low h = register m k low h

above_none : (list k : ℕ) → list < 2 ^ 15 → 15 ≤ k → has list k ≡ false
unfolding has
above_none list k small high = let z : bit_at list k ≡ 0 = bit_at_above list 15 k small high in grind (arith, nat_tests)

listed : (list : ℕ) (pc : Bool) (k : ℕ) → is_list list pc ≡ true → has list k ≡ true → is_member k ≡ true
listed list pc k is h = elim (cases_lt k 15) [
  | inl low ↦ or_left (nat_le k 14) (is_flag k) (le-leb k 14 (omega arith))
  | inr high ↦ absurd (true≢false (sym h ∙ above_none list k small high))
]
  where
    small : list < 2 ^ 15
    small = ltb-true list (2 ^ 15) (and_parts (nat_lt list (2 ^ 15)) (not (has list 13)) (and_parts (nat_lt list (2 ^ 15) && not (has list 13)) (nat_lt 0 list || pc) is).0).0

pub reads_member : (i : Instr) → ReadsRegisters i → (k : ℕ) → reads_of i k ≡ true → is_member k ≡ true
unfolding reads_of
reads_member (Alu i) low k h = any (k == i.n) (operand_reads_of i.x k || (sums_with_carry i.op && is_carry_flag k)) k (register i.n k low.0) (any (operand_reads_of i.x k) (sums_with_carry i.op && is_carry_flag k) k (operand i.x k low.1) (where_so (sums_with_carry i.op) (is_carry_flag k) k (carry k))) h
reads_member (Move i) low k h = operand i.x k low h
reads_member (Test i) low k h = any (k == i.n) (operand_reads_of i.x k) k (register i.n k low.0) (operand i.x k low.1) h
reads_member (ShiftBy i) low k h = any (k == i.n) (k == i.m) k (register i.n k low.0) (register i.m k low.1) h
reads_member (Wide i) low k h = register i.n k low h
reads_member (Half i) low k h = where_so i.top (k == i.d) k (register i.d k low) h
reads_member (Field i) low k h = any (is_source i.n k) (keeps_bits i.op && (k == i.d)) k (source i.n k low.1) (where_so (keeps_bits i.op) (k == i.d) k (register i.d k low.0)) h
reads_member (Unary i) low k h = register i.m k low h
reads_member (Mul i) low k h = any (k == i.n) (k == i.m) k (register i.n k low.0) (register i.m k low.1) h
reads_member (MulAcc i) low k h = any (k == i.n) ((k == i.m) || (k == i.a)) k (register i.n k low.0) (any (k == i.m) (k == i.a) k (register i.m k low.1) (register i.a k low.2)) h
reads_member (LongMul i) low k h = any (k == i.n) ((k == i.m) || (accumulates i.op && ((k == i.lo) || (k == i.hi)))) k (register i.n k low.0) (any (k == i.m) (accumulates i.op && ((k == i.lo) || (k == i.hi))) k (register i.m k low.1) (where_so (accumulates i.op) ((k == i.lo) || (k == i.hi)) k (any (k == i.lo) (k == i.hi) k (register i.lo k low.2) (register i.hi k low.3)))) h
reads_member (Div i) low k h = any (k == i.n) (k == i.m) k (register i.n k low.0) (register i.m k low.1) h
reads_member (Access i) low k h = any (k == i.n) (place_reads_of i.place k || (is_store i.op && (k == i.t))) k (register i.n k low.0) (any (place_reads_of i.place k) (is_store i.op && (k == i.t)) k (place i.place k low.2) (where_so (is_store i.op) (k == i.t) k (register i.t k low.1))) h
reads_member (Pair i) low k h = any (k == i.n) (not i.load && ((k == i.t) || (k == i.u))) k (register i.n k low.0) (where_so (not i.load) ((k == i.t) || (k == i.u)) k (any (k == i.t) (k == i.u) k (register i.t k low.1) (register i.u k low.2))) h
reads_member (Multi i) low k h = any (k == i.n) (not i.load && has i.list.0 k) k (register i.n k low.0) (where_so (not i.load) (has i.list.0 k) k (listed i.list.0 i.pc k low.1)) h
reads_member (Literal i) low k h = none k h
reads_member (Adr i) low k h = none k h
reads_member (Branch i) low k h = none k h
reads_member (ZeroBranch i) low k h = register i.n k low h
reads_member (Call i) low k h = none k h
reads_member (Jump i) low k h = register i.m k low h
reads_member (CallReg i) low k h = register i.m k low h
reads_member (It i) low k h = none k h
reads_member (Nothing i) low k h = none k h
reads_member (Trap i) low k h = none k h

condition : (c : Cond) (k : ℕ) → cond_reads_of c k ≡ true → is_member k ≡ true
condition Eq k h = zero_flag k h
condition Ne k h = zero_flag k h
condition Cs k h = carry k h
condition Cc k h = carry k h
condition Mi k h = negative k h
condition Pl k h = negative k h
condition Vs k h = overflow k h
condition Vc k h = overflow k h
condition Hi k h = any (is_carry_flag k) (is_zero_flag k) k (carry k) (zero_flag k) h
condition Ls k h = any (is_carry_flag k) (is_zero_flag k) k (carry k) (zero_flag k) h
condition Ge k h = any (is_negative_flag k) (is_overflow_flag k) k (negative k) (overflow k) h
condition Lt k h = any (is_negative_flag k) (is_overflow_flag k) k (negative k) (overflow k) h
condition Gt k h = any (is_zero_flag k) (is_negative_flag k || is_overflow_flag k) k (zero_flag k) (any (is_negative_flag k) (is_overflow_flag k) k (negative k) (overflow k)) h
condition Le k h = any (is_zero_flag k) (is_negative_flag k || is_overflow_flag k) k (zero_flag k) (any (is_negative_flag k) (is_overflow_flag k) k (negative k) (overflow k)) h
condition Al k h = none k h

boundary : (b : Boundary) (e : Exit) (k : ℕ) → boundary_of b e k ≡ true → is_member k ≡ true
boundary b exit.Falls k h = none k h
boundary b (exit.Branch q) k h = none k h
boundary b exit.Transfer k h = (and_parts (is_member k) (has b.transfer.0 k) h).0
boundary b exit.Call k h = (and_parts (is_member k) (has b.call.0 k) h).0
boundary b exit.Return k h = (and_parts (is_member k) (has b.ret.0 k) h).0
boundary b exit.Stops k h = none k h

pub gains_member : (b : Boundary) (sets : List RegSet) (x : Point) → HoldMembers sets → ((k : ℕ) → reads_of x.instr k ≡ true → is_member k ≡ true) → (k : ℕ) → gains b sets x k ≡ true → is_member k ≡ true
gains_member b sets x hold reads k h =
    any (uses_at b x k) (passes x && (successors_hold sets x k && not (always_writes x k))) k
    (any (reads_at x k) (boundary_of b x.exit k && not (always_writes x k)) k
    (any (reads_of x.instr k) (cond_reads_of x.cond k || cond_reads_of (branch_cond x.instr) k) k (reads k) (any (cond_reads_of x.cond k) (cond_reads_of (branch_cond x.instr) k) k (condition x.cond k) (condition (branch_cond x.instr) k)))
    (λ e. boundary b x.exit k (and_parts (boundary_of b x.exit k) (not (always_writes x k)) e).0))
    (λ e. let held = (and_parts (successors_hold sets x k) (not (always_writes x k)) (and_parts (passes x) (successors_hold sets x k && not (always_writes x k)) e).1).0 in let w = successor_leads sets x k held in hold w.0 k w.2)
    h

-- a set that is written holds members where the old ones did and its own are
pub set_members : (sets : List RegSet) (p : ℕ) (s : RegSet) → HoldMembers sets → ((k : ℕ) → has s.0 k ≡ true → is_member k ≡ true) → HoldMembers (set sets p s)
set_members sets p s hold own = λ q k h. go q k (slice_get (set sets p s) q) refl h
  where
    go : (q k : ℕ) (o : Option RegSet) → slice_get (set sets p s) q ≡ o → has_in o k ≡ true → is_member k ≡ true
    go q k None at h = absurd (true≢false (sym h))
    go q k (Some t) at h = elim (set_cases sets p q s t at) [
      | inl here ↦ own k (ap (λ (r : RegSet). has r.0 k) here.1 ∙ h)
      | inr other ↦ hold q k (ap (λ (o : Option RegSet). has_in o k) other.1 ∙ h)
    ]
