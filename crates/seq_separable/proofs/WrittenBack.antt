-- Accesses that move their base move it by way of a scratch register.
use Rattle.std.proofs.Common.{◌≡◌, ◌≢◌, ℕ, ◌<◌, ◌≤◌, ◌==◌, ◌||◌, Bool, true, false, [], ◌∷◌, refl, sym, arith}
use Rattle.std.specs.Prelude.{map, ◌&&◌, not, nat_lt}
use Rattle.thumb_instr.specs.declared.operations.AccessOp.{AccessOp}
use Rattle.thumb_instr.specs.declared.places.Place.{Place}
use Rattle.thumb_instr.specs.declared.places.Place.TheVariants.{Offset, Pre, Post, Index}
use Rattle.thumb_instr.specs.declared.places.PairIndex.{PairIndex}
use Rattle.thumb_instr.specs.declared.places.PairIndex.TheVariants as index
use Rattle.thumb_instr.specs.declared.refusals.ItPlace.TheVariants.{Outside}
use Rattle.thumb_instr.specs.declared.instructions.Instr.{Instr}
use Rattle.thumb_instr.specs.declared.instructions.Instr.TheVariants.{Access, Pair}
use Rattle.thumb_instr.specs.Fields.{AccessFields, PairFields}
use Rattle.thumb_instr.specs.Operands.{is_pair_offset}
use Rattle.thumb_instr.specs.Meanings.{constant_of}
use Rattle.thumb_instr.specs.Sets.{reads_of, writes_of, is_store, moves_base, moves_pair_base, place_reads_of}
use Rattle.thumb_encode.specs.HasFull.{has_full}
use Rattle.seq_core.specs.declared.classes.Class.TheVariants as class
use Rattle.seq_core.specs.Accepted.{DecodesLoadSeveral, DecodesMoveByBytes, loads_several, place_moves_by_byte, place_names_stack}
use Rattle.seq_core.specs.Constants.{MovesAreConstants, is_move}
use Rattle.seq_core.specs.Coded.{AccessesCoded, MovesCoded, SumsCoded}
use Rattle.seq_core.specs.Sequences.{Carries, Settles}
use Rattle.seq_core.specs.Groups.{always, done, only, moving}
use Rattle.seq_core.specs.Bases.{IsBeside, PostAccessCarries, PostPairCarries, PreAccessCarries, PrePairCarries, access_at, pair_at, summing}
use Rattle.seq_core.specs.Built.{as_steps}
use Rattle.seq_core.specs.Straight.{around, around_pair, written_back}
use Rattle.seq_core.specs.Builders.{AreCoded, CanBuild, HasRow, NameNoPlace, loses}
use Rattle.seq_separable.proofs.Lost.{Works, either, one_lost}
use Rattle.seq_separable.proofs.Known.{Laws, and_false, differs, no_both, no_stack, not_true, small}

pub record BackLaws : Type 0 where
  pub pre_accesses : PreAccessCarries
  pub post_accesses : PostAccessCarries
  pub pre_pairs : PrePairCarries
  pub post_pairs : PostPairCarries
  pub constants : MovesAreConstants
  pub bytes : DecodesMoveByBytes
  pub several : DecodesLoadSeveral
  pub moves : MovesCoded
  pub sums : SumsCoded
  pub accesses : AccessesCoded

byte_moves : (imm : ℕ) → nat_lt imm 256 ≡ true → is_move imm ≡ true
byte_moves imm e = rw e refl

offset_moves : (imm : ℕ) → is_pair_offset imm ≡ true → is_move imm ≡ true
offset_moves imm e = rw e (or_true (nat_lt imm 256))
  where
    or_true : (b : Bool) → (b || true) ≡ true
    or_true true = refl
    or_true false = refl

-- a register that a load puts its word into, or that a store takes it from
transferred : (s b : Bool) → (s && b) ≡ false → (not s && b) ≡ false → b ≡ false
transferred true b e f = e
transferred false b e f = f

step_coded : BackLaws → (up : Bool) (q n imm : ℕ) → is_move imm ≡ true → q < 13 → n ≤ 14 → HasRow (summing up q n (constant_of imm))
step_coded b up q n imm m low ln = b.sums up q n (constant_of imm) low ln (b.constants imm m).1

back_coded : BackLaws → (n q : ℕ) → q < 13 → n ≤ 14 → HasRow (moving false n q)
back_coded b n q low ln = b.moves n q ln (small q low) (no_both (n == 13) (q == 13) (no_stack q low))

-- OF ONE REGISTER

access_carries : BackLaws → (op : AccessOp) (t n q : ℕ) (place : Place) (end : ℕ) → moves_base place ≡ true → place_moves_by_byte place ≡ true → IsBeside n q → t ≢ n → t ≢ q →
    Carries Settles end always (done (Access (record { op = op; t = t; n = n; place = place }))) (only q) (map done (around place q n (access_at op t n)))
access_carries b op t n q (Offset up imm) end m byte beside tn tq = absurd cc
access_carries b op t n q (Pre up imm) end m byte beside tn tq = b.pre_accesses op t n q (constant_of imm) imm end up beside tn tq (b.constants imm (byte_moves imm byte)).0
access_carries b op t n q (Post up imm) end m byte beside tn tq = b.post_accesses op t n q (constant_of imm) imm end up beside tn tq (b.constants imm (byte_moves imm byte)).0
access_carries b op t n q (Index m shift) end moves byte beside tn tq = absurd cc

access_coded : BackLaws → (op : AccessOp) (t n q : ℕ) (place : Place) (copies : ℕ) → place_moves_by_byte place ≡ true → q < 13 → n ≤ 14 → t ≤ 14 → t ≢ 13 →
    AreCoded (as_steps copies (around place q n (access_at op t n)))
access_coded b op t n q (Offset up imm) copies byte low ln lt stack = tt
access_coded b op t n q (Pre up imm) copies byte low ln lt stack = (step_coded b up q n imm (byte_moves imm byte) low ln, (back_coded b n q low ln, (b.accesses op t n lt stack ln, tt)))
access_coded b op t n q (Post up imm) copies byte low ln lt stack = (b.accesses op t n lt stack ln, (step_coded b up q n imm (byte_moves imm byte) low ln, (back_coded b n q low ln, tt)))
access_coded b op t n q (Index m shift) copies byte low ln lt stack = tt

around_plain : (op : AccessOp) (t n q : ℕ) (place : Place) → NameNoPlace (around place q n (access_at op t n))
around_plain op t n q (Offset up imm) = tt
around_plain op t n q (Pre up imm) = (refl, (refl, (refl, tt)))
around_plain op t n q (Post up imm) = (refl, (refl, (refl, tt)))
around_plain op t n q (Index m shift) = tt

access_works : Laws → BackLaws → (i : AccessFields) (q copies : ℕ) → CanBuild class.WriteBack (Access i) (q ∷ []) copies → Works class.WriteBack (Access i) copies (q ∷ [])
unfolding reads_of writes_of
access_works laws b i q copies can =
    let row = can.row in
    let named = (laws.formed Outside row.first row.second (Access i) row.stands).registers in
    let apart = laws.apart Outside row.first row.second (Access i) row.stands in
    let byte : place_moves_by_byte i.place ≡ true = b.bytes Outside row.first row.second (Access i) row.stands in
    let free = can.free.0 in
    let reads = either (q == i.n) (place_reads_of i.place q || (is_store i.op && (q == i.t))) free.unread in
    let stored = either (place_reads_of i.place q) (is_store i.op && (q == i.t)) reads.1 in
    let written = either (not (is_store i.op) && (q == i.t)) (moves_base i.place && (q == i.n)) free.unwritten in
    let tq : i.t ≢ q = differs q i.t (transferred (is_store i.op) (q == i.t) stored.1 written.0) in
    let tn : i.t ≢ i.n = differs i.n i.t (and_false (moves_base i.place) (i.n == i.t) (not_true (moves_base i.place && (i.n == i.t)) apart.0) can.of) in
    let t_low : i.t ≤ 14 = named.0 in
    let n_low : i.n ≤ 14 = named.1 in
    let t_not : (i.t == 13) ≡ false = (either (i.t == 13) (place_names_stack i.place) apart.1).0 in
    let stack : i.t ≢ 13 = λ e. differs_from i.t 13 t_not e in
    let beside : IsBeside i.n q = record { low = free.low; base = omega arith; apart = differs q i.n reads.0 } in (
      laws.plain (Access i) copies (written_back (Access i) q) (only q) (loses (Access i) (q ∷ [])) refl refl (around_plain i.op i.t i.n q i.place) (one_lost (Access i) q)
          (λ end. access_carries b i.op i.t i.n q i.place end can.of byte beside tn tq),
      access_coded b i.op i.t i.n q i.place copies byte free.low n_low t_low stack,
    )
  where
    differs_from : (a c : ℕ) → (a == c) ≡ false → a ≢ c
    differs_from a c e s = differs a c e (sym s)

-- OF TWO

pair_carries : BackLaws → (load : Bool) (t u n q imm end : ℕ) (up : Bool) (index : PairIndex) → moves_pair_base index ≡ true → is_move imm ≡ true → IsBeside n q → t ≢ n → u ≢ n → t ≢ q → u ≢ q →
    Carries Settles end always (done (Pair (record { load = load; t = t; u = u; n = n; up = up; imm = imm; index = index }))) (only q) (map done (around_pair index up imm q n (pair_at load t u n)))
pair_carries b load t u n q imm end up index.Offset moves m beside tn un tq uq = absurd cc
pair_carries b load t u n q imm end up index.Pre moves m beside tn un tq uq = b.pre_pairs load t u n q (constant_of imm) imm end up beside tn un tq uq (b.constants imm m).0
pair_carries b load t u n q imm end up index.Post moves m beside tn un tq uq = b.post_pairs load t u n q (constant_of imm) imm end up beside tn un tq uq (b.constants imm m).0

pair_coded : BackLaws → (load : Bool) (t u n q imm : ℕ) (up : Bool) (index : PairIndex) (copies : ℕ) → HasRow (pair_at load t u n) → is_move imm ≡ true → q < 13 → n ≤ 14 →
    AreCoded (as_steps copies (around_pair index up imm q n (pair_at load t u n)))
pair_coded b load t u n q imm up index.Offset copies at m low ln = tt
pair_coded b load t u n q imm up index.Pre copies at m low ln = (step_coded b up q n imm m low ln, (back_coded b n q low ln, (at, tt)))
pair_coded b load t u n q imm up index.Post copies at m low ln = (at, (step_coded b up q n imm m low ln, (back_coded b n q low ln, tt)))

pair_plain : (load : Bool) (t u n q imm : ℕ) (up : Bool) (index : PairIndex) → NameNoPlace (around_pair index up imm q n (pair_at load t u n))
pair_plain load t u n q imm up index.Offset = tt
pair_plain load t u n q imm up index.Pre = (refl, (refl, (refl, tt)))
pair_plain load t u n q imm up index.Post = (refl, (refl, (refl, tt)))

pair_row : Laws → (load : Bool) (t u n : ℕ) → t ≤ 14 → u ≤ 14 → n ≤ 14 → (t == 13) ≡ false → (u == 13) ≡ false → not (load && (t == u)) ≡ true → HasRow (pair_at load t u n)
unfolding has_full
pair_row laws load t u n lt lu ln ts us several = laws.rows (pair_at load t u n) (lt, lu, ln) refl (rw (ts, us, several) refl)

pair_works : Laws → BackLaws → (i : PairFields) (q copies : ℕ) → CanBuild class.WriteBack (Pair i) (q ∷ []) copies → Works class.WriteBack (Pair i) copies (q ∷ [])
unfolding reads_of writes_of
pair_works laws b i q copies can =
    let row = can.row in
    let formed = laws.formed Outside row.first row.second (Pair i) row.stands in
    let named = formed.registers in
    let m : is_move i.imm ≡ true = offset_moves i.imm formed.fields in
    let apart = laws.apart Outside row.first row.second (Pair i) row.stands in
    let several : loads_several (Pair i) ≡ true = b.several Outside row.first row.second (Pair i) row.stands in
    let free = can.free.0 in
    let both_of : Bool = (q == i.t) || (q == i.u) in
    let reads = either (q == i.n) (not i.load && both_of) free.unread in
    let written = either (i.load && both_of) (moves_pair_base i.index && (q == i.n)) free.unwritten in
    let apart_q = either (q == i.t) (q == i.u) (transferred i.load both_of written.0 reads.1) in
    let apart_n = either (i.n == i.t) (i.n == i.u) (and_false (moves_pair_base i.index) ((i.n == i.t) || (i.n == i.u)) (not_true (moves_pair_base i.index && ((i.n == i.t) || (i.n == i.u))) apart.0) can.of) in
    let stack = either (i.t == 13) (i.u == 13) apart.1 in
    let n_low : i.n ≤ 14 = named.2 in
    let beside : IsBeside i.n q = record { low = free.low; base = omega arith; apart = differs q i.n reads.0 } in (
      laws.plain (Pair i) copies (written_back (Pair i) q) (only q) (loses (Pair i) (q ∷ [])) refl refl (pair_plain i.load i.t i.u i.n q i.imm i.up i.index) (one_lost (Pair i) q)
          (λ end. pair_carries b i.load i.t i.u i.n q i.imm end i.up i.index can.of m beside (differs i.n i.t apart_n.0) (differs i.n i.u apart_n.1) (differs q i.t apart_q.0) (differs q i.u apart_q.1)),
      pair_coded b i.load i.t i.u i.n q i.imm i.up i.index copies (pair_row laws i.load i.t i.u i.n named.0 named.1 n_low stack.0 stack.1 several) m free.low n_low,
    )

pub written_works : Laws → BackLaws → (i : Instr) (q copies : ℕ) → CanBuild class.WriteBack i (q ∷ []) copies → Works class.WriteBack i copies (q ∷ [])
written_works laws b (Access i) q copies can = access_works laws b i q copies can
written_works laws b (Pair i) q copies can = pair_works laws b i q copies can
written_works laws b i q copies can = let none = can.of in absurd cc
