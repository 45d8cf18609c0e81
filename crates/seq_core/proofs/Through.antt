-- Class Through: by way of a scratch register.
use Rattle.std.proofs.Common.{◌≡◌, ◌≢◌, ℕ, ◌<◌, Bool, true, false, [], ◌∷◌, ◌++◌, length, inl, Some, Ok, Err, refl, sym, ap, ◌∙◌, subst, arith, ne_eqb, eq-eqb}
use Rattle.std.specs.Prelude.{◌==◌, ◌||◌, ◌&&◌, not, if◌then◌else◌}
use Rattle.std.specs.List.{list_any}
use Rattle.std.proofs.lemmas.Bool.{eqb-true}
use Rattle.mark_word.specs.Words.{Word}
use Rattle.thumb_instr.specs.declared.instructions.Instr.{Instr}
use Rattle.thumb_instr.specs.declared.instructions.Instr.TheVariants.{Alu, Move, Test, ShiftBy, Wide, Half, Field, Unary, Mul, MulAcc, LongMul, Div, Access, Pair, Multi, Literal, Adr, Branch, ZeroBranch, Call, Jump, CallReg, It, Nothing, Trap}
use Rattle.thumb_instr.specs.Sets.{reads_of, writes_of, sets_flags_of, keeps_bits, is_store, moves_base, is_source, place_reads_of}
use Rattle.thumb_instr.specs.Fields.{FieldFields, AccessFields}
use Rattle.thumb_instr.specs.declared.operations.AccessOp.{AccessOp}
use Rattle.thumb_instr.specs.declared.operations.AccessOp.TheVariants.{Ldr, Ldrb, Ldrh, Ldrsb, Ldrsh, Str, Strb, Strh}
use Rattle.thumb_instr.specs.declared.places.Place.{Place}
use Rattle.thumb_instr.specs.declared.places.Place.TheVariants.{Offset, Pre, Post, Index}
use Rattle.thumb_table.specs.declared.faults.FaultKind.TheVariants as fault
use Rattle.thumb_table.specs.States.{Core, Change, Falls, applied, read, is_askew, upright}
use Rattle.thumb_table.specs.Effects.{change, writing, accessed, base_write, after_base, access_address, size_of, lies_in}
use Rattle.thumb_table.specs.Steps.{goes_on}
use Rattle.seq_core.specs.Does.{SameBut, Begins}
use Rattle.seq_core.specs.Meanings.{meant, nowhere}
use Rattle.seq_core.specs.Reading.{uses_of}
use Rattle.thumb_instr.specs.MaySet.{may_set_of}
use Rattle.seq_core.specs.Sent.{destination, sent, last_to, unless}
use Rattle.seq_core.specs.Apart.{goes_on_always, IsApart}
use Rattle.seq_core.specs.Sequences.{Reaches, Carries, Settles}
use Rattle.seq_core.specs.Groups.{always, done, no_ends, moving, only, IsFree}
use Rattle.seq_core.specs.Through.{has_one, KeepsFlags, ThroughCarries}
use Rattle.seq_core.proofs.Tests.{same_number}
use Rattle.seq_core.proofs.Written.{upright_is, flags_regs, sign_regs, passed}
use Rattle.seq_core.proofs.Sent.{goes_to, even_of}
use Rattle.seq_core.proofs.Meaning.{meant_quiet, is_trap, change_never_traps}
use Rattle.seq_core.proofs.Twice.{twice_settles}
use Rattle.seq_core.proofs.Near.{Near, near_lost, near_applied, near_same, read_set}

-- A move between registers, one of them below sp.
pub moving_apart : (s : Bool) (d q : ℕ) → q < 13 → d ≢ q → IsApart (moving s d q)
unfolding reads_of writes_of sets_flags_of
moving_apart s d q lt ne = record {
  regs = λ k e. let is : k ≡ q = eqb-true k q (or_none (k == q) e) in let f : k ≢ d = λ (h : k ≡ d). ne (sym h ∙ is) in ne_eqb k d f;
  flags = λ k e.
      let is : k ≡ q = eqb-true k q (or_none (k == q) (or_none ((k == q) || false) e)) in
      let a : k ≢ 16 = λ (h : k ≡ 16). omega arith in
      let b : k ≢ 17 = λ (h : k ≡ 17). omega arith in
      no_flag s (k == 16) (k == 17) (ne_eqb k 16 a) (ne_eqb k 17 b);
}
  where
    or_none : (b : Bool) → (b || false) ≡ true → b ≡ true
    or_none true e = refl
    or_none false e = e

    no_flag : (s a b : Bool) → a ≡ false → b ≡ false → (s && ((a || b) || false)) ≡ false
    no_flag true a b e f = cc
    no_flag false a b e f = refl

-- a move from a register to one below sp
pub moving_away : (q m : ℕ) → q < 13 → m ≢ q → m < 15 → IsApart (moving false q m)
unfolding reads_of writes_of sets_flags_of
moving_away q m lt ne less = record {
  regs = λ k e. let is : k ≡ m = eqb-true k m (or_none (k == m) e) in let f : k ≢ q = λ (h : k ≡ q). ne (sym is ∙ h) in ne_eqb k q f;
  flags = λ k e. refl;
}
  where
    or_none : (b : Bool) → (b || false) ≡ true → b ≡ true
    or_none true e = refl
    or_none false e = e

pub move_other : (q m : ℕ) (x : Core) → q ≢ 13 → done (moving false q m) x ≡ Ok (writing ((q, read x m) ∷ []))
unfolding meant change
move_other q m x ne = ap (λ b. if b then Err fault.BadStack else Ok (writing ((q, read x m) ∷ []))) (other_even q (read x m) ne)
  where
    other_even : (q : ℕ) (w : Word) → q ≢ 13 → list_any is_askew ((q, w) ∷ []) ≡ false
    other_even q w ne = let b : (q == 13) ≡ false = ne_eqb q 13 ne in rw b refl

pub move_low : (q m : ℕ) (x : Core) → q < 13 → done (moving false q m) x ≡ Ok (writing ((q, read x m) ∷ []))
unfolding meant change
move_low q m x lt = ap (λ b. if b then Err fault.BadStack else Ok (writing ((q, read x m) ∷ []))) (low_even q (read x m) lt)
  where
    low_even : (q : ℕ) (w : Word) → q < 13 → list_any is_askew ((q, w) ∷ []) ≡ false
    low_even q w lt = let b : (q == 13) ≡ false = ne_eqb q 13 (λ e. omega arith) in rw b refl

pub move_done : (d q : ℕ) (x : Core) → done (moving false d q) x ≡ upright (writing ((d, read x q) ∷ []))
unfolding meant change
move_done d q x = refl

-- one register gets a word
record Single (d : ℕ) (h : Change) : Type 0 where
  word : Word
  regs : h.regs ≡ (d, word) ∷ []
  even : list_any is_askew ((d, word) ∷ []) ≡ false

single_of : (g h : Change) (c d : ℕ) (w : Word) → g.regs ≡ (c, w) ∷ [] → Some c ≡ Some d → upright g ≡ Ok h → Single d h
single_of g h c d w r e m =
    let same : c ≡ d = cc in
    let here : g.regs ≡ (d, w) ∷ [] = r ∙ ap (λ k. (k, w) ∷ []) same in
    record { word = w; regs = sym (ap (λ (h : Change). h.regs) (upright_is g h m)) ∙ here; even = sym (ap (λ l. list_any is_askew l) here) ∙ even_of g h m }

unless_is : (b : Bool) (c d : ℕ) → b ≡ false → unless b c ≡ Some d → Some c ≡ Some d
unless_is true c d e k = absurd cc
unless_is false c d e k = k

not_true : (b : Bool) → not b ≡ true → b ≡ false
not_true true e = absurd cc
not_true false e = refl

both_not : (a b : Bool) → (not a && not b) ≡ true → (a ≡ false) × (b ≡ false)
both_not true b e = absurd cc
both_not false true e = absurd cc
both_not false false e = (refl, refl)

field_dest : (i : FieldFields) (d : ℕ) → has_one (Field i) ≡ true → destination (Field i) ≡ Some d → Some i.d ≡ Some d
field_dest i d o k = unless_is (keeps_bits i.op) i.d d (not_true (keeps_bits i.op) o) k

no_base : (n : ℕ) (l : Place) (x : Core) → moves_base l ≡ false → base_write n l x ≡ []
no_base n (Offset up imm) x e = refl
no_base n (Pre up imm) x e = absurd cc
no_base n (Post up imm) x e = absurd cc
no_base n (Index m shift) x e = refl

accessed_one : (op : AccessOp) (t a : ℕ) (x : Core) → is_store op ≡ false → (w : Word) × ((accessed op t a x).regs ≡ (t, w) ∷ [])
accessed_one Ldr t a x e = (_, refl)
accessed_one Ldrb t a x e = (_, refl)
accessed_one Ldrh t a x e = (_, refl)
accessed_one Ldrsb t a x e = (_, refl)
accessed_one Ldrsh t a x e = (_, refl)
accessed_one Str t a x e = absurd cc
accessed_one Strb t a x e = absurd cc
accessed_one Strh t a x e = absurd cc

access_single : (i : AccessFields) (x : Core) (h : Change) (d : ℕ) → has_one (Access i) ≡ true → destination (Access i) ≡ Some d → change (Access i) nowhere x ≡ Ok h → Single d h
unfolding change
access_single i x h d o k m =
    let b = both_not (is_store i.op) (moves_base i.place) o in
    let a : ℕ = access_address i.n i.place x in
    let w = accessed_one i.op i.t a x b.0 in
    let g : Change = after_base (base_write i.n i.place x) (accessed i.op i.t a x) in
    let r : g.regs ≡ (i.t, w.0) ∷ [] = ap (λ l. l ++ (accessed i.op i.t a x).regs) (no_base i.n i.place x b.1) ∙ w.1 in
    single_of g h i.t d w.0 r (unless_is (is_store i.op) i.t d b.0 k) (passed (lies_in x.memory a (size_of i.op)) fault.BadAddress (upright g) h m)

single : (i : Instr) (x : Core) (h : Change) (d : ℕ) → has_one i ≡ true → destination i ≡ Some d → change i nowhere x ≡ Ok h → Single d h
unfolding change
single (Alu i) x h d o k m = single_of _ h i.d d _ (flags_regs i.s _ _) k m
single (Move i) x h d o k m = single_of _ h i.d d _ (flags_regs i.s _ _) k m
single (ShiftBy i) x h d o k m = single_of _ h i.d d _ (flags_regs i.s _ _) k m
single (Wide i) x h d o k m = single_of (writing ((i.d, _) ∷ [])) h i.d d _ refl k m
single (Unary i) x h d o k m = single_of (writing ((i.d, _) ∷ [])) h i.d d _ refl k m
single (Mul i) x h d o k m = single_of _ h i.d d _ (sign_regs i.s _ _) k m
single (MulAcc i) x h d o k m = single_of (writing ((i.d, _) ∷ [])) h i.d d _ refl k m
single (Div i) x h d o k m = single_of (writing ((i.d, _) ∷ [])) h i.d d _ refl k m
single (Test i) x h d o k m = absurd cc
single (Half i) x h d o k m = absurd cc
single (Field i) x h d o k m = single_of (writing ((i.d, _) ∷ [])) h i.d d _ refl (field_dest i d o k) m
single (LongMul i) x h d o k m = absurd cc
single (Access i) x h d o k m = access_single i x h d o k m
single (Pair i) x h d o k m = absurd cc
single (Multi i) x h d o k m = absurd cc
single (Literal i) x h d o k m = absurd cc
single (Adr i) x h d o k m = absurd cc
single (Branch i) x h d o k m = absurd cc
single (ZeroBranch i) x h d o k m = absurd cc
single (Call i) x h d o k m = absurd cc
single (Jump i) x h d o k m = absurd cc
single (CallReg i) x h d o k m = absurd cc
single (It i) x h d o k m = absurd cc
single (Nothing i) x h d o k m = absurd cc
single (Trap i) x h d o k m = absurd cc

-- the instruction with the other destination
record Moved (i : Instr) (q : ℕ) : Type 0 where
  plain : (x : Core) → done i x ≡ change i nowhere x
  sent_plain : (x : Core) → done (sent i q) x ≡ change (sent i q) nowhere x
  on : goes_on_always i ≡ true
  sent_on : goes_on_always (sent i q) ≡ true
  reads : (k : ℕ) → reads_of (sent i q) k ≡ reads_of i k
  writes : (k : ℕ) → writes_of (sent i q) k ≡ (k == q)
  uses : (k : ℕ) → uses_of (sent i q) k ≡ uses_of i k
  sets : (k : ℕ) → may_set_of (sent i q) k ≡ may_set_of i k
  target : (d : ℕ) → destination i ≡ Some d → writes_of i d ≡ true
  calm : is_trap i ≡ false

some_is : (a b : ℕ) → Some a ≡ Some b → a ≡ b
some_is a b e = cc

or_none : (b : Bool) → (b || false) ≡ b
or_none true = refl
or_none false = refl

moved_to : (i : Instr) (q : ℕ) → has_one i ≡ true → Moved i q
unfolding meant reads_of writes_of sets_flags_of
moved_to (Alu i) q o = record { plain = λ x. refl; sent_plain = λ x. refl; on = refl; sent_on = refl; reads = λ k. refl; writes = λ k. refl; uses = λ k. refl; sets = λ k. refl; target = λ d e. let s : i.d ≡ d = cc in eq-eqb d i.d (sym s); calm = refl }
moved_to (Move i) q o = record { plain = λ x. refl; sent_plain = λ x. refl; on = refl; sent_on = refl; reads = λ k. refl; writes = λ k. refl; uses = λ k. refl; sets = λ k. refl; target = λ d e. let s : i.d ≡ d = cc in eq-eqb d i.d (sym s); calm = refl }
moved_to (ShiftBy i) q o = record { plain = λ x. refl; sent_plain = λ x. refl; on = refl; sent_on = refl; reads = λ k. refl; writes = λ k. refl; uses = λ k. refl; sets = λ k. refl; target = λ d e. let s : i.d ≡ d = cc in eq-eqb d i.d (sym s); calm = refl }
moved_to (Wide i) q o = record { plain = λ x. refl; sent_plain = λ x. refl; on = refl; sent_on = refl; reads = λ k. refl; writes = λ k. refl; uses = λ k. refl; sets = λ k. refl; target = λ d e. let s : i.d ≡ d = cc in eq-eqb d i.d (sym s); calm = refl }
moved_to (Unary i) q o = record { plain = λ x. refl; sent_plain = λ x. refl; on = refl; sent_on = refl; reads = λ k. refl; writes = λ k. refl; uses = λ k. refl; sets = λ k. refl; target = λ d e. let s : i.d ≡ d = cc in eq-eqb d i.d (sym s); calm = refl }
moved_to (Mul i) q o = record { plain = λ x. refl; sent_plain = λ x. refl; on = refl; sent_on = refl; reads = λ k. refl; writes = λ k. refl; uses = λ k. refl; sets = λ k. refl; target = λ d e. let s : i.d ≡ d = cc in eq-eqb d i.d (sym s); calm = refl }
moved_to (MulAcc i) q o = record { plain = λ x. refl; sent_plain = λ x. refl; on = refl; sent_on = refl; reads = λ k. refl; writes = λ k. refl; uses = λ k. refl; sets = λ k. refl; target = λ d e. let s : i.d ≡ d = cc in eq-eqb d i.d (sym s); calm = refl }
moved_to (Div i) q o = record { plain = λ x. refl; sent_plain = λ x. refl; on = refl; sent_on = refl; reads = λ k. refl; writes = λ k. refl; uses = λ k. refl; sets = λ k. refl; target = λ d e. let s : i.d ≡ d = cc in eq-eqb d i.d (sym s); calm = refl }
moved_to (Test i) q o = absurd cc
moved_to (Half i) q o = absurd cc
moved_to (Field i) q o =
    let b = not_true (keeps_bits i.op) o in
    record {
      plain = λ x. refl;
      sent_plain = λ x. refl;
      on = refl;
      sent_on = refl;
      reads = λ k. ap (λ v. is_source i.n k || (v && (k == q))) b ∙ sym (ap (λ v. is_source i.n k || (v && (k == i.d))) b);
      writes = λ k. refl;
      uses = λ k. ap (λ v. (is_source i.n k || (v && (k == q))) || false) b ∙ sym (ap (λ v. (is_source i.n k || (v && (k == i.d))) || false) b);
      sets = λ k. refl;
      target = λ d e. let s = some_is i.d d (field_dest i d o e) in eq-eqb d i.d (sym s);
      calm = refl;
    }
moved_to (LongMul i) q o = absurd cc
moved_to (Access i) q o =
    let b = both_not (is_store i.op) (moves_base i.place) o in
    record {
      plain = λ x. refl;
      sent_plain = λ x. refl;
      on = refl;
      sent_on = refl;
      reads = λ k. ap (λ v. (k == i.n) || (place_reads_of i.place k || (v && (k == q)))) b.0 ∙ sym (ap (λ v. (k == i.n) || (place_reads_of i.place k || (v && (k == i.t)))) b.0);
      writes = λ k. ap (λ v. (not v && (k == q)) || (moves_base i.place && (k == i.n))) b.0 ∙ ap (λ v. (k == q) || (v && (k == i.n))) b.1 ∙ or_none (k == q);
      uses = λ k. ap (λ v. ((k == i.n) || (place_reads_of i.place k || (v && (k == q)))) || false) b.0 ∙ sym (ap (λ v. ((k == i.n) || (place_reads_of i.place k || (v && (k == i.t)))) || false) b.0);
      sets = λ k. refl;
      target = λ d e.
          let s = some_is i.t d (unless_is (is_store i.op) i.t d b.0 e) in
          ap (λ v. (not v && (d == i.t)) || (moves_base i.place && (d == i.n))) b.0 ∙ ap (λ v. v || (moves_base i.place && (d == i.n))) (eq-eqb d i.t (sym s));
      calm = refl;
    }
moved_to (Pair i) q o = absurd cc
moved_to (Multi i) q o = absurd cc
moved_to (Literal i) q o = absurd cc
moved_to (Adr i) q o = absurd cc
moved_to (Branch i) q o = absurd cc
moved_to (ZeroBranch i) q o = absurd cc
moved_to (Call i) q o = absurd cc
moved_to (Jump i) q o = absurd cc
moved_to (CallReg i) q o = absurd cc
moved_to (It i) q o = absurd cc
moved_to (Nothing i) q o = absurd cc
moved_to (Trap i) q o = absurd cc

module _ (i : Instr) (d q : ℕ) (o : has_one i ≡ true) (k : destination i ≡ Some d) (free : IsFree i q) (keeps : KeepsFlags i) where
  apart_from : q ≢ d
  apart_from e = let t = (moved_to i q o).target d k in let f = ap (λ r. writes_of i r) e in let u = free.unwritten in absurd cc

  sent_apart : IsApart (sent i q)
  sent_apart = let m = moved_to i q o in record {
    regs = λ r e. m.writes r ∙ ne_eqb r q (λ (is : r ≡ q). let a = m.reads r in let b = ap (λ r. reads_of i r) is in let u = free.unread in absurd cc);
    flags = λ r e. m.sets r ∙ keeps r (sym (m.uses r) ∙ e);
  }

  -- CLASS THROUGH: what it does
  through_acts : (end : ℕ) (y : Core) (h : Change) → Begins y → done i y ≡ Ok h → (z : Core) × Reaches Settles end (done (sent i q) ∷ done (moving false d q) ∷ []) y h.exit z × SameBut (only q) (applied h y) z
  through_acts end y h b made =
      let m = moved_to i q o in
      let s = single i y h d o k (sym (m.plain y) ∙ made) in
      let h1 : Change = record h { regs = (q, s.word) ∷ [] } in
      let f1 : done (sent i q) y ≡ Ok h1 = m.sent_plain y ∙ goes_to i nowhere y h d q k free.low (sym (m.plain y) ∙ made) ∙ ap (λ l. Ok (record h { regs = last_to q l })) s.regs in
      let y1 : Core = applied h1 y in
      let there : q < length y.regs = let lt = free.low in let c = b.count in omega arith in
      let held : read y1 q ≡ s.word = read_set y q s.word there in
      let h2 : Change = writing ((d, s.word) ∷ []) in
      let f2 : done (moving false d q) y1 ≡ Ok h2 = move_done d q y1 ∙ ap (λ w. upright (writing ((d, w) ∷ []))) held ∙ ap (λ b. if b then Err fault.BadStack else Ok h2) s.even in
      let t1 = twice_settles (sent i q) no_ends y h1 m.sent_on sent_apart b.clear f1 in
      let t2 = twice_settles (moving false d q) no_ends y1 h2 refl (moving_apart false d q free.low (λ e. apart_from (sym e))) t1.clear f2 in
      let z : Core = applied h2 y1 in
      let falls : h.exit ≡ Falls = (meant_quiet i no_ends y h m.on made).falls in
      let n = near_applied (only q) (record h { regs = (d, s.word) ∷ [] }) y (applied (writing ((q, s.word) ∷ [])) y) (near_lost (only q) y q s.word (same_number q)) in
      let same : applied h y ≡ applied (record h { regs = (d, s.word) ∷ [] }) y = ap (λ l. applied (record h { regs = l }) y) s.regs in
      let near : Near (only q) (applied (record h { regs = (d, s.word) ∷ [] }) y) z = record { count = n.count; regs = n.regs; n = n.n; z = n.z; c = n.c; v = n.v; memory = n.memory } in
      (z, record { out = Falls; chain = inl (y1, t1, inl (z, t2, (refl, refl))); there = ap (goes_on end) (sym falls) }, near_same (only q) (applied h y) z (subst (λ x. Near (only q) x z) (sym same) near) t2.clear)

  pub through_carries : (end : ℕ) → Carries Settles end always (done i) (only q) (done (sent i q) ∷ done (moving false d q) ∷ [])
  through_carries end = record {
    acts = λ y h b t made. through_acts end y h b made;
    rests = λ y b t. absurd cc;
    halts = λ y b t e. let m = moved_to i q o in absurd (change_never_traps i nowhere y m.calm (sym (m.plain y) ∙ e));
  }

pub through_is_done : ThroughCarries
through_is_done i d q end o k free keeps = through_carries i d q o k free keeps end
