-- What the rows give suffices for Twice and Through.
use Rattle.std.proofs.Common.{◌≡◌, ℕ, Bool, true, false, refl, sym}
use Rattle.std.specs.Prelude.{◌==◌, ◌||◌}
use Rattle.thumb_instr.specs.declared.instructions.Instr.{Instr}
use Rattle.thumb_instr.specs.declared.instructions.Instr.TheVariants.{Alu, Move, Test, ShiftBy, Wide, Half, Field, Unary, Mul, MulAcc, LongMul, Div, Access, Pair, Multi, Literal, Adr, Branch, ZeroBranch, Call, Jump, CallReg, It, Nothing, Trap}
use Rattle.thumb_instr.specs.Idempotence.{fills_in}
use Rattle.thumb_instr.specs.Sets.{writes_of, is_source}
use Rattle.thumb_instr.proofs.Decoded.{decode_formed, decode_carry}
use Rattle.seq_core.specs.Accepted.{misplaces_stack}
use Rattle.seq_core.specs.Apart.{goes_on_always}
use Rattle.seq_core.specs.Through.{has_one}
use Rattle.seq_core.specs.Decoded.{IdempotentDecodes, ThroughDecodes}
use Rattle.seq_core.proofs.DecodesApart.{decodes_apart}
use Rattle.seq_core.proofs.InPlace.{in_place, flags_apart, not_tested}
use Rattle.seq_core.proofs.Through.{through_is_done}
use Rattle.std.proofs.lemmas.Bool.{eqb-true, eq-eqb}

turned : (a b : ℕ) → (a == b) ≡ false → (b == a) ≡ false
turned a b e = go (b == a) refl
  where
    go : (c : Bool) → (b == a) ≡ c → c ≡ false
    go true f = let s : (a == b) ≡ true = eq-eqb a b (sym (eqb-true b a f)) in absurd cc
    go false f = refl

first_false : (a b : Bool) → (a || b) ≡ false → a ≡ false
first_false true b e = absurd cc
first_false false b e = refl

-- bits that are filled in aren't of sp
fills_elsewhere : (i : Instr) → misplaces_stack i ≡ false → fills_in i ≡ true → writes_of i 13 ≡ false
unfolding writes_of
fills_elsewhere (Half i) m f = turned i.d 13 m
fills_elsewhere (Field i) m f = turned i.d 13 (first_false (i.d == 13) (is_source i.n 13) m)
fills_elsewhere (Alu i) m f = absurd cc
fills_elsewhere (Move i) m f = absurd cc
fills_elsewhere (Test i) m f = absurd cc
fills_elsewhere (ShiftBy i) m f = absurd cc
fills_elsewhere (Wide i) m f = absurd cc
fills_elsewhere (Unary i) m f = absurd cc
fills_elsewhere (Mul i) m f = absurd cc
fills_elsewhere (MulAcc i) m f = absurd cc
fills_elsewhere (LongMul i) m f = absurd cc
fills_elsewhere (Div i) m f = absurd cc
fills_elsewhere (Access i) m f = absurd cc
fills_elsewhere (Pair i) m f = absurd cc
fills_elsewhere (Multi i) m f = absurd cc
fills_elsewhere (Literal i) m f = absurd cc
fills_elsewhere (Adr i) m f = absurd cc
fills_elsewhere (Branch i) m f = absurd cc
fills_elsewhere (ZeroBranch i) m f = absurd cc
fills_elsewhere (Call i) m f = absurd cc
fills_elsewhere (Jump i) m f = absurd cc
fills_elsewhere (CallReg i) m f = absurd cc
fills_elsewhere (It i) m f = absurd cc
fills_elsewhere (Nothing i) m f = absurd cc
fills_elsewhere (Trap i) m f = absurd cc

pub idempotent_decodes : IdempotentDecodes
idempotent_decodes place first second i e end d idempotent = in_place i e end (record {
  formed = decode_formed place first second i d;
  idempotent = idempotent;
  carry = decode_carry place first second i d;
  stack = fills_elsewhere i (decodes_apart place first second i d).1;
})

one_goes_on : (i : Instr) → has_one i ≡ true → goes_on_always i ≡ true
one_goes_on (Alu i) o = refl
one_goes_on (Move i) o = refl
one_goes_on (Test i) o = absurd cc
one_goes_on (ShiftBy i) o = refl
one_goes_on (Wide i) o = refl
one_goes_on (Half i) o = absurd cc
one_goes_on (Field i) o = refl
one_goes_on (Unary i) o = refl
one_goes_on (Mul i) o = refl
one_goes_on (MulAcc i) o = refl
one_goes_on (LongMul i) o = absurd cc
one_goes_on (Div i) o = refl
one_goes_on (Access i) o = refl
one_goes_on (Pair i) o = absurd cc
one_goes_on (Multi i) o = absurd cc
one_goes_on (Literal i) o = absurd cc
one_goes_on (Adr i) o = absurd cc
one_goes_on (Branch i) o = absurd cc
one_goes_on (ZeroBranch i) o = absurd cc
one_goes_on (Call i) o = absurd cc
one_goes_on (Jump i) o = absurd cc
one_goes_on (CallReg i) o = absurd cc
one_goes_on (It i) o = absurd cc
one_goes_on (Nothing i) o = absurd cc
one_goes_on (Trap i) o = absurd cc

pub through_decodes : ThroughDecodes
through_decodes place first second i d q end e o k free =
    let f = decode_formed place first second i e in
    let c = decode_carry place first second i e in
    through_is_done i d q end o k free (λ r u. flags_apart i r f.registers c (not_tested i r (one_goes_on i o) u))
