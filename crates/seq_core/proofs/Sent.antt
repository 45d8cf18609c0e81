-- An instruction gives the same value and the same flags when its result goes to another register.
use Rattle.std.proofs.Common.{◌≡◌, ℕ, ◌+◌, ◌*◌, ◌^◌, ◌<◌, Bool, true, false, List, [], ◌∷◌, ◌++◌, Option, Some, Ok, Err, refl, sym, ap, ◌∙◌, arith}
use Rattle.std.specs.Prelude.{◌==◌, if◌then◌else◌}
use Rattle.std.specs.List.{list_any}
use Rattle.std.proofs.lemmas.Bool.{ne_eqb, or_parts, or_from}
use Rattle.mark_word.specs.Words.{Word}
use Rattle.thumb_instr.specs.declared.operations.FieldOp.{FieldOp}
use Rattle.thumb_instr.specs.declared.operations.FieldOp.TheVariants.{Sbfx, Ubfx, Bfi, Bfc}
use Rattle.thumb_instr.specs.declared.operations.LongMulOp.{LongMulOp}
use Rattle.thumb_instr.specs.declared.operations.LongMulOp.TheVariants.{Smull, Umull, Smlal, Umlal}
use Rattle.thumb_instr.specs.declared.operations.AccessOp.{AccessOp}
use Rattle.thumb_instr.specs.declared.operations.AccessOp.TheVariants.{Ldr, Ldrb, Ldrh, Ldrsb, Ldrsh, Str, Strb, Strh}
use Rattle.thumb_instr.specs.declared.instructions.Instr.{Instr}
use Rattle.thumb_instr.specs.declared.instructions.Instr.TheVariants.{Alu, Move, Test, ShiftBy, Wide, Half, Field, Unary, Mul, MulAcc, LongMul, Div, Access, Pair, Multi, Literal, Adr, Branch, ZeroBranch, Call, Jump, CallReg, It, Nothing, Trap}
use Rattle.thumb_instr.specs.Fields.{AccessFields, FieldFields, HalfFields, LiteralFields, LongMulFields}
use Rattle.thumb_instr.specs.Sets.{is_store, keeps_bits, accumulates}
use Rattle.thumb_table.specs.declared.faults.FaultKind.TheVariants.{BadStack, BadAddress}
use Rattle.thumb_table.specs.States.{Core, Site, Change, upright, unchanged, is_askew}
use Rattle.thumb_table.specs.Values.{Computed, long_product, wrapped}
use Rattle.thumb_table.specs.Effects.{change, value, with_flags, with_sign, writing, plain_write, accessed, after_base, base_write, access_address, size_of, lies_in, half_word, field_value, two_words}
use Rattle.seq_core.specs.Sent.{destination, sent, last_to, redirected, low_redirected, first_to, unless}
use Rattle.seq_core.proofs.Written.{upright_is}

not_sp : (q : ℕ) (w : Word) → q < 13 → is_askew (q, w) ≡ false
not_sp q w lt = let e : (q == 13) ≡ false = ne_eqb q 13 (λ e. omega arith) in rw e refl

pub even_of : (g h : Change) → upright g ≡ Ok h → list_any is_askew g.regs ≡ false
even_of g h e = go (list_any is_askew g.regs) e
  where
    go : (b : Bool) → (if b then Err BadStack else Ok g) ≡ Ok h → b ≡ false
    go true k = cc
    go false k = refl

last_even : (q : ℕ) → q < 13 → (ws : List (ℕ × Word)) → list_any is_askew ws ≡ false → list_any is_askew (last_to q ws) ≡ false
last_even q lt [] e = refl
last_even q lt (w ∷ []) e = or_from (is_askew (q, w.1)) false (not_sp q w.1 lt) refl
last_even q lt (w ∷ v ∷ ws) e = let p = or_parts (is_askew w) (list_any is_askew (v ∷ ws)) e in or_from (is_askew w) _ p.0 (last_even q lt (v ∷ ws) p.1)

-- where the other change is the first one redirected
upright_sent : (q : ℕ) (g f h : Change) → q < 13 → f ≡ redirected q g → upright g ≡ Ok h → upright f ≡ Ok (redirected q h)
upright_sent q g f h lt d e =
    let k : redirected q g ≡ redirected q h = ap (redirected q) (upright_is g h e) in
    let b : list_any is_askew (last_to q g.regs) ≡ false = last_even q lt g.regs (even_of g h e) in
    ap upright d ∙ ap (λ b. if b then Err BadStack else Ok (redirected q g)) b ∙ ap Ok k

one_sent : (d q : ℕ) (w : Word) (h : Change) → q < 13 → upright (writing ((d, w) ∷ [])) ≡ Ok h → upright (writing ((q, w) ∷ [])) ≡ Ok (redirected q h)
one_sent d q w h lt e = upright_sent q (writing ((d, w) ∷ [])) (writing ((q, w) ∷ [])) h lt refl e

flags_sent : (s : Bool) (r : Computed) (d q : ℕ) (w : Word) → with_flags s r (writing ((q, w) ∷ [])) ≡ redirected q (with_flags s r (writing ((d, w) ∷ [])))
flags_sent true r d q w = refl
flags_sent false r d q w = refl

sign_sent : (s : Bool) (n d q : ℕ) (w : Word) → with_sign s n (writing ((q, w) ∷ [])) ≡ redirected q (with_sign s n (writing ((d, w) ∷ [])))
sign_sent true n d q w = refl
sign_sent false n d q w = refl

last_behind : (q d : ℕ) (w : Word) (b : List (ℕ × Word)) → last_to q (b ++ (d, w) ∷ []) ≡ b ++ (q, w) ∷ []
last_behind q d w [] = refl
last_behind q d w (v ∷ []) = refl
last_behind q d w (v ∷ u ∷ b) = ap (λ l. v ∷ l) (last_behind q d w (u ∷ b))

base_sent : (b : List (ℕ × Word)) (d q : ℕ) (w : Word) → after_base b (writing ((q, w) ∷ [])) ≡ redirected q (after_base b (writing ((d, w) ∷ [])))
base_sent b d q w = ap (λ l. record unchanged { regs = l }) (sym (last_behind q d w b))

accessed_sent : (op : AccessOp) (b : List (ℕ × Word)) (t q a : ℕ) (x : Core) → is_store op ≡ false → after_base b (accessed op q a x) ≡ redirected q (after_base b (accessed op t a x))
accessed_sent Ldr b t q a x e = base_sent b t q _
accessed_sent Ldrb b t q a x e = base_sent b t q _
accessed_sent Ldrh b t q a x e = base_sent b t q _
accessed_sent Ldrsb b t q a x e = base_sent b t q _
accessed_sent Ldrsh b t q a x e = base_sent b t q _
accessed_sent Str b t q a x e = cc
accessed_sent Strb b t q a x e = cc
accessed_sent Strh b t q a x e = cc

no_source : (b : Bool) (d e : ℕ) → unless b d ≡ Some e → b ≡ false
no_source true d e k = cc
no_source false d e k = refl

field_sent : (op : FieldOp) (d q : ℕ) (n : Option ℕ) (lsb width : ℕ) (x : Core) → keeps_bits op ≡ false → field_value op q n lsb width x ≡ field_value op d n lsb width x
field_sent Sbfx d q n lsb width x e = refl
field_sent Ubfx d q n lsb width x e = refl
field_sent Bfi d q n lsb width x e = cc
field_sent Bfc d q n lsb width x e = cc

access_sent : (i : AccessFields) (s : Site) (q : ℕ) (x : Core) (h : Change) → is_store i.op ≡ false → q < 13 → change (Access i) s x ≡ Ok h → change (Access (record i { t = q })) s x ≡ Ok (redirected q h)
unfolding change
access_sent i s q x h l lt e = go (lies_in x.memory (access_address i.n i.place x) (size_of i.op)) e
  where
    go : (b : Bool) → (if b then upright (after_base (base_write i.n i.place x) (accessed i.op i.t (access_address i.n i.place x) x)) else Err BadAddress) ≡ Ok h → (if b then upright (after_base (base_write i.n i.place x) (accessed i.op q (access_address i.n i.place x) x)) else Err BadAddress) ≡ Ok (redirected q h)
    go true k = upright_sent q _ _ h lt (accessed_sent i.op (base_write i.n i.place x) i.t q (access_address i.n i.place x) x l) k
    go false k = cc

product_sent : (op : LongMulOp) (n m a b : ℕ) → accumulates op ≡ false → long_product op n m a ≡ long_product op n m b
product_sent Smull n m a b e = refl
product_sent Umull n m a b e = refl
product_sent Smlal n m a b e = cc
product_sent Umlal n m a b e = cc

half_sent : (i : HalfFields) (s : Site) (q : ℕ) (x : Core) (h : Change) → i.top ≡ false → q < 13 → change (Half i) s x ≡ Ok h → change (Half (record i { d = q })) s x ≡ Ok (redirected q h)
unfolding change
half_sent i s q x h l lt e =
    let w : half_word i.top q i.imm s x ≡ half_word i.top i.d i.imm s x = ap (λ t. half_word t q i.imm s x) l ∙ sym (ap (λ t. half_word t i.d i.imm s x) l) in
    upright_sent q (writing ((i.d, half_word i.top i.d i.imm s x) ∷ [])) (writing ((q, half_word i.top q i.imm s x) ∷ [])) h lt (ap (λ w. writing ((q, w) ∷ [])) w) e

field_goes : (i : FieldFields) (s : Site) (q : ℕ) (x : Core) (h : Change) → keeps_bits i.op ≡ false → q < 13 → change (Field i) s x ≡ Ok h → change (Field (record i { d = q })) s x ≡ Ok (redirected q h)
unfolding change
field_goes i s q x h l lt e = upright_sent q (plain_write i.d (field_value i.op i.d i.n i.lsb i.width x)) (plain_write q (field_value i.op q i.n i.lsb i.width x)) h lt (ap (λ v. plain_write q v) (field_sent i.op i.d q i.n i.lsb i.width x l)) e

product_goes : (i : LongMulFields) (s : Site) (q : ℕ) (x : Core) (h : Change) → accumulates i.op ≡ false → q < 13 → change (LongMul i) s x ≡ Ok h → change (LongMul (record i { hi = q })) s x ≡ Ok (redirected q h)
unfolding change
product_goes i s q x h l lt e =
    upright_sent q (two_words i.lo i.hi (long_product i.op (value x i.n) (value x i.m) (value x i.hi * 2 ^ 32 + wrapped (value x i.lo)))) (two_words i.lo q (long_product i.op (value x i.n) (value x i.m) (value x q * 2 ^ 32 + wrapped (value x i.lo)))) h lt
    (ap (λ p. two_words i.lo q p) (product_sent i.op (value x i.n) (value x i.m) _ _ l)) e

literal_goes : (i : LiteralFields) (s : Site) (q : ℕ) (x : Core) (h : Change) → q < 13 → change (Literal i) s x ≡ Ok h → change (Literal (record i { t = q })) s x ≡ Ok (redirected q h)
unfolding change
literal_goes i s q x h lt e = go _ _ e
  where
    go : (b : Bool) (w : Word) → (if b then upright (writing ((i.t, w) ∷ [])) else Err BadAddress) ≡ Ok h → (if b then upright (writing ((q, w) ∷ [])) else Err BadAddress) ≡ Ok (redirected q h)
    go true w k = upright_sent q (writing ((i.t, w) ∷ [])) (writing ((q, w) ∷ [])) h lt refl k
    go false w k = cc

-- THIRD LEMMA: the same value and the same flags, in another register
pub goes_to : (i : Instr) (s : Site) (x : Core) (h : Change) (d q : ℕ) → destination i ≡ Some d → q < 13 → change i s x ≡ Ok h → change (sent i q) s x ≡ Ok (redirected q h)
unfolding change
goes_to (Alu i) s x h d q k lt e = upright_sent q _ _ h lt (flags_sent i.s _ i.d q _) e
goes_to (Move i) s x h d q k lt e = upright_sent q _ _ h lt (flags_sent i.s _ i.d q _) e
goes_to (Test i) s x h d q k lt e = cc
goes_to (ShiftBy i) s x h d q k lt e = upright_sent q _ _ h lt (flags_sent i.s _ i.d q _) e
goes_to (Wide i) s x h d q k lt e = one_sent i.d q _ h lt e
goes_to (Half i) s x h d q k lt e = half_sent i s q x h (no_source i.top i.d d k) lt e
goes_to (Field i) s x h d q k lt e = field_goes i s q x h (no_source (keeps_bits i.op) i.d d k) lt e
goes_to (Unary i) s x h d q k lt e = one_sent i.d q _ h lt e
goes_to (Mul i) s x h d q k lt e = upright_sent q _ _ h lt (sign_sent i.s _ i.d q _) e
goes_to (MulAcc i) s x h d q k lt e = one_sent i.d q _ h lt e
goes_to (LongMul i) s x h d q k lt e = product_goes i s q x h (no_source (accumulates i.op) i.hi d k) lt e
goes_to (Div i) s x h d q k lt e = one_sent i.d q _ h lt e
goes_to (Access i) s x h d q k lt e = access_sent i s q x h (no_source (is_store i.op) i.t d k) lt e
goes_to (Pair i) s x h d q k lt e = cc
goes_to (Multi i) s x h d q k lt e = cc
goes_to (Literal i) s x h d q k lt e = literal_goes i s q x h lt e
goes_to (Adr i) s x h d q k lt e = one_sent i.d q _ h lt e
goes_to (Branch i) s x h d q k lt e = cc
goes_to (ZeroBranch i) s x h d q k lt e = cc
goes_to (Call i) s x h d q k lt e = cc
goes_to (Jump i) s x h d q k lt e = cc
goes_to (CallReg i) s x h d q k lt e = cc
goes_to (It i) s x h d q k lt e = cc
goes_to (Nothing i) s x h d q k lt e = cc
goes_to (Trap i) s x h d q k lt e = cc

-- the low word of a long product
first_even : (q : ℕ) → q < 13 → (ws : List (ℕ × Word)) → list_any is_askew ws ≡ false → list_any is_askew (first_to q ws) ≡ false
first_even q lt [] e = refl
first_even q lt (w ∷ ws) e = or_from (is_askew (q, w.1)) _ (not_sp q w.1 lt) (or_parts (is_askew w) (list_any is_askew ws) e).1

pub low_goes_to : (i : LongMulFields) (s : Site) (x : Core) (h : Change) (q : ℕ) → accumulates i.op ≡ false → q < 13 → change (LongMul i) s x ≡ Ok h → change (LongMul (record i { lo = q })) s x ≡ Ok (low_redirected q h)
unfolding change
low_goes_to i s x h q l lt e =
    let p : ℕ = long_product i.op (value x i.n) (value x i.m) (value x i.hi * 2 ^ 32 + wrapped (value x i.lo)) in
    let g : Change = two_words i.lo i.hi p in
    let f : Change = record g { regs = first_to q g.regs } in
    let b : list_any is_askew f.regs ≡ false = first_even q lt g.regs (even_of g h e) in
    ap (λ p. upright (two_words q i.hi p)) (product_sent i.op (value x i.n) (value x i.m) (value x i.hi * 2 ^ 32 + wrapped (value x q)) (value x i.hi * 2 ^ 32 + wrapped (value x i.lo)) l)
    ∙ ap (λ b. if b then Err BadStack else Ok f) b
    ∙ ap (λ (c : Change). Ok (record c { regs = first_to q c.regs })) (upright_is g h e)
