-- What data processing answers has that number as its candidate.
use Rattle.std.proofs.Common.{◌≡◌, ℕ, ◌+◌, Bool, true, [], ◌∷◌, refl, ap, sym, subst, arith, Option, Some, None, if◌then◌else◌, not, ◌||◌, ◌&&◌, ◌==◌, slice_get}
use Rattle.std.specs.Prelude.{unwrap_or}
use Rattle.std.proofs.lemmas.Bool.{and_parts, eqb-true}
use Rattle.thumb_instr.specs.declared.operations.AluOp.{AluOp}
use Rattle.thumb_instr.specs.declared.operations.AluOp.TheVariants.{And, Bic, Orr, Orn, Eor, Add, Adc, Sbc, Sub, Rsb}
use Rattle.thumb_instr.specs.declared.operations.MoveOp.{MoveOp}
use Rattle.thumb_instr.specs.declared.operations.MoveOp.TheVariants.{Mov, Mvn}
use Rattle.thumb_instr.specs.declared.operations.TestOp.{TestOp}
use Rattle.thumb_instr.specs.declared.operations.TestOp.TheVariants.{Tst, Teq, Cmn, Cmp}
use Rattle.thumb_instr.specs.declared.operands.Operand.{Operand}
use Rattle.thumb_instr.specs.declared.instructions.Instr.{Instr}
use Rattle.thumb_instr.specs.declared.refusals.BadInstr.TheVariants.{Unpredictable, ReadsAndSetsFlags, PcOperand}
use Rattle.thumb_instr.specs.Operands.{is_operand}
use Rattle.thumb_instr.specs.Patterns.{Answer}
use Rattle.thumb_instr.specs.Meanings.{alu, move, test}
use Rattle.thumb_instr.specs.Sets.{sums_with_carry}
use Rattle.thumb_instr.specs.DataRows.{names, is_rrx, has_odd_sp, alu_row, is_copy, move_row, takes_sp, test_row, or_test, or_move, unknown, operations, data_processing}
use Rattle.thumb_encode.specs.FullCodes.{full_code, data_code, alu_number, move_number, test_number}
use Rattle.thumb_encode.proofs.Covering.{OfAnswer, Each, done, ◌&◌, each-get, of_when, of_refused, of_either}

-- the only candidate
abbrev pub IsOnly : ℕ → Instr → Type 0
IsOnly c i = full_code i ≡ Some c

-- what an operation answers for fields of which c is made
abbrev pub Makes : ℕ → (Bool → ℕ → ℕ → Operand → Answer) → Type 0
Makes o f = (s : Bool) (n d : ℕ) (x : Operand) (c : ℕ) → data_code o s n d x ≡ c → OfAnswer (IsOnly c) (f s n d x)

alu_row-makes : (op : AluOp) → Makes (alu_number op) (alu_row op)
unfolding alu_row full_code
alu_row-makes op s n d x c is = of_refused (IsOnly c)
    (((d == 15) || (n == 15) || names 15 x, PcOperand)
    ∷ (has_odd_sp op d n x || not (is_operand x), Unpredictable)
    ∷ (s && (sums_with_carry op || is_rrx x), ReadsAndSetsFlags) ∷ [])
    (alu op s d n x) (of_when (IsOnly c) (is_operand x) _ (ap Some is))

move_row-makes : (op : MoveOp) (s : Bool) (n d : ℕ) (x : Operand) (c : ℕ) → n ≡ 15 → data_code (move_number op) s n d x ≡ c → OfAnswer (IsOnly c) (move_row op s d x)
unfolding move_row full_code
move_row-makes op s n d x c none is = of_refused (IsOnly c)
    (((d == 15) || names 15 x, PcOperand)
    ∷ ((if is_copy op s x then (d == 13) && names 13 x else (d == 13) || names 13 x) || not (is_operand x), Unpredictable)
    ∷ (s && is_rrx x, ReadsAndSetsFlags) ∷ [])
    (move op s d x) (of_when (IsOnly c) (is_operand x) _ (let P : ℕ → Type 0 = λ y. data_code (move_number op) s y d x ≡ c in ap Some (subst P none is)))

test_row-makes : (op : TestOp) (s : Bool) (n d : ℕ) (x : Operand) (c : ℕ) → s ≡ true → d ≡ 15 → data_code (test_number op) s n d x ≡ c → OfAnswer (IsOnly c) (test_row op n x)
unfolding test_row full_code
test_row-makes op s n d x c sets none is = of_refused (IsOnly c)
    (((n == 15) || names 15 x, PcOperand)
    ∷ (((n == 13) && not (takes_sp op)) || names 13 x || not (is_operand x), Unpredictable)
    ∷ (is_rrx x, ReadsAndSetsFlags) ∷ [])
    (test op n x) (of_when (IsOnly c) (is_operand x) _
    (let P : ℕ → Type 0 = λ y. data_code (test_number op) s n y x ≡ c in
    let Q : Bool → Type 0 = λ y. data_code (test_number op) y n 15 x ≡ c in
    ap Some (subst Q sets (subst P none is))))

or_test-makes : (o : ℕ) (op : AluOp) (t : TestOp) → alu_number op ≡ o → test_number t ≡ o → Makes o (or_test op t)
unfolding or_test
or_test-makes o op t is_alu is_test s n d x c is =
    of_either (IsOnly c) (s && (d == 15)) (test_row t n x) (alu_row op s n d x)
    (λ both. let parts = and_parts s (d == 15) both in
    test_row-makes t s n d x c parts.0 (eqb-true d 15 parts.1) (let P : ℕ → Type 0 = λ y. data_code y s n d x ≡ c in subst P (sym is_test) is))
    (λ _. alu_row-makes op s n d x c (let P : ℕ → Type 0 = λ y. data_code y s n d x ≡ c in subst P (sym is_alu) is))

or_move-makes : (o : ℕ) (op : AluOp) (m : MoveOp) → alu_number op ≡ o → move_number m ≡ o → Makes o (or_move op m)
unfolding or_move
or_move-makes o op m is_alu is_move s n d x c is =
    of_either (IsOnly c) (n == 15) (move_row m s d x) (alu_row op s n d x)
    (λ none. move_row-makes m s n d x c (eqb-true n 15 none) (let P : ℕ → Type 0 = λ y. data_code y s n d x ≡ c in subst P (sym is_move) is))
    (λ _. alu_row-makes op s n d x c (let P : ℕ → Type 0 = λ y. data_code y s n d x ≡ c in subst P (sym is_alu) is))

unknown-makes : (o : ℕ) → Makes o unknown
unknown-makes o s n d x c is = tt

each_operation : Each (Bool → ℕ → ℕ → Operand → Answer) Makes 0 operations
each_operation =
    or_test-makes 0 And Tst refl refl
    & alu_row-makes Bic
    & or_move-makes 2 Orr Mov refl refl
    & or_move-makes 3 Orn Mvn refl refl
    & or_test-makes 4 Eor Teq refl refl
    & unknown-makes 5 & unknown-makes 6 & unknown-makes 7
    & or_test-makes 8 Add Cmn refl refl
    & unknown-makes 9
    & alu_row-makes Adc
    & alu_row-makes Sbc
    & unknown-makes 12
    & or_test-makes 13 Sub Cmp refl refl
    & alu_row-makes Rsb
    & unknown-makes 15
    & done

given : (o : ℕ) (f : Option (Bool → ℕ → ℕ → Operand → Answer)) → slice_get operations o ≡ f → Makes o (unwrap_or f unknown)
given o None is = unknown-makes o
given o (Some f) is = let at : o + 0 ≡ o = omega arith in subst (λ (k : ℕ). Makes k f) at (each-get Makes 0 operations each_operation o f is)

pub data_processing-makes : (o : ℕ) → Makes o (data_processing o)
unfolding data_processing
data_processing-makes o = given o (slice_get operations o) refl
