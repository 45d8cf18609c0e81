-- The two halfwords that stand for an ADDS or SUBS are of rows that rise.
use Rattle.std.proofs.Common.{◌≡◌, ◌≢◌, ℕ, ◌+◌, ◌<◌, ◌≤◌, Bool, true, false, List, [], ◌∷◌, refl, sym, subst, arith, Some, None, if◌then◌else◌, ◌&&◌, ◌==◌, suc, zero}
use Rattle.std.proofs.Common.{eq-eqb}
use Rattle.std.proofs.lemmas.Bool.{eqb-true}
use Rattle.thumb_instr.specs.declared.operations.AluOp.{AluOp}
use Rattle.thumb_instr.specs.declared.operations.AluOp.TheVariants.{Add, Sub}
use Rattle.thumb_instr.specs.declared.operands.Operand.{Operand}
use Rattle.thumb_instr.specs.declared.operands.Operand.TheVariants.{Imm, Reg}
use Rattle.thumb_instr.specs.declared.instructions.Instr.{Instr}
use Rattle.thumb_instr.specs.declared.instructions.Instr.TheVariants as instr
use Rattle.thumb_instr.specs.declared.refusals.ItPlace.TheVariants.{Outside}
use Rattle.thumb_instr.specs.Fields.{AluFields}
use Rattle.thumb_instr.specs.Patterns.{Row, cut, fits}
use Rattle.thumb_instr.specs.HalfRows.{half_rows}
use Rattle.thumb_encode.proofs.Covering.{chosen}
use Rattle.thumb_encode.specs.Encoding.{row_of}
use Rattle.thumb_encode.specs.HalfCodes.{half_code, later_code, alu_code, later_alu_code, sum_code, difference_code, constant_code, add_constant, subtract_constant, three_registers, eight_bits}

-- row k fits h
abbrev pub FitsAt : ℕ → ℕ → ℕ → List Row → Type 0
FitsAt size h k [] = ⊥
FitsAt size h zero (r ∷ rows) = fits r.pattern size h ≡ true
FitsAt size h (suc k) (r ∷ rows) = FitsAt size h k rows

-- no row before row k fits h
abbrev pub MissesBefore : ℕ → ℕ → ℕ → List Row → Type 0
MissesBefore size h zero rows = Unit {0}
MissesBefore size h (suc k) [] = ⊥
MissesBefore size h (suc k) (r ∷ rows) = (fits r.pattern size h ≡ false) × MissesBefore size h k rows

row_of-hit : (size h k : ℕ) (rows : List Row) → FitsAt size h k rows → row_of size rows h ≤ k
unfolding row_of
row_of-hit size h k [] at = absurd at
row_of-hit size h zero (r ∷ rows) at = rw at (omega arith)
row_of-hit size h (suc k) (r ∷ rows) at =
    let later = row_of-hit size h k rows at in
    chosen (λ b. (if b then 0 else 1 + row_of size rows h) ≤ suc k) (fits r.pattern size h) (λ _. omega arith) (λ _. omega arith)

row_of-miss : (size h k : ℕ) (rows : List Row) → MissesBefore size h k rows → k ≤ row_of size rows h
unfolding row_of
row_of-miss size h zero rows before = omega arith
row_of-miss size h (suc k) [] before = absurd before
row_of-miss size h (suc k) (r ∷ rows) before = rw before.0 (let later = row_of-miss size h k rows before.1 in omega arith)

-- other bits than a row's
other : (x v : ℕ) (rest : Bool) → x ≢ v → ((x == v) && rest) ≡ false
other x v rest differ = chosen (λ t. (x == v) ≡ t → (t && rest) ≡ false) (x == v) (λ e _. absurd (differ (eqb-true x v e))) (λ _ _. refl) refl

same : (x v : ℕ) → x ≡ v → ((x == v) && true) ≡ true
same x v e = let P : ℕ → Type 0 = λ y. ((y == v) && true) ≡ true in subst P (sym e) (rw (eq-eqb v v refl) refl)

sum_hit : (a : ℕ) → cut a 16 7 ≡ 14 → row_of 16 (half_rows Outside) a ≤ 5
unfolding half_rows
sum_hit a e = row_of-hit 16 a 5 (half_rows Outside) (same (cut a 16 7) 14 e)

difference_hit : (a : ℕ) → cut a 16 7 ≡ 15 → row_of 16 (half_rows Outside) a ≤ 6
unfolding half_rows
difference_hit a e = row_of-hit 16 a 6 (half_rows Outside) (same (cut a 16 7) 15 e)

misses : (b : ℕ) → 5 < cut b 16 5 → cut b 16 5 < 8 → 9 ≤ row_of 16 (half_rows Outside) b
unfolding half_rows
misses b low high =
    let apart : (v : ℕ) → v < 6 → cut b 16 5 ≢ v = λ v less e. omega arith in
    let wide : (v : ℕ) → v < 16 → cut b 16 7 ≢ v = λ v less e. omega arith in
    row_of-miss 16 b 9 (half_rows Outside) (
      other (cut b 16 5) 0 true (apart 0 (omega arith)),
      (
        other (cut b 16 5) 1 true (apart 1 (omega arith)),
        (
          other (cut b 16 5) 2 true (apart 2 (omega arith)),
          (
            other (cut b 16 7) 12 true (wide 12 (omega arith)),
            (
              other (cut b 16 7) 13 true (wide 13 (omega arith)),
              (
                other (cut b 16 7) 14 true (wide 14 (omega arith)),
                (
                  other (cut b 16 7) 15 true (wide 15 (omega arith)),
                  (other (cut b 16 5) 4 true (apart 4 (omega arith)), (other (cut b 16 5) 5 true (apart 5 (omega arith)), tt)),
                ),
              ),
            ),
          ),
        ),
      ),
    )

top_three : (o m n d : ℕ) → o < 128 → cut (three_registers o m n d) 16 7 ≡ o
unfolding three_registers
top_three o m n d less = omega arith

top_eight : (o d i : ℕ) → o < 32 → cut (eight_bits o d i) 16 5 ≡ o
unfolding eight_bits
top_eight o d i less = omega arith

-- the earlier and the later row
abbrev pub Rises : ℕ → ℕ → Type 0
Rises a b = row_of 16 (half_rows Outside) a < row_of 16 (half_rows Outside) b

nothing : {P : Type 0} (b : ℕ) → None ≡ Some b → P
nothing b e = absurd (cc)

some-same : (x y : ℕ) → Some x ≡ Some y → x ≡ y
some-same x y e = cc

sum_rises : (r : AluFields) (s : Bool) (x : Operand) (a b : ℕ) → r.s ≡ s → sum_code r x ≡ Some a → constant_code 6 s r.d x ≡ Some b → Rises a b
sum_rises r false x a b sets e f = nothing b f
sum_rises r true (Reg m kind amount) a b sets e f = nothing b f
sum_rises r true (Imm imm) a b sets e f =
    let P : Bool → Type 0 = λ s. add_constant s r.d r.n imm ≡ a in
    let is_a : three_registers 14 imm r.n r.d ≡ a = subst P sets (some-same _ a e) in
    let is_b : eight_bits 6 r.d imm ≡ b = some-same _ b f in
    let top_a : cut a 16 7 ≡ 14 = subst (λ (y : ℕ). cut y 16 7 ≡ 14) is_a (top_three 14 imm r.n r.d (omega arith)) in
    let top_b : cut b 16 5 ≡ 6 = subst (λ (y : ℕ). cut y 16 5 ≡ 6) is_b (top_eight 6 r.d imm (omega arith)) in
    let hit = sum_hit a top_a in
    let miss = misses b (omega arith) (omega arith) in omega arith

difference_rises : (r : AluFields) (s : Bool) (x : Operand) (a b : ℕ) → r.s ≡ s → difference_code r x ≡ Some a → constant_code 7 s r.d x ≡ Some b → Rises a b
difference_rises r false x a b sets e f = nothing b f
difference_rises r true (Reg m kind amount) a b sets e f = nothing b f
difference_rises r true (Imm imm) a b sets e f =
    let P : Bool → Type 0 = λ s. subtract_constant s r.d r.n imm ≡ a in
    let is_a : three_registers 15 imm r.n r.d ≡ a = subst P sets (some-same _ a e) in
    let is_b : eight_bits 7 r.d imm ≡ b = some-same _ b f in
    let top_a : cut a 16 7 ≡ 15 = subst (λ (y : ℕ). cut y 16 7 ≡ 15) is_a (top_three 15 imm r.n r.d (omega arith)) in
    let top_b : cut b 16 5 ≡ 7 = subst (λ (y : ℕ). cut y 16 5 ≡ 7) is_b (top_eight 7 r.d imm (omega arith)) in
    let hit = difference_hit a top_a in
    let miss = misses b (omega arith) (omega arith) in omega arith

alu_rises : (op : AluOp) (r : AluFields) (a b : ℕ) → alu_code op r ≡ Some a → later_alu_code op r ≡ Some b → Rises a b
alu_rises Add r a b e f = sum_rises r r.s r.x a b refl e f
alu_rises Sub r a b e f = difference_rises r r.s r.x a b refl e f
alu_rises op r a b e f = nothing b f

pub candidates_rise : (i : Instr) (a b : ℕ) → half_code i ≡ Some a → later_code i ≡ Some b → Rises a b
unfolding half_code later_code
candidates_rise (instr.Alu r) a b e f = alu_rises r.op r a b e f
candidates_rise i a b e f = nothing b f
