-- What halfwords stand for in an IT block has a code out of it: the same halfwords, or two of its own.
use Rattle.std.proofs.Common.{◌≡◌, ◌<◌, ℕ, ◌+◌, ◌-◌, ◌*◌, ◌/◌, ◌^◌, Bool, true, false, List, [], ◌∷◌, Ok, Err, refl, subst, arith, inl, inr}
use Rattle.std.specs.Prelude.{◌==◌, ◌&&◌, ◌⊎◌, not, nat_lt, ⊤, if◌then◌else◌}
use Rattle.std.proofs.Math.Nat.{mod-lt}
use Rattle.std.proofs.lemmas.Nat.{pow_pos}
use Rattle.std.proofs.lemmas.Bool.Decides.{nat_tests}
use Rattle.mark_word.specs.declared.numbers.Shift.{Shift}
use Rattle.mark_word.specs.declared.numbers.Shift.TheVariants.{Lsl}
use Rattle.thumb_instr.specs.declared.operations.AluOp.{AluOp}
use Rattle.thumb_instr.specs.declared.operations.MoveOp.{MoveOp}
use Rattle.thumb_instr.specs.declared.operations.MoveOp.TheVariants.{Mov}
use Rattle.thumb_instr.specs.declared.operands.Operand.{Operand}
use Rattle.thumb_instr.specs.declared.operands.Operand.TheVariants.{Imm, Reg}
use Rattle.thumb_instr.specs.declared.refusals.BadInstr.{BadInstr}
use Rattle.thumb_instr.specs.declared.refusals.BadInstr.TheVariants.{Unpredictable, ReadsAndSetsFlags}
use Rattle.thumb_instr.specs.declared.refusals.ItPlace.{ItPlace}
use Rattle.thumb_instr.specs.declared.refusals.ItPlace.TheVariants.{Outside, Inside, Last}
use Rattle.thumb_instr.specs.declared.instructions.Instr.{Instr}
use Rattle.thumb_instr.specs.declared.instructions.Instr.TheVariants as instr
use Rattle.thumb_instr.specs.Patterns.{Bits, Fixed, Field, Made, Row, Answer, cut, fits, filled_in, decoded}
use Rattle.thumb_instr.specs.Meanings.{when, alu, move, shift_by, mul, multi, plain}
use Rattle.thumb_instr.specs.DataRows.{names, is_copy, has_odd_sp, is_add_or_sub}
use Rattle.thumb_instr.specs.HalfRows.{pop, if_then, short_branch, half_rows}
use Rattle.thumb_instr.specs.FullRows.{many, on_condition_branch, full_rows}
use Rattle.thumb_instr.specs.Rows.{is_wide, decode}
use Rattle.thumb_encode.specs.HasFull.{has_full, lacks_sp}

-- an instruction is the other answer too, or has a code of two halfwords
pub record Alike (a b : Answer) : Type 0 where
  pub kept : (i : Instr) → b ≡ Ok i → (a ≡ Ok i) ⊎ (has_full i ≡ true)

same_alike : (a : Answer) → Alike a a
same_alike a = record { kept = λ i e. inl e }

err_alike : (a : Answer) (k : BadInstr) → Alike a (Err k)
err_alike a k = record { kept = λ i e. absurd (cc) }

full_alike : (a : Answer) (i : Instr) → has_full i ≡ true → Alike a (Ok i)
full_alike a i f = record { kept = λ j e. let k : i ≡ j = cc in inr (subst (λ (x : Instr). has_full x ≡ true) k f) }

if_alike : (c : Bool) (x y u v : Answer) → Alike x u → Alike y v → Alike (if c then x else y) (if c then u else v)
if_alike true x y u v f g = f
if_alike false x y u v f g = g

-- what refuses more
drop_alike : (c : Bool) (k : BadInstr) (x y : Answer) → Alike x y → Alike x (if c then Err k else y)
drop_alike true k x y f = err_alike x k
drop_alike false k x y f = f

-- an instruction with a code of two halfwords, where it takes its fields
when_alike : (a : Answer) (b : Bool) (i : Instr) → has_full i ≡ true → Alike a (when b i)
when_alike a true i f = full_alike a i f
when_alike a false i f = err_alike a _

-- low registers

abbrev IsLow : ℕ → Type 0
IsLow k = k < 2 ^ 3

no_sp : (k : ℕ) → IsLow k → (k == 13) ≡ false
no_sp k low = grind (arith, nat_tests)

abbrev NamesLow : Operand → Type 0
NamesLow (Imm i) = ⊤
NamesLow (Reg m kind amount) = IsLow m

names_no_sp : (x : Operand) → NamesLow x → names 13 x ≡ false
unfolding names
names_no_sp (Imm i) low = refl
names_no_sp (Reg m kind amount) low = no_sp m low

none_odd : (op : AluOp) (d n : ℕ) (x : Operand) → IsLow d → IsLow n → NamesLow x → has_odd_sp op d n x ≡ false
unfolding has_odd_sp
none_odd op d n x ld ln lx = rw (names_no_sp x lx, no_sp d ld, no_sp n ln) (either (is_add_or_sub op))
  where
    either : (b : Bool) → (if b then false else false) ≡ false
    either true = refl
    either false = refl

alu_full : (op : AluOp) (d n : ℕ) (x : Operand) → IsLow d → IsLow n → NamesLow x → has_full (instr.Alu (record { op = op; s = false; d = d; n = n; x = x })) ≡ true
unfolding has_full
alu_full op d n x ld ln lx = rw (none_odd op d n x ld ln lx) refl

move_full : (op : MoveOp) (d : ℕ) (x : Operand) → IsLow d → NamesLow x → has_full (instr.Move (record { op = op; s = false; d = d; x = x })) ≡ true
unfolding has_full
move_full op d x ld lx = rw (names_no_sp x lx, no_sp d ld) (either (is_copy op false x))
  where
    either : (b : Bool) → (not (if b then false else false) && true) ≡ true
    either true = refl
    either false = refl

three_low : (d n m : ℕ) → IsLow d → IsLow n → IsLow m → lacks_sp (d ∷ n ∷ m ∷ []) ≡ true
three_low d n m ld ln lm = rw (no_sp d ld, no_sp n ln, no_sp m lm) refl

-- where flags are set out of IT blocks alone
alu_alike : (s : Bool) (op : AluOp) (d n : ℕ) (x : Operand) → IsLow d → IsLow n → NamesLow x → Alike (alu op true d n x) (alu op s d n x)
alu_alike true op d n x ld ln lx = same_alike _
alu_alike false op d n x ld ln lx = when_alike _ _ _ (alu_full op d n x ld ln lx)

move_alike : (s : Bool) (op : MoveOp) (d : ℕ) (x : Operand) → IsLow d → NamesLow x → Alike (move op true d x) (move op s d x)
move_alike true op d x ld lx = same_alike _
move_alike false op d x ld lx = when_alike _ _ _ (move_full op d x ld lx)

shift_by_full : (kind : Shift) (d n m : ℕ) → IsLow d → IsLow n → IsLow m → has_full (instr.ShiftBy (record { kind = kind; s = false; d = d; n = n; m = m })) ≡ true
unfolding has_full
shift_by_full kind d n m ld ln lm = three_low d n m ld ln lm

mul_full : (d n m : ℕ) → IsLow d → IsLow n → IsLow m → has_full (instr.Mul (record { s = false; d = d; n = n; m = m })) ≡ true
unfolding has_full
mul_full d n m ld ln lm = three_low d n m ld ln lm

shift_by_alike : (s : Bool) (kind : Shift) (d n m : ℕ) → IsLow d → IsLow n → IsLow m → Alike (shift_by kind true d n m) (shift_by kind s d n m)
shift_by_alike true kind d n m ld ln lm = same_alike _
shift_by_alike false kind d n m ld ln lm = when_alike _ _ _ (shift_by_full kind d n m ld ln lm)

mul_alike : (s : Bool) (d n m : ℕ) → IsLow d → IsLow n → IsLow m → Alike (mul true d n m) (mul s d n m)
mul_alike true d n m ld ln lm = same_alike _
mul_alike false d n m ld ln lm = full_alike _ _ (mul_full d n m ld ln lm)

-- LSL by a number, which is none in a block where it is 0
lsl_alike : (s : Bool) (d m i : ℕ) → IsLow d → IsLow m
    → Alike (if (i == 0) && false then Err Unpredictable else move Mov true d (Reg m Lsl i)) (if (i == 0) && not s then Err Unpredictable else move Mov s d (Reg m Lsl i))
lsl_alike s d m i ld lm = go (i == 0)
  where
    go : (z : Bool)
        → Alike (if z && false then Err Unpredictable else move Mov true d (Reg m Lsl i)) (if z && not s then Err Unpredictable else move Mov s d (Reg m Lsl i))
    go true = drop_alike _ _ _ _ (move_alike s _ d (Reg m Lsl i) ld lm)
    go false = move_alike s _ d (Reg m Lsl i) ld lm

-- ADC and SBC, which are none out of IT blocks
carry_alike : (s : Bool) (op : AluOp) (d n m : ℕ) → IsLow d → IsLow n → IsLow m → Alike (Err ReadsAndSetsFlags) (if s then Err ReadsAndSetsFlags else alu op s d n (plain m))
carry_alike true op d n m ld ln lm = same_alike _
carry_alike false op d n m ld ln lm = full_alike _ _ (alu_full op d n (plain m) ld ln lm)

-- where a place refuses

pop_alike : (place : ItPlace) (p list : ℕ) → Alike (pop Outside p list) (pop place p list)
pop_alike Outside p list = same_alike _
pop_alike Last p list = same_alike _
pop_alike Inside p list = go (p == 1)
  where
    go : (b : Bool) → Alike (if b && false then Err Unpredictable else multi true false true 13 list b) (if b && true then Err Unpredictable else multi true false true 13 list b)
    go true = err_alike _ _
    go false = same_alike _

if_then_alike : (place : ItPlace) (c mask : ℕ) → Alike (if_then Outside c mask) (if_then place c mask)
if_then_alike Outside c mask = same_alike _
if_then_alike Inside c mask = err_alike _ _
if_then_alike Last c mask = err_alike _ _

short_branch_alike : (place : ItPlace) (c i : ℕ) → Alike (short_branch Outside c i) (short_branch place c i)
short_branch_alike Outside c i = same_alike _
short_branch_alike Inside c i = if_alike (c == 14) _ _ _ _ (same_alike _) (if_alike (c == 15) _ _ _ _ (same_alike _) (err_alike _ _))
short_branch_alike Last c i = if_alike (c == 14) _ _ _ _ (same_alike _) (if_alike (c == 15) _ _ _ _ (same_alike _) (err_alike _ _))

many_alike : (place : ItPlace) (load down back : Bool) (n list : ℕ) (pc : Bool) → Alike (many Outside load down back n list pc) (many place load down back n list pc)
unfolding many
many_alike Outside load down back n list pc = same_alike _
many_alike Last load down back n list pc = same_alike _
many_alike Inside load down back n list true = search (if_alike, same_alike, err_alike)
many_alike Inside load down back n list false = same_alike _

on_condition_alike : (place : ItPlace) (c offset : ℕ) → Alike (on_condition_branch Outside c offset) (on_condition_branch place c offset)
unfolding on_condition_branch
on_condition_alike Outside c offset = same_alike _
on_condition_alike Inside c offset = if_alike (nat_lt c 14) _ _ _ _ (err_alike _ _) (same_alike _)
on_condition_alike Last c offset = if_alike (nat_lt c 14) _ _ _ _ (err_alike _ _) (same_alike _)

-- rows

abbrev FillAlike : (ps : List Bits) → Made ps → Made ps → Type 0
FillAlike [] a b = Alike a b
FillAlike (Fixed w v ∷ ps) f g = FillAlike ps f g
FillAlike (Field w ∷ ps) f g = (k : ℕ) → k < 2 ^ w → FillAlike ps (f k) (g k)

filled_alike : (ps : List Bits) (f g : Made ps) (top h : ℕ) → FillAlike ps f g → Alike (filled_in ps f top h) (filled_in ps g top h)
filled_alike [] a b top h t = t
filled_alike (Fixed w v ∷ ps) f g top h t = filled_alike ps f g (top - w) h t
filled_alike (Field w ∷ ps) f g top h t = filled_alike ps (f (cut h top w)) (g (cut h top w)) (top - w) h (t (cut h top w) (mod-lt (h / 2 ^ (top - w)) {m = 2 ^ w} (pow_pos w)))

data AllAlike : List Row → List Row → Type 0 where
  none : AllAlike [] []
  row : (ps : List Bits) (f g : Made ps) (rows others : List Row) → FillAlike ps f g → AllAlike rows others → AllAlike (record { pattern = ps; means = f } ∷ rows) (record { pattern = ps; means = g } ∷ others)

infixr 4 ◌&◌
-- one row, and the rows behind it
◌&◌ : {ps : List Bits} {f g : Made ps} {rows others : List Row} → FillAlike ps f g → AllAlike rows others → AllAlike (record { pattern = ps; means = f } ∷ rows) (record { pattern = ps; means = g } ∷ others)
t & more = row _ _ _ _ _ t more

decoded_alike : (size h : ℕ) (rows others : List Row) → AllAlike rows others → Alike (decoded size rows h) (decoded size others h)
decoded_alike size h _ _ none = same_alike _
decoded_alike size h _ _ (row ps f g rows others t more) = if_alike (fits ps size h) _ _ _ _ (filled_alike ps f g size h t) (decoded_alike size h rows others more)

no_register : ⊤
no_register = tt

ruleset halves = (no_register, lsl_alike, carry_alike, alu_alike, move_alike, shift_by_alike, mul_alike, pop_alike, if_then_alike, short_branch_alike, same_alike, drop_alike, if_alike)

half_alike : (place : ItPlace) → AllAlike (half_rows Outside) (half_rows place)
unfolding half_rows
half_alike place =
    (λ i i-fits m m-fits d d-fits. search halves)
    & (λ i i-fits m m-fits d d-fits. search halves)
    & (λ i i-fits m m-fits d d-fits. search halves)
    & (λ m m-fits n n-fits d d-fits. search halves)
    & (λ m m-fits n n-fits d d-fits. search halves)
    & (λ i i-fits n n-fits d d-fits. search halves)
    & (λ i i-fits n n-fits d d-fits. search halves)
    & (λ d d-fits i i-fits. search halves)
    & (λ n n-fits i i-fits. search halves)
    & (λ d d-fits i i-fits. search halves)
    & (λ d d-fits i i-fits. search halves)
    & (λ m m-fits d d-fits. search halves)
    & (λ m m-fits d d-fits. search halves)
    & (λ m m-fits d d-fits. search halves)
    & (λ m m-fits d d-fits. search halves)
    & (λ m m-fits d d-fits. search halves)
    & (λ m m-fits d d-fits. search halves)
    & (λ m m-fits d d-fits. search halves)
    & (λ m m-fits d d-fits. search halves)
    & (λ m m-fits d d-fits. search halves)
    & (λ m m-fits d d-fits. search halves)
    & (λ m m-fits d d-fits. search halves)
    & (λ m m-fits d d-fits. search halves)
    & (λ m m-fits d d-fits. search halves)
    & (λ m m-fits d d-fits. search halves)
    & (λ m m-fits d d-fits. search halves)
    & (λ m m-fits d d-fits. search halves)
    & (λ high high-fits m m-fits low low-fits. search halves)
    & (λ high high-fits m m-fits low low-fits. search halves)
    & (λ high high-fits m m-fits low low-fits. search halves)
    & (λ m m-fits. search halves)
    & (λ m m-fits. search halves)
    & (λ t t-fits i i-fits. search halves)
    & (λ m m-fits n n-fits t t-fits. search halves)
    & (λ m m-fits n n-fits t t-fits. search halves)
    & (λ m m-fits n n-fits t t-fits. search halves)
    & (λ m m-fits n n-fits t t-fits. search halves)
    & (λ m m-fits n n-fits t t-fits. search halves)
    & (λ m m-fits n n-fits t t-fits. search halves)
    & (λ m m-fits n n-fits t t-fits. search halves)
    & (λ m m-fits n n-fits t t-fits. search halves)
    & (λ i i-fits n n-fits t t-fits. search halves)
    & (λ i i-fits n n-fits t t-fits. search halves)
    & (λ i i-fits n n-fits t t-fits. search halves)
    & (λ i i-fits n n-fits t t-fits. search halves)
    & (λ i i-fits n n-fits t t-fits. search halves)
    & (λ i i-fits n n-fits t t-fits. search halves)
    & (λ t t-fits i i-fits. search halves)
    & (λ t t-fits i i-fits. search halves)
    & (λ d d-fits i i-fits. search halves)
    & (λ d d-fits i i-fits. search halves)
    & (λ i i-fits. search halves)
    & (λ i i-fits. search halves)
    & (λ o o-fits i6 i6-fits i i-fits n n-fits. search halves)
    & (λ m m-fits d d-fits. search halves)
    & (λ m m-fits d d-fits. search halves)
    & (λ m m-fits d d-fits. search halves)
    & (λ m m-fits d d-fits. search halves)
    & (λ lr lr-fits list list-fits. search halves)
    & (λ pc pc-fits list list-fits. search halves)
    & (λ m m-fits d d-fits. search halves)
    & (λ m m-fits d d-fits. search halves)
    & (λ m m-fits d d-fits. search halves)
    & (λ c c-fits mask mask-fits. search halves)
    & (λ i i-fits. search halves)
    & (λ i i-fits. search halves)
    & (λ n n-fits list list-fits. search halves)
    & (λ n n-fits list list-fits. search halves)
    & (λ c c-fits i i-fits. search halves)
    & (λ i i-fits. search halves)
    & none

ruleset fulls = (many_alike, on_condition_alike, same_alike, drop_alike)

full_alike_rows : (place : ItPlace) → AllAlike (full_rows Outside) (full_rows place)
unfolding full_rows
full_alike_rows place =
    (λ w w-fits l l-fits n n-fits pc pc-fits lr lr-fits list list-fits. search fulls)
    & (λ w w-fits l l-fits n n-fits pc pc-fits lr lr-fits list list-fits. search fulls)
    & (λ p p-fits u u-fits w w-fits l l-fits n n-fits t t-fits s s-fits i i-fits. search fulls)
    & (λ o o-fits s s-fits n n-fits i3 i3-fits d d-fits i2 i2-fits k k-fits m m-fits. search fulls)
    & (λ i i-fits o o-fits s s-fits n n-fits i3 i3-fits d d-fits i8 i8-fits. search fulls)
    & (λ i i-fits n n-fits i3 i3-fits d d-fits i8 i8-fits. search fulls)
    & (λ i i-fits n n-fits i3 i3-fits d d-fits i8 i8-fits. search fulls)
    & (λ i i-fits i4 i4-fits i3 i3-fits d d-fits i8 i8-fits. search fulls)
    & (λ i i-fits i4 i4-fits i3 i3-fits d d-fits i8 i8-fits. search fulls)
    & (λ n n-fits i3 i3-fits d d-fits i2 i2-fits w w-fits. search fulls)
    & (λ n n-fits i3 i3-fits d d-fits i2 i2-fits w w-fits. search fulls)
    & (λ n n-fits i3 i3-fits d d-fits i2 i2-fits w w-fits. search fulls)
    & (λ s s-fits i10 i10-fits j j-fits k k-fits i11 i11-fits. search fulls)
    & (λ s s-fits i10 i10-fits j j-fits k k-fits i11 i11-fits. search fulls)
    & (search fulls)
    & (λ i i-fits. search fulls)
    & (λ option option-fits. search fulls)
    & (λ option option-fits. search fulls)
    & (λ option option-fits. search fulls)
    & (λ i i-fits. search fulls)
    & (λ n n-fits i i-fits. search fulls)
    & (λ i i-fits. search fulls)
    & (λ s s-fits c c-fits i6 i6-fits j j-fits k k-fits i11 i11-fits. search fulls)
    & (λ u u-fits t t-fits i i-fits. search fulls)
    & (search fulls)
    & (λ g g-fits z z-fits l l-fits n n-fits t t-fits i i-fits. search fulls)
    & (λ g g-fits z z-fits l l-fits n n-fits t t-fits p p-fits u u-fits w w-fits i i-fits. search fulls)
    & (λ g g-fits z z-fits l l-fits n n-fits t t-fits shift shift-fits m m-fits. search fulls)
    & (λ k k-fits s s-fits n n-fits d d-fits m m-fits. search fulls)
    & (λ d d-fits r r-fits m m-fits. search fulls)
    & (λ d d-fits r r-fits m m-fits. search fulls)
    & (λ d d-fits r r-fits m m-fits. search fulls)
    & (λ d d-fits r r-fits m m-fits. search fulls)
    & (λ n n-fits d d-fits m m-fits. search fulls)
    & (λ n n-fits d d-fits m m-fits. search fulls)
    & (λ n n-fits d d-fits m m-fits. search fulls)
    & (λ n n-fits d d-fits m m-fits. search fulls)
    & (λ n n-fits d d-fits m m-fits. search fulls)
    & (λ n n-fits a a-fits d d-fits m m-fits. search fulls)
    & (λ n n-fits a a-fits d d-fits m m-fits. search fulls)
    & (λ n n-fits lo lo-fits hi hi-fits m m-fits. search fulls)
    & (λ n n-fits lo lo-fits hi hi-fits m m-fits. search fulls)
    & (λ n n-fits lo lo-fits hi hi-fits m m-fits. search fulls)
    & (λ n n-fits lo lo-fits hi hi-fits m m-fits. search fulls)
    & (λ n n-fits d d-fits m m-fits. search fulls)
    & (λ n n-fits d d-fits m m-fits. search fulls)
    & none

answers_alike : (wide : Bool) (place : ItPlace) (first second : ℕ)
    → Alike (if wide then decoded 32 (full_rows Outside) (first * 2 ^ 16 + second) else decoded 16 (half_rows Outside) first) (if wide then decoded 32 (full_rows place) (first * 2 ^ 16 + second) else decoded 16 (half_rows place) first)
answers_alike true place first second = decoded_alike 32 (first * 2 ^ 16 + second) (full_rows Outside) (full_rows place) (full_alike_rows place)
answers_alike false place first second = decoded_alike 16 first (half_rows Outside) (half_rows place) (half_alike place)

pub outside_or_full : (place : ItPlace) (first second : ℕ) (i : Instr) → decode place first second ≡ Ok i → (decode Outside first second ≡ Ok i) ⊎ (has_full i ≡ true)
outside_or_full place first second i e = (answers_alike (is_wide first) place first second).kept i e
