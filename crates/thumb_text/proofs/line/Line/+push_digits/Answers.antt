use Rattle.std.proofs.Common.{arith, ◌≡◌, ◌+◌, ◌≤◌, ◌<◌, [], ◌∷◌, length, ℕ, ◌/◌, ◌%◌, ◌^◌, ap, ◌∙◌, length-append, append_assoc}
use Rattle.std.proofs.lemmas.Fmt.{decimal_step, decimal_digit}
use Rattle.std.specs.Fmt.{decimal}
use Rattle.thumb_text.proofs.line.Line.+push_digits.Goals as goal

-- the last digit stands behind those of the tenth
length_step : (n : ℕ) → 10 ≤ n → n < 2 ^ 64 → length (decimal n) ≡ length (decimal (n / 10)) + 1
length_step n h small = ap length (decimal_step n h small) ∙ length-append (decimal (n / 10)) ((48 + n % 10) ∷ [])

length_digit : (n : ℕ) → n < 10 → length (decimal n) ≡ 1
length_digit n h = ap length (decimal_digit n h)

pub push-requires : goal.push-requires
push-requires t c = omega (arith, length_digit c.args.n c.if-n-lt10.true)

pub push_digits-requires : goal.push_digits-requires
push_digits-requires t c = (omega arith, omega (arith, length_step c.args.n c.if-n-lt10.false (omega arith)))

pub push-requires-else-n-lt10 : goal.push-requires-else-n-lt10
push-requires-else-n-lt10 t c =
    let e = length_step c.args.n c.if-n-lt10.false (omega arith) in
    let f = ap length c.push_digits.ensures ∙ length-append c.args.self.now (decimal (c.args.n / 10)) in
    omega (arith, e, f)

pub returns-then-n-lt10 : goal.returns-then-n-lt10
returns-then-n-lt10 t c = let e = decimal_digit c.args.n c.if-n-lt10.true in rw e c.push.ensures

pub returns-else-n-lt10 : goal.returns-else-n-lt10
returns-else-n-lt10 t c =
    let e = decimal_step c.args.n c.if-n-lt10.false (omega arith) in
    rw e (simp (c.push_digits.ensures, append_assoc) at c.push-else-n-lt10.ensures)
