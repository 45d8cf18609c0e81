-- What holds of each instruction of generated functions holds of what stands at their offsets.
use Rattle.std.proofs.Common.{◌≡◌, ◌<◌, ℕ, zero, suc, ◌+◌, ◌*◌, sym, ap, subst, arith}
use Rattle.std.specs.Prelude.{◌/◌, ◌^◌, get_or}
use Rattle.thumb_instr.specs.declared.instructions.Instr.{Instr}
use Rattle.skip_machine.specs.Draws.{next_draw, draws}
use Rattle.gen_flow.specs.GeneratedCode.{pushes, returns, calls, worked, drawn_instr, StandsAt}
use Rattle.gen_flow.specs.GeneratedCode.StandsAt.{first, work, next, back, last}

draws_low : (seed n : ℕ) → draws seed (n + 1) < 2 ^ 32
draws_low seed n =
    let one : n + 1 ≡ suc n = omega arith in
    let is : draws seed (n + 1) ≡ next_draw (draws seed n) = ap (draws seed) one in
    omega arith

-- one of the eight that may be drawn
abbrev pub worked_at : ℕ → Instr
worked_at n = get_or worked n pushes

pub each_of_eight : (P : ℕ → Type 0) → P 0 → P 1 → P 2 → P 3 → P 4 → P 5 → P 6 → P 7 → (n : ℕ) → n < 8 → P n
each_of_eight P a b c d e f g h zero low = a
each_of_eight P a b c d e f g h (suc zero) low = b
each_of_eight P a b c d e f g h (suc (suc zero)) low = c
each_of_eight P a b c d e f g h (suc (suc (suc zero))) low = d
each_of_eight P a b c d e f g h (suc (suc (suc (suc zero)))) low = e
each_of_eight P a b c d e f g h (suc (suc (suc (suc (suc zero))))) low = f
each_of_eight P a b c d e f g h (suc (suc (suc (suc (suc (suc zero)))))) low = g
each_of_eight P a b c d e f g h (suc (suc (suc (suc (suc (suc (suc zero))))))) low = h
each_of_eight P a b c d e f g h (suc (suc (suc (suc (suc (suc (suc (suc n)))))))) low = absurd (omega arith)

pub of_drawn : (P : Instr → Type 0) → ((n : ℕ) → n < 8 → P (worked_at n)) → (seed k j : ℕ) → P (drawn_instr (draws (draws seed (3 * k)) (j + 1)))
of_drawn P each seed k j =
    let low = draws_low (draws seed (3 * k)) j in
    each (draws (draws seed (3 * k)) (j + 1) / 2 ^ 29) (omega arith)

pub of_known : (P : Instr → Type 0) → P pushes → ((n : ℕ) → n < 8 → P (worked_at n)) → P calls → P returns → (seed count x : ℕ) (i : Instr) → StandsAt seed count x i → P i
of_known P a w c r seed count x i (first k low at is) = subst P (sym is) a
of_known P a w c r seed count x i (work k j low few at is) = subst P (sym is) (of_drawn P w seed k j)
of_known P a w c r seed count x i (next k low at is) = subst P (sym is) c
of_known P a w c r seed count x i (back k low at is) = subst P (sym is) r
of_known P a w c r seed count x i (last k end at is) = subst P (sym is) r
