use Rattle.std.proofs.Common.{◌≡◌, ◌≤◌, ℕ, length, take, sym, ap, ◌∙◌, arith}
use Rattle.std.specs.Prelude.{◌==◌}
use Rattle.std.proofs.lemmas.Bool.{eq-eqb}
use Rattle.std.proofs.lemmas.List.{take_all}
use Rattle.std.proofs.lemmas.List.Sums.{position_or_len_is}
use Rattle.elf_read.proofs.keeping.until_nul.Goals as goal

pub returns-then-b-eq0 : goal.returns-then-b-eq0
returns-then-b-eq0 c =
    let l : c.loop-i.i ≤ length c.args.text.now = omega arith in
    ap (λ (n : ℕ). take n c.args.text.now) (sym (position_or_len_is (λ x. x == 0) c.args.text.now c.loop-i.i 0 l c.loop-i.invariant (λ _. eq-eqb _ 0 c.if-b-eq0.true)))

pub returns : goal.returns
returns c =
    let l : c.loop-i.i ≤ length c.args.text.now = omega arith in
    let e : c.loop-i.i ≡ length c.args.text.now = omega arith in
    sym (take_all c.loop-i.i c.args.text.now (omega arith)) ∙ ap (λ (n : ℕ). take n c.args.text.now) (sym (position_or_len_is (λ x. x == 0) c.args.text.now c.loop-i.i 0 l c.loop-i.invariant (λ b. absurd (omega (arith, b, e)))))
