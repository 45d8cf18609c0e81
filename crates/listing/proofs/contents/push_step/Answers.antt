use Rattle.std.proofs.Common.{◌≡◌, ◌≤◌, ◌+◌, ℕ, arith, sym, subst}
use Rattle.elf_model.specs.Ranges.{length_at}
use Rattle.listing.specs.ListingSteps.{IsStep}
use Rattle.listing.proofs.Leading.{step_left, step_whole}
use Rattle.listing.proofs.contents.push_step.Goals as goal

pub returns-then-left-eq1 : goal.returns-then-left-eq1
returns-then-left-eq1 c =
    let e : c.args.at + 1 ≡ c.args.end = omega arith in
    step_left c.args.bytes.now c.args.end c.args.at c.args.it _ _ e c.in_ok-push_byte_line.ensures

pub returns-in_ok-it-2 : goal.returns-in_ok-it-2
returns-in_ok-it-2 c =
    let e : c.length_at-length.result ≡ length_at c.args.bytes.now c.args.at = c.length_at-length.ensures in
    let l : c.args.at + length_at c.args.bytes.now c.args.at ≤ c.args.end = omega arith in
    subst (λ (n : ℕ). IsStep c.args.bytes.now c.args.end c.args.at c.args.it (c.args.at + n) c.in_ok-it-2.it c.args.text.now.items c.push_whole.new.text.items) (sym e)
    (step_whole c.args.bytes.now c.args.end c.args.at c.args.it c.in_ok-it-2.it _ _ l c.in_ok-it-2.ensures)
