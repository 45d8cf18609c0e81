use Rattle.std.proofs.Common.{◌≡◌, ◌+◌, ◌-◌, ℕ, Bool, cond, not, ◌&&◌, length, filter, sym, ap, ◌∙◌, arith}
use Rattle.elf_model.specs.Files.{from, header, header_count, is_table, is_dropped}
use Rattle.elf_read.proofs.BuiltLists.{counted_more}
use Rattle.elf_read.proofs.whole.dropped.Goals as goal
use Rattle.elf_read.proofs.whole.dropped.Goals.{then-is_counted, else-is_counted}

pub loop-h-preserved : goal.loop-h-preserved
loop-h-preserved c =
    let b = c.args.bytes.now in
    let p : ℕ → Bool = λ h. not (is_table (header b h).kind) && is_dropped b h in
    let h = c.loop-h.h in
    let more = counted_more p h c.loop-h.auto.h in
    elim c.if-is_counted.branch [
      | then-is_counted w ↦ record {
        done = w.n-is ∙ ap (λ (n : ℕ). n + 1) c.loop-h.invariant.done ∙ sym (more ∙ ap (λ (t : Bool). length (filter p (from 1 (h - 1))) + cond t 1 0) (sym c.is_counted.ensures ∙ w.if-is_counted.true));
        small = omega (arith, w.n-is);
        near = omega arith;
      }
      | else-is_counted w ↦ record {
        done = w.n-is ∙ c.loop-h.invariant.done ∙ sym (more ∙ ap (λ (t : Bool). length (filter p (from 1 (h - 1))) + cond t 1 0) (sym c.is_counted.ensures ∙ w.if-is_counted.false) ∙ omega arith);
        small = omega (arith, w.n-is);
        near = omega arith;
      }
    ]

pub returns : goal.returns
returns c =
    let b = c.args.bytes.now in
    let all : c.loop-h.h - 1 ≡ header_count b - 1 = omega (arith, c.count-h-end.ensures.number) in
    c.loop-h.invariant.done ∙ ap (λ (n : ℕ). length (filter (λ h. not (is_table (header b h).kind) && is_dropped b h) (from 1 n))) all
