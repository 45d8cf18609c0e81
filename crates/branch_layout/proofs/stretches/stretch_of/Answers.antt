use Rattle.std.proofs.Common.{◌≡◌, ◌≤◌, ◌+◌, ◌*◌, length, take, ap, sym, ◌∙◌, arith, refl}
use Rattle.std.proofs.lemmas.List.{length-take-le}
use Rattle.branch_layout.specs.Copies.{copies_of, length_of, bytes_before}
use Rattle.branch_layout.specs.Placings.{landing_of}
use Rattle.branch_layout.proofs.CopyFacts.{copies_before, few_bytes, few_widths, short_take}
use Rattle.branch_layout.proofs.stretches.stretch_of.Goals as goal

pub length_of-requires : goal.length_of-requires
length_of-requires c =
    let few = few_widths c.args.unit.now.seq.steps c.steps.result.now c.in_ok-copies.copies.items c.deref.result.now c.in_ok-widths.widths.items c.steps.ensures.steps c.steps.ensures.few c.requires.copies c.in_ok-copies.ensures c.deref.ensures.value c.in_ok-widths.ensures in
    let shown : length c.deref-2.result.now ≡ length c.in_ok-widths.widths.items = ap length c.deref-2.ensures.value in
    let bound = few.1 in
    omega arith

pub overflow_add-end : goal.overflow_add-end
overflow_add-end c =
    let few = few_widths c.args.unit.now.seq.steps c.steps.result.now c.in_ok-copies.copies.items c.deref.result.now c.in_ok-widths.widths.items c.steps.ensures.steps c.steps.ensures.few c.requires.copies c.in_ok-copies.ensures c.deref.ensures.value c.in_ok-widths.ensures in
    let shown : length c.deref-2.result.now ≡ length c.in_ok-widths.widths.items = ap length c.deref-2.ensures.value in
    let bytes : length_of c.deref-2.result.now ≤ 4 * length c.deref-2.result.now = few_bytes c.deref-2.result.now in
    let bound = few.1 in
    let total = c.length_of.ensures in
    omega arith

pub slice_bounds-length_of-end : goal.slice_bounds-length_of-end
slice_bounds-length_of-end c =
    let few = few_widths c.args.unit.now.seq.steps c.steps.result.now c.in_ok-copies.copies.items c.deref.result.now c.in_ok-widths.widths.items c.steps.ensures.steps c.steps.ensures.few c.requires.copies c.in_ok-copies.ensures c.deref.ensures.value c.in_ok-widths.ensures in
    let shown : length c.deref-3.result.now ≡ length c.in_ok-widths.widths.items = ap length c.deref-3.ensures.value in
    let before : landing_of c.args.unit.now ≤ length (copies_of c.args.unit.now.seq.steps) = copies_before c.args.unit.now.seq.steps c.args.unit.now.seq.landing in
    let count = few.0 in
    let at = c.in_ok-landing.ensures in
    let low : c.in_ok-landing.landing ≤ length c.deref-3.result.now = omega arith in
    sym (length-take-le c.in_ok-landing.landing c.deref-3.result.now low)

pub length_of-requires-2 : goal.length_of-requires-2
length_of-requires-2 c =
    let few = few_widths c.args.unit.now.seq.steps c.steps.result.now c.in_ok-copies.copies.items c.deref.result.now c.in_ok-widths.widths.items c.steps.ensures.steps c.steps.ensures.few c.requires.copies c.in_ok-copies.ensures c.deref.ensures.value c.in_ok-widths.ensures in
    let shown : length c.deref-3.result.now ≡ length c.in_ok-widths.widths.items = ap length c.deref-3.ensures.value in
    let short : length (take c.in_ok-landing.landing c.deref-3.result.now) ≤ length c.deref-3.result.now = short_take c.in_ok-landing.landing c.deref-3.result.now in
    let bound = few.1 in
    omega arith

pub overflow_add-back : goal.overflow_add-back
overflow_add-back c =
    let few = few_widths c.args.unit.now.seq.steps c.steps.result.now c.in_ok-copies.copies.items c.deref.result.now c.in_ok-widths.widths.items c.steps.ensures.steps c.steps.ensures.few c.requires.copies c.in_ok-copies.ensures c.deref.ensures.value c.in_ok-widths.ensures in
    let shown : length c.deref-3.result.now ≡ length c.in_ok-widths.widths.items = ap length c.deref-3.ensures.value in
    let short : length (take c.in_ok-landing.landing c.deref-3.result.now) ≤ length c.deref-3.result.now = short_take c.in_ok-landing.landing c.deref-3.result.now in
    let bytes : length_of (take c.in_ok-landing.landing c.deref-3.result.now) ≤ 4 * length (take c.in_ok-landing.landing c.deref-3.result.now) = few_bytes (take c.in_ok-landing.landing c.deref-3.result.now) in
    let bound = few.1 in
    let total = c.length_of-2.ensures in
    omega arith

pub returns-clause-is : goal.returns-clause-is
returns-clause-is c =
    let few = few_widths c.args.unit.now.seq.steps c.steps.result.now c.in_ok-copies.copies.items c.deref.result.now c.in_ok-widths.widths.items c.steps.ensures.steps c.steps.ensures.few c.requires.copies c.in_ok-copies.ensures c.deref.ensures.value c.in_ok-widths.ensures in
    record {
      count = few.0;
      end = ap (λ n. c.args.start + n) (c.length_of.ensures ∙ ap length_of c.deref-2.ensures.value);
      back = ap (λ n. c.args.start + n) (c.length_of-2.ensures ∙ ap (λ l. length_of (take c.in_ok-landing.landing l)) c.deref-3.ensures.value ∙ ap (λ k. bytes_before c.in_ok-widths.widths.items k) c.in_ok-landing.ensures);
      island = refl;
    }

pub returns-clause-small : goal.returns-clause-small
returns-clause-small c =
    let few = few_widths c.args.unit.now.seq.steps c.steps.result.now c.in_ok-copies.copies.items c.deref.result.now c.in_ok-widths.widths.items c.steps.ensures.steps c.steps.ensures.few c.requires.copies c.in_ok-copies.ensures c.deref.ensures.value c.in_ok-widths.ensures in
    let shown : length c.deref-2.result.now ≡ length c.in_ok-widths.widths.items = ap length c.deref-2.ensures.value in
    let bytes : length_of c.deref-2.result.now ≤ 4 * length c.deref-2.result.now = few_bytes c.deref-2.result.now in
    let bound = few.1 in
    let total = c.length_of.ensures in
    omega arith
