use Rattle.std.proofs.Common.{map, length, string_bytes, refl, inl, sym, ap, ◌∙◌, arith}
use Rattle.std.proofs.lemmas.Bool.{false≢true}
use Rattle.std.proofs.lemmas.List.{length-map}
use Rattle.guard_words.specs.Words.{listed}
use Rattle.guard_words.specs.Arranged.{value_in}
use Rattle.guard_words.specs.Tasks.{skips_by}
use Rattle.guard_words.specs.declared.options.OptionName.TheVariants as option
use Rattle.guard_words.proofs.OneMeaning.{only_run, run_is_read, is_run, listed_read, skips_read}
use Rattle.guard_words.proofs.words.run_of.Goals as goal

pub returns-in_default-said_of : goal.returns-in_default-said_of
returns-in_default-said_of c =
    let read = c.in-Some.ensures in
    only_run (map string_bytes c.args.words.now) (λ r h.
    let said = run_is_read (map string_bytes c.args.words.now) read.0 (map string_bytes c.in-Some.read.files.now) c.in-Some.read.options read.1 read.2 r h in
    c.in_default-said_of.ensures r said.0)

pub returns-in_default-schedule_of : goal.returns-in_default-schedule_of
returns-in_default-schedule_of c =
    let read = c.in-Some.ensures in
    only_run (map string_bytes c.args.words.now) (λ r h.
    let said = run_is_read (map string_bytes c.args.words.now) read.0 (map string_bytes c.in-Some.read.files.now) c.in-Some.read.options read.1 read.2 r h in
    c.in_default-schedule_of.ensures r.skips said.0.skips)

pub returns-then-not-are_inputs : goal.returns-then-not-are_inputs
returns-then-not-are_inputs c =
    let read = c.in-Some.ensures in
    only_run (map string_bytes c.args.words.now) (λ r h.
    let said = run_is_read (map string_bytes c.args.words.now) read.0 (map string_bytes c.in-Some.read.files.now) c.in-Some.read.options read.1 read.2 r h in
    let count = sym (ap length said.1) ∙ length-map c.in-Some.read.files.now string_bytes in
    let some = h.some in
    let few = h.few in
    false≢true (c.if-not-are_inputs.ensures.1 (omega arith, omega arith)))

pub returns-in_default-skipped_by : goal.returns-in_default-skipped_by
returns-in_default-skipped_by c =
    let read = c.in-Some.ensures in
    let o = c.in-Some.read.options in
    let few = c.if-not-are_inputs.ensures.0 refl in
    let low = few.0 in
    let high = few.1 in
    let count = length-map c.in-Some.read.files.now string_bytes in
    let plan = listed_read (value_in o option.Skip) (value_in o option.Seed) c.in-Some-schedule_of.schedule c.in-Some-schedule_of.ensures c.in_default-skipped_by.ensures in
    let h = is_run (map string_bytes c.args.words.now) read.0 (map string_bytes c.in-Some.read.files.now) o c.in-Some-said_of.said (listed plan.0) read.1 read.2
    c.in-Some-said_of.ensures plan.1 (omega arith) (omega arith) in
    inl (_, plan.0, h, refl)

pub returns : goal.returns
returns c =
    let read = c.in-Some.ensures in
    let o = c.in-Some.read.options in
    let few = c.if-not-are_inputs.ensures.0 refl in
    let low = few.0 in
    let high = few.1 in
    let count = length-map c.in-Some.read.files.now string_bytes in
    let skips = skips_read (value_in o option.Skip) (value_in o option.Seed) c.in-Some-schedule_of.schedule c.in-Some-skipped_by.skipped c.in-Some-schedule_of.ensures c.in-Some-skipped_by.ensures in
    is_run (map string_bytes c.args.words.now) read.0 (map string_bytes c.in-Some.read.files.now) o c.in-Some-said_of.said (skips_by c.in-Some-skipped_by.skipped) read.1 read.2
    c.in-Some-said_of.ensures skips (omega arith) (omega arith)
