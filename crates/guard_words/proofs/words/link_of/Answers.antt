use Rattle.std.proofs.Common.{◌≡◌, ◌∷◌, map, length, string_bytes, refl, sym, ap, ◌∙◌, arith}
use Rattle.std.proofs.lemmas.Bool.{false≢true}
use Rattle.std.proofs.lemmas.List.{length-map}
use Rattle.guard_words.specs.Words.{LinkWords}
use Rattle.guard_words.proofs.OneMeaning.{only_link, link_is_read, is_link}
use Rattle.guard_words.proofs.words.link_of.Goals as goal

pub returns-then-not-is_placing : goal.returns-then-not-is_placing
returns-then-not-is_placing c =
    let read = c.in-Some.ensures in
    only_link (map string_bytes c.args.words.now) (λ l h.
    let said = link_is_read (map string_bytes c.args.words.now) read.0 (map string_bytes c.in-Some.read.files.now) c.in-Some.read.options read.1 read.2 l h in
    false≢true (c.if-not-is_placing.ensures.1 said.0))

pub returns-in_default-placement_of : goal.returns-in_default-placement_of
returns-in_default-placement_of c =
    let read = c.in-Some.ensures in
    only_link (map string_bytes c.args.words.now) (λ l h.
    let said = link_is_read (map string_bytes c.args.words.now) read.0 (map string_bytes c.in-Some.read.files.now) c.in-Some.read.options read.1 read.2 l h in
    c.in_default-placement_of.ensures l.at said.1)

pub returns-in_default-split_first : goal.returns-in_default-split_first
returns-in_default-split_first c =
    let read = c.in-Some.ensures in
    only_link (map string_bytes c.args.words.now) (λ l h.
    let said = link_is_read (map string_bytes c.args.words.now) read.0 (map string_bytes c.in-Some.read.files.now) c.in-Some.read.options read.1 read.2 l h in
    let none = c.in_default-split_first.ensures.cases in
    absurd (omega (arith, ap length said.2, length-map c.in-Some.read.files.now string_bytes)))

pub returns-then-not-are_inputs : goal.returns-then-not-are_inputs
returns-then-not-are_inputs c =
    let read = c.in-Some.ensures in
    only_link (map string_bytes c.args.words.now) (λ l h.
    let said = link_is_read (map string_bytes c.args.words.now) read.0 (map string_bytes c.in-Some.read.files.now) c.in-Some.read.options read.1 read.2 l h in
    let files = ap (λ ws. map string_bytes ws) c.in-Some-split_first.ensures.cases.0 in
    let e : l.output ∷ l.inputs ≡ string_bytes c.in-Some-split_first.output.now ∷ map string_bytes c.in-Some-split_first.inputs.now = sym said.2 ∙ files in
    let same : l.inputs ≡ map string_bytes c.in-Some-split_first.inputs.now = cc in
    let count = ap length same ∙ length-map c.in-Some-split_first.inputs.now string_bytes in
    let some = h.some in
    let few = h.few in
    false≢true (c.if-not-are_inputs.ensures.1 (omega arith, omega arith)))

pub returns : goal.returns
returns c =
    let read = c.in-Some.ensures in
    let files = ap (λ ws. map string_bytes ws) c.in-Some-split_first.ensures.cases.0 in
    let output = c.as_str.ensures.value in
    let l : LinkWords = record { at = c.in-Some-placement_of.at; output = c.as_str.result.now; inputs = map string_bytes c.in-Some-split_first.inputs.now } in
    let e : map string_bytes c.in-Some.read.files.now ≡ l.output ∷ l.inputs = files ∙ ap (λ w. w ∷ l.inputs) (sym output) in
    let count = length-map c.in-Some-split_first.inputs.now string_bytes in
    let few = c.if-not-are_inputs.ensures.0 refl in
    let low = few.0 in
    let high = few.1 in
    is_link (map string_bytes c.args.words.now) read.0 (map string_bytes c.in-Some.read.files.now) c.in-Some.read.options l read.1 read.2
    (c.if-not-is_placing.ensures.0 refl) c.in-Some-placement_of.ensures e (omega arith) (omega arith)
