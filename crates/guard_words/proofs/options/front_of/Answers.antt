use Rattle.std.proofs.Common.{◌≡◌, ◌∷◌, ◌++◌, Some, map, string_bytes, sym, ap, ◌∙◌, arith}
use Rattle.std.proofs.lemmas.Str.Pattern.{split_parts}
use Rattle.guard_words.specs.declared.options.Front.{Front}
use Rattle.guard_words.proofs.Fronts.{joined_is_read}
use Rattle.guard_words.proofs.options.front_of.Goals as goal

pub returns-in-Some : goal.returns-in-Some
returns-in-Some c =
    let words = ap (λ ws. map string_bytes ws) c.in_ok-word.ensures.cases.0 in
    let cut = split_parts 61 c.as_str.result.now (Some (c.in-Some.name, c.in-Some.value)) c.in-Some.ensures.cases (omega arith) in
    let word : string_bytes c.in_ok-word.word.now ≡ c.in-Some.name.now ++ 61 ∷ c.in-Some.value.now = sym c.as_str.ensures.value ∙ cut.0 in
    let d = c.joined_front.ensures in
    joined_is_read (map string_bytes c.args.words.now) (map string_bytes c.in_ok-word.rest.now) (string_bytes c.in_ok-word.word.now) c.in-Some.name.now c.in-Some.value.now
    words word cut.1 (λ (f : Front). map string_bytes f.rest.now) c.joined_front.result (λ (f : Front). f.name) (λ (f : Front). f.value.now) c.joined_front.ensures
