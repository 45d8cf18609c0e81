use Rattle.std.proofs.Common.{rules, ◌≡◌, ap, ap₂, ◌∙◌, codes, List, ℕ, map, string_bytes}
use Rattle.clap.specs.Words.{App, app_of, first_of, found_of, is_simple, matches_of, rule_of, takes, with_rule}
use Rattle.clap.proofs.WalkLemmas.{first_value-rows}
use Rattle.guard_words.proofs.FileWords.{file_rule, list_app, list_is_taken, list_is_found, list_is_simple}
use Rattle.guard_words.proofs.file_word.file_word.Goals as goal

pub returns-in-Ok-clause-file : goal.returns-in-Ok-clause-file
returns-in-Ok-clause-file c = λ input is.
    let words : List (List ℕ) = map string_bytes c.args.words.now in
    let file_is : rule_of c.action-file.result ≡ file_rule = search rules in
    let app_is : app_of c.in_ok-command.command ≡ list_app = c.in_ok-command.ensures.shape (search rules) ∙ ap₂ with_rule c.new-2.ensures.app file_is in
    c.get_str.ensures ∙ first_value-rows (found_of c.in-Ok.matches) (codes "file") ∙ ap (first_of (codes "file")) ((c.in-Ok.ensures.matches (ap is_simple app_is ∙ list_is_simple)).0)
    ∙ ap (λ (a : App). first_of (codes "file") (matches_of a words)) app_is ∙ list_is_found words input is

pub returns-in-Err-clause-failed : goal.returns-in-Err-clause-failed
returns-in-Err-clause-failed c = λ input is.
    let words : List (List ℕ) = map string_bytes c.args.words.now in
    let file_is : rule_of c.action-file.result ≡ file_rule = search rules in
    let app_is : app_of c.in_ok-command.command ≡ list_app = c.in_ok-command.ensures.shape (search rules) ∙ ap₂ with_rule c.new-2.ensures.app file_is in
    c.in-Err.ensures.passes (ap (λ (a : App). takes a words) app_is ∙ list_is_taken words input is)
