use Rattle.std.proofs.Common.{rules, refl, sym, Ok, Err}
use Rattle.std.proofs.lemmas.Bool.{true≢false}
use Rattle.std.proofs.lemmas.List.Sorted.{answers_always}
use Rattle.flow_recover.specs.WholeFlows.{place_of_word}
use Rattle.emit_object.proofs.TargetFacts.{searched_word, word_found, no_word}
use Rattle.emit_object.proofs.lasting.has_word.Goals as goal

pub returns-in-Ok : goal.returns-in-Ok
returns-in-Ok c = (
  λ h. word_found c.args.f.now c.words.result.now c.args.section c.args.offset c.words.ensures c.in-Ok.field-0
      ((searched_word c.args.f.now c.words.result.now c.args.section c.args.offset c.requires c.words.ensures (Ok c.in-Ok.field-0) c.in-Ok.ensures.bound
      (c.in-Ok.ensures.position place_of_word (answers_always _ _ _ (λ f a r g called. search rules))) c.in-Ok.field-0).0 refl),
  λ w. refl,
)

pub returns-in-Err : goal.returns-in-Err
returns-in-Err c = (
  λ h. absurd (true≢false (sym h)),
  λ w. absurd (no_word c.args.f.now c.words.result.now c.args.section c.args.offset c.words.ensures (Err c.in-Err.field-0)
      (searched_word c.args.f.now c.words.result.now c.args.section c.args.offset c.requires c.words.ensures (Err c.in-Err.field-0) c.in-Err.ensures.bound
      (c.in-Err.ensures.position place_of_word (answers_always _ _ _ (λ f a r g called. search rules)))) refl w),
)
