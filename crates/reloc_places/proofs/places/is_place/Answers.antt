use Rattle.std.proofs.Common.{◌<◌, ◌≤◌, ℕ, length, sym, ◌∙◌, subst, arith, List}
use Rattle.std.proofs.lemmas.Bool.{true≢false}
use Rattle.std.proofs.lemmas.Option.{none-some}
use Rattle.reloc_places.proofs.RelocPlaces.{data_place, word_place, instr_place, place_instr, place_start}
use Rattle.reloc_places.proofs.StartFacts.{start_inside}
use Rattle.reloc_places.specs.Relocations.IsPlace.{in_code}
use Rattle.reloc_places.proofs.places.is_place.Goals as goal

pub fits_instr-requires-clause-before : goal.fits_instr-requires-clause-before
fits_instr-requires-clause-before c =
    let start = (c.requires.starts c.args.r.now.section c.args.r.now.offset c.in-Some.end.now).0 (sym c.in-Some.ensures.value) in
    let inside = start_inside c.args.o.now c.args.r.now.section c.args.r.now.offset c.in-Some.end.now c.sound.ensures c.requires.within start in
    let low : c.args.r.now.offset < c.in-Some.end.now = inside.before_end in
    omega (arith, low)

pub fits_instr-requires-clause-inside : goal.fits_instr-requires-clause-inside
fits_instr-requires-clause-inside c =
    let start = (c.requires.starts c.args.r.now.section c.args.r.now.offset c.in-Some.end.now).0 (sym c.in-Some.ensures.value) in
    let inside = start_inside c.args.o.now c.args.r.now.section c.args.r.now.offset c.in-Some.end.now c.sound.ensures c.requires.within start in
    subst (λ (b : List ℕ). c.in-Some.end.now ≤ length b) (sym c.bytes_of.ensures) inside.in_bytes

pub returns-then-holds_data : goal.returns-then-holds_data
returns-then-holds_data c = (
  λ _. data_place c.args.o.now c.args.r.now (sym c.is_word.ensures ∙ c.if-is_word.true) (sym c.holds_data.ensures ∙ c.if-holds_data.true),
  λ _. c.if-holds_data.true,
)

pub returns-else-holds_data : goal.returns-else-holds_data
returns-else-holds_data c =
    let word = sym c.is_word.ensures ∙ c.if-is_word.true in
    let words = c.requires.words c.args.r.now.section c.args.r.now.offset in (
      λ h. in_code word (words.0 (sym c.contains.ensures ∙ h)),
      λ p. c.contains.ensures ∙ words.1 (word_place c.args.o.now c.args.r.now word (sym c.holds_data.ensures ∙ c.if-holds_data.false) p),
    )

pub returns-in-None : goal.returns-in-None
returns-in-None c = (
  λ h. absurd (true≢false (sym h)),
  λ p. let s = place_start c.args.o.now c.args.r.now (sym c.is_word.ensures ∙ c.if-is_word.false) p in
      absurd (none-some s.0 (c.in-None.ensures.value ∙ (c.requires.starts c.args.r.now.section c.args.r.now.offset s.0).1 s.1)),
)

pub returns-in-Some : goal.returns-in-Some
returns-in-Some c =
    let start = (c.requires.starts c.args.r.now.section c.args.r.now.offset c.in-Some.end.now).0 (sym c.in-Some.ensures.value) in (
      λ h. instr_place c.args.o.now c.args.r.now c.in-Some.end.now c.bytes_of.result.now c.bytes_of.ensures start (sym c.fits_instr.ensures ∙ h),
      λ p. c.fits_instr.ensures ∙ place_instr c.args.o.now c.args.r.now c.in-Some.end.now c.bytes_of.result.now c.bytes_of.ensures (sym c.is_word.ensures ∙ c.if-is_word.false) start p,
    )
