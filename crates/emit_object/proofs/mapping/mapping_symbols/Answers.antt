use Rattle.std.proofs.Common.{◌≡◌, ◌↔◌, ◌++◌, ◌∙◌, ap, subst, map, List, ℕ}
use Rattle.std.specs.Prelude.{Contains}
use Rattle.elf_model.specs.declared.objects.Section.{Section}
use Rattle.hardened_form.specs.MappingSymbols.{mapping_symbol}
use Rattle.emit_object.specs.WordPlaces.{begins, IsSetOf}
use Rattle.emit_object.specs.Marks.{word_marks, first_marks, mapping_at}
use Rattle.emit_object.proofs.MappingFacts.{all_words, are_mappings}
use Rattle.emit_object.proofs.mapping.mapping_symbols.Goals as goal

pub returns : goal.returns
returns c = λ h sized.
    let words = c.in_ok-words.words in
    let starts = c.in_ok-begins.begins in
    let every : List (ℕ × ℕ) = all_words c.args.f.now c.args.l.now c.requires.matches in
    let are_words : IsSetOf words every = subst (IsSetOf words) (c.deref.ensures.value ∙ c.in_ok-all.ensures) c.in_ok-words.ensures in
    let are_starts : IsSetOf starts (begins c.args.l.now.units) = subst (IsSetOf starts) (c.deref-2.ensures.value ∙ c.in_ok-starts.ensures ∙ ap begins c.units.ensures) c.in_ok-begins.ensures in
    let marks : word_marks words starts c.deref-3.result.now ++ first_marks words c.sizes.result.now 0 c.sections.result.now ≡ word_marks words starts every ++ first_marks words c.args.l.now.sizes 0 c.args.o.now.sections =
    ap (λ (l : List (ℕ × ℕ)). word_marks words starts l ++ first_marks words c.sizes.result.now 0 c.sections.result.now) (c.deref-3.ensures.value ∙ c.in_ok-all.ensures)
    ∙ ap (λ (l : List ℕ). word_marks words starts every ++ first_marks words l 0 c.sections.result.now) c.sizes.ensures
    ∙ ap (λ (l : List Section). word_marks words starts every ++ first_marks words c.args.l.now.sizes 0 l) c.sections.ensures in (
      map (mapping_at words) c.in_ok-places.places.items,
      are_mappings c.args.f.now c.args.l.now c.requires.matches words starts are_words are_starts c.args.o.now h sized c.in_ok-places.places.items
          (λ p. subst (λ (l : List (ℕ × ℕ)). Contains c.in_ok-places.places.items p ↔ Contains l p) marks (c.in_ok-places.ensures.exact p)) c.in_ok-places.ensures.rise,
      c.in_ok-list.ensures ∙ ap (λ (l : List (ℕ × ℕ)). map mapping_symbol (map (mapping_at words) l)) c.deref-4.ensures.value,
    )
