use Rattle.std.proofs.Common.{◌≡◌, ◌++◌, ◌∷◌, [], ◌∙◌, ◌+◌, ap, sym, List, ℕ, take, map, subst}
use Rattle.std.specs.Prelude.{All}
use Rattle.std.proofs.lemmas.List.{map-append, take_more}
use Rattle.std.proofs.lemmas.List.Elements.{All-nil, All-cons, All-append}
use Rattle.elf_model.specs.declared.objects.Section.{Section}
use Rattle.elf_model.specs.Canonical.{FileSection, own_section}
use Rattle.elf_model.specs.Fits.{SectionFits}
use Rattle.elf_write.specs.Writing.{IsWritten, file_section}
use Rattle.elf_write.proofs.sections.put_own.Goals as goal

pub loop-s-preserved : goal.loop-s-preserved
loop-s-preserved c =
    let xs : List Section = take c.loop-s.s-index c.args.sections.now in
    let s : Section = c.s-item.result in
    let more : take (c.loop-s.s-index + 1) c.args.sections.now ≡ xs ++ s ∷ [] = take_more c.args.sections.now c.loop-s.s-index s c.loop-s-test.true ∙ ap (λ (x : Section). xs ++ x ∷ []) (sym c.s-item.is) in
    let own : file_section c.bytes.result.now c.own_head.result c.as_slice.result.now ≡ own_section s =
    ap (λ (n : List ℕ). file_section n c.own_head.result c.as_slice.result.now) c.bytes.ensures ∙ ap (λ (b : List ℕ). file_section s.name c.own_head.result b) c.as_slice.ensures ∙ c.own_head.ensures.section in
    let all : map own_section xs ++ file_section c.bytes.result.now c.own_head.result c.as_slice.result.now ∷ [] ≡ map own_section (take (c.loop-s.s-index + 1) c.args.sections.now) =
    ap (λ (f : FileSection). map own_section xs ++ f ∷ []) own ∙ sym (map-append own_section xs (s ∷ [])) ∙ ap (map own_section) (sym more) in
    record {
      written = subst (IsWritten c.put_named.new.layout c.put_named.new.names) all (c.in_ok-put_named.ensures (map own_section xs) c.loop-s.invariant.written);
      fit = subst (All SectionFits) (sym more) (All-append SectionFits xs (s ∷ []) c.loop-s.invariant.fit (All-cons SectionFits s [] c.own_head.ensures.fits (All-nil SectionFits)));
    }
