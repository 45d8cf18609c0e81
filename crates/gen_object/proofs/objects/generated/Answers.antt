use Rattle.std.proofs.Common.{[], ◌∷◌, length, sym, ap, ◌∙◌, subst, true, ◌≡◌, arith}
use Rattle.elf_model.specs.declared.refusals.TheConstants.Limit.{INPUT}
use Rattle.elf_model.specs.declared.objects.Section.{Section}
use Rattle.elf_model.specs.Objects.{ObjectParts, is_within}
use Rattle.gen_object.specs.Generated.{text_section, generated}
use Rattle.gen_object.proofs.Lengths.{code_length}
use Rattle.gen_object.proofs.Sound.{made_is, is_small}
use Rattle.gen_object.proofs.objects.generated.Goals as goal

pub text_section-requires : goal.text_section-requires
text_section-requires c = omega (arith, ap length c.in_ok-code_bytes.ensures, code_length c.args.seed c.args.count c.requires.some)

pub unreachable-requires : goal.unreachable-requires
unreachable-requires c =
    let sections = c.in_ok-sections.ensures.items ∙ ap (λ (s : Section). s ∷ []) (c.in_ok-text_section.ensures ∙ ap text_section c.in_ok-code_bytes.ensures) in
    let made = made_is c.args.seed c.args.count _ _ _ c.requires.some c.requires.few sections c.in_ok-symbols.ensures c.in_ok-relocs.ensures in
    absurd (cc (sym c.in-None.is ∙ c.object.ensures ∙ made))

pub returns-clause-within : goal.returns-clause-within
returns-clause-within c =
    let sections = c.in_ok-sections.ensures.items ∙ ap (λ (s : Section). s ∷ []) (c.in_ok-text_section.ensures ∙ ap text_section c.in_ok-code_bytes.ensures) in
    let made = made_is c.args.seed c.args.count _ _ _ c.requires.some c.requires.few sections c.in_ok-symbols.ensures c.in_ok-relocs.ensures in
    let same : c.in-Some.object ≡ generated c.args.seed c.args.count = cc (sym c.in-Some.is ∙ c.object.ensures ∙ made) in
    subst (λ (o : ObjectParts). is_within o INPUT ≡ true) (sym same) (is_small c.args.seed c.args.count c.requires.some c.requires.few)
