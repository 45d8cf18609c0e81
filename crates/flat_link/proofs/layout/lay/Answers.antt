use Rattle.std.proofs.Common.{◌≡◌, List, map, refl, sym, ap, ◌∙◌, subst}
use Rattle.std.specs.Prelude.{false}
use Rattle.elf_model.specs.declared.refusals.Deny.{Deny}
use Rattle.elf_model.specs.Objects.{is_code, is_data}
use Rattle.thumb_table.specs.Layouts.{Placed, all_chosen}
use Rattle.flat_link.specs.Lots.{placed_of}
use Rattle.flat_link.specs.Placing.{can_fit}
use Rattle.flat_link.specs.Layout.{IsFitDenial}
use Rattle.flat_link.proofs.EndFacts.{too_long}
use Rattle.flat_link.proofs.LayoutFacts.{sound_lots, few_lots, few_sections}
use Rattle.flat_link.proofs.layout.lay.Goals as goal

pub can_fit-requires-clause-code : goal.can_fit-requires-clause-code
can_fit-requires-clause-code c = sound_lots is_code c.args.objects.now c.deref.result.now c.requires.sound (ap (map placed_of) c.deref.ensures.value ∙ c.in_ok-code.ensures)

pub can_fit-requires-clause-sound : goal.can_fit-requires-clause-sound
can_fit-requires-clause-sound c = sound_lots is_data c.args.objects.now c.deref-2.result.now c.requires.sound (ap (map placed_of) c.deref-2.ensures.value ∙ c.in_ok-data.ensures)

pub can_fit-requires-clause-few_code : goal.can_fit-requires-clause-few_code
can_fit-requires-clause-few_code c =
    few_lots is_code c.args.objects.now c.deref.result.now (ap (map placed_of) c.deref.ensures.value ∙ c.in_ok-code.ensures) c.requires.few (few_sections c.args.objects.now c.requires.within)

pub can_fit-requires-clause-few : goal.can_fit-requires-clause-few
can_fit-requires-clause-few c =
    few_lots is_data c.args.objects.now c.deref-2.result.now (ap (map placed_of) c.deref-2.ensures.value ∙ c.in_ok-data.ensures) c.requires.few (few_sections c.args.objects.now c.requires.within)

pub returns-clause-refused : goal.returns-clause-refused
returns-clause-refused c =
    let objects = c.args.objects.now in
    let at = c.args.at.now in
    let code : map placed_of c.deref.result.now ≡ all_chosen is_code 0 objects = ap (map placed_of) c.deref.ensures.value ∙ c.in_ok-code.ensures in
    let memory : map placed_of c.deref-2.result.now ≡ all_chosen is_data 0 objects = ap (map placed_of) c.deref-2.ensures.value ∙ c.in_ok-data.ensures in
    let long : can_fit (all_chosen is_code 0 objects) (all_chosen is_data 0 objects) at ≡ false =
    sym (ap (λ (l : List Placed). can_fit l (map placed_of c.deref-2.result.now) at) code ∙ ap (λ (l : List Placed). can_fit (all_chosen is_code 0 objects) l at) memory) ∙ (sym c.can_fit.ensures ∙ c.if-can_fit.false) in
    subst (λ (why : Deny). IsFitDenial objects at why) (sym c.does_not_fit.ensures) (refl, too_long objects at c.requires.sound long)
