use Rattle.std.proofs.Common.{◌≡◌, ℕ, true, List, sym, subst, Some, None}
use Rattle.elf_model.specs.declared.objects.MapRow.{MapRow}
use Rattle.elf_model.specs.Objects.{ObjectParts, is_object, made_of}
use Rattle.hardened_form.specs.HardenedForms.{IsHardenedForm}
use Rattle.branch_layout.specs.Laid.{laid_places}
use Rattle.emit_object.specs.NewSections.{AreNewSections}
use Rattle.emit_object.specs.UnitCopies.{all_carriers, HaveCodes}
use Rattle.emit_object.proofs.EmitFacts.{Given, AreParts, whole, is_whole, have_codes, is_form}
use Rattle.emit_object.proofs.FlowGives.{readable}
use Rattle.emit_object.proofs.FormFacts.{made_some, not_none}
use Rattle.emit_object.proofs.InsideFacts.{input_within}
use Rattle.emit_object.proofs.LayoutGives.{matches, are_low, are_small, units_fit}
use Rattle.emit_object.proofs.emitting.emit.Goals as goal

pub rows-requires-clause-units : goal.rows-requires-clause-units
rows-requires-clause-units c = units_fit c.args.o.now c.args.f.now c.args.l.now c.requires.can

pub new_sections-requires-clause-readable : goal.new_sections-requires-clause-readable
new_sections-requires-clause-readable c = readable c.args.o.now c.args.f.now c.sound.ensures c.requires.flow (input_within c.args.o.now c.requires.within)

pub new_symbols-requires-clause-matches : goal.new_symbols-requires-clause-matches
new_symbols-requires-clause-matches c = matches c.args.o.now c.args.f.now c.args.l.now c.requires.can

pub new_symbols-requires-clause-low : goal.new_symbols-requires-clause-low
new_symbols-requires-clause-low c = are_low c.args.o.now c.args.f.now c.args.l.now c.requires.can

pub new_symbols-requires-clause-small : goal.new_symbols-requires-clause-small
new_symbols-requires-clause-small c = are_small c.args.o.now c.args.f.now c.args.l.now c.requires.can

pub unreachable-requires : goal.unreachable-requires
unreachable-requires c =
    let given : Given c.args.o.now c.args.f.now c.args.l.now = record { sound = c.sound.ensures; within = c.requires.within; flow = c.requires.flow; can = c.requires.can } in
    let made = c.in_ok-list.field-0 in
    let parts : AreParts c.args.o.now c.args.f.now c.args.l.now c.in_ok-code.code.items c.in_ok-sections.sections.items made.list.items made.targets.items made.first_target made.numbers.items = record {
      rows = c.in_ok-rows.rows.items;
      map = c.in_ok-rows.ensures.exact;
      count = c.in_ok-code.ensures.count;
      sized = c.in_ok-code.ensures.sizes;
      made = subst (λ (rs : List MapRow). AreNewSections c.args.o.now c.args.l.now.sizes c.in_ok-code.code.items rs c.in_ok-sections.sections.items) c.deref.ensures.value c.in_ok-sections.ensures;
      named = c.in_ok-list.ensures.symbols;
      at_home = c.in_ok-list.ensures.sound;
    } in
    let h : ObjectParts = whole c.args.o.now c.args.f.now c.args.l.now given c.in_ok-code.code.items c.in_ok-sections.sections.items made.list.items made.targets.items made.first_target made.numbers.items parts c.in_ok-relocs.relocs.items in
    let sound : is_object h ≡ true = is_whole c.args.o.now c.args.f.now c.args.l.now given c.in_ok-code.code.items c.in_ok-sections.sections.items made.list.items made.targets.items made.first_target made.numbers.items parts
    c.in_ok-relocs.relocs.items c.deref-2.result.now c.deref-2.ensures.value c.deref-3.result.now c.deref-3.ensures.value c.in_ok-relocs.ensures.exact c.in_ok-relocs.ensures.sound in
    not_none h sound (subst (λ (n : ℕ). None ≡ made_of c.in_ok-sections.sections.items made.list.items c.in_ok-relocs.relocs.items n) c.flags.ensures c.in-None.ensures)

pub returns-clause-form : goal.returns-clause-form
returns-clause-form c =
    let given : Given c.args.o.now c.args.f.now c.args.l.now = record { sound = c.sound.ensures; within = c.requires.within; flow = c.requires.flow; can = c.requires.can } in
    let made = c.in_ok-list.field-0 in
    let parts : AreParts c.args.o.now c.args.f.now c.args.l.now c.in_ok-code.code.items c.in_ok-sections.sections.items made.list.items made.targets.items made.first_target made.numbers.items = record {
      rows = c.in_ok-rows.rows.items;
      map = c.in_ok-rows.ensures.exact;
      count = c.in_ok-code.ensures.count;
      sized = c.in_ok-code.ensures.sizes;
      made = subst (λ (rs : List MapRow). AreNewSections c.args.o.now c.args.l.now.sizes c.in_ok-code.code.items rs c.in_ok-sections.sections.items) c.deref.ensures.value c.in_ok-sections.ensures;
      named = c.in_ok-list.ensures.symbols;
      at_home = c.in_ok-list.ensures.sound;
    } in
    let h : ObjectParts = whole c.args.o.now c.args.f.now c.args.l.now given c.in_ok-code.code.items c.in_ok-sections.sections.items made.list.items made.targets.items made.first_target made.numbers.items parts c.in_ok-relocs.relocs.items in
    let sound : is_object h ≡ true = is_whole c.args.o.now c.args.f.now c.args.l.now given c.in_ok-code.code.items c.in_ok-sections.sections.items made.list.items made.targets.items made.first_target made.numbers.items parts
    c.in_ok-relocs.relocs.items c.deref-2.result.now c.deref-2.ensures.value c.deref-3.result.now c.deref-3.ensures.value c.in_ok-relocs.ensures.exact c.in_ok-relocs.ensures.sound in
    let same : c.in-Some.h ≡ h = made_some h sound c.in-Some.h (subst (λ (n : ℕ). Some c.in-Some.h ≡ made_of c.in_ok-sections.sections.items made.list.items c.in_ok-relocs.relocs.items n) c.flags.ensures c.in-Some.ensures) in
    subst (λ (x : ObjectParts). IsHardenedForm c.args.o.now x c.args.f.now (laid_places c.args.l.now) (all_carriers c.args.l.now)) (sym same)
    (is_form c.args.o.now c.args.f.now c.args.l.now given c.in_ok-code.code.items c.in_ok-sections.sections.items made.list.items made.targets.items made.first_target made.numbers.items parts
    c.in_ok-relocs.relocs.items c.deref-2.result.now c.deref-2.ensures.value c.deref-3.result.now c.deref-3.ensures.value c.in_ok-relocs.ensures.exact c.in_ok-relocs.ensures.sound c.in_ok-code.ensures.tiled c.in_ok-code.ensures.words c.in_ok-code.ensures.codes)

pub returns-clause-codes : goal.returns-clause-codes
returns-clause-codes c =
    let given : Given c.args.o.now c.args.f.now c.args.l.now = record { sound = c.sound.ensures; within = c.requires.within; flow = c.requires.flow; can = c.requires.can } in
    let made = c.in_ok-list.field-0 in
    let parts : AreParts c.args.o.now c.args.f.now c.args.l.now c.in_ok-code.code.items c.in_ok-sections.sections.items made.list.items made.targets.items made.first_target made.numbers.items = record {
      rows = c.in_ok-rows.rows.items;
      map = c.in_ok-rows.ensures.exact;
      count = c.in_ok-code.ensures.count;
      sized = c.in_ok-code.ensures.sizes;
      made = subst (λ (rs : List MapRow). AreNewSections c.args.o.now c.args.l.now.sizes c.in_ok-code.code.items rs c.in_ok-sections.sections.items) c.deref.ensures.value c.in_ok-sections.ensures;
      named = c.in_ok-list.ensures.symbols;
      at_home = c.in_ok-list.ensures.sound;
    } in
    let h : ObjectParts = whole c.args.o.now c.args.f.now c.args.l.now given c.in_ok-code.code.items c.in_ok-sections.sections.items made.list.items made.targets.items made.first_target made.numbers.items parts c.in_ok-relocs.relocs.items in
    let sound : is_object h ≡ true = is_whole c.args.o.now c.args.f.now c.args.l.now given c.in_ok-code.code.items c.in_ok-sections.sections.items made.list.items made.targets.items made.first_target made.numbers.items parts
    c.in_ok-relocs.relocs.items c.deref-2.result.now c.deref-2.ensures.value c.deref-3.result.now c.deref-3.ensures.value c.in_ok-relocs.ensures.exact c.in_ok-relocs.ensures.sound in
    let same : c.in-Some.h ≡ h = made_some h sound c.in-Some.h (subst (λ (n : ℕ). Some c.in-Some.h ≡ made_of c.in_ok-sections.sections.items made.list.items c.in_ok-relocs.relocs.items n) c.flags.ensures c.in-Some.ensures) in
    subst (λ (x : ObjectParts). HaveCodes x c.args.l.now) (sym same)
    (have_codes c.args.o.now c.args.f.now c.args.l.now given c.in_ok-code.code.items c.in_ok-sections.sections.items made.list.items made.targets.items made.first_target made.numbers.items parts
    c.in_ok-relocs.relocs.items c.deref-2.result.now c.deref-2.ensures.value c.deref-3.result.now c.deref-3.ensures.value c.in_ok-relocs.ensures.exact c.in_ok-relocs.ensures.sound c.in_ok-code.ensures.tiled c.in_ok-code.ensures.words c.in_ok-code.ensures.codes)
