use Rattle.std.proofs.Common.{◌≡◌, ap, sym, subst, ◌∙◌, map}
use Rattle.std.specs.Prelude.{◌↔◌}
use Rattle.elf_model.specs.declared.objects.RowKind.TheVariants.{Start, Return}
use Rattle.sim_relation.specs.AddressMaps.{TakesEntry, TakesReturn}
use Rattle.sim_relation.specs.Taken.{TakenTo, by_parts}
use Rattle.sim_relation.proofs.TakenRows.{entries_are, returns_are}
use Rattle.sim_relation.proofs.address_maps.AddressMap.of.Goals as goal

pub returns-clause-entries : goal.returns-clause-entries
returns-clause-entries c = λ a b.
    let maps = map (λ rows. rows.items) c.args.maps.now in
    let is : c.in_ok-entries.entries.items ≡ by_parts Start c.args.hard.now.parts maps c.args.plain.now.parts = c.in_ok-entries.ensures ∙ (ap (λ h. by_parts Start h maps c.parts.result.now) c.parts-2.ensures ∙ ap (λ p. by_parts Start c.args.hard.now.parts maps p) c.parts.ensures) in
    subst (λ xs. TakenTo xs a b ↔ TakesEntry c.args.plain.now c.args.hard.now maps a b) (sym is) (entries_are c.args.plain.now c.args.hard.now maps a b)

pub returns-clause-returns : goal.returns-clause-returns
returns-clause-returns c = λ a b.
    let maps = map (λ rows. rows.items) c.args.maps.now in
    let is : c.in_ok-returns.returns.items ≡ by_parts Return c.args.hard.now.parts maps c.args.plain.now.parts = c.in_ok-returns.ensures ∙ (ap (λ h. by_parts Return h maps c.parts-3.result.now) c.parts-4.ensures ∙ ap (λ p. by_parts Return c.args.hard.now.parts maps p) c.parts-3.ensures) in
    subst (λ xs. TakenTo xs a b ↔ TakesReturn c.args.plain.now c.args.hard.now maps a b) (sym is) (returns_are c.args.plain.now c.args.hard.now maps a b)
