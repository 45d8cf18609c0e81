use Rattle.std.proofs.Common.{◌≡◌, false, List, ℕ, refl, sym, ap, ◌∙◌, Some, None}
use Rattle.std.specs.Prelude.{◌==◌, ◌&&◌, find, option_map}
use Rattle.std.proofs.lemmas.Bool.{both_ways}
use Rattle.std.proofs.lemmas.Option.{same_Some}
use Rattle.elf_model.specs.Fields.{same_name}
use Rattle.thumb_table.specs.Names.{Defined, globals}
use Rattle.flat_link.specs.Known.{defined_of}
use Rattle.flat_link.proofs.NameFacts.{second_from, second_found, first_only}
use Rattle.flat_link.proofs.seconds.is_second.Goals as goal

pub returns-in-None : goal.returns-in-None
returns-in-None c =
    let objects = c.args.names.now.objects.now in
    let e : find (λ (d : Defined). same_name d.symbol.name c.args.known.now.symbol.now.name) (globals objects) ≡ None =
    ap (λ (m : List ℕ). find (λ (d : Defined). same_name d.symbol.name m) (globals objects)) (sym c.bytes-name.ensures)
    ∙ sym (ap (option_map defined_of) c.in-None.ensures.value ∙ c.requires.names.globals c.bytes-name.result.now) in
    (λ h. absurd (both_ways false refl h), λ s. absurd (first_only objects (defined_of c.args.known.now) e s))

pub returns-then-is_itself : goal.returns-then-is_itself
returns-then-is_itself c =
    let objects = c.args.names.now.objects.now in
    let e : find (λ (d : Defined). same_name d.symbol.name c.args.known.now.symbol.now.name) (globals objects) ≡ Some (defined_of c.in-Some.first.now) =
    ap (λ (m : List ℕ). find (λ (d : Defined). same_name d.symbol.name m) (globals objects)) (sym c.bytes-name.ensures)
    ∙ sym (ap (option_map defined_of) c.in-Some.ensures.value ∙ c.requires.names.globals c.bytes-name.result.now) in
    let itself = sym c.is_itself.ensures ∙ c.if-is_itself.true in (
      λ h. absurd (both_ways false refl h),
      λ s.
          let q = second_found objects (defined_of c.args.known.now) s in
          let same : q.0 ≡ defined_of c.in-Some.first.now = same_Some q.0 (defined_of c.in-Some.first.now) (sym q.1 ∙ e) in
          absurd (both_ways _ (sym (ap (λ (f : Defined). (f.object == c.args.known.now.object) && (f.index == c.args.known.now.index)) same) ∙ q.2) itself),
    )

pub returns-else-is_itself : goal.returns-else-is_itself
returns-else-is_itself c =
    let objects = c.args.names.now.objects.now in
    let e : find (λ (d : Defined). same_name d.symbol.name c.args.known.now.symbol.now.name) (globals objects) ≡ Some (defined_of c.in-Some.first.now) =
    ap (λ (m : List ℕ). find (λ (d : Defined). same_name d.symbol.name m) (globals objects)) (sym c.bytes-name.ensures)
    ∙ sym (ap (option_map defined_of) c.in-Some.ensures.value ∙ c.requires.names.globals c.bytes-name.result.now) in
    let other = sym c.is_itself.ensures ∙ c.if-is_itself.false in (
      λ b. second_from objects (defined_of c.args.known.now) (defined_of c.in-Some.first.now) c.requires.known (sym c.is_bound.ensures ∙ b) e other,
      λ s. c.is_bound.ensures ∙ (second_found objects (defined_of c.args.known.now) s).3,
    )
