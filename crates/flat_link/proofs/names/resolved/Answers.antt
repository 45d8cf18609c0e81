use Rattle.std.proofs.Common.{◌≡◌, ap, sym, ◌∙◌, Option, Some, None}
use Rattle.std.specs.Prelude.{find, option_map}
use Rattle.std.specs.Option.{option_or}
use Rattle.std.proofs.lemmas.List.Folds.{find-append}
use Rattle.elf_model.specs.Fields.{same_name}
use Rattle.thumb_table.specs.Names.{Defined, globals, weaks}
use Rattle.flat_link.specs.Known.{defined_of}
use Rattle.flat_link.proofs.names.resolved.Goals as goal

pub returns-in-Some : goal.returns-in-Some
returns-in-Some c =
    let n = c.args.name.now in
    let objects = c.args.names.now.objects.now in
    let p : Defined → _ = λ d. same_name d.symbol.name n in
    let is : Some (defined_of c.in-Some.known.now) ≡ find p (globals objects) = ap (option_map defined_of) c.in-Some.ensures.value ∙ c.requires.globals n in
    sym (find-append p (globals objects) (weaks objects) ∙ ap (λ (o : Option Defined). option_or o (find p (weaks objects))) (sym is))

pub returns-in-None : goal.returns-in-None
returns-in-None c =
    let n = c.args.name.now in
    let objects = c.args.names.now.objects.now in
    let p : Defined → _ = λ d. same_name d.symbol.name n in
    let is : None ≡ find p (globals objects) = ap (option_map defined_of) c.in-None.ensures.value ∙ c.requires.globals n in
    ap (option_map defined_of) (c.copied.ensures ∙ c.get-in-None.ensures.value) ∙ c.requires.weaks n
    ∙ sym (find-append p (globals objects) (weaks objects) ∙ ap (λ (o : Option Defined). option_or o (find p (weaks objects))) (sym is))
