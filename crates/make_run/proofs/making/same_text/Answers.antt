use Rattle.std.proofs.Common.{◌↔◌, ℕ, List, map, sym, subst}
use Rattle.std.specs.Prelude.{Vec}
use Rattle.std.specs.declared.alloc.Global.{Global}
use Rattle.std.proofs.lemmas.Bool.{true≢false}
use Rattle.elf_model.specs.declared.objects.MapRow.{MapRow}
use Rattle.sim_relation.specs.AddressMaps.{TakesEntry, TakesReturn}
use Rattle.sim_relation.specs.Taken.{TakenTo}
use Rattle.make_run.proofs.Compared.{compared}
use Rattle.make_run.proofs.making.same_text.Goals as goal

pub unreachable-requires : goal.unreachable-requires
unreachable-requires c =
    let m = c.args.made.now in
    let by = c.in_ok-map.map in
    let entries = subst (λ (l : List (Vec MapRow Global)). (a b : ℕ) → TakenTo by.entries a b ↔ TakesEntry m.plain m.hard (map (λ (r : Vec MapRow Global). r.items) l) a b)
    c.from_ref.ensures.value c.in_ok-map.ensures.entries in
    let returns = subst (λ (l : List (Vec MapRow Global)). (a b : ℕ) → TakenTo by.returns a b ↔ TakesReturn m.plain m.hard (map (λ (r : Vec MapRow Global). r.items) l) a b)
    c.from_ref.ensures.value c.in_ok-map.ensures.returns in
    true≢false (sym (c.if-same.ensures.1
    (compared c.same_by_rows.ensures m c.args.plain.now c.args.hard.now c.requires.alike c.in_ok-rows.rows.items c.in_ok-rows.ensures by entries returns)))
