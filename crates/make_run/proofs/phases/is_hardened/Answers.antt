use Rattle.std.proofs.Common.{List, sym, subst, [], ◌∷◌}
use Rattle.elf_model.specs.Objects.{ObjectParts}
use Rattle.sim_objects.specs.PairedLists.{ArePairedOneByOne}
use Rattle.make_run.proofs.PairedOne.{generated_one}
use Rattle.make_run.proofs.phases.is_hardened.Goals as goal

pub paired_list_hardens-requires-clause-paired : goal.paired_list_hardens-requires-clause-paired
paired_list_hardens-requires-clause-paired c =
    let o = c.args.o.now in
    let h = c.args.h.now in
    subst (λ (os : List ObjectParts). ArePairedOneByOne os c.from_ref-outputs.result.now h.factor) (sym c.from_ref-objects.ensures.value)
    (subst (λ (hs : List ObjectParts). ArePairedOneByOne (o ∷ []) hs h.factor) (sym c.from_ref-outputs.ensures.value) (generated_one o h.object h.factor c.requires.generated c.requires.made.paired))
