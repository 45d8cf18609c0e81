use Rattle.std.proofs.Common.{◌≡◌, ◌↔◌, true, List, subst, sym, ap, ◌∙◌}
use Rattle.std.specs.Prelude.{slice_get}
use Rattle.std.specs.BTreeSet.{contains}
use Rattle.elf_model.specs.declared.objects.Reloc.{Reloc}
use Rattle.code_ranges.specs.Spans.{place_cmp}
use Rattle.flow_recover.specs.Gains.{IsFrom}
use Rattle.flow_recover.proofs.FlowPoints.{points_rise}
use Rattle.emit_object.specs.TargetPlaces.{Gives}
use Rattle.emit_object.proofs.FlowGives.{readable}
use Rattle.emit_object.proofs.TargetFacts.{are_targets}
use Rattle.emit_object.proofs.targets.targets.Goals as goal

pub target_places-requires-clause-points : goal.target_places-requires-clause-points
target_places-requires-clause-points c = points_rise c.args.o.now c.args.f.now c.requires.flow c.requires.within

pub target_places-requires-clause-readable : goal.target_places-requires-clause-readable
target_places-requires-clause-readable c = λ k r at. readable c.args.o.now c.args.f.now c.sound.ensures c.requires.flow c.requires.within k r (ap (λ (l : List Reloc). slice_get l k) (sym c.relocs.ensures) ∙ at)

pub returns : goal.returns
returns c =
    let exact = c.in_ok-places.ensures in
    are_targets c.args.o.now c.args.f.now c.sound.ensures c.requires.flow c.in_ok-places.places c.in_ok-list.list.items
    (λ p. subst (λ (l : List Reloc). (contains place_cmp c.in_ok-places.places p ≡ true) ↔ IsFrom (Gives c.args.o.now c.args.f.now) l p) c.relocs.ensures (exact p)) c.in_ok-list.ensures.ordered c.in_ok-list.ensures.items
