use Rattle.std.proofs.Common.{List, get_or, sym, subst}
use Rattle.std.specs.Prelude.{IsPermutation}
use Rattle.std.specs.List.Sorted.{IsSortedByKey}
use Rattle.std.proofs.lemmas.Option.{slice_get-get_or}
use Rattle.code_ranges.specs.Spans.{place_cmp}
use Rattle.emit_object.specs.declared.reloc_sites.Site.{Site}
use Rattle.emit_object.specs.RelocSites.{site_place, all_sites}
use Rattle.emit_object.proofs.FlowGives.{readable}
use Rattle.emit_object.proofs.LaidUnits.{small}
use Rattle.emit_object.proofs.SoundRelocs.{sound_relocs}
use Rattle.emit_object.proofs.SitesAre.{in_order, are_relocs}
use Rattle.emit_object.proofs.reloc_table.reloc_table.Goals as goal

pub reloc_sites-requires-clause-small : goal.reloc_sites-requires-clause-small
reloc_sites-requires-clause-small c = λ k d low. small c.args.o.now c.args.f.now c.args.l.now c.requires.can k (get_or c.args.l.now.units k d) (slice_get-get_or c.args.l.now.units k d low)

pub made_relocs-requires-clause-readable : goal.made_relocs-requires-clause-readable
made_relocs-requires-clause-readable c = readable c.args.o.now c.args.f.now c.sound.ensures c.requires.flow c.requires.within

pub made_relocs-requires-clause-order : goal.made_relocs-requires-clause-order
made_relocs-requires-clause-order c =
    in_order c.args.o.now c.args.f.now c.args.l.now c.requires.can c.sound.ensures c.requires.flow c.deref.result.now
    (subst (λ (ss : List Site). IsPermutation (all_sites c.args.o.now c.args.f.now c.args.l.now) ss) (sym c.deref.ensures.value) c.in_ok-sites.ensures.same)
    (subst (λ (ss : List Site). IsSortedByKey site_place place_cmp ss) (sym c.deref.ensures.value) c.in_ok-sites.ensures.sorted)

pub returns-clause-exact : goal.returns-clause-exact
returns-clause-exact c = λ h lists are same.
    let moved = subst (λ (ss : List Site). IsPermutation (all_sites c.args.o.now c.args.f.now c.args.l.now) ss) (sym c.deref.ensures.value) c.in_ok-sites.ensures.same in
    are_relocs c.args.o.now c.args.f.now c.args.l.now c.requires.can lists h c.deref.result.now c.in_ok-list.list.items moved (c.in_ok-list.ensures lists are) same

pub returns-clause-sound : goal.returns-clause-sound
returns-clause-sound c = λ h items rows sized sections made.
    let moved = subst (λ (ss : List Site). IsPermutation (all_sites c.args.o.now c.args.f.now c.args.l.now) ss) (sym c.deref.ensures.value) c.in_ok-sites.ensures.same in
    let sorted = subst (λ (ss : List Site). IsSortedByKey site_place place_cmp ss) (sym c.deref.ensures.value) c.in_ok-sites.ensures.sorted in
    let order = in_order c.args.o.now c.args.f.now c.args.l.now c.requires.can c.sound.ensures c.requires.flow c.deref.result.now moved sorted in
    sound_relocs c.args.o.now h c.args.f.now c.args.l.now c.requires.can c.sound.ensures c.requires.flow rows sections sized c.requires.within items c.args.targets.now c.args.first c.args.numbers.now made c.deref.result.now
    c.in_ok-list.list.items moved order (c.in_ok-list.ensures made.lists made.numbered)
