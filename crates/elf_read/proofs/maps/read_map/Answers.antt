use Rattle.std.proofs.Common.{◌≡◌, List, ℕ, true, false, refl, sym, ap, ◌∙◌, subst, filter}
use Rattle.elf_model.specs.declared.objects.Section.{Section}
use Rattle.elf_model.specs.Maps.{AreRows, is_map_named}
use Rattle.elf_read.specs.MapRefusals.{HasNoMap, IsDenied}
use Rattle.elf_read.specs.MapRows.{IsOnly, IsOnlyAt, is_plain, rising}
use Rattle.elf_read.proofs.MapFaults.{the_section, same_section, not_plain, not_rising, map_found}
use Rattle.elf_read.proofs.maps.read_map.Goals as goal

pub returns-then-not-is_plain-clause-refused : goal.returns-then-not-is_plain-clause-refused
returns-then-not-is_plain-clause-refused c =
    let xs = c.sections-sections.result.now in
    let only : IsOnlyAt xs c.in-Some.k = subst (IsOnly xs) c.in-Some.is c.only_map.ensures in
    let s = c.index-sections-k.result in
    let one = the_section c.args.o.now xs c.in-Some.k s c.sections-sections.ensures only c.index-sections-k.is in
    subst (IsDenied (HasNoMap c.args.o.now)) (sym c.refused-then-not-is_plain.ensures) (refl, not_plain c.args.o.now s one (sym c.is_plain.ensures ∙ c.if-not-is_plain.true))

pub returns-then-not-rise-clause-refused : goal.returns-then-not-rise-clause-refused
returns-then-not-rise-clause-refused c =
    let xs = c.sections-sections.result.now in
    let only : IsOnlyAt xs c.in-Some.k = subst (IsOnly xs) c.in-Some.is c.only_map.ensures in
    let s = c.index-sections-k-2.result in
    let one = the_section c.args.o.now xs c.in-Some.k s c.sections-sections.ensures only c.index-sections-k-2.is in
    let are = subst (λ (x : Section). AreRows x.bytes c.in_ok-rows.rows.items) (sym c.index-sections-k-2.is) (subst (λ (b : List ℕ). AreRows b c.in_ok-rows.rows.items) c.as_slice.ensures c.in_ok-rows.ensures.rows) in
    let falls : rising c.in_ok-rows.rows.items ≡ false = ap rising (sym c.deref.ensures.value) ∙ sym c.rise.ensures ∙ c.if-not-rise.true in
    subst (IsDenied (HasNoMap c.args.o.now)) (sym c.refused-then-not-rise.ensures) (refl, not_rising c.args.o.now s c.in_ok-rows.rows.items one are falls)

pub returns-clause-rows : goal.returns-clause-rows
returns-clause-rows c =
    let o = c.args.o.now in
    let xs = c.sections-sections.result.now in
    let only : IsOnlyAt xs c.in-Some.k = subst (IsOnly xs) c.in-Some.is c.only_map.ensures in
    let s = c.index-sections-k-2.result in
    let first = the_section o xs c.in-Some.k c.index-sections-k.result c.sections-sections.ensures only c.index-sections-k.is in
    let one = the_section o xs c.in-Some.k s c.sections-sections.ensures only c.index-sections-k-2.is in
    let plain : is_plain s ≡ true = ap is_plain (same_section s c.index-sections-k.result (filter is_map_named o.sections) one first) ∙ sym c.is_plain.ensures ∙ c.if-not-is_plain.false in
    let are = subst (λ (x : Section). AreRows x.bytes c.in_ok-rows.rows.items) (sym c.index-sections-k-2.is) (subst (λ (b : List ℕ). AreRows b c.in_ok-rows.rows.items) c.as_slice.ensures c.in_ok-rows.ensures.rows) in
    map_found o s c.in_ok-rows.rows.items one plain are (ap rising (sym c.deref.ensures.value) ∙ sym c.rise.ensures ∙ c.if-not-rise.false)
