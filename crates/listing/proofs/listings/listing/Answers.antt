use Rattle.std.proofs.Common.{◌≡◌, ◌≤◌, ◌<◌, ◌+◌, ◌∷◌, List, length, drop, get_or, sym, ap, ◌∙◌, subst, arith}
use Rattle.std.proofs.lemmas.List.{drop_more, drop_all}
use Rattle.elf_model.specs.declared.objects.Section.{Section}
use Rattle.listing.specs.ListingSteps.{ListsBefore}
use Rattle.listing.proofs.SectionCode.{lists_more, lists_all}
use Rattle.listing.proofs.listings.listing.Goals as goal

pub loop-j-preserved : goal.loop-j-preserved
loop-j-preserved c =
    let sections : List Section = c.args.o.now.sections in
    let s : Section = c.s-item.result in
    let same : length c.sections-s-items.result.now ≡ length c.args.o.now.sections = ap length c.sections-s-items.ensures in
    let inside : c.loop-j.j < length c.args.o.now.sections = let l = c.loop-j-test.true in omega arith in
    let item : get_or c.args.o.now.sections c.loop-j.j s ≡ s = sym (c.s-item.is ∙ ap (λ (l : List Section). get_or l c.loop-j.j s) c.sections-s-items.ensures) in
    let here : drop c.loop-j.j sections ≡ s ∷ drop (c.loop-j.j + 1) sections =
    drop_more sections c.loop-j.j s inside ∙ ap (λ (t : Section). t ∷ drop (c.loop-j.j + 1) sections) item in
    lists_more c.args.o.now c.loop-j.j s (drop (c.loop-j.j + 1) sections) c.loop-j.text.items _
    (subst (λ (l : List Section). ListsBefore c.args.o.now c.loop-j.j l c.loop-j.text.items) here c.loop-j.invariant) c.in_ok-push_section.ensures

pub returns : goal.returns
returns c =
    let same : length c.sections-s-items.result.now ≡ length c.args.o.now.sections = ap length c.sections-s-items.ensures in
    let over : length c.args.o.now.sections ≤ c.loop-j.j = let l = c.loop-j-test.false in omega arith in
    lists_all c.args.o.now c.loop-j.j c.loop-j.text.items
    (subst (λ (l : List Section). ListsBefore c.args.o.now c.loop-j.j l c.loop-j.text.items) (drop_all c.loop-j.j c.args.o.now.sections over) c.loop-j.invariant)
