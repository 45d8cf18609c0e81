use Rattle.std.proofs.Common.{◌≡◌, ℕ, List, [], ◌∷◌, ◌++◌, length, sym, ap, ◌∙◌, subst, arith, Result, Ok, Err, OnOk}
use Rattle.elf_model.specs.Objects.{ObjectParts}
use Rattle.listing.specs.Listings.{heading, text_of_lines}
use Rattle.listing.specs.ListingSteps.{AreAhead, AreApart, ListsContents, ListsSection}
use Rattle.listing.proofs.SectionCode.{codes_ahead, codes_apart, as_many, lists_code, lists_other}
use Rattle.listing.proofs.listings.push_section.Goals as goal

pub push_contents-requires-clause-small : goal.push_contents-requires-clause-small
push_contents-requires-clause-small c =
    let size : length c.args.s.now.bytes ≡ c.args.s.now.size = as_many c.args.o.now c.args.j c.args.s.now c.sound.ensures c.requires.there (sym c.is_code.ensures ∙ c.if-is_code.true) in
    let e : length c.as_slice.result.now ≡ length c.args.s.now.bytes = ap length c.as_slice.ensures in
    omega arith

pub push_contents-requires-clause-apart : goal.push_contents-requires-clause-apart
push_contents-requires-clause-apart c =
    subst (λ (b : List ℕ). AreApart b 0 c.deref.result.now) (sym c.as_slice.ensures)
    (codes_apart c.args.o.now c.args.j c.args.s.now c.args.spans.now c.deref.result.now c.requires.ranges (c.deref.ensures.value ∙ c.in_ok-codes.ensures) c.sound.ensures c.requires.there)

pub returns-in_ok-codes : goal.returns-in_ok-codes
returns-in_ok-codes c = go c.push_contents.result c.push_contents.ensures
  where
    ahead : AreAhead c.args.o.now c.args.j c.as_slice.result.now 0 c.deref.result.now
    ahead = codes_ahead c.args.o.now c.args.j c.as_slice.result.now c.args.spans.now c.deref.result.now c.requires.ranges (c.deref.ensures.value ∙ c.in_ok-codes.ensures)

    go : {E : Type 0} (r : Result (Unit {0}) E) → OnOk r ((o : ObjectParts) (j : ℕ) → AreAhead o j c.as_slice.result.now 0 c.deref.result.now → ListsContents o j c.as_slice.result.now c.push_heading.new.text.items c.push_contents.new.text.items)
        → OnOk r (ListsSection c.args.o.now c.args.j c.args.s.now c.args.text.now.items c.push_contents.new.text.items)
    go (Ok u) h =
        lists_code c.args.o.now c.args.j c.args.s.now _ c.push_heading.new.text.items _ (sym c.is_code.ensures ∙ c.if-is_code.true)
        (c.in_ok-push_heading.ensures ∙ ap (λ (n : List ℕ). c.args.text.now.items ++ text_of_lines (heading c.args.j n ∷ [])) c.bytes.ensures)
        (subst (λ (b : List ℕ). ListsContents c.args.o.now c.args.j b c.push_heading.new.text.items c.push_contents.new.text.items) c.as_slice.ensures (h c.args.o.now c.args.j ahead))
    go (Err e) h = h

pub returns-else-is_code : goal.returns-else-is_code
returns-else-is_code c = lists_other c.args.o.now c.args.j c.args.s.now c.args.text.now.items (sym c.is_code.ensures ∙ c.if-is_code.false)
