use Rattle.std.proofs.Common.{◌≡◌, ℕ, Bool, true, cond, sym, ap, ◌∙◌}
use Rattle.mark_word.specs.declared.marks.Mark.{Mark}
use Rattle.mark_word.specs.declared.marks.Mark.TheVariants.{Entry, Plain}
use Rattle.mark_word.specs.Words.{Word}
use Rattle.thumb_table.specs.Links.{leads_to_code, mark_of, full}
use Rattle.flat_link.specs.Layout.{parts_in}
use Rattle.flat_link.specs.Sites.{link_of}
use Rattle.flat_link.proofs.TieFacts.{data_word}
use Rattle.flat_link.proofs.LaidFacts.{word_mark}
use Rattle.flat_link.proofs.patched.word_of.Goals as goal

abbrev marked : ℕ → Mark → Word
marked n m = record { bits = n; mark = m }

pub returns-then-leads_to_code : goal.returns-then-leads_to_code
returns-then-leads_to_code c =
    let parts = parts_in c.args.layout.now in
    let k = link_of c.args.t.now in
    let n = full parts k in
    let leads : leads_to_code parts k ≡ true = sym c.leads_to_code.ensures ∙ c.if-leads_to_code.true in
    let mark : mark_of parts k ≡ Entry n =
    word_mark k.reloc.kind (leads_to_code parts k) n (data_word c.args.layout.now.objects.now c.args.layout.now.at k c.requires.tie c.requires.datum) ∙ ap (λ (b : Bool). cond b (Entry n) Plain) leads in
    c.entry.ensures ∙ ap (λ (m : ℕ). marked m (Entry m)) c.full-full.ensures ∙ ap (marked n) (sym mark)
