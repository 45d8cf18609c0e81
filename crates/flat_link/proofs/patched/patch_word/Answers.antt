use Rattle.std.proofs.Common.{ℕ, ◌-◌, arith, ap}
use Rattle.flat_link.specs.Sites.{link_of}
use Rattle.flat_link.proofs.TieFacts.{standing, code_place}
use Rattle.flat_link.proofs.WrittenFacts.{word_width}
use Rattle.flat_link.proofs.LaidFacts.{word_put}
use Rattle.flat_link.proofs.patched.patch_word.Goals as goal

pub overflow_sub-x : goal.overflow_sub-x
overflow_sub-x c =
    let p = code_place c.args.layout.now.objects.now c.args.layout.now.at (standing c.args.layout.now c.requires.layout) (link_of c.args.t.now) c.requires.tie.link c.requires.code in
    omega (arith, p.0, c.place_of.ensures)

pub put_word-requires : goal.put_word-requires
put_word-requires c =
    let p = code_place c.args.layout.now.objects.now c.args.layout.now.at (standing c.args.layout.now c.requires.layout) (link_of c.args.t.now) c.requires.tie.link c.requires.code in
    omega (arith, p.0, p.1, c.place_of.ensures, c.requires.size, word_width c.args.t.now.site.reloc.now.kind c.requires.word)

pub returns-clause-put : goal.returns-clause-put
returns-clause-put c =
    let base = c.args.layout.now.at.base in
    (word_put c.args.layout.now.objects.now c.args.layout.now.at (standing c.args.layout.now c.requires.layout) (link_of c.args.t.now) c.requires.tie c.requires.code c.args.bytes.now c.put_word.new.bytes c.requires.size c.requires.word (c.place_of.result - base) c.full.result
    (ap (λ (n : ℕ). n - base) c.place_of.ensures) c.full.ensures c.put_word.ensures).0

pub returns-clause-written : goal.returns-clause-written
returns-clause-written c =
    let base = c.args.layout.now.at.base in
    (word_put c.args.layout.now.objects.now c.args.layout.now.at (standing c.args.layout.now c.requires.layout) (link_of c.args.t.now) c.requires.tie c.requires.code c.args.bytes.now c.put_word.new.bytes c.requires.size c.requires.word (c.place_of.result - base) c.full.result
    (ap (λ (n : ℕ). n - base) c.place_of.ensures) c.full.ensures c.put_word.ensures).1
