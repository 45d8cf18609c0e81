use Rattle.emit_object.proofs.SiteLists.{word_more, words_done}
use Rattle.emit_object.proofs.reloc_sites.push_words.Goals as goal

pub loop-k-preserved : goal.loop-k-preserved
loop-k-preserved c =
    word_more c.args.o.now c.args.words.now c.args.places.now c.requires c.loop-k.k _ c.args.sites.now.items c.loop-k.sites.items c.push_site.new.sites.items c.word_site.result c.loop-k-test.true c.loop-k.invariant c.word_site.ensures
    c.in_ok-push_site.ensures

pub returns : goal.returns
returns c = words_done c.args.o.now c.args.words.now c.args.places.now c.requires c.loop-k.k c.args.sites.now.items c.loop-k.sites.items c.loop-k-test.false c.loop-k.invariant
