use Rattle.std.proofs.Common.{List, map, sym, ap, ◌∙◌, subst}
use Rattle.std.specs.Prelude.{slice_get}
use Rattle.std.proofs.lemmas.List.{length-map}
use Rattle.flow_recover.specs.declared.flows.PoolWord.{PoolWord}
use Rattle.emit_object.specs.CodePieces.{unit_piece}
use Rattle.emit_object.specs.CodeBytes.{contents_of, CanPut}
use Rattle.emit_object.proofs.FlowGives.{readable}
use Rattle.emit_object.proofs.FlowSections.{word_readable}
use Rattle.emit_object.proofs.NewCodeFacts.{units_can, words_can, blank_as, words_as, makes}
use Rattle.emit_object.proofs.PutFacts.{can_stay}
use Rattle.emit_object.proofs.code_bytes.code_bytes.Goals as goal

pub word_pieces-requires-clause-readable : goal.word_pieces-requires-clause-readable
word_pieces-requires-clause-readable c = readable c.args.o.now c.args.f.now c.sound.ensures c.requires.flow c.requires.within

pub word_pieces-requires-clause-there : goal.word_pieces-requires-clause-there
word_pieces-requires-clause-there c k w at = word_readable c.args.o.now c.args.f.now c.requires.flow c.sound.ensures k w (ap (λ (ws : List PoolWord). slice_get ws k) (sym c.words.ensures) ∙ at)

pub put_pieces-requires : goal.put_pieces-requires
put_pieces-requires c =
    let all = contents_of c.in_ok-all.all.items in
    subst (CanPut all) (sym (c.deref.ensures.value ∙ c.in_ok-units.ensures ∙ ap (map unit_piece) c.units.ensures))
    (units_can c.args.o.now c.args.f.now c.args.l.now c.requires.flow c.requires.can all
    (blank_as c.args.o.now c.args.f.now c.args.l.now c.requires.flow c.requires.can c.sizes.result.now c.sections.result.now all c.sizes.ensures c.sections.ensures c.in_ok-all.ensures))

pub put_pieces-requires-2 : goal.put_pieces-requires-2
put_pieces-requires-2 c =
    let o = c.args.o.now in
    let f = c.args.f.now in
    let l = c.args.l.now in
    let all = contents_of c.in_ok-all.all.items in
    let now = contents_of c.put_pieces.new.all.items in
    let blank = blank_as o f l c.requires.flow c.requires.can c.sizes.result.now c.sections.result.now all c.sizes.ensures c.sections.ensures c.in_ok-all.ensures in
    let are = words_as o f l c.requires.flow c.requires.can c.words.result.now c.words-2.result.now c.in_ok-words.words.items c.words.ensures c.words-2.ensures c.in_ok-words.ensures in
    subst (CanPut now) (sym c.deref-2.ensures.value)
    (can_stay c.deref.result.now c.in_ok-words.words.items all now c.put_pieces.ensures (words_can o f l c.requires.flow c.requires.can c.in_ok-words.words.items are all blank))

pub returns : goal.returns
returns c =
    let o = c.args.o.now in
    let f = c.args.f.now in
    let l = c.args.l.now in
    let all = contents_of c.in_ok-all.all.items in
    let new = c.put_pieces-2.new.all.items in
    let blank = blank_as o f l c.requires.flow c.requires.can c.sizes.result.now c.sections.result.now all c.sizes.ensures c.sections.ensures c.in_ok-all.ensures in
    let are = words_as o f l c.requires.flow c.requires.can c.words.result.now c.words-2.result.now c.in_ok-words.words.items c.words.ensures c.words-2.ensures c.in_ok-words.ensures in
    let m = makes o f l c.requires.flow c.requires.can all (contents_of c.put_pieces.new.all.items) (contents_of new) c.deref.result.now c.deref-2.result.now c.in_ok-words.words.items blank
    (c.deref.ensures.value ∙ c.in_ok-units.ensures ∙ ap (map unit_piece) c.units.ensures) c.put_pieces.ensures are c.deref-2.ensures.value c.put_pieces-2.ensures in
    record { count = sym (length-map new _) ∙ m.count; sizes = m.sizes; tiled = m.tiled; words = m.words; codes = m.codes }
