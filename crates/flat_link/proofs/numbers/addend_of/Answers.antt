use Rattle.std.proofs.Common.{◌∙◌, ap, List, ℕ}
use Rattle.reloc_places.specs.Relocations.{addend}
use Rattle.flat_link.specs.Sites.{link_of}
use Rattle.flat_link.proofs.TieFacts.{standing, link_addend, link_within}
use Rattle.reloc_places.proofs.RelocPlaces.{right_number}
use Rattle.flat_link.proofs.numbers.addend_of.Goals as goal

pub addend-requires-clause-half : goal.addend-requires-clause-half
addend-requires-clause-half c =
    (right_number c.args.t.now.site.object.now c.args.t.now.site.reloc.now c.bytes_of.result.now c.sound.ensures (link_within c.args.layout.now c.requires.layout (link_of c.args.t.now) c.requires.tie.link) (c.args.t.now.site.number, c.requires.tie.right) c.bytes_of.ensures).half

pub addend-requires-clause-full : goal.addend-requires-clause-full
addend-requires-clause-full c =
    (right_number c.args.t.now.site.object.now c.args.t.now.site.reloc.now c.bytes_of.result.now c.sound.ensures (link_within c.args.layout.now c.requires.layout (link_of c.args.t.now) c.requires.tie.link) (c.args.t.now.site.number, c.requires.tie.right) c.bytes_of.ensures).full

pub addend-requires-clause-word : goal.addend-requires-clause-word
addend-requires-clause-word c =
    (right_number c.args.t.now.site.object.now c.args.t.now.site.reloc.now c.bytes_of.result.now c.sound.ensures (link_within c.args.layout.now c.requires.layout (link_of c.args.t.now) c.requires.tie.link) (c.args.t.now.site.number, c.requires.tie.right) c.bytes_of.ensures).word

pub returns : goal.returns
returns c =
    c.addend.ensures ∙ ap (λ (b : List ℕ). addend b c.args.t.now.site.reloc.now) c.bytes_of.ensures
    ∙ link_addend c.args.layout.now.objects.now c.args.layout.now.at (standing c.args.layout.now c.requires.layout) (link_of c.args.t.now) c.requires.tie.link
