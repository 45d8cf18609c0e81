use Rattle.std.proofs.Common.{◌≡◌, ap, ◌∙◌, sym, subst, List, ℕ, Some, Ok}
use Rattle.elf_model.specs.Fields.{half_at}
use Rattle.elf_model.specs.Ranges.{is_long}
use Rattle.thumb_instr.specs.Numbers.{renumbered}
use Rattle.reloc_places.specs.Starts.{decoded_at}
use Rattle.thumb_table.specs.Links.{value_of}
use Rattle.reloc_places.proofs.RelocPlaces.{right_number}
use Rattle.flat_link.specs.Layout.{parts_in}
use Rattle.flat_link.specs.Sites.{link_of}
use Rattle.flat_link.specs.Patches.{IsNumberOf, width_if}
use Rattle.flat_link.proofs.TieFacts.{link_within, own_bytes}
use Rattle.flat_link.proofs.PlaceCodes.{number_may, placed_code}
use Rattle.flat_link.proofs.renumber.code_for.Goals as goal

pub decode_at-requires-clause-half : goal.decode_at-requires-clause-half
decode_at-requires-clause-half c =
    (right_number c.args.t.now.site.object.now c.args.t.now.site.reloc.now c.bytes_of-bytes.result.now c.sound.ensures (link_within c.args.layout.now c.requires.layout (link_of c.args.t.now) c.requires.tie.link) (c.args.t.now.site.number, c.requires.tie.right) c.bytes_of-bytes.ensures).half

pub decode_at-requires-clause-full : goal.decode_at-requires-clause-full
decode_at-requires-clause-full c =
    (right_number c.args.t.now.site.object.now c.args.t.now.site.reloc.now c.bytes_of-bytes.result.now c.sound.ensures (link_within c.args.layout.now c.requires.layout (link_of c.args.t.now) c.requires.tie.link) (c.args.t.now.site.number, c.requires.tie.right) c.bytes_of-bytes.ensures).full

pub renumbered-requires : goal.renumbered-requires
renumbered-requires c =
    let k = link_of c.args.t.now in
    let own = c.bytes_of-bytes.ensures ∙ own_bytes c.args.layout.now.objects.now c.args.layout.now.at k c.requires.tie.link in
    let is : decoded_at k.part.section.bytes k.reloc.offset 0 ≡ Ok c.in-Ok.i = ap (λ (b : List ℕ). decoded_at b k.reloc.offset 0) (sym own) ∙ sym c.in-Ok.ensures in
    subst (IsNumberOf c.in-Ok.i) (sym c.value_of.ensures) (number_may c.args.layout.now.objects.now c.args.layout.now.at k c.requires.tie c.requires.instr (parts_in c.args.layout.now) c.requires.range c.in-Ok.i is).number

pub width_at-requires : goal.width_at-requires
width_at-requires c =
    (right_number c.args.t.now.site.object.now c.args.t.now.site.reloc.now c.bytes_of-bytes.result.now c.sound.ensures (link_within c.args.layout.now c.requires.layout (link_of c.args.t.now) c.requires.tie.link) (c.args.t.now.site.number, c.requires.tie.right) c.bytes_of-bytes.ensures).half

pub returns-in-Some : goal.returns-in-Some
returns-in-Some c =
    let k = link_of c.args.t.now in
    let own = c.bytes_of-bytes.ensures ∙ own_bytes c.args.layout.now.objects.now c.args.layout.now.at k c.requires.tie.link in
    let is : decoded_at k.part.section.bytes k.reloc.offset 0 ≡ Ok c.in-Ok.i = ap (λ (b : List ℕ). decoded_at b k.reloc.offset 0) (sym own) ∙ sym c.in-Ok.ensures in
    let made : Some c.in-Some.j ≡ Some (renumbered (value_of (parts_in c.args.layout.now) k) c.in-Ok.i) = c.in-Some.ensures ∙ ap (λ (n : ℕ). Some (renumbered n c.in-Ok.i)) c.value_of.ensures in
    placed_code c.args.layout.now.objects.now c.args.layout.now.at k c.requires.tie c.requires.instr (parts_in c.args.layout.now) c.requires.range c.in-Ok.i is c.in-Some.j made c.width_at.result
    (c.width_at.ensures ∙ ap (λ (b : List ℕ). width_if (is_long (half_at b k.reloc.offset))) own) c.encode.result c.encode.ensures.gives c.encode.ensures.none c.encode.ensures.full
