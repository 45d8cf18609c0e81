use Rattle.std.proofs.Common.{◌≡◌, ◌+◌, List, length, map, ap, ◌∙◌, sym, subst, refl}
use Rattle.elf_model.specs.Objects.{is_data}
use Rattle.mark_word.specs.Words.{Cell, bare}
use Rattle.thumb_table.specs.Layouts.{bytes_from, data_bytes_of}
use Rattle.thumb_table.specs.Links.{Link, AreWritten}
use Rattle.flat_link.specs.Layout.{parts_in}
use Rattle.flat_link.specs.Lots.{placed_of}
use Rattle.flat_link.specs.Made.{IsMadeMemory}
use Rattle.flat_link.specs.Patches.{AreLaid}
use Rattle.flat_link.specs.Sites.{all_links}
use Rattle.flat_link.proofs.PatchFacts.{same_items}
use Rattle.flat_link.proofs.linker.memory_of.Goals as goal

pub returns : goal.returns
returns c =
    let l = c.args.layout.now in
    let from = l.at.base + l.at.room in
    let bytes = c.deref-2.ensures.value ∙ c.in_ok-bytes.ensures ∙ ap (bytes_from from) (ap (map placed_of) c.deref.ensures.value ∙ c.requires.layout.memory) in
    let raw : c.deref_mut.result.now ≡ map bare (data_bytes_of l.objects.now l.at) = c.deref_mut.ensures.value ∙ c.in_ok-cells.ensures ∙ ap (map bare) bytes in
    let new = c.patch_all_data.new.cells in
    let laid = λ (ls : List Link) (r now : List Cell). AreLaid (λ k. is_data k.part.section) (λ all k. AreWritten (parts_in l) all from k) from ls (bare 0) r now in
    let done = subst (λ (ls : List Link). laid ls c.deref_mut.result.now new) c.requires.ties.all c.patch_all_data.ensures in
    let whole = subst (λ (r : List Cell). laid (all_links l.objects.now l.at) r new) raw done in
    let same = same_items new c.in_ok-cells.cells.items c.in_ok-cells.cells.len (c.patch_all_data.ensures.size ∙ ap length c.deref_mut.ensures.value) (sym (c.patch_all_data.ensures.size ∙ c.deref_mut.ensures.len)) in
    subst (IsMadeMemory l.objects.now l.at) (sym c.new.ensures) (record { base = refl; cells = subst (laid (all_links l.objects.now l.at) (map bare (data_bytes_of l.objects.now l.at))) (sym same) whole })
