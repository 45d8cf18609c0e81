use Rattle.std.proofs.Common.{◌<◌, ◌^◌, ◌≡◌, ℕ, List, length, map, ap, ◌∙◌, sym, subst, refl}
use Rattle.elf_model.specs.Fields.{byte_at}
use Rattle.elf_model.specs.Objects.{is_code}
use Rattle.thumb_table.specs.Layouts.{bytes_from, code_bytes_of}
use Rattle.thumb_table.specs.Links.{Link, IsWritten}
use Rattle.flat_link.specs.Layout.{parts_in}
use Rattle.flat_link.specs.Lots.{placed_of}
use Rattle.flat_link.specs.Made.{IsMadeCode}
use Rattle.flat_link.specs.Marks.{marks_among}
use Rattle.flat_link.specs.Patches.{AreLaid}
use Rattle.flat_link.specs.Sites.{all_links}
use Rattle.flat_link.proofs.PatchFacts.{same_items}
use Rattle.flat_link.proofs.linker.code_of.Goals as goal

pub returns : goal.returns
returns c =
    let l = c.args.layout.now in
    let raw : c.deref_mut.result.now ≡ code_bytes_of l.objects.now l.at =
    c.deref_mut.ensures.value ∙ c.in_ok-bytes.ensures ∙ ap (bytes_from l.at.base) (ap (map placed_of) c.deref.ensures.value ∙ c.requires.layout.code) in
    let new = c.patch_all_code.new.bytes in
    let laid = λ (ls : List Link) (r now : List ℕ). AreLaid (λ k. is_code k.part.section) (λ all k. IsWritten (parts_in l) all l.at.base k) l.at.base ls 0 r now in
    let done = subst (λ (ls : List Link). laid ls c.deref_mut.result.now new) c.requires.ties.all c.patch_all_code.ensures in
    let whole = subst (λ (r : List ℕ). laid (all_links l.objects.now l.at) r new) raw done in
    let same = same_items new c.in_ok-bytes.bytes.items c.in_ok-bytes.bytes.len (c.patch_all_code.ensures.size ∙ ap length c.deref_mut.ensures.value) (sym (c.patch_all_code.ensures.size ∙ c.deref_mut.ensures.len)) in
    subst (IsMadeCode l.objects.now l.at) (sym c.new.ensures) (record {
      base = refl;
      small = λ x. subst (λ (bs : List ℕ). byte_at bs x < 2 ^ 8) c.deref-2.ensures.value (c.are_small.ensures x);
      bytes = subst (laid (all_links l.objects.now l.at) (code_bytes_of l.objects.now l.at)) (sym same) whole;
      marks = c.in_ok-marks.ensures ∙ ap (marks_among (parts_in l)) c.requires.ties.all;
      stops = c.in_ok-stops.ensures.same;
      rise = c.in_ok-stops.ensures.rise;
    })
