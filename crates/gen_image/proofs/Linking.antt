-- Each relocation of the generated object is one link, to the function behind.
use Rattle.std.proofs.Common.{◌≡◌, ◌<◌, ◌≤◌, ℕ, ◌+◌, [], ◌∷◌, refl, sym, subst, Some}
use Rattle.std.specs.Prelude.{slice_get}
use Rattle.elf_model.specs.declared.objects.Reloc.{Reloc}
use Rattle.elf_model.specs.Objects.{ObjectParts}
use Rattle.thumb_table.specs.Links.{Link, IsLink}
use Rattle.thumb_table.specs.LinkFaults.{IsReloc}
use Rattle.gen_object.specs.Generated.{function_symbol, call, generated}
use Rattle.gen_image.specs.GeneratedImages.{placement}
use Rattle.sim_images.proofs.StandingLinked.{same_link}
use Rattle.gen_flow.proofs.ObjectCalls.{reloc_there, called_symbol}
use Rattle.gen_flow.proofs.ObjectCalls.{reloc_is as its_reloc}
use Rattle.gen_image.proofs.Making.{sole}
use Rattle.gen_image.proofs.Placing.{part}
use Rattle.gen_image.proofs.Symbols.{defined, resolved_is}

abbrev pub link_of : ℕ → ℕ → ℕ → Link
link_of seed count k = record {
  file = 0;
  object = generated seed count;
  number = k;
  reloc = call k;
  part = part seed count;
  symbol = function_symbol count (k + 1);
  meant = defined count (k + 1);
}

pub is_link : (seed count k : ℕ) → count ≤ 4000 → k + 1 < count → IsLink (generated seed count ∷ []) placement (link_of seed count k)
is_link seed count k few low = record {
  object = refl;
  reloc = reloc_there seed count k low;
  part = refl;
  symbol = called_symbol seed count k low;
  meant = resolved_is seed count (k + 1) few low;
}

-- a relocation of it
pub reloc_is : (seed count i k : ℕ) (o : ObjectParts) (r : Reloc) → IsReloc (generated seed count ∷ []) i k o r → (i ≡ 0) × (generated seed count ≡ o) × (k + 1 < count) × (call k ≡ r)
reloc_is seed count i k o r h =
    let one = sole (generated seed count) i o h.object in
    let made = its_reloc seed count k r (subst (λ (z : ObjectParts). slice_get z.relocs k ≡ Some r) (sym one.1) h.reloc) in
    (one.0, one.1, made.0, sym made.1)

pub link_is : (seed count : ℕ) (l : Link) → count ≤ 4000 → IsLink (generated seed count ∷ []) placement l → (l.number + 1 < count) × (l ≡ link_of seed count l.number)
link_is seed count l few is =
    let h = reloc_is seed count l.file l.number l.object l.reloc (record { object = is.object; reloc = is.reloc }) in
    (h.2, same_link (generated seed count ∷ []) placement l (link_of seed count l.number) is (is_link seed count l.number few h.2) h.0 refl)
