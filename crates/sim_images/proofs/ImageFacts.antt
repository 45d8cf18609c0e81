-- Laws on one image that are proved: where parts are, and bytes that no relocation has.
use Rattle.std.specs.Prelude.{◌≡◌, ◌≤◌, ℕ, ◌+◌, ◌-◌, ◌==◌, ◌&&◌, max, true, cond, List, length, replicate, get_or, Contains}
use Rattle.std.proofs.Common.{arith, inl, inr, ap, sym, ◌∙◌}
use Rattle.std.proofs.lemmas.Bool.{and_parts, eqb-true}
use Rattle.elf_model.specs.declared.objects.Section.{Section}
use Rattle.elf_model.specs.Constants.{nobits, progbits}
use Rattle.elf_model.specs.Fields.{byte_at}
use Rattle.elf_model.specs.Objects.{ObjectParts, is_code, is_data, is_alloc, is_exec}
use Rattle.mark_word.specs.Words.{bare}
use Rattle.thumb_table.specs.declared.placements.Placement.{Placement}
use Rattle.thumb_table.specs.Layouts.{Placed, all_chosen, code_parts, data_parts, part_bytes, code_bytes_of, data_bytes_of}
use Rattle.thumb_table.specs.Links.{covers}
use Rattle.sim_images.specs.ImageLaws.{NotBoth, PartsApart, CodeInside, DataInside, CodeAsIs, DataAsIs}
use Rattle.sim_images.proofs.RightPlaces.{no_data}
use Rattle.sim_images.proofs.RawBytes.{begins, ends_inside, raw_byte}
use Rattle.sim_images.proofs.PartFacts.{IsPartOf, part_is, apart, is_free, code_good, data_good}

pub not_both : NotBoth
not_both objects at image spot is fault = is.can.sound spot fault

pub parts_apart : PartsApart
parts_apart objects at sound placement can i j k l o q p r a b x y lx ly e =
    let pa = part_is objects at i j p a.part in
    let pb = part_is objects at k l r b.part in
    let same = apart objects at sound can i j k l p r pa pb x y lx ly e in
    let start : p.start ≡ r.start = ap (λ (z : Placed). z.start) same in
    let offset : x ≡ y = omega arith in
    (sym pa.file ∙ (ap (λ (z : Placed). z.object) same ∙ pb.file), sym pa.index ∙ (ap (λ (z : Placed). z.index) same ∙ pb.index), offset)

-- code has its bytes
pub code_has_bytes : (s : Section) → is_code s ≡ true → part_bytes s ≡ s.bytes
code_has_bytes s c =
    let k : s.kind ≡ progbits = eqb-true s.kind progbits (and_parts (s.kind == progbits) (is_alloc s.flags) (and_parts ((s.kind == progbits) && is_alloc s.flags) (is_exec s.flags) c).0).0 in
    ap (λ (n : ℕ). cond (n == nobits) (replicate s.size 0) s.bytes) k

pub is_code_part : (objects : List ObjectParts) (at : Placement) (i j : ℕ) (p : Placed) → IsPartOf objects at i j p → is_code p.section ≡ true → Contains (code_parts objects at) p
is_code_part objects at i j p h c = elim (h.sort) [ inl a ↦ a.0 | inr b ↦ absurd (no_data p.section c b.1) ]

pub is_data_part : (objects : List ObjectParts) (at : Placement) (i j : ℕ) (p : Placed) → IsPartOf objects at i j p → is_data p.section ≡ true → Contains (data_parts objects at) p
is_data_part objects at i j p h d = elim (h.sort) [ inl a ↦ absurd (no_data p.section a.1 d) | inr b ↦ b.0 ]

pub code_inside : CodeInside
code_inside objects at image sound is i j o p here code =
    let h = part_is objects at i j p here.part in
    let c = is_code_part objects at i j p h code in
    let good = code_good objects sound in
    let low : at.base ≤ p.start = begins (λ s. max 4 s.align) at.base (all_chosen is_code 0 objects) good p c in
    let high : p.start + p.section.size ≤ at.base + length (code_bytes_of objects at) = ends_inside (λ s. max 4 s.align) at.base (all_chosen is_code 0 objects) good p c in
    let size : length image.code.bytes ≡ length (code_bytes_of objects at) = is.code.size in
    (low, omega arith)

pub data_inside : DataInside
data_inside objects at image sound is i j o p here datum =
    let h = part_is objects at i j p here.part in
    let c = is_data_part objects at i j p h datum in
    let good = data_good objects sound in
    let low : at.base + at.room ≤ p.start = begins (λ s. s.align) (at.base + at.room) (all_chosen is_data 0 objects) good p c in
    let high : p.start + p.section.size ≤ at.base + at.room + length (data_bytes_of objects at) = ends_inside (λ s. s.align) (at.base + at.room) (all_chosen is_data 0 objects) good p c in
    let size : length image.memory.cells ≡ length (data_bytes_of objects at) = is.memory.size in
    let base : image.memory.base ≡ at.base + at.room = is.memory.base in
    (omega arith, omega arith)

pub code_as_is : CodeAsIs
code_as_is objects at image sound is i j o p here code x lx own =
    let h = part_is objects at i j p here.part in
    let c = is_code_part objects at i j p h code in
    let good = code_good objects sound in
    let low : at.base ≤ p.start = begins (λ s. max 4 s.align) at.base (all_chosen is_code 0 objects) good p c in
    let free = is_free objects at sound is.can i j p h x lx own in
    let e : p.start + x ≡ at.base + (p.start + x - at.base) = omega arith in
    is.code.others (p.start + x - at.base) (λ l k. ap (λ (a : ℕ). covers a l) (sym e) ∙ free l k)
    ∙ (raw_byte (λ s. max 4 s.align) at.base (all_chosen is_code 0 objects) good p c x lx
    ∙ ap (λ (b : List ℕ). get_or b x 0) (code_has_bytes p.section code))

pub data_as_is : DataAsIs
data_as_is objects at image sound is i j o p here datum x lx own =
    let h = part_is objects at i j p here.part in
    let c = is_data_part objects at i j p h datum in
    let good = data_good objects sound in
    let low : at.base + at.room ≤ p.start = begins (λ s. s.align) (at.base + at.room) (all_chosen is_data 0 objects) good p c in
    let base : image.memory.base ≡ at.base + at.room = is.memory.base in
    let free = is_free objects at sound is.can i j p h x lx own in
    let e : p.start + x ≡ image.memory.base + (p.start + x - image.memory.base) = omega arith in
    let f : p.start + x - image.memory.base ≡ p.start + x - (at.base + at.room) = omega arith in
    is.memory.others (p.start + x - image.memory.base) (λ l k. ap (λ (a : ℕ). covers a l) (sym e) ∙ free l k)
    ∙ ap (λ (b : ℕ). bare b) (ap (λ (n : ℕ). byte_at (data_bytes_of objects at) n) f ∙ raw_byte (λ s. s.align) (at.base + at.room) (all_chosen is_data 0 objects) good p c x lx)
