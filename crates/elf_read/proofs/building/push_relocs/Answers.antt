use Rattle.std.proofs.Common.{◌≡◌, ◌+◌, ◌*◌, ◌/◌, ◌++◌, ◌∷◌, [], cond, ℕ, map, filter, sym, ap, ◌∙◌, subst, arith}
use Rattle.elf_model.specs.Files.{Header, header, from, reloc_of}
use Rattle.elf_read.specs.Faults.{IsRelocAt}
use Rattle.elf_read.specs.Keeping.{is_some_reloc}
use Rattle.elf_read.proofs.BadRelocs.{entry_at}
use Rattle.elf_read.proofs.BuiltLists.{push_kept}
use Rattle.elf_read.proofs.building.push_relocs.Goals as goal

pub push_reloc-requires-clause-stands : goal.push_reloc-requires-clause-stands
push_reloc-requires-clause-stands c =
    let b = c.args.bytes.now in
    let at = ap (λ (f : Header). f.offset) c.header_at-header.ensures in
    let size = ap (λ (f : Header). f.size) c.header_at-header.ensures in
    (c.loop-j.j, subst (λ (o : ℕ). IsRelocAt b c.args.h c.loop-j.j (o + 8 * c.loop-j.j)) (sym at) (entry_at b c.args.h c.requires.tabled c.requires.listed c.requires.kind c.loop-j.j (omega (arith, size))))

pub loop-j-preserved : goal.loop-j-preserved
loop-j-preserved c =
    let b = c.args.bytes.now in
    let h = c.args.h in
    let at = ap (λ (f : Header). f.offset) c.header_at-header.ensures in
    let place : c.header_at-header.result.offset + 8 * c.loop-j.j ≡ (header b h).offset + 8 * (0 + c.loop-j.j) = omega (arith, at) in
    let same = ap (λ (o : ℕ). (h, o)) place in
    push_kept (λ j. (h, (header b h).offset + 8 * j)) (is_some_reloc b) (reloc_of b) 0 c.loop-j.j c.args.relocs.now.items _ _
    (subst (λ (e : ℕ × ℕ). c.push_reloc.new.relocs.items ≡ c.loop-j.relocs.items ++ cond (is_some_reloc b e) (reloc_of b e ∷ []) []) same c.in_ok-push_reloc.ensures) c.loop-j.invariant

pub returns : goal.returns
returns c =
    let b = c.args.bytes.now in
    let h = c.args.h in
    let size = ap (λ (f : Header). f.size) c.header_at-header.ensures in
    let all : c.loop-j.j ≡ (header b h).size / 8 = omega (arith, size) in
    c.loop-j.invariant ∙ ap (λ (n : ℕ). c.args.relocs.now.items ++ map (reloc_of b) (filter (is_some_reloc b) (map (λ j. (h, (header b h).offset + 8 * j)) (from 0 n)))) all
