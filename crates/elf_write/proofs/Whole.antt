-- The file of the sections that were laid out is the canonical one.
use Rattle.std.proofs.Common.{◌≡◌, ℕ, ◌+◌, ◌-◌, List, ◌++◌, length, replicate, ap, ◌∙◌, arith}
use Rattle.elf_model.specs.Objects.{ObjectParts}
use Rattle.elf_model.specs.Canonical.{canonical, file_header, file_sections, section_names, symtab_header, shstrtab_header, laid, laid_end, header_rows, round_up}
use Rattle.elf_model.proofs.Laid.{length-laid}
use Rattle.elf_model.proofs.Written.{count_sections}
use Rattle.elf_write.specs.declared.layout.Layout.{Layout}
use Rattle.elf_write.specs.Writing.{IsLaid, whole_file}

-- the file by its parts, whose contents end at this offset
abbrev file_by : ℕ → ℕ → ℕ → ℕ → List ℕ → List ℕ → List ℕ
file_by at count names flags contents rows = file_header (round_up at 4) count names flags ++ contents ++ replicate (round_up at 4 - at) 0 ++ replicate 40 0 ++ rows

pub whole_is : (o : ObjectParts) (l : Layout) (symtab flags : ℕ) → IsLaid l (section_names o) (file_sections o) → symtab ≡ symtab_header o → flags ≡ o.flags → whole_file l.contents.items l.rows.items symtab flags ≡ canonical o
whole_is o l symtab flags h s f =
    let at : ℕ = 52 + length l.contents.items in
    let long : at ≡ laid_end 52 (file_sections o) = ap (λ (b : List ℕ). 52 + length b) h.contents ∙ length-laid 52 (file_sections o) h.aligned in
    let all = count_sections o in
    let count : symtab + 3 ≡ 1 + length (file_sections o) = omega (arith, s, all) in
    ap (λ (c : List ℕ). file_by at (symtab + 3) (symtab + 2) flags c l.rows.items) h.contents
    ∙ ap (λ (r : List ℕ). file_by at (symtab + 3) (symtab + 2) flags (laid 52 (file_sections o)) r) h.rows
    ∙ ap (λ (a : ℕ). file_by a (symtab + 3) (symtab + 2) flags (laid 52 (file_sections o)) (header_rows (section_names o) 52 (file_sections o))) long
    ∙ ap (λ (n : ℕ). file_by (laid_end 52 (file_sections o)) n (symtab + 2) flags (laid 52 (file_sections o)) (header_rows (section_names o) 52 (file_sections o))) count
    ∙ ap (λ (n : ℕ). file_by (laid_end 52 (file_sections o)) (1 + length (file_sections o)) (n + 2) flags (laid 52 (file_sections o)) (header_rows (section_names o) 52 (file_sections o))) s
    ∙ ap (λ (n : ℕ). file_by (laid_end 52 (file_sections o)) (1 + length (file_sections o)) (shstrtab_header o) n (laid 52 (file_sections o)) (header_rows (section_names o) 52 (file_sections o))) f
