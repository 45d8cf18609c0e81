use Rattle.std.proofs.Common.{◌≡◌, ◌++◌, ◌∷◌, [], ◌∙◌, ◌+◌, ◌<◌, ap, sym, List, ℕ, take, map, subst, length, get_or, arith}
use Rattle.std.proofs.lemmas.List.{append_assoc, map-append, take_more, length-take}
use Rattle.elf_model.specs.declared.objects.Section.{Section}
use Rattle.elf_model.specs.Objects.{ObjectParts}
use Rattle.elf_model.specs.Canonical.{FileSection, own_section, reloc_section, relocated}
use Rattle.elf_write.specs.Writing.{IsWritten, rel_sections, reloc_table}
use Rattle.elf_write.proofs.Relocated.{relocated_push, numbered, one_table, length_tables, table_made}
use Rattle.elf_write.proofs.sections.put_relocs.Goals as goal

pub bounds-tables-i : goal.bounds-tables-i
bounds-tables-i c =
    let l = length_tables (reloc_table c.args.o.now.relocs) 0 (length c.args.o.now.sections) in
    omega (arith, ap length c.requires.tables, l, ap length c.sections-sections.ensures, c.loop-i-test.true)

pub loop-i-preserved : goal.loop-i-preserved
loop-i-preserved c =
    let o : ObjectParts = c.args.o.now in
    let i : ℕ = c.loop-i.i in
    let s : Section = c.index-sections-i.result in
    let inside : i < length o.sections = omega (arith, ap length c.sections-sections.ensures, c.loop-i-test.true) in
    let xs : List Section = take i o.sections in
    let here : s ≡ get_or o.sections i s = c.index-sections-i.is ∙ ap (λ (l : List Section). get_or l i s) c.sections-sections.ensures in
    let more : take (i + 1) o.sections ≡ xs ++ s ∷ [] = take_more o.sections i s inside ∙ ap (λ (x : Section). xs ++ x ∷ []) (sym here) in
    let long : 0 + length xs ≡ i = omega (arith, length-take i o.sections, inside) in
    let zero_first : 0 + i ≡ i = omega arith in
    let rows : c.as_slice-rows.result.now ≡ reloc_table o.relocs i =
    c.as_slice-rows.ensures ∙ c.index-tables-i.is ∙ ap (λ (l : List (List ℕ)). get_or l i c.index-tables-i.result) c.requires.tables
    ∙ table_made (reloc_table o.relocs) 0 (length o.sections) i c.index-tables-i.result inside ∙ ap (reloc_table o.relocs) zero_first in
    let front : List FileSection = map own_section o.sections ++ map (reloc_section o) (relocated o 0 xs) in
    let put : IsWritten c.put_rel.new.layout c.put_rel.new.names (front ++ rel_sections c.args.symtab i c.bytes.result.now c.as_slice-rows.result.now) =
    c.in_ok-put_rel.ensures front c.args.symtab i c.reloc_head-head.ensures c.loop-i.invariant in
    let one = one_table o i c.args.symtab s c.as_slice-rows.result.now c.bytes.result.now c.requires.symtab rows (c.bytes.ensures ∙ ap (λ (x : Section). x.name) (sym c.index-sections-i.is)) in
    let all : front ++ rel_sections c.args.symtab i c.bytes.result.now c.as_slice-rows.result.now ≡ map own_section o.sections ++ map (reloc_section o) (relocated o 0 (take (i + 1) o.sections)) =
    ap (λ (l : List FileSection). front ++ l) one ∙ append_assoc (map own_section o.sections) (map (reloc_section o) (relocated o 0 xs)) (map (reloc_section o) (numbered o i s))
    ∙ ap (λ (l : List FileSection). map own_section o.sections ++ l) (sym (map-append (reloc_section o) (relocated o 0 xs) (numbered o i s)))
    ∙ ap (λ (l : List (ℕ × Section)). map own_section o.sections ++ map (reloc_section o) l) (sym (ap (relocated o 0) more ∙ relocated_push o 0 xs s ∙ ap (λ (k : ℕ). relocated o 0 xs ++ numbered o k s) long)) in
    subst (IsWritten c.put_rel.new.layout c.put_rel.new.names) all put
