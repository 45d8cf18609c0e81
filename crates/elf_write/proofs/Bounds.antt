-- The file of an object within the limits has fewer than 2^32 bytes.
use Rattle.std.proofs.Common.{◌≡◌, ◌≤◌, ◌<◌, ℕ, ◌+◌, ◌-◌, ◌*◌, ◌^◌, Bool, true, false, cond, not, List, [], ◌∷◌, ◌++◌, length, get_or, refl, ap, ◌∙◌, arith, map, filter}
use Rattle.std.specs.Prelude.{All, IsTrue, ◌==◌, ◌&&◌, nat_le, if◌then◌else◌, codes}
use Rattle.std.specs.List.{sum_by, flat_map}
use Rattle.std.proofs.Math.Nat.{div-mul-le_self}
use Rattle.std.proofs.lemmas.List.{length-append, length-map}
use Rattle.std.proofs.lemmas.List.Sums.{sum_by-cons, sum_by-append}
use Rattle.std.proofs.lemmas.List.Elements.{All-nil, All-cons, All-append, All-map, All-head, All-tail}
use Rattle.elf_model.specs.declared.objects.Section.{Section}
use Rattle.elf_model.specs.declared.objects.Symbol.{Symbol}
use Rattle.elf_model.specs.Constants.{nobits}
use Rattle.elf_model.specs.Fields.{same_name}
use Rattle.elf_model.specs.Objects.{ObjectParts, is_object, is_within, code_size}
use Rattle.elf_model.specs.declared.refusals.Limit.{Limit}
use Rattle.std.proofs.lemmas.Bool.{and_parts, leb-true}
use Rattle.elf_model.specs.Canonical.{FileSection, canonical, file_sections, section_names, own_section, reloc_section, reloc_name, symtab_section, strings_section, symbol_names, string_table, different, relocated, relocs_in, round_up, start_of, end_of, laid_end, table_place, shstrtab_header}
use Rattle.elf_model.specs.Fits.{Fits, SectionFits, SymbolFits, RelocFits}
use Rattle.elf_model.proofs.FileRead.{length-file_of}
use Rattle.elf_model.proofs.Laid.{round_up_above}
use Rattle.elf_model.proofs.Sorted.{relocs_from, all_from_first}
use Rattle.elf_model.proofs.Strings.{with_nuls}
use Rattle.elf_model.proofs.Symbols.{symbol_facts}
use Rattle.elf_model.proofs.Written.{ObjectFacts, object_facts, all_aligned, is_written, count_sections, length-reloc_rows, length-symbol_rows}
use Rattle.elf_write.proofs.Sound.{relocated_few, all_placed}

-- a name with its NUL takes at most so much
abbrev IsShort : List ℕ → Type 0
IsShort n = length n < 4100

nuls_filtered : (p : List ℕ → Bool) (ds : List (List ℕ)) → length (with_nuls (filter p ds)) ≤ length (with_nuls ds)
nuls_filtered p [] = omega arith
nuls_filtered p (d ∷ ds) = go (p d) (nuls_filtered p ds)
  where
    go : (t : Bool) → length (with_nuls (filter p ds)) ≤ length (with_nuls ds) → length (with_nuls (cond t (d ∷ filter p ds) (filter p ds))) ≤ length (with_nuls (d ∷ ds))
    go true h = omega (arith, h, length-append (d ++ 0 ∷ []) (with_nuls (filter p ds)), length-append (d ++ 0 ∷ []) (with_nuls ds))
    go false h = omega (arith, h, length-append (d ++ 0 ∷ []) (with_nuls ds))

nuls_short : (names : List (List ℕ)) → All IsShort names → length (with_nuls (different names)) ≤ 4100 * length names
nuls_short [] a = omega arith
nuls_short ([] ∷ names) a = let h = nuls_short names (All-tail IsShort [] names a) in omega (arith, h)
nuls_short ((c ∷ cs) ∷ names) a =
    let h = nuls_short names (All-tail IsShort (c ∷ cs) names a) in
    let one = All-head IsShort (c ∷ cs) names a in
    let rest : List (List ℕ) = filter (λ m. not (same_name m (c ∷ cs))) (different names) in
    let fewer = nuls_filtered (λ m. not (same_name m (c ∷ cs))) (different names) in
    omega (arith, h, one, fewer, length-append ((c ∷ cs) ++ 0 ∷ []) (with_nuls rest), length-append (c ∷ cs) (0 ∷ []))

table_short : (names : List (List ℕ)) → All IsShort names → length (string_table names) ≤ 1 + 4100 * length names
table_short names a = let h = nuls_short names a in omega (arith, h)

-- the limits of every command
abbrev pub any_limit : Limit
any_limit = record { file = 16777216; sections = 1024; symbols = 262144; relocs = 524288; code = 16777216 }

-- what a section takes of the file at most
abbrev weight : FileSection → ℕ
weight s = length s.bytes + s.align

rounded : (at align : ℕ) → round_up at align ≤ at + align
rounded at align = let h = div-mul-le_self (at + align - 1) align in omega (arith, h)

end_within : (at : ℕ) (s : FileSection) → end_of at s ≤ at + weight s
end_within at s = go (s.kind == nobits)
  where
    start : start_of at s ≤ at + s.align
    start = rounded at s.align

    go : (t : Bool) → (if t then at else start_of at s + length s.bytes) ≤ at + weight s
    go true = omega arith
    go false = omega (arith, start)

laid_within : (at : ℕ) (ss : List FileSection) → laid_end at ss ≤ at + sum_by weight ss
laid_within at [] = omega arith
laid_within at (s ∷ ss) =
    let one = end_within at s in
    let rest = laid_within (end_of at s) ss in
    omega (arith, one, rest, sum_by-cons weight s ss)

abbrev byte_count : Section → ℕ
byte_count s = length s.bytes

own_within : (ss : List Section) → All (λ (s : Section). s.align ≤ 4096) ss → sum_by weight (map own_section ss) ≤ sum_by byte_count ss + 4096 * length ss
own_within [] a = omega arith
own_within (s ∷ ss) a =
    let one = All-head (λ (x : Section). x.align ≤ 4096) s ss a in
    let rest = own_within ss (All-tail (λ (x : Section). x.align ≤ 4096) s ss a) in
    omega (arith, one, rest, sum_by-cons weight (own_section s) (map own_section ss), sum_by-cons byte_count s ss)

rels_within : (o : ObjectParts) (ps : List (ℕ × Section)) → sum_by weight (map (reloc_section o) ps) ≡ 8 * length (flat_map (λ (p : ℕ × Section). relocs_in o p.0) ps) + 4 * length ps
rels_within o [] = refl
rels_within o (p ∷ ps) =
    let rest = rels_within o ps in
    let one = length-reloc_rows (relocs_in o p.0) in
    omega (arith, one, rest, sum_by-cons weight (reloc_section o p) (map (reloc_section o) ps), length-append (relocs_in o p.0) (flat_map (λ (q : ℕ × Section). relocs_in o q.0) ps))

-- the names of the sections and symbols are short
relocated_named : (o : ObjectParts) (i : ℕ) (ss : List Section) → All (λ (s : Section). length s.name ≤ 4095) ss → All (λ (p : ℕ × Section). IsShort (reloc_name p)) (relocated o i ss)
relocated_named o i [] a = All-nil (λ (p : ℕ × Section). IsShort (reloc_name p))
relocated_named o i (s ∷ ss) a =
    let one = All-head (λ (x : Section). length x.name ≤ 4095) s ss a in
    go (length (relocs_in o i) == 0) (omega (arith, one, length-append (codes ".rel") s.name)) (relocated_named o (i + 1) ss (All-tail (λ (x : Section). length x.name ≤ 4095) s ss a))
  where
    go : (t : Bool) → IsShort (reloc_name (i, s)) → All (λ (p : ℕ × Section). IsShort (reloc_name p)) (relocated o (i + 1) ss) → All (λ (p : ℕ × Section). IsShort (reloc_name p)) (if t then relocated o (i + 1) ss else (i, s) ∷ relocated o (i + 1) ss)
    go true one rest = rest
    go false one rest = All-cons (λ (p : ℕ × Section). IsShort (reloc_name p)) (i, s) (relocated o (i + 1) ss) one rest

section_names_short : (o : ObjectParts) → ObjectFacts o → All IsShort (section_names o)
section_names_short o f =
    let tables : List (List ℕ) = codes ".symtab" ∷ codes ".strtab" ∷ codes ".shstrtab" ∷ [] in
    let own : List (List ℕ) = map (λ (s : Section). s.name) o.sections in
    let rels : List (List ℕ) = map reloc_name (relocated o 0 o.sections) in
    let short : All (λ (s : Section). length s.name ≤ 4095) o.sections = λ k d l. (f.sections k d l).name.short in
    All-append IsShort (own ++ rels) tables
    (All-append IsShort own rels (All-map IsShort (λ (s : Section). s.name) o.sections (λ k d l. let h = short k d l in omega (arith, h))) (All-map IsShort reloc_name (relocated o 0 o.sections) (relocated_named o 0 o.sections short)))
    (All-cons IsShort (codes ".symtab") (codes ".strtab" ∷ codes ".shstrtab" ∷ []) (omega arith) (All-cons IsShort (codes ".strtab") (codes ".shstrtab" ∷ []) (omega arith) (All-cons IsShort (codes ".shstrtab") [] (omega arith) (All-nil IsShort))))

symbol_names_short : (o : ObjectParts) → ObjectFacts o → All IsShort (symbol_names o)
symbol_names_short o f = All-map IsShort (λ (s : Symbol). s.name) o.symbols (λ k d l. let h = (symbol_facts o.sections (get_or o.symbols k d) (f.symbols k d l)).name.short in omega (arith, h))

length-section_names : (o : ObjectParts) → length (section_names o) ≡ length o.sections + length (relocated o 0 o.sections) + 3
length-section_names o =
    let own = length-map o.sections (λ (s : Section). s.name) in
    let rels = length-map (relocated o 0 o.sections) reloc_name in
    omega (arith, own, rels, length-append (map (λ (s : Section). s.name) o.sections ++ map reloc_name (relocated o 0 o.sections)) (codes ".symtab" ∷ codes ".strtab" ∷ codes ".shstrtab" ∷ []), length-append (map (λ (s : Section). s.name) o.sections) (map reloc_name (relocated o 0 o.sections)))

-- no more of anything than the limits of every command say, and fewer bytes than 2^30
pub record IsSmall (o : ObjectParts) : Type 0 where
  pub sections : length o.sections ≤ 1024
  pub symbols : length o.symbols ≤ 262144
  pub relocs : length o.relocs ≤ 524288
  pub bytes : sum_by byte_count o.sections < 2 ^ 30

tables_within : (o : ObjectParts) → ObjectFacts o → IsSmall o → weight (symtab_section o) + (weight (strings_section (codes ".strtab") (symbol_names o)) + weight (strings_section (codes ".shstrtab") (section_names o))) ≤ 1087393832
tables_within o f s =
    let a = s.sections in
    let b = s.symbols in
    let few = relocated_few o 0 o.sections in
    let rows = length-symbol_rows (symbol_names o) o.symbols in
    let names = table_short (symbol_names o) (symbol_names_short o f) in
    let heads = table_short (section_names o) (section_names_short o f) in
    let count = length-section_names o in
    let symbols = length-map o.symbols (λ (x : Symbol). x.name) in
    omega (arith, a, b, few, rows, names, heads, count, symbols)

sections_within : (o : ObjectParts) → IsTrue (is_object o) → IsSmall o → sum_by weight (file_sections o) ≤ 2169600000
sections_within o h s =
    let f = object_facts o h in
    let own : List FileSection = map own_section o.sections in
    let rels : List FileSection = map (reloc_section o) (relocated o 0 o.sections) in
    let strtab : FileSection = strings_section (codes ".strtab") (symbol_names o) in
    let shstrtab : FileSection = strings_section (codes ".shstrtab") (section_names o) in
    let first = own_within o.sections (λ k d l. (f.sections k d l).low) in
    let second = rels_within o (relocated o 0 o.sections) in
    let relocs : flat_map (λ (p : ℕ × Section). relocs_in o p.0) (relocated o 0 o.sections) ≡ o.relocs =
    relocs_from o 0 o.sections f.rising (λ k d l. let p = all_placed o h k d l in omega (arith, p)) ∙ all_from_first o.relocs in
    let third = tables_within o f s in
    let few = relocated_few o 0 o.sections in
    let many = ap length relocs in
    let a = s.sections in
    let b = s.relocs in
    let c = s.bytes in
    let tables : sum_by weight (symtab_section o ∷ strtab ∷ shstrtab ∷ []) ≤ 1087393832 = omega (arith, third, sum_by-cons weight (symtab_section o) (strtab ∷ shstrtab ∷ []), sum_by-cons weight strtab (shstrtab ∷ []), sum_by-cons weight shstrtab []) in
    let whole = sum_by-append weight (own ++ rels) (symtab_section o ∷ strtab ∷ shstrtab ∷ []) in
    let front = sum_by-append weight own rels in
    omega (arith, whole, front, first, second, many, tables, few, a, b, c)

pub fits_file : (o : ObjectParts) → IsTrue (is_object o) → IsSmall o → length (canonical o) < 2 ^ 32
fits_file o h s =
    let f = object_facts o h in
    let a = s.sections in
    let few = relocated_few o 0 o.sections in
    let ends = laid_within 52 (file_sections o) in
    let place = rounded (laid_end 52 (file_sections o)) 4 in
    let behind = round_up_above (laid_end 52 (file_sections o)) 4 (omega arith) in
    let sum = sections_within o h s in
    let count = count_sections o in
    let long = ap length (is_written o) ∙ length-file_of (section_names o) (file_sections o) (table_place o) (shstrtab_header o) o.flags behind (all_aligned o f) in
    omega (arith, a, few, ends, place, sum, count, long)

-- the numbers of a sound object within the limits fit, where those of its parts do
pub fits : (o : ObjectParts) → IsTrue (is_object o) → IsSmall o → o.flags < 2 ^ 32 → All SectionFits o.sections → All SymbolFits o.symbols → All RelocFits o.relocs → Fits o
fits o h s flags sections symbols relocs =
    let a = s.sections in
    let b = s.symbols in
    let few = relocated_few o 0 o.sections in
    let count = count_sections o in
    record { flags = flags; count = omega (arith, a, few, count); file = fits_file o h s; symbol_count = omega (arith, b); sections = sections; symbols = symbols; relocs = relocs }

pub small : (o : ObjectParts) → IsTrue (is_within o any_limit) → sum_by byte_count o.sections < 2 ^ 30 → IsSmall o
small o h b =
    let x = and_parts (nat_le (length o.sections) 1024 && nat_le (length o.symbols) 262144 && nat_le (length o.relocs) 524288) (nat_le (code_size o.sections) 16777216) h in
    let y = and_parts (nat_le (length o.sections) 1024 && nat_le (length o.symbols) 262144) (nat_le (length o.relocs) 524288) x.0 in
    let z = and_parts (nat_le (length o.sections) 1024) (nat_le (length o.symbols) 262144) y.0 in
    record { sections = leb-true (length o.sections) 1024 z.0; symbols = leb-true (length o.symbols) 262144 z.1; relocs = leb-true (length o.relocs) 524288 y.1; bytes = b }
