-- The sections of relocations, one after the other.
use Rattle.std.proofs.Common.{◌≡◌, ◌<◌, get_or, ℕ, zero, suc, ◌+◌, Bool, true, false, not, cond, List, [], ◌∷◌, ◌++◌, length, refl, sym, ap, ◌∙◌, inl, inr, arith, map}
use Rattle.std.specs.Prelude.{◌==◌, if◌then◌else◌, count_by, codes}
use Rattle.std.proofs.lemmas.Bool.{cases_eq, eq-eqb, ne_eqb}
use Rattle.elf_model.specs.declared.objects.Section.{Section}
use Rattle.elf_model.specs.Objects.{ObjectParts}
use Rattle.elf_model.specs.Files.{from}
use Rattle.elf_model.specs.Canonical.{reloc_section, relocated, relocs_in, symtab_header}
use Rattle.elf_model.proofs.Lists.{count_cons}
use Rattle.elf_model.proofs.Written.{length-reloc_rows}
use Rattle.elf_write.specs.Writing.{file_section, rel_head, rel_sections, reloc_table}

-- the section with this number, if it has relocations
abbrev pub numbered : ObjectParts → ℕ → Section → List (ℕ × Section)
numbered o i s = if length (relocs_in o i) == 0 then [] else (i, s) ∷ []

pub relocated_push : (o : ObjectParts) (i : ℕ) (ss : List Section) (s : Section) → relocated o i (ss ++ s ∷ []) ≡ relocated o i ss ++ numbered o (i + length ss) s
relocated_push o i [] s = let same : i ≡ i + 0 = omega arith in ap (λ (k : ℕ). numbered o k s) same
relocated_push o i (x ∷ ss) s = go (length (relocs_in o i) == 0) (relocated_push o (i + 1) ss s ∙ ap (λ (k : ℕ). relocated o (i + 1) ss ++ numbered o k s) same)
  where
    same : (i + 1) + length ss ≡ i + length (x ∷ ss)
    same = omega arith

    go : (t : Bool) → relocated o (i + 1) (ss ++ s ∷ []) ≡ relocated o (i + 1) ss ++ numbered o (i + length (x ∷ ss)) s
        → (if t then relocated o (i + 1) (ss ++ s ∷ []) else (i, x) ∷ relocated o (i + 1) (ss ++ s ∷ [])) ≡ (if t then relocated o (i + 1) ss else (i, x) ∷ relocated o (i + 1) ss) ++ numbered o (i + length (x ∷ ss)) s
    go true h = h
    go false h = ap (λ (l : List (ℕ × Section)). (i, x) ∷ l) h

-- a table has rows where there are relocations
rows_none : (o : ObjectParts) (i : ℕ) → (length (reloc_table o.relocs i) == 0) ≡ (length (relocs_in o i) == 0)
rows_none o i =
    let long = length-reloc_rows (relocs_in o i) in
    elim (cases_eq (length (relocs_in o i)) 0) [
      | inl e ↦ eq-eqb (length (reloc_table o.relocs i)) 0 (omega (arith, long, e)) ∙ sym (eq-eqb (length (relocs_in o i)) 0 e)
      | inr n ↦ ne_eqb (length (reloc_table o.relocs i)) 0 (λ z. n (omega (arith, long, z))) ∙ sym (ne_eqb (length (relocs_in o i)) 0 n)
    ]

pub one_table : (o : ObjectParts) (i table : ℕ) (s : Section) (rows name : List ℕ) → table ≡ symtab_header o → rows ≡ reloc_table o.relocs i → name ≡ s.name → rel_sections table i name rows ≡ map (reloc_section o) (numbered o i s)
one_table o i table s rows name e h n =
    ap (λ (t : ℕ). rel_sections t i name rows) e ∙ ap (λ (r : List ℕ). rel_sections (symtab_header o) i name r) h ∙ ap (λ (m : List ℕ). rel_sections (symtab_header o) i m (reloc_table o.relocs i)) n
    ∙ ap (λ (t : Bool). if t then [] else file_section (codes ".rel" ++ s.name) (rel_head (symtab_header o) i (length (reloc_table o.relocs i))) (reloc_table o.relocs i) ∷ []) (rows_none o i)
    ∙ ap (λ (k : ℕ). if length (relocs_in o i) == 0 then [] else file_section (codes ".rel" ++ s.name) (rel_head (symtab_header o) i k) (reloc_table o.relocs i) ∷ []) (length-reloc_rows (relocs_in o i))
    ∙ go (length (relocs_in o i) == 0)
  where
    go : (t : Bool) → (if t then [] else reloc_section o (i, s) ∷ []) ≡ map (reloc_section o) (if t then [] else (i, s) ∷ [])
    go true = refl
    go false = refl

-- there are as many tables with rows as sections with relocations
pub filled_are : (o : ObjectParts) (i : ℕ) (ss : List Section) → count_by (λ t. not (length t == 0)) (map (reloc_table o.relocs) (from i (length ss))) ≡ length (relocated o i ss)
filled_are o i [] = refl
filled_are o i (s ∷ ss) =
    let rest : List (List ℕ) = map (reloc_table o.relocs) (from (i + 1) (length ss)) in
    count_cons (λ t. not (length t == 0)) (reloc_table o.relocs i) rest
    ∙ ap (λ (t : Bool). cond (not t) (1 + count_by (λ u. not (length u == 0)) rest) (count_by (λ u. not (length u == 0)) rest)) (rows_none o i)
    ∙ go (length (relocs_in o i) == 0) (filled_are o (i + 1) ss)
  where
    go : (t : Bool) → count_by (λ u. not (length u == 0)) (map (reloc_table o.relocs) (from (i + 1) (length ss))) ≡ length (relocated o (i + 1) ss)
        → cond (not t) (1 + count_by (λ u. not (length u == 0)) (map (reloc_table o.relocs) (from (i + 1) (length ss)))) (count_by (λ u. not (length u == 0)) (map (reloc_table o.relocs) (from (i + 1) (length ss)))) ≡ length (if t then relocated o (i + 1) ss else (i, s) ∷ relocated o (i + 1) ss)
    go true h = h
    go false h = omega (arith, h)

pub length_tables : {X : Type 0} (f : ℕ → X) (first n : ℕ) → length (map f (from first n)) ≡ n
length_tables f first zero = refl
length_tables f first (suc n) = let e = length_tables f (first + 1) n in omega (arith, e)

pub table_made : {X : Type 0} (f : ℕ → X) (first n i : ℕ) (d : X) → i < n → get_or (map f (from first n)) i d ≡ f (first + i)
table_made f first zero i d l = absurd (omega arith)
table_made f first (suc n) zero d l = let same : first ≡ first + 0 = omega arith in ap f same
table_made f first (suc n) (suc i) d l =
    let same : (first + 1) + i ≡ first + suc i = omega arith in
    table_made f (first + 1) n i d (omega arith) ∙ ap f same
