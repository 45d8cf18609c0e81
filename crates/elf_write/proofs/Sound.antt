-- What a sound object within the limits gives the writer.
use Rattle.std.proofs.Common.{◌≤◌, ◌<◌, ℕ, ◌+◌, ◌*◌, Bool, true, false, List, [], ◌∷◌, length, get_or, arith}
use Rattle.std.specs.Prelude.{All, IsTrue, ◌==◌, if◌then◌else◌}
use Rattle.elf_model.specs.declared.objects.Section.{Section}
use Rattle.elf_model.specs.declared.objects.Symbol.{Symbol}
use Rattle.elf_model.specs.declared.objects.Reloc.{Reloc}
use Rattle.elf_model.specs.Objects.{ObjectParts, is_object}
use Rattle.elf_model.specs.Canonical.{relocated, relocs_in}
use Rattle.elf_model.proofs.Written.{object_facts}
use Rattle.elf_model.proofs.Symbols.{symbol_facts}
use Rattle.elf_model.proofs.Relocs.{reloc_facts}

pub all_aligned : (o : ObjectParts) → IsTrue (is_object o) → All (λ (s : Section). 0 < s.align) o.sections
all_aligned o h k d l = let f = (object_facts o h).sections k d l in let a = f.aligned in omega (arith, a)

pub all_small : (o : ObjectParts) → IsTrue (is_object o) → All (λ (s : Symbol). s.bind * 16 + s.kind < 256) o.symbols
all_small o h k d l =
    let f = symbol_facts o.sections (get_or o.symbols k d) ((object_facts o h).symbols k d l) in
    let a = f.bind in
    let b = f.kind in
    omega (arith, a, b)

pub all_placed : (o : ObjectParts) → IsTrue (is_object o) → All (λ (r : Reloc). r.section < length o.sections) o.relocs
all_placed o h k d l = (reloc_facts o (get_or o.relocs k d) ((object_facts o h).relocs k d l)).section

pub relocated_few : (o : ObjectParts) (i : ℕ) (ss : List Section) → length (relocated o i ss) ≤ length ss
relocated_few o i [] = omega arith
relocated_few o i (s ∷ ss) = go (length (relocs_in o i) == 0) (relocated_few o (i + 1) ss)
  where
    go : (t : Bool) → length (relocated o (i + 1) ss) ≤ length ss → length (if t then relocated o (i + 1) ss else (i, s) ∷ relocated o (i + 1) ss) ≤ length (s ∷ ss)
    go true h = omega (arith, h)
    go false h = omega (arith, h)
