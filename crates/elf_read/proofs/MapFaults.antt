-- When an object has an address map, and when it has none.
use Rattle.std.proofs.Common.{◌≡◌, ℕ, ◌%◌, true, false, List, [], ◌∷◌, length, get_or, sym, ap, ◌∙◌, subst, filter, arith}
use Rattle.std.proofs.lemmas.Bool.Decides.{nat_tests}
use Rattle.elf_model.specs.declared.objects.Section.{Section}
use Rattle.elf_model.specs.declared.objects.MapRow.{MapRow}
use Rattle.elf_model.specs.declared.refusals.Deny.{Deny}
use Rattle.elf_model.specs.declared.refusals.Deny.TheVariants.{NoMemory, Refused}
use Rattle.elf_model.specs.Objects.{ObjectParts}
use Rattle.elf_model.specs.Maps.{AreRows, HasMap, is_map_named}
use Rattle.elf_read.specs.MapRefusals.{HasNoMap, IsDenied}
use Rattle.elf_read.specs.MapRows.{is_plain, rising, HasNoRows, IsOnlyAt}
use Rattle.elf_read.proofs.MapRows.{rise_is, rising_so}
use Rattle.elf_read.proofs.RowBytes.{same_rows, whole_rows}

pub the_section : (o : ObjectParts) (xs : List Section) (k : ℕ) (s : Section) → xs ≡ o.sections → IsOnlyAt xs k → s ≡ get_or xs k s → filter is_map_named o.sections ≡ s ∷ []
the_section o xs k s e only at = ap (filter is_map_named) (sym e) ∙ only.one ∙ ap (λ (t : Section). t ∷ []) (sym (at ∙ only.there s))

pub same_section : (a b : Section) (xs : List Section) → xs ≡ a ∷ [] → xs ≡ b ∷ [] → a ≡ b
same_section a b xs p q = ap (λ (ys : List Section). get_or ys 0 a) (sym p ∙ q)

plain_so : (s : Section) → s.kind ≡ 1 → s.flags ≡ 0 → s.entry ≡ 16 → length s.bytes % 16 ≡ 0 → is_plain s ≡ true
plain_so s k f e w = grind (arith, nat_tests)

plain_kind : (s : Section) → is_plain s ≡ true → s.kind ≡ 1
plain_kind s h = grind (arith, nat_tests)

plain_flags : (s : Section) → is_plain s ≡ true → s.flags ≡ 0
plain_flags s h = grind (arith, nat_tests)

plain_entry : (s : Section) → is_plain s ≡ true → s.entry ≡ 16
plain_entry s h = grind (arith, nat_tests)

pub plain_whole : (s : Section) → is_plain s ≡ true → length s.bytes % 16 ≡ 0
plain_whole s h = grind (arith, nat_tests)

pub not_plain : (o : ObjectParts) (s : Section) → filter is_map_named o.sections ≡ s ∷ [] → is_plain s ≡ false → HasNoMap o
not_plain o s h not_so = λ rows m.
    let e = same_section m.section s (filter is_map_named o.sections) m.only h in
    let whole : length m.section.bytes % 16 ≡ 0 = omega (arith, ap length m.are_rows.bytes, whole_rows rows) in
    let t : true ≡ false = sym (plain_so m.section m.kind m.flags m.entry whole) ∙ ap is_plain e ∙ not_so in
    absurd (grind (arith, t))

pub not_rising : (o : ObjectParts) (s : Section) (rows : List MapRow) → filter is_map_named o.sections ≡ s ∷ [] → AreRows s.bytes rows → rising rows ≡ false → HasNoMap o
not_rising o s rows h are not_so = λ other m.
    let e = same_section s m.section (filter is_map_named o.sections) h m.only in
    let same = same_rows rows other (sym are.bytes ∙ ap (λ (x : Section). x.bytes) e ∙ m.are_rows.bytes) are.fit m.are_rows.fit in
    let t : true ≡ false = sym (rising_so other m.rise) ∙ ap rising (sym same) ∙ not_so in
    absurd (grind (arith, t))

pub rows_refused : (o : ObjectParts) (s : Section) (d : Deny) → filter is_map_named o.sections ≡ s ∷ [] → IsDenied (HasNoRows s.bytes) d → IsDenied (HasNoMap o) d
rows_refused o s NoMemory h not_so = tt
rows_refused o s (Refused spot) h not_so = (not_so.0, λ rows m. not_so.1 rows (subst (λ (x : Section). AreRows x.bytes rows) (same_section m.section s (filter is_map_named o.sections) m.only h) m.are_rows))

pub map_found : (o : ObjectParts) (s : Section) (rows : List MapRow) → filter is_map_named o.sections ≡ s ∷ [] → is_plain s ≡ true → AreRows s.bytes rows → rising rows ≡ true → HasMap o rows
map_found o s rows h plain are rises = record {
  section = s;
  only = h;
  kind = plain_kind s plain;
  flags = plain_flags s plain;
  entry = plain_entry s plain;
  are_rows = are;
  rise = rise_is rows rises;
}

pub one_map : (o : ObjectParts) (rows others : List MapRow) → HasMap o rows → HasMap o others → rows ≡ others
one_map o rows others m n =
    let e = same_section m.section n.section (filter is_map_named o.sections) m.only n.only in
    same_rows rows others (sym m.are_rows.bytes ∙ ap (λ (x : Section). x.bytes) e ∙ n.are_rows.bytes) m.are_rows.fit n.are_rows.fit
