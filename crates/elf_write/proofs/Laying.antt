-- One more section behind those that were laid out.
use Rattle.std.proofs.Common.{◌≡◌, ◌≤◌, ℕ, ◌+◌, List, [], ◌∷◌, ◌++◌, length, get_or, refl, sym, ap, ◌∙◌, subst}
use Rattle.std.specs.Prelude.{All}
use Rattle.std.proofs.lemmas.List.{append_assoc, append-nil, map-append}
use Rattle.std.proofs.lemmas.List.Elements.{All-nil, All-cons, All-append, All-head, All-tail}
use Rattle.std.proofs.lemmas.Option.{slice_get-get_or}
use Rattle.elf_model.specs.Canonical.{FileSection, name_offset, start_of, end_of, laid, laid_end, header_row, header_rows, added, row_with}
use Rattle.elf_model.proofs.Laid.{length-laid}
use Rattle.elf_model.proofs.Lists.{get_map}
use Rattle.elf_write.specs.declared.layout.Layout.{Layout}
use Rattle.elf_write.specs.declared.names.Names.{Names}
use Rattle.elf_write.specs.Writing.{IsTable, IsLaid, IsWritten, names_of}
use Rattle.elf_write.proofs.StringTables.{offset_more}

laid_push : (at : ℕ) (ss : List FileSection) (s : FileSection) → laid at (ss ++ s ∷ []) ≡ laid at ss ++ added (laid_end at ss) s
laid_push at [] s = append-nil (added at s)
laid_push at (x ∷ ss) s = ap (λ (l : List ℕ). added at x ++ l) (laid_push (end_of at x) ss s) ∙ sym (append_assoc (added at x) (laid (end_of at x) ss) (added (laid_end (end_of at x) ss) s))

rows_push : (names : List (List ℕ)) (at : ℕ) (ss : List FileSection) (s : FileSection) → header_rows names at (ss ++ s ∷ []) ≡ header_rows names at ss ++ header_row names (laid_end at ss) s
rows_push names at [] s = append-nil (header_row names at s)
rows_push names at (x ∷ ss) s = ap (λ (l : List ℕ). header_row names at x ++ l) (rows_push names (end_of at x) ss s) ∙ sym (append_assoc (header_row names at x) (header_rows names (end_of at x) ss) (header_row names (laid_end (end_of at x) ss) s))

rows_same : (a b : List (List ℕ)) (at : ℕ) (ss : List FileSection) → All (λ (s : FileSection). name_offset a s.name ≡ name_offset b s.name) ss → header_rows a at ss ≡ header_rows b at ss
rows_same a b at [] h = refl
rows_same a b at (x ∷ ss) h =
    ap (λ (n : ℕ). row_with n (start_of at x) x ++ header_rows a (end_of at x) ss) (All-head (λ (s : FileSection). name_offset a s.name ≡ name_offset b s.name) x ss h)
    ∙ ap (λ (l : List ℕ). header_row b at x ++ l) (rows_same a b (end_of at x) ss (All-tail (λ (s : FileSection). name_offset a s.name ≡ name_offset b s.name) x ss h))

-- more names leave the rows of those that were laid out
rows_more : (ss : List FileSection) (more : List (List ℕ)) → header_rows (names_of ss ++ more) 52 ss ≡ header_rows (names_of ss) 52 ss
rows_more ss more = rows_same (names_of ss ++ more) (names_of ss) 52 ss (λ k d l. offset_more (names_of ss) more k (get_or ss k d).name
    (get_map (λ (s : FileSection). s.name) ss k (get_or ss k d) (slice_get-get_or ss k d l)))

pub one_laid : (l m : Layout) (ss : List FileSection) (s : FileSection) (offset : ℕ) → 1 ≤ s.align → IsLaid l (names_of ss) ss → offset ≡ name_offset (names_of ss ++ s.name ∷ []) s.name
    → m.contents.items ≡ l.contents.items ++ added (52 + length l.contents.items) s → m.rows.items ≡ l.rows.items ++ row_with offset (start_of (52 + length l.contents.items) s) s
    → IsLaid m (names_of (ss ++ s ∷ [])) (ss ++ s ∷ [])
one_laid l m ss s offset a h o contents rows =
    let long : 52 + length l.contents.items ≡ laid_end 52 ss = ap (λ (b : List ℕ). 52 + length b) h.contents ∙ length-laid 52 ss h.aligned in
    let names : names_of (ss ++ s ∷ []) ≡ names_of ss ++ s.name ∷ [] = map-append (λ (x : FileSection). x.name) ss (s ∷ []) in
    record {
      contents = contents ∙ ap (λ (b : List ℕ). b ++ added (52 + length l.contents.items) s) h.contents ∙ ap (λ (n : ℕ). laid 52 ss ++ added n s) long ∙ sym (laid_push 52 ss s);
      rows = rows ∙ ap (λ (b : List ℕ). b ++ row_with offset (start_of (52 + length l.contents.items) s) s) (h.rows ∙ sym (rows_more ss (s.name ∷ [])))
          ∙ ap (λ (n : ℕ). header_rows (names_of ss ++ s.name ∷ []) 52 ss ++ row_with offset (start_of n s) s) long
          ∙ ap (λ (n : ℕ). header_rows (names_of ss ++ s.name ∷ []) 52 ss ++ row_with n (start_of (laid_end 52 ss) s) s) o
          ∙ sym (rows_push (names_of ss ++ s.name ∷ []) 52 ss s) ∙ sym (ap (λ (ns : List (List ℕ)). header_rows ns 52 (ss ++ s ∷ [])) names);
      aligned = All-append (λ (x : FileSection). 1 ≤ x.align) ss (s ∷ []) h.aligned (All-cons (λ (x : FileSection). 1 ≤ x.align) s [] a (All-nil (λ (x : FileSection). 1 ≤ x.align)));
    }

pub one_written : (l m : Layout) (t u : Names) (ss : List FileSection) (s : FileSection) (offset : ℕ) → 1 ≤ s.align → IsWritten l t ss → offset ≡ name_offset (names_of ss ++ s.name ∷ []) s.name → IsTable u (names_of ss ++ s.name ∷ [])
    → m.contents.items ≡ l.contents.items ++ added (52 + length l.contents.items) s → m.rows.items ≡ l.rows.items ++ row_with offset (start_of (52 + length l.contents.items) s) s
    → IsWritten m u (ss ++ s ∷ [])
one_written l m t u ss s offset a h o n contents rows = record {
  sections = one_laid l m ss s offset a h.sections o contents rows;
  names = subst (IsTable u) (sym (map-append (λ (x : FileSection). x.name) ss (s ∷ []))) n;
}
