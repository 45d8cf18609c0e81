use Rattle.std.proofs.Common.{◌≡◌, ◌++◌, ◌∙◌, ap, sym, List, ℕ, [], ◌∷◌, map, length}
use Rattle.std.proofs.Common.{None, arith}
use Rattle.std.specs.Prelude.{nat_eq}
use Rattle.std.proofs.lemmas.List.{map-append}
use Rattle.std.specs.Map.{lookup}
use Rattle.std.specs.Cmp.Lexicographic.{pointwise}
use Rattle.indexmap.specs.IndexMap.{get}
use Rattle.indexmap.proofs.CallerLemmas.{insert_entry-new}
use Rattle.elf_model.specs.Canonical.{name_offset}
use Rattle.elf_write.specs.declared.names.Names.{Names}
use Rattle.elf_write.specs.Writing.{IsTable, offsets_of}
use Rattle.elf_write.proofs.StringTables.{empty_added, old_added, new_added}
use Rattle.elf_write.proofs.names.Names.add.Goals as goal

pub returns-then-is_empty-clause-table : goal.returns-then-is_empty-clause-table
returns-then-is_empty-clause-table c = λ names h. empty_added c.args.self.now names c.args.name.now (sym c.is_empty.ensures ∙ c.if-is_empty.true) h

pub returns-in-Some-clause-table : goal.returns-in-Some-clause-table
returns-in-Some-clause-table c = λ names h. (old_added c.args.self.now names c.args.name.now c.in-Some.at.now (sym c.is_empty.ensures ∙ c.if-is_empty.false) (sym c.in-Some.ensures.value) h).0

pub returns-in-Some-clause-offset : goal.returns-in-Some-clause-offset
returns-in-Some-clause-offset c = λ names h. (old_added c.args.self.now names c.args.name.now c.in-Some.at.now (sym c.is_empty.ensures ∙ c.if-is_empty.false) (sym c.in-Some.ensures.value) h).1

new_name : (c : goal.In_ok-push) (names : List (List ℕ)) → IsTable c.args.self.now names → IsTable (record { text = c.push.new.self; places = c.insert.new.self }) (names ++ c.args.name.now ∷ []) × (length c.args.self.now.text.items ≡ name_offset (names ++ c.args.name.now ∷ []) c.args.name.now)
new_name c names h =
    let t : Names = c.args.self.now in
    let n : List ℕ = c.args.name.now in
    let at : ℕ = c.len-at.result in
    let none : lookup (λ k. pointwise nat_eq n k.items) t.places.entries ≡ None = sym c.in_default.ensures.value in
    let key : c.in_ok-from_slice.field-0.items ≡ n = c.in_ok-from_slice.ensures.items in
    let absent : get (λ x y. pointwise nat_eq x.items y.items) t.places c.in_ok-from_slice.field-0 ≡ None = ap (λ (m : List ℕ). lookup (λ k. pointwise nat_eq m k.items) t.places.entries) key ∙ none in
    let entries : c.insert.new.self.entries ≡ t.places.entries ++ (c.in_ok-from_slice.field-0, at) ∷ [] = c.in_ok-insert.ensures.entries ∙ insert_entry-new (λ x y. pointwise nat_eq x.items y.items) t.places c.in_ok-from_slice.field-0 at absent in
    let long : at ≡ length t.text.items = omega (arith, c.len-at.ensures, t.text.ok.0) in
    let text : c.push.new.self.items ≡ (t.text.items ++ n) ++ 0 ∷ [] = c.in_ok-push.ensures.items ∙ ap (λ (l : List ℕ). l ++ 0 ∷ []) c.in_ok-extend_from_slice.ensures.items in
    let places : offsets_of (record t { places = c.insert.new.self }) ≡ offsets_of t ++ (n, length t.text.items) ∷ [] =
    ap (map (λ e. (e.0.items, e.1))) entries ∙ map-append (λ e. (e.0.items, e.1)) t.places.entries ((c.in_ok-from_slice.field-0, at) ∷ [])
    ∙ ap (λ (m : List ℕ). offsets_of t ++ (m, at) ∷ []) key ∙ ap (λ (k : ℕ). offsets_of t ++ (n, k) ∷ []) long in
    new_added t (record { text = c.push.new.self; places = c.insert.new.self }) names n (sym c.is_empty.ensures ∙ c.if-is_empty.false) none text places h

pub returns-clause-table : goal.returns-clause-table
returns-clause-table c = λ names h. (new_name c names h).0

pub returns-clause-offset : goal.returns-clause-offset
returns-clause-offset c = λ names h. let long : c.len-at.result ≡ length c.args.self.now.text.items = omega (arith, c.len-at.ensures, c.args.self.now.text.ok.0) in long ∙ (new_name c names h).1
