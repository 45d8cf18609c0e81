-- Each list that the tables follow is one.
use Rattle.std.proofs.Common.{◌≡◌, ℕ, true, List, [], ◌∷◌, map, arith, ◌↔◌}
use Rattle.std.specs.Prelude.{Contains}
use Rattle.std.specs.List.{list_all}
use Rattle.std.specs.List.Sorted.{IsStrictlySortedBy}
use Rattle.std.specs.declared.cmp.Ordering.{Ordering}
use Rattle.std.specs.declared.cmp.Ordering.TheVariants.{Less}
use Rattle.std.specs.Cmp.{IsTotalOrder}
use Rattle.std.proofs.lemmas.Bool.{and_parts}
use Rattle.std.proofs.lemmas.Bool.Decides.{nat_tests}
use Rattle.std.proofs.lemmas.List.Elements.{All-contains}
use Rattle.std.proofs.lemmas.Map.Keys.{sorted_tail}
use Rattle.std.proofs.lemmas.Map.Views.{All-after_first}
use Rattle.std.proofs.lemmas.Cmp.{nat_cmp_total, on_total, then_total}
use Rattle.elf_model.specs.declared.objects.MapRow.{MapRow}
use Rattle.elf_model.specs.declared.objects.Reloc.{Reloc}
use Rattle.elf_model.specs.Objects.{ObjectParts, is_below, rise}
use Rattle.elf_model.specs.Maps.{row_kind}
use Rattle.elf_model.proofs.Elements.{all_at, place_of}
use Rattle.code_ranges.specs.Spans.{place_cmp}
use Rattle.code_ranges.proofs.InOrder.{Rises, through, one_list, never_less, rises_keys}
use Rattle.code_ranges.proofs.PlaceOrder.{place_total}
use Rattle.flow_recover.specs.Flows.{FlowParts}
use Rattle.hardened_form.specs.Places.{Places}
use Rattle.hardened_form.specs.Items.{Item, AreItems, old_place}
use Rattle.hardened_form.specs.Rows.{row_cmp, AreRows}
use Rattle.hardened_form.specs.Turns.{Target, place_of_target, AreTargets}
use Rattle.hardened_form.specs.MappingSymbols.{Mapping, place_of_mapping, AreMappings}
use Rattle.hardened_form.specs.Symbols.{Lists}
use Rattle.hardened_form.specs.Carriers.{Carrier}
use Rattle.hardened_form.specs.Relocs.{AreRelocs}

-- lists that rise by a total order of keys
pub in_order : {X K : Type 0} (key : X → K) (cmp : K → K → Ordering) → IsTotalOrder cmp → (xs ys : List X) → IsStrictlySortedBy cmp (map key xs) → IsStrictlySortedBy cmp (map key ys)
    → ((x : X) → Contains xs x ↔ Contains ys x) → xs ≡ ys
in_order key cmp total xs ys s t same =
    one_list (λ (a b : _). cmp (key a) (key b) ≡ Less) (λ a b. never_less cmp total (key a) (key b)) xs ys (rises_keys key cmp xs s) (rises_keys key cmp ys t) same

pub items_once : (points words : List (ℕ × ℕ)) (p : Places) (a b : List Item) → AreItems points words p a → AreItems points words p b → a ≡ b
items_once points words p a b s t = in_order old_place place_cmp place_total a b s.rise t.rise (λ it. through (s.same it) (t.same it))

pub mappings_once : (h : ObjectParts) (f : FlowParts) (p : Places) (a b : List Mapping) → AreMappings h f p a → AreMappings h f p b → a ≡ b
mappings_once h f p a b s t = in_order place_of_mapping place_cmp place_total a b s.rise t.rise (λ m. through (s.exact m) (t.exact m))

pub targets_once : (o : ObjectParts) (f : FlowParts) (a b : List Target) → AreTargets o f a → AreTargets o f b → a ≡ b
targets_once o f a b s t = in_order place_of_target place_cmp place_total a b s.rise t.rise (λ m. through (s.exact m) (t.exact m))

row_total : IsTotalOrder row_cmp
row_total =
    then_total (on_total (λ (r : MapRow). r.section) nat_cmp_total)
    (then_total (on_total (λ (r : MapRow). r.old) nat_cmp_total) (on_total (λ (r : MapRow). row_kind r.kind) nat_cmp_total))

rises_rows : (xs : List MapRow) → IsStrictlySortedBy row_cmp xs → Rises (λ (a b : MapRow). row_cmp a b ≡ Less) xs
rises_rows [] s = tt
rises_rows (x ∷ xs) s = ((λ z h. All-contains (λ q. row_cmp x q ≡ Less) xs z (All-after_first row_cmp x xs s) h), rises_rows xs (sorted_tail row_cmp x xs s))

pub rows_once : (o : ObjectParts) (f : FlowParts) (p : Places) (a b : List MapRow) → AreRows o f p a → AreRows o f p b → a ≡ b
rows_once o f p a b s t =
    one_list (λ (x y : MapRow). row_cmp x y ≡ Less) (never_less row_cmp row_total) a b (rises_rows a s.rise) (rises_rows b t.rise) (λ r. through (s.exact r) (t.exact r))

never_below : (a b : Reloc) → is_below a b ≡ true → is_below b a ≡ true → ⊥
never_below a b h k = grind (arith, nat_tests)

rises_relocs : (rs : List Reloc) → rise rs ≡ true → Rises (λ (a b : Reloc). is_below a b ≡ true) rs
rises_relocs [] h = tt
rises_relocs (r ∷ rs) h =
    let both = and_parts (list_all (is_below r) rs) (rise rs) h in
    (λ z there. let at = place_of rs z there in all_at (is_below r) rs at.0 z both.0 at.1, rises_relocs rs both.1)

pub relocs_once : (o g h : ObjectParts) (f : FlowParts) (p : Places) (carriers : List (List Carrier)) (l : Lists) → AreRelocs o g f p carriers l → AreRelocs o h f p carriers l → g.relocs ≡ h.relocs
relocs_once o g h f p carriers l s t =
    one_list (λ (x y : Reloc). is_below x y ≡ true) never_below g.relocs h.relocs (rises_relocs g.relocs s.rise) (rises_relocs h.relocs t.rise) (λ q. through (s.exact q) (t.exact q))
