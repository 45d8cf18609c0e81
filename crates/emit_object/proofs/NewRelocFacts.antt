-- What relocations name now.
use Rattle.std.proofs.Common.{◌≡◌, ◌↔◌, ◌<◌, ℕ, zero, suc, ◌+◌, true, false, List, [], ◌∷◌, length, arith, refl, sym, ap, ◌∙◌, subst, Option, Some, None, Result}
use Rattle.std.specs.Prelude.{slice_get}
use Rattle.std.specs.List.Sorted.{IsStrictlySortedBy, IsBinarySearchResult, IsSearchInRange}
use Rattle.std.specs.Result.{result_ok}
use Rattle.std.proofs.lemmas.Bool.{true≢false}
use Rattle.std.proofs.lemmas.List.{map-id}
use Rattle.std.proofs.lemmas.Option.{none-some, same_Some}
use Rattle.elf_model.specs.declared.objects.Reloc.{Reloc}
use Rattle.elf_model.specs.declared.objects.RelocKind.{RelocKind}
use Rattle.elf_model.specs.Objects.{ObjectParts}
use Rattle.code_ranges.specs.Spans.{place_cmp}
use Rattle.code_ranges.proofs.PlaceOrder.{place_total, place_exact}
use Rattle.flow_recover.proofs.Searches.{searched_by_key}
use Rattle.hardened_form.specs.Turns.{Target, is_turned, IsTarget}
use Rattle.hardened_form.specs.Symbols.{Lists}
use Rattle.hardened_form.specs.Relocs.{IsNewSymbol, same, own, StandsFor, new_number}
use Rattle.emit_object.specs.NewSymbolNumbers.{HasFunction, HasNumber}
use Rattle.emit_object.specs.Numbering.{AreNumbers}
use Rattle.emit_object.specs.TargetPlaces.{target_at}
use Rattle.emit_object.proofs.MoveFacts.{map_at, at_map}
use Rattle.emit_object.proofs.TargetFacts.{turned_to}

-- a place among others that rise
pub searched_place : (places : List (ℕ × ℕ)) (p : ℕ × ℕ) → IsStrictlySortedBy place_cmp places → (r : Result ℕ ℕ) → IsSearchInRange r (length places)
    → IsBinarySearchResult (λ q. place_cmp q p) places r → (n : ℕ) → (result_ok r ≡ Some n) ↔ (slice_get places n ≡ Some p)
searched_place places p rise r range found n =
    let is = searched_by_key place_total place_exact (λ (q : ℕ × ℕ). q) p places (subst (IsStrictlySortedBy place_cmp) (sym (map-id places)) rise) r range found n in (
      λ h. let e = is.0 h in e.1 ∙ ap (λ (q : ℕ × ℕ). Some q) e.2,
      λ h. is.1 (p, h, refl),
    )

module _ (o : ObjectParts) (r : Reloc) (l : Lists) (places : List (ℕ × ℕ)) (begin : ℕ) (numbers : List ℕ) (are : AreNumbers o l places begin numbers) where
  pub of_function : is_turned o r ≡ true → (m : ℕ) → HasFunction o r places begin m ↔ IsNewSymbol o l r m
  of_function turns m = (there, back)
    where
      there : HasFunction o r places begin m → IsNewSymbol o l r m
      there h =
          let t = (turned_to o r (target_at h.place)).0 h.turned in
          own h.index (target_at h.place) turns t.1 (ap (λ (ts : List Target). slice_get ts h.index) (sym are.targets) ∙ map_at target_at places h.index h.place h.there)
          (h.number ∙ ap (λ (b : ℕ). b + h.index) are.first)

      back : IsNewSymbol o l r m → HasFunction o r places begin m
      back (same s e n is) = absurd (true≢false (sym turns ∙ e))
      back (own n t e is at number) =
          let p = at_map target_at places n t (ap (λ (ts : List Target). slice_get ts n) are.targets ∙ at) in
          record {
            place = p.0;
            turned = (turned_to o r (target_at p.0)).1 (turns, subst (λ (u : Target). IsTarget o r u) (sym p.1.1) is);
            index = n;
            there = p.1.0;
            number = number ∙ ap (λ (b : ℕ). b + n) (sym are.first);
          }

  pub of_symbol : is_turned o r ≡ false → (m : ℕ) → HasNumber o r numbers m ↔ IsNewSymbol o l r m
  of_symbol stays m = (there, back)
    where
      there : HasNumber o r numbers m → IsNewSymbol o l r m
      there h = same h.symbol stays h.named (same_Some m (new_number o l r.symbol h.symbol) (sym h.number ∙ are.olds r.symbol h.symbol h.named))

      back : IsNewSymbol o l r m → HasNumber o r numbers m
      back (same s e n is) = record { symbol = s; named = n; number = are.olds r.symbol s n ∙ ap (λ (k : ℕ). Some k) (sym is) }
      back (own n t e is at number) = absurd (true≢false (sym e ∙ stays))

-- an equivalence by way of another
pub both_by : (A B C : Type 0) → A ↔ B → B ↔ C → A ↔ C
both_by A B C f g = ((λ a. g.0 (f.0 a)), (λ c. f.1 (g.1 c)))

-- the relocation with a symbol
module _ (o : ObjectParts) (l : Lists) (k : ℕ) (r : Reloc) (as_kind : RelocKind) (x : ℕ) (there : slice_get o.relocs k ≡ Some r) where
  abbrev pub made : ℕ → Reloc
  made n = record { section = r.section; offset = x; kind = as_kind; symbol = n }

  pub with_none : (e : Option ℕ) → e ≡ None → ((m : ℕ) → (e ≡ Some m) ↔ IsNewSymbol o l r m) → (q : Reloc) → (None ≡ Some q) ↔ StandsFor o l k r as_kind x q
  with_none e none is q = ((λ h. absurd (none-some q h)), (λ h. absurd (none-some q.symbol (sym none ∙ (is q.symbol).1 h.symbol))))

  pub with_symbol : (e : Option ℕ) (n : ℕ) → e ≡ Some n → ((m : ℕ) → (e ≡ Some m) ↔ IsNewSymbol o l r m) → (q : Reloc)
      → (Some (made n) ≡ Some q) ↔ StandsFor o l k r as_kind x q
  with_symbol e n some is q = (
    λ h.
        subst (StandsFor o l k r as_kind x) (same_Some (made n) q h) (record { there = there; section = refl; offset = refl; kind = refl; symbol = (is n).0 some }),
    λ s.
        let same : n ≡ q.symbol = same_Some n q.symbol (sym some ∙ (is q.symbol).1 s.symbol) in
        λ i. Some (record { section = sym s.section i; offset = sym s.offset i; kind = sym s.kind i; symbol = same i }),
  )

-- what is there has a low index
pub index_low : (places : List (ℕ × ℕ)) (n : ℕ) (p : ℕ × ℕ) → slice_get places n ≡ Some p → n < length places
index_low [] n p h = absurd (none-some p h)
index_low (q ∷ places) zero p h = omega arith
index_low (q ∷ places) (suc n) p h = let low = index_low places n p h in omega (arith, low)
