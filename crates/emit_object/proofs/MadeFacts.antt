-- Relocations that are made at sites which rise.
use Rattle.std.proofs.Common.{◌≡◌, ◌↔◌, ◌<◌, ◌⊎◌, inl, inr, ℕ, zero, suc, ◌+◌, true, List, [], ◌∷◌, ◌++◌, map, take, refl, sym, ap, ◌∙◌, subst, arith, append-nil, Option, Some, None}
use Rattle.std.specs.Prelude.{slice_get, Contains, nat_lt, ◌==◌}
use Rattle.std.specs.Option.{option_map, option_to_list}
use Rattle.std.specs.List.{list_all}
use Rattle.std.proofs.lemmas.Bool.{and_from, and_parts, or_left, or_right, eq-eqb, lt-ltb}
use Rattle.std.proofs.lemmas.Option.{none-some, same_Some, slice_get-map}
use Rattle.std.proofs.lemmas.List.Elements.{Contains-append_left, Contains-append_right, Contains-append_cases}
use Rattle.elf_model.specs.declared.objects.Reloc.{Reloc}
use Rattle.elf_model.specs.Objects.{ObjectParts, is_below, rise}
use Rattle.elf_model.proofs.Elements.{contains_here, contains_later, contains_none, contains_cases, contains_at, place_of}
use Rattle.branch_layout.proofs.Lists.{take_push}
use Rattle.branch_layout.proofs.Ahead.{later_above}
use Rattle.hardened_form.specs.Symbols.{Lists}
use Rattle.hardened_form.specs.Relocs.{StandsFor}
use Rattle.emit_object.specs.declared.reloc_sites.Site.{Site}
use Rattle.emit_object.specs.RelocSites.{site_place, numbered}
use Rattle.emit_object.specs.SitesInOrder.{AreInOrder}
use Rattle.emit_object.specs.MadeRelocs.{IsMadeAt, IsMade, AreMade}
use Rattle.emit_object.proofs.SiteLists.{numbered_is, numbered_has}
use Rattle.emit_object.proofs.SiteOrder.{less_parts}

-- what the relocation of a site's number gives is what is made there
pub given_at : (o : ObjectParts) (l : Lists) (s : Site) (r q : Reloc) → slice_get o.relocs s.number ≡ Some r → StandsFor o l s.number r s.kind s.at q ↔ IsMadeAt o l s q
given_at o l s r q at = (
  λ h. record { reloc = r; stands = h },
  λ m. subst (λ (x : Reloc). StandsFor o l s.number x s.kind s.at q) (same_Some m.reloc r (sym m.stands.there ∙ at)) m.stands,
)

pub none_at : (o : ObjectParts) (l : Lists) (s : Site) → numbered o (Some s.number) ≡ None → (q : Reloc) → (None ≡ Some q) ↔ IsMadeAt o l s q
none_at o l s none q = ((λ h. absurd (none-some q h)), (λ m. absurd (none-some (s.number, m.reloc) (sym none ∙ numbered_has o (Some s.number) s.number m.reloc refl m.stands.there))))

pub number_there : (o : ObjectParts) (n : ℕ) (z : ℕ × Reloc) → numbered o (Some n) ≡ Some z → slice_get o.relocs n ≡ Some z.1
number_there o n z h = let is = numbered_is o (Some n) z h in ap (λ (k : ℕ). slice_get o.relocs k) (same_Some n z.0 is.named) ∙ is.there

-- it is at the place of the site
pub made_place : (o : ObjectParts) (l : Lists) (s : Site) (q : Reloc) → ((r : Reloc) → slice_get o.relocs s.number ≡ Some r → s.section ≡ r.section) → IsMadeAt o l s q → (q.section ≡ s.section) × (q.offset ≡ s.at)
made_place o l s q own m = (m.stands.section ∙ sym (own m.reloc m.stands.there), m.stands.offset)

below : (p q : Reloc) → (p.section < q.section) ⊎ ((p.section ≡ q.section) × (p.offset < q.offset)) → is_below p q ≡ true
below p q (inl l) = or_left (nat_lt p.section q.section) _ (lt-ltb p.section q.section l)
below p q (inr b) = or_right (nat_lt p.section q.section) _ (and_from (p.section == q.section) (nat_lt p.offset q.offset) (eq-eqb p.section q.section b.0) (lt-ltb p.offset q.offset b.1))

all_push : (p q : Reloc) (xs : List Reloc) → list_all (is_below p) xs ≡ true → is_below p q ≡ true → list_all (is_below p) (xs ++ q ∷ []) ≡ true
all_push p q [] all b = and_from (is_below p q) true b refl
all_push p q (x ∷ xs) all b = let parts = and_parts (is_below p x) (list_all (is_below p) xs) all in and_from (is_below p x) (list_all (is_below p) (xs ++ q ∷ [])) parts.0 (all_push p q xs parts.1 b)

rise_push : (xs : List Reloc) (q : Reloc) → rise xs ≡ true → ((p : Reloc) → Contains xs p → is_below p q ≡ true) → rise (xs ++ q ∷ []) ≡ true
rise_push [] q up b = refl
rise_push (x ∷ xs) q up b =
    let parts = and_parts (list_all (is_below x) xs) (rise xs) up in
    and_from (list_all (is_below x) (xs ++ q ∷ [])) (rise (xs ++ q ∷ [])) (all_push x q xs parts.0 (b x (contains_here x xs))) (rise_push xs q parts.1 (λ p h. b p (contains_later x xs p h)))

module _ (o : ObjectParts) (l : Lists) where
  pub none_made : AreMade o l [] []
  none_made = record { exact = λ q. ((λ h. absurd (contains_none q h)), (λ m. absurd (contains_none m.site m.there))); rise = refl }

  -- one more site
  module _ (sites : List Site) (order : AreInOrder o sites) (k : ℕ) (s : Site) (at : slice_get sites k ≡ Some s) (xs : List Reloc) (are : AreMade o l (take k sites) xs) where
    place_at : (i : ℕ) (t : Site) → slice_get sites i ≡ Some t → slice_get (map site_place sites) i ≡ Some (site_place t)
    place_at i t e = slice_get-map site_place sites i ∙ ap (option_map site_place) e

    before : (p : Reloc) → Contains xs p → (q : Reloc) → IsMadeAt o l s q → is_below p q ≡ true
    before p h q is =
        let m = (are.exact p).0 h in
        let i = place_of (take k sites) m.site m.there in
        let low = taken k i.0 sites m.site i.1 in
        let less = less_parts (site_place m.site) (site_place s) (later_above (map site_place sites) i.0 k (site_place m.site) (site_place s) order.rise low.0 (place_at i.0 m.site low.1) (place_at k s at)) in
        let mine = made_place o l m.site p (λ r. order.own m.site r (contains_at sites i.0 m.site low.1)) m.is in
        let next = made_place o l s q (λ r. order.own s r (contains_at sites k s at)) is in
        below p q (elim less [
          | inl a ↦ inl (omega (arith, mine.0, next.0))
          | inr b ↦ inr (mine.0 ∙ b.0 ∙ sym next.0, omega (arith, mine.1, next.1, b.1))
        ])
      where
        taken : (k i : ℕ) (ts : List Site) (t : Site) → slice_get (take k ts) i ≡ Some t → (i < k) × (slice_get ts i ≡ Some t)
        taken zero i ts t e = absurd (none-some t e)
        taken (suc k) i [] t e = absurd (none-some t e)
        taken (suc k) zero (x ∷ ts) t e = (omega arith, e)
        taken (suc k) (suc i) (x ∷ ts) t e = let r = taken k i ts t e in let low = r.0 in (omega arith, r.1)

    rest_made : (q : Reloc) → IsMade o l (take k sites) q → IsMade o l (take k sites ++ s ∷ []) q
    rest_made q m = record { site = m.site; there = Contains-append_left (take k sites) (s ∷ []) m.site m.there; is = m.is }

    last_made : (q : Reloc) → IsMadeAt o l s q → IsMade o l (take k sites ++ s ∷ []) q
    last_made q is = record { site = s; there = Contains-append_right (take k sites) (s ∷ []) s (contains_here s []); is = is }

    split : (q : Reloc) → IsMade o l (take k sites ++ s ∷ []) q → IsMade o l (take k sites) q ⊎ IsMadeAt o l s q
    split q m = elim (Contains-append_cases (take k sites) (s ∷ []) m.site m.there) [
      | inl old ↦ inl (record { site = m.site; there = old; is = m.is })
      | inr new ↦ elim (contains_cases s [] m.site new) [
        | inl same ↦ inr (subst (λ (t : Site). IsMadeAt o l t q) (sym same) m.is)
        | inr none ↦ absurd (contains_none m.site none)
      ]
    ]

    pub made_more : (e : Option Reloc) → ((q : Reloc) → (e ≡ Some q) ↔ IsMadeAt o l s q) → AreMade o l (take (k + 1) sites) (xs ++ option_to_list e)
    made_more e is = subst (λ (ts : List Site). AreMade o l ts (xs ++ option_to_list e)) (sym (take_push sites k s at)) (go e is)
      where
        go : (e : Option Reloc) → ((q : Reloc) → (e ≡ Some q) ↔ IsMadeAt o l s q) → AreMade o l (take k sites ++ s ∷ []) (xs ++ option_to_list e)
        go None is = record {
          exact = λ q. (
            λ h. rest_made q ((are.exact q).0 (subst (λ (ys : List Reloc). Contains ys q) (append-nil xs) h)),
            λ m. elim (split q m) [
              | inl old ↦ subst (λ (ys : List Reloc). Contains ys q) (sym (append-nil xs)) ((are.exact q).1 old)
              | inr new ↦ absurd (none-some q ((is q).1 new))
            ],
          );
          rise = ap rise (append-nil xs) ∙ are.rise;
        }
        go (Some p) is = record {
          exact = λ q. (
            λ h. elim (Contains-append_cases xs (p ∷ []) q h) [
              | inl old ↦ rest_made q ((are.exact q).0 old)
              | inr new ↦ elim (contains_cases p [] q new) [
                | inl same ↦ last_made q ((is q).0 (ap (λ (x : Reloc). Some x) same))
                | inr none ↦ absurd (contains_none q none)
              ]
            ],
            λ m. elim (split q m) [
              | inl old ↦ Contains-append_left xs (p ∷ []) q ((are.exact q).1 old)
              | inr new ↦ Contains-append_right xs (p ∷ []) q (subst (λ (x : Reloc). Contains (p ∷ []) x) (same_Some p q ((is q).1 new)) (contains_here p []))
            ],
          );
          rise = rise_push xs p are.rise (λ x h. before x h p ((is p).0 refl));
        }
