-- What entry symbols and right relocations name is all that the object names.
use Rattle.std.proofs.Common.{◌≡◌, ◌↔◌, ◌⊎◌, ℕ, Bool, true, false, cond, List, [], ◌∷◌, ◌++◌, refl, sym, ap, ◌∙◌, subst, inl, inr, Option, Some, None}
use Rattle.std.specs.Prelude.{Contains, slice_get}
use Rattle.std.proofs.lemmas.Bool.{cond-true}
use Rattle.std.proofs.lemmas.Option.{none-some, same_Some}
use Rattle.elf_model.specs.declared.objects.Reloc.{Reloc}
use Rattle.elf_model.specs.declared.objects.Home.{Home}
use Rattle.elf_model.specs.declared.objects.Home.TheVariants as home
use Rattle.elf_model.specs.Objects.{ObjectParts, even}
use Rattle.flow_recover.specs.declared.named.Claim.{Claim}
use Rattle.flow_recover.specs.declared.references.Address.{Address}
use Rattle.reloc_places.specs.Relocations.{is_in_code, value_of, target_of}
use Rattle.code_ranges.specs.CodeRanges.{holds_code}
use Rattle.flow_recover.specs.Aims.{is_entry, IsNamed}
use Rattle.flow_recover.specs.Aims.IsNamed.{by_symbol, by_address, by_branch}
use Rattle.flow_recover.specs.Gains.{Gains, IsFrom}
use Rattle.flow_recover.specs.NamedClaims.{code_home, IsAddress, IsFarTarget, claim_by, own_claim, IsAddressClaim, IsBranchClaim, IsRelocClaim, claim_in, entry_claim, IsEntryClaim}
use Rattle.flow_recover.specs.Charts.{AreNamed}
use Rattle.elf_model.proofs.Elements.{contains_none, contains_at, place_of}
use Rattle.flow_recover.proofs.GainFacts.{Tells, gains_some, gains_nothing}

-- the claim of one relocation
module _ (o : ObjectParts) (r : Reloc) (answer : Option Address) where
  address_tells : ((a : Address) → (answer ≡ Some a) ↔ IsAddress o r a) → Tells (λ (a : Address). claim_by a.section (even a.value) r) answer (IsAddressClaim o r)
  address_tells h = λ c. (
    λ p. (p.address, (h p.address).1 p.is, sym p.same),
    λ (a, e, same). record { address = a; is = (h a).0 e; same = sym same },
  )

  branch_tells : ((a : Address) → (answer ≡ Some a) ↔ IsFarTarget o r a) → Tells (λ (a : Address). claim_by a.section a.value r) answer (IsBranchClaim o r)
  branch_tells h = λ c. (
    λ p. (p.target, (h p.target).1 p.is, sym p.same),
    λ (a, e, same). record { target = a; is = (h a).0 e; same = sym same },
  )

  pub address_some : (xs new : List Claim) (a : Address) (x : ℕ) → ((a : Address) → (answer ≡ Some a) ↔ IsAddress o r a) → answer ≡ Some a → x ≡ even a.value → new ≡ xs ++ claim_by a.section x r ∷ [] → Gains (IsAddressClaim o r) xs new
  address_some xs new a x h e same made =
      subst (Gains (IsAddressClaim o r) xs) (sym (made ∙ ap (λ (z : ℕ). xs ++ claim_by a.section z r ∷ []) same))
      (gains_some (IsAddressClaim o r) (λ (a : Address). claim_by a.section (even a.value) r) answer xs a (address_tells h) e)

  pub address_none : (xs : List Claim) → ((a : Address) → (answer ≡ Some a) ↔ IsAddress o r a) → answer ≡ None → Gains (IsAddressClaim o r) xs xs
  address_none xs h e = gains_nothing (IsAddressClaim o r) (λ (a : Address). claim_by a.section (even a.value) r) answer xs (address_tells h) e

  pub branch_some : (xs new : List Claim) (a : Address) → ((a : Address) → (answer ≡ Some a) ↔ IsFarTarget o r a) → answer ≡ Some a → new ≡ xs ++ claim_by a.section a.value r ∷ [] → Gains (IsBranchClaim o r) xs new
  branch_some xs new a h e made =
      subst (Gains (IsBranchClaim o r) xs) (sym made) (gains_some (IsBranchClaim o r) (λ (a : Address). claim_by a.section a.value r) answer xs a (branch_tells h) e)

  pub branch_none : (xs : List Claim) → ((a : Address) → (answer ≡ Some a) ↔ IsFarTarget o r a) → answer ≡ None → Gains (IsBranchClaim o r) xs xs
  branch_none xs h e = gains_nothing (IsBranchClaim o r) (λ (a : Address). claim_by a.section a.value r) answer xs (branch_tells h) e

abbrev Names : ObjectParts → Claim → Type 0
Names o c = IsNamed o c.section c.offset c.from_section c.from_offset × (c.entry ≡ true)

-- an entry by its fields
same_claim : (c : Claim) (j x s p : ℕ) → c.section ≡ j → c.offset ≡ x → c.from_section ≡ s → c.from_offset ≡ p → c.entry ≡ true → c ≡ record { section = j; offset = x; from_section = s; from_offset = p; entry = true }
same_claim c j x s p a b d e f =
    ap (λ (z : ℕ). record { section = z; offset = c.offset; from_section = c.from_section; from_offset = c.from_offset; entry = c.entry }) a
    ∙ ap (λ (z : ℕ). record { section = j; offset = z; from_section = c.from_section; from_offset = c.from_offset; entry = c.entry }) b
    ∙ ap (λ (z : ℕ). record { section = j; offset = x; from_section = z; from_offset = c.from_offset; entry = c.entry }) d
    ∙ ap (λ (z : ℕ). record { section = j; offset = x; from_section = s; from_offset = z; entry = c.entry }) e
    ∙ ap (λ (z : Bool). record { section = j; offset = x; from_section = s; from_offset = p; entry = z }) f

module _ (o : ObjectParts) where
  -- each claim is of what the object names
  reloc_named : (c : Claim) → IsFrom (IsRelocClaim o) o.relocs c → Names o c
  reloc_named c f = elim f.gives [
    | inl q ↦ subst (Names o) (sym q.same) (by_address f.source q.is.symbol q.is.reference (ap even q.is.value) refl refl, refl)
    | inr q ↦ subst (Names o) (sym q.same) (by_branch q.is.index f.source q.is.symbol q.is.right q.is.jump q.is.names q.is.home q.is.apart q.is.value refl refl, refl)
  ]

  entry_named : (c : Claim) → IsFrom (IsEntryClaim o) o.symbols c → Names o c
  entry_named c f = go (is_entry f.source) refl f.gives
    where
      at_index : (k : ℕ) × (slice_get o.symbols k ≡ Some f.source)
      at_index = place_of o.symbols f.source f.there

      in_section : (j : ℕ) (b : Bool) → f.source.home ≡ home.Section j → holds_code (slice_get o.sections j) ≡ b → is_entry f.source ≡ true → claim_in f.source (cond b (Some j) None) ≡ Some c → Names o c
      in_section j true at code e h =
          subst (Names o) (same_Some (own_claim j (even f.source.value)) c h)
          (by_symbol at_index.0 f.source at_index.1 at (ap (is_in_code o) at ∙ code) e refl refl refl, refl)
      in_section j false at code e h = absurd (none-some c h)

      by_home : (h : Home) → f.source.home ≡ h → is_entry f.source ≡ true → claim_in f.source (code_home o h) ≡ Some c → Names o c
      by_home home.Undefined at e h = absurd (none-some c h)
      by_home home.Absolute at e h = absurd (none-some c h)
      by_home (home.Section j) at e h = in_section j (holds_code (slice_get o.sections j)) at refl e h

      go : (b : Bool) → is_entry f.source ≡ b → cond b (claim_in f.source (code_home o f.source.home)) None ≡ Some c → Names o c
      go true e h = by_home f.source.home refl e h
      go false e h = absurd (none-some c h)

  -- what the object names is claimed
  named_cases : (c : Claim) → IsNamed o c.section c.offset c.from_section c.from_offset → c.entry ≡ true → IsFrom (IsEntryClaim o) o.symbols c ⊎ IsFrom (IsRelocClaim o) o.relocs c
  named_cases c (by_symbol k s at home code entry x j p) marked =
      let made : c ≡ own_claim c.section (even s.value) = same_claim c c.section (even s.value) c.section (even s.value) refl x j (p ∙ x) marked in
      let held : holds_code (slice_get o.sections c.section) ≡ true = ap (is_in_code o) (sym home) ∙ code in
      let gives : entry_claim o s ≡ Some c =
      cond-true (is_entry s) (claim_in s (code_home o s.home)) None entry
      ∙ ap (λ (h : Home). claim_in s (code_home o h)) home
      ∙ ap (λ (z : Option ℕ). claim_in s z) (cond-true (holds_code (slice_get o.sections c.section)) (Some c.section) None held)
      ∙ ap (λ (z : Claim). Some z) (sym made) in
      inl (record { source = s; there = contains_at o.symbols k s at; gives = gives })
  named_cases c (by_address r s ref x j p) marked =
      let a : Address = record { section = c.section; value = value_of o r s } in
      let made = same_claim c c.section (even (value_of o r s)) r.section r.offset refl x j p marked in
      inr (record { source = r; there = contains_at o.relocs ref.index r ref.right.is_there; gives = inl (record { address = a; is = record { symbol = s; reference = ref; value = refl }; same = made }) })
  named_cases c (by_branch k r s right jump names home apart x j p) marked =
      let a : Address = record { section = c.section; value = target_of o r s } in
      let made = same_claim c c.section (target_of o r s) r.section r.offset refl x j p marked in
      inr (record {
        source = r;
        there = contains_at o.relocs k r right.is_there;
        gives = inr (record { target = a; is = record { index = k; symbol = s; right = right; jump = jump; names = names; home = home; apart = apart; value = refl }; same = made });
      })

  -- two lists of claims, one behind the other
  pub are_named : (none a b : List Claim) → none ≡ [] → Gains (IsFrom (IsEntryClaim o) o.symbols) none a → Gains (IsFrom (IsRelocClaim o) o.relocs) a b → AreNamed o b
  are_named none a b empty entries relocs = λ y. (
    λ h. elim ((relocs y).0 h) [
      | inl i ↦ elim ((entries y).0 i) [
        | inl k ↦ absurd (contains_none y (subst (λ (l : List Claim). Contains l y) empty k))
        | inr f ↦ entry_named y f
      ]
      | inr f ↦ reloc_named y f
    ],
    λ h. elim (named_cases y h.0 h.1) [
      | inl f ↦ (relocs y).1 (inl ((entries y).1 (inr f)))
      | inr f ↦ (relocs y).1 (inr f)
    ],
  )
