-- The first refusal of some objects, one object after another.
use Rattle.std.proofs.Common.{◌≡◌, ◌≤◌, ◌<◌, ◌⊎◌, ◌+◌, inl, inr, ℕ, zero, suc, Bool, true, false, cond, get_or, take, List, [], ◌∷◌, ◌++◌, length, Option, Some, None, refl, sym, ap, ◌∙◌, subst, arith}
use Rattle.std.specs.Prelude.{slice_get, nat_lt}
use Rattle.std.proofs.lemmas.Bool.{cases_lt}
use Rattle.std.proofs.lemmas.Bool.Decides.{nat_tests}
use Rattle.std.proofs.lemmas.List.{length-take, take_more}
use Rattle.std.proofs.lemmas.Option.{same_Some, slice_get_within, none-some}
use Rattle.elf_model.specs.declared.refusals.Spot.{Spot}
use Rattle.elf_model.specs.Objects.{ObjectParts}
use Rattle.elf_model.proofs.Lists.{get_left}
use Rattle.harden_core.specs.declared.hardening.Hardened.{Hardened}
use Rattle.guard_cli.specs.Inputs.{in_file}
use Rattle.guard_cli.specs.HardenWork.{IsRefusalOf, IsFirstRefusal, NoneRefused, phase_of, ComesBefore}
use Rattle.guard_cli.specs.HardenSteps.{IsMadeOf, AreHardened, earlier}
use Rattle.guard_cli.proofs.OneRefusal.{one_phase, not_both}

-- what is found of the first objects: what is made of each, or their first refusal
abbrev pub FoundIn : List ObjectParts → List Hardened → Option Spot → Type 0
FoundIn objects hardened None = AreHardened objects hardened
FoundIn objects hardened (Some spot) = IsFirstRefusal objects spot

-- an object of a list with one more
abbrev Among : List ObjectParts → ObjectParts → ℕ → ObjectParts → Type 0
Among objects o j p = ((j < length objects) × (slice_get objects j ≡ Some p)) ⊎ ((j ≡ length objects) × (p ≡ o))

among : (objects : List ObjectParts) (o : ObjectParts) (j : ℕ) (p : ObjectParts) → slice_get (objects ++ o ∷ []) j ≡ Some p → Among objects o j p
among [] o zero p e = inr (refl, sym (same_Some o p e))
among [] o (suc j) p e = absurd (none-some p e)
among (q ∷ objects) o zero p e = inl (omega arith, e)
among (q ∷ objects) o (suc j) p e =
    elim (among objects o j p e) [
      | inl h ↦ inl (omega (arith, h.0), h.1)
      | inr h ↦ inr (ap suc h.0, h.1)
    ]

last_there : (objects : List ObjectParts) (o : ObjectParts) → slice_get (objects ++ o ∷ []) (length objects) ≡ Some o
last_there [] o = refl
last_there (p ∷ objects) o = last_there objects o

-- Hardened objects are not refused.
pub none_refused : (objects : List ObjectParts) (hardened : List Hardened) → AreHardened objects hardened → NoneRefused objects
none_refused [] hs are j p spot e r = none-some p e
none_refused (o ∷ os) [] are j p spot e r = are
none_refused (o ∷ os) (h ∷ hs) (m, ms) zero p spot e r = not_both p h spot (subst (λ (q : ObjectParts). IsMadeOf q h) (same_Some o p e) m) r
none_refused (o ∷ os) (h ∷ hs) (m, ms) (suc j) p spot e r = none_refused os hs ms j p spot e r

hardened_more : (objects : List ObjectParts) (hardened : List Hardened) (o : ObjectParts) (h : Hardened) → AreHardened objects hardened → IsMadeOf o h → AreHardened (objects ++ o ∷ []) (hardened ++ h ∷ [])
hardened_more [] [] o h are m = (m, tt)
hardened_more [] (x ∷ hs) o h are m = absurd are
hardened_more (p ∷ os) [] o h are m = absurd are
hardened_more (p ∷ os) (x ∷ hs) o h (n, ns) m = (n, hardened_more os hs o h ns m)

module _ (objects : List ObjectParts) (o : ObjectParts) where
  -- The first refusal stays so where the object behind is refused by no earlier phase.
  stays_first : (spot : Spot) → IsFirstRefusal objects spot → ((other : Spot) → IsRefusalOf o other → phase_of spot.refusal ≤ phase_of other.refusal) → IsFirstRefusal (objects ++ o ∷ []) spot
  stays_first spot is later = record {
    object = is.object;
    there = get_left objects (o ∷ []) spot.file is.object is.there;
    own = is.own;
    refused = is.refused;
    spot_is = is.spot_is;
    first = λ j p other e r before.
        elim (among objects o j p e) [
          | inl h ↦ is.first j p other h.1 r before
          | inr h ↦ not_earlier j p other h.0 (later other (subst (λ (q : ObjectParts). IsRefusalOf q other) h.1 r)) before
        ];
  }
    where
      not_earlier : (j : ℕ) (p : ObjectParts) (other : Spot) → j ≡ length objects → phase_of spot.refusal ≤ phase_of other.refusal → ComesBefore other.refusal j is.own.refusal spot.file → ⊥
      not_earlier j p other at high (inl low) = let own = ap (λ (s : Spot). phase_of s.refusal) is.spot_is in omega arith
      not_earlier j p other at high (inr (same, below)) = let within = slice_get_within objects spot.file is.object is.there in omega arith

  -- The refusal of the object behind is the first where those before it are refused by later phases alone.
  becomes_first : (own : Spot) → IsRefusalOf o own → ((j : ℕ) (p : ObjectParts) (other : Spot) → slice_get objects j ≡ Some p → IsRefusalOf p other → phase_of own.refusal < phase_of other.refusal)
      → IsFirstRefusal (objects ++ o ∷ []) (in_file (length objects) own)
  becomes_first own is later = record {
    object = o;
    there = last_there objects o;
    own = own;
    refused = is;
    spot_is = refl;
    first = λ j p other e r before.
        elim (among objects o j p e) [
          | inl h ↦ not_before j other (later j p other h.1 r) before
          | inr h ↦ not_itself j other h.0 (one_phase o own other is (subst (λ (q : ObjectParts). IsRefusalOf q other) h.1 r)) before
        ];
  }
    where
      not_before : (j : ℕ) (other : Spot) → phase_of own.refusal < phase_of other.refusal → ComesBefore other.refusal j own.refusal (length objects) → ⊥
      not_before j other less (inl low) = omega arith
      not_before j other less (inr (same, below)) = omega arith

      not_itself : (j : ℕ) (other : Spot) → j ≡ length objects → phase_of own.refusal ≡ phase_of other.refusal → ComesBefore other.refusal j own.refusal (length objects) → ⊥
      not_itself j other at same (inl low) = omega arith
      not_itself j other at same (inr (equal, below)) = omega arith

  -- One more object is hardened.
  pub found_hardened : (hardened : List Hardened) (first : Option Spot) (h : Hardened) → FoundIn objects hardened first → IsMadeOf o h → FoundIn (objects ++ o ∷ []) (hardened ++ h ∷ []) first
  found_hardened hardened None h found made = hardened_more objects hardened o h found made
  found_hardened hardened (Some spot) h found made = stays_first spot found (λ other r. absurd (not_both o h other made r))

  -- One more object is refused.
  pub found_refused : (hardened more : List Hardened) (first : Option Spot) (own : Spot) → FoundIn objects hardened first → IsRefusalOf o own
      → FoundIn (objects ++ o ∷ []) more (Some (earlier first (in_file (length objects) own)))
  found_refused hardened more None own found is = becomes_first own is (λ j p other e r. absurd (none_refused objects hardened found j p other e r))
  found_refused hardened more (Some old) own found is = go (nat_lt (phase_of own.refusal) (phase_of old.refusal)) refl
    where
      old_is : phase_of old.refusal ≡ phase_of found.own.refusal
      old_is = ap (λ (s : Spot). phase_of s.refusal) found.spot_is

      no_earlier : (j : ℕ) (p : ObjectParts) (other : Spot) → slice_get objects j ≡ Some p → IsRefusalOf p other → phase_of found.own.refusal ≤ phase_of other.refusal
      no_earlier j p other e r = elim (cases_lt (phase_of other.refusal) (phase_of found.own.refusal)) [
        | inl low ↦ absurd (found.first j p other e r (inl low))
        | inr high ↦ high
      ]

      go : (b : Bool) → nat_lt (phase_of own.refusal) (phase_of old.refusal) ≡ b → IsFirstRefusal (objects ++ o ∷ []) (cond b (in_file (length objects) own) old)
      go true e =
          let low : phase_of own.refusal < phase_of old.refusal = grind (arith, nat_tests) in
          becomes_first own is (λ j p other there r. let high = no_earlier j p other there r in let same = old_is in omega arith)
      go false e =
          let high : phase_of old.refusal ≤ phase_of own.refusal = grind (arith, nat_tests) in
          stays_first old found (λ other r. let same = one_phase o own other is r in omega arith)

-- The same of the first objects of a list, up to one of them.
module _ (objects : List ObjectParts) (k : ℕ) (o : ObjectParts) (below : k < length objects) (is : o ≡ get_or objects k o) where
  one_more : take (k + 1) objects ≡ take k objects ++ o ∷ []
  one_more = take_more objects k o below ∙ ap (λ (p : ObjectParts). take k objects ++ p ∷ []) (sym is)

  as_many : length (take k objects) ≡ k
  as_many = let count = length-take k objects in omega arith

  pub step_hardened : (hardened more : List Hardened) (first next : Option Spot) (h : Hardened) → more ≡ hardened ++ h ∷ [] → next ≡ first → FoundIn (take k objects) hardened first → IsMadeOf o h
      → FoundIn (take (k + 1) objects) more next
  step_hardened hardened more first next h more_is next_is found made =
      subst (λ (l : List ObjectParts). FoundIn l more next) (sym one_more)
      (subst (λ (l : List Hardened). FoundIn (take k objects ++ o ∷ []) l next) (sym more_is)
      (subst (λ (n : Option Spot). FoundIn (take k objects ++ o ∷ []) (hardened ++ h ∷ []) n) (sym next_is) (found_hardened (take k objects) o hardened first h found made)))

  pub step_refused : (hardened more : List Hardened) (first next : Option Spot) (own here said : Spot) → here ≡ in_file k own → said ≡ earlier first here → next ≡ Some said → FoundIn (take k objects) hardened first
      → IsRefusalOf o own → FoundIn (take (k + 1) objects) more next
  step_refused hardened more first next own here said here_is said_is next_is found refused =
      let same : in_file (length (take k objects)) own ≡ here = ap (λ (n : ℕ). in_file n own) as_many ∙ sym here_is in
      let one : Some (earlier first (in_file (length (take k objects)) own)) ≡ next = ap (λ (s : Spot). Some (earlier first s)) same ∙ ap Some (sym said_is) ∙ sym next_is in
      subst (λ (l : List ObjectParts). FoundIn l more next) (sym one_more)
      (subst (λ (n : Option Spot). FoundIn (take k objects ++ o ∷ []) more n) one (found_refused (take k objects) o hardened more first own found refused))
