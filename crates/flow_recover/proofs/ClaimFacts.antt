-- Where control is sent to, and where it enters.
use Rattle.std.proofs.Common.{◌≡◌, ◌↔◌, ◌⊎◌, ℕ, Bool, true, false, not, cond, List, [], ◌∷◌, ◌++◌, refl, sym, ap, ◌∙◌, subst, inl, inr, Option, Some, None}
use Rattle.std.specs.Prelude.{Contains}
use Rattle.std.specs.List.{filter_map, cons_option}
use Rattle.std.specs.BTreeSet.{BTreeSet}
use Rattle.std.proofs.lemmas.Bool.{true≢false, cond-true}
use Rattle.std.proofs.lemmas.List.Elements.{Contains-append_left, Contains-append_right, Contains-append_cases}
use Rattle.std.proofs.lemmas.Option.{none-some, same_Some}
use Rattle.elf_model.specs.Objects.{ObjectParts}
use Rattle.elf_model.proofs.Elements.{contains_cases, contains_here, contains_later, contains_none}
use Rattle.flow_recover.specs.declared.aims.Aim.TheVariants.{Near, Shared}
use Rattle.flow_recover.specs.declared.named.Claim.{Claim}
use Rattle.flow_recover.specs.declared.nodes.Node.{Node}
use Rattle.flow_recover.specs.declared.visits.Visit.{Visit}
use Rattle.flow_recover.specs.Aims.{has_offset, is_branch}
use Rattle.flow_recover.specs.Reach.{Aims}
use Rattle.flow_recover.specs.FlowFaults.{IsReachedInstr, IsClaim}
use Rattle.flow_recover.specs.FlowFaults.IsClaim.{by_object, by_instr}
use Rattle.flow_recover.specs.WholeFlows.{Enters, IsEntry}
use Rattle.flow_recover.specs.WholeFlows.Enters.{by_call, by_symbol}
use Rattle.flow_recover.specs.WholeFlows.{IsEntry as entry}
use Rattle.flow_recover.specs.Charts.{AreNamed}
use Rattle.flow_recover.specs.Gains.{has_place, PlacesGain, IsFrom}
use Rattle.flow_recover.specs.Visits.{IsVisit, AreVisits}
use Rattle.flow_recover.specs.Walks.{offset_in}
use Rattle.flow_recover.specs.Claims.{enters_by, claim_to, claim_at, claim_of, AreClaims, EntersAt}
use Rattle.flow_recover.proofs.AimFacts.{leads_to, led_to, aim_once}
use Rattle.flow_recover.proofs.GainFacts.{gain_none, gain_same}
use Rattle.flow_recover.proofs.VisitFacts.{visited}

-- what a list gives, where some give nothing
one_from : {X Y : Type 0} (f : X → Option Y) (x : X) (xs : List X) (y : Y) (rest : List Y) → (Contains rest y → (z : X) × Contains xs z × (f z ≡ Some y)) → (r : Option Y) → f x ≡ r → Contains (cons_option r rest) y
    → (z : X) × Contains (x ∷ xs) z × (f z ≡ Some y)
one_from f x xs y rest before None e h = let w = before h in (w.0, contains_later x xs w.0 w.1, w.2)
one_from f x xs y rest before (Some z) e h = elim (contains_cases z rest y h) [
  | inl s ↦ (x, contains_here x xs, e ∙ ap (λ k. Some k) s)
  | inr k ↦ let w = before k in (w.0, contains_later x xs w.0 w.1, w.2)
]

pub given_from : {X Y : Type 0} (f : X → Option Y) (xs : List X) (y : Y) → Contains (filter_map f xs) y → (x : X) × Contains xs x × (f x ≡ Some y)
given_from f [] y h = absurd (contains_none y h)
given_from f (x ∷ xs) y h = one_from f x xs y (filter_map f xs) (λ k. given_from f xs y k) (f x) refl h

has_more : {Y : Type 0} (r : Option Y) (rest : List Y) (y : Y) → Contains rest y → Contains (cons_option r rest) y
has_more None rest y h = h
has_more (Some z) rest y h = contains_later z rest y h

pub given_has : {X Y : Type 0} (f : X → Option Y) (xs : List X) (x : X) (y : Y) → Contains xs x → f x ≡ Some y → Contains (filter_map f xs) y
given_has f [] x y h e = absurd (contains_none x h)
given_has f (z ∷ xs) x y h e = elim (contains_cases z xs x h) [
  | inl s ↦ subst (λ (r : Option _). Contains (cons_option r (filter_map f xs)) y) (sym (ap f s ∙ e)) (contains_here y (filter_map f xs))
  | inr k ↦ has_more (f z) (filter_map f xs) y (given_has f xs x y k e)
]

-- the claim of one visit
module _ (o : ObjectParts) (v : Visit) (is : IsVisit o v) where
  made_at : ℕ → Claim
  made_at x = record { section = v.node.section; offset = x; from_section = v.node.section; from_offset = v.node.offset; entry = enters_by (is_branch v.instr) v.aim }

  record Claimed (c : Claim) : Type 0 where
    aims : Aims o v.node v.instr c.offset
    same : claim_to v (Some c.offset) ≡ Some c

  claimed_from : (c : Claim) → claim_at v ≡ Some c → Claimed c
  unfolding claim_at
  claimed_from c e = go (has_offset v.instr) refl e
    where
      by_offset : (r : Option ℕ) → offset_in v.aim ≡ r → has_offset v.instr ≡ true → claim_to v r ≡ Some c → Claimed c
      by_offset None f t h = absurd (none-some c h)
      by_offset (Some x) f t h =
          let at : x ≡ c.offset = ap (λ (k : Claim). k.offset) (same_Some _ c h) in
          record {
            aims = record { has = t; aim = leads_to o v.node.section v.node.offset c.offset v.instr v.aim is.aim (f ∙ ap (λ (z : ℕ). Some z) at) };
            same = ap (λ (z : ℕ). claim_to v (Some z)) (sym at) ∙ h;
          }

      go : (b : Bool) → has_offset v.instr ≡ b → cond b (claim_to v (offset_in v.aim)) None ≡ Some c → Claimed c
      go true t h = by_offset (offset_in v.aim) refl t h
      go false t h = absurd (none-some c h)

  claim_there : (x : ℕ) → Aims o v.node v.instr x → claim_at v ≡ claim_to v (Some x)
  unfolding claim_at
  claim_there x a =
      cond-true (has_offset v.instr) (claim_to v (offset_in v.aim)) None a.has ∙ ap (claim_to v) (led_to o v.node.section v.node.offset x v.instr v.aim is.aim a.aim)

  -- where it enters
  enters_from : (x : ℕ) → Aims o v.node v.instr x → enters_by (is_branch v.instr) v.aim ≡ true → Enters o v.node v.instr x
  enters_from x a e = elim a.aim [
    | inl near ↦
        let not_branch : not (is_branch v.instr) ≡ true = ap (enters_by (is_branch v.instr)) (sym (aim_once o v.node.section v.node.offset v.instr v.aim (Near x) is.aim near)) ∙ e in
        by_call a.has (plain (is_branch v.instr) not_branch) near
    | inr shared ↦ by_symbol a.has shared
  ]
    where
      plain : (b : Bool) → not b ≡ true → b ≡ false
      plain true h = sym h
      plain false h = refl

  from_enters : (x : ℕ) → Enters o v.node v.instr x → Aims o v.node v.instr x × (enters_by (is_branch v.instr) v.aim ≡ true)
  from_enters x (by_call has plain near) = (
    record { has = has; aim = inl near },
    ap (enters_by (is_branch v.instr)) (aim_once o v.node.section v.node.offset v.instr v.aim (Near x) is.aim near) ∙ ap not plain,
  )
  from_enters x (by_symbol has shared) = (
    record { has = has; aim = inr shared },
    ap (enters_by (is_branch v.instr)) (aim_once o v.node.section v.node.offset v.instr v.aim (Shared x) is.aim shared),
  )

-- all claims are those of the object and of each visit
module _ (o : ObjectParts) (named : List Claim) (visits : List Visit) (are : AreNamed o named) (seen : AreVisits o visits) where
  reached_instr : (v : Visit) → Contains visits v → IsReachedInstr o v.node v.instr
  reached_instr v h = record { reached = seen.reached v h; found = (seen.sound v h).found }

  pub record IsLed (c : Claim) : Type 0 where
    pub visit : Visit
    pub there : Contains visits visit
    pub aims : Aims o visit.node visit.instr c.offset
    pub same : claim_to visit (Some c.offset) ≡ Some c

  led_from : (c : Claim) → Contains (filter_map claim_at visits) c → IsLed c
  led_from c h =
      let w = given_from claim_at visits c h in
      let p = claimed_from o w.0 (seen.sound w.0 w.1) c w.2 in
      record { visit = w.0; there = w.1; aims = p.aims; same = p.same }

  led_claim : (c : Claim) → IsLed c → IsClaim o c.section c.offset c.from_section c.from_offset
  led_claim c l =
      let same : _ ≡ c = same_Some _ c l.same in
      by_instr l.visit.node l.visit.instr (reached_instr l.visit l.there) l.aims (sym (ap (λ (k : Claim). k.section) same)) (sym (ap (λ (k : Claim). k.from_section) same)) (sym (ap (λ (k : Claim). k.from_offset) same))

  led_entry : (c : Claim) → IsLed c → c.entry ≡ true → IsEntry o c.section c.offset
  led_entry c l e =
      let same : _ ≡ c = same_Some _ c l.same in
      entry.entered l.visit.node l.visit.instr (reached_instr l.visit l.there) (enters_from o l.visit (seen.sound l.visit l.there) c.offset l.aims (ap (λ (k : Claim). k.entry) same ∙ e)) (sym (ap (λ (k : Claim). k.section) same))

  -- a visit's claim is there, as one of these places
  led_there : (v : Visit) (j x section offset : ℕ) → Contains visits v → Aims o v.node v.instr x → j ≡ v.node.section → section ≡ v.node.section → offset ≡ v.node.offset
      → Contains (filter_map claim_at visits) (claim_of j x section offset (enters_by (is_branch v.instr) v.aim))
  led_there v j x section offset h a e f g =
      let made : claim_to v (Some x) ≡ Some (claim_of j x section offset (enters_by (is_branch v.instr) v.aim)) =
      ap (λ (k : ℕ). Some (claim_of k x v.node.section v.node.offset (enters_by (is_branch v.instr) v.aim))) (sym e)
      ∙ ap (λ (k : ℕ). Some (claim_of j x k v.node.offset (enters_by (is_branch v.instr) v.aim))) (sym f)
      ∙ ap (λ (k : ℕ). Some (claim_of j x section k (enters_by (is_branch v.instr) v.aim))) (sym g) in
      given_has claim_at visits v _ h (claim_there o v (seen.sound v h) x a ∙ made)

  pub claims_all : (claims : List Claim) → claims ≡ named ++ filter_map claim_at visits → AreClaims o claims
  claims_all claims e = subst (AreClaims o) (sym e) (record {
    sound = λ c h. elim (cases c h) [ inl k ↦ by_object ((are c).0 k).0 | inr k ↦ led_claim c (led_from c k) ];
    whole = λ j x section offset p. whole j x section offset p;
    enters = λ c h t. elim (cases c h) [ inl k ↦ entry.named c.from_section c.from_offset ((are c).0 k).0 | inr k ↦ led_entry c (led_from c k) t ];
    entered = λ j x p. entered j x p;
  })
    where
      cases : (c : Claim) → Contains (named ++ filter_map claim_at visits) c → Contains named c ⊎ Contains (filter_map claim_at visits) c
      cases c h = Contains-append_cases named (filter_map claim_at visits) c h

      left : (c : Claim) → Contains named c → Contains (named ++ filter_map claim_at visits) c
      left c h = Contains-append_left named (filter_map claim_at visits) c h

      right : (c : Claim) → Contains (filter_map claim_at visits) c → Contains (named ++ filter_map claim_at visits) c
      right c h = Contains-append_right named (filter_map claim_at visits) c h

      whole : (j x section offset : ℕ) → IsClaim o j x section offset → (b : Bool) × Contains (named ++ filter_map claim_at visits) (claim_of j x section offset b)
      whole j x section offset (by_object p) = (true, left (claim_of j x section offset true) ((are (claim_of j x section offset true)).1 (p, refl)))
      whole j x section offset (by_instr n i r a e f g) =
          let w = visited o visits (λ m k. Aims o m k x) n i seen r a in
          (enters_by (is_branch w.0.instr) w.0.aim, right _ (led_there w.0 j x section offset w.1 w.3 (e ∙ ap (λ (m : Node). m.section) (sym w.2)) (f ∙ ap (λ (m : Node). m.section) (sym w.2)) (g ∙ ap (λ (m : Node). m.offset) (sym w.2))))

      entered : (j x : ℕ) → IsEntry o j x → (section offset : ℕ) × Contains (named ++ filter_map claim_at visits) (claim_of j x section offset true)
      entered j x (entry.named section offset p) = (section, offset, left (claim_of j x section offset true) ((are (claim_of j x section offset true)).1 (p, refl)))
      entered j x (entry.entered n i r p s) =
          let w = visited o visits (λ m k. Enters o m k x) n i seen r p in
          let a = from_enters o w.0 (seen.sound w.0 w.1) x w.3 in (
            w.0.node.section,
            w.0.node.offset,
            subst (λ (b : Bool). Contains (named ++ filter_map claim_at visits) (claim_of j x w.0.node.section w.0.node.offset b)) a.1
                (right _ (led_there w.0 j x w.0.node.section w.0.node.offset w.1 a.0 (s ∙ ap (λ (m : Node). m.section) (sym w.2)) refl refl)),
          )

-- the places at which control enters
pub entry_more : (old new : BTreeSet (ℕ × ℕ)) (c : Claim) → c.entry ≡ true → PlacesGain (λ j x. (c.section ≡ j) × (c.offset ≡ x)) old new → PlacesGain (λ j x. EntersAt c (j, x)) old new
entry_more old new c e g j x = gain_same (has_place new j x ≡ true) (has_place old j x ≡ true) ((c.section ≡ j) × (c.offset ≡ x)) (EntersAt c (j, x))
    (λ p. record { entry = e; section = p.0; offset = p.1 })
    (λ p. (p.section, p.offset))
    (g j x)

pub no_entry : (places : BTreeSet (ℕ × ℕ)) (c : Claim) → c.entry ≡ false → PlacesGain (λ j x. EntersAt c (j, x)) places places
no_entry places c e j x = gain_none (has_place places j x ≡ true) (EntersAt c (j, x)) (λ p. true≢false (sym p.entry ∙ e))

pub all_entries : (o : ObjectParts) (claims : List Claim) (none all : BTreeSet (ℕ × ℕ)) → AreClaims o claims → ((j x : ℕ) → has_place none j x ≡ true → ⊥) → PlacesGain (λ j x. IsFrom EntersAt claims (j, x)) none all
    → (j x : ℕ) → (has_place all j x ≡ true) ↔ IsEntry o j x
all_entries o claims none all are empty g j x = (
  λ t. elim ((g j x).0 t) [
    | inl n ↦ absurd (empty j x n)
    | inr f ↦
        let p : EntersAt f.source (j, x) = f.gives in
        subst (λ (k : ℕ). IsEntry o k x) p.section (subst (λ (y : ℕ). IsEntry o f.source.section y) p.offset (are.enters f.source f.there p.entry))
  ],
  λ p. let w = are.entered j x p in (g j x).1 (inr (record { source = claim_of j x w.0 w.1 true; there = w.2; gives = record { entry = refl; section = refl; offset = refl } })),
)
