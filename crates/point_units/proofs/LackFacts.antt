-- What points lack, and where that is told.
use Rattle.std.specs.Prelude.{◌≡◌, ◌<◌, ◌⊎◌, ℕ, ◌+◌, ◌&&◌, ◌||◌, nat_lt, Bool, true, false, cond, List, [], ◌∷◌, ◌++◌, Option, Some, None, length, take, get_or, Contains, refl}
use Rattle.std.specs.List.{filter}
use Rattle.std.proofs.Common.{arith, sym, ap, ap₂, ◌∙◌, subst, inl, inr}
use Rattle.std.proofs.lemmas.Bool.{ltb-true, lt-ltb}
use Rattle.std.proofs.lemmas.List.{take_more}
use Rattle.std.proofs.lemmas.Option.{none-some, same_Some}
use Rattle.std.proofs.lemmas.List.Elements.{All-contains, Contains-append_left, Contains-append_right, Contains-append_cases}
use Rattle.elf_model.specs.declared.refusals.Refusal.{Refusal}
use Rattle.elf_model.specs.declared.refusals.Refusal.TheVariants.{NoScratch}
use Rattle.elf_model.specs.declared.refusals.Spot.{Spot}
use Rattle.elf_model.proofs.Elements.{contains_cases, contains_here, contains_none}
use Rattle.thumb_instr.specs.declared.instructions.Instr.{Instr}
use Rattle.code_ranges.specs.CodeRanges.{comes_before}
use Rattle.code_ranges.specs.Spots.{spot_of, IsFirst}
use Rattle.flow_recover.specs.declared.flows.Point.{Point}
use Rattle.flow_recover.specs.Flows.{FlowParts}
use Rattle.thumb_instr.specs.declared.register_sets.RegSet.{RegSet}
use Rattle.thumb_instr.specs.Operands.{has}
use Rattle.liveness.specs.declared.boundary.Boundary.{Boundary}
use Rattle.liveness.specs.Faults.{AreLive}
use Rattle.liveness.specs.Sets.{LiveParts, holds_after}
use Rattle.seq_core.specs.declared.classes.Class.{Class}
use Rattle.seq_core.specs.Classes.{IsOf}
use Rattle.seq_core.specs.Needs.{registers_of, changes_flags}
use Rattle.point_units.specs.Scratch.{order, is_scratch, scratch_of, has_live_flag, IsLive, Lacks, SufficeAll, ScratchFault, IsScratchRefusal}
use Rattle.point_units.specs.Scratch.ScratchFault.{at_point}
use Rattle.point_units.specs.Spots.{lack, lack_at, lack_by, IsLackAt, AreSpots}

-- Two tests that are the same keep the same.
same_kept : (p q : ℕ → Bool) → ((k : ℕ) → p k ≡ q k) → (xs : List ℕ) → filter p xs ≡ filter q xs
same_kept p q same [] = refl
same_kept p q same (x ∷ xs) = ap₂ (λ (b : Bool) (l : List ℕ). cond b (x ∷ l) l) (same x) (same_kept p q same xs)

same_tests : (a b : Bool) → (a ≡ true → b ≡ true) → (b ≡ true → a ≡ true) → a ≡ b
same_tests true b to back = sym (to refl)
same_tests false true to back = back refl
same_tests false false to back = refl

module _ (f : FlowParts) (b : Boundary) (x : Point) (one two : ℕ → Bool) (is : IsLive f b x one) (too : IsLive f b x two) where
  same_live : (k : ℕ) → one k ≡ two k
  same_live k = same_tests (one k) (two k) (λ e. (too k).1 ((is k).0 e)) (λ e. (is k).1 ((too k).0 e))

  same_scratch : (i : Instr) → scratch_of one i ≡ scratch_of two i
  same_scratch i = same_kept (is_scratch one i) (is_scratch two i) (λ k. ap (λ (v : Bool). is_scratch (λ n. v) i k) (same_live k)) order

  same_flag : has_live_flag one ≡ has_live_flag two
  same_flag =
      ap₂ (λ (u v : Bool). u || v) (same_live 16) (ap₂ (λ (u v : Bool). u || v) (same_live 17) (ap₂ (λ (u v : Bool). u || v) (same_live 18) (same_live 19)))

  same_lack : (c : Class) (i : Instr) → lack c one i ≡ lack c two i
  same_lack c i =
      ap₂ (λ (n : ℕ) (v : Bool). cond (nat_lt n (registers_of c i) || (changes_flags c && v)) (Some (NoScratch (registers_of c i) n (changes_flags c && v))) None) (ap length (same_scratch i)) same_flag

-- what lacks is told
lacking : (c : Class) (live : ℕ → Bool) (i : Instr) (need have : ℕ) (flags : Bool) → need ≡ registers_of c i → have ≡ length (scratch_of live i) → flags ≡ (changes_flags c && has_live_flag live)
    → (have < need) ⊎ (flags ≡ true) → lack c live i ≡ Some (NoScratch need have flags)
lacking c live i need have flags n h e lacks =
    ap (λ (t : Bool). cond t (Some (NoScratch (registers_of c i) (length (scratch_of live i)) (changes_flags c && has_live_flag live))) None) (told lacks)
    ∙ (ap (λ (k : ℕ). Some (NoScratch k (length (scratch_of live i)) (changes_flags c && has_live_flag live))) (sym n)
    ∙ (ap (λ (k : ℕ). Some (NoScratch need k (changes_flags c && has_live_flag live))) (sym h) ∙ ap (λ (v : Bool). Some (NoScratch need have v)) (sym e)))
  where
    told : (have < need) ⊎ (flags ≡ true) → (nat_lt (length (scratch_of live i)) (registers_of c i) || (changes_flags c && has_live_flag live)) ≡ true
    told (inl less) = ap (λ (t : Bool). t || (changes_flags c && has_live_flag live)) (lt-ltb (length (scratch_of live i)) (registers_of c i) (omega (arith, n, h, less)))
    told (inr set) = ap (λ (t : Bool). nat_lt (length (scratch_of live i)) (registers_of c i) || t) (sym e ∙ set) ∙ always (nat_lt (length (scratch_of live i)) (registers_of c i))
      where
        always : (t : Bool) → (t || true) ≡ true
        always true = refl
        always false = refl

-- what is told lacks
pub record Told (c : Class) (live : ℕ → Bool) (i : Instr) (r : Refusal) : Type 0 where
  pub is : r ≡ NoScratch (registers_of c i) (length (scratch_of live i)) (changes_flags c && has_live_flag live)
  pub lacks : (length (scratch_of live i) < registers_of c i) ⊎ ((changes_flags c && has_live_flag live) ≡ true)

told_lacks : (c : Class) (live : ℕ → Bool) (i : Instr) (r : Refusal) → lack c live i ≡ Some r → Told c live i r
told_lacks c live i r e = go (nat_lt (length (scratch_of live i)) (registers_of c i)) refl (changes_flags c && has_live_flag live) refl e
  where
    go : (a : Bool) → nat_lt (length (scratch_of live i)) (registers_of c i) ≡ a → (f : Bool) → (changes_flags c && has_live_flag live) ≡ f
        → cond (a || f) (Some (NoScratch (registers_of c i) (length (scratch_of live i)) (changes_flags c && has_live_flag live))) None ≡ Some r → Told c live i r
    go true p f q e = record { is = sym (same_Some _ r e); lacks = inl (ltb-true (length (scratch_of live i)) (registers_of c i) p) }
    go false p true q e = record { is = sym (same_Some _ r e); lacks = inr q }
    go false p false q e = absurd (none-some r e)

module _ (f : FlowParts) (b : Boundary) (x : Point) (live : ℕ → Bool) (is_live : IsLive f b x live) (s : Option Spot) (is : IsLackAt x live s) where
  -- a point that lacks has its spot
  pub spot_there : (need have : ℕ) (flags : Bool) → Lacks f b x need have flags → s ≡ Some (spot_of (NoScratch need have flags) x.section x.offset)
  spot_there need have flags l =
      is.is ∙ (ap (lack_by x live) ((is.exact l.class).1 l.of)
      ∙ (ap (lack_at x) (same_lack f b x live l.live is_live l.is_live l.class x.instr ∙ lacking l.class l.live x.instr need have flags l.needs l.has l.flagged l.lacks)))

  -- and a spot is that of a point that lacks
  pub spot_lacks : (t : Spot) → s ≡ Some t → (need : ℕ) × (have : ℕ) × (flags : Bool) × Lacks f b x need have flags × (t ≡ spot_of (NoScratch need have flags) x.section x.offset)
  spot_lacks t e = go is.class refl (sym is.is ∙ e)
    where
      go : (o : Option Class) → is.class ≡ o → lack_by x live o ≡ Some t → (need : ℕ) × (have : ℕ) × (flags : Bool) × Lacks f b x need have flags × (t ≡ spot_of (NoScratch need have flags) x.section x.offset)
      go None c e = absurd (none-some t e)
      go (Some c) at e = by (lack c live x.instr) refl e
        where
          by : (r : Option Refusal) → lack c live x.instr ≡ r → lack_at x r ≡ Some t → (need : ℕ) × (have : ℕ) × (flags : Bool) × Lacks f b x need have flags × (t ≡ spot_of (NoScratch need have flags) x.section x.offset)
          by None told e = absurd (none-some t e)
          by (Some r) told e =
              let h = told_lacks c live x.instr r told in (
                registers_of c x.instr,
                length (scratch_of live x.instr),
                changes_flags c && has_live_flag live,
                record { live = live; is_live = is_live; class = c; of = (is.exact c).0 at; needs = refl; has = refl; flagged = refl; lacks = h.lacks },
                sym (same_Some (spot_of r x.section x.offset) t e) ∙ ap (λ (q : Refusal). spot_of q x.section x.offset) h.is,
              )

pub no_spots : (f : FlowParts) (b : Boundary) → AreSpots f b [] []
no_spots f b = record { sound = λ s c. absurd (contains_none s c); whole = λ x need have flags c l. absurd (contains_none x c) }

-- one more point, and its spot, if it has one
abbrev pub added : List Spot → Option Spot → List Spot
added spots None = spots
added spots (Some s) = spots ++ s ∷ []

module _ (f : FlowParts) (b : Boundary) (points : List Point) (spots : List Spot) (before : AreSpots f b points spots) (x : Point) (live : ℕ → Bool) (is_live : IsLive f b x live) where
  pub one_more : (s : Option Spot) → IsLackAt x live s → AreSpots f b (points ++ x ∷ []) (added spots s)
  one_more s is = record { sound = λ t. sound s is t; whole = whole s is }
    where
      earlier : (t : Spot) → Contains spots t → (y : Point) × (need : ℕ) × (have : ℕ) × (flags : Bool) × Contains (points ++ x ∷ []) y × Lacks f b y need have flags × (t ≡ spot_of (NoScratch need have flags) y.section y.offset)
      earlier t c = let h = before.sound t c in (h.0, h.1, h.2, h.3, Contains-append_left points (x ∷ []) h.0 h.4, h.5, h.6)

      sound : (s : Option Spot) → IsLackAt x live s → (t : Spot) → Contains (added spots s) t
          → (y : Point) × (need : ℕ) × (have : ℕ) × (flags : Bool) × Contains (points ++ x ∷ []) y × Lacks f b y need have flags × (t ≡ spot_of (NoScratch need have flags) y.section y.offset)
      sound None is t c = earlier t c
      sound (Some s) is t c =
          elim (Contains-append_cases spots (s ∷ []) t c) [
            | inl old ↦ earlier t old
            | inr new ↦
                let same : s ≡ t = only s t new in
                let h = spot_lacks f b x live is_live (Some s) is s refl in
                (x, h.0, h.1, h.2, Contains-append_right points (x ∷ []) x (contains_here x []), h.3, sym same ∙ h.4)
          ]
        where
          only : (s t : Spot) → Contains (s ∷ []) t → s ≡ t
          only s t c = elim (contains_cases s [] t c) [ inl e ↦ e | inr r ↦ absurd (contains_none t r) ]

      there : (s : Option Spot) (t : Spot) → s ≡ Some t → Contains (added spots s) t
      there None t e = absurd (none-some t e)
      there (Some s) t e = subst (λ (z : Spot). Contains (spots ++ s ∷ []) z) (same_Some s t e) (Contains-append_right spots (s ∷ []) s (contains_here s []))

      kept : (s : Option Spot) (t : Spot) → Contains spots t → Contains (added spots s) t
      kept None t c = c
      kept (Some s) t c = Contains-append_left spots (s ∷ []) t c

      whole : (s : Option Spot) → IsLackAt x live s → (y : Point) (need have : ℕ) (flags : Bool) → Contains (points ++ x ∷ []) y → Lacks f b y need have flags
          → Contains (added spots s) (spot_of (NoScratch need have flags) y.section y.offset)
      whole s is y need have flags c l =
          elim (Contains-append_cases points (x ∷ []) y c) [
            | inl old ↦ kept s (spot_of (NoScratch need have flags) y.section y.offset) (before.whole y need have flags old l)
            | inr new ↦ elim (contains_cases x [] y new) [ inl e ↦ here e | inr r ↦ absurd (contains_none y r) ]
          ]
        where
          here : x ≡ y → Contains (added spots s) (spot_of (NoScratch need have flags) y.section y.offset)
          here e =
              let mine : Lacks f b x need have flags = subst (λ (z : Point). Lacks f b z need have flags) (sym e) l in
              subst (λ (z : Point). Contains (added spots s) (spot_of (NoScratch need have flags) z.section z.offset)) e
              (there s (spot_of (NoScratch need have flags) x.section x.offset) (spot_there f b x live is_live s is need have flags mine))

-- the first of them is refused
pub refusal_is : (f : FlowParts) (b : Boundary) (spots : List Spot) (spot : Spot) → AreSpots f b f.points spots → IsFirst spots (Some spot) → IsScratchRefusal f b spot
refusal_is f b spots spot are first =
    let h = are.sound spot first.0 in
    record {
      fault = subst (λ (s : Spot). ScratchFault f b s.refusal s.section s.offset) (sym h.6) (at_point h.0 h.1 h.2 h.3 h.4 h.5);
      file = ap (λ (s : Spot). s.file) h.6;
      first = λ r section offset fault. before r section offset fault;
    }
  where
    before : (r : Refusal) (section offset : ℕ) → ScratchFault f b r section offset → comes_before r section offset spot ≡ false
    before _ _ _ (at_point x need have flags there l) =
        All-contains (λ s. comes_before s.refusal s.section s.offset spot ≡ false) spots (spot_of (NoScratch need have flags) x.section x.offset) first.1 (are.whole x need have flags there l)

pub all_suffice : (f : FlowParts) (b : Boundary) (spots : List Spot) → AreSpots f b f.points spots → spots ≡ [] → SufficeAll f b
all_suffice f b spots are none x need have flags there l =
    contains_none (spot_of (NoScratch need have flags) x.section x.offset) (subst (λ (ss : List Spot). Contains ss (spot_of (NoScratch need have flags) x.section x.offset)) none (are.whole x need have flags there l))

-- where they suffice, no class lacks
pub none_lacks : (f : FlowParts) (b : Boundary) (x : Point) (live : ℕ → Bool) → IsLive f b x live → SufficeAll f b → Contains f.points x → (c : Class) → IsOf c x.instr → lack c live x.instr ≡ None
none_lacks f b x live is_live suffice there c of = go (lack c live x.instr) refl
  where
    go : (r : Option Refusal) → lack c live x.instr ≡ r → r ≡ None
    go None e = refl
    go (Some r) e =
        let h = told_lacks c live x.instr r e in
        absurd (suffice x (registers_of c x.instr) (length (scratch_of live x.instr)) (changes_flags c && has_live_flag live) there
        (record { live = live; is_live = is_live; class = c; of = of; needs = refl; has = refl; flagged = refl; lacks = h.lacks }))

-- what liveness says after a point is what is live there
pub live_is : (f : FlowParts) (b : Boundary) (l : LiveParts) → AreLive f b l → (x : Point) (set : RegSet) → ((k : ℕ) → has set.0 k ≡ holds_after b l.sets x k) → IsLive f b x (has set.0)
live_is f b l are x set same k = ((λ e. (are.after x k).0 (sym (same k) ∙ e)), (λ h. same k ∙ (are.after x k).1 h))

-- one more of a flow's points
pub next_spots : (f : FlowParts) (b : Boundary) (k : ℕ) (x : Point) (live : ℕ → Bool) (spots now : List Spot) (s : Option Spot) → k < length f.points → x ≡ get_or f.points k x → AreSpots f b (take k f.points) spots
    → IsLive f b x live → IsLackAt x live s → now ≡ added spots s → AreSpots f b (take (k + 1) f.points) now
next_spots f b k x live spots now s low is before is_live lack e =
    let next : take (k + 1) f.points ≡ take k f.points ++ x ∷ [] = take_more f.points k x low ∙ ap (λ (y : Point). take k f.points ++ y ∷ []) (sym is) in
    subst (λ (ps : List Point). AreSpots f b ps now) (sym next) (subst (AreSpots f b (take k f.points ++ x ∷ [])) (sym e) (one_more f b (take k f.points) spots before x live is_live s lack))
