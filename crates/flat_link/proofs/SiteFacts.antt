-- The relocations of all objects: which they are, and in which order.
use Rattle.std.proofs.Common.{◌≡◌, ◌≤◌, ◌<◌, ℕ, zero, suc, ◌+◌, ◌-◌, List, [], ◌∷◌, ◌++◌, refl, sym, ap, ◌∙◌, subst, inl, inr, ◌⊎◌, arith, Option, Some, None}
use Rattle.std.specs.Prelude.{Contains, slice_get}
use Rattle.std.specs.Option.{option_to_list}
use Rattle.std.proofs.lemmas.Option.{none-some, same_Some}
use Rattle.std.proofs.lemmas.List.Elements.{Contains-append_cases, Contains-append_left, Contains-append_right}
use Rattle.elf_model.specs.declared.objects.Symbol.{Symbol}
use Rattle.elf_model.specs.declared.objects.Reloc.{Reloc}
use Rattle.elf_model.specs.Objects.{ObjectParts}
use Rattle.elf_model.proofs.Elements.{contains_cases, contains_here, contains_later, contains_none}
use Rattle.thumb_table.specs.declared.placements.Placement.{Placement}
use Rattle.thumb_table.specs.Layouts.{Placed, all_placed, part_of}
use Rattle.thumb_table.specs.Names.{Defined, meant}
use Rattle.thumb_table.specs.Links.{Link, IsLink}
use Rattle.thumb_table.specs.LinkFaults.{IsReloc}
use Rattle.flat_link.specs.Sites.{Sited, sited, all_sited, meaning, meaning_by, tied, link_at, links_among, all_links}
use Rattle.flat_link.proofs.ListFacts.{InOrder, none, before, order_append}

abbrev pub sited_at : ℕ → ObjectParts → ℕ → Reloc → Sited
sited_at i o k r = record { file = i; object = o; number = k; reloc = r }

record IsOf (i : ℕ) (o : ObjectParts) (k : ℕ) (rs : List Reloc) (s : Sited) : Type 0 where
  pub file : s.file ≡ i
  pub object : s.object ≡ o
  pub above : k ≤ s.number
  pub there : slice_get rs (s.number - k) ≡ Some s.reloc

of_one : (i : ℕ) (o : ObjectParts) (k : ℕ) (rs : List Reloc) (s : Sited) → Contains (sited i o k rs) s → IsOf i o k rs s
of_one i o k [] s c = absurd (contains_none s c)
of_one i o k (r ∷ rest) s c =
    elim (contains_cases (sited_at i o k r) (sited i o (k + 1) rest) s c) [
      | inl e ↦
          let z : k - k ≡ 0 = omega arith in
          subst (λ (q : Sited). IsOf i o k (r ∷ rest) q) e (record { file = refl; object = refl; above = omega arith; there = ap (slice_get (r ∷ rest)) z })
      | inr t ↦
          let h = of_one i o (k + 1) rest s t in
          let a = h.above in
          let n : s.number - k ≡ suc (s.number - (k + 1)) = omega arith in
          record { file = h.file; object = h.object; above = omega arith; there = ap (slice_get (r ∷ rest)) n ∙ h.there }
    ]

has_one : (i : ℕ) (o : ObjectParts) (k : ℕ) (rs : List Reloc) (n : ℕ) (r : Reloc) → slice_get rs n ≡ Some r → Contains (sited i o k rs) (sited_at i o (k + n) r)
has_one i o k [] n r e = absurd (none-some r e)
has_one i o k (q ∷ rest) zero r e =
    let a : k ≡ k + 0 = omega arith in
    subst (λ (n : ℕ). Contains (sited i o k (q ∷ rest)) (sited_at i o n r)) a
    (subst (λ (x : Reloc). Contains (sited i o k (q ∷ rest)) (sited_at i o k x)) (same_Some q r e) (contains_here (sited_at i o k q) (sited i o (k + 1) rest)))
has_one i o k (q ∷ rest) (suc n) r e =
    let a : (k + 1) + n ≡ k + suc n = omega arith in
    contains_later (sited_at i o k q) (sited i o (k + 1) rest) (sited_at i o (k + suc n) r)
    (subst (λ (m : ℕ). Contains (sited i o (k + 1) rest) (sited_at i o m r)) a (has_one i o (k + 1) rest n r e))

record IsAmong (i : ℕ) (objects : List ObjectParts) (s : Sited) : Type 0 where
  pub above : i ≤ s.file
  pub object : slice_get objects (s.file - i) ≡ Some s.object
  pub reloc : slice_get s.object.relocs s.number ≡ Some s.reloc

of_all : (i : ℕ) (objects : List ObjectParts) (s : Sited) → Contains (all_sited i objects) s → IsAmong i objects s
of_all i [] s c = absurd (contains_none s c)
of_all i (o ∷ rest) s c =
    elim (Contains-append_cases (sited i o 0 o.relocs) (all_sited (i + 1) rest) s c) [
      | inl a ↦
          let h = of_one i o 0 o.relocs s a in
          let e = h.file in
          let z : s.file - i ≡ 0 = omega arith in
          let k : s.number ≡ s.number - 0 = omega arith in
          record {
            above = omega arith;
            object = ap (slice_get (o ∷ rest)) z ∙ ap (λ (q : ObjectParts). Some q) (sym h.object);
            reloc = ap (λ (q : ObjectParts). slice_get q.relocs s.number) h.object ∙ ap (slice_get o.relocs) k ∙ h.there;
          }
      | inr b ↦
          let h = of_all (i + 1) rest s b in
          let a = h.above in
          let n : s.file - i ≡ suc (s.file - (i + 1)) = omega arith in
          record { above = omega arith; object = ap (slice_get (o ∷ rest)) n ∙ h.object; reloc = h.reloc }
    ]

has_all : (i : ℕ) (objects : List ObjectParts) (n : ℕ) (o : ObjectParts) (k : ℕ) (r : Reloc) → slice_get objects n ≡ Some o → slice_get o.relocs k ≡ Some r → Contains (all_sited i objects) (sited_at (i + n) o k r)
has_all i [] n o k r e f = absurd (none-some o e)
has_all i (q ∷ rest) zero o k r e f =
    let a : i ≡ i + 0 = omega arith in
    let b : 0 + k ≡ k = omega arith in
    let same = same_Some q o e in
    let f2 : slice_get q.relocs k ≡ Some r = ap (λ (z : ObjectParts). slice_get z.relocs k) same ∙ f in
    let one : Contains (sited i q 0 q.relocs) (sited_at i q k r) = subst (λ (m : ℕ). Contains (sited i q 0 q.relocs) (sited_at i q m r)) b (has_one i q 0 q.relocs k r f2) in
    Contains-append_left (sited i q 0 q.relocs) (all_sited (i + 1) rest) (sited_at (i + 0) o k r)
    (subst (λ (m : ℕ). Contains (sited i q 0 q.relocs) (sited_at m o k r)) a (subst (λ (z : ObjectParts). Contains (sited i q 0 q.relocs) (sited_at i z k r)) same one))
has_all i (q ∷ rest) (suc n) o k r e f =
    let a : (i + 1) + n ≡ i + suc n = omega arith in
    Contains-append_right (sited i q 0 q.relocs) (all_sited (i + 1) rest) (sited_at (i + suc n) o k r)
    (subst (λ (m : ℕ). Contains (all_sited (i + 1) rest) (sited_at m o k r)) a (has_all (i + 1) rest n o k r e f))

-- the relocations of the list are those of the objects
pub sited_is : (objects : List ObjectParts) (s : Sited) → Contains (all_sited 0 objects) s → IsReloc objects s.file s.number s.object s.reloc
sited_is objects s c =
    let h = of_all 0 objects s c in
    let z : s.file ≡ s.file - 0 = omega arith in
    record { object = ap (slice_get objects) z ∙ h.object; reloc = h.reloc }

pub sited_there : (objects : List ObjectParts) (i k : ℕ) (o : ObjectParts) (r : Reloc) → IsReloc objects i k o r → Contains (all_sited 0 objects) (sited_at i o k r)
sited_there objects i k o r is =
    let z : 0 + i ≡ i = omega arith in
    subst (λ (n : ℕ). Contains (all_sited 0 objects) (sited_at n o k r)) z (has_all 0 objects i o k r is.object is.reloc)

-- of an object before, or a relocation before
abbrev pub Before : ℕ → ℕ → ℕ → ℕ → Type 0
Before i k j h = (i < j) ⊎ ((i ≡ j) × (k < h))

abbrev pub SitedBefore : Sited → Sited → Type 0
SitedBefore s t = Before s.file s.number t.file t.number

one_order : (i : ℕ) (o : ObjectParts) (k : ℕ) (rs : List Reloc) → InOrder SitedBefore (sited i o k rs)
one_order i o k [] = none
one_order i o k (r ∷ rest) =
    before (sited_at i o k r) (sited i o (k + 1) rest) (λ s c. let h = of_one i o (k + 1) rest s c in let a = h.above in inr (sym h.file, omega arith)) (one_order i o (k + 1) rest)

all_order : (i : ℕ) (objects : List ObjectParts) → InOrder SitedBefore (all_sited i objects)
all_order i [] = none
all_order i (o ∷ rest) =
    order_append SitedBefore (sited i o 0 o.relocs) (all_sited (i + 1) rest) (one_order i o 0 o.relocs) (all_order (i + 1) rest)
    (λ s t c d. let a = (of_one i o 0 o.relocs s c).file in let b = (of_all (i + 1) rest t d).above in inl (omega arith))

pub sited_order : (objects : List ObjectParts) → InOrder SitedBefore (all_sited 0 objects)
sited_order objects = all_order 0 objects

-- what a relocation links, is linked
pub record LinksTo (objects : List ObjectParts) (parts : List Placed) (s : Sited) (l : Link) : Type 0 where
  pub file : l.file ≡ s.file
  pub object : l.object ≡ s.object
  pub number : l.number ≡ s.number
  pub reloc : l.reloc ≡ s.reloc
  pub part : part_of parts s.file s.reloc.section ≡ Some l.part
  pub symbol : slice_get s.object.symbols s.reloc.symbol ≡ Some l.symbol
  pub meant : meaning objects s ≡ Some l.meant

tied_is : (objects : List ObjectParts) (parts : List Placed) (s : Sited) (l : Link) (p : Option Placed) (y : Option Symbol) (d : Option Defined) → part_of parts s.file s.reloc.section ≡ p → slice_get s.object.symbols s.reloc.symbol ≡ y → meaning objects s ≡ d
    → tied s p y d ≡ Some l → LinksTo objects parts s l
tied_is objects parts s l None y d a b c e = absurd (none-some l e)
tied_is objects parts s l (Some p) None d a b c e = absurd (none-some l e)
tied_is objects parts s l (Some p) (Some y) None a b c e = absurd (none-some l e)
tied_is objects parts s l (Some p) (Some y) (Some d) a b c e =
    let made : Link = record { file = s.file; object = s.object; number = s.number; reloc = s.reloc; part = p; symbol = y; meant = d } in
    subst (λ (k : Link). LinksTo objects parts s k) (same_Some made l e) (record { file = refl; object = refl; number = refl; reloc = refl; part = a; symbol = b; meant = c })

pub link_at_is : (objects : List ObjectParts) (parts : List Placed) (s : Sited) (l : Link) → link_at objects parts s ≡ Some l → LinksTo objects parts s l
link_at_is objects parts s l e = tied_is objects parts s l _ _ _ refl refl refl e

among_is : (objects : List ObjectParts) (parts : List Placed) (ss : List Sited) (l : Link) → Contains (links_among objects parts ss) l → (s : Sited) × Contains ss s × (link_at objects parts s ≡ Some l)
among_is objects parts [] l c = absurd (contains_none l c)
among_is objects parts (s ∷ rest) l c = go (link_at objects parts s) refl c (among_is objects parts rest l)
  where
    go : (o : Option Link) → link_at objects parts s ≡ o → Contains (option_to_list o ++ links_among objects parts rest) l
        → (Contains (links_among objects parts rest) l → (t : Sited) × Contains rest t × (link_at objects parts t ≡ Some l)) → (t : Sited) × Contains (s ∷ rest) t × (link_at objects parts t ≡ Some l)
    go None e c more = let h = more c in (h.0, contains_later s rest h.0 h.1, h.2)
    go (Some k) e c more =
        elim (contains_cases k (links_among objects parts rest) l c) [
          | inl same ↦ (s, contains_here s rest, e ∙ ap (λ (z : Link). Some z) same)
          | inr r ↦ let h = more r in (h.0, contains_later s rest h.0 h.1, h.2)
        ]

among_has : (objects : List ObjectParts) (parts : List Placed) (ss : List Sited) (s : Sited) (l : Link) → Contains ss s → link_at objects parts s ≡ Some l → Contains (links_among objects parts ss) l
among_has objects parts [] s l c e = absurd (contains_none s c)
among_has objects parts (t ∷ rest) s l c e =
    elim (contains_cases t rest s c) [
      | inl same ↦
          subst (λ (o : Option Link). Contains (option_to_list o ++ links_among objects parts rest) l) (sym (ap (link_at objects parts) same ∙ e)) (contains_here l (links_among objects parts rest))
      | inr r ↦ Contains-append_right (option_to_list (link_at objects parts t)) (links_among objects parts rest) l (among_has objects parts rest s l r e)
    ]

-- The links of the list are the links of the objects.
pub link_is : (objects : List ObjectParts) (at : Placement) (l : Link) → Contains (all_links objects at) l → IsLink objects at l
link_is objects at l c =
    let h = among_is objects (all_placed objects at) (all_sited 0 objects) l c in
    let s = h.0 in
    let is = sited_is objects s h.1 in
    let t = link_at_is objects (all_placed objects at) s l h.2 in
    record {
      object = ap (slice_get objects) t.file ∙ is.object ∙ ap (λ (o : ObjectParts). Some o) (sym t.object);
      reloc = ap (λ (o : ObjectParts). slice_get o.relocs l.number) t.object ∙ ap (slice_get s.object.relocs) t.number ∙ is.reloc ∙ ap (λ (r : Reloc). Some r) (sym t.reloc);
      part = ap (λ (i : ℕ). part_of (all_placed objects at) i l.reloc.section) t.file ∙ ap (λ (r : Reloc). part_of (all_placed objects at) s.file r.section) t.reloc ∙ t.part;
      symbol = symbol s t;
      meant = sym (by s t) ∙ t.meant;
    }
  where
    symbol : (s : Sited) → LinksTo objects (all_placed objects at) s l → slice_get l.object.symbols l.reloc.symbol ≡ Some l.symbol
    symbol s t = ap (λ (o : ObjectParts). slice_get o.symbols l.reloc.symbol) t.object ∙ ap (λ (r : Reloc). slice_get s.object.symbols r.symbol) t.reloc ∙ t.symbol

    by : (s : Sited) → LinksTo objects (all_placed objects at) s l → meaning objects s ≡ meant objects l.file l.reloc.symbol l.symbol
    by s t =
        ap (meaning_by objects s.file s.reloc.symbol) t.symbol ∙ ap (λ (i : ℕ). meant objects i s.reloc.symbol l.symbol) (sym t.file)
        ∙ ap (λ (r : Reloc). meant objects l.file r.symbol l.symbol) (sym t.reloc)

pub link_there : (objects : List ObjectParts) (at : Placement) (l : Link) → IsLink objects at l → Contains (all_links objects at) l
link_there objects at l is =
    let s : Sited = sited_at l.file l.object l.number l.reloc in
    let there = sited_there objects l.file l.number l.object l.reloc (record { object = is.object; reloc = is.reloc }) in
    let means : meaning objects s ≡ Some l.meant = ap (meaning_by objects l.file l.reloc.symbol) is.symbol ∙ is.meant in
    let e : link_at objects (all_placed objects at) s ≡ Some l =
    ap (λ (p : Option Placed). tied s p (slice_get l.object.symbols l.reloc.symbol) (meaning objects s)) is.part
    ∙ ap (λ (y : Option Symbol). tied s (Some l.part) y (meaning objects s)) is.symbol
    ∙ ap (λ (d : Option Defined). tied s (Some l.part) (Some l.symbol) d) means in
    among_has objects (all_placed objects at) (all_sited 0 objects) s l there e

abbrev pub LinkBefore : Link → Link → Type 0
LinkBefore l m = Before l.file l.number m.file m.number

among_order : (objects : List ObjectParts) (parts : List Placed) (ss : List Sited) → InOrder SitedBefore ss → InOrder LinkBefore (links_among objects parts ss)
among_order objects parts _ none = none
among_order objects parts _ (before s rest h more) = go (link_at objects parts s) refl (among_order objects parts rest more)
  where
    go : (o : Option Link) → link_at objects parts s ≡ o → InOrder LinkBefore (links_among objects parts rest) → InOrder LinkBefore (option_to_list o ++ links_among objects parts rest)
    go None e ordered = ordered
    go (Some l) e ordered =
        before l (links_among objects parts rest) (λ m c.
        let q = among_is objects parts rest m c in
        let a = link_at_is objects parts s l e in
        let b = link_at_is objects parts q.0 m q.2 in
        moved l m q.0 a.file a.number b.file b.number (h q.0 q.1)) ordered
      where
        moved : (l m : Link) (t : Sited) → l.file ≡ s.file → l.number ≡ s.number → m.file ≡ t.file → m.number ≡ t.number → SitedBefore s t → LinkBefore l m
        moved l m t a b c d (inl x) = inl (omega arith)
        moved l m t a b c d (inr x) = let y = x.0 in let z = x.1 in inr (omega arith, omega arith)

pub links_order : (objects : List ObjectParts) (at : Placement) → InOrder LinkBefore (all_links objects at)
links_order objects at = among_order objects (all_placed objects at) (all_sited 0 objects) (sited_order objects)
