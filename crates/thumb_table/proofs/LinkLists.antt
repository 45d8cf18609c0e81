-- The list of links has each link; and what a comparison of all offsets shows.
use Rattle.std.specs.Prelude.{◌≡◌, ℕ, zero, suc, ◌+◌, List, [], ◌∷◌, ◌++◌, Option, Some, slice_get, Contains, refl}
use Rattle.std.specs.Option.{option_to_list}
use Rattle.std.proofs.Common.{arith, ap, sym, ◌∙◌, subst}
use Rattle.std.proofs.lemmas.Option.{none-some, same_Some}
use Rattle.elf_model.specs.declared.objects.Reloc.{Reloc}
use Rattle.elf_model.specs.Objects.{ObjectParts}
use Rattle.thumb_table.specs.declared.placements.Placement.{Placement}
use Rattle.thumb_table.specs.Links.{Link, IsLink}
use Rattle.thumb_table.proofs.LinkChecks.{link_of, links_in, links_from, links}
use Rattle.elf_model.proofs.Elements.{contains_here, contains_later, contains_none}

contains_right : {X : Type 0} (xs ys : List X) (y : X) → Contains ys y → Contains (xs ++ ys) y
contains_right [] ys y h = h
contains_right (x ∷ xs) ys y h = contains_later x (xs ++ ys) y (contains_right xs ys y h)

contains_left : {X : Type 0} (xs ys : List X) (y : X) → Contains xs y → Contains (xs ++ ys) y
contains_left [] ys y h = absurd (contains_none y h)
contains_left (x ∷ xs) ys y (zero, l, e) = (zero, omega arith, e)
contains_left (x ∷ xs) ys y (suc k, l, e) = contains_later x (xs ++ ys) y (contains_left xs ys y (k, omega arith, e))

pub is_link_of : (objects : List ObjectParts) (at : Placement) (l : Link) → IsLink objects at l → link_of objects at l.file l.object l.number l.reloc ≡ Some l
is_link_of objects at l is = rw is.part (rw is.symbol (rw is.meant refl))

in_links : (objects : List ObjectParts) (at : Placement) (i : ℕ) (o : ObjectParts) (k n : ℕ) (rs : List Reloc) (r : Reloc) (l : Link)
    → slice_get rs n ≡ Some r → link_of objects at i o (k + n) r ≡ Some l → Contains (links_in objects at i o k rs) l
in_links objects at i o k n [] r l h e = absurd (none-some r h)
in_links objects at i o k zero (q ∷ rest) r l h e =
    let same : q ≡ r = same_Some q r h in
    let number : k + 0 ≡ k = omega arith in
    let there : link_of objects at i o k q ≡ Some l = ap (λ (m : ℕ). link_of objects at i o m q) (sym number) ∙ (ap (λ (s : Reloc). link_of objects at i o (k + 0) s) same ∙ e) in
    contains_left (option_to_list (link_of objects at i o k q)) (links_in objects at i o (k + 1) rest) l
    (subst (λ (z : Option Link). Contains (option_to_list z) l) (sym there) (contains_here l []))
in_links objects at i o k (suc n) (q ∷ rest) r l h e =
    let number : k + suc n ≡ (k + 1) + n = omega arith in
    contains_right (option_to_list (link_of objects at i o k q)) (links_in objects at i o (k + 1) rest) l
    (in_links objects at i o (k + 1) n rest r l h (ap (λ (m : ℕ). link_of objects at i o m r) (sym number) ∙ e))

in_all_links : (objects : List ObjectParts) (at : Placement) (i n : ℕ) (os : List ObjectParts) (o : ObjectParts) (k : ℕ) (r : Reloc) (l : Link)
    → slice_get os n ≡ Some o → slice_get o.relocs k ≡ Some r → link_of objects at (i + n) o k r ≡ Some l → Contains (links_from objects at i os) l
in_all_links objects at i n [] o k r l h g e = absurd (none-some o h)
in_all_links objects at i zero (q ∷ rest) o k r l h g e =
    let same : o ≡ q = sym (same_Some q o h) in
    let number : i + 0 ≡ i = omega arith in
    let zero_k : 0 + k ≡ k = omega arith in
    contains_left (links_in objects at i q 0 q.relocs) (links_from objects at (i + 1) rest) l
    (in_links objects at i q 0 k q.relocs r l (subst (λ (z : ObjectParts). slice_get z.relocs k ≡ Some r) same g)
    (ap (λ (m : ℕ). link_of objects at i q m r) zero_k ∙ (ap (λ (m : ℕ). link_of objects at m q k r) (sym number) ∙ subst (λ (z : ObjectParts). link_of objects at (i + 0) z k r ≡ Some l) same e)))
in_all_links objects at i (suc n) (q ∷ rest) o k r l h g e =
    let number : i + suc n ≡ (i + 1) + n = omega arith in
    contains_right (links_in objects at i q 0 q.relocs) (links_from objects at (i + 1) rest) l
    (in_all_links objects at (i + 1) n rest o k r l h g (ap (λ (m : ℕ). link_of objects at m o k r) (sym number) ∙ e))

-- each link is in the list
pub has_link : (objects : List ObjectParts) (at : Placement) (l : Link) → IsLink objects at l → Contains (links objects at) l
has_link objects at l is =
    let start : 0 + l.file ≡ l.file = omega arith in
    in_all_links objects at 0 l.file objects l.object l.number l.reloc l is.object is.reloc
    (ap (λ (m : ℕ). link_of objects at m l.object l.number l.reloc) start ∙ is_link_of objects at l is)
