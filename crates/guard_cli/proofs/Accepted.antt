-- The works of `harden`, `link` and `list`: what is accepted is not refused.
use Rattle.std.proofs.Common.{◌≡◌, ◌≤◌, inl, inr, ℕ, true, List, [], ◌∷◌, ◌++◌, length, refl, subst, arith}
use Rattle.std.specs.Prelude.{All, Some, slice_get}
use Rattle.std.specs.List.{list_all}
use Rattle.std.proofs.lemmas.Bool.{and_from}
use Rattle.std.proofs.lemmas.List.Elements.{All-nil, All-cons, All-head, All-tail}
use Rattle.elf_model.specs.declared.refusals.Spot.{Spot}
use Rattle.elf_model.specs.declared.refusals.Limit.{Limit}
use Rattle.elf_model.specs.declared.refusals.TheConstants.Limit.{ANY, INPUT}
use Rattle.elf_model.specs.Objects.{ObjectParts, is_object}
use Rattle.elf_model.proofs.OneObject.{only_one_object}
use Rattle.thumb_table.specs.declared.placements.Placement.{Placement}
use Rattle.thumb_table.specs.LinkFaults.{IsLinkRefusal}
use Rattle.elf_read.specs.Faults.{IsFaultless}
use Rattle.guard_cli.specs.Inputs.{IsReadAs, AreReadAs, IsReadRefusal}
use Rattle.guard_cli.specs.HardenWork.{AreHardenable, IsHardenInputRefusal}
use Rattle.guard_cli.specs.LinkWork.{AreOf, IsLinkInputRefusal, HaveImage}
use Rattle.guard_cli.specs.ListWork.{IsListRefusal, IsReadable}

-- Files of these objects are of no others.
same_read : (l : Limit) (files : List (List ℕ)) (a b : List ObjectParts) → AreReadAs l files a → AreReadAs l files b → a ≡ b
same_read l [] [] [] h k = refl
same_read l [] [] (p ∷ b) h k = absurd k
same_read l [] (o ∷ a) b h k = absurd h
same_read l (f ∷ files) [] b h k = absurd h
same_read l (f ∷ files) (o ∷ a) [] h k = absurd k
same_read l (f ∷ files) (o ∷ a) (p ∷ b) (h, hs) (k, ks) =
    let first : o ≡ p = only_one_object f o p h.stands k.stands in
    let rest : a ≡ b = same_read l files a b hs ks in
    cc

pub same_objects : (files : List (List ℕ)) (a b : List ObjectParts) → AreOf files a → AreOf files b → a ≡ b
same_objects files a b x y = same_read ANY files a b x y

-- what holds of each file that is read
pub each_read : (l : Limit) (P : List ℕ → Type 0) → ((f : List ℕ) (o : ObjectParts) → IsReadAs l f o → P f) → (files : List (List ℕ)) (objects : List ObjectParts) → AreReadAs l files objects → All P files
each_read l P one [] objects h = All-nil P
each_read l P one (f ∷ files) [] h = absurd h
each_read l P one (f ∷ files) (o ∷ objects) (h, hs) = All-cons P f files (one f o h) (each_read l P one files objects hs)

pub at_middle : {X : Type 0} (P : X → Type 0) (earlier : List X) (x : X) (later : List X) → All P (earlier ++ x ∷ later) → P x
at_middle P [] x later all = All-head P x later all
at_middle P (y ∷ earlier) x later all = at_middle P earlier x later (All-tail P y (earlier ++ x ∷ later) all)

-- Files that are read are not refused as they are read.
read_is_accepted : (l : Limit) (files : List (List ℕ)) (objects : List ObjectParts) (spot : Spot) → AreReadAs l files objects → IsReadRefusal l files spot → ⊥
read_is_accepted l files objects spot are (inl long) =
    let all = subst (All (λ (f : List ℕ). length f ≤ l.file)) long.files_are (each_read l (λ f. length f ≤ l.file) (λ f o h. h.short) files objects are) in
    let short = at_middle (λ (f : List ℕ). length f ≤ l.file) long.earlier long.file long.later all in
    let above = long.long in
    omega arith
read_is_accepted l files objects spot are (inr faulty) =
    let all = subst (All (λ (f : List ℕ). IsFaultless f l)) faulty.files_are (each_read l (λ f. IsFaultless f l) (λ f o h. h.faultless) files objects are) in
    at_middle (λ (f : List ℕ). IsFaultless f l) faulty.earlier faulty.file faulty.later all faulty.fault.refusal faulty.fault.section faulty.fault.offset faulty.first.fault

-- and are objects
pub are_objects : (l : Limit) (files : List (List ℕ)) (objects : List ObjectParts) → AreReadAs l files objects → list_all is_object objects ≡ true
are_objects l [] [] h = refl
are_objects l [] (o ∷ objects) h = absurd h
are_objects l (f ∷ files) [] h = absurd h
are_objects l (f ∷ files) (o ∷ objects) (h, hs) = and_from _ _ h.stands.sound (are_objects l files objects hs)

-- Inputs whose objects have an image are not refused.
pub image_is_accepted : (at : Placement) (files : List (List ℕ)) (spot : Spot) → HaveImage at files → IsLinkInputRefusal at files spot → ⊥
image_is_accepted at files spot (objects, image, are, linked) (inl read) = read_is_accepted ANY files objects spot are read
image_is_accepted at files spot (objects, image, are, linked) (inr (others, its, refusal)) =
    let same = same_objects files others objects its are in
    let here : IsLinkRefusal objects at spot = subst (λ (os : List ObjectParts). IsLinkRefusal os at spot) same refusal in
    linked.can.sound spot here.fault

-- Inputs none of whose objects is refused are not refused.
pub hardenable_is_accepted : (files : List (List ℕ)) (spot : Spot) → AreHardenable files → IsHardenInputRefusal files spot → ⊥
hardenable_is_accepted files spot (objects, are, none) (inl read) = read_is_accepted INPUT files objects spot are read
hardenable_is_accepted files spot (objects, are, none) (inr (others, its, refusal)) =
    let same : others ≡ objects = same_read INPUT files others objects its are in
    none spot.file refusal.object refusal.own (subst (λ (os : List ObjectParts). slice_get os spot.file ≡ Some refusal.object) same refusal.there) refusal.refused

-- A file that is read is not refused.
pub readable_is_accepted : (file : List ℕ) (spot : Spot) → IsReadable file → IsListRefusal file spot → ⊥
readable_is_accepted file spot (o, read) (inl long) =
    let short = read.short in
    let above = long.1 in
    omega arith
readable_is_accepted file spot (o, read) (inr (short, first)) = read.faultless spot.refusal spot.section spot.offset first.fault
