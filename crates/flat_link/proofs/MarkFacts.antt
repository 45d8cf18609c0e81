-- The marks of the code are those of its relocations, and rise.
use Rattle.std.proofs.Common.{◌≡◌, ◌≤◌, ◌<◌, ℕ, zero, suc, ◌+◌, Bool, true, false, cond, List, [], ◌∷◌, ◌++◌, map, refl, sym, ap, ◌∙◌, subst, inl, inr, arith, Option, Some, None}
use Rattle.std.specs.Prelude.{Contains, ◌&&◌, slice_index}
use Rattle.std.specs.List.Sorted.{IsStrictlyIncreasing}
use Rattle.std.specs.Option.{option_to_list}
use Rattle.std.proofs.lemmas.Bool.{and_parts, and_from, true≢false}
use Rattle.std.proofs.lemmas.Option.{none-some, same_Some}
use Rattle.std.proofs.lemmas.List.Elements.{Contains-append_right}
use Rattle.elf_model.specs.declared.objects.RelocKind.{RelocKind}
use Rattle.elf_model.specs.Objects.{ObjectParts, is_code, place_width}
use Rattle.elf_model.proofs.Elements.{contains_cases, contains_here, contains_later, contains_none}
use Rattle.mark_word.specs.declared.marks.Mark.{Mark}
use Rattle.mark_word.specs.declared.marks.Mark.TheVariants.{Plain, Entry, Return, Low}
use Rattle.mark_word.specs.Words.{is_marked}
use Rattle.thumb_table.specs.declared.placements.Placement.{Placement}
use Rattle.thumb_table.specs.declared.parts.PlaceMark.{PlaceMark}
use Rattle.thumb_table.specs.Layouts.{Placed, all_placed}
use Rattle.thumb_table.specs.Links.{Link, place_of, mark_of}
use Rattle.thumb_table.specs.Images.{IsMarked}
use Rattle.flat_link.specs.Layout.{Stands}
use Rattle.flat_link.specs.Marks.{mark_at, marks_among}
use Rattle.flat_link.specs.Sites.{all_links}
use Rattle.flat_link.specs.Ties.{IsTied}
use Rattle.flat_link.proofs.ListFacts.{InOrder, none, before}
use Rattle.flat_link.proofs.SiteFacts.{LinkBefore, links_order, link_is, link_there}
use Rattle.flat_link.proofs.TieFacts.{code_behind}

record Marks (parts : List Placed) (k : Link) (m : PlaceMark) : Type 0 where
  pub code : is_code k.part.section ≡ true
  pub place : m.at ≡ place_of k
  pub mark : m.mark ≡ mark_of parts k
  pub marked : m.mark ≡ Plain → ⊥

plain_not : (m : Mark) → is_marked m ≡ true → m ≡ Plain → ⊥
plain_not m e f = true≢false (sym e ∙ ap is_marked f)

not_plain : (m : Mark) → (m ≡ Plain → ⊥) → is_marked m ≡ true
not_plain Plain h = absurd (h refl)
not_plain (Entry a) h = refl
not_plain (Return a) h = refl
not_plain (Low a) h = refl

marks_is : (parts : List Placed) (k : Link) (m : PlaceMark) → mark_at parts k ≡ Some m → Marks parts k m
unfolding mark_at
marks_is parts k m e = go (is_code k.part.section && is_marked (mark_of parts k)) refl e
  where
    go : (b : Bool) → (is_code k.part.section && is_marked (mark_of parts k)) ≡ b → cond b (Some (record { at = place_of k; mark = mark_of parts k })) None ≡ Some m → Marks parts k m
    go true t e =
        let both = and_parts (is_code k.part.section) (is_marked (mark_of parts k)) t in
        let first : PlaceMark = record { at = place_of k; mark = mark_of parts k } in
        subst (Marks parts k) (same_Some first m e) (record { code = both.0; place = refl; mark = refl; marked = plain_not (mark_of parts k) both.1 })
    go false t e = absurd (none-some m e)

marks_has : (parts : List Placed) (k : Link) (m : PlaceMark) → Marks parts k m → mark_at parts k ≡ Some m
unfolding mark_at
marks_has parts k m h =
    let marked : is_marked (mark_of parts k) ≡ true = not_plain (mark_of parts k) (λ e. h.marked (h.mark ∙ e)) in
    ap (λ (b : Bool). cond b (Some (record { at = place_of k; mark = mark_of parts k })) None) (and_from (is_code k.part.section) (is_marked (mark_of parts k)) h.code marked)
    ∙ ap (λ (a : ℕ). Some (record { at = a; mark = mark_of parts k })) (sym h.place) ∙ ap (λ (n : Mark). Some (record { at = m.at; mark = n })) (sym h.mark)

among_is : (parts : List Placed) (ks : List Link) (m : PlaceMark) → Contains (marks_among parts ks) m → (k : Link) × Contains ks k × Marks parts k m
among_is parts [] m c = absurd (contains_none m c)
among_is parts (k ∷ ks) m c = go (mark_at parts k) refl c (among_is parts ks m)
  where
    go : (o : Option PlaceMark) → mark_at parts k ≡ o → Contains (option_to_list o ++ marks_among parts ks) m → (Contains (marks_among parts ks) m → (j : Link) × Contains ks j × Marks parts j m) → (j : Link) × Contains (k ∷ ks) j × Marks parts j m
    go None e c more = let h = more c in (h.0, contains_later k ks h.0 h.1, h.2)
    go (Some n) e c more =
        elim (contains_cases n (marks_among parts ks) m c) [
          | inl same ↦ (k, contains_here k ks, marks_is parts k m (e ∙ ap (λ (z : PlaceMark). Some z) same))
          | inr r ↦ let h = more r in (h.0, contains_later k ks h.0 h.1, h.2)
        ]

among_has : (parts : List Placed) (ks : List Link) (k : Link) (m : PlaceMark) → Contains ks k → mark_at parts k ≡ Some m → Contains (marks_among parts ks) m
among_has parts [] k m c e = absurd (contains_none k c)
among_has parts (j ∷ ks) k m c e =
    elim (contains_cases j ks k c) [
      | inl same ↦ subst (λ (o : Option PlaceMark). Contains (option_to_list o ++ marks_among parts ks) m) (sym (ap (mark_at parts) same ∙ e)) (contains_here m (marks_among parts ks))
      | inr r ↦ Contains-append_right (option_to_list (mark_at parts j)) (marks_among parts ks) m (among_has parts ks k m r e)
    ]

abbrev pub MarkBefore : PlaceMark → PlaceMark → Type 0
MarkBefore a b = a.at < b.at

wide : (k : RelocKind) → 2 ≤ place_width k
wide k = go (_)
  where
    go : (b : Bool) → 2 ≤ cond b 2 4
    go true = omega arith
    go false = omega arith

among_rise : (objects : List ObjectParts) (at : Placement) → Stands objects at → (ks : List Link) → ((k : Link) → Contains ks k → IsTied objects at k) → InOrder LinkBefore ks → InOrder MarkBefore (marks_among (all_placed objects at) ks)
among_rise objects at is _ ties none = none
among_rise objects at is _ ties (before k ks h more) = go (mark_at (all_placed objects at) k) refl (among_rise objects at is ks (λ j c. ties j (contains_later k ks j c)) more)
  where
    go : (o : Option PlaceMark) → mark_at (all_placed objects at) k ≡ o → InOrder MarkBefore (marks_among (all_placed objects at) ks) → InOrder MarkBefore (option_to_list o ++ marks_among (all_placed objects at) ks)
    go None e rest = rest
    go (Some m) e rest =
        before m (marks_among (all_placed objects at) ks) (λ n c.
        let q = among_is (all_placed objects at) ks n c in
        let a = marks_is (all_placed objects at) k m e in
        let b = q.2 in
        let apart = code_behind objects at is k q.0 (ties k (contains_here k ks)) (ties q.0 (contains_later k ks q.0 q.1)) (h q.0 q.1) a.code b.code in
        let x = a.place in
        let y = b.place in
        let w = wide k.reloc.kind in
        omega arith) rest

rising : (ms : List PlaceMark) → InOrder MarkBefore ms → IsStrictlyIncreasing (map (λ (m : PlaceMark). m.at) ms)
rising _ none k less = absurd (omega arith)
rising _ (before m [] h more) k less = absurd (omega arith)
rising _ (before m (n ∷ ms) h more) zero less = h n (contains_here n ms)
rising _ (before m (n ∷ ms) h more) (suc k) less =
    let ats : List ℕ = map (λ (m : PlaceMark). m.at) (m ∷ n ∷ ms) in
    let e : suc k + 1 ≡ suc (k + 1) = omega arith in
    subst (λ (i : ℕ). slice_index ats (suc k) < slice_index ats i) (sym e) (rising (n ∷ ms) more k (omega arith))

pub are_marked : (objects : List ObjectParts) (at : Placement) → Stands objects at → ((k : Link) → Contains (all_links objects at) k → IsTied objects at k) → (marks : List PlaceMark) → marks ≡ marks_among (all_placed objects at) (all_links objects at) → IsMarked objects at marks
are_marked objects at is ties marks e =
    let all = all_links objects at in
    subst (IsMarked objects at) (sym e) (record {
      exact = λ m. (
        λ c. let q = among_is (all_placed objects at) all m c in
            let h = q.2 in
            record { link = q.0; is_link = link_is objects at q.0 q.1; code = h.code; place = h.place; mark = h.mark; marked = h.marked },
        λ h. among_has (all_placed objects at) all h.link m (link_there objects at h.link h.is_link) (marks_has (all_placed objects at) h.link m (record { code = h.code; place = h.place; mark = h.mark; marked = h.marked })),
      );
      rise = rising (marks_among (all_placed objects at) all) (among_rise objects at is all ties (links_order objects at));
    })
