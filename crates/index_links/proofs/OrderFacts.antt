-- A unit that is put between others keeps the order.
use Rattle.std.proofs.Common.{◌≡◌, ◌≢◌, ◌+◌, ◌<◌, ◌≤◌, ℕ, zero, suc, List, [], ◌∷◌, ◌++◌, refl, sym, ap, ◌∙◌, subst, inl, inr, Option, Some, None, length, length-append, append_assoc, arith}
use Rattle.std.specs.Prelude.{slice_get, Contains, ◌==◌}
use Rattle.std.proofs.Math.ListN.{set, take}
use Rattle.std.proofs.lemmas.Bool.{cases_eq, cases_lt}
use Rattle.std.proofs.lemmas.List.{length_push, length-set, take_at, append-nil}
use Rattle.std.proofs.lemmas.List.Elements.{Contains-append_left, Contains-append_right}
use Rattle.std.proofs.lemmas.List.Sums.{sum_by-append}
use Rattle.std.proofs.lemmas.Option.{none-some, same_Some, slice_get_within}
use Rattle.index_links.specs.Queues.{times}
use Rattle.index_links.specs.Orders.{joined, walk, AreLinked, IsOrder, written, end_with, last_of, first_of, IsBetween}
use Rattle.index_links.proofs.Places.{push_new, set_there, set_other}
use Rattle.index_links.proofs.QueueFacts.{one_if, one_at, none_at, times_step, times_some, stands}

-- the walk over links goes along the list that they link
pub walked : (befores afters : List (Option ℕ)) (before first : Option ℕ) (xs : List ℕ) (last : Option ℕ) → AreLinked befores afters before first xs last None → walk afters first (length xs) ≡ xs
walked befores afters before first [] last linked = refl
walked befores afters before first (u ∷ xs) last (at, back, next, on, rest) =
    ap (λ (o : Option ℕ). walk afters o (suc (length xs))) at
    ∙ ap (λ (o : Option (Option ℕ)). u ∷ walk afters (joined o) (length xs)) on
    ∙ ap (λ (l : List ℕ). u ∷ l) (walked befores afters (Some u) next xs last rest)

pub first_is : (befores afters : List (Option ℕ)) (before first : Option ℕ) (xs : List ℕ) (last after : Option ℕ) → AreLinked befores afters before first xs last after → first ≡ first_of xs after
first_is befores afters before first [] last after linked = linked.0
first_is befores afters before first (u ∷ xs) last after linked = linked.0

pub last_is : (befores afters : List (Option ℕ)) (before first : Option ℕ) (xs : List ℕ) (last after : Option ℕ) → AreLinked befores afters before first xs last after → last ≡ last_of before xs
last_is befores afters before first [] last after linked = linked.1
last_is befores afters before first (u ∷ xs) last after (at, back, next, on, rest) = last_is befores afters (Some u) next xs last after rest

-- two lists one behind the other
module _ (befores afters : List (Option ℕ)) where
  pub split : (before first : Option ℕ) (front back : List ℕ) (last after : Option ℕ) → AreLinked befores afters before first (front ++ back) last after → AreLinked befores afters before first front (last_of before front) (first_of back after) × AreLinked befores afters (last_of before front) (first_of back after) back last after
  split before first [] back last after linked =
      let is = first_is befores afters before first back last after linked in
      ((is, refl), subst (λ (o : Option ℕ). AreLinked befores afters before o back last after) is linked)
  split before first (u ∷ front) back last after (at, behind, next, on, rest) =
      let both = split (Some u) next front back last after rest in
      ((at, behind, next, on, both.0), both.1)

  pub join : (before first : Option ℕ) (front : List ℕ) (middle next : Option ℕ) (back : List ℕ) (last after : Option ℕ) → AreLinked befores afters before first front middle next → AreLinked befores afters middle next back last after → AreLinked befores afters before first (front ++ back) last after
  join before first [] middle next back last after (at, is) linked =
      subst (λ (o : Option ℕ). AreLinked befores afters o first back last after) is (subst (λ (o : Option ℕ). AreLinked befores afters middle o back last after) (sym at) linked)
  join before first (u ∷ front) middle next back last after (at, behind, on, there, rest) linked = (at, behind, on, there, join (Some u) on front middle next back last after rest linked)

  -- each unit of a linked list has links
  pub has_links : (before first : Option ℕ) (xs : List ℕ) (last after : Option ℕ) → AreLinked befores afters before first xs last after → (u : ℕ) → Contains xs u → u < length befores
  has_links before first [] last after linked u (k, low, at) = absurd (omega arith)
  has_links before first (v ∷ xs) last after (at, behind, next, on, rest) u (zero, low, same) = subst (λ (n : ℕ). n < length befores) same (slice_get_within befores v before behind)
  has_links before first (v ∷ xs) last after (at, behind, next, on, rest) u (suc k, low, same) = has_links (Some v) next xs last after rest u (k, omega arith, same)

-- links that are written where a list has no unit
here : (u : ℕ) (xs : List ℕ) → Contains (u ∷ xs) u
here u xs = (zero, omega arith, refl)

later : (v : ℕ) (xs : List ℕ) (u : ℕ) → Contains xs u → Contains (v ∷ xs) u
later v xs u (k, low, at) = (suc k, omega arith, at)

twice : (u : ℕ) (xs : List ℕ) → times u (u ∷ xs) ≤ 1 → Contains xs u → ⊥
twice u xs once c = let a = times_step u u xs in let b = one_at u u refl in let d = times_some xs u c in absurd (omega arith)

rest_once : (u : ℕ) (xs : List ℕ) → ((v : ℕ) → times v (u ∷ xs) ≤ 1) → (v : ℕ) → times v xs ≤ 1
rest_once u xs once v = let a = once v in let b = times_step v u xs in omega arith

last_in : (v : ℕ) (xs : List ℕ) (u : ℕ) → last_of (Some v) xs ≡ Some u → Contains (v ∷ xs) u
last_in v [] u e = (zero, omega arith, same_Some v u e)
last_in v (w ∷ xs) u e = later v (w ∷ xs) u (last_in w xs u e)

last_in_list : (xs : List ℕ) (u : ℕ) → last_of None xs ≡ Some u → Contains xs u
last_in_list [] u e = absurd (none-some u e)
last_in_list (v ∷ xs) u e = last_in v xs u e

first_in_list : (xs : List ℕ) (u : ℕ) → first_of xs None ≡ Some u → Contains xs u
first_in_list [] u e = absurd (none-some u e)
first_in_list (v ∷ xs) u e = (zero, omega arith, same_Some v u e)

last_some : (v : ℕ) (xs : List ℕ) → (w : ℕ) × (last_of (Some v) xs ≡ Some w)
last_some v [] = (v, refl)
last_some v (w ∷ xs) = last_some w xs

module _ (befores afters befores2 afters2 : List (Option ℕ)) where
  pub alike : (before first : Option ℕ) (xs : List ℕ) (last after : Option ℕ) → ((u : ℕ) → Contains xs u → slice_get befores2 u ≡ slice_get befores u) → ((u : ℕ) → Contains xs u → slice_get afters2 u ≡ slice_get afters u) → AreLinked befores afters before first xs last after → AreLinked befores2 afters2 before first xs last after
  alike before first [] last after same_b same_a linked = linked
  alike before first (u ∷ xs) last after same_b same_a (at, behind, next, on, rest) =
      (at, same_b u (here u xs) ∙ behind, next, same_a u (here u xs) ∙ on, alike (Some u) next xs last after (λ v c. same_b v (later u xs v c)) (λ v c. same_a v (later u xs v c)) rest)

  -- the last one of a list leads to a new unit
  pub to_new : (n : ℕ) (before first : Option ℕ) (xs : List ℕ) (last after : Option ℕ) → ((u : ℕ) → times u xs ≤ 1) → ((u : ℕ) → Contains xs u → slice_get befores2 u ≡ slice_get befores u) → ((u : ℕ) → Contains xs u → last ≢ Some u → slice_get afters2 u ≡ slice_get afters u) → ((u : ℕ) → last ≡ Some u → slice_get afters2 u ≡ Some (Some n)) → AreLinked befores afters before first xs last after → AreLinked befores2 afters2 before (first_of xs (Some n)) xs last (Some n)
  to_new n before first [] last after once same_b same_a new linked = (refl, linked.1)
  to_new n before first (u ∷ []) last after once same_b same_a new (at, behind, next, on, rest) = (refl, same_b u (here u []) ∙ behind, Some n, new u rest.1, (refl, rest.1))
  to_new n before first (u ∷ (v ∷ xs)) last after once same_b same_a new (at, behind, next, on, rest) =
      let not_last : last ≢ Some u = λ e. twice u (v ∷ xs) (once u) (last_in v xs u (sym (last_is befores afters (Some u) next (v ∷ xs) last after rest) ∙ e)) in (
        refl,
        same_b u (here u (v ∷ xs)) ∙ behind,
        Some v,
        same_a u (here u (v ∷ xs)) not_last ∙ on ∙ ap (λ (o : Option ℕ). Some o) rest.0,
        to_new n (Some u) next (v ∷ xs) last after (rest_once u (v ∷ xs) once) (λ w c. same_b w (later u (v ∷ xs) w c)) (λ w c ne. same_a w (later u (v ∷ xs) w c) ne) new rest,
      )

  -- the first one of a list comes behind a new unit
  pub from_new : (n : ℕ) (before first : Option ℕ) (xs : List ℕ) (last after : Option ℕ) → ((u : ℕ) → times u xs ≤ 1) → ((u : ℕ) → Contains xs u → first ≢ Some u → slice_get befores2 u ≡ slice_get befores u) → ((u : ℕ) → first ≡ Some u → slice_get befores2 u ≡ Some (Some n)) → ((u : ℕ) → Contains xs u → slice_get afters2 u ≡ slice_get afters u) → AreLinked befores afters before first xs last after → AreLinked befores2 afters2 (Some n) first xs (last_of (Some n) xs) after
  from_new n before first [] last after once same_b new same_a linked = (linked.0, refl)
  from_new n before first (w ∷ xs) last after once same_b new same_a (at, behind, next, on, rest) =
      let not_first : (v : ℕ) → Contains xs v → first ≢ Some v = λ v c e. twice w xs (once w) (subst (λ (m : ℕ). Contains xs m) (sym (same_Some w v (sym at ∙ e))) c) in
      let more : AreLinked befores2 afters2 (Some w) next xs last after = alike (Some w) next xs last after (λ v c. same_b v (later w xs v c) (not_first v c)) (λ v c. same_a v (later w xs v c)) rest in
      (at, new w at, next, same_a w (here w xs) ∙ on, subst (λ (o : Option ℕ). AreLinked befores2 afters2 (Some w) next xs o after) (last_is befores afters (Some w) next xs last after rest) more)

-- what stands at a place of a list that got one more element, and then was written
pushed_at : {X : Type 0} (xs : List X) (y : X) (k : ℕ) → k < length xs → slice_get (xs ++ y ∷ []) k ≡ slice_get xs k
pushed_at [] y k low = absurd (omega arith)
pushed_at (x ∷ xs) y zero low = refl
pushed_at (x ∷ xs) y (suc k) low = pushed_at xs y k (omega arith)

module _ (links : List (Option ℕ)) (link : Option ℕ) (n : ℕ) (long : length links ≡ n) where
  written_other : (at : Option ℕ) (u : ℕ) → u < n → at ≢ Some u → slice_get (written (links ++ link ∷ []) at n) u ≡ slice_get links u
  written_other None u low ne = pushed_at links link u (omega arith)
  written_other (Some w) u low ne = set_other (links ++ link ∷ []) w u (Some n) (λ e. ne (ap (λ (m : ℕ). Some m) (sym e))) ∙ pushed_at links link u (omega arith)

  written_there : (at : Option ℕ) (u : ℕ) → u < n → at ≡ Some u → slice_get (written (links ++ link ∷ []) at n) u ≡ Some (Some n)
  written_there None u low e = absurd (none-some u e)
  written_there (Some w) u low e = let same : w ≡ u = same_Some w u e in let more = length_push links link in ap (λ (m : ℕ). slice_get (set (links ++ link ∷ []) w (Some n)) m) (sym same) ∙ set_there (links ++ link ∷ []) w (Some n) (omega arith)

  written_new : (at : Option ℕ) → ((u : ℕ) → at ≡ Some u → u < n) → slice_get (written (links ++ link ∷ []) at n) n ≡ Some link
  written_new None small = subst (λ (m : ℕ). slice_get (links ++ link ∷ []) m ≡ Some link) long (push_new links link)
  written_new (Some w) small = let low = small w refl in set_other (links ++ link ∷ []) w n (Some n) (λ e. absurd (omega arith)) ∙ subst (λ (m : ℕ). slice_get (links ++ link ∷ []) m ≡ Some link) long (push_new links link)

  length_written : (at : Option ℕ) → length (written (links ++ link ∷ []) at n) ≡ n + 1
  length_written None = length_push links link ∙ ap (λ (m : ℕ). m + 1) long
  length_written (Some w) = length-set (links ++ link ∷ []) w (Some n) ∙ length_push links link ∙ ap (λ (m : ℕ). m + 1) long

-- a unit between two lists
module _ (befores afters : List (Option ℕ)) (first last : Option ℕ) (front back : List ℕ) (is : IsOrder befores afters first last (front ++ back)) where
  abbrev count : ℕ
  count = length afters

  abbrev before : Option ℕ
  before = last_of None front

  abbrev after : Option ℕ
  after = first_of back None

  times_both : (u : ℕ) → times u (front ++ back) ≡ times u front + times u back
  times_both u = sum_by-append (λ (j : ℕ). one_if (j == u)) front back

  small : (u : ℕ) → Contains (front ++ back) u → u < count
  small u c = let low = has_links befores afters None first (front ++ back) last None is.linked u c in let same = is.paired in omega arith

  at_most_once : (u : ℕ) → times u (front ++ back) ≤ 1
  at_most_once u = elim (cases_lt u count) [
    | inl low ↦ let e = is.once u low in omega arith
    | inr high ↦ elim (cases_lt 0 (times u (front ++ back))) [
      | inl some ↦ let low = small u (stands (front ++ back) u some) in absurd (omega arith)
      | inr none ↦ omega arith
    ]
  ]

  front_once : (u : ℕ) → times u front ≤ 1
  front_once u = let a = at_most_once u in let b = times_both u in omega arith

  back_once : (u : ℕ) → times u back ≤ 1
  back_once u = let a = at_most_once u in let b = times_both u in omega arith

  in_front : (u : ℕ) → Contains front u → u < count
  in_front u c = small u (Contains-append_left front back u c)

  in_back : (u : ℕ) → Contains back u → u < count
  in_back u c = small u (Contains-append_right front back u c)

  -- no unit of one list is in the other
  apart : (u : ℕ) → Contains front u → Contains back u → ⊥
  apart u c d = let a = at_most_once u in let b = times_both u in let e = times_some front u c in let g = times_some back u d in absurd (omega arith)

  before_in : (u : ℕ) → before ≡ Some u → Contains front u
  before_in u e = last_in_list front u e

  after_in : (u : ℕ) → after ≡ Some u → Contains back u
  after_in u e = first_in_list back u e

  parts : AreLinked befores afters None first front before after × AreLinked befores afters before after back last None
  parts = split befores afters None first front back last None is.linked

  abbrev befores2 : List (Option ℕ)
  befores2 = written (befores ++ before ∷ []) after count

  abbrev afters2 : List (Option ℕ)
  afters2 = written (afters ++ after ∷ []) before count

  linked_front : AreLinked befores2 afters2 None (first_of front (Some count)) front before (Some count)
  linked_front = to_new befores afters befores2 afters2 count None first front before after front_once
      (λ u c. written_other befores before count is.paired after u (in_front u c) (λ e. apart u c (after_in u e)))
      (λ u c ne. written_other afters after count refl before u (in_front u c) ne)
      (λ u e. written_there afters after count refl before u (in_front u (before_in u e)) e)
      parts.0

  linked_back : AreLinked befores2 afters2 (Some count) after back (last_of (Some count) back) None
  linked_back = from_new befores afters befores2 afters2 count before after back last None back_once
      (λ u c ne. written_other befores before count is.paired after u (in_back u c) ne)
      (λ u e. written_there befores before count is.paired after u (in_back u (after_in u e)) e)
      (λ u c. written_other afters after count refl before u (in_back u c) (λ e. apart u (before_in u e) c))
      parts.1

  linked_new : AreLinked befores2 afters2 before (Some count) (count ∷ back) (last_of (Some count) back) None
  linked_new = (refl, written_new befores before count is.paired after (λ u e. in_back u (after_in u e)), after, written_new afters after count refl before (λ u e. in_front u (before_in u e)), linked_back)

  linked_all : AreLinked befores2 afters2 None (first_of front (Some count)) (front ++ count ∷ back) (last_of (Some count) back) None
  linked_all = join befores2 afters2 None (first_of front (Some count)) front before (Some count) (count ∷ back) (last_of (Some count) back) None linked_front linked_new

  first2 : end_with first before count ≡ first_of front (Some count)
  first2 = go front refl
    where
      go : (xs : List ℕ) → front ≡ xs → end_with first (last_of None xs) count ≡ first_of xs (Some count)
      go [] e = refl
      go (u ∷ xs) e = kept (last_of (Some u) xs) (last_some u xs) ∙ first_is befores afters None first (front ++ back) last None is.linked ∙ ap (λ (l : List ℕ). first_of (l ++ back) None) e
        where
          kept : (o : Option ℕ) → (w : ℕ) × (o ≡ Some w) → end_with first o count ≡ first
          kept None (w, at) = absurd (none-some w at)
          kept (Some v) at = refl

  last2 : end_with last after count ≡ last_of (Some count) back
  last2 = go back refl
    where
      go : (xs : List ℕ) → back ≡ xs → end_with last (first_of xs None) count ≡ last_of (Some count) xs
      go [] e = refl
      go (w ∷ xs) e = last_is befores afters before after back last None parts.1 ∙ ap (λ (l : List ℕ). last_of before l) e

  pub between : IsOrder befores2 afters2 (end_with first before count) (end_with last after count) (front ++ count ∷ back)
  between = record {
    paired = length_written befores before count is.paired after ∙ sym (length_written afters after count refl before);
    long = let a = is.long in let b = length-append front back in let d = length-append front (count ∷ back) in let e = length_written afters after count refl before in omega arith;
    once = λ u low. let e = length_written afters after count refl before in let d : times u (front ++ count ∷ back) ≡ times u front + times u (count ∷ back) = sum_by-append (λ (j : ℕ). one_if (j == u)) front (count ∷ back) in let g = times_step u count back in let b = times_both u in elim (cases_eq count u) [
      | inl same ↦ let one = one_at count u same in let none = out u same in omega arith
      | inr ne ↦ let zero_more = none_at count u ne in let was = is.once u (omega arith) in omega arith
    ];
    linked = subst (λ (o : Option ℕ). AreLinked befores2 afters2 None (end_with first before count) (front ++ count ∷ back) o None) (sym last2) (subst (λ (o : Option ℕ). AreLinked befores2 afters2 None o (front ++ count ∷ back) (last_of (Some count) back) None) (sym first2) linked_all);
  }
    where
      out : (u : ℕ) → count ≡ u → times u (front ++ back) ≡ 0
      out u same = elim (cases_lt 0 (times u (front ++ back))) [
        | inl some ↦ let low = small u (stands (front ++ back) u some) in absurd (omega arith)
        | inr none ↦ omega arith
      ]

-- an order by equal links
order_as : (befores befores2 afters afters2 : List (Option ℕ)) (first first2 last last2 : Option ℕ) (xs xs2 : List ℕ) → befores2 ≡ befores → afters2 ≡ afters → first2 ≡ first → last2 ≡ last → xs2 ≡ xs → IsOrder befores afters first last xs → IsOrder befores2 afters2 first2 last2 xs2
order_as befores befores2 afters afters2 first first2 last last2 xs xs2 b a f l x is =
    let by_b : IsOrder befores2 afters first last xs = subst (λ (o : List (Option ℕ)). IsOrder o afters first last xs) (sym b) is in
    let by_a : IsOrder befores2 afters2 first last xs = subst (λ (o : List (Option ℕ)). IsOrder befores2 o first last xs) (sym a) by_b in
    let by_f : IsOrder befores2 afters2 first2 last xs = subst (λ (o : Option ℕ). IsOrder befores2 afters2 o last xs) (sym f) by_a in
    let by_l : IsOrder befores2 afters2 first2 last2 xs = subst (λ (o : Option ℕ). IsOrder befores2 afters2 first2 o xs) (sym l) by_f in
    subst (λ (o : List ℕ). IsOrder befores2 afters2 first2 last2 o) (sym x) by_l

pub walk_is : (befores afters : List (Option ℕ)) (first last : Option ℕ) (xs : List ℕ) → IsOrder befores afters first last xs → walk afters first (length afters) ≡ xs
walk_is befores afters first last xs is = ap (λ (n : ℕ). walk afters first n) (sym is.long) ∙ walked befores afters None first xs last is.linked

pub by_walk : (befores afters : List (Option ℕ)) (first last : Option ℕ) (xs : List ℕ) → IsOrder befores afters first last xs → IsOrder befores afters first last (walk afters first (length afters))
by_walk befores afters first last xs is = subst (λ (l : List ℕ). IsOrder befores afters first last l) (sym (walk_is befores afters first last xs is)) is

-- links that were pushed, lent and written
lent : (links pushed slice new rest : List (Option ℕ)) (link at : Option ℕ) (unit count n : ℕ) → length links ≡ count → pushed ≡ links ++ link ∷ [] → slice ≡ pushed → new ≡ written slice at unit → unit ≡ count → n ≡ length slice → take n (new ++ rest) ≡ written (links ++ link ∷ []) at count
lent links pushed slice new rest link at unit count n long pushed_is slice_is new_is unit_is n_is =
    let all : new ≡ written (links ++ link ∷ []) at count = new_is ∙ ap (λ (l : List (Option ℕ)). written l at unit) (slice_is ∙ pushed_is) ∙ ap (λ (u : ℕ). written (links ++ link ∷ []) at u) unit_is in
    let size : length new ≡ n = ap (λ (l : List (Option ℕ)). length l) all ∙ length_written links link count long at ∙ sym (ap (λ (m : ℕ). m + 1) long) ∙ sym (length_push links link) ∙ sym (ap (λ (l : List (Option ℕ)). length l) (slice_is ∙ pushed_is)) ∙ sym n_is in
    take_at new rest n size ∙ all

module _ (befores afters : List (Option ℕ)) (first last : Option ℕ) (order : List ℕ) (is : IsOrder befores afters first last order) (before after : Option ℕ) (front back : List ℕ) (parts : order ≡ front ++ back) (before_is : before ≡ last_of None front) (after_is : after ≡ first_of back None) where
  pub between_as : (pushed_b slice_b new_b rest_b pushed_a slice_a new_a rest_a : List (Option ℕ)) (begin end : Option ℕ) (unit m n : ℕ) → unit ≡ length afters → pushed_b ≡ befores ++ before ∷ [] → slice_b ≡ pushed_b → new_b ≡ written slice_b after unit → m ≡ length slice_b → pushed_a ≡ afters ++ after ∷ [] → slice_a ≡ pushed_a → new_a ≡ written slice_a before unit → n ≡ length slice_a → begin ≡ end_with first before unit → end ≡ end_with last after unit → IsOrder (take m (new_b ++ rest_b)) (take n (new_a ++ rest_a)) begin end (front ++ unit ∷ back)
  between_as pushed_b slice_b new_b rest_b pushed_a slice_a new_a rest_a begin end unit m n unit_is b1 b2 b3 b4 a1 a2 a3 a4 f l =
      order_as _ _ _ _ _ _ _ _ _ _
      (lent befores pushed_b slice_b new_b rest_b before after unit (length afters) m is.paired b1 b2 b3 unit_is b4 ∙ ap (λ (o : Option ℕ). written (befores ++ o ∷ []) after (length afters)) before_is ∙ ap (λ (o : Option ℕ). written (befores ++ last_of None front ∷ []) o (length afters)) after_is)
      (lent afters pushed_a slice_a new_a rest_a after before unit (length afters) n refl a1 a2 a3 unit_is a4 ∙ ap (λ (o : Option ℕ). written (afters ++ o ∷ []) before (length afters)) after_is ∙ ap (λ (o : Option ℕ). written (afters ++ first_of back None ∷ []) o (length afters)) before_is)
      (f ∙ ap (λ (u : ℕ). end_with first before u) unit_is ∙ ap (λ (o : Option ℕ). end_with first o (length afters)) before_is)
      (l ∙ ap (λ (u : ℕ). end_with last after u) unit_is ∙ ap (λ (o : Option ℕ). end_with last o (length afters)) after_is)
      (ap (λ (u : ℕ). front ++ u ∷ back) unit_is)
      (between befores afters first last front back (subst (λ (o : List ℕ). IsOrder befores afters first last o) parts is))

  ordered : IsOrder befores afters first last (front ++ back)
  ordered = subst (λ (o : List ℕ). IsOrder befores afters first last o) parts is

  pub before_small : (u : ℕ) → before ≡ Some u → u < length afters
  before_small u e = let low = has_links befores afters None first (front ++ back) last None ordered.linked u (Contains-append_left front back u (last_in_list front u (sym before_is ∙ e))) in let same = is.paired in omega arith

  pub after_small : (u : ℕ) → after ≡ Some u → u < length afters
  after_small u e = let low = has_links befores afters None first (front ++ back) last None ordered.linked u (Contains-append_right front back u (first_in_list back u (sym after_is ∙ e))) in let same = is.paired in omega arith

-- a unit that is there stands between two lists
pub place : (xs : List ℕ) (u : ℕ) → Contains xs u → (front : List ℕ) × (back : List ℕ) × (xs ≡ front ++ u ∷ back)
place [] u (k, low, at) = absurd (omega arith)
place (v ∷ xs) u (zero, low, at) = ([], xs, ap (λ (n : ℕ). n ∷ xs) at)
place (v ∷ xs) u (suc k, low, at) = let more = place xs u (k, omega arith, at) in (v ∷ more.0, more.1, ap (λ (l : List ℕ). v ∷ l) more.2)

pub last_push : (end : Option ℕ) (front : List ℕ) (u : ℕ) → last_of end (front ++ u ∷ []) ≡ Some u
last_push end [] u = refl
last_push end (v ∷ front) u = last_push (Some v) front u

-- the neighbours of a unit
module _ (befores afters : List (Option ℕ)) (first last : Option ℕ) (order : List ℕ) (is : IsOrder befores afters first last order) where
  pub there : (u : ℕ) → u < length order → Contains order u
  there u low = let n = is.long in let e = is.once u (omega arith) in stands order u (omega arith)

  module _ (front back : List ℕ) (u : ℕ) (parts : order ≡ front ++ u ∷ back) where
    at_unit : AreLinked befores afters (last_of None front) (Some u) (u ∷ back) last None
    at_unit = (split befores afters None first front (u ∷ back) last None (subst (λ (l : List ℕ). AreLinked befores afters None first l last None) parts is.linked)).1

    pub before_at : (o : Option ℕ) → slice_get befores u ≡ Some o → o ≡ last_of None front
    before_at o at = same_Some o (last_of None front) (sym at ∙ at_unit.1)

    pub after_at : (o : Option ℕ) → slice_get afters u ≡ Some o → o ≡ first_of back None
    after_at o at = same_Some o at_unit.2 (sym at ∙ at_unit.3) ∙ first_is befores afters (Some u) at_unit.2 back last None at_unit.4

  pub first_of_order : first ≡ first_of order None
  first_of_order = first_is befores afters None first order last None is.linked

  pub last_of_order : last ≡ last_of None order
  last_of_order = last_is befores afters None first order last None is.linked

  pub behind_all : IsBetween order last None
  behind_all = (order, [], sym (append-nil order), last_of_order, refl)

  pub behind : (u : ℕ) (next : Option ℕ) → u < length order → slice_get afters u ≡ Some next → IsBetween order (Some u) next
  behind u next low at =
      let p = place order u (there u low) in
      (p.0 ++ u ∷ [], p.1, p.2 ∙ sym (append_assoc p.0 (u ∷ []) p.1), sym (last_push None p.0 u), after_at p.0 p.1 u p.2 next at)

-- no units yet
pub no_units : IsOrder [] [] None None []
no_units = record { paired = refl; long = refl; once = λ u low. absurd (omega arith); linked = (refl, refl) }

-- a list with a unit in it, as two lists
pub at_end : (front back : List ℕ) (u n : ℕ) → (front ++ u ∷ []) ++ n ∷ back ≡ front ++ u ∷ (n ∷ back)
at_end front back u n = append_assoc front (u ∷ []) (n ∷ back)

pub at_unit_alone : (front back : List ℕ) (u : ℕ) → (front ++ u ∷ []) ++ back ≡ front ++ u ∷ back
at_unit_alone front back u = append_assoc front (u ∷ []) back
