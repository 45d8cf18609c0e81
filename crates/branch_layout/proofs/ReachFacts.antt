-- How far the words of a unit's copies are, and the greatest distance.
use Rattle.std.proofs.Common.{◌≡◌, ◌≤◌, ◌<◌, ℕ, ◌+◌, ◌⊎◌, inl, inr, List, [], ◌∷◌, ◌++◌, take, Bool, true, false, refl, sym, ap, ◌∙◌, subst, arith, Option, Some, None, max}
use Rattle.std.specs.Prelude.{slice_get, nat_lt, nat_le}
use Rattle.std.specs.Option.{option_map_or}
use Rattle.std.proofs.lemmas.Bool.{ltb-true, ltb-false, leb-true, leb-false}
use Rattle.std.proofs.lemmas.Option.{none-some, same_Some}
use Rattle.std.proofs.lemmas.List.Sums.{sum_by-cons, sum_by-append}
use Rattle.thumb_encode.specs.declared.codes.Width.{Width}
use Rattle.seq_core.specs.declared.steps.Step.{Step}
use Rattle.seq_core.specs.declared.units.Unit.{Unit as SeqUnit}
use Rattle.branch_layout.specs.Copies.{copies_of, bytes_of, length_of, bytes_before}
use Rattle.branch_layout.specs.Placings.{Stretch, Placing, places_of, IsStretch}
use Rattle.branch_layout.specs.Faults.{load_distance, LoadsFrom}
use Rattle.branch_layout.proofs.Lists.{take_push}
use Rattle.branch_layout.proofs.WithinFacts.{bytes_most}

pub bytes_next : (ws : List Width) (k : ℕ) (w : Width) → slice_get ws k ≡ Some w → bytes_before ws (k + 1) ≡ bytes_before ws k + bytes_of w
bytes_next ws k w e =
    let more : bytes_before ws (k + 1) ≡ length_of (take k ws ++ w ∷ []) = ap length_of (take_push ws k w e) in
    let both : length_of (take k ws ++ w ∷ []) ≡ length_of (take k ws) + length_of (w ∷ []) = sum_by-append bytes_of (take k ws) (w ∷ []) in
    let last : length_of (w ∷ []) ≡ bytes_of w + length_of [] = sum_by-cons bytes_of w [] in
    let none : length_of [] ≡ 0 = refl in
    omega arith

pub below_next : (i k : ℕ) → i < k + 1 → (i < k) ⊎ (i ≡ k)
below_next i k lt = go (nat_lt i k) refl
  where
    go : (b : Bool) → nat_lt i k ≡ b → (i < k) ⊎ (i ≡ k)
    go true e = inl (ltb-true i k e)
    go false e = let g : k ≤ i = ltb-false i k e in inr (omega arith)

-- the greatest distance of the first copies
pub record ReachUpTo (p : Placing) (u : SeqUnit) (s : Stretch) (k at most : ℕ) : Type 0 where
  pub at_is : at ≡ s.place.start + bytes_before s.widths k
  pub greatest : (e : ℕ) (x : LoadsFrom p u s e) → x.index < k → e ≤ most
  pub some : 0 < most → LoadsFrom p u s most

pub reach_none : (p : Placing) (u : SeqUnit) (s : Stretch) → ReachUpTo p u s 0 s.place.start 0
reach_none p u s = record { at_is = let none : bytes_before s.widths 0 ≡ 0 = refl in omega arith; greatest = λ e x lt. absurd (omega arith); some = λ lt. absurd (omega arith) }

module _ (p : Placing) (u : SeqUnit) (s : Stretch) (k at most : ℕ) (step : Step) (w : Width)
    (here : slice_get (copies_of u.seq.steps) k ≡ Some step) (width : slice_get s.widths k ≡ Some w) (upto : ReachUpTo p u s k at most) where
  loaded_here : (e : ℕ) (x : LoadsFrom p u s e) → x.index ≡ k → load_distance (places_of p) u at step.goal ≡ Some e
  loaded_here e x same =
      let step_is : x.step ≡ step = same_Some x.step step (sym x.copy ∙ ap (slice_get (copies_of u.seq.steps)) same ∙ here) in
      let at_is : at ≡ s.place.start + bytes_before s.widths x.index = upto.at_is ∙ ap (λ (i : ℕ). s.place.start + bytes_before s.widths i) (sym same) in
      ap (λ (n : ℕ). load_distance (places_of p) u n step.goal) at_is
      ∙ ap (λ (t : Step). load_distance (places_of p) u (s.place.start + bytes_before s.widths x.index) t.goal) (sym step_is) ∙ x.loads

  next_at : at + bytes_of w ≡ s.place.start + bytes_before s.widths (k + 1)
  next_at = let e = upto.at_is in let f = bytes_next s.widths k w width in omega arith

  loads_here : (d : ℕ) → load_distance (places_of p) u at step.goal ≡ Some d → LoadsFrom p u s d
  loads_here d e = record { index = k; step = step; copy = here; loads = ap (λ (n : ℕ). load_distance (places_of p) u n step.goal) (sym upto.at_is) ∙ e }

  most_of : (d : ℕ) → load_distance (places_of p) u at step.goal ≡ Some d → (b : Bool) → nat_le d most ≡ b → 0 < max most d → LoadsFrom p u s (max most d)
  most_of d e true l lt =
      let low : d ≤ most = leb-true d most l in
      let is : max most d ≡ most = omega arith in
      let some : 0 < most = omega arith in
      subst (LoadsFrom p u s) (sym is) (upto.some some)
  most_of d e false l lt =
      let high : most < d = leb-false d most l in
      let is : max most d ≡ d = omega arith in
      subst (LoadsFrom p u s) (sym is) (loads_here d e)

  pub reach_more : (r : Option ℕ) → r ≡ load_distance (places_of p) u at step.goal → ReachUpTo p u s (k + 1) (at + bytes_of w) (option_map_or (λ e. max most e) r most)
  reach_more None is = record {
    at_is = next_at;
    greatest = λ e x lt. elim (below_next x.index k lt) [ inl before ↦ upto.greatest e x before | inr same ↦ absurd (none-some e (is ∙ loaded_here e x same)) ];
    some = upto.some;
  }
  reach_more (Some d) is = record {
    at_is = next_at;
    greatest = λ e x lt. elim (below_next x.index k lt) [
      | inl before ↦ let b : e ≤ most = upto.greatest e x before in omega arith
      | inr same ↦ let same_d : d ≡ e = same_Some d e (is ∙ loaded_here e x same) in omega arith
    ];
    some = most_of d (sym is) (nat_le d most) refl;
  }

-- no copy is behind the end of its unit
pub at_low : (u : SeqUnit) (s : Stretch) (k at : ℕ) → IsStretch u s → at ≡ s.place.start + bytes_before s.widths k → at ≤ s.place.end
at_low u s k at is e =
    let most : bytes_before s.widths k ≤ length_of s.widths = bytes_most s.widths k in
    let end : s.place.end ≡ s.place.start + length_of s.widths = is.end in
    omega arith
