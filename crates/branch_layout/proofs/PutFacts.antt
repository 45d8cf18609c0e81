-- The next unit or word is put behind all that stands.
use Rattle.std.proofs.Common.{◌≡◌, ◌≤◌, ◌<◌, ℕ, ◌+◌, ◌*◌, ◌^◌, List, [], length, map, take, sym, ap, ◌∙◌, subst, arith, Some, All}
use Rattle.std.specs.Prelude.{slice_get}
use Rattle.std.specs.Option.{option_map}
use Rattle.std.proofs.lemmas.List.{length-take-le, take-map}
use Rattle.std.proofs.lemmas.List.Elements.{All-contains, All-weaker}
use Rattle.std.proofs.lemmas.Option.{slice_get-map, slice_get_within}
use Rattle.std.proofs.Math.Seq.{take-length}
use Rattle.elf_model.proofs.Elements.{contains_none, contains_at}
use Rattle.seq_core.specs.declared.steps.Step.{Step}
use Rattle.seq_core.specs.declared.units.Unit.{Unit as SeqUnit}
use Rattle.flow_recover.specs.declared.flows.PoolWord.{PoolWord}
use Rattle.branch_layout.specs.Placings.{Placing, unit_point, word_point}
use Rattle.branch_layout.specs.Given.{CanLay, CanStand}
use Rattle.branch_layout.specs.Standing.{StandingParts, StandsUsed, AllBefore, IsNext, StandsAt, TakesUnit, TakesWord, Finishes, IsPlaced}
use Rattle.branch_layout.proofs.Lists.{take_push}
use Rattle.branch_layout.proofs.Ahead.{first_below, ahead_turned, ahead_more}
use Rattle.branch_layout.proofs.StandingFacts.{section_reached, nothing_stands, nothing_placed}

-- each unit's steps stand four times at most
pub few_each : (units : List SeqUnit) (words : List PoolWord) (i : ℕ) (u : SeqUnit) → CanLay units words → slice_get units i ≡ Some u → All (λ (s : Step). s.copies ≤ 4) u.seq.steps
few_each units words i u given at =
    let stands : CanStand units words u = All-contains (λ (v : SeqUnit). CanStand units words v) units u given.each (contains_at units i u at) in
    let most : stands.copies ≤ 4 = stands.most in
    All-weaker (λ (s : Step). s.copies ≡ stands.copies) (λ (s : Step). s.copies ≤ 4) (λ s e. few s.copies stands.copies e most) u.seq.steps stands.same
  where
    few : (a b : ℕ) → a ≡ b → b ≤ 4 → a ≤ 4
    few a b e l = omega arith

module _ (units : List SeqUnit) (words : List PoolWord) (given : CanLay units words) (i k : ℕ) (s : StandingParts) (at : StandsAt units words i k s) where
  pub room_left : s.end < 2 ^ 31
  room_left =
      let short : s.end ≤ 128 * (length (take i units) + length (take k words)) = at.stands.stands.short in
      let one : length (take i units) ≡ i = length-take-le i units at.units_left in
      let two : length (take k words) ≡ k = length-take-le k words at.words_left in
      let few : length units + length words < 2 ^ 24 = given.few in
      let a : i ≤ length units = at.units_left in
      let b : k ≤ length words = at.words_left in
      omega arith

  -- what stands is before the next unit
  module _ (u : SeqUnit) (there : slice_get units i ≡ Some u) where
    unit_place : slice_get (map unit_point units) i ≡ Some (unit_point u)
    unit_place = slice_get-map unit_point units i ∙ ap (option_map unit_point) there

    units_before : AllBefore (map unit_point (take i units)) (unit_point u)
    units_before = subst (λ (l : List (ℕ × ℕ)). AllBefore l (unit_point u)) (take-map unit_point i units) (first_below (map unit_point units) i (unit_point u) given.unit_order unit_place)

    words_before : AllBefore (map word_point (take k words)) (unit_point u)
    words_before = subst (λ (l : List (ℕ × ℕ)). AllBefore l (unit_point u)) (take-map word_point k words) (at.ahead.one (unit_point u) unit_place)

    pub unit_section : length s.placing.sizes ≤ u.section
    unit_section = section_reached (take i units) (take k words) s (unit_point u) at.stands units_before words_before

    pub unit_put : (new : StandingParts) → TakesUnit u s new → IsNext (map unit_point units) (map word_point words) i k → StandsAt units words (i + 1) k new
    unit_put new takes next =
        let lt : i < length units = slice_get_within units i u there in
        record {
          units_left = omega arith;
          words_left = at.words_left;
          stands = subst (λ (l : List SeqUnit). StandsUsed l (take k words) new) (sym (take_push units i u there)) (takes (take i units) (take k words) at.stands.stands units_before words_before);
          ahead = ahead_more (map unit_point units) (map word_point words) i k given.unit_order next at.ahead;
        }

  -- and before the next word
  module _ (w : PoolWord) (there : slice_get words k ≡ Some w) where
    word_place : slice_get (map word_point words) k ≡ Some (word_point w)
    word_place = slice_get-map word_point words k ∙ ap (option_map word_point) there

    words_below : AllBefore (map word_point (take k words)) (word_point w)
    words_below = subst (λ (l : List (ℕ × ℕ)). AllBefore l (word_point w)) (take-map word_point k words) (first_below (map word_point words) k (word_point w) given.word_order word_place)

    units_below : AllBefore (map unit_point (take i units)) (word_point w)
    units_below = subst (λ (l : List (ℕ × ℕ)). AllBefore l (word_point w)) (take-map unit_point i units) (at.ahead.other (word_point w) word_place)

    pub word_section : length s.placing.sizes ≤ w.section
    word_section = section_reached (take i units) (take k words) s (word_point w) at.stands units_below words_below

    pub word_put : (new : StandingParts) → TakesWord w s new → IsNext (map word_point words) (map unit_point units) k i → StandsAt units words i (k + 1) new
    word_put new takes next =
        let lt : k < length words = slice_get_within words k w there in
        record {
          units_left = at.units_left;
          words_left = omega arith;
          stands = subst (λ (l : List PoolWord). StandsUsed (take i units) l new) (sym (take_push words k w there)) (takes (take i units) (take k words) at.stands.stands units_below words_below);
          ahead = ahead_turned (map word_point words) (map unit_point units) (k + 1) i (ahead_more (map word_point words) (map unit_point units) k i given.word_order next (ahead_turned (map unit_point units) (map word_point words) i k at.ahead));
        }

pub none_put : (units : List SeqUnit) (words : List PoolWord) → StandsAt units words 0 0 (record { placing = record { units = []; words = []; sizes = [] }; end = 0 })
none_put units words = record {
  units_left = omega arith;
  words_left = omega arith;
  stands = nothing_stands;
  ahead = record { one = λ q e r h. absurd (contains_none r h); other = λ q e r h. absurd (contains_none r h) };
}

-- all of them stand
module _ (units : List SeqUnit) (words : List PoolWord) (i k : ℕ) (s : StandingParts) (at : StandsAt units words i k s) (all : i + k ≡ length units + length words) where
  all_stand : StandsUsed units words s
  all_stand =
      let a : i ≤ length units = at.units_left in
      let b : k ≤ length words = at.words_left in
      let one : i ≡ length units = omega arith in
      let two : k ≡ length words = omega arith in
      subst (λ (l : List SeqUnit). StandsUsed l words s) (ap (λ (n : ℕ). take n units) one ∙ take-length units)
      (subst (λ (l : List PoolWord). StandsUsed (take i units) l s) (ap (λ (n : ℕ). take n words) two ∙ take-length words) at.stands)

  pub all_put : (p : Placing) → 0 < length units + length words → Finishes s p → IsPlaced units words p
  all_put p some finishes = finishes units words all_stand some

  pub none_to_put : length units + length words ≡ 0 → IsPlaced units words s.placing
  none_to_put none = nothing_placed units words s all_stand none
