use Rattle.std.proofs.Common.{◌≡◌, ◌≤◌, ◌<◌, ◌+◌, ◌*◌, ◌^◌, List, length, arith, ap, ◌∙◌, sym, subst, refl, inl, inr, Some}
use Rattle.std.specs.Prelude.{slice_get}
use Rattle.std.proofs.lemmas.Option.{slice_get_read, slice_get_within, same_Some}
use Rattle.std.proofs.lemmas.Slice.Zip.{AllZip-long}
use Rattle.seq_core.specs.declared.units.Unit.{Unit as SeqUnit}
use Rattle.branch_layout.specs.Placings.{Stretch, Placing, IsStretch}
use Rattle.branch_layout.specs.Faults.{LoadsFrom}
use Rattle.branch_layout.proofs.ReachFacts.{below_next}
use Rattle.branch_layout.proofs.WithinFacts.{all_zip_at, unit_within}
use Rattle.branch_layout.proofs.PutFacts.{few_each}
use Rattle.branch_layout.proofs.reach.first_far.Goals as goal

pub reach_of-requires-clause-stretch : goal.reach_of-requires-clause-stretch
reach_of-requires-clause-stretch c =
    let p : Placing = c.args.placing.now in
    let same : c.units-stretches.result.now ≡ p.units = c.units-stretches.ensures in
    let long : length p.units ≡ length c.args.units.now = AllZip-long IsStretch c.args.units.now p.units c.requires.placed.placing.stretches in
    let lengths : length c.units-stretches.result.now ≡ length p.units = ap length same in
    let lt : c.loop-k.k < length c.args.units.now = c.loop-k-test.true in
    let u = slice_get_read c.args.units.now (length c.args.units.now) c.loop-k.k c.index-units-k.result refl lt c.index-units-k.is in
    let s = subst (λ (l : List Stretch). slice_get l c.loop-k.k ≡ Some c.index-stretches-k.result) same (slice_get_read c.units-stretches.result.now (length c.units-stretches.result.now) c.loop-k.k c.index-stretches-k.result refl (omega arith) c.index-stretches-k.is) in
    all_zip_at IsStretch c.args.units.now p.units c.loop-k.k c.index-units-k.result c.index-stretches-k.result c.requires.placed.placing.stretches u s

pub reach_of-requires-clause-copies : goal.reach_of-requires-clause-copies
reach_of-requires-clause-copies c =
    let lt : c.loop-k.k < length c.args.units.now = c.loop-k-test.true in
    few_each c.args.units.now c.args.words.now c.loop-k.k c.index-units-k.result c.requires.given (slice_get_read c.args.units.now (length c.args.units.now) c.loop-k.k c.index-units-k.result refl lt c.index-units-k.is)

pub reach_of-requires-clause-room : goal.reach_of-requires-clause-room
reach_of-requires-clause-room c =
    let p : Placing = c.args.placing.now in
    let same : c.units-stretches.result.now ≡ p.units = c.units-stretches.ensures in
    let long : length p.units ≡ length c.args.units.now = AllZip-long IsStretch c.args.units.now p.units c.requires.placed.placing.stretches in
    let lengths : length c.units-stretches.result.now ≡ length p.units = ap length same in
    let lt : c.loop-k.k < length c.args.units.now = c.loop-k-test.true in
    let u = slice_get_read c.args.units.now (length c.args.units.now) c.loop-k.k c.index-units-k.result refl lt c.index-units-k.is in
    let s = subst (λ (l : List Stretch). slice_get l c.loop-k.k ≡ Some c.index-stretches-k.result) same (slice_get_read c.units-stretches.result.now (length c.units-stretches.result.now) c.loop-k.k c.index-stretches-k.result refl (omega arith) c.index-stretches-k.is) in
    let in_it = unit_within c.args.units.now c.args.words.now p c.requires.placed.placing c.loop-k.k c.index-units-k.result c.index-stretches-k.result u s in
    let high : c.index-stretches-k.result.place.end ≤ in_it.size = in_it.high in
    let small : in_it.size ≤ 128 * (length c.args.units.now + length c.args.words.now) = c.requires.placed.small c.index-units-k.result.section in_it.size in_it.there in
    let few : length c.args.units.now + length c.args.words.now < 2 ^ 24 = c.requires.given.few in
    omega arith

pub returns-then-reach-gt-MOST_REACH : goal.returns-then-reach-gt-MOST_REACH
returns-then-reach-gt-MOST_REACH c =
    let p : Placing = c.args.placing.now in
    let same : c.units-stretches.result.now ≡ p.units = c.units-stretches.ensures in
    let long : length p.units ≡ length c.args.units.now = AllZip-long IsStretch c.args.units.now p.units c.requires.placed.placing.stretches in
    let lengths : length c.units-stretches.result.now ≡ length p.units = ap length same in
    let lt : c.loop-k.k < length c.args.units.now = c.loop-k-test.true in
    let u = slice_get_read c.args.units.now (length c.args.units.now) c.loop-k.k c.index-units-k.result refl lt c.index-units-k.is in
    let s = subst (λ (l : List Stretch). slice_get l c.loop-k.k ≡ Some c.index-stretches-k.result) same (slice_get_read c.units-stretches.result.now (length c.units-stretches.result.now) c.loop-k.k c.index-stretches-k.result refl (omega arith) c.index-stretches-k.is) in
    let far : 4095 < c.in_ok-reach.reach = c.if-reach-gt-MOST_REACH.true in
    record {
      far = record {
        unit = c.index-units-k.result;
        stretch = c.index-stretches-k.result;
        there = u;
        placed = s;
        loads = c.in_ok-reach.ensures.some (omega arith);
        most = c.in_ok-reach.ensures.greatest;
        far = far;
      };
      none = λ i e before y.
          let low : e ≤ 4095 = c.loop-k.invariant i y.unit y.stretch e before y.there y.placed y.loads in
          let high : 4095 < e = y.far in
          omega arith;
    }

pub loop-k-preserved : goal.loop-k-preserved
loop-k-preserved c = λ i u s d before e f x.
    let p : Placing = c.args.placing.now in
    let same : c.units-stretches.result.now ≡ p.units = c.units-stretches.ensures in
    let long : length p.units ≡ length c.args.units.now = AllZip-long IsStretch c.args.units.now p.units c.requires.placed.placing.stretches in
    let lengths : length c.units-stretches.result.now ≡ length p.units = ap length same in
    let lt : c.loop-k.k < length c.args.units.now = c.loop-k-test.true in
    let at_unit = slice_get_read c.args.units.now (length c.args.units.now) c.loop-k.k c.index-units-k.result refl lt c.index-units-k.is in
    let at_stretch = subst (λ (l : List Stretch). slice_get l c.loop-k.k ≡ Some c.index-stretches-k.result) same (slice_get_read c.units-stretches.result.now (length c.units-stretches.result.now) c.loop-k.k c.index-stretches-k.result refl (omega arith) c.index-stretches-k.is) in
    let low : c.in_ok-reach.reach ≤ 4095 = c.if-reach-gt-MOST_REACH.false in
    elim (below_next i c.loop-k.k before) [
      | inl earlier ↦ c.loop-k.invariant i u s d earlier e f x
      | inr here ↦
          let same_unit : u ≡ c.index-units-k.result = same_Some u c.index-units-k.result (sym e ∙ ap (slice_get c.args.units.now) here ∙ at_unit) in
          let same_stretch : s ≡ c.index-stretches-k.result = same_Some s c.index-stretches-k.result (sym f ∙ ap (slice_get p.units) here ∙ at_stretch) in
          let most : d ≤ c.in_ok-reach.reach = c.in_ok-reach.ensures.greatest d (subst (λ (v : SeqUnit). LoadsFrom p v c.index-stretches-k.result d) same_unit (subst (λ (t : Stretch). LoadsFrom p u t d) same_stretch x)) in
          omega arith
    ]

pub returns : goal.returns
returns c = λ k u s d e f x.
    let lt : k < length c.args.units.now = slice_get_within c.args.units.now k u e in
    let end : length c.args.units.now ≤ c.loop-k.k = c.loop-k-test.false in
    c.loop-k.invariant k u s d (omega arith) e f x
