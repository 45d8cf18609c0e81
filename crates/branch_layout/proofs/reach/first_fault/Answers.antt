use Rattle.std.proofs.Common.{◌≡◌, ◌<◌, ℕ, List, length, ap, ◌∙◌, sym, subst, refl, Option}
use Rattle.std.specs.Prelude.{MatchOption}
use Rattle.std.proofs.lemmas.Option.{same_Some, slice_get_read, slice_get_within}
use Rattle.seq_core.specs.declared.units.Unit.{Unit as SeqUnit}
use Rattle.branch_layout.specs.Placings.{Placing}
use Rattle.branch_layout.specs.Faults.{IsFirstFault}
use Rattle.branch_layout.specs.Standing.{NoneFar, IsFirstFar, NoneBig, IsFirstBig, out_of_reach, IsEarlier}
use Rattle.branch_layout.proofs.FaultFacts.{no_fault, only_far, only_big, of_both}
use Rattle.branch_layout.proofs.reach.first_fault.Goals as goal

abbrev Far : List SeqUnit → Placing → Option (ℕ × ℕ) → Type 0
Far units p r = MatchOption r (NoneFar units p) (λ x. IsFirstFar units p x.0 x.1)

abbrev Big : List ℕ → Option ℕ → Type 0
Big sizes r = MatchOption r (NoneBig sizes) (λ j. IsFirstBig sizes j)

pub returns-in-None-None : goal.returns-in-None-None
returns-in-None-None c =
    let p : Placing = c.args.placing.now in
    let same : c.sizes.result.now ≡ p.sizes = c.sizes.ensures in
    let far : NoneFar c.args.units.now p = subst (Far c.args.units.now p) c.in-None-None.is-0 c.in_ok-far.ensures in
    let big : NoneBig c.sizes.result.now = subst (Big c.sizes.result.now) c.in-None-None.is-1 c.first_big-big.ensures in
    no_fault c.args.units.now p c.requires.given.unit_order far (subst (λ (l : List ℕ). NoneBig l) same big)

pub returns-in-None-Some : goal.returns-in-None-Some
returns-in-None-Some c =
    let p : Placing = c.args.placing.now in
    let same : c.sizes.result.now ≡ p.sizes = c.sizes.ensures in
    let far : NoneFar c.args.units.now p = subst (Far c.args.units.now p) c.in-None-Some.is-0 c.in_ok-far.ensures in
    let big : IsFirstBig c.sizes.result.now c.in-None-Some.j = subst (Big c.sizes.result.now) c.in-None-Some.is-1 c.first_big-big.ensures in
    subst (IsFirstFault c.args.units.now p) (sym c.too_big.ensures) (only_big c.args.units.now p c.requires.given.unit_order c.in-None-Some.j far (subst (λ (l : List ℕ). IsFirstBig l c.in-None-Some.j) same big))

pub returns-in-Some-None : goal.returns-in-Some-None
returns-in-Some-None c =
    let p : Placing = c.args.placing.now in
    let x = c.in-Some-None.x in
    let same : c.sizes.result.now ≡ p.sizes = c.sizes.ensures in
    let far : IsFirstFar c.args.units.now p x.0 x.1 = subst (Far c.args.units.now p) c.in-Some-None.is-0 c.in_ok-far.ensures in
    let big : NoneBig c.sizes.result.now = subst (Big c.sizes.result.now) c.in-Some-None.is-1 c.first_big-big.ensures in
    let lt : x.0 < length c.args.units.now = slice_get_within c.args.units.now x.0 far.far.unit far.far.there in
    let unit : far.far.unit ≡ c.index-units-x.result = same_Some far.far.unit c.index-units-x.result (sym far.far.there ∙ slice_get_read c.args.units.now (length c.args.units.now) x.0 c.index-units-x.result refl lt c.index-units-x.is) in
    let spot : out_of_reach far.far.unit x.1 ≡ c.out_of_reach.result = ap (λ (u : SeqUnit). out_of_reach u x.1) unit ∙ sym c.out_of_reach.ensures in
    subst (IsFirstFault c.args.units.now p) spot (only_far c.args.units.now p c.requires.given.unit_order x.0 x.1 far (subst (λ (l : List ℕ). NoneBig l) same big))

pub returns-in-Some-Some : goal.returns-in-Some-Some
returns-in-Some-Some c =
    let p : Placing = c.args.placing.now in
    let x = c.in-Some-Some.x in
    let same : c.sizes.result.now ≡ p.sizes = c.sizes.ensures in
    let far : IsFirstFar c.args.units.now p x.0 x.1 = subst (Far c.args.units.now p) c.in-Some-Some.is-0 c.in_ok-far.ensures in
    let big : IsFirstBig c.sizes.result.now c.in-Some-Some.j = subst (Big c.sizes.result.now) c.in-Some-Some.is-1 c.first_big-big.ensures in
    let lt : x.0 < length c.args.units.now = slice_get_within c.args.units.now x.0 far.far.unit far.far.there in
    let unit : far.far.unit ≡ c.index-units-x-in-Some-Some.result = same_Some far.far.unit c.index-units-x-in-Some-Some.result (sym far.far.there ∙ slice_get_read c.args.units.now (length c.args.units.now) x.0 c.index-units-x-in-Some-Some.result refl lt c.index-units-x-in-Some-Some.is) in
    let earlier : IsEarlier far.far.unit x.1 c.in-Some-Some.j c.earlier.result = subst (λ (u : SeqUnit). IsEarlier u x.1 c.in-Some-Some.j c.earlier.result) (sym unit) c.earlier.ensures in
    of_both c.args.units.now p c.requires.given.unit_order x.0 x.1 c.in-Some-Some.j far (subst (λ (l : List ℕ). IsFirstBig l c.in-Some-Some.j) same big) c.earlier.result earlier
