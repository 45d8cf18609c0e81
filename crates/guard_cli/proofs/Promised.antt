-- WHAT IS PROMISED: whichever of the outputs are linked, they are their inputs, hardened.
use Rattle.std.proofs.Common.{◌≡◌, ◌≢◌, ◌≤◌, ◌<◌, ◌+◌, ℕ, zero, suc, List, [], ◌∷◌, map, Some, IsTrue, refl, sym, ap, ◌∙◌, subst, arith}
use Rattle.std.specs.Prelude.{slice_get, All, fold, max}
use Rattle.std.proofs.lemmas.Bool.{and_from}
use Rattle.std.proofs.lemmas.List.{length-map}
use Rattle.std.proofs.lemmas.List.Elements.{All-nil, All-cons, All-head, All-tail}
use Rattle.std.proofs.lemmas.Option.{same_Some, none-some}
use Rattle.guard_io.specs.Outside.{IsLoaded}
use Rattle.elf_model.specs.declared.refusals.TheConstants.Limit.{INPUT}
use Rattle.elf_model.specs.Objects.{ObjectParts}
use Rattle.elf_model.specs.Canonical.{canonical}
use Rattle.elf_model.proofs.Lists.{All_at}
use Rattle.flat_link.specs.Existing.{HaveBytes}
use Rattle.sim_images.specs.ImageLaws.{AreObjects as AreAllObjects}
use Rattle.sim_relation.specs.Hardened.{Hardened}
use Rattle.sim_relation.specs.Pairs.{Paired, everywhere}
use Rattle.sim_objects.specs.PairedLists.{IsInput}
use Rattle.sim_objects.proofs.Moving.{got_map}
use Rattle.sim_objects.proofs.PairedLists.{paired_lists_harden}
use Rattle.guard_words.specs.Words.{Pair}
use Rattle.guard_cli.specs.Endings.{AreSaved}
use Rattle.guard_cli.specs.HardenWork.{Part, IsPart, IsHardenMade, IsHardenPromised, output_of, save_of_part, tally_of}
use Rattle.guard_cli.specs.Moments.{Files}
use Rattle.guard_cli.specs.Promise.{AreObjects, Stays, ArePlaced, IsPick, AreHardened}
use Rattle.guard_cli.specs.Texts.{Tally, greatest_factor}
use Rattle.guard_cli.specs.Works.{Save, Contents, AreLoaded, inputs_of}
use Rattle.guard_cli.proofs.Carried.{loaded_whole}
use Rattle.guard_cli.proofs.InputObjects.{is_input}
use Rattle.guard_cli.proofs.WholePick.{whole_pick}

abbrev pair_of : Part → Pair
pair_of p = p.pair

abbrev file_of : Part → List ℕ
file_of p = p.file

abbrev object_of : Part → ObjectParts
object_of p = p.object

abbrev input_of : Pair → List ℕ
input_of p = p.input

-- THE FACTOR

fold_low : (a : ℕ) (xs : List ℕ) → a ≤ fold max a xs
fold_low a [] = omega arith
fold_low a (x ∷ xs) = omega (arith, fold_low (max a x) xs)

fold_in : (a : ℕ) (xs : List ℕ) (k x : ℕ) → slice_get xs k ≡ Some x → x ≤ fold max a xs
fold_in a [] k x e = absurd (none-some x e)
fold_in a (y ∷ xs) zero x e = omega (arith, fold_low (max a y) xs, same_Some y x e)
fold_in a (y ∷ xs) (suc k) x e = fold_in (max a y) xs k x e

fold_high : (a m : ℕ) (xs : List ℕ) → a ≤ m → ((k x : ℕ) → slice_get xs k ≡ Some x → x ≤ m) → fold max a xs ≤ m
fold_high a m [] low each = low
fold_high a m (x ∷ xs) low each = fold_high (max a x) m xs (omega (arith, low, each 0 x refl)) (λ k y e. each (suc k) y e)

module _ (parts : List Part) (each : All IsPart parts) where
  abbrev factor : ℕ
  factor = greatest_factor (map tally_of parts)

  abbrev factors : List ℕ
  factors = map (λ (t : Tally). t.factor) (map tally_of parts)

  has_factor : (k : ℕ) (p : Part) → slice_get parts k ≡ Some p → slice_get factors k ≡ Some p.hardened.factor
  has_factor k p e = go parts k e
    where
      go : (ps : List Part) (k : ℕ) → slice_get ps k ≡ Some p → slice_get (map (λ (t : Tally). t.factor) (map tally_of ps)) k ≡ Some p.hardened.factor
      go [] k e = absurd (none-some p e)
      go (q ∷ ps) zero e = ap (λ (r : Part). Some r.hardened.factor) (same_Some q p e)
      go (q ∷ ps) (suc k) e = go ps k e

  is_factor : (k n : ℕ) → slice_get factors k ≡ Some n → n ≤ 16
  is_factor k n e =
      let t = got_map (λ (t : Tally). t.factor) (map tally_of parts) k n e in
      let p = got_map tally_of parts k t.0 t.1 in
      let is = All_at IsPart parts k p.0 each p.1 in
      let same : p.0.hardened.factor ≡ n = ap (λ (t : Tally). t.factor) p.2 ∙ t.2 in
      omega (arith, is.paired.high, same)

  factor_high : factor ≤ 16
  factor_high = fold_high 1 16 factors (omega arith) is_factor

  factor_low : 1 ≤ factor
  factor_low = fold_low 1 factors

  factor_of : (k : ℕ) (p : Part) → slice_get parts k ≡ Some p → p.hardened.factor ≤ factor
  factor_of k p e = fold_in 1 factors k p.hardened.factor (has_factor k p e)

-- FILES BEFORE AND AFTER

loaded_part : (limit : ℕ) (content : Contents) (parts : List Part) → AreLoaded content (inputs_of limit (map input_of (map pair_of parts))) (map file_of parts)
    → (k : ℕ) (p : Part) → slice_get parts k ≡ Some p → IsLoaded (content p.pair.input) (limit + 1) p.file
loaded_part limit content [] h k p e = absurd (none-some p e)
loaded_part limit content (q ∷ parts) (h, hs) zero p e = subst (λ (r : Part). IsLoaded (content r.pair.input) (limit + 1) r.file) (same_Some q p e) h
loaded_part limit content (q ∷ parts) (h, hs) (suc k) p e = loaded_part limit content parts hs k p e

-- What no later output has is kept.
kept_behind : (name : List ℕ) (parts : List Part) (old new : Files) → ((j : ℕ) (q : Part) → slice_get parts j ≡ Some q → q.pair.output ≢ name) → AreSaved (map save_of_part parts) old new
    → new.content name ≡ old.content name
kept_behind name [] old new apart same = same.each name
kept_behind name (q ∷ parts) old new apart (between, saved, rest) =
    kept_behind name parts between new (λ j r e. apart (suc j) r e) rest ∙ saved.others.each name (λ e. apart 0 q refl (sym e))

saved_part : (parts : List Part) (old new : Files) → IsTrue old.told → AreSaved (map save_of_part parts) old new → (k : ℕ) (p : Part) → slice_get parts k ≡ Some p
    → ((j : ℕ) (q : Part) → k < j → slice_get parts j ≡ Some q → q.pair.output ≢ p.pair.output) → new.content p.pair.output ≡ Some (canonical (output_of p))
saved_part [] old new told saved k p e last = absurd (none-some p e)
saved_part (q ∷ parts) old new told (between, one, rest) zero p e last =
    let same = same_Some q p e in
    kept_behind p.pair.output parts between new (λ j r d. last (suc j) r (omega arith) d) rest
    ∙ subst (λ (r : Part). between.content r.pair.output ≡ Some (canonical (output_of r))) same (one.whole told)
saved_part (q ∷ parts) old new told (between, one, rest) (suc k) p e last =
    saved_part parts between new (one.others.told ∙ told) rest k p e (λ j r less d. last (suc j) r (omega (arith, less)) d)

-- SELECTIONS

-- a part with its place, which no later output replaces
record IsChosen (parts : List Part) (p : Part) : Type 0 where
  pub place : ℕ
  pub there : slice_get parts place ≡ Some p
  pub stays : Stays (map pair_of parts) place p.pair

record AreChosen (parts : List Part) (picked : List Pair) (chosen : List Part) : Type 0 where
  pub pairs_are : map pair_of chosen ≡ picked
  pub each : All (IsChosen parts) chosen

chosen_of : (parts : List Part) (places : List ℕ) (picked : List Pair) → ArePlaced (map pair_of parts) places picked → (chosen : List Part) × AreChosen parts picked chosen
chosen_of parts [] [] h = ([], record { pairs_are = refl; each = All-nil (IsChosen parts) })
chosen_of parts [] (p ∷ picked) h = absurd h
chosen_of parts (k ∷ places) [] h = absurd h
chosen_of parts (k ∷ places) (p ∷ picked) (here, stays, later) =
    let q = got_map pair_of parts k p here in
    let rest = chosen_of parts places picked later in
    let one : IsChosen parts q.0 = record { place = k; there = q.1; stays = subst (λ (r : Pair). Stays (map pair_of parts) k r) (sym q.2) stays } in (
      q.0 ∷ rest.0,
      record {
        pairs_are = ap (λ (r : Pair). r ∷ map pair_of rest.0) q.2 ∙ ap (λ (l : List Pair). p ∷ l) rest.1.pairs_are;
        each = All-cons (IsChosen parts) q.0 rest.0 one rest.1.each;
      },
    )

get_pair : (parts : List Part) (j : ℕ) (q : Part) → slice_get parts j ≡ Some q → slice_get (map pair_of parts) j ≡ Some q.pair
get_pair [] j q e = absurd (none-some q e)
get_pair (p ∷ parts) zero q e = ap (λ (r : Part). Some r.pair) (same_Some p q e)
get_pair (p ∷ parts) (suc j) q e = get_pair parts j q e

module _ (parts : List Part) (each : All IsPart parts) (old new : Files) (told : IsTrue old.told)
    (loaded : AreLoaded old.content (inputs_of INPUT.file (map input_of (map pair_of parts))) (map file_of parts)) (saved : AreSaved (map save_of_part parts) old new) where
  is_part : (p : Part) → IsChosen parts p → IsPart p
  is_part p c = All_at IsPart parts c.place p each c.there

  input_is : (p : Part) → IsChosen parts p → old.content p.pair.input ≡ Some p.file
  input_is p c =
      let short = (is_part p c).read.short in
      loaded_whole (old.content p.pair.input) (INPUT.file + 1) p.file (loaded_part INPUT.file old.content parts loaded c.place p c.there) (omega (arith, short))

  output_is : (p : Part) → IsChosen parts p → new.content p.pair.output ≡ Some (canonical (output_of p))
  output_is p c = saved_part parts old new told saved c.place p c.there (λ j q less e. c.stays j q.pair less (get_pair parts j q e))

  inputs_stand : (chosen : List Part) → All (IsChosen parts) chosen → AreObjects old.content (map input_of (map pair_of chosen)) (map object_of chosen)
  inputs_stand [] all = tt
  inputs_stand (p ∷ chosen) all =
      let c = All-head (IsChosen parts) p chosen all in
      ((p.file, input_is p c, (is_part p c).read.stands), inputs_stand chosen (All-tail (IsChosen parts) p chosen all))

  outputs_stand : (chosen : List Part) → All (IsChosen parts) chosen → AreObjects new.content (map (λ (p : Pair). p.output) (map pair_of chosen)) (map output_of chosen)
  outputs_stand [] all = tt
  outputs_stand (p ∷ chosen) all =
      let c = All-head (IsChosen parts) p chosen all in
      ((canonical (output_of p), output_is p c, (is_part p c).stands), outputs_stand chosen (All-tail (IsChosen parts) p chosen all))

  all_objects : (chosen : List Part) → All (IsChosen parts) chosen → AreAllObjects (map object_of chosen)
  all_objects [] all = refl
  all_objects (p ∷ chosen) all =
      and_from _ _ (is_part p (All-head (IsChosen parts) p chosen all)).read.stands.sound (all_objects chosen (All-tail (IsChosen parts) p chosen all))

  all_outputs : (chosen : List Part) → All (IsChosen parts) chosen → AreAllObjects (map output_of chosen)
  all_outputs [] all = refl
  all_outputs (p ∷ chosen) all =
      and_from _ _ (is_part p (All-head (IsChosen parts) p chosen all)).stands.sound (all_outputs chosen (All-tail (IsChosen parts) p chosen all))

  module _ (chosen : List Part) (all : All (IsChosen parts) chosen) where
    part_at : (i : ℕ) (p : Part) → slice_get chosen i ≡ Some p → IsPart p
    part_at i p e = is_part p (All_at (IsChosen parts) chosen i p all e)

    have_bytes : HaveBytes (map output_of chosen)
    have_bytes i j h s e d =
        let p = got_map output_of chosen i h e in
        (part_at i p.0 p.1).bytes 0 j (output_of p.0) s refl (ap (λ (o : ObjectParts). slice_get o.sections j) p.2 ∙ d)

    paired_at : (i : ℕ) (o h : ObjectParts) → slice_get (map object_of chosen) i ≡ Some o → slice_get (map output_of chosen) i ≡ Some h
        → (G : ℕ) × (G ≤ factor parts each) × Paired o h G 2 4 everywhere
    paired_at i o h e d =
        let p = got_map object_of chosen i o e in
        let q = got_map output_of chosen i h d in
        let same : q.0 ≡ p.0 = same_Some q.0 p.0 (sym q.1 ∙ p.1) in
        let out : output_of p.0 ≡ h = ap output_of (sym same) ∙ q.2 in
        let c = All_at (IsChosen parts) chosen i p.0 all p.1 in (
          p.0.hardened.factor,
          factor_of parts each c.place p.0 c.there,
          subst (λ (x : ObjectParts). Paired x h p.0.hardened.factor 2 4 everywhere) p.2
              (subst (λ (x : ObjectParts). Paired (object_of p.0) x p.0.hardened.factor 2 4 everywhere) out (is_part p.0 c).paired),
        )

    chosen_hardened : Hardened (map object_of chosen) (map output_of chosen) (factor parts each)
    chosen_hardened =
        paired_lists_harden (map object_of chosen) (map output_of chosen) (factor parts each) (factor_low parts each) (factor_high parts each)
        (record {
          objects = all_objects chosen all;
          forms = all_outputs chosen all;
          bytes = have_bytes;
          pairs = record {
            count = length-map chosen output_of ∙ sym (length-map chosen object_of);
            inputs = λ i o e.
                let p = got_map object_of chosen i o e in
                subst IsInput p.2 (is_input p.0.file p.0.object (part_at i p.0 p.1).read);
            paired = paired_at;
          };
        })

  picked_hardened : (picked : List Pair) → IsPick (map pair_of parts) picked → AreHardened picked old.content new.content (factor parts each)
  picked_hardened picked pick =
      let c = chosen_of parts pick.places picked pick.are in
      subst (λ (l : List Pair). AreHardened l old.content new.content (factor parts each)) c.1.pairs_are
      (record {
        ins = map object_of c.0;
        outs = map output_of c.0;
        inputs = inputs_stand c.0 c.1.each;
        outputs = outputs_stand c.0 c.1.each;
        hardened = chosen_hardened c.0 c.1.each;
      })

pub harden_promised : (pairs : List Pair) (files : List (List ℕ)) (saves : List Save) (said : List ℕ) (old new : Files) → IsHardenMade pairs files saves said → IsTrue old.told
    → AreLoaded old.content (inputs_of INPUT.file (map input_of pairs)) files → AreSaved saves old new → IsHardenPromised pairs files saves said old.content new.content
harden_promised pairs files saves said old new made told loaded saved = record {
  made = made;
  hardened = of_pick;
  whole = λ differ. of_pick pairs (whole_pick pairs differ);
}
  where
    of_pick : (picked : List Pair) → IsPick pairs picked → AreHardened picked old.content new.content (factor made.parts made.each)
    of_pick picked pick =
        picked_hardened made.parts made.each old new told
        (subst (λ (l : List (List ℕ)). AreLoaded old.content (inputs_of INPUT.file (map input_of (map pair_of made.parts))) l) (sym made.files_are)
        (subst (λ (l : List Pair). AreLoaded old.content (inputs_of INPUT.file (map input_of l)) files) (sym made.pairs_are) loaded))
        (subst (λ (l : List Save). AreSaved l old new) made.saves_are saved)
        picked (subst (λ (l : List Pair). IsPick l picked) (sym made.pairs_are) pick)
