-- Two lists of objects that are paired one by one are hardened: as a list of pairs of one factor.
use Rattle.std.specs.Prelude.{◌≡◌, ◌≤◌, ℕ, zero, suc, ◌*◌, Bool, true, List, [], ◌∷◌, length, Some, slice_get, refl}
use Rattle.std.proofs.Common.{arith, le_trans, ap, sym, ◌∙◌, subst}
use Rattle.std.proofs.lemmas.List.{length-map}
use Rattle.std.proofs.lemmas.Option.{none-some, same_Some}
use Rattle.elf_model.specs.declared.objects.MapRow.{MapRow}
use Rattle.elf_model.specs.Maps.{HasMap}
use Rattle.elf_model.specs.Objects.{ObjectParts}
use Rattle.elf_model.proofs.Lists.{get_map}
use Rattle.flow_recover.specs.declared.flows.Point.{Point as FlowPoint}
use Rattle.sim_images.specs.ImageLaws.{AreObjects}
use Rattle.sim_relation.specs.Pairs.{Paired, everywhere}
use Rattle.sim_relation.specs.Hardened.{AreMaps, Hardened}
use Rattle.sim_objects.specs.Lists.{Pairing, plains, hards}
use Rattle.sim_objects.specs.Hardening.{AllSkip}
use Rattle.sim_objects.specs.Mapping.{maps_of}
use Rattle.flat_link.specs.Existing.{HaveBytes}
use Rattle.sim_objects.specs.PairedLists.{IsInput, PairedListsHarden}
use Rattle.sim_objects.proofs.Moving.{got_map}
use Rattle.sim_objects.proofs.HavingMaps.{pairs_have_maps}
use Rattle.sim_objects.proofs.Harden.{lists_harden}

-- what is paired is so for a greater factor
raised : (o h : ObjectParts) (G F c K : ℕ) (may_skip : FlowPoint → Bool) → G ≤ F → F ≤ 8 * c → Paired o h G c K may_skip → Paired o h F c K may_skip
raised o h G F c K may_skip more high p = record {
  low = le_trans p.low more;
  high = high;
  few = p.few;
  flow = p.flow;
  accepted = p.accepted;
  certificate = p.certificate;
  form = p.form;
  grown = p.grown;
  count = p.count;
  carried = p.carried;
  kept = p.kept;
  done = λ k x u s a b d.
      let was = p.done k x u s a b d in
      record {
        stands = was.stands;
        inside = was.inside;
        within = was.within;
        island = was.island;
        load = was.load;
        short = le_trans was.short more;
        does = was.does;
        spare = was.spare;
        flags = was.flags;
        end = was.end;
        back = was.back;
      };
}

-- the pairs of two lists
record AreOf (F : ℕ) (ins outs : List ObjectParts) (pairs : List (Pairing F 2 4)) : Type 0 where
  pub plain : plains pairs ≡ ins
  pub hard : hards pairs ≡ outs
  pub all : AllSkip pairs

paired_up : (F : ℕ) → F ≤ 16 → (ins outs : List ObjectParts) → length outs ≡ length ins
    → ((i : ℕ) (o h : ObjectParts) → slice_get ins i ≡ Some o → slice_get outs i ≡ Some h → (G : ℕ) × (G ≤ F) × Paired o h G 2 4 everywhere) → (pairs : List (Pairing F 2 4)) × AreOf F ins outs pairs
paired_up F high [] [] l each = ([], record { plain = refl; hard = refl; all = λ i q x e. absurd (none-some q e) })
paired_up F high [] (h ∷ outs) l each = absurd (omega (arith, l))
paired_up F high (o ∷ ins) [] l each = absurd (omega (arith, l))
paired_up F high (o ∷ ins) (h ∷ outs) l each =
    let one = each 0 o h refl refl in
    let rest = paired_up F high ins outs (omega (arith, l)) (λ i a b e f. each (suc i) a b e f) in
    let q : Pairing F 2 4 = record { plain = o; hard = h; may_skip = everywhere; pair = raised o h one.0 F 2 4 everywhere one.1 (omega (arith, high)) one.2 } in
    (q ∷ rest.0, record { plain = ap (λ (z : List ObjectParts). o ∷ z) rest.1.plain; hard = ap (λ (z : List ObjectParts). h ∷ z) rest.1.hard; all = first_too q rest.0 (λ x. refl) rest.1.all })
  where
    first_too : (q : Pairing F 2 4) (pairs : List (Pairing F 2 4)) → ((x : FlowPoint) → q.may_skip x ≡ true) → AllSkip pairs → AllSkip (q ∷ pairs)
    first_too q pairs first all zero r x e = ap (λ (z : Pairing F 2 4). z.may_skip x) (sym (same_Some q r e)) ∙ first x
    first_too q pairs first all (suc i) r x e = all i r x e

-- each hardened object has its map
have_maps : (F : ℕ) (pairs : List (Pairing F 2 4)) → ((i : ℕ) (q : Pairing F 2 4) → slice_get pairs i ≡ Some q → IsInput q.plain) → AreMaps (hards pairs) (maps_of pairs)
have_maps F pairs inputs = record { count = length-map pairs (λ (q : Pairing F 2 4). q.pair.form.rows) ∙ sym (length-map pairs (λ (q : Pairing F 2 4). q.hard)); has = has }
  where
    has : (i : ℕ) (h : ObjectParts) (rows : List MapRow) → slice_get (hards pairs) i ≡ Some h → slice_get (maps_of pairs) i ≡ Some rows → HasMap h rows
    has i h rows here e =
        let q = got_map (λ (z : Pairing F 2 4). z.hard) pairs i h here in
        let is = inputs i q.0 q.1 in
        let one : q.0.pair.form.rows ≡ rows = same_Some q.0.pair.form.rows rows (sym (get_map (λ (z : Pairing F 2 4). z.pair.form.rows) pairs i q.0 q.1) ∙ e) in
        subst (λ (z : ObjectParts). HasMap z rows) q.2 (subst (λ (r : List MapRow). HasMap q.0.hard r) one (pairs_have_maps F 2 4 q.0 (omega arith) is.few is.small is.unnamed))

pub paired_lists_harden : PairedListsHarden
paired_lists_harden ins outs F low high are =
    let z = paired_up F high ins outs are.pairs.count are.pairs.paired in
    let plain = z.1.plain in
    let hard = z.1.hard in
    let inputs = λ (i : ℕ) (q : Pairing F 2 4) (e : slice_get z.0 i ≡ Some q). are.pairs.inputs i q.plain (ap (λ (l : List ObjectParts). slice_get l i) (sym plain) ∙ get_map (λ (w : Pairing F 2 4). w.plain) z.0 i q e) in
    subst (λ (l : List ObjectParts). Hardened l outs F) plain
    (subst (λ (l : List ObjectParts). Hardened (plains z.0) l F) hard
    (lists_harden F z.0 low high z.1.all (subst AreObjects (sym plain) are.objects) (subst AreObjects (sym hard) are.forms) (have_maps F z.0 inputs) (subst HaveBytes (sym hard) are.bytes)))
