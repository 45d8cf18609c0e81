-- The first row is paired.
use Rattle.std.specs.Prelude.{◌≡◌, zero, suc, true, slice_get, Contains, refl}
use Rattle.std.proofs.Common.{arith, ap, sym, ◌∙◌, subst}
use Rattle.std.proofs.lemmas.Bool.{both_ways}
use Rattle.std.proofs.lemmas.Option.{none-some, same_Some}
use Rattle.elf_model.specs.declared.objects.Section.{Section}
use Rattle.elf_model.proofs.Elements.{contains_none}
use Rattle.thumb_instr.specs.HalfRows.{half_rows}
use Rattle.hardened_form.specs.Places.{UnitPlace}
use Rattle.hardened_form.specs.FirstRow.{plain, hard, movs, bx_lr, first, last, flow, twice, places, carriers, text_of}
use Rattle.hardened_form.proofs.FirstRowForm.{first_row as form}
use Rattle.hardened_form.proofs.ShortLists.{each_at}
use Rattle.sim_relation.specs.Accepted.{boundaries}
use Rattle.sim_relation.specs.Sequences.{IsSequence}
use Rattle.sim_relation.specs.Doing.{IsDone}
use Rattle.sim_relation.specs.Pairs.{HaveGrown, AreCarried, AreKept, AreDone, everywhere}
use Rattle.sim_relation.specs.FirstRow.{done_twice, certificate, FirstRowIsPaired}
use Rattle.sim_relation.proofs.FirstAccepted.{accepted, is_call_exit}
use Rattle.sim_relation.proofs.FirstUnits.{movs_does, bx_does}

movs_stand : IsSequence hard 0 (twice 0) (done_twice 0 movs)
unfolding half_rows
movs_stand = record {
  steps = (record { at = refl; width = refl; instr = refl; reloc = refl }, (record { at = refl; width = refl; instr = refl; reloc = refl }, refl));
  island = refl;
}

bx_stand : IsSequence hard 0 (twice 4) (done_twice 4 bx_lr)
unfolding half_rows
bx_stand = record {
  steps = (record { at = refl; width = refl; instr = refl; reloc = refl }, (record { at = refl; width = refl; instr = refl; reloc = refl }, refl));
  island = refl;
}

pub first_done : IsDone plain hard flow places (boundaries 4) 2 2 true first (twice 0) (done_twice 0 movs)
first_done = record {
  stands = movs_stand;
  inside = omega arith;
  within = omega arith;
  island = λ y e. absurd (none-some y e);
  load = λ y e. absurd (none-some y e);
  short = omega arith;
  does = movs_does;
  spare = λ k c. absurd (contains_none k c);
  flags = λ k s. absurd (both_ways true (sym s) refl);
  end = λ q v e f. let one : 1 ≡ q = same_Some 1 q e in ap (λ (u : UnitPlace). u.start) (same_Some (twice 4) v (ap (slice_get places.units) one ∙ f));
  back = λ e. absurd (both_ways true (sym (ap is_call_exit e)) refl);
}

pub last_done : IsDone plain hard flow places (boundaries 4) 2 2 true last (twice 4) (done_twice 4 bx_lr)
last_done = record {
  stands = bx_stand;
  inside = omega arith;
  within = omega arith;
  island = λ y e. absurd (none-some y e);
  load = λ y e. absurd (none-some y e);
  short = omega arith;
  does = bx_does;
  spare = λ k c. absurd (contains_none k c);
  flags = λ k s. absurd (both_ways true (sym s) refl);
  end = λ q v e. absurd (none-some q e);
  back = λ e. absurd (both_ways true (sym (ap is_call_exit e)) refl);
}

have_grown : HaveGrown plain hard 2
have_grown zero s t e c f =
    let old : 4 ≡ s.size = ap (λ (x : Section). x.size) (same_Some (text_of 4 _) s e) in
    let new : 8 ≡ t.size = ap (λ (x : Section). x.size) (same_Some (text_of 8 _) t f) in
    omega (arith, old, new)
have_grown (suc j) s t e c f = absurd (none-some s e)

-- nothing carries a relocation
none_carried : AreCarried certificate
none_carried k all s e f c there =
    each_at (λ k all. Contains all c → (t : _) × Contains s.steps t × (t.at ≡ c.at)) carriers ((λ n. absurd (contains_none c n)), ((λ n. absurd (contains_none c n)), tt)) k all e there

-- no point has one
none_kept : AreKept flow certificate
none_kept zero k x all e f r = absurd (none-some k (ap (λ (z : _). z.reloc) (same_Some first x e) ∙ r))
none_kept (suc zero) k x all e f r = absurd (none-some k (ap (λ (z : _). z.reloc) (same_Some last x e) ∙ r))
none_kept (suc (suc n)) k x all e f r = absurd (none-some x e)

all_done : AreDone plain hard flow certificate 2 2 4 everywhere
all_done zero x u s e f g =
    subst (λ y. IsDone plain hard flow places (boundaries 4) 2 2 true y u s) (same_Some first x e)
    (subst (λ v. IsDone plain hard flow places (boundaries 4) 2 2 true first v s) (same_Some (twice 0) u f)
    (subst (IsDone plain hard flow places (boundaries 4) 2 2 true first (twice 0)) (same_Some (done_twice 0 movs) s g) first_done))
all_done (suc zero) x u s e f g =
    subst (λ y. IsDone plain hard flow places (boundaries 4) 2 2 true y u s) (same_Some last x e)
    (subst (λ v. IsDone plain hard flow places (boundaries 4) 2 2 true last v s) (same_Some (twice 4) u f)
    (subst (IsDone plain hard flow places (boundaries 4) 2 2 true last (twice 4)) (same_Some (done_twice 4 bx_lr) s g) last_done))
all_done (suc (suc k)) x u s e f g = absurd (none-some x e)

pub first_row : FirstRowIsPaired
first_row = record {
  low = omega arith;
  high = omega arith;
  few = omega arith;
  flow = flow;
  accepted = accepted;
  certificate = certificate;
  form = form;
  grown = have_grown;
  count = refl;
  carried = none_carried;
  kept = none_kept;
  done = all_done;
}
