-- Each point of a generated object has the scratch registers that it needs.
use Rattle.std.proofs.Common.{lit≤, ◌≡◌, ◌<◌, ◌≤◌, ℕ, Bool, true, false, cond, List, [], ◌∷◌, length, filter, refl, sym, ap, ◌∙◌, subst, inl, inr, arith, Some}
use Rattle.std.specs.Prelude.{slice_get, ◌&&◌, ◌||◌, not}
use Rattle.std.proofs.lemmas.Bool.{both_ways}
use Rattle.elf_model.proofs.Elements.{place_of}
use Rattle.elf_model.specs.declared.refusals.Refusal.{Refusal}
use Rattle.thumb_instr.specs.declared.instructions.Instr.{Instr}
use Rattle.thumb_instr.specs.Operands.{has}
use Rattle.thumb_instr.specs.Sets.{reads_of, writes_of}
use Rattle.flow_recover.specs.declared.flows.Point.{Point}
use Rattle.flow_recover.specs.declared.flows.Exit.{Exit}
use Rattle.flow_recover.specs.declared.flows.Exit.TheVariants.{Falls, Branch, Transfer, Call, Return, Stops}
use Rattle.flow_recover.specs.Flows.{FlowParts}
use Rattle.flow_recover.specs.WholeFlows.{IsFlow}
use Rattle.liveness.specs.Paths.{boundary_of, IsLiveAfter}
use Rattle.liveness.specs.Paths.IsLiveAfter.{at_boundary, before_next}
use Rattle.seq_core.specs.declared.classes.Class.{Class}
use Rattle.seq_core.specs.declared.classes.Class.TheVariants.{Push, PopReturn, DirectCall}
use Rattle.seq_core.specs.Classes.{IsOf}
use Rattle.seq_core.specs.Needs.{registers_of, changes_flags}
use Rattle.seq_core.proofs.ClassesApart.{one_class}
use Rattle.sim_relation.specs.Accepted.{boundaries}
use Rattle.point_units.specs.Scratch.{is_scratch, scratch_of, has_live_flag, Lacks, ScratchFault}
use Rattle.point_units.specs.Scratch.ScratchFault.{at_point}
use Rattle.gen_object.specs.Generated.{generated}
use Rattle.gen_flow.specs.GeneratedCode.{IsCount, StandsAt}
use Rattle.gen_flow.specs.GeneratedFlow.{GeneratedPointsAreKnown}
use Rattle.gen_hardened.specs.GeneratedHardening.{GeneratedPointsHaveScratch}
use Rattle.gen_hardened.proofs.KnownInstrs.{worked_at, each_of_eight, of_known}
use Rattle.gen_hardened.proofs.LivePoints.{none_live}
use Rattle.gen_hardened.proofs.InstrClasses.{worked_class, worked_of}

-- What needs one register at most and no flags has enough, where r12 is dead: it is neither read nor written.
record IsEasy (i : Instr) (c : Class) : Type 0 where
  of : IsOf c i
  few : registers_of c i ≤ 1
  no_flags : changes_flags c ≡ false
  unread : reads_of i 12 ≡ false
  unwritten : writes_of i 12 ≡ false

abbrev HasEasy : Instr → Type 0
HasEasy i = (c : Class) × IsEasy i c

record Fits (n : ℕ) : Type 0 where
  few : registers_of (worked_class n) (worked_at n) ≤ 1
  no_flags : changes_flags (worked_class n) ≡ false
  unread : reads_of (worked_at n) 12 ≡ false
  unwritten : writes_of (worked_at n) 12 ≡ false

worked_fits : (n : ℕ) → n < 8 → Fits n
unfolding reads_of writes_of
worked_fits =
    each_of_eight Fits (record { few = lit≤ tt; no_flags = refl; unread = refl; unwritten = refl }) (record { few = lit≤ tt; no_flags = refl; unread = refl; unwritten = refl })
    (record { few = lit≤ tt; no_flags = refl; unread = refl; unwritten = refl }) (record { few = lit≤ tt; no_flags = refl; unread = refl; unwritten = refl })
    (record { few = lit≤ tt; no_flags = refl; unread = refl; unwritten = refl }) (record { few = lit≤ tt; no_flags = refl; unread = refl; unwritten = refl })
    (record { few = lit≤ tt; no_flags = refl; unread = refl; unwritten = refl }) (record { few = lit≤ tt; no_flags = refl; unread = refl; unwritten = refl })

worked_easy : (n : ℕ) → n < 8 → HasEasy (worked_at n)
worked_easy n low =
    let fits = worked_fits n low in
    (worked_class n, record { of = worked_of n low; few = fits.few; no_flags = fits.no_flags; unread = fits.unread; unwritten = fits.unwritten })

known_easy : (seed count x : ℕ) (i : Instr) → StandsAt seed count x i → HasEasy i
unfolding reads_of writes_of has
known_easy =
    of_known HasEasy (Push, record { of = refl; few = lit≤ tt; no_flags = refl; unread = refl; unwritten = refl }) worked_easy
    (DirectCall, record { of = refl; few = lit≤ tt; no_flags = refl; unread = refl; unwritten = refl }) (PopReturn, record { of = refl; few = lit≤ tt; no_flags = refl; unread = refl; unwritten = refl })

no_boundary : (e : Exit) → boundary_of (boundaries 4) e 12 ≡ false
unfolding has
no_boundary Falls = refl
no_boundary (Branch q) = refl
no_boundary Transfer = refl
no_boundary Call = refl
no_boundary Return = refl
no_boundary Stops = refl

not_true : (b : Bool) → (b ≡ true → ⊥) → b ≡ false
not_true true h = absurd (h refl)
not_true false h = refl

one_scratch : (live : ℕ → Bool) (i : Instr) → live 12 ≡ false → reads_of i 12 ≡ false → writes_of i 12 ≡ false → 1 ≤ length (scratch_of live i)
one_scratch live i dead unread unwritten = go (is_scratch live i 12) free
  where
    free : is_scratch live i 12 ≡ true
    free = ap (λ (b : Bool). not (b || (reads_of i 12 || writes_of i 12))) dead ∙ (ap (λ (b : Bool). not (b || writes_of i 12)) unread ∙ ap not unwritten)

    rest : List ℕ
    rest = filter (is_scratch live i) (0 ∷ 1 ∷ 2 ∷ 3 ∷ 4 ∷ 5 ∷ 6 ∷ 7 ∷ 8 ∷ 9 ∷ 10 ∷ 11 ∷ [])

    go : (b : Bool) → b ≡ true → 1 ≤ length (cond b (12 ∷ rest) rest)
    go true e = omega arith
    go false e = absurd (both_ways false refl e)

module _ (known : GeneratedPointsAreKnown) (seed count : ℕ) (f : FlowParts) (few : IsCount count) (flow : IsFlow (generated seed count) f) where
  dead_behind : (x : Point) → ¬ IsLiveAfter f (boundaries 4) 12 x
  dead_behind x (at_boundary leaving held) = both_ways (boundary_of (boundaries 4) x.exit 12) (no_boundary x.exit) held
  dead_behind x (before_next q falls leads live) = none_live known seed count f few flow 12 q refl live

  none_lacks : (p : ℕ) (x : Point) → slice_get f.points p ≡ Some x → (need have : ℕ) (flags : Bool) → ¬ Lacks f (boundaries 4) x need have flags
  none_lacks p x at need have flags lacks =
      let easy = known_easy seed count x.offset x.instr (known seed count f p x few flow at).stands in
      let same : lacks.class ≡ easy.0 = one_class lacks.class easy.0 x.instr lacks.of easy.1.of in
      let small : registers_of lacks.class x.instr ≤ 1 = subst (λ (c : Class). registers_of c x.instr ≤ 1) (sym same) easy.1.few in
      let dead : lacks.live 12 ≡ false = not_true (lacks.live 12) (λ e. dead_behind x ((lacks.is_live 12).0 e)) in
      let enough = one_scratch lacks.live x.instr dead easy.1.unread easy.1.unwritten in
      let needs = lacks.needs in
      let have_is = lacks.has in
      elim lacks.lacks [
        | inl less ↦ omega arith
        | inr set ↦
            both_ways flags (lacks.flagged ∙ ap (λ (c : Class). changes_flags c && has_live_flag lacks.live) same ∙ ap (λ (b : Bool). b && has_live_flag lacks.live) easy.1.no_flags) set
      ]

pub points_have_scratch : GeneratedPointsAreKnown → GeneratedPointsHaveScratch
points_have_scratch known seed count f spot few flow refused = go spot.refusal spot.section spot.offset refused.fault
  where
    go : (r : Refusal) (section offset : ℕ) → ScratchFault f (boundaries 4) r section offset → ⊥
    go _ _ _ (at_point x need have flags there lacks) =
        let p = place_of f.points x there in
        none_lacks known seed count f few flow p.0 x p.1 need have flags lacks
