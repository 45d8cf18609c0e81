-- Steps that jump: branches, calls, and jumps to words.
use Rattle.std.proofs.Common.{◌≡◌, ℕ, ◌+◌, ◌*◌, ◌≤◌, ◌⊎◌, inl, inr, ⊎_elim, Bool, true, false, List, length, Some, Ok, refl, sym, ap, ◌∙◌, subst, arith}
use Rattle.std.specs.Prelude.{◌==◌, not, if◌then◌else◌}
use Rattle.std.proofs.lemmas.Bool.{eq-eqb, eqb-true, cases_lt}
use Rattle.mark_word.specs.Words.{Word}
use Rattle.mark_word.specs.declared.marks.Mark.TheVariants as mark
use Rattle.thumb_instr.specs.declared.instructions.Instr.{Instr}
use Rattle.thumb_instr.specs.declared.instructions.Instr.TheVariants as instr
use Rattle.thumb_instr.specs.Fields.{BranchFields, ZeroBranchFields, CallFields, CallRegFields, JumpFields, MultiFields}
use Rattle.thumb_instr.specs.Formed.{IsFormed}
use Rattle.thumb_instr.specs.Numbers.{renumbered}
use Rattle.thumb_instr.specs.Sets.{reads_of}
use Rattle.thumb_table.specs.Parts.{CodeBytes, Memory}
use Rattle.thumb_table.specs.States.{Core, Site, Change, Outcome, Falls, Jumps, read}
use Rattle.thumb_table.specs.Conditions.{holds}
use Rattle.thumb_table.specs.Values.{away}
use Rattle.thumb_table.specs.Effects.{change, value, branch_if, jump_to, link, return_address, registers, lowest, transfer_size, word_at}
use Rattle.thumb_table.specs.Ordinary.{OrdinaryReturn, OrdinaryJump, OrdinaryList, IsOrdinaryUse}
use Rattle.seq_core.specs.Meanings.{Ends, meant, nowhere, linking}
use Rattle.seq_core.proofs.Seen.{holds_same}
use Rattle.seq_core.proofs.Written.{ok_is}
use Rattle.seq_core.proofs.Tests.{same_number}
use Rattle.sim_charts.specs.Charts.{Chart, Point, Way, Onward, Branch, Transfer, Call, Return, leaves, cond_of}
use Rattle.sim_charts.specs.Alike.{by_chart, BackOf}
use Rattle.sim_charts.specs.Addresses.{IsProperChart}
use Rattle.sim_charts.specs.Flows.{site_of}
use Rattle.sim_charts.specs.Twins.{Twin, GoesAlike, IsNarrowUse, branches, enters, falls_on}
use Rattle.sim_charts.proofs.Sets.{and_right, or_right}
use Rattle.sim_steps.specs.Facts.{LeadsTo, to_point, to_entry}
use Rattle.sim_steps.proofs.Following.{Follows, SameTarget, popped_if}
use Rattle.sim_steps.proofs.Words.{zero_same}
use Rattle.sim_steps.proofs.Pairs.{Pairs, known_follows, branch_pairs}
use Rattle.sim_steps.proofs.Ordinary.{alike, jump_follows, jump_target}
use Rattle.sim_steps.proofs.Calm.{calm}
use Rattle.sim_steps.proofs.Making.{lawful, akin_of, made_alike, falls_alike, target_alike}

-- a point with this instruction
abbrev pub with_instr : Point → Instr → Point
with_instr p i = record p { instr = i }

module _ (chart : Chart) (code : CodeBytes) (K a n : ℕ) (p : Point) (ends : Ends) (proper : IsProperChart chart) (few : K ≤ 4) (there : chart a ≡ Some p) where
  abbrev s : Site
  s = site_of code a p

  abbrev IsTwin : Instr → Type 0
  IsTwin i = Twin chart code K (with_instr p i) s (meant (renumbered n i) ends)

  -- ---- branches

  branch_means : (b : BranchFields) (y : Core) → meant (renumbered n (instr.Branch b)) ends y ≡ Ok (branch_if (holds b.cond y) ends.target)
  unfolding meant
  branch_means b y = refl

  branch_makes : (b : BranchFields) (x : Core) → change (instr.Branch b) s x ≡ Ok (branch_if (holds b.cond x) (away (a + 4) b.offset))
  unfolding change
  branch_makes b x = refl

  branch_goes : (q : Point) (t h : ℕ) → LeadsTo chart q.way t h → GoesAlike chart code K q (Jumps t) (Jumps h)
  branch_goes q t h (to_point r w e k) = subst (λ c. GoesAlike chart code K q (Jumps t) (Jumps c)) (sym k) (branches t r w e)
  branch_goes q t h (to_entry r w e en k) = subst (λ c. GoesAlike chart code K q (Jumps t) (Jumps c)) (sym k) (enters t r (inl w) e en)

  pub branch_twin : (b : BranchFields) → IsFormed (instr.Branch b) → LeadsTo chart p.way (away (a + 4) b.offset) ends.target → IsTwin (instr.Branch b)
  branch_twin b formed leads = record {
    changes = λ x y h ra ix taken ord made.
        let k = akin_of chart code K (with_instr p (instr.Branch b)) x y ra in
        let here : holds b.cond x ≡ true = and_right (holds (cond_of p) x) (holds b.cond x) taken in
        let other : holds b.cond y ≡ true = sym (holds_same b.cond x y (λ e. k.flags.n (or_right _ _ e)) (λ e. k.flags.z (or_right _ _ e)) (λ e. k.flags.c (or_right _ _ e)) (λ e. k.flags.v (or_right _ _ e))) ∙ here in
        let is : branch_if true (away (a + 4) b.offset) ≡ h = ok_is _ h _ (branch_makes b x ∙ ap (λ v. Ok (branch_if v (away (a + 4) b.offset))) here) made in
        let f = known_follows (lawful chart proper) (instr.Branch b) x y _ _ h _ (λ e f. tt) (branch_pairs (lawful chart proper) true (away (a + 4) b.offset) ends.target) is (branch_means b y ∙ ap (λ v. Ok (branch_if v ends.target)) other) in
        let goes = subst (λ c. GoesAlike chart code K (with_instr p (instr.Branch b)) c (Jumps ends.target)) (ap (λ (c : Change). c.exit) is) (branch_goes (with_instr p (instr.Branch b)) (away (a + 4) b.offset) ends.target leads) in
        made_alike chart code K (with_instr p (instr.Branch b)) x y h _ s formed refl ra made f goes;
    traps = λ x y ra taken made. absurd (calm (instr.Branch b) s x refl made);
  }

  -- ---- CBZ and CBNZ

  abbrev tested : ZeroBranchFields → Core → Bool
  tested b x = if b.nonzero then not (value x b.n == 0) else value x b.n == 0

  zero_means : (b : ZeroBranchFields) (y : Core) → meant (renumbered n (instr.ZeroBranch b)) ends y ≡ Ok (branch_if (tested b y) ends.target)
  unfolding meant
  zero_means b y = refl

  zero_makes : (b : ZeroBranchFields) (x : Core) → change (instr.ZeroBranch b) s x ≡ Ok (branch_if (tested b x) (away (a + 4) b.offset))
  unfolding change
  zero_makes b x = refl

  zero_reads : (b : ZeroBranchFields) → reads_of (instr.ZeroBranch b) b.n ≡ true
  unfolding reads_of
  zero_reads b = same_number b.n

  zero_goes : (q : Point) (r : Point) (t : ℕ) (v : Bool) → q.way ≡ Branch t → chart t ≡ Some r → ends.target ≡ r.place → leaves q.way ≡ false → (v ≡ false → GoesAlike chart code K q Falls Falls) → GoesAlike chart code K q (branch_if v t).exit (branch_if v ends.target).exit
  zero_goes q r t true w e k l f = subst (λ c. GoesAlike chart code K q (Jumps t) (Jumps c)) (sym k) (branches t r w e)
  zero_goes q r t false w e k l f = f refl

  pub zero_twin : (b : ZeroBranchFields) → IsFormed (instr.ZeroBranch b) → (r : Point) → p.way ≡ Branch (away (a + 4) b.offset) → chart (away (a + 4) b.offset) ≡ Some r → ends.target ≡ r.place → IsTwin (instr.ZeroBranch b)
  zero_twin b formed r w e place = record {
    changes = λ x y h ra ix taken ord made.
        let q : Point = with_instr p (instr.ZeroBranch b) in
        let k = akin_of chart code K q x y ra in
        let z : (value x b.n == 0) ≡ (value y b.n == 0) = zero_same (lawful chart proper) (read x b.n) (read y b.n) (ra.sound.marked.words b.n) (k.regs b.n (zero_reads b)) in
        let same : tested b x ≡ tested b y = ap (λ v. if b.nonzero then not v else v) z in
        let is : branch_if (tested b x) (away (a + 4) b.offset) ≡ h = ok_is _ h _ (zero_makes b x) made in
        let f = known_follows (lawful chart proper) (instr.ZeroBranch b) x y _ _ h _ (λ e f. tt) (branch_pairs (lawful chart proper) (tested b x) (away (a + 4) b.offset) ends.target) is (zero_means b y ∙ ap (λ v. Ok (branch_if v ends.target)) (sym same)) in
        let stays : leaves p.way ≡ false = ap leaves w in
        let goes = subst (λ c. GoesAlike chart code K q c (branch_if (tested b x) ends.target).exit) (ap (λ (c : Change). c.exit) is) (zero_goes q r (away (a + 4) b.offset) (tested b x) w e place stays (λ v. falls_on stays refl)) in
        made_alike chart code K q x y h _ s formed refl ra made f goes;
    traps = λ x y ra taken made. absurd (calm (instr.ZeroBranch b) s x refl made);
  }

  -- ---- calls

  returning : p.way ≡ Call → return_address s ≡ a + p.width + 1
  returning w =
      let e = proper.even a p there in
      let v = proper.narrow a p there in
      ⊎_elim (λ (k : p.width ≡ 2). omega (arith, e.0, k)) (λ (k : p.width ≡ 4). omega (arith, e.0, k)) v

  back_is : p.way ≡ Call → ends.back ≡ p.back → BackOf chart (return_address s) (ends.back + 1)
  back_is w e = (a, p, there, w, returning w, ap (λ b. b + 1) e)

  linked : p.way ≡ Call → ends.back ≡ p.back → Pairs (lawful chart proper) (link s) (linking ends.back)
  linked w e = record { same = record { regs = (refl, inr (back_is w e), tt); n = refl; z = refl; c = refl; v = refl; cells = tt; it = refl; exit = tt }; words = (eq-eqb _ _ refl, tt); cells = tt }

  called : (t : ℕ) → p.way ≡ Call → ends.back ≡ p.back → Pairs (lawful chart proper) (record (link s) { exit = Jumps t }) (record (linking ends.back) { exit = Jumps ends.target })
  called t w e = record { same = record { regs = (refl, inr (back_is w e), tt); n = refl; z = refl; c = refl; v = refl; cells = tt; it = refl; exit = tt }; words = (eq-eqb _ _ refl, tt); cells = tt }

  call_means : (b : CallFields) (y : Core) → meant (renumbered n (instr.Call b)) ends y ≡ Ok (record (linking ends.back) { exit = Jumps ends.target })
  unfolding meant
  call_means b y = refl

  call_makes : (b : CallFields) (x : Core) → change (instr.Call b) s x ≡ Ok (record (link s) { exit = Jumps (away (a + 4) b.offset) })
  unfolding change
  call_makes b x = refl

  pub call_twin : (b : CallFields) → IsFormed (instr.Call b) → (r : Point) → p.way ≡ Call → ends.back ≡ p.back → chart (away (a + 4) b.offset) ≡ Some r → r.entry ≡ true → ends.target ≡ r.place → IsTwin (instr.Call b)
  call_twin b formed r w back e en place = record {
    changes = λ x y h ra ix taken ord made.
        let q : Point = with_instr p (instr.Call b) in
        let t : ℕ = away (a + 4) b.offset in
        let is : record (link s) { exit = Jumps t } ≡ h = ok_is _ h _ (call_makes b x) made in
        let f = known_follows (lawful chart proper) (instr.Call b) x y _ _ h _ (λ e f. tt) (called t w back) is (call_means b y) in
        let enter : GoesAlike chart code K q (Jumps t) (Jumps ends.target) = subst (λ c. GoesAlike chart code K q (Jumps t) (Jumps c)) (sym place) (enters t r (inr w) e en) in
        let goes = subst (λ c. GoesAlike chart code K q c (Jumps ends.target)) (ap (λ (c : Change). c.exit) is) enter in
        made_alike chart code K q x y h _ s formed refl ra made f goes;
    traps = λ x y ra taken made. absurd (calm (instr.Call b) s x refl made);
  }

  call_reg_means : (b : CallRegFields) (y : Core) → meant (renumbered n (instr.CallReg b)) ends y ≡ jump_to (value y b.m) (linking ends.back)
  unfolding meant
  call_reg_means b y = refl

  call_reg_makes : (b : CallRegFields) (x : Core) → change (instr.CallReg b) s x ≡ jump_to (value x b.m) (link s)
  unfolding change
  call_reg_makes b x = refl

  call_reg_reads : (b : CallRegFields) → reads_of (instr.CallReg b) b.m ≡ true
  unfolding reads_of
  call_reg_reads b = same_number b.m

  pub call_reg_twin : (b : CallRegFields) → IsFormed (instr.CallReg b) → p.way ≡ Call → ends.back ≡ p.back → IsTwin (instr.CallReg b)
  call_reg_twin b formed w back = record {
    changes = λ x y h ra ix taken ord made.
        let q : Point = with_instr p (instr.CallReg b) in
        let k = akin_of chart code K q x y ra in
        let o : OrdinaryJump code (read x b.m) = ord.used.proper in
        let f' = jump_follows (lawful chart proper) (instr.CallReg b) x y (read x b.m) (read y b.m) (link s) (linking ends.back) h refl refl (jump_target code (read x b.m) o) (ra.sound.marked.words b.m) (k.regs b.m (call_reg_reads b)) (linked w back) (sym (call_reg_makes b x) ∙ made) in
        let f = subst (λ v. Follows (by_chart chart) (instr.CallReg b) x y h v) (sym (call_reg_means b y)) f' in
        let goes = target_alike chart code K q proper (read x b.m) (read y b.m) h.exit f.change.exit f.target (ap leaves w) o (λ e. let c = sym w ∙ e in absurd cc) in
        made_alike chart code K q x y h _ s formed refl ra made f goes;
    traps = λ x y ra taken made. absurd (calm (instr.CallReg b) s x refl made);
  }

  -- ---- jumps to a register

  jump_means : (b : JumpFields) (y : Core) → meant (renumbered n (instr.Jump b)) ends y ≡ change (instr.Jump b) nowhere y
  unfolding meant
  jump_means b y = refl

  jump_reads : (b : JumpFields) → b.m ≡ 14 → reads_of (instr.Jump b) 14 ≡ true
  unfolding reads_of
  jump_reads b e = eq-eqb 14 b.m (sym e)

  jump_leaves : (v : Bool) (w : Way) → w ≡ (if v then Return else Transfer) → leaves w ≡ true
  jump_leaves true w e = ap leaves e
  jump_leaves false w e = ap leaves e

  returns_by : (v : Bool) (w : Way) → w ≡ (if v then Return else Transfer) → w ≡ Return → v ≡ true
  returns_by true w e r = refl
  returns_by false w e r = let q = sym e ∙ r in absurd cc

  -- with fewer than four results a return goes to a return address
  narrow_return : (w : Word) (b : ℕ) → w.mark ≡ mark.Return b → OrdinaryJump code w → OrdinaryReturn code w
  narrow_return w b e o = ⊎_elim (λ (f : (c : ℕ) × (w.mark ≡ mark.Entry c)). let q = sym e ∙ f.1 in absurd cc) (λ f. f) o

  jump_returns : (b : JumpFields) (x : Core) → b.m ≡ 14 → IsNarrowUse K (instr.Jump b) x → OrdinaryJump code (read x b.m) → OrdinaryReturn code (read x b.m) ⊎ ((K ≡ 4) × (reads_of (instr.Jump b) 14 ≡ true))
  jump_returns b x e narrow o = elim (cases_lt K 4) [
    | inl lt ↦
        let m = narrow lt (eq-eqb b.m 14 e) in
        inl (narrow_return (read x b.m) m.0 (subst (λ r. (read x r).mark ≡ mark.Return m.0) (sym e) m.1) o)
    | inr ge ↦ inr (omega (arith, ge, few), jump_reads b e)
  ]

  pub jump_twin : (b : JumpFields) → IsFormed (instr.Jump b) → p.way ≡ (if b.m == 14 then Return else Transfer) → IsTwin (instr.Jump b)
  jump_twin b formed w = record {
    changes = λ x y h ra ix taken ord made.
        let q : Point = with_instr p (instr.Jump b) in
        let o : OrdinaryJump code (read x b.m) = ord.used.proper in
        let f' = alike (lawful chart proper) (instr.Jump b) s nowhere x y h formed tt ord.used ra.sound.marked (akin_of chart code K q x y ra) made in
        let f = subst (λ v. Follows (by_chart chart) (instr.Jump b) x y h v) (sym (jump_means b y)) f' in
        let goes = target_alike chart code K q proper (read x b.m) (read y b.m) h.exit f.change.exit f.target (jump_leaves (b.m == 14) p.way w) o (λ e. jump_returns b x (eqb-true b.m 14 (returns_by (b.m == 14) p.way w e)) ord.narrow o) in
        made_alike chart code K q x y h _ s formed refl ra made f goes;
    traps = λ x y ra taken made. absurd (calm (instr.Jump b) s x refl made);
  }

  -- ---- lists, with pc behind them or without

  multi_means : (b : MultiFields) (y : Core) → meant (renumbered n (instr.Multi b)) ends y ≡ change (instr.Multi b) nowhere y
  unfolding meant
  multi_means b y = refl

  list_return : (load pc : Bool) (at : ℕ) (rs : List ℕ) (m : Memory) → OrdinaryList code load pc at rs m → load ≡ true → pc ≡ true → OrdinaryReturn code (word_at m (at + 4 * length rs)).word
  list_return true true at rs m o e f = o.2
  list_return true false at rs m o e f = absurd cc
  list_return false pc at rs m o e f = absurd cc

  abbrev popped : MultiFields → Core → Word
  popped b x = (word_at x.memory (lowest b.down (value x b.n) (transfer_size b.list.0 b.pc) + 4 * length (registers b.list.0))).word

  multi_goes : (b : MultiFields) (x y : Core) (h : Change) (o : Outcome) (pc : Bool) → b.pc ≡ pc → IsFormed (instr.Multi b) → p.way ≡ (if pc then Return else Onward) → IsOrdinaryUse (instr.Multi b) s x → change (instr.Multi b) s x ≡ Ok h →
      (f : Follows (by_chart chart) (instr.Multi b) x y h o) → GoesAlike chart code K (with_instr p (instr.Multi b)) h.exit f.change.exit
  multi_goes b x y h o true e formed w ord made f =
      let q : Point = with_instr p (instr.Multi b) in
      let back : OrdinaryReturn code (popped b x) = list_return b.load b.pc _ (registers b.list.0) x.memory ord.proper (formed.pc e) e in
      let target = subst (λ v. SameTarget (by_chart chart) (popped_if v (popped b x)) (popped_if v (popped b y)) h.exit f.change.exit) e f.target in
      target_alike chart code K q proper (popped b x) (popped b y) h.exit f.change.exit target (ap leaves w) (inr back) (λ r. inl back)
  multi_goes b x y h o false e formed w ord made f = falls_alike chart code K (with_instr p (instr.Multi b)) x y h o s e (ap leaves w) (ap not e) made f

  pub multi_twin : (b : MultiFields) → IsFormed (instr.Multi b) → p.way ≡ (if b.pc then Return else Onward) → IsTwin (instr.Multi b)
  multi_twin b formed w = record {
    changes = λ x y h ra ix taken ord made.
        let q : Point = with_instr p (instr.Multi b) in
        let f' = alike (lawful chart proper) (instr.Multi b) s nowhere x y h formed tt ord.used ra.sound.marked (akin_of chart code K q x y ra) made in
        let f = subst (λ v. Follows (by_chart chart) (instr.Multi b) x y h v) (sym (multi_means b y)) f' in
        made_alike chart code K q x y h _ s formed refl ra made f (multi_goes b x y h _ b.pc refl formed w ord.used made f);
    traps = λ x y ra taken made. absurd (calm (instr.Multi b) s x refl made);
  }
