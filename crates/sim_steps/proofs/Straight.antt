-- Steps that go on to the next instruction, and the law for all.
use Rattle.std.proofs.Common.{◌≡◌, ℕ, ◌+◌, ◌*◌, ◌%◌, ◌^◌, ◌≤◌, Bool, true, false, [], ◌∷◌, Some, Ok, Err, refl, sym, ap, ◌∙◌, subst}
use Rattle.std.specs.Prelude.{◌==◌}
use Rattle.mark_word.specs.Words.{Word}
use Rattle.mark_word.specs.declared.marks.Mark.{Mark}
use Rattle.mark_word.specs.declared.marks.Mark.TheVariants.{Plain, Entry, Return, Low}
use Rattle.thumb_instr.specs.declared.instructions.Instr.{Instr}
use Rattle.thumb_instr.specs.declared.instructions.Instr.TheVariants as instr
use Rattle.thumb_instr.specs.Fields.{HalfFields, LiteralFields, ItFields, TrapFields}
use Rattle.thumb_instr.specs.Blocks.{it_state}
use Rattle.thumb_instr.specs.Formed.{IsFormed}
use Rattle.thumb_instr.specs.Numbers.{renumbered}
use Rattle.thumb_instr.specs.Sets.{reads_of}
use Rattle.thumb_table.specs.declared.faults.FaultKind.TheVariants as fault
use Rattle.thumb_table.specs.Parts.{CodeBytes}
use Rattle.thumb_table.specs.States.{Core, Site, Change, read, unchanged, upright}
use Rattle.thumb_table.specs.Effects.{change, writing, half_word, low_half, completed, mark_at, lies, literal_base}
use Rattle.thumb_table.specs.Values.{moved}
use Rattle.thumb_table.specs.Ordinary.{IsPlain, OrdinaryTop}
use Rattle.seq_core.specs.Meanings.{Ends, meant, nowhere}
use Rattle.seq_core.specs.Reading.{may_jump, starts_block}
use Rattle.seq_core.proofs.Tests.{both_true, same_number}
use Rattle.seq_core.proofs.Written.{ok_is, passed}
use Rattle.sim_charts.specs.Charts.{Chart, Point, leaves, falls}
use Rattle.sim_charts.specs.Alike.{by_chart, SameWord}
use Rattle.sim_charts.specs.Addresses.{IsProperChart}
use Rattle.sim_charts.specs.Flows.{site_of}
use Rattle.sim_charts.specs.Twins.{Twin, ChangesAlike, falls_on}
use Rattle.sim_charts.specs.Changes.{SameChange}
use Rattle.sim_charts.proofs.Alikeness.{Fills, members_alike, memory_alike, stays_marked}
use Rattle.sim_steps.specs.Facts.{Meets, SameNumber, literal}
use Rattle.sim_steps.specs.Steps.{OrdinaryStepsAreAlike}
use Rattle.sim_steps.proofs.Following.{Follows, SamePlace}
use Rattle.sim_steps.proofs.Pairs.{upright_follows, written_pairs}
use Rattle.sim_steps.proofs.Ordinary.{alike}
use Rattle.sim_steps.proofs.Places.{low_same, top_same, top_entry, half_step, literal_word}
use Rattle.sim_steps.proofs.Words.{plain_bits}
use Rattle.sim_steps.proofs.Calm.{calm, is_trap}
use Rattle.sim_steps.proofs.Members.{fills_of}
use Rattle.sim_steps.proofs.Making.{lawful, akin_of, made_alike, falls_alike}
use Rattle.sim_steps.proofs.Jumping.{with_instr, branch_twin, zero_twin, call_twin, call_reg_twin, jump_twin, multi_twin}

module _ (chart : Chart) (code : CodeBytes) (K a n : ℕ) (p : Point) (ends : Ends) (proper : IsProperChart chart) where
  abbrev s : Site
  s = site_of code a p

  abbrev IsTwin : Instr → Type 0
  IsTwin i = Twin chart code K (with_instr p i) s (meant (renumbered n i) ends)

  -- Nothing depends on the place.
  plain_twin : (i : Instr) → may_jump i ≡ false → starts_block i ≡ false → falls i ≡ true → is_trap i ≡ false → SamePlace (by_chart chart) i s nowhere → ((y : Core) → meant (renumbered n i) ends y ≡ change i nowhere y) → IsFormed i → leaves p.way ≡ false → IsTwin i
  plain_twin i jumps starts on no_trap place means formed w = record {
    changes = λ x y h ra ix taken ord made.
        let q : Point = with_instr p i in
        let f' = alike (lawful chart proper) i s nowhere x y h formed place ord.used ra.sound.marked (akin_of chart code K q x y ra) made in
        let f = subst (λ v. Follows (by_chart chart) i x y h v) (sym (means y)) f' in
        made_alike chart code K q x y h _ s formed starts ra made f (falls_alike chart code K q x y h _ s jumps w on made f);
    traps = λ x y ra taken made. absurd (calm i s x no_trap made);
  }

  -- MOVW and MOVT
  half_means : (b : HalfFields) (y : Core) → meant (renumbered n (instr.Half b)) ends y ≡ change (instr.Half (record b { imm = n })) nowhere y
  unfolding meant
  half_means b y = refl

  half_reads : (b : HalfFields) → b.top ≡ true → reads_of (instr.Half b) b.d ≡ true
  unfolding reads_of
  half_reads b e = both_true b.top (b.d == b.d) e (same_number b.d)

  -- the low half, by the mark of its place
  low_alike : (m : Mark) (imm : ℕ) → SameNumber chart false m imm n → SameWord chart (low_half imm m) (low_half n Plain)
  low_alike Plain imm e = e
  low_alike (Entry b) imm e = e
  low_alike (Return b) imm e = e
  low_alike (Low b) imm e = low_same (lawful chart proper) b e.0 imm n Plain e.1 e.2 e.3

  -- what is asked of a MOVT at a place with this mark
  abbrev TopAt : ℕ → Word → Mark → Type 0
  TopAt imm w Plain = IsPlain w.mark
  TopAt imm w place = (completed imm w place).mark ≡ place

  top_at : (d imm : ℕ) (x : Core) (m : Mark) → mark_at code.marks a ≡ m → OrdinaryTop d imm s x → TopAt imm (read x d) m
  top_at d imm x Plain e o = rw e at o
  top_at d imm x (Entry b) e o = subst (λ m. (completed imm (read x d) m).mark ≡ Entry b) e (rw e at o)
  top_at d imm x (Return b) e o = subst (λ m. (completed imm (read x d) m).mark ≡ Return b) e (rw e at o)
  top_at d imm x (Low b) e o = subst (λ m. (completed imm (read x d) m).mark ≡ Low b) e (rw e at o)

  -- the high half
  top_alike : (m : Mark) (imm : ℕ) (w v : Word) → TopAt imm w m → SameWord chart w v → SameNumber chart true m imm n → SameWord chart (completed imm w m) (completed n v Plain)
  top_alike Plain imm w v o k e =
      let b : w.bits ≡ v.bits = plain_bits (lawful chart proper) w.mark w.bits v.bits o k in
      ap (λ c. c * 2 ^ 16 + w.bits % 2 ^ 16) e ∙ ap (λ c. n * 2 ^ 16 + c % 2 ^ 16) b
  top_alike (Entry b) imm w v o k e = top_same (lawful chart proper) b e.0 imm n w v Plain e.1 o e.2 k
  top_alike (Return b) imm w v o k e = let q = top_entry imm w (Return b) (λ c. absurd cc) o in let r = q.1 in absurd cc
  top_alike (Low b) imm w v o k e = let q = top_entry imm w (Low b) (λ c. absurd cc) o in let r = q.1 in absurd cc

  -- either
  half_alike : (top : Bool) (d imm : ℕ) (x y : Core) → (top ≡ true → OrdinaryTop d imm s x) → (top ≡ true → SameWord chart (read x d) (read y d)) → SameNumber chart top (mark_at code.marks a) imm n → SameWord chart (half_word top d imm s x) (half_word top d n nowhere y)
  half_alike false d imm x y o k e = low_alike (mark_at code.marks a) imm e
  half_alike true d imm x y o k e = top_alike (mark_at code.marks a) imm (read x d) (read y d) (top_at d imm x (mark_at code.marks a) refl (o refl)) (k refl) e

  half_twin : (b : HalfFields) → IsFormed (instr.Half b) → leaves p.way ≡ false → SameNumber chart b.top (mark_at code.marks a) b.imm n → IsTwin (instr.Half b)
  half_twin b formed w same = record {
    changes = λ x y h ra ix taken ord made.
        let q : Point = with_instr p (instr.Half b) in
        let k = akin_of chart code K q x y ra in
        let word = half_alike b.top b.d b.imm x y ord.used.proper (λ e. k.regs b.d (half_reads b e)) same in
        let g = half_step (lawful chart proper) b (record b { imm = n }) s nowhere x y h refl word made in
        let f = subst (λ v. Follows (by_chart chart) (instr.Half b) x y h v) (sym (half_means b y)) g.2 in
        made_alike chart code K q x y h _ s formed refl ra made f (falls_alike chart code K q x y h _ s refl w refl made f);
    traps = λ x y ra taken made. absurd (calm (instr.Half b) s x refl made);
  }

  -- literals
  literal_means : (b : LiteralFields) (y : Core) → meant (renumbered n (instr.Literal b)) ends y ≡ upright (writing ((b.t, ends.word) ∷ []))
  unfolding meant
  literal_means b y = refl

  literal_makes : (b : LiteralFields) (x : Core) (h : Change) → change (instr.Literal b) s x ≡ Ok h → upright (writing ((b.t, literal b s) ∷ [])) ≡ Ok h
  unfolding change
  literal_makes b x h e = passed (lies code (moved b.up (literal_base s) b.imm) 4) fault.BadAddress _ h e

  literal_twin : (b : LiteralFields) → IsFormed (instr.Literal b) → leaves p.way ≡ false → SameWord chart (literal b s) ends.word → IsTwin (instr.Literal b)
  literal_twin b formed w same = record {
    changes = λ x y h ra ix taken ord made.
        let q : Point = with_instr p (instr.Literal b) in
        let f' = upright_follows (lawful chart proper) (instr.Literal b) x y _ _ h (λ e f. tt) (written_pairs (lawful chart proper) b.t (literal b s) ends.word same (literal_word b s)) (literal_makes b x h made) in
        let f = subst (λ v. Follows (by_chart chart) (instr.Literal b) x y h v) (sym (literal_means b y)) f' in
        made_alike chart code K q x y h _ s formed refl ra made f (falls_alike chart code K q x y h _ s refl w refl made f);
    traps = λ x y ra taken made. absurd (calm (instr.Literal b) s x refl made);
  }

  -- IT, which sets the plain IT state alone
  abbrev blocking : ItFields → Change
  blocking b = record unchanged { it = Some (it_state b.first b.mask) }

  it_means : (b : ItFields) (y : Core) → meant (renumbered n (instr.It b)) ends y ≡ Ok unchanged
  unfolding meant
  it_means b y = refl

  it_makes : (b : ItFields) (x : Core) → change (instr.It b) s x ≡ Ok (blocking b)
  unfolding change
  it_makes b x = refl

  nothing_same : SameChange (by_chart chart) unchanged unchanged
  nothing_same = record { regs = tt; n = refl; z = refl; c = refl; v = refl; cells = tt; it = refl; exit = tt }

  it_twin : (b : ItFields) → IsFormed (instr.It b) → leaves p.way ≡ false → IsTwin (instr.It b)
  it_twin b formed w = record {
    changes = λ x y h ra ix taken ord made.
        let q : Point = with_instr p (instr.It b) in
        let is : blocking b ≡ h = ok_is _ h _ (it_makes b x) made in
        let fills = fills_of (instr.It b) s x (blocking b) formed (it_makes b x) in
        let nothing : Fills (instr.It b) unchanged = record { regs = fills.regs; n = fills.n; z = fills.z; c = fills.c; v = fills.v } in
        subst (λ c. (g : Change) × (meant (renumbered n (instr.It b)) ends y ≡ Ok g) × ChangesAlike chart code K q x y c g) is (
          unchanged,
          it_means b y,
          record {
            members = λ k d. let m = members_alike chart (instr.It b) x y unchanged unchanged ra.sound nothing nothing_same k d in record { word = m.word; n = m.n; z = m.z; c = m.c; v = m.v };
            memory = memory_alike (by_chart chart) x y unchanged unchanged nothing_same.cells ra.store.memory;
            marked = stays_marked x (blocking b) tt tt ra.sound.marked;
            it = refl;
            goes = falls_on w refl;
          },
        );
    traps = λ x y ra taken made. absurd (calm (instr.It b) s x refl made);
  }

  -- UDF
  trap_means : (b : TrapFields) (y : Core) → meant (renumbered n (instr.Trap b)) ends y ≡ Err fault.Trap
  unfolding meant change
  trap_means b y = refl

  trap_makes : (b : TrapFields) (x : Core) → change (instr.Trap b) s x ≡ Err fault.Trap
  unfolding change
  trap_makes b x = refl

  trap_twin : (b : TrapFields) → IsTwin (instr.Trap b)
  trap_twin b = record {
    changes = λ x y h ra ix taken ord made. let q = sym (trap_makes b x) ∙ made in absurd cc;
    traps = λ x y ra taken made. trap_means b y;
  }

module _ (chart : Chart) (code : CodeBytes) (K a n : ℕ) (p : Point) (ends : Ends) (proper : IsProperChart chart) (few : K ≤ 4) (there : chart a ≡ Some p) where
  -- by the kind of instruction
  by_kind : (i : Instr) → IsFormed i → Meets chart code a p n ends i → Twin chart code K (with_instr p i) (site_of code a p) (meant (renumbered n i) ends)
  unfolding meant
  by_kind (instr.Alu b) f w = plain_twin chart code K a n p ends proper (instr.Alu b) refl refl refl refl tt (λ y. refl) f w
  by_kind (instr.Move b) f w = plain_twin chart code K a n p ends proper (instr.Move b) refl refl refl refl tt (λ y. refl) f w
  by_kind (instr.Test b) f w = plain_twin chart code K a n p ends proper (instr.Test b) refl refl refl refl tt (λ y. refl) f w
  by_kind (instr.ShiftBy b) f w = plain_twin chart code K a n p ends proper (instr.ShiftBy b) refl refl refl refl tt (λ y. refl) f w
  by_kind (instr.Wide b) f w = plain_twin chart code K a n p ends proper (instr.Wide b) refl refl refl refl tt (λ y. refl) f w
  by_kind (instr.Half b) f w = half_twin chart code K a n p ends proper b f w.0 w.1
  by_kind (instr.Field b) f w = plain_twin chart code K a n p ends proper (instr.Field b) refl refl refl refl tt (λ y. refl) f w
  by_kind (instr.Unary b) f w = plain_twin chart code K a n p ends proper (instr.Unary b) refl refl refl refl tt (λ y. refl) f w
  by_kind (instr.Mul b) f w = plain_twin chart code K a n p ends proper (instr.Mul b) refl refl refl refl tt (λ y. refl) f w
  by_kind (instr.MulAcc b) f w = plain_twin chart code K a n p ends proper (instr.MulAcc b) refl refl refl refl tt (λ y. refl) f w
  by_kind (instr.LongMul b) f w = plain_twin chart code K a n p ends proper (instr.LongMul b) refl refl refl refl tt (λ y. refl) f w
  by_kind (instr.Div b) f w = plain_twin chart code K a n p ends proper (instr.Div b) refl refl refl refl tt (λ y. refl) f w
  by_kind (instr.Access b) f w = plain_twin chart code K a n p ends proper (instr.Access b) refl refl refl refl tt (λ y. refl) f w
  by_kind (instr.Pair b) f w = plain_twin chart code K a n p ends proper (instr.Pair b) refl refl refl refl tt (λ y. refl) f w
  by_kind (instr.Multi b) f w = multi_twin chart code K a n p ends proper few there b f w
  by_kind (instr.Literal b) f w = literal_twin chart code K a n p ends proper b f w.0 w.1
  by_kind (instr.Adr b) f w = absurd w
  by_kind (instr.Branch b) f w = branch_twin chart code K a n p ends proper few there b f w
  by_kind (instr.ZeroBranch b) f w = zero_twin chart code K a n p ends proper few there b f w.0 w.1 w.2 w.3
  by_kind (instr.Call b) f w = call_twin chart code K a n p ends proper few there b f w.0 w.1 w.2 w.3 w.4 w.5
  by_kind (instr.CallReg b) f w = call_reg_twin chart code K a n p ends proper few there b f w.0 w.1
  by_kind (instr.Jump b) f w = jump_twin chart code K a n p ends proper few there b f w
  by_kind (instr.It b) f w = it_twin chart code K a n p ends proper b f w
  by_kind (instr.Nothing b) f w = plain_twin chart code K a n p ends proper (instr.Nothing b) refl refl refl refl tt (λ y. refl) f w
  by_kind (instr.Trap b) f w = trap_twin chart code K a n p ends proper b

-- AN ORDINARY STEP IS ALIKE
pub ordinary_steps : OrdinaryStepsAreAlike
ordinary_steps chart code K a n p ends proper few there formed meets = by_kind chart code K a n p ends proper few there p.instr formed meets
