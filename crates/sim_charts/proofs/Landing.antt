-- Where a jump leads in both runs.
use Rattle.std.proofs.Common.{◌≡◌, ℕ, ◌+◌, ◌-◌, ◌%◌, ◌≤◌, ◌⊎◌, inl, inr, ⊎_elim, Bool, true, Some, refl, sym, ap, ◌∙◌, subst, arith, IsTrue}
use Rattle.std.specs.Prelude.{◌||◌}
use Rattle.std.specs.Prelude.{◌==◌}
use Rattle.std.proofs.lemmas.Bool.{eqb-true}
use Rattle.mark_word.specs.Words.{Word, bits_of, is_word}
use Rattle.mark_word.specs.declared.marks.Mark.TheVariants as mark
use Rattle.thumb_instr.specs.Sets.{reads_of}
use Rattle.thumb_table.specs.Parts.{CodeBytes}
use Rattle.thumb_table.specs.Ordinary.{IsClear, OrdinaryReturn, OrdinaryJump}
use Rattle.thumb_table.specs.Schedules.{exit}
use Rattle.sim_charts.specs.Charts.{Chart, Point, Way, Onward, Branch, Transfer, Call, Return, Stops, leaves, jumps, sets_of}
use Rattle.sim_charts.specs.Boundaries.{boundary, at_transfer, at_call, at_return}
use Rattle.sim_charts.specs.Words.{SameBits}
use Rattle.sim_charts.specs.Alike.{by_chart, SameWord, EntryTo, ReturnTo, BackOf}
use Rattle.sim_charts.specs.Linked.{Linked, PairedUnit}
use Rattle.sim_charts.proofs.Sets.{or_left, or_right, transfer_cases, call_returns, return_calls}

-- a member that is the same behind a point that leaves: kept by its boundary set, or lr, which is read or set there
abbrev pub IsCarried : ℕ → Point → ℕ → Type 0
IsCarried K p k = (boundary K p.way k ≡ true) ⊎ ((k ≡ 14) × ((reads_of p.instr 14 || sets_of p.instr 14) ≡ true))

-- both runs come to a point and its place, or to the end of the whole call
pub record LandsAt (chart : Chart) (K : ℕ) (p : Point) (t t' : ℕ) : Type 0 where
  pub point : Point
  pub there : chart t ≡ Some point
  pub placed : t' ≡ point.place
  pub clear : point.it ≡ 0
  pub carried : (k : ℕ) → point.live k ≡ true → IsCarried K p k

abbrev pub Lands : Chart → ℕ → Point → ℕ → ℕ → Type 0
Lands chart K p t t' = ((t ≡ exit) × (t' ≡ exit)) ⊎ LandsAt chart K p t t'

-- results are kept by each way that leaves
pub result_carried : (K k : ℕ) (way : Way) → K ≤ 4 → leaves way ≡ true → at_return K k ≡ true → boundary K way k ≡ true
result_carried K k Onward le e h = absurd cc
result_carried K k (Branch t) le e h = absurd cc
result_carried K k Transfer le e h = or_left (at_call k) _ (return_calls K k le h)
result_carried K k Call le e h = return_calls K k le h
result_carried K k Return le e h = h
result_carried K k Stops le e h = absurd cc

module _ (chart : Chart) (plain hard : CodeBytes) (c K F : ℕ) (may_skip : ℕ → Bool) (linked : Linked chart plain hard c K F may_skip) where
  module _ (a : ℕ) (p : Point) (u : PairedUnit chart plain hard c K F may_skip a p) where
    -- what an entry has live is kept on the way there
    by_transfer : (k : ℕ) → p.way ≡ Transfer → at_transfer k ≡ true → IsCarried K p k
    by_transfer k e h = inl (subst (λ w. boundary K w k ≡ true) (sym e) h)

    by_call : (k : ℕ) → p.way ≡ Call → at_transfer k ≡ true → IsCarried K p k
    by_call k e h = ⊎_elim
        (λ (l : at_call k ≡ true). inl (subst (λ w. boundary K w k ≡ true) (sym e) l))
        (λ (r : k ≡ 14). inr (r, or_right (reads_of p.instr 14) (sets_of p.instr 14) (u.goes.links e)))
        (transfer_cases k h)

    by_return : (k : ℕ) → p.way ≡ Return → K ≡ 4 → reads_of p.instr 14 ≡ true → at_transfer k ≡ true → IsCarried K p k
    by_return k e four lr h = ⊎_elim
        (λ (l : at_call k ≡ true). inl (subst (λ w. boundary K w k ≡ true) (sym e) (subst (λ j. at_return j k ≡ true) (sym four) (call_returns k l))))
        (λ (r : k ≡ 14). inr (r, or_left (reads_of p.instr 14) (sets_of p.instr 14) lr))
        (transfer_cases k h)

    at_entry : (t : ℕ) (q : Point) → chart t ≡ Some q → q.entry ≡ true → ((k : ℕ) → at_transfer k ≡ true → IsCarried K p k) → LandsAt chart K p t q.place
    at_entry t q there e f =
        let v = linked.units t q there in
        record { point = q; there = there; placed = refl; clear = v.goes.entry e; carried = λ k l. f k (v.lives.entered k e l) }

    pub enters_lands : (t : ℕ) (q : Point) → (p.way ≡ Transfer) ⊎ (p.way ≡ Call) → chart t ≡ Some q → q.entry ≡ true → Lands chart K p t q.place
    enters_lands t q w there e = inr (at_entry t q there e (λ k h. ⊎_elim (λ l. by_transfer k l h) (λ r. by_call k r h) w))

    -- to the entry whose address a word is
    to_entry : (b h : ℕ) → EntryTo chart b h → ((k : ℕ) → at_transfer k ≡ true → IsCarried K p k) → Lands chart K p (b - 1) (h - 1)
    to_entry b h e f =
        let et : e.0 ≡ b - 1 = omega (arith, e.4) in
        let eh : e.1.place ≡ h - 1 = omega (arith, e.5) in
        inr (subst (λ t. LandsAt chart K p t (h - 1)) et (subst (λ t. LandsAt chart K p e.0 t) eh (at_entry e.0 e.1 e.2 e.3 f)))

    -- back behind a call
    to_back : (b h : ℕ) → BackOf chart b h → leaves p.way ≡ true → IsClear plain (b - b % 2) → b % 2 ≡ 1 → Lands chart K p (b - 1) (h - 1)
    to_back b h r e clear odd =
        let v = linked.units r.0 r.1 r.2 in
        let eb : b - b % 2 ≡ r.0 + r.1.width = omega (arith, r.4, odd) in
        let behind : r.0 + r.1.width ≡ b - 1 = omega (arith, r.4) in
        let next = v.goes.returns r.3 (subst (λ t. IsClear plain t) eb clear) in
        let q = v.goes.next (r.0 + r.1.width) next in
        let eback = v.goes.back (r.0 + r.1.width) r.3 next in
        let placed : h - 1 ≡ q.0.place = omega (arith, r.5, eback, q.3) in
        inr (subst (λ t. LandsAt chart K p t (h - 1)) behind (record {
          point = q.0;
          there = q.1;
          placed = placed;
          clear = q.4 ∙ v.goes.last (ap jumps r.3);
          carried = λ k l. inl (result_carried K k p.way linked.few e (v.lives.returned k (r.0 + r.1.width) q.0 r.3 next q.1 l));
        }))

    to_return : (b h : ℕ) → ReturnTo chart b h → leaves p.way ≡ true → (b ≡ 0x7FFFFFFF) ⊎ IsClear plain (b - b % 2) → b % 2 ≡ 1 → Lands chart K p (b - 1) (h - 1)
    to_return b h r e clear odd = ⊎_elim
        (λ (x : (b ≡ 0x7FFFFFFF) × (h ≡ 0x7FFFFFFF)). inl (omega (arith, x.0), omega (arith, x.1)))
        (λ (x : BackOf chart b h). ⊎_elim
        (λ (f : b ≡ 0x7FFFFFFF). let low = linked.low x.0 x.1 x.2 in absurd (low.0 (omega (arith, f, x.4))))
        (λ (f : IsClear plain (b - b % 2)). to_back b h x e f odd)
        clear)
        r

    entry_word : (w v : Word) (a' : ℕ) → w.mark ≡ mark.Entry a' → IsTrue (is_word w) → SameWord chart w v → EntryTo chart w.bits v.bits
    entry_word w v a' e i s =
        let s' : EntryTo chart a' v.bits = subst (λ m. SameBits (by_chart chart) m w.bits v.bits) e s in
        let b : w.bits ≡ a' = eqb-true w.bits a' (subst (λ m. IsTrue (w.bits == bits_of m w.bits)) e i) in
        subst (λ b. EntryTo chart b v.bits) (sym b) s'

    return_word : (w v : Word) (a' : ℕ) → w.mark ≡ mark.Return a' → IsTrue (is_word w) → SameWord chart w v → ReturnTo chart w.bits v.bits
    return_word w v a' e i s =
        let s' : ReturnTo chart a' v.bits = subst (λ m. SameBits (by_chart chart) m w.bits v.bits) e s in
        let b : w.bits ≡ a' = eqb-true w.bits a' (subst (λ m. IsTrue (w.bits == bits_of m w.bits)) e i) in
        subst (λ b. ReturnTo chart b v.bits) (sym b) s'

    -- by the three ways that leave
    by_way : (way : Way) → p.way ≡ way → leaves way ≡ true → (w : Word) (a' : ℕ) → w.mark ≡ mark.Entry a' → (p.way ≡ Return → OrdinaryReturn plain w ⊎ ((K ≡ 4) × (reads_of p.instr 14 ≡ true))) → (k : ℕ) → at_transfer k ≡ true → IsCarried K p k
    by_way Onward e l w a' m r k h = absurd cc
    by_way (Branch t) e l w a' m r k h = absurd cc
    by_way Transfer e l w a' m r k h = by_transfer k e h
    by_way Call e l w a' m r k h = by_call k e h
    by_way Return e l w a' m r k h = ⊎_elim
        (λ (o : OrdinaryReturn plain w). let x = sym m ∙ o.0.1 in absurd cc)
        (λ (o : (K ≡ 4) × (reads_of p.instr 14 ≡ true)). by_return k e o.0 o.1 h)
        (r e)
    by_way Stops e l w a' m r k h = absurd cc

    pub follows_lands : (w v : Word) → leaves p.way ≡ true → w.bits % 2 ≡ 1 → IsTrue (is_word w) → SameWord chart w v → OrdinaryJump plain w → (p.way ≡ Return → OrdinaryReturn plain w ⊎ ((K ≡ 4) × (reads_of p.instr 14 ≡ true))) → Lands chart K p (w.bits - 1) (v.bits - 1)
    follows_lands w v l odd i s o r = ⊎_elim
        (λ (e : (a' : ℕ) × (w.mark ≡ mark.Entry a')). to_entry w.bits v.bits (entry_word w v e.0 e.1 i s) (by_way p.way refl l w e.0 e.1 r))
        (λ (e : OrdinaryReturn plain w). to_return w.bits v.bits (return_word w v e.0.0 e.0.1 i s) l e.1 odd)
        o
