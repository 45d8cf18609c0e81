-- The example's instructions make alike changes in both runs.
use Rattle.std.proofs.Common.{◌≡◌, ◌≢◌, ℕ, ◌-◌, ◌%◌, ◌<◌, inr, ⊎_elim, Bool, true, false, [], ◌∷◌, Option, Some, None, Ok, Err, refl, sym, ap, ◌∙◌, subst, arith, IsTrue}
use Rattle.std.specs.Prelude.{◌==◌, ◌||◌, if◌then◌else◌, ℤ, pos, negsuc}
use Rattle.std.proofs.lemmas.Bool.{eqb-true, eq-eqb, ne_eqb}
use Rattle.mark_word.specs.Words.{Word, plain, bits_of}
use Rattle.mark_word.specs.declared.marks.Mark.{Mark}
use Rattle.mark_word.specs.declared.marks.Mark.TheVariants as mark
use Rattle.thumb_instr.specs.declared.instructions.Instr.{Instr}
use Rattle.thumb_instr.specs.Blocks.{it_after}
use Rattle.thumb_instr.specs.Sets.{reads_of, writes_of, sets_flags_of}
use Rattle.thumb_table.specs.declared.faults.FaultKind.TheVariants.{BadJump}
use Rattle.thumb_table.specs.Parts.{CodeBytes}
use Rattle.thumb_table.specs.States.{Core, read, Change, Site, Exit, Falls, Jumps, unchanged}
use Rattle.thumb_table.specs.Effects.{change, writing, jump_to, value, branch_if, link}
use Rattle.thumb_table.specs.Ordinary.{OrdinaryJump, OrdinaryReturn, IsLow}
use Rattle.sim_charts.specs.Charts.{Chart, Point, Way, Return, leaves, sets_of, it_behind}
use Rattle.sim_charts.specs.Words.{SameBits}
use Rattle.sim_charts.specs.Alike.{by_chart, SameWord, SameMember, EntryTo, ReturnTo, BackOf, AreSound, SameMemory}
use Rattle.seq_core.specs.Meanings.{Ends, meant, nowhere, linking}
use Rattle.sim_charts.specs.Changes.{SameChange, SameKind}
use Rattle.sim_charts.specs.Twins.{Twin, ChangesAlike, GoesAlike, falls_on, branches, enters, follows}
use Rattle.sim_charts.specs.Flows.{site_of}
use Rattle.sim_charts.specs.Example.{plain_code, moving, point_of, example, p0, p1, p2, p3, p4, p5, p6, p7}
use Rattle.sim_charts.proofs.Sets.{or_cases, or_left}
use Rattle.sim_charts.proofs.Alikeness.{Fills, members_alike, memory_alike, stays_marked}
use Rattle.sim_charts.proofs.ExampleUnits.{change_is, outcome_of, move_change, going, always, bx_lr, jump_change, jump_is, jump_never_traps, calling, testing}

-- each point of the example
pick : (P : ℕ → Point → Type 0) (a n : ℕ) (q : Point) (rest : Option Point) (p : Point) → P n q → (rest ≡ Some p → P a p) → (if a == n then Some q else rest) ≡ Some p → P a p
pick P a n q rest p h f =
    elim (a == n) as (λ b. (a == n) ≡ b → (if b then Some q else rest) ≡ Some p → P a p) [
      | true ↦ λ t e.
          let eq : q ≡ p = cc in
          let ea : n ≡ a = sym (eqb-true a n t) in
          subst (λ k. P k p) ea (subst (λ v. P n v) eq h)
      | false ↦ λ t e. f e
    ] refl

pub by_points : (P : ℕ → Point → Type 0) → P 0x8000 p0 → P 0x8002 p1 → P 0x8006 p2 → P 0x8008 p3 → P 0x800A p4 → P 0x800C p5 → P 0x800E p6 → P 0x8010 p7 → (a : ℕ) (p : Point) → example a ≡ Some p → P a p
by_points P h0 h1 h2 h3 h4 h5 h6 h7 a p =
    pick P a 0x8000 p0 _ p h0 (pick P a 0x8002 p1 _ p h1 (pick P a 0x8006 p2 _ p h2 (pick P a 0x8008 p3 _ p h3 (pick P a 0x800A p4 _ p h4 (pick P a 0x800C p5 _ p h5 (pick P a 0x800E p6 _ p h6 (pick P a 0x8010 p7 None p h7 (λ e. absurd cc))))))))

places_even : (a : ℕ) (p : Point) → example a ≡ Some p → (p.place % 2 ≡ 0) × (p.back % 2 ≡ 0)
places_even = by_points (λ a p. (p.place % 2 ≡ 0) × (p.back % 2 ≡ 0)) (refl, refl) (refl, refl) (refl, refl) (refl, refl) (refl, refl) (refl, refl) (refl, refl) (refl, refl)

-- MOV between registers
move_covers : (d m : ℕ) (w : Word) → d < 15 → Fills (moving d m) (writing ((d, w) ∷ []))
unfolding writes_of sets_flags_of
move_covers d m w lt = record {
  regs = λ k b e. or_left (d == k) false (eq-eqb d k (sym (eqb-true k d (plain_set k e))));
  n = λ e. let q = eqb-true 16 d (plain_set 16 e) in absurd (omega arith);
  z = λ e. let q = eqb-true 17 d (plain_set 17 e) in absurd (omega arith);
  c = λ e. let q = eqb-true 18 d (plain_set 18 e) in absurd (omega arith);
  v = λ e. let q = eqb-true 19 d (plain_set 19 e) in absurd (omega arith);
}
  where
    plain_set : (k : ℕ) → ((k == d) || false) ≡ true → (k == d) ≡ true
    plain_set k e = ⊎_elim (λ l. l) (λ (r : false ≡ true). absurd cc) (or_cases (k == d) false e)

move_reads : (m : ℕ) (d : ℕ) → reads_of (moving d m) m ≡ true
unfolding reads_of
move_reads m d = or_left (m == m) _ (eq-eqb m m refl)

pub move_twin : (chart : Chart) (code : CodeBytes) (K d m : ℕ) (way : Way) (next : Option ℕ) (entry : Bool) (live : ℕ → Bool) (place end : ℕ) (ends : Ends) (site : Site) → d < 15 → m < 15 → (d == 13) ≡ false → leaves way ≡ false →
    Twin chart code K (point_of (moving d m) 2 way next entry live place end 2) site (meant (moving d m) ends)
unfolding meant
move_twin chart code K d m way next entry live place end ends site ld lm not_sp stay = record {
  changes = λ x y h ra ix taken ord made.
      let h_is : writing ((d, read x m) ∷ []) ≡ h = change_is _ _ _ (move_change d m site x not_sp) made in
      let same : SameMember chart m x y = ra.members m (or_left (reads_of (moving d m) m) _ (move_reads m d)) in
      let alike : SameChange (by_chart chart) (writing ((d, read x m) ∷ [])) (writing ((d, read y m) ∷ [])) = record { regs = (refl, same.word lm, tt); n = refl; z = refl; c = refl; v = refl; cells = tt; it = refl; exit = tt } in
      let covers = move_covers d m (read x m) ld in
      subst (λ q. (g : Change) × (change (moving d m) nowhere y ≡ Ok g) × ChangesAlike chart code K (point_of (moving d m) 2 way next entry live place end 2) x y q g) h_is (
        writing ((d, read y m) ∷ []),
        move_change d m nowhere y not_sp,
        record {
          members = members_alike chart (moving d m) x y (writing ((d, read x m) ∷ [])) (writing ((d, read y m) ∷ [])) ra.sound covers alike;
          memory = memory_alike (by_chart chart) x y (writing ((d, read x m) ∷ [])) (writing ((d, read y m) ∷ [])) alike.cells ra.store.memory;
          marked = stays_marked x (writing ((d, read x m) ∷ [])) (ra.sound.marked.words m, tt) tt ra.sound.marked;
          it = refl;
          goes = falls_on stay refl;
        },
      );
  traps = λ x y ra taken made. let w = sym (move_change d m site x not_sp) ∙ made in absurd cc;
}

-- changes that only jump, or do nothing
pub none_covers : (i : Instr) (h : Change) → ((k : ℕ) → sets_of i k ≡ false) → Fills i h
none_covers i h f = record {
  regs = λ k b e. absurd (never k e);
  n = λ e. absurd (never 16 e);
  z = λ e. absurd (never 17 e);
  c = λ e. absurd (never 18 e);
  v = λ e. absurd (never 19 e);
}
  where
    never : (k : ℕ) → sets_of i k ≡ true → ⊥
    never k e = let q = sym (f k) ∙ e in absurd cc

alike_exits : (chart : Chart) (e e' : Exit) → SameKind e e' → SameChange (by_chart chart) (record unchanged { exit = e }) (record unchanged { exit = e' })
alike_exits chart e e' kind = record { regs = tt; n = refl; z = refl; c = refl; v = refl; cells = tt; it = refl; exit = kind }

only_exits : (chart : Chart) (code : CodeBytes) (K : ℕ) (p : Point) (x y : Core) (e e' : Exit) → SameKind e e' → AreSound x y → ((k : ℕ) → sets_of p.instr k ≡ false) → ((it : ℕ) → it_after it ≡ it_behind p.instr it) → SameMemory chart x.memory y.memory → GoesAlike chart code K p e e' →
    ChangesAlike chart code K p x y (record unchanged { exit = e }) (record unchanged { exit = e' })
only_exits chart code K p x y e e' kind sound none it memory goes = record {
  members = members_alike chart p.instr x y (record unchanged { exit = e }) (record unchanged { exit = e' }) sound (none_covers p.instr (record unchanged { exit = e }) none) (alike_exits chart e e' kind);
  memory = memory_alike (by_chart chart) x y (record unchanged { exit = e }) (record unchanged { exit = e' }) (alike_exits chart e e' kind).cells memory;
  marked = stays_marked x (record unchanged { exit = e }) tt tt sound.marked;
  it = it x.it;
  goes = goes;
}

-- B
branch_sets : (o : ℤ) (k : ℕ) → sets_of (always o) k ≡ false
unfolding writes_of sets_flags_of
branch_sets o k = refl

pub branch_twin : (ends : Ends) → ends.target ≡ 0x8010 → Twin example plain_code 4 p4 (site_of plain_code 0x800A p4) (meant p4.instr ends)
unfolding meant change
branch_twin ends et = record {
  changes = λ x y h ra ix taken ord made.
      let h_is : going 0x8006 ≡ h = change_is _ _ _ refl made in
      subst (λ q. (g : Change) × (outcome_of (going ends.target) ≡ Ok g) × ChangesAlike example plain_code 4 p4 x y q g) h_is (
        going 0x8010,
        ap (λ t. outcome_of (going t)) et,
        only_exits example plain_code 4 p4 x y (Jumps 0x8006) (Jumps 0x8010) tt ra.sound (branch_sets (negsuc 7)) (λ it. refl) ra.store.memory (branches 0x8006 p2 refl refl),
      );
  traps = λ x y ra taken made. absurd cc;
}

-- CBZ
zero_sets : (b : Bool) (o : ℤ) (k : ℕ) → sets_of (testing b o) k ≡ false
unfolding writes_of sets_flags_of
zero_sets b o k = refl

zero_reads : (b : Bool) (o : ℤ) → reads_of (testing b o) 0 ≡ true
unfolding reads_of
zero_reads b o = refl

-- a word is 0 on both sides or on none
zero_alike : (m : Mark) (b h : ℕ) → IsTrue (b == bits_of m b) → SameBits (by_chart example) m b h → (IsLow m → ⊥) → (b == 0) ≡ (h == 0)
zero_alike mark.Plain b h i s low = ap (λ v. v == 0) s
zero_alike (mark.Entry a) b h i s low =
    let nb : b ≢ 0 = omega (arith, eqb-true b a i, s.4) in
    let nh : h ≢ 0 = omega (arith, s.5) in
    ne_eqb b 0 nb ∙ sym (ne_eqb h 0 nh)
zero_alike (mark.Return a) b h i s low = ⊎_elim
    (λ (r : (a ≡ 0x7FFFFFFF) × (h ≡ 0x7FFFFFFF)).
    let nb : b ≢ 0 = omega (arith, eqb-true b a i, r.0) in
    let nh : h ≢ 0 = omega (arith, r.1) in
    ne_eqb b 0 nb ∙ sym (ne_eqb h 0 nh))
    (λ (r : BackOf example a h).
    let nb : b ≢ 0 = omega (arith, eqb-true b a i, r.4) in
    let nh : h ≢ 0 = omega (arith, r.5) in
    ne_eqb b 0 nb ∙ sym (ne_eqb h 0 nh))
    s
zero_alike (mark.Low a) b h i s low = absurd (low (a, refl))

pub zero_twin : (ends : Ends) → ends.target ≡ 0x8020 → Twin example plain_code 4 p2 (site_of plain_code 0x8006 p2) (meant p2.instr ends)
unfolding meant change
zero_twin ends et = record {
  changes = λ x y h ra ix taken ord made.
      let same : SameMember example 0 x y = ra.members 0 (or_left (reads_of p2.instr 0) _ (zero_reads false (pos 2))) in
      let zero : (value x 0 == 0) ≡ (value y 0 == 0) = zero_alike (read x 0).mark (value x 0) (value y 0) (ra.sound.marked.words 0) (same.word (omega arith)) ord.used.proper in
      elim (value x 0 == 0) as (λ v. (value x 0 == 0) ≡ v → outcome_of (branch_if v 0x800C) ≡ Ok h → (g : Change) × (outcome_of (branch_if (value y 0 == 0) ends.target) ≡ Ok g) × ChangesAlike example plain_code 4 p2 x y h g) [
        | true ↦ λ t made'.
            let h_is : going 0x800C ≡ h = change_is _ _ _ refl made' in
            subst (λ q. (g : Change) × (outcome_of (branch_if (value y 0 == 0) ends.target) ≡ Ok g) × ChangesAlike example plain_code 4 p2 x y q g) h_is (
              going 0x8020,
              ap (λ b. outcome_of (branch_if b ends.target)) (sym zero ∙ t) ∙ ap (λ t. outcome_of (going t)) et,
              only_exits example plain_code 4 p2 x y (Jumps 0x800C) (Jumps 0x8020) tt ra.sound (zero_sets false (pos 2)) (λ it. refl) ra.store.memory (branches 0x800C p5 refl refl),
            )
        | false ↦ λ t made'.
            let h_is : unchanged ≡ h = change_is _ _ _ refl made' in
            subst (λ q. (g : Change) × (outcome_of (branch_if (value y 0 == 0) ends.target) ≡ Ok g) × ChangesAlike example plain_code 4 p2 x y q g) h_is (
              unchanged,
              ap (λ b. outcome_of (branch_if b ends.target)) (sym zero ∙ t),
              only_exits example plain_code 4 p2 x y Falls Falls tt ra.sound (zero_sets false (pos 2)) (λ it. refl) ra.store.memory (falls_on refl refl),
            )
      ] refl made;
  traps = λ x y ra taken made. absurd cc;
}

-- BX lr
jump_sets : (k : ℕ) → sets_of bx_lr k ≡ false
unfolding writes_of sets_flags_of
jump_sets k = refl

jump_reads : reads_of bx_lr 14 ≡ true
unfolding reads_of
jump_reads = refl

jump_odd : (b : ℕ) (h : Change) → jump_to b unchanged ≡ Ok h → b % 2 ≡ 1
jump_odd b h = elim (b % 2 == 1) as (λ v. (b % 2 == 1) ≡ v → (if v then outcome_of (going (b - 1)) else Err BadJump) ≡ Ok h → b % 2 ≡ 1) [ true ↦ λ t e. eqb-true (b % 2) 1 t | false ↦ λ t e. absurd cc ] refl

jump_goes : (b : ℕ) → b % 2 ≡ 1 → jump_to b unchanged ≡ Ok (going (b - 1))
jump_goes b e = rw (eq-eqb (b % 2) 1 e)

entry_odd : (a h : ℕ) → EntryTo example a h → h % 2 ≡ 1
entry_odd a h e = let q = places_even e.0 e.1 e.2 in omega (arith, q.0, e.5)

return_odd : (a h : ℕ) → ReturnTo example a h → h % 2 ≡ 1
return_odd a h e = ⊎_elim
    (λ (r : (a ≡ 0x7FFFFFFF) × (h ≡ 0x7FFFFFFF)). omega (arith, r.1))
    (λ (r : BackOf example a h). let q = places_even r.0 r.1 r.2 in omega (arith, q.1, r.5))
    e

word_odd : (w v : Word) → SameWord example w v → OrdinaryJump plain_code w → v.bits % 2 ≡ 1
word_odd w v s o = ⊎_elim
    (λ (e : (a : ℕ) × (w.mark ≡ mark.Entry a)).
    entry_odd e.0 v.bits (subst (λ m. SameBits (by_chart example) m w.bits v.bits) e.1 s))
    (λ (e : OrdinaryReturn plain_code w).
    return_odd e.0.0 v.bits (subst (λ m. SameBits (by_chart example) m w.bits v.bits) e.0.1 s))
    o

pub jump_twin : (ends : Ends) (entry : Bool) (live : ℕ → Bool) (place end a : ℕ) → Twin example plain_code 4 (point_of bx_lr 2 Return None entry live place end 2) (record { code = plain_code; address = a; width = 2 }) (meant bx_lr ends)
unfolding meant
jump_twin ends entry live place end a = record {
  changes = λ x y h ra ix taken ord made.
      let site : Site = record { code = plain_code; address = a; width = 2 } in
      let p : Point = point_of bx_lr 2 Return None entry live place end 2 in
      let to : jump_to (value x 14) unchanged ≡ Ok h = sym (jump_change site x) ∙ made in
      let h_is : going (value x 14 - 1) ≡ h = sym (jump_is (value x 14) h to) in
      let same : SameMember example 14 x y = ra.members 14 (or_left (reads_of bx_lr 14) _ jump_reads) in
      let word : SameWord example (read x 14) (read y 14) = same.word (omega arith) in
      let ordinary : OrdinaryJump plain_code (read x 14) = ord.used.proper in
      let odd : value y 14 % 2 ≡ 1 = word_odd (read x 14) (read y 14) word ordinary in
      subst (λ q. (g : Change) × (change bx_lr nowhere y ≡ Ok g) × ChangesAlike example plain_code 4 p x y q g) h_is (
        going (value y 14 - 1),
        jump_change nowhere y ∙ jump_goes (value y 14) odd,
        only_exits example plain_code 4 p x y (Jumps (value x 14 - 1)) (Jumps (value y 14 - 1)) tt ra.sound jump_sets (λ it. refl) ra.store.memory
            (follows (read x 14) (read y 14) refl (jump_odd (value x 14) h to) (ra.sound.marked.words 14) word ordinary (λ e. inr (refl, jump_reads))),
      );
  traps = λ x y ra taken made. absurd (jump_never_traps (value x 14) (sym (jump_change (record { code = plain_code; address = a; width = 2 }) x) ∙ made));
}

-- BL
call_covers : (o : ℤ) (w : Word) (e : Exit) → Fills (calling o) (record (writing ((14, w) ∷ [])) { exit = e })
unfolding writes_of sets_flags_of
call_covers o w e = record { regs = λ k b q. or_left (14 == k) false (eq-eqb 14 k (sym (eqb-true k 14 (⊎_elim (λ l. l) (λ (r : false ≡ true). absurd cc) (or_cases (k == 14) false q))))); n = λ q. absurd cc; z = λ q. absurd cc; c = λ q. absurd cc; v = λ q. absurd cc }

pub call_twin : (ends : Ends) → ends.target ≡ 0x8028 → ends.back ≡ 0x8010 → Twin example plain_code 4 p1 (site_of plain_code 0x8002 p1) (meant p1.instr ends)
unfolding meant change
call_twin ends et eb = record {
  changes = λ x y h ra ix taken ord made.
      let h' : Change = record (link (site_of plain_code 0x8002 p1)) { exit = Jumps 0x8010 } in
      let g : Change = record (linking 0x8010) { exit = Jumps 0x8028 } in
      let h_is : h' ≡ h = change_is _ _ _ refl made in
      let back : SameWord example (record { bits = 0x8007; mark = mark.Return 0x8007 }) (plain 0x8011) = inr (0x8002, p1, refl, refl, refl, refl) in
      let alike : SameChange (by_chart example) h' g = record { regs = (refl, back, tt); n = refl; z = refl; c = refl; v = refl; cells = tt; it = refl; exit = tt } in
      let covers = call_covers (pos 10) (record { bits = 0x8007; mark = mark.Return 0x8007 }) (Jumps 0x8010) in
      subst (λ q. (g : Change) × (outcome_of (record (linking ends.back) { exit = Jumps ends.target }) ≡ Ok g) × ChangesAlike example plain_code 4 p1 x y q g) h_is (
        g,
        ap (λ q. outcome_of (record (linking q) { exit = Jumps ends.target })) eb ∙ ap (λ q. outcome_of (record (linking 0x8010) { exit = Jumps q })) et,
        record {
          members = members_alike example p1.instr x y h' g ra.sound covers alike;
          memory = memory_alike (by_chart example) x y h' g alike.cells ra.store.memory;
          marked = stays_marked x h' (refl, tt) tt ra.sound.marked;
          it = refl;
          goes = enters 0x8010 p7 (inr refl) refl refl;
        },
      );
  traps = λ x y ra taken made. absurd cc;
}
