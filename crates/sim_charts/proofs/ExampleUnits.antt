-- The example's units do their instructions under every legal schedule.
use Rattle.std.proofs.Common.{◌≡◌, ◌≢◌, ℕ, ◌+◌, ◌-◌, ◌*◌, ◌/◌, ◌%◌, Bool, true, false, [], ◌∷◌, Option, Some, Ok, Err, refl, sym, ap, ◌∙◌, subst, arith, get_or-set_other, set-set}
use Rattle.std.specs.Prelude.{◌==◌, if◌then◌else◌, ℤ, pos, negsuc}
use Rattle.mark_word.specs.Words.{plain}
use Rattle.thumb_instr.specs.declared.conditions.Cond.TheVariants.{Al}
use Rattle.thumb_instr.specs.declared.instructions.Instr.{Instr}
use Rattle.thumb_instr.specs.declared.instructions.Instr.TheVariants as instr
use Rattle.thumb_instr.specs.Blocks.{it_after}
use Rattle.thumb_table.specs.declared.faults.FaultKind.TheVariants.{Trap, BadJump}
use Rattle.thumb_table.specs.Parts.{CodeBytes}
use Rattle.thumb_table.specs.States.{Core, at, read, Change, Outcome, Site, Jumps, applied, unchanged}
use Rattle.thumb_table.specs.Effects.{change, writing, jump_to, value, branch_if, literal_base}
use Rattle.thumb_table.specs.Values.{away, moved}
use Rattle.thumb_table.specs.Steps.{Fetched, fetch, goes_on}
use Rattle.thumb_table.specs.Schedules.{run}
use Rattle.sim_charts.specs.Charts.{Way, unit_of}
use Rattle.seq_core.specs.Meanings.{Ends, meant, nowhere, linking}
use Rattle.seq_core.specs.Does.{Legal, Comes, SameBut, Tolerates}
use Rattle.sim_charts.specs.Example.{hard_code, moving, point_of, nothing_lost}
use Rattle.seq_core.proofs.Runs.{comes_on}
use Rattle.seq_core.proofs.Copies.{Makes, Leaps, makes, group, jump_group}
use Rattle.sim_charts.proofs.Standing.{half, full, Means, m_4770, m_E7F8, m_E7F7, m_adr1, m_adr2, m_E00C, m_E00B, m_B910, m_B908, m_E004, m_E003}

abbrev pub outcome_of : Change → Outcome
outcome_of h = Ok h

pub change_is : (h g : Change) (o : Outcome) → o ≡ Ok h → o ≡ Ok g → h ≡ g
change_is h g o e f = let q = sym e ∙ f in ok_is h g q
  where
    ok_of : Change → Outcome
    ok_of h = Ok h

    ok_is : (h g : Change) → (let o : Outcome = Ok h in o) ≡ Ok g → h ≡ g
    ok_is h g q = cc

pub same_self : (z : Core) → z.it ≡ 0 → SameBut nothing_lost z z
same_self z e = record { count = refl; members = λ k l. record { word = λ b. refl; n = λ q. refl; z = λ q. refl; c = λ q. refl; v = λ q. refl }; memory = refl; clear = e }

module _ (code : CodeBytes) (skips : ℕ → Bool) (legal : Legal 2 skips) (clock p : ℕ) (f g : Fetched) (here : fetch code p ≡ Some f) (there : fetch code (p + f.width) ≡ Some g) where
  pub twice_falls : (q : ℕ) (x z : Core) → x.it ≡ 0 → z.it ≡ 0 → p + f.width + g.width ≡ q → Makes code f p x z → Makes code f p z z → Makes code g (p + f.width) x z → Makes code g (p + f.width) z z → run code skips 2 clock (at p x) ≡ Ok (at q z)
  twice_falls q x z ix iz e a b c d =
      let l = legal clock in
      group code skips 2 clock p q x z ix iz (f, here, a, b, (g, there, c, d, e)) l.0 l.1 l.2

  pub twice_jumps : (t : ℕ) (x y : Core) → x.it ≡ 0 → Leaps code f p x t y → Leaps code g (p + f.width) x t y → Comes code skips 2 clock (at p x) (at t y)
  twice_jumps t x y ix a b =
      let l = legal clock in
      jump_group code skips 2 clock p t x y ix (f, here, a, (g, there, b, tt)) l.0 l.1 l.2

-- MOV between registers
pub move_change : (d m : ℕ) (site : Site) (x : Core) → (d == 13) ≡ false → change (moving d m) site x ≡ Ok (writing ((d, read x m) ∷ []))
unfolding change
move_change d m site x e = rw e

module _ (d m : ℕ) (not_sp : (d == 13) ≡ false) (apart : m ≢ d) (y : Core) (clear : y.it ≡ 0) where
  abbrev once : Core
  once = applied (writing ((d, read y m) ∷ [])) y

  once_clear : once.it ≡ 0
  once_clear = ap it_after clear

  again_reads : read once m ≡ read y m
  again_reads = get_or-set_other y.regs d m (read y m) (plain 0) apart

  again : applied (writing ((d, read once m) ∷ [])) once ≡ once
  again =
      ap (λ w. applied (writing ((d, w) ∷ [])) once) again_reads
      ∙ ap (λ rs. record once { regs = rs; it = it_after once.it }) (set-set y.regs d (read y m) (read y m))
      ∙ ap (λ k. record once { it = k }) (ap it_after once_clear ∙ sym once_clear)

  first_makes : (code : CodeBytes) (f : Fetched) (a : ℕ) → Means f (moving d m) → Makes code f a y once
  first_makes code f a means = makes code f (moving d m) a y (writing ((d, read y m) ∷ [])) clear means (move_change d m (record { code = code; address = a; width = f.width }) y not_sp)

  again_makes : (code : CodeBytes) (f : Fetched) (a : ℕ) → Means f (moving d m) → Makes code f a once once
  again_makes code f a means =
      makes code f (moving d m) a once (writing ((d, read once m) ∷ [])) once_clear means (move_change d m (record { code = code; address = a; width = f.width }) once not_sp)
      ∙ ap (λ z. Ok (at (a + f.width) z)) again

pub move_works : (d m h : ℕ) (way : Way) (next : Option ℕ) (entry : Bool) (live : ℕ → Bool) (place end : ℕ) (ends : Ends) → (d == 13) ≡ false → m ≢ d →
    fetch hard_code place ≡ Some (half h) → fetch hard_code (place + 2) ≡ Some (half h) → place + 2 + 2 ≡ end → Means (half h) (moving d m) →
    Tolerates hard_code 2 (unit_of (point_of (moving d m) 2 way next entry live place end 2) (meant (moving d m) ends))
unfolding meant
move_works d m h way next entry live place end ends not_sp apart here there e means skips legal clock = record {
  acts = λ y k b t made.
      let k_is : writing ((d, read y m) ∷ []) ≡ k = change_is _ _ _ (move_change d m nowhere y not_sp) made in
      subst (λ q. (z : Core) × Comes hard_code skips 2 clock (at place y) (at (goes_on end q.exit) z) × SameBut nothing_lost (applied q y) z) k_is (
        applied (writing ((d, read y m) ∷ [])) y,
        record {
          steps = 2;
          within = omega arith;
          runs = twice_falls hard_code skips legal clock place (half h) (half h) here there end y (once d m not_sp apart y b.clear) b.clear (once_clear d m not_sp apart y b.clear) e
              (first_makes d m not_sp apart y b.clear hard_code (half h) place means) (again_makes d m not_sp apart y b.clear hard_code (half h) place means)
              (first_makes d m not_sp apart y b.clear hard_code (half h) (place + 2) means) (again_makes d m not_sp apart y b.clear hard_code (half h) (place + 2) means);
        },
        same_self (applied (writing ((d, read y m) ∷ [])) y) (once_clear d m not_sp apart y b.clear),
      );
  rests = λ y b t. absurd cc;
  halts = λ y b t made. let w = sym (move_change d m nowhere y not_sp) ∙ made in absurd cc;
}

-- branches and jumps
abbrev pub going : ℕ → Change
going t = record unchanged { exit = Jumps t }

abbrev pub always : ℤ → Instr
always o = instr.Branch (record { cond = Al; offset = o })

branch_change : (o : ℤ) (site : Site) (x : Core) (t : ℕ) → away (site.address + 4) o ≡ t → change (always o) site x ≡ Ok (going t)
unfolding change
branch_change o site x t e = rw e

branch_leaps : (code : CodeBytes) (f : Fetched) (o : ℤ) (a t : ℕ) (x : Core) → x.it ≡ 0 → Means f (always o) → away (a + 4) o ≡ t → Leaps code f a x t (applied (going t) x)
branch_leaps code f o a t x ix means e = makes code f (always o) a x (going t) ix means (branch_change o (record { code = code; address = a; width = f.width }) x t e)

pub branch_works : (o : ℤ) (ends : Ends) (way : Way) (next : Option ℕ) (entry : Bool) (live : ℕ → Bool) → ends.target ≡ 0x8010 →
    Tolerates hard_code 2 (unit_of (point_of (always o) 2 way next entry live 0x801C 0x8020 2) (meant (always o) ends))
unfolding meant
branch_works o ends way next entry live et skips legal clock = record {
  acts = λ y k b t made.
      let k_is : going 0x8010 ≡ k = change_is _ _ _ (ap (λ q. Ok (going q)) et) made in
      subst (λ q. (z : Core) × Comes hard_code skips 2 clock (at 0x801C y) (at (goes_on 0x8020 q.exit) z) × SameBut nothing_lost (applied q y) z) k_is (
        applied (going 0x8010) y,
        twice_jumps hard_code skips legal clock 0x801C (half 0xE7F8) (half 0xE7F7) refl refl 0x8010 y (applied (going 0x8010) y) b.clear
            (branch_leaps hard_code (half 0xE7F8) (negsuc 15) 0x801C 0x8010 y b.clear m_E7F8 refl) (branch_leaps hard_code (half 0xE7F7) (negsuc 17) 0x801E 0x8010 y b.clear m_E7F7 refl),
        same_self (applied (going 0x8010) y) (ap it_after b.clear),
      );
  rests = λ y b t. absurd cc;
  halts = λ y b t made. absurd cc;
}

abbrev pub bx_lr : Instr
bx_lr = instr.Jump (record { m = 14 })

pub jump_change : (site : Site) (x : Core) → change bx_lr site x ≡ jump_to (value x 14) unchanged
unfolding change
jump_change site x = refl

pub jump_is : (b : ℕ) (k : Change) → jump_to b unchanged ≡ Ok k → k ≡ going (b - 1)
jump_is b k = elim (b % 2 == 1) as (λ v. (if v then Ok (going (b - 1)) else Err BadJump) ≡ Ok k → k ≡ going (b - 1)) [ true ↦ λ e. cc | false ↦ λ e. absurd cc ]

pub jump_never_traps : (b : ℕ) → jump_to b unchanged ≡ Err Trap → ⊥
jump_never_traps b = elim (b % 2 == 1) as (λ v. (let o : Outcome = if v then Ok (going (b - 1)) else Err BadJump in o) ≡ Err Trap → ⊥) [ true ↦ λ e. absurd cc | false ↦ λ e. absurd cc ]

pub jump_works : (ends : Ends) (way : Way) (next : Option ℕ) (entry : Bool) (live : ℕ → Bool) (place end : ℕ) → fetch hard_code place ≡ Some (half 0x4770) → fetch hard_code (place + 2) ≡ Some (half 0x4770) →
    Tolerates hard_code 2 (unit_of (point_of bx_lr 2 way next entry live place end 2) (meant bx_lr ends))
unfolding meant
jump_works ends way next entry live place end here there skips legal clock = record {
  acts = λ y k b t made.
      let to : jump_to (value y 14) unchanged ≡ Ok k = sym (jump_change nowhere y) ∙ made in
      let k_is : going (value y 14 - 1) ≡ k = sym (jump_is (value y 14) k to) in
      let to' : jump_to (value y 14) unchanged ≡ Ok (going (value y 14 - 1)) = subst (λ q. jump_to (value y 14) unchanged ≡ Ok q) (sym k_is) to in
      let leap : (a : ℕ) → Leaps hard_code (half 0x4770) a y (value y 14 - 1) (applied (going (value y 14 - 1)) y) = λ a.
      makes hard_code (half 0x4770) bx_lr a y (going (value y 14 - 1)) b.clear m_4770 (jump_change (record { code = hard_code; address = a; width = 2 }) y ∙ to') in
      subst (λ q. (z : Core) × Comes hard_code skips 2 clock (at place y) (at (goes_on end q.exit) z) × SameBut nothing_lost (applied q y) z) k_is (
        applied (going (value y 14 - 1)) y,
        twice_jumps hard_code skips legal clock place (half 0x4770) (half 0x4770) here there (value y 14 - 1) y (applied (going (value y 14 - 1)) y) b.clear (leap place) (leap (place + 2)),
        same_self (applied (going (value y 14 - 1)) y) (ap it_after b.clear),
      );
  rests = λ y b t. absurd cc;
  halts = λ y b t made. absurd (jump_never_traps (value y 14) (sym (jump_change nowhere y) ∙ made));
}

-- BL: ADR twice, B twice
abbrev pub linked_to : Change
linked_to = writing ((14, plain 0x8011) ∷ [])

adr_change : (imm : ℕ) (site : Site) (x : Core) → moved true (literal_base site) imm ≡ 0x8011 → change (instr.Adr (record { d = 14; up = true; imm = imm })) site x ≡ Ok linked_to
unfolding change
adr_change imm site x e = rw e

linked_again : (y : Core) → y.it ≡ 0 → applied linked_to (applied linked_to y) ≡ applied linked_to y
linked_again y e =
    ap (λ rs. record (applied linked_to y) { regs = rs; it = it_after (it_after y.it) }) (set-set y.regs 14 (plain 0x8011) (plain 0x8011))
    ∙ ap (λ k. record (applied linked_to y) { it = k }) (ap it_after (ap it_after e) ∙ sym (ap it_after e))

adr_makes : (f : Fetched) (imm a : ℕ) (x : Core) → x.it ≡ 0 → Means f (instr.Adr (record { d = 14; up = true; imm = imm })) → moved true ((a + 4) / 4 * 4) imm ≡ 0x8011 → Makes hard_code f a x (applied linked_to x)
adr_makes f imm a x ix means e = makes hard_code f (instr.Adr (record { d = 14; up = true; imm = imm })) a x linked_to ix means (adr_change imm (record { code = hard_code; address = a; width = f.width }) x e)

abbrev pub calling : ℤ → Instr
calling o = instr.Call (record { offset = o })

pub call_works : (o : ℤ) (ends : Ends) (way : Way) (next : Option ℕ) (entry : Bool) (live : ℕ → Bool) → ends.target ≡ 0x8028 → ends.back ≡ 0x8010 →
    Tolerates hard_code 2 (unit_of (point_of (calling o) 4 way next entry live 0x8004 0x8010 4) (meant (calling o) ends))
unfolding meant
call_works o ends way next entry live et eb skips legal clock = record {
  acts = λ y k b t made.
      let k_is : record linked_to { exit = Jumps 0x8028 } ≡ k = change_is _ _ _ (ap (λ q. Ok (record (linking q) { exit = Jumps ends.target })) eb ∙ ap (λ q. Ok (record linked_to { exit = Jumps q })) et) made in
      let z : Core = applied linked_to y in
      let iz : z.it ≡ 0 = ap it_after b.clear in
      let w : Core = applied (going 0x8028) z in
      let iw : w.it ≡ 0 = ap it_after iz in
      let f1 : Fetched = full 0xF20F 0x0E09 in
      let f2 : Fetched = full 0xF20F 0x0E05 in
      let again : (f : Fetched) (a : ℕ) → Makes hard_code f a z (applied linked_to z) → Makes hard_code f a z z = λ f a q. q ∙ ap (λ v. Ok (at (a + f.width) v)) (linked_again y b.clear) in
      let first : run hard_code skips 2 clock (at 0x8004 y) ≡ Ok (at 0x800C z) = twice_falls hard_code skips legal clock 0x8004 f1 f2 refl refl 0x800C y z b.clear iz refl
      (adr_makes f1 9 0x8004 y b.clear m_adr1 refl) (again f1 0x8004 (adr_makes f1 9 0x8004 z iz m_adr1 refl))
      (adr_makes f2 5 0x8008 y b.clear m_adr2 refl) (again f2 0x8008 (adr_makes f2 5 0x8008 z iz m_adr2 refl)) in
      let second : Comes hard_code skips 2 (clock + 2) (at 0x800C z) (at 0x8028 w) = twice_jumps hard_code skips legal (clock + 2) 0x800C (half 0xE00C) (half 0xE00B) refl refl 0x8028 z w iz
      (branch_leaps hard_code (half 0xE00C) (pos 24) 0x800C 0x8028 z iz m_E00C refl) (branch_leaps hard_code (half 0xE00B) (pos 22) 0x800E 0x8028 z iz m_E00B refl) in
      let start : Comes hard_code skips 2 clock (at 0x8004 y) (at 0x800C z) = record { steps = 2; within = omega arith; runs = first } in
      subst (λ q. (u : Core) × Comes hard_code skips 4 clock (at 0x8004 y) (at (goes_on 0x8010 q.exit) u) × SameBut nothing_lost (applied q y) u) k_is (
        w,
        comes_on hard_code skips 2 2 4 clock (at 0x8004 y) (at 0x800C z) (at 0x8028 w) refl start second,
        record { count = refl; members = λ j l. record { word = λ b. refl; n = λ q. refl; z = λ q. refl; c = λ q. refl; v = λ q. refl }; memory = refl; clear = iw },
      );
  rests = λ y b t. absurd cc;
  halts = λ y b t made. absurd cc;
}

-- CBZ: CBNZ twice, B twice
abbrev pub testing : Bool → ℤ → Instr
testing nonzero o = instr.ZeroBranch (record { nonzero = nonzero; n = 0; offset = o })

cbnz_stays : (o : ℤ) (site : Site) (x : Core) → (value x 0 == 0) ≡ true → change (testing true o) site x ≡ Ok unchanged
unfolding change
cbnz_stays o site x e = rw e

cbnz_goes : (o : ℤ) (site : Site) (x : Core) (t : ℕ) → (value x 0 == 0) ≡ false → away (site.address + 4) o ≡ t → change (testing true o) site x ≡ Ok (going t)
unfolding change
cbnz_goes o site x t e et = rw (e, et)

nothing_done : (y : Core) → y.it ≡ 0 → applied unchanged y ≡ y
nothing_done y e = ap (λ k. record y { it = k }) (ap it_after e ∙ sym e)

pub zero_works : (o : ℤ) (ends : Ends) (way : Way) (next : Option ℕ) (entry : Bool) (live : ℕ → Bool) → ends.target ≡ 0x8020 →
    Tolerates hard_code 2 (unit_of (point_of (testing false o) 2 way next entry live 0x8010 0x8018 4) (meant (testing false o) ends))
unfolding meant
zero_works o ends way next entry live et skips legal clock = record {
  acts = λ y k b t made.
      elim (value y 0 == 0) as (λ v. (value y 0 == 0) ≡ v → outcome_of (branch_if v ends.target) ≡ Ok k → (z : Core) × Comes hard_code skips 4 clock (at 0x8010 y) (at (goes_on 0x8018 k.exit) z) × SameBut nothing_lost (applied k y) z) [
        | true ↦ λ zero made'.
            let k_is : going 0x8020 ≡ k = change_is _ _ _ (ap (λ q. Ok (going q)) et) made' in
            let stays : (f : Fetched) (q : ℤ) (a : ℕ) → Means f (testing true q) → Makes hard_code f a y y = λ f q a means.
            makes hard_code f (testing true q) a y unchanged b.clear means (cbnz_stays q (record { code = hard_code; address = a; width = f.width }) y zero) ∙ ap (λ v. Ok (at (a + f.width) v)) (nothing_done y b.clear) in
            let f1 : Fetched = half 0xB910 in
            let f2 : Fetched = half 0xB908 in
            let first : run hard_code skips 2 clock (at 0x8010 y) ≡ Ok (at 0x8014 y) = twice_falls hard_code skips legal clock 0x8010 f1 f2 refl refl 0x8014 y y b.clear b.clear refl
            (stays f1 (pos 4) 0x8010 m_B910) (stays f1 (pos 4) 0x8010 m_B910) (stays f2 (pos 2) 0x8012 m_B908) (stays f2 (pos 2) 0x8012 m_B908) in
            let w : Core = applied (going 0x8020) y in
            let second : Comes hard_code skips 2 (clock + 2) (at 0x8014 y) (at 0x8020 w) = twice_jumps hard_code skips legal (clock + 2) 0x8014 (half 0xE004) (half 0xE003) refl refl 0x8020 y w b.clear
            (branch_leaps hard_code (half 0xE004) (pos 8) 0x8014 0x8020 y b.clear m_E004 refl) (branch_leaps hard_code (half 0xE003) (pos 6) 0x8016 0x8020 y b.clear m_E003 refl) in
            let start : Comes hard_code skips 2 clock (at 0x8010 y) (at 0x8014 y) = record { steps = 2; within = omega arith; runs = first } in
            subst (λ q. (u : Core) × Comes hard_code skips 4 clock (at 0x8010 y) (at (goes_on 0x8018 q.exit) u) × SameBut nothing_lost (applied q y) u) k_is (
              w,
              comes_on hard_code skips 2 2 4 clock (at 0x8010 y) (at 0x8014 y) (at 0x8020 w) refl start second,
              same_self w (ap it_after b.clear),
            )
        | false ↦ λ nonzero made'.
            let k_is : unchanged ≡ k = change_is _ _ _ refl made' in
            let w : Core = applied (going 0x8018) y in
            let leap : (f : Fetched) (q : ℤ) (a : ℕ) → Means f (testing true q) → away (a + 4) q ≡ 0x8018 → Leaps hard_code f a y 0x8018 w = λ f q a means e.
            makes hard_code f (testing true q) a y (going 0x8018) b.clear means (cbnz_goes q (record { code = hard_code; address = a; width = f.width }) y 0x8018 nonzero e) in
            let c = twice_jumps hard_code skips legal clock 0x8010 (half 0xB910) (half 0xB908) refl refl 0x8018 y w b.clear (leap (half 0xB910) (pos 4) 0x8010 m_B910 refl) (leap (half 0xB908) (pos 2) 0x8012 m_B908 refl) in
            subst (λ q. (u : Core) × Comes hard_code skips 4 clock (at 0x8010 y) (at (goes_on 0x8018 q.exit) u) × SameBut nothing_lost (applied q y) u) k_is (
              w,
              record { steps = c.steps; within = omega (arith, c.within); runs = c.runs },
              same_self w (ap it_after b.clear),
            )
      ] refl made;
  rests = λ y b t. absurd cc;
  halts = λ y b t made. absurd cc;
}
